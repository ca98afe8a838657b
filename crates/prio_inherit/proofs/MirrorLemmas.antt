-- A list that mirrors a map still does after the same change of both.
use Rattle.std.proofs.Common.{◌≡◌, ◌∙◌, ℕ, List, sym, set, length, ◌+◌, ◌<◌}
use Rattle.thread_base.specs.Maps.{put, numbered}
use Rattle.thread_base.proofs.MapLemmas.{numbered_set}

pub mirror_set : {A : Type 0} (none : A) (m : ℕ → A) (xs : List A) (i t : ℕ) (x : A) → ((u : ℕ) → m u ≡ numbered none xs u) → i + 1 ≡ t → i < length xs
    → (u : ℕ) → put m t x u ≡ numbered none (set xs i x) u
mirror_set none m xs i t x same e low = λ u. (λ k. put (λ v. same v k) t x u) ∙ sym (λ k. numbered_set none xs i t x e low k u)
