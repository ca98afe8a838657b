-- Edges that lead to a thread's number, after a change of one.
use Rattle.std.proofs.Common.{◌≡◌, ℕ, ◌∙◌, sym, subst, arith, Option, Some, None, List, length, set, ◌+◌, ◌<◌, replicate}
use Rattle.std.proofs.lemmas.Bool.Decides.{nat_tests}
use Rattle.thread_base.specs.Numbers.{IsTid}
use Rattle.thread_base.specs.Maps.{put, numbered}
use Rattle.thread_base.specs.Priority.{AreWithin}
use Rattle.thread_base.proofs.MapLemmas.{numbered_set, numbered_blank}

-- the edges of a table without any
pub within_blank : AreWithin (numbered None (replicate 64 None))
within_blank = λ t u e. absurd (let h : None ≡ Some u = sym (λ i. numbered_blank {A = Option ℕ} None 64 i t) ∙ e in cc)

pub within_put : (edge : ℕ → Option ℕ) (t : ℕ) (to : Option ℕ) → AreWithin edge → ((u : ℕ) → to ≡ Some u → IsTid u) → AreWithin (put edge t to)
unfolding put
within_put edge t to inside range = λ v u e. grind (arith, nat_tests)

pub within_set : (edges : List (Option ℕ)) (i t : ℕ) (to : Option ℕ) → AreWithin (numbered None edges) → ((u : ℕ) → to ≡ Some u → IsTid u)
    → i + 1 ≡ t → i < length edges → AreWithin (numbered None (set edges i to))
within_set edges i t to inside range e h =
    subst (λ m. AreWithin m) (sym (numbered_set None edges i t to e h)) (within_put (numbered None edges) t to inside range)
