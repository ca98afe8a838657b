-- When there is a first of the greatest, that it is a member, and how a walk finds it.
use Rattle.std.proofs.Common.{◌≡◌, ◌∙◌, sym, ap, refl, ℕ, true, false, is_some, List, [], ◌∷◌, ◌++◌, append_assoc, Option, Some, None, IsNone, IfSome}
use Rattle.std.proofs.lemmas.List.{append-nil}
use Rattle.thread_base.specs.Orders.{is_in}
use Rattle.thread_base.specs.Priority.{first_greatest}
use Rattle.thread_base.proofs.PriorityLemmas.{better, first_some, first_in, first_push}

pub first_empty : (key : ℕ → ℕ) (xs : List ℕ) → (IsNone (first_greatest key xs) → xs ≡ []) × (xs ≡ [] → IsNone (first_greatest key xs))
first_empty key [] = (λ h. refl, λ h. refl)
first_empty key (x ∷ xs) =
    let some = first_some key x xs in
    (λ h. absurd (let t : true ≡ false = sym (ap is_some some.1) ∙ h in cc), λ e. absurd (let f : x ∷ xs ≡ [] = e in cc))

held : (key : ℕ → ℕ) (xs : List ℕ) (o : Option ℕ) → first_greatest key xs ≡ o → IfSome o (λ t. is_in t xs ≡ true)
held key xs None e = tt
held key xs (Some t) e = first_in key xs t e

pub first_member : (key : ℕ → ℕ) (xs : List ℕ) → IfSome (first_greatest key xs) (λ t. is_in t xs ≡ true)
first_member key xs = held key xs (first_greatest key xs) refl

-- the best of a thread so far and those that follow
abbrev pub best_over : (ℕ → ℕ) → Option ℕ → List ℕ → Option ℕ
best_over key best [] = best
best_over key best (x ∷ xs) = best_over key (better key best x) xs

over_front : (key : ℕ → ℕ) (xs ys : List ℕ) → best_over key (first_greatest key xs) ys ≡ first_greatest key (xs ++ ys)
over_front key xs [] = ap (first_greatest key) (sym (append-nil xs))
over_front key xs (y ∷ ys) =
    ap (λ o. best_over key o ys) (sym (first_push key xs y))
    ∙ over_front key (xs ++ y ∷ []) ys
    ∙ ap (first_greatest key) (append_assoc xs (y ∷ []) ys)

pub over_all : (key : ℕ → ℕ) (xs : List ℕ) → best_over key None xs ≡ first_greatest key xs
over_all key xs = over_front key [] xs
