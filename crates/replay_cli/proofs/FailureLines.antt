-- The line of a refusal, as it is written.
use Rattle.std.proofs.Common.{◌≡◌, ◌∙◌, ap, subst, ℕ, List, [], ◌∷◌, Option, Result}
use Rattle.replay_io.specs.Writing.{Writes}
use Rattle.posix_model.specs.Lines.{line}

-- a line that was written is the line of a refusal
pub told : {T E : Type 0} (r : Result T E) (a b : Option (List ℕ)) (f g : ℕ) (written wanted : List ℕ) → Writes r a b f g written → written ≡ wanted → Writes r a b f g wanted
told r a b f g written wanted w e = subst (λ (t : List ℕ). Writes r a b f g t) e w

-- a line with an index
pub indexed : (word : List ℕ) (n i : ℕ) (wanted : List ℕ) → n ≡ i → line word (i ∷ []) ≡ wanted → line word (n ∷ []) ≡ wanted
indexed word n i wanted e w = ap (λ (k : ℕ). line word (k ∷ [])) e ∙ w
