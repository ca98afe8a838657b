-- One write after another, to a writer that may tell what it holds.
use Rattle.std.proofs.Common.{◌≡◌, ◌∙◌, ℕ, ◌-◌, List, ◌++◌, Option, length, take, drop, ap, append_assoc, take-append-drop}
use Rattle.std.proofs.KnownBytes.{Appends-trans}
use Rattle.std.proofs.lemmas.List.{take_rest}
use Rattle.std.specs.Io.KnownBytes.{Appends}

-- a front of all was written, and then n bytes of the rest
pub one_more_write : (a b c : Option (List ℕ)) (done rest all : List ℕ) (n : ℕ)
    → done ++ rest ≡ all
    → Appends a b done
    → Appends b c (take n rest)
    → (now : List ℕ) × (now ++ take (length rest - n) (drop n rest) ≡ all) × Appends a c now
one_more_write a b c done rest all n e p q = (
  done ++ take n rest,
  ap (λ l. (done ++ take n rest) ++ l) (take_rest rest n)
      ∙ append_assoc done (take n rest) (drop n rest)
      ∙ ap (λ l. done ++ l) (take-append-drop n rest)
      ∙ e,
  Appends-trans a b c done (take n rest) p q,
)
