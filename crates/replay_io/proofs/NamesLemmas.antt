-- How often a text stands in a list, and what stands last under a name, after one more.
use Rattle.std.proofs.Common.{◌≡◌, ◌≢◌, ◌∙◌, ℕ, ◌+◌, ◌≤◌, arith, List, [], ◌∷◌, ◌++◌, Bool, true, false, cond}
use Rattle.std.proofs.Common.{refl, sym, ap, Some, reverse, add-zero, zero-add}
use Rattle.std.specs.List.{count_by, find}
use Rattle.std.specs.Option.{option_map}
use Rattle.std.specs.Str.{bytes_eq}
use Rattle.std.proofs.lemmas.Bool.{false_from_ne_true}
use Rattle.std.proofs.lemmas.List.{reverse-append}
use Rattle.std.proofs.lemmas.List.Sums.{sum_by-append}
use Rattle.std.proofs.lemmas.Slice.Eq.{bytes_eq-Decides}
use Rattle.replay_io.specs.Names.{times, failures_after}
use Rattle.replay_io.specs.Shelf.{last_under}

bytes_eq-self : (xs : List ℕ) → bytes_eq xs xs ≡ true
bytes_eq-self xs = (bytes_eq-Decides xs xs).1 refl

bytes_eq-other : (xs ys : List ℕ) → xs ≢ ys → bytes_eq xs ys ≡ false
bytes_eq-other xs ys h = false_from_ne_true (bytes_eq xs ys) (λ e. h ((bytes_eq-Decides xs ys).0 e))

-- a count over a list with one more at its end
count_last : (p : List ℕ → Bool) (x : List ℕ) (xs : List (List ℕ))
    → count_by p (xs ++ x ∷ []) ≡ count_by p xs + cond (p x) 1 0
count_last p x xs =
    sum_by-append (λ n. cond (p n) 1 0) xs (x ∷ []) ∙ ap (λ n. count_by p xs + n) (zero-add (cond (p x) 1 0))

-- a text stands once more in a list to which it was added
pub times-added : (n : List ℕ) (names : List (List ℕ)) → times n (names ++ n ∷ []) ≡ times n names + 1
unfolding times
times-added n names =
    count_last (bytes_eq n) n names ∙ ap (λ b. count_by (bytes_eq n) names + cond b 1 0) (bytes_eq-self n)

-- and each other text as often as before
pub times-added_other : (n m : List ℕ) (names : List (List ℕ)) → n ≢ m → times n (names ++ m ∷ []) ≡ times n names
unfolding times
times-added_other n m names h =
    count_last (bytes_eq n) m names
    ∙ ap (λ b. count_by (bytes_eq n) names + cond b 1 0) (bytes_eq-other n m h)
    ∙ add-zero (count_by (bytes_eq n) names)

-- after a load, whether it failed or not, each other name has failed as often as before
pub times-after_other : (n m : List ℕ) (names : List (List ℕ)) (failed : Bool)
    → n ≢ m → times n (failures_after names m failed) ≡ times n names
times-after_other n m names true h = times-added_other n m names h
times-after_other n m names false h = refl

-- and this name no less often
pub times-after_later : (n : List ℕ) (names : List (List ℕ)) (failed : Bool)
    → times n names ≤ times n (failures_after names n failed)
times-after_later n names true = let more = times-added n names in omega arith
times-after_later n names false = omega arith

pub ruleset counts = (times-added, times-added_other)

-- what stands last under a name, by whether the last entry has that name
last_first : (held : List (List ℕ × List ℕ)) (name : List ℕ) (e : List ℕ × List ℕ) (b : Bool)
    → bytes_eq e.0 name ≡ b → last_under (held ++ e ∷ []) name ≡ cond b (Some e.1) (last_under held name)
unfolding last_under
last_first held name e b h =
    ap (λ l. option_map (λ e. e.1) (find (λ e. bytes_eq e.0 name) l)) (reverse-append held (e ∷ [])) ∙ first_by b h
  where
    first_by : (b : Bool) → bytes_eq e.0 name ≡ b
        → option_map (λ e. e.1) (cond (bytes_eq e.0 name) (Some e) (find (λ e. bytes_eq e.0 name) (reverse held)))
        ≡ cond b (Some e.1) (last_under held name)
    first_by true h = rw h refl
    first_by false h = rw h refl

-- a name that was added has its bytes
pub last_under-added : (held : List (List ℕ × List ℕ)) (name bytes : List ℕ)
    → last_under (held ++ (name, bytes) ∷ []) name ≡ Some bytes
last_under-added held name bytes = last_first held name (name, bytes) true (bytes_eq-self name)

-- and each other name what it had
pub last_under-added_other : (held : List (List ℕ × List ℕ)) (n name bytes : List ℕ)
    → n ≢ name → last_under (held ++ (name, bytes) ∷ []) n ≡ last_under held n
last_under-added_other held n name bytes h =
    last_first held n (name, bytes) false (bytes_eq-other name n (λ e. h (sym e)))

pub ruleset added = (last_under-added, last_under-added_other)
