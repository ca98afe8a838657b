-- Texts in lists: words, names of files, names whose load failed (this project's own).
use Rattle.std.specs.Prelude.{ℕ, List, [], ◌∷◌, ◌++◌, Bool, if◌then◌else◌, count_by}
use Rattle.std.specs.Str.{bytes_eq}

-- how often a text stands in a list
unfoldable pub times : List ℕ → List (List ℕ) → ℕ
times text texts = count_by (bytes_eq text) texts

-- the names whose load failed, after one more load, which may have failed
abbrev pub failures_after : List (List ℕ) → List ℕ → Bool → List (List ℕ)
failures_after names name failed = if failed then names ++ name ∷ [] else names
