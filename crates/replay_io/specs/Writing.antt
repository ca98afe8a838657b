-- What a sink has taken, where it tells, and when it may fail (this project's own).
use Rattle.std.specs.Prelude.{◌≡◌, ℕ, ◌++◌, ◌+◌, ◌-◌, ◌^◌, ◌≤◌, List, Option, Some, Result, Ok, Err, min}

-- where the bytes are told afterwards, they were told before, and all of the text came after them
abbrev pub Appended : Option (List ℕ) → Option (List ℕ) → List ℕ → Type 0
Appended before after text = (now : List ℕ) → after ≡ Some now → (was : List ℕ) × (before ≡ Some was) × (now ≡ was ++ text)

-- where the bytes are told afterwards, they were told before, and a front of the text came after them
abbrev pub AppendedFront : Option (List ℕ) → Option (List ℕ) → List ℕ → Type 0
AppendedFront before after text =
    (now : List ℕ) → after ≡ Some now → (was front rest : List ℕ) × (before ≡ Some was) × (now ≡ was ++ front) × (front ++ rest ≡ text)

-- a count of faults rose, or stands at its type's end
abbrev pub Rose : ℕ → ℕ → Type 0
Rose before after = min (before + 1) (2 ^ 64 - 1) ≤ after

-- the whole text was taken, and nothing failed
pub record WritesWhole (before after : Option (List ℕ)) (faults_before faults_after : ℕ) (text : List ℕ) : Type 0 where
  pub told : Appended before after text
  pub kept : faults_after ≡ faults_before

-- a front of the text was taken, and then something failed
pub record WritesFront (before after : Option (List ℕ)) (faults_before faults_after : ℕ) (text : List ℕ) : Type 0 where
  pub told : AppendedFront before after text
  pub later : faults_before ≤ faults_after
  pub rose : Rose faults_before faults_after

-- the text was written: whole at Ok, and a front of it where the sink failed
abbrev pub Writes : {T E : Type 0} → Result T E → Option (List ℕ) → Option (List ℕ) → ℕ → ℕ → List ℕ → Type 0
Writes (Ok value) before after faults_before faults_after text = WritesWhole before after faults_before faults_after text
Writes (Err error) before after faults_before faults_after text = WritesFront before after faults_before faults_after text
