-- How a call is answered: its arguments, its refusals in order, its reply (the packing is this project's own).
use Rattle.std.specs.Prelude.{ℕ, ◌%◌, ◌^◌, ◌==◌, Bool, if◌then◌else◌, List, [], ◌∷◌, slice_index}
use Rattle.thread_base.specs.Numbers.{code_of}
use Rattle.thread_base.specs.declared.Errno.{Errno}
use Rattle.thread_base.specs.declared.Errno.TheVariants.{ENOSYS}
use Rattle.posix_model.specs.State.{State, Registers}
use Rattle.posix_model.specs.Changes.{Outcome, begun, reply, await}
use Rattle.posix_model.specs.declared.Arguments.{Arguments}
use Rattle.posix_model.specs.declared.Reply.{Reply}
use Rattle.posix_model.specs.declared.Reply.TheVariants.{Values, Block}
use Rattle.posix_model.specs.declared.Wait.{Wait}

-- the arguments of a call, which stand in a0 to a3
abbrev pub arguments : Registers → Arguments
arguments r = record { a0 = slice_index r.x 10; a1 = slice_index r.x 11; a2 = slice_index r.x 12; a3 = slice_index r.x 13 }

-- the number of a call, which stands in a7
abbrev pub call_number : Registers → ℕ
call_number r = slice_index r.x 17

-- a number of ticks, or a time, in an argument: it has 32 bits (this project's own)
abbrev pub ticks_in : ℕ → ℕ
ticks_in argument = argument % 2 ^ 32

-- a call made, and its reply
pub record Called : Type 0 where
  pub outcome : Outcome
  pub reply : Reply

-- the caller is answered an error number and a value, and goes on
abbrev pub values : Outcome → ℕ → ℕ → ℕ → Called
values g t error value = record { outcome = record g { state = reply g.state t error value }; reply = Values error value }

-- a refusal changes nothing but the answer
abbrev pub refused : State → ℕ → Errno → Called
refused s t error = values (begun s) t (code_of error) 0

-- the first refusal that holds, and else the effect
abbrev pub refusing : State → ℕ → List (Bool × Errno) → Called → Called
refusing s t [] effect = effect
refusing s t (refusal ∷ refusals) effect = if refusal.0 then refused s t refusal.1 else refusing s t refusals effect

-- the caller waits
abbrev pub blocked : State → ℕ → Wait → Called
blocked s t wait = record { outcome = begun (await s t wait); reply = Block }

-- a row of the call table: what a call makes of a state, for its caller and its arguments
abbrev pub Row : Type 0
Row = State → ℕ → Arguments → Called

-- a call of the table: its number and its row
abbrev pub Entry : Type 0
Entry = ℕ × Row

-- the row of a number in a list of calls; a number that it does not have answers ENOSYS
abbrev pub row_of : List Entry → ℕ → State → ℕ → Arguments → Called
row_of [] number s t c = refused s t ENOSYS
row_of (entry ∷ entries) number s t c = if number == entry.0 then entry.1 s t c else row_of entries number s t c
