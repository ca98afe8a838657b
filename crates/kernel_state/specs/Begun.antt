-- What a move may begin on, and that its small changes were noted.
use Rattle.std.specs.Prelude.{ℕ, ◌≡◌, ◌≤◌, ◌<◌, ◌^◌, slice_index, false, List, length, Some, None}
use Rattle.thread_base.specs.Orders.{is_nil}
use Rattle.posix_model.specs.State.{State}
use Rattle.posix_model.specs.Weights.{pending_in_all}
use Rattle.posix_model.specs.Good.{IsGood}
use Rattle.posix_model.specs.Changes.{Outcome}
use Rattle.posix_model.specs.Scheduling.{chosen}
use Rattle.posix_model.specs.declared.Arguments.{Arguments}
use Rattle.posix_model.specs.Reports.{nothing_told}
use Rattle.kernel_state.specs.View.{view, outcome}
use Rattle.kernel_state.specs.Changing.{Can, change_by, IsListed, owed, AllCan}
use Rattle.kernel_state.specs.declared.change.Change.{Change}
use Rattle.kernel_state.specs.Kernels.{KernelState, remaining, IsIdle, owed_by}
use Rattle.kernel_state.specs.Moves.{InProgress}

-- what pends is far below the limit of its sum, and the time below that of a call's answer
pub record HasRoom (s : State) : Type 0 where
  pub pends : pending_in_all s < 2 ^ 62
  pub time : s.now < 2 ^ 31

-- an instruction of the thread may begin a move: none is in progress, the process is not over, what pends and the time leave room for
-- more, and the thread is the chosen one
pub record CanBegin {R : Type 0} (order : R → List ℕ) (k : KernelState R) (t : ℕ) : Type 0 where
  pub idle : IsIdle k
  pub going_on : (view order k.tables).over ≡ None
  pub few : HasRoom (view order k.tables)
  pub first : chosen (view order k.tables) ≡ Some t

-- what small changes are noted on: no move is in progress and nothing is told, the state is good, what pends and the time
-- leave room for more, and the thread is ready
pub record CanNote {R : Type 0} (order : R → List ℕ) (k : KernelState R) (t : ℕ) : Type 0 where
  pub idle : IsIdle k
  pub untold : k.tables.report ≡ nothing_told
  pub good : IsGood (view order k.tables)
  pub listed : IsListed (view order k.tables) t
  pub few : HasRoom (view order k.tables)

-- small changes were noted, if any, and nothing else: together they make so much of a move, each can be made in
-- its turn, none is made yet, and they are 512 at most
pub record HasNoted {R : Type 0} (order : R → List ℕ) (k q : KernelState R) (g : Outcome) : Type 0 where
  pub owed : owed (outcome order k.tables) (remaining q.rest) ≡ g
  pub can : AllCan (outcome order k.tables) (remaining q.rest)
  pub first : q.rest.next ≡ 0
  pub few : length q.rest.noted.items ≤ 512
  pub main : k.main ≡ None
  pub others : q ≡ record k { rest = q.rest }

-- the same, and one small change at least was noted
pub record HasNotedSome {R : Type 0} (order : R → List ℕ) (k q : KernelState R) (g : Outcome) : Type 0 where
  pub begun : is_nil (remaining q.rest) ≡ false
  pub so_far : HasNoted order k q g

-- one small change was noted after those that were noted before
abbrev pub NotesMore : {R : Type 0} → (R → List ℕ) → KernelState R → KernelState R → Change → Type 0
NotesMore order k q change = (first : KernelState _) (g : Outcome) → HasNoted order first k g → Can change g → HasNotedSome order first q (change_by change g)

-- a move can begin of the small changes that were noted: there are some, each can be made in its turn, and the state
-- is good when all are made
pub record CanStart {R : Type 0} (order : R → List ℕ) (k : KernelState R) : Type 0 where
  pub idle : k.main ≡ None
  pub some : is_nil (remaining k.rest) ≡ false
  pub can : AllCan (outcome order k.tables) (remaining k.rest)
  pub good : IsGood (owed (outcome order k.tables) (remaining k.rest)).state

-- a move of one small change at least and 512 at most was begun and nothing else: what it owes the machine, with its
-- main line, is one change of the definitions, each of its small changes can be made in its turn, and
-- the tables stay
pub record IsBegun {R : Type 0} (order : R → List ℕ) (k q : KernelState R) (g : Outcome) : Type 0 where
  pub main : InProgress q
  pub some : is_nil (remaining q.rest) ≡ false
  pub few : length q.rest.noted.items ≤ 512
  pub owed : owed_by order q ≡ g
  pub can : AllCan (outcome order q.tables) (remaining q.rest)
  pub tables : q.tables ≡ k.tables
  pub settings : q.settings ≡ k.settings
  pub outside : q.outside ≡ k.outside

-- the arguments of a call by their names
abbrev pub arguments_of : List ℕ → Arguments
arguments_of args = record { a0 = slice_index args 0; a1 = slice_index args 1; a2 = slice_index args 2; a3 = slice_index args 3 }
