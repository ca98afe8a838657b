-- Small cases of the definitions, which the checker computes.
use Rattle.std.specs.Prelude.{ℕ, ◌≡◌, true, false, List, [], ◌∷◌, ◌++◌, codes, replicate, slice_index_or, Option, Some, None}
use Rattle.thread_base.specs.Maps.{put}
use Rattle.thread_base.specs.Priority.{effective, first_greatest}
use Rattle.rv_exec.specs.declared.Special.TheVariants.{Handler, Cleanup, Start}
use Rattle.posix_model.specs.State.{State, Thread, Standing, Absent, Ready, Waits, Ended, no_thread, none_pending, no_mutexes, no_conditions, no_keys, default_actions}
use Rattle.posix_model.specs.Scheduling.{chosen}
use Rattle.posix_model.specs.Threads.{first_registers}
use Rattle.posix_model.specs.Leaving.{end_of_thread}
use Rattle.posix_model.specs.Calls.{Called, create, join, detach, yield, call_row}
use Rattle.posix_model.specs.Instructions.{returned}
use Rattle.posix_model.specs.Reports.{nothing_told}
use Rattle.posix_model.specs.Changes.{set_thread, in_exit, with_answer}
use Rattle.posix_model.specs.Lines.{lines, run_line, end_lines}
use Rattle.posix_model.specs.declared.Arguments.{Arguments}
use Rattle.posix_model.specs.declared.Ending.TheVariants.{Exit as ExitWith}
use Rattle.posix_model.specs.declared.Head.TheVariants.{Call, Ret, Fault}
use Rattle.posix_model.specs.declared.Reply.{Reply}
use Rattle.posix_model.specs.declared.Reply.TheVariants.{Values, Block, Exit, End}
use Rattle.posix_model.specs.declared.Report.{Report}
use Rattle.posix_model.specs.declared.Wait.TheVariants.{Join}

-- threads 1 to 4, each of which waits for the next, and thread 5, which waits for none
abbrev pub chain_own : ℕ → ℕ
chain_own = put (put (put (put (put (λ t. 0) 1 20) 2 5) 3 8) 4 3) 5 12

-- a chain of waits
abbrev pub chain_edge : ℕ → Option ℕ
chain_edge = put (put (put (λ t. None) 1 (Some 2)) 2 (Some 3)) 3 (Some 4)

-- the last of a chain has the priority of the first, and runs before a thread of more than its own
abbrev pub Chain : Type 0
Chain =
    (effective chain_own chain_edge 1 ≡ 20) × (effective chain_own chain_edge 4 ≡ 20) × (effective chain_own chain_edge 5 ≡ 12)
    × (first_greatest (effective chain_own chain_edge) (5 ∷ 4 ∷ []) ≡ Some 4)

-- threads 2 and 3 wait for each other, and thread 4 for thread 2
abbrev pub circle_own : ℕ → ℕ
circle_own = put (put (put (λ t. 0) 2 8) 3 10) 4 20

-- a circle of waits, and perhaps one more into it
abbrev pub circle_edge : Option ℕ → ℕ → Option ℕ
circle_edge third = put (put (put (λ t. None) 2 (Some 3)) 3 (Some 2)) 4 third

-- both of a circle have the priority of a thread that waits for one of them, and without it the greater of their own
abbrev pub Circle : Type 0
Circle =
    (effective circle_own (circle_edge (Some 2)) 2 ≡ 20) × (effective circle_own (circle_edge (Some 2)) 3 ≡ 20)
    × (effective circle_own (circle_edge None) 2 ≡ 10) × (effective circle_own (circle_edge None) 3 ≡ 10)
    × (effective circle_own (circle_edge None) 4 ≡ 20)

-- of equal priorities the first of the ready list runs
abbrev pub FirstOfEquals : Type 0
FirstOfEquals = (first_greatest circle_own (3 ∷ 2 ∷ []) ≡ Some 3) × (first_greatest (λ t. 8) (3 ∷ 2 ∷ 4 ∷ []) ≡ Some 3) × (first_greatest (λ t. 8) [] ≡ None)

-- a thread of a standing
abbrev pub thread_with : Standing → Thread
thread_with standing = record no_thread { registers = first_registers 65620 0 131072; base = 8; standing = standing }

-- threads 1, 2, 5 and 6 are ready, 3 has ended with 7, 4 waits for the end of 2, and 5 is detached
abbrev pub six_threads : State
six_threads = record {
  threads =
      put (put (put (put (put (put (λ t. no_thread) 1 (thread_with Ready)) 2 (thread_with Ready)) 3 (thread_with (Ended 7)))
      4 (thread_with (Waits (Join 2)))) 5 (record (thread_with Ready) { detached = true })) 6 (thread_with Ready);
  ready = 1 ∷ 2 ∷ 5 ∷ 6 ∷ [];
  mutexes = no_mutexes;
  conditions = no_conditions;
  keys = no_keys;
  actions = default_actions;
  pending = none_pending;
  now = 0;
  alarm = None;
  input = [];
  is_input_over = false;
  memory = [];
  over = None;
}

-- four arguments
abbrev pub with_arguments : ℕ → ℕ → ℕ → ℕ → Arguments
with_arguments a0 a1 a2 a3 = record { a0 = a0; a1 = a1; a2 = a2; a3 = a3 }

-- the reply to a call
abbrev pub reply_of : Called → Reply
reply_of called = called.reply

-- the ready list after a call
abbrev pub ready_after : Called → List ℕ
ready_after called = called.outcome.state.ready

-- what a thread is doing after a call
abbrev pub standing_after : Called → ℕ → Standing
standing_after called t = (called.outcome.state.threads t).standing

-- create gives the least number, after all others; a thread of greater priority runs at once, and the
-- creator keeps its place
abbrev pub Create : Type 0
Create =
    let plain : Called = create six_threads 1 (with_arguments 65796 7 131072 0) in
    let urgent : Called = create six_threads 1 (with_arguments 65796 7 131072 131340) in
    (reply_of plain ≡ Values 0 7) × (ready_after plain ≡ 1 ∷ 2 ∷ 5 ∷ 6 ∷ 7 ∷ []) × ((plain.outcome.state.threads 7).base ≡ 8)
    × (chosen plain.outcome.state ≡ Some 1) × ((urgent.outcome.state.threads 7).base ≡ 12) × (chosen urgent.outcome.state ≡ Some 7)
    × (ready_after urgent ≡ 1 ∷ 2 ∷ 5 ∷ 6 ∷ 7 ∷ [])

-- the state in which every number is in use
abbrev pub no_number_left : State
no_number_left = record six_threads { threads = λ t. thread_with Ready }

-- the refusals of create, the first that holds
abbrev pub CreateRefusals : Type 0
CreateRefusals =
    (reply_of (create six_threads 1 (with_arguments 65797 0 131072 0)) ≡ Values 22 0)
    × (reply_of (create six_threads 1 (with_arguments 65796 0 131080 0)) ≡ Values 22 0)
    × (reply_of (create six_threads 1 (with_arguments 65796 0 131072 32)) ≡ Values 22 0)
    × (reply_of (create six_threads 1 (with_arguments 65796 0 131072 131840)) ≡ Values 22 0)
    × (reply_of (create six_threads 1 (with_arguments 65796 0 131072 768)) ≡ Values 0 7)
    × (reply_of (create no_number_left 1 (with_arguments 65797 0 131072 0)) ≡ Values 22 0)
    × (reply_of (create no_number_left 1 (with_arguments 65796 0 131072 0)) ≡ Values 11 0)

-- a join of a thread that has ended takes its value and frees its number; another waits
abbrev pub Joins : Type 0
Joins =
    let taken : Called = join six_threads 1 (with_arguments 3 0 0 0) in
    let waits : Called = join six_threads 1 (with_arguments 6 0 0 0) in
    (reply_of taken ≡ Values 0 7) × (standing_after taken 3 ≡ Absent) × (ready_after taken ≡ 1 ∷ 2 ∷ 5 ∷ 6 ∷ [])
    × (reply_of waits ≡ Block) × (standing_after waits 1 ≡ Waits (Join 6)) × (ready_after waits ≡ 2 ∷ 5 ∷ 6 ∷ [])

-- the refusals of join, the first that holds
abbrev pub JoinRefusals : Type 0
JoinRefusals =
    (reply_of (join six_threads 5 (with_arguments 5 0 0 0)) ≡ Values 35 0)
    × (reply_of (join six_threads 9 (with_arguments 9 0 0 0)) ≡ Values 35 0)
    × (reply_of (join six_threads 1 (with_arguments 9 0 0 0)) ≡ Values 3 0)
    × (reply_of (join six_threads 1 (with_arguments 0 0 0 0)) ≡ Values 3 0)
    × (reply_of (join six_threads 1 (with_arguments 5 0 0 0)) ≡ Values 22 0)
    × (reply_of (join six_threads 1 (with_arguments 2 0 0 0)) ≡ Values 22 0)

-- a detach keeps a thread that goes on and frees the number of one that has ended
abbrev pub Detaches : Type 0
Detaches =
    let going : Called = detach six_threads 1 (with_arguments 6 0 0 0) in
    let done : Called = detach six_threads 1 (with_arguments 3 0 0 0) in
    (reply_of going ≡ Values 0 0) × ((going.outcome.state.threads 6).detached ≡ true) × (standing_after going 6 ≡ Ready)
    × (reply_of done ≡ Values 0 0) × (standing_after done 3 ≡ Absent)
    × (reply_of (detach six_threads 1 (with_arguments 9 0 0 0)) ≡ Values 3 0)
    × (reply_of (detach six_threads 1 (with_arguments 5 0 0 0)) ≡ Values 22 0)
    × (reply_of (detach six_threads 1 (with_arguments 2 0 0 0)) ≡ Values 22 0)

-- a yield goes after the others of its priority
abbrev pub Yields : Type 0
Yields =
    let yielded : Called = yield six_threads 1 (with_arguments 0 0 0 0) in
    (reply_of yielded ≡ Values 0 0) × (ready_after yielded ≡ 2 ∷ 5 ∷ 6 ∷ 1 ∷ []) × (chosen yielded.outcome.state ≡ Some 2)

-- the end of a thread answers its joiner and frees its number; a detached one is free at once; another keeps
-- its value; the last one ends the process
abbrev pub Ends : Type 0
Ends =
    ((end_of_thread six_threads 2 5).state.ready ≡ 1 ∷ 5 ∷ 6 ∷ 4 ∷ [])
    × (((end_of_thread six_threads 2 5).state.threads 2).standing ≡ Absent)
    × ((end_of_thread six_threads 2 5).report.done ≡ 8)
    × (slice_index_or (end_of_thread six_threads 2 5).report.values 3 (9, 9) ≡ (0, 5))
    × (((end_of_thread six_threads 5 5).state.threads 5).standing ≡ Absent)
    × (((end_of_thread six_threads 6 5).state.threads 6).standing ≡ Ended 5)
    × ((end_of_thread six_threads 6 5).report.gone_value ≡ 5)
    × ((end_of_thread six_threads 6 5).state.over ≡ None)
    × ((end_of_thread (record six_threads { threads = put (λ t. no_thread) 1 (thread_with Ready) }) 1 5).state.over ≡ Some (ExitWith 0))

-- a number that the call table does not have answers ENOSYS
abbrev pub Unknown : Type 0
Unknown =
    (reply_of (call_row six_threads 1 261 (with_arguments 0 0 0 0)) ≡ Values 0 0)
    × (reply_of (call_row six_threads 1 17 (with_arguments 0 0 0 0)) ≡ Values 38 0)
    × (reply_of (call_row six_threads 1 295 (with_arguments 0 0 0 0)) ≡ Values 38 0)

-- thread 1 is in its exit
abbrev pub in_its_exit : State
in_its_exit = set_thread six_threads 1 (in_exit (thread_with Ready) 5)

-- a special return that is not due faults
abbrev pub NotDue : Type 0
NotDue =
    ((returned six_threads 1 Handler).report.head ≡ Fault 11)
    × ((returned six_threads 1 Cleanup).report.head ≡ Fault 11)
    × ((returned in_its_exit 1 Start).report.head ≡ Fault 11)

-- the report of a call of a thread
abbrev pub call_report : ℕ → ℕ → List ℕ → Reply → Report
call_report t number arguments reply = record nothing_told { tid = t; head = Call number arguments reply }

-- the lines of a program in which a thread yields, is joined and ends
abbrev pub Lines : Type 0
Lines =
    (run_line 1 ++ lines (call_report 1 256 (65796 ∷ 7 ∷ 131072 ∷ 0 ∷ []) (Values 0 2)) [] ≡ codes "run 1\ncall 1 256 65796 7 131072 0 = 0 2\n")
    × (lines (call_report 1 258 (2 ∷ 0 ∷ 0 ∷ 0 ∷ []) Block) [] ≡ codes "call 1 258 2 0 0 0 = block\n")
    × (lines (call_report 2 257 (5 ∷ 0 ∷ 0 ∷ 0 ∷ []) Exit) [] ≡ codes "call 2 257 5 0 0 0 = exit\n")
    × (lines (with_answer (record nothing_told { tid = 2; head = Ret Cleanup; gone = true; gone_value = 5 }) 1 0 5) [] ≡ codes "ret 2 cleanup\ngone 2 5\ndone 1 0 5\n")
    × (lines (call_report 1 93 (0 ∷ 0 ∷ 0 ∷ 0 ∷ []) End) [] ++ end_lines (replicate 32 0) (ExitWith 0) ≡ codes "call 1 93 0 0 0 0 = end\nend exit 0\n")
