-- What a move tells can be written: each small change keeps that, and so do all that are left.
use Rattle.std.proofs.Common.{◌≡◌, ap, subst, sym, refl, ℕ, Bool, true, false, List, [], ◌∷◌, Option, Some, None, arith}
use Rattle.std.specs.Prelude.{if◌then◌else◌}
use Rattle.thread_base.specs.Holders.{is_free}
use Rattle.thread_base.specs.Actions.{ignores}
use Rattle.thread_base.specs.Maps.{put}
use Rattle.thread_base.specs.declared.action.Action.{Action}
use Rattle.posix_model.specs.State.{State, Mutex}
use Rattle.posix_model.specs.Deliveries.{left_of}
use Rattle.posix_model.specs.Arrivals.{dropped}
use Rattle.posix_model.specs.SignalCalls.{forgotten, with_action}
use Rattle.posix_model.specs.Changes.{Outcome}
use Rattle.posix_model.specs.Mutexes.{give, requeue, retake_of}
use Rattle.posix_model.specs.Leaving.{over_with_last, without_thread}
use Rattle.posix_model.specs.Threads.{some_live}
use Rattle.posix_model.specs.Reports.{nothing_told}
use Rattle.posix_model.specs.declared.Ending.TheVariants.{Exit}
use Rattle.posix_model.specs.declared.Report.{Report}
use Rattle.posix_model.specs.declared.RetakeReply.{RetakeReply}
use Rattle.posix_model.specs.declared.RetakeReply.TheVariants.{Answer as AnswerBack, Cancel}
use Rattle.trace_text.specs.Output.{IsReadable}
use Rattle.kernel_state.specs.Changing.{Can, change_by, thread_change_by, clock_change_by, remains_of, owed, AllCan}
use Rattle.kernel_state.specs.declared.change.Change.{Change}
use Rattle.kernel_state.specs.declared.change.Change.TheVariants.{Thread, Signal, Clock, Retake, Output}
use Rattle.kernel_state.specs.declared.change.ClockChange.{ClockChange}
use Rattle.kernel_state.specs.declared.change.ClockChange.TheVariants.{Advance, Set, Ring}
use Rattle.kernel_state.specs.declared.change.SignalChange.TheVariants.{Act}
use Rattle.kernel_state.specs.declared.change.ThreadChange.{ThreadChange}
use Rattle.kernel_state.specs.declared.change.ThreadChange.TheVariants.{End}

-- what an outcome tells can be written
abbrev Readable : Outcome → Type 0
Readable g = IsReadable g.report g.state.memory

-- where nothing is told, nothing has to be read
pub untold_readable : (r : Report) (memory : List ℕ) → r ≡ nothing_told → IsReadable r memory
unfolding nothing_told
untold_readable r memory e h = absurd (let none : r.out_len ≡ 0 = ap (λ (x : Report). x.out_len) e in omega (arith, none, h))

over_memory : (s : State) → (over_with_last s).memory ≡ s.memory
over_memory s = by (some_live s)
  where
    by : (b : Bool) → (if b then s else record s { over = Some (Exit 0) }).memory ≡ s.memory
    by true = refl
    by false = refl

thread_readable : (change : ThreadChange) (t : ℕ) (g : Outcome) → Readable g → Readable (thread_change_by change t g)
thread_readable (End value joined) t g h =
    subst (IsReadable g.report) (sym (over_memory (without_thread g.state t (remains_of (g.state.threads t) value joined)))) h
thread_readable change t g h = h

give_readable : (g : Outcome) (m : ℕ) (mutex : Mutex) (t count : ℕ) (reply : RetakeReply) → Readable g → Readable (give g m mutex t count reply)
give_readable g m mutex t count (AnswerBack error) h = h
give_readable g m mutex t count Cancel h = h

retake_readable : (g : Outcome) (m : ℕ) (o : Option Mutex) (t count : ℕ) (reply : RetakeReply) → Readable g → Readable (retake_of g m o t count reply)
retake_readable g m None t count reply h = h
retake_readable g m (Some mutex) t count reply h = by (is_free mutex.holder)
  where
    by : (b : Bool) → Readable (if b then give g m mutex t count reply else requeue g m mutex t count reply)
    by true = give_readable g m mutex t count reply h
    by false = h

acted_readable : (action : Action) (sig : ℕ) (g : Outcome) → Readable g → Readable (with_action g sig action)
acted_readable action sig g h = by (ignores action sig)
  where
    by : (b : Bool)
        → Readable (if b
        then dropped (record g { state = record g.state { actions = put g.state.actions sig action; pending = forgotten sig g.state.pending } }) sig (left_of g.state sig)
        else record g { state = record g.state { actions = put g.state.actions sig action } })
    by true = h
    by false = h

clock_readable : (change : ClockChange) (g : Outcome) → Readable g → Readable (clock_change_by change g)
clock_readable Advance g h = h
clock_readable (Set alarm) g h = h
clock_readable Ring g h = h

change_readable : (change : Change) (g : Outcome) → Can change g → Readable g → Readable (change_by change g)
change_readable (Thread t change) g can h = thread_readable change t g h
change_readable (Retake t m count reply) g can h = retake_readable g m (g.state.mutexes m) t count reply h
change_readable (Signal sig (Act action)) g can h = acted_readable action sig g h
change_readable (Clock change) g can h = clock_readable change g h
change_readable (Output descriptor buffer size) g can h = λ some. can
change_readable change g can h = h

pub owed_readable : (g : Outcome) (changes : List Change) → AllCan g changes → IsReadable g.report g.state.memory → IsReadable (owed g changes).report (owed g changes).state.memory
owed_readable g [] can h = h
owed_readable g (change ∷ rest) can h = owed_readable (change_by change g) rest can.1 (change_readable change g can.0 h)
