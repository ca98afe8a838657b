-- What one instruction of the thread in place comes to.
use Rattle.std.proofs.Common.{◌≡◌, ◌≤◌, ◌∙◌, ap, sym, refl, subst, arith, ℕ, true, false, List, [], ◌∷◌, Option, Some, None, length, drop}
use Rattle.std.specs.Prelude.{if◌then◌else◌}
use Rattle.std.specs.Prelude.{Bool}
use Rattle.thread_base.specs.Orders.{is_nil}
use Rattle.posix_model.specs.declared.Report.{Report}
use Rattle.trace_text.specs.Output.{IsReadable}
use Rattle.std.proofs.lemmas.List.{length-drop}
use Rattle.rv_exec.specs.Meaning.{Effect}
use Rattle.rv_exec.specs.declared.Event.{Event}
use Rattle.rv_exec.specs.declared.Event.TheVariants.{Next, Ecall, Fault, Return}
use Rattle.rv_exec.specs.declared.Special.{Special}
use Rattle.rv_exec.specs.declared.Special.TheVariants.{Handler, Cleanup, Start}
use Rattle.posix_model.specs.State.{State, Frame, Phase, Normal, Leaving, is_of_handler}
use Rattle.posix_model.specs.Scheduling.{chosen}
use Rattle.posix_model.specs.Changes.{Outcome, begun, set_thread}
use Rattle.posix_model.specs.Deliveries.{next_delivery, faulted}
use Rattle.posix_model.specs.Instructions.{instruction, by_effect, returned, handler_returned, cleanup_returned, start_returned, told_return, segmentation_fault}
use Rattle.posix_model.specs.Reports.{nothing_told}
use Rattle.posix_model.specs.Calls.{call, call_row}
use Rattle.posix_model.specs.declared.Arguments.{Arguments}
use Rattle.posix_model.specs.declared.Head.{Head}
use Rattle.posix_model.specs.declared.Head.TheVariants.{Quiet, Call, Ret, Fault as FaultHead}
use Rattle.trace_text.specs.Counting.{is_arrival, is_delivery}
use Rattle.kernel_state.specs.View.{view, outcome}
use Rattle.kernel_state.specs.Changing.{owed}
use Rattle.kernel_state.specs.Executing.{HasExecuted, effect_at}
use Rattle.kernel_state.specs.Begun.{CanBegin, HasRoom, IsBegun}
use Rattle.kernel_state.specs.declared.change.Change.{Change}
use Rattle.kernel_state.specs.Kernels.{KernelState, remaining, IsEmpty, IsIdle, told}
use Rattle.kernel_state.specs.declared.kernel.MainLine.{MainLine}
use Rattle.kernel_state.specs.declared.kernel.MainLine.TheVariants.{OfThread, Arrival}
use Rattle.kernel_state.specs.declared.tables.Tables.{Tables}
use Rattle.dispatcher.specs.Arriving.{is_empty}
use Rattle.process_engine.specs.Engine.{HasTurn}
use Rattle.process_engine.specs.Advancing.{HasGoneOn, HasBegun, BeginsInstruction}
use Rattle.posix_model.proofs.PlainLemmas.{plain_instructions_leave}
use Rattle.process_engine.proofs.ReadableLemmas.{untold_readable, owed_readable}

-- an instruction of the thread in place, which has its turn, up to what its event asks for
module _ {R : Type 0} (order : R → List ℕ) (k q : KernelState R) (idle : IsIdle k) (turn : HasTurn order k) (placed : q.tables.records.placed ≡ k.tables.records.placed) (others : q ≡ record k { tables = q.tables }) where
  abbrev s : State
  s = view order k.tables

  abbrev t : ℕ
  t = k.tables.records.placed

  still_idle : IsIdle q
  still_idle = record {
    main = ap (λ (x : KernelState R). x.main) others ∙ idle.main;
    rest = subst IsEmpty (sym (ap (λ (x : KernelState R). x.rest) others)) idle.rest;
  }

  -- a plain one
  pub goes_on : HasExecuted (view order k.tables) k.tables.records.placed Next (view order q.tables) → HasGoneOn order k q
  unfolding instruction
  goes_on h =
      let registers = h.0 in
      let went = ap (by_effect s t) h.2 in
      record {
        state = h.3 ∙ sym (ap (λ (g : Outcome). g.state) went);
        tells = ap (λ (g : Outcome). g.report) went;
        rest = still_idle;
        turn = record {
          nothing_waits = ap (λ (x : KernelState R). is_empty x.outside) others ∙ turn.nothing_waits;
          going_on = ap (λ (x : State). x.over) h.3 ∙ turn.going_on;
          settled = ap next_delivery h.3 ∙ (plain_instructions_leave s t h.0 h.1).1 ∙ turn.settled;
          first = ap chosen h.3 ∙ (plain_instructions_leave s t h.0 h.1).0 ∙ turn.first ∙ ap Some (sym placed);
        };
        placed = placed;
        settings = ap (λ (x : KernelState R). x.settings) others;
        outside = ap (λ (x : KernelState R). x.outside) others;
      }

  -- another leaves the machine, and its move can begin
  pub can_begin : view order q.tables ≡ view order k.tables → HasRoom (view order k.tables) → CanBegin order q q.tables.records.placed
  can_begin same room = record {
    idle = still_idle;
    going_on = ap (λ (x : State). x.over) same ∙ turn.going_on;
    few = subst HasRoom (sym same) room;
    first = ap chosen same ∙ turn.first ∙ ap Some (sym placed);
  }

-- an instruction that is no plain one leaves the machine
pub stays : (s r : State) (t : ℕ) (event : Event) → HasExecuted s t event r → (event ≡ Next → ⊥) → r ≡ s
stays s r t Next h asks = absurd (asks refl)
stays s r t Ecall h asks = h.1
stays s r t (Fault signal) h asks = h.1
stays s r t (Return which) h asks = h.1

-- its main line is that of a call, of a fault or of a return
pub record IsMain (head : Head) : Type 0 where
  told : head ≡ Quiet → ⊥
  no_arrival : is_arrival head ≡ false
  no_delivery : is_delivery head ≡ false

pub call_main : (s : State) (t number : ℕ) (c : Arguments) → IsMain (call s t number c).report.head
call_main s t number c = record { told = λ h. (let e : Call number (c.a0 ∷ c.a1 ∷ c.a2 ∷ c.a3 ∷ []) (call_row s t number c).reply ≡ Quiet = h in absurd (cc)); no_arrival = refl; no_delivery = refl }

pub fault_main : (sig : ℕ) → IsMain (FaultHead sig)
fault_main sig = record { told = λ h. absurd (cc); no_arrival = refl; no_delivery = refl }

made_main : (which : Special) → IsMain (Ret which)
made_main which = record { told = λ h. absurd (cc); no_arrival = refl; no_delivery = refl }

by_test : (b : Bool) (x y : Outcome) → IsMain x.report.head → IsMain y.report.head → IsMain (if b then x else y).report.head
by_test true x y first second = first
by_test false x y first second = second

handler_main : (s : State) (t : ℕ) (frames : List Frame) → IsMain (handler_returned s t frames).report.head
handler_main s t [] = fault_main segmentation_fault
handler_main s t (frame ∷ frames) =
    by_test (is_of_handler frame.kind)
    (told_return t Handler (begun (set_thread s t (record (s.threads t) { registers = frame.registers; mask = frame.mask; frames = frames }))))
    (faulted s t segmentation_fault) (made_main Handler) (fault_main segmentation_fault)

cleanup_main : (s : State) (t : ℕ) (frames : List Frame) (phase : Phase) → IsMain (cleanup_returned s t frames phase).report.head
cleanup_main s t (frame ∷ frames) phase =
    by_test (is_of_handler frame.kind) (faulted s t segmentation_fault)
    (told_return t Cleanup (begun (set_thread s t (record (s.threads t) { registers = frame.registers; frames = frames }))))
    (fault_main segmentation_fault) (made_main Cleanup)
cleanup_main s t [] Normal = fault_main segmentation_fault
cleanup_main s t [] (Leaving value rounds next) = made_main Cleanup

start_main : (s : State) (t : ℕ) (frames : List Frame) (phase : Phase) → IsMain (start_returned s t frames phase).report.head
start_main s t (frame ∷ frames) phase = fault_main segmentation_fault
start_main s t [] Normal = made_main Start
start_main s t [] (Leaving value rounds next) = fault_main segmentation_fault

pub return_main : (s : State) (t : ℕ) (which : Special) → IsMain (returned s t which).report.head
return_main s t Handler = handler_main s t (s.threads t).frames
return_main s t Cleanup = cleanup_main s t (s.threads t).frames (s.threads t).phase
return_main s t Start = start_main s t (s.threads t).frames (s.threads t).phase

-- what is left of a few changes are a few, and of some is some
few_remaining : (xs : List Change) (i : ℕ) → length xs ≤ 512 → length (drop i xs) ≤ 512
few_remaining xs i few = let cut = length-drop i xs in omega (arith, cut, few)

pub some_remaining : (changes : List Change) → is_nil changes ≡ false → 1 ≤ length changes
some_remaining [] e = absurd (let h : true ≡ false = e in cc)
some_remaining (change ∷ rest) e = omega arith

-- the main line of a move counts for nothing where its bytes are read
told_readable : (main : Option MainLine) (r : Report) (memory : List ℕ) → IsReadable r memory → IsReadable (told main r) memory
told_readable None r memory h = h
told_readable (Some (OfThread t head)) r memory h = h
told_readable (Some (Arrival head at)) r memory h = h

-- a move was begun where nothing was told yet
pub has_begun : {R : Type 0} (order : R → List ℕ) (k q : KernelState R) (g : Outcome) → k.tables.report ≡ nothing_told → IsBegun order k q g → (g.report.head ≡ Quiet → ⊥)
    → HasBegun order k q g
unfolding outcome
has_begun order k q g untold begun main = record {
  owed = begun.owed;
  call = record {
    begun = begun.main;
    readable =
        told_readable q.main (owed (outcome order q.tables) (remaining q.rest)).report (owed (outcome order q.tables) (remaining q.rest)).state.memory
        (owed_readable (outcome order q.tables) (remaining q.rest) begun.can (untold_readable q.tables.report (view order q.tables).memory (ap (λ (x : Tables _). x.report) begun.tables ∙ untold)));
  };
  some = some_remaining (remaining q.rest) begun.some;
  few = few_remaining q.rest.noted.items q.rest.next begun.few;
  shown = ap (view order) begun.tables;
  main = main;
  settings = begun.settings;
  outside = begun.outside;
}

pub by_event : (s : State) (t : ℕ) (effect : Effect) → effect_at s t ≡ effect → by_effect s t effect ≡ instruction s t
unfolding instruction
by_event s t effect e = sym (ap (by_effect s t) e)

pub begun_by : {R : Type 0} (order : R → List ℕ) (k q : KernelState R) (g h : Outcome) → k.tables.report ≡ nothing_told → IsBegun order k q g → IsMain g.report.head → g ≡ h
    → BeginsInstruction order k q h
begun_by order k q g h untold begun main e = subst (BeginsInstruction order k q) e (has_begun order k q g untold begun main.told, main.no_arrival, main.no_delivery)
