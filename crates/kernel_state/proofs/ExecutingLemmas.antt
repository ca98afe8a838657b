-- The machine after an instruction of the thread whose registers are in place.
use Rattle.std.proofs.Common.{◌≡◌, ◌∙◌, ap, sym, refl, subst, ℕ, true, List, None, Some}
use Rattle.thread_base.specs.Maps.{put}
use Rattle.thread_base.proofs.MapLemmas.{put_same, put-put, put_got}
use Rattle.context_frames.specs.Contexts.{saved_of}
use Rattle.thread_table.specs.Rows.{rows}
use Rattle.rv_exec.specs.Meaning.{Effect, Goes, Calls, Faults, Returns, effect}
use Rattle.rv_exec.specs.Outcome.{HasEffect}
use Rattle.rv_exec.specs.declared.Event.{Event}
use Rattle.rv_exec.specs.declared.Event.TheVariants.{Next, Ecall, Fault, Return}
use Rattle.rv_exec.specs.declared.Regs.{Regs}
use Rattle.posix_model.specs.State.{Registers}
use Rattle.posix_model.specs.Changes.{set_registers}
use Rattle.posix_model.specs.Threads.{exists}
use Rattle.kernel_state.specs.Records.{RecordsState, context_of, contexts_of, registers_of, activities_of, masks_in, frames_in, threads_in, pending_in, actions_in, has_thread, thread_of}
use Rattle.kernel_state.specs.View.{view, AreCurrent}
use Rattle.kernel_state.specs.Executing.{effect_at, HasExecuted}
use Rattle.kernel_state.specs.declared.tables.Tables.{Tables}
use Rattle.kernel_state.proofs.CurrentLemmas.{still_current}
use Rattle.kernel_state.proofs.RecordLemmas.{changed, kept_at, row_there}

-- the registers of the thread in place change
threads_executed : (r : RecordsState) (regs : Regs) → has_thread r r.placed ≡ true
    → threads_in (record r { regs = regs }) ≡ put (threads_in r) r.placed (record (threads_in r r.placed) { registers = registers_of regs })
unfolding threads_in
threads_executed r regs there =
    let t = r.placed in
    let row = row_there r t there in
    let activity = activities_of r.activities t in
    changed r (record r { regs = regs }) t row.0 activity (masks_in r t) (frames_in r t) (registers_of regs)
    (kept_at (rows r.rows) t (Some row.0) row.1) (sym (put_got (activities_of r.activities) t)) (sym (put_got (masks_in r) t)) (sym (put_got (frames_in r) t))
    (sym (put-put (λ u. context_of (saved_of r.frames u)) t (registers_of r.regs) (registers_of regs)))
    ∙ ap (λ o. put (threads_in r) t (record (thread_of o activity (masks_in r t) (frames_in r t) (contexts_of r t)) { registers = registers_of regs })) (sym row.1)

-- the registers of the thread in place
placed_registers : (r : RecordsState) → has_thread r r.placed ≡ true → (threads_in r r.placed).registers ≡ registers_of r.regs
unfolding threads_in
placed_registers r there =
    let t = r.placed in
    let row = row_there r t there in
    ap (λ o. (thread_of o (activities_of r.activities t) (masks_in r t) (frames_in r t) (contexts_of r t)).registers) row.1
    ∙ put_same (λ u. context_of (saved_of r.frames u)) t (registers_of r.regs)

-- a context changes no priority
bases_same : (r : RecordsState) (regs : Regs) (u : ℕ) → (threads_in (record r { regs = regs }) u).base ≡ (threads_in r u).base
unfolding threads_in
bases_same r regs u = by (rows r.rows u)
  where
    by : (o : _) → (thread_of o (activities_of r.activities u) (masks_in r u) (frames_in r u) (contexts_of (record r { regs = regs }) u)).base
        ≡ (thread_of o (activities_of r.activities u) (masks_in r u) (frames_in r u) (contexts_of r u)).base
    by None = refl
    by (Some row) = refl

module _ {R : Type 0} (order : R → List ℕ) (k : Tables R) (regs : Regs) (memory : List ℕ) where
  abbrev pub after : Tables R
  after = record k { records = record k.records { regs = regs }; memory = memory }

  pub executed_current : (p : ℕ → ℕ) → AreCurrent p (view order k) → AreCurrent p (view order after)
  unfolding view
  executed_current p = still_current (view order k) (view order after) p p (λ u h. (h, refl, bases_same k.records regs u))

  module _ (there : exists (view order k) k.records.placed ≡ true) where
    has : has_thread k.records k.records.placed ≡ true
    unfolding view
    has = there

    -- what the instruction sees is what the machine's thread has
    shown : effect_at (view order k) k.records.placed ≡ effect k.records.regs.pc k.records.regs.x k.memory
    unfolding view
    shown = ap (λ (r : Registers). effect r.pc r.x k.memory) (placed_registers k.records has)

    went : view order after ≡ record (set_registers (view order k) k.records.placed (registers_of regs)) { memory = memory }
    unfolding view pending_in actions_in
    went = λ i. record (view order k) { threads = threads_executed k.records regs has i; memory = memory }

    still : registers_of regs ≡ registers_of k.records.regs → memory ≡ k.memory → view order after ≡ view order k
    unfolding view pending_in actions_in
    still e f =
        let same : put (threads_in k.records) k.records.placed (record (threads_in k.records k.records.placed) { registers = registers_of k.records.regs }) ≡ threads_in k.records =
        ap (λ (x : Registers). put (threads_in k.records) k.records.placed (record (threads_in k.records k.records.placed) { registers = x })) (sym (placed_registers k.records has))
        ∙ put_got (threads_in k.records) k.records.placed in
        let moved : put (threads_in k.records) k.records.placed (record (threads_in k.records k.records.placed) { registers = registers_of regs })
        ≡ put (threads_in k.records) k.records.placed (record (threads_in k.records k.records.placed) { registers = registers_of k.records.regs }) =
        ap (λ (x : Registers). put (threads_in k.records) k.records.placed (record (threads_in k.records k.records.placed) { registers = x })) e in
        let threads = threads_executed k.records regs has ∙ moved ∙ same in
        λ i. record (view order k) { threads = threads i; memory = f i }

    by_effect : (e : Effect) (event : Event) → effect_at (view order k) k.records.placed ≡ e → HasEffect e event k.records.regs.pc k.records.regs.x k.memory regs.pc regs.x memory
        → HasExecuted (view order k) k.records.placed event (view order after)
    by_effect (Goes pc x m) event is h =
        let e : Goes pc x m ≡ Goes regs.pc regs.x memory = λ i. Goes (sym h.1 i) (sym h.2 i) (sym h.3 i) in
        let it : HasExecuted (view order k) k.records.placed Next (view order after) = (registers_of regs, memory, is ∙ e, went) in
        subst (λ v. HasExecuted (view order k) k.records.placed v (view order after)) (sym h.0) it
    by_effect Calls event is h =
        let it : HasExecuted (view order k) k.records.placed Ecall (view order after) = (is, still (λ i. record { pc = h.1 i; x = h.2 i }) h.3) in
        subst (λ v. HasExecuted (view order k) k.records.placed v (view order after)) (sym h.0) it
    by_effect (Faults signal) event is h =
        let it : HasExecuted (view order k) k.records.placed (Fault signal) (view order after) = (is, still (λ i. record { pc = h.1 i; x = h.2 i }) h.3) in
        subst (λ v. HasExecuted (view order k) k.records.placed v (view order after)) (sym h.0) it
    by_effect (Returns which) event is h =
        let it : HasExecuted (view order k) k.records.placed (Return which) (view order after) = (is, still (λ i. record { pc = h.1 i; x = h.2 i }) h.3) in
        subst (λ v. HasExecuted (view order k) k.records.placed v (view order after)) (sym h.0) it

    pub executed : (event : Event) → HasEffect (effect k.records.regs.pc k.records.regs.x k.memory) event k.records.regs.pc k.records.regs.x k.memory regs.pc regs.x memory
        → HasExecuted (view order k) k.records.placed event (view order after)
    executed event h = by_effect (effect k.records.regs.pc k.records.regs.x k.memory) event shown h
