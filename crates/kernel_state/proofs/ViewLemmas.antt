-- What the tables show after a change of one thread.
use Rattle.std.proofs.Common.{◌≡◌, ◌∙◌, ap, sym, refl, ℕ, zero, suc, ◌+◌, ◌≤◌, arith, eqb, get_or, length, take, drop, Bool, true, false, not, cond, find, ◌||◌, List, [], ◌∷◌, Option, Some, None, is_none, is_some}
use Rattle.std.specs.Prelude.{fold, map, ◌==◌}
use Rattle.std.specs.List.{list_any, range_with_len}
use Rattle.std.proofs.Math.Seq.{drop-cons}
use Rattle.std.proofs.lemmas.List.{take_all}
use Rattle.std.proofs.lemmas.Bool.{ne_eqb}
use Rattle.thread_base.specs.Maps.{put}
use Rattle.thread_base.specs.Orders.{without}
use Rattle.thread_base.specs.Priority.{tids}
use Rattle.thread_base.proofs.MapLemmas.{put_got}
use Rattle.thread_table.specs.Rows.{rows, free_number as free_row, is_live as live_row, live_count}
use Rattle.thread_table.specs.declared.Row.{Row}
use Rattle.posix_model.specs.State.{State, Thread, Registers, Frame, Key, is_live, none_pending, no_keys}
use Rattle.posix_model.specs.Changes.{set_thread}
use Rattle.posix_model.specs.Leaving.{cleared_in, without_thread, plus_each}
use Rattle.posix_model.specs.Lines.{sig_numbers}
use Rattle.posix_model.specs.Threads.{free_number, some_live}
use Rattle.posix_model.specs.declared.Wait.{Wait}
use Rattle.kernel_state.specs.Changing.{HasNoMutex}
use Rattle.kernel_state.specs.Records.{RecordsState, SameSignals, threads_in, masks_in, frames_in, contexts_of, activities_of, thread_of, cancellation_of, standing_of, left, left_by}
use Rattle.kernel_state.specs.View.{view, with_ready}
use Rattle.kernel_state.specs.declared.activity.Activity.{Activity}
use Rattle.kernel_state.specs.declared.tables.Tables.{Tables}
use Rattle.kernel_state.proofs.MutexLemmas.{none_orphaned}
use Rattle.kernel_state.proofs.RecordLemmas.{row_absent}

module _ {R : Type 0} (order : R → List ℕ) where
  -- the records change, and what is told of signals stays
  pub view_changed : (k : Tables R) (records : RecordsState) (threads : ℕ → Thread) → threads_in records ≡ threads → SameSignals k.records records
      → view order (record k { records = records }) ≡ record (view order k) { threads = threads }
  unfolding view
  view_changed k records threads e same = λ i. record (view order k) { threads = e i; pending = same.0 i; actions = same.1 i }

  -- the least free number of the machine is that of the rows
  pub view_free : (k : Tables R) → free_number (view order k) ≡ free_row (rows k.records.rows)
  unfolding view threads_in
  view_free k =
      λ i. find (λ t. row_absent (rows k.records.rows t) (activities_of k.records.activities t) (masks_in k.records t) (frames_in k.records t) (contexts_of k.records t) i) tids

live_by : (ended : Option ℕ) (wait : Option Wait) → is_live (standing_of ended wait) ≡ is_none ended
live_by (Some value) wait = refl
live_by None (Some wait) = refl
live_by None None = refl

-- a thread has not ended where its row says so
row_live : (o : Option Row) (activity : Activity) (mask : ℕ) (frames : List Frame) (regs : Registers) → is_live (thread_of o activity mask frames regs).standing ≡ live_row o
row_live None activity mask frames regs = refl
row_live (Some row) activity mask frames regs = live_by row.ended activity.wait

or_true : (b : Bool) → b || true ≡ true
or_true true = refl
or_true false = refl

or_false : (b : Bool) → b ≡ b || false
or_false true = refl
or_false false = refl

counted : (b : Bool) (n : ℕ) (rest : Bool) → not ((n + cond b 1 0) == 0) || rest ≡ not (n == 0) || (b || rest)
counted true n rest = let e : eqb (n + 1) 0 ≡ false = ne_eqb (n + 1) 0 (λ h. omega (arith, h)) in rw e (sym (or_true (not (n == 0))))
counted false n rest = let e : n + 0 ≡ n = omega arith in rw e refl

-- some member passes exactly where the count of those that do is not 0
some_counted : (p : ℕ → Bool) (xs : List ℕ) (n : ℕ) → not (fold (λ a x. a + cond (p x) 1 0) n xs == 0) ≡ not (n == 0) || list_any p xs
some_counted p [] n = or_false (not (n == 0))
some_counted p (x ∷ xs) n = some_counted p xs (n + cond (p x) 1 0) ∙ counted (p x) n (list_any p xs)

module _ {R : Type 0} (order : R → List ℕ) where
  -- some thread has not ended exactly where the count of those is not 0
  pub view_live : (k : Tables R) (n : ℕ) → n ≡ live_count (rows k.records.rows) → not (n == 0) ≡ some_live (view order k)
  unfolding view threads_in
  view_live k n e =
      ap (λ m. not (m == 0)) e
      ∙ some_counted (λ t. live_row (rows k.records.rows t)) tids 0
      ∙ sym (λ i. list_any (λ t. row_live (rows k.records.rows t) (activities_of k.records.activities t) (masks_in k.records t) (frames_in k.records t) (contexts_of k.records t) i) tids)

-- a thread is gone on which nothing pended, and which had no mutex and no value of a key
pub gone_calmly : (s : State) (t : ℕ) (left : Thread) → ((sig : ℕ) → s.pending t sig ≡ 0) → HasNoMutex s t → s.keys ≡ no_keys
    → with_ready (set_thread s t left) (without t s.ready) ≡ without_thread s t left
gone_calmly s t left calm bare keyless =
    let none_here : s.pending t ≡ (λ sig. 0) = λ i sig. calm sig i in
    let same : put s.pending t (λ sig. 0) ≡ s.pending = ap (put s.pending t) (sym none_here) ∙ put_got s.pending t in
    let none = none_orphaned s t bare in
    let cleared : (ℕ → Option Key) → ℕ → Option Key = λ m k. cleared_in t (m k) in
    let clear : cleared s.keys ≡ s.keys = ap cleared keyless ∙ sym keyless in
    λ i. record (set_thread s t left) { ready = without t s.ready; mutexes = none i; keys = sym clear i; pending = sym same i }

-- nothing more of each signal
plus_none : (n a : ℕ) (counts : List ℕ) → a + n ≤ length counts → map (λ sig. get_or counts sig 0 + 0) (range_with_len a n) ≡ take n (drop a counts)
plus_none zero a counts h = refl
plus_none (suc n) a counts h =
    let next : a + 1 ≡ suc a = omega arith in
    let here : get_or counts a 0 + 0 ≡ get_or counts a 0 = omega arith in
    let rest : map (λ sig. get_or counts sig 0 + 0) (range_with_len (a + 1) n) ≡ take n (drop (suc a) counts) =
    plus_none n (a + 1) counts (omega (arith, h)) ∙ ap (λ k. take n (drop k counts)) next in
    (λ i. here i ∷ rest i) ∙ sym (ap (take (suc n)) (drop-cons counts a 0 (omega (arith, h))))

pub none_dropped : (counts : List ℕ) → length counts ≡ 32 → counts ≡ plus_each counts (none_pending 0)
unfolding sig_numbers
none_dropped counts full = sym (plus_none 32 0 counts (omega (arith, full)) ∙ take_all 32 counts (omega (arith, full)))

-- some member passes exactly where one is found
pub any_found : (p : ℕ → Bool) (xs : List ℕ) → is_some (find p xs) ≡ list_any p xs
any_found p [] = refl
any_found p (x ∷ xs) = by (p x) (any_found p xs)
  where
    by : (b : Bool) → is_some (find p xs) ≡ list_any p xs → is_some (cond b (Some x) (find p xs)) ≡ b || list_any p xs
    by true e = refl
    by false e = e

-- what is not kept of a thread yet: it has no cleanup routine, and nobody cancels it
pub record IsPlain (thread : Thread) : Type 0 where
  pub cleanups : thread.cleanups ≡ []
  pub kept : thread.cancellation.pending ≡ false

kept_by : (leaving : Option ℕ) → (cancellation_of leaving).pending ≡ false
kept_by None = refl
kept_by (Some value) = refl

plain_thread : (o : Option Row) (activity : Activity) (mask : ℕ) (frames : List Frame) (regs : Registers) → IsPlain (thread_of o activity mask frames regs)
plain_thread None activity mask frames regs = record { cleanups = refl; kept = refl }
plain_thread (Some row) activity mask frames regs = record { cleanups = refl; kept = kept_by activity.leaving }

pub record IsPlainState (s : State) : Type 0 where
  pub threads : (t : ℕ) → IsPlain (s.threads t)
  pub keys : s.keys ≡ no_keys

pub view_plain : {R : Type 0} (order : R → List ℕ) (k : Tables R) → IsPlainState (view order k)
unfolding view threads_in
view_plain order k = record {
  threads = λ t. plain_thread (rows k.records.rows t) (activities_of k.records.activities t) (masks_in k.records t) (frames_in k.records t) (contexts_of k.records t);
  keys = refl;
}

-- who goes back to a frame keeps its own priority
left_base_by : (thread : Thread) (frames : List Frame) → (left_by thread frames).base ≡ thread.base
left_base_by thread [] = refl
left_base_by thread (frame ∷ frames) = refl

pub left_base : (thread : Thread) → (left thread).base ≡ thread.base
left_base thread = left_base_by thread thread.frames
