-- The end of a thread, with or without a joiner, as small changes that can be made.
use Rattle.std.proofs.Common.{◌≡◌, ◌≢◌, ◌∙◌, ap, sym, refl, ℕ, ◌+◌, true, false, List, length, Some, None}
use Rattle.std.specs.Prelude.{slice_index}
use Rattle.std.proofs.lemmas.List.FromFn.{length-map-range_with_len}
use Rattle.thread_base.specs.Maps.{put}
use Rattle.thread_base.specs.Priority.{tids}
use Rattle.thread_base.proofs.MapLemmas.{put_same, put_other, put-put}
use Rattle.thread_base.proofs.OrderLemmas.{is_in-push}
use Rattle.thread_base.proofs.SearchLemmas.{find_passes}
use Rattle.posix_model.specs.State.{State, Thread, no_keys, is_ready, joins}
use Rattle.posix_model.specs.Changes.{Outcome, begun, answer, with_reply}
use Rattle.posix_model.specs.Lines.{sig_numbers}
use Rattle.posix_model.specs.Threads.{joiner}
use Rattle.posix_model.specs.Leaving.{ended, end_of_thread, end_with, remains, over_with_last, without_thread, with_end, plus_each}
use Rattle.posix_model.specs.Good.{IsGood}
use Rattle.posix_model.proofs.StandingLemmas.{joins_waits}
use Rattle.kernel_state.specs.Changing.{Can, change_by, IsListed}
use Rattle.kernel_state.specs.declared.change.Change.TheVariants.{Thread as OfThread}
use Rattle.kernel_state.specs.declared.change.ThreadChange.TheVariants.{Answer, End}
use Rattle.kernel_state.proofs.ViewLemmas.{none_dropped}
use Rattle.kernel_state.specs.Begun.{HasNoted}
use Rattle.kernel_state.specs.Kernels.{KernelState}
use Rattle.kernel_state.specs.View.{view}
use Rattle.kernel_state.specs.declared.tables.Tables.{Tables}
use Rattle.kernel_state.proofs.NoteLemmas.{tables_stay}
use Rattle.calls_thread.specs.Drops.{with_drops, DropsPending}
use Rattle.calls_thread.specs.Orphans.{with_orphans}
use Rattle.calls_thread.proofs.StayLemmas.{there_append, ended_apart}
use Rattle.calls_thread.proofs.OrphanLemmas.{none_remaining, orphaned_twice}

-- its mutexes are orphans and what pends on it is dropped
abbrev pub stripped : Outcome → ℕ → Outcome
stripped g t = with_drops (record g { state = with_orphans g.state t }) t

plus_full : (drops : List ℕ) (more : ℕ → ℕ) → length (plus_each drops more) ≡ 32
unfolding sig_numbers
plus_full drops more = length-map-range_with_len (λ sig. slice_index drops sig + more sig) 0 32

-- the end after that is the end
ended_stripped : (g : Outcome) (t : ℕ) (left : Thread) (value : ℕ) → ended (stripped g t) t left ((stripped g t).state.pending t) value ≡ ended g t left (g.state.pending t) value
ended_stripped g t left value =
    let p : ℕ → ℕ → ℕ = g.state.pending in
    let none : ℕ → ℕ = λ sig. 0 in
    let drops : List ℕ = plus_each g.report.drops (p t) in
    let pending : put (put p t none) t none ≡ put p t none = put-put p t none none in
    let told : plus_each drops (put p t none t) ≡ drops = ap (plus_each drops) (put_same p t none) ∙ sym (none_dropped drops (plus_full g.report.drops (p t))) in
    λ i. record {
      state = over_with_last (record (without_thread g.state t left) { mutexes = orphaned_twice t g.state.mutexes i; pending = pending i });
      report = record (with_end g.report (p t) value) { drops = told i };
    }

-- mutexes that are orphans were noted, and then what is dropped
pub noted_stripped : {R : Type 0} (order : R → List ℕ) (k a q : KernelState R) (t : ℕ) → HasNoted order k a (begun (with_orphans (view order k.tables) t)) → DropsPending order a q t
    → HasNoted order k q (stripped (begun (view order k.tables)) t)
noted_stripped order k a q t orphans drops =
    let first : Outcome = begun (with_orphans (view order k.tables) t) in
    drops k first orphans (ap (λ (x : Tables _). (view order x).pending t) (sym (tables_stay order k a first orphans))) refl

module _ (s : State) (t value : ℕ) where
  -- nothing pends on it then
  none_pends : (sig : ℕ) → (stripped (begun s) t).state.pending t sig ≡ 0
  none_pends sig = ap (λ (f : ℕ → ℕ). f sig) (put_same s.pending t (λ u. 0))

  pub ended_alone : joiner s t ≡ None → change_by (OfThread t (End value false)) (stripped (begun s) t) ≡ end_of_thread s t value
  ended_alone none = ended_stripped (begun s) t (remains (s.threads t) value None) value ∙ ap (end_with s t value) (sym none)

  pub can_end_alone : IsListed s t → s.keys ≡ no_keys → Can (OfThread t (End value false)) (stripped (begun s) t)
  can_end_alone listed keyless = (listed, none_pends, none_remaining s t, keyless)

module _ (s : State) (t u value : ℕ) (good : IsGood s) (listed : IsListed s t) (found : joiner s t ≡ Some u) where
  joins_it : joins t (s.threads u).standing ≡ true
  joins_it = find_passes (λ v. joins t (s.threads v).standing) tids u found

  pub can_answer : Can (OfThread u (Answer 0 value)) (stripped (begun s) t)
  can_answer =
      let waits = joins_waits t (s.threads u).standing joins_it in
      (good.ready.listed u ∙ waits.0, waits.2)

  apart : t ≢ u
  apart = ended_apart s t u listed.2 (joins_waits t (s.threads u).standing joins_it).0

  pub can_end : s.keys ≡ no_keys → Can (OfThread t (End value true)) (change_by (OfThread u (Answer 0 value)) (stripped (begun s) t))
  can_end keyless = (
    (
      there_append s t u (with_reply (s.threads u) 0 value) listed.0,
      is_in-push u t s.ready apart ∙ listed.1,
      ap (λ (x : Thread). is_ready x.standing) (put_other s.threads u _ t apart) ∙ listed.2,
    ),
    none_pends s t value,
    none_remaining s t,
    keyless,
  )

  pub ended_joined : change_by (OfThread t (End value true)) (change_by (OfThread u (Answer 0 value)) (stripped (begun s) t)) ≡ end_of_thread s t value
  ended_joined =
      let left : Thread = remains (s.threads t) value (Some u) in
      ended_stripped (answer (begun s) u 0 value) t left value ∙ ap (end_with s t value) (sym found)
