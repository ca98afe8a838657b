use Rattle.std.proofs.Common.{◌≡◌, ◌∙◌, ap, sym, refl, arith, ℕ, ◌≤◌}
use Rattle.std.specs.Prelude.{sum_by}
use Rattle.std.specs.List.{range_with_len}
use Rattle.thread_signals.specs.Counts.{places}
use Rattle.thread_signals.specs.SignalState.{Table, SignalState, state_of, counts_of, with_count}
use Rattle.thread_signals.proofs.SumLemmas.{dropped_none, dropped_more, dropped_all, still_there, sum_more, dropped_to}
use Rattle.thread_signals.proofs.TableLemmas.{counts_past}
use Rattle.thread_signals.proofs.Signals.drop_all.Goals as goal

pub loop-place-init : goal.loop-place-init
loop-place-init c =
    let first = state_of c.args.self.now in record {
      state = ap (λ (counts : ℕ → ℕ → ℕ). record first { counts = counts }) (sym (dropped_none first.counts c.args.s));
      dropped = refl;
      sum = omega arith;
    }

pub loop-place-preserved : goal.loop-place-preserved
loop-place-preserved c =
    let first = state_of c.args.self.now in
    let place = c.loop-place.place in
    let so = c.loop-place.invariant in
    let count : c.take_at-dropped.result ≡ first.counts place c.args.s =
    c.take_at-dropped.ensures.count ∙ ap (λ (state : SignalState). state.counts place c.args.s) so.state ∙ still_there first.counts c.args.s place in
    let more = sum_more (λ t. first.counts t c.args.s) place in
    let sum = c.take_at-dropped.ensures.sum in
    record {
      state =
          c.take_at-dropped.ensures.state
          ∙ ap (λ (state : SignalState). with_count state place c.args.s 0) so.state
          ∙ ap (λ (counts : ℕ → ℕ → ℕ). record first { counts = counts }) (dropped_more first.counts c.args.s place);
      dropped = omega (arith, so.dropped, count, more);
      sum = omega (arith, so.sum, sum);
    }

pub returns-clause-state : goal.returns-clause-state
unfolding state_of
returns-clause-state c =
    let first = state_of c.args.self.now in
    let end : c.loop-place.place ≡ 65 = omega arith in
    let past : (t : ℕ) → 65 ≤ t → first.counts t c.args.s ≡ 0 = λ t high.
    sym (ap (λ (v : Table). counts_of v.counts t c.args.s) c.self.view_is) ∙ counts_past c.self.inside.counts t c.args.s (omega (arith, c.self.invariant.places, high)) in
    c.loop-place.invariant.state
    ∙ ap (λ (counts : ℕ → ℕ → ℕ). record first { counts = counts }) (ap (dropped_to first.counts c.args.s) end ∙ dropped_all first.counts c.args.s 65 past)

pub returns-clause-count : goal.returns-clause-count
unfolding places
returns-clause-count c =
    let end : c.loop-place.place ≡ 65 = omega arith in
    c.loop-place.invariant.dropped ∙ ap (λ n. sum_by (λ t. (state_of c.args.self.now).counts t c.args.s) (range_with_len 0 n)) end
