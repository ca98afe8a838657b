use Rattle.std.proofs.Common.{◌≡◌, ◌∙◌, ap, subst, arith}
use Rattle.std.specs.Prelude.{sum_by}
use Rattle.std.specs.List.{range_with_len}
use Rattle.thread_signals.specs.Counts.{places}
use Rattle.thread_signals.specs.SignalState.{Table, state_of}
use Rattle.thread_signals.proofs.CalmLemmas.{HasSums, has_sums, all_within, sum_within}
use Rattle.thread_signals.proofs.SumLemmas.{sum_more}
use Rattle.thread_signals.proofs.Signals.left_of.Goals as goal

pub overflow_add-left : goal.overflow_add-left
unfolding places
overflow_add-left c =
    let state = state_of c.args.self.now in
    let sums = subst (λ (v : Table). HasSums (state_of v)) c.self.view_is (has_sums _ c.self.inside.pending _ c.self.invariant) in
    let part = sum_within (λ t. state.counts t c.args.n) c.loop-place.place 65 (omega arith) in
    let all = all_within state.counts sums.scope c.args.n in
    let fits = sums.fits in
    omega (arith, part, all, fits, c.loop-place.invariant)

pub loop-place-preserved : goal.loop-place-preserved
loop-place-preserved c =
    let more = sum_more (λ t. (state_of c.args.self.now).counts t c.args.n) c.loop-place.place in
    omega (arith, more, c.loop-place.invariant)

pub returns : goal.returns
unfolding places
returns c =
    let end : c.loop-place.place ≡ 65 = omega arith in
    c.loop-place.invariant ∙ ap (λ n. sum_by (λ t. (state_of c.args.self.now).counts t c.args.n) (range_with_len 0 n)) end
