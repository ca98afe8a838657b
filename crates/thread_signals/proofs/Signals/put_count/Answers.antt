use Rattle.std.proofs.Common.{◌≡◌, ◌∙◌, ap, sym, subst, arith, get_or, ◌+◌, ◌-◌}
use Rattle.std.specs.Prelude.{nat_lt}
use Rattle.thread_base.specs.Maps.{put}
use Rattle.thread_base.specs.Numbers.{IsInScope, has_signal}
use Rattle.thread_signals.specs.Counts.{put_count, total}
use Rattle.thread_signals.specs.SignalState.{Table, state_of, with_count, counts_of}
use Rattle.thread_signals.proofs.SoundLemmas.{put_sound, put_shown}
use Rattle.thread_signals.proofs.Signals.put_count.Goals as goal

pub invariant_of-self : goal.invariant_of-self
unfolding state_of
invariant_of-self c =
    let number = c.number.ensures.value in
    let same : total (put_count (counts_of c.self.inside.counts) c.args.place c.number.result c.args.count) ≡ total (put_count (state_of c.args.self.now).counts c.args.place c.args.s c.args.count) =
    λ i. total (put_count (counts_of (c.self.view_is i).counts) c.args.place (number i) c.args.count) in
    let had = c.count_at.ensures.sum c.args.count in
    let low = c.count_at.ensures.sum 0 in
    let all : c.self.inside.pended ≡ total (state_of c.args.self.now).counts = c.self.invariant.sum ∙ ap (λ (v : Table). total (counts_of v.counts)) c.self.view_is in
    put_sound _ c.self.inside.pending _ c.self.invariant c.args.place c.number.result c.args.count c.with_signal.result c.requires.place
    (subst IsInScope (sym number) c.number.ensures.scope)
    (c.with_signal.ensures ∙ ap (λ n. put (has_signal (get_or c.self.inside.pending c.args.place 0)) n (nat_lt 0 c.args.count)) (sym number))
    (c.self.inside.pended - c.count_at.result + c.args.count)
    (omega (arith, same, had, low, all))
    (omega (arith, same, c.requires.bound))

pub returns : goal.returns
returns c =
    put_shown _ c.self.inside.pending _ c.self.invariant c.args.place c.number.result c.args.count c.with_signal.result c.requires.place
    (subst IsInScope (sym c.number.ensures.value) c.number.ensures.scope)
    ∙ (λ i. with_count (state_of (c.self.view_is i)) c.args.place (c.number.ensures.value i) c.args.count)

pub overflow_sub-self : goal.overflow_sub-self
unfolding state_of
overflow_sub-self c =
    let had = c.count_at.ensures.sum 0 in
    let all : c.self.inside.pended ≡ total (state_of c.args.self.now).counts = c.self.invariant.sum ∙ ap (λ (v : Table). total (counts_of v.counts)) c.self.view_is in
    omega (arith, had, all)
