use Rattle.std.proofs.Common.{◌∙◌, ◌+◌, ap, [], get_or}
use Rattle.thread_signals.specs.Counts.{put_count, total}
use Rattle.thread_signals.specs.SignalState.{Table, state_of, counts_of}
use Rattle.thread_signals.proofs.SumLemmas.{total_put}
use Rattle.thread_signals.proofs.WordLemmas.{scope_range}
use Rattle.thread_signals.proofs.Signals.count_at.Goals as goal

pub returns-clause-sum : goal.returns-clause-sum
unfolding state_of counts_of
returns-clause-sum c = λ count.
    let counts = (state_of c.args.self.now).counts in
    let range = scope_range c.args.s c.number.ensures.scope in
    ap (λ n. total (put_count counts c.args.place c.args.s count) + n)
    (ap (λ s. get_or (get_or c.self.inside.counts c.args.place []) s 0) c.number.ensures.value
    ∙ ap (λ (v : Table). counts_of v.counts c.args.place c.args.s) c.self.view_is)
    ∙ total_put counts c.args.place c.args.s count c.requires range.0 range.1
