use Rattle.std.proofs.Common.{◌∙◌, sym, rules}
use Rattle.thread_base.specs.Maps.{put}
use Rattle.thread_base.specs.Numbers.{has_signal}
use Rattle.thread_signals.proofs.WordLemmas.{with_more, with_less, scope_range}
use Rattle.thread_signals.proofs.words.with_signal.Goals as goal

pub returns-then-is_in : goal.returns-then-is_in
returns-then-is_in c =
    let range = scope_range c.number-bit.result (search rules) in
    with_more c.args.set c.number-bit.result range.1
    ∙ (λ i. put (has_signal c.args.set) (c.number-bit.ensures.value i) (sym c.if-is_in.true i))

pub returns-else-is_in : goal.returns-else-is_in
returns-else-is_in c =
    let range = scope_range c.number-bit.result (search rules) in
    with_less c.args.set c.number-bit.result c.ranges.set.fits range.1
    ∙ (λ i. put (has_signal c.args.set) (c.number-bit.ensures.value i) (sym c.if-is_in.false i))
