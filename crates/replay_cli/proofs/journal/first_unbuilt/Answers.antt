use Rattle.std.proofs.Common.{◌∙◌, sym}
use Rattle.replay_cli.proofs.Built.{passed, stopped}
use Rattle.replay_cli.proofs.journal.first_unbuilt.Goals as goal

pub returns-then-not-is_signal_or_tick : goal.returns-then-not-is_signal_or_tick
returns-then-not-is_signal_or_tick c = sym (c.loop-i.invariant ∙ stopped c.args.journal.now.entries c.loop-i.i c.entry.result c.entry.ensures (sym c.is_signal_or_tick.ensures ∙ c.if-not-is_signal_or_tick.true))

pub loop-i-preserved : goal.loop-i-preserved
loop-i-preserved c = c.loop-i.invariant ∙ passed c.args.journal.now.entries c.loop-i.i c.entry.result c.entry.ensures (sym c.is_signal_or_tick.ensures ∙ c.if-not-is_signal_or_tick.false)
