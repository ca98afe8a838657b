use Rattle.std.proofs.Common.{sym, ap}
use Rattle.std.specs.Prelude.{codes}
use Rattle.replay_cli.specs.Failures.{journal_line}
use Rattle.replay_cli.proofs.FailureLines.{told, indexed}
use Rattle.replay_cli.proofs.failure.put_journal_line.Goals as goal

pub returns-in-Line : goal.returns-in-Line
unfolding journal_line
returns-in-Line g c =
    told c.put_line-in-Line.result _ _ _ _ _ _ c.put_line-in-Line.ensures
    (indexed (codes ": journal refused: Line") c.from.result c.in-Line.number _ c.from.ensures (sym (ap journal_line c.in-Line.is)))

pub returns-in-Number : goal.returns-in-Number
unfolding journal_line
returns-in-Number g c =
    told c.put_line-in-Number.result _ _ _ _ _ _ c.put_line-in-Number.ensures
    (indexed (codes ": journal refused: Number") c.from-in-Number.result c.in-Number.number _ c.from-in-Number.ensures (sym (ap journal_line c.in-Number.is)))

pub returns-in-Signal : goal.returns-in-Signal
unfolding journal_line
returns-in-Signal g c =
    told c.put_line-in-Signal.result _ _ _ _ _ _ c.put_line-in-Signal.ensures
    (indexed (codes ": journal refused: Signal") c.from-in-Signal.result c.in-Signal.number _ c.from-in-Signal.ensures (sym (ap journal_line c.in-Signal.is)))

pub returns-in-Order : goal.returns-in-Order
unfolding journal_line
returns-in-Order g c =
    told c.put_line-in-Order.result _ _ _ _ _ _ c.put_line-in-Order.ensures
    (indexed (codes ": journal refused: Order") c.from-in-Order.result c.in-Order.number _ c.from-in-Order.ensures (sym (ap journal_line c.in-Order.is)))

pub returns-in-AfterEof : goal.returns-in-AfterEof
unfolding journal_line
returns-in-AfterEof g c =
    told c.put_line-in-AfterEof.result _ _ _ _ _ _ c.put_line-in-AfterEof.ensures
    (indexed (codes ": journal refused: AfterEof") c.from-in-AfterEof.result c.in-AfterEof.number _ c.from-in-AfterEof.ensures (sym (ap journal_line c.in-AfterEof.is)))

pub returns-in-TooMany : goal.returns-in-TooMany
unfolding journal_line
returns-in-TooMany g c =
    told c.put_line-in-TooMany.result _ _ _ _ _ _ c.put_line-in-TooMany.ensures
    (indexed (codes ": journal refused: TooMany") c.from-in-TooMany.result c.in-TooMany.number _ c.from-in-TooMany.ensures (sym (ap journal_line c.in-TooMany.is)))
