use Rattle.std.proofs.Common.{◌∙◌, ap, sym, codes, ◌++◌}
use Rattle.posix_model.specs.Lines.{number}
use Rattle.replay_cli.specs.Places.{wait_text}
use Rattle.replay_cli.proofs.PlaceLines.{joined}
use Rattle.replay_cli.proofs.lines.add_wait.Goals as goal

pub returns-in-Join-clause-text : goal.returns-in-Join-clause-text
returns-in-Join-clause-text c =
    joined c.args.line.now (codes " waits thread") (number c.in-Join.u) c.text.new.self _ c.text.ensures
    (c.number-in-Join.ensures.text ∙ ap (λ n. c.text.new.self ++ number n) (c.from.ensures ∙ c.number.ensures.value))
    ∙ sym (ap (λ w. c.args.line.now ++ wait_text w) c.in-Join.is)

pub returns-in-Mutex-clause-text : goal.returns-in-Mutex-clause-text
returns-in-Mutex-clause-text c =
    joined c.args.line.now (codes " waits mutex") (number c.in-Mutex.m) c.text-in-Mutex.new.self _ c.text-in-Mutex.ensures
    (c.number-in-Mutex.ensures.text ∙ ap (λ n. c.text-in-Mutex.new.self ++ number n) c.from-in-Mutex.ensures)
    ∙ sym (ap (λ w. c.args.line.now ++ wait_text w) c.in-Mutex.is)

pub returns-in-Cond-clause-text : goal.returns-in-Cond-clause-text
returns-in-Cond-clause-text c =
    joined c.args.line.now (codes " waits condition") ((number c.in-Cond.cond ++ codes " mutex") ++ number c.in-Cond.mutex) c.text-in-Cond.new.self _ c.text-in-Cond.ensures
    (joined c.text-in-Cond.new.self (number c.in-Cond.cond ++ codes " mutex") (number c.in-Cond.mutex) c.text-in-Cond-2.new.self _
    (joined c.text-in-Cond.new.self (number c.in-Cond.cond) (codes " mutex") c.number-in-Cond.new.self _
    (c.number-in-Cond.ensures.text ∙ ap (λ n. c.text-in-Cond.new.self ++ number n) c.from-in-Cond.ensures)
    c.text-in-Cond-2.ensures)
    (c.number-in-Cond-2.ensures.text ∙ ap (λ n. c.text-in-Cond-2.new.self ++ number n) c.from-in-Cond-2.ensures))
    ∙ sym (ap (λ w. c.args.line.now ++ wait_text w) c.in-Cond.is)

pub returns-in-Reacquire-clause-text : goal.returns-in-Reacquire-clause-text
returns-in-Reacquire-clause-text c =
    joined c.args.line.now (codes " waits mutex") (number c.in-Reacquire.mutex ++ codes " again") c.text-in-Reacquire.new.self _ c.text-in-Reacquire.ensures
    (joined c.text-in-Reacquire.new.self (number c.in-Reacquire.mutex) (codes " again") c.number-in-Reacquire.new.self _
    (c.number-in-Reacquire.ensures.text ∙ ap (λ n. c.text-in-Reacquire.new.self ++ number n) c.from-in-Reacquire.ensures)
    c.text-in-Reacquire-2.ensures)
    ∙ sym (ap (λ w. c.args.line.now ++ wait_text w) c.in-Reacquire.is)

pub returns-in-Sleep-clause-text : goal.returns-in-Sleep-clause-text
returns-in-Sleep-clause-text c =
    joined c.args.line.now (codes " waits time") (number c.in-Sleep.until) c.text-in-Sleep.new.self _ c.text-in-Sleep.ensures c.number-in-Sleep.ensures.text
    ∙ sym (ap (λ w. c.args.line.now ++ wait_text w) c.in-Sleep.is)

pub returns-in-Read-clause-text : goal.returns-in-Read-clause-text
returns-in-Read-clause-text c = c.text-in-Read.ensures ∙ sym (ap (λ w. c.args.line.now ++ wait_text w) c.in-Read.is)
