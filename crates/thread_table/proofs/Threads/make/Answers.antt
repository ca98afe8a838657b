use Rattle.std.proofs.Common.{◌≡◌, rules, Some}
use Rattle.thread_table.specs.Rows.{rows, free_number}
use Rattle.thread_table.proofs.RowLemmas.{fresh_number, full_numbers}
use Rattle.thread_table.proofs.Threads.make.Goals as goal

pub returns-in_err-number-clause-full : goal.returns-in_err-number-clause-full
returns-in_err-number-clause-full c =
    let answer : c.from_residual.result ≡ free_number (rows c.args.self.now) = search rules in
    full_numbers (rows c.args.self.now) c.from_residual.result answer

pub returns-clause-fresh : goal.returns-clause-fresh
returns-clause-fresh c =
    let answer : Some c.in_ok-number.number ≡ free_number (rows c.args.self.now) = search rules in
    fresh_number (rows c.args.self.now) (Some c.in_ok-number.number) answer

pub returns-clause-full : goal.returns-clause-full
returns-clause-full c =
    let answer : Some c.in_ok-number.number ≡ free_number (rows c.args.self.now) = search rules in
    full_numbers (rows c.args.self.now) (Some c.in_ok-number.number) answer
