use Rattle.std.proofs.Common.{◌≡◌, ◌∙◌, rules, None, length}
use Rattle.std.specs.List.{count_by}
use Rattle.thread_table.specs.Rows.{is_live}
use Rattle.thread_table.proofs.RowLemmas.{counted_tids}
use Rattle.thread_table.proofs.count_live.Goals as goal

pub returns : goal.returns
returns c =
    let all : length c.args.rows.now ≡ 64 = search rules in
    let count : c.count.result ≡ count_by is_live c.args.rows.now = search rules in
    count ∙ counted_tids is_live None c.args.rows.now all
