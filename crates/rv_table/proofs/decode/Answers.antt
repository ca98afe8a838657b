use Rattle.std.proofs.Common.{◌∙◌, arith}
use Rattle.std.proofs.lemmas.Grind.{common_steps}
use Rattle.rv_table.specs.Fields.{row_by_fields}
use Rattle.rv_table.specs.Table.{immediate_of}
use Rattle.rv_table.proofs.Rows.{decodes, refuses}
use Rattle.rv_table.proofs.decode.Goals as goal
use Rattle.rv_table.proofs.decode.Goals.{in-55, in-23, in-111, in-103, in-99+in_ok-branch_row-in-99, in-3+in_ok-load_row-in-3, in-35+in_ok-store_row-in-35, in-19+in-0-default, in-19+in-2-default, in-19+in-3-default, in-19+in-4-default, in-19+in-6-default, in-19+in-7-default, in-19+in-1-eq0, in-19+in-5-eq0, in-19+in-5-eq32, in-51+in_ok-register_row-in-51, in-15, in-115+in_ok-system_row-in-115}

pub returns-clause-row : goal.returns-clause-row
unfolding row_by_fields immediate_of
returns-clause-row c =
    let row = c.match-word-and127.row in
    decodes c.args.word row.0 row.1 c.ranges.word.fits (elim c.match-word-and127.branch [
      | in-55 w ↦ rw (w.row-is, w.in-55.is, w.immediate_u.ensures)
      | in-23 w ↦ rw (w.row-is, w.in-23.is, w.immediate_u-in-23.ensures)
      | in-111 w ↦ rw (w.row-is, w.in-111.is, w.immediate_j.ensures)
      | in-103 w ↦ rw (w.row-is, w.in-103.is, w.if-funct3-eq0.true, w.immediate_i.ensures)
      | in-99+in_ok-branch_row-in-99 w ↦
          rw (w.row-is, w.in-99.is, w.branch_row.ensures, w.in_ok-branch_row-in-99.was, w.immediate_b.ensures)
      | in-3+in_ok-load_row-in-3 w ↦
          rw (w.row-is, w.in-3.is, w.load_row.ensures, w.in_ok-load_row-in-3.was, w.immediate_i-in-3.ensures)
      | in-35+in_ok-store_row-in-35 w ↦
          rw (w.row-is, w.in-35.is, w.store_row.ensures, w.in_ok-store_row-in-35.was, w.immediate_s.ensures)
      | in-19+in-0-default w ↦ rw (w.row-is, w.in-19.is, w.in-0-default.is-0, w.immediate_i-in-0-default.ensures)
      | in-19+in-2-default w ↦ rw (w.row-is, w.in-19.is, w.in-2-default.is-0, w.immediate_i-in-2-default.ensures)
      | in-19+in-3-default w ↦ rw (w.row-is, w.in-19.is, w.in-3-default.is-0, w.immediate_i-in-3-default.ensures)
      | in-19+in-4-default w ↦ rw (w.row-is, w.in-19.is, w.in-4-default.is-0, w.immediate_i-in-4-default.ensures)
      | in-19+in-6-default w ↦ rw (w.row-is, w.in-19.is, w.in-6-default.is-0, w.immediate_i-in-6-default.ensures)
      | in-19+in-7-default w ↦ rw (w.row-is, w.in-19.is, w.in-7-default.is-0, w.immediate_i-in-7-default.ensures)
      | in-19+in-1-eq0 w ↦
          rw (w.row-is, w.in-19.is, w.in-1-eq0.is-0, w.in-1-eq0.is-1, w.shift_amount.ensures)
      | in-19+in-5-eq0 w ↦
          rw (w.row-is, w.in-19.is, w.in-5-eq0.is-0, w.in-5-eq0.is-1, w.shift_amount-in-5-eq0.ensures)
      | in-19+in-5-eq32 w ↦
          rw (w.row-is, w.in-19.is, w.in-5-eq32.is-0, w.in-5-eq32.is-1, w.shift_amount-in-5-eq32.ensures)
      | in-51+in_ok-register_row-in-51 w ↦
          rw (w.row-is, w.in-51.is, w.register_row.ensures, w.in_ok-register_row-in-51.was)
      | in-15 w ↦ rw (w.row-is, w.in-15.is, w.if-funct3-eq0-2.true)
      | in-115+in_ok-system_row-in-115 w ↦
          rw (w.row-is, w.in-115.is, w.system_row.ensures, w.in_ok-system_row-in-115.was)
    ])

pub returns-in_err-branch_row-in-99-clause-row : goal.returns-in_err-branch_row-in-99-clause-row
unfolding row_by_fields
returns-in_err-branch_row-in-99-clause-row c =
    c.from_residual.ensures
    ∙ refuses c.args.word c.ranges.word.fits (rw (c.in-99.is, c.in_err-branch_row-in-99.ensures))

pub returns-in_err-load_row-in-3-clause-row : goal.returns-in_err-load_row-in-3-clause-row
unfolding row_by_fields
returns-in_err-load_row-in-3-clause-row c =
    c.from_residual-in_err-load_row-in-3.ensures
    ∙ refuses c.args.word c.ranges.word.fits (rw (c.in-3.is, c.in_err-load_row-in-3.ensures))

pub returns-in_err-store_row-in-35-clause-row : goal.returns-in_err-store_row-in-35-clause-row
unfolding row_by_fields
returns-in_err-store_row-in-35-clause-row c =
    c.from_residual-in_err-store_row-in-35.ensures
    ∙ refuses c.args.word c.ranges.word.fits (rw (c.in-35.is, c.in_err-store_row-in-35.ensures))

pub returns-in_default-2-clause-row : goal.returns-in_default-2-clause-row
unfolding row_by_fields
returns-in_default-2-clause-row c =
    refuses c.args.word c.ranges.word.fits (rw c.in-19.is (grind (arith, common_steps)))

pub returns-in_default-2-2-clause-row : goal.returns-in_default-2-2-clause-row
unfolding row_by_fields
returns-in_default-2-2-clause-row c =
    refuses c.args.word c.ranges.word.fits (rw c.in-19.is (grind (arith, common_steps)))

pub returns-in_err-register_row-in-51-clause-row : goal.returns-in_err-register_row-in-51-clause-row
unfolding row_by_fields
returns-in_err-register_row-in-51-clause-row c =
    c.from_residual-in_err-register_row-in-51.ensures
    ∙ refuses c.args.word c.ranges.word.fits (rw (c.in-51.is, c.in_err-register_row-in-51.ensures))

pub returns-in_err-system_row-in-115-clause-row : goal.returns-in_err-system_row-in-115-clause-row
unfolding row_by_fields
returns-in_err-system_row-in-115-clause-row c =
    c.from_residual-in_err-system_row-in-115.ensures
    ∙ refuses c.args.word c.ranges.word.fits (rw (c.in-115.is, c.in_err-system_row-in-115.ensures))

pub returns-in_default-clause-row : goal.returns-in_default-clause-row
unfolding row_by_fields
returns-in_default-clause-row c =
    refuses c.args.word c.ranges.word.fits (rw c.in-103.is (grind (arith, common_steps)))

pub returns-in_default-4-clause-row : goal.returns-in_default-4-clause-row
unfolding row_by_fields
returns-in_default-4-clause-row c =
    refuses c.args.word c.ranges.word.fits (rw c.in-15.is (grind (arith, common_steps)))

pub returns-in_default-3-clause-row : goal.returns-in_default-3-clause-row
unfolding row_by_fields
returns-in_default-3-clause-row c =
    refuses c.args.word c.ranges.word.fits (grind (arith, common_steps))
