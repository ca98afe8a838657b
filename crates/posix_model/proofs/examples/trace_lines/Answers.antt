use Rattle.std.proofs.Common.{refl}
use Rattle.std.specs.Fmt.{digits}
use Rattle.thread_base.specs.Priority.{tids}
use Rattle.posix_model.specs.Reports.{nothing_told}
use Rattle.posix_model.specs.Lines.{lines, head_line, alarm_line, out_line, took_line, count_lines, sig_numbers, gone_line, done_line, done_lines, run_line, end_line, end_lines}
use Rattle.posix_model.proofs.examples.trace_lines.Goals as goal

pub returns : goal.returns
unfolding digits lines head_line alarm_line out_line took_line count_lines sig_numbers gone_line done_line done_lines run_line end_line end_lines nothing_told tids
returns c = (refl, refl, refl, refl, refl)
