-- What is told of a move.
use Rattle.std.specs.Prelude.{false, replicate}
use Rattle.posix_model.specs.declared.Report.{Report}
use Rattle.posix_model.specs.declared.Head.TheVariants.{Quiet}

-- nothing is told (this project's own)
unfoldable pub nothing_told : Report
nothing_told = record {
  tid = 0;
  head = Quiet;
  at = record { n = 0; k = 0 };
  alarm = false;
  out_fd = 0;
  out_buf = 0;
  out_len = 0;
  took = 0;
  took_sig = 0;
  took_count = 0;
  drops = replicate 32 0;
  gone = false;
  gone_value = 0;
  done = 0;
  values = replicate 64 (0, 0);
}
