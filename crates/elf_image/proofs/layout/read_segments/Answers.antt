use Rattle.std.proofs.Common.{arith}
use Rattle.elf_image.proofs.Headers.{segments_from-more}
use Rattle.elf_image.proofs.layout.read_segments.Goals as goal

pub loop-i-preserved : goal.loop-i-preserved
loop-i-preserved c = record {
  count_read = omega arith;
  so_far =
      segments_from-more c.args.bytes.now c.word_at-table.result c.half_at-count.result c.loop-i.i
      _ _ _ c.read_segment.result (omega arith) c.read_segment.ensures c.push.ensures.items
      c.loop-i.invariant.so_far;
}
