use Rattle.std.proofs.Common.{◌≡◌, ◌+◌, ◌*◌, ◌-◌, ◌++◌}
use Rattle.arrayvec.specs.ArrayVec.{array_vec_len}
use Rattle.elf_image.specs.Layout.{segments_from}
use Rattle.elf_image.proofs.layout.read_segments.Given as goal

abbrev pub invariant-loop-i : goal.invariant-loop-i
invariant-loop-i l = record {
  count_read : array_vec_len l.segments ≡ l.i;
  so_far :
      l.segments.items ++ segments_from l.bytes (l.table + 32 * l.i) (l.count - l.i)
      ≡ segments_from l.bytes l.table l.count;
}
