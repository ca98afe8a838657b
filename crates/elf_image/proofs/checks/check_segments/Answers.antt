use Rattle.std.proofs.Common.{length}
use Rattle.elf_image.proofs.Placed.{placeable}
use Rattle.elf_image.proofs.checks.check_segments.Goals as goal

pub returns-clause-placeable : goal.returns-clause-placeable
returns-clause-placeable c = record {
  each = λ i s here kind.
      placeable c.args.len (length c.args.mem.now) s kind
      (c.in_default-find_out_of_file.ensures.others i s here)
      (c.in_default-find_above_memory.ensures.others i s here)
      (c.in_default-find_outside_window.ensures.others i s here);
}
