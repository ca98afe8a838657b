use Rattle.std.proofs.Common.{◌<◌, ◌-◌, ◌+◌, arith}
use Rattle.elf_image.proofs.Placed.{part_copied}
use Rattle.elf_image.proofs.image.copy_part.Goals as goal

pub returns-clause-each : goal.returns-clause-each
returns-clause-each c = λ k inside.
    let s = c.args.s.now in
    let r = c.requires in
    let some : 0 < s.filesz = omega arith in
    let low = r.low (omega (arith, r.larger)) in
    let high = r.high (omega (arith, r.larger)) in
    part_copied c.args.mem.now c.copy_in.new.self c.args.bytes.now s.vaddr s.offset s.filesz
    (s.offset + s.filesz - s.offset) k (omega arith) some low (omega (arith, r.larger, high)) (r.in_file some)
    c.copy_in.ensures.written
