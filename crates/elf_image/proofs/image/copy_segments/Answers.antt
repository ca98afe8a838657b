use Rattle.std.proofs.Common.{length, sym, subst, arith, get_or}
use Rattle.std.proofs.lemmas.Option.{slice_get-get_or}
use Rattle.elf_image.specs.declared.layout.Segment.{Segment}
use Rattle.elf_image.specs.Copying.{IsPlaceable}
use Rattle.elf_image.proofs.Placed.{IsStart-none, IsStart-more}
use Rattle.elf_image.proofs.image.copy_segments.Goals as goal

-- what stands for an element beyond the list
blank : Segment
blank = record { kind = 0; offset = 0; vaddr = 0; filesz = 0; memsz = 0 }

pub loop-s-init : goal.loop-s-init
loop-s-init c = IsStart-none c.args.bytes.now c.args.mem.now c.requires.zeros

pub copy_segment-requires-clause-placeable : goal.copy_segment-requires-clause-placeable
unfolding blank
copy_segment-requires-clause-placeable c = λ kind.
    let segments = c.args.segments.now in
    let i = c.loop-s.s-index in
    let s = get_or segments i blank in
    let here = slice_get-get_or segments i blank (omega arith) in
    subst (λ n. IsPlaceable (length c.args.bytes.now) n s) (sym c.loop-s.invariant.long)
    (c.requires.placeable.each i s here kind)

pub loop-s-preserved : goal.loop-s-preserved
unfolding blank
loop-s-preserved c =
    IsStart-more c.args.bytes.now c.loop-s.mem c.copy_segment.new.mem c.args.segments.now c.loop-s.s-index
    (length c.args.mem.now) blank (omega arith) c.loop-s.invariant
    c.copy_segment.ensures.len c.copy_segment.ensures.each
