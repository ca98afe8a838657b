use Rattle.std.proofs.Common.{sym, ap}
use Rattle.std.specs.Prelude.{codes}
use Rattle.replay_cli.specs.Failures.{image_line}
use Rattle.replay_cli.proofs.FailureLines.{told, indexed}
use Rattle.replay_cli.proofs.failure.put_image_line.Goals as goal

pub returns-in-Dynamic : goal.returns-in-Dynamic
unfolding image_line
returns-in-Dynamic g c =
    told c.put_line-in-Dynamic.result _ _ _ _ _ _ c.put_line-in-Dynamic.ensures
    (indexed (codes ": image refused: Dynamic") c.from.result c.in-Dynamic.i _ c.from.ensures (sym (ap image_line c.in-Dynamic.is)))

pub returns-in-SegmentOutOfFile : goal.returns-in-SegmentOutOfFile
unfolding image_line
returns-in-SegmentOutOfFile g c =
    told c.put_line-in-SegmentOutOfFile.result _ _ _ _ _ _ c.put_line-in-SegmentOutOfFile.ensures
    (indexed (codes ": image refused: SegmentOutOfFile") c.from-in-SegmentOutOfFile.result c.in-SegmentOutOfFile.i _ c.from-in-SegmentOutOfFile.ensures (sym (ap image_line c.in-SegmentOutOfFile.is)))

pub returns-in-SizeAboveMemory : goal.returns-in-SizeAboveMemory
unfolding image_line
returns-in-SizeAboveMemory g c =
    told c.put_line-in-SizeAboveMemory.result _ _ _ _ _ _ c.put_line-in-SizeAboveMemory.ensures
    (indexed (codes ": image refused: SizeAboveMemory") c.from-in-SizeAboveMemory.result c.in-SizeAboveMemory.i _ c.from-in-SizeAboveMemory.ensures (sym (ap image_line c.in-SizeAboveMemory.is)))

pub returns-in-OutsideWindow : goal.returns-in-OutsideWindow
unfolding image_line
returns-in-OutsideWindow g c =
    told c.put_line-in-OutsideWindow.result _ _ _ _ _ _ c.put_line-in-OutsideWindow.ensures
    (indexed (codes ": image refused: OutsideWindow") c.from-in-OutsideWindow.result c.in-OutsideWindow.i _ c.from-in-OutsideWindow.ensures (sym (ap image_line c.in-OutsideWindow.is)))

pub returns-in-Entry : goal.returns-in-Entry
unfolding image_line
returns-in-Entry g c = told c.put_line-in-Entry.result _ _ _ _ _ _ c.put_line-in-Entry.ensures (sym (ap image_line c.in-Entry.is))
