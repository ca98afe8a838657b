-- So far the words that were read stand after what the file had.
use Rattle.std.proofs.Common.{◌≡◌, ◌++◌, take}
use Rattle.std.specs.List.{flat_map}
use Rattle.workload_gen.specs.Sheet.{word}
use Rattle.workload_gen.proofs.image.push_words.Given as goal

abbrev pub invariant-loop-word : goal.invariant-loop-word
invariant-loop-word l = l.file.items ≡ l.initial.file.items ++ flat_map word (take l.word-index l.words)
