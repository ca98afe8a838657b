-- Why a replay did not run to its end, its status, and the line that tells it (this project's own texts).
use Rattle.std.specs.Prelude.{ℕ, List, [], ◌∷◌, ◌++◌, codes}
use Rattle.elf_image.specs.declared.refusal.ImageRefusal.{ImageRefusal}
use Rattle.elf_image.specs.declared.refusal.ImageRefusal.TheVariants.{TooLong, Short, Magic, Class, Order, Version, FileType, Machine, Flags, HeaderSize, SegmentCount, TableOutOfFile, Dynamic, SegmentOutOfFile, SizeAboveMemory, OutsideWindow, Entry}
use Rattle.posix_model.specs.Lines.{line}
use Rattle.journal_text.specs.declared.refusal.JournalRefusal.{JournalRefusal}
use Rattle.journal_text.specs.declared.refusal.JournalRefusal.TheVariants.{TooLong as JournalTooLong, Header, Line, Number, Signal, Order as JournalOrder, AfterEof, TooMany, NoMemory as JournalNoMemory}
use Rattle.replay_cli.specs.declared.failure.Failure.{Failure}
use Rattle.replay_cli.specs.declared.failure.Failure.TheVariants.{Words, ImageFile, JournalFile, Image, Journal, Output, Memory}
use Rattle.replay_cli.specs.declared.failure.Status.{Status}
use Rattle.replay_cli.specs.declared.failure.Status.TheVariants.{Ran as RanStatus, Words as WordsStatus, ReadFault, Image as ImageStatus, Journal as JournalStatus, WriteFault, NoMemory}

-- the exit code of a status
abbrev pub code_of : Status → ℕ
code_of RanStatus = 0
code_of WordsStatus = 2
code_of ReadFault = 3
code_of ImageStatus = 4
code_of JournalStatus = 5
code_of WriteFault = 6
code_of NoMemory = 7

-- the status of a failure
abbrev pub status_of : Failure → Status
status_of Words = WordsStatus
status_of ImageFile = ReadFault
status_of JournalFile = ReadFault
status_of (Image refusal) = ImageStatus
status_of (Journal refusal) = JournalStatus
status_of Output = WriteFault
status_of Memory = NoMemory

-- the line of a refused image, without the name of the program: the refusal's name, and its index where it has one
unfoldable pub image_line : ImageRefusal → List ℕ
image_line TooLong = line (codes ": image refused: TooLong") []
image_line Short = line (codes ": image refused: Short") []
image_line Magic = line (codes ": image refused: Magic") []
image_line Class = line (codes ": image refused: Class") []
image_line Order = line (codes ": image refused: Order") []
image_line Version = line (codes ": image refused: Version") []
image_line FileType = line (codes ": image refused: FileType") []
image_line Machine = line (codes ": image refused: Machine") []
image_line Flags = line (codes ": image refused: Flags") []
image_line HeaderSize = line (codes ": image refused: HeaderSize") []
image_line SegmentCount = line (codes ": image refused: SegmentCount") []
image_line TableOutOfFile = line (codes ": image refused: TableOutOfFile") []
image_line (Dynamic i) = line (codes ": image refused: Dynamic") (i ∷ [])
image_line (SegmentOutOfFile i) = line (codes ": image refused: SegmentOutOfFile") (i ∷ [])
image_line (SizeAboveMemory i) = line (codes ": image refused: SizeAboveMemory") (i ∷ [])
image_line (OutsideWindow i) = line (codes ": image refused: OutsideWindow") (i ∷ [])
image_line Entry = line (codes ": image refused: Entry") []

-- the same of a refused journal: the refusal's name, and the number of its line where it has one
unfoldable pub journal_line : JournalRefusal → List ℕ
journal_line JournalTooLong = line (codes ": journal refused: TooLong") []
journal_line Header = line (codes ": journal refused: Header") []
journal_line (Line number) = line (codes ": journal refused: Line") (number ∷ [])
journal_line (Number number) = line (codes ": journal refused: Number") (number ∷ [])
journal_line (Signal number) = line (codes ": journal refused: Signal") (number ∷ [])
journal_line (JournalOrder number) = line (codes ": journal refused: Order") (number ∷ [])
journal_line (AfterEof number) = line (codes ": journal refused: AfterEof") (number ∷ [])
journal_line (TooMany number) = line (codes ": journal refused: TooMany") (number ∷ [])
journal_line JournalNoMemory = line (codes ": journal refused: NoMemory") []

-- the line of a failure, without the name of the program
unfoldable pub cause_line : Failure → List ℕ
cause_line Words = line (codes ": words") []
cause_line ImageFile = line (codes ": cannot read image") []
cause_line JournalFile = line (codes ": cannot read journal") []
cause_line (Image refusal) = image_line refusal
cause_line (Journal refusal) = journal_line refusal
cause_line Output = line (codes ": cannot write") []
cause_line Memory = line (codes ": no memory") []

-- the line of a failure, which begins with the name of the program
unfoldable pub line_of : List ℕ → Failure → List ℕ
line_of program failure = program ++ cause_line failure
