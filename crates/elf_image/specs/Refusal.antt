-- The first refusal of a file as an image (this project's own list, over the fields of System V ABI's ELF32).
use Rattle.std.specs.Prelude.{ℕ, ◌+◌, ◌%◌, ◌==◌, ◌&&◌, ◌||◌, ◌≡◌, not, Bool, true, false, List, [], ◌∷◌, length, Option, Some, None, nat_eq, nat_lt, position, slice_get, option_map, bit_and}
use Rattle.std.specs.List.{starts_with}
use Rattle.rv_exec.specs.Window.{is_inside}
use Rattle.elf_image.specs.declared.layout.Segment.{Segment}
use Rattle.elf_image.specs.declared.refusal.ImageRefusal.{ImageRefusal}
use Rattle.elf_image.specs.declared.refusal.ImageRefusal.TheVariants.{TooLong, Short, Magic, Class, Order, Version, FileType, Machine, Flags, HeaderSize, SegmentCount, TableOutOfFile, Dynamic, SegmentOutOfFile, SizeAboveMemory, OutsideWindow, Entry}
use Rattle.elf_image.specs.Layout.{ei_class, ei_data, ei_version, e_type, e_machine, e_version, e_entry, e_flags, e_phentsize, e_phnum, table_end, segments_of, is_loaded}

-- a refusal, where its condition holds
abbrev pub when : Bool → ImageRefusal → Option ImageRefusal
when true refusal = Some refusal
when false refusal = None

-- a refusal of the least index at which a segment has the condition
abbrev pub least : (Segment → Bool) → (ℕ → ImageRefusal) → List Segment → Option ImageRefusal
least condition refusal segments = option_map refusal (position condition segments)

-- the first of two, or else the second
infixr 5 ◌orelse◌
abbrev pub ◌orelse◌ : Option ImageRefusal → Option ImageRefusal → Option ImageRefusal
(Some first) orelse second = Some first
None orelse second = second

-- the first four bytes of an ELF file: 0x7f, then "ELF"
abbrev pub magic : List ℕ
magic = 0x7f ∷ 0x45 ∷ 0x4c ∷ 0x46 ∷ []

-- it is a 32-bit little-endian ELF file of version 1, and not too long
unfoldable pub identity_refusal : List ℕ → Option ImageRefusal
identity_refusal bytes =
    when (nat_lt 16777216 (length bytes)) TooLong
    orelse when (nat_lt (length bytes) 52) Short
    orelse when (not (starts_with nat_eq bytes magic)) Magic
    orelse when (not (ei_class bytes == 1)) Class
    orelse when (not (ei_data bytes == 1)) Order
    orelse when (not (ei_version bytes == 1) || not (e_version bytes == 1)) Version

-- it is an executable file (ET_EXEC) for RISC-V (EM_RISCV), without compressed code, floats or the short set of registers
unfoldable pub machine_refusal : List ℕ → Option ImageRefusal
machine_refusal bytes =
    when (not (e_type bytes == 2)) FileType
    orelse when (not (e_machine bytes == 243)) Machine
    orelse when (not (bit_and (e_flags bytes) 15 == 0)) Flags

-- it has program headers
abbrev pub has_headers : List ℕ → Bool
has_headers bytes = not (e_phnum bytes == 0)

-- it has the program headers that it names
unfoldable pub table_refusal : List ℕ → Option ImageRefusal
table_refusal bytes =
    when (has_headers bytes && not (e_phentsize bytes == 32)) HeaderSize
    orelse when (nat_lt 64 (e_phnum bytes)) SegmentCount
    orelse when (has_headers bytes && nat_lt (length bytes) (table_end bytes)) TableOutOfFile

-- the segment needs a dynamic linker (ELF: PT_DYNAMIC, PT_INTERP)
abbrev pub is_dynamic : Segment → Bool
is_dynamic s = (s.kind == 2) || (s.kind == 3)

-- a byte that the segment takes from the file is beyond the file's length
abbrev pub is_out_of_file : ℕ → Segment → Bool
is_out_of_file len s = is_loaded s && (not (s.filesz == 0) && nat_lt len (s.offset + s.filesz))

-- the segment takes more bytes from the file than it has in memory
abbrev pub is_above_memory : Segment → Bool
is_above_memory s = is_loaded s && nat_lt s.memsz s.filesz

-- a byte of the segment is outside the window of this size
abbrev pub is_outside_window : ℕ → Segment → Bool
is_outside_window size s = is_loaded s && (not (s.memsz == 0) && not (is_inside size s.vaddr s.memsz))

-- no segment has the condition
abbrev pub NonePass : (Segment → Bool) → List Segment → Type 0
NonePass condition segments = (i : ℕ) (s : Segment) → slice_get segments i ≡ Some s → condition s ≡ false

-- each segment can be copied; the file has len bytes, the window size
unfoldable pub segment_refusal : ℕ → ℕ → List Segment → Option ImageRefusal
segment_refusal len size segments =
    least is_dynamic Dynamic segments
    orelse least (is_out_of_file len) SegmentOutOfFile segments
    orelse least is_above_memory SizeAboveMemory segments
    orelse least (is_outside_window size) OutsideWindow segments

-- the first instruction is aligned and inside the window
unfoldable pub entry_refusal : ℕ → ℕ → Option ImageRefusal
entry_refusal size entry = when (not (entry % 4 == 0) || not (is_inside size entry 4)) Entry

-- the first refusal of a file for a window of this size
unfoldable pub first_refusal : List ℕ → ℕ → Option ImageRefusal
first_refusal bytes size =
    identity_refusal bytes
    orelse machine_refusal bytes
    orelse table_refusal bytes
    orelse segment_refusal (length bytes) size (segments_of bytes)
    orelse entry_refusal size (e_entry bytes)
