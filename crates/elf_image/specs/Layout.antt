-- The layout of a 32-bit little-endian ELF file (System V ABI), and the memory that its segments make.
use Rattle.std.specs.Prelude.{ℕ, zero, suc, ◌+◌, ◌-◌, ◌*◌, ◌==◌, ◌&&◌, ◌≡◌, ◌<◌, List, [], ◌∷◌, drop, length, reverse, find, slice_index, nat_le, nat_lt, Bool, Option, Some, None, if◌then◌else◌}
use Rattle.byteorder.specs.Endian.{little_number}
use Rattle.rv_exec.specs.Window.{base}
use Rattle.elf_image.specs.declared.layout.Segment.{Segment}

-- the number of the two bytes at an offset of the file (ELF: Elf32_Half)
abbrev pub half_at : List ℕ → ℕ → ℕ
half_at bytes at = little_number 2 (drop at bytes)

-- the number of the four bytes at an offset of the file (ELF: Elf32_Word, Elf32_Addr, Elf32_Off)
abbrev pub word_at : List ℕ → ℕ → ℕ
word_at bytes at = little_number 4 (drop at bytes)

-- the bytes of the file's header that tell what follows it (ELF: e_ident)
abbrev pub ei_class : List ℕ → ℕ
ei_class bytes = slice_index bytes 4

abbrev pub ei_data : List ℕ → ℕ
ei_data bytes = slice_index bytes 5

abbrev pub ei_version : List ℕ → ℕ
ei_version bytes = slice_index bytes 6

-- the other fields of the file's header, as far as they are looked at (ELF: Elf32_Ehdr)
abbrev pub e_type : List ℕ → ℕ
e_type bytes = half_at bytes 16

abbrev pub e_machine : List ℕ → ℕ
e_machine bytes = half_at bytes 18

abbrev pub e_version : List ℕ → ℕ
e_version bytes = word_at bytes 20

abbrev pub e_entry : List ℕ → ℕ
e_entry bytes = word_at bytes 24

abbrev pub e_phoff : List ℕ → ℕ
e_phoff bytes = word_at bytes 28

abbrev pub e_flags : List ℕ → ℕ
e_flags bytes = word_at bytes 36

abbrev pub e_phentsize : List ℕ → ℕ
e_phentsize bytes = half_at bytes 42

abbrev pub e_phnum : List ℕ → ℕ
e_phnum bytes = half_at bytes 44

-- the offset after the last program header, each of which has 32 bytes
abbrev pub table_end : List ℕ → ℕ
table_end bytes = e_phoff bytes + 32 * e_phnum bytes

-- the segment whose program header stands at an offset of the file (ELF: Elf32_Phdr)
unfoldable pub segment_at : List ℕ → ℕ → Segment
segment_at bytes at = record {
  kind = word_at bytes at;
  offset = word_at bytes (at + 4);
  vaddr = word_at bytes (at + 8);
  filesz = word_at bytes (at + 16);
  memsz = word_at bytes (at + 20);
}

-- the segments of this many program headers, of 32 bytes each, from an offset on
abbrev pub segments_from : List ℕ → ℕ → ℕ → List Segment
segments_from bytes at zero = []
segments_from bytes at (suc n) = segment_at bytes at ∷ segments_from bytes (at + 32) n

-- the segments of the file
unfoldable pub segments_of : List ℕ → List Segment
segments_of bytes = segments_from bytes (e_phoff bytes) (e_phnum bytes)

-- the segment is one that is copied into memory (ELF: PT_LOAD)
abbrev pub is_loaded : Segment → Bool
is_loaded s = s.kind == 1

-- the segment is copied, and has this address
abbrev pub covers : ℕ → Segment → Bool
covers addr s = is_loaded s && (nat_le s.vaddr addr && nat_lt addr (s.vaddr + s.memsz))

-- the byte of the segment at an address that it covers: the file's within filesz, and 0 beyond
abbrev pub byte_in : List ℕ → ℕ → Segment → ℕ
byte_in bytes addr s =
    if nat_lt (addr - s.vaddr) s.filesz then slice_index bytes (s.offset + (addr - s.vaddr)) else 0

-- the byte at an address that this segment covers, or that none does
abbrev pub byte_of : List ℕ → ℕ → Option Segment → ℕ
byte_of bytes addr None = 0
byte_of bytes addr (Some s) = byte_in bytes addr s

-- the byte at an address in the start memory: of the last segment that covers it, and 0 where none does
unfoldable pub start_byte : List ℕ → List Segment → ℕ → ℕ
start_byte bytes segments addr = byte_of bytes addr (find (covers addr) (reverse segments))

-- the window of this size is the start memory of the file with these segments
pub record IsStart (bytes : List ℕ) (segments : List Segment) (size : ℕ) (mem : List ℕ) : Type 0 where
  pub long : length mem ≡ size
  pub each : (k : ℕ) → k < size → slice_index mem k ≡ start_byte bytes segments (base + k)
