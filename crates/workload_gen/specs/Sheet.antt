-- A sheet: a small ELF file for RV32IM that holds given code (System V ABI, ELF32; its shape is this project's own).
use Rattle.std.specs.Prelude.{ℕ, ◌+◌, ◌*◌, ◌≡◌, ◌<◌, ◌∷◌, ◌++◌, List, [], None, length, replicate, slice_index}
use Rattle.std.specs.List.{flat_map}
use Rattle.byteorder.specs.Endian.{little_bytes}
use Rattle.rv_exec.specs.Window.{base, number_at, IsMemorySize}
use Rattle.elf_image.specs.Layout.{e_entry, segments_of, IsStart}
use Rattle.elf_image.specs.Refusal.{magic, first_refusal}

-- the bytes of a number (ELF: Elf32_Half; Elf32_Word, Elf32_Addr and Elf32_Off)
abbrev pub half : ℕ → List ℕ
half n = little_bytes 2 n

abbrev pub word : ℕ → List ℕ
word n = little_bytes 4 n

-- the size of the file's header and of its one program header, after which the code stands
abbrev pub headers_size : ℕ
headers_size = 84

-- the address of the first word of the code
abbrev pub code_address : ℕ
code_address = base + headers_size

-- the file's header (ELF: Elf32_Ehdr): an executable file for RISC-V with one program header and no section
unfoldable pub file_header : List ℕ
file_header =
    magic  -- e_ident: 0x7f, "ELF",
    ++ 1 ∷ 1 ∷ 1 ∷ []  -- ELFCLASS32, ELFDATA2LSB, EV_CURRENT,
    ++ replicate 9 0  -- and zeros to its end
    ++ half 2  -- e_type: ET_EXEC
    ++ half 243  -- e_machine: EM_RISCV
    ++ word 1  -- e_version: EV_CURRENT
    ++ word code_address  -- e_entry
    ++ word 52  -- e_phoff: directly after this header
    ++ word 0  -- e_shoff
    ++ word 0  -- e_flags
    ++ half 52  -- e_ehsize
    ++ half 32  -- e_phentsize
    ++ half 1  -- e_phnum
    ++ half 0  -- e_shentsize
    ++ half 0  -- e_shnum
    ++ half 0  -- e_shstrndx

-- the program header (ELF: Elf32_Phdr): the whole file of this size is copied to the window's beginning
unfoldable pub program_header : ℕ → List ℕ
program_header size =
    word 1  -- p_type: PT_LOAD
    ++ word 0  -- p_offset
    ++ word base  -- p_vaddr
    ++ word base  -- p_paddr
    ++ word size  -- p_filesz
    ++ word size  -- p_memsz
    ++ word 5  -- p_flags: PF_R and PF_X
    ++ word 4096  -- p_align

-- the bytes of the sheet with this code
unfoldable pub sheet_bytes : List ℕ → List ℕ
sheet_bytes code = file_header ++ program_header (headers_size + 4 * length code) ++ flat_map word code

-- a memory holds these words from an address on
abbrev pub HoldsWords : ℕ → List ℕ → List ℕ → Type 0
HoldsWords addr words mem = (k : ℕ) → k < length words → number_at mem (addr + 4 * k) 4 ≡ slice_index words k

-- for a window of this size the bytes are an image that enters at this code
pub record IsImageOf (code bytes : List ℕ) (size : ℕ) : Type 0 where
  pub accepted : first_refusal bytes size ≡ None
  pub entry : e_entry bytes ≡ code_address
  pub code_stands : (mem : List ℕ) → IsStart bytes (segments_of bytes) size mem → HoldsWords code_address code mem

-- they are such an image for each size that a window may have
abbrev pub IsImageEverywhere : List ℕ → List ℕ → Type 0
IsImageEverywhere code bytes = (size : ℕ) → IsMemorySize size → IsImageOf code bytes size
