-- How the copy of one segment changes the window, byte by byte.
use Rattle.std.specs.Prelude.{ℕ, ◌+◌, ◌-◌, ◌&&◌, ◌≡◌, ◌<◌, ◌≤◌, List, slice_index, slice_get, nat_le, nat_lt, Some, if◌then◌else◌}
use Rattle.rv_exec.specs.Window.{base}
use Rattle.elf_image.specs.declared.layout.Segment.{Segment}
use Rattle.elf_image.specs.Layout.{covers, byte_in}

-- the file of len bytes has what the segment takes from it, and the window of this size has room for it
pub record IsPlaceable (len size : ℕ) (s : Segment) : Type 0 where
  pub larger : s.filesz ≤ s.memsz
  pub in_file : 0 < s.filesz → s.offset + s.filesz ≤ len
  pub low : 0 < s.memsz → base ≤ s.vaddr
  pub high : 0 < s.memsz → s.vaddr + s.memsz ≤ base + size

-- each segment that is copied is placeable
pub record ArePlaceable (len size : ℕ) (segments : List Segment) : Type 0 where
  pub each : (i : ℕ) (s : Segment) → slice_get segments i ≡ Some s → s.kind ≡ 1 → IsPlaceable len size s

-- the byte at place k of the window, once the segment's bytes of the file are copied
abbrev pub with_part : List ℕ → Segment → List ℕ → ℕ → ℕ
with_part bytes s old k =
    if nat_le s.vaddr (base + k) && nat_lt (base + k) (s.vaddr + s.filesz)
    then slice_index bytes (s.offset + ((base + k) - s.vaddr))
    else slice_index old k

-- the byte at place k of the window, once the rest of the segment is cleared
abbrev pub with_rest : Segment → List ℕ → ℕ → ℕ
with_rest s old k =
    if nat_le (s.vaddr + s.filesz) (base + k) && nat_lt (base + k) (s.vaddr + s.memsz)
    then 0
    else slice_index old k

-- the byte at place k of the window, once the segment is copied
abbrev pub with_segment : List ℕ → Segment → List ℕ → ℕ → ℕ
with_segment bytes s old k = if covers (base + k) s then byte_in bytes (base + k) s else slice_index old k
