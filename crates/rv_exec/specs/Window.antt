-- The window of memory: bytes by address (this project's own), the lowest byte of a number first (RISC-V, little-endian).
use Rattle.std.specs.Prelude.{ℕ, ◌+◌, ◌-◌, ◌≡◌, ◌⊎◌, ◌++◌, ◌==◌, ◌%◌, List, replicate, length, take, drop, Bool, ◌&&◌, ◌||◌, IsTrue, nat_le}
use Rattle.byteorder.specs.Endian.{little_number}

-- this many zeros (kept folded, since a large number of them would be written out)
unfoldable pub zeros : ℕ → List ℕ
zeros n = replicate n 0

-- the address of the window's first byte
abbrev pub base : ℕ
base = 0x10000

-- a size that a window may have
abbrev pub IsMemorySize : ℕ → Type 0
IsMemorySize size = IsTrue (size % 4096 == 0 && (nat_le 65536 size && nat_le size 67108864))

-- all of count bytes from the address on lie in a window of this size
abbrev pub is_inside : ℕ → ℕ → ℕ → Bool
is_inside size addr count = nat_le base addr && nat_le (addr + count) (base + size)

-- the same, where no byte is inside anywhere
abbrev pub fits : ℕ → ℕ → ℕ → Bool
fits size addr count = (count == 0) || is_inside size addr count

-- the number that the bytes from an address on spell
abbrev pub number_at : List ℕ → ℕ → ℕ → ℕ
number_at mem addr width = little_number width (drop (addr - base) mem)

-- the bytes from an address on
abbrev pub bytes_at : List ℕ → ℕ → ℕ → List ℕ
bytes_at mem addr count = take count (drop (addr - base) mem)

-- the window with these bytes from an address on
abbrev pub with_bytes : List ℕ → ℕ → List ℕ → List ℕ
with_bytes mem addr bytes = take (addr - base) mem ++ (bytes ++ drop ((addr - base) + length bytes) mem)

-- how many bytes a load or a store moves (RISC-V)
abbrev pub IsWidth : ℕ → Type 0
IsWidth width = (width ≡ 1) ⊎ ((width ≡ 2) ⊎ (width ≡ 4))
