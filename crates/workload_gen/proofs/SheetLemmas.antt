-- Why a sheet is an image, and what its start memory holds.
use Rattle.std.proofs.Common.{◌≡◌, ℕ, zero, suc, ◌+◌, ◌*◌, ◌-◌, ◌^◌, ◌<◌, ◌≤◌, true, false, List, [], ◌∷◌, ◌++◌, length, drop, get_or, eqb, leb, ltb, None, refl, sym, ap, subst, ◌∙◌, arith}
use Rattle.std.specs.Prelude.{nat_eq, slice_index}
use Rattle.std.specs.List.{flat_map, starts_with}
use Rattle.std.proofs.lemmas.Bool.{le-ltb, lt-ltb, le-leb}
use Rattle.std.proofs.lemmas.Bool.Decides.{nat_tests}
use Rattle.std.proofs.lemmas.List.{get_or-drop}
use Rattle.std.proofs.Math.Seq.{drop-append-add}
use Rattle.byteorder.specs.Endian.{little_number}
use Rattle.byteorder.specs.Numbers.{little_number-reads_back}
use Rattle.rv_exec.specs.Window.{base, IsMemorySize}
use Rattle.elf_image.specs.declared.layout.Segment.{Segment}
use Rattle.elf_image.specs.Layout.{ei_class, ei_data, ei_version, e_type, e_machine, e_version, e_entry, e_flags, e_phoff, e_phentsize, e_phnum, segment_at, segments_of, start_byte, IsStart}
use Rattle.elf_image.specs.Refusal.{magic, identity_refusal, machine_refusal, table_refusal, segment_refusal, entry_refusal, first_refusal}
use Rattle.workload_gen.specs.Sheet.{word, headers_size, code_address, file_header, program_header, sheet_bytes, HoldsWords, IsImageEverywhere}

-- the sheet's one segment: the whole file of this size
abbrev whole : ℕ → Segment
whole size = record { kind = 1; offset = 0; vaddr = base; filesz = size; memsz = size }

-- a file's identity, from the fields that are looked at
identity-none : (bytes : List ℕ) → length bytes ≤ 16777216 → 52 ≤ length bytes → starts_with nat_eq bytes magic ≡ true
    → ei_class bytes ≡ 1 → ei_data bytes ≡ 1 → ei_version bytes ≡ 1 → e_version bytes ≡ 1
    → identity_refusal bytes ≡ None
unfolding identity_refusal
identity-none bytes short long is_magic class order version file_version =
    let not_too_long = le-ltb 16777216 (length bytes) short in
    let not_short = le-ltb (length bytes) 52 long in
    rw (not_too_long, not_short, is_magic, class, order, version, file_version) refl

machine-none : (bytes : List ℕ) → e_type bytes ≡ 2 → e_machine bytes ≡ 243 → e_flags bytes ≡ 0
    → machine_refusal bytes ≡ None
unfolding machine_refusal
machine-none bytes type machine flags = rw (type, machine, flags) refl

table-none : (bytes : List ℕ) → e_phnum bytes ≡ 1 → e_phentsize bytes ≡ 32 → e_phoff bytes ≡ 52 → 84 ≤ length bytes
    → table_refusal bytes ≡ None
unfolding table_refusal
table-none bytes count each from long =
    let inside = le-ltb (length bytes) 84 long in
    rw (count, each, from, inside) refl

-- the whole file can be copied to the beginning of a window that has room for it
segment-none : (len size n : ℕ) → 0 < n → n ≤ len → n ≤ size → segment_refusal len size (whole n ∷ []) ≡ None
unfolding segment_refusal
segment-none len size n some in_file room =
    let full : eqb n 0 ≡ false = grind (arith, nat_tests) in
    let has_bytes : ltb len (0 + n) ≡ false = le-ltb len (0 + n) (omega arith) in
    let not_above : ltb n n ≡ false = le-ltb n n (omega arith) in
    let inside : leb (base + n) (base + size) ≡ true = le-leb (base + n) (base + size) (omega arith) in
    rw (full, has_bytes, not_above, inside) refl

-- the window has room for the first instruction
entry-none : (size : ℕ) → 65536 ≤ size → entry_refusal size code_address ≡ None
unfolding entry_refusal
entry-none size large =
    let inside : leb (code_address + 4) (base + size) ≡ true = le-leb (code_address + 4) (base + size) (omega arith) in
    rw inside refl

-- a file with these headers, where the program header names this size
abbrev with_headers : ℕ → List ℕ → List ℕ
with_headers size rest = file_header ++ program_header size ++ rest

module _ (n : ℕ) (rest : List ℕ) where
  length-headers : length (with_headers n rest) ≡ headers_size + length rest
  unfolding file_header program_header
  length-headers = omega arith

  identity-headers : length (with_headers n rest) ≤ 16777216 → identity_refusal (with_headers n rest) ≡ None
  unfolding file_header program_header
  identity-headers short =
      identity-none (with_headers n rest) short (omega (arith, length-headers)) refl refl refl refl refl

  machine-headers : machine_refusal (with_headers n rest) ≡ None
  unfolding file_header program_header
  machine-headers = machine-none (with_headers n rest) refl refl refl

  table-headers : table_refusal (with_headers n rest) ≡ None
  unfolding file_header program_header
  table-headers = table-none (with_headers n rest) refl refl refl (omega (arith, length-headers))

  pub entry-headers : e_entry (with_headers n rest) ≡ code_address
  unfolding file_header program_header
  entry-headers = refl

  segments-headers : n < 2 ^ 32 → segments_of (with_headers n rest) ≡ whole n ∷ []
  unfolding file_header program_header segments_of segment_at
  segments-headers fits =
      let size : little_number 4 (word n ++ []) ≡ n = little_number-reads_back 4 n [] (omega arith) in
      rw size refl

  accepted-headers : (size : ℕ) → n ≡ headers_size + length rest → n ≤ 16777216 → n ≤ size → 65536 ≤ size
      → first_refusal (with_headers n rest) size ≡ None
  unfolding first_refusal
  accepted-headers size long short room large =
      let len : length (with_headers n rest) ≡ n = length-headers ∙ sym long in
      let identity = identity-headers (omega arith) in
      let segments = segments-headers (omega arith) in
      let segment = segment-none (length (with_headers n rest)) size n (omega arith) (omega arith) room in
      rw (identity, machine-headers, table-headers, segments, segment, entry-headers, entry-none size large) refl

  -- after the headers stands the rest
  drop-headers : (at : ℕ) → drop (headers_size + at) (with_headers n rest) ≡ drop at rest
  unfolding file_header program_header
  drop-headers at = drop-append-add (file_header ++ program_header n) rest at

-- where a segment is the whole file, the start memory begins with the file
start-whole : (bytes : List ℕ) (n k : ℕ) → k < n → start_byte bytes (whole n ∷ []) (base + k) ≡ slice_index bytes k
unfolding start_byte
start-whole bytes n k below =
    let low : leb base (base + k) ≡ true = le-leb base (base + k) (omega arith) in
    let high : ltb (base + k) (base + n) ≡ true = lt-ltb (base + k) (base + n) (omega arith) in
    let at : (base + k) - base ≡ k = omega arith in
    let from : 0 + k ≡ k = omega arith in
    let within : ltb k n ≡ true = lt-ltb k n below in
    rw (low, high, at, within, from) refl

memory-whole : (bytes mem : List ℕ) (n size k : ℕ) → n ≤ size → IsStart bytes (whole n ∷ []) size mem → k < n
    → slice_index mem k ≡ slice_index bytes k
memory-whole bytes mem n size k room start below = start.each k (omega arith) ∙ start-whole bytes n k below

-- lists with the same bytes below a bound have the same numbers there
number-same : (xs ys : List ℕ) (at bound : ℕ) → ((k : ℕ) → k < bound → slice_index xs k ≡ slice_index ys k)
    → at + 4 ≤ bound
    → little_number 4 (drop at xs) ≡ little_number 4 (drop at ys)
number-same xs ys at bound same inside =
    let byte : (i : ℕ) → i < 4 → get_or (drop at xs) i 0 ≡ get_or (drop at ys) i 0 =
    λ i few. get_or-drop at xs i 0 ∙ same (at + i) (omega arith) ∙ sym (get_or-drop at ys i 0) in
    rw (byte 0 (omega arith), byte 1 (omega arith), byte 2 (omega arith), byte 3 (omega arith)) refl

-- the number at a word's place is the word
words-number : (code : List ℕ) (k : ℕ) → k < length code → slice_index code k < 2 ^ 32
    → little_number 4 (drop (4 * k) (flat_map word code)) ≡ slice_index code k
words-number [] k below fits = absurd (omega arith)
words-number (c ∷ cs) zero below fits = little_number-reads_back 4 c (flat_map word cs) (omega arith)
words-number (c ∷ cs) (suc k) below fits =
    let at : 4 * suc k ≡ suc (suc (suc (suc (4 * k)))) = omega arith in
    rw at (words-number cs k (omega arith) fits)

-- there are four bytes a word
length-words : (code : List ℕ) → length (flat_map word code) ≡ 4 * length code
length-words [] = refl
length-words (c ∷ cs) = let more = length-words cs in omega arith

-- the start memory of a sheet holds its code
code-stands : (code : List ℕ) (n size : ℕ) (mem : List ℕ) → n ≡ headers_size + 4 * length code → n < 2 ^ 32 → n ≤ size
    → ((k : ℕ) → slice_index code k < 2 ^ 32)
    → IsStart (with_headers n (flat_map word code)) (segments_of (with_headers n (flat_map word code))) size mem
    → HoldsWords code_address code mem
code-stands code n size mem long fits room words start k below =
    let bytes = with_headers n (flat_map word code) in
    let start' : IsStart bytes (whole n ∷ []) size mem =
    subst (λ (s : List Segment). IsStart bytes s size mem) (segments-headers n (flat_map word code) fits) start in
    let at : (code_address + 4 * k) - base ≡ headers_size + 4 * k = omega arith in
    ap (λ a. little_number 4 (drop a mem)) at
    ∙ number-same mem bytes (headers_size + 4 * k) n
    (λ i low. memory-whole bytes mem n size i room start' low) (omega arith)
    ∙ ap (little_number 4) (drop-headers n (flat_map word code) (4 * k))
    ∙ words-number code k below (words k)

-- what the test of a window's size says
size-large : (size : ℕ) → IsMemorySize size → 65536 ≤ size
size-large size known = grind (arith, nat_tests)

-- a sheet has its headers, and four bytes a word
pub length-sheet : (code : List ℕ) → length (sheet_bytes code) ≡ headers_size + 4 * length code
unfolding sheet_bytes
length-sheet code =
    let len = length-words code in
    let long = length-headers (headers_size + 4 * length code) (flat_map word code) in
    omega arith

-- a sheet is an image that enters at its code, for each window: the smallest has room for the most words
pub sheet-image : (code : List ℕ) → length code ≤ 10000 → ((k : ℕ) → slice_index code k < 2 ^ 32)
    → IsImageEverywhere code (sheet_bytes code)
unfolding sheet_bytes
sheet-image code few words size known =
    let n = headers_size + 4 * length code in
    let rest = flat_map word code in
    let len = length-words code in
    let large = size-large size known in
    record {
      accepted = accepted-headers n rest size (omega arith) (omega arith) (omega arith) large;
      entry = entry-headers n rest;
      code_stands = λ mem start. code-stands code n size mem refl (omega arith) (omega arith) words start;
    }
