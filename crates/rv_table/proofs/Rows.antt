-- Comparing a whole word with the rows and testing its fields come to the same.
use Rattle.std.proofs.Common.{◌≡◌, ℕ, ◌+◌, ◌*◌, ◌/◌, ◌%◌, ◌^◌, ◌<◌, ◌&&◌, Bool, true, false, cond, eqb, ltb, List, [], ◌∷◌, Option, Some, None, refl, sym, ◌∙◌, ap, arith}
use Rattle.std.specs.Prelude.{bit_and}
use Rattle.std.proofs.lemmas.Nat.{and_block, shr_split, and_mask}
use Rattle.std.proofs.lemmas.Bool.Decides.{nat_tests}
use Rattle.rv_table.specs.declared.Instr.{Instr}
use Rattle.rv_table.specs.Table.{Pattern, Opcode, Funct3, Funct7, Whole, Row, rows, matches, row_among, row_of, with_immediate, decoded}
use Rattle.rv_table.specs.Fields.{has_fields, among_by_fields, row_by_fields}

-- the fields of a word, as the code picks them
abbrev opcode_of : ℕ → ℕ
opcode_of word = bit_and word 0x7f

abbrev funct3_of : ℕ → ℕ
funct3_of word = bit_and (word / 2 ^ 12) 7

abbrev funct7_of : ℕ → ℕ
funct7_of word = word / 2 ^ 25

pub both_true : (a b : Bool) → (a && b) ≡ true → (a ≡ true) × (b ≡ true)
both_true true b e = (refl, e)
both_true false b e = cc

-- under the mask of opcode and funct3 a word is these two fields
and_707f : (word : ℕ) → bit_and word 0x707f ≡ funct3_of word * 2 ^ 12 + opcode_of word
and_707f word =
    let high = word / 2 ^ 12 in
    let low = word % 2 ^ 12 in
    let same_opcode : opcode_of low ≡ opcode_of word = and_mask low 7 ∙ (omega arith ∙ sym (and_mask word 7)) in
    ap (λ x. bit_and x 0x707f) (sym (shr_split word 12))
    ∙ (and_block 12 high 7 low 0x7f (omega arith) (omega arith)
    ∙ ap (λ x. bit_and high 7 * 2 ^ 12 + x) same_opcode)

-- under the mask of opcode, funct3 and funct7 it is these three
and_fe00707f : (word : ℕ) → word < 2 ^ 32
    → bit_and word 0xfe00707f ≡ funct7_of word * 2 ^ 25 + (funct3_of word * 2 ^ 12 + opcode_of word)
and_fe00707f word range =
    let high = word / 2 ^ 25 in
    let low = word % 2 ^ 25 in
    let whole_high : bit_and high 0x7f ≡ high = and_mask high 7 ∙ omega arith in
    let same_funct3 : funct3_of low ≡ funct3_of word =
    and_mask (low / 2 ^ 12) 3 ∙ (omega arith ∙ sym (and_mask (word / 2 ^ 12) 3)) in
    let same_opcode : opcode_of low ≡ opcode_of word = and_mask low 7 ∙ (omega arith ∙ sym (and_mask word 7)) in
    ap (λ x. bit_and x 0xfe00707f) (sym (shr_split word 25))
    ∙ (and_block 25 high 0x7f low 0x707f (omega arith) (omega arith)
    ∙ (ap (λ x. x * 2 ^ 25 + bit_and low 0x707f) whole_high
    ∙ ap (λ x. high * 2 ^ 25 + x) (and_707f low
    ∙ (ap (λ x. x * 2 ^ 12 + opcode_of low) same_funct3
    ∙ ap (λ x. funct3_of word * 2 ^ 12 + x) same_opcode))))

-- a pattern's own fields are in range
abbrev is_sound : Pattern → Bool
is_sound (Opcode o) = ltb o 128
is_sound (Funct3 o f) = ltb o 128 && ltb f 8
is_sound (Funct7 o f g) = ltb o 128 && (ltb f 8 && ltb g 128)
is_sound (Whole v) = eqb (v % 128) 0x73 && ltb v (2 ^ 32)

abbrev are_sound : List Row → Bool
are_sound [] = true
are_sound (r ∷ rs) = is_sound r.pattern && are_sound rs

-- two or three fields put together are equal where each is
two_fields : (a b f o : ℕ) → b < 128 → o < 128 → eqb (a * 2 ^ 12 + b) (f * 2 ^ 12 + o) ≡ (eqb b o && eqb a f)
two_fields a b f o p q = grind (arith, nat_tests)

three_fields : (c a b g f o : ℕ) → b < 128 → o < 128 → a < 8 → f < 8
    → eqb (c * 2 ^ 25 + (a * 2 ^ 12 + b)) (g * 2 ^ 25 + (f * 2 ^ 12 + o)) ≡ (eqb b o && (eqb a f && eqb c g))
three_fields c a b g f o p q r s = grind (arith, nat_tests)

-- a whole word of opcode 0x73 is equal where its opcode is and the word is
whole_word : (word v : ℕ) → word < 2 ^ 32 → eqb (v % 128) 0x73 ≡ true
    → eqb (bit_and word 0xffffffff) v ≡ (eqb (opcode_of word) 0x73 && eqb word v)
whole_word word v range sound =
    let whole : bit_and word 0xffffffff ≡ word = and_mask word 32 ∙ omega arith in
    let opcode = and_mask word 7 in
    rw whole (grind (arith, nat_tests))

-- a word matches a pattern where its fields do
same_test : (p : Pattern) (word : ℕ) → word < 2 ^ 32 → is_sound p ≡ true
    → matches p word ≡ has_fields p (opcode_of word) (funct3_of word) (funct7_of word) word
same_test (Opcode o) word range sound = refl
same_test (Funct3 o f) word range sound =
    let opcode_small : opcode_of word < 128 = omega (arith, and_mask word 7) in
    let o_small : o < 128 = grind (arith, nat_tests) in
    ap (λ x. eqb x (f * 2 ^ 12 + o)) (and_707f word)
    ∙ two_fields (funct3_of word) (opcode_of word) f o opcode_small o_small
same_test (Funct7 o f g) word range sound =
    let opcode_small : opcode_of word < 128 = omega (arith, and_mask word 7) in
    let funct3_small : funct3_of word < 8 = omega (arith, and_mask (word / 2 ^ 12) 3) in
    let parts = both_true (ltb o 128) (ltb f 8 && ltb g 128) sound in
    let rest = both_true (ltb f 8) (ltb g 128) parts.1 in
    let o_small : o < 128 = grind (arith, nat_tests) in
    let f_small : f < 8 = grind (arith, nat_tests) in
    ap (λ x. eqb x (g * 2 ^ 25 + (f * 2 ^ 12 + o))) (and_fe00707f word range)
    ∙ three_fields (funct7_of word) (funct3_of word) (opcode_of word) g f o opcode_small o_small funct3_small f_small
same_test (Whole v) word range sound = whole_word word v range (both_true (eqb (v % 128) 0x73) (ltb v (2 ^ 32)) sound).0

-- the first row that matches is the first that has the fields
same_row : (rs : List Row) (word : ℕ) → word < 2 ^ 32 → are_sound rs ≡ true
    → row_among rs word ≡ among_by_fields rs (opcode_of word) (funct3_of word) (funct7_of word) word
same_row [] word range sound = refl
same_row (r ∷ rs) word range sound =
    let parts = both_true (is_sound r.pattern) (are_sound rs) sound in
    let here = Some (r.number, r.format) in
    let test = has_fields r.pattern (opcode_of word) (funct3_of word) (funct7_of word) word in
    ap (λ b. cond b here (row_among rs word)) (same_test r.pattern word range parts.0)
    ∙ ap (λ later. cond test here later) (same_row rs word range parts.1)

row_is : (word : ℕ) → word < 2 ^ 32
    → row_of word ≡ row_by_fields (opcode_of word) (funct3_of word) (funct7_of word) word
unfolding row_of row_by_fields
row_is word range = same_row rows word range refl

-- the instruction of a word from its row, its immediate and its registers
pub decodes : (word n imm : ℕ) → word < 2 ^ 32
    → Some (n, imm) ≡ with_immediate word (row_by_fields (opcode_of word) (funct3_of word) (funct7_of word) word)
    → ◌≡◌ {A = Option Instr} (Some record {
      row = n;
      rd = bit_and (word / 2 ^ 7) 31;
      rs1 = bit_and (word / 2 ^ 15) 31;
      rs2 = bit_and (word / 2 ^ 20) 31;
      imm = imm;
    }) (decoded word)
decodes word n imm range row =
    let rd = and_mask (word / 2 ^ 7) 5 in
    let rs1 = and_mask (word / 2 ^ 15) 5 in
    let rs2 = and_mask (word / 2 ^ 20) 5 in
    rw (row_is word range, ← row) cc

-- a word is illegal where no row has its fields
pub refuses : (word : ℕ) → word < 2 ^ 32
    → None ≡ with_immediate word (row_by_fields (opcode_of word) (funct3_of word) (funct7_of word) word)
    → None ≡ decoded word
refuses word range row = rw (row_is word range, ← row) refl
