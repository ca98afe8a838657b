-- The same table, tested field by field.
use Rattle.std.specs.Prelude.{ℕ, ◌==◌, ◌&&◌, List, [], ◌∷◌, Option, Some, None, Bool, if◌then◌else◌}
use Rattle.rv_table.specs.Table.{Pattern, Opcode, Funct3, Funct7, Whole, Row, Format, rows}

-- a word with this opcode, funct3 and funct7 has the pattern (a whole word has opcode 0x73)
abbrev pub has_fields : Pattern → ℕ → ℕ → ℕ → ℕ → Bool
has_fields (Opcode o) opcode funct3 funct7 word = opcode == o
has_fields (Funct3 o f) opcode funct3 funct7 word = (opcode == o) && (funct3 == f)
has_fields (Funct7 o f g) opcode funct3 funct7 word = (opcode == o) && ((funct3 == f) && (funct7 == g))
has_fields (Whole w) opcode funct3 funct7 word = (opcode == 0x73) && (word == w)

-- number and format of the first of these rows whose pattern the fields have
abbrev pub among_by_fields : List Row → ℕ → ℕ → ℕ → ℕ → Option (ℕ × Format)
among_by_fields [] opcode funct3 funct7 word = None
among_by_fields (r ∷ rs) opcode funct3 funct7 word =
    if has_fields r.pattern opcode funct3 funct7 word
    then Some (r.number, r.format)
    else among_by_fields rs opcode funct3 funct7 word

-- number and format of the row of a word with these fields
unfoldable pub row_by_fields : ℕ → ℕ → ℕ → ℕ → Option (ℕ × Format)
row_by_fields opcode funct3 funct7 word = among_by_fields rows opcode funct3 funct7 word

-- a row's number with a format
abbrev pub with_format : Format → Option ℕ → Option (ℕ × Format)
with_format format None = None
with_format format (Some number) = Some (number, format)
