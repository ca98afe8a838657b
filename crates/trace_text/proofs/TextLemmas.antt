-- The text of moves in each mode: of some that follow others, and of one that tells nothing.
use Rattle.std.proofs.Common.{◌≡◌, ◌∙◌, ap, sym, refl, ℕ, Bool, true, false, List, [], ◌∷◌, ◌++◌, take, Option, append_assoc, append-nil}
use Rattle.std.proofs.lemmas.Bool.{eqb-true}
use Rattle.std.specs.Prelude.{◌==◌, if◌then◌else◌, ◌-◌, drop}
use Rattle.rv_exec.specs.Window.{base}
use Rattle.posix_model.specs.Lines.{lines, first_lines, signal_lines, thread_lines, head_line, alarm_line, out_line, out_head, out_text, hex}
use Rattle.posix_model.specs.Runs.{Rules, Moment, make, moved, after}
use Rattle.posix_model.specs.Trace.{move_text}
use Rattle.posix_model.specs.declared.Move.{Move}
use Rattle.posix_model.specs.declared.Report.{Report}
use Rattle.posix_model.proofs.TraceLemmas.{text-append, no_switch}
use Rattle.trace_text.specs.Texts.{written, move_plain, plain_text, lines_in, switch_in, text_in}
use Rattle.trace_text.specs.declared.Mode.{Mode}
use Rattle.trace_text.specs.declared.Mode.TheVariants.{Trace, Plain}

plain-append : (rules : Rules) (now : Moment) (moves others : List Move)
    → plain_text rules now (moves ++ others) ≡ plain_text rules now moves ++ plain_text rules (after rules now moves) others
plain-append rules now [] others = refl
plain-append rules now (m ∷ ms) others =
    ap (λ t. move_plain rules now m ++ t) (plain-append rules (moved rules now m) ms others)
    ∙ sym (append_assoc (move_plain rules now m) (plain_text rules (moved rules now m) ms) (plain_text rules (after rules (moved rules now m) ms) others))

-- the text of moves that follow others
pub text_in-append : (mode : Mode) (rules : Rules) (now : Moment) (moves others : List Move)
    → text_in mode rules now (moves ++ others) ≡ text_in mode rules now moves ++ text_in mode rules (after rules now moves) others
text_in-append Trace rules now moves others = text-append rules now moves others
text_in-append Plain rules now moves others = plain-append rules now moves others

-- the text of no move, and of one
pub text_in_none : (mode : Mode) (rules : Rules) (now : Moment) → text_in mode rules now [] ≡ []
text_in_none Trace rules now = refl
text_in_none Plain rules now = refl

pub text_in_one : (mode : Mode) (rules : Rules) (now : Moment) (move : Move)
    → switch_in mode now.last (moved rules now move).last ++ lines_in mode (make rules now.state move).report (moved rules now move).state.memory ≡ text_in mode rules now (move ∷ [])
text_in_one Trace rules now move = sym (append-nil (move_text rules now move))
text_in_one Plain rules now move = sym (append-nil (move_plain rules now move))

-- nothing is written where the thread of the last instruction stays
pub no_switch_in : (mode : Mode) (last : Option ℕ) → switch_in mode last last ≡ []
no_switch_in Trace last = no_switch last
no_switch_in Plain last = refl

-- the parts of what is empty are empty
empty_first : (xs ys : List ℕ) → xs ++ ys ≡ [] → xs ≡ []
empty_first [] ys e = refl
empty_first (x ∷ xs) ys e = absurd (cc)

empty_second : (xs ys : List ℕ) → xs ++ ys ≡ [] → ys ≡ []
empty_second [] ys e = e
empty_second (x ∷ xs) ys e = absurd (cc)

-- an out line is not empty
some_text : (t descriptor : ℕ) (bytes : List ℕ) → out_text t descriptor bytes ≡ [] → ⊥
some_text t descriptor bytes e =
    let end = empty_second (hex bytes) (10 ∷ []) (empty_second (out_head t descriptor) (hex bytes ++ 10 ∷ []) e) in
    absurd (cc)

-- where there is no out line, no byte was written
none_taken : (n : ℕ) (xs text : List ℕ) → (text ≡ [] → ⊥) → (if n == 0 then [] else text) ≡ [] → take n xs ≡ []
none_taken n xs text some e = go (n == 0) refl e
  where
    go : (b : Bool) → (n == 0) ≡ b → (if b then [] else text) ≡ [] → take n xs ≡ []
    go true none same = ap (λ m. take m xs) (eqb-true n 0 none)
    go false other same = absurd (some same)

none_written : (r : Report) (memory : List ℕ) → out_line r memory ≡ [] → written r memory ≡ []
unfolding out_line
none_written r memory e =
    none_taken r.out_len (drop (r.out_buf - base) memory) (out_text r.tid r.out_fd (written r memory)) (some_text r.tid r.out_fd (written r memory)) e

no_out_line : (r : Report) (memory : List ℕ) → lines r memory ≡ [] → out_line r memory ≡ []
unfolding lines
no_out_line r memory e =
    empty_second (head_line r.tid r.head ++ alarm_line r) (out_line r memory) (empty_first (first_lines r memory) (signal_lines r ++ thread_lines r) e)

-- a move without lines writes nothing
pub silent_in : (mode : Mode) (r : Report) (memory : List ℕ) → lines r memory ≡ [] → lines_in mode r memory ≡ []
silent_in Trace r memory e = e
silent_in Plain r memory e = none_written r memory (no_out_line r memory e)
