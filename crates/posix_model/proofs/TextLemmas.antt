-- What a text tells: numbers up to a byte that is no digit, and the lines of deliveries and of arrivals.
use Rattle.std.proofs.Common.{◌≡◌, ◌≢◌, ◌∙◌, ap, sym, refl, ℕ, ◌+◌, ◌%◌, ◌^◌, ◌<◌, List, [], ◌∷◌, ◌++◌, arith, append_assoc, append-nil, Option, Some, None}
use Rattle.std.specs.Prelude.{Bool, decimal, codes, slice_index_or, ◌==◌, take, drop}
use Rattle.std.specs.List.{flat_map}
use Rattle.std.proofs.lemmas.Bool.{eq-eqb}
use Rattle.std.proofs.lemmas.List.{append_cancel_left}
use Rattle.std.proofs.lemmas.Fmt.{decimal_by_steps, decimal_injective}
use Rattle.thread_base.specs.declared.Place.{Place}
use Rattle.journal_text.specs.declared.entry.What.{What}
use Rattle.journal_text.specs.declared.entry.What.TheVariants.{Sig, Tick, Data, Eof}
use Rattle.posix_model.specs.State.{State}
use Rattle.posix_model.specs.Changes.{Outcome, begun}
use Rattle.posix_model.specs.Arrivals.{arrive_signal, tick, arrive_data, arrive_end}
use Rattle.posix_model.specs.Lines.{lines, head_line, alarm_line, out_line, took_line, gone_line, done_line, done_lines, signal_lines, thread_lines, arrival, number, first_lines}
use Rattle.posix_model.specs.declared.Report.{Report}
use Rattle.posix_model.specs.Runs.{Rules, told_at, arrived}
use Rattle.posix_model.specs.Trace.{switch_line}
use Rattle.posix_model.specs.declared.Head.{Head}
use Rattle.posix_model.specs.declared.Head.TheVariants.{ArriveSig, ArriveTick, ArriveData, ArriveEof}

-- a byte does not stand in a text
abbrev Misses : ℕ → List ℕ → Type 0
Misses b [] = Unit {0}
Misses b (x ∷ xs) = (x ≢ b) × Misses b xs

Misses-append : (b : ℕ) (xs ys : List ℕ) → Misses b xs → Misses b ys → Misses b (xs ++ ys)
Misses-append b [] ys p q = q
Misses-append b (x ∷ xs) ys p q = (p.0, Misses-append b xs ys p.1 q)

-- a byte below the digits stands in no number
Misses-decimal : (b n : ℕ) → b < 48 → n < 2 ^ 64 → Misses b (decimal n)
Misses-decimal b n low =
    let P : ℕ → List ℕ → Type 0 = λ k ds. Misses b ds in
    decimal_by_steps P (λ k lt. ((let e : 48 + k ≢ b = omega arith in e), tt))
    (λ k ds ge p. Misses-append b ds ((48 + k % 10) ∷ []) p ((let e : 48 + k % 10 ≢ b = omega arith in e), tt)) n

-- two texts that miss a byte, up to that byte
up_to : (b : ℕ) (ds es x y : List ℕ) → Misses b ds → Misses b es → ds ++ b ∷ x ≡ es ++ b ∷ y → (ds ≡ es) × (x ≡ y)
up_to b [] [] x y p q e = (refl, (let t : x ≡ y = cc in t))
up_to b [] (c ∷ es) x y p q e = absurd (q.0 (let t : c ≡ b = cc in t))
up_to b (d ∷ ds) [] x y p q e = absurd (p.0 (let t : d ≡ b = cc in t))
up_to b (d ∷ ds) (c ∷ es) x y p q e =
    let head : d ≡ c = cc in
    let tail : ds ++ b ∷ x ≡ es ++ b ∷ y = cc in
    let rest = up_to b ds es x y p.1 q.1 tail in
    ((λ i. head i ∷ rest.0 i), rest.1)

-- a number and a blank behind it
pub same_number : (m n : ℕ) (x y : List ℕ) → m < 2 ^ 64 → n < 2 ^ 64 → decimal m ++ 32 ∷ x ≡ decimal n ++ 32 ∷ y → (m ≡ n) × (x ≡ y)
same_number m n x y p q e =
    let parts = up_to 32 (decimal m) (decimal n) x y (Misses-decimal 32 m (omega arith) p) (Misses-decimal 32 n (omega arith) q) e in
    (decimal_injective m n p q parts.0, parts.1)

-- no line where the thread of the last instruction stays
pub same_last : (last : Option ℕ) → switch_line last last ≡ []
same_last None = refl
same_last (Some t) = rw (eq-eqb t t refl) refl

-- the place of an arrival is not told
pub place_is_silent : (at other : Place) (head : Head) (g : Outcome) (memory : List ℕ) → lines (told_at at head g).report memory ≡ lines (told_at other head g).report memory
unfolding lines alarm_line out_line took_line gone_line done_line done_lines
place_is_silent at other head g memory = refl

-- a text tells of an arrival: no other main line has this second letter
abbrev pub is_of_arrival : List ℕ → Bool
is_of_arrival text = slice_index_or text 1 0 == 114

-- the text of an arrival up to the number of its first entry, and up to the number of its entries
abbrev pub with_first : ℕ → List ℕ
with_first first = codes "arrive " ++ decimal first

abbrev pub with_count : ℕ → ℕ → List ℕ
with_count first count = codes "arrive " ++ (decimal first ++ 32 ∷ decimal count)

-- what follows a text goes behind its blank
and_then : (front text rest last : List ℕ) → text ≡ front ++ 32 ∷ rest → text ++ last ≡ front ++ 32 ∷ (rest ++ last)
and_then front text rest last e = ap (λ t. t ++ last) e ∙ append_assoc front (32 ∷ rest) last

-- a main line with a blank, and the lines of its report
lines_more : (front : List ℕ) (r : Report) (memory rest : List ℕ) → head_line r.tid r.head ≡ front ++ 32 ∷ rest
    → lines r memory ≡ front ++ 32 ∷ (rest ++ alarm_line r ++ out_line r memory ++ (signal_lines r ++ thread_lines r))
unfolding lines
lines_more front r memory rest e =
    and_then front (first_lines r memory) (rest ++ alarm_line r ++ out_line r memory) (signal_lines r ++ thread_lines r)
    (and_then front (head_line r.tid r.head ++ alarm_line r) (rest ++ alarm_line r) (out_line r memory) (and_then front (head_line r.tid r.head) rest (alarm_line r) e))

-- the main line of one entry
one_line : (first : ℕ) (word : List ℕ) (numbers : List ℕ)
    → arrival (first ∷ []) (32 ∷ word) numbers ≡ with_first first ++ 32 ∷ (word ++ flat_map number numbers ++ 10 ∷ [])
one_line first word numbers =
    let front : List ℕ = codes "arrive" ++ flat_map number (first ∷ []) in
    let few = ap (λ t. codes "arrive " ++ t ++ 32 ∷ word) (append-nil (decimal first)) in
    and_then (with_first first) (front ++ 32 ∷ word ++ flat_map number numbers) (word ++ flat_map number numbers) (10 ∷ [])
    (and_then (with_first first) (front ++ 32 ∷ word) word (flat_map number numbers) few)

-- the main line of entries of a signal
count_line : (first count sig : ℕ)
    → arrival (first ∷ count ∷ []) (codes " sig") (sig ∷ []) ≡ with_count first count ++ 32 ∷ (codes "sig" ++ flat_map number (sig ∷ []) ++ 10 ∷ [])
count_line first count sig =
    let front : List ℕ = codes "arrive" ++ flat_map number (first ∷ count ∷ []) in
    let few = ap (λ t. codes "arrive " ++ (decimal first ++ 32 ∷ t) ++ codes " sig") (append-nil (decimal count)) in
    and_then (with_count first count) (front ++ codes " sig" ++ flat_map number (sig ∷ [])) (codes "sig" ++ flat_map number (sig ∷ [])) (10 ∷ [])
    (and_then (with_count first count) (front ++ codes " sig") (codes "sig") (flat_map number (sig ∷ [])) few)

-- the lines of an arrival of entries of a signal tell how many
pub tells_count : (first count : ℕ) (at : Place) (sig : ℕ) (g : Outcome) (memory : List ℕ)
    → (rest : List ℕ) × (lines (told_at at (ArriveSig first count sig) g).report memory ≡ with_count first count ++ 32 ∷ rest)
unfolding head_line
tells_count first count at sig g memory =
    let r : Report = (told_at at (ArriveSig first count sig) g).report in
    (_, lines_more (with_count first count) r memory (codes "sig" ++ flat_map number (sig ∷ []) ++ 10 ∷ []) (count_line first count sig))

-- an arrival's text up to its second number
count_on : (first count : ℕ) (a rest : List ℕ) → a ≡ with_count first count ++ 32 ∷ rest → a ≡ with_first first ++ 32 ∷ (decimal count ++ 32 ∷ rest)
count_on first count a rest e = e ∙ ap (λ t. codes "arrive " ++ t) (append_assoc (decimal first) (32 ∷ decimal count) (32 ∷ rest))

-- the lines of an arrival tell its first entry
pub tells_first : (rules : Rules) (s : State) (first count : ℕ) (at place : Place) (what : What) (memory : List ℕ)
    → (rest : List ℕ) × (lines (arrived rules s first count at (Some (record { place = place; what = what }))).report memory ≡ with_first first ++ 32 ∷ rest)
unfolding head_line
tells_first rules s first count at place (Sig sig) memory =
    let told = tells_count first count at sig (arrive_signal (begun s) sig count) memory in
    (decimal count ++ 32 ∷ told.0, count_on first count (lines (told_at at (ArriveSig first count sig) (arrive_signal (begun s) sig count)).report memory) told.0 told.1)
tells_first rules s first count at place Tick memory =
    let r : Report = (told_at at (ArriveTick first) (tick rules.settings.quantum (begun s))).report in
    (_, lines_more (with_first first) r memory (codes "tick" ++ flat_map number [] ++ 10 ∷ []) (one_line first (codes "tick") []))
tells_first rules s first count at place (Data start len) memory =
    let r : Report = (told_at at (ArriveData first len) (arrive_data (begun s) (take len (drop start rules.journal.bytes)))).report in
    (_, lines_more (with_first first) r memory (codes "data" ++ flat_map number (len ∷ []) ++ 10 ∷ []) (one_line first (codes "data") (len ∷ [])))
tells_first rules s first count at place Eof memory =
    let r : Report = (told_at at (ArriveEof first) (arrive_end (begun s))).report in
    (_, lines_more (with_first first) r memory (codes "eof" ++ flat_map number [] ++ 10 ∷ []) (one_line first (codes "eof") []))

-- an arrival's text with what follows it, from its first number on
first_on : (first : ℕ) (a rest x : List ℕ) → a ≡ with_first first ++ 32 ∷ rest → a ++ x ≡ codes "arrive " ++ (decimal first ++ 32 ∷ (rest ++ x))
first_on first a rest x e = ap (λ t. t ++ x) e ∙ ap (λ t. codes "arrive " ++ t) (append_assoc (decimal first) (32 ∷ rest) x)

-- two arrivals of one text have one first entry
pub same_first : (first other : ℕ) (a b rest last x y : List ℕ) → first < 2 ^ 64 → other < 2 ^ 64
    → a ≡ with_first first ++ 32 ∷ rest → b ≡ with_first other ++ 32 ∷ last → a ++ x ≡ b ++ y → (first ≡ other) × (rest ++ x ≡ last ++ y)
same_first first other a b rest last x y p q e f same =
    same_number first other (rest ++ x) (last ++ y) p q
    (append_cancel_left (codes "arrive ") (decimal first ++ 32 ∷ (rest ++ x)) (decimal other ++ 32 ∷ (last ++ y))
    (sym (first_on first a rest x e) ∙ same ∙ first_on other b last y f))

-- two arrivals of one text, of a signal, have one count
pub same_count : (first count many : ℕ) (a b rest last x y : List ℕ) → first < 2 ^ 64 → count < 2 ^ 64 → many < 2 ^ 64
    → a ≡ with_count first count ++ 32 ∷ rest → b ≡ with_count first many ++ 32 ∷ last → a ++ x ≡ b ++ y → count ≡ many
same_count first count many a b rest last x y p q r e f same =
    let counts = same_first first first a b (decimal count ++ 32 ∷ rest) (decimal many ++ 32 ∷ last) x y p p (count_on first count a rest e) (count_on first many b last f) same in
    (same_number count many (rest ++ x) (last ++ y) q r
    (sym (append_assoc (decimal count) (32 ∷ rest) x) ∙ counts.1 ∙ append_assoc (decimal many) (32 ∷ last) y)).0
