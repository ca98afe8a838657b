-- Runs and their texts: one move more, one run after another, and how many moves may follow.
use Rattle.std.proofs.Common.{◌≡◌, ◌∙◌, ap, sym, refl, subst, ℕ, ◌+◌, ◌-◌, ◌*◌, ◌<◌, ◌≤◌, List, [], ◌∷◌, ◌++◌, length, ltb, Option, Some, None, append_assoc, append-nil, arith}
use Rattle.std.proofs.lemmas.Bool.{eq-eqb}
use Rattle.thread_base.specs.Deliveries.{signals}
use Rattle.thread_base.specs.Priority.{tids}
use Rattle.journal_text.specs.Valid.{IsJournal}
use Rattle.posix_model.specs.State.{State, target, is_at_condition}
use Rattle.posix_model.specs.Runs.{Rules, Moment, Allowed, IsRun, taken_by, moved, after}
use Rattle.posix_model.specs.Journals.{untaken, kind_of}
use Rattle.posix_model.specs.Good.{IsGood}
use Rattle.posix_model.specs.Trace.{text, move_text, switch_line}
use Rattle.posix_model.specs.Weights.{weight, total, kinds_pending}
use Rattle.posix_model.specs.declared.Move.TheVariants.{Instr, Arrive, Deliver}
use Rattle.posix_model.specs.declared.Move.{Move}
use Rattle.posix_model.proofs.EndLemmas.{some_arrive}
use Rattle.posix_model.proofs.JournalLemmas.{fewer_left, filter_le, untaken_le}
use Rattle.posix_model.proofs.Weights.{stays_end}

-- two runs, one after the other
pub IsRun-append : (rules : Rules) (now : Moment) (moves others : List Move)
    → IsRun rules now moves → IsRun rules (after rules now moves) others → IsRun rules now (moves ++ others)
IsRun-append rules now [] others first second = second
IsRun-append rules now (m ∷ ms) others first second = (first.0, IsRun-append rules (moved rules now m) ms others first.1 second)

pub after-append : (rules : Rules) (now : Moment) (moves others : List Move)
    → after rules now (moves ++ others) ≡ after rules (after rules now moves) others
after-append rules now [] others = refl
after-append rules now (m ∷ ms) others = after-append rules (moved rules now m) ms others

pub text-append : (rules : Rules) (now : Moment) (moves others : List Move)
    → text rules now (moves ++ others) ≡ text rules now moves ++ text rules (after rules now moves) others
text-append rules now [] others = refl
text-append rules now (m ∷ ms) others =
    ap (λ t. move_text rules now m ++ t) (text-append rules (moved rules now m) ms others)
    ∙ sym (append_assoc (move_text rules now m) (text rules (moved rules now m) ms) (text rules (after rules (moved rules now m) ms) others))

-- one move more
pub IsRun-more : (rules : Rules) (now : Moment) (moves : List Move) (move : Move)
    → IsRun rules now moves → Allowed rules (after rules now moves) move → IsRun rules now (moves ++ move ∷ [])
IsRun-more rules now moves move run allowed = IsRun-append rules now moves (move ∷ []) run (allowed, tt)

pub after-more : (rules : Rules) (now : Moment) (moves : List Move) (move : Move)
    → after rules now (moves ++ move ∷ []) ≡ moved rules (after rules now moves) move
after-more rules now moves move = after-append rules now moves (move ∷ [])

pub text-more : (rules : Rules) (now : Moment) (moves : List Move) (move : Move)
    → text rules now (moves ++ move ∷ []) ≡ text rules now moves ++ move_text rules (after rules now moves) move
text-more rules now moves move =
    text-append rules now moves (move ∷ []) ∙ ap (λ t. text rules now moves ++ t) (append-nil (move_text rules (after rules now moves) move))

-- no line where the thread of the last instruction stays
pub no_switch : (last : Option ℕ) → switch_line last last ≡ []
no_switch None = refl
no_switch (Some t) = rw (eq-eqb t t refl) refl

total_le : (f : ℕ → ℕ) (n : ℕ) (xs : List ℕ) → ((x : ℕ) → f x ≤ n) → total f xs ≤ length xs * n
total_le f n [] h = omega arith
total_le f n (x ∷ xs) h =
    let rest = total_le f n xs h in
    let here = h x in
    omega (arith, rest, here)

-- there are 64 threads and 31 signals
length_tids : length tids ≡ 64
unfolding tids
length_tids = refl

length_signals : length signals ≡ 31
unfolding signals
length_signals = refl

-- whatever a state is, so many deliveries can follow at most
weight_le : (s : State) → weight s ≤ 2205
unfolding weight
weight_le s =
    let kinds : (place : ℕ) → kinds_pending s place ≤ 31 =
    λ place. subst (λ n. kinds_pending s place ≤ n) length_signals (filter_le (λ sig. ltb 0 (s.pending place sig)) signals) in
    let cancelled = filter_le (λ t. (s.threads t).cancellation.pending) tids in
    let process = kinds 0 in
    let threads = total_le (kinds_pending s) 31 tids kinds in
    let waiters = filter_le (λ t. is_at_condition (target (s.threads t).standing)) tids in
    let count = length_tids in
    omega (arith, cancelled, process, threads, waiters, count)

-- at most so many moves may follow: after each instruction that is left the weight may be the greatest, and each entry
-- that is left raises it by 3 at most
abbrev pub moves_left : Rules → Moment → ℕ
moves_left rules now =
    3000 * (rules.settings.budget - now.instructions) + 4 * length (untaken rules.journal.entries now.taken) + weight now.state

-- each move leaves fewer
pub moves_fall : (rules : Rules) (now : Moment) (move : Move) → IsJournal rules.journal → IsGood now.state → Allowed rules now move
    → moves_left rules (moved rules now move) < moves_left rules now
moves_fall rules now (Instr tid) journal good h =
    let room = h.1 in
    let heavy = weight_le (moved rules now (Instr tid)).state in
    omega (arith, room, heavy)
moves_fall rules now (Arrive first count at) journal good h =
    let fewer = fewer_left rules.journal.entries now.taken first count h.entry h.here h.next (some_arrive (kind_of h.entry.what) count h.alone) in
    let heavier = stays_end.arrival rules now.state first count at in
    let off : length (untaken rules.journal.entries (moved rules now (Arrive first count at)).taken) < length (untaken rules.journal.entries now.taken) =
    subst (λ o. length (untaken rules.journal.entries (taken_by now.taken count o)) < length (untaken rules.journal.entries now.taken)) (sym h.here) fewer in
    omega (arith, off, heavier)
moves_fall rules now Deliver journal good h =
    let lighter = stays_end.delivery now.state h.1 good h.2 in
    omega (arith, lighter)

-- within the limits of a budget and of a journal few moves may follow
pub moves_few : (rules : Rules) (now : Moment) → IsJournal rules.journal → rules.settings.budget ≤ 1000000000 → moves_left rules now ≤ 3000004002205
moves_few rules now journal limit =
    let entries = untaken_le rules.journal.entries now.taken in
    let most = journal.few in
    let heavy = weight_le now.state in
    omega (arith, limit, entries, most, heavy)
