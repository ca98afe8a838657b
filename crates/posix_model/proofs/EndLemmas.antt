-- What is due of a journal, and the end of a run: where a run has ended, no move is allowed, and it has one ending.
use Rattle.std.proofs.Common.{◌≡◌, ◌∙◌, ap, sym, refl, subst, ℕ, zero, suc, ◌≤◌, List, [], ◌∷◌, Some, None, arith, inl, inr}
use Rattle.std.specs.Prelude.{Bool, true, false, take, slice_get, filter}
use Rattle.std.specs.List.{AllByRecursion}
use Rattle.thread_base.specs.Orders.{is_in}
use Rattle.thread_base.specs.declared.Place.{Place}
use Rattle.posix_model.specs.Journals.{Kind, OfSignal, OfTicks, OfInput, kind_of, left_of_kind, untaken, reached, is_reached_as, entry_at}
use Rattle.posix_model.specs.Runs.{Rules, Moment, Allowed, IsAlone, MayArrive, Ends, due, due_by, is_waiting}
use Rattle.posix_model.specs.declared.Ending.{Ending}
use Rattle.posix_model.specs.declared.Move.{Move}
use Rattle.posix_model.specs.declared.Move.TheVariants.{Instr, Arrive, Deliver}

-- one entry at least arrives
pub some_arrive : (kind : Kind) (count : ℕ) → IsAlone kind count → 1 ≤ count
some_arrive (OfSignal sig) count h = h
some_arrive OfTicks count h = omega (arith, h)
some_arrive OfInput count h = omega (arith, h)

-- what holds of the first so many of a list holds of its first
first_of : (P : ℕ → Type 0) (ns : List ℕ) (count n : ℕ) → 1 ≤ count → slice_get ns 0 ≡ Some n → AllByRecursion P (take count ns) → P n
first_of P [] count n least e h = absurd (let f : None ≡ Some n = e in cc)
first_of P (m ∷ ms) zero n least e h = absurd (omega (arith, least))
first_of P (m ∷ ms) (suc count) n least e h = subst P (let f : Some m ≡ Some n = e in cc) h.0

-- the first of the entries that arrive is due
pub first_is_due : (rules : Rules) (now : Moment) (first count : ℕ) (at : Place) → MayArrive rules now first count at → is_in first (due rules now) ≡ true
first_is_due rules now first count at a =
    let kind : Kind = kind_of a.entry.what in
    first_of (λ n. is_in n (due rules now) ≡ true) (left_of_kind rules.journal.entries now.taken kind) count first (some_arrive kind count a.alone) a.next a.due

-- where nothing is due, nothing arrives
pub nothing_arrives : (rules : Rules) (now : Moment) (first count : ℕ) (at : Place) → due rules now ≡ [] → MayArrive rules now first count at → ⊥
nothing_arrives rules now first count at none a =
    let here : false ≡ true = sym (ap (is_in first) none) ∙ first_is_due rules now first count at a in cc

-- where every entry is taken, nothing is due
pub none_due : (rules : Rules) (now : Moment) → untaken rules.journal.entries now.taken ≡ [] → due rules now ≡ []
unfolding due reached
none_due rules now none =
    let which : List ℕ → List ℕ = λ left. filter (λ n. is_reached_as now.instructions (entry_at rules.journal.entries n)) left in
    ap (λ left. due_by (which left) left (is_waiting now.state)) none ∙ none_by (is_waiting now.state)
  where
    none_by : (waiting : Bool) → due_by [] [] waiting ≡ []
    none_by true = refl
    none_by false = refl

-- where a run has ended, no move is allowed
pub no_more : (rules : Rules) (now : Moment) (ending : Ending) (move : Move) → Ends rules now ending → Allowed rules now move → ⊥
no_more rules now e (Instr t) (inl over) a = let x : None ≡ Some e = sym a.0.going_on ∙ over in cc
no_more rules now e (Instr t) (inr (inl idle)) a = let x : None ≡ Some t = sym idle.1.nobody ∙ a.0.first in cc
no_more rules now e (Instr t) (inr (inr spent)) a = let x = spent.1.used_up in omega (arith, a.1)
no_more rules now e Deliver (inl over) a = let x : None ≡ Some e = sym a.0 ∙ over in cc
no_more rules now e Deliver (inr (inl idle)) a = let x : None ≡ Some a.1 = sym idle.1.settled ∙ a.2 in cc
no_more rules now e Deliver (inr (inr spent)) a = let x : None ≡ Some a.1 = sym spent.1.turn.settled ∙ a.2 in cc
no_more rules now e (Arrive first count at) (inl over) a = let x : None ≡ Some e = sym a.going_on ∙ over in cc
no_more rules now e (Arrive first count at) (inr (inl idle)) a = nothing_arrives rules now first count at (none_due rules now idle.1.taken) a
no_more rules now e (Arrive first count at) (inr (inr spent)) a = nothing_arrives rules now first count at spent.1.turn.nothing_due a

-- a run that has ended has one ending
pub one_ending : (rules : Rules) (now : Moment) (ending other : Ending) → Ends rules now ending → Ends rules now other → ending ≡ other
one_ending rules now e f (inl a) (inl b) = let x : Some e ≡ Some f = sym a ∙ b in cc
one_ending rules now e f (inl a) (inr (inl b)) = let x : Some e ≡ None = sym a ∙ b.1.going_on in cc
one_ending rules now e f (inl a) (inr (inr b)) = let x : Some e ≡ None = sym a ∙ b.1.turn.going_on in cc
one_ending rules now e f (inr (inl a)) (inl b) = let x : None ≡ Some f = sym a.1.going_on ∙ b in cc
one_ending rules now e f (inr (inl a)) (inr (inl b)) = a.0 ∙ sym b.0
one_ending rules now e f (inr (inl a)) (inr (inr b)) = let x : None ≡ Some b.1.tid = sym a.1.nobody ∙ b.1.turn.first in cc
one_ending rules now e f (inr (inr a)) (inl b) = let x : None ≡ Some f = sym a.1.turn.going_on ∙ b in cc
one_ending rules now e f (inr (inr a)) (inr (inl b)) = let x : Some a.1.tid ≡ None = sym a.1.turn.first ∙ b.1.nobody in cc
one_ending rules now e f (inr (inr a)) (inr (inr b)) = a.0 ∙ sym b.0
