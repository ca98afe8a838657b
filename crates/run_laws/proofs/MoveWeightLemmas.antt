-- Steps are at least as many as the threads that they change.
use Rattle.std.proofs.Common.{◌≡◌, ◌∙◌, refl, sym, ap, subst, inl, inr, arith, ℕ, suc, ◌≤◌, ◌<◌, eqb, Bool, true, false, List, [], ◌∷◌, length}
use Rattle.std.specs.Prelude.{if◌then◌else◌}
use Rattle.std.proofs.lemmas.Bool.{cases_Bool, eqb-false, or_parts, ne_eqb}
use Rattle.thread_base.specs.Orders.{is_in, without}
use Rattle.thread_base.proofs.MapLemmas.{put_other}
use Rattle.thread_base.proofs.OrderLemmas.{is_in-without}
use Rattle.posix_model.specs.State.{State}
use Rattle.posix_model.specs.Changes.{Outcome}
use Rattle.posix_model.specs.Runs.{moved, after}
use Rattle.kernel_state.specs.Changing.{AllCan, change_by, owed}
use Rattle.kernel_state.specs.declared.change.Change.{Change}
use Rattle.kernel_state.proofs.SmallLemmas.{small_change}
use Rattle.run_laws.specs.MoveWeights.{AreChanged, WeighsAtMost, is_instruction, has_instruction, since_last, until_last, Making, AtOnce, By, steps, IsMade, ChangesCoverWeights, StepsCoverWeights, StaysCoverWeights, BeginWithLast, MovesSinceLast, PlainWeighsOne}

-- a list without a thread is not longer
without_shorter : (t : ℕ) (us : List ℕ) → length (without t us) ≤ length us
without_shorter t [] = omega arith
without_shorter t (u ∷ us) =
    let rest = without_shorter t us in
    elim (cases_Bool (eqb u t)) [
      | inl same ↦ rw same (omega (arith, rest))
      | inr other ↦ rw other (omega (arith, rest))
    ]

-- without a thread that stands in it a list is shorter
without_short : (t : ℕ) (us : List ℕ) → is_in t us ≡ true → length (without t us) < length us
without_short t [] h = absurd (let e : false ≡ true = h in cc)
without_short t (u ∷ us) h =
    elim (cases_Bool (eqb u t)) [
      | inl same ↦ (let rest = without_shorter t us in rw same (omega (arith, rest)))
      | inr other ↦
          (let apart : eqb t u ≡ false = ne_eqb t u (λ e. eqb-false u t other (sym e)) in
          let rest = without_short t us (rw apart at h) in
          rw other (omega (arith, rest)))
    ]

-- distinct threads that stand in a list are not more than it has
AreWithin : List ℕ → List ℕ → Type 0
AreWithin us [] = Unit {0}
AreWithin us (t ∷ ts) = (is_in t us ≡ true) × (is_in t ts ≡ false) × AreWithin us ts

within_without : (t : ℕ) (us ts : List ℕ) → is_in t ts ≡ false → AreWithin us ts → AreWithin (without t us) ts
unfolding AreWithin
within_without t us [] n h = tt
within_without t us (u ∷ ts) n h =
    let apart = or_parts (eqb t u) (is_in t ts) n in
    (is_in-without t u us (λ e. eqb-false t u apart.0 (sym e)) ∙ h.0, h.1, within_without t us ts apart.1 h.2)

within_few : (ts us : List ℕ) → AreWithin us ts → length ts ≤ length us
unfolding AreWithin
within_few [] us h = omega arith
within_few (t ∷ ts) us h =
    let less = without_short t us h.0 in
    let rest = within_few ts (without t us) (within_without t us ts h.1 h.2) in
    omega (arith, less, rest)

-- where no thread but those of a list is changed, the weight is at most the list's length
pub weighs_few : (s r : State) (us : List ℕ) → ((t : ℕ) → is_in t us ≡ false → r.threads t ≡ s.threads t) → WeighsAtMost s r (length us)
unfolding AreWithin
weighs_few s r us same ts changed = within_few ts us (within ts changed)
  where
    within : (ts : List ℕ) → AreChanged s r ts → AreWithin us ts
    within [] h = tt
    within (t ∷ ts) h =
        elim (cases_Bool (is_in t us)) [
          | inl is ↦ (is, h.1, within ts h.2)
          | inr un ↦ absurd (h.0 (same t un))
        ]

-- the thread of each of a list of changes
touched : (g : Outcome) (changes : List Change) → AllCan g changes → List ℕ
touched g [] can = []
touched g (change ∷ rest) can = (small_change change g can.0).thread ∷ touched (change_by change g) rest can.1

length-touched : (g : Outcome) (changes : List Change) (can : AllCan g changes) → length (touched g changes can) ≡ length changes
unfolding touched
length-touched g [] can = refl
length-touched g (change ∷ rest) can = ap suc (length-touched (change_by change g) rest can.1)

-- the records of all other threads stay
left_alone : (g : Outcome) (changes : List Change) (can : AllCan g changes) (t : ℕ) → is_in t (touched g changes can) ≡ false
    → (owed g changes).state.threads t ≡ g.state.threads t
unfolding touched
left_alone g [] can t n = refl
left_alone g (change ∷ rest) can t n =
    let small = small_change change g can.0 in
    let apart = or_parts (eqb t small.thread) (is_in t (touched (change_by change g) rest can.1)) n in
    left_alone (change_by change g) rest can.1 t apart.1 ∙ small.threads t (eqb-false t small.thread apart.0)

pub changes_cover_weights : ChangesCoverWeights
changes_cover_weights g changes can =
    subst (λ n. WeighsAtMost g.state (owed g changes).state n) (length-touched g changes can)
    (weighs_few g.state (owed g changes).state (touched g changes can) (left_alone g changes can))

-- a plain instruction changes its own thread alone
pub plain_weighs_one : PlainWeighsOne
plain_weighs_one s r plain =
    weighs_few s r (plain.0 ∷ [])
    (λ t n. let apart = or_parts (eqb t plain.0) false n in ap (λ (x : State). x.threads t) plain.3 ∙ put_other s.threads plain.0 _ t (eqb-false t plain.0 apart.0))

-- a move weighs no more than the steps of its making
making_covers : (making : Making) (s r : State) → IsMade making s r → WeighsAtMost s r (steps making)
making_covers AtOnce s r made = plain_weighs_one s r made
making_covers (By changes) s r made =
    subst (λ x. WeighsAtMost x r (length changes)) made.1
    (subst (λ x. WeighsAtMost made.0.state x (length changes)) made.3 (changes_cover_weights made.0 changes made.2))

pub steps_cover_weights : StepsCoverWeights
steps_cover_weights rules now [] [] n made weigh = omega (arith, weigh)
steps_cover_weights rules now [] (making ∷ makings) n made weigh = absurd made
steps_cover_weights rules now (move ∷ moves) [] n made weigh = absurd made
steps_cover_weights rules now (move ∷ moves) (making ∷ makings) n made weigh =
    let first = making_covers making now.state (moved rules now move).state made.0 weigh.2.0 weigh.2.1 in
    let rest = steps_cover_weights rules (moved rules now move) moves makings weigh.1 made.1 weigh.3 in
    omega (arith, first, rest, weigh.2.2, weigh.4)

pub stays_cover_weights : StaysCoverWeights
stays_cover_weights rules start moves makings n made weigh = steps_cover_weights rules (after rules start (until_last moves)) (since_last moves) makings n made weigh

pub moves_since_last : MovesSinceLast
moves_since_last [] = (refl, refl)
moves_since_last (move ∷ moves) =
    elim (cases_Bool (has_instruction moves)) [
      | inl some ↦
          (let rest = moves_since_last moves in
          rw some (ap (λ ms. move ∷ ms) rest.0, more (is_instruction move) (subst (λ b. BeginWithLast (since_last moves) b) some rest.1)))
      | inr none ↦ rw none (refl, (alone (is_instruction move), none))
    ]
  where
    more : (b : Bool) → BeginWithLast (since_last moves) true → BeginWithLast (since_last moves) (if b then true else true)
    more true h = h
    more false h = h

    alone : (b : Bool) → b ≡ (if b then true else false)
    alone true = refl
    alone false = refl
