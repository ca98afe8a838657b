-- A run that is made turn by turn, and how few turns are left of it.
use Rattle.std.proofs.Common.{◌≡◌, ◌∙◌, ap, sym, refl, subst, ℕ, ◌+◌, ◌*◌, ◌<◌, ◌≤◌, List, [], ◌∷◌, ◌++◌, inl, inr, arith}
use Rattle.posix_model.specs.Runs.{Rules, Moment, Allowed, IsRun, Ends, moved, after}
use Rattle.journal_text.specs.Valid.{IsJournal}
use Rattle.posix_model.specs.Good.{IsGood}
use Rattle.posix_model.proofs.GoodMoves.{goodness}
use Rattle.posix_model.specs.declared.Ending.{Ending}
use Rattle.posix_model.specs.declared.Move.{Move}
use Rattle.posix_model.specs.declared.Report.{Report}
use Rattle.posix_model.proofs.TraceLemmas.{IsRun-more, after-more, moves_left, moves_fall}
use Rattle.process_engine.specs.Engine.{Position}
use Rattle.process_engine.specs.Turns.{Tells, Moves, IsTurn}
use Rattle.process_engine.specs.Whole.{RunsToEnd}
use Rattle.process_engine.specs.declared.Turn.{Turn}
use Rattle.process_engine.specs.declared.Turn.TheVariants.{Quiet, Made, Ended}

-- some moves were made
pub record HasRun (rules : Rules) (start now : Moment) : Type 0 where
  pub moves : List Move
  pub run : IsRun rules start moves
  pub leads : now ≡ after rules start moves

pub none_run : (rules : Rules) (start : Moment) → HasRun rules start start
none_run rules start = record { moves = []; run = tt; leads = refl }

-- how many turns are left at most
abbrev pub turns_remaining : Rules → Position → ℕ
turns_remaining rules p = 513 * moves_left rules p.now + p.remaining

module _ (rules : Rules) (start : Moment) (old new : Position) (so_far : HasRun rules start old.now) where
  one_run : Moves rules old new → HasRun rules start new.now
  one_run m = record {
    moves = so_far.moves ++ m.move ∷ [];
    run = IsRun-more rules start so_far.moves m.move so_far.run (subst (λ x. Allowed rules x m.move) so_far.leads m.allowed);
    leads = m.leads ∙ ap (λ x. moved rules x m.move) so_far.leads ∙ sym (after-more rules start so_far.moves m.move);
  }

  same_run : new.now ≡ old.now → HasRun rules start new.now
  same_run e = record { moves = so_far.moves; run = so_far.run; leads = e ∙ so_far.leads }

  pub quiet_run : IsTurn rules old Quiet new → HasRun rules start new.now
  quiet_run (inl m) = one_run m
  quiet_run (inr l) = same_run l.now

  pub made_run : (report : Report) → IsTurn rules old (Made report) new → HasRun rules start new.now
  made_run report t = same_run t.completes.now

  pub ended_run : (ending : Ending) → IsTurn rules old (Ended ending) new → RunsToEnd rules start ending new.now
  ended_run ending s = record {
    moves = so_far.moves;
    whole = record { run = so_far.run; ends = subst (λ x. Ends rules x ending) so_far.leads s.ends };
    leads = ap (λ (p : Position). p.now) s.same ∙ so_far.leads;
  }

-- the same turn, from the same position under the same rules
pub turn_from : (rules others : Rules) (at old new : Position) (turn : Turn) → rules ≡ others → at ≡ old → IsTurn rules at turn new → IsTurn others old turn new
turn_from rules others at old new turn ruled same h = subst (λ p. IsTurn others p turn new) same (subst (λ r. IsTurn r at turn new) ruled h)

-- from a good state
pub good_run : (rules : Rules) (start now : Moment) → IsGood start.state → HasRun rules start now → IsGood now.state
good_run rules start now good r = subst (λ (n : Moment). IsGood n.state) (sym r.leads) (goodness.2 rules start r.moves good r.run)

-- what is told of a move has 512 small changes at most
few_remaining : (report : Report) (old new : Position) → Tells report old new → new.remaining ≤ 512
few_remaining report old new (inl t) = let none = t.2 in omega (arith, none)
few_remaining report old new (inr t) = t.3

pub quiet_falls : (rules : Rules) (old new : Position) → IsJournal rules.journal → IsGood old.now.state → IsTurn rules old Quiet new → turns_remaining rules new < turns_remaining rules old
quiet_falls rules old new journal good (inl m) =
    let fall = subst (λ x. moves_left rules x < moves_left rules old.now) (sym m.leads) (moves_fall rules old.now m.move journal good m.allowed) in
    let few = few_remaining _ old new m.tells in
    omega (arith, fall, few)
quiet_falls rules old new journal good (inr l) =
    let same = ap (moves_left rules) l.now in
    let one = l.one in
    omega (arith, same, one)

pub made_falls : (rules : Rules) (old new : Position) (report : Report) → IsTurn rules old (Made report) new → turns_remaining rules new < turns_remaining rules old
made_falls rules old new report t =
    let same = ap (moves_left rules) t.completes.now in
    let last = t.last in
    let none = t.completes.none in
    omega (arith, same, last, none)
