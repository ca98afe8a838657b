use Rattle.std.proofs.Common.{◌≡◌, ◌∙◌, sym, ap, subst, refl, arith, ℕ, List, [], ◌∷◌, ◌++◌, ◌<◌, ◌==◌, not, true, false, Option, Some, None, IsNone, IfNone, length, set, get_or, eqb}
use Rattle.thread_base.specs.Maps.{put}
use Rattle.link_arena.specs.Stacking.{stack_at, stacked, rest_of}
use Rattle.link_arena.proofs.KeptLemmas.{kept_change, change_places, rest_in, stacked_last, stacked_rest, stacked_rest_none, has_last, no_last}
use Rattle.cancel_cleanup.specs.Cancellations.{cleanups_of, last_of, before_last}
use Rattle.cancel_cleanup.proofs.Cancels.pop.Goals as goal

pub invariant_of-self : goal.invariant_of-self
invariant_of-self c = (c.self.invariant.0, change_places c.self.inside.records.items (stack_at c.self.inside.stacks) (stack_at c.pop.new.self) c.self.invariant.1 c.args.t (rest_of (stack_at c.self.inside.stacks c.args.t)) c.pop.ensures.stacks (rest_in (stack_at c.self.inside.stacks c.args.t)))

pub returns-in_err-node-clause-empty : goal.returns-in_err-node-clause-empty
unfolding cleanups_of
returns-in_err-node-clause-empty c =
    let empty = no_last c.self.inside.records.items (stack_at c.self.inside.stacks c.args.t) (sym c.in_err-node.ensures.top) ∙ refl in
    (λ h. ap (λ v. cleanups_of v c.args.t) (sym c.self.view_is) ∙ empty, λ e. ap Rattle.std.proofs.Common.is_some c.from_residual.ensures)

pub returns-in_err-node-clause-cleanups : goal.returns-in_err-node-clause-cleanups
unfolding cleanups_of
returns-in_err-node-clause-cleanups c =
    kept_change c.self.inside.records.items (stack_at c.self.inside.stacks) (stack_at c.pop.new.self) c.self.invariant.1 c.args.t (rest_of (stack_at c.self.inside.stacks c.args.t)) c.pop.ensures.stacks (rest_in (stack_at c.self.inside.stacks c.args.t))
    ∙ ap (put (λ u. stacked c.self.inside.records.items (stack_at c.self.inside.stacks u)) c.args.t) (stacked_rest_none c.self.inside.records.items (stack_at c.self.inside.stacks c.args.t) (sym c.in_err-node.ensures.top))
    ∙ ap (λ v. put (cleanups_of v) c.args.t (before_last (cleanups_of v c.args.t))) c.self.view_is

pub invariant_of-self-2 : goal.invariant_of-self-2
invariant_of-self-2 c = (c.self.invariant.0, change_places c.self.inside.records.items (stack_at c.self.inside.stacks) (stack_at c.pop.new.self) c.self.invariant.1 c.args.t (rest_of (stack_at c.self.inside.stacks c.args.t)) c.pop.ensures.stacks (rest_in (stack_at c.self.inside.stacks c.args.t)))

pub returns-clause-last : goal.returns-clause-last
unfolding cleanups_of
returns-clause-last c =
    ap Some c.index.ensures
    ∙ sym (stacked_last c.self.inside.records.items (stack_at c.self.inside.stacks c.args.t) c.in_ok-node.node c.index.result.now (sym c.in_ok-node.ensures.top) (omega (arith, c.self.invariant.1.places, c.in_ok-node.ensures.range)))
    ∙ ap (λ v. last_of (cleanups_of v c.args.t)) c.self.view_is

pub returns-clause-empty : goal.returns-clause-empty
unfolding cleanups_of
returns-clause-empty c =
    let last = stacked_last c.self.inside.records.items (stack_at c.self.inside.stacks c.args.t) c.in_ok-node.node c.index.result.now (sym c.in_ok-node.ensures.top) (omega (arith, c.self.invariant.1.places, c.in_ok-node.ensures.range)) in
    (λ h. absurd (let f : true ≡ false = h in cc), λ e. absurd (has_last (stacked c.self.inside.records.items (stack_at c.self.inside.stacks c.args.t)) (get_or c.self.inside.records.items c.in_ok-node.node c.index.result.now) last (ap (λ v. cleanups_of v c.args.t) c.self.view_is ∙ e)))

pub returns-clause-cleanups : goal.returns-clause-cleanups
unfolding cleanups_of
returns-clause-cleanups c =
    kept_change c.self.inside.records.items (stack_at c.self.inside.stacks) (stack_at c.pop.new.self) c.self.invariant.1 c.args.t (rest_of (stack_at c.self.inside.stacks c.args.t)) c.pop.ensures.stacks (rest_in (stack_at c.self.inside.stacks c.args.t))
    ∙ ap (put (λ u. stacked c.self.inside.records.items (stack_at c.self.inside.stacks u)) c.args.t) (stacked_rest c.self.inside.records.items (stack_at c.self.inside.stacks c.args.t) c.in_ok-node.node c.index.result.now (sym c.in_ok-node.ensures.top) (omega (arith, c.self.invariant.1.places, c.in_ok-node.ensures.range)))
    ∙ ap (λ v. put (cleanups_of v) c.args.t (before_last (cleanups_of v c.args.t))) c.self.view_is
