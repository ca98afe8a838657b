use Rattle.std.proofs.Common.{◌∙◌, sym, ap, arith, [], ◌∷◌, ◌++◌, not, length}
use Rattle.std.proofs.lemmas.Bool.{eq-eqb, ne_eqb}
use Rattle.thread_base.specs.Maps.{put}
use Rattle.link_arena.specs.Stacking.{stack_at}
use Rattle.link_arena.proofs.KeptLemmas.{depth_is, kept_push, push_places}
use Rattle.cancel_cleanup.specs.Cancellations.{cleanups_of}
use Rattle.cancel_cleanup.proofs.Cancels.push.Goals as goal

pub returns-in_default-clause-room : goal.returns-in_default-clause-room
unfolding cleanups_of
returns-in_default-clause-room c =
    let is = ap (λ v. length (cleanups_of v c.args.t)) (sym c.self.view_is) ∙ depth_is c.self.inside.records.items (stack_at c.self.inside.stacks) (stack_at c.self.inside.stacks) c.self.invariant.1 c.args.t (record { routine = 0; arg = 0 }) ∙ c.in_default.ensures.full.0 in
    sym (ap not (eq-eqb (length (cleanups_of c.args.self.now c.args.t)) 32 is))

pub invariant_of-self-2 : goal.invariant_of-self-2
invariant_of-self-2 c =
    (c.self.invariant.0, push_places c.self.inside.records.items (stack_at c.self.inside.stacks) (stack_at c.push.new.self) c.self.invariant.1 c.args.t c.in-Some.node c.args.c c.in-Some.ensures.fresh.0 c.in-Some.ensures.fresh.1 c.in-Some.ensures.stacks)

pub returns-clause-room : goal.returns-clause-room
unfolding cleanups_of
returns-clause-room c =
    let is = ap (λ v. length (cleanups_of v c.args.t)) (sym c.self.view_is) ∙ depth_is c.self.inside.records.items (stack_at c.self.inside.stacks) (stack_at c.self.inside.stacks) c.self.invariant.1 c.args.t (record { routine = 0; arg = 0 }) in
    let room = c.in-Some.ensures.room in
    sym (ap not (ne_eqb (length (cleanups_of c.args.self.now c.args.t)) 32 (λ e. omega arith)))

pub returns-clause-cleanups : goal.returns-clause-cleanups
unfolding cleanups_of
returns-clause-cleanups c =
    kept_push c.self.inside.records.items (stack_at c.self.inside.stacks) (stack_at c.push.new.self) c.self.invariant.1 c.args.t c.in-Some.node c.args.c c.in-Some.ensures.fresh.0 c.in-Some.ensures.fresh.1 c.in-Some.ensures.stacks
    ∙ ap (λ v. put (cleanups_of v) c.args.t (cleanups_of v c.args.t ++ c.args.c ∷ [])) c.self.view_is
