use Rattle.std.proofs.Common.{◌∙◌, sym, ap, arith, [], ◌∷◌, ◌++◌, not, length}
use Rattle.std.proofs.lemmas.Bool.{eq-eqb, ne_eqb}
use Rattle.thread_base.specs.Maps.{put}
use Rattle.link_arena.specs.Stacking.{stack_at}
use Rattle.link_arena.proofs.KeptLemmas.{depth_is, kept_push, push_places}
use Rattle.context_frames.specs.Contexts.{stack_of}
use Rattle.context_frames.proofs.ContextLemmas.{any_frame}
use Rattle.context_frames.proofs.frames.Frames.push.Goals as goal

pub returns-in_default-clause-room : goal.returns-in_default-clause-room
unfolding stack_of
returns-in_default-clause-room c =
    let is = ap (λ v. length (stack_of v c.args.t)) (sym c.self.view_is) ∙ depth_is c.self.inside.frames.items (stack_at c.self.inside.stacks) (stack_at c.self.inside.stacks) c.self.invariant.0 c.args.t any_frame ∙ c.in_default.ensures.full.0 in
    sym (ap not (eq-eqb (length (stack_of c.args.self.now c.args.t)) 32 is))

pub invariant_of-self-2 : goal.invariant_of-self-2
invariant_of-self-2 c =
    (push_places c.self.inside.frames.items (stack_at c.self.inside.stacks) (stack_at c.push.new.self) c.self.invariant.0 c.args.t c.in-Some.node c.args.f c.in-Some.ensures.fresh.0 c.in-Some.ensures.fresh.1 c.in-Some.ensures.stacks, c.self.invariant.1)

pub returns-clause-room : goal.returns-clause-room
unfolding stack_of
returns-clause-room c =
    let is = ap (λ v. length (stack_of v c.args.t)) (sym c.self.view_is) ∙ depth_is c.self.inside.frames.items (stack_at c.self.inside.stacks) (stack_at c.self.inside.stacks) c.self.invariant.0 c.args.t any_frame in
    let room = c.in-Some.ensures.room in
    sym (ap not (ne_eqb (length (stack_of c.args.self.now c.args.t)) 32 (λ e. omega arith)))

pub returns-clause-frames : goal.returns-clause-frames
unfolding stack_of
returns-clause-frames c =
    kept_push c.self.inside.frames.items (stack_at c.self.inside.stacks) (stack_at c.push.new.self) c.self.invariant.0 c.args.t c.in-Some.node c.args.f c.in-Some.ensures.fresh.0 c.in-Some.ensures.fresh.1 c.in-Some.ensures.stacks
    ∙ ap (λ v. put (stack_of v) c.args.t (stack_of v c.args.t ++ c.args.f ∷ [])) c.self.view_is
