use Rattle.std.proofs.Common.{◌∙◌, sym, ap, drop, ℕ, List}
use Rattle.thread_base.specs.Maps.{put}
use Rattle.thread_base.proofs.MapLemmas.{put_got, put_same, put-put}
use Rattle.link_arena.specs.Stacking.{stack_at, rest_of}
use Rattle.link_arena.proofs.StackLemmas.{rest_drop}
use Rattle.link_arena.proofs.stacks.Stacks.clear.Goals as goal

pub loop-node-init : goal.loop-node-init
loop-node-init c = sym (put_got (stack_at c.args.self.now) c.args.t)

pub loop-node-preserved : goal.loop-node-preserved
loop-node-preserved c =
    let was : ℕ → List ℕ = stack_at c.args.self.now in
    let left : List ℕ = drop c.loop-node.node (was c.args.t) in
    c.pop.ensures.stacks
    ∙ (λ i. put (c.loop-node.invariant i) c.args.t (rest_of (c.loop-node.invariant i c.args.t)))
    ∙ ap (λ ns. put (put was c.args.t left) c.args.t (rest_of ns)) (put_same was c.args.t left)
    ∙ put-put was c.args.t left (rest_of left)
    ∙ ap (put was c.args.t) (rest_drop c.loop-node.node (was c.args.t))
