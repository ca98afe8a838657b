use Rattle.std.proofs.Common.{◌∙◌, sym, ap, length, arith, get_or}
use Rattle.link_arena.specs.Stacking.{stack_at}
use Rattle.link_arena.proofs.StackLemmas.{stack_is}
use Rattle.link_arena.proofs.stacks.Stacks.depth.Goals as goal

pub returns-clause-stack : goal.returns-clause-stack
returns-clause-stack c =
    ap (λ t. get_or c.self.inside.depths t 0) c.number.ensures.value
    ∙ c.self.invariant.counted c.args.t c.number.ensures.range.1
    ∙ ap length (sym (stack_is c.self.inside.links.lists c.args.t c.number.ensures.range.1))
    ∙ ap (λ lists. length (stack_at lists c.args.t)) c.self.view_is

pub returns-clause-limit : goal.returns-clause-limit
returns-clause-limit c =
    let is = ap (λ t. get_or c.self.inside.depths t 0) c.number.ensures.value ∙ c.self.invariant.counted c.args.t c.number.ensures.range.1 in
    let rooms = c.self.invariant.rooms c.args.t c.number.ensures.range.0 c.number.ensures.range.1 in
    omega arith
