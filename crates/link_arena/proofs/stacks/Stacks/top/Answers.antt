use Rattle.std.proofs.Common.{◌∙◌, sym, ap}
use Rattle.link_arena.specs.Chains.{list_of, first_of}
use Rattle.link_arena.specs.Stacking.{stack_at}
use Rattle.link_arena.proofs.StackLemmas.{stack_is, in_stacks}
use Rattle.link_arena.proofs.stacks.Stacks.top.Goals as goal

pub returns-clause-top : goal.returns-clause-top
returns-clause-top c =
    c.first.ensures.first
    ∙ ap (λ t. first_of (list_of c.self.inside.links.lists t)) c.number.ensures.value
    ∙ ap first_of (sym (stack_is c.self.inside.links.lists c.args.t c.number.ensures.range.1))
    ∙ ap (λ lists. first_of (stack_at lists c.args.t)) c.self.view_is

pub returns-clause-range : goal.returns-clause-range
returns-clause-range c = in_stacks c.self.inside.links c.self.inside.depths c.self.invariant c.number.result c.first.result c.first.ensures.first
