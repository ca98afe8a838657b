use Rattle.std.proofs.Common.{refl}
use Rattle.link_arena.proofs.StackLemmas.{first_stacks, no_stacks}
use Rattle.link_arena.proofs.stacks.Stacks.new.Goals as goal

pub invariant_of-result : goal.invariant_of-result
invariant_of-result c =
    first_stacks c.in_ok-all_free.field-0 _ c.in_ok-all_free.ensures.size c.in_ok-all_free.ensures.apart c.in_ok-all_free.ensures.empty c.in_ok-all_free.ensures.free refl

pub returns : goal.returns
returns c = no_stacks c.in_ok-all_free.field-0.lists c.in_ok-all_free.ensures.empty
