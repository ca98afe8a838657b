use Rattle.std.proofs.Common.{◌∙◌, sym, ap, subst, arith, ◌≤◌, Some}
use Rattle.thread_base.specs.Maps.{put}
use Rattle.thread_base.proofs.MapLemmas.{put_got}
use Rattle.link_arena.specs.Chains.{list_of, first_of}
use Rattle.link_arena.specs.Stacking.{stack_at, rest_of, AreStacks}
use Rattle.link_arena.proofs.StackLemmas.{stack_is, pop_stacks, pop_are, in_stacks}
use Rattle.link_arena.proofs.stacks.Stacks.pop.Goals as goal

pub invariant_of-self : goal.invariant_of-self
invariant_of-self c = subst (λ l. AreStacks l c.self.inside.depths) (sym c.in_err-node.ensures.none) c.self.invariant

pub invariant_of-self-2 : goal.invariant_of-self-2
invariant_of-self-2 c =
    let low : 1 ≤ c.number-number.result = omega (arith, c.number-number.ensures.value, c.number-number.ensures.range.0) in
    let high : c.number-number.result ≤ 64 = omega (arith, c.number-number.ensures.value, c.number-number.ensures.range.1) in
    pop_are c.self.inside.links c.self.inside.depths c.self.invariant c.number-number.result low high c.move_first.new.self c.in_ok-node.node c.in_ok-node.ensures.same c.in_ok-node.ensures.apart
    (sym c.in_ok-node.ensures.first) c.in_ok-node.ensures.lists

pub returns-in_err-node-clause-top : goal.returns-in_err-node-clause-top
returns-in_err-node-clause-top c =
    let high : c.number-number.result ≤ 64 = omega (arith, c.number-number.ensures.value, c.number-number.ensures.range.1) in
    c.from_residual.ensures
    ∙ c.in_err-node.ensures.first
    ∙ ap first_of (sym (stack_is c.self.inside.links.lists c.number-number.result high))
    ∙ (λ i. first_of (stack_at (c.self.view_is i) (c.number-number.ensures.value i)))

pub returns-in_err-node-clause-stacks : goal.returns-in_err-node-clause-stacks
returns-in_err-node-clause-stacks c =
    let high : c.number-number.result ≤ 64 = omega (arith, c.number-number.ensures.value, c.number-number.ensures.range.1) in
    let empty = Rattle.link_arena.proofs.StackLemmas.empty_rest (list_of c.self.inside.links.lists c.number-number.result) (sym c.in_err-node.ensures.first) in
    ap (λ l. stack_at l.lists) c.in_err-node.ensures.none
    ∙ sym (put_got (stack_at c.self.inside.links.lists) c.number-number.result)
    ∙ ap (put (stack_at c.self.inside.links.lists) c.number-number.result) (stack_is c.self.inside.links.lists c.number-number.result high ∙ sym empty ∙ ap rest_of (sym (stack_is c.self.inside.links.lists c.number-number.result high)))
    ∙ (λ i. put (stack_at (c.self.view_is i)) (c.number-number.ensures.value i) (rest_of (stack_at (c.self.view_is i) (c.number-number.ensures.value i))))

pub returns-clause-top : goal.returns-clause-top
returns-clause-top c =
    let high : c.number-number.result ≤ 64 = omega (arith, c.number-number.ensures.value, c.number-number.ensures.range.1) in
    c.in_ok-node.ensures.first
    ∙ ap first_of (sym (stack_is c.self.inside.links.lists c.number-number.result high))
    ∙ (λ i. first_of (stack_at (c.self.view_is i) (c.number-number.ensures.value i)))

pub returns-clause-range : goal.returns-clause-range
returns-clause-range c = in_stacks c.self.inside.links c.self.inside.depths c.self.invariant c.number-number.result (Some c.in_ok-node.node) c.in_ok-node.ensures.first

pub returns-clause-stacks : goal.returns-clause-stacks
returns-clause-stacks c =
    let low : 1 ≤ c.number-number.result = omega (arith, c.number-number.ensures.value, c.number-number.ensures.range.0) in
    let high : c.number-number.result ≤ 64 = omega (arith, c.number-number.ensures.value, c.number-number.ensures.range.1) in
    pop_stacks c.self.inside.links c.self.inside.depths c.self.invariant c.number-number.result low high c.move_first.new.self c.in_ok-node.node c.in_ok-node.ensures.same c.in_ok-node.ensures.apart
    (sym c.in_ok-node.ensures.first) c.in_ok-node.ensures.lists
    ∙ (λ i. put (stack_at (c.self.view_is i)) (c.number-number.ensures.value i) (rest_of (stack_at (c.self.view_is i) (c.number-number.ensures.value i))))
