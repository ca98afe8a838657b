use Rattle.std.proofs.Common.{◌≡◌, ◌≢◌, ◌∙◌, sym, ap, subst, refl, arith, ◌≤◌, ◌+◌, ◌<◌, ◌∷◌, [], length, get_or, Some, None, IfNone, ℕ}
use Rattle.thread_base.specs.Maps.{put}
use Rattle.link_arena.specs.Stacking.{stack_at, AreStacks}
use Rattle.link_arena.proofs.StackLemmas.{push_stacks, push_are, push_room, push_fresh, is_full}
use Rattle.link_arena.proofs.stacks.Stacks.push.Goals as goal

pub overflow_add-self : goal.overflow_add-self
overflow_add-self c =
    let low : 1 ≤ c.number-number.result = omega (arith, c.number-number.ensures.value, c.number-number.ensures.range.0) in
    let high : c.number-number.result ≤ 64 = omega (arith, c.number-number.ensures.value, c.number-number.ensures.range.1) in
    let is = c.self.invariant.counted c.number-number.result high in
    let rooms = c.self.invariant.rooms c.number-number.result low high in
    omega arith

pub invariant_of-self : goal.invariant_of-self
invariant_of-self c = subst (λ l. AreStacks l c.self.inside.depths) (sym c.in_err-node.ensures.none) c.self.invariant

pub invariant_of-self-2 : goal.invariant_of-self-2
invariant_of-self-2 c =
    let low : 1 ≤ c.number-number.result = omega (arith, c.number-number.ensures.value, c.number-number.ensures.range.0) in
    let high : c.number-number.result ≤ 64 = omega (arith, c.number-number.ensures.value, c.number-number.ensures.range.1) in
    push_are c.self.inside.links c.self.inside.depths c.self.invariant c.number-number.result low high c.move_first.new.self c.in_ok-node.node c.in_ok-node.ensures.same c.in_ok-node.ensures.apart
    (sym c.in_ok-node.ensures.first) c.in_ok-node.ensures.lists

pub returns-in_err-node-clause-full : goal.returns-in_err-node-clause-full
returns-in_err-node-clause-full c =
    let low : 1 ≤ c.number-number.result = omega (arith, c.number-number.ensures.value, c.number-number.ensures.range.0) in
    let high : c.number-number.result ≤ 64 = omega (arith, c.number-number.ensures.value, c.number-number.ensures.range.1) in
    let full = is_full c.self.inside.links c.self.inside.depths c.self.invariant c.number-number.result low high (sym c.in_err-node.ensures.first) in
    subst (λ o. IfNone o ((length (stack_at c.args.self.now c.args.t) ≡ 32) × (stack_at c.move_first.new.self.lists ≡ stack_at c.args.self.now))) (sym c.from_residual.ensures) (
      subst (λ n. n ≡ 32) (λ i. length (stack_at (c.self.view_is i) (c.number-number.ensures.value i))) full,
      ap (λ l. stack_at l.lists) c.in_err-node.ensures.none ∙ ap stack_at c.self.view_is,
    )

pub returns-clause-room : goal.returns-clause-room
returns-clause-room c =
    let low : 1 ≤ c.number-number.result = omega (arith, c.number-number.ensures.value, c.number-number.ensures.range.0) in
    let high : c.number-number.result ≤ 64 = omega (arith, c.number-number.ensures.value, c.number-number.ensures.range.1) in
    let room = push_room c.self.inside.links c.self.inside.depths c.self.invariant c.number-number.result low high c.move_first.new.self c.in_ok-node.node c.in_ok-node.ensures.same c.in_ok-node.ensures.apart
    (sym c.in_ok-node.ensures.first) c.in_ok-node.ensures.lists in
    subst (λ n. n < 32) (λ i. length (stack_at (c.self.view_is i) (c.number-number.ensures.value i))) room

pub returns-clause-fresh : goal.returns-clause-fresh
returns-clause-fresh c =
    let low : 1 ≤ c.number-number.result = omega (arith, c.number-number.ensures.value, c.number-number.ensures.range.0) in
    let high : c.number-number.result ≤ 64 = omega (arith, c.number-number.ensures.value, c.number-number.ensures.range.1) in
    let fresh = push_fresh c.self.inside.links c.self.inside.depths c.self.invariant c.number-number.result low high c.move_first.new.self c.in_ok-node.node c.in_ok-node.ensures.same c.in_ok-node.ensures.apart
    (sym c.in_ok-node.ensures.first) c.in_ok-node.ensures.lists in
    subst (λ lists. (c.in_ok-node.node < 2048) × ((u : ℕ) → Rattle.thread_base.specs.Orders.is_in c.in_ok-node.node (stack_at lists u) ≡ Rattle.std.proofs.Common.false)) c.self.view_is fresh

pub returns-clause-stacks : goal.returns-clause-stacks
returns-clause-stacks c =
    let low : 1 ≤ c.number-number.result = omega (arith, c.number-number.ensures.value, c.number-number.ensures.range.0) in
    let high : c.number-number.result ≤ 64 = omega (arith, c.number-number.ensures.value, c.number-number.ensures.range.1) in
    push_stacks c.self.inside.links c.self.inside.depths c.self.invariant c.number-number.result low high c.move_first.new.self c.in_ok-node.node c.in_ok-node.ensures.same c.in_ok-node.ensures.apart
    (sym c.in_ok-node.ensures.first) c.in_ok-node.ensures.lists
    ∙ (λ i. put (stack_at (c.self.view_is i)) (c.number-number.ensures.value i) (c.in_ok-node.node ∷ stack_at (c.self.view_is i) (c.number-number.ensures.value i)))
