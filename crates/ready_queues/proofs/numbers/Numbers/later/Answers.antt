use Rattle.std.proofs.Common.{◌≡◌, ◌∙◌, sym, ap, subst, ltb, IfSome, ◌<◌, true, find}
use Rattle.std.proofs.lemmas.Bool.{le-ltb, lt-ltb}
use Rattle.thread_base.specs.Orders.{is_in}
use Rattle.link_arena.specs.Chains.{list_of}
use Rattle.link_arena.proofs.ListLemmas.{from_node, from_first, first_is_in, after_is_in}
use Rattle.ready_queues.specs.Ranks.{number_of}
use Rattle.ready_queues.proofs.RankLemmas.{search_on, search_here, search_shorter, search_within}
use Rattle.ready_queues.proofs.numbers.Numbers.later.Goals as goal

pub loop-at-init : goal.loop-at-init
loop-at-init c =
    let ns = list_of c.args.lists.now c.args.p in
    let first = c.first-at.ensures.first in
    record {
      within = search_within ns c.first-at.result c.first-at.ensures.range (λ x is. first_is_in ns x (sym first ∙ is));
      same = ap (find _) (sym (ap (λ o. from_node o ns) first ∙ from_first ns));
    }

pub loop-at-smaller : goal.loop-at-smaller
loop-at-smaller c =
    let there : (c.in-Some.u < 65) × (is_in c.in-Some.u (list_of c.args.lists.now c.args.p) ≡ true) = subst (λ o. IfSome o (λ u. (u < 65) × (is_in u (list_of c.args.lists.now c.args.p) ≡ true))) c.in-Some.is c.loop-at.invariant.within in
    search_shorter (list_of c.args.lists.now c.args.p) c.loop-at.at c.next-at.result c.in-Some.u c.first-at.ensures.once c.in-Some.is there.1 (c.next-at.ensures.next c.args.p there.1)

pub loop-at-preserved : goal.loop-at-preserved
loop-at-preserved c =
    let ns = list_of c.args.lists.now c.args.p in
    let there : (c.in-Some.u < 65) × (is_in c.in-Some.u (list_of c.args.lists.now c.args.p) ≡ true) = subst (λ o. IfSome o (λ u. (u < 65) × (is_in u (list_of c.args.lists.now c.args.p) ≡ true))) c.in-Some.is c.loop-at.invariant.within in
    let next = c.next-at.ensures.next c.args.p there.1 in
    record {
      within = search_within ns c.next-at.result c.next-at.ensures.range (λ x is. after_is_in ns c.in-Some.u x (sym next ∙ is));
      same = c.loop-at.invariant.same ∙ search_on _ ns c.loop-at.at c.next-at.result c.in-Some.u c.first-at.ensures.once c.in-Some.is there.1 next (le-ltb _ _ c.if-number-self.false);
    }

pub returns-then-number-self : goal.returns-then-number-self
returns-then-number-self c =
    let ns = list_of c.args.lists.now c.args.p in
    let there : (c.in-Some.u < 65) × (is_in c.in-Some.u (list_of c.args.lists.now c.args.p) ≡ true) = subst (λ o. IfSome o (λ u. (u < 65) × (is_in u (list_of c.args.lists.now c.args.p) ≡ true))) c.in-Some.is c.loop-at.invariant.within in
    sym c.in-Some.is
    ∙ sym (search_here _ ns c.loop-at.at c.in-Some.u c.first-at.ensures.once c.in-Some.is there.1 (lt-ltb _ _ c.if-number-self.true))
    ∙ sym c.loop-at.invariant.same
    ∙ ap (λ t. find (λ u. ltb (number_of c.args.self.now.given t) (number_of c.args.self.now.given u)) ns) c.number.ensures.value
