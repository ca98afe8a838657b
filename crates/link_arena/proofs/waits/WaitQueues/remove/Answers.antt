use Rattle.std.proofs.Common.{◌≡◌, ◌∙◌, ap, sym, subst, true, false}
use Rattle.thread_base.specs.Maps.{put}
use Rattle.thread_base.specs.Orders.{is_in, without}
use Rattle.link_arena.specs.Chains.{unlinked, AreApart as AreLists}
use Rattle.link_arena.specs.Waiting.{queue_of, StandsInNone, AreApart, AreQueues}
use Rattle.link_arena.proofs.WaitingLemmas.{unlink_is, unlink_queues, apart_of, some_has, none_has}
use Rattle.link_arena.proofs.waits.WaitQueues.remove.Goals as goal
use Rattle.link_arena.proofs.waits.WaitQueues.remove.Goals.{After-unlink, Else-is_some}

is_unlinked : (c : After-unlink) → c.unlink.new.self ≡ unlinked c.args.t c.self.inside.links
is_unlinked c = c.unlink.ensures.lists ∙ ap (λ t. unlinked t c.self.inside.links) c.number-t.ensures.value

queues : (c : After-unlink) → AreQueues c.unlink.new.self
queues c = subst AreQueues (sym (is_unlinked c)) (unlink_queues c.self.inside.links c.self.invariant c.args.t (subst AreLists (is_unlinked c) c.unlink.ensures.apart))

pub invariant_of-self : goal.invariant_of-self
invariant_of-self c = queues c

pub returns-then-is_some-clause-queues : goal.returns-then-is_some-clause-queues
returns-then-is_some-clause-queues c = λ n stands.
    ap (λ l. queue_of l.lists) (is_unlinked c)
    ∙ unlink_is c.self.inside.links c.self.invariant c.args.t n (ap (λ lists. is_in c.args.t (queue_of lists n)) c.self.view_is ∙ stands)
    ∙ ap (λ lists. put (queue_of lists) n (without c.args.t (queue_of lists n))) c.self.view_is

pub returns-then-is_some-clause-none : goal.returns-then-is_some-clause-none
unfolding queue_of
returns-then-is_some-clause-none c = λ none.
    let there = some_has c.head_of.result (λ n. is_in c.number-t.result (queue_of c.self.inside.links.lists n) ≡ true) (sym c.is_some.ensures ∙ c.if-is_some.true) c.head_of.ensures.list in
    absurd (
    let e : true ≡ false = sym there.1 ∙ ap (λ t. is_in t (queue_of c.self.inside.links.lists there.0)) c.number-t.ensures.value ∙ ap (λ lists. is_in c.args.t (queue_of lists there.0)) c.self.view_is ∙ none there.0 in
    cc
    )

pub returns-then-is_some-clause-apart : goal.returns-then-is_some-clause-apart
returns-then-is_some-clause-apart c = apart_of c.unlink.new.self (queues c)

pub returns-else-is_some-clause-queues : goal.returns-else-is_some-clause-queues
unfolding queue_of
returns-else-is_some-clause-queues c = λ n stands.
    let none = none_has c.head_of.result (StandsInNone c.number-t.result (queue_of c.self.inside.links.lists)) (sym c.is_some.ensures ∙ c.if-is_some.false) c.head_of.ensures.none in
    absurd (
    let e : true ≡ false = sym stands ∙ ap (λ lists. is_in c.args.t (queue_of lists n)) (sym c.self.view_is) ∙ ap (λ t. is_in t (queue_of c.self.inside.links.lists n)) (sym c.number-t.ensures.value) ∙ none n in
    cc
    )

pub returns-else-is_some-clause-apart : goal.returns-else-is_some-clause-apart
returns-else-is_some-clause-apart c = subst (λ lists. AreApart (queue_of lists)) c.self.view_is (apart_of c.self.inside.links c.self.invariant)
