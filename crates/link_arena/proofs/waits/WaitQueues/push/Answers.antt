use Rattle.std.proofs.Common.{◌≡◌, ◌∙◌, ap, sym, subst, [], ◌∷◌, ◌++◌}
use Rattle.thread_base.specs.Maps.{put}
use Rattle.link_arena.specs.Chains.{pushed, head_in, AreApart as AreLists}
use Rattle.link_arena.specs.Waiting.{queue_of, StandsInNone, AreQueues}
use Rattle.link_arena.proofs.WaitingLemmas.{free_in, push_is, push_queues, apart_of}
use Rattle.link_arena.proofs.waits.WaitQueues.push.Goals as goal
use Rattle.link_arena.proofs.waits.WaitQueues.push.Goals.{After-push_back}

pub push_back-requires-clause-free : goal.push_back-requires-clause-free
push_back-requires-clause-free c =
    ap (head_in c.self.inside.links.lists) c.number.ensures.value
    ∙ free_in c.self.inside.links c.self.invariant c.args.t (subst (λ lists. StandsInNone c.args.t (queue_of lists)) (sym c.self.view_is) c.requires.free)

is_pushed : (c : After-push_back) → c.push_back.new.self ≡ pushed c.args.n c.args.t c.self.inside.links
is_pushed c = c.push_back.ensures.lists ∙ ap (λ t. pushed c.args.n t c.self.inside.links) c.number.ensures.value

queues : (c : After-push_back) → AreQueues c.push_back.new.self
queues c =
    subst AreQueues (sym (is_pushed c))
    (push_queues c.self.inside.links c.self.invariant c.args.n c.args.t c.requires.limit c.number.ensures.range.0 (subst AreLists (is_pushed c) c.push_back.ensures.apart))

pub invariant_of-self : goal.invariant_of-self
invariant_of-self c = queues c

pub returns-clause-queues : goal.returns-clause-queues
returns-clause-queues c =
    ap (λ l. queue_of l.lists) (is_pushed c)
    ∙ push_is c.self.inside.links c.self.invariant c.args.n c.args.t c.requires.limit
    ∙ ap (λ lists. put (queue_of lists) c.args.n (queue_of lists c.args.n ++ c.args.t ∷ [])) c.self.view_is

pub returns-clause-apart : goal.returns-clause-apart
returns-clause-apart c = apart_of c.push_back.new.self (queues c)
