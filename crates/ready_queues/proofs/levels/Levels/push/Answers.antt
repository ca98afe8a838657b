use Rattle.std.proofs.Common.{◌≡◌, ◌∙◌, ap, subst, arith, ◌<◌, ◌∷◌, ◌++◌, [], length, ◌==◌, if◌then◌else◌}
use Rattle.thread_base.specs.Orders.{is_in}
use Rattle.link_arena.specs.Chains.{AreApart, list_of, pushed}
use Rattle.link_arena.proofs.ListLemmas.{has_none, list_pushed}
use Rattle.ready_queues.proofs.LevelLemmas.{push_marks}
use Rattle.ready_queues.proofs.levels.Levels.push.Goals as goal

pub push_back-requires-clause-free : goal.push_back-requires-clause-free
push_back-requires-clause-free c =
    has_none c.self.inside.links.lists c.number-2.result
    (λ h. ap (λ t. is_in t (list_of c.self.inside.links.lists h)) c.number-2.ensures.value
    ∙ ap (λ ls. is_in c.args.t (list_of ls h)) c.self.view_is
    ∙ c.requires h)

pub invariant_of-self : goal.invariant_of-self
invariant_of-self c =
    let is : c.push_back.new.self ≡ pushed c.args.p c.args.t c.self.inside.links = c.push_back.ensures.lists ∙ (λ i. pushed (c.number.ensures.value i) (c.number-2.ensures.value i) c.self.inside.links) in
    let low : c.args.p < 32 = omega (arith, c.number.ensures.range) in
    let marks = push_marks c.self.inside.links c.self.inside.bits c.args.p c.args.t c.self.invariant low (subst AreApart is c.push_back.ensures.apart) in
    rw (c.number-3.ensures.value, is) marks

pub returns : goal.returns
returns c = λ h.
    let is : c.push_back.new.self ≡ pushed c.args.p c.args.t c.self.inside.links = c.push_back.ensures.lists ∙ (λ i. pushed (c.number.ensures.value i) (c.number-2.ensures.value i) c.self.inside.links) in
    let low : c.args.p < length c.self.inside.links.lists = omega (arith, c.number.ensures.range, c.self.invariant.count) in
    ap (λ l. list_of l.lists h) is
    ∙ list_pushed c.self.inside.links.lists c.args.p c.args.t h low
    ∙ ap (λ ls. if h == c.args.p then list_of ls c.args.p ++ c.args.t ∷ [] else list_of ls h) c.self.view_is
