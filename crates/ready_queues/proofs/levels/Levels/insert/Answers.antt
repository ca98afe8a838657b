use Rattle.std.proofs.Common.{◌≡◌, ◌∙◌, sym, ap, subst}
use Rattle.thread_base.specs.Orders.{is_in}
use Rattle.link_arena.specs.Chains.{AreApart, list_of, inserted, with_before}
use Rattle.link_arena.proofs.ListLemmas.{has_none, list_inserted}
use Rattle.ready_queues.specs.Ranks.{AreMarked}
use Rattle.ready_queues.proofs.LevelLemmas.{insert_marks}
use Rattle.ready_queues.proofs.levels.Levels.insert.Goals as goal
use Rattle.ready_queues.proofs.levels.Levels.insert.Goals.{After-insert_before}

pub insert_before-requires-clause-free : goal.insert_before-requires-clause-free
insert_before-requires-clause-free c =
    has_none c.self.inside.links.lists c.number.result
    (λ h. ap (λ t. is_in t (list_of c.self.inside.links.lists h)) c.number.ensures.value
    ∙ ap (λ ls. is_in c.args.t (list_of ls h)) c.self.view_is
    ∙ c.requires.free h)

is_inserted : (c : After-insert_before) → c.insert_before.new.self ≡ inserted c.args.t c.args.at c.self.inside.links
is_inserted c = c.insert_before.ensures.lists ∙ ap (λ t. inserted t c.args.at c.self.inside.links) c.number.ensures.value

pub invariant_of-self : goal.invariant_of-self
invariant_of-self c =
    subst (λ l. AreMarked l c.self.inside.bits) (sym (is_inserted c))
    (insert_marks c.self.inside.links c.self.inside.bits c.args.t c.args.at c.self.invariant (subst AreApart (is_inserted c) c.insert_before.ensures.apart))

pub returns : goal.returns
returns c = λ h.
    ap (λ l. list_of l.lists h) (is_inserted c)
    ∙ list_inserted c.self.inside.links.lists c.args.t c.args.at h
    ∙ ap (λ ls. with_before c.args.t c.args.at (list_of ls h)) c.self.view_is
