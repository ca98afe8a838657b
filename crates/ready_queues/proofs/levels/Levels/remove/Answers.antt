use Rattle.std.proofs.Common.{◌≡◌, ◌∙◌, sym, ap, subst, true, is_none}
use Rattle.thread_base.specs.Orders.{is_in, without}
use Rattle.link_arena.specs.Chains.{AreApart, list_of, unlinked, first_of}
use Rattle.link_arena.proofs.ListLemmas.{has_place, list_unlinked}
use Rattle.ready_queues.specs.Ranks.{AreMarked}
use Rattle.ready_queues.proofs.LevelLemmas.{remove_marks, none_of}
use Rattle.ready_queues.proofs.levels.Levels.remove.Goals as goal

pub unlink-requires : goal.unlink-requires
unlink-requires c =
    has_place c.self.inside.links.lists c.number.result c.args.p
    (ap (λ t. is_in t (list_of c.self.inside.links.lists c.args.p)) c.number.ensures.value
    ∙ ap (λ ls. is_in c.args.t (list_of ls c.args.p)) c.self.view_is
    ∙ c.requires)

pub invariant_of-self : goal.invariant_of-self
invariant_of-self c =
    let is : c.unlink.new.self ≡ unlinked c.args.t c.self.inside.links = c.unlink.ensures.lists ∙ ap (λ t. unlinked t c.self.inside.links) c.number.ensures.value in
    let first = c.first.ensures.first ∙ (λ i. first_of (list_of ((is i).lists) (c.number-2.ensures.value i))) in
    let stands : is_in c.args.t (list_of c.self.inside.links.lists c.args.p) ≡ true = ap (λ ls. is_in c.args.t (list_of ls c.args.p)) c.self.view_is ∙ c.requires in
    subst (λ l. AreMarked l c.unmarked-self-inside.result) (sym is)
    (remove_marks c.self.inside.links c.self.inside.bits c.args.t c.args.p c.is_none-is_empty.result c.unmarked-self-inside.result c.self.invariant stands
    (subst AreApart is c.unlink.ensures.apart)
    (none_of c.first.result c.is_none-is_empty.result c.is_none-is_empty.ensures ∙ ap is_none first)
    c.unmarked-self-inside.ensures)

pub returns : goal.returns
returns c = λ h.
    let is : c.unlink.new.self ≡ unlinked c.args.t c.self.inside.links = c.unlink.ensures.lists ∙ ap (λ t. unlinked t c.self.inside.links) c.number.ensures.value in
    ap (λ l. list_of l.lists h) is
    ∙ list_unlinked c.self.inside.links.lists c.args.t h
    ∙ ap (λ ls. without c.args.t (list_of ls h)) c.self.view_is
