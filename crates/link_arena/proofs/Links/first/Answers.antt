use Rattle.std.proofs.Common.{◌∙◌, sym, ap, subst, arith, IsNone}
use Rattle.link_arena.specs.Chains.{list_of}
use Rattle.link_arena.specs.Rings.{node_of}
use Rattle.link_arena.proofs.ChangeLemmas.{head_low, few, places_count, shown_first, first_empty, shown_apart}
use Rattle.link_arena.proofs.Links.first.Goals as goal

pub overflow_add-end : goal.overflow_add-end
overflow_add-end c =
    let low = head_low c.self.invariant c.self.view_is c.args.head c.requires in
    omega (arith, few c.self.invariant c.self.view_is)

pub next-requires : goal.next-requires
next-requires c =
    let low = head_low c.self.invariant c.self.view_is c.args.head c.requires in
    omega (arith, places_count c.self.invariant c.self.view_is)

pub returns-clause-first : goal.returns-clause-first
returns-clause-first c =
    c.node_at.ensures
    ∙ ap (node_of c.self.inside.nodes) c.next.ensures
    ∙ shown_first c.self.invariant c.self.view_is c.args.head c.requires

pub returns-clause-empty : goal.returns-clause-empty
returns-clause-empty c =
    let first = c.node_at.ensures ∙ ap (node_of c.self.inside.nodes) c.next.ensures ∙ shown_first c.self.invariant c.self.view_is c.args.head c.requires in
    let empty = first_empty (list_of c.args.self.now.lists c.args.head) in
    (λ h. empty.0 (subst IsNone first h), λ e. subst IsNone (sym first) (empty.1 e))

pub returns-clause-apart : goal.returns-clause-apart
returns-clause-apart c = shown_apart c.self.invariant c.self.view_is
