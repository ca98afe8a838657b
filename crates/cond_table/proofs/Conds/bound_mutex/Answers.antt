use Rattle.std.proofs.Common.{◌≡◌, ◌∙◌, ap, sym, subst, refl, arith, true, false, IsSome}
use Rattle.thread_base.specs.Objects.{cond_mutex}
use Rattle.link_arena.specs.Waiting.{queue_of}
use Rattle.cond_table.specs.ConditionMap.{conditions}
use Rattle.cond_table.proofs.ConditionLemmas.{within_shown, place_read, mutex_read, no_mutex, nobody, somebody, seen}
use Rattle.cond_table.proofs.Conds.bound_mutex.Goals as goal

pub is_empty-requires : goal.is_empty-requires
is_empty-requires c =
    let place = (within_shown c.self.inside.mutexes.items c.self.inside.waiters c.args.self.now c.self.view_is c.args.c c.requires) in
    omega (arith, c.self.invariant.count, place)

pub returns-then-is_empty-clause-mutex : goal.returns-then-is_empty-clause-mutex
returns-then-is_empty-clause-mutex c =
    let empty = nobody (queue_of c.self.inside.waiters c.args.c) (sym c.is_empty.ensures ∙ c.if-is_empty.true) in
    no_mutex c.self.inside.mutexes.items c.self.inside.waiters c.args.c empty ∙ ap (λ t. cond_mutex (conditions t c.args.c)) c.self.view_is

pub returns-then-is_empty-clause-empty : goal.returns-then-is_empty-clause-empty
returns-then-is_empty-clause-empty c =
    let empty = nobody (queue_of c.self.inside.waiters c.args.c) (sym c.is_empty.ensures ∙ c.if-is_empty.true) in
    (λ _. sym (ap (λ f. f c.args.c) (seen c.self.inside.mutexes.items c.self.inside.waiters c.self.invariant c.args.self.now c.self.view_is)) ∙ empty, λ _. refl)

pub returns-else-is_empty-clause-mutex : goal.returns-else-is_empty-clause-mutex
returns-else-is_empty-clause-mutex c =
    let place = (within_shown c.self.inside.mutexes.items c.self.inside.waiters c.args.self.now c.self.view_is c.args.c c.requires) in
    mutex_read c.self.inside.mutexes.items c.self.inside.waiters c.args.c c.index.result.now c.index.ensures place
    (somebody (queue_of c.self.inside.waiters c.args.c) (sym c.is_empty.ensures ∙ c.if-is_empty.false))
    ∙ ap (λ t. cond_mutex (conditions t c.args.c)) c.self.view_is

pub returns-else-is_empty-clause-empty : goal.returns-else-is_empty-clause-empty
returns-else-is_empty-clause-empty c =
    let exists = subst (λ t. IsSome (conditions t c.args.c)) (sym c.self.view_is) c.requires in
    let some = place_read c.self.inside.mutexes.items c.self.inside.waiters c.args.c c.index.result.now c.index.ensures (within_shown c.self.inside.mutexes.items c.self.inside.waiters c.args.self.now c.self.view_is c.args.c c.requires) exists in (
      λ none. absurd (let e : true ≡ false = sym some ∙ none in cc),
      λ empty. absurd (somebody (queue_of c.self.inside.waiters c.args.c) (sym c.is_empty.ensures ∙ c.if-is_empty.false) (ap (λ f. f c.args.c) (seen c.self.inside.mutexes.items c.self.inside.waiters c.self.invariant c.args.self.now c.self.view_is) ∙ empty)),
    )
