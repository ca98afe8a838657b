use Rattle.std.proofs.Common.{◌∙◌, ap, arith, None}
use Rattle.thread_base.specs.Maps.{put}
use Rattle.cond_table.specs.ConditionMap.{conditions}
use Rattle.cond_table.proofs.ConditionLemmas.{mutexes_set, within_shown, sound_set, seen}
use Rattle.cond_table.proofs.Conds.destroy.Goals as goal

pub index_mut-requires : goal.index_mut-requires
index_mut-requires c =
    let place = (within_shown c.self.inside.mutexes.items c.self.inside.waiters c.args.self.now c.self.view_is c.args.c c.requires.exists) in
    omega (arith, c.self.invariant.count, place)

pub invariant_of-self : goal.invariant_of-self
invariant_of-self c =
    sound_set c.self.inside.mutexes.items c.self.inside.waiters c.self.invariant c.args.c None
    (within_shown c.self.inside.mutexes.items c.self.inside.waiters c.args.self.now c.self.view_is c.args.c c.requires.exists)
    (λ _. ap (λ f. f c.args.c) (seen c.self.inside.mutexes.items c.self.inside.waiters c.self.invariant c.args.self.now c.self.view_is) ∙ c.requires.idle)

pub returns : goal.returns
returns c =
    mutexes_set c.self.inside.mutexes.items c.self.inside.waiters c.args.c None
    (within_shown c.self.inside.mutexes.items c.self.inside.waiters c.args.self.now c.self.view_is c.args.c c.requires.exists)
    ∙ ap (λ t. put (conditions t) c.args.c None) c.self.view_is
