use Rattle.std.proofs.Common.{◌∙◌, ap, arith, None}
use Rattle.thread_base.specs.Maps.{put}
use Rattle.mutex_table.specs.MutexMap.{mutexes}
use Rattle.mutex_table.proofs.MutexLemmas.{states_set, within_shown, sound_set, seen}
use Rattle.mutex_table.proofs.Mutexes.destroy.Goals as goal

pub index_mut-requires : goal.index_mut-requires
index_mut-requires c =
    let place = within_shown c.self.inside.states.items c.self.inside.waiters c.args.self.now c.self.view_is c.args.m c.requires.exists in
    omega (arith, c.self.invariant.count, place)

pub invariant_of-self : goal.invariant_of-self
invariant_of-self c =
    sound_set c.self.inside.states.items c.self.inside.waiters c.self.invariant c.args.m None
    (within_shown c.self.inside.states.items c.self.inside.waiters c.args.self.now c.self.view_is c.args.m c.requires.exists)
    (λ _. ap (λ f. f c.args.m) (seen c.self.inside.states.items c.self.inside.waiters c.self.invariant c.args.self.now c.self.view_is) ∙ c.requires.idle)

pub returns : goal.returns
returns c =
    states_set c.self.inside.states.items c.self.inside.waiters c.args.m None
    (within_shown c.self.inside.states.items c.self.inside.waiters c.args.self.now c.self.view_is c.args.m c.requires.exists)
    ∙ ap (λ t. put (mutexes t) c.args.m None) c.self.view_is
