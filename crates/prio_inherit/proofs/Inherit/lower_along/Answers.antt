use Rattle.std.proofs.Common.{refl, ℕ, Option, None}
use Rattle.thread_base.specs.Maps.{numbered}
use Rattle.thread_base.specs.Numbers.{IsTid}
use Rattle.prio_inherit.specs.Stored.{own_of, edge_of, prio_of}
use Rattle.prio_inherit.proofs.ChangeLemmas.{fallen}
use Rattle.prio_inherit.proofs.Inherit.lower_along.Goals as goal

pub returns-clause-prio : goal.returns-clause-prio
unfolding own_of edge_of prio_of
returns-clause-prio c =
    let own : ℕ → ℕ = numbered 0 c.args.self.now.own in
    let edge : ℕ → Option ℕ = numbered None c.args.self.now.edges in
    let range : IsTid c.args.t = c.give_back.ensures.given.range c.args.t refl in
    fallen own edge (numbered 0 c.args.self.now.prios) c.args.t c.requires.own_before c.requires.edge_before c.args.self.now.within range
    c.args.old c.requires.removed c.requires.effective (numbered 0 c.give_back.new.prios) (numbered 0 c.give_back-2.new.prios) (numbered 0 c.settle.new.prios)
    c.give_back.ensures.given c.give_back-2.ensures.given c.settle.ensures.effective
