use Rattle.std.proofs.Common.{ℕ, Option, None, arith}
use Rattle.thread_base.specs.Maps.{numbered}
use Rattle.thread_base.specs.Numbers.{IsTid}
use Rattle.thread_base.proofs.MapLemmas.{numbered_get}
use Rattle.prio_inherit.specs.Stored.{own_of, edge_of, prio_of}
use Rattle.prio_inherit.proofs.SetLemmas.{changed_both}
use Rattle.prio_inherit.proofs.ChangeLemmas.{risen}
use Rattle.prio_inherit.proofs.Inherit.raise_along.Goals as goal

pub returns-clause-prio : goal.returns-clause-prio
unfolding own_of edge_of prio_of
returns-clause-prio c =
    let own : ℕ → ℕ = numbered 0 c.args.self.now.own in
    let edge : ℕ → Option ℕ = numbered None c.args.self.now.edges in
    let prio : ℕ → ℕ = numbered 0 c.args.self.now.prios in
    let mid : ℕ → ℕ = numbered 0 c.raise-by_own.new.prios in
    let t : ℕ = c.args.t in
    let i : ℕ = c.index-index.result in
    let range : IsTid t = (omega arith, omega arith) in
    let p_is = numbered_get 0 c.index-self-index.result c.args.self.now.own i t c.index-index.ensures.value (omega arith) in
    let to_is = numbered_get None c.index-self-index-2.result c.args.self.now.edges i t c.index-index.ensures.value (omega arith) in
    let q_is = numbered_get 0 c.index-self-index-3.result c.raise-by_own.new.prios i t c.index-index.ensures.value (omega arith) in
    risen own edge prio t c.requires.own_before c.requires.edge_before c.args.self.now.within range c.requires.raised c.requires.added c.requires.effective
    mid (numbered 0 c.raise-by_edge.new.prios) _ _ _ p_is q_is to_is c.raise-by_own.ensures.raised c.raise-by_edge.ensures.raised

pub returns-clause-answer : goal.returns-clause-answer
unfolding prio_of
returns-clause-answer c =
    changed_both c.raise-by_own.result c.raise-by_edge.result (numbered 0 c.args.self.now.prios) (numbered 0 c.raise-by_own.new.prios) (numbered 0 c.raise-by_edge.new.prios)
    c.raise-by_own.ensures.raised.never_lower c.raise-by_edge.ensures.raised.never_lower c.raise-by_own.ensures.answer c.raise-by_edge.ensures.answer
