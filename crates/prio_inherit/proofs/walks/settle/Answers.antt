use Rattle.std.proofs.Common.{◌+◌, refl, rules, ℕ, Option, None, arith}
use Rattle.thread_base.specs.Maps.{numbered}
use Rattle.thread_base.proofs.MapLemmas.{numbered_get}
use Rattle.prio_inherit.proofs.SettleLemmas.{settling_first, settling_on, settled}
use Rattle.prio_inherit.proofs.walks.settle.Goals as goal

pub loop-index-init : goal.loop-index-init
loop-index-init c = record { sized = search rules; settling = settling_first (numbered None c.args.edges.now) (numbered 0 c.args.prios.now) }

pub loop-index-preserved : goal.loop-index-preserved
loop-index-preserved c =
    let n : ℕ = c.loop-index.index in
    let edge : ℕ → Option ℕ = numbered None c.args.edges.now in
    let cur : ℕ → ℕ = numbered 0 c.loop-index.prios in
    let priority = numbered_get 0 c.index-prios-index.result c.loop-index.prios n (n + 1) refl (omega arith) in
    let first = numbered_get None c.index-edges-index.result c.args.edges.now n (n + 1) refl (omega arith) in
    record {
      sized = c.raise.ensures.sized;
      settling = settling_on edge (numbered 0 c.args.prios.now) cur (numbered 0 c.raise.new.prios) n _ _ (omega arith)
          priority first c.raise.ensures.raised c.loop-index.invariant.settling;
    }

pub returns-clause-effective : goal.returns-clause-effective
returns-clause-effective c = settled _ _ _ c.loop-index.index c.requires (omega arith) c.loop-index.invariant.settling
