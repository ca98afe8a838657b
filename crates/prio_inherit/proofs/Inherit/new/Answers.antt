use Rattle.std.proofs.Common.{◌≡◌, ℕ, sym, subst, rules, None, replicate}
use Rattle.thread_base.specs.Maps.{numbered}
use Rattle.thread_base.proofs.MapLemmas.{numbered_blank}
use Rattle.prio_inherit.specs.Priorities.{AreEffective}
use Rattle.prio_inherit.specs.Stored.{own_of, edge_of, prio_of}
use Rattle.prio_inherit.proofs.TableLemmas.{within_blank}
use Rattle.prio_inherit.proofs.ChainLemmas.{effective_unlinked}
use Rattle.prio_inherit.proofs.Inherit.new.Goals as goal

pub invariant_of-result : goal.invariant_of-result
invariant_of-result c = record { within = within_blank }

pub returns-clause-own : goal.returns-clause-own
unfolding own_of
returns-clause-own c = let h : c.unwrap-none.result ≡ 0 = search rules in simp h (numbered_blank 0 64)

pub returns-clause-edge : goal.returns-clause-edge
unfolding edge_of
returns-clause-edge c = numbered_blank None 64

pub returns-clause-prio : goal.returns-clause-prio
unfolding prio_of
returns-clause-prio c = let h : c.unwrap-none.result ≡ 0 = search rules in simp h (numbered_blank 0 64)

pub returns-clause-effective : goal.returns-clause-effective
unfolding own_of edge_of prio_of
returns-clause-effective c =
    let own : ℕ → ℕ = numbered 0 (replicate 64 c.unwrap-none.result) in
    subst (λ edge. AreEffective own edge own) (sym (numbered_blank None 64)) (effective_unlinked own)
