use Rattle.std.proofs.Common.{◌∙◌, ◌-◌, rules, ℕ, Option, Some, None, arith, length-set}
use Rattle.thread_base.specs.Maps.{numbered}
use Rattle.thread_base.specs.Numbers.{IsTid}
use Rattle.thread_base.proofs.MapLemmas.{numbered_get, numbered_set}
use Rattle.prio_inherit.proofs.GiveLemmas.{Giving, giving_first, giving_on, given_end, given_all}
use Rattle.prio_inherit.proofs.walks.give_back.Goals as goal

pub loop-step-init : goal.loop-step-init
loop-step-init c = record {
  sized = search rules;
  giving = giving_first (numbered 0 c.args.own.now) (numbered None c.args.edges.now) (numbered 0 c.args.prios.now) c.args.from;
}

pub returns-in_default-clause-given : goal.returns-in_default-clause-given
returns-in_default-clause-given c =
    given_end _ _ _ _ c.args.from (64 - c.loop-step._step) c.requires (rw c.in_default.is at c.loop-step.invariant.giving)

pub loop-step-preserved : goal.loop-step-preserved
loop-step-preserved c =
    let own : ℕ → ℕ = numbered 0 c.args.own.now in
    let edge : ℕ → Option ℕ = numbered None c.args.edges.now in
    let old : ℕ → ℕ = numbered 0 c.args.prios.now in
    let cur : ℕ → ℕ = numbered 0 c.loop-step.prios in
    let t : ℕ = c.in-Some.t in
    let i : ℕ = c.index-index.result in
    let range : IsTid t = (omega arith, omega arith) in
    let was : Giving own edge old cur c.args.from (Some t) (64 - c.loop-step._step) = rw c.in-Some.is at c.loop-step.invariant.giving in
    let next = numbered_get None c.index-edges-index.result c.args.edges.now i t c.index-index.ensures.value (omega arith) in
    let mine = numbered_get 0 c.index-own-index.result c.args.own.now i t c.index-index.ensures.value (omega arith) in
    let written = numbered_set 0 c.loop-step.prios i t (own t) c.index-index.ensures.value (omega arith) in
    record {
      sized = length-set _ _ _ ∙ c.loop-step.invariant.sized;
      giving = rw (next, mine, written) (giving_on own edge old cur c.args.from t _ _ range (omega arith) was);
    }

pub returns-clause-given : goal.returns-clause-given
returns-clause-given c = given_all _ _ _ _ c.args.from c.loop-step.at _ (omega arith) c.requires c.loop-step.invariant.giving
