use Rattle.std.proofs.Common.{◌≡◌, ◌≢◌, ◌∙◌, ◌<◌, rules, ℕ, Option, Some, None, arith, set, length-set}
use Rattle.thread_base.specs.Maps.{put, numbered}
use Rattle.thread_base.specs.Numbers.{IsTid}
use Rattle.thread_base.proofs.MapLemmas.{numbered_set, numbered_read, numbered_get}
use Rattle.prio_inherit.proofs.SetLemmas.{changed_none, changed_more}
use Rattle.prio_inherit.proofs.RaiseLemmas.{Rising, rising_first, rising_on, raised_stop, below_falls}
use Rattle.prio_inherit.proofs.walks.raise.Goals as goal

pub loop-next-init : goal.loop-next-init
loop-next-init c = record {
  sized = search rules;
  rising = rising_first (numbered None c.args.edges.now) (numbered 0 c.args.prios.now) c.args.from c.args.p;
  changed = changed_none (numbered 0 c.args.prios.now);
}

pub returns-then-number-clause-raised : goal.returns-then-number-clause-raised
returns-then-number-clause-raised c =
    let read = numbered_read 0 _ c.loop-next.prios _ c.in-Some.t c.index-prios-index.is c.index-index.ensures.value (omega arith) in
    raised_stop _ _ _ c.args.from c.args.p c.in-Some.t (omega (arith, read)) (rw c.in-Some.is at c.loop-next.invariant.rising)

-- the next thread has less than the priority
less : (c : goal.After-index-edges-index) → numbered 0 c.loop-next.prios c.in-Some.t < c.args.p
less c =
    let read = numbered_read 0 _ c.loop-next.prios _ c.in-Some.t c.index-prios-index.is c.index-index.ensures.value (omega arith) in
    omega (arith, read)

written : (c : goal.After-index-edges-index) → numbered 0 (set c.loop-next.prios c.index-index.result c.args.p) ≡ put (numbered 0 c.loop-next.prios) c.in-Some.t c.args.p
written c = numbered_set 0 c.loop-next.prios c.index-index.result c.in-Some.t c.args.p c.index-index.ensures.value (omega arith)

pub loop-next-smaller : goal.loop-next-smaller
loop-next-smaller c = rw (written c) (below_falls _ c.in-Some.t c.args.p (less c) (omega arith, omega arith))

pub loop-next-preserved : goal.loop-next-preserved
loop-next-preserved c =
    let edge : ℕ → Option ℕ = numbered None c.args.edges.now in
    let old : ℕ → ℕ = numbered 0 c.args.prios.now in
    let cur : ℕ → ℕ = numbered 0 c.loop-next.prios in
    let t : ℕ = c.in-Some.t in
    let range : IsTid t = (omega arith, omega arith) in
    let was : Rising edge old cur c.args.from (Some t) c.args.p = rw c.in-Some.is at c.loop-next.invariant.rising in
    let next = numbered_get None c.index-edges-index.result c.args.edges.now _ t c.index-index.ensures.value (omega arith) in
    let lower : old t ≢ c.args.p = λ e. (let is = c.loop-next.invariant.rising.never_lower t in let lt = less c in omega (arith, is, lt, e)) in
    record {
      sized = length-set _ _ _ ∙ c.loop-next.invariant.sized;
      rising = rw (written c, next) (rising_on edge old cur c.args.from c.args.p t (less c) was);
      changed = rw (written c)
          (changed_more c.loop-next.raised c.index-index.result t c.index-index.ensures.value range old cur c.args.p c.loop-next.invariant.changed lower);
    }
