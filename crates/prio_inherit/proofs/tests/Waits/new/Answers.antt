use Rattle.std.proofs.Common.{◌≡◌, ◌∙◌, sym, rules, None, replicate}
use Rattle.thread_base.specs.Maps.{numbered}
use Rattle.thread_base.proofs.MapLemmas.{numbered_blank}
use Rattle.prio_inherit.proofs.tests.Waits.new.Goals as goal

pub invariant_of-result : goal.invariant_of-result
invariant_of-result c =
    let zero : c.unwrap-none.result ≡ 0 = search rules in
    let blank : numbered 0 (replicate 64 c.unwrap-none.result) ≡ (λ u. 0) = rw zero (numbered_blank 0 64) in
    record {
      own_is = λ u. (λ k. c.new-2.ensures.own k u) ∙ sym (λ k. blank k u);
      edge_is = λ u. (λ k. c.new-2.ensures.edge k u) ∙ sym (λ k. numbered_blank None 64 k u);
      effective = c.new-2.ensures.effective;
    }
