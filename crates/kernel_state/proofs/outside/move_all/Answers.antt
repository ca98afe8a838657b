use Rattle.std.proofs.Common.{◌∙◌, ap, sym, arith, [], ◌+◌}
use Rattle.unix_process.specs.Merging.{count_of}
use Rattle.unix_process.specs.Unix.{UnixState}
use Rattle.monitor_log.specs.Log.{LogState}
use Rattle.kernel_state.specs.Outside.{gathered}
use Rattle.kernel_state.proofs.OutsideLemmas.{moved_on, counted_on}
use Rattle.kernel_state.proofs.outside.move_all.Goals as goal

pub loop-item-preserved : goal.loop-item-preserved
loop-item-preserved c = record {
  unix = ap (λ (u : UnixState). record u { pending = [] }) c.take.ensures.rest ∙ c.loop-item.invariant.unix;
  log = ap (λ (l : LogState). record l { slots = [] }) c.add.ensures.slots ∙ c.loop-item.invariant.log;
  all =
      (λ i. gathered (c.add.ensures.slots i).slots (c.take.ensures.rest i).pending)
      ∙ moved_on c.loop-item.log.slots c.loop-item.unix.pending c.in-Some.item (sym c.take.ensures.first ∙ c.in-Some.is)
      ∙ c.loop-item.invariant.all;
  fits = λ e.
      let same =
      (λ i. count_of e (c.add.ensures.slots i).slots + count_of e (c.take.ensures.rest i).pending)
      ∙ counted_on c.loop-item.log.slots c.loop-item.unix.pending c.in-Some.item e (sym c.take.ensures.first ∙ c.in-Some.is) in
      let was = c.loop-item.invariant.fits e in
      omega (arith, same, was);
}
