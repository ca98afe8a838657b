use Rattle.std.proofs.Common.{◌∙◌, ap, sym}
use Rattle.thread_base.specs.Objects.{holder_in}
use Rattle.thread_base.specs.Holders.{is_free}
use Rattle.kernel_state.specs.View.{view, outcome}
use Rattle.kernel_state.proofs.MutexLemmas.{a_mutex, retake_is}
use Rattle.kernel_state.proofs.tables.Tables.retake.Goals as goal

pub returns-then-is_free-clause-outcome : goal.returns-then-is_free-clause-outcome
unfolding outcome
returns-then-is_free-clause-outcome g c =
    let k = c.args.self.now in
    let there = a_mutex ((view g.R.Ready.order k).mutexes c.args.m) c.requires.there in
    let free = ap (λ o. is_free (holder_in o)) (sym there.1) ∙ sym c.is_free.ensures ∙ c.if-is_free.true in
    c.give.ensures.outcome there.0 there.1
    ∙ sym ((retake_is (outcome g.R.Ready.order k) c.args.m c.args.t c.args.count c.args.reply there.0 there.1).0 free)

pub returns-else-is_free-clause-outcome : goal.returns-else-is_free-clause-outcome
unfolding outcome
returns-else-is_free-clause-outcome g c =
    let k = c.args.self.now in
    let there = a_mutex ((view g.R.Ready.order k).mutexes c.args.m) c.requires.there in
    let taken = ap (λ o. is_free (holder_in o)) (sym there.1) ∙ sym c.is_free.ensures ∙ c.if-is_free.false in
    c.requeue.ensures.outcome there.0 there.1
    ∙ sym ((retake_is (outcome g.R.Ready.order k) c.args.m c.args.t c.args.count c.args.reply there.0 there.1).1 taken)
