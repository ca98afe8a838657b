use Rattle.std.proofs.Common.{◌≡◌, ◌∙◌, sym, ◌≤◌, ℕ, Option, None, Some, SomeIff, ap}
use Rattle.thread_base.specs.Priority.{first_greatest}
use Rattle.thread_base.proofs.OrderLemmas.{within}
use Rattle.thread_base.proofs.PriorityLemmas.{first_in}
use Rattle.ready_queues.specs.Queue.{level_of}
use Rattle.ready_queues.proofs.ReadyLemmas.{chosen_is, distinct, first_facts}
use Rattle.ready_queues.proofs.bitmap.BitmapReadyReady.chosen.Goals as goal
use Rattle.ready_queues.proofs.bitmap.BitmapReadyReady.chosen.Goals.{After-new}

pub returns-in_err-top-clause-first : goal.returns-in_err-top-clause-first
returns-in_err-top-clause-first c = c.from_residual.ensures ∙ chosen_is c.self.invariant.are c.self.view_is None c.in_err-top.ensures

pub returns-in_err-top-clause-empty : goal.returns-in_err-top-clause-empty
returns-in_err-top-clause-empty c = (first_facts _ _ _ (c.from_residual.ensures ∙ chosen_is c.self.invariant.are c.self.view_is None c.in_err-top.ensures)).0

pub returns-in_err-top-clause-distinct : goal.returns-in_err-top-clause-distinct
returns-in_err-top-clause-distinct c = distinct c.self.invariant.are c.self.view_is

thread_of : (o : Option ℕ) (n : ℕ) → SomeIff o ((1 ≤ n) × (n ≤ 64)) n → (1 ≤ n) × (n ≤ 64) → o ≡ Some n
thread_of None n is within = absurd (is within)
thread_of (Some t) n is within = ap Some is.1

chosen : (c : After-new) → c.new.result ≡ first_greatest (level_of c.args.self.now) c.args.self.now.order
chosen c =
    let first = chosen_is c.self.invariant.are c.self.view_is (Some c.in_ok-top.field-0) c.in_ok-top.ensures in
    let here = first_in (level_of c.args.self.now) c.args.self.now.order c.in_ok-top.field-0 (sym first) in
    let low = within c.args.self.now.order c.in_ok-top.field-0 (distinct c.self.invariant.are c.self.view_is) here in
    thread_of c.new.result c.in_ok-top.field-0 c.new.ensures low ∙ first

pub returns-clause-first : goal.returns-clause-first
returns-clause-first c = chosen c

pub returns-clause-empty : goal.returns-clause-empty
returns-clause-empty c = (first_facts _ _ _ (chosen c)).0

pub returns-clause-member : goal.returns-clause-member
returns-clause-member c = (first_facts _ _ _ (chosen c)).1

pub returns-clause-distinct : goal.returns-clause-distinct
returns-clause-distinct c = distinct c.self.invariant.are c.self.view_is
