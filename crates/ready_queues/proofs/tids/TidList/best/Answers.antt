use Rattle.std.proofs.Common.{◌≡◌, ◌∙◌, ap, sym, subst, arith, ℕ, List, [], ◌∷◌, ◌++◌, take, true, IsNone, IfSome}
use Rattle.std.proofs.lemmas.Grind.{common_steps}
use Rattle.std.proofs.lemmas.List.{take_more}
use Rattle.thread_base.specs.Maps.{numbered}
use Rattle.thread_base.specs.Orders.{is_in}
use Rattle.thread_base.specs.Priority.{first_greatest}
use Rattle.thread_base.proofs.PriorityLemmas.{better, first_push}
use Rattle.link_arena.proofs.ChoiceLemmas.{first_empty, first_member}
use Rattle.ready_queues.proofs.tids.TidList.best.Goals as goal

pub loop-t-preserved : goal.loop-t-preserved
loop-t-preserved c =
    let level : ℕ → ℕ = numbered 0 c.args.levels.now in
    let items : List ℕ = c.deref-t-items.result.now in
    let front : List ℕ = take c.loop-t.t-index items in
    let more = take_more items c.loop-t.t-index c.t-item.result (omega arith) in
    c.better.ensures
    ∙ ap (λ o. better level o c.t-item.result) c.loop-t.invariant
    ∙ sym (first_push level front c.t-item.result)
    ∙ ap (λ x. first_greatest level (front ++ x ∷ [])) c.t-item.is
    ∙ sym (ap (first_greatest level) more)

pub returns-clause-empty : goal.returns-clause-empty
returns-clause-empty c =
    let first : c.loop-t.best ≡ first_greatest (numbered 0 c.args.levels.now) c.args.self.now = grind (arith, common_steps) in
    let answer = first_empty (numbered 0 c.args.levels.now) c.args.self.now in
    (λ h. answer.0 (subst IsNone first h), λ e. subst IsNone (sym first) (answer.1 e))

pub returns-clause-member : goal.returns-clause-member
returns-clause-member c =
    let first : c.loop-t.best ≡ first_greatest (numbered 0 c.args.levels.now) c.args.self.now = grind (arith, common_steps) in
    subst (λ o. IfSome o (λ t. is_in t c.args.self.now ≡ true)) (sym first) (first_member (numbered 0 c.args.levels.now) c.args.self.now)
