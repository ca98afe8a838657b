use Rattle.std.proofs.Common.{◌≡◌, ◌∙◌, ap, sym, subst, [], true, ℕ, None, IsNone, IfSome}
use Rattle.thread_base.specs.Maps.{numbered}
use Rattle.thread_base.specs.Orders.{is_in}
use Rattle.thread_base.specs.Priority.{first_greatest}
use Rattle.thread_base.proofs.PriorityLemmas.{better}
use Rattle.link_arena.specs.Chains.{first_of}
use Rattle.link_arena.specs.Waiting.{queue_of}
use Rattle.link_arena.proofs.ChoiceLemmas.{best_over, over_all, first_empty, first_member}
use Rattle.link_arena.proofs.ListLemmas.{from_node, from_first, walk_next, walk_shorter, walk_first, walk_after}
use Rattle.link_arena.proofs.WaitingLemmas.{queue_is, once_in, threads_in, walk_thread, after_in_queue}
use Rattle.link_arena.proofs.waits.WaitQueues.best.Goals as goal
use Rattle.link_arena.proofs.waits.WaitQueues.best.Goals.{In_default}

pub loop-at-init : goal.loop-at-init
loop-at-init c =
    let first = c.first-at.ensures.first ∙ ap first_of (sym (queue_is c.self.inside.links.lists c.args.n)) in
    record {
      within = walk_first (queue_of c.self.inside.links.lists c.args.n) c.first-at.result first;
      over =
          ap (best_over (numbered 0 c.args.levels.now) None) (ap (λ o. from_node o (queue_of c.self.inside.links.lists c.args.n)) first ∙ from_first (queue_of c.self.inside.links.lists c.args.n))
          ∙ over_all (numbered 0 c.args.levels.now) (queue_of c.self.inside.links.lists c.args.n);
    }

pub thread-requires : goal.thread-requires
thread-requires c =
    let here = walk_thread c.self.inside.links c.self.invariant c.args.n c.loop-at.at c.in-Some.t c.in-Some.is c.loop-at.invariant.within in
    threads_in c.self.inside.links c.self.invariant c.args.n c.in-Some.t here

pub loop-at-smaller : goal.loop-at-smaller
loop-at-smaller c =
    let here = walk_thread c.self.inside.links c.self.invariant c.args.n c.loop-at.at c.in-Some.t c.in-Some.is c.loop-at.invariant.within in
    walk_shorter (queue_of c.self.inside.links.lists c.args.n) c.loop-at.at c.next-at.result c.in-Some.t (once_in c.self.inside.links c.self.invariant c.args.n) c.in-Some.is here
    (after_in_queue c.self.inside.links c.self.invariant c.args.n c.in-Some.t c.next-at.result c.next-at.ensures.next here)

pub loop-at-preserved : goal.loop-at-preserved
loop-at-preserved c =
    let ns = queue_of c.self.inside.links.lists c.args.n in
    let level : ℕ → ℕ = numbered 0 c.args.levels.now in
    let here = walk_thread c.self.inside.links c.self.invariant c.args.n c.loop-at.at c.in-Some.t c.in-Some.is c.loop-at.invariant.within in
    let next = after_in_queue c.self.inside.links c.self.invariant c.args.n c.in-Some.t c.next-at.result c.next-at.ensures.next here in
    record {
      within = walk_after ns c.next-at.result c.in-Some.t next;
      over =
          ap (λ o. best_over level o (from_node c.next-at.result ns)) (c.better.ensures ∙ ap (better level c.loop-at.best) c.thread.ensures)
          ∙ ap (best_over level c.loop-at.best) (sym (walk_next ns c.loop-at.at c.next-at.result c.in-Some.t (once_in c.self.inside.links c.self.invariant c.args.n) c.in-Some.is here next))
          ∙ c.loop-at.invariant.over;
    }

best_is : (c : In_default) → c.loop-at.best ≡ first_greatest (numbered 0 c.args.levels.now) (queue_of c.args.self.now c.args.n)
best_is c =
    ap (λ o. best_over (numbered 0 c.args.levels.now) c.loop-at.best (from_node o (queue_of c.self.inside.links.lists c.args.n))) (sym c.in_default.is)
    ∙ c.loop-at.invariant.over
    ∙ ap (λ lists. first_greatest (numbered 0 c.args.levels.now) (queue_of lists c.args.n)) c.self.view_is

pub returns-clause-first : goal.returns-clause-first
returns-clause-first c = best_is c

pub returns-clause-empty : goal.returns-clause-empty
returns-clause-empty c =
    subst (λ o. (IsNone o → queue_of c.args.self.now c.args.n ≡ []) × (queue_of c.args.self.now c.args.n ≡ [] → IsNone o)) (sym (best_is c))
    (first_empty (numbered 0 c.args.levels.now) (queue_of c.args.self.now c.args.n))

pub returns-clause-member : goal.returns-clause-member
returns-clause-member c =
    subst (λ o. IfSome o (λ t. is_in t (queue_of c.args.self.now c.args.n) ≡ true)) (sym (best_is c))
    (first_member (numbered 0 c.args.levels.now) (queue_of c.args.self.now c.args.n))
