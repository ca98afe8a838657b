use Rattle.std.proofs.Common.{◌≡◌, ◌∙◌, ap, refl, sym, subst, arith, ◌++◌, ◌∷◌, [], append_assoc, length, length-append}
use Rattle.std.proofs.lemmas.List.{append-nil}
use Rattle.link_arena.specs.Chains.{first_of, after_in}
use Rattle.link_arena.specs.Waiting.{queue_of, AreApart}
use Rattle.link_arena.proofs.ListLemmas.{from_node, from_first, walk_next, walk_shorter, walk_first, walk_after}
use Rattle.link_arena.proofs.WaitingLemmas.{queue_is, once_in, apart_of, at_most_64, threads_in, walk_thread, after_in_queue}
use Rattle.link_arena.proofs.waits.WaitQueues.threads.Goals as goal

pub loop-at-init : goal.loop-at-init
loop-at-init c =
    let first = c.first-at.ensures.first ∙ ap first_of (sym (queue_is c.self.inside.links.lists c.args.n)) in
    record {
      within = walk_first (queue_of c.self.inside.links.lists c.args.n) c.first-at.result first;
      front = ap (λ ts. ts ++ from_node c.first-at.result (queue_of c.self.inside.links.lists c.args.n)) c.new-threads.ensures ∙ ap (λ o. from_node o (queue_of c.self.inside.links.lists c.args.n)) first ∙ from_first (queue_of c.self.inside.links.lists c.args.n);
    }

pub push-requires : goal.push-requires
push-requires c =
    let ns = queue_of c.self.inside.links.lists c.args.n in
    let here = walk_thread c.self.inside.links c.self.invariant c.args.n c.loop-at.at c.in-Some.t c.in-Some.is c.loop-at.invariant.within in
    let more : from_node c.loop-at.at ns ≡ c.in-Some.t ∷ from_node (after_in c.in-Some.t ns) ns = walk_next ns c.loop-at.at (after_in c.in-Some.t ns) c.in-Some.t (once_in c.self.inside.links c.self.invariant c.args.n) c.in-Some.is here refl in
    let all = ap length c.loop-at.invariant.front in
    let few = at_most_64 c.self.inside.links c.self.invariant c.args.n in
    let parts = length-append c.loop-at.threads.items (from_node c.loop-at.at ns) in
    let last = ap length more in
    (omega arith, omega arith)

pub next-at-requires : goal.next-at-requires
next-at-requires c =
    let here = walk_thread c.self.inside.links c.self.invariant c.args.n c.loop-at.at c.in-Some.t c.in-Some.is c.loop-at.invariant.within in
    let range = threads_in c.self.inside.links c.self.invariant c.args.n c.in-Some.t here in
    omega (arith, c.self.invariant.nodes)

pub loop-at-smaller : goal.loop-at-smaller
loop-at-smaller c =
    let here = walk_thread c.self.inside.links c.self.invariant c.args.n c.loop-at.at c.in-Some.t c.in-Some.is c.loop-at.invariant.within in
    walk_shorter (queue_of c.self.inside.links.lists c.args.n) c.loop-at.at c.next-at.result c.in-Some.t (once_in c.self.inside.links c.self.invariant c.args.n) c.in-Some.is here
    (after_in_queue c.self.inside.links c.self.invariant c.args.n c.in-Some.t c.next-at.result c.next-at.ensures.next here)

pub loop-at-preserved : goal.loop-at-preserved
loop-at-preserved c =
    let ns = queue_of c.self.inside.links.lists c.args.n in
    let here = walk_thread c.self.inside.links c.self.invariant c.args.n c.loop-at.at c.in-Some.t c.in-Some.is c.loop-at.invariant.within in
    let next = after_in_queue c.self.inside.links c.self.invariant c.args.n c.in-Some.t c.next-at.result c.next-at.ensures.next here in
    record {
      within = walk_after ns c.next-at.result c.in-Some.t next;
      front =
          ap (λ ts. ts ++ from_node c.next-at.result ns) c.push.ensures.items
          ∙ append_assoc c.loop-at.threads.items (c.in-Some.t ∷ []) (from_node c.next-at.result ns)
          ∙ ap (λ ts. c.loop-at.threads.items ++ ts) (sym (walk_next ns c.loop-at.at c.next-at.result c.in-Some.t (once_in c.self.inside.links c.self.invariant c.args.n) c.in-Some.is here next))
          ∙ c.loop-at.invariant.front;
    }

pub returns-clause-queue : goal.returns-clause-queue
returns-clause-queue c =
    sym (append-nil c.loop-at.threads.items)
    ∙ ap (λ o. c.loop-at.threads.items ++ from_node o (queue_of c.self.inside.links.lists c.args.n)) (sym c.in_default.is)
    ∙ c.loop-at.invariant.front
    ∙ ap (λ lists. queue_of lists c.args.n) c.self.view_is

pub returns-clause-apart : goal.returns-clause-apart
returns-clause-apart c = subst (λ lists. AreApart (queue_of lists)) c.self.view_is (apart_of c.self.inside.links c.self.invariant)
