use Rattle.std.proofs.Common.{◌≡◌, ◌∙◌, sym, ap, arith, ◌+◌, ◌-◌, ◌<◌, ◌&&◌, ◌≤◌, ℕ, Bool, ltb, is_some, length, filter, take, cond}
use Rattle.thread_base.specs.Priority.{tids}
use Rattle.link_arena.specs.Chains.{head_in}
use Rattle.ready_queues.specs.Ranks.{number_of, rank_of}
use Rattle.ready_queues.proofs.RankLemmas.{count_more, count_all, count_low}
use Rattle.ready_queues.proofs.numbers.rank.Goals as goal
use Rattle.ready_queues.proofs.numbers.rank.Goals.{then-is_lower, else-is_lower}

pub overflow_add-lower : goal.overflow_add-lower
overflow_add-lower c =
    let few = count_low (λ (u : ℕ). is_some (head_in c.args.lists.now u) && ltb (number_of c.args.given.now u) (number_of c.args.given.now c.args.t)) (c.loop-u.u - 1) in
    omega (arith, c.loop-u.invariant)

pub loop-u-preserved : goal.loop-u-preserved
loop-u-preserved c =
    let p : ℕ → Bool = λ u. is_some (head_in c.args.lists.now u) && ltb (number_of c.args.given.now u) (number_of c.args.given.now c.args.t) in
    let more = count_more p c.loop-u.u (omega arith) (omega arith) in
    let was : c.loop-u.lower ≡ length (filter p (take (c.loop-u.u - 1) tids)) = c.loop-u.invariant in
    let now : c.if-is_lower.lower ≡ length (filter p (take (c.loop-u.u - 1) tids)) + cond (p c.loop-u.u) 1 0 =
    elim c.if-is_lower.branch [
      | then-is_lower w ↦ (let passes : p c.loop-u.u ≡ Rattle.std.proofs.Common.true = sym c.is_lower.ensures ∙ w.if-is_lower.true in w.lower-is ∙ ap (λ n. n + 1) was ∙ ap (λ b. length (filter p (take (c.loop-u.u - 1) tids)) + cond b 1 0) (sym passes))
      | else-is_lower w ↦ (let fails : p c.loop-u.u ≡ Rattle.std.proofs.Common.false = sym c.is_lower.ensures ∙ w.if-is_lower.false in let e : c.if-is_lower.lower ≡ length (filter p (take (c.loop-u.u - 1) tids)) + 0 = omega arith in e ∙ ap (λ b. length (filter p (take (c.loop-u.u - 1) tids)) + cond b 1 0) (sym fails))
    ] in
    now ∙ sym more

pub returns : goal.returns
unfolding rank_of
returns c =
    c.loop-u.invariant
    ∙ ap (λ us. length (filter (λ u. is_some (head_in c.args.lists.now u) && ltb (number_of c.args.given.now u) (number_of c.args.given.now c.args.t)) us)) (count_all c.loop-u.u c.loop-u-test.false)
