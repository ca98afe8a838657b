use Rattle.std.proofs.Common.{◌≡◌, ◌∙◌, ap, sym, arith, true, false, cond, ltb, ℕ, Some}
use Rattle.std.proofs.lemmas.Bool.{lt-ltb, le-ltb}
use Rattle.thread_base.specs.Maps.{numbered}
use Rattle.thread_base.proofs.PriorityLemmas.{better}
use Rattle.thread_base.proofs.MapLemmas.{numbered_get}
use Rattle.link_arena.proofs.waits.better.Goals as goal

pub returns-then-levels-index : goal.returns-then-levels-index
returns-then-levels-index c =
    let level : ℕ → ℕ = numbered 0 c.args.levels.now in
    let earlier = numbered_get 0 0 c.args.levels.now c.index.result c.in-Some.b c.index.ensures.value (omega arith) in
    let later = numbered_get 0 0 c.args.levels.now c.index-in-Some.result c.args.t c.index-in-Some.ensures.value (omega arith) in
    let test : ltb (level c.in-Some.b) (level c.args.t) ≡ true = lt-ltb (level c.in-Some.b) (level c.args.t) (omega (arith, earlier, later)) in
    sym (ap (λ o. better level o c.args.t) c.in-Some.is ∙ ap (λ b. cond b (Some c.args.t) (Some c.in-Some.b)) test)

pub returns-else-levels-index : goal.returns-else-levels-index
returns-else-levels-index c =
    let level : ℕ → ℕ = numbered 0 c.args.levels.now in
    let earlier = numbered_get 0 0 c.args.levels.now c.index.result c.in-Some.b c.index.ensures.value (omega arith) in
    let later = numbered_get 0 0 c.args.levels.now c.index-in-Some.result c.args.t c.index-in-Some.ensures.value (omega arith) in
    let test : ltb (level c.in-Some.b) (level c.args.t) ≡ false = le-ltb (level c.in-Some.b) (level c.args.t) (omega (arith, earlier, later)) in
    sym (ap (λ o. better level o c.args.t) c.in-Some.is ∙ ap (λ b. cond b (Some c.args.t) (Some c.in-Some.b)) test)
