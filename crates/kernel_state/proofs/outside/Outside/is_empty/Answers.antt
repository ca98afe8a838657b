use Rattle.std.proofs.Common.{◌≡◌, ◌∙◌, rules, sym, subst, nat_eq}
use Rattle.std.specs.Prelude.{◌&&◌}
use Rattle.kernel_state.specs.Outside.{OutsideState, is_nothing}
use Rattle.kernel_state.specs.Presented.{IsSound}
use Rattle.kernel_state.proofs.LawLemmas.{left_behind}
use Rattle.kernel_state.proofs.outside.Outside.is_empty.Goals as goal

pub returns-then-is_none-clause-left : goal.returns-then-is_none-clause-left
returns-then-is_none-clause-left c = λ empty.
    let nothing : nat_eq c.len.result 0 ≡ (is_nothing c.args.self.now.log.slots && is_nothing c.args.self.now.unix.pending) = search rules in
    left_behind c.args.self.now (subst (λ (o : OutsideState). IsSound o) c.self.view_is c.self.invariant) (sym nothing ∙ empty)
