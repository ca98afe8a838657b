use Rattle.std.specs.Result.{IfOk}
use Rattle.std.specs.declared.result.Result.{Result}
use Rattle.std.specs.declared.result.Result.TheVariants.{Ok, Err}
use Rattle.kernel_state.specs.View.{view}
use Rattle.process_engine.proofs.SettingLemmas.{start_none}
use Rattle.process_engine.proofs.delivery_tests.start.Goals as goal

each_ok : {T E : Type 0} (P Q : T → Type 0) (r : Result T E) → ((x : T) → P x → Q x) → IfOk r P → IfOk r Q
each_ok P Q (Ok x) each h = each x h
each_ok P Q (Err e) each h = h

pub returns-clause-none : goal.returns-clause-none
returns-clause-none g c =
    each_ok _ _ c.new-2.result (λ k start. start_none (view g.R.Ready.order k.tables) c.in_ok-memory.memory 0x10000 start) c.new-2.ensures.start
