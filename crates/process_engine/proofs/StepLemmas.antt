-- A move in progress: one small change of it, and all that is left of it.
use Rattle.std.proofs.Common.{◌≡◌, ◌∙◌, ap, sym, refl, subst, arith, length, is_some, Option, Some}
use Rattle.ready_queues.specs.Queue.{Queue}
use Rattle.posix_model.specs.State.{State}
use Rattle.posix_model.specs.Changes.{Outcome}
use Rattle.posix_model.specs.Runs.{Rules}
use Rattle.posix_model.specs.declared.Report.{Report}
use Rattle.trace_text.specs.Output.{IsReadable}
use Rattle.kernel_state.specs.View.{view}
use Rattle.kernel_state.specs.Moves.{MakesOne}
use Rattle.kernel_state.specs.Small.{IsSmall}
use Rattle.kernel_state.specs.declared.change.Change.{Change}
use Rattle.kernel_state.specs.declared.kernel.MainLine.{MainLine}
use Rattle.kernel_state.specs.Presented.{taken_of}
use Rattle.kernel_state.specs.Kernels.{KernelState, remaining, IsIdle, owed_by}
use Rattle.process_engine.specs.Engine.{Engine, order, owed_of, moment_of, position_of, telling_of, IsInCall, Stands, IsSound}
use Rattle.process_engine.specs.Turns.{Leaves, Completes}
use Rattle.process_engine.specs.declared.stage.Stage.TheVariants.{Paused, InCall}
use Rattle.process_engine.proofs.EngineLemmas.{owed_state, moment_state, none_remaining, stands_at, sound_same}
use Rattle.process_engine.proofs.InstructionLemmas.{some_remaining}

module _ (p : Engine) (k : KernelState Queue) (sound : IsSound p) (calling : p.stage ≡ InCall) (rules : Rules) (ruled : rules ≡ p.rules) where
  telling : (position_of p).telling ≡ Some (owed_of p).report
  telling = ap (λ s. telling_of s (owed_of p).report) calling

  -- all that was left of the move was made
  module _ (report : Report) (state : view order k.tables ≡ (owed_by order p.kernel).state) (tells : report ≡ (owed_by order p.kernel).report) (idle : IsIdle k)
      (settings : k.settings ≡ p.kernel.settings) (outside : k.outside ≡ p.kernel.outside) where
    abbrev done : Engine
    done = record { kernel = k; instructions = p.instructions; stop = p.stop; last = p.last; stage = Paused; rules = rules }

    same_state : (moment_of done).state ≡ (moment_of p).state
    same_state = moment_state done idle ∙ state ∙ sym (owed_state p)

    finish_now : moment_of done ≡ moment_of p
    finish_now = λ i. record { state = same_state i; instructions = p.instructions; last = p.last; taken = taken_of (outside i) }

    pub finish_sound : IsSound (record { kernel = k; instructions = p.instructions; stop = p.stop; last = p.last; stage = Paused; rules = rules })
    finish_sound = sound_same p done sound ruled refl settings p.kernel.outside outside refl refl sound.outside idle finish_now sound.prompt

    pub completes : Completes (position_of p) report (position_of (record { kernel = k; instructions = p.instructions; stop = p.stop; last = p.last; stage = Paused; rules = rules }))
    unfolding owed_of
    completes = record {
      now = finish_now;
      before = telling ∙ ap Some (sym tells);
      telling = refl;
      none = none_remaining k.rest idle.rest;
      shown = sym (moment_state done idle);
      readable =
          subst (λ r. IsReadable r (moment_of done).state.memory) (sym tells)
          (subst (λ (s : State). IsReadable (owed_by order p.kernel).report s.memory) (sym (same_state ∙ owed_state p)) (stands_at p InCall sound calling).readable);
    }

  -- one small change was made, and more are left
  module _ (step : MakesOne order p.kernel k) (small : IsSmall (view order p.kernel.tables) (view order k.tables)) where
    abbrev onward : Engine
    onward = record { kernel = k; instructions = p.instructions; stop = p.stop; last = p.last; stage = p.stage; rules = rules }

    owed_same : owed_of onward ≡ owed_of p
    unfolding owed_of
    owed_same = step.owed

    same_now : moment_of onward ≡ moment_of p
    same_now = λ i. record { state = (owed_same i).state; instructions = p.instructions; last = p.last; taken = taken_of (step.outside i) }

    pub step_sound : IsSound (record { kernel = k; instructions = p.instructions; stop = p.stop; last = p.last; stage = p.stage; rules = rules })
    step_sound =
        let before = stands_at p InCall sound calling in
        let call : IsInCall order k = record {
          begun = ap (λ (x : Option MainLine). is_some x) step.main ∙ before.begun;
          readable = subst (λ (g : Outcome). IsReadable g.report g.state.memory) (sym step.owed) before.readable;
        } in
        sound_same p onward sound ruled refl step.settings p.kernel.outside step.outside refl refl sound.outside (subst (Stands order k p.last) (sym calling) call) same_now sound.prompt

    pub leaves : Leaves (position_of p) (position_of (record { kernel = k; instructions = p.instructions; stop = p.stop; last = p.last; stage = p.stage; rules = rules }))
    leaves = record {
      now = same_now;
      report = (owed_of p).report;
      before = telling;
      telling = ap (λ s. telling_of s (owed_of onward).report) calling ∙ ap (λ (g : Outcome). Some g.report) owed_same;
      one = (let e = ap (length {A = Change}) step.first in omega (arith, e));
      more = some_remaining (remaining k.rest) step.more;
      small = small;
    }
