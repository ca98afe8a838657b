-- When the instruction at which a thread stands faults, by its event.
use Rattle.std.proofs.Common.{◌≡◌, ◌∙◌, ap, sym, refl, ℕ, Bool, List, [], ◌∷◌, Option, Some}
use Rattle.std.specs.Prelude.{if◌then◌else◌}
use Rattle.thread_base.specs.declared.frame.FrameKind.{FrameKind}
use Rattle.thread_base.specs.declared.frame.FrameKind.TheVariants.{Handler as OfHandler, Cleanup as OfCleanup}
use Rattle.rv_exec.specs.Meaning.{Effect, Goes, Calls, Faults, Returns, effect}
use Rattle.rv_exec.specs.declared.Event.{Event}
use Rattle.rv_exec.specs.declared.Event.TheVariants.{Return}
use Rattle.rv_exec.specs.declared.Special.{Special}
use Rattle.rv_exec.specs.declared.Special.TheVariants.{Handler, Cleanup, Start}
use Rattle.posix_model.specs.State.{State, Registers, Frame, Phase, Normal, Leaving, is_of_handler}
use Rattle.posix_model.specs.Changes.{Outcome, begun, set_thread}
use Rattle.posix_model.specs.Deliveries.{faulted}
use Rattle.posix_model.specs.Instructions.{by_effect, handler_returned, cleanup_returned, start_returned, returned, told_return, segmentation_fault, instruction}
use Rattle.posix_model.specs.Reports.{nothing_told}
use Rattle.kernel_state.specs.Records.{top_kind}
use Rattle.replay_cli.specs.Events.{event_of, faults_by}
use Rattle.replay_cli.specs.Places.{is_fault, faults_with}

-- of a thread and a signal
module _ (s : State) (t signal : ℕ) where
  -- a move tells a fault with the signal
  abbrev tells : Outcome → Bool
  tells g = is_fault signal g.report.head

  handler_by : (kind : FrameKind) (phase : Phase) (g : Outcome)
      → tells (if is_of_handler kind then told_return t Handler g else faulted s t segmentation_fault) ≡ faults_by signal (Return Handler) (Some kind) phase
  handler_by OfHandler phase g = refl
  handler_by OfCleanup phase g = refl

  handler_faults : (frames : List Frame) (phase : Phase) → tells (handler_returned s t frames) ≡ faults_by signal (Return Handler) (top_kind frames) phase
  handler_faults [] phase = refl
  handler_faults (frame ∷ frames) phase =
      handler_by frame.kind phase (begun (set_thread s t (record (s.threads t) { registers = frame.registers; mask = frame.mask; frames = frames })))

  cleanup_by : (kind : FrameKind) (phase : Phase) (g : Outcome)
      → tells (if is_of_handler kind then faulted s t segmentation_fault else told_return t Cleanup g) ≡ faults_by signal (Return Cleanup) (Some kind) phase
  cleanup_by OfHandler phase g = refl
  cleanup_by OfCleanup phase g = refl

  cleanup_faults : (frames : List Frame) (phase : Phase) → tells (cleanup_returned s t frames phase) ≡ faults_by signal (Return Cleanup) (top_kind frames) phase
  cleanup_faults (frame ∷ frames) phase =
      cleanup_by frame.kind phase (begun (set_thread s t (record (s.threads t) { registers = frame.registers; frames = frames })))
  cleanup_faults [] Normal = refl
  cleanup_faults [] (Leaving value rounds next) = refl

  start_faults : (frames : List Frame) (phase : Phase) → tells (start_returned s t frames phase) ≡ faults_by signal (Return Start) (top_kind frames) phase
  start_faults (frame ∷ frames) phase = refl
  start_faults [] Normal = refl
  start_faults [] (Leaving value rounds next) = refl

  return_faults : (which : Special) → tells (returned s t which) ≡ faults_by signal (Return which) (top_kind (s.threads t).frames) (s.threads t).phase
  return_faults Handler = handler_faults (s.threads t).frames (s.threads t).phase
  return_faults Cleanup = cleanup_faults (s.threads t).frames (s.threads t).phase
  return_faults Start = start_faults (s.threads t).frames (s.threads t).phase

  effect_faults : (e : Effect) → tells (by_effect s t e) ≡ faults_by signal (event_of e) (top_kind (s.threads t).frames) (s.threads t).phase
  unfolding nothing_told
  effect_faults (Goes pc x memory) = refl
  effect_faults Calls = refl
  effect_faults (Faults sig) = refl
  effect_faults (Returns which) = return_faults which

  abbrev here : Registers
  here = (s.threads t).registers

  abbrev top_here : Option FrameKind
  top_here = top_kind (s.threads t).frames

  -- the instruction at which the thread stands faults where its event does
  pub faults_at : (event : Event) (r : Registers) (memory : List ℕ) (top : Option FrameKind) (phase : Phase)
      → event ≡ event_of (effect r.pc r.x memory) → r ≡ here → memory ≡ s.memory → top ≡ top_here → phase ≡ (s.threads t).phase
      → faults_by signal event top phase ≡ faults_with s t signal
  unfolding instruction faults_with
  faults_at event r memory top phase is at same kind of =
      ap (λ e. faults_by signal e top phase)
      (is ∙ ap (λ (x : Registers). event_of (effect x.pc x.x memory)) at ∙ ap (λ (m : List ℕ). event_of (effect here.pc here.x m)) same)
      ∙ ap (λ k. faults_by signal (event_of (effect here.pc here.x s.memory)) k phase) kind
      ∙ ap (faults_by signal (event_of (effect here.pc here.x s.memory)) top_here) of
      ∙ sym (effect_faults (effect here.pc here.x s.memory))
