-- How a wait ends whose thread is to enter a handler: the small changes can be made, and are what the machine makes.
use Rattle.std.proofs.Common.{◌≡◌, ◌∙◌, ap, sym, refl, subst, ℕ, ◌-◌, List, true, false, not, Some, None}
use Rattle.std.proofs.lemmas.Bool.{eq-eqb}
use Rattle.thread_base.specs.Orders.{is_in}
use Rattle.thread_base.proofs.MapLemmas.{put_same}
use Rattle.posix_model.specs.State.{State, Thread, Frame, Standing, Absent, Ready, Waits, Ended, Target, Nothing, EndOf, MutexAt, ASignal, ATime, Input, target, wait_of, is_absent, is_ready, is_live, wants, waits_on, mutex_with}
use Rattle.posix_model.specs.Changes.{Outcome, begun, append, with_reply}
use Rattle.posix_model.specs.Threads.{exists}
use Rattle.posix_model.specs.Good.{IsGood}
use Rattle.posix_model.specs.Deliveries.{unqueued, made_ready, wait_ended, interrupted}
use Rattle.posix_model.specs.declared.Wait.{Wait}
use Rattle.posix_model.specs.declared.Wait.TheVariants.{Join, Mutex as OfMutexWait, Signal as OfSignal, Sleep, Read}
use Rattle.kernel_state.specs.Begun.{HasNoted, NotesMore}
use Rattle.kernel_state.specs.Waking.{WaitsOn}
use Rattle.kernel_state.specs.Changing.{change_by}
use Rattle.kernel_state.specs.Kernels.{KernelState}
use Rattle.kernel_state.specs.declared.change.Change.TheVariants.{Thread as OfThread, Mutex as OfMutex}
use Rattle.kernel_state.specs.declared.change.MutexChange.TheVariants.{DropWaiter}
use Rattle.kernel_state.specs.declared.change.ThreadChange.TheVariants.{Answer, Resume}
use Rattle.kernel_state.proofs.NoteLemmas.{noted_two}
use Rattle.dispatcher.specs.Delivering.{HasTaken}

-- a thread that has a wait waits so
pub stands : (st : Standing) (wait : Wait) → wait_of st ≡ Some wait → st ≡ Waits wait
stands Absent wait e = absurd (let f : None ≡ Some wait = e in cc)
stands Ready wait e = absurd (let f : None ≡ Some wait = e in cc)
stands (Waits w) wait e = let f : Some w ≡ Some wait = e in let same : w ≡ wait = cc in ap Waits same
stands (Ended value) wait e = absurd (let f : None ≡ Some wait = e in cc)

-- a thread is as it was before the signal was taken
pub same_thread : (s r : State) (t : ℕ) → HasTaken s r → r.threads t ≡ s.threads t
same_thread s r t taken = ap (λ (x : State). x.threads t) taken.others

pub waits_still : (s r : State) (t : ℕ) (wait : Wait) → HasTaken s r → wait_of (s.threads t).standing ≡ Some wait → (r.threads t).standing ≡ Waits wait
waits_still s r t wait taken e = ap (λ (x : Thread). x.standing) (same_thread s r t taken) ∙ stands (s.threads t).standing wait e

pub waits_on_still : (s r : State) (t c m : ℕ) → HasTaken s r → WaitsOn s t c m → WaitsOn r t c m
waits_on_still s r t c m taken on = record {
  waits = ap (λ (x : Thread). waits_on c x.standing) (same_thread s r t taken) ∙ on.waits;
  beside = ap (λ (x : Thread). mutex_with x.standing) (same_thread s r t taken) ∙ on.beside;
}

-- and so are the time and what a signal does
pub same_time : (s r : State) → HasTaken s r → r.now ≡ s.now
same_time s r taken = ap (λ (x : State). x.now) taken.others

pub same_action : (s r : State) (sig : ℕ) → HasTaken s r → r.actions sig ≡ s.actions sig
same_action s r sig taken = ap (λ (x : State). x.actions sig) taken.others

module _ {R : Type 0} (order : R → List ℕ) (first k : KernelState R) (s : State) (t : ℕ) (noted : HasNoted order first k (begun s)) (good : IsGood s) where
  abbrev EndedBy : KernelState R → Type 0
  EndedBy q = HasNoted order first q (wait_ended (begun s) t (target (s.threads t).standing))

  -- a thread that waits may be answered, or be made ready
  can_go_on : (wait : Wait) → (s.threads t).standing ≡ Waits wait → (is_in t s.ready ≡ false) × (is_live (s.threads t).standing ≡ true)
  can_go_on wait waits = (good.ready.listed t ∙ ap is_ready waits, ap is_live waits)

  -- a wait that is made again
  made_again : (a : Target) → target (s.threads t).standing ≡ a → begun (append (unqueued s t a) t (s.threads t)) ≡ begun (made_ready s t)
  made_again a is = ap (λ b. begun (append (unqueued s t b) t (s.threads t))) (sym is)

  module _ (q : KernelState R) (more : NotesMore order k q (OfThread t Resume)) where
    pub join_ends : (u : ℕ) → (s.threads t).standing ≡ Waits (Join u) → EndedBy q
    join_ends u waits =
        let is : target (s.threads t).standing ≡ EndOf u = ap target waits in
        subst (λ (x : Outcome). HasNoted order first q x) (made_again (EndOf u) is ∙ sym (ap (wait_ended (begun s) t) is))
        (more first (begun s) noted (can_go_on (Join u) waits)).so_far

    pub signal_ends : (set : ℕ) → (s.threads t).standing ≡ Waits (OfSignal set) → EndedBy q
    signal_ends set waits =
        let is : target (s.threads t).standing ≡ ASignal set = ap target waits in
        subst (λ (x : Outcome). HasNoted order first q x) (made_again (ASignal set) is ∙ sym (ap (wait_ended (begun s) t) is))
        (more first (begun s) noted (can_go_on (OfSignal set) waits)).so_far

  pub mutex_ends : (m : ℕ) → (s.threads t).standing ≡ Waits (OfMutexWait m) → (q r : KernelState R) → NotesMore order k q (OfMutex m (DropWaiter t)) → NotesMore order q r (OfThread t Resume) → EndedBy r
  mutex_ends m waits q r leaves more =
      let is : target (s.threads t).standing ≡ MutexAt m = ap target waits in
      subst (λ (x : Outcome). HasNoted order first r x) (made_again (MutexAt m) is ∙ sym (ap (wait_ended (begun s) t) is))
      (noted_two order first k (begun s) noted
      q (OfMutex m (DropWaiter t)) leaves ((good.mutexes m).listed t ∙ ap (wants m) waits ∙ eq-eqb m m refl)
      r (OfThread t Resume) more (can_go_on (OfMutexWait m) waits)).so_far

  -- a call that is interrupted
  pub sleep_ends : (until now : ℕ) → (s.threads t).standing ≡ Waits (Sleep until) → now ≡ s.now → (q : KernelState R) → NotesMore order k q (OfThread t (Answer interrupted (until - now)))
      → EndedBy q
  sleep_ends until now waits same q more =
      subst (λ (x : Outcome). HasNoted order first q x)
      (ap (λ n. change_by (OfThread t (Answer interrupted (until - n))) (begun s)) same ∙ sym (ap (λ st. wait_ended (begun s) t (target st)) waits))
      (more first (begun s) noted (can_go_on (Sleep until) waits)).so_far

  pub read_ends : (buffer size : ℕ) → (s.threads t).standing ≡ Waits (Read buffer size) → (q : KernelState R) → NotesMore order k q (OfThread t (Answer interrupted 0)) → EndedBy q
  read_ends buffer size waits q more =
      subst (λ (x : Outcome). HasNoted order first q x) (sym (ap (λ st. wait_ended (begun s) t (target st)) waits))
      (more first (begun s) noted (can_go_on (Read buffer size) waits)).so_far

-- the thread of a wait that has ended is there, and has the frames that it had
module _ (s : State) (t : ℕ) where
  abbrev frames_at : Outcome → List Frame
  frames_at g = (g.state.threads t).frames

  ready_again : (r : State) (x : Thread) → ((append r t x).threads t).frames ≡ x.frames
  ready_again r x = ap (λ (y : Thread). y.frames) (put_same r.threads t (record x { standing = Ready; used = 0 }))

  ready_there : (r : State) (x : Thread) → exists (append r t x) t ≡ true
  ready_there r x = ap (λ (y : Thread). not (is_absent y.standing)) (put_same r.threads t (record x { standing = Ready; used = 0 }))

  pub ended_frames : (a : Target) → frames_at (wait_ended (begun s) t a) ≡ (s.threads t).frames
  ended_frames Nothing = refl
  ended_frames (ATime until) = ready_again s (with_reply (s.threads t) interrupted (until - s.now))
  ended_frames (Input buffer size) = ready_again s (with_reply (s.threads t) interrupted 0)
  ended_frames a = ready_again (unqueued s t (target (s.threads t).standing)) (s.threads t)

  pub ended_there : (a : Target) → exists s t ≡ true → exists (wait_ended (begun s) t a).state t ≡ true
  ended_there Nothing there = there
  ended_there (ATime until) there = ready_there s (with_reply (s.threads t) interrupted (until - s.now))
  ended_there (Input buffer size) there = ready_there s (with_reply (s.threads t) interrupted 0)
  ended_there a there = ready_there (unqueued s t (target (s.threads t).standing)) (s.threads t)
