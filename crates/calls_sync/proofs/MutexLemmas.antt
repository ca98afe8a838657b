-- The small changes of the calls of mutexes: together they are a row, and each can be made.
use Rattle.std.proofs.Common.{◌≡◌, ◌∙◌, ap, sym, refl, inl, inr, arith, ℕ, ◌≤◌, true, false, not, Option, Some, None}
use Rattle.std.specs.Prelude.{if◌then◌else◌}
use Rattle.std.proofs.lemmas.Bool.{eq-eqb, cases_eq}
use Rattle.thread_base.specs.Holders.{is_held_by, count_of}
use Rattle.thread_base.specs.declared.Errno.TheVariants.{EPERM, EAGAIN, EBUSY, EDEADLK}
use Rattle.thread_base.specs.declared.mutex.Holder.{Holder}
use Rattle.thread_base.specs.declared.mutex.Holder.TheVariants.{Free, Held, Orphan}
use Rattle.posix_model.specs.State.{State, Thread, Mutex, Ready, is_absent, count_due}
use Rattle.posix_model.specs.Changes.{Outcome, resumed, go_on}
use Rattle.posix_model.specs.Threads.{exists}
use Rattle.posix_model.specs.declared.RetakeReply.{RetakeReply}
use Rattle.posix_model.specs.Good.{IsGood}
use Rattle.thread_base.specs.Objects.{holder_in}
use Rattle.posix_model.specs.Mutexes.{most_locks, set_mutex, reply_due, hand_off}
use Rattle.posix_model.specs.MutexCalls.{is_checked, is_full, is_open_to, take, queue, lock_of, trylock_of, released, unlock_of}
use Rattle.posix_model.specs.Replies.{refused, values}
use Rattle.posix_model.proofs.StandingLemmas.{ready_wants, wants_waits}
use Rattle.thread_base.specs.Orders.{without}
use Rattle.thread_base.proofs.MapLemmas.{at_same, at_other}
use Rattle.kernel_state.specs.Changing.{IsListed, WaitsForNoMutex}
use Rattle.kernel_state.specs.Waking.{LeavesMutex}

held_count : (s : State) (m : ℕ) (holder : Holder) → IsGood s → holder_in (s.mutexes m) ≡ holder → count_of (holder_in (s.mutexes m)) ≤ most_locks
held_count s m Free good e = let none = ap count_of e in omega (arith, none)
held_count s m (Held by count) good e = ((good.mutexes m).owned by (ap (λ h. is_held_by h by) e ∙ eq-eqb by by refl)).most
held_count s m Orphan good e = let none = ap count_of e in omega (arith, none)

-- nobody has locked a mutex more often than one may
pub few_locks : (s : State) (m : ℕ) → IsGood s → count_of (holder_in (s.mutexes m)) ≤ most_locks
few_locks s m good = held_count s m (holder_in (s.mutexes m)) good refl

-- who is ready waits for no mutex
pub waits_for_none : (s : State) (t : ℕ) → IsGood s → IsListed s t → WaitsForNoMutex s.mutexes t
waits_for_none s t good listed m = (good.mutexes m).listed t ∙ ready_wants m (s.threads t).standing listed.2

-- nothing has changed yet, and who waits for a mutex is not ready
pub leaves_at_first : (s : State) (m : ℕ) → IsGood s → LeavesMutex s s m
leaves_at_first s m good = record {
  mutex = refl;
  threads = λ u h. refl;
  away = λ u h. good.ready.listed u ∙ (wants_waits m (s.threads u).standing (sym ((good.mutexes m).listed u) ∙ h)).0;
}

-- who is there is there where a mutex is handed over
go_on_there : (g : Outcome) (u t : ℕ) (reply : RetakeReply) → exists g.state t ≡ true → exists (go_on g u reply).state t ≡ true
go_on_there g u t reply h =
    let thread : Thread = record (resumed (g.state.threads u) reply) { standing = Ready; used = 0 } in
    elim (cases_eq t u) [
      | inl same ↦ at_same (λ (x : Thread). not (is_absent x.standing)) g.state.threads u t thread same
      | inr other ↦ at_other (λ (x : Thread). not (is_absent x.standing)) g.state.threads u t thread other ∙ h
    ]

pub handed_there : (g : Outcome) (m : ℕ) (mutex : Mutex) (o : Option ℕ) (t : ℕ) → exists g.state t ≡ true → exists (hand_off g m mutex o).state t ≡ true
handed_there g m mutex None t h = h
handed_there g m mutex (Some u) t h =
    go_on_there (record g { state = set_mutex g.state m (Some (record mutex { holder = Held u (count_due (g.state.threads u).standing); waiters = without u mutex.waiters })) }) u t
    (reply_due (g.state.threads u).standing) h

-- the rows where nothing is refused
module _ (s : State) (t m : ℕ) (mutex : Mutex) where
  pub lock_open : is_checked t mutex ≡ false → is_full t mutex ≡ false → is_open_to t mutex ≡ true → take s t m mutex ≡ lock_of s t m (Some mutex)
  lock_open checked full free = sym (λ i.
      if checked i then refused s t EDEADLK else if full i then refused s t EAGAIN else if free i then take s t m mutex else queue s t m mutex)

  pub lock_waits : is_checked t mutex ≡ false → is_full t mutex ≡ false → is_open_to t mutex ≡ false → queue s t m mutex ≡ lock_of s t m (Some mutex)
  lock_waits checked full free = sym (λ i.
      if checked i then refused s t EDEADLK else if full i then refused s t EAGAIN else if free i then take s t m mutex else queue s t m mutex)

  pub trylock_open : is_full t mutex ≡ false → is_open_to t mutex ≡ true → take s t m mutex ≡ trylock_of s t m (Some mutex)
  trylock_open full free = sym (λ i. if full i then refused s t EAGAIN else if not (free i) then refused s t EBUSY else take s t m mutex)

  pub unlock_held : is_held_by mutex.holder t ≡ true → values (released s t m mutex) t 0 0 ≡ unlock_of s t m (Some mutex)
  unlock_held held = sym (λ i. if not (held i) then refused s t EPERM else values (released s t m mutex) t 0 0)
