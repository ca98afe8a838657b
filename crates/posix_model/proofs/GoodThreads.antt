-- Each call of the table keeps a good state good.
use Rattle.std.proofs.Common.{◌≡◌, ap, refl, ℕ, true, false, not, [], ◌∷◌, ◌++◌, Option, Some, None, length}
use Rattle.std.specs.Prelude.{◌==◌, ◌||◌, min}
use Rattle.std.proofs.lemmas.Bool.{not-false, or_parts}
use Rattle.thread_base.specs.Numbers.{policy_of}
use Rattle.thread_base.specs.Priority.{tids}
use Rattle.thread_base.specs.declared.Errno.TheVariants.{ESRCH, EBADF, EAGAIN, EFAULT, EINVAL, EDEADLK, ENOSYS}
use Rattle.thread_base.proofs.SearchLemmas.{tids_in, find_passes, find_member}
use Rattle.rv_exec.specs.Window.{fits}
use Rattle.posix_model.specs.State.{State, Standing, Phase, Normal, Leaving, Absent, Ended, MutexAt, ConditionAt, target, is_target, is_absent, is_ready, is_live, joins, no_thread}
use Rattle.posix_model.specs.Changes.{begun, append, to_end, rescheduled, set_thread, await, exiting}
use Rattle.posix_model.specs.Threads.{has_joiner, free_number, exists, new_thread}
use Rattle.posix_model.specs.Calls.{most_written, written, write, exit, cannot_start, created, create, exit_thread, is_taken, join_by, join, detached_by, detach, self_number, yield, thread_calls, sync_calls, call_row}
use Rattle.posix_model.specs.ClockCalls.{clock_calls}
use Rattle.posix_model.specs.ConditionCalls.{condition_calls}
use Rattle.posix_model.specs.MutexCalls.{mutex_calls}
use Rattle.posix_model.specs.SignalCalls.{kill_calls}
use Rattle.posix_model.specs.PriorityCalls.{cannot_schedule, setsched, schedule_word, getsched}
use Rattle.posix_model.specs.Replies.{values}
use Rattle.posix_model.specs.declared.Arguments.{Arguments}
use Rattle.posix_model.specs.declared.Wait.TheVariants.{Join}
use Rattle.posix_model.specs.Good.{standings, IsGood}
use Rattle.posix_model.proofs.StandingLemmas.{never, absent_is}
use Rattle.posix_model.proofs.GoodLemmas.{good_alike, good_set, good_reply, good_to_end, good_rescheduled, good_append, good_freed_number, good_join, good_detached, nobody_joins, unjoined}
use Rattle.posix_model.proofs.GoodReplies.{GoodCall, IsGoodRow, AreGoodRows, good_refused, good_refusing, good_row_of}
use Rattle.posix_model.proofs.GoodMutexes.{good_mutex_calls}
use Rattle.posix_model.proofs.GoodConditions.{good_condition_calls}
use Rattle.posix_model.proofs.GoodSignals.{good_kill_calls}
use Rattle.posix_model.proofs.GoodClock.{good_clock_calls}

good_write : IsGoodRow write
good_write s t c good ready =
    good_refusing s t ((not ((c.a0 == 1) || (c.a0 == 2)), EBADF) ∷ (not (fits (length s.memory) c.a1 c.a2), EFAULT) ∷ []) (written s t c (min c.a2 most_written)) good
    (λ may. good_reply s t 0 (min c.a2 most_written) good)

good_exit : IsGoodRow exit
good_exit s t c good ready = good_alike s (exit s t c).outcome.state refl good good.ready good.joining good.mutexes good.conditions good.waits good.signals

good_created : (s : State) (t : ℕ) (c : Arguments) (o : Option ℕ) → IsGood s → free_number s ≡ o → GoodCall (created s t c o)
good_created s t c None good e = good_refused s t EAGAIN good
good_created s t c (Some u) good e =
    let range = tids_in u (find_member (λ v. is_absent (standings s v)) tids u e) in
    let is = absent_is (standings s u) (find_passes (λ v. is_absent (standings s v)) tids u e) in
    good_reply (append s u (new_thread (s.threads t) c)) t 0 u
    (good_append s u (new_thread (s.threads t) c) good (ap is_ready is) (λ m. ap (λ st. is_target (MutexAt m) (target st)) is)
    (λ d. ap (λ st. is_target (ConditionAt d) (target st)) is) range (λ v j. absurd (unjoined s u good (ap is_live is) v j)))

good_create : IsGoodRow create
good_create s t c good ready =
    good_refusing s t ((cannot_start c, EINVAL) ∷ []) (created s t c (free_number s)) good (λ may. good_created s t c (free_number s) good refl)

-- who exits does what it did, and is detached where it was
good_exiting : (s : State) (t value : ℕ) (phase : Phase) → IsGood s → IsGood (set_thread s t (exiting phase (s.threads t) value))
good_exiting s t value Normal good = good_set s t _ refl refl good
good_exiting s t value (Leaving old rounds next) good = good_set s t _ refl refl good

good_exit_thread : IsGoodRow exit_thread
good_exit_thread s t c good ready = good_exiting s t c.a0 (s.threads t).phase good

-- the caller waits for the end of a thread that nobody joins
good_waits_for : (s : State) (t u : ℕ) → IsGood s → is_ready (standings s t) ≡ true → is_live (standings s u) ≡ true → is_taken s u ≡ false → IsGood (await s t (Join u))
good_waits_for s t u good ready live free =
    let parts = or_parts (s.threads u).detached (has_joiner s u) free in
    good_join s t u good ready live parts.0 (nobody_joins s u good parts.1)

good_join_by : (s : State) (t u : ℕ) (st : Standing) → IsGood s → is_ready (standings s t) ≡ true → standings s u ≡ st → exists s u ≡ true → is_taken s u ≡ false → GoodCall (join_by s t u st)
good_join_by s t u Absent good ready e there free = absurd (never (exists s u) there (ap (λ x. not (is_absent x)) e))
good_join_by s t u (Ended value) good ready e there free = good_reply (set_thread s u no_thread) t 0 value (good_freed_number s u good (ap is_live e))
good_join_by s t u st good ready e there free = good_waits_for s t u good ready (ap is_live e) free

good_join_row : IsGoodRow join
good_join_row s t c good ready =
    good_refusing s t ((c.a0 == t, EDEADLK) ∷ (not (exists s c.a0), ESRCH) ∷ (is_taken s c.a0, EINVAL) ∷ []) (join_by s t c.a0 (standings s c.a0)) good (λ may.
    good_join_by s t c.a0 (standings s c.a0) good ready refl (not-false (exists s c.a0) may.1.0) may.1.1.0)

good_detached_by : (s : State) (u : ℕ) (st : Standing) → IsGood s → standings s u ≡ st → ((v : ℕ) → joins u (standings s v) ≡ true → ⊥) → IsGood (detached_by s u st)
good_detached_by s u (Ended value) good e nobody = good_freed_number s u good (ap is_live e)
good_detached_by s u st good e nobody = good_detached s u good nobody

good_detach : IsGoodRow detach
good_detach s t c good ready =
    good_refusing s t ((not (exists s c.a0), ESRCH) ∷ (is_taken s c.a0, EINVAL) ∷ []) (values (begun (detached_by s c.a0 (standings s c.a0))) t 0 0) good (λ may.
    good_reply (detached_by s c.a0 (standings s c.a0)) t 0 0
    (good_detached_by s c.a0 (standings s c.a0) good refl (nobody_joins s c.a0 good (or_parts (s.threads c.a0).detached (has_joiner s c.a0) may.1.0).1)))

good_self : IsGoodRow self_number
good_self s t c good ready = good_reply s t 0 t good

good_yield : IsGoodRow yield
good_yield s t c good ready = good_reply (to_end s t) t 0 0 (good_to_end s t good ready)

good_setsched : IsGoodRow setsched
good_setsched s t c good ready =
    let set = rescheduled s c.a0 (policy_of c.a1) c.a2 in
    good_refusing s t ((not (is_live (standings s c.a0)), ESRCH) ∷ (cannot_schedule c, EINVAL) ∷ []) (values (begun set) t 0 0) good (λ may.
    good_reply set t 0 0 (good_rescheduled s c.a0 (policy_of c.a1) c.a2 good))

good_getsched : IsGoodRow getsched
good_getsched s t c good ready =
    good_refusing s t ((not (is_live (standings s c.a0)), ESRCH) ∷ []) (values (begun s) t 0 (schedule_word (s.threads c.a0))) good (λ may.
    good_reply s t 0 (schedule_word (s.threads c.a0)) good)

good_output_calls : AreGoodRows ((64, write) ∷ kill_calls)
good_output_calls = (good_write, good_kill_calls)

good_thread_calls : AreGoodRows thread_calls
good_thread_calls = (good_exit, (good_create, (good_exit_thread, (good_join_row, (good_detach, (good_self, (good_yield, (good_setsched, (good_getsched, tt)))))))))

pub good_call : (s : State) (t number : ℕ) (c : Arguments) → IsGood s → is_ready (standings s t) ≡ true → GoodCall (call_row s t number c)
unfolding call_row
good_call s t number =
    good_row_of number ((64, write) ∷ kill_calls) (clock_calls ++ thread_calls ++ sync_calls) good_output_calls
    (good_row_of number clock_calls (thread_calls ++ sync_calls) good_clock_calls
    (good_row_of number thread_calls sync_calls good_thread_calls
    (good_row_of number mutex_calls condition_calls good_mutex_calls
    (good_row_of number condition_calls [] good_condition_calls (λ r u c good ready. good_refused r u ENOSYS good)))))
    s t
