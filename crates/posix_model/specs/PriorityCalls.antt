-- The calls of priorities: of each its refusals in order, then its effect, then its reply.
-- No mutex has a priority protocol yet, so each ready thread whose priority is set goes to the end of the ready list, and
-- where protocols come, only one that owns no mutex with one.
use Rattle.std.specs.Prelude.{ℕ, ◌+◌, ◌*◌, ◌||◌, Bool, not, [], ◌∷◌, nat_lt}
use Rattle.thread_base.specs.Numbers.{policy_of}
use Rattle.thread_base.specs.declared.Errno.TheVariants.{ESRCH, EINVAL}
use Rattle.thread_base.specs.declared.Policy.{Policy}
use Rattle.thread_base.specs.declared.Policy.TheVariants.{Other, Fifo, Rr}
use Rattle.posix_model.specs.State.{State, Thread, is_live}
use Rattle.posix_model.specs.Changes.{begun, rescheduled}
use Rattle.posix_model.specs.Replies.{Called, values, refusing}
use Rattle.posix_model.specs.declared.Arguments.{Arguments}

-- a policy or a priority that no thread can have
abbrev pub cannot_schedule : Arguments → Bool
cannot_schedule c = nat_lt 2 c.a1 || nat_lt 31 c.a2

-- 262: setsched(thread, policy, priority) (POSIX.1 pthread_setschedparam)
abbrev pub setsched : State → ℕ → Arguments → Called
setsched s t c =
    refusing s t (
    (not (is_live (s.threads c.a0).standing), ESRCH)
    ∷ (cannot_schedule c, EINVAL) ∷ [])
    (values (begun (rescheduled s c.a0 (policy_of c.a1) c.a2)) t 0 0)

-- the number of a policy (Linux)
abbrev pub number_of_policy : Policy → ℕ
number_of_policy Other = 0
number_of_policy Fifo = 1
number_of_policy Rr = 2

-- a thread's policy and its own priority in one word (this project's own packing)
abbrev pub schedule_word : Thread → ℕ
schedule_word thread = 256 * number_of_policy thread.policy + thread.base

-- 263: getsched(thread) (POSIX.1 pthread_getschedparam)
abbrev pub getsched : State → ℕ → Arguments → Called
getsched s t c =
    refusing s t ((not (is_live (s.threads c.a0).standing), ESRCH) ∷ [])
    (values (begun s) t 0 (schedule_word (s.threads c.a0)))
