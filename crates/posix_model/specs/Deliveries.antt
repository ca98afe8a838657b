-- Which delivery is next, and what it makes (POSIX.1 signals in threads, cancellation; the order is this project's own).
use Rattle.std.specs.Prelude.{ℕ, ◌+◌, ◌-◌, ◌^◌, ◌&&◌, ◌||◌, Bool, true, false, not, if◌then◌else◌, nat_lt, bit_or, find, ◌∷◌, length, map, sum, slice_index, slice_set, Option, Some, None}
use Rattle.std.specs.Option.{option_or, option_map}
use Rattle.thread_base.specs.Actions.{ignores}
use Rattle.thread_base.specs.Deliveries.{waits_for, next_delivery as next_signal}
use Rattle.thread_base.specs.Maps.{put}
use Rattle.thread_base.specs.Numbers.{has_signal}
use Rattle.thread_base.specs.Objects.{with_waiters}
use Rattle.thread_base.specs.Orders.{without}
use Rattle.thread_base.specs.Priority.{tids}
use Rattle.thread_base.specs.declared.action.Action.{Action}
use Rattle.thread_base.specs.declared.action.Action.TheVariants.{Default, Ignore, Handler}
use Rattle.thread_base.specs.declared.frame.FrameKind.TheVariants.{Handler as OfHandler}
use Rattle.posix_model.specs.State.{State, Thread, Phase, Normal, Leaving, Target, Nothing, EndOf, MutexAt, ConditionAt, ASignal, ATime, Input, target, wait_of, is_live, set_at, takes_back}
use Rattle.posix_model.specs.Changes.{Outcome, begun, set_thread, append, answer, in_exit, canceled, aligned}
use Rattle.posix_model.specs.Conditions.{wake}
use Rattle.posix_model.specs.Scheduling.{eff}
use Rattle.posix_model.specs.declared.Ending.TheVariants.{Killed}
use Rattle.posix_model.specs.declared.Head.{Head}
use Rattle.posix_model.specs.declared.Head.TheVariants.{Fault, Deliver, Accept, Interrupt, Cancel}
use Rattle.posix_model.specs.declared.RetakeReply.TheVariants.{Answer, Cancel as CancelReply}

-- how many frames a thread may have (this project's limit)
abbrev pub most_frames : ℕ
most_frames = 32

-- a thread may take signals: it has not ended, has room for a frame, and does not wait to have a mutex back
abbrev pub may_take : Thread → Bool
may_take thread = is_live thread.standing && (nat_lt (length thread.frames) most_frames && not (takes_back (wait_of thread.standing)))

-- a thread is free for a signal: it may take signals and does not block this one (POSIX.1 signal masks)
abbrev pub is_free_for : State → ℕ → ℕ → Bool
is_free_for s t sig = may_take (s.threads t) && not (has_signal (s.threads t).mask sig)

-- the set of signals that a thread waits for (POSIX.1 sigwait)
abbrev pub awaited : State → ℕ → Option ℕ
awaited s t = set_at (target (s.threads t).standing)

-- a wait that a cancellation ends at once (POSIX.1 cancellation points)
abbrev pub is_cancellation_point : Target → Bool
is_cancellation_point (EndOf t) = true
is_cancellation_point (ConditionAt c) = true
is_cancellation_point (ASignal set) = true
is_cancellation_point (ATime until) = true
is_cancellation_point (Input buffer size) = true
is_cancellation_point a = false

-- a thread is not in its exit
abbrev pub is_normal : Phase → Bool
is_normal Normal = true
is_normal (Leaving value rounds next) = false

-- a cancellation acts on a thread: it is pending and enabled, outside the exit and a wait to have a mutex back, and the
-- type is asynchronous or the thread waits where it can be cancelled (POSIX.1 pthread_setcanceltype)
abbrev pub is_cancelled : Thread → Bool
is_cancelled thread =
    is_live thread.standing
    && (thread.cancellation.pending
    && (thread.cancellation.enabled
    && (is_normal thread.phase
    && (not (takes_back (wait_of thread.standing))
    && (thread.cancellation.asynchronous || is_cancellation_point (target thread.standing))))))

-- what is delivered next: a cancellation that acts on a thread, or a signal that pends on a thread or on the process
pub data Delivery : Type 0 where
  Acts : (thread : ℕ) → Delivery
  Gives : (thread signal place : ℕ) → Delivery

-- the delivery of a signal, which pends on the process or on its thread
abbrev pub gives : ℕ × ℕ × Bool → Delivery
gives d = Gives d.0 d.1 (if d.2 then 0 else d.0)

-- the next delivery: of cancellations first, then of a thread's own signals, then of the process's
unfoldable pub next_delivery : State → Option Delivery
next_delivery s =
    option_or (option_map Acts (find (λ t. is_cancelled (s.threads t)) tids))
    (option_map gives (next_signal (awaited s) (is_free_for s) s.pending (eff s)))

-- how many of a signal pend in a place from now on
abbrev pub set_pending : State → ℕ → ℕ → ℕ → State
set_pending s place sig count = record s { pending = put s.pending place (put (s.pending place) sig count) }

-- more of a signal pend in a place
abbrev pub pend : State → ℕ → ℕ → ℕ → State
pend s place sig count = set_pending s place sig (s.pending place sig + count)

-- how many of a signal still pend, over the process and all threads
abbrev pub left_of : State → ℕ → ℕ
left_of s sig = s.pending 0 sig + sum (map (λ t. s.pending t sig) tids)

-- a thread that waits for a mutex waits for it no more
abbrev pub unqueued : State → ℕ → Target → State
unqueued s t (MutexAt m) = record s { mutexes = put s.mutexes m (with_waiters (without t) (s.mutexes m)) }
unqueued s t a = s

-- a wait ends without an answer: the thread is ready, its pc at its call, which it makes again
abbrev pub made_ready : State → ℕ → State
made_ready s t = append (unqueued s t (target (s.threads t).standing)) t (s.threads t)

-- the thread and the main line are told
abbrev pub told : ℕ → Head → Outcome → Outcome
told t head g = record g { report = record g.report { tid = t; head = head } }

-- a cancelled wait for a condition: the thread is cancelled when it has its mutex back (POSIX.1 pthread_cond_wait)
abbrev pub cancelled_later : State → ℕ → Outcome
cancelled_later s t =
    wake (begun (set_thread s t (record (s.threads t) { cancellation = record (s.threads t).cancellation { enabled = false; pending = false } }))) t CancelReply

-- a cancelled thread starts its exit, and its wait ends, if there is one
abbrev pub cancelled : State → ℕ → Target → Outcome
cancelled s t Nothing = begun (set_thread s t (in_exit (s.threads t) canceled))
cancelled s t (ConditionAt c) = cancelled_later s t
cancelled s t a = begun (append (unqueued s t a) t (in_exit (s.threads t) canceled))

-- the address to which a handler returns: a special address (this project's own)
abbrev pub handler_return : ℕ
handler_return = 0xFFFFFFF0

-- a thread enters a handler: what it goes back to is a frame, and the signal and the action's mask are blocked
-- (POSIX.1 sigaction)
abbrev pub in_handler : Thread → ℕ → ℕ → ℕ → Thread
in_handler thread sig at mask = record thread {
  frames = record { registers = thread.registers; mask = thread.mask; kind = OfHandler } ∷ thread.frames;
  mask = bit_or thread.mask (bit_or mask (2 ^ sig));
  registers = record {
    pc = at;
    x = slice_set (slice_set (slice_set (slice_set thread.registers.x 10 sig) 11 0) 1 handler_return) 2 (aligned (slice_index thread.registers.x 2));
  };
}

-- the error of a call that a handler interrupts (POSIX.1 EINTR)
abbrev pub interrupted : ℕ
interrupted = 4

-- what a handler makes of the wait of its thread: a sleep and a read are answered, another wait is made again
abbrev pub wait_ended : Outcome → ℕ → Target → Outcome
wait_ended g t Nothing = g
wait_ended g t (ATime until) = answer g t interrupted (until - g.state.now)
wait_ended g t (Input buffer size) = answer g t interrupted 0
wait_ended g t a = record g { state = made_ready g.state t }

-- a thread enters the handler
abbrev pub entering : Outcome → ℕ → ℕ → ℕ → ℕ → Outcome
entering g t sig at mask = record g { state = set_thread g.state t (in_handler (g.state.threads t) sig at mask) }

-- a handler is due: within a wait for a condition the signal waits on the thread until it has its mutex back
-- (POSIX.1 pthread_cond_wait)
abbrev pub handled : State → ℕ → ℕ → ℕ → ℕ → ℕ → Target → Outcome
handled s t sig count at mask (ConditionAt c) =
    let woken : Outcome = wake (begun s) t (Answer 0) in
    told t (Interrupt t sig count) (record woken { state = pend woken.state t sig count })
handled s t sig count at mask a = told t (Deliver t sig count) (entering (wait_ended (begun s) t a) t sig at mask)

-- what the action makes of a signal that is taken; one that is ignored never pends
abbrev pub by_action : State → ℕ → ℕ → ℕ → Action → Outcome
by_action s t sig count Default = told t (Deliver t sig count) (begun (record s { over = Some (Killed sig) }))
by_action s t sig count Ignore = begun s
by_action s t sig count (Handler at mask) = handled s t sig count at mask (target (s.threads t).standing)

-- a signal goes to a thread with its whole count: one that the thread waits for is accepted (POSIX.1 sigwait)
abbrev pub given : State → ℕ → ℕ → ℕ → Outcome
given s t sig count =
    if waits_for (awaited s t) sig then told t (Accept t sig count) (answer (begun s) t 0 sig)
    else by_action s t sig count (s.actions sig)

-- a delivery
abbrev pub delivered : State → Option Delivery → Outcome
delivered s None = begun s
delivered s (Some (Acts t)) = told t (Cancel t) (cancelled s t (target (s.threads t).standing))
delivered s (Some (Gives t sig place)) = given (set_pending s place sig 0) t sig (s.pending place sig)

-- the next delivery is made
abbrev pub deliver : State → Outcome
deliver s = delivered s (next_delivery s)

-- a signal ends the process at once (POSIX.1: a blocked or ignored signal of a fault)
abbrev pub killed_by : ℕ → ℕ → Outcome → Outcome
killed_by sig count g = record {
  state = record g.state { over = Some (Killed sig) };
  report = record g.report { took = 2; took_sig = sig; took_count = count };
}

-- a fault's signal pends on its thread, and ends the process where the thread is not free for it or it is ignored
abbrev pub struck : State → ℕ → ℕ → Outcome
struck s t sig = if is_free_for s t sig && not (ignores (s.actions sig) sig) then begun (pend s t sig 1) else killed_by sig 1 (begun s)

-- a fault leaves registers and memory
abbrev pub faulted : State → ℕ → ℕ → Outcome
faulted s t sig = told t (Fault sig) (struck s t sig)
