-- The calls of signals: of each its refusals in order, then its effect, then its reply.
use Rattle.std.specs.Prelude.{ℕ, ◌%◌, ◌^◌, ◌==◌, ◌||◌, ◌&&◌, Bool, not, if◌then◌else◌, nat_lt, bit_or, List, [], ◌∷◌, find, Option, Some, None}
use Rattle.thread_base.specs.Actions.{ignores}
use Rattle.thread_base.specs.Deliveries.{signals}
use Rattle.thread_base.specs.Maps.{put}
use Rattle.thread_base.specs.Numbers.{is_in_scope, can_block, has_signal, set_of, set_without}
use Rattle.thread_base.specs.declared.Errno.TheVariants.{ESRCH, EINVAL}
use Rattle.thread_base.specs.declared.action.Action.{Action}
use Rattle.thread_base.specs.declared.action.Action.TheVariants.{Default, Ignore, Handler}
use Rattle.posix_model.specs.State.{State, is_live}
use Rattle.posix_model.specs.Changes.{Outcome, begun, set_thread}
use Rattle.posix_model.specs.Deliveries.{left_of, set_pending}
use Rattle.posix_model.specs.Arrivals.{dropped, come}
use Rattle.posix_model.specs.Replies.{Called, Entry, values, refusing, blocked}
use Rattle.posix_model.specs.declared.Arguments.{Arguments}
use Rattle.posix_model.specs.declared.Wait.TheVariants.{Signal as OfSignal}

-- nothing of a signal pends any more
abbrev pub forgotten : ℕ → (ℕ → ℕ → ℕ) → ℕ → ℕ → ℕ
forgotten sig pending place = put (pending place) sig 0

-- a signal has another action; where that ignores it, all that pends of it is dropped (POSIX.1 sigaction)
abbrev pub with_action : Outcome → ℕ → Action → Outcome
with_action g sig action =
    if ignores action sig
    then dropped (record g { state = record g.state { actions = put g.state.actions sig action; pending = forgotten sig g.state.pending } }) sig (left_of g.state sig)
    else record g { state = record g.state { actions = put g.state.actions sig action } }

-- the number of an action: 0 is the default, 1 to ignore, and else the address of the handler (this project's own numbers)
abbrev pub number_of_action : Action → ℕ
number_of_action Default = 0
number_of_action Ignore = 1
number_of_action (Handler at mask) = at

-- the action of a number, with a handler's mask
abbrev pub action_of : ℕ → ℕ → Action
action_of number mask = if number == 0 then Default else if number == 1 then Ignore else Handler number mask

-- a number of an action that there is: a handler's address is a multiple of 4
abbrev pub is_action : ℕ → Bool
is_action number = (number == 1) || (number % 4 == 0)

-- 286: sigaction(signal, handler, mask) (POSIX.1 sigaction)
abbrev pub sigaction : State → ℕ → Arguments → Called
sigaction s t c =
    refusing s t (
    (not (can_block c.a0), EINVAL)
    ∷ (not (is_action c.a1), EINVAL) ∷ [])
    (values (with_action (begun s) c.a0 (action_of c.a1 (set_of c.a2))) t 0 (number_of_action (s.actions c.a0)))

-- the mask after signals were added, taken away, or set in its place
abbrev pub mask_by : ℕ → ℕ → ℕ → ℕ
mask_by how mask set = if how == 0 then bit_or mask set else if how == 1 then set_without mask set else set

-- 287: sigmask(how, set) (POSIX.1 pthread_sigmask)
abbrev pub sigmask : State → ℕ → Arguments → Called
sigmask s t c =
    refusing s t ((nat_lt 2 c.a0, EINVAL) ∷ [])
    (values (begun (set_thread s t (record (s.threads t) { mask = mask_by c.a0 (s.threads t).mask (set_of c.a1) }))) t 0 (s.threads t).mask)

-- a signal pends on a thread or on the process (POSIX.1 sigpending)
abbrev pub pends_for : State → ℕ → ℕ → Bool
pends_for s t sig = nat_lt 0 (s.pending t sig) || nat_lt 0 (s.pending 0 sig)

-- the set of those signals of a list that pass a test
abbrev pub set_of_those : (ℕ → Bool) → List ℕ → ℕ
set_of_those test [] = 0
set_of_those test (sig ∷ sigs) = if test sig then bit_or (2 ^ sig) (set_of_those test sigs) else set_of_those test sigs

-- the set of the signals that pend on a thread or on the process; KILL is in no set (POSIX.1 sigpending)
abbrev pub pending_set : State → ℕ → ℕ
pending_set s t = set_of_those (λ sig. pends_for s t sig && can_block sig) signals

-- 288: sigpending() (POSIX.1 sigpending)
abbrev pub sigpending : State → ℕ → Arguments → Called
sigpending s t c = values (begun s) t 0 (pending_set s t)

-- the lowest signal of a set that pends on a thread or on the process (POSIX.1 sigwait leaves open which)
abbrev pub lowest_pending : State → ℕ → ℕ → Option ℕ
lowest_pending s t set = find (λ sig. pends_for s t sig && has_signal set sig) signals

-- the place from which a thread accepts a signal: itself before the process, whose number is 0 (this project's own order)
abbrev pub accepted_from : State → ℕ → ℕ → ℕ
accepted_from s t sig = if nat_lt 0 (s.pending t sig) then t else 0

-- a signal is accepted from a place with its whole count, which is told (POSIX.1 sigwait; the count is this project's own)
abbrev pub accepted : Outcome → ℕ → ℕ → Outcome
accepted g place sig = record {
  state = set_pending g.state place sig 0;
  report = record g.report { took = 1; took_sig = sig; took_count = g.state.pending place sig };
}

-- a thread accepts the signal that pends, and where none does it waits for one of the set (POSIX.1 sigwait)
abbrev pub accept_or_wait : State → ℕ → ℕ → Option ℕ → Called
accept_or_wait s t set None = blocked s t (OfSignal set)
accept_or_wait s t set (Some sig) = values (accepted (begun s) (accepted_from s t sig) sig) t 0 sig

-- 289: sigwait(set) (POSIX.1 sigwait)
abbrev pub sigwait : State → ℕ → Arguments → Called
sigwait s t c =
    refusing s t ((set_of c.a0 == 0, EINVAL) ∷ [])
    (accept_or_wait s t (set_of c.a0) (lowest_pending s t (set_of c.a0)))

-- one of a signal is sent to a thread, or under the number 0 to the process; the signal 0 only asks
abbrev pub sent : State → ℕ → ℕ → Outcome
sent s place sig = if sig == 0 then begun s else come (begun s) place sig 1

-- a number of a signal that can be sent
abbrev pub can_send : ℕ → Bool
can_send sig = (sig == 0) || is_in_scope sig

-- 290: kill(thread, signal) (POSIX.1 pthread_kill)
abbrev pub kill_thread : State → ℕ → Arguments → Called
kill_thread s t c =
    refusing s t (
    (not (is_live (s.threads c.a0).standing), ESRCH)
    ∷ (not (can_send c.a1), EINVAL) ∷ [])
    (values (sent s c.a0 c.a1) t 0 0)

-- 291: kill(signal), of the process (POSIX.1 kill)
abbrev pub kill_process : State → ℕ → Arguments → Called
kill_process s t c = refusing s t ((not (can_send c.a0), EINVAL) ∷ []) (values (sent s 0 c.a0) t 0 0)

-- the calls of signals
abbrev pub kill_calls : List Entry
kill_calls = (286, sigaction) ∷ (287, sigmask) ∷ (288, sigpending) ∷ (289, sigwait) ∷ (290, kill_thread) ∷ (291, kill_process) ∷ []
