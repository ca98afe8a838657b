-- What pends after a signal came, and after a call: one more at most.
use Rattle.std.proofs.Common.{◌≡◌, refl, ℕ, Bool, true, false, not, List, [], ◌∷◌, ◌++◌, Option, Some, None}
use Rattle.std.specs.Prelude.{◌==◌, ◌||◌, if◌then◌else◌, nat_lt}
use Rattle.std.specs.List.{AllByRecursion}
use Rattle.std.proofs.lemmas.Bool.{not-false}
use Rattle.thread_base.specs.Actions.{ignores}
use Rattle.thread_base.specs.Maps.{put}
use Rattle.thread_base.specs.Numbers.{IsInScope, is_in_scope, can_block, set_of}
use Rattle.thread_base.specs.declared.Errno.{Errno}
use Rattle.thread_base.specs.declared.Errno.TheVariants.{ESRCH, EINVAL}
use Rattle.thread_base.specs.declared.action.Action.{Action}
use Rattle.posix_model.specs.State.{State, is_live}
use Rattle.posix_model.specs.Changes.{Outcome, begun, set_thread}
use Rattle.posix_model.specs.Deliveries.{pend, set_pending, killed_by, left_of}
use Rattle.posix_model.specs.Arrivals.{dropped, come}
use Rattle.posix_model.specs.Replies.{Called, Row, Entry, values, refused, refusing, row_of}
use Rattle.posix_model.specs.Calls.{write, signal_calls, thread_calls, sync_calls, call_row}
use Rattle.posix_model.specs.SignalCalls.{forgotten, with_action, number_of_action, action_of, is_action, sigaction, mask_by, sigmask, sigpending, lowest_pending, accepted_from, accept_or_wait, sigwait, sent, can_send, kill_thread, kill_process}
use Rattle.posix_model.specs.ClockCalls.{sleep, set_alarm, clock}
use Rattle.posix_model.specs.declared.Arguments.{Arguments}
use Rattle.posix_model.proofs.GoodReplies.{NoneHolds}
use Rattle.posix_model.proofs.PendingLemmas.{either, IsCalm, calm_write, calm_sleep, calm_set_alarm, calm_clock, calm_others}
use Rattle.posix_model.proofs.PendingCounts.{Adds, adds_stays, adds_before, adds_pend, adds_forgotten, adds_taken}

-- a signal in scope that comes adds its count at most
pub adds_come : (g : Outcome) (place sig count : ℕ) → IsInScope sig → Adds g.state (come g place sig count).state count 0
adds_come g place sig count in_scope =
    let pending : Outcome = record g { state = pend g.state place sig count } in
    let heeded : Outcome = if ignores (g.state.actions sig) sig then dropped g sig count else pending in
    either (λ (o : Outcome). Adds g.state o.state count 0) (sig == 9) (killed_by sig count g) heeded
    (adds_stays g.state (killed_by sig count g).state count 0 refl)
    (either (λ (o : Outcome). Adds g.state o.state count 0) (ignores (g.state.actions sig) sig) (dropped g sig count) pending
    (adds_stays g.state (dropped g sig count).state count 0 refl) (adds_pend g.state place sig count in_scope))

-- one more pends at most
abbrev CallAdds : State → Called → Type 0
CallAdds s called = Adds s called.outcome.state 1 0

abbrev IsAdding : Row → Type 0
IsAdding row = (s : State) (t : ℕ) (c : Arguments) → CallAdds s (row s t c)

abbrev AreAdding : List Entry → Type 0
AreAdding entries = AllByRecursion (λ (entry : Entry). IsAdding entry.1) entries

-- a row that leaves all that pends
calm_adds : (row : Row) → IsCalm row → IsAdding row
calm_adds row calm s t c = adds_stays s (row s t c).outcome.state 1 0 (calm s t c)

adds_refused : (s : State) (t : ℕ) (error : Errno) → CallAdds s (refused s t error)
adds_refused s t error = adds_stays s (refused s t error).outcome.state 1 0 refl

-- the first refusal that holds, or the effect where none does
adds_refusing : (s : State) (t : ℕ) (refusals : List (Bool × Errno)) (effect : Called) → (NoneHolds refusals → CallAdds s effect) → CallAdds s (refusing s t refusals effect)
adds_refusing s t [] effect h = h tt
adds_refusing s t (refusal ∷ refusals) effect h = by refusal.0 (λ e. adds_refusing s t refusals effect (λ none. h (e, none)))
  where
    by : (b : Bool) → (b ≡ false → CallAdds s (refusing s t refusals effect)) → CallAdds s (if b then refused s t refusal.1 else refusing s t refusals effect)
    by true rest = adds_refused s t refusal.1
    by false rest = rest refl

-- an answer leaves all that pends
adds_values : (s : State) (g : Outcome) (t error value : ℕ) → Adds s g.state 1 0 → CallAdds s (values g t error value)
adds_values s g t error value adds = adds_before s g.state (values g t error value).outcome.state 1 0 adds refl

-- another action adds nothing
adds_with_action : (g : Outcome) (sig : ℕ) (action : Action) → Adds g.state (with_action g sig action).state 1 0
adds_with_action g sig action =
    let acting : State = record g.state { actions = put g.state.actions sig action } in
    let silent : State = record acting { pending = forgotten sig g.state.pending } in
    either (λ (o : Outcome). Adds g.state o.state 1 0) (ignores action sig) (dropped (record g { state = silent }) sig (left_of g.state sig)) (record g { state = acting })
    (adds_forgotten g.state silent sig 1 0 refl refl) (adds_stays g.state acting 1 0 refl)

adds_sigaction : IsAdding sigaction
adds_sigaction s t c =
    let acting : Outcome = with_action (begun s) c.a0 (action_of c.a1 (set_of c.a2)) in
    adds_refusing s t ((not (can_block c.a0), EINVAL) ∷ (not (is_action c.a1), EINVAL) ∷ []) (values acting t 0 (number_of_action (s.actions c.a0)))
    (λ may. adds_values s acting t 0 (number_of_action (s.actions c.a0)) (adds_with_action (begun s) c.a0 (action_of c.a1 (set_of c.a2))))

adds_sigmask : IsAdding sigmask
adds_sigmask s t c =
    let masked : Outcome = begun (set_thread s t (record (s.threads t) { mask = mask_by c.a0 (s.threads t).mask (set_of c.a1) })) in
    adds_refusing s t ((nat_lt 2 c.a0, EINVAL) ∷ []) (values masked t 0 (s.threads t).mask)
    (λ may. adds_values s masked t 0 (s.threads t).mask (adds_stays s masked.state 1 0 refl))

adds_accept_or_wait : (s : State) (t set : ℕ) (o : Option ℕ) → CallAdds s (accept_or_wait s t set o)
adds_accept_or_wait s t set None = adds_stays s (accept_or_wait s t set None).outcome.state 1 0 refl
adds_accept_or_wait s t set (Some sig) =
    let place = accepted_from s t sig in
    adds_before s (set_pending s place sig 0) (accept_or_wait s t set (Some sig)).outcome.state 1 0 (adds_taken s place sig 1 0) refl

adds_sigwait : IsAdding sigwait
adds_sigwait s t c =
    let set = set_of c.a0 in
    adds_refusing s t ((set == 0, EINVAL) ∷ []) (accept_or_wait s t set (lowest_pending s t set)) (λ may. adds_accept_or_wait s t set (lowest_pending s t set))

-- a signal that can be sent is in scope, but for the signal 0
adds_sent : (s : State) (place sig : ℕ) → can_send sig ≡ true → Adds s (sent s place sig).state 1 0
adds_sent s place sig may = by (sig == 0) may
  where
    by : (b : Bool) → b || is_in_scope sig ≡ true → Adds s (if b then begun s else come (begun s) place sig 1).state 1 0
    by true may = adds_stays s s 1 0 refl
    by false may = adds_come (begun s) place sig 1 may

adds_kill_thread : IsAdding kill_thread
adds_kill_thread s t c =
    adds_refusing s t ((not (is_live (s.threads c.a0).standing), ESRCH) ∷ (not (can_send c.a1), EINVAL) ∷ []) (values (sent s c.a0 c.a1) t 0 0)
    (λ may. adds_values s (sent s c.a0 c.a1) t 0 0 (adds_sent s c.a0 c.a1 (not-false (can_send c.a1) may.1.0)))

adds_kill_process : IsAdding kill_process
adds_kill_process s t c =
    adds_refusing s t ((not (can_send c.a0), EINVAL) ∷ []) (values (sent s 0 c.a0) t 0 0)
    (λ may. adds_values s (sent s 0 c.a0) t 0 0 (adds_sent s 0 c.a0 (not-false (can_send c.a0) may.0)))

adds_signal_calls : AreAdding signal_calls
adds_signal_calls = (
  calm_adds write calm_write,
  (
    adds_sigaction,
    (
      adds_sigmask,
      (
        calm_adds sigpending (λ s t c. refl),
        (
          adds_sigwait,
          (
            adds_kill_thread,
            (adds_kill_process, (calm_adds sleep calm_sleep, (calm_adds set_alarm calm_set_alarm, (calm_adds clock calm_clock, tt)))),
          ),
        ),
      ),
    ),
  ),
)

-- the row of a number in a list of such rows, and in those after
adds_row_of : (number : ℕ) (entries others : List Entry) → AreAdding entries → IsAdding (row_of others number) → IsAdding (row_of (entries ++ others) number)
adds_row_of number [] others rows more s t c = more s t c
adds_row_of number (entry ∷ entries) others rows more s t c =
    either (CallAdds s) (number == entry.0) (entry.1 s t c) (row_of (entries ++ others) number s t c) (rows.0 s t c) (adds_row_of number entries others rows.1 more s t c)

-- a call adds one at most
pub adds_call : (s : State) (t number : ℕ) (c : Arguments) → Adds s (call_row s t number c).outcome.state 1 0
unfolding call_row
adds_call s t number =
    adds_row_of number signal_calls (thread_calls ++ sync_calls) adds_signal_calls (calm_adds (row_of (thread_calls ++ sync_calls) number) (calm_others number)) s t
