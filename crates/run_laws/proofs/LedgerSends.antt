-- What each call adds to the ledger of a signal: one that it sends, and nothing else but what it drops.
use Rattle.std.proofs.Common.{◌≡◌, ◌∙◌, ◌⊎◌, refl, sym, ap, subst, arith, inl, inr, ℕ, ◌≤◌, Bool, true, false, not, List, [], ◌∷◌, ◌++◌, Option, Some, None, length}
use Rattle.std.specs.Prelude.{if◌then◌else◌, ◌==◌, nat_lt}
use Rattle.std.specs.List.{AllByRecursion}
use Rattle.std.proofs.lemmas.Bool.{eqb-true, not-false}
use Rattle.std.proofs.lemmas.List.{length-replicate}
use Rattle.thread_base.specs.Actions.{ignores}
use Rattle.thread_base.specs.Maps.{put}
use Rattle.thread_base.specs.Numbers.{IsTid, can_block, set_of, code_of}
use Rattle.thread_base.specs.declared.Errno.{Errno}
use Rattle.thread_base.specs.declared.Errno.TheVariants.{EPERM, ESRCH, EINTR, EBADF, EAGAIN, EFAULT, EBUSY, EINVAL, EDEADLK, ENOSYS, ETIMEDOUT}
use Rattle.thread_base.specs.declared.action.Action.{Action}
use Rattle.posix_model.specs.State.{State, Standing, Absent, Ready, Waits, Ended, is_absent, is_live}
use Rattle.posix_model.specs.Changes.{Outcome, begun, set_thread}
use Rattle.posix_model.specs.Deliveries.{left_of}
use Rattle.posix_model.specs.Arrivals.{dropped, come}
use Rattle.posix_model.specs.Replies.{Called, Row, Entry, values, refused, refusing, row_of}
use Rattle.posix_model.specs.Calls.{write, signal_calls, thread_calls, sync_calls, call_row}
use Rattle.posix_model.specs.MutexCalls.{mutex_calls}
use Rattle.posix_model.specs.ConditionCalls.{condition_calls}
use Rattle.posix_model.specs.ClockCalls.{sleep, set_alarm, clock, clock_calls}
use Rattle.posix_model.specs.SignalCalls.{forgotten, with_action, number_of_action, action_of, is_action, sigaction, mask_by, sigmask, sigpending, lowest_pending, accepted, accepted_from, accept_or_wait, sigwait, sent as sent_by, can_send, kill_thread, kill_process}
use Rattle.posix_model.specs.Good.{IsGood}
use Rattle.posix_model.specs.declared.Arguments.{Arguments}
use Rattle.posix_model.specs.declared.Reply.{Reply}
use Rattle.posix_model.specs.declared.Reply.TheVariants.{Values}
use Rattle.posix_model.proofs.GoodReplies.{NoneHolds}
use Rattle.posix_model.proofs.PendingLemmas.{either}
use Rattle.run_laws.specs.Ledger.{is_zero, sent, share, rung}
use Rattle.run_laws.proofs.LedgerSums.{share_other, left_in, left_is, left_taken, left_forgotten, drops_more}
use Rattle.run_laws.proofs.LedgerCalls.{IsCalm, AreCalm, calm_write, calm_sleep, calm_set_alarm, calm_clock, calm_thread_calls, calm_mutex_calls, calm_condition_calls}
use Rattle.run_laws.proofs.LedgerEven.{bare_begun, is_bare, Even, none_rung, none_beside, none_dropped, even_bare, signal_comes}

-- a refusal does not answer 0
no_zero : (error : Errno) → is_zero (Values (code_of error) 0) ≡ false
no_zero EPERM = refl
no_zero ESRCH = refl
no_zero EINTR = refl
no_zero EBADF = refl
no_zero EAGAIN = refl
no_zero EFAULT = refl
no_zero EBUSY = refl
no_zero EINVAL = refl
no_zero EDEADLK = refl
no_zero ENOSYS = refl
no_zero ETIMEDOUT = refl

-- who has not ended is there
live_there : (st : Standing) → is_live st ≡ true → is_absent st ≡ false
live_there Absent h = let e : false ≡ true = h in absurd (cc)
live_there Ready h = refl
live_there (Waits wait) h = refl
live_there (Ended value) h = refl

-- one signal
module _ (sig : ℕ) (low : 1 ≤ sig) (high : sig ≤ 31) where
  -- how many a call sends, by its number, its arguments and its reply
  abbrev sent_with : ℕ → Arguments → Reply → ℕ
  sent_with number c reply = if is_zero reply then sent sig number (c.a0 ∷ c.a1 ∷ c.a2 ∷ c.a3 ∷ []) else 0

  -- with what a call sends, what came is what went and what pends more
  abbrev CallCounts : State → ℕ → Arguments → Called → Type 0
  CallCounts s number c called = Even sig s called.outcome (sent_with number c called.reply) 0

  -- so it is for a row under a number, whose caller is a thread
  abbrev Counts : ℕ → Row → Type 0
  Counts number row = (s : State) (t : ℕ) (c : Arguments) → IsGood s → IsTid t → CallCounts s number c (row s t c)

  abbrev EachCounts : List Entry → Type 0
  EachCounts entries = AllByRecursion (λ (entry : Entry). Counts entry.0 entry.1) entries

  -- a call of a number that sends nothing
  abbrev SendsNone : ℕ → Type 0
  SendsNone number = (args : List ℕ) → sent sig number args ≡ 0

  none_sent : (number : ℕ) (c : Arguments) (reply : Reply) → SendsNone number → sent_with number c reply ≡ 0
  none_sent number c reply none =
      let args = c.a0 ∷ c.a1 ∷ c.a2 ∷ c.a3 ∷ [] in either (λ n. n ≡ 0) (is_zero reply) (sent sig number args) 0 (none args) refl

  calm_counts : (number : ℕ) (row : Row) → SendsNone number → IsCalm row → Counts number row
  calm_counts number row none calm s t c good range =
      let even = even_bare sig s (row s t c).outcome (is_bare s (row s t c).outcome (calm s t c)) in
      let nothing = none_sent number c (row s t c).reply none in
      omega (arith, even, nothing)

  -- a refusal sends nothing
  counts_refused : (s : State) (t number : ℕ) (c : Arguments) (error : Errno) → CallCounts s number c (refused s t error)
  counts_refused s t number c error =
      let even = even_bare sig s (refused s t error).outcome (is_bare s (refused s t error).outcome refl) in
      let args = c.a0 ∷ c.a1 ∷ c.a2 ∷ c.a3 ∷ [] in
      let nothing : sent_with number c (refused s t error).reply ≡ 0 = ap (λ b. if b then sent sig number args else 0) (no_zero error) in
      omega (arith, even, nothing)

  counts_refusing : (s : State) (t number : ℕ) (c : Arguments) (refusals : List (Bool × Errno)) (effect : Called) → (NoneHolds refusals → CallCounts s number c effect)
      → CallCounts s number c (refusing s t refusals effect)
  counts_refusing s t number c [] effect h = h tt
  counts_refusing s t number c (refusal ∷ refusals) effect h = by refusal.0 (λ e. counts_refusing s t number c refusals effect (λ none. h (e, none)))
    where
      by : (b : Bool) → (b ≡ false → CallCounts s number c (refusing s t refusals effect))
          → CallCounts s number c (if b then refused s t refusal.1 else refusing s t refusals effect)
      by true rest = counts_refused s t number c refusal.1
      by false rest = rest refl

  -- a signal that is sent
  even_sent : (s : State) (place other : ℕ) → (place ≡ 0) ⊎ IsTid place → Even sig s (sent_by s place other) (share sig other 1) 0
  even_sent s place other where_it_is = by (other == 0) (λ is. eqb-true other 0 is)
    where
      by : (b : Bool) → (b ≡ true → other ≡ 0) → Even sig s (if b then begun s else come (begun s) place other 1) (share sig other 1) 0
      by true asks =
          let none = share_other sig other 1 (λ e. let zero = asks refl in omega (arith, e, zero, low)) in
          let even = even_bare sig s (begun s) (bare_begun s) in
          omega (arith, none, even)
      by false asks =
          let comes = signal_comes sig s (begun s) (bare_begun s) high place where_it_is other 1 in
          let sum = comes.1 in
          let silent : rung sig (come (begun s) place other 1).report.alarm ≡ 0 = ap (rung sig) comes.0 ∙ none_rung sig s (begun s) (bare_begun s) in
          omega (arith, silent, sum)

  counts_kill_thread : Counts 290 kill_thread
  counts_kill_thread s t c good range =
      counts_refusing s t 290 c ((not (is_live (s.threads c.a0).standing), ESRCH) ∷ (not (can_send c.a1), EINVAL) ∷ []) (values (sent_by s c.a0 c.a1) t 0 0) (λ may.
      even_sent s c.a0 c.a1 (inr (good.within c.a0 (live_there (s.threads c.a0).standing (not-false (is_live (s.threads c.a0).standing) may.0)))))

  counts_kill_process : Counts 291 kill_process
  counts_kill_process s t c good range =
      counts_refusing s t 291 c ((not (can_send c.a0), EINVAL) ∷ []) (values (sent_by s 0 c.a0) t 0 0) (λ may. even_sent s 0 c.a0 (inl refl))

  -- another action drops all that pends where it ignores its signal
  even_action : (s : State) (other : ℕ) (action : Action) → Even sig s (with_action (begun s) other action) 0 0
  even_action s other action =
      either (λ (g : Outcome). Even sig s g 0 0) (ignores action other) (dropped (record (begun s) { state = silent }) other (left_of s other)) (begun acting)
      quiet (even_bare sig s (begun acting) (is_bare s (begun acting) refl))
    where
      acting : State
      acting = record s { actions = put s.actions other action }

      silent : State
      silent = record acting { pending = forgotten other s.pending }

      quiet : Even sig s (dropped (record (begun s) { state = silent }) other (left_of s other)) 0 0
      quiet =
          let bare = bare_begun s in
          let rung = none_rung sig s (begun s) bare in
          let beside = none_beside sig s (begun s) bare in
          let before = none_dropped sig s (begun s) bare in
          let more = drops_more (begun s).report.drops sig other (left_of s other) (ap length bare.drops ∙ length-replicate {A = ℕ} 32 0) high in
          let all : share sig other (left_of s other) ≡ share sig other (left_in s.pending other) = ap (share sig other) (left_is s other) in
          let gone = left_forgotten s.pending other sig in
          omega (arith, rung, beside, before, more, all, gone)

  counts_sigaction : Counts 286 sigaction
  counts_sigaction s t c good range =
      let acting : Outcome = with_action (begun s) c.a0 (action_of c.a1 (set_of c.a2)) in
      let old = number_of_action (s.actions c.a0) in
      counts_refusing s t 286 c ((not (can_block c.a0), EINVAL) ∷ (not (is_action c.a1), EINVAL) ∷ []) (values acting t 0 old) (λ may.
      let even = even_action s c.a0 (action_of c.a1 (set_of c.a2)) in
      let nothing = none_sent 286 c (Values 0 old) (λ args. refl) in
      omega (arith, even, nothing))

  counts_sigmask : Counts 287 sigmask
  counts_sigmask s t c good range =
      let masked : State = set_thread s t (record (s.threads t) { mask = mask_by c.a0 (s.threads t).mask (set_of c.a1) }) in
      counts_refusing s t 287 c ((nat_lt 2 c.a0, EINVAL) ∷ []) (values (begun masked) t 0 (s.threads t).mask) (λ may.
      let even = even_bare sig s (begun masked) (is_bare s (begun masked) refl) in
      let nothing = none_sent 287 c (Values 0 (s.threads t).mask) (λ args. refl) in
      omega (arith, even, nothing))

  -- a signal that is accepted goes with its whole count
  even_accepted : (s : State) (place other : ℕ) → (place ≡ 0) ⊎ IsTid place → Even sig s (accepted (begun s) place other) 0 0
  even_accepted s place other where_it_is =
      let bare = bare_begun s in
      let rung = none_rung sig s (begun s) bare in
      let drops = none_dropped sig s (begun s) bare in
      let taken = left_taken s place other sig where_it_is in
      omega (arith, rung, drops, taken)

  counts_accept_or_wait : (s : State) (t : ℕ) (c : Arguments) (set : ℕ) (o : Option ℕ) → IsTid t → CallCounts s 289 c (accept_or_wait s t set o)
  counts_accept_or_wait s t c set None range =
      let waits : Called = accept_or_wait s t set None in
      let even = even_bare sig s waits.outcome (is_bare s waits.outcome refl) in
      let nothing = none_sent 289 c waits.reply (λ args. refl) in
      omega (arith, even, nothing)
  counts_accept_or_wait s t c set (Some other) range =
      let place = accepted_from s t other in
      let even = even_accepted s place other (either (λ p. (p ≡ 0) ⊎ IsTid p) (nat_lt 0 (s.pending t other)) t 0 (inr range) (inl refl)) in
      let nothing = none_sent 289 c (Values 0 other) (λ args. refl) in
      omega (arith, even, nothing)

  counts_sigwait : Counts 289 sigwait
  counts_sigwait s t c good range =
      let set = set_of c.a0 in
      counts_refusing s t 289 c ((set == 0, EINVAL) ∷ []) (accept_or_wait s t set (lowest_pending s t set)) (λ may.
      counts_accept_or_wait s t c set (lowest_pending s t set) range)

  counts_clock_calls : EachCounts clock_calls
  counts_clock_calls = (
    calm_counts 292 sleep (λ args. refl) calm_sleep,
    (calm_counts 293 set_alarm (λ args. refl) calm_set_alarm, (calm_counts 294 clock (λ args. refl) calm_clock, tt)),
  )

  counts_signal_calls : EachCounts signal_calls
  counts_signal_calls = (
    calm_counts 64 write (λ args. refl) calm_write,
    (
      counts_sigaction,
      (
        counts_sigmask,
        (
          calm_counts 288 sigpending (λ args. refl) (λ s t c. refl),
          (counts_sigwait, (counts_kill_thread, (counts_kill_process, counts_clock_calls))),
        ),
      ),
    ),
  )

  -- rows that leave what a ledger reads, under numbers that send nothing
  calm_each : (entries : List Entry) → AllByRecursion (λ (entry : Entry). SendsNone entry.0) entries → AreCalm entries → EachCounts entries
  calm_each [] none calm = tt
  calm_each (entry ∷ entries) none calm = (calm_counts entry.0 entry.1 none.0 calm.0, calm_each entries none.1 calm.1)

  -- the row of a number in a list of calls, and in those after
  counts_row_of : (number : ℕ) (entries others : List Entry) → EachCounts entries → Counts number (row_of others number) → Counts number (row_of (entries ++ others) number)
  counts_row_of number [] others each more s t c good range = more s t c good range
  counts_row_of number (entry ∷ entries) others each more s t c good range =
      by (number == entry.0) (λ is. eqb-true number entry.0 is) (counts_row_of number entries others each.1 more s t c good range)
    where
      by : (b : Bool) → (b ≡ true → number ≡ entry.0) → CallCounts s number c (row_of (entries ++ others) number s t c)
          → CallCounts s number c (if b then entry.1 s t c else row_of (entries ++ others) number s t c)
      by true is rest = subst (λ n. CallCounts s n c (entry.1 s t c)) (sym (is refl)) (each.0 s t c good range)
      by false is rest = rest

  -- a call
  pub even_call : (s : State) (t number : ℕ) (c : Arguments) → IsGood s → IsTid t → CallCounts s number c (call_row s t number c)
  unfolding call_row
  even_call s t number =
      counts_row_of number signal_calls (thread_calls ++ sync_calls) counts_signal_calls
      (counts_row_of number thread_calls sync_calls (calm_each thread_calls (λ args. refl, (λ args. refl, (λ args. refl, (λ args. refl, (λ args. refl, (λ args. refl, (λ args. refl, (λ args. refl, (λ args. refl, tt))))))))) calm_thread_calls)
      (counts_row_of number mutex_calls condition_calls (calm_each mutex_calls (λ args. refl, (λ args. refl, (λ args. refl, (λ args. refl, (λ args. refl, tt))))) calm_mutex_calls)
      (counts_row_of number condition_calls [] (calm_each condition_calls (λ args. refl, (λ args. refl, (λ args. refl, (λ args. refl, (λ args. refl, (λ args. refl, tt)))))) calm_condition_calls) (λ r u c good range. counts_refused r u number c ENOSYS))))
      s t
