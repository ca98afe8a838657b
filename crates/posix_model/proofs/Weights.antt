-- Every stay ends: a delivery lowers the weight, and an arrival raises it by 3 at most.
use Rattle.std.proofs.Common.{◌⊎◌, ◌≡◌, ◌∙◌, refl, sym, ap, subst, arith, inl, inr, ℕ, ◌+◌, ◌-◌, ◌<◌, ◌≤◌, eqb, Bool, true, false, ◌&&◌, List, [], ◌∷◌, ◌++◌, filter, find, length, take, drop, min, Option, Some, None, IfSome}
use Rattle.std.specs.Prelude.{if◌then◌else◌, ◌==◌, is_some, nat_lt, nat_le}
use Rattle.std.specs.Option.{option_or, option_map}
use Rattle.std.proofs.lemmas.Bool.{cases_Bool, or_left, or_right, eq-eqb}
use Rattle.thread_base.specs.Actions.{ignores}
use Rattle.thread_base.specs.Deliveries.{signals, takes, waits_for, waiters, recipient, own_signal, first_answer, own_delivery, pending_recipient, process_delivery, next_delivery as next_signal}
use Rattle.thread_base.specs.Holders.{is_free}
use Rattle.thread_base.specs.Numbers.{IsTid}
use Rattle.thread_base.specs.Orders.{is_in}
use Rattle.thread_base.specs.Priority.{tids, greatest, first_greatest}
use Rattle.thread_base.specs.declared.Place.{Place}
use Rattle.thread_base.specs.declared.action.Action.{Action}
use Rattle.thread_base.specs.declared.action.Action.TheVariants.{Default, Ignore, Handler}
use Rattle.thread_base.specs.Objects.{cond_mutex}
use Rattle.thread_base.proofs.MapLemmas.{put_same}
use Rattle.thread_base.proofs.SearchLemmas.{find_passes, find_member, tids_in, range_in}
use Rattle.posix_model.specs.State.{State, Thread, Mutex, Standing, Ready, Waits, Target, Nothing, MutexAt, ConditionAt, ATime, Input, target, wait_of, is_at_condition, waits_on, mutex_with, is_live}
use Rattle.posix_model.specs.Changes.{Outcome, begun, append, with_reply, resumed, set_thread, answer, to_end, in_exit, canceled}
use Rattle.posix_model.specs.Conditions.{leave, wake_from, wake}
use Rattle.posix_model.specs.Mutexes.{give, requeue, retake_of}
use Rattle.posix_model.specs.Scheduling.{eff, chosen}
use Rattle.posix_model.specs.Deliveries.{Delivery, Acts, Gives, gives, next_delivery, deliver, delivered, given, by_action, handled, wait_ended, entering, unqueued, made_ready, cancelled, set_pending, pend, killed_by, interrupted, told, awaited, is_free_for, is_cancelled}
use Rattle.posix_model.specs.Arrivals.{dropped, arrive_signal, timed_out, read_into, charge, charge_to, has_turn, has_come, expired, expire_at, expire_all, ring, tick, readers, serve_at, serve_all, arrive_data, answer_all, arrive_end}
use Rattle.posix_model.specs.Good.{standings, IsGood, AreSoundConditions}
use Rattle.posix_model.specs.Journals.{entry_at}
use Rattle.posix_model.specs.Runs.{Rules, arrived}
use Rattle.posix_model.specs.Weights.{weight}
use Rattle.posix_model.specs.Laws.{StaysEnd}
use Rattle.posix_model.specs.declared.Head.TheVariants.{Accept}
use Rattle.posix_model.specs.declared.RetakeReply.{RetakeReply}
use Rattle.posix_model.specs.declared.RetakeReply.TheVariants.{Answer, Cancel}
use Rattle.posix_model.specs.declared.Wait.{Wait}
use Rattle.posix_model.specs.declared.Wait.TheVariants.{Cond}
use Rattle.journal_text.specs.declared.entry.Entry.{Entry}
use Rattle.journal_text.specs.declared.entry.What.{What}
use Rattle.journal_text.specs.declared.entry.What.TheVariants.{Sig, Tick, Data, Eof}
use Rattle.posix_model.proofs.StandingLemmas.{never}
use Rattle.posix_model.proofs.WeightLemmas.{bit, flag, wait, Falls, falls_same, falls_alike, falls_on, falls_thread, weight_falls, weight_flag, weight_wait, weight_taken, weight_most, pend_process, pend_thread}

-- a thread becomes ready
falls_append : (s : State) (t : ℕ) (x : Thread) → flag x ≤ flag (s.threads t) → Falls s (append s t x)
falls_append s t x less = falls_thread s (append s t x) t _ refl refl less (omega arith)

falls_answer : (g : Outcome) (t error value : ℕ) → Falls g.state (answer g t error value).state
falls_answer g t error value = falls_append g.state t (with_reply (g.state.threads t) error value) (omega arith)

resumed_flag : (x : Thread) (reply : RetakeReply) → flag (resumed x reply) ≤ flag x
resumed_flag x (Answer error) = omega arith
resumed_flag x Cancel = omega arith

-- a thread takes its mutex back, or waits for it
falls_give : (g : Outcome) (m : ℕ) (mutex : Mutex) (t count : ℕ) (reply : RetakeReply) → Falls g.state (give g m mutex t count reply).state
falls_give g m mutex t count reply = falls_thread g.state (give g m mutex t count reply).state t _ refl refl (resumed_flag (g.state.threads t) reply) (omega arith)

falls_requeue : (g : Outcome) (m : ℕ) (mutex : Mutex) (t count : ℕ) (reply : RetakeReply) → Falls g.state (requeue g m mutex t count reply).state
falls_requeue g m mutex t count reply = falls_thread g.state (requeue g m mutex t count reply).state t _ refl refl (omega arith) (omega arith)

falls_retake : (g : Outcome) (c m t count : ℕ) (reply : RetakeReply) (o : Option Mutex) → Falls g.state (retake_of (leave g c t) m o t count reply).state
falls_retake g c m t count reply o = falls_on (falls_alike g.state (leave g c t).state refl refl) (by o)
  where
    given_or : (mutex : Mutex) (b : Bool) → Falls (leave g c t).state (if b then give (leave g c t) m mutex t count reply else requeue (leave g c t) m mutex t count reply).state
    given_or mutex true = falls_give (leave g c t) m mutex t count reply
    given_or mutex false = falls_requeue (leave g c t) m mutex t count reply

    by : (o : Option Mutex) → Falls (leave g c t).state (retake_of (leave g c t) m o t count reply).state
    by None = falls_same (leave g c t).state
    by (Some mutex) = given_or mutex (is_free mutex.holder)

-- a wait for a condition ends
falls_wake_from : (g : Outcome) (t : ℕ) (reply : RetakeReply) (o : Option Wait) → Falls g.state (wake_from g t reply o).state
falls_wake_from g t reply (Some (Cond c m deadline count)) = falls_retake g c m t count reply (g.state.mutexes m)
falls_wake_from g t reply o = falls_same g.state

falls_wake : (g : Outcome) (t : ℕ) (reply : RetakeReply) → Falls g.state (wake g t reply).state
falls_wake g t reply = falls_wake_from g t reply (wait_of (g.state.threads t).standing)

-- a wait of any kind ends
falls_unqueued : (s : State) (t : ℕ) (a : Target) → Falls s (unqueued s t a)
falls_unqueued s t (MutexAt m) = falls_alike s (unqueued s t (MutexAt m)) refl refl
falls_unqueued s t a = falls_same s

unqueued_threads : (s : State) (t : ℕ) (a : Target) → (unqueued s t a).threads ≡ s.threads
unqueued_threads s t (MutexAt m) = refl
unqueued_threads s t a = refl

falls_left : (s : State) (t : ℕ) (a : Target) (x : Thread) → flag x ≤ flag (s.threads t) → Falls s (append (unqueued s t a) t x)
falls_left s t a x less =
    falls_on (falls_unqueued s t a)
    (falls_append (unqueued s t a) t x (subst (λ (f : ℕ → Thread). flag x ≤ flag (f t)) (sym (unqueued_threads s t a)) less))

falls_ready : (g : Outcome) (t : ℕ) → Falls g.state (made_ready g.state t)
falls_ready g t = falls_left g.state t (target (g.state.threads t).standing) (g.state.threads t) (omega arith)

falls_ended : (g : Outcome) (t : ℕ) (a : Target) → Falls g.state (wait_ended g t a).state
falls_ended g t Nothing = falls_same g.state
falls_ended g t (ATime until) = falls_answer g t interrupted (until - g.state.now)
falls_ended g t (Input buffer size) = falls_answer g t interrupted 0
falls_ended g t a = falls_ready g t

falls_entered : (g : Outcome) (t sig at mask : ℕ) → Falls g.state (entering g t sig at mask).state
falls_entered g t sig at mask = falls_thread g.state (entering g t sig at mask).state t _ refl refl (omega arith) (omega arith)

-- the mutex of a wait for a condition is there
mutex_of_wait : (s : State) (t c m count : ℕ) (deadline : Option ℕ) → AreSoundConditions (standings s) s.mutexes s.conditions
    → (s.threads t).standing ≡ Waits (Cond c m deadline count) → is_some (s.mutexes m) ≡ true
mutex_of_wait s t c m count deadline sound stands =
    let beside : Some m ≡ cond_mutex (s.conditions c) = sym (ap mutex_with stands) ∙ (sound c).together t (ap (waits_on c) stands ∙ eq-eqb c c refl) in
    (sound c).there m (sym beside)

-- who is woken waits for no condition
module _ (g : Outcome) (t : ℕ) (reply : RetakeReply) (sound : AreSoundConditions (standings g.state) g.state.mutexes g.state.conditions) where
  retaken_awake : (c m count : ℕ) (deadline : Option ℕ) (o : Option Mutex) → g.state.mutexes m ≡ o → (g.state.threads t).standing ≡ Waits (Cond c m deadline count)
      → wait ((retake_of (leave g c t) m o t count reply).state.threads t) ≡ 0
  retaken_awake c m count deadline None none stands = absurd (never false (sym (ap is_some none) ∙ mutex_of_wait g.state t c m count deadline sound stands) refl)
  retaken_awake c m count deadline (Some mutex) there stands = by (is_free mutex.holder)
    where
      by : (b : Bool) → wait ((if b then give (leave g c t) m mutex t count reply else requeue (leave g c t) m mutex t count reply).state.threads t) ≡ 0
      by true = ap wait (put_same g.state.threads t _)
      by false = ap wait (put_same g.state.threads t _)

  woken_awake : (st : Standing) → (g.state.threads t).standing ≡ st → is_at_condition (target st) ≡ true → wait ((wake_from g t reply (wait_of st)).state.threads t) ≡ 0
  woken_awake (Waits (Cond c m deadline count)) stands h = retaken_awake c m count deadline (g.state.mutexes m) refl stands
  woken_awake st stands h = absurd (never false h refl)

-- a cancellation acts: the thread is to be cancelled no more
falls_cancelled : (s : State) (t : ℕ) (a : Target) → Falls s (cancelled s t a).state × (flag ((cancelled s t a).state.threads t) ≡ 0)
falls_cancelled s t Nothing =
    let x : Thread = in_exit (s.threads t) canceled in
    (falls_thread s (set_thread s t x) t x refl refl (omega arith) (omega arith), ap flag (put_same s.threads t x))
falls_cancelled s t (ConditionAt c) =
    let x : Thread = record (s.threads t) { cancellation = record (s.threads t).cancellation { enabled = false; pending = false } } in
    let before = falls_thread s (set_thread s t x) t x refl refl (omega arith) (omega arith) in
    let woken = falls_wake (begun (set_thread s t x)) t Cancel in
    let less = woken.flags t in
    let none : flag ((set_thread s t x).threads t) ≡ 0 = ap flag (put_same s.threads t x) in
    (falls_on before woken, omega (arith, less, none))
falls_cancelled s t a =
    let x : Thread = in_exit (s.threads t) canceled in
    (falls_left s t a x (omega arith), ap flag (put_same (unqueued s t a).threads t (record x { standing = Ready; used = 0 })))

-- a handler is entered, or the signal waits on the thread until it has its mutex back
module _ (s : State) (t sig count : ℕ) (range : IsTid t) (sound : AreSoundConditions (standings s) s.mutexes s.conditions) where
  handled_apart : (at mask : ℕ) (a : Target) → Falls s (entering (wait_ended (begun s) t a) t sig at mask).state
  handled_apart at mask a = falls_on (falls_ended (begun s) t a) (falls_entered (wait_ended (begun s) t a) t sig at mask)

  less_handled : (at mask : ℕ) (a : Target) → target (s.threads t).standing ≡ a → weight (handled s t sig count at mask a).state ≤ weight s
  less_handled at mask (ConditionAt c) is =
      let woken : Outcome = wake (begun s) t (Answer 0) in
      let at_one : is_at_condition (target (s.threads t).standing) ≡ true = ap is_at_condition is in
      let one : wait (s.threads t) ≡ 1 = ap bit at_one in
      let none : wait (woken.state.threads t) ≡ 0 = woken_awake (begun s) t (Answer 0) sound (s.threads t).standing refl at_one in
      let lower = weight_wait s woken.state (falls_wake (begun s) t (Answer 0)) t range.0 range.1 (omega (arith, one, none)) in
      let more = pend_thread woken.state t sig count range.0 in
      omega (arith, lower, more)
  less_handled at mask a is = weight_falls s _ (handled_apart at mask a)

  less_action : (action : Action) → weight (by_action s t sig count action).state ≤ weight s
  less_action Default = weight_falls s _ (falls_alike s (by_action s t sig count Default).state refl refl)
  less_action Ignore = weight_falls s s (falls_same s)
  less_action (Handler at mask) = less_handled at mask (target (s.threads t).standing) refl

  -- a signal that is taken raises nothing
  less_given : weight (given s t sig count).state ≤ weight s
  less_given = by (waits_for (awaited s t) sig)
    where
      by : (b : Bool) → weight (if b then told t (Accept t sig count) (answer (begun s) t 0 sig) else by_action s t sig count (s.actions sig)).state ≤ weight s
      by true = weight_falls s _ (falls_answer (begun s) t 0 sig)
      by false = less_action (s.actions sig)

-- what an option has is so
if_is : {A : Type 0} (P : A → Type 0) (o : Option A) → ((x : A) → o ≡ Some x → P x) → IfSome o P
if_is P None h = tt
if_is P (Some x) h = h x refl

if_either : {A : Type 0} (P : A → Type 0) (o p : Option A) → IfSome o P → IfSome p P → IfSome (option_or o p) P
if_either P None p h k = k
if_either P (Some x) p h k = h

if_mapped : {A B : Type 0} (P : B → Type 0) (f : A → B) (o : Option A) → IfSome o (λ x. P (f x)) → IfSome (option_map f o) P
if_mapped P f None h = tt
if_mapped P f (Some x) h = h

if_answer : {A : Type 0} (P : A → Type 0) (answer : ℕ → Option A) (xs : List ℕ) → ((x : ℕ) → is_in x xs ≡ true → IfSome (answer x) P) → IfSome (first_answer answer xs) P
if_answer P answer [] h = tt
if_answer P answer (x ∷ xs) h =
    if_either P (answer x) (first_answer answer xs) (h x (or_left (eqb x x) (is_in x xs) (eq-eqb x x refl)))
    (if_answer P answer xs (λ y e. h y (or_right (eqb y x) (is_in y xs) e)))

both_true : (a b : Bool) → a && b ≡ true → (a ≡ true) × (b ≡ true)
both_true true b h = (refl, h)
both_true false b h = absurd (never false h refl)

-- what passes a test is in the list
filtered_in : (test : ℕ → Bool) (xs : List ℕ) (x : ℕ) → is_in x (filter test xs) ≡ true → is_in x xs ≡ true
filtered_in test [] x h = h
filtered_in test (y ∷ ys) x h =
    elim (cases_Bool (eqb x y)) [
      | inl same ↦ or_left (eqb x y) (is_in x ys) same
      | inr other ↦ or_right (eqb x y) (is_in x ys) (filtered_in test ys x (by (test y) other h))
    ]
  where
    by : (b : Bool) → eqb x y ≡ false → is_in x (if b then y ∷ filter test ys else filter test ys) ≡ true → is_in x (filter test ys) ≡ true
    by true other h = rw other at h
    by false other h = h

-- a delivery of a thread's or the process's signal: it pends there, and its numbers are those of a thread and of a signal
record IsAmong (counts : ℕ → ℕ → ℕ) (d : ℕ × ℕ × Bool) : Type 0 where
  pends : nat_lt 0 (counts (if d.2 then 0 else d.0) d.1) ≡ true
  thread : is_in d.0 tids ≡ true
  signal : is_in d.1 signals ≡ true

module _ (waits : ℕ → Option ℕ) (free : ℕ → ℕ → Bool) (counts : ℕ → ℕ → ℕ) (key : ℕ → ℕ) where
  own_among : (t : ℕ) → is_in t tids ≡ true → IfSome (option_map (λ sig. (t, sig, false)) (own_signal waits free counts t)) (IsAmong counts)
  own_among t range =
      let test : ℕ → Bool = λ sig. nat_lt 0 (counts t sig) && takes waits free t sig in
      if_mapped (IsAmong counts) (λ sig. (t, sig, false)) (own_signal waits free counts t)
      (if_is (λ sig. IsAmong counts (t, sig, false)) (own_signal waits free counts t) (λ sig e. record {
        pends = (both_true (nat_lt 0 (counts t sig)) (takes waits free t sig) (find_passes test signals sig e)).0;
        thread = range;
        signal = find_member test signals sig e;
      }))

  recipient_in : (sig : ℕ) → IfSome (recipient waits free key sig) (λ t. is_in t tids ≡ true)
  recipient_in sig =
      let some = waiters waits sig in
      if_either (λ t. is_in t tids ≡ true) (first_greatest key some) (find (λ t. free t sig) tids)
      (if_is (λ t. is_in t tids ≡ true) (first_greatest key some) (λ t e.
      filtered_in (λ u. waits_for (waits u) sig) tids t (find_member (λ u. eqb (key u) (greatest key some)) some t e)))
      (if_is (λ t. is_in t tids ≡ true) (find (λ t. free t sig) tids) (λ t e. find_member (λ u. free u sig) tids t e))

  process_among : (sig : ℕ) → is_in sig signals ≡ true → IfSome (option_map (λ t. (t, sig, true)) (pending_recipient waits free counts key sig)) (IsAmong counts)
  process_among sig range = if_mapped (IsAmong counts) (λ t. (t, sig, true)) (pending_recipient waits free counts key sig) (by (nat_lt 0 (counts 0 sig)) refl)
    where
      by : (b : Bool) → nat_lt 0 (counts 0 sig) ≡ b → IfSome (if b then recipient waits free key sig else None) (λ t. IsAmong counts (t, sig, true))
      by false none = tt
      by true pends =
          if_is (λ t. IsAmong counts (t, sig, true)) (recipient waits free key sig) (λ t e. record {
            pends = pends;
            thread = subst (λ o. IfSome o (λ u. is_in u tids ≡ true)) e (recipient_in sig);
            signal = range;
          })

  next_among : IfSome (next_signal waits free counts key) (IsAmong counts)
  next_among =
      if_either (IsAmong counts) (own_delivery waits free counts) (process_delivery waits free counts key)
      (if_answer (IsAmong counts) (λ t. option_map (λ sig. (t, sig, false)) (own_signal waits free counts t)) tids own_among)
      (if_answer (IsAmong counts) (λ sig. option_map (λ t. (t, sig, true)) (pending_recipient waits free counts key sig)) signals process_among)

-- what is true of the next delivery
abbrev pub IsDue : State → Delivery → Type 0
IsDue s (Acts t) = (is_cancelled (s.threads t) ≡ true) × (is_in t tids ≡ true)
IsDue s (Gives t sig place) =
    (nat_lt 0 (s.pending place sig) ≡ true) × (is_in t tids ≡ true) × (is_in sig signals ≡ true) × ((place ≡ 0) ⊎ (place ≡ t))

place_of : (t : ℕ) (b : Bool) → ((if b then 0 else t) ≡ 0) ⊎ ((if b then 0 else t) ≡ t)
place_of t true = inl refl
place_of t false = inr refl

pub next_due : (s : State) (d : Delivery) → next_delivery s ≡ Some d → IsDue s d
unfolding next_delivery
next_due s d e =
    let test : ℕ → Bool = λ t. is_cancelled (s.threads t) in
    let signal = next_signal (awaited s) (is_free_for s) s.pending (eff s) in
    subst (λ o. IfSome o (IsDue s)) e
    (if_either (IsDue s) (option_map Acts (find test tids)) (option_map gives signal)
    (if_mapped (IsDue s) Acts (find test tids) (if_is (λ t. IsDue s (Acts t)) (find test tids) (λ t f. (find_passes test tids t f, find_member test tids t f))))
    (if_mapped (IsDue s) gives signal (if_is (λ d. IsDue s (gives d)) signal (λ d f.
    let among : IsAmong s.pending d = subst (λ o. IfSome o (IsAmong s.pending)) f (next_among (awaited s) (is_free_for s) s.pending (eff s)) in
    (among.pends, among.thread, among.signal, place_of d.0 d.2)))))

pub signal_range : (sig : ℕ) → is_in sig signals ≡ true → (1 ≤ sig) × (sig ≤ 31)
unfolding signals
signal_range sig h = let r = range_in 1 31 sig h in (r.0, omega (arith, r.1))

-- the place from which a thread gets a signal is the process or a thread
pub due_place : (t place : ℕ) → is_in t tids ≡ true → (place ≡ 0) ⊎ (place ≡ t) → (place ≡ 0) ⊎ ((1 ≤ place) × (place ≤ 64))
due_place t place thread (inl process) = inl process
due_place t place thread (inr own) = let range = tids_in t thread in inr (omega (arith, own, range.0), omega (arith, own, range.1))

flagged : (x : Thread) → is_cancelled x ≡ true → flag x ≡ 1
flagged x h = let rest = (both_true (is_live x.standing) _ h).1 in ap bit (both_true x.cancellation.pending _ rest).0

-- a delivery lowers the weight
less_delivered : (s : State) (d : Delivery) → IsGood s → IsDue s d → weight (delivered s (Some d)).state < weight s
less_delivered s (Acts t) good due =
    let range = tids_in t due.1 in
    let falls = falls_cancelled s t (target (s.threads t).standing) in
    let before = flagged (s.threads t) due.0 in
    weight_flag s _ falls.0 t range.0 range.1 (let after = falls.1 in omega (arith, before, after))
less_delivered s (Gives t sig place) good due =
    let range = tids_in t due.1 in
    let number = signal_range sig due.2 in
    let taken = weight_taken s place sig number.0 number.1 due.0 (due_place t place due.1 due.3) in
    let given = less_given (set_pending s place sig 0) t sig (s.pending place sig) range good.conditions in
    omega (arith, taken, given)

less_deliver : (s : State) (d : Delivery) → IsGood s → next_delivery s ≡ Some d → weight (deliver s).state < weight s
less_deliver s d good next = subst (λ o. weight (delivered s o).state < weight s) (sym next) (less_delivered s d good (next_due s d next))

-- a signal that comes for the process raises the weight by 3 at most
more_signal : (g : Outcome) (sig count : ℕ) → weight (arrive_signal g sig count).state ≤ weight g.state + 3
more_signal g sig count = by (sig == 9)
  where
    alike : (s : State) → s.threads ≡ g.state.threads → s.pending ≡ g.state.pending → weight s ≤ weight g.state + 3
    alike s threads pending = let less = weight_falls g.state s (falls_alike g.state s threads pending) in omega (arith, less)

    pends : (b : Bool) → weight (if b then dropped g sig count else record g { state = pend g.state 0 sig count }).state ≤ weight g.state + 3
    pends true = alike g.state refl refl
    pends false = pend_process g.state sig count

    by : (b : Bool)
        → weight (if b then killed_by sig count g else if ignores (g.state.actions sig) sig then dropped g sig count else record g { state = pend g.state 0 sig count }).state
        ≤ weight g.state + 3
    by true = alike (killed_by sig count g).state refl refl
    by false = pends (ignores (g.state.actions sig) sig)

-- a tick is charged
falls_charge_to : (quantum : ℕ) (s : State) (t : ℕ) → Falls s (charge_to quantum s t)
falls_charge_to quantum s t = by (nat_le quantum ((s.threads t).used + 1))
  where
    by : (b : Bool) → Falls s (if b then to_end s t else set_thread s t (record (s.threads t) { used = (s.threads t).used + 1 }))
    by true = falls_thread s (to_end s t) t (record (s.threads t) { used = 0 }) refl refl (omega arith) (omega arith)
    by false =
        falls_thread s (set_thread s t (record (s.threads t) { used = (s.threads t).used + 1 })) t (record (s.threads t) { used = (s.threads t).used + 1 }) refl refl
        (omega arith) (omega arith)

falls_charge : (quantum : ℕ) (s : State) (o : Option ℕ) → Falls s (charge quantum s o)
falls_charge quantum s None = falls_same s
falls_charge quantum s (Some t) = by (has_turn (s.threads t).policy)
  where
    by : (b : Bool) → Falls s (if b then charge_to quantum s t else s)
    by true = falls_charge_to quantum s t
    by false = falls_same s

-- waits end
falls_expire_at : (g : Outcome) (t : ℕ) (a : Target) → Falls g.state (expire_at g t a).state
falls_expire_at g t (ConditionAt c) = falls_wake g t (Answer timed_out)
falls_expire_at g t (ATime until) = falls_answer g t 0 0
falls_expire_at g t a = falls_same g.state

falls_expire_all : (g : Outcome) (ts : List ℕ) → Falls g.state (expire_all g ts).state
falls_expire_all g [] = falls_same g.state
falls_expire_all g (t ∷ ts) =
    let now : Outcome = expire_at g t (target (g.state.threads t).standing) in
    falls_on (falls_expire_at g t (target (g.state.threads t).standing)) (falls_expire_all now ts)

-- the alarm goes off
more_ring : (g : Outcome) → weight (ring g).state ≤ weight g.state + 3
more_ring g = by (has_come g.state.now g.state.alarm)
  where
    rung : Outcome
    rung = record { state = record g.state { alarm = None }; report = record g.report { alarm = true } }

    by : (b : Bool) → weight (if b then arrive_signal rung 14 1 else g).state ≤ weight g.state + 3
    by true =
        let less = weight_falls g.state rung.state (falls_alike g.state rung.state refl refl) in
        let more = more_signal rung 14 1 in
        omega (arith, less, more)
    by false = omega arith

more_tick : (quantum : ℕ) (s : State) → weight (tick quantum (begun s)).state ≤ weight s + 3
more_tick quantum s =
    let later : State = record s { now = s.now + 1 } in
    let charged : State = charge quantum later (chosen s) in
    let g : Outcome = record (begun s) { state = charged } in
    let falls = falls_on (falls_alike s later refl refl) (falls_on (falls_charge quantum later (chosen s)) (falls_expire_all g (expired charged))) in
    let less = weight_falls s (expire_all g (expired charged)).state falls in
    let more = more_ring (expire_all g (expired charged)) in
    omega (arith, less, more)

-- input and its end
falls_serve_at : (g : Outcome) (t : ℕ) (a : Target) → Falls g.state (serve_at g t a).state
falls_serve_at g t (Input buffer size) = by (length g.state.input == 0)
  where
    count : ℕ
    count = min size (length g.state.input)

    by : (b : Bool) → Falls g.state (if b then g else read_into g t buffer count).state
    by true = falls_same g.state
    by false =
        falls_thread g.state (read_into g t buffer count).state t (record (with_reply (g.state.threads t) 0 count) { standing = Ready; used = 0 }) refl refl (omega arith) (omega arith)
falls_serve_at g t a = falls_same g.state

falls_serve_all : (g : Outcome) (ts : List ℕ) → Falls g.state (serve_all g ts).state
falls_serve_all g [] = falls_same g.state
falls_serve_all g (t ∷ ts) =
    let now : Outcome = serve_at g t (target (g.state.threads t).standing) in
    falls_on (falls_serve_at g t (target (g.state.threads t).standing)) (falls_serve_all now ts)

falls_answer_all : (g : Outcome) (ts : List ℕ) → Falls g.state (answer_all g ts).state
falls_answer_all g [] = falls_same g.state
falls_answer_all g (t ∷ ts) = falls_on (falls_answer g t 0 0) (falls_answer_all (answer g t 0 0) ts)

falls_data : (g : Outcome) (bytes : List ℕ) → Falls g.state (arrive_data g bytes).state
falls_data g bytes =
    let more : Outcome = record g { state = record g.state { input = g.state.input ++ bytes } } in
    falls_on (falls_alike g.state more.state refl refl) (falls_serve_all more (readers g.state))

falls_end : (g : Outcome) → Falls g.state (arrive_end g).state
falls_end g =
    let over : Outcome = record g { state = record g.state { is_input_over = true } } in
    falls_on (falls_alike g.state over.state refl refl) (falls_answer_all over (readers g.state))

-- what arrives raises the weight by 3 at most
more_arrived : (rules : Rules) (s : State) (first count : ℕ) (at : Place) (o : Option Entry) → weight (arrived rules s first count at o).state ≤ weight s + 3
more_arrived rules s first count at None = omega arith
more_arrived rules s first count at (Some entry) = by entry.what
  where
    no_more : (g : Outcome) → Falls s g.state → weight g.state ≤ weight s + 3
    no_more g falls = let less = weight_falls s g.state falls in omega (arith, less)

    by : (what : What) → weight (arrived rules s first count at (Some (record entry { what = what }))).state ≤ weight s + 3
    by (Sig sig) = more_signal (begun s) sig count
    by Tick = more_tick rules.settings.quantum s
    by (Data start len) = no_more (arrive_data (begun s) (take len (drop start rules.journal.bytes))) (falls_data (begun s) (take len (drop start rules.journal.bytes)))
    by Eof = no_more (arrive_end (begun s)) (falls_end (begun s))

pub stays_end : StaysEnd
stays_end = record {
  delivery = less_deliver;
  arrival = λ rules s first count at. more_arrived rules s first count at (entry_at rules.journal.entries first);
  most = weight_most;
}
