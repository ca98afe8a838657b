-- What comes from outside: signals, ticks, input and its end (POSIX.1 signals and clocks; the places are this project's own).
use Rattle.std.specs.Prelude.{ℕ, ◌+◌, ◌==◌, Bool, true, false, if◌then◌else◌, nat_le, filter, List, [], ◌∷◌, ◌++◌, length, take, drop, min, slice_index, slice_set, Option, Some, None}
use Rattle.thread_base.specs.Actions.{ignores}
use Rattle.thread_base.specs.Priority.{tids}
use Rattle.thread_base.specs.declared.Policy.{Policy}
use Rattle.thread_base.specs.declared.Policy.TheVariants.{Other, Fifo, Rr}
use Rattle.rv_exec.specs.Window.{with_bytes}
use Rattle.posix_model.specs.State.{State, Target, ConditionAt, ATime, Input, target, wait_of, deadline_by, is_reading}
use Rattle.posix_model.specs.Changes.{Outcome, set_thread, to_end, answer}
use Rattle.posix_model.specs.Conditions.{wake, in_order}
use Rattle.posix_model.specs.Deliveries.{pend, killed_by}
use Rattle.posix_model.specs.Scheduling.{eff, chosen}
use Rattle.posix_model.specs.declared.RetakeReply.TheVariants.{Answer}

-- so many of a signal are dropped
abbrev pub dropped : Outcome → ℕ → ℕ → Outcome
dropped g sig count = record g { report = record g.report { drops = slice_set g.report.drops sig (slice_index g.report.drops sig + count) } }

-- a signal comes for a thread, or under the number 0 for the process: KILL ends the process, one that is ignored is dropped,
-- and every other pends (POSIX.1 kill, pthread_kill)
abbrev pub come : Outcome → ℕ → ℕ → ℕ → Outcome
come g place sig count =
    if sig == 9 then killed_by sig count g
    else if ignores (g.state.actions sig) sig then dropped g sig count
    else record g { state = pend g.state place sig count }

-- a signal comes for the process
abbrev pub arrive_signal : Outcome → ℕ → ℕ → Outcome
arrive_signal g sig count = come g 0 sig count

-- a thread has a turn that ends: all but FIFO (POSIX.1 SCHED_RR, SCHED_OTHER)
abbrev pub has_turn : Policy → Bool
has_turn Other = true
has_turn Fifo = false
has_turn Rr = true

-- a tick is charged to a thread: at the quantum it goes to the end of the ready list
abbrev pub charge_to : ℕ → State → ℕ → State
charge_to quantum s t =
    if nat_le quantum ((s.threads t).used + 1) then to_end s t else set_thread s t (record (s.threads t) { used = (s.threads t).used + 1 })

-- a tick is charged to the thread that runs
abbrev pub charge : ℕ → State → Option ℕ → State
charge quantum s None = s
charge quantum s (Some t) = if has_turn (s.threads t).policy then charge_to quantum s t else s

-- a time has come
abbrev pub has_come : ℕ → Option ℕ → Bool
has_come now None = false
has_come now (Some until) = nat_le until now

-- the threads whose deadline has come, by number
abbrev pub expired : State → List ℕ
expired s = filter (λ t. has_come s.now (deadline_by (wait_of (s.threads t).standing))) tids

-- the error of a wait whose deadline has come (POSIX.1 ETIMEDOUT)
abbrev pub timed_out : ℕ
timed_out = 110

-- a wait whose time has come: a sleeper is answered, a wait for a condition ends with ETIMEDOUT
abbrev pub expire_at : Outcome → ℕ → Target → Outcome
expire_at g t (ConditionAt c) = wake g t (Answer timed_out)
expire_at g t (ATime until) = answer g t 0 0
expire_at g t a = g

-- the waits of some threads end, one after another
abbrev pub expire_all : Outcome → List ℕ → Outcome
expire_all g [] = g
expire_all g (t ∷ ts) = expire_all (expire_at g t (target (g.state.threads t).standing)) ts

-- the alarm goes off where its time has come: it is cleared, and SIGALRM comes (POSIX.1 alarm)
abbrev pub ring : Outcome → Outcome
ring g =
    if has_come g.state.now g.state.alarm
    then arrive_signal (record { state = record g.state { alarm = None }; report = record g.report { alarm = true } }) 14 1
    else g

-- a tick: the time goes on, the thread that runs is charged, waits end, the alarm goes off
abbrev pub tick : ℕ → Outcome → Outcome
tick quantum g =
    let later : State = record g.state { now = g.state.now + 1 } in
    let charged : State = charge quantum later (chosen g.state) in
    ring (expire_all (record g { state = charged }) (expired charged))

-- who waits for input, the greatest priority first, then the lowest number
abbrev pub readers : State → List ℕ
readers s = in_order (eff s) (filter (λ t. is_reading (target (s.threads t).standing)) tids)

-- so many bytes of input go into a buffer, and the reader is answered their number (POSIX.1 read)
abbrev pub read_into : Outcome → ℕ → ℕ → ℕ → Outcome
read_into g t buffer count =
    answer (record g { state = record g.state { memory = with_bytes g.state.memory buffer (take count g.state.input); input = drop count g.state.input } }) t 0 count

-- a reader is served where input is left
abbrev pub serve_at : Outcome → ℕ → Target → Outcome
serve_at g t (Input buffer size) = if length g.state.input == 0 then g else read_into g t buffer (min size (length g.state.input))
serve_at g t a = g

-- readers are served, one after another
abbrev pub serve_all : Outcome → List ℕ → Outcome
serve_all g [] = g
serve_all g (t ∷ ts) = serve_all (serve_at g t (target (g.state.threads t).standing)) ts

-- bytes join the input
abbrev pub arrive_data : Outcome → List ℕ → Outcome
arrive_data g bytes = serve_all (record g { state = record g.state { input = g.state.input ++ bytes } }) (readers g.state)

-- threads are answered that nothing is left to read, one after another
abbrev pub answer_all : Outcome → List ℕ → Outcome
answer_all g [] = g
answer_all g (t ∷ ts) = answer_all (answer g t 0 0) ts

-- the input ends
abbrev pub arrive_end : Outcome → Outcome
arrive_end g = answer_all (record g { state = record g.state { is_input_over = true } }) (readers g.state)
