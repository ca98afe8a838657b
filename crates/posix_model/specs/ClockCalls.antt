-- The calls of the clock: of each its effect, then its reply. The clock counts the ticks that have come.
use Rattle.std.specs.Prelude.{ℕ, ◌+◌, ◌-◌, ◌==◌, if◌then◌else◌, List, [], ◌∷◌, Option, Some, None}
use Rattle.posix_model.specs.State.{State}
use Rattle.posix_model.specs.Changes.{begun}
use Rattle.posix_model.specs.Replies.{Called, Entry, ticks_in, values, blocked}
use Rattle.posix_model.specs.declared.Arguments.{Arguments}
use Rattle.posix_model.specs.declared.Wait.TheVariants.{Sleep}

-- a sleep of no ticks is over at once, and another waits for its time (POSIX.1 sleep)
abbrev pub sleep_for : State → ℕ → ℕ → Called
sleep_for s t ticks = if ticks == 0 then values (begun s) t 0 0 else blocked s t (Sleep (s.now + ticks))

-- 292: sleep(ticks) (POSIX.1 sleep)
abbrev pub sleep : State → ℕ → Arguments → Called
sleep s t c = sleep_for s t (ticks_in c.a0)

-- the ticks until the alarm goes off, and 0 where none is set (POSIX.1 alarm)
abbrev pub ticks_until : ℕ → Option ℕ → ℕ
ticks_until now None = 0
ticks_until now (Some until) = until - now

-- when an alarm goes off that is set to so many ticks; with 0 ticks there is none (POSIX.1 alarm)
abbrev pub alarm_in : ℕ → ℕ → Option ℕ
alarm_in now ticks = if ticks == 0 then None else Some (now + ticks)

-- 293: alarm(ticks); it answers the ticks that were left of the alarm before (POSIX.1 alarm)
abbrev pub set_alarm : State → ℕ → Arguments → Called
set_alarm s t c = values (begun (record s { alarm = alarm_in s.now (ticks_in c.a0) })) t 0 (ticks_until s.now s.alarm)

-- 294: clock(); it answers the ticks that have come (this project's own)
abbrev pub clock : State → ℕ → Arguments → Called
clock s t c = values (begun s) t 0 s.now

-- the calls of the clock
abbrev pub clock_calls : List Entry
clock_calls = (292, sleep) ∷ (293, set_alarm) ∷ (294, clock) ∷ []
