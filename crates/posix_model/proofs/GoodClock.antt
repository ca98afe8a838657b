-- Each call of the clock keeps a good state good.
use Rattle.std.proofs.Common.{◌≡◌, sym, refl, arith, ℕ, ◌+◌, ◌<◌, Bool, true, false, Some, None}
use Rattle.std.specs.Prelude.{◌^◌, ◌==◌, if◌then◌else◌}
use Rattle.std.specs.Option.{ForSome}
use Rattle.std.proofs.lemmas.Bool.{eqb-false}
use Rattle.thread_base.specs.Orders.{without}
use Rattle.posix_model.specs.State.{State, Standing, Waits, is_ready}
use Rattle.posix_model.specs.Changes.{begun}
use Rattle.posix_model.specs.Replies.{ticks_in, values, blocked}
use Rattle.posix_model.specs.ClockCalls.{sleep, ticks_until, alarm_in, set_alarm, clock, clock_calls}
use Rattle.posix_model.specs.Good.{standings, IsGood}
use Rattle.posix_model.specs.declared.Wait.TheVariants.{Sleep}
use Rattle.posix_model.proofs.StandingLemmas.{ready_live, ready_wants, ready_waits_on, once, for_none, for_some}
use Rattle.posix_model.proofs.MutexLemmas.{mutexes_stay}
use Rattle.posix_model.proofs.ConditionLemmas.{conditions_apart}
use Rattle.posix_model.proofs.GoodLemmas.{good_alike, good_reply, good_asleep, ready_without}
use Rattle.posix_model.proofs.GoodReplies.{GoodCall, IsGoodRow, AreGoodRows, few_ticks}

-- a ready thread waits for a time that is still to come and within 2^32 ticks
good_asleep_until : (s : State) (t until : ℕ) → IsGood s → is_ready (standings s t) ≡ true → s.now < until → until < s.now + 2 ^ 32 → GoodCall (blocked s t (Sleep until))
good_asleep_until s t until good ready later soon =
    let st : Standing = Waits (Sleep until) in
    good_asleep s t (Sleep until) (without t s.ready) s.mutexes s.conditions good (good.within t (ready_live (standings s t) ready).0) (λ u. refl)
    (ready_without (standings s) t st s.ready refl good.ready)
    (mutexes_stay (standings s) t st s.mutexes good.mutexes (λ m. sym (ready_wants m (standings s t) ready)) (λ m h. refl))
    (conditions_apart (standings s) s.mutexes t st s.conditions (λ c. refl) (λ c. ready_waits_on c (standings s t) ready) good.conditions)
    (record {
      count = once;
      later = for_some until (λ time. s.now < time) later;
      soon = for_some until (λ time. time < s.now + 2 ^ 32) soon;
      some = for_none None (λ set. 0 < set) refl;
    })

good_sleep : IsGoodRow sleep
good_sleep s t c good ready = by (ticks == 0) refl
  where
    ticks : ℕ
    ticks = ticks_in c.a0

    by : (b : Bool) → ticks == 0 ≡ b → GoodCall (if b then values (begun s) t 0 0 else blocked s t (Sleep (s.now + ticks)))
    by true none = good_reply s t 0 0 good
    by false some =
        let few = few_ticks c.a0 in
        let ne = eqb-false ticks 0 some in
        good_asleep_until s t (s.now + ticks) good ready (omega (arith, ne)) (omega (arith, few))

-- an alarm that is set is still to come and within 2^32 ticks
alarm_comes : (now ticks : ℕ) → ticks < 2 ^ 32 → ForSome (alarm_in now ticks) (λ until. now < until) × ForSome (alarm_in now ticks) (λ until. until < now + 2 ^ 32)
alarm_comes now ticks few = by (ticks == 0) refl
  where
    by : (b : Bool) → ticks == 0 ≡ b
        → ForSome (if b then None else Some (now + ticks)) (λ until. now < until) × ForSome (if b then None else Some (now + ticks)) (λ until. until < now + 2 ^ 32)
    by true none = (for_none None (λ until. now < until) refl, for_none None (λ until. until < now + 2 ^ 32) refl)
    by false some =
        let ne = eqb-false ticks 0 some in (
          for_some (now + ticks) (λ until. now < until) (omega (arith, ne)),
          for_some (now + ticks) (λ until. until < now + 2 ^ 32) (omega (arith, few)),
        )

good_set_alarm : IsGoodRow set_alarm
good_set_alarm s t c good ready =
    let ticks = ticks_in c.a0 in
    let comes = alarm_comes s.now ticks (few_ticks c.a0) in
    let set : State = record s { alarm = alarm_in s.now ticks } in
    good_reply set t 0 (ticks_until s.now s.alarm)
    (good_alike s set refl good good.ready good.joining good.mutexes good.conditions good.waits
    (record { later = comes.0; soon = comes.1; heeded = good.signals.heeded }))

good_clock : IsGoodRow clock
good_clock s t c good ready = good_reply s t 0 s.now good

pub good_clock_calls : AreGoodRows clock_calls
good_clock_calls = (good_sleep, (good_set_alarm, (good_clock, tt)))
