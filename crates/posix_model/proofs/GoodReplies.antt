-- Refusals, answers and tables of calls keep a good state good.
use Rattle.std.proofs.Common.{◌≡◌, ◌<◌, refl, sym, subst, arith, ℕ, Bool, true, false, List, [], ◌∷◌, ◌++◌, Option, Some, None}
use Rattle.std.specs.Prelude.{◌^◌, ◌==◌, if◌then◌else◌}
use Rattle.std.specs.List.{AllByRecursion}
use Rattle.std.proofs.lemmas.Nat.{mod_below}
use Rattle.thread_base.specs.declared.Errno.{Errno}
use Rattle.thread_base.specs.declared.Errno.TheVariants.{EINVAL}
use Rattle.posix_model.specs.State.{State, is_ready}
use Rattle.posix_model.specs.Good.{IsGood}
use Rattle.posix_model.specs.Replies.{Called, Row, Entry, ticks_in, refused, refusing, row_of}
use Rattle.posix_model.specs.declared.Arguments.{Arguments}
use Rattle.posix_model.proofs.GoodLemmas.{good_reply}

-- what a call makes is good
abbrev pub GoodCall : Called → Type 0
GoodCall called = IsGood called.outcome.state

-- a row makes good states of good ones, where its caller is ready
abbrev pub IsGoodRow : Row → Type 0
IsGoodRow row = (s : State) (t : ℕ) (c : Arguments) → IsGood s → is_ready (s.threads t).standing ≡ true → GoodCall (row s t c)

abbrev pub AreGoodRows : List Entry → Type 0
AreGoodRows entries = AllByRecursion (λ (entry : Entry). IsGoodRow entry.1) entries

pub good_refused : (s : State) (t : ℕ) (error : Errno) → IsGood s → GoodCall (refused s t error)
good_refused s t error good = good_reply s t _ 0 good

-- none of the refusals holds
abbrev pub NoneHolds : List (Bool × Errno) → Type 0
NoneHolds refusals = AllByRecursion (λ (refusal : Bool × Errno). refusal.0 ≡ false) refusals

-- the first refusal that holds, or the effect where none does
pub good_refusing : (s : State) (t : ℕ) (refusals : List (Bool × Errno)) (effect : Called) → IsGood s → (NoneHolds refusals → GoodCall effect) → GoodCall (refusing s t refusals effect)
good_refusing s t [] effect good h = h tt
good_refusing s t (refusal ∷ refusals) effect good h = by refusal.0 (λ e. good_refusing s t refusals effect good (λ none. h (e, none)))
  where
    by : (b : Bool) → (b ≡ false → GoodCall (refusing s t refusals effect)) → GoodCall (if b then refused s t refusal.1 else refusing s t refusals effect)
    by true rest = good_refused s t refusal.1 good
    by false rest = rest refl

-- a row that looks an object up, and answers EINVAL where there is none
pub good_lookup : {A : Type 0} (look : State → ℕ → Option A) (row : State → ℕ → ℕ → Option A → Called) → ((s : State) (t n : ℕ) → row s t n None ≡ refused s t EINVAL)
    → ((s : State) (t n : ℕ) (x : A) → IsGood s → is_ready (s.threads t).standing ≡ true → look s n ≡ Some x → GoodCall (row s t n (Some x)))
    → IsGoodRow (λ s t c. row s t c.a0 (look s c.a0))
good_lookup {A = A} look row none some s t c good ready = by (look s c.a0) refl
  where
    by : (o : Option A) → look s c.a0 ≡ o → GoodCall (row s t c.a0 o)
    by None e = subst GoodCall (sym (none s t c.a0)) (good_refused s t EINVAL good)
    by (Some x) e = some s t c.a0 x good ready e

-- an argument tells fewer than 2^32 ticks
pub few_ticks : (argument : ℕ) → ticks_in argument < 2 ^ 32
few_ticks argument = mod_below argument (2 ^ 32) (omega arith)

-- the row of a number in a list of good rows, and in those after
pub good_row_of : (number : ℕ) (entries others : List Entry) → AreGoodRows entries → IsGoodRow (row_of others number) → IsGoodRow (row_of (entries ++ others) number)
good_row_of number [] others rows more s t c good ready = more s t c good ready
good_row_of number (entry ∷ entries) others rows more s t c good ready = by (number == entry.0) (good_row_of number entries others rows.1 more s t c good ready)
  where
    by : (b : Bool) → GoodCall (row_of (entries ++ others) number s t c) → GoodCall (if b then entry.1 s t c else row_of (entries ++ others) number s t c)
    by true rest = rows.0 s t c good ready
    by false rest = rest
