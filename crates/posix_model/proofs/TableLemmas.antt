-- In which list of calls the row of a number stands.
use Rattle.std.proofs.Common.{◌≡◌, ◌∙◌, ap, sym, refl, subst, ℕ, Bool, true, false, List, [], ◌∷◌, ◌++◌, append-nil, rules}
use Rattle.std.specs.Prelude.{◌==◌, if◌then◌else◌}
use Rattle.std.specs.List.{AllByRecursion}
use Rattle.std.proofs.lemmas.Bool.{eqb-true}
use Rattle.thread_base.specs.Numbers.{IsCall, family_of}
use Rattle.thread_base.specs.declared.Errno.TheVariants.{ENOSYS}
use Rattle.thread_base.specs.declared.Family.{Family}
use Rattle.thread_base.specs.declared.Family.TheVariants.{Threads, Sync, Signals}
use Rattle.posix_model.specs.State.{State}
use Rattle.posix_model.specs.Replies.{Entry, refused, row_of}
use Rattle.posix_model.specs.Calls.{signal_calls, thread_calls, sync_calls, table, call_row}
use Rattle.posix_model.specs.declared.Arguments.{Arguments}
use Rattle.posix_model.proofs.StandingLemmas.{never}

-- the numbers of all calls of a list have a property
abbrev AllNumbers : (ℕ → Type 0) → List Entry → Type 0
AllNumbers P entries = AllByRecursion (λ (entry : Entry). P entry.0) entries

module _ (P : ℕ → Type 0) (s : State) (t number : ℕ) (c : Arguments) (other : P number → ⊥) where
  -- calls with a property that the number does not have, before others and after others
  before_its : (entries others : List Entry) → AllNumbers P entries → row_of (entries ++ others) number s t c ≡ row_of others number s t c
  before_its [] others all = refl
  before_its (entry ∷ entries) others all = by (number == entry.0) (λ same. other (subst P (sym (eqb-true number entry.0 same)) all.0)) (before_its entries others all.1)
    where
      by : (b : Bool) → (b ≡ true → ⊥) → row_of (entries ++ others) number s t c ≡ row_of others number s t c
          → (if b then entry.1 s t c else row_of (entries ++ others) number s t c) ≡ row_of others number s t c
      by true apart rest = absurd (apart refl)
      by false apart rest = rest

  after_its : (entries others : List Entry) → AllNumbers P others → row_of (entries ++ others) number s t c ≡ row_of entries number s t c
  after_its [] others all = ap (λ calls. row_of calls number s t c) (sym (append-nil others)) ∙ before_its others [] all
  after_its (entry ∷ entries) others all = ap (λ rest. if number == entry.0 then entry.1 s t c else rest) (after_its entries others all)

-- it is this family
abbrev is_family : Family → Family → Bool
is_family Threads Threads = true
is_family Sync Sync = true
is_family Signals Signals = true
is_family a b = false

-- a number is of another family
abbrev IsBeside : Family → ℕ → Type 0
IsBeside family number = is_family family (family_of number) ≡ false

pub thread_row : (s : State) (t number : ℕ) (c : Arguments) → family_of number ≡ Threads → call_row s t number c ≡ row_of thread_calls number s t c
unfolding call_row
thread_row s t number c e =
    let own = λ (h : IsBeside Threads number). never true refl (sym (ap (is_family Threads) e) ∙ h) in
    before_its (IsBeside Threads) s t number c own signal_calls (thread_calls ++ sync_calls) (search rules)
    ∙ after_its (IsBeside Threads) s t number c own thread_calls sync_calls (search rules)

pub sync_row : (s : State) (t number : ℕ) (c : Arguments) → family_of number ≡ Sync → call_row s t number c ≡ row_of sync_calls number s t c
unfolding call_row
sync_row s t number c e =
    let own = λ (h : IsBeside Sync number). never true refl (sym (ap (is_family Sync) e) ∙ h) in
    before_its (IsBeside Sync) s t number c own (signal_calls ++ thread_calls) sync_calls (search rules)

pub signal_row : (s : State) (t number : ℕ) (c : Arguments) → family_of number ≡ Signals → call_row s t number c ≡ row_of signal_calls number s t c
unfolding call_row
signal_row s t number c e =
    let own = λ (h : IsBeside Signals number). never true refl (sym (ap (is_family Signals) e) ∙ h) in
    after_its (IsBeside Signals) s t number c own signal_calls (thread_calls ++ sync_calls) (search rules)

pub unknown_row : (s : State) (t number : ℕ) (c : Arguments) → (IsCall number → ⊥) → call_row s t number c ≡ refused s t ENOSYS
unfolding call_row
unknown_row s t number c none = after_its IsCall s t number c none [] table (search rules)
