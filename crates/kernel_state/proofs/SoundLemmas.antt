-- What is kept stands for the entries: how many are taken follows from it, and each change keeps it.
use Rattle.std.proofs.Common.{◌≡◌, ◌∙◌, refl, sym, ap, subst, arith, ℕ, zero, suc, ◌+◌, ◌≤◌, cond, List, [], ◌∷◌, length, take, Option, Some}
use Rattle.std.proofs.lemmas.Bool.{cond_both}
use Rattle.thread_base.specs.declared.Place.{Place}
use Rattle.journal_text.specs.Contents.{Contents, empty}
use Rattle.journal_text.specs.declared.entry.Entry.{Entry}
use Rattle.unix_process.specs.declared.UnixEvent.{UnixEvent}
use Rattle.unix_process.specs.declared.Taken.{Taken}
use Rattle.unix_process.specs.Merging.{same_event, IsEvent, one_entry, merged, count_of, IsCounted}
use Rattle.unix_process.specs.Unix.{UnixState}
use Rattle.monitor_log.specs.Log.{LogState}
use Rattle.posix_model.specs.Journals.{Kind, kind_of, is_kind, with_taken, nothing_taken, numbers_from, entry_at}
use Rattle.kernel_state.specs.Outside.{OutsideState, event_at, gathered, drained_of, left_drained, drain}
use Rattle.kernel_state.specs.Presented.{kind_of_event, event_of_kind, StandsFor, Stands, taken_of, IsSound, KeepsStanding, TakesDrained}
use Rattle.kernel_state.proofs.NumberLemmas.{get_some}
use Rattle.kernel_state.proofs.PresentedLemmas.{back_to_kind, same_refl, stands_first, stands_gathered, stands_drained}
use Rattle.kernel_state.proofs.ArrivalLemmas.{entry_index, accept_stands, log_stands}

-- so many entries were taken, and no other number
pub taken_is : (o : OutsideState) (taken : Kind → ℕ) → Stands o taken → taken ≡ taken_of o
taken_is o taken s = λ i k. at k i
  where
    at : (k : Kind) → taken k ≡ taken_of o k
    at k =
        let c : taken k + (count_of (event_of_kind k) o.log.slots + count_of (event_of_kind k) o.unix.pending) ≡ length (numbers_from k 1 (take o.presented o.journal.entries)) =
        subst (λ x. taken x + (count_of (event_of_kind k) o.log.slots + count_of (event_of_kind k) o.unix.pending) ≡ length (numbers_from x 1 (take o.presented o.journal.entries))) (back_to_kind k) (s.counts (event_of_kind k)) in
        omega (arith, c)

-- where it stands for any number of taken entries, it stands for that
pub stands_so : (o : OutsideState) (taken : Kind → ℕ) → Stands o taken → Stands o (taken_of o)
stands_so o taken s = subst (Stands o) (taken_is o taken s) s

-- a change that keeps what it stands for leaves how many are taken
pub taken_kept : (o p : OutsideState) → Stands o (taken_of o) → KeepsStanding o p → taken_of p ≡ taken_of o
taken_kept o p s keeps = sym (taken_is p (taken_of o) (keeps (taken_of o) s))

-- what is drained is taken
pub taken_drained : (o p : OutsideState) (result : Option Taken) (d : Taken) → Stands o (taken_of o) → TakesDrained o result p → result ≡ Some d
    → taken_of p ≡ with_taken (taken_of o) (kind_of_event d.event) d.count
taken_drained o p result d s takes is = sym (taken_is p (with_taken (taken_of o) (kind_of_event d.event) d.count) (takes (taken_of o) d is s))

-- no more are counted than were presented
numbers_le : (kind : Kind) (n : ℕ) (es : List Entry) → length (numbers_from kind n es) ≤ length es
numbers_le kind n [] = omega arith
numbers_le kind n (e ∷ es) =
    let rest = numbers_le kind (n + 1) es in
    cond_both (is_kind kind (kind_of e.what)) (n ∷ numbers_from kind (n + 1) es) (numbers_from kind (n + 1) es) (λ xs. length xs ≤ length (e ∷ es)) (λ is. omega (arith, rest)) (λ un. omega (arith, rest))

front_le : (few : ℕ) (es : List Entry) → length (take few es) ≤ few
front_le zero es = omega arith
front_le (suc few) [] = omega arith
front_le (suc few) (e ∷ es) = let rest = front_le few es in omega (arith, rest)

pub counts_le : (o : OutsideState) (taken : Kind → ℕ) (e : UnixEvent) → Stands o taken → count_of e o.log.slots + count_of e o.unix.pending ≤ o.presented
counts_le o taken e s =
    let all = s.counts e in
    let numbers = numbers_le (kind_of_event e) 1 (take o.presented o.journal.entries) in
    let front = front_le o.presented o.journal.entries in
    omega (arith, all, numbers, front)

pub counts_few : (o : OutsideState) (e : UnixEvent) → IsSound o → count_of e o.log.slots + count_of e o.unix.pending ≤ 1000000
counts_few o e sound =
    let le = counts_le o (taken_of o) e sound.stands in
    let within = sound.stands.within in
    let few = sound.few in
    omega (arith, le, within, few)

-- ---- what each operation keeps

pub first_sound : (o : OutsideState) → o.journal ≡ empty → o.places ≡ [] → o.presented ≡ 0 → o.log.slots ≡ [] → o.unix.pending ≡ [] → IsSound o
first_sound o journal places none logged pending = record {
  stands =
      stands_so o nothing_taken
      (subst (λ p. StandsFor o.journal.entries nothing_taken p o.log.slots o.unix.pending) (sym none)
      (subst (λ ls. StandsFor o.journal.entries nothing_taken 0 ls o.unix.pending) (sym logged)
      (subst (λ ps. StandsFor o.journal.entries nothing_taken 0 [] ps) (sym pending) (stands_first o.journal.entries))));
  few = let e = ap (λ (j : Contents). length j.entries) journal in omega (arith, e);
  placed = ap length places ∙ sym (ap (λ (j : Contents). length j.entries) journal);
}

module _ (o : OutsideState) (sound : IsSound o) where
  -- a change of what is no list
  pub same_sound : (u : UnixState) (l : LogState) → u.pending ≡ o.unix.pending → l.slots ≡ o.log.slots → IsSound (record o { unix = u; log = l })
  same_sound u l pending logged = record {
    stands =
        stands_so (record o { unix = u; log = l }) (taken_of o)
        (subst (λ ls. StandsFor o.journal.entries (taken_of o) o.presented ls u.pending) (sym logged)
        (subst (λ ps. StandsFor o.journal.entries (taken_of o) o.presented o.log.slots ps) (sym pending) sound.stands));
    few = sound.few;
    placed = sound.placed;
  }

  -- all that pends is logged
  pub gather_sound : (u : UnixState) (l : LogState) → u.pending ≡ [] → l.slots ≡ gathered o.log.slots o.unix.pending → IsSound (record o { unix = u; log = l })
  gather_sound u l none all = record {
    stands =
        stands_so (record o { unix = u; log = l }) (taken_of o)
        (subst (λ ls. StandsFor o.journal.entries (taken_of o) o.presented ls u.pending) (sym all)
        (subst (λ ps. StandsFor o.journal.entries (taken_of o) o.presented (gathered o.log.slots o.unix.pending) ps) (sym none)
        (stands_gathered o.journal.entries (taken_of o) o.presented o.log.slots o.unix.pending sound.stands)));
    few = sound.few;
    placed = sound.placed;
  }

  nothing_counted : (ts : List Taken) → IsCounted ts → ((e : UnixEvent) → count_of e ts ≡ 0) → ts ≡ []
  nothing_counted [] h none = refl
  nothing_counted (t ∷ ts) h none =
      absurd
      (let one : cond (same_event t.event t.event) t.count 0 ≡ t.count = ap (λ b. cond b t.count 0) (same_refl t.event) in
      let all = none t.event in
      let some = h.0 in
      omega (arith, one, all, some))

  -- a journal is taken where nothing was presented
  pub attach_sound : (j : Contents) (places : List Place) → o.presented ≡ 0 → length j.entries ≤ 1000000 → length places ≡ length j.entries
      → IsSound (record o { journal = j; places = places })
  attach_sound j places none few placed = record {
    stands =
        stands_so (record o { journal = j; places = places }) nothing_taken
        (subst (λ p. StandsFor j.entries nothing_taken p o.log.slots o.unix.pending) (sym none)
        (subst (λ ls. StandsFor j.entries nothing_taken 0 ls o.unix.pending)
        (sym (nothing_counted o.log.slots sound.stands.counted_logged (λ e. let le = counts_le o (taken_of o) e sound.stands in omega (arith, le, none))))
        (subst (λ ps. StandsFor j.entries nothing_taken 0 [] ps)
        (sym (nothing_counted o.unix.pending sound.stands.counted_pending (λ e. let le = counts_le o (taken_of o) e sound.stands in omega (arith, le, none))))
        (stands_first j.entries))));
    few = few;
    placed = placed;
  }

  left_sound : (ls : List Taken) → o.log.slots ≡ ls → StandsFor o.journal.entries (taken_of o) o.presented ls o.unix.pending
      → Stands (record o { log = record o.log { slots = left_drained o ls } }) (taken_of (record o { log = record o.log { slots = left_drained o ls } }))
  left_sound [] is s = stands_so (record o { log = record o.log { slots = [] } }) (taken_of o) s
  left_sound (t ∷ ts) is s =
      stands_so (record o { log = record o.log { slots = left_drained o (t ∷ ts) } }) (with_taken (taken_of o) (kind_of_event t.event) (drained_of t).count)
      (stands_drained o (taken_of o) t.event t.first t.count ts o.unix.pending s)

  -- something is drained
  pub drain_sound : IsSound (drain o)
  drain_sound = record { stands = left_sound o.log.slots refl sound.stands; few = sound.few; placed = sound.placed }

  module _ (number : ℕ) (event : UnixEvent) (next : number ≡ o.presented + 1) (there : number ≤ length o.journal.entries)
      (is : event ≡ event_at (entry_at o.journal.entries number)) (known : IsEvent event) where
    entry_there : (e : Entry) × (entry_at o.journal.entries number ≡ Some e)
    entry_there =
        let found = get_some o.journal.entries o.presented (omega (arith, next, there)) in
        (found.0, ap (entry_at o.journal.entries) (omega (arith, next)) ∙ entry_index o.journal.entries o.presented ∙ found.1)

    -- the next entry pends
    pub accept_sound : (u : UnixState) → u.pending ≡ merged (one_entry event number) o.unix.pending → IsSound (record o { unix = u; presented = number })
    accept_sound u more =
        let found = entry_there in record {
          stands =
              stands_so (record o { unix = u; presented = number }) (taken_of o)
              (subst (λ ps. StandsFor o.journal.entries (taken_of o) number o.log.slots ps) (sym more)
              (accept_stands o (taken_of o) number event found.0 next found.1 (is ∙ ap event_at found.1) known sound.stands));
          few = sound.few;
          placed = sound.placed;
        }

    -- the next entry is logged
    pub log_sound : (l : LogState) → o.unix.pending ≡ [] → l.slots ≡ merged (one_entry event number) o.log.slots → IsSound (record o { log = l; presented = number })
    log_sound l none more =
        let found = entry_there in record {
          stands =
              stands_so (record o { log = l; presented = number }) (taken_of o)
              (subst (λ ls. StandsFor o.journal.entries (taken_of o) number ls o.unix.pending) (sym more)
              (log_stands o (taken_of o) number event found.0 next found.1 (is ∙ ap event_at found.1) known sound.stands none));
          few = sound.few;
          placed = sound.placed;
        }
