-- The mutexes of a thread that ends become orphans, one after another from the least number on.
use Rattle.std.proofs.Common.{◌≡◌, ◌∙◌, ap, sym, refl, subst, inl, inr, arith, ℕ, ◌+◌, ◌-◌, ◌<◌, ◌≤◌, Bool, true, false, find, List, length, is_some, Option, Some, None, IsSome, IfNone}
use Rattle.std.specs.Prelude.{if◌then◌else◌}
use Rattle.std.specs.List.{range_with_len}
use Rattle.std.proofs.lemmas.Bool.{cases_lt}
use Rattle.thread_base.specs.Holders.{is_held_by}
use Rattle.thread_base.specs.Maps.{put}
use Rattle.thread_base.specs.declared.mutex.Holder.TheVariants.{Orphan}
use Rattle.thread_base.proofs.MapLemmas.{put_same, put_other}
use Rattle.thread_base.proofs.SearchLemmas.{find_passes, find_member, find_lowest, range_in}
use Rattle.posix_model.specs.State.{State, Mutex}
use Rattle.posix_model.specs.Changes.{begun}
use Rattle.posix_model.specs.Mutexes.{orphan_in, orphaned}
use Rattle.thread_base.specs.Objects.{holder_in, with_holder}
use Rattle.kernel_state.specs.View.{view}
use Rattle.kernel_state.specs.Changing.{Can, HasNoMutex}
use Rattle.kernel_state.specs.Begun.{CanNote, HasNoted, NotesMore}
use Rattle.kernel_state.specs.declared.change.Change.{Change}
use Rattle.kernel_state.specs.declared.change.Change.TheVariants.{Mutex as OfMutex}
use Rattle.kernel_state.specs.declared.change.MutexChange.TheVariants.{Hold}
use Rattle.kernel_state.specs.Kernels.{KernelState}
use Rattle.kernel_state.specs.declared.tables.Tables.{Tables}
use Rattle.kernel_state.proofs.NoteLemmas.{noted_none as noted_first}
use Rattle.calls_thread.specs.Orphans.{with_orphans}

-- a mutex that the thread does not have stays, and one that it has is an orphan
orphan_free : (t : ℕ) (o : Option Mutex) → is_held_by (holder_in o) t ≡ false → orphan_in t o ≡ o
orphan_free t None h = refl
orphan_free t (Some mutex) h = ap (λ b. Some (if b then record mutex { holder = Orphan } else mutex)) h

orphan_held : (t : ℕ) (o : Option Mutex) → is_held_by (holder_in o) t ≡ true → with_holder Orphan o ≡ orphan_in t o
orphan_held t None h = absurd (let e : false ≡ true = h in cc)
orphan_held t (Some mutex) h = ap (λ b. Some (if b then record mutex { holder = Orphan } else mutex)) (sym h)

held_some : (t : ℕ) (o : Option Mutex) → is_held_by (holder_in o) t ≡ true → IsSome o
held_some t None h = absurd (let e : false ≡ true = h in cc)
held_some t (Some mutex) h = refl

orphan_gone : (t : ℕ) (o : Option Mutex) → is_held_by (holder_in (orphan_in t o)) t ≡ false
orphan_gone t None = refl
orphan_gone t (Some mutex) = by (is_held_by mutex.holder t) refl
  where
    by : (b : Bool) → is_held_by mutex.holder t ≡ b → is_held_by (holder_in (Some (if b then record mutex { holder = Orphan } else mutex))) t ≡ false
    by true h = refl
    by false h = h

-- then the thread has none, and its end changes no mutex more
pub none_remaining : (s : State) (t : ℕ) → HasNoMutex (with_orphans s t) t
none_remaining s t m = orphan_gone t (s.mutexes m)

pub orphaned_twice : (t : ℕ) (mutexes : ℕ → Option Mutex) → orphaned t (orphaned t mutexes) ≡ orphaned t mutexes
orphaned_twice t mutexes = λ i m. orphan_free t (orphan_in t (mutexes m)) (orphan_gone t (mutexes m)) i

-- below a number all mutexes of the thread are orphans, and from it on all are as they were
pub record AreBelow (s : State) (t from : ℕ) (mutexes : ℕ → Option Mutex) : Type 0 where
  pub done : (m : ℕ) → m < from → mutexes m ≡ orphan_in t (s.mutexes m)
  pub left : (m : ℕ) → from ≤ m → mutexes m ≡ s.mutexes m

-- that the mutexes below a number are orphans was noted
abbrev pub HasNotedBelow : {R : Type 0} → (R → List ℕ) → KernelState R → KernelState R → ℕ → ℕ → Type 0
HasNotedBelow order k q t from =
    (mutexes : ℕ → Option Mutex) × AreBelow (view order k.tables) t from mutexes × HasNoted order k q (begun (record (view order k.tables) { mutexes = mutexes }))
    × (from ≤ 256) × (length q.rest.noted.items ≤ from)

module _ (s : State) (t from m : ℕ) (least : from ≤ 256) (found : find (λ k. is_held_by (holder_in (s.mutexes k)) t) (range_with_len from (256 - from)) ≡ Some m) where
  abbrev has : ℕ → Bool
  has k = is_held_by (holder_in (s.mutexes k)) t

  pub owned_within : (from ≤ m) × (m < 256)
  owned_within =
      let range = range_in from (256 - from) m (find_member has (range_with_len from (256 - from)) m found) in
      let high = range.1 in (range.0, omega (arith, high, least))

  owned : has m ≡ true
  owned = find_passes has (range_with_len from (256 - from)) m found

  module _ (mutexes : ℕ → Option Mutex) (below : AreBelow s t from mutexes) where
    abbrev next : ℕ → Option Mutex
    next = put mutexes m (with_holder Orphan (mutexes m))

    below_more : AreBelow s t (m + 1) next
    below_more = record {
      done = λ k low. elim (cases_lt k m) [
        | inl lt ↦
            put_other mutexes m (with_holder Orphan (mutexes m)) k (λ e. omega (arith, lt, e))
            ∙ elim (cases_lt k from) [
              | inl before ↦ below.done k before
              | inr after ↦ below.left k after ∙ sym (orphan_free t (s.mutexes k) (find_lowest has from (256 - from) m k found after lt))
            ]
        | inr ge ↦
            (let same : k ≡ m = omega (arith, ge, low) in
            ap next same ∙ put_same mutexes m (with_holder Orphan (mutexes m)) ∙ ap (with_holder Orphan) (below.left m owned_within.0)
            ∙ orphan_held t (s.mutexes m) owned ∙ ap (λ n. orphan_in t (s.mutexes n)) (sym same))
      ];
      left = λ k high.
          (let at = owned_within.0 in
          put_other mutexes m (with_holder Orphan (mutexes m)) k (λ e. omega (arith, e, high)) ∙ below.left k (omega (arith, high, at)));
    }

    can_orphan : Can (OfMutex m (Hold Orphan)) (begun (record s { mutexes = mutexes }))
    can_orphan = ap is_some (below.left m owned_within.0) ∙ held_some t (s.mutexes m) owned

module _ {R : Type 0} (order : R → List ℕ) (k : KernelState R) (t : ℕ) where
  pub noted_none : CanNote order k t → HasNotedBelow order k k t 0
  noted_none ready =
      let none : length k.rest.noted.items ≡ 0 = ap (length {A = Change}) ready.idle.rest.none in (
        (view order k.tables).mutexes,
        record { done = λ m low. absurd (omega (arith, low)); left = λ m high. refl },
        noted_first order k ready.idle ready.untold,
        omega arith,
        omega (arith, none),
      )

  module _ (tables : Tables R) (q : KernelState R) (from : ℕ) (o : Option ℕ) (before : HasNotedBelow order k q t from) (same : tables ≡ q.tables) where
    stays : tables ≡ k.tables
    stays = same ∙ ap (λ (x : KernelState _). x.tables) before.2.others

    module _ (m : ℕ) (least : o ≡ find (λ n. is_held_by (holder_in ((view order tables).mutexes n)) t) (range_with_len from (256 - from))) (is : o ≡ Some m) where
      pub found_still : find (λ n. is_held_by (holder_in ((view order k.tables).mutexes n)) t) (range_with_len from (256 - from)) ≡ Some m
      found_still = sym (least ∙ ap (λ (x : Tables _). find (λ n. is_held_by (holder_in ((view order x).mutexes n)) t) (range_with_len from (256 - from))) stays) ∙ is

      pub within_still : (from ≤ m) × (m < 256)
      within_still = owned_within (view order k.tables) t from m before.3 found_still

    pub none_still : IfNone o ((m : ℕ) → from ≤ m → is_held_by (holder_in ((view order tables).mutexes m)) t ≡ false) → o ≡ None
        → (m : ℕ) → from ≤ m → is_held_by (holder_in ((view order k.tables).mutexes m)) t ≡ false
    none_still none is =
        let left = subst (λ x. IfNone x ((m : ℕ) → from ≤ m → is_held_by (holder_in ((view order tables).mutexes m)) t ≡ false)) is none in
        λ m high. ap (λ (x : Tables _). is_held_by (holder_in ((view order x).mutexes m)) t) (sym stays) ∙ left m high

  -- one mutex more
  pub noted_below : (q r : KernelState R) (from m : ℕ) → HasNotedBelow order k q t from
      → find (λ n. is_held_by (holder_in ((view order k.tables).mutexes n)) t) (range_with_len from (256 - from)) ≡ Some m
      → NotesMore order q r (OfMutex m (Hold Orphan)) → length r.rest.noted.items ≡ length q.rest.noted.items + 1 → HasNotedBelow order k r t (m + 1)
  noted_below q r from m before found more count =
      let s = view order k.tables in
      let range = owned_within s t from m before.3 found in
      let noted = more k (begun (record s { mutexes = before.0 })) before.2 (can_orphan s t from m before.3 found before.0 before.1) in
      let low = range.0 in
      let high = range.1 in
      let few = before.4 in (
        put before.0 m (with_holder Orphan (before.0 m)),
        below_more s t from m before.3 found before.0 before.1,
        noted.so_far,
        omega (arith, high),
        omega (arith, low, few, count),
      )

  -- and then none is left
  pub noted_all : (q : KernelState R) (from : ℕ) → HasNotedBelow order k q t from → ((m : ℕ) → from ≤ m → is_held_by (holder_in ((view order k.tables).mutexes m)) t ≡ false)
      → HasNoted order k q (begun (with_orphans (view order k.tables) t))
  noted_all q from before none =
      let s = view order k.tables in
      let at : (m : ℕ) → before.0 m ≡ orphan_in t (s.mutexes m) =
      λ m. elim (cases_lt m from) [
        | inl low ↦ before.1.done m low
        | inr high ↦ before.1.left m high ∙ sym (orphan_free t (s.mutexes m) (none m high))
      ] in
      subst (λ (ms : ℕ → Option Mutex). HasNoted order k q (begun (record s { mutexes = ms }))) (λ i m. at m i) before.2
