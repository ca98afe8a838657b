-- Mutexes of a thread that ends, and the priorities of threads by their numbers.
use Rattle.std.proofs.Common.{◌≡◌, ◌∙◌, ap, sym, refl, inl, inr, arith, ℕ, ◌+◌, ◌<◌, ◌≤◌, length, set, true, false, is_some, List, Option, Some, None}
use Rattle.std.specs.Prelude.{if◌then◌else◌}
use Rattle.thread_base.specs.Holders.{is_held_by, is_free}
use Rattle.std.proofs.lemmas.Bool.{cases_lt}
use Rattle.thread_base.specs.Maps.{put, numbered}
use Rattle.thread_base.specs.Objects.{holder_in, waiters_in}
use Rattle.thread_base.specs.declared.mutex.Holder.TheVariants.{Orphan}
use Rattle.thread_base.proofs.MapLemmas.{put_same, put_other, numbered_set}
use Rattle.mutex_table.specs.MutexMap.{state_of}
use Rattle.posix_model.specs.State.{State, Mutex}
use Rattle.posix_model.specs.Changes.{Outcome}
use Rattle.posix_model.specs.Mutexes.{orphan_in, orphaned, give, requeue, retake_of, retake}
use Rattle.posix_model.specs.declared.RetakeReply.{RetakeReply}
use Rattle.kernel_state.specs.View.{mutex_by}
use Rattle.kernel_state.specs.Changing.{HasNoMutex}

pub mutex_by_parts : (o : Option Mutex) → o ≡ mutex_by (state_of o) (waiters_in o)
mutex_by_parts None = refl
mutex_by_parts (Some mutex) = refl

unheld : (t : ℕ) (o : Option Mutex) → is_held_by (holder_in o) t ≡ false → o ≡ orphan_in t o
unheld t None h = refl
unheld t (Some mutex) h = ap (λ b. Some (if b then record mutex { holder = Orphan } else mutex)) (sym h)

-- the end of a thread that has no mutex leaves the mutexes
pub none_orphaned : (s : State) (t : ℕ) → HasNoMutex s t → s.mutexes ≡ orphaned t s.mutexes
none_orphaned s t h = λ i m. unheld t (s.mutexes m) (h m) i

-- the priorities of one thread more are known
pub level_more : (levels : List ℕ) (base : ℕ → ℕ) (i x : ℕ) → i < length levels → x ≡ base (i + 1) → ((t : ℕ) → 1 ≤ t → t ≤ i → numbered 0 levels t ≡ base t)
    → (t : ℕ) → 1 ≤ t → t ≤ i + 1 → numbered 0 (set levels i x) t ≡ base t
level_more levels base i x inside is known t low high =
    ap (λ (f : ℕ → ℕ). f t) (numbered_set 0 levels i (i + 1) x refl inside)
    ∙ elim (cases_lt t (i + 1)) [
      | inl lt ↦ put_other (numbered 0 levels) (i + 1) x t (λ e. omega (arith, lt, e)) ∙ known t low (omega (arith, lt))
      | inr ge ↦ (let same : t ≡ i + 1 = omega (arith, ge, high) in ap (put (numbered 0 levels) (i + 1) x) same ∙ put_same (numbered 0 levels) (i + 1) x ∙ is ∙ ap base (sym same))
    ]

-- there is a mutex
pub a_mutex : (o : Option Mutex) → is_some o ≡ true → (mutex : Mutex) × (o ≡ Some mutex)
a_mutex None h = absurd (let e : false ≡ true = h in cc)
a_mutex (Some mutex) h = (mutex, refl)

-- a mutex that is there is taken back at once where it is free, and is waited for where it is not
pub retake_is : (g : Outcome) (m t count : ℕ) (reply : RetakeReply) (mutex : Mutex) → g.state.mutexes m ≡ Some mutex
    → (is_free mutex.holder ≡ true → retake g m t count reply ≡ give g m mutex t count reply) × (is_free mutex.holder ≡ false → retake g m t count reply ≡ requeue g m mutex t count reply)
retake_is g m t count reply mutex is =
    let by_holder : retake g m t count reply ≡ (if is_free mutex.holder then give g m mutex t count reply else requeue g m mutex t count reply) =
    ap (λ o. retake_of g m o t count reply) is in (
      λ h. by_holder ∙ ap (λ b. if b then give g m mutex t count reply else requeue g m mutex t count reply) h,
      λ h. by_holder ∙ ap (λ b. if b then give g m mutex t count reply else requeue g m mutex t count reply) h,
    )
