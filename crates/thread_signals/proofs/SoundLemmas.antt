-- The words of the places agree with the counts: at first, after a change of one count, and where they are read.
use Rattle.std.proofs.Common.{◌≡◌, ◌≢◌, ◌∙◌, refl, sym, ap, subst, arith, inl, inr, ℕ, ◌<◌, ◌≤◌, ◌^◌, ◌+◌, List, [], zero, suc, cond, Some, length, get_or, set, replicate, length-set, Bool, true, false, ◌&&◌, ◌||◌, find, None}
use Rattle.std.specs.Prelude.{nat_lt, bit_and, bit_or}
use Rattle.std.specs.List.{range_with_len}
use Rattle.std.proofs.lemmas.Bool.{cases_eq}
use Rattle.std.proofs.lemmas.List.{get_or-set_same, get_or-set_other, get_or-replicate}
use Rattle.thread_base.specs.declared.action.Action.TheVariants.{Default}
use Rattle.thread_base.specs.Maps.{put, numbered}
use Rattle.thread_base.specs.Numbers.{IsInScope, has_signal}
use Rattle.thread_base.proofs.MapLemmas.{put_same, put_other, numbered_blank}
use Rattle.thread_signals.specs.Counts.{is_pending, put_count, total, places}
use Rattle.thread_base.specs.Deliveries.{signals}
use Rattle.thread_signals.specs.SignalState.{Table, AreSound, state_of, first_state, with_count, counts_of}
use Rattle.thread_signals.proofs.TableLemmas.{zeros, blank, counts_blank, actions_blank, counts_set}
use Rattle.thread_signals.proofs.WordLemmas.{has_or, has_and, has_none, scope_range}

-- the table in which nothing is set
abbrev pub first_table : ℕ → Table
first_table mask = record {
  masks = replicate 64 mask;
  waits = replicate 64 None;
  is_open = replicate 64 false;
  counts = replicate 65 zeros;
  actions = replicate 32 Default;
}

pub first_total : total (λ t sig. 0) ≡ 0
unfolding places signals
first_total = refl

none_pends : (t sig : ℕ) → nat_lt 0 (counts_of (replicate 65 zeros) t sig) ≡ false
none_pends t sig = ap (λ (counts : ℕ → ℕ → ℕ). nat_lt 0 (counts t sig)) counts_blank

pub first_sound : (mask : ℕ) → AreSound (first_table mask) (replicate 65 0) 0
first_sound mask = record {
  masks = refl;
  waits = refl;
  is_open = refl;
  actions = refl;
  places = refl;
  rows = λ t h. ap length (get_or-replicate 65 t zeros [] h);
  words = refl;
  scope = λ t sig h. absurd (let e : false ≡ true = sym (none_pends t sig) ∙ h in cc);
  agree = λ t sig. ap (λ w. has_signal w sig) (blank 0 65 t) ∙ has_none sig ∙ sym (none_pends t sig);
  sum = sym (ap total counts_blank ∙ first_total);
  bound = let e : total (counts_of (replicate 65 zeros)) ≡ 0 = ap total counts_blank ∙ first_total in omega (arith, e);
}

pub first_shown : (mask : ℕ) → mask ≡ 0 → state_of (first_table mask) ≡ first_state
unfolding state_of
first_shown mask e = λ i. record {
  masks = (ap (λ m. numbered 0 (replicate 64 m)) e ∙ numbered_blank 0 64) i;
  waits = numbered_blank None 64 i;
  is_open = numbered_blank false 64 i;
  counts = counts_blank i;
  actions = actions_blank i;
}

left : (a b : Bool) → (a && b) ≡ true → a ≡ true
left true b e = refl
left false b e = e

module _ (table : Table) (sets : List ℕ) (all : ℕ) (sound : AreSound table sets all) where
  -- what pends on a thread or on the process
  pub pending_both : (i t sig : ℕ) → i ≡ t → has_signal (bit_or (get_or sets i 0) (get_or sets 0 0)) sig ≡ is_pending (counts_of table.counts) t sig
  pending_both i t sig e =
      ap (λ p. has_signal (bit_or (get_or sets p 0) (get_or sets 0 0)) sig) e
      ∙ has_or (get_or sets t 0) (get_or sets 0 0) sig
      ∙ (λ j. sound.agree t sig j || sound.agree 0 sig j)

  -- what pends is in scope, also of the signals that a thread takes
  pub own_scope : (i taken sig : ℕ) → has_signal (bit_and (get_or sets i 0) taken) sig ≡ true → IsInScope sig
  own_scope i taken sig h =
      sound.scope i sig (sym (sound.agree i sig) ∙ left (has_signal (get_or sets i 0) sig) (has_signal taken sig) (sym (has_and (get_or sets i 0) taken sig) ∙ h))

  -- what pends on a thread or on the process is in scope, also of the signals of a set
  pub both_scope : (i set sig : ℕ) → has_signal (bit_and (bit_or (get_or sets i 0) (get_or sets 0 0)) set) sig ≡ true → IsInScope sig
  both_scope i set sig h =
      by (nat_lt 0 (counts_of table.counts i sig)) (nat_lt 0 (counts_of table.counts 0 sig)) (sound.scope i sig) (sound.scope 0 sig)
      (sym (pending_both i i sig refl)
      ∙ left (has_signal (bit_or (get_or sets i 0) (get_or sets 0 0)) sig) (has_signal set sig)
      (sym (has_and (bit_or (get_or sets i 0) (get_or sets 0 0)) set sig) ∙ h))
    where
      by : (a b : Bool) → (a ≡ true → IsInScope sig) → (b ≡ true → IsInScope sig) → (a || b) ≡ true → IsInScope sig
      by true b own shared e = own refl
      by false b own shared e = shared e

  -- the lowest signal of a set that pends on a thread or on the process
  pub both_found : (i t word set : ℕ) → i ≡ t → word ≡ set
      → find (has_signal (bit_and (bit_or (get_or sets i 0) (get_or sets 0 0)) word)) signals ≡ find (λ sig. is_pending (counts_of table.counts) t sig && has_signal set sig) signals
  both_found i t word set e same =
      ap (λ (test : ℕ → Bool). find test signals)
      (λ j sig. (has_and (bit_or (get_or sets i 0) (get_or sets 0 0)) word sig ∙ (λ l. pending_both i t sig e l && has_signal (same l) sig)) j)

  -- the lowest signal of those that pend on a thread and that it takes
  pub own_found : (i t taken : ℕ) (takes : ℕ → Bool) → i ≡ t → ((sig : ℕ) → sig < 32 → has_signal taken sig ≡ takes sig)
      → find (has_signal (bit_and (get_or sets i 0) taken)) signals ≡ find (λ sig. nat_lt 0 (counts_of table.counts t sig) && takes sig) signals
  unfolding signals
  own_found i t taken takes e agree = agreed 1 31 (omega arith)
    where
      same : (sig : ℕ) → sig < 32 → has_signal (bit_and (get_or sets i 0) taken) sig ≡ (nat_lt 0 (counts_of table.counts t sig) && takes sig)
      same sig low =
          has_and (get_or sets i 0) taken sig
          ∙ (λ j. (ap (λ p. has_signal (get_or sets p 0) sig) e ∙ sound.agree t sig) j && agree sig low j)

      agreed : (first count : ℕ) → first + count ≤ 32
          → find (has_signal (bit_and (get_or sets i 0) taken)) (range_with_len first count)
          ≡ find (λ sig. nat_lt 0 (counts_of table.counts t sig) && takes sig) (range_with_len first count)
      agreed first zero h = refl
      agreed first (suc count) h = λ j. cond (same first (omega arith) j) (Some first) (agreed (first + 1) count (omega arith) j)

  module _ (place s count word : ℕ) (within : place < 65) (in_scope : IsInScope s) where
    changed : counts_of (set table.counts place (set (get_or table.counts place []) s count)) ≡ put_count (counts_of table.counts) place s count
    changed =
        let rows = sound.rows place within in
        let range = scope_range s in_scope in
        counts_set table.counts place s count (let e = sound.places in omega (arith, e)) (omega (arith, rows, range.1))

    -- what the table shows after a count was put
    pub put_shown : state_of (record table { counts = set table.counts place (set (get_or table.counts place []) s count) }) ≡ with_count (state_of table) place s count
    unfolding state_of
    put_shown = ap (λ (c : ℕ → ℕ → ℕ). record (state_of table) { counts = c }) changed

    here : (sig : ℕ) → put_count (counts_of table.counts) place s count place sig ≡ put (counts_of table.counts place) s count sig
    here sig = ap (λ (row : ℕ → ℕ). row sig) (put_same (counts_of table.counts) place (put (counts_of table.counts place) s count))

    there : (t sig : ℕ) → t ≢ place → put_count (counts_of table.counts) place s count t sig ≡ counts_of table.counts t sig
    there t sig ne = ap (λ (row : ℕ → ℕ). row sig) (put_other (counts_of table.counts) place (put (counts_of table.counts place) s count) t ne)

    scope_put : (t sig : ℕ) → nat_lt 0 (put_count (counts_of table.counts) place s count t sig) ≡ true → IsInScope sig
    scope_put t sig h =
        elim (cases_eq sig s) [
          | inl same ↦ subst IsInScope (sym same) in_scope
          | inr other ↦ elim (cases_eq t place) [
            | inl same ↦
                sound.scope place sig
                (sym (ap (nat_lt 0) (ap (λ u. put_count (counts_of table.counts) place s count u sig) same ∙ here sig ∙ put_other (counts_of table.counts place) s count sig other)) ∙ h)
            | inr elsewhere ↦ sound.scope t sig (sym (ap (nat_lt 0) (there t sig elsewhere)) ∙ h)
          ]
        ]

    agree_put : has_signal word ≡ put (has_signal (get_or sets place 0)) s (nat_lt 0 count)
        → (t sig : ℕ) → has_signal (get_or (set sets place word) t 0) sig ≡ nat_lt 0 (put_count (counts_of table.counts) place s count t sig)
    agree_put is t sig =
        elim (cases_eq t place) [
          | inl same ↦
              ap (λ u. has_signal (get_or (set sets place word) u 0) sig) same
              ∙ ap (λ w. has_signal w sig) (get_or-set_same sets place word 0 (let e = sound.words in omega (arith, e)))
              ∙ ap (λ (f : ℕ → Bool). f sig) is
              ∙ row
              ∙ sym (ap (nat_lt 0) (ap (λ u. put_count (counts_of table.counts) place s count u sig) same ∙ here sig))
          | inr elsewhere ↦
              ap (λ w. has_signal w sig) (get_or-set_other sets place t word 0 elsewhere)
              ∙ sound.agree t sig
              ∙ sym (ap (nat_lt 0) (there t sig elsewhere))
        ]
      where
        row : put (has_signal (get_or sets place 0)) s (nat_lt 0 count) sig ≡ nat_lt 0 (put (counts_of table.counts place) s count sig)
        row =
            elim (cases_eq sig s) [
              | inl same ↦
                  ap (put (has_signal (get_or sets place 0)) s (nat_lt 0 count)) same
                  ∙ put_same (has_signal (get_or sets place 0)) s (nat_lt 0 count)
                  ∙ sym (ap (nat_lt 0) (ap (put (counts_of table.counts place) s count) same ∙ put_same (counts_of table.counts place) s count))
              | inr other ↦
                  put_other (has_signal (get_or sets place 0)) s (nat_lt 0 count) sig other
                  ∙ sound.agree place sig
                  ∙ sym (ap (nat_lt 0) (put_other (counts_of table.counts place) s count sig other))
            ]

    -- the table and its words after a count was put
    pub put_sound : has_signal word ≡ put (has_signal (get_or sets place 0)) s (nat_lt 0 count)
        → (sum : ℕ) → sum ≡ total (put_count (counts_of table.counts) place s count)
        → total (put_count (counts_of table.counts) place s count) < 2 ^ 63
        → AreSound (record table { counts = set table.counts place (set (get_or table.counts place []) s count) }) (set sets place word) sum
    put_sound is sum so bound = record {
      masks = sound.masks;
      waits = sound.waits;
      is_open = sound.is_open;
      actions = sound.actions;
      places = length-set table.counts place (set (get_or table.counts place []) s count) ∙ sound.places;
      rows = rows_put;
      words = length-set sets place word ∙ sound.words;
      scope = λ t sig h. scope_put t sig (sym (ap (λ (c : ℕ → ℕ → ℕ). nat_lt 0 (c t sig)) changed) ∙ h);
      agree = λ t sig. agree_put is t sig ∙ sym (ap (λ (c : ℕ → ℕ → ℕ). nat_lt 0 (c t sig)) changed);
      sum = so ∙ sym (ap total changed);
      bound = let e = ap total changed in omega (arith, e, bound);
    }
      where
        rows_put : (t : ℕ) → t < 65 → length (get_or (set table.counts place (set (get_or table.counts place []) s count)) t []) ≡ 32
        rows_put t h =
            elim (cases_eq t place) [
              | inl same ↦
                  ap (λ u. length (get_or (set table.counts place (set (get_or table.counts place []) s count)) u [])) same
                  ∙ ap length (get_or-set_same table.counts place (set (get_or table.counts place []) s count) [] (let e = sound.places in omega (arith, e)))
                  ∙ length-set (get_or table.counts place []) s count
                  ∙ sound.rows place within
              | inr elsewhere ↦ ap length (get_or-set_other table.counts place t (set (get_or table.counts place []) s count) [] elsewhere) ∙ sound.rows t h
            ]
