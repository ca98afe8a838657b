-- Sets of threads as words: one more thread, two sets in one, and the set of the threads that changed.
use Rattle.std.proofs.Common.{◌≡◌, ◌≢◌, ℕ, true, false, not, ◌||◌, ◌∙◌, ap, refl, ◌≤◌, ◌<◌, ◌+◌, ◌-◌, ◌*◌, ◌^◌, ◌%◌, eqb, arith, w64}
use Rattle.std.specs.Prelude.{bit_or}
use Rattle.std.proofs.lemmas.Bool.Decides.{nat_tests}
use Rattle.std.proofs.lemmas.Nat.Bits.{bit_at_set_same, bit_at_set_other, bit_at-zero, bit_at_or, bit_at-lt}
use Rattle.thread_base.specs.Numbers.{IsTid}
use Rattle.thread_base.specs.Maps.{put}
use Rattle.prio_inherit.specs.Priorities.{has_thread, IsChanged}

-- a thread more in a set
module _ (set index t : ℕ) (is : index + 1 ≡ t) (range : IsTid t) where
  has_it : has_thread (bit_or set (1 * 2 ^ index % 2 ^ 64)) t ≡ true
  has_it = let here = bit_at_set_same w64 set index (omega arith) in grind (arith, nat_tests)

  has_others : (u : ℕ) → IsTid u → u ≢ t → has_thread (bit_or set (1 * 2 ^ index % 2 ^ 64)) u ≡ has_thread set u
  has_others u within other = ap (λ b. eqb b 1) (bit_at_set_other w64 set index (omega arith) (u - 1) (omega arith))

  -- the set of the threads that changed, after one more did
  pub changed_more : (old cur : ℕ → ℕ) (p : ℕ) → IsChanged set old cur → old t ≢ p → IsChanged (bit_or set (1 * 2 ^ index % 2 ^ 64)) old (put cur t p)
  unfolding put
  changed_more old cur p changed differs = λ u within. (
      let it = has_it in
      let others = has_others u within in
      let was = changed u within in
      grind (arith, nat_tests))

-- nothing changed
pub changed_none : (old : ℕ → ℕ) → IsChanged 0 old old
changed_none old = λ t range. (let none = bit_at-zero (t - 1) in grind (arith, nat_tests))

has_either : (a b t : ℕ) → has_thread (bit_or a b) t ≡ (has_thread a t || has_thread b t)
has_either a b t =
    let both = bit_at_or a b (t - 1) in
    let low_a = bit_at-lt a (t - 1) in
    let low_b = bit_at-lt b (t - 1) in
    grind (arith, nat_tests)

-- what changed in two steps up
steps_up : (x y z : ℕ) → x ≤ y → y ≤ z → (not (eqb x y) || not (eqb y z)) ≡ not (eqb x z)
steps_up x y z up more = grind (arith, nat_tests)

pub changed_both : (a b : ℕ) (old mid new : ℕ → ℕ) → ((t : ℕ) → old t ≤ mid t) → ((t : ℕ) → mid t ≤ new t)
    → IsChanged a old mid → IsChanged b mid new → IsChanged (bit_or a b) old new
changed_both a b old mid new up more first second = λ t range.
    has_either a b t ∙ (λ i. first t range i || second t range i) ∙ steps_up (old t) (mid t) (new t) (up t) (more t)

-- the set of the changed threads up to a number
pub record IsChangedTo (n set : ℕ) (old new : ℕ → ℕ) : Type 0 where
  pub up_to : (t : ℕ) → IsTid t → t ≤ n → has_thread set t ≡ not (eqb (old t) (new t))
  pub behind : (t : ℕ) → IsTid t → n < t → has_thread set t ≡ false

pub changed_first : (old new : ℕ → ℕ) → IsChangedTo 0 0 old new
changed_first old new = record {
  up_to = λ t range le. absurd (omega arith);
  behind = λ t range lt. ap (λ b. eqb b 1) (bit_at-zero (t - 1));
}

pub changed_skip : (n set : ℕ) (old new : ℕ → ℕ) → IsChangedTo n set old new → old (n + 1) ≡ new (n + 1) → IsChangedTo (n + 1) set old new
changed_skip n set old new so same = record {
  up_to = λ t range le. (let was = so.up_to t range in let none = so.behind t range in grind (arith, nat_tests));
  behind = λ t range lt. so.behind t range (omega arith);
}

pub changed_add : (n set : ℕ) (old new : ℕ → ℕ) → n < 64 → IsChangedTo n set old new → old (n + 1) ≢ new (n + 1)
    → IsChangedTo (n + 1) (bit_or set (1 * 2 ^ n % 2 ^ 64)) old new
changed_add n set old new low so differs =
    let within : IsTid (n + 1) = (omega arith, omega arith) in
    let it = has_it set n (n + 1) refl within in
    record {
      up_to = λ t range le. (
          let others = has_others set n (n + 1) refl within t range in
          let was = so.up_to t range in
          grind (arith, nat_tests));
      behind = λ t range lt. has_others set n (n + 1) refl within t range (λ e. omega (arith, e)) ∙ so.behind t range (omega arith);
    }

pub changed_all : (n set : ℕ) (old new : ℕ → ℕ) → 64 ≤ n → IsChangedTo n set old new → IsChanged set old new
changed_all n set old new high so = λ t range. so.up_to t range (let le = range.1 in omega arith)

-- what the test of one thread says
pub apart : (a b : ℕ) → not (eqb a b) ≡ true → a ≢ b
apart a b h = grind (arith, nat_tests)

pub alike : (a b : ℕ) → not (eqb a b) ≡ false → a ≡ b
alike a b h = grind (arith, nat_tests)
