-- What a store tells after a piece.
use Rattle.std.proofs.Common.{◌≡◌, ◌∙◌, ℕ, List, ◌++◌, ◌+◌, ◌-◌, ◌^◌, ◌<◌, ◌≤◌, ◌==◌, Bool, true, false, cond}
use Rattle.std.proofs.Common.{length, take, drop, min, refl, sym, ap, subst, Some, None, arith}
use Rattle.std.proofs.lemmas.Bool.Decides.{nat_tests}
use Rattle.std.proofs.lemmas.List.{take_all, take-append-drop}
use Rattle.replay_io.specs.Store.{Store, told, store_after}
use Rattle.replay_io.specs.Writing.{Appended, WritesWhole, WritesFront}

told_by : (s : Store) (bytes : List ℕ) (b : Bool)
    → (s.lost == 0) ≡ b → cond b (Some s.bytes) None ≡ Some bytes → (s.lost ≡ 0) × (bytes ≡ s.bytes)
told_by s bytes true t e = (grind (arith, nat_tests), cc)
told_by s bytes false t e = absurd (cc)

-- a store tells its bytes only where none were lost
told_is : (s : Store) (bytes : List ℕ) → told s ≡ Some bytes → (s.lost ≡ 0) × (bytes ≡ s.bytes)
told_is s bytes e = told_by s bytes (s.lost == 0) refl e

-- and there it does
tells : (s : Store) → s.lost ≡ 0 → told s ≡ Some s.bytes
tells s e = ap (λ n. cond (n == 0) (Some s.bytes) None) e

-- where nothing is lost after a piece, nothing was before it, and the piece was kept whole
after_is : (s : Store) (piece : List ℕ)
    → (store_after s piece).lost ≡ 0 → (s.lost ≡ 0) × ((store_after s piece).bytes ≡ s.bytes ++ piece)
unfolding store_after
after_is s piece e =
    let fits : length piece ≤ s.room - length s.bytes = omega arith in
    (omega arith, ap (λ p. s.bytes ++ p) (take_all (s.room - length s.bytes) piece fits))

appended : (s : Store) (piece : List ℕ) → Appended (told s) (told (store_after s piece)) piece
appended s piece = λ now e.
    let a = told_is (store_after s piece) now e in
    let b = after_is s piece a.0 in
    (s.bytes, tells s b.0, a.1 ∙ b.1)

-- a piece that a store was given whole
pub whole_kept : (old new : Store) (f g : ℕ) (piece : List ℕ)
    → new ≡ store_after old piece → g ≡ f → WritesWhole (told old) (told new) f g piece
whole_kept old new f g piece e h = record {
  told = subst (λ s. Appended (told old) (told s) piece) (sym e) (appended old piece);
  kept = h;
}

-- a piece of which a store was given a front, before a failure was counted
pub front_kept : (old new : Store) (f g count : ℕ) (piece : List ℕ)
    → new ≡ store_after old (take count piece)
    → g ≡ min (f + 1) (2 ^ 64 - 1)
    → f < 2 ^ 64
    → WritesFront (told old) (told new) f g piece
front_kept old new f g count piece e h l = record {
  told = λ now is.
      let front = take count piece in
      let a = subst (λ s. Appended (told old) (told s) front) (sym e) (appended old front) now is in
      (a.0, front, drop count piece, a.1, a.2, take-append-drop count piece);
  later = omega arith;
  rose = omega arith;
}
