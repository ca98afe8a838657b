-- One write after another.
use Rattle.std.proofs.Common.{◌≡◌, ◌∙◌, ap, sym, subst, refl, ℕ, List, [], ◌++◌, append_assoc, append-nil, Option, ◌≤◌, Result, Ok, Err, true, false}
use Rattle.std.specs.Result.{IsErr}
use Rattle.replay_io.specs.Writing.{Writes, WritesWhole, WritesFront, Rose}

-- nothing was written
pub writes_nothing : (a : Option (List ℕ)) (f : ℕ) → WritesWhole a a f f []
writes_nothing a f = record { told = λ now is. (now, is, sym (append-nil now)); kept = refl }

-- a text and then another
pub whole_then_whole : (a b c : Option (List ℕ)) (f g h : ℕ) (x y all : List ℕ)
    → WritesWhole a b f g x → WritesWhole b c g h y → x ++ y ≡ all → WritesWhole a c f h all
whole_then_whole a b c f g h x y all p q e = record {
  told = λ now is.
      let second = q.told now is in
      let first = p.told second.0 second.1 in
      (first.0, first.1, second.2 ∙ ap (λ w. w ++ y) first.2 ∙ append_assoc first.0 x y ∙ ap (λ w. first.0 ++ w) e);
  kept = q.kept ∙ p.kept;
}

-- a text and then a front of another, with more after it that was never tried
pub whole_then_front : (a b c : Option (List ℕ)) (f g h : ℕ) (x y rest all : List ℕ)
    → WritesWhole a b f g x → WritesFront b c g h y → (x ++ y) ++ rest ≡ all → WritesFront a c f h all
whole_then_front a b c f g h x y rest all p q e = record {
  told = λ now is.
      let second = q.told now is in
      let first = p.told second.0 second.3 in (
        first.0,
        x ++ second.1,
        second.2 ++ rest,
        first.1,
        second.4 ∙ ap (λ w. w ++ second.1) first.2 ∙ append_assoc first.0 x second.1,
        append_assoc x second.1 (second.2 ++ rest)
            ∙ ap (λ w. x ++ w) (sym (append_assoc second.1 second.2 rest) ∙ ap (λ w. w ++ rest) second.5)
            ∙ sym (append_assoc x y rest)
            ∙ e,
      );
  later = let k : g ≡ f = p.kept in subst (λ n. n ≤ h) k q.later;
  rose = let k : g ≡ f = p.kept in subst (λ n. Rose n h) k q.rose;
}

-- a front of a text is a front of a longer one
pub front_of_more : (a b : Option (List ℕ)) (f g : ℕ) (x rest all : List ℕ)
    → WritesFront a b f g x → x ++ rest ≡ all → WritesFront a b f g all
front_of_more a b f g x rest all p e = record {
  told = λ now is.
      let t = p.told now is in
      (t.0, t.1, t.2 ++ rest, t.3, t.4, sym (append_assoc t.1 t.2 rest) ∙ ap (λ w. w ++ rest) t.5 ∙ e);
  later = p.later;
  rose = p.rose;
}

-- what an error tells at the exit of a `?`
pub writes_err : {T E : Type 0} (r : Result T E) (a b : Option (List ℕ)) (f g : ℕ) (x : List ℕ)
    → IsErr r → WritesFront a b f g x → Writes r a b f g x
writes_err (Ok u) a b f g x h p = absurd (let e : false ≡ true = h in cc)
writes_err (Err e) a b f g x h p = p

-- what stands after an error, whatever the type of the value
pub front_of_err : {T E : Type 0} (r : Result T E) (a b : Option (List ℕ)) (f g : ℕ) (x : List ℕ)
    → IsErr r → Writes r a b f g x → WritesFront a b f g x
front_of_err (Ok u) a b f g x h p = absurd (let e : false ≡ true = h in cc)
front_of_err (Err e) a b f g x h p = p

-- a text was written whole, and with what is left it makes all
pub record SoFar (before after : Option (List ℕ)) (f g : ℕ) (left all : List ℕ) : Type 0 where
  pub text : List ℕ
  pub written : WritesWhole before after f g text
  pub complete : text ++ left ≡ all

pub none_yet : (a : Option (List ℕ)) (f : ℕ) (left all : List ℕ) → left ≡ all → SoFar a a f f left all
none_yet a f left all e = record { text = []; written = writes_nothing a f; complete = e }

pub one_more : (a b c : Option (List ℕ)) (f g h : ℕ) (y left left' all : List ℕ)
    → SoFar a b f g left all → WritesWhole b c g h y → left ≡ y ++ left' → SoFar a c f h left' all
one_more a b c f g h y left left' all s w e = record {
  text = s.text ++ y;
  written = whole_then_whole a b c f g h s.text y (s.text ++ y) s.written w refl;
  complete = append_assoc s.text y left' ∙ ap (λ z. s.text ++ z) (sym e) ∙ s.complete;
}

pub one_fails : (a b c : Option (List ℕ)) (f g h : ℕ) (y left left' all : List ℕ)
    → SoFar a b f g left all → WritesFront b c g h y → left ≡ y ++ left' → WritesFront a c f h all
one_fails a b c f g h y left left' all s w e =
    whole_then_front a b c f g h s.text y left' all s.written w (append_assoc s.text y left' ∙ ap (λ z. s.text ++ z) (sym e) ∙ s.complete)

pub all_written : (a b : Option (List ℕ)) (f g : ℕ) (left all : List ℕ) → SoFar a b f g left all → left ≡ [] → WritesWhole a b f g all
all_written a b f g left all s e =
    subst (WritesWhole a b f g) (sym (append-nil s.text) ∙ ap (λ z. s.text ++ z) (sym e) ∙ s.complete) s.written
