-- The events of lines of the four forms.
use Rattle.std.proofs.Common.{◌≡◌, ℕ, ◌/◌, inl, inr, true, List, [], ◌++◌, length, drop, refl, ap, ◌∙◌, arith, codes, nat_eq}
use Rattle.std.proofs.lemmas.Bool.{and_parts, or_cases, eqb-true}
use Rattle.std.proofs.lemmas.Bool.Decides.{Decides-eqb}
use Rattle.std.proofs.lemmas.Slice.Eq.{starts_is}
use Rattle.std.proofs.lemmas.Grind.{common_steps}
use Rattle.std.specs.List.{starts_with}
use Rattle.journal_text.specs.declared.entry.What.TheVariants.{Sig, Tick, Data, Eof}
use Rattle.journal_text.specs.Lines.{number, is_digits, is_hex, hex_bytes, is_sig, is_tick, is_data, is_end, what_of, data_of}
use Rattle.journal_text.proofs.Parts.{is_event}

-- an event of one of the four forms, what it is and what bytes it brings
pub data IsForm (start : ℕ) (event : List ℕ) : Type 0 where
  tick : event ≡ codes "tick" → what_of start event ≡ Tick → data_of event ≡ [] → IsForm start event
  eof : event ≡ codes "eof" → what_of start event ≡ Eof → data_of event ≡ [] → IsForm start event
  sig : (ds : List ℕ) → event ≡ codes "sig " ++ ds → is_digits ds ≡ true
      → what_of start event ≡ Sig (number ds) → data_of event ≡ [] → IsForm start event
  bytes : (ds : List ℕ) → event ≡ codes "data " ++ ds → is_hex ds ≡ true
      → what_of start event ≡ Data start (length ds / 2) → data_of event ≡ hex_bytes ds → IsForm start event

-- what begins with a text
pub begins : (s p : List ℕ) → starts_with nat_eq s p ≡ true → s ≡ p ++ drop (length p) s
begins s p h = (starts_is Decides-eqb s p (starts_with nat_eq s p) refl).0 h

begins_whole : (s p : List ℕ) → starts_with nat_eq s p ≡ true → length s ≡ length p → s ≡ p
begins_whole s p h e = begins s p h ∙ grind (arith, common_steps)

is_form_of_tick : (start : ℕ) (event : List ℕ) → is_tick event ≡ true → IsForm start event
unfolding what_of data_of
is_form_of_tick start event h =
    let parts = and_parts (starts_with nat_eq event (codes "tick")) _ h in
    let e = begins_whole event (codes "tick") parts.0 (eqb-true _ _ parts.1) in
    tick e (ap (what_of start) e) (ap data_of e)

is_form_of_eof : (start : ℕ) (event : List ℕ) → is_end event ≡ true → IsForm start event
unfolding what_of data_of
is_form_of_eof start event h =
    let parts = and_parts (starts_with nat_eq event (codes "eof")) _ h in
    let e = begins_whole event (codes "eof") parts.0 (eqb-true _ _ parts.1) in
    eof e (ap (what_of start) e) (ap data_of e)

-- an event of a signal and of data
pub what_of-sig : (start : ℕ) (ds : List ℕ) → is_digits ds ≡ true
    → (what_of start (codes "sig " ++ ds) ≡ Sig (number ds)) × (data_of (codes "sig " ++ ds) ≡ [])
unfolding what_of data_of
what_of-sig start ds h = (rw h refl, refl)

pub what_of-data : (start : ℕ) (ds : List ℕ) → is_hex ds ≡ true
    → (what_of start (codes "data " ++ ds) ≡ Data start (length ds / 2)) × (data_of (codes "data " ++ ds) ≡ hex_bytes ds)
unfolding what_of data_of
what_of-data start ds h = (refl, rw h refl)

is_form_of_sig : (start : ℕ) (event : List ℕ) → is_sig event ≡ true → IsForm start event
is_form_of_sig start event h =
    let parts = and_parts (starts_with nat_eq event (codes "sig ")) _ h in
    let ds = drop 4 event in
    let e : event ≡ codes "sig " ++ ds = begins event (codes "sig ") parts.0 in
    let is = what_of-sig start ds parts.1 in
    sig ds e parts.1 (ap (what_of start) e ∙ is.0) (ap data_of e ∙ is.1)

is_form_of_data : (start : ℕ) (event : List ℕ) → is_data event ≡ true → IsForm start event
is_form_of_data start event h =
    let parts = and_parts (starts_with nat_eq event (codes "data ")) _ h in
    let ds = drop 5 event in
    let e : event ≡ codes "data " ++ ds = begins event (codes "data ") parts.0 in
    let is = what_of-data start ds parts.1 in
    bytes ds e parts.1 (ap (what_of start) e ∙ is.0) (ap data_of e ∙ is.1)

-- the one of the four forms
pub is_form_by : (start : ℕ) (event : List ℕ) → is_event event ≡ true → IsForm start event
is_form_by start event h =
    elim (or_cases (is_tick event) _ h) [
      | inl a ↦ is_form_of_tick start event a
      | inr h ↦ elim (or_cases (is_end event) _ h) [
        | inl b ↦ is_form_of_eof start event b
        | inr h ↦ elim (or_cases (is_sig event) _ h) [
          | inl c ↦ is_form_of_sig start event c
          | inr d ↦ is_form_of_data start event d
        ]
      ]
    ]
