-- What is looked at of a journal's entries, one by one, and what holds of a journal that is accepted.
use Rattle.std.proofs.Common.{◌≡◌, ◌∙◌, ap, refl, subst, ℕ, zero, suc, ◌+◌, List, [], ◌∷◌, drop, Option, Some, None, Bool, true, false, arith}
use Rattle.std.specs.Prelude.{slice_get, if◌then◌else◌}
use Rattle.std.proofs.Math.Seq.{drop-cons}
use Rattle.std.proofs.lemmas.Bool.{cond-true, cond-false}
use Rattle.std.proofs.lemmas.Option.{get_or_from_slice_get, slice_get_within, same_Some}
use Rattle.journal_text.specs.declared.entry.Entry.{Entry}
use Rattle.journal_text.specs.declared.refusal.JournalRefusal.{JournalRefusal}
use Rattle.journal_text.specs.declared.refusal.JournalRefusal.TheVariants.{Line}
use Rattle.posix_model.proofs.JournalLemmas.{place_in}
use Rattle.dispatcher.specs.Arriving.{AreSignalsOrTicks, is_signal_or_tick}
use Rattle.replay_cli.specs.Journal.{first_unbuilt}

-- the entry of an index, and those after it
split_at : (es : List Entry) (i : ℕ) (e : Entry) → slice_get es i ≡ Some e → drop i es ≡ e ∷ drop (i + 1) es
split_at es i e here =
    drop-cons es i e (slice_get_within es i e here)
    ∙ ap (λ x. x ∷ drop (suc i) es) (get_or_from_slice_get es i e e here)
    ∙ ap (λ n. e ∷ drop n es) (let one : suc i ≡ i + 1 = omega arith in one)

-- a signal or a tick is passed over
pub passed : (es : List Entry) (i : ℕ) (e : Entry) → slice_get es i ≡ Some e → is_signal_or_tick e.what ≡ true
    → first_unbuilt (i + 2) (drop i es) ≡ first_unbuilt (i + 1 + 2) (drop (i + 1) es)
passed es i e here signal =
    ap (first_unbuilt (i + 2)) (split_at es i e here)
    ∙ cond-true (is_signal_or_tick e.what) (first_unbuilt (i + 2 + 1) (drop (i + 1) es)) (Some (Line (i + 2))) signal
    ∙ ap (λ n. first_unbuilt n (drop (i + 1) es)) (let next : i + 2 + 1 ≡ i + 1 + 2 = omega arith in next)

-- another entry is refused
pub stopped : (es : List Entry) (i : ℕ) (e : Entry) → slice_get es i ≡ Some e → is_signal_or_tick e.what ≡ false
    → first_unbuilt (i + 2) (drop i es) ≡ Some (Line (i + 2))
stopped es i e here other =
    ap (first_unbuilt (i + 2)) (split_at es i e here)
    ∙ cond-false (is_signal_or_tick e.what) (first_unbuilt (i + 2 + 1) (drop (i + 1) es)) (Some (Line (i + 2))) other

-- where an entry is passed over, it is a signal or a tick, and the refusal is one of those after it
passes : (b : Bool) (number : ℕ) (rest : Option JournalRefusal) → (if b then rest else Some (Line number)) ≡ None → (b ≡ true) × (rest ≡ None)
passes true number rest none = (refl, none)
passes false number rest none = absurd (cc)

each_passes : (es : List Entry) (number i : ℕ) (e : Entry) → first_unbuilt number es ≡ None → slice_get es i ≡ Some e → is_signal_or_tick e.what ≡ true
each_passes [] number i e none here = absurd (cc)
each_passes (x ∷ es) number zero e none here =
    subst (λ (y : Entry). is_signal_or_tick y.what ≡ true) (same_Some x e here) (passes (is_signal_or_tick x.what) number (first_unbuilt (number + 1) es) none).0
each_passes (x ∷ es) number (suc i) e none here =
    each_passes es (number + 1) i e (passes (is_signal_or_tick x.what) number (first_unbuilt (number + 1) es) none).1 here

-- all entries are signals and ticks where none is refused
pub all_pass : (number : ℕ) (es : List Entry) → first_unbuilt number es ≡ None → AreSignalsOrTicks es
all_pass number es none n e here =
    let at = place_in es n e here in
    each_passes es number at.0 e none at.2
