use Rattle.std.proofs.Common.{refl, ◌≡◌, [], ◌∷◌, Some, None, arith}
use Rattle.thread_base.specs.Deliveries.{signals}
use Rattle.thread_base.specs.Maps.{put}
use Rattle.thread_base.specs.Priority.{tids, leads, effective}
use Rattle.journal_text.specs.declared.entry.What.TheVariants.{Sig, Tick}
use Rattle.posix_model.specs.Deliveries.{Gives, next_delivery}
use Rattle.posix_model.specs.JournalExamples.{five_entries, with_delivery, entry_with}
use Rattle.posix_model.specs.Scheduling.{eff, chosen}
use Rattle.run_laws.specs.Course.{AreApart}
use Rattle.run_laws.specs.CourseExamples.{between}
use Rattle.run_laws.proofs.course_examples.not_calm.Goals as goal

-- entries 1 and 2 come after 5 instructions
two_at_once : AreApart five_entries.journal.entries → ⊥
two_at_once apart = let same : 1 ≡ 2 = apart 1 2 (entry_with 5 (Sig 10)) (entry_with 5 Tick) refl refl refl in omega (arith, same)

-- and so they do where their places differ
two_between : AreApart (entry_with 5 (Sig 10) ∷ between ∷ []) → ⊥
two_between apart = let same : 1 ≡ 2 = apart 1 2 (entry_with 5 (Sig 10)) between refl refl refl in omega (arith, same)

-- a signal is delivered first
one_is_given : next_delivery with_delivery ≡ None → ⊥
unfolding put tids leads effective signals eff chosen next_delivery
one_is_given settled = let e : Some (Gives 1 12 0) ≡ None = settled in cc

pub returns : goal.returns
returns c = (two_at_once, two_between, one_is_given)
