-- What a replay writes: the text of a run from the image, under the journal.
use Rattle.std.specs.Prelude.{ℕ, ◌≡◌, List, take, Option, None}
use Rattle.journal_text.specs.Refusals.{entries_of}
use Rattle.elf_image.specs.Layout.{IsStart, segments_of, e_entry}
use Rattle.elf_image.specs.Refusal.{first_refusal}
use Rattle.replay_io.specs.Writing.{Appended, AppendedFront}
use Rattle.posix_model.specs.Runs.{Rules, Moment}
use Rattle.posix_model.specs.Start as machine
use Rattle.posix_model.specs.declared.Settings.{Settings}
use Rattle.posix_model.specs.declared.Ending.{Ending}
use Rattle.trace_text.specs.Texts.{IsWholeIn}
use Rattle.replay_cli.specs.Words.{Request}

-- the bytes that a load gives of a content: one more than an image or a journal may have
-- (kept folded, since its number is large)
unfoldable pub loaded : List ℕ → List ℕ
loaded content = take 16777217 content

-- the rules of a run under a journal of these bytes: the settings, and the entries that the bytes spell
abbrev pub rules_under : Settings → List ℕ → Rules
rules_under settings journal = record { settings = settings; journal = entries_of journal }

-- a run at the start of the machine, over a memory of this size that holds an accepted image
pub record IsStartOf (size : ℕ) (image : List ℕ) (start : Moment) : Type 0 where
  pub accepted : first_refusal image size ≡ None
  pub memory : List ℕ
  pub holds : IsStart image (segments_of image) size memory
  pub begins : start ≡ machine.start memory (e_entry image)

-- the text of one whole run with this ending from an image, under a journal, as it is asked for, came after what was written before
pub record WritesRunOf (asked : Request) (ending : Ending) (image journal : List ℕ) (before after : Option (List ℕ)) : Type 0 where
  pub start : Moment
  pub of_image : IsStartOf asked.memory image start
  pub trace : List ℕ
  pub whole : IsWholeIn asked.mode (rules_under asked.settings journal) start ending trace
  pub told : Appended before after trace

-- a front of the text of one whole run from an image, under a journal, as it is asked for, came after what was written before
pub record WritesFrontOf (asked : Request) (image journal : List ℕ) (before after : Option (List ℕ)) : Type 0 where
  pub start : Moment
  pub of_image : IsStartOf asked.memory image start
  pub ending : Ending
  pub trace : List ℕ
  pub whole : IsWholeIn asked.mode (rules_under asked.settings journal) start ending trace
  pub told : AppendedFront before after trace
