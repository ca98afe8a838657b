-- Why a replay fails, and what it answers (this project's own rule).
use Rattle.std.specs.Prelude.{ℕ, ◌≡◌, ◌⊎◌, List, true, false, Option, Some, None, IfSome}
use Rattle.elf_image.specs.Refusal.{first_refusal}
use Rattle.replay_io.specs.Writing.{Rose, WritesWhole, WritesFront}
use Rattle.replay_cli.specs.Words.{are_accepted, request, image_name, journal_name}
use Rattle.replay_cli.specs.Journal.{first_refused}
use Rattle.replay_cli.specs.Failures.{status_of, line_of}
use Rattle.replay_cli.specs.Headline.{loaded}
use Rattle.replay_cli.specs.declared.failure.Failure.{Failure}
use Rattle.replay_cli.specs.declared.failure.Failure.TheVariants.{Words, ImageFile, JournalFile, Image, Journal, Output, Memory}
use Rattle.replay_cli.specs.declared.failure.Status.{Status}

-- an image, where its content is told, is accepted for a memory of this size; a journal is accepted
abbrev pub IsImage : ℕ → Option (List ℕ) → Type 0
IsImage size content = IfSome content (λ image. first_refusal (loaded image) size ≡ None)

abbrev pub IsJournal : Option (List ℕ) → Type 0
IsJournal content = IfSome content (λ journal. first_refused (loaded journal) ≡ None)

-- the cause of a failure to read the words
abbrev pub WordsCause : List (List ℕ) → Failure → Type 0
WordsCause words Words = are_accepted words ≡ false
WordsCause words Memory = Unit {0}
WordsCause words failure = ⊥

-- the cause of a failure to load an image into a memory of this size: of a name with this content and these counts of faults
abbrev pub ImageCause : ℕ → Option (List ℕ) → ℕ → ℕ → Failure → Type 0
ImageCause size content before after ImageFile = Rose before after
ImageCause size content before after (Image refusal) = IfSome content (λ image. first_refusal (loaded image) size ≡ Some refusal)
ImageCause size content before after Memory = Unit {0}
ImageCause size content before after failure = ⊥

-- the cause of a failure to load a journal
abbrev pub JournalCause : Option (List ℕ) → ℕ → ℕ → Failure → Type 0
JournalCause content before after JournalFile = Rose before after
JournalCause content before after (Journal refusal) = IfSome content (λ journal. first_refused (loaded journal) ≡ Some refusal)
JournalCause content before after Memory = Unit {0}
JournalCause content before after failure = ⊥

-- the cause of a failure: the words, what the files tell under each name, the counts of faults of each name
-- before and after, and those of the output. Each failure comes where everything before it was accepted; but memory may
-- run out at any time, also while the words are read.
abbrev pub Cause : List (List ℕ) → (List ℕ → Option (List ℕ)) → (List ℕ → ℕ) → (List ℕ → ℕ) → ℕ → ℕ → Failure → Type 0
Cause words content before after out_before out_after Words = are_accepted words ≡ false
Cause words content before after out_before out_after ImageFile =
    (are_accepted words ≡ true) × Rose (before (image_name words)) (after (image_name words))
Cause words content before after out_before out_after (Image refusal) =
    (are_accepted words ≡ true) × IfSome (content (image_name words)) (λ image. first_refusal (loaded image) (request words).memory ≡ Some refusal)
Cause words content before after out_before out_after JournalFile =
    (are_accepted words ≡ true) × IsImage (request words).memory (content (image_name words)) × Rose (before (journal_name words)) (after (journal_name words))
Cause words content before after out_before out_after (Journal refusal) =
    (are_accepted words ≡ true) × IsImage (request words).memory (content (image_name words)) × IfSome (content (journal_name words)) (λ journal. first_refused (loaded journal) ≡ Some refusal)
Cause words content before after out_before out_after Output =
    (are_accepted words ≡ true) × IsImage (request words).memory (content (image_name words)) × IsJournal (content (journal_name words)) × Rose out_before out_after
Cause words content before after out_before out_after Memory = Unit {0}

-- what was tried to be written: all of it where nothing failed, and a front of it where the count of faults rose
abbrev pub Tells : Option (List ℕ) → Option (List ℕ) → ℕ → ℕ → List ℕ → Type 0
Tells before after faults_before faults_after text =
    WritesWhole before after faults_before faults_after text ⊎ WritesFront before after faults_before faults_after text

-- a failure has its cause, is told by its status, and by its line on the error sink, with the program's name
pub record Fails (program : List ℕ) (status : Status) (IsCause : Failure → Type 0) (before after : Option (List ℕ)) (faults_before faults_after : ℕ) : Type 0 where
  pub failure : Failure
  pub cause : IsCause failure
  pub status_tells : status ≡ status_of failure
  pub line_tells : Tells before after faults_before faults_after (line_of program failure)

-- words, image and journal are accepted, and no count of faults rose
pub record IsSmooth (words : List (List ℕ)) (content : List ℕ → Option (List ℕ)) (before after : List ℕ → ℕ) (out_before out_after : ℕ) : Type 0 where
  pub words_accepted : are_accepted words ≡ true
  pub image : List ℕ
  pub image_told : content (image_name words) ≡ Some image
  pub image_accepted : first_refusal (loaded image) (request words).memory ≡ None
  pub journal : List ℕ
  pub journal_told : content (journal_name words) ≡ Some journal
  pub journal_accepted : first_refused (loaded journal) ≡ None
  pub image_read : Rose (before (image_name words)) (after (image_name words)) → ⊥
  pub journal_read : Rose (before (journal_name words)) (after (journal_name words)) → ⊥
  pub out_written : Rose out_before out_after → ⊥
