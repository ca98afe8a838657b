-- The words that are accepted, and the run that they ask for (this project's own rule).
use Rattle.std.specs.Prelude.{ℕ, List, [], Bool, Option, Some, None, is_some, option_and_then}
use Rattle.std.specs.Option.{unwrap_or}
use Rattle.posix_model.specs.declared.Settings.{Settings}
use Rattle.command_words.specs.Accepted.{Origin, named, generated, Settings as Options, accepted}
use Rattle.command_words.specs.declared.options.Mode.{Mode as AskedMode}
use Rattle.command_words.specs.declared.options.Mode.TheVariants.{Trace as AsksTrace, Plain as AsksPlain}
use Rattle.trace_text.specs.declared.Mode.{Mode}
use Rattle.trace_text.specs.declared.Mode.TheVariants.{Trace, Plain}

-- a run that is asked for: the names of the image and of the journal, budget and quantum, the size of memory, and what
-- is written of it
pub record Request : Type 0 where
  pub image : List ℕ
  pub journal : List ℕ
  pub settings : Settings
  pub memory : ℕ
  pub mode : Mode

-- what is written of a run, by the options
abbrev pub mode_by : AskedMode → Mode
mode_by AsksTrace = Trace
mode_by AsksPlain = Plain

-- a run of two names; generated pairs are not built yet
abbrev pub built : Origin → AskedMode → Settings → ℕ → Option Request
built (named image journal) mode settings memory =
    Some (record { image = image; journal = journal; settings = settings; memory = memory; mode = mode_by mode })
built (generated seed) mode settings memory = None

-- the run that options ask for
abbrev pub request_in : Options → Option Request
request_in o = built o.source o.mode (record { budget = o.budget; quantum = o.quantum }) o.memory

-- the run that the words ask for; none exactly where they are refused
unfoldable pub asked : List (List ℕ) → Option Request
asked words = option_and_then request_in (accepted words)

-- the words are accepted
abbrev pub are_accepted : List (List ℕ) → Bool
are_accepted words = is_some (asked words)

-- no names, and no instructions
abbrev pub no_request : Request
no_request = record { image = []; journal = []; settings = record { budget = 0; quantum = 0 }; memory = 0; mode = Trace }

-- what accepted words ask for
abbrev pub request : List (List ℕ) → Request
request words = unwrap_or (asked words) no_request

-- the names of the image and of the journal
abbrev pub image_name : List (List ℕ) → List ℕ
image_name words = (request words).image

abbrev pub journal_name : List (List ℕ) → List ℕ
journal_name words = (request words).journal
