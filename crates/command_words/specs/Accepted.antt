-- The words that are accepted, and with which options.
use Rattle.std.specs.Prelude.{ℕ, ◌||◌, List, Bool, false, Option, Some, None, is_some, if◌then◌else◌, codes, option_and_then, option_map}
use Rattle.std.specs.String.{string_bytes}
use Rattle.std.specs.Str.{bytes_eq}
use Rattle.clap.specs.Words.{Row, Text, first_of, one_of}
use Rattle.command_words.specs.Values.{is_budget, is_memory, is_quantum, number, value_or}
use Rattle.command_words.specs.Program.{is_taken, rows_given}
use Rattle.command_words.specs.declared.options.Mode.{Mode}
use Rattle.command_words.specs.declared.options.Mode.TheVariants.{Trace, Plain}
use Rattle.command_words.specs.declared.options.Options.{Options}
use Rattle.command_words.specs.declared.options.Source.{Source}
use Rattle.command_words.specs.declared.options.Source.TheVariants.{Files, Seed}

-- what is run: the files of two names, or the pair that is generated from a seed
pub data Origin : Type 0 where
  named : Text → Text → Origin
  generated : ℕ → Origin

-- the options as plain values
pub record Settings : Type 0 where
  pub source : Origin
  pub budget : ℕ
  pub quantum : ℕ
  pub memory : ℕ
  pub mode : Mode

-- what a source runs
abbrev pub origin_of : Source → Origin
origin_of (Files image journal) = named (string_bytes image) (string_bytes journal)
origin_of (Seed seed) = generated seed

-- what options say, with the bytes of the names
abbrev pub settings_of : Options → Settings
settings_of o = record {
  source = origin_of o.source;
  budget = o.budget;
  quantum = o.quantum;
  memory = o.memory;
  mode = o.mode;
}

-- the two names, of which neither may miss
abbrev pub two_names : Option Text → Option Text → Option Origin
two_names None journal = None
two_names (Some image) journal = option_map (named image) journal

-- without a seed the two names; with one neither a name nor the flag `plain` may be given
abbrev pub origin : Option Text → Option Text → Option Text → Bool → Option Origin
origin image journal None is_plain = two_names image journal
origin image journal (Some seed) is_plain =
    if is_some image || (is_some journal || is_plain) then None else option_map generated (number seed)

-- the flag was given
abbrev pub is_set : Option Text → Bool
is_set None = false
is_set (Some text) = bytes_eq text (codes "true")

-- what is written, with the flag `plain` and without
abbrev pub mode_of : Bool → Mode
mode_of is_plain = if is_plain then Plain else Trace

-- the flag `plain` was given
abbrev pub is_plain_in : List Row → Bool
is_plain_in rows = is_set (one_of (codes "plain") rows)

-- the budget: its default, or the value of its option
abbrev pub budget_in : List Row → Option ℕ
budget_in rows = value_or 1000000 is_budget (first_of (codes "budget") rows)

-- the quantum, in the same way
abbrev pub quantum_in : List Row → Option ℕ
quantum_in rows = value_or 4 is_quantum (first_of (codes "quantum") rows)

-- the size of memory, in the same way
abbrev pub memory_in : List Row → Option ℕ
memory_in rows = value_or 4194304 is_memory (first_of (codes "mem") rows)

-- what is run, by the names, the seed and the flag
abbrev pub origin_in : List Row → Option Origin
origin_in rows = origin (first_of (codes "image") rows) (first_of (codes "journal") rows) (first_of (codes "gen") rows) (is_plain_in rows)

-- the options that the matches of the command give; none where a word rule refuses
abbrev pub settings_in : List Row → Option Settings
settings_in rows =
    option_and_then (λ budget. option_and_then (λ quantum. option_and_then (λ memory. option_map (λ source. record {
      source = source;
      budget = budget;
      quantum = quantum;
      memory = memory;
      mode = mode_of (is_plain_in rows);
    }) (origin_in rows)) (memory_in rows)) (quantum_in rows)) (budget_in rows)

-- the words are accepted with these options; none exactly where the word rules refuse them
unfoldable pub accepted : List Text → Option Settings
accepted words = if is_taken words then settings_in (rows_given words) else None
