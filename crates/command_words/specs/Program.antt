-- The command of the word rules, as `clap` sees it.
use Rattle.std.specs.Prelude.{Bool, true, Some, List, codes, length, ◌==◌}
use Rattle.clap.specs.Words.{App, Row, Rule, Text, fault_of, matches_of, new_app, new_rule, with_rule}
use Rattle.clap.specs.Simple.{on_top}
use Rattle.clap.specs.declared.builder.action.ArgAction.TheVariants.{SetTrue}

-- an option `--name` with one text as its value
abbrev pub option_named : Text → Rule
option_named name = record (new_rule name) { long = Some name }

-- a flag `--name`
abbrev pub flag_named : Text → Rule
flag_named name = record (option_named name) { action = Some SetTrue }

-- a command whose words begin behind the program's own name
abbrev pub bare : App → App
bare = on_top (λ s. record s { no_binary_name = true })

-- two positional texts, four options and a flag; `--steps` is no flag of it, since the exit path is not made in steps yet
abbrev pub program : App
program = with_rule (with_rule (with_rule (with_rule (with_rule (with_rule (with_rule
    (bare (new_app (codes "fsu_replay")))
    (new_rule (codes "image"))) (new_rule (codes "journal")))
    (option_named (codes "budget"))) (option_named (codes "quantum"))) (option_named (codes "mem"))) (option_named (codes "gen")))
    (flag_named (codes "plain"))

-- the command takes the words
unfoldable pub is_taken : List Text → Bool
is_taken words = length (fault_of program words) == 0

-- the matches of the command at words that it takes
unfoldable pub rows_given : List Text → List Row
rows_given words = matches_of program words
