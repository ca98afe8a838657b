-- The command of the word rules is a simple one, and how it grows.
use Rattle.std.proofs.Common.{◌≡◌, ◌∙◌, ◌==◌, ap, ap₂, refl, sym, subst, arith, ne_eqb, true, false, inl, inr, List, [], ◌∷◌, length}
use Rattle.clap.specs.Words.{AddsArg, App, HasKind, HasMatchesOf, IsAmong, Kinds, Rule, Text, app_of}
use Rattle.clap.specs.Words.{fault_of, found_of, is_simple, is_simple_and_free, kind_of, matches_of, rows_of, rule_of, with_rule}
use Rattle.clap.specs.Simple.{app_of_fields}
use Rattle.clap.specs.declared.builder.arg.Arg.{Arg}
use Rattle.clap.specs.declared.builder.command.Command.{Command}
use Rattle.clap.specs.declared.builder.command.Command.TheViews.{out-Command as fields_of}
use Rattle.clap.specs.declared.parser.matches.ArgMatches.{ArgMatches}
use Rattle.clap.specs.declared.error.Error.{Error}
use Rattle.clap.specs.declared.error.kind.ErrorKind.{ErrorKind}
use Rattle.clap.specs.declared.error.kind.ErrorKind.TheVariants as kind
use Rattle.clap.proofs.OnLiterals.{clap_on_literals}
use Rattle.command_words.specs.Program.{bare, is_taken, program, rows_given}

-- one argument more is one rule more
pub adds : (old new : Command) (a : Arg) (app : App) (r : Rule) → AddsArg old a new → a.global ≡ false → app_of old ≡ app → rule_of a ≡ r → app_of new ≡ with_rule app r
adds old new a app r added local is rule = added.shape local ∙ ap₂ with_rule is rule

-- a command whose words begin behind the program's own name
pub bares : (old new : Command) (app : App) → fields_of new ≡ record (fields_of old) { no_binary_name = true } → app_of old ≡ app → app_of new ≡ bare app
bares old new app is was = ap app_of_fields is ∙ ap bare was

-- `clap` states all of the command of the word rules
pub program_is_simple : is_simple program ≡ true
unfolding clap_on_literals
program_is_simple = refl

pub program_is_free : is_simple_and_free program ≡ true
unfolding clap_on_literals
program_is_free = refl

-- the command takes the words where no kind of error is left
pub taken : (a : App) (words : List Text) → a ≡ program → (is_simple_and_free a ≡ true → fault_of a words ≡ []) → true ≡ is_taken words
unfolding is_taken
taken a words is free =
    let none : fault_of program words ≡ [] = subst (λ x. fault_of x words ≡ []) is (free (ap is_simple_and_free is ∙ program_is_free)) in
    ap (λ (ks : Kinds). length ks == 0) (sym none)

-- and has the matches that `clap` states
pub rows_are : (a : App) (words : List Text) (m : ArgMatches) → a ≡ program → HasMatchesOf a words m → rows_of (found_of m) ≡ rows_given words
unfolding rows_given
rows_are a words m is has = (has (ap is_simple is ∙ program_is_simple)).0 ∙ ap (λ x. matches_of x words) is

-- an error for another cause than memory comes of a kind
some_kind : (k : ErrorKind) (kinds : Kinds) → IsAmong k kinds → false ≡ (length kinds == 0)
some_kind k [] h = absurd h
some_kind k (x ∷ xs) h = sym (ne_eqb _ _ (λ e. omega (arith, e)))

pub refused : (a : App) (words : List Text) (e : Error) → a ≡ program → (is_simple_and_free a ≡ true → HasKind (fault_of a words) e) → (kind_of e ≡ kind.OutOfMemory → ⊥)
    → false ≡ is_taken words
unfolding is_taken
refused a words e is free other =
    elim (subst (λ x. HasKind (fault_of x words) e) is (free (ap is_simple_and_free is ∙ program_is_free))) [
      | inl memory ↦ absurd (other memory)
      | inr among ↦ some_kind (kind_of e) (fault_of program words) among
    ]
