-- What the definition of accepted words says of words that are written out.
use Rattle.std.proofs.Common.{◌≡◌, refl, [], ◌∷◌, Some, None, codes}
use Rattle.clap.proofs.OnLiterals.{clap_on_literals}
use Rattle.command_words.specs.Program.{is_taken, rows_given}
use Rattle.command_words.specs.Accepted.{Origin, Settings, accepted, generated, named}
use Rattle.command_words.specs.declared.options.Mode.{Mode}
use Rattle.command_words.specs.declared.options.Mode.TheVariants.{Trace, Plain}

abbrev ab : Origin
ab = named (codes "a") (codes "b")

abbrev with_defaults : Origin → Mode → Settings
with_defaults source mode = record {
  source = source;
  budget = 1000000;
  quantum = 4;
  memory = 4194304;
  mode = mode;
}

-- accepted

two_names : accepted (codes "a" ∷ codes "b" ∷ []) ≡ Some (with_defaults ab Trace)
unfolding accepted is_taken rows_given clap_on_literals
two_names = refl

plain : accepted (codes "a" ∷ codes "--plain" ∷ codes "b" ∷ []) ≡ Some (with_defaults ab Plain)
unfolding accepted is_taken rows_given clap_on_literals
plain = refl

budget : accepted (codes "a" ∷ codes "b" ∷ codes "--budget" ∷ codes "5" ∷ []) ≡ Some (record (with_defaults ab Trace) { budget = 5 })
unfolding accepted is_taken rows_given clap_on_literals
budget = refl

attached_quantum : accepted (codes "a" ∷ codes "b" ∷ codes "--quantum=5" ∷ []) ≡ Some (record (with_defaults ab Trace) { quantum = 5 })
unfolding accepted is_taken rows_given clap_on_literals
attached_quantum = refl

memory : accepted (codes "--mem" ∷ codes "65536" ∷ codes "a" ∷ codes "b" ∷ []) ≡ Some (record (with_defaults ab Trace) { memory = 65536 })
unfolding accepted is_taken rows_given clap_on_literals
memory = refl

seed : accepted (codes "--gen" ∷ codes "7" ∷ []) ≡ Some (with_defaults (generated 7) Trace)
unfolding accepted is_taken rows_given clap_on_literals
seed = refl

all_after_the_mark : accepted (codes "--" ∷ codes "-x" ∷ codes "--plain" ∷ []) ≡ Some (with_defaults (named (codes "-x") (codes "--plain")) Trace)
unfolding accepted is_taken rows_given clap_on_literals
all_after_the_mark = refl

hyphen_alone : accepted (codes "-" ∷ codes "b" ∷ []) ≡ Some (with_defaults (named (codes "-") (codes "b")) Trace)
unfolding accepted is_taken rows_given clap_on_literals
hyphen_alone = refl

-- refused

no_words : accepted ([]) ≡ None
unfolding accepted is_taken rows_given clap_on_literals
no_words = refl

one_name : accepted (codes "a" ∷ []) ≡ None
unfolding accepted is_taken rows_given clap_on_literals
one_name = refl

three_names : accepted (codes "a" ∷ codes "b" ∷ codes "c" ∷ []) ≡ None
unfolding accepted is_taken rows_given clap_on_literals
three_names = refl

seed_and_name : accepted (codes "--gen" ∷ codes "7" ∷ codes "a" ∷ []) ≡ None
unfolding accepted is_taken rows_given clap_on_literals
seed_and_name = refl

seed_and_plain : accepted (codes "--gen" ∷ codes "7" ∷ codes "--plain" ∷ []) ≡ None
unfolding accepted is_taken rows_given clap_on_literals
seed_and_plain = refl

flag_twice : accepted (codes "a" ∷ codes "b" ∷ codes "--plain" ∷ codes "--plain" ∷ []) ≡ None
unfolding accepted is_taken rows_given clap_on_literals
flag_twice = refl

option_twice : accepted (codes "a" ∷ codes "b" ∷ codes "--budget" ∷ codes "5" ∷ codes "--budget" ∷ codes "5" ∷ []) ≡ None
unfolding accepted is_taken rows_given clap_on_literals
option_twice = refl

leading_zero : accepted (codes "a" ∷ codes "b" ∷ codes "--budget" ∷ codes "05" ∷ []) ≡ None
unfolding accepted is_taken rows_given clap_on_literals
leading_zero = refl

plus_sign : accepted (codes "a" ∷ codes "b" ∷ codes "--budget" ∷ codes "+5" ∷ []) ≡ None
unfolding accepted is_taken rows_given clap_on_literals
plus_sign = refl

minus_sign : accepted (codes "a" ∷ codes "b" ∷ codes "--budget" ∷ codes "-5" ∷ []) ≡ None
unfolding accepted is_taken rows_given clap_on_literals
minus_sign = refl

no_value : accepted (codes "a" ∷ codes "b" ∷ codes "--budget" ∷ []) ≡ None
unfolding accepted is_taken rows_given clap_on_literals
no_value = refl

empty_value : accepted (codes "a" ∷ codes "b" ∷ codes "--budget=" ∷ []) ≡ None
unfolding accepted is_taken rows_given clap_on_literals
empty_value = refl

value_of_a_flag : accepted (codes "a" ∷ codes "b" ∷ codes "--plain=true" ∷ []) ≡ None
unfolding accepted is_taken rows_given clap_on_literals
value_of_a_flag = refl

quantum_of_0 : accepted (codes "a" ∷ codes "b" ∷ codes "--quantum" ∷ codes "0" ∷ []) ≡ None
unfolding accepted is_taken rows_given clap_on_literals
quantum_of_0 = refl

part_of_a_page : accepted (codes "a" ∷ codes "b" ∷ codes "--mem" ∷ codes "65537" ∷ []) ≡ None
unfolding accepted is_taken rows_given clap_on_literals
part_of_a_page = refl

help : accepted (codes "--help" ∷ []) ≡ None
unfolding accepted is_taken rows_given clap_on_literals
help = refl

version : accepted (codes "a" ∷ codes "b" ∷ codes "--version" ∷ []) ≡ None
unfolding accepted is_taken rows_given clap_on_literals
version = refl

steps : accepted (codes "a" ∷ codes "b" ∷ codes "--steps" ∷ []) ≡ None
unfolding accepted is_taken rows_given clap_on_literals
steps = refl
