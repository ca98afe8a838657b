use Rattle.std.proofs.Common.{rules, ◌∙◌}
use Rattle.command_words.proofs.ValueLemmas.{parsed_number}
use Rattle.command_words.proofs.value.number.Goals as goal

pub returns : goal.returns
returns c = c.ok.ensures.value ∙ parsed_number c.args.text.now c.parse.result (search rules) c.parse.ensures.value.0
