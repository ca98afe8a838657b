use Rattle.std.proofs.Common.{◌∙◌, ap}
use Rattle.clap.specs.Words.{found_of, one_text}
use Rattle.clap.proofs.WalkLemmas.{one_text-rows}
use Rattle.command_words.specs.Accepted.{is_set}
use Rattle.command_words.proofs.ValueLemmas.{flag_is_set}
use Rattle.command_words.proofs.read.is_set.Goals as goal

pub returns : goal.returns
returns c =
    let value = flag_is_set _ (one_text (found_of c.args.matches.now) c.args.id.now) c.get_one.result c.get_one.ensures.none c.get_one.ensures.value in
    c.unwrap_or.ensures ∙ value ∙ ap is_set (one_text-rows (found_of c.args.matches.now) c.args.id.now)
