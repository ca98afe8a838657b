use Rattle.std.proofs.Common.{rules}
use Rattle.command_words.proofs.ProgramLemmas.{refused, rows_are, taken}
use Rattle.command_words.proofs.parse.parse.Goals as goal

pub returns-in-Ok-try_get_matches_from-clause-taken : goal.returns-in-Ok-try_get_matches_from-clause-taken
returns-in-Ok-try_get_matches_from-clause-taken c = taken _ _ c.in-Ok.ensures c.in-Ok-try_get_matches_from.ensures.kinds

pub returns-in-Ok-try_get_matches_from-clause-rows : goal.returns-in-Ok-try_get_matches_from-clause-rows
returns-in-Ok-try_get_matches_from-clause-rows c = rows_are _ _ c.in-Ok-try_get_matches_from.matches c.in-Ok.ensures c.in-Ok-try_get_matches_from.ensures.matches

pub returns : goal.returns
returns c = record {
  taken = refused _ _ c.in-Err.error c.in-Ok.ensures c.in-Err.ensures.kinds (search rules);
  rows = tt;
}
