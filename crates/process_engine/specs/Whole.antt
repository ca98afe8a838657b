-- A run that is made to its end.
use Rattle.std.specs.Prelude.{◌≡◌, List}
use Rattle.posix_model.specs.Laws.{IsWholeRun}
use Rattle.posix_model.specs.Runs.{Rules, Moment, after}
use Rattle.posix_model.specs.declared.Ending.{Ending}
use Rattle.posix_model.specs.declared.Move.{Move}

-- a whole run with this ending leads from a start to here
pub record RunsToEnd (rules : Rules) (start : Moment) (ending : Ending) (here : Moment) : Type 0 where
  pub moves : List Move
  pub whole : IsWholeRun rules start moves ending
  pub leads : here ≡ after rules start moves
