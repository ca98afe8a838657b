use Rattle.thread_signals.proofs.WordLemmas.{lowest_found}
use Rattle.thread_signals.proofs.words.lowest.Goals as goal

pub returns : goal.returns
returns c = lowest_found c.args.set c.ranges.set.fits c.requires c.new.result c.new.ensures
