use Rattle.ready_queues.proofs.ReadyLemmas.{no_order}
use Rattle.ready_queues.proofs.bitmap.BitmapReady.numbered_from.Goals as goal

pub returns : goal.returns
returns c = no_order c.starting_at.result.given c.in_ok-new.field-0 c.in_ok-new.ensures
