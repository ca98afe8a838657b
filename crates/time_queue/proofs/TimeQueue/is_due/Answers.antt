use Rattle.std.proofs.Common.{sym, subst, arith}
use Rattle.std.specs.Option.{SomeIff}
use Rattle.thread_base.specs.Numbers.{IsTid}
use Rattle.time_queue.proofs.Searches.{never_comes}
use Rattle.time_queue.proofs.TimeQueue.is_due.Goals as goal

pub returns-in-None : goal.returns-in-None
returns-in-None c =
    sym (never_comes c.args.now c.args.self.now c.args.number (omega arith) (subst (λ o. SomeIff o (IsTid c.args.number) c.args.number) c.in-None.is c.new.ensures))
