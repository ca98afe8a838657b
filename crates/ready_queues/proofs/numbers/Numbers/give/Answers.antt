use Rattle.std.proofs.Common.{arith}
use Rattle.ready_queues.proofs.RankLemmas.{numbered_more}
use Rattle.ready_queues.proofs.numbers.Numbers.give.Goals as goal

pub returns : goal.returns
returns c = λ order stands out all are.
    let kept = c.make_room.ensures.order order stands all are in
    rw (c.number.ensures.value) (numbered_more c.make_room.new.self.given c.make_room.new.self.next c.args.t order (omega (arith, c.number.ensures.range)) out kept)
