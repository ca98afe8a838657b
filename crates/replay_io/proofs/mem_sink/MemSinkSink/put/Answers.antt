use Rattle.std.proofs.Common.{◌≡◌, ◌∙◌, ap, take, arith}
use Rattle.replay_io.specs.Store.{store_after}
use Rattle.replay_io.proofs.StoreLemmas.{whole_kept, front_kept}
use Rattle.replay_io.proofs.mem_sink.MemSinkSink.put.Goals as goal

pub returns-in-None-clause-writes : goal.returns-in-None-clause-writes
returns-in-None-clause-writes c =
    let stored = c.add.ensures ∙ ap (λ s. store_after s.store c.args.piece.now) c.self.view_is in
    let same = ap (λ s. s.faults) c.self.view_is in
    whole_kept c.args.self.now.store c.add.new.self c.args.self.now.faults _ c.args.piece.now stored same

pub returns-in-Some-clause-writes : goal.returns-in-Some-clause-writes
returns-in-Some-clause-writes c =
    let front = take c.min-count.result c.args.piece.now in
    let stored = c.add-in-Some.ensures ∙ ap (λ s. store_after s.store front) c.self.view_is in
    let same : c.self.inside.faults ≡ c.args.self.now.faults = ap (λ s. s.faults) c.self.view_is in
    front_kept
    c.args.self.now.store
    c.add-in-Some.new.self
    c.args.self.now.faults
    c.saturating_add-self-inside-in-Some.result
    c.min-count.result
    c.args.piece.now
    stored
    (omega arith)
    (omega arith)
