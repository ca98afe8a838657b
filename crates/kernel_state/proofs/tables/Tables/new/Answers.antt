use Rattle.std.proofs.Common.{◌∙◌, ap, refl, [], ◌∷◌, ◌++◌, None}
use Rattle.thread_base.specs.Maps.{put}
use Rattle.kernel_state.specs.Records.{first_threads}
use Rattle.kernel_state.proofs.StartLemmas.{view_start, start_current}
use Rattle.kernel_state.proofs.CurrentLemmas.{moved_current}
use Rattle.kernel_state.proofs.tables.Tables.new.Goals as goal

pub returns-clause-start : goal.returns-clause-start
returns-clause-start g c =
    let records = c.in_ok-records.ensures in
    view_start g.R.Ready.order
    (record { records = c.in_ok-records.records; ready = c.append.new.self; mutexes = c.in_ok-mutexes.mutexes; conditions = c.in_ok-conditions.conditions; ticks = 0; alarm = None; memory = c.args.memory; over = None; report = c.nothing.result })
    c.args.memory c.args.entry.0
    (records.threads ∙ ap first_threads c.first_regs.ensures) records.pending records.actions
    (c.append.ensures.order ∙ (λ i. c.requires i ++ c.at.ensures i ∷ []))
    c.in_ok-mutexes.ensures c.in_ok-conditions.ensures refl refl refl refl

pub returns-clause-current : goal.returns-clause-current
returns-clause-current g c =
    moved_current _ _ _ _
    (c.append.ensures.prio ∙ (λ i. put (g.R.Ready.prio c.args.ready) (c.at.ensures i) (c.first_priority.ensures i)))
    (returns-clause-start g c)
    (start_current (g.R.Ready.prio c.args.ready) c.args.memory c.args.entry.0)
