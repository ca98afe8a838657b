use Rattle.kernel_state.specs.Begun.{arguments_of}
use Rattle.process_engine.proofs.SettingLemmas.{made_most}
use Rattle.process_engine.proofs.delivery_tests.make.Goals as goal

pub returns-in-Some-new-clause-most : goal.returns-in-Some-new-clause-most
returns-in-Some-new-clause-most g c =
    made_most g.R.Ready.order c.args.k.now c.begin_call.new.k c.finish-report.new.self.tables c.in-Some.t c.in-Some-new.number c.args.made (arguments_of c.args.call.1)
    c.begin_call.ensures c.finish-report.ensures.state c.requires.most
