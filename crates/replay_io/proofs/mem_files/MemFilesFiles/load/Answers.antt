use Rattle.std.proofs.Common.{◌≡◌, ◌≤◌, ◌∙◌, List, ℕ, ap, arith, subst, sym}
use Rattle.std.proofs.lemmas.Grind.{common_steps}
use Rattle.replay_io.specs.Loading.{is_failed}
use Rattle.replay_io.specs.Names.{times, failures_after}
use Rattle.replay_io.proofs.NamesLemmas.{times-after_other, times-after_later}
use Rattle.replay_io.proofs.mem_files.MemFilesFiles.load.Goals as goal

pub returns-clause-others : goal.returns-clause-others
returns-clause-others c = λ n h.
    let failed = is_failed c.if-contains.answer in
    let after : c.settle.new.self ≡ failures_after c.args.self.now.failed c.args.name.now failed =
    grind (arith, common_steps) in
    ap (times n) after ∙ times-after_other n c.args.name.now c.args.self.now.failed failed h

pub returns-clause-later : goal.returns-clause-later
returns-clause-later c =
    let failed = is_failed c.if-contains.answer in
    let after : c.settle.new.self ≡ failures_after c.args.self.now.failed c.args.name.now failed =
    grind (arith, common_steps) in
    let P = λ (names : List (List ℕ)). times c.args.name.now c.args.self.now.failed ≤ times c.args.name.now names in
    subst P (sym after) (times-after_later c.args.name.now c.args.self.now.failed failed)
