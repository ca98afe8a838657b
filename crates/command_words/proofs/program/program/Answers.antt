use Rattle.std.proofs.Common.{codes, rules}
use Rattle.std.proofs.lemmas.Result.{IfOk-weaker}
use Rattle.clap.specs.Words.{new_app, new_rule}
use Rattle.command_words.specs.Program.{flag_named, option_named}
use Rattle.command_words.proofs.ProgramLemmas.{adds, bares}
use Rattle.command_words.proofs.program.program.Goals as goal

pub returns : goal.returns
returns c =
    let start = bares c.new.result c.no_binary_name-start.result (new_app (codes "fsu_replay")) (search rules) (search rules) in
    let image = adds c.no_binary_name-start.result c.in_ok-image.image c.new-2.result _ (new_rule (codes "image")) c.in_ok-image.ensures (search rules) start (search rules) in
    let journal = adds _ c.in_ok-journal.journal c.new-3.result _ (new_rule (codes "journal")) c.in_ok-journal.ensures (search rules) image (search rules) in
    let budget = adds _ c.in_ok-budget.budget c.option.result _ (option_named (codes "budget")) c.in_ok-budget.ensures (search rules) journal (search rules) in
    let quantum = adds _ c.in_ok-quantum.quantum c.option-2.result _ (option_named (codes "quantum")) c.in_ok-quantum.ensures (search rules) budget (search rules) in
    let memory = adds _ c.in_ok-memory.memory c.option-3.result _ (option_named (codes "mem")) c.in_ok-memory.ensures (search rules) quantum (search rules) in
    let seed = adds _ c.in_ok-seed.seed c.option-4.result _ (option_named (codes "gen")) c.in_ok-seed.ensures (search rules) memory (search rules) in
    IfOk-weaker c.arg-7.result _ _ (λ x h. adds c.in_ok-seed.seed x c.flag.result _ (flag_named (codes "plain")) h (search rules) seed (search rules)) c.arg-7.ensures
