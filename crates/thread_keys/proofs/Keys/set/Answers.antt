use Rattle.std.proofs.Common.{◌≡◌, ◌∙◌, ◌<◌, sym, ap, rules, arith, Some, None, length, get_or}
use Rattle.std.proofs.lemmas.Grind.{common_steps}
use Rattle.std.proofs.lemmas.List.{get_or_default}
use Rattle.thread_keys.specs.KeyTable.{value_of, put_value}
use Rattle.thread_keys.proofs.KeyLemmas.{value_changed}
use Rattle.thread_keys.proofs.Keys.set.Goals as goal

pub returns-clause-values : goal.returns-clause-values
returns-clause-values c =
    let keys = c.self.inside.keys.items in
    let within : c.args.k < length keys = first_of (search rules, grind (arith, common_steps)) in
    let there : get_or keys c.args.k c.in-Some.slot.now ≡ Some c.in-Some-slot.key = sym c.in-Some.ensures.value ∙ c.in-Some-slot.is in
    value_changed keys c.args.k c.args.t c.args.v c.in-Some-slot.key c.set.new.self within
    (get_or_default keys c.args.k None c.in-Some.slot.now within ∙ there) c.set.ensures.values
    ∙ ap (λ v. put_value (value_of v) c.args.t c.args.k c.args.v) c.self.view_is
