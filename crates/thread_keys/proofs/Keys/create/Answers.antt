use Rattle.std.proofs.Common.{◌≡◌, ◌∙◌, ◌<◌, ap, rules, arith, Some, None, length}
use Rattle.std.proofs.lemmas.Grind.{common_steps}
use Rattle.thread_base.specs.Maps.{put}
use Rattle.thread_keys.specs.KeyTable.{destructor_of, value_of, free_key}
use Rattle.thread_keys.proofs.KeyLemmas.{fresh_number, fresh_none, within_limit, full_numbers, destructor_put, values_made, value_made}
use Rattle.thread_keys.proofs.Keys.create.Goals as goal

pub returns-in_err-k-clause-full : goal.returns-in_err-k-clause-full
returns-in_err-k-clause-full c =
    let found : c.from_residual.result ≡ free_key (destructor_of c.args.self.now) = search rules in
    full_numbers (destructor_of c.args.self.now) c.from_residual.result found

pub index_mut-requires : goal.index_mut-requires
index_mut-requires c =
    let found : Some c.in_ok-k.k ≡ free_key (destructor_of c.args.self.now) = search rules in
    let limit : c.in_ok-k.k < 128 = within_limit (destructor_of c.args.self.now) c.in_ok-k.k found in
    first_of (omega (arith, c.self.invariant), search rules, grind (arith, common_steps))

pub returns : goal.returns
returns c =
    let keys = c.self.inside.keys.items in
    let k = c.in_ok-k.k in
    let map = destructor_of c.args.self.now in
    let found : Some k ≡ free_key map = search rules in
    let limit : k < 128 = within_limit map k found in
    let within : k < length keys = omega (arith, c.self.invariant, limit) in
    let gone : destructor_of keys k ≡ None = ap (λ v. destructor_of v k) c.self.view_is ∙ fresh_number map k found in
    record {
      number = search rules;
      fresh = fresh_none map k found;
      full = full_numbers map (Some k) found;
      destructors = destructor_put keys k c.new.result c.args.destructor within c.new.ensures.destructor
          ∙ ap (λ v. put (destructor_of v) k (Some c.args.destructor)) c.self.view_is;
      zero = λ t. value_made keys k c.new.result t within gone c.new.ensures.values;
      values = values_made keys k c.new.result within gone c.new.ensures.values ∙ ap value_of c.self.view_is;
    }
