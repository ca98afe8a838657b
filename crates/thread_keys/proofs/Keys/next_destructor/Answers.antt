use Rattle.std.proofs.Common.{◌≡◌, refl, rules, Some, None, IsNone}
use Rattle.thread_keys.specs.KeyTable.{destructor_of, value_of, due_key}
use Rattle.thread_keys.proofs.KeyLemmas.{due_exists, due_none}
use Rattle.thread_keys.proofs.Keys.next_destructor.Goals as goal

pub returns-in_err-k-clause-none : goal.returns-in_err-k-clause-none
returns-in_err-k-clause-none c =
    let found : None ≡ due_key (destructor_of c.args.self.now) (value_of c.args.self.now) c.args.t c.args.from = search rules in
    let none : IsNone c.from_residual.result = search rules in
    let both = due_none (destructor_of c.args.self.now) (value_of c.args.self.now) c.args.t c.args.from None found in
    (λ h. both.0 refl, λ h. none)

pub returns-in_err-destructor : goal.returns-in_err-destructor
returns-in_err-destructor c =
    let found : Some c.in_ok-k.k ≡ due_key (destructor_of c.args.self.now) (value_of c.args.self.now) c.args.t c.args.from = search rules in
    let gone : destructor_of c.args.self.now c.in_ok-k.k ≡ None = search rules in
    absurd (due_exists (destructor_of c.args.self.now) (value_of c.args.self.now) c.args.t c.args.from c.in_ok-k.k found gone)

pub returns-clause-none : goal.returns-clause-none
returns-clause-none c =
    let found : Some c.in_ok-k.k ≡ due_key (destructor_of c.args.self.now) (value_of c.args.self.now) c.args.t c.args.from = search rules in
    due_none (destructor_of c.args.self.now) (value_of c.args.self.now) c.args.t c.args.from (Some c.in_ok-k.k) found
