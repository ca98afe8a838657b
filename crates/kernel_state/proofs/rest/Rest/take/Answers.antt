use Rattle.std.proofs.Common.{◌∙◌, ap, get_or}
use Rattle.kernel_state.proofs.NoteLemmas.{next_inside, next_first}
use Rattle.kernel_state.proofs.rest.Rest.take.Goals as goal

pub returns : goal.returns
returns c =
    let items = c.args.self.now.noted.items in
    let within = next_inside items c.args.self.now.next c.requires in
    next_first items c.args.self.now.next c.index-deref-self.result c.index-deref-self.result
    (c.index-deref-self.is ∙ ap (λ xs. get_or xs c.args.self.now.next c.index-deref-self.result) c.deref.ensures.0) within
