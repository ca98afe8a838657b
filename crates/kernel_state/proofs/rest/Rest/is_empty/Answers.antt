use Rattle.std.proofs.Common.{◌∙◌, ap, leb}
use Rattle.kernel_state.proofs.NoteLemmas.{past_nil}
use Rattle.kernel_state.proofs.rest.Rest.is_empty.Goals as goal

pub returns : goal.returns
returns c =
    ap (λ n. leb n c.args.self.now.next) c.len.ensures.value ∙ past_nil c.args.self.now.noted.items c.args.self.now.next
