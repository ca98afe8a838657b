use Rattle.std.proofs.Common.{◌∙◌, ap, arith, ◌*◌, ◌^◌, ◌%◌, ◌<◌, bit_and, w32, refl, inl, inr}
use Rattle.std.specs.Int.{bit_at, bit_not}
use Rattle.std.proofs.lemmas.Bool.{cases_eq, eq-eqb, ne_eqb}
use Rattle.std.proofs.lemmas.Nat.Bits.{bit_at_clear_same, bit_at_clear_other}
use Rattle.ready_queues.proofs.levels.unmarked.Goals as goal

pub returns-then-is_empty : goal.returns-then-is_empty
returns-then-is_empty c = λ h low.
    let within : c.args.p < 32 = omega (arith, c.number.ensures.range) in
    ap (λ n. bit_at (bit_and c.args.bits (bit_not w32 (1 * 2 ^ n % 2 ^ 32))) h) c.number.ensures.value
    ∙ (elim (cases_eq h c.args.p) [
      | inl same ↦ ap (bit_at (bit_and c.args.bits (bit_not w32 (1 * 2 ^ c.args.p % 2 ^ 32)))) same ∙ bit_at_clear_same w32 c.args.bits c.args.p within ∙ (rw (c.if-is_empty.true, eq-eqb h c.args.p same) refl)
      | inr other ↦ bit_at_clear_other w32 c.args.bits c.args.p within h low other ∙ (rw (c.if-is_empty.true, ne_eqb h c.args.p other) refl)
    ])
