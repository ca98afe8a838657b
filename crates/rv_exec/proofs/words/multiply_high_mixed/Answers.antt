use Rattle.std.proofs.Common.{◌≡◌, ◌∙◌, ◌^◌, arith, rules, ap}
use Rattle.std.proofs.lemmas.Int.{ints, to_z-of_z, fits_signed_mul}
use Rattle.std.specs.Int.{w32, w64, int_shr}
use Rattle.std.specs.Prelude.{FitsSigned, ◌*ℤ◌, pos, ◌≤◌, ◌-◌}
use Rattle.std.specs.Int.RustNames.{unsigned_abs}
use Rattle.rv_exec.specs.Words.{signed, word}
use Rattle.rv_exec.proofs.words.multiply_high_mixed.Goals as goal

pub returns : goal.returns
returns c =
    let x = c.cast_signed.result in
    let p = c.from.result in
    let q = c.from-2.result in
    let fx : FitsSigned w32 x = search rules in
    let ex : p ≡ signed c.args.a = c.from.ensures ∙ (to_z-of_z w32 x fx ∙ c.cast_signed.ensures) in
    let ey : q ≡ pos c.args.b = omega (arith, ints) in
    let fp : FitsSigned w64 p = search rules in
    let fq : FitsSigned w64 q = search rules in
    let mp : unsigned_abs p ≤ 2 ^ 31 = omega (arith, ints) in
    let mq : unsigned_abs q ≤ 2 ^ 32 - 1 = omega (arith, ints) in
    let fm : FitsSigned w64 (p *ℤ q) = fits_signed_mul w64 p q (2 ^ 31) (2 ^ 32 - 1) mp mq (omega arith) in
    let fs : FitsSigned w64 (int_shr (p *ℤ q) 32) = search rules in
    let ft : FitsSigned w32 (int_shr (p *ℤ q) 32) = search rules in
    let h = simp to_z-of_z at c.cast_unsigned.ensures in
    h ∙ (ap (λ v. word (int_shr (v *ℤ q) 32)) ex ∙ ap (λ v. word (int_shr (signed c.args.a *ℤ v) 32)) ey)
