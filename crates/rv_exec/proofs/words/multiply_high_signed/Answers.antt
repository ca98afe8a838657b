use Rattle.std.proofs.Common.{◌≡◌, ◌∙◌, rules, ap}
use Rattle.std.proofs.lemmas.Int.{to_z-of_z}
use Rattle.std.specs.Int.{w32, w64, int_shr}
use Rattle.std.specs.Prelude.{FitsSigned, ◌*ℤ◌}
use Rattle.rv_exec.specs.Words.{signed, word}
use Rattle.rv_exec.proofs.words.multiply_high_signed.Goals as goal

pub returns : goal.returns
returns c =
    let x = c.cast_signed.result in
    let y = c.cast_signed-2.result in
    let p = c.from.result in
    let q = c.from-2.result in
    let fx : FitsSigned w32 x = search rules in
    let fy : FitsSigned w32 y = search rules in
    let ex : p ≡ signed c.args.a = c.from.ensures ∙ (to_z-of_z w32 x fx ∙ c.cast_signed.ensures) in
    let ey : q ≡ signed c.args.b = c.from-2.ensures ∙ (to_z-of_z w32 y fy ∙ c.cast_signed-2.ensures) in
    let fp : FitsSigned w64 p = search rules in
    let fq : FitsSigned w64 q = search rules in
    let fm : FitsSigned w64 (p *ℤ q) = search rules in
    let fs : FitsSigned w64 (int_shr (p *ℤ q) 32) = search rules in
    let ft : FitsSigned w32 (int_shr (p *ℤ q) 32) = search rules in
    let h = simp to_z-of_z at c.cast_unsigned.ensures in
    h ∙ (ap (λ v. word (int_shr (v *ℤ q) 32)) ex ∙ ap (λ v. word (int_shr (signed c.args.a *ℤ v) 32)) ey)
