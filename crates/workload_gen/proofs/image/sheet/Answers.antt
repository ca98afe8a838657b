-- The file is the sheet's bytes: so many, and such an image.
use Rattle.std.proofs.Common.{ℕ, List, length, sym, ap, subst, arith}
use Rattle.workload_gen.specs.Sheet.{IsImageEverywhere}
use Rattle.workload_gen.proofs.SheetLemmas.{length-sheet, sheet-image}
use Rattle.workload_gen.proofs.image.sheet.Goals as goal

pub returns-in-Ok-clause-len : goal.returns-in-Ok-clause-len
returns-in-Ok-clause-len c = omega (arith, ap length c.in-Ok.ensures, length-sheet c.args.code.now)

pub returns-in-Ok-clause-image : goal.returns-in-Ok-clause-image
returns-in-Ok-clause-image c =
    subst (λ (bytes : List ℕ). IsImageEverywhere c.args.code.now bytes)
    (sym c.in-Ok.ensures)
    (sheet-image c.args.code.now c.requires (λ k. omega (arith, c.type_inv.code k)))
