use Rattle.std.proofs.Common.{◌≡◌, ◌∙◌, ap, refl, ◌+◌, arith, ◌++◌, ◌∷◌, [], length}
use Rattle.std.proofs.lemmas.Grind.{common_steps}
use Rattle.std.proofs.lemmas.List.{length_push}
use Rattle.link_arena.specs.Rings.{kept_at}
use Rattle.link_arena.proofs.LinkLemmas.{each_more}
use Rattle.link_arena.proofs.rings.own_places.Goals as goal

pub loop-place-init : goal.loop-place-init
loop-place-init c = (ap length c.in-Ok.ensures.items, λ x low. absurd (omega arith))

pub loop-place-preserved : goal.loop-place-preserved
loop-place-preserved c =
    let pushed : c.push.new.self.items ≡ c.loop-place.places.items ++ c.loop-place.place ∷ [] = grind (arith, common_steps) in
    let more = each_more 0 (λ x. x) c.loop-place.places.items c.loop-place.place c.loop-place.place c.loop-place.invariant.0 refl c.loop-place.invariant.1 in
    (ap length pushed ∙ length_push c.loop-place.places.items c.loop-place.place ∙ ap (λ n. n + 1) c.loop-place.invariant.0, λ x low. ap (λ ns. kept_at ns x) pushed ∙ more x low)

pub returns-clause-count : goal.returns-clause-count
returns-clause-count c = omega (arith, c.loop-place.invariant.0)

pub returns-clause-own : goal.returns-clause-own
returns-clause-own c = λ x low. c.loop-place.invariant.1 x (omega (arith, c.loop-place.invariant.0))
