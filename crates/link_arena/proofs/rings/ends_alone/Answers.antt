use Rattle.std.proofs.Common.{◌≡◌, ◌∙◌, ap, ◌+◌, arith, ◌++◌, ◌∷◌, [], None, length}
use Rattle.std.proofs.lemmas.Grind.{common_steps}
use Rattle.std.proofs.lemmas.List.{length_push}
use Rattle.link_arena.specs.Rings.{home_at, first_home}
use Rattle.link_arena.proofs.LinkLemmas.{each_more}
use Rattle.link_arena.proofs.rings.ends_alone.Goals as goal

pub loop-place-init : goal.loop-place-init
loop-place-init c = (ap length c.in-Ok.ensures.items, λ x low. absurd (omega arith))

pub loop-place-preserved : goal.loop-place-preserved
loop-place-preserved c =
    let pushed : c.push.new.self.items ≡ c.loop-place.homes.items ++ c.end_of.result ∷ [] = grind (arith, common_steps) in
    let more = each_more None (first_home c.args.nodes) c.loop-place.homes.items c.end_of.result c.loop-place.place c.loop-place.invariant.0 c.end_of.ensures c.loop-place.invariant.1 in
    (ap length pushed ∙ length_push c.loop-place.homes.items c.end_of.result ∙ ap (λ n. n + 1) c.loop-place.invariant.0, λ x low. ap (λ ns. home_at ns x) pushed ∙ more x low)

pub returns-clause-count : goal.returns-clause-count
returns-clause-count c = omega (arith, c.loop-place.invariant.0)

pub returns-clause-alone : goal.returns-clause-alone
returns-clause-alone c = λ x low. c.loop-place.invariant.1 x (omega (arith, c.loop-place.invariant.0))
