use Rattle.link_arena.proofs.ChangeLemmas.{new_keeps, new_shows}
use Rattle.link_arena.proofs.Links.new.Goals as goal

pub invariant_of-result : goal.invariant_of-result
invariant_of-result c = new_keeps _ _ _ _ _ c.requires.limits c.in_ok-new.ensures.counts c.in_ok-new.ensures.next c.in_ok-new.ensures.previous c.in_ok-new.ensures.homes

pub returns : goal.returns
returns c = new_shows _ _ _ _ _ c.requires.limits c.in_ok-new.ensures.counts c.in_ok-new.ensures.next c.in_ok-new.ensures.previous c.in_ok-new.ensures.homes
