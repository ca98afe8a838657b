-- The lines of places, as they are built and written.
use Rattle.std.proofs.Common.{◌≡◌, ◌∙◌, ap, subst, ℕ, List, ◌++◌, append_assoc, Option, Some, None, IfSome}
use Rattle.replay_io.specs.Writing.{WritesWhole, WritesFront, Appended, AppendedFront}
use Rattle.posix_model.specs.Laws.{IsWholeRun}
use Rattle.posix_model.specs.Runs.{Rules, Moment, after}
use Rattle.posix_model.specs.declared.Ending.{Ending}
use Rattle.process_engine.specs.Whole.{RunsToEnd}
use Rattle.replay_cli.specs.Words.{Request}
use Rattle.replay_cli.specs.Headline.{loaded, rules_under, IsStartOf}
use Rattle.replay_cli.specs.Places.{places_text, TellsPlacesOf, TellsFrontOf}

-- a piece after a line, and then more
pub joined : (line a b mid new : List ℕ) → mid ≡ line ++ a → new ≡ mid ++ b → new ≡ line ++ (a ++ b)
joined line a b mid new e f = f ∙ ap (λ (x : List ℕ). x ++ b) e ∙ append_assoc line a b

-- the text of a whole run's end was written
pub tells_places : (asked : Request) (image journal : Option (List ℕ)) (rules : Rules) (start now : Moment) (ending : Ending) (a b : Option (List ℕ)) (f g : ℕ)
    → IfSome image (λ image. IsStartOf asked.memory (loaded image) start) → IfSome journal (λ journal. rules ≡ rules_under asked.settings (loaded journal)) → RunsToEnd rules start ending now
    → WritesWhole a b f g (places_text now ending) → IfSome image (λ image. IfSome journal (λ journal. TellsPlacesOf asked (loaded image) (loaded journal) a b))
tells_places asked None journal rules start now ending a b f g is same ran w = tt
tells_places asked (Some image) None rules start now ending a b f g is same ran w = tt
tells_places asked (Some image) (Some journal) rules start now ending a b f g is same ran w = record {
  start = start;
  of_image = is;
  moves = ran.moves;
  ending = ending;
  whole = subst (λ s. IsWholeRun s start ran.moves ending) same ran.whole;
  told = subst (λ s. Appended a b (places_text (after s start ran.moves) ending)) same (subst (λ m. Appended a b (places_text m ending)) ran.leads w.told);
}

-- a front of the text of a whole run's end was written
pub tells_front : (asked : Request) (image journal : Option (List ℕ)) (rules : Rules) (start now : Moment) (ending : Ending) (a b : Option (List ℕ)) (f g : ℕ)
    → IfSome image (λ image. IsStartOf asked.memory (loaded image) start) → IfSome journal (λ journal. rules ≡ rules_under asked.settings (loaded journal)) → RunsToEnd rules start ending now
    → WritesFront a b f g (places_text now ending) → IfSome image (λ image. IfSome journal (λ journal. TellsFrontOf asked (loaded image) (loaded journal) a b))
tells_front asked None journal rules start now ending a b f g is same ran w = tt
tells_front asked (Some image) None rules start now ending a b f g is same ran w = tt
tells_front asked (Some image) (Some journal) rules start now ending a b f g is same ran w = record {
  start = start;
  of_image = is;
  moves = ran.moves;
  ending = ending;
  whole = subst (λ s. IsWholeRun s start ran.moves ending) same ran.whole;
  told = subst (λ s. AppendedFront a b (places_text (after s start ran.moves) ending)) same (subst (λ m. AppendedFront a b (places_text m ending)) ran.leads w.told);
}
