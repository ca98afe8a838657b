use Rattle.std.proofs.Common.{rules, arith, ◌∙◌, ◌∷◌, ◌++◌, [], ap, ap₂, sym, map}
use Rattle.std.proofs.lemmas.List.{map_push, take_more}
use Rattle.command_words.proofs.parse.list.Goals as goal

pub loop-i-preserved : goal.loop-i-preserved
loop-i-preserved c =
    ap (map (λ s. s.now)) (search rules) ∙ map_push (λ s. s.now) c.loop-i.texts.items c.word.result
    ∙ ap₂ (λ xs x. xs ++ x ∷ []) c.loop-i.invariant c.word.ensures ∙ sym (take_more c.args.words.now c.loop-i.i [] (omega arith))
