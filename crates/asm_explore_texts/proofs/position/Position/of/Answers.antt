use Rattle.std.proofs.Common.{◌+◌, length, ap, ◌∙◌}
use Rattle.asm_explore_texts.specs.Positions.{characters}
use Rattle.asm_explore_texts.proofs.CharactersOfUtf8.{characters_of_text}
use Rattle.asm_explore_texts.proofs.position.Position.of.Goals as goal

pub returns-clause-text : goal.returns-clause-text
returns-clause-text c = λ u.
    ap (λ n. n + 1) (c.count_of.ensures.value ∙ ap (λ bs. length (characters bs)) c.with-line.ensures.before ∙ ap length (characters_of_text _ u))
