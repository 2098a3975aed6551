use Rattle.std.proofs.Common.{◌≡◌, ◌<◌, ◌-◌, ◌∷◌, length, take, drop, min, ap, sym, ◌∙◌, arith, rules, slice_get}
use Rattle.std.proofs.lemmas.Grind.{common_steps}
use Rattle.std.proofs.lemmas.List.{take_rest}
use Rattle.std.specs.Str.{chars}
use Rattle.asm_explore_texts.specs.Positions.{characters, first_character}
use Rattle.asm_explore_texts.proofs.Decoding.{characters_step, first_character-is}
use Rattle.asm_explore_texts.proofs.characters.CharactersIterator.next.Goals as goal

pub returns-clause-steps : goal.returns-clause-steps
returns-clause-steps c =
    let rest = c.args.self.now.rest.now in
    let chunk = c.in_ok-next.ensures.steps in
    let front : c.utf8_chunks.result.rest.now ≡ take (min (length rest) 4) rest = search rules in
    let some : 0 < length rest = grind (arith, common_steps, ap length front, chunk.1) in
    let text : c.chars.result.rest.now ≡ c.in_ok-next.field-0.valid.now = cc in
    let first : c.next-first.result ≡ first_character rest =
    c.next-first.ensures.steps.2 ∙ ap (λ l. slice_get (chars l) 0) text ∙ first_character-is rest _ _ _ front chunk.0 chunk.3.0 in
    let step = characters_step rest c.next-first.result c.map_or.result some first (search rules) in
    step ∙ ap (λ x. x ∷ characters (drop c.map_or.result rest)) (sym c.unwrap_or.ensures) ∙ ap (λ l. c.unwrap_or.result ∷ characters l) (sym (take_rest rest c.map_or.result))

pub returns-clause-goes : goal.returns-clause-goes
returns-clause-goes c =
    let step : characters c.args.self.now.rest.now ≡ c.unwrap_or.result ∷ characters (take (length c.args.self.now.rest.now - c.map_or.result) (drop c.map_or.result c.args.self.now.rest.now)) = returns-clause-steps c in
    record {
      on = λ _. (tt, tt, omega (arith, ap length step));
      keeps = tt;
      rests = λ _. tt;
    }
