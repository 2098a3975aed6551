use Rattle.std.proofs.Common.{◌∙◌, ap, refl, sym}
use Rattle.std.specs.Prelude.{option_map, unwrap_or}
use Rattle.asm_explore_texts.proofs.SaidNumbers.{numbers_made}
use Rattle.asm_explore_texts.proofs.run_numbers.numbers_in_line.Goals as goal

pub returns : goal.returns
returns c =
    numbers_made c.args.line.now c.in_ok-text.text.now c.first_word-word.result.now _ c.behind.result c.number.result c.in_ok-steps.steps c.unwrap_or-turns.result
    c.behind.ensures (ap (option_map (λ b. b.now)) c.in_ok-text.was) c.first_word-word.ensures c.number.ensures c.in_ok-steps.was
    refl (sym c.is_empty.ensures ∙ c.if-is_empty.false) (c.unwrap_or-turns.ensures ∙ ap (λ o. unwrap_or o 1000) c.turns_named.ensures)
