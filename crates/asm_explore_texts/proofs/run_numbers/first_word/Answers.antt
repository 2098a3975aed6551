use Rattle.std.proofs.Common.{ap, ◌∙◌, rules}
use Rattle.std.proofs.lemmas.List.Sorted.{answers_always}
use borrow.Author.Tests.{tests}
use Rattle.asm_explore_texts.specs.RunNumbers.{is_blank}
use Rattle.asm_explore_texts.proofs.LineParts.{first_part}
use Rattle.asm_explore_texts.proofs.run_numbers.first_word.Goals as goal

pub returns : goal.returns
returns c =
    ap (λ t. t.now) c.unwrap_or.ensures
    ∙ first_part is_blank c.args.text c.next.result _ _ _ _ _ _ _ _ c.split.ensures.done c.split.ensures.rest
    (answers_always _ _ _ (λ f a r g call. search (rules, tests))) c.next.ensures.steps
