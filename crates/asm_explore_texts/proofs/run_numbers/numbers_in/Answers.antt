use Rattle.std.proofs.Common.{rules, tests, ◌∙◌, ap, map, nat_eq, sym}
use Rattle.std.specs.Str.Lines.{strip_carriage_return}
use Rattle.std.proofs.lemmas.Iterator.Consumers.{YieldsList-at}
use Rattle.std.proofs.lemmas.Iterator.Splits.{YieldsList-from_slice_split}
use Rattle.asm_explore_texts.specs.RunNumbers.{last_numbers}
use Rattle.asm_explore_texts.proofs.SaidNumbers.{end_of, line_with_numbers, line_without_numbers, steps_in_range, turns_in_range}
use Rattle.asm_explore_texts.proofs.run_numbers.numbers_in.Goals as goal

pub loop-line-preserved-in-Some-numbers_in_line : goal.loop-line-preserved-in-Some-numbers_in_line
loop-line-preserved-in-Some-numbers_in_line c =
    line_with_numbers c.loop-line.yielded c.in-Some.line c.without_return.result.now c.numbers_in_line.result c.without_return.ensures c.numbers_in_line.ensures
    c.in-Some-numbers_in_line.numbers c.in-Some-numbers_in_line.is

pub loop-line-preserved : goal.loop-line-preserved
loop-line-preserved c =
    line_without_numbers c.loop-line.yielded c.in-Some.line c.without_return.result.now c.numbers_in_line.result c.without_return.ensures c.numbers_in_line.ensures
    c.loop-line.found c.in_default.is c.loop-line.invariant

pub returns-clause-numbers : goal.returns-clause-numbers
returns-clause-numbers c =
    let all = end_of c.loop-line.yielded _ c.loop-line.yielded_by _ _ c.in-None.is c.next.ensures.steps (YieldsList-at c.into_iter-line-iterator.ensures.into_iter_gives (YieldsList-from_slice_split _ (λ b. nat_eq b 10) c.args.script.now c.split-line-items.ensures.rest c.split-line-items.ensures.done c.split-line-items.ensures.closure (λ x r q k. search (rules, tests)))) in
    sym c.loop-line.invariant ∙ ap (λ ls. last_numbers (map strip_carriage_return ls)) all

pub returns-clause-steps : goal.returns-clause-steps
returns-clause-steps c = steps_in_range c.args.script.now c.loop-line.found (returns-clause-numbers c)

pub returns-clause-turns : goal.returns-clause-turns
returns-clause-turns c = turns_in_range c.args.script.now c.loop-line.found (returns-clause-numbers c)
