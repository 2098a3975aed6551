use Rattle.std.proofs.Common.{◌<◌, ◌+◌, ◌++◌, length, max, ap, subst, arith}
use Rattle.asm_explore.specs.code.Sequences.{SortsAll, longer}
use Rattle.asm_explore.specs.code.ChoiceLists.{choice_lists, behind}
use Rattle.asm_explore.proofs.OutcomeLemmas.FullLists.{too_many_on, longer_count, sorted_count}
use Rattle.asm_explore.proofs.outcomes.sequence_outcomes.add_part_of_sequence.Goals as goal

pub returns-clause-sorts : goal.returns-clause-sorts
returns-clause-sorts c =
    let a = c.args in
    subst (λ fs. SortsAll a.signature.now a.turns a.so_far.now.set a.one.now.choices fs a.sorted.now c.add_all_of_part.new.sorted) c.as_slice-outcomes.ensures.value c.in_ok-add_all_of_part.ensures.sorts

pub returns-in_err-add_all_of_part-clause-crowd : goal.returns-in_err-add_all_of_part-clause-crowd
returns-in_err-add_all_of_part-clause-crowd c =
    let a = c.args in
    let s = a.sorted.now in
    too_many_on (a.limit < max (length s.done.items) (length s.more.items) + length c.as_slice-outcomes.result.now) (a.limit < length (choice_lists (longer s) ++ behind a.one.now.choices (choice_lists a.part.items)))
    c.from_residual.result c.in_err-add_all_of_part.field-0.0 c.from_residual.ensures.1
    (λ beyond. omega (arith, beyond, longer_count s, sorted_count s a.one.now.choices a.part.items, ap length c.as_slice-outcomes.ensures.value))
    c.in_err-add_all_of_part.ensures.crowd
