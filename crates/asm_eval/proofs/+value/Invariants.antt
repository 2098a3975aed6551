use Rattle.std.proofs.Common.{◌≡◌, ◌+◌, ◌-◌, ◌*◌, ◌<◌, ◌≤◌, ◌&&◌, ℕ, length, map, take, drop, filter}
use Rattle.std.specs.List.{list_any, list_all}
use Rattle.asm_state.specs.declared.value.Value.TheVariants.{Undef}
use Rattle.std.specs.Prelude.{false, true, ◌∷◌}
use Rattle.asm_eval.specs.code.ShownViews.{shown}
use Rattle.asm_meaning.specs.Value.{is_true}
use Rattle.asm_code.specs.code.CodeViews.{code_of, codes_of, link_of, links_of}
use Rattle.asm_code.specs.code.CodeTree as tree
use Rattle.asm_code.specs.code.Readings.{always, chained, reading}
use Rattle.asm_code.specs.code.Sizes.{size, sizes, link_sizes}
use Rattle.asm_eval.specs.code.Frames.{code_value, frame_size, readings_of, tree_value}
use Rattle.asm_eval.proofs.AndChains.{holds_in}
use Rattle.asm_eval.specs.code.Blocks.{at, holds_for, value_for}
use Rattle.asm_eval.proofs.BlockLemmas.{EachSoFar, KeepsSoFar}
use Rattle.asm_eval.proofs.+value.Given as goal

abbrev pub decreases-value::value : goal.decreases-value::value
decreases-value::value l = 16 * (size (code_of l.code.now) + frame_size l.frame.now) + 1

abbrev pub decreases-value::operand : goal.decreases-value::operand
decreases-value::operand l = 16 * (size (code_of l.code.now) + frame_size l.frame.now) + 2

abbrev pub decreases-value::local : goal.decreases-value::local
decreases-value::local l = 16 * frame_size l.frame.now + 3

abbrev pub decreases-value::local_by_call : goal.decreases-value::local_by_call
decreases-value::local_by_call l = 16 * frame_size l.frame.now + 2

abbrev pub decreases-value::with : goal.decreases-value::with
decreases-value::with l = 16 * (size (code_of l.left.now) + frame_size l.frame.now) + 3

abbrev pub decreases-value::plus : goal.decreases-value::plus
decreases-value::plus l = 16 * (size (code_of l.left.now) + frame_size l.frame.now) + 3

abbrev pub decreases-value::modulo : goal.decreases-value::modulo
decreases-value::modulo l = 16 * (size (code_of l.left.now) + frame_size l.frame.now) + 3

abbrev pub decreases-value::plus_modulo : goal.decreases-value::plus_modulo
decreases-value::plus_modulo l = 16 * (size (code_of l.left.now) + frame_size l.frame.now) + 3

abbrev pub decreases-value::derived_one : goal.decreases-value::derived_one
decreases-value::derived_one l = 16 * (size (code_of l.body.now) + (size (code_of l.argument.now) + frame_size l.frame.now)) + 4

abbrev pub decreases-value::derived_two : goal.decreases-value::derived_two
decreases-value::derived_two l = 16 * (size (code_of l.body.now) + (size (code_of l.first.now) + size (code_of l.second.now) + frame_size l.frame.now)) + 4

abbrev pub decreases-value::equals : goal.decreases-value::equals
decreases-value::equals l = 16 * (size (code_of l.left.now) + frame_size l.frame.now) + 3

abbrev pub decreases-value::both : goal.decreases-value::both
decreases-value::both l = 16 * (size (code_of l.left.now) + size (code_of l.right.now) + frame_size l.frame.now) + 3

abbrev pub decreases-value::chain : goal.decreases-value::chain
decreases-value::chain l = 16 * (size (code_of l.first.now) + link_sizes (links_of (map link_of l.rest.now)) + frame_size l.frame.now) + 3

abbrev pub decreases-value::row_value : goal.decreases-value::row_value
decreases-value::row_value l = 16 * (size (code_of l.argument.now) + frame_size l.frame.now) + 3

abbrev pub decreases-value::grid_value : goal.decreases-value::grid_value
decreases-value::grid_value l = 16 * (size (code_of l.row.now) + size (code_of l.column.now) + frame_size l.frame.now) + 3

abbrev pub decreases-value::function_at : goal.decreases-value::function_at
decreases-value::function_at l = 16 * (sizes (codes_of (map code_of l.arguments.now)) + frame_size l.frame.now) + 3

abbrev pub decreases-value::derived : goal.decreases-value::derived
decreases-value::derived l = 16 * (size (code_of l.body.now) + (sizes (codes_of (map code_of l.arguments.now)) + frame_size l.frame.now)) + 4

abbrev pub decreases-value::linked : goal.decreases-value::linked
decreases-value::linked l = 16 * (size (code_of l.body.now) + (sizes (codes_of (map code_of l.arguments.now)) + (frame_size l.frame.now + frame_size l.bound.now))) + 3

abbrev pub decreases-value::holds : goal.decreases-value::holds
decreases-value::holds l = 16 * (size (code_of l.code.now) + frame_size l.frame.now) + 5

abbrev pub decreases-value::with_holds : goal.decreases-value::with_holds
decreases-value::with_holds l = 16 * (size (code_of l.left.now) + frame_size l.frame.now) + 7

abbrev pub decreases-value::compared_with : goal.decreases-value::compared_with
decreases-value::compared_with l = 16 * (size (code_of l.left.now) + frame_size l.frame.now) + 3

abbrev pub decreases-value::compared : goal.decreases-value::compared
decreases-value::compared l = 16 * (size (code_of l.left.now) + size (code_of l.right.now) + frame_size l.frame.now) + 3

abbrev pub decreases-value::fails : goal.decreases-value::fails
decreases-value::fails l = 16 * (size (code_of l.code.now) + frame_size l.frame.now) + 5

abbrev pub decreases-value::either_holds : goal.decreases-value::either_holds
decreases-value::either_holds l = 16 * (size (code_of l.left.now) + size (code_of l.right.now) + frame_size l.frame.now) + 5

abbrev pub decreases-value::both_hold : goal.decreases-value::both_hold
decreases-value::both_hold l = 16 * (size (code_of l.left.now) + size (code_of l.right.now) + frame_size l.frame.now) + 6

abbrev pub decreases-value::chain_holds : goal.decreases-value::chain_holds
decreases-value::chain_holds l = 16 * (size (code_of l.first.now) + link_sizes (links_of (map link_of l.rest.now)) + frame_size l.frame.now) + 7

abbrev pub decreases-value::all_hold : goal.decreases-value::all_hold
decreases-value::all_hold l = 16 * (size (code_of l.first.now) + link_sizes (links_of (map link_of l.rest.now)) + frame_size l.frame.now) + 6

-- each operand so far has the value true, and the first
abbrev pub invariant-value::all_hold-loop-i : goal.invariant-value::all_hold-loop-i
invariant-value::all_hold-loop-i l = list_all (holds_in l.view.signature.now (readings_of l.view.signature.now l.frame) (shown l.view)) (take l.i l.rest) ≡ true

abbrev pub decreases-value::exists : goal.decreases-value::exists
decreases-value::exists l = 16 * (size (code_of l.test.now) + frame_size l.frame.now) + 9

abbrev pub decreases-value::every : goal.decreases-value::every
decreases-value::every l = 16 * (size (code_of l.test.now) + frame_size l.frame.now) + 9

-- ---- blocks

abbrev pub decreases-value::exists_from : goal.decreases-value::exists_from
decreases-value::exists_from l = 16 * (size (code_of l.test.now) + frame_size l.frame.now) + 8

abbrev pub decreases-value::every_from : goal.decreases-value::every_from
decreases-value::every_from l = 16 * (size (code_of l.test.now) + frame_size l.frame.now) + 8

abbrev pub decreases-keep_holding::keep_holding : goal.decreases-keep_holding::keep_holding
decreases-keep_holding::keep_holding l = 16 * (size (code_of l.code.now) + frame_size l.frame.now) + 7

abbrev pub decreases-keep_holding::keep_both : goal.decreases-keep_holding::keep_both
decreases-keep_holding::keep_both l = 16 * (size (code_of l.left.now) + size (code_of l.right.now) + frame_size l.frame.now) + 8

abbrev pub decreases-keep_holding::keep_chain : goal.decreases-keep_holding::keep_chain
decreases-keep_holding::keep_chain l = 16 * (size (code_of l.first.now) + link_sizes (links_of (map link_of l.rest.now)) + frame_size l.frame.now) + 9

abbrev pub decreases-keep_holding::keep_ands : goal.decreases-keep_holding::keep_ands
decreases-keep_holding::keep_ands l = 16 * (size (code_of l.first.now) + link_sizes (links_of (map link_of l.rest.now)) + frame_size l.frame.now) + 8

abbrev pub decreases-keep_holding::keep_singly : goal.decreases-keep_holding::keep_singly
decreases-keep_holding::keep_singly l = 16 * (size (code_of l.code.now) + frame_size l.frame.now) + 6

abbrev pub decreases-keep_holding::keep_valued : goal.decreases-keep_holding::keep_valued
decreases-keep_holding::keep_valued l = 16 * (size (code_of l.code.now) + frame_size l.frame.now) + 4

abbrev pub decreases-block_values::values : goal.decreases-block_values::values
decreases-block_values::values l = 16 * (size (code_of l.code.now) + frame_size l.frame.now) + 3

abbrev pub decreases-block_values::values_singly : goal.decreases-block_values::values_singly
decreases-block_values::values_singly l = 16 * (size (code_of l.code.now) + frame_size l.frame.now) + 2

abbrev pub decreases-block_values::local_values : goal.decreases-block_values::local_values
decreases-block_values::local_values l = 16 * frame_size l.frame.now + 3

abbrev pub decreases-block_values::row_values : goal.decreases-block_values::row_values
decreases-block_values::row_values l = 16 * (size (code_of l.argument.now) + frame_size l.frame.now) + 4

abbrev pub decreases-block_values::with_values : goal.decreases-block_values::with_values
decreases-block_values::with_values l = 16 * (size (code_of l.left.now) + frame_size l.frame.now) + 4

abbrev pub decreases-block_values::plus_values : goal.decreases-block_values::plus_values
decreases-block_values::plus_values l = 16 * (size (code_of l.left.now) + frame_size l.frame.now) + 4

abbrev pub decreases-block_values::modulo_values : goal.decreases-block_values::modulo_values
decreases-block_values::modulo_values l = 16 * (size (code_of l.left.now) + frame_size l.frame.now) + 4

abbrev pub decreases-block_values::plus_modulo_values : goal.decreases-block_values::plus_modulo_values
decreases-block_values::plus_modulo_values l = 16 * (size (code_of l.left.now) + frame_size l.frame.now) + 4

abbrev pub decreases-block_values::equals_values : goal.decreases-block_values::equals_values
decreases-block_values::equals_values l = 16 * (size (code_of l.left.now) + frame_size l.frame.now) + 4

abbrev pub decreases-block_values::grid_values : goal.decreases-block_values::grid_values
decreases-block_values::grid_values l = 16 * (size (code_of l.row.now) + size (code_of l.column.now) + frame_size l.frame.now) + 4

abbrev pub decreases-block_values::both_values : goal.decreases-block_values::both_values
decreases-block_values::both_values l = 16 * (size (code_of l.left.now) + size (code_of l.right.now) + frame_size l.frame.now) + 4

abbrev pub decreases-block_values::chain_values : goal.decreases-block_values::chain_values
decreases-block_values::chain_values l = 16 * (size (code_of l.first.now) + link_sizes (links_of (map link_of l.rest.now)) + frame_size l.frame.now) + 4

abbrev pub decreases-value::exists_from-loop-i : goal.decreases-value::exists_from-loop-i
decreases-value::exists_from-loop-i l = length l.universe - l.i

abbrev pub decreases-value::every_from-loop-i : goal.decreases-value::every_from-loop-i
decreases-value::every_from-loop-i l = length l.universe - l.i

-- what is left says what the whole says
abbrev pub invariant-value::exists_from-loop-i : goal.invariant-value::exists_from-loop-i
invariant-value::exists_from-loop-i l =
    let p = holds_for l.view l.frame (code_of l.test) in
    list_any p (drop l.from l.universe) ≡ list_any p (drop l.i l.universe)

abbrev pub invariant-value::every_from-loop-i : goal.invariant-value::every_from-loop-i
invariant-value::every_from-loop-i l =
    let p = holds_for l.view l.frame (code_of l.test) in
    list_all p (drop l.from l.universe) ≡ list_all p (drop l.i l.universe)

-- the elements that are kept are those for which the operands so far hold
abbrev pub invariant-keep_holding::keep_ands-loop-i : goal.invariant-keep_holding::keep_ands-loop-i
invariant-keep_holding::keep_ands-loop-i l = record {
  few : l.kept ≤ l.count;
  room : length l.elements ≡ 16;
  kept : take l.kept l.elements ≡ filter (λ v. holds_for l.view l.frame (code_of l.first) v && list_all (λ link. holds_for l.view l.frame (code_of link.1) v) (take l.i l.rest)) (take l.count l.fn.elements);
}

abbrev pub invariant-keep_holding::keep_singly-loop-k : goal.invariant-keep_holding::keep_singly-loop-k
invariant-keep_holding::keep_singly-loop-k l = record {
  room : length l.elements ≡ 16;
  behind : l.kept ≤ l.k;
  so_far : KeepsSoFar Undef (holds_for l.view l.frame (code_of l.code)) l.initial.elements l.elements l.kept l.k;
}

abbrev pub invariant-block_values::values_singly-loop-k : goal.invariant-block_values::values_singly-loop-k
invariant-block_values::values_singly-loop-k l = EachSoFar Undef (λ k v. value_for l.view l.frame (code_of l.code) (at l.elements k)) l.initial.out l.out l.k

-- the values of the chain so far, from which the rest goes on
abbrev pub invariant-block_values::chain_values-loop-i : goal.invariant-block_values::chain_values-loop-i
invariant-block_values::chain_values-loop-i l = (k : ℕ) → k < l.count
    → chained l.view.signature.now (links_of (map link_of (drop l.i l.rest))) (at l.out k) (always (at l.elements k) ∷ readings_of l.view.signature.now l.frame) (shown l.view)
    ≡ value_for l.view l.frame (tree.Chain (code_of l.first) (links_of (map link_of l.rest))) (at l.elements k)

-- the arguments so far have their values, and there is room for four
abbrev pub invariant-value::function_at-loop-i : goal.invariant-value::function_at-loop-i
invariant-value::function_at-loop-i l = record {
  valued : take l.i l.values ≡ map (code_value l.view l.frame) (take l.i l.arguments);
  room : length l.values ≡ 4;
}

abbrev pub invariant-value::derived-loop-i : goal.invariant-value::derived-loop-i
invariant-value::derived-loop-i l = record {
  valued : take l.i l.values ≡ map (code_value l.view l.frame) (take l.i l.arguments);
  room : length l.values ≡ 4;
}

-- the same of the last arguments
abbrev pub invariant-value::linked-loop-i : goal.invariant-value::linked-loop-i
invariant-value::linked-loop-i l = record {
  valued : take l.i l.values ≡ map (code_value l.view l.frame) (take l.i l.lasts);
  room : length l.values ≡ 64;
}

-- no value so far passes the test
abbrev pub invariant-value::exists-loop-i : goal.invariant-value::exists-loop-i
invariant-value::exists-loop-i l =
    list_any (λ v. is_true (reading l.view.signature.now (code_of l.test) (always v ∷ readings_of l.view.signature.now l.frame) (shown l.view))) (take l.i l.universe) ≡ false

-- each value so far passes it
abbrev pub invariant-value::every-loop-i : goal.invariant-value::every-loop-i
invariant-value::every-loop-i l =
    list_all (λ v. is_true (reading l.view.signature.now (code_of l.test) (always v ∷ readings_of l.view.signature.now l.frame) (shown l.view))) (take l.i l.universe) ≡ true

-- what is left of the chain goes on from the total
abbrev pub invariant-value::chain-loop-operation : goal.invariant-value::chain-loop-operation
invariant-value::chain-loop-operation l =
    chained l.view.signature.now (links_of (map link_of (drop l.operation-index l.rest))) l.total (readings_of l.view.signature.now l.frame) (shown l.view)
    ≡ tree_value l.view l.frame (tree.Chain (code_of l.first) (links_of (map link_of l.rest)))
