use Rattle.std.proofs.Common.{◌≡◌, ◌||◌, ◌≤◌, ◌<◌, ◌&&◌, ◌∷◌, List, [], length, map, take, filter, Some, refl, sym, ap, subst, ◌∙◌, arith}
use Rattle.std.specs.Prelude.{slice_index_or}
use Rattle.asm_state.specs.declared.value.Value.TheVariants.{Undef}
use Rattle.asm_meaning.specs.Value as spec
use Rattle.asm_state.specs.Operation.{op}
use Rattle.asm_state.specs.declared.operation.Op.{Op}
use Rattle.asm_state.specs.declared.operation.Op.TheVariants.{Add, Remainder, Equal}
use Rattle.asm_state.specs.declared.value.Value.TheVariants.{Number}
use Rattle.asm_state.specs.Words.{value_of_code}
use Rattle.asm_eval.specs.code.ShownViews.{shown}
use Rattle.asm_code.specs.code.CodeViews.{code_of}
use Rattle.asm_code.specs.code.Readings.{always, at_position, reading}
use Rattle.asm_code.specs.code.Sizes.{size, sizes}
use Rattle.asm_code.specs.code.SoundCodes.{IsSound, AreSound, count}
use Rattle.asm_code.specs.code.CodeViews.{codes_of, link_of, links_of}
use Rattle.asm_code.specs.declared.code.Code.{Code}
use Rattle.asm_eval.specs.code.FrameBindings.{binding_load, IsSoundBinding}
use Rattle.asm_eval.specs.code.Frames.{AllSound, bound_value, code_value, frame_size, readings_of}
use Rattle.std.specs.List.{list_any, list_all}
use Rattle.asm_state.specs.declared.value.Value.{Value}
use Rattle.std.proofs.lemmas.Grind.{common_steps}
use Rattle.std.proofs.lemmas.List.{append-nil, take_all, drop_all, length-set}
use Rattle.std.proofs.lemmas.List.Elements.{filter_agree}
use Rattle.std.proofs.lemmas.List.Folds.{list_all_at}
use Rattle.asm_code.specs.code.CodeTree as tree
use Rattle.asm_code.proofs.CodeForms.{code_laws-count_of_codes as count_of_codes, code_laws-every_form as every_form, code_laws-exists_form as exists_form, code_laws-held_form as held_form, code_laws-local_form as local_form, code_laws-chain_form as chain_form}
use Rattle.asm_eval.proofs.AndChains.{not_holds, not_of, both_or, or_false, or_neither, or_true, both_and, chain_true, holds_in}
use Rattle.asm_eval.proofs.Arguments.{all_valued}
use Rattle.asm_eval.proofs.ValueCases.{of_constant, of_local, of_cell, local_first, local_later, with_is, turned_is, one_is, two_is, both_is, row_is, grid_is, chain_begins, chain_ends, chain_goes_on, of_held, of_derived}
use Rattle.asm_eval.specs.code.AndChains.{is_false}
use Rattle.asm_eval.proofs.Members.{size_within, sound_within, link_size_within, link_sound_within, sizes_some, sizes_parts, sound_parts}
use Rattle.asm_eval.proofs.BoundValues.{alone_bound, lasts_bound, values_are}
use Rattle.asm_eval.proofs.FramePositions.{within_values}
use Rattle.asm_eval.proofs.Quantified.{passes, none_more, all_more, exists_at, fails_at, exists_past, every_past, exists_further, every_further}
use Rattle.asm_eval.specs.code.Blocks.{at, holds_for, value_for}
use Rattle.asm_eval.proofs.BlockLemmas.{each_more, keeps_more, keeps_less, read_at, filter_twice, one_test_more, and_nothing, any_in_block, none_in_block, some_fails_in_block, all_in_block}
use Rattle.asm_eval.proofs.+value.Goals as goal
use Rattle.asm_eval.proofs.+value.Goals.{keep_holding::keep_singly-then-holds, keep_holding::keep_singly-else-holds}

pub value::value-returns-in-Constant : goal.value::value-returns-in-Constant
value::value-returns-in-Constant t c = let a = c.args in of_constant a.view.now.signature.now (readings_of a.view.now.signature.now a.frame.now) (shown a.view.now) a.code.now c.in-Constant.value c.in-Constant.is

pub value::value-returns-in-Local : goal.value::value-returns-in-Local
value::value-returns-in-Local t c =
    let a = c.args in
    of_local a.view.now.signature.now (readings_of a.view.now.signature.now a.frame.now) (shown a.view.now) a.code.now c.in-Local.position c.local.result c.in-Local.is c.local.ensures

pub value::value-returns-in-Cell : goal.value::value-returns-in-Cell
value::value-returns-in-Cell t c =
    let a = c.args in
    of_cell a.view.now.signature.now (readings_of a.view.now.signature.now a.frame.now) (shown a.view.now) a.code.now c.in-Cell.n c.cell_by_call.result c.in-Cell.is c.cell_by_call.ensures

pub value::operand-returns-in-Constant : goal.value::operand-returns-in-Constant
value::operand-returns-in-Constant t c = let a = c.args in of_constant a.view.now.signature.now (readings_of a.view.now.signature.now a.frame.now) (shown a.view.now) a.code.now c.in-Constant.value c.in-Constant.is

pub value::operand-returns-in-Local : goal.value::operand-returns-in-Local
value::operand-returns-in-Local t c =
    let a = c.args in
    of_local a.view.now.signature.now (readings_of a.view.now.signature.now a.frame.now) (shown a.view.now) a.code.now c.in-Local.position c.local.result c.in-Local.is c.local.ensures

pub value::operand-returns-in-Cell : goal.value::operand-returns-in-Cell
value::operand-returns-in-Cell t c =
    let a = c.args in
    of_cell a.view.now.signature.now (readings_of a.view.now.signature.now a.frame.now) (shown a.view.now) a.code.now c.in-Cell.n c.cell_by_call.result c.in-Cell.is c.cell_by_call.ensures

pub value::with-returns : goal.value::with-returns
value::with-returns t c =
    let a = c.args in
    with_is a.view.now.signature.now (readings_of a.view.now.signature.now a.frame.now) (shown a.view.now) a.operation (code_of a.left.now) a.right c.operand-left.result c.applied_by_call.result c.operand-left.ensures c.applied_by_call.ensures

pub value::plus-returns : goal.value::plus-returns
value::plus-returns t c =
    let a = c.args in
    with_is a.view.now.signature.now (readings_of a.view.now.signature.now a.frame.now) (shown a.view.now) Add (code_of a.left.now) (Number a.right) c.operand-left.result c.added.result c.operand-left.ensures c.added.ensures

pub value::modulo-returns : goal.value::modulo-returns
value::modulo-returns t c =
    let a = c.args in
    with_is a.view.now.signature.now (readings_of a.view.now.signature.now a.frame.now) (shown a.view.now) Remainder (code_of a.left.now) (Number a.right.number) c.operand-left.result c.remainder_by.result c.operand-left.ensures c.remainder_by.ensures

pub value::plus_modulo-returns : goal.value::plus_modulo-returns
value::plus_modulo-returns t c =
    let a = c.args in
    turned_is a.view.now.signature.now (readings_of a.view.now.signature.now a.frame.now) (shown a.view.now) (code_of a.left.now) (Number a.by) (Number a.over.number) c.operand-left.result c.added-sum.result c.remainder_by.result
    c.operand-left.ensures c.added-sum.ensures c.remainder_by.ensures

pub value::derived_one-returns : goal.value::derived_one-returns
value::derived_one-returns t c =
    let a = c.args in
    one_is a.view.now.signature.now (readings_of a.view.now.signature.now a.frame.now) (shown a.view.now) (code_of a.body.now) (code_of a.argument.now) c.operand.result c.value.result c.operand.ensures c.value.ensures

pub value::derived_two-returns : goal.value::derived_two-returns
value::derived_two-returns t c =
    let a = c.args in
    two_is a.view.now.signature.now (readings_of a.view.now.signature.now a.frame.now) (shown a.view.now) (code_of a.body.now) (code_of a.first.now) (code_of a.second.now) c.operand-a.result c.operand-b.result c.value.result
    c.operand-a.ensures c.operand-b.ensures c.value.ensures

pub value::equals-returns : goal.value::equals-returns
value::equals-returns t c =
    let a = c.args in
    with_is a.view.now.signature.now (readings_of a.view.now.signature.now a.frame.now) (shown a.view.now) Equal (code_of a.left.now) a.right c.operand-left.result c.equal_to.result c.operand-left.ensures c.equal_to.ensures

pub value::both-returns : goal.value::both-returns
value::both-returns t c =
    let a = c.args in
    both_is a.view.now.signature.now (readings_of a.view.now.signature.now a.frame.now) (shown a.view.now) a.operation (code_of a.left.now) (code_of a.right.now) c.operand-a.result c.operand-b.result c.applied.result
    c.operand-a.ensures c.operand-b.ensures c.applied.ensures

pub value::compared_with-returns : goal.value::compared_with-returns
value::compared_with-returns t c =
    let a = c.args in
    c.is_true_of.ensures
    ∙ ap spec.is_true (with_is a.view.now.signature.now (readings_of a.view.now.signature.now a.frame.now) (shown a.view.now) a.operation (code_of a.left.now) a.right c.operand-left.result
    (op a.operation c.operand-left.result a.right) c.operand-left.ensures refl)

pub value::compared-returns : goal.value::compared-returns
value::compared-returns t c =
    let a = c.args in
    c.is_true_of.ensures
    ∙ ap spec.is_true (both_is a.view.now.signature.now (readings_of a.view.now.signature.now a.frame.now) (shown a.view.now) a.operation (code_of a.left.now) (code_of a.right.now) c.operand-a.result c.operand-b.result
    (op a.operation c.operand-a.result c.operand-b.result) c.operand-a.ensures c.operand-b.ensures refl)

pub value::row_value-returns : goal.value::row_value-returns
value::row_value-returns t c =
    let a = c.args in
    row_is a.view.now.signature.now (readings_of a.view.now.signature.now a.frame.now) (shown a.view.now) a.first a.over.low a.over.count (code_of a.argument.now) c.operand-argument.result c.in_row.result c.operand-argument.ensures c.in_row.ensures

pub value::grid_value-returns : goal.value::grid_value-returns
value::grid_value-returns t c =
    let a = c.args in
    grid_is a.view.now.signature.now (readings_of a.view.now.signature.now a.frame.now) (shown a.view.now) a.place.now.first a.place.now.rows.low a.place.now.rows.count a.place.now.columns.low a.place.now.columns.count (code_of a.row.now) (code_of a.column.now) c.operand-a.result c.operand-b.result c.in_grid.result
    c.operand-a.ensures c.operand-b.ensures c.in_grid.ensures

pub value::chain-loop-operation-init : goal.value::chain-loop-operation-init
value::chain-loop-operation-init t c =
    let a = c.args in
    chain_begins a.view.now.signature.now (readings_of a.view.now.signature.now a.frame.now) (shown a.view.now) (code_of a.first.now) (links_of (map link_of a.rest.now)) c.operand-total.result c.operand-total.ensures

pub value::chain-operand-right-requires : goal.value::chain-operand-right-requires
value::chain-operand-right-requires t c =
    let a = c.args in
    let shape = a.view.now.signature.now in
    let small = link_size_within a.rest.now c.loop-operation.operation-index c.loop-operation-item.result c.loop-operation-test.true c.loop-operation-item.is in
    (omega (arith, c.decreases, small), (link_sound_within shape a.rest.now c.loop-operation.operation-index c.loop-operation-item.result c.loop-operation-test.true c.loop-operation-item.is c.requires.rest, c.requires.framed))

pub value::chain-loop-operation-preserved : goal.value::chain-loop-operation-preserved
value::chain-loop-operation-preserved t c =
    let a = c.args in
    chain_goes_on a.view.now.signature.now (readings_of a.view.now.signature.now a.frame.now) (shown a.view.now) a.rest.now c.loop-operation.operation-index c.loop-operation-item.result
    c.loop-operation.total c.operand-right.result _ _ c.loop-operation-test.true c.loop-operation-item.is c.loop-operation.invariant c.operand-right.ensures c.applied-total.ensures

pub value::chain-returns : goal.value::chain-returns
value::chain-returns t c =
    let a = c.args in
    chain_ends a.view.now.signature.now (readings_of a.view.now.signature.now a.frame.now) (shown a.view.now) a.rest.now c.loop-operation.operation-index c.loop-operation.total _
    (omega arith) c.loop-operation.invariant

pub value::local-returns-in-Some : goal.value::local-returns-in-Some
value::local-returns-in-Some t c =
    let a = c.args in
    let shape = a.view.now.signature.now in
    let here = c.in-Some.ensures.lookup in
    ap (λ r. r (shown a.view.now)) (within_values c.in-Values.values.now (readings_of shape c.in-Values.outer.now) a.position c.in-Some.value.now here.3.0 here.1
    ∙ sym (ap (λ f. at_position (readings_of shape f) a.position) c.in-Values.is))

pub value::local_by_call-value-requires : goal.value::local_by_call-value-requires
value::local_by_call-value-requires t c =
    let sound = subst (IsSoundBinding c.args.view.now.signature.now) c.in-ByName.is (c.find.ensures.sound c.args.view.now.signature.now c.requires.framed) in
    let lighter = subst (λ f. binding_load f ≤ frame_size c.args.frame.now) c.in-ByName.is c.find.ensures.load in
    (omega (arith, c.decreases, lighter), (sound.0, sound.1))

pub value::function_at-returns : goal.value::function_at-returns
value::function_at-returns t c =
    let a = c.args in
    of_held a.view.now.signature.now (readings_of a.view.now.signature.now a.frame.now) (shown a.view.now) a.function a.arguments.now _ _
    (all_valued (code_value a.view.now a.frame.now) a.arguments.now c.loop-i.values c.loop-i.i c.loop-i-test.false c.loop-i.auto.i-end c.loop-i.invariant.valued) c.function_value.ensures

pub value::function_at-operand-requires : goal.value::function_at-operand-requires
value::function_at-operand-requires t c =
    let a = c.args in
    let small = size_within a.arguments.now c.loop-i.i c.index-arguments-i.result c.loop-i-test.true c.index-arguments-i.is in
    (omega (arith, c.decreases, small), (sound_within a.view.now.signature.now a.arguments.now c.loop-i.i c.index-arguments-i.result c.loop-i-test.true c.index-arguments-i.is c.requires.sound, c.requires.framed))

pub value::derived-operand-requires : goal.value::derived-operand-requires
value::derived-operand-requires t c =
    let a = c.args in
    let small = size_within a.arguments.now c.loop-i.i c.index-arguments-i.result c.loop-i-test.true c.index-arguments-i.is in
    (omega (arith, c.decreases, small), (sound_within a.view.now.signature.now a.arguments.now c.loop-i.i c.index-arguments-i.result c.loop-i-test.true c.index-arguments-i.is c.requires.sound, c.requires.framed))

pub value::derived-returns-then-arguments-le-MAX_ARGUMENTS : goal.value::derived-returns-then-arguments-le-MAX_ARGUMENTS
value::derived-returns-then-arguments-le-MAX_ARGUMENTS t c =
    let a = c.args in
    let are = all_valued (code_value a.view.now a.frame.now) a.arguments.now c.loop-i.values c.loop-i.i c.loop-i-test.false c.loop-i.auto.i-end c.loop-i.invariant.valued in
    let it = of_derived a.view.now.signature.now (readings_of a.view.now.signature.now a.frame.now) (shown a.view.now) a.body.now a.arguments.now _ are in
    c.value.ensures ∙ ap (λ rs. reading a.view.now.signature.now (code_of a.body.now) rs (shown a.view.now)) (append-nil _) ∙ it

pub value::every-returns-then-not-tested : goal.value::every-returns-then-not-tested
value::every-returns-then-not-tested t c =
    let a = c.args in
    let fails = sym c.holds-tested.ensures ∙ c.if-not-tested.true in
    fails_at a.view.now.signature.now (readings_of a.view.now.signature.now a.frame.now) (shown a.view.now) a.over (code_of a.test.now) c.universe-universe.result.now c.loop-i.i (value_of_code c.unbranded_code.result.value) c.universe-universe.ensures (c.element.ensures ∙ ap Some (sym c.unbranded_code.ensures)) fails

pub value::every-loop-i-preserved : goal.value::every-loop-i-preserved
value::every-loop-i-preserved t c =
    let a = c.args in
    let passed = sym c.holds-tested.ensures ∙ c.if-not-tested.false in
    all_more (passes a.view.now.signature.now (readings_of a.view.now.signature.now a.frame.now) (shown a.view.now) a.over (code_of a.test.now)) c.universe-universe.result.now c.loop-i.i (value_of_code c.unbranded_code.result.value) (c.element.ensures ∙ ap Some (sym c.unbranded_code.ensures)) c.loop-i.invariant passed

pub value::every-returns-then-alone-size : goal.value::every-returns-then-alone-size
value::every-returns-then-alone-size t c =
    let a = c.args in
    every_past a.view.now.signature.now (readings_of a.view.now.signature.now a.frame.now) (shown a.view.now) a.over (code_of a.test.now) c.universe-universe.result.now c.loop-i.i c.universe-universe.ensures (omega (arith, c.size-size.ensures.size)) c.loop-i.invariant

pub value::every-returns : goal.value::every-returns
value::every-returns t c =
    let a = c.args in
    every_further a.view.now.signature.now (readings_of a.view.now.signature.now a.frame.now) (shown a.view.now) a.over (code_of a.test.now) c.universe-universe.result.now c.loop-i.i c.alone_of-alone.result c.every_from.result
    c.universe-universe.ensures (omega arith) c.loop-i.invariant c.every_from.ensures

pub value::exists-returns-then-tested : goal.value::exists-returns-then-tested
value::exists-returns-then-tested t c =
    let a = c.args in
    let passed = sym c.holds-tested.ensures ∙ c.if-tested.true in
    exists_at a.view.now.signature.now (readings_of a.view.now.signature.now a.frame.now) (shown a.view.now) a.over (code_of a.test.now) c.universe-universe.result.now c.loop-i.i (value_of_code c.unbranded_code.result.value) c.universe-universe.ensures (c.element.ensures ∙ ap Some (sym c.unbranded_code.ensures)) passed

pub value::exists-loop-i-preserved : goal.value::exists-loop-i-preserved
value::exists-loop-i-preserved t c =
    let a = c.args in
    let fails = sym c.holds-tested.ensures ∙ c.if-tested.false in
    none_more (passes a.view.now.signature.now (readings_of a.view.now.signature.now a.frame.now) (shown a.view.now) a.over (code_of a.test.now)) c.universe-universe.result.now c.loop-i.i (value_of_code c.unbranded_code.result.value) (c.element.ensures ∙ ap Some (sym c.unbranded_code.ensures)) c.loop-i.invariant fails

pub value::exists-returns-then-alone-size : goal.value::exists-returns-then-alone-size
value::exists-returns-then-alone-size t c =
    let a = c.args in
    exists_past a.view.now.signature.now (readings_of a.view.now.signature.now a.frame.now) (shown a.view.now) a.over (code_of a.test.now) c.universe-universe.result.now c.loop-i.i c.universe-universe.ensures (omega (arith, c.size-size.ensures.size)) c.loop-i.invariant

pub value::exists-returns : goal.value::exists-returns
value::exists-returns t c =
    let a = c.args in
    exists_further a.view.now.signature.now (readings_of a.view.now.signature.now a.frame.now) (shown a.view.now) a.over (code_of a.test.now) c.universe-universe.result.now c.loop-i.i c.alone_of-alone.result c.exists_from.result
    c.universe-universe.ensures (omega arith) c.loop-i.invariant c.exists_from.ensures

pub value::derived-returns : goal.value::derived-returns
value::derived-returns t c =
    let a = c.args in
    let shape = a.view.now.signature.now in
    let rs = readings_of shape a.frame.now in
    let A = shown a.view.now in
    let f = code_value a.view.now a.frame.now in
    c.linked.ensures ∙ ap (λ us. reading shape (code_of a.body.now) us A) (sym (values_are f [] a.arguments.now) ∙ append-nil _)
    ∙ of_derived shape rs A a.body.now a.arguments.now (map f a.arguments.now) refl

pub value::linked-operand-requires : goal.value::linked-operand-requires
value::linked-operand-requires t c =
    let a = c.args in
    let shape = a.view.now.signature.now in
    let parts = c.split_at.ensures.by_index.0 in
    let same = ap (λ (ts : List Code). sizes (codes_of (map code_of ts))) parts in
    let split = sizes_parts c.split_at.result.0.now c.split_at.result.1.now in
    let sound = sound_parts shape c.split_at.result.0.now c.split_at.result.1.now (subst (AllSound shape) parts c.requires.sound) in
    let small = size_within c.split_at.result.1.now c.loop-i.i c.index-lasts-i.result c.loop-i-test.true c.index-lasts-i.is in
    (omega (arith, c.decreases, same, split, small), (sound_within shape c.split_at.result.1.now c.loop-i.i c.index-lasts-i.result c.loop-i-test.true c.index-lasts-i.is sound.1, c.requires.framed))

pub value::linked-value-requires : goal.value::linked-value-requires
value::linked-value-requires t c = (omega (arith, c.decreases), (c.requires.body, c.requires.bound))

pub value::linked-returns-then-is_empty : goal.value::linked-returns-then-is_empty
value::linked-returns-then-is_empty t c =
    let a = c.args in
    let shape = a.view.now.signature.now in
    let f = code_value a.view.now a.frame.now in
    let are = all_valued f c.split_at.result.1.now c.loop-i.values c.loop-i.i c.loop-i-test.false c.loop-i.auto.i-end c.loop-i.invariant.valued in
    let none : length c.split_at.result.0.now ≡ 0 = grind (arith, common_steps, sym c.is_empty.ensures ∙ c.if-is_empty.true) in
    c.value.ensures
    ∙ ap (λ rs. reading shape (code_of a.body.now) rs (shown a.view.now)) (alone_bound f (readings_of shape a.bound.now) c.split_at.result.0.now c.split_at.result.1.now _ none are)
    ∙ ap (bound_value a.view.now a.frame.now a.bound.now a.body.now) (sym c.split_at.ensures.by_index.0)

pub value::linked-linked-requires : goal.value::linked-linked-requires
value::linked-linked-requires t c =
    let a = c.args in
    let shape = a.view.now.signature.now in
    let parts = c.split_at.ensures.by_index.0 in
    let same = ap (λ (ts : List Code). sizes (codes_of (map code_of ts))) parts in
    let split = sizes_parts c.split_at.result.0.now c.split_at.result.1.now in
    let others : 0 < length c.split_at.result.0.now = grind (arith, common_steps, sym c.is_empty.ensures ∙ c.if-is_empty.false) in
    let some = sizes_some c.split_at.result.1.now (omega (arith, others)) in
    let sound = sound_parts shape c.split_at.result.0.now c.split_at.result.1.now (subst (AllSound shape) parts c.requires.sound) in
    (omega (arith, c.decreases, same, split, some), (c.requires.body, (sound.0, (c.requires.framed, c.requires.bound))))

pub value::linked-returns : goal.value::linked-returns
value::linked-returns t c =
    let a = c.args in
    let shape = a.view.now.signature.now in
    let f = code_value a.view.now a.frame.now in
    let are = all_valued f c.split_at.result.1.now c.loop-i.values c.loop-i.i c.loop-i-test.false c.loop-i.auto.i-end c.loop-i.invariant.valued in
    c.linked.ensures
    ∙ ap (λ rs. reading shape (code_of a.body.now) rs (shown a.view.now)) (lasts_bound f (readings_of shape a.bound.now) c.split_at.result.0.now c.split_at.result.1.now _ are)
    ∙ ap (bound_value a.view.now a.frame.now a.bound.now a.body.now) (sym c.split_at.ensures.by_index.0)

pub value::value-function_at-requires : goal.value::value-function_at-requires
value::value-function_at-requires t c =
    let a = c.args in
    let shape = a.view.now.signature.now in
    let form = held_form a.code.now c.in-FunctionAt.function c.in-FunctionAt.arguments c.in-FunctionAt.is in
    let same = c.as_slice.ensures.value in
    let sound = subst (IsSound shape) form c.requires.sound in
    let whole = ap size form in
    let as_many = ap (λ (ts : List Code). sizes (codes_of (map code_of ts))) same in
    let counted = count_of_codes c.as_slice.result.now in
    let counts = ap (λ (ts : List Code). count (codes_of (map code_of ts))) same in
    let few = sound.1 in
    (omega (arith, c.decreases, whole, as_many), (sound.0, (omega (arith, counted, counts, few), (subst (λ (ts : List Code). AreSound shape (codes_of (map code_of ts))) (sym same) sound.2, c.requires.framed))))

pub value::with_holds-returns-in-Not : goal.value::with_holds-returns-in-Not
value::with_holds-returns-in-Not t c =
    let a = c.args in
    let shape = a.view.now.signature.now in
    let rs = readings_of shape a.frame.now in
    let A = shown a.view.now in
    c.fails.ensures ∙ sym (ap (λ o. spec.is_true (reading shape (tree.With o (code_of a.left.now) a.right) rs A)) c.in-Not.is ∙ not_holds shape rs A (code_of a.left.now) a.right)

pub value::fails-returns-in-Exists : goal.value::fails-returns-in-Exists
value::fails-returns-in-Exists t c =
    let a = c.args in
    let shape = a.view.now.signature.now in
    let rs = readings_of shape a.frame.now in
    let A = shown a.view.now in
    not_of c.exists.result _ (c.exists.ensures ∙ ap (λ k. reading shape k rs A)
    (ap (λ (k : Code). tree.Exists c.in-Exists.over (code_of k)) c.deref.ensures ∙ sym (exists_form a.code.now c.in-Exists.over c.in-Exists.test c.in-Exists.is)))

pub value::fails-returns-in-Every : goal.value::fails-returns-in-Every
value::fails-returns-in-Every t c =
    let a = c.args in
    let shape = a.view.now.signature.now in
    let rs = readings_of shape a.frame.now in
    let A = shown a.view.now in
    not_of c.every.result _ (c.every.ensures ∙ ap (λ k. reading shape k rs A)
    (ap (λ (k : Code). tree.Every c.in-Every.over (code_of k)) c.deref-in-Every.ensures ∙ sym (every_form a.code.now c.in-Every.over c.in-Every.test c.in-Every.is)))

pub value::either_holds-returns-then-is_false : goal.value::either_holds-returns-then-is_false
value::either_holds-returns-then-is_false t c =
    let a = c.args in
    let shape = a.view.now.signature.now in
    let rs = readings_of shape a.frame.now in
    let A = shown a.view.now in
    c.holds.ensures ∙ sym (both_or shape rs A (code_of a.left.now) (code_of a.right.now)
    ∙ or_false (reading shape (code_of a.left.now) rs A) (reading shape (code_of a.right.now) rs A) (ap is_false (sym c.operand-tested.ensures) ∙ sym c.is_false.ensures ∙ c.if-is_false.true))

pub value::either_holds-returns-then-not-is_true : goal.value::either_holds-returns-then-not-is_true
value::either_holds-returns-then-not-is_true t c =
    let a = c.args in
    let shape = a.view.now.signature.now in
    let rs = readings_of shape a.frame.now in
    let A = shown a.view.now in
    sym (both_or shape rs A (code_of a.left.now) (code_of a.right.now)
    ∙ or_neither (reading shape (code_of a.left.now) rs A) (reading shape (code_of a.right.now) rs A) (ap is_false (sym c.operand-tested.ensures) ∙ sym c.is_false.ensures ∙ c.if-is_false.false)
    (ap spec.is_true (sym c.operand-tested.ensures) ∙ sym c.is_true.ensures ∙ c.if-not-is_true.true))

pub value::either_holds-returns : goal.value::either_holds-returns
value::either_holds-returns t c =
    let a = c.args in
    let shape = a.view.now.signature.now in
    let rs = readings_of shape a.frame.now in
    let A = shown a.view.now in
    c.is_truth.ensures ∙ ap (λ v. spec.is_true v || is_false v) c.operand-other.ensures ∙ sym (both_or shape rs A (code_of a.left.now) (code_of a.right.now)
    ∙ or_true (reading shape (code_of a.left.now) rs A) (reading shape (code_of a.right.now) rs A) (ap spec.is_true (sym c.operand-tested.ensures) ∙ sym c.is_true.ensures ∙ c.if-not-is_true.false))

pub value::both_hold-returns-in-Or : goal.value::both_hold-returns-in-Or
value::both_hold-returns-in-Or t c =
    let a = c.args in
    let shape = a.view.now.signature.now in
    let rs = readings_of shape a.frame.now in
    let A = shown a.view.now in
    c.either_holds.ensures ∙ sym (ap (λ o. spec.is_true (reading shape (tree.Both o (code_of a.left.now) (code_of a.right.now)) rs A)) c.in-Or.is)

pub value::both_hold-returns-then-not-holds : goal.value::both_hold-returns-then-not-holds
value::both_hold-returns-then-not-holds t c =
    let a = c.args in
    let shape = a.view.now.signature.now in
    let rs = readings_of shape a.frame.now in
    let A = shown a.view.now in
    let left = sym c.holds.ensures ∙ c.if-not-holds.true in
    sym (ap (λ o. spec.is_true (reading shape (tree.Both o (code_of a.left.now) (code_of a.right.now)) rs A)) c.in-And.is ∙ both_and shape rs A (code_of a.left.now) (code_of a.right.now)
    ∙ ap (λ b. b && spec.is_true (reading shape (code_of a.right.now) rs A)) left)

pub value::both_hold-returns-else-not-holds : goal.value::both_hold-returns-else-not-holds
value::both_hold-returns-else-not-holds t c =
    let a = c.args in
    let shape = a.view.now.signature.now in
    let rs = readings_of shape a.frame.now in
    let A = shown a.view.now in
    let left = sym c.holds.ensures ∙ c.if-not-holds.false in
    c.holds-in-And.ensures
    ∙ sym (ap (λ o. spec.is_true (reading shape (tree.Both o (code_of a.left.now) (code_of a.right.now)) rs A)) c.in-And.is ∙ both_and shape rs A (code_of a.left.now) (code_of a.right.now)
    ∙ ap (λ b. b && spec.is_true (reading shape (code_of a.right.now) rs A)) left)

pub value::all_hold-returns-then-not-holds : goal.value::all_hold-returns-then-not-holds
value::all_hold-returns-then-not-holds t c =
    let a = c.args in
    let shape = a.view.now.signature.now in
    let rs = readings_of shape a.frame.now in
    let A = shown a.view.now in
    let first = sym c.holds.ensures ∙ c.if-not-holds.true in
    sym (chain_true shape rs A (code_of a.first.now) a.rest.now c.requires.ands ∙ ap (λ b. b && list_all (holds_in shape rs A) a.rest.now) first)

pub value::all_hold-holds-tested-requires : goal.value::all_hold-holds-tested-requires
value::all_hold-holds-tested-requires t c =
    let a = c.args in
    let shape = a.view.now.signature.now in
    let small = link_size_within a.rest.now c.loop-i.i c.index-rest-i.result c.loop-i-test.true c.index-rest-i.is in
    let same = ap (λ (l : Op × Code). size (code_of l.1)) c.index-rest-i.is in
    let sound = link_sound_within shape a.rest.now c.loop-i.i c.index-rest-i.result c.loop-i-test.true c.index-rest-i.is c.requires.rest in
    (omega (arith, c.decreases, small, same), (subst (λ (l : Op × Code). IsSound shape (code_of l.1)) c.index-rest-i.is sound, c.requires.framed))

pub value::all_hold-returns-then-not-tested : goal.value::all_hold-returns-then-not-tested
value::all_hold-returns-then-not-tested t c =
    let a = c.args in
    let shape = a.view.now.signature.now in
    let rs = readings_of shape a.frame.now in
    let A = shown a.view.now in
    let first = sym c.holds.ensures ∙ c.if-not-holds.false in
    let fails = sym c.holds-tested.ensures ∙ c.if-not-tested.true in
    let more = list_all_at (holds_in shape rs A) a.rest.now c.loop-i.i c.index-rest-i.result c.loop-i-test.true fails in
    sym (chain_true shape rs A (code_of a.first.now) a.rest.now c.requires.ands ∙ (λ i. first i && more i))

pub value::all_hold-returns : goal.value::all_hold-returns
value::all_hold-returns t c =
    let a = c.args in
    let shape = a.view.now.signature.now in
    let rs = readings_of shape a.frame.now in
    let A = shown a.view.now in
    let first = sym c.holds.ensures ∙ c.if-not-holds.false in
    let more = ap (list_all (holds_in shape rs A)) (sym (take_all c.loop-i.i a.rest.now (omega arith))) ∙ c.loop-i.invariant in
    sym (chain_true shape rs A (code_of a.first.now) a.rest.now c.requires.ands ∙ (λ i. first i && more i))

-- ---- blocks

pub block_values::values-returns-in-Constant : goal.block_values::values-returns-in-Constant
block_values::values-returns-in-Constant t c k low =
    let a = c.args in
    let shape = a.view.now.signature.now in
    let rs = readings_of shape a.frame.now in
    let A = shown a.view.now in
    c.fill.ensures k (omega (arith, low, c.requires.few)) ∙ of_constant shape (always (at a.elements.now k) ∷ rs) A a.code.now c.in-Constant.value c.in-Constant.is

pub block_values::values-returns-in-Local : goal.block_values::values-returns-in-Local
block_values::values-returns-in-Local t c k low =
    let a = c.args in
    let shape = a.view.now.signature.now in
    let rs = readings_of shape a.frame.now in
    let A = shown a.view.now in
    c.local_values.ensures k (omega (arith, low, c.requires.few)) ∙ ap (λ t. value_for a.view.now a.frame.now t (at a.elements.now k)) (sym (local_form a.code.now c.in-Local.position c.in-Local.is))

pub block_values::values-returns-in-Cell : goal.block_values::values-returns-in-Cell
block_values::values-returns-in-Cell t c k low =
    let a = c.args in
    let shape = a.view.now.signature.now in
    let rs = readings_of shape a.frame.now in
    let A = shown a.view.now in
    c.fill-in-Cell.ensures k (omega (arith, low, c.requires.few)) ∙ of_cell shape (always (at a.elements.now k) ∷ rs) A a.code.now c.in-Cell.n c.cell_by_call.result c.in-Cell.is c.cell_by_call.ensures

pub block_values::local_values-returns-then-position-eq0 : goal.block_values::local_values-returns-then-position-eq0
block_values::local_values-returns-then-position-eq0 t c k low =
    let a = c.args in
    let shape = a.view.now.signature.now in
    let rs = readings_of shape a.frame.now in
    let A = shown a.view.now in
    local_first shape rs A (at a.elements.now k) a.position c.if-position-eq0.true

pub block_values::local_values-returns : goal.block_values::local_values-returns
block_values::local_values-returns t c k low =
    let a = c.args in
    let shape = a.view.now.signature.now in
    let rs = readings_of shape a.frame.now in
    let A = shown a.view.now in
    c.fill.ensures k low ∙ local_later shape rs A (at a.elements.now k) c.local_by_call-content.result a.position (omega arith) c.local_by_call-content.ensures

pub block_values::row_values-returns : goal.block_values::row_values-returns
block_values::row_values-returns t c k low =
    let a = c.args in
    let shape = a.view.now.signature.now in
    let rs = readings_of shape a.frame.now in
    let A = shown a.view.now in
    row_is shape (always (at a.elements.now k) ∷ rs) A a.first a.over.low a.over.count (code_of a.argument.now) (at c.values.new.out k) (at c.rows_at.new.values k) (c.values.ensures k low) (c.rows_at.ensures k low)

pub block_values::grid_values-returns : goal.block_values::grid_values-returns
block_values::grid_values-returns t c k low =
    let a = c.args in
    let shape = a.view.now.signature.now in
    let rs = readings_of shape a.frame.now in
    let A = shown a.view.now in
    grid_is shape (always (at a.elements.now k) ∷ rs) A a.place.now.first a.place.now.rows.low a.place.now.rows.count a.place.now.columns.low a.place.now.columns.count (code_of a.row.now) (code_of a.column.now) (at c.values.new.out k) (at c.values-2.new.out k) (at c.grids_at.new.values k) (c.values.ensures k low) (c.values-2.ensures k low) (c.grids_at.ensures k low)

pub block_values::with_values-returns : goal.block_values::with_values-returns
block_values::with_values-returns t c k low =
    let a = c.args in
    let shape = a.view.now.signature.now in
    let rs = readings_of shape a.frame.now in
    let A = shown a.view.now in
    with_is shape (always (at a.elements.now k) ∷ rs) A a.operation (code_of a.left.now) a.right (at c.values.new.out k) (at c.apply_each.new.values k) (c.values.ensures k low) (c.apply_each.ensures k low)

pub block_values::plus_values-returns : goal.block_values::plus_values-returns
block_values::plus_values-returns t c k low =
    let a = c.args in
    let shape = a.view.now.signature.now in
    let rs = readings_of shape a.frame.now in
    let A = shown a.view.now in
    with_is shape (always (at a.elements.now k) ∷ rs) A Add (code_of a.left.now) (Number a.right) (at c.values.new.out k) (at c.add_each.new.values k) (c.values.ensures k low) (c.add_each.ensures k low)

pub block_values::modulo_values-returns : goal.block_values::modulo_values-returns
block_values::modulo_values-returns t c k low =
    let a = c.args in
    let shape = a.view.now.signature.now in
    let rs = readings_of shape a.frame.now in
    let A = shown a.view.now in
    with_is shape (always (at a.elements.now k) ∷ rs) A Remainder (code_of a.left.now) (Number a.right.number) (at c.values.new.out k) (at c.remainder_of_each.new.values k) (c.values.ensures k low) (c.remainder_of_each.ensures k low)

pub block_values::equals_values-returns : goal.block_values::equals_values-returns
block_values::equals_values-returns t c k low =
    let a = c.args in
    let shape = a.view.now.signature.now in
    let rs = readings_of shape a.frame.now in
    let A = shown a.view.now in
    with_is shape (always (at a.elements.now k) ∷ rs) A Equal (code_of a.left.now) a.right (at c.values.new.out k) (at c.equal_each.new.values k) (c.values.ensures k low) (c.equal_each.ensures k low)

pub block_values::plus_modulo_values-returns : goal.block_values::plus_modulo_values-returns
block_values::plus_modulo_values-returns t c k low =
    let a = c.args in
    let shape = a.view.now.signature.now in
    let rs = readings_of shape a.frame.now in
    let A = shown a.view.now in
    turned_is shape (always (at a.elements.now k) ∷ rs) A (code_of a.left.now) (Number a.by) (Number a.over.number) (at c.values.new.out k) (at c.add_each.new.values k) (at c.remainder_of_each.new.values k) (c.values.ensures k low) (c.add_each.ensures k low) (c.remainder_of_each.ensures k low)

pub block_values::both_values-returns : goal.block_values::both_values-returns
block_values::both_values-returns t c k low =
    let a = c.args in
    let shape = a.view.now.signature.now in
    let rs = readings_of shape a.frame.now in
    let A = shown a.view.now in
    both_is shape (always (at a.elements.now k) ∷ rs) A a.operation (code_of a.left.now) (code_of a.right.now) (at c.values.new.out k) (at c.values-2.new.out k) (at c.apply_to_pairs.new.values k) (c.values.ensures k low) (c.values-2.ensures k low) (c.apply_to_pairs.ensures k low)

pub block_values::chain_values-loop-i-init : goal.block_values::chain_values-loop-i-init
block_values::chain_values-loop-i-init t c k low =
    let a = c.args in
    let shape = a.view.now.signature.now in
    let rs = readings_of shape a.frame.now in
    let A = shown a.view.now in
    chain_begins shape (always (at a.elements.now k) ∷ rs) A (code_of a.first.now) (links_of (map link_of a.rest.now)) (at c.values.new.out k) (c.values.ensures k low)

pub block_values::chain_values-values-requires-in-loop-i : goal.block_values::chain_values-values-requires-in-loop-i
block_values::chain_values-values-requires-in-loop-i t c =
    let a = c.args in
    let shape = a.view.now.signature.now in
    let rs = readings_of shape a.frame.now in
    let A = shown a.view.now in
    let small = link_size_within a.rest.now c.loop-i.i c.index-rest-i.result c.loop-i-test.true c.index-rest-i.is in
    let same = ap (λ (l : Op × Code). size (code_of l.1)) c.index-rest-i.is in
    let sound = link_sound_within shape a.rest.now c.loop-i.i c.index-rest-i.result c.loop-i-test.true c.index-rest-i.is c.requires.rest in
    (omega (arith, c.decreases, small, same), (c.requires.few, (subst (λ (l : Op × Code). IsSound shape (code_of l.1)) c.index-rest-i.is sound, c.requires.framed)))

pub block_values::chain_values-loop-i-preserved : goal.block_values::chain_values-loop-i-preserved
block_values::chain_values-loop-i-preserved t c k low =
    let a = c.args in
    let shape = a.view.now.signature.now in
    let rs = readings_of shape a.frame.now in
    let A = shown a.view.now in
    let same = sym c.index-rest-i.is in
    let before = at c.loop-i.out k in
    let other = at c.values-in-loop-i.new.out k in
    chain_goes_on shape (always (at a.elements.now k) ∷ rs) A a.rest.now c.loop-i.i c.index-rest-i.result
    before other (at c.apply_to_pairs.new.values k) _ c.loop-i-test.true c.index-rest-i.is (c.loop-i.invariant k low)
    (c.values-in-loop-i.ensures k low ∙ ap (λ (l : Op × Code). value_for a.view.now a.frame.now (code_of l.1) (at a.elements.now k)) same)
    (c.apply_to_pairs.ensures k low ∙ ap (λ (l : Op × Code). op l.0 before other) (read_at c.index-rest-i.result a.rest.now c.loop-i.i c.index-rest-i-in-loop-i.result c.loop-i-test.true ∙ same))

pub block_values::chain_values-returns : goal.block_values::chain_values-returns
block_values::chain_values-returns t c k low =
    let a = c.args in
    let shape = a.view.now.signature.now in
    let rs = readings_of shape a.frame.now in
    let A = shown a.view.now in
    chain_ends shape (always (at a.elements.now k) ∷ rs) A a.rest.now c.loop-i.i (at c.loop-i.out k) _ (omega arith) (c.loop-i.invariant k low)

pub block_values::values_singly-loop-k-preserved : goal.block_values::values_singly-loop-k-preserved
block_values::values_singly-loop-k-preserved t c =
    let a = c.args in
    let shape = a.view.now.signature.now in
    let rs = readings_of shape a.frame.now in
    let A = shown a.view.now in
    let l = c.loop-k in
    let low : l.k < 16 = omega (arith, c.requires.few) in
    let read = read_at Undef a.elements.now l.k c.index-elements-k.result (omega (arith, low)) in
    each_more Undef (λ k v. value_for a.view.now a.frame.now (code_of a.code.now) (at a.elements.now k)) _ l.out l.k c.value.result l.invariant low
    (c.value.ensures ∙ ap (value_for a.view.now a.frame.now (code_of a.code.now)) (c.unbranded_code.ensures ∙ read))

pub keep_holding::keep_singly-loop-k-preserved : goal.keep_holding::keep_singly-loop-k-preserved
keep_holding::keep_singly-loop-k-preserved t c =
    let a = c.args in
    let shape = a.view.now.signature.now in
    let rs = readings_of shape a.frame.now in
    let A = shown a.view.now in
    let l = c.loop-k in
    let low : l.k < 16 = omega (arith, c.requires.few) in
    let read = read_at Undef l.elements l.k c.index-elements-k.result (omega (arith, low, l.invariant.room)) in
    let p = holds_for a.view.now a.frame.now (code_of a.code.now) in
    let test = ap p (sym (l.invariant.so_far.rest l.k (omega arith)) ∙ sym read ∙ sym c.unbranded_code.ensures) ∙ sym c.holds.ensures in
    elim c.if-holds.branch [
      | keep_holding::keep_singly-then-holds w ↦ rw (w.elements-is, w.kept-is) (record {
        room = length-set l.elements l.kept (slice_index_or l.elements l.k c.index-elements-k.result) ∙ l.invariant.room;
        behind = omega arith;
        so_far = keeps_more Undef p _ l.elements l.kept l.k l.invariant.so_far (omega (arith, low)) (test ∙ w.if-holds.true)
            (slice_index_or l.elements l.k c.index-elements-k.result) read (omega (arith, low, l.invariant.room, l.invariant.behind)) l.invariant.behind;
      })
      | keep_holding::keep_singly-else-holds w ↦ rw (w.elements-is, w.kept-is) (record {
        room = l.invariant.room;
        behind = omega arith;
        so_far = keeps_less Undef p _ l.elements l.kept l.k l.invariant.so_far (omega (arith, low)) (test ∙ w.if-holds.false);
      })
    ]

pub keep_holding::keep_valued-returns-clause-kept : goal.keep_holding::keep_valued-returns-clause-kept
keep_holding::keep_valued-returns-clause-kept t c =
    let a = c.args in
    c.keep_tested.ensures.kept (holds_for a.view.now a.frame.now (code_of a.code.now)) (λ k low. ap spec.is_true (c.values.ensures k low))

pub keep_holding::keep_holding-returns-in-Chain-clause-kept : goal.keep_holding::keep_holding-returns-in-Chain-clause-kept
keep_holding::keep_holding-returns-in-Chain-clause-kept t c =
    let a = c.args in
    c.keep_chain.ensures.kept
    ∙ ap (λ k. filter (holds_for a.view.now a.frame.now k) (take a.count a.elements.now))
    ((λ i. tree.Chain (code_of (c.deref-in-Chain.ensures i)) (links_of (map link_of (c.as_slice.ensures.value i)))) ∙ sym (chain_form a.code.now c.in-Chain.first c.in-Chain.rest c.in-Chain.is))

pub keep_holding::keep_chain-returns-clause-kept : goal.keep_holding::keep_chain-returns-clause-kept
keep_holding::keep_chain-returns-clause-kept t c =
    let a = c.args in
    c.keep_tested.ensures.kept (holds_for a.view.now a.frame.now (tree.Chain (code_of a.first.now) (links_of (map link_of a.rest.now)))) (λ k low. ap spec.is_true (c.chain_values.ensures k low))

pub keep_holding::keep_both-returns-clause-kept : goal.keep_holding::keep_both-returns-clause-kept
keep_holding::keep_both-returns-clause-kept t c =
    let a = c.args in
    let shape = a.view.now.signature.now in
    let rs = readings_of shape a.frame.now in
    let A = shown a.view.now in
    let p = holds_for a.view.now a.frame.now (code_of a.left.now) in
    let q = holds_for a.view.now a.frame.now (code_of a.right.now) in
    let es = take a.count a.elements.now in
    c.keep_holding.ensures.kept ∙ ap (filter q) c.keep_holding-kept.ensures.kept ∙ filter_twice p q es
    ∙ filter_agree _ _ (λ v. sym (both_and shape (always v ∷ rs) A (code_of a.left.now) (code_of a.right.now))) es

pub keep_holding::keep_ands-loop-i-init : goal.keep_holding::keep_ands-loop-i-init
keep_holding::keep_ands-loop-i-init t c =
    let a = c.args in
    let shape = a.view.now.signature.now in
    let rs = readings_of shape a.frame.now in
    let A = shown a.view.now in
    record {
      few = c.keep_holding-kept.ensures.few;
      room = c.keep_holding-kept.ensures.room;
      kept = c.keep_holding-kept.ensures.kept ∙ filter_agree _ _ (λ v. and_nothing (holds_for a.view.now a.frame.now (code_of a.first.now) v)) (take a.count a.elements.now);
    }

pub keep_holding::keep_ands-keep_holding-kept-requires-in-loop-i : goal.keep_holding::keep_ands-keep_holding-kept-requires-in-loop-i
keep_holding::keep_ands-keep_holding-kept-requires-in-loop-i t c =
    let a = c.args in
    let shape = a.view.now.signature.now in
    let rs = readings_of shape a.frame.now in
    let A = shown a.view.now in
    let small = link_size_within a.rest.now c.loop-i.i c.index-rest-i.result c.loop-i-test.true c.index-rest-i.is in
    let same = ap (λ (l : Op × Code). size (code_of l.1)) c.index-rest-i.is in
    let sound = link_sound_within shape a.rest.now c.loop-i.i c.index-rest-i.result c.loop-i-test.true c.index-rest-i.is c.requires.rest in
    (omega (arith, c.decreases, small, same), (omega (arith, c.requires.few, c.loop-i.invariant.few), (subst (λ (l : Op × Code). IsSound shape (code_of l.1)) c.index-rest-i.is sound, c.requires.framed)))

pub keep_holding::keep_ands-loop-i-preserved : goal.keep_holding::keep_ands-loop-i-preserved
keep_holding::keep_ands-loop-i-preserved t c =
    let a = c.args in
    let l = c.loop-i in
    let h = λ (link : Op × Code) (v : Value). holds_for a.view.now a.frame.now (code_of link.1) v in
    let same = sym c.index-rest-i.is in
    record {
      few = omega (arith, c.keep_holding-kept-in-loop-i.ensures.few, l.invariant.few);
      room = c.keep_holding-kept-in-loop-i.ensures.room;
      kept = c.keep_holding-kept-in-loop-i.ensures.kept ∙ ap (λ (link : Op × Code). filter (h link) (take l.kept l.elements)) same ∙ ap (filter (h c.index-rest-i.result)) l.invariant.kept
          ∙ one_test_more h (holds_for a.view.now a.frame.now (code_of a.first.now)) a.rest.now l.i c.index-rest-i.result (take a.count a.elements.now) c.loop-i-test.true c.index-rest-i.is;
    }

pub keep_holding::keep_ands-returns-clause-kept : goal.keep_holding::keep_ands-returns-clause-kept
keep_holding::keep_ands-returns-clause-kept t c =
    let a = c.args in
    let shape = a.view.now.signature.now in
    let rs = readings_of shape a.frame.now in
    let A = shown a.view.now in
    let all = take_all c.loop-i.i a.rest.now (omega arith) in
    c.loop-i.invariant.kept
    ∙ filter_agree _ _ (λ v. ap (λ links. holds_for a.view.now a.frame.now (code_of a.first.now) v && list_all (holds_in shape (always v ∷ rs) A) links) all
    ∙ sym (chain_true shape (always v ∷ rs) A (code_of a.first.now) a.rest.now c.requires.ands)) (take a.count a.elements.now)

pub value::exists_from-loop-i-init : goal.value::exists_from-loop-i-init
value::exists_from-loop-i-init t c = refl

pub value::exists_from-loop-i-preserved : goal.value::exists_from-loop-i-preserved
value::exists_from-loop-i-preserved t c =
    let a = c.args in
    let l = c.loop-i in
    let p = holds_for a.view.now a.frame.now (code_of a.test.now) in
    l.invariant ∙ none_in_block p l.i c.min-count.result c.keep_holding.result a.universe.now c.elements_from-elements.result c.keep_holding.new.elements c.elements_from-elements.ensures c.keep_holding.ensures.kept (omega (arith, c.keep_holding.ensures.few, c.keep_holding.ensures.room, c.min-count.ensures)) (omega (arith, c.if-keep_holding-gt0.false))

pub value::exists_from-returns-then-keep_holding-gt0 : goal.value::exists_from-returns-then-keep_holding-gt0
value::exists_from-returns-then-keep_holding-gt0 t c =
    let a = c.args in
    let l = c.loop-i in
    let p = holds_for a.view.now a.frame.now (code_of a.test.now) in
    sym (l.invariant ∙ any_in_block p l.i c.min-count.result c.keep_holding.result a.universe.now c.elements_from-elements.result c.keep_holding.new.elements c.elements_from-elements.ensures c.keep_holding.ensures.kept (omega (arith, c.keep_holding.ensures.few, c.keep_holding.ensures.room, c.min-count.ensures)) c.if-keep_holding-gt0.true)

pub value::exists_from-returns : goal.value::exists_from-returns
value::exists_from-returns t c =
    let a = c.args in
    let l = c.loop-i in
    let p = holds_for a.view.now a.frame.now (code_of a.test.now) in
    sym (l.invariant ∙ ap (list_any p) (drop_all l.i a.universe.now (omega (arith, c.size-size.ensures.size))))

pub value::every_from-loop-i-init : goal.value::every_from-loop-i-init
value::every_from-loop-i-init t c = refl

pub value::every_from-loop-i-preserved : goal.value::every_from-loop-i-preserved
value::every_from-loop-i-preserved t c =
    let a = c.args in
    let l = c.loop-i in
    let p = holds_for a.view.now a.frame.now (code_of a.test.now) in
    l.invariant ∙ all_in_block p l.i c.min-count.result c.keep_holding.result a.universe.now c.elements_from-elements.result c.keep_holding.new.elements c.elements_from-elements.ensures c.keep_holding.ensures.kept (omega (arith, c.keep_holding.ensures.few, c.keep_holding.ensures.room, c.min-count.ensures)) (omega (arith, c.loop-i-test.true, c.size-size.ensures.size, c.min-count.ensures)) c.if-keep_holding-count.false

pub value::every_from-returns-then-keep_holding-count : goal.value::every_from-returns-then-keep_holding-count
value::every_from-returns-then-keep_holding-count t c =
    let a = c.args in
    let l = c.loop-i in
    let p = holds_for a.view.now a.frame.now (code_of a.test.now) in
    sym (l.invariant ∙ some_fails_in_block p l.i c.min-count.result c.keep_holding.result a.universe.now c.elements_from-elements.result c.keep_holding.new.elements c.elements_from-elements.ensures c.keep_holding.ensures.kept (omega (arith, c.keep_holding.ensures.few, c.keep_holding.ensures.room, c.min-count.ensures)) (omega (arith, c.loop-i-test.true, c.size-size.ensures.size, c.min-count.ensures)) c.if-keep_holding-count.true)

pub value::every_from-returns : goal.value::every_from-returns
value::every_from-returns t c =
    let a = c.args in
    let l = c.loop-i in
    let p = holds_for a.view.now a.frame.now (code_of a.test.now) in
    sym (l.invariant ∙ ap (list_all p) (drop_all l.i a.universe.now (omega (arith, c.size-size.ensures.size))))
