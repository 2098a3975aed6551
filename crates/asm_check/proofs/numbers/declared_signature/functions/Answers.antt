use Rattle.std.proofs.Common.{◌++◌, map, sym, ap, ◌∙◌, append-nil}
use Rattle.std.specs.Prelude.{filter_map}
use Rattle.asm_syntax.specs.code.Views.{item_of, spec_of}
use Rattle.asm_check.specs.Shapes.{function_given, shape_of}
use Rattle.asm_check.proofs.RestOfList.{at_end, with_one, with_none}
use Rattle.asm_check.proofs.numbers.declared_signature.functions.Goals as goal
use Rattle.asm_check.proofs.numbers.declared_signature.functions.Goals.{in-Some+in_ok-push, in_default}

pub loop-item-preserved : goal.loop-item-preserved
loop-item-preserved c =
    elim c.match-branch-2.branch [
      | in-Some+in_ok-push w ↦
          with_one (function_given (spec_of c.args.numbered.now.spec.now)) item_of c.loop-item.functions.items (filter_map (function_given (spec_of c.args.numbered.now.spec.now)) (map item_of c.args.numbered.now.spec.now.items.items)) c.args.numbered.now.spec.now.items.items
          c.deref-item-items.result.now c.loop-item.item-index c.item-item.result c.deref-item-items.ensures.value c.loop-item-test.true c.item-item.is
          w.in-Some.function c.match-branch-2.functions.items (ap (λ v. v.items) w.functions-is ∙ w.in_ok-push.ensures.items) (sym w.in-Some.is ∙ c.in_ok-function.ensures) c.loop-item.invariant
      | in_default w ↦
          with_none (function_given (spec_of c.args.numbered.now.spec.now)) item_of c.loop-item.functions.items (filter_map (function_given (spec_of c.args.numbered.now.spec.now)) (map item_of c.args.numbered.now.spec.now.items.items)) c.args.numbered.now.spec.now.items.items
          c.deref-item-items.result.now c.loop-item.item-index c.item-item.result c.deref-item-items.ensures.value c.loop-item-test.true c.item-item.is
          c.match-branch-2.functions.items (ap (λ v. v.items) w.functions-is) (sym w.in_default.is ∙ c.in_ok-function.ensures) c.loop-item.invariant
    ]

pub returns : goal.returns
unfolding shape_of
returns c =
    sym (append-nil c.loop-item.functions.items)
    ∙ ap (λ xs. c.loop-item.functions.items ++ filter_map (function_given (spec_of c.args.numbered.now.spec.now)) (map item_of xs)) (sym (at_end c.args.numbered.now.spec.now.items.items c.deref-item-items.result.now c.loop-item.item-index c.deref-item-items.ensures.value c.loop-item-test.false))
    ∙ c.loop-item.invariant
