use Rattle.std.proofs.Common.{◌∙◌, ◌++◌, ◌∷◌, [], ap, arith, map, sym}
use Rattle.std.specs.List.{range_with_len}
use Rattle.std.proofs.lemmas.List.FromFn.{map-range_with_len_more}
use Rattle.asm_syntax.specs.code.Views.{spec_of}
use Rattle.asm_explore_table.specs.Tables.{numbered}
use Rattle.asm_explore_table.specs.code.StepsMade.{names_said}
use Rattle.asm_graph.specs.Labels.{shown_by}
use Rattle.asm_graph.proofs.named_locations.shown_locations.Goals as goal

pub loop-n-preserved : goal.loop-n-preserved
loop-n-preserved c =
    let s = spec_of c.args.checked.now.spec in
    let names = names_said c.args.names.now in
    let n = c.loop-n.n in
    let so_far = map (λ m. shown_by s names (numbered s m)) (range_with_len 0 n) in
    c.in_ok-push.ensures.items ∙ ap (λ marks. marks ++ c.in_ok-is_shown.field-0 ∷ []) c.loop-n.invariant
    ∙ ap (λ mark. so_far ++ mark ∷ []) c.in_ok-is_shown.ensures ∙ sym (map-range_with_len_more (λ m. shown_by s names (numbered s m)) 0 n n (omega arith))
