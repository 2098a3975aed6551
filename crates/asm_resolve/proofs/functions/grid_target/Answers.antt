use Rattle.std.proofs.Common.{subst}
use Rattle.asm_code.specs.code.CodeTree as tree
use Rattle.asm_code.specs.code.CodeViews.{code_of}
use Rattle.asm_code.specs.code.RuleViews.{target_code_of}
use Rattle.asm_code.specs.declared.code.Code.{Code}
use Rattle.asm_code.specs.declared.rule_code.TargetCode.TheVariants as place
use Rattle.asm_resolve.specs.code.FunctionCodes.{IsLocated}
use Rattle.asm_resolve.proofs.TargetLocations.{grid_located, held_located}
use Rattle.asm_resolve.proofs.functions.grid_target.Goals as goal

pub returns-in-Some : goal.returns-in-Some
returns-in-Some c =
    let shape = c.args.signature.now in
    let in_boxes = c.in_ok-row in
    let s = in_boxes.row in
    let t = in_boxes.column in
    let to = target_code_of (place.Grid c.in-Some.place s t) in
    let by = λ (k j : Code). IsLocated shape c.args.f (tree.code_then (code_of k) (tree.code_then (code_of j) tree.no_codes)) to in
    subst (λ (j : Code). by c.args.row j) in_boxes.ensures.column
    (subst (λ (k : Code). by k t.value) in_boxes.ensures.row (grid_located shape c.args.f c.requires.fits c.in-Some.place c.in-Some.ensures s t))

pub returns : goal.returns
returns c = held_located c.args.signature.now c.args.f c.requires.kind c.in_ok-vec.field-0 _ c.in_ok-vec.ensures.items
