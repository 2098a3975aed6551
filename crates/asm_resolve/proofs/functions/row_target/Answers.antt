use Rattle.std.proofs.Common.{subst}
use Rattle.asm_code.specs.code.CodeTree as tree
use Rattle.asm_code.specs.code.CodeViews.{code_of}
use Rattle.asm_code.specs.code.RuleViews.{target_code_of}
use Rattle.asm_code.specs.declared.code.Code.{Code}
use Rattle.asm_code.specs.declared.rule_code.TargetCode.TheVariants as place
use Rattle.asm_resolve.specs.code.FunctionCodes.{IsLocated}
use Rattle.asm_resolve.proofs.TargetLocations.{row_located, held_located}
use Rattle.asm_resolve.proofs.functions.row_target.Goals as goal

pub returns-in-Some : goal.returns-in-Some
returns-in-Some c =
    let shape = c.args.signature.now in
    let to = target_code_of (place.Row c.in-Some.first c.in-Some.over c.in_ok-new.field-0) in
    subst (λ (t : Code). IsLocated shape c.args.f (tree.code_then (code_of t) tree.no_codes) to) c.in_ok-new.ensures.ok
    (row_located shape c.args.f c.requires.fits c.in-Some.first c.in-Some.over c.in-Some.ensures c.in_ok-new.field-0)

pub returns : goal.returns
returns c = held_located c.args.signature.now c.args.f c.requires.kind c.in_ok-vec.field-0 _ c.in_ok-vec.ensures.items
