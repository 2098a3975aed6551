use Rattle.asm_syntax.specs.code.Views.{spec_of}
use Rattle.asm_meaning.specs.code.MeantTrees.{meant}
use Rattle.asm_resolve.proofs.MainRule.{main_is, main_resolved}
use Rattle.asm_resolve.proofs.main_rule.resolve_main.Goals as goal

pub returns : goal.returns
returns c =
    let s = spec_of c.args.checked.now.spec in
    let one = c.main.ensures.one in
    main_resolved s c.resolve_rule.result (meant c.rule.result.1.now) (main_is s one.0 c.main.result _ _ one.1 (c.main.ensures.main one.0 one.1) c.rule.ensures) c.resolve_rule.ensures.resolved
