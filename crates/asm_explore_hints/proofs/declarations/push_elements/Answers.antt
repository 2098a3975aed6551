use Rattle.std.proofs.Common.{◌++◌, map}
use Rattle.asm_syntax.specs.code.Views.{name_of}
use Rattle.asm_explore_hints.specs.code.DeclaredNames.{seen_of}
use Rattle.asm_explore_hints.specs.declared.declarations.Meaning.TheVariants.{Element}
use Rattle.asm_explore_hints.proofs.DeclaredSteps.{one_more}
use Rattle.asm_explore_hints.proofs.declarations.push_elements.Goals as goal

pub loop-name-preserved : goal.loop-name-preserved
loop-name-preserved c =
    one_more seen_of (λ y. (name_of y, Element)) c.args.elements.now c.loop-name.name-index c.name-item.result c.loop-name.all.items c.push_plain.new.all.items
    (map seen_of c.args.all.now.items ++ map (λ y. (name_of y, Element)) c.args.elements.now) c.loop-name-test.true c.name-item.is c.in_ok-push_plain.ensures c.loop-name.invariant
