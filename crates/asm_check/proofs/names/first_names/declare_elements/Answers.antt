use Rattle.std.proofs.Common.{map, arith}
use Rattle.asm_syntax.specs.code.Views.{name_of}
use Rattle.asm_check.specs.Names.{declares, Element}
use Rattle.asm_check.proofs.NameLemmas.DeclarationsGathered.{gathers_step, elements_one}
use Rattle.asm_check.proofs.names.first_names.declare_elements.Goals as goal

pub loop-element-preserved : goal.loop-element-preserved
loop-element-preserved c =
    gathers_step (λ xs. map (λ y. declares y (Element c.args.k)) (map name_of xs)) _ c.args.elements.now c.loop-element.element-index c.element-item.result _ _ _ _ _ _ (omega arith)
    c.element-item.is (elements_one name_of c.args.k _ _) c.loop-element.invariant c.in_ok-declare_name.ensures
