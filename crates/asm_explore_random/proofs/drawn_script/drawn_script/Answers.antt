use Rattle.std.proofs.Common.{◌≡◌, inl, inr}
use Rattle.std.proofs.lemmas.Result.{IfErr-weaker, IfOk-weaker}
use Rattle.asm_explore_report.specs.Refusals.{IsSpecificationRefused}
use Rattle.asm_explore_random.proofs.UndrawnScripts.{memory_explains, refused_text}
use Rattle.asm_explore_random.proofs.drawn_script.drawn_script.Goals as goal

pub returns-in-Err-clause-drawn : goal.returns-in-Err-clause-drawn
returns-in-Err-clause-drawn c =
    IfOk-weaker c.no_script.result _ _
    (λ script is.
    let refused = refused_text (IsSpecificationRefused c.args.text.now c.args.settings.now.spec.now) c.in-Err.fault c.in-Err.ensures.refused is.1 in
    inr (is.0, (refused.0, inl refused.1)))
    c.no_script.ensures.empty

pub returns-in-Err-clause-undrawn : goal.returns-in-Err-clause-undrawn
returns-in-Err-clause-undrawn c =
    IfErr-weaker c.no_script.result _ _ (memory_explains c.args.text.now c.args.conditions.now c.args.settings.now c.args.seed) c.no_script.ensures.memory

pub returns-in-Ok-clause-undrawn : goal.returns-in-Ok-clause-undrawn
returns-in-Ok-clause-undrawn c = c.script_of-script.ensures.undrawn c.args.text.now c.in-Ok.ensures.found
