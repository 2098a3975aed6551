use Rattle.std.proofs.Common.{◌≡◌, ℕ, [], List, inl, inr, subst}
use Rattle.std.specs.Prelude.{IfErr, IfOk}
use Rattle.std.proofs.lemmas.Result.{IfErr-weaker, IfOk-weaker}
use Rattle.asm_syntax.specs.code.Views.{spec_of, test_of}
use Rattle.asm_meaning.specs.Declarations.{specification_of}
use Rattle.asm_explore.specs.code.ResolvedConditions.{term_holds}
use Rattle.asm_random.specs.DrawnTexts.{IsDrawnText}
use Rattle.asm_explore_texts.specs.Conditions.{texts_of}
use Rattle.asm_explore_texts.specs.RefusedTexts.{IsOneRefused}
use Rattle.asm_explore_texts.specs.code.CodedConditions.{terms_in}
use Rattle.asm_explore_random.specs.DrawnScripts.{IsUnwrittenDraw}
use Rattle.asm_explore_random.specs.declared.drawn_script.Undrawn.TheVariants.{Unwritten}
use Rattle.asm_explore_random.proofs.UndrawnScripts.{explains, memory_explains, refused_text}
use Rattle.asm_explore_random.proofs.drawn_script.script_of.Goals as goal

pub returns-in-Ok-clause-drawn : goal.returns-in-Ok-clause-drawn
returns-in-Ok-clause-drawn c = λ text accepted.
    let checked = c.args.checked.now in
    let settings = c.args.settings.now in
    let tree = spec_of checked.spec in
    let always = c.in-Ok.always in
    let joined = c.in-Ok.ensures.found in
    let asked = c.all_asked_law.ensures (texts_of c.args.conditions.now) checked always joined in
    IfOk-weaker c.bytes_of-script.result _ _
    (λ script is. inl (record {
      tree = tree;
      always = test_of always;
      is_asked = record { accepted = accepted; terms = terms_in joined.links; asked = asked };
      drawn = subst (λ (turns : ℕ). IsDrawnText (specification_of tree) turns (term_holds checked always) c.args.seed settings.steps script.items) c.turns_of-turns.ensures is;
    }))
    c.bytes_of-script.ensures.drawn

pub returns-in-Ok-clause-undrawn : goal.returns-in-Ok-clause-undrawn
returns-in-Ok-clause-undrawn c = λ text accepted.
    let checked = c.args.checked.now in
    let settings = c.args.settings.now in
    let tree = spec_of checked.spec in
    let always = c.in-Ok.always in
    let joined = c.in-Ok.ensures.found in
    let asked = c.all_asked_law.ensures (texts_of c.args.conditions.now) checked always joined in
    IfErr-weaker c.bytes_of-script.result _ _
    (λ why h. explains text c.args.conditions.now settings c.args.seed tree (test_of always) (record { accepted = accepted; terms = terms_in joined.links; asked = asked }) why
    (λ is. subst (λ (turns : ℕ). IsUnwrittenDraw tree (test_of always) turns c.args.seed settings.steps) c.turns_of-turns.ensures (h is)))
    c.bytes_of-script.ensures.undrawn

pub returns-in-Err-clause-drawn : goal.returns-in-Err-clause-drawn
returns-in-Err-clause-drawn c = λ text accepted.
    let tree = spec_of c.args.checked.now.spec in
    IfOk-weaker c.no_script.result _ _
    (λ script is.
    let refused = refused_text (IsOneRefused tree c.args.conditions.now) c.in-Err.fault c.in-Err.ensures.refused is.1 in
    inr (is.0, (refused.0, inr (tree, accepted, refused.1))))
    c.no_script.ensures.empty

pub returns-in-Err-clause-undrawn : goal.returns-in-Err-clause-undrawn
returns-in-Err-clause-undrawn c = λ text accepted.
    IfErr-weaker c.no_script.result _ _ (memory_explains text c.args.conditions.now c.args.settings.now c.args.seed) c.no_script.ensures.memory
