use Rattle.std.proofs.Common.{◌≡◌, ◌∙◌, Bool, [], sym, ap, subst}
use Rattle.std.specs.Prelude.{IsTrue}
use Rattle.asm_reader.specs.ScriptLines.{pick}
use Rattle.asm_state.specs.Signature.{Shape, state_of}
use Rattle.asm_state.specs.Updates.{UpdateSet}
use Rattle.asm_syntax.specs.code.Views.{spec_of}
use Rattle.asm_check.specs.Faults.{inits}
use Rattle.asm_check.specs.Shapes.{shape_of}
use Rattle.asm_updates.specs.code.Stands.{Stands}
use Rattle.asm_meaning.specs.Declarations.{main_rule, program_of, specification_of}
use Rattle.asm_meaning.specs.Does.{Outcome, does}
use Rattle.asm_eval.specs.code.FormedOutcomes.{IsFormed, IsSet}
use Rattle.asm_meaning.specs.Program.{nothing_bound}
use Rattle.asm_eval.specs.code.ShownViews.{shown}
use Rattle.asm_meaning.specs.Yields.{Result, Exhausted, Gives}
use Rattle.asm_code.specs.code.RuleMeaning.{meaning}
use Rattle.asm_code.specs.code.RuleViews.{rule_of}
use Rattle.asm_explore.specs.Search.{IsQuiet, LeadsOn}
use Rattle.asm_explore.proofs.SearchEnds.{errs_or}
use Rattle.asm_explore.proofs.StepLeads.{exhausted_stays}
use Rattle.asm_explore.proofs.quiet_step.first_changes.Goals as goal

pub returns-in-Exhausted : goal.returns-in-Exhausted
returns-in-Exhausted c = λ yes quiet.
    let a = c.args in
    let m = a.specified.now in
    let s = spec_of m.checked.now.spec in
    let shape = shape_of s in
    let signature = c.signature-signature.result.now in
    let same : signature ≡ shape = c.signature-signature.ensures in
    let viewed : c.new-view.result.signature.now ≡ shape = c.new-view.ensures.parts.0 ∙ same in
    let A = state_of shape a.state.now in
    let shows : shown c.new-view.result ≡ A =
    c.new-view.ensures.alone (c.new-nothing.ensures.empty signature c.count.ensures.sound c.count.ensures.count) ∙ ap (λ sh. state_of sh a.state.now) same in
    let root : c.new-2.result ≡ [] = c.new-2.ensures ∙ c.new.ensures.items in
    let script = c.new-script.result in
    let R = rule_of m.code.now in
    let yields : Outcome = meaning c.new-view.result.signature.now m.turns (pick script 1) R [] [] (shown c.new-view.result) c.new-2.result in
    let step : yields ≡ does (program_of s) m.turns script 1 A nothing_bound [] (main_rule s (inits s)) =
    (λ i. meaning (viewed i) m.turns (pick script 1) R [] [] (shows i) (root i))
    ∙ c.resolving_laws.ensures.means s (main_rule s (inits s)) R m.turns script 1 A [] c.requires.sound.main in
    let formed : yields.result ≡ Exhausted c.in-Exhausted.field-0 = subst (IsFormed c.new-view.result.signature.now yields) c.in-Exhausted.is c.in_ok-whole_piece.ensures in
    exhausted_stays _ A (λ B. B ≡ A) c.in-Exhausted.field-0 (ap (λ (o : Outcome). o.result) (sym step) ∙ formed) (quiet script 1)

pub returns : goal.returns
returns c =
    let a = c.args in
    let m = a.specified.now in
    let s = spec_of m.checked.now.spec in
    let shape = shape_of s in
    let signature = c.signature-signature.result.now in
    let same : signature ≡ shape = c.signature-signature.ensures in
    let viewed : c.new-view.result.signature.now ≡ shape = c.new-view.ensures.parts.0 ∙ same in
    let A = state_of shape a.state.now in
    let shows : shown c.new-view.result ≡ A =
    c.new-view.ensures.alone (c.new-nothing.ensures.empty signature c.count.ensures.sound c.count.ensures.count) ∙ ap (λ sh. state_of sh a.state.now) same in
    let root : c.new-2.result ≡ [] = c.new-2.ensures ∙ c.new.ensures.items in
    let script = c.new-script.result in
    let R = rule_of m.code.now in
    let yields : Outcome = meaning c.new-view.result.signature.now m.turns (pick script 1) R [] [] (shown c.new-view.result) c.new-2.result in
    let step : yields ≡ does (program_of s) m.turns script 1 A nothing_bound [] (main_rule s (inits s)) =
    (λ i. meaning (viewed i) m.turns (pick script 1) R [] [] (shows i) (root i))
    ∙ c.resolving_laws.ensures.means s (main_rule s (inits s)) R m.turns script 1 A [] c.requires.sound.main in
    let formed : IsSet c.new-view.result.signature.now yields c.in-Set.set c.in-Set.instances = subst (IsFormed c.new-view.result.signature.now yields) c.in-Set.is c.in_ok-whole_piece.ensures in
    let stands : Stands signature c.in-Set.set formed.set = subst (λ (sh : Shape). Stands sh c.in-Set.set formed.set) c.new-view.ensures.parts.0 formed.stands in
    errs_or (λ (so : Bool). IsTrue so → (U : UpdateSet) → Stands signature c.in-Set.set U → ¬ (LeadsOn (Gives U) (state_of signature a.state.now) (λ B. B ≡ state_of signature a.state.now)))
    (λ (so : Bool). IsTrue so → ¬ (IsQuiet (specification_of s) m.turns A)) c.changes.result
    (λ so h yes quiet. h yes formed.set stands
    (subst (λ (sh : Shape). LeadsOn (Gives formed.set) (state_of sh a.state.now) (λ B. B ≡ state_of sh a.state.now)) (sym same)
    (subst (λ (r : Result). LeadsOn r A (λ B. B ≡ A)) (ap (λ (o : Outcome). o.result) (sym step) ∙ formed.gives) (quiet script 1))))
    c.changes.ensures
