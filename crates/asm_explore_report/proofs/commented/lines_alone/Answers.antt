use Rattle.std.proofs.Common.{◌≡◌, ◌∙◌, List, IfErr, IfOk, ap, subst}
use Rattle.std.proofs.lemmas.List.{take_all}
use Rattle.std.specs.String.{string_bytes}
use Rattle.asm_meaning.specs.Scripts.{IsUnrepeated}
use Rattle.asm_reader.specs.ExactLines.{exactly}
use Rattle.asm_reader.specs.ScriptLines.{Line}
use Rattle.asm_reader.specs.ScriptText.{IsScript}
use Rattle.asm_explore.specs.WrittenScripts.{AreSteps, IsTextOf, IsTextRefusal, lines_said, lines_text, numbers_in}
use Rattle.asm_explore_report.specs.Commented.{said_by}
use Rattle.asm_explore_report.proofs.WholeLines.{written_all}
use Rattle.asm_explore_report.proofs.commented.lines_alone.Goals as goal

pub returns-clause-text : goal.returns-clause-text
returns-clause-text c =
    let said : lines_said c.as_slice.result.now ≡ said_by c.args.entries.now =
    ap lines_said c.as_slice.ensures.value ∙ (c.loop-i.invariant ∙ ap said_by (take_all c.loop-i.i c.args.entries.now c.loop-i-test.false)) in
    subst (λ (ls : List Line). IfOk c.script_text.result (λ text. IsTextOf ls (string_bytes text))) (written_all (lines_said c.as_slice.result.now) ∙ said) c.script_text.ensures.text

pub returns-clause-script : goal.returns-clause-script
returns-clause-script c =
    let said : lines_said c.as_slice.result.now ≡ said_by c.args.entries.now =
    ap lines_said c.as_slice.ensures.value ∙ (c.loop-i.invariant ∙ ap said_by (take_all c.loop-i.i c.args.entries.now c.loop-i-test.false)) in
    subst (λ (ls : List Line). IfOk c.script_text.result (λ text. AreSteps ls → IsUnrepeated (exactly ls) → IsScript (string_bytes text) (exactly ls))) said
    (subst (λ (ls : List Line). IfOk c.script_text.result (λ text. AreSteps (lines_said c.as_slice.result.now) → IsUnrepeated (exactly (lines_said c.as_slice.result.now)) → IsScript (string_bytes text) (exactly ls)))
    (written_all (lines_said c.as_slice.result.now)) c.script_text.ensures.script)

pub returns-clause-refused : goal.returns-clause-refused
returns-clause-refused c =
    let said : lines_said c.as_slice.result.now ≡ said_by c.args.entries.now =
    ap lines_said c.as_slice.ensures.value ∙ (c.loop-i.invariant ∙ ap said_by (take_all c.loop-i.i c.args.entries.now c.loop-i-test.false)) in
    subst (λ (ls : List Line). IfErr c.script_text.result (IsTextRefusal (numbers_in ls) (lines_text ls))) (written_all (lines_said c.as_slice.result.now) ∙ said) c.script_text.ensures.refused
