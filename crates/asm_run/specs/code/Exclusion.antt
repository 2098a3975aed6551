-- Bridge to the code. Laws of refusals.
--     IsNamed e              the refusal is of the text, of the script or of the limits
--     OneNamedRefusal        a text has one of these with its script and limits, at most
--     NoRunBesideARefusal    a text, a script and limits that have a run have none of these
--     RunOrRefusal           each text, script and limits have a run, with its trace, or one of
--                            these
use Rattle.std.specs.Prelude.{◌≡◌, ◌⊎◌, ℕ, true, List, [], Option, Some}
use Rattle.asm_syntax.specs.SourceTree.{Spec}
use Rattle.asm_reader.specs.ScriptLines.{Script}
use Rattle.asm_reader.specs.ScriptText.{IsScript}
use Rattle.asm_limits.specs.Limits.{are_in_range}
use Rattle.asm_run.specs.Headline.{IsAccepted, IsDone, Explains}
use Rattle.asm_run.specs.declared.end.End.{End}
use Rattle.asm_run.specs.declared.error.RunError.{RunError}
use Rattle.asm_run.specs.declared.error.RunError.TheVariants as error
use Rattle.asm_limits.specs.declared.run_limits.Limits.{Limits}

abbrev pub IsNamed : RunError → Type 0
IsNamed (error.Read e) = Unit {0}
IsNamed (error.Check e) = Unit {0}
IsNamed (error.Script e) = Unit {0}
IsNamed error.Limits = Unit {0}
IsNamed error.Memory = ⊥
IsNamed error.Write = ⊥

abbrev pub OneNamedRefusal : Type 0
OneNamedRefusal =
    (text script_text : List ℕ) (limits : Limits) (old new other_old other_new : Option (List ℕ)) (e f : RunError) → IsNamed e → IsNamed f
    → Explains text script_text limits old new e → Explains text script_text limits other_old other_new f → e ≡ f

abbrev pub NoRunBesideARefusal : Type 0
NoRunBesideARefusal =
    (text script_text : List ℕ) (limits : Limits) (old new : Option (List ℕ)) (s : Spec) (script : Script) (e : RunError) → IsAccepted text s
    → IsScript script_text script
    → are_in_range limits ≡ true → IsNamed e → ¬ Explains text script_text limits old new e

abbrev pub RunOrRefusal : Type 0
RunOrRefusal =
    (text script_text : List ℕ) (limits : Limits)
    → ((answer : End) × (trace : List ℕ) × IsDone text script_text limits (Some []) (Some trace) answer)
    ⊎ ((e : RunError) × IsNamed e × Explains text script_text limits (Some []) (Some []) e)
