-- Free. The run that goes on after a step or ends in it, and what stands of the step.
--     goes_on, ends_exhausted, ends_faulty       the run after a step with a consistent set, and its
--                                                ends
use Rattle.std.proofs.Common.{◌≡◌, ℕ, ◌+◌, ◌<◌, List, [], length, min, take, sym, ap, subst, ◌∙◌}
use Rattle.asm_state.specs.Location.{Location, State}
use Rattle.asm_state.specs.Signature.{Shape, location_at}
use Rattle.asm_state.specs.Updates.{UpdateSet, IsConsistent, IsFirstFault, fire}
use Rattle.asm_updates.specs.Faults.{fault_of}
use Rattle.asm_updates.specs.code.SummaryRanges.{SummaryRanges}
use Rattle.asm_updates.specs.code.Stands.{Stands}
use Rattle.asm_updates.specs.declared.fault.Fault.{Fault}
use Rattle.asm_syntax.specs.SourceTree.{Spec}
use Rattle.asm_reader.specs.ScriptLines.{Script, pick}
use Rattle.asm_check.specs.Faults.{inits}
use Rattle.asm_check.specs.Shapes.{shape_of}
use Rattle.asm_meaning.specs.Declarations.{main_rule, specification_of}
use Rattle.asm_meaning.specs.Does.{Outcome, greatest_count}
use Rattle.asm_meaning.specs.Program.{nothing_bound}
use Rattle.asm_meaning.specs.Run.{AtExhausted, AtFault, Run, Specification, run, step, IsAfter}
use Rattle.asm_meaning.specs.RunLaws.{RunLaws}
use Rattle.asm_meaning.specs.Story.{Story, outcome_of, step_tells}
use Rattle.asm_meaning.specs.Yields.{Path, Gives, Exhausted}
use Rattle.asm_meaning.proofs.Stories.{told_outcomes}
use Rattle.asm_eval.specs.code.FormedOutcomes.{IsSet}
use Rattle.asm_code.specs.code.RuleStories.{telling}
use Rattle.asm_code.specs.code.RuleTree.{RuleCode}
use Rattle.asm_resolve.specs.code.ResolvingLaws.{ResolvingLaws}
use Rattle.asm_resolve.specs.code.RuleScopes.{resolved_rule_in}
use Rattle.asm_clash.specs.ClashOfRun.{EndsSo, location_of}
use Rattle.asm_clash.specs.Standing.{Assigned, AreValuesAt, stands}
use Rattle.asm_clash.specs.code.CodedSteps.{coded_at}
use Rattle.asm_clash.specs.code.FirstFound.{IsFound}
use Rattle.asm_clash.specs.declared.clash.ClashOfRun.TheVariants as clash
use Rattle.asm_clash.specs.declared.found.Found.{Found}
use Rattle.asm_clash.proofs.FirstFaults.{first_is_fault}
use Rattle.asm_clash.proofs.StandingSets.{standing_laws}

module _ (laws : ResolvingLaws) (s : Spec) (turns : ℕ) (script : Script) (runs : RunLaws (specification_of s) turns script) (limit done number : ℕ) (A : State) (R : RuleCode)
    (resolved : resolved_rule_in s [] (main_rule s (inits s)) R) (at : number ≡ done + 1) (low : done < limit) (after : IsAfter (specification_of s) turns script done A) where
  abbrev main : Specification
  main = specification_of s

  abbrev whole : Run
  whole = run main turns script limit

  -- what the step yields
  abbrev yielded : ℕ → Outcome
  yielded k = step main turns script k A

  pub goes_on : (U : UpdateSet) (B : State) → (yielded number).result ≡ Gives U → IsConsistent U → B ≡ fire A U → IsAfter main turns script (done + 1) B
  goes_on U B gives good leads = runs.more done A B after (U, ap (λ k. (yielded k).result) (sym at) ∙ gives, good, leads)

  pub ends_exhausted : (most : ℕ) (q : Path) → (yielded number).result ≡ Exhausted q → EndsSo s turns script most whole (clash.Exhausted number q)
  ends_exhausted most q is = (runs.exhausted done limit A q low after (ap (λ k. (yielded k).result) (sym at) ∙ is)).0 ∙ ap (λ k. AtExhausted k q) (sym at)

  -- what the main rule tells in the step, and its code
  abbrev story : State → Story
  story B = step_tells main turns script number B

  abbrev code_story : Story
  code_story = telling (shape_of s) turns (pick script number) R [] [] [] A []

  same_story : code_story ≡ story A
  same_story = laws.tells s (main_rule s (inits s)) R turns script number A [] resolved

  module _ (signature : Shape) (same : signature ≡ shape_of s) (summary : SummaryRanges) (instances : ℕ) (formed : IsSet (shape_of s) (yielded number) summary instances)
      (fault : Fault) (is_first : (U : UpdateSet) → Stands signature summary U → IsFirstFault U (fault_of signature fault))
      (n : ℕ) (at_fault : location_at signature n ≡ location_of signature fault)
      (most : ℕ) (found : Found) (found_so : IsFound most (coded_at (shape_of s) turns (pick script number) R A (location_at (shape_of s) n)) found) where
    abbrev U : UpdateSet
    U = formed.set

    abbrev there : Location
    there = location_of (shape_of s) fault

    abbrev coded_here : List Assigned
    coded_here = coded_at (shape_of s) turns (pick script number) R A there

    first : IsFirstFault U (fault_of (shape_of s) fault)
    first = subst (λ (sh : Shape). IsFirstFault U (fault_of sh fault)) same (is_first U (subst (λ (sh : Shape). Stands sh summary U) (sym same) formed.stands))

    found_there : IsFound most coded_here found
    found_there =
        let at : location_at (shape_of s) n ≡ there = subst (λ (sh : Shape). location_at sh n ≡ location_of sh fault) same at_fault in
        subst (λ m. IsFound most (coded_at (shape_of s) turns (pick script number) R A m) found) at found_so

    ended : (whole.end ≡ AtFault (done + 1) U) × (whole.last ≡ A)
    ended = runs.faulty done limit A U low after (ap (λ k. (yielded k).result) (sym at) ∙ formed.gives) (first_is_fault U (fault_of (shape_of s) fault) first)

    -- those of the code are those of the story
    told : coded_here ≡ stands there (story whole.last)
    told = ap (stands there) (same_story ∙ ap story (sym ended.1))

    pub ends_faulty : EndsSo s turns script most whole (clash.Faulty number fault found.first found.count)
    ends_faulty =
        let yields : (outcome_of (story A)).result ≡ Gives U = ap (λ (o : Outcome). o.result) (told_outcomes main.program turns script number A nothing_bound [] main.main) ∙ formed.gives in (
          U,
          ended.0 ∙ ap (λ k. AtFault k U) (sym at),
          record {
            first = first;
            values = subst (λ (B : State). AreValuesAt U there (stands there (story B))) (sym ended.1) (standing_laws.in_set there (story A) U yields);
            shown = found_there.first ∙ ap (take most) told;
            number = found_there.count ∙ ap (λ k. min k greatest_count) (ap length told);
          },
        )
