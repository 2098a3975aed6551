-- Law. The law of choice for specifications without faults: their ranks fall, so it asks nothing
-- more of them.
--     RanksFall spec                 what the law of choice asks of a program, and of each rule of
--                                    it, and what the value of a term by cases asks of derived
--                                    functions
--     SpecificationsAreRanked        a specification without faults has that
--     SpecificationRunsAreFree       its run under a script is a run for some choices
--     SpecificationRunsHaveScripts   each of its runs, for whatever choices, is the run under some
--                                    script
use Rattle.std.specs.Prelude.{◌≡◌, ◌<◌, ℕ, List, Some}
use Rattle.asm_state.specs.Location.{State}
use Rattle.asm_state.specs.Updates.{UpdateSet}
use Rattle.asm_syntax.specs.SourceTree.{Spec}
use Rattle.asm_syntax.specs.Tree.{Name, Rule}
use Rattle.asm_reader.specs.ScriptLines.{Script}
use Rattle.asm_check.specs.Faults.{IsWellFormed, inits}
use Rattle.asm_meaning.specs.Declarations.{main_rule, program_of, specification_of}
use Rattle.asm_meaning.specs.Program.{NamedRule, declared}
use Rattle.asm_meaning.specs.Ranks.{AreDerivedRanked, CallsBelow, IsRanked}
use Rattle.asm_meaning.specs.Run.{End, IsRun, Run, run, sets_of}
use Rattle.asm_meaning.specs.Scripts.{IsUnrepeated}
use Rattle.asm_meaning.specs.Value.{nesting}

pub record RanksFall (spec : Spec) : Type 0 where
  pub rank : Name → ℕ
  pub ranked : IsRanked (program_of spec) rank
  pub bodies : (f : Name) (xs : List Name) (P : Rule) → declared (program_of spec) f ≡ Some (NamedRule xs P) → CallsBelow (program_of spec) rank nesting P
  pub main : CallsBelow (program_of spec) rank nesting (main_rule spec (inits spec))
  pub rank_low : (f : Name) → rank f < nesting
  -- the same of derived functions, for the value of a term by cases
  pub derived : Name → ℕ
  pub derived_ranked : AreDerivedRanked (program_of spec) derived
  pub derived_low : (f : Name) → derived f < nesting

abbrev pub SpecificationsAreRanked : Type 0
SpecificationsAreRanked = (spec : Spec) → IsWellFormed spec → RanksFall spec

abbrev pub SpecificationRunsAreFree : Type 0
SpecificationRunsAreFree =
    (spec : Spec) (turns : ℕ) (script : Script) (steps : ℕ) → IsWellFormed spec
    → let r : Run = run (specification_of spec) turns script steps in IsRun (specification_of spec) turns steps (sets_of r) r.end r.last

abbrev pub SpecificationRunsHaveScripts : Type 0
SpecificationRunsHaveScripts =
    (spec : Spec) (turns steps : ℕ) (sets : List UpdateSet) (end : End) (last : State) → IsWellFormed spec
    → IsRun (specification_of spec) turns steps sets end last
    → (script : Script) × IsUnrepeated script
    × (let r : Run = run (specification_of spec) turns script steps in (sets_of r ≡ sets) × (r.end ≡ end) × (r.last ≡ last))
