-- Definition. How a run ends of which conditions are asked.
--     is_fault end               it ends before its limit
--     run_status is_fault unmet  1 if it ends by a fault; and else 6 if there are unmet lines, or 0
--     IsBrokenRun made           after so many of its steps a condition isn't true for the first
--                                time, as the first line says, and those behind it say why
--     IsWholeRun                 each condition is true in each of its states, and the first line
--                                says how it ends, with none behind it
--     IsAskedEnd limit is_fault  one of these; it is looked at up to so many steps, and this says
--                                whether it ends by a fault
use Rattle.std.specs.Prelude.{◌≡◌, ◌⊎◌, ◌+◌, ◌≤◌, ℕ, Bool, true, false, List, [], ◌∷◌}
use Rattle.asm_explore.specs.declared.fault.Fault.TheVariants.{Wrong}
use Rattle.asm_syntax.specs.SourceTree.{Spec, Term}
use Rattle.asm_reader.specs.ScriptLines.{Script}
use Rattle.asm_meaning.specs.Declarations.{specification_of}
use Rattle.asm_meaning.specs.Run.{AtExhausted, AtFault, AtLimit, End, run}
use Rattle.asm_run.specs.Written.{names_in}
use Rattle.asm_explore_report.specs.BrokenRuns.{HoldBefore, IsFirstBroken}
use Rattle.asm_explore_report.specs.EndWords.{IsRunLine}
use Rattle.asm_explore_report.specs.FirstLine.{fault_line}

abbrev pub is_fault : End → Bool
is_fault AtLimit = false
is_fault (AtExhausted step q) = true
is_fault (AtFault step U) = true

abbrev pub run_status : (is_fault : Bool) → (unmet : List (List ℕ)) → ℕ
run_status true unmet = 1
run_status false [] = 0
run_status false (line ∷ more) = 6

module _ (tree : Spec) (terms : List Term) (turns : ℕ) (script : Script) (steps : ℕ) (first : List ℕ) (because : List (List ℕ)) where
  pub record IsBrokenRun (made : ℕ) : Type 0 where
    pub limited : made ≤ steps
    pub words : List ℕ
    pub broken : IsFirstBroken tree terms turns script made words because
    pub tells : first ≡ fault_line Wrong made words

  pub record IsWholeRun : Type 0 where
    pub held : HoldBefore tree terms turns script (steps + 1)
    pub tells : IsRunLine (names_in tree) steps (run (specification_of tree) turns script steps).end first
    pub none : because ≡ []

  abbrev pub IsAskedEnd : (limit : ℕ) → (ends_by_fault : Bool) → Type 0
  IsAskedEnd limit ends_by_fault =
      (IsBrokenRun limit × (ends_by_fault ≡ true))
      ⊎ (IsWholeRun × (limit ≡ steps) × (ends_by_fault ≡ is_fault (run (specification_of tree) turns script steps).end))
