-- Free. What the words say of a run that was found, which ends as such a fault ends it.
--     Ends             the run under the script with a text ends so
--     end_tells        the words for the end
--     wrong_tells      the words of the last state
--     deadlock_tells   the word for a deadlock
use Rattle.std.proofs.Common.{◌≡◌, ◌⊎◌, ℕ, List, [], inl, inr, sym, subst, codes}
use Rattle.asm_state.specs.Location.{State}
use Rattle.asm_syntax.specs.SourceTree.{Spec, Term}
use Rattle.asm_reader.specs.ScriptLines.{Script}
use Rattle.asm_reader.specs.ScriptText.{IsScript}
use Rattle.asm_meaning.specs.Declarations.{specification_of}
use Rattle.asm_meaning.specs.Run.{IsAfter}
use Rattle.asm_explore.specs.Search.{steps_to}
use Rattle.asm_explore.specs.declared.fault.Fault.{Fault}
use Rattle.asm_explore.specs.declared.fault.Fault.TheVariants.{Exhausted, Inconsistent, Wrong, Deadlock}
use Rattle.asm_run.specs.Headline.{book_run}
use Rattle.asm_run.specs.Written.{names_in}
use Rattle.asm_explore_report.specs.EndWords.{IsEndWords}
use Rattle.asm_explore_report.specs.FaultWords.{EndsBy, FaultTells, IsBroken}

module _ (spec : Spec) (terms : List Term) (turns : ℕ) (text : List ℕ) (step : ℕ) where
  abbrev pub Ends : Fault → (words : List ℕ) → Type 0
  Ends fault words = (script : Script) → IsScript text script →
      let end = (book_run spec turns script (steps_to fault step)).end in EndsBy fault step end × IsEndWords (names_in spec) end words

  pub end_tells : (fault : Fault) (words : List ℕ) (lines : List (List ℕ)) → (fault ≡ Exhausted) ⊎ (fault ≡ Inconsistent) → lines ≡ [] → Ends fault words
      → FaultTells spec terms turns fault text step words lines
  end_tells Exhausted words lines is none told = λ script spelled. ((told script spelled).0, ((told script spelled).1, none))
  end_tells Inconsistent words lines is none told = λ script spelled. ((told script spelled).0, ((told script spelled).1, none))
  end_tells Wrong words lines (inl is) none told = cc
  end_tells Wrong words lines (inr is) none told = cc
  end_tells Deadlock words lines (inl is) none told = cc
  end_tells Deadlock words lines (inr is) none told = cc

  pub wrong_tells : (fault : Fault) (A : State) (end words : List ℕ) (lines : List (List ℕ)) → fault ≡ Wrong → Ends fault end
      → ((script : Script) → IsScript text script → IsAfter (specification_of spec) turns script (steps_to fault step) A)
      → IsBroken spec terms A words lines → FaultTells spec terms turns fault text step words lines
  wrong_tells Exhausted A end words lines is told after broken = cc
  wrong_tells Inconsistent A end words lines is told after broken = cc
  wrong_tells Deadlock A end words lines is told after broken = cc
  wrong_tells Wrong A end words lines is told after broken =
      λ script spelled. ((told script spelled).0, subst (λ B. IsBroken spec terms B words lines) (sym (after script spelled).1) broken)

  pub deadlock_tells : (fault : Fault) (end words : List ℕ) (lines : List (List ℕ)) → fault ≡ Deadlock → Ends fault end → words ≡ codes "deadlock" → lines ≡ []
      → FaultTells spec terms turns fault text step words lines
  deadlock_tells Exhausted end words lines is told named none = cc
  deadlock_tells Inconsistent end words lines is told named none = cc
  deadlock_tells Wrong end words lines is told named none = cc
  deadlock_tells Deadlock end words lines is told named none = λ script spelled. ((told script spelled).0, (named, none))
