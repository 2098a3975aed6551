-- Free. The graph that is drawn, and its file.
--     empty_script          a text without bytes spells a script
--     spelled_in            what is found has a script
--     whole_drawn, run_drawn, none_drawn    what is drawn, for each text
--     explained_text        why it isn't
use Rattle.std.proofs.Common.{◌≡◌, ◌∷◌, ◌++◌, [], ℕ, Bool, List, Option, None, Some, ap, arith, inl, inr, length, refl, subst, suc, sym}
use Rattle.std.specs.Prelude.{option_map}
use Rattle.std.specs.String.{string_bytes}
use Rattle.std.proofs.lemmas.List.{length-append}
use Rattle.asm_state.specs.Location.{State}
use Rattle.asm_reader.specs.ExactLines.{exactly}
use Rattle.asm_reader.specs.ScriptLines.{no_lines}
use Rattle.asm_reader.specs.ScriptText.{AreFaultless, IsScript}
use Rattle.asm_meaning.specs.Run.{Specification}
use Rattle.asm_explore.specs.ExplorationResults.{Claims}
use Rattle.asm_explore.specs.declared.exploration_result.Finding.{Finding}
use Rattle.asm_explore.specs.declared.exploration_result.Finding.TheVariants as finding
use Rattle.asm_explore.specs.declared.outcomes.outcomes_error.RuleOverLimit.{RuleOverLimit}
use Rattle.asm_explore_words.specs.declared.fault.Fault.{Fault}
use Rattle.asm_explore_words.specs.declared.fault.Fault.TheVariants as fault
use Rattle.asm_explore_all.specs.AskedQuestions.{AskedQuestion}
use Rattle.asm_explore_all.specs.DrawnGraphs.{AreSpelled, Drawn, ExplainsDrawing, HasTooMany, IsDrawn, IsGraphText, drawn_in, graph_note, run_note}
use Rattle.asm_explore_all.specs.MadeFiles.{MadeFile}
use Rattle.asm_explore_all.specs.code.GraphFiles.{ExplainsWriting, IsRunOf}

-- ---- scripts

one_line : (before after : List (List ℕ)) (bytes : List ℕ) → [] ∷ [] ≡ before ++ bytes ∷ after → (before ≡ []) × (bytes ≡ [])
one_line [] after bytes is = (refl, cc)
one_line (b ∷ before) after bytes is =
    let more : 1 ≡ suc (length (before ++ bytes ∷ after)) = ap length is in
    absurd (omega (arith, more, length-append before (bytes ∷ after)))

empty_faultless : AreFaultless ([] ∷ [])
empty_faultless before after bytes is =
    let only = one_line before after bytes is in
    rw (only.0, only.1) refl

pub empty_script : IsScript [] no_lines
empty_script = record { fits = omega arith; faultless = empty_faultless; says = refl }

module _ (specification : Specification) (turns : ℕ) (crowds : State → RuleOverLimit → Type 0) (steps limit : ℕ) (right rests within : State → Bool) (reached : List State) where
  pub spelled_in : (found : Finding) → Claims specification turns crowds steps limit right rests within reached found → AreSpelled (drawn_in found)
  spelled_in (finding.BadStep bad) claims = (exactly claims.lines, claims.spelled)
  spelled_in finding.WrongFirst claims = (no_lines, empty_script)
  spelled_in finding.Closed claims = tt
  spelled_in (finding.SafeTo depth) claims = tt
  spelled_in (finding.TooManyStates safe) claims = tt
  spelled_in (finding.TooManyOutcomes safe crowd) claims = tt
  spelled_in (finding.NoMemory safe) claims = tt
  spelled_in (finding.Unwritten unwritten) claims = tt

-- ---- files

module _ (asked : AskedQuestion) (names : List (List ℕ)) where
  pub whole_drawn : (run : Option Drawn) (name text : List ℕ) → IsGraphText asked names run text → IsDrawn asked names run (Some name) [] ((name, text) ∷ [])
  whole_drawn run name text is = inl (text, is, refl, refl)

  pub run_drawn : (run : Option Drawn) (name text : List ℕ) → HasTooMany asked → IsRunOf asked names run text → IsDrawn asked names run (Some name) (run_note ∷ []) ((name, text) ∷ [])
  run_drawn None name text many is = absurd is
  run_drawn (Some run) name text many is = inr (many, (text, is, refl, refl))

  pub none_drawn : (run : Option Drawn) (name : List ℕ) → HasTooMany asked → run ≡ None → IsDrawn asked names run (Some name) (graph_note ∷ []) []
  none_drawn run name many is = subst (λ r. IsDrawn asked names r (Some name) (graph_note ∷ []) []) (sym is) (inr (many, (refl, refl)))

  pub explained_text : (run : Option Drawn) (name text : List ℕ) (lines : List (List ℕ)) (old new : Option (List MadeFile)) → IsDrawn asked names run (Some name) lines ((name, text) ∷ []) → (why : Fault)
      → ExplainsWriting name text old new why → ExplainsDrawing asked names run (Some name) old new why
  explained_text run name text lines old new is (fault.Graph file) h = (ap Some (sym h.0), (lines, (name, text) ∷ [], is, h.1))
  explained_text run name text lines old new is (fault.Text refused) h = absurd h
  explained_text run name text lines old new is (fault.QuietScript file) h = absurd h
  explained_text run name text lines old new is (fault.Name file) h = absurd h
  explained_text run name text lines old new is fault.Memory h = absurd h
  explained_text run name text lines old new is fault.Unconfirmed h = absurd h
