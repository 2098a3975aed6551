-- Bridge to the code. Drafts step by step.
--     AddsStep old new         a draft with one step more
--     ReplacesLast old new n   a draft with other numbers of its last step
--     PutsNumber old new p n   the number at its path, and at each other one what was there
--     TakeAs step n lines      the numbers take in a step what these lines take
--     IsFineDraft m most d n   the run of n steps under the draft, of at most `most`, is fine
--     IsWrongDraft m most d n f    it goes wrong by this fault in step n
use Rattle.std.specs.Prelude.{◌≡◌, ◌++◌, ◌∷◌, [], ℕ, cond, nat_eq, List, Some}
use Rattle.std.specs.BTreeMap.{BTreeMap}
use Rattle.std.specs.Cmp.Lexicographic.{pointwise}
use Rattle.std.proofs.Common.{Vec, Global}
use Rattle.asm_reader.specs.ExactLines.{exactly}
use Rattle.asm_reader.specs.ScriptLines.{Line, exact_choice, pick}
use Rattle.asm_explore.specs.declared.fault.Fault.{Fault}
use Rattle.asm_explore.specs.declared.resolved_question.ResolvedQuestion.{ResolvedQuestion}
use Rattle.asm_random.specs.declared.draft.Draft.{Draft}
use Rattle.asm_random.specs.BadDrafts.{IsWrongUnder}
use Rattle.asm_random.specs.code.Drafts.{draft_lines, lines_in}
use Rattle.asm_random.specs.FineRuns.{IsFineRun}
use Rattle.asm_random.specs.code.ResolvedRuns.{crowds_in, rests_in, right_in, specification_in}

abbrev pub AddsStep : (old new : Draft) → Type 0
AddsStep old new = (numbers : BTreeMap (Vec ℕ Global) ℕ) × (new.steps.items ≡ old.steps.items ++ numbers ∷ [])

abbrev pub ReplacesLast : (old new : Draft) (numbers : BTreeMap (Vec ℕ Global) ℕ) → Type 0
ReplacesLast old new numbers =
    (before : List (BTreeMap (Vec ℕ Global) ℕ)) (last : BTreeMap (Vec ℕ Global) ℕ) → old.steps.items ≡ before ++ last ∷ [] → new.steps.items ≡ before ++ numbers ∷ []

abbrev pub PutsNumber : (old new : BTreeMap (Vec ℕ Global) ℕ) → (path : List ℕ) → (number : ℕ) → Type 0
PutsNumber old new path number =
    (step : ℕ) (p : List ℕ) → exact_choice (lines_in step new.entries) step p ≡ cond (pointwise nat_eq p path) (Some number) (exact_choice (lines_in step old.entries) step p)

abbrev pub TakeAs : (step : ℕ) → BTreeMap (Vec ℕ Global) ℕ → List Line → Type 0
TakeAs step numbers lines = (path : List ℕ) → pick (exactly (lines_in step numbers.entries)) step path ≡ pick (exactly lines) step path

abbrev pub IsFineDraft : ResolvedQuestion → (most : ℕ) → Draft → (n : ℕ) → Type 0
IsFineDraft m most draft n = IsFineRun (specification_in m) m.turns (crowds_in m) most (right_in m) (rests_in m) record { script = exactly (draft_lines draft); steps = n }

abbrev pub IsWrongDraft : ResolvedQuestion → (most : ℕ) → Draft → (n : ℕ) → Fault → Type 0
IsWrongDraft m most draft n f = IsWrongUnder (specification_in m) m.turns (crowds_in m) most (right_in m) (rests_in m) (exactly (draft_lines draft)) n f
