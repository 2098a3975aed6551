-- Free. Runs under drafts.
--     grown_picks      a draft with one step more picks the same in the steps before it
--     grown_alike      of one step more the runs up to that step are those of the draft before
--     grown_longer     a draft with one step more has that many steps
--     fine_grown       with that step the run is as fine as it was
--     fine_more        one more fine run
use Rattle.std.proofs.Common.{◌≡◌, ℕ, ◌+◌, ◌<◌, ◌≤◌, List, ◌∷◌, [], length, length-append, unwrap_or, ap, subst, sym, ◌∙◌, arith, Vec, Global}
use Rattle.std.specs.BTreeMap.{BTreeMap}
use Rattle.std.specs.Option.{option_or}
use Rattle.std.specs.Prelude.{Bool, None}
use Rattle.asm_state.specs.Location.{State}
use Rattle.asm_reader.specs.ExactLines.{exactly}
use Rattle.asm_reader.specs.ScriptLines.{exact_choice, pick}
use Rattle.asm_meaning.specs.Run.{Run, Specification, run}
use Rattle.asm_explore.specs.Search.{IsAliveOrCrowded}
use Rattle.asm_random.specs.declared.draft.Draft.{Draft}
use Rattle.asm_random.specs.code.Drafts.{draft_lines, lines_from}
use Rattle.asm_explore.specs.declared.outcomes.outcomes_error.RuleOverLimit.{RuleOverLimit}
use Rattle.asm_random.specs.FineRuns.{AreFine, IsFineRun, MadeRun}
use Rattle.asm_random.specs.code.DraftSteps.{AddsStep}
use Rattle.asm_random.proofs.DraftLines.{picked_pushed}
use Rattle.asm_random.proofs.RunsSoFar.{IsFineTo}
use Rattle.asm_random.proofs.SameRuns.{picked_until}

pub grown_picks : (d e : Draft) → AddsStep d e → (step : ℕ) (p : List ℕ) → step < 1 + length d.steps.items
    → pick (exactly (draft_lines e)) step p ≡ pick (exactly (draft_lines d)) step p
grown_picks d e adds step p low =
    ap (λ (ms : List (BTreeMap (Vec ℕ Global) ℕ)). unwrap_or (option_or (exact_choice (lines_from 1 ms) step p) None) 0) adds.1
    ∙ ap (λ o. unwrap_or (option_or o None) 0) (picked_pushed 1 step p d.steps.items adds.0 low)

pub grown_alike : (specification : Specification) (turns : ℕ) (d e : Draft) (done k : ℕ) → AddsStep d e → length d.steps.items ≡ done → k ≤ done
    → run specification turns (exactly (draft_lines e)) k ≡ run specification turns (exactly (draft_lines d)) k
grown_alike specification turns d e done k adds count low =
    picked_until specification turns (exactly (draft_lines e)) (exactly (draft_lines d)) k (λ step p less. grown_picks d e adds step p (omega (arith, less, count, low)))

pub grown_longer : (d e : Draft) (done : ℕ) → AddsStep d e → length d.steps.items ≡ done → length e.steps.items ≡ done + 1
grown_longer d e done adds count =
    let more = length-append d.steps.items (adds.0 ∷ []) in
    ap (λ (ms : List (BTreeMap (Vec ℕ Global) ℕ)). length ms) adds.1 ∙ omega (arith, more, count)

module _ (specification : Specification) (turns : ℕ) (crowds : State → RuleOverLimit → Type 0) (right rests : State → Bool) where
  pub fine_grown : (d e : Draft) (done : ℕ) (A : State) → AddsStep d e → length d.steps.items ≡ done
      → IsFineTo specification turns crowds right rests (exactly (draft_lines d)) done A → IsFineTo specification turns crowds right rests (exactly (draft_lines e)) done A
  fine_grown d e done A adds count h =
      let here : done ≤ done = omega arith in
      let same = grown_alike specification turns d e done done adds count here in
      record {
        after = (ap (λ (r : Run). r.end) same ∙ h.after.0, ap (λ (r : Run). r.last) same ∙ h.after.1);
        are_right = λ k low. let few : k ≤ done = omega (arith, low) in ap (λ (r : Run). right r.last) (grown_alike specification turns d e done k adds count few) ∙ h.are_right k low;
        passed = λ k low.
            let few : k ≤ done = omega (arith, low) in
            subst (λ (r : Run). IsAliveOrCrowded specification turns crowds rests r.last) (sym (grown_alike specification turns d e done k adds count few)) (h.passed k low);
      }

  pub fine_more : (most runs total : ℕ) (one : MadeRun) → AreFine specification turns crowds most right rests runs total → IsFineRun specification turns crowds most right rests one
      → AreFine specification turns crowds most right rests (runs + 1) (total + one.steps)
  fine_more most runs total one h fine =
      record {
        made = one ∷ h.made;
        count = omega (arith, h.count);
        sum = omega (arith, h.sum);
        fine = (fine, h.fine);
      }
