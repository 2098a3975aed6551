-- Free. Runs that are drawn, step by step.
--     drawn_first      no step
--     drawn_grown      with one step more the steps before it are drawn as they were
--     drawn_next       one more step
--     not_at_limit     a step that has a fault ends the run
--     still_after      a step that makes no choice and changes nothing leads to a state from which
--                      nothing goes on
--     drawn_alike      if each step tells the same under another script, it is drawn there, too
use Rattle.std.proofs.Common.{◌≡◌, ◌≢◌, ◌∙◌, ℕ, suc, ◌+◌, ◌<◌, ◌≤◌, ◌⊎◌, inl, inr, Bool, true, List, length, sym, ap, subst, arith, below_more}
use Rattle.asm_state.specs.Location.{State}
use Rattle.asm_state.specs.Updates.{UpdateSet}
use Rattle.asm_reader.specs.ExactLines.{exactly}
use Rattle.asm_reader.specs.ScriptLines.{Script}
use Rattle.asm_meaning.specs.Run.{Run, End, AtLimit, AtExhausted, AtFault, Specification, run, IsAfter, IsStep}
use Rattle.asm_meaning.specs.RunLaws.{RunLaws}
use Rattle.asm_meaning.specs.StoryLaws.{AreToldOutcomes}
use Rattle.asm_explore.specs.ChoicePoints.{Asking, asked}
use Rattle.asm_explore.specs.RunChoices.{asked_from}
use Rattle.asm_random.specs.declared.draft.Draft.{Draft}
use Rattle.asm_random.specs.code.Drafts.{draft_lines}
use Rattle.asm_random.specs.DrawnTexts.{AreDrawn, IsDrawnRun, IsDrawnTo, IsOver, IsStill, asked_after, at_step}
use Rattle.asm_random.specs.code.DraftSteps.{AddsStep}
use Rattle.asm_random.specs.code.DrawnSteps.{EndsRun, IsSilent}
use Rattle.asm_random.proofs.DraftRuns.{grown_alike, grown_picks}
use Rattle.asm_random.proofs.QuietSteps.{alike_quiet}
use Rattle.asm_random.proofs.StoriesAlike.{AreToldAlikeTo, runs_alike, tells_alike}

module _ (specification : Specification) (turns : ℕ) where
  not_exhausted : (e : End) (i : ℕ) (q : List ℕ) → e ≡ AtExhausted i q → e ≢ AtLimit
  not_exhausted e i q is also = cc

  not_faulty : (e : End) (i : ℕ) (U : UpdateSet) → e ≡ AtFault i U → e ≢ AtLimit
  not_faulty e i U is also = cc

  pub not_at_limit : (script : Script) (n : ℕ) (A : State) → RunLaws specification turns script → IsAfter specification turns script n A
      → EndsRun specification turns script (n + 1) A → (run specification turns script (n + 1)).end ≢ AtLimit
  not_at_limit script n A laws after (inl (q, is)) =
      let low : n < n + 1 = omega arith in not_exhausted (run specification turns script (n + 1)).end (n + 1) q (laws.exhausted n (n + 1) A q low after is).0
  not_at_limit script n A laws after (inr (U, is, bad)) =
      let low : n < n + 1 = omega arith in not_faulty (run specification turns script (n + 1)).end (n + 1) U (laws.faulty n (n + 1) A U low after is bad).0

  pub still_after : (script : Script) (n : ℕ) (A B : State) → RunLaws specification turns script → IsAfter specification turns script n A
      → IsStep specification turns script (n + 1) A B → B ≡ A → IsSilent specification turns A → IsStill specification turns (run specification turns script (n + 1)).last
  still_after script n A B laws after step same silent =
      let there = laws.more n A B after step in
      subst (IsStill specification turns) (sym (there.1 ∙ same))
      (record { quiet = alike_quiet specification turns script (n + 1) A B step same silent.alike; silent = silent.silent })

  module _ (right : State → Bool) (seed : ℕ) where
    pub drawn_first : (script : Script) → IsDrawnTo specification turns right seed script 0
    drawn_first script = record {
      begins = λ k low. absurd (omega (arith, low));
      are_right = λ k low. absurd (omega (arith, low));
      drawn = λ k low. absurd (omega (arith, low));
    }

    pub drawn_grown : (d e : Draft) (done : ℕ) → AddsStep d e → length d.steps.items ≡ done → IsDrawnTo specification turns right seed (exactly (draft_lines d)) done
        → IsDrawnTo specification turns right seed (exactly (draft_lines e)) done
    drawn_grown d e done adds count h = record {
      begins = λ k low. let few : k ≤ done = omega (arith, low) in ap (λ (r : Run). r.end) (grown_alike specification turns d e done k adds count few) ∙ h.begins k low;
      are_right = λ k low. let few : k ≤ done = omega (arith, low) in ap (λ (r : Run). right r.last) (grown_alike specification turns d e done k adds count few) ∙ h.are_right k low;
      drawn = λ k low.
          let few : k ≤ done = omega (arith, low) in
          let old = exactly (draft_lines d) in
          let new = exactly (draft_lines e) in
          let state = ap (λ (r : Run). r.last) (grown_alike specification turns d e done k adds count few) in
          let asks : asked_after specification turns new k ≡ asked_after specification turns old k =
          ap (λ (A : State). asked_from specification turns A (at_step new (suc k))) state
          ∙ ap asked (tells_alike specification turns new old (suc k) (run specification turns old k).last (λ p. grown_picks d e adds (suc k) p (omega (arith, low, count)))) in
          subst (λ (those : List Asking). AreDrawn seed 0 (suc k) those) (sym asks) (h.drawn k low);
    }

    pub drawn_next : (script : Script) (n : ℕ) (A : State) → IsDrawnTo specification turns right seed script n → IsAfter specification turns script n A → right A ≡ true
        → AreDrawn seed 0 (suc n) (asked_from specification turns A (at_step script (suc n))) → IsDrawnTo specification turns right seed script (n + 1)
    drawn_next script n A h after is_right are = record {
      begins = below_more (λ k. (run specification turns script k).end ≡ AtLimit) n h.begins after.0;
      are_right = below_more (λ k. right (run specification turns script k).last ≡ true) n h.are_right (ap right after.1 ∙ is_right);
      drawn = below_more (λ k. AreDrawn seed 0 (suc k) (asked_after specification turns script k)) n h.drawn
          (subst (λ (B : State). AreDrawn seed 0 (suc n) (asked_from specification turns B (at_step script (suc n)))) (sym after.1) are);
    }

    module _ (steps : ℕ) (told : AreToldOutcomes) (s t : Script) (n : ℕ) (alike : AreToldAlikeTo specification turns s t n) where
      same_run : (k : ℕ) → k ≤ n → run specification turns t k ≡ run specification turns s k
      same_run k low = runs_alike specification turns told s t n k low alike

      so_far : IsDrawnTo specification turns right seed s n → IsDrawnTo specification turns right seed t n
      so_far h = record {
        begins = λ k low. let few : k ≤ n = omega (arith, low) in ap (λ (r : Run). r.end) (same_run k few) ∙ h.begins k low;
        are_right = λ k low. let few : k ≤ n = omega (arith, low) in ap (λ (r : Run). right r.last) (same_run k few) ∙ h.are_right k low;
        drawn = λ k low.
            let few : k ≤ n = omega (arith, low) in
            let asks : asked_after specification turns t k ≡ asked_after specification turns s k =
            ap (λ (r : Run). asked_from specification turns r.last (at_step t (suc k))) (same_run k few) ∙ ap asked (alike.alike k low) in
            subst (λ (those : List Asking). AreDrawn seed 0 (suc k) those) (sym asks) (h.drawn k low);
      }

      pub drawn_alike : IsDrawnRun specification turns right seed steps s n → IsDrawnRun specification turns right seed steps t n
      drawn_alike h =
          let here : n ≤ n = omega arith in
          record {
            limited = h.limited;
            so_far = so_far h.so_far;
            whole = subst (λ (r : Run). (n ≡ steps) ⊎ IsOver specification turns right r) (sym (same_run n here)) h.whole;
          }
