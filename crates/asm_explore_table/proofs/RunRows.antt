-- Free. The rows of a run, from step to step.
--     rows_begin         before the first step all rows are left
--     rows_on            after a step with which the run goes on the others are left
--     rows_end           after one in which it ends none is
--     none_left          if no step is left there is no row
use Rattle.std.proofs.Common.{◌≡◌, ◌∙◌, ◌+◌, ◌-◌, ◌<◌, ◌≤◌, ℕ, suc, Bool, true, false, cond, List, [], ◌∷◌, Option, Some, None, refl, sym, ap, arith}
use Rattle.std.specs.Prelude.{option_map}
use Rattle.asm_state.specs.Location.{State}
use Rattle.asm_state.specs.Signature.{state_of}
use Rattle.asm_state.specs.Updates.{UpdateSet, fire, is_consistent}
use Rattle.asm_state.specs.declared.value.Value.{Value}
use Rattle.asm_reader.specs.ScriptLines.{Script}
use Rattle.asm_meaning.specs.Yields.{Result, Gives, Exhausted}
use Rattle.asm_step.specs.code.Steps.{shape_in, specification_in}
use Rattle.asm_step.specs.declared.resolved_specification.ResolvedSpecification.{ResolvedSpecification}
use Rattle.asm_explore.specs.ChoicePoints.{after_set}
use Rattle.asm_explore.specs.RunChoices.{from_step, of_run}
use Rattle.asm_explore.specs.TakenChoices.{steps_from}
use Rattle.asm_explore_table.specs.Rows.{Row, led, row_of}
use Rattle.asm_explore_table.specs.code.StepsMade.{rest_rows, row_said, situation}
use Rattle.asm_explore_table.specs.declared.step_row.StepRow.{StepRow}

-- what comes behind a row
abbrev behind : {X : Type 0} → Option State → (State → List X) → List X
behind None rest = []
behind (Some B) rest = rest B

by_consistency : {X : Type 0} (A : State) (U : UpdateSet) (rest : State → List X) (b : Bool) → cond b (rest (fire A U)) [] ≡ behind (cond b (Some (fire A U)) None) rest
by_consistency A U rest true = refl
by_consistency A U rest false = refl

behind_step : {X : Type 0} (A : State) (r : Result) (rest : State → List X) → after_set r (λ U. rest (fire A U)) ≡ behind (led A r) rest
behind_step A (Exhausted q) rest = refl
behind_step A (Gives U) rest = by_consistency A U rest (is_consistent U)

module _ (m : ResolvedSpecification) (script : Script) (limit : ℕ) where
  abbrev its : State → ℕ → Row
  its A i = row_of (specification_in m) m.turns A (situation script i)

  abbrev left_from : ℕ → ℕ → State → List Row
  left_from left i A = from_step (specification_in m) m.turns (row_of (specification_in m) m.turns) script left i A

  next_row : (left n i : ℕ) (A : State) → suc n ≡ left → left_from left i A ≡ its A i ∷ behind (its A i).after (λ B. left_from n (suc i) B)
  next_row left n i A is =
      ap (λ k. left_from k i A) (sym is) ∙ ap (λ rows. its A i ∷ rows) (behind_step A (steps_from (specification_in m) m.turns A (situation script i)) (λ B. left_from n (suc i) B))

  module _ (done : ℕ) (contents : List Value) (row : StepRow) (low : done < limit) (is : row_said (shape_in m) contents row ≡ its (state_of (shape_in m) contents) (done + 1)) where
    abbrev one : Row
    one = row_said (shape_in m) contents row

    rows_next : rest_rows m script limit done contents ≡ one ∷ behind one.after (λ B. left_from (limit - (done + 1)) (suc (done + 1)) B)
    rows_next =
        let count : suc (limit - (done + 1)) ≡ limit - done = omega (arith, low) in
        next_row (limit - done) (limit - (done + 1)) (done + 1) (state_of (shape_in m) contents) count
        ∙ ap (λ (r : Row). r ∷ behind r.after (λ B. left_from (limit - (done + 1)) (suc (done + 1)) B)) (sym is)

    pub rows_on : (next : List Value) → row.next ≡ Some next → rest_rows m script limit done contents ≡ one ∷ rest_rows m script limit (done + 1) next
    rows_on next goes =
        let after : suc (done + 1) ≡ done + 1 + 1 = omega arith in
        rows_next
        ∙ ap (λ (o : Option (List Value)). one ∷ behind (option_map (state_of (shape_in m)) o) (λ B. left_from (limit - (done + 1)) (suc (done + 1)) B)) goes
        ∙ ap (λ i. one ∷ left_from (limit - (done + 1)) i (state_of (shape_in m) next)) after

    pub rows_end : row.next ≡ None → rest_rows m script limit done contents ≡ one ∷ []
    rows_end ends = rows_next ∙ ap (λ (o : Option (List Value)). one ∷ behind (option_map (state_of (shape_in m)) o) (λ B. left_from (limit - (done + 1)) (suc (done + 1)) B)) ends

  pub none_left : (done : ℕ) (contents : List Value) → limit ≤ done → rest_rows m script limit done contents ≡ []
  none_left done contents past =
      let none : limit - done ≡ 0 = omega (arith, past) in
      ap (λ n. left_from n (done + 1) (state_of (shape_in m) contents)) none

  pub rows_begin : (contents : List Value) → state_of (shape_in m) contents ≡ (specification_in m).initial
      → rest_rows m script limit 0 contents ≡ of_run (specification_in m) m.turns (row_of (specification_in m) m.turns) script limit
  rows_begin contents is =
      let every : limit - 0 ≡ limit = omega arith in
      (λ j. left_from (every j) 1 (is j))
