-- Free. The rows of a page, from step to step.
--     ends_none, ends_more     whether the last row of a fault is reached after so many steps
--     bad_first                whether the first row is the last one
--     bad_last, bad_next       and that of a step, in which the run ends, or with which it goes on
--     row_last, row_next       what the rows are after that of a step
--     rows_first               after that of the first state
use Rattle.std.proofs.Common.{◌≡◌, ◌∙◌, ◌+◌, ◌-◌, ◌<◌, ◌≤◌, ◌⊎◌, ◌&&◌, ◌||◌, ◌++◌, ◌∷◌, [], ℕ, suc, Bool, true, false, List, Option, Some, None, inl, inr, nat_eq, ap, refl, sym, append-nil, append_assoc, arith}
use Rattle.std.specs.Prelude.{is_none}
use Rattle.std.proofs.lemmas.Bool.{cases_lt, eq-eqb, ne_eqb}
use Rattle.asm_state.specs.Location.{State}
use Rattle.asm_state.specs.Signature.{state_of}
use Rattle.asm_state.specs.declared.value.Value.{Value}
use Rattle.asm_syntax.specs.SourceTree.{Spec}
use Rattle.asm_reader.specs.ScriptLines.{Script}
use Rattle.asm_step.specs.code.Steps.{shape_in, specification_in}
use Rattle.asm_step.specs.declared.resolved_specification.ResolvedSpecification.{ResolvedSpecification}
use Rattle.asm_explore.specs.RunChoices.{from_step}
use Rattle.asm_explore_table.specs.Pages.{ends_bad, first_row, step_row, step_rows, table_rows}
use Rattle.asm_explore_table.specs.Rows.{Row, row_of}
use Rattle.asm_explore_table.specs.code.StepsMade.{rest_rows}
use Rattle.asm_explore_table.specs.declared.page_columns.PageColumn.{PageColumn}
use Rattle.asm_explore_table.proofs.RunRows.{none_left}

-- ---- the last row

if_true : (f : Bool) → (f && true) ≡ f
if_true true = refl
if_true false = refl

if_false : (f : Bool) → (f && false) ≡ false
if_false true = refl
if_false false = refl

module _ (m : ResolvedSpecification) (script : Script) (limit : ℕ) (is_fault : Bool) where
  pub ends_none : (done : ℕ) (contents : List Value) → limit ≤ done → ends_bad is_fault (rest_rows m script limit done contents) ≡ is_fault
  ends_none done contents past = ap (ends_bad is_fault) (none_left m script limit done contents past)

  pub ends_more : (done : ℕ) (contents : List Value) → done < limit → ends_bad is_fault (rest_rows m script limit done contents) ≡ false
  ends_more done contents low =
      let left : limit - done ≡ suc (limit - (done + 1)) = omega (arith, low) in
      ap (λ n. ends_bad is_fault (from_step (specification_in m) m.turns (row_of (specification_in m) m.turns) script n (done + 1) (state_of (shape_in m) contents))) left

  pub bad_first : (bad : Bool) (contents : List Value) → bad ≡ (is_fault && nat_eq limit 0) → bad ≡ ends_bad is_fault (rest_rows m script limit 0 contents)
  bad_first bad contents is = at (cases_lt 0 limit)
    where
      at : (0 < limit) ⊎ (limit ≤ 0) → bad ≡ ends_bad is_fault (rest_rows m script limit 0 contents)
      at (inl some) =
          let other : nat_eq limit 0 ≡ false = ne_eqb limit 0 (λ e. omega (arith, some, e)) in
          is ∙ ap (λ b. is_fault && b) other ∙ if_false is_fault ∙ sym (ends_more 0 contents some)
      at (inr none) =
          let same : nat_eq limit 0 ≡ true = eq-eqb limit 0 (omega (arith, none)) in
          is ∙ ap (λ b. is_fault && b) same ∙ if_true is_fault ∙ sym (ends_none 0 contents none)

  module _ (bad last : Bool) (next : Option (List Value)) (number done : ℕ) (is : bad ≡ (is_fault && last)) (is_last : last ≡ (is_none next || nat_eq number limit)) where
    pub bad_last : next ≡ None → bad ≡ is_fault
    bad_last ends = is ∙ ap (λ b. is_fault && b) (is_last ∙ ap (λ (o : Option (List Value)). is_none o || nat_eq number limit) ends) ∙ if_true is_fault

    pub bad_next : (contents : List Value) → next ≡ Some contents → number ≡ done + 1 → done < limit → bad ≡ ends_bad is_fault (rest_rows m script limit (done + 1) contents)
    bad_next contents goes counted low = at (cases_lt (done + 1) limit)
      where
        said : bad ≡ (is_fault && nat_eq (done + 1) limit)
        said = is ∙ ap (λ b. is_fault && b) (is_last ∙ ap (λ (o : Option (List Value)). is_none o || nat_eq number limit) goes ∙ ap (λ n. nat_eq n limit) counted)

        at : (done + 1 < limit) ⊎ (limit ≤ done + 1) → bad ≡ ends_bad is_fault (rest_rows m script limit (done + 1) contents)
        at (inl more) =
            let other : nat_eq (done + 1) limit ≡ false = ne_eqb (done + 1) limit (λ e. omega (arith, more, e)) in
            said ∙ ap (λ b. is_fault && b) other ∙ if_false is_fault ∙ sym (ends_more (done + 1) contents more)
        at (inr past) =
            let same : nat_eq (done + 1) limit ≡ true = eq-eqb (done + 1) limit (omega (arith, past, low)) in
            said ∙ ap (λ b. is_fault && b) same ∙ if_true is_fault ∙ sym (ends_none (done + 1) contents past)

-- ---- rows

module _ (s : Spec) (chooses : Bool) (cs : List PageColumn) (is_fault : Bool) where
  abbrev rows : ℕ → List Row → List ℕ
  rows = step_rows s chooses cs is_fault

  module _ (out new : List ℕ) (bad : Bool) (number done : ℕ) (one : Row) (rest : List Row) (counted : number ≡ done + 1) (added : new ≡ out ++ step_row s chooses cs bad number one) where
    said : (is : Bool) → bad ≡ is → new ≡ out ++ step_row s chooses cs is (done + 1) one
    said is same = added ∙ ap (λ b. out ++ step_row s chooses cs b number one) same ∙ ap (λ k. out ++ step_row s chooses cs is k one) counted

    pub row_last : (whole : List ℕ) → bad ≡ is_fault → rest ≡ one ∷ [] → out ++ rows (done + 1) rest ≡ whole → new ≡ whole
    row_last whole same last before =
        said is_fault same ∙ ap (λ t. out ++ t) (sym (append-nil (step_row s chooses cs is_fault (done + 1) one))) ∙ ap (λ rs. out ++ rows (done + 1) rs) (sym last) ∙ before

    pub row_next : (whole : List ℕ) (more : List Row) → bad ≡ ends_bad is_fault more → rest ≡ one ∷ more → out ++ rows (done + 1) rest ≡ whole → new ++ rows (done + 1 + 1) more ≡ whole
    row_next whole more same next before =
        let here = step_row s chooses cs (ends_bad is_fault more) (done + 1) one in
        let after : done + 1 + 1 ≡ suc (done + 1) = omega arith in
        ap (λ t. t ++ rows (done + 1 + 1) more) (said (ends_bad is_fault more) same) ∙ append_assoc out here (rows (done + 1 + 1) more)
        ∙ ap (λ k. out ++ (here ++ rows k more)) after ∙ ap (λ rs. out ++ rows (done + 1) rs) (sym next) ∙ before

  pub rows_first : (out new : List ℕ) (bad : Bool) (A B : State) (rest all : List Row) → bad ≡ ends_bad is_fault rest → A ≡ B → rest ≡ all → new ≡ out ++ first_row s chooses cs bad A
      → new ++ rows (0 + 1) rest ≡ out ++ table_rows s chooses cs is_fault B all
  rows_first out new bad A B rest all same begin every added =
      (λ j. added j ++ rows 1 (every j)) ∙ ap (λ b. (out ++ first_row s chooses cs b A) ++ rows 1 all) (same ∙ ap (ends_bad is_fault) every)
      ∙ ap (λ X. (out ++ first_row s chooses cs (ends_bad is_fault all) X) ++ rows 1 all) begin
      ∙ append_assoc out (first_row s chooses cs (ends_bad is_fault all) B) (rows 1 all)
