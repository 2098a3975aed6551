-- Free. What is noted of rows, from one to the next.
--     IsNoted           what is noted, with the rows that are left, is so of all
--     noted_first       before the first one all are left
--     noted_on          after another one it is with those behind
--     noted_at_end      after the last row what is noted is what all rows have
use Rattle.std.proofs.Common.{◌≡◌, ◌∙◌, ◌+◌, ◌<◌, ◌≤◌, ◌^◌, ◌||◌, ℕ, Bool, true, false, List, [], ◌∷◌, length, ap, refl, subst, sym, arith, le_trans}
use Rattle.std.specs.Prelude.{All, slice_index_or}
use Rattle.std.specs.List.{list_any}
use Rattle.std.proofs.lemmas.List.Elements.{All-cons, All-nil}
use Rattle.asm_state.specs.Location.{State}
use Rattle.asm_state.specs.Signature.{count_of, location_at}
use Rattle.asm_syntax.specs.SourceTree.{Spec}
use Rattle.asm_check.specs.Shapes.{shape_of}
use Rattle.asm_explore_table.specs.ChosenTexts.{chosen_lines}
use Rattle.asm_explore_table.specs.Rows.{Row, asks, changes, chooses, differs}
use Rattle.asm_explore_table.specs.Tables.{cells_after, numbered, shown_value}
use Rattle.asm_explore_table.specs.declared.extent.Extent.{Extent}
use Rattle.asm_explore_table.specs.code.Extents.{HasShortCells, HasShortChoices, IsExtentOf, IsWidened, width_in}
use Rattle.asm_explore_table.proofs.AllLists.{short_more}

or_false : (b : Bool) → (b || false) ≡ b
or_false true = refl
or_false false = refl

or_assoc : (a b c : Bool) → ((a || b) || c) ≡ (a || (b || c))
or_assoc true b c = refl
or_assoc false b c = refl

pub record IsNoted (s : Spec) (first : State) (extent : Extent) (rest all : List Row) : Type 0 where
  pub changed : (n : ℕ) → n < count_of (shape_of s) → (slice_index_or extent.changed.items n false || changes (location_at (shape_of s) n) rest) ≡ changes (location_at (shape_of s) n) all
  pub chooses : (extent.chooses || chooses rest) ≡ chooses all
  pub steps : extent.steps + length rest ≡ length all
  pub first_cells : (n : ℕ) → n < count_of (shape_of s) → length (shown_value s (first (numbered s n))) ≤ width_in extent n
  pub cells : (n : ℕ) → n < count_of (shape_of s) → (most : ℕ) → width_in extent n ≤ most → All (HasShortCells s n most) rest → All (HasShortCells s n most) all
  pub chosen : (most : ℕ) → extent.chosen_width ≤ most → All (HasShortChoices s most) rest → All (HasShortChoices s most) all

module _ (s : Spec) (first : State) where
  pub noted_first : (extent : Extent) (all : List Row) → IsExtentOf s first extent [] → IsNoted s first extent all all
  noted_first extent all found = record {
    changed = λ n low. ap (λ b. b || changes (location_at (shape_of s) n) all) (found.changed n low);
    chooses = ap (λ b. b || chooses all) found.chooses;
    steps = ap (λ n. n + length all) found.steps ∙ none (length all);
    first_cells = found.first_cells;
    cells = λ n low most wide short. short;
    chosen = λ most wide short. short;
  }
    where
      none : (n : ℕ) → 0 + n ≡ n
      none n = omega arith

  module _ (old new : Extent) (one : Row) (more all : List Row) (added : IsWidened s old one new) (before : IsNoted s first old (one ∷ more) all) where
    any_on : (p : Row → Bool) (o n : Bool) → n ≡ (o || p one) → (o || list_any p (one ∷ more)) ≡ list_any p all → (n || list_any p more) ≡ list_any p all
    any_on p o n is was = ap (λ b. b || list_any p more) is ∙ or_assoc o (p one) (list_any p more) ∙ was

    counted : new.steps + length more ≡ length all
    counted =
        let was = before.steps in
        let is = added.steps in
        omega (arith, was, is)

    cells_on : (n : ℕ) → n < count_of (shape_of s) → (most : ℕ) → width_in new n ≤ most → All (HasShortCells s n most) more → All (HasShortCells s n most) all
    cells_on n low most wide short =
        before.cells n low most (le_trans (added.wider n low) wide)
        (All-cons (HasShortCells s n most) one more (short_more (width_in new n) most wide (cells_after s n one.before one.after) (added.cells n low)) short)

    chosen_on : (most : ℕ) → new.chosen_width ≤ most → All (HasShortChoices s most) more → All (HasShortChoices s most) all
    chosen_on most wide short =
        before.chosen most (le_trans added.chosen_wider wide)
        (All-cons (HasShortChoices s most) one more (short_more new.chosen_width most wide (chosen_lines s one.asked) added.chosen) short)

    pub noted_next : IsNoted s first new more all
    noted_next = record {
      changed = λ n low. any_on (differs (location_at (shape_of s) n)) (slice_index_or old.changed.items n false) (slice_index_or new.changed.items n false) (added.changed n low) (before.changed n low);
      chooses = any_on (λ (row : Row). asks row.asked) old.chooses new.chooses added.chooses before.chooses;
      steps = counted;
      first_cells = λ n low. le_trans (before.first_cells n low) (added.wider n low);
      cells = cells_on;
      chosen = chosen_on;
    }

  pub noted_on : (old new : Extent) (one : Row) (rest more all : List Row) → rest ≡ one ∷ more → IsWidened s old one new → IsNoted s first old rest all → IsNoted s first new more all
  noted_on old new one rest more all is added before = noted_next old new one more all added (subst (λ rows. IsNoted s first old rows all) is before)

  pub noted_at_end : (extent : Extent) (rest all : List Row) → rest ≡ [] → extent.steps < 2 ^ 32 → IsNoted s first extent rest all → IsExtentOf s first extent all
  noted_at_end extent rest all none few noted =
      let end = subst (λ rows. IsNoted s first extent rows all) none noted in
      record {
        changed = λ n low. sym (or_false (slice_index_or extent.changed.items n false)) ∙ end.changed n low;
        chooses = sym (or_false extent.chooses) ∙ end.chooses;
        steps = (let plain : extent.steps ≡ extent.steps + 0 = omega arith in plain) ∙ end.steps;
        few = few;
        first_cells = end.first_cells;
        cells = λ n low. end.cells n low (width_in extent n) (omega arith) (All-nil (HasShortCells s n (width_in extent n)));
        chosen = end.chosen extent.chosen_width (omega arith) (All-nil (HasShortChoices s extent.chosen_width));
      }
