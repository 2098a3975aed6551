-- Free. The rows of a run as lines of JSON, row by row.
--     json_first     the row of the first state
--     json_last      the last row
--     json_next      another one
--     json_run       all of them, and the end
use Rattle.std.proofs.Common.{◌≡◌, ◌∙◌, ◌+◌, ◌-◌, ◌++◌, ◌∷◌, [], ℕ, suc, List, Some, length, ap, sym, append-nil, append_assoc, arith}
use Rattle.asm_state.specs.Location.{State}
use Rattle.asm_syntax.specs.SourceTree.{Spec}
use Rattle.asm_explore_table.specs.JsonRows.{end_json, json_text, row_json, rows_json}
use Rattle.asm_explore_table.specs.Rows.{Row}
use Rattle.asm_explore_table.specs.RunWords.{RunWords}
use Rattle.asm_explore_table.specs.Tables.{columns, shown_columns}

module _ (s : Spec) (shown : List ℕ) where
  pub json_first : (out new : List ℕ) (A B : State) (rest all : List Row) → A ≡ B → rest ≡ all → new ≡ out ++ row_json s shown 0 [] (Some A)
      → new ++ rows_json s shown (0 + 1) rest ≡ out ++ (row_json s shown 0 [] (Some B) ++ rows_json s shown 1 all)
  json_first out new A B rest all begin same added =
      (λ j. added j ++ rows_json s shown 1 (same j)) ∙ ap (λ X. (out ++ row_json s shown 0 [] (Some X)) ++ rows_json s shown 1 all) begin
      ∙ append_assoc out (row_json s shown 0 [] (Some B)) (rows_json s shown 1 all)

  module _ (out new : List ℕ) (number done : ℕ) (one : Row) (rest : List Row) (counted : number ≡ done) (added : new ≡ out ++ row_json s shown (number + 1) one.asked one.after) where
    said : new ≡ out ++ row_json s shown (done + 1) one.asked one.after
    said = added ∙ ap (λ k. out ++ row_json s shown (k + 1) one.asked one.after) counted

    pub json_last : (whole : List ℕ) → rest ≡ one ∷ [] → out ++ rows_json s shown (done + 1) rest ≡ whole → new ≡ whole
    json_last whole last before =
        said ∙ ap (λ t. out ++ t) (sym (append-nil (row_json s shown (done + 1) one.asked one.after))) ∙ ap (λ rs. out ++ rows_json s shown (done + 1) rs) (sym last) ∙ before

    pub json_next : (whole : List ℕ) (more : List Row) → rest ≡ one ∷ more → out ++ rows_json s shown (done + 1) rest ≡ whole → new ++ rows_json s shown (done + 1 + 1) more ≡ whole
    json_next whole more next before =
        let here = row_json s shown (done + 1) one.asked one.after in
        let after : done + 1 + 1 ≡ suc (done + 1) = omega arith in
        ap (λ t. t ++ rows_json s shown (done + 1 + 1) more) said ∙ append_assoc out here (rows_json s shown (done + 1 + 1) more)
        ∙ ap (λ k. out ++ (here ++ rows_json s shown k more)) after ∙ ap (λ rs. out ++ rows_json s shown (done + 1) rs) (sym next) ∙ before

pub json_run : (s : Spec) (names : List (List ℕ)) (words : RunWords) (first : State) (rows : List Row) (shown : List ℕ) (more : ℕ) (out mid new : List ℕ)
    → shown ≡ shown_columns names (columns s names rows) → more ≡ length (columns s names rows) - length (shown_columns names (columns s names rows))
    → mid ≡ out ++ (row_json s shown 0 [] (Some first) ++ rows_json s shown 1 rows) → new ≡ mid ++ end_json more words → new ≡ out ++ json_text s names words first rows
json_run s names words first rows shown more out mid new known counted is added =
    let one = row_json s shown 0 [] (Some first) in
    let others = rows_json s shown 1 rows in
    let end = end_json more words in
    added ∙ ap (λ t. t ++ end) is ∙ append_assoc out (one ++ others) end ∙ ap (λ t. out ++ t) (append_assoc one others end)
    ∙ (λ j. out ++ (row_json s (known j) 0 [] (Some first) ++ (rows_json s (known j) 1 rows ++ end_json (counted j) words)))
