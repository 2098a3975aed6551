-- Free. Lines of a table, piece by piece.
--     blanks_more       one blank more
--     comments_more     comments of some lines, and of others
--     more_said         how many more locations change
--     ok_then           what follows if something is done
--     row_last          the lines of the last row
--     row_next          those of another one
--     rows_first        those of the first state
--     rest_of           what is left of elements of which so many are written
--     rest_next         one element more
--     rest_none         if none is left
--     joined_more       values with a comma between each two, and one more
use Rattle.std.proofs.Common.{◌≡◌, ◌∙◌, ◌+◌, ◌<◌, ◌≤◌, ◌⊎◌, ◌≢◌, ◌++◌, ◌∷◌, [], ℕ, zero, suc, List, Bor, inl, inr, length, get_or, take, drop, ap, refl, sym, append-nil, append_assoc, arith}
use Rattle.std.specs.Prelude.{codes, decimal, min, Result, Ok, Err, OnOk}
use Rattle.std.specs.List.{flat_map}
use Rattle.std.proofs.lemmas.Bool.{cases_lt}
use Rattle.std.proofs.lemmas.List.{drop_all, drop_more, take_more, length-take-le}
use Rattle.std.proofs.lemmas.List.Concat.{flat_map-append}
use Rattle.asm_state.specs.Location.{State}
use Rattle.asm_state.specs.declared.value.Value.{Value}
use Rattle.asm_syntax.specs.SourceTree.{Spec}
use Rattle.asm_syntax.specs.declared.name.Name.{Name}
use Rattle.asm_run.specs.Trace.{value_text}
use Rattle.asm_run.specs.Written.{names_in}
use Rattle.asm_explore_texts.specs.Comments.{comment, comments}
use Rattle.asm_explore_texts.specs.code.TextPlaces.{elements_said}
use Rattle.asm_explore_table.specs.ChosenTexts.{elements_text, given_text, more_elements}
use Rattle.asm_explore_table.specs.Lines.{blanks}
use Rattle.asm_explore_table.specs.Rows.{Row}
use Rattle.asm_explore_table.specs.Tables.{first_row, joined_values, more_columns, row_lines, rows_from}
use Rattle.asm_explore_table.specs.declared.block.Block.{Block}
use Rattle.asm_explore_table.specs.code.Commas.{comma}

pub blanks_more : (n : ℕ) → blanks n ++ 32 ∷ [] ≡ blanks (n + 1)
blanks_more zero = refl
blanks_more (suc n) =
    let after : suc (n + 1) ≡ suc n + 1 = omega arith in
    ap (λ bs. 32 ∷ bs) (blanks_more n) ∙ ap blanks after

pub comments_more : (some others : List (List ℕ)) → comments (some ++ others) ≡ comments some ++ comments others
comments_more some others = flat_map-append comment some others

pub more_said : (n : ℕ) → n ≢ 0 → comment (codes "and " ++ (decimal n ++ codes " more locations change")) ≡ comments (more_columns n)
more_said zero other = absurd (other refl)
more_said (suc n) other = sym (append-nil (comment (codes "and " ++ (decimal (suc n) ++ codes " more locations change"))))

pub ok_then : {T E : Type 0} (r : Result T E) (P Q : Type 0) → (P → Q) → OnOk r P → OnOk r Q
ok_then (Ok x) P Q on is = on is
ok_then (Err e) P Q on is = tt

module _ (s : Spec) where
  abbrev pub rest_of : (done : ℕ) → List (List ℕ × Value) → List ℕ
  rest_of zero left = elements_text s left
  rest_of (suc done) left = more_elements s left

  nothing : (done : ℕ) → rest_of done [] ≡ []
  nothing zero = refl
  nothing (suc done) = refl

  one : (k : ℕ) (x : List ℕ) (v : Value) (left : List (List ℕ × Value)) → rest_of k ((x, v) ∷ left) ≡ (comma k ++ given_text s x v) ++ rest_of (k + 1) left
  one zero x v left = refl
  one (suc k) x v left =
      let after : suc (suc k) ≡ suc k + 1 = omega arith in
      sym (append_assoc (codes ", ") (given_text s x v) (more_elements s left)) ∙ ap (λ n. (codes ", " ++ given_text s x v) ++ rest_of n left) after

  module _ (xs : List (Bor Name)) (vs : List Value) where
    pub rest_next : (k : ℕ) (x : Bor Name) (v : Value) → k < length xs → k < length vs → x ≡ get_or xs k x → v ≡ get_or vs k v
        → rest_of k (elements_said (drop k xs) (drop k vs)) ≡ (comma k ++ given_text s x.now.text v) ++ rest_of (k + 1) (elements_said (drop (k + 1) xs) (drop (k + 1) vs))
    rest_next k x v low small is_x is_v =
        (λ j. rest_of k (elements_said (drop_more xs k x low j) (drop_more vs k v small j)))
        ∙ (λ j. rest_of k (elements_said (sym is_x j ∷ drop (k + 1) xs) (sym is_v j ∷ drop (k + 1) vs)))
        ∙ one k x.now.text v (elements_said (drop (k + 1) xs) (drop (k + 1) vs))

    unsaid : (ys : List (Bor Name)) → elements_said ys [] ≡ []
    unsaid [] = refl
    unsaid (y ∷ ys) = refl

    pub rest_none : (k : ℕ) → min (length xs) (length vs) ≤ k → rest_of k (elements_said (drop k xs) (drop k vs)) ≡ []
    rest_none k past = at (cases_lt k (length xs))
      where
        at : (k < length xs) ⊎ (length xs ≤ k) → rest_of k (elements_said (drop k xs) (drop k vs)) ≡ []
        at (inl low) =
            let short : length vs ≤ k = omega (arith, past, low) in
            ap (λ ws. rest_of k (elements_said (drop k xs) ws)) (drop_all k vs short) ∙ ap (rest_of k) (unsaid (drop k xs)) ∙ nothing k
        at (inr short) = ap (λ ys. rest_of k (elements_said ys (drop k vs))) (drop_all k xs short) ∙ nothing k

  -- ---- values

  abbrev text : Value → List ℕ
  text v = value_text (names_in s).elements v

  one_joined : (vs : List Value) (v : Value) → joined_values s (vs ++ v ∷ []) ≡ joined_values s vs ++ (comma (length vs) ++ text v)
  one_joined [] v = append-nil (text v)
  one_joined (w ∷ vs) v =
      ap (λ t. text w ++ t) (flat_map-append (λ u. codes ", " ++ text u) vs (v ∷ []) ∙ ap (λ t. flat_map (λ u. codes ", " ++ text u) vs ++ t) (append-nil (codes ", " ++ text v)))
      ∙ sym (append_assoc (text w) (flat_map (λ u. codes ", " ++ text u) vs) (codes ", " ++ text v))

  pub joined_more : (vs : List Value) (k : ℕ) (v : Value) → k < length vs → v ≡ get_or vs k v → joined_values s (take (k + 1) vs) ≡ joined_values s (take k vs) ++ (comma k ++ text v)
  joined_more vs k v low is =
      let many : length (take k vs) ≡ k = length-take-le k vs (omega (arith, low)) in
      ap (joined_values s) (take_more vs k v low) ∙ ap (λ w. joined_values s (take k vs ++ w ∷ [])) (sym is) ∙ one_joined (take k vs) v
      ∙ ap (λ n. joined_values s (take k vs) ++ (comma n ++ text v)) many

-- ---- rows

module _ (s : Spec) (width : ℕ) (block : Block) where
  abbrev rows : ℕ → List Row → List (List ℕ)
  rows = rows_from s width block

  module _ (out new : List ℕ) (number done : ℕ) (one : Row) (rest : List Row) (counted : number ≡ done) (added : new ≡ out ++ comments (row_lines s width block (number + 1) one)) where
    said : new ≡ out ++ comments (row_lines s width block (done + 1) one)
    said = added ∙ ap (λ k. out ++ comments (row_lines s width block (k + 1) one)) counted

    pub row_last : (whole : List ℕ) → rest ≡ one ∷ [] → out ++ comments (rows (done + 1) rest) ≡ whole → new ≡ whole
    row_last whole last before =
        said ∙ ap (λ ls. out ++ comments ls) (sym (append-nil (row_lines s width block (done + 1) one))) ∙ ap (λ rs. out ++ comments (rows (done + 1) rs)) (sym last) ∙ before

    pub row_next : (whole : List ℕ) (more : List Row) → rest ≡ one ∷ more → out ++ comments (rows (done + 1) rest) ≡ whole → new ++ comments (rows (done + 1 + 1) more) ≡ whole
    row_next whole more next before =
        let here = row_lines s width block (done + 1) one in
        let after : done + 1 + 1 ≡ suc (done + 1) = omega arith in
        ap (λ t. t ++ comments (rows (done + 1 + 1) more)) said ∙ append_assoc out (comments here) (comments (rows (done + 1 + 1) more))
        ∙ ap (λ k. out ++ (comments here ++ comments (rows k more))) after ∙ ap (λ t. out ++ t) (sym (comments_more here (rows (suc (done + 1)) more)))
        ∙ ap (λ rs. out ++ comments (rows (done + 1) rs)) (sym next) ∙ before

  pub rows_first : (out new : List ℕ) (A B : State) (rest all : List Row) → A ≡ B → rest ≡ all → new ≡ out ++ comment (first_row s width block A)
      → new ++ comments (rows (0 + 1) rest) ≡ out ++ comments (first_row s width block B ∷ rows 1 all)
  rows_first out new A B rest all begin same added =
      (λ j. added j ++ comments (rows 1 (same j))) ∙ ap (λ X. (out ++ comment (first_row s width block X)) ++ comments (rows 1 all)) begin
      ∙ append_assoc out (comment (first_row s width block B)) (comments (rows 1 all))
