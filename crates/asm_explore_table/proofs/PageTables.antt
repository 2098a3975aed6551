-- Free. The table of a page.
--     all_marked        what is so of all locations is so of those of the columns
--     more_paragraph    how many more locations change
--     table_shown       the table and what follows it
use Rattle.std.proofs.Common.{◌≡◌, ◌∙◌, ◌-◌, ◌≢◌, ◌++◌, [], ◌∷◌, ℕ, zero, suc, Bool, List, Option, Some, length, ap, append-nil, append_assoc, arith, refl, sym}
use Rattle.std.specs.Prelude.{All, codes, decimal}
use Rattle.std.specs.List.{flat_map}
use Rattle.asm_state.specs.Location.{State, function_of}
use Rattle.asm_syntax.specs.SourceTree.{Spec}
use Rattle.asm_explore_table.specs.Pages.{marked_from, page_columns, paragraph, shown_table, table}
use Rattle.asm_explore_table.specs.Rows.{Row, chooses}
use Rattle.asm_explore_table.specs.Tables.{columns, more_columns, numbered, shown_columns}
use Rattle.asm_explore_table.specs.declared.page_columns.PageColumn.{PageColumn}

pub all_marked : (P : ℕ → Type 0) (s : Spec) (before : Option ℕ) (spanned : ℕ) (ns : List ℕ) → All P ns → All (λ (c : PageColumn). P c.location) (marked_from s before spanned ns)
all_marked P s before spanned [] all k d low = absurd (omega (arith, low))
all_marked P s before spanned (n ∷ ns) all zero d low = all zero 0 (omega arith)
all_marked P s before spanned (n ∷ ns) all (suc k) d low = all_marked P s (Some (function_of (numbered s n))) _ ns (λ i e small. all (suc i) e (omega (arith, small))) k d (omega (arith, low))

pub more_paragraph : (n : ℕ) → n ≢ 0 → paragraph (codes "and " ++ (decimal n ++ codes " more locations change")) ≡ flat_map paragraph (more_columns n)
more_paragraph zero other = absurd (other refl)
more_paragraph (suc n) other = sym (append-nil (paragraph (codes "and " ++ (decimal (suc n) ++ codes " more locations change"))))

module _ (s : Spec) (names : List (List ℕ)) (is_fault : Bool) (first : State) (rows : List Row) where
  pub table_shown : (out mid new : List ℕ) (asks : Bool) (cs : List PageColumn) (all shown : List ℕ) (more : ℕ)
      → asks ≡ chooses rows → all ≡ columns s names rows → shown ≡ shown_columns names all → cs ≡ page_columns s shown → more ≡ length all - length shown
      → mid ≡ out ++ table s asks cs is_fault first rows → new ≡ mid ++ flat_map paragraph (more_columns more)
      → new ≡ out ++ shown_table s names is_fault first rows
  table_shown out mid new asks cs all shown more chosen every front marked left added followed =
      let kept : shown ≡ shown_columns names (columns s names rows) = front ∙ ap (shown_columns names) every in
      let body : List ℕ → List ℕ = λ ns. table s (chooses rows) (page_columns s ns) is_fault first rows in
      let behind : List ℕ → List ℕ → List ℕ = λ ms ns. flat_map paragraph (more_columns (length ms - length ns)) in
      followed
      ∙ ap (λ t. t ++ flat_map paragraph (more_columns more)) added
      ∙ append_assoc out (table s asks cs is_fault first rows) (flat_map paragraph (more_columns more))
      ∙ (λ j. out ++ (table s (chosen j) (marked j) is_fault first rows ++ flat_map paragraph (more_columns (left j))))
      ∙ (λ j. out ++ (body (kept j) ++ behind (every j) (kept j)))
