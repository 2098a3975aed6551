-- Free. Comments for assignments, one after the other.
--     one_more      a comment after others
--     with_rest     comments after others
--     rest_said     how many assignments aren't shown
--     ok_then       what follows if something is done
--     found_at      the assignment with a number
--     lines_more    a line after those of assignments
--     as_many       there are as many lines as assignments
--     lines_long, too_many     each comment has 15 bytes at least, so that many don't fit
use Rattle.std.proofs.Common.{◌≡◌, ◌∙◌, ◌*◌, ◌<◌, ◌≤◌, ℕ, zero, suc, Some, get_or, List, [], ◌∷◌, ◌++◌, length, codes, inl, inr, refl, sym, ap, append-nil, length-append, arith}
use Rattle.std.specs.Prelude.{◌⊎◌, ◌≢◌, decimal, slice_get, Result, Ok, Err, OnOk}
use Rattle.asm_reader.specs.ScriptText.{max_script}
use Rattle.std.proofs.lemmas.Grind.{flat_map-append}
use Rattle.std.proofs.lemmas.List.{length-map}
use Rattle.asm_run.specs.Trace.{TraceNames, path_text, value_text}
use Rattle.asm_run.specs.declared.end.End.{End}
use Rattle.asm_clash.specs.declared.assignment.Assignment.{Assignment}
use Rattle.asm_explore_texts.specs.Comments.{comment, comments, in_one_line, shown}
use Rattle.asm_explore_texts.specs.Positions.{position_text}
use Rattle.asm_explore_run.specs.ClashText.{AreLinesOf, IsLineOf, assignment_text, bound_text, greatest_shown, located, more}

pub with_rest : (first : List ℕ) (shown rest : List (List ℕ)) → comments (first ∷ shown) ++ comments rest ≡ comments (first ∷ (shown ++ rest))
with_rest first shown rest = sym (flat_map-append comment (first ∷ shown) rest)

pub one_more : (first : List ℕ) (shown : List (List ℕ)) (line : List ℕ) → comments (first ∷ shown) ++ comment line ≡ comments (first ∷ (shown ++ line ∷ []))
one_more first shown line = ap (λ t. comments (first ∷ shown) ++ t) (sym (append-nil (comment line))) ∙ with_rest first shown (line ∷ [])

pub rest_said : (n : ℕ) → n ≢ 0 → comment (codes "and " ++ (decimal n ++ codes " more")) ≡ comments (more n)
rest_said zero other = absurd (other refl)
rest_said (suc n) other = sym (append-nil (comment (codes "and " ++ (decimal (suc n) ++ codes " more"))))

pub ok_then : {T E : Type 0} (r : Result T E) (P Q : Type 0) → (P → Q) → OnOk r P → OnOk r Q
ok_then (Ok x) P Q on is = on is
ok_then (Err e) P Q on is = tt

pub found_at : (found : List Assignment) (i : ℕ) (a : Assignment) → i < length found → a ≡ get_or found i a → slice_get found i ≡ Some a
found_at [] i a low is = absurd (omega (arith, low))
found_at (x ∷ found) zero a low is = ap Some (sym is)
found_at (x ∷ found) (suc i) a low is = found_at found i a (omega (arith, low)) is

module _ (text : List ℕ) (names : TraceNames) (end : End) where
  pub as_many : (found : List Assignment) (lines : List (List ℕ)) → AreLinesOf text names end found lines → length found ≡ length lines
  as_many [] [] are = refl
  as_many [] (x ∷ lines) are = absurd are
  as_many (x ∷ found) [] are = absurd are
  as_many (x ∷ found) (y ∷ lines) are = ap suc (as_many found lines are.1)

  pub lines_more : (found : List Assignment) (lines : List (List ℕ)) (a : Assignment) (line : List ℕ) → AreLinesOf text names end found lines → IsLineOf text names end a line
      → AreLinesOf text names end (found ++ a ∷ []) (lines ++ line ∷ [])
  lines_more [] [] a line are is = (is, tt)
  lines_more [] (x ∷ lines) a line are is = absurd are
  lines_more (x ∷ found) [] a line are is = absurd are
  lines_more (x ∷ found) (y ∷ lines) a line are is = (are.0, lines_more found lines a line are.1 is)

  said_long : (a : Assignment) → 12 ≤ length (assignment_text names (located names end a.arguments.items) a)
  said_long a =
      let location = located names end a.arguments.items in
      let behind_location = codes " := " ++ value_text names.elements a.value in
      let behind_path = codes ": " ++ (location ++ behind_location) in
      omega (arith, length-append (path_text a.path) behind_path, length-append location behind_location)

  line_long : (a : Assignment) (line : List ℕ) → IsLineOf text names end a line → 12 ≤ length line
  line_long a line (inl is) =
      let said = assignment_text names (located names end a.arguments.items) a in
      let bound = bound_text text names [] is.bound a.bound.items in
      let place = position_text text is.at in
      let whole : length line ≡ length (place ++ (codes ", " ++ (said ++ bound))) = ap length is.is in
      omega (arith, whole, said_long a, length-append place (codes ", " ++ (said ++ bound)), length-append said bound)
  line_long a line (inr is) = let whole : length line ≡ length (assignment_text names (located names end a.arguments.items) a) = ap length is in omega (arith, whole, said_long a)

  comment_long : (a : Assignment) (line : List ℕ) → IsLineOf text names end a line → 15 ≤ length (comment line)
  comment_long a [] is = absurd (omega (arith, line_long a [] is))
  comment_long a (b ∷ line) is = omega (arith, line_long a (b ∷ line) is, length-append (in_one_line (b ∷ line)) (10 ∷ []), length-map (b ∷ line) shown)

  pub lines_long : (found : List Assignment) (lines : List (List ℕ)) → AreLinesOf text names end found lines → 15 * length lines ≤ length (comments lines)
  lines_long [] [] are = omega arith
  lines_long [] (x ∷ lines) are = absurd are
  lines_long (x ∷ found) [] are = absurd are
  lines_long (x ∷ found) (y ∷ lines) are = omega (arith, comment_long x y are.0, lines_long found lines are.1, length-append (comment y) (comments lines))

  -- so many lines are too long
  pub too_many : (found : List Assignment) (first : List ℕ) (lines rest : List (List ℕ)) → AreLinesOf text names end found lines → greatest_shown ≤ length lines
      → (length (comments (first ∷ lines) ++ comments rest) ≤ max_script) ⊎ (lines ≡ []) → ⊥
  too_many found first lines rest are many (inl fit) =
      omega (arith, lines_long found lines are, many, fit, length-append (comment first) (comments lines), length-append (comments (first ∷ lines)) (comments rest))
  too_many found first lines rest are many (inr none) = let nothing : length lines ≡ 0 = ap length none in omega (arith, many, nothing)
