-- Free. Which locations change, and lists of numbers.
--     set_here, set_there      a list after a write
--     range_more               one number more
--     any_below                a test that passes for one of the first numbers
--     any_more                 for one of one more
--     filter_more              the numbers that pass, of one more
--     any_mapped               a test of what something gives
--     any_said                 whether one of the names is a text
--     all_if                   what is so of all of some, and of one that may be among them
--     noted_done, noted_left   which locations are noted, after one more
use Rattle.std.proofs.Common.{◌≡◌, ◌∙◌, ◌+◌, ◌-◌, ◌<◌, ◌≤◌, ◌≢◌, ◌||◌, ◌++◌, ◌∷◌, [], ℕ, zero, suc, Bool, Bor, true, false, cond, List, length, get_or, set, map, filter, ap, refl, sym, arith, below_more}
use Rattle.std.specs.List.{list_any, range_with_len}
use Rattle.std.specs.Str.{bytes_eq}
use Rattle.std.proofs.lemmas.List.{get_or-set_same, get_or-set_other}
use Rattle.std.proofs.lemmas.List.Folds.{list_any-append}
use Rattle.std.proofs.lemmas.List.Elements.{All-append, filter-append}
use Rattle.std.specs.Prelude.{All}
use Rattle.asm_explore_table.specs.code.StepsMade.{names_said}

range_from : (a n : ℕ) → range_with_len a (suc n) ≡ range_with_len a n ++ (a + n) ∷ []
range_from a zero =
    let same : a ≡ a + 0 = omega arith in
    ap (λ m. m ∷ []) same
range_from a (suc n) =
    let same : a + 1 + n ≡ a + suc n = omega arith in
    ap (λ xs. a ∷ xs) (range_from (a + 1) n ∙ ap (λ m. range_with_len (a + 1) n ++ m ∷ []) same)

pub range_more : (n : ℕ) → range_with_len 0 (n + 1) ≡ range_with_len 0 n ++ n ∷ []
range_more n =
    let after : n + 1 ≡ suc n = omega arith in
    let same : 0 + n ≡ n = omega arith in
    ap (range_with_len 0) after ∙ range_from 0 n ∙ ap (λ m. range_with_len 0 n ++ m ∷ []) same

module _ (p : ℕ → Bool) where
  last_only : (b : Bool) → (b || false) ≡ b
  last_only true = refl
  last_only false = refl

  pub any_more : (n : ℕ) → list_any p (range_with_len 0 (n + 1)) ≡ (list_any p (range_with_len 0 n) || p n)
  any_more n = ap (list_any p) (range_more n) ∙ list_any-append p (range_with_len 0 n) (n ∷ []) ∙ ap (λ b. list_any p (range_with_len 0 n) || b) (last_only (p n))

  kept : (b : Bool) → (true || b) ≡ true
  kept b = refl

  or_true : (b : Bool) → (b || true) ≡ true
  or_true true = refl
  or_true false = refl

  further : (n more : ℕ) → list_any p (range_with_len 0 n) ≡ true → list_any p (range_with_len 0 (n + more)) ≡ true
  further n zero found =
      let same : n + 0 ≡ n = omega arith in
      ap (λ m. list_any p (range_with_len 0 m)) same ∙ found
  further n (suc more) found =
      let same : n + suc more ≡ (n + more) + 1 = omega arith in
      ap (λ m. list_any p (range_with_len 0 m)) same ∙ any_more (n + more) ∙ ap (λ b. b || p (n + more)) (further n more found)

  pub any_below : (n count : ℕ) → n < count → p n ≡ true → list_any p (range_with_len 0 count) ≡ true
  any_below n count low passes =
      let same : count ≡ (n + 1) + (count - (n + 1)) = omega (arith, low) in
      ap (λ m. list_any p (range_with_len 0 m)) same
      ∙ further (n + 1) (count - (n + 1)) (any_more n ∙ ap (λ b. list_any p (range_with_len 0 n) || b) passes ∙ or_true (list_any p (range_with_len 0 n)))

  one_kept : (n : ℕ) → filter p (n ∷ []) ≡ cond (p n) (n ∷ []) []
  one_kept n = refl

  pub filter_more : (n : ℕ) → filter p (range_with_len 0 (n + 1)) ≡ filter p (range_with_len 0 n) ++ cond (p n) (n ∷ []) []
  filter_more n = ap (filter p) (range_more n) ∙ filter-append p (range_with_len 0 n) (n ∷ []) ∙ ap (λ xs. filter p (range_with_len 0 n) ++ xs) (one_kept n)

pub any_mapped : {X Y : Type 0} (p : Y → Bool) (h : X → Y) (xs : List X) → list_any p (map h xs) ≡ list_any (λ x. p (h x)) xs
any_mapped p h [] = refl
any_mapped p h (x ∷ xs) = ap (λ b. p (h x) || b) (any_mapped p h xs)

pub any_said : (names : List (Bor (List ℕ))) (text same : List ℕ) (b : Bool) → text ≡ same → b ≡ list_any (λ (name : Bor (List ℕ)). bytes_eq name.now text) names
    → b ≡ list_any (λ name. bytes_eq name same) (names_said names)
any_said names text same b is found =
    found ∙ ap (λ t. list_any (λ (name : Bor (List ℕ)). bytes_eq name.now t) names) is ∙ sym (any_mapped (λ name. bytes_eq name same) (λ (name : Bor (List ℕ)). name.now) names)

pub all_if : {X : Type 0} (P : X → Type 0) (xs : List X) (x : X) (b : Bool) → All P xs → P x → All P (xs ++ cond b (x ∷ []) [])
all_if P xs x b all one = All-append P xs (cond b (x ∷ []) []) all (at b)
  where
    at : (b : Bool) → All P (cond b (x ∷ []) [])
    at true zero d low = one
    at true (suc k) d low = absurd (omega (arith, low))
    at false k d low = absurd (omega (arith, low))

-- ---- what is noted

module _ (changed : List Bool) (n : ℕ) (low : n < length changed) (b : Bool) where
  abbrev noted : List Bool
  noted = set changed n (get_or changed n false || b)

  there : (k : ℕ) → k ≢ n → get_or noted k false ≡ get_or changed k false
  there k other = get_or-set_other changed n k (get_or changed n false || b) false other

  pub noted_left : (old : List Bool) → ((k : ℕ) → n ≤ k → get_or changed k false ≡ get_or old k false) → (k : ℕ) → n + 1 ≤ k → get_or noted k false ≡ get_or old k false
  noted_left old left k past = there k (λ same. absurd (omega (arith, past, same))) ∙ left k (omega (arith, past))

  pub noted_done : (old : List Bool) (differs : ℕ → Bool) → b ≡ differs n → ((k : ℕ) → k < n → get_or changed k false ≡ (get_or old k false || differs k))
      → get_or changed n false ≡ get_or old n false → (k : ℕ) → k < n + 1 → get_or noted k false ≡ (get_or old k false || differs k)
  noted_done old differs is done before = below_more (λ k. get_or noted k false ≡ (get_or old k false || differs k)) n
      (λ k small. there k (λ same. absurd (omega (arith, small, same))) ∙ done k small)
      (get_or-set_same changed n (get_or changed n false || b) false low ∙ (λ j. before j || is j))
