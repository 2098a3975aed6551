-- Free. The positions at which a test passes.
use Rattle.std.proofs.Common.{◌≡◌, ℕ, zero, suc, ◌+◌, Bool, true, false, cond, List, [], ◌∷◌, ◌++◌, map, length, slice_get, Option, Some, None, refl, sym, ap, subst, ◌∙◌, arith, append_assoc}
use Rattle.std.specs.Prelude.{filter, option_map}
use Rattle.std.proofs.lemmas.Option.{slice_get-map}
use Rattle.asm_check.specs.code.numbers.NumberTables.{indices_where, appended_if}

module _ {X : Type 0} (p : X → Bool) where
  -- one more at the end
  from_one : (i : ℕ) (xs : List X) (x : X) → indices_where p i (xs ++ x ∷ []) ≡ appended_if (p x) (indices_where p i xs) (i + length xs)
  from_one i [] x = let none : i + 0 ≡ i = omega arith in by_test (p x) ∙ ap (appended_if (p x) []) (sym none)
    where
      by_test : (b : Bool) → cond b (i ∷ []) [] ≡ appended_if b [] i
      by_test true = refl
      by_test false = refl
  from_one i (y ∷ ys) x =
      let turned : suc i + length ys ≡ i + suc (length ys) = omega arith in
      by_tests (p y) (p x) (indices_where p (suc i) (ys ++ x ∷ [])) (indices_where p (suc i) ys) (i + suc (length ys)) (from_one (suc i) ys x ∙ ap (appended_if (p x) (indices_where p (suc i) ys)) turned)
    where
      by_tests : (b c : Bool) (more rest : List ℕ) (n : ℕ) → more ≡ appended_if c rest n → cond b (i ∷ more) more ≡ appended_if c (cond b (i ∷ rest) rest) n
      by_tests true true more rest n e = ap (λ ns. i ∷ ns) e
      by_tests true false more rest n e = ap (λ ns. i ∷ ns) e
      by_tests false c more rest n e = e

  pub where_one : (xs : List X) (x : X) (n : ℕ) → n ≡ length xs → indices_where p 0 (xs ++ x ∷ []) ≡ appended_if (p x) (indices_where p 0 xs) n
  where_one xs x n e = let whole : 0 + length xs ≡ n = omega (arith, e) in from_one 0 xs x ∙ ap (appended_if (p x) (indices_where p 0 xs)) whole

  length_from : (i : ℕ) (xs : List X) → length (indices_where p i xs) ≡ length (filter p xs)
  length_from i [] = refl
  length_from i (x ∷ xs) = by_test (p x) (indices_where p (suc i) xs) (filter p xs) (length_from (suc i) xs)
    where
      by_test : (b : Bool) (ns : List ℕ) (ys : List X) → length ns ≡ length ys → length (cond b (i ∷ ns) ns) ≡ length (cond b (x ∷ ys) ys)
      by_test true ns ys e = ap suc e
      by_test false ns ys e = e

  pub where_length : (xs : List X) → length (indices_where p 0 xs) ≡ length (filter p xs)
  where_length xs = length_from 0 xs

  at_seam : (before : List X) (x : X) (xs : List X) → slice_get (before ++ x ∷ xs) (length before) ≡ Some x
  at_seam [] x xs = refl
  at_seam (y ∷ ys) x xs = at_seam ys x xs

  -- what is at these positions
  read_from : (all before xs : List X) (i : ℕ) → all ≡ before ++ xs → i ≡ length before → map (λ k. slice_get all k) (indices_where p i xs) ≡ map Some (filter p xs)
  read_from all before [] i e at = refl
  read_from all before (x ∷ xs) i e at = by_test (p x) (indices_where p (suc i) xs) (filter p xs) (read_from all (before ++ x ∷ []) xs (suc i) next (ap suc at ∙ longer before))
    where
      longer : (ys : List X) → suc (length ys) ≡ length (ys ++ x ∷ [])
      longer [] = refl
      longer (y ∷ ys) = ap suc (longer ys)

      next : all ≡ (before ++ x ∷ []) ++ xs
      next = e ∙ sym (append_assoc before (x ∷ []) xs)

      this : slice_get all i ≡ Some x
      this = ap (λ ys. slice_get ys i) e ∙ ap (slice_get (before ++ x ∷ xs)) at ∙ at_seam before x xs

      by_test : (b : Bool) (ns : List ℕ) (ys : List X) → map (λ k. slice_get all k) ns ≡ map Some ys → map (λ k. slice_get all k) (cond b (i ∷ ns) ns) ≡ map Some (cond b (x ∷ ys) ys)
      by_test true ns ys rest = ap (λ o. o ∷ map (λ k. slice_get all k) ns) this ∙ ap (λ os. Some x ∷ os) rest
      by_test false ns ys rest = rest

  passes : (xs : List X) (n : ℕ) (x : X) → slice_get (filter p xs) n ≡ Some x → p x ≡ true
  passes [] n x at = cc
  passes (y ∷ ys) n x at = by_test (p y) refl (λ k. passes ys k x) n at
    where
      by_test : (b : Bool) → p y ≡ b → ((k : ℕ) → slice_get (filter p ys) k ≡ Some x → p x ≡ true)
          → (n : ℕ) → slice_get (cond b (y ∷ filter p ys) (filter p ys)) n ≡ Some x → p x ≡ true
      by_test true e rest zero at = let same : y ≡ x = cc in subst (λ z. p z ≡ true) same e
      by_test true e rest (suc n) at = rest n at
      by_test false e rest n at = rest n at

  -- the n-th that passes
  pub record IsNth (xs : List X) (n k : ℕ) : Type 0 where
    pub it : X
    pub index : slice_get xs k ≡ Some it
    pub kept : slice_get (filter p xs) n ≡ Some it
    pub passes : p it ≡ true

  there : (xs : List X) (n k : ℕ) → slice_get (indices_where p 0 xs) n ≡ Some k → (o : Option X) → slice_get (filter p xs) n ≡ o → IsNth xs n k
  there xs n k at (Some x) is =
      let same : Some (slice_get xs k) ≡ Some (Some x) =
      ap (option_map (λ k. slice_get xs k)) (sym at) ∙ sym (slice_get-map (λ k. slice_get xs k) (indices_where p 0 xs) n)
      ∙ ap (λ os. slice_get os n) (read_from xs [] xs 0 refl refl) ∙ slice_get-map Some (filter p xs) n ∙ ap (option_map Some) is in
      record { it = x; index = cc; kept = is; passes = passes xs n x is }
  there xs n k at None is =
      let same : Some (slice_get xs k) ≡ None =
      ap (option_map (λ k. slice_get xs k)) (sym at) ∙ sym (slice_get-map (λ k. slice_get xs k) (indices_where p 0 xs) n)
      ∙ ap (λ os. slice_get os n) (read_from xs [] xs 0 refl refl) ∙ slice_get-map Some (filter p xs) n ∙ ap (option_map Some) is in
      cc

  pub nth : (xs : List X) (n k : ℕ) → slice_get (indices_where p 0 xs) n ≡ Some k → IsNth xs n k
  nth xs n k at = there xs n k at (slice_get (filter p xs) n) refl
