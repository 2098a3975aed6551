-- Free. Outcomes beside each other, and one more added to those so far.
--     more_counted               one more that is counted
--     group_laws-.., body_laws-..  one more, one, and none;  of the elements of an interval, those
--                                  so far and those that are left
use Rattle.std.proofs.Common.{◌≡◌, ℕ, ◌+◌, ◌≤◌, ◌<◌, Bool, true, false, List, [], ◌∷◌, ◌++◌, map, Some, refl, sym, ap, ◌∙◌, arith}
use Rattle.std.specs.Prelude.{slice_get}
use Rattle.std.proofs.lemmas.List.{map_push}
use Rattle.asm_state.specs.declared.value.Value.{Value}
use Rattle.asm_meaning.specs.Does.{Outcome, nothing, both, counted, each}
use Rattle.asm_meaning.specs.code.OutcomesBeside.{counting, all_both}
use Rattle.asm_meaning.specs.code.Intervals.{between}
use Rattle.asm_meaning.proofs.BesideLemmas.PartsBeside.{beside_laws}
use Rattle.asm_meaning.proofs.Intervals.{interval_laws-next as each_next, interval_laws-none as each_none}

pub same_outcome : (o q : Outcome) → o.result ≡ q.result → o.instances ≡ q.instances → o ≡ q
same_outcome o q e f i = record { result = e i; instances = f i }

pub group_laws-counting_none : (o : Outcome) → counting 0 o ≡ o
group_laws-counting_none o = same_outcome (counting 0 o) o refl (omega arith)

-- ---- one piece more

pub all_both-append : (os qs : List Outcome) → all_both (os ++ qs) ≡ both (all_both os) (all_both qs)
all_both-append [] qs = sym (beside_laws.first_unit (all_both qs))
all_both-append (o ∷ os) qs = ap (both o) (all_both-append os qs) ∙ sym (beside_laws.group o (all_both os) (all_both qs))

module _ {X : Type 0} (f : X → Outcome) where
  pub all_both-push : (xs : List X) (x : X) → all_both (map f (xs ++ x ∷ [])) ≡ both (all_both (map f xs)) (f x)
  all_both-push xs x = ap all_both (map_push f xs x) ∙ all_both-append (map f xs) (f x ∷ []) ∙ ap (both (all_both (map f xs))) (beside_laws.last_unit (f x))

  -- what comes after the next one
  pub next_both : (xs : List X) (x : X) (rest : Outcome) → both (all_both (map f (xs ++ x ∷ []))) rest ≡ both (all_both (map f xs)) (both (f x) rest)
  next_both xs x rest = ap (λ o. both o rest) (all_both-push xs x) ∙ beside_laws.group (all_both (map f xs)) (f x) rest

  pub only_both : (x : X) → all_both (map f (x ∷ [])) ≡ f x
  only_both x = beside_laws.last_unit (f x)

  -- a counted one
  pub next_counted : (n : ℕ) (xs : List X) (x : X) (rest : Outcome)
      → both (counting (n + 1) (all_both (map f (xs ++ x ∷ [])))) rest ≡ both (counting n (all_both (map f xs))) (counted (both (f x) rest))
  next_counted n xs x rest =
      let next = next_both xs x rest in
      let numbers = ap (λ (o : Outcome). o.instances) next in
      same_outcome _ _ (ap (λ (o : Outcome). o.result) next) (omega (arith, numbers))

-- ---- a list with one more

module _ {X : Type 0} (f : X → Outcome) where
  pub group_laws-more : (xs ys : List X) (x : X) (rest : Outcome) → ys ≡ xs ++ x ∷ [] → both (all_both (map f ys)) rest ≡ both (all_both (map f xs)) (both (f x) rest)
  group_laws-more xs ys x rest is = ap (λ zs. both (all_both (map f zs)) rest) is ∙ next_both f xs x rest

  pub more_counted : (n m : ℕ) (xs ys : List X) (x : X) (rest : Outcome) → m ≡ n + 1 → ys ≡ xs ++ x ∷ []
      → both (counting m (all_both (map f ys))) rest ≡ both (counting n (all_both (map f xs))) (counted (both (f x) rest))
  more_counted n m xs ys x rest count is =
      ap (λ k. both (counting k (all_both (map f ys))) rest) count ∙ ap (λ zs. both (counting (n + 1) (all_both (map f zs))) rest) is ∙ next_counted f n xs x rest

  pub group_laws-one : (xs ys : List X) (x : X) → xs ≡ [] → ys ≡ xs ++ x ∷ [] → f x ≡ counting 0 (all_both (map f ys))
  group_laws-one xs ys x none is = sym (group_laws-counting_none (all_both (map f ys)) ∙ ap (λ zs. all_both (map f zs)) (is ∙ ap (λ zs. zs ++ x ∷ []) none) ∙ only_both f x)

  pub group_laws-none : (xs : List X) → xs ≡ [] → nothing ≡ counting 0 (all_both (map f xs))
  group_laws-none xs none = sym (group_laws-counting_none (all_both (map f xs)) ∙ ap (λ zs. all_both (map f zs)) none)

-- ---- the bodies of an interval: the pieces so far, and the elements that are left

module _ {X : Type 0} (f : X → Outcome) (m : Value → ℕ → Outcome) (test : Value → Bool) (to : ℕ) (vs : List Value) where
  abbrev left_from : ℕ → Outcome
  left_from i = each m test i (between i to vs)

  pub body_laws-begin : (from : ℕ) (xs : List X) → xs ≡ [] → both (counting 0 (all_both (map f xs))) (left_from from) ≡ left_from from
  body_laws-begin from xs none =
      ap (λ o. both o (left_from from)) (group_laws-counting_none (all_both (map f xs)) ∙ ap (λ zs. all_both (map f zs)) none) ∙ beside_laws.first_unit (left_from from)

  pub body_laws-counted : (i n k : ℕ) (xs ys : List X) (x : X) (v : Value) (whole : Outcome) → i < to → slice_get vs i ≡ Some v → true ≡ test v → k ≡ n + 1
      → ys ≡ xs ++ x ∷ [] → f x ≡ m v i → both (counting n (all_both (map f xs))) (left_from i) ≡ whole
      → both (counting k (all_both (map f ys))) (left_from (i + 1)) ≡ whole
  body_laws-counted i n k xs ys x v whole low there holds count more same so_far =
      more_counted f n k xs ys x (left_from (i + 1)) count more
      ∙ ap (λ o. both (counting n (all_both (map f xs))) (counted (both o (left_from (i + 1))))) same
      ∙ ap (both (counting n (all_both (map f xs)))) (each_next m test i to vs v true low there holds)
      ∙ so_far

  pub body_laws-passed : (i n k : ℕ) (xs ys : List X) (v : Value) (whole : Outcome) → i < to → slice_get vs i ≡ Some v → false ≡ test v → k ≡ n → ys ≡ xs
      → both (counting n (all_both (map f xs))) (left_from i) ≡ whole → both (counting k (all_both (map f ys))) (left_from (i + 1)) ≡ whole
  body_laws-passed i n k xs ys v whole low there fails count same so_far =
      ap (λ j. both (counting j (all_both (map f ys))) (left_from (i + 1))) count
      ∙ ap (λ zs. both (counting n (all_both (map f zs))) (left_from (i + 1))) same
      ∙ ap (both (counting n (all_both (map f xs)))) (each_next m test i to vs v false low there fails)
      ∙ so_far

  pub body_laws-end : (i n : ℕ) (xs : List X) (whole : Outcome) → to ≤ i → both (counting n (all_both (map f xs))) (left_from i) ≡ whole → whole ≡ counting n (all_both (map f xs))
  body_laws-end i n xs whole past so_far =
      sym so_far ∙ ap (both (counting n (all_both (map f xs)))) (each_none m test i to vs past) ∙ beside_laws.last_unit (counting n (all_both (map f xs)))
