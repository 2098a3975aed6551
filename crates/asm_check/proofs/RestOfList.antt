-- Free. What is left of a list from an index on, in a loop over it.
use Rattle.std.proofs.Common.{◌≡◌, ℕ, suc, ◌+◌, ◌<◌, ◌≤◌, List, [], ◌∷◌, ◌++◌, map, length, drop, get_or, drop-cons, drop_of_length-le, append_assoc, sym, ap, subst, ◌∙◌, arith}
use Rattle.std.specs.Prelude.{Contains, filter_map, Some, None, Option}
use Rattle.std.specs.List.{cons_option}
use Rattle.asm_state.proofs.Lists.{Contains-map}

-- the rest of a list from an index on
pub next_of : {X : Type 0} (xs : List X) (i : ℕ) (x : X) → i < length xs → x ≡ get_or xs i x → drop i xs ≡ x ∷ drop (suc i) xs
next_of xs i x h is = drop-cons xs i x h ∙ ap (λ y. y ∷ drop (suc i) xs) (sym is)

-- after the last item there is nothing
pub at_end : {X : Type 0} (items seen : List X) (i : ℕ) → seen ≡ items → length seen ≤ i → drop i items ≡ []
at_end items seen i same h = subst (λ xs. drop i xs ≡ []) same (drop_of_length-le seen h)

-- the item at an index is among the items
pub item_among : {X Y : Type 0} (g : X → Y) (items seen : List X) (i : ℕ) (x : X) → seen ≡ items → i < length seen → x ≡ get_or seen i x → Contains (map g items) (g x)
item_among g items seen i x same h is = Contains-map g items x (subst (λ xs. Contains xs x) same (i, h, sym is))

-- the same if each item has one thing or none
module _ {X Y A : Type 0} (f : Y → Option A) (g : X → Y) (before all : List A) (items seen : List X) (i : ℕ) (x : X) (same : seen ≡ items) (h : i < length seen) (is : x ≡ get_or seen i x) where
  one_next : before ++ filter_map f (map g (drop i items)) ≡ all → before ++ cons_option (f (g x)) (filter_map f (map g (drop (i + 1) items))) ≡ all
  one_next so_far =
      let at : drop i seen ≡ x ∷ drop (suc i) seen = next_of seen i x h is in
      let here_now : drop i items ≡ x ∷ drop (suc i) items = subst (λ xs. drop i xs ≡ x ∷ drop (suc i) xs) same at in
      let up : i + 1 ≡ suc i = omega arith in
      ap (λ n. before ++ cons_option (f (g x)) (filter_map f (map g (drop n items)))) up ∙ ap (λ xs. before ++ filter_map f (map g xs)) (sym here_now) ∙ so_far

  pub with_one : (y : A) (after : List A) → after ≡ before ++ y ∷ [] → Some y ≡ f (g x) → before ++ filter_map f (map g (drop i items)) ≡ all → after ++ filter_map f (map g (drop (i + 1) items)) ≡ all
  with_one y after pushed one so_far =
      ap (λ xs. xs ++ filter_map f (map g (drop (i + 1) items))) pushed
      ∙ append_assoc before (y ∷ []) (filter_map f (map g (drop (i + 1) items)))
      ∙ ap (λ o. before ++ cons_option o (filter_map f (map g (drop (i + 1) items)))) one
      ∙ one_next so_far

  pub with_none : (after : List A) → after ≡ before → None ≡ f (g x) → before ++ filter_map f (map g (drop i items)) ≡ all → after ++ filter_map f (map g (drop (i + 1) items)) ≡ all
  with_none after kept none so_far =
      ap (λ xs. xs ++ filter_map f (map g (drop (i + 1) items))) kept
      ∙ ap (λ o. before ++ cons_option o (filter_map f (map g (drop (i + 1) items)))) none
      ∙ one_next so_far
