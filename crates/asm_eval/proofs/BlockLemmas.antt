-- Free. Blocks of values: each changed in place, or some of them kept.
--     EachSoFar            each of the first values has been changed, and the others are as they were
--     each_begins, each_more, each_done
--     same_each, at_same   the same value at each position
--     KeepsSoFar           the kept ones of the first values stand in front, and the others are as
--                          they were
--     keeps_more, keeps_less
--     filter_twice         a filter of a filter
--     same_filter          by tests that agree on the values
--     none_left, some_left, all_left     by how many a filter leaves
use Rattle.std.proofs.Common.{◌≡◌, ◌≢◌, ℕ, zero, suc, ◌+◌, ◌<◌, ◌≤◌, Bool, true, false, cond, ◌&&◌, ◌||◌, List, [], ◌∷◌, ◌++◌, Some, length, take, drop, filter, refl, sym, ap, ◌∙◌, arith, below_more, get_or-set_same, get_or-set_other, length-set}
use Rattle.std.specs.Prelude.{slice_get, slice_index_or, slice_set, replicate}
use Rattle.std.proofs.lemmas.Option.{slice_get_within, get_or_from_slice_get}
use Rattle.std.specs.List.{list_any, list_all}
use Rattle.std.proofs.lemmas.List.{get_or-replicate, get_or-drop, take_more, take_more_set, take-append-drop, drop-drop, length-drop, length-take-le}
use Rattle.std.proofs.lemmas.List.Elements.{filter_more, filter_agree}
use Rattle.std.proofs.lemmas.List.Folds.{list_any-append, list_all-append, list_all_more}

module _ {X : Type 0} (d : X) where
  abbrev pub get : List X → ℕ → X
  get xs k = slice_index_or xs k d

  -- what is read at a position
  pub read_at : (xs : List X) (i : ℕ) (x : X) → i < length xs → slice_index_or xs i x ≡ get xs i
  read_at [] i x within = absurd (omega (arith, within))
  read_at (y ∷ xs) zero x within = refl
  read_at (y ∷ xs) (suc i) x within = read_at xs i x (omega (arith, within))

  -- ---- each changed in place

  pub record EachSoFar (f : ℕ → X → X) (old now : List X) (i : ℕ) : Type 0 where
    pub room : length now ≡ 16
    pub done : (k : ℕ) → k < i → get now k ≡ f k (get old k)
    pub left : (k : ℕ) → i ≤ k → get now k ≡ get old k

  pub each_begins : (f : ℕ → X → X) (xs : List X) → length xs ≡ 16 → EachSoFar f xs xs 0
  each_begins f xs room = record { room = room; done = λ k low. absurd (omega (arith, low)); left = λ k high. refl }

  pub each_more : (f : ℕ → X → X) (old now : List X) (i : ℕ) (x : X) → EachSoFar f old now i → i < 16 → x ≡ f i (get now i) → EachSoFar f old (slice_set now i x) (i + 1)
  each_more f old now i x so low is =
      let here : i < length now = omega (arith, so.room, low) in
      record {
        room = length-set now i x ∙ so.room;
        done = below_more (λ k. get (slice_set now i x) k ≡ f k (get old k)) i
            (λ k below. let other : k ≢ i = omega (arith, below) in get_or-set_other now i k x d other ∙ so.done k below)
            (get_or-set_same now i x d here ∙ is ∙ ap (f i) (so.left i (omega arith)));
        left = λ k high. let other : k ≢ i = omega (arith, high) in get_or-set_other now i k x d other ∙ so.left k (omega (arith, high));
      }

  pub each_done : (f : ℕ → X → X) (old now : List X) (i count : ℕ) → EachSoFar f old now i → count ≤ i → (k : ℕ) → k < count → get now k ≡ f k (get old k)
  each_done f old now i count so past k low = so.done k (omega (arith, past, low))

  pub at_same : (n : ℕ) (x : X) (k : ℕ) → k < n → get (replicate n x) k ≡ x
  at_same n x k low = get_or-replicate n k x d low

  -- ---- some kept

  pub record KeepsSoFar (p : X → Bool) (old now : List X) (kept i : ℕ) : Type 0 where
    pub front : take kept now ≡ filter p (take i old)
    pub rest : (k : ℕ) → i ≤ k → get now k ≡ get old k

  pub keeps_begins : (p : X → Bool) (xs : List X) → KeepsSoFar p xs xs 0 0
  keeps_begins p [] = record { front = refl; rest = λ k high. refl }
  keeps_begins p (x ∷ xs) = record { front = refl; rest = λ k high. refl }

  module _ (p : X → Bool) (old now : List X) (kept i : ℕ) (so : KeepsSoFar p old now kept i) (within : i < length old) where
    more_of : (b : Bool) → p (get old i) ≡ b → filter p (take (i + 1) old) ≡ filter p (take i old) ++ cond b (get old i ∷ []) []
    more_of b is = filter_more p old i d within ∙ ap (λ b. filter p (take i old) ++ cond b (get old i ∷ []) []) is

    pub keeps_more : p (get old i) ≡ true → (x : X) → x ≡ get now i → kept < length now → kept ≤ i → KeepsSoFar p old (slice_set now kept x) (kept + 1) (i + 1)
    keeps_more is x read room behind = record {
      front = take_more_set now kept x room ∙ (λ j. so.front j ++ (read ∙ so.rest i (omega arith)) j ∷ []) ∙ sym (more_of true is);
      rest = λ k high. let other : k ≢ kept = omega (arith, high, behind) in get_or-set_other now kept k x d other ∙ so.rest k (omega (arith, high));
    }

    pub keeps_less : p (get old i) ≡ false → KeepsSoFar p old now kept (i + 1)
    keeps_less is = record {
      front = so.front ∙ sym (more_of false is ∙ append_none (filter p (take i old)));
      rest = λ k high. so.rest k (omega (arith, high));
    }
      where
        append_none : (xs : List X) → xs ++ [] ≡ xs
        append_none [] = refl
        append_none (x ∷ xs) = ap (λ ys. x ∷ ys) (append_none xs)

-- ---- filters

module _ {X : Type 0} (p q : X → Bool) where
  abbrev both : List X → List X
  both xs = filter (λ x. p x && q x) xs

  pub filter_twice : (xs : List X) → filter q (filter p xs) ≡ both xs
  filter_twice [] = refl
  filter_twice (x ∷ xs) = by_test (p x) refl (filter_twice xs)
    where
      by_test : (b : Bool) → p x ≡ b → filter q (filter p xs) ≡ both xs → filter q (cond (p x) (x ∷ filter p xs) (filter p xs)) ≡ cond (p x && q x) (x ∷ both xs) (both xs)
      by_test true is more = ap (λ b. filter q (cond b (x ∷ filter p xs) (filter p xs))) is
          ∙ ap (λ ys. cond (q x) (x ∷ ys) ys) more
          ∙ sym (ap (λ b. cond (b && q x) (x ∷ both xs) (both xs)) is)
      by_test false is more = ap (λ b. filter q (cond b (x ∷ filter p xs) (filter p xs))) is
          ∙ more
          ∙ sym (ap (λ b. cond (b && q x) (x ∷ both xs) (both xs)) is)

module _ {X : Type 0} (p : X → Bool) where
  pub filter_length : (xs : List X) → length (filter p xs) ≤ length xs
  filter_length [] = omega arith
  filter_length (x ∷ xs) = by_test (p x) (filter_length xs)
    where
      by_test : (b : Bool) → length (filter p xs) ≤ length xs → length (cond b (x ∷ filter p xs) (filter p xs)) ≤ suc (length xs)
      by_test true more = omega (arith, more)
      by_test false more = omega (arith, more)

  -- nothing is left: no value passes
  pub none_left : (xs : List X) → length (filter p xs) ≡ 0 → list_any p xs ≡ false
  none_left [] h = refl
  none_left (x ∷ xs) h = by_test (p x) (none_left xs) h
    where
      by_test : (b : Bool) → (length (filter p xs) ≡ 0 → list_any p xs ≡ false) → length (cond b (x ∷ filter p xs) (filter p xs)) ≡ 0 → (b || list_any p xs) ≡ false
      by_test true more g = absurd (omega (arith, g))
      by_test false more g = more g

  pub some_left : (xs : List X) → 0 < length (filter p xs) → list_any p xs ≡ true
  some_left [] h = absurd (omega (arith, h))
  some_left (x ∷ xs) h = by_test (p x) (some_left xs) h
    where
      by_test : (b : Bool) → (0 < length (filter p xs) → list_any p xs ≡ true) → 0 < length (cond b (x ∷ filter p xs) (filter p xs)) → (b || list_any p xs) ≡ true
      by_test true more g = refl
      by_test false more g = more g

  -- all are left: each value passes
  pub all_left : (xs : List X) → length xs ≤ length (filter p xs) → list_all p xs ≡ true
  all_left [] h = refl
  all_left (x ∷ xs) h = by_test (p x) (all_left xs) (filter_length xs) h
    where
      by_test : (b : Bool) → (length xs ≤ length (filter p xs) → list_all p xs ≡ true) → length (filter p xs) ≤ length xs → suc (length xs) ≤ length (cond b (x ∷ filter p xs) (filter p xs)) → (b && list_all p xs) ≡ true
      by_test true more fewer g = more (omega (arith, g))
      by_test false more fewer g = absurd (omega (arith, g, fewer))

  pub not_all_left : (xs : List X) → length (filter p xs) < length xs → list_all p xs ≡ false
  not_all_left [] h = absurd (omega (arith, h))
  not_all_left (x ∷ xs) h = by_test (p x) (not_all_left xs) h
    where
      by_test : (b : Bool) → (length (filter p xs) < length xs → list_all p xs ≡ false) → length (cond b (x ∷ filter p xs) (filter p xs)) < suc (length xs) → (b && list_all p xs) ≡ false
      by_test true more g = more (omega (arith, g))
      by_test false more g = refl

  -- and of a list in two parts, of which the first has so many
  pub any_further : (xs ys zs : List X) → xs ≡ ys ++ zs → list_any p ys ≡ false → list_any p xs ≡ list_any p zs
  any_further xs ys zs is none = ap (list_any p) is ∙ list_any-append p ys zs ∙ ap (λ b. b || list_any p zs) none

  pub all_further : (xs ys zs : List X) → xs ≡ ys ++ zs → list_all p ys ≡ true → list_all p xs ≡ list_all p zs
  all_further xs ys zs is all = ap (list_all p) is ∙ list_all-append p ys zs ∙ ap (λ b. b && list_all p zs) all

-- the values from a position on are a block of them and those after it
pub drop_block : {X : Type 0} (i n : ℕ) (xs : List X) → drop i xs ≡ take n (drop i xs) ++ drop (i + n) xs
drop_block i n xs = sym (take-append-drop n (drop i xs)) ∙ ap (λ ys. take n (drop i xs) ++ ys) (drop-drop n i xs)

pub length_block : {X : Type 0} (i n : ℕ) (xs : List X) → i + n ≤ length xs → length (take n (drop i xs)) ≡ n
length_block i n xs within = let left = length-drop i xs in length-take-le n (drop i xs) (omega (arith, left, within))

-- one value more of a block
pub one_more_from : {X : Type 0} (i k : ℕ) (xs ys : List X) (x : X) → k < length ys → slice_get xs (i + k) ≡ Some x → take k ys ≡ take k (drop i xs)
    → take (k + 1) (slice_set ys k x) ≡ take (k + 1) (drop i xs)
one_more_from i k xs ys x low here so =
    let within = slice_get_within xs (i + k) x here in
    let left = length-drop i xs in
    take_more_set ys k x low
    ∙ (λ j. so j ++ (sym (get_or_from_slice_get xs (i + k) x x here) ∙ sym (get_or-drop i xs k x)) j ∷ [])
    ∙ sym (take_more (drop i xs) k x (omega (arith, left, within)))

-- how many values a filter has left, if they stand in front of a block
pub kept_many : {X : Type 0} (n : ℕ) (es ys : List X) → take n es ≡ ys → n ≤ length es → length ys ≡ n
kept_many n es ys is few = sym (ap length is) ∙ length-take-le n es few

-- a block of the values that are left settles the whole, or doesn't
module _ {X : Type 0} (p : X → Bool) (i n k : ℕ) (us before after : List X) (block : take n before ≡ take n (drop i us)) (kept : take k after ≡ filter p (take n before)) (few : k ≤ length after) where
  left_in_block : length (filter p (take n (drop i us))) ≡ k
  left_in_block = kept_many k after (filter p (take n (drop i us))) (kept ∙ ap (filter p) block) few

  pub any_in_block : 0 < k → list_any p (drop i us) ≡ true
  any_in_block some =
      let here = some_left p (take n (drop i us)) (omega (arith, left_in_block, some)) in
      ap (list_any p) (drop_block i n us) ∙ list_any-append p (take n (drop i us)) (drop (i + n) us) ∙ ap (λ b. b || list_any p (drop (i + n) us)) here

  pub none_in_block : k ≤ 0 → list_any p (drop i us) ≡ list_any p (drop (i + n) us)
  none_in_block none =
      any_further p (drop i us) (take n (drop i us)) (drop (i + n) us) (drop_block i n us) (none_left p (take n (drop i us)) (omega (arith, left_in_block, none)))

  module _ (within : i + n ≤ length us) where
    pub some_fails_in_block : k < n → list_all p (drop i us) ≡ false
    some_fails_in_block fewer =
        let here = not_all_left p (take n (drop i us)) (omega (arith, left_in_block, length_block i n us within, fewer)) in
        ap (list_all p) (drop_block i n us) ∙ list_all-append p (take n (drop i us)) (drop (i + n) us) ∙ ap (λ b. b && list_all p (drop (i + n) us)) here

    pub all_in_block : n ≤ k → list_all p (drop i us) ≡ list_all p (drop (i + n) us)
    all_in_block full =
        all_further p (drop i us) (take n (drop i us)) (drop (i + n) us) (drop_block i n us)
        (all_left p (take n (drop i us)) (omega (arith, left_in_block, length_block i n us within, full)))

pub and_nothing : (b : Bool) → b ≡ (b && true)
and_nothing true = refl
and_nothing false = refl

and_three : (a b c : Bool) → ((a && b) && c) ≡ (a && (b && c))
and_three true b c = refl
and_three false b c = refl

-- what passes one test more of a list of tests
pub one_test_more : {X L : Type 0} (h : L → X → Bool) (p : X → Bool) (links : List L) (i : ℕ) (l : L) (xs : List X) → i < length links → l ≡ slice_index_or links i l
    → filter (h l) (filter (λ x. p x && list_all (λ k. h k x) (take i links)) xs) ≡ filter (λ x. p x && list_all (λ k. h k x) (take (i + 1) links)) xs
one_test_more h p links i l xs low is =
    filter_twice (λ x. p x && list_all (λ k. h k x) (take i links)) (h l) xs
    ∙ filter_agree _ _ (λ x.
    and_three (p x) (list_all (λ k. h k x) (take i links)) (h l x)
    ∙ ap (λ b. p x && b) (ap (λ k. list_all (λ k. h k x) (take i links) && h k x) is ∙ sym (list_all_more (λ k. h k x) links i l low))) xs
