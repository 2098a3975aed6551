-- Free. The elements of an interval of a universe for which a condition holds, if they are gone
-- through in order.
--     AreFrom          the values have the codes from one on, in turn
--     NextElement      the first one that is left: its number, and what comes after it
--     IsLeft           those that are left, and whatever follows what they yield follows the whole
--     left_begins      at the beginning
--     left_same        if the same are left
--     left_next        after the next one
--     left_stops       if the next one is exhausted
--     left_ends        if none is left
use Rattle.std.proofs.Common.{◌≡◌, ℕ, zero, suc, ◌+◌, ◌-◌, ◌<◌, ◌≤◌, Bool, true, false, cond, List, [], ◌∷◌, ◌++◌, length, take, drop, filter, None, refl, sym, ap, ◌∙◌, arith}
use Rattle.std.specs.Prelude.{Result as Returned, slice_index_or}
use Rattle.std.proofs.lemmas.List.Elements.{filter-append}
use Rattle.std.proofs.lemmas.List.{drop-drop, drop_all, drop_more, length-drop, length-take, length-take-le, get_or-take, get_or-drop}
use Rattle.asm_state.specs.Location.{State}
use Rattle.asm_state.specs.Signature.{Shape}
use Rattle.asm_state.specs.declared.value.Value.{Value}
use Rattle.asm_state.specs.code.Codes as values
use Rattle.asm_state.specs.code.ConsecutiveCodes.{AreConsecutive}
use Rattle.asm_meaning.specs.code.Intervals.{between}
use Rattle.asm_meaning.specs.Does.{Outcome, nothing, both, counted, each}
use Rattle.asm_meaning.specs.Value.{Reading}
use Rattle.asm_meaning.specs.Yields.{Path, at, Exhausted}
use Rattle.asm_eval.specs.code.FormedOutcomes.{Follows}
use Rattle.asm_eval.specs.declared.outcome.Forming.{Forming}
use Rattle.asm_eval.specs.declared.stopped.Stopped.{Stopped}
use Rattle.asm_code.specs.code.Readings.{always}
use Rattle.asm_code.specs.code.RuleMeaning.{Locations, meaning}
use Rattle.asm_code.specs.code.RuleTree.{RuleCode}
use Rattle.asm_eval.proofs.CodePaths.{first_element}

-- ---- lists

nothing_taken : {X : Type 0} (xs : List X) → take 0 xs ≡ []
nothing_taken [] = refl
nothing_taken (x ∷ xs) = refl

taken_of_none : {X : Type 0} (m : ℕ) (xs : List X) → length xs ≡ 0 → [] ≡ take m xs
taken_of_none zero [] none = refl
taken_of_none (suc m) [] none = refl
taken_of_none m (x ∷ xs) none = absurd (omega (arith, none))

pub take_and_more : {X : Type 0} (n m : ℕ) (xs : List X) → take (n + m) xs ≡ take n xs ++ take m (drop n xs)
take_and_more zero m xs = let same : 0 + m ≡ m = omega arith in ap (λ k. take k xs) same ∙ sym (ap (λ ys. ys ++ take m xs) (nothing_taken xs))
take_and_more (suc n) m [] = let same : suc n + m ≡ suc (n + m) = omega arith in ap (λ k. take k []) same ∙ taken_of_none m [] refl
take_and_more (suc n) m (x ∷ xs) = let same : suc n + m ≡ suc (n + m) = omega arith in ap (λ k. take k (x ∷ xs)) same ∙ ap (λ ys. x ∷ ys) (take_and_more n m xs)

pub between_block : (p : Value → Bool) (i n to : ℕ) (us block kept : List Value) → n ≤ to - i → block ≡ take n (drop i us) → kept ≡ filter p block
    → kept ++ filter p (between (i + n) to us) ≡ filter p (between i to us)
between_block p i n to us block kept within is are =
    let sum : to - i ≡ n + (to - (i + n)) = omega (arith, within) in
    ap (λ ks. ks ++ filter p (between (i + n) to us)) (are ∙ ap (filter p) is)
    ∙ sym (filter-append p (take n (drop i us)) (between (i + n) to us))
    ∙ ap (filter p) (sym (
    ap (λ m. take m (drop i us)) sum
    ∙ take_and_more n (to - (i + n)) (drop i us)
    ∙ ap (λ ws. take n (drop i us) ++ take (to - (i + n)) ws) (drop-drop n i us)))

pub none_between : (p : Value → Bool) (i to : ℕ) (us : List Value) → to ≤ i → [] ≡ filter p (between i to us)
none_between p i to us past =
    let zero_left : to - i ≡ 0 = omega (arith, past) in
    sym (ap (λ n. filter p (take n (drop i us))) zero_left ∙ ap (filter p) (nothing_taken (drop i us)))

-- the elements of a block that are left, and one of them less
pub none_more : (k n : ℕ) (es others : List Value) → n ≤ k → others ≡ drop k (take n es) ++ others
none_more k n es others past =
    let many = length-take n es in
    ap (λ ws. ws ++ others) (sym (drop_all k (take n es) (omega (arith, many, past))))

pub one_more : (k n : ℕ) (es others : List Value) (v d : Value) → k < n → n ≤ length es → v ≡ slice_index_or es k d
    → v ∷ (drop (k + 1) (take n es) ++ others) ≡ drop k (take n es) ++ others
one_more k n es others v d low few is =
    let many = length-take-le n es few in
    ap (λ ws. ws ++ others) (ap (λ w. w ∷ drop (k + 1) (take n es)) (is ∙ sym (get_or-take n es k d low)) ∙ sym (drop_more (take n es) k d (omega (arith, many, low))))

pub codes_between : (low : ℕ) (vs us : List Value) → AreConsecutive low vs → us ≡ vs → (from to j : ℕ) (d : Value) → j < length (between from to us)
    → values.code_of (slice_index_or (between from to us) j d) ≡ low + (from + j)
codes_between low vs us codes same from to j d within =
    let many = length-take (to - from) (drop from us) in
    let left = length-drop from us in
    let there = ap length same in
    ap values.code_of (get_or-take (to - from) (drop from us) j d (omega (arith, within, many)) ∙ get_or-drop from us j d ∙ ap (λ ws. slice_index_or ws (from + j) d) same)
    ∙ codes.code_at (from + j) d (omega (arith, within, many, left, there))

-- ---- elements

module _ (shape : Shape) (turns : ℕ) (chosen : Path → ℕ) (rs : List Reading) (ls : Locations) (A : State) (p : Path) (test : Value → Bool) (P : RuleCode) (low : ℕ) where
  abbrev run : Value → ℕ → Outcome
  run v n = meaning shape turns chosen P (always v ∷ rs) (None ∷ ls) A (at p n)

  abbrev all_from : ℕ → List Value → Outcome
  all_from n vs = each run test n vs

  abbrev pub AreFrom : ℕ → List Value → Type 0
  AreFrom n vs = (j : ℕ) (d : Value) → j < length vs → values.code_of (slice_index_or vs j d) ≡ low + (n + j)

  pub record NextElement (n : ℕ) (vs : List Value) (v : Value) (others : List Value) : Type 0 where
    pub place : ℕ
    pub rest : List Value
    pub code : values.code_of v ≡ low + place
    pub left : others ≡ filter test rest
    pub codes : AreFrom (suc place) rest
    pub yields : all_from n vs ≡ counted (both (run v place) (all_from (suc place) rest))
    pub stops : (q : Path) → (run v place).result ≡ Exhausted q → (all_from n vs).result ≡ Exhausted q

  one_further : (n : ℕ) (w : Value) (ws : List Value) → AreFrom n (w ∷ ws) → AreFrom (suc n) ws
  one_further n w ws codes j d within =
      let there = codes (suc j) d (omega (arith, within)) in
      let same : low + (n + suc j) ≡ low + (suc n + j) = omega arith in
      there ∙ same

  next_element : (n : ℕ) (vs : List Value) (v : Value) (others : List Value) → AreFrom n vs → v ∷ others ≡ filter test vs → NextElement n vs v others
  next_element n [] v others codes is = absurd cc
  next_element n (w ∷ ws) v others codes is = by_test (test w) refl is (next_element (suc n) ws v others (one_further n w ws codes))
    where
      by_test : (b : Bool) → test w ≡ b → v ∷ others ≡ cond b (w ∷ filter test ws) (filter test ws) → (v ∷ others ≡ filter test ws → NextElement (suc n) ws v others) → NextElement n (w ∷ ws) v others
      by_test true so is more =
          let head : v ≡ w = cc in
          let tail : others ≡ filter test ws = cc in
          let here : low + (n + 0) ≡ low + n = omega arith in
          let yields = ap (λ b. cond b (counted (both (run w n) (all_from (suc n) ws))) (all_from (suc n) ws)) so ∙ ap (λ x. counted (both (run x n) (all_from (suc n) ws))) (sym head) in
          record {
            place = n;
            rest = ws;
            code = ap values.code_of head ∙ codes 0 w (omega arith) ∙ here;
            left = tail;
            codes = one_further n w ws codes;
            yields = yields;
            stops = λ q ends. ap (λ (o : Outcome). o.result) yields ∙ first_element shape turns chosen rs ls A p q n test v ws P ends;
          }
      by_test false so is more =
          let next = more is in
          let passed = ap (λ b. cond b (counted (both (run w n) (all_from (suc n) ws))) (all_from (suc n) ws)) so in
          record {
            place = next.place;
            rest = next.rest;
            code = next.code;
            left = next.left;
            codes = next.codes;
            yields = passed ∙ next.yields;
            stops = λ q ends. ap (λ (o : Outcome). o.result) passed ∙ next.stops q ends;
          }

  no_element : (n : ℕ) (vs : List Value) → [] ≡ filter test vs → all_from n vs ≡ nothing
  no_element n [] is = refl
  no_element n (w ∷ ws) is = by_test (test w) is (no_element (suc n) ws)
    where
      by_test : (b : Bool) → [] ≡ cond b (w ∷ filter test ws) (filter test ws) → ([] ≡ filter test ws → all_from (suc n) ws ≡ nothing)
          → cond b (counted (both (run w n) (all_from (suc n) ws))) (all_from (suc n) ws) ≡ nothing
      by_test true is more = absurd cc
      by_test false is more = more is

  pub record IsLeft (total : Outcome) (remaining : List Value) (old now : Forming) : Type 0 where
    pub place : ℕ
    pub rest : List Value
    pub left : remaining ≡ filter test rest
    pub codes : AreFrom place rest
    pub follows : (new : Forming) (r : Returned (Unit {0}) Stopped) → Follows shape (all_from place rest) now new r → Follows shape total old new r

  pub left_begins : (n : ℕ) (vs : List Value) (old : Forming) → AreFrom n vs → IsLeft (all_from n vs) (filter test vs) old old
  left_begins n vs old codes = record { place = n; rest = vs; left = refl; codes = codes; follows = λ new r so. so }

  module _ (total : Outcome) (old now : Forming) where
    pub left_same : (vs ws : List Value) → ws ≡ vs → IsLeft total vs old now → IsLeft total ws old now
    left_same vs ws same so = record { place = so.place; rest = so.rest; left = same ∙ so.left; codes = so.codes; follows = so.follows }

    pub left_ends : (so : IsLeft total [] old now) → all_from so.place so.rest ≡ nothing
    left_ends so = no_element so.place so.rest so.left

    pub next_of : (v : Value) (vs : List Value) (so : IsLeft total (v ∷ vs) old now) → NextElement so.place so.rest v vs
    next_of v vs so = next_element so.place so.rest v vs so.codes so.left
