-- Free. Where a name is found: in a scope, and among parameters by an ordered map of their first
-- positions.
use Rattle.std.proofs.Common.{◌≡◌, ℕ, suc, ◌+◌, ◌-◌, ◌<◌, Bool, true, false, not, cond, ltb, List, [], ◌∷◌, ◌++◌, map, take, length, get_or, Vec, Global, Option, Some, None, refl, sym, ap, ◌∙◌, arith}
use Rattle.std.specs.Prelude.{option_map}
use Rattle.std.specs.List.{position, position_or_len}
use Rattle.std.specs.Map.{lookup}
use Rattle.std.proofs.lemmas.List.{length-map, length-take-le, map-append, take_all, take_more}
use Rattle.asm_syntax.specs.Tree.{Name, result}
use Rattle.asm_syntax.specs.declared.name.Name as syntax
use Rattle.asm_resolve.proofs.SpelledTexts.{spelled_same}
use Rattle.asm_meaning.specs.code.MeantTrees.{text_of}
use Rattle.asm_meaning.specs.Program.{is_name}
use Rattle.asm_resolve.specs.code.Slots.{Slot, value_slot, names_in, position_of, is_located, is_spelled, located_position, result_position, called_slots, found_from}

-- ---- positions, by what is found

abbrev here : ℕ → List Slot → ℕ → ℕ × Bool
here n slots i = (n + i, is_located slots i)

found_is : (n : ℕ) (slots : List Slot) (x : Name) → found_from n slots x ≡ option_map (here n slots) (position_of (names_in slots) x)
found_is n [] x = refl
found_is n (s ∷ slots) x = by (is_name s.name x) (position_of (names_in slots) x) (found_is (suc n) slots x)
  where
    by : (b : Bool) (o : Option ℕ) → found_from (suc n) slots x ≡ option_map (here (suc n) slots) o
        → cond b (Some (n, s.located)) (found_from (suc n) slots x) ≡ option_map (here n (s ∷ slots)) (cond b (Some 0) (option_map suc o))
    by true o later = let same : n ≡ n + 0 = omega arith in ap (λ k. Some (k, s.located)) same
    by false None later = later
    by false (Some i) later = let same : suc n + i ≡ n + suc i = omega arith in later ∙ ap (λ k. Some (k, is_located slots i)) same

abbrev pub position_found : Option (ℕ × Bool) → Option ℕ
position_found None = None
position_found (Some p) = Some p.0

abbrev pub answer_found : Option (ℕ × Bool) → Option ℕ
answer_found None = None
answer_found (Some p) = cond p.1 (Some p.0) None

pub positions_found : (slots : List Slot) (x : Name) → position_found (found_from 0 slots x) ≡ position_of (names_in slots) x
positions_found slots x = ap position_found (found_is 0 slots x) ∙ by (position_of (names_in slots) x)
  where
    by : (o : Option ℕ) → position_found (option_map (here 0 slots) o) ≡ o
    by None = refl
    by (Some i) = let same : 0 + i ≡ i = omega arith in ap Some same

pub answers_found : (slots : List Slot) (x : Name) → answer_found (found_from 0 slots x) ≡ result_position slots x
answers_found slots x = ap answer_found (found_is 0 slots x) ∙ by (position_of (names_in slots) x)
  where
    by : (o : Option ℕ) → answer_found (option_map (here 0 slots) o) ≡ located_position slots o
    by None = refl
    by (Some i) = let same : 0 + i ≡ i = omega arith in ap (λ k. cond (is_located slots i) (Some k) None) same

-- ---- among parameters

abbrev pub value_at : ℕ → ℕ → ℕ × Bool
value_at n i = (n + i, false)

pub values_found : (n : ℕ) (xs : List Name) (x : Name) → found_from n (map value_slot xs) x ≡ option_map (value_at n) (position_of xs x)
values_found n [] x = refl
values_found n (y ∷ xs) x = by (is_name y x) (position_of xs x) (values_found (suc n) xs x)
  where
    by : (b : Bool) (o : Option ℕ) → found_from (suc n) (map value_slot xs) x ≡ option_map (value_at (suc n)) o
        → cond b (Some (n, false)) (found_from (suc n) (map value_slot xs) x) ≡ option_map (value_at n) (cond b (Some 0) (option_map suc o))
    by true o later = let same : n ≡ n + 0 = omega arith in ap (λ k. Some (k, false)) same
    by false None later = later
    by false (Some i) later = let same : suc n + i ≡ n + suc i = omega arith in later ∙ ap (λ k. Some (k, false)) same

-- in the body of a call without a target
pub without_answer : (n : ℕ) (answers : Bool) (xs : List Name) (x : Name) → answers ≡ false → found_from n (called_slots answers xs) x ≡ found_from n (map value_slot xs) x
without_answer n false xs x none = refl
without_answer n true xs x none = cc

-- with a target: the word `result`, and another name
pub answer_is_found : (n : ℕ) (answers : Bool) (xs : List Name) (x : Name) → answers ≡ true → is_name result x ≡ true → found_from n (called_slots answers xs) x ≡ Some (n, true)
answer_is_found n false xs x has is = cc
answer_is_found n true xs x has is = ap (λ b. cond b (Some (n, true)) (found_from (suc n) (map value_slot xs) x)) is

pub behind_answer : (n m : ℕ) (answers : Bool) (xs : List Name) (x : Name) → m ≡ n + 1 → answers ≡ true → is_name result x ≡ false
    → found_from n (called_slots answers xs) x ≡ found_from m (map value_slot xs) x
behind_answer n m false xs x next has other = cc
behind_answer n m true xs x next has other =
    let same : suc n ≡ m = omega (arith, next) in
    ap (λ b. cond b (Some (n, true)) (found_from (suc n) (map value_slot xs) x)) other ∙ ap (λ k. found_from k (map value_slot xs) x) same

-- ---- one by one

-- the index in a list that has one member more in front
position_cons : {X : Type 0} (test : X → Bool) (y : X) (ys : List X) → position test (y ∷ ys) ≡ cond (test y) (Some 0) (option_map suc (position test ys))
position_cons test y ys = by (test y)
  where
    by : (b : Bool) → cond (ltb (cond (not b) (1 + position_or_len test ys) 0) (suc (length ys))) (Some (cond (not b) (1 + position_or_len test ys) 0)) None
        ≡ cond b (Some 0) (option_map suc (cond (ltb (position_or_len test ys) (length ys)) (Some (position_or_len test ys)) None))
    by true = grind (arith)
    by false = grind (arith)

pub position_among : (names : List syntax.Name) (x : Name) → position (λ (y : syntax.Name). is_name y.text x) names ≡ position_of (map text_of names) x
position_among [] x = refl
position_among (y ∷ names) x = position_cons (λ (y : syntax.Name). is_name y.text x) y names ∙ ap (λ o. cond (is_name y.text x) (Some 0) (option_map suc o)) (position_among names x)

-- ---- by the map

-- the first position of a name, or else what is known of the names after it
abbrev pub first_or : ℕ → List Name → Option ℕ → Name → Option ℕ
first_or n [] o x = o
first_or n (y ∷ xs) o x = cond (is_name y x) (Some n) (first_or (suc n) xs o x)

pub first_or_none : (xs : List Name) (x : Name) → first_or 0 xs None x ≡ position_of xs x
first_or_none xs x = from 0 xs ∙ by (position_of xs x)
  where
    by : (o : Option ℕ) → option_map (λ i. 0 + i) o ≡ o
    by None = refl
    by (Some i) = let same : 0 + i ≡ i = omega arith in ap Some same

    from : (n : ℕ) (xs : List Name) → first_or n xs None x ≡ option_map (λ i. n + i) (position_of xs x)
    from n [] = refl
    from n (y ∷ xs) = step (is_name y x) (position_of xs x) (from (suc n) xs)
      where
        step : (b : Bool) (o : Option ℕ) → first_or (suc n) xs None x ≡ option_map (λ i. suc n + i) o
            → cond b (Some n) (first_or (suc n) xs None x) ≡ option_map (λ i. n + i) (cond b (Some 0) (option_map suc o))
        step true o later = let same : n ≡ n + 0 = omega arith in ap Some same
        step false None later = later
        step false (Some i) later = let same : suc n + i ≡ n + suc i = omega arith in later ∙ ap Some same

-- the last name is known, too
pub first_or_last : (n : ℕ) (xs : List Name) (y : Name) (o : Option ℕ) (x : Name)
    → first_or n (xs ++ y ∷ []) o x ≡ first_or n xs (cond (is_name y x) (Some (n + length xs)) o) x
first_or_last n [] y o x = let same : n ≡ n + 0 = omega arith in ap (λ k. cond (is_name y x) (Some k) o) same
first_or_last n (z ∷ xs) y o x =
    let same : suc n + length xs ≡ n + suc (length xs) = omega arith in
    ap (cond (is_name z x) (Some n)) (first_or_last (suc n) xs y o x ∙ ap (λ k. first_or (suc n) xs (cond (is_name y x) (Some k) o) x) same)

abbrev pub found_by : List (Vec ℕ Global × ℕ) → Name → Option ℕ
found_by positions x = lookup (λ (q : Vec ℕ Global). is_spelled x q.items) positions

last_of : (xs : List syntax.Name) (y : syntax.Name) → 0 < length xs → y ≡ get_or xs (length xs - 1) y → xs ≡ take (length xs - 1) xs ++ y ∷ []
last_of xs y some is =
    sym (take_all (length xs - 1 + 1) xs (omega (arith, some))) ∙ take_more xs (length xs - 1) y (omega (arith, some)) ∙ ap (λ z. take (length xs - 1) xs ++ z ∷ []) (sym is)

pub one_more_known : (rest names : List syntax.Name) (y : syntax.Name) (old new : List (Vec ℕ Global × ℕ)) (q : Vec ℕ Global) (n : ℕ) → 0 < length rest → y ≡ get_or rest (length rest - 1) y
    → q.items ≡ y.text → n ≡ length rest - 1 → ((x : Name) → found_by new x ≡ cond (is_spelled q.items x) (Some n) (found_by old x))
    → ((x : Name) → first_or 0 (map text_of rest) (found_by old x) x ≡ position_of (map text_of names) x)
    → (x : Name) → first_or 0 (map text_of (take (length rest - 1) rest)) (found_by new x) x ≡ position_of (map text_of names) x
one_more_known rest names y old new q n some last text at put so_far x =
    let front = map text_of (take (length rest - 1) rest) in
    let long : length front ≡ length rest - 1 = length-map (take (length rest - 1) rest) text_of ∙ length-take-le (length rest - 1) rest (omega (arith, some)) in
    let index : n ≡ 0 + length front = omega (arith, long, at) in
    let spelled : is_spelled q.items x ≡ is_name y.text x = spelled_same q.items x ∙ ap (λ z. is_name z x) text in
    ap (λ o. first_or 0 front o x) (put x ∙ ap (λ b. cond b (Some n) (found_by old x)) spelled ∙ ap (λ k. cond (is_name y.text x) (Some k) (found_by old x)) index)
    ∙ sym (first_or_last 0 front y.text (found_by old x) x)
    ∙ ap (λ xs. first_or 0 xs (found_by old x) x) (sym (ap (map text_of) (last_of rest y some last) ∙ map-append text_of (take (length rest - 1) rest) (y ∷ [])))
    ∙ so_far x
