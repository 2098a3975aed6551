-- Free. Which choices each kind of rule makes, by those that its parts make.
--     par_makes, seq_makes, iterate_makes, forall_makes     of the whole
--     if_yes, if_no, let_makes, choose_some, choose_none, call_makes
--                              of the part that is reached
--     parts_next, parts_end, elements_next, elements_end, order_next, order_end, turns_next, turns_end
--                              of the first, and of what is left
use Rattle.std.proofs.Common.{◌++◌, ◌≡◌, ◌∙◌, ℕ, suc, ◌+◌, ◌≤◌, ◌<◌, ◌%◌, Bool, true, false, cond, not, ◌||◌, List, [], ◌∷◌, length, get_or, map, drop, Option, Some, None, refl, ap, sym, arith, add-one, ◌-◌, take}
use Rattle.std.specs.Prelude.{option_map, slice_get, slice_index_or}
use Rattle.std.proofs.Math.Nat.{mod-eq_of_lt}
use Rattle.std.proofs.lemmas.List.{at_drop_more, drop_more, map-append}
use Rattle.std.proofs.lemmas.Option.{slice_get_within, get_or_from_slice_get}
use Rattle.std.proofs.Math.ListN.{drop_of_length-le}
use Rattle.asm_state.specs.declared.value.Value.{Value}
use Rattle.asm_state.specs.Location.{State}
use Rattle.asm_state.specs.Signature.{Shape}
use Rattle.asm_state.specs.Updates.{UpdateSet, is_consistent, is_none, fire}
use Rattle.asm_meaning.specs.code.Intervals.{between}
use Rattle.asm_meaning.specs.Program.{nothing_bound}
use Rattle.asm_meaning.specs.Story.{Story, Beside, Instance, parts_tell, each_tells, one_tells}
use Rattle.asm_meaning.specs.Value.{Reading, is_true}
use Rattle.asm_meaning.specs.Yields.{Path, Result, Gives, Exhausted, at}
use Rattle.asm_meaning.proofs.Intervals.{interval_laws-all as between_all}
use Rattle.asm_code.specs.code.BoundValues.{optional_arguments}
use Rattle.asm_code.specs.code.CodeViews.{code_of, codes_of}
use Rattle.asm_code.specs.code.CodeTree as codes
use Rattle.asm_code.specs.code.Readings.{always, reading, universe_at}
use Rattle.asm_code.specs.code.RuleMeaning.{Locations, meaning, named_readings, passes, passing, optional_target_location, result_readings, result_locations}
use Rattle.asm_code.specs.code.RuleStories.{telling, tellings}
use Rattle.asm_code.specs.code.RuleTree as tree
use Rattle.asm_code.specs.code.RuleViews.{target_code_of, rule_of, rules_of}
use Rattle.asm_code.specs.declared.code.Code.{Code}
use Rattle.asm_code.specs.declared.rule_code.TargetCode.{TargetCode}
use Rattle.asm_code.specs.declared.rule_code.RuleCode.{RuleCode}
use Rattle.asm_eval.specs.code.Frames.{result_contents, by_name}
use Rattle.asm_eval.specs.code.Evaluation.{location_numbered}
use Rattle.asm_explore.specs.declared.outcomes.listed_outcome.Choice.{Choice}
use Rattle.asm_explore.specs.ChoicePoints.{Asking, after_set, asked, choices_of}
use Rattle.asm_explore.specs.code.AskedRules.{after_turn_set, asks, order_asks, turns_ask}
use Rattle.asm_explore.specs.code.ChoicesMade.{made, parts_made, order_made, turns_made}
use Rattle.asm_explore.specs.code.ChoicesMadeSoFar.{made_after}
use Rattle.asm_explore.proofs.ChoiceLemmas.AskedGiven.{asked_given}
use Rattle.asm_explore.proofs.ChoiceLemmas.AskedParts.{order_first, turns_first}
use Rattle.asm_explore.proofs.CodeRules.{contents_are, named_are}

-- the first of the positions between two, and those after it; and none
between_more : (from to : ℕ) (vs : List Value) (v : Value) → from < to → slice_get vs from ≡ Some v → between from to vs ≡ v ∷ between (from + 1) to vs
between_more from to vs v low there =
    let less : to - from ≡ suc (to - (from + 1)) = omega (arith, low) in
    ap (λ n. take n (drop from vs)) less
    ∙ ap (take (suc (to - (from + 1)))) (at_drop_more (λ (xs : List Value). xs) vs from v (slice_get_within vs from v there))
    ∙ ap (λ w. w ∷ between (from + 1) to vs) (get_or_from_slice_get vs from v v there)

between_none : (from to : ℕ) (vs : List Value) → to ≤ from → between from to vs ≡ []
between_none from to vs past =
    let none_left : to - from ≡ 0 = omega (arith, past) in
    ap (λ n. take n (drop from vs)) none_left ∙ take_none (drop from vs)
  where
    take_none : (xs : List Value) → take 0 xs ≡ []
    take_none [] = refl
    take_none (x ∷ xs) = refl

-- ---- the choices of a story

abbrev chosen_in : Story → List Choice
chosen_in s = choices_of (asked s)

pub both_chosen : (xs ys : List Asking) → choices_of (xs ++ ys) ≡ choices_of xs ++ choices_of ys
both_chosen = map-append (λ (a : Asking). a.choice)

-- ---- elements and candidates

one_element : (b : Bool) (s t : Story) → cond b (chosen_in s ++ chosen_in t) (chosen_in t) ≡ chosen_in (cond b (Beside (Instance s) t) t)
one_element true s t = sym (both_chosen (asked s) (asked t))
one_element false s t = refl

each_next : (m : Value → ℕ → Story) (test : Value → Bool) (from to : ℕ) (vs : List Value) (v : Value) (b : Bool) → from < to → slice_get vs from ≡ Some v → b ≡ test v
    → cond b (chosen_in (m v from) ++ chosen_in (each_tells m test (from + 1) (between (from + 1) to vs))) (chosen_in (each_tells m test (from + 1) (between (from + 1) to vs)))
    ≡ chosen_in (each_tells m test from (between from to vs))
each_next m test from to vs v b low there is =
    let rest : ℕ → List Choice = λ k. chosen_in (each_tells m test k (between (from + 1) to vs)) in
    ap (λ so. cond so (chosen_in (m v from) ++ rest (from + 1)) (rest (from + 1))) is
    ∙ ap (λ k. cond (test v) (chosen_in (m v from) ++ rest k) (rest k)) (add-one from)
    ∙ one_element (test v) (m v from) (each_tells m test (suc from) (between (from + 1) to vs))
    ∙ sym (ap (λ ws. chosen_in (each_tells m test from ws)) (between_more from to vs v low there))

-- a number that is below that of the candidates
one_numbered : (p : Path) (n k : ℕ) (vs : List Value) (v : Value) (m : Value → Story) (other : Story) → n ≡ k → slice_get vs k ≡ Some v
    → record { path = p; number = k } ∷ chosen_in (m v) ≡ chosen_in (one_tells p n vs m other)
one_numbered p n k [] v m other same there = absurd (omega (arith, slice_get_within [] k v there))
one_numbered p n k (u ∷ us) v m other same there =
    let small : n % length (u ∷ us) ≡ k = ap (λ j. j % length (u ∷ us)) same ∙ mod-eq_of_lt (slice_get_within (u ∷ us) k v there) in
    sym (ap (λ (j : ℕ). record { path = p; number = j } ∷ chosen_in (m (slice_index_or (u ∷ us) j u))) small
    ∙ ap (λ (w : Value). record { path = p; number = k } ∷ chosen_in (m w)) (get_or_from_slice_get (u ∷ us) k v u there))

-- ---- one after the other

swapped : {X : Type 0} (c : Bool) (x y : X) → cond c x y ≡ cond (not c) y x
swapped true x y = refl
swapped false x y = refl

pub part_after : (r : Result) (rest : UpdateSet → List Choice) → after_set r rest ≡ made_after false r rest
part_after (Exhausted q) rest = refl
part_after (Gives U) rest = swapped (is_consistent U) (rest U) []

pub turn_after : (r : Result) (rest : UpdateSet → List Choice) → after_turn_set r rest ≡ made_after true r rest
turn_after (Exhausted q) rest = refl
turn_after (Gives U) rest = refl

if_chosen : (c : Bool) (xs ys : List Asking) → choices_of (cond c xs ys) ≡ cond c (choices_of xs) (choices_of ys)
if_chosen true xs ys = refl
if_chosen false xs ys = refl

part_chosen : (r : Result) (rest : UpdateSet → List Asking) → choices_of (after_set r rest) ≡ after_set r (λ U. choices_of (rest U))
part_chosen (Exhausted q) rest = refl
part_chosen (Gives U) rest = if_chosen (is_consistent U) (rest U) []

turn_chosen : (r : Result) (rest : UpdateSet → List Asking) → choices_of (after_turn_set r rest) ≡ after_turn_set r (λ U. choices_of (rest U))
turn_chosen (Exhausted q) rest = refl
turn_chosen (Gives U) rest = if_chosen (is_none U || not (is_consistent U)) [] (rest U)

module _ (shape : Shape) (turns : ℕ) (chosen : Path → ℕ) (rs : List Reading) (ls : Locations) (A : State) (p : Path) where
  abbrev makes : tree.RuleCode → List Choice
  makes P = made shape turns chosen P rs ls A p

  abbrev tells_at : ℕ → RuleCode → Story
  tells_at k P = telling shape turns chosen (rule_of P) rs ls [] A (at p k)

  abbrev makes_at : ℕ → RuleCode → List Choice
  makes_at k P = made shape turns chosen (rule_of P) rs ls A (at p k)

  abbrev tells_with : Value → ℕ → tree.RuleCode → Story
  tells_with v k R = telling shape turns chosen R (always v ∷ rs) (None ∷ ls) [] A (at p k)

  abbrev tree_with : Value → ℕ → tree.RuleCode → List Choice
  tree_with v k R = made shape turns chosen R (always v ∷ rs) (None ∷ ls) A (at p k)

  abbrev makes_with : Value → ℕ → RuleCode → List Choice
  makes_with v k P = tree_with v k (rule_of P)

  -- ---- of the part that is reached

  pub if_yes : (c : Code) (S N : RuleCode) → is_true (reading shape (code_of c) rs A) ≡ true → makes_at 0 S ≡ makes (tree.If (code_of c) (rule_of S) (rule_of N))
  unfolding telling
  if_yes c S N holds = ap (λ b. chosen_in (cond b (tells_at 0 S) (tells_at 1 N))) (sym holds)

  pub if_no : (c : Code) (S N : RuleCode) → is_true (reading shape (code_of c) rs A) ≡ false → makes_at 1 N ≡ makes (tree.If (code_of c) (rule_of S) (rule_of N))
  unfolding telling
  if_no c S N fails = ap (λ b. chosen_in (cond b (tells_at 0 S) (tells_at 1 N))) (sym fails)

  pub let_makes : (t : Code) (S : RuleCode) (v : Value) → v ≡ reading shape (code_of t) rs A → makes_with v 0 S ≡ makes (tree.Let (code_of t) (rule_of S))
  unfolding telling
  let_makes t S v valued = ap (λ w. makes_with w 0 S) valued

  pub choose_some : (u : ℕ) (c : Option Code) (S N : RuleCode) (k : ℕ) (v : Value) → chosen p ≡ k → slice_get (passing shape u (option_map code_of c) rs A) k ≡ Some v
      → record { path = p; number = k } ∷ makes_with v 0 S ≡ makes (tree.Choose u (option_map code_of c) (rule_of S) (rule_of N))
  unfolding telling
  choose_some u c S N k v taken there = one_numbered p (chosen p) k (passing shape u (option_map code_of c) rs A) v (λ w. tells_with w 0 (rule_of S)) (tells_at 1 N) taken there

  pub choose_none : (u : ℕ) (c : Option Code) (S N : RuleCode) → [] ≡ passing shape u (option_map code_of c) rs A
      → makes_at 1 N ≡ makes (tree.Choose u (option_map code_of c) (rule_of S) (rule_of N))
  unfolding telling
  choose_none u c S N empty = ap (λ vs. chosen_in (one_tells p (chosen p) vs (λ w. tells_with w 0 (rule_of S)) (tells_at 1 N))) empty

  pub call_makes : (S : RuleCode) (to : Option TargetCode) (us : List Code) (n : Option ℕ) → location_numbered shape n ≡ optional_target_location shape (option_map target_code_of to) rs ls A
      → made shape turns chosen (rule_of S) (result_contents shape n ++ by_name shape rs us) (result_locations (location_numbered shape n)) A (at p 0) ≡ makes (tree.Call (rule_of S) (option_map target_code_of to) (codes_of (map code_of us)))
  unfolding telling
  call_makes S to us n there =
      let target = optional_target_location shape (option_map target_code_of to) rs ls A in
      (λ i. made shape turns chosen (rule_of S) (contents_are shape n i ++ by_name shape rs us) (result_locations (location_numbered shape n)) A (at p 0))
      ∙ (λ i. made shape turns chosen (rule_of S) (result_readings (there i) ++ sym (named_are shape rs us) i) (result_locations (there i)) A (at p 0))
      ∙ ap choices_of (asked_given shape turns chosen (rule_of S) (result_readings target ++ named_readings shape (codes_of (map code_of us)) rs) (result_locations target) []
      (optional_arguments shape (option_map target_code_of to) rs [] A) A (at p 0))

  -- ---- parts beside each other

  abbrev pub parts_from : ℕ → List RuleCode → List Choice
  parts_from k Ps = parts_made shape turns chosen (rules_of (map rule_of Ps)) rs ls k A p

  pub par_makes : (Ps : List RuleCode) → parts_from 0 Ps ≡ makes (tree.Par (rules_of (map rule_of Ps)))
  unfolding telling
  par_makes Ps = refl

  parts_first : (P : RuleCode) (Ps : List RuleCode) (k : ℕ) → makes_at k P ++ parts_from (suc k) Ps ≡ parts_from k (P ∷ Ps)
  unfolding telling tellings
  parts_first P Ps k = sym (both_chosen (asked (tells_at k P)) (asked (parts_tell (tellings shape turns chosen (rules_of (map rule_of Ps)) rs ls []) (suc k) A nothing_bound p)))

  pub parts_next : (Ps : List RuleCode) (i : ℕ) (P : RuleCode) → i < length Ps → P ≡ get_or Ps i P
      → makes_at i P ++ parts_from (i + 1) (drop (i + 1) Ps) ≡ parts_from i (drop i Ps)
  parts_next Ps i P below is =
      ap (λ k. makes_at i P ++ parts_from k (drop (i + 1) Ps)) (add-one i)
      ∙ parts_first P (drop (i + 1) Ps) i
      ∙ ap (parts_from i) (sym (drop_more Ps i P below ∙ ap (λ k. k ∷ drop (i + 1) Ps) (sym is)))

  pub parts_end : (Ps : List RuleCode) (i : ℕ) → length Ps ≤ i → parts_from i (drop i Ps) ≡ []
  unfolding telling tellings
  parts_end Ps i past = ap (parts_from i) (drop_of_length-le Ps past)

  -- ---- values of a universe

  module _ (u : ℕ) (c : Option codes.Code) (P : tree.RuleCode) where
    abbrev makes_each : ℕ → List Value → List Choice
    makes_each k vs = chosen_in (each_tells (λ v n. tells_with v n P) (λ v. passes shape c (always v ∷ rs) A) k vs)

    abbrev pub span_makes : (to : ℕ) → List Value → (i : ℕ) → List Choice
    span_makes to vs i = makes_each i (between i to vs)

    pub elements_next : (to : ℕ) (vs : List Value) (i : ℕ) (v : Value) (so : Bool) → i < to → slice_get vs i ≡ Some v → so ≡ passes shape c (always v ∷ rs) A
        → cond so (tree_with v i P ++ span_makes to vs (i + 1)) (span_makes to vs (i + 1)) ≡ span_makes to vs i
    elements_next to vs i v so low there test = each_next (λ w n. tells_with w n P) (λ w. passes shape c (always w ∷ rs) A) i to vs v so low there test

    pub elements_end : (to : ℕ) (vs : List Value) (i : ℕ) → to ≤ i → span_makes to vs i ≡ []
    elements_end to vs i past = ap (makes_each i) (between_none i to vs past)

  pub forall_makes : (u : ℕ) (c : Option Code) (S : RuleCode) (to : ℕ) → to ≡ length (universe_at shape u)
      → span_makes u (option_map code_of c) (rule_of S) to (universe_at shape u) 0 ≡ makes (tree.Forall u (option_map code_of c) (rule_of S))
  unfolding telling
  forall_makes u c S to all =
      ap (λ n. span_makes u (option_map code_of c) (rule_of S) n (universe_at shape u) 0) all
      ∙ ap (makes_each u (option_map code_of c) (rule_of S) 0) (between_all (universe_at shape u))

  -- ---- parts in order

  abbrev pub order_from : ℕ → List RuleCode → State → List Choice
  order_from i Ps B = order_made shape turns chosen (rules_of (map rule_of Ps)) rs ls i B p

  pub seq_makes : (Ps : List RuleCode) → order_from 0 Ps A ≡ makes (tree.Seq (rules_of (map rule_of Ps)))
  unfolding telling
  seq_makes Ps = refl

  abbrev numbered : ℕ → tree.RuleCode → State → Result
  numbered k R B = (meaning shape turns chosen R rs ls B (at p k)).result

  abbrev numbered_makes : ℕ → tree.RuleCode → State → List Choice
  numbered_makes k R B = made shape turns chosen R rs ls B (at p k)

  order_chosen : (R : tree.RuleCode) (Rs : tree.RuleCodes) (k : ℕ) (B : State) → order_made shape turns chosen (tree.rule_then R Rs) rs ls k B p
      ≡ numbered_makes k R B ++ after_set (numbered k R B) (λ U. order_made shape turns chosen Rs rs ls (suc k) (fire B U) p)
  order_chosen R Rs k B =
      let own = asks shape turns chosen R rs ls B (at p k) in
      let rest = λ (U : UpdateSet). order_asks shape turns chosen Rs rs ls (suc k) (fire B U) p in
      ap choices_of (order_first shape turns chosen R rs ls [] Rs k B p) ∙ both_chosen own (after_set (numbered k R B) rest)
      ∙ ap (λ cs. numbered_makes k R B ++ cs) (part_chosen (numbered k R B) rest)

  pub order_next : (Ps : List RuleCode) (i : ℕ) (P : RuleCode) (B : State) → i < length Ps → P ≡ get_or Ps i P
      → order_from i (drop i Ps) B ≡ numbered_makes i (rule_of P) B ++ after_set (numbered i (rule_of P) B) (λ U. order_from (i + 1) (drop (i + 1) Ps) (fire B U))
  order_next Ps i P B low is =
      at_drop_more (λ (some : List RuleCode). order_from i some B) Ps i P low
      ∙ order_chosen (rule_of (get_or Ps i P)) (rules_of (map rule_of (drop (i + 1) Ps))) i B
      ∙ ap (λ k. numbered_makes i (rule_of (get_or Ps i P)) B ++ after_set (numbered i (rule_of (get_or Ps i P)) B) (λ U. order_from k (drop (i + 1) Ps) (fire B U))) (sym (add-one i))
      ∙ ap (λ (x : RuleCode). numbered_makes i (rule_of x) B ++ after_set (numbered i (rule_of x) B) (λ U. order_from (i + 1) (drop (i + 1) Ps) (fire B U))) (sym is)

  -- ---- turns

  abbrev pub turns_from : tree.RuleCode → (left t : ℕ) → State → List Choice
  turns_from R left t B = turns_made shape turns chosen R rs ls left t B p

  pub iterate_makes : (R : tree.RuleCode) → turns_from R turns 0 A ≡ makes (tree.Iterate R)
  unfolding telling
  iterate_makes R = refl

  pub turns_next : (R : tree.RuleCode) (left t : ℕ) (B : State)
      → turns_from R (suc left) t B ≡ numbered_makes t R B ++ after_turn_set (numbered t R B) (λ U. turns_from R left (t + 1) (fire B U))
  turns_next R left t B =
      let own = asks shape turns chosen R rs ls B (at p t) in
      let rest = λ (U : UpdateSet). turns_ask shape turns chosen R rs ls left (suc t) (fire B U) p in
      ap choices_of (turns_first shape turns chosen R rs ls [] left t B p) ∙ both_chosen own (after_turn_set (numbered t R B) rest)
      ∙ ap (λ cs. numbered_makes t R B ++ cs) (turn_chosen (numbered t R B) rest)
      ∙ ap (λ k. numbered_makes t R B ++ after_turn_set (numbered t R B) (λ U. turns_from R left k (fire B U))) (sym (add-one t))
