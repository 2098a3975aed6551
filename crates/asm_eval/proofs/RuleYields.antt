-- Free. What each variant of the program's rule codes yields.
use Rattle.std.proofs.Common.{◌++◌, ◌≡◌, ◌∙◌, ℕ, zero, suc, ◌+◌, ◌-◌, ◌≤◌, ◌<◌, true, false, cond, List, [], ◌∷◌, length, get_or, map, drop, Option, Some, None, refl, ap, sym, subst, arith, Box, Vec, Global, add-one}
use Rattle.std.specs.Prelude.{option_map, slice_get, slice_index_or}
use Rattle.std.proofs.lemmas.Option.{get_or_from_slice_get}
use Rattle.std.specs.Arc.{arc_value}
use Rattle.std.proofs.lemmas.List.{drop_more}
use Rattle.std.proofs.Math.ListN.{drop_of_length-le}
use Rattle.asm_state.specs.declared.value.Value.{Value}
use Rattle.asm_state.specs.Location.{Location, State}
use Rattle.asm_state.specs.Signature.{Shape, location_at}
use Rattle.asm_state.specs.Updates.{one}
use Rattle.asm_updates.specs.code.SummaryRanges.{SummaryRanges}
use Rattle.asm_updates.specs.code.Stands.{Adds}
use Rattle.asm_eval.specs.code.FormedOutcomes.{Forms, greatest_count}
use Rattle.asm_meaning.specs.Does.{Outcome, nothing, both, parts, in_order, counted, each}
use Rattle.asm_meaning.specs.code.Intervals.{between}
use Rattle.asm_meaning.specs.Program.{nothing_bound}
use Rattle.asm_meaning.specs.Taken.{taken}
use Rattle.asm_meaning.specs.Targets.{update}
use Rattle.asm_meaning.specs.Value.{Reading, is_true}
use Rattle.asm_meaning.specs.Yields.{Path, Exhausted, Gives, beside, at}
use Rattle.asm_eval.proofs.Candidates.{candidate_laws-some as some_taken, candidate_laws-none as none_taken}
use Rattle.asm_meaning.proofs.Intervals.{interval_laws-all as between_all, interval_laws-next as each_next, interval_laws-none as each_none}
use Rattle.asm_code.proofs.RuleForms.{rule_laws-skip_form as skip_form, rule_laws-assign_form as assign_form, rule_laws-par_form as par_form, rule_laws-seq_form as seq_form, rule_laws-if_form as if_form, rule_laws-let_form as let_form, rule_laws-forall_form as forall_form, rule_laws-choose_form as choose_form, rule_laws-iterate_form as iterate_form, rule_laws-call_form as call_form}
use Rattle.asm_code.specs.code.CodeViews.{code_of, codes_of}
use Rattle.asm_code.specs.code.CodeTree as codes
use Rattle.asm_code.specs.code.Readings.{always, reading, universe_at}
use Rattle.asm_code.specs.code.RuleMeaning.{Locations, meaning, meanings, named_readings, passes, passing, optional_target_location, result_readings, result_locations, IsSoundRule, AreSoundRules, rule_size, rule_sizes}
use Rattle.asm_code.specs.code.RuleTree as tree
use Rattle.asm_code.specs.code.RuleViews.{target_code_of, rule_of, rules_of}
use Rattle.asm_code.specs.declared.code.Code.{Code}
use Rattle.asm_code.specs.declared.rule_code.TargetCode.{TargetCode}
use Rattle.asm_code.specs.declared.rule_code.RuleCode.{RuleCode}
use Rattle.asm_code.specs.declared.rule_code.RuleCode.TheVariants as code
use Rattle.asm_eval.proofs.CodePaths.{first_part, first_element}
use Rattle.asm_eval.specs.code.Frames.{result_contents, by_name}
use Rattle.asm_eval.specs.code.Evaluation.{location_numbered}

pub named_are : (shape : Shape) (rs : List Reading) (ts : List Code) → named_readings shape (codes_of (map code_of ts)) rs ≡ by_name shape rs ts
named_are shape rs [] = refl
named_are shape rs (t ∷ ts) = ap (λ more. reading shape (code_of t) rs ∷ more) (named_are shape rs ts)

-- what `result` stands for in a frame
pub contents_are : (shape : Shape) (n : Option ℕ) → result_contents shape n ≡ result_readings (location_numbered shape n)
contents_are shape None = refl
contents_are shape (Some n) = refl

module _ (shape : Shape) (turns : ℕ) (chosen : Path → ℕ) (rs : List Reading) (ls : Locations) (A : State) (p : Path) where
  abbrev yields : tree.RuleCode → Outcome
  yields P = meaning shape turns chosen P rs ls A p

  abbrev yields_at : ℕ → RuleCode → Outcome
  yields_at k P = meaning shape turns chosen (rule_of P) rs ls A (at p k)

  abbrev yields_with : Value → ℕ → RuleCode → Outcome
  yields_with v k P = meaning shape turns chosen (rule_of P) (always v ∷ rs) (None ∷ ls) A (at p k)

  abbrev yield_from : ℕ → List RuleCode → Outcome
  yield_from k Ps = parts (meanings shape turns chosen (rules_of (map rule_of Ps)) rs ls) k A nothing_bound p

  pub skip_yields : (P : RuleCode) → P ≡ code.Skip → nothing ≡ yields (rule_of P)
  unfolding meaning
  skip_yields P is = sym (ap yields (skip_form P is))

  pub assign_yields : (P : RuleCode) (to : TargetCode) (t : Code) → P ≡ code.Assign to t → (place : TargetCode) (u : Code) → place ≡ to → u ≡ t
      → record { result = Gives (update (optional_target_location shape (Some (target_code_of place)) rs ls A) (reading shape (code_of u) rs A)); instances = 0 } ≡ yields (rule_of P)
  unfolding meaning
  assign_yields P to t is place u same same' =
      (λ i. record { result = Gives (update (optional_target_location shape (Some (target_code_of (same i))) rs ls A) (reading shape (code_of (same' i)) rs A)); instances = 0 })
      ∙ sym (ap yields (assign_form P to t is))

  pub par_yields : (P : RuleCode) (Ps : Vec RuleCode Global) → P ≡ code.Par Ps → (Qs : List RuleCode) → Qs ≡ Ps.items → yield_from 0 Qs ≡ yields (rule_of P)
  unfolding meaning
  par_yields P Ps is Qs same = ap (yield_from 0) same ∙ sym (ap yields (par_form P Ps is))

  pub seq_yields : (P : RuleCode) (Ps : Vec RuleCode Global) → P ≡ code.Seq Ps → (Qs : List RuleCode) → Qs ≡ Ps.items
      → in_order (meanings shape turns chosen (rules_of (map rule_of Qs)) rs ls) 0 A nothing_bound p ≡ yields (rule_of P)
  unfolding meaning
  seq_yields P Ps is Qs same =
      ap (λ Qs. in_order (meanings shape turns chosen (rules_of (map rule_of Qs)) rs ls) 0 A nothing_bound p) same ∙ sym (ap yields (seq_form P Ps is))

  pub iterate_yields : (P : RuleCode) (Q : Box RuleCode Global) → P ≡ code.Iterate Q → (S : RuleCode) → S ≡ Q.value → yields (tree.Iterate (rule_of S)) ≡ yields (rule_of P)
  iterate_yields P Q is S same = ap (λ (k : RuleCode). yields (tree.Iterate (rule_of k))) same ∙ sym (ap yields (iterate_form P Q is))

  pub call_yields : (P : RuleCode) (body : _) (to : Option TargetCode) (ts : Vec Code Global) → P ≡ code.Call body to ts → (S : RuleCode) → S ≡ arc_value body → (us : List Code) → us ≡ ts.items
      → (n : Option ℕ) → location_numbered shape n ≡ optional_target_location shape (option_map target_code_of to) rs ls A
      → meaning shape turns chosen (rule_of S) (result_contents shape n ++ by_name shape rs us) (result_locations (location_numbered shape n)) A (at p 0) ≡ yields (rule_of P)
  unfolding meaning
  call_yields P body to ts is S same us are n there =
      (λ i. meaning shape turns chosen (rule_of (same i)) (contents_are shape n i ++ by_name shape rs (are i)) (result_locations (location_numbered shape n)) A (at p 0))
      ∙ (λ i. meaning shape turns chosen (rule_of (arc_value body)) (result_readings (there i) ++ sym (named_are shape rs ts.items) i) (result_locations (there i)) A (at p 0))
      ∙ sym (ap yields (call_form P body to ts is))

  -- ---- the same by the codes of the parts

  pub if_yes : (c : Code) (S N : RuleCode) → is_true (reading shape (code_of c) rs A) ≡ true → yields_at 0 S ≡ yields (tree.If (code_of c) (rule_of S) (rule_of N))
  unfolding meaning
  if_yes c S N holds = ap (λ b. cond b (yields_at 0 S) (yields_at 1 N)) (sym holds)

  pub if_no : (c : Code) (S N : RuleCode) → is_true (reading shape (code_of c) rs A) ≡ false → yields_at 1 N ≡ yields (tree.If (code_of c) (rule_of S) (rule_of N))
  unfolding meaning
  if_no c S N fails = ap (λ b. cond b (yields_at 0 S) (yields_at 1 N)) (sym fails)

  pub if_left_out : (c : Code) (S N : RuleCode) → is_true (reading shape (code_of c) rs A) ≡ false → N ≡ code.Skip → nothing ≡ yields (tree.If (code_of c) (rule_of S) (rule_of N))
  unfolding meaning
  if_left_out c S N fails is = sym (ap (λ R. meaning shape turns chosen R rs ls A (at p 1)) (skip_form N is)) ∙ if_no c S N fails

  pub let_with : (t : Code) (S : RuleCode) (v : Value) → v ≡ reading shape (code_of t) rs A → yields_with v 0 S ≡ yields (tree.Let (code_of t) (rule_of S))
  unfolding meaning
  let_with t S v valued = ap (λ w. yields_with w 0 S) valued

  pub choose_some : (u : ℕ) (c : Option Code) (S N : RuleCode) (v : Value) → Some v ≡ taken (chosen p) (passing shape u (option_map code_of c) rs A)
      → yields_with v 0 S ≡ yields (tree.Choose u (option_map code_of c) (rule_of S) (rule_of N))
  unfolding meaning
  choose_some u c S N v there = some_taken (chosen p) (passing shape u (option_map code_of c) rs A) v (λ w. yields_with w 0 S) (yields_at 1 N) there

  pub choose_none : (u : ℕ) (c : Option Code) (S N : RuleCode) → None ≡ taken (chosen p) (passing shape u (option_map code_of c) rs A)
      → yields_at 1 N ≡ yields (tree.Choose u (option_map code_of c) (rule_of S) (rule_of N))
  unfolding meaning
  choose_none u c S N there = none_taken (chosen p) (passing shape u (option_map code_of c) rs A) (λ w. yields_with w 0 S) (yields_at 1 N) there

  pub call_with : (S : RuleCode) (to : Option TargetCode) (us : List Code) (n : Option ℕ) → location_numbered shape n ≡ optional_target_location shape (option_map target_code_of to) rs ls A
      → meaning shape turns chosen (rule_of S) (result_contents shape n ++ by_name shape rs us) (result_locations (location_numbered shape n)) A (at p 0) ≡ yields (tree.Call (rule_of S) (option_map target_code_of to) (codes_of (map code_of us)))
  unfolding meaning
  call_with S to us n there =
      (λ i. meaning shape turns chosen (rule_of S) (contents_are shape n i ++ by_name shape rs us) (result_locations (location_numbered shape n)) A (at p 0))
      ∙ (λ i. meaning shape turns chosen (rule_of S) (result_readings (there i) ++ sym (named_are shape rs us) i) (result_locations (there i)) A (at p 0))

  -- and of the whole rule
  pub if_is : (P : RuleCode) (c : Code) (Q R : Box RuleCode Global) → P ≡ code.If c Q R → (d : Code) (S N : RuleCode) → d ≡ c → S ≡ Q.value → N ≡ R.value → yields (tree.If (code_of d) (rule_of S) (rule_of N)) ≡ yields (rule_of P)
  if_is P c Q R is d S N same same' same'' = (λ i. yields (tree.If (code_of (same i)) (rule_of (same' i)) (rule_of (same'' i)))) ∙ sym (ap yields (if_form P c Q R is))

  pub let_is : (P : RuleCode) (t : Code) (Q : Box RuleCode Global) → P ≡ code.Let t Q → (u : Code) (S : RuleCode) → u ≡ t → S ≡ Q.value → yields (tree.Let (code_of u) (rule_of S)) ≡ yields (rule_of P)
  let_is P t Q is u S same same' = (λ i. yields (tree.Let (code_of (same i)) (rule_of (same' i)))) ∙ sym (ap yields (let_form P t Q is))

  pub choose_is : (P : RuleCode) (u : ℕ) (c : Option Code) (Q R : Box RuleCode Global) → P ≡ code.Choose u c Q R → (d : Option Code) (S N : RuleCode) → d ≡ c → S ≡ Q.value → N ≡ R.value
      → yields (tree.Choose u (option_map code_of d) (rule_of S) (rule_of N)) ≡ yields (rule_of P)
  choose_is P u c Q R is d S N same same' same'' = (λ i. yields (tree.Choose u (option_map code_of (same i)) (rule_of (same' i)) (rule_of (same'' i)))) ∙ sym (ap yields (choose_form P u c Q R is))

  pub call_is : (P : RuleCode) (body : _) (to : Option TargetCode) (ts : Vec Code Global) → P ≡ code.Call body to ts → (S : RuleCode) (d : Option TargetCode) (us : List Code) → S ≡ arc_value body → d ≡ to → us ≡ ts.items
      → yields (tree.Call (rule_of S) (option_map target_code_of d) (codes_of (map code_of us))) ≡ yields (rule_of P)
  call_is P body to ts is S d us same same' are = (λ i. yields (tree.Call (rule_of (same i)) (option_map target_code_of (same' i)) (codes_of (map code_of (are i))))) ∙ sym (ap yields (call_form P body to ts is))

  -- ---- the candidate that is taken

  pub chosen_yields : (P : RuleCode) (u : ℕ) (c : Option Code) (Q R : Box RuleCode Global) → P ≡ code.Choose u c Q R → (d : Option Code) → d ≡ c → (S : RuleCode) → S ≡ Q.value → (v : Value)
      → Some v ≡ taken (chosen p) (passing shape u (option_map code_of d) rs A) → yields_with v 0 S ≡ yields (rule_of P)
  unfolding meaning
  chosen_yields P u c Q R is d same' S same v there =
      ap (yields_with v 0) same
      ∙ some_taken (chosen p) (passing shape u (option_map code_of c) rs A) v (λ w. yields_with w 0 Q.value) (yields_at 1 R.value)
      (there ∙ ap (λ (c : Option Code). taken (chosen p) (passing shape u (option_map code_of c) rs A)) same')
      ∙ sym (ap yields (choose_form P u c Q R is))

  pub other_yields : (P : RuleCode) (u : ℕ) (c : Option Code) (Q R : Box RuleCode Global) → P ≡ code.Choose u c Q R → (d : Option Code) → d ≡ c → (S : RuleCode) → S ≡ R.value
      → None ≡ taken (chosen p) (passing shape u (option_map code_of d) rs A) → yields_at 1 S ≡ yields (rule_of P)
  unfolding meaning
  other_yields P u c Q R is d same' S same there =
      ap (yields_at 1) same
      ∙ none_taken (chosen p) (passing shape u (option_map code_of c) rs A) (λ w. yields_with w 0 Q.value) (yields_at 1 R.value)
      (there ∙ ap (λ (c : Option Code). taken (chosen p) (passing shape u (option_map code_of c) rs A)) same')
      ∙ sym (ap yields (choose_form P u c Q R is))

  -- ---- parts

  pub next_yields : (Ps : List RuleCode) (i : ℕ) (P : RuleCode) → i < length Ps → P ≡ get_or Ps i P
      → both (yields_at i P) (yield_from (i + 1) (drop (i + 1) Ps)) ≡ yield_from i (drop i Ps)
  unfolding meanings
  next_yields Ps i P below is =
      ap (λ k. both (yields_at i P) (yield_from k (drop (i + 1) Ps))) (add-one i)
      ∙ ap (yield_from i) (sym (drop_more Ps i P below ∙ ap (λ k. k ∷ drop (i + 1) Ps) (sym is)))

  pub none_yields : (Ps : List RuleCode) (i : ℕ) → length Ps ≤ i → nothing ≡ yield_from i (drop i Ps)
  unfolding meanings
  none_yields Ps i past = sym (ap (yield_from i) (drop_of_length-le Ps past))

  -- an exhausted part comes before those after it
  pub exhausted_yields : (Ps : List RuleCode) (i : ℕ) (P : RuleCode) (q : Path) → i < length Ps → P ≡ get_or Ps i P → (yields_at i P).result ≡ Exhausted q
      → (yield_from i (drop i Ps)).result ≡ Exhausted q
  exhausted_yields Ps i P q below is ends =
      sym (ap (λ o. o.result) (next_yields Ps i P below is))
      ∙ ap (λ k. beside (yields_at i P).result (yield_from k (drop (i + 1) Ps)).result) (add-one i)
      ∙ first_part shape turns chosen rs ls A p q i (rule_of P) (rules_of (map rule_of (drop (i + 1) Ps))) ends

  -- ---- values of a universe

  module _ (u : ℕ) (c : Option codes.Code) (P : RuleCode) where
    abbrev yield_each : ℕ → List Value → Outcome
    yield_each k vs = each (λ v n. yields_with v n P) (λ v. passes shape c (always v ∷ rs) A) k vs

    abbrev pub span_yields : (to : ℕ) → List Value → (i : ℕ) → Outcome
    span_yields to vs i = yield_each i (between i to vs)

    pub element_yields : (to : ℕ) (vs : List Value) (i : ℕ) (v : Value) → i < to → slice_get vs i ≡ Some v → true ≡ passes shape c (always v ∷ rs) A
        → counted (both (yields_with v i P) (span_yields to vs (i + 1))) ≡ span_yields to vs i
    element_yields to vs i v low there test = each_next (λ w n. yields_with w n P) (λ w. passes shape c (always w ∷ rs) A) i to vs v true low there test

    pub passed_yields : (to : ℕ) (vs : List Value) (i : ℕ) (v : Value) → i < to → slice_get vs i ≡ Some v → false ≡ passes shape c (always v ∷ rs) A
        → span_yields to vs (i + 1) ≡ span_yields to vs i
    passed_yields to vs i v low there test = each_next (λ w n. yields_with w n P) (λ w. passes shape c (always w ∷ rs) A) i to vs v false low there test

    pub exhausted_element_yields : (to : ℕ) (vs : List Value) (i : ℕ) (v : Value) (q : Path) → i < to → slice_get vs i ≡ Some v → true ≡ passes shape c (always v ∷ rs) A
        → (yields_with v i P).result ≡ Exhausted q → (span_yields to vs i).result ≡ Exhausted q
    exhausted_element_yields to vs i v q low there test ends =
        sym (ap (λ o. o.result) (element_yields to vs i v low there test))
        ∙ ap (λ k. beside (yields_with v i P).result (yield_each k (between (i + 1) to vs)).result) (add-one i)
        ∙ first_element shape turns chosen rs ls A p q i (λ w. passes shape c (always w ∷ rs) A) v (between (i + 1) to vs) (rule_of P) ends

    pub no_element_yields : (to : ℕ) (vs : List Value) (i : ℕ) → to ≤ i → nothing ≡ span_yields to vs i
    no_element_yields to vs i past = sym (each_none (λ w n. yields_with w n P) (λ w. passes shape c (always w ∷ rs) A) i to vs past)

  pub forall_yields : (P : RuleCode) (u : ℕ) (c : Option Code) (Q : Box RuleCode Global) → P ≡ code.Forall u c Q → (d : Option Code) → d ≡ c → (S : RuleCode) → S ≡ Q.value → (to : ℕ)
      → to ≡ length (universe_at shape u) → span_yields u (option_map code_of d) S to (universe_at shape u) 0 ≡ yields (rule_of P)
  unfolding meaning
  forall_yields P u c Q is d same' S same to all =
      (λ i. span_yields u (option_map code_of (same' i)) (same i) (all i) (universe_at shape u) 0)
      ∙ ap (yield_each u (option_map code_of c) Q.value 0) (between_all (universe_at shape u))
      ∙ sym (ap yields (forall_form P u c Q is))

-- ---- soundness of a part

pub sound_part : (shape : Shape) (Ps : List RuleCode) (i : ℕ) (P : RuleCode) → i < length Ps → P ≡ get_or Ps i P → AreSoundRules shape (rules_of (map rule_of Ps)) → IsSoundRule shape (rule_of P)
sound_part shape [] i P below is sound = absurd (omega (arith, below))
sound_part shape (Q ∷ Ps) zero P below is sound = subst (λ (k : RuleCode). IsSoundRule shape (rule_of k)) (sym is) sound.0
sound_part shape (Q ∷ Ps) (suc i) P below is sound = sound_part shape Ps i P (omega (arith, below)) is sound.1

-- ---- an update

pub assign_forms : (l : Option Location) (w : Value) (shape : Shape) (n : ℕ) (v : Value) (old new : SummaryRanges) (m : ℕ) → m ≤ greatest_count
    → location_numbered shape (Some n) ≡ l → v ≡ w → Adds shape (one (location_at shape n) v) old new → Forms shape (record { result = Gives (update l w); instances = 0 }) old new m m
assign_forms l w shape n v old new m small there valued adds = record {
  set = one (location_at shape n) v;
  gives = λ i. Gives (update (sym there i) (sym valued i));
  adds = adds;
  counts = omega (arith, small);
}

pub no_place : (shape : Shape) (n : Option ℕ) (l : Option Location) (w : Value) → n ≡ None → location_numbered shape n ≡ l → nothing ≡ record { result = Gives (update l w); instances = 0 }
no_place shape n l w is there = ap (λ (l : Option Location). record { result = Gives (update l w); instances = 0 }) (sym (ap (location_numbered shape) is) ∙ there)

-- a part has no more nodes than all of them
pub size_of_part : (Ps : List RuleCode) (i : ℕ) (P : RuleCode) → i < length Ps → P ≡ get_or Ps i P → rule_size (rule_of P) ≤ rule_sizes (rules_of (map rule_of Ps))
size_of_part [] i P below is = absurd (omega (arith, below))
size_of_part (Q ∷ Ps) zero P below is = let same = ap (λ (k : RuleCode). rule_size (rule_of k)) is in omega (arith, same)
size_of_part (Q ∷ Ps) (suc i) P below is = let rest = size_of_part Ps i P (omega (arith, below)) is in omega (arith, rest)

-- ---- the universe with a number

pub universe_here : (us : List (List Value)) (u : ℕ) (vs : List Value) → slice_get us u ≡ Some vs → slice_index_or us u [] ≡ vs
universe_here us u vs is = get_or_from_slice_get us u vs [] is

pub value_here : (us : List (List Value)) (u : ℕ) (vs : List Value) (i : ℕ) (v : Value) → slice_get us u ≡ Some vs → slice_get vs i ≡ Some v → slice_get (slice_index_or us u []) i ≡ Some v
value_here us u vs i v is there = ap (λ ws. slice_get ws i) (universe_here us u vs is) ∙ there

pub size_here : (us : List (List Value)) (u : ℕ) (vs : List Value) (n : ℕ) → slice_get us u ≡ Some vs → n ≡ length vs → n ≡ length (slice_index_or us u [])
size_here us u vs n is many = many ∙ ap length (sym (universe_here us u vs is))

-- ---- what a position of a frame has for a location

pub later_place : (o : Option Location) (ls : Locations) (i : ℕ) → ¬ (i ≡ 0) → slice_index_or (o ∷ ls) i None ≡ slice_index_or ls (i - 1) None
later_place o ls zero h = absurd (h refl)
later_place o ls (suc i) h = let e : i ≡ suc i - 1 = omega arith in ap (λ j. slice_index_or ls j None) e
