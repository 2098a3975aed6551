-- Free. The tree of each variant of the program's rule codes, and what it yields, by what its parts
-- yield.
--     *_form, *_tree     the tree of a code, and that by the codes of the parts
--     *_yields, *_is, *_with, if_*, choose_*     what it yields
use Rattle.std.proofs.Common.{◌++◌, ◌≡◌, ◌∙◌, ℕ, ◌+◌, ◌≤◌, ◌<◌, true, false, cond, List, [], ◌∷◌, length, get_or, map, drop, Option, Some, None, refl, ap, sym, Box, Vec, Global, add-one}
use Rattle.std.specs.Prelude.{option_map, slice_get}
use Rattle.std.specs.Arc.{arc_value}
use Rattle.std.proofs.lemmas.List.{drop_more, at_drop_more, at_drop_all}
use Rattle.std.proofs.Math.ListN.{drop_of_length-le}
use Rattle.asm_state.specs.declared.value.Value.{Value}
use Rattle.asm_state.specs.Location.{State}
use Rattle.asm_state.specs.Signature.{Shape}
use Rattle.asm_state.specs.Updates.{UpdateSet, fire}
use Rattle.asm_meaning.specs.Does.{Outcome, nothing, both, parts, in_order, part_and, turns_of, counted, each}
use Rattle.asm_meaning.specs.code.Intervals.{between}
use Rattle.asm_meaning.specs.Program.{nothing_bound}
use Rattle.asm_meaning.specs.Taken.{taken}
use Rattle.asm_meaning.specs.Targets.{update}
use Rattle.asm_meaning.specs.Value.{Reading, is_true}
use Rattle.asm_meaning.specs.Yields.{Path, Gives, at}
use Rattle.asm_eval.proofs.Candidates.{candidate_laws-some as some_taken, candidate_laws-none as none_taken}
use Rattle.asm_meaning.proofs.Intervals.{interval_laws-all as between_all, interval_laws-next as each_next, interval_laws-none as each_none}
use Rattle.asm_code.specs.code.CodeViews.{code_of, codes_of}
use Rattle.asm_code.specs.code.CodeTree as codes
use Rattle.asm_code.specs.code.Readings.{always, reading, universe_at}
use Rattle.asm_code.specs.code.RuleMeaning.{Locations, meaning, meanings, named_readings, passes, passing, optional_target_location, result_readings, result_locations}
use Rattle.asm_code.specs.code.RuleTree as tree
use Rattle.asm_code.specs.code.RuleViews.{target_code_of, rule_of, rule_step, rules_of}
use Rattle.asm_code.specs.declared.code.Code.{Code}
use Rattle.asm_code.specs.declared.rule_code.TargetCode.{TargetCode}
use Rattle.asm_code.specs.declared.rule_code.RuleCode.{RuleCode}
use Rattle.asm_code.specs.declared.rule_code.RuleCode.TheOpen as opened_code
use Rattle.asm_code.specs.declared.rule_code.RuleCode.TheVariants as code
use Rattle.asm_code.specs.declared.rule_code.RuleCode.TheFolds.{fold-roll-RuleCode}
use Rattle.asm_eval.specs.code.Frames.{result_contents, by_name}
use Rattle.asm_eval.specs.code.Evaluation.{location_numbered}

pub skip_form : (P : RuleCode) → P ≡ code.Skip → rule_of P ≡ tree.Skip
skip_form P is = ap rule_of is ∙ ap rule_of (sym code.rolls-Skip) ∙ fold-roll-RuleCode tree.RuleCode rule_step opened_code.Skip

pub assign_form : (P : RuleCode) (to : TargetCode) (t : Code) → P ≡ code.Assign to t → rule_of P ≡ tree.Assign (target_code_of to) (code_of t)
assign_form P to t is = ap rule_of is ∙ ap rule_of (sym (code.rolls-Assign to t)) ∙ fold-roll-RuleCode tree.RuleCode rule_step (opened_code.Assign to t)

pub par_form : (P : RuleCode) (Ps : Vec RuleCode Global) → P ≡ code.Par Ps → rule_of P ≡ tree.Par (rules_of (map rule_of Ps.items))
par_form P Ps is = ap rule_of is ∙ ap rule_of (sym (code.rolls-Par Ps)) ∙ fold-roll-RuleCode tree.RuleCode rule_step (opened_code.Par Ps)

pub seq_form : (P : RuleCode) (Ps : Vec RuleCode Global) → P ≡ code.Seq Ps → rule_of P ≡ tree.Seq (rules_of (map rule_of Ps.items))
seq_form P Ps is = ap rule_of is ∙ ap rule_of (sym (code.rolls-Seq Ps)) ∙ fold-roll-RuleCode tree.RuleCode rule_step (opened_code.Seq Ps)

pub if_form : (P : RuleCode) (c : Code) (Q R : Box RuleCode Global) → P ≡ code.If c Q R → rule_of P ≡ tree.If (code_of c) (rule_of Q.value) (rule_of R.value)
if_form P c Q R is = ap rule_of is ∙ ap rule_of (sym (code.rolls-If c Q R)) ∙ fold-roll-RuleCode tree.RuleCode rule_step (opened_code.If c Q R)

pub let_form : (P : RuleCode) (t : Code) (Q : Box RuleCode Global) → P ≡ code.Let t Q → rule_of P ≡ tree.Let (code_of t) (rule_of Q.value)
let_form P t Q is = ap rule_of is ∙ ap rule_of (sym (code.rolls-Let t Q)) ∙ fold-roll-RuleCode tree.RuleCode rule_step (opened_code.Let t Q)

pub forall_form : (P : RuleCode) (u : ℕ) (c : Option Code) (Q : Box RuleCode Global) → P ≡ code.Forall u c Q → rule_of P ≡ tree.Forall u (option_map code_of c) (rule_of Q.value)
forall_form P u c Q is = ap rule_of is ∙ ap rule_of (sym (code.rolls-Forall u c Q)) ∙ fold-roll-RuleCode tree.RuleCode rule_step (opened_code.Forall u c Q)

pub choose_form : (P : RuleCode) (u : ℕ) (c : Option Code) (Q R : Box RuleCode Global) → P ≡ code.Choose u c Q R → rule_of P ≡ tree.Choose u (option_map code_of c) (rule_of Q.value) (rule_of R.value)
choose_form P u c Q R is = ap rule_of is ∙ ap rule_of (sym (code.rolls-Choose u c Q R)) ∙ fold-roll-RuleCode tree.RuleCode rule_step (opened_code.Choose u c Q R)

pub iterate_form : (P : RuleCode) (Q : Box RuleCode Global) → P ≡ code.Iterate Q → rule_of P ≡ tree.Iterate (rule_of Q.value)
iterate_form P Q is = ap rule_of is ∙ ap rule_of (sym (code.rolls-Iterate Q)) ∙ fold-roll-RuleCode tree.RuleCode rule_step (opened_code.Iterate Q)

pub call_form : (P : RuleCode) (body : _) (to : Option TargetCode) (ts : Vec Code Global) → P ≡ code.Call body to ts
    → rule_of P ≡ tree.Call (rule_of (arc_value body)) (option_map target_code_of to) (codes_of (map code_of ts.items))
call_form P body to ts is = ap rule_of is ∙ ap rule_of (sym (code.rolls-Call body to ts)) ∙ fold-roll-RuleCode tree.RuleCode rule_step (opened_code.Call body to ts)

-- ---- the same by the codes of the parts

pub par_tree : (P : RuleCode) (Ps : Vec RuleCode Global) → P ≡ code.Par Ps → (Qs : List RuleCode) → Qs ≡ Ps.items → tree.Par (rules_of (map rule_of Qs)) ≡ rule_of P
par_tree P Ps is Qs same = ap (λ Qs. tree.Par (rules_of (map rule_of Qs))) same ∙ sym (par_form P Ps is)

pub seq_tree : (P : RuleCode) (Ps : Vec RuleCode Global) → P ≡ code.Seq Ps → (Qs : List RuleCode) → Qs ≡ Ps.items → tree.Seq (rules_of (map rule_of Qs)) ≡ rule_of P
seq_tree P Ps is Qs same = ap (λ Qs. tree.Seq (rules_of (map rule_of Qs))) same ∙ sym (seq_form P Ps is)

pub if_tree : (P : RuleCode) (c : Code) (Q R : Box RuleCode Global) → P ≡ code.If c Q R → (d : Code) (S N : RuleCode) → d ≡ c → S ≡ Q.value → N ≡ R.value → tree.If (code_of d) (rule_of S) (rule_of N) ≡ rule_of P
if_tree P c Q R is d S N same same' same'' = (λ i. tree.If (code_of (same i)) (rule_of (same' i)) (rule_of (same'' i))) ∙ sym (if_form P c Q R is)

pub let_tree : (P : RuleCode) (t : Code) (Q : Box RuleCode Global) → P ≡ code.Let t Q → (u : Code) (S : RuleCode) → u ≡ t → S ≡ Q.value → tree.Let (code_of u) (rule_of S) ≡ rule_of P
let_tree P t Q is u S same same' = (λ i. tree.Let (code_of (same i)) (rule_of (same' i))) ∙ sym (let_form P t Q is)

pub forall_tree : (P : RuleCode) (u : ℕ) (c : Option Code) (Q : Box RuleCode Global) → P ≡ code.Forall u c Q → (d : Option Code) (S : RuleCode) → d ≡ c → S ≡ Q.value → tree.Forall u (option_map code_of d) (rule_of S) ≡ rule_of P
forall_tree P u c Q is d S same same' = (λ i. tree.Forall u (option_map code_of (same i)) (rule_of (same' i))) ∙ sym (forall_form P u c Q is)

pub choose_tree : (P : RuleCode) (u : ℕ) (c : Option Code) (Q R : Box RuleCode Global) → P ≡ code.Choose u c Q R → (d : Option Code) (S N : RuleCode) → d ≡ c → S ≡ Q.value → N ≡ R.value
    → tree.Choose u (option_map code_of d) (rule_of S) (rule_of N) ≡ rule_of P
choose_tree P u c Q R is d S N same same' same'' = (λ i. tree.Choose u (option_map code_of (same i)) (rule_of (same' i)) (rule_of (same'' i))) ∙ sym (choose_form P u c Q R is)

pub iterate_tree : (P : RuleCode) (Q : Box RuleCode Global) → P ≡ code.Iterate Q → (S : RuleCode) → S ≡ Q.value → tree.Iterate (rule_of S) ≡ rule_of P
iterate_tree P Q is S same = ap (λ (k : RuleCode). tree.Iterate (rule_of k)) same ∙ sym (iterate_form P Q is)

pub call_tree : (P : RuleCode) (body : _) (to : Option TargetCode) (ts : Vec Code Global) → P ≡ code.Call body to ts → (S : RuleCode) (d : Option TargetCode) (us : List Code) → S ≡ arc_value body → d ≡ to → us ≡ ts.items
    → tree.Call (rule_of S) (option_map target_code_of d) (codes_of (map code_of us)) ≡ rule_of P
call_tree P body to ts is S d us same same' are = (λ i. tree.Call (rule_of (same i)) (option_map target_code_of (same' i)) (codes_of (map code_of (are i)))) ∙ sym (call_form P body to ts is)

-- ---- what each yields

pub named_are : (shape : Shape) (rs : List Reading) (ts : List Code) → named_readings shape (codes_of (map code_of ts)) rs ≡ by_name shape rs ts
named_are shape rs [] = refl
named_are shape rs (t ∷ ts) = ap (λ more. reading shape (code_of t) rs ∷ more) (named_are shape rs ts)

-- what `result` stands for in a frame
pub contents_are : (shape : Shape) (n : Option ℕ) → result_contents shape n ≡ result_readings (location_numbered shape n)
contents_are shape None = refl
contents_are shape (Some n) = refl

module _ (shape : Shape) (turns : ℕ) (chosen : Path → ℕ) (rs : List Reading) (ls : Locations) (A : State) (p : Path) where
  abbrev yields : tree.RuleCode → Outcome
  yields P = meaning shape turns chosen P rs ls A p

  abbrev yields_at : ℕ → RuleCode → Outcome
  yields_at k P = meaning shape turns chosen (rule_of P) rs ls A (at p k)

  abbrev yields_with : Value → ℕ → RuleCode → Outcome
  yields_with v k P = meaning shape turns chosen (rule_of P) (always v ∷ rs) (None ∷ ls) A (at p k)

  abbrev yield_from : ℕ → List RuleCode → Outcome
  yield_from k Ps = parts (meanings shape turns chosen (rules_of (map rule_of Ps)) rs ls) k A nothing_bound p

  pub skip_yields : (P : RuleCode) → P ≡ code.Skip → nothing ≡ yields (rule_of P)
  unfolding meaning
  skip_yields P is = sym (ap yields (skip_form P is))

  pub assign_with : (to : TargetCode) (t : Code) → record { result = Gives (update (optional_target_location shape (Some (target_code_of to)) rs ls A) (reading shape (code_of t) rs A)); instances = 0 } ≡ yields (tree.Assign (target_code_of to) (code_of t))
  unfolding meaning
  assign_with to t = refl

  pub par_yields : (P : RuleCode) (Ps : Vec RuleCode Global) → P ≡ code.Par Ps → (Qs : List RuleCode) → Qs ≡ Ps.items → yield_from 0 Qs ≡ yields (rule_of P)
  unfolding meaning
  par_yields P Ps is Qs same = ap (yield_from 0) same ∙ sym (ap yields (par_form P Ps is))

  pub seq_yields : (P : RuleCode) (Ps : Vec RuleCode Global) → P ≡ code.Seq Ps → (Qs : List RuleCode) → Qs ≡ Ps.items
      → in_order (meanings shape turns chosen (rules_of (map rule_of Qs)) rs ls) 0 A nothing_bound p ≡ yields (rule_of P)
  unfolding meaning
  seq_yields P Ps is Qs same =
      ap (λ Qs. in_order (meanings shape turns chosen (rules_of (map rule_of Qs)) rs ls) 0 A nothing_bound p) same ∙ sym (ap yields (seq_form P Ps is))

  -- ---- the same by the codes of the parts

  pub if_yes : (c : Code) (S N : RuleCode) → is_true (reading shape (code_of c) rs A) ≡ true → yields_at 0 S ≡ yields (tree.If (code_of c) (rule_of S) (rule_of N))
  unfolding meaning
  if_yes c S N holds = ap (λ b. cond b (yields_at 0 S) (yields_at 1 N)) (sym holds)

  pub if_no : (c : Code) (S N : RuleCode) → is_true (reading shape (code_of c) rs A) ≡ false → yields_at 1 N ≡ yields (tree.If (code_of c) (rule_of S) (rule_of N))
  unfolding meaning
  if_no c S N fails = ap (λ b. cond b (yields_at 0 S) (yields_at 1 N)) (sym fails)

  pub let_with : (t : Code) (S : RuleCode) (v : Value) → v ≡ reading shape (code_of t) rs A → yields_with v 0 S ≡ yields (tree.Let (code_of t) (rule_of S))
  unfolding meaning
  let_with t S v valued = ap (λ w. yields_with w 0 S) valued

  pub choose_some : (u : ℕ) (c : Option Code) (S N : RuleCode) (v : Value) → Some v ≡ taken (chosen p) (passing shape u (option_map code_of c) rs A)
      → yields_with v 0 S ≡ yields (tree.Choose u (option_map code_of c) (rule_of S) (rule_of N))
  unfolding meaning
  choose_some u c S N v there = some_taken (chosen p) (passing shape u (option_map code_of c) rs A) v (λ w. yields_with w 0 S) (yields_at 1 N) there

  pub choose_none : (u : ℕ) (c : Option Code) (S N : RuleCode) → None ≡ taken (chosen p) (passing shape u (option_map code_of c) rs A)
      → yields_at 1 N ≡ yields (tree.Choose u (option_map code_of c) (rule_of S) (rule_of N))
  unfolding meaning
  choose_none u c S N there = none_taken (chosen p) (passing shape u (option_map code_of c) rs A) (λ w. yields_with w 0 S) (yields_at 1 N) there

  pub call_with : (S : RuleCode) (to : Option TargetCode) (us : List Code) (n : Option ℕ) → location_numbered shape n ≡ optional_target_location shape (option_map target_code_of to) rs ls A
      → meaning shape turns chosen (rule_of S) (result_contents shape n ++ by_name shape rs us) (result_locations (location_numbered shape n)) A (at p 0) ≡ yields (tree.Call (rule_of S) (option_map target_code_of to) (codes_of (map code_of us)))
  unfolding meaning
  call_with S to us n there =
      (λ i. meaning shape turns chosen (rule_of S) (contents_are shape n i ++ by_name shape rs us) (result_locations (location_numbered shape n)) A (at p 0))
      ∙ (λ i. meaning shape turns chosen (rule_of S) (result_readings (there i) ++ sym (named_are shape rs us) i) (result_locations (there i)) A (at p 0))

  -- and of the whole rule
  pub assign_is : (P : RuleCode) (to : TargetCode) (t : Code) → P ≡ code.Assign to t → (place : TargetCode) (u : Code) → place ≡ to → u ≡ t → yields (tree.Assign (target_code_of place) (code_of u)) ≡ yields (rule_of P)
  assign_is P to t is place u same same' = (λ i. yields (tree.Assign (target_code_of (same i)) (code_of (same' i)))) ∙ sym (ap yields (assign_form P to t is))

  -- ---- parts

  pub next_yields : (Ps : List RuleCode) (i : ℕ) (P : RuleCode) → i < length Ps → P ≡ get_or Ps i P
      → both (yields_at i P) (yield_from (i + 1) (drop (i + 1) Ps)) ≡ yield_from i (drop i Ps)
  unfolding meanings
  next_yields Ps i P below is =
      ap (λ k. both (yields_at i P) (yield_from k (drop (i + 1) Ps))) (add-one i)
      ∙ ap (yield_from i) (sym (drop_more Ps i P below ∙ ap (λ k. k ∷ drop (i + 1) Ps) (sym is)))

  pub none_yields : (Ps : List RuleCode) (i : ℕ) → length Ps ≤ i → nothing ≡ yield_from i (drop i Ps)
  unfolding meanings
  none_yields Ps i past = sym (ap (yield_from i) (drop_of_length-le Ps past))

  -- ---- values of a universe

  module _ (u : ℕ) (c : Option codes.Code) (P : RuleCode) where
    abbrev yield_each : ℕ → List Value → Outcome
    yield_each k vs = each (λ v n. yields_with v n P) (λ v. passes shape c (always v ∷ rs) A) k vs

    abbrev pub span_yields : (to : ℕ) → List Value → (i : ℕ) → Outcome
    span_yields to vs i = yield_each i (between i to vs)

    pub element_yields : (to : ℕ) (vs : List Value) (i : ℕ) (v : Value) → i < to → slice_get vs i ≡ Some v → true ≡ passes shape c (always v ∷ rs) A
        → counted (both (yields_with v i P) (span_yields to vs (i + 1))) ≡ span_yields to vs i
    element_yields to vs i v low there test = each_next (λ w n. yields_with w n P) (λ w. passes shape c (always w ∷ rs) A) i to vs v true low there test

    pub passed_yields : (to : ℕ) (vs : List Value) (i : ℕ) (v : Value) → i < to → slice_get vs i ≡ Some v → false ≡ passes shape c (always v ∷ rs) A
        → span_yields to vs (i + 1) ≡ span_yields to vs i
    passed_yields to vs i v low there test = each_next (λ w n. yields_with w n P) (λ w. passes shape c (always w ∷ rs) A) i to vs v false low there test

    pub no_element_yields : (to : ℕ) (vs : List Value) (i : ℕ) → to ≤ i → nothing ≡ span_yields to vs i
    no_element_yields to vs i past = sym (each_none (λ w n. yields_with w n P) (λ w. passes shape c (always w ∷ rs) A) i to vs past)

  pub forall_with : (u : ℕ) (c : Option Code) (S : RuleCode) (to : ℕ) → to ≡ length (universe_at shape u)
      → span_yields u (option_map code_of c) S to (universe_at shape u) 0 ≡ yields (tree.Forall u (option_map code_of c) (rule_of S))
  unfolding meaning
  forall_with u c S to all =
      ap (λ n. span_yields u (option_map code_of c) S n (universe_at shape u) 0) all
      ∙ ap (yield_each u (option_map code_of c) S 0) (between_all (universe_at shape u))

  -- ---- one after the other

  abbrev pub order_from : ℕ → List RuleCode → State → Outcome
  order_from i Ps B = in_order (meanings shape turns chosen (rules_of (map rule_of Ps)) rs ls) i B nothing_bound p

  abbrev then_rest : Outcome → (UpdateSet → Outcome) → Outcome
  then_rest o rest = part_and o.result o.instances rest

  abbrev numbered : ℕ → tree.RuleCode → State → Outcome
  numbered k r B = meaning shape turns chosen r rs ls B (at p k)

  pub order_next : (Ps : List RuleCode) (i : ℕ) (P : RuleCode) (B : State) → i < length Ps → P ≡ get_or Ps i P
      → order_from i (drop i Ps) B ≡ then_rest (numbered i (rule_of P) B) (λ U. order_from (i + 1) (drop (i + 1) Ps) (fire B U))
  unfolding meanings
  order_next Ps i P B low is =
      at_drop_more (λ (some : List RuleCode). order_from i some B) Ps i P low
      ∙ ap (λ k. then_rest (numbered i (rule_of (get_or Ps i P)) B) (λ U. order_from k (drop (i + 1) Ps) (fire B U))) (sym (add-one i))
      ∙ ap (λ (x : RuleCode). then_rest (numbered i (rule_of x) B) (λ U. order_from (i + 1) (drop (i + 1) Ps) (fire B U))) (sym is)

  pub order_end : (Ps : List RuleCode) (i : ℕ) (B : State) → length Ps ≤ i → order_from i (drop i Ps) B ≡ nothing
  unfolding meanings
  order_end Ps i B past = at_drop_all (λ (some : List RuleCode). order_from i some B) Ps i past

  pub iterate_with : (S : tree.RuleCode) → turns_of (λ A e p. meaning shape turns chosen S rs ls A p) turns 0 A nothing_bound p ≡ yields (tree.Iterate S)
  unfolding meaning
  iterate_with S = refl
