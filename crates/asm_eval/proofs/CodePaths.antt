-- Free. An exhausted path lies within the path of its resolved rule, so that of parts beside each
-- other the first exhausted one has the least.
--     rule_within         of what a rule yields
--     first_part          of a part and the parts after it
--     first_element       of a value and the values after it
use Rattle.std.proofs.Common.{◌++◌, ◌≡◌, ℕ, suc, Bool, List, ◌∷◌, None}
use Rattle.asm_state.specs.declared.value.Value.{Value}
use Rattle.asm_state.specs.Location.{State}
use Rattle.asm_state.specs.Signature.{Shape}
use Rattle.asm_meaning.specs.Does.{Outcome, parts, each}
use Rattle.asm_meaning.specs.Program.{nothing_bound}
use Rattle.asm_meaning.specs.Value.{Reading, is_true}
use Rattle.asm_meaning.specs.Yields.{Path, at, Exhausted, beside}
use Rattle.asm_meaning.proofs.BesideLemmas.ExhaustedPaths.{nested_paths-first as first_beside}
use Rattle.asm_eval.proofs.Lists.{by_test}
use Rattle.asm_meaning.specs.code.NestedPaths.{Within, AllNest}
use Rattle.asm_meaning.proofs.NestedPaths.{nested_paths-behind_is_within as behind_is_within, nested_paths-descent_is_within as descent_is_within, nested_paths-parts as parts_behind, nested_paths-in_order as in_order_within, nested_paths-turns as turns_within, nested_paths-elements as each_behind, nested_paths-one_of as one_within}
use Rattle.asm_code.specs.code.Readings.{always, reading, universe_at}
use Rattle.asm_code.specs.code.RuleMeaning.{Locations, meaning, meanings, passes, passing, optional_target_location, named_readings, result_readings, result_locations}
use Rattle.asm_code.specs.code.RuleTree.{RuleCode, Skip, Assign, Par, Seq, If, Let, Forall, Choose, Iterate, Call, RuleCodes, no_rules, rule_then}

module _ (shape : Shape) (turns : ℕ) (chosen : Path → ℕ) where
  abbrev means : RuleCode → List Reading → Locations → State → Path → Outcome
  means = meaning shape turns chosen

  mutual
    unfolding meaning meanings

    pub rule_within : (P : RuleCode) (rs : List Reading) (ls : Locations) (A : State) (p : Path) → Within p (means P rs ls A p).result
    rule_within Skip rs ls A p = tt
    rule_within (Assign to t) rs ls A p = tt
    rule_within (Par Ps) rs ls A p = behind_is_within p 0 (parts (meanings shape turns chosen Ps rs ls) 0 A nothing_bound p).result
        (parts_behind (meanings shape turns chosen Ps rs ls) (all_nest Ps rs ls) 0 A nothing_bound p)
    rule_within (Seq Ps) rs ls A p = in_order_within (meanings shape turns chosen Ps rs ls) (all_nest Ps rs ls) 0 A nothing_bound p
    rule_within (If c P Q) rs ls A p =
        by_test (λ (o : Outcome). Within p o.result) (is_true (reading shape c rs A)) _ _
        (λ _. descent_is_within p 0 (means P rs ls A (at p 0)).result (rule_within P rs ls A (at p 0)))
        (λ _. descent_is_within p 1 (means Q rs ls A (at p 1)).result (rule_within Q rs ls A (at p 1)))
    rule_within (Let t P) rs ls A p = descent_is_within p 0 _ (rule_within P (always (reading shape t rs A) ∷ rs) (None ∷ ls) A (at p 0))
    rule_within (Forall u c P) rs ls A p =
        behind_is_within p 0 _ (each_behind p (λ v k. means P (always v ∷ rs) (None ∷ ls) A (at p k)) (λ v. passes shape c (always v ∷ rs) A)
        (λ v k. rule_within P (always v ∷ rs) (None ∷ ls) A (at p k)) 0 (universe_at shape u))
    rule_within (Choose u c P Q) rs ls A p =
        one_within p (chosen p) (passing shape u c rs A) (λ v. means P (always v ∷ rs) (None ∷ ls) A (at p 0)) (means Q rs ls A (at p 1))
        (λ v. descent_is_within p 0 (means P (always v ∷ rs) (None ∷ ls) A (at p 0)).result (rule_within P (always v ∷ rs) (None ∷ ls) A (at p 0)))
        (descent_is_within p 1 (means Q rs ls A (at p 1)).result (rule_within Q rs ls A (at p 1)))
    rule_within (Iterate P) rs ls A p = turns_within (λ A e p. means P rs ls A p) (λ A e p. rule_within P rs ls A p) turns 0 A nothing_bound p
    rule_within (Call P to ts) rs ls A p =
        descent_is_within p 0 _ (rule_within P (result_readings (optional_target_location shape to rs ls A) ++ named_readings shape ts rs) (result_locations (optional_target_location shape to rs ls A)) A (at p 0))

    all_nest : (Ps : RuleCodes) (rs : List Reading) (ls : Locations) → AllNest (meanings shape turns chosen Ps rs ls)
    all_nest no_rules rs ls = tt
    all_nest (rule_then P Ps) rs ls = (λ A e p. rule_within P rs ls A p, all_nest Ps rs ls)

  module _ (rs : List Reading) (ls : Locations) (A : State) (p q : Path) (k : ℕ) where
    pub first_part : (P : RuleCode) (Ps : RuleCodes) → (means P rs ls A (at p k)).result ≡ Exhausted q
        → beside (means P rs ls A (at p k)).result (parts (meanings shape turns chosen Ps rs ls) (suc k) A nothing_bound p).result ≡ Exhausted q
    first_part P Ps is =
        first_beside p k q (means P rs ls A (at p k)).result (parts (meanings shape turns chosen Ps rs ls) (suc k) A nothing_bound p).result
        (rule_within P rs ls A (at p k)) (parts_behind (meanings shape turns chosen Ps rs ls) (all_nest Ps rs ls) (suc k) A nothing_bound p) is

    pub first_element : (test : Value → Bool) (v : Value) (vs : List Value) (P : RuleCode) → (means P (always v ∷ rs) (None ∷ ls) A (at p k)).result ≡ Exhausted q
        → beside (means P (always v ∷ rs) (None ∷ ls) A (at p k)).result (each (λ w n. means P (always w ∷ rs) (None ∷ ls) A (at p n)) test (suc k) vs).result ≡ Exhausted q
    first_element test v vs P is =
        let run = λ (w : Value) (n : ℕ). means P (always w ∷ rs) (None ∷ ls) A (at p n) in
        first_beside p k q (run v k).result (each run test (suc k) vs).result
        (rule_within P (always v ∷ rs) (None ∷ ls) A (at p k)) (each_behind p run test (λ w n. rule_within P (always w ∷ rs) (None ∷ ls) A (at p n)) (suc k) vs) is
