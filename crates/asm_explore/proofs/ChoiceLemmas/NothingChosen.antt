-- Free. A rule in which nothing is chosen does the same whoever says what is taken.
--     same_for_all      what it does
use Rattle.std.proofs.Common.{◌≡◌, ◌++◌, ℕ, cond, List, ◌∷◌, None, refl}
use Rattle.asm_state.specs.Location.{State}
use Rattle.asm_state.specs.Signature.{Shape}
use Rattle.asm_meaning.specs.Does.{parts, in_order, each, turns_of}
use Rattle.asm_meaning.specs.Program.{nothing_bound}
use Rattle.asm_meaning.specs.Value.{Reading, is_true}
use Rattle.asm_meaning.specs.Yields.{Path, at}
use Rattle.asm_code.specs.code.Readings.{always, reading, universe_at}
use Rattle.asm_code.specs.code.RuleMeaning.{Locations, meaning, meanings, passes, optional_target_location, named_readings, result_readings, result_locations}
use Rattle.asm_code.specs.code.RuleTree.{RuleCode, Skip, Assign, Par, Seq, If, Let, Forall, Choose, Iterate, Call, RuleCodes, no_rules, rule_then}
use Rattle.asm_explore.specs.code.ChooseNothing.{ChoosesNothing, ChooseNothing}

module _ (shape : Shape) (turns : ℕ) (chosen other : Path → ℕ) where
  mutual
    unfolding meaning meanings

    pub same_for_all : (P : RuleCode) (rs : List Reading) (ls : Locations) (A : State) (p : Path) → ChoosesNothing P
        → meaning shape turns other P rs ls A p ≡ meaning shape turns chosen P rs ls A p
    same_for_all Skip rs ls A p h = refl
    same_for_all (Assign to t) rs ls A p h = refl
    same_for_all (Par Ps) rs ls A p h = λ i. parts (all_same Ps rs ls h i) 0 A nothing_bound p
    same_for_all (Seq Ps) rs ls A p h = λ i. in_order (all_same Ps rs ls h i) 0 A nothing_bound p
    same_for_all (If c P Q) rs ls A p h = λ i. cond (is_true (reading shape c rs A)) (same_for_all P rs ls A (at p 0) h.0 i) (same_for_all Q rs ls A (at p 1) h.1 i)
    same_for_all (Let t P) rs ls A p h = same_for_all P (always (reading shape t rs A) ∷ rs) (None ∷ ls) A (at p 0) h
    same_for_all (Forall u c P) rs ls A p h =
        λ i. each (λ v k. same_for_all P (always v ∷ rs) (None ∷ ls) A (at p k) h i) (λ v. passes shape c (always v ∷ rs) A) 0 (universe_at shape u)
    same_for_all (Choose u c P Q) rs ls A p h = absurd h
    same_for_all (Iterate P) rs ls A p h = λ i. turns_of (λ A e p. same_for_all P rs ls A p h i) turns 0 A nothing_bound p
    same_for_all (Call P to ts) rs ls A p h =
        same_for_all P (result_readings (optional_target_location shape to rs ls A) ++ named_readings shape ts rs) (result_locations (optional_target_location shape to rs ls A)) A (at p 0) h

    all_same : (Ps : RuleCodes) (rs : List Reading) (ls : Locations) → ChooseNothing Ps → meanings shape turns other Ps rs ls ≡ meanings shape turns chosen Ps rs ls
    all_same no_rules rs ls h = refl
    all_same (rule_then P Ps) rs ls h = λ i. (λ A e p. same_for_all P rs ls A p h.0 i) ∷ all_same Ps rs ls h.1 i
