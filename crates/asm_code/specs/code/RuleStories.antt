-- Bridge to the code. What happens in a resolved rule, told as a story.
--     telling shape turns chosen P rs ls gs A p      the story of P, where `meaning` is its outcome;
--                             `result` stands for a location with the arguments gs
--     tellings                the same of rules, as functions of the state and the path
--     AreCodeOutcomes         the story of a resolved rule yields what the rule does
use Rattle.std.specs.Prelude.{◌≡◌, ℕ, ◌++◌, cond, List, [], ◌∷◌, None}
use Rattle.asm_state.specs.declared.value.Value.{Value}
use Rattle.asm_state.specs.Location.{State}
use Rattle.asm_state.specs.Signature.{Shape}
use Rattle.asm_meaning.specs.Program.{nothing_bound}
use Rattle.asm_meaning.specs.Story.{Story, Silent, Telling, outcome_of, target_tells, parts_tell, order_tells, each_tells, one_tells, turns_tell}
use Rattle.asm_meaning.specs.Value.{Reading, is_true}
use Rattle.asm_meaning.specs.Yields.{Path, at}
use Rattle.asm_code.specs.code.BoundValues.{arguments_of, bound_of, optional_arguments}
use Rattle.asm_code.specs.code.Readings.{always, reading, universe_at}
use Rattle.asm_code.specs.code.RuleMeaning.{Locations, meaning, passes, passing, target_location, named_readings, optional_target_location, result_readings, result_locations}
use Rattle.asm_code.specs.code.RuleTree.{RuleCode, Skip, Assign, Par, Seq, If, Let, Forall, Choose, Iterate, Call, RuleCodes, no_rules, rule_then}

module _ (shape : Shape) (turns : ℕ) (chosen : Path → ℕ) where
  unfoldable mutual
    pub telling : RuleCode → List Reading → Locations → (given : List Value) → State → Path → Story
    telling Skip rs ls gs A p = Silent
    telling (Assign to t) rs ls gs A p = target_tells p (target_location shape to rs ls A) (reading shape t rs A) (arguments_of shape to rs gs A) (bound_of rs ls A)
    telling (Par Ps) rs ls gs A p = parts_tell (tellings Ps rs ls gs) 0 A nothing_bound p
    telling (Seq Ps) rs ls gs A p = order_tells (tellings Ps rs ls gs) 0 A nothing_bound p
    telling (If c P Q) rs ls gs A p = cond (is_true (reading shape c rs A)) (telling P rs ls gs A (at p 0)) (telling Q rs ls gs A (at p 1))
    telling (Let t P) rs ls gs A p = telling P (always (reading shape t rs A) ∷ rs) (None ∷ ls) gs A (at p 0)
    telling (Forall u c P) rs ls gs A p =
        each_tells (λ v k. telling P (always v ∷ rs) (None ∷ ls) gs A (at p k)) (λ v. passes shape c (always v ∷ rs) A) 0 (universe_at shape u)
    telling (Choose u c P Q) rs ls gs A p =
        one_tells p (chosen p) (passing shape u c rs A) (λ v. telling P (always v ∷ rs) (None ∷ ls) gs A (at p 0)) (telling Q rs ls gs A (at p 1))
    telling (Iterate P) rs ls gs A p = turns_tell (λ A e p. telling P rs ls gs A p) turns 0 A nothing_bound p
    telling (Call P to ts) rs ls gs A p =
        telling P (result_readings (optional_target_location shape to rs ls A) ++ named_readings shape ts rs) (result_locations (optional_target_location shape to rs ls A)) (optional_arguments shape to rs gs A) A (at p 0)

    pub tellings : RuleCodes → List Reading → Locations → (given : List Value) → List Telling
    tellings no_rules rs ls gs = []
    tellings (rule_then P Ps) rs ls gs = (λ A e p. telling P rs ls gs A p) ∷ tellings Ps rs ls gs

abbrev pub AreCodeOutcomes : Type 0
AreCodeOutcomes = (shape : Shape) (turns : ℕ) (chosen : Path → ℕ) (P : RuleCode) (rs : List Reading) (ls : Locations) (gs : List Value) (A : State) (p : Path)
    → outcome_of (telling shape turns chosen P rs ls gs A p) ≡ meaning shape turns chosen P rs ls A p
