-- Free. The story of a resolved rule yields what the rule does.
use Rattle.std.proofs.Common.{◌≡◌, ℕ, ◌++◌, Bool, true, false, cond, List, ◌∷◌, map, None, refl, ap, ◌∙◌}
use Rattle.asm_state.specs.declared.value.Value.{Value}
use Rattle.asm_state.specs.Location.{State}
use Rattle.asm_state.specs.Signature.{Shape}
use Rattle.asm_meaning.specs.Does.{parts, in_order, each, one_of, turns_of}
use Rattle.asm_meaning.specs.Program.{nothing_bound}
use Rattle.asm_meaning.specs.Story.{Story, outcome_of}
use Rattle.asm_meaning.specs.StoryLaws.{yields}
use Rattle.asm_meaning.specs.Value.{Reading, is_true}
use Rattle.asm_meaning.specs.Yields.{Path, at}
use Rattle.asm_meaning.proofs.Stories.{story_laws}
use Rattle.asm_code.specs.code.BoundValues.{arguments_of, bound_of, optional_arguments}
use Rattle.asm_code.specs.code.Readings.{always, reading, universe_at}
use Rattle.asm_code.specs.code.RuleMeaning.{Locations, meaning, meanings, passes, passing, target_location, named_readings, optional_target_location, result_readings, result_locations}
use Rattle.asm_code.specs.code.RuleStories.{telling, tellings, AreCodeOutcomes}
use Rattle.asm_code.specs.code.RuleTree.{RuleCode, Skip, Assign, Par, Seq, If, Let, Forall, Choose, Iterate, Call, RuleCodes, no_rules, rule_then}

if_yields : (b : Bool) (s t : Story) → outcome_of (cond b s t) ≡ cond b (outcome_of s) (outcome_of t)
if_yields true s t = refl
if_yields false s t = refl

module _ (shape : Shape) (turns : ℕ) (chosen : Path → ℕ) where
  mutual
    unfolding meaning telling

    code_yields : (P : RuleCode) (rs : List Reading) (ls : Locations) (gs : List Value) (A : State) (p : Path) → outcome_of (telling shape turns chosen P rs ls gs A p) ≡ meaning shape turns chosen P rs ls A p
    code_yields Skip rs ls gs A p = refl
    code_yields (Assign to t) rs ls gs A p = story_laws.of_target p (target_location shape to rs ls A) (reading shape t rs A) (arguments_of shape to rs gs A) (bound_of rs ls A)
    code_yields (Par Ps) rs ls gs A p = story_laws.of_parts (tellings shape turns chosen Ps rs ls gs) 0 A nothing_bound p ∙ ap (λ ms. parts ms 0 A nothing_bound p) (codes_yield Ps rs ls gs)
    code_yields (Seq Ps) rs ls gs A p = story_laws.of_order (tellings shape turns chosen Ps rs ls gs) 0 A nothing_bound p ∙ ap (λ ms. in_order ms 0 A nothing_bound p) (codes_yield Ps rs ls gs)
    code_yields (If c P Q) rs ls gs A p =
        if_yields (is_true (reading shape c rs A)) (telling shape turns chosen P rs ls gs A (at p 0)) (telling shape turns chosen Q rs ls gs A (at p 1))
        ∙ (λ i. cond (is_true (reading shape c rs A)) (code_yields P rs ls gs A (at p 0) i) (code_yields Q rs ls gs A (at p 1) i))
    code_yields (Let t P) rs ls gs A p = code_yields P (always (reading shape t rs A) ∷ rs) (None ∷ ls) gs A (at p 0)
    code_yields (Forall u c P) rs ls gs A p =
        story_laws.of_each (λ v k. telling shape turns chosen P (always v ∷ rs) (None ∷ ls) gs A (at p k)) (λ v. passes shape c (always v ∷ rs) A) 0 (universe_at shape u)
        ∙ (λ i. each (λ v k. code_yields P (always v ∷ rs) (None ∷ ls) gs A (at p k) i) (λ v. passes shape c (always v ∷ rs) A) 0 (universe_at shape u))
    code_yields (Choose u c P Q) rs ls gs A p =
        story_laws.of_one p (chosen p) (passing shape u c rs A) (λ v. telling shape turns chosen P (always v ∷ rs) (None ∷ ls) gs A (at p 0)) (telling shape turns chosen Q rs ls gs A (at p 1))
        ∙ (λ i. one_of (chosen p) (passing shape u c rs A) (λ v. code_yields P (always v ∷ rs) (None ∷ ls) gs A (at p 0) i) (code_yields Q rs ls gs A (at p 1) i))
    code_yields (Iterate P) rs ls gs A p =
        story_laws.of_turns (λ A e p. telling shape turns chosen P rs ls gs A p) turns 0 A nothing_bound p
        ∙ (λ i. turns_of (λ A e p. code_yields P rs ls gs A p i) turns 0 A nothing_bound p)
    code_yields (Call P to ts) rs ls gs A p =
        let l = optional_target_location shape to rs ls A in
        code_yields P (result_readings l ++ named_readings shape ts rs) (result_locations l) (optional_arguments shape to rs gs A) A (at p 0)

    codes_yield : (Ps : RuleCodes) (rs : List Reading) (ls : Locations) (gs : List Value) → map yields (tellings shape turns chosen Ps rs ls gs) ≡ meanings shape turns chosen Ps rs ls
    codes_yield no_rules rs ls gs = refl
    codes_yield (rule_then P Ps) rs ls gs = λ i. (λ A e p. code_yields P rs ls gs A p i) ∷ codes_yield Ps rs ls gs i

pub code_outcomes : AreCodeOutcomes
code_outcomes = code_yields
