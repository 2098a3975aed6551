-- Free. What is asked in a sequence and in turns, by what is asked in the first of them.
--     target_asks         an assignment asks nothing
--     order_first         of rules in order
--     turns_first         of turns
use Rattle.std.proofs.Common.{◌++◌, ◌≡◌, ◌∙◌, ℕ, suc, Bool, true, false, cond, not, ◌||◌, List, [], Option, Some, None, refl, sym, ap, append-nil}
use Rattle.asm_state.specs.declared.value.Value.{Value}
use Rattle.asm_state.specs.Location.{Location, State}
use Rattle.asm_state.specs.Signature.{Shape}
use Rattle.asm_state.specs.Updates.{UpdateSet, is_consistent, is_none, fire}
use Rattle.asm_meaning.specs.Does.{Outcome}
use Rattle.asm_meaning.specs.Program.{nothing_bound}
use Rattle.asm_meaning.specs.Story.{Story, Then, outcome_of, target_tells, part_then, turn_then, order_tells, turns_tell}
use Rattle.asm_meaning.specs.Value.{Reading}
use Rattle.asm_meaning.specs.Yields.{Path, Result, Gives, Exhausted, at}
use Rattle.asm_code.specs.code.RuleMeaning.{Locations, meaning}
use Rattle.asm_code.specs.code.RuleStories.{telling, tellings}
use Rattle.asm_code.specs.code.RuleTree.{RuleCode, RuleCodes, rule_then}
use Rattle.asm_code.proofs.RuleStories.{code_outcomes}
use Rattle.asm_explore.specs.ChoicePoints.{Asking, asked, after_set}
use Rattle.asm_explore.specs.code.AskedRules.{after_turn_set}

pub target_asks : (p : Path) (l : Option Location) (v : Value) (ws bs : List Value) → asked (target_tells p l v ws bs) ≡ []
target_asks p None v ws bs = refl
target_asks p (Some l) v ws bs = refl

module _ (s : Story) (rest : UpdateSet → Story) where
  goes_on : (U : UpdateSet) (b : Bool) → asked (cond b (Then s (rest U)) s) ≡ asked s ++ cond b (asked (rest U)) []
  goes_on U true = refl
  goes_on U false = sym (append-nil (asked s))

  ends : (U : UpdateSet) (b : Bool) → asked (cond b s (Then s (rest U))) ≡ asked s ++ cond b [] (asked (rest U))
  ends U true = sym (append-nil (asked s))
  ends U false = refl

  pub part_asks : (r : Result) → asked (part_then r s rest) ≡ asked s ++ after_set r (λ U. asked (rest U))
  part_asks (Exhausted q) = sym (append-nil (asked s))
  part_asks (Gives U) = goes_on U (is_consistent U)

  pub turn_asks : (r : Result) → asked (turn_then r s rest) ≡ asked s ++ after_turn_set r (λ U. asked (rest U))
  turn_asks (Exhausted q) = sym (append-nil (asked s))
  turn_asks (Gives U) = ends U (is_none U || not (is_consistent U))

-- of rules in order, and of turns, with the arguments gs
module _ (shape : Shape) (turns : ℕ) (chosen : Path → ℕ) (P : RuleCode) (rs : List Reading) (ls : Locations) (gs : List Value) where
  abbrev asks_with : State → Path → List Asking
  asks_with A p = asked (telling shape turns chosen P rs ls gs A p)

  abbrev order_with : RuleCodes → ℕ → State → Path → List Asking
  order_with Ps k A p = asked (order_tells (tellings shape turns chosen Ps rs ls gs) k A nothing_bound p)

  abbrev turns_with : (left t : ℕ) → State → Path → List Asking
  turns_with left t A p = asked (turns_tell (λ A e p. telling shape turns chosen P rs ls gs A p) left t A nothing_bound p)

  pub same_result : (A : State) (p : Path) → (outcome_of (telling shape turns chosen P rs ls gs A p)).result ≡ (meaning shape turns chosen P rs ls A p).result
  same_result A p = ap (λ (o : Outcome). o.result) (code_outcomes shape turns chosen P rs ls gs A p)

  pub order_first : (Ps : RuleCodes) (k : ℕ) (A : State) (p : Path)
      → order_with (rule_then P Ps) k A p ≡ asks_with A (at p k) ++ after_set (meaning shape turns chosen P rs ls A (at p k)).result (λ U. order_with Ps (suc k) (fire A U) p)
  unfolding telling
  order_first Ps k A p =
      let s : Story = telling shape turns chosen P rs ls gs A (at p k) in
      part_asks s (λ U. order_tells (tellings shape turns chosen Ps rs ls gs) (suc k) (fire A U) nothing_bound p) (outcome_of s).result
      ∙ ap (λ r. asked s ++ after_set r (λ U. order_with Ps (suc k) (fire A U) p)) (same_result A (at p k))

  pub turns_first : (left t : ℕ) (A : State) (p : Path)
      → turns_with (suc left) t A p ≡ asks_with A (at p t) ++ after_turn_set (meaning shape turns chosen P rs ls A (at p t)).result (λ U. turns_with left (suc t) (fire A U) p)
  turns_first left t A p =
      let s : Story = telling shape turns chosen P rs ls gs A (at p t) in
      turn_asks s (λ U. turns_tell (λ A e p. telling shape turns chosen P rs ls gs A p) left (suc t) (fire A U) nothing_bound p) (outcome_of s).result
      ∙ ap (λ r. asked s ++ after_turn_set r (λ U. turns_with left (suc t) (fire A U) p)) (same_result A (at p t))
