-- Free. What is asked doesn't depend on the arguments with which `result` stands for a location.
--     asked_given     of a rule
use Rattle.std.proofs.Common.{◌++◌, ◌≡◌, ◌∙◌, ◌%◌, ℕ, zero, suc, Bool, true, false, cond, List, [], ◌∷◌, length, None, refl, sym, ap}
use Rattle.std.specs.Prelude.{slice_index_or}
use Rattle.asm_state.specs.declared.value.Value.{Value}
use Rattle.asm_state.specs.Location.{State}
use Rattle.asm_state.specs.Signature.{Shape}
use Rattle.asm_state.specs.Updates.{fire}
use Rattle.asm_meaning.specs.Program.{nothing_bound}
use Rattle.asm_meaning.specs.Story.{Story, Instance, Beside, parts_tell, order_tells, each_tells, one_tells, turns_tell}
use Rattle.asm_meaning.specs.Value.{Reading, is_true}
use Rattle.asm_meaning.specs.Yields.{Path, at}
use Rattle.asm_code.specs.code.BoundValues.{arguments_of, bound_of, optional_arguments}
use Rattle.asm_code.specs.code.Readings.{always, reading, universe_at}
use Rattle.asm_code.specs.code.RuleMeaning.{Locations, meaning, passes, passing, target_location, named_readings, optional_target_location, result_readings, result_locations}
use Rattle.asm_code.specs.code.RuleStories.{telling, tellings}
use Rattle.asm_code.specs.code.RuleTree.{RuleCode, Skip, Assign, Par, Seq, If, Let, Forall, Choose, Iterate, Call, RuleCodes, no_rules, rule_then}
use Rattle.asm_explore.specs.ChoicePoints.{Asking, asked, after_set}
use Rattle.asm_explore.specs.code.AskedRules.{after_turn_set}
use Rattle.asm_explore.proofs.ChoiceLemmas.AskedParts.{target_asks, order_first, turns_first}

-- stories of which the same is asked
either_alike : (b : Bool) (s t u v : Story) → asked s ≡ asked t → asked u ≡ asked v → asked (cond b s u) ≡ asked (cond b t v)
either_alike true s t u v first other = first
either_alike false s t u v first other = other

each_alike : (m n : Value → ℕ → Story) (test : Value → Bool) → ((v : Value) (k : ℕ) → asked (m v k) ≡ asked (n v k))
    → (k : ℕ) (vs : List Value) → asked (each_tells m test k vs) ≡ asked (each_tells n test k vs)
each_alike m n test alike k [] = refl
each_alike m n test alike k (v ∷ vs) =
    let more = each_alike m n test alike (suc k) vs in
    either_alike (test v) (Beside (Instance (m v k)) (each_tells m test (suc k) vs)) (Beside (Instance (n v k)) (each_tells n test (suc k) vs))
    (each_tells m test (suc k) vs) (each_tells n test (suc k) vs) (λ i. alike v k i ++ more i) more

one_alike : (p : Path) (number : ℕ) (vs : List Value) (m n : Value → Story) (s t : Story) → ((v : Value) → asked (m v) ≡ asked (n v)) → asked s ≡ asked t
    → asked (one_tells p number vs m s) ≡ asked (one_tells p number vs n t)
one_alike p number [] m n s t alike other = other
one_alike p number (v ∷ vs) m n s t alike other =
    let k = number % length (v ∷ vs) in
    ap (λ (more : List Asking). record { choice = record { path = p; number = k }; candidates = v ∷ vs } ∷ more) (alike (slice_index_or (v ∷ vs) k v))

module _ (shape : Shape) (turns : ℕ) (chosen : Path → ℕ) where
  turns_alike : (P : RuleCode) (rs : List Reading) (ls : Locations) (gs hs : List Value)
      → ((A : State) (p : Path) → asked (telling shape turns chosen P rs ls gs A p) ≡ asked (telling shape turns chosen P rs ls hs A p)) → (left t : ℕ) (A : State) (p : Path)
      → asked (turns_tell (λ A e p. telling shape turns chosen P rs ls gs A p) left t A nothing_bound p) ≡ asked (turns_tell (λ A e p. telling shape turns chosen P rs ls hs A p) left t A nothing_bound p)
  turns_alike P rs ls gs hs alike zero t A p = refl
  turns_alike P rs ls gs hs alike (suc left) t A p =
      turns_first shape turns chosen P rs ls gs left t A p
      ∙ (λ i. alike A (at p t) i ++ after_turn_set (meaning shape turns chosen P rs ls A (at p t)).result (λ U. turns_alike P rs ls gs hs alike left (suc t) (fire A U) p i))
      ∙ sym (turns_first shape turns chosen P rs ls hs left t A p)

  mutual
    unfolding telling

    pub asked_given : (P : RuleCode) (rs : List Reading) (ls : Locations) (gs hs : List Value) (A : State) (p : Path)
        → asked (telling shape turns chosen P rs ls gs A p) ≡ asked (telling shape turns chosen P rs ls hs A p)
    asked_given Skip rs ls gs hs A p = refl
    asked_given (Assign to t) rs ls gs hs A p =
        target_asks p (target_location shape to rs ls A) (reading shape t rs A) (arguments_of shape to rs gs A) (bound_of rs ls A)
        ∙ sym (target_asks p (target_location shape to rs ls A) (reading shape t rs A) (arguments_of shape to rs hs A) (bound_of rs ls A))
    asked_given (Par Ps) rs ls gs hs A p = parts_given Ps rs ls gs hs 0 A p
    asked_given (Seq Ps) rs ls gs hs A p = order_given Ps rs ls gs hs 0 A p
    asked_given (If c P Q) rs ls gs hs A p =
        either_alike (is_true (reading shape c rs A)) (telling shape turns chosen P rs ls gs A (at p 0)) (telling shape turns chosen P rs ls hs A (at p 0))
        (telling shape turns chosen Q rs ls gs A (at p 1)) (telling shape turns chosen Q rs ls hs A (at p 1)) (asked_given P rs ls gs hs A (at p 0)) (asked_given Q rs ls gs hs A (at p 1))
    asked_given (Let t P) rs ls gs hs A p = asked_given P (always (reading shape t rs A) ∷ rs) (None ∷ ls) gs hs A (at p 0)
    asked_given (Forall u c P) rs ls gs hs A p =
        each_alike (λ v k. telling shape turns chosen P (always v ∷ rs) (None ∷ ls) gs A (at p k)) (λ v k. telling shape turns chosen P (always v ∷ rs) (None ∷ ls) hs A (at p k))
        (λ v. passes shape c (always v ∷ rs) A) (λ v k. asked_given P (always v ∷ rs) (None ∷ ls) gs hs A (at p k)) 0 (universe_at shape u)
    asked_given (Choose u c P Q) rs ls gs hs A p =
        one_alike p (chosen p) (passing shape u c rs A)
        (λ v. telling shape turns chosen P (always v ∷ rs) (None ∷ ls) gs A (at p 0)) (λ v. telling shape turns chosen P (always v ∷ rs) (None ∷ ls) hs A (at p 0))
        (telling shape turns chosen Q rs ls gs A (at p 1)) (telling shape turns chosen Q rs ls hs A (at p 1))
        (λ v. asked_given P (always v ∷ rs) (None ∷ ls) gs hs A (at p 0)) (asked_given Q rs ls gs hs A (at p 1))
    asked_given (Iterate P) rs ls gs hs A p = turns_alike P rs ls gs hs (λ B q. asked_given P rs ls gs hs B q) turns 0 A p
    asked_given (Call P to ts) rs ls gs hs A p =
        let l = optional_target_location shape to rs ls A in
        asked_given P (result_readings l ++ named_readings shape ts rs) (result_locations l) (optional_arguments shape to rs gs A) (optional_arguments shape to rs hs A) A (at p 0)

    parts_given : (Ps : RuleCodes) (rs : List Reading) (ls : Locations) (gs hs : List Value) (k : ℕ) (A : State) (p : Path)
        → asked (parts_tell (tellings shape turns chosen Ps rs ls gs) k A nothing_bound p) ≡ asked (parts_tell (tellings shape turns chosen Ps rs ls hs) k A nothing_bound p)
    parts_given no_rules rs ls gs hs k A p = refl
    parts_given (rule_then P Ps) rs ls gs hs k A p = λ i. asked_given P rs ls gs hs A (at p k) i ++ parts_given Ps rs ls gs hs (suc k) A p i

    order_given : (Ps : RuleCodes) (rs : List Reading) (ls : Locations) (gs hs : List Value) (k : ℕ) (A : State) (p : Path)
        → asked (order_tells (tellings shape turns chosen Ps rs ls gs) k A nothing_bound p) ≡ asked (order_tells (tellings shape turns chosen Ps rs ls hs) k A nothing_bound p)
    order_given no_rules rs ls gs hs k A p = refl
    order_given (rule_then P Ps) rs ls gs hs k A p =
        order_first shape turns chosen P rs ls gs Ps k A p
        ∙ (λ i. asked_given P rs ls gs hs A (at p k) i ++ after_set (meaning shape turns chosen P rs ls A (at p k)).result (λ U. order_given Ps rs ls gs hs (suc k) (fire A U) p i))
        ∙ sym (order_first shape turns chosen P rs ls hs Ps k A p)
