-- Free. Which choices resolved rules make in each situation, by those that their parts make.
--     parts_left, each_left, order_left, turns_left     what is left of parts, of elements, of a
--                                                       sequence and of turns
--     part_within, parts_within, each_within            what a part makes the whole makes
--     *_steps                                           a sequence and turns from part to part
use Rattle.std.proofs.Common.{◌≡◌, ℕ, zero, suc, ◌+◌, ◌<◌, ◌≤◌, Bool, true, false, cond, List, [], ◌∷◌, length, map, ◌++◌, drop, Option, Some, None, refl, sym, ap, subst, ◌∙◌, arith, get_or, add-one}
use Rattle.std.specs.Prelude.{slice_get, option_map}
use Rattle.std.proofs.lemmas.Option.{slice_get_read}
use Rattle.asm_state.specs.declared.value.Value.{Value}
use Rattle.asm_state.specs.Location.{State}
use Rattle.asm_state.specs.Updates.{fire}
use Rattle.asm_meaning.specs.Value.{Reading, is_true}
use Rattle.asm_meaning.specs.Yields.{Path, at}
use Rattle.asm_code.specs.code.CodeViews.{code_of, codes_of}
use Rattle.asm_code.specs.code.Readings.{always, reading, universe_at}
use Rattle.asm_code.specs.code.RuleMeaning.{Locations, result_locations, passes}
use Rattle.asm_code.specs.code.RuleTree as tree
use Rattle.asm_code.specs.code.RuleViews.{target_code_of, rule_of, rules_of}
use Rattle.asm_code.specs.declared.code.Code.{Code}
use Rattle.asm_code.specs.declared.rule_code.TargetCode.{TargetCode}
use Rattle.asm_code.specs.declared.rule_code.RuleCode.{RuleCode}
use Rattle.asm_eval.specs.code.Frames.{readings_of, result_contents, by_name}
use Rattle.asm_eval.specs.code.Evaluation.{frame_locations, passing_in, optional_target_in, location_numbered}
use Rattle.asm_eval.specs.declared.frame.Frame.{Frame}
use Rattle.asm_explore.specs.declared.exploration.Exploration.{Exploration}
use Rattle.asm_explore.specs.declared.outcomes.listed_outcome.Choice.{Choice}
use Rattle.asm_explore.specs.code.OverLimit.{IsAmong}
use Rattle.asm_explore.specs.code.ExploredRules.{exploration_shape, exploration_state, here_on, made_on, makes_on, parts_made_from, order_made_from, turns_made_from, parts_made_on, order_made_on}
use Rattle.asm_explore.specs.code.OutcomeLists.{Situation, picked}
use Rattle.asm_explore.specs.code.ChoicesMade.{made}
use Rattle.asm_explore.specs.code.ChoicesMadeSoFar.{MakesTo}
use Rattle.asm_explore.proofs.Elements.{any_first, any_last}
use Rattle.asm_explore.proofs.ChoiceLemmas.MadeRules as rules

some_at : {X : Type 0} (xs : List X) (i : ℕ) → i < length xs → (x : X) × (x ≡ get_or xs i x)
some_at [] i low = absurd (omega (arith, low))
some_at (x ∷ xs) zero low = (x, refl)
some_at (x ∷ xs) (suc i) low = some_at xs i (omega (arith, low))

value_at : (vs : List Value) (i : ℕ) → i < length vs → (v : Value) × (slice_get vs i ≡ Some v)
value_at vs i low = let one = some_at vs i low in (one.0, slice_get_read vs (length vs) i one.0 refl low one.1)

among_either : (so : Bool) (c : Choice) (cs ds : List Choice) → IsAmong c ds → IsAmong c (cond so (cs ++ ds) ds)
among_either true c cs ds h = any_last (λ d. d ≡ c) cs ds h
among_either false c cs ds h = h

module _ (on : Exploration) (f : Frame) (p : Path) where
  abbrev rs : List Reading
  rs = readings_of (exploration_shape on) f

  abbrev ls : Locations
  ls = frame_locations (exploration_shape on) f

  -- ---- of the part that is reached

  pub if_yes : (c : Code) (S N : RuleCode) → is_true (reading (exploration_shape on) (code_of c) rs (exploration_state on)) ≡ true → (s : Situation)
      → makes_on on f (at p 0) (rule_of S) s ≡ makes_on on f p (tree.If (code_of c) (rule_of S) (rule_of N)) s
  if_yes c S N holds s = rules.if_yes (exploration_shape on) on.turns (picked s) rs ls (exploration_state on) p c S N holds

  pub if_no : (c : Code) (S N : RuleCode) → is_true (reading (exploration_shape on) (code_of c) rs (exploration_state on)) ≡ false → (s : Situation)
      → makes_on on f (at p 1) (rule_of N) s ≡ makes_on on f p (tree.If (code_of c) (rule_of S) (rule_of N)) s
  if_no c S N fails s = rules.if_no (exploration_shape on) on.turns (picked s) rs ls (exploration_state on) p c S N fails

  abbrev pub value_makes : RuleCode → Value → ℕ → Situation → List Choice
  value_makes R v k s = made (exploration_shape on) on.turns (picked s) (rule_of R) (always v ∷ rs) (None ∷ ls) (exploration_state on) (at p k)

  pub let_makes : (t : Code) (S : RuleCode) (v : Value) → v ≡ reading (exploration_shape on) (code_of t) rs (exploration_state on) → (s : Situation)
      → value_makes S v 0 s ≡ makes_on on f p (tree.Let (code_of t) (rule_of S)) s
  let_makes t S v valued s = rules.let_makes (exploration_shape on) on.turns (picked s) rs ls (exploration_state on) p t S v valued

  pub call_makes : (S : RuleCode) (to : Option TargetCode) (us : List Code) (n : Option ℕ) → location_numbered (exploration_shape on) n ≡ optional_target_in on.view.now f (option_map target_code_of to) → (s : Situation)
      → made (exploration_shape on) on.turns (picked s) (rule_of S) (result_contents (exploration_shape on) n ++ by_name (exploration_shape on) rs us) (result_locations (location_numbered (exploration_shape on) n)) (exploration_state on) (at p 0)
      ≡ makes_on on f p (tree.Call (rule_of S) (option_map target_code_of to) (codes_of (map code_of us))) s
  call_makes S to us n there s = rules.call_makes (exploration_shape on) on.turns (picked s) rs ls (exploration_state on) p S to us n there

  module _ (u : ℕ) (c : Option Code) (R N : RuleCode) where
    abbrev pub choose_makes : Situation → List Choice
    choose_makes = makes_on on f p (tree.Choose u (option_map code_of c) (rule_of R) (rule_of N))

    pub taken_makes : (vs : List Value) → vs ≡ passing_in on.view.now f u c → (k : ℕ) (v : Value) → slice_get vs k ≡ Some v → (s : Situation) → picked s p ≡ k
        → record { path = p; number = k } ∷ value_makes R v 0 s ≡ choose_makes s
    taken_makes vs all k v there s chosen =
        rules.choose_some (exploration_shape on) on.turns (picked s) rs ls (exploration_state on) p u c R N k v chosen (ap (λ ws. slice_get ws k) (sym all) ∙ there)

    pub none_makes : (vs : List Value) → vs ≡ passing_in on.view.now f u c → vs ≡ [] → (s : Situation) → makes_on on f (at p 1) (rule_of N) s ≡ choose_makes s
    none_makes vs all empty s = rules.choose_none (exploration_shape on) on.turns (picked s) rs ls (exploration_state on) p u c R N (sym empty ∙ all)

  -- ---- parts

  abbrev pub parts_left : List RuleCode → ℕ → Situation → List Choice
  parts_left Rs k s = parts_made_from on f p k (rules_of (map rule_of (drop k Rs))) s

  pub par_makes : (Rs : List RuleCode) (s : Situation) → parts_made_on on f p (rules_of (map rule_of Rs)) s ≡ makes_on on f p (tree.Par (rules_of (map rule_of Rs))) s
  par_makes Rs s = rules.par_makes (exploration_shape on) on.turns (picked s) rs ls (exploration_state on) p Rs

  pub parts_next : (Rs : List RuleCode) (i : ℕ) (R : RuleCode) → i < length Rs → R ≡ get_or Rs i R → (s : Situation)
      → makes_on on f (at p i) (rule_of R) s ++ parts_left Rs (i + 1) s ≡ parts_left Rs i s
  parts_next Rs i R low is s = rules.parts_next (exploration_shape on) on.turns (picked s) rs ls (exploration_state on) p Rs i R low is

  -- those of a part are those of the whole
  later_within : (Rs : List RuleCode) (i : ℕ) → i ≤ length Rs → (s : Situation) (c : Choice) → IsAmong c (parts_left Rs i s) → IsAmong c (parts_left Rs 0 s)
  later_within Rs zero low s c h = h
  later_within Rs (suc i) low s c h =
      let one = some_at Rs i (omega (arith, low)) in
      later_within Rs i (omega (arith, low)) s c
      (subst (IsAmong c) (ap (λ k. makes_on on f (at p i) (rule_of one.0) s ++ parts_left Rs k s) (sym (add-one i)) ∙ parts_next Rs i one.0 (omega (arith, low)) one.1 s)
      (any_last (λ d. d ≡ c) (makes_on on f (at p i) (rule_of one.0) s) (parts_left Rs (suc i) s) h))

  pub part_within : (Rs : List RuleCode) (i : ℕ) (R : RuleCode) → i < length Rs → R ≡ get_or Rs i R → (s : Situation) (c : Choice)
      → IsAmong c (makes_on on f (at p i) (rule_of R) s) → IsAmong c (parts_made_on on f p (rules_of (map rule_of Rs)) s)
  part_within Rs i R low is s c h =
      later_within Rs i (omega (arith, low)) s c (subst (IsAmong c) (parts_next Rs i R low is s) (any_first (λ d. d ≡ c) (makes_on on f (at p i) (rule_of R) s) (parts_left Rs (i + 1) s) h))

  pub parts_within : (Rs : List RuleCode) (i : ℕ) → i ≤ length Rs → (s : Situation) (c : Choice) → IsAmong c (parts_left Rs i s) → IsAmong c (parts_made_on on f p (rules_of (map rule_of Rs)) s)
  parts_within = later_within

  -- ---- elements

  module _ (u : ℕ) (c : Option Code) (R : RuleCode) where
    abbrev pub each_left : (to : ℕ) → List Value → ℕ → Situation → List Choice
    each_left to vs k s = rules.span_makes (exploration_shape on) on.turns (picked s) rs ls (exploration_state on) p u (option_map code_of c) (rule_of R) to vs k

    pub elements_next : (to : ℕ) (vs : List Value) (i : ℕ) (v : Value) → i < to → slice_get vs i ≡ Some v → (s : Situation) (so : Bool)
        → so ≡ passes (exploration_shape on) (option_map code_of c) (always v ∷ rs) (exploration_state on)
        → cond so (value_makes R v i s ++ each_left to vs (i + 1) s) (each_left to vs (i + 1) s) ≡ each_left to vs i s
    elements_next to vs i v low there s so test =
        rules.elements_next (exploration_shape on) on.turns (picked s) rs ls (exploration_state on) p u (option_map code_of c) (rule_of R) to vs i v so low there test

    pub forall_makes : (to : ℕ) → to ≡ length (universe_at (exploration_shape on) u) → (s : Situation)
        → each_left to (universe_at (exploration_shape on) u) 0 s ≡ makes_on on f p (tree.Forall u (option_map code_of c) (rule_of R)) s
    forall_makes to all s = rules.forall_makes (exploration_shape on) on.turns (picked s) rs ls (exploration_state on) p u c R to all

    elements_within : (vs : List Value) (i : ℕ) → i ≤ length vs → (s : Situation) (c : Choice) → IsAmong c (each_left (length vs) vs i s) → IsAmong c (each_left (length vs) vs 0 s)
    elements_within vs zero low s c' h = h
    elements_within vs (suc i) low s c' h =
        let one = value_at vs i (omega (arith, low)) in
        let so = passes (exploration_shape on) (option_map code_of c) (always one.0 ∷ rs) (exploration_state on) in
        elements_within vs i (omega (arith, low)) s c'
        (subst (IsAmong c') (ap (λ k. cond so (value_makes R one.0 i s ++ each_left (length vs) vs k s) (each_left (length vs) vs k s)) (sym (add-one i))
        ∙ elements_next (length vs) vs i one.0 (omega (arith, low)) one.1 s so refl)
        (among_either so c' (value_makes R one.0 i s) (each_left (length vs) vs (suc i) s) h))

    -- those of an element, and of those after it, are those of the whole
    pub each_within : (vs : List Value) (i : ℕ) → i ≤ length vs → universe_at (exploration_shape on) u ≡ vs → (s : Situation) (c' : Choice) → IsAmong c' (each_left (length vs) vs i s)
        → IsAmong c' (makes_on on f p (tree.Forall u (option_map code_of c) (rule_of R)) s)
    each_within vs i low all s c' h =
        subst (IsAmong c') (ap (λ ws. each_left (length vs) ws 0 s) (sym all) ∙ forall_makes (length vs) (ap length (sym all)) s) (elements_within vs i low s c' h)

  -- ---- one after the other

  abbrev pub order_left : List RuleCode → ℕ → Situation → State → List Choice
  order_left Rs i s A = order_made_from on f p i (rules_of (map rule_of (drop i Rs))) s A

  pub seq_makes : (Rs : List RuleCode) (s : Situation) → order_made_on on f p (rules_of (map rule_of Rs)) s ≡ makes_on on f p (tree.Seq (rules_of (map rule_of Rs))) s
  seq_makes Rs s = rules.seq_makes (exploration_shape on) on.turns (picked s) rs ls (exploration_state on) p Rs

  pub order_steps : (Rs : List RuleCode) (i : ℕ) (R : RuleCode) → i < length Rs → R ≡ get_or Rs i R
      → MakesTo false (here_on on f (at p i) (rule_of R)) (made_on on f (at p i) (rule_of R)) (order_left Rs i) (order_left Rs (i + 1))
  order_steps Rs i R low is s B =
      rules.order_next (exploration_shape on) on.turns (picked s) rs ls (exploration_state on) p Rs i R B low is
      ∙ ap (λ cs. made_on on f (at p i) (rule_of R) s B ++ cs) (rules.part_after (here_on on f (at p i) (rule_of R) s B) (λ V. order_left Rs (i + 1) s (fire B V)))

  abbrev pub turns_left : tree.RuleCode → ℕ → ℕ → Situation → State → List Choice
  turns_left R left t s A = turns_made_from on f p left t R s A

  pub iterate_makes : (R : tree.RuleCode) (s : Situation) → turns_left R on.turns 0 s (exploration_state on) ≡ makes_on on f p (tree.Iterate R) s
  iterate_makes R s = rules.iterate_makes (exploration_shape on) on.turns (picked s) rs ls (exploration_state on) p R

  pub turn_steps : (R : tree.RuleCode) (left t : ℕ) → MakesTo true (here_on on f (at p t) R) (made_on on f (at p t) R) (turns_left R (suc left) t) (turns_left R left (t + 1))
  turn_steps R left t s B =
      rules.turns_next (exploration_shape on) on.turns (picked s) rs ls (exploration_state on) p R left t B
      ∙ ap (λ cs. made_on on f (at p t) R s B ++ cs) (rules.turn_after (here_on on f (at p t) R s B) (λ V. turns_left R left (t + 1) s (fire B V)))
