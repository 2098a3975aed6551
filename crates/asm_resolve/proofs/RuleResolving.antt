-- Free. Codes of each form of rule, and what positions stand for in the body of a rule that is
-- called.
use Rattle.std.proofs.Common.{Box, Vec, Global, ◌≡◌, ◌≤◌, ℕ, zero, suc, ◌+◌, ◌<◌, false, cond, List, [], ◌∷◌, ◌++◌, length, get_or, map, take, Option, Some, None, refl, sym, ap, subst, ◌∙◌, arith}
use Rattle.std.specs.Prelude.{is_some, slice_index_or}
use Rattle.std.proofs.lemmas.List.{take_more}
use Rattle.asm_state.specs.Location.{Location, State}
use Rattle.asm_state.specs.declared.value.Value.{Value}
use Rattle.asm_state.specs.declared.value.Value.TheVariants.{Truth}
use Rattle.asm_state.specs.Signature.{Shape, domain_of}
use Rattle.asm_state.specs.Tables.{location_in}
use Rattle.asm_state.specs.Updates.{fire}
use Rattle.std.specs.List.{filter}
use Rattle.asm_check.specs.Numbers.{named}
use Rattle.asm_syntax.specs.SourceTree.{Spec}
use Rattle.asm_syntax.specs.PlainTree.{plain_rule, plain_rules}
use Rattle.asm_syntax.specs.Tree as tree
use Rattle.asm_syntax.specs.Tree.{Name, Term, Terms, Rule, Rules, no_terms, term_then}
use Rattle.asm_syntax.specs.code.Views as syntax
use Rattle.asm_syntax.specs.SourceTree as source
use Rattle.asm_syntax.specs.declared.term.Term.{Term as TermHere}
use Rattle.asm_syntax.specs.declared.rule.Rule.TheOpen as open_rule
use Rattle.asm_syntax.specs.declared.rule.Rule.TheVariants as rule
use Rattle.asm_syntax.specs.declared.rule.Rule.TheFolds.{fold-roll-Rule}
use Rattle.asm_syntax.specs.declared.rule.Rule.{Rule as RuleHere}
use Rattle.asm_check.specs.Faults.{IsWellFormed}
use Rattle.asm_check.specs.Ranks.{rule_rank}
use Rattle.asm_check.specs.Shapes.{shape_of}
use Rattle.asm_reader.specs.ScriptLines.{Script, pick}
use Rattle.asm_meaning.specs.Declarations.{program_of, rule_number, universe_number}
use Rattle.asm_meaning.specs.Program.{Program, Declared, Controlled, NamedRule, declared, is_name, Environment, nothing_bound, with_value, with_term, bind_terms, Binding, ToValue, ToTerm, ToLocation, bound_to, located}
use Rattle.asm_meaning.specs.code.MeantTrees.{meant, meant_branch, meant_rules, meant_target, meant_term, meant_terms}
use Rattle.asm_meaning.specs.code.TermValues.{condition}
use Rattle.asm_syntax.specs.code.ViewCases.{rule_of-Skip, rule_of-Assign, rule_of-Call, rule_of-Par, rule_of-Seq, rule_of-Let, rule_of-Forall, rule_of-Iterate, rule_of-While, rule_of-SetResult}
use Rattle.asm_syntax.specs.declared.rule.Target.{Target}
use Rattle.asm_syntax.specs.declared.name.Name.{Name as NameHere}
use Rattle.asm_meaning.specs.Story.{Story, Telling, Beside, outcome_of, target_tells, part_then, turn_then, parts_tell, order_tells, each_tells, one_tells, turns_tell}
use Rattle.asm_meaning.specs.StoryLaws.{ToldCases, told, all_told}
use Rattle.asm_meaning.specs.Targets.{location, bound_location, location_of, arguments, bound_arguments, answering}
use Rattle.asm_meaning.specs.Value.{Reading, is_true, holds, universe, value, values, bound_values}
use Rattle.asm_meaning.specs.Yields.{Path, at}
use Rattle.asm_meaning.proofs.CalledNames.{untold_names}
use Rattle.asm_meaning.proofs.Stories.{told_by_cases}
use Rattle.asm_meaning.proofs.RanksInPrograms.{declared_ranks-rules as rules_ranked, declared_ranks-rule_low as rule_rank_low}
use Rattle.asm_meaning.proofs.MeantDeclarations.{universe_names-some as universe_is}
use Rattle.std.proofs.lemmas.Option.{slice_get-get_or}
use Rattle.asm_code.specs.code.CodeTree.{Code, Codes, no_codes, code_then}
use Rattle.asm_code.specs.code.CodeTree as term_codes
use Rattle.asm_code.specs.code.BoundValues.{bound_of, optional_arguments}
use Rattle.asm_code.specs.code.Readings.{always, reading, universe_at}
use Rattle.asm_code.specs.code.RuleMeaning.{Locations, passes, optional_target_location, result_readings, result_locations, named_readings, AreSoundRules, IsSoundTest, IsSoundOptionalTarget}
use Rattle.asm_code.specs.code.RuleStories.{telling, tellings}
use Rattle.asm_code.specs.code.RuleTree as codes
use Rattle.asm_code.specs.code.RuleTree.{Place, RuleCode, RuleCodes}
use Rattle.asm_code.specs.code.RuleViews as code_view
use Rattle.asm_code.specs.declared.rule_code.RuleCode.{RuleCode as RuleCodeHere}
use Rattle.asm_resolve.proofs.StandingPositions.{stands_value, stands_called}
use Rattle.asm_resolve.specs.code.FunctionCodes.{IsLocated}
use Rattle.asm_resolve.specs.code.ResolvedTerms.{bound_reading, Agrees, IsResolved, AreResolved}
use Rattle.asm_resolve.specs.code.Slots.{Slot, value_slot, names_in, position_of, result_position, called_slots}
use Rattle.asm_resolve.specs.code.RuleScopes.{resolved_target_in}
use Rattle.asm_resolve.specs.code.ResolvedRules.{PositionsStand, IsLocationAt, location_bound, IsResolvedTarget, IsResolvedRule, AreResolvedRules, IsResolvedTest}
use Rattle.asm_resolve.proofs.FramesAgree.{agrees_nothing, bound_before, free_before}
use Rattle.asm_resolve.proofs.TermPasses.{all_mean, all_sound}

-- the universe with the number of a name is that of the name
universe_at_is : (spec : Spec) (u : Name) (n : ℕ) → universe_number (named spec u) ≡ Some n → n < length (shape_of spec).universes → universe_at (shape_of spec) n ≡ universe (program_of spec) u
universe_at_is spec u n number low = sym (universe_is spec u n (universe_at (shape_of spec) n) number (slice_get-get_or (shape_of spec).universes n [] low))

module _ (spec : Spec) (good : IsWellFormed spec) where
  abbrev program : Program
  program = program_of spec

  abbrev shape : Shape
  shape = shape_of spec

  cases_of : (turns : ℕ) (script : Script) (step : ℕ) → ToldCases program turns script step (rule_rank spec)
  cases_of turns script step = told_by_cases program (rule_rank spec) turns script step (rules_ranked spec good)

  pub skip_resolved : (slots : List Slot) → IsResolvedRule program shape slots tree.Skip codes.Skip
  unfolding telling
  skip_resolved slots = record { sound = tt; tells = λ turns script step e rs ls gs A p stands. sym ((cases_of turns script step).of_skip A e p) }

  pub if_resolved : (slots : List Slot) (t : Term) (c : Code) → IsResolved program shape (names_in slots) t c → (P Q : Rule) (b d : RuleCode) → IsResolvedRule program shape slots P b → IsResolvedRule program shape slots Q d
      → IsResolvedRule program shape slots (tree.If t P Q) (codes.If c b d)
  unfolding telling
  if_resolved slots t c test P Q b d first other = record {
    sound = (test.sound, first.sound, other.sound);
    tells = λ turns script step e rs ls gs A p stands.
        (λ i. cond (is_true (test.means e rs A stands.values i)) (first.tells turns script step e rs ls gs A (at p 0) stands i) (other.tells turns script step e rs ls gs A (at p 1) stands i))
        ∙ sym ((cases_of turns script step).of_if t P Q A e p);
  }

  pub let_resolved : (slots : List Slot) (x : Name) (t : Term) (c : Code) → IsResolved program shape (names_in slots) t c → (P : Rule) (b : RuleCode) → IsResolvedRule program shape (value_slot x ∷ slots) P b
      → IsResolvedRule program shape slots (tree.Let x t P) (codes.Let c b)
  unfolding telling
  let_resolved slots x t c term P b body = record {
    sound = (term.sound, body.sound);
    tells = λ turns script step e rs ls gs A p stands.
        ap (λ v. telling shape turns (pick script step) b (always v ∷ rs) (None ∷ ls) gs A (at p 0)) (term.means e rs A stands.values)
        ∙ body.tells turns script step (with_value x (value program A e t) e) (always (value program A e t) ∷ rs) (None ∷ ls) gs A (at p 0) (stands_value program slots e rs ls gs stands x (value program A e t))
        ∙ sym ((cases_of turns script step).of_let x t P A e p);
  }

  -- ---- rules beside and after each other

  module _ (turns : ℕ) (script : Script) (step : ℕ) (e : Environment) (rs : List Reading) (ls : Locations) (gs : List Value) where
    abbrev told_of : Rule → Telling
    told_of = told program turns script step

    abbrev tells_of : RuleCode → Telling
    tells_of c A e p = telling shape turns (pick script step) c rs ls gs A p

    parts_told : (slots : List Slot) (Ps : Rules) (cs : RuleCodes) → AreResolvedRules program shape slots Ps cs → (k : ℕ) (A : State) (p : Path)
        → PositionsStand program slots e rs ls gs → parts_tell (tellings shape turns (pick script step) cs rs ls gs) k A nothing_bound p ≡ parts_tell (all_told program turns script step Ps) k A e p
    unfolding telling
    parts_told slots tree.no_rules codes.no_rules are k A p stands = refl
    parts_told slots (tree.rule_then P Ps) (codes.rule_then c cs) are k A p stands =
        λ i. Beside (are.0.tells turns script step e rs ls gs A (at p k) stands i) (parts_told slots Ps cs are.1 (suc k) A p stands i)
    parts_told slots tree.no_rules (codes.rule_then c cs) are k A p stands = absurd are
    parts_told slots (tree.rule_then P Ps) codes.no_rules are k A p stands = absurd are

    in_order_told : (slots : List Slot) (Ps : Rules) (cs : RuleCodes) → AreResolvedRules program shape slots Ps cs → (k : ℕ) (A : State) (p : Path)
        → PositionsStand program slots e rs ls gs → order_tells (tellings shape turns (pick script step) cs rs ls gs) k A nothing_bound p ≡ order_tells (all_told program turns script step Ps) k A e p
    unfolding telling
    in_order_told slots tree.no_rules codes.no_rules are k A p stands = refl
    in_order_told slots (tree.rule_then P Ps) (codes.rule_then c cs) are k A p stands =
        λ i. let s : Story = are.0.tells turns script step e rs ls gs A (at p k) stands i in
        part_then (outcome_of s).result s (λ U. in_order_told slots Ps cs are.1 (suc k) (fire A U) p stands i)
    in_order_told slots tree.no_rules (codes.rule_then c cs) are k A p stands = absurd are
    in_order_told slots (tree.rule_then P Ps) codes.no_rules are k A p stands = absurd are

    turns_told : (slots : List Slot) (P : Rule) (c : RuleCode) → IsResolvedRule program shape slots P c → (left t : ℕ) (A : State) (p : Path) → PositionsStand program slots e rs ls gs
        → turns_tell (tells_of c) left t A nothing_bound p ≡ turns_tell (told_of P) left t A e p
    turns_told slots P c it zero t A p stands = refl
    turns_told slots P c it (suc left) t A p stands =
        λ i. let s : Story = it.tells turns script step e rs ls gs A (at p t) stands i in
        turn_then (outcome_of s).result s (λ U. turns_told slots P c it left (suc t) (fire A U) p stands i)

  parts_sound : (slots : List Slot) (Ps : Rules) (cs : RuleCodes) → AreResolvedRules program shape slots Ps cs → AreSoundRules shape cs
  parts_sound slots tree.no_rules codes.no_rules are = tt
  parts_sound slots (tree.rule_then P Ps) (codes.rule_then c cs) are = (are.0.sound, parts_sound slots Ps cs are.1)
  parts_sound slots tree.no_rules (codes.rule_then c cs) are = absurd are
  parts_sound slots (tree.rule_then P Ps) codes.no_rules are = absurd are

  pub par_resolved : (slots : List Slot) (Ps : Rules) (cs : RuleCodes) → AreResolvedRules program shape slots Ps cs → IsResolvedRule program shape slots (tree.Par Ps) (codes.Par cs)
  unfolding telling
  par_resolved slots Ps cs are = record {
    sound = parts_sound slots Ps cs are;
    tells = λ turns script step e rs ls gs A p stands. parts_told turns script step e rs ls gs slots Ps cs are 0 A p stands ∙ sym ((cases_of turns script step).of_par Ps A e p);
  }

  pub seq_resolved : (slots : List Slot) (Ps : Rules) (cs : RuleCodes) → AreResolvedRules program shape slots Ps cs → IsResolvedRule program shape slots (tree.Seq Ps) (codes.Seq cs)
  unfolding telling
  seq_resolved slots Ps cs are = record {
    sound = parts_sound slots Ps cs are;
    tells = λ turns script step e rs ls gs A p stands. in_order_told turns script step e rs ls gs slots Ps cs are 0 A p stands ∙ sym ((cases_of turns script step).of_seq Ps A e p);
  }

  pub iterate_resolved : (slots : List Slot) (P : Rule) (c : RuleCode) → IsResolvedRule program shape slots P c → IsResolvedRule program shape slots (tree.Iterate P) (codes.Iterate c)
  unfolding telling
  iterate_resolved slots P c it = record {
    sound = it.sound;
    tells = λ turns script step e rs ls gs A p stands. turns_told turns script step e rs ls gs slots P c it turns 0 A p stands ∙ sym ((cases_of turns script step).of_iterate P A e p);
  }

  -- ---- binders

  test_sound : (slots : List Slot) (t : Option Term) (c : Option Code) → IsResolvedTest program shape slots t c → IsSoundTest shape c
  test_sound slots None None it = tt
  test_sound slots (Some t) (Some c) it = it.sound
  test_sound slots None (Some c) it = absurd it
  test_sound slots (Some t) None it = absurd it

  test_means : (slots : List Slot) (t : Option Term) (c : Option Code) → IsResolvedTest program shape slots t c → (e : Environment) (rs : List Reading) (A : State) → Agrees program (names_in slots) e rs
      → passes shape c rs A ≡ holds program A e t
  test_means slots None None it e rs A agrees = refl
  test_means slots (Some t) (Some c) it e rs A agrees = ap is_true (it.means e rs A agrees)
  test_means slots None (Some c) it e rs A agrees = absurd it
  test_means slots (Some t) None it e rs A agrees = absurd it

  pub forall_resolved : (slots : List Slot) (x u : Name) (n : ℕ) → universe_number (named spec u) ≡ Some n → n < length shape.universes
      → (t : Option Term) (c : Option Code) → IsResolvedTest program shape (value_slot x ∷ slots) t c → (P : Rule) (b : RuleCode) → IsResolvedRule program shape (value_slot x ∷ slots) P b
      → IsResolvedRule program shape slots (tree.Forall x u t P) (codes.Forall n c b)
  unfolding telling
  forall_resolved slots x u n number low t c test P b body = record {
    sound = (low, test_sound (value_slot x ∷ slots) t c test, body.sound);
    tells = λ turns script step e rs ls gs A p stands.
        (λ i. each_tells (λ v k. body.tells turns script step (with_value x v e) (always v ∷ rs) (None ∷ ls) gs A (at p k) (stands_value program slots e rs ls gs stands x v) i)
        (λ v. test_means (value_slot x ∷ slots) t c test (with_value x v e) (always v ∷ rs) A (stands_value program slots e rs ls gs stands x v).values i) 0 (universe_at shape n))
        ∙ ap (each_tells (λ v k. told program turns script step P A (with_value x v e) (at p k)) (λ v. holds program A (with_value x v e) t) 0) (universe_at_is spec u n number low)
        ∙ sym ((cases_of turns script step).of_forall x u t P A e p);
  }

  pub choose_resolved : (slots : List Slot) (x u : Name) (n : ℕ) → universe_number (named spec u) ≡ Some n → n < length shape.universes
      → (t : Option Term) (c : Option Code) → IsResolvedTest program shape (value_slot x ∷ slots) t c → (P Q : Rule) (b d : RuleCode) → IsResolvedRule program shape (value_slot x ∷ slots) P b → IsResolvedRule program shape slots Q d
      → IsResolvedRule program shape slots (tree.Choose x u t P Q) (codes.Choose n c b d)
  unfolding telling
  choose_resolved slots x u n number low t c test P Q b d body other = record {
    sound = (low, test_sound (value_slot x ∷ slots) t c test, body.sound, other.sound);
    tells = λ turns script step e rs ls gs A p stands.
        (λ i. one_tells p (pick script step p) (filter (λ v. test_means (value_slot x ∷ slots) t c test (with_value x v e) (always v ∷ rs) A (stands_value program slots e rs ls gs stands x v).values i) (universe_at shape n))
        (λ v. body.tells turns script step (with_value x v e) (always v ∷ rs) (None ∷ ls) gs A (at p 0) (stands_value program slots e rs ls gs stands x v) i)
        (other.tells turns script step e rs ls gs A (at p 1) stands i))
        ∙ ap (λ us. one_tells p (pick script step p) (filter (λ v. holds program A (with_value x v e) t) us) (λ v. told program turns script step P A (with_value x v e) (at p 0)) (told program turns script step Q A e (at p 1)))
        (universe_at_is spec u n number low)
        ∙ sym ((cases_of turns script step).of_choose x u t P Q A e p);
  }

  -- over a name that is no universe
  pub forall_of_none : (slots : List Slot) (x u : Name) (t : Option Term) (P : Rule) → universe program u ≡ [] → IsResolvedRule program shape slots (tree.Forall x u t P) codes.Skip
  unfolding telling
  forall_of_none slots x u t P none = record {
    sound = tt;
    tells = λ turns script step e rs ls gs A p stands. sym ((cases_of turns script step).of_forall x u t P A e p
        ∙ ap (each_tells (λ v k. told program turns script step P A (with_value x v e) (at p k)) (λ v. holds program A (with_value x v e) t) 0) none);
  }

  pub choose_of_none : (slots : List Slot) (x u : Name) (t : Option Term) (P Q : Rule) (d : RuleCode) → universe program u ≡ [] → IsResolvedRule program shape slots Q d
      → IsResolvedRule program shape slots (tree.Choose x u t P Q) (codes.If (term_codes.Constant (Truth false)) codes.Skip d)
  unfolding telling reading
  choose_of_none slots x u t P Q d none other = record {
    sound = (tt, tt, other.sound);
    tells = λ turns script step e rs ls gs A p stands. other.tells turns script step e rs ls gs A (at p 1) stands ∙ sym ((cases_of turns script step).of_choose x u t P Q A e p
        ∙ ap (λ us. one_tells p (pick script step p) (filter (λ v. holds program A (with_value x v e) t) us) (λ v. told program turns script step P A (with_value x v e) (at p 0)) (told program turns script step Q A e (at p 1))) none);
  }

  -- ---- target codes

  -- what is bound to no location is located as it is declared
  not_bound : (b : Option Binding) (it : Option Declared) (vs : List Value) → location_bound b ≡ None → bound_location b it vs ≡ location_of it vs
  not_bound None it vs is = refl
  not_bound (Some (ToValue v)) it vs is = refl
  not_bound (Some (ToTerm t caller)) it vs is = refl
  not_bound (Some (ToLocation l ws)) it vs is = cc

  -- and has the arguments that it is called with
  own_arguments : (b : Option Binding) (vs : List Value) → location_bound b ≡ None → bound_arguments b vs ≡ vs
  own_arguments None vs is = refl
  own_arguments (Some (ToValue v)) vs is = refl
  own_arguments (Some (ToTerm t caller)) vs is = refl
  own_arguments (Some (ToLocation l ws)) vs is = cc

  -- a name without a result's position, of a controlled function
  pub located_resolved : (slots : List Slot) (x : Name) (f : ℕ) → result_position slots x ≡ None → declared program x ≡ Some (Controlled f (domain_of shape f))
      → (ts : Terms) (cs : Codes) → AreResolved program shape (names_in slots) ts cs → (to : Place) → IsLocated shape f cs to → IsResolvedTarget program shape slots x ts (Some to)
  located_resolved slots x f none stands ts cs are to is = record {
    sound = is.sound (all_sound spec good (names_in slots) ts cs are);
    means = λ e rs ls gs A bound.
        is.locates rs ls A
        ∙ (λ i. Some (location_in f (domain_of shape f) (all_mean spec good (names_in slots) ts cs are e rs A bound.values i)))
        ∙ sym (not_bound (bound_to e x) (declared program x) (values program A e ts) (subst (λ o. IsLocationAt o ls gs (bound_to e x)) none (bound.places x)) ∙ ap (λ it. location_of it (values program A e ts)) stands);
    some = λ e rs ls gs A bound. ap is_some (is.locates rs ls A);
    given = λ e rs ls gs A bound.
        is.keeps rs gs A ∙ all_mean spec good (names_in slots) ts cs are e rs A bound.values
        ∙ sym (own_arguments (bound_to e x) (values program A e ts) (subst (λ o. IsLocationAt o ls gs (bound_to e x)) none (bound.places x)));
  }

  is_bound : (b : Option Binding) (it : Option Declared) (vs : List Value) (l : Location) (ws : List Value) → b ≡ Some (ToLocation l ws) → Some l ≡ bound_location b it vs
  is_bound b it vs l ws is = ap (λ b. bound_location b it vs) (sym is)

  -- a name that stands for a location
  pub answer_resolved : (slots : List Slot) (x : Name) (ts : Terms) (i : ℕ) → result_position slots x ≡ Some i → IsResolvedTarget program shape slots x ts (Some (codes.Answer i))
  answer_resolved slots x ts i here = record {
    sound = tt;
    means = λ e rs ls gs A bound. let it = found e ls gs (bound.places x) in it.2 ∙ is_bound (bound_to e x) (declared program x) (values program A e ts) it.0 gs it.1;
    some = λ e rs ls gs A bound. let it = found e ls gs (bound.places x) in ap is_some it.2;
    given = λ e rs ls gs A bound. let it = found e ls gs (bound.places x) in sym (ap (λ b. bound_arguments b (values program A e ts)) it.1);
  }
    where
      found : (e : Environment) (ls : Locations) (gs : List Value) → IsLocationAt (result_position slots x) ls gs (bound_to e x)
          → (l : Location) × (bound_to e x ≡ Some (ToLocation l gs)) × (slice_index_or ls i None ≡ Some l)
      found e ls gs it = subst (λ o. IsLocationAt o ls gs (bound_to e x)) here it

  -- a name without a result's position, of anything else
  pub nowhere_resolved : (slots : List Slot) (x : Name) (ts : Terms) → result_position slots x ≡ None → ((vs : List Value) → location_of (declared program x) vs ≡ None) → IsResolvedTarget program shape slots x ts None
  nowhere_resolved slots x ts none other = record {
    sound = tt;
    means = λ e rs ls gs A bound. sym (not_bound (bound_to e x) (declared program x) (values program A e ts) (subst (λ o. IsLocationAt o ls gs (bound_to e x)) none (bound.places x)) ∙ other (values program A e ts));
    some = λ e rs ls gs A bound. refl;
    given = λ e rs ls gs A bound. tt;
  }

  pub assign_resolved : (slots : List Slot) (x : Name) (ts : Terms) (to : Place) → IsResolvedTarget program shape slots x ts (Some to) → (t : Term) (c : Code) → IsResolved program shape (names_in slots) t c
      → IsResolvedRule program shape slots (tree.Assign x ts t) (codes.Assign to c)
  unfolding telling
  assign_resolved slots x ts to place t c term = record {
    sound = (place.sound, term.sound);
    tells = λ turns script step e rs ls gs A p stands.
        (λ i. target_tells p (place.means e rs ls gs A stands i) (term.means e rs A stands.values i) (place.given e rs ls gs A stands i) (stands.bound A i))
        ∙ sym ((cases_of turns script step).of_assign x ts t A e p);
  }

  -- of no location
  pub assign_nowhere : (slots : List Slot) (x : Name) (ts : Terms) → IsResolvedTarget program shape slots x ts None → (t : Term) → IsResolvedRule program shape slots (tree.Assign x ts t) codes.Skip
  unfolding telling
  assign_nowhere slots x ts place t = record {
    sound = tt;
    tells = λ turns script step e rs ls gs A p stands.
        (λ i. target_tells p (place.means e rs ls gs A stands i) (value program A e t) (arguments program A e x ts) (bound_values program A e)) ∙ sym ((cases_of turns script step).of_assign x ts t A e p);
  }

  -- ---- parameters that stand for terms, which belong to the caller

  abbrev pub how_many : Terms → ℕ
  how_many no_terms = 0
  how_many (term_then t ts) = suc (how_many ts)

  module _ (names : List Name) (e : Environment) (rs : List Reading) (x : Name) (t : Term) (c : Code) (caller : Environment) (callers : List Reading) (callers_names : List Name)
      (resolved : IsResolved program shape callers_names t c) (calls : Agrees program callers_names caller callers) (agrees : Agrees program names e rs) where
    same_reading : reading shape c callers ≡ bound_reading program (ToTerm t caller)
    same_reading = λ j A. resolved.means caller callers A calls j

    agrees_term : Agrees program (x ∷ names) (with_term x t caller e) (reading shape c callers ∷ rs)
    agrees_term = subst (λ r. Agrees program (x ∷ names) (with_term x t caller e) (r ∷ rs)) (sym same_reading) (record {
      bound = λ y i is. bound_before program names e rs agrees (ToTerm t caller) y i (is_name x y) (position_of names y) refl is;
      free = λ y is. free_before program names e rs agrees (ToTerm t caller) y (is_name x y) (position_of names y) refl is;
    })

  -- each parameter that has a term has its value, in the caller's environment and in each state;
  -- the others aren't bound
  pub agrees_terms : (callers_names : List Name) (caller : Environment) (callers : List Reading) → Agrees program callers_names caller callers → (xs : List Name) (ts : Terms) (cs : Codes)
      → AreResolved program shape callers_names ts cs → Agrees program (take (how_many ts) xs) (bind_terms xs ts caller) (named_readings shape cs callers)
  agrees_terms callers_names caller callers calls [] no_terms cs are = agrees_nothing program (named_readings shape cs callers)
  agrees_terms callers_names caller callers calls [] (term_then t ts) cs are = agrees_nothing program (named_readings shape cs callers)
  agrees_terms callers_names caller callers calls (x ∷ xs) no_terms cs are = agrees_nothing program (named_readings shape cs callers)
  agrees_terms callers_names caller callers calls (x ∷ xs) (term_then t ts) (code_then c cs) are =
      agrees_term (take (how_many ts) xs) (bind_terms xs ts caller) (named_readings shape cs callers) x t c caller callers callers_names are.0 calls (agrees_terms callers_names caller callers calls xs ts cs are.1)
  agrees_terms callers_names caller callers calls (x ∷ xs) (term_then t ts) no_codes are = absurd are

  -- what is bound has the values of these terms, if there aren't more than parameters
  bound_terms : (callers_names : List Name) (caller : Environment) (callers : List Reading) → Agrees program callers_names caller callers → (A : State) (xs : List Name) (ts : Terms) (cs : Codes)
      → AreResolved program shape callers_names ts cs → how_many ts ≤ length xs → bound_of (named_readings shape cs callers) [] A ≡ bound_values program A (bind_terms xs ts caller)
  bound_terms callers_names caller callers calls A [] no_terms no_codes are few = refl
  bound_terms callers_names caller callers calls A (x ∷ xs) no_terms no_codes are few = refl
  bound_terms callers_names caller callers calls A xs no_terms (code_then c cs) are few = absurd are
  bound_terms callers_names caller callers calls A [] (term_then t ts) cs are few = absurd (omega (arith, few))
  bound_terms callers_names caller callers calls A (x ∷ xs) (term_then t ts) no_codes are few = absurd are
  bound_terms callers_names caller callers calls A (x ∷ xs) (term_then t ts) (code_then c cs) are few =
      λ i. are.0.means caller callers A calls i ∷ bound_terms callers_names caller callers calls A xs ts cs are.1 (omega (arith, few)) i

  -- ---- calls

  abbrev answer_location : State → Environment → Option (Name × Terms) → Option Location
  answer_location A e None = None
  answer_location A e (Some (f, ts)) = location program A e f ts

  target_sound : (slots : List Slot) (target : Option (Name × Terms)) (to : Option Place) → resolved_target_in spec slots target to → IsSoundOptionalTarget shape to
  target_sound slots None to is = subst (IsSoundOptionalTarget shape) (sym is) tt
  target_sound slots (Some (f, ts)) to it = it.sound

  -- no location is bound with no arguments
  nowhere_located : (l : Option Location) (ws vs : List Value) (inner : Environment) → None ≡ l → located l ws inner ≡ located l vs inner
  nowhere_located None ws vs inner is = refl
  nowhere_located (Some l) ws vs inner is = cc

  module _ (slots : List Slot) (e : Environment) (rs : List Reading) (ls : Locations) (gs : List Value) (A : State) (stands : PositionsStand program slots e rs ls gs) where
    target_means : (target : Option (Name × Terms)) (to : Option Place) → resolved_target_in spec slots target to → optional_target_location shape to rs ls A ≡ answer_location A e target
    target_means None to is = ap (λ to. optional_target_location shape to rs ls A) is
    target_means (Some (f, ts)) to it = it.means e rs ls gs A stands

    target_some : (target : Option (Name × Terms)) (to : Option Place) → resolved_target_in spec slots target to → is_some (optional_target_location shape to rs ls A) ≡ is_some to
    target_some None to is = ap (λ to. is_some (optional_target_location shape to rs ls A)) is ∙ ap is_some (sym is)
    target_some (Some (f, ts)) to it = it.some e rs ls gs A stands

    answering_is : (target : Option (Name × Terms)) (to : Option Place) → resolved_target_in spec slots target to → (inner : Environment)
        → located (answer_location A e target) (optional_arguments shape to rs gs A) inner ≡ answering program A e target inner
    answering_is None to is inner = refl
    answering_is (Some (f, ts)) None it inner = nowhere_located (location program A e f ts) [] (arguments program A e f ts) inner (it.means e rs ls gs A stands)
    answering_is (Some (f, ts)) (Some to) it inner = ap (λ ws. located (location program A e f ts) ws inner) (it.given e rs ls gs A stands)

  -- as many of the terms are passed on as there are parameters
  pub call_resolved : (slots : List Slot) (target : Option (Name × Terms)) (to : Option Place) → resolved_target_in spec slots target to → (f : Name) (ts passed : Terms) (cs : Codes)
      → AreResolved program shape (names_in slots) passed cs → (xs : List Name) (P : Rule) → declared program f ≡ Some (NamedRule xs P)
      → how_many passed ≤ length xs → ((caller : Environment) → bind_terms xs passed caller ≡ bind_terms xs ts caller)
      → (c : RuleCode) → IsResolvedRule program shape (called_slots (is_some to) (take (how_many passed) xs)) P c → IsResolvedRule program shape slots (tree.Call target f ts) (codes.Call c to cs)
  unfolding telling
  call_resolved slots target to answer f ts passed cs are xs P says few same c body = record {
    sound = (body.sound, target_sound slots target to answer, all_sound spec good (names_in slots) passed cs are);
    tells = λ turns script step e rs ls gs A p stands.
        let l = optional_target_location shape to rs ls A in
        let ws = optional_arguments shape to rs gs A in
        let inner = bind_terms xs passed e in
        let names = take (how_many passed) xs in
        let called = stands_called program names xs passed e (named_readings shape cs rs) (agrees_terms (names_in slots) e rs stands.values xs passed cs are)
        (λ B. bound_terms (names_in slots) e rs stands.values B xs passed cs are few) l ws in
        body.tells turns script step (located l ws inner) (result_readings l ++ named_readings shape cs rs) (result_locations l) ws A (at p 0)
        (subst (λ b. PositionsStand program (called_slots b names) (located l ws inner) (result_readings l ++ named_readings shape cs rs) (result_locations l) ws)
        (target_some slots e rs ls gs A stands target to answer) called)
        ∙ ap (λ there. told program turns script step P A there (at p 0))
        (ap (λ l. located l ws inner) (target_means slots e rs ls gs A stands target to answer) ∙ answering_is slots e rs ls gs A stands target to answer inner ∙ ap (answering program A e target) (same e))
        ∙ sym ((cases_of turns script step).of_call target f ts xs P A e p says (rule_rank_low spec f good));
  }

  -- a call of no rule
  pub no_rule_resolved : (slots : List Slot) (target : Option (Name × Terms)) (f : Name) (ts : Terms) → rule_number (named spec f) ≡ None → IsResolvedRule program shape slots (tree.Call target f ts) codes.Skip
  unfolding telling
  no_rule_resolved slots target f ts none = record { sound = tt; tells = λ turns script step e rs ls gs A p stands. untold_names spec turns script step A e p target f ts (named spec f) refl none }

-- ---- lists of rules, resolved one after the other

module _ (program : Program) (shape : Shape) (slots : List Slot) where
  abbrev pub AllRulesResolved : List RuleHere → List RuleCodeHere → Type 0
  AllRulesResolved Ps cs = AreResolvedRules program shape slots (plain_rules (syntax.rules_of (map syntax.rule_of Ps))) (code_view.rules_of (map code_view.rule_of cs))

  rules_behind : (Ps : List RuleHere) (cs : List RuleCodeHere) (P : RuleHere) (c : RuleCodeHere) → AllRulesResolved Ps cs → IsResolvedRule program shape slots (plain_rule (syntax.rule_of P)) (code_view.rule_of c)
      → AllRulesResolved (Ps ++ P ∷ []) (cs ++ c ∷ [])
  rules_behind [] [] P c are it = (it, tt)
  rules_behind [] (d ∷ cs) P c are it = absurd are
  rules_behind (Q ∷ Ps) [] P c are it = absurd are
  rules_behind (Q ∷ Ps) (d ∷ cs) P c are it = (are.0, rules_behind Ps cs P c are.1 it)

  pub one_more_rule : (Ps : List RuleHere) (cs : List RuleCodeHere) (i : ℕ) (P : RuleHere) (c : RuleCodeHere) → i < length Ps → P ≡ get_or Ps i P → AllRulesResolved (take i Ps) cs
      → IsResolvedRule program shape slots (plain_rule (syntax.rule_of P)) (code_view.rule_of c) → AllRulesResolved (take (i + 1) Ps) (cs ++ c ∷ [])
  one_more_rule Ps cs i P c below is are it =
      subst (λ Qs. AllRulesResolved Qs (cs ++ c ∷ [])) (sym (take_more Ps i P below ∙ ap (λ Q. take i Ps ++ Q ∷ []) (sym is))) (rules_behind (take i Ps) cs P c are it)

-- the same of equal rules and codes
pub as_resolved_rule : (program : Program) (shape : Shape) (slots : List Slot) (P P' : Rule) (c c' : RuleCode) → P' ≡ P → c' ≡ c → IsResolvedRule program shape slots P c → IsResolvedRule program shape slots P' c'
as_resolved_rule program shape slots P P' c c' is same it = subst (λ k. IsResolvedRule program shape slots P' k) (sym same) (subst (λ Q. IsResolvedRule program shape slots Q c) (sym is) it)

-- ---- the plain rule of each variant of the code's rules

module _ (R : RuleHere) where
  pub plain_skip : R ≡ rule.Skip → meant R ≡ tree.Skip
  plain_skip is = ap meant is ∙ ap plain_rule rule_of-Skip

  pub plain_assign : (x : NameHere) (ts : Vec TermHere Global) (t : TermHere) → R ≡ rule.Assign x ts t → meant R ≡ tree.Assign x.text (meant_terms ts.items) (meant_term t)
  plain_assign x ts t is = ap meant is ∙ ap plain_rule (rule_of-Assign x ts t)

  pub plain_set_result : (x : NameHere) (t : TermHere) → R ≡ rule.SetResult x t → meant R ≡ tree.Assign x.text no_terms (meant_term t)
  plain_set_result x t is = ap meant is ∙ ap plain_rule (rule_of-SetResult x t)

  pub plain_par : (Ps : Vec RuleHere Global) → R ≡ rule.Par Ps → meant R ≡ tree.Par (meant_rules Ps.items)
  plain_par Ps is = ap meant is ∙ ap plain_rule (rule_of-Par Ps)

  pub plain_seq : (Ps : Vec RuleHere Global) → R ≡ rule.Seq Ps → meant R ≡ tree.Seq (meant_rules Ps.items)
  plain_seq Ps is = ap meant is ∙ ap plain_rule (rule_of-Seq Ps)

  pub plain_let : (x : NameHere) (t : TermHere) (P : Box RuleHere Global) → R ≡ rule.Let x t P → meant R ≡ tree.Let x.text (meant_term t) (meant P.value)
  plain_let x t P is = ap meant is ∙ ap plain_rule (rule_of-Let x t P)

  pub plain_iterate : (P : Box RuleHere Global) → R ≡ rule.Iterate P → meant R ≡ tree.Iterate (meant P.value)
  plain_iterate P is = ap meant is ∙ ap plain_rule (rule_of-Iterate P)

  pub plain_while : (t : TermHere) (P : Box RuleHere Global) → R ≡ rule.While t P → meant R ≡ tree.Iterate (tree.If (meant_term t) (meant P.value) tree.Skip)
  plain_while t P is = ap meant is ∙ ap plain_rule (rule_of-While t P)

  pub plain_forall : (x u : NameHere) (t : Option TermHere) (P : Box RuleHere Global) → R ≡ rule.Forall x u t P → meant R ≡ tree.Forall x.text u.text (condition t) (meant P.value)
  plain_forall x u t P is = ap meant is ∙ ap plain_rule (rule_of-Forall x u t P)

  pub plain_call : (to : Option Target) (f : NameHere) (ts : Vec TermHere Global) → R ≡ rule.Call to f ts → meant R ≡ tree.Call (meant_target to) f.text (meant_terms ts.items)
  plain_call to f ts is = ap meant is ∙ ap plain_rule (rule_of-Call to f ts)

  if_with : (t : TermHere) (P : Box RuleHere Global) (Q : Option (Box RuleHere Global)) → meant (rule.If t P Q) ≡ tree.If (meant_term t) (meant P.value) (meant_branch Q)
  if_with t P None = ap plain_rule (ap syntax.rule_of (sym (rule.rolls-If t P None)) ∙ fold-roll-Rule source.Rule syntax.rule_step (open_rule.If t P None))
  if_with t P (Some Q) = ap plain_rule (ap syntax.rule_of (sym (rule.rolls-If t P (Some Q))) ∙ fold-roll-Rule source.Rule syntax.rule_step (open_rule.If t P (Some Q)))

  pub plain_if : (t : TermHere) (P : Box RuleHere Global) (Q : Option (Box RuleHere Global)) → R ≡ rule.If t P Q → meant R ≡ tree.If (meant_term t) (meant P.value) (meant_branch Q)
  plain_if t P Q is = ap meant is ∙ if_with t P Q

  choose_with : (x u : NameHere) (t : Option TermHere) (P : Box RuleHere Global) (Q : Option (Box RuleHere Global)) → meant (rule.Choose x u t P Q) ≡ tree.Choose x.text u.text (condition t) (meant P.value) (meant_branch Q)
  choose_with x u t P None = ap plain_rule (ap syntax.rule_of (sym (rule.rolls-Choose x u t P None)) ∙ fold-roll-Rule source.Rule syntax.rule_step (open_rule.Choose x u t P None))
  choose_with x u t P (Some Q) = ap plain_rule (ap syntax.rule_of (sym (rule.rolls-Choose x u t P (Some Q))) ∙ fold-roll-Rule source.Rule syntax.rule_step (open_rule.Choose x u t P (Some Q)))

  pub plain_choose : (x u : NameHere) (t : Option TermHere) (P : Box RuleHere Global) (Q : Option (Box RuleHere Global)) → R ≡ rule.Choose x u t P Q
      → meant R ≡ tree.Choose x.text u.text (condition t) (meant P.value) (meant_branch Q)
  plain_choose x u t P Q is = ap meant is ∙ choose_with x u t P Q
