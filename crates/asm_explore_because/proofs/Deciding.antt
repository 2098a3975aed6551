-- Free. That a condition isn't true follows from the part that decides it.
--     follows        what is wanted of a part isn't so, if it isn't so of the part that decides it
--     still_fails    and the other way round
--     valued_of      what is asked of the meaning of terms, by its laws
use Rattle.std.proofs.Common.{◌≡◌, ◌<◌, ℕ, Bool, true, false, cond, not, ◌&&◌, ◌||◌, List, [], ◌∷◌, map, Option, Some, None, refl, sym, ap, subst, ◌∙◌, arith}
use Rattle.std.specs.Prelude.{find}
use Rattle.std.specs.List.{list_all}
use Rattle.asm_state.specs.Location.{State}
use Rattle.asm_state.specs.Operation.{op}
use Rattle.asm_state.specs.declared.operation.Op.{Op}
use Rattle.asm_state.specs.declared.value.Value.{Value}
use Rattle.asm_state.specs.declared.value.Value.TheVariants.{Undef}
use Rattle.asm_syntax.specs.PlainTree.{plain_term, plain_terms, plain_links}
use Rattle.asm_syntax.specs.SourceTree.{Name, Term, Constant, Named, Chain, Not, Negative, Exists, Every, Result, Terms, no_terms, term_then, Links, no_links, link_then, Spec}
use Rattle.asm_syntax.specs.Tree as tree
use Rattle.asm_check.specs.Faults.{IsWellFormed}
use Rattle.asm_check.specs.Names as names
use Rattle.asm_check.specs.Names.{Meaning, text_of}
use Rattle.asm_check.specs.Numbers.{declared_with_number, derived_of, named}
use Rattle.asm_check.specs.declared.checked.NameNumber.{NameNumber}
use Rattle.asm_check.specs.declared.checked.NameNumber.TheVariants as number
use Rattle.asm_meaning.specs.Declarations.{ProgramDeclares, body_of, numbered, declared_in_program, program_of}
use Rattle.asm_meaning.specs.Program.{Derived, Environment, declared, with_value, bind_values, bound_to, is_name, ToValue}
use Rattle.asm_meaning.specs.SpecificationLaw.{SpecificationsAreRanked}
use Rattle.asm_meaning.specs.code.Weights.{TermWeightsFall, WeightsFall, weight}
use Rattle.asm_meaning.specs.TermCases.{TermCases, ValuedByCases, chain_value}
use Rattle.asm_meaning.specs.Value.{is_true, nesting, universe, value, values}
use Rattle.asm_explore_because.specs.Parts.{Bound, Part, Decides, itself, by_way_of, are_decisive, decides_with, deciding_operand, element_part, environment_of, fails, fails_with, inner_part, is_boolean, is_bound, is_decisive, is_truth, named_part, body_part, next, next_in, operands, parameters, value_under, values_under}
use Rattle.asm_explore_because.specs.code.PartWeights.{part_weight}
use Rattle.asm_explore_because.proofs.TruthValues.{Joins, decided_fails, every_fails, exists_fails, found_counts, found_has, found_is_one, found_passes, joins_boolean, joins_truth, negation_fails, strictly_fails, weaker}

-- ---- bound names

pub free_name : (bound : Bound) (x : tree.Name) → is_bound bound x ≡ false → bound_to (environment_of bound) x ≡ None
free_name [] x is = refl
free_name ((y, v) ∷ bound) x is = first (free_name bound x) (is_name y x) is
  where
    first : (is_bound bound x ≡ false → bound_to (environment_of bound) x ≡ None) → (b : Bool) → (b || is_bound bound x) ≡ false
        → cond b (Some (ToValue v)) (bound_to (environment_of bound) x) ≡ None
    first rest true is = cc
    first rest false is = rest is

pub same_parameters : (xs : List tree.Name) (vs : List Value) → environment_of (parameters xs vs) ≡ bind_values xs vs
same_parameters [] vs = refl
same_parameters (x ∷ xs) [] = ap (with_value x Undef) (same_parameters xs [])
same_parameters (x ∷ xs) (v ∷ vs) = ap (with_value x v) (same_parameters xs vs)

module _ (s : Spec) (A : State) where
  pub same_values : (bound : Bound) (ts : Terms) → values (program_of s) A (environment_of bound) (plain_terms ts) ≡ values_under s A bound ts
  unfolding values
  same_values bound no_terms = refl
  same_values bound (term_then t ts) = ap (λ vs. value_under s A bound t ∷ vs) (same_values bound ts)

  -- what is asked of the meaning of terms
  pub record AreValued : Type 0 where
    pub rank : tree.Name → ℕ
    pub low : (f : tree.Name) → rank f < nesting
    pub cases : (e : Environment) → TermCases (program_of s) rank A e
    pub falls : (e : Environment) → WeightsFall (program_of s) rank e
    pub declares : (x : tree.Name) → declared (program_of s) x ≡ declared_in_program s x

  module _ (valued : AreValued) where
    -- ---- derived functions

    pub body_value : (bound : Bound) (x : Name) (ts : Terms) (d : ℕ) (xs : List Name) (t : Term) → is_bound bound x.text ≡ false
        → named s x.text ≡ Some (number.Derived d) → declared_with_number (derived_of s) d ≡ Some (names.Derived xs t)
        → value_under s A bound (Named x ts) ≡ value_under s A (parameters (map text_of xs) (values_under s A bound ts)) t
    body_value bound x ts d xs t free is meant =
        let e = environment_of bound in
        let stands : declared (program_of s) x.text ≡ Some (Derived (map text_of xs) (plain_term t)) = valued.declares x.text ∙ ap (numbered s) is ∙ ap body_of meant in
        (valued.cases e).of_derived x.text (plain_terms ts) (map text_of xs) (plain_term t) (free_name bound x.text free) stands (valued.low x.text)
        ∙ ap (λ vs. value (program_of s) A (bind_values (map text_of xs) vs) (plain_term t)) (same_values bound ts)
        ∙ ap (λ e. value (program_of s) A e (plain_term t)) (sym (same_parameters (map text_of xs) (values_under s A bound ts)))

    body_lighter : (bound : Bound) (x : Name) (ts : Terms) (d : ℕ) (xs : List Name) (t : Term) → is_bound bound x.text ≡ false
        → named s x.text ≡ Some (number.Derived d) → declared_with_number (derived_of s) d ≡ Some (names.Derived xs t)
        → weight (program_of s) (environment_of (parameters (map text_of xs) (values_under s A bound ts))) (plain_term t)
        < weight (program_of s) (environment_of bound) (tree.Named x.text (plain_terms ts))
    body_lighter bound x ts d xs t free is meant =
        let stands : declared (program_of s) x.text ≡ Some (Derived (map text_of xs) (plain_term t)) = valued.declares x.text ∙ ap (numbered s) is ∙ ap body_of meant in
        subst (λ e. weight (program_of s) e (plain_term t) < weight (program_of s) (environment_of bound) (tree.Named x.text (plain_terms ts)))
        (sym (same_parameters (map text_of xs) (values_under s A bound ts)))
        ((valued.falls (environment_of bound)).at_derived x.text (plain_terms ts) (map text_of xs) (plain_term t) (values_under s A bound ts) (free_name bound x.text free) stands (valued.low x.text))

    -- ---- chains

    -- what one operand decides is so of a chain if it is so of each operand
    joined : (w : Bool) (h : Value → Bool) → ((o : Op) → is_decisive w o ≡ true → Joins h o) → (bound : Bound) (links : Links) (v : Value) → are_decisive w links ≡ true
        → h (chain_value (program_of s) A (environment_of bound) (plain_links links) v) ≡ (h v && list_all (λ t. h (value_under s A bound t)) (operands links))
    joined w h joins bound no_links v are = alone (h v)
      where
        alone : (b : Bool) → b ≡ (b && true)
        alone true = refl
        alone false = refl
    joined w h joins bound (link_then o t links) v are =
        let both = split (is_decisive w o) (are_decisive w links) are in
        joined w h joins bound links (op o v (value_under s A bound t)) both.1
        ∙ ap (λ b. b && list_all (λ t. h (value_under s A bound t)) (operands links)) (joins o both.0 v (value_under s A bound t))
        ∙ grouped (h v) (h (value_under s A bound t)) (list_all (λ t. h (value_under s A bound t)) (operands links))
      where
        split : (b c : Bool) → (b && c) ≡ true → (b ≡ true) × (c ≡ true)
        split true c is = (refl, is)
        split false c is = cc

        grouped : (a b c : Bool) → ((a && b) && c) ≡ (a && (b && c))
        grouped true b c = refl
        grouped false b c = refl

    pub chain_joined : (w : Bool) (h : Value → Bool) → ((o : Op) → is_decisive w o ≡ true → Joins h o) → (bound : Bound) (t : Term) (links : Links) → are_decisive w links ≡ true
        → h (value_under s A bound (Chain t links)) ≡ list_all (λ u. h (value_under s A bound u)) (t ∷ operands links)
    chain_joined w h joins bound t links are =
        ap h ((valued.cases (environment_of bound)).of_chain (plain_term t) (plain_links links)) ∙ joined w h joins bound links (value_under s A bound t) are

    -- the value of a chain is a truth value if that of each operand is
    strict_chain : (w strictly : Bool) (bound : Bound) (t : Term) (links : Links) → are_decisive w links ≡ true
        → (strictly && not (list_all (λ u. is_boolean (value_under s A bound u)) (t ∷ operands links))) ≡ false
        → fails_with w strictly (value_under s A bound (Chain t links)) ≡ not (is_truth w (value_under s A bound (Chain t links)))
    strict_chain w false bound t links are boolean = refl
    strict_chain w true bound t links are boolean =
        strictly_fails w (value_under s A bound (Chain t links))
        (chain_joined w is_boolean (joins_boolean w) bound t links are ∙ is_all (list_all (λ u. is_boolean (value_under s A bound u)) (t ∷ operands links)) boolean)
      where
        is_all : (b : Bool) → not b ≡ false → b ≡ true
        is_all true is = refl
        is_all false is = cc

    -- ---- one step

    -- what is so of the two, if one decides the other
    pub record Steps (p q : Part) : Type 0 where
      pub up : fails s A q ≡ true → fails s A p ≡ true
      pub down : fails s A p ≡ true → fails s A q ≡ true
      pub lighter : part_weight s q < part_weight s p

    same_value : (p q : Part) → fails s A p ≡ fails s A q → part_weight s q < part_weight s p → Steps p q
    same_value p q same less = record { up = λ it. same ∙ it; down = λ it. sym same ∙ it; lighter = less }

    abbrev part_at : Term → Bound → (w strictly : Bool) → Part
    part_at t bound w strictly = record { term = t; bound = bound; wanted = w; strictly = strictly }

    -- ---- elements

    every_step : (w strictly : Bool) (bound : Bound) (x u : Name) (t : Term) (q : Part) → next_in s A (part_at (Every x u t) bound w strictly) (Every x u t) ≡ Some q
        → Steps (part_at (Every x u t) bound w strictly) q
    every_step false strictly bound x u t q is = cc
    every_step true strictly bound x u t q is = element (find (λ v. not (is_true (value_under s A ((x.text, v) ∷ bound) t))) (universe (program_of s) u.text)) refl is
      where
        element : (o : Option Value) → find (λ v. not (is_true (value_under s A ((x.text, v) ∷ bound) t))) (universe (program_of s) u.text) ≡ o
            → element_part (part_at (Every x u t) bound true strictly) x.text t o ≡ Some q → Steps (part_at (Every x u t) bound true strictly) q
        element None found is = cc
        element (Some v) found is =
            let p : Part = part_at t ((x.text, v) ∷ bound) true false in
            let same : p ≡ q = cc in
            let passes : not (is_true (value_under s A ((x.text, v) ∷ bound) t)) ≡ true =
            found_passes (λ v. not (is_true (value_under s A ((x.text, v) ∷ bound) t))) (universe (program_of s) u.text) v found in
            let wrong : is_true (value_under s A ((x.text, v) ∷ bound) t) ≡ false = negated (is_true (value_under s A ((x.text, v) ∷ bound) t)) passes in
            let all = found_counts (λ v. not (is_true (value_under s A ((x.text, v) ∷ bound) t))) (λ v. is_true (value_under s A ((x.text, v) ∷ bound) t)) (universe (program_of s) u.text) v found wrong in
            let value_is = (valued.cases (environment_of bound)).of_every x.text u.text (plain_term t) in
            record {
              up = λ it. ap (fails_with true strictly) value_is ∙ every_fails strictly _ all;
              down = λ it. ap (fails s A) (sym same) ∙ passes;
              lighter = subst (λ q. part_weight s q < part_weight s (part_at (Every x u t) bound true strictly)) same ((valued.falls (environment_of bound)).at_every x.text u.text (plain_term t) v);
            }
          where
            negated : (b : Bool) → not b ≡ true → b ≡ false
            negated true is = cc
            negated false is = refl

    exists_step : (w strictly : Bool) (bound : Bound) (x u : Name) (t : Term) (q : Part) → next_in s A (part_at (Exists x u t) bound w strictly) (Exists x u t) ≡ Some q
        → Steps (part_at (Exists x u t) bound w strictly) q
    exists_step true strictly bound x u t q is = cc
    exists_step false strictly bound x u t q is = element (find (λ v. is_true (value_under s A ((x.text, v) ∷ bound) t)) (universe (program_of s) u.text)) refl is
      where
        element : (o : Option Value) → find (λ v. is_true (value_under s A ((x.text, v) ∷ bound) t)) (universe (program_of s) u.text) ≡ o
            → element_part (part_at (Exists x u t) bound false strictly) x.text t o ≡ Some q → Steps (part_at (Exists x u t) bound false strictly) q
        element None found is = cc
        element (Some v) found is =
            let p : Part = part_at t ((x.text, v) ∷ bound) false true in
            let same : p ≡ q = cc in
            let passes = found_passes (λ v. is_true (value_under s A ((x.text, v) ∷ bound) t)) (universe (program_of s) u.text) v found in
            let one = found_is_one (λ v. is_true (value_under s A ((x.text, v) ∷ bound) t)) (λ v. is_true (value_under s A ((x.text, v) ∷ bound) t)) (universe (program_of s) u.text) v found passes in
            let value_is = (valued.cases (environment_of bound)).of_exists x.text u.text (plain_term t) in
            record {
              up = λ it. ap (fails_with false strictly) value_is ∙ exists_fails strictly _ one;
              down = λ it. ap (fails s A) (sym same) ∙ passes;
              lighter = subst (λ q. part_weight s q < part_weight s (part_at (Exists x u t) bound false strictly)) same ((valued.falls (environment_of bound)).at_exists x.text u.text (plain_term t) v);
            }

    -- ---- operands

    lighter_among : (e : Environment) (p : Term → Bool) (t : Term) (links : Links) (u : Term) → find p (operands links) ≡ Some u
        → weight (program_of s) e (plain_term u) < weight (program_of s) e (tree.Chain (plain_term t) (plain_links links))
    lighter_among e p t no_links u is = cc
    lighter_among e p t (link_then o v links) u is = first (lighter_among e p t links u) (p v) is
      where
        first : (find p (operands links) ≡ Some u → weight (program_of s) e (plain_term u) < weight (program_of s) e (tree.Chain (plain_term t) (plain_links links))) → (b : Bool)
            → cond b (Some v) (find p (operands links)) ≡ Some u
            → weight (program_of s) e (plain_term u) < weight (program_of s) e (tree.Chain (plain_term t) (tree.link_then o (plain_term v) (plain_links links)))
        first rest true found =
            let same : v ≡ u = cc in
            subst (λ u. weight (program_of s) e (plain_term u) < weight (program_of s) e (tree.Chain (plain_term t) (tree.link_then o (plain_term v) (plain_links links)))) same
            ((valued.falls e).at_link (plain_term t) (plain_term v) o (plain_links links))
        first rest false found =
            let one = rest found in
            let two = (valued.falls e).at_later_link (plain_term t) (plain_term v) o (plain_links links) in omega (arith, one, two)

    lighter_operand : (e : Environment) (p : Term → Bool) (t : Term) (links : Links) (u : Term) → find p (t ∷ operands links) ≡ Some u
        → weight (program_of s) e (plain_term u) < weight (program_of s) e (tree.Chain (plain_term t) (plain_links links))
    lighter_operand e p t links u is = first (p t) is
      where
        first : (b : Bool) → cond b (Some t) (find p (operands links)) ≡ Some u
            → weight (program_of s) e (plain_term u) < weight (program_of s) e (tree.Chain (plain_term t) (plain_links links))
        first true found =
            let same : t ≡ u = cc in
            subst (λ u. weight (program_of s) e (plain_term u) < weight (program_of s) e (tree.Chain (plain_term t) (plain_links links))) same ((valued.falls e).at_first (plain_term t) (plain_links links))
        first false found = lighter_among e p t links u found

    operand_step : (w strictly : Bool) (bound : Bound) (t : Term) (links : Links) (u : Term) → are_decisive w links ≡ true
        → (strictly && not (list_all (λ u. is_boolean (value_under s A bound u)) (t ∷ operands links))) ≡ false
        → find (λ u. decides_with w (value_under s A bound u)) (t ∷ operands links) ≡ Some u
        → Steps (part_at (Chain t links) bound w strictly) (part_at u bound w strictly)
    operand_step w strictly bound t links u are boolean found =
        let all = t ∷ operands links in
        let h = λ (u : Term). is_truth w (value_under s A bound u) in
        let decides = found_passes (λ u. decides_with w (value_under s A bound u)) all u found in
        let boolean_u : (strictly && not (is_boolean (value_under s A bound u))) ≡ false = strict_operand strictly boolean in
        let wrong : fails_with w strictly (value_under s A bound u) ≡ true = decided_fails w strictly (value_under s A bound u) decides boolean_u in
        let weak : fails_with w false (value_under s A bound u) ≡ true = weaker w strictly (value_under s A bound u) wrong in
        let not_all : list_all h all ≡ false = found_counts (λ u. decides_with w (value_under s A bound u)) h all u found (negated (h u) weak) in
        let chain : is_truth w (value_under s A bound (Chain t links)) ≡ false = chain_joined w (is_truth w) (joins_truth w) bound t links are ∙ not_all in
        record {
          up = λ it. strict_chain w strictly bound t links are boolean ∙ ap not chain;
          down = λ it. wrong;
          lighter = lighter_operand (environment_of bound) (λ u. decides_with w (value_under s A bound u)) t links u found;
        }
      where
        negated : (b : Bool) → not b ≡ true → b ≡ false
        negated true is = cc
        negated false is = refl

        is_all : (b : Bool) → not b ≡ false → b ≡ true
        is_all true is = refl
        is_all false is = cc

        strict_operand : (strictly : Bool) → (strictly && not (list_all (λ u. is_boolean (value_under s A bound u)) (t ∷ operands links))) ≡ false
            → (strictly && not (is_boolean (value_under s A bound u))) ≡ false
        strict_operand false are = refl
        strict_operand true are =
            ap not (found_has (λ u. decides_with w (value_under s A bound u)) (λ u. is_boolean (value_under s A bound u)) (t ∷ operands links) u found
            (is_all (list_all (λ u. is_boolean (value_under s A bound u)) (t ∷ operands links)) are))

    chain_step : (w strictly : Bool) (bound : Bound) (t : Term) (links : Links) (q : Part) → next_in s A (part_at (Chain t links) bound w strictly) (Chain t links) ≡ Some q
        → Steps (part_at (Chain t links) bound w strictly) q
    chain_step w strictly bound t links q is = decisive (are_decisive w links) refl is
      where
        all : List Term
        all = t ∷ operands links

        some : (o : Option Term) → are_decisive w links ≡ true → (strictly && not (list_all (λ u. is_boolean (value_under s A bound u)) all)) ≡ false
            → find (λ u. decides_with w (value_under s A bound u)) all ≡ o → inner_part (part_at (Chain t links) bound w strictly) o ≡ Some q
            → Steps (part_at (Chain t links) bound w strictly) q
        some None are boolean found is = cc
        some (Some u) are boolean found is =
            let same : part_at u bound w strictly ≡ q = cc in
            subst (Steps (part_at (Chain t links) bound w strictly)) same (operand_step w strictly bound t links u are boolean found)

        boolean : (c : Bool) → are_decisive w links ≡ true → (strictly && not (list_all (λ u. is_boolean (value_under s A bound u)) all)) ≡ c
            → inner_part (part_at (Chain t links) bound w strictly) (cond c None (find (λ u. decides_with w (value_under s A bound u)) all)) ≡ Some q
            → Steps (part_at (Chain t links) bound w strictly) q
        boolean true are at is = cc
        boolean false are at is = some (find (λ u. decides_with w (value_under s A bound u)) all) are at refl is

        decisive : (b : Bool) → are_decisive w links ≡ b
            → cond b (inner_part (part_at (Chain t links) bound w strictly) (deciding_operand s A (part_at (Chain t links) bound w strictly) all)) None ≡ Some q
            → Steps (part_at (Chain t links) bound w strictly) q
        decisive true are is = boolean (strictly && not (list_all (λ u. is_boolean (value_under s A bound u)) all)) are refl is
        decisive false are is = cc

    -- ---- bodies

    named_step : (w strictly : Bool) (bound : Bound) (x : Name) (ts : Terms) (q : Part) → next_in s A (part_at (Named x ts) bound w strictly) (Named x ts) ≡ Some q
        → Steps (part_at (Named x ts) bound w strictly) q
    named_step w strictly bound x ts q is = free (is_bound bound x.text) refl is
      where
        p : Part
        p = part_at (Named x ts) bound w strictly

        meant : (d : ℕ) (m : Option Meaning) → is_bound bound x.text ≡ false → named s x.text ≡ Some (number.Derived d) → declared_with_number (derived_of s) d ≡ m
            → body_part s A (part_at (Named x ts) bound w strictly) ts m ≡ Some q → Steps (part_at (Named x ts) bound w strictly) q
        meant d (Some (names.Derived xs t)) not_bound stands has is =
            let same : part_at t (parameters (map text_of xs) (values_under s A bound ts)) w strictly ≡ q = cc in
            same_value (part_at (Named x ts) bound w strictly) q
            (ap (fails_with w strictly) (body_value bound x ts d xs t not_bound stands has) ∙ ap (fails s A) same)
            (subst (λ q. part_weight s q < part_weight s (part_at (Named x ts) bound w strictly)) same (body_lighter bound x ts d xs t not_bound stands has))
        meant d m not_bound stands has is = cc

        stands : (it : Option NameNumber) → is_bound bound x.text ≡ false → named s x.text ≡ it
            → named_part s A (part_at (Named x ts) bound w strictly) ts it ≡ Some q → Steps (part_at (Named x ts) bound w strictly) q
        stands (Some (number.Derived d)) not_bound at is = meant d (declared_with_number (derived_of s) d) not_bound at refl is
        stands it not_bound at is = cc

        free : (b : Bool) → is_bound bound x.text ≡ b → cond b None (named_part s A (part_at (Named x ts) bound w strictly) ts (named s x.text)) ≡ Some q
            → Steps (part_at (Named x ts) bound w strictly) q
        free true at is = cc
        free false at is = stands (named s x.text) at refl is

    -- ---- each step

    step_at : (t : Term) (bound : Bound) (w strictly : Bool) (q : Part) → next_in s A (part_at t bound w strictly) t ≡ Some q → Steps (part_at t bound w strictly) q
    step_at (Constant l) bound w strictly q is = cc
    step_at (Negative t) bound w strictly q is = cc
    step_at (Result x) bound w strictly q is = cc
    step_at (Not t) bound w strictly q is =
        let same : part_at t bound (not w) strictly ≡ q = cc in
        same_value (part_at (Not t) bound w strictly) q
        (ap (fails_with w strictly) ((valued.cases (environment_of bound)).of_not (plain_term t)) ∙ negation_fails w strictly (value_under s A bound t) ∙ ap (fails s A) same)
        (subst (λ q. part_weight s q < part_weight s (part_at (Not t) bound w strictly)) same ((valued.falls (environment_of bound)).at_not (plain_term t)))
    step_at (Every x u t) bound w strictly q is = every_step w strictly bound x u t q is
    step_at (Exists x u t) bound w strictly q is = exists_step w strictly bound x u t q is
    step_at (Chain t links) bound w strictly q is = chain_step w strictly bound t links q is
    step_at (Named x ts) bound w strictly q is = named_step w strictly bound x ts q is

    pub step : (p q : Part) → next s A p ≡ Some q → Steps p q
    step p q is = step_at p.term p.bound p.wanted p.strictly q is

    pub follows : (p q : Part) → Decides s A p q → fails s A q ≡ true → fails s A p ≡ true
    follows p q (itself stops) wrong = wrong
    follows p q (by_way_of r is rest) wrong = (step p r is).up (follows r q rest wrong)

    pub still_fails : (p q : Part) → Decides s A p q → fails s A p ≡ true → fails s A q ≡ true
    still_fails p q (itself stops) wrong = wrong
    still_fails p q (by_way_of r is rest) wrong = still_fails r q rest ((step p r is).down wrong)

pub valued_of : SpecificationsAreRanked → ValuedByCases → TermWeightsFall → ProgramDeclares → (s : Spec) (A : State) → IsWellFormed s → AreValued s A
valued_of ranked cases falls declares s A good =
    let ranks = ranked s good in record {
      rank = ranks.derived;
      low = ranks.derived_low;
      cases = λ e. cases (program_of s) ranks.derived A e ranks.derived_ranked;
      falls = λ e. falls (program_of s) ranks.derived e ranks.derived_ranked;
      declares = declares s;
    }
