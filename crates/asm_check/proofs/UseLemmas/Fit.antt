-- Free. In a well-formed specification each name stands for what its use asks for.
use Rattle.std.proofs.Common.{◌≡◌, ◌≢◌, ℕ, Bool, true, false, nat_eq, List, [], ◌∷◌, ◌++◌, map, Option, Some, None, refl, sym, subst, ◌∙◌, inl, inr}
use Rattle.std.specs.Prelude.{Contains, flat_map}
use Rattle.std.specs.Cmp.{unsigned_Decides}
use Rattle.std.proofs.lemmas.Bool.{false≢true}
use Rattle.std.proofs.lemmas.List.Elements.{Contains-append_left, Contains-append_right}
use Rattle.asm_state.proofs.Lists.{Contains-cons_cases, Contains-first, Contains-flat_map, Contains-later, Contains-none}
use Rattle.asm_syntax.specs.SourceTree as source
use Rattle.asm_syntax.specs.SourceTree.{Name, Term, Constant, Named, Chain, Not, Negative, Exists, Every, Result, Terms, no_terms, term_then, Links, no_links, link_then, Rule, Skip, Assign, Call, Par, Seq, If, Let, Forall, Choose, Iterate, While, SetResult, Rules, no_rules, rule_then, Branch, left_out, written, Const, Entry, Given, Item, Spec}
use Rattle.asm_check.specs.Names as names
use Rattle.asm_check.specs.Names.{Text, Meaning, NamedRule, Derived, Role, InTerm, AsTarget, AsRule, AsAnswering, AsUniverse, AsCodomain, AsElement, AsResult, Use, use_of, plain_use, term_count, text_of, is_among, is_known, arguments_of, is_assignable, has_result_in_body, can_be_main, declared, uses, uses_of, uses_of_rule, uses_of_rules, uses_of_branch, uses_of_term, uses_of_terms, uses_of_links, uses_of_test, uses_of_target, rule_role, rule_scope, uses_of_const, uses_of_entry, uses_of_codomain, uses_of_table}
use Rattle.asm_check.specs.Faults.{IsWellFormed, is_known_use, inits, unknown, arity, not_controlled, init, another, no_start, missing, result_use, outside, plain_call, start}
use Rattle.asm_check.specs.Fit.{IsUniverseName, IsCodomainName, IsFitConst, IsFitTable, IsFitFunction, IsFitTerm, AreFitTerms, AreFitLinks, IsFitTest, IsFitTargetOf, IsFitCallTo, IsFitRule, AreFitRules, IsFitBranch, HasFitMainRule}
use Rattle.asm_check.specs.Laws.{BodiesAreFit}
use Rattle.asm_check.proofs.NameLemmas.FirstOfName.{body_uses}
use Rattle.asm_check.proofs.UseLemmas.FaultlessUses.{IsSuited, IsGood, suited}

not_true : (b : Bool) → ¬ (b ≡ true) → b ≡ false
not_true true h = absurd (h refl)
not_true false h = refl

pub not_false : (b : Bool) → ¬ (b ≡ false) → b ≡ true
not_false true h = refl
not_false false h = absurd (h refl)

pub same_number : (m n : ℕ) → ¬ (m ≢ n) → m ≡ n
same_number m n h =
    (unsigned_Decides m n).0 (not_false (nat_eq m n) (λ e. h (λ same. false≢true (sym e ∙ (unsigned_Decides m n).1 same))))

-- ---- uses without faults

module _ (spec : Spec) where
  abbrev Good : Use → Type 0
  Good u = IsGood spec u.role u.name u.count u.is_bound

  abbrev AreGood : List Use → Type 0
  AreGood us = (u : Use) → Contains us u → Good u

  good_use : IsWellFormed spec → AreGood (uses spec)
  good_use good u c =
      let known : is_known_use spec u ≡ true =
      not_false (is_known_use spec u) (λ no'. good u.name.at 9 (unknown (record { use_of = u; stands = c; unknown = no'; offset = refl }))) in
      record {
        known = known;
        counted = λ n has. same_number u.count n (λ differs. good u.name.at 10 (arity (record { use_of = u; stands = c; count = n; has = has; differs = differs; offset = refl })));
        assignable = λ target. not_false (is_assignable u.is_bound (declared spec u.name.text))
            (λ no'. good u.name.at 11 (not_controlled (record { use_of = u; stands = c; is_target = target; known = known; unassignable = no'; offset = refl })));
        plain = λ role. not_true (has_result_in_body (declared spec u.name.text)) (λ so. good u.name.at 17 (result_use (plain_call u c role so refl)));
        inside = λ role. not_false u.is_bound (λ free. good u.name.at 17 (result_use (outside u c role free refl)));
      }

  front : (us vs : List Use) → AreGood (us ++ vs) → AreGood us
  front us vs h u c = h u (Contains-append_left us vs u c)

  back : (us vs : List Use) → AreGood (us ++ vs) → AreGood vs
  back us vs h u c = h u (Contains-append_right us vs u c)

  tail : (u : Use) (us : List Use) → AreGood (u ∷ us) → AreGood us
  tail u us h v c = h v (Contains-later u us v c)

  first : (role : Role) (x : Name) (n : ℕ) (bound : List Text) (us : List Use) → AreGood (use_of role x n bound ∷ us) → IsSuited spec role x n bound
  first role x n bound us h = suited spec x n bound role (is_among bound x.text) refl (h (use_of role x n bound) (Contains-first (use_of role x n bound) us))

  -- a name that has no arguments, and that no binder is looked at for
  plain : (role : Role) (x : Name) (us : List Use) → AreGood (plain_use role x ∷ us) → IsSuited spec role x 0 []
  plain role x us h = suited spec x 0 [] role false refl (h (plain_use role x) (Contains-first (plain_use role x) us))

  -- ---- terms

  mutual
    pub fit_term : (t : Term) (bound : List Text) → AreGood (uses_of_term t bound) → IsFitTerm spec t bound
    fit_term (Constant v) bound h = tt
    fit_term (Named x ts) bound h = (first InTerm x (term_count ts) bound (uses_of_terms ts bound) h, fit_terms ts bound (tail _ (uses_of_terms ts bound) h))
    fit_term (Chain t links) bound h =
        (fit_term t bound (front (uses_of_term t bound) (uses_of_links links bound) h), fit_links links bound (back (uses_of_term t bound) (uses_of_links links bound) h))
    fit_term (Not t) bound h = fit_term t bound h
    fit_term (Negative t) bound h = fit_term t bound h
    fit_term (Exists x over t) bound h =
        (plain AsUniverse over (uses_of_term t (x.text ∷ bound)) h, fit_term t (x.text ∷ bound) (tail _ (uses_of_term t (x.text ∷ bound)) h))
    fit_term (Every x over t) bound h =
        (plain AsUniverse over (uses_of_term t (x.text ∷ bound)) h, fit_term t (x.text ∷ bound) (tail _ (uses_of_term t (x.text ∷ bound)) h))
    fit_term (Result x) bound h = first AsResult x 0 bound [] h

    fit_terms : (ts : Terms) (bound : List Text) → AreGood (uses_of_terms ts bound) → AreFitTerms spec ts bound
    fit_terms no_terms bound h = tt
    fit_terms (term_then t ts) bound h =
        (fit_term t bound (front (uses_of_term t bound) (uses_of_terms ts bound) h), fit_terms ts bound (back (uses_of_term t bound) (uses_of_terms ts bound) h))

    fit_links : (links : Links) (bound : List Text) → AreGood (uses_of_links links bound) → AreFitLinks spec links bound
    fit_links no_links bound h = tt
    fit_links (link_then o t links) bound h =
        (fit_term t bound (front (uses_of_term t bound) (uses_of_links links bound) h), fit_links links bound (back (uses_of_term t bound) (uses_of_links links bound) h))

  fit_target : (to : Option (Name × Terms)) (bound : List Text) → AreGood (uses_of_target to bound) → IsFitTargetOf spec to bound
  fit_target None bound h = tt
  fit_target (Some (f, ts)) bound h = (first AsTarget f (term_count ts) bound (uses_of_terms ts bound) h, fit_terms ts bound (tail _ (uses_of_terms ts bound) h))

  fit_call : (to : Option (Name × Terms)) (r : Name) (ts : Terms) (bound : List Text) → AreGood (use_of (rule_role to) r (term_count ts) bound ∷ uses_of_terms ts bound) → IsFitCallTo spec to r (term_count ts)
  fit_call None r ts bound h = first AsRule r (term_count ts) bound (uses_of_terms ts bound) h
  fit_call (Some to) r ts bound h = first AsAnswering r (term_count ts) bound (uses_of_terms ts bound) h

  fit_test : (t : Option Term) (bound : List Text) → AreGood (uses_of_test t bound) → IsFitTest spec t bound
  fit_test None bound h = tt
  fit_test (Some t) bound h = fit_term t bound h

  -- ---- rules

  -- the parts of a rule with a universe, and perhaps a test
  parts : (x over : Name) (t : Option Term) (P : Rule) (bound : List Text) → AreGood (plain_use AsUniverse over ∷ uses_of_test t (x.text ∷ bound) ++ uses_of_rule P (x.text ∷ bound))
      → IsUniverseName spec over × IsFitTest spec t (x.text ∷ bound) × AreGood (uses_of_rule P (x.text ∷ bound))
  parts x over t P bound h =
      let test = uses_of_test t (x.text ∷ bound) in
      let body = uses_of_rule P (x.text ∷ bound) in
      let rest = tail (plain_use AsUniverse over) (test ++ body) h in
      (plain AsUniverse over (test ++ body) h, fit_test t (x.text ∷ bound) (front test body rest), back test body rest)

  mutual
    fit_rule : (R : Rule) (bound : List Text) → AreGood (uses_of_rule R bound) → IsFitRule spec R bound
    fit_rule Skip bound h = tt
    fit_rule (Assign f ts t) bound h =
        let rest = tail _ (uses_of_terms ts bound ++ uses_of_term t bound) h in (
          first AsTarget f (term_count ts) bound (uses_of_terms ts bound ++ uses_of_term t bound) h,
          fit_terms ts bound (front (uses_of_terms ts bound) (uses_of_term t bound) rest),
          fit_term t bound (back (uses_of_terms ts bound) (uses_of_term t bound) rest),
        )
    fit_rule (Call to r ts) bound h =
        let call = use_of (rule_role to) r (term_count ts) bound ∷ uses_of_terms ts bound in
        let rest = back (uses_of_target to bound) call h in
        (fit_target to bound (front (uses_of_target to bound) call h), fit_call to r ts bound rest, fit_terms ts bound (tail _ (uses_of_terms ts bound) rest))
    fit_rule (Par Ps) bound h = fit_rules Ps bound h
    fit_rule (Seq Ps) bound h = fit_rules Ps bound h
    fit_rule (If t P Q) bound h =
        let yes = front (uses_of_term t bound ++ uses_of_rule P bound) (uses_of_branch Q bound) h in (
          fit_term t bound (front (uses_of_term t bound) (uses_of_rule P bound) yes),
          fit_rule P bound (back (uses_of_term t bound) (uses_of_rule P bound) yes),
          fit_branch Q bound (back (uses_of_term t bound ++ uses_of_rule P bound) (uses_of_branch Q bound) h),
        )
    fit_rule (Let x t P) bound h =
        (fit_term t bound (front (uses_of_term t bound) (uses_of_rule P (x.text ∷ bound)) h), fit_rule P (x.text ∷ bound) (back (uses_of_term t bound) (uses_of_rule P (x.text ∷ bound)) h))
    fit_rule (Forall x over t P) bound h = let it = parts x over t P bound h in (it.0, it.1, fit_rule P (x.text ∷ bound) it.2)
    fit_rule (Choose x over t P Q) bound h =
        let head = plain_use AsUniverse over ∷ uses_of_test t (x.text ∷ bound) ++ uses_of_rule P (x.text ∷ bound) in
        let it = parts x over t P bound (front head (uses_of_branch Q bound) h) in
        (it.0, it.1, fit_rule P (x.text ∷ bound) it.2, fit_branch Q bound (back head (uses_of_branch Q bound) h))
    fit_rule (Iterate P) bound h = fit_rule P bound h
    fit_rule (While t P) bound h =
        (fit_term t bound (front (uses_of_term t bound) (uses_of_rule P bound) h), fit_rule P bound (back (uses_of_term t bound) (uses_of_rule P bound) h))
    fit_rule (SetResult x t) bound h = (first AsResult x 0 bound (uses_of_term t bound) h, fit_term t bound (tail _ (uses_of_term t bound) h))

    fit_rules : (Ps : Rules) (bound : List Text) → AreGood (uses_of_rules Ps bound) → AreFitRules spec Ps bound
    fit_rules no_rules bound h = tt
    fit_rules (rule_then P Ps) bound h =
        (fit_rule P bound (front (uses_of_rule P bound) (uses_of_rules Ps bound) h), fit_rules Ps bound (back (uses_of_rule P bound) (uses_of_rules Ps bound) h))

    fit_branch : (Q : Branch) (bound : List Text) → AreGood (uses_of_branch Q bound) → IsFitBranch spec Q bound
    fit_branch left_out bound h = tt
    fit_branch (written P) bound h = fit_rule P bound h

  -- ---- declarations of functions

  fit_const : (c : Const) → AreGood (uses_of_const c) → IsFitConst spec c
  fit_const (source.Plain v) h = tt
  fit_const (source.Element x) h = plain AsElement x [] h

  fit_consts : (cs : List Const) → AreGood (flat_map uses_of_const cs) → (c : Const) → Contains cs c → IsFitConst spec c
  fit_consts [] h c it = absurd (Contains-none c it)
  fit_consts (d ∷ cs) h c it =
      elim (Contains-cons_cases d cs c it) [
        | inl same ↦ subst (IsFitConst spec) same (fit_const d (front (uses_of_const d) (flat_map uses_of_const cs) h))
        | inr rest ↦ fit_consts cs (back (uses_of_const d) (flat_map uses_of_const cs) h) c rest
      ]

  fit_entries : (es : List Entry) → AreGood (flat_map uses_of_entry es) → (e : Entry) → Contains es e → ((c : Const) → Contains e.arguments c → IsFitConst spec c) × IsFitConst spec e.value
  fit_entries [] h e it = absurd (Contains-none e it)
  fit_entries (d ∷ es) h e it =
      elim (Contains-cons_cases d es e it) [
        | inl same ↦ subst (λ e. ((c : Const) → Contains e.arguments c → IsFitConst spec c) × IsFitConst spec e.value) same
            (let own = front (uses_of_entry d) (flat_map uses_of_entry es) h in (
              fit_consts d.arguments (front (flat_map uses_of_const d.arguments) (uses_of_const d.value) own),
              fit_const d.value (back (flat_map uses_of_const d.arguments) (uses_of_const d.value) own),
            ))
        | inr rest ↦ fit_entries es (back (uses_of_entry d) (flat_map uses_of_entry es) h) e rest
      ]

  fit_table : (table : Option Given) → AreGood (uses_of_table table) → IsFitTable spec table
  fit_table None h = tt
  fit_table (Some (source.Each c)) h = fit_const c h
  fit_table (Some (source.Entries entries)) h = fit_entries entries h

  fit_domain : (us : List Name) → AreGood (map (plain_use AsUniverse) us) → (u : Name) → Contains us u → IsUniverseName spec u
  fit_domain [] h u it = absurd (Contains-none u it)
  fit_domain (v ∷ us) h u it =
      elim (Contains-cons_cases v us u it) [
        | inl same ↦ subst (IsUniverseName spec) same (plain AsUniverse v (map (plain_use AsUniverse) us) h)
        | inr rest ↦ fit_domain us (tail (plain_use AsUniverse v) (map (plain_use AsUniverse) us) h) u rest
      ]

  fit_codomain : (codomain : Option Name) → AreGood (uses_of_codomain codomain) → (u : Name) → codomain ≡ Some u → IsCodomainName spec u
  fit_codomain None h u is = cc
  fit_codomain (Some v) h u is = let same : v ≡ u = cc in subst (IsCodomainName spec) same (plain AsCodomain v [] h)

  fit_function : (domain : List Name) (codomain : Option Name) (table : Option Given) → AreGood (map (plain_use AsUniverse) domain ++ uses_of_codomain codomain ++ uses_of_table table)
      → IsFitFunction spec domain codomain table
  fit_function domain codomain table h =
      let us = map (plain_use AsUniverse) domain in
      let cod = uses_of_codomain codomain in
      let front_two = front (us ++ cod) (uses_of_table table) h in
      record {
        domain_fits = fit_domain domain (front us cod front_two);
        codomain_fits = fit_codomain codomain (back us cod front_two);
        table_fits = fit_table table (back (us ++ cod) (uses_of_table table) h);
      }

-- ---- the main rule

starting : (m : Option Meaning) → can_be_main m ≡ true → (P : Rule) × (m ≡ Some (NamedRule [] P))
starting (Some (NamedRule [] P)) e = (P, refl)
starting (Some (NamedRule (x ∷ xs) P)) e = absurd (false≢true e)
starting (Some names.Predeclared) e = absurd (false≢true e)
starting (Some (names.Range first last)) e = absurd (false≢true e)
starting (Some (names.Enumeration k)) e = absurd (false≢true e)
starting (Some (names.Element k)) e = absurd (false≢true e)
starting (Some (names.Controlled domain)) e = absurd (false≢true e)
starting (Some (names.Static domain)) e = absurd (false≢true e)
starting (Some (Derived xs t)) e = absurd (false≢true e)
starting None e = absurd (false≢true e)

starts : (spec : Spec) → IsWellFormed spec → (xs : List Name) → inits spec ≡ xs → HasFitMainRule spec
starts spec good [] e = absurd (good spec.length 14 (init (missing e refl)))
starts spec good (x ∷ y ∷ more) e = absurd (good y.at 14 (init (another x (y ∷ more) y e (Contains-first y more) refl)))
starts spec good (x ∷ []) e =
    let it = starting (declared spec x.text) (not_false (can_be_main (declared spec x.text))
    (λ no'. good x.at 14 (init (no_start x (subst (λ xs. Contains xs x) (sym e) (Contains-first x [])) no' refl)))) in
    record {
      name = x;
      body = it.0;
      only = e;
      rule = it.1;
      plain = not_true (has_result_in_body (declared spec x.text))
          (λ so. good x.at 17 (result_use (start x (subst (λ xs. Contains xs x) (sym e) (Contains-first x [])) so refl)));
    }

in_uses : (spec : Spec) (item : Item) → Contains spec.items item → (u : Use) → Contains (uses_of item) u → Contains (uses spec) u
unfolding uses
in_uses spec item it u c = Contains-flat_map uses_of spec.items item u it c

-- a rule is fit whose uses are among those of the specification
pub rule_fits : (spec : Spec) → IsWellFormed spec → (R : Rule) (bound : List Text) → ((u : Use) → Contains (uses_of_rule R bound) u → Contains (uses spec) u) → IsFitRule spec R bound
rule_fits spec good R bound among = fit_rule spec R bound (λ u c. good_use spec good u (among u c))

-- and so is a term
pub term_fits : (spec : Spec) → IsWellFormed spec → (t : Term) (bound : List Text) → ((u : Use) → Contains (uses_of_term t bound) u → Contains (uses spec) u) → IsFitTerm spec t bound
term_fits spec good t bound among = fit_term spec t bound (λ u c. good_use spec good u (among u c))

pub bodies_are_fit : BodiesAreFit
bodies_are_fit spec good = record {
  rules = λ f xs P is. rule_fits spec good P (rule_scope xs) (body_uses spec f (NamedRule xs P) is);
  derived = λ f xs t is. term_fits spec good t (map text_of xs) (body_uses spec f (Derived xs t) is);
  functions = λ x kind domain codomain table it. fit_function spec domain codomain table (λ u c. good_use spec good u (in_uses spec (source.Function x kind domain codomain table) it u c));
  start = starts spec good (inits spec) refl;
}
