-- Free. If ranks fall with each use, the depth to which derived functions are followed isn't felt.
use Rattle.std.proofs.Common.{◌≡◌, ℕ, zero, suc, ◌<◌, ◌≤◌, true, false, cond, ◌||◌, List, [], ◌∷◌, map, Option, Some, None, refl, sym, ap, subst, ◌∙◌, arith}
use Rattle.std.specs.List.{list_all, list_any}
use Rattle.asm_state.specs.declared.value.Value.{Value}
use Rattle.asm_state.specs.declared.value.Value.TheVariants.{Undef, Truth}
use Rattle.asm_state.specs.declared.operation.Op.TheVariants.{Not, Negate}
use Rattle.asm_state.specs.Operation.{op}
use Rattle.asm_state.specs.Location.{State}
use Rattle.asm_syntax.specs.Tree.{Name, Term, Constant, Named, Chain, Not as not_term, Negative, Exists, Every, Terms, no_terms, term_then, Links, no_links, link_then}
use Rattle.asm_meaning.specs.Program.{Program, Declared, Universe, Enumerated, Controlled, Static, Derived, NamedRule, declared, look_up, is_name, Environment, nothing_bound, with_value, with_term, with_location, bind_values, Binding, ToValue, ToTerm, ToLocation, bound_to}
use Rattle.asm_meaning.specs.Value.{Use, inner, Reading, Readings, reading, readings, chained, applied, named, constants, reading_within, readings_of, value, values, is_true, read, universe, nesting}
use Rattle.asm_meaning.specs.Ranks.{is_among, UsesBelow, EachUsesBelow, LinksUseBelow, AreDerivedRanked}
use Rattle.asm_meaning.specs.TermCases.{chain_value, ValuedByCases}
use Rattle.asm_meaning.proofs.CallsAndUses.{higher}

abbrev names : Readings → List Name
names m = map (λ r. r.0) m

unbound : (m : Readings) (x : Name) → look_up m x ≡ None → is_among (names m) x ≡ false
unbound [] x e = refl
unbound ((y, r) ∷ m) x e =
    elim (is_name y x) as (λ b. is_name y x ≡ b → ◌≡◌ {A = Option Reading} (cond b (Some r) (look_up m x)) None → (b || is_among (names m) x) ≡ false) [
      | true ↦ λ _ e. cc
      | false ↦ λ _ e. unbound m x e
    ] refl e

module _ (program : Program) (rank : Name → ℕ) (use₁ use₂ : Use) (n : ℕ)
    (alike : (f : Name) (xs : List Name) (t : Term) → declared program f ≡ Some (Derived xs t) → rank f < n → use₁ xs t ≡ use₂ xs t) where
  same_applied : (x : Name) (it : Option Declared) → declared program x ≡ it → ((xs : List Name) (t : Term) → it ≡ Some (Derived xs t) → rank x < n)
      → (vs : List Value) (A : State) → applied program use₁ it vs A ≡ applied program use₂ it vs A
  same_applied x (Some (Universe us)) d h vs A = refl
  same_applied x (Some (Enumerated v)) d h vs A = refl
  same_applied x (Some (Controlled f domain)) d h vs A = refl
  same_applied x (Some (Static domain table)) d h vs A = refl
  same_applied x (Some (Derived xs t)) d h vs A = λ i. alike x xs t d (h xs t refl) i vs A
  same_applied x (Some (NamedRule xs P)) d h vs A = refl
  same_applied x None d h vs A = refl

  same_named : (x : Name) (bound : Option Reading) → (bound ≡ None → (xs : List Name) (t : Term) → declared program x ≡ Some (Derived xs t) → rank x < n)
      → (vs : List Value) (A : State) → named program use₁ bound (declared program x) vs A ≡ named program use₂ bound (declared program x) vs A
  same_named x (Some r) h vs A = refl
  same_named x None h vs A = same_applied x (declared program x) refl (h refl) vs A

  mutual
    unfolding reading

    same : (t : Term) (m : Readings) → UsesBelow program rank n t (names m) → (A : State) → reading program use₁ t m A ≡ reading program use₂ t m A
    same (Constant v) m c A = refl
    same (Named x ts) m c A =
        ap (λ vs. named program use₁ (look_up m x) (declared program x) vs A) (all_same ts m c.1 A)
        ∙ same_named x (look_up m x) (λ e. c.0 (unbound m x e)) (readings program use₂ ts m A) A
    same (Chain t links) m c A =
        ap (λ v. chained program use₁ links v m A) (same t m c.0 A) ∙ same_chain links m c.1 (reading program use₂ t m A) A
    same (not_term t) m c A = ap (λ v. op Not v Undef) (same t m c A)
    same (Negative t) m c A = ap (λ v. op Negate v Undef) (same t m c A)
    same (Exists x u t) m c A = λ i. Truth (list_any (λ v. is_true (same t ((x, λ _. v) ∷ m) c A i)) (universe program u))
    same (Every x u t) m c A = λ i. Truth (list_all (λ v. is_true (same t ((x, λ _. v) ∷ m) c A i)) (universe program u))

    all_same : (ts : Terms) (m : Readings) → EachUsesBelow program rank n ts (names m) → (A : State) → readings program use₁ ts m A ≡ readings program use₂ ts m A
    all_same no_terms m c A = refl
    all_same (term_then t ts) m c A = λ i. same t m c.0 A i ∷ all_same ts m c.1 A i

    same_chain : (links : Links) (m : Readings) → LinksUseBelow program rank n links (names m) → (v : Value) (A : State)
        → chained program use₁ links v m A ≡ chained program use₂ links v m A
    same_chain no_links m c v A = refl
    same_chain (link_then o t links) m c v A =
        ap (λ w. chained program use₁ links (op o v w) m A) (same t m c.0 A) ∙ same_chain links m c.1 (op o v (reading program use₂ t m A)) A

names-constants : (xs : List Name) (vs : List Value) → names (constants xs vs) ≡ xs
names-constants [] vs = refl
names-constants (x ∷ xs) [] = ap (λ ys. x ∷ ys) (names-constants xs [])
names-constants (x ∷ xs) (v ∷ vs) = ap (λ ys. x ∷ ys) (names-constants xs vs)

module _ (program : Program) (rank : Name → ℕ) (ranked : AreDerivedRanked program rank) where
  -- the body of a derived function, under its parameters alone
  body_uses : (f : Name) (xs : List Name) (t : Term) (n : ℕ) → declared program f ≡ Some (Derived xs t) → rank f ≤ n → (vs : List Value)
      → UsesBelow program rank n t (names (constants xs vs))
  body_uses f xs t n d h vs = subst (UsesBelow program rank n t) (sym (names-constants xs vs)) (higher program rank (rank f) n h t xs (ranked f xs t d))

  -- to follow uses deeper than their ranks changes nothing
  pub deep_enough : (n k : ℕ) (t : Term) (m : Readings) → UsesBelow program rank n t (names m) → n ≤ k → (A : State)
      → reading_within program n t m A ≡ reading_within program k t m A
  unfolding reading_within
  deep_enough zero zero t m c h A = refl
  deep_enough zero (suc k) t m c h A = same program rank _ _ zero (λ f xs t d below. absurd (omega arith)) t m c A
  deep_enough (suc n) zero t m c h A = absurd (omega arith)
  deep_enough (suc n) (suc k) t m c h A =
      same program rank _ _ (suc n)
      (λ f xs t d below i vs A. deep_enough n k t (constants xs vs) (body_uses f xs t n d (omega arith) vs) (omega arith) A i) t m c A

-- what an environment's bindings read
module _ (program : Program) where
  abbrev reading_at : Option Binding → Option Reading
  reading_at None = None
  reading_at (Some (ToValue v)) = Some (λ _. v)
  reading_at (Some (ToTerm t caller)) = Some (λ A. value program A caller t)
  reading_at (Some (ToLocation l ws)) = Some (λ A. read A l)

  look_up_readings : (e : Environment) (x : Name) → look_up (readings_of program e) x ≡ reading_at (bound_to e x)
  unfolding readings_of value
  look_up_readings nothing_bound x = refl
  look_up_readings (with_value y v e) x =
      elim (is_name y x) as (λ b. cond b (Some (λ _. v)) (look_up (readings_of program e) x) ≡ reading_at (cond b (Some (ToValue v)) (bound_to e x))) [
        | true ↦ refl
        | false ↦ look_up_readings e x
      ]
  look_up_readings (with_term y t caller e) x =
      elim (is_name y x) as (λ b. cond b (Some (λ A. reading_within program nesting t (readings_of program caller) A)) (look_up (readings_of program e) x) ≡ reading_at (cond b (Some (ToTerm t caller)) (bound_to e x))) [
        | true ↦ refl
        | false ↦ look_up_readings e x
      ]
  look_up_readings (with_location y l ws e) x =
      elim (is_name y x) as (λ b. cond b (Some (λ A. read A l)) (look_up (readings_of program e) x) ≡ reading_at (cond b (Some (ToLocation l ws)) (bound_to e x))) [
        | true ↦ refl
        | false ↦ look_up_readings e x
      ]

  values_are : (body : Use) (A : State) (e : Environment) → ((t : Term) → value program A e t ≡ reading program body t (readings_of program e) A)
      → (ts : Terms) → values program A e ts ≡ readings program body ts (readings_of program e) A
  unfolding values reading
  values_are body A e each no_terms = refl
  values_are body A e each (term_then t ts) = λ i. each t i ∷ values_are body A e each ts i

  pub chain_is : (body : Use) (A : State) (e : Environment) → ((t : Term) → value program A e t ≡ reading program body t (readings_of program e) A)
      → (links : Links) (v : Value) → chained program body links v (readings_of program e) A ≡ chain_value program A e links v
  unfolding reading
  chain_is body A e each no_links v = refl
  chain_is body A e each (link_then o t links) v =
      chain_is body A e each links (op o v (reading program body t (readings_of program e) A))
      ∙ ap (λ w. chain_value program A e links (op o v w)) (sym (each t))

  readings_of-values : (xs : List Name) (vs : List Value) → readings_of program (bind_values xs vs) ≡ constants xs vs
  unfolding readings_of
  readings_of-values [] vs = refl
  readings_of-values (x ∷ xs) [] = λ i. (x, λ _. Undef) ∷ readings_of-values xs [] i
  readings_of-values (x ∷ xs) (v ∷ vs) = λ i. (x, λ _. v) ∷ readings_of-values xs vs i

pub value_is : (program : Program) (A : State) (e : Environment) (t : Term) → value program A e t ≡ reading program (inner program) t (readings_of program e) A
unfolding value reading_within
value_is program A e t = refl

module _ (program : Program) (A : State) (e : Environment) where
  -- a name, by what it is bound to and declared as
  of_name : (x : Name) (ts : Terms) → value program A e (Named x ts) ≡ named program (inner program) (reading_at program (bound_to e x)) (declared program x) (values program A e ts) A
  unfolding reading
  of_name x ts =
      value_is program A e (Named x ts)
      ∙ (λ i. named program (inner program) (look_up_readings program e x i) (declared program x) (sym (values_are program (inner program) A e (value_is program A e) ts) i) A)

  of_bound : (x : Name) (ts : Terms) (b : Binding) → bound_to e x ≡ Some b
      → value program A e (Named x ts) ≡ named program (inner program) (reading_at program (Some b)) (declared program x) (values program A e ts) A
  of_bound x ts b is = of_name x ts ∙ ap (λ it. named program (inner program) (reading_at program it) (declared program x) (values program A e ts) A) is

  -- a name that isn't bound, whatever it is declared as
  pub unbound_names : (x : Name) (ts : Terms) → bound_to e x ≡ None
      → value program A e (Named x ts) ≡ applied program (inner program) (declared program x) (values program A e ts) A
  unbound_names x ts free = of_name x ts ∙ ap (λ b. named program (inner program) (reading_at program b) (declared program x) (values program A e ts) A) free

  pub of_declared : (x : Name) (ts : Terms) (it : Declared) → bound_to e x ≡ None → declared program x ≡ Some it
      → value program A e (Named x ts) ≡ applied program (inner program) (Some it) (values program A e ts) A
  of_declared x ts it free d =
      of_name x ts ∙ (λ i. named program (inner program) (reading_at program (free i)) (d i) (values program A e ts) A)

pub valued_by_cases : ValuedByCases
unfolding value reading_within reading readings_of
valued_by_cases program rank A e ranked = record {
  of_constant = λ v. refl;
  of_value = λ x ts v is. of_bound program A e x ts (ToValue v) is;
  of_term = λ x ts t caller is. of_bound program A e x ts (ToTerm t caller) is;
  of_location = λ x ts l ws is. of_bound program A e x ts (ToLocation l ws) is;
  of_element = λ x ts v free d. of_declared program A e x ts (Enumerated v) free d;
  of_controlled = λ x ts f domain free d. of_declared program A e x ts (Controlled f domain) free d;
  of_static = λ x ts domain table free d. of_declared program A e x ts (Static domain table) free d;
  of_derived = λ x ts xs t free d below.
      of_declared program A e x ts (Derived xs t) free d
      ∙ deep_enough program rank ranked 16 17 t (constants xs (values program A e ts)) (body_uses program rank ranked x xs t 16 d (omega arith) (values program A e ts)) (omega arith) A
      ∙ ap (λ m. reading_within program 17 t m A) (sym (readings_of-values program xs (values program A e ts)));
  of_chain = λ t links. chain_is program (inner program) A e (value_is program A e) links (value program A e t);
  of_not = λ t. refl;
  of_negative = λ t. refl;
  of_exists = λ x u t. refl;
  of_every = λ x u t. refl;
}
