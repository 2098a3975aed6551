-- Free. Weights fall on the way of an evaluation.
use Rattle.std.proofs.Common.{◌≡◌, ℕ, zero, suc, ◌+◌, ◌<◌, ◌≤◌, max, Bool, true, false, cond, ◌||◌, List, [], ◌∷◌, Option, Some, None, refl, sym, ap, subst, arith}
use Rattle.asm_state.specs.declared.value.Value.{Value}
use Rattle.asm_state.specs.declared.operation.Op.{Op}
use Rattle.asm_syntax.specs.Tree.{Name, Term, Constant, Named, Chain, Not, Negative, Exists, Every, Terms, no_terms, term_then, Links, no_links, link_then, Rule, Skip, Assign, Call, Par, Seq, If, Let, Forall, Choose, Iterate, Rules, no_rules, rule_then}
use Rattle.asm_meaning.specs.Program.{Program, Declared, Universe, Enumerated, Controlled, Static, Derived, NamedRule, declared, is_name, Environment, nothing_bound, with_value, with_term, with_location, bind_values, Binding, ToValue, ToTerm, ToLocation, bound_to}
use Rattle.asm_meaning.specs.Value.{nesting}
use Rattle.asm_meaning.specs.Ranks.{is_among, UsesBelow, EachUsesBelow, LinksUseBelow, AreDerivedRanked, IsRanked, CallsBelow, EachCallsBelow}
use Rattle.asm_meaning.specs.code.Weights.{names_of, used, size, sizes, link_sizes, size_within, load, weight, TermWeightsFall, called_size, rule_size, rule_sizes, rule_size_within, rule_weight, CallWeightsFall}
use Rattle.asm_meaning.proofs.CallsAndUses.{lower, higher}

-- ---- terms

module _ (program : Program) (rank : Name → ℕ) (body₁ body₂ : List Name → Term → ℕ) (n : ℕ)
    (alike : (f : Name) (xs : List Name) (t : Term) → declared program f ≡ Some (Derived xs t) → rank f < n → body₁ xs t ≡ body₂ xs t) where
  same_used : (x : Name) (it : Option Declared) → declared program x ≡ it → (b : Bool) → (b ≡ false → (xs : List Name) (t : Term) → it ≡ Some (Derived xs t) → rank x < n)
      → used program body₁ b it ≡ used program body₂ b it
  same_used x it d true h = refl
  same_used x (Some (Universe us)) d false h = refl
  same_used x (Some (Enumerated v)) d false h = refl
  same_used x (Some (Controlled f domain)) d false h = refl
  same_used x (Some (Static domain table)) d false h = refl
  same_used x (Some (Derived xs t)) d false h = alike x xs t d (h refl xs t refl)
  same_used x (Some (NamedRule xs P)) d false h = refl
  same_used x None d false h = refl

  mutual
    unfolding size

    same : (t : Term) (bound : List Name) → UsesBelow program rank n t bound → size program body₁ t bound ≡ size program body₂ t bound
    same (Constant v) bound c = refl
    same (Named x ts) bound c = λ i. 1 + (all_same ts bound c.1 i + same_used x (declared program x) refl (is_among bound x) c.0 i)
    same (Chain t links) bound c = λ i. 1 + (same t bound c.0 i + links_same links bound c.1 i)
    same (Not t) bound c = λ i. 1 + same t bound c i
    same (Negative t) bound c = λ i. 1 + same t bound c i
    same (Exists x u t) bound c = λ i. 1 + same t (x ∷ bound) c i
    same (Every x u t) bound c = λ i. 1 + same t (x ∷ bound) c i

    all_same : (ts : Terms) (bound : List Name) → EachUsesBelow program rank n ts bound → sizes program body₁ ts bound ≡ sizes program body₂ ts bound
    all_same no_terms bound c = refl
    all_same (term_then t ts) bound c = λ i. same t bound c.0 i + all_same ts bound c.1 i

    links_same : (links : Links) (bound : List Name) → LinksUseBelow program rank n links bound → link_sizes program body₁ links bound ≡ link_sizes program body₂ links bound
    links_same no_links bound c = refl
    links_same (link_then o t links) bound c = λ i. same t bound c.0 i + links_same links bound c.1 i

module _ (program : Program) (rank : Name → ℕ) (ranked : AreDerivedRanked program rank) where
  deep_enough : (n k : ℕ) (t : Term) (bound : List Name) → UsesBelow program rank n t bound → n ≤ k → size_within program n t bound ≡ size_within program k t bound
  unfolding size_within
  deep_enough zero zero t bound c h = refl
  deep_enough zero (suc k) t bound c h = same program rank _ _ zero (λ f xs t d below. absurd (omega arith)) t bound c
  deep_enough (suc n) zero t bound c h = absurd (omega arith)
  deep_enough (suc n) (suc k) t bound c h =
      same program rank _ _ (suc n)
      (λ f xs t d below. deep_enough n k t xs (higher program rank (rank f) n (omega arith) t xs (ranked f xs t d)) (omega arith)) t bound c

names-values : (xs : List Name) (vs : List Value) → names_of (bind_values xs vs) ≡ xs
names-values [] vs = refl
names-values (x ∷ xs) [] = λ i. x ∷ names-values xs [] i
names-values (x ∷ xs) (v ∷ vs) = λ i. x ∷ names-values xs vs i

unbound : (e : Environment) (x : Name) → bound_to e x ≡ None → is_among (names_of e) x ≡ false
unbound nothing_bound x free = refl
unbound (with_value y v e) x free =
    elim (is_name y x) as (λ b. ◌≡◌ {A = Option Binding} (cond b (Some (ToValue v)) (bound_to e x)) None → (b || is_among (names_of e) x) ≡ false) [
      | true ↦ λ h. cc
      | false ↦ λ h. unbound e x h
    ] free
unbound (with_term y t caller e) x free =
    elim (is_name y x) as (λ b. ◌≡◌ {A = Option Binding} (cond b (Some (ToTerm t caller)) (bound_to e x)) None → (b || is_among (names_of e) x) ≡ false) [
      | true ↦ λ h. cc
      | false ↦ λ h. unbound e x h
    ] free
unbound (with_location y l ws e) x free =
    elim (is_name y x) as (λ b. ◌≡◌ {A = Option Binding} (cond b (Some (ToLocation l ws)) (bound_to e x)) None → (b || is_among (names_of e) x) ≡ false) [
      | true ↦ λ h. cc
      | false ↦ λ h. unbound e x h
    ] free

module _ (program : Program) where
  load-values : (xs : List Name) (vs : List Value) → load program (bind_values xs vs) ≡ 0
  unfolding load
  load-values [] vs = refl
  load-values (x ∷ xs) [] = load-values xs []
  load-values (x ∷ xs) (v ∷ vs) = load-values xs vs

  -- a term that a name is bound to weighs no more than the load
  load_bounds : (e : Environment) (x : Name) (t : Term) (caller : Environment) → bound_to e x ≡ Some (ToTerm t caller)
      → size_within program nesting t (names_of caller) + load program caller ≤ load program e
  unfolding load
  load_bounds nothing_bound x t caller is = cc
  load_bounds (with_value y v e) x t caller is =
      elim (is_name y x) as (λ b. cond b (Some (ToValue v)) (bound_to e x) ≡ Some (ToTerm t caller) → size_within program nesting t (names_of caller) + load program caller ≤ load program e) [
        | true ↦ λ h. cc
        | false ↦ λ h. load_bounds e x t caller h
      ] is
  load_bounds (with_location y l ws e) x t caller is =
      elim (is_name y x) as (λ b. cond b (Some (ToLocation l ws)) (bound_to e x) ≡ Some (ToTerm t caller) → size_within program nesting t (names_of caller) + load program caller ≤ load program e) [
        | true ↦ λ h. cc
        | false ↦ λ h. load_bounds e x t caller h
      ] is
  load_bounds (with_term y s other e) x t caller is =
      elim (is_name y x) as (λ b. cond b (Some (ToTerm s other)) (bound_to e x) ≡ Some (ToTerm t caller)
      → size_within program nesting t (names_of caller) + load program caller ≤ max (size_within program nesting s (names_of other) + load program other) (load program e)) [
        | true ↦ λ h. own h
        | false ↦ λ h. let rest = load_bounds e x t caller h in omega (arith, rest)
      ] is
    where
      own : Some (ToTerm s other) ≡ Some (ToTerm t caller)
          → size_within program nesting t (names_of caller) + load program caller ≤ max (size_within program nesting s (names_of other) + load program other) (load program e)
      own h =
          let one : s ≡ t = cc in
          let two : other ≡ caller = cc in
          let sum : size_within program nesting s (names_of other) + load program other ≡ size_within program nesting t (names_of caller) + load program caller =
          λ i. size_within program nesting (one i) (names_of (two i)) + load program (two i) in
          omega (arith, sum)

-- ---- one step

module _ (program : Program) (body : List Name → Term → ℕ) where
  some_size : (t : Term) (bound : List Name) → 0 < size program body t bound
  unfolding size
  some_size (Constant v) bound = omega arith
  some_size (Named x ts) bound = omega arith
  some_size (Chain t links) bound = omega arith
  some_size (Not t) bound = omega arith
  some_size (Negative t) bound = omega arith
  some_size (Exists x u t) bound = omega arith
  some_size (Every x u t) bound = omega arith

  argument : (x : Name) (t : Term) (ts : Terms) (bound : List Name) → size program body t bound < size program body (Named x (term_then t ts)) bound
  unfolding size
  argument x t ts bound = omega arith

  later_argument : (x : Name) (t : Term) (ts : Terms) (bound : List Name) → size program body (Named x ts) bound < size program body (Named x (term_then t ts)) bound
  unfolding size
  later_argument x t ts bound = let some = some_size t bound in omega arith

  first : (t : Term) (links : Links) (bound : List Name) → size program body t bound < size program body (Chain t links) bound
  unfolding size
  first t links bound = omega arith

  link : (t u : Term) (o : Op) (links : Links) (bound : List Name) → size program body u bound < size program body (Chain t (link_then o u links)) bound
  unfolding size
  link t u o links bound = omega arith

  later_link : (t u : Term) (o : Op) (links : Links) (bound : List Name) → size program body (Chain t links) bound < size program body (Chain t (link_then o u links)) bound
  unfolding size
  later_link t u o links bound = let some = some_size u bound in omega arith

-- the size within a depth is that of one more step
within : (program : Program) (t : Term) (bound : List Name) → size_within program nesting t bound ≡ size program (λ xs t. size_within program 16 t xs) t bound
unfolding size_within
within program t bound = refl

-- what is smaller in each step is smaller at that depth
falls_within : (program : Program) (t u : Term) (b c : List Name) → ((body : List Name → Term → ℕ) → size program body t b < size program body u c)
    → size_within program nesting t b < size_within program nesting u c
falls_within program t u b c h = rw (within program t b, within program u c) (h (λ xs t. size_within program 16 t xs))

-- the size of a name that isn't bound is above that of its derived function's body
above_body : (program : Program) (n : ℕ) (x : Name) (ts : Terms) (bound : List Name) (xs : List Name) (t : Term) → is_among bound x ≡ false → declared program x ≡ Some (Derived xs t)
    → size_within program n t xs < size_within program (suc n) (Named x ts) bound
unfolding size_within size
above_body program n x ts bound xs t free d =
    let is : used program (λ ys u. size_within program n u ys) (is_among bound x) (declared program x) ≡ size_within program n t xs =
    λ i. used program (λ ys u. size_within program n u ys) (free i) (d i) in
    omega (arith, is)

module _ (program : Program) (rank : Name → ℕ) (e : Environment) (ranked : AreDerivedRanked program rank) where
  -- in one environment, or in two of one load
  lighter : (t u : Term) (f : Environment) → load program f ≡ load program e → ((body : List Name → Term → ℕ) → size program body t (names_of f) < size program body u (names_of e))
      → weight program f t < weight program e u
  unfolding weight
  lighter t u f one h = let small = falls_within program t u (names_of f) (names_of e) h in omega (arith, one, small)

  at_bound : (x : Name) (ts : Terms) (t : Term) (caller : Environment) → bound_to e x ≡ Some (ToTerm t caller) → weight program caller t < weight program e (Named x ts)
  unfolding weight
  at_bound x ts t caller is =
      let small : size_within program nesting t (names_of caller) + load program caller ≤ load program e = load_bounds program e x t caller is in
      let some : 0 < size_within program nesting (Named x ts) (names_of e) = rw (within program (Named x ts) (names_of e)) (some_size program (λ xs t. size_within program 16 t xs) (Named x ts) (names_of e)) in
      omega (arith, small, some)

  at_derived : (x : Name) (ts : Terms) (xs : List Name) (t : Term) (vs : List Value)
      → bound_to e x ≡ None → declared program x ≡ Some (Derived xs t) → rank x < nesting → weight program (bind_values xs vs) t < weight program e (Named x ts)
  unfolding weight
  at_derived x ts xs t vs free d below =
      let light : load program (bind_values xs vs) ≡ 0 = load-values program xs vs in
      let own : size_within program nesting t (names_of (bind_values xs vs)) ≡ size_within program nesting t xs = ap (size_within program nesting t) (names-values xs vs) in
      let deep : size_within program 16 t xs ≡ size_within program nesting t xs =
      deep_enough program rank ranked 16 nesting t xs (higher program rank (rank x) 16 (omega arith) t xs (ranked x xs t d)) (omega arith) in
      let above : size_within program 16 t xs < size_within program nesting (Named x ts) (names_of e) = above_body program 16 x ts (names_of e) xs t (unbound e x free) d in
      omega (arith, light, own, deep, above)

pub term_weights_fall : TermWeightsFall
unfolding size load
term_weights_fall program rank e ranked = record {
  at_argument = λ x t ts. lighter program rank e ranked t (Named x (term_then t ts)) e refl (λ body. argument program body x t ts (names_of e));
  at_later_argument = λ x t ts. lighter program rank e ranked (Named x ts) (Named x (term_then t ts)) e refl (λ body. later_argument program body x t ts (names_of e));
  at_first = λ t links. lighter program rank e ranked t (Chain t links) e refl (λ body. first program body t links (names_of e));
  at_link = λ t u o links. lighter program rank e ranked u (Chain t (link_then o u links)) e refl (λ body. link program body t u o links (names_of e));
  at_later_link = λ t u o links. lighter program rank e ranked (Chain t links) (Chain t (link_then o u links)) e refl (λ body. later_link program body t u o links (names_of e));
  at_not = λ t. lighter program rank e ranked t (Not t) e refl (λ body. omega arith);
  at_negative = λ t. lighter program rank e ranked t (Negative t) e refl (λ body. omega arith);
  at_exists = λ x u t v. lighter program rank e ranked t (Exists x u t) (with_value x v e) refl (λ body. omega arith);
  at_every = λ x u t v. lighter program rank e ranked t (Every x u t) (with_value x v e) refl (λ body. omega arith);
  at_bound = at_bound program rank e ranked;
  at_derived = at_derived program rank e ranked;
}

-- ---- rules

module _ (program : Program) (rank : Name → ℕ) (body₁ body₂ : Rule → ℕ) (n : ℕ)
    (alike : (f : Name) (xs : List Name) (P : Rule) → declared program f ≡ Some (NamedRule xs P) → rank f < n → body₁ P ≡ body₂ P) where
  mutual
    unfolding rule_size

    rule_same : (R : Rule) → CallsBelow program rank n R → rule_size program body₁ R ≡ rule_size program body₂ R
    rule_same Skip c = refl
    rule_same (Assign f ts t) c = refl
    rule_same (Call to f ts) c =
        subst (λ d. 1 + called_size program body₁ d ≡ 1 + called_size program body₂ d) (sym c.is_declared)
        (ap (λ k. 1 + k) (alike f c.parameters c.body c.is_declared c.is_below))
    rule_same (Par Ps) c = ap (λ k. 1 + k) (rules_same Ps c)
    rule_same (Seq Ps) c = ap (λ k. 1 + k) (rules_same Ps c)
    rule_same (If t P Q) c = λ i. 1 + (rule_same P c.0 i + rule_same Q c.1 i)
    rule_same (Let x t P) c = ap (λ k. 1 + k) (rule_same P c)
    rule_same (Forall x u t P) c = ap (λ k. 1 + k) (rule_same P c)
    rule_same (Choose x u t P Q) c = λ i. 1 + (rule_same P c.0 i + rule_same Q c.1 i)
    rule_same (Iterate P) c = ap (λ k. 1 + k) (rule_same P c)

    rules_same : (Ps : Rules) → EachCallsBelow program rank n Ps → rule_sizes program body₁ Ps ≡ rule_sizes program body₂ Ps
    rules_same no_rules c = refl
    rules_same (rule_then P Ps) c = λ i. rule_same P c.0 i + rules_same Ps c.1 i

above_called : (program : Program) (n : ℕ) (to : Option (Name × Terms)) (f : Name) (ts : Terms) (xs : List Name) (P : Rule) → declared program f ≡ Some (NamedRule xs P) → rule_size_within program n P < rule_size_within program (suc n) (Call to f ts)
unfolding rule_size_within rule_size
above_called program n to f ts xs P d =
    let is : called_size program (rule_size_within program n) (declared program f) ≡ rule_size_within program n P = ap (called_size program (rule_size_within program n)) d in
    omega (arith, is)

module _ (program : Program) (rank : Name → ℕ) (ranked : IsRanked program rank) where
  rule_deep_enough : (n m : ℕ) (R : Rule) → CallsBelow program rank n R → n ≤ m → rule_size_within program n R ≡ rule_size_within program m R
  unfolding rule_size_within
  rule_deep_enough zero zero R c h = refl
  rule_deep_enough zero (suc m) R c h = rule_same program rank _ _ zero (λ f xs P d below. absurd (omega arith)) R c
  rule_deep_enough (suc n) zero R c h = absurd (omega arith)
  rule_deep_enough (suc n) (suc m) R c h =
      rule_same program rank _ _ (suc n)
      (λ f xs P d below. rule_deep_enough n m P (lower program rank (rank f) n (omega arith) P (ranked f xs P d)) (omega arith)) R c

  at_call : (to : Option (Name × Terms)) (f : Name) (ts : Terms) (xs : List Name) (P : Rule) → declared program f ≡ Some (NamedRule xs P) → rank f < nesting → rule_weight program P < rule_weight program (Call to f ts)
  unfolding rule_weight
  at_call to f ts xs P d below =
      let deep : rule_size_within program 16 P ≡ rule_size_within program nesting P =
      rule_deep_enough 16 nesting P (lower program rank (rank f) 16 (omega arith) P (ranked f xs P d)) (omega arith) in
      let above : rule_size_within program 16 P < rule_size_within program nesting (Call to f ts) = above_called program 16 to f ts xs P d in
      omega (arith, deep, above)

module _ (program : Program) (body : Rule → ℕ) where
  some_rule_size : (R : Rule) → 0 < rule_size program body R
  unfolding rule_size
  some_rule_size Skip = omega arith
  some_rule_size (Assign f ts t) = omega arith
  some_rule_size (Call to f ts) = omega arith
  some_rule_size (Par Ps) = omega arith
  some_rule_size (Seq Ps) = omega arith
  some_rule_size (If t P Q) = omega arith
  some_rule_size (Let x t P) = omega arith
  some_rule_size (Forall x u t P) = omega arith
  some_rule_size (Choose x u t P Q) = omega arith
  some_rule_size (Iterate P) = omega arith

pub rule_within : (program : Program) (R : Rule) → rule_weight program R ≡ rule_size program (rule_size_within program 16) R
unfolding rule_weight rule_size_within
rule_within program R = refl

rule_falls : (program : Program) (P R : Rule) → ((body : Rule → ℕ) → rule_size program body P < rule_size program body R) → rule_weight program P < rule_weight program R
rule_falls program P R h = rw (rule_within program P, rule_within program R) (h (rule_size_within program 16))

later_par : (program : Program) (body : Rule → ℕ) (P : Rule) (Ps : Rules) → rule_size program body (Par Ps) < rule_size program body (Par (rule_then P Ps))
unfolding rule_size
later_par program body P Ps = let some = some_rule_size program body P in omega arith

later_seq : (program : Program) (body : Rule → ℕ) (P : Rule) (Ps : Rules) → rule_size program body (Seq Ps) < rule_size program body (Seq (rule_then P Ps))
unfolding rule_size
later_seq program body P Ps = let some = some_rule_size program body P in omega arith

pub call_weights_fall : CallWeightsFall
unfolding rule_size
call_weights_fall program rank ranked = record {
  at_call = at_call program rank ranked;
  at_par = λ P Ps. rule_falls program P (Par (rule_then P Ps)) (λ body. omega arith);
  at_later_par = λ P Ps. rule_falls program (Par Ps) (Par (rule_then P Ps)) (λ body. later_par program body P Ps);
  at_seq = λ P Ps. rule_falls program P (Seq (rule_then P Ps)) (λ body. omega arith);
  at_later_seq = λ P Ps. rule_falls program (Seq Ps) (Seq (rule_then P Ps)) (λ body. later_seq program body P Ps);
  at_then = λ c P Q. rule_falls program P (If c P Q) (λ body. omega arith);
  at_else = λ c P Q. rule_falls program Q (If c P Q) (λ body. omega arith);
  at_let = λ x t P. rule_falls program P (Let x t P) (λ body. omega arith);
  at_forall = λ x u c P. rule_falls program P (Forall x u c P) (λ body. omega arith);
  at_choose = λ x u c P Q. rule_falls program P (Choose x u c P Q) (λ body. omega arith);
  at_ifnone = λ x u c P Q. rule_falls program Q (Choose x u c P Q) (λ body. omega arith);
  at_iterate = λ P. rule_falls program P (Iterate P) (λ body. omega arith);
}
