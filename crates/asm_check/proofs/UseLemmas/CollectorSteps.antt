-- Free. Steps of the collector of uses, one after another.
use Rattle.std.proofs.Common.{◌≡◌, refl, sym, ap, subst, ◌∙◌, ℕ, suc, ◌+◌, ◌<◌, drop, get_or, add-one, drop-cons, List, [], ◌∷◌, ◌++◌, map, length, append_assoc, Option, Some, Result, Ok, Err, OnOk, Box, Vec, Global}
use Rattle.asm_state.specs.declared.operation.Op.{Op}
use Rattle.asm_syntax.specs.code.Views.{name_of, term_of, terms_of, links_of, target_of}
use Rattle.asm_syntax.specs.code.ViewCases.{term_of-Named, term_of-Chain}
use Rattle.asm_syntax.specs.declared.name.Name.{Name}
use Rattle.asm_syntax.specs.declared.rule.Target.{Target}
use Rattle.asm_syntax.specs.declared.term.Term.{Term}
use Rattle.asm_syntax.specs.declared.term.Term.TheVariants as term
use Rattle.asm_check.specs.Names.{Text, Role, InTerm, AsTarget, AsUniverse, Use, use_of, plain_use, term_count, uses_of_term, uses_of_terms, uses_of_links, uses_of_target}
use Rattle.asm_check.specs.code.uses.UseViews as views
use Rattle.asm_check.specs.code.uses.UseCollector.{bound_of, AddsUses}
use Rattle.asm_check.specs.declared.uses.collector.Collector.{Collector}

pub on_ok : {X E P Q : Type 0} → (r : Result X E) → (P → Q) → OnOk r P → OnOk r Q
on_ok (Ok x) f p = f p
on_ok (Err e) f p = p

pub adds_more : (a b c : Collector) (us vs : List Use) → AddsUses a b us → AddsUses b c vs → AddsUses a c (us ++ vs)
adds_more a b c us vs p q = record {
  found = q.found ∙ ap (λ w. w ++ vs) p.found ∙ append_assoc (map views.use_of a.found.items) us vs;
  binders = q.binders ∙ p.binders;
  parameters = q.parameters ∙ p.parameters;
}

pub same_bound : (a b : Collector) (us : List Use) → AddsUses a b us → bound_of b ≡ bound_of a
same_bound a b us p = rw (p.binders, p.parameters) refl

pub terms_are_counted : (ts : List Term) → term_count (terms_of (map term_of ts)) ≡ length ts
terms_are_counted [] = refl
terms_are_counted (t ∷ ts) = cc (terms_are_counted ts)

-- a name with its arguments
pub adds_applied : (role : Role) (name : Name) (ts : List Term) (n : ℕ) (a b c : Collector) → n ≡ length ts
    → AddsUses a b (use_of role (name_of name) n (bound_of a) ∷ []) → AddsUses b c (uses_of_terms (terms_of (map term_of ts)) (bound_of b))
    → AddsUses a c (use_of role (name_of name) (term_count (terms_of (map term_of ts))) (bound_of a) ∷ uses_of_terms (terms_of (map term_of ts)) (bound_of a))
adds_applied role name ts n a b c e p q =
    let named : AddsUses a b (use_of role (name_of name) (term_count (terms_of (map term_of ts))) (bound_of a) ∷ []) = subst (λ k. AddsUses a b (use_of role (name_of name) k (bound_of a) ∷ [])) (e ∙ sym (terms_are_counted ts)) p in
    let inside : AddsUses b c (uses_of_terms (terms_of (map term_of ts)) (bound_of a)) = subst (λ xs. AddsUses b c (uses_of_terms (terms_of (map term_of ts)) xs)) (same_bound a b (use_of role (name_of name) n (bound_of a) ∷ []) p) q in
    adds_more a b c (use_of role (name_of name) (term_count (terms_of (map term_of ts))) (bound_of a) ∷ []) (uses_of_terms (terms_of (map term_of ts)) (bound_of a)) named inside

pub adds_named : (t : Term) (name : Name) (ts : Vec Term Global) (n : ℕ) (a b c : Collector) → t ≡ term.Named name ts → n ≡ length ts.items
    → AddsUses a b (use_of InTerm (name_of name) n (bound_of a) ∷ []) → AddsUses b c (uses_of_terms (terms_of (map term_of ts.items)) (bound_of b))
    → AddsUses a c (uses_of_term (term_of t) (bound_of a))
adds_named t name ts n a b c is e p q = subst (λ x. AddsUses a c (uses_of_term x (bound_of a))) (sym (ap term_of is ∙ term_of-Named name ts)) (adds_applied InTerm name ts.items n a b c e p q)

pub adds_chain : (t : Term) (first : Box Term Global) (rest : Vec (Op × Term) Global) (x : Term) (a b c : Collector) → t ≡ term.Chain first rest → x ≡ first.value
    → AddsUses a b (uses_of_term (term_of x) (bound_of a)) → AddsUses b c (uses_of_links (links_of (map (λ l. (l.0, term_of l.1)) rest.items)) (bound_of b))
    → AddsUses a c (uses_of_term (term_of t) (bound_of a))
adds_chain t first rest x a b c is value p q =
    let inside : AddsUses b c (uses_of_links (links_of (map (λ l. (l.0, term_of l.1)) rest.items)) (bound_of a)) = subst (λ xs. AddsUses b c (uses_of_links (links_of (map (λ l. (l.0, term_of l.1)) rest.items)) xs)) (same_bound a b (uses_of_term (term_of x) (bound_of a)) p) q in
    let whole : AddsUses a c (uses_of_term (term_of x) (bound_of a) ++ uses_of_links (links_of (map (λ l. (l.0, term_of l.1)) rest.items)) (bound_of a)) = adds_more a b c (uses_of_term (term_of x) (bound_of a)) (uses_of_links (links_of (map (λ l. (l.0, term_of l.1)) rest.items)) (bound_of a)) p inside in
    subst (λ y. AddsUses a c (uses_of_term y (bound_of a))) (sym (ap term_of is ∙ term_of-Chain first rest))
    (subst (λ y. AddsUses a c (uses_of_term (term_of y) (bound_of a) ++ uses_of_links (links_of (map (λ l. (l.0, term_of l.1)) rest.items)) (bound_of a))) value whole)

-- an assignment
pub adds_assigned : (name : Name) (ts : List Term) (value : Term) (n : ℕ) (a b c d : Collector) → n ≡ length ts
    → AddsUses a b (use_of AsTarget (name_of name) n (bound_of a) ∷ []) → AddsUses b c (uses_of_terms (terms_of (map term_of ts)) (bound_of b)) → AddsUses c d (uses_of_term (term_of value) (bound_of c))
    → AddsUses a d (use_of AsTarget (name_of name) (term_count (terms_of (map term_of ts))) (bound_of a) ∷ uses_of_terms (terms_of (map term_of ts)) (bound_of a) ++ uses_of_term (term_of value) (bound_of a))
adds_assigned name ts value n a b c d e p q r =
    let target : AddsUses a c (use_of AsTarget (name_of name) (term_count (terms_of (map term_of ts))) (bound_of a) ∷ uses_of_terms (terms_of (map term_of ts)) (bound_of a)) = adds_applied AsTarget name ts n a b c e p q in
    let inside : AddsUses c d (uses_of_term (term_of value) (bound_of a)) = subst (λ xs. AddsUses c d (uses_of_term (term_of value) xs)) (same_bound a c (use_of AsTarget (name_of name) (term_count (terms_of (map term_of ts))) (bound_of a) ∷ uses_of_terms (terms_of (map term_of ts)) (bound_of a)) target) r in
    adds_more a c d (use_of AsTarget (name_of name) (term_count (terms_of (map term_of ts))) (bound_of a) ∷ uses_of_terms (terms_of (map term_of ts)) (bound_of a)) (uses_of_term (term_of value) (bound_of a)) target inside

-- the target of a call
pub adds_target : (to : Option Target) (it : Target) (n : ℕ) (a b c : Collector) → to ≡ Some it → n ≡ length it.arguments.items
    → AddsUses a b (use_of AsTarget (name_of it.name) n (bound_of a) ∷ []) → AddsUses b c (uses_of_terms (terms_of (map term_of it.arguments.items)) (bound_of b))
    → AddsUses a c (uses_of_target (target_of to) (bound_of a))
adds_target to it n a b c is e p q = subst (λ o. AddsUses a c (uses_of_target (target_of o) (bound_of a))) (sym is) (adds_applied AsTarget it.name it.arguments.items n a b c e p q)

-- a call, after the uses in its target
pub adds_called : (us : List Use) (role kept : Role) (name : Name) (ts : List Term) (n : ℕ) (a b c d : Collector) → role ≡ kept → n ≡ length ts
    → AddsUses a b us → AddsUses b c (use_of role (name_of name) n (bound_of b) ∷ []) → AddsUses c d (uses_of_terms (terms_of (map term_of ts)) (bound_of c))
    → AddsUses a d (us ++ use_of kept (name_of name) (term_count (terms_of (map term_of ts))) (bound_of a) ∷ uses_of_terms (terms_of (map term_of ts)) (bound_of a))
adds_called us role kept name ts n a b c d same e p q r =
    let here = λ (xs : List Text). use_of kept (name_of name) (term_count (terms_of (map term_of ts))) xs ∷ uses_of_terms (terms_of (map term_of ts)) xs in
    let named : AddsUses b c (use_of kept (name_of name) n (bound_of b) ∷ []) = subst (λ k. AddsUses b c (use_of k (name_of name) n (bound_of b) ∷ [])) same q in
    let call : AddsUses b d (here (bound_of b)) = adds_applied kept name ts n b c d e named r in
    adds_more a b d us (here (bound_of a)) p (subst (λ xs. AddsUses b d (here xs)) (same_bound a b us p) call)

-- one more universe of a domain
pub one_more_universe : (xs : List Name) (i : ℕ) (item : Name) (found more whole : List Use) → i < length xs → item ≡ get_or xs i item → more ≡ found ++ plain_use AsUniverse (name_of item) ∷ []
    → found ++ map (plain_use AsUniverse) (map name_of (drop i xs)) ≡ whole → more ++ map (plain_use AsUniverse) (map name_of (drop (i + 1) xs)) ≡ whole
one_more_universe xs i item found more whole below is adds so_far =
    let front : drop i xs ≡ item ∷ drop (i + 1) xs = drop-cons xs i item below ∙ ap (λ y. y ∷ drop (suc i) xs) (sym is) ∙ ap (λ j. item ∷ drop j xs) (sym (add-one i)) in
    ap (λ us. us ++ map (plain_use AsUniverse) (map name_of (drop (i + 1) xs))) adds
    ∙ append_assoc found (plain_use AsUniverse (name_of item) ∷ []) (map (plain_use AsUniverse) (map name_of (drop (i + 1) xs)))
    ∙ ap (λ ys. found ++ map (plain_use AsUniverse) (map name_of ys)) (sym front) ∙ so_far
