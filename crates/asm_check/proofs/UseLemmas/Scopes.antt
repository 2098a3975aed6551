-- Free. Scopes: the names that are bound at an offset, and that only these matter for the uses
-- there.
use Rattle.std.proofs.Common.{◌≡◌, refl, sym, ap, ◌∙◌, ℕ, ◌+◌, ◌<◌, length, take, get_or, cond, Bool, true, false, ◌||◌, List, [], ◌∷◌, ◌++◌, map, reverse, Option, Some, None, nat_eq, Bor, arith}
use Rattle.std.specs.List.{list_any}
use Rattle.std.proofs.lemmas.Bool.Decides.{nat_tests}
use Rattle.std.proofs.lemmas.List.{map-append, map_more}
use Rattle.std.proofs.lemmas.List.Folds.{list_any-append}
use Rattle.std.proofs.lemmas.List.Sorted.{list_any-IsPermutation, IsPermutation-reverse}
use Rattle.std.proofs.Math.Bool.{or-false}
use Rattle.asm_syntax.specs.SourceTree.{Name, Term, Constant, Named, Chain, Not, Negative, Exists, Every, Result, Terms, no_terms, term_then, Links, no_links, link_then, Rule, Skip, Assign, Call, Par, Seq, If, Let, Forall, Choose, Iterate, While, SetResult, Rules, no_rules, rule_then, Branch, left_out, written}
use Rattle.asm_syntax.specs.declared.name.Name as code
use Rattle.asm_syntax.specs.code.Views.{name_of}
use Rattle.asm_check.specs.Names.{Text, text_of, is_text, is_among, Role, InTerm, AsTarget, AsUniverse, AsResult, Use, use_of, plain_use, term_count, rule_role, uses_of_term, uses_of_terms, uses_of_links, uses_of_test, uses_of_target, uses_of_rule, uses_of_rules, uses_of_branch}
use Rattle.asm_check.specs.code.uses.UseCollector.{IsSameScope}
use Rattle.asm_check.specs.code.names.TextKeys.{is_spelled}
use Rattle.asm_check.proofs.UseLemmas.TextsInSets.{one_more_key}

pub nat_symmetric : (x y : ℕ) → nat_eq x y ≡ nat_eq y x
nat_symmetric x y = grind (arith, nat_tests)

pub text_symmetric : (x y : Text) → is_text x y ≡ is_text y x
text_symmetric [] [] = refl
text_symmetric [] (y ∷ ys) = refl
text_symmetric (x ∷ xs) [] = refl
text_symmetric (x ∷ xs) (y ∷ ys) = rw (nat_symmetric x y, text_symmetric xs ys) refl

pub among_reverse : (xs : List Text) (x : Text) → is_among (reverse xs) x ≡ is_among xs x
among_reverse xs x = sym (list_any-IsPermutation (λ y. is_text y x) xs (reverse xs) (IsPermutation-reverse xs))

pub among_binders : (bs : List (Bor Text)) (x : Text) → is_among (map (λ b. b.now) bs) x ≡ list_any (λ b. is_text b.now x) bs
among_binders [] x = refl
among_binders (b ∷ bs) x = ap (λ r. is_text b.now x || r) (among_binders bs x)

pub among_parameters : (ps : List (Bor Text)) (x : Text) → is_among (map (λ p. p.now) ps) x ≡ list_any (λ p. is_text x p.now) ps
among_parameters [] x = refl
among_parameters (p ∷ ps) x = rw (text_symmetric p.now x, among_parameters ps x) refl

-- a name is bound by a binder or a parameter
pub among_bound : (bs ps : List (Bor Text)) (x : Text) → is_among (reverse (map (λ b. b.now) bs) ++ map (λ p. p.now) ps) x ≡ (list_any (λ b. is_text b.now x) bs || list_any (λ p. is_text x p.now) ps)
among_bound bs ps x =
    let split = list_any-append (λ y. is_text y x) (reverse (map (λ b. b.now) bs)) (map (λ p. p.now) ps) in
    let binders = among_reverse (map (λ b. b.now) bs) x ∙ among_binders bs x in
    let parameters = among_parameters ps x in
    cc

-- ---- the parameters, as a set of texts

pub among_inserted : (ks new : List (Bor Text)) (k : Bor Text)
    → ((q : Bor Text) → list_any (λ r. is_spelled q.now r.now) new ≡ cond (is_spelled k.now q.now) true (list_any (λ r. is_spelled q.now r.now) ks))
    → (x : Text) → is_among (map (λ p. p.now) new) x ≡ (is_among (map (λ p. p.now) ks) x || is_text k.now x)
among_inserted ks new k put x =
    among_parameters new x ∙ one_more_key ks new k put x ∙ ap (λ b. b || is_text x k.now) (sym (among_parameters ks x)) ∙ ap (λ b. is_among (map (λ p. p.now) ks) x || b) (text_symmetric x k.now)

or_turn : (a b c : Bool) → (a || (b || c)) ≡ (c || (a || b))
or_turn true b true = refl
or_turn true b false = refl
or_turn false true true = refl
or_turn false true false = refl
or_turn false false true = refl
or_turn false false false = refl

-- one more name, after the binders
pub one_more_bound : (bs : List Text) (ks new : List (Bor Text)) (t : Text) (ys : List Text)
    → ((q : Bor Text) → list_any (λ r. is_spelled q.now r.now) new ≡ cond (is_spelled t q.now) true (list_any (λ r. is_spelled q.now r.now) ks))
    → IsSameScope (bs ++ map (λ p. p.now) ks) ys → IsSameScope (bs ++ map (λ p. p.now) new) (t ∷ ys)
one_more_bound bs ks new t ys put same x =
    let k : Bor Text = record { ref_ptr = (0, 0); now = t } in
    list_any-append (λ y. is_text y x) bs (map (λ p. p.now) new)
    ∙ ap (λ b. is_among bs x || b) (among_inserted ks new k put x)
    ∙ or_turn (is_among bs x) (is_among (map (λ p. p.now) ks) x) (is_text t x)
    ∙ ap (λ b. is_text t x || b) (sym (list_any-append (λ y. is_text y x) bs (map (λ p. p.now) ks)) ∙ same x)

-- one more parameter
pub one_more_parameter : (ks new : List (Bor Text)) (k : Bor Text) (xs : List code.Name) (i : ℕ) (item : code.Name) → i < length xs → item ≡ get_or xs i item → k.now ≡ item.text
    → ((q : Bor Text) → list_any (λ r. is_spelled q.now r.now) new ≡ cond (is_spelled k.now q.now) true (list_any (λ r. is_spelled q.now r.now) ks))
    → IsSameScope (map (λ p. p.now) ks) (map text_of (map name_of (take i xs))) → IsSameScope (map (λ p. p.now) new) (map text_of (map name_of (take (i + 1) xs)))
one_more_parameter ks new k xs i item below is text put same x =
    let more : map text_of (map name_of (take (i + 1) xs)) ≡ map text_of (map name_of (take i xs)) ++ item.text ∷ [] =
    ap (map text_of) (map_more name_of xs i item below) ∙ map-append text_of (map name_of (take i xs)) (name_of (get_or xs i item) ∷ []) ∙ ap (λ (n : code.Name). map text_of (map name_of (take i xs)) ++ n.text ∷ []) (sym is) in
    among_inserted ks new k put x ∙ ap (λ b. b || is_text k.now x) (same x) ∙ ap (λ t. is_among (map text_of (map name_of (take i xs))) x || is_text t x) text
    ∙ sym (ap (λ ys. is_among ys x) more ∙ list_any-append (λ y. is_text y x) (map text_of (map name_of (take i xs))) (item.text ∷ []) ∙ ap (λ b. is_among (map text_of (map name_of (take i xs))) x || b) (or-false (is_text item.text x)))

-- ---- only the bound names matter

pub same_inside : (x : Text) (xs ys : List Text) → IsSameScope xs ys → IsSameScope (x ∷ xs) (x ∷ ys)
same_inside x xs ys same y = ap (λ b. is_text x y || b) (same y)

pub same_use : (role : Role) (x : Name) (n : ℕ) (xs ys : List Text) → IsSameScope xs ys → use_of role x n xs ≡ use_of role x n ys
same_use role x n xs ys same = ap (λ (b : Bool). let u : Use = record { role = role; name = x; count = n; is_bound = b } in u) (same x.text)

both : {X : Type 0} (a b c d : List X) → a ≡ b → c ≡ d → a ++ c ≡ b ++ d
both a b c d p q = cc

mutual
  pub same_term : (t : Term) (xs ys : List Text) → IsSameScope xs ys → uses_of_term t xs ≡ uses_of_term t ys
  same_term (Constant v) xs ys same = refl
  same_term (Named x ts) xs ys same = both (use_of InTerm x (term_count ts) xs ∷ []) (use_of InTerm x (term_count ts) ys ∷ []) (uses_of_terms ts xs) (uses_of_terms ts ys) (ap (λ u. u ∷ []) (same_use InTerm x (term_count ts) xs ys same)) (same_terms ts xs ys same)
  same_term (Chain t links) xs ys same = both (uses_of_term t xs) (uses_of_term t ys) (uses_of_links links xs) (uses_of_links links ys) (same_term t xs ys same) (same_links links xs ys same)
  same_term (Not t) xs ys same = same_term t xs ys same
  same_term (Negative t) xs ys same = same_term t xs ys same
  same_term (Exists x over t) xs ys same = ap (λ us. plain_use AsUniverse over ∷ us) (same_term t (x.text ∷ xs) (x.text ∷ ys) (same_inside x.text xs ys same))
  same_term (Every x over t) xs ys same = ap (λ us. plain_use AsUniverse over ∷ us) (same_term t (x.text ∷ xs) (x.text ∷ ys) (same_inside x.text xs ys same))
  same_term (Result x) xs ys same = ap (λ u. u ∷ []) (same_use AsResult x 0 xs ys same)

  pub same_terms : (ts : Terms) (xs ys : List Text) → IsSameScope xs ys → uses_of_terms ts xs ≡ uses_of_terms ts ys
  same_terms no_terms xs ys same = refl
  same_terms (term_then t ts) xs ys same = both (uses_of_term t xs) (uses_of_term t ys) (uses_of_terms ts xs) (uses_of_terms ts ys) (same_term t xs ys same) (same_terms ts xs ys same)

  pub same_links : (ls : Links) (xs ys : List Text) → IsSameScope xs ys → uses_of_links ls xs ≡ uses_of_links ls ys
  same_links no_links xs ys same = refl
  same_links (link_then o t ls) xs ys same = both (uses_of_term t xs) (uses_of_term t ys) (uses_of_links ls xs) (uses_of_links ls ys) (same_term t xs ys same) (same_links ls xs ys same)

-- a name with its arguments
pub same_applied : (role : Role) (x : Name) (ts : Terms) (xs ys : List Text) → IsSameScope xs ys → use_of role x (term_count ts) xs ∷ uses_of_terms ts xs ≡ use_of role x (term_count ts) ys ∷ uses_of_terms ts ys
same_applied role x ts xs ys same =
    both (use_of role x (term_count ts) xs ∷ []) (use_of role x (term_count ts) ys ∷ []) (uses_of_terms ts xs) (uses_of_terms ts ys) (ap (λ u. u ∷ []) (same_use role x (term_count ts) xs ys same)) (same_terms ts xs ys same)

pub same_target : (to : Option (Name × Terms)) (xs ys : List Text) → IsSameScope xs ys → uses_of_target to xs ≡ uses_of_target to ys
same_target None xs ys same = refl
same_target (Some (f, ts)) xs ys same = same_applied AsTarget f ts xs ys same

pub same_test : (t : Option Term) (xs ys : List Text) → IsSameScope xs ys → uses_of_test t xs ≡ uses_of_test t ys
same_test None xs ys same = refl
same_test (Some t) xs ys same = same_term t xs ys same

mutual
  pub same_rule : (P : Rule) (xs ys : List Text) → IsSameScope xs ys → uses_of_rule P xs ≡ uses_of_rule P ys
  same_rule Skip xs ys same = refl
  same_rule (Assign f ts t) xs ys same = both (use_of AsTarget f (term_count ts) xs ∷ uses_of_terms ts xs) (use_of AsTarget f (term_count ts) ys ∷ uses_of_terms ts ys) (uses_of_term t xs) (uses_of_term t ys)
      (same_applied AsTarget f ts xs ys same) (same_term t xs ys same)
  same_rule (Call to r ts) xs ys same = both (uses_of_target to xs) (uses_of_target to ys) (use_of (rule_role to) r (term_count ts) xs ∷ uses_of_terms ts xs) (use_of (rule_role to) r (term_count ts) ys ∷ uses_of_terms ts ys)
      (same_target to xs ys same) (same_applied (rule_role to) r ts xs ys same)
  same_rule (Par Ps) xs ys same = same_rules Ps xs ys same
  same_rule (Seq Ps) xs ys same = same_rules Ps xs ys same
  same_rule (If t P Q) xs ys same = both (uses_of_term t xs ++ uses_of_rule P xs) (uses_of_term t ys ++ uses_of_rule P ys) (uses_of_branch Q xs) (uses_of_branch Q ys)
      (both (uses_of_term t xs) (uses_of_term t ys) (uses_of_rule P xs) (uses_of_rule P ys) (same_term t xs ys same) (same_rule P xs ys same)) (same_branch Q xs ys same)
  same_rule (Let x t P) xs ys same = both (uses_of_term t xs) (uses_of_term t ys) (uses_of_rule P (x.text ∷ xs)) (uses_of_rule P (x.text ∷ ys)) (same_term t xs ys same) (same_rule P (x.text ∷ xs) (x.text ∷ ys) (same_inside x.text xs ys same))
  same_rule (Forall x over t P) xs ys same = both (plain_use AsUniverse over ∷ uses_of_test t (x.text ∷ xs)) (plain_use AsUniverse over ∷ uses_of_test t (x.text ∷ ys)) (uses_of_rule P (x.text ∷ xs)) (uses_of_rule P (x.text ∷ ys))
      (ap (λ us. plain_use AsUniverse over ∷ us) (same_test t (x.text ∷ xs) (x.text ∷ ys) (same_inside x.text xs ys same))) (same_rule P (x.text ∷ xs) (x.text ∷ ys) (same_inside x.text xs ys same))
  same_rule (Choose x over t P Q) xs ys same = both (plain_use AsUniverse over ∷ uses_of_test t (x.text ∷ xs) ++ uses_of_rule P (x.text ∷ xs)) (plain_use AsUniverse over ∷ uses_of_test t (x.text ∷ ys) ++ uses_of_rule P (x.text ∷ ys)) (uses_of_branch Q xs) (uses_of_branch Q ys)
      (both (plain_use AsUniverse over ∷ uses_of_test t (x.text ∷ xs)) (plain_use AsUniverse over ∷ uses_of_test t (x.text ∷ ys)) (uses_of_rule P (x.text ∷ xs)) (uses_of_rule P (x.text ∷ ys))
      (ap (λ us. plain_use AsUniverse over ∷ us) (same_test t (x.text ∷ xs) (x.text ∷ ys) (same_inside x.text xs ys same))) (same_rule P (x.text ∷ xs) (x.text ∷ ys) (same_inside x.text xs ys same)))
      (same_branch Q xs ys same)
  same_rule (Iterate P) xs ys same = same_rule P xs ys same
  same_rule (While t P) xs ys same = both (uses_of_term t xs) (uses_of_term t ys) (uses_of_rule P xs) (uses_of_rule P ys) (same_term t xs ys same) (same_rule P xs ys same)
  same_rule (SetResult x t) xs ys same = both (use_of AsResult x 0 xs ∷ []) (use_of AsResult x 0 ys ∷ []) (uses_of_term t xs) (uses_of_term t ys) (ap (λ u. u ∷ []) (same_use AsResult x 0 xs ys same)) (same_term t xs ys same)

  pub same_rules : (Ps : Rules) (xs ys : List Text) → IsSameScope xs ys → uses_of_rules Ps xs ≡ uses_of_rules Ps ys
  same_rules no_rules xs ys same = refl
  same_rules (rule_then P Ps) xs ys same = both (uses_of_rule P xs) (uses_of_rule P ys) (uses_of_rules Ps xs) (uses_of_rules Ps ys) (same_rule P xs ys same) (same_rules Ps xs ys same)

  pub same_branch : (Q : Branch) (xs ys : List Text) → IsSameScope xs ys → uses_of_branch Q xs ≡ uses_of_branch Q ys
  same_branch left_out xs ys same = refl
  same_branch (written P) xs ys same = same_rule P xs ys same
