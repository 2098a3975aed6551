-- Free. Places for bodies: without any, and with one more body.
use Rattle.std.proofs.Common.{◌≡◌, ◌⊎◌, inl, inr, ℕ, zero, suc, List, [], ◌∷◌, ◌++◌, length, map, false, Option, Some, None, All, refl, sym, ap, subst, ◌∙◌, Vec, Global}
use Rattle.std.specs.Prelude.{slice_get, slice_set}
use Rattle.std.specs.Arc.{arc_value}
use Rattle.std.specs.declared.sync.Arc.{Arc}
use Rattle.std.proofs.lemmas.List.{length-set}
use Rattle.std.proofs.lemmas.List.Elements.{All-push, All-nil}
use Rattle.std.proofs.lemmas.Option.{get_or_from_slice_get, slice_get_within}
use Rattle.asm_syntax.specs.SourceTree.{Spec}
use Rattle.asm_syntax.specs.PlainTree.{plain_term}
use Rattle.asm_syntax.specs.code.Views.{name_of, term_of}
use Rattle.asm_syntax.specs.declared.name.Name.{Name as NameHere}
use Rattle.asm_syntax.specs.declared.term.Term.{Term}
use Rattle.asm_check.specs.Names as names
use Rattle.asm_check.specs.Numbers.{derived_of, rules_of, declared_with_number}
use Rattle.asm_check.specs.declared.checked.NameNumber.TheVariants as number
use Rattle.asm_meaning.specs.code.MeantTrees.{text_of}
use Rattle.asm_meaning.proofs.NumberedValues.{numbered_names-derived as numbered_derived}
use Rattle.asm_code.specs.code.CodeViews.{code_of}
use Rattle.asm_code.specs.code.RuleViews.{rule_of}
use Rattle.asm_code.specs.declared.code.Code.{Code}
use Rattle.asm_resolve.specs.code.RuleScopes.{AreRuleBodies, IsRuleBody}
use Rattle.asm_resolve.specs.code.Scopes.{AreResolvedBodies, IsBody, resolved_in}
use Rattle.asm_resolve.specs.code.Slots.{Slot, called_slots, names_in}
use Rattle.asm_resolve.proofs.ScopeLaws.{parameter_names}
use Rattle.asm_resolve.specs.declared.bodies.RuleBody.{RuleBody}

-- what is in a list in which one place was written
set_cases : {X : Type 0} (xs : List X) (n : ℕ) (y : X) (r : ℕ) (z : X) → slice_get (slice_set xs n y) r ≡ Some z → ((r ≡ n) × (z ≡ y)) ⊎ (slice_get xs r ≡ Some z)
set_cases [] n y r z at = inr at
set_cases (x ∷ xs) zero y zero z at = let same : z ≡ y = cc in inl (refl, same)
set_cases (x ∷ xs) zero y (suc r) z at = inr at
set_cases (x ∷ xs) (suc n) y zero z at = inr at
set_cases (x ∷ xs) (suc n) y (suc r) z at = by (set_cases xs n y r z at)
  where
    by : ((r ≡ n) × (z ≡ y)) ⊎ (slice_get xs r ≡ Some z) → ((suc r ≡ suc n) × (z ≡ y)) ⊎ (slice_get xs r ≡ Some z)
    by (inl it) = inl (ap suc it.0, it.1)
    by (inr it) = inr it

module _ (spec : Spec) where
  abbrev IsPlaced : ℕ → Option (Arc Code Global) → Type 0
  IsPlaced d o = (c : Arc Code Global) → o ≡ Some c → IsBody spec d (code_of (arc_value c))

  pub kept : (bodies : List (Option (Arc Code Global))) (n : ℕ) (code : Arc Code Global) → AreResolvedBodies spec bodies → IsBody spec n (code_of (arc_value code)) → AreResolvedBodies spec (slice_set bodies n (Some code))
  kept bodies n code are is = record {
    as_many = length-set bodies n (Some code) ∙ are.as_many;
    each = λ d c at. by d c (set_cases bodies n (Some code) d (Some c) at);
  }
    where
      by : (d : ℕ) (c : Arc Code Global) → ((d ≡ n) × (Some c ≡ Some code)) ⊎ (slice_get bodies d ≡ Some (Some c)) → IsBody spec d (code_of (arc_value c))
      by d c (inl it) = let same : c ≡ code = cc in subst (λ k. IsBody spec k (code_of (arc_value c))) (sym it.0) (subst (λ k. IsBody spec n (code_of (arc_value k))) (sym same) is)
      by d c (inr it) = are.each d c it

  pub no_bodies : (bodies : List (Option (Arc Code Global))) → length bodies ≡ length (derived_of spec) → All (λ (o : Option (Arc Code Global)). o ≡ None) bodies → AreResolvedBodies spec bodies
  no_bodies bodies many none = record {
    as_many = many;
    each = λ d c at. let there = none d None (slice_get_within bodies d (Some c) at) in let is = get_or_from_slice_get bodies d (Some c) None at in absurd (both c (sym is ∙ there));
  }
    where
      both : (c : Arc Code Global) → Some c ≡ None → ⊥
      both c e = cc

  abbrev IsOneOf : ℕ → RuleBody → Type 0
  IsOneOf r b = IsRuleBody spec r b.answers b.bound (rule_of (arc_value b.code))

  pub kept_rule : (bodies : List (Vec RuleBody Global)) (n : ℕ) (those more : Vec RuleBody Global) (b : RuleBody) → AreRuleBodies spec bodies → slice_get bodies n ≡ Some those
      → more.items ≡ those.items ++ b ∷ [] → IsOneOf n b → AreRuleBodies spec (slice_set bodies n more)
  kept_rule bodies n those more b are at added is = record {
    as_many = length-set bodies n more ∙ are.as_many;
    each = λ r found here. by r found (set_cases bodies n more r found here);
  }
    where
      by : (r : ℕ) (found : Vec RuleBody Global) → ((r ≡ n) × (found ≡ more)) ⊎ (slice_get bodies r ≡ Some found) → All (IsOneOf r) found.items
      by r found (inl it) =
          subst (λ k. All (IsOneOf k) found.items) (sym it.0)
          (subst (λ bs. All (IsOneOf n) bs) (sym (ap (λ (v : Vec RuleBody Global). v.items) it.1 ∙ added)) (All-push (IsOneOf n) those.items b (are.each n those at) is))
      by r found (inr it) = are.each r found it

  pub no_rule_bodies : (bodies : List (Vec RuleBody Global)) → length bodies ≡ length (rules_of spec) → All (λ (those : Vec RuleBody Global). those.items ≡ []) bodies → AreRuleBodies spec bodies
  no_rule_bodies bodies many none = record {
    as_many = many;
    each = λ r those at. let here = none r those (slice_get_within bodies r those at) in let is = get_or_from_slice_get bodies r those those at in
        subst (λ bs. All (IsOneOf r) bs) (sym (ap (λ (v : Vec RuleBody Global). v.items) (sym is) ∙ here)) (All-nil (IsOneOf r));
  }

-- the body of the derived function with a number, by the code of its term
pub body_is : (spec : Spec) (d : ℕ) (xs : List NameHere) (t : Term) → declared_with_number (derived_of spec) d ≡ Some (names.Derived (map name_of xs) (term_of t)) → (slots : List Slot)
    → slots ≡ called_slots false (map text_of xs) → (c body : Code) → body ≡ c → resolved_in spec (names_in slots) (plain_term (term_of t)) (code_of c) → IsBody spec d (code_of body)
body_is spec d xs t says slots is c body put it = record {
  parameters = map text_of xs;
  body = plain_term (term_of t);
  stands = numbered_derived spec (Some (number.Derived d)) d xs t refl says;
  resolved = subst (λ ns. resolved_in spec ns (plain_term (term_of t)) (code_of body)) (parameter_names slots xs is)
      (subst (λ k. resolved_in spec (names_in slots) (plain_term (term_of t)) (code_of k)) (sym put) it);
}
