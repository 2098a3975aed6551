-- Free. Which names are bound decides whether a term or a rule is fit, and not their order.
use Rattle.std.proofs.Common.{ℕ, List, ◌∷◌, Option, Some, None, subst, inl, inr}
use Rattle.std.specs.Prelude.{◌↔◌, Contains}
use Rattle.asm_state.proofs.Lists.{Contains-cons_cases, Contains-first, Contains-later}
use Rattle.asm_syntax.specs.SourceTree.{Name, Term, Constant, Named, Chain, Not, Negative, Exists, Every, Result, Terms, no_terms, term_then, Links, no_links, link_then, Rule, Skip, Assign, Call, Par, Seq, If, Let, Forall, Choose, Iterate, While, SetResult, Rules, no_rules, rule_then, Branch, left_out, written, Spec}
use Rattle.asm_check.specs.Fit.{IsFitUse, IsFitTerm, AreFitTerms, AreFitLinks, IsFitTest, IsFitTarget, IsFitTargetOf, IsFitRule, AreFitRules, IsFitBranch}
use Rattle.asm_check.specs.Laws.{ScopesByMembers}
use Rattle.asm_check.specs.Names.{Text}

abbrev BindsSame : List Text → List Text → Type 0
BindsSame xs ys = (x : Text) → Contains xs x ↔ Contains ys x

one_way : (t : Text) (xs ys : List Text) → ((x : Text) → Contains xs x → Contains ys x) → (x : Text) → Contains (t ∷ xs) x → Contains (t ∷ ys) x
one_way t xs ys h x c =
    elim (Contains-cons_cases t xs x c) [
      | inl same ↦ subst (Contains (t ∷ ys)) same (Contains-first t ys)
      | inr rest ↦ Contains-later t ys x (h x rest)
    ]

-- one name more
within : (t : Text) (xs ys : List Text) → BindsSame xs ys → BindsSame (t ∷ xs) (t ∷ ys)
within t xs ys same x = (one_way t xs ys (λ y. (same y).0) x, one_way t ys xs (λ y. (same y).1) x)

module _ (spec : Spec) where
  same_use : (x : Name) (n : ℕ) (xs ys : List Text) → BindsSame xs ys → IsFitUse spec x n xs → IsFitUse spec x n ys
  same_use x n xs ys same (inl it) = inl ((same x.text).0 it.0, it.1)
  same_use x n xs ys same (inr it) = inr (λ c. it.0 ((same x.text).1 c), it.1)

  same_target : (x : Name) (n : ℕ) (xs ys : List Text) → BindsSame xs ys → IsFitTarget spec x n xs → IsFitTarget spec x n ys
  same_target x n xs ys same it =
      record { free = λ c. it.free ((same x.text).1 c); function = it.function; domain = it.domain; stands = it.stands; means = it.means; counted = it.counted }

  mutual
    same_term : (t : Term) (xs ys : List Text) → BindsSame xs ys → IsFitTerm spec t xs → IsFitTerm spec t ys
    same_term (Constant v) xs ys same it = tt
    same_term (Named x ts) xs ys same it = (same_use x _ xs ys same it.0, same_terms ts xs ys same it.1)
    same_term (Chain t links) xs ys same it = (same_term t xs ys same it.0, same_links links xs ys same it.1)
    same_term (Not t) xs ys same it = same_term t xs ys same it
    same_term (Negative t) xs ys same it = same_term t xs ys same it
    same_term (Exists x over t) xs ys same it = (it.0, same_term t (x.text ∷ xs) (x.text ∷ ys) (within x.text xs ys same) it.1)
    same_term (Every x over t) xs ys same it = (it.0, same_term t (x.text ∷ xs) (x.text ∷ ys) (within x.text xs ys same) it.1)
    same_term (Result x) xs ys same it = (same x.text).0 it

    same_terms : (ts : Terms) (xs ys : List Text) → BindsSame xs ys → AreFitTerms spec ts xs → AreFitTerms spec ts ys
    same_terms no_terms xs ys same it = tt
    same_terms (term_then t ts) xs ys same it = (same_term t xs ys same it.0, same_terms ts xs ys same it.1)

    same_links : (links : Links) (xs ys : List Text) → BindsSame xs ys → AreFitLinks spec links xs → AreFitLinks spec links ys
    same_links no_links xs ys same it = tt
    same_links (link_then o t links) xs ys same it = (same_term t xs ys same it.0, same_links links xs ys same it.1)

  same_test : (t : Option Term) (xs ys : List Text) → BindsSame xs ys → IsFitTest spec t xs → IsFitTest spec t ys
  same_test None xs ys same it = tt
  same_test (Some t) xs ys same it = same_term t xs ys same it

  same_answer : (to : Option (Name × Terms)) (xs ys : List Text) → BindsSame xs ys → IsFitTargetOf spec to xs → IsFitTargetOf spec to ys
  same_answer None xs ys same it = tt
  same_answer (Some (f, ts)) xs ys same it = (same_target f _ xs ys same it.0, same_terms ts xs ys same it.1)

  mutual
    same_rule : (R : Rule) (xs ys : List Text) → BindsSame xs ys → IsFitRule spec R xs → IsFitRule spec R ys
    same_rule Skip xs ys same it = tt
    same_rule (Assign f ts t) xs ys same it = (same_target f _ xs ys same it.0, same_terms ts xs ys same it.1, same_term t xs ys same it.2)
    same_rule (Call to r ts) xs ys same it = (same_answer to xs ys same it.0, it.1, same_terms ts xs ys same it.2)
    same_rule (Par Ps) xs ys same it = same_rules Ps xs ys same it
    same_rule (Seq Ps) xs ys same it = same_rules Ps xs ys same it
    same_rule (If t P Q) xs ys same it = (same_term t xs ys same it.0, same_rule P xs ys same it.1, same_branch Q xs ys same it.2)
    same_rule (Let x t P) xs ys same it = (same_term t xs ys same it.0, same_rule P (x.text ∷ xs) (x.text ∷ ys) (within x.text xs ys same) it.1)
    same_rule (Forall x over t P) xs ys same it =
        let more = within x.text xs ys same in
        (it.0, same_test t (x.text ∷ xs) (x.text ∷ ys) more it.1, same_rule P (x.text ∷ xs) (x.text ∷ ys) more it.2)
    same_rule (Choose x over t P Q) xs ys same it =
        let more = within x.text xs ys same in
        (it.0, same_test t (x.text ∷ xs) (x.text ∷ ys) more it.1, same_rule P (x.text ∷ xs) (x.text ∷ ys) more it.2, same_branch Q xs ys same it.3)
    same_rule (Iterate P) xs ys same it = same_rule P xs ys same it
    same_rule (While t P) xs ys same it = (same_term t xs ys same it.0, same_rule P xs ys same it.1)
    same_rule (SetResult x t) xs ys same it = ((same x.text).0 it.0, same_term t xs ys same it.1)

    same_rules : (Ps : Rules) (xs ys : List Text) → BindsSame xs ys → AreFitRules spec Ps xs → AreFitRules spec Ps ys
    same_rules no_rules xs ys same it = tt
    same_rules (rule_then P Ps) xs ys same it = (same_rule P xs ys same it.0, same_rules Ps xs ys same it.1)

    same_branch : (Q : Branch) (xs ys : List Text) → BindsSame xs ys → IsFitBranch spec Q xs → IsFitBranch spec Q ys
    same_branch left_out xs ys same it = tt
    same_branch (written P) xs ys same it = same_rule P xs ys same it

pub scopes_by_members : ScopesByMembers
scopes_by_members spec xs ys same = (λ t it. same_term spec t xs ys same it, λ R it. same_rule spec R xs ys same it)
