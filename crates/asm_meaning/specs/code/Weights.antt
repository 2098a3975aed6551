-- Bridge to the code. Numbers that fall on the way of an evaluation: the size of a term or rule,
-- with the bodies that it uses written out.
--     weight program e t      of a term under an environment: it falls at each subterm, at the term
--                             that a name is bound to, and at the body of a derived function
--     rule_weight program R   of a rule: it falls at each part, and at the body of a rule that is
--                             called
use Rattle.std.specs.Prelude.{◌≡◌, ◌<◌, ℕ, zero, suc, ◌+◌, max, Bool, false, List, [], ◌∷◌, Option, Some, None}
use Rattle.asm_state.specs.declared.value.Value.{Value}
use Rattle.asm_state.specs.declared.operation.Op.{Op}
use Rattle.asm_syntax.specs.Tree.{Name, Term, Constant, Named, Chain, Not, Negative, Exists, Every, Terms, no_terms, term_then, Links, no_links, link_then, Rule, Skip, Assign, Call, Par, Seq, If, Let, Forall, Choose, Iterate, Rules, no_rules, rule_then}
use Rattle.asm_meaning.specs.Program.{Program, Declared, Derived, NamedRule, declared, Environment, nothing_bound, with_value, with_term, with_location, bind_values, ToTerm, bound_to}
use Rattle.asm_meaning.specs.Value.{nesting}
use Rattle.asm_meaning.specs.Ranks.{is_among, AreDerivedRanked, IsRanked}

abbrev pub names_of : Environment → List Name
names_of nothing_bound = []
names_of (with_value x v e) = x ∷ names_of e
names_of (with_term x t caller e) = x ∷ names_of e
names_of (with_location x l ws e) = x ∷ names_of e

module _ (program : Program) (body : List Name → Term → ℕ) where
  -- a name that isn't bound has the size of the derived function's body
  abbrev pub used : Bool → Option Declared → ℕ
  used false (Some (Derived xs t)) = body xs t
  used _ _ = 0

  unfoldable mutual
    pub size : Term → (bound : List Name) → ℕ
    size (Constant v) bound = 1
    size (Named x ts) bound = 1 + (sizes ts bound + used (is_among bound x) (declared program x))
    size (Chain t links) bound = 1 + (size t bound + link_sizes links bound)
    size (Not t) bound = 1 + size t bound
    size (Negative t) bound = 1 + size t bound
    size (Exists x u t) bound = 1 + size t (x ∷ bound)
    size (Every x u t) bound = 1 + size t (x ∷ bound)

    pub sizes : Terms → (bound : List Name) → ℕ
    sizes no_terms bound = 0
    sizes (term_then t ts) bound = size t bound + sizes ts bound

    pub link_sizes : Links → (bound : List Name) → ℕ
    link_sizes no_links bound = 0
    link_sizes (link_then o t links) bound = size t bound + link_sizes links bound

-- bodies that are nested deeper than n count nothing
unfoldable pub size_within : Program → ℕ → Term → (bound : List Name) → ℕ
size_within program zero = size program (λ xs t. 0)
size_within program (suc n) = size program (λ xs t. size_within program n t xs)

-- the greatest weight of a term that a name is bound to
unfoldable pub load : Program → Environment → ℕ
load program nothing_bound = 0
load program (with_value x v e) = load program e
load program (with_term x t caller e) = max (size_within program nesting t (names_of caller) + load program caller) (load program e)
load program (with_location x l ws e) = load program e

unfoldable pub weight : Program → Environment → Term → ℕ
weight program e t = size_within program nesting t (names_of e) + load program e

pub record WeightsFall (program : Program) (rank : Name → ℕ) (e : Environment) : Type 0 where
  pub at_argument : (x : Name) (t : Term) (ts : Terms) → weight program e t < weight program e (Named x (term_then t ts))
  pub at_later_argument : (x : Name) (t : Term) (ts : Terms) → weight program e (Named x ts) < weight program e (Named x (term_then t ts))
  pub at_first : (t : Term) (links : Links) → weight program e t < weight program e (Chain t links)
  pub at_link : (t u : Term) (o : Op) (links : Links) → weight program e u < weight program e (Chain t (link_then o u links))
  pub at_later_link : (t u : Term) (o : Op) (links : Links) → weight program e (Chain t links) < weight program e (Chain t (link_then o u links))
  pub at_not : (t : Term) → weight program e t < weight program e (Not t)
  pub at_negative : (t : Term) → weight program e t < weight program e (Negative t)
  pub at_exists : (x u : Name) (t : Term) (v : Value) → weight program (with_value x v e) t < weight program e (Exists x u t)
  pub at_every : (x u : Name) (t : Term) (v : Value) → weight program (with_value x v e) t < weight program e (Every x u t)
  pub at_bound : (x : Name) (ts : Terms) (t : Term) (caller : Environment) → bound_to e x ≡ Some (ToTerm t caller)
      → weight program caller t < weight program e (Named x ts)
  pub at_derived : (x : Name) (ts : Terms) (xs : List Name) (t : Term) (vs : List Value)
      → bound_to e x ≡ None → declared program x ≡ Some (Derived xs t) → rank x < nesting
      → weight program (bind_values xs vs) t < weight program e (Named x ts)

abbrev pub TermWeightsFall : Type 0
TermWeightsFall = (program : Program) (rank : Name → ℕ) (e : Environment) → AreDerivedRanked program rank → WeightsFall program rank e

-- ---- rules

module _ (program : Program) (body : Rule → ℕ) where
  abbrev pub called_size : Option Declared → ℕ
  called_size (Some (NamedRule xs P)) = body P
  called_size _ = 0

  unfoldable mutual
    pub rule_size : Rule → ℕ
    rule_size Skip = 1
    rule_size (Assign f ts t) = 1
    rule_size (Call to f ts) = 1 + called_size (declared program f)
    rule_size (Par Ps) = 1 + rule_sizes Ps
    rule_size (Seq Ps) = 1 + rule_sizes Ps
    rule_size (If c P Q) = 1 + (rule_size P + rule_size Q)
    rule_size (Let x t P) = 1 + rule_size P
    rule_size (Forall x u c P) = 1 + rule_size P
    rule_size (Choose x u c P Q) = 1 + (rule_size P + rule_size Q)
    rule_size (Iterate P) = 1 + rule_size P

    pub rule_sizes : Rules → ℕ
    rule_sizes no_rules = 0
    rule_sizes (rule_then P Ps) = rule_size P + rule_sizes Ps

unfoldable pub rule_size_within : Program → ℕ → Rule → ℕ
rule_size_within program zero = rule_size program (λ P. 0)
rule_size_within program (suc n) = rule_size program (rule_size_within program n)

unfoldable pub rule_weight : Program → Rule → ℕ
rule_weight program R = rule_size_within program nesting R

pub record RuleWeightsFall (program : Program) (rank : Name → ℕ) : Type 0 where
  pub at_call : (to : Option (Name × Terms)) (f : Name) (ts : Terms) (xs : List Name) (P : Rule) → declared program f ≡ Some (NamedRule xs P) → rank f < nesting
      → rule_weight program P < rule_weight program (Call to f ts)
  pub at_par : (P : Rule) (Ps : Rules) → rule_weight program P < rule_weight program (Par (rule_then P Ps))
  pub at_later_par : (P : Rule) (Ps : Rules) → rule_weight program (Par Ps) < rule_weight program (Par (rule_then P Ps))
  pub at_seq : (P : Rule) (Ps : Rules) → rule_weight program P < rule_weight program (Seq (rule_then P Ps))
  pub at_later_seq : (P : Rule) (Ps : Rules) → rule_weight program (Seq Ps) < rule_weight program (Seq (rule_then P Ps))
  pub at_then : (c : Term) (P Q : Rule) → rule_weight program P < rule_weight program (If c P Q)
  pub at_else : (c : Term) (P Q : Rule) → rule_weight program Q < rule_weight program (If c P Q)
  pub at_let : (x : Name) (t : Term) (P : Rule) → rule_weight program P < rule_weight program (Let x t P)
  pub at_forall : (x u : Name) (c : Option Term) (P : Rule) → rule_weight program P < rule_weight program (Forall x u c P)
  pub at_choose : (x u : Name) (c : Option Term) (P Q : Rule) → rule_weight program P < rule_weight program (Choose x u c P Q)
  pub at_ifnone : (x u : Name) (c : Option Term) (P Q : Rule) → rule_weight program Q < rule_weight program (Choose x u c P Q)
  pub at_iterate : (P : Rule) → rule_weight program P < rule_weight program (Iterate P)

abbrev pub CallWeightsFall : Type 0
CallWeightsFall = (program : Program) (rank : Name → ℕ) → IsRanked program rank → RuleWeightsFall program rank
