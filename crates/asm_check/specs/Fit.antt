-- Definition. What a well-formed specification offers to its evaluation: each name
-- stands for what its use asks for.
--     IsFitTerm spec t bound, IsFitRule spec R bound     so it is in a term and in a rule, inside
--                                                        binders of these names
--     IsFitFunction spec domain codomain table           so it is in the declaration of a function
--     HasFitMainRule spec                                the one main rule
--     IsReady spec                                       all of it
--     HasFitBodies spec                                  so it is in each rule and each derived
--                                                        function, by its number
use Rattle.std.specs.Prelude.{◌≡◌, ◌⊎◌, ℕ, false, List, [], ◌∷◌, map, length, Contains, Option, Some, None}
use Rattle.asm_state.specs.declared.function.FunctionKind.{FunctionKind}
use Rattle.asm_syntax.specs.SourceTree as source
use Rattle.asm_syntax.specs.SourceTree.{Name, Term, Constant, Named, Chain, Not, Negative, Exists, Every, Result, Terms, no_terms, term_then, Links, no_links, link_then, Rule, Skip, Assign, Call, Par, Seq, If, Let, Forall, Choose, Iterate, While, SetResult, Rules, no_rules, rule_then, Branch, left_out, written, Const, Given, Spec}
use Rattle.asm_check.specs.Names.{Text, Predeclared, Controlled, Static, NamedRule, Derived, has_result_in_body, declared, term_count, rule_scope, text_of}
use Rattle.asm_check.specs.Numbers.{functions_of, derived_of, rules_of, declared_with_number, named}
use Rattle.asm_check.specs.declared.checked.NameNumber as checked
use Rattle.asm_check.specs.declared.checked.NameNumber.TheVariants as number
use Rattle.asm_check.specs.Faults.{inits}

module _ (spec : Spec) where
  abbrev pub StandsFor : Name → checked.NameNumber → Type 0
  StandsFor x n = named spec x.text ≡ Some n

  abbrev pub IsUniverseName : Name → Type 0
  IsUniverseName x = (u : ℕ) × StandsFor x (number.Universe u)

  abbrev pub IsElementName : Name → Type 0
  IsElementName x = (e : ℕ) × StandsFor x (number.Element e)

  abbrev pub IsCodomainName : Name → Type 0
  IsCodomainName x = IsUniverseName x ⊎ (declared spec x.text ≡ Some Predeclared)

  -- ---- terms

  -- a name that no binder hides, with n arguments
  pub data IsFitName (x : Name) (n : ℕ) : Type 0 where
    element : (e : ℕ) → StandsFor x (number.Element e) → n ≡ 0 → IsFitName x n
    controlled : (f : ℕ) (domain : List Name) → StandsFor x (number.Function f) → declared_with_number (functions_of spec) f ≡ Some (Controlled domain) → n ≡ length domain → IsFitName x n
    static : (f : ℕ) (domain : List Name) → StandsFor x (number.Function f) → declared_with_number (functions_of spec) f ≡ Some (Static domain) → n ≡ length domain → IsFitName x n
    derived : (d : ℕ) (xs : List Name) (t : Term) → StandsFor x (number.Derived d) → declared_with_number (derived_of spec) d ≡ Some (Derived xs t) → n ≡ length xs → IsFitName x n

  -- a name that a binder has bound has no arguments
  abbrev pub IsFitUse : Name → ℕ → (bound : List Text) → Type 0
  IsFitUse x n bound = (Contains bound x.text × (n ≡ 0)) ⊎ ((¬ (Contains bound x.text)) × IsFitName x n)

  abbrev mutual
    pub IsFitTerm : Term → (bound : List Text) → Type 0
    IsFitTerm (Constant v) bound = Unit {0}
    IsFitTerm (Named x ts) bound = IsFitUse x (term_count ts) bound × AreFitTerms ts bound
    IsFitTerm (Chain t links) bound = IsFitTerm t bound × AreFitLinks links bound
    IsFitTerm (Not t) bound = IsFitTerm t bound
    IsFitTerm (Negative t) bound = IsFitTerm t bound
    IsFitTerm (Exists x over t) bound = IsUniverseName over × IsFitTerm t (x.text ∷ bound)
    IsFitTerm (Every x over t) bound = IsUniverseName over × IsFitTerm t (x.text ∷ bound)
    IsFitTerm (Result x) bound = Contains bound x.text

    pub AreFitTerms : Terms → (bound : List Text) → Type 0
    AreFitTerms no_terms bound = Unit {0}
    AreFitTerms (term_then t ts) bound = IsFitTerm t bound × AreFitTerms ts bound

    pub AreFitLinks : Links → (bound : List Text) → Type 0
    AreFitLinks no_links bound = Unit {0}
    AreFitLinks (link_then o t links) bound = IsFitTerm t bound × AreFitLinks links bound

  abbrev pub IsFitTest : Option Term → (bound : List Text) → Type 0
  IsFitTest None bound = Unit {0}
  IsFitTest (Some t) bound = IsFitTerm t bound

  -- ---- rules

  -- a controlled function with n arguments, which no binder hides
  pub record IsFitTarget (x : Name) (n : ℕ) (bound : List Text) : Type 0 where
    pub free : ¬ (Contains bound x.text)
    pub function : ℕ
    pub domain : List Name
    pub stands : StandsFor x (number.Function function)
    pub means : declared_with_number (functions_of spec) function ≡ Some (Controlled domain)
    pub counted : n ≡ length domain

  -- a rule with n parameters
  pub record IsFitCall (x : Name) (n : ℕ) : Type 0 where
    pub rule : ℕ
    pub parameters : List Name
    pub body : Rule
    pub stands : StandsFor x (number.Rule rule)
    pub means : declared_with_number (rules_of spec) rule ≡ Some (NamedRule parameters body)
    pub counted : n ≡ length parameters

  -- a rule with a result is called after a `<-` only
  abbrev pub IsFitCallTo : Option (Name × Terms) → Name → ℕ → Type 0
  IsFitCallTo None r n = IsFitCall r n × (has_result_in_body (declared spec r.text) ≡ false)
  IsFitCallTo (Some to) r n = IsFitCall r n

  -- the target of a `<-`, if there is one
  abbrev pub IsFitTargetOf : Option (Name × Terms) → (bound : List Text) → Type 0
  IsFitTargetOf None bound = Unit {0}
  IsFitTargetOf (Some (f, ts)) bound = IsFitTarget f (term_count ts) bound × AreFitTerms ts bound

  abbrev mutual
    pub IsFitRule : Rule → (bound : List Text) → Type 0
    IsFitRule Skip bound = Unit {0}
    IsFitRule (Assign f ts t) bound = IsFitTarget f (term_count ts) bound × AreFitTerms ts bound × IsFitTerm t bound
    IsFitRule (Call to r ts) bound = IsFitTargetOf to bound × IsFitCallTo to r (term_count ts) × AreFitTerms ts bound
    IsFitRule (Par Ps) bound = AreFitRules Ps bound
    IsFitRule (Seq Ps) bound = AreFitRules Ps bound
    IsFitRule (If t P Q) bound = IsFitTerm t bound × IsFitRule P bound × IsFitBranch Q bound
    IsFitRule (Let x t P) bound = IsFitTerm t bound × IsFitRule P (x.text ∷ bound)
    IsFitRule (Forall x over t P) bound = IsUniverseName over × IsFitTest t (x.text ∷ bound) × IsFitRule P (x.text ∷ bound)
    IsFitRule (Choose x over t P Q) bound = IsUniverseName over × IsFitTest t (x.text ∷ bound) × IsFitRule P (x.text ∷ bound) × IsFitBranch Q bound
    IsFitRule (Iterate P) bound = IsFitRule P bound
    IsFitRule (While t P) bound = IsFitTerm t bound × IsFitRule P bound
    IsFitRule (SetResult x t) bound = Contains bound x.text × IsFitTerm t bound

    pub AreFitRules : Rules → (bound : List Text) → Type 0
    AreFitRules no_rules bound = Unit {0}
    AreFitRules (rule_then P Ps) bound = IsFitRule P bound × AreFitRules Ps bound

    pub IsFitBranch : Branch → (bound : List Text) → Type 0
    IsFitBranch left_out bound = Unit {0}
    IsFitBranch (written P) bound = IsFitRule P bound

  -- ---- declarations of functions

  abbrev pub IsFitConst : Const → Type 0
  IsFitConst (source.Plain v) = Unit {0}
  IsFitConst (source.Element x) = IsElementName x

  abbrev pub IsFitTable : Option Given → Type 0
  IsFitTable None = Unit {0}
  IsFitTable (Some (source.Each c)) = IsFitConst c
  IsFitTable (Some (source.Entries entries)) = (e : source.Entry) → Contains entries e → ((c : Const) → Contains e.arguments c → IsFitConst c) × IsFitConst e.value

  pub record IsFitFunction (domain : List Name) (codomain : Option Name) (table : Option Given) : Type 0 where
    pub domain_fits : (u : Name) → Contains domain u → IsUniverseName u
    pub codomain_fits : (u : Name) → codomain ≡ Some u → IsCodomainName u
    pub table_fits : IsFitTable table

  -- ---- the specification

  pub record HasFitMainRule : Type 0 where
    pub name : Name
    pub body : Rule
    pub only : inits spec ≡ name ∷ []
    pub rule : declared spec name.text ≡ Some (NamedRule [] body)
    -- it has no result
    pub plain : has_result_in_body (declared spec name.text) ≡ false

  pub record IsReady : Type 0 where
    pub rules : (f : Text) (xs : List Name) (P : Rule) → declared spec f ≡ Some (NamedRule xs P) → IsFitRule P (rule_scope xs)
    pub derived : (f : Text) (xs : List Name) (t : Term) → declared spec f ≡ Some (Derived xs t) → IsFitTerm t (map text_of xs)
    pub functions : (x : Name) (kind : FunctionKind) (domain : List Name) (codomain : Option Name) (table : Option Given)
        → Contains spec.items (source.Function x kind domain codomain table) → IsFitFunction domain codomain table
    pub start : HasFitMainRule

  pub record HasFitBodies : Type 0 where
    pub rules : (r : ℕ) (xs : List Name) (P : Rule) → declared_with_number (rules_of spec) r ≡ Some (NamedRule xs P) → IsFitRule P (rule_scope xs)
    pub derived : (d : ℕ) (xs : List Name) (t : Term) → declared_with_number (derived_of spec) d ≡ Some (Derived xs t) → IsFitTerm t (map text_of xs)
