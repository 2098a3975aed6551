-- Definition. What a specification declares, and where it uses names.
--     declarations, first_declarations     all declarations in the order of the text;  those that
--                                          count
--     declared spec x                      what x is declared as, by its first declaration
--     Use, uses spec                       a name that is looked up, with its role;  all of them
use Rattle.std.specs.Prelude.{ℕ, suc, ℤ, Bool, true, false, cond, nat_eq, List, [], ◌∷◌, ◌++◌, map, length, find, flat_map, Option, Some, None, option_map, codes}
use Rattle.std.specs.List.{list_any}
use Rattle.std.specs.Cmp.Lexicographic.{pointwise}
use Rattle.asm_state.specs.declared.function.FunctionKind.{FunctionKind}
use Rattle.asm_state.specs.declared.function.FunctionKind.TheVariants as kind
use Rattle.asm_syntax.specs.SourceTree as source
use Rattle.asm_syntax.specs.Tree.{result}
use Rattle.asm_syntax.specs.SourceTree.{Name, Term, Constant, Named, Chain, Not, Negative, Exists, Every, Result, Terms, no_terms, term_then, Links, no_links, link_then, Rule, Skip, Assign, Call, Par, Seq, If, Let, Forall, Choose, Iterate, While, SetResult, Rules, no_rules, rule_then, Branch, left_out, written, Const, Entry, Given, Item, Spec}

abbrev pub Text : Type 0
Text = List ℕ

abbrev pub is_text : Text → Text → Bool
is_text = pointwise nat_eq

abbrev pub is_among : List Text → Text → Bool
is_among texts x = list_any (λ y. is_text y x) texts

abbrev pub text_of : Name → Text
text_of x = x.text

-- ---- declarations

-- what a name is declared as. An element belongs to the enumeration that is
-- this item of the specification.
pub data Meaning : Type 0 where
  Predeclared : Meaning
  Range : (first last : ℤ) → Meaning
  Enumeration : (item : ℕ) → Meaning
  Element : (item : ℕ) → Meaning
  Controlled : (domain : List Name) → Meaning
  Static : (domain : List Name) → Meaning
  Derived : (parameters : List Name) → Term → Meaning
  NamedRule : (parameters : List Name) → Rule → Meaning

pub record Declaration : Type 0 where
  pub name : Name
  pub meaning : Meaning

abbrev pub declares : Name → Meaning → Declaration
declares x m = record { name = x; meaning = m }

abbrev pub function_of : FunctionKind → List Name → Meaning
function_of kind.Controlled domain = Controlled domain
function_of kind.Static domain = Static domain

abbrev pub declarations_of : ℕ → Item → List Declaration
declarations_of k (source.Uses x) = []
declarations_of k (source.Init x) = []
declarations_of k (source.Enum x elements) = declares x (Enumeration k) ∷ map (λ y. declares y (Element k)) elements
declarations_of k (source.Universe x first last) = declares x (Range first.value last.value) ∷ []
declarations_of k (source.Function x how domain codomain table) = declares x (function_of how domain) ∷ []
declarations_of k (source.Derived x parameters t) = declares x (Derived parameters t) ∷ []
declarations_of k (source.NamedRule x parameters P) = declares x (NamedRule parameters P) ∷ []

abbrev pub declarations_from : ℕ → List Item → List Declaration
declarations_from k [] = []
declarations_from k (item ∷ items) = declarations_of k item ++ declarations_from (suc k) items

abbrev pub predeclared_names : List Text
predeclared_names = codes "NUMBER" ∷ codes "BOOLEAN" ∷ codes "ANY" ∷ []

-- they have no offset of their own
abbrev pub predeclared : List Declaration
predeclared = map (λ x. declares (record { at = 0; text = x }) Predeclared) predeclared_names

-- all, in the order of the text
unfoldable pub declarations : Spec → List Declaration
declarations spec = predeclared ++ declarations_from 0 spec.items

-- those of names that aren't declared before
abbrev pub first_of_each : (before : List Text) → List Declaration → List Declaration
first_of_each before [] = []
first_of_each before (d ∷ ds) = cond (is_among before d.name.text) (first_of_each before ds) (d ∷ first_of_each (d.name.text ∷ before) ds)

unfoldable pub first_declarations : Spec → List Declaration
first_declarations spec = first_of_each [] (declarations spec)

unfoldable pub declared : Spec → Text → Option Meaning
declared spec x = option_map (λ d. d.meaning) (find (λ d. is_text d.name.text x) (declarations spec))

-- ---- uses of names

pub data Role : Type 0 where
  InTerm : Role
  AsTarget : Role
  -- in a plain call, or after a `<-`
  AsRule : Role
  AsAnswering : Role
  AsUniverse : Role
  AsCodomain : Role
  AsElement : Role
  -- the word `result`
  AsResult : Role

-- a name in a role, with its number of arguments, and whether a binder of this name is around it
pub record Use : Type 0 where
  pub role : Role
  pub name : Name
  pub count : ℕ
  pub is_bound : Bool

abbrev pub use_of : Role → Name → ℕ → List Text → Use
use_of role x n bound = record { role = role; name = x; count = n; is_bound = is_among bound x.text }

abbrev pub plain_use : Role → Name → Use
plain_use role x = record { role = role; name = x; count = 0; is_bound = false }

abbrev pub term_count : Terms → ℕ
term_count no_terms = 0
term_count (term_then t ts) = suc (term_count ts)

abbrev mutual
  pub uses_of_term : Term → (bound : List Text) → List Use
  uses_of_term (Constant v) bound = []
  uses_of_term (Named x ts) bound = use_of InTerm x (term_count ts) bound ∷ uses_of_terms ts bound
  uses_of_term (Chain t links) bound = uses_of_term t bound ++ uses_of_links links bound
  uses_of_term (Not t) bound = uses_of_term t bound
  uses_of_term (Negative t) bound = uses_of_term t bound
  uses_of_term (Exists x over t) bound = plain_use AsUniverse over ∷ uses_of_term t (x.text ∷ bound)
  uses_of_term (Every x over t) bound = plain_use AsUniverse over ∷ uses_of_term t (x.text ∷ bound)
  uses_of_term (Result x) bound = use_of AsResult x 0 bound ∷ []

  pub uses_of_terms : Terms → (bound : List Text) → List Use
  uses_of_terms no_terms bound = []
  uses_of_terms (term_then t ts) bound = uses_of_term t bound ++ uses_of_terms ts bound

  pub uses_of_links : Links → (bound : List Text) → List Use
  uses_of_links no_links bound = []
  uses_of_links (link_then o t links) bound = uses_of_term t bound ++ uses_of_links links bound

abbrev pub uses_of_test : Option Term → (bound : List Text) → List Use
uses_of_test None bound = []
uses_of_test (Some t) bound = uses_of_term t bound

abbrev pub uses_of_target : Option (Name × Terms) → (bound : List Text) → List Use
uses_of_target None bound = []
uses_of_target (Some (f, ts)) bound = use_of AsTarget f (term_count ts) bound ∷ uses_of_terms ts bound

abbrev pub rule_role : Option (Name × Terms) → Role
rule_role None = AsRule
rule_role (Some t) = AsAnswering

abbrev mutual
  pub uses_of_rule : Rule → (bound : List Text) → List Use
  uses_of_rule Skip bound = []
  uses_of_rule (Assign f ts t) bound = use_of AsTarget f (term_count ts) bound ∷ uses_of_terms ts bound ++ uses_of_term t bound
  uses_of_rule (Call to r ts) bound = uses_of_target to bound ++ use_of (rule_role to) r (term_count ts) bound ∷ uses_of_terms ts bound
  uses_of_rule (Par Ps) bound = uses_of_rules Ps bound
  uses_of_rule (Seq Ps) bound = uses_of_rules Ps bound
  uses_of_rule (If t P Q) bound = uses_of_term t bound ++ uses_of_rule P bound ++ uses_of_branch Q bound
  uses_of_rule (Let x t P) bound = uses_of_term t bound ++ uses_of_rule P (x.text ∷ bound)
  uses_of_rule (Forall x over t P) bound = plain_use AsUniverse over ∷ uses_of_test t (x.text ∷ bound) ++ uses_of_rule P (x.text ∷ bound)
  uses_of_rule (Choose x over t P Q) bound =
      plain_use AsUniverse over ∷ uses_of_test t (x.text ∷ bound) ++ uses_of_rule P (x.text ∷ bound) ++ uses_of_branch Q bound
  uses_of_rule (Iterate P) bound = uses_of_rule P bound
  uses_of_rule (While t P) bound = uses_of_term t bound ++ uses_of_rule P bound
  uses_of_rule (SetResult x t) bound = use_of AsResult x 0 bound ∷ uses_of_term t bound

  pub uses_of_rules : Rules → (bound : List Text) → List Use
  uses_of_rules no_rules bound = []
  uses_of_rules (rule_then P Ps) bound = uses_of_rule P bound ++ uses_of_rules Ps bound

  pub uses_of_branch : Branch → (bound : List Text) → List Use
  uses_of_branch left_out bound = []
  uses_of_branch (written P) bound = uses_of_rule P bound

abbrev pub uses_of_const : Const → List Use
uses_of_const (source.Plain v) = []
uses_of_const (source.Element x) = plain_use AsElement x ∷ []

abbrev pub uses_of_entry : Entry → List Use
uses_of_entry entry = flat_map uses_of_const entry.arguments ++ uses_of_const entry.value

abbrev pub uses_of_table : Option Given → List Use
uses_of_table None = []
uses_of_table (Some (source.Each c)) = uses_of_const c
uses_of_table (Some (source.Entries entries)) = flat_map uses_of_entry entries

abbrev pub uses_of_codomain : Option Name → List Use
uses_of_codomain None = []
uses_of_codomain (Some x) = plain_use AsCodomain x ∷ []

-- what is bound in the body of a rule with these parameters: `result` is, too
abbrev pub rule_scope : List Name → List Text
rule_scope parameters = result ∷ map text_of parameters

abbrev pub uses_of : Item → List Use
uses_of (source.Uses x) = []
uses_of (source.Init x) = []
uses_of (source.Enum x elements) = []
uses_of (source.Universe x first last) = []
uses_of (source.Function x how domain codomain table) = map (plain_use AsUniverse) domain ++ uses_of_codomain codomain ++ uses_of_table table
uses_of (source.Derived x parameters t) = uses_of_term t (map text_of parameters)
uses_of (source.NamedRule x parameters P) = uses_of_rule P (rule_scope parameters)

unfoldable pub uses : Spec → List Use
uses spec = flat_map uses_of spec.items

-- ---- what a name may stand for

-- In this role, bound or not, a name that is declared so is known.
abbrev pub is_known : Role → Bool → Option Meaning → Bool
is_known InTerm true m = true
is_known InTerm false (Some (Element k)) = true
is_known InTerm false (Some (Controlled domain)) = true
is_known InTerm false (Some (Static domain)) = true
is_known InTerm false (Some (Derived xs t)) = true
is_known AsTarget true m = true
is_known AsTarget false (Some m) = true
is_known AsRule b (Some (NamedRule xs P)) = true
is_known AsAnswering b (Some (NamedRule xs P)) = true
is_known AsUniverse b (Some (Range first last)) = true
is_known AsUniverse b (Some (Enumeration k)) = true
is_known AsCodomain b (Some Predeclared) = true
is_known AsCodomain b (Some (Range first last)) = true
is_known AsCodomain b (Some (Enumeration k)) = true
is_known AsElement b (Some (Element k)) = true
is_known AsResult b m = true
is_known role b m = false

-- how many arguments it has there, if they are looked at
abbrev pub arguments_of : Role → Bool → Option Meaning → Option ℕ
arguments_of InTerm true m = Some 0
arguments_of InTerm false (Some (Element k)) = Some 0
arguments_of InTerm false (Some (Controlled domain)) = Some (length domain)
arguments_of InTerm false (Some (Static domain)) = Some (length domain)
arguments_of InTerm false (Some (Derived xs t)) = Some (length xs)
arguments_of AsTarget false (Some (Controlled domain)) = Some (length domain)
arguments_of AsRule b (Some (NamedRule xs P)) = Some (length xs)
arguments_of AsAnswering b (Some (NamedRule xs P)) = Some (length xs)
arguments_of role b m = None

-- a controlled function, and no binder
abbrev pub is_assignable : Bool → Option Meaning → Bool
is_assignable false (Some (Controlled domain)) = true
is_assignable b m = false

abbrev pub is_result : Role → Bool
is_result AsResult = true
is_result role = false

-- a rule in whose own body the word `result` is
abbrev pub has_result_in_body : Option Meaning → Bool
has_result_in_body (Some (NamedRule xs P)) = list_any (λ u. is_result u.role) (uses_of_rule P (rule_scope xs))
has_result_in_body m = false

abbrev pub can_be_main : Option Meaning → Bool
can_be_main (Some (NamedRule [] P)) = true
can_be_main m = false
