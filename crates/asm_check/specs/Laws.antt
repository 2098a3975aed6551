-- Laws of faults.
use Rattle.std.specs.Prelude.{◌≡◌, ◌≢◌, ◌≤◌, ◌⊎◌, ◌↔◌, ℕ, true, List, [], map, length, slice_get, Option, Some, Contains}
use Rattle.asm_state.specs.declared.element.TheConstants.{MAX_ELEMENTS}
use Rattle.asm_state.specs.declared.signature_limits.TheConstants.{MAX_ARGUMENTS}
use Rattle.asm_state.specs.declared.function.Function as state
use Rattle.asm_state.specs.SignatureLimits.{Fits}
use Rattle.asm_state.specs.Signature.{IsSound}
use Rattle.asm_state.specs.Universe.{element}
use Rattle.asm_state.specs.declared.function.FunctionKind.{FunctionKind}
use Rattle.asm_syntax.specs.SourceTree as source
use Rattle.asm_syntax.specs.SourceTree.{Name, Term, Rule, Given, Spec}
use Rattle.asm_syntax.specs.code.Views.{term_of, terms_of}
use Rattle.asm_syntax.specs.declared.term.Term as code
use Rattle.asm_check.specs.Names.{Text, Declaration, Meaning, declares, declared, function_of, is_text, term_count, Predeclared, Enumeration, Element}
use Rattle.asm_check.specs.Limits.{domain_of}
use Rattle.asm_check.specs.WithinLimits.{IsWithinLimits}
use Rattle.asm_check.specs.Faults.{IsFault, IsLeastFault, IsWellFormed}
use Rattle.asm_check.specs.TermFaults.{IsTermFault, IsWellFormedTerm}
use Rattle.asm_check.specs.Ranks.{HasRanks}
use Rattle.asm_check.specs.Fit.{IsFitTerm, IsFitRule, IsReady, HasFitBodies}
use Rattle.asm_check.specs.Introduced.{HasNamesApart, AreDeclaredSo}
use Rattle.asm_check.specs.Numbers.{universes_of, elements_of, functions_of, derived_of, rules_of, declared_with_number, named}
use Rattle.asm_check.specs.code.numbers.NumberTables.{IsInRange}
use Rattle.asm_check.specs.declared.checked.NameNumber.{NameNumber}
use Rattle.asm_check.specs.declared.checked.NameNumber.TheVariants as number
use Rattle.asm_check.specs.Shapes.{universe_values, function_given, shape_of}

-- a specification has at most one least fault
abbrev pub LeastIsOnly : Type 0
LeastIsOnly =
    (spec : Spec) (at number at' number' : ℕ) → IsLeastFault spec at number → IsLeastFault spec at' number' → (at ≡ at') × (number ≡ number')

-- a specification is well formed, or has a least fault
abbrev pub LeastExists : Type 0
LeastExists = (spec : Spec) → IsWellFormed spec ⊎ ((at : ℕ) × (number : ℕ) × IsLeastFault spec at number)

-- a well-formed specification has ranks
abbrev pub RanksExist : Type 0
RanksExist = (spec : Spec) → IsWellFormed spec → HasRanks spec

-- in a well-formed specification no name is declared twice, and no item has a parameter twice
abbrev pub NamesAreApart : Type 0
NamesAreApart = (spec : Spec) → IsWellFormed spec → HasNamesApart spec

-- in a well-formed specification each name is declared as its item says
abbrev pub ItemsAreDeclared : Type 0
ItemsAreDeclared = (spec : Spec) → IsWellFormed spec → AreDeclaredSo spec

-- in a well-formed specification each name stands for what its use asks for
abbrev pub BodiesAreFit : Type 0
BodiesAreFit = (spec : Spec) → IsWellFormed spec → IsReady spec

-- the same of each rule and each derived function, by its number
abbrev pub NumberedBodiesAreFit : Type 0
NumberedBodiesAreFit = (spec : Spec) → IsWellFormed spec → HasFitBodies spec

-- each fault of a term that is the body of a derived function without parameters is one of the
-- specification
abbrev pub TermFaultsAreFaults : Type 0
TermFaultsAreFaults = (spec : Spec) (x : Name) (t : Term) → Contains spec.items (source.Derived x [] t) → (at number : ℕ) → IsTermFault spec t at number → IsFault spec at number

-- in a term without faults each name stands for what its use asks for
abbrev pub TermsAreFit : Type 0
TermsAreFit = (spec : Spec) (t : Term) → IsWellFormedTerm spec t → IsFitTerm spec t []

-- if a term or a rule is fit under some bound names, it is so wherever the same names are bound
abbrev pub ScopesByMembers : Type 0
ScopesByMembers = (spec : Spec) (xs ys : List Text) → ((x : Text) → Contains xs x ↔ Contains ys x)
    → ((t : Term) → IsFitTerm spec t xs → IsFitTerm spec t ys) × ((R : Rule) → IsFitRule spec R xs → IsFitRule spec R ys)

-- the number of arguments is that of the code's terms
abbrev pub TermsAreCounted : Type 0
TermsAreCounted = (ts : List code.Term) → term_count (terms_of (map term_of ts)) ≡ length ts

-- the number that a name stands for is below that of its like
abbrev pub NamedInRange : Type 0
NamedInRange = (spec : Spec) (x : Text) → IsInRange spec (named spec x)

-- a well-formed specification passes no limit
abbrev pub LimitsHold : Type 0
LimitsHold = (spec : Spec) → IsWellFormed spec → IsWithinLimits spec

-- and no function with a number has too many universes
abbrev pub NumberedDomainsAreFew : Type 0
NumberedDomainsAreFew = (spec : Spec) → IsWellFormed spec → (f : ℕ) (m : Meaning) → declared_with_number (functions_of spec) f ≡ Some m → length (domain_of m) ≤ MAX_ARGUMENTS

-- what a well-formed specification declares fits into a signature
abbrev pub SignatureFits : Type 0
SignatureFits = (spec : Spec) → IsWellFormed spec → Fits (shape_of spec)

-- no universe of a well-formed specification has a value twice
abbrev pub ShapeIsSound : Type 0
ShapeIsSound = (spec : Spec) → IsWellFormed spec → IsSound (shape_of spec)

-- a function of the signature is what this declaration declares
pub record IsDeclaredBy (spec : Spec) (d : Declaration) (function : Option state.Function) : Type 0 where
  pub name : Name
  pub kind : FunctionKind
  pub domain : List Name
  pub codomain : Option Name
  pub table : Option Given
  pub stands : Contains spec.items (source.Function name kind domain codomain table)
  pub declared_so : d ≡ declares name (function_of kind domain)
  pub given_so : function ≡ function_given spec (source.Function name kind domain codomain table)

-- Universes and functions have the numbers in the signature that they have among the declarations,
-- and each element is the value that has its number.
pub record HasNumbers (spec : Spec) : Type 0 where
  pub count_of_universes : length (shape_of spec).universes ≡ length (universes_of spec)
  pub universes : (n : ℕ) (d : Declaration) → slice_get (universes_of spec) n ≡ Some d → slice_get (shape_of spec).universes n ≡ Some (universe_values spec d.meaning)
  pub count_of_functions : length (shape_of spec).functions ≡ length (functions_of spec)
  pub functions : (f : ℕ) (d : Declaration) → slice_get (functions_of spec) f ≡ Some d → IsDeclaredBy spec d (slice_get (shape_of spec).functions f)
  pub elements : (n k : ℕ) (d : Declaration) → slice_get (elements_of spec) n ≡ Some d → d.meaning ≡ Element k → Contains (universe_values spec (Enumeration k)) (element n)
  pub few_elements : length (elements_of spec) ≤ MAX_ELEMENTS

-- the numbers of names are those of the signature
abbrev pub SignatureNumbers : Type 0
SignatureNumbers = (spec : Spec) → IsWellFormed spec → HasNumbers spec

-- what has this number among its like
abbrev pub meaning_numbered : Spec → NameNumber → Option Meaning
meaning_numbered spec (number.Universe n) = declared_with_number (universes_of spec) n
meaning_numbered spec (number.Element n) = declared_with_number (elements_of spec) n
meaning_numbered spec (number.Function f) = declared_with_number (functions_of spec) f
meaning_numbered spec (number.Derived d) = declared_with_number (derived_of spec) d
meaning_numbered spec (number.Rule r) = declared_with_number (rules_of spec) r

-- The number of a name leads to what the name is declared as, and each declared name except those
-- of codomains has one.
pub record HasNumber (spec : Spec) (x : Text) : Type 0 where
  pub of_number : (n : NameNumber) → named spec x ≡ Some n → meaning_numbered spec n ≡ declared spec x
  pub of_meaning : (m : Meaning) → declared spec x ≡ Some m → m ≢ Predeclared → (n : NameNumber) × (named spec x ≡ Some n)

-- the test of two texts passes if and only if they are the same
abbrev pub TextsAreTold : Type 0
TextsAreTold = (x y : Text) → (is_text x y ≡ true → x ≡ y) × (x ≡ y → is_text x y ≡ true)

-- numbers lead to what names are declared as
abbrev pub NamesHaveNumbers : Type 0
NamesHaveNumbers = (spec : Spec) (x : Text) → HasNumber spec x
