-- Definition. The faults of a specification: pairs of an offset and a number.
--     IsFault spec at number          one rule for each number
--     IsLeastFault spec at number     the fault with the least offset, and there the least number
--     IsWellFormed spec               no fault
use Rattle.std.specs.Prelude.{◌≡◌, ◌≢◌, ◌<◌, ◌≤◌, ◌⊎◌, ℕ, int_le, Bool, true, false, not, ◌&&◌, ◌||◌, List, [], ◌∷◌, ◌++◌, map, filter_map, flat_map, Contains, Option, Some, None}
use Rattle.std.specs.List.{list_any, list_all}
use Rattle.asm_syntax.specs.SourceTree as source
use Rattle.asm_syntax.specs.declared.term.Literal.{Literal}
use Rattle.asm_syntax.specs.declared.term.Literal.TheVariants.{Undef, Truth, Number}
use Rattle.asm_syntax.specs.SourceTree.{Name, Const, Plain, Entry, Given, Entries, Item, Spec}
use Rattle.asm_check.specs.Names.{Text, Declaration, Meaning, Range, Enumeration, Use, AsTarget, AsRule, AsResult, declarations, first_declarations, declared, uses, is_text, is_among, text_of, is_known, arguments_of, is_assignable, has_result_in_body, can_be_main, uses_of_entry}
use Rattle.asm_check.specs.CallGraph.{called, used, LeadsTo}
use Rattle.asm_check.specs.Limits.{PassesLimit, is_element_of}

-- ---- 8: names declared twice

-- at this offset the list has a name that is in it before
pub record IsRepeated (xs : List Name) (at : ℕ) : Type 0 where
  pub before : List Name
  pub name : Name
  pub after : List Name
  pub parts : xs ≡ before ++ name ∷ after
  pub is_before : is_among (map text_of before) name.text ≡ true
  pub offset : name.at ≡ at

abbrev pub parameters_of : Item → List Name
parameters_of (source.Derived x parameters t) = parameters
parameters_of (source.NamedRule x parameters P) = parameters
parameters_of item = []

abbrev pub name_lists : Spec → List (List Name)
name_lists spec = map (λ d. d.name) (declarations spec) ∷ map parameters_of spec.items

abbrev pub IsTwice : Spec → ℕ → Type 0
IsTwice spec at = (xs : List Name) × Contains (name_lists spec) xs × IsRepeated xs at

-- ---- 9, 10, 11: uses of names

abbrev pub is_known_use : Spec → Use → Bool
is_known_use spec u = is_known u.role u.is_bound (declared spec u.name.text)

pub record IsUnknown (spec : Spec) (at : ℕ) : Type 0 where
  pub use_of : Use
  pub stands : Contains (uses spec) use_of
  pub unknown : is_known_use spec use_of ≡ false
  pub offset : use_of.name.at ≡ at

pub record IsMiscounted (spec : Spec) (at : ℕ) : Type 0 where
  pub use_of : Use
  pub stands : Contains (uses spec) use_of
  pub count : ℕ
  pub has : arguments_of use_of.role use_of.is_bound (declared spec use_of.name.text) ≡ Some count
  pub differs : use_of.count ≢ count
  pub offset : use_of.name.at ≡ at

pub record IsUnassignable (spec : Spec) (at : ℕ) : Type 0 where
  pub use_of : Use
  pub stands : Contains (uses spec) use_of
  pub is_target : use_of.role ≡ AsTarget
  pub known : is_known_use spec use_of ≡ true
  pub unassignable : is_assignable use_of.is_bound (declared spec use_of.name.text) ≡ false
  pub offset : use_of.name.at ≡ at

-- ---- 12, 13: cycles

pub record IsCyclic (spec : Spec) (next : Text → List Text) (at : ℕ) : Type 0 where
  pub member : Declaration
  pub stands : Contains (first_declarations spec) member
  pub back : LeadsTo next member.name.text member.name.text
  pub offset : member.name.at ≡ at

-- ---- 14: the main rule

abbrev pub init_of : Item → Option Name
init_of (source.Init x) = Some x
init_of item = None

abbrev pub inits : Spec → List Name
inits spec = filter_map init_of spec.items

pub data IsBadInit (spec : Spec) (at : ℕ) : Type 0 where
  another : (first : Name) (more : List Name) (x : Name) → inits spec ≡ first ∷ more → Contains more x → x.at ≡ at → IsBadInit spec at
  no_start : (x : Name) → Contains (inits spec) x → can_be_main (declared spec x.text) ≡ false → x.at ≡ at → IsBadInit spec at
  missing : inits spec ≡ [] → spec.length ≡ at → IsBadInit spec at

-- ---- 15: limits

pub record IsOverLimit (spec : Spec) (at : ℕ) : Type 0 where
  pub before : List Declaration
  pub passing : Declaration
  pub after : List Declaration
  pub parts : first_declarations spec ≡ before ++ passing ∷ after
  pub passes : PassesLimit spec before passing
  pub offset : passing.name.at ≡ at

-- ---- 16: entries of tables

abbrev pub same_literal : Literal → Literal → Bool
same_literal Undef Undef = true
same_literal (Truth b) (Truth c) = (b && c) || (not b && not c)
same_literal (Number m) (Number n) = int_le m.value n.value && int_le n.value m.value
same_literal v w = false

-- elements of different names are different
abbrev pub same_const : Const → Const → Bool
same_const (Plain v) (Plain w) = same_literal v w
same_const (source.Element x) (source.Element y) = is_text x.text y.text
same_const c d = false

abbrev pub same_arguments : List Const → List Const → Bool
same_arguments [] [] = true
same_arguments (c ∷ cs) (d ∷ ds) = same_const c d && same_arguments cs ds
same_arguments cs ds = false

module _ (spec : Spec) where
  abbrev pub is_element_in : ℕ → Option Meaning → Bool
  is_element_in k None = false
  is_element_in k (Some m) = is_element_of k m

  abbrev pub is_in_universe : Option Meaning → Const → Bool
  is_in_universe (Some (Range first last)) (Plain (Number n)) = int_le first n.value && int_le n.value last
  is_in_universe (Some (Enumeration k)) (source.Element x) = is_element_in k (declared spec x.text)
  is_in_universe m c = false

  -- as many arguments as universes, each in its own
  abbrev pub fits_domain : List Name → List Const → Bool
  fits_domain [] [] = true
  fits_domain (u ∷ us) (c ∷ cs) = is_in_universe (declared spec u.text) c && fits_domain us cs
  fits_domain us cs = false

abbrev pub table_of : Item → List (List Name × List Entry)
table_of (source.Function x how domain codomain (Some (Entries entries))) = (domain, entries) ∷ []
table_of item = []

pub record IsBadEntry (spec : Spec) (at : ℕ) : Type 0 where
  pub domain : List Name
  pub entries : List Entry
  pub stands : Contains (flat_map table_of spec.items) (domain, entries)
  pub before : List Entry
  pub entry : Entry
  pub after : List Entry
  pub parts : entries ≡ before ++ entry ∷ after
  pub known : list_all (is_known_use spec) (uses_of_entry entry) ≡ true
  pub wrong : (not (fits_domain spec domain entry.arguments) || list_any (λ e. same_arguments e.arguments entry.arguments) before) ≡ true
  pub offset : entry.at ≡ at

-- ---- 17: the word `result`

-- it stands where it isn't bound, so outside of every rule, in the body of a derived function; or a
-- rule in whose body it stands is called without a target, or is a main rule
pub data IsResultUse (spec : Spec) (at : ℕ) : Type 0 where
  outside : (u : Use) → Contains (uses spec) u → u.role ≡ AsResult → u.is_bound ≡ false → u.name.at ≡ at → IsResultUse spec at
  plain_call : (u : Use) → Contains (uses spec) u → u.role ≡ AsRule → has_result_in_body (declared spec u.name.text) ≡ true → u.name.at ≡ at → IsResultUse spec at
  start : (x : Name) → Contains (inits spec) x → has_result_in_body (declared spec x.text) ≡ true → x.at ≡ at → IsResultUse spec at

-- ---- all faults

pub data IsFault (spec : Spec) (at : ℕ) : ℕ → Type 0 where
  twice : IsTwice spec at → IsFault spec at 8
  unknown : IsUnknown spec at → IsFault spec at 9
  arity : IsMiscounted spec at → IsFault spec at 10
  not_controlled : IsUnassignable spec at → IsFault spec at 11
  cyclic_rule : IsCyclic spec (called spec) at → IsFault spec at 12
  cyclic_derived : IsCyclic spec (used spec) at → IsFault spec at 13
  init : IsBadInit spec at → IsFault spec at 14
  too_many : IsOverLimit spec at → IsFault spec at 15
  table_entry : IsBadEntry spec at → IsFault spec at 16
  result_use : IsResultUse spec at → IsFault spec at 17

abbrev pub IsUpTo : (at number at' number' : ℕ) → Type 0
IsUpTo at number at' number' = (at < at') ⊎ ((at ≡ at') × (number ≤ number'))

pub record IsLeastFault (spec : Spec) (at number : ℕ) : Type 0 where
  pub fault : IsFault spec at number
  pub least : (at' number' : ℕ) → IsFault spec at' number' → IsUpTo at number at' number'

abbrev pub IsWellFormed : Spec → Type 0
IsWellFormed spec = (at number : ℕ) → ¬ (IsFault spec at number)
