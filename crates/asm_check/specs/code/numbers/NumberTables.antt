-- Bridge to the code. The tables of numbers, as the code keeps them.
--     indices_where p i xs         the positions at which the test passes, if the list begins at
--                                  position i
--     number_after ds m            what a declaration after these stands for
--     IsNumberingOf ds n           the code's numbering of these declarations
--     AreBodiesOf items b          where the rules and the derived functions are among the items
--     IsMain spec n                n is the number of the rule that the specification starts with
use Rattle.std.specs.Prelude.{◌≡◌, ◌<◌, ℕ, suc, Bool, true, false, cond, List, [], ◌∷◌, ◌++◌, filter, length, slice_get, Option, Some, None, option_map}
use Rattle.asm_syntax.specs.SourceTree as source
use Rattle.asm_syntax.specs.SourceTree.{Name, Item, Spec}
use Rattle.asm_check.specs.Names as names
use Rattle.asm_check.specs.Names.{Text, Declaration, Meaning, is_text, first_declarations}
use Rattle.asm_check.specs.Limits.{is_universe, is_rule}
use Rattle.asm_check.specs.Numbers.{is_element, is_table, is_derived, universes_of, elements_of, functions_of, derived_of, rules_of, named}
use Rattle.asm_check.specs.declared.checked.NameNumber.{NameNumber}
use Rattle.asm_check.specs.declared.checked.NameNumber.TheVariants as number
use Rattle.asm_check.specs.declared.numbers.numbering.Indices.{Indices}
use Rattle.asm_check.specs.declared.numbers.numbering.Numbering.{Numbering}
use Rattle.asm_check.specs.declared.numbers.body_indices.BodyIndices.{BodyIndices}
use Rattle.asm_check.specs.Faults.{inits}

abbrev pub indices_where : {X : Type 0} → (X → Bool) → ℕ → List X → List ℕ
indices_where p i [] = []
indices_where p i (x ∷ xs) = cond (p x) (i ∷ indices_where p (suc i) xs) (indices_where p (suc i) xs)

-- ---- names

-- one more at the end, if it is of this kind
abbrev pub appended_if : Bool → List ℕ → ℕ → List ℕ
appended_if true indices i = indices ++ i ∷ []
appended_if false indices i = indices

-- the indices after a declaration
pub record IsIndexed (old : Indices) (i : ℕ) (m : Meaning) (new : Indices) : Type 0 where
  pub universes : new.universes.items ≡ appended_if (is_universe m) old.universes.items i
  pub elements : new.elements.items ≡ appended_if (is_element m) old.elements.items i
  pub functions : new.functions.items ≡ appended_if (is_table m) old.functions.items i
  pub derived : new.derived.items ≡ appended_if (is_derived m) old.derived.items i
  pub rules : new.rules.items ≡ appended_if (is_rule m) old.rules.items i

abbrev pub next_number : Indices → Meaning → Option NameNumber
next_number indices names.Predeclared = None
next_number indices (names.Range first last) = Some (number.Universe (length indices.universes.items))
next_number indices (names.Enumeration k) = Some (number.Universe (length indices.universes.items))
next_number indices (names.Element k) = Some (number.Element (length indices.elements.items))
next_number indices (names.Controlled domain) = Some (number.Function (length indices.functions.items))
next_number indices (names.Static domain) = Some (number.Function (length indices.functions.items))
next_number indices (names.Derived xs t) = Some (number.Derived (length indices.derived.items))
next_number indices (names.NamedRule xs P) = Some (number.Rule (length indices.rules.items))

abbrev pub indices_like : (Meaning → Bool) → List Declaration → List ℕ
indices_like is_like ds = indices_where (λ (d : Declaration). is_like d.meaning) 0 ds

pub record AreIndicesOf (ds : List Declaration) (indices : Indices) : Type 0 where
  pub universes : indices.universes.items ≡ indices_like is_universe ds
  pub elements : indices.elements.items ≡ indices_like is_element ds
  pub functions : indices.functions.items ≡ indices_like is_table ds
  pub derived : indices.derived.items ≡ indices_like is_derived ds
  pub rules : indices.rules.items ≡ indices_like is_rule ds

-- what a declaration after these stands for
abbrev pub declared_like : (Meaning → Bool) → List Declaration → List Declaration
declared_like is_like ds = filter (λ d. is_like d.meaning) ds

abbrev pub number_after : List Declaration → Meaning → Option NameNumber
number_after ds names.Predeclared = None
number_after ds (names.Range first last) = Some (number.Universe (length (declared_like is_universe ds)))
number_after ds (names.Enumeration k) = Some (number.Universe (length (declared_like is_universe ds)))
number_after ds (names.Element k) = Some (number.Element (length (declared_like is_element ds)))
number_after ds (names.Controlled domain) = Some (number.Function (length (declared_like is_table ds)))
number_after ds (names.Static domain) = Some (number.Function (length (declared_like is_table ds)))
number_after ds (names.Derived xs t) = Some (number.Derived (length (declared_like is_derived ds)))
number_after ds (names.NamedRule xs P) = Some (number.Rule (length (declared_like is_rule ds)))

abbrev pub numbers_from : (before ds : List Declaration) → List (Text × Option NameNumber)
numbers_from before [] = []
numbers_from before (d ∷ ds) = (d.name.text, number_after before d.meaning) ∷ numbers_from (before ++ d ∷ []) ds

pub record IsNumberingOf (ds : List Declaration) (n : Numbering) : Type 0 where
  pub names : n.names ≡ numbers_from [] ds
  pub indices : AreIndicesOf ds n.indices

-- the name at an index
abbrev pub text_kept_at : Numbering → ℕ → Option Text
text_kept_at n k = option_map (λ (e : Text × Option NameNumber). e.0) (slice_get n.names k)

-- the number, if it is that of a universe, or of an element, or else the other one
abbrev pub universe_or : ℕ → Option NameNumber → ℕ
universe_or other (Some (number.Universe n)) = n
universe_or other it = other

abbrev pub element_or : ℕ → Option NameNumber → ℕ
element_or other (Some (number.Element n)) = n
element_or other it = other

-- ---- in a specification

-- a number that is below the number of its like
abbrev pub IsInRange : Spec → Option NameNumber → Type 0
IsInRange spec None = Unit {0}
IsInRange spec (Some (number.Universe n)) = n < length (universes_of spec)
IsInRange spec (Some (number.Element n)) = n < length (elements_of spec)
IsInRange spec (Some (number.Function n)) = n < length (functions_of spec)
IsInRange spec (Some (number.Derived n)) = n < length (derived_of spec)
IsInRange spec (Some (number.Rule n)) = n < length (rules_of spec)

-- ---- bodies

abbrev pub is_rule_item : Item → Bool
is_rule_item (source.NamedRule x xs P) = true
is_rule_item item = false

abbrev pub is_derived_item : Item → Bool
is_derived_item (source.Derived x xs t) = true
is_derived_item item = false

pub record AreBodies (items : List Item) (rules derived : List ℕ) : Type 0 where
  pub rules_are : rules ≡ indices_where is_rule_item 0 items
  pub derived_are : derived ≡ indices_where is_derived_item 0 items

abbrev pub AreBodiesOf : List Item → BodyIndices → Type 0
AreBodiesOf items bodies = AreBodies items bodies.rules.items bodies.derived.items

-- the main rule's number
pub record IsMain (spec : Spec) (n : ℕ) : Type 0 where
  pub in_range : n < length (rules_of spec)
  pub named : (x : Name) → inits spec ≡ x ∷ [] → named spec x.text ≡ Some (number.Rule n)
