-- Definition. The numbers of what is declared: each universe, element, function, derived function
-- and rule has its position among its like.
--     universes_of, elements_of, functions_of, derived_of, rules_of
--                      the declarations of a kind that count, in the order of the text
--     named spec x     what the name x stands for outside of binders
use Rattle.std.specs.Prelude.{ℕ, Bool, true, false, List, filter, position, slice_get, Option, Some, None, option_map}
use Rattle.asm_syntax.specs.SourceTree.{Spec}
use Rattle.asm_check.specs.Names.{Text, Declaration, Meaning, Predeclared, Range, Enumeration, Element, Controlled, Static, Derived, NamedRule, first_declarations, declared, is_text}
use Rattle.asm_check.specs.Limits.{is_universe, is_rule}
use Rattle.asm_check.specs.declared.checked.NameNumber.{NameNumber}
use Rattle.asm_check.specs.declared.checked.NameNumber.TheVariants as number

abbrev pub is_element : Meaning → Bool
is_element (Element k) = true
is_element m = false

-- controlled and static functions
abbrev pub is_table : Meaning → Bool
is_table (Controlled domain) = true
is_table (Static domain) = true
is_table m = false

abbrev pub is_derived : Meaning → Bool
is_derived (Derived xs t) = true
is_derived m = false

abbrev pub all_of : (Meaning → Bool) → Spec → List Declaration
all_of is_like spec = filter (λ d. is_like d.meaning) (first_declarations spec)

abbrev pub universes_of : Spec → List Declaration
universes_of = all_of is_universe

abbrev pub elements_of : Spec → List Declaration
elements_of = all_of is_element

abbrev pub functions_of : Spec → List Declaration
functions_of = all_of is_table

abbrev pub derived_of : Spec → List Declaration
derived_of = all_of is_derived

abbrev pub rules_of : Spec → List Declaration
rules_of = all_of is_rule

-- where a name is among these
abbrev pub number_in : List Declaration → Text → Option ℕ
number_in ds x = position (λ d. is_text d.name.text x) ds

abbrev pub named_as : Spec → Text → Option Meaning → Option NameNumber
named_as spec x None = None
named_as spec x (Some Predeclared) = None
named_as spec x (Some (Range first last)) = option_map number.Universe (number_in (universes_of spec) x)
named_as spec x (Some (Enumeration k)) = option_map number.Universe (number_in (universes_of spec) x)
named_as spec x (Some (Element k)) = option_map number.Element (number_in (elements_of spec) x)
named_as spec x (Some (Controlled domain)) = option_map number.Function (number_in (functions_of spec) x)
named_as spec x (Some (Static domain)) = option_map number.Function (number_in (functions_of spec) x)
named_as spec x (Some (Derived xs t)) = option_map number.Derived (number_in (derived_of spec) x)
named_as spec x (Some (NamedRule xs P)) = option_map number.Rule (number_in (rules_of spec) x)

unfoldable pub named : Spec → Text → Option NameNumber
named spec x = named_as spec x (declared spec x)

abbrev pub declared_with_number : List Declaration → ℕ → Option Meaning
declared_with_number ds n = option_map (λ d. d.meaning) (slice_get ds n)

abbrev pub name_at : List Declaration → ℕ → Option Text
name_at ds n = option_map (λ d. d.name.text) (slice_get ds n)
