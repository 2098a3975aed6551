-- Definition. The signature that a specification declares.
--     universe_values spec m      the values of a universe, in order
--     const_value spec c          the value of a constant
--     shape_of spec               all universes, and all controlled and static functions, in the
--                                 order of the text
use Rattle.std.specs.Prelude.{ℕ, Bool, false, nat_lt, List, [], map, filter_map, count_by, Option, Some, None}
use Rattle.std.specs.List.{position_or_len}
use Rattle.asm_state.specs.declared.value.Value.{Value}
use Rattle.asm_state.specs.declared.value.Value.TheVariants.{Undef}
use Rattle.asm_state.specs.declared.function.Function as state
use Rattle.asm_state.specs.declared.function.Table as state_table
use Rattle.asm_state.specs.declared.function.Table.TheVariants as given
use Rattle.asm_state.specs.Signature.{Shape}
use Rattle.asm_state.specs.Universe.{element, elements, numbers_between}
use Rattle.asm_syntax.specs.SourceTree as source
use Rattle.asm_syntax.specs.SourceTree.{Name, Const, Entry, Given, Item, Spec}
use Rattle.asm_syntax.specs.PlainTree.{literal_value}
use Rattle.asm_check.specs.Names.{Text, Declaration, Meaning, Range, Enumeration, Element, first_declarations, is_text}
use Rattle.asm_check.specs.Limits.{size_of}
use Rattle.asm_check.specs.Numbers.{universes_of, elements_of}

abbrev pub is_element_before : ℕ → Meaning → Bool
is_element_before k (Element j) = nat_lt j k
is_element_before k m = false

-- elements are numbered through, in the order of the text
abbrev pub universe_values : Spec → Meaning → List Value
universe_values spec (Range first last) = numbers_between first last
universe_values spec (Enumeration k) = elements (count_by (λ d. is_element_before k d.meaning) (first_declarations spec)) (size_of spec (Enumeration k))
universe_values spec m = []

abbrev pub index_among : List Text → Text → ℕ
index_among texts x = position_or_len (λ y. is_text y x) texts

-- elements by their names, in the order of the text
abbrev pub const_by : (elements : List Text) → Const → Value
const_by elements (source.Plain l) = literal_value l
const_by elements (source.Element x) = element (index_among elements x.text)

abbrev pub entry_by : (elements : List Text) → Entry → List Value × Value
entry_by elements e = (map (const_by elements) e.arguments, const_by elements e.value)

-- without a table all is undef
abbrev pub table_by : (elements : List Text) → Option Given → state_table.Table
table_by elements None = given.Same Undef
table_by elements (Some (source.Each c)) = given.Same (const_by elements c)
table_by elements (Some (source.Entries entries)) = given.Entries (map (entry_by elements) entries)

abbrev pub domain_by : (universes : List Text) → List Name → List ℕ
domain_by universes domain = map (λ (u : Name). index_among universes u.text) domain

abbrev pub function_by : (universes elements : List Text) → Item → Option state.Function
function_by universes elements (source.Function x how domain codomain table) =
    Some (record { kind = how; domain = domain_by universes domain; table = table_by elements table })
function_by universes elements item = None

abbrev pub texts_of : List Declaration → List Text
texts_of ds = map (λ d. d.name.text) ds

module _ (spec : Spec) where
  abbrev pub const_value : Const → Value
  const_value = const_by (texts_of (elements_of spec))

  abbrev pub function_given : Item → Option state.Function
  function_given = function_by (texts_of (universes_of spec)) (texts_of (elements_of spec))

unfoldable pub shape_of : Spec → Shape
shape_of spec = record {
  universes = map (λ d. universe_values spec d.meaning) (universes_of spec);
  functions = filter_map (function_given spec) spec.items;
}
