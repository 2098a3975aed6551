-- Definition. The names that a specification introduces, and what each is declared as.
--     introduced item          the names that an item declares
--     all_names spec           those that are there from the start, and those of all items, in the
--                              order of the text
--     HasNamesApart spec       no name is declared twice, and no item has a parameter twice
--     AreDeclaredSo spec       each name is declared as its item says
use Rattle.std.specs.Prelude.{◌≡◌, ◌≢◌, ℕ, List, [], ◌∷◌, map, flat_map, slice_get, codes, AllPairs, Contains, Option, Some}
use Rattle.asm_state.specs.declared.number.Number.{Number}
use Rattle.asm_state.specs.declared.function.FunctionKind.TheVariants as kind
use Rattle.asm_syntax.specs.SourceTree as source
use Rattle.asm_syntax.specs.SourceTree.{Name, Term, Rule, Given, Item, Spec}
use Rattle.asm_check.specs.Names.{Text, Range, Enumeration, Element, Controlled, Static, Derived, NamedRule, declared, text_of}

abbrev pub introduced : Item → List Name
introduced (source.Uses x) = []
introduced (source.Init x) = []
introduced (source.Enum x elements) = x ∷ elements
introduced (source.Universe x first last) = x ∷ []
introduced (source.Function x how domain codomain table) = x ∷ []
introduced (source.Derived x parameters t) = x ∷ []
introduced (source.NamedRule x parameters P) = x ∷ []

abbrev pub all_names : Spec → List Text
all_names spec = codes "NUMBER" ∷ codes "BOOLEAN" ∷ codes "ANY" ∷ map text_of (flat_map introduced spec.items)

abbrev pub AreDifferent : List Text → Type 0
AreDifferent texts = AllPairs (λ x y. x ≢ y) texts

pub record HasNamesApart (spec : Spec) : Type 0 where
  pub names : AreDifferent (all_names spec)
  pub parameters_of_rules : (x : Name) (xs : List Name) (P : Rule) → Contains spec.items (source.NamedRule x xs P) → AreDifferent (map text_of xs)
  pub parameters_of_derived : (x : Name) (xs : List Name) (t : Term) → Contains spec.items (source.Derived x xs t) → AreDifferent (map text_of xs)

-- an enumeration, and each of its elements, is known by the enumeration's position among the items
pub record AreDeclaredSo (spec : Spec) : Type 0 where
  pub enumerations : (k : ℕ) (x : Name) (xs : List Name) → slice_get spec.items k ≡ Some (source.Enum x xs) → declared spec x.text ≡ Some (Enumeration k)
  pub elements : (k : ℕ) (x : Name) (xs : List Name) → slice_get spec.items k ≡ Some (source.Enum x xs) → (y : Name) → Contains xs y → declared spec y.text ≡ Some (Element k)
  pub ranges : (x : Name) (first last : Number) → Contains spec.items (source.Universe x first last) → declared spec x.text ≡ Some (Range first.value last.value)
  pub controlled : (x : Name) (domain : List Name) (codomain : Option Name) (table : Option Given) → Contains spec.items (source.Function x kind.Controlled domain codomain table)
      → declared spec x.text ≡ Some (Controlled domain)
  pub static : (x : Name) (domain : List Name) (codomain : Option Name) (table : Option Given) → Contains spec.items (source.Function x kind.Static domain codomain table)
      → declared spec x.text ≡ Some (Static domain)
  pub derived : (x : Name) (xs : List Name) (t : Term) → Contains spec.items (source.Derived x xs t) → declared spec x.text ≡ Some (Derived xs t)
  pub rules : (x : Name) (xs : List Name) (P : Rule) → Contains spec.items (source.NamedRule x xs P) → declared spec x.text ≡ Some (NamedRule xs P)
