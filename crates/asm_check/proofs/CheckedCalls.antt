-- Free. What the readers of a specification that is checked return.
use Rattle.std.proofs.Common.{◌≡◌, ℕ, zero, suc, ◌+◌, ◌<◌, ◌≤◌, Bool, true, false, cond, not, ◌||◌, nat_lt, nat_eq, List, [], ◌∷◌, ◌++◌, map, length, take, get_or, slice_get, Option, Some, None, refl, sym, ap, subst, ◌∙◌, arith, take_all, true≢false}
use Rattle.std.specs.Cmp.Lexicographic.{pointwise}
use Rattle.std.specs.Prelude.{filter_map, find, option_map}
use Rattle.std.specs.Map.{lookup}
use Rattle.std.specs.Option.{option_flatten, IsSome}
use Rattle.std.specs.List.{list_any, position_or_len, cons_option}
use Rattle.std.proofs.lemmas.Bool.Decides.{nat_tests}
use Rattle.std.proofs.lemmas.List.{length-map, map-append, take-map, take_more}
use Rattle.std.proofs.lemmas.List.Elements.{filter_map-append}
use Rattle.std.proofs.lemmas.Option.{slice_get-map, slice_get_within, slice_get-get_or}
use Rattle.std.proofs.lemmas.Bool.{or_right}
use Rattle.asm_syntax.specs.declared.name.Name as code_name
use Rattle.asm_syntax.specs.declared.spec.Spec as code
use Rattle.asm_syntax.specs.declared.spec.Item as item
use Rattle.asm_syntax.specs.declared.spec.Item.TheVariants as variant
use Rattle.asm_syntax.specs.code.Views.{spec_of, item_of, name_of}
use Rattle.asm_syntax.specs.SourceTree as source
use Rattle.asm_syntax.specs.SourceTree.{Name, Item, Spec}
use Rattle.asm_check.specs.declared.checked.NameNumber.{NameNumber}
use Rattle.asm_check.specs.declared.checked.NameNumber.TheVariants as number
use Rattle.asm_check.specs.declared.numbers.numbering.Numbering.{Numbering}
use Rattle.asm_check.specs.Faults.{IsWellFormed, init_of, inits}
use Rattle.asm_check.specs.Limits.{is_rule}
use Rattle.asm_check.specs.Names as names
use Rattle.asm_check.specs.Names.{Text, Declaration, Meaning, is_text, first_declarations, declared}
use Rattle.asm_check.specs.Numbers.{is_element, is_table, universes_of, elements_of, functions_of, derived_of, rules_of, number_in, named_as, named, name_at, declared_with_number}
use Rattle.asm_check.specs.code.numbers.NumberTables.{AreBodiesOf, is_rule_item, is_derived_item, IsNumberingOf, IsInRange, IsMain, declared_like, indices_like, numbers_from, text_kept_at}
use Rattle.asm_check.specs.Shapes.{texts_of}
use Rattle.asm_check.specs.declared.numbers.body_indices.BodyIndices.{BodyIndices}
use Rattle.asm_check.proofs.NumberLemmas.BodyIndices.{body_meaning, IsBody, rules_counted, derived_counted, rule_at, derived_at}
use Rattle.asm_check.proofs.NameLemmas.FirstDeclarations.{first_stands}
use Rattle.asm_check.proofs.UseLemmas.Fit.{bodies_are_fit}
use Rattle.asm_check.proofs.NumberLemmas.Numbered.{kept_length, found_named}
use Rattle.asm_check.proofs.NumberLemmas.IndicesWhere.{nth, where_length}

-- ---- numbers are in range

below : (ds : List Declaration) (x : Text) (make : ℕ → NameNumber) (P : Option NameNumber → Type 0) → P None → ((n : ℕ) → n < length ds → P (Some (make n))) → P (option_map make (number_in ds x))
below ds x make P none some = by_test (position_or_len (λ (d : Declaration). is_text d.name.text x) ds) (nat_lt (position_or_len (λ (d : Declaration). is_text d.name.text x) ds) (length ds)) refl
  where
    by_test : (n : ℕ) (b : Bool) → nat_lt n (length ds) ≡ b → P (option_map make (cond b (Some n) None))
    by_test n true e = some n (grind (arith, nat_tests, e))
    by_test n false e = none

number_in_range : (spec : Spec) (x : Text) (m : Option Meaning) → IsInRange spec (named_as spec x m)
number_in_range spec x None = tt
number_in_range spec x (Some names.Predeclared) = tt
number_in_range spec x (Some (names.Range first last)) = below (universes_of spec) x number.Universe (IsInRange spec) tt (λ n h. h)
number_in_range spec x (Some (names.Enumeration k)) = below (universes_of spec) x number.Universe (IsInRange spec) tt (λ n h. h)
number_in_range spec x (Some (names.Element k)) = below (elements_of spec) x number.Element (IsInRange spec) tt (λ n h. h)
number_in_range spec x (Some (names.Controlled domain)) = below (functions_of spec) x number.Function (IsInRange spec) tt (λ n h. h)
number_in_range spec x (Some (names.Static domain)) = below (functions_of spec) x number.Function (IsInRange spec) tt (λ n h. h)
number_in_range spec x (Some (names.Derived xs t)) = below (derived_of spec) x number.Derived (IsInRange spec) tt (λ n h. h)
number_in_range spec x (Some (names.NamedRule xs P)) = below (rules_of spec) x number.Rule (IsInRange spec) tt (λ n h. h)

pub named_in_range : (spec : Spec) (x : Text) → IsInRange spec (named spec x)
unfolding named
named_in_range spec x = number_in_range spec x (declared spec x)

-- ---- the names of what has a number

numbered_texts : (before ds : List Declaration) → map (λ (e : Text × Option NameNumber). e.0) (numbers_from before ds) ≡ texts_of ds
numbered_texts before [] = refl
numbered_texts before (d ∷ ds) = ap (λ ts. d.name.text ∷ ts) (numbered_texts (before ++ d ∷ []) ds)

module _ (spec : Spec) (n : Numbering) (it : IsNumberingOf (first_declarations spec) n) where
  abbrev all : List Declaration
  all = first_declarations spec

  text_at_index : (k : ℕ) → text_kept_at n k ≡ option_map (λ (d : Declaration). d.name.text) (slice_get all k)
  text_at_index k =
      sym (slice_get-map (λ (e : Text × Option NameNumber). e.0) n.names k)
      ∙ ap (λ ts. slice_get ts k) (ap (map (λ (e : Text × Option NameNumber). e.0)) it.names ∙ numbered_texts [] all)
      ∙ slice_get-map (λ (d : Declaration). d.name.text) all k

  -- the index of a number, and the name there
  pub record HasName (ns : List ℕ) (ds : List Declaration) (i : ℕ) : Type 0 where
    pub number : i < length ns
    pub index : get_or ns i 0 < length n.names
    pub name : text_kept_at n (get_or ns i 0) ≡ name_at ds i

  has_name : (is_like : Meaning → Bool) (ns : List ℕ) → ns ≡ indices_like is_like all → (i : ℕ) → i < length (declared_like is_like all) → HasName ns (declared_like is_like all) i
  has_name is_like ns are i h =
      let low : i < length ns = subst (λ m. i < m) (sym (ap length are ∙ where_length (λ (d : Declaration). is_like d.meaning) all)) h in
      let at : slice_get (indices_like is_like all) i ≡ Some (get_or ns i 0) = ap (λ ms. slice_get ms i) (sym are) ∙ slice_get-get_or ns i 0 low in
      let found = nth (λ (d : Declaration). is_like d.meaning) all i (get_or ns i 0) at in
      let inside = slice_get_within all (get_or ns i 0) found.it found.index in
      record {
        number = low;
        index = subst (λ m. get_or ns i 0 < m) (sym (kept_length all n.names it.names)) inside;
        name = text_at_index (get_or ns i 0) ∙ ap (option_map (λ (d : Declaration). d.name.text)) (found.index ∙ sym found.kept);
      }

  pub function_has_name : (f : ℕ) → f < length (functions_of spec) → HasName n.indices.functions.items (functions_of spec) f
  function_has_name = has_name is_table n.indices.functions.items it.indices.functions

  pub element_has_name : (e : ℕ) → e < length (elements_of spec) → HasName n.indices.elements.items (elements_of spec) e
  element_has_name = has_name is_element n.indices.elements.items it.indices.elements

  pub elements_counted : length n.indices.elements.items ≡ length (elements_of spec)
  elements_counted = ap length it.indices.elements ∙ where_length (λ (d : Declaration). is_element d.meaning) all

-- ---- the main rule

is_there : (is_like : Meaning → Bool) (ds : List Declaration) (x : Text) (m : Meaning) → option_map (λ (d : Declaration). d.meaning) (find (λ d. is_text d.name.text x) ds) ≡ Some m → is_like m ≡ true
    → list_any (λ (d : Declaration). is_text d.name.text x) (declared_like is_like ds) ≡ true
is_there is_like [] x m found kind = cc
is_there is_like (d ∷ ds) x m found kind = by_text (is_text d.name.text x) refl found (λ rest. is_there is_like ds x m rest kind)
  where
    in_rest : (b c : Bool) → list_any (λ (d : Declaration). is_text d.name.text x) (declared_like is_like ds) ≡ true
        → list_any (λ (d : Declaration). is_text d.name.text x) (cond b (d ∷ declared_like is_like ds) (declared_like is_like ds)) ≡ true
    in_rest true c e = or_right (is_text d.name.text x) (list_any (λ (d : Declaration). is_text d.name.text x) (declared_like is_like ds)) e
    in_rest false c e = e

    by_text : (b : Bool) → is_text d.name.text x ≡ b → option_map (λ (d : Declaration). d.meaning) (cond b (Some d) (find (λ d. is_text d.name.text x) ds)) ≡ Some m
        → (option_map (λ (d : Declaration). d.meaning) (find (λ d. is_text d.name.text x) ds) ≡ Some m → list_any (λ (d : Declaration). is_text d.name.text x) (declared_like is_like ds) ≡ true)
        → list_any (λ (d : Declaration). is_text d.name.text x) (declared_like is_like (d ∷ ds)) ≡ true
    by_text true e same rest =
        let mine : d.meaning ≡ m = cc in
        ap (λ b. list_any (λ (c : Declaration). is_text c.name.text x) (cond b (d ∷ declared_like is_like ds) (declared_like is_like ds))) (ap is_like mine ∙ kind)
        ∙ ap (λ b. b || list_any (λ (c : Declaration). is_text c.name.text x) (declared_like is_like ds)) e
    by_text false e same rest = in_rest (is_like d.meaning) false (rest same)

within : {X : Type 0} (p : X → Bool) (xs : List X) → list_any p xs ≡ true → position_or_len p xs < length xs
within p [] any = absurd (true≢false (sym any))
within p (x ∷ xs) any = by_test (p x) any (within p xs)
  where
    by_test : (b : Bool) → (b || list_any p xs) ≡ true → (list_any p xs ≡ true → position_or_len p xs < length xs) → cond (not b) (1 + position_or_len p xs) 0 < suc (length xs)
    by_test true any rest = omega arith
    by_test false any rest = let e = rest any in omega (arith, e)

has_number : (ds : List Declaration) (x : Text) → list_any (λ (d : Declaration). is_text d.name.text x) ds ≡ true → (n : ℕ) × (number_in ds x ≡ Some n)
has_number ds x any =
    let n = position_or_len (λ (d : Declaration). is_text d.name.text x) ds in
    let low = within (λ (d : Declaration). is_text d.name.text x) ds any in
    let test : nat_lt n (length ds) ≡ true = grind (arith, nat_tests, low) in
    (n, ap (λ b. cond b (Some n) None) test)

-- the name that the specification starts with is a rule's
pub start_called : (spec : Spec) → IsWellFormed spec → (x : Name) → inits spec ≡ x ∷ [] → (n : ℕ) × (named spec x.text ≡ Some (number.Rule n))
unfolding named
start_called spec good x is =
    let start = (bodies_are_fit spec good).start in
    let same : start.name ≡ x = cc in
    let rule = ap (λ (y : Name). declared spec y.text) (sym same) ∙ start.rule in
    let it = has_number (rules_of spec) x.text (is_there is_rule (first_declarations spec) x.text (names.NamedRule [] start.body) (first_stands spec x.text ∙ rule) refl) in
    (it.0, ap (named_as spec x.text) rule ∙ ap (option_map number.Rule) it.1)

pub main_is : (spec : Spec) (x : Name) (n : ℕ) → inits spec ≡ x ∷ [] → named spec x.text ≡ Some (number.Rule n) → IsMain spec n
main_is spec x n is called = record {
  in_range = subst (IsInRange spec) called (named_in_range spec x.text);
  named = λ y e. let same : y ≡ x = cc in ap (λ (z : Name). named spec z.text) same ∙ called;
}

pub one_start : (spec : Spec) → IsWellFormed spec → (x : Name) × (inits spec ≡ x ∷ [])
one_start spec good = let start = (bodies_are_fit spec good).start in (start.name, start.only)

-- ---- the name that it starts with, item by item

abbrev pub inits_in : List Item → List Name
inits_in items = filter_map init_of items

first_init : (items : List Item) (k : ℕ) (x : Name) → slice_get items k ≡ Some (source.Init x) → inits_in (take k items) ≡ [] → (more : List Name) × (inits_in items ≡ x ∷ more)
first_init [] k x at none = cc
first_init (item ∷ items) zero x at none =
    let same : item ≡ source.Init x = cc in
    (inits_in items, ap (λ it. inits_in (it ∷ items)) same)
first_init (item ∷ items) (suc k) x at none = by_item (init_of item) none (first_init items k x at)
  where
    by_item : (o : Option Name) → cons_option o (inits_in (take k items)) ≡ [] → (inits_in (take k items) ≡ [] → (more : List Name) × (inits_in items ≡ x ∷ more))
        → (more : List Name) × (cons_option o (inits_in items) ≡ x ∷ more)
    by_item None none rest = rest none
    by_item (Some y) none rest = cc

module _ (spec : code.Spec) (good : IsWellFormed (spec_of spec)) (its : List item.Item) (are : its ≡ spec.items.items) where
  pub one_init : (k : ℕ) (it : item.Item) (x : code_name.Name) → k < length its → it ≡ get_or its k it → it ≡ variant.Init x
      → inits_in (map item_of (take k its)) ≡ [] → inits (spec_of spec) ≡ name_of x ∷ []
  one_init k it x low at is none =
      let here : slice_get (map item_of its) k ≡ Some (source.Init (name_of x)) =
      slice_get-map item_of its k
      ∙ ap (option_map item_of) (slice_get-get_or its k it low ∙ ap Some (sym at))
      ∙ ap (λ y. Some (item_of y)) is in
      let first = first_init (map item_of its) k (name_of x) here (ap inits_in (take-map item_of k its) ∙ none) in
      let only = (bodies_are_fit (spec_of spec) good).start.only in
      let both : (bodies_are_fit (spec_of spec) good).start.name ∷ [] ≡ name_of x ∷ first.0 = sym only ∙ ap (λ ys. inits_in (map item_of ys)) (sym are) ∙ first.1 in
      let same : (bodies_are_fit (spec_of spec) good).start.name ≡ name_of x = cc in
      only ∙ ap (λ y. y ∷ []) same

  pub some_init : (k : ℕ) → length its ≤ k → inits_in (map item_of (take k its)) ≡ [] → ⊥
  some_init k whole none =
      let start = (bodies_are_fit (spec_of spec) good).start in
      let all = ap (λ ys. inits_in (map item_of ys)) (sym (take_all k its whole)) ∙ none in
      let bad : ◌≡◌ {A = List Name} [] (start.name ∷ []) = sym all ∙ ap (λ ys. inits_in (map item_of ys)) are ∙ start.only in
      cc

other_than_init : (it : item.Item) → ((x : code_name.Name) → it ≡ variant.Init x → ⊥) → init_of (item_of it) ≡ None
other_than_init (variant.Init x) other = absurd (other x refl)
other_than_init (variant.Uses x) other = refl
other_than_init (variant.Enum x xs) other = refl
other_than_init (variant.Universe x first last) other = refl
other_than_init (variant.Function x how domain codomain table) other = refl
other_than_init (variant.Derived x xs t) other = refl
other_than_init (variant.Rule x xs P) other = refl

pub no_init_more : (its : List item.Item) (k : ℕ) (it : item.Item) → k < length its → it ≡ get_or its k it → ((x : code_name.Name) → it ≡ variant.Init x → ⊥)
    → inits_in (map item_of (take k its)) ≡ [] → inits_in (map item_of (take (k + 1) its)) ≡ []
no_init_more its k it within at other none =
    ap (λ ys. inits_in (map item_of ys)) (take_more its k it within ∙ ap (λ y. take k its ++ y ∷ []) (sym at))
    ∙ ap inits_in (map-append item_of (take k its) (it ∷ []))
    ∙ filter_map-append init_of (map item_of (take k its)) (item_of it ∷ [])
    ∙ ap (λ ys. ys ++ inits_in (item_of it ∷ [])) none
    ∙ ap (λ o. cons_option o []) (other_than_init it other)

-- ---- bodies

module _ (spec : code.Spec) (p : Item → Bool) (ds : List Declaration) (r k : ℕ) (body : IsBody (spec_of spec) p ds r k) where
  pub body_inside : k < length spec.items.items
  body_inside = let low = slice_get_within (map item_of spec.items.items) k body.it body.index in omega (arith, low, length-map spec.items.items item_of)

  same_item : (it : item.Item) → it ≡ get_or spec.items.items k it → body.it ≡ item_of it
  same_item it at =
      let found : Some body.it ≡ Some (item_of it) =
      sym body.index ∙ slice_get-map item_of spec.items.items k ∙ ap (option_map item_of) (slice_get-get_or spec.items.items k it body_inside ∙ ap Some (sym at)) in
      cc

  pub body_means : (it : item.Item) → it ≡ get_or spec.items.items k it → (it' : item.Item) → it ≡ it' → declared_with_number ds r ≡ Some (body_meaning (item_of it'))
  body_means it at it' is = body.meaning ∙ ap (λ m. Some (body_meaning m)) (same_item it at) ∙ ap (λ z. Some (body_meaning (item_of z))) is

  pub body_passes : (it : item.Item) → it ≡ get_or spec.items.items k it → p (item_of it) ≡ false → ⊥
  body_passes it at not' = true≢false (sym body.passes ∙ ap p (same_item it at) ∙ not')

module _ (spec : code.Spec) (good : IsWellFormed (spec_of spec)) (bodies : BodyIndices) (are : AreBodiesOf (map item_of spec.items.items) bodies) where
  pub rule_read : (r k : ℕ) → r < length (rules_of (spec_of spec)) → k ≡ get_or bodies.rules.items r k → IsBody (spec_of spec) is_rule_item (rules_of (spec_of spec)) r k
  rule_read r k h at =
      let low : r < length bodies.rules.items = omega (arith, h, rules_counted (spec_of spec) good bodies are) in
      rule_at (spec_of spec) good bodies are r k (slice_get-get_or bodies.rules.items r k low ∙ ap Some (sym at))

  pub derived_read : (d k : ℕ) → d < length (derived_of (spec_of spec)) → k ≡ get_or bodies.derived.items d k → IsBody (spec_of spec) is_derived_item (derived_of (spec_of spec)) d k
  derived_read d k h at =
      let low : d < length bodies.derived.items = omega (arith, h, derived_counted (spec_of spec) good bodies are) in
      derived_at (spec_of spec) good bodies are d k (slice_get-get_or bodies.derived.items d k low ∙ ap Some (sym at))

-- ---- the look-up of the main rule

module _ (spec : Spec) (good : IsWellFormed spec) (n : Numbering) (it : IsNumberingOf (first_declarations spec) n) (x : Name) (start : inits spec ≡ x ∷ [])
    (found : Option NameNumber) (look_up : found ≡ option_flatten (lookup (pointwise nat_eq x.text) n.names)) where
  answered : found ≡ named spec x.text
  answered = look_up ∙ found_named spec n x.text it

  pub start_found : IsSome found
  start_found = let main = start_called spec good x start in subst IsSome (sym (answered ∙ main.1)) refl

  pub start_other : (r : NameNumber) → found ≡ Some r → ((m : ℕ) → r ≡ number.Rule m → ⊥) → ⊥
  start_other r is_r other =
      let main = start_called spec good x start in
      let both : Some r ≡ Some (number.Rule main.0) = sym is_r ∙ answered ∙ main.1 in
      let same : r ≡ number.Rule main.0 = cc in
      other main.0 same

  pub start_main : (r : NameNumber) (m : ℕ) → found ≡ Some r → r ≡ number.Rule m → IsMain spec m
  start_main r m is_r called = main_is spec x m start (sym answered ∙ is_r ∙ ap (λ o. Some o) called)
