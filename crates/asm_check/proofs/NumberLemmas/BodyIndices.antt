-- Free. Where the bodies of rules and derived functions are.
use Rattle.std.proofs.Common.{◌≡◌, ℕ, suc, ◌+◌, ◌<◌, Bool, true, false, cond, List, [], ◌∷◌, ◌++◌, map, length, take, get_or, slice_get, Some, Vec, Global, refl, sym, ap, subst, ◌∙◌, arith}
use Rattle.std.specs.Prelude.{filter, option_map}
use Rattle.std.proofs.lemmas.List.{map-append, length-map, length-take-le, take_more}
use Rattle.std.proofs.lemmas.Option.{slice_get-map}
use Rattle.asm_state.specs.declared.function.FunctionKind.TheVariants as kind
use Rattle.asm_syntax.specs.declared.name.Name as code_name
use Rattle.asm_syntax.specs.declared.rule.Rule as code_rule
use Rattle.asm_syntax.specs.declared.term.Term as code_term
use Rattle.asm_syntax.specs.declared.spec.Item as code
use Rattle.asm_syntax.specs.declared.spec.Item.TheVariants as variant
use Rattle.asm_syntax.specs.code.Views.{item_of}
use Rattle.asm_syntax.specs.SourceTree as source
use Rattle.asm_syntax.specs.SourceTree.{Name, Term, Rule, Item, Spec}
use Rattle.asm_check.specs.declared.numbers.body_indices.BodyIndices.{BodyIndices}
use Rattle.asm_check.specs.Faults.{IsWellFormed}
use Rattle.asm_check.specs.Limits.{is_rule}
use Rattle.asm_check.specs.Names as names
use Rattle.asm_check.specs.Names.{Declaration, Meaning, NamedRule, Derived, declarations_of, declarations_from, first_declarations}
use Rattle.asm_check.specs.Numbers.{is_derived, rules_of, derived_of, declared_with_number}
use Rattle.asm_check.specs.code.numbers.NumberTables.{indices_where, appended_if, declared_like, is_rule_item, is_derived_item, AreBodies, AreBodiesOf}
use Rattle.asm_check.proofs.NameLemmas.ItemLists.{elements_dropped, like_next}
use Rattle.asm_check.proofs.NumberLemmas.IndicesWhere.{IsNth, nth, where_one, where_length}
use Rattle.asm_check.proofs.NameLemmas.DeclaredOnce.{all_count}

-- what the item is a body of
abbrev pub body_meaning : Item → Meaning
body_meaning (source.NamedRule x xs P) = NamedRule xs P
body_meaning (source.Derived x xs t) = Derived xs t
body_meaning item = names.Predeclared

abbrev meanings : List Declaration → List Meaning
meanings ds = map (λ d. d.meaning) ds

own_rules : (k : ℕ) (item : Item) → meanings (declared_like is_rule (declarations_of k item)) ≡ map body_meaning (filter is_rule_item (item ∷ []))
own_rules k (source.Uses x) = refl
own_rules k (source.Init x) = refl
own_rules k (source.Enum x xs) = ap meanings (elements_dropped is_rule k xs refl)
own_rules k (source.Universe x first last) = refl
own_rules k (source.Function x kind.Controlled domain codomain table) = refl
own_rules k (source.Function x kind.Static domain codomain table) = refl
own_rules k (source.Derived x xs t) = refl
own_rules k (source.NamedRule x xs P) = refl

own_derived : (k : ℕ) (item : Item) → meanings (declared_like is_derived (declarations_of k item)) ≡ map body_meaning (filter is_derived_item (item ∷ []))
own_derived k (source.Uses x) = refl
own_derived k (source.Init x) = refl
own_derived k (source.Enum x xs) = ap meanings (elements_dropped is_derived k xs refl)
own_derived k (source.Universe x first last) = refl
own_derived k (source.Function x kind.Controlled domain codomain table) = refl
own_derived k (source.Function x kind.Static domain codomain table) = refl
own_derived k (source.Derived x xs t) = refl
own_derived k (source.NamedRule x xs P) = refl

filter_head : (p : Item → Bool) (item : Item) (items : List Item) → map body_meaning (filter p (item ∷ [])) ++ map body_meaning (filter p items) ≡ map body_meaning (filter p (item ∷ items))
filter_head p item items = elim (p item) as (λ b. map body_meaning (cond b (item ∷ []) []) ++ map body_meaning (filter p items) ≡ map body_meaning (cond b (item ∷ filter p items) (filter p items))) [
  | true ↦ refl
  | false ↦ refl
]

module _ (is_like : Meaning → Bool) (p : Item → Bool) (own : (k : ℕ) (item : Item) → meanings (declared_like is_like (declarations_of k item)) ≡ map body_meaning (filter p (item ∷ []))) where
  all_bodies : (k : ℕ) (items : List Item) → meanings (declared_like is_like (declarations_from k items)) ≡ map body_meaning (filter p items)
  all_bodies k [] = refl
  all_bodies k (item ∷ items) =
      ap meanings (like_next is_like k item items)
      ∙ map-append (λ (d : Declaration). d.meaning) (declared_like is_like (declarations_of k item)) (declared_like is_like (declarations_from (suc k) items))
      ∙ ap (λ ms. ms ++ meanings (declared_like is_like (declarations_from (suc k) items))) (own k item)
      ∙ ap (λ ms. map body_meaning (filter p (item ∷ [])) ++ ms) (all_bodies (suc k) items)
      ∙ filter_head p item items

  module _ (spec : Spec) (are : meanings (declared_like is_like (first_declarations spec)) ≡ meanings (declared_like is_like (declarations_from 0 spec.items))) where
    bodies : meanings (declared_like is_like (first_declarations spec)) ≡ map body_meaning (filter p spec.items)
    bodies = are ∙ all_bodies 0 spec.items

    how_many : length (indices_where p 0 spec.items) ≡ length (declared_like is_like (first_declarations spec))
    how_many =
        where_length p spec.items ∙ sym (length-map (filter p spec.items) body_meaning) ∙ ap length (sym bodies)
        ∙ length-map (declared_like is_like (first_declarations spec)) (λ d. d.meaning)

    body_at : (r k : ℕ) → slice_get (indices_where p 0 spec.items) r ≡ Some k
        → (it : IsNth p spec.items r k) × (declared_with_number (declared_like is_like (first_declarations spec)) r ≡ Some (body_meaning it.it))
    body_at r k at =
        let it = nth p spec.items r k at in (
          it,
          sym (slice_get-map (λ (d : Declaration). d.meaning) (declared_like is_like (first_declarations spec)) r) ∙ ap (λ ms. slice_get ms r) bodies
              ∙ slice_get-map body_meaning (filter p spec.items) r ∙ ap (option_map body_meaning) it.kept,
        )

rule_declarations : (spec : Spec) → IsWellFormed spec → meanings (declared_like is_rule (first_declarations spec)) ≡ meanings (declared_like is_rule (declarations_from 0 spec.items))
rule_declarations spec good = ap (λ ds. meanings (declared_like is_rule ds)) (all_count spec good)

derived_declarations : (spec : Spec) → IsWellFormed spec → meanings (declared_like is_derived (first_declarations spec)) ≡ meanings (declared_like is_derived (declarations_from 0 spec.items))
derived_declarations spec good = ap (λ ds. meanings (declared_like is_derived ds)) (all_count spec good)

-- the item of a body
pub record IsBody (spec : Spec) (p : Item → Bool) (ds : List Declaration) (r k : ℕ) : Type 0 where
  pub it : Item
  pub index : slice_get spec.items k ≡ Some it
  pub passes : p it ≡ true
  pub meaning : declared_with_number ds r ≡ Some (body_meaning it)

module _ (spec : Spec) (good : IsWellFormed spec) (indices : BodyIndices) (are : AreBodiesOf spec.items indices) where
  pub rules_counted : length indices.rules.items ≡ length (rules_of spec)
  rules_counted = ap length are.rules_are ∙ how_many is_rule is_rule_item own_rules spec (rule_declarations spec good)

  pub derived_counted : length indices.derived.items ≡ length (derived_of spec)
  derived_counted = ap length are.derived_are ∙ how_many is_derived is_derived_item own_derived spec (derived_declarations spec good)

  pub rule_at : (r k : ℕ) → slice_get indices.rules.items r ≡ Some k → IsBody spec is_rule_item (rules_of spec) r k
  rule_at r k at =
      let it = body_at is_rule is_rule_item own_rules spec (rule_declarations spec good) r k (ap (λ ns. slice_get ns r) (sym are.rules_are) ∙ at) in
      record { it = it.0.it; index = it.0.index; passes = it.0.passes; meaning = it.1 }

  pub derived_at : (d k : ℕ) → slice_get indices.derived.items d ≡ Some k → IsBody spec is_derived_item (derived_of spec) d k
  derived_at d k at =
      let it = body_at is_derived is_derived_item own_derived spec (derived_declarations spec good) d k (ap (λ ns. slice_get ns d) (sym are.derived_are) ∙ at) in
      record { it = it.0.it; index = it.0.index; passes = it.0.passes; meaning = it.1 }

-- ---- one item after another

module _ (items : List Item) (item : Item) (n : ℕ) (whole : n ≡ length items) where
  pub bodies_grow : (rules derived rules' derived' : List ℕ) → AreBodies items rules derived → rules' ≡ appended_if (is_rule_item item) rules n → derived' ≡ appended_if (is_derived_item item) derived n
      → AreBodies (items ++ item ∷ []) rules' derived'
  bodies_grow rules derived rules' derived' are e f = record {
    rules_are = e ∙ ap (λ ns. appended_if (is_rule_item item) ns n) are.rules_are ∙ sym (where_one is_rule_item items item n whole);
    derived_are = f ∙ ap (λ ns. appended_if (is_derived_item item) ns n) are.derived_are ∙ sym (where_one is_derived_item items item n whole);
  }

pub bodies_step : {X : Type 0} (view : X → Item) (xs : List X) (i : ℕ) (x : X) → i < length xs → x ≡ get_or xs i x
    → (rules derived rules' derived' : List ℕ) → AreBodies (map view (take i xs)) rules derived
    → rules' ≡ appended_if (is_rule_item (view x)) rules i → derived' ≡ appended_if (is_derived_item (view x)) derived i
    → AreBodies (map view (take (i + 1) xs)) rules' derived'
bodies_step view xs i x within is rules derived rules' derived' are e f =
    let count : i ≡ length (map view (take i xs)) = omega (arith, length-map (take i xs) view, length-take-le i xs (omega (arith, within))) in
    subst (λ ys. AreBodies ys rules' derived')
    (sym (ap (map view) (take_more xs i x within ∙ ap (λ y. take i xs ++ y ∷ []) (sym is)) ∙ map-append view (take i xs) (x ∷ [])))
    (bodies_grow (map view (take i xs)) (view x) i count rules derived rules' derived' are e f)

pub other_than_rule : (it : code.Item) → ((x : code_name.Name) (xs : Vec code_name.Name Global) (P : code_rule.Rule) → it ≡ variant.Rule x xs P → ⊥) → is_rule_item (item_of it) ≡ false
other_than_rule (variant.Rule x xs P) other = absurd (other x xs P refl)
other_than_rule (variant.Uses x) other = refl
other_than_rule (variant.Init x) other = refl
other_than_rule (variant.Enum x xs) other = refl
other_than_rule (variant.Universe x first last) other = refl
other_than_rule (variant.Function x how domain codomain table) other = refl
other_than_rule (variant.Derived x xs t) other = refl

pub other_than_derived : (it : code.Item) → ((x : code_name.Name) (xs : Vec code_name.Name Global) (t : code_term.Term) → it ≡ variant.Derived x xs t → ⊥) → is_derived_item (item_of it) ≡ false
other_than_derived (variant.Derived x xs t) other = absurd (other x xs t refl)
other_than_derived (variant.Uses x) other = refl
other_than_derived (variant.Init x) other = refl
other_than_derived (variant.Enum x xs) other = refl
other_than_derived (variant.Universe x first last) other = refl
other_than_derived (variant.Function x how domain codomain table) other = refl
other_than_derived (variant.Rule x xs P) other = refl

module _ (ns ns' : List ℕ) (k : ℕ) (it : code.Item) where
  pub rule_indexed : (x : code_name.Name) (xs : Vec code_name.Name Global) (P : code_rule.Rule) → it ≡ variant.Rule x xs P → ns' ≡ ns ++ k ∷ [] → ns' ≡ appended_if (is_rule_item (item_of it)) ns k
  rule_indexed x xs P is e = e ∙ ap (λ z. appended_if (is_rule_item (item_of z)) ns k) (sym is)

  pub rule_kept : (x : code_name.Name) (xs : Vec code_name.Name Global) (t : code_term.Term) → it ≡ variant.Derived x xs t → ns' ≡ ns → ns' ≡ appended_if (is_rule_item (item_of it)) ns k
  rule_kept x xs t is e = e ∙ ap (λ z. appended_if (is_rule_item (item_of z)) ns k) (sym is)

  pub rule_left : ((x : code_name.Name) (xs : Vec code_name.Name Global) (P : code_rule.Rule) → it ≡ variant.Rule x xs P → ⊥) → ns' ≡ ns → ns' ≡ appended_if (is_rule_item (item_of it)) ns k
  rule_left other e = e ∙ ap (λ b. appended_if b ns k) (sym (other_than_rule it other))

  pub derived_indexed : (x : code_name.Name) (xs : Vec code_name.Name Global) (t : code_term.Term) → it ≡ variant.Derived x xs t → ns' ≡ ns ++ k ∷ [] → ns' ≡ appended_if (is_derived_item (item_of it)) ns k
  derived_indexed x xs t is e = e ∙ ap (λ z. appended_if (is_derived_item (item_of z)) ns k) (sym is)

  pub derived_kept : (x : code_name.Name) (xs : Vec code_name.Name Global) (P : code_rule.Rule) → it ≡ variant.Rule x xs P → ns' ≡ ns → ns' ≡ appended_if (is_derived_item (item_of it)) ns k
  derived_kept x xs P is e = e ∙ ap (λ z. appended_if (is_derived_item (item_of z)) ns k) (sym is)

  pub derived_left : ((x : code_name.Name) (xs : Vec code_name.Name Global) (t : code_term.Term) → it ≡ variant.Derived x xs t → ⊥) → ns' ≡ ns → ns' ≡ appended_if (is_derived_item (item_of it)) ns k
  derived_left other e = e ∙ ap (λ b. appended_if b ns k) (sym (other_than_derived it other))
