-- Free. In a well-formed specification no name is declared twice, and each is declared as its item
-- says.
use Rattle.std.proofs.Common.{◌≡◌, ◌≢◌, ℕ, suc, zero, ◌+◌, true, false, cond, List, [], ◌∷◌, ◌++◌, map, All, AllPairs, Some, refl, sym, ap, subst, ◌∙◌, arith, inl, inr}
use Rattle.std.specs.Prelude.{Contains, flat_map, find, option_map, slice_get}
use Rattle.std.proofs.lemmas.Bool.{false≢true}
use Rattle.std.proofs.lemmas.List.{map-append}
use Rattle.std.proofs.lemmas.List.Elements.{All-contains, All-map, Contains-append_left, Contains-append_right}
use Rattle.std.proofs.lemmas.List.Kept.{AllPairs-cons}
use Rattle.asm_state.proofs.Lists.{All-from_contained, AllPairs-none, AllPairs-head, AllPairs-tail, AllPairs-map, Contains-cons_cases, Contains-first, Contains-later, Contains-map, Contains-none}
use Rattle.asm_state.specs.declared.function.FunctionKind.TheVariants as kind
use Rattle.asm_syntax.specs.SourceTree as source
use Rattle.asm_syntax.specs.SourceTree.{Name, Term, Rule, Given, Item, Spec}
use Rattle.asm_check.specs.Faults.{IsWellFormed, parameters_of, twice}
use Rattle.asm_check.specs.Introduced.{introduced, all_names, AreDifferent}
use Rattle.asm_check.specs.Laws.{NamesAreApart, ItemsAreDeclared}
use Rattle.asm_check.specs.Names as names
use Rattle.asm_check.specs.Names.{Text, Declaration, Meaning, declares, declarations_of, declarations_from, declarations, predeclared, declared, is_text, is_among, text_of}
use Rattle.asm_check.specs.Shapes.{texts_of}
use Rattle.asm_check.proofs.NameLemmas.FirstOfName.{text_itself}
use Rattle.asm_check.proofs.CycleLemmas.HeightsAreRanks.{split}
use Rattle.asm_check.proofs.NameLemmas.ItemLists.{element_declarations, element_texts_are}
use Rattle.asm_check.proofs.NameLemmas.DeclaredOnce.{IsOther, left_false, right_false, apart}
use Rattle.asm_check.proofs.CycleLemmas.StepFaults.{get_of}

told : (x y : Text) → is_text x y ≡ false → x ≢ y
told x y e same = false≢true (sym e ∙ subst (λ z. is_text x z ≡ true) same (text_itself x))

-- ---- names

own_texts : (k : ℕ) (item : Item) → texts_of (declarations_of k item) ≡ map text_of (introduced item)
own_texts k (source.Uses x) = refl
own_texts k (source.Init x) = refl
own_texts k (source.Enum x xs) = ap (λ ts. x.text ∷ ts) (element_texts_are k xs)
own_texts k (source.Universe x first last) = refl
own_texts k (source.Function x how domain codomain table) = refl
own_texts k (source.Derived x xs t) = refl
own_texts k (source.NamedRule x xs P) = refl

texts_from : (k : ℕ) (items : List Item) → texts_of (declarations_from k items) ≡ map text_of (flat_map introduced items)
texts_from k [] = refl
texts_from k (item ∷ items) =
    map-append (λ (d : Declaration). d.name.text) (declarations_of k item) (declarations_from (suc k) items)
    ∙ ap (λ ts. ts ++ texts_of (declarations_from (suc k) items)) (own_texts k item)
    ∙ ap (λ ts. map text_of (introduced item) ++ ts) (texts_from (suc k) items)
    ∙ sym (map-append text_of (introduced item) (flat_map introduced items))

names_different : (spec : Spec) → IsWellFormed spec → AreDifferent (all_names spec)
unfolding declarations
names_different spec good =
    subst AreDifferent (ap (λ ts. texts_of predeclared ++ ts) (texts_from 0 spec.items))
    (subst AreDifferent (map-append (λ (d : Declaration). d.name.text) predeclared (declarations_from 0 spec.items))
    (AllPairs-map IsOther (λ x y. x ≢ y) (λ d. d.name.text) (λ c d e. told c.name.text d.name.text e) (declarations spec) (apart spec good)))

-- ---- parameters

different_from : (xs : List Name) → ((before after : List Name) (x : Name) → xs ≡ before ++ x ∷ after → is_among (map text_of before) x.text ≡ false) → AreDifferent (map text_of xs)
different_from [] never = AllPairs-none (λ x y. x ≢ y)
different_from (y ∷ xs) never =
    AllPairs-cons (λ x y. x ≢ y) y.text (map text_of xs)
    (each xs (λ x it. let parts = split xs x it in
    told y.text x.text (left_false (is_text y.text x.text) (is_among (map text_of parts.0) x.text) (never (y ∷ parts.0) parts.1 x (ap (λ zs. y ∷ zs) parts.2)))))
    (different_from xs (λ before after x parts. right_false (is_text y.text x.text) (is_among (map text_of before) x.text) (never (y ∷ before) after x (ap (λ zs. y ∷ zs) parts))))
  where
    each : (xs : List Name) → ((x : Name) → Contains xs x → y.text ≢ x.text) → All (λ t. y.text ≢ t) (map text_of xs)
    each xs h = All-map (λ t. y.text ≢ t) text_of xs (All-from_contained (λ (x : Name). y.text ≢ x.text) xs h)

parameters_different : (spec : Spec) → IsWellFormed spec → (item : Item) → Contains spec.items item → AreDifferent (map text_of (parameters_of item))
parameters_different spec good item it = different_from (parameters_of item) once
  where
    once : (before after : List Name) (x : Name) → parameters_of item ≡ before ++ x ∷ after → is_among (map text_of before) x.text ≡ false
    once before after x parts =
        elim (is_among (map text_of before) x.text) as (λ b. is_among (map text_of before) x.text ≡ b → b ≡ false) [
          | true ↦ λ e. absurd (good x.at 8 (twice (
            parameters_of item,
            Contains-later (map (λ d. d.name) (declarations spec)) (map parameters_of spec.items) (parameters_of item) (Contains-map parameters_of spec.items item it),
            record { before = before; name = x; after = after; parts = parts; is_before = e; offset = refl },
          )))
          | false ↦ λ e. refl
        ] refl

pub names_are_apart : NamesAreApart
names_are_apart spec good = record {
  names = names_different spec good;
  parameters_of_rules = λ x xs P it. parameters_different spec good (source.NamedRule x xs P) it;
  parameters_of_derived = λ x xs t it. parameters_different spec good (source.Derived x xs t) it;
}

-- ---- meanings

-- of names that differ the one that is looked for is found
found_alone : (ds : List Declaration) (d : Declaration) → AllPairs IsOther ds → Contains ds d → find (λ c. is_text c.name.text d.name.text) ds ≡ Some d
found_alone [] d others it = absurd (Contains-none d it)
found_alone (c ∷ ds) d others it =
    elim (Contains-cons_cases c ds d it) [
      | inl same ↦ ap (λ b. cond b (Some c) (find (λ c. is_text c.name.text d.name.text) ds)) (subst (λ (e : Declaration). is_text c.name.text e.name.text ≡ true) same (text_itself c.name.text)) ∙ ap Some same
      | inr rest ↦
          ap (λ b. cond b (Some c) (find (λ c. is_text c.name.text d.name.text) ds)) (All-contains (IsOther c) ds d (AllPairs-head IsOther c ds others) rest)
          ∙ found_alone ds d (AllPairs-tail IsOther c ds others) rest
    ]

-- what an item declares is among all declarations
declared_from : (k n : ℕ) (items : List Item) (item : Item) (d : Declaration) → slice_get items n ≡ Some item → Contains (declarations_of (k + n) item) d → Contains (declarations_from k items) d
declared_from k n [] item d at it = cc
declared_from k zero (head ∷ items) item d at it =
    let same : head ≡ item = cc in
    let here : k + 0 ≡ k = omega arith in
    Contains-append_left (declarations_of k head) (declarations_from (suc k) items) d
    (subst (λ i. Contains (declarations_of k i) d) (sym same) (subst (λ j. Contains (declarations_of j item) d) here it))
declared_from k (suc n) (head ∷ items) item d at it =
    let next : k + suc n ≡ suc k + n = omega arith in
    Contains-append_right (declarations_of k head) (declarations_from (suc k) items) d
    (declared_from (suc k) n items item d at (subst (λ j. Contains (declarations_of j item) d) next it))

module _ (spec : Spec) (good : IsWellFormed spec) where
  declared_at : (k : ℕ) (item : Item) (x : Name) (m : Meaning) → slice_get spec.items k ≡ Some item → Contains (declarations_of k item) (declares x m) → declared spec x.text ≡ Some m
  unfolding declared declarations
  declared_at k item x m at it =
      let same : k ≡ 0 + k = omega arith in
      ap (option_map (λ (d : Declaration). d.meaning)) (found_alone (declarations spec) (declares x m) (apart spec good)
      (Contains-append_right predeclared (declarations_from 0 spec.items) (declares x m)
      (declared_from 0 k spec.items item (declares x m) at (subst (λ j. Contains (declarations_of j item) (declares x m)) same it))))

  -- an item that declares one name
  declared_alone : (item : Item) (x : Name) (m : Meaning) → ((k : ℕ) → declarations_of k item ≡ declares x m ∷ []) → Contains spec.items item → declared spec x.text ≡ Some m
  declared_alone item x m alone it =
      let at = get_of spec.items item it in
      declared_at at.0 item x m at.1 (subst (λ ds. Contains ds (declares x m)) (sym (alone at.0)) (Contains-first (declares x m) []))

  element_declared : (k : ℕ) (x y : Name) (xs : List Name) → Contains xs y → Contains (declarations_of k (source.Enum x xs)) (declares y (names.Element k))
  element_declared k x y xs it = Contains-later (declares x (names.Enumeration k)) (element_declarations k xs) (declares y (names.Element k)) (Contains-map (λ z. declares z (names.Element k)) xs y it)

pub items_are_declared : ItemsAreDeclared
items_are_declared spec good = record {
  enumerations = λ k x xs at. declared_at spec good k (source.Enum x xs) x (names.Enumeration k) at (Contains-first (declares x (names.Enumeration k)) (element_declarations k xs));
  elements = λ k x xs at y it. declared_at spec good k (source.Enum x xs) y (names.Element k) at (element_declared spec good k x y xs it);
  ranges = λ x first last. declared_alone spec good (source.Universe x first last) x (names.Range first.value last.value) (λ k. refl);
  controlled = λ x domain codomain table. declared_alone spec good (source.Function x kind.Controlled domain codomain table) x (names.Controlled domain) (λ k. refl);
  static = λ x domain codomain table. declared_alone spec good (source.Function x kind.Static domain codomain table) x (names.Static domain) (λ k. refl);
  derived = λ x xs t. declared_alone spec good (source.Derived x xs t) x (names.Derived xs t) (λ k. refl);
  rules = λ x xs P. declared_alone spec good (source.NamedRule x xs P) x (names.NamedRule xs P) (λ k. refl);
}
