-- Free. The numbers of elements: those of an enumeration follow one another, after those of the
-- enumerations before it.
use Rattle.std.proofs.Common.{◌≡◌, ◌⊎◌, ℕ, zero, suc, ◌+◌, ◌<◌, ◌≤◌, Bool, true, false, cond, not, List, [], ◌∷◌, ◌++◌, length, Some, refl, sym, ap, subst, ◌∙◌, arith, inl, inr}
use Rattle.std.specs.Prelude.{find, slice_get}
use Rattle.std.specs.List.{position_or_len}
use Rattle.std.proofs.lemmas.Option.{slice_get_within}
use Rattle.asm_state.specs.declared.element.TheConstants.{MAX_ELEMENTS}
use Rattle.asm_state.specs.declared.function.FunctionKind.TheVariants as kind
use Rattle.asm_syntax.specs.SourceTree as source
use Rattle.asm_syntax.specs.SourceTree.{Name, Item, Spec}
use Rattle.asm_check.specs.Names.{Text, Declaration, Element, declares, declarations_of, declarations_from, first_declarations, declared, is_text}
use Rattle.asm_check.specs.Faults.{IsWellFormed}
use Rattle.asm_check.specs.Limits.{is_element_of}
use Rattle.asm_check.specs.code.numbers.ItemLists.{elements_of_item, elements_in}
use Rattle.asm_check.specs.Numbers.{is_element, elements_of}
use Rattle.asm_check.specs.Shapes.{is_element_before, index_among, texts_of}
use Rattle.asm_check.proofs.NameLemmas.ItemLists.{element_declarations, like_next, count_like, AreNumbered}
use Rattle.asm_check.proofs.NumberLemmas.UniversePositions.{is_named, index_is, find_kept, first_named}
use Rattle.asm_check.proofs.LimitLemmas.SmallUniverses.{all_numbered, few_elements}
use Rattle.asm_check.proofs.NameLemmas.DeclaredOnce.{all_like}
use Rattle.asm_check.proofs.NameLemmas.ListedDeclarations.{kept_enumeration, length_elements}
use Rattle.asm_check.specs.code.numbers.NumberTables.{declared_like}

-- what is found is at the position of the first that passes
pub stands_at : {X : Type 0} (p : X → Bool) (xs : List X) (x : X) → find p xs ≡ Some x → slice_get xs (position_or_len p xs) ≡ Some x
stands_at p [] x found = cc
stands_at p (y ∷ xs) x found =
    elim (p y) as (λ b. cond b (Some y) (find p xs) ≡ Some x → slice_get (y ∷ xs) (cond (not b) (1 + position_or_len p xs) 0) ≡ Some x) [
      | true ↦ λ e. e
      | false ↦ λ e. let next : 1 + position_or_len p xs ≡ suc (position_or_len p xs) = omega arith in ap (slice_get (y ∷ xs)) next ∙ stands_at p xs x e
    ] found

-- it passes
pub found_passes : {X : Type 0} (p : X → Bool) (xs : List X) (x : X) → find p xs ≡ Some x → p x ≡ true
found_passes p [] x found = cc
found_passes p (y ∷ xs) x found =
    elim (p y) as (λ b. p y ≡ b → cond b (Some y) (find p xs) ≡ Some x → p x ≡ true) [
      | true ↦ λ e f. let same : y ≡ x = cc in subst (λ z. p z ≡ true) same e
      | false ↦ λ e f. found_passes p xs x f
    ] refl found

abbrev element_names : Item → List Name
element_names (source.Enum x xs) = xs
element_names item = []

own_elements : (k : ℕ) (item : Item) → declared_like is_element (declarations_of k item) ≡ element_declarations k (element_names item)
own_elements k (source.Uses x) = refl
own_elements k (source.Init x) = refl
own_elements k (source.Enum x xs) = kept_enumeration k xs
own_elements k (source.Universe x first last) = refl
own_elements k (source.Function x kind.Controlled domain codomain table) = refl
own_elements k (source.Function x kind.Static domain codomain table) = refl
own_elements k (source.Derived x xs t) = refl
own_elements k (source.NamedRule x xs P) = refl

own_count : (item : Item) → length (element_names item) ≡ elements_of_item item
own_count (source.Uses x) = refl
own_count (source.Init x) = refl
own_count (source.Enum x xs) = refl
own_count (source.Universe x first last) = refl
own_count (source.Function x how domain codomain table) = refl
own_count (source.Derived x xs t) = refl
own_count (source.NamedRule x xs P) = refl

elements_next : (k : ℕ) (item : Item) (items : List Item)
    → declared_like is_element (declarations_from k (item ∷ items)) ≡ element_declarations k (element_names item) ++ declared_like is_element (declarations_from (suc k) items)
elements_next k item items = like_next is_element k item items ∙ ap (λ ds. ds ++ declared_like is_element (declarations_from (suc k) items)) (own_elements k item)

-- an element is among those of this enumeration, or at position m after them
abbrev StandsIn : ℕ → ℕ → List Declaration → ℕ → Declaration → Type 0
StandsIn k count rest n d = ((n < count) × (d.meaning ≡ Element k)) ⊎ ((m : ℕ) × (n ≡ count + m) × (slice_get rest m ≡ Some d))

stands_in : (k : ℕ) (xs : List Name) (rest : List Declaration) (n : ℕ) (d : Declaration) → slice_get (element_declarations k xs ++ rest) n ≡ Some d → StandsIn k (length xs) rest n d
stands_in k [] rest n d e = inr (n, omega arith, e)
stands_in k (x ∷ xs) rest zero d e = let same : declares x (Element k) ≡ d = cc in inl (omega arith, sym (ap (λ c. c.meaning) same))
stands_in k (x ∷ xs) rest (suc n) d e =
    elim (stands_in k xs rest n d e) [
      | inl it ↦ let below = it.0 in inl (omega (arith, below), it.1)
      | inr it ↦ let far : n ≡ length xs + it.0 = it.1 in inr (it.0, omega (arith, far), it.2)
    ]

-- the number of an element of the enumeration j
pub record IsNumberIn (ds : List Declaration) (j n : ℕ) : Type 0 where
  pub behind : count_like (is_element_before j) ds ≤ n
  pub below : n < count_like (is_element_before j) ds + count_like (is_element_of j) ds

number_from : (ds : List Declaration) (k first : ℕ) (items : List Item) → AreNumbered ds k first items
    → (n j : ℕ) (d : Declaration) → slice_get (declared_like is_element (declarations_from k items)) n ≡ Some d → d.meaning ≡ Element j → IsNumberIn ds j (first + n)
number_from ds k first [] numbered n j d at is = cc
number_from ds k first (item ∷ items) numbered n j d at is =
    elim (stands_in k (element_names item) (declared_like is_element (declarations_from (suc k) items)) n d (ap (λ cs. slice_get cs n) (sym (elements_next k item items)) ∙ at)) [
      | inl it ↦ own it.0 it.1
      | inr it ↦ later it.0 it.1 (number_from ds (suc k) (first + elements_of_item item) items numbered.2 it.0 j d it.2 is)
    ]
  where
    own : n < length (element_names item) → d.meaning ≡ Element k → IsNumberIn ds j (first + n)
    own inside here =
        let same : k ≡ j = cc in
        let before : count_like (is_element_before k) ds ≡ first = numbered.0 in
        let many : count_like (is_element_of k) ds ≡ elements_of_item item = numbered.1 in
        let count = own_count item in
        subst (λ i. IsNumberIn ds i (first + n)) same (record { behind = omega (arith, before); below = omega (arith, before, many, count, inside) })

    later : (m : ℕ) → n ≡ length (element_names item) + m → IsNumberIn ds j (first + elements_of_item item + m) → IsNumberIn ds j (first + n)
    later m far rest =
        let count = own_count item in
        let same : first + elements_of_item item + m ≡ first + n = omega (arith, far, count) in
        subst (IsNumberIn ds j) same rest

module _ (spec : Spec) (good : IsWellFormed spec) where
  all_elements : elements_of spec ≡ declared_like is_element (declarations_from 0 spec.items)
  all_elements = all_like spec good is_element refl

  pub elements_few : length (elements_of spec) ≤ MAX_ELEMENTS
  elements_few = let same : length (elements_of spec) ≡ elements_in spec.items = ap length all_elements ∙ length_elements 0 spec.items in let few = few_elements spec good in omega (arith, same, few)

  -- the element that has this number
  pub number_in : (n k : ℕ) (d : Declaration) → slice_get (elements_of spec) n ≡ Some d → d.meaning ≡ Element k → IsNumberIn (first_declarations spec) k n
  number_in n k d at is =
      let same : 0 + n ≡ n = omega arith in
      subst (IsNumberIn (first_declarations spec) k) same (number_from (first_declarations spec) 0 0 spec.items (all_numbered spec good) n k d (ap (λ ds. slice_get ds n) (sym all_elements) ∙ at) is)

  pub number_small : (n : ℕ) (d : Declaration) → slice_get (elements_of spec) n ≡ Some d → n < MAX_ELEMENTS
  number_small n d at = let few = elements_few in let inside = slice_get_within (elements_of spec) n d at in omega (arith, few, inside)

  -- the declaration of an element, at its number
  pub record IsElementAt (x : Text) (k n : ℕ) : Type 0 where
    pub declaration : Declaration
    pub stands : slice_get (elements_of spec) n ≡ Some declaration
    pub name : is_text declaration.name.text x ≡ true
    pub meaning : declaration.meaning ≡ Element k

  pub element_at : (x : Text) (k : ℕ) → declared spec x ≡ Some (Element k) → IsElementAt x k (index_among (texts_of (elements_of spec)) x)
  element_at x k known =
      let it = first_named spec x (Element k) known in
      let found : find (is_named x) (elements_of spec) ≡ Some it.0 = find_kept (is_named x) (λ d. is_element d.meaning) (first_declarations spec) it.0 it.1 (ap is_element it.2) in
      record {
        declaration = it.0;
        stands = ap (slice_get (elements_of spec)) (index_is (elements_of spec) x) ∙ stands_at (is_named x) (elements_of spec) it.0 found;
        name = found_passes (is_named x) (elements_of spec) it.0 found;
        meaning = it.2;
      }
