-- Free. The first declaration of a name.
use Rattle.std.proofs.Common.{◌≡◌, ℕ, suc, true, false, cond, ◌||◌, List, [], ◌∷◌, ◌++◌, map, Option, Some, refl, sym, ap, subst, ◌∙◌, inl, inr}
use Rattle.std.specs.Prelude.{Contains, find, option_map, flat_map}
use Rattle.std.specs.Cmp.{unsigned_Decides}
use Rattle.std.proofs.lemmas.List.Elements.{Contains-append_left, Contains-append_right, Contains-append_cases}
use Rattle.std.proofs.lemmas.Slice.Eq.{slice_eq-Decides}
use Rattle.asm_state.proofs.Lists.{Contains-cons_cases, Contains-first, Contains-later, Contains-none}
use Rattle.asm_syntax.specs.SourceTree as source
use Rattle.asm_state.specs.declared.function.FunctionKind.TheVariants as kind
use Rattle.asm_check.specs.Names as names
use Rattle.asm_syntax.specs.SourceTree.{Name, Item, Rule, Term, Spec}
use Rattle.asm_check.specs.Names.{Text, Meaning, NamedRule, Derived, Declaration, declares, Use, is_text, is_among, text_of, predeclared, predeclared_names, declarations_of, declarations_from, declarations, first_of_each, first_declarations, declared, uses_of, uses, uses_of_rule, uses_of_term, rule_scope}
use Rattle.asm_check.specs.Laws.{TextsAreTold}

pub same_text : (x y : Text) → is_text x y ≡ true → x ≡ y
same_text x y e = (slice_eq-Decides unsigned_Decides x y true (sym e)).0 refl

pub text_itself : (x : Text) → is_text x x ≡ true
text_itself x = (slice_eq-Decides unsigned_Decides x x (is_text x x) refl).1 refl

pub texts_are_told : TextsAreTold
texts_are_told x y = (same_text x y, λ same. ap (is_text x) (sym same) ∙ text_itself x)

-- the first declaration of a name in a list, with what is before it
pub record IsFirst (ds : List Declaration) (f : Text) (m : Meaning) : Type 0 where
  pub before : List Declaration
  pub it : Declaration
  pub after : List Declaration
  pub parts : ds ≡ before ++ it ∷ after
  pub name : it.name.text ≡ f
  pub meaning : it.meaning ≡ m

abbrev meaning_in : List Declaration → Text → Option Meaning
meaning_in ds f = option_map (λ d. d.meaning) (find (λ d. is_text d.name.text f) ds)

first_in : (ds : List Declaration) (seen : List Text) (f : Text) (m : Meaning) → is_among seen f ≡ false → meaning_in ds f ≡ Some m
    → IsFirst (first_of_each seen ds) f m
first_in [] seen f m new found = cc
first_in (d ∷ ds) seen f m new found =
    elim (is_text d.name.text f) as (λ b. is_text d.name.text f ≡ b → option_map (λ d. d.meaning) (cond b (Some d) (find (λ d. is_text d.name.text f) ds)) ≡ Some m
    → IsFirst (first_of_each seen (d ∷ ds)) f m) [
      | true ↦ λ e is. this e is
      | false ↦ λ e is.
          elim (is_among seen d.name.text) as (λ b. IsFirst (cond b (first_of_each seen ds) (d ∷ first_of_each (d.name.text ∷ seen) ds)) f m) [
            | true ↦ first_in ds seen f m new is
            | false ↦ put_before (first_in ds (d.name.text ∷ seen) f m (ap (λ b. b || is_among seen f) e ∙ new) is)
          ]
    ] refl found
  where
    this : is_text d.name.text f ≡ true → ◌≡◌ {A = Option Meaning} (Some d.meaning) (Some m) → IsFirst (first_of_each seen (d ∷ ds)) f m
    this e is =
        let name = same_text d.name.text f e in
        let fresh : is_among seen d.name.text ≡ false = ap (is_among seen) name ∙ new in
        let same : d.meaning ≡ m = cc in
        subst (λ b. IsFirst (cond b (first_of_each seen ds) (d ∷ first_of_each (d.name.text ∷ seen) ds)) f m) (sym fresh)
        (record { before = []; it = d; after = first_of_each (d.name.text ∷ seen) ds; parts = refl; name = name; meaning = same })

    put_before : IsFirst (first_of_each (d.name.text ∷ seen) ds) f m → IsFirst (d ∷ first_of_each (d.name.text ∷ seen) ds) f m
    put_before rest =
        record { before = d ∷ rest.before; it = rest.it; after = rest.after; parts = ap (λ xs. d ∷ xs) rest.parts; name = rest.name; meaning = rest.meaning }

pub first_is : (spec : Spec) (f : Text) (m : Meaning) → declared spec f ≡ Some m → IsFirst (first_declarations spec) f m
unfolding declared first_declarations
first_is spec f m found = first_in (declarations spec) [] f m refl found

-- the first one is among all
stands : (ds : List Declaration) (f : Text) (m : Meaning) → meaning_in ds f ≡ Some m → (d : Declaration) × Contains ds d × (d.meaning ≡ m)
stands [] f m found = cc
stands (d ∷ ds) f m found =
    elim (is_text d.name.text f) as (λ b. option_map (λ d. d.meaning) (cond b (Some d) (find (λ d. is_text d.name.text f) ds)) ≡ Some m
    → (c : Declaration) × Contains (d ∷ ds) c × (c.meaning ≡ m)) [
      | true ↦ λ is. let same : d.meaning ≡ m = cc in (d, Contains-first d ds, same)
      | false ↦ λ is. let rest = stands ds f m is in (rest.0, Contains-later d ds rest.0 rest.1, rest.2)
    ] found

-- ---- the uses in a body are among all uses

abbrev pub uses_of_meaning : Meaning → List Use
uses_of_meaning (NamedRule xs P) = uses_of_rule P (rule_scope xs)
uses_of_meaning (Derived xs t) = uses_of_term t (map text_of xs)
uses_of_meaning m = []

abbrev AreUses : List Use → Declaration → Type 0
AreUses us d = (u : Use) → Contains (uses_of_meaning d.meaning) u → Contains us u

only : (x : Name) (m : Meaning) (us : List Use) → AreUses us (declares x m) → (d : Declaration) → Contains (declares x m ∷ []) d → AreUses us d
only x m us h d c = elim (Contains-cons_cases (declares x m) [] d c) [ inl e ↦ subst (AreUses us) e h | inr bad ↦ absurd (Contains-none d bad) ]

no_uses : (us : List Use) (k : ℕ) (xs : List Name) (d : Declaration) → Contains (map (λ y. declares y (names.Element k)) xs) d → AreUses us d
no_uses us k [] d c = absurd (Contains-none d c)
no_uses us k (x ∷ xs) d c =
    elim (Contains-cons_cases (declares x (names.Element k)) (map (λ y. declares y (names.Element k)) xs) d c) [
      | inl e ↦ subst (AreUses us) e (λ u bad. absurd (Contains-none u bad))
      | inr rest ↦ no_uses us k xs d rest
    ]

of_item : (k : ℕ) (item : Item) (d : Declaration) → Contains (declarations_of k item) d → AreUses (uses_of item) d
of_item k (source.Uses x) d c = absurd (Contains-none d c)
of_item k (source.Init x) d c = absurd (Contains-none d c)
of_item k (source.Enum x xs) d c =
    elim (Contains-cons_cases (declares x (names.Enumeration k)) _ d c) [
      | inl e ↦ subst (AreUses []) e (λ u bad. absurd (Contains-none u bad))
      | inr rest ↦ no_uses [] k xs d rest
    ]
of_item k (source.Universe x first last) d c = only x (names.Range first.value last.value) [] (λ u bad. absurd (Contains-none u bad)) d c
of_item k (source.Function x kind.Controlled domain codomain table) d c = only x (names.Controlled domain) _ (λ u bad. absurd (Contains-none u bad)) d c
of_item k (source.Function x kind.Static domain codomain table) d c = only x (names.Static domain) _ (λ u bad. absurd (Contains-none u bad)) d c
of_item k (source.Derived x xs t) d c = only x (Derived xs t) _ (λ u it. it) d c
of_item k (source.NamedRule x xs P) d c = only x (NamedRule xs P) _ (λ u it. it) d c

of_items : (k : ℕ) (items : List Item) (d : Declaration) → Contains (declarations_from k items) d → AreUses (flat_map uses_of items) d
of_items k [] d c u it = absurd (Contains-none d c)
of_items k (item ∷ items) d c u it =
    elim (Contains-append_cases (declarations_of k item) (declarations_from (suc k) items) d c) [
      | inl own ↦ Contains-append_left (uses_of item) (flat_map uses_of items) u (of_item k item d own u it)
      | inr rest ↦ Contains-append_right (uses_of item) (flat_map uses_of items) u (of_items (suc k) items d rest u it)
    ]

none_before : (us : List Use) (xs : List Text) (d : Declaration)
    → Contains (map (λ x. declares (record { at = 0; text = x }) names.Predeclared) xs) d → AreUses us d
none_before us [] d c = absurd (Contains-none d c)
none_before us (x ∷ xs) d c =
    elim (Contains-cons_cases _ _ d c) [
      | inl e ↦ subst (AreUses us) e (λ u bad. absurd (Contains-none u bad))
      | inr rest ↦ none_before us xs d rest
    ]

pub uses_stand : (spec : Spec) (d : Declaration) → Contains (predeclared ++ declarations_from 0 spec.items) d → (u : Use) → Contains (uses_of_meaning d.meaning) u → Contains (uses spec) u
unfolding uses
uses_stand spec d stands u mine =
    elim (Contains-append_cases predeclared (declarations_from 0 spec.items) d stands) [
      | inl bad ↦ none_before (flat_map uses_of spec.items) predeclared_names d bad u mine
      | inr given ↦ of_items 0 spec.items d given u mine
    ]

pub body_uses : (spec : Spec) (f : Text) (m : Meaning) → declared spec f ≡ Some m → (u : Use) → Contains (uses_of_meaning m) u → Contains (uses spec) u
unfolding declared declarations
body_uses spec f m found u it =
    let first = stands (declarations spec) f m found in
    uses_stand spec first.0 first.1 u (subst (λ m. Contains (uses_of_meaning m) u) (sym first.2) it)
