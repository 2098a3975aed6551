-- Free. The sizes that are counted, by names and by positions.
use Rattle.std.proofs.Common.{◌≡◌, ℕ, zero, suc, ◌+◌, ◌-◌, ◌<◌, ◌≤◌, Bool, true, false, cond, ◌||◌, List, [], ◌∷◌, ◌++◌, map, length, take, drop, Option, Some, None, refl, sym, ap, subst, ◌∙◌, arith}
use Rattle.std.specs.Prelude.{nat_le, filter, find, slice_get, slice_index, option_map, All}
use Rattle.std.specs.Option.{option_map_or}
use Rattle.std.proofs.lemmas.Bool.{leb-true, true≢false, or_right}
use Rattle.std.proofs.lemmas.Option.{slice_get-map}
use Rattle.std.proofs.lemmas.List.{drop_all, append-nil, append_assoc}
use Rattle.std.proofs.lemmas.List.Elements.{All-nil, All-cons}
use Rattle.asm_state.specs.declared.signature_limits.TheConstants.{MAX_UNIVERSES, MAX_VALUES}
use Rattle.asm_syntax.specs.SourceTree.{Name, Spec}
use Rattle.asm_check.specs.declared.names.declared_as.Declaration.{Declaration as CodeDeclaration}
use Rattle.asm_check.specs.Names.{Text, Declaration, Meaning, declares, is_text, is_among, declarations, first_of_each, first_declarations, declared}
use Rattle.asm_check.specs.Limits.{is_universe, size_of, counted_size}
use Rattle.asm_check.specs.code.names.Tables.{Entry, IsTableOf, declaration_of, declared_as_view, text_of_entry}
use Rattle.asm_check.specs.code.limits.CountedSizes.{allowed_size, counted_from, size_with, AreCountedSizes, AreElementCounts}
use Rattle.asm_check.proofs.NameLemmas.FirstOfName.{same_text, text_itself}
use Rattle.asm_check.proofs.NameLemmas.FirstDeclarations.{first_stands}
use Rattle.asm_check.proofs.LimitLemmas.ElementCounts.{size_with_is}
use Rattle.asm_check.proofs.NameLemmas.TableSteps.{Stands}

-- ---- by positions

allowed_small : (n : ℕ) → allowed_size n ≤ MAX_VALUES
allowed_small n = of (nat_le n MAX_VALUES) refl
  where
    of : (b : Bool) → nat_le n MAX_VALUES ≡ b → cond b n 0 ≤ MAX_VALUES
    of true e = leb-true n MAX_VALUES e
    of false e = omega arith

module _ (size : Meaning → ℕ) where
  pub counted_small : (left : ℕ) (ds : List Declaration) → All (λ n. n ≤ MAX_VALUES) (counted_from size left ds)
  counted_small left [] = All-nil (λ n. n ≤ MAX_VALUES)
  counted_small zero (d ∷ ds) = All-cons (λ n. n ≤ MAX_VALUES) 0 (counted_from size zero ds) (omega arith) (counted_small zero ds)
  counted_small (suc left) (d ∷ ds) =
      elim (is_universe d.meaning) as (λ b. All (λ n. n ≤ MAX_VALUES) (cond b (allowed_size (size d.meaning) ∷ counted_from size left ds) (0 ∷ counted_from size (suc left) ds))) [
        | true ↦ All-cons (λ n. n ≤ MAX_VALUES) (allowed_size (size d.meaning)) (counted_from size left ds) (allowed_small (size d.meaning)) (counted_small left ds)
        | false ↦ All-cons (λ n. n ≤ MAX_VALUES) 0 (counted_from size (suc left) ds) (omega arith) (counted_small (suc left) ds)
      ]

  counted_universe : (left : ℕ) (d : Declaration) (ds : List Declaration) → 0 < left → is_universe d.meaning ≡ true
      → counted_from size left (d ∷ ds) ≡ allowed_size (size d.meaning) ∷ counted_from size (left - 1) ds
  counted_universe zero d ds some e = absurd (omega arith)
  counted_universe (suc left) d ds some e =
      ap (λ b. cond b (allowed_size (size d.meaning) ∷ counted_from size left ds) (0 ∷ counted_from size (suc left) ds)) e
      ∙ let same : left ≡ suc left - 1 = omega arith in ap (λ n. allowed_size (size d.meaning) ∷ counted_from size n ds) same

  counted_other : (left : ℕ) (d : Declaration) (ds : List Declaration) → is_universe d.meaning ≡ false → counted_from size left (d ∷ ds) ≡ 0 ∷ counted_from size left ds
  counted_other zero d ds e = refl
  counted_other (suc left) d ds e = ap (λ b. cond b (allowed_size (size d.meaning) ∷ counted_from size left ds) (0 ∷ counted_from size (suc left) ds)) e

  counted_past : (left : ℕ) (d : Declaration) (ds : List Declaration) → left ≤ 0 → counted_from size left (d ∷ ds) ≡ 0 ∷ counted_from size left ds
  counted_past zero d ds none = refl
  counted_past (suc left) d ds none = absurd (omega arith)

  -- those so far, and those that the rest gives
  abbrev pub AreSizesSoFar : List Declaration → (i left : ℕ) → List ℕ → Type 0
  AreSizesSoFar ds i left sizes = sizes ++ counted_from size left (drop i ds) ≡ counted_from size MAX_UNIVERSES ds

  next_size : (ds : List Declaration) (i left left' : ℕ) (sizes : List ℕ) (n : ℕ) (r : CodeDeclaration) (s : Stands ds i r)
      → counted_from size left (declares s.name (declared_as_view r.meaning) ∷ drop (i + 1) ds) ≡ n ∷ counted_from size left' (drop (i + 1) ds)
      → AreSizesSoFar ds i left sizes → AreSizesSoFar ds (i + 1) left' (sizes ++ n ∷ [])
  next_size ds i left left' sizes n r s step h =
      append_assoc sizes (n ∷ []) (counted_from size left' (drop (i + 1) ds))
      ∙ ap (λ ns. sizes ++ ns) (sym (ap (counted_from size left) s.rest ∙ step)) ∙ h

  pub size_of_universe : (ds : List Declaration) (i left : ℕ) (sizes : List ℕ) (r : CodeDeclaration) → Stands ds i r → 0 < left → is_universe (declared_as_view r.meaning) ≡ true
      → AreSizesSoFar ds i left sizes → AreSizesSoFar ds (i + 1) (left - 1) (sizes ++ allowed_size (size (declared_as_view r.meaning)) ∷ [])
  size_of_universe ds i left sizes r s some e h =
      next_size ds i left (left - 1) sizes (allowed_size (size (declared_as_view r.meaning))) r s (counted_universe left (declares s.name (declared_as_view r.meaning)) (drop (i + 1) ds) some e) h

  pub size_of_other : (ds : List Declaration) (i left : ℕ) (sizes : List ℕ) (r : CodeDeclaration) → Stands ds i r → is_universe (declared_as_view r.meaning) ≡ false
      → AreSizesSoFar ds i left sizes → AreSizesSoFar ds (i + 1) left (sizes ++ 0 ∷ [])
  size_of_other ds i left sizes r s e h =
      next_size ds i left left sizes 0 r s (counted_other left (declares s.name (declared_as_view r.meaning)) (drop (i + 1) ds) e) h

  pub size_past : (ds : List Declaration) (i left : ℕ) (sizes : List ℕ) (r : CodeDeclaration) → Stands ds i r → left ≤ 0
      → AreSizesSoFar ds i left sizes → AreSizesSoFar ds (i + 1) left (sizes ++ 0 ∷ [])
  size_past ds i left sizes r s none h =
      next_size ds i left left sizes 0 r s (counted_past left (declares s.name (declared_as_view r.meaning)) (drop (i + 1) ds) none) h

  pub sizes_whole : (ds : List Declaration) (i left : ℕ) (sizes : List ℕ) → length ds ≤ i → AreSizesSoFar ds i left sizes → sizes ≡ counted_from size MAX_UNIVERSES ds
  sizes_whole ds i left sizes all h =
      sym (append-nil sizes) ∙ ap (λ xs. sizes ++ counted_from size left xs) (sym (drop_all i ds all)) ∙ h

-- ---- by names

abbrev is_of : Text → Declaration → Bool
is_of x d = is_text d.name.text x

abbrev Lacks : Text → List Declaration → Type 0
Lacks x ds = find (is_of x) ds ≡ None

lacks_head : (x : Text) (d : Declaration) (ds : List Declaration) → Lacks x (d ∷ ds) → (is_of x d ≡ false) × Lacks x ds
lacks_head x d ds h = of (is_of x d) refl
  where
    of : (b : Bool) → is_of x d ≡ b → (is_of x d ≡ false) × Lacks x ds
    of true e = let no : ◌≡◌ {A = Option Declaration} (Some d) None = ap (λ b. cond b (Some d) (find (is_of x) ds)) (sym e) ∙ h in cc
    of false e = (e, ap (λ b. cond b (Some d) (find (is_of x) ds)) (sym e) ∙ h)

lacks_more : (x : Text) (d : Declaration) (ds : List Declaration) → is_of x d ≡ false → Lacks x ds → Lacks x (d ∷ ds)
lacks_more x d ds e h = ap (λ b. cond b (Some d) (find (is_of x) ds)) e ∙ h

lacks_filter : (p : Declaration → Bool) (x : Text) (ds : List Declaration) → Lacks x ds → Lacks x (filter p ds)
lacks_filter p x [] h = refl
lacks_filter p x (d ∷ ds) h =
    let parts = lacks_head x d ds h in
    elim (p d) as (λ b. Lacks x (cond b (d ∷ filter p ds) (filter p ds))) [
      | true ↦ lacks_more x d (filter p ds) parts.0 (lacks_filter p x ds parts.1)
      | false ↦ lacks_filter p x ds parts.1
    ]

lacks_take : (n : ℕ) (x : Text) (ds : List Declaration) → Lacks x ds → Lacks x (take n ds)
lacks_take zero x ds h = refl
lacks_take (suc n) x [] h = refl
lacks_take (suc n) x (d ∷ ds) h = let parts = lacks_head x d ds h in lacks_more x d (take n ds) parts.0 (lacks_take n x ds parts.1)

there_is : (ds : List Declaration) (i : ℕ) (d : Declaration) → slice_get ds i ≡ Some d → ¬ (Lacks d.name.text ds)
there_is [] i d s h = cc
there_is (c ∷ ds) zero d s h =
    let same : c ≡ d = cc in
    true≢false (sym (text_itself d.name.text) ∙ (ap (λ (z : Declaration). is_of d.name.text z) (sym same) ∙ (lacks_head d.name.text c ds h).0))
there_is (c ∷ ds) (suc i) d s h = there_is ds i d s (lacks_head d.name.text c ds h).1

-- each name is there once
abbrev AreDistinct : List Declaration → Type 0
AreDistinct [] = Unit {0}
AreDistinct (d ∷ ds) = Lacks d.name.text ds × AreDistinct ds

other : (seen : List Text) (x : Text) (d : Declaration) (b : Bool) → is_of x d ≡ b → is_among seen x ≡ true → is_among seen d.name.text ≡ false → is_of x d ≡ false
other seen x d true e h new = absurd (true≢false (sym h ∙ (ap (is_among seen) (sym (same_text d.name.text x e)) ∙ new)))
other seen x d false e h new = e

lacks_seen : (seen : List Text) (ds : List Declaration) (x : Text) → is_among seen x ≡ true → Lacks x (first_of_each seen ds)
lacks_seen seen [] x h = refl
lacks_seen seen (d ∷ ds) x h =
    elim (is_among seen d.name.text) as (λ b. is_among seen d.name.text ≡ b → Lacks x (cond b (first_of_each seen ds) (d ∷ first_of_each (d.name.text ∷ seen) ds))) [
      | true ↦ λ e. lacks_seen seen ds x h
      | false ↦ λ e.
          lacks_more x d (first_of_each (d.name.text ∷ seen) ds) (other seen x d (is_of x d) refl h e)
          (lacks_seen (d.name.text ∷ seen) ds x (or_right (is_text d.name.text x) (is_among seen x) h))
    ] refl

distinct_firsts : (seen : List Text) (ds : List Declaration) → AreDistinct (first_of_each seen ds)
distinct_firsts seen [] = tt
distinct_firsts seen (d ∷ ds) =
    elim (is_among seen d.name.text) as (λ b. AreDistinct (cond b (first_of_each seen ds) (d ∷ first_of_each (d.name.text ∷ seen) ds))) [
      | true ↦ distinct_firsts seen ds
      | false ↦
          (lacks_seen (d.name.text ∷ seen) ds d.name.text (ap (λ b. b || is_among seen d.name.text) (text_itself d.name.text)), distinct_firsts (d.name.text ∷ seen) ds)
    ]

module _ (size : Meaning → ℕ) where
  abbrev is_small : Declaration → Bool
  is_small d = nat_le (size d.meaning) MAX_VALUES

  abbrev universes_in : List Declaration → List Declaration
  universes_in ds = filter (λ d. is_universe d.meaning) ds

  abbrev size_among : Text → List Declaration → ℕ
  size_among x ds = option_map_or (λ d. size d.meaning) (find (is_of x) ds) 0

  abbrev size_in : (left : ℕ) → Text → List Declaration → ℕ
  size_in left x ds = size_among x (filter is_small (take left (universes_in ds)))

  missing_size : (left : ℕ) (x : Text) (ds : List Declaration) → Lacks x ds → size_in left x ds ≡ 0
  missing_size left x ds h =
      ap (λ found. option_map_or (λ (d : Declaration). size d.meaning) found 0)
      (lacks_filter is_small x (take left (universes_in ds)) (lacks_take left x (universes_in ds) (lacks_filter (λ d. is_universe d.meaning) x ds h)))

  -- the first one, in front of `left` more
  size_of_head : (left : ℕ) (d : Declaration) (ds : List Declaration) → Lacks d.name.text ds
      → allowed_size (size d.meaning) ≡ size_among d.name.text (filter is_small (d ∷ take left (universes_in ds)))
  size_of_head left d ds h = of (is_small d)
    where
      of : (b : Bool) → cond b (size d.meaning) 0 ≡ size_among d.name.text (cond b (d ∷ filter is_small (take left (universes_in ds))) (filter is_small (take left (universes_in ds))))
      of true =
          ap (λ b. option_map_or (λ (c : Declaration). size c.meaning) (cond b (Some d) (find (is_of d.name.text) (filter is_small (take left (universes_in ds))))) 0) (sym (text_itself d.name.text))
      of false = sym (missing_size left d.name.text ds h)

  past_head : (x : Text) (left : ℕ) (d : Declaration) (ds : List Declaration) → is_of x d ≡ false
      → size_in left x ds ≡ size_among x (filter is_small (d ∷ take left (universes_in ds)))
  past_head x left d ds e = of (is_small d)
    where
      of : (b : Bool) → size_in left x ds ≡ size_among x (cond b (d ∷ filter is_small (take left (universes_in ds))) (filter is_small (take left (universes_in ds))))
      of true = ap (λ b. option_map_or (λ (c : Declaration). size c.meaning) (cond b (Some d) (find (is_of x) (filter is_small (take left (universes_in ds))))) 0) (sym e)
      of false = refl

  not_again : (c : Declaration) (ds : List Declaration) (i : ℕ) (d : Declaration) (b : Bool) → is_of d.name.text c ≡ b → Lacks c.name.text ds → slice_get ds i ≡ Some d
      → is_of d.name.text c ≡ false
  not_again c ds i d true e h s = absurd (there_is ds i d s (subst (λ x. Lacks x ds) (same_text c.name.text d.name.text e) h))
  not_again c ds i d false e h s = e

  size_at : (left : ℕ) (ds : List Declaration) (i : ℕ) (d : Declaration) → AreDistinct ds → slice_get ds i ≡ Some d
      → slice_index (counted_from size left ds) i ≡ size_in left d.name.text ds
  size_at left [] i d apart s = cc
  size_at zero (c ∷ ds) zero d apart s = refl
  size_at (suc left) (c ∷ ds) zero d apart s =
      let same : c ≡ d = cc in
      subst (λ (z : Declaration). slice_index (counted_from size (suc left) (c ∷ ds)) 0 ≡ size_in (suc left) z.name.text (c ∷ ds)) same (of (is_universe c.meaning))
    where
      of : (b : Bool) → slice_index (cond b (allowed_size (size c.meaning) ∷ counted_from size left ds) (0 ∷ counted_from size (suc left) ds)) 0
          ≡ size_among c.name.text (filter is_small (take (suc left) (cond b (c ∷ universes_in ds) (universes_in ds))))
      of true = size_of_head left c ds apart.0
      of false = sym (missing_size (suc left) c.name.text ds apart.0)
  size_at zero (c ∷ ds) (suc i) d apart s = size_at zero ds i d apart.1 s
  size_at (suc left) (c ∷ ds) (suc i) d apart s =
      let apart_names : is_of d.name.text c ≡ false = not_again c ds i d (is_of d.name.text c) refl apart.0 s in
      elim (is_universe c.meaning) as (λ b. slice_index (cond b (allowed_size (size c.meaning) ∷ counted_from size left ds) (0 ∷ counted_from size (suc left) ds)) (suc i)
      ≡ size_among d.name.text (filter is_small (take (suc left) (cond b (c ∷ universes_in ds) (universes_in ds))))) [
        | true ↦ size_at left ds i d apart.1 s ∙ past_head d.name.text left c ds apart_names
        | false ↦ size_at (suc left) ds i d apart.1 s
      ]

same_sizes : (f g : Meaning → ℕ) → ((m : Meaning) → f m ≡ g m) → (left : ℕ) (ds : List Declaration) → counted_from f left ds ≡ counted_from g left ds
same_sizes f g h left [] = refl
same_sizes f g h zero (d ∷ ds) = ap (λ ns. 0 ∷ ns) (same_sizes f g h zero ds)
same_sizes f g h (suc left) (d ∷ ds) =
    elim (is_universe d.meaning) as (λ b. cond b (allowed_size (f d.meaning) ∷ counted_from f left ds) (0 ∷ counted_from f (suc left) ds)
    ≡ cond b (allowed_size (g d.meaning) ∷ counted_from g left ds) (0 ∷ counted_from g (suc left) ds)) [
      | true ↦ ap (λ n. allowed_size n ∷ counted_from f left ds) (h d.meaning) ∙ ap (λ ns. allowed_size (g d.meaning) ∷ ns) (same_sizes f g h left ds)
      | false ↦ ap (λ ns. 0 ∷ ns) (same_sizes f g h (suc left) ds)
    ]

distinct : (spec : Spec) → AreDistinct (first_declarations spec)
unfolding first_declarations
distinct spec = distinct_firsts [] (declarations spec)

none_past : (es : List Entry) (i : ℕ) → i < length es → ¬ (slice_get es i ≡ None)
none_past [] i inside = absurd (omega arith)
none_past (e ∷ es) zero inside = λ s. cc
none_past (e ∷ es) (suc i) inside = none_past es i (omega arith)

module _ (spec : Spec) (entries : List Entry) (table : IsTableOf spec entries) where
  at_entry : (sizes : List ℕ) → sizes ≡ counted_from (size_of spec) MAX_UNIVERSES (first_declarations spec) → (i : ℕ) (e : Entry) (x : Name)
      → slice_get entries i ≡ Some e → e.0.now ≡ x.text → slice_index sizes i ≡ counted_size spec x
  at_entry sizes same i e x s name =
      let found : slice_get (first_declarations spec) i ≡ Some (declaration_of e) =
      ap (λ ds. slice_get ds i) (sym table) ∙ (slice_get-map declaration_of entries i ∙ ap (option_map declaration_of) s) in
      ap (λ ns. slice_index ns i) same
      ∙ (size_at (size_of spec) MAX_UNIVERSES (first_declarations spec) i (declaration_of e) (distinct spec) found
      ∙ ap (λ x. size_in (size_of spec) MAX_UNIVERSES x (first_declarations spec)) name)

  pub counted_by_position : (counts sizes : List ℕ) → AreElementCounts spec counts → sizes ≡ counted_from (size_with counts) MAX_UNIVERSES (map declaration_of entries) → AreCountedSizes spec entries sizes
  counted_by_position counts sizes h e i x inside name = of (slice_get entries i) refl
    where
      same : sizes ≡ counted_from (size_of spec) MAX_UNIVERSES (first_declarations spec)
      same = e ∙ (ap (counted_from (size_with counts) MAX_UNIVERSES) table ∙ same_sizes (size_with counts) (size_of spec) (size_with_is spec counts h) MAX_UNIVERSES (first_declarations spec))

      of : (o : Option Entry) → slice_get entries i ≡ o → slice_index sizes i ≡ counted_size spec x
      of None s = absurd (none_past entries i inside s)
      of (Some f) s = at_entry sizes same i f x s (ap text_of_entry (sym s) ∙ name)

-- a name that isn't declared has no size
pub counted_none : (spec : Spec) (x : Name) → declared spec x.text ≡ None → counted_size spec x ≡ 0
counted_none spec x h = missing_size (size_of spec) MAX_UNIVERSES x.text (first_declarations spec) (of (find (is_of x.text) (first_declarations spec)) refl)
  where
    none : option_map (λ d. d.meaning) (find (is_of x.text) (first_declarations spec)) ≡ None
    none = first_stands spec x.text ∙ h

    of : (o : Option Declaration) → find (is_of x.text) (first_declarations spec) ≡ o → find (is_of x.text) (first_declarations spec) ≡ None
    of None e = e
    of (Some d) e = let no : ◌≡◌ {A = Option Meaning} (Some d.meaning) None = ap (option_map (λ d. d.meaning)) (sym e) ∙ none in cc
