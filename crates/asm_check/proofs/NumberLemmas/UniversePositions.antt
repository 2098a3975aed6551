-- Free. Where the universe of a name is among all, and how many argument lists a domain has.
use Rattle.std.proofs.Common.{◌≡◌, ℕ, suc, ◌+◌, ◌*◌, ◌<◌, Bool, true, false, cond, not, List, [], ◌∷◌, map, length, slice_index_or, Option, Some, None, refl, sym, ap, subst, ◌∙◌, arith, inl, inr}
use Rattle.std.specs.Prelude.{Contains, filter, find, flat_map, option_map}
use Rattle.std.specs.List.{position_or_len}
use Rattle.std.specs.Option.{option_map_or}
use Rattle.std.proofs.lemmas.Bool.{false≢true}
use Rattle.std.proofs.lemmas.List.Elements.{Contains-append_left, Contains-append_right}
use Rattle.asm_state.proofs.Lists.{Contains-cons_cases, Contains-none}
use Rattle.asm_state.specs.declared.value.Value.{Value}
use Rattle.asm_state.specs.Signature.{domain_in}
use Rattle.asm_state.specs.Tables.{argument_lists}
use Rattle.asm_state.proofs.Domains.{domain_laws}
use Rattle.asm_syntax.specs.SourceTree.{Name, Item, Spec}
use Rattle.asm_check.specs.Names as names
use Rattle.asm_check.specs.Names.{Text, Declaration, Meaning, Range, Enumeration, AsUniverse, is_text, is_known, declared, first_declarations, plain_use, uses, uses_of}
use Rattle.asm_check.specs.Faults.{IsWellFormed, is_known_use, unknown}
use Rattle.asm_check.specs.Limits.{is_universe, product}
use Rattle.asm_check.specs.Numbers.{universes_of}
use Rattle.asm_check.specs.Shapes.{index_among, texts_of}
use Rattle.asm_check.proofs.NameLemmas.FirstDeclarations.{first_stands}

abbrev pub is_named : Text → Declaration → Bool
is_named x d = is_text d.name.text x

pub index_is : (ds : List Declaration) (x : Text) → index_among (texts_of ds) x ≡ position_or_len (is_named x) ds
index_is [] x = refl
index_is (d ∷ ds) x = ap (λ n. cond (not (is_text d.name.text x)) (1 + n) 0) (index_is ds x)

-- what is at the index of the first that passes
pub at_index : {X Y : Type 0} (p : X → Bool) (g : X → Y) (xs : List X) (e : Y) → slice_index_or (map g xs) (position_or_len p xs) e ≡ option_map_or g (find p xs) e
at_index p g [] e = refl
at_index p g (x ∷ xs) e =
    elim (p x) as (λ b. slice_index_or (map g (x ∷ xs)) (cond (not b) (1 + position_or_len p xs) 0) e ≡ option_map_or g (cond b (Some x) (find p xs)) e) [
      | true ↦ refl
      | false ↦ let up : 1 + position_or_len p xs ≡ suc (position_or_len p xs) = omega arith in ap (λ n. slice_index_or (map g (x ∷ xs)) n e) up ∙ at_index p g xs e
    ]

pub index_inside : {X : Type 0} (p : X → Bool) (xs : List X) (x : X) → find p xs ≡ Some x → position_or_len p xs < length xs
index_inside p [] x found = cc
index_inside p (y ∷ xs) x found =
    elim (p y) as (λ b. cond b (Some y) (find p xs) ≡ Some x → cond (not b) (1 + position_or_len p xs) 0 < length (y ∷ xs)) [
      | true ↦ λ e. omega arith
      | false ↦ λ e. let rest = index_inside p xs x e in omega (arith, rest)
    ] found

pub find_kept : {X : Type 0} (p q : X → Bool) (xs : List X) (x : X) → find p xs ≡ Some x → q x ≡ true → find p (filter q xs) ≡ Some x
find_kept p q [] x found kept = cc
find_kept p q (y ∷ xs) x found kept =
    elim (p y) as (λ b. p y ≡ b → cond b (Some y) (find p xs) ≡ Some x → find p (cond (q y) (y ∷ filter q xs) (filter q xs)) ≡ Some x) [
      | true ↦ λ e f.
          let same : y ≡ x = cc in
          ap (λ b. find p (cond b (y ∷ filter q xs) (filter q xs))) (ap q same ∙ kept) ∙ ap (λ b. cond b (Some y) (find p (filter q xs))) e ∙ f
      | false ↦ λ e f.
          elim (q y) as (λ b. find p (cond b (y ∷ filter q xs) (filter q xs)) ≡ Some x) [
            | true ↦ ap (λ b. cond b (Some y) (find p (filter q xs))) e ∙ find_kept p q xs x f kept
            | false ↦ find_kept p q xs x f kept
          ]
    ] refl found

-- the first declaration of a name
pub first_named : (spec : Spec) (x : Text) (m : Meaning) → declared spec x ≡ Some m → (d : Declaration) × (find (is_named x) (first_declarations spec) ≡ Some d) × (d.meaning ≡ m)
first_named spec x m known = go (find (is_named x) (first_declarations spec)) refl (first_stands spec x ∙ known)
  where
    go : (found : Option Declaration) → find (is_named x) (first_declarations spec) ≡ found → option_map (λ (d : Declaration). d.meaning) found ≡ Some m
        → (d : Declaration) × (find (is_named x) (first_declarations spec) ≡ Some d) × (d.meaning ≡ m)
    go None e f = cc
    go (Some d) e f = let same : d.meaning ≡ m = cc in (d, e, same)

known_universe : (m : Option Meaning) → is_known AsUniverse false m ≡ true → (n : Meaning) × (m ≡ Some n) × (is_universe n ≡ true)
known_universe None e = absurd (false≢true e)
known_universe (Some (Range first last)) e = (Range first last, refl, refl)
known_universe (Some (Enumeration k)) e = (Enumeration k, refl, refl)
known_universe (Some names.Predeclared) e = absurd (false≢true e)
known_universe (Some (names.Element k)) e = absurd (false≢true e)
known_universe (Some (names.Controlled domain)) e = absurd (false≢true e)
known_universe (Some (names.Static domain)) e = absurd (false≢true e)
known_universe (Some (names.Derived xs t)) e = absurd (false≢true e)
known_universe (Some (names.NamedRule xs P)) e = absurd (false≢true e)

pub used_somewhere : (items : List Item) (item : Item) (u : names.Use) → Contains items item → Contains (uses_of item) u → Contains (flat_map uses_of items) u
used_somewhere [] item u it own = absurd (Contains-none item it)
used_somewhere (head ∷ items) item u it own =
    elim (Contains-cons_cases head items item it) [
      | inl e ↦ Contains-append_left (uses_of head) (flat_map uses_of items) u (subst (λ i. Contains (uses_of i) u) (sym e) own)
      | inr rest ↦ Contains-append_right (uses_of head) (flat_map uses_of items) u (used_somewhere items item u rest own)
    ]

pub all_known : (spec : Spec) → IsWellFormed spec → (item : Item) (u : names.Use) → Contains spec.items item → Contains (uses_of item) u → is_known_use spec u ≡ true
unfolding uses
all_known spec good item u it own =
    elim (is_known_use spec u) as (λ b. is_known_use spec u ≡ b → b ≡ true) [
      | true ↦ λ e. refl
      | false ↦ λ e. absurd (good u.name.at 9 (unknown (record { use_of = u; stands = used_somewhere spec.items item u it own; unknown = e; offset = refl })))
    ] refl

-- the universe of a name that is known as one
pub record IsUniverseNamed (spec : Spec) (x : Text) : Type 0 where
  pub declaration : Declaration
  pub found : find (is_named x) (universes_of spec) ≡ Some declaration
  pub declared_so : declared spec x ≡ Some declaration.meaning

pub universe_named : (spec : Spec) (u : Name) → is_known_use spec (plain_use AsUniverse u) ≡ true → IsUniverseNamed spec u.text
universe_named spec u known =
    let m = known_universe (declared spec u.text) known in
    let d = first_named spec u.text m.0 m.1 in
    record {
      declaration = d.0;
      found = find_kept (is_named u.text) (λ d. is_universe d.meaning) (first_declarations spec) d.0 d.1 (ap is_universe d.2 ∙ m.2);
      declared_so = m.1 ∙ ap Some (sym d.2);
    }

-- ---- how many argument lists

pub length-lists : (universes : List (List Value)) (numbers : List ℕ) → length (argument_lists (domain_in universes numbers)) ≡ product (map (λ n. length (slice_index_or universes n [])) numbers)
length-lists universes [] = refl
length-lists universes (n ∷ numbers) =
    domain_laws.count (slice_index_or universes n []) (domain_in universes numbers)
    ∙ ap (λ k. length (slice_index_or universes n []) * k) (length-lists universes numbers)
