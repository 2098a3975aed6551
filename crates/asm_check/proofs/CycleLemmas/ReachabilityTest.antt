-- Free. Whether steps lead from one name to another, as a test.
--     leads S f g      a way leads from f to g, with only names of S between
--     reaches S f      a cycle is reached from f
use Rattle.std.proofs.Common.{◌≡◌, Bool, true, ◌&&◌, ◌||◌, List, [], ◌∷◌, refl, sym, subst, inl, inr}
use Rattle.std.specs.Prelude.{Contains}
use Rattle.std.specs.List.{list_any}
use Rattle.std.proofs.lemmas.Bool.{false≢true, and_parts, and_from, or_cases, or_left, or_right}
use Rattle.asm_state.proofs.Lists.{Contains-cons_cases, Contains-first, Contains-later, Contains-none}
use Rattle.asm_check.specs.Names.{Text, is_text, is_among}
use Rattle.asm_check.specs.CallGraph.{LeadsTo, at_once, by_way_of, ReachesCycle}
use Rattle.asm_check.proofs.NameLemmas.FirstOfName.{text_itself}
use Rattle.asm_check.proofs.UseLemmas.FaultlessUses.{among}

-- ---- members of lists, by tests

is_member : (xs : List Text) (x : Text) → Contains xs x → is_among xs x ≡ true
is_member [] x c = absurd (Contains-none x c)
is_member (y ∷ xs) x c =
    elim (Contains-cons_cases y xs x c) [
      | inl same ↦ or_left (is_text y x) (is_among xs x) (subst (λ z. is_text y z ≡ true) same (text_itself y))
      | inr rest ↦ or_right (is_text y x) (is_among xs x) (is_member xs x rest)
    ]

some_passes : (p : Text → Bool) (xs : List Text) (x : Text) → Contains xs x → p x ≡ true → list_any p xs ≡ true
some_passes p [] x c e = absurd (Contains-none x c)
some_passes p (y ∷ xs) x c e =
    elim (Contains-cons_cases y xs x c) [
      | inl same ↦ or_left (p y) (list_any p xs) (subst (λ z. p z ≡ true) (sym same) e)
      | inr rest ↦ or_right (p y) (list_any p xs) (some_passes p xs x rest e)
    ]

one_passes : (p : Text → Bool) (xs : List Text) → list_any p xs ≡ true → (x : Text) × Contains xs x × (p x ≡ true)
one_passes p [] e = absurd (false≢true e)
one_passes p (y ∷ xs) e =
    elim (or_cases (p y) (list_any p xs) e) [
      | inl first ↦ (y, Contains-first y xs, first)
      | inr rest ↦ let it = one_passes p xs rest in (it.0, Contains-later y xs it.0 it.1, it.2)
    ]

-- ---- ways

module _ (next : Text → List Text) where
  abbrev pub leads : List Text → Text → Text → Bool
  leads [] f g = is_among (next f) g
  leads (s ∷ S) f g = leads S f g || (leads S f s && leads S s g)

  pub follow : {f g h : Text} → LeadsTo next f g → LeadsTo next g h → LeadsTo next f h
  follow (at_once c) rest = by_way_of _ c rest
  follow (by_way_of k c way) rest = by_way_of k c (follow way rest)

  pub leads_sound : (S : List Text) (f g : Text) → leads S f g ≡ true → LeadsTo next f g
  leads_sound [] f g e = at_once (among (next f) g e)
  leads_sound (s ∷ S) f g e =
      elim (or_cases (leads S f g) (leads S f s && leads S s g) e) [
        | inl straight ↦ leads_sound S f g straight
        | inr by ↦ follow (leads_sound S f s (and_parts (leads S f s) (leads S s g) by).0) (leads_sound S s g (and_parts (leads S f s) (leads S s g) by).1)
      ]

  leads_at_once : (S : List Text) (f g : Text) → Contains (next f) g → leads S f g ≡ true
  leads_at_once [] f g c = is_member (next f) g c
  leads_at_once (s ∷ S) f g c = or_left (leads S f g) (leads S f s && leads S s g) (leads_at_once S f g c)

  -- the way to s, and the one from s on, need not pass s itself
  leads_into : (s : Text) (S : List Text) (f : Text) → leads (s ∷ S) f s ≡ true → leads S f s ≡ true
  leads_into s S f e = elim (or_cases (leads S f s) (leads S f s && leads S s s) e) [ inl way ↦ way | inr by ↦ (and_parts (leads S f s) (leads S s s) by).0 ]

  leads_out : (s : Text) (S : List Text) (g : Text) → leads (s ∷ S) s g ≡ true → leads S s g ≡ true
  leads_out s S g e = elim (or_cases (leads S s g) (leads S s s && leads S s g) e) [ inl way ↦ way | inr by ↦ (and_parts (leads S s s) (leads S s g) by).1 ]

  -- ways that meet at a name of the list are one
  leads_through : (S : List Text) (f s g : Text) → Contains S s → leads S f s ≡ true → leads S s g ≡ true → leads S f g ≡ true
  leads_through [] f s g c to from = absurd (Contains-none s c)
  leads_through (t ∷ S) f s g c to from =
      elim (Contains-cons_cases t S s c) [
        | inl same ↦
            by_head (leads_into t S f (subst (λ z. leads (t ∷ S) f z ≡ true) (sym same) to)) (leads_out t S g (subst (λ z. leads (t ∷ S) z g ≡ true) (sym same) from))
        | inr rest ↦
            elim (or_cases (leads S f s) (leads S f t && leads S t s) to) [
              | inl way ↦ elim (or_cases (leads S s g) (leads S s t && leads S t g) from) [
                | inl on ↦ or_left (leads S f g) (leads S f t && leads S t g) (leads_through S f s g rest way on)
                | inr by ↦ by_head (leads_through S f s t rest way (and_parts (leads S s t) (leads S t g) by).0) (and_parts (leads S s t) (leads S t g) by).1
              ]
              | inr over ↦ elim (or_cases (leads S s g) (leads S s t && leads S t g) from) [
                | inl on ↦ by_head (and_parts (leads S f t) (leads S t s) over).0 (leads_through S t s g rest (and_parts (leads S f t) (leads S t s) over).1 on)
                | inr by ↦ by_head (and_parts (leads S f t) (leads S t s) over).0 (and_parts (leads S s t) (leads S t g) by).1
              ]
            ]
      ]
    where
      by_head : leads S f t ≡ true → leads S t g ≡ true → leads (t ∷ S) f g ≡ true
      by_head to from = or_right (leads S f g) (leads S f t && leads S t g) (and_from (leads S f t) (leads S t g) to from)

  first_step : {f g : Text} → LeadsTo next f g → (h : Text) × Contains (next f) h
  first_step (at_once c) = (_, c)
  first_step (by_way_of h c rest) = (h, c)

  module _ (S : List Text) (all : (f g : Text) → Contains (next f) g → Contains S f) where
    pub leads_complete : {f g : Text} → LeadsTo next f g → leads S f g ≡ true
    leads_complete {f} {g} (at_once c) = leads_at_once S f g c
    leads_complete {f} {g} (by_way_of h c rest) =
        let step = first_step rest in
        leads_through S f h g (all h step.0 step.1) (leads_at_once S f h c) (leads_complete rest)

    abbrev pub reaches : Text → Bool
    reaches f = leads S f f || list_any (λ g. leads S f g && leads S g g) S

    pub reaches_sound : (f : Text) → reaches f ≡ true → ReachesCycle next f
    reaches_sound f e =
        elim (or_cases (leads S f f) (list_any (λ g. leads S f g && leads S g g) S) e) [
          | inl back ↦ (f, inl refl, leads_sound S f f back)
          | inr some ↦
              let it = one_passes (λ g. leads S f g && leads S g g) S some in
              (it.0, inr (leads_sound S f it.0 (and_parts (leads S f it.0) (leads S it.0 it.0) it.2).0), leads_sound S it.0 it.0 (and_parts (leads S f it.0) (leads S it.0 it.0) it.2).1)
        ]

    pub reaches_complete : (f : Text) → ReachesCycle next f → reaches f ≡ true
    reaches_complete f (g, way, back) =
        elim way [
          | inl same ↦ or_left (leads S f f) (list_any (λ g. leads S f g && leads S g g) S) (subst (λ h. leads S h h ≡ true) (sym same) (leads_complete back))
          | inr there ↦
              let step = first_step back in
              or_right (leads S f f) (list_any (λ g. leads S f g && leads S g g) S)
              (some_passes (λ g. leads S f g && leads S g g) S g (all g step.0 step.1) (and_from (leads S f g) (leads S g g) (leads_complete there) (leads_complete back)))
        ]
