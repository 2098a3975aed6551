-- Free. The least and the greatest value of each location in a set.
use Rattle.std.proofs.Common.{◌≡◌, Bool, true, false, cond, ◌&&◌, ◌||◌, List, [], ◌∷◌, map, Option, Some, None, refl, sym, ap, subst, ◌∙◌, arith, ◌⊎◌, inl, inr, ◌↔◌}
use Rattle.std.specs.Cmp.{tied_itself, upto}
use Rattle.std.specs.FinSet as set
use Rattle.std.specs.List.{filter, list_any}
use Rattle.std.specs.Ordering.{ordering_then, eq_by_cmp, is_eq, is_lt, is_gt}
use Rattle.std.specs.declared.cmp.Ordering.{Ordering}
use Rattle.std.specs.declared.cmp.Ordering.TheVariants.{Less, Equal, Greater}
use Rattle.std.proofs.lemmas.Bool.{false≢true, and_parts, or_left, or_right}
use Rattle.asm_state.specs.declared.value.Value.{Value}
use Rattle.asm_state.specs.Value.{value_cmp, value_cmp-total, value_cmp-antisymmetric}
use Rattle.asm_state.specs.Location.{Location, location_cmp}
use Rattle.asm_state.specs.Updates.{Update, UpdateSet, update, update_cmp, is_at, Range, lesser, greater, widen, range_of, range_at, IsAtMost, IsRange, IsRangeOf, IsSummary}
use Rattle.asm_state.proofs.Lists.{is_gt-reverse, is_gt-from_lt, equal-from_neither}
use Rattle.asm_state.proofs.UpdateLemmas.Updates.{same_value, value_itself}

-- ---- the order of values

at_most_from_lt : (v w : Value) → is_lt (value_cmp v w) ≡ true → IsAtMost v w
at_most_from_lt v w e = is_gt-from_lt (value_cmp v w) e

at_most_from_not_lt : (v w : Value) → is_lt (value_cmp w v) ≡ false → IsAtMost v w
at_most_from_not_lt v w e = ap is_gt (value_cmp-total.antisymm v w) ∙ is_gt-reverse (value_cmp w v) ∙ e

pub at_most_itself : (v : Value) → IsAtMost v v
at_most_itself v = ap is_gt (tied_itself value_cmp-total v)

pub at_most_chain : (u v w : Value) → IsAtMost u v → IsAtMost v w → IsAtMost u w
at_most_chain u v w = upto value_cmp-total u v w

pub at_most_both : (v w : Value) → IsAtMost v w → IsAtMost w v → v ≡ w
at_most_both v w h k =
    value_cmp-antisymmetric v w (equal-from_neither (value_cmp v w) h (ap is_gt (sym (value_cmp-total.antisymm w v)) ∙ k))

-- the lesser of two is one of them, and isn't above either
record IsLesser (v w u : Value) : Type 0 where
  is_one : (u ≡ v) ⊎ (u ≡ w)
  first : IsAtMost u v
  second : IsAtMost u w

lesser_is : (v w : Value) → IsLesser v w (lesser v w)
lesser_is v w =
    elim (is_lt (value_cmp w v)) as (λ b. is_lt (value_cmp w v) ≡ b → IsLesser v w (cond b w v)) [
      | true ↦ λ e. record { is_one = inr refl; first = at_most_from_lt w v e; second = at_most_itself w }
      | false ↦ λ e. record { is_one = inl refl; first = at_most_itself v; second = at_most_from_not_lt v w e }
    ] refl

record IsGreater (v w u : Value) : Type 0 where
  is_one : (u ≡ v) ⊎ (u ≡ w)
  first : IsAtMost v u
  second : IsAtMost w u

greater_is : (v w : Value) → IsGreater v w (greater v w)
greater_is v w =
    elim (is_lt (value_cmp v w)) as (λ b. is_lt (value_cmp v w) ≡ b → IsGreater v w (cond b w v)) [
      | true ↦ λ e. record { is_one = inr refl; first = at_most_from_lt v w e; second = at_most_itself w }
      | false ↦ λ e. record { is_one = inl refl; first = at_most_itself v; second = at_most_from_not_lt w v e }
    ] refl

-- ---- ranges of any values

-- the same values have the same range
pub range_like : {M N : Value → Type 0} (r : Option Range) → ((v : Value) → M v ↔ N v) → IsRangeOf M r → IsRangeOf N r
range_like None like h = λ v n. h v ((like v).1 n)
range_like (Some r) like h = record {
  has_least = (like r.least).0 h.has_least;
  has_greatest = (like r.greatest).0 h.has_greatest;
  between = λ v n. h.between v ((like v).1 n);
}

pub range_unique : (M : Value → Type 0) (r s : Option Range) → IsRangeOf M r → IsRangeOf M s → r ≡ s
range_unique M None None h k = refl
range_unique M None (Some s) h k = absurd (h s.least k.has_least)
range_unique M (Some r) None h k = absurd (k r.least h.has_least)
range_unique M (Some r) (Some s) h k = λ i. Some (record {
  least = at_most_both r.least s.least (h.between s.least k.has_least).0 (k.between r.least h.has_least).0 i;
  greatest = at_most_both r.greatest s.greatest (k.between r.greatest h.has_greatest).1 (h.between s.greatest k.has_greatest).1 i;
})

either : (M N : Value → Type 0) (u v w : Value) → (u ≡ v) ⊎ (u ≡ w) → M v → N w → M u ⊎ N u
either M N u v w (inl e) m n = inl (subst M (sym e) m)
either M N u v w (inr e) m n = inr (subst N (sym e) n)

pub widen_is : (M N : Value → Type 0) (r s : Option Range) → IsRangeOf M r → IsRangeOf N s → IsRangeOf (λ v. M v ⊎ N v) (widen r s)
widen_is M N None None h k = λ v. elim [ inl m ↦ h v m | inr n ↦ k v n ]
widen_is M N None (Some s) h k = record {
  has_least = inr k.has_least;
  has_greatest = inr k.has_greatest;
  between = λ v. elim [ inl m ↦ absurd (h v m) | inr n ↦ k.between v n ];
}
widen_is M N (Some r) None h k = record {
  has_least = inl h.has_least;
  has_greatest = inl h.has_greatest;
  between = λ v. elim [ inl m ↦ h.between v m | inr n ↦ absurd (k v n) ];
}
widen_is M N (Some r) (Some s) h k =
    let low : IsLesser r.least s.least (lesser r.least s.least) = lesser_is r.least s.least in
    let high : IsGreater r.greatest s.greatest (greater r.greatest s.greatest) = greater_is r.greatest s.greatest in
    record {
      has_least = either M N _ r.least s.least low.is_one h.has_least k.has_least;
      has_greatest = either M N _ r.greatest s.greatest high.is_one h.has_greatest k.has_greatest;
      between = λ v. elim [
        | inl m ↦ (at_most_chain _ r.least v low.first (h.between v m).0, at_most_chain v r.greatest _ (h.between v m).1 high.first)
        | inr n ↦ (at_most_chain _ s.least v low.second (k.between v n).0, at_most_chain v s.greatest _ (k.between v n).1 high.second)
      ];
    }

-- ---- the range of a location in a set

pub is_eq-then : (p q : Ordering) → is_eq (ordering_then p q) ≡ (is_eq p && is_eq q)
is_eq-then Less q = refl
is_eq-then Equal q = refl
is_eq-then Greater q = refl

-- the update of l with v is in the list
abbrev pub Listed : Location → List Update → Value → Type 0
Listed l us v = list_any (eq_by_cmp update_cmp (update l v)) us ≡ true

pub listed_head : (l : Location) (u : Update) (v : Value) → is_at l u ≡ true → v ≡ u.value → eq_by_cmp update_cmp (update l v) u ≡ true
listed_head l u v at e =
    is_eq-then (location_cmp l u.location) (value_cmp v u.value)
    ∙ ap (λ b. b && is_eq (value_cmp v u.value)) at
    ∙ ap (λ w. is_eq (value_cmp w u.value)) e ∙ value_itself u.value

or_rest : (a b : Bool) → a ≡ false → (a || b) ≡ true → b ≡ true
or_rest a b e f = grind arith

pub listed_cases : (l : Location) (u : Update) (us : List Update) (v : Value) → Listed l (u ∷ us) v → (v ≡ u.value) ⊎ Listed l us v
listed_cases l u us v m =
    elim (eq_by_cmp update_cmp (update l v) u) as (λ b. eq_by_cmp update_cmp (update l v) u ≡ b → (b || list_any (eq_by_cmp update_cmp (update l v)) us) ≡ true → (v ≡ u.value) ⊎ Listed l us v) [
      | true ↦ λ tie _. inl (same_value v u.value (and_parts _ _ (sym (is_eq-then (location_cmp l u.location) (value_cmp v u.value)) ∙ tie)).1)
      | false ↦ λ _ later. inr later
    ] refl m

pub listed_elsewhere : (l : Location) (u : Update) (us : List Update) (v : Value) → is_at l u ≡ false → Listed l (u ∷ us) v → Listed l us v
listed_elsewhere l u us v off m =
    or_rest _ _ (is_eq-then (location_cmp l u.location) (value_cmp v u.value) ∙ ap (λ b. b && is_eq (value_cmp v u.value)) off) m

range_in_list : (l : Location) (us : List Update) → IsRangeOf (Listed l us) (range_of (map (λ (u : Update). u.value) (filter (is_at l) us)))
range_in_list l [] = λ v m. false≢true m
range_in_list l (u ∷ us) =
    elim (is_at l u) as (λ b. is_at l u ≡ b → IsRangeOf (Listed l (u ∷ us)) (range_of (map (λ (u : Update). u.value) (cond b (u ∷ filter (is_at l) us) (filter (is_at l) us))))) [
      | true ↦ λ at. range_like _
          (λ v. (elim [ inl e ↦ or_left _ _ (listed_head l u v at e) | inr m ↦ or_right _ _ m ], listed_cases l u us v))
          (widen_is (λ v. v ≡ u.value) (Listed l us) (Some (record { least = u.value; greatest = u.value })) _ (own u.value) (range_in_list l us))
      | false ↦ λ off. range_like _ (λ v. (or_right _ _, listed_elsewhere l u us v off)) (range_in_list l us)
    ] refl
  where
    own : (w : Value) → IsRange (λ v. v ≡ w) (record { least = w; greatest = w })
    own w = record { has_least = refl; has_greatest = refl; between = λ v e. (subst (IsAtMost w) (sym e) (at_most_itself w), subst (λ v. IsAtMost v w) (sym e) (at_most_itself w)) }

-- `range_at` is the summary of the set
pub range_at_is : (U : UpdateSet) → IsSummary U (range_at U)
unfolding range_at
range_at_is U l =
    range_like _ (λ v. (λ m. set.contains-items U (update l v) ∙ m, λ m. sym (set.contains-items U (update l v)) ∙ m)) (range_in_list l (set.items U))
