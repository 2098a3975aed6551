-- Free. Unions and merges.
use Rattle.std.proofs.Common.{◌≡◌, Option, Some, None, refl, ap, ◌∙◌, ◌⊎◌, inl, inr}
use Rattle.asm_state.specs.declared.value.Value.{Value}
use Rattle.asm_state.specs.Location.{Location, State}
use Rattle.asm_state.specs.Updates.{UpdateSet, Has, Names, IsConsistent, none, together, merge, Range, later_range, range_at, overwritten, fire}
use Rattle.asm_state.specs.UpdateLaws.{UnionLaws, MergeLaws}
use Rattle.asm_state.proofs.UpdateLemmas.Ranges.{range_unique, range_at_is}
use Rattle.asm_state.proofs.UpdateLemmas.Members.{has_none, has_union, has_merge, same_updates}
use Rattle.asm_state.proofs.UpdateLemmas.Summaries.{of_merge}

in_union : (U V : UpdateSet) (l : Location) (v : Value) → Has U l v ⊎ Has V l v → Has (together U V) l v
in_union U V l v = (has_union U V l v).1

from_union : (U V : UpdateSet) (l : Location) (v : Value) → Has (together U V) l v → Has U l v ⊎ Has V l v
from_union U V l v = (has_union U V l v).0

unit : (U : UpdateSet) → together none U ≡ U
unit U = same_updates (together none U) U (λ l v.
    (λ h. elim (from_union none U l v h) [ inl n ↦ absurd (has_none l v n) | inr m ↦ m ], λ m. in_union none U l v (inr m)))

swapped : (U V : UpdateSet) (l : Location) (v : Value) → Has (together U V) l v → Has (together V U) l v
swapped U V l v h = elim (from_union U V l v h) [ inl m ↦ in_union V U l v (inr m) | inr n ↦ in_union V U l v (inl n) ]

group_right : (U V W : UpdateSet) (l : Location) (v : Value) → Has (together (together U V) W) l v → Has (together U (together V W)) l v
group_right U V W l v h = elim (from_union (together U V) W l v h) [
  | inl m ↦ elim (from_union U V l v m) [
    | inl a ↦ in_union U (together V W) l v (inl a)
    | inr b ↦ in_union U (together V W) l v (inr (in_union V W l v (inl b)))
  ]
  | inr c ↦ in_union U (together V W) l v (inr (in_union V W l v (inr c)))
]

group_left : (U V W : UpdateSet) (l : Location) (v : Value) → Has (together U (together V W)) l v → Has (together (together U V) W) l v
group_left U V W l v h = elim (from_union U (together V W) l v h) [
  | inl a ↦ in_union (together U V) W l v (inl (in_union U V l v (inl a)))
  | inr m ↦ elim (from_union V W l v m) [
    | inl b ↦ in_union (together U V) W l v (inl (in_union U V l v (inr b)))
    | inr c ↦ in_union (together U V) W l v (inr c)
  ]
]

pub union_laws : UnionLaws
union_laws = record {
  unit = unit;
  swap = λ U V. same_updates _ _ (λ l v. (swapped U V l v, swapped V U l v));
  group = λ U V W. same_updates _ _ (λ l v. (group_right U V W l v, group_left U V W l v));
  itself = λ U. same_updates _ _ (λ l v. (λ h. elim (from_union U U l v h) [ inl m ↦ m | inr m ↦ m ], λ m. in_union U U l v (inl m)));
}

in_merge : (U V : UpdateSet) (l : Location) (v : Value) → (Has U l v × (¬ (Names V l))) ⊎ Has V l v → Has (merge U V) l v
in_merge U V l v = (has_merge U V l v).1

from_merge : (U V : UpdateSet) (l : Location) (v : Value) → Has (merge U V) l v → (Has U l v × (¬ (Names V l))) ⊎ Has V l v
from_merge U V l v = (has_merge U V l v).0

names_merge : (U V : UpdateSet) (l : Location) → Names (merge U V) l → Names U l ⊎ Names V l
names_merge U V l (v, h) = elim (from_merge U V l v h) [ inl m ↦ inl (v, m.0) | inr n ↦ inr (v, n) ]

merge_right : (U V W : UpdateSet) (l : Location) (v : Value) → Has (merge (merge U V) W) l v → Has (merge U (merge V W)) l v
merge_right U V W l v h = elim (from_merge (merge U V) W l v h) [
  | inl m ↦ elim (from_merge U V l v m.0) [
    | inl a ↦ in_merge U (merge V W) l v (inl (a.0, λ names. elim (names_merge V W l names) [ inl x ↦ a.1 x | inr y ↦ m.1 y ]))
    | inr b ↦ in_merge U (merge V W) l v (inr (in_merge V W l v (inl (b, m.1))))
  ]
  | inr c ↦ in_merge U (merge V W) l v (inr (in_merge V W l v (inr c)))
]

-- what the later sets don't name the earlier ones may
merge_left : (U V W : UpdateSet) (l : Location) (v : Value) → Has (merge U (merge V W)) l v → Has (merge (merge U V) W) l v
merge_left U V W l v h = elim (from_merge U (merge V W) l v h) [
  | inl a ↦ in_merge (merge U V) W l v (inl (in_merge U V l v (inl (a.0, not_first a.1)), not_last a.1))
  | inr m ↦ elim (from_merge V W l v m) [
    | inl b ↦ in_merge (merge U V) W l v (inl (in_merge U V l v (inr b.0), b.1))
    | inr c ↦ in_merge (merge U V) W l v (inr c)
  ]
]
  where
    not_last : ¬ (Names (merge V W) l) → ¬ (Names W l)
    not_last free (w, n) = free (w, in_merge V W l w (inr n))

    not_first : ¬ (Names (merge V W) l) → ¬ (Names V l)
    not_first free (w, n) = free (w, in_merge V W l w (inl (n, not_last free)))

merged_consistent : (U V : UpdateSet) → IsConsistent U → IsConsistent V → IsConsistent (merge U V)
merged_consistent U V c d = record {
  one_value = λ l v w h k. one_value l v w (from_merge U V l v h) (from_merge U V l w k);
  no_stray = λ f v h. elim (from_merge U V _ v h) [ inl m ↦ c.no_stray f v m.0 | inr n ↦ d.no_stray f v n ];
}
  where
    one_value : (l : Location) (v w : Value) → (Has U l v × (¬ (Names V l))) ⊎ Has V l v → (Has U l w × (¬ (Names V l))) ⊎ Has V l w → v ≡ w
    one_value l v w (inl m) (inl n) = c.one_value l v w m.0 n.0
    one_value l v w (inl m) (inr n) = absurd (m.1 (w, n))
    one_value l v w (inr m) (inl n) = absurd (n.1 (v, m))
    one_value l v w (inr m) (inr n) = d.one_value l v w m n

overwritten_later : (r s : Option Range) (v : Value) → overwritten (later_range r s) v ≡ overwritten s (overwritten r v)
overwritten_later r None v = refl
overwritten_later r (Some s) v = refl

fire_merge : (A : State) (U V : UpdateSet) → fire A (merge U V) ≡ fire (fire A U) V
unfolding fire
fire_merge A U V = λ i l. (ap (λ r. overwritten r (A l)) (merged l) ∙ overwritten_later (range_at U l) (range_at V l) (A l)) i
  where
    merged : (l : Location) → range_at (merge U V) l ≡ later_range (range_at U l) (range_at V l)
    merged l = range_unique (Has (merge U V) l) _ _ (range_at_is (merge U V) l) (of_merge U V (range_at U) (range_at V) (range_at_is U) (range_at_is V) l)

pub merge_laws : MergeLaws
merge_laws = record {
  first_unit = λ U. same_updates _ _ (λ l v.
      (λ h. elim (from_merge none U l v h) [ inl m ↦ absurd (has_none l v m.0) | inr n ↦ n ], λ n. in_merge none U l v (inr n)));
  last_unit = λ U. same_updates _ _ (λ l v.
      (λ h. elim (from_merge U none l v h) [ inl m ↦ m.0 | inr n ↦ absurd (has_none l v n) ], λ m. in_merge U none l v (inl (m, λ names. has_none l names.0 names.1))));
  group = λ U V W. same_updates _ _ (λ l v. (merge_right U V W l v, merge_left U V W l v));
  consistent = merged_consistent;
  firing = fire_merge;
}
