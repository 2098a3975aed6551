-- Free. What is in the results of the operations on update sets.
use Rattle.std.proofs.Common.{◌≡◌, Bool, true, false, not, ◌&&◌, ◌||◌, List, [], ◌∷◌, refl, sym, ap, ◌∙◌, arith, ◌⊎◌, inl, inr, ◌↔◌}
use Rattle.std.specs.Bool.{Decides}
use Rattle.std.specs.Cmp.{both_ways}
use Rattle.std.specs.FinSet as set
use Rattle.std.specs.List.{list_any}
use Rattle.std.specs.Ordering.{eq_by_cmp, is_eq}
use Rattle.std.proofs.lemmas.Bool.{false≢true, and_parts, and_from, or_cases, or_left, or_right}
use Rattle.std.proofs.lemmas.Bool.Decides.{not_from_Decides}
use Rattle.asm_state.specs.declared.value.Value.{Value}
use Rattle.asm_state.specs.Value.{value_cmp}
use Rattle.asm_state.specs.Location.{Location, location_cmp}
use Rattle.asm_state.specs.Updates.{Update, UpdateSet, update, update_cmp, Has, Names, none, one, together, merge, is_at, is_named}
use Rattle.asm_state.specs.UpdateLaws.{MemberLaws}
use Rattle.asm_state.proofs.UpdateLemmas.Updates.{update_cmp-total, update_cmp-antisymmetric, same_location, same_value, location_itself}
use Rattle.asm_state.proofs.UpdateLemmas.Ranges.{is_eq-then, Listed, listed_head, listed_elsewhere}

pub has_none : (l : Location) (v : Value) → ¬ (Has none l v)
has_none l v h = false≢true (sym (set.contains-empty update_cmp (update l v)) ∙ h)

same_parts : (l m : Location) (v w : Value) → eq_by_cmp update_cmp (update m w) (update l v) ≡ true ↔ (m ≡ l) × (w ≡ v)
same_parts l m v w = (forth, back)
  where
    forth : eq_by_cmp update_cmp (update m w) (update l v) ≡ true → (m ≡ l) × (w ≡ v)
    forth h =
        let k : (is_eq (location_cmp m l) && is_eq (value_cmp w v)) ≡ true = sym (is_eq-then (location_cmp m l) (value_cmp w v)) ∙ h in
        let parts = and_parts (is_eq (location_cmp m l)) (is_eq (value_cmp w v)) k in
        (same_location m l parts.0, same_value w v parts.1)

    back : (m ≡ l) × (w ≡ v) → eq_by_cmp update_cmp (update m w) (update l v) ≡ true
    back e = listed_head m (update l v) w (ap (λ k. is_eq (location_cmp m k)) (sym e.0) ∙ location_itself m) e.1

pub has_one : (l m : Location) (v w : Value) → Has (one l v) m w ↔ (m ≡ l) × (w ≡ v)
has_one l m v w = (forth, back)
  where
    is : set.contains (one l v) (update m w) ≡ (eq_by_cmp update_cmp (update m w) (update l v) || set.contains {R = update_cmp} set.empty (update m w))
    is = set.contains-insert update_cmp-total set.empty (update l v) (update m w)

    forth : Has (one l v) m w → (m ≡ l) × (w ≡ v)
    forth h = elim (or_cases _ _ (sym is ∙ h)) [ inl e ↦ (same_parts l m v w).0 e | inr e ↦ absurd (has_none m w e) ]

    back : (m ≡ l) × (w ≡ v) → Has (one l v) m w
    back e = is ∙ or_left _ _ ((same_parts l m v w).1 e)

pub has_union : (U V : UpdateSet) (l : Location) (v : Value) → Has (together U V) l v ↔ Has U l v ⊎ Has V l v
has_union U V l v = (forth, back)
  where
    is : set.contains (together U V) (update l v) ≡ (set.contains U (update l v) || set.contains V (update l v))
    is = set.contains-union update_cmp-total U V (update l v)

    forth : Has (together U V) l v → Has U l v ⊎ Has V l v
    forth h = or_cases _ _ (sym is ∙ h)

    back : Has U l v ⊎ Has V l v → Has (together U V) l v
    back (inl h) = is ∙ or_left _ _ h
    back (inr h) = is ∙ or_right _ _ h

-- a location that some update of a list is of
named_in_list : (l : Location) (us : List Update) → list_any (is_at l) us ≡ true → (v : Value) × Listed l us v
named_in_list l [] h = absurd (false≢true h)
named_in_list l (u ∷ us) h =
    elim (is_at l u) as (λ b. is_at l u ≡ b → (b || list_any (is_at l) us) ≡ true → (v : Value) × Listed l (u ∷ us) v) [
      | true ↦ λ at _. (u.value, or_left _ _ (listed_head l u u.value at refl))
      | false ↦ λ _ later. let rest = named_in_list l us later in (rest.0, or_right _ _ rest.1)
    ] refl h

named_from : (l : Location) (us : List Update) (v : Value) → Listed l us v → list_any (is_at l) us ≡ true
named_from l [] v m = absurd (false≢true m)
named_from l (u ∷ us) v m =
    elim (is_at l u) as (λ b. is_at l u ≡ b → (b || list_any (is_at l) us) ≡ true) [
      | true ↦ λ at. refl
      | false ↦ λ off. named_from l us v (listed_elsewhere l u us v off m)
    ] refl

pub Decides-is_named : (U : UpdateSet) (l : Location) → Decides (is_named U l) (Names U l)
Decides-is_named U l = (
  λ h. let it = named_in_list l (set.items U) h in (it.0, set.contains-items U (update l it.0) ∙ it.1),
  λ names. named_from l (set.items U) names.0 (sym (set.contains-items U (update l names.0)) ∙ names.1),
)

pub has_merge : (U V : UpdateSet) (l : Location) (v : Value) → Has (merge U V) l v ↔ (Has U l v × (¬ (Names V l))) ⊎ Has V l v
unfolding merge
has_merge U V l v = (forth, back)
  where
    is : set.contains (merge U V) (update l v) ≡ ((set.contains U (update l v) && not (is_named V l)) || set.contains V (update l v))
    is = set.contains-union update_cmp-total (set.retain U (λ u. not (is_named V u.location))) V (update l v)
        ∙ ap (λ b. b || set.contains V (update l v))
        (set.contains-retain U (λ u. not (is_named V u.location)) (update l v) (λ x e. ap (λ (u : Update). not (is_named V u.location)) (sym (update_cmp-antisymmetric (update l v) x e))))

    not_named : not (is_named V l) ≡ true → ¬ (Names V l)
    not_named h = not_from_Decides (is_named V l) (Decides-is_named V l) (was_false _ h)
      where
        was_false : (b : Bool) → not b ≡ true → b ≡ false
        was_false b e = grind arith

    is_not_named : ¬ (Names V l) → not (is_named V l) ≡ true
    is_not_named h = by_cases (is_named V l) refl
      where
        by_cases : (b : Bool) → is_named V l ≡ b → not b ≡ true
        by_cases true e = absurd (h ((Decides-is_named V l).0 e))
        by_cases false e = refl

    forth : Has (merge U V) l v → (Has U l v × (¬ (Names V l))) ⊎ Has V l v
    forth h = elim (or_cases _ _ (sym is ∙ h)) [ inl e ↦ (let parts = and_parts (set.contains U (update l v)) (not (is_named V l)) e in inl (parts.0, not_named parts.1)) | inr e ↦ inr e ]

    back : (Has U l v × (¬ (Names V l))) ⊎ Has V l v → Has (merge U V) l v
    back (inl h) = is ∙ or_left _ _ (and_from _ _ h.0 (is_not_named h.1))
    back (inr h) = is ∙ or_right _ _ h

pub same_updates : (U V : UpdateSet) → ((l : Location) (v : Value) → Has U l v ↔ Has V l v) → U ≡ V
same_updates U V same = set.same_set update_cmp-total update_cmp-antisymmetric U V (λ u. both_ways _ _ (same u.location u.value).0 (same u.location u.value).1)

pub member_laws : MemberLaws
member_laws = record { of_none = has_none; of_one = has_one; of_union = has_union; of_merge = has_merge; of_same = same_updates }
