-- Free. Laws of summaries.
use Rattle.std.proofs.Common.{◌≡◌, ℕ, Bool, true, false, cond, Option, Some, None, refl, sym, ap, subst, ◌∙◌, inl, inr, ◌↔◌}
use Rattle.std.specs.Ordering.{eq_by_cmp}
use Rattle.std.proofs.lemmas.Bool.{false≢true}
use Rattle.asm_state.specs.declared.value.Value.{Value}
use Rattle.asm_state.specs.Location.{Location, Proper, Stray, location_cmp, State, changed}
use Rattle.asm_state.specs.Updates.{UpdateSet, Has, Names, IsConsistent, none, one, together, merge, Range, range_of_one, widen, later_range, range_at, overwritten, fire, IsAtMost, IsRange, IsRangeOf, IsSummary, IsFaulty, Fault, Clash, Outside, IsFirstFaulty, IsFirstFault}
use Rattle.asm_state.specs.UpdateLaws.{Summary, LeavesNoFault, SummaryLaws, FireLaws}
use Rattle.asm_state.proofs.UpdateLemmas.Updates.{same_location, location_itself}
use Rattle.asm_state.proofs.UpdateLemmas.Ranges.{at_most_itself, at_most_both, range_like, range_unique, widen_is, range_at_is}
use Rattle.asm_state.proofs.UpdateLemmas.Members.{member_laws, has_none, has_one, has_union, has_merge, same_updates}

one_summary : (U : UpdateSet) (s t : Summary) → IsSummary U s → IsSummary U t → s ≡ t
one_summary U s t h k = λ i l. range_unique (Has U l) (s l) (t l) (h l) (k l) i

of_union : (U V : UpdateSet) (s t : Summary) → IsSummary U s → IsSummary V t → IsSummary (together U V) (λ l. widen (s l) (t l))
of_union U V s t h k l =
    range_like (widen (s l) (t l)) (λ v. ((has_union U V l v).1, (has_union U V l v).0)) (widen_is (Has U l) (Has V l) (s l) (t l) (h l) (k l))

of_none : IsSummary none (λ l. None)
of_none l v m = has_none l v m

of_one : (l : Location) (v : Value) → IsSummary (one l v) (range_of_one l v)
of_one l v m =
    elim (eq_by_cmp location_cmp l m) as (λ b. eq_by_cmp location_cmp l m ≡ b → IsRangeOf (Has (one l v) m) (cond b (Some (record { least = v; greatest = v })) None)) [
      | true ↦ λ e. record {
        has_least = (has_one l m v v).1 (sym (same_location l m e), refl);
        has_greatest = (has_one l m v v).1 (sym (same_location l m e), refl);
        between = λ w h. at_most_same w ((has_one l m v w).0 h).1;
      }
      | false ↦ λ e w h. false≢true (sym e ∙ subst (λ k. eq_by_cmp location_cmp l k ≡ true) (sym ((has_one l m v w).0 h).0) (location_itself l))
    ] refl
  where
    at_most_same : (w : Value) → w ≡ v → IsAtMost v w × IsAtMost w v
    at_most_same w is = (subst (IsAtMost v) (sym is) (at_most_itself v), subst (λ w. IsAtMost w v) (sym is) (at_most_itself v))

-- at a location with no later value the earlier range stays, and elsewhere the later one is taken
merged_range : (U V : UpdateSet) (l : Location) (r s : Option Range) → IsRangeOf (Has U l) r → IsRangeOf (Has V l) s → IsRangeOf (Has (merge U V) l) (later_range r s)
merged_range U V l r None h k =
    range_like r
    (λ v. (
      λ m. (has_merge U V l v).1 (inl (m, λ names. k names.0 names.1)),
      λ m. elim ((has_merge U V l v).0 m) [ inl both ↦ both.0 | inr n ↦ absurd (k v n) ],
    )) h
merged_range U V l r (Some s) h k =
    range_like (Some s)
    (λ v. (
      λ n. (has_merge U V l v).1 (inr n),
      λ m. elim ((has_merge U V l v).0 m) [ inl both ↦ absurd (both.1 (s.least, k.has_least)) | inr n ↦ n ],
    )) k

pub of_merge : (U V : UpdateSet) (s t : Summary) → IsSummary U s → IsSummary V t → IsSummary (merge U V) (λ l. later_range (s l) (t l))
of_merge U V s t h k l = merged_range U V l (s l) (t l) (h l) (k l)

no_value : (U : UpdateSet) (l : Location) (r : Option Range) → U ≡ none → IsRangeOf (Has U l) r → r ≡ None
no_value U l None e h = refl
no_value U l (Some r) e h = absurd (has_none l r.least (subst (λ V. Has V l r.least) e h.has_least))

no_range : (U : UpdateSet) (l : Location) (v : Value) (r : Option Range) → r ≡ None → IsRangeOf (Has U l) r → ¬ (Has U l v)
no_range U l v None e h = h v
no_range U l v (Some r) e h = cc

emptiness : (U : UpdateSet) (s : Summary) → IsSummary U s → (U ≡ none) ↔ ((l : Location) → s l ≡ None)
emptiness U s h = (
  λ e l. no_value U l (s l) e (h l),
  λ all. same_updates U none (λ l v. (λ m. absurd (no_range U l v (s l) (all l) (h l) m), λ m. absurd (has_none l v m))),
)

settled : (U : UpdateSet) (l : Location) (r : Option Range) → IsConsistent U → IsRangeOf (Has U l) r → LeavesNoFault l r
settled U l None c h = tt
settled U (Proper f vs) (Some r) c h = c.one_value (Proper f vs) r.least r.greatest h.has_least h.has_greatest
settled U (Stray f) (Some r) c h = c.no_stray f r.least h.has_least

pub one_value : (U : UpdateSet) (l : Location) (r : Option Range) → LeavesNoFault l r → IsRangeOf (Has U l) r → (v : Value) → Has U l v → (w : Value) → Has U l w → v ≡ w
one_value U l None s h v m w n = absurd (h v m)
one_value U (Proper f vs) (Some r) s h v m w n = sym (is_least v m) ∙ is_least w n
  where
    is_least : (v : Value) → Has U (Proper f vs) v → r.least ≡ v
    is_least v m = at_most_both r.least v (h.between v m).0 (subst (IsAtMost v) (sym s) (h.between v m).1)
one_value U (Stray f) (Some r) s h v m w n = absurd s

no_stray : (U : UpdateSet) (f : ℕ) (r : Option Range) → LeavesNoFault (Stray f) r → IsRangeOf (Has U (Stray f)) r → (v : Value) → ¬ (Has U (Stray f) v)
no_stray U f None s h v = h v
no_stray U f (Some r) s h v = λ m. s

consistency : (U : UpdateSet) (s : Summary) → IsSummary U s → IsConsistent U ↔ ((l : Location) → LeavesNoFault l (s l))
consistency U s h = (
  λ c l. settled U l (s l) c (h l),
  λ all. record {
    one_value = λ l v w m n. one_value U l (s l) (all l) (h l) v m w n;
    no_stray = λ f v. no_stray U f (s (Stray f)) (all (Stray f)) (h (Stray f)) v;
  },
)

-- a set with the same range at a location is as faulty there
as_faulty : (U V : UpdateSet) (l : Location) (r : Option Range) → IsRangeOf (Has U l) r → IsRangeOf (Has V l) r → IsFaulty U l → IsFaulty V l
as_faulty U V (Proper f vs) None h k (v, w, m, n, apart) = absurd (h v m)
as_faulty U V (Proper f vs) (Some r) h k (v, w, m, n, apart) =
    (r.least, r.greatest, k.has_least, k.has_greatest, λ e. apart (one_value U (Proper f vs) (Some r) e h v m w n))
as_faulty U V (Stray f) None h k (v, m) = absurd (h v m)
as_faulty U V (Stray f) (Some r) h k (v, m) = (r.least, k.has_least)

module _ (U V : UpdateSet) (s : Summary) (h : IsSummary U s) (k : IsSummary V s) where
  as_first : (l : Location) → IsFirstFaulty U l → IsFirstFaulty V l
  as_first l first = record {
    is_faulty = as_faulty U V l (s l) (h l) (k l) first.is_faulty;
    is_first = λ m faulty. first.is_first m (as_faulty V U m (s m) (k m) (h m) faulty);
  }

  as_range : (l : Location) (r : Range) → IsRange (Has U l) r → IsRange (Has V l) r
  as_range l r is = subst (IsRangeOf (Has V l)) (range_unique (Has U l) (s l) (Some r) (h l) is) (k l)

  first_fault : (fault : Fault) → IsFirstFault U fault → IsFirstFault V fault
  first_fault (Clash (Proper f vs) r) (first, is) = (as_first (Proper f vs) first, as_range (Proper f vs) r is)
  first_fault (Clash (Stray f) r) never = never
  first_fault (Outside f) first = as_first (Stray f) first

firing : (A : State) (U : UpdateSet) (s : Summary) → IsSummary U s → (l : Location) → fire A U l ≡ overwritten (s l) (A l)
unfolding fire
firing A U s h l = ap (λ r. overwritten r (A l)) (range_unique (Has U l) (range_at U l) (s l) (range_at_is U l) (h l))

pub summary_laws : SummaryLaws
summary_laws = record {
  exists = range_at_is;
  one_range = λ U l. range_unique (Has U l);
  is_one = one_summary;
  of_none = of_none;
  of_one = of_one;
  of_union = of_union;
  of_merge = of_merge;
  emptiness = emptiness;
  consistency = consistency;
  first_fault = first_fault;
  firing = firing;
}

fired_value : (A : State) (U : UpdateSet) (l : Location) (v : Value) (r : Option Range) → IsConsistent U → Has U l v → IsRangeOf (Has U l) r → overwritten r (A l) ≡ v
fired_value A U l v None c m h = absurd (h v m)
fired_value A U l v (Some r) c m h = c.one_value l r.least v h.has_least m

kept_value : (A : State) (U : UpdateSet) (l : Location) (r : Option Range) → ¬ (Names U l) → IsRangeOf (Has U l) r → overwritten r (A l) ≡ A l
kept_value A U l None free h = refl
kept_value A U l (Some r) free h = absurd (free (r.least, h.has_least))

overwritten_by_one : (b : Bool) (v w : Value) → overwritten (cond b (Some (record { least = v; greatest = v })) None) w ≡ cond b v w
overwritten_by_one true v w = refl
overwritten_by_one false v w = refl

fire_one : (A : State) (l : Location) (v : Value) → fire A (one l v) ≡ changed A l v
fire_one A l v = λ i m. (firing A (one l v) (range_of_one l v) (of_one l v) m ∙ overwritten_by_one (eq_by_cmp location_cmp l m) v (A m)) i

pub fire_laws : FireLaws
unfolding fire
fire_laws = record {
  named = λ A U l v c m. fired_value A U l v (range_at U l) c m (range_at_is U l);
  others = λ A U l free. kept_value A U l (range_at U l) free (range_at_is U l);
  of_one = fire_one;
  of_none = λ A i l. kept_value A none l (range_at none l) (λ h. member_laws.of_none l h.0 h.1) (range_at_is none l) i;
}
