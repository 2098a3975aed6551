-- Free. Lists of choices that take different candidates.
--     differ_*         two of them
--     different_*      each two of a list
--     different_from   each two differ in parts from a number on, if they lie there
--     joined_differ, replaced_differ, picked_differ      of what comes of lists whose elements
--                                                        differ
use Rattle.std.proofs.Common.{◌≡◌, ◌+◌, ◌≤◌, ℕ, List, [], ◌∷◌, ◌++◌, map, inl, refl, sym, subst, arith, append-nil}
use Rattle.asm_meaning.specs.Yields.{Path, at}
use Rattle.asm_explore.specs.declared.outcomes.listed_outcome.Choice.{Choice}
use Rattle.asm_explore.specs.ListElements.{Each}
use Rattle.asm_explore.specs.code.ChoicePaths.{LiesAt, IsPlacedFrom}
use Rattle.asm_explore.specs.code.OverLimit.{Differ, AreDifferent, DifferFrom, AreDifferentFrom, TakesBefore}
use Rattle.asm_explore.specs.code.ChoiceLists.{AreSomeOf, behind, all_joined, with_choice}
use Rattle.asm_explore.proofs.Elements.{each_append, each_among, each_first, each_last, each_weaker, any_first, any_last}
use Rattle.asm_explore.proofs.ChoiceLemmas.ChoicePaths.{lies_above}
use Rattle.asm_explore.proofs.OutcomeLemmas.ChoiceLists.{some_each, each_any, each_mapped, joined_each}

-- ---- two of them

module _ (p : Path) where
  pub differ_other : (cs ds : List Choice) → Differ p cs ds → Differ p ds cs
  differ_other cs ds h = record {
    one = h.other;
    other = h.one;
    first = h.second;
    second = h.first;
    same = sym h.same;
    below = subst (LiesAt p) h.same h.below;
    differ = λ is. h.differ (sym is);
  }

  pub differ_above : (k : ℕ) (cs ds : List Choice) → Differ (at p k) cs ds → Differ p cs ds
  differ_above k cs ds h = record {
    one = h.one;
    other = h.other;
    first = h.first;
    second = h.second;
    same = h.same;
    below = lies_above p h.one.path k h.below;
    differ = h.differ;
  }

  -- with others after the second
  pub differ_longer : (cs ds es : List Choice) → Differ p cs ds → Differ p cs (ds ++ es)
  differ_longer cs ds es h = record {
    one = h.one;
    other = h.other;
    first = h.first;
    second = any_first (λ c. c ≡ h.other) ds es h.second;
    same = h.same;
    below = h.below;
    differ = h.differ;
  }

  -- with others after both, and before both
  pub differ_before : (cs ds es fs : List Choice) → Differ p cs ds → Differ p (cs ++ es) (ds ++ fs)
  differ_before cs ds es fs h =
      differ_other (ds ++ fs) (cs ++ es) (differ_longer (ds ++ fs) cs es (differ_other cs (ds ++ fs) (differ_longer cs ds fs h)))

  pub differ_behind : (cs ds es : List Choice) → Differ p cs ds → Differ p (es ++ cs) (es ++ ds)
  differ_behind cs ds es h = record {
    one = h.one;
    other = h.other;
    first = any_last (λ c. c ≡ h.one) es cs h.first;
    second = any_last (λ c. c ≡ h.other) es ds h.second;
    same = h.same;
    below = h.below;
    differ = h.differ;
  }

  -- ---- each two of a list

  abbrev pub AllCross : (xs ys : List (List Choice)) → Type 0
  AllCross xs ys = Each (λ cs. Each (Differ p cs) ys) xs

  pub different_append : (xs ys : List (List Choice)) → AreDifferent p xs → AreDifferent p ys → AllCross xs ys → AreDifferent p (xs ++ ys)
  different_append [] ys h g cross = g
  different_append (cs ∷ xs) ys h g cross = (each_append (Differ p cs) xs ys h.0 cross.0, different_append xs ys h.1 g cross.1)

  pub different_parts : (xs ys : List (List Choice)) → AreDifferent p (xs ++ ys) → AreDifferent p xs × AreDifferent p ys × AllCross xs ys
  different_parts [] ys h = (tt, h, tt)
  different_parts (cs ∷ xs) ys h =
      let rest = different_parts xs ys h.1 in
      ((each_first (Differ p cs) xs ys h.0, rest.0), rest.1, (each_last (Differ p cs) xs ys h.0, rest.2))

  pub different_some : (xs ys : List (List Choice)) → AreSomeOf xs ys → AreDifferent p ys → AreDifferent p xs
  different_some [] ys h g = tt
  different_some (cs ∷ xs) ys h g =
      let parts = different_parts h.0 (cs ∷ h.1) (subst (AreDifferent p) h.2 g) in
      let here : Each (Differ p cs) (h.0 ++ h.1) =
      each_append (Differ p cs) h.0 h.1
      (each_weaker (λ ds. Each (Differ p ds) (cs ∷ h.1)) (Differ p cs) (λ ds there. differ_other ds cs there.0) h.0 parts.2) parts.1.0 in
      let rest : AreDifferent p (h.0 ++ h.1) =
      different_append h.0 h.1 parts.0 parts.1.1
      (each_weaker (λ ds. Each (Differ p ds) (cs ∷ h.1)) (λ ds. Each (Differ p ds) h.1) (λ ds there. there.1) h.0 parts.2) in
      let others : AreDifferent p xs = different_some xs (h.0 ++ h.1) h.3 rest in
      (some_each (Differ p cs) xs (h.0 ++ h.1) h.3 here, others)

  cross_swapped : (xs ys : List (List Choice)) → AllCross xs ys → AllCross ys xs
  cross_swapped xs [] h = tt
  cross_swapped xs (ds ∷ ys) h = (
    each_weaker (λ cs. Each (Differ p cs) (ds ∷ ys)) (Differ p ds) (λ cs there. differ_other cs ds there.0) xs h,
    cross_swapped xs ys (each_weaker (λ cs. Each (Differ p cs) (ds ∷ ys)) (λ cs. Each (Differ p cs) ys) (λ cs there. there.1) xs h),
  )

  pub different_swapped : (xs ys : List (List Choice)) → AreDifferent p (xs ++ ys) → AreDifferent p (ys ++ xs)
  different_swapped xs ys h =
      let parts = different_parts xs ys h in
      different_append ys xs parts.1 parts.0 (cross_swapped xs ys parts.2)

  pub different_above : (k : ℕ) (ways : List (List Choice)) → AreDifferent (at p k) ways → AreDifferent p ways
  different_above k [] h = tt
  different_above k (cs ∷ ways) h = (each_weaker (Differ (at p k) cs) (Differ p cs) (λ ds. differ_above k cs ds) ways h.0, different_above k ways h.1)

  -- of what comes of each, if two still differ
  pub different_mapped : (g : List Choice → List Choice) → ((cs ds : List Choice) → Differ p cs ds → Differ p (g cs) (g ds))
      → (ways : List (List Choice)) → AreDifferent p ways → AreDifferent p (map g ways)
  different_mapped g f [] h = tt
  different_mapped g f (cs ∷ ways) h = (each_mapped (Differ p cs) (Differ p (g cs)) g (λ ds. f cs ds) ways h.0, different_mapped g f ways h.1)

  -- ---- in parts from a number on

  differ_from : (k : ℕ) (cs ds : List Choice) → IsPlacedFrom p k cs → Differ p cs ds → DifferFrom p k cs ds
  differ_from k cs ds placed h =
      let there : (j : ℕ) × (k ≤ j) × LiesAt (at p j) h.one.path = each_among (λ c. (j : ℕ) × (k ≤ j) × LiesAt (at p j) c.path) cs h.one h.first placed.below in (
        there.0,
        there.1,
        record {
          one = h.one;
          other = h.other;
          first = h.first;
          second = h.second;
          same = h.same;
          below = there.2;
          differ = h.differ;
        },
      )

  pub different_from : (k : ℕ) (ways : List (List Choice)) → Each (IsPlacedFrom p k) ways → AreDifferent p ways → AreDifferentFrom p k ways
  different_from k [] placed h = tt
  different_from k (cs ∷ ways) placed h = (each_weaker (Differ p cs) (DifferFrom p k cs) (λ ds. differ_from k cs ds placed.0) ways h.0, different_from k ways placed.1 h.1)

  pub different_from_mapped : (g : List Choice → List Choice) → ((q : Path) (cs ds : List Choice) → Differ q cs ds → Differ q (g cs) (g ds))
      → (k : ℕ) (ways : List (List Choice)) → AreDifferentFrom p k ways → AreDifferentFrom p k (map g ways)
  different_from_mapped g f k [] h = tt
  different_from_mapped g f k (cs ∷ ways) h = (
    each_mapped (DifferFrom p k cs) (DifferFrom p k (g cs)) g (λ ds there. (there.0, there.1, f (at p there.0) cs ds there.2)) ways h.0,
    different_from_mapped g f k ways h.1,
  )

  -- ---- behind others

  pub behind_differ : (cs : List Choice) (ways : List (List Choice)) → AreDifferent p ways → AreDifferent p (behind cs ways)
  behind_differ cs = different_mapped (λ ds. cs ++ ds) (λ ds es. differ_behind ds es cs)

  -- ---- of what comes of lists

  pub joined_differ : (k : ℕ) (left right : List (List Choice)) → AreDifferent (at p k) left → AreDifferent p right → AreDifferent p (all_joined left right)
  joined_differ k [] right h g = tt
  joined_differ k (cs ∷ left) right h g =
      different_append (behind cs right) (all_joined left right) (behind_differ cs right g) (joined_differ k left right h.1 g)
      (each_mapped (λ ds. Unit {0}) (λ es. Each (Differ p es) (all_joined left right)) (λ ds. cs ++ ds)
      (λ ds any.
      joined_each (Differ (at p k) cs) (λ es. Unit {0}) (Differ p (cs ++ ds)) (λ es fs there any. differ_before cs es ds fs (differ_above k cs es there))
      left right h.0 (each_any right))
      right (each_any right))

  -- when one goes on in each of these ways
  pub replaced_differ : (k : ℕ) (cs : List Choice) (ways part : List (List Choice)) → AreDifferent p (cs ∷ ways) → AreDifferent (at p k) part
      → AreDifferent p (ways ++ behind cs part)
  replaced_differ k cs ways part h g =
      different_append ways (behind cs part) h.1 (behind_differ cs part (different_above k part g))
      (each_weaker (Differ p cs) (λ ds. Each (Differ p ds) (behind cs part))
      (λ ds there. each_mapped (λ es. Unit {0}) (Differ p ds) (λ es. cs ++ es) (λ es any. differ_longer ds cs es (differ_other cs ds there)) part (each_any part))
      ways h.0)

  -- the candidate with number k is taken, after those before it
  chosen_differ : (k : ℕ) (cs ds : List Choice) → TakesBefore p k cs → Differ p cs (ds ++ record { path = p; number = k } ∷ [])
  chosen_differ k cs ds h =
      let own : Choice = record { path = p; number = k } in
      record {
        one = record { path = p; number = h.0 };
        other = own;
        first = h.2;
        second = any_last (λ c. c ≡ own) ds (own ∷ []) (inl refl);
        same = refl;
        below = ([], sym (append-nil p));
        differ = λ is. omega (arith, is, h.1);
      }

  pub picked_differ : (k : ℕ) (old part : List (List Choice)) → AreDifferent p old → Each (TakesBefore p k) old → AreDifferent (at p 0) part
      → AreDifferent p (old ++ with_choice p k part)
  picked_differ k old part h before g =
      let own : List Choice = record { path = p; number = k } ∷ [] in
      different_append old (with_choice p k part) h
      (different_mapped (λ cs. cs ++ own) (λ cs ds there. differ_before cs ds own own there) part (different_above 0 part g))
      (each_weaker (TakesBefore p k) (λ cs. Each (Differ p cs) (with_choice p k part))
      (λ cs there. each_mapped (λ ds. Unit {0}) (Differ p cs) (λ ds. ds ++ own) (λ ds any. chosen_differ k cs ds there) part (each_any part))
      old before)

  -- all of them take one before the next
  pub picked_before : (k : ℕ) (old part : List (List Choice)) → Each (TakesBefore p k) old → Each (TakesBefore p (k + 1)) (old ++ with_choice p k part)
  picked_before k old part h =
      let own : Choice = record { path = p; number = k } in
      each_append (TakesBefore p (k + 1)) old (with_choice p k part)
      (each_weaker (TakesBefore p k) (TakesBefore p (k + 1)) (λ cs there. (there.0, omega (arith, there.1), there.2)) old h)
      (each_mapped (λ ds. Unit {0}) (TakesBefore p (k + 1)) (λ ds. ds ++ own ∷ []) (λ ds any. (k, omega arith, any_last (λ c. c ≡ own) ds (own ∷ []) (inl refl))) part (each_any part))
