-- Free. What a set has at a location, if a story gives it: the values of the assignments that stand
-- there.
--     Shows l r found       a result is exhausted, or its set has those values at l
--     story_shown           of what a story gives
--     standing_laws         of the set that it gives
use Rattle.std.proofs.Common.{◌++◌, ◌≡◌, ◌<◌, ℕ, zero, suc, true, false, cond, List, [], ◌∷◌, refl, sym, ap, subst, ◌∙◌, arith, ◌⊎◌, inl, inr}
use Rattle.std.specs.Prelude.{Contains, length, slice_index_or}
use Rattle.std.proofs.lemmas.Bool.{false≢true}
use Rattle.std.proofs.lemmas.List.Elements.{Contains-append_left, Contains-append_right, Contains-append_cases}
use Rattle.asm_state.specs.declared.value.Value.{Value}
use Rattle.asm_state.specs.Location.{Location}
use Rattle.asm_state.specs.Signature.{is_location}
use Rattle.asm_state.specs.Updates.{UpdateSet, Has, Names, one, together, merge}
use Rattle.asm_state.proofs.UpdateLemmas.Members.{member_laws}
use Rattle.asm_meaning.specs.Does.{Outcome, nothing}
use Rattle.asm_meaning.specs.Story.{Story, Silent, Assigns, Chooses, Instance, Beside, Then, Exhausts, and_then, outcome_of}
use Rattle.asm_meaning.specs.Yields.{Path, Result, Gives, Exhausted, beside, after}
use Rattle.asm_clash.specs.Standing.{Assigned, AreValuesAt, values_of, later, stands}
use Rattle.asm_clash.specs.StandingLaws.{StandingLaws}
use Rattle.asm_clash.proofs.Leaves.{location_itself, same_location}

-- ---- elements of lists

no_element : {X : Type 0} (x : X) → ¬ (Contains [] x)
no_element x h = omega (arith, h.1)

append_values : (found others : List Assigned) → values_of (found ++ others) ≡ values_of found ++ values_of others
append_values [] others = refl
append_values (a ∷ found) others = ap (λ vs. a.value ∷ vs) (append_values found others)

first_value : (v : Value) (vs : List Value) → Contains (v ∷ vs) v
first_value v vs = (0, omega arith, refl)

only_value : (v w : Value) → Contains (w ∷ []) v → w ≡ v
only_value v w h = at_zero h.0 h.1 h.2
  where
    at_zero : (k : ℕ) → k < length (w ∷ []) → slice_index_or (w ∷ []) k v ≡ v → w ≡ v
    at_zero zero below is = is
    at_zero (suc k) below is = absurd (omega (arith, below))

module _ (l : Location) where
  abbrev pub Shows : Result → List Assigned → Type 0
  Shows (Gives U) found = AreValuesAt U l found
  Shows (Exhausted q) found = Unit {0}

  pub none_shown : Shows nothing.result []
  none_shown v = (λ h. absurd (member_laws.of_none l v h), λ h. absurd (no_element v h))

  -- ---- an assignment

  assigned_shown : (m : Location) (w : Value) (p : Path) (ws bs : List Value) → Shows (Gives (one m w)) (cond (is_location l m) (record { path = p; value = w; arguments = ws; bound = bs } ∷ []) [])
  assigned_shown m w p ws bs =
      elim (is_location l m) as (λ b. is_location l m ≡ b → AreValuesAt (one m w) l (cond b (record { path = p; value = w; arguments = ws; bound = bs } ∷ []) [])) [
        | true ↦ λ e v. (
          λ h. let is : w ≡ v = sym ((member_laws.of_one m l w v).0 h).1 in subst (Contains (w ∷ [])) is (first_value w []),
          λ h. (member_laws.of_one m l w v).1 (same_location l m e, sym (only_value v w h)),
        )
        | false ↦ λ e v. (
          λ h. absurd (false≢true (sym e ∙ (ap (is_location l) (sym ((member_laws.of_one m l w v).0 h).0) ∙ location_itself l))),
          λ h. absurd (no_element v h),
        )
      ] refl

  -- ---- beside each other

  pub beside_shown : (r s : Result) (found others : List Assigned) → Shows r found → Shows s others → Shows (beside r s) (found ++ others)
  beside_shown (Gives U) (Gives V) found others shown other = λ v. (
    λ h. subst (λ vs. Contains vs v) (sym (append_values found others)) (forth v ((member_laws.of_union U V l v).0 h)),
    λ h. back v (Contains-append_cases (values_of found) (values_of others) v (subst (λ vs. Contains vs v) (append_values found others) h)),
  )
    where
      forth : (v : Value) → Has U l v ⊎ Has V l v → Contains (values_of found ++ values_of others) v
      forth v (inl h) = Contains-append_left (values_of found) (values_of others) v ((shown v).0 h)
      forth v (inr h) = Contains-append_right (values_of found) (values_of others) v ((other v).0 h)

      back : (v : Value) → Contains (values_of found) v ⊎ Contains (values_of others) v → Has (together U V) l v
      back v (inl h) = (member_laws.of_union U V l v).1 (inl ((shown v).1 h))
      back v (inr h) = (member_laws.of_union U V l v).1 (inr ((other v).1 h))
  beside_shown (Gives U) (Exhausted q) found others shown other = tt
  beside_shown (Exhausted q) (Gives V) found others shown other = tt
  beside_shown (Exhausted q) (Exhausted s) found others shown other = tt

  -- ---- one after the other

  merge_shown : (U V : UpdateSet) (own others : List Assigned) → AreValuesAt U l own → AreValuesAt V l others → AreValuesAt (merge U V) l (later own others)
  merge_shown U V own [] shown other v = (λ h. forth ((member_laws.of_merge U V l v).0 h), λ h. (member_laws.of_merge U V l v).1 (inl ((shown v).1 h, λ named. no_element named.0 ((other named.0).0 named.1))))
    where
      forth : (Has U l v × (¬ (Names V l))) ⊎ Has V l v → Contains (values_of own) v
      forth (inl h) = (shown v).0 h.0
      forth (inr h) = absurd (no_element v ((other v).0 h))
  merge_shown U V own (a ∷ more) shown other v = (λ h. forth ((member_laws.of_merge U V l v).0 h), λ h. (member_laws.of_merge U V l v).1 (inr ((other v).1 h)))
    where
      named : Names V l
      named = (a.value, (other a.value).1 (first_value a.value (values_of more)))

      forth : (Has U l v × (¬ (Names V l))) ⊎ Has V l v → Contains (values_of (a ∷ more)) v
      forth (inl h) = absurd (h.1 named)
      forth (inr h) = (other v).0 h

  after_shown : (U : UpdateSet) (r : Result) (own others : List Assigned) → AreValuesAt U l own → Shows r others → Shows (after U r) (later own others)
  after_shown U (Gives V) own others shown other = merge_shown U V own others shown other
  after_shown U (Exhausted q) own others shown other = tt

  and_then_shown : (r : Result) (n : ℕ) (o : Outcome) (own others : List Assigned) → Shows r own → Shows o.result others → Shows (and_then r n o).result (later own others)
  and_then_shown (Gives U) n o own others shown other = after_shown U o.result own others shown other
  and_then_shown (Exhausted q) n o own others shown other = tt

  -- ---- a story

  pub story_shown : (s : Story) → Shows (outcome_of s).result (stands l s)
  story_shown Silent = none_shown
  story_shown (Assigns p m w ws bs) = assigned_shown m w p ws bs
  story_shown (Chooses p k vs s) = story_shown s
  story_shown (Instance s) = story_shown s
  story_shown (Beside s t) = beside_shown (outcome_of s).result (outcome_of t).result (stands l s) (stands l t) (story_shown s) (story_shown t)
  story_shown (Then s t) = and_then_shown (outcome_of s).result (outcome_of s).instances (outcome_of t) (stands l s) (stands l t) (story_shown s) (story_shown t)
  story_shown (Exhausts p) = tt

pub standing_laws : StandingLaws
standing_laws = record { in_set = λ l s U is. subst (λ r. Shows l r (stands l s)) is (story_shown l s) }
