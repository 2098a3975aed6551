-- Free. Lists that are some of others, and the choices of lists of outcomes.
--     some_*                     what some of a list's elements are
--     each_any, each_mapped      what holds of each, and of what comes of each
--     have_ways, ways_have       what is said of the outcomes is said of their choices
--     ways_take                  the choices of the first outcomes, with one more
--     step_first, step_last, step_kept      some of a list, with one more on either side, or with
--                                           none
--     joined_*                   each with each of another list after it
use Rattle.std.proofs.Common.{◌≡◌, ℕ, ◌+◌, ◌<◌, ◌≤◌, List, [], ◌∷◌, ◌++◌, map, length, take, get_or, ◌⊎◌, inl, inr, refl, sym, ap, subst, ◌∙◌, arith, append_assoc, append-nil}
use Rattle.std.proofs.lemmas.List.{length-append, map-append, take_more}
use Rattle.asm_explore.specs.declared.outcomes.listed_outcome.Choice.{Choice}
use Rattle.asm_explore.specs.declared.outcomes.listed_outcome.ListedOutcome.{ListedOutcome}
use Rattle.asm_explore.specs.code.OutcomeLists.{Each, HaveChoices, ListGrows}
use Rattle.asm_explore.specs.code.ChoiceLists.{choice_lists, AreSomeOf, behind, all_joined}
use Rattle.asm_explore.proofs.Elements.{each_append, each_first, each_last}

-- ---- some of a list

module _ {X : Type 0} where
  pub some_self : (xs : List X) → AreSomeOf xs xs
  some_self [] = tt
  some_self (x ∷ xs) = ([], xs, refl, some_self xs)

  pub some_behind : (zs xs ys : List X) → AreSomeOf xs ys → AreSomeOf (zs ++ xs) (zs ++ ys)
  some_behind [] xs ys h = h
  some_behind (z ∷ zs) xs ys h = ([], zs ++ ys, refl, some_behind zs xs ys h)

  pub some_kept : (xs ys zs : List X) → AreSomeOf xs ys → AreSomeOf xs (ys ++ zs)
  some_kept [] ys zs h = tt
  some_kept (x ∷ xs) ys zs h = (
    h.0,
    h.1 ++ zs,
    ap (λ ws. ws ++ zs) h.2 ∙ append_assoc h.0 (x ∷ h.1) zs,
    subst (AreSomeOf xs) (append_assoc h.0 h.1 zs) (some_kept xs (h.0 ++ h.1) zs h.3),
  )

  pub some_nil : (xs : List X) → AreSomeOf xs (xs ++ [])
  some_nil xs = some_kept xs xs [] (some_self xs)

  -- one more, in whatever place
  pub some_more : (xs ws ys : List X) (z : X) → AreSomeOf (xs ++ ws) ys → AreSomeOf (xs ++ z ∷ ws) (ys ++ z ∷ [])
  some_more [] ws ys z h = (ys, [], refl, subst (AreSomeOf ws) (sym (append-nil ys)) h)
  some_more (x ∷ xs) ws ys z h = (
    h.0,
    h.1 ++ z ∷ [],
    ap (λ us. us ++ z ∷ []) h.2 ∙ append_assoc h.0 (x ∷ h.1) (z ∷ []),
    subst (AreSomeOf (xs ++ z ∷ ws)) (append_assoc h.0 h.1 (z ∷ [])) (some_more xs ws (h.0 ++ h.1) z h.3),
  )

  pub some_each : (P : X → Type 0) (xs ys : List X) → AreSomeOf xs ys → Each P ys → Each P xs
  some_each P [] ys h g = tt
  some_each P (x ∷ xs) ys h g =
      let split : Each P (h.0 ++ x ∷ h.1) = subst (Each P) h.2 g in
      let rest : Each P (x ∷ h.1) = each_last P h.0 (x ∷ h.1) split in
      (rest.0, some_each P xs (h.0 ++ h.1) h.3 (each_append P h.0 h.1 (each_first P h.0 (x ∷ h.1) split) rest.1))

  pub some_fewer : (xs ys : List X) → AreSomeOf xs ys → length xs ≤ length ys
  some_fewer [] ys h = omega arith
  some_fewer (x ∷ xs) ys h =
      omega (arith, some_fewer xs (h.0 ++ h.1) h.3, ap length h.2, length-append h.0 (x ∷ h.1), length-append h.0 h.1)

  pub each_any : (xs : List X) → Each (λ x. Unit {0}) xs
  each_any [] = tt
  each_any (x ∷ xs) = (tt, each_any xs)

  pub each_mapped : {Y : Type 0} (P : X → Type 0) (Q : Y → Type 0) (g : X → Y) → ((x : X) → P x → Q (g x)) → (xs : List X) → Each P xs → Each Q (map g xs)
  each_mapped P Q g f [] h = tt
  each_mapped P Q g f (x ∷ xs) h = (f x h.0, each_mapped P Q g f xs h.1)

-- ---- the choices of outcomes

pub have_ways : (P : List Choice → Type 0) (fs : List ListedOutcome) → HaveChoices P fs → Each P (choice_lists fs)
have_ways P = each_mapped (λ f. P f.choices) P (λ f. f.choices) (λ f h. h)

pub ways_have : (P : List Choice → Type 0) (fs : List ListedOutcome) → Each P (choice_lists fs) → HaveChoices P fs
ways_have P [] h = tt
ways_have P (f ∷ fs) h = (h.0, ways_have P fs h.1)

pub ways_take : (fs : List ListedOutcome) (i : ℕ) (f : ListedOutcome) → i < length fs → f ≡ get_or fs i f
    → choice_lists (take (i + 1) fs) ≡ choice_lists (take i fs) ++ f.choices ∷ []
ways_take fs i f low is =
    ap choice_lists (take_more fs i f low)
    ∙ map-append (λ g. g.choices) (take i fs) (get_or fs i f ∷ [])
    ∙ ap (λ (g : ListedOutcome). choice_lists (take i fs) ++ g.choices ∷ []) (sym is)

-- and of what comes of them
pub mapped_take : (g : List Choice → List Choice) (fs : List ListedOutcome) (i : ℕ) (f : ListedOutcome) → i < length fs → f ≡ get_or fs i f
    → map g (choice_lists (take (i + 1) fs)) ≡ map g (choice_lists (take i fs)) ++ g f.choices ∷ []
mapped_take g fs i f low is = ap (map g) (ways_take fs i f low is) ∙ map-append g (choice_lists (take i fs)) (f.choices ∷ [])

module _ (ws all us then : List (List Choice)) (mid new : List ListedOutcome) (one : ListedOutcome) (grows : ListGrows mid one new) (cs : List Choice)
    (chosen : one.choices ≡ cs) (is : then ≡ us ++ cs ∷ []) where
  more_is : (all ++ us) ++ one.choices ∷ [] ≡ all ++ then
  more_is = append_assoc all us (one.choices ∷ []) ∙ ap (λ ds. all ++ (us ++ ds ∷ [])) chosen ∙ ap (λ vs. all ++ vs) (sym is)

  new_ways : new ≡ mid ++ one ∷ [] → choice_lists new ≡ choice_lists mid ++ one.choices ∷ []
  new_ways more = ap choice_lists more ∙ map-append (λ f. f.choices) mid (one ∷ [])

  pub step_last : AreSomeOf (ws ++ choice_lists mid) (all ++ us) → AreSomeOf (ws ++ choice_lists new) (all ++ then)
  step_last h = subst (AreSomeOf (ws ++ choice_lists new)) more_is (by_kept grows.kept)
    where
      by_kept : (new ≡ mid) ⊎ (new ≡ mid ++ one ∷ []) → AreSomeOf (ws ++ choice_lists new) ((all ++ us) ++ one.choices ∷ [])
      by_kept (inl same) =
          subst (λ fs. AreSomeOf (ws ++ choice_lists fs) ((all ++ us) ++ one.choices ∷ [])) (sym same)
          (some_kept (ws ++ choice_lists mid) (all ++ us) (one.choices ∷ []) h)
      by_kept (inr more) =
          subst (λ vs. AreSomeOf vs ((all ++ us) ++ one.choices ∷ [])) (append_assoc ws (choice_lists mid) (one.choices ∷ []) ∙ ap (λ vs. ws ++ vs) (sym (new_ways more)))
          (some_more (ws ++ choice_lists mid) [] (all ++ us) one.choices (subst (λ vs. AreSomeOf vs (all ++ us)) (sym (append-nil (ws ++ choice_lists mid))) h))

  pub step_first : AreSomeOf (choice_lists mid ++ ws) (all ++ us) → AreSomeOf (choice_lists new ++ ws) (all ++ then)
  step_first h = subst (AreSomeOf (choice_lists new ++ ws)) more_is (by_kept grows.kept)
    where
      by_kept : (new ≡ mid) ⊎ (new ≡ mid ++ one ∷ []) → AreSomeOf (choice_lists new ++ ws) ((all ++ us) ++ one.choices ∷ [])
      by_kept (inl same) =
          subst (λ fs. AreSomeOf (choice_lists fs ++ ws) ((all ++ us) ++ one.choices ∷ [])) (sym same)
          (some_kept (choice_lists mid ++ ws) (all ++ us) (one.choices ∷ []) h)
      by_kept (inr more) =
          subst (λ vs. AreSomeOf vs ((all ++ us) ++ one.choices ∷ []))
          (sym (append_assoc (choice_lists mid) (one.choices ∷ []) ws) ∙ ap (λ vs. vs ++ ws) (sym (new_ways more)))
          (some_more (choice_lists mid) ws (all ++ us) one.choices h)

-- nothing more, where one might be
pub step_kept : (all us then : List (List Choice)) (mid new : List ListedOutcome) (cs : List Choice) → new ≡ mid → then ≡ us ++ cs ∷ []
    → AreSomeOf (choice_lists mid) (all ++ us) → AreSomeOf (choice_lists new) (all ++ then)
step_kept all us then mid new cs same is h =
    subst (λ fs. AreSomeOf (choice_lists fs) (all ++ then)) (sym same)
    (subst (AreSomeOf (choice_lists mid)) (append_assoc all us (cs ∷ []) ∙ ap (λ vs. all ++ vs) (sym is)) (some_kept (choice_lists mid) (all ++ us) (cs ∷ []) h))

-- ---- each with each of another list

pub joined_append : (xs ys right : List (List Choice)) → all_joined (xs ++ ys) right ≡ all_joined xs right ++ all_joined ys right
joined_append [] ys right = refl
joined_append (cs ∷ xs) ys right =
    ap (λ us. behind cs right ++ us) (joined_append xs ys right) ∙ sym (append_assoc (behind cs right) (all_joined xs right) (all_joined ys right))

pub joined_take : (fs : List ListedOutcome) (right : List (List Choice)) (i : ℕ) (f : ListedOutcome) → i < length fs → f ≡ get_or fs i f
    → all_joined (choice_lists (take (i + 1) fs)) right ≡ all_joined (choice_lists (take i fs)) right ++ behind f.choices right
joined_take fs right i f low is =
    ap (λ us. all_joined us right) (ways_take fs i f low is)
    ∙ joined_append (choice_lists (take i fs)) (f.choices ∷ []) right
    ∙ ap (λ us. all_joined (choice_lists (take i fs)) right ++ us) (append-nil (behind f.choices right))

module _ (P Q R : List Choice → Type 0) (both : (cs ds : List Choice) → P cs → Q ds → R (cs ++ ds)) where
  pub behind_each : (cs : List Choice) (ways : List (List Choice)) → P cs → Each Q ways → Each R (behind cs ways)
  behind_each cs ways here = each_mapped Q R (λ ds. cs ++ ds) (λ ds h. both cs ds here h) ways

  pub joined_each : (left right : List (List Choice)) → Each P left → Each Q right → Each R (all_joined left right)
  joined_each [] right h g = tt
  joined_each (cs ∷ left) right h g =
      each_append R (behind cs right) (all_joined left right) (behind_each cs right h.0 g) (joined_each left right h.1 g)
