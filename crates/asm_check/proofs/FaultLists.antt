-- Free. The lists of faults are the faults: what is in a list is a fault, and each fault is in its
-- list.
--     twice_sound, twice_complete      8
--     uses_sound      9, 10, 11, and 17 of uses;  unknown_complete, arity_complete, assign_complete
--     inits_sound, inits_complete      14
--     limits_sound, limits_complete      15, except ranks
--     entries_sound, entries_complete      16
--     starts_sound      17 of main rules;  results_complete      17
use Rattle.std.proofs.Common.{◌≡◌, ◌≢◌, ◌⊎◌, ℕ, ◌+◌, Bool, true, false, not, cond, ◌&&◌, ◌||◌, nat_eq, List, [], ◌∷◌, ◌++◌, map, length, Option, Some, None, refl, sym, ap, subst, ◌∙◌, inl, inr}
use Rattle.std.specs.Prelude.{Contains, filter_map, flat_map}
use Rattle.std.specs.List.{list_all}
use Rattle.std.proofs.lemmas.Bool.{false≢true, not-true, not_from_false, eqb-false, ne_eqb, ltb-true, lt-ltb, and_parts, and_from, or_cases, or_left, or_right}
use Rattle.std.proofs.lemmas.List.Elements.{Contains-append_left, Contains-append_right, Contains-append_cases}
use Rattle.asm_state.specs.declared.signature_limits.TheConstants.{MAX_UNIVERSES, MAX_VALUES, MAX_FUNCTIONS, MAX_ARGUMENTS, MAX_LOCATIONS, MAX_STATIC_LISTS}
use Rattle.asm_state.proofs.Lists.{Contains-cons_cases, Contains-first, Contains-flat_map, Contains-from_flat_map, Contains-from_map, Contains-later, Contains-map, Contains-none}
use Rattle.asm_syntax.specs.SourceTree as source
use Rattle.asm_syntax.specs.SourceTree.{Name, Entry, Item, Spec}
use Rattle.asm_check.specs.declared.limits.limit_faults.TheConstants.{MAX_RULES}
use Rattle.asm_check.specs.Names as names
use Rattle.asm_check.specs.Names.{Text, Declaration, Meaning, Role, InTerm, AsTarget, AsRule, AsAnswering, AsResult, Use, declarations, first_declarations, declared, uses, is_among, text_of, is_known, arguments_of, is_assignable, is_result, has_result_in_body, can_be_main, uses_of_entry}
use Rattle.asm_check.specs.Limits as limits
use Rattle.asm_check.specs.Limits.{is_universe, is_function, is_controlled, is_static, is_rule, size_of, domain_of, lists_of, Passes, PassesLimit}
use Rattle.asm_check.specs.Faults.{IsRepeated, IsTwice, IsUnknown, IsMiscounted, IsUnassignable, IsBadInit, IsOverLimit, IsBadEntry, IsResultUse, IsFault, twice, unknown, arity, not_controlled, cyclic_rule, cyclic_derived, init, another, no_start, missing, too_many, table_entry, result_use, outside, plain_call, start, init_of, parameters_of, is_known_use, inits, table_of}
use Rattle.asm_check.specs.code.FaultLists.{repeats, at_with, twice_faults, miscounts, is_target, is_plain_call, is_misused, misuse, faults_of_use, all_of_use, use_faults, unfit_main_rules, faults_of_inits, init_faults, passes, passes_limit, limit_faults_from, limit_faults, is_bad_entry, bad_entries, entry_faults, main_rule_with_result, main_rules_with_result}
use Rattle.asm_check.specs.code.cycles.StepFaults as steps
use Rattle.asm_check.specs.code.cycles.StepFaults.{IsStepFault}
use Rattle.asm_check.proofs.CycleLemmas.HeightsAreRanks.{split}
use Rattle.asm_check.proofs.NameLemmas.FirstDeclarations.{covered, turn}
use Rattle.asm_check.proofs.MembersOfLists.{IsListed, the_only, in_then, in_else, walk_sound, walk_complete}

at_sound : (number : ℕ) (offsets : List ℕ) (at n : ℕ) → IsListed (at_with number offsets) at n → Contains offsets at × (number ≡ n)
at_sound number offsets at n c =
    let it = Contains-from_map (λ (a : ℕ). (a, number)) offsets (at, n) c in
    (subst (Contains offsets) (ap (λ f. f.0) it.2) it.1, ap (λ f. f.1) it.2)

at_complete : (number : ℕ) (offsets : List ℕ) (at : ℕ) → Contains offsets at → Contains (at_with number offsets) (at, number)
at_complete number offsets at c = Contains-map (λ (a : ℕ). (a, number)) offsets at c

-- ---- 8

-- the same after names that were seen
record IsSeen (seen : List Text) (xs : List Name) (at : ℕ) : Type 0 where
  before : List Name
  name : Name
  after : List Name
  parts : xs ≡ before ++ name ∷ after
  is_before : (is_among seen name.text || is_among (map text_of before) name.text) ≡ true
  offset : name.at ≡ at

-- with the names after it
seen_later : (seen : List Text) (x : Name) (xs : List Name) (at : ℕ) (seen' : List Text)
    → ((y : Text) (b : Bool) → (is_among seen y || (names.is_text x.text y || b)) ≡ (is_among seen' y || b)) → IsSeen seen' xs at → IsSeen seen (x ∷ xs) at
seen_later seen x xs at seen' same it = record {
  before = x ∷ it.before;
  name = it.name;
  after = it.after;
  parts = ap (λ ys. x ∷ ys) it.parts;
  is_before = same it.name.text (is_among (map text_of it.before) it.name.text) ∙ it.is_before;
  offset = it.offset;
}

repeats_sound : (seen : List Text) (xs : List Name) (at : ℕ) → Contains (repeats seen xs) at → IsSeen seen xs at
repeats_sound seen [] at c = absurd (Contains-none at c)
repeats_sound seen (x ∷ xs) at c =
    elim (is_among seen x.text) as (λ b. is_among seen x.text ≡ b → Contains (cond b (x.at ∷ repeats seen xs) (repeats (x.text ∷ seen) xs)) at → IsSeen seen (x ∷ xs) at) [
      | true ↦ λ e it.
          elim (Contains-cons_cases x.at (repeats seen xs) at it) [
            | inl same ↦ record { before = []; name = x; after = xs; parts = refl; is_before = or_left (is_among seen x.text) false e; offset = same }
            | inr rest ↦ seen_later seen x xs at seen (λ y b. sym (covered seen x.text y b e)) (repeats_sound seen xs at rest)
          ]
      | false ↦ λ e rest.
          seen_later seen x xs at (x.text ∷ seen) (λ y b. sym (turn (is_among seen y) (names.is_text x.text y) b)) (repeats_sound (x.text ∷ seen) xs at rest)
    ] refl c

repeats_complete : (seen : List Text) (before : List Name) (name : Name) (after : List Name)
    → (is_among seen name.text || is_among (map text_of before) name.text) ≡ true → Contains (repeats seen (before ++ name ∷ after)) name.at
repeats_complete seen [] name after h =
    elim (or_cases (is_among seen name.text) false h) [
      | inl e ↦ in_then (is_among seen name.text) (name.at ∷ repeats seen after) (repeats (name.text ∷ seen) after) name.at e (Contains-first name.at (repeats seen after))
      | inr bad ↦ absurd (false≢true bad)
    ]
repeats_complete seen (x ∷ before) name after h =
    let rest = before ++ name ∷ after in
    let known = is_among (map text_of before) name.text in
    elim (is_among seen x.text) as (λ b. is_among seen x.text ≡ b → Contains (cond b (x.at ∷ repeats seen rest) (repeats (x.text ∷ seen) rest)) name.at) [
      | true ↦ λ e. Contains-later x.at (repeats seen rest) name.at (repeats_complete seen before name after (covered seen x.text name.text known e ∙ h))
      | false ↦ λ e. repeats_complete (x.text ∷ seen) before name after (turn (is_among seen name.text) (names.is_text x.text name.text) known ∙ h)
    ] refl

repeated : (xs : List Name) (at : ℕ) → Contains (repeats [] xs) at → IsRepeated xs at
repeated xs at c =
    let it = repeats_sound [] xs at c in
    record { before = it.before; name = it.name; after = it.after; parts = it.parts; is_before = it.is_before; offset = it.offset }

found_again : (xs : List Name) (at : ℕ) → IsRepeated xs at → Contains (repeats [] xs) at
found_again xs at it =
    subst (λ ys. Contains (repeats [] ys) at) (sym it.parts)
    (subst (Contains (repeats [] (it.before ++ it.name ∷ it.after))) it.offset (repeats_complete [] it.before it.name it.after it.is_before))

module _ (spec : Spec) where
  abbrev declared_names : List Name
  declared_names = map (λ d. d.name) (declarations spec)

  abbrev twice_named : List ℕ
  twice_named = flat_map (λ item. repeats [] (parameters_of item)) spec.items

  pub twice_sound : (at n : ℕ) → IsListed (twice_faults spec) at n → IsFault spec at n
  unfolding twice_faults
  twice_sound at n c =
      elim (Contains-append_cases (at_with 8 (repeats [] declared_names)) (at_with 8 twice_named) (at, n) c) [
        | inl first ↦
            let it = at_sound 8 (repeats [] declared_names) at n first in
            subst (IsFault spec at) it.1 (twice (declared_names, Contains-first declared_names (map parameters_of spec.items), repeated declared_names at it.0))
        | inr second ↦
            let it = at_sound 8 twice_named at n second in
            let of = Contains-from_flat_map (λ item. repeats [] (parameters_of item)) spec.items at it.0 in
            let xs = parameters_of of.0 in
            subst (IsFault spec at) it.1
            (twice (xs, Contains-later declared_names (map parameters_of spec.items) xs (Contains-map parameters_of spec.items of.0 of.1), repeated xs at of.2))
      ]

  pub twice_complete : (at : ℕ) → IsTwice spec at → IsListed (twice_faults spec) at 8
  unfolding twice_faults
  twice_complete at (xs, stands, it) =
      elim (Contains-cons_cases declared_names (map parameters_of spec.items) xs stands) [
        | inl e ↦
            Contains-append_left (at_with 8 (repeats [] declared_names)) (at_with 8 twice_named) (at, 8)
            (at_complete 8 (repeats [] declared_names) at (found_again declared_names at (subst (λ ys. IsRepeated ys at) (sym e) it)))
        | inr later ↦
            let of = Contains-from_map parameters_of spec.items xs later in
            Contains-append_right (at_with 8 (repeats [] declared_names)) (at_with 8 twice_named) (at, 8)
            (at_complete 8 twice_named at
            (Contains-flat_map (λ item. repeats [] (parameters_of item)) spec.items of.0 at of.1 (found_again (parameters_of of.0) at (subst (λ ys. IsRepeated ys at) (sym of.2) it))))
      ]

-- ---- 9, 10, 11

miscounted : (m : Option ℕ) (n : ℕ) → miscounts m n ≡ true → (k : ℕ) × (m ≡ Some k) × (n ≢ k)
miscounted None n h = absurd (false≢true h)
miscounted (Some k) n h = (k, refl, eqb-false n k (not-true (nat_eq n k) h))

miscounts_from : (n k : ℕ) → n ≢ k → miscounts (Some k) n ≡ true
miscounts_from n k differs = not_from_false (nat_eq n k) (ne_eqb n k differs)

target_from : (r : Role) → is_target r ≡ true → r ≡ AsTarget
target_from AsTarget h = refl
target_from r h = absurd (false≢true h)

result_from : (r : Role) → is_result r ≡ true → r ≡ AsResult
result_from AsResult h = refl
result_from r h = absurd (false≢true h)

plain_from : (r : Role) → is_plain_call r ≡ true → r ≡ AsRule
plain_from AsRule h = refl
plain_from r h = absurd (false≢true h)

-- what has a number of arguments is known
counted_is_known : (r : Role) (b : Bool) (m : Option Meaning) (k : ℕ) → arguments_of r b m ≡ Some k → is_known r b m ≡ true
counted_is_known InTerm true m k h = refl
counted_is_known InTerm false (Some (names.Element j)) k h = refl
counted_is_known InTerm false (Some (names.Controlled domain)) k h = refl
counted_is_known InTerm false (Some (names.Static domain)) k h = refl
counted_is_known InTerm false (Some (names.Derived xs t)) k h = refl
counted_is_known AsTarget false (Some (names.Controlled domain)) k h = refl
counted_is_known AsRule b (Some (names.NamedRule xs P)) k h = refl
counted_is_known AsAnswering b (Some (names.NamedRule xs P)) k h = refl
counted_is_known r b m k h = cc

-- what isn't assignable has no number of arguments as a target
uncounted : (b : Bool) (m : Option Meaning) → is_assignable b m ≡ false → arguments_of AsTarget b m ≡ None
uncounted true m h = refl
uncounted false None h = refl
uncounted false (Some (names.Controlled domain)) h = cc
uncounted false (Some m) h = refl

module _ (spec : Spec) (u : Use) where
  abbrev count_of : Option ℕ
  count_of = arguments_of u.role u.is_bound (declared spec u.name.text)

  abbrev is_wrong_target : Bool
  is_wrong_target = is_target u.role && not (is_assignable u.is_bound (declared spec u.name.text))

  abbrev as_target : List (ℕ × ℕ)
  as_target = cond is_wrong_target ((u.name.at, 11) ∷ []) []

  abbrev as_known : List (ℕ × ℕ)
  as_known = cond (miscounts count_of u.count) ((u.name.at, 10) ∷ []) as_target

  use_sound : Contains (uses spec) u → (at n : ℕ) → IsListed (faults_of_use spec u) at n → IsFault spec at n
  use_sound stands at n c = first (is_known_use spec u) refl c
    where
      third : (b : Bool) → is_wrong_target ≡ b → is_known_use spec u ≡ true → IsListed (cond b ((u.name.at, 11) ∷ []) []) at n → IsFault spec at n
      third true e known c =
          let parts = and_parts (is_target u.role) (not (is_assignable u.is_bound (declared spec u.name.text))) e in
          subst (λ f. IsFault spec f.0 f.1) (the_only (u.name.at, 11) (at, n) c)
          (not_controlled (record {
            use_of = u;
            stands = stands;
            is_target = target_from u.role parts.0;
            known = known;
            unassignable = not-true (is_assignable u.is_bound (declared spec u.name.text)) parts.1;
            offset = refl;
          }))
      third false e known c = absurd (Contains-none (at, n) c)

      second : (b : Bool) → miscounts count_of u.count ≡ b → is_known_use spec u ≡ true → IsListed (cond b ((u.name.at, 10) ∷ []) as_target) at n → IsFault spec at n
      second true e known c =
          let it = miscounted count_of u.count e in
          subst (λ f. IsFault spec f.0 f.1) (the_only (u.name.at, 10) (at, n) c)
          (arity (record { use_of = u; stands = stands; count = it.0; has = it.1; differs = it.2; offset = refl }))
      second false e known c = third is_wrong_target refl known c

      first : (b : Bool) → is_known_use spec u ≡ b → IsListed (cond b as_known ((u.name.at, 9) ∷ [])) at n → IsFault spec at n
      first true e c = second (miscounts count_of u.count) refl e c
      first false e c =
          subst (λ f. IsFault spec f.0 f.1) (the_only (u.name.at, 9) (at, n) c)
          (unknown (record { use_of = u; stands = stands; unknown = e; offset = refl }))

  -- 17
  abbrev is_outside : Bool
  is_outside = is_result u.role && not u.is_bound

  abbrev is_plain : Bool
  is_plain = is_plain_call u.role && has_result_in_body (declared spec u.name.text)

  misuse_sound : Contains (uses spec) u → (at n : ℕ) → IsListed (misuse spec u) at n → IsFault spec at n
  misuse_sound stands at n c = by_test (is_misused spec u) refl c
    where
      why : is_misused spec u ≡ true → IsResultUse spec u.name.at
      why e =
          elim (or_cases is_outside is_plain e) [
            | inl out ↦ let parts = and_parts (is_result u.role) (not u.is_bound) out in outside u stands (result_from u.role parts.0) (not-true u.is_bound parts.1) refl
            | inr call ↦ let parts = and_parts (is_plain_call u.role) (has_result_in_body (declared spec u.name.text)) call in plain_call u stands (plain_from u.role parts.0) parts.1 refl
          ]

      by_test : (b : Bool) → is_misused spec u ≡ b → IsListed (cond b ((u.name.at, 17) ∷ []) []) at n → IsFault spec at n
      by_test true e c = subst (λ f. IsFault spec f.0 f.1) (the_only (u.name.at, 17) (at, n) c) (result_use (why e))
      by_test false e c = absurd (Contains-none (at, n) c)

  misused : is_misused spec u ≡ true → IsListed (all_of_use spec u) u.name.at 17
  misused e =
      Contains-append_right (faults_of_use spec u) (misuse spec u) (u.name.at, 17)
      (in_then (is_misused spec u) ((u.name.at, 17) ∷ []) [] (u.name.at, 17) e (Contains-first (u.name.at, 17) []))

  use_outside : u.role ≡ AsResult → u.is_bound ≡ false → IsListed (all_of_use spec u) u.name.at 17
  use_outside role free =
      misused (or_left is_outside is_plain (and_from (is_result u.role) (not u.is_bound) (ap is_result role) (not_from_false u.is_bound free)))

  use_plain : u.role ≡ AsRule → has_result_in_body (declared spec u.name.text) ≡ true → IsListed (all_of_use spec u) u.name.at 17
  use_plain role so =
      misused (or_right is_outside is_plain (and_from (is_plain_call u.role) (has_result_in_body (declared spec u.name.text)) (ap is_plain_call role) so))

  -- one of the first three
  of_three : (n : ℕ) → IsListed (faults_of_use spec u) u.name.at n → IsListed (all_of_use spec u) u.name.at n
  of_three n c = Contains-append_left (faults_of_use spec u) (misuse spec u) (u.name.at, n) c

  use_unknown : is_known_use spec u ≡ false → IsListed (faults_of_use spec u) u.name.at 9
  use_unknown e = in_else (is_known_use spec u) as_known ((u.name.at, 9) ∷ []) (u.name.at, 9) e (Contains-first (u.name.at, 9) [])

  use_miscounted : (k : ℕ) → count_of ≡ Some k → u.count ≢ k → IsListed (faults_of_use spec u) u.name.at 10
  use_miscounted k has differs =
      in_then (is_known_use spec u) as_known ((u.name.at, 9) ∷ []) (u.name.at, 10) (counted_is_known u.role u.is_bound (declared spec u.name.text) k has)
      (in_then (miscounts count_of u.count) ((u.name.at, 10) ∷ []) as_target (u.name.at, 10)
      (ap (λ m. miscounts m u.count) has ∙ miscounts_from u.count k differs) (Contains-first (u.name.at, 10) []))

  use_unassignable : u.role ≡ AsTarget → is_known_use spec u ≡ true → is_assignable u.is_bound (declared spec u.name.text) ≡ false
      → IsListed (faults_of_use spec u) u.name.at 11
  use_unassignable role known e =
      let none : count_of ≡ None = ap (λ r. arguments_of r u.is_bound (declared spec u.name.text)) role ∙ uncounted u.is_bound (declared spec u.name.text) e in
      let target : is_target u.role ≡ true = ap is_target role in
      in_then (is_known_use spec u) as_known ((u.name.at, 9) ∷ []) (u.name.at, 11) known
      (in_else (miscounts count_of u.count) ((u.name.at, 10) ∷ []) as_target (u.name.at, 11) (ap (λ m. miscounts m u.count) none)
      (in_then is_wrong_target ((u.name.at, 11) ∷ []) [] (u.name.at, 11)
      (and_from (is_target u.role) (not (is_assignable u.is_bound (declared spec u.name.text))) target
      (not_from_false (is_assignable u.is_bound (declared spec u.name.text)) e)) (Contains-first (u.name.at, 11) [])))

module _ (spec : Spec) where
  pub uses_sound : (at n : ℕ) → IsListed (use_faults spec) at n → IsFault spec at n
  unfolding use_faults
  uses_sound at n c =
      let of = Contains-from_flat_map (all_of_use spec) (uses spec) (at, n) c in
      elim (Contains-append_cases (faults_of_use spec of.0) (misuse spec of.0) (at, n) of.2) [
        | inl three ↦ use_sound spec of.0 of.1 at n three
        | inr result ↦ misuse_sound spec of.0 of.1 at n result
      ]

  of_a_use : (u : Use) → Contains (uses spec) u → (at n : ℕ) → u.name.at ≡ at → IsListed (all_of_use spec u) u.name.at n → IsListed (use_faults spec) at n
  unfolding use_faults
  of_a_use u stands at n offset c =
      Contains-flat_map (all_of_use spec) (uses spec) u (at, n) stands (subst (λ (a : ℕ). IsListed (all_of_use spec u) a n) offset c)

  pub unknown_complete : (at : ℕ) → IsUnknown spec at → IsListed (use_faults spec) at 9
  unknown_complete at it = of_a_use it.use_of it.stands at 9 it.offset (of_three spec it.use_of 9 (use_unknown spec it.use_of it.unknown))

  pub arity_complete : (at : ℕ) → IsMiscounted spec at → IsListed (use_faults spec) at 10
  arity_complete at it = of_a_use it.use_of it.stands at 10 it.offset (of_three spec it.use_of 10 (use_miscounted spec it.use_of it.count it.has it.differs))

  pub assign_complete : (at : ℕ) → IsUnassignable spec at → IsListed (use_faults spec) at 11
  assign_complete at it = of_a_use it.use_of it.stands at 11 it.offset (of_three spec it.use_of 11 (use_unassignable spec it.use_of it.is_target it.known it.unassignable))

-- ---- 14

module _ (spec : Spec) where
  abbrev is_wrong : Name → Bool
  is_wrong x = not (can_be_main (declared spec x.text))

  unfit_sound : (x y : Name) → Contains (unfit_main_rules spec (x ∷ [])) y → (x ≡ y) × (can_be_main (declared spec x.text) ≡ false)
  unfit_sound x y c = next (is_wrong x) refl c
    where
      next : (b : Bool) → is_wrong x ≡ b → Contains (cond b (x ∷ []) []) y → (x ≡ y) × (can_be_main (declared spec x.text) ≡ false)
      next true e c = (the_only x y c, not-true (can_be_main (declared spec x.text)) e)
      next false e c = absurd (Contains-none y c)

  of_inits_sound : (xs : List Name) → inits spec ≡ xs → (at n : ℕ) → IsListed (faults_of_inits spec xs) at n → IsFault spec at n
  of_inits_sound [] e at n c = subst (λ f. IsFault spec f.0 f.1) (the_only (spec.length, 14) (at, n) c) (init (missing e refl))
  of_inits_sound (x ∷ more) e at n c =
      let unfit = map (λ y. y.at) (unfit_main_rules spec (x ∷ [])) in
      let others = map (λ y. y.at) more in
      elim (Contains-append_cases (at_with 14 unfit) (at_with 14 others) (at, n) c) [
        | inl first ↦
            let it = at_sound 14 unfit at n first in
            let of = Contains-from_map (λ y. y.at) (unfit_main_rules spec (x ∷ [])) at it.0 in
            let why = unfit_sound x of.0 of.1 in
            subst (IsFault spec at) it.1
            (init (no_start x (subst (λ ys. Contains ys x) (sym e) (Contains-first x more)) why.1 (ap (λ y. y.at) why.0 ∙ of.2)))
        | inr second ↦
            let it = at_sound 14 others at n second in
            let of = Contains-from_map (λ y. y.at) more at it.0 in
            subst (IsFault spec at) it.1 (init (another x more of.0 e of.1 of.2))
      ]

  pub inits_sound : (at n : ℕ) → IsListed (init_faults spec) at n → IsFault spec at n
  unfolding init_faults
  inits_sound at n c = of_inits_sound (inits spec) refl at n c

  among_more : (x : Name) (more : List Name) (y : Name) → Contains more y → IsListed (faults_of_inits spec (x ∷ more)) y.at 14
  among_more x more y c =
      Contains-append_right (at_with 14 (map (λ z. z.at) (unfit_main_rules spec (x ∷ [])))) (at_with 14 (map (λ z. z.at) more)) (y.at, 14)
      (at_complete 14 (map (λ z. z.at) more) y.at (Contains-map (λ z. z.at) more y c))

  no_start_listed : (xs : List Name) (x : Name) → Contains xs x → can_be_main (declared spec x.text) ≡ false → IsListed (faults_of_inits spec xs) x.at 14
  no_start_listed [] x c h = absurd (Contains-none x c)
  no_start_listed (y ∷ more) x c h =
      elim (Contains-cons_cases y more x c) [
        | inl e ↦
            let wrong : is_wrong y ≡ true = not_from_false (can_be_main (declared spec y.text)) (ap (λ z. can_be_main (declared spec z.text)) e ∙ h) in
            let kept : Contains (unfit_main_rules spec (y ∷ [])) y = in_then (is_wrong y) (y ∷ []) [] y wrong (Contains-first y []) in
            Contains-append_left (at_with 14 (map (λ z. z.at) (unfit_main_rules spec (y ∷ [])))) (at_with 14 (map (λ z. z.at) more)) (x.at, 14)
            (at_complete 14 (map (λ z. z.at) (unfit_main_rules spec (y ∷ []))) x.at
            (subst (Contains (map (λ z. z.at) (unfit_main_rules spec (y ∷ [])))) (ap (λ z. z.at) e) (Contains-map (λ z. z.at) (unfit_main_rules spec (y ∷ [])) y kept)))
        | inr rest ↦ among_more y more x rest
      ]

  pub inits_complete : (at : ℕ) → IsBadInit spec at → IsListed (init_faults spec) at 14
  unfolding init_faults
  inits_complete at (another x more y e c offset) =
      subst (λ xs. IsListed (faults_of_inits spec xs) at 14) (sym e)
      (subst (λ (a : ℕ). IsListed (faults_of_inits spec (x ∷ more)) a 14) offset (among_more x more y c))
  inits_complete at (no_start x c h offset) = subst (λ (a : ℕ). IsListed (faults_of_inits spec (inits spec)) a 14) offset (no_start_listed (inits spec) x c h)
  inits_complete at (missing e offset) =
      subst (λ xs. IsListed (faults_of_inits spec xs) at 14) (sym e) (subst (λ (a : ℕ). IsListed ((spec.length, 14) ∷ []) a 14) offset (Contains-first (spec.length, 14) []))

-- ---- 15

module _ (spec : Spec) where
  passes_sound : (most : ℕ) (is_counted : Meaning → Bool) (adds : Meaning → ℕ) (before : List Declaration) (d : Declaration)
      → passes most is_counted adds before d ≡ true → Passes spec most is_counted adds before d
  passes_sound most is_counted adds before d h =
      let parts = and_parts (is_counted d.meaning) _ h in
      (parts.0, ltb-true most _ parts.1)

  passes_complete : (most : ℕ) (is_counted : Meaning → Bool) (adds : Meaning → ℕ) (before : List Declaration) (d : Declaration)
      → Passes spec most is_counted adds before d → passes most is_counted adds before d ≡ true
  passes_complete most is_counted adds before d (counted, above) = and_from (is_counted d.meaning) _ counted (lt-ltb most _ above)

  limit_sound : (before : List Declaration) (d : Declaration) → passes_limit spec before d ≡ true → PassesLimit spec before d
  limit_sound before d h =
      elim (or_cases _ _ h) [
        | inr r ↦ limits.rules (passes_sound MAX_RULES is_rule (λ m. 1) before d r)
        | inl h ↦ elim (or_cases _ _ h) [
          | inr s ↦ limits.static_lists (passes_sound MAX_STATIC_LISTS is_static (λ m. lists_of spec (domain_of m)) before d s)
          | inl h ↦ elim (or_cases _ _ h) [
            | inr l ↦ limits.locations (passes_sound MAX_LOCATIONS is_controlled (λ m. lists_of spec (domain_of m) + 1) before d l)
            | inl h ↦ elim (or_cases _ _ h) [
              | inr long ↦ limits.domain (ltb-true MAX_ARGUMENTS (length (domain_of d.meaning)) long)
              | inl h ↦ elim (or_cases _ _ h) [
                | inr f ↦ limits.functions (passes_sound MAX_FUNCTIONS is_function (λ m. 1) before d f)
                | inl h ↦ elim (or_cases _ _ h) [
                  | inr e ↦ limits.elements (ltb-true MAX_VALUES (size_of spec d.meaning) e)
                  | inl u ↦ limits.universes (passes_sound MAX_UNIVERSES is_universe (λ m. 1) before d u)
                ]
              ]
            ]
          ]
        ]
      ]

  -- the limits of ranks are faults of steps
  limit_complete : (before : List Declaration) (d : Declaration) → PassesLimit spec before d → (passes_limit spec before d ≡ true) ⊎ steps.IsTooHigh spec d
  limit_complete before d (limits.universes p) =
      inl (or_left _ _ (or_left _ _ (or_left _ _ (or_left _ _ (or_left _ _ (or_left _ _ (passes_complete MAX_UNIVERSES is_universe (λ m. 1) before d p)))))))
  limit_complete before d (limits.elements p) =
      inl (or_left _ _ (or_left _ _ (or_left _ _ (or_left _ _ (or_left _ _ (or_right _ _ (lt-ltb MAX_VALUES (size_of spec d.meaning) p)))))))
  limit_complete before d (limits.functions p) =
      inl (or_left _ _ (or_left _ _ (or_left _ _ (or_left _ _ (or_right _ _ (passes_complete MAX_FUNCTIONS is_function (λ m. 1) before d p))))))
  limit_complete before d (limits.domain p) = inl (or_left _ _ (or_left _ _ (or_left _ _ (or_right _ _ (lt-ltb MAX_ARGUMENTS (length (domain_of d.meaning)) p)))))
  limit_complete before d (limits.locations p) =
      inl (or_left _ _ (or_left _ _ (or_right _ _ (passes_complete MAX_LOCATIONS is_controlled (λ m. lists_of spec (domain_of m) + 1) before d p))))
  limit_complete before d (limits.static_lists p) =
      inl (or_left _ _ (or_right _ _ (passes_complete MAX_STATIC_LISTS is_static (λ m. lists_of spec (domain_of m)) before d p)))
  limit_complete before d (limits.rules p) = inl (or_right _ _ (passes_complete MAX_RULES is_rule (λ m. 1) before d p))
  limit_complete before d (limits.rule_rank way none) = inr (steps.rule_rank way none)
  limit_complete before d (limits.derived_rank way none) = inr (steps.derived_rank way none)

  pub limits_sound : (at n : ℕ) → IsListed (limit_faults spec) at n → IsFault spec at n
  unfolding limit_faults
  limits_sound at n c =
      let it = walk_sound (passes_limit spec) (λ d. d.name.at) 15 (limit_faults_from spec) (λ before. refl) (λ before d ds. refl) [] (first_declarations spec) at n c in
      subst (IsFault spec at) (sym it.0)
      (too_many (record {
        before = it.1.before;
        passing = it.1.it;
        after = it.1.after;
        parts = it.1.parts;
        passes = limit_sound it.1.before it.1.it it.1.holds;
        offset = it.1.is_at;
      }))

  pub limits_complete : (at : ℕ) → IsOverLimit spec at → IsListed (limit_faults spec) at 15 ⊎ IsStepFault spec at 15
  unfolding limit_faults
  limits_complete at it =
      elim (limit_complete it.before it.passing it.passes) [
        | inl holds ↦
            inl (subst (λ ds. IsListed (limit_faults_from spec [] ds) at 15) (sym it.parts)
            (subst (λ a. IsListed (limit_faults_from spec [] (it.before ++ it.passing ∷ it.after)) a 15) it.offset
            (walk_complete (passes_limit spec) (λ d. d.name.at) 15 (limit_faults_from spec) (λ before. refl) (λ before d ds. refl) [] it.before it.passing it.after holds)))
        | inr high ↦
            let stands : Contains (it.before ++ it.passing ∷ it.after) it.passing =
            Contains-append_right it.before (it.passing ∷ it.after) it.passing (Contains-first it.passing it.after) in
            inr (steps.too_high it.passing (subst (λ ds. Contains ds it.passing) (sym it.parts) stands) high it.offset)
      ]

-- ---- 16

module _ (spec : Spec) where
  abbrev given_tables : List (List Name × List Entry)
  given_tables = flat_map table_of spec.items

  abbrev faults_of_table : List Name × List Entry → List (ℕ × ℕ)
  faults_of_table t = bad_entries spec t.0 [] t.1

  pub entries_sound : (at n : ℕ) → IsListed (entry_faults spec) at n → IsFault spec at n
  unfolding entry_faults
  entries_sound at n c =
      let of = Contains-from_flat_map faults_of_table given_tables (at, n) c in
      let it = walk_sound (is_bad_entry spec of.0.0) (λ e. e.at) 16 (bad_entries spec of.0.0) (λ before. refl) (λ before e es. refl) [] of.0.1 at n of.2 in
      let parts = and_parts (list_all (is_known_use spec) (uses_of_entry it.1.it)) _ it.1.holds in
      subst (IsFault spec at) (sym it.0)
      (table_entry (record {
        domain = of.0.0;
        entries = of.0.1;
        stands = of.1;
        before = it.1.before;
        entry = it.1.it;
        after = it.1.after;
        parts = it.1.parts;
        known = parts.0;
        wrong = parts.1;
        offset = it.1.is_at;
      }))

  pub entries_complete : (at : ℕ) → IsBadEntry spec at → IsListed (entry_faults spec) at 16
  unfolding entry_faults
  entries_complete at it =
      let holds : is_bad_entry spec it.domain it.before it.entry ≡ true = and_from (list_all (is_known_use spec) (uses_of_entry it.entry)) _ it.known it.wrong in
      Contains-flat_map faults_of_table given_tables (it.domain, it.entries) (at, 16) it.stands
      (subst (λ es. IsListed (bad_entries spec it.domain [] es) at 16) (sym it.parts)
      (subst (λ a. IsListed (bad_entries spec it.domain [] (it.before ++ it.entry ∷ it.after)) a 16) it.offset
      (walk_complete (is_bad_entry spec it.domain) (λ e. e.at) 16 (bad_entries spec it.domain) (λ before. refl) (λ before e es. refl) [] it.before it.entry it.after holds)))

-- ---- 17 of main rules

module _ (spec : Spec) where
  -- what is after `init`
  init_item : (items : List Item) (x : Name) → Contains (filter_map init_of items) x → Contains items (source.Init x)
  init_item [] x c = absurd (Contains-none x c)
  init_item (item ∷ items) x c = by_item item (init_item items x) c
    where
      by_item : (item : Item) → (Contains (filter_map init_of items) x → Contains items (source.Init x)) → Contains (filter_map init_of (item ∷ items)) x → Contains (item ∷ items) (source.Init x)
      by_item (source.Init y) behind c =
          elim (Contains-cons_cases y (filter_map init_of items) x c) [
            | inl same ↦ subst (λ z. Contains (source.Init y ∷ items) (source.Init z)) same (Contains-first (source.Init y) items)
            | inr rest ↦ Contains-later (source.Init y) items (source.Init x) (behind rest)
          ]
      by_item item behind c = Contains-later item items (source.Init x) (behind c)

  item_init : (items : List Item) (x : Name) → Contains items (source.Init x) → Contains (filter_map init_of items) x
  item_init [] x c = absurd (Contains-none (source.Init x) c)
  item_init (item ∷ items) x c =
      elim (Contains-cons_cases item items (source.Init x) c) [
        | inl same ↦ subst (λ i. Contains (filter_map init_of (i ∷ items)) x) (sym same) (Contains-first x (filter_map init_of items))
        | inr rest ↦ later item (item_init items x rest)
      ]
    where
      later : (item : Item) → Contains (filter_map init_of items) x → Contains (filter_map init_of (item ∷ items)) x
      later (source.Init y) c = Contains-later y (filter_map init_of items) x c
      later item c = c

  start_sound : (item : Item) → Contains spec.items item → (at n : ℕ) → IsListed (main_rule_with_result spec item) at n → IsFault spec at n
  start_sound (source.Init x) stands at n c = by_test (has_result_in_body (declared spec x.text)) refl c
    where
      by_test : (b : Bool) → has_result_in_body (declared spec x.text) ≡ b → IsListed (cond b ((x.at, 17) ∷ []) []) at n → IsFault spec at n
      by_test true e c = subst (λ f. IsFault spec f.0 f.1) (the_only (x.at, 17) (at, n) c) (result_use (start x (item_init spec.items x stands) e refl))
      by_test false e c = absurd (Contains-none (at, n) c)
  start_sound item stands at n c = absurd (Contains-none (at, n) c)

  pub starts_sound : (at n : ℕ) → IsListed (main_rules_with_result spec) at n → IsFault spec at n
  unfolding main_rules_with_result
  starts_sound at n c = let of = Contains-from_flat_map (main_rule_with_result spec) spec.items (at, n) c in start_sound of.0 of.1 at n of.2

  start_listed : (x : Name) → Contains (inits spec) x → has_result_in_body (declared spec x.text) ≡ true → IsListed (main_rules_with_result spec) x.at 17
  unfolding main_rules_with_result
  start_listed x c so =
      Contains-flat_map (main_rule_with_result spec) spec.items (source.Init x) (x.at, 17) (init_item spec.items x c)
      (in_then (has_result_in_body (declared spec x.text)) ((x.at, 17) ∷ []) [] (x.at, 17) so (Contains-first (x.at, 17) []))

  pub results_complete : (at : ℕ) → IsResultUse spec at → IsListed (use_faults spec) at 17 ⊎ IsListed (main_rules_with_result spec) at 17
  results_complete at (outside u stands role free offset) = inl (of_a_use spec u stands at 17 offset (use_outside spec u role free))
  results_complete at (plain_call u stands role so offset) = inl (of_a_use spec u stands at 17 offset (use_plain spec u role so))
  results_complete at (start x c so offset) = inr (subst (λ (a : ℕ). IsListed (main_rules_with_result spec) a 17) offset (start_listed x c so))

-- ---- 12, 13, and 15 by ranks

pub steps_sound : (spec : Spec) (at n : ℕ) → IsStepFault spec at n → IsFault spec at n
steps_sound spec at n (steps.cyclic_rule it) = cyclic_rule it
steps_sound spec at n (steps.cyclic_derived it) = cyclic_derived it
steps_sound spec at n (steps.too_high d stands high offset) =
    let it = split (first_declarations spec) d stands in
    too_many (record { before = it.0; passing = d; after = it.1; parts = it.2; passes = high_passes it.0 high; offset = offset })
  where
    high_passes : (before : List Declaration) → steps.IsTooHigh spec d → PassesLimit spec before d
    high_passes before (steps.rule_rank way none) = limits.rule_rank way none
    high_passes before (steps.derived_rank way none) = limits.derived_rank way none
