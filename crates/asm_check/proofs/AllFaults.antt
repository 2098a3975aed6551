-- Free. All faults of a specification, as one list: so there is a least one, or none.
--     all_faults spec      the faults
--     first_fault spec     the least of them
use Rattle.std.proofs.Common.{suc, ◌≡◌, ◌⊎◌, ℕ, ◌≤◌, nat_le, Bool, true, false, cond, not, ◌&&◌, List, [], ◌∷◌, ◌++◌, map, Option, Some, None, refl, sym, ap, subst, inl, inr, arith, ◌∙◌}
use Rattle.std.specs.Prelude.{Contains, filter}
use Rattle.std.proofs.lemmas.Bool.{false≢true, and_parts, and_from, not-true, not_from_false, false_from_ne_true}
use Rattle.std.proofs.lemmas.Bool.Decides.{nat_tests}
use Rattle.std.proofs.lemmas.List.Elements.{Contains-append_left, Contains-append_right, Contains-append_cases}
use Rattle.asm_state.proofs.Lists.{Contains-cons_cases, Contains-first, Contains-from_map, Contains-later, Contains-map, Contains-none}
use Rattle.asm_syntax.specs.SourceTree.{Spec}
use Rattle.asm_check.specs.declared.cycles.step_faults.TheConstants.{MAX_RANK}
use Rattle.asm_check.specs.Faults.{IsFault, IsLeastFault, IsWellFormed, IsCyclic}
use Rattle.asm_check.specs.Laws.{LeastExists}
use Rattle.asm_check.specs.Names.{Text, Meaning, Declaration, first_declarations, declared}
use Rattle.asm_check.specs.Shapes.{texts_of}
use Rattle.asm_check.specs.code.LeastFaults.{IsLeastOf, least_after}
use Rattle.asm_check.specs.code.cycles.StepFaults as steps
use Rattle.asm_check.specs.code.cycles.StepFaults.{IsStepFault, IsTooHigh}
use Rattle.asm_check.specs.CallGraph.{called, used, ReachesCycle, BeginsPath, height}
use Rattle.asm_check.proofs.NameLemmas.FirstOfName.{first_is}
use Rattle.asm_check.proofs.LeastOfSearch.{listed, listed_sound, listed_complete}
use Rattle.asm_check.proofs.FaultLists.{steps_sound}
use Rattle.asm_check.proofs.CycleLemmas.HeightsAreRanks.{way, high, within}
use Rattle.asm_check.proofs.CycleLemmas.ReachabilityTest.{leads, leads_sound, leads_complete, reaches, reaches_sound, reaches_complete}
use Rattle.asm_check.proofs.LeastOfAllFaults.{soonest_of_list}
use Rattle.asm_check.proofs.MembersOfLists.{IsListed}
use Rattle.asm_check.proofs.CycleLemmas.Ranks.{in_filter, rules_begun, derived_begun}
use Rattle.asm_check.proofs.LeastOfTwo.{least_from_soonest, well_formed_from_soonest}

pub from_filter : {X : Type 0} (p : X → Bool) (xs : List X) (x : X) → Contains (filter p xs) x → Contains xs x × (p x ≡ true)
from_filter p [] x c = absurd (Contains-none x c)
from_filter p (y ∷ xs) x c = by_test (p y) refl c (from_filter p xs x)
  where
    by_test : (b : Bool) → p y ≡ b → Contains (cond b (y ∷ filter p xs) (filter p xs)) x → (Contains (filter p xs) x → Contains xs x × (p x ≡ true)) → Contains (y ∷ xs) x × (p x ≡ true)
    by_test true e c behind =
        elim (Contains-cons_cases y (filter p xs) x c) [
          | inl same ↦ (subst (Contains (y ∷ xs)) same (Contains-first y xs), subst (λ z. p z ≡ true) same e)
          | inr rest ↦ let it = behind rest in (Contains-later y xs x it.0, it.1)
        ]
    by_test false e c behind = let it = behind c in (Contains-later y xs x it.0, it.1)

-- ---- ways of steps, as tests

-- a way of n steps is there if the height up to n is n
is_long : (next : Text → List Text) (n : ℕ) (f : Text) → nat_le n (height next n f) ≡ true → BeginsPath next n f
is_long next n f e =
    let most = within next n f in
    let least : n ≤ height next n f = grind (arith, nat_tests, e) in
    subst (λ k. BeginsPath next k f) (omega (arith, most, least)) (way next n f)

long_is : (next : Text → List Text) (n : ℕ) (f : Text) → BeginsPath next n f → nat_le n (height next n f) ≡ true
long_is next n f it = let least = high next n n f (omega arith) it in grind (arith, nat_tests, least)

module _ (spec : Spec) (next : Text → List Text)
    (begun : (f g : Text) → Contains (next f) g → (m : Meaning) × (declared spec f ≡ Some m)) where
  abbrev pub names : List Text
  names = texts_of (first_declarations spec)

  -- a step leads from a declared name
  pub all_begin : (f g : Text) → Contains (next f) g → Contains names f
  all_begin f g c =
      let given = begun f g c in
      let first = first_is spec f given.0 given.1 in
      let stands : Contains (first_declarations spec) first.it = subst (λ ds. Contains ds first.it) (sym first.parts) (Contains-append_right first.before (first.it ∷ first.after) first.it (Contains-first first.it first.after)) in
      subst (Contains names) first.name (Contains-map (λ d. d.name.text) (first_declarations spec) first.it stands)

  -- ---- cycles

  abbrev pub cyclic : ℕ → List (ℕ × ℕ)
  cyclic number = map (λ d. (d.name.at, number)) (filter (λ d. leads next names d.name.text d.name.text) (first_declarations spec))

  pub cyclic_sound : (number at n : ℕ) → IsListed (cyclic number) at n → (n ≡ number) × IsCyclic spec next at
  cyclic_sound number at n c =
      let it = Contains-from_map (λ (d : Declaration). (d.name.at, number)) (filter (λ d. leads next names d.name.text d.name.text) (first_declarations spec)) (at, n) c in
      let member = from_filter (λ d. leads next names d.name.text d.name.text) (first_declarations spec) it.0 it.1 in (
        sym (ap (λ f. f.1) it.2),
        record { member = it.0; stands = member.0; back = leads_sound next names it.0.name.text it.0.name.text member.1; offset = ap (λ f. f.0) it.2 },
      )

  pub cyclic_complete : (number at : ℕ) → IsCyclic spec next at → IsListed (cyclic number) at number
  cyclic_complete number at it =
      subst (λ a. IsListed (cyclic number) a number) it.offset
      (Contains-map (λ (d : Declaration). (d.name.at, number)) (filter (λ d. leads next names d.name.text d.name.text) (first_declarations spec)) it.member
      (in_filter (λ d. leads next names d.name.text d.name.text) (first_declarations spec) it.member (leads_complete next names all_begin it.back) it.stands))

  -- ---- ranks

  abbrev pub is_high : Text → Bool
  is_high f = nat_le (suc MAX_RANK) (height next (suc MAX_RANK) f) && not (reaches next names all_begin f)

  abbrev pub high_faults : List (ℕ × ℕ)
  high_faults = map (λ d. (d.name.at, 15)) (filter (λ d. is_high d.name.text) (first_declarations spec))

  pub high_sound : (at n : ℕ) → IsListed high_faults at n → (n ≡ 15) × (d : Declaration) × Contains (first_declarations spec) d × BeginsPath next (suc MAX_RANK) d.name.text × (¬ (ReachesCycle next d.name.text)) × (d.name.at ≡ at)
  high_sound at n c =
      let it = Contains-from_map (λ (d : Declaration). (d.name.at, 15)) (filter (λ d. is_high d.name.text) (first_declarations spec)) (at, n) c in
      let member = from_filter (λ d. is_high d.name.text) (first_declarations spec) it.0 it.1 in
      let f = it.0.name.text in (
        sym (ap (λ f. f.1) it.2),
        it.0,
        member.0,
        is_long next (suc MAX_RANK) f (and_parts (nat_le (suc MAX_RANK) (height next (suc MAX_RANK) f)) (not (reaches next names all_begin f)) member.1).0,
        λ cycle. false≢true (sym (not-true (reaches next names all_begin f) (and_parts (nat_le (suc MAX_RANK) (height next (suc MAX_RANK) f)) (not (reaches next names all_begin f)) member.1).1) ∙ reaches_complete next names all_begin f cycle),
        ap (λ f. f.0) it.2,
      )

  pub high_complete : (d : Declaration) (at : ℕ) → Contains (first_declarations spec) d → BeginsPath next (suc MAX_RANK) d.name.text → ¬ (ReachesCycle next d.name.text) → d.name.at ≡ at → IsListed high_faults at 15
  high_complete d at stands long none offset =
      let f = d.name.text in
      subst (λ a. IsListed high_faults a 15) offset
      (Contains-map (λ (d : Declaration). (d.name.at, 15)) (filter (λ d. is_high d.name.text) (first_declarations spec)) d
      (in_filter (λ d. is_high d.name.text) (first_declarations spec) d
      (and_from (nat_le (suc MAX_RANK) (height next (suc MAX_RANK) f)) (not (reaches next names all_begin f)) (long_is next (suc MAX_RANK) f long)
      (not_from_false (reaches next names all_begin f) (false_from_ne_true (reaches next names all_begin f) (λ e. none (reaches_sound next names all_begin f e))))) stands))

-- ---- all faults

module _ (spec : Spec) where
  abbrev rule_cycles : List (ℕ × ℕ)
  rule_cycles = cyclic spec (called spec) (rules_begun spec) 12

  abbrev derived_cycles : List (ℕ × ℕ)
  derived_cycles = cyclic spec (used spec) (derived_begun spec) 13

  abbrev rule_ranks : List (ℕ × ℕ)
  rule_ranks = high_faults spec (called spec) (rules_begun spec)

  abbrev derived_ranks : List (ℕ × ℕ)
  derived_ranks = high_faults spec (used spec) (derived_begun spec)

  abbrev step_faults : List (ℕ × ℕ)
  step_faults = (rule_cycles ++ derived_cycles) ++ (rule_ranks ++ derived_ranks)

  abbrev pub all_faults : List (ℕ × ℕ)
  all_faults = listed spec ++ step_faults

  abbrev pub first_fault : Option (ℕ × ℕ)
  first_fault = least_after None all_faults

  cycles_sound : (at n : ℕ) → IsListed (rule_cycles ++ derived_cycles) at n → IsStepFault spec at n
  cycles_sound at n c =
      elim (Contains-append_cases rule_cycles derived_cycles (at, n) c) [
        | inl l ↦ let it = cyclic_sound spec (called spec) (rules_begun spec) 12 at n l in subst (IsStepFault spec at) (sym it.0) (steps.cyclic_rule it.1)
        | inr r ↦ let it = cyclic_sound spec (used spec) (derived_begun spec) 13 at n r in subst (IsStepFault spec at) (sym it.0) (steps.cyclic_derived it.1)
      ]

  ranks_sound : (at n : ℕ) → IsListed (rule_ranks ++ derived_ranks) at n → IsStepFault spec at n
  ranks_sound at n c =
      elim (Contains-append_cases rule_ranks derived_ranks (at, n) c) [
        | inl l ↦
            let it = high_sound spec (called spec) (rules_begun spec) at n l in
            subst (IsStepFault spec at) (sym it.0) (steps.too_high it.1 it.2 (steps.rule_rank it.3 it.4) it.5)
        | inr r ↦
            let it = high_sound spec (used spec) (derived_begun spec) at n r in
            subst (IsStepFault spec at) (sym it.0) (steps.too_high it.1 it.2 (steps.derived_rank it.3 it.4) it.5)
      ]

  all_sound : (at n : ℕ) → IsListed all_faults at n → IsFault spec at n
  all_sound at n c =
      elim (Contains-append_cases (listed spec) step_faults (at, n) c) [
        | inl l ↦ listed_sound spec at n l
        | inr r ↦ steps_sound spec at n (elim (Contains-append_cases (rule_cycles ++ derived_cycles) (rule_ranks ++ derived_ranks) (at, n) r) [ inl l ↦ cycles_sound at n l | inr h ↦ ranks_sound at n h ])
      ]

  a_cycle : (at n : ℕ) → IsListed (rule_cycles ++ derived_cycles) at n → IsListed step_faults at n
  a_cycle at n c = Contains-append_left (rule_cycles ++ derived_cycles) (rule_ranks ++ derived_ranks) (at, n) c

  a_rank : (at n : ℕ) → IsListed (rule_ranks ++ derived_ranks) at n → IsListed step_faults at n
  a_rank at n c = Contains-append_right (rule_cycles ++ derived_cycles) (rule_ranks ++ derived_ranks) (at, n) c

  steps_complete : (at n : ℕ) → IsStepFault spec at n → IsListed step_faults at n
  steps_complete at n (steps.cyclic_rule it) = a_cycle at 12 (Contains-append_left rule_cycles derived_cycles (at, 12) (cyclic_complete spec (called spec) (rules_begun spec) 12 at it))
  steps_complete at n (steps.cyclic_derived it) = a_cycle at 13 (Contains-append_right rule_cycles derived_cycles (at, 13) (cyclic_complete spec (used spec) (derived_begun spec) 13 at it))
  steps_complete at n (steps.too_high d stands (steps.rule_rank long none) offset) =
      a_rank at 15 (Contains-append_left rule_ranks derived_ranks (at, 15) (high_complete spec (called spec) (rules_begun spec) d at stands long none offset))
  steps_complete at n (steps.too_high d stands (steps.derived_rank long none) offset) =
      a_rank at 15 (Contains-append_right rule_ranks derived_ranks (at, 15) (high_complete spec (used spec) (derived_begun spec) d at stands long none offset))

  all_complete : (at n : ℕ) → IsFault spec at n → IsListed all_faults at n
  all_complete at n it =
      elim (listed_complete spec at n it) [
        | inl c ↦ Contains-append_left (listed spec) step_faults (at, n) c
        | inr step ↦ Contains-append_right (listed spec) step_faults (at, n) (steps_complete at n step)
      ]

  first_is_soonest : IsLeastOf (IsFault spec) first_fault
  first_is_soonest = soonest_of_list (IsFault spec) all_faults all_sound all_complete

  pub least_is : (at number : ℕ) → first_fault ≡ Some (at, number) → IsLeastFault spec at number
  least_is at number e = least_from_soonest spec at number (subst (IsLeastOf (IsFault spec)) e first_is_soonest)

  pub none_is : first_fault ≡ None → IsWellFormed spec
  none_is e = well_formed_from_soonest spec (subst (IsLeastOf (IsFault spec)) e first_is_soonest)

pub least_exists : LeastExists
least_exists spec = by_first (first_fault spec) refl
  where
    by_first : (found : Option (ℕ × ℕ)) → first_fault spec ≡ found → IsWellFormed spec ⊎ ((at : ℕ) × (number : ℕ) × IsLeastFault spec at number)
    by_first None e = inl (none_is spec e)
    by_first (Some (at, number)) e = inr (at, number, least_is spec at number e)
