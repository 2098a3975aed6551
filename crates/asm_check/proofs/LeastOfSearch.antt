-- Free. What the whole search has found is the least of all faults.
use Rattle.std.proofs.Common.{◌≡◌, ◌⊎◌, ℕ, List, ◌++◌, Option, None, sym, ap, subst, ◌∙◌, inl, inr}
use Rattle.std.proofs.lemmas.List.Elements.{Contains-append_left, Contains-append_right, Contains-append_cases}
use Rattle.asm_syntax.specs.SourceTree.{Spec}
use Rattle.asm_check.specs.Faults.{IsFault, twice, unknown, arity, not_controlled, cyclic_rule, cyclic_derived, init, too_many, table_entry, result_use}
use Rattle.asm_check.specs.code.FaultLists.{twice_faults, use_faults, init_faults, limit_faults, entry_faults, main_rules_with_result}
use Rattle.asm_check.specs.code.LeastFaults.{IsLeastOf, IsLeastWith, least_after}
use Rattle.asm_check.specs.code.cycles.StepFaults as steps
use Rattle.asm_check.specs.code.cycles.StepFaults.{IsStepFault}
use Rattle.asm_check.proofs.FaultLists.{twice_sound, twice_complete, uses_sound, unknown_complete, arity_complete, assign_complete, inits_sound, inits_complete, limits_sound, limits_complete, entries_sound, entries_complete, starts_sound, results_complete, steps_sound}
use Rattle.asm_check.proofs.MembersOfLists.{IsListed}
use Rattle.asm_check.proofs.LeastSoFar.{noted_append}
use Rattle.asm_check.proofs.LeastOfAllFaults.{soonest_same, soonest_of_list, soonest_with}

either : (xs ys : List (ℕ × ℕ)) (P : ℕ → ℕ → Type 0) → ((at n : ℕ) → IsListed xs at n → P at n) → ((at n : ℕ) → IsListed ys at n → P at n)
    → (at n : ℕ) → IsListed (xs ++ ys) at n → P at n
either xs ys P left right at n c = elim (Contains-append_cases xs ys (at, n) c) [ inl l ↦ left at n l | inr r ↦ right at n r ]

module _ (spec : Spec) where
  abbrev from_entries : List (ℕ × ℕ)
  from_entries = entry_faults spec

  abbrev from_limits : List (ℕ × ℕ)
  from_limits = limit_faults spec ++ from_entries

  abbrev from_uses : List (ℕ × ℕ)
  from_uses = use_faults spec ++ from_limits

  abbrev from_starts : List (ℕ × ℕ)
  from_starts = main_rules_with_result spec ++ from_uses

  abbrev from_inits : List (ℕ × ℕ)
  from_inits = init_faults spec ++ from_starts

  abbrev pub listed : List (ℕ × ℕ)
  listed = twice_faults spec ++ from_inits

  pub listed_sound : (at n : ℕ) → IsListed listed at n → IsFault spec at n
  listed_sound =
      either (twice_faults spec) from_inits (IsFault spec) (twice_sound spec)
      (either (init_faults spec) from_starts (IsFault spec) (inits_sound spec)
      (either (main_rules_with_result spec) from_uses (IsFault spec) (starts_sound spec)
      (either (use_faults spec) from_limits (IsFault spec) (uses_sound spec)
      (either (limit_faults spec) from_entries (IsFault spec) (limits_sound spec) (entries_sound spec)))))

  of_inits : (at n : ℕ) → IsListed from_inits at n → IsListed listed at n
  of_inits at n c = Contains-append_right (twice_faults spec) from_inits (at, n) c

  of_starts : (at n : ℕ) → IsListed from_starts at n → IsListed listed at n
  of_starts at n c = of_inits at n (Contains-append_right (init_faults spec) from_starts (at, n) c)

  of_uses : (at n : ℕ) → IsListed from_uses at n → IsListed listed at n
  of_uses at n c = of_starts at n (Contains-append_right (main_rules_with_result spec) from_uses (at, n) c)

  of_limits : (at n : ℕ) → IsListed from_limits at n → IsListed listed at n
  of_limits at n c = of_uses at n (Contains-append_right (use_faults spec) from_limits (at, n) c)

  a_use : (at n : ℕ) → IsListed (use_faults spec) at n → IsListed listed at n
  a_use at n c = of_uses at n (Contains-append_left (use_faults spec) from_limits (at, n) c)

  pub listed_complete : (at n : ℕ) → IsFault spec at n → IsListed listed at n ⊎ IsStepFault spec at n
  listed_complete at n (twice it) = inl (Contains-append_left (twice_faults spec) from_inits (at, 8) (twice_complete spec at it))
  listed_complete at n (unknown it) = inl (a_use at 9 (unknown_complete spec at it))
  listed_complete at n (arity it) = inl (a_use at 10 (arity_complete spec at it))
  listed_complete at n (not_controlled it) = inl (a_use at 11 (assign_complete spec at it))
  listed_complete at n (cyclic_rule it) = inr (steps.cyclic_rule it)
  listed_complete at n (cyclic_derived it) = inr (steps.cyclic_derived it)
  listed_complete at n (init it) = inl (of_inits at 14 (Contains-append_left (init_faults spec) from_starts (at, 14) (inits_complete spec at it)))
  listed_complete at n (too_many it) =
      elim (limits_complete spec at it) [ inl c ↦ inl (of_limits at 15 (Contains-append_left (limit_faults spec) from_entries (at, 15) c)) | inr high ↦ inr high ]
  listed_complete at n (table_entry it) = inl (of_limits at 16 (Contains-append_right (limit_faults spec) from_entries (at, 16) (entries_complete spec at it)))
  listed_complete at n (result_use it) =
      elim (results_complete spec at it) [
        | inl c ↦ inl (a_use at 17 c)
        | inr c ↦ inl (of_starts at 17 (Contains-append_left (main_rules_with_result spec) from_uses (at, 17) c))
      ]

  noted_all : (one two three four five six seven : Option (ℕ × ℕ)) → one ≡ None → two ≡ least_after one (twice_faults spec) → three ≡ least_after two (init_faults spec)
      → four ≡ least_after three (main_rules_with_result spec) → five ≡ least_after four (use_faults spec) → six ≡ least_after five (limit_faults spec) → seven ≡ least_after six (entry_faults spec)
      → seven ≡ least_after None listed
  noted_all one two three four five six seven e f g h i j k =
      k ∙ ap (λ o. least_after o from_entries) j ∙ sym (noted_append five (limit_faults spec) from_entries) ∙ ap (λ o. least_after o from_limits) i
      ∙ sym (noted_append four (use_faults spec) from_limits) ∙ ap (λ o. least_after o from_uses) h ∙ sym (noted_append three (main_rules_with_result spec) from_uses)
      ∙ ap (λ o. least_after o from_starts) g ∙ sym (noted_append two (init_faults spec) from_starts)
      ∙ ap (λ o. least_after o from_inits) f ∙ sym (noted_append one (twice_faults spec) from_inits) ∙ ap (λ o. least_after o listed) e

  pub all_found : (before after : Option (ℕ × ℕ)) → before ≡ least_after None listed → IsLeastWith (IsStepFault spec) before after → IsLeastOf (IsFault spec) after
  all_found before after e it =
      soonest_same (λ at n. IsListed listed at n ⊎ IsStepFault spec at n) (IsFault spec) after
      (λ at n o. elim o [ inl c ↦ listed_sound at n c | inr step ↦ steps_sound spec at n step ]) listed_complete
      (soonest_with (IsStepFault spec) (IsListed listed) before after
      (subst (IsLeastOf (IsListed listed)) (sym e) (soonest_of_list (IsListed listed) listed (λ at n c. c) (λ at n c. c))) it)

  -- the search goes on from one list to the next
  pub search_ends : (one two three four five six seven last : Option (ℕ × ℕ)) → one ≡ None → two ≡ least_after one (twice_faults spec) → three ≡ least_after two (init_faults spec)
      → four ≡ least_after three (main_rules_with_result spec) → five ≡ least_after four (use_faults spec) → six ≡ least_after five (limit_faults spec) → seven ≡ least_after six (entry_faults spec)
      → IsLeastWith (IsStepFault spec) seven last → IsLeastOf (IsFault spec) last
  search_ends one two three four five six seven last e f g h i j k it = all_found seven last (noted_all one two three four five six seven e f g h i j k) it
