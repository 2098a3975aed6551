-- Free. A well-formed specification passes no limit.
use Rattle.std.proofs.Common.{◌≡◌, ℕ, ◌+◌, ◌<◌, ◌≤◌, Bool, true, false, cond, List, [], ◌∷◌, ◌++◌, map, length, refl, sym, ap, subst, ◌∙◌, inl, inr, arith, append_assoc, append-nil}
use Rattle.std.specs.Prelude.{Contains, filter, sum_by}
use Rattle.std.proofs.lemmas.Bool.{cases_lt}
use Rattle.std.proofs.lemmas.List.{map-append}
use Rattle.std.proofs.lemmas.List.Elements.{filter-append}
use Rattle.asm_state.specs.declared.signature_limits.TheConstants.{MAX_UNIVERSES, MAX_VALUES, MAX_FUNCTIONS, MAX_ARGUMENTS, MAX_LOCATIONS, MAX_STATIC_LISTS}
use Rattle.asm_syntax.specs.SourceTree.{Spec}
use Rattle.asm_check.specs.declared.limits.limit_faults.TheConstants.{MAX_RULES}
use Rattle.asm_check.specs.Names.{Declaration, Meaning, first_declarations}
use Rattle.asm_check.specs.Limits.{is_universe, is_function, is_controlled, is_static, is_rule, size_of, domain_of, lists_of, Passes, PassesLimit, universes, elements, functions, domain, locations, static_lists, rules}
use Rattle.asm_check.specs.Faults.{too_many}
use Rattle.asm_check.specs.WithinLimits.{total}
use Rattle.asm_check.specs.Laws.{LimitsHold}
use Rattle.asm_check.proofs.CycleLemmas.HeightsAreRanks.{split}

module _ (spec : Spec) (most : ℕ) (is_counted : Meaning → Bool) (adds : Meaning → ℕ) where
  same_total : (done : List Declaration) (d : Declaration) → is_counted d.meaning ≡ false → total is_counted adds (done ++ d ∷ []) ≡ total is_counted adds done
  same_total done d out =
      ap (sum_by adds)
      (ap (filter is_counted) (map-append (λ c. c.meaning) done (d ∷ []))
      ∙ filter-append is_counted (map (λ c. c.meaning) done) (d.meaning ∷ [])
      ∙ ap (λ b. filter is_counted (map (λ c. c.meaning) done) ++ cond b (d.meaning ∷ []) []) out
      ∙ append-nil (filter is_counted (map (λ c. c.meaning) done)))

  stays_below : (done rest : List Declaration)
      → ((before after : List Declaration) (d : Declaration) → done ++ rest ≡ before ++ d ∷ after → ¬ (Passes spec most is_counted adds before d))
      → total is_counted adds done ≤ most → total is_counted adds (done ++ rest) ≤ most
  stays_below done [] h low = subst (λ ds. total is_counted adds ds ≤ most) (sym (append-nil done)) low
  stays_below done (d ∷ rest) h low =
      let regroup : (done ++ d ∷ []) ++ rest ≡ done ++ d ∷ rest = append_assoc done (d ∷ []) rest in
      subst (λ ds. total is_counted adds ds ≤ most) regroup
      (stays_below (done ++ d ∷ []) rest (λ before after c parts. h before after c (sym regroup ∙ parts)) (next (is_counted d.meaning) refl))
    where
      next : (b : Bool) → is_counted d.meaning ≡ b → total is_counted adds (done ++ d ∷ []) ≤ most
      next true e = elim (cases_lt most (total is_counted adds (done ++ d ∷ []))) [ inl above ↦ absurd (h done rest d refl (e, above)) | inr below ↦ below ]
      next false e = subst (λ n. n ≤ most) (sym (same_total done d e)) low

pub limits_hold : LimitsHold
limits_hold spec good = record {
  universes = stays_below spec MAX_UNIVERSES is_universe (λ m. 1) [] ds (λ b a d e p. never b a d e (universes p)) (omega arith);
  elements = λ d c. small d c (size_of spec d.meaning) MAX_VALUES (λ p before. elements p);
  functions = stays_below spec MAX_FUNCTIONS is_function (λ m. 1) [] ds (λ b a d e p. never b a d e (functions p)) (omega arith);
  domains = λ d c. small d c (length (domain_of d.meaning)) MAX_ARGUMENTS (λ p before. domain p);
  locations = stays_below spec MAX_LOCATIONS is_controlled (λ m. lists_of spec (domain_of m) + 1) [] ds (λ b a d e p. never b a d e (locations p)) (omega arith);
  static_lists = stays_below spec MAX_STATIC_LISTS is_static (λ m. lists_of spec (domain_of m)) [] ds (λ b a d e p. never b a d e (static_lists p)) (omega arith);
  rules = stays_below spec MAX_RULES is_rule (λ m. 1) [] ds (λ b a d e p. never b a d e (rules p)) (omega arith);
}
  where
    ds : List Declaration
    ds = first_declarations spec

    never : (before after : List Declaration) (d : Declaration) → first_declarations spec ≡ before ++ d ∷ after → ¬ (PassesLimit spec before d)
    never before after d parts passes = good d.name.at 15 (too_many (record { before = before; passing = d; after = after; parts = parts; passes = passes; offset = refl }))

    small : (d : Declaration) → Contains (first_declarations spec) d → (n most : ℕ) → (most < n → (before : List Declaration) → PassesLimit spec before d) → n ≤ most
    small d c n most passes =
        elim (cases_lt most n) [ inl above ↦ let it = split (first_declarations spec) d c in absurd (never it.0 it.1 d it.2 (passes above it.0)) | inr below ↦ below ]
