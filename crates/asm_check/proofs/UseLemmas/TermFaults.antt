-- Free. The list of the faults of the uses in a term is the faults of the term.
--     role_in_term      a use in a term has one of three roles
--     term_soonest      the least of the list is the least fault
use Rattle.std.proofs.Common.{◌≡◌, ◌≢◌, ◌⊎◌, ℕ, Bool, true, false, cond, nat_eq, List, [], ◌∷◌, ◌++◌, Option, Some, None, refl, sym, ap, subst, ◌∙◌, inl, inr}
use Rattle.std.specs.Prelude.{Contains, flat_map}
use Rattle.std.proofs.lemmas.Bool.{true≢false, eqb-false, ne_eqb}
use Rattle.std.proofs.lemmas.List.Elements.{Contains-append_cases}
use Rattle.asm_state.proofs.Lists.{Contains-cons_cases, Contains-first, Contains-flat_map, Contains-from_flat_map, Contains-none}
use Rattle.asm_syntax.specs.SourceTree.{Term, Constant, Named, Chain, Not, Negative, Exists, Every, Result, Terms, no_terms, term_then, Links, no_links, link_then, Spec}
use Rattle.asm_check.specs.Names as names
use Rattle.asm_check.specs.Names.{Text, Meaning, Role, InTerm, AsTarget, AsRule, AsAnswering, AsUniverse, AsCodomain, AsElement, AsResult, Use, use_of, plain_use, term_count, uses_of_term, uses_of_terms, uses_of_links, is_known, arguments_of, declared}
use Rattle.asm_check.specs.Faults.{is_known_use}
use Rattle.asm_check.specs.TermFaults.{uses_in, IsTermFault, unknown, arity, result_use}
use Rattle.asm_check.specs.code.LeastFaults.{IsLeastOf, least_after}
use Rattle.asm_check.specs.code.uses.TermFaultLists.{wrong_count, wrong_in, wrong_in_term, at_offset, faults_in_term}
use Rattle.asm_check.proofs.LeastOfAllFaults.{soonest_of_list}
use Rattle.asm_check.proofs.MembersOfLists.{IsListed, the_only}

-- ---- roles

abbrev pub IsInTerm : Role → Type 0
IsInTerm r = (r ≡ InTerm) ⊎ ((r ≡ AsUniverse) ⊎ (r ≡ AsResult))

abbrev AreInTerm : List Use → Type 0
AreInTerm us = (u : Use) → Contains us u → IsInTerm u.role

one_more : (u : Use) (us : List Use) → IsInTerm u.role → AreInTerm us → AreInTerm (u ∷ us)
one_more u us own rest v c =
    elim (Contains-cons_cases u us v c) [
      | inl same ↦ subst (λ (w : Use). IsInTerm w.role) same own
      | inr it ↦ rest v it
    ]

both : (us vs : List Use) → AreInTerm us → AreInTerm vs → AreInTerm (us ++ vs)
both us vs left right v c = elim (Contains-append_cases us vs v c) [ inl l ↦ left v l | inr r ↦ right v r ]

none : AreInTerm []
none v c = absurd (Contains-none v c)

mutual
  in_term : (t : Term) (bound : List Text) → AreInTerm (uses_of_term t bound)
  in_term (Constant v) bound = none
  in_term (Named x ts) bound = one_more (use_of InTerm x (term_count ts) bound) (uses_of_terms ts bound) (inl refl) (in_terms ts bound)
  in_term (Chain t links) bound = both (uses_of_term t bound) (uses_of_links links bound) (in_term t bound) (in_links links bound)
  in_term (Not t) bound = in_term t bound
  in_term (Negative t) bound = in_term t bound
  in_term (Exists x over t) bound = one_more (plain_use AsUniverse over) (uses_of_term t (x.text ∷ bound)) (inr (inl refl)) (in_term t (x.text ∷ bound))
  in_term (Every x over t) bound = one_more (plain_use AsUniverse over) (uses_of_term t (x.text ∷ bound)) (inr (inl refl)) (in_term t (x.text ∷ bound))
  in_term (Result x) bound = one_more (use_of AsResult x 0 bound) [] (inr (inr refl)) none

  in_terms : (ts : Terms) (bound : List Text) → AreInTerm (uses_of_terms ts bound)
  in_terms no_terms bound = none
  in_terms (term_then t ts) bound = both (uses_of_term t bound) (uses_of_terms ts bound) (in_term t bound) (in_terms ts bound)

  in_links : (links : Links) (bound : List Text) → AreInTerm (uses_of_links links bound)
  in_links no_links bound = none
  in_links (link_then o t links) bound = both (uses_of_term t bound) (uses_of_links links bound) (in_term t bound) (in_links links bound)

pub role_in_term : (t : Term) (u : Use) → Contains (uses_in t) u → IsInTerm u.role
role_in_term t = in_term t []

-- ---- what is known, and how many arguments it has

unknown_uncounted : (b : Bool) (m : Option Meaning) → is_known InTerm b m ≡ false → arguments_of InTerm b m ≡ None
unknown_uncounted true m h = absurd (true≢false h)
unknown_uncounted false None h = refl
unknown_uncounted false (Some names.Predeclared) h = refl
unknown_uncounted false (Some (names.Range first last)) h = refl
unknown_uncounted false (Some (names.Enumeration k)) h = refl
unknown_uncounted false (Some (names.NamedRule xs P)) h = refl
unknown_uncounted false (Some m) h = absurd (true≢false h)

uncounted_unknown : (b : Bool) (m : Option Meaning) → arguments_of InTerm b m ≡ None → is_known InTerm b m ≡ false
uncounted_unknown true m h = cc
uncounted_unknown false None h = refl
uncounted_unknown false (Some names.Predeclared) h = refl
uncounted_unknown false (Some (names.Range first last)) h = refl
uncounted_unknown false (Some (names.Enumeration k)) h = refl
uncounted_unknown false (Some (names.Element k)) h = cc
uncounted_unknown false (Some (names.Controlled domain)) h = cc
uncounted_unknown false (Some (names.Static domain)) h = cc
uncounted_unknown false (Some (names.Derived xs t)) h = cc
uncounted_unknown false (Some (names.NamedRule xs P)) h = refl

-- no binder is looked at for a universe
universe_alike : (b : Bool) (m : Option Meaning) → is_known AsUniverse b m ≡ is_known AsUniverse false m
universe_alike b None = refl
universe_alike b (Some names.Predeclared) = refl
universe_alike b (Some (names.Range first last)) = refl
universe_alike b (Some (names.Enumeration k)) = refl
universe_alike b (Some (names.Element k)) = refl
universe_alike b (Some (names.Controlled domain)) = refl
universe_alike b (Some (names.Static domain)) = refl
universe_alike b (Some (names.Derived xs t)) = refl
universe_alike b (Some (names.NamedRule xs P)) = refl

-- ---- one use

module _ (spec : Spec) (t : Term) (u : Use) (stands : Contains (uses_in t) u) where
  abbrev m : Option Meaning
  m = declared spec u.name.text

  abbrev IsOwn : ℕ → Type 0
  IsOwn k = IsTermFault spec t u.name.at k

  its : (j k : ℕ) → IsOwn j → ◌≡◌ {A = Option ℕ} (Some j) (Some k) → IsOwn k
  its j k own is = let same : j ≡ k = cc in subst IsOwn same own

  miscounted : u.role ≡ InTerm → (n k : ℕ) → arguments_of InTerm u.is_bound m ≡ Some n → wrong_count (Some n) u.count ≡ Some k → IsOwn k
  miscounted role n k has is = by (nat_eq u.count n) refl is
    where
      by : (b : Bool) → nat_eq u.count n ≡ b → cond b None (Some 10) ≡ Some k → IsOwn k
      by true e is = cc
      by false e is = its 10 k (arity u stands n (ap (λ r. arguments_of r u.is_bound m) role ∙ has) (eqb-false u.count n e) refl) is

  counted : u.role ≡ InTerm → (o : Option ℕ) (k : ℕ) → arguments_of InTerm u.is_bound m ≡ o → wrong_count o u.count ≡ Some k → IsOwn k
  counted role None k has is = its 9 k (unknown u stands (ap (λ r. is_known r u.is_bound m) role ∙ uncounted_unknown u.is_bound m has) refl) is
  counted role (Some n) k has is = miscounted role n k has is

  of_universe : u.role ≡ AsUniverse → (b : Bool) (k : ℕ) → is_known AsUniverse false m ≡ b → cond b None (Some 9) ≡ Some k → IsOwn k
  of_universe role true k e is = cc
  of_universe role false k e is = its 9 k (unknown u stands (ap (λ r. is_known r u.is_bound m) role ∙ universe_alike u.is_bound m ∙ e) refl) is

  of_result : u.role ≡ AsResult → (b : Bool) (k : ℕ) → u.is_bound ≡ b → cond b None (Some 17) ≡ Some k → IsOwn k
  of_result role true k e is = cc
  of_result role false k e is = its 17 k (result_use u stands role e refl) is

  wrong_so : (r : Role) (k : ℕ) → u.role ≡ r → wrong_in r u.is_bound u.count m ≡ Some k → IsOwn k
  wrong_so InTerm k role is = counted role (arguments_of InTerm u.is_bound m) k refl is
  wrong_so AsUniverse k role is = of_universe role (is_known AsUniverse false m) k refl is
  wrong_so AsResult k role is = of_result role u.is_bound k refl is
  wrong_so AsTarget k role is = cc
  wrong_so AsRule k role is = cc
  wrong_so AsAnswering k role is = cc
  wrong_so AsCodomain k role is = cc
  wrong_so AsElement k role is = cc

  listed_so : (o : Option ℕ) → wrong_in_term spec u ≡ o → (at n : ℕ) → IsListed (at_offset u.name.at o) at n → IsTermFault spec t at n
  listed_so None is at n c = absurd (Contains-none (at, n) c)
  listed_so (Some k) is at n c = subst (λ f. IsTermFault spec t f.0 f.1) (the_only (u.name.at, k) (at, n) c) (wrong_so u.role k refl is)

  -- ---- and back

  in_role : (r : Role) → u.role ≡ r → wrong_in_term spec u ≡ wrong_in r u.is_bound u.count m
  in_role r role = ap (λ r. wrong_in r u.is_bound u.count m) role

  unknown_wrong : is_known_use spec u ≡ false → IsInTerm u.role → wrong_in_term spec u ≡ Some 9
  unknown_wrong no' (inl role) =
      in_role InTerm role ∙ ap (λ o. wrong_count o u.count) (unknown_uncounted u.is_bound m (sym (ap (λ r. is_known r u.is_bound m) role) ∙ no'))
  unknown_wrong no' (inr (inl role)) =
      in_role AsUniverse role ∙ ap (λ b. cond b None (Some 9)) (sym (universe_alike u.is_bound m) ∙ sym (ap (λ r. is_known r u.is_bound m) role) ∙ no')
  unknown_wrong no' (inr (inr role)) = absurd (true≢false (sym (ap (λ r. is_known r u.is_bound m) role) ∙ no'))

  miscounted_wrong : (n : ℕ) → arguments_of u.role u.is_bound m ≡ Some n → u.count ≢ n → IsInTerm u.role → wrong_in_term spec u ≡ Some 10
  miscounted_wrong n has differs (inl role) =
      in_role InTerm role ∙ ap (λ o. wrong_count o u.count) (sym (ap (λ r. arguments_of r u.is_bound m) role) ∙ has) ∙ ap (λ b. cond b None (Some 10)) (ne_eqb u.count n differs)
  miscounted_wrong n has differs (inr (inl role)) = let bad : None ≡ Some n = sym (ap (λ r. arguments_of r u.is_bound m) role) ∙ has in cc
  miscounted_wrong n has differs (inr (inr role)) = let bad : None ≡ Some n = sym (ap (λ r. arguments_of r u.is_bound m) role) ∙ has in cc

  result_wrong : u.role ≡ AsResult → u.is_bound ≡ false → wrong_in_term spec u ≡ Some 17
  result_wrong role free = in_role AsResult role ∙ ap (λ b. cond b None (Some 17)) free

-- ---- all uses

module _ (spec : Spec) (t : Term) where
  abbrev pub all_listed : List (ℕ × ℕ)
  all_listed = flat_map (faults_in_term spec) (uses_in t)

  sound : (at n : ℕ) → IsListed all_listed at n → IsTermFault spec t at n
  sound at n c =
      let of = Contains-from_flat_map (faults_in_term spec) (uses_in t) (at, n) c in
      listed_so spec t of.0 of.1 (wrong_in_term spec of.0) refl at n of.2

  listed : (u : Use) → Contains (uses_in t) u → (at n : ℕ) → u.name.at ≡ at → wrong_in_term spec u ≡ Some n → IsListed all_listed at n
  listed u stands at n offset wrong =
      Contains-flat_map (faults_in_term spec) (uses_in t) u (at, n) stands
      (subst (λ (a : ℕ). IsListed (faults_in_term spec u) a n) offset
      (subst (λ o. IsListed (at_offset u.name.at o) u.name.at n) (sym wrong) (Contains-first (u.name.at, n) [])))

  complete : (at n : ℕ) → IsTermFault spec t at n → IsListed all_listed at n
  complete at n (unknown u stands no' offset) = listed u stands at 9 offset (unknown_wrong spec t u stands no' (role_in_term t u stands))
  complete at n (arity u stands k has differs offset) = listed u stands at 10 offset (miscounted_wrong spec t u stands k has differs (role_in_term t u stands))
  complete at n (result_use u stands role free offset) = listed u stands at 17 offset (result_wrong spec t u stands role free)

  pub term_soonest : (found : Option (ℕ × ℕ)) → found ≡ least_after None all_listed → IsLeastOf (IsTermFault spec t) found
  term_soonest found e = subst (IsLeastOf (IsTermFault spec t)) (sym e) (soonest_of_list (IsTermFault spec t) all_listed sound complete)
