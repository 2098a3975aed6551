-- Free. A well-formed specification has ranks.
use Rattle.std.proofs.Common.{suc, ◌≡◌, ◌≢◌, ◌⊎◌, ℕ, ◌<◌, Bool, true, false, cond, List, [], ◌∷◌, ◌++◌, map, Option, Some, None, refl, sym, ap, subst, ◌∙◌, inl, inr}
use Rattle.std.specs.Prelude.{Contains, filter}
use Rattle.std.proofs.lemmas.Bool.{false≢true}
use Rattle.std.proofs.lemmas.List.Elements.{Contains-append_left, Contains-append_right}
use Rattle.asm_state.proofs.Lists.{Contains-cons_cases, Contains-first, Contains-later, Contains-map, Contains-none}
use Rattle.asm_syntax.specs.SourceTree.{Name, Term, Constant, Named, Chain, Not, Negative, Exists, Every, Result, Terms, no_terms, term_then, Links, no_links, link_then, Rule, Skip, Assign, Call, Par, Seq, If, Let, Forall, Choose, Iterate, While, SetResult, Rules, no_rules, rule_then, Branch, left_out, written, Spec}
use Rattle.asm_syntax.specs.PlainTree.{plain_term, plain_terms, plain_links, plain_rule, plain_rules, plain_branch}
use Rattle.asm_syntax.specs.CallsAndUses.{CallsOnly, EachCallsOnly, UsesOnly, EachUsesOnly, LinksUseOnly}
use Rattle.asm_check.specs.declared.cycles.step_faults.TheConstants.{MAX_RANK}
use Rattle.asm_check.specs.Names as names
use Rattle.asm_check.specs.Names.{Text, Meaning, NamedRule, Derived, Role, InTerm, AsRule, AsAnswering, AsResult, Use, use_of, term_count, rule_role, is_known, is_among, text_of, declared, uses, uses_of_rule, uses_of_rules, uses_of_branch, uses_of_term, uses_of_terms, uses_of_links, uses_of_test, uses_of_target, rule_scope}
use Rattle.asm_check.specs.CallGraph.{called, used, is_call, is_use, calls_in, uses_in, LeadsTo, at_once, by_way_of, ReachesCycle, BeginsPath, height}
use Rattle.asm_check.specs.Limits.{rule_rank, derived_rank}
use Rattle.asm_check.specs.Faults.{IsWellFormed, IsCyclic, is_known_use, unknown, cyclic_rule, cyclic_derived, too_many, result_use, outside}
use Rattle.asm_check.specs.Ranks as ranks
use Rattle.asm_check.specs.Ranks.{IsCallable, IsUsable, HasRanks}
use Rattle.asm_check.specs.Laws.{RanksExist}
use Rattle.asm_check.proofs.CycleLemmas.HeightsAreRanks.{AreRanks, heights_are_ranks}
use Rattle.asm_check.proofs.NameLemmas.FirstOfName.{first_is, body_uses}
use Rattle.asm_check.proofs.UseLemmas.ResultCallsAlike.{known_alike, called_alike}

-- ---- from facts on the uses in a body to facts on its calls

module _ (spec : Spec) (rank : Text → ℕ) (n : ℕ) where
  abbrev CallsAreBelow : List Use → Type 0
  CallsAreBelow us = (u : Use) → Contains us u → (to : Option (Name × Terms)) → u.role ≡ rule_role to → IsCallable spec rank n u.name.text

  first_part : (us vs : List Use) → CallsAreBelow (us ++ vs) → CallsAreBelow us
  first_part us vs h u c = h u (Contains-append_left us vs u c)

  last_part : (us vs : List Use) → CallsAreBelow (us ++ vs) → CallsAreBelow vs
  last_part us vs h u c = h u (Contains-append_right us vs u c)

  tail : (u : Use) (us : List Use) → CallsAreBelow (u ∷ us) → CallsAreBelow us
  tail u us h v c = h v (Contains-later u us v c)

  mutual
    calls_below : (R : Rule) (bound : List Text) → CallsAreBelow (uses_of_rule R bound) → CallsOnly (IsCallable spec rank n) (plain_rule R)
    calls_below Skip bound h = tt
    calls_below (Assign f ts t) bound h = tt
    calls_below (Call to f ts) bound h =
        let call = use_of (rule_role to) f (term_count ts) bound in
        h call (Contains-append_right (uses_of_target to bound) (call ∷ uses_of_terms ts bound) call (Contains-first call (uses_of_terms ts bound))) to refl
    calls_below (Par Ps) bound h = each_below Ps bound h
    calls_below (Seq Ps) bound h = each_below Ps bound h
    calls_below (If t P Q) bound h =
        let first = first_part (uses_of_term t bound ++ uses_of_rule P bound) (uses_of_branch Q bound) h in (
          calls_below P bound (last_part (uses_of_term t bound) (uses_of_rule P bound) first),
          branch_below Q bound (last_part (uses_of_term t bound ++ uses_of_rule P bound) (uses_of_branch Q bound) h),
        )
    calls_below (Let x t P) bound h = calls_below P (x.text ∷ bound) (last_part (uses_of_term t bound) (uses_of_rule P (x.text ∷ bound)) h)
    calls_below (Forall x over t P) bound h =
        calls_below P (x.text ∷ bound) (last_part (_ ∷ uses_of_test t (x.text ∷ bound)) (uses_of_rule P (x.text ∷ bound)) h)
    calls_below (Choose x over t P Q) bound h =
        let front = names.plain_use names.AsUniverse over ∷ uses_of_test t (x.text ∷ bound) in
        let first = first_part (front ++ uses_of_rule P (x.text ∷ bound)) (uses_of_branch Q bound) h in (
          calls_below P (x.text ∷ bound) (last_part front (uses_of_rule P (x.text ∷ bound)) first),
          branch_below Q bound (last_part (front ++ uses_of_rule P (x.text ∷ bound)) (uses_of_branch Q bound) h),
        )
    calls_below (Iterate P) bound h = calls_below P bound h
    calls_below (While t P) bound h = (calls_below P bound (last_part (uses_of_term t bound) (uses_of_rule P bound) h), tt)
    calls_below (SetResult x t) bound h = tt

    each_below : (Ps : Rules) (bound : List Text) → CallsAreBelow (uses_of_rules Ps bound) → EachCallsOnly (IsCallable spec rank n) (plain_rules Ps)
    each_below no_rules bound h = tt
    each_below (rule_then P Ps) bound h = (
      calls_below P bound (first_part (uses_of_rule P bound) (uses_of_rules Ps bound) h),
      each_below Ps bound (last_part (uses_of_rule P bound) (uses_of_rules Ps bound) h),
    )

    branch_below : (Q : Branch) (bound : List Text) → CallsAreBelow (uses_of_branch Q bound) → CallsOnly (IsCallable spec rank n) (plain_branch Q)
    branch_below left_out bound h = tt
    branch_below (written P) bound h = calls_below P bound h

  -- a name that isn't bound, in a term or as the word `result`
  abbrev UsesAreBelow : List Use → Type 0
  UsesAreBelow us =
      (u : Use) → Contains us u → (u.role ≡ InTerm) ⊎ (u.role ≡ AsResult) → u.is_bound ≡ false
      → (xs : List Name) (t : Term) → declared spec u.name.text ≡ Some (Derived xs t) → rank u.name.text < n

  front_uses : (us vs : List Use) → UsesAreBelow (us ++ vs) → UsesAreBelow us
  front_uses us vs h u c = h u (Contains-append_left us vs u c)

  back_uses : (us vs : List Use) → UsesAreBelow (us ++ vs) → UsesAreBelow vs
  back_uses us vs h u c = h u (Contains-append_right us vs u c)

  tail_uses : (u : Use) (us : List Use) → UsesAreBelow (u ∷ us) → UsesAreBelow us
  tail_uses u us h v c = h v (Contains-later u us v c)

  mutual
    uses_below : (t : Term) (bound : List Text) → UsesAreBelow (uses_of_term t bound) → UsesOnly (IsUsable spec rank n) (plain_term t) bound
    uses_below (Constant v) bound h = tt
    uses_below (Named x ts) bound h = (
      λ free xs t is. h (use_of InTerm x (term_count ts) bound) (Contains-first _ (uses_of_terms ts bound)) (inl refl) free xs t is,
      each_uses ts bound (tail_uses _ (uses_of_terms ts bound) h),
    )
    uses_below (Chain t links) bound h = (
      uses_below t bound (front_uses (uses_of_term t bound) (uses_of_links links bound) h),
      link_uses links bound (back_uses (uses_of_term t bound) (uses_of_links links bound) h),
    )
    uses_below (Not t) bound h = uses_below t bound h
    uses_below (Negative t) bound h = uses_below t bound h
    uses_below (Exists x over t) bound h = uses_below t (x.text ∷ bound) (tail_uses _ (uses_of_term t (x.text ∷ bound)) h)
    uses_below (Every x over t) bound h = uses_below t (x.text ∷ bound) (tail_uses _ (uses_of_term t (x.text ∷ bound)) h)
    uses_below (Result x) bound h = (λ free xs t is. h (use_of AsResult x 0 bound) (Contains-first _ []) (inr refl) free xs t is, tt)

    each_uses : (ts : Terms) (bound : List Text) → UsesAreBelow (uses_of_terms ts bound) → EachUsesOnly (IsUsable spec rank n) (plain_terms ts) bound
    each_uses no_terms bound h = tt
    each_uses (term_then t ts) bound h = (
      uses_below t bound (front_uses (uses_of_term t bound) (uses_of_terms ts bound) h),
      each_uses ts bound (back_uses (uses_of_term t bound) (uses_of_terms ts bound) h),
    )

    link_uses : (links : Links) (bound : List Text) → UsesAreBelow (uses_of_links links bound) → LinksUseOnly (IsUsable spec rank n) (plain_links links) bound
    link_uses no_links bound h = tt
    link_uses (link_then o t links) bound h = (
      uses_below t bound (front_uses (uses_of_term t bound) (uses_of_links links bound) h),
      link_uses links bound (back_uses (uses_of_term t bound) (uses_of_links links bound) h),
    )

-- ---- no long ways

pub in_filter : {X : Type 0} (p : X → Bool) (xs : List X) (x : X) → p x ≡ true → Contains xs x → Contains (filter p xs) x
in_filter p [] x e c = absurd (Contains-none x c)
in_filter {X = X} p (y ∷ ys) x e c =
    elim (p y) as (λ b. p y ≡ b → Contains (cond b (y ∷ filter p ys) (filter p ys)) x) [
      | true ↦ λ e'. elim (Contains-cons_cases y ys x c) [ inl s ↦ subst (λ z. Contains (y ∷ filter p ys) z) s (Contains-first y (filter p ys)) | inr rest ↦ Contains-later y (filter p ys) x (in_filter p ys x e rest) ]
      | false ↦ λ no'. elim (Contains-cons_cases y ys x c) [ inl s ↦ absurd (false≢true (sym no' ∙ ap p s ∙ e)) | inr rest ↦ in_filter p ys x e rest ]
    ] refl

-- a name from which a step leads is declared
starts_declared : (spec : Spec) (starts : Option Meaning → List Use) → ((u : Use) → ¬ (Contains (starts None) u)) → (f g : Text)
    → Contains (map (λ u. u.name.text) (starts (declared spec f))) g → (m : Meaning) × (declared spec f ≡ Some m)
starts_declared spec starts none f g c = go (declared spec f) refl c
  where
    go : (m : Option Meaning) → declared spec f ≡ m → Contains (map (λ u. u.name.text) (starts m)) g → (m : Meaning) × (declared spec f ≡ Some m)
    go (Some m) e c = (m, e)
    go None e c = absurd (no_item (starts None) none c)
      where
        no_item : (us : List Use) → ((u : Use) → ¬ (Contains us u)) → ¬ (Contains (map (λ u. u.name.text) us) g)
        no_item [] h c = absurd (Contains-none g c)
        no_item (u ∷ us) h c = h u (Contains-first u us)

module _ (spec : Spec) (next : Text → List Text)
    (begun : (f g : Text) → Contains (next f) g → (m : Meaning) × (declared spec f ≡ Some m))
    (acyclic : (at : ℕ) → ¬ (IsCyclic spec next at)) where
  open_step : (g : Text) → LeadsTo next g g → (h : Text) × Contains (next g) h
  open_step g (at_once c) = (g, c)
  open_step g (by_way_of h c rest) = (h, c)

  never_back : (g : Text) → ¬ (LeadsTo next g g)
  never_back g back =
      let step = open_step g back in
      let given = begun g step.0 step.1 in
      let first = first_is spec g given.0 given.1 in
      acyclic first.it.name.at
      (record {
        member = first.it;
        stands = subst (λ ds. Contains ds first.it) (sym first.parts) (Contains-append_right first.before (first.it ∷ first.after) first.it (Contains-first first.it first.after));
        back = subst (λ x. LeadsTo next x x) (sym first.name) back;
        offset = refl;
      })

  reaches_none : (f : Text) → ¬ (ReachesCycle next f)
  reaches_none f (g, way, back) = never_back g back

  no_long_way : ((before after : List names.Declaration) (d : names.Declaration) → names.first_declarations spec ≡ before ++ d ∷ after
      → BeginsPath next (suc MAX_RANK) d.name.text → ¬ (ReachesCycle next d.name.text) → ⊥)
      → (f : Text) → ¬ (BeginsPath next (suc MAX_RANK) f)
  no_long_way limit f (g, c, way) =
      let given = begun f g c in
      let first = first_is spec f given.0 given.1 in
      limit first.before first.after first.it first.parts (subst (BeginsPath next (suc MAX_RANK)) (sym first.name) (g, c, way)) (reaches_none first.it.name.text)

pub rules_begun : (spec : Spec) (f g : Text) → Contains (called spec f) g → (m : Meaning) × (declared spec f ≡ Some m)
unfolding called
rules_begun spec f g c = starts_declared spec (calls_in spec) (λ u bad. absurd (Contains-none u bad)) f g c

pub derived_begun : (spec : Spec) (f g : Text) → Contains (used spec f) g → (m : Meaning) × (declared spec f ≡ Some m)
unfolding used
derived_begun spec f g c = starts_declared spec (uses_in spec) (λ u bad. absurd (Contains-none u bad)) f g c

rules_ranked : (spec : Spec) → IsWellFormed spec → AreRanks (called spec) (height (called spec) (suc MAX_RANK))
rules_ranked spec good =
    heights_are_ranks (called spec)
    (no_long_way spec (called spec) (rules_begun spec) (λ at bad. good at 12 (cyclic_rule bad))
    (λ before after d parts way short. good d.name.at 15 (too_many (record { before = before; passing = d; after = after; parts = parts; passes = rule_rank way short; offset = refl }))))

derived_ranked : (spec : Spec) → IsWellFormed spec → AreRanks (used spec) (height (used spec) (suc MAX_RANK))
derived_ranked spec good =
    heights_are_ranks (used spec)
    (no_long_way spec (used spec) (derived_begun spec) (λ at bad. good at 13 (cyclic_derived bad))
    (λ before after d parts way short. good d.name.at 15 (too_many (record { before = before; passing = d; after = after; parts = parts; passes = derived_rank way short; offset = refl }))))

-- ---- each call is a step

in_called : (spec : Spec) (f : Text) (xs : List Name) (P : Rule) → declared spec f ≡ Some (NamedRule xs P)
    → (u : Use) → Contains (uses_of_rule P (rule_scope xs)) u → is_call u.role (declared spec u.name.text) ≡ true → Contains (called spec f) u.name.text
unfolding called
in_called spec f xs P is u c e =
    subst (λ m. Contains (map (λ u. u.name.text) (calls_in spec m)) u.name.text) (sym is)
    (Contains-map (λ u. u.name.text) (calls_in spec (Some (NamedRule xs P))) u
    (in_filter (λ u. is_call u.role (declared spec u.name.text)) (uses_of_rule P (rule_scope xs)) u e c))

in_used : (spec : Spec) (f : Text) (xs : List Name) (t : Term) → declared spec f ≡ Some (Derived xs t)
    → (u : Use) → Contains (uses_of_term t (map text_of xs)) u → is_use u.role u.is_bound (declared spec u.name.text) ≡ true → Contains (used spec f) u.name.text
unfolding used
in_used spec f xs t is u c e =
    subst (λ m. Contains (map (λ u. u.name.text) (uses_in spec m)) u.name.text) (sym is)
    (Contains-map (λ u. u.name.text) (uses_in spec (Some (Derived xs t))) u
    (in_filter (λ u. is_use u.role u.is_bound (declared spec u.name.text)) (uses_of_term t (map text_of xs)) u e c))

-- what is known as called is a rule
known_rule : (b : Bool) (m : Option Meaning) → is_known AsRule b m ≢ false → (xs : List Name) × (P : Rule) × (m ≡ Some (NamedRule xs P))
known_rule b (Some (NamedRule xs P)) h = (xs, P, refl)
known_rule b m h = absurd (h refl)

-- after a `<-` too
known_there : (to : Option (Name × Terms)) (b : Bool) (m : Option Meaning) → is_known (rule_role to) b m ≡ is_known AsRule b m
known_there None b m = refl
known_there (Some t) b m = known_alike b m

called_there : (to : Option (Name × Terms)) (m : Option Meaning) → is_call (rule_role to) m ≡ is_call AsRule m
called_there None m = refl
called_there (Some t) m = called_alike m

pub ranks_exist : RanksExist
unfolding ranks.rule_rank ranks.derived_rank
ranks_exist spec good = record { rules = rules; rules_low = (rules_ranked spec good).0; derived = derived; derived_low = (derived_ranked spec good).0 }
  where
    known : (u : Use) → Contains (uses spec) u → is_known_use spec u ≢ false
    known u c no' = good u.name.at 9 (unknown (record { use_of = u; stands = c; unknown = no'; offset = refl }))

    callable : (f : Text) (xs : List Name) (P : Rule) → declared spec f ≡ Some (NamedRule xs P) → (u : Use) → Contains (uses_of_rule P (rule_scope xs)) u
        → (to : Option (Name × Terms)) → u.role ≡ rule_role to → IsCallable spec (height (called spec) (suc MAX_RANK)) (height (called spec) (suc MAX_RANK) f) u.name.text
    callable f xs P is u c to role =
        let m = declared spec u.name.text in
        let same : is_known u.role u.is_bound m ≡ is_known AsRule u.is_bound m = ap (λ r. is_known r u.is_bound m) role ∙ known_there to u.is_bound m in
        let it = known_rule u.is_bound m (subst (λ b. b ≢ false) same (known u (body_uses spec f (NamedRule xs P) is u c))) in
        let call : is_call u.role m ≡ true = ap (λ r. is_call r m) role ∙ called_there to m ∙ ap (is_call AsRule) it.2 in
        record { parameters = it.0; body = it.1; is_declared = it.2; is_below = (rules_ranked spec good).1 f u.name.text (in_called spec f xs P is u c call) }

    rules : ranks.AreRulesRanked spec (height (called spec) (suc MAX_RANK))
    rules f xs P is = calls_below spec (height (called spec) (suc MAX_RANK)) (height (called spec) (suc MAX_RANK) f) P (rule_scope xs) (callable f xs P is)

    -- `result` is bound, where it is
    bound_result : (u : Use) → Contains (uses spec) u → u.role ≡ AsResult → u.is_bound ≡ false → ⊥
    bound_result u c role free = good u.name.at 17 (result_use (outside u c role free refl))

    usable : (f : Text) (xs : List Name) (t : Term) → declared spec f ≡ Some (Derived xs t) → UsesAreBelow spec (height (used spec) (suc MAX_RANK)) (height (used spec) (suc MAX_RANK) f) (uses_of_term t (map text_of xs))
    usable f xs t is u c (inl role) free ys s d =
        let using : is_use u.role u.is_bound (declared spec u.name.text) ≡ true = (λ i. is_use (role i) (free i) (d i)) in
        (derived_ranked spec good).1 f u.name.text (in_used spec f xs t is u c using)
    usable f xs t is u c (inr role) free ys s d = absurd (bound_result u (body_uses spec f (Derived xs t) is u c) role free)

    derived : ranks.AreDerivedRanked spec (height (used spec) (suc MAX_RANK))
    derived f xs t is = uses_below spec (height (used spec) (suc MAX_RANK)) (height (used spec) (suc MAX_RANK) f) t (map text_of xs) (usable f xs t is)
