-- Free. The faults of steps are those at the positions of the table.
use Rattle.std.proofs.Common.{◌≡◌, ◌⊎◌, ℕ, suc, ◌<◌, Bool, true, false, List, [], ◌∷◌, map, length, slice_get, Option, Some, refl, sym, ap, subst, ◌∙◌, inl, inr}
use Rattle.std.specs.Prelude.{Contains, All}
use Rattle.std.proofs.lemmas.Bool.{false≢true}
use Rattle.std.proofs.lemmas.List.Elements.{Contains-get_or, Contains-append_cases, All-contains}
use Rattle.std.proofs.lemmas.Option.{slice_get_within, get_or_from_slice_get}
use Rattle.asm_state.proofs.Lists.{Contains-cons_cases, Contains-from_map, Contains-map, Contains-none}
use Rattle.asm_syntax.specs.SourceTree.{Spec}
use Rattle.asm_check.specs.declared.cycles.step_faults.TheConstants.{MAX_RANK}
use Rattle.asm_check.specs.declared.names.declared_as.DeclaredAs.{DeclaredAs}
use Rattle.asm_check.specs.declared.names.declared_as.DeclaredAs.TheVariants as code
use Rattle.asm_check.specs.Faults.{IsCyclic}
use Rattle.asm_check.specs.code.cycles.Graph.{next_of}
use Rattle.asm_check.specs.Names as names
use Rattle.asm_check.specs.Names.{Text, Declaration, declared, first_declarations}
use Rattle.asm_check.specs.code.cycles.CallsAndUses.{called_or_used}
use Rattle.asm_check.specs.code.cycles.StepFaults.{IsStepFault, IsTooHigh, cyclic_rule, cyclic_derived, too_high, rule_rank, derived_rank}
use Rattle.asm_check.specs.code.cycles.StepTables.{AreStepsOf, cycle_number, IsCycleAt, IsHighAt, IsFaultBelow}
use Rattle.asm_check.specs.code.names.Tables.{Entry, IsTableOf, declaration_of, declared_as_view, text_of_entry, text_at}
use Rattle.asm_check.specs.CallGraph.{called, used, LeadsTo, at_once, by_way_of, ReachesCycle, BeginsPath}
use Rattle.asm_check.proofs.CycleLemmas.CallsAndUses.{IsRule, is_rule, IsDerived, is_derived, caller, user, callee, usee, all_calls, all_uses}
use Rattle.asm_check.proofs.CycleLemmas.Simulation as simulation

-- ---- all steps of a rule are calls, and those of a derived function uses

module _ (spec : Spec) (next : Text → List Text) (IsMember : Text → Type 0)
    (same : (f : Text) → IsMember f → map (λ x. x) (next f) ≡ called_or_used spec f)
    (closed : (f g : Text) → IsMember f → Contains (next f) g → IsMember g) where
  pub part_leads : (f : Text) → IsMember f → LeadsTo next f f → LeadsTo (called_or_used spec) f f
  part_leads f is way = simulation.leads next (called_or_used spec) (λ x. x) IsMember same closed is way

  pub part_leads_back : (f : Text) → IsMember f → LeadsTo (called_or_used spec) f f → LeadsTo next f f
  part_leads_back f is way = simulation.leads_back next (called_or_used spec) (λ x. x) IsMember same closed (λ a b i j e. e) f is way

  pub part_reaches : (f : Text) → IsMember f → ReachesCycle next f → ReachesCycle (called_or_used spec) f
  part_reaches f is way = simulation.reaches_on next (called_or_used spec) (λ x. x) IsMember same closed f is way

  pub part_reaches_back : (f : Text) → IsMember f → ReachesCycle (called_or_used spec) f → ReachesCycle next f
  part_reaches_back f is way = simulation.reaches next (called_or_used spec) (λ x. x) IsMember same closed (λ a b i j e. e) f is way

  pub part_way : (n : ℕ) (f : Text) → IsMember f → BeginsPath next n f → BeginsPath (called_or_used spec) n f
  part_way n f is way = simulation.on_way next (called_or_used spec) (λ x. x) IsMember same closed n f is way

  pub part_way_back : (n : ℕ) (f : Text) → IsMember f → BeginsPath (called_or_used spec) n f → BeginsPath next n f
  part_way_back n f is way = simulation.lifted_way next (called_or_used spec) (λ x. x) IsMember same closed n f is way

begins : {A : Type 0} (next : A → List A) (f g : A) → LeadsTo next f g → (h : A) × Contains (next f) h
begins next f g (at_once c) = (g, c)
begins next f g (by_way_of h c rest) = (h, c)

-- ---- members of lists

pub got : {X : Type 0} (xs : List X) (n : ℕ) (x : X) → slice_get xs n ≡ Some x → Contains xs x
got xs n x is = subst (Contains xs) (get_or_from_slice_get xs n x x is) (Contains-get_or xs n x (slice_get_within xs n x is))

pub get_of : {X : Type 0} (xs : List X) (x : X) → Contains xs x → (n : ℕ) × (slice_get xs n ≡ Some x)
get_of [] x c = absurd (Contains-none x c)
get_of (y ∷ ys) x c =
    elim (Contains-cons_cases y ys x c) [
      | inl e ↦ (0, ap Some e)
      | inr rest ↦ let it = get_of ys x rest in (suc it.0, it.1)
    ]

-- ---- what meanings have a number

kind_of_number : (m : DeclaredAs) (number : ℕ) → cycle_number m ≡ Some number
    → (IsRule (Some (declared_as_view m)) × (12 ≡ number)) ⊎ (IsDerived (Some (declared_as_view m)) × (13 ≡ number))
kind_of_number (code.Rule body) number e = inl (is_rule _ _, cc)
kind_of_number (code.Derived body) number e = inr (is_derived _ _, cc)
kind_of_number code.Predeclared number e = cc
kind_of_number (code.Range first last) number e = cc
kind_of_number (code.Enumeration k) number e = cc
kind_of_number (code.Element k) number e = cc
kind_of_number (code.Controlled domain) number e = cc
kind_of_number (code.Static domain) number e = cc

abbrev rule_test : Option names.Meaning → Bool
rule_test (Some (names.NamedRule xs P)) = true
rule_test m = false

abbrev derived_test : Option names.Meaning → Bool
derived_test (Some (names.Derived xs t)) = true
derived_test m = false

rule_passes : (m : Option names.Meaning) → IsRule m → rule_test m ≡ true
rule_passes m (is_rule xs P) = refl

derived_passes : (m : Option names.Meaning) → IsDerived m → derived_test m ≡ true
derived_passes m (is_derived xs t) = refl

number_of_rule : (m : DeclaredAs) → rule_test (Some (declared_as_view m)) ≡ true → cycle_number m ≡ Some 12
number_of_rule (code.Rule body) e = refl
number_of_rule (code.Derived body) e = absurd (false≢true e)
number_of_rule code.Predeclared e = absurd (false≢true e)
number_of_rule (code.Range first last) e = absurd (false≢true e)
number_of_rule (code.Enumeration k) e = absurd (false≢true e)
number_of_rule (code.Element k) e = absurd (false≢true e)
number_of_rule (code.Controlled domain) e = absurd (false≢true e)
number_of_rule (code.Static domain) e = absurd (false≢true e)

number_of_derived : (m : DeclaredAs) → derived_test (Some (declared_as_view m)) ≡ true → cycle_number m ≡ Some 13
number_of_derived (code.Derived body) e = refl
number_of_derived (code.Rule body) e = absurd (false≢true e)
number_of_derived code.Predeclared e = absurd (false≢true e)
number_of_derived (code.Range first last) e = absurd (false≢true e)
number_of_derived (code.Enumeration k) e = absurd (false≢true e)
number_of_derived (code.Element k) e = absurd (false≢true e)
number_of_derived (code.Controlled domain) e = absurd (false≢true e)
number_of_derived (code.Static domain) e = absurd (false≢true e)

members_of : (spec : Spec) (f g : Text) → Contains (called_or_used spec f) g → IsRule (declared spec f) ⊎ IsDerived (declared spec f)
unfolding called_or_used
members_of spec f g c = elim (Contains-append_cases (called spec f) (used spec f) g c) [ inl call ↦ inl (caller spec f g call) | inr using ↦ inr (user spec f g using) ]

-- ---- positions

module _ (spec : Spec) (entries : List Entry) (lists : List (List ℕ)) (are : AreStepsOf spec entries lists)
    (apart : (i j : ℕ) → i < length entries → j < length entries → text_at entries i ≡ text_at entries j → i ≡ j) where
  abbrev Inside : ℕ → Type 0
  Inside n = n < length entries

  closed_inside : (a b : ℕ) → Inside a → Contains (next_of lists a) b → Inside b
  closed_inside a b inside c =
      let row : Contains lists (next_of lists a) = Contains-get_or lists a [] (subst (λ n. a < n) (sym are.len) inside) in
      subst (λ n. b < n) are.len (All-contains (λ n. n < length lists) (next_of lists a) b (All-contains (All (λ n. n < length lists)) lists (next_of lists a) are.graph row) c)

  at_leads : (n : ℕ) → Inside n → LeadsTo (next_of lists) n n → LeadsTo (called_or_used spec) (text_at entries n) (text_at entries n)
  at_leads n inside way = simulation.leads (next_of lists) (called_or_used spec) (text_at entries) Inside are.steps closed_inside inside way

  at_leads_back : (n : ℕ) → Inside n → LeadsTo (called_or_used spec) (text_at entries n) (text_at entries n) → LeadsTo (next_of lists) n n
  at_leads_back n inside way = simulation.leads_back (next_of lists) (called_or_used spec) (text_at entries) Inside are.steps closed_inside apart n inside way

  at_reaches : (n : ℕ) → Inside n → ReachesCycle (next_of lists) n → ReachesCycle (called_or_used spec) (text_at entries n)
  at_reaches n inside way = simulation.reaches_on (next_of lists) (called_or_used spec) (text_at entries) Inside are.steps closed_inside n inside way

  at_reaches_back : (n : ℕ) → Inside n → ReachesCycle (called_or_used spec) (text_at entries n) → ReachesCycle (next_of lists) n
  at_reaches_back n inside way = simulation.reaches (next_of lists) (called_or_used spec) (text_at entries) Inside are.steps closed_inside apart n inside way

  at_way : (k n : ℕ) → Inside n → BeginsPath (next_of lists) k n → BeginsPath (called_or_used spec) k (text_at entries n)
  at_way k n inside way = simulation.on_way (next_of lists) (called_or_used spec) (text_at entries) Inside are.steps closed_inside k n inside way

  at_way_back : (k n : ℕ) → Inside n → BeginsPath (called_or_used spec) k (text_at entries n) → BeginsPath (next_of lists) k n
  at_way_back k n inside way = simulation.lifted_way (next_of lists) (called_or_used spec) (text_at entries) Inside are.steps closed_inside k n inside way

  module _ (table : IsTableOf spec entries) (known : (n : ℕ) (e : Entry) → slice_get entries n ≡ Some e → declared spec e.0.now ≡ Some (declared_as_view e.1.meaning)) where
    -- the declaration of an entry
    stands : (n : ℕ) (e : Entry) → slice_get entries n ≡ Some e → Contains (first_declarations spec) (declaration_of e)
    stands n e is = subst (λ ds. Contains ds (declaration_of e)) table (Contains-map declaration_of entries e (got entries n e is))

    -- the entry of a declaration
    found : (d : Declaration) → Contains (first_declarations spec) d → (n : ℕ) × (e : Entry) × ((slice_get entries n ≡ Some e) × (declaration_of e ≡ d))
    found d c =
        let it = Contains-from_map declaration_of entries d (subst (λ ds. Contains ds d) (sym table) c) in
        let at = get_of entries it.0 it.1 in
        (at.0, it.0, (at.1, it.2))

    inside : (n : ℕ) (e : Entry) → slice_get entries n ≡ Some e → Inside n
    inside n e is = slice_get_within entries n e is

    text_is : (n : ℕ) (e : Entry) → slice_get entries n ≡ Some e → text_at entries n ≡ e.0.now
    text_is n e is = ap text_of_entry is

    rule_at : (e : Entry) (n : ℕ) → slice_get entries n ≡ Some e → IsRule (Some (declared_as_view e.1.meaning)) → IsRule (declared spec e.0.now)
    rule_at e n is r = subst IsRule (sym (known n e is)) r

    derived_at : (e : Entry) (n : ℕ) → slice_get entries n ≡ Some e → IsDerived (Some (declared_as_view e.1.meaning)) → IsDerived (declared spec e.0.now)
    derived_at e n is r = subst IsDerived (sym (known n e is)) r

    cycle_fault : (n : ℕ) (e : Entry) (at number : ℕ) → slice_get entries n ≡ Some e → IsCycleAt lists n e.1.at e.1.meaning at number → IsStepFault spec at number
    cycle_fault n e at number is (way, offset, kind) =
        let back : LeadsTo (called_or_used spec) e.0.now e.0.now = subst (λ f. LeadsTo (called_or_used spec) f f) (text_is n e is) (at_leads n (inside n e is) way) in
        elim (kind_of_number e.1.meaning number kind) [
          | inl (r, twelve) ↦
              subst (IsStepFault spec at) twelve (cyclic_rule (record {
                member = declaration_of e;
                stands = stands n e is;
                offset = offset;
                back = part_leads_back spec (called spec) (λ f. IsRule (declared spec f)) (all_calls spec) (λ f g i c. callee spec f g c) e.0.now (rule_at e n is r) back;
              }))
          | inr (r, thirteen) ↦
              subst (IsStepFault spec at) thirteen (cyclic_derived (record {
                member = declaration_of e;
                stands = stands n e is;
                offset = offset;
                back = part_leads_back spec (used spec) (λ f. IsDerived (declared spec f)) (all_uses spec) (λ f g i c. usee spec f g c) e.0.now (derived_at e n is r) back;
              }))
        ]

    high_fault : (n : ℕ) (e : Entry) (at number : ℕ) → slice_get entries n ≡ Some e → IsHighAt lists n e.1.at at number → IsStepFault spec at number
    high_fault n e at number is (way, short, offset, fifteen) =
        let long : BeginsPath (called_or_used spec) (suc MAX_RANK) e.0.now = subst (BeginsPath (called_or_used spec) (suc MAX_RANK)) (text_is n e is) (at_way (suc MAX_RANK) n (inside n e is) way) in
        let none : ¬ (ReachesCycle (called_or_used spec) e.0.now) = λ r. short (at_reaches_back n (inside n e is) (subst (ReachesCycle (called_or_used spec)) (sym (text_is n e is)) r)) in
        subst (IsStepFault spec at) fifteen (too_high (declaration_of e) (stands n e is) (too_high_by long none) offset)
      where
        too_high_by : BeginsPath (called_or_used spec) (suc MAX_RANK) e.0.now → ¬ (ReachesCycle (called_or_used spec) e.0.now) → IsTooHigh spec (declaration_of e)
        too_high_by (g, c, w) none =
            elim (members_of spec e.0.now g c) [
              | inl r ↦ rule_rank
                  (part_way_back spec (called spec) (λ f. IsRule (declared spec f)) (all_calls spec) (λ f g i c. callee spec f g c) (suc MAX_RANK) e.0.now r (g, c, w))
                  (λ bad. none (part_reaches spec (called spec) (λ f. IsRule (declared spec f)) (all_calls spec) (λ f g i c. callee spec f g c) e.0.now r bad))
              | inr d ↦ derived_rank
                  (part_way_back spec (used spec) (λ f. IsDerived (declared spec f)) (all_uses spec) (λ f g i c. usee spec f g c) (suc MAX_RANK) e.0.now d (g, c, w))
                  (λ bad. none (part_reaches spec (used spec) (λ f. IsDerived (declared spec f)) (all_uses spec) (λ f g i c. usee spec f g c) e.0.now d bad))
            ]

    pub sound : (at number : ℕ) → IsFaultBelow lists entries (length entries) at number → IsStepFault spec at number
    sound at number (n, below, fault) =
        elim fault.2 [ inl cycle ↦ cycle_fault n fault.0 at number fault.1 cycle | inr high ↦ high_fault n fault.0 at number fault.1 high ]

    -- ---- each fault is at a position

    at_entry : (d : Declaration) (f : Text) → Contains (first_declarations spec) d → d.name.text ≡ f
        → (n : ℕ) × (e : Entry) × ((slice_get entries n ≡ Some e) × (declaration_of e ≡ d) × (text_at entries n ≡ f))
    at_entry d f c same =
        let it = found d c in
        (it.0, it.1, (it.2.0, it.2.1, text_is it.0 it.1 it.2.0 ∙ ap (λ d. d.name.text) it.2.1 ∙ same))

    member_test : (n : ℕ) (e : Entry) → slice_get entries n ≡ Some e → declared spec (text_at entries n) ≡ Some (declared_as_view e.1.meaning)
    member_test n e is = ap (declared spec) (text_is n e is) ∙ known n e is

    cycle_at : (next : Text → List Text) (number : ℕ)
        → ((f : Text) → LeadsTo next f f → LeadsTo (called_or_used spec) f f)
        → ((f : Text) (m : DeclaredAs) → LeadsTo next f f → declared spec f ≡ Some (declared_as_view m) → cycle_number m ≡ Some number)
        → (at : ℕ) → IsCyclic spec next at → IsFaultBelow lists entries (length entries) at number
    cycle_at next number leads kind at bad =
        let it = at_entry bad.member bad.member.name.text bad.stands refl in
        let e = it.1 in
        let back : LeadsTo next (text_at entries it.0) (text_at entries it.0) = subst (λ f. LeadsTo next f f) (sym it.2.2) bad.back in (
          it.0,
          inside it.0 e it.2.0,
          (
            e,
            it.2.0,
            inl (
              at_leads_back it.0 (inside it.0 e it.2.0) (leads (text_at entries it.0) back),
              ap (λ d. d.name.at) it.2.1 ∙ bad.offset,
              kind (text_at entries it.0) e.1.meaning back (member_test it.0 e it.2.0),
            ),
          ),
        )

    rule_leads : (f : Text) → LeadsTo (called spec) f f → LeadsTo (called_or_used spec) f f
    rule_leads f way =
        let first = begins (called spec) f f way in
        part_leads spec (called spec) (λ f. IsRule (declared spec f)) (all_calls spec) (λ f g i c. callee spec f g c) f (caller spec f first.0 first.1) way

    derived_leads : (f : Text) → LeadsTo (used spec) f f → LeadsTo (called_or_used spec) f f
    derived_leads f way =
        let first = begins (used spec) f f way in
        part_leads spec (used spec) (λ f. IsDerived (declared spec f)) (all_uses spec) (λ f g i c. usee spec f g c) f (user spec f first.0 first.1) way

    rule_kind : (f : Text) (m : DeclaredAs) → LeadsTo (called spec) f f → declared spec f ≡ Some (declared_as_view m) → cycle_number m ≡ Some 12
    rule_kind f m way is =
        let first = begins (called spec) f f way in
        number_of_rule m (rule_passes (Some (declared_as_view m)) (subst IsRule is (caller spec f first.0 first.1)))

    derived_kind : (f : Text) (m : DeclaredAs) → LeadsTo (used spec) f f → declared spec f ≡ Some (declared_as_view m) → cycle_number m ≡ Some 13
    derived_kind f m way is =
        let first = begins (used spec) f f way in
        number_of_derived m (derived_passes (Some (declared_as_view m)) (subst IsDerived is (user spec f first.0 first.1)))

    high_at : (d : Declaration) → Contains (first_declarations spec) d → BeginsPath (called_or_used spec) (suc MAX_RANK) d.name.text → ¬ (ReachesCycle (called_or_used spec) d.name.text)
        → (at : ℕ) → d.name.at ≡ at → IsFaultBelow lists entries (length entries) at 15
    high_at d c long none at offset =
        let it = at_entry d d.name.text c refl in
        let e = it.1 in (
          it.0,
          inside it.0 e it.2.0,
          (
            e,
            it.2.0,
            inr (
              at_way_back (suc MAX_RANK) it.0 (inside it.0 e it.2.0) (subst (BeginsPath (called_or_used spec) (suc MAX_RANK)) (sym it.2.2) long),
              (λ bad. none (subst (ReachesCycle (called_or_used spec)) it.2.2 (at_reaches it.0 (inside it.0 e it.2.0) bad))),
              ap (λ d. d.name.at) it.2.1 ∙ offset,
              refl,
            ),
          ),
        )

    high_of : (d : Declaration) → IsTooHigh spec d → BeginsPath (called_or_used spec) (suc MAX_RANK) d.name.text × (¬ (ReachesCycle (called_or_used spec) d.name.text))
    high_of d (rule_rank (g, c, w) short) =
        let r = caller spec d.name.text g c in (
          part_way spec (called spec) (λ f. IsRule (declared spec f)) (all_calls spec) (λ f g i c. callee spec f g c) (suc MAX_RANK) d.name.text r (g, c, w),
          (λ bad. short (part_reaches_back spec (called spec) (λ f. IsRule (declared spec f)) (all_calls spec) (λ f g i c. callee spec f g c) d.name.text r bad)),
        )
    high_of d (derived_rank (g, c, w) short) =
        let r = user spec d.name.text g c in (
          part_way spec (used spec) (λ f. IsDerived (declared spec f)) (all_uses spec) (λ f g i c. usee spec f g c) (suc MAX_RANK) d.name.text r (g, c, w),
          (λ bad. short (part_reaches_back spec (used spec) (λ f. IsDerived (declared spec f)) (all_uses spec) (λ f g i c. usee spec f g c) d.name.text r bad)),
        )

    pub complete : (at number : ℕ) → IsStepFault spec at number → IsFaultBelow lists entries (length entries) at number
    complete at number (cyclic_rule bad) = cycle_at (called spec) 12 rule_leads rule_kind at bad
    complete at number (cyclic_derived bad) = cycle_at (used spec) 13 derived_leads derived_kind at bad
    complete at number (too_high d c high offset) = let it = high_of d high in high_at d c it.0 it.1 at offset
