-- Free. What is noted of one declaration, and of all in turn.
use Rattle.std.proofs.Common.{suc, ◌≡◌, ◌⊎◌, ◌<◌, ◌≤◌, ℕ, ◌+◌, Bool, false, List, [], ◌∷◌, length, slice_get, Option, Some, None, refl, sym, ap, subst, ◌∙◌, inl, inr, arith}
use Rattle.std.specs.Prelude.{slice_index_or, option_map}
use Rattle.std.proofs.lemmas.Option.{slice_get-get_or, slice_get_within}
use Rattle.asm_check.specs.declared.cycles.step_faults.TheConstants.{MAX_RANK}
use Rattle.asm_check.specs.declared.error.FaultKind.{FaultKind}
use Rattle.asm_check.specs.declared.names.declared_as.DeclaredAs.{DeclaredAs}
use Rattle.asm_check.specs.declared.names.declared_as.Declaration.{Declaration}
use Rattle.asm_check.specs.Errors.{number_of}
use Rattle.std.proofs.Common.{map}
use Rattle.std.specs.Global.{Vec}
use Rattle.asm_syntax.specs.SourceTree.{Spec}
use Rattle.asm_check.specs.code.cycles.Graph.{IsGraph, next_of, step_lists}
use Rattle.asm_check.specs.code.cycles.CallsAndUses.{called_or_used}
use Rattle.asm_check.specs.code.LeastFaults.{IsLeastWith, IsFoundOrLess, least_after}
use Rattle.asm_check.specs.code.cycles.StepTables.{AreStepsOf, IsCycleAt, IsFaultOf, IsFaultBelow, cycle_number}
use Rattle.asm_check.specs.code.names.Tables.{Entry, text_at}
use Rattle.asm_check.specs.CallGraph.{LeadsTo, ReachesCycle, BeginsPath}
use Rattle.std.proofs.lemmas.Bool.{cases_lt}
use Rattle.std.proofs.lemmas.List.{length-map}
use Rattle.asm_check.proofs.NameLemmas.EachNameOnce.{entry_there}
use Rattle.asm_check.proofs.CycleLemmas.SearchesInTurn.{soonest_same, soonest_both, soonest_none, soonest_noted}

number_is : (m : DeclaredAs) (kind : FaultKind) → option_map number_of (Some kind) ≡ cycle_number m → (number : ℕ) → cycle_number m ≡ Some number → number_of kind ≡ number
number_is m kind e number f = some_is (number_of kind) number (e ∙ f)
  where
    some_is : (a b : ℕ) → Some a ≡ Some b → a ≡ b
    some_is a b e = cc

module _ (lists : List (List ℕ)) (n : ℕ) (d : Declaration) where
  pub cycle_noted : (kind : FaultKind) → option_map number_of (Some kind) ≡ cycle_number d.meaning → LeadsTo (next_of lists) n n
      → (found after : Option (ℕ × ℕ)) → after ≡ least_after found ((d.at, number_of kind) ∷ []) → IsLeastWith (IsCycleAt lists n d.at d.meaning) found after
  cycle_noted kind e back found after is =
      subst (IsLeastWith (IsCycleAt lists n d.at d.meaning) found) (sym is)
      (soonest_same (λ at number. (d.at ≡ at) × (number_of kind ≡ number)) (IsCycleAt lists n d.at d.meaning)
      (λ at number p. (back, p.0, sym e ∙ ap Some p.1))
      (λ at number p. (p.1, number_is d.meaning kind e number p.2))
      found (least_after found ((d.at, number_of kind) ∷ [])) (soonest_noted found d.at (number_of kind)))

  pub cycle_late : (kind : FaultKind) → option_map number_of (Some kind) ≡ cycle_number d.meaning
      → (found : Option (ℕ × ℕ)) → least_after found ((d.at, number_of kind) ∷ []) ≡ found → IsLeastWith (IsCycleAt lists n d.at d.meaning) found found
  cycle_late kind e found same =
      soonest_none (IsCycleAt lists n d.at d.meaning) found
      (λ at number p. subst (λ f. IsFoundOrLess f at number) same ((soonest_noted found d.at (number_of kind)).covers at number (p.1, number_is d.meaning kind e number p.2)))

  pub cycle_not : ¬ (LeadsTo (next_of lists) n n) → (found : Option (ℕ × ℕ)) → IsLeastWith (IsCycleAt lists n d.at d.meaning) found found
  cycle_not none found = soonest_none (IsCycleAt lists n d.at d.meaning) found (λ at number p. absurd (none p.0))

  pub cycle_other : None ≡ cycle_number d.meaning → (found : Option (ℕ × ℕ)) → IsLeastWith (IsCycleAt lists n d.at d.meaning) found found
  cycle_other e found = soonest_none (IsCycleAt lists n d.at d.meaning) found (λ at number p. absurd (differ number (e ∙ p.2)))
    where
      differ : (number : ℕ) → ◌≡◌ {A = Option ℕ} None (Some number) → ⊥
      differ number e = cc

  pub node_reaching : ReachesCycle (next_of lists) n → (found after : Option (ℕ × ℕ)) → IsLeastWith (IsCycleAt lists n d.at d.meaning) found after → IsLeastWith (IsFaultOf lists n d) found after
  node_reaching reach found after s =
      soonest_same (IsCycleAt lists n d.at d.meaning) (IsFaultOf lists n d) (λ at number p. inl p)
      (λ at number p. elim p [ inl cycle ↦ cycle | inr high ↦ absurd (high.1 reach) ]) found after s

  pub node_high : ¬ (ReachesCycle (next_of lists) n) → BeginsPath (next_of lists) (suc MAX_RANK) n → (found after : Option (ℕ × ℕ)) → after ≡ least_after found ((d.at, 15) ∷ []) → IsLeastWith (IsFaultOf lists n d) found after
  node_high none way found after is =
      subst (IsLeastWith (IsFaultOf lists n d) found) (sym is)
      (soonest_same (λ at number. (d.at ≡ at) × (15 ≡ number)) (IsFaultOf lists n d)
      (λ at number p. inr (way, none, p.0, p.1))
      (λ at number p. elim p [ inl cycle ↦ absurd (none (n, inl refl, cycle.0)) | inr high ↦ (high.2, high.3) ])
      found (least_after found ((d.at, 15) ∷ [])) (soonest_noted found d.at 15))

  pub node_low : ¬ (ReachesCycle (next_of lists) n) → ¬ (BeginsPath (next_of lists) (suc MAX_RANK) n) → (found : Option (ℕ × ℕ)) → IsLeastWith (IsFaultOf lists n d) found found
  node_low none short found =
      soonest_none (IsFaultOf lists n d) found (λ at number p. elim p [ inl cycle ↦ absurd (none (n, inl refl, cycle.0)) | inr high ↦ absurd (short high.0) ])

-- ---- one position after another

pub none_below : (lists : List (List ℕ)) (entries : List Entry) (found : Option (ℕ × ℕ)) → IsLeastWith (IsFaultBelow lists entries 0) found found
none_below lists entries found = soonest_none (IsFaultBelow lists entries 0) found (λ at number p. let below = p.1 in absurd (omega (arith, below)))

pub one_more : (lists : List (List ℕ)) (entries : List Entry) (n : ℕ) (e : Entry) → slice_get entries n ≡ Some e
    → (first before after : Option (ℕ × ℕ)) → IsLeastWith (IsFaultBelow lists entries n) first before → IsLeastWith (IsFaultOf lists n e.1) before after
    → IsLeastWith (IsFaultBelow lists entries (n + 1)) first after
one_more lists entries n e is first before after s t =
    soonest_same (λ at number. IsFaultBelow lists entries n at number ⊎ IsFaultOf lists n e.1 at number) (IsFaultBelow lists entries (n + 1))
    (λ at number p. elim p [ inl old ↦ (let low = old.1 in (old.0, omega (arith, low), old.2)) | inr new ↦ (n, omega arith, (e, is, new)) ])
    (λ at number p. back at number p)
    first after (soonest_both (IsFaultBelow lists entries n) (IsFaultOf lists n e.1) first before after s t)
  where
    same_entry : (f g : Entry) → ◌≡◌ {A = Option Entry} (Some f) (Some g) → f ≡ g
    same_entry f g e = cc

    back : (at number : ℕ) → IsFaultBelow lists entries (n + 1) at number → IsFaultBelow lists entries n at number ⊎ IsFaultOf lists n e.1 at number
    back at number (k, low, fault) =
        elim (cases_lt k n) [
          | inl below ↦ inl (k, below, fault)
          | inr above ↦
              let same : k ≡ n = omega (arith, low, above) in
              let it : fault.0 ≡ e = same_entry fault.0 e (sym fault.1 ∙ ap (slice_get entries) same ∙ is) in
              inr (subst (λ (f : Entry). IsFaultOf lists n f.1 at number) it (subst (λ m. IsFaultOf lists m fault.0.1 at number) same fault.2))
        ]

-- a flag of a list
pub flag : (xs : List Bool) (n : ℕ) (b : Bool) → n < length xs → slice_index_or xs n false ≡ b → slice_get xs n ≡ Some b
flag xs n b within e = slice_get-get_or xs n false within ∙ ap Some e

pub flag_at : (xs ys : List Bool) (n k : ℕ) (b : Bool) → xs ≡ ys → length ys ≡ k → n < k → slice_index_or xs n false ≡ b → slice_get ys n ≡ Some b
flag_at xs ys n k b same len within e = flag ys n b (subst (λ m. n < m) (sym len) within) (subst (λ zs. slice_index_or zs n false ≡ b) same e)

pub all_below : (lists : List (List ℕ)) (entries : List Entry) (k : ℕ) (at number : ℕ) → IsFaultBelow lists entries k at number → IsFaultBelow lists entries (length entries) at number
all_below lists entries k at number (n, low, fault) = (n, slice_get_within entries n fault.0 fault.1, fault)

pub below_all : (lists : List (List ℕ)) (entries : List Entry) (k : ℕ) → length entries ≤ k → (at number : ℕ) → IsFaultBelow lists entries (length entries) at number → IsFaultBelow lists entries k at number
below_all lists entries k h at number (n, low, fault) = (n, omega (arith, h, low), fault)

pub are_steps : (spec : Spec) (entries : List Entry) (slice items : List (Vec ℕ)) → slice ≡ items → length items ≡ length entries → IsGraph (step_lists items)
    → ((n : ℕ) → n < length entries → map (text_at entries) (next_of (step_lists items) n) ≡ called_or_used spec (text_at entries n)) → AreStepsOf spec entries (step_lists slice)
are_steps spec entries slice items same len graph steps =
    subst (λ vs. AreStepsOf spec entries (step_lists vs)) (sym same) (record { len = length-map items (λ (v : Vec ℕ). v.items) ∙ len; graph = graph; steps = steps })

pub none_there : (entries : List Entry) (n : ℕ) → n < length entries → ◌≡◌ {A = Option Entry} None (slice_get entries n) → ⊥
none_there entries n within e = let it = entry_there entries n within in no_entry it.0 (e ∙ it.1)
  where
    no_entry : (it : Entry) → ◌≡◌ {A = Option Entry} None (Some it) → ⊥
    no_entry it e = cc

pub none_there_so : (entries : List Entry) (n : ℕ) → n < length entries → ◌≡◌ {A = Option Entry} None (slice_get entries n) → (A : Type 0) → A
none_there_so entries n within e A = absurd {A = A} (none_there entries n within e)
