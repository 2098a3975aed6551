-- Free. Outcomes that lead from a state to another, and those that don't.
--     gives_same          a result gives one set
--     wrong_leads         a set with a fault leads nowhere
--     none_leads          if no outcome leads there, no situation does
--     comes, is_first     a node comes from another, or is the first one
--     leads_back          the choices of one more step after those of others
--     leads_apart         those of each step are at paths of their own
use Rattle.std.proofs.Common.{◌≡◌, ℕ, ◌<◌, Bool, List, [], ◌∷◌, ◌++◌, inl, inr, map, ap, sym, subst, ◌∙◌, arith, append_assoc, Vec, Global}
use Rattle.std.specs.Prelude.{slice_get, Some}
use Rattle.std.proofs.lemmas.List.{map-append}
use Rattle.asm_state.specs.Location.{State}
use Rattle.asm_state.specs.Signature.{Shape}
use Rattle.asm_state.specs.Updates.{UpdateSet, IsConsistent}
use Rattle.asm_meaning.specs.Yields.{Result, Gives}
use Rattle.asm_meaning.specs.Run.{Specification}
use Rattle.asm_explore.specs.declared.outcomes.listed_outcome.Choice.{Choice}
use Rattle.asm_explore.specs.declared.outcomes.listed_outcome.ListedOutcome.{ListedOutcome}
use Rattle.asm_explore.specs.code.PackedNodes.{Node}
use Rattle.asm_explore.specs.code.OutcomeLists.{Each, Shows, Shown}
use Rattle.asm_explore.specs.code.ChoicePaths.{HaveOwnPaths}
use Rattle.asm_explore.specs.code.ReachedStates.{ComesFrom, IsLinked, LeadTo, state_at}
use Rattle.asm_explore.specs.Search.{LeadsOn}
use Rattle.asm_explore.proofs.StateLemmas.MoreNodes.{both_of, each_got}

pub gives_same : (U V : UpdateSet) → Gives U ≡ Gives V → U ≡ V
gives_same U V is = cc

pub wrong_leads : (r : Result) (A : State) (known : State → Type 0) (U : UpdateSet) → r ≡ Gives U → ¬ (IsConsistent U) → LeadsOn r A known → ⊥
wrong_leads r A known U gives faulty leads =
    faulty (subst IsConsistent (gives_same leads.set U (sym leads.gives ∙ gives)) leads.consistent)

pub none_leads : (shape : Shape) (fs : List ListedOutcome) (r : Result) (A : State) (known : State → Type 0)
    → Each (λ f. (r : Result) → Shows shape f.answer r → LeadsOn r A known → ⊥) fs → Shown shape fs r → LeadsOn r A known → ⊥
none_leads shape fs r A known each shown leads =
    let one = both_of (λ (f : ListedOutcome). (r : Result) → Shows shape f.answer r → LeadsOn r A known → ⊥) (λ f. Shows shape f.answer r) fs each shown in
    one.1 r one.2 leads

module _ (shape : Shape) (specification : Specification) (turns : ℕ) (nodes : List Node) (linked : Each (IsLinked shape specification turns nodes) nodes) where
  pub comes : (i : ℕ) (m : Node) → slice_get nodes i ≡ Some m → 0 < m.depth → ComesFrom shape specification turns nodes m
  comes i m there deep = by_link (each_got (IsLinked shape specification turns nodes) nodes i m linked there)
    where
      by_link : IsLinked shape specification turns nodes m → ComesFrom shape specification turns nodes m
      by_link (inl first) = absurd (omega (arith, deep, first.0))
      by_link (inr from) = from

  pub is_first : (i : ℕ) (m : Node) → slice_get nodes i ≡ Some m → m.depth ≡ 0 → state_at shape m ≡ specification.initial
  is_first i m there flat = by_link (each_got (IsLinked shape specification turns nodes) nodes i m linked there)
    where
      by_link : IsLinked shape specification turns nodes m → state_at shape m ≡ specification.initial
      by_link (inl first) = first.1
      by_link (inr from) = absurd (omega (arith, flat, from.deeper))

abbrev choices_in : List (Vec Choice Global) → List (List Choice)
choices_in xs = map (λ (cs : Vec Choice Global). cs.items) xs

pub leads_back : (xs ys : List (Vec Choice Global)) (cs : Vec Choice Global) (back : List (List Choice)) → ys ≡ xs ++ cs ∷ []
    → choices_in xs ++ (cs.items ∷ back) ≡ choices_in ys ++ back
leads_back xs ys cs back is =
    sym (ap (λ zs. choices_in zs ++ back) is ∙ ap (λ zs. zs ++ back) (map-append (λ (cs : Vec Choice Global). cs.items) xs (cs ∷ [])) ∙ append_assoc (choices_in xs) (cs.items ∷ []) back)

pub leads_apart : (specification : Specification) (turns : ℕ) (within : State → Bool) (back : List (List Choice)) (B : State) → LeadTo specification turns within B back → Each HaveOwnPaths back
leads_apart specification turns within [] B leads = tt
leads_apart specification turns within (cs ∷ back) B leads = (leads.3.apart, leads_apart specification turns within back leads.0 leads.1)
