-- Free. Where a step leads.
--     exhausted_leads     nowhere, if it is exhausted
--     exhausted_stays     so it doesn't leave the state as it is
use Rattle.std.proofs.Common.{◌≡◌, None, sym, subst, ◌∙◌}
use Rattle.asm_state.specs.Location.{State}
use Rattle.asm_state.specs.Signature.{Shape}
use Rattle.asm_meaning.specs.Yields.{Path, Result, Gives, Exhausted}
use Rattle.asm_explore.specs.code.StepLeads.{LeadsTo}
use Rattle.asm_explore.specs.Search.{LeadsOn}

pub exhausted_leads : (shape : Shape) (A : State) (r : Result) (q : Path) → r ≡ Exhausted q → LeadsTo shape A r None
exhausted_leads shape A r q is = subst (λ it. LeadsTo shape A it None) (sym is) tt

pub exhausted_stays : (r : Result) (A : State) (known : State → Type 0) (q : Path) → r ≡ Exhausted q → LeadsOn r A known → ⊥
exhausted_stays r A known q is leads = let never : Exhausted q ≡ Gives leads.set = sym is ∙ leads.gives in cc
