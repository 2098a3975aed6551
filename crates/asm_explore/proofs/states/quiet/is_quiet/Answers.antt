use Rattle.std.proofs.Common.{ℕ, Bool, sym, subst}
use Rattle.std.specs.Prelude.{◌↔◌, IsTrue}
use Rattle.asm_state.specs.Signature.{Shape, count_of, state_of}
use Rattle.asm_meaning.specs.Run.{Specification}
use Rattle.asm_explore.specs.code.OutcomeLists.{AreCounted}
use Rattle.asm_explore.specs.code.StepOutcomes.{IsStep}
use Rattle.asm_explore.specs.Search.{IsQuiet}
use Rattle.asm_explore.proofs.SearchEnds.{errs_or}
use Rattle.asm_explore.proofs.states.quiet.is_quiet.Goals as goal

pub all_stay-requires-clause-counted : goal.all_stay-requires-clause-counted
all_stay-requires-clause-counted g c = subst (λ (s : Shape). AreCounted (count_of s) c.args.outcomes.now) (sym c.signature.ensures) c.requires.step.lists.counted

pub returns : goal.returns
returns g c =
    let a = c.args in
    let specification = g.M.Machine.specification a.machine.now in
    let turns = g.M.Machine.turns a.machine.now in
    let signature = c.signature.result.now in
    errs_or (λ (so : Bool). (specification : Specification) (turns : ℕ) → IsStep signature specification turns (state_of signature a.state.now) a.outcomes.now → IsTrue so ↔ IsQuiet specification turns (state_of signature a.state.now))
    (λ (so : Bool). IsTrue so ↔ IsQuiet specification turns (state_of (g.M.Machine.shape a.machine.now) a.state.now)) c.all_stay.result
    (λ so h. subst (λ (s : Shape). IsTrue so ↔ IsQuiet specification turns (state_of s a.state.now)) c.signature.ensures
    (h specification turns (subst (λ (s : Shape). IsStep s specification turns (state_of s a.state.now) a.outcomes.now) (sym c.signature.ensures) c.requires.step)))
    c.all_stay.ensures
