use Rattle.std.proofs.Common.{◌≡◌, ◌∙◌, ap, sym, subst}
use Rattle.asm_state.specs.Signature.{Shape, initial_state, state_of}
use Rattle.asm_random.specs.code.ResolvedRuns.{right_in}
use Rattle.asm_random.proofs.random.result_of_runs.Goals as goal

pub returns-then-not-is_right-clause-claims : goal.returns-then-not-is_right-clause-claims
returns-then-not-is_right-clause-claims g c =
    let m = c.args.specified.now in
    let first = subst (λ (sh : Shape). state_of sh c.in_ok-initial.initial ≡ initial_state sh) c.signature.ensures c.in_ok-initial.ensures.initial in
    ap (right_in m) (sym first) ∙ sym c.if-not-is_right.ensures

pub runs_of-requires : goal.runs_of-requires
runs_of-requires g c =
    let m = c.args.specified.now in
    let first = subst (λ (sh : Shape). state_of sh c.in_ok-initial.initial ≡ initial_state sh) c.signature.ensures c.in_ok-initial.ensures.initial in
    record { specified = c.requires; right = ap (right_in m) (sym first) ∙ sym c.if-not-is_right.ensures }
