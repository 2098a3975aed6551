use Rattle.std.proofs.Common.{◌≡◌, [], refl, subst, IfOk}
use Rattle.std.proofs.lemmas.List.{append-nil}
use Rattle.asm_syntax.specs.code.Views.{term_of}
use Rattle.asm_explore_because.specs.Parts as parts
use Rattle.asm_explore_because.specs.code.CodedParts.{bound_of, spec_in, state_in}
use Rattle.asm_explore_because.proofs.value_under.value_under.Goals as goal

pub returns-clause-value : goal.returns-clause-value
returns-clause-value c =
    let scene = c.args.scene.now in
    subst (λ b. IfOk c.value_within.result (λ v. v ≡ parts.value_under (spec_in scene) (state_in scene) b (term_of c.args.term.now))) (append-nil (bound_of c.args.bound.now))
    (c.value_within.ensures.value [] (record { names = refl; values = refl }))
