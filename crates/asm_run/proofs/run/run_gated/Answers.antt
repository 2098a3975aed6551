use Rattle.std.proofs.Common.{◌≡◌, false, true}
use Rattle.std.proofs.lemmas.Result.{err_from_is_err_and}
use Rattle.asm_syntax.specs.SourceTree.{Spec}
use Rattle.asm_syntax.specs.code.Views.{spec_of}
use Rattle.asm_run.specs.Headline.{IsAccepted}
use Rattle.asm_limits.specs.Limits.{are_in_range}
use Rattle.asm_run.proofs.RunOfTexts.{refused_text, refused_tree, refused_script, out_of_range, no_memory, whole}
use Rattle.asm_run.proofs.run.run_gated.Goals as goal

pub returns-in_err-tree : goal.returns-in_err-tree
returns-in_err-tree g c =
    let p = err_from_is_err_and c.from_residual.result c.from_residual.ensures.1 in
    rw (p.1, p.2)
    (refused_text c.args.spec.now c.args.script.now c.args.limits.now (g.S.Sink.bytes c.args.out.now) (g.S.Sink.has_failed c.args.out.now) c.requires
    c.in_err-tree.field-0.0 c.in_err-tree.ensures.refused (λ is_long. cc (c.in_err-tree.ensures.too_long is_long)) c.in_err-tree.ensures.memory)

pub returns-in_err-checked : goal.returns-in_err-checked
returns-in_err-checked g c =
    let p = err_from_is_err_and c.from_residual-in_err-checked.result c.from_residual-in_err-checked.ensures.1 in
    rw (p.1, p.2)
    (refused_tree c.args.spec.now c.args.script.now c.args.limits.now (g.S.Sink.bytes c.args.out.now) (g.S.Sink.has_failed c.args.out.now) c.requires
    (spec_of c.in_ok-tree.tree) c.in_ok-tree.ensures.found c.in_err-checked.field-0.0 c.in_err-checked.ensures.refused)

pub returns-in_err-script : goal.returns-in_err-script
returns-in_err-script g c =
    let tree : Spec = spec_of c.in_ok-checked.checked.spec in
    let accepted : IsAccepted c.args.spec.now tree = record {
      spelled = rw c.in_ok-checked.ensures.accepted c.in_ok-tree.ensures.found;
      faultless = rw c.in_ok-checked.ensures.accepted c.in_ok-checked.ensures.well_formed;
    } in
    let p = err_from_is_err_and c.from_residual-in_err-script.result c.from_residual-in_err-script.ensures.1 in
    rw (p.1, p.2)
    (refused_script c.args.spec.now c.args.script.now c.args.limits.now (g.S.Sink.bytes c.args.out.now) (g.S.Sink.has_failed c.args.out.now) c.requires
    tree accepted c.in_err-script.field-0.0 c.in_err-script.ensures.refused)

pub returns-then-not-are_in_range : goal.returns-then-not-are_in_range
returns-then-not-are_in_range g c =
    let limits = c.args.limits.now in
    let tree : Spec = spec_of c.in_ok-checked.checked.spec in
    let accepted : IsAccepted c.args.spec.now tree = record {
      spelled = rw c.in_ok-checked.ensures.accepted c.in_ok-tree.ensures.found;
      faultless = rw c.in_ok-checked.ensures.accepted c.in_ok-checked.ensures.well_formed;
    } in
    let is_out : are_in_range limits ≡ false = rw (← c.are_in_range.ensures) c.if-not-are_in_range.true in
    out_of_range c.args.spec.now c.args.script.now limits (g.S.Sink.bytes c.args.out.now) (g.S.Sink.has_failed c.args.out.now) c.requires
    tree accepted c.in_ok-script.script c.in_ok-script.ensures.found is_out

pub returns-in_err-code : goal.returns-in_err-code
returns-in_err-code g c =
    let p = err_from_is_err_and c.from_residual-in_err-code.result c.from_residual-in_err-code.ensures.1 in
    rw (p.1, p.2)
    (no_memory c.args.spec.now c.args.script.now c.args.limits.now (g.S.Sink.bytes c.args.out.now) (g.S.Sink.has_failed c.args.out.now) c.requires
    (spec_of c.in_ok-tree.tree) c.in_ok-tree.ensures.found)

pub returns : goal.returns
returns g c =
    let limits = c.args.limits.now in
    let tree : Spec = spec_of c.in_ok-checked.checked.spec in
    let accepted : IsAccepted c.args.spec.now tree = record {
      spelled = rw c.in_ok-checked.ensures.accepted c.in_ok-tree.ensures.found;
      faultless = rw c.in_ok-checked.ensures.accepted c.in_ok-checked.ensures.well_formed;
    } in
    let in_range : are_in_range limits ≡ true = rw (← c.are_in_range.ensures) c.if-not-are_in_range.false in
    whole c.args.spec.now c.args.script.now limits (g.S.Sink.bytes c.args.out.now) (g.S.Sink.bytes c.run_steps-ended.new.out) (g.S.Sink.has_failed c.run_steps-ended.new.out) tree accepted
    c.in_ok-script.script c.in_ok-script.ensures.found in_range c.run_steps-ended.result c.run_steps-ended.ensures
