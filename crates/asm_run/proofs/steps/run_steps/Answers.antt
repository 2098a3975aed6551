use Rattle.std.proofs.Common.{◌≡◌, ◌+◌, arith, inl, refl, rules}
use Rattle.std.proofs.lemmas.Result.{err_from_is_err_and}
use Rattle.asm_syntax.specs.code.Views.{spec_of}
use Rattle.asm_check.specs.Shapes.{shape_of}
use Rattle.asm_run.proofs.StepEnds.{begins, none_begun, out_of_memory, at_limit, at_stop, cut, goes_on}
use Rattle.asm_run.proofs.steps.run_steps.Goals as goal

pub loop-done-init : goal.loop-done-init
loop-done-init g c =
    let shaped : c.signature-signature.result.now ≡ shape_of (spec_of c.args.resolved.now.checked.now.spec) = c.signature-signature.ensures in (
      begins (spec_of c.args.resolved.now.checked.now.spec) c.args.resolved.now.turns (g.P.Picks.script c.args.script.now) c.args.steps c.in_ok-state.state c.new-forming.result.set.count (g.S.Sink.bytes c.args.out.now) (g.S.Sink.has_failed c.args.out.now)
          (record {
            contents_fit = rw shaped at c.in_ok-state.ensures.whole;
            set_fits = rw shaped at c.new-forming.ensures.count;
          })
          (rw shaped at c.in_ok-state.ensures.initial) c.requires.open,
      rw c.new-texts.ensures (λ n. inl refl),
    )

pub returns-in_err-state : goal.returns-in_err-state
returns-in_err-state g c =
    let p = err_from_is_err_and c.from_residual.result c.from_residual.ensures.1 in
    rw (p.1, p.2)
    (none_begun (spec_of c.args.resolved.now.checked.now.spec) c.args.resolved.now.turns (g.P.Picks.script c.args.script.now) c.args.steps (g.S.Sink.bytes c.args.out.now) (g.S.Sink.has_failed c.args.out.now) c.requires.open)

pub returns-in_err-end : goal.returns-in_err-end
returns-in_err-end g c =
    let now = c.loop-done in
    let p = err_from_is_err_and c.from_residual-in_err-end.result c.from_residual-in_err-end.ensures.1 in
    rw (p.1, p.2)
    (out_of_memory (spec_of c.args.resolved.now.checked.now.spec) c.args.resolved.now.checked.now.well_formed c.args.resolved.now.turns (g.P.Picks.script c.args.script.now) c.args.steps now.done now.state now.forming.set.count
    (g.S.Sink.bytes c.args.out.now) (g.S.Sink.bytes now.out) (g.S.Sink.has_failed now.out) now.invariant.0)

pub returns-in-Some : goal.returns-in-Some
returns-in-Some g c =
    let now = c.loop-done in
    at_stop (spec_of c.args.resolved.now.checked.now.spec) c.args.resolved.now.checked.now.well_formed c.args.resolved.now.turns (g.P.Picks.script c.args.script.now) c.args.steps now.done now.state now.forming.set.count
    (g.S.Sink.bytes c.args.out.now) (g.S.Sink.bytes now.out) (g.S.Sink.has_failed now.out) now.invariant.0
    c.loop-done-test.true (c.from.result + 1) (omega (arith, c.from.ensures)) (g.S.Sink.bytes c.finish.new.out) (g.S.Sink.has_failed c.finish.new.out)
    c.finish.result c.make_step.new.state c.in-Some.end (search rules) c.finish.ensures

pub returns-in_err-write_all : goal.returns-in_err-write_all
returns-in_err-write_all g c =
    let now = c.loop-done in
    let p = err_from_is_err_and c.from_residual-in_err-write_all.result c.from_residual-in_err-write_all.ensures.1 in
    rw (p.1, p.2)
    (cut (spec_of c.args.resolved.now.checked.now.spec) c.args.resolved.now.checked.now.well_formed c.args.resolved.now.turns (g.P.Picks.script c.args.script.now) c.args.steps now.done now.state now.forming.set.count
    (g.S.Sink.bytes c.args.out.now) (g.S.Sink.bytes now.out) (g.S.Sink.has_failed now.out) now.invariant.0
    c.loop-done-test.true (c.from.result + 1) (omega (arith, c.from.ensures)) c.make_step.new.state c.make_step.new.text.items (search rules)
    (g.S.Sink.bytes c.write_all.new.out) (g.S.Sink.has_failed c.write_all.new.out) (search rules) (search rules))

pub loop-done-preserved : goal.loop-done-preserved
loop-done-preserved g c =
    let now = c.loop-done in (
      goes_on (spec_of c.args.resolved.now.checked.now.spec) c.args.resolved.now.checked.now.well_formed c.args.resolved.now.turns (g.P.Picks.script c.args.script.now) c.args.steps now.done now.state now.forming.set.count
          (g.S.Sink.bytes c.args.out.now) (g.S.Sink.bytes now.out) (g.S.Sink.has_failed now.out) now.invariant.0
          c.loop-done-test.true (c.from.result + 1) (omega (arith, c.from.ensures)) c.make_step.new.state c.make_step.new.text.items (search rules)
          (g.S.Sink.bytes c.write_all.new.out) (g.S.Sink.has_failed c.write_all.new.out) c.make_step.new.forming.set.count (search rules) (search rules) (search rules),
      c.in_ok-end.ensures.known,
    )

pub returns : goal.returns
returns g c =
    let now = c.loop-done in
    at_limit (spec_of c.args.resolved.now.checked.now.spec) c.args.resolved.now.checked.now.well_formed c.args.resolved.now.turns (g.P.Picks.script c.args.script.now) c.args.steps now.done now.state now.forming.set.count
    (g.S.Sink.bytes c.args.out.now) (g.S.Sink.bytes now.out) (g.S.Sink.has_failed now.out) now.invariant.0
    (g.S.Sink.bytes c.finish-2.new.out) (g.S.Sink.has_failed c.finish-2.new.out) c.finish-2.result c.loop-done-test.false c.finish-2.ensures

pub finish-requires-clause-whole : goal.finish-requires-clause-whole
finish-requires-clause-whole g c = c.in_ok-end.ensures.sized.contents_fit

pub finish-requires-2-clause-whole : goal.finish-requires-2-clause-whole
finish-requires-2-clause-whole g c = c.loop-done.invariant.0.sized.contents_fit
