use Rattle.std.proofs.Common.{sym, ap, subst, ◌∙◌, arith}
use Rattle.asm_code.specs.code.Readings.{at_position}
use Rattle.asm_eval.specs.code.Frames.{IsSoundFrame, frame_size, readings_of}
use Rattle.asm_eval.proofs.ValueCases.{later}
use Rattle.asm_eval.proofs.FramePositions.{behind_values}
use Rattle.asm_eval.proofs.find.find.Goals as goal

pub loop-rest-preserved-in-One : goal.loop-rest-preserved-in-One
loop-rest-preserved-in-One c =
    let same = ap frame_size c.in-One.is in record {
      reading = λ shape. sym (later _ _ c.loop-rest.left c.if-left-eq0.false) ∙ ap (λ f. at_position (readings_of shape f) c.loop-rest.left) (sym c.in-One.is) ∙ c.loop-rest.invariant.reading shape;
      sound = λ shape s. subst (IsSoundFrame shape) c.in-One.is (c.loop-rest.invariant.sound shape s);
      load = omega (arith, c.loop-rest.invariant.load, same);
    }

pub loop-rest-preserved : goal.loop-rest-preserved
loop-rest-preserved c =
    let same = ap frame_size c.in-Values.is in
    let past = c.in_default.ensures.lookup in record {
      reading = λ shape. behind_values c.in-Values.values.now (readings_of shape c.in-Values.outer.now) c.loop-rest.left (omega (arith, past))
          ∙ ap (λ f. at_position (readings_of shape f) c.loop-rest.left) (sym c.in-Values.is) ∙ c.loop-rest.invariant.reading shape;
      sound = λ shape s. subst (IsSoundFrame shape) c.in-Values.is (c.loop-rest.invariant.sound shape s);
      load = omega (arith, c.loop-rest.invariant.load, same);
    }

pub returns-in-Terms-clause-sound : goal.returns-in-Terms-clause-sound
returns-in-Terms-clause-sound c =
    λ shape s. let inner = subst (IsSoundFrame shape) c.in-Terms.is (c.loop-rest.invariant.sound shape s) in c.in_terms.ensures.sound shape inner.0 inner.1 inner.2
