use Rattle.std.proofs.Common.{arith, length, ap, sym, subst, refl, ◌∙◌, not, take}
use Rattle.std.specs.Option.{option_map}
use Rattle.asm_reader.specs.code.PathNumbers.{Says}
use Rattle.asm_reader.specs.ScriptText.{line_said, script_in}
use Rattle.asm_reader.proofs.ScriptLemmas.FirstFaults.{without_returns, no_lines_faulty, skipped_more, skipped_says, bad_line, repeated_line, taken_more, taken_says}
use Rattle.asm_reader.proofs.ScriptLemmas.Sizes.{line_size, next_bytes}
use Rattle.asm_reader.proofs.script_reading.read_lines.Goals as goal

pub loop-i-init : goal.loop-i-init
loop-i-init c = record { faultless = no_lines_faulty; says = c.new-places.ensures.says; room = omega (arith, ap length c.new-places.ensures.no_ways, c.requires) }

pub loop-i-preserved-then-is_skipped : goal.loop-i-preserved-then-is_skipped
loop-i-preserved-then-is_skipped c =
    let next = next_bytes c.args.lines.now c.loop-i.i _ _ c.loop-i-test.true c.without_return-line.ensures in
    let skipped = sym c.is_skipped.ensures ∙ c.if-is_skipped.true in
    let before = script_in (without_returns (take c.loop-i.i c.args.lines.now)) in
    record {
      faultless = skipped_more c.args.lines.now c.loop-i.i _ _ c.loop-i-test.true c.without_return-line.ensures skipped c.loop-i.invariant.faultless;
      says = subst (Says c.loop-i.places) (skipped_says c.args.lines.now c.loop-i.i _ _ c.loop-i-test.true c.without_return-line.ensures skipped before refl) c.loop-i.invariant.says;
      room = omega (arith, c.loop-i.invariant.room, next);
    }

pub add-requires : goal.add-requires
add-requires c =
    let line = sym c.in_ok-choice.ensures ∙ ap (option_map line_said) c.in-Some.is in
    let next = next_bytes c.args.lines.now c.loop-i.i _ _ c.loop-i-test.true c.without_return-line.ensures in
    let size = line_size c.without_return-line.result.now c.in-Some.choice line in
    omega (arith, c.loop-i.invariant.room, next, size)

pub returns-in_default-clause-refused : goal.returns-in_default-clause-refused
returns-in_default-clause-refused c =
    bad_line c.args.lines.now c.loop-i.i _ _ c.loop-i-test.true c.without_return-line.ensures
    (sym c.is_skipped.ensures ∙ c.if-is_skipped.false)
    (sym c.in_ok-choice.ensures ∙ ap (option_map line_said) c.in_default.is)
    c.loop-i.invariant.faultless

pub returns-then-not-branch-clause-refused : goal.returns-then-not-branch-clause-refused
returns-then-not-branch-clause-refused c =
    let before = script_in (without_returns (take c.loop-i.i c.args.lines.now)) in
    repeated_line c.args.lines.now c.loop-i.i _ _ c.loop-i-test.true c.without_return-line.ensures
    (sym c.is_skipped.ensures ∙ c.if-is_skipped.false)
    (line_said c.in-Some.choice)
    (sym c.in_ok-choice.ensures ∙ ap (option_map line_said) c.in-Some.is)
    before refl
    (c.in_ok-add.ensures.added before c.loop-i.invariant.says ∙ ap not c.if-not-branch.true)
    c.loop-i.invariant.faultless

pub loop-i-preserved : goal.loop-i-preserved
loop-i-preserved c =
    let read = sym c.is_skipped.ensures ∙ c.if-is_skipped.false in
    let line = sym c.in_ok-choice.ensures ∙ ap (option_map line_said) c.in-Some.is in
    let next = next_bytes c.args.lines.now c.loop-i.i _ _ c.loop-i-test.true c.without_return-line.ensures in
    let size = line_size c.without_return-line.result.now c.in-Some.choice line in
    let before = script_in (without_returns (take c.loop-i.i c.args.lines.now)) in
    record {
      faultless =
          taken_more c.args.lines.now c.loop-i.i _ _ c.loop-i-test.true c.without_return-line.ensures read (line_said c.in-Some.choice) line before refl
          (c.in_ok-add.ensures.added before c.loop-i.invariant.says ∙ ap not c.if-not-branch.false) c.loop-i.invariant.faultless;
      says =
          subst (Says c.add.new.self) (taken_says c.args.lines.now c.loop-i.i _ _ c.loop-i-test.true c.without_return-line.ensures read (line_said c.in-Some.choice) line before refl)
          (c.in_ok-add.ensures.taken before c.loop-i.invariant.says c.if-not-branch.false);
      room = omega (arith, c.loop-i.invariant.room, next, size, c.in_ok-add.ensures.room);
    }
