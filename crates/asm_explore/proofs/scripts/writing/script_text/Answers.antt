use Rattle.std.proofs.Common.{◌≡◌, get_or, ◌+◌, ◌++◌, ◌∷◌, [], ap, ◌∙◌, sym, subst}
use Rattle.std.specs.String.{string_bytes}
use Rattle.std.proofs.lemmas.Grind.{flat_map-append}
use Rattle.std.proofs.lemmas.List.{append-nil, at_drop_all}
use Rattle.std.proofs.lemmas.Result.{err_from_is_err_and}
use Rattle.asm_explore.specs.declared.scripts.script_line.ScriptLine.{ScriptLine}
use Rattle.asm_explore.specs.WrittenScripts.{line_said, lines_said, AnyIsLong, AreShort, IsLong, IsShort, IsTextOf, line_text, lines_text, numbers_in, numbers_of_line, written}
use Rattle.asm_explore.proofs.ScriptLemmas.TextFronts.{grown, left, left_at, shorter, refusal_in}
use Rattle.asm_explore.proofs.ScriptLemmas.LinesLeftOut.{apart_of, apart_written, steps_written}
use Rattle.asm_explore.proofs.ScriptLemmas.WrittenIsRead.{reads_back}
use Rattle.asm_explore.proofs.OutcomeLemmas.ListLemmas.{any_first, any_last, each_append}
use Rattle.asm_explore.proofs.scripts.writing.script_text.Goals as goal

pub returns-in_err-add_written-clause-refused : goal.returns-in_err-add_written-clause-refused
returns-in_err-add_written-clause-refused c =
    let p = err_from_is_err_and c.from_residual.result c.from_residual.ensures.1 in
    let zeros = c.args.zeros in
    let lines = c.args.lines.now in
    let i = c.loop-i.i in
    let d : ScriptLine = record { step = 0; path = record { ref_ptr = (0, 0); now = [] }; number = 0 } in
    let one = written zeros (line_said (get_or lines i d) ∷ []) in
    let after = left zeros lines (i + 1) in
    let whole = written zeros (lines_said lines) in
    let at : left zeros lines i ≡ one ++ after = left_at zeros lines i d c.loop-i-test.true in
    let leads : string_bytes c.loop-i.text ++ (lines_text one ++ lines_text after) ≡ lines_text whole =
    ap (λ it. string_bytes c.loop-i.text ++ it) (sym (ap lines_text at ∙ flat_map-append line_text one after)) ∙ c.loop-i.invariant.text in
    let numbers : numbers_in (left zeros lines i) ≡ numbers_in one ++ numbers_in after = ap numbers_in at ∙ flat_map-append numbers_of_line one after in
    rw (p.1, p.2) (refusal_in (numbers_in one) (numbers_in whole) (string_bytes c.loop-i.text ++ lines_text one) (lines_text whole) c.in_err-add_written.field-0.0
    (λ (h : AnyIsLong (numbers_in one)). c.loop-i.invariant.long (subst AnyIsLong (sym numbers) (any_first IsLong (numbers_in one) (numbers_in after) h)))
    (shorter (string_bytes c.loop-i.text) (lines_text one) (lines_text after) (lines_text whole) leads) c.in_err-add_written.ensures.refused)

pub loop-i-preserved : goal.loop-i-preserved
loop-i-preserved c =
    let zeros = c.args.zeros in
    let lines = c.args.lines.now in
    let i = c.loop-i.i in
    let d : ScriptLine = record { step = 0; path = record { ref_ptr = (0, 0); now = [] }; number = 0 } in
    let one = written zeros (line_said (get_or lines i d) ∷ []) in
    let after = left zeros lines (i + 1) in
    let whole = written zeros (lines_said lines) in
    let at : left zeros lines i ≡ one ++ after = left_at zeros lines i d c.loop-i-test.true in
    let leads : string_bytes c.loop-i.text ++ (lines_text one ++ lines_text after) ≡ lines_text whole =
    ap (λ it. string_bytes c.loop-i.text ++ it) (sym (ap lines_text at ∙ flat_map-append line_text one after)) ∙ c.loop-i.invariant.text in
    let numbers : numbers_in (left zeros lines i) ≡ numbers_in one ++ numbers_in after = ap numbers_in at ∙ flat_map-append numbers_of_line one after in
    record {
      text = grown (string_bytes c.loop-i.text) (lines_text one) (lines_text after) (lines_text whole) (string_bytes c.add_written.new.text) leads c.in_ok-add_written.ensures.bytes;
      fits = c.in_ok-add_written.ensures.fits;
      short = λ h. c.loop-i.invariant.short (subst AreShort (sym numbers) (each_append IsShort (numbers_in one) (numbers_in after) c.in_ok-add_written.ensures.short h));
      long = λ h. c.loop-i.invariant.long (subst AnyIsLong (sym numbers) (any_last IsLong (numbers_in one) (numbers_in after) h));
    }

pub returns : goal.returns
returns c =
    let zeros = c.args.zeros in
    let lines = c.args.lines.now in
    let whole = written zeros (lines_said lines) in
    let text = string_bytes c.loop-i.text in
    let none : left zeros lines c.loop-i.i ≡ [] = at_drop_all (λ ls. written zeros (lines_said ls)) lines c.loop-i.i c.loop-i-test.false in
    let it : IsTextOf whole text = record {
      is = sym (append-nil text) ∙ ap (λ ls. text ++ lines_text ls) (sym none) ∙ c.loop-i.invariant.text;
      fits = c.loop-i.invariant.fits;
      short = c.loop-i.invariant.short (subst (λ ls. AreShort (numbers_in ls)) (sym none) tt);
    } in
    record { text = it; script = λ steps apart. reads_back whole text it (steps_written zeros (lines_said lines) steps) (apart_written zeros (lines_said lines) (apart_of (lines_said lines) apart)); refused = tt }
