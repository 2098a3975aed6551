use Rattle.std.proofs.Common.{◌≡◌, ◌++◌, ◌∷◌, [], ◌+◌, decimal, drop, get_or, inr, ap, ◌∙◌, sym, subst}
use Rattle.std.specs.String.{string_bytes}
use Rattle.std.proofs.lemmas.List.{append-nil, at_drop_all, drop_all, drop_more}
use Rattle.std.proofs.lemmas.Result.{err_from_is_err_and}
use Rattle.asm_explore.specs.WrittenScripts.{AnyIsLong, AreShort, dotted}
use Rattle.asm_explore.proofs.ScriptLemmas.TextFronts.{dotted_at, grown, long_first, shorter, refusal_in}
use Rattle.asm_explore.proofs.scripts.writing.add_dotted.Goals as goal

pub returns-in_err-add_outcome-clause-refused : goal.returns-in_err-add_outcome-clause-refused
returns-in_err-add_outcome-clause-refused c =
    let p = err_from_is_err_and c.from_residual.result c.from_residual.ensures.1 in
    let ns = c.args.numbers.now in
    let text = string_bytes c.loop-i.text in
    let whole = string_bytes c.args.text.now ++ dotted ns in
    let rest = decimal (get_or ns c.loop-i.i 0) ++ dotted (drop (c.loop-i.i + 1) ns) in
    let leads : text ++ 46 ∷ rest ≡ whole = ap (λ it. text ++ it) (sym (dotted_at ns c.loop-i.i c.loop-i-test.true)) ∙ c.loop-i.invariant.text in
    rw (p.1, p.2) (refusal_in [] ns (text ++ 46 ∷ []) whole c.in_err-add_outcome.field-0.0 (λ (h : AnyIsLong []). absurd h) (shorter text (46 ∷ []) rest whole leads) c.in_err-add_outcome.ensures.refused)

pub returns-in_err-add_number-clause-refused : goal.returns-in_err-add_number-clause-refused
returns-in_err-add_number-clause-refused c =
    let p = err_from_is_err_and c.from_residual-in_err-add_number.result c.from_residual-in_err-add_number.ensures.1 in
    let ns = c.args.numbers.now in
    let k = get_or ns c.loop-i.i 0 in
    let text = string_bytes c.loop-i.text in
    let whole = string_bytes c.args.text.now ++ dotted ns in
    let after = dotted (drop (c.loop-i.i + 1) ns) in
    let leads : text ++ 46 ∷ (decimal k ++ after) ≡ whole = ap (λ it. text ++ it) (sym (dotted_at ns c.loop-i.i c.loop-i-test.true)) ∙ c.loop-i.invariant.text in
    let next : string_bytes c.add_outcome.new.text ++ (decimal k ++ after) ≡ whole = grown text (46 ∷ []) (decimal k ++ after) whole (string_bytes c.add_outcome.new.text) leads c.in_ok-add_outcome.ensures.bytes in
    rw (p.1, p.2) (refusal_in (k ∷ []) ns (string_bytes c.add_outcome.new.text ++ decimal k) whole c.in_err-add_number.field-0.0
    (λ (h : AnyIsLong (k ∷ [])). c.loop-i.invariant.long (subst AnyIsLong (sym (drop_more ns c.loop-i.i 0 c.loop-i-test.true)) (long_first k (drop (c.loop-i.i + 1) ns) h)))
    (shorter (string_bytes c.add_outcome.new.text) (decimal k) after whole next) c.in_err-add_number.ensures.refused)

pub loop-i-preserved : goal.loop-i-preserved
loop-i-preserved c =
    let ns = c.args.numbers.now in
    let k = get_or ns c.loop-i.i 0 in
    let text = string_bytes c.loop-i.text in
    let whole = string_bytes c.args.text.now ++ dotted ns in
    let after = dotted (drop (c.loop-i.i + 1) ns) in
    let more = drop_more ns c.loop-i.i 0 c.loop-i-test.true in
    let leads : text ++ 46 ∷ (decimal k ++ after) ≡ whole = ap (λ it. text ++ it) (sym (dotted_at ns c.loop-i.i c.loop-i-test.true)) ∙ c.loop-i.invariant.text in
    let next : string_bytes c.add_outcome.new.text ++ (decimal k ++ after) ≡ whole = grown text (46 ∷ []) (decimal k ++ after) whole (string_bytes c.add_outcome.new.text) leads c.in_ok-add_outcome.ensures.bytes in
    record {
      text = grown (string_bytes c.add_outcome.new.text) (decimal k) after whole (string_bytes c.add_number.new.text) next c.in_ok-add_number.ensures.bytes;
      fits = c.in_ok-add_number.ensures.fits;
      short = λ h. c.loop-i.invariant.short (subst AreShort (sym more) (c.in_ok-add_number.ensures.short.0, h));
      long = λ h. c.loop-i.invariant.long (subst AnyIsLong (sym more) (inr h));
    }

pub returns : goal.returns
returns c =
    let ns = c.args.numbers.now in
    let text = string_bytes c.loop-i.text in
    record {
      bytes = sym (append-nil text) ∙ ap (λ it. text ++ it) (sym (at_drop_all dotted ns c.loop-i.i c.loop-i-test.false)) ∙ c.loop-i.invariant.text;
      fits = c.loop-i.invariant.fits;
      short = c.loop-i.invariant.short (subst AreShort (sym (drop_all c.loop-i.i ns c.loop-i-test.false)) tt);
      refused = tt;
    }
