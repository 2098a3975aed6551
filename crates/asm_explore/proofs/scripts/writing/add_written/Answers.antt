use Rattle.std.proofs.Common.{◌≡◌, ◌++◌, ◌∷◌, [], cond, IfErr, OnOk, ap, ◌∙◌, sym, subst}
use Rattle.std.specs.String.{string_bytes}
use Rattle.std.proofs.lemmas.List.{append-nil}
use Rattle.asm_explore.specs.WrittenScripts.{line_said, AreShort, IsTextRefusal, line_text, lines_text, numbers_in, numbers_of_line, written}
use Rattle.asm_explore.proofs.scripts.writing.add_written.Goals as goal

pub returns-then-writes : goal.returns-then-writes
returns-then-writes c =
    let said = line_said c.args.line.now in
    let r = c.add_line.result in
    let old = string_bytes c.args.text.now in
    let new = string_bytes c.add_line.new.text in
    let one : said ∷ [] ≡ written c.args.zeros (said ∷ []) = ap (λ b. cond b (said ∷ []) []) (sym c.if-writes.true ∙ c.writes.ensures) in
    let bytes : line_text said ≡ lines_text (written c.args.zeros (said ∷ [])) = sym (append-nil (line_text said)) ∙ ap lines_text one in
    let numbers : numbers_of_line said ≡ numbers_in (written c.args.zeros (said ∷ [])) = sym (append-nil (numbers_of_line said)) ∙ ap numbers_in one in
    record {
      bytes = subst (λ it. OnOk r (new ≡ old ++ it)) bytes c.add_line.ensures.bytes;
      fits = c.add_line.ensures.fits;
      short = subst (λ it. OnOk r (AreShort it)) numbers c.add_line.ensures.short;
      refused = subst (λ it. IfErr r (IsTextRefusal (numbers_in (written c.args.zeros (said ∷ []))) (old ++ it))) bytes
          (subst (λ it. IfErr r (IsTextRefusal it (old ++ line_text said))) numbers c.add_line.ensures.refused);
    }

pub returns : goal.returns
returns c =
    let said = line_said c.args.line.now in
    let old = string_bytes c.args.text.now in
    let none : [] ≡ written c.args.zeros (said ∷ []) = ap (λ b. cond b (said ∷ []) []) (sym c.if-writes.false ∙ c.writes.ensures) in
    record {
      bytes = sym (append-nil old) ∙ ap (λ ls. old ++ lines_text ls) none;
      fits = c.requires;
      short = subst (λ ls. AreShort (numbers_in ls)) none tt;
      refused = tt;
    }
