use Rattle.std.proofs.Common.{◌∙◌, ℕ, List, cond, nat_eq, Some, ap, Vec, Global}
use Rattle.std.specs.Cmp.Lexicographic.{pointwise}
use Rattle.asm_reader.specs.ScriptLines.{exact_choice}
use Rattle.asm_random.specs.code.Drafts.{lines_in}
use Rattle.asm_random.proofs.PutNumbers.{put_in}
use Rattle.asm_random.proofs.drawn_step.put_number.Goals as goal

pub returns-clause-put : goal.returns-clause-put
returns-clause-put c = λ other step p.
    let key = c.in_ok-path.path in
    let old = c.args.numbers.now.entries in
    ap (λ (es : List (Vec ℕ Global × ℕ)). exact_choice (lines_in step es) step p) c.in_ok-insert.ensures.entries
    ∙ put_in step key c.args.number p old
    ∙ ap (λ (q : List ℕ). cond (pointwise nat_eq p q) (Some c.args.number) (exact_choice (lines_in step old) step p)) (c.in_ok-path.ensures.items_if_clones_equal (λ x y same. same))
