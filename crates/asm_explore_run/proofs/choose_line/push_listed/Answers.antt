use Rattle.std.proofs.Common.{◌++◌, ◌∙◌, ap, codes, arith}
use Rattle.asm_syntax.specs.code.Views.{spec_of}
use Rattle.asm_run.specs.Written.{names_in}
use Rattle.asm_explore_run.specs.ChoicesText.{candidate_text}
use Rattle.asm_explore_run.proofs.ChoiceEntries.{listed_first, listed_next}
use Rattle.asm_explore_run.proofs.choose_line.push_listed.Goals as goal
use Rattle.asm_explore_run.proofs.choose_line.push_listed.Goals.{then-i-gt0+in_ok-extend_from_slice, else-i-gt0}

pub loop-i-preserved : goal.loop-i-preserved
loop-i-preserved c =
    let names = names_in (spec_of c.args.checked.now.spec) in
    let taken = c.args.taken in
    let vs = c.args.values.now in
    let i = c.loop-i.i in
    let v = c.index-values-i.result in
    let old = c.args.line.now.items in
    let new = c.push_candidate.new.line.items in
    let is = c.index-values-i.is in
    elim c.if-i-gt0.branch [
      | then-i-gt0+in_ok-extend_from_slice w ↦
          listed_next names taken vs i v old new c.loop-i-test.true (omega (arith, w.if-i-gt0.true)) is
          (c.in_ok-push_candidate.ensures ∙ ap (λ t. t ++ candidate_text names taken (i, v))
          (ap (λ l. l.items) w.line-is ∙ (w.in_ok-extend_from_slice.ensures.items ∙ ap (λ t. t ++ codes ", ") c.loop-i.invariant)))
      | else-i-gt0 w ↦
          listed_first names taken vs i v old new c.loop-i-test.true (omega (arith, w.if-i-gt0.false)) is
          (c.in_ok-push_candidate.ensures ∙ ap (λ t. t ++ candidate_text names taken (i, v)) (ap (λ l. l.items) w.line-is ∙ c.loop-i.invariant))
    ]
