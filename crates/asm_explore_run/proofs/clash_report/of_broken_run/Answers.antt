use Rattle.std.proofs.Common.{◌∙◌, ◌∷◌, ap, refl}
use Rattle.asm_explore.specs.declared.fault.Fault.TheVariants.{Wrong}
use Rattle.asm_explore_texts.specs.Comments.{comments, lines_of}
use Rattle.asm_explore_report.specs.FirstLine.{fault_line}
use Rattle.asm_explore_run.proofs.clash_report.of_broken_run.Goals as goal

pub returns : goal.returns
returns c = λ tree terms script settings limited broken.
    let told = c.args.broken.told in
    record {
      first = c.in_ok-first.first.items;
      because = lines_of told.because.items;
      made = c.args.broken.steps;
      broken = record {
        limited = limited;
        words = told.words.items;
        broken = broken;
        tells = c.in_ok-first.ensures ∙ ap (λ n. fault_line Wrong n c.as_slice.result.now) c.from.ensures ∙ ap (fault_line Wrong c.args.broken.steps) c.as_slice.ensures.value;
      };
      printed = c.in_ok-text.ensures ∙ ap (λ first. comments (first ∷ lines_of c.as_slice-3.result.now)) c.as_slice-2.ensures.value
          ∙ ap (λ because. comments (c.in_ok-first.first.items ∷ lines_of because)) c.as_slice-3.ensures.value;
      status = refl;
    }
