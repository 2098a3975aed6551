use Rattle.std.proofs.Common.{◌∙◌, ap, inl, refl}
use Rattle.asm_explore.specs.declared.fault.Fault.TheVariants.{Wrong}
use Rattle.asm_explore_report.specs.FirstLine.{fault_line}
use Rattle.asm_explore_run.proofs.asked_end.of_broken_run.Goals as goal

pub returns : goal.returns
returns c = λ tree terms turns script steps limited broken.
    inl (
      record {
        limited = limited;
        words = c.args.broken.told.words.items;
        broken = broken;
        tells = c.in_ok-first.ensures ∙ ap (λ n. fault_line Wrong n c.as_slice.result.now) c.from.ensures ∙ ap (fault_line Wrong c.args.broken.steps) c.as_slice.ensures.value;
      },
      refl,
    )
