-- Bridge to the code. How a run that is shown ends, as the code has it.
--     end_said end     what it says
use Rattle.asm_explore_texts.specs.Comments.{lines_of}
use Rattle.asm_explore_run.specs.ShownRun as shown
use Rattle.asm_explore_run.specs.declared.shown_end.ShownEnd.{ShownEnd}

abbrev pub end_said : ShownEnd → shown.ShownEnd
end_said end =
    record {
      first = end.first.items;
      because = lines_of end.because.items;
      steps = end.steps;
      assignments = lines_of end.assignments.items;
      is_fault = end.is_fault;
    }
