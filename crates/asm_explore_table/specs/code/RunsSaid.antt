-- Bridge to the code. What is said of a run, as the code has it.
--     words_said words     what the words say
use Rattle.asm_explore_texts.specs.Comments.{lines_of}
use Rattle.asm_explore_table.specs.RunWords as words
use Rattle.asm_explore_table.specs.declared.run_words.RunWords.{RunWords}

abbrev pub words_said : RunWords → words.RunWords
words_said w = record {
  name = w.name.now;
  end = w.end.now;
  because = lines_of w.because.now;
  command = w.command.now;
  assignments = lines_of w.assignments.now;
  unmet = lines_of w.unmet.now;
  is_fault = w.is_fault;
}
