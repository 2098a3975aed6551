-- Definition. How the run under a script ends.
--     IsEndOf text script_text turns steps end         the run of the specification with this text
--                                                      under the script with that one ends so
--     IsTraceOf text script_text turns steps trace     this is its trace
use Rattle.std.specs.Prelude.{ℕ, List}
use Rattle.asm_syntax.specs.SourceTree.{Spec}
use Rattle.asm_reader.specs.ScriptLines.{Script}
use Rattle.asm_reader.specs.ScriptText.{IsScript}
use Rattle.asm_run.specs.Headline.{IsAccepted, IsReturned, book_run}
use Rattle.asm_run.specs.Trace.{IsTrace}
use Rattle.asm_run.specs.Written.{locations_in, names_in}
use Rattle.asm_run.specs.declared.end.End.{End}

pub record IsEndOf (text script_text : List ℕ) (turns steps : ℕ) (end : End) : Type 0 where
  pub tree : Spec
  pub accepted : IsAccepted text tree
  pub script : Script
  pub spelled : IsScript script_text script
  pub answered : IsReturned (book_run tree turns script steps).end end

pub record IsTraceOf (text script_text : List ℕ) (turns steps : ℕ) (trace : List ℕ) : Type 0 where
  pub tree : Spec
  pub accepted : IsAccepted text tree
  pub script : Script
  pub spelled : IsScript script_text script
  pub is_trace : IsTrace (names_in tree) (locations_in tree) 1 (book_run tree turns script steps) trace
