-- Definition. What is printed of a run that is found, with its table and its trace.
--     table_width        a line of the table has at most so many bytes, as one of `show` without
--                        `--width`, unless one column alone is wider
--     HasTable           the lines are the table of the run under a script, without names that are
--                        to be shown, and behind it the assignments by which it ends, if it ends by
--                        a fault
--     AreTableLines      they are this of the run that is shown, if there is one
--     IsPrintedRun       a report with the script of this run, and with its table and its trace if
--                        these are asked for
use Rattle.std.specs.Prelude.{◌≡◌, ℕ, Bool, cond, List, [], ◌++◌, Option, Some, None}
use Rattle.asm_syntax.specs.SourceTree.{Spec}
use Rattle.asm_reader.specs.ScriptLines.{Script}
use Rattle.asm_reader.specs.ScriptText.{IsScript}
use Rattle.asm_meaning.specs.Declarations.{specification_of}
use Rattle.asm_meaning.specs.Run.{run}
use Rattle.asm_explore_table.specs.Rows.{rows_of}
use Rattle.asm_explore_table.specs.Tables.{IsTable}
use Rattle.asm_explore_report.specs.Printed.{IsPrinted}
use Rattle.asm_explore_report.specs.ShownRuns.{Shown, script_of}
use Rattle.asm_explore_report.specs.TraceLines.{AreTraceLines}
use Rattle.asm_explore_run.specs.ShownRun.{AreShownAssignments}

abbrev pub table_width : ℕ
table_width = 100

module _ (text : List ℕ) (tree : Spec) (turns : ℕ) where
  pub record HasTable (shown : Shown) (lines : List (List ℕ)) : Type 0 where
    pub script : Script
    pub spelled : IsScript shown.0 script
    pub table : List (List ℕ)
    pub is_table : IsTable tree [] table_width (specification_of tree).initial (rows_of tree turns script shown.1) table
    pub assignments : List (List ℕ)
    pub are_assignments : AreShownAssignments text tree turns script (run (specification_of tree) turns script shown.1) assignments
    pub are : lines ≡ table ++ assignments

  abbrev pub AreTableLines : Option Shown → (lines : List (List ℕ)) → Type 0
  AreTableLines None lines = lines ≡ []
  AreTableLines (Some shown) lines = HasTable shown lines

  pub record IsPrintedRun (asks_table asks_trace : Bool) (first : List ℕ) (facts : List (List ℕ)) (shown : Option Shown) (printed : List ℕ) : Type 0 where
    pub table : List (List ℕ)
    pub tabled : AreTableLines (cond asks_table shown None) table
    pub trace : List (List ℕ)
    pub traced : AreTraceLines text turns (cond asks_trace shown None) trace
    pub is : IsPrinted first facts table trace (script_of shown) printed
