-- Definition. What is printed: a comment that says what is found, other comments, and a script.
-- What would be too long for a script loses the lines of a trace first, then those of a table, then
-- the other comments, and then the script; but never its first line, and one line says what is left
-- out.
--     IsFirstFitting texts last text    the first of the texts that is no longer than a script may
--                                       be, or else the last one
--     part_name part, names_of parts    what a part of a report is called, and several are
--     named name parts                  the name of these parts, if there are any
--     left_out names                    the line that says what is left out, if anything is
--     behind_first first others script  the first comment, the others, and the script
--     IsReportText                      the first of these that fits, from the whole report on
--     IsPrinted                         a report with a table, a trace and a script
use Rattle.std.specs.Prelude.{◌≡◌, ◌⊎◌, ◌<◌, ◌≤◌, ℕ, List, [], ◌∷◌, ◌++◌, length, map, codes}
use Rattle.std.specs.List.{flat_map}
use Rattle.asm_reader.specs.ScriptLines.{Script}
use Rattle.asm_reader.specs.ScriptText.{IsScript, max_script}
use Rattle.asm_explore_texts.specs.Comments.{comments}
use Rattle.asm_explore_report.specs.declared.printed.Part.{Part}
use Rattle.asm_explore_report.specs.declared.printed.Part.TheVariants as part

abbrev pub IsFirstFitting : (texts : List (List ℕ)) → (last text : List ℕ) → Type 0
IsFirstFitting [] last text = text ≡ last
IsFirstFitting (one ∷ more) last text = ((length one ≤ max_script) × (text ≡ one)) ⊎ ((max_script < length one) × IsFirstFitting more last text)

-- ---- what is left out

abbrev pub part_name : Part → List ℕ
part_name part.Trace = codes "the trace"
part_name part.Table = codes "the table"
part_name part.Comments = codes "the comments"
part_name part.Script = codes "the script"

abbrev pub names_of : List Part → List (List ℕ)
names_of parts = map part_name parts

abbrev pub named : {X : Type 0} → (name : List ℕ) → List X → List (List ℕ)
named name [] = []
named name (part ∷ parts) = name ∷ []

abbrev pub left_out : List (List ℕ) → List (List ℕ)
left_out [] = []
left_out (name ∷ names) = (codes "left out: " ++ (name ++ flat_map (λ other. codes ", " ++ other) names)) ∷ []

-- ---- reports

abbrev pub behind_first : (first : List ℕ) → (others : List (List ℕ)) → (script : List ℕ) → List ℕ
behind_first first others script = comments (first ∷ others) ++ script

module _ (first : List ℕ) (facts table trace : List (List ℕ)) (script : List ℕ) where
  abbrev pub no_trace : List (List ℕ)
  no_trace = named (codes "the trace") trace

  abbrev pub no_table : List (List ℕ)
  no_table = no_trace ++ named (codes "the table") table

  abbrev pub no_comments : List (List ℕ)
  no_comments = no_table ++ named (codes "the comments") facts

  abbrev pub no_script : List (List ℕ)
  no_script = no_comments ++ named (codes "the script") script

  abbrev pub IsReportText : (text : List ℕ) → Type 0
  IsReportText text =
      IsFirstFitting (behind_first first (facts ++ (table ++ trace)) script ∷ behind_first first (facts ++ (table ++ left_out no_trace)) script
      ∷ behind_first first (facts ++ left_out no_table) script ∷ behind_first first (left_out no_comments) script ∷ [])
      (comments (first ∷ left_out no_script)) text

  pub record IsPrinted (printed : List ℕ) : Type 0 where
    pub is : IsReportText printed
    -- it spells what the script does, unless even with nothing else behind the first line that is
    -- too long
    pub says : (said : Script) → IsScript script said → IsScript printed said ⊎ (max_script < length (behind_first first (left_out no_comments) script))
