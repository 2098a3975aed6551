-- Definition. How a run ends, with the assignments at the location of its fault.
--     location_of shape fault     the location of a fault
--     of_main                     the assignments of a step of the main rule that stand there
--     IsClashOf most all          a set's first fault; all assignments have just the values of its
--                                 location in the set; those that are found are the first of them,
--                                 at most so many, with the number of all
--     EndsSo most                 how a run ends
use Rattle.std.specs.Prelude.{◌≡◌, ℕ, List, length, min, take}
use Rattle.asm_state.specs.Location.{Location, Stray, State}
use Rattle.asm_state.specs.Signature.{Shape, location_at}
use Rattle.asm_state.specs.Updates.{UpdateSet, IsFirstFault}
use Rattle.asm_updates.specs.Faults.{fault_of}
use Rattle.asm_updates.specs.declared.fault.Fault.{Fault}
use Rattle.asm_updates.specs.declared.fault.Fault.TheVariants as numbered
use Rattle.asm_syntax.specs.SourceTree.{Spec}
use Rattle.asm_reader.specs.ScriptLines.{Script}
use Rattle.asm_check.specs.Shapes.{shape_of}
use Rattle.asm_meaning.specs.Does.{greatest_count}
use Rattle.asm_meaning.specs.Declarations.{specification_of}
use Rattle.asm_meaning.specs.Run.{AtLimit, AtExhausted, AtFault, Run}
use Rattle.asm_meaning.specs.Story.{step_tells}
use Rattle.asm_clash.specs.Standing.{Assigned, AreValuesAt, stands, all_assigned}
use Rattle.asm_clash.specs.declared.assignment.Assignment.{Assignment}
use Rattle.asm_clash.specs.declared.clash.ClashOfRun.{ClashOfRun}
use Rattle.asm_clash.specs.declared.clash.ClashOfRun.TheVariants as clash

abbrev pub location_of : Shape → Fault → Location
location_of shape (numbered.Clash n low high) = location_at shape n
location_of shape (numbered.Outside f) = Stray f

-- ---- a run

pub record IsClashOf (most : ℕ) (all : List Assigned) (shape : Shape) (U : UpdateSet) (fault : Fault) (found : List Assignment) (count : ℕ) : Type 0 where
  pub first : IsFirstFault U (fault_of shape fault)
  pub values : AreValuesAt U (location_of shape fault) all
  pub shown : all_assigned found ≡ take most all
  -- cut off if it doesn't fit 64 bits
  pub number : count ≡ min (length all) greatest_count

module _ (spec : Spec) (turns : ℕ) (script : Script) (most : ℕ) where
  abbrev pub of_main : (step : ℕ) → State → Fault → List Assigned
  of_main step A fault = stands (location_of (shape_of spec) fault) (step_tells (specification_of spec) turns script step A)

  abbrev pub EndsSo : Run → ClashOfRun → Type 0
  EndsSo r clash.Limit = r.end ≡ AtLimit
  EndsSo r (clash.Exhausted step q) = r.end ≡ AtExhausted step q
  EndsSo r (clash.Faulty step fault found count) =
      (U : UpdateSet) × (r.end ≡ AtFault step U) × IsClashOf most (of_main step r.last fault) (shape_of spec) U fault found.items count
