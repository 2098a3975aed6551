-- Bridge to the code. Steps between positions of the table of names, and the faults at one
-- position.
use Rattle.std.specs.Prelude.{◌≡◌, ◌⊎◌, ◌<◌, ℕ, suc, List, map, length, slice_get, Option, Some, None}
use Rattle.asm_syntax.specs.SourceTree.{Spec}
use Rattle.asm_check.specs.declared.cycles.step_faults.TheConstants.{MAX_RANK}
use Rattle.asm_check.specs.declared.names.declared_as.DeclaredAs.{DeclaredAs}
use Rattle.asm_check.specs.declared.names.declared_as.DeclaredAs.TheVariants as code
use Rattle.asm_check.specs.declared.names.declared_as.Declaration.{Declaration}
use Rattle.asm_check.specs.code.cycles.Graph.{IsGraph, next_of}
use Rattle.asm_check.specs.code.cycles.CallsAndUses.{called_or_used}
use Rattle.asm_check.specs.code.names.Tables.{Entry, text_at}
use Rattle.asm_check.specs.CallGraph.{LeadsTo, ReachesCycle, BeginsPath}

-- the steps of a specification, by positions
pub record AreStepsOf (spec : Spec) (entries : List Entry) (lists : List (List ℕ)) : Type 0 where
  pub len : length lists ≡ length entries
  pub graph : IsGraph lists
  pub steps : (n : ℕ) → n < length entries → map (text_at entries) (next_of lists n) ≡ called_or_used spec (text_at entries n)

-- the number of a cycle's fault
abbrev pub cycle_number : DeclaredAs → Option ℕ
cycle_number (code.Rule body) = Some 12
cycle_number (code.Derived body) = Some 13
cycle_number m = None

module _ (lists : List (List ℕ)) (n : ℕ) where
  abbrev pub IsCycleAt : (offset : ℕ) → DeclaredAs → (at number : ℕ) → Type 0
  IsCycleAt offset m at number = LeadsTo (next_of lists) n n × (offset ≡ at) × (cycle_number m ≡ Some number)

  abbrev pub IsHighAt : (offset : ℕ) → (at number : ℕ) → Type 0
  IsHighAt offset at number = BeginsPath (next_of lists) (suc MAX_RANK) n × (¬ (ReachesCycle (next_of lists) n)) × (offset ≡ at) × (15 ≡ number)

  abbrev pub IsFaultOf : Declaration → (at number : ℕ) → Type 0
  IsFaultOf d at number = IsCycleAt d.at d.meaning at number ⊎ IsHighAt d.at at number

  abbrev pub IsFaultAt : List Entry → (at number : ℕ) → Type 0
  IsFaultAt entries at number = (e : Entry) × (slice_get entries n ≡ Some e) × IsFaultOf e.1 at number

-- at one of the first k positions
abbrev pub IsFaultBelow : List (List ℕ) → List Entry → (k at number : ℕ) → Type 0
IsFaultBelow lists entries k at number = (n : ℕ) × (n < k) × IsFaultAt lists n entries at number
