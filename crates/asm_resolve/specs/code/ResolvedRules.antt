-- Bridge to the code. When a rule code stands for a rule.
--     location_bound b                   the location that a name is bound to
--     IsLocationAt i ls gs b             what is bound is the location at this position, with the
--                                        arguments gs, or no location if there is none
--     PositionsStand program slots e rs ls gs       in the environment e the names stand for rs, and
--                                                   one that stands for a location for that in ls,
--                                                   with the arguments gs; what is bound has the
--                                                   values of its positions
--     IsResolvedTarget program shape names x ts to     under such names `to` names the location
--                                                      that x with ts does, with the same
--                                                      arguments, in each state
--     IsResolvedRule program shape names P c     under such names c tells what P does, in each
--                                                state, at each path and under each script
use Rattle.std.specs.Prelude.{◌≡◌, ℕ, List, Option, Some, None, slice_index_or, is_some, IfSome}
use Rattle.asm_state.specs.declared.value.Value.{Value}
use Rattle.asm_state.specs.Location.{Location, State}
use Rattle.asm_state.specs.Signature.{Shape}
use Rattle.asm_syntax.specs.Tree.{Name, Term, Terms, Rule, Rules, no_rules, rule_then}
use Rattle.asm_reader.specs.ScriptLines.{Script, pick}
use Rattle.asm_meaning.specs.Program.{Program, Environment, Binding, ToValue, ToTerm, ToLocation, bound_to}
use Rattle.asm_meaning.specs.Story.{tells}
use Rattle.asm_meaning.specs.Targets.{location, arguments}
use Rattle.asm_meaning.specs.Value.{Reading, bound_values}
use Rattle.asm_meaning.specs.Yields.{Path}
use Rattle.asm_code.specs.code.BoundValues.{arguments_of, bound_of}
use Rattle.asm_code.specs.code.CodeTree.{Code}
use Rattle.asm_code.specs.code.RuleMeaning.{Locations, optional_target_location, IsSoundRule, IsSoundOptionalTarget}
use Rattle.asm_code.specs.code.RuleStories.{telling}
use Rattle.asm_code.specs.code.RuleTree as codes
use Rattle.asm_code.specs.code.RuleTree.{Place, RuleCode, RuleCodes}
use Rattle.asm_resolve.specs.code.ResolvedTerms.{Agrees, IsResolved}
use Rattle.asm_resolve.specs.code.Slots.{Slot, names_in, result_position}

abbrev pub location_bound : Option Binding → Option Location
location_bound (Some (ToLocation l ws)) = Some l
location_bound (Some (ToValue v)) = None
location_bound (Some (ToTerm t caller)) = None
location_bound None = None

abbrev pub IsLocationAt : Option ℕ → Locations → (given : List Value) → Option Binding → Type 0
IsLocationAt None ls gs b = location_bound b ≡ None
IsLocationAt (Some i) ls gs b = (l : Location) × (b ≡ Some (ToLocation l gs)) × (slice_index_or ls i None ≡ Some l)

module _ (program : Program) where
  pub record PositionsStand (slots : List Slot) (e : Environment) (rs : List Reading) (ls : Locations) (gs : List Value) : Type 0 where
    pub values : Agrees program (names_in slots) e rs
    pub places : (x : Name) → IsLocationAt (result_position slots x) ls gs (bound_to e x)
    pub bound : (A : State) → bound_of rs ls A ≡ bound_values program A e

  module _ (shape : Shape) where
    -- if there is a target code, it names a location in each state
    pub record IsResolvedTarget (slots : List Slot) (x : Name) (ts : Terms) (to : Option Place) : Type 0 where
      pub sound : IsSoundOptionalTarget shape to
      pub means : (e : Environment) (rs : List Reading) (ls : Locations) (gs : List Value) (A : State) → PositionsStand slots e rs ls gs
          → optional_target_location shape to rs ls A ≡ location program A e x ts
      pub some : (e : Environment) (rs : List Reading) (ls : Locations) (gs : List Value) (A : State) → PositionsStand slots e rs ls gs
          → is_some (optional_target_location shape to rs ls A) ≡ is_some to
      pub given : (e : Environment) (rs : List Reading) (ls : Locations) (gs : List Value) (A : State) → PositionsStand slots e rs ls gs
          → IfSome to (λ place. arguments_of shape place rs gs A ≡ arguments program A e x ts)

    pub record IsResolvedRule (slots : List Slot) (P : Rule) (c : RuleCode) : Type 0 where
      pub sound : IsSoundRule shape c
      pub tells : (turns : ℕ) (script : Script) (step : ℕ) (e : Environment) (rs : List Reading) (ls : Locations) (gs : List Value) (A : State) (p : Path) → PositionsStand slots e rs ls gs
          → telling shape turns (pick script step) c rs ls gs A p ≡ tells program turns script step A e p P

    abbrev pub AreResolvedRules : List Slot → Rules → RuleCodes → Type 0
    AreResolvedRules slots no_rules codes.no_rules = Unit {0}
    AreResolvedRules slots (rule_then P Ps) (codes.rule_then c cs) = IsResolvedRule slots P c × AreResolvedRules slots Ps cs
    AreResolvedRules slots Ps cs = ⊥

    abbrev pub IsResolvedTest : List Slot → Option Term → Option Code → Type 0
    IsResolvedTest slots None None = Unit {0}
    IsResolvedTest slots (Some t) (Some c) = IsResolved program shape (names_in slots) t c
    IsResolvedTest slots t c = ⊥
