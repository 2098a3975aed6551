-- Bridge to the code. What a resolved rule yields.
--     number_from first many position             the number at a position from the first of `many`
--                                                 on, or else after them all, where the stray
--                                                 location is
--     optional_target_location shape to rs ls A   the location that a place names, if it names one
--     passes shape test rs A                      whether a condition holds, or there is none
--     meaning shape turns chosen P rs ls A p      the outcome of P in the state A and at the path
--                                                 p, if the positions stand for rs, and for the
--                                                 locations ls, if they stand for any
--     meanings                                    the same of rules, as functions of the state and
--                                                 the path
--     IsSoundRule shape P                         each number in P is one of the signature
use Rattle.std.specs.Prelude.{ℕ, ◌+◌, ◌*◌, ◌++◌, Bool, true, cond, List, [], ◌∷◌, Option, Some, None, slice_index_or, unwrap_or}
use Rattle.std.specs.List.{filter}
use Rattle.asm_state.specs.declared.function.FunctionKind.TheVariants.{Controlled}
use Rattle.asm_state.specs.declared.value.Value.{Value}
use Rattle.asm_state.specs.code.FirstLocations.{position_in_grid}
use Rattle.asm_state.specs.Location.{Location, State}
use Rattle.asm_state.specs.Signature.{Shape, HasKind, domain_of, location_at}
use Rattle.asm_state.specs.Tables.{location_in}
use Rattle.asm_meaning.specs.Does.{Outcome, Meaning, nothing, parts, in_order, each, one_of, turns_of}
use Rattle.asm_meaning.specs.Program.{nothing_bound}
use Rattle.asm_meaning.specs.Targets.{update}
use Rattle.asm_meaning.specs.Value.{Reading, is_true, read}
use Rattle.asm_meaning.specs.Yields.{Path, Gives, at}
use Rattle.asm_code.specs.code.CodeTree.{Code, Codes, no_codes, code_then}
use Rattle.asm_code.specs.code.Readings.{always, position_from, reading, readings, universe_at}
use Rattle.asm_code.specs.code.RuleTree.{Place, Answer, Cell, Row, Grid, Held, RuleCode, Skip, Assign, Par, Seq, If, Let, Forall, Choose, Iterate, Call, RuleCodes, no_rules, rule_then}
use Rattle.asm_code.specs.code.SoundCodes.{IsSound, AreSound, IsLocationNumber, IsUniverseNumber}

-- the locations that positions stand for
abbrev pub Locations : Type 0
Locations = List (Option Location)

-- what `result` stands for, which has a position if a call has a target
abbrev pub result_readings : Option Location → List Reading
result_readings None = []
result_readings (Some l) = (λ A. read A l) ∷ []

abbrev pub result_locations : Option Location → Locations
result_locations None = []
result_locations (Some l) = Some l ∷ []

abbrev pub number_from : (first many : ℕ) → (position : Option ℕ) → ℕ
number_from first many o = first + unwrap_or o many

module _ (shape : Shape) where
  -- codes by name, which belong to the positions rs
  abbrev pub named_readings : Codes → List Reading → List Reading
  named_readings no_codes rs = []
  named_readings (code_then t ts) rs = reading shape t rs ∷ named_readings ts rs

  abbrev pub target_location : Place → List Reading → Locations → State → Option Location
  target_location (Answer i) rs ls A = slice_index_or ls i None
  target_location (Cell n) rs ls A = Some (location_at shape n)
  target_location (Row first low many t) rs ls A = Some (location_at shape (number_from first many (position_from low many (reading shape t rs A))))
  target_location (Grid first low rows left columns s t) rs ls A =
      Some (location_at shape (number_from first (rows * columns) (position_in_grid (position_from low rows (reading shape s rs A)) columns (position_from left columns (reading shape t rs A)))))
  target_location (Held f ts) rs ls A = Some (location_in f (domain_of shape f) (readings shape ts rs A))

  abbrev pub optional_target_location : Option Place → List Reading → Locations → State → Option Location
  optional_target_location None rs ls A = None
  optional_target_location (Some to) rs ls A = target_location to rs ls A

  abbrev pub passes : Option Code → List Reading → State → Bool
  passes None rs A = true
  passes (Some c) rs A = is_true (reading shape c rs A)

  -- the values of a universe for which, at position 0, the condition holds
  abbrev pub passing : (over : ℕ) → Option Code → List Reading → State → List Value
  passing u c rs A = filter (λ v. passes c (always v ∷ rs) A) (universe_at shape u)

  module _ (turns : ℕ) (chosen : Path → ℕ) where
    unfoldable mutual
      pub meaning : RuleCode → List Reading → Locations → State → Path → Outcome
      meaning Skip rs ls A p = nothing
      meaning (Assign to t) rs ls A p = record { result = Gives (update (target_location to rs ls A) (reading shape t rs A)); instances = 0 }
      meaning (Par Ps) rs ls A p = parts (meanings Ps rs ls) 0 A nothing_bound p
      meaning (Seq Ps) rs ls A p = in_order (meanings Ps rs ls) 0 A nothing_bound p
      meaning (If c P Q) rs ls A p = cond (is_true (reading shape c rs A)) (meaning P rs ls A (at p 0)) (meaning Q rs ls A (at p 1))
      meaning (Let t P) rs ls A p = meaning P (always (reading shape t rs A) ∷ rs) (None ∷ ls) A (at p 0)
      meaning (Forall u c P) rs ls A p =
          each (λ v k. meaning P (always v ∷ rs) (None ∷ ls) A (at p k)) (λ v. passes c (always v ∷ rs) A) 0 (universe_at shape u)
      meaning (Choose u c P Q) rs ls A p =
          one_of (chosen p) (passing u c rs A) (λ v. meaning P (always v ∷ rs) (None ∷ ls) A (at p 0)) (meaning Q rs ls A (at p 1))
      meaning (Iterate P) rs ls A p = turns_of (λ A e p. meaning P rs ls A p) turns 0 A nothing_bound p
      meaning (Call P to ts) rs ls A p =
          meaning P (result_readings (optional_target_location to rs ls A) ++ named_readings ts rs) (result_locations (optional_target_location to rs ls A)) A (at p 0)

      pub meanings : RuleCodes → List Reading → Locations → List Meaning
      meanings no_rules rs ls = []
      meanings (rule_then P Ps) rs ls = (λ A e p. meaning P rs ls A p) ∷ meanings Ps rs ls

  abbrev pub IsSoundTarget : Place → Type 0
  IsSoundTarget (Answer i) = Unit {0}
  IsSoundTarget (Cell n) = IsLocationNumber shape n
  IsSoundTarget (Row first low many t) = IsLocationNumber shape (first + many) × IsSound shape t
  IsSoundTarget (Grid first low rows left columns s t) = IsLocationNumber shape (first + rows * columns) × IsSound shape s × IsSound shape t
  IsSoundTarget (Held f ts) = HasKind Controlled shape f × AreSound shape ts

  abbrev pub IsSoundOptionalTarget : Option Place → Type 0
  IsSoundOptionalTarget None = Unit {0}
  IsSoundOptionalTarget (Some to) = IsSoundTarget to

  abbrev pub IsSoundTest : Option Code → Type 0
  IsSoundTest None = Unit {0}
  IsSoundTest (Some c) = IsSound shape c

  abbrev mutual
    pub IsSoundRule : RuleCode → Type 0
    IsSoundRule Skip = Unit {0}
    IsSoundRule (Assign to t) = IsSoundTarget to × IsSound shape t
    IsSoundRule (Par Ps) = AreSoundRules Ps
    IsSoundRule (Seq Ps) = AreSoundRules Ps
    IsSoundRule (If c P Q) = IsSound shape c × IsSoundRule P × IsSoundRule Q
    IsSoundRule (Let t P) = IsSound shape t × IsSoundRule P
    IsSoundRule (Forall u c P) = IsUniverseNumber shape u × IsSoundTest c × IsSoundRule P
    IsSoundRule (Choose u c P Q) = IsUniverseNumber shape u × IsSoundTest c × IsSoundRule P × IsSoundRule Q
    IsSoundRule (Iterate P) = IsSoundRule P
    IsSoundRule (Call P to ts) = IsSoundRule P × IsSoundOptionalTarget to × AreSound shape ts

    pub AreSoundRules : RuleCodes → Type 0
    AreSoundRules no_rules = Unit {0}
    AreSoundRules (rule_then P Ps) = IsSoundRule P × AreSoundRules Ps

-- how many nodes a rule has, with the bodies of the rules that it calls written out
abbrev mutual
  pub rule_size : RuleCode → ℕ
  rule_size Skip = 1
  rule_size (Assign to t) = 1
  rule_size (Par Ps) = 1 + rule_sizes Ps
  rule_size (Seq Ps) = 1 + rule_sizes Ps
  rule_size (If c P Q) = 1 + (rule_size P + rule_size Q)
  rule_size (Let t P) = 1 + rule_size P
  rule_size (Forall u c P) = 1 + rule_size P
  rule_size (Choose u c P Q) = 1 + (rule_size P + rule_size Q)
  rule_size (Iterate P) = 1 + rule_size P
  rule_size (Call P to ts) = 1 + rule_size P

  pub rule_sizes : RuleCodes → ℕ
  rule_sizes no_rules = 0
  rule_sizes (rule_then P Ps) = rule_size P + rule_sizes Ps
