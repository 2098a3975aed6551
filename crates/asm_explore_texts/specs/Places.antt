-- Definition. Where the path of a rule leads in a specification.
--     Place                      a rule of the text, whether it is a `while` of which a turn has
--                                begun, and the elements of the foralls around it, the outermost
--                                first, each with the name of its variable
--     part_at spec k place       the part of the rule that has the number k in a path, if there is
--                                one
--     main_place spec            the body of the rule that the specification starts with
--     place_at spec path         where a path leads from there
--     variable_at spec path      the variable of the `choose` there, if one is there
use Rattle.std.specs.Prelude.{ℕ, zero, suc, Bool, true, false, List, [], ◌∷◌, ◌++◌, Option, Some, None, option_map, slice_index_or}
use Rattle.asm_state.specs.declared.value.Value.{Value}
use Rattle.asm_state.specs.declared.value.Value.TheVariants.{Undef}
use Rattle.asm_syntax.specs.SourceTree.{Name, Rule, Skip, Assign, Call, Par, Seq, If, Let, Forall, Choose, Iterate, While, SetResult, Rules, no_rules, rule_then, Branch, left_out, written, Spec}
use Rattle.asm_check.specs.Faults.{inits}
use Rattle.asm_check.specs.Names.{Meaning, NamedRule}
use Rattle.asm_check.specs.Numbers.{declared_with_number, named, rules_of}
use Rattle.asm_check.specs.Shapes.{shape_of}
use Rattle.asm_check.specs.declared.checked.NameNumber.{NameNumber}
use Rattle.asm_check.specs.declared.checked.NameNumber.TheVariants as number

pub record Place : Type 0 where
  pub rule : Rule
  pub in_turn : Bool
  pub elements : List (List ℕ × Value)

-- another rule under the same elements
abbrev pub moved : Place → Rule → Place
moved place P = record { rule = P; in_turn = false; elements = place.elements }

-- ---- rules by their numbers

abbrev pub rule_number : Rules → ℕ → Option Rule
rule_number no_rules k = None
rule_number (rule_then P Ps) zero = Some P
rule_number (rule_then P Ps) (suc k) = rule_number Ps k

abbrev pub of_branch : Branch → Option Rule
of_branch left_out = None
of_branch (written P) = Some P

-- the first of two has the number 0
abbrev pub one_of_two : Rule → Branch → ℕ → Option Rule
one_of_two P other zero = Some P
one_of_two P other (suc k) = of_branch other

-- ---- what names stand for

abbrev pub value_numbered : Spec → Option NameNumber → ℕ → Value
value_numbered s (Some (number.Universe n)) k = slice_index_or (slice_index_or (shape_of s).universes n []) k Undef
value_numbered s it k = Undef

-- the element of a universe at a position
abbrev pub element_of : Spec → (universe : Name) → ℕ → Value
element_of s u k = value_numbered s (named s u.text) k

abbrev pub body_in : Option Meaning → Option Rule
body_in (Some (NamedRule xs P)) = Some P
body_in m = None

abbrev pub body_numbered : Spec → Option NameNumber → Option Rule
body_numbered s (Some (number.Rule r)) = body_in (declared_with_number (rules_of s) r)
body_numbered s it = None

-- the body of the rule with this name
abbrev pub body_of : Spec → Name → Option Rule
body_of s x = body_numbered s (named s x.text)

-- ---- paths

-- in a turn of a `while` its body has the number 0
abbrev pub part_in_turn : Rule → (k : ℕ) → Place → Option Place
part_in_turn (While t P) zero place = Some (moved place P)
part_in_turn R k place = None

module _ (s : Spec) where
  -- a part of a rule that isn't a `while` of which a turn has begun
  abbrev pub part_of : Rule → (k : ℕ) → Place → Option Place
  part_of Skip k place = None
  part_of (Assign f ts t) k place = None
  part_of (SetResult x t) k place = None
  part_of (Call to f ts) k place = option_map (moved place) (body_of s f)
  part_of (Par Ps) k place = option_map (moved place) (rule_number Ps k)
  part_of (Seq Ps) k place = option_map (moved place) (rule_number Ps k)
  part_of (If t P other) k place = option_map (moved place) (one_of_two P other k)
  part_of (Let x t P) k place = Some (moved place P)
  part_of (Forall x u t P) k place = Some (record { rule = P; in_turn = false; elements = place.elements ++ (x.text, element_of s u k) ∷ [] })
  part_of (Choose x u t P other) k place = option_map (moved place) (one_of_two P other k)
  part_of (Iterate P) k place = Some (moved place P)
  part_of (While t P) k place = Some (record { rule = While t P; in_turn = true; elements = place.elements })

  abbrev pub part_by : (in_turn : Bool) → ℕ → Place → Option Place
  part_by true k place = part_in_turn place.rule k place
  part_by false k place = part_of place.rule k place

  abbrev pub part_at : ℕ → Place → Option Place
  part_at k place = part_by place.in_turn k place

  abbrev pub next_at : ℕ → Option Place → Option Place
  next_at k None = None
  next_at k (Some place) = part_at k place

  abbrev pub follow : List ℕ → Option Place → Option Place
  follow [] place = place
  follow (k ∷ path) place = follow path (next_at k place)

  abbrev pub main_body : List Name → Option Rule
  main_body [] = None
  main_body (x ∷ xs) = body_of s x

  abbrev pub main_place : Option Place
  main_place = option_map (λ P. record { rule = P; in_turn = false; elements = [] }) (main_body (inits s))

  abbrev pub place_at : (path : List ℕ) → Option Place
  place_at path = follow path main_place

abbrev pub variable_of : Rule → Option Name
variable_of (Choose x u t P other) = Some x
variable_of R = None

abbrev pub variable_in : Option Place → Option Name
variable_in None = None
variable_in (Some place) = variable_of place.rule

abbrev pub variable_at : Spec → (path : List ℕ) → Option Name
variable_at s path = variable_in (place_at s path)
