-- Definition. Domains, and tables that give argument lists their values.
--     Domain                  a list of universes
--     argument_lists domain   the argument lists in a domain, in lexicographic order of the
--                             positions
--     is_in domain vs         vs is one of them
--     location_in f domain vs the location of a function with these arguments: the stray one if
--                             they are outside the domain
--     table_value table vs    the value that a table has for vs
--     value_in domain table vs    the same, but undef outside the domain
use Rattle.std.specs.Prelude.{◌≡◌, ℕ, Bool, true, false, ◌&&◌, cond, List, [], ◌∷◌, map, Option, Some, None, unwrap_or, All, AllPairs, IsTrue}
use Rattle.std.specs.List.{flat_map, list_any}
use Rattle.std.specs.Cmp.Lexicographic.{pointwise}
use Rattle.asm_state.specs.declared.value.Value.{Value}
use Rattle.asm_state.specs.declared.value.Value.TheVariants.{Undef}
use Rattle.asm_state.specs.declared.function.Table.{Table}
use Rattle.asm_state.specs.declared.function.Table.TheVariants.{Same, Entries}
use Rattle.asm_state.specs.Location.{Location, Proper, Stray}
use Rattle.asm_state.specs.Operation.{is_same}

abbrev pub Domain : Type 0
Domain = List (List Value)

abbrev pub argument_lists : Domain → List (List Value)
argument_lists [] = [] ∷ []
argument_lists (vs ∷ domain) = flat_map (λ v. map (λ rest. v ∷ rest) (argument_lists domain)) vs

abbrev pub is_in : Domain → List Value → Bool
is_in [] [] = true
is_in (u ∷ us) (v ∷ vs) = list_any (is_same v) u && is_in us vs
is_in _ _ = false

abbrev pub location_in : (function : ℕ) → Domain → List Value → Location
location_in f domain vs = cond (is_in domain vs) (Proper f vs) (Stray f)

abbrev pub is_list : List Value → List Value → Bool
is_list us vs = pointwise is_same us vs

-- the first entry of the arguments decides
abbrev pub entry_of : List (List Value × Value) → List Value → Option Value
entry_of [] vs = None
entry_of ((us, v) ∷ more) vs = cond (is_list us vs) (Some v) (entry_of more vs)

abbrev pub table_value : Table → List Value → Value
table_value (Same v) vs = v
table_value (Entries entries) vs = unwrap_or (entry_of entries vs) Undef

abbrev pub value_in : Domain → Table → List Value → Value
value_in domain table vs = cond (is_in domain vs) (table_value table vs) Undef

-- the entries of a table are in the domain, and no two of them have one argument list
pub record AreEntriesIn (domain : Domain) (entries : List (List Value × Value)) : Type 0 where
  pub in_domain : All (λ (entry : List Value × Value). IsTrue (is_in domain entry.0)) entries
  pub apart : AllPairs (λ (entry later : List Value × Value). is_list entry.0 later.0 ≡ false) entries

abbrev pub IsTableOf : Domain → Table → Type 0
IsTableOf domain (Same v) = Unit {0}
IsTableOf domain (Entries entries) = AreEntriesIn domain entries
