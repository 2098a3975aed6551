-- Bridge to the code. The value of a resolved term in a state.
--     Reading                 what a position stands for, in each state
--     reading shape t rs A    the value of t in A, if the positions stand for rs
--     content shape A n       the content of the location numbered n
use Rattle.std.specs.Prelude.{ℕ, ◌+◌, ◌*◌, List, [], ◌∷◌, map, slice_get, slice_index_or, Option, Some, None}
use Rattle.std.specs.List.{list_all, list_any, position}
use Rattle.asm_state.specs.declared.value.Value.{Value}
use Rattle.asm_state.specs.declared.value.Value.TheVariants.{Undef, Truth}
use Rattle.asm_state.specs.code.Codes.{code_of}
use Rattle.asm_state.specs.Location.{State}
use Rattle.asm_state.specs.Operation.{op, is_same}
use Rattle.asm_state.specs.Signature.{Shape, location_at}
use Rattle.asm_state.specs.code.ConsecutiveCodes.{code_position}
use Rattle.asm_meaning.specs.Declarations.{function_at}
use Rattle.asm_meaning.specs.Value.{Reading, is_true, read}
use Rattle.asm_meaning.specs.code.TermValues.{held}
use Rattle.asm_code.specs.code.CodeTree.{Code, Constant, Local, Cell, Row, Grid, Held, Derived, With, Both, Chain, Exists, Every, Codes, no_codes, code_then, Links, no_links, link_then}

-- the same in each state
abbrev pub always : Value → Reading
always v A = v

-- the position of a value among `count` whose codes follow each other
abbrev pub position_from : (low count : ℕ) → Value → Option ℕ
position_from low count v = code_position low count (code_of v)

-- a position that stands for nothing is undef
abbrev pub at_position : List Reading → ℕ → Reading
at_position rs i = slice_index_or rs i (always Undef)

module _ (shape : Shape) where
  abbrev pub universe_at : ℕ → List Value
  universe_at u = slice_index_or shape.universes u []

  abbrev pub content : State → ℕ → Value
  content A n = read A (location_at shape n)

  -- after the first location of a function, at the position of an argument, if it has one
  abbrev pub in_row : State → (first : ℕ) → Option ℕ → Value
  in_row A first None = Undef
  in_row A first (Some i) = content A (first + i)

  -- the same at two positions, if `columns` columns make a row
  abbrev pub in_grid : State → (first columns : ℕ) → Option ℕ → Option ℕ → Value
  in_grid A first columns None o = Undef
  in_grid A first columns (Some i) None = Undef
  in_grid A first columns (Some i) (Some j) = content A (first + (i * columns + j))

  abbrev pub position_in : (universe : ℕ) → Value → Option ℕ
  position_in u v = position (is_same v) (universe_at u)

  unfoldable mutual
    pub reading : Code → List Reading → State → Value
    reading (Constant v) rs A = v
    reading (Local i) rs A = at_position rs i A
    reading (Cell n) rs A = content A n
    reading (Row first low many t) rs A = in_row A first (position_from low many (reading t rs A))
    reading (Grid first low rows left columns s t) rs A = in_grid A first columns (position_from low rows (reading s rs A)) (position_from left columns (reading t rs A))
    reading (Held f ts) rs A = held (function_at shape f (slice_get shape.functions f)) (readings ts rs A) A
    reading (Derived t ts) rs A = reading t (map always (readings ts rs A)) A
    reading (With o t v) rs A = op o (reading t rs A) v
    reading (Both o s t) rs A = op o (reading s rs A) (reading t rs A)
    reading (Chain t links) rs A = chained links (reading t rs A) rs A
    reading (Exists u t) rs A = Truth (list_any (λ v. is_true (reading t (always v ∷ rs) A)) (universe_at u))
    reading (Every u t) rs A = Truth (list_all (λ v. is_true (reading t (always v ∷ rs) A)) (universe_at u))

    pub readings : Codes → List Reading → State → List Value
    readings no_codes rs A = []
    readings (code_then t ts) rs A = reading t rs A ∷ readings ts rs A

    -- the chain goes on from a first value
    pub chained : Links → Value → List Reading → State → Value
    chained no_links v rs A = v
    chained (link_then o t links) v rs A = chained links (op o v (reading t rs A)) rs A
