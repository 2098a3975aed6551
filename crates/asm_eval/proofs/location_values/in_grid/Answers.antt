use Rattle.std.proofs.Common.{◌≡◌, ◌<◌, ℕ, ◌+◌, ◌*◌, Some, sym, ◌∙◌, arith}
use Rattle.asm_state.specs.code.Codes.{code_of}
use Rattle.asm_state.specs.Signature.{Shape}
use Rattle.asm_state.specs.declared.value.Value.{Value}
use Rattle.asm_eval.specs.code.ShownViews.{shown}
use Rattle.asm_code.specs.code.Readings as reading
use Rattle.asm_code.specs.code.Readings.{position_from}
use Rattle.asm_code.specs.code.SoundCodes.{AreCells, IsCell}
use Rattle.asm_code.specs.declared.code.Grid.{Grid as GridPlace}
use Rattle.asm_eval.proofs.SpanLaws.{place_within}
use Rattle.asm_eval.proofs.location_values.in_grid.Goals as goal

in_rows : (i rows j columns : ℕ) → i < rows → j < columns → i * columns + j < rows * columns
in_rows i rows j columns low high = grind arith

inside : (shape : Shape) (at : GridPlace) (v w : Value) (i j : ℕ) → AreCells shape at.first (at.rows.count * at.columns.count) → position_from at.rows.low at.rows.count v ≡ Some i → position_from at.columns.low at.columns.count w ≡ Some j
    → IsCell shape (at.first + (i * at.columns.count + j))
inside shape at v w i j cells row column =
    cells (i * at.columns.count + j) (in_rows i at.rows.count j at.columns.count (place_within at.rows.low at.rows.count (code_of v) i row) (place_within at.columns.low at.columns.count (code_of w) j column))

pub cell-requires : goal.cell-requires
cell-requires c = inside c.args.view.now.signature.now c.args.place.now c.args.row c.args.column c.in-Some-Some.i c.in-Some-Some.j c.requires.cells (sym c.position.ensures ∙ c.in-Some-Some.is-0) (sym c.position-2.ensures ∙ c.in-Some-Some.is-1)

pub overflow_mul-i : goal.overflow_mul-i
overflow_mul-i c =
    let it = (inside c.args.view.now.signature.now c.args.place.now c.args.row c.args.column c.in-Some-Some.i c.in-Some-Some.j c.requires.cells (sym c.position.ensures ∙ c.in-Some-Some.is-0) (sym c.position-2.ensures ∙ c.in-Some-Some.is-1)).few in
    omega (arith, it)

pub overflow_add-i : goal.overflow_add-i
overflow_add-i c =
    let it = (inside c.args.view.now.signature.now c.args.place.now c.args.row c.args.column c.in-Some-Some.i c.in-Some-Some.j c.requires.cells (sym c.position.ensures ∙ c.in-Some-Some.is-0) (sym c.position-2.ensures ∙ c.in-Some-Some.is-1)).few in
    omega (arith, it)

pub overflow_add-place : goal.overflow_add-place
overflow_add-place c =
    let it = (inside c.args.view.now.signature.now c.args.place.now c.args.row c.args.column c.in-Some-Some.i c.in-Some-Some.j c.requires.cells (sym c.position.ensures ∙ c.in-Some-Some.is-0) (sym c.position-2.ensures ∙ c.in-Some-Some.is-1)).few in
    omega (arith, it)

pub returns-in-Some-Some : goal.returns-in-Some-Some
returns-in-Some-Some c =
    let at = c.args.place.now in
    let row = sym c.in-Some-Some.is-0 ∙ c.position.ensures in
    let column = sym c.in-Some-Some.is-1 ∙ c.position-2.ensures in
    c.cell.ensures ∙ (λ i. reading.in_grid c.args.view.now.signature.now (shown c.args.view.now) at.first at.columns.count (row i) (column i))
