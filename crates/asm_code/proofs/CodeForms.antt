-- Free. The tree of each variant of the program's codes, and how many codes a list has.
use Rattle.std.proofs.Common.{◌≡◌, ◌∙◌, ℕ, List, [], ◌∷◌, length, map, refl, ap, sym, arith, Box, Vec, Global}
use Rattle.std.specs.Arc.{arc_value}
use Rattle.asm_state.specs.declared.operation.Op.{Op}
use Rattle.asm_state.specs.declared.value.Value.{Value}
use Rattle.asm_code.specs.code.CodeTree as tree
use Rattle.asm_code.specs.code.CodeViews.{code_of, code_step, codes_of, link_of, links_of}
use Rattle.asm_code.specs.code.SoundCodes.{count}
use Rattle.asm_code.specs.declared.code.Code.{Code}
use Rattle.asm_code.specs.declared.code.Grid.{Grid as GridPlace}
use Rattle.asm_code.specs.declared.code.CodeRange.{CodeRange}
use Rattle.asm_code.specs.declared.code.Code.TheOpen as opened_code
use Rattle.asm_code.specs.declared.code.Code.TheVariants as code
use Rattle.asm_code.specs.declared.code.Code.TheFolds.{fold-roll-Code}

pub code_laws-constant_form : (t : Code) (v : Value) → t ≡ code.Constant v → code_of t ≡ tree.Constant v
code_laws-constant_form t v is = ap code_of is ∙ ap code_of (sym (code.rolls-Constant v)) ∙ fold-roll-Code tree.Code code_step (opened_code.Constant v)

pub code_laws-local_form : (t : Code) (i : ℕ) → t ≡ code.Local i → code_of t ≡ tree.Local i
code_laws-local_form t i is = ap code_of is ∙ ap code_of (sym (code.rolls-Local i)) ∙ fold-roll-Code tree.Code code_step (opened_code.Local i)

pub code_laws-cell_form : (t : Code) (n : ℕ) → t ≡ code.Cell n → code_of t ≡ tree.Cell n
code_laws-cell_form t n is = ap code_of is ∙ ap code_of (sym (code.rolls-Cell n)) ∙ fold-roll-Code tree.Code code_step (opened_code.Cell n)

pub code_laws-row_form : (t : Code) (first : ℕ) (over : CodeRange) (s : Box Code Global) → t ≡ code.Row first over s → code_of t ≡ tree.Row first over.low over.count (code_of s.value)
code_laws-row_form t first over s is = ap code_of is ∙ ap code_of (sym (code.rolls-Row first over s)) ∙ fold-roll-Code tree.Code code_step (opened_code.Row first over s)

pub code_laws-grid_form : (t : Code) (at : GridPlace) (s : Box Code Global) (u : Box Code Global) → t ≡ code.Grid at s u
    → code_of t ≡ tree.Grid at.first at.rows.low at.rows.count at.columns.low at.columns.count (code_of s.value) (code_of u.value)
code_laws-grid_form t at s u is = ap code_of is ∙ ap code_of (sym (code.rolls-Grid at s u)) ∙ fold-roll-Code tree.Code code_step (opened_code.Grid at s u)

pub code_laws-held_form : (t : Code) (f : ℕ) (ts : Vec Code Global) → t ≡ code.FunctionAt f ts → code_of t ≡ tree.Held f (codes_of (map code_of ts.items))
code_laws-held_form t f ts is = ap code_of is ∙ ap code_of (sym (code.rolls-FunctionAt f ts)) ∙ fold-roll-Code tree.Code code_step (opened_code.FunctionAt f ts)

pub code_laws-derived_form : (t : Code) (body : _) (ts : Vec Code Global) → t ≡ code.Derived body ts → code_of t ≡ tree.Derived (code_of (arc_value body)) (codes_of (map code_of ts.items))
code_laws-derived_form t body ts is = ap code_of is ∙ ap code_of (sym (code.rolls-Derived body ts)) ∙ fold-roll-Code tree.Code code_step (opened_code.Derived body ts)

pub code_laws-with_form : (t : Code) (o : Op) (s : Box Code Global) (v : Value) → t ≡ code.With o s v → code_of t ≡ tree.With o (code_of s.value) v
code_laws-with_form t o s v is = ap code_of is ∙ ap code_of (sym (code.rolls-With o s v)) ∙ fold-roll-Code tree.Code code_step (opened_code.With o s v)

pub code_laws-both_form : (t : Code) (o : Op) (s : Box Code Global) (u : Box Code Global) → t ≡ code.Both o s u → code_of t ≡ tree.Both o (code_of s.value) (code_of u.value)
code_laws-both_form t o s u is = ap code_of is ∙ ap code_of (sym (code.rolls-Both o s u)) ∙ fold-roll-Code tree.Code code_step (opened_code.Both o s u)

pub code_laws-chain_form : (t : Code) (s : Box Code Global) (links : Vec (Op × Code) Global) → t ≡ code.Chain s links → code_of t ≡ tree.Chain (code_of s.value) (links_of (map link_of links.items))
code_laws-chain_form t s links is = ap code_of is ∙ ap code_of (sym (code.rolls-Chain s links)) ∙ fold-roll-Code tree.Code code_step (opened_code.Chain s links)

pub code_laws-exists_form : (t : Code) (over : ℕ) (s : Box Code Global) → t ≡ code.Exists over s → code_of t ≡ tree.Exists over (code_of s.value)
code_laws-exists_form t over s is = ap code_of is ∙ ap code_of (sym (code.rolls-Exists over s)) ∙ fold-roll-Code tree.Code code_step (opened_code.Exists over s)

pub code_laws-every_form : (t : Code) (over : ℕ) (s : Box Code Global) → t ≡ code.Every over s → code_of t ≡ tree.Every over (code_of s.value)
code_laws-every_form t over s is = ap code_of is ∙ ap code_of (sym (code.rolls-Every over s)) ∙ fold-roll-Code tree.Code code_step (opened_code.Every over s)

pub code_laws-count_of_codes : (ts : List Code) → count (codes_of (map code_of ts)) ≡ length ts
code_laws-count_of_codes [] = refl
code_laws-count_of_codes (t ∷ ts) = let rest = code_laws-count_of_codes ts in omega (arith, rest)
