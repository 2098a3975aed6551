-- Bridge to the code. The trees that the program's codes stand for.
use Rattle.std.specs.Prelude.{List, [], ◌∷◌}
use Rattle.std.specs.Arc.{arc_value}
use Rattle.asm_state.specs.declared.operation.Op.{Op}
use Rattle.asm_state.specs.declared.operation.Op.TheVariants.{Add, Remainder, Equal}
use Rattle.asm_state.specs.declared.value.Value.TheVariants.{Number}
use Rattle.asm_code.specs.code.CodeTree as tree
use Rattle.asm_code.specs.declared.code.Code.{Code}
use Rattle.asm_code.specs.declared.code.Code.TheOpen.{Code-F}
use Rattle.asm_code.specs.declared.code.Code.TheOpen as code
use Rattle.asm_code.specs.declared.code.Code.TheFolds.{fold-Code}

abbrev pub codes_of : List tree.Code → tree.Codes
codes_of [] = tree.no_codes
codes_of (t ∷ ts) = tree.code_then t (codes_of ts)

abbrev pub links_of : List (Op × tree.Code) → tree.Links
links_of [] = tree.no_links
links_of ((o, t) ∷ links) = tree.link_then o t (links_of links)

abbrev pub code_step : Code-F tree.Code → tree.Code
code_step (code.Constant v) = tree.Constant v
code_step (code.Local i) = tree.Local i
code_step (code.Cell n) = tree.Cell n
code_step (code.Row first over t) = tree.Row first over.low over.count t.value
code_step (code.Grid at s t) = tree.Grid at.first at.rows.low at.rows.count at.columns.low at.columns.count s.value t.value
code_step (code.FunctionAt f ts) = tree.Held f (codes_of ts.items)
code_step (code.Derived body ts) = tree.Derived (arc_value body) (codes_of ts.items)
code_step (code.DerivedOne body t) = tree.Derived (arc_value body) (tree.code_then t.value tree.no_codes)
code_step (code.DerivedTwo body s t) = tree.Derived (arc_value body) (tree.code_then s.value (tree.code_then t.value tree.no_codes))
code_step (code.With o t v) = tree.With o t.value v
code_step (code.Plus t n) = tree.With Add t.value (Number n)
code_step (code.PlusModulo t m n) = tree.With Remainder (tree.With Add t.value (Number m)) (Number n.number)
code_step (code.Modulo t n) = tree.With Remainder t.value (Number n.number)
code_step (code.Equals t v) = tree.With Equal t.value v
code_step (code.Both o s t) = tree.Both o s.value t.value
code_step (code.Chain t links) = tree.Chain t.value (links_of links.items)
code_step (code.Exists over t) = tree.Exists over t.value
code_step (code.Every over t) = tree.Every over t.value

abbrev pub code_of : Code → tree.Code
code_of = fold-Code tree.Code code_step

-- a link of the program's chains
abbrev pub link_of : Op × Code → Op × tree.Code
link_of l = (l.0, code_of l.1)
