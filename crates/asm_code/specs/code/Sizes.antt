-- Bridge to the code. How many nodes a code has, with the bodies of its derived functions written
-- out.
use Rattle.std.specs.Prelude.{ℕ, ◌+◌}
use Rattle.asm_code.specs.code.CodeTree.{Code, Constant, Local, Cell, Row, Grid, Held, Derived, With, Both, Chain, Exists, Every, Codes, no_codes, code_then, Links, no_links, link_then}

abbrev mutual
  pub size : Code → ℕ
  size (Constant v) = 1
  size (Local i) = 1
  size (Cell n) = 1
  size (Row first low many t) = 1 + size t
  size (Grid first low rows left columns s t) = 1 + (size s + size t)
  size (Held f ts) = 1 + sizes ts
  size (Derived t ts) = 1 + (size t + sizes ts)
  size (With o t v) = 1 + size t
  size (Both o s t) = 1 + (size s + size t)
  size (Chain t links) = 1 + (size t + link_sizes links)
  size (Exists u t) = 1 + size t
  size (Every u t) = 1 + size t

  pub sizes : Codes → ℕ
  sizes no_codes = 0
  sizes (code_then t ts) = size t + sizes ts

  pub link_sizes : Links → ℕ
  link_sizes no_links = 0
  link_sizes (link_then o t links) = size t + link_sizes links
