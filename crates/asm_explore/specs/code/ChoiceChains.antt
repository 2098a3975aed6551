-- Bridge to the code. The choices that a chain has.
use Rattle.std.specs.Prelude.{List, [], ◌∷◌, ◌++◌, Option, Some, None}
use Rattle.std.proofs.Common.{Global}
use Rattle.std.specs.Arc.{arc_value}
use Rattle.std.specs.declared.sync.Arc.{Arc}
use Rattle.asm_explore.specs.declared.outcomes.listed_outcome.Choice.{Choice}
use Rattle.asm_explore.specs.declared.outcomes.chain.Chain.{Chain}
use Rattle.asm_explore.specs.declared.outcomes.chain.Chain.TheOpen.{Chain-F}
use Rattle.asm_explore.specs.declared.outcomes.chain.Chain.TheOpen as chain
use Rattle.asm_explore.specs.declared.outcomes.chain.Chain.TheFolds.{fold-Chain}

abbrev pub chain_step : Chain-F (List Choice) → List Choice
chain_step (chain.One c) = c ∷ []
chain_step (chain.Both first then) = arc_value first ++ arc_value then

abbrev pub chained : Chain → List Choice
chained = fold-Chain (List Choice) chain_step

abbrev pub linked : Option (Arc Chain Global) → List Choice
linked None = []
linked (Some c) = chained (arc_value c)

-- of chains after each other
abbrev pub all_chained : List (Arc Chain Global) → List Choice
all_chained [] = []
all_chained (c ∷ cs) = chained (arc_value c) ++ all_chained cs
