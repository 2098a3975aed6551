-- Free. The weight of a term of a checked specification falls on the way of its evaluation.
use Rattle.asm_syntax.specs.code.Views.{spec_of}
use Rattle.asm_check.specs.Ranks.{derived_rank}
use Rattle.asm_check.specs.declared.checked.Checked.{Checked}
use Rattle.asm_meaning.specs.Program.{Environment}
use Rattle.asm_meaning.specs.code.TermValues.{program}
use Rattle.asm_meaning.specs.code.Weights.{WeightsFall}
use Rattle.asm_meaning.proofs.RanksInPrograms.{declared_ranks-derived as ranked}
use Rattle.asm_meaning.proofs.Weights.{term_weights_fall}

pub falls : (checked : Checked) (e : Environment) → WeightsFall (program checked) (derived_rank (spec_of checked.spec)) e
falls checked e = term_weights_fall (program checked) (derived_rank (spec_of checked.spec)) e (ranked (spec_of checked.spec) checked.well_formed)
