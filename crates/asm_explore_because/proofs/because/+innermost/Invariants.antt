use Rattle.asm_explore_because.specs.code.CodedParts.{part_of, spec_in}
use Rattle.asm_explore_because.specs.code.PartWeights.{part_weight}
use Rattle.asm_explore_because.proofs.because.+innermost.Given as goal

abbrev pub decreases-innermost : goal.decreases-innermost
decreases-innermost l = part_weight (spec_in l.scene.now) (part_of l.part)
