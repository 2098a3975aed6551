use Rattle.std.proofs.Common.{◌≡◌, false, take}
use Rattle.std.specs.Prelude.{option_map}
use Rattle.clap.specs.Walk.{texts}
use Rattle.asm_explore_words.specs.WordsSaid.{is_over_conditions}
use Rattle.asm_explore_words.proofs.settings.is_over_condition.Given as goal

abbrev pub invariant-loop-k : goal.invariant-loop-k
invariant-loop-k l = is_over_conditions (texts (take l.k l.files)) (option_map (λ text. text.now) l.dot) (option_map (λ text. text.now) l.quiet) ≡ false
