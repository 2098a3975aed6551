-- Bridge to the code. Main rules, as the code meets them.
--     main_rule_faults spec xs    the faults of the names after `init`, except that there is none
--     is_any xs                   whether one is named
use Rattle.std.specs.Prelude.{ℕ, Bool, true, false, List, [], ◌∷◌}
use Rattle.asm_syntax.specs.SourceTree.{Name, Spec}
use Rattle.asm_check.specs.code.FaultLists.{faults_of_inits}

abbrev pub main_rule_faults : Spec → List Name → List (ℕ × ℕ)
main_rule_faults spec [] = []
main_rule_faults spec (x ∷ more) = faults_of_inits spec (x ∷ more)

abbrev pub is_any : List Name → Bool
is_any [] = false
is_any (x ∷ xs) = true
