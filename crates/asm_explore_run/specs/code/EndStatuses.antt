-- Bridge to the code. Statuses of runs, as the code has their ends.
--     clash_status clash     of a run that ends so, with the assignments by which it does
use Rattle.std.specs.Prelude.{ℕ}
use Rattle.asm_clash.specs.declared.clash.ClashOfRun.{ClashOfRun}
use Rattle.asm_clash.specs.declared.clash.ClashOfRun.TheVariants as clash

abbrev pub clash_status : ClashOfRun → ℕ
clash_status clash.Limit = 0
clash_status (clash.Exhausted step q) = 1
clash_status (clash.Faulty step fault found count) = 1
