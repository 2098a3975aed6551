-- Definition. The bounds of values, by the constants of the code.
--     least_number, greatest_number     between which all numbers lie
--     code_of_zero                      the code of the number 0: those of the other numbers lie
--                                       round it
--     code_of_first_element             the code of element 0, after those of all numbers
use Rattle.std.specs.Prelude.{ℕ, ◌+◌, ◌*◌, ℤ, neg_ℤ, unsigned_abs}
use Rattle.asm_state.specs.declared.number.TheConstants.{MAX_NUMBER}

abbrev pub greatest_number : ℤ
greatest_number = MAX_NUMBER

abbrev pub least_number : ℤ
least_number = neg_ℤ MAX_NUMBER

abbrev pub code_of_zero : ℕ
code_of_zero = unsigned_abs MAX_NUMBER + 4

abbrev pub code_of_first_element : ℕ
code_of_first_element = 2 * unsigned_abs MAX_NUMBER + 5
