use Rattle.std.proofs.Common.{◌≡◌, ◌<◌, ◌^◌, true, take}
use Rattle.std.specs.Char.{is_ascii_digit}
use Rattle.std.specs.List.{list_all}
use Rattle.asm_syntax.specs.Tokens.{value_of}
use Rattle.asm_explore_texts.proofs.run_numbers.value.Given as goal

-- The bytes so far are digits with this value, which is below the power of ten of that many digits.
abbrev pub invariant-loop-digit : goal.invariant-loop-digit
invariant-loop-digit l = record {
  digits : list_all is_ascii_digit (take l.digit-index l.digits) ≡ true;
  value : l.value ≡ value_of 0 (take l.digit-index l.digits);
  below : l.value < 10 ^ l.digit-index;
}
