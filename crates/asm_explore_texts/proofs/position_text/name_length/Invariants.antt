use Rattle.std.proofs.Common.{◌≡◌, ◌+◌, length}
use Rattle.std.specs.List.{prefix_len}
use Rattle.asm_syntax.specs.Tokens.{is_letter_or_digit}
use Rattle.asm_explore_texts.proofs.position_text.name_length.Given as goal

abbrev pub invariant-loop-rest : goal.invariant-loop-rest
invariant-loop-rest l = record {
  so_far : l.length + prefix_len is_letter_or_digit l.rest ≡ prefix_len is_letter_or_digit l.text;
  within : l.length + length l.rest ≡ length l.text;
}

abbrev pub decreases-loop-rest : goal.decreases-loop-rest
decreases-loop-rest l = length l.rest
