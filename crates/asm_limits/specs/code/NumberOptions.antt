-- Bridge to the code. What an option of the code is.
use Rattle.std.specs.Prelude.{option_map}
use Rattle.asm_limits.specs.declared.run_limits.NumberOption as code
use Rattle.asm_limits.specs.Limits.{NumberOption}

abbrev pub as_option : code.NumberOption → NumberOption
as_option option = record {
  name = option.name.now;
  bounds = option.bounds;
  default = option_map (λ text. text.now) option.default;
}
