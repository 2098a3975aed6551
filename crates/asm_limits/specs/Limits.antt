-- Definition. The limits of a run, and the options that give them.
--     NumberOption             an option's name, the numbers that it takes, and what stands for its
--                              value if it is left out; without this it can't be left out
--     is_within bounds n       from the least to the greatest
--     are_within given         each number is one that the option beside it takes
--     limits_given limits      each option, with the limit that it gives
--     limit_options            the options; options_with_defaults, those but for the steps
--     are_in_range limits      each limit is one of the numbers that its option takes
--     default_value option     the number that stands for it if it is left out
--     default_values limits    the limits, each in the place of its option; none for the steps,
--                              which can't be left out
use Rattle.std.specs.Prelude.{ℕ, Bool, ◌&&◌, nat_le, List, [], ◌∷◌, Option, Some, None, map, option_map, codes, ℤ, pos}
use Rattle.std.specs.List.{list_all}
use Rattle.std.specs.Str.Parse.{signed_digits_value}
use Rattle.asm_limits.specs.declared.run_limits.Bounds.{Bounds}
use Rattle.asm_limits.specs.declared.run_limits.Limits.{Limits}

pub record NumberOption : Type 0 where
  pub name : List ℕ
  pub bounds : Bounds
  pub default : Option (List ℕ)

abbrev pub is_within : Bounds → ℕ → Bool
is_within bounds n = nat_le bounds.least n && nat_le n bounds.most

abbrev pub from_to : ℕ → ℕ → Bounds
from_to least most = record { least = least; most = most }

abbrev pub are_within : List (NumberOption × ℕ) → Bool
are_within given = list_all (λ each. is_within each.0.bounds each.1) given

-- ---- the options

abbrev pub steps_option : NumberOption
steps_option = record { name = codes "steps"; bounds = from_to 0 1_000_000; default = None }

abbrev pub turns_option : NumberOption
turns_option = record { name = codes "turns"; bounds = from_to 1 1_000_000; default = Some (codes "1000") }

abbrev pub workers_option : NumberOption
workers_option = record { name = codes "workers"; bounds = from_to 1 32; default = Some (codes "1") }

abbrev pub cut_option : NumberOption
cut_option = record { name = codes "cut"; bounds = from_to 1 4096; default = Some (codes "64") }

abbrev pub rounds_option : NumberOption
rounds_option = record { name = codes "rounds"; bounds = from_to 0 64; default = Some (codes "4") }

abbrev pub options_with_defaults : List NumberOption
options_with_defaults = turns_option ∷ workers_option ∷ cut_option ∷ rounds_option ∷ []

abbrev pub limit_options : List NumberOption
limit_options = steps_option ∷ options_with_defaults

-- ---- the limits

abbrev pub limits_given : Limits → List (NumberOption × ℕ)
limits_given limits =
    (steps_option, limits.steps) ∷ (turns_option, limits.turns) ∷ (workers_option, limits.workers)
    ∷ (cut_option, limits.cut) ∷ (rounds_option, limits.rounds) ∷ []

abbrev pub are_in_range : Limits → Bool
are_in_range limits = are_within (limits_given limits)

abbrev pub default_value : NumberOption → Option ℤ
default_value option = option_map (signed_digits_value 10) option.default

abbrev pub default_values : Limits → List (Option ℤ)
default_values limits = None ∷ map (λ n. Some (pos n)) (limits.turns ∷ limits.workers ∷ limits.cut ∷ limits.rounds ∷ [])
