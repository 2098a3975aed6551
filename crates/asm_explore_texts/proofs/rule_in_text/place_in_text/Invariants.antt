use Rattle.std.proofs.Common.{◌≡◌, Some, drop}
use Rattle.asm_syntax.specs.code.Views.{spec_of}
use Rattle.asm_explore_texts.specs.Places.{follow, place_at}
use Rattle.asm_explore_texts.specs.code.TextPlaces.{AreEven, place_said}
use Rattle.asm_explore_texts.proofs.rule_in_text.place_in_text.Given as goal

-- what is left of the path leads on to its place
abbrev pub invariant-loop-k : goal.invariant-loop-k
invariant-loop-k l =
    let s = spec_of l.checked.spec in
    record {
      even : AreEven l.place;
      leads : follow s (drop l.k l.path) (Some (place_said l.place)) ≡ place_at s l.path;
    }
