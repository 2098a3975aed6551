use Rattle.std.proofs.Common.{◌≡◌}
use Rattle.asm_explore_texts.proofs.rule_in_text.PlaceInText.called.Given as goal

-- the names alone change
abbrev pub invariant-loop-behind : goal.invariant-loop-behind
invariant-loop-behind l = (l.self.is_turn ≡ l.initial.self.is_turn) × (l.self.variables ≡ l.initial.self.variables) × (l.self.elements ≡ l.initial.self.elements)
