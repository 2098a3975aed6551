use Rattle.std.proofs.Common.{◌≡◌, ◌++◌, [], drop}
use Rattle.std.specs.List.{filter_map}
use Rattle.asm_resolve.specs.code.Scopes.{AreResolvedBodies}
use Rattle.asm_explore_because.specs.Because.{each_once, read_text}
use Rattle.asm_explore_because.specs.code.CodedParts.{bound_of, spec_in, state_in, terms_at, texts_of}
use Rattle.asm_explore_because.proofs.reads.read_texts.Given as goal

abbrev pub invariant-loop-i : goal.invariant-loop-i
invariant-loop-i l = record {
  texts : texts_of l.texts.items ++ each_once (texts_of l.texts.items) (filter_map (read_text (spec_in l.scene) (state_in l.scene) (bound_of l.bound)) (terms_at (drop l.i l.calls.items)))
      ≡ each_once [] (filter_map (read_text (spec_in l.scene) (state_in l.scene) (bound_of l.bound)) (terms_at l.calls.items));
  known : AreResolvedBodies (spec_in l.scene) l.known.terms.items;
}
