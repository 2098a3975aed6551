use Rattle.std.proofs.Common.{◌≡◌, ◌++◌, List, ℕ, take}
use Rattle.clap.specs.Walk.{texts}
use Rattle.asm_explore_texts.specs.Conditions.{texts_of}
use Rattle.asm_explore_tool.specs.GivenTexts.{AreFronts, file_sources, sources_of}
use Rattle.asm_explore_tool.proofs.given_texts.with_files.Given as goal

abbrev pub invariant-loop-k : goal.invariant-loop-k
invariant-loop-k g l = record {
  files : (files : List (List ℕ)) × AreFronts (g.F.Folder.contents l.folder) (texts (take l.k l.names)) files × (texts_of l.all.items ≡ texts_of l.initial.all.items ++ files);
  sources : sources_of l.all.items ≡ sources_of l.initial.all.items ++ file_sources (take l.k l.names);
}
