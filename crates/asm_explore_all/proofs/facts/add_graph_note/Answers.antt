use Rattle.std.proofs.Common.{◌≡◌, ◌∷◌, ◌++◌, [], ℕ, List, sym, subst}
use Rattle.std.specs.Prelude.{OnOk}
use Rattle.asm_explore_texts.specs.Comments.{lines_of}
use Rattle.asm_explore_all.specs.code.GraphFiles.{graph_lines}
use Rattle.asm_explore_all.proofs.facts.add_graph_note.Goals as goal

pub returns-in_ok-from_str-in-TooMany : goal.returns-in_ok-from_str-in-TooMany
returns-in_ok-from_str-in-TooMany c =
    let new = lines_of c.add_text-in-TooMany.new.lines.items in
    let old = lines_of c.args.lines.now.items in
    subst (λ d. OnOk c.add_text-in-TooMany.result (new ≡ old ++ graph_lines d)) (sym c.in-TooMany.is)
    (subst (λ (xs : List ℕ). OnOk c.add_text-in-TooMany.result (new ≡ old ++ xs ∷ [])) c.in_ok-from_str-in-TooMany.ensures.ok c.add_text-in-TooMany.ensures)

pub returns-in_ok-from_str-in-RunAlone : goal.returns-in_ok-from_str-in-RunAlone
returns-in_ok-from_str-in-RunAlone c =
    let new = lines_of c.add_text.new.lines.items in
    let old = lines_of c.args.lines.now.items in
    subst (λ d. OnOk c.add_text.result (new ≡ old ++ graph_lines d)) (sym c.in-RunAlone.is)
    (subst (λ (xs : List ℕ). OnOk c.add_text.result (new ≡ old ++ xs ∷ [])) c.in_ok-from_str-in-RunAlone.ensures.ok c.add_text.ensures)
