use Rattle.std.proofs.Common.{◌≡◌, ◌∷◌, ◌++◌, [], List, ℕ, subst}
use Rattle.std.specs.Prelude.{OnOk}
use Rattle.asm_explore_texts.specs.Comments.{lines_of}
use Rattle.asm_explore_report.specs.Facts.{condition_line}
use Rattle.asm_explore_random.proofs.random_facts.add_quiet.Goals as goal

pub returns-in_ok-from_str-in-Some : goal.returns-in_ok-from_str-in-Some
returns-in_ok-from_str-in-Some c =
    let old = lines_of c.args.lines.now.items in
    let new = lines_of c.add_condition.new.lines.items in
    let text = c.in-Some.condition.text.items in
    rw c.in-Some.is
    (subst (λ (name : List ℕ). OnOk c.add_condition.result (new ≡ old ++ condition_line name text ∷ [])) c.in_ok-from_str-in-Some.ensures.ok c.add_condition.ensures)
