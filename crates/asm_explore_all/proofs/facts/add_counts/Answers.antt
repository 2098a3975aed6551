use Rattle.std.proofs.Common.{◌∙◌, ◌∷◌, ◌++◌, [], List, ℕ, ap, append_assoc, codes}
use Rattle.std.specs.Prelude.{option_map}
use Rattle.asm_explore_texts.specs.Comments.{lines_of}
use Rattle.asm_explore_all.specs.AllFacts.{count_line, quiet_line}
use Rattle.asm_explore_all.proofs.facts.add_counts.Goals as goal

pub returns : goal.returns
returns c =
    let answer = c.args.answered.now in
    let old = lines_of c.args.lines.now.items in
    let states = count_line (codes "states") answer.states in
    let steps = count_line (codes "steps") answer.outcomes in
    let depth = count_line (codes "depth") answer.depth in
    let widest = count_line (codes "widest") answer.widest in
    let quiet = quiet_line (option_map (λ name. name.now) c.args.file) answer in
    let and = (λ (line : List ℕ) (ls : List (List ℕ)). ls ++ line ∷ []) in
    let first = c.in_ok-add_count.ensures in
    let second = c.in_ok-add_count-2.ensures ∙ ap (and steps) first in
    let third = c.in_ok-add_count-3.ensures ∙ ap (and depth) second in
    let fourth = c.in_ok-add_count-4.ensures ∙ ap (and widest) third in
    c.in_ok-add.ensures ∙ (ap (λ (line : List ℕ). lines_of c.add_count-4.new.lines.items ++ line ∷ []) c.in_ok-quiet.ensures
    ∙ (ap (and quiet) fourth
    ∙ (append_assoc (((old ++ states ∷ []) ++ steps ∷ []) ++ depth ∷ []) (widest ∷ []) (quiet ∷ [])
    ∙ (append_assoc ((old ++ states ∷ []) ++ steps ∷ []) (depth ∷ []) (widest ∷ quiet ∷ [])
    ∙ (append_assoc (old ++ states ∷ []) (steps ∷ []) (depth ∷ widest ∷ quiet ∷ [])
    ∙ append_assoc old (states ∷ []) (steps ∷ depth ∷ widest ∷ quiet ∷ []))))))
