use Rattle.std.proofs.Common.{rules, ◌≡◌, ◌∙◌, ◌++◌, ap, append_assoc, codes, decimal}
use Rattle.asm_explore_report.specs.Commands.{file_words, turns_words}
use Rattle.asm_explore_report.proofs.command.command.Goals as goal

pub returns : goal.returns
returns c =
    let front = codes "asm --steps " in
    let steps = decimal c.args.steps in
    let script = codes " --script THIS" in
    let turns = turns_words c.args.turns in
    let file = file_words c.args.name.now in
    let line : c.into_bytes-line.result.items ≡ front ++ (steps ++ script) = search rules in
    c.in_ok-push_file.ensures ∙ (ap (λ t. t ++ file) (c.in_ok-push_turns.ensures ∙ ap (λ t. t ++ turns) line)
    ∙ (append_assoc (front ++ (steps ++ script)) turns file
    ∙ (append_assoc front (steps ++ script) (turns ++ file) ∙ ap (λ t. front ++ t) (append_assoc steps script (turns ++ file)))))
