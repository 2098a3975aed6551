use Rattle.std.proofs.Common.{◌++◌, ◌∙◌, ap, sym}
use Rattle.std.specs.Prelude.{codes}
use Rattle.std.specs.String.{string_bytes}
use Rattle.asm_graph.specs.Dot.{fault_line}
use Rattle.asm_graph.proofs.Texts.{fault_shown, pushed}
use Rattle.asm_graph.proofs.dot.add_fault.Goals as goal

pub returns : goal.returns
returns c =
    let start = string_bytes c.args.dot.now in
    let last = codes " [shape=octagon, color=red, fontcolor=red];\n" in
    pushed c.push_str-3.result (string_bytes c.push_str-3.new.self) (string_bytes c.push_str-2.new.self) last (start ++ fault_line c.args.steps.now c.args.fault) c.push_str-3.ensures.bytes
    (ap (λ t. t ++ last) (c.in_ok-push_str-2.ensures.bytes ∙ (λ k. c.in_ok-push_str.ensures.bytes k ++ c.fault_name.ensures k))
    ∙ fault_shown c.args.steps.now c.args.fault start (sym c.some_has_fault.ensures ∙ c.if-not-some_has_fault.false))
