use Rattle.std.proofs.Common.{◌≡◌, ◌++◌, drop}
use Rattle.asm_explore_because.specs.Because.{calls_in}
use Rattle.asm_explore_because.specs.code.CodedParts.{terms_at}
use Rattle.asm_explore_because.specs.code.CodedTerms.{links_in}
use Rattle.asm_explore_because.proofs.reads.+push_calls.Given as goal

abbrev pub invariant-push_calls_in-loop-term : goal.invariant-push_calls_in-loop-term
invariant-push_calls_in-loop-term l =
    terms_at l.calls.items ++ calls_in (links_in (drop l.term-index l.rest)) ≡ terms_at l.fn.calls.items ++ calls_in (links_in l.rest)
