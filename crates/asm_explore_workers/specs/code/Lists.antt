-- Bridge to the code. What is asked of a function that looks ahead instead of a machine.
--     TakesStates shape pre         it may be called with all states, if the nodes have states of
--                                   as many contents
--     LooksAtThem ahead post        each of its calls tells what is known of the steps from the
--                                   first states, of one of them at least
use Rattle.std.specs.Prelude.{◌≡◌, ◌<◌, List, Option, Result as Returned, IfOk, length, take}
use Rattle.std.specs.declared.alloc.AllocError.{AllocError}
use Rattle.std.proofs.Common.{Bor, Vec, Global}
use Rattle.asm_state.specs.code.Contents.{IsStateOf}
use Rattle.asm_state.specs.Signature.{Shape, count_of}
use Rattle.asm_state.specs.declared.value.Value.{Value}
use Rattle.asm_explore.specs.declared.step_ahead.StepAhead.{StepAhead}
use Rattle.asm_explore.specs.declared.states.index.Index.{Index}
use Rattle.asm_explore.specs.code.PackedNodes.{Node}
use Rattle.asm_explore.specs.code.OutcomeLists.{Each}

abbrev pub TakesStates : Shape → (Global → Bor (List (List Value)) → Bor (List Node) → Bor Index → Type 0) → Type 0
TakesStates shape pre = (alloc : Global) (states : Bor (List (List Value))) (nodes : Bor (List Node)) (index : Bor Index) → Each (IsStateOf shape) states.now
    → Each (λ n. length n.state ≡ count_of shape) nodes.now → pre alloc states nodes index

-- the nodes, the states and what is known of their steps
abbrev pub LooksAtThem : (List Node → List (List Value) → List (Option StepAhead) → Type 0)
    → (Global → Bor (List (List Value)) → Bor (List Node) → Bor Index → Returned (Vec (Option StepAhead) Global) AllocError → Type 0) → Type 0
LooksAtThem ahead post = (alloc : Global) (states : Bor (List (List Value))) (nodes : Bor (List Node)) (index : Bor Index) (result : Returned (Vec (Option StepAhead) Global) AllocError)
    → post alloc states nodes index result
    → (0 < length states.now → IfOk result (λ all. 0 < length all.items)) × IfOk result (λ all. ahead nodes.now (take (length all.items) states.now) all.items)
