-- Definition. The end of a run, as a call returns it.
--     kind_of end, step_of end             its kind, and its step, if it isn't the limit of steps
--     end_words_with names between end     it in words, with what stands between its kind and what
--                                          it is, for the number of its step
--     end_words names end                  the same with a space there
use Rattle.std.specs.Prelude.{ℕ, List, Option, Some, None, codes}
use Rattle.asm_state.specs.Location.{Proper}
use Rattle.asm_state.specs.Updates as updates
use Rattle.asm_run.specs.Trace.{TraceNames, fault_words, exhausted_words}
use Rattle.asm_run.specs.declared.end.End.{End}
use Rattle.asm_run.specs.declared.end.End.TheVariants.{Limit, Clash, Outside, Exhausted}
use Rattle.asm_run.specs.declared.end.EndKind.{EndKind}
use Rattle.asm_run.specs.declared.end.EndKind.TheVariants as kind

abbrev pub kind_of : End → EndKind
kind_of Limit = kind.Limit
kind_of (Clash i f vs least greatest) = kind.Clash
kind_of (Outside i f) = kind.Outside
kind_of (Exhausted i p) = kind.Exhausted

abbrev pub step_of : End → Option ℕ
step_of Limit = None
step_of (Clash i f vs least greatest) = Some i
step_of (Outside i f) = Some i
step_of (Exhausted i p) = Some i

abbrev pub end_words_with : TraceNames → (between : (step : ℕ) → List ℕ) → End → List ℕ
end_words_with names between Limit = codes "limit"
end_words_with names between (Clash i f vs least greatest) =
    fault_words names (between i) (updates.Clash (Proper f vs) (record { least = least; greatest = greatest }))
end_words_with names between (Outside i f) = fault_words names (between i) (updates.Outside f)
end_words_with names between (Exhausted i p) = exhausted_words (between i) p

abbrev pub end_words : TraceNames → End → List ℕ
end_words names end = end_words_with names (λ step. codes " ") end
