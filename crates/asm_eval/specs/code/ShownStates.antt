-- Bridge to the code. The state that a view shows: each location with what the view's set has
-- there, instead of what lies below.
--     seen shape A over        the state A with what a summary has at each location instead of A's
--                              content
--     state_below              the state of these contents, with sets fired one after the other
--     shown_over               the same with one more set fired after them
--     IsUpon some U lower      some sets are U, fired after those of lower
--     content_below            what the last of some sets has at a location, and else this value
use Rattle.std.specs.Prelude.{◌≡◌, ℕ, cond, List, Option, Some, None}
use Rattle.asm_state.specs.declared.value.Value.{Value}
use Rattle.asm_state.specs.Location.{State}
use Rattle.asm_state.specs.Signature.{Shape, number_at, state_of}
use Rattle.asm_state.specs.Updates.{is_proper, overwritten}
use Rattle.asm_updates.specs.code.SummaryRanges.{SummaryRanges, summary_range}
use Rattle.asm_eval.specs.declared.below.Below.{Below}
use Rattle.asm_eval.specs.declared.below.Below.TheVariants as below

-- a stray location has no content that a set could replace
unfoldable pub seen : Shape → State → (over : SummaryRanges) → State
seen shape A over l = cond (is_proper l) (overwritten (summary_range over (number_at shape l)) (A l)) (A l)

abbrev pub state_below : Shape → (contents : List Value) → Below → State
state_below shape contents below.Nothing = state_of shape contents
state_below shape contents (below.Set' over p lower) = seen shape (state_below shape contents lower) over.now

abbrev pub shown_over : Shape → (contents : List Value) → Below → (over : SummaryRanges) → State
shown_over shape contents lower over = seen shape (state_below shape contents lower) over

abbrev pub IsUpon : Below → (over : SummaryRanges) → Below → Type 0
IsUpon below.Nothing over lower = ⊥
IsUpon (below.Set' top p rest) over lower = (top.now ≡ over) × (rest ≡ lower)

abbrev pub content_below : Below → ℕ → Value → Value
content_below below.Nothing n v = v
content_below (below.Set' over p lower) n v = overwritten (summary_range over.now n) (content_below lower n v)

abbrev pub content_or : Option Value → Value → Value
content_or None v = v
content_or (Some w) v = w
