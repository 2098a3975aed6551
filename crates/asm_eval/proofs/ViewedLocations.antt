-- Free. What a view shows at a controlled function's location.
use Rattle.std.proofs.Common.{◌≡◌, ℕ, List, refl, ap, ◌∙◌}
use Rattle.std.specs.Prelude.{slice_index_or, IsTrue}
use Rattle.asm_state.specs.declared.value.Value.{Value}
use Rattle.asm_state.specs.declared.value.Value.TheVariants.{Undef}
use Rattle.asm_state.specs.Location.{Location, Proper, Stray}
use Rattle.asm_state.specs.Signature.{Shape, number_at}
use Rattle.asm_state.specs.Updates.{is_proper, overwritten}
use Rattle.asm_updates.specs.code.SummaryRanges.{SummaryRanges, summary_range}
use Rattle.asm_eval.specs.declared.below.Below.{Below}
use Rattle.asm_eval.specs.declared.below.Below.TheVariants as below
use Rattle.asm_eval.specs.code.ShownStates.{seen, state_below, shown_over, content_below}
use Rattle.asm_meaning.specs.Value.{read}

-- the sets below a view have at a proper location what they have at its number
below_at : (shape : Shape) (contents : List Value) (lower : Below) (l : Location) → IsTrue (is_proper l)
    → content_below lower (number_at shape l) (slice_index_or contents (number_at shape l) Undef) ≡ state_below shape contents lower l
unfolding seen
below_at shape contents below.Nothing (Proper f vs) is = refl
below_at shape contents (below.Set' over p lower) (Proper f vs) is =
    ap (overwritten (summary_range over.now (number_at shape (Proper f vs)))) (below_at shape contents lower (Proper f vs) is)
below_at shape contents lower (Stray f) is = cc

-- a proper location shows what is at its number
pub shown_at : (shape : Shape) (contents : List Value) (lower : Below) (over : SummaryRanges) (l : Location) (n : ℕ) → n ≡ number_at shape l → IsTrue (is_proper l)
    → overwritten (summary_range over n) (content_below lower n (slice_index_or contents n Undef)) ≡ shown_over shape contents lower over l
unfolding seen
shown_at shape contents lower over (Proper f vs) n e is =
    ap (λ m. overwritten (summary_range over m) (content_below lower m (slice_index_or contents m Undef))) e
    ∙ ap (overwritten (summary_range over (number_at shape (Proper f vs)))) (below_at shape contents lower (Proper f vs) is)
shown_at shape contents lower over (Stray f) n e is = cc

pub read_at : (shape : Shape) (contents : List Value) (lower : Below) (over : SummaryRanges) (l : Location) (n : ℕ) → n ≡ number_at shape l → IsTrue (is_proper l)
    → overwritten (summary_range over n) (content_below lower n (slice_index_or contents n Undef)) ≡ read (shown_over shape contents lower over) l
read_at shape contents lower over (Proper f vs) n e is = shown_at shape contents lower over (Proper f vs) n e is
read_at shape contents lower over (Stray f) n e is = cc
