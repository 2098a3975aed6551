-- Free. Putting the entries of a summary, one after another.
use Rattle.std.proofs.Common.{◌≡◌, ℕ, zero, suc, ◌+◌, List, [], ◌∷◌, ◌++◌, Some, take, refl, sym, ap, subst, ◌∙◌, append_assoc, append-nil, add-one}
use Rattle.std.specs.Prelude.{slice_get}
use Rattle.asm_state.specs.declared.value.Value.{Value}
use Rattle.asm_updates.specs.code.SummaryRanges.{NamedRanges}
use Rattle.asm_striped.specs.declared.board.Put.{Put}
use Rattle.asm_striped.specs.code.Seats.{SeatState, after_put}
use Rattle.asm_run.specs.code.Hands.{LogGrows, entry_of, puts}

pub grows_none : (s : SeatState) → LogGrows s [] s
grows_none s = record { table = refl; parts = refl; log = sym (append-nil s.log) }

pub grows_both : (s t u : SeatState) (more others : List Put) → LogGrows s more t → LogGrows t others u → LogGrows s (more ++ others) u
grows_both s t u more others first second = record {
  table = second.table ∙ first.table;
  parts = second.parts ∙ first.parts;
  log = second.log ∙ ap (λ l. l ++ others) first.log ∙ append_assoc s.log more others;
}

next_taken : {X : Type 0} (xs : List X) (i : ℕ) (x : X) → slice_get xs i ≡ Some x → take (suc i) xs ≡ take i xs ++ x ∷ []
next_taken [] i x at = cc
next_taken (y ∷ xs) zero x at = let same : y ≡ x = cc in ap (λ z. z ∷ []) same
next_taken (y ∷ xs) (suc i) x at = ap (λ zs. y ∷ zs) (next_taken xs i x at)

puts-append : (task : ℕ) (es fs : NamedRanges) → puts task (es ++ fs) ≡ puts task es ++ puts task fs
puts-append task [] fs = refl
puts-append task (e ∷ es) fs = ap (λ l. entry_of task e ∷ l) (puts-append task es fs)

-- one more entry
pub one_more : (first before after : SeatState) (task i : ℕ) (ranges : NamedRanges) (e : ℕ × (Value × Value)) (low high : ℕ) → slice_get ranges i ≡ Some e
    → after ≡ after_put before (entry_of task e) low high → LogGrows first (puts task (take i ranges)) before → LogGrows first (puts task (take (i + 1) ranges)) after
one_more first before after task i ranges e low high at is grown =
    let next : LogGrows before (entry_of task e ∷ []) after = record { table = ap (λ (s : SeatState). s.table) is; parts = ap (λ (s : SeatState). s.parts) is; log = ap (λ (s : SeatState). s.log) is } in
    let all = ap (λ n. puts task (take n ranges)) (add-one i) ∙ ap (puts task) (next_taken ranges i e at) ∙ puts-append task (take i ranges) (e ∷ []) in
    subst (λ l. LogGrows first l after) (sym all) (grows_both first before after (puts task (take i ranges)) (entry_of task e ∷ []) grown next)
