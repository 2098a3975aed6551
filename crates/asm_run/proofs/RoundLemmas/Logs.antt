-- Free. What logs stand for.
use Rattle.std.proofs.Common.{◌≡◌, ℕ, List, [], ◌∷◌, ◌++◌, None, refl, sym, ap, subst, ◌∙◌, inl, inr}
use Rattle.asm_state.specs.Location.{Location}
use Rattle.asm_state.specs.Signature.{Shape, IsSound, count_of, location_at}
use Rattle.asm_state.specs.Updates.{UpdateSet, none, together, widen, range_at}
use Rattle.asm_state.proofs.UpdateLemmas.Members.{member_laws}
use Rattle.asm_state.proofs.UpdateLemmas.Summaries.{summary_laws}
use Rattle.asm_updates.specs.code.SummaryRanges.{SummaryRanges, NamedRanges}
use Rattle.asm_updates.specs.code.EntryLists.{range_in}
use Rattle.asm_updates.specs.code.Stands.{Stands, MarksFaults}
use Rattle.asm_updates.proofs.EntryLists.{entry_list_laws}
use Rattle.asm_striped.specs.declared.board.Put.{Put}
use Rattle.asm_striped.specs.code.Log.{AreValuesOf, IsSummaryOfLog}
use Rattle.asm_striped.proofs.LogLaws.{log_laws}
use Rattle.asm_run.specs.declared.hand.RegionHand.{RegionHand}
use Rattle.asm_run.specs.code.Hands.{AreEntriesOf, LogStands, LogsStand, logs_of, puts}

none_range : (l : Location) → range_at none l ≡ None
none_range l = summary_laws.one_range none l (range_at none l) None (summary_laws.exists none l) (summary_laws.of_none l)

union_range : (U V : UpdateSet) (l : Location) → range_at (together U V) l ≡ widen (range_at U l) (range_at V l)
union_range U V l =
    summary_laws.one_range (together U V) l (range_at (together U V) l) (widen (range_at U l) (range_at V l)) (summary_laws.exists (together U V) l)
    (summary_laws.of_union U V (range_at U) (range_at V) (summary_laws.exists U) (summary_laws.exists V) l)

pub nothing_put : (shape : Shape) → LogStands shape [] none
nothing_put shape = record {
  ranges = [];
  are_values = tt;
  has_ranges = λ n h. sym (none_range (location_at shape n));
  names_within = λ l (v, m). absurd (member_laws.of_none l v m);
}

-- one log after another
pub both_put : (shape : Shape) (log more : List Put) (U V : UpdateSet) → LogStands shape log U → LogStands shape more V → LogStands shape (log ++ more) (together U V)
both_put shape log more U V first second = record {
  ranges = first.ranges ++ second.ranges;
  are_values = log_laws.of_append log more first.ranges second.ranges first.are_values second.are_values;
  has_ranges = λ n h.
      entry_list_laws.of_append first.ranges second.ranges n
      ∙ ap (λ r. widen r (range_in second.ranges n)) (first.has_ranges n h)
      ∙ ap (widen (range_at U (location_at shape n))) (second.has_ranges n h)
      ∙ sym (union_range U V (location_at shape n));
  names_within = λ l (v, m). elim ((member_laws.of_union U V l v).0 m) [ inl x ↦ first.names_within l (v, x) | inr y ↦ second.names_within l (v, y) ];
}

values_put : (task : ℕ) (ranges : NamedRanges) → AreValuesOf (puts task ranges) ranges
values_put task [] = tt
values_put task (e ∷ es) = (refl, refl, refl, values_put task es)

-- the entries of a set
pub set_put : (shape : Shape) (task : ℕ) (U : UpdateSet) (log : List Put) → AreEntriesOf shape task U log → LogStands shape log U
set_put shape task U log are = record {
  ranges = are.summary.ranges;
  are_values = subst (λ l. AreValuesOf l are.summary.ranges) (sym are.entries) (values_put task are.summary.ranges);
  has_ranges = λ n h. sym (entry_list_laws.of_summary are.summary are.sound n) ∙ are.stands.has_ranges n h;
  names_within = are.stands.names_within;
}

-- all logs in one
pub all_put : (shape : Shape) (hands : List RegionHand) (U : UpdateSet) → LogsStand shape hands U → LogStands shape (logs_of hands) U
all_put shape [] U is = subst (LogStands shape []) (sym is) (nothing_put shape)
all_put shape (h ∷ hands) U (V, W, first, rest, is) = subst (LogStands shape (h.seat.log ++ logs_of hands)) (sym is) (both_put shape h.seat.log (logs_of hands) V W first (all_put shape hands W rest))

-- what the table is closed with
pub closed_stands : (shape : Shape) (log : List Put) (U : UpdateSet) (s : SummaryRanges) → IsSound shape → s.count ≡ count_of shape → LogStands shape log U → IsSummaryOfLog log s → MarksFaults shape s → Stands shape s U
closed_stands shape log U s sound is stands summary marks = record {
  is_sound = sound;
  has_count = is;
  has_ranges = λ n h. log_laws.summary log stands.ranges s summary stands.are_values n ∙ stands.has_ranges n h;
  names_within = stands.names_within;
  marks_faults = marks;
}
