-- Free. What the runs of a pool's tasks put into the table, by all hands.
use Rattle.std.proofs.Common.{◌≡◌, ℕ, ◌+◌, List, [], ◌∷◌, ◌++◌, Some, map, refl, sym, ap, subst, ◌∙◌}
use Rattle.std.specs.List.{slice_get, concat, range_with_len}
use Rattle.std.specs.List.Sorted.{IsPermutation}
use Rattle.asm_state.specs.Signature.{Shape}
use Rattle.asm_state.specs.Updates.{UpdateSet, none, together}
use Rattle.asm_state.proofs.UpdateLemmas.UnionsAndMerges.{union_laws}
use Rattle.asm_updates.specs.code.Unions.{union_of, united}
use Rattle.asm_updates.proofs.Unions.{united_laws}
use Rattle.asm_pool.specs.code.Pool.{RunsList, RunsLists}
use Rattle.asm_striped.specs.declared.board.Put.{Put}
use Rattle.asm_striped.specs.code.Seats.{SeatState}
use Rattle.asm_run.specs.declared.hand.RegionHand.{RegionHand}
use Rattle.asm_run.specs.code.Hands.{LogGrows, LogStands, LogsStand, parts_of}
use Rattle.asm_run.proofs.RoundLemmas.Logs.{both_put, nothing_put}
use Rattle.asm_run.proofs.RoundLemmas.Putting.{grows_both, grows_none}

-- a seat has put entries of this set
pub record PutsSet (shape : Shape) (before : SeatState) (V : UpdateSet) (after : SeatState) : Type 0 where
  pub more : List Put
  pub grows : LogGrows before more after
  pub stands : LogStands shape more V

-- ---- unions

-- the middle two of four change places
exchange : (U V W X : UpdateSet) → together (together U V) (together W X) ≡ together (together U W) (together V X)
exchange U V W X =
    union_laws.group U V (together W X)
    ∙ ap (together U) (sym (union_laws.group V W X) ∙ ap (λ Y. together Y X) (union_laws.swap V W) ∙ union_laws.group W V X)
    ∙ sym (union_laws.group U W (together V X))

-- ---- each run of the task n puts the set f n

module _ {Out : Type 0} (shape : Shape) (takes : RegionHand → Type 0) (runs : ℕ → RegionHand → Out → RegionHand → Type 0) (outs : List Out) (f : ℕ → UpdateSet)
    (each : (n : ℕ) (before after : RegionHand) (out : Out) → slice_get outs n ≡ Some out → runs n before out after → PutsSet shape before.seat (f n) after.seat) where
  list_puts : (tasks : List ℕ) (before after : RegionHand) → RunsList takes runs outs before tasks after → PutsSet shape before.seat (united f tasks) after.seat
  list_puts [] before after did = subst (λ (h : RegionHand). PutsSet shape before.seat none h.seat) did (record { more = []; grows = grows_none before.seat; stands = nothing_put shape })
  list_puts (n ∷ tasks) before after did =
      let first = each n before did.0 did.1.0 did.1.1 did.1.2.2 in
      let rest = list_puts tasks did.0 after did.2 in
      record {
        more = first.more ++ rest.more;
        grows = grows_both before.seat did.0.seat after.seat first.more rest.more first.grows rest.grows;
        stands = both_put shape first.more rest.more (f n) (united f tasks) first.stands rest.stands;
      }

  lists_put : (hands others : List RegionHand) (lists : List (List ℕ)) (U : UpdateSet) → RunsLists takes runs outs hands lists others → LogsStand shape hands U
      → LogsStand shape others (together U (union_of (map (united f) lists)))
  lists_put [] [] [] U did stand = ap (λ V. together V none) stand ∙ union_laws.unit none
  lists_put [] [] (_ ∷ _) U did stand = absurd did
  lists_put [] (_ ∷ _) [] U did stand = absurd did
  lists_put [] (_ ∷ _) (_ ∷ _) U did stand = absurd did
  lists_put (_ ∷ _) [] [] U did stand = absurd did
  lists_put (_ ∷ _) [] (_ ∷ _) U did stand = absurd did
  lists_put (_ ∷ _) (_ ∷ _) [] U did stand = absurd did
  lists_put (hand ∷ hands) (other ∷ others) (list ∷ lists) U did (V, W, own, rest, is) =
      let put = list_puts list hand other did.0 in
      let X = united f list in
      let Y = union_of (map (united f) lists) in (
        together V X,
        together W Y,
        subst (λ l. LogStands shape l (together V X)) (sym put.grows.log) (both_put shape hand.seat.log put.more V X own put.stands),
        lists_put hands others lists W did.1 rest,
        ap (λ Z. together Z (together X Y)) is ∙ exchange V W X Y,
      )

  -- in whatever lists and order the tasks are run
  pub hands_put : (count : ℕ) (hands others : List RegionHand) (lists : List (List ℕ)) (U : UpdateSet)
      → IsPermutation (range_with_len 0 count) (concat lists) → RunsLists takes runs outs hands lists others
      → LogsStand shape hands U → LogsStand shape others (together U (united f (range_with_len 0 count)))
  hands_put count hands others lists U once did stand =
      subst (λ (V : UpdateSet). LogsStand shape others (together U V))
      (united_laws.of_lists f lists ∙ sym (united_laws.of_permutation f (range_with_len 0 count) (concat lists) once))
      (lists_put hands others lists U did stand)

  -- the shares stay as they are
  pub parts_stay : (hands others : List RegionHand) (lists : List (List ℕ)) → RunsLists takes runs outs hands lists others → parts_of others ≡ parts_of hands
  parts_stay [] [] [] did = refl
  parts_stay [] [] (_ ∷ _) did = absurd did
  parts_stay [] (_ ∷ _) [] did = absurd did
  parts_stay [] (_ ∷ _) (_ ∷ _) did = absurd did
  parts_stay (_ ∷ _) [] [] did = absurd did
  parts_stay (_ ∷ _) [] (_ ∷ _) did = absurd did
  parts_stay (_ ∷ _) (_ ∷ _) [] did = absurd did
  parts_stay (hand ∷ hands) (other ∷ others) (list ∷ lists) did =
      ap (λ n. n + parts_of others) (list_puts list hand other did.0).grows.parts ∙ ap (λ n. hand.seat.parts + n) (parts_stay hands others lists did.1)
