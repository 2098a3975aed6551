-- Free. Hands that have put nothing yet, and hands between two rounds.
use Rattle.std.proofs.Common.{◌≡◌, List, [], ◌∷◌, All, length, refl, sym, subst, arith}
use Rattle.std.specs.List.{AllByRecursion}
use Rattle.std.proofs.lemmas.List.Elements.{All-weaker, recursion_from_All}
use Rattle.asm_striped.specs.code.Seats.{TableId}
use Rattle.asm_state.specs.Signature.{Shape}
use Rattle.asm_state.specs.Updates.{none}
use Rattle.asm_state.proofs.UpdateLemmas.UnionsAndMerges.{union_laws}
use Rattle.asm_run.specs.declared.hand.RegionHand.{RegionHand}
use Rattle.asm_run.specs.code.Hands.{IsNewHand, LogStands, LogsStand, TakesHand, parts_of}
use Rattle.asm_run.proofs.RoundLemmas.Logs.{nothing_put}

module _ (shape : Shape) (table : TableId) where
  parts : (hs : List RegionHand) → AllByRecursion (IsNewHand shape table) hs → parts_of hs ≡ length hs
  parts [] all = refl
  parts (h ∷ hs) all = let rest = parts hs all.1 in let own = all.0.parts in omega (arith, rest, own)

  stand : (hs : List RegionHand) → AllByRecursion (IsNewHand shape table) hs → LogsStand shape hs none
  stand [] all = refl
  stand (h ∷ hs) all = (none, none, subst (λ l. LogStands shape l none) (sym all.0.log) (nothing_put shape), stand hs all.1, sym (union_laws.unit none))

  pub new_parts : (hs : List RegionHand) → All (IsNewHand shape table) hs → parts_of hs ≡ length hs
  new_parts hs all = parts hs (recursion_from_All (IsNewHand shape table) hs all)

  pub new_stand : (hs : List RegionHand) → All (IsNewHand shape table) hs → LogsStand shape hs none
  new_stand hs all = stand hs (recursion_from_All (IsNewHand shape table) hs all)

  pub new_takes : (hs : List RegionHand) → All (IsNewHand shape table) hs → All (TakesHand shape table) hs
  new_takes = All-weaker (IsNewHand shape table) (TakesHand shape table) (λ h new. record { table = new.table; empty = new.empty })

  pub same_table : (hs : List RegionHand) → All (TakesHand shape table) hs → All (λ h. h.seat.table ≡ table) hs
  same_table = All-weaker (TakesHand shape table) (λ h. h.seat.table ≡ table) (λ h takes. takes.table)
