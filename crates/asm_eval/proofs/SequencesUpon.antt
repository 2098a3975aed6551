-- Free. A sequence that goes on with the set of what came before it.
--     IsUpon                    what stays true from part to part, or from turn to turn: its own sets
--                               so far, and what is left
--     upon_begins               at its beginning
--     upon_goes_on              after a part whose set is consistent
--     upon_ends_with            a set ends it
--     upon_ends                 nothing is left
--     upon_ends_at              what is left is exhausted
--     upon_same                 what a call promises of equal outcomes
--     joined_..                 what the sets of two parts are together: a fault and an update of
--                               the later one are in both
--     alone_forms, alone_stops  a sequence that goes on with nothing
use Rattle.std.proofs.Common.{◌≡◌, ◌≢◌, ℕ, ◌+◌, ◌-◌, ◌≤◌, ◌++◌, ◌∷◌, [], List, length, take, min, inr, refl, sym, ap, subst, ◌∙◌, arith}
use Rattle.std.specs.Prelude.{Result as Returned, OnOk, IfOk, IfErr, IsErrAnd, Err}
use Rattle.std.proofs.lemmas.Result.{on_ok_weaker}
use Rattle.std.proofs.lemmas.List.{length-append, take-append-le, take_all}
use Rattle.asm_state.specs.Location.{State, Stray}
use Rattle.asm_state.specs.Signature.{Shape}
use Rattle.asm_state.specs.Updates.{UpdateSet, Has, IsConsistent, none, merge, fire}
use Rattle.asm_state.proofs.UpdateLemmas.UnionsAndMerges.{merge_laws}
use Rattle.asm_state.proofs.UpdateLemmas.Members.{member_laws}
use Rattle.asm_state.proofs.UpdateLemmas.Summaries.{fire_laws}
use Rattle.asm_updates.specs.code.SummaryRanges.{SummaryRanges}
use Rattle.asm_updates.specs.code.Stands.{Stands, Adds}
use Rattle.asm_meaning.specs.Does.{Outcome, nothing, following}
use Rattle.asm_eval.specs.code.FormedOutcomes.{Forms, FollowsUpon, IsMergedPart, IsStoppedAt, greatest_count}
use Rattle.asm_eval.specs.code.PartSets.{IsPartSet}
use Rattle.asm_meaning.specs.Yields.{Path, Result, Gives, Exhausted, after}
use Rattle.asm_eval.specs.declared.outcome.Forming.{Forming}
use Rattle.asm_eval.specs.declared.part_set.PartSet.{PartSet}
use Rattle.asm_eval.specs.declared.part_set.PartSet.TheVariants.{Empty, Consistent, Inconsistent}
use Rattle.asm_eval.specs.declared.stopped.Stopped.{Stopped}
use Rattle.asm_eval.proofs.SequenceLaws.{none_consistent, stopping_laws-handed_on as stopped_on}

-- what is left of a path when its last number is taken off
pub popped : (before rest p : List ℕ) (m n : ℕ) → length before ≡ m → rest ≡ take (m - 1) before → before ≡ p ++ n ∷ [] → rest ≡ p
popped before rest p m n many is longer =
    let length_of = ap length longer ∙ length-append p (n ∷ []) in
    let one_less : m - 1 ≡ length p = omega (arith, many, length_of) in
    let few : length p ≤ length p = omega arith in
    is ∙ (λ i. take (one_less i) (longer i)) ∙ take-append-le (length p) p (n ∷ []) few ∙ take_all (length p) p few

-- ---- sets

later_has : (U V : UpdateSet) (l : _) (v : _) → Has V l v → Has (merge U V) l v
later_has U V l v h = (member_laws.of_merge U V l v).1 (inr h)

-- a fault of the later set is one of both
pub joined_faulty : (U V : UpdateSet) → ¬ (IsConsistent V) → ¬ (IsConsistent (merge U V))
joined_faulty U V faulty both = faulty (record {
  one_value = λ l v w h k. both.one_value l v w (later_has U V l v h) (later_has U V l w k);
  no_stray = λ f v h. both.no_stray f v (later_has U V (Stray f) v h);
})

-- and so is an update
pub joined_some : (U V : UpdateSet) → V ≢ none → merge U V ≢ none
joined_some U V some is = some (member_laws.of_same V none (λ l v.
    (λ h. subst (λ W. Has W l v) is (later_has U V l v h), λ h. absurd (member_laws.of_none l v h))))

-- what both are together
module _ (U V : UpdateSet) (first part : PartSet) (consistent : IsConsistent U) (is : IsPartSet U first) (later : IsPartSet V part) where
  pub joined_empty : part ≡ Empty → IsPartSet (merge U V) first
  joined_empty which = subst (λ W. IsPartSet W first) (sym (ap (merge U) (subst (IsPartSet V) which later) ∙ merge_laws.last_unit U)) is

  pub joined_consistent : part ≡ Consistent → IsPartSet (merge U V) Consistent
  joined_consistent which =
      let so : IsPartSet V Consistent = subst (IsPartSet V) which later in
      (joined_some U V so.0, merge_laws.consistent U V consistent so.1)

  pub joined_inconsistent : part ≡ Inconsistent → IsPartSet (merge U V) Inconsistent
  joined_inconsistent which = joined_faulty U V (subst (IsPartSet V) which later)

-- ---- outcomes

after_none : (r : Result) → after none r ≡ r
after_none (Gives V) = ap Gives (merge_laws.first_unit V)
after_none (Exhausted q) = refl

after_both : (U V : UpdateSet) (r : Result) → after U (after V r) ≡ after (merge U V) r
after_both U V (Gives W) = ap Gives (sym (merge_laws.group U V W))
after_both U V (Exhausted q) = refl

same_outcome : (o q : Outcome) → o.result ≡ q.result → o.instances ≡ q.instances → o ≡ q
same_outcome o q e f = λ i. record { result = e i; instances = f i }

following_none : (o : Outcome) → following none 0 o ≡ o
following_none o = same_outcome (following none 0 o) o (after_none o.result) (omega arith)

following_both : (U V : UpdateSet) (n k : ℕ) (o : Outcome) → following U n (following V k o) ≡ following (merge U V) (n + k) o
following_both U V n k o = same_outcome (following U n (following V k o)) (following (merge U V) (n + k) o) (after_both U V o.result) (omega arith)

abbrev of_set : UpdateSet → ℕ → Outcome
of_set U n = record { result = Gives U; instances = n }

cut_off : (n a b g m k : ℕ) → m ≡ min (n + a) g → k ≡ min (m + b) g → k ≡ min (n + (a + b)) g
cut_off n a b g m k e f = omega arith

still : (n a b g k : ℕ) → k ≡ min (n + a) g → b ≡ a + 0 → k ≡ min (n + b) g
still n a b g k e f = omega arith

-- a sequence that is begun in the state B, after the set U, with this outcome as a whole
pub record IsUpon (shape : Shape) (U : UpdateSet) (B : State) (total : Outcome) (left : State → Outcome) (so_far : SummaryRanges) (whole : PartSet) (before now : ℕ) : Type 0 where
  pub set : UpdateSet
  pub instances : ℕ
  pub yields : total ≡ following set instances (left (fire B set))
  pub stands : Stands shape so_far (merge U set)
  pub consistent : IsConsistent set
  pub is : IsPartSet set whole
  pub counts : now ≡ min (before + instances) greatest_count

module _ (shape : Shape) (U : UpdateSet) (B : State) (total : Outcome) (left : State → Outcome) (so_far : SummaryRanges) where
  pub upon_begins : (n : ℕ) → total ≡ left B → n ≤ greatest_count → Stands shape so_far U → IsUpon shape U B total left so_far Empty n n
  upon_begins n is small stands = record {
    set = none;
    instances = 0;
    yields = is ∙ sym (following_none (left (fire B none)) ∙ ap left (fire_laws.of_none B));
    stands = subst (Stands shape so_far) (sym (merge_laws.last_unit U)) stands;
    consistent = none_consistent;
    is = refl;
    counts = omega arith;
  }

  module _ (whole : PartSet) (before now : ℕ) (under : IsUpon shape U B total left so_far whole before now) where
    pub upon_goes_on : (o : Outcome) (left_then : State → Outcome) (joined : SummaryRanges) (part both : PartSet) (after : ℕ) (on : IsMergedPart shape o (merge U under.set) joined part now after)
        → IsConsistent on.set → IsPartSet (merge under.set on.set) both → left (fire B under.set) ≡ following on.set o.instances (left_then (fire (fire B under.set) on.set))
        → IsUpon shape U B total left_then joined both before after
    upon_goes_on o left_then joined part both after on consistent joins is = record {
      set = merge under.set on.set;
      instances = under.instances + o.instances;
      yields = under.yields ∙ ap (following under.set under.instances) is
          ∙ following_both under.set on.set under.instances o.instances (left_then (fire (fire B under.set) on.set))
          ∙ ap (λ C. following (merge under.set on.set) (under.instances + o.instances) (left_then C)) (sym (merge_laws.firing B under.set on.set));
      stands = subst (Stands shape joined) (merge_laws.group U under.set on.set) on.merged;
      consistent = merge_laws.consistent under.set on.set under.consistent consistent;
      is = joins;
      counts = cut_off before under.instances o.instances greatest_count now after under.counts on.counts;
    }

    pub upon_ends_with : (o : Outcome) (joined : SummaryRanges) (part both : PartSet) (after : ℕ) (on : IsMergedPart shape o (merge U under.set) joined part now after)
        → IsPartSet (merge under.set on.set) both → left (fire B under.set) ≡ of_set on.set o.instances → IsMergedPart shape total U joined both before after
    upon_ends_with o joined part both after on joins is =
        let yields = under.yields ∙ ap (following under.set under.instances) is in
        record {
          set = merge under.set on.set;
          gives = ap (λ (q : Outcome). q.result) yields;
          is = joins;
          merged = subst (Stands shape joined) (merge_laws.group U under.set on.set) on.merged;
          counts = cut_off before under.instances o.instances greatest_count now after under.counts on.counts ∙ ap (λ (q : Outcome). min (before + q.instances) greatest_count) (sym yields);
        }

    pub upon_ends : left (fire B under.set) ≡ nothing → IsMergedPart shape total U so_far whole before now
    upon_ends is =
        let yields = under.yields ∙ ap (following under.set under.instances) is in
        record {
          set = under.set;
          gives = ap (λ (q : Outcome). q.result) yields ∙ ap Gives (merge_laws.last_unit under.set);
          is = under.is;
          merged = under.stands;
          counts = still before under.instances total.instances greatest_count now under.counts (ap (λ (q : Outcome). q.instances) yields);
        }

    pub upon_ends_at : (q : Path) → (left (fire B under.set)).result ≡ Exhausted q → total.result ≡ Exhausted q
    upon_ends_at q is = ap (λ (o : Outcome). o.result) under.yields ∙ ap (after under.set) is

-- ---- what calls promise

pub upon_same : (shape : Shape) (o q : UpdateSet → Outcome) (so_far joined : SummaryRanges) (old new : Forming) (result : Returned PartSet Stopped)
    → ((U : UpdateSet) → Stands shape so_far U → IsConsistent U → o U ≡ q U) → FollowsUpon shape o so_far joined old new result → FollowsUpon shape q so_far joined old new result
upon_same shape o q so_far joined old new result same f = record {
  count = f.count;
  so_far_count = f.so_far_count;
  path = f.path;
  formed = λ U stands consistent.
      subst (λ (x : Outcome). IfOk result (λ part. IsMergedPart shape x U joined part old.instances new.instances)) (same U stands consistent) (f.formed U stands consistent);
  exhausted = λ U stands consistent. subst (λ (x : Outcome). IfErr result (IsStoppedAt x new.path.items)) (same U stands consistent) (f.exhausted U stands consistent);
}

module _ (shape : Shape) (o q : Outcome) (same : o ≡ q) where
  pub alone_forms : {T : Type 0} (joined was old new : SummaryRanges) (part : PartSet) (n after m : ℕ) (returned : Returned T Stopped) (on : IsMergedPart shape o none joined part n after)
      → was ≡ old → m ≡ after → ((V : UpdateSet) → Stands shape joined V → OnOk returned (Adds shape V was new)) → OnOk returned (Forms shape q old new n m)
  alone_forms joined was old new part n after m returned on kept counted put = on_ok_weaker returned (λ adds. record {
    set = merge none on.set;
    gives = ap (λ (x : Outcome). x.result) (sym same) ∙ on.gives ∙ ap Gives (sym (merge_laws.first_unit on.set));
    adds = subst (λ (s : SummaryRanges). Adds shape (merge none on.set) s new) kept adds;
    counts = counted ∙ on.counts ∙ ap (λ (x : Outcome). min (n + x.instances) greatest_count) same;
  }) (put (merge none on.set) on.merged)

  pub alone_stops : {S T : Type 0} (path : Path) (given : Returned S Stopped) (returned : Returned T Stopped) (stop : Stopped)
      → given ≡ Err stop → IsErrAnd returned (λ again. again ≡ stop) → IfErr given (IsStoppedAt o path) → IfErr returned (IsStoppedAt q path)
  alone_stops path given returned stop was again = stopped_on o q path given returned stop was again (λ there at. ap (λ (x : Outcome). x.result) (sym same) ∙ at)
