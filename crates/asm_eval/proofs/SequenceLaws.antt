-- Free. Sequences: the sets of the parts so far, joined by turbo merges, and what is left.
-- The lemmas that are public are the clauses of sequence_laws, part_laws and stopping_laws.
use Rattle.std.proofs.Common.{IsTrue, ◌≡◌, ◌≢◌, ℕ, ◌+◌, ◌≤◌, min, Bool, true, false, not, cond, ◌||◌, ◌⊎◌, inl, inr, refl, sym, ap, subst, ◌∙◌, arith}
use Rattle.std.specs.Bool.{Decides}
use Rattle.std.specs.Prelude.{Result as Returned, Ok, Err, IfErr, IsErrAnd}
use Rattle.std.proofs.lemmas.Bool.{false_from_ne_true, false≢true}
use Rattle.std.proofs.lemmas.Result.{IfErr-at_err}
use Rattle.std.proofs.Math.Bool.{or-true}
use Rattle.asm_state.specs.Location.{Location, Proper, Stray}
use Rattle.asm_state.specs.Signature.{Shape}
use Rattle.asm_state.specs.Updates.{UpdateSet, Has, IsConsistent, is_consistent, is_none, is_proper, none, one, merge, Fault, Clash, Outside, IsFirstFault}
use Rattle.asm_state.specs.declared.value.Value.{Value}
use Rattle.asm_state.proofs.UpdateLemmas.UnionsAndMerges.{union_laws}
use Rattle.asm_state.proofs.UpdateLemmas.Faults.{fault_laws}
use Rattle.asm_state.proofs.UpdateLemmas.Members.{member_laws}
use Rattle.asm_state.proofs.UpdateLemmas.Updates.{test_laws}
use Rattle.asm_updates.specs.code.SummaryRanges.{SummaryRanges}
use Rattle.asm_updates.specs.code.Stands.{Stands}
use Rattle.asm_meaning.specs.Does.{Outcome, following, part_and, turn_and}
use Rattle.asm_eval.specs.code.FormedOutcomes.{Forms, IsMergedPart, IsStoppedAt, greatest_count}
use Rattle.asm_eval.specs.code.PartSets.{IsPartSet, ends_parts, ends_turns}
use Rattle.asm_meaning.specs.Yields.{Path, Gives, Exhausted, after}
use Rattle.asm_eval.specs.declared.part_set.PartSet.{PartSet}
use Rattle.asm_eval.specs.declared.part_set.PartSet.TheVariants.{Empty, Consistent, Inconsistent}
use Rattle.asm_eval.specs.declared.stopped.Stopped.{Stopped}
use Rattle.asm_eval.specs.declared.stopped.Stopped.TheVariants as stopped

pub none_consistent : IsConsistent none
none_consistent = record { one_value = λ l v w h k. absurd (member_laws.of_none l v h); no_stray = λ f v. member_laws.of_none (Stray f) v }

-- one update

pub one_is_some : (l : Location) (v : Value) → one l v ≢ none
one_is_some l v is = member_laws.of_none l v (subst (λ U. Has U l v) is ((member_laws.of_one l l v v).1 (refl, refl)))

pub proper_consistent : (l : Location) (v : Value) → IsTrue (is_proper l) → IsConsistent (one l v)
proper_consistent l v proper = record {
  one_value = λ m u w h k. ((member_laws.of_one l m v u).0 h).1 ∙ sym ((member_laws.of_one l m v w).0 k).1;
  no_stray = λ f u h. false≢true (subst (λ m. IsTrue (is_proper m)) (sym ((member_laws.of_one l (Stray f) v u).0 h).0) proper);
}

pub stray_inconsistent : (f : ℕ) (l : Location) (v : Value) → l ≡ Stray f → ¬ (IsConsistent (one l v))
stray_inconsistent f l v is consistent = consistent.no_stray f v ((member_laws.of_one l (Stray f) v v).1 (sym is, refl))

pub first_is_fault : (U : UpdateSet) (fault : Fault) → IsFirstFault U fault → ¬ (IsConsistent U)
first_is_fault U (Clash (Proper f vs) r) first consistent = (fault_laws.no_fault U).0 consistent (Proper f vs) first.0.is_faulty
first_is_fault U (Clash (Stray f) r) first consistent = absurd first
first_is_fault U (Outside f) first consistent = (fault_laws.no_fault U).0 consistent (Stray f) first.is_faulty

pub not_true : {b : Bool} → b ≡ false → b ≡ true → ⊥
not_true is so = cc

-- what the set of a part is

pub part_laws-consistent_part : (V : UpdateSet) (part : PartSet) → IsPartSet V part → ends_parts part ≡ false → IsConsistent V
part_laws-consistent_part V Empty is goes = subst IsConsistent (sym is) none_consistent
part_laws-consistent_part V Consistent is goes = is.1
part_laws-consistent_part V Inconsistent is goes = absurd (false≢true (sym goes))

pub part_laws-ending_part : (V : UpdateSet) (part : PartSet) → IsPartSet V part → ends_parts part ≡ true → ¬ (IsConsistent V)
part_laws-ending_part V Empty is ends = absurd (false≢true ends)
part_laws-ending_part V Consistent is ends = absurd (false≢true ends)
part_laws-ending_part V Inconsistent is ends = is

pub part_laws-some_turn : (V : UpdateSet) (part : PartSet) → IsPartSet V part → ends_turns part ≡ false → V ≢ none
part_laws-some_turn V Empty is goes = absurd (false≢true (sym goes))
part_laws-some_turn V Consistent is goes = is.0
part_laws-some_turn V Inconsistent is goes = absurd (false≢true (sym goes))

pub part_laws-consistent_turn : (V : UpdateSet) (part : PartSet) → IsPartSet V part → ends_turns part ≡ false → IsConsistent V
part_laws-consistent_turn V Empty is goes = absurd (false≢true (sym goes))
part_laws-consistent_turn V Consistent is goes = is.1
part_laws-consistent_turn V Inconsistent is goes = absurd (false≢true (sym goes))

pub part_laws-ending_turn : (V : UpdateSet) (part : PartSet) → IsPartSet V part → ends_turns part ≡ true → (V ≡ none) ⊎ (¬ (IsConsistent V))
part_laws-ending_turn V Empty is ends = inl is
part_laws-ending_turn V Consistent is ends = absurd (false≢true ends)
part_laws-ending_turn V Inconsistent is ends = inr is

-- a test is false if what it tests isn't so
false_by : {P : Type 0} (b : Bool) → Decides b P → ¬ P → b ≡ false
false_by b test not = false_from_ne_true b (λ is. not (test.0 is))

-- ---- outcomes

abbrev of_set : UpdateSet → ℕ → Outcome
of_set U n = record { result = Gives U; instances = n }

module _ (o : Outcome) (V : UpdateSet) (rest : UpdateSet → Outcome) (gives : o.result ≡ Gives V) where
  abbrev part_at : Bool → Outcome
  part_at b = cond b (following V o.instances (rest V)) (of_set V o.instances)

  abbrev turn_at : Bool → Outcome
  turn_at b = cond b (of_set V o.instances) (following V o.instances (rest V))

  pub part_laws-good_part : IsConsistent V → part_and o.result o.instances rest ≡ following V o.instances (rest V)
  part_laws-good_part consistent = ap (λ r. part_and r o.instances rest) gives ∙ ap part_at ((test_laws.consistency V).1 consistent)

  pub part_laws-faulty_part : ¬ (IsConsistent V) → part_and o.result o.instances rest ≡ of_set V o.instances
  part_laws-faulty_part faulty = ap (λ r. part_and r o.instances rest) gives ∙ ap part_at (false_by (is_consistent V) (test_laws.consistency V) faulty)

  pub part_laws-good_turn : V ≢ none → IsConsistent V → turn_and o.result o.instances rest ≡ following V o.instances (rest V)
  part_laws-good_turn some consistent =
      ap (λ r. turn_and r o.instances rest) gives
      ∙ ap (λ b. turn_at (b || not (is_consistent V))) (false_by (is_none V) (test_laws.emptiness V) some)
      ∙ ap (λ b. turn_at (not b)) ((test_laws.consistency V).1 consistent)

  pub part_laws-last_turn : (V ≡ none) ⊎ (¬ (IsConsistent V)) → turn_and o.result o.instances rest ≡ of_set V o.instances
  part_laws-last_turn last = ap (λ r. turn_and r o.instances rest) gives ∙ ap turn_at (is_last last)
    where
      is_last : (V ≡ none) ⊎ (¬ (IsConsistent V)) → (is_none V || not (is_consistent V)) ≡ true
      is_last (inl is) = ap (λ b. b || not (is_consistent V)) ((test_laws.emptiness V).1 is)
      is_last (inr faulty) = ap (λ b. is_none V || not b) (false_by (is_consistent V) (test_laws.consistency V) faulty) ∙ or-true (is_none V)

pub part_laws-exhausted_part : (o : Outcome) (rest : UpdateSet → Outcome) (q : Path) → o.result ≡ Exhausted q → (part_and o.result o.instances rest).result ≡ Exhausted q
part_laws-exhausted_part o rest q is = ap (λ r. (part_and r o.instances rest).result) is

pub part_laws-exhausted_turn : (o : Outcome) (rest : UpdateSet → Outcome) (q : Path) → o.result ≡ Exhausted q → (turn_and o.result o.instances rest).result ≡ Exhausted q
part_laws-exhausted_turn o rest q is = ap (λ r. (turn_and r o.instances rest).result) is

stopped_too : (o q : Outcome) (p : Path) → ((s : Path) → o.result ≡ Exhausted s → q.result ≡ Exhausted s) → (stop : Stopped) → IsStoppedAt o p stop → IsStoppedAt q p stop
stopped_too o q p too stopped.Memory at = tt
stopped_too o q p too stopped.Exhausted at = too p at

-- an error is handed on
pub stopping_laws-handed_on : {S T : Type 0} (o q : Outcome) (p : Path) (given : Returned S Stopped) (returned : Returned T Stopped) (stop : Stopped) → given ≡ Err stop → IsErrAnd returned (λ again. again ≡ stop)
    → ((s : Path) → o.result ≡ Exhausted s → q.result ≡ Exhausted s) → IfErr given (IsStoppedAt o p) → IfErr returned (IsStoppedAt q p)
stopping_laws-handed_on o q p given (Ok x) stop was again too at = tt
stopping_laws-handed_on o q p given (Err other) stop was again too at = subst (IsStoppedAt q p) (sym again) (stopped_too o q p too stop (IfErr-at_err (IsStoppedAt o p) was at))

-- memory ran out, which says nothing of the outcome
pub stopping_laws-memory : {T : Type 0} (o : Outcome) (p : Path) (returned : Returned T Stopped) → IfErr returned (λ stop. stop ≡ stopped.Memory) → IfErr returned (IsStoppedAt o p)
stopping_laws-memory o p (Ok x) is = tt
stopping_laws-memory o p (Err stop) is = subst (IsStoppedAt o p) (sym is) tt

-- ---- a part that is joined

module _ (shape : Shape) where
  -- a part that is formed from nothing, upon the sets so far
  pub sequence_laws-goes_upon : (o : Outcome) (U : UpdateSet) (cleared so_far joined made : SummaryRanges) (part : PartSet) (before after : ℕ)
      → Stands shape cleared none → Stands shape so_far U → ((V W : UpdateSet) → Stands shape so_far V → Stands shape made W → Stands shape joined (merge V W))
      → ((V : UpdateSet) → Stands shape made V → IsPartSet V part) → Forms shape o cleared made before after → IsMergedPart shape o U joined part before after
  sequence_laws-goes_upon o U cleared so_far joined made part before after empty stands join is formed =
      let alone : Stands shape made formed.set = subst (Stands shape made) (union_laws.unit formed.set) (formed.adds none empty) in
      record { set = formed.set; gives = formed.gives; is = is formed.set alone; merged = join U formed.set stands alone; counts = formed.counts }

  -- a part whose set is known
  pub sequence_laws-goes_by : (o : Outcome) (U V : UpdateSet) (joined : SummaryRanges) (part : PartSet) (n : ℕ) → o ≡ of_set V 0 → n ≤ greatest_count
      → IsPartSet V part → Stands shape joined (merge U V) → IsMergedPart shape o U joined part n n
  sequence_laws-goes_by o U V joined part n outcome small is stands = record {
    set = V;
    gives = ap (λ (q : Outcome). q.result) outcome;
    is = is;
    merged = stands;
    counts = still n greatest_count small ∙ ap (λ (q : Outcome). min (n + q.instances) greatest_count) (sym outcome);
  }
    where
      still : (k g : ℕ) → k ≤ g → k ≡ min (k + 0) g
      still k g h = omega arith
