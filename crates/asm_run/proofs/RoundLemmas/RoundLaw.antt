-- Free. What a round does.
use Rattle.std.proofs.Common.{◌≡◌, ℕ, zero, suc, ◌+◌, ◌<◌, List, [], ◌∷◌, ◌++◌, Option, Some, None, All, length, map, refl, sym, ap, subst, ◌∙◌, arith, add-one}
use Rattle.std.specs.Prelude.{slice_get, Bool, Ok, IsOk, IfNone}
use Rattle.std.specs.List.{range_with_len, concat}
use Rattle.std.specs.List.Sorted.{IsPermutation}
use Rattle.std.proofs.lemmas.List.{map-append}
use Rattle.std.proofs.lemmas.List.Elements.{All-nil, All-append}
use Rattle.std.proofs.lemmas.Option.{slice_get_within}
use Rattle.asm_state.specs.Signature.{Shape}
use Rattle.asm_state.specs.Updates.{UpdateSet, none, together}
use Rattle.asm_state.proofs.UpdateLemmas.UnionsAndMerges.{union_laws}
use Rattle.asm_updates.specs.code.Unions.{united}
use Rattle.asm_striped.specs.declared.board.Put.{Put}
use Rattle.asm_reader.specs.declared.picks.Picks.{Ghosts}
use Rattle.asm_meaning.specs.Does.{Outcome, nothing, both}
use Rattle.asm_meaning.specs.code.OutcomesBeside.{counting, all_both}
use Rattle.asm_meaning.specs.Yields.{Path, Gives, Exhausted, beside}
use Rattle.asm_meaning.proofs.BesideLemmas.PartsBeside.{beside_laws}
use Rattle.asm_eval.specs.code.OpenedPieces.{pieces_yield}
use Rattle.asm_eval.specs.code.Pieces.{IsPiece, piece_yields}
use Rattle.asm_eval.specs.declared.piece.Piece.{Piece}
use Rattle.asm_eval.specs.declared.evaluation.Evaluation.{Evaluation}
use Rattle.asm_pool.specs.code.Pool.{RunsTask, RunsLists}
use Rattle.asm_run.specs.declared.hand.RegionHand.{RegionHand}
use Rattle.asm_run.specs.code.Hands.{LogStands, LogsStand, parts_of}
use Rattle.asm_run.specs.code.Rounds.{new_pieces, count_instances, least_of_all, TaskResult, outs_of, StandsForOutcome, Holds, IsLeft, OutTells, Puts, added, IsTaskRun, RunsPiece, IsRound, set_of}
use Rattle.asm_run.specs.declared.job.RegionOut.{RegionOut}
use Rattle.asm_run.specs.declared.job.RegionOut.TheVariants as region
use Rattle.asm_run.proofs.RoundLemmas.TaskResults.{answered_at, as_many_answers, lists_answer}
use Rattle.asm_run.proofs.RoundLemmas.Hands.{PutsSet, hands_put, parts_stay}
use Rattle.asm_run.proofs.RoundLemmas.Logs.{nothing_put, set_put}

-- ---- outcomes beside each other

-- the middle two of four change places
exchange : (a b c d : Outcome) → both (both a b) (both c d) ≡ both (both a c) (both b d)
exchange a b c d =
    beside_laws.group a b (both c d)
    ∙ ap (both a) (sym (beside_laws.group b c d) ∙ ap (λ o. both o d) (beside_laws.swap b c) ∙ beside_laws.group c b d)
    ∙ sym (beside_laws.group a c (both b d))

same_outcome : (o q : Outcome) → o.result ≡ q.result → o.instances ≡ q.instances → o ≡ q
same_outcome o q e f i = record { result = e i; instances = f i }

counting_is : (k : ℕ) (o : Outcome) → counting k o ≡ both (counting k nothing) o
counting_is k o = same_outcome (counting k o) (both (counting k nothing) o) (ap (λ (x : Outcome). x.result) (sym (beside_laws.first_unit o))) (omega arith)

all_both-append : (os qs : List Outcome) → all_both (os ++ qs) ≡ both (all_both os) (all_both qs)
all_both-append [] qs = sym (beside_laws.first_unit (all_both qs))
all_both-append (o ∷ os) qs = ap (both o) (all_both-append os qs) ∙ sym (beside_laws.group o (all_both os) (all_both qs))

right_unit : (U : UpdateSet) → together U none ≡ U
right_unit U = union_laws.swap U none ∙ union_laws.unit U

-- if the numbers of a list are counted from one more
united_on : (f : ℕ → UpdateSet) (a n : ℕ) → united f (range_with_len (a + 1) n) ≡ united (λ k. f (suc k)) (range_with_len a n)
united_on f a zero = refl
united_on f a (suc n) = ap (λ k. together (f k) (united f (range_with_len (a + 1 + 1) n))) (add-one a) ∙ ap (together (f (suc a))) (united_on f (a + 1) n)

-- ---- what is left for later rounds

-- what each out of a list says
abbrev EachLeft : Shape → Option ℕ → List RegionOut → Type 0
EachLeft program cut [] = Unit {0}
EachLeft program cut (out ∷ outs) = IsLeft program cut out × EachLeft program cut outs

are_pieces : (program : Shape) (cut : Option ℕ) (outs : List RegionOut) → EachLeft program cut outs → All (IsPiece program) (new_pieces outs)
are_pieces program cut [] left = All-nil (IsPiece program)
are_pieces program (Some cut) (region.Pieces pieces n ∷ outs) left = All-append (IsPiece program) pieces.items (new_pieces outs) left.0.0 (are_pieces program (Some cut) outs left.1)
are_pieces program None (region.Pieces pieces n ∷ outs) left = absurd left.0
are_pieces program cut (region.Done n ∷ outs) left = are_pieces program cut outs left.1
are_pieces program cut (region.Exhausted p ∷ outs) left = are_pieces program cut outs left.1

none_left : (program : Shape) (outs : List RegionOut) → EachLeft program None outs → new_pieces outs ≡ []
none_left program [] left = refl
none_left program (region.Pieces pieces n ∷ outs) left = absurd left.0
none_left program (region.Done n ∷ outs) left = none_left program outs left.1
none_left program (region.Exhausted p ∷ outs) left = none_left program outs left.1

-- ---- one out, and one list of them

tally_cons : (n : ℕ) (out : RegionOut) (outs : List RegionOut) → count_instances n (out ∷ outs) ≡ count_instances (count_instances n (out ∷ [])) outs
tally_cons n (region.Pieces pieces k) outs = refl
tally_cons n (region.Done k) outs = refl
tally_cons n (region.Exhausted q) outs = refl

least_cons : (at : Option Path) (out : RegionOut) (outs : List RegionOut) → least_of_all at (out ∷ outs) ≡ least_of_all (least_of_all at (out ∷ [])) outs
least_cons at (region.Pieces pieces k) outs = refl
least_cons at (region.Done k) outs = refl
least_cons at (region.Exhausted q) outs = refl

module _ {P : Type 0} {picks : Ghosts P} (evaluation : Evaluation P picks) where
  abbrev f : Piece → Outcome
  f = piece_yields evaluation

  abbrev does : List Piece → Outcome
  does = pieces_yield evaluation

  abbrev tells : Outcome → RegionOut → Type 0
  tells = OutTells evaluation

  abbrev adds : Outcome → RegionOut → UpdateSet
  adds = added evaluation

  does-append : (ps qs : List Piece) → does (ps ++ qs) ≡ both (does ps) (does qs)
  does-append ps qs = ap all_both (map-append f ps qs) ∙ all_both-append (map f ps) (map f qs)

  -- what a task did itself, and what is left of its piece
  abbrev done : Outcome → RegionOut → Outcome
  done o (region.Pieces pieces k) = counting k nothing
  done o (region.Done k) = o
  done o (region.Exhausted q) = o

  abbrev rest : RegionOut → Outcome
  rest (region.Pieces pieces k) = does pieces.items
  rest (region.Done k) = nothing
  rest (region.Exhausted q) = nothing

  abbrev EachTells : List Piece → List RegionOut → Type 0
  EachTells [] [] = Unit {0}
  EachTells (p ∷ ps) (out ∷ outs) = tells (f p) out × EachTells ps outs
  EachTells _ _ = ⊥

  abbrev dones : List Piece → List RegionOut → Outcome
  dones (p ∷ ps) (out ∷ outs) = both (done (f p) out) (dones ps outs)
  dones _ _ = nothing

  abbrev adds_at : List Piece → List RegionOut → ℕ → UpdateSet
  adds_at (p ∷ ps) (out ∷ outs) zero = adds (f p) out
  adds_at (p ∷ ps) (out ∷ outs) (suc n) = adds_at ps outs n
  adds_at _ _ n = none

  abbrev all_add : List Piece → List RegionOut → UpdateSet
  all_add (p ∷ ps) (out ∷ outs) = together (adds (f p) out) (all_add ps outs)
  all_add _ _ = none

  each_tells : (ps : List Piece) (outs : List RegionOut) → length outs ≡ length ps
      → ((n : ℕ) (p : Piece) (out : RegionOut) → slice_get ps n ≡ Some p → slice_get outs n ≡ Some out → tells (f p) out) → EachTells ps outs
  each_tells [] [] long told = tt
  each_tells [] (out ∷ outs) long told = absurd (omega (arith, long))
  each_tells (p ∷ ps) [] long told = absurd (omega (arith, long))
  each_tells (p ∷ ps) (out ∷ outs) long told = (told 0 p out refl refl, each_tells ps outs (omega (arith, long)) (λ n. told (suc n)))

  each_left : (shape : Shape) (cut : Option ℕ) (ps : List Piece) (outs : List RegionOut) → length outs ≡ length ps
      → ((n : ℕ) (p : Piece) (out : RegionOut) → slice_get ps n ≡ Some p → slice_get outs n ≡ Some out → IsLeft shape cut out) → EachLeft shape cut outs
  each_left shape cut [] [] long told = tt
  each_left shape cut [] (out ∷ outs) long told = absurd (omega (arith, long))
  each_left shape cut (p ∷ ps) [] long told = absurd (omega (arith, long))
  each_left shape cut (p ∷ ps) (out ∷ outs) long told = (told 0 p out refl refl, each_left shape cut ps outs (omega (arith, long)) (λ n. told (suc n)))

  all_added : (ps : List Piece) (outs : List RegionOut) → length outs ≡ length ps → united (adds_at ps outs) (range_with_len 0 (length ps)) ≡ all_add ps outs
  all_added [] [] long = refl
  all_added [] (out ∷ outs) long = absurd (omega (arith, long))
  all_added (p ∷ ps) [] long = absurd (omega (arith, long))
  all_added (p ∷ ps) (out ∷ outs) long =
      ap (together (adds (f p) out)) (united_on (adds_at (p ∷ ps) (out ∷ outs)) 0 (length ps) ∙ all_added ps outs (omega (arith, long)))

  -- ---- nothing is lost

  piece_is : (o : Outcome) (out : RegionOut) → tells o out → o ≡ both (done o out) (rest out)
  piece_is o (region.Pieces pieces k) is = is ∙ counting_is k (does pieces.items)
  piece_is o (region.Done k) is = sym (beside_laws.last_unit o)
  piece_is o (region.Exhausted q) is = sym (beside_laws.last_unit o)

  news_cons : (out : RegionOut) (outs : List RegionOut) → does (new_pieces (out ∷ outs)) ≡ both (rest out) (does (new_pieces outs))
  news_cons (region.Pieces pieces k) outs = does-append pieces.items (new_pieces outs)
  news_cons (region.Done k) outs = sym (beside_laws.first_unit (does (new_pieces outs)))
  news_cons (region.Exhausted q) outs = sym (beside_laws.first_unit (does (new_pieces outs)))

  pieces_are : (ps : List Piece) (outs : List RegionOut) → EachTells ps outs → does ps ≡ both (dones ps outs) (does (new_pieces outs))
  pieces_are [] [] told = sym (beside_laws.first_unit nothing)
  pieces_are [] (out ∷ outs) told = absurd told
  pieces_are (p ∷ ps) [] told = absurd told
  pieces_are (p ∷ ps) (out ∷ outs) told =
      ap (λ o. both o (does ps)) (piece_is (f p) out told.0) ∙ ap (both (both (done (f p) out) (rest out))) (pieces_are ps outs told.1)
      ∙ exchange (done (f p) out) (rest out) (dones ps outs) (does (new_pieces outs))
      ∙ ap (both (both (done (f p) out) (dones ps outs))) (sym (news_cons out outs))

  -- ---- what is held

  one_read : (q o : Outcome) (U : UpdateSet) (n : ℕ) (at : Option Path) (out : RegionOut) → tells o out → StandsForOutcome q U n at
      → StandsForOutcome (both q (done o out)) (together U (adds o out)) (count_instances n (out ∷ [])) (least_of_all at (out ∷ []))
  one_read q o U n None (region.Pieces pieces k) told (is, count) = (ap (λ r. beside r (Gives none)) is, omega (arith, count))
  one_read q o U n None (region.Done k) (gives, counts) (is, count) = (ap (λ r. beside r o.result) is ∙ ap (beside (Gives U)) gives, omega (arith, count, counts))
  one_read q o U n None (region.Exhausted r) told (is, count) = ap (λ s. beside s o.result) is ∙ ap (beside (Gives U)) told
  one_read q o U n (Some p) (region.Pieces pieces k) told is = ap (λ r. beside r (Gives none)) is
  one_read q o U n (Some p) (region.Done k) (gives, counts) is = ap (λ r. beside r o.result) is ∙ ap (beside (Exhausted p)) gives
  one_read q o U n (Some p) (region.Exhausted r) told is = ap (λ s. beside s o.result) is ∙ ap (beside (Exhausted p)) told

  all_read : (ps : List Piece) (outs : List RegionOut) (q : Outcome) (U : UpdateSet) (n : ℕ) (at : Option Path) → EachTells ps outs → StandsForOutcome q U n at
      → StandsForOutcome (both q (dones ps outs)) (together U (all_add ps outs)) (count_instances n outs) (least_of_all at outs)
  all_read [] [] q U n at told reads = subst (λ o. StandsForOutcome o (together U none) n at) (sym (beside_laws.last_unit q)) (subst (λ X. StandsForOutcome q X n at) (sym (right_unit U)) reads)
  all_read [] (out ∷ outs) q U n at told reads = absurd told
  all_read (p ∷ ps) [] q U n at told reads = absurd told
  all_read (p ∷ ps) (out ∷ outs) q U n at told reads =
      let others = all_read ps outs (both q (done (f p) out)) (together U (adds (f p) out)) (count_instances n (out ∷ [])) (least_of_all at (out ∷ [])) told.1 (one_read q (f p) U n at out told.0 reads) in
      let o = both (both q (done (f p) out)) (dones ps outs) in
      let V = together (together U (adds (f p) out)) (all_add ps outs) in
      subst (λ x. StandsForOutcome x (together U (all_add (p ∷ ps) (out ∷ outs))) (count_instances n (out ∷ outs)) (least_of_all at (out ∷ outs))) (beside_laws.group q (done (f p) out) (dones ps outs))
      (subst (λ X. StandsForOutcome o X (count_instances n (out ∷ outs)) (least_of_all at (out ∷ outs))) (union_laws.group U (adds (f p) out) (all_add ps outs))
      (subst (λ k. StandsForOutcome o V k (least_of_all at (out ∷ outs))) (sym (tally_cons n out outs))
      (subst (λ m. StandsForOutcome o V (count_instances (count_instances n (out ∷ [])) outs) m) (sym (least_cons at out outs)) others)))

  -- ---- the sets that tasks add to hands

  adds_there : (ps : List Piece) (outs : List RegionOut) (n : ℕ) (p : Piece) (out : RegionOut) → slice_get ps n ≡ Some p → slice_get outs n ≡ Some out → adds (f p) out ≡ adds_at ps outs n
  adds_there [] outs n p out at there = cc
  adds_there (x ∷ ps) [] n p out at there = cc
  adds_there (x ∷ ps) (y ∷ outs) zero p out at there =
      let e : x ≡ p = cc in let h : y ≡ out = cc in ap (λ (z : Piece × RegionOut). adds (f z.0) z.1) (sym (λ i. (e i, h i)))
  adds_there (x ∷ ps) (y ∷ outs) (suc n) p out at there = adds_there ps outs n p out at there

  piece_there : (ps : List Piece) (n : ℕ) → n < length ps → (p : Piece) × (slice_get ps n ≡ Some p)
  piece_there [] n low = absurd (omega (arith, low))
  piece_there (p ∷ ps) zero low = (p, refl)
  piece_there (p ∷ ps) (suc n) low = piece_there ps n (omega (arith, low))

  puts_set : (shape : Shape) (n : ℕ) (o : Outcome) (out : RegionOut) (more : List Put) → Puts evaluation shape n o out more → LogStands shape more (adds o out)
  puts_set shape n o (region.Pieces pieces k) more is = subst (λ l. LogStands shape l none) (sym is) (nothing_put shape)
  puts_set shape n o (region.Done k) more are = set_put shape n (set_of o.result) more are
  puts_set shape n o (region.Exhausted q) more is = subst (λ l. LogStands shape l none) (sym is) (nothing_put shape)

  run_puts : (shape : Shape) (cut : Option ℕ) (are_enough : Bool) (ps : List Piece) (outs : List RegionOut) → length outs ≡ length ps
      → (n : ℕ) (before after : RegionHand) (out : RegionOut) → slice_get outs n ≡ Some out → RunsPiece evaluation shape cut are_enough ps n before (Ok out) after
      → PutsSet shape before.seat (adds_at ps outs n) after.seat
  run_puts shape cut are_enough ps outs long n before after out there did =
      let some = piece_there ps n (omega (arith, long, slice_get_within outs n out there)) in
      let worked = (did some.0 some.1).0 in
      subst (λ V. PutsSet shape before.seat V after.seat) (adds_there ps outs n some.0 out some.1 there)
      (record { more = worked.more; grows = worked.grows; stands = puts_set shape n (f some.0) out worked.more worked.puts })

  -- ---- the round

  module _ (shape : Shape) (takes : RegionHand → Type 0) (cut : Option ℕ) (are_enough : Bool) (pieces : List Piece) (outs : List TaskResult) (long : length outs ≡ length pieces) (ok : All IsOk outs)
      (each : (n : ℕ) → n < length pieces → (before : RegionHand) × (after : RegionHand) × RunsTask takes (RunsPiece evaluation shape cut are_enough pieces) outs before n after) where
    abbrev runs : ℕ → RegionHand → TaskResult → RegionHand → Type 0
    runs = RunsPiece evaluation shape cut are_enough pieces

    abbrev as_long : length (outs_of outs) ≡ length pieces
    as_long = as_many_answers outs ∙ long

    worked_at : (n : ℕ) (p : Piece) (out : RegionOut) → slice_get pieces n ≡ Some p → slice_get (outs_of outs) n ≡ Some out
        → (before : RegionHand) × (after : RegionHand) × IsTaskRun evaluation shape cut n (f p) before.seat out after.seat
    worked_at n p out at there =
        let (before, after, did) = answered_at runs takes outs ok (length pieces) long each n out there in
        (before, after, (did p at).0)

    left : EachLeft shape cut (outs_of outs)
    left = each_left shape cut pieces (outs_of outs) as_long (λ n p out at there. (worked_at n p out at there).2.left)

    pub new_are_pieces : All (IsPiece shape) (new_pieces (outs_of outs))
    new_are_pieces = are_pieces shape cut (outs_of outs) left

    pub round_law : (q : Outcome) (hands others : List RegionHand) (lists : List (List ℕ)) (instances : ℕ) (at : Option Path)
        → IsPermutation (range_with_len 0 (length pieces)) (concat lists) → RunsLists takes runs outs hands lists others
        → Holds shape q hands instances at → IsRound evaluation shape q pieces (new_pieces (outs_of outs)) others (count_instances instances (outs_of outs)) (least_of_all at (outs_of outs))
    round_law q hands others lists instances at once did held =
        let given = outs_of outs in
        let all = each_tells pieces given as_long (λ n p out here there. (worked_at n p out here there).2.tells) in
        record {
          done = both q (dones pieces given);
          loses_nothing = ap (both q) (pieces_are pieces given all) ∙ sym (beside_laws.group q (dones pieces given) (does (new_pieces given)));
          holds = record {
            set = together held.set (all_add pieces given);
            stand = subst (λ V. LogsStand shape others (together held.set V)) (all_added pieces given as_long)
                (hands_put shape takes (λ n before out after. runs n before (Ok out) after) given (adds_at pieces given) (run_puts shape cut are_enough pieces given as_long)
                (length pieces) hands others lists held.set once (lists_answer runs takes outs ok hands others lists did) held.stand);
            reads = all_read pieces given q held.set instances at all held.reads;
          };
        }

    pub same_parts : (hands others : List RegionHand) (lists : List (List ℕ)) → RunsLists takes runs outs hands lists others → parts_of others ≡ parts_of hands
    same_parts hands others lists did =
        parts_stay shape takes (λ n before out after. runs n before (Ok out) after) (outs_of outs) (adds_at pieces (outs_of outs)) (run_puts shape cut are_enough pieces (outs_of outs) as_long)
        hands others lists (lists_answer runs takes outs ok hands others lists did)

  pub nothing_left : (shape : Shape) (takes : RegionHand → Type 0) (cut : Option ℕ) (are_enough : Bool) (pieces : List Piece) (outs : List TaskResult) → length outs ≡ length pieces → All IsOk outs
      → ((n : ℕ) → n < length pieces → (before : RegionHand) × (after : RegionHand) × RunsTask takes (RunsPiece evaluation shape cut are_enough pieces) outs before n after)
      → IfNone cut (new_pieces (outs_of outs) ≡ [])
  nothing_left shape takes None are_enough pieces outs long ok each = none_left shape (outs_of outs) (left shape takes None are_enough pieces outs long ok each)
  nothing_left shape takes (Some cut) are_enough pieces outs long ok each = tt

  -- ---- the rounds

  -- if no piece is left
  pub held_before_none : (shape : Shape) (o : Outcome) (pieces : List Piece) (hands : List RegionHand) (instances : ℕ) (at : Option Path) → pieces ≡ []
      → Holds shape o hands instances at → Holds shape (both o (does pieces)) hands instances at
  held_before_none shape o pieces hands instances at none held =
      subst (λ x. Holds shape x hands instances at) (sym (ap (λ ps. both o (does ps)) none ∙ beside_laws.last_unit o)) held

  -- what a round leaves, and what is held after it
  pub held_through : (shape : Shape) (o : Outcome) (pieces next : List Piece) (hands others : List RegionHand) (n k : ℕ) (at then : Option Path) → IsRound evaluation shape o pieces next hands n at
      → ((q : Outcome) → Holds shape q hands n at → Holds shape (both q (does next)) others k then) → Holds shape (both o (does pieces)) others k then
  held_through shape o pieces next hands others n k at then round behind =
      subst (λ x. Holds shape x others k then) (sym round.loses_nothing) (behind round.done round.holds)
