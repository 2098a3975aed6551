-- Free. What a work is opened to yields, taken together, what the work yields.
--     work_yields      what a work yields
--     IsKept           works are the parts of an outcome
--     work_kept        what a work is opened to is kept, by the cases of its rule
--     opening_laws     the same of pieces
use Rattle.std.proofs.Common.{◌≡◌, ℕ, zero, suc, ◌+◌, ◌-◌, ◌≤◌, ◌<◌, Bool, true, false, cond, List, [], ◌∷◌, length, map, All, Option, Some, None, refl, sym, ap, subst, ◌∙◌, arith, add-one}
use Rattle.std.specs.Prelude.{min, nat_le}
use Rattle.std.specs.List.{AllByRecursion}
use Rattle.std.proofs.lemmas.List.Elements.{All-from_recursion}
use Rattle.asm_reader.specs.declared.picks.Picks.{Ghosts}
use Rattle.asm_state.specs.Location.{State}
use Rattle.asm_state.specs.Signature.{Shape}
use Rattle.asm_state.specs.declared.value.Value.{Value}
use Rattle.asm_meaning.specs.Does.{Outcome, nothing, both, counted, parts, each, one_of}
use Rattle.asm_meaning.specs.code.OutcomesBeside.{counting, all_both}
use Rattle.asm_meaning.specs.code.Intervals.{between}
use Rattle.asm_meaning.specs.Program.{nothing_bound}
use Rattle.asm_meaning.specs.Taken.{taken}
use Rattle.asm_meaning.specs.Value.{Reading, is_true}
use Rattle.asm_meaning.specs.Yields.{Path, at, beside}
use Rattle.asm_eval.specs.declared.part.Part.{Part}
use Rattle.asm_eval.specs.declared.part.Part.TheVariants as part
use Rattle.asm_meaning.proofs.BesideLemmas.GroupsBeside.{group_laws-counting_none as counting_none, group_laws-one as one_alone}
use Rattle.asm_meaning.proofs.Intervals.{interval_laws-all as between_all, interval_laws-cut as each_cut, interval_laws-none as each_none}
use Rattle.asm_code.specs.code.CodeTree.{Code}
use Rattle.asm_code.specs.code.Readings.{always, reading, universe_at}
use Rattle.asm_code.specs.code.RuleMeaning.{Locations, meaning, meanings, passes, passing}
use Rattle.asm_code.specs.code.RuleTree.{RuleCode, Skip, Assign, Par, Seq, If, Let, Forall, Choose, Iterate, Call, RuleCodes, no_rules, rule_then}
use Rattle.asm_code.specs.code.RuleViews.{rule_of}
use Rattle.asm_eval.proofs.Lists.{by_test}
use Rattle.asm_eval.proofs.OpenedRules.{before_end}
use Rattle.asm_eval.specs.code.Frames.{readings_of}
use Rattle.asm_eval.specs.code.OpenedPieces.{IsCutPart, Gives, IsCut, Opens, OpeningLaws, is_closed, is_closed_part, pieces_in, pieces_yield, works_in}
use Rattle.asm_eval.specs.code.Opening.{Work, all_of, body_works, choice_works, one_work, opened, part_of, part_opened, part_works, rule_works, span_works, spans, work_of}
use Rattle.asm_eval.specs.code.Pieces.{IsPartOf, IsPiece, part_yields, piece_yields}
use Rattle.asm_eval.specs.code.Evaluation.{evaluation_choices, frame_locations, evaluation_shape, evaluation_state}
use Rattle.asm_eval.specs.declared.frame.Frame.{Frame}
use Rattle.asm_eval.specs.declared.open.Opened.{Opened}
use Rattle.asm_eval.specs.declared.open.Opened.TheVariants as opening
use Rattle.asm_eval.specs.declared.piece.Piece.{Piece}
use Rattle.asm_eval.specs.declared.evaluation.Evaluation.{Evaluation}

same_outcome : (o q : Outcome) → o.result ≡ q.result → o.instances ≡ q.instances → o ≡ q
same_outcome o q e f i = record { result = e i; instances = f i }

at_end : (from to : ℕ) → nat_le to from ≡ true → to ≤ from
at_end from to e = grind (arith, e)

module _ (shape : Shape) (turns : ℕ) (chosen : Path → ℕ) (A : State) where
  -- the elements at an interval
  abbrev elements : (over : ℕ) → Option Code → RuleCode → List Reading → Locations → Path → (k : ℕ) → List Value → Outcome
  elements u c P rs ls p k vs =
      each (λ v n. meaning shape turns chosen P (always v ∷ rs) (None ∷ ls) A (at p n)) (λ v. passes shape c (always v ∷ rs) A) k vs

  abbrev rule_yields : RuleCode → List Reading → Locations → Path → Part → Outcome
  rule_yields R rs ls p part.Whole = meaning shape turns chosen R rs ls A p
  rule_yields (Forall u c P) rs ls p (part.Span from to) = elements u c P rs ls p from (between from to (universe_at shape u))
  rule_yields R rs ls p (part.Span from to) = nothing

  abbrev work_yields : Work → Outcome
  work_yields work = rule_yields work.rule work.readings work.locations work.path work.part

  abbrev works_yield : List Work → Outcome
  works_yield works = all_both (map work_yields works)

  -- ---- parts

  par_yields : (k : ℕ) (Ps : RuleCodes) (rs : List Reading) (ls : Locations) (p : Path) → parts (meanings shape turns chosen Ps rs ls) k A nothing_bound p ≡ works_yield (part_works k Ps rs ls p)
  unfolding meanings
  par_yields k no_rules rs ls p = refl
  par_yields k (rule_then P Ps) rs ls p =
      ap (both (meaning shape turns chosen P rs ls A (at p k)))
      (ap (λ n. parts (meanings shape turns chosen Ps rs ls) n A nothing_bound p) (sym (add-one k)) ∙ par_yields (k + 1) Ps rs ls p)

  -- ---- bodies

  counted_by : (b : Bool) (work : Work) (rest : Outcome) (works : List Work) → rest ≡ counting (length works) (works_yield works)
      → cond b (counted (both (work_yields work) rest)) rest ≡ counting (length (cond b (work ∷ works) works)) (works_yield (cond b (work ∷ works) works))
  counted_by true work rest works same =
      let so_many : rest.instances ≡ length works + (works_yield works).instances = ap (λ (o : Outcome). o.instances) same in
      same_outcome _ _ (ap (λ (o : Outcome). beside (work_yields work).result o.result) same) (omega (arith, so_many))
  counted_by false work rest works same = same

  bodies_yield : (u : ℕ) (c : Option Code) (P : RuleCode) (rs : List Reading) (ls : Locations) (p : Path) (k : ℕ) (vs : List Value)
      → elements u c P rs ls p k vs ≡ counting (length (body_works shape A c P rs ls p k vs)) (works_yield (body_works shape A c P rs ls p k vs))
  bodies_yield u c P rs ls p k [] = refl
  bodies_yield u c P rs ls p k (v ∷ vs) =
      counted_by (passes shape c (always v ∷ rs) A) (all_of P (always v ∷ rs) (None ∷ ls) (at p k)) (elements u c P rs ls p (suc k) vs) (body_works shape A c P rs ls p (k + 1) vs)
      (ap (λ n. elements u c P rs ls p n vs) (sym (add-one k)) ∙ bodies_yield u c P rs ls p (k + 1) vs)

  -- ---- spans

  module _ (cut : ℕ) where
    abbrev IsCutWork : Work → Type 0
    IsCutWork work = IsCutPart cut work.part

    spans_yield : 0 < cut → (u : ℕ) (c : Option Code) (P : RuleCode) (rs : List Reading) (ls : Locations) (p : Path) (most from to : ℕ)
        → from ≤ to → to ≤ length (universe_at shape u) → to - from ≤ most
        → elements u c P rs ls p from (between from to (universe_at shape u)) ≡ works_yield (map (part_of (Forall u c P) rs ls p) (spans cut most from to))
    spans_yield some u c P rs ls p zero from to rises within few =
        each_none (λ v n. meaning shape turns chosen P (always v ∷ rs) (None ∷ ls) A (at p n)) (λ v. passes shape c (always v ∷ rs) A) from to (universe_at shape u) (omega (arith, few))
    spans_yield some u c P rs ls p (suc most) from to rises within few =
        let m = λ (v : Value) (n : ℕ). meaning shape turns chosen P (always v ∷ rs) (None ∷ ls) A (at p n) in
        let test = λ (v : Value). passes shape c (always v ∷ rs) A in
        let us = universe_at shape u in
        let end = min (from + cut) to in
        by_test (λ its. elements u c P rs ls p from (between from to us) ≡ works_yield (map (part_of (Forall u c P) rs ls p) its)) (nat_le to from) [] (part.Span from end ∷ spans cut most end to)
        (λ e. each_none m test from to us (at_end from to e))
        (λ e.
        let low = before_end from to e in
        let on : from ≤ end = omega (arith, rises) in
        let off : end ≤ to = omega arith in
        sym (each_cut from end to us on off within m test)
        ∙ ap (both (elements u c P rs ls p from (between from end us))) (spans_yield some u c P rs ls p most end to off within (omega (arith, some, few, low))))

    spans_cut : (R : RuleCode) (rs : List Reading) (ls : Locations) (p : Path) (most from to : ℕ) → AllByRecursion IsCutWork (map (part_of R rs ls p) (spans cut most from to))
    spans_cut R rs ls p zero from to = tt
    spans_cut R rs ls p (suc most) from to =
        let end = min (from + cut) to in
        let few : end ≤ from + cut = omega arith in
        by_test (λ its. AllByRecursion IsCutWork (map (part_of R rs ls p) its)) (nat_le to from) [] (part.Span from end ∷ spans cut most end to)
        (λ e. tt) (λ e. (few, spans_cut R rs ls p most end to))

    parts_cut : (k : ℕ) (Ps : RuleCodes) (rs : List Reading) (ls : Locations) (p : Path) → AllByRecursion IsCutWork (part_works k Ps rs ls p)
    parts_cut k no_rules rs ls p = tt
    parts_cut k (rule_then P Ps) rs ls p = (tt, parts_cut (k + 1) Ps rs ls p)

    bodies_cut : (c : Option Code) (P : RuleCode) (rs : List Reading) (ls : Locations) (p : Path) (k : ℕ) (vs : List Value) → AllByRecursion IsCutWork (body_works shape A c P rs ls p k vs)
    bodies_cut c P rs ls p k [] = tt
    bodies_cut c P rs ls p k (v ∷ vs) =
        by_test (AllByRecursion IsCutWork) (passes shape c (always v ∷ rs) A) (all_of P (always v ∷ rs) (None ∷ ls) (at p k) ∷ body_works shape A c P rs ls p (k + 1) vs) (body_works shape A c P rs ls p (k + 1) vs)
        (λ e. (tt, bodies_cut c P rs ls p (k + 1) vs)) (λ e. bodies_cut c P rs ls p (k + 1) vs)

    -- ---- a work, by the cases of its rule

    -- works, with n elements counted, are the parts of an outcome
    record AreKept (o : Outcome) (works : List Work) (n : ℕ) : Type 0 where
      loses_nothing : o ≡ counting n (works_yield works)
      are_cut : AllByRecursion IsCutWork works

    abbrev IsKept : Option (List Work × ℕ) → (closed : Bool) → Outcome → Type 0
    IsKept (Some found) closed o = (closed ≡ false) × AreKept o found.0 found.1
    IsKept None closed o = closed ≡ true

    one_kept : (P : RuleCode) (rs : List Reading) (ls : Locations) (p : Path) (k : ℕ) → IsKept (one_work P rs ls p k) false (meaning shape turns chosen P rs ls A (at p k))
    one_kept P rs ls p k =
        let work = all_of P rs ls (at p k) in
        (refl, record { loses_nothing = one_alone work_yields [] (work ∷ []) work refl refl; are_cut = (tt, tt) })

    either_kept : (b : Bool) (yes_works no_works : Option (List Work × ℕ)) (o q : Outcome) → IsKept yes_works false o → IsKept no_works false q → IsKept (cond b yes_works no_works) false (cond b o q)
    either_kept true yes_works no_works o q kept other = kept
    either_kept false yes_works no_works o q other kept = kept

    choice_kept : (n : ℕ) (vs : List Value) (P Q : RuleCode) (rs : List Reading) (ls : Locations) (p : Path)
        → IsKept (choice_works (taken n vs) P Q rs ls p) false
        (one_of n vs (λ v. meaning shape turns chosen P (always v ∷ rs) (None ∷ ls) A (at p 0)) (meaning shape turns chosen Q rs ls A (at p 1)))
    choice_kept n [] P Q rs ls p = one_kept Q rs ls p 1
    choice_kept n (v ∷ vs) P Q rs ls p = one_kept P _ (None ∷ ls) p 0

    span_kept : 0 < cut → (u : ℕ) (c : Option Code) (P : RuleCode) (rs : List Reading) (ls : Locations) (p : Path) (from to : ℕ) → from ≤ to → to ≤ length (universe_at shape u)
        → IsKept (span_works shape A cut u c P rs ls p from to) false (elements u c P rs ls p from (between from to (universe_at shape u)))
    span_kept some u c P rs ls p from to rises within =
        let vs = between from to (universe_at shape u) in
        let bodies = body_works shape A c P rs ls p from vs in
        let pieces = map (part_of (Forall u c P) rs ls p) (spans cut (to - from) from to) in
        let all : to - from ≤ to - from = omega arith in
        by_test (λ w. IsKept w false (elements u c P rs ls p from vs)) (nat_le (to - from) cut) (Some (bodies, length bodies)) (Some (pieces, 0))
        (λ e. (refl, record { loses_nothing = bodies_yield u c P rs ls p from vs; are_cut = bodies_cut c P rs ls p from vs }))
        (λ e. (
          refl,
          record {
            loses_nothing = spans_yield some u c P rs ls p (to - from) from to rises within all ∙ sym (counting_none (works_yield pieces));
            are_cut = spans_cut (Forall u c P) rs ls p (to - from) from to;
          },
        ))

    rule_kept : 0 < cut → (R : RuleCode) (rs : List Reading) (ls : Locations) (p : Path) → IsKept (rule_works shape A chosen cut R rs ls p) (is_closed R) (meaning shape turns chosen R rs ls A p)
    unfolding meaning
    rule_kept some Skip rs ls p = refl
    rule_kept some (Assign to t) rs ls p = refl
    rule_kept some (Seq Ps) rs ls p = refl
    rule_kept some (Iterate P) rs ls p = refl
    rule_kept some (Par Ps) rs ls p =
        (refl, record { loses_nothing = par_yields 0 Ps rs ls p ∙ sym (counting_none (works_yield (part_works 0 Ps rs ls p))); are_cut = parts_cut 0 Ps rs ls p })
    rule_kept some (If c P Q) rs ls p =
        either_kept (is_true (reading shape c rs A)) (one_work P rs ls p 0) (one_work Q rs ls p 1) _ _ (one_kept P rs ls p 0) (one_kept Q rs ls p 1)
    rule_kept some (Let t P) rs ls p = one_kept P (always (reading shape t rs A) ∷ rs) (None ∷ ls) p 0
    rule_kept some (Forall u c P) rs ls p =
        let us = universe_at shape u in
        let last : length us ≤ length us = omega arith in
        subst (λ vs. IsKept (span_works shape A cut u c P rs ls p 0 (length us)) false (elements u c P rs ls p 0 vs)) (between_all us)
        (span_kept some u c P rs ls p 0 (length us) (omega arith) last)
    rule_kept some (Choose u c P Q) rs ls p = choice_kept (chosen p) (passing shape u c rs A) P Q rs ls p
    rule_kept some (Call P to ts) rs ls p = one_kept P _ _ p 0

    part_kept : 0 < cut → (R : RuleCode) (rs : List Reading) (ls : Locations) (p : Path) (its : Part) → IsPartOf shape R its
        → IsKept (part_opened shape A chosen cut R rs ls p its) (is_closed_part R its) (rule_yields R rs ls p its)
    part_kept some R rs ls p part.Whole is = rule_kept some R rs ls p
    part_kept some (Forall u c P) rs ls p (part.Span from to) is = span_kept some u c P rs ls p from to is.rises is.within
    part_kept some R rs ls p (part.Span from to) is = absurd is

    work_kept : 0 < cut → (work : Work) → IsPartOf shape work.rule work.part → IsKept (opened shape A chosen cut work) (is_closed_part work.rule work.part) (work_yields work)
    work_kept some work is = part_kept some work.rule work.readings work.locations work.path work.part is

-- ---- pieces

module _ {P : Type 0} {picks : Ghosts P} (r : Evaluation P picks) where
  abbrev piece_work : Piece → Work
  piece_work = work_of (evaluation_shape r)

  abbrev its_work_yields : Work → Outcome
  its_work_yields = work_yields (evaluation_shape r) r.turns (evaluation_choices r) (evaluation_state r)

  part_same : (f : Frame) (p : Path) (R : RuleCode) (its : Part)
      → rule_yields (evaluation_shape r) r.turns (evaluation_choices r) (evaluation_state r) R (readings_of (evaluation_shape r) f) (frame_locations (evaluation_shape r) f) p its ≡ part_yields r f p R its
  part_same f p R part.Whole = refl
  part_same f p (Forall u c Q) (part.Span from to) = refl
  part_same f p R (part.Span from to) = refl

  piece_same : (piece : Piece) → its_work_yields (piece_work piece) ≡ piece_yields r piece
  piece_same piece = part_same piece.frame piece.path (rule_of piece.rule.now) piece.part

  pieces_same : (pieces : List Piece) → all_both (map its_work_yields (map piece_work pieces)) ≡ pieces_yield r pieces
  pieces_same [] = refl
  pieces_same (piece ∷ pieces) = λ i. both (piece_same piece i) (pieces_same pieces i)

  module _ (cut : ℕ) where
    pieces_cut : (pieces : List Piece) → AllByRecursion (λ (work : Work). IsCutPart cut work.part) (map piece_work pieces) → AllByRecursion (IsCut cut) pieces
    pieces_cut [] all = tt
    pieces_cut (piece ∷ pieces) all = (all.0, pieces_cut pieces all.1)

    gives : (o : Opened) (closed : Bool) (q : Outcome) → IsKept (evaluation_shape r) r.turns (evaluation_choices r) (evaluation_state r) cut (works_in (evaluation_shape r) o) closed q
        → All (IsPiece (evaluation_shape r)) (pieces_in o) → Gives r cut closed q o
    gives (opening.Pieces pieces n) closed q kept are = (
      kept.0,
      record {
        loses_nothing = kept.1.loses_nothing ∙ ap (counting n) (pieces_same pieces.items);
        are_pieces = are;
        are_cut = All-from_recursion (IsCut cut) pieces.items (pieces_cut pieces.items kept.1.are_cut);
      },
    )
    gives opening.Closed closed q kept are = kept

    nothing_lost : (piece : Piece) (o : Opened) → 0 < cut → IsPiece (evaluation_shape r) piece → Opens r cut piece o
        → Gives r cut (is_closed_part (rule_of piece.rule.now) piece.part) (piece_yields r piece) o
    nothing_lost piece o some is opens =
        let closed = is_closed_part (rule_of piece.rule.now) piece.part in
        let kept = work_kept (evaluation_shape r) r.turns (evaluation_choices r) (evaluation_state r) cut some (piece_work piece) is.2 in
        subst (λ q. Gives r cut closed q o) (piece_same piece)
        (gives o closed (its_work_yields (piece_work piece))
        (subst (λ its. IsKept (evaluation_shape r) r.turns (evaluation_choices r) (evaluation_state r) cut its closed (its_work_yields (piece_work piece))) (sym opens.works) kept) opens.are_pieces)

  pub opening_laws : OpeningLaws r
  opening_laws = record {
    loses_nothing = nothing_lost;
    one_way = λ cut piece o q opens others. opens.works ∙ sym others.works;
  }
