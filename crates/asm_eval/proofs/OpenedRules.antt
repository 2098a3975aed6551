-- Free. The works that pieces of resolved rules are opened to: those so far, and those still to
-- come.
--     none_yet, one_more, none_left, one_alone     of a list of pieces, which grows
--     parts_more, no_parts                         of the parts of a `par`
--     body_more, body_passed, no_bodies            of the bodies for the values of an interval
--     span_next, no_spans                          of the spans of an interval
--     bodies_opened, spans_opened                  a `forall` at an interval that isn't longer than
--                                                  the cut, and at a longer one
use Rattle.std.proofs.Common.{◌≡◌, ℕ, zero, suc, ◌+◌, ◌-◌, ◌<◌, ◌≤◌, Bool, true, false, cond, List, [], ◌∷◌, ◌++◌, length, get_or, map, take, drop, Option, Some, None, refl, sym, ap, subst, ◌∙◌, arith}
use Rattle.std.specs.Prelude.{Result, IfOk, min, nat_le, slice_get}
use Rattle.std.proofs.lemmas.List.{append-nil, append_assoc, drop_all, drop_more, map_push}
use Rattle.std.proofs.lemmas.Option.{get_or_from_slice_get, slice_get_within}
use Rattle.asm_reader.specs.declared.picks.Picks.{Ghosts}
use Rattle.asm_state.specs.Location.{State}
use Rattle.asm_state.specs.declared.value.Value.{Value}
use Rattle.asm_state.specs.Signature.{Shape}
use Rattle.asm_meaning.specs.code.Intervals.{between}
use Rattle.asm_meaning.specs.Value.{Reading}
use Rattle.asm_meaning.specs.Yields.{Path, at}
use Rattle.asm_eval.specs.declared.part.Part.TheVariants as part
use Rattle.asm_code.specs.code.CodeTree as codes
use Rattle.asm_code.specs.code.Readings.{always, universe_at}
use Rattle.asm_code.specs.code.RuleMeaning.{Locations, passes}
use Rattle.asm_code.specs.code.RuleTree as tree
use Rattle.asm_code.specs.code.RuleViews.{rule_of, rules_of}
use Rattle.asm_code.specs.declared.rule_code.RuleCode.{RuleCode}
use Rattle.asm_eval.specs.code.OpenedPieces.{OpensTo}
use Rattle.asm_eval.specs.code.Opening.{Work, all_of, body_works, counted_works, part_of, part_opened, part_works, span_works, spans}
use Rattle.asm_eval.specs.code.Pieces.{IsPartOf}
use Rattle.asm_eval.specs.declared.open.Opened.{Opened}
use Rattle.asm_eval.specs.declared.evaluation.Evaluation.{Evaluation}

-- ---- a list that grows

module _ {X Y : Type 0} (f : X → Y) where
  pub none_yet : (xs : List X) (all : List Y) → xs ≡ [] → map f xs ++ all ≡ all
  none_yet xs all none = ap (λ zs. map f zs ++ all) none

  pub one_more : (xs ys : List X) (x : X) (rest : List Y) → ys ≡ xs ++ x ∷ [] → map f ys ++ rest ≡ map f xs ++ f x ∷ rest
  one_more xs ys x rest more = ap (λ zs. map f zs ++ rest) more ∙ ap (λ zs. zs ++ rest) (map_push f xs x) ∙ append_assoc (map f xs) (f x ∷ []) rest

  pub none_left : (xs : List X) (rest all : List Y) → rest ≡ [] → map f xs ++ rest ≡ all → map f xs ≡ all
  none_left xs rest all none so_far = sym (append-nil (map f xs)) ∙ ap (λ zs. map f xs ++ zs) (sym none) ∙ so_far

  pub one_alone : (xs ys : List X) (x : X) → xs ≡ [] → ys ≡ xs ++ x ∷ [] → map f ys ≡ f x ∷ []
  one_alone xs ys x none more = ap (map f) more ∙ ap (λ zs. map f (zs ++ x ∷ [])) none

-- works, with n elements counted
abbrev pub given : ℕ → List Work → Option (List Work × ℕ)
given n works = Some (works, n)

-- ---- parts

module _ (rs : List Reading) (ls : Locations) (p : Path) where
  abbrev pub parts_from : ℕ → List RuleCode → List Work
  parts_from i Ps = part_works i (rules_of (map rule_of Ps)) rs ls p

  pub parts_more : (Ps : List RuleCode) (i : ℕ) (P : RuleCode) → i < length Ps → P ≡ get_or Ps i P
      → all_of (rule_of P) rs ls (at p i) ∷ parts_from (i + 1) (drop (i + 1) Ps) ≡ parts_from i (drop i Ps)
  parts_more Ps i P below is = ap (parts_from i) (sym (drop_more Ps i P below ∙ ap (λ Q. Q ∷ drop (i + 1) Ps) (sym is)))

  pub no_parts : (Ps : List RuleCode) (i : ℕ) → length Ps ≤ i → parts_from i (drop i Ps) ≡ []
  no_parts Ps i past = ap (parts_from i) (drop_all i Ps past)

-- ---- bodies

take_none : (vs : List Value) → take 0 vs ≡ []
take_none [] = refl
take_none (v ∷ vs) = refl

first_between : (i to : ℕ) (vs : List Value) (v : Value) → i < to → slice_get vs i ≡ Some v → between i to vs ≡ v ∷ between (i + 1) to vs
first_between i to vs v low there =
    let less : to - i ≡ suc (to - (i + 1)) = omega (arith, low) in
    ap (λ n. take n (drop i vs)) less
    ∙ ap (take (suc (to - (i + 1)))) (drop_more vs i v (slice_get_within vs i v there))
    ∙ ap (λ w. w ∷ between (i + 1) to vs) (get_or_from_slice_get vs i v v there)

none_between : (i to : ℕ) (vs : List Value) → to ≤ i → between i to vs ≡ []
none_between i to vs past = let none : to - i ≡ 0 = omega (arith, past) in ap (λ n. take n (drop i vs)) none ∙ take_none (drop i vs)

module _ (shape : Shape) (A : State) (c : Option codes.Code) (P : tree.RuleCode) (rs : List Reading) (ls : Locations) (p : Path) (to : ℕ) (vs : List Value) where
  abbrev pub bodies_from : ℕ → List Work
  bodies_from i = body_works shape A c P rs ls p i (between i to vs)

  body_here : (i : ℕ) (v : Value) (b : Bool) → i < to → slice_get vs i ≡ Some v → b ≡ passes shape c (always v ∷ rs) A
      → cond b (all_of P (always v ∷ rs) (None ∷ ls) (at p i) ∷ bodies_from (i + 1)) (bodies_from (i + 1)) ≡ bodies_from i
  body_here i v b low there is =
      ap (λ so. cond so (all_of P (always v ∷ rs) (None ∷ ls) (at p i) ∷ bodies_from (i + 1)) (bodies_from (i + 1))) is
      ∙ ap (body_works shape A c P rs ls p i) (sym (first_between i to vs v low there))

  pub body_more : (i : ℕ) (v : Value) → i < to → slice_get vs i ≡ Some v → true ≡ passes shape c (always v ∷ rs) A
      → all_of P (always v ∷ rs) (None ∷ ls) (at p i) ∷ bodies_from (i + 1) ≡ bodies_from i
  body_more i v low there holds = body_here i v true low there holds

  pub body_passed : (i : ℕ) (v : Value) → i < to → slice_get vs i ≡ Some v → false ≡ passes shape c (always v ∷ rs) A → bodies_from (i + 1) ≡ bodies_from i
  body_passed i v low there fails = body_here i v false low there fails

  pub no_bodies : (i : ℕ) → to ≤ i → bodies_from i ≡ []
  no_bodies i past = ap (body_works shape A c P rs ls p i) (none_between i to vs past)

-- ---- spans

same_unless : {X : Type 0} (b : Bool) (xs ys : List X) → (b ≡ false → xs ≡ ys) → cond b [] xs ≡ cond b [] ys
same_unless true xs ys same = refl
same_unless false xs ys same = same refl

is_past : (from to : ℕ) → to ≤ from → nat_le to from ≡ true
is_past from to past = grind (arith, past)

isnt_past : (from to : ℕ) → from < to → nat_le to from ≡ false
isnt_past from to low = grind (arith, low)

pub before_end : (from to : ℕ) → nat_le to from ≡ false → from < to
before_end from to e = grind (arith, e)

module _ (cut : ℕ) where
  pub no_spans : (most from to : ℕ) → to ≤ from → spans cut most from to ≡ []
  no_spans zero from to past = refl
  no_spans (suc most) from to past =
      ap (λ b. cond b [] (part.Span from (min (from + cut) to) ∷ spans cut most (min (from + cut) to) to)) (is_past from to past)

  -- one bound on their number is as good as another
  spans_enough : 0 < cut → (most others from to : ℕ) → to - from ≤ most → to - from ≤ others → spans cut most from to ≡ spans cut others from to
  spans_enough some zero others from to few few' = sym (no_spans others from to (omega (arith, few)))
  spans_enough some (suc most) zero from to few few' = no_spans (suc most) from to (omega (arith, few'))
  spans_enough some (suc most) (suc others) from to few few' =
      same_unless (nat_le to from) _ _ (λ e.
      let low = before_end from to e in
      ap (λ more. part.Span from (min (from + cut) to) ∷ more) (spans_enough some most others (min (from + cut) to) to (omega (arith, some, few, low)) (omega (arith, some, few', low))))

  pub span_next : 0 < cut → (next end to : ℕ) → next < to → end ≡ min (next + cut) to → part.Span next end ∷ spans cut (to - end) end to ≡ spans cut (to - next) next to
  span_next some next end to low is =
      let less : suc (to - (next + 1)) ≡ to - next = omega (arith, low) in
      let last = min (next + cut) to in
      let few : to - last ≤ to - last = omega arith in
      let enough : to - last ≤ to - (next + 1) = omega (arith, some, low) in
      ap (λ e. part.Span next e ∷ spans cut (to - e) e to) is
      ∙ ap (λ more. part.Span next last ∷ more) (spans_enough some (to - last) (to - (next + 1)) last to few enough)
      ∙ ap (λ b. cond b [] (part.Span next last ∷ spans cut (to - (next + 1)) last to)) (sym (isnt_past next to low))
      ∙ ap (λ n. spans cut n next to) less

  -- the same rule in each span
  abbrev pub spans_from : tree.RuleCode → List Reading → Locations → Path → (to from : ℕ) → List Work
  spans_from R rs ls p to from = map (part_of R rs ls p) (spans cut (to - from) from to)

  -- ---- a `forall` at an interval

  module _ (shape : Shape) (A : State) (rs : List Reading) (ls : Locations) (p : Path) (from to : ℕ) where
    pub bodies_opened : (u : ℕ) (c : Option codes.Code) (P : tree.RuleCode) → to - from ≤ cut
        → counted_works (body_works shape A c P rs ls p from (between from to (universe_at shape u))) ≡ span_works shape A cut u c P rs ls p from to
    bodies_opened u c P few =
        let short : nat_le (to - from) cut ≡ true = grind (arith, few) in
        ap (λ b. cond b (counted_works (body_works shape A c P rs ls p from (between from to (universe_at shape u))))
        (given 0 (spans_from (tree.Forall u c P) rs ls p to from))) (sym short)

    pub spans_opened : (chosen : Path → ℕ) (R : tree.RuleCode) → IsPartOf shape R (part.Span from to) → cut < to - from
        → given 0 (spans_from R rs ls p to from) ≡ part_opened shape A chosen cut R rs ls p (part.Span from to)
    spans_opened chosen (tree.Forall u c P) is many =
        let long : nat_le (to - from) cut ≡ false = grind (arith, many) in
        ap (λ b. cond b (counted_works (body_works shape A c P rs ls p from (between from to (universe_at shape u))))
        (given 0 (spans_from (tree.Forall u c P) rs ls p to from))) (sym long)
    spans_opened chosen R is many = absurd is

pub part_of_part : (shape : Shape) (R : tree.RuleCode) (a b c d : ℕ) → a ≤ b → b ≤ c → c ≤ d → IsPartOf shape R (part.Span a d) → IsPartOf shape R (part.Span b c)
part_of_part shape (tree.Forall u t Q) a b c d low high last is = let within = is.within in record { rises = high; within = omega (arith, last, within) }
part_of_part shape R a b c d low high last is = absurd is

-- ---- results

module _ {P : Type 0} {picks : Ghosts P} (r : Evaluation P picks) where
  pub opens_same : {E : Type 0} (made : Result Opened E) (its others : Option (List Work × ℕ)) → its ≡ others → IfOk made (OpensTo r its) → IfOk made (OpensTo r others)
  opens_same made its others same opens = subst (λ o. IfOk made (OpensTo r o)) same opens
