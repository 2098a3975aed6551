-- Free. What stands of a rule is what stands of the works that it is opened to, one after the
-- other.
--     work_stands, works_stand    what stands of a work, and of works
--     AreBelow size works         each is all of a rule with fewer nodes
--     AreOpened                   works are those that something with this story is opened to
--     rule_opened                 what a rule is opened to, by its cases
use Rattle.std.proofs.Common.{◌≡◌, ℕ, suc, ◌+◌, ◌-◌, ◌≤◌, ◌<◌, Bool, true, false, cond, List, [], ◌∷◌, ◌++◌, length, Option, Some, None, refl, sym, ap, subst, map, ◌∙◌, arith, add-one}
use Rattle.std.specs.Prelude.{nat_le}
use Rattle.std.proofs.lemmas.List.{append-nil}
use Rattle.asm_state.specs.declared.value.Value.{Value}
use Rattle.asm_state.specs.Location.{Location, State}
use Rattle.asm_state.specs.Signature.{Shape}
use Rattle.asm_meaning.specs.code.Intervals.{between}
use Rattle.asm_meaning.specs.Program.{nothing_bound}
use Rattle.asm_meaning.specs.Story.{Story, Instance, Beside, parts_tell, each_tells, one_tells}
use Rattle.asm_meaning.specs.Taken.{taken}
use Rattle.asm_meaning.specs.Value.{Reading, is_true}
use Rattle.asm_meaning.specs.Yields.{Path, at}
use Rattle.asm_eval.specs.declared.part.Part.TheVariants as part
use Rattle.asm_meaning.proofs.Intervals.{interval_laws-all as between_all}
use Rattle.asm_code.specs.code.BoundValues.{optional_arguments}
use Rattle.asm_code.specs.code.CodeTree.{Code}
use Rattle.asm_code.specs.code.Readings.{always, reading, universe_at}
use Rattle.asm_code.specs.code.RuleMeaning.{Locations, passes, passing, rule_size, rule_sizes}
use Rattle.asm_code.specs.code.RuleStories.{telling, tellings}
use Rattle.asm_code.specs.code.RuleTree.{RuleCode, Skip, Assign, Par, Seq, If, Let, Forall, Choose, Iterate, Call, RuleCodes, no_rules, rule_then}
use Rattle.asm_eval.specs.code.Opening.{Work, all_of, body_works, choice_works, counted_works, one_work, part_of, part_works, rule_works, span_works, spans}
use Rattle.asm_eval.specs.code.Pieces.{HasAtMost, all_positions}
use Rattle.asm_clash.specs.Standing.{Assigned, stands}
use Rattle.asm_clash.specs.code.StandingRules.{given_by}

abbrev pub AreBelow : (size : ℕ) → List Work → Type 0
AreBelow size [] = Unit {0}
AreBelow size (w ∷ works) = (rule_size w.rule < size) × (w.part ≡ part.Whole) × AreBelow size works

module _ (shape : Shape) (turns : ℕ) (chosen : Path → ℕ) (l : Location) (A : State) (gs : List Value) where
  abbrev tells : RuleCode → List Reading → Locations → Path → Story
  tells R rs ls p = telling shape turns chosen R rs ls gs A p

  abbrev pub work_stands : Work → List Assigned
  work_stands w = stands l (tells w.rule w.readings w.locations w.path)

  abbrev pub works_stand : List Work → List Assigned
  works_stand [] = []
  works_stand (w ∷ works) = work_stands w ++ works_stand works

  abbrev pub AreOpened : (size : ℕ) → Story → Option (List Work × ℕ) → Type 0
  AreOpened size s None = Unit {0}
  AreOpened size s (Some found) = (stands l s ≡ works_stand found.0) × AreBelow size found.0

  one_opened : (size : ℕ) (P : RuleCode) (rs : List Reading) (ls : Locations) (p : Path) (k : ℕ) → rule_size P < size → AreOpened size (tells P rs ls (at p k)) (one_work P rs ls p k)
  one_opened size P rs ls p k low = (sym (append-nil (stands l (tells P rs ls (at p k)))), (low, refl, tt))

  either_opened : (size : ℕ) (b : Bool) (yes_works no_works : Option (List Work × ℕ)) (s t : Story)
      → AreOpened size s yes_works → AreOpened size t no_works → AreOpened size (cond b s t) (cond b yes_works no_works)
  either_opened size true yes_works no_works s t opened other = opened
  either_opened size false yes_works no_works s t opened other = other

  -- ---- parts

  abbrev parts_from : ℕ → RuleCodes → List Reading → Locations → Path → Story
  parts_from k Ps rs ls p = parts_tell (tellings shape turns chosen Ps rs ls gs) k A nothing_bound p

  parts_opened : (k : ℕ) (Ps : RuleCodes) (rs : List Reading) (ls : Locations) (p : Path) → stands l (parts_from k Ps rs ls p) ≡ works_stand (part_works k Ps rs ls p)
  unfolding tellings
  parts_opened k no_rules rs ls p = refl
  parts_opened k (rule_then P Ps) rs ls p =
      ap (λ more. stands l (tells P rs ls (at p k)) ++ more) (ap (λ n. stands l (parts_from n Ps rs ls p)) (sym (add-one k)) ∙ parts_opened (k + 1) Ps rs ls p)

  parts_below : (size k : ℕ) (Ps : RuleCodes) (rs : List Reading) (ls : Locations) (p : Path) → rule_sizes Ps < size → AreBelow size (part_works k Ps rs ls p)
  parts_below size k no_rules rs ls p low = tt
  parts_below size k (rule_then P Ps) rs ls p low = (omega (arith, low), refl, parts_below size (k + 1) Ps rs ls p (omega (arith, low)))

  -- ---- bodies

  module _ (c : Option Code) (P : RuleCode) (rs : List Reading) (ls : Locations) (p : Path) where
    abbrev bodies : ℕ → List Value → List Work
    bodies k vs = body_works shape A c P rs ls p k vs

    abbrev bodies_tell : ℕ → List Value → Story
    bodies_tell k vs = each_tells (λ v n. tells P (always v ∷ rs) (None ∷ ls) (at p n)) (λ v. passes shape c (always v ∷ rs) A) k vs

    by_both : (b : Bool) (w : Work) (works : List Work) (s : Story) → stands l s ≡ works_stand works
        → stands l (cond b (Beside (Instance (tells w.rule w.readings w.locations w.path)) s) s) ≡ works_stand (cond b (w ∷ works) works)
    by_both true w works s same = ap (λ more. work_stands w ++ more) same
    by_both false w works s same = same

    bodies_opened : (k : ℕ) (vs : List Value) → stands l (bodies_tell k vs) ≡ works_stand (bodies k vs)
    bodies_opened k [] = refl
    bodies_opened k (v ∷ vs) =
        by_both (passes shape c (always v ∷ rs) A) (all_of P (always v ∷ rs) (None ∷ ls) (at p k)) (bodies (k + 1) vs) (bodies_tell (suc k) vs)
        (ap (λ n. stands l (bodies_tell n vs)) (sym (add-one k)) ∙ bodies_opened (k + 1) vs)

    below_both : (size : ℕ) (b : Bool) (w : Work) (works : List Work) → rule_size w.rule < size → w.part ≡ part.Whole → AreBelow size works → AreBelow size (cond b (w ∷ works) works)
    below_both size true w works low is below = (low, is, below)
    below_both size false w works low is below = below

    bodies_below : (size k : ℕ) (vs : List Value) → rule_size P < size → AreBelow size (bodies k vs)
    bodies_below size k [] low = tt
    bodies_below size k (v ∷ vs) low =
        below_both size (passes shape c (always v ∷ rs) A) (all_of P (always v ∷ rs) (None ∷ ls) (at p k)) (bodies (k + 1) vs) low refl (bodies_below size (k + 1) vs low)

  -- ---- each kind of rule

  choice_opened : (size n : ℕ) (vs : List Value) (P Q : RuleCode) (rs : List Reading) (ls : Locations) (p : Path) → rule_size P < size → rule_size Q < size
      → AreOpened size (one_tells p n vs (λ v. tells P (always v ∷ rs) (None ∷ ls) (at p 0)) (tells Q rs ls (at p 1))) (choice_works (taken n vs) P Q rs ls p)
  choice_opened size n [] P Q rs ls p low low' = one_opened size Q rs ls p 1 low'
  choice_opened size n (v ∷ vs) P Q rs ls p low low' = one_opened size P _ (None ∷ ls) p 0 low

  module _ (cut : ℕ) where
    abbrev to_spans : ℕ → Option Code → RuleCode → List Reading → Locations → Path → Option (List Work × ℕ)
    to_spans u c P rs ls p = Some (map (part_of (Forall u c P) rs ls p) (spans cut (length (universe_at shape u) - 0) 0 (length (universe_at shape u))), 0)

    forall_opened : (u : ℕ) (c : Option Code) (P : RuleCode) (rs : List Reading) (ls : Locations) (p : Path) (size : ℕ) → length (universe_at shape u) ≤ cut → rule_size P < size
        → AreOpened size (bodies_tell c P rs ls p 0 (universe_at shape u)) (span_works shape A cut u c P rs ls p 0 (length (universe_at shape u)))
    forall_opened u c P rs ls p size long low =
        let us = universe_at shape u in
        let short : nat_le (length us - 0) cut ≡ true = grind (arith, long) in
        let all : between 0 (length us) us ≡ us = between_all us in
        let same : span_works shape A cut u c P rs ls p 0 (length us) ≡ counted_works (bodies c P rs ls p 0 us) =
        ap (λ b. cond b (counted_works (bodies c P rs ls p 0 (between 0 (length us) us))) (to_spans u c P rs ls p)) short ∙ ap (λ vs. counted_works (bodies c P rs ls p 0 vs)) all in
        subst (AreOpened size (bodies_tell c P rs ls p 0 us)) (sym same) (bodies_opened c P rs ls p 0 us, bodies_below c P rs ls p size 0 us low)

-- ---- a rule, with the arguments that its pieces are given

module _ (shape : Shape) (turns : ℕ) (chosen : Path → ℕ) (l : Location) (A : State) (gs : List Value) where
  -- what gs is for its pieces
  abbrev pub given_for : RuleCode → List Reading → List Value
  given_for R rs = given_by R gs (λ to. optional_arguments shape to rs gs A)

  module _ (cut : ℕ) where
    pub rule_opened : (R : RuleCode) (rs : List Reading) (ls : Locations) (p : Path) → HasAtMost (all_positions shape R) cut
        → AreOpened shape turns chosen l A (given_for R rs) (rule_size R) (telling shape turns chosen R rs ls gs A p) (rule_works shape A chosen cut R rs ls p)
    unfolding telling
    rule_opened Skip rs ls p long = tt
    rule_opened (Assign to t) rs ls p long = tt
    rule_opened (Seq Ps) rs ls p long = tt
    rule_opened (Iterate P) rs ls p long = tt
    rule_opened (Par Ps) rs ls p long = (parts_opened shape turns chosen l A gs 0 Ps rs ls p, parts_below shape turns chosen l A gs (rule_size (Par Ps)) 0 Ps rs ls p (omega arith))
    rule_opened (If c P Q) rs ls p long =
        either_opened shape turns chosen l A gs (rule_size (If c P Q)) (is_true (reading shape c rs A)) (one_work P rs ls p 0) (one_work Q rs ls p 1)
        (telling shape turns chosen P rs ls gs A (at p 0)) (telling shape turns chosen Q rs ls gs A (at p 1))
        (one_opened shape turns chosen l A gs (rule_size (If c P Q)) P rs ls p 0 (omega arith)) (one_opened shape turns chosen l A gs (rule_size (If c P Q)) Q rs ls p 1 (omega arith))
    rule_opened (Let t P) rs ls p long = one_opened shape turns chosen l A gs (rule_size (Let t P)) P (always (reading shape t rs A) ∷ rs) (None ∷ ls) p 0 (omega arith)
    rule_opened (Forall u c P) rs ls p long = forall_opened shape turns chosen l A gs cut u c P rs ls p (rule_size (Forall u c P)) long (omega arith)
    rule_opened (Choose u c P Q) rs ls p long = choice_opened shape turns chosen l A gs (rule_size (Choose u c P Q)) (chosen p) (passing shape u c rs A) P Q rs ls p (omega arith) (omega arith)
    rule_opened (Call P to ts) rs ls p long = one_opened shape turns chosen l A (optional_arguments shape to rs gs A) (rule_size (Call P to ts)) P _ _ p 0 (omega arith)
