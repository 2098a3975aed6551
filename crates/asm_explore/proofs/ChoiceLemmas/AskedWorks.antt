-- Free. What is asked in a rule is what its own `choose` asks, and what is asked in the works to
-- which it is opened.
--     work_asks, works_of     what is asked in a work; the works of what something is opened to
--     opened_asks             of a rule that isn't closed
--     closed_own              a rule that is closed asks nothing itself
--     works_fall              each of these works is of a smaller rule, and has all of it
use Rattle.std.proofs.Common.{◌++◌, ◌≡◌, ◌∙◌, ◌%◌, ◌+◌, ◌-◌, ◌<◌, ◌≤◌, ℕ, suc, Bool, true, false, cond, List, [], ◌∷◌, length, map, Option, Some, None, refl, sym, ap, arith, add-one, append-nil}
use Rattle.std.specs.Prelude.{nat_le, slice_index_or}
use Rattle.std.specs.List.{flat_map}
use Rattle.asm_state.specs.declared.value.Value.{Value}
use Rattle.asm_state.specs.Location.{State}
use Rattle.asm_state.specs.Signature.{Shape}
use Rattle.asm_meaning.specs.code.Intervals.{between}
use Rattle.asm_meaning.specs.Taken.{taken}
use Rattle.asm_meaning.specs.Value.{Reading, is_true}
use Rattle.asm_meaning.specs.Yields.{Path, at}
use Rattle.asm_eval.specs.declared.part.Part.TheVariants as part
use Rattle.asm_meaning.proofs.Intervals.{interval_laws-all as between_all}
use Rattle.asm_code.specs.code.BoundValues.{optional_arguments}
use Rattle.asm_code.specs.code.CodeTree.{Code}
use Rattle.asm_code.specs.code.Readings.{always, reading, universe_at}
use Rattle.asm_code.specs.code.RuleMeaning.{Locations, named_readings, optional_target_location, passes, passing, result_locations, result_readings, rule_size, rule_sizes}
use Rattle.asm_code.specs.code.RuleTree.{RuleCode, Skip, Assign, Par, Seq, If, Let, Forall, Choose, Iterate, Call, RuleCodes, no_rules, rule_then}
use Rattle.asm_eval.specs.code.OpenedPieces.{is_closed}
use Rattle.asm_eval.specs.code.Opening.{Work, all_of, one_work, choice_works, part_works, part_of, body_works, counted_works, spans, span_works, rule_works}
use Rattle.asm_eval.specs.code.Pieces.{HasAtMost, all_positions}
use Rattle.asm_meaning.specs.Program.{nothing_bound}
use Rattle.asm_meaning.specs.Story.{Story, Beside, Instance, parts_tell, each_tells, one_tells}
use Rattle.asm_code.specs.code.RuleStories.{telling, tellings}
use Rattle.asm_explore.specs.ChoicePoints.{Asking, asked}
use Rattle.asm_explore.specs.code.AskedRules.{asks}
use Rattle.asm_explore.specs.code.AskedPieces.{own_asks, own_choice}
use Rattle.asm_explore.specs.ListElements.{Each}
use Rattle.asm_explore.proofs.Elements.{each_weaker}
use Rattle.asm_explore.proofs.ChoiceLemmas.AskedGiven.{asked_given}

abbrev pub works_of : Option (List Work × ℕ) → List Work
works_of (Some (works, n)) = works
works_of None = []

short : (n cut : ℕ) → n ≤ cut → nat_le (n - 0) cut ≡ true
short n cut few = grind (arith, few)

-- ---- what is asked

module _ (shape : Shape) (turns : ℕ) (chosen : Path → ℕ) (A : State) where
  abbrev pub work_asks : Work → List Asking
  work_asks w = asks shape turns chosen w.rule w.readings w.locations A w.path

  abbrev pub all_ask : List Work → List Asking
  all_ask works = flat_map work_asks works

  module _ (rs : List Reading) (ls : Locations) (p : Path) where
    abbrev asks_here : RuleCode → Path → List Asking
    asks_here P q = asks shape turns chosen P rs ls A q

    one_asked : (P : RuleCode) (k : ℕ) → asks_here P (at p k) ≡ all_ask (works_of (one_work P rs ls p k))
    one_asked P k = sym (append-nil (asks_here P (at p k)))

    abbrev tells_here : RuleCode → Path → Story
    tells_here P q = telling shape turns chosen P rs ls [] A q

    either_asked : (b : Bool) (P Q : RuleCode) → asked (cond b (tells_here P (at p 0)) (tells_here Q (at p 1))) ≡ all_ask (works_of (cond b (one_work P rs ls p 0) (one_work Q rs ls p 1)))
    either_asked true P Q = one_asked P 0
    either_asked false P Q = one_asked Q 1

    parts_asked : (Ps : RuleCodes) (k : ℕ) → asked (parts_tell (tellings shape turns chosen Ps rs ls []) k A nothing_bound p) ≡ all_ask (part_works k Ps rs ls p)
    unfolding telling
    parts_asked no_rules k = refl
    parts_asked (rule_then P Ps) k =
        ap (λ more. asks_here P (at p k) ++ more) (parts_asked Ps (suc k) ∙ ap (λ n. all_ask (part_works n Ps rs ls p)) (sym (add-one k)))

    module _ (c : Option Code) (P : RuleCode) where
      abbrev body_tells : Value → ℕ → Story
      body_tells v k = telling shape turns chosen P (always v ∷ rs) (None ∷ ls) [] A (at p k)

      abbrev passing_now : Value → Bool
      passing_now v = passes shape c (always v ∷ rs) A

      body_asked : (b : Bool) (k : ℕ) (v : Value) (vs : List Value) (rest : Story) → asked rest ≡ all_ask (body_works shape A c P rs ls p (k + 1) vs)
          → asked (cond b (Beside (Instance (body_tells v k)) rest) rest)
          ≡ all_ask (cond b (all_of P (always v ∷ rs) (None ∷ ls) (at p k) ∷ body_works shape A c P rs ls p (k + 1) vs) (body_works shape A c P rs ls p (k + 1) vs))
      body_asked true k v vs rest is = ap (λ more. asked (body_tells v k) ++ more) is
      body_asked false k v vs rest is = is

      bodies_asked : (k : ℕ) (vs : List Value) → asked (each_tells body_tells passing_now k vs) ≡ all_ask (body_works shape A c P rs ls p k vs)
      bodies_asked k [] = refl
      bodies_asked k (v ∷ vs) =
          body_asked (passing_now v) k v vs (each_tells body_tells passing_now (suc k) vs)
          (bodies_asked (suc k) vs ∙ ap (λ n. all_ask (body_works shape A c P rs ls p n vs)) (sym (add-one k)))

      span_asked : (cut u : ℕ) → length (universe_at shape u) ≤ cut
          → asked (each_tells body_tells passing_now 0 (universe_at shape u)) ≡ all_ask (works_of (span_works shape A cut u c P rs ls p 0 (length (universe_at shape u))))
      span_asked cut u few =
          let vs = universe_at shape u in
          let to = length vs in
          bodies_asked 0 vs
          ∙ ap (λ ws. all_ask (body_works shape A c P rs ls p 0 ws)) (sym (between_all vs))
          ∙ ap (λ b. all_ask (works_of (cond b (counted_works (body_works shape A c P rs ls p 0 (between 0 to vs))) (Some (map (part_of (Forall u c P) rs ls p) (spans cut (to - 0) 0 to), 0))))) (sym (short to cut few))

    choice_asked : (n : ℕ) (vs : List Value) (P Q : RuleCode)
        → asked (one_tells p n vs (λ v. telling shape turns chosen P (always v ∷ rs) (None ∷ ls) [] A (at p 0)) (tells_here Q (at p 1)))
        ≡ own_choice p n vs ++ all_ask (works_of (choice_works (taken n vs) P Q rs ls p))
    choice_asked n [] P Q = one_asked Q 1
    choice_asked n (v ∷ vs) P Q =
        let k = n % length (v ∷ vs) in
        ap (λ (more : List Asking). record { choice = record { path = p; number = k }; candidates = v ∷ vs } ∷ more)
        (sym (append-nil (asks shape turns chosen P (always (slice_index_or (v ∷ vs) k v) ∷ rs) (None ∷ ls) A (at p 0))))

    pub opened_asks : (cut : ℕ) (R : RuleCode) → is_closed R ≡ false → HasAtMost (all_positions shape R) cut
        → asks shape turns chosen R rs ls A p ≡ own_asks shape chosen R rs A p ++ all_ask (works_of (rule_works shape A chosen cut R rs ls p))
    unfolding telling
    opened_asks cut Skip opens few = cc
    opened_asks cut (Assign to t) opens few = cc
    opened_asks cut (Seq Ps) opens few = cc
    opened_asks cut (Iterate P) opens few = cc
    opened_asks cut (Par Ps) opens few = parts_asked Ps 0
    opened_asks cut (If c P Q) opens few = either_asked (is_true (reading shape c rs A)) P Q
    opened_asks cut (Let t P) opens few = sym (append-nil _)
    opened_asks cut (Forall u c P) opens few = span_asked c P cut u few
    opened_asks cut (Choose u c P Q) opens few = choice_asked (chosen p) (passing shape u c rs A) P Q
    opened_asks cut (Call P to ts) opens few =
        let l = optional_target_location shape to rs ls A in
        asked_given shape turns chosen P (result_readings l ++ named_readings shape ts rs) (result_locations l) (optional_arguments shape to rs [] A) [] A (at p 0) ∙ sym (append-nil _)

-- a rule that is closed asks nothing itself
pub closed_own : (shape : Shape) (chosen : Path → ℕ) (R : RuleCode) (rs : List Reading) (A : State) (p : Path) → is_closed R ≡ true → own_asks shape chosen R rs A p ≡ []
closed_own shape chosen Skip rs A p is = refl
closed_own shape chosen (Assign to t) rs A p is = refl
closed_own shape chosen (Par Ps) rs A p is = refl
closed_own shape chosen (Seq Ps) rs A p is = refl
closed_own shape chosen (If c P Q) rs A p is = refl
closed_own shape chosen (Let t P) rs A p is = refl
closed_own shape chosen (Forall u c P) rs A p is = refl
closed_own shape chosen (Choose u c P Q) rs A p is = cc
closed_own shape chosen (Iterate P) rs A p is = refl
closed_own shape chosen (Call P to ts) rs A p is = refl

-- ---- the works are of smaller rules

pub record IsBelow (n : ℕ) (w : Work) : Type 0 where
  pub smaller : rule_size w.rule < n
  pub whole : w.part ≡ part.Whole

module _ (shape : Shape) (A : State) where
  above : (m n : ℕ) → m ≤ n → (works : List Work) → Each (IsBelow m) works → Each (IsBelow n) works
  above m n low = each_weaker (IsBelow m) (IsBelow n) (λ w h. let small = h.smaller in record { smaller = omega (arith, small, low); whole = h.whole })

  parts_fall : (rs : List Reading) (ls : Locations) (p : Path) (Ps : RuleCodes) (k : ℕ) → Each (IsBelow (1 + rule_sizes Ps)) (part_works k Ps rs ls p)
  parts_fall rs ls p no_rules k = tt
  parts_fall rs ls p (rule_then P Ps) k = (
    record { smaller = omega arith; whole = refl },
    above (1 + rule_sizes Ps) (1 + (rule_size P + rule_sizes Ps)) (omega arith) (part_works (k + 1) Ps rs ls p) (parts_fall rs ls p Ps (k + 1)),
  )

  either_fall : (n : ℕ) (b : Bool) (works : List Work) (w : Work) → IsBelow n w → Each (IsBelow n) works → Each (IsBelow n) (cond b (w ∷ works) works)
  either_fall n true works w h g = (h, g)
  either_fall n false works w h g = g

  bodies_fall : (rs : List Reading) (ls : Locations) (p : Path) (c : Option Code) (P : RuleCode) (k : ℕ) (vs : List Value)
      → Each (IsBelow (1 + rule_size P)) (body_works shape A c P rs ls p k vs)
  bodies_fall rs ls p c P k [] = tt
  bodies_fall rs ls p c P k (v ∷ vs) =
      either_fall (1 + rule_size P) (passes shape c (always v ∷ rs) A) (body_works shape A c P rs ls p (k + 1) vs) (all_of P (always v ∷ rs) (None ∷ ls) (at p k))
      (record { smaller = omega arith; whole = refl }) (bodies_fall rs ls p c P (k + 1) vs)

  span_fall : (rs : List Reading) (ls : Locations) (p : Path) (c : Option Code) (P : RuleCode) (u cut to : ℕ) (b : Bool) → nat_le (to - 0) cut ≡ b → to ≤ cut
      → Each (IsBelow (1 + rule_size P)) (works_of (cond b (counted_works (body_works shape A c P rs ls p 0 (between 0 to (universe_at shape u)))) (Some (map (part_of (Forall u c P) rs ls p) (spans cut (to - 0) 0 to), 0))))
  span_fall rs ls p c P u cut to true is few = bodies_fall rs ls p c P 0 (between 0 to (universe_at shape u))
  span_fall rs ls p c P u cut to false is few = let fits = short to cut few in cc

  one_of_two : (n : ℕ) (b : Bool) (v w : Work) → IsBelow n v → IsBelow n w → Each (IsBelow n) (works_of (cond b (Some (v ∷ [], 0)) (Some (w ∷ [], 0))))
  one_of_two n true v w h g = (h, tt)
  one_of_two n false v w h g = (g, tt)

  choice_fall : (rs : List Reading) (ls : Locations) (p : Path) (P Q : RuleCode) (o : Option Value)
      → Each (IsBelow (1 + (rule_size P + rule_size Q))) (works_of (choice_works o P Q rs ls p))
  choice_fall rs ls p P Q (Some v) = (record { smaller = omega arith; whole = refl }, tt)
  choice_fall rs ls p P Q None = (record { smaller = omega arith; whole = refl }, tt)

  pub works_fall : (chosen : Path → ℕ) (cut : ℕ) (R : RuleCode) (rs : List Reading) (ls : Locations) (p : Path) → HasAtMost (all_positions shape R) cut
      → Each (IsBelow (rule_size R)) (works_of (rule_works shape A chosen cut R rs ls p))
  works_fall chosen cut Skip rs ls p few = tt
  works_fall chosen cut (Assign to t) rs ls p few = tt
  works_fall chosen cut (Seq Ps) rs ls p few = tt
  works_fall chosen cut (Iterate P) rs ls p few = tt
  works_fall chosen cut (Par Ps) rs ls p few = parts_fall rs ls p Ps 0
  works_fall chosen cut (If c P Q) rs ls p few =
      one_of_two (1 + (rule_size P + rule_size Q)) (is_true (reading shape c rs A)) (all_of P rs ls (at p 0)) (all_of Q rs ls (at p 1))
      (record { smaller = omega arith; whole = refl }) (record { smaller = omega arith; whole = refl })
  works_fall chosen cut (Let t P) rs ls p few = (record { smaller = omega arith; whole = refl }, tt)
  works_fall chosen cut (Forall u c P) rs ls p few =
      let to = length (universe_at shape u) in
      span_fall rs ls p c P u cut to (nat_le (to - 0) cut) refl few
  works_fall chosen cut (Choose u c P Q) rs ls p few = choice_fall rs ls p P Q (taken (chosen p) (passing shape u c rs A))
  works_fall chosen cut (Call P to ts) rs ls p few = (record { smaller = omega arith; whole = refl }, tt)
