-- Free. Each step of the lanes' table keeps its rule.
use Rattle.std.proofs.Common.{◌≡◌, ◌≢◌, ℕ, zero, suc, ◌+◌, ◌-◌, ◌*◌, ◌/◌, ◌%◌, ◌<◌, ◌≤◌, ◌⊎◌, eqb, ltb, cond, List, [], ◌∷◌, ◌++◌, get_or, set, sym, refl, ap, ◌∙◌, subst, inl, inr, ⊎_elim, arith}
use mathlib.Core.Option.{none, some, some-injective, some-ne-none}
use lib.ListN.{get_elem?}
use Rattle.std.proofs.lemmas.Bool.{cases_lt, cases_eq, eq-eqb, ne_eqb, lt-ltb, le-ltb, le-leb}
use Rattle.std.proofs.lemmas.Bool.Decides.{nat_tests}
use Rattle.std.proofs.lemmas.List.{length-set, get_or-set_same, get_or-set_other}
use Rattle.std.proofs.Math.Nat.{mod-eq_of_lt, add-mul-mod_self_right, add-mul-div_right, div-add-mod', add_comm, div-eq_of_lt, add-zero, mul-le-mul_left}
use Rattle.atomic_table.specs.Table.{State, Me, step, keeps, Allows, Splits, Joins}
use Rattle.atomic_table.proofs.Lists.{at_set, at_snoc}
use Rattle.asm_pool.specs.declared.lanes.SeatView.{SeatView}
use Rattle.asm_pool.specs.code.WorkDone.{times}
use Rattle.asm_pool.specs.code.Lanes.{seat_view, total, past, IsLaneState, IsDrawn, HasDrawnAll}
use Rattle.asm_pool.proofs.Counting.{times-append}

pub total-set : (f : SeatView → ℕ) (views : List SeatView) (seat : ℕ) (v w : SeatView) → get_elem? views seat ≡ some v → total f (set views seat w) + f v ≡ total f views + f w
total-set f [] seat v w at = absurd (some-ne-none v (sym at))
total-set f (x ∷ xs) zero v w at = let same : f x ≡ f v = ap f (some-injective x v at) in omega arith
total-set f (x ∷ xs) (suc seat) v w at = let r = total-set f xs seat v w at in omega arith

pub total-snoc : (f : SeatView → ℕ) (views : List SeatView) (w : SeatView) → total f (views ++ w ∷ []) ≡ total f views + f w
total-snoc f [] w = omega arith
total-snoc f (x ∷ xs) w = let r = total-snoc f xs w in omega arith

pub total-le : (f g : SeatView → ℕ) (views : List SeatView) → ((seat : ℕ) (v : SeatView) → get_elem? views seat ≡ some v → f v ≤ g v) → total f views ≤ total g views
total-le f g [] each = omega arith
total-le f g (x ∷ xs) each = let here = each 0 x refl in let r = total-le f g xs (λ seat v at. each (suc seat) v at) in omega arith

pub part-le : (f : SeatView → ℕ) (views : List SeatView) (seat : ℕ) (v : SeatView) → get_elem? views seat ≡ some v → f v ≤ total f views
part-le f [] seat v at = absurd (some-ne-none v (sym at))
part-le f (x ∷ xs) zero v at = let same : f x ≡ f v = ap f (some-injective x v at) in omega arith
part-le f (x ∷ xs) (suc seat) v at = let r = part-le f xs seat v at in omega arith

pub total-zero : (f : SeatView → ℕ) (views : List SeatView) → ((seat : ℕ) (v : SeatView) → get_elem? views seat ≡ some v → f v ≡ 0) → total f views ≡ 0
total-zero f [] each = refl
total-zero f (x ∷ xs) each = let here = each 0 x refl in let r = total-zero f xs (λ seat v at. each (suc seat) v at) in omega arith

pub past-append : (lanes count lane : ℕ) (xs ys : List ℕ) → past lanes count lane (xs ++ ys) ≡ past lanes count lane xs + past lanes count lane ys
past-append lanes count lane [] ys = omega arith
past-append lanes count lane (x ∷ xs) ys = let r = past-append lanes count lane xs ys in omega arith

-- the lane and the number of what was drawn
pub lane-of : (lanes lane number : ℕ) → lane < lanes → (lane + number * lanes) % lanes ≡ lane
lane-of lanes lane number low = add-mul-mod_self_right lane number lanes ∙ mod-eq_of_lt low

pub number-of : (lanes lane number : ℕ) → lane < lanes → (lane + number * lanes) / lanes ≡ number
number-of lanes lane number low =
    let e : (lane + number * lanes) / lanes ≡ lane / lanes + number = add-mul-div_right lane number (omega arith) in
    let z : lane / lanes ≡ 0 = div-eq_of_lt low in omega arith

-- what is drawn is told by its lane and its number
pub same-draw : (lanes lane number t : ℕ) → t % lanes ≡ lane → t / lanes ≡ number → t ≡ lane + number * lanes
same-draw lanes lane number t of is = sym (div-add-mod' t lanes) ∙ ((λ i. is i * lanes + of i) ∙ add_comm (number * lanes) lane)

module _ (lanes count : ℕ) (words : List ℕ) (views : List SeatView) (dealt : IsLaneState lanes count words views) where
  pub low-word : lanes ≤ 32 → count ≤ 9223372036854775808 → (lane : ℕ) → get_or words lane 0 + 1 < 18446744073709551616
  low-word few small lane =
      let r = dealt.room lane in let t = total-le (λ v. past lanes count lane v.drawn) (λ v. v.parts) views (λ seat v at. dealt.ends seat v at lane) in let p = dealt.parts in omega arith

  module _ (seat lane : ℕ) (v : SeatView) (at : get_elem? views seat ≡ some v) (low : lane < lanes) where
    abbrev number : ℕ
    number = get_or words lane 0

    abbrev draw : ℕ
    draw = lane + number * lanes

    abbrev after : SeatView
    after = seat_view v.lanes v.parts (v.drawn ++ draw ∷ [])

    abbrev words' : List ℕ
    words' = set words lane (number + 1)

    abbrev views' : List SeatView
    views' = set views seat after

    word-here : get_or words' lane 0 ≡ number + 1
    word-here = get_or-set_same words lane (number + 1) 0 (let w = dealt.wide in omega arith)

    times-total : (t : ℕ) → total (λ u. times t u.drawn) views' ≡ total (λ u. times t u.drawn) views + cond (eqb draw t) 1 0
    times-total t = let r = total-set (λ u. times t u.drawn) views seat v after at in let s = times-append t v.drawn (draw ∷ []) in omega arith

    past-total : (l : ℕ) → total (λ u. past lanes count l u.drawn) views' ≡ total (λ u. past lanes count l u.drawn) views + past lanes count l (draw ∷ [])
    past-total l = let r = total-set (λ u. past lanes count l u.drawn) views seat v after at in let s = past-append lanes count l v.drawn (draw ∷ []) in omega arith

    own-once : (t : ℕ) → t % lanes ≡ lane → (t / lanes ≡ number) ⊎ (t / lanes ≢ number) → total (λ u. times t u.drawn) views + cond (eqb draw t) 1 0 ≡ cond (ltb (t / lanes) (number + 1)) 1 0
    own-once t of (inl is) = let hit = eq-eqb draw t (sym (same-draw lanes lane number t of is)) in
        let once : total (λ u. times t u.drawn) views ≡ cond (ltb (t / lanes) number) 1 0 = dealt.once t ∙ ap (λ (l : ℕ). cond (ltb (t / lanes) (get_or words l 0)) 1 0) of in
        let none = le-ltb (t / lanes) number (omega arith) in let next = lt-ltb (t / lanes) (number + 1) (omega arith) in
        rw (hit, next, once, none) refl
    own-once t of (inr other) = let miss = ne_eqb draw t (λ e. other (sym (ap (λ (k : ℕ). k / lanes) e) ∙ number-of lanes lane number low)) in
        let once : total (λ u. times t u.drawn) views ≡ cond (ltb (t / lanes) number) 1 0 = dealt.once t ∙ ap (λ (l : ℕ). cond (ltb (t / lanes) (get_or words l 0)) 1 0) of in
        rw (miss, once) (grind (arith, nat_tests, other))

    drawn-once-at : (t : ℕ) → (t % lanes ≡ lane) ⊎ (t % lanes ≢ lane) → total (λ u. times t u.drawn) views' ≡ cond (ltb (t / lanes) (get_or words' (t % lanes) 0)) 1 0
    drawn-once-at t (inl of) = times-total t ∙ (own-once t of (cases_eq (t / lanes) number) ∙ sym (ap (λ (n : ℕ). cond (ltb (t / lanes) n) 1 0) (ap (λ (l : ℕ). get_or words' l 0) of ∙ word-here)))
    drawn-once-at t (inr other) = let miss = ne_eqb draw t (λ e. other (sym (ap (λ (k : ℕ). k % lanes) e) ∙ lane-of lanes lane number low)) in
        times-total t ∙ (rw miss (add-zero (total (λ u. times t u.drawn) views)) ∙ (dealt.once t ∙ sym (ap (λ (n : ℕ). cond (ltb (t / lanes) n) 1 0) (get_or-set_other words lane (t % lanes) (number + 1) 0 other))))

    past-one : (l : ℕ) → l ≡ lane → count ≤ draw → past lanes count l (draw ∷ []) ≡ 1
    past-one l is long = let hit = eq-eqb (draw % lanes) l (lane-of lanes lane number low ∙ sym is) in let over = le-leb count draw long in rw (hit, over) refl

    past-none : (l : ℕ) → l ≢ lane → past lanes count l (draw ∷ []) ≡ 0
    past-none l other = let miss = ne_eqb (draw % lanes) l (λ e. other (sym e ∙ lane-of lanes lane number low)) in rw miss refl

    past-few : (t l : ℕ) → past lanes count l (t ∷ []) ≤ 1
    past-few t l = grind (arith, nat_tests)

    own-ends : past lanes count lane v.drawn < v.parts → (l : ℕ) → (l ≡ lane) ⊎ (l ≢ lane) → past lanes count l (v.drawn ++ draw ∷ []) ≤ v.parts
    own-ends part l (inl is) = let a = past-append lanes count l v.drawn (draw ∷ []) in let f = past-few draw l in let here : past lanes count l v.drawn ≡ past lanes count lane v.drawn = ap (λ (k : ℕ). past lanes count k v.drawn) is in omega arith
    own-ends part l (inr other) = let a = past-append lanes count l v.drawn (draw ∷ []) in let n = past-none l other in let e = dealt.ends seat v at l in omega arith

    drawn-room-at : (l : ℕ) → (l ≡ lane) ⊎ (l ≢ lane) → get_or words' l 0 ≤ count + total (λ u. past lanes count l u.drawn) views'
    drawn-room-at l (inl is) = ⊎_elim
        (λ (short : draw < count). let grow : number * 1 ≤ number * lanes = mul-le-mul_left number (omega arith) in let p = past-total l in
        let here : get_or words' l 0 ≡ number + 1 = ap (λ (k : ℕ). get_or words' k 0) is ∙ word-here in omega arith)
        (λ (long : count ≤ draw). let one = past-one l is long in let p = past-total l in let r = dealt.room lane in
        let here : get_or words' l 0 ≡ number + 1 = ap (λ (k : ℕ). get_or words' k 0) is ∙ word-here in
        let same : total (λ u. past lanes count l u.drawn) views ≡ total (λ u. past lanes count lane u.drawn) views = ap (λ (k : ℕ). total (λ u. past lanes count k u.drawn) views) is in omega arith)
        (cases_lt draw count)
    drawn-room-at l (inr other) = let p = past-total l in let r = dealt.room l in let same = get_or-set_other words lane l (number + 1) 0 other in omega arith

    pub drawn-dealt : past lanes count lane v.drawn < v.parts → IsLaneState lanes count words' views'
    drawn-dealt part = record {
      wide = length-set words lane (number + 1) ∙ dealt.wide;
      parts = let r = total-set (λ u. u.parts) views seat v after at in let p = dealt.parts in omega arith;
      once = λ t. drawn-once-at t (cases_eq (t % lanes) lane);
      ends = λ other u here l. ⊎_elim (λ (mine : (other ≡ seat) × (after ≡ u)). subst (λ (w : SeatView). past lanes count l w.drawn ≤ w.parts) mine.1 (own-ends part l (cases_eq l lane)))
          (λ (theirs : (other ≢ seat) × (get_elem? views other ≡ some u)). dealt.ends other u theirs.1 l) (at_set views seat other after u here);
      idle = λ other u here none. ⊎_elim (λ (mine : (other ≡ seat) × (after ≡ u)). let same : v.parts ≡ u.parts = ap (λ (w : SeatView). w.parts) mine.1 in absurd (omega arith))
          (λ (theirs : (other ≢ seat) × (get_elem? views other ≡ some u)). dealt.idle other u theirs.1 none) (at_set views seat other after u here);
      room = λ l. drawn-room-at l (cases_eq l lane);
    }

    -- what the seat had drawn there before
    pub lower : (t : ℕ) → 0 < times t v.drawn → t % lanes ≡ lane → t / lanes < number
    lower t some_t of =
        let part = part-le (λ u. times t u.drawn) views seat v at in
        let once : total (λ u. times t u.drawn) views ≡ cond (ltb (t / lanes) number) 1 0 = dealt.once t ∙ ap (λ (l : ℕ). cond (ltb (t / lanes) (get_or words l 0)) 1 0) of in
        grind (arith, nat_tests, part, once, some_t)

abbrev Rule : ℕ → ℕ → State (Unit {0}) SeatView → Type 0
Rule lanes count s = IsLaneState lanes count s.words s.views

pub draws : (lanes count slots seat lane : ℕ) (me : Me (Unit {0}) SeatView) → lanes ≤ 32 → count ≤ 9223372036854775808 → lane < lanes → me.0.lanes ≡ lanes → past lanes count lane me.0.drawn < me.0.parts
    → Allows (Rule lanes count) slots seat me lane (λ n. (n + 1) % 18446744073709551616) (IsDrawn (step slots lane 1 0 none) me)
draws lanes count slots seat lane me few small low own part s dealt width at fits =
    let k : ℕ = get_or s.words lane 0 in
    let plain : (k + 1) % 18446744073709551616 ≡ k + 1 = mod-eq_of_lt (low-word lanes count s.words s.views dealt few small lane) in (
      seat_view me.0.lanes me.0.parts (me.0.drawn ++ (lane + k * lanes) ∷ []),
      keeps,
      tt,
      subst (λ (n : ℕ). IsLaneState lanes count (set s.words lane n) (set s.views seat (seat_view me.0.lanes me.0.parts (me.0.drawn ++ (lane + k * lanes) ∷ [])))) (sym plain)
          (drawn-dealt lanes count s.words s.views dealt seat lane me.0 at low part),
      (
        ap (λ (n : ℕ). seat_view me.0.lanes me.0.parts (me.0.drawn ++ (lane + k * n) ∷ [])) (sym own),
        refl,
        λ t some_t of. subst (λ (n : ℕ). t / n < k) (sym own)
            (lower lanes count s.words s.views dealt seat lane me.0 at low t some_t (subst (λ (n : ℕ). t % n ≡ lane) own of)),
      ),
    )

-- half of the parts of a seat that has drawn nothing
module _ (lanes count : ℕ) (seat : ℕ) (v : SeatView) (blank : v.drawn ≡ []) (many : 1 < v.parts) where
  abbrev left : SeatView
  left = seat_view v.lanes (v.parts - v.parts / 2) v.drawn

  abbrev right : SeatView
  right = seat_view v.lanes (v.parts / 2) []

  module _ (words : List ℕ) (views : List SeatView) (dealt : IsLaneState lanes count words views) (at : get_elem? views seat ≡ some v) where
    abbrev halved : List SeatView
    halved = set views seat left ++ right ∷ []

    -- what depends on the drawn alone stays
    halved-total : (f : List ℕ → ℕ) → f [] ≡ 0 → total (λ u. f u.drawn) halved ≡ total (λ u. f u.drawn) views
    halved-total f blank_is = let a = total-snoc (λ u. f u.drawn) (set views seat left) right in let b = total-set (λ u. f u.drawn) views seat v left at in omega arith

    halved-at : (P : SeatView → Type 0) → P left → P right → ((u : SeatView) → (other : ℕ) → get_elem? views other ≡ some u → P u) → (other : ℕ) (u : SeatView) → get_elem? halved other ≡ some u → P u
    halved-at P here new old other u is = ⊎_elim (λ was. ⊎_elim (λ (mine : (other ≡ seat) × (left ≡ u)). subst P mine.1 here) (λ (theirs : (other ≢ seat) × (get_elem? views other ≡ some u)). old u other theirs.1) (at_set views seat other left u was))
        (λ (last : right ≡ u). subst P last new) (at_snoc (set views seat left) right u other is)

    pub halved-dealt : IsLaneState lanes count words halved
    halved-dealt = record {
      wide = dealt.wide;
      parts = let a = total-snoc (λ u. u.parts) (set views seat left) right in let b = total-set (λ u. u.parts) views seat v left at in let p = dealt.parts in omega arith;
      once = λ t. halved-total (times t) refl ∙ dealt.once t;
      ends = λ other u is l. halved-at (λ (w : SeatView). past lanes count l w.drawn ≤ w.parts) (let none : past lanes count l v.drawn ≡ 0 = ap (past lanes count l) blank in omega arith) (omega arith)
          (λ w o there. dealt.ends o w there l) other u is;
      idle = λ other u is none. halved-at (λ (w : SeatView). w.parts ≡ 0 → w.drawn ≡ []) (λ _. blank) (λ _. refl) (λ w o there zero_parts. dealt.idle o w there zero_parts) other u is none;
      room = λ l. subst (λ (n : ℕ). get_or words l 0 ≤ count + n) (sym (halved-total (past lanes count l) refl)) (dealt.room l);
    }

pub splits : (lanes count seat : ℕ) (v : SeatView) → v.drawn ≡ [] → 1 < v.parts → Splits {S = Unit {0}} (Rule lanes count) seat v (seat_view v.lanes (v.parts - v.parts / 2) v.drawn) (seat_view v.lanes (v.parts / 2) [])
splits lanes count seat v blank many s dealt at = halved-dealt lanes count seat v blank many s.words s.views dealt at

-- a seat takes in another
module _ (lanes count : ℕ) (seat : ℕ) (v : SeatView) (other : ℕ) (w : SeatView) (own : 0 < v.parts) where
  abbrev both : SeatView
  both = seat_view v.lanes (v.parts + w.parts) (v.drawn ++ w.drawn)

  abbrev spent : SeatView
  spent = seat_view 0 0 []

  module _ (words : List ℕ) (views : List SeatView) (dealt : IsLaneState lanes count words views) (at : get_elem? views seat ≡ some v) (apart : other ≢ seat) (there : get_elem? (set views seat both) other ≡ some w) where
    abbrev joined : List SeatView
    joined = set (set views seat both) other spent

    was-there : get_elem? views other ≡ some w
    was-there = ⊎_elim (λ (mine : (other ≡ seat) × (both ≡ w)). absurd (apart mine.0)) (λ (theirs : (other ≢ seat) × (get_elem? views other ≡ some w)). theirs.1) (at_set views seat other both w there)

    joined-total : (f : SeatView → ℕ) → f both ≡ f v + f w → f spent ≡ 0 → total f joined ≡ total f views
    joined-total f sum spent_is = let a = total-set f views seat v both at in let b = total-set f (set views seat both) other w spent there in omega arith

    joined-at : (P : SeatView → Type 0) → P both → P spent → ((u : SeatView) (o : ℕ) → get_elem? views o ≡ some u → P u) → (o : ℕ) (u : SeatView) → get_elem? joined o ≡ some u → P u
    joined-at P one gone old o u is = ⊎_elim (λ (mine : (o ≡ other) × (spent ≡ u)). subst P mine.1 gone)
        (λ (theirs : (o ≢ other) × (get_elem? (set views seat both) o ≡ some u)). ⊎_elim (λ (mine : (o ≡ seat) × (both ≡ u)). subst P mine.1 one)
        (λ (rest : (o ≢ seat) × (get_elem? views o ≡ some u)). old u o rest.1) (at_set views seat o both u theirs.1))
        (at_set (set views seat both) other o spent u is)

    pub joined-dealt : IsLaneState lanes count words joined
    joined-dealt = record {
      wide = dealt.wide;
      parts = joined-total (λ u. u.parts) refl refl ∙ dealt.parts;
      once = λ t. joined-total (λ u. times t u.drawn) (times-append t v.drawn w.drawn) refl ∙ dealt.once t;
      ends = λ o u is l. joined-at (λ (x : SeatView). past lanes count l x.drawn ≤ x.parts)
          (let a = past-append lanes count l v.drawn w.drawn in let b = dealt.ends seat v at l in let c = dealt.ends other w was-there l in omega arith) (omega arith) (λ x p there'. dealt.ends p x there' l) o u is;
      idle = λ o u is none. joined-at (λ (x : SeatView). x.parts ≡ 0 → x.drawn ≡ []) (λ zero_parts. absurd (omega arith)) (λ _. refl) (λ x p there' zero_parts. dealt.idle p x there' zero_parts) o u is none;
      room = λ l. subst (λ (n : ℕ). get_or words l 0 ≤ count + n) (sym (joined-total (λ u. past lanes count l u.drawn) (past-append lanes count l v.drawn w.drawn) refl)) (dealt.room l);
    }

pub joins : (lanes count seat : ℕ) (v : SeatView) (other : ℕ) (w : SeatView) → 0 < v.parts → Joins {S = Unit {0}} (Rule lanes count) seat v other w (seat_view v.lanes (v.parts + w.parts) (v.drawn ++ w.drawn)) (seat_view 0 0 [])
joins lanes count seat v other w own s dealt at apart there = joined-dealt lanes count seat v other w own s.words s.views dealt at apart there

-- the seat that is left has drawn all that was drawn
module _ (lanes count : ℕ) (words : List ℕ) (views : List SeatView) (dealt : IsLaneState lanes count words views) (seat : ℕ) (v : SeatView) (at : get_elem? views seat ≡ some v) (all : v.parts ≡ lanes) where
  abbrev others : List SeatView
  others = set views seat (seat_view 0 0 [])

  no-parts : total (λ u. u.parts) others ≡ 0
  no-parts = let r = total-set (λ u. u.parts) views seat v (seat_view 0 0 []) at in let p = dealt.parts in omega arith

  no-draws : (t other : ℕ) (u : SeatView) → get_elem? others other ≡ some u → times t u.drawn ≡ 0
  no-draws t other u is = ⊎_elim (λ (mine : (other ≡ seat) × (seat_view 0 0 [] ≡ u)). sym (ap (λ (w : SeatView). times t w.drawn) mine.1))
      (λ (theirs : (other ≢ seat) × (get_elem? views other ≡ some u)). let part = part-le (λ w. w.parts) others other u is in let p = no-parts in ap (times t) (dealt.idle other u theirs.1 (omega arith)))
      (at_set views seat other (seat_view 0 0 []) u is)

  pub sole : HasDrawnAll lanes v.drawn
  sole = (
    words,
    λ t. (let r = total-set (λ u. times t u.drawn) views seat v (seat_view 0 0 []) at in let z = total-zero (λ u. times t u.drawn) others (no-draws t) in
        let same : times t v.drawn ≡ total (λ u. times t u.drawn) views = omega arith in same) ∙ dealt.once t,
  )
