-- Free. What decides chains, negations and quantifiers.
use Rattle.std.proofs.Common.{◌≡◌, Bool, true, false, cond, not, ◌&&◌, ◌||◌, List, [], ◌∷◌, Some, refl, sym, ap, ◌∙◌}
use Rattle.std.specs.Prelude.{find}
use Rattle.std.specs.List.{list_all, list_any}
use Rattle.asm_state.specs.declared.operation.Op.{Op}
use Rattle.asm_state.specs.declared.operation.Op.TheVariants as op_is
use Rattle.asm_state.specs.declared.value.Value.{Value}
use Rattle.asm_state.specs.declared.value.Value.TheVariants.{Undef, Truth, Number, Element}
use Rattle.asm_state.specs.Operation.{op}
use Rattle.asm_explore_because.specs.Parts.{is_boolean, is_truth, fails_with, decides_with, is_decisive}

-- ---- values

-- what decides fails
pub decided_fails : (w strictly : Bool) (v : Value) → decides_with w v ≡ true → (strictly && not (is_boolean v)) ≡ false → fails_with w strictly v ≡ true
decided_fails true false v is boolean = is
decided_fails false false Undef is boolean = cc
decided_fails false false (Truth true) is boolean = refl
decided_fails false false (Truth false) is boolean = cc
decided_fails false false (Number n) is boolean = cc
decided_fails false false (Element e) is boolean = cc
decided_fails true true Undef is boolean = cc
decided_fails true true (Truth b) is boolean = is
decided_fails true true (Number n) is boolean = cc
decided_fails true true (Element e) is boolean = cc
decided_fails false true v is boolean = is

-- of a truth value it is the same
pub strictly_fails : (w : Bool) (v : Value) → is_boolean v ≡ true → fails_with w true v ≡ fails_with w false v
strictly_fails true Undef boolean = cc
strictly_fails true (Truth true) boolean = refl
strictly_fails true (Truth false) boolean = refl
strictly_fails true (Number n) boolean = cc
strictly_fails true (Element e) boolean = cc
strictly_fails false Undef boolean = cc
strictly_fails false (Truth true) boolean = refl
strictly_fails false (Truth false) boolean = refl
strictly_fails false (Number n) boolean = cc
strictly_fails false (Element e) boolean = cc

pub weaker : (w strictly : Bool) (v : Value) → fails_with w strictly v ≡ true → fails_with w false v ≡ true
weaker w false v it = it
weaker true true Undef it = cc
weaker true true (Truth true) it = cc
weaker true true (Truth false) it = refl
weaker true true (Number n) it = cc
weaker true true (Element e) it = cc
weaker false true Undef it = cc
weaker false true (Truth true) it = refl
weaker false true (Truth false) it = cc
weaker false true (Number n) it = cc
weaker false true (Element e) it = cc

pub negation_fails : (w strictly : Bool) (v : Value) → fails_with w strictly (op op_is.Not v Undef) ≡ fails_with (not w) strictly v
negation_fails true false Undef = refl
negation_fails true false (Truth true) = refl
negation_fails true false (Truth false) = refl
negation_fails true false (Number n) = refl
negation_fails true false (Element e) = refl
negation_fails true true Undef = refl
negation_fails true true (Truth true) = refl
negation_fails true true (Truth false) = refl
negation_fails true true (Number n) = refl
negation_fails true true (Element e) = refl
negation_fails false false Undef = refl
negation_fails false false (Truth true) = refl
negation_fails false false (Truth false) = refl
negation_fails false false (Number n) = refl
negation_fails false false (Element e) = refl
negation_fails false true Undef = refl
negation_fails false true (Truth true) = refl
negation_fails false true (Truth false) = refl
negation_fails false true (Number n) = refl
negation_fails false true (Element e) = refl

pub every_fails : (strictly b : Bool) → b ≡ false → fails_with true strictly (Truth b) ≡ true
every_fails true true is = cc
every_fails true false is = refl
every_fails false true is = cc
every_fails false false is = refl

pub exists_fails : (strictly b : Bool) → b ≡ true → fails_with false strictly (Truth b) ≡ true
exists_fails true true is = refl
exists_fails true false is = cc
exists_fails false true is = refl
exists_fails false false is = cc

-- ---- operations of which one operand decides

abbrev pub Joins : (Value → Bool) → Op → Type 0
Joins h o = (v w : Value) → h (op o v w) ≡ (h v && h w)

false_beside : (b : Bool) → false ≡ (b && false)
false_beside true = refl
false_beside false = refl

and_truth : Joins (is_truth true) op_is.And
and_truth (Truth true) (Truth q) = refl
and_truth (Truth false) (Truth q) = refl
and_truth (Truth p) Undef = false_beside p
and_truth (Truth p) (Number n) = false_beside p
and_truth (Truth p) (Element e) = false_beside p
and_truth Undef w = refl
and_truth (Number n) w = refl
and_truth (Element e) w = refl

or_falsity : Joins (is_truth false) op_is.Or
or_falsity (Truth true) (Truth q) = refl
or_falsity (Truth false) (Truth q) = refl
or_falsity (Truth p) Undef = false_beside (not p)
or_falsity (Truth p) (Number n) = false_beside (not p)
or_falsity (Truth p) (Element e) = false_beside (not p)
or_falsity Undef w = refl
or_falsity (Number n) w = refl
or_falsity (Element e) w = refl

and_boolean : Joins is_boolean op_is.And
and_boolean (Truth p) (Truth q) = refl
and_boolean (Truth p) Undef = refl
and_boolean (Truth p) (Number n) = refl
and_boolean (Truth p) (Element e) = refl
and_boolean Undef w = refl
and_boolean (Number n) w = refl
and_boolean (Element e) w = refl

or_boolean : Joins is_boolean op_is.Or
or_boolean (Truth p) (Truth q) = refl
or_boolean (Truth p) Undef = refl
or_boolean (Truth p) (Number n) = refl
or_boolean (Truth p) (Element e) = refl
or_boolean Undef w = refl
or_boolean (Number n) w = refl
or_boolean (Element e) w = refl

-- whether it has the truth value that is wanted
pub joins_truth : (w : Bool) (o : Op) → is_decisive w o ≡ true → Joins (is_truth w) o
joins_truth true op_is.And is = and_truth
joins_truth false op_is.Or is = or_falsity
joins_truth w o is = cc

pub joins_boolean : (w : Bool) (o : Op) → is_decisive w o ≡ true → Joins is_boolean o
joins_boolean true op_is.And is = and_boolean
joins_boolean false op_is.Or is = or_boolean
joins_boolean w o is = cc

-- ---- what is found

pub found_passes : {X : Type 0} (p : X → Bool) (xs : List X) (x : X) → find p xs ≡ Some x → p x ≡ true
found_passes p [] x is = cc
found_passes p (y ∷ ys) x is = first (found_passes p ys x) (p y) refl is
  where
    first : (find p ys ≡ Some x → p x ≡ true) → (b : Bool) → p y ≡ b → cond b (Some y) (find p ys) ≡ Some x → p x ≡ true
    first rest true at found = let same : y ≡ x = cc in ap p (sym same) ∙ at
    first rest false at found = rest found

all_but : (b c : Bool) → c ≡ false → (b && c) ≡ false
all_but true c is = is
all_but false c is = refl

one_more : (b c : Bool) → c ≡ true → (b || c) ≡ true
one_more true c is = refl
one_more false c is = is

-- what isn't so of it isn't so of all
pub found_counts : {X : Type 0} (p h : X → Bool) (xs : List X) (x : X) → find p xs ≡ Some x → h x ≡ false → list_all h xs ≡ false
found_counts p h [] x is not_so = cc
found_counts p h (y ∷ ys) x is not_so = first (λ found. found_counts p h ys x found not_so) (p y) is
  where
    first : (find p ys ≡ Some x → list_all h ys ≡ false) → (b : Bool) → cond b (Some y) (find p ys) ≡ Some x → (h y && list_all h ys) ≡ false
    first rest true found = let same : y ≡ x = cc in ap (λ z. h z && list_all h ys) same ∙ ap (λ b. b && list_all h ys) not_so
    first rest false found = all_but (h y) (list_all h ys) (rest found)

-- and what is so of it is so of one
pub found_is_one : {X : Type 0} (p h : X → Bool) (xs : List X) (x : X) → find p xs ≡ Some x → h x ≡ true → list_any h xs ≡ true
found_is_one p h [] x is so = cc
found_is_one p h (y ∷ ys) x is so = first (λ found. found_is_one p h ys x found so) (p y) is
  where
    first : (find p ys ≡ Some x → list_any h ys ≡ true) → (b : Bool) → cond b (Some y) (find p ys) ≡ Some x → (h y || list_any h ys) ≡ true
    first rest true found = let same : y ≡ x = cc in ap (λ z. h z || list_any h ys) same ∙ ap (λ b. b || list_any h ys) so
    first rest false found = one_more (h y) (list_any h ys) (rest found)

-- what is so of all is so of it
pub found_has : {X : Type 0} (p h : X → Bool) (xs : List X) (x : X) → find p xs ≡ Some x → list_all h xs ≡ true → h x ≡ true
found_has p h xs x is all = settled (h x) refl
  where
    settled : (b : Bool) → h x ≡ b → b ≡ true
    settled true at = refl
    settled false at = let none : list_all h xs ≡ false = found_counts p h xs x is at in cc
