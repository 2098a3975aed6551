-- Free. Conditions: a chain of `and` has the value true if each of its operands has; `not` and `or`
-- by their operands.
use Rattle.std.proofs.Common.{◌≡◌, Bool, true, false, not, ◌&&◌, ◌||◌, List, [], ◌∷◌, map, refl, ap, ◌∙◌}
use Rattle.std.specs.List.{list_all}
use Rattle.asm_state.specs.declared.operation.Op.{Op}
use Rattle.asm_state.specs.declared.operation.Op.TheVariants.{Add, Subtract, Multiply, Divide, Remainder, Negate, Less, AtMost, Greater, AtLeast, Equal, Different, And, Or, Not}
use Rattle.asm_state.specs.declared.value.Value.{Value}
use Rattle.asm_state.specs.declared.value.Value.TheVariants.{Undef, Truth, Number, Element}
use Rattle.asm_state.specs.Location.{State}
use Rattle.asm_state.specs.Operation.{op}
use Rattle.asm_state.specs.Signature.{Shape}
use Rattle.asm_code.specs.code.CodeTree as tree
use Rattle.asm_code.specs.code.CodeViews.{code_of, link_of, links_of}
use Rattle.asm_code.specs.code.Readings.{chained, reading}
use Rattle.asm_eval.specs.code.AndChains.{is_and, is_and_operation, is_false}
use Rattle.asm_meaning.specs.Value.{Reading, is_true}
use Rattle.asm_code.specs.declared.code.Code.{Code}

-- `and` has the value true if both operands have
pub and_true : (v w : Value) → is_true (op And v w) ≡ (is_true v && is_true w)
and_true (Truth true) (Truth b) = refl
and_true (Truth true) Undef = refl
and_true (Truth true) (Number n) = refl
and_true (Truth true) (Element e) = refl
and_true (Truth false) (Truth b) = refl
and_true (Truth false) Undef = refl
and_true (Truth false) (Number n) = refl
and_true (Truth false) (Element e) = refl
and_true Undef w = refl
and_true (Number n) w = refl
and_true (Element e) w = refl

-- `not` has the value true if its operand is false
not_true : (v w : Value) → is_true (op Not v w) ≡ is_false v
not_true (Truth true) w = refl
not_true (Truth false) w = refl
not_true Undef w = refl
not_true (Number n) w = refl
not_true (Element e) w = refl

-- `or` by its left operand: if that one is false, if it is no truth value, and if it is true
pub or_false : (v w : Value) → is_false v ≡ true → is_true (op Or v w) ≡ is_true w
or_false (Truth false) (Truth b) is = refl
or_false (Truth false) Undef is = refl
or_false (Truth false) (Number n) is = refl
or_false (Truth false) (Element e) is = refl
or_false (Truth true) w is = absurd cc
or_false Undef w is = absurd cc
or_false (Number n) w is = absurd cc
or_false (Element e) w is = absurd cc

pub or_neither : (v w : Value) → is_false v ≡ false → is_true v ≡ false → is_true (op Or v w) ≡ false
or_neither (Truth false) w f t = absurd cc
or_neither (Truth true) w f t = absurd cc
or_neither Undef w f t = refl
or_neither (Number n) w f t = refl
or_neither (Element e) w f t = refl

pub or_true : (v w : Value) → is_true v ≡ true → is_true (op Or v w) ≡ (is_true w || is_false w)
or_true (Truth true) (Truth true) is = refl
or_true (Truth true) (Truth false) is = refl
or_true (Truth true) Undef is = refl
or_true (Truth true) (Number n) is = refl
or_true (Truth true) (Element e) is = refl
or_true (Truth false) w is = absurd cc
or_true Undef w is = absurd cc
or_true (Number n) w is = absurd cc
or_true (Element e) w is = absurd cc

-- a truth value is false if it isn't true
pub not_of : (b : Bool) (v : Value) → Truth b ≡ v → not b ≡ is_false v
not_of true v is = ap is_false is
not_of false v is = ap is_false is

is_and_is : (o : Op) → is_and_operation o ≡ true → o ≡ And
is_and_is And h = refl
is_and_is Add h = absurd cc
is_and_is Subtract h = absurd cc
is_and_is Multiply h = absurd cc
is_and_is Divide h = absurd cc
is_and_is Remainder h = absurd cc
is_and_is Negate h = absurd cc
is_and_is Less h = absurd cc
is_and_is AtMost h = absurd cc
is_and_is Greater h = absurd cc
is_and_is AtLeast h = absurd cc
is_and_is Equal h = absurd cc
is_and_is Different h = absurd cc
is_and_is Or h = absurd cc
is_and_is Not h = absurd cc

both_true : (a b : Bool) → (a && b) ≡ true → (a ≡ true) × (b ≡ true)
both_true true b h = (refl, h)
both_true false b h = absurd cc

and_further : (a b c : Bool) → ((a && b) && c) ≡ (a && (b && c))
and_further true b c = refl
and_further false b c = refl

and_itself : (a : Bool) → a ≡ (a && true)
and_itself true = refl
and_itself false = refl

module _ (shape : Shape) (rs : List Reading) (A : State) where
  abbrev pub holds_in : Op × Code → Bool
  holds_in l = is_true (reading shape (code_of l.1) rs A)

  pub ands_true : (links : List (Op × Code)) (v : Value) → list_all is_and links ≡ true
      → is_true (chained shape (links_of (map link_of links)) v rs A) ≡ (is_true v && list_all holds_in links)
  unfolding chained
  ands_true [] v h = and_itself (is_true v)
  ands_true (l ∷ links) v h =
      let parts = both_true (is_and_operation l.0) (list_all is_and links) h in
      ands_true links (op l.0 v (reading shape (code_of l.1) rs A)) parts.1
      ∙ ap (λ o. is_true (op o v (reading shape (code_of l.1) rs A)) && list_all holds_in links) (is_and_is l.0 parts.0)
      ∙ ap (λ b. b && list_all holds_in links) (and_true v (reading shape (code_of l.1) rs A))
      ∙ and_further (is_true v) (holds_in l) (list_all holds_in links)

  -- the whole chain
  pub chain_true : (t : tree.Code) (links : List (Op × Code)) → list_all is_and links ≡ true
      → is_true (reading shape (tree.Chain t (links_of (map link_of links))) rs A) ≡ (is_true (reading shape t rs A) && list_all holds_in links)
  unfolding reading
  chain_true t links h = ands_true links (reading shape t rs A) h

  pub both_and : (s t : tree.Code) → is_true (reading shape (tree.Both And s t) rs A) ≡ (is_true (reading shape s rs A) && is_true (reading shape t rs A))
  unfolding reading
  both_and s t = and_true (reading shape s rs A) (reading shape t rs A)

  pub not_holds : (t : tree.Code) (v : Value) → is_true (reading shape (tree.With Not t v) rs A) ≡ is_false (reading shape t rs A)
  unfolding reading
  not_holds t v = not_true (reading shape t rs A) v

  pub both_or : (s t : tree.Code) → is_true (reading shape (tree.Both Or s t) rs A) ≡ is_true (op Or (reading shape s rs A) (reading shape t rs A))
  unfolding reading
  both_or s t = refl
