-- Free. What several writes in a row do to the known bytes of standard error.
use Rattle.std.proofs.Common.{ℕ, ◌+◌, List, ◌++◌, Option, None, Some, length, take, ap, sym, subst, ◌∙◌, append_assoc, length-append, arith}
use Rattle.std.proofs.Math.Seq.{take-append-add}
use Rattle.std.proofs.lemmas.List.{take-append-le}
use Rattle.std.specs.Io.KnownBytes.{Appends}
use Rattle.asm_run.specs.Sink.{AppendsFront}

-- one text after another
pub Appends-trans : (a b c : Option (List ℕ)) (xs ys : List ℕ) → Appends a b xs → Appends b c ys → Appends a c (xs ++ ys)
Appends-trans None b c xs ys p q = tt
Appends-trans (Some x) None c xs ys p q = absurd p
Appends-trans (Some x) (Some y) None xs ys p q = absurd q
Appends-trans (Some x) (Some y) (Some z) xs ys p q = q ∙ ap (λ l. l ++ ys) p ∙ append_assoc x xs ys

-- a text, and then the front of another
pub Appends-front : (a b c : Option (List ℕ)) (xs ys : List ℕ) → Appends a b xs → AppendsFront b c ys → AppendsFront a c (xs ++ ys)
Appends-front a b c xs ys p q = record {
  count = length xs + q.count;
  less = omega (arith, length-append xs ys);
  bytes = subst (Appends a c) (sym (take-append-add xs ys q.count)) (Appends-trans a b c xs (take q.count ys) p q.bytes);
}

-- the front of a text is one of any longer text
pub AppendsFront-longer : (a b : Option (List ℕ)) (xs ys : List ℕ) → AppendsFront a b xs → AppendsFront a b (xs ++ ys)
AppendsFront-longer a b xs ys p = record {
  count = p.count;
  less = omega (arith, length-append xs ys);
  bytes = subst (Appends a b) (sym (take-append-le p.count xs ys (omega arith))) p.bytes;
}

-- what a tactic needs for several writes in a row
pub ruleset appending = (Appends-trans, Appends-front, AppendsFront-longer)
