-- Definition. How deep tokens nest.
use Rattle.std.specs.Prelude.{ℕ, zero, suc, Bool, true, false, if◌then◌else◌, List, [], ◌∷◌, Option, Some, None, option_and_then}
use Rattle.asm_syntax.specs.declared.token.Kind.{Kind}
use Rattle.asm_syntax.specs.declared.token.Kind.TheVariants.{Symbol, Keyword}
use Rattle.asm_syntax.specs.declared.token.Symbol.TheVariants as symbols
use Rattle.asm_syntax.specs.declared.token.Keyword.TheVariants as words
use Rattle.asm_syntax.specs.declared.token.Token.{Token}
use Rattle.asm_reader.specs.Kinds.{alike, is_one_of}

-- the rules with an end word, and parentheses
abbrev pub openers : List Kind
openers = Symbol symbols.Open ∷ Keyword words.Par ∷ Keyword words.Seq ∷ Keyword words.If ∷ Keyword words.Let ∷ Keyword words.Forall ∷ Keyword words.Choose ∷ Keyword words.Iterate ∷ Keyword words.While ∷ []

abbrev pub closers : List Kind
closers = Symbol symbols.Close ∷ Keyword words.EndPar ∷ Keyword words.EndSeq ∷ Keyword words.EndIf ∷ Keyword words.EndLet ∷ Keyword words.EndForall ∷ Keyword words.EndChoose ∷ Keyword words.EndIterate ∷ Keyword words.EndWhile ∷ []

-- how many more levels may open, or none if one too many did, and whether the last token is `(`
pub record Depth : Type 0 where
  pub left : Option ℕ
  pub in_front : Bool

abbrev pub less_one : ℕ → Option ℕ
less_one zero = None
less_one (suc n) = Some n

-- `forall` after a `(` is that of a term, which has no end word
abbrev pub opens_by : (opening : List Kind) → Bool → Kind → Bool
opens_by opening true k = if alike (Keyword words.Forall) k then false else is_one_of opening k
opens_by opening false k = is_one_of opening k

-- when the one kinds open levels, and the others close them
module _ (opening closing : List Kind) where
  abbrev pub after_token_by : Depth → Token → Depth
  after_token_by d t = record {
    left = if opens_by opening d.in_front t.kind then option_and_then less_one d.left else (if is_one_of closing t.kind then option_and_then (λ n. Some (suc n)) d.left else d.left);
    in_front = alike (Symbol symbols.Open) t.kind;
  }

  abbrev pub depth_by : Depth → List Token → Depth
  depth_by d [] = d
  depth_by d (t ∷ ts) = depth_by (after_token_by d t) ts

abbrev pub opens : Bool → Kind → Bool
opens = opens_by openers

abbrev pub after_token : Depth → Token → Depth
after_token = after_token_by openers closers

abbrev pub depth_after : Depth → List Token → Depth
depth_after = depth_by openers closers

-- n more levels may open, after a token that is no `(`
abbrev pub at_depth : ℕ → Depth
at_depth n = record { left = Some n; in_front = false }
