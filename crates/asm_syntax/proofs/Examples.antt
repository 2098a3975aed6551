-- Law. Examples of texts with their tokens, and of texts with their first fault.
use Rattle.std.proofs.Common.{ℕ, ◌<◌, List, [], ◌∷◌, length, Ok, Err, refl}
use Rattle.std.specs.Prelude.{codes}
use Rattle.asm_syntax.specs.declared.token.Kind.{Kind}
use Rattle.asm_syntax.specs.declared.token.Kind.TheVariants.{Name, Number, Symbol, Keyword}
use Rattle.asm_syntax.specs.declared.token.Symbol.TheVariants.{Assign, Less, LeftArrow, Minus, Dots}
use Rattle.asm_syntax.specs.declared.token.Keyword.TheVariants.{Par, While}
use Rattle.asm_syntax.specs.declared.token.Token.{Token}
use Rattle.asm_syntax.specs.declared.error.LexError.TheVariants.{TooLong, BadByte, OpenComment, BadNumber}
use Rattle.asm_syntax.specs.Tokens.{AreTokens, IsFault}
use Rattle.asm_syntax.proofs.EachText.{answers}

abbrev token : Kind → ℕ → ℕ → Token
token k i j = record { kind = k; start = i; end = j }

-- ---- tokens

no_byte : AreTokens (codes "") []
no_byte = answers (codes "") (Ok []) refl

longest_symbol : AreTokens (codes "x:=1") (token Name 0 1 ∷ token (Symbol Assign) 1 3 ∷ token (Number 1) 3 4 ∷ [])
longest_symbol = answers (codes "x:=1") (Ok _) refl

arrow_to_the_left : AreTokens (codes "a<-1") (token Name 0 1 ∷ token (Symbol LeftArrow) 1 3 ∷ token (Number 1) 3 4 ∷ [])
arrow_to_the_left = answers (codes "a<-1") (Ok _) refl

less_than_a_negative : AreTokens (codes "a < -1") (token Name 0 1 ∷ token (Symbol Less) 2 3 ∷ token (Symbol Minus) 4 5 ∷ token (Number 1) 5 6 ∷ [])
less_than_a_negative = answers (codes "a < -1") (Ok _) refl

range : AreTokens (codes "0..3") (token (Number 0) 0 1 ∷ token (Symbol Dots) 1 3 ∷ token (Number 3) 3 4 ∷ [])
range = answers (codes "0..3") (Ok _) refl

words_and_names : AreTokens (codes "while par1 _par Par par") (token (Keyword While) 0 5 ∷ token Name 6 10 ∷ token Name 11 15 ∷ token Name 16 19 ∷ token (Keyword Par) 20 23 ∷ [])
words_and_names = answers (codes "while par1 _par Par par") (Ok _) refl

leading_zeros : AreTokens (codes "007") (token (Number 7) 0 3 ∷ [])
leading_zeros = answers (codes "007") (Ok _) refl

greatest_number : AreTokens (codes "100000000000000000") (token (Number 100_000_000_000_000_000) 0 18 ∷ [])
greatest_number = answers (codes "100000000000000000") (Ok _) refl

comments_between : AreTokens (codes "x// $ /*\ny/* /* 1a $ */z//") (token Name 0 1 ∷ token Name 9 10 ∷ token Name 23 24 ∷ [])
comments_between = answers (codes "x// $ /*\ny/* /* 1a $ */z//") (Ok _) refl

-- ---- faults

too_long : (text : List ℕ) → 1_048_576 < length text → IsFault text TooLong
too_long text long = long

no_token_begins : IsFault (codes "CoreASM T$") (BadByte 9)
no_token_begins = answers (codes "CoreASM T$") (Err (BadByte 9)) refl

mark_alone : IsFault (codes "a ! b") (BadByte 2)
mark_alone = answers (codes "a ! b") (Err (BadByte 2)) refl

dot_alone : IsFault (codes "a . b") (BadByte 2)
dot_alone = answers (codes "a . b") (Err (BadByte 2)) refl

slash_alone : IsFault (codes "a / b") (BadByte 2)
slash_alone = answers (codes "a / b") (Err (BadByte 2)) refl

unclosed : IsFault (codes "CoreASM T /*") (OpenComment 10)
unclosed = answers (codes "CoreASM T /*") (Err (OpenComment 10)) refl

closed_by_itself : IsFault (codes "/*/") (OpenComment 0)
closed_by_itself = answers (codes "/*/") (Err (OpenComment 0)) refl

too_great : IsFault (codes "x := 100000000000000001") (BadNumber 5)
too_great = answers (codes "x := 100000000000000001") (Err (BadNumber 5)) refl

letter_behind : IsFault (codes "x := 12a") (BadNumber 5)
letter_behind = answers (codes "x := 12a") (Err (BadNumber 5)) refl

first_of_two : IsFault (codes "1_ $") (BadNumber 0)
first_of_two = answers (codes "1_ $") (Err (BadNumber 0)) refl
