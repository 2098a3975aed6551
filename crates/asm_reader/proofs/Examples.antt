-- Law. Examples of scripts, of trees, and of what is refused.
use Rattle.std.proofs.Common.{◌≡◌, ℕ, zero, suc, ◌+◌, ◌<◌, List, [], ◌∷◌, ◌++◌, length, Some, None, Ok, Err, refl}
use Rattle.std.specs.Prelude.{codes}
use Rattle.asm_state.specs.declared.operation.Op.TheVariants.{Add, Subtract, Multiply}
use Rattle.asm_syntax.specs.declared.token.Kind.{Kind}
use Rattle.asm_syntax.specs.declared.token.Kind.TheVariants as kind
use Rattle.asm_syntax.specs.declared.token.Kind.TheVariants.{Symbol, Keyword}
use Rattle.asm_syntax.specs.declared.token.Symbol.TheVariants as symbols
use Rattle.asm_syntax.specs.declared.token.Keyword.TheVariants as words
use Rattle.asm_syntax.specs.declared.token.Token.{Token}
use Rattle.asm_syntax.specs.SourceTree as source
use Rattle.asm_reader.specs.declared.error.ReadError.TheVariants.{Unexpected, UnexpectedEnd, TooDeep}
use Rattle.asm_reader.specs.declared.script_error.ScriptError.TheVariants.{BadLine, Repeated, TooLong}
use Rattle.asm_reader.specs.ScriptLines.{Line, EveryLine, ForStep, ForEvery, Script, no_lines, pick}
use Rattle.asm_reader.specs.ScriptText.{line_of, IsScript, IsScriptRefusal}
use Rattle.asm_reader.specs.Specification.{AreSpelling}
use Rattle.asm_reader.specs.Refusals.{IsUnexpected, IsUnexpectedEnd, IsTooDeep}
use Rattle.asm_reader.specs.code.Steps.{turns}
use Rattle.asm_reader.specs.code.TermReading.{name_at, result_at, result_term_at, arguments_at, applied_at, parenthesized_at, primary_at, factor_at, product_at, sum_at, comparison_at, negation_at, conjunction_at, disjunction_at, inner_at, term_at}
use Rattle.asm_reader.specs.code.RuleReading.{skip_at, named_rule_at, result_rule_at, par_at, iterate_at, while_at, block_at, rule_over_at, rule_at}
use Rattle.asm_reader.specs.code.Reading.{parameters_at, rule_item_at, item_at, specification_at}
use Rattle.asm_reader.proofs.ScriptLemmas.EachScript.{answers as script_answers}
use Rattle.asm_reader.proofs.EachText.{answers}

-- ---- lines of scripts

abbrev line : ℕ → List ℕ → ℕ → Line
line i p k = record { step = i; path = p; choice = k }

abbrev line_for_every : List ℕ → ℕ → EveryLine
line_for_every p k = record { path = p; choice = k }

three_fields : line_of (codes "12 0.3 7") ≡ Some (ForStep (line 12 (0 ∷ 3 ∷ []) 7))
three_fields = refl

no_number_in_the_path : line_of (codes "1 - 0") ≡ Some (ForStep (line 1 [] 0))
no_number_in_the_path = refl

zeros_change_nothing : line_of (codes "01 00.1 007") ≡ Some (ForStep (line 1 (0 ∷ 1 ∷ []) 7))
zeros_change_nothing = refl

nine_digits : line_of (codes "1 - 999999999") ≡ Some (ForStep (line 1 [] 999_999_999))
nine_digits = refl

ten_digits : line_of (codes "1 - 0000000001") ≡ None
ten_digits = refl

step_zero : line_of (codes "0 - 1") ≡ None
step_zero = refl

two_spaces : line_of (codes "1  - 2") ≡ None
two_spaces = refl

dot_at_the_end : line_of (codes "1 1. 2") ≡ None
dot_at_the_end = refl

star : line_of (codes "* 0.3 7") ≡ Some (ForEvery (line_for_every (0 ∷ 3 ∷ []) 7))
star = refl

two_stars : line_of (codes "** - 1") ≡ None
two_stars = refl

star_and_a_number : line_of (codes "*1 - 1") ≡ None
star_and_a_number = refl

two_fields : line_of (codes "1 -") ≡ None
two_fields = refl

-- ---- scripts

abbrev text_of_four : List ℕ
text_of_four = codes "1 0.0 4\n1 3.0 2\r\n# 1 1.1 9\n\n1 1.1 1\n2 - 1"

abbrev four_lines : Script
four_lines = record { exact = line 1 (0 ∷ 0 ∷ []) 4 ∷ line 1 (3 ∷ 0 ∷ []) 2 ∷ line 1 (1 ∷ 1 ∷ []) 1 ∷ line 2 [] 1 ∷ []; every = [] }

good_script : IsScript text_of_four four_lines
good_script = script_answers text_of_four (Ok four_lines) refl

at_a_step_and_path : pick four_lines 1 (3 ∷ 0 ∷ []) ≡ 2
at_a_step_and_path = refl

at_a_path_of_another_step : pick four_lines 2 (1 ∷ 1 ∷ []) ≡ 0
at_a_path_of_another_step = refl

no_line : IsScript (codes "") no_lines
no_line = script_answers (codes "") (Ok no_lines) refl

skipped_lines : IsScript (codes "\n# 0 - 1\n\n") no_lines
skipped_lines = script_answers (codes "\n# 0 - 1\n\n") (Ok no_lines) refl

-- a line for every step, and one for step 2
abbrev star_and_step : Script
star_and_step = record { exact = line 2 [] 2 ∷ []; every = line_for_every [] 1 ∷ [] }

star_then_a_step : IsScript (codes "* - 1\n2 - 2\n") star_and_step
star_then_a_step = script_answers (codes "* - 1\n2 - 2\n") (Ok star_and_step) refl

step_then_a_star : IsScript (codes "2 - 2\n* - 1\n") star_and_step
step_then_a_star = script_answers (codes "2 - 2\n* - 1\n") (Ok star_and_step) refl

before_its_step : pick star_and_step 1 [] ≡ 1
before_its_step = refl

at_its_step : pick star_and_step 2 [] ≡ 2
at_its_step = refl

behind_its_step : pick star_and_step 3 [] ≡ 1
behind_its_step = refl

at_another_path : pick star_and_step 2 (0 ∷ []) ≡ 0
at_another_path = refl

-- a line for a step holds in it, even if it says the same
star_beside_step_one : IsScript (codes "* - 1\n1 - 1") (record { exact = line 1 [] 1 ∷ []; every = line_for_every [] 1 ∷ [] })
star_beside_step_one = script_answers (codes "* - 1\n1 - 1") (Ok _) refl

step_one_beside_star : IsScript (codes "1 - 1\n* - 1") (record { exact = line 1 [] 1 ∷ []; every = line_for_every [] 1 ∷ [] })
step_one_beside_star = script_answers (codes "1 - 1\n* - 1") (Ok _) refl

star_repeated : IsScriptRefusal (codes "* - 1\n* - 2") (Repeated 2)
star_repeated = script_answers (codes "* - 1\n* - 2") (Err (Repeated 2)) refl

two_stars_are_bad : IsScriptRefusal (codes "** - 1") (BadLine 1)
two_stars_are_bad = script_answers (codes "** - 1") (Err (BadLine 1)) refl

repeated : IsScriptRefusal (codes "1 0 1\n1 0 2\n") (Repeated 2)
repeated = script_answers (codes "1 0 1\n1 0 2\n") (Err (Repeated 2)) refl

repeated_with_zeros : IsScriptRefusal (codes "# a\n1 0 1\n\n01 00 2\n0 - 1") (Repeated 4)
repeated_with_zeros = script_answers (codes "# a\n1 0 1\n\n01 00 2\n0 - 1") (Err (Repeated 4)) refl

bad_line : IsScriptRefusal (codes "0 - 1\n") (BadLine 1)
bad_line = script_answers (codes "0 - 1\n") (Err (BadLine 1)) refl

two_returns : IsScriptRefusal (codes "1 - 1\r\n\r\r\n") (BadLine 2)
two_returns = script_answers (codes "1 - 1\r\n\r\r\n") (Err (BadLine 2)) refl

script_too_long : (text : List ℕ) → 1_048_576 < length text → IsScriptRefusal text TooLong
script_too_long text long = long

-- ---- tokens of specifications: `CoreASM T rule M =`, and a body from the offset 19 on

abbrev token : Kind → ℕ → ℕ → Token
token k i j = record { kind = k; start = i; end = j }

abbrev with_body : List Token → List Token
with_body body =
    token (Keyword words.CoreAsm) 0 7 ∷ token kind.Name 8 9 ∷ token (Keyword words.Rule) 10 14 ∷ token kind.Name 15 16 ∷ token (Symbol symbols.Equal) 17 18 ∷ body

abbrev name : ℕ → List ℕ → source.Name
name i text = record { at = i; text = text }

abbrev spec_with : source.Rule → ℕ → source.Spec
spec_with body n = record { name = name 8 (codes "T"); items = source.NamedRule (name 15 (codes "M")) [] body ∷ []; length = n }

abbrev named : ℕ → List ℕ → source.Term
named i x = source.Named (name i x) source.no_terms

-- a name of one letter
abbrev variable : ℕ → Token
variable i = token kind.Name i (i + 1)

-- n `par`, from an offset on
abbrev pars : ℕ → ℕ → List Token → List Token
pars zero at more = more
pars (suc n) at more = token (Keyword words.Par) at (at + 3) ∷ pars n (at + 4) more

abbrev text_with : List ℕ → List ℕ
text_with body = codes "CoreASM T rule M = " ++ body

-- the word `result`
abbrev result : ℕ → Token
result i = token (Keyword words.Result) i (i + 6)

-- a name of one letter, and another in parentheses, with spaces between
abbrev applied_tokens : ℕ → List Token → List Token
applied_tokens i more = variable i ∷ token (Symbol symbols.Open) (i + 2) (i + 3) ∷ variable (i + 4) ∷ token (Symbol symbols.Close) (i + 6) (i + 7) ∷ more

abbrev one : source.Term → source.Terms
one t = source.term_then t source.no_terms

record Trees : Type 0 where
  header_alone : AreSpelling (codes "CoreASM T") (token (Keyword words.CoreAsm) 0 7 ∷ token kind.Name 8 9 ∷ []) (record { name = name 8 (codes "T"); items = []; length = 9 })
  word : AreSpelling (text_with (codes "skip")) (with_body (token (Keyword words.Skip) 19 23 ∷ [])) (spec_with source.Skip 23)
  from_the_left : AreSpelling (text_with (codes "x := a - b - c")) (with_body (variable 19 ∷ token (Symbol symbols.Assign) 21 23 ∷ variable 24 ∷ token (Symbol symbols.Minus) 26 27 ∷ variable 28 ∷ token (Symbol symbols.Minus) 30 31 ∷ variable 32 ∷ []))
      (spec_with (source.Assign (name 19 (codes "x")) source.no_terms (source.Chain (named 24 (codes "a")) (source.link_then Subtract (named 28 (codes "b")) (source.link_then Subtract (named 32 (codes "c")) source.no_links)))) 33)
  product_first : AreSpelling (text_with (codes "x := a + b * c")) (with_body (variable 19 ∷ token (Symbol symbols.Assign) 21 23 ∷ variable 24 ∷ token (Symbol symbols.Plus) 26 27 ∷ variable 28 ∷ token (Symbol symbols.Times) 30 31 ∷ variable 32 ∷ []))
      (spec_with (source.Assign (name 19 (codes "x")) source.no_terms (source.Chain (named 24 (codes "a")) (source.link_then Add (source.Chain (named 28 (codes "b")) (source.link_then Multiply (named 32 (codes "c")) source.no_links)) source.no_links))) 33)
  parentheses_make_no_node : AreSpelling (text_with (codes "x := ( a )")) (with_body (variable 19 ∷ token (Symbol symbols.Assign) 21 23 ∷ token (Symbol symbols.Open) 24 25 ∷ variable 26 ∷ token (Symbol symbols.Close) 28 29 ∷ []))
      (spec_with (source.Assign (name 19 (codes "x")) source.no_terms (named 26 (codes "a"))) 29)
  followed_by_its_arguments : AreSpelling (text_with (codes "r ( a )")) (with_body (variable 19 ∷ token (Symbol symbols.Open) 21 22 ∷ variable 23 ∷ token (Symbol symbols.Close) 25 26 ∷ []))
      (spec_with (source.Call None (name 19 (codes "r")) (one (named 23 (codes "a")))) 26)
  while_a_test_holds : AreSpelling (text_with (codes "while a do skip endwhile")) (with_body (token (Keyword words.While) 19 24 ∷ variable 25 ∷ token (Keyword words.Do) 27 29 ∷ token (Keyword words.Skip) 30 34 ∷ token (Keyword words.EndWhile) 35 43 ∷ []))
      (spec_with (source.While (named 25 (codes "a")) source.Skip) 43)
  answer_into_a_location : AreSpelling (text_with (codes "f ( a ) <- r ( b )")) (with_body (applied_tokens 19 (token (Symbol symbols.LeftArrow) 27 29 ∷ applied_tokens 30 [])))
      (spec_with (source.Call (Some (name 19 (codes "f"), one (named 23 (codes "a")))) (name 30 (codes "r")) (one (named 34 (codes "b")))) 37)
  answer_without_arguments : AreSpelling (text_with (codes "f <- r")) (with_body (variable 19 ∷ token (Symbol symbols.LeftArrow) 21 23 ∷ variable 24 ∷ []))
      (spec_with (source.Call (Some (name 19 (codes "f"), source.no_terms)) (name 24 (codes "r")) source.no_terms) 25)
  result_is_set : AreSpelling (text_with (codes "result := result + a")) (with_body (result 19 ∷ token (Symbol symbols.Assign) 26 28 ∷ result 29 ∷ token (Symbol symbols.Plus) 36 37 ∷ variable 38 ∷ []))
      (spec_with (source.SetResult (name 19 (codes "result")) (source.Chain (source.Result (name 29 (codes "result"))) (source.link_then Add (named 38 (codes "a")) source.no_links))) 39)

trees : Trees
unfolding specification_at item_at rule_item_at parameters_at turns name_at result_at result_term_at rule_at rule_over_at skip_at block_at while_at named_rule_at result_rule_at applied_at arguments_at term_at disjunction_at conjunction_at negation_at comparison_at sum_at product_at factor_at primary_at parenthesized_at inner_at
trees = record {
  header_alone = answers _ _ (Ok _) refl;
  word = answers _ _ (Ok _) refl;
  from_the_left = answers _ _ (Ok _) refl;
  product_first = answers _ _ (Ok _) refl;
  parentheses_make_no_node = answers _ _ (Ok _) refl;
  followed_by_its_arguments = answers _ _ (Ok _) refl;
  while_a_test_holds = answers _ _ (Ok _) refl;
  answer_into_a_location = answers _ _ (Ok _) refl;
  answer_without_arguments = answers _ _ (Ok _) refl;
  result_is_set = answers _ _ (Ok _) refl;
}

-- ---- refused tokens, whatever their names are

module _ (text : List ℕ) where
  record Refused : Type 0 where
    no_token : IsUnexpectedEnd text []
    not_ended : IsUnexpectedEnd text (with_body (pars 1 19 (token (Keyword words.Skip) 23 27 ∷ [])))
    second_comparison : IsUnexpected text (with_body (variable 19 ∷ token (Symbol symbols.Assign) 21 23 ∷ variable 24 ∷ token (Symbol symbols.Less) 26 27 ∷ variable 28 ∷ token (Symbol symbols.Less) 30 31 ∷ variable 32 ∷ [])) 30
    arrow_to_the_left : IsUnexpected text (with_body (variable 19 ∷ token (Symbol symbols.Assign) 21 23 ∷ variable 24 ∷ token (Symbol symbols.LeftArrow) 26 28 ∷ variable 29 ∷ [])) 26
    parentheses_first : IsUnexpected text (with_body (token (Symbol symbols.Open) 19 20 ∷ variable 21 ∷ [])) 19
    second_rule : IsUnexpected text (with_body (token (Keyword words.Skip) 19 23 ∷ token (Keyword words.Skip) 24 28 ∷ [])) 24
    word_of_no_rule : IsUnexpected text (with_body (token (Keyword words.Do) 19 21 ∷ [])) 19
    arrow_behind_result : IsUnexpected text (with_body (result 19 ∷ token (Symbol symbols.LeftArrow) 26 28 ∷ variable 29 ∷ [])) 26
    arrow_in_front_of_result : IsUnexpected text (with_body (variable 19 ∷ token (Symbol symbols.LeftArrow) 21 23 ∷ result 24 ∷ [])) 24
    second_arrow : IsUnexpected text (with_body (variable 19 ∷ token (Symbol symbols.LeftArrow) 21 23 ∷ variable 24 ∷ token (Symbol symbols.LeftArrow) 26 28 ∷ variable 29 ∷ [])) 26
    while_of_no_test : IsUnexpected text (with_body (token (Keyword words.While) 19 24 ∷ token (Keyword words.Do) 25 27 ∷ [])) 25
    while_opens_a_level : IsTooDeep text (with_body (pars 64 26 (token (Keyword words.While) 282 287 ∷ []))) 282
    level_too_many : IsTooDeep text (with_body (pars 65 26 (token (Keyword words.Skip) 286 290 ∷ []))) 282
    unexpected_opens_nothing : IsUnexpected text (with_body (pars 64 26 (token (Symbol symbols.Open) 282 283 ∷ []))) 282

  refused : Refused
  unfolding specification_at item_at rule_item_at parameters_at turns name_at result_at result_term_at rule_at rule_over_at skip_at block_at par_at iterate_at while_at named_rule_at result_rule_at applied_at arguments_at term_at disjunction_at conjunction_at negation_at comparison_at sum_at product_at factor_at primary_at parenthesized_at inner_at
  refused = record {
    no_token = answers text [] (Err UnexpectedEnd) refl;
    not_ended = answers text _ (Err UnexpectedEnd) refl;
    second_comparison = answers text _ (Err (Unexpected 30)) refl;
    arrow_to_the_left = answers text _ (Err (Unexpected 26)) refl;
    parentheses_first = answers text _ (Err (Unexpected 19)) refl;
    second_rule = answers text _ (Err (Unexpected 24)) refl;
    word_of_no_rule = answers text _ (Err (Unexpected 19)) refl;
    arrow_behind_result = answers text _ (Err (Unexpected 26)) refl;
    arrow_in_front_of_result = answers text _ (Err (Unexpected 24)) refl;
    second_arrow = answers text _ (Err (Unexpected 26)) refl;
    while_of_no_test = answers text _ (Err (Unexpected 25)) refl;
    while_opens_a_level = answers text _ (Err (TooDeep 282)) refl;
    level_too_many = answers text _ (Err (TooDeep 282)) refl;
    unexpected_opens_nothing = answers text _ (Err (Unexpected 282)) refl;
  }
