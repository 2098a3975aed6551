-- Bridge to the code. Lines of scripts, as they are found by their steps and paths.
--     key_said line            what a line is found by among those of its kind: the path of one for
--                              every step, and of another one the step, and behind it the path
--     has_key q keys           it is among these
--     line_count keys          how many lines these are
--     has_line line keys       the line is among these
--     has_said bytes keys      what a line of a text says is
--     have_lines keys lines    what these lines of a text say all is
--     left_from n keys lines   what is said of the lines that count from n and are there
--     meets choice line        a choice is made in the step of the line, at its path; or at its path,
--                              if the line is for every step
use Rattle.std.specs.Prelude.{ℕ, suc, ◌+◌, Bool, cond, List, [], ◌∷◌, ◌++◌, length, nat_eq}
use Rattle.std.specs.BTreeSet.{BTreeSet}
use Rattle.std.specs.Cmp.Lexicographic.{pointwise, slice_cmp}
use Rattle.std.specs.List.{list_all, list_any}
use Rattle.std.specs.Ordering.{is_eq, nat_cmp}
use Rattle.std.proofs.Common.{Vec, Global}
use Rattle.asm_reader.specs.ScriptLines.{Line, SaidLine, ForStep, ForEvery, is_line_of}
use Rattle.asm_reader.specs.ScriptText.{is_skipped, line_of, said}
use Rattle.asm_explore_run.specs.UnmetLines.{unmet_line}
use Rattle.asm_explore_run.specs.declared.line_keys.LineKeys.{LineKeys}

abbrev pub key_said : SaidLine → List ℕ
key_said (ForStep line) = line.step ∷ line.path
key_said (ForEvery line) = line.path

abbrev pub has_key : List ℕ → BTreeSet (Vec ℕ Global) → Bool
has_key q keys = list_any (λ key. is_eq (slice_cmp nat_cmp q key.items)) keys.keys

abbrev pub line_count : LineKeys → ℕ
line_count keys = length keys.in_step.keys + length keys.in_every_step.keys

abbrev pub has_line : SaidLine → LineKeys → Bool
has_line (ForStep line) keys = has_key (line.step ∷ line.path) keys.in_step
has_line (ForEvery line) keys = has_key line.path keys.in_every_step

abbrev pub has_said : List ℕ → LineKeys → Bool
has_said bytes keys = list_any (λ line. has_line line keys) (said (is_skipped bytes) (line_of bytes))

abbrev pub have_lines : LineKeys → List (List ℕ) → Bool
have_lines keys lines = list_all (λ bytes. list_all (λ line. has_line line keys) (said (is_skipped bytes) (line_of bytes))) lines

abbrev pub left_from : (n : ℕ) → LineKeys → List (List ℕ) → List (List ℕ)
left_from n keys [] = []
left_from n keys (bytes ∷ more) = cond (has_said bytes keys) (unmet_line n bytes ∷ []) [] ++ left_from (suc n) keys more

abbrev pub meets : Line → SaidLine → Bool
meets choice (ForStep line) = is_line_of line.step line.path choice
meets choice (ForEvery line) = pointwise nat_eq choice.path line.path
