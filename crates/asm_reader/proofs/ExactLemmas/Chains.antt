-- Free. Exact readers of chains: terms with operators of a table between them.
use Rattle.std.proofs.Common.{◌≡◌, ℕ, Bool, true, false, List, [], refl}
use Rattle.asm_state.specs.declared.operation.Op.{Op}
use Rattle.asm_syntax.specs.declared.token.Kind.{Kind}
use Rattle.asm_syntax.specs.SourceTree as source
use Rattle.asm_reader.specs.Kinds.{keys}
use Rattle.asm_reader.specs.Productions.{Production, ◌then◌, repeated, choice}
use Rattle.asm_reader.specs.code.Steps.{Reader, pair_of, repeated_of, choice_at}
use Rattle.asm_reader.specs.TermGrammar.{chain, chain_of}
use Rattle.asm_reader.specs.code.TermReading.{chain_at}
use Rattle.asm_reader.proofs.Lists.{apart, within}
use Rattle.asm_reader.proofs.Loops.{Consumes}
use Rattle.asm_reader.proofs.ExactLemmas.Readers.{IsExact, Begins, HasText, exact_pair, exact_makes, exact_repeated, repeated_ends, ends_none}
use Rattle.asm_reader.proofs.ExactLemmas.ExactTokens.{depth, exact_consumes, has_makes, has_then, begins_makes, begins_then}
use Rattle.asm_reader.proofs.ExactLemmas.Choices.{PlainRows, exact_choice, begins_choice}
use Rattle.asm_reader.proofs.WiderLemmas.WiderParts.{Includes, same_part, wider_then, wider_repeated, wider_makes}

-- an operator, and what it takes
abbrev pub link : List (Kind × Op) → Production source.Term → Production (Op × source.Term)
link table X = choice table then X

abbrev pub link_of : List (Kind × Op) → Reader source.Term → Reader (Op × source.Term)
link_of table f = pair_of (choice_at table) f

module _ (n : ℕ) (table : List (Kind × Op)) (has : HasText (choice table)) (rows : PlainRows table) where
  pub begins_link : (X : Production source.Term) → Begins (keys table) (link table X)
  begins_link X = begins_then (keys table) (choice table) X (begins_choice n false table has rows)

  module _ (less : List Kind) (P N : Production source.Term) (some : HasText P) (f : Reader source.Term) (exact : (q : Bool) → IsExact (depth n q) (depth n false) less P N f) where
    pub exact_link : IsExact (depth n false) (depth n false) less (link table P) (link table N) (link_of table f)
    exact_link = exact_pair (depth n false) (depth n false) (depth n false) [] less (choice table) (choice table) P N (ends_none less N) some (choice_at table) f (exact_choice n false table has rows) (exact false)

    pub link_consumes : Consumes (link_of table f)
    link_consumes = exact_consumes (depth n false) (depth n false) less (keys table) (link table P) (link table N) (link_of table f) (begins_link P) exact_link

    pub exact_chain : (more : List Kind) → within less more ≡ true → within (keys table) more ≡ true → apart (keys table) less ≡ true → (q : Bool) → IsExact (depth n q) (depth n false) more (chain table P) (chain table N) (chain_at table f)
    exact_chain more in_more in_table differ q = exact_makes (depth n q) (depth n false) more (P then repeated (link table P)) (N then repeated (link table N)) chain_of (pair_of f (repeated_of (keys table) (link_of table f)))
        (exact_pair (depth n q) (depth n false) (depth n false) less more P N (repeated (link table P)) (repeated (link table N))
        (repeated_ends (depth n false) less more (keys table) (link table P) (link table N) (begins_link P) (begins_link N) in_more in_table differ)
        ([], [], refl) f (repeated_of (keys table) (link_of table f)) (exact q)
        (exact_repeated (depth n false) less more (keys table) (link table P) (link table N) (begins_link P) (begins_link N) in_more in_table differ (link_of table f) exact_link))

pub begins_chain : (table : List (Kind × Op)) (ks : List Kind) (X : Production source.Term) → Begins ks X → Begins ks (chain table X)
begins_chain table ks X b = begins_makes ks (X then repeated (link table X)) chain_of (begins_then ks X (repeated (link table X)) b)

pub has_chain : (table : List (Kind × Op)) (X : Production source.Term) → HasText X → HasText (chain table X)
has_chain table X some = has_makes (X then repeated (link table X)) chain_of (has_then X (repeated (link table X)) some ([], [], refl))

pub wider_link : (table : List (Kind × Op)) (X Y : Production source.Term) → Includes X Y → Includes (link table X) (link table Y)
wider_link table X Y h = wider_then (choice table) (choice table) X Y (same_part (choice table)) h

pub wider_chain : (table : List (Kind × Op)) (X Y : Production source.Term) → Includes X Y → Includes (chain table X) (chain table Y)
wider_chain table X Y h = wider_makes (X then repeated (link table X)) (Y then repeated (link table Y)) chain_of
    (wider_then X Y (repeated (link table X)) (repeated (link table Y)) h (wider_repeated (link table X) (link table Y) (wider_link table X Y h)))
