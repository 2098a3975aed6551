-- Definition. The line that says why a condition isn't true in a state.
--     bound_text            names with their values, without those that an inner one hides
--     calls t               the names with arguments in a term, in the order of the text, without
--                           those in arguments and in `exists` and `forall`
--     read_text             of a function or a derived function with arguments, their values and its
--                           own
--     each_once             of several texts that are the same the first
--     part_text p           the text of the part, its value, the names that are bound there, and what
--                           it reads
--     IsBecause spec A t line      the line is of the part that decides why t isn't true
use Rattle.std.specs.Prelude.{◌≡◌, ◌++◌, ℕ, Bool, true, false, cond, List, [], ◌∷◌, Option, Some, None, codes}
use Rattle.std.specs.List.{filter_map, flat_map, list_any}
use Rattle.std.specs.Str.{bytes_eq}
use Rattle.asm_state.specs.declared.value.Value.{Value}
use Rattle.asm_state.specs.Location.{State}
use Rattle.asm_syntax.specs.SourceTree.{Name, Term, Constant, Named, Chain, Not, Negative, Exists, Every, Result, Terms, Links, no_links, link_then, Spec}
use Rattle.asm_syntax.specs.Tree as tree
use Rattle.asm_check.specs.Numbers.{named}
use Rattle.asm_check.specs.declared.checked.NameNumber.{NameNumber}
use Rattle.asm_check.specs.declared.checked.NameNumber.TheVariants as number
use Rattle.asm_run.specs.Trace.{value_text}
use Rattle.asm_run.specs.Written.{names_in}
use Rattle.asm_explore_because.specs.Parts.{Bound, Decides, Part, fails, is_bound, value_under, values_under, whole}
use Rattle.asm_explore_because.specs.PrintedTerms.{arguments_text, term_text}

-- ---- what is bound

module _ (elements : List (List ℕ)) where
  abbrev pub bound_value : (inner : Bound) → tree.Name → Value → List ℕ
  bound_value inner x v = cond (is_bound inner x) [] (codes ", " ++ (x ++ (codes " = " ++ value_text elements v)))

  -- behind these inner ones
  abbrev pub bound_text : (inner : Bound) → Bound → List ℕ
  bound_text inner [] = []
  bound_text inner ((x, v) ∷ bound) = bound_value inner x v ++ bound_text (inner ++ (x, v) ∷ []) bound

-- ---- what is read

abbrev mutual
  pub calls : Term → List Term
  calls (Constant l) = []
  calls (Named x ts) = Named x ts ∷ []
  calls (Chain t links) = calls t ++ calls_in links
  calls (Not t) = calls t
  calls (Negative t) = calls t
  calls (Exists x u t) = []
  calls (Every x u t) = []
  calls (Result x) = []

  pub calls_in : Links → List Term
  calls_in no_links = []
  calls_in (link_then o t links) = calls t ++ calls_in links

-- of what is read
abbrev pub is_read : Option NameNumber → Bool
is_read (Some (number.Function f)) = true
is_read (Some (number.Derived d)) = true
is_read it = false

-- of several that are the same the first; these were before
abbrev pub each_once : (before : List (List ℕ)) → List (List ℕ) → List (List ℕ)
each_once before [] = []
each_once before (text ∷ texts) =
    cond (list_any (λ other. bytes_eq other text) before) (each_once before texts) (text ∷ each_once (before ++ text ∷ []) texts)

module _ (s : Spec) (A : State) where
  abbrev pub call_text : Bound → Name → Terms → List ℕ
  call_text bound x ts =
      x.text ++ (arguments_text (names_in s).elements (values_under s A bound ts) ++ (codes " = " ++ value_text (names_in s).elements (value_under s A bound (Named x ts))))

  -- a bound name, an element and another term aren't read
  abbrev pub read_text : Bound → Term → Option (List ℕ)
  read_text bound (Named x ts) = cond (is_bound bound x.text) None (cond (is_read (named s x.text)) (Some (call_text bound x ts)) None)
  read_text bound t = None

  abbrev pub read_texts : Bound → Term → List (List ℕ)
  read_texts bound t = each_once [] (filter_map (read_text bound) (calls t))

  abbrev pub part_text : Part → List ℕ
  part_text p =
      term_text p.term ++ (codes " is " ++ (value_text (names_in s).elements (value_under s A p.bound p.term)
      ++ (bound_text (names_in s).elements [] p.bound ++ flat_map (λ text. codes ", " ++ text) (read_texts p.bound p.term))))

  pub record IsBecause (t : Term) (line : List ℕ) : Type 0 where
    pub part : Part
    pub decides : Decides s A (whole t) part
    pub wrong : fails s A part ≡ true
    pub is : line ≡ codes "because: " ++ part_text part
