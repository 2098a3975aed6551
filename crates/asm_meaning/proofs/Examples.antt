-- Law. Examples of the values of terms, of what rules yield and of runs, each worked out by hand.
use Rattle.std.proofs.Common.{◌≡◌, ℕ, true, false, cond, not, ◌||◌, List, [], ◌∷◌, ℤ, pos, Some, None, codes, refl, sym, ap, subst, ◌∙◌}
use Rattle.std.specs.Prelude.{nat_eq}
use Rattle.asm_state.specs.declared.value.Value.{Value}
use Rattle.asm_state.specs.declared.value.Value.TheVariants.{Undef, Truth}
use Rattle.asm_state.specs.declared.operation.Op.TheVariants.{Add, Multiply, Divide, Greater, Equal}
use Rattle.asm_state.specs.declared.function.Table.TheVariants.{Entries}
use Rattle.asm_state.specs.Location.{Location, Proper, Stray, State}
use Rattle.asm_state.specs.Numbers.{number_with}
use Rattle.asm_state.specs.Operation.{op, number_or_undef}
use Rattle.asm_state.specs.Updates.{UpdateSet, Has, IsConsistent, is_consistent, is_none, none, one, together, merge, fire}
use Rattle.asm_state.proofs.UpdateLemmas.Members.{member_laws}
use Rattle.asm_state.proofs.UpdateLemmas.Summaries.{fire_laws}
use Rattle.asm_state.proofs.UpdateLemmas.Updates.{test_laws}
use Rattle.asm_syntax.specs.Tree.{Name, Term, Constant, Named, Chain, Exists, Every, Terms, no_terms, term_then, no_links, link_then, Rule, Skip, Assign, Call, Par, Seq, If, Let, Forall, Choose, Iterate, Rules, no_rules, rule_then, result as answer}
use Rattle.asm_reader.specs.ScriptLines.{Script, no_lines}
use Rattle.asm_meaning.specs.Program.{Program, Universe, Controlled, Static, Derived, NamedRule, nothing_bound, with_value}
use Rattle.asm_meaning.specs.Value.{is_true, value, values, reading, reading_within, readings_of}
use Rattle.asm_meaning.specs.Yields.{Path, at, Gives, Exhausted, beside}
use Rattle.asm_meaning.specs.Does.{Outcome, nothing, following, turn_and, meaning, does_within, does}
use Rattle.asm_meaning.specs.Run.{AtLimit, run}
use Rattle.asm_meaning.specs.Story.{Story, Silent, Assigns, Chooses, Instance, Beside, Then, Exhausts, telling, tells_within, tells}

abbrev number : ℤ → Value
number = number_or_undef

abbrev three : List Value
three = number (pos 0) ∷ number (pos 1) ∷ number (pos 2) ∷ []

abbrev constant : ℤ → Term
constant n = Constant (number n)

abbrev name : Name → Term
name x = Named x no_terms

abbrev of_one : Term → Terms
of_one t = term_then t no_terms

abbrev greater : Term → Term → Term
greater s t = Chain s (link_then Greater t no_links)

abbrev two_rules : Rule → Rule → Rules
two_rules P Q = rule_then P (rule_then Q no_rules)

abbrev sum : Term → Term → Term
sum s t = Chain s (link_then Add t no_links)

-- a universe of three numbers, controlled functions f over it, x and y, a static g over it, a
-- derived function, two rules, and rules with a result
abbrev sample : Program
sample =
    (codes "Idx", Universe three)
    ∷ (codes "f", Controlled 0 (three ∷ []))
    ∷ (codes "x", Controlled 1 [])
    ∷ (codes "y", Controlled 2 [])
    ∷ (codes "g", Static (three ∷ []) (Entries ((number (pos 0) ∷ [], number (pos 7)) ∷ (number (pos 1) ∷ [], number (pos 3)) ∷ [])))
    ∷ (codes "twice", Derived (codes "n" ∷ []) (Chain (name (codes "n")) (link_then Multiply (constant (pos 2)) no_links)))
    ∷ (codes "fill", NamedRule (codes "p" ∷ []) (Forall (codes "i") (codes "Idx") None (Assign (codes "f") (of_one (name (codes "i"))) (name (codes "p")))))
    ∷ (
      codes "next",
      NamedRule (codes "p" ∷ []) (Seq (two_rules
          (Assign (codes "x") no_terms (Chain (name (codes "p")) (link_then Add (constant (pos 1)) no_links)))
          (Assign (codes "y") no_terms (name (codes "p"))))),
    )
    ∷ (codes "give", NamedRule (codes "p" ∷ []) (Assign answer no_terms (name (codes "p"))))
    ∷ (codes "raise", NamedRule (codes "p" ∷ []) (Assign answer no_terms (sum (name answer) (name (codes "p")))))
    ∷ (codes "raise_plainly", NamedRule [] (Call None (codes "raise") (of_one (constant (pos 3)))))
    ∷ (codes "give_to_y", NamedRule [] (Call (Some (codes "y", no_terms)) (codes "give") (of_one (sum (name answer) (constant (pos 1))))))
    ∷ (codes "give_twice", NamedRule (codes "p" ∷ []) (Seq (two_rules (Assign answer no_terms (name (codes "p"))) (Assign (codes "y") no_terms (name answer)))))
    ∷ (codes "give_next", NamedRule (codes "p" ∷ []) (Seq (two_rules (Assign (codes "x") no_terms (sum (name (codes "p")) (constant (pos 1)))) (Assign answer no_terms (name (codes "p"))))))
    ∷ []

-- x is 1 and y is 2
abbrev start : State
start (Proper f vs) = cond (nat_eq f 1) (number (pos 1)) (cond (nat_eq f 2) (number (pos 2)) Undef)
start (Stray f) = Undef

abbrev at_x : Location
at_x = Proper 1 []

abbrev at_y : Location
at_y = Proper 2 []

abbrev valued : Term → Value
valued t = value sample start nothing_bound t

abbrev done : Script → Path → Rule → Outcome
done script p R = does sample 1 script 1 start nothing_bound p R

abbrev giving : UpdateSet → ℕ → Outcome
giving U n = record { result = Gives U; instances = n }

-- ---- terms

of_a_location : valued (name (codes "x")) ≡ number (pos 1)
unfolding value values reading reading_within readings_of number_with
of_a_location = refl

outside_the_domain : valued (Named (codes "f") (of_one (constant (pos 9)))) ≡ Undef
unfolding value values reading reading_within readings_of number_with
outside_the_domain = refl

of_a_table : valued (Named (codes "g") (of_one (name (codes "x")))) ≡ number (pos 3)
unfolding value values reading reading_within readings_of number_with
of_a_table = refl

without_an_entry : valued (Named (codes "g") (of_one (name (codes "y")))) ≡ Undef
unfolding value values reading reading_within readings_of number_with
without_an_entry = refl

of_a_derived_function : valued (Named (codes "twice") (of_one (name (codes "y")))) ≡ number (pos 4)
unfolding value values reading reading_within readings_of number_with
of_a_derived_function = refl

undef_is_undef : valued (Chain (Constant Undef) (link_then Equal (Chain (constant (pos 1)) (link_then Divide (constant (pos 0)) no_links)) no_links)) ≡ Truth true
unfolding value values reading reading_within readings_of number_with
undef_is_undef = refl

some_is_greater : valued (Exists (codes "i") (codes "Idx") (greater (name (codes "i")) (name (codes "x")))) ≡ Truth true
unfolding value values reading reading_within readings_of number_with
some_is_greater = refl

-- if a test is undef, it isn't true
each_is_undef : valued (Every (codes "i") (codes "Idx") (greater (name (codes "i")) (Constant Undef))) ≡ Truth false
unfolding value values reading reading_within readings_of number_with
each_is_undef = refl

the_binder_hides_the_function : value sample start (with_value (codes "x") (number (pos 5)) nothing_bound) (name (codes "x")) ≡ number (pos 5)
unfolding value values reading reading_within readings_of number_with
the_binder_hides_the_function = refl

-- ---- rules without an order

an_update_outside : done no_lines [] (Assign (codes "f") (of_one (constant (pos 9))) (constant (pos 1))) ≡ giving (one (Stray 0) (number (pos 1))) 0
unfolding does does_within meaning value values reading reading_within readings_of number_with
an_update_outside = refl

exchanged : done no_lines [] (Par (two_rules (Assign (codes "x") no_terms (name (codes "y"))) (Assign (codes "y") no_terms (name (codes "x")))))
    ≡ giving (together (one at_x (number (pos 2))) (together (one at_y (number (pos 1))) none)) 0
unfolding does does_within meaning value values reading reading_within readings_of number_with
exchanged = refl

for_no_element : done no_lines [] (Forall (codes "i") (codes "Idx") (Some (greater (name (codes "i")) (constant (pos 5)))) (Assign (codes "x") no_terms (name (codes "i")))) ≡ giving none 0
unfolding does does_within meaning value values reading reading_within readings_of number_with
for_no_element = refl

-- the parameter is the caller's i, and not the one that is bound around it
for_each_element : done no_lines [] (Let (codes "i") (constant (pos 5)) (Call None (codes "fill") (of_one (name (codes "i")))))
    ≡ giving (together (one (Proper 0 (number (pos 0) ∷ [])) (number (pos 5)))
    (together (one (Proper 0 (number (pos 1) ∷ [])) (number (pos 5))) (together (one (Proper 0 (number (pos 2) ∷ [])) (number (pos 5))) none))) 3
unfolding does does_within meaning value values reading reading_within readings_of number_with
for_each_element = refl

-- ---- choices: candidate 4 of three is the one with number 1

abbrev one_line : Path → Script
one_line p = record { exact = record { step = 1; path = p; choice = 4 } ∷ []; every = [] }

abbrev some_number : Rule
some_number = Choose (codes "k") (codes "Idx") None (Assign (codes "x") no_terms (name (codes "k"))) Skip

the_first_candidate : done no_lines [] some_number ≡ giving (one at_x (number (pos 0))) 0
unfolding does does_within meaning value values reading reading_within readings_of number_with
the_first_candidate = refl

the_line_of_a_part : done (one_line (0 ∷ 1 ∷ [])) (0 ∷ []) (Par (two_rules Skip some_number)) ≡ giving (together none (together (one at_x (number (pos 1))) none)) 0
unfolding does does_within meaning value values reading reading_within readings_of number_with
the_line_of_a_part = refl

-- an undef condition doesn't hold
the_line_of_a_branch : done (one_line (1 ∷ [])) [] (If (Constant Undef) Skip some_number) ≡ giving (one at_x (number (pos 1))) 0
unfolding does does_within meaning value values reading reading_within readings_of number_with
the_line_of_a_branch = refl

without_candidates : done no_lines [] (Choose (codes "i") (codes "Idx") (Some (greater (name (codes "i")) (constant (pos 5)))) Skip (Assign (codes "y") no_terms (Constant Undef))) ≡ giving (one at_y Undef) 0
unfolding does does_within meaning value values reading reading_within readings_of number_with
without_candidates = refl

-- ---- one after the other

one_is_consistent : (f : ℕ) (vs : List Value) (v : Value) → IsConsistent (one (Proper f vs) v)
one_is_consistent f vs v = record {
  one_value = λ l w u first second.
      ((member_laws.of_one (Proper f vs) l v w).0 first).1 ∙ sym ((member_laws.of_one (Proper f vs) l v u).0 second).1;
  no_stray = λ g w has. (let same : Stray g ≡ Proper f vs = ((member_laws.of_one (Proper f vs) (Stray g) v w).0 has).0 in cc);
}

passes : (f : ℕ) (vs : List Value) (v : Value) → is_consistent (one (Proper f vs) v) ≡ true
passes f vs v = (test_laws.consistency (one (Proper f vs) v)).1 (one_is_consistent f vs v)

-- a part with a good set, and what comes after it
good_part : (f : ℕ) (vs : List Value) (v : Value) (n : ℕ) (rest : Outcome)
    → cond (is_consistent (one (Proper f vs) v)) (following (one (Proper f vs) v) n rest) (giving (one (Proper f vs) v) n) ≡ following (one (Proper f vs) v) n rest
good_part f vs v n rest = ap (λ b. cond b (following (one (Proper f vs) v) n rest) (giving (one (Proper f vs) v) n)) (passes f vs v)

the_later_part : done no_lines [] (Seq (two_rules (Assign (codes "x") no_terms (constant (pos 1))) (Assign (codes "x") no_terms (constant (pos 2)))))
    ≡ giving (merge (one at_x (number (pos 1))) (merge (one at_x (number (pos 2))) none)) 0
unfolding does does_within meaning value values reading reading_within readings_of number_with
the_later_part =
    good_part 1 [] (number (pos 1)) 0
    (cond (is_consistent (one at_x (number (pos 2)))) (following (one at_x (number (pos 2))) 0 nothing) (giving (one at_x (number (pos 2))) 0))
    ∙ ap (following (one at_x (number (pos 1))) 0) (good_part 1 [] (number (pos 2)) 0 nothing)

-- the parameter stands for the term x, whose value is another one after the first part
called_by_name : done no_lines [] (Call None (codes "next") (of_one (name (codes "x")))) ≡ giving (merge (one at_x (number (pos 2))) (merge (one at_y (number (pos 2))) none)) 0
unfolding does does_within meaning value values reading reading_within readings_of number_with
called_by_name =
    let v : Value = fire start (one at_x (number (pos 2))) at_x in
    good_part 1 [] (number (pos 2)) 0 (cond (is_consistent (one at_y v)) (following (one at_y v) 0 nothing) (giving (one at_y v) 0))
    ∙ ap (following (one at_x (number (pos 2))) 0) (good_part 2 [] v 0 nothing)
    ∙ ap (λ w. following (one at_x (number (pos 2))) 0 (following (one at_y w) 0 nothing))
    (fire_laws.named start (one at_x (number (pos 2))) at_x (number (pos 2)) (one_is_consistent 1 [] (number (pos 2)))
    ((member_laws.of_one at_x at_x (number (pos 2)) (number (pos 2))).1 (refl, refl)))

-- ---- turns: with a limit of one, the turn that has a set is the last one

has_one : (v : Value) → is_none (one at_x v) ≡ false
has_one v =
    elim (is_none (one at_x v)) as (λ b. is_none (one at_x v) ≡ b → b ≡ false) [
      | true ↦ λ e.
          let has : Has (one at_x v) at_x v = (member_laws.of_one at_x at_x v v).1 (refl, refl) in
          absurd (member_laws.of_none at_x v (subst (λ U. Has U at_x v) ((test_laws.emptiness (one at_x v)).0 e) has))
      | false ↦ λ e. refl
    ] refl

abbrev repeated : Rule
repeated = Iterate (Assign (codes "x") no_terms (name (codes "x")))

exhausted_at_its_path : (p : Path) → (done no_lines p repeated).result ≡ Exhausted p
unfolding does does_within meaning value values reading reading_within readings_of number_with
exhausted_at_its_path p =
    let U : UpdateSet = one at_x (number (pos 1)) in
    (λ i. (cond (has_one (number (pos 1)) i || not (passes 1 [] (number (pos 1)) i)) (giving U 0) (following U 0 (record { result = Exhausted p; instances = 0 }))).result)

-- ---- a condition before each turn, as `while` has it

abbrev while : Term → Rule → Rule
while c P = Iterate (If c P Skip)

without_updates : is_none none ≡ true
without_updates = (test_laws.emptiness none).1 refl

no_turn : done no_lines [] (while (greater (name (codes "x")) (constant (pos 1))) (Assign (codes "x") no_terms (constant (pos 5)))) ≡ giving none 0
unfolding does does_within meaning value values reading reading_within readings_of number_with
no_turn = ap (λ b. cond (b || not (is_consistent none)) (giving none 0) (following none 0 (record { result = Exhausted []; instances = 0 }))) without_updates

-- the last turn of two, if x has the value v, and is increased while it is below 2
abbrev last_turn : Value → Outcome
last_turn v =
    let o : Outcome = cond (is_true (op Greater (number (pos 2)) v)) (giving (one at_x (op Add v (number (pos 1)))) 0) nothing in
    turn_and o.result o.instances (λ U. record { result = Exhausted []; instances = 0 })

-- the second turn's condition is valued in the state after the first
one_turn : does sample 2 no_lines 1 start nothing_bound [] (while (greater (constant (pos 2)) (name (codes "x"))) (Assign (codes "x") no_terms (sum (name (codes "x")) (constant (pos 1)))))
    ≡ giving (merge (one at_x (number (pos 2))) none) 0
unfolding does does_within meaning value values reading reading_within readings_of number_with
one_turn =
    let U : UpdateSet = one at_x (number (pos 2)) in
    (λ i. cond (has_one (number (pos 2)) i || not (passes 1 [] (number (pos 2)) i)) (giving U 0) (following U 0 (last_turn (fire start U at_x))))
    ∙ ap (λ v. following U 0 (last_turn v))
    (fire_laws.named start U at_x (number (pos 2)) (one_is_consistent 1 [] (number (pos 2))) ((member_laws.of_one at_x at_x (number (pos 2)) (number (pos 2))).1 (refl, refl)))
    ∙ ap (λ b. following U 0 (cond (b || not (is_consistent none)) (giving none 0) (following none 0 (record { result = Exhausted []; instances = 0 })))) without_updates

-- ---- calls with a result

abbrev answers : Name → Terms → Name → Terms → Rule
answers f ts r us = Call (Some (f, ts)) r us

raised : done no_lines [] (answers (codes "x") no_terms (codes "raise") (of_one (constant (pos 3)))) ≡ giving (one at_x (number (pos 4))) 0
unfolding does does_within meaning value values reading reading_within readings_of number_with
raised = refl

-- a stray location is written, and read as undef whatever a state has there
raised_outside : does sample 1 no_lines 1 (λ l. number (pos 5)) nothing_bound [] (answers (codes "f") (of_one (constant (pos 9))) (codes "raise") (of_one (constant (pos 3))))
    ≡ giving (one (Stray 0) Undef) 0
unfolding does does_within meaning value values reading reading_within readings_of number_with
raised_outside = refl

-- the target's p is the caller's, and not the parameter
the_target_is_the_callers : done no_lines [] (Let (codes "p") (constant (pos 2)) (answers (codes "f") (of_one (name (codes "p"))) (codes "give") (of_one (constant (pos 0)))))
    ≡ giving (one (Proper 0 (number (pos 2) ∷ [])) (number (pos 0))) 0
unfolding does does_within meaning value values reading reading_within readings_of number_with
the_target_is_the_callers = refl

-- a plain call in the body of a rule with a result binds no `result`
answers_nothing : done no_lines [] (answers (codes "x") no_terms (codes "raise_plainly") no_terms) ≡ giving none 0
unfolding does does_within meaning value values reading reading_within readings_of number_with
answers_nothing = refl

-- the argument has the caller's `result`, which is x, and the body's is y
an_argument_has_result : done no_lines [] (answers (codes "x") no_terms (codes "give_to_y") no_terms) ≡ giving (one at_y (number (pos 2))) 0
unfolding does does_within meaning value values reading reading_within readings_of number_with
an_argument_has_result = refl

-- `result` has the content that its location has where it is used
read_where_it_is_used : done no_lines [] (answers (codes "x") no_terms (codes "give_twice") (of_one (constant (pos 5))))
    ≡ giving (merge (one at_x (number (pos 5))) (merge (one at_y (number (pos 5))) none)) 0
unfolding does does_within meaning value values reading reading_within readings_of number_with
read_where_it_is_used =
    let v : Value = fire start (one at_x (number (pos 5))) at_x in
    good_part 1 [] (number (pos 5)) 0 (cond (is_consistent (one at_y v)) (following (one at_y v) 0 nothing) (giving (one at_y v) 0))
    ∙ ap (following (one at_x (number (pos 5))) 0) (good_part 2 [] v 0 nothing)
    ∙ ap (λ w. following (one at_x (number (pos 5))) 0 (following (one at_y w) 0 nothing))
    (fire_laws.named start (one at_x (number (pos 5))) at_x (number (pos 5)) (one_is_consistent 1 [] (number (pos 5)))
    ((member_laws.of_one at_x at_x (number (pos 5)) (number (pos 5))).1 (refl, refl)))

-- the target is f(1), as x was 1 in the call, and the argument x is 2 where it is used
located_in_the_call : done no_lines [] (answers (codes "f") (of_one (name (codes "x"))) (codes "give_next") (of_one (name (codes "x"))))
    ≡ giving (merge (one at_x (number (pos 2))) (merge (one (Proper 0 (number (pos 1) ∷ [])) (number (pos 2))) none)) 0
unfolding does does_within meaning value values reading reading_within readings_of number_with
located_in_the_call =
    let at_f : Location = Proper 0 (number (pos 1) ∷ []) in
    let v : Value = fire start (one at_x (number (pos 2))) at_x in
    good_part 1 [] (number (pos 2)) 0 (cond (is_consistent (one at_f v)) (following (one at_f v) 0 nothing) (giving (one at_f v) 0))
    ∙ ap (following (one at_x (number (pos 2))) 0) (good_part 0 (number (pos 1) ∷ []) v 0 nothing)
    ∙ ap (λ w. following (one at_x (number (pos 2))) 0 (following (one at_f w) 0 nothing))
    (fire_laws.named start (one at_x (number (pos 2))) at_x (number (pos 2)) (one_is_consistent 1 [] (number (pos 2)))
    ((member_laws.of_one at_x at_x (number (pos 2)) (number (pos 2))).1 (refl, refl)))

-- ---- stories

abbrev story_by : Script → Path → Rule → Story
story_by script p R = tells sample 1 script 1 start nothing_bound p R

parts_in_their_order : story_by no_lines [] (Par (two_rules (Assign (codes "x") no_terms (name (codes "y"))) (Assign (codes "y") no_terms (name (codes "x")))))
    ≡ Beside (Assigns (0 ∷ []) at_x (number (pos 2)) [] []) (Beside (Assigns (1 ∷ []) at_y (number (pos 1)) [] []) Silent)
unfolding tells tells_within telling value values reading reading_within readings_of number_with
parts_in_their_order = refl

-- a choice of nothing is a choice
an_idle_choice : story_by (one_line []) [] (Choose (codes "k") (codes "Idx") None Skip Skip) ≡ Chooses [] 1 three Silent
unfolding tells tells_within telling value values reading reading_within readings_of number_with
an_idle_choice = refl

the_choice_of_a_part : story_by (one_line (0 ∷ 1 ∷ [])) (0 ∷ []) (Par (two_rules Skip some_number))
    ≡ Beside Silent (Beside (Chooses (0 ∷ 1 ∷ []) 1 three (Assigns (0 ∷ 1 ∷ 0 ∷ []) at_x (number (pos 1)) [] (number (pos 1) ∷ []))) Silent)
unfolding tells tells_within telling value values reading reading_within readings_of number_with
the_choice_of_a_part = refl

-- an element for which the condition doesn't hold isn't told, and the others keep their numbers
elements_by_number : story_by no_lines [] (Forall (codes "i") (codes "Idx") (Some (greater (name (codes "i")) (constant (pos 1)))) (Assign (codes "x") no_terms (name (codes "i"))))
    ≡ Beside (Instance (Assigns (2 ∷ []) at_x (number (pos 2)) [] (number (pos 2) ∷ []))) Silent
unfolding tells tells_within telling value values reading reading_within readings_of number_with
elements_by_number = refl

-- an update of a stray location is one, and one of no location is none
stray_is_told : story_by no_lines [] (Assign (codes "f") (of_one (constant (pos 9))) (constant (pos 1))) ≡ Assigns [] (Stray 0) (number (pos 1)) (number (pos 9) ∷ []) []
unfolding tells tells_within telling value values reading reading_within readings_of number_with
stray_is_told = refl

-- `result` for a stray location has the arguments that the call's target has
a_target_keeps_its_arguments : story_by no_lines [] (answers (codes "f") (of_one (constant (pos 9))) (codes "give") (of_one (constant (pos 1))))
    ≡ Assigns (0 ∷ []) (Stray 0) (number (pos 1)) (number (pos 9) ∷ []) (number (pos 1) ∷ [])
unfolding tells tells_within telling value values reading reading_within readings_of number_with
a_target_keeps_its_arguments = refl

nowhere_is_silent : story_by no_lines [] (Assign answer no_terms (constant (pos 1))) ≡ Silent
unfolding tells tells_within telling value values reading reading_within readings_of number_with
nowhere_is_silent = refl

the_body_is_below_the_call : story_by no_lines [] (answers (codes "x") no_terms (codes "raise") (of_one (constant (pos 3)))) ≡ Assigns (0 ∷ []) at_x (number (pos 4)) [] (number (pos 3) ∷ [])
unfolding tells tells_within telling value values reading reading_within readings_of number_with
the_body_is_below_the_call = refl

in_their_order : story_by no_lines [] (Seq (two_rules (Assign (codes "x") no_terms (constant (pos 1))) (Assign (codes "x") no_terms (constant (pos 2)))))
    ≡ Then (Assigns (0 ∷ []) at_x (number (pos 1)) [] []) (Then (Assigns (1 ∷ []) at_x (number (pos 2)) [] []) Silent)
unfolding tells tells_within telling value values reading reading_within readings_of number_with
in_their_order =
    let s : Story = Assigns (0 ∷ []) at_x (number (pos 1)) [] [] in
    let t : Story = Assigns (1 ∷ []) at_x (number (pos 2)) [] [] in
    (λ i. cond (passes 1 [] (number (pos 1)) i) (Then s (cond (passes 1 [] (number (pos 2)) i) (Then t Silent) t)) s)

-- nothing comes after a part with a fault
stray_fails : (f : ℕ) (v : Value) → is_consistent (one (Stray f) v) ≡ false
stray_fails f v =
    elim (is_consistent (one (Stray f) v)) as (λ b. is_consistent (one (Stray f) v) ≡ b → b ≡ false) [
      | true ↦ λ e. absurd (((test_laws.consistency (one (Stray f) v)).0 e).no_stray f v ((member_laws.of_one (Stray f) (Stray f) v v).1 (refl, refl)))
      | false ↦ λ e. refl
    ] refl

nothing_after_a_fault : story_by no_lines [] (Seq (two_rules (Assign (codes "f") (of_one (constant (pos 9))) (constant (pos 1))) some_number))
    ≡ Assigns (0 ∷ []) (Stray 0) (number (pos 1)) (number (pos 9) ∷ []) []
unfolding tells tells_within telling value values reading reading_within readings_of number_with
nothing_after_a_fault =
    let s : Story = Assigns (0 ∷ []) (Stray 0) (number (pos 1)) (number (pos 9) ∷ []) [] in
    ap (λ b. cond b (Then s (cond (is_consistent (one at_x (number (pos 0)))) (Then (Chooses (1 ∷ []) 0 three (Assigns (1 ∷ 0 ∷ []) at_x (number (pos 0)) [] (number (pos 0) ∷ []))) Silent) (Chooses (1 ∷ []) 0 three (Assigns (1 ∷ 0 ∷ []) at_x (number (pos 0)) [] (number (pos 0) ∷ []))))) s)
    (stray_fails 0 (number (pos 1)))

-- with a limit of one, the turn that has a set is the last one
one_turn_is_told : (p : Path) → story_by no_lines p repeated ≡ Then (Assigns (at p 0) at_x (number (pos 1)) [] []) (Exhausts p)
unfolding tells tells_within telling value values reading reading_within readings_of number_with
one_turn_is_told p =
    let s : Story = Assigns (at p 0) at_x (number (pos 1)) [] [] in
    (λ i. cond (has_one (number (pos 1)) i || not (passes 1 [] (number (pos 1)) i)) s (Then s (Exhausts p)))

-- ---- the least of paths

-- the least of two paths: lists are compared from their first numbers on
the_least_path : beside (Exhausted (2 ∷ [])) (Exhausted (0 ∷ 7 ∷ [])) ≡ Exhausted (0 ∷ 7 ∷ [])
the_least_path = refl

before_the_longer : beside (Exhausted (1 ∷ 0 ∷ [])) (Exhausted (1 ∷ [])) ≡ Exhausted (1 ∷ [])
before_the_longer = refl

outranks_a_clash : (U : UpdateSet) → beside (Gives U) (Exhausted (1 ∷ [])) ≡ Exhausted (1 ∷ [])
outranks_a_clash U = refl

-- ---- runs

no_step : run (record { program = sample; initial = start; main = repeated }) 1 no_lines 0 ≡ record { steps = []; end = AtLimit; last = start }
no_step = refl
