use Rattle.std.proofs.Common.{◌≡◌, ◌<◌, length, get_or, ℕ, List, refl, sym, subst, ◌∙◌, ⊎_elim, arith}
use Rattle.std.proofs.lemmas.List.{get_or_read}
use Rattle.asm_check.specs.declared.cycles.cycle_search.Mark.{Mark}
use Rattle.asm_check.specs.declared.cycles.cycle_search.Mark.TheVariants.{Unvisited, Acyclic, Cyclic}
use Rattle.asm_check.specs.code.cycles.Graph.{step_lists}
use Rattle.asm_check.specs.code.cycles.CycleSearch.{IsSearch, work, mark_of}
use Rattle.asm_check.proofs.CycleLemmas.CycleSearchSteps.{next_is_within, settles, returns_to, goes_where, goes_on, passes, work-passes, work-left, work-entered}
use Rattle.asm_check.proofs.cycles.cycle_search.Search.advance.Goals as goal

-- what a search is, at other lists that are equal
moved : (lists : List (List ℕ)) (ms ms' : List Mark) (ks ks' ps ps' : List ℕ) → ms' ≡ ms → ks' ≡ ks → ps' ≡ ps → IsSearch lists ms ks ps → IsSearch lists ms' ks' ps'
moved lists ms ms' ks ks' ps ps' m k p is =
    subst (λ x. IsSearch lists x ks' ps') (sym m) (subst (λ x. IsSearch lists ms x ps') (sym k) (subst (IsSearch lists ms ks) (sym p) is))

less : (lists : List (List ℕ)) (ms ms' : List Mark) (ks ks' ps ps' : List ℕ) (n : ℕ) → ms' ≡ ms → ks' ≡ ks → ps' ≡ ps → work lists ms ks ps < n → work lists ms' ks' ps' < n
less lists ms ms' ks ks' ps ps' n m k p is =
    subst (λ x. work lists x ks' ps' < n) (sym m) (subst (λ x. work lists ms x ps' < n) (sym k) (subst (λ x. work lists ms ks x < n) (sym p) is))

-- the mark that was read
marked_as : (ms : List Mark) (n len : ℕ) (m k : Mark) → length ms ≡ len → n < len → m ≡ get_or ms n m → m ≡ k → mark_of ms n ≡ k
marked_as ms n len m k long within read is = sym (get_or_read ms n m (omega arith) read Unvisited) ∙ is

pub returns-in_default-clause-search : goal.returns-in_default-clause-search
returns-in_default-clause-search c =
    moved _ _ _ _ _ _ _ c.leave.ensures.marks c.leave.ensures.looked c.leave.ensures.path
    (settles _ _ _ _ c.requires.search _ _ c.requires.last c.index-looked.ensures (sym c.in_default.ensures.step))

pub returns-in_default-clause-work : goal.returns-in_default-clause-work
returns-in_default-clause-work c =
    less _ _ _ _ _ _ _ _ c.leave.ensures.marks c.leave.ensures.looked c.leave.ensures.path
    (work-left _ _ _ _ c.requires.search _ _ c.requires.last c.index-looked.ensures Acyclic refl)

pub index-requires : goal.index-requires
index-requires c =
    let within : c.in-Some.next < length (step_lists c.args.steps.now) = next_is_within _ _ _ _ c.requires.search _ _ c.requires.last c.index-looked.ensures _ (sym c.in-Some.ensures.step) c.requires.graph in
    omega (arith, c.requires.search.marks_len)

pub enter-requires : goal.enter-requires
enter-requires c =
    let within : c.in-Some.next < length (step_lists c.args.steps.now) = next_is_within _ _ _ _ c.requires.search _ _ c.requires.last c.index-looked.ensures _ (sym c.in-Some.ensures.step) c.requires.graph in
    omega (arith, c.requires.search.marks_len)

pub returns-in_ok-enter-in-Unvisited-clause-search : goal.returns-in_ok-enter-in-Unvisited-clause-search
returns-in_ok-enter-in-Unvisited-clause-search c =
    moved _ _ _ _ _ _ _ c.in_ok-enter-in-Unvisited.ensures.marks c.in_ok-enter-in-Unvisited.ensures.looked c.in_ok-enter-in-Unvisited.ensures.path
    (goes_on _ _ _ _ c.requires.search _ _ c.requires.last c.index-looked.ensures _ (sym c.in-Some.ensures.step) c.requires.graph)

pub returns-in_ok-enter-in-Unvisited-clause-work : goal.returns-in_ok-enter-in-Unvisited-clause-work
returns-in_ok-enter-in-Unvisited-clause-work c =
    let within : c.in-Some.next < length (step_lists c.args.steps.now) = next_is_within _ _ _ _ c.requires.search _ _ c.requires.last c.index-looked.ensures _ (sym c.in-Some.ensures.step) c.requires.graph in
    less _ _ _ _ _ _ _ _ c.in_ok-enter-in-Unvisited.ensures.marks c.in_ok-enter-in-Unvisited.ensures.looked c.in_ok-enter-in-Unvisited.ensures.path
    (work-entered _ _ _ _ _ (let also : c.in-Some.next < length c.args.self.now.marks.items = omega (arith, c.requires.search.marks_len) in also) (marked_as _ _ _ _ _ c.requires.search.marks_len within c.index.ensures c.in-Unvisited.is))

pub returns-in-Acyclic-clause-search : goal.returns-in-Acyclic-clause-search
returns-in-Acyclic-clause-search c =
    let within : c.in-Some.next < length (step_lists c.args.steps.now) = next_is_within _ _ _ _ c.requires.search _ _ c.requires.last c.index-looked.ensures _ (sym c.in-Some.ensures.step) c.requires.graph in
    passes _ _ _ _ c.requires.search _ _ c.requires.last c.index-looked.ensures _ (sym c.in-Some.ensures.step)
    (marked_as _ _ _ _ _ c.requires.search.marks_len within c.index.ensures c.in-Acyclic.is)

pub returns-in-Acyclic-clause-work : goal.returns-in-Acyclic-clause-work
returns-in-Acyclic-clause-work c = work-passes _ _ _ _ c.requires.search _ _ c.requires.last c.index-looked.ensures _ (sym c.in-Some.ensures.step)

pub returns-in-OnPath-clause-search : goal.returns-in-OnPath-clause-search
returns-in-OnPath-clause-search c =
    let within : c.in-Some.next < length (step_lists c.args.steps.now) = next_is_within _ _ _ _ c.requires.search _ _ c.requires.last c.index-looked.ensures _ (sym c.in-Some.ensures.step) c.requires.graph in
    moved _ _ _ _ _ _ _ c.leave-in-OnPath.ensures.marks c.leave-in-OnPath.ensures.looked c.leave-in-OnPath.ensures.path
    (⊎_elim
    (λ on. returns_to _ _ _ _ c.requires.search _ _ c.requires.last c.index-looked.ensures _ (sym c.in-Some.ensures.step) (marked_as _ _ _ _ _ c.requires.search.marks_len within c.index.ensures on))
    (λ reaching. goes_where _ _ _ _ c.requires.search _ _ c.requires.last c.index-looked.ensures _ (sym c.in-Some.ensures.step) (marked_as _ _ _ _ _ c.requires.search.marks_len within c.index.ensures reaching))
    c.in-OnPath.is)

pub returns-in-OnPath-clause-work : goal.returns-in-OnPath-clause-work
returns-in-OnPath-clause-work c =
    less _ _ _ _ _ _ _ _ c.leave-in-OnPath.ensures.marks c.leave-in-OnPath.ensures.looked c.leave-in-OnPath.ensures.path
    (work-left _ _ _ _ c.requires.search _ _ c.requires.last c.index-looked.ensures Cyclic refl)
