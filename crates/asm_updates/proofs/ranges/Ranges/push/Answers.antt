use Rattle.std.proofs.Common.{◌≡◌, true, ◌++◌, ◌∷◌, [], ◌<◌, ℕ, nat_eq, length, get_or, ap, sym, subst, ◌∙◌, arith}
use Rattle.std.specs.List.{IsDistinct}
use Rattle.std.specs.Map.{keys_of}
use Rattle.asm_updates.specs.code.SummaryRanges.{NamedRanges, first_range}
use Rattle.asm_updates.specs.code.IndexedRanges.{IndexedRanges, put}
use Rattle.asm_updates.specs.code.Positions.{position_of}
use Rattle.asm_updates.proofs.IndexedRanges.{put_last, distinct_last, key-before, length-last}
use Rattle.asm_updates.proofs.ranges.Ranges.push.Goals as goal

pub set_last_position-self-inside-requires-clause-unique : goal.set_last_position-self-inside-requires-clause-unique
set_last_position-self-inside-requires-clause-unique c =
    subst (λ es. IsDistinct nat_eq (keys_of es)) (sym c.deref.ensures.value)
    (distinct_last c.self.inside.entries.items c.push_reserved.new.self.items c.args.n c.args.bounds c.push_reserved.ensures.items (ap (λ (l : IndexedRanges). first_range l.entries c.args.n) c.self.view_is ∙ c.requires.new) c.self.invariant.unique)

pub set_last_position-self-inside-requires-clause-before : goal.set_last_position-self-inside-requires-clause-before
set_last_position-self-inside-requires-clause-before c = λ placed i h.
    let es = c.self.inside.entries.items in
    let whole : c.deref.result.now ≡ es ++ (c.args.n, c.args.bounds) ∷ [] = c.deref.ensures.value ∙ c.push_reserved.ensures.items in
    let before : i < length es = omega (arith, h, ap length whole, length-last es (c.args.n, c.args.bounds)) in
    ap (position_of c.self.inside.positions) (ap (λ fs. get_or (keys_of fs) i 0) whole ∙ key-before es (c.args.n, c.args.bounds) i before)
    ∙ c.self.invariant.are_placed placed i before

pub invariant_of-self : goal.invariant_of-self
invariant_of-self c = record {
  unique = distinct_last c.self.inside.entries.items c.push_reserved.new.self.items c.args.n c.args.bounds c.push_reserved.ensures.items (ap (λ (l : IndexedRanges). first_range l.entries c.args.n) c.self.view_is ∙ c.requires.new) c.self.invariant.unique;
  are_placed = subst (λ (fs : NamedRanges). c.set_last_position-self-inside.result ≡ true → (i : ℕ) → i < length fs → position_of c.set_last_position-self-inside.new.positions (get_or (keys_of fs) i 0) ≡ i) c.deref.ensures.value c.set_last_position-self-inside.ensures;
}

pub returns-clause-entries : goal.returns-clause-entries
returns-clause-entries c =
    put_last c.self.inside.entries.items c.push_reserved.new.self.items c.args.n c.args.bounds c.push_reserved.ensures.items (ap (λ (l : IndexedRanges). first_range l.entries c.args.n) c.self.view_is ∙ c.requires.new)
    ∙ ap (λ (l : IndexedRanges). put l.entries c.args.n c.args.bounds) c.self.view_is

pub returns-clause-unique : goal.returns-clause-unique
returns-clause-unique c = (invariant_of-self c).unique
