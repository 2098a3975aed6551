use Rattle.std.proofs.Common.{◌≡◌, Some, ap, sym, ◌∙◌}
use Rattle.asm_state.specs.Updates.{widen}
use Rattle.asm_updates.specs.code.SummaryRanges.{first_range, range}
use Rattle.asm_updates.proofs.IndexedRanges.{got-at}
use Rattle.asm_updates.proofs.Marks.{one_value_put}
use Rattle.asm_updates.proofs.RangesOfTwo.{found-widened, AreEntries-widened}
use Rattle.asm_updates.proofs.ranges.Ranges.widen.Goals as goal

-- the bounds that are put instead of those at the location
widened_is : (c : goal.After-put_at) → Some (range c.widened-both.result) ≡ widen (first_range c.args.self.now.entries c.args.n) (Some (range c.args.bounds))
widened_is c = c.widened-both.ensures
    ∙ ap (λ r. widen r (Some (range c.args.bounds)))
    (sym c.entry_at.ensures.found
    ∙ ap (first_range c.args.self.now.entries) (got-at c.args.self.now.entries c.in-Some.i c.args.n c.entry_at.result c.in-Some.ensures.some c.entry_at.ensures.entry))

pub returns-in-Some-clause-sound : goal.returns-in-Some-clause-sound
returns-in-Some-clause-sound c = λ count below le are.
    AreEntries-widened count c.args.self.now.entries c.put_at.new.self.entries c.args.n c.args.bounds c.widened-both.result c.put_at.ensures.entries c.put_at.ensures.unique (widened_is c) below le are

pub returns-in-Some-clause-entries : goal.returns-in-Some-clause-entries
returns-in-Some-clause-entries c =
    found-widened c.args.self.now.entries c.put_at.new.self.entries c.args.n c.args.bounds c.widened-both.result c.put_at.ensures.entries (widened_is c)

pub returns-in-None-clause-sound : goal.returns-in-None-clause-sound
returns-in-None-clause-sound c = λ count below le are.
    AreEntries-widened count c.args.self.now.entries c.push.new.self.entries c.args.n c.args.bounds c.args.bounds c.push.ensures.entries c.push.ensures.unique
    (ap (λ r. widen r (Some (range c.args.bounds))) (sym c.in-None.ensures.none)) below le are

pub returns-in-None-clause-entries : goal.returns-in-None-clause-entries
returns-in-None-clause-entries c =
    found-widened c.args.self.now.entries c.push.new.self.entries c.args.n c.args.bounds c.args.bounds c.push.ensures.entries
    (ap (λ r. widen r (Some (range c.args.bounds))) (sym c.in-None.ensures.none))

pub returns-in-Some-clause-alike : goal.returns-in-Some-clause-alike
returns-in-Some-clause-alike c = λ off. one_value_put c.args.self.now.entries c.put_at.new.self.entries c.args.n c.widened-both.result c.put_at.ensures.entries (c.differ-has_two.ensures off)

pub returns-in-None-clause-alike : goal.returns-in-None-clause-alike
returns-in-None-clause-alike c = λ off. one_value_put c.args.self.now.entries c.push.new.self.entries c.args.n c.args.bounds c.push.ensures.entries (c.differ-has_two-in-None.ensures off)
