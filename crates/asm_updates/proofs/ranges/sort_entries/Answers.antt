use Rattle.std.proofs.Common.{rules}
use Rattle.std.proofs.lemmas.Result.{on_ok_weaker}
use Rattle.std.proofs.lemmas.List.Sorted.{length_permutation, IsNonDecreasingBy-from_sort_by_key}
use Rattle.asm_updates.proofs.EntryLists.{found-permuted}
use Rattle.asm_updates.proofs.RangesFound.{AreEntries-permutation}
use Rattle.asm_updates.proofs.IndexedRanges.{distinct_permuted, rising_entries}
use Rattle.asm_updates.proofs.ranges.sort_entries.Goals as goal

pub returns-clause-len : goal.returns-clause-len
returns-clause-len c = length_permutation c.args.entries.now.items c.sort_by_key.new.self.items c.sort_by_key.ensures.permutation

pub returns-clause-sound : goal.returns-clause-sound
returns-clause-sound c =
    let es = c.args.entries.now.items in
    let moves = c.sort_by_key.ensures.permutation in
    AreEntries-permutation c.args.count es c.sort_by_key.new.self.items moves (distinct_permuted es c.sort_by_key.new.self.items moves c.requires.unique) c.requires

pub returns-clause-same : goal.returns-clause-same
returns-clause-same c =
    found-permuted c.args.count c.args.entries.now.items c.sort_by_key.new.self.items c.sort_by_key.ensures.permutation (returns-clause-sound c).unique c.requires

pub returns-clause-rising : goal.returns-clause-rising
returns-clause-rising c =
    on_ok_weaker c.sort_by_key.result
    (λ sorted. rising_entries c.sort_by_key.new.self.items (IsNonDecreasingBy-from_sort_by_key (λ e. e.0) _ sorted (λ a r q k. search rules)) (returns-clause-sound c).unique)
    c.sort_by_key.ensures.sorted
