use Rattle.std.proofs.Common.{◌≡◌, ◌<◌, ◌≤◌, ◌+◌, ◌-◌, ℕ, [], length, slice_index_or}
use Rattle.plain_pages.proofs.pages.PlainPages.copy.Given as goal

abbrev pub invariant-loop-page : goal.invariant-loop-page
invariant-loop-page l = record {
  inside : (k : ℕ) → l.target ≤ k → k < l.target + l.page →
      slice_index_or l.self k [] ≡ slice_index_or l.initial.self (l.source + (k - l.target)) [];
  below : (k : ℕ) → k < l.target → slice_index_or l.self k [] ≡ slice_index_or l.initial.self k [];
  above : (k : ℕ) → l.target + l.page ≤ k → slice_index_or l.self k [] ≡ slice_index_or l.initial.self k [];
  count : length l.self ≡ length l.initial.self;
}
