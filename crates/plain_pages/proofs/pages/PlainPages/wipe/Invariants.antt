use Rattle.std.proofs.Common.{◌≡◌, ◌<◌, ◌≤◌, ◌+◌, ℕ, [], length, slice_index_or}
use Rattle.cloak_base.specs.Pages.{zero_page}
use Rattle.plain_pages.proofs.pages.PlainPages.wipe.Given as goal

abbrev pub invariant-loop-page : goal.invariant-loop-page
invariant-loop-page l = record {
  inside : (k : ℕ) → l.first ≤ k → k < l.first + l.page → slice_index_or l.self k [] ≡ zero_page;
  below : (k : ℕ) → k < l.first → slice_index_or l.self k [] ≡ slice_index_or l.initial.self k [];
  above : (k : ℕ) → l.first + l.page ≤ k → slice_index_or l.self k [] ≡ slice_index_or l.initial.self k [];
  count : length l.self ≡ length l.initial.self;
}
