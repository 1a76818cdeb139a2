use Rattle.std.proofs.Common.{◌≡◌, ◌<◌, ℕ, [], length, slice_index_or, vec_capacity}
use Rattle.cloak_model.specs.Opening.{program_page}
use Rattle.plain_pages.proofs.pages.PlainPages.open.Given as goal

abbrev pub invariant-loop-page : goal.invariant-loop-page
invariant-loop-page l = record {
  count : length l.kept.items ≡ l.page;
  own : (k : ℕ) → k < l.page → slice_index_or l.kept.items k [] ≡ program_page l.p.bytes k;
  room : vec_capacity l.kept ≡ vec_capacity l.initial.kept;
}
