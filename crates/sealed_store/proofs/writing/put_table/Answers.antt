use Rattle.std.proofs.Common.{◌≡◌, ◌≤◌, ◌<◌, ◌+◌, ◌*◌, ◌++◌, [], ℕ, List, length, take, sum_by, ap, arith}
use Rattle.std.specs.Prelude.{codes}
use Rattle.std.proofs.lemmas.List.{take_all}
use Rattle.std.proofs.lemmas.List.Sums.{sum_by_more, sum_by_more_le}
use Rattle.cloak_model.specs.Bits.{word}
use Rattle.cloak_model.specs.StoredFiles.{StoredFile, long, page_count, file_bytes, table_bytes}
use Rattle.sealed_store.proofs.Written.{also, also_one, all_written}
use Rattle.sealed_store.proofs.writing.put_table.Goals as goal

-- magic, counter, count of files
abbrev front : ℕ → ℕ → List ℕ
front counter count = (codes "CLOAKSTO" ++ long counter) ++ word count

-- no file
abbrev no_file : StoredFile
no_file = record { domain = 0; number = 0; pages = [] }

pub loop-file-init : goal.loop-file-init
loop-file-init c =
    let magic = c.put-magic.ensures in
    let counter = rw c.to_le_bytes.ensures at c.put-numbered.ensures in
    let count = c.put_word-end.ensures in
    let low : c.put-numbered.result ≤ length c.args.into.now = omega (arith, c.requires.room, magic.ends, counter.ends) in
    let there : c.put_word-end.result ≤ length c.args.into.now =
    omega (arith, c.requires.room, magic.ends, counter.ends, count.ends) in
    record {
      written = also (also magic counter low) count there;
      few = omega (arith, magic.ends, counter.ends, count.ends);
    }

pub put_file-end-requires : goal.put_file-end-requires
put_file-end-requires c =
    let there : c.loop-file.file < length c.args.t.now = omega (arith, c.count-count.ensures.count, c.loop-file-test.true) in
    let pages = sum_by_more_le page_count c.args.t.now c.loop-file.file no_file there in
    record {
      file = there;
      room = omega (arith, there, pages, c.count-count.ensures.few, c.count-count.ensures.few_pages, c.count-count.ensures.count, c.loop-file.invariant.few, c.requires.room);
    }

pub loop-file-preserved : goal.loop-file-preserved
loop-file-preserved c =
    let files = c.args.t.now in
    let i = c.loop-file.file in
    let there : i < length files = omega (arith, c.count-count.ensures.count, c.loop-file-test.true) in
    let pages = sum_by_more page_count files i no_file there in
    let all = sum_by_more_le page_count files i no_file there in
    let more : c.put_file-end.result ≤ 20 + 12 * (i + 1) + 49 * sum_by page_count (take (i + 1) files) =
    omega (arith, pages, c.put_file-end.ensures.few, c.loop-file.invariant.few) in
    let low : c.put_file-end.result ≤ length c.args.into.now =
    omega (arith, more, pages, all, there, c.count-count.ensures.few, c.count-count.ensures.few_pages, c.count-count.ensures.count, c.requires.room) in
    record {
      written = also_one file_bytes (front c.args.counter c.count-count.result) files i no_file there
          c.loop-file.invariant.written c.put_file-end.ensures.written low;
      few = more;
    }

pub returns : goal.returns
unfolding table_bytes
returns c =
    let files = c.args.t.now in
    let last : c.loop-file.file ≡ length files = omega (arith, c.count-count.ensures.count) in
    let inv = rw c.count-count.ensures.count at c.loop-file.invariant in
    let pages = ap (λ (l : List StoredFile). sum_by page_count l) (take_all c.loop-file.file files (omega (arith, last))) in
    record {
      written = all_written file_bytes (front c.args.counter (length files)) files c.loop-file.file
          (omega (arith, last)) inv.written;
      few = omega (arith, last, pages, c.loop-file.invariant.few, c.count-count.ensures.few, c.count-count.ensures.few_pages);
    }
