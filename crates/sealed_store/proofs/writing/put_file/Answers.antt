use Rattle.std.proofs.Common.{◌≡◌, ◌≤◌, ◌<◌, ◌+◌, ◌*◌, ◌++◌, ℕ, List, None, length, ap, arith}
use Rattle.cloak_model.specs.Bits.{word}
use Rattle.cloak_model.specs.StoredFiles.{page_bytes}
use Rattle.protect_meta.specs.FileTable.{file_at}
use Rattle.sealed_store.proofs.Written.{also, also_one, all_written}
use Rattle.sealed_store.proofs.writing.put_file.Goals as goal

pub loop-page-init : goal.loop-page-init
loop-page-init c =
    let first = c.put_word-first.ensures in
    let second = c.put_word-second.ensures in
    let third = c.put_word-end.ensures in
    let room = c.requires.room in
    let low : c.put_word-second.result ≤ length c.args.into.now = omega (arith, first.ends, second.ends) in
    let there : c.put_word-end.result ≤ length c.args.into.now = omega (arith, first.ends, second.ends, third.ends) in
    record {
      written = also (also first second low) third there;
      few = omega (arith, first.ends, second.ends, third.ends);
    }

-- domain, number, count of pages
abbrev front : ℕ → ℕ → ℕ → List ℕ
front domain number pages = (word domain ++ word number) ++ word pages

-- how many pages there are
pages_are : {r : ℕ × ℕ × ℕ} {a b n : ℕ} → r ≡ (a, b, n) → r.2 ≡ n
pages_are e = ap (λ (t : ℕ × ℕ × ℕ). t.2) e

pub loop-page-preserved : goal.loop-page-preserved
loop-page-preserved c =
    let pages = pages_are c.file-domain.ensures in
    let there : c.loop-page.page < length (file_at c.args.t.now c.args.file).pages =
    omega (arith, pages, c.loop-page-test.true) in
    let more : c.put_page-end.result ≤ c.args.at + 12 + 49 * (c.loop-page.page + 1) =
    omega (arith, c.put_page-end.ensures.few, c.loop-page.invariant.few) in
    let low : c.put_page-end.result ≤ length c.args.into.now = omega (arith, more, there, c.requires.room) in
    record {
      written = also_one page_bytes (front c.file-domain.result.0 c.file-domain.result.1 c.file-domain.result.2)
          (file_at c.args.t.now c.args.file).pages c.loop-page.page None there c.loop-page.invariant.written (rw c.page.ensures at c.put_page-end.ensures.written) low;
      few = more;
    }

pub put_page-end-requires : goal.put_page-end-requires
put_page-end-requires c =
    let pages = pages_are c.file-domain.ensures in
    let there : c.loop-page.page < length (file_at c.args.t.now c.args.file).pages =
    omega (arith, pages, c.loop-page-test.true) in
    record { room = omega (arith, there, c.loop-page.invariant.few, c.requires.room) }

pub returns : goal.returns
returns c =
    let pages = pages_are c.file-domain.ensures in
    let last : c.loop-page.page ≡ length (file_at c.args.t.now c.args.file).pages = omega (arith, pages) in
    let f = file_at c.args.t.now c.args.file in
    let inv = rw c.file-domain.ensures at c.loop-page.invariant in
    record {
      written = all_written page_bytes (front f.domain f.number (length f.pages)) f.pages c.loop-page.page
          (omega (arith, last)) inv.written;
      few = omega (arith, last, c.loop-page.invariant.few);
    }
