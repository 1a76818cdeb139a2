use Rattle.std.proofs.Common.{Bool, true, false, ◌==◌, ◌≢◌, ℕ, ◌≡◌, ◌≤◌, ◌+◌, refl, sum_by, length, inl, inr, arith}
use Rattle.std.proofs.lemmas.List.{with_items_is}
use Rattle.std.proofs.lemmas.Bool.Decides.{nat_tests}
use Rattle.cloak_model.specs.StoredFiles.{page_count}
use Rattle.protect_meta.specs.declared.file_table.FileRow.{FileRow}
use Rattle.protect_meta.proofs.Files.{sizes_are, laid_push, files_push, forget_keeps, has_room, has_no_room}
use Rattle.protect_meta.proofs.file_table.FileTable.add.Goals as goal
use Rattle.protect_meta.proofs.file_table.FileTable.add.Goals.{then-is_full-via-then-is_full, then-is_full-via-else-is_full+then-pages-self}

-- the test of the rows
full_is : (b : Bool) (n : ℕ) {m : ℕ} → b ≡ (n == 64) → b ≡ true → m ≡ n → 64 ≤ m
full_is b n is so same = grind (arith, nat_tests)

not_full : (b : Bool) (n : ℕ) {m : ℕ} → b ≡ (n == 64) → b ≡ false → m ≡ n → m ≢ 64
not_full b n is so same = grind (arith, nat_tests)

pub invariant_of-self : goal.invariant_of-self
invariant_of-self c =
    let laid = c.self.invariant in
    let room : c.self.inside.used + c.args.pages ≤ 4096 = omega (arith, laid.few) in
    let is = rw c.deref_mut.ensures.value at c.forget.ensures in
    let new = with_items_is c.self.inside.pages c.forget.new.pages
    (forget_keeps c.self.inside.used c.args.pages c.self.inside.pages.len c.self.inside.pages.items c.forget.new.pages
    (omega (arith, laid.room)) (omega (arith, c.self.inside.pages.ok)) is) in
    let row : FileRow =
    record { domain = c.args.domain; number = c.args.number; first = c.self.inside.used; count = c.args.pages } in
    rw (c.push.ensures.items, new) (laid_push _ _ _ _ row laid refl room is)

pub returns-then-is_full-clause-room : goal.returns-then-is_full-clause-room
returns-then-is_full-clause-room c =
    let sizes = sizes_are _ _ _ _ c.self.invariant c.self.view_is in
    has_no_room (length c.args.self.now) (sum_by page_count c.args.self.now + c.args.pages) (elim c.then-is_full.branch [
      | then-is_full-via-then-is_full w ↦ inl (full_is _ _ c.is_full.ensures.value w.if-is_full.true sizes.0)
      | then-is_full-via-else-is_full+then-pages-self w ↦ inr (omega (arith, sizes.1, w.if-pages-self.true))
    ])

pub returns-clause-room : goal.returns-clause-room
returns-clause-room c =
    let sizes = sizes_are _ _ _ _ c.self.invariant c.self.view_is in
    let few = c.self.invariant.few in
    has_room (length c.args.self.now) (sum_by page_count c.args.self.now + c.args.pages)
    (let e = not_full _ _ c.is_full.ensures.value c.if-is_full.false sizes.0 in omega (arith, c.is_full.ensures.fits)) (omega (arith, sizes.1, few))

pub returns-clause-added : goal.returns-clause-added
returns-clause-added c =
    let laid = c.self.invariant in
    let room : c.self.inside.used + c.args.pages ≤ 4096 = omega (arith, laid.few) in
    let is = rw c.deref_mut.ensures.value at c.forget.ensures in
    let new = with_items_is c.self.inside.pages c.forget.new.pages
    (forget_keeps c.self.inside.used c.args.pages c.self.inside.pages.len c.self.inside.pages.items c.forget.new.pages
    (omega (arith, laid.room)) (omega (arith, c.self.inside.pages.ok)) is) in
    let row : FileRow =
    record { domain = c.args.domain; number = c.args.number; first = c.self.inside.used; count = c.args.pages } in
    rw (c.push.ensures.items, new) (files_push _ _ _ _ _ row laid c.self.view_is room is)
