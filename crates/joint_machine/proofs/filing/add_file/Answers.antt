use Rattle.std.proofs.Common.{◌≡◌, ◌∙◌, ℕ, None, Some, length, slice_index_or, refl, sym, ap}
use Rattle.std.proofs.lemmas.Option.{slice_get-get_or}
use Rattle.cloak_model.specs.StoredFiles.{StoredFile}
use Rattle.protect_meta.specs.FileTable.{file_at}
use Rattle.joint_machine.proofs.Filed.{file_absent, file_added_as, file_refused, is_of_contents, made_here, others_new, unshown_after}
use Rattle.joint_machine.proofs.Places.{numbered_set}
use Rattle.joint_machine.proofs.filing.add_file.Goals as goal

pub returns-then-domain-domains-clause-adds : goal.returns-then-domain-domains-clause-adds
returns-then-domain-domains-clause-adds c f j is sealed are =
    let t = c.file-domain.result in
    file_absent c.args.domains.now f j t.0 t.1 t.2
    (is_of_contents t (file_at c.args.files.now c.args.file) f c.file-domain.ensures is) c.if-domain-domains.true are

pub returns-in_default-clause-adds : goal.returns-in_default-clause-adds
returns-in_default-clause-adds c f j is sealed are =
    let t = c.file-domain.result in
    let x = slice_index_or c.args.domains.now t.0 c.index-domains-domain.result in
    file_refused c.args.domains.now x f j t.0 t.1 t.2 c.in_default.field-0
    (is_of_contents t (file_at c.args.files.now c.args.file) f c.file-domain.ensures is)
    (slice_get-get_or c.args.domains.now t.0 c.index-domains-domain.result c.if-domain-domains.false) are
    (sym c.add_file.ensures.answer ∙ c.in_default.is)

pub restore_pages-requires-clause-fresh : goal.restore_pages-requires-clause-fresh
restore_pages-requires-clause-fresh c q domain here =
    let t = c.file-domain.result in
    let file = file_at c.args.files.now c.args.file in
    let x = slice_index_or c.args.domains.now t.0 c.index-domains-domain.result in
    let there = slice_get-get_or c.args.domains.now t.0 c.index-domains-domain.result c.if-domain-domains.false in
    let made = made_here c.args.domains.now x c.add_file.new.self t file c.in-Ok.resource c.file-domain.ensures there
    c.requires.is_new (sym c.add_file.ensures.answer ∙ c.in-Ok.is) c.add_file.ensures.control in (
      c.requires.unshown t.0 c.in-Ok.resource x there made.free q domain here,
      λ k held. absurd (let no : None ≡ Some q = sym (c.requires.outside k) ∙ held in cc),
    )

pub returns-clause-numbered : goal.returns-clause-numbered
returns-clause-numbered c numbered =
    let t = c.file-domain.result in
    let x = slice_index_or c.args.domains.now t.0 c.index-domains-domain.result in
    let there = slice_get-get_or c.args.domains.now t.0 c.index-domains-domain.result c.if-domain-domains.false in
    numbered_set c.args.domains.now t.0 c.add_file.new.self (c.add_file.ensures.number ∙ numbered t.0 x there) numbered

pub returns-clause-unshown : goal.returns-clause-unshown
returns-clause-unshown c =
    let t = c.file-domain.result in
    let file = file_at c.args.files.now c.args.file in
    let x = slice_index_or c.args.domains.now t.0 c.index-domains-domain.result in
    let there = slice_get-get_or c.args.domains.now t.0 c.index-domains-domain.result c.if-domain-domains.false in
    let made = made_here c.args.domains.now x c.add_file.new.self t file c.in-Ok.resource c.file-domain.ensures there
    c.requires.is_new (sym c.add_file.ensures.answer ∙ c.in-Ok.is) c.add_file.ensures.control in
    unshown_after c.args.domains.now t.0 x c.add_file.new.self t.1 t.2 c.in-Ok.resource c.args.memory.now.pager
    c.restore_pages.new.pager there made c.restore_pages.ensures.others c.requires.unshown

pub returns-clause-others : goal.returns-clause-others
returns-clause-others c f differs is =
    let t = c.file-domain.result in
    let file = file_at c.args.files.now c.args.file in
    let x = slice_index_or c.args.domains.now t.0 c.index-domains-domain.result in
    let there = slice_get-get_or c.args.domains.now t.0 c.index-domains-domain.result c.if-domain-domains.false in
    let made = made_here c.args.domains.now x c.add_file.new.self t file c.in-Ok.resource c.file-domain.ensures there
    c.requires.is_new (sym c.add_file.ensures.answer ∙ c.in-Ok.is) c.add_file.ensures.control in
    others_new c.args.domains.now t.0 x c.add_file.new.self t.1 t.2 c.in-Ok.resource f there made
    (λ domain same. differs (sym (ap (λ (y : ℕ × ℕ × ℕ). y.0) c.file-domain.ensures) ∙ domain)
    (sym (ap (λ (y : ℕ × ℕ × ℕ). y.1) c.file-domain.ensures) ∙ same)) is

pub returns-clause-adds : goal.returns-clause-adds
returns-clause-adds c f j is sealed are =
    let t = c.file-domain.result in
    let file = file_at c.args.files.now c.args.file in
    let x = slice_index_or c.args.domains.now t.0 c.index-domains-domain.result in
    let there = slice_get-get_or c.args.domains.now t.0 c.index-domains-domain.result c.if-domain-domains.false in
    let others = c.restore_pages.ensures.others in
    file_added_as c.args.memory.now _ c.args.domains.now x c.add_file.new.self f j t.0 t.1 t.2 c.in-Ok.resource file.pages
    (is_of_contents t file f c.file-domain.ensures is) (ap (λ (s : StoredFile). s.pages) is) there are
    (sym c.add_file.ensures.answer ∙ c.in-Ok.is) (λ e stands. (c.add_file.ensures.adds e stands).domain_stands)
    (record {
      frames = ap length others.frames;
      rights = others.rights;
      stream = refl;
      draws = refl;
      missed = refl;
      marks = refl;
      shadows = refl;
    })
    c.restore_pages.ensures.go_on sealed
