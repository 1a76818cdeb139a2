use Rattle.std.proofs.Common.{◌≡◌, ◌<◌, ◌++◌, Some, map, sym, ap, ◌∙◌, arith, refl}
use Rattle.std.proofs.lemmas.Result.{err_from_is_err_and}
use Rattle.elf_image.specs.Elf.{header_at, header_count, loaded, load_fault, parts, parts_fault}
use Rattle.elf_image.specs.Views.{seen}
use Rattle.elf_image.proofs.Parts.{parts-more, fault-more, ends}
use Rattle.elf_image.proofs.image.load_parts.Goals as goal

pub loop-number-init : goal.loop-number-init
unfolding parts parts_fault
loop-number-init c = record { found = ap (map seen) c.new-parts.ensures; faultless = refl }

pub returns-in_err-load-clause-fault : goal.returns-in_err-load-clause-fault
returns-in_err-load-clause-fault c =
    let p = err_from_is_err_and c.from_residual.result c.from_residual.ensures.1 in
    let file = c.args.file.now in
    let number = c.loop-number.number in
    let so_far = c.loop-number.invariant in
    let fault = c.in_err-load.field-0.0 in
    let before : number < header_count file = omega arith in
    let found : load_fault file (parts file number) (header_at file number) ≡ Some fault =
    sym (c.in_err-load.ensures.fault ∙ λ i. load_fault file (so_far.found i) (c.header_at.ensures i)) in
    rw (p.1, p.2) (sym (ends file fault number (header_count file) before so_far.faultless found))

pub loop-number-preserved : goal.loop-number-preserved
loop-number-preserved c =
    let file = c.args.file.now in
    let number = c.loop-number.number in
    let so_far = c.loop-number.invariant in
    record {
      found = c.in_ok-load.ensures.parts ∙ (λ i. so_far.found i ++ loaded file (c.header_at.ensures i))
          ∙ sym (parts-more file number);
      faultless = fault-more file number so_far.faultless
          ∙ sym (c.in_ok-load.ensures.fault ∙ λ i. load_fault file (so_far.found i) (c.header_at.ensures i));
    }
