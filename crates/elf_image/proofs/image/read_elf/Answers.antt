use Rattle.std.proofs.Common.{◌≡◌, ◌<◌, ltb, None, sym, subst, arith}
use Rattle.std.proofs.lemmas.Bool.{ltb-true}
use Rattle.std.proofs.lemmas.List.{length-map}
use Rattle.elf_image.specs.declared.fault.ElfCause.TheVariants.{NoPart}
use Rattle.elf_image.specs.Elf.{header_count, parts_fault}
use Rattle.elf_image.specs.Views.{seen}
use Rattle.elf_image.proofs.Rules.{rule-none}
use Rattle.elf_image.proofs.Parts.{Fit, fits}
use Rattle.elf_image.proofs.image.read_elf.Goals as goal

pub returns-clause-fits : goal.returns-clause-fits
returns-clause-fits c =
    let file = c.args.file.now in
    let items = c.in_ok-parts.parts.items in
    let faultless : parts_fault file (header_count file) ≡ None = sym c.in_ok-parts.ensures.fault in
    let fit = subst Fit (sym c.in_ok-parts.ensures.parts) (fits file (header_count file) faultless) in
    let count = c.len.result in
    let some : 0 < count = ltb-true 0 count (rule-none (ltb 0 count) NoPart 44 (sym c.in_ok-rule.ensures)) in
    record {
      some = omega (arith, length-map items seen, c.len.ensures.value);
      few = fit.few;
      each = fit.each;
      apart = fit.apart;
    }
