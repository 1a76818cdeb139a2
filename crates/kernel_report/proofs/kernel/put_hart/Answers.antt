use Rattle.std.proofs.Common.{◌∙◌, ap, drop, codes}
use Rattle.cloak_model.specs.Csr.{csr_words}
use Rattle.cloak_model.specs.Hart.{Hart}
use Rattle.cloak_model.specs.Report.{words_line}
use Rattle.kernel_report.proofs.PutFacts.{then, text_is, all_but_first}
use Rattle.kernel_report.proofs.kernel.put_hart.Goals as goal

pub returns : goal.returns
returns g c = then c.put_hart_line-so_far.ensures (then
    (text_is {y = words_line (codes "regs") (drop 1 c.args.hart.now.regs)} c.put_words_line-so_far.ensures
    (ap (words_line (codes "regs"))
    (all_but_first _ _ (c.words.ensures.value ∙ ap (λ (h : Hart). h.regs) c.hart.view_is) c.words.ensures.count
    c.words.ensures.value)))
    (text_is {y = words_line (codes "csrs") (csr_words c.args.hart.now.csrs)} c.put_words_line.ensures
    (ap (words_line (codes "csrs")) (c.words-2.ensures ∙ ap (λ (h : Hart). csr_words h.csrs) c.hart.view_is))))
