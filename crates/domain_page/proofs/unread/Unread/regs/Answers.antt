use Rattle.std.proofs.Common.{◌≡◌, ◌∙◌, ◌+◌, ℕ, List, ap, sym, subst, set, length, length-set, arith}
use Rattle.cloak_model.specs.Bits.{word}
use Rattle.domain_page.specs.Reading.{all}
use Rattle.domain_page.proofs.Read.{HasRead, one_read, register_set, words_each}
use Rattle.domain_page.proofs.unread.Unread.regs.Goals as goal

pub loop-i-preserved : goal.loop-i-preserved
loop-i-preserved c =
    let is : c.set.new.self ≡ set c.loop-i.regs c.loop-i.i c.word.result = c.set.ensures ∙ register_set c.loop-i.regs c.loop-i.i c.word.result c.loop-i.auto.i in
    record {
      count = ap length is ∙ (length-set c.loop-i.regs c.loop-i.i c.word.result ∙ c.loop-i.invariant.count);
      reads = λ xs rest right e.
          subst (λ (regs : List ℕ). HasRead word all xs rest (c.loop-i.i + 1) c.word.new.self.left.now regs) (sym is)
          (one_read word all xs rest c.loop-i.i _ _ _ _ 0 (omega (arith, right.count)) (omega (arith, c.loop-i.invariant.count))
          (c.loop-i.invariant.reads xs rest right e)
          (λ rest' e'. c.word.ensures _ rest' (words_each xs c.loop-i.i right.words (omega (arith, right.count))) e'));
    }
