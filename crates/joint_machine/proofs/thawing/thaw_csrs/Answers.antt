use Rattle.std.proofs.Common.{◌∙◌, ℕ, ap, slice_index}
use Rattle.cloak_model.specs.Csr as csr
use Rattle.cloak_model.specs.Csr.{Csrs}
use Rattle.joint_machine.proofs.KeptWords.{table_is, written_table}
use Rattle.joint_machine.proofs.thawing.thaw_csrs.Goals as goal

pub returns : goal.returns
returns c csrs numbers words =
    let w : ℕ → ℕ = λ i. slice_index c.args.words.now i in
    let write : ℕ → ℕ → Csrs → Csrs = λ n v t. csr.csr_write t n v in
    let first = c.write.ensures.value ∙ ap (write 0x100 (w 0)) c.new-csrs.ensures in
    let second = c.write-2.ensures.value ∙ ap (write 0x104 (w 1)) first in
    let third = c.write-3.ensures.value ∙ ap (write 0x105 (w 2)) second in
    let fourth = c.write-4.ensures.value ∙ ap (write 0x140 (w 3)) third in
    let fifth = c.write-5.ensures.value ∙ ap (write 0x141 (w 4)) fourth in
    let sixth = c.write-6.ensures.value ∙ ap (write 0x142 (w 5)) fifth in
    let seventh = c.write-7.ensures.value ∙ ap (write 0x143 (w 6)) sixth in
    let last = c.write-8.ensures.value ∙ ap (write 0x180 (w 8)) seventh in
    c.set_pending.ensures
    ∙ ((λ i. csr.with_pending (c.has_bit.ensures i) (last i))
    ∙ (written_table (w 0) (w 1) (w 2) (w 3) (w 4) (w 5) (w 6) (w 7) (w 8)
    ∙ table_is c.args.words.now csrs c.told-words c.fits-words c.requires numbers words))
