-- What the assembler reads in the line of each atomic instruction.
use Rattle.std.proofs.Common.{◌≡◌, true, ℕ, zero, suc, ◌<◌, List, [], ◌∷◌, ◌++◌, codes, Option, Some, None, refl, arith}
use Rattle.rv_atomic.specs.Table.{InRange}
use Rattle.rv_atomic.specs.declared.atomic.Atomic as atomics
use Rattle.rv_atomic.specs.declared.atomic.AtomicOp.{AtomicOp}
use Rattle.rv_atomic.specs.declared.atomic.AtomicOp.TheVariants as amo
use Rattle.rv_asm.specs.Words.{cut}
use Rattle.rv_asm.specs.Operations as asm_ops
use Rattle.rv_asm.specs.Operations.{operation, register_op, immediate_op, shift_op, upper_op, load_op, store_op, branch_op, csr_op, csr_immediate_op, atomic, bare, single}
use Rattle.rv_asm.specs.Statements as asm
use Rattle.rv_asm.specs.Statements.{Fixed, label_word, atomic_form, combine_form, IsAtomicInRange}
use Rattle.rv_asm.specs.declared.image_word.ImageWord.TheVariants.{Atomic}
use Rattle.rv_asm.specs.declared.operation.Operation.TheVariants as ops
use Rattle.word_text.specs.Operands.{register, base}
use Rattle.word_text.specs.Text.{mnemonic, reserve_text, combine_text, operation_text, atomic_text}
use Rattle.disassembly.proofs.Operands as operands
use Rattle.disassembly.proofs.Statements.{Reads, IsMnemonic, two_reads, three_reads, two_cut, three_cut}
use Rattle.disassembly.proofs.Operands.{register_is_operand}

by_order : (P : ℕ → Type 0) → P 0 → P 1 → P 2 → P 3 → (order : ℕ) → order < 4 → P order
by_order P a b c d zero h = a
by_order P a b c d (suc zero) h = b
by_order P a b c d (suc (suc zero)) h = c
by_order P a b c d (suc (suc (suc zero))) h = d
by_order P a b c d (suc (suc (suc (suc n)))) h = absurd (omega (arith, h))

mnemonic_is : (op : AtomicOp) (order : ℕ) → order < 4 → IsMnemonic (mnemonic op order) (ops.Atomic op order)
unfolding operation register_op immediate_op shift_op upper_op load_op store_op branch_op csr_op csr_immediate_op bare atomic single label_word cut asm_ops.atomic_name asm_ops.atomic_order
mnemonic_is amo.Lr order h =
    by_order (λ n. IsMnemonic (mnemonic amo.Lr n) (ops.Atomic amo.Lr n)) (record { some = refl; solid = refl; plain = refl; line = refl; no_label = refl; means = refl }) (record { some = refl; solid = refl; plain = refl; line = refl; no_label = refl; means = refl }) (record { some = refl; solid = refl; plain = refl; line = refl; no_label = refl; means = refl }) (record { some = refl; solid = refl; plain = refl; line = refl; no_label = refl; means = refl }) order h
mnemonic_is amo.Sc order h =
    by_order (λ n. IsMnemonic (mnemonic amo.Sc n) (ops.Atomic amo.Sc n)) (record { some = refl; solid = refl; plain = refl; line = refl; no_label = refl; means = refl }) (record { some = refl; solid = refl; plain = refl; line = refl; no_label = refl; means = refl }) (record { some = refl; solid = refl; plain = refl; line = refl; no_label = refl; means = refl }) (record { some = refl; solid = refl; plain = refl; line = refl; no_label = refl; means = refl }) order h
mnemonic_is amo.Swap order h =
    by_order (λ n. IsMnemonic (mnemonic amo.Swap n) (ops.Atomic amo.Swap n)) (record { some = refl; solid = refl; plain = refl; line = refl; no_label = refl; means = refl }) (record { some = refl; solid = refl; plain = refl; line = refl; no_label = refl; means = refl }) (record { some = refl; solid = refl; plain = refl; line = refl; no_label = refl; means = refl }) (record { some = refl; solid = refl; plain = refl; line = refl; no_label = refl; means = refl }) order h
mnemonic_is amo.Add order h =
    by_order (λ n. IsMnemonic (mnemonic amo.Add n) (ops.Atomic amo.Add n)) (record { some = refl; solid = refl; plain = refl; line = refl; no_label = refl; means = refl }) (record { some = refl; solid = refl; plain = refl; line = refl; no_label = refl; means = refl }) (record { some = refl; solid = refl; plain = refl; line = refl; no_label = refl; means = refl }) (record { some = refl; solid = refl; plain = refl; line = refl; no_label = refl; means = refl }) order h
mnemonic_is amo.Xor order h =
    by_order (λ n. IsMnemonic (mnemonic amo.Xor n) (ops.Atomic amo.Xor n)) (record { some = refl; solid = refl; plain = refl; line = refl; no_label = refl; means = refl }) (record { some = refl; solid = refl; plain = refl; line = refl; no_label = refl; means = refl }) (record { some = refl; solid = refl; plain = refl; line = refl; no_label = refl; means = refl }) (record { some = refl; solid = refl; plain = refl; line = refl; no_label = refl; means = refl }) order h
mnemonic_is amo.And order h =
    by_order (λ n. IsMnemonic (mnemonic amo.And n) (ops.Atomic amo.And n)) (record { some = refl; solid = refl; plain = refl; line = refl; no_label = refl; means = refl }) (record { some = refl; solid = refl; plain = refl; line = refl; no_label = refl; means = refl }) (record { some = refl; solid = refl; plain = refl; line = refl; no_label = refl; means = refl }) (record { some = refl; solid = refl; plain = refl; line = refl; no_label = refl; means = refl }) order h
mnemonic_is amo.Or order h =
    by_order (λ n. IsMnemonic (mnemonic amo.Or n) (ops.Atomic amo.Or n)) (record { some = refl; solid = refl; plain = refl; line = refl; no_label = refl; means = refl }) (record { some = refl; solid = refl; plain = refl; line = refl; no_label = refl; means = refl }) (record { some = refl; solid = refl; plain = refl; line = refl; no_label = refl; means = refl }) (record { some = refl; solid = refl; plain = refl; line = refl; no_label = refl; means = refl }) order h
mnemonic_is amo.Min order h =
    by_order (λ n. IsMnemonic (mnemonic amo.Min n) (ops.Atomic amo.Min n)) (record { some = refl; solid = refl; plain = refl; line = refl; no_label = refl; means = refl }) (record { some = refl; solid = refl; plain = refl; line = refl; no_label = refl; means = refl }) (record { some = refl; solid = refl; plain = refl; line = refl; no_label = refl; means = refl }) (record { some = refl; solid = refl; plain = refl; line = refl; no_label = refl; means = refl }) order h
mnemonic_is amo.Max order h =
    by_order (λ n. IsMnemonic (mnemonic amo.Max n) (ops.Atomic amo.Max n)) (record { some = refl; solid = refl; plain = refl; line = refl; no_label = refl; means = refl }) (record { some = refl; solid = refl; plain = refl; line = refl; no_label = refl; means = refl }) (record { some = refl; solid = refl; plain = refl; line = refl; no_label = refl; means = refl }) (record { some = refl; solid = refl; plain = refl; line = refl; no_label = refl; means = refl }) order h
mnemonic_is amo.Minu order h =
    by_order (λ n. IsMnemonic (mnemonic amo.Minu n) (ops.Atomic amo.Minu n)) (record { some = refl; solid = refl; plain = refl; line = refl; no_label = refl; means = refl }) (record { some = refl; solid = refl; plain = refl; line = refl; no_label = refl; means = refl }) (record { some = refl; solid = refl; plain = refl; line = refl; no_label = refl; means = refl }) (record { some = refl; solid = refl; plain = refl; line = refl; no_label = refl; means = refl }) order h
mnemonic_is amo.Maxu order h =
    by_order (λ n. IsMnemonic (mnemonic amo.Maxu n) (ops.Atomic amo.Maxu n)) (record { some = refl; solid = refl; plain = refl; line = refl; no_label = refl; means = refl }) (record { some = refl; solid = refl; plain = refl; line = refl; no_label = refl; means = refl }) (record { some = refl; solid = refl; plain = refl; line = refl; no_label = refl; means = refl }) (record { some = refl; solid = refl; plain = refl; line = refl; no_label = refl; means = refl }) order h

base_operand : (rs1 : ℕ) → rs1 < 32 → operands.are_operand (base rs1) ≡ true
base_operand rs1 below = operands.base_is_operand rs1 below

reserve_reads : (order rd rs1 : ℕ) → order < 4 → rd < 32 → rs1 < 32 →
    Reads (reserve_text order rd rs1) (Fixed (Atomic (record { op = amo.Lr; rd = rd; rs1 = rs1; rs2 = 0; order = order }) ∷ []))
unfolding asm.reserve_form atomic_form
reserve_reads order rd rs1 o a b =
    two_reads (mnemonic amo.Lr order) (register rd) (base rs1) _ _ (mnemonic_is amo.Lr order o) (register_is_operand rd a) (base_operand rs1 b)
    (rw (two_cut (register rd) (base rs1) (register_is_operand rd a), operands.register_operand rd a, operands.base_after rs1 b) refl)

combine_reads : (op : AtomicOp) (order rd rs1 rs2 : ℕ) → ((text : List ℕ) → atomic_form op order text ≡ combine_form op order text) →
    order < 4 → rd < 32 → rs1 < 32 → rs2 < 32 →
    Reads (combine_text op order rd rs1 rs2) (Fixed (Atomic (record { op = op; rd = rd; rs1 = rs1; rs2 = rs2; order = order }) ∷ []))
unfolding combine_form
combine_reads op order rd rs1 rs2 form o a b c =
    let rest = register rd ++ (codes ", " ++ (register rs2 ++ (codes ", " ++ base rs1))) in
    three_reads (mnemonic op order) (register rd) (register rs2) (base rs1) _ _ (mnemonic_is op order o) (register_is_operand rd a)
    (register_is_operand rs2 c) (base_operand rs1 b)
    (rw (
      form rest,
      three_cut (register rd) (register rs2) (base rs1) (register_is_operand rd a) (register_is_operand rs2 c),
      operands.register_operand rd a,
      operands.register_after rs2 c,
      operands.base_after rs1 b,
    ) refl)

operation_reads : (op : AtomicOp) (order rd rs1 rs2 : ℕ) → (op ≡ amo.Lr → rs2 ≡ 0) → order < 4 → rd < 32 → rs1 < 32 → rs2 < 32 →
    Reads (operation_text op order rd rs1 rs2) (Fixed (Atomic (record { op = op; rd = rd; rs1 = rs1; rs2 = rs2; order = order }) ∷ []))
unfolding atomic_form
operation_reads amo.Lr order rd rs1 rs2 without o a b c = rw (without refl) (reserve_reads order rd rs1 o a b)
operation_reads amo.Sc order rd rs1 rs2 without o a b c = combine_reads amo.Sc order rd rs1 rs2 (λ text. refl) o a b c
operation_reads amo.Swap order rd rs1 rs2 without o a b c = combine_reads amo.Swap order rd rs1 rs2 (λ text. refl) o a b c
operation_reads amo.Add order rd rs1 rs2 without o a b c = combine_reads amo.Add order rd rs1 rs2 (λ text. refl) o a b c
operation_reads amo.Xor order rd rs1 rs2 without o a b c = combine_reads amo.Xor order rd rs1 rs2 (λ text. refl) o a b c
operation_reads amo.And order rd rs1 rs2 without o a b c = combine_reads amo.And order rd rs1 rs2 (λ text. refl) o a b c
operation_reads amo.Or order rd rs1 rs2 without o a b c = combine_reads amo.Or order rd rs1 rs2 (λ text. refl) o a b c
operation_reads amo.Min order rd rs1 rs2 without o a b c = combine_reads amo.Min order rd rs1 rs2 (λ text. refl) o a b c
operation_reads amo.Max order rd rs1 rs2 without o a b c = combine_reads amo.Max order rd rs1 rs2 (λ text. refl) o a b c
operation_reads amo.Minu order rd rs1 rs2 without o a b c = combine_reads amo.Minu order rd rs1 rs2 (λ text. refl) o a b c
operation_reads amo.Maxu order rd rs1 rs2 without o a b c = combine_reads amo.Maxu order rd rs1 rs2 (λ text. refl) o a b c

pub atomic_reads : (a : atomics.Atomic) → IsAtomicInRange a → Reads (atomic_text a) (Fixed (Atomic a ∷ []))
atomic_reads a r = operation_reads a.op a.order a.rd a.rs1 a.rs2 r.without r.fields.order r.fields.rd r.fields.rs1 r.fields.rs2
