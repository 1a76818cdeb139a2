use Rattle.std.proofs.Common.{◌≡◌, ◌∙◌, ℕ, ◌+◌, ◌<◌, ◌≤◌, List, get_or, drop, None, Option, refl, sym, ap, arith, length-set}
use Rattle.std.proofs.lemmas.List.{drop_more, drop_all}
use Rattle.std.proofs.lemmas.Result.{err_from_is_err_and}
use Rattle.cloak_model.specs.Fields.{first_of, fault_in, first_in, number}
use Rattle.frozen_state.specs.declared.fault.FrozenFault.{FrozenFault}
use Rattle.frozen_state.specs.Ranges.{has_only, kept_bits}
use Rattle.frozen_state.specs.FrozenFault.{ruled_in, csr_fields}
use Rattle.field_facts.proofs.Firsts.{fault_found, no_fault}
use Rattle.frozen_run.specs.Reading.{values, after_word}
use Rattle.frozen_run.proofs.Rows.{put_value, over_put}
use Rattle.frozen_run.proofs.reading.harts.csrs.Goals as goal

-- the fault of the next register
csr_fault : List ℕ → ℕ → ℕ → Option FrozenFault
csr_fault body i at = fault_in body (ruled_in body at 4 (has_only (get_or kept_bits i 0) (number body at)))

next_csr : (body : List ℕ) (i at : ℕ) → i < 9 →
    first_in body (csr_fields body (drop i kept_bits) at)
    ≡ first_of (csr_fault body i at) (first_in body (csr_fields body (drop (i + 1) kept_bits) (at + 4)))
unfolding csr_fields csr_fault
next_csr body i at low =
    ap (λ (bits : List ℕ). first_in body (csr_fields body bits at)) (drop_more kept_bits i 0 low)

no_csr : (body : List ℕ) (i at : ℕ) → 9 ≤ i → first_in body (csr_fields body (drop i kept_bits) at) ≡ None
unfolding csr_fields
no_csr body i at over = ap (λ (bits : List ℕ). first_in body (csr_fields body bits at)) (drop_all i kept_bits over)

pub returns-in_err-csrs-clause-fault : goal.returns-in_err-csrs-clause-fault
unfolding csr_fault
returns-in_err-csrs-clause-fault c =
    let p = err_from_is_err_and c.from_residual.result c.from_residual.ensures.1 in
    let body = c.args.body.now in
    let i = c.loop-i.i in
    let at = c.loop-i.at in
    rw (p.1, p.2) (fault_found (csr_fault body i at) (first_in body (csr_fields body (drop (i + 1) kept_bits) (at + 4)))
    (first_in body (csr_fields body kept_bits c.args.from)) c.in_err-csrs.field-0.0 c.in_err-csrs.ensures.fault
    (sym (next_csr body i at c.loop-i-test.true) ∙ c.loop-i.invariant.fields))

pub loop-i-preserved : goal.loop-i-preserved
unfolding csr_fault
loop-i-preserved c =
    let body = c.args.body.now in
    let from = c.args.from in
    let i = c.loop-i.i in
    let at = c.loop-i.at in
    let w = c.in_ok-csrs.field-0 in
    let kept = c.loop-i.invariant in
    let read = c.in_ok-csrs.ensures in
    record {
      long = length-set c.loop-i.csrs i w ∙ kept.long;
      value = put_value (number body) after_word 9 i at (at + 4) c.loop-i.csrs w (values (number body) after_word 9 from)
          c.loop-i-test.true (omega (arith, kept.long, c.loop-i-test.true)) read.value refl kept.value;
      fields = no_fault (csr_fault body i at) (first_in body (csr_fields body (drop (i + 1) kept_bits) (at + 4)))
          (first_in body (csr_fields body kept_bits from)) read.fault
          (sym (next_csr body i at c.loop-i-test.true) ∙ kept.fields);
      at = omega (arith, kept.at);
      within = read.inside;
    }

pub returns-clause-fault : goal.returns-clause-fault
returns-clause-fault c =
    sym (no_csr c.args.body.now c.loop-i.i c.loop-i.at c.loop-i-test.false) ∙ c.loop-i.invariant.fields

pub returns-clause-value : goal.returns-clause-value
returns-clause-value c =
    let body = c.args.body.now in
    over_put (number body) after_word 9 c.loop-i.i c.loop-i.at c.loop-i.csrs
    (values (number body) after_word 9 c.args.from) c.loop-i-test.false
    (omega (arith, c.loop-i.invariant.long, c.loop-i-test.false)) c.loop-i.invariant.value
