use Rattle.std.proofs.Common.{◌≡◌, ◌∙◌, ℕ, ◌+◌, ◌-◌, Bool, cond, List, ◌∷◌, [], ◌++◌, set, take, length, refl, sym, ap, arith, length-set}
use Rattle.std.proofs.lemmas.Bool.{ne_eqb}
use Rattle.std.proofs.lemmas.Result.{err_from_is_err_and}
use Rattle.cloak_model.specs.Fields.{fault_in, first_in, number, parts}
use Rattle.frozen_state.specs.FrozenFault.{any_in}
use Rattle.field_facts.proofs.Firsts.{first_of-none, row_wrong, row_on, row_over}
use Rattle.frozen_run.specs.Reading.{values, after_word}
use Rattle.frozen_run.proofs.Rows.{put_value, over_put}
use Rattle.frozen_run.proofs.reading.harts.registers.Goals as goal

pub returns-in_err-word-clause-fault : goal.returns-in_err-word-clause-fault
returns-in_err-word-clause-fault c =
    let p = err_from_is_err_and c.from_residual.result c.from_residual.ensures.1 in
    let body = c.args.body.now in
    let at = c.loop-i.at in
    rw (p.1, p.2) (row_wrong (λ (k : ℕ). any_in body k 4 ∷ []) after_word body 32 c.loop-i.i at
    (first_in body (parts (λ (k : ℕ). any_in body k 4 ∷ []) after_word 31 c.args.from)) c.in_err-word.field-0.0
    c.loop-i-test.true (c.in_err-word.ensures.fault ∙ sym (first_of-none (fault_in body (any_in body at 4))))
    c.loop-i.invariant.fields)

pub loop-i-preserved : goal.loop-i-preserved
loop-i-preserved c =
    let body = c.args.body.now in
    let from = c.args.from in
    let i = c.loop-i.i in
    let at = c.loop-i.at in
    let regs = c.loop-i.regs in
    let w = c.in_ok-word.field-0 in
    let kept = c.loop-i.invariant in
    let read = c.in_ok-word.ensures in
    let later : i ≡ 0 → ⊥ = λ none. absurd (omega (arith, none, c.loop-i.auto.i)) in
    let now : c.set.new.self ≡ set regs i w =
    c.set.ensures ∙ ap (λ (b : Bool). cond b regs (set regs i w)) (ne_eqb i 0 later) in
    record {
      long = ap length now ∙ length-set regs i w ∙ kept.long;
      value = ap (λ (l : List ℕ). take (i + 1) l ++ values (number body) after_word (32 - (i + 1)) (at + 4)) now
          ∙ put_value (number body) after_word 32 i at (at + 4) regs w (0 ∷ values (number body) after_word 31 from)
          c.loop-i-test.true (omega (arith, kept.long, c.loop-i-test.true)) read.value refl kept.value;
      fields = row_on (λ (k : ℕ). any_in body k 4 ∷ []) after_word body 32 i at (at + 4)
          (first_in body (parts (λ (k : ℕ). any_in body k 4 ∷ []) after_word 31 from)) c.loop-i-test.true
          (read.fault ∙ sym (first_of-none (fault_in body (any_in body at 4)))) refl kept.fields;
      at = omega (arith, kept.at);
      within = read.inside;
    }

pub returns-clause-fault : goal.returns-clause-fault
returns-clause-fault c =
    let body = c.args.body.now in
    row_over (λ (k : ℕ). any_in body k 4 ∷ []) after_word body 32 c.loop-i.i c.loop-i.at
    (first_in body (parts (λ (k : ℕ). any_in body k 4 ∷ []) after_word 31 c.args.from)) c.loop-i-test.false
    c.loop-i.invariant.fields

pub returns-clause-value : goal.returns-clause-value
returns-clause-value c =
    let body = c.args.body.now in
    over_put (number body) after_word 32 c.loop-i.i c.loop-i.at c.loop-i.regs
    (0 ∷ values (number body) after_word 31 c.args.from) c.loop-i-test.false
    (omega (arith, c.loop-i.invariant.long, c.loop-i-test.false)) c.loop-i.invariant.value
