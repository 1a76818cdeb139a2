use Rattle.std.proofs.Common.{◌≡◌, ◌∙◌, ℕ, ◌+◌, ◌-◌, ◌≤◌, List, ◌∷◌, ◌++◌, set, take, length, ap, sym, arith, length-set}
use Rattle.std.proofs.lemmas.Result.{err_from_is_err_and}
use Rattle.cloak_model.specs.Fields.{first_in, parts, after_parts}
use Rattle.frozen_state.specs.declared.frozen.FrozenDomain.{FrozenDomain}
use Rattle.frozen_state.specs.FrozenFault.{domain_fields, after_domain}
use Rattle.field_facts.proofs.Firsts.{row_wrong, row_on, row_over, end_on, end_over}
use Rattle.frozen_run.specs.Reading.{domains_in}
use Rattle.frozen_run.proofs.Rows.{next_domain, no_domains, put_in, all_put}
use Rattle.frozen_run.proofs.reading.domains.fill.Goals as goal

pub returns-in_err-at-clause-fault : goal.returns-in_err-at-clause-fault
returns-in_err-at-clause-fault c =
    let p = err_from_is_err_and c.from_residual.result c.from_residual.ensures.1 in
    let body = c.args.body.now in
    let n = length c.args.into.now in
    rw (p.1, p.2) (row_wrong (domain_fields body c.args.frames) (after_domain body) body n c.loop-d.d c.loop-d.at
    (first_in body (parts (domain_fields body c.args.frames) (after_domain body) n c.args.from)) c.in_err-at.field-0.0
    c.loop-d-test.true c.in_err-at.ensures.fault c.loop-d.invariant.fields)

pub loop-d-preserved : goal.loop-d-preserved
loop-d-preserved c =
    let body = c.args.body.now in
    let from = c.args.from in
    let frames = c.args.frames in
    let n = length c.args.into.now in
    let d = c.loop-d.d in
    let at = c.loop-d.at in
    let next = c.in_ok-at.at in
    let into = c.loop-d.into in
    let x = c.read_domain.new.into in
    let kept = c.loop-d.invariant in
    let read = c.in_ok-at.ensures in
    let inside : d + 1 ≤ length into = omega (arith, kept.long, c.loop-d-test.true) in
    let rest : ℕ → List FrozenDomain = λ (k : ℕ). domains_in body (d + 1) (n - (d + 1)) k in
    let first : domains_in body d (n - d) at ≡ x ∷ rest (after_domain body at) =
    next_domain body n d at c.loop-d-test.true ∙ ap (λ (y : FrozenDomain). y ∷ rest (after_domain body at)) (sym read.value) in
    record {
      long = length-set into d x ∙ kept.long;
      value = ap (λ (k : ℕ). take (d + 1) (set into d x) ++ rest k) read.next
          ∙ put_in into d x (domains_in body d (n - d) at) (rest (after_domain body at)) (domains_in body 0 n from)
          (omega arith) first kept.value;
      fields = row_on (domain_fields body frames) (after_domain body) body n d at next
          (first_in body (parts (domain_fields body frames) (after_domain body) n from)) c.loop-d-test.true read.fault
          read.next kept.fields;
      end = end_on (after_domain body) n d at next (after_parts (after_domain body) n from) c.loop-d-test.true read.next
          kept.end;
      within = read.inside;
    }

pub returns-clause-fault : goal.returns-clause-fault
returns-clause-fault c =
    let body = c.args.body.now in
    let n = length c.args.into.now in
    row_over (domain_fields body c.args.frames) (after_domain body) body n c.loop-d.d c.loop-d.at
    (first_in body (parts (domain_fields body c.args.frames) (after_domain body) n c.args.from)) c.loop-d-test.false
    c.loop-d.invariant.fields

pub returns-clause-value : goal.returns-clause-value
returns-clause-value c =
    let body = c.args.body.now in
    let n = length c.args.into.now in
    let d = c.loop-d.d in
    all_put c.loop-d.into d (domains_in body d (n - d) c.loop-d.at) (domains_in body 0 n c.args.from)
    (omega (arith, c.loop-d.invariant.long, c.loop-d-test.false))
    (no_domains body d n d c.loop-d.at (omega (arith, c.loop-d-test.false))) c.loop-d.invariant.value

pub returns-clause-next : goal.returns-clause-next
returns-clause-next c =
    let body = c.args.body.now in
    let n = length c.args.into.now in
    end_over (after_domain body) n c.loop-d.d c.loop-d.at (after_parts (after_domain body) n c.args.from)
    c.loop-d-test.false c.loop-d.invariant.end
