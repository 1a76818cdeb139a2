use Rattle.std.proofs.Common.{◌∙◌, List, ap, length, map, refl, slice_get, subst, sym, arith}
use Rattle.cloak_model.specs.Beginning.{stored_keys}
use Rattle.cloak_model.specs.Ledger.{Keys}
use Rattle.shadow_fold.specs.Table.{empty_table}
use Rattle.frozen_state.specs.declared.frozen.FrozenDomain.{FrozenDomain}
use Rattle.frozen_state.specs.declared.frozen.FrozenHart.{FrozenHart}
use Rattle.joint_machine.specs.Thawing.{AreThawedDomains, IsThawedPager, root_shown, violation_shown}
use Rattle.joint_machine.proofs.Remade.{domain_fault, keys_stored, made_under}
use Rattle.joint_machine.proofs.ThawedParts.{domains_numbered, pages_unused}
use Rattle.joint_machine.proofs.thawing.thaw_under.Goals as goal

pub returns-in-Err-thaw_domains-clause-faults : goal.returns-in-Err-thaw_domains-clause-faults
returns-in-Err-thaw_domains-clause-faults c =
    let same = keys_stored c.args.b.now c.args.keys c.groups_of.result c.as_slice.result.now c.groups_of.ensures.value c.as_slice.ensures in
    domain_fault (stored_keys c.args.b.now c.args.keys) c.in-Ok.pager.keys c.args.f c.in-Err-thaw_domains.fault
    (c.in-Ok.ensures.thaws.keys_are ∙ same) c.in-Ok.ensures.whole c.in-Err-thaw_domains.ensures.faults

pub invariant_of-result : goal.invariant_of-result
invariant_of-result c =
    let domains = c.in-Ok-thaw_domains.ensures.thaws in
    let frozen = c.in-Ok.ensures.thaws in
    record {
      few_harts = omega (arith, c.in_ok-harts.ensures.count, ap length c.as_slice-2.ensures, c.requires.range.hart_count, c.requires.image.kernel.few_harts);
      few = omega (arith, domains.count, c.requires.range.domains, c.requires.image.few_programs);
      served = domains.count ∙ sym frozen.domains_are;
      numbered = domains_numbered c.in-Ok.pager.keys c.args.f c.in-Ok-thaw_domains.domains.items domains;
      unused =
          pages_unused c.in-Ok.pager.keys c.args.f c.in-Ok-thaw_domains.domains.items c.in-Ok.pager (length c.args.f.domains) domains
          (subst (λ (k : Keys). IsThawedPager c.in-Ok.pager k (length c.args.f.domains) c.args.f.frames c.args.f.recorded)
          (sym frozen.keys_are) frozen) c.whole.ensures;
    }

pub returns-clause-thaws : goal.returns-clause-thaws
returns-clause-thaws c =
    let same = keys_stored c.args.b.now c.args.keys c.groups_of.result c.as_slice.result.now c.groups_of.ensures.value c.as_slice.ensures in
    let frozen = c.in-Ok.ensures.thaws in
    made_under _ (stored_keys c.args.b.now c.args.keys) c.args.stream c.args.f (record {
      pager = subst (λ (k : Keys). IsThawedPager c.in-Ok.pager k (length c.args.f.domains) c.args.f.frames c.args.f.recorded) same frozen;
      chained = refl;
      whole = c.whole.ensures;
      stream = refl;
      draws = refl;
      missed = refl;
      marks = c.thaw_reservations.ensures ∙ ap (map (λ (h : FrozenHart). h.mark)) c.as_slice-3.ensures;
      shadows = c.in_ok-shadows.ensures ∙ ap empty_table c.count.ensures.value;
      domains =
          subst (λ (k : Keys). AreThawedDomains k c.args.f c.in-Ok-thaw_domains.domains.items) (frozen.keys_are ∙ same)
          c.in-Ok-thaw_domains.ensures.thaws;
      harts = λ marks hs numbered shown. c.in_ok-harts.ensures.thaws marks hs numbered (shown ∙ sym c.as_slice-2.ensures);
      roots = λ s.
          c.thaw_roots-roots.ensures s
          ∙ ap (λ (l : List FrozenDomain). root_shown (slice_get l s.domain) s.number) c.as_slice-4.ensures;
      ended_count = c.thaw_ended-ended.ensures.four;
      ended = λ d. c.thaw_ended-ended.ensures.each d ∙ ap (λ (l : List FrozenDomain). violation_shown (slice_get l d)) c.as_slice-5.ensures;
      disk = c.of.ensures ∙ c.into_vec.ensures;
      refused = refl;
    }) c.in-Ok.ensures.whole (c.in_ok-harts.ensures.count ∙ ap length c.as_slice-2.ensures)
