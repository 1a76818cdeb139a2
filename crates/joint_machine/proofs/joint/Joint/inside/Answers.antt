use Rattle.std.proofs.Common.{◌∙◌, ◌≤◌, ◌/◌, ap, refl, slice_set, subst, sym}
use Rattle.std.proofs.lemmas.List.{length-set}
use Rattle.std.proofs.lemmas.Option.{slice_get_read}
use Rattle.cloak_model.specs.Hart.{Hart}
use Rattle.cloak_model.specs.KernelStep.{ticked}
use Rattle.protect_meta.specs.Table.{domains_of}
use Rattle.cloak_pager.specs.State.{PagerState}
use Rattle.joint_machine.specs.Programs.{AreFreeUnused}
use Rattle.joint_machine.proofs.Places.{free_here, free_stepped, numbered_set}
use Rattle.joint_machine.proofs.Running.{found_in, found_lent, inside_lent, not_run, run_there, unrun_asks}
use Rattle.joint_machine.proofs.Turns.{ends_stopped, ends_turned, hart_is}
use Rattle.cloak_model.specs.Joint.{hart_in}
use Rattle.space_law.specs.Mapping.{mapped_in}
use Rattle.joint_machine.proofs.Mapped.{makes_stopped, makes_there, mapped_there}
use Rattle.joint_machine.proofs.Tracked.{goes_stopped, goes_turned}
use Rattle.joint_machine.proofs.joint.Joint.inside.Goals as goal

pub returns-in_default-clause-turns : goal.returns-in_default-clause-turns
returns-in_default-clause-turns g c j s unclashed =
    let harts = c.args.self.now.harts.items in
    let h = c.tick.ensures ∙ ap ticked
    (hart_is harts j.harts c.args.number c.index_mut-h.result.now s.harts c.requires c.index_mut-h.ensures.value)
    in
    ends_stopped g.E.Emit.gave _ _ c.args.self.now _ _ j c.args.number c.tick.new.h _ c.args.ctx h s
    (found_lent _ _ c.args.number c.args.ctx _ _ c.deref.ensures.value c.running_space.ensures.value c.in_default.is)
    (ap (λ (x : Hart). slice_set harts c.args.number x) c.leave_stopped.ensures.hart) refl c.leave_stopped.ensures.unmarks
    refl refl refl refl c.met.ensures c.leave_stopped.ensures.emits

pub returns-in_default-clause-goes : goal.returns-in_default-clause-goes
returns-in_default-clause-goes g c j s unclashed =
    goes_stopped c.args.self.now.memory c.leave_stopped.new.memory _ c.leave_stopped.ensures.unmarks.same
    (unrun_asks j c.args.number (ticked (hart_in j c.args.number)) (c.args.ctx / 8) c.args.ctx _
    (not_run c.args.self.now.domains.items j.domains c.args.number c.args.ctx s.domains
    (found_lent _ _ c.args.number c.args.ctx _ _ c.deref.ensures.value c.running_space.ensures.value
    c.in_default.is)))

pub returns-in_default-clause-makes : goal.returns-in_default-clause-makes
returns-in_default-clause-makes g c j s =
    makes_stopped (mapped_in j) _
    (unrun_asks j c.args.number (ticked (hart_in j c.args.number)) (c.args.ctx / 8) c.args.ctx _
    (not_run c.args.self.now.domains.items j.domains c.args.number c.args.ctx s.domains
    (found_lent _ _ c.args.number c.args.ctx _ _ c.deref.ensures.value c.running_space.ensures.value
    c.in_default.is)))

pub invariant_of-self : goal.invariant_of-self
invariant_of-self g c =
    let domains = c.args.self.now.domains.items in
    let same = c.leave_stopped.ensures.unmarks.same.pager in
    record {
      few_harts = subst (λ n. n ≤ 4) (sym
          (length-set c.args.self.now.harts.items c.args.number c.leave_stopped.new.h)) c.args.self.now.few_harts;
      few = c.args.self.now.few;
      served = c.args.self.now.served ∙ sym (ap (λ (p : PagerState). domains_of p.table) same);
      numbered = c.args.self.now.numbered;
      unused = subst (λ (p : PagerState). AreFreeUnused domains p) (sym same) c.args.self.now.unused;
    }

pub step_context-requires-clause-number : goal.step_context-requires-clause-number
step_context-requires-clause-number g c =
    let x = c.index_mut-domain.result.now in
    let d = c.args.ctx / 8 in
    c.args.self.now.numbered d x (slice_get_read c.args.self.now.domains.items _ d x refl
    (inside_lent _ _ c.args.ctx c.in-Some.space _ c.deref.ensures.value c.running_space.ensures.there
    c.in-Some.is) c.index_mut-domain.ensures.value)

pub step_context-requires-clause-unused : goal.step_context-requires-clause-unused
step_context-requires-clause-unused g c =
    let x = c.index_mut-domain.result.now in
    let d = c.args.ctx / 8 in
    let domains = c.args.self.now.domains.items in
    free_here domains c.args.self.now.memory.pager d x
    (slice_get_read domains _ d x refl
    (inside_lent _ _ c.args.ctx c.in-Some.space _ c.deref.ensures.value c.running_space.ensures.there
    c.in-Some.is) c.index_mut-domain.ensures.value) c.args.self.now.unused

pub step_context-requires-clause-runs : goal.step_context-requires-clause-runs
step_context-requires-clause-runs g c =
    let x = c.index_mut-domain.result.now in
    let d = c.args.ctx / 8 in
    found_in c.args.number c.args.ctx c.in-Some.space _ x
    (slice_get_read c.args.self.now.domains.items _ d x refl
    (inside_lent _ _ c.args.ctx c.in-Some.space _ c.deref.ensures.value c.running_space.ensures.there
    c.in-Some.is) c.index_mut-domain.ensures.value)
    (found_lent _ _ c.args.number c.args.ctx _ _ c.deref.ensures.value c.running_space.ensures.value c.in-Some.is)

pub invariant_of-self-2 : goal.invariant_of-self-2
invariant_of-self-2 g c =
    let domains = c.args.self.now.domains.items in
    let d = c.args.ctx / 8 in
    let x' = c.step_context.new.domain in
    record {
      few_harts = subst (λ n. n ≤ 4) (sym
          (length-set c.args.self.now.harts.items c.args.number c.step_context.new.h)) c.args.self.now.few_harts;
      few = subst (λ n. n ≤ 4) (sym (length-set domains d x')) c.args.self.now.few;
      served = length-set domains d x' ∙ c.args.self.now.served ∙ sym c.step_context.ensures.size.domains;
      numbered = numbered_set domains d x' c.step_context.ensures.number c.args.self.now.numbered;
      unused = free_stepped domains c.args.self.now.memory.pager c.step_context.new.memory.pager d x'
          c.step_context.ensures.others c.step_context.ensures.unused c.args.self.now.unused;
    }

pub returns-clause-turns : goal.returns-clause-turns
returns-clause-turns g c j s unclashed =
    let harts = c.args.self.now.harts.items in
    let domains = c.args.self.now.domains.items in
    let d = c.args.ctx / 8 in
    let x = c.index_mut-domain.result.now in
    let here = slice_get_read domains _ d x refl
    (inside_lent _ _ c.args.ctx c.in-Some.space _ c.deref.ensures.value c.running_space.ensures.there
    c.in-Some.is) c.index_mut-domain.ensures.value in
    let h = c.tick.ensures ∙ ap ticked
    (hart_is harts j.harts c.args.number c.index_mut-h.result.now s.harts c.requires c.index_mut-h.ensures.value)
    in
    ends_turned g.E.Emit.gave _ _ c.args.self.now _ _ _ j c.args.number c.tick.new.h c.step_context.new.h _
    c.args.ctx c.in-Some.space x c.step_context.new.domain h s
    here (found_lent _ _ c.args.number c.args.ctx _ _ c.deref.ensures.value c.running_space.ensures.value
    c.in-Some.is) refl refl refl refl refl c.met-2.ensures
    (λ was stands none. c.step_context.ensures.turns j was stands s.memory s.roots none) unclashed

pub returns-clause-goes : goal.returns-clause-goes
returns-clause-goes g c j s unclashed =
    let harts = c.args.self.now.harts.items in
    let domains = c.args.self.now.domains.items in
    let d = c.args.ctx / 8 in
    let x = c.index_mut-domain.result.now in
    let here = slice_get_read domains _ d x refl
    (inside_lent _ _ c.args.ctx c.in-Some.space _ c.deref.ensures.value c.running_space.ensures.there
    c.in-Some.is) c.index_mut-domain.ensures.value in
    let h = c.tick.ensures ∙ ap ticked
    (hart_is harts j.harts c.args.number c.index_mut-h.result.now s.harts c.requires c.index_mut-h.ensures.value)
    in
    let runs = run_there domains j.domains c.args.number c.args.ctx c.in-Some.space x s.domains here
    (found_lent _ _ c.args.number c.args.ctx _ _ c.deref.ensures.value c.running_space.ensures.value
    c.in-Some.is) in
    goes_turned c.args.self.now.memory c.step_context.new.memory j c.args.number c.tick.new.h _ c.args.ctx runs.was h
    runs.there runs.runs
    (λ none. c.step_context.ensures.goes j runs.was runs.stands s.memory none) unclashed

pub returns-clause-makes : goal.returns-clause-makes
returns-clause-makes g c j s =
    let harts = c.args.self.now.harts.items in
    let domains = c.args.self.now.domains.items in
    let d = c.args.ctx / 8 in
    let x = c.index_mut-domain.result.now in
    let here = slice_get_read domains _ d x refl
    (inside_lent _ _ c.args.ctx c.in-Some.space _ c.deref.ensures.value c.running_space.ensures.there
    c.in-Some.is) c.index_mut-domain.ensures.value in
    let h = c.tick.ensures ∙ ap ticked
    (hart_is harts j.harts c.args.number c.index_mut-h.result.now s.harts c.requires c.index_mut-h.ensures.value)
    in
    let runs = run_there domains j.domains c.args.number c.args.ctx c.in-Some.space x s.domains here
    (found_lent _ _ c.args.number c.args.ctx _ _ c.deref.ensures.value c.running_space.ensures.value
    c.in-Some.is) in
    makes_there (mapped_in j) j c.args.number c.tick.new.h _ c.args.ctx runs.was h runs.there runs.runs
    (c.step_context.ensures.makes j runs.was (mapped_in j) runs.stands (mapped_there j d runs.was runs.there))
