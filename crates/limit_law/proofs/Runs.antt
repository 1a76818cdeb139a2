-- A run from its opening on.
use Rattle.std.proofs.Common.{◌≡◌, ℕ, zero, suc, ◌+◌, ◌%◌, ◌<◌, List, [], ◌∷◌, length, slice_index, Option, Some, None, IfSome, unwrap_or, Ok, refl, sym, subst, arith}
use Rattle.std.specs.Prelude.{All}
use Rattle.std.proofs.Math.Nat.{mod-lt}
use Rattle.std.proofs.lemmas.List.Elements.{All-nil, All-cons, All-head, All-tail}
use Rattle.cloak_model.specs.declared.image.Bundle.{Bundle}
use Rattle.cloak_model.specs.declared.image.Program.{Program}
use Rattle.cloak_model.specs.declared.resource.Region.{Region}
use Rattle.cloak_model.specs.Beginning.{Beginning, opening_from}
use Rattle.cloak_model.specs.Bundle.{IsProgramIn, IsInGrammar}
use Rattle.cloak_model.specs.Cloaking.{CloakedMemory}
use Rattle.cloak_model.specs.Contexts.{Context, context_at, started_contexts}
use Rattle.cloak_model.specs.DomainState.{Domain, started_control, started_domain}
use Rattle.cloak_model.specs.Joint.{Moment, next_hart}
use Rattle.cloak_model.specs.Opening.{RunEdge, started_joint, started_domains}
use Rattle.cloak_model.specs.Parts.{Joint}
use Rattle.cloak_model.specs.Resources.{regions_in, started_resources}
use Rattle.resource_map.specs.Kept.{IsSoundRegion}
use Rattle.resource_map.proofs.Lists.{get_or-replicate_none}
use Rattle.resource_map.proofs.Soundness.{IsSound-started}
use Rattle.frozen_state.specs.Limits.{IsContext, IsSpace}
use Rattle.limit_law.specs.Limits.{RunsKeepLimits}
use Rattle.limit_law.proofs.Resources.{no_regions, file_stays}
use Rattle.limit_law.proofs.Hypercalls.{new_is_context, are_kept, resources_kept}
use Rattle.limit_law.proofs.Moments.{IsKept, at_every_moment}
use Rattle.limit_law.proofs.Openings.{begins, with_made, given_all}
use Rattle.limit_law.proofs.Turns.{Keeps, AllKeep, step_keep}

-- As a program begins.

eight : (entry sp : ℕ) → length (started_contexts entry sp) ≡ 8
unfolding started_contexts
eight entry sp = refl

module _ (frames d : ℕ) (p : Program) (is : IsProgramIn frames p) where
  first_contexts : (slot : ℕ) →
      IfSome (context_at (started_contexts p.start.entry p.start.sp) slot)
      (IsContext (started_resources p.start.pages p.start.base))
  unfolding started_contexts started_resources
  first_contexts zero = new_is_context _ 0 p.start.entry p.start.sp 0 refl is.entry
  first_contexts (suc slot) =
      subst (λ (o : Option Context). IfSome o (IsContext (started_resources p.start.pages p.start.base)))
      (sym (get_or-replicate_none 7 slot)) tt

  first_regions : (space : ℕ) → IsSpace (regions_in (started_resources p.start.pages p.start.base) space)
  unfolding started_resources
  first_regions zero = record {
    few = omega arith;
    each = All-cons IsSoundRegion _ [] (record { aligned = is.base; some = is.some_pages; top = is.top })
        (All-nil IsSoundRegion);
    apart = λ i j d l m. absurd (omega (arith, l, m));
  }
  first_regions (suc space) =
      subst (λ (o : Option (List Region)). IsSpace (unwrap_or o [])) (sym (get_or-replicate_none 7 space)) no_regions

  first_keeps : Keeps (started_domain d p.start)
  unfolding started_domain started_control
  first_keeps = record {
    slots = eight p.start.entry p.start.sp;
    contexts = first_contexts;
    resources = IsSound-started p.start.pages p.start.base is.some_pages is.few_pages;
    regions = first_regions;
  }

domains_keep : (frames d : ℕ) (programs : List Program) → All (IsProgramIn frames) programs →
    AllKeep (started_domains d programs)
domains_keep frames d [] all k = tt
domains_keep frames d (p ∷ programs) all zero = first_keeps frames d p (All-head (IsProgramIn frames) p programs all)
domains_keep frames d (p ∷ programs) all (suc k) =
    domains_keep frames (d + 1) programs (All-tail (IsProgramIn frames) p programs all) k

joint_keep : (b : Bundle) (m : CloakedMemory) → IsInGrammar b → AllKeep (started_joint b m).domains
unfolding started_joint
joint_keep b m grammar = domains_keep b.kernel.frames 0 b.programs grammar.programs

abbrev pub JointKeeps : Joint → Type 0
JointKeeps j = AllKeep j.domains

made_keeps : (number pages : ℕ) (d : Domain) → Keeps d → Keeps (with_made number pages d)
made_keeps number pages d keeps =
    resources_kept d.control _ keeps (file_stays number pages d.control.resources (are_kept d.control keeps))

pub opened_keep : (b : Bundle) (from : Beginning) → IsInGrammar b → (o : RunEdge) → opening_from b from ≡ Ok o →
    JointKeeps o.joint
opened_keep b from grammar =
    begins JointKeeps b from (λ m. joint_keep b m grammar)
    (λ f x y. given_all Keeps f x y (made_keeps f.number (length f.pages)))

-- The steps.

-- each hart of the schedule is one of four
pub next_is_low : (b : Bundle) (m : Moment) → IsInGrammar b → m.schedule ≡ b.kernel.schedule → next_hart m < 4
next_is_low b m grammar same =
    subst (λ (schedule : List ℕ). slice_index schedule (m.steps % length schedule) < 4) (sym same)
    (let some = grammar.kernel.some_turns in
    let few = grammar.kernel.few_harts in
    let here = grammar.kernel.turns (m.steps % length b.kernel.schedule) 0 (mod-lt m.steps some) in
    omega (arith, few, here))

pub limits_are_kept : (b : Bundle) → IsInGrammar b → IsKept JointKeeps b.kernel.schedule
limits_are_kept b grammar m same all = step_keep m (next_is_low b m grammar same) all

-- The run.

at_domain : (found : Option Domain) (program : Domain) → found ≡ Some program → IfSome found Keeps → Keeps program
at_domain None program is here = absurd cc
at_domain (Some x) program is here = let same : x ≡ program = cc in subst Keeps same here

pub runs_keep_limits : RunsKeepLimits
runs_keep_limits b from budget r grammar is n d program there =
    at_domain _ program there
    (at_every_moment JointKeeps b from budget r (opened_keep b from grammar) (limits_are_kept b grammar) is n d)
