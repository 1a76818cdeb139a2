-- An item completes at most one load of a program that runs alone. So a program that took fewer than 2^64 items has
-- fewer loads than that, as its report needs.
use Rattle.std.proofs.Common.{◌≤◌, ◌+◌, ℕ, Bool, true, false, cond, List, [], length}
use Rattle.std.specs.Prelude.{is_some}
use Rattle.cloak_model.specs.declared.answer.Answer.{Answer}
use Rattle.cloak_model.specs.Items.{Item}
use Rattle.cloak_model.specs.Items as item
use Rattle.cloak_model.specs.World.{Alone}
use Rattle.cloak_model.specs.Parts.{DomainPart}
use Rattle.cloak_model.specs.DomainState.{Domain}
use Rattle.cloak_model.specs.DomainStep.{Resumes, domain_step}
use Rattle.cloak_model.specs.Ending.{ended_domain}
use Rattle.cloak_model.specs.DomainAlone as model
use Rattle.cloak_model.specs.DomainAlone.{Tried, Over, Wants, Wrong, tried, try_with, handed_of, is_none_left, is_granted, answered_by, made_by, take_answer, take_timer, take_resume, take_ended, domain_gone, resumed_by, domain_step_ended, domain_step_begun, take_domain_step, domain_takes, take_domain_item}
use Rattle.script_fold.proofs.OneLoad.{no_load, loads_step}

abbrev loads_of : model.DomainAlone → ℕ
loads_of s = length s.part.domain.loads

abbrev FewMore : model.DomainAlone → model.DomainAlone → Type 0
FewMore s now = loads_of now ≤ loads_of s + 1

-- what was tried completed at most one
abbrev TriedOnce : DomainPart → Tried → Type 0
TriedOnce p (Over now) = length now.domain.loads ≤ length p.domain.loads + 1
TriedOnce p _ = Unit {0}

once_if : (p : DomainPart) (a b : Bool) (d : Domain) (plain : ℕ → ℕ → List ℕ) → length d.loads ≤ length p.domain.loads + 1 →
    TriedOnce p (cond a (cond b Wants Wrong) (cond b (Over (record { domain = d; plain = plain })) Wrong))
once_if p true true d plain few = tt
once_if p true false d plain few = tt
once_if p false true d plain few = few
once_if p false false d plain few = tt

once_tried : (slot : ℕ) (answers : List Answer) (p : DomainPart) → TriedOnce p (try_with slot answers p)
unfolding try_with tried
once_tried slot answers p =
    let w = Alone (record { plain = p.plain; answers = answers; unfit = false }) in
    once_if p (handed_of (domain_step slot p.domain w).world).unfit (is_none_left (handed_of (domain_step slot p.domain w).world).answers) (domain_step slot p.domain w).answer.domain
    (handed_of (domain_step slot p.domain w).world).plain (loads_step slot p.domain w)

few_answered : (slot : ℕ) (answers : List Answer) (a : Answer) (t : Tried) (s : model.DomainAlone) → TriedOnce s.part t → FewMore s (answered_by slot answers a t s)
unfolding answered_by
few_answered slot answers a (Over p) s once = once
few_answered slot answers a _ s once = no_load (loads_of s)

few_made : (t : Tried) (s : model.DomainAlone) → TriedOnce s.part t → FewMore s (made_by t s)
unfolding made_by
few_made (Over p) s once = once
few_made _ s once = no_load (loads_of s)

few_answer : (q : model.DomainStage) (a : Answer) (s : model.DomainAlone) → FewMore s (take_answer q a s)
unfolding take_answer
few_answer (model.Running slot answers) a s = few_answered slot answers a _ s (once_tried slot _ s.part)
few_answer _ a s = no_load (loads_of s)

few_timer : (q : model.DomainStage) (s : model.DomainAlone) → FewMore s (take_timer q s)
unfolding take_timer
few_timer (model.Running slot []) s = no_load (loads_of s)
few_timer _ s = no_load (loads_of s)

few_either : (b : Bool) (s x y : model.DomainAlone) → FewMore s x → FewMore s y → FewMore s (cond b x y)
few_either true s x y p q = p
few_either false s x y p q = q

few_resumed : (r : Resumes) (s : model.DomainAlone) → FewMore s (resumed_by r s)
unfolding resumed_by
few_resumed r s = few_either (is_granted r.answer) s _ _ (no_load (loads_of s)) (no_load (loads_of s))

few_resume : (d : ℕ) (q : model.DomainStage) (ctx reply : ℕ) (s : model.DomainAlone) → FewMore s (take_resume d q ctx reply s)
unfolding take_resume
few_resume d (model.Other hart) ctx reply s = few_either _ s _ _ (few_resumed _ s) (no_load (loads_of s))
few_resume d _ ctx reply s = no_load (loads_of s)

-- the end of the domain keeps its loads
few_gone : (d : ℕ) (s : model.DomainAlone) → FewMore s (domain_gone d s)
unfolding ended_domain
few_gone d s = no_load (loads_of s)

few_over : (d : ℕ) (ended : Bool) (q : model.DomainStage) (s : model.DomainAlone) → FewMore s (take_ended d ended q s)
unfolding take_ended
few_over d true (model.Other hart) s = no_load (loads_of s)
few_over d false (model.Other hart) s = few_gone d s
few_over d true model.Stopped s = few_gone d s
few_over d false model.Stopped s = few_gone d s
few_over d true model.Between s = no_load (loads_of s)
few_over d false model.Between s = no_load (loads_of s)
few_over d true (model.Running slot answers) s = no_load (loads_of s)
few_over d false (model.Running slot answers) s = no_load (loads_of s)
few_over d true model.Done s = no_load (loads_of s)
few_over d false model.Done s = no_load (loads_of s)

few_ended : (q : model.DomainStage) (s : model.DomainAlone) → FewMore s (domain_step_ended q s)
unfolding domain_step_ended
few_ended (model.Running slot answers) s = few_made _ s (once_tried slot answers s.part)
few_ended _ s = no_load (loads_of s)

few_begun : (schedule : List ℕ) (number : ℕ) (s now : model.DomainAlone) → FewMore s now → FewMore s (domain_step_begun schedule number now)
unfolding domain_step_begun
few_begun schedule number s now few = few

few_next : (schedule : List ℕ) (number : ℕ) (s now : model.DomainAlone) → FewMore s now → FewMore s (cond (is_some now.unfit) now (domain_step_begun schedule number now))
few_next schedule number s now few = few_either (is_some now.unfit) s now _ few (few_begun schedule number s now few)

few_step : (schedule : List ℕ) (number : ℕ) (q : model.DomainStage) (s : model.DomainAlone) → FewMore s (take_domain_step schedule number q s)
unfolding take_domain_step
few_step schedule number model.Stopped s = no_load (loads_of s)
few_step schedule number model.Between s = few_next schedule number s _ (few_ended model.Between s)
few_step schedule number (model.Other hart) s = few_next schedule number s _ (few_ended (model.Other hart) s)
few_step schedule number (model.Running slot answers) s = few_next schedule number s _ (few_ended (model.Running slot answers) s)
few_step schedule number model.Done s = few_next schedule number s _ (few_ended model.Done s)

few_takes : (d : ℕ) (schedule : List ℕ) (i : Item) (s : model.DomainAlone) → FewMore s (domain_takes d schedule i s)
unfolding domain_takes
few_takes d schedule (item.Step number) s = few_step schedule number s.stage s
few_takes d schedule (item.Close steps) s = few_ended s.stage s
few_takes d schedule (item.Timer domain) s = few_either _ s _ s (few_timer s.stage s) (no_load (loads_of s))
few_takes d schedule (item.Resume domain ctx reply) s = few_either _ s _ s (few_resume d s.stage ctx reply s) (no_load (loads_of s))
few_takes d schedule (item.Ended domain) s = few_either _ s _ s (few_over d _ s.stage s) (no_load (loads_of s))
few_takes d schedule (item.Cipher frame bytes) s = no_load (loads_of s)
few_takes d schedule (item.Put address width value) s = no_load (loads_of s)
few_takes d schedule (item.Leave shown) s = no_load (loads_of s)
few_takes d schedule item.End s = no_load (loads_of s)
few_takes d schedule _ s = few_either _ s _ s (few_answer s.stage _ s) (no_load (loads_of s))

pub few_taken : (d : ℕ) (schedule : List ℕ) (s : model.DomainAlone) (i : Item) → length (take_domain_item d schedule s i).part.domain.loads ≤ length s.part.domain.loads + 1
unfolding take_domain_item
few_taken d schedule s i = few_either (is_some s.unfit) s s _ (no_load (loads_of s)) (few_takes d schedule i s)
