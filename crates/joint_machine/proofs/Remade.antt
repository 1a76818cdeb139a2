-- A machine that is made of a frozen state, over plain variables.
use Rattle.std.proofs.Common.{◌≡◌, ◌∙◌, ℕ, true, List, [], length, map, slice_get, slice_index_or, Option, Some, None, Result, Ok, Err, All, refl, ap, sym, subst, arith, inl, inr}
use Rattle.std.specs.Prelude.{IfErr, IfOk, IfSome, IsSomeAnd, is_some, option_and_then, option_map}
use Rattle.std.proofs.lemmas.Bool.{cases_lt}
use Rattle.std.proofs.lemmas.List.{get_or_past}
use Rattle.cloak_base.specs.Random.{Random}
use Rattle.cloak_base.specs.declared.names.PageId.{PageId}
use Rattle.cloak_base.specs.declared.names.Meta.{Meta}
use Rattle.cloak_model.specs.declared.image.Bundle.{Bundle}
use Rattle.cloak_model.specs.DomainState as program
use Rattle.cloak_model.specs.Ledger.{Keys}
use Rattle.cloak_model.specs.Beginning.{stored_keys}
use Rattle.cloak_model.specs.Sealing.{Chained}
use Rattle.cloak_model.specs.Opening.{drawn_keys, filled_up, key_count, keys_for}
use Rattle.cloak_model.specs.declared.image.Program.{Program}
use Rattle.shadow_fold.specs.Table as shadow
use Rattle.frozen_state.specs.Ranges.{IsFrozenHart}
use Rattle.frozen_state.specs.Refusing.{IsFirstChanged, IsFirstWrong, IsProgramOf, IsWholeDomain, IsWholeFrame, UnderKeys}
use Rattle.frozen_state.specs.Thawing.{keys_and_rest}
use Rattle.frozen_state.specs.declared.frozen.Frozen.{Frozen}
use Rattle.frozen_state.specs.declared.frozen.FrozenDomain.{FrozenDomain}
use Rattle.frozen_state.specs.declared.frozen.FrozenFrame.{FrozenFrame}
use Rattle.frozen_state.specs.declared.frozen.FrozenHart.{FrozenHart}
use Rattle.frozen_state.specs.declared.frozen.FrozenPage.{FrozenPage}
use Rattle.io_traits.specs.Skipping.{skipped}
use Rattle.cloak_pager.specs.State as pager
use Rattle.cloak_pager.specs.State.{PagerState, IsFresh, IsWholePager, bytes_in, held_in, owed_at, page_of, right_at}
use Rattle.cloak_pager.specs.declared.frame_right.FrameRight.TheVariants.{Spent}
use Rattle.hypercalls.specs.declared.domain.Domain.{Domain}
use Rattle.hypercalls.specs.Standing.{control_of}
use Rattle.joint_machine.specs.Freezing.{AreOwedOrOutside}
use Rattle.joint_machine.specs.Thawing.{AreHarts, AreThawedDomains, IsFaultUnder, IsThawedFrame, IsThawedPager, IsDomainFault, IsThawFault, ThawsJoint, ThawsUnder}
use Rattle.joint_machine.specs.declared.joint.Joint.{Joint}
use Rattle.joint_machine.specs.declared.thaw_fault.ThawFault.{ThawFault}
use Rattle.joint_machine.specs.declared.thaw_fault.ThawFault.TheVariants as fault
use Rattle.joint_machine.proofs.JointGoesOn.{IsMadeOf, joint_goes_on}
use Rattle.joint_machine.proofs.Opens.{HasKeys}
use Rattle.joint_machine.proofs.Thaws.{get_there, some_there}
use Rattle.std.proofs.lemmas.Option.{same_Some, slice_get_within}

-- Ranges.

pub steady : (frames : ℕ) (hs : List FrozenHart) → All (IsFrozenHart frames) hs → AreHarts hs
steady frames hs all = λ i h low. record { aligned = (all i h low).aligned; csrs = (all i h low).csrs }

-- The pager.

pub thawed_settled : (p : PagerState) (keys : Keys) (domains : ℕ) (frames : List FrozenFrame) (recorded : List FrozenPage) →
    IsThawedPager p keys domains frames recorded → IsWholePager p → AreOwedOrOutside p
thawed_settled p keys domains frames recorded thawed whole k = elim (cases_lt k (length frames)) [
  | inl low ↦
      let empty : FrozenFrame = record { bytes = []; owed = None } in
      let frame = slice_index_or frames k empty in
      by_owed frame frame.owed (thawed.each k frame (get_there frames k empty low))
  | inr past ↦
      let spent : right_at p k ≡ Spent =
      get_or_past p.rights k Spent (let a = whole.count in let b = thawed.count in omega (arith, past, a, b)) in
      ap page_of spent ∙ ap pager.owed_under (sym spent)
]
  where
    by_owed : (frame : FrozenFrame) (owed : Option (PageId × Meta)) → IsThawedFrame p k frame owed →
        held_in p k ≡ owed_at p k
    by_owed frame None is = ap page_of is.0 ∙ sym (ap pager.owed_under is.0)
    by_owed frame (Some owed) is = ap page_of is.0 ∙ sym (ap pager.owed_under is.0)

-- The programs.

pub all_programs : (keys : Keys) (f : Frozen) (xs : List Domain) → AreThawedDomains keys f xs → (d : ℕ) →
    IfSome (slice_get f.domains d) (λ shown. (control : program.Control) × IsProgramOf keys f d shown control)
all_programs keys f xs thawed d = by_shown (slice_get f.domains d) refl
  where
    by_shown : (o : Option FrozenDomain) → slice_get f.domains d ≡ o →
        IfSome o (λ shown. (control : program.Control) × IsProgramOf keys f d shown control)
    by_shown None is = tt
    by_shown (Some shown) is =
        let low = slice_get_within f.domains d shown is in
        let at = some_there xs d (let c = thawed.count in omega (arith, low, c)) in
        (control_of at.0, (thawed.each d shown at.0 is at.1).is)

-- The machine.

pub made_under : (joint : Joint) (keys : Keys) (rest : Random) (f : Frozen) → IsMadeOf joint keys rest f →
    All IsWholeFrame f.frames → length joint.harts.items ≡ length f.harts → ThawsUnder keys rest f joint
made_under joint keys rest f made whole harts = record {
  frames = whole;
  programs = all_programs keys f joint.domains.items made.domains;
  stands = λ b stream j goes same left. joint_goes_on joint keys rest b stream f j made goes same left;
  harts = harts;
  settled = thawed_settled joint.memory.pager keys (length f.domains) f.frames f.recorded made.pager made.whole;
  empty = ap (λ (t : shadow.Table). t.live) made.shadows;
}

-- The stream.

-- the keys of a run, and what is left after these draws more
pub keys_then : (b : Bundle) (s rest left : Random) (keys : Keys) (draws : ℕ) → HasKeys b s rest keys →
    skipped draws rest ≡ Some left → keys_and_rest b draws s ≡ Some (keys, left)
unfolding keys_and_rest
keys_then b s rest left keys draws has skips =
    let then' : List (List ℕ) × Random → Option (Keys × Random) =
    λ drawn. option_map (λ (r : Random). (keys_for b.programs drawn.0, r)) (skipped draws drawn.1) in
    let named : Random → Keys × Random = λ r. (keys_for b.programs has.drawn, r) in
    let told : Keys → Option (Keys × Random) = λ k. Some (k, left) in
    ap (option_and_then then') has.are ∙ (ap (option_map named) skips ∙ ap told (sym has.keys_are))

pub keys_short : (b : Bundle) (s rest : Random) (keys : Keys) (draws : ℕ) → HasKeys b s rest keys →
    skipped draws rest ≡ None → keys_and_rest b draws s ≡ None
unfolding keys_and_rest
keys_short b s rest keys draws has short =
    let then' : List (List ℕ) × Random → Option (Keys × Random) =
    λ drawn. option_map (λ (r : Random). (keys_for b.programs drawn.0, r)) (skipped draws drawn.1) in
    let named : Random → Keys × Random = λ r. (keys_for b.programs has.drawn, r) in
    ap (option_and_then then') has.are ∙ ap (option_map named) short

pub keys_there : (b : Bundle) (s rest : Random) (keys : Keys) → HasKeys b s rest keys →
    is_some (drawn_keys (key_count b.programs) s) ≡ true
keys_there b s rest keys has = ap is_some has.are

pub joint_thawed : (b : Bundle) (s left : Random) (keys : Keys) (f : Frozen) (joint : Joint) →
    keys_and_rest b f.draws s ≡ Some (keys, left) → All IsWholeDomain f.domains → ThawsUnder keys left f joint →
    ThawsJoint b s f joint
joint_thawed b s left keys f joint drawn domains under = record {
  keys = keys;
  rest = left;
  drawn = drawn;
  thawable = record { domains = domains; frames = under.frames; programs = under.programs };
  stands = λ j goes.
      let here : Keys × Random = (j.memory.ledger.keys, j.memory.ledger.stream) in
      let there : Keys × Random = (keys, left) in
      let same : here ≡ there = same_Some here there (sym goes.keys ∙ drawn) in
      under.stands b s j goes (ap (λ (p : Keys × Random). p.0) same) (ap (λ (p : Keys × Random). p.1) same);
}

-- Causes.

pub keys_stored : (b : Bundle) (numbered : List (List ℕ)) (group : List ℕ) (programs : List Program) →
    group ≡ filled_up 0 (map (λ (p : Program). p.key) programs) → programs ≡ b.programs →
    (let keys : Keys = record { numbered = numbered; group = group; seal = Chained } in keys) ≡ stored_keys b numbered
keys_stored b numbered group programs is same = λ i. record {
  numbered = numbered;
  group = (is ∙ ap (λ (ps : List Program). filled_up 0 (map (λ (p : Program). p.key) ps)) same) i;
  seal = Chained;
}

pub domain_fault : (keys other : Keys) (f : Frozen) (x : ThawFault) → other ≡ keys → All IsWholeFrame f.frames →
    IsDomainFault other f x → IsFaultUnder keys f x
domain_fault keys other f fault.NoKey same whole is = absurd is
domain_fault keys other f fault.NoRandom same whole is = absurd is
domain_fault keys other f (fault.Domain n) same whole is = absurd is
domain_fault keys other f (fault.Frame n) same whole is = absurd is
domain_fault keys other f (fault.Form at) same whole is = (whole, subst (λ (k : Keys). IsFirstWrong k f at) same is)
domain_fault keys other f fault.NoMemory same whole is = tt

pub under_keys : (b : Bundle) (s left : Random) (keys : Keys) (f : Frozen) (P : Keys → Type 0) →
    keys_and_rest b f.draws s ≡ Some (keys, left) → P keys → UnderKeys b s f P
under_keys b s left keys f P drawn is =
    subst (λ (o : Option (Keys × Random)). IsSomeAnd o (λ (d : Keys × Random). P d.0)) (sym drawn) is

fault_under : (b : Bundle) (s left : Random) (keys : Keys) (f : Frozen) (x : ThawFault) →
    keys_and_rest b f.draws s ≡ Some (keys, left) → All IsWholeDomain f.domains → IsFaultUnder keys f x →
    IsThawFault b s f x
fault_under b s left keys f fault.NoKey drawn domains is = absurd is
fault_under b s left keys f fault.NoRandom drawn domains is = absurd is
fault_under b s left keys f (fault.Domain n) drawn domains is = absurd is
fault_under b s left keys f (fault.Frame n) drawn domains is =
    under_keys b s left keys f (λ k. All IsWholeDomain f.domains × IsFirstChanged IsWholeFrame f.frames n) drawn (domains, is)
fault_under b s left keys f (fault.Form at) drawn domains is =
    under_keys b s left keys f (λ k. All IsWholeDomain f.domains × (All IsWholeFrame f.frames × IsFirstWrong k f at)) drawn (domains, is)
fault_under b s left keys f fault.NoMemory drawn domains is = tt

pub thaws_result : (b : Bundle) (s left : Random) (keys : Keys) (f : Frozen) (r : Result Joint ThawFault) →
    keys_and_rest b f.draws s ≡ Some (keys, left) → All IsWholeDomain f.domains → IfOk r (ThawsUnder keys left f) →
    IfOk r (ThawsJoint b s f)
thaws_result b s left keys f (Ok joint) drawn domains is = joint_thawed b s left keys f joint drawn domains is
thaws_result b s left keys f (Err x) drawn domains is = tt

pub faults_result : (b : Bundle) (s left : Random) (keys : Keys) (f : Frozen) (r : Result Joint ThawFault) →
    keys_and_rest b f.draws s ≡ Some (keys, left) → All IsWholeDomain f.domains → IfErr r (IsFaultUnder keys f) →
    IfErr r (IsThawFault b s f)
faults_result b s left keys f (Ok joint) drawn domains is = tt
faults_result b s left keys f (Err x) drawn domains is = fault_under b s left keys f x drawn domains is
