-- The joint machine that is thawed stands for each state that can go on, over plain variables.
use Rattle.std.proofs.Common.{◌≡◌, ◌∙◌, ◌<◌, ◌≤◌, ℕ, zero, suc, true, false, List, [], ◌∷◌, length, map, slice_get, slice_index_or, Option, Some, None, refl, ap, sym, subst, arith, inl, inr}
use Rattle.std.specs.Prelude.{is_some, IfSome, IsSome, IsSomeAnd, sum_by}
use Rattle.std.proofs.lemmas.Bool.{cases_lt}
use Rattle.std.proofs.lemmas.List.{ext_get_or, get_or_past}
use Rattle.std.proofs.lemmas.List.Elements.{All-nil}
use Rattle.std.proofs.lemmas.List.Sums.{sum_by-cons}
use Rattle.cloak_base.specs.Random.{Random}
use Rattle.cloak_base.specs.declared.causes.Violation.{Violation}
use Rattle.cloak_base.specs.declared.names.Meta.{Meta}
use Rattle.cloak_base.specs.declared.names.PageId.{PageId}
use Rattle.cloak_base.specs.declared.names.SpaceId.{SpaceId}
use Rattle.cloak_model.specs.DomainState as program
use Rattle.cloak_model.specs.Hart.{Hart}
use Rattle.cloak_model.specs.Ledger.{Keys}
use Rattle.cloak_model.specs.Sealing.{Chained}
use Rattle.cloak_model.specs.Parts as model
use Rattle.cloak_model.specs.Resources.{Resources, pages_of, resource_at}
use Rattle.cloak_model.specs.declared.image.Bundle.{Bundle}
use Rattle.cloak_model.specs.declared.resource.Resource.{Resource}
use Rattle.resource_map.specs.Kept.{IsInUse}
use Rattle.frozen_state.specs.Continuing.{without_past}
use Rattle.frozen_state.specs.DomainPage.{IsProgram}
use Rattle.frozen_state.specs.FrozenState.{hart_with}
use Rattle.frozen_state.specs.Limits.{has_ended}
use Rattle.frozen_state.specs.Thawing.{CanGoOn, IsPageInUse}
use Rattle.frozen_state.specs.declared.frozen.Frozen.{Frozen}
use Rattle.frozen_state.specs.declared.frozen.FrozenDomain.{FrozenDomain}
use Rattle.frozen_state.specs.declared.frozen.FrozenHart.{FrozenHart}
use Rattle.thread_context.specs.Recorded.{root_at}
use Rattle.cloak_pager.specs.State.{IsWholePager, held_in}
use Rattle.cloak_pager.specs.Asking.{none_wiped}
use Rattle.shadow_fold.specs.Keeping.{Agrees}
use Rattle.shadow_fold.specs.Table.{Table, empty_table}
use Rattle.shadow_law.specs.Agreeing.{present}
use Rattle.cloaked_side.specs.Holding.{Holds}
use Rattle.joint_machine.specs.Standing.{StandsForJoint}
use Rattle.joint_machine.specs.Thawing.{AreNumberedHarts, AreThawedDomains, IsThawedPager, root_shown, violation_shown}
use Rattle.joint_machine.specs.declared.joint.Joint.{Joint}
use Rattle.joint_machine.proofs.GoesOn.{frozen_goes_on, goes_on_stands, programs_go_on, root_shown_low, root_shown_past, shown_roots, shown_violation}
use Rattle.joint_machine.proofs.Shown.{ShowsAll, domain_seen, meta_of_record, shows_all}
use Rattle.joint_machine.proofs.ThawedParts.{marks_shown}
use Rattle.joint_machine.proofs.Thaws.{get_there}
use Rattle.std.proofs.lemmas.Option.{slice_get_within}

-- Pages in use.

some_pages : (xs : List (Option Resource)) (n : ℕ) (held : Resource) → slice_index_or xs n None ≡ Some held →
    (n < length xs) × (held.pages ≤ sum_by pages_of xs)
some_pages [] n held is = absurd (cc)
some_pages (x ∷ xs) zero held is =
    let own : pages_of x ≡ held.pages = ap pages_of is in
    let sum = sum_by-cons pages_of x xs in
    (omega arith, omega (arith, own, sum))
some_pages (x ∷ xs) (suc n) held is =
    let rest = some_pages xs n held is in
    let sum = sum_by-cons pages_of x xs in
    let low = rest.0 in
    let few = rest.1 in
    (omega (arith, low), omega (arith, few, sum))

in_use_low : (j : model.Joint) (q : PageId) → ((d : ℕ) → IfSome (slice_get j.domains d) (λ (domain : program.Domain). IsProgram d domain.control)) →
    IsPageInUse j.domains q → (q.domain < length j.domains) × (q.resource < 16) × (q.page < 1024)
in_use_low j q programs used = by_domain (slice_get j.domains q.domain) refl used
  where
    by_resource : (d : program.Domain) (held : Option Resource) → IsProgram q.domain d.control →
        resource_at d.control.resources q.resource ≡ held → IsSomeAnd held (λ (r : Resource). q.page < r.pages) →
        (q.resource < 16) × (q.page < 1024)
    by_resource d None is at used = absurd used
    by_resource d (Some held) is at used =
        let pages = some_pages d.control.resources.held q.resource held at in
        let numbers = is.limits.resources.numbers in
        let few = is.limits.resources.few in
        let low = pages.0 in
        let most = pages.1 in
        (omega (arith, low, numbers), omega (arith, used, most, few))

    by_domain : (o : Option program.Domain) → slice_get j.domains q.domain ≡ o →
        IsSomeAnd o (λ (d : program.Domain). IsSomeAnd (resource_at d.control.resources q.resource) (λ (held : Resource). q.page < held.pages)) →
        (q.domain < length j.domains) × (q.resource < 16) × (q.page < 1024)
    by_domain None is used = absurd used
    by_domain (Some d) is used =
        let fits : IsProgram q.domain d.control =
        subst (λ (o : Option program.Domain). IfSome o (λ (domain : program.Domain). IsProgram q.domain domain.control)) is (programs q.domain) in
        let rest = by_resource d (resource_at d.control.resources q.resource) fits refl used in
        (slice_get_within j.domains q.domain d is, rest.0, rest.1)

known_is_recorded : (r v : Option (List ℕ)) (t : Meta) → meta_of_record r v ≡ Some t → is_some r ≡ true
known_is_recorded None v t is = absurd (cc)
known_is_recorded (Some c) v t is = refl

-- Page tables.

no_root : (o : Option ℕ) → (is_some o ≡ true → ⊥) → None ≡ o
no_root None none = refl
no_root (Some w) none = absurd (none refl)

space_low : (r : Resources) (space : ℕ) → length r.spaces ≡ 8 → 8 ≤ space → IsInUse r space → ⊥
space_low r space count past used =
    let clash = subst IsSome (get_or_past r.spaces space None (omega (arith, count, past))) used in cc

pub roots_go_on : (b : Bundle) (stream : Random) (f : Frozen) (j : model.Joint) → CanGoOn b stream f j → ShowsAll j f →
    (s : SpaceId) → root_shown (slice_get f.domains s.domain) s.number ≡ j.memory.ledger.root s
roots_go_on b stream f j goes all s = by_domain (slice_get j.domains s.domain) refl (slice_get f.domains s.domain) refl
  where
    program_at : (d : program.Domain) → slice_get j.domains s.domain ≡ Some d → IsProgram s.domain d.control
    program_at d is =
        subst (λ (o : Option program.Domain). IfSome o (λ (domain : program.Domain). IsProgram s.domain domain.control)) is (goes.programs s.domain)

    none_low : (xs : List program.Domain) (k : ℕ) → k < length xs → slice_get xs k ≡ None → ⊥
    none_low [] k low none = omega (arith, low)
    none_low (x ∷ xs) zero low none = cc
    none_low (x ∷ xs) (suc k) low none = none_low xs k (omega (arith, low)) none

    by_domain : (d : Option program.Domain) → slice_get j.domains s.domain ≡ d → (x : Option FrozenDomain) →
        slice_get f.domains s.domain ≡ x → root_shown x s.number ≡ j.memory.ledger.root s
    by_domain None is None at =
        no_root (j.memory.ledger.root s) (λ rooted. subst (λ (o : Option program.Domain). IsSomeAnd o (λ (d : program.Domain). IsInUse d.control.resources s.number)) is (goes.roots s rooted))
    by_domain (Some d) is None at =
        let low = slice_get_within j.domains s.domain d is in
        let zeros : FrozenDomain = record { violation = None; roots = []; meta = record { iv = []; digest = [] }; page = [] } in
        let there = get_there f.domains s.domain zeros (let c = all.domains.count in omega (arith, low, c)) in
        absurd (let no : None ≡ Some (slice_index_or f.domains s.domain zeros) = sym at ∙ there in cc)
    by_domain None is (Some shown) at =
        let low = slice_get_within f.domains s.domain shown at in
        let inside : s.domain < length j.domains = (let c = all.domains.count in omega (arith, low, c)) in
        absurd (none_low j.domains s.domain inside is)
    by_domain (Some d) is (Some shown) at =
        let tables = shown_roots j s.domain d shown (domain_seen j f all s.domain shown d at is) in
        ap (λ (l : List (Option ℕ)). slice_index_or l s.number None) tables
        ∙ elim (cases_lt s.number 8) [
          | inl low ↦ root_shown_low j.memory.ledger.root s.domain s.number low
          | inr past ↦
              root_shown_past j.memory.ledger.root s.domain s.number past
              ∙ no_root (j.memory.ledger.root s) (λ rooted.
              space_low d.control.resources s.number (program_at d is).limits.resources.places past
              (subst (λ (o : Option program.Domain). IsSomeAnd o (λ (e : program.Domain). IsInUse e.control.resources s.number)) is (goes.roots s rooted)))
        ]

-- What ended programs.

no_end : (o : Option Violation) → is_some o ≡ false → None ≡ o
no_end None none = refl
no_end (Some v) none = absurd (cc)

pub ends_go_on : (b : Bundle) (stream : Random) (f : Frozen) (j : model.Joint) (ended : List (Option Violation)) →
    CanGoOn b stream f j → ShowsAll j f → length ended ≡ 4 →
    ((d : ℕ) → slice_index_or ended d None ≡ violation_shown (slice_get f.domains d)) → ended ≡ j.ended
ends_go_on b stream f j ended goes all count are =
    ext_get_or None ended j.ended (count ∙ sym goes.ended.four) (λ d low.
    are d ∙ by_domain d (slice_get f.domains d) refl)
  where
    none_shown : (d : ℕ) (o : Option program.Domain) → slice_get j.domains d ≡ o → slice_get f.domains d ≡ None →
        None ≡ slice_index_or j.ended d None
    none_shown d None is at = no_end (slice_index_or j.ended d None) (goes.ended.taken d ∙ ap has_ended is)
    none_shown d (Some e) is at =
        let low = slice_get_within j.domains d e is in
        let zeros : FrozenDomain = record { violation = None; roots = []; meta = record { iv = []; digest = [] }; page = [] } in
        let there = get_there f.domains d zeros (let c = all.domains.count in omega (arith, low, c)) in
        absurd (let no : None ≡ Some (slice_index_or f.domains d zeros) = sym at ∙ there in cc)

    there_is : (xs : List program.Domain) (k : ℕ) → k < length xs → (x : program.Domain) × (slice_get xs k ≡ Some x)
    there_is [] k low = absurd (omega (arith, low))
    there_is (x ∷ xs) zero low = (x, refl)
    there_is (x ∷ xs) (suc k) low = there_is xs k (omega (arith, low))

    by_domain : (d : ℕ) (x : Option FrozenDomain) → slice_get f.domains d ≡ x →
        violation_shown x ≡ slice_index_or j.ended d None
    by_domain d None at = none_shown d (slice_get j.domains d) refl at
    by_domain d (Some shown) at =
        let low = slice_get_within f.domains d shown at in
        let at_j = there_is j.domains d (let c = all.domains.count in omega (arith, low, c)) in
        shown_violation j d at_j.0 shown (domain_seen j f all d shown at_j.0 at at_j.1)

-- The machine.

-- what was made of a frozen state
pub record IsMadeOf (joint : Joint) (keys : Keys) (rest : Random) (f : Frozen) : Type 0 where
  pub pager : IsThawedPager joint.memory.pager keys (length f.domains) f.frames f.recorded
  pub chained : keys.seal ≡ Chained
  pub whole : IsWholePager joint.memory.pager
  pub stream : joint.memory.stream ≡ rest
  pub draws : joint.memory.draws ≡ f.draws
  pub missed : joint.memory.missed ≡ false
  pub marks : joint.memory.reservations ≡ map (λ (h : FrozenHart). h.mark) f.harts
  pub shadows : joint.memory.shadows ≡ empty_table (length joint.memory.pager.frames)
  pub domains : AreThawedDomains keys f joint.domains.items
  pub harts : (marks : List (Option ℕ)) (hs : List Hart) → AreNumberedHarts hs → map (hart_with marks) hs ≡ f.harts →
      joint.harts.items ≡ hs
  pub roots : (s : SpaceId) → root_at joint.roots s ≡ root_shown (slice_get f.domains s.domain) s.number
  pub ended_count : length joint.ended ≡ 4
  pub ended : (d : ℕ) → slice_index_or joint.ended d None ≡ violation_shown (slice_get f.domains d)
  pub disk : joint.disk ≡ f.disk
  pub refused : joint.refused ≡ f.refused

memory_goes_on : (joint : Joint) (keys : Keys) (rest : Random) (b : Bundle) (stream : Random) (f : Frozen) (j : model.Joint) →
    IsMadeOf joint keys rest f → CanGoOn b stream f j → ShowsAll j f → j.memory.ledger.keys ≡ keys →
    j.memory.ledger.stream ≡ rest → Holds joint.memory j.memory
memory_goes_on joint keys rest b stream f j made goes all same left = record {
  wiped = none_wiped;
  pager =
      goes_on_stands joint.memory.pager j.memory made.whole
      (frozen_goes_on joint.memory.pager keys (length f.domains) f j made.pager same made.chained all goes.pages
      goes.owed_places
      (λ q t known. in_use_low j q goes.programs (goes.recorded q (known_is_recorded (j.memory.ledger.recorded q) (j.memory.ledger.iv q) t known))));
  whole = λ drawn q. refl;
  stream = left ∙ sym made.stream;
  draws = made.draws ∙ all.draws;
  missed = made.missed ∙ sym goes.no_miss;
  agrees =
      subst (λ (t : Table). Agrees (present (held_in joint.memory.pager) j.memory) t) (sym made.shadows) (All-nil _);
  room = ap (λ (t : Table). t.frames) made.shadows;
  marks = made.marks ∙ marks_shown j f all goes.harts goes.mark_places;
}

pub joint_goes_on : (joint : Joint) (keys : Keys) (rest : Random) (b : Bundle) (stream : Random) (f : Frozen) (j : model.Joint) →
    IsMadeOf joint keys rest f → CanGoOn b stream f j → j.memory.ledger.keys ≡ keys → j.memory.ledger.stream ≡ rest →
    StandsForJoint joint (without_past j)
joint_goes_on joint keys rest b stream f j made goes same left =
    let all = shows_all j f f.steps goes.ivs goes.state in
    record {
      harts = made.harts j.memory.marks j.harts goes.harts (sym all.harts);
      disk = made.disk ∙ all.disk;
      memory = memory_goes_on joint keys rest b stream f j made goes all same left;
      domains = programs_go_on b stream f j keys joint.domains.items goes all same made.domains;
      roots = λ s. made.roots s ∙ roots_go_on b stream f j goes all s;
      ended = ends_go_on b stream f j joint.ended goes all made.ended_count made.ended;
      refused = made.refused ∙ all.refused;
    }
