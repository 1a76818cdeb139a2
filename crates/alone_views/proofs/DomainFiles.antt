-- What becomes of a program before its first item as it gets a file or the bytes of a page.
use Rattle.std.proofs.Common.{◌≡◌, ◌∙◌, ◌<◌, ◌+◌, ◌*◌, ◌==◌, ◌&&◌, ℕ, Bool, true, false, cond, List, [], length, get_or, slice_index_or, slice_set, None, Result, Ok, Err, refl, ap, sym, subst, arith, inl, inr}
use Rattle.std.specs.Prelude.{IfErr}
use Rattle.std.proofs.lemmas.List.{get_or-set_same, get_or-set_other}
use Rattle.std.proofs.lemmas.Bool.Decides.{Decides-eqb}
use Rattle.cloak_base.proofs.Pages.{told}
use Rattle.cloak_model.specs.declared.resource.MapFault.{MapFault}
use Rattle.cloak_model.specs.DomainState.{with_resources}
use Rattle.cloak_model.specs.DomainAlone as model
use Rattle.cloak_model.specs.DomainAlone.{with_bytes_of, with_given_pages, opened_with_part}
use Rattle.cloak_model.specs.Parts.{DomainPart}
use Rattle.cloak_model.specs.Resources.{Mapped}
use Rattle.hypercalls.specs.declared.domain.Domain.{Domain}
use Rattle.hypercalls.specs.Filing as filing
use Rattle.hypercalls.specs.Standing.{StandsFor}
use Rattle.alone_views.specs.declared.domain.DomainAlone.{DomainAlone}
use Rattle.alone_views.specs.DomainBeginning.{AddsFile, BeginsWith}
use Rattle.alone_views.specs.DomainPages.{HasPlain}
use Rattle.alone_views.specs.DomainStanding.{StandsForPart, StandsForState, StandsWhileFit, stage_told, hart_at, schedule_in, number_in}
use Rattle.alone_views.proofs.DomainTakes.{stands_at}

-- the machine of another part, with all else as it was
pub begins_so : {d : ℕ} {schedule : List ℕ} {old new : DomainAlone} {p q : DomainPart} → BeginsWith d schedule old p →
    number_in new ≡ number_in old → schedule_in new ≡ schedule_in old → new.unfit ≡ old.unfit → new.steps ≡ old.steps →
    stage_told (hart_at (schedule_in new) new.steps) new.stage ≡ stage_told (hart_at (schedule_in old) old.steps) old.stage →
    StandsForPart new q → BeginsWith d schedule new q
begins_so {d} {schedule} {old} {new} {p} {q} begins number turns unfit steps at part =
    let was = begins.state.while_fit refl in
    record {
      numbered = number ∙ begins.numbered;
      scheduled = turns ∙ begins.scheduled;
      state = stands_at new (opened_with_part q) q model.Between refl (unfit ∙ was.unfit) (steps ∙ was.steps) part
          (was.stage ∙ sym at);
    }

-- a file is added, or refused
adds_so : {d : ℕ} {schedule : List ℕ} {old new : DomainAlone} {p : DomainPart} (given : Result ℕ MapFault)
    (made : Mapped ℕ) (answer : Result ℕ MapFault) → answer ≡ made.answer → given ≡ made.answer →
    BeginsWith d schedule old p →
    number_in new ≡ number_in old → schedule_in new ≡ schedule_in old → new.unfit ≡ old.unfit → new.steps ≡ old.steps →
    stage_told (hart_at (schedule_in new) new.steps) new.stage ≡ stage_told (hart_at (schedule_in old) old.steps) old.stage →
    new.side.pages ≡ old.side.pages → StandsFor new.domain (with_resources made.resources p.domain) →
    IfErr given (λ fault. new.domain ≡ old.domain) → BeginsWith d schedule new (model.with_given [] answer made.resources p)
unfolding model.with_given with_given_pages
adds_so {d} {schedule} {old} {new} {p} given made (Ok n) is so begins number turns unfit steps at pages stands same =
    let was = (begins.state.while_fit refl).part in
    begins_so begins number turns unfit steps at (record {
      domain = stands;
      pages = subst (λ (x : List (List ℕ)). HasPlain x p.plain) (sym pages) was.pages;
      slots = was.slots;
    })
adds_so {d} {schedule} {old} {new} {p} given made (Err fault) is so begins number turns unfit steps at pages stands same =
    let was = (begins.state.while_fit refl).part in
    let refused : new.domain ≡ old.domain =
    subst (λ (r : Result ℕ MapFault). IfErr r (λ fault. new.domain ≡ old.domain)) (so ∙ sym is) same in
    begins_so begins number turns unfit steps at (record {
      domain = subst (λ (x : Domain). StandsFor x p.domain) (sym refused) was.domain;
      pages = subst (λ (x : List (List ℕ)). HasPlain x p.plain) (sym pages) was.pages;
      slots = was.slots;
    })

pub adds_file : {d : ℕ} {schedule : List ℕ} {old new : DomainAlone} {p : DomainPart} (given : Result ℕ MapFault)
    (made : Mapped ℕ) → BeginsWith d schedule old p →
    number_in new ≡ number_in old → schedule_in new ≡ schedule_in old → new.unfit ≡ old.unfit → new.steps ≡ old.steps →
    stage_told (hart_at (schedule_in new) new.steps) new.stage ≡ stage_told (hart_at (schedule_in old) old.steps) old.stage →
    new.side.pages ≡ old.side.pages → filing.AddsFile new.domain p.domain given made →
    IfErr given (λ fault. new.domain ≡ old.domain) → AddsFile d schedule new given p made
adds_file {d} {schedule} {old} {new} {p} given made begins number turns unfit steps at pages adds same = record {
  answer = adds.answer;
  begins = adds_so given made made.answer refl adds.answer begins number turns unfit steps at pages adds.domain_stands same;
}

-- a page has these bytes, and the others are as they were
pub has_bytes : (pages now : List (List ℕ)) (plain : ℕ → ℕ → List ℕ) (resource page : ℕ) (bytes : List ℕ) →
    resource < 16 → page < 1024 → length pages ≡ 16384 → now ≡ slice_set pages (resource * 1024 + page) bytes →
    HasPlain pages plain → HasPlain now (with_bytes_of resource page bytes plain)
has_bytes pages now plain resource page bytes low few all is was = λ r k below inside.
    ap (λ (l : List (List ℕ)). slice_index_or l (r * 1024 + k) []) is
    ∙ elim (told (r == resource) (Decides-eqb r resource)) [
      | inl same ↦ elim (told (k == page) (Decides-eqb k page)) [
        | inl here ↦ rw (same.1, here.1, (let a : (resource == resource) ≡ true = ap (λ (x : ℕ). x == resource) (sym same.1) ∙ same.0 in a), (let b : (page == page) ≡ true = ap (λ (x : ℕ). x == page) (sym here.1) ∙ here.0 in b))
            (get_or-set_same pages (resource * 1024 + page) bytes [] (omega (arith, low, few, all)))
        | inr other ↦ rw (same.0, other.0)
            (get_or-set_other pages (resource * 1024 + page) (r * 1024 + k) bytes []
            (λ equal. other.1 (let one = same.1 in omega (arith, one, equal))) ∙ was r k below inside)
      ]
      | inr other ↦ rw other.0
          (get_or-set_other pages (resource * 1024 + page) (r * 1024 + k) bytes []
          (λ equal. other.1 (omega (arith, equal, inside, few))) ∙ was r k below inside)
    ]
