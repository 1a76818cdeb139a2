-- A program that is shown as a domain, over plain variables.
use Rattle.std.proofs.Common.{◌≡◌, ◌∙◌, ℕ, Bool, false, List, [], refl, ap, sym, subst}
use Rattle.std.specs.Prelude.{is_some}
use Rattle.aes_block.specs.Bytes.{IsBytes}
use Rattle.cloak_model.specs.Chain.{cbc}
use Rattle.cloak_model.specs.DomainState as program
use Rattle.cloak_model.specs.Ledger.{Keys, domain_key}
use Rattle.frozen_state.specs.DomainPage.{IsPageOf, IsProgram, domain_page}
use Rattle.frozen_state.specs.Refusing.{IsProgramOf}
use Rattle.frozen_state.specs.declared.frozen.Frozen.{Frozen}
use Rattle.frozen_state.specs.declared.frozen.FrozenDomain.{FrozenDomain}
use Rattle.hypercalls.specs.Paging.{IsReadAs}
use Rattle.hypercalls.specs.declared.domain.Domain.{Domain}
use Rattle.hypercalls.specs.Standing.{StandsFor, control_of}
use Rattle.joint_machine.specs.Thawing.{FitsResources, IsThawedDomain}
use Rattle.joint_machine.proofs.PageBytes.{page_is_bytes}

-- whether it has ended is told beside the page

re_ended : (number : ℕ) (d : program.Control) (b : Bool) → IsProgram number d → IsProgram number (record d { ended = b })
re_ended number d b is = record {
  numbered = is.numbered;
  limits = record {
    slots = is.limits.slots;
    contexts = is.limits.contexts;
    resources = is.limits.resources;
    regions = is.limits.regions;
  };
  words = is.words;
  file_words = is.file_words;
}

page_re_ended : (d : program.Control) (b : Bool) → domain_page (record d { ended = b }) ≡ domain_page d
unfolding domain_page
page_re_ended d b = refl

-- these bytes are the only page that seals to what is shown
abbrev pub OpensShown : Keys → ℕ → FrozenDomain → List ℕ → Type 0
OpensShown keys number shown plain =
    (cbc (domain_key keys number) shown.meta.iv plain ≡ shown.page)
    × ((q : List ℕ) → IsBytes 4096 q → cbc (domain_key keys number) shown.meta.iv q ≡ shown.page → plain ≡ q)

-- a program that is shown has this page
pub page_shown : (keys : Keys) (f : Frozen) (number : ℕ) (shown : FrozenDomain) (control : program.Control) (plain : List ℕ) →
    OpensShown keys number shown plain → IsProgramOf keys f number shown control →
    IsPageOf number plain (record control { ended = false })
page_shown keys f number shown control plain opens is = record {
  program = re_ended number control false is.program;
  goes_on = refl;
  spelled =
      page_re_ended control false
      ∙ sym (opens.1 (domain_page control) (page_is_bytes number control is.program) is.page);
}

pub fits_program : (keys : Keys) (f : Frozen) (number : ℕ) (shown : FrozenDomain) (control : program.Control) →
    IsProgramOf keys f number shown control → FitsResources f number shown control.resources
fits_program keys f number shown control is = record { owed = is.owed; recorded = is.recorded; roots = is.roots }

with_flag : (control : program.Control) (b : Bool) → b ≡ control.ended → record control { ended = b } ≡ control
with_flag control b is = λ i. record control { ended = is i }

pub domain_thawed : (keys : Keys) (f : Frozen) (number : ℕ) (shown : FrozenDomain) (plain : List ℕ) (domain : Domain)
    (ended : Bool) → ended ≡ is_some shown.violation → OpensShown keys number shown plain →
    IsReadAs number ended plain (control_of domain) →
    ((d : program.Control) → IsPageOf number plain d →
    StandsFor domain (record { control = record d { ended = ended }; loads = [] })) →
    FitsResources f number shown (control_of domain).resources → IsThawedDomain keys f number shown domain
domain_thawed keys f number shown plain domain ended met opens reads one fits =
    let c = control_of domain in
    record {
      is = record {
        program = re_ended number (record c { ended = false }) c.ended reads.page.program;
        ended = reads.told ∙ met;
        page =
            ap (cbc (domain_key keys number) shown.meta.iv) (sym (page_re_ended c false) ∙ reads.page.spelled) ∙ opens.0;
        owed = fits.owed;
        recorded = fits.recorded;
        roots = fits.roots;
      };
      number = reads.page.program.numbered;
      only = λ control is.
          subst (λ (d : program.Control). StandsFor domain (record { control = d; loads = [] }))
          (with_flag control ended (met ∙ sym is.ended))
          (one (record control { ended = false }) (page_shown keys f number shown control plain opens is));
    }

-- the resources of a program that is shown are those that were read
pub same_resources : (keys : Keys) (f : Frozen) (number : ℕ) (shown : FrozenDomain) (plain : List ℕ) (domain : Domain)
    (ended : Bool) (control : program.Control) → OpensShown keys number shown plain →
    IsReadAs number ended plain (control_of domain) → IsProgramOf keys f number shown control →
    control.resources ≡ (control_of domain).resources
same_resources keys f number shown plain domain ended control opens reads is =
    sym (ap (λ (d : program.Control). d.resources)
    (reads.one (record control { ended = false }) (page_shown keys f number shown control plain opens is)))
