-- A page that was read is that of one program.
use Rattle.std.proofs.Common.{◌≡◌, ◌∙◌, ℕ, false, List, Option, Some, None, refl, sym, subst}
use Rattle.std.specs.Prelude.{IfSome}
use Rattle.cloak_model.specs.Contexts.{Context}
use Rattle.cloak_model.specs.DomainState.{Control}
use Rattle.cloak_model.specs.Resources.{Resources, regions_in}
use Rattle.frozen_state.specs.DomainPage.{domain_page, IsProgram, IsPageOf}
use Rattle.frozen_state.specs.Limits.{IsContext, IsSpace}
use Rattle.resource_map.specs.Kept.{IsSound}
use Rattle.domain_page.specs.Parts.{ArePartsOf}
use Rattle.domain_page.specs.Reading.{program_of, IsRead, IsNoPage}
use Rattle.domain_page.specs.Writing.{IsOnHart}
use Rattle.domain_page.specs.declared.reading.Parts.{Parts}
use Rattle.std.proofs.lemmas.Option.{same_Some}

same_program : (number : ℕ) (d : Control) (contexts : List (Option Context)) (resources : Resources) →
    d.number ≡ number → d.ended ≡ false → contexts ≡ d.contexts → resources ≡ d.resources →
    d ≡ program_of number contexts resources
same_program number d contexts resources a b c e = rw (c, e, ← a, ← b) refl

-- what is known of each program with the page
pub record IsFound (contexts : List (Option Context)) (resources : Resources) (d : Control) : Type 0 where
  pub contexts_are : contexts ≡ d.contexts
  pub resources_are : resources ≡ d.resources

module _ (bytes : List ℕ) (contexts : List (Option Context)) (resources : Resources)
    (found : (number : ℕ) (d : Control) → IsPageOf number bytes d → IsFound contexts resources d) where
  one : (number : ℕ) (d : Control) → IsPageOf number bytes d → d ≡ program_of number contexts resources
  one number d is =
      let f = found number d is in
      same_program number d contexts resources is.program.numbered is.goes_on f.contexts_are f.resources_are

  pub is_read : ((number : ℕ) → IsProgram number (program_of number contexts resources)) →
      ((d : Control) → d.contexts ≡ contexts → d.resources ≡ resources → domain_page d ≡ bytes) → IsRead bytes contexts resources
  is_read keeps spelled = record {
    page = λ number. record {
      program = keeps number;
      goes_on = refl;
      spelled = spelled (program_of number contexts resources) refl refl;
    };
    one = one;
  }

  -- it keeps no limits
  pub no_program : ((number : ℕ) → IsProgram number (program_of number contexts resources) → ⊥) → IsNoPage bytes
  no_program fails number d is = fails number (subst (IsProgram number) (one number d is) is.program)

  -- it has another page
  pub no_spelling : ((d : Control) → d.contexts ≡ contexts → d.resources ≡ resources → domain_page d ≡ bytes → ⊥) →
      IsNoPage bytes
  no_spelling fails number d is =
      let f = found number d is in
      fails d (sym f.contexts_are) (sym f.resources_are) is.spelled

pub found_by : (bytes : List ℕ) (contexts : List (Option Context)) (resources : Resources) (parts : Parts) →
    ((number : ℕ) (d : Control) → IsPageOf number bytes d → ArePartsOf d parts) →
    ((r : Resources) → r.held ≡ parts.held → r.spaces ≡ parts.spaces → IsSound r →
    ((space : ℕ) → IsSpace (regions_in r space)) → Some resources ≡ Some r) →
    contexts ≡ parts.slots → (number : ℕ) (d : Control) → IsPageOf number bytes d → IsFound contexts resources d
found_by bytes contexts resources parts first made same number d is =
    let p = first number d is in
    record {
      contexts_are = same ∙ p.slots;
      resources_are = same_Some resources d.resources
          (made d.resources (sym p.held) (sym p.spaces) is.program.limits.resources is.program.limits.regions);
    }

pub on_hart : (r : Resources) (o : Option Context) → IfSome o (IsContext r) → IsOnHart o
on_hart r None is = tt
on_hart r (Some c) is = is.hart
