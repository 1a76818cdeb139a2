-- What a run has as it opens.
use Rattle.std.proofs.Common.{◌≡◌, ◌∙◌, ◌<◌, ◌≤◌, ℕ, zero, suc, ◌+◌, List, [], ◌∷◌, length, Option, Some, None, Ok}
use Rattle.std.proofs.Common.{refl, sym, arith, subst, get_or, slice_get}
use Rattle.cloak_model.specs.declared.image.Bundle.{Bundle}
use Rattle.cloak_model.specs.declared.image.Program.{Program}
use Rattle.cloak_model.specs.Beginning.{Beginning, opening_from}
use Rattle.cloak_model.specs.DomainState.{Domain, started_domain}
use Rattle.cloak_model.specs.Opening.{RunEdge, started_domains, started_joint, started_kernel}
use Rattle.kernel_isolation.proofs.FilesAdded.{added_keep, files_of, opens_over, was_there}
use Rattle.cloak_machine.specs.Standing.{HaveFewLoads}

-- No load was completed, and the console was shown nothing.
pub record IsBegun (o : RunEdge) : Type 0 where
  pub console : o.joint.console ≡ []
  pub loads : HaveFewLoads 0 o.joint.domains

none_loaded : (ps : List Program) (d k : ℕ) (domain : Domain) → slice_get (started_domains d ps) k ≡ Some domain →
    length domain.loads ≤ 0
unfolding started_domain
none_loaded [] d k domain is = cc is
none_loaded (p ∷ ps) d zero domain is =
    let same : started_domain d p.start ≡ domain = cc is in subst (λ (x : Domain). length x.loads ≤ 0) same (omega arith)
none_loaded (p ∷ ps) d (suc k) domain is = none_loaded ps (d + 1) k domain is

is_there : (domains : List Domain) (k : ℕ) (other : Domain) → k < length domains →
    slice_get domains k ≡ Some (get_or domains k other)
is_there [] k other low = absurd (omega (arith, low))
is_there (x ∷ domains) zero other low = refl
is_there (x ∷ domains) (suc k) other low = is_there domains k other (omega (arith, low))

pub begun : (b : Bundle) (from : Beginning) (o : RunEdge) → opening_from b from ≡ Ok o → IsBegun o
unfolding started_joint started_kernel
begun b from o opens =
    let over = opens_over b from o opens in
    let keeps = added_keep (files_of from) (started_joint b over.memory) o.joint over.added in
    record {
      console = keeps.console;
      loads = λ k other low.
          let was = was_there (started_joint b over.memory) o.joint k _ keeps (is_there o.joint.domains k other low) in
          subst (λ (l : List _). length l ≤ 0) (sym was.keeps.loads) (none_loaded b.programs 0 k was.domain was.there);
    }
