use Rattle.std.proofs.Common.{ap, sym, ◌∙◌, refl}
use Rattle.std.specs.List.{concat}
use Rattle.sha2.specs.Sha256.{sha256}
use Rattle.cloak_model.specs.KernelAlone as model
use Rattle.kernel_report.specs.declared.kernel.KernelLines.{KernelLines}
use Rattle.kernel_report.proofs.KernelSaid.{kernel_text-is}
use Rattle.kernel_report.proofs.PutFacts.{Puts-all, text_is}
use Rattle.alone_views.proofs.KernelEnds.{counts_of}
use Rattle.alone_views.proofs.kernel.KernelAlone.report.Goals as goal

pub returns-clause-puts : goal.returns-clause-puts
returns-clause-puts g c turns s stands few =
    let shows = stands.console few in
    let lines : KernelLines = record {
      console_length = c.args.self.console.count;
      console = c.digest.result;
      ram = c.digest-2.result;
      disk = c.digest-3.result;
      harts = c.args.self.harts;
    } in
    Puts-all _ _ _ refl (text_is c.put_kernel.ensures (kernel_text-is lines s.kernel (record {
      count = shows.count;
      console = c.digest.ensures s.kernel.console shows;
      ram = c.digest-2.ensures ∙ ap (λ (t : model.KernelAlone). sha256 (concat t.kernel.ram)) (sym stands.state);
      disk = c.digest-3.ensures
          ∙ (ap sha256 c.bytes.ensures ∙ ap (λ (t : model.KernelAlone). sha256 t.kernel.disk) (sym stands.state));
      harts = ap (λ (t : model.KernelAlone). t.kernel.harts) (sym stands.state);
    })))

pub returns-clause-faults : goal.returns-clause-faults
returns-clause-faults g c = counts_of _ _ _ _ _ c.put_kernel.result (Puts-all _ _ _ refl c.put_kernel.ensures)
