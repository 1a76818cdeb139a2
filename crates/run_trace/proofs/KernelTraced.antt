-- The items of a record that are traced, one after another.
use Rattle.std.proofs.Common.{◌≡◌, ℕ, List, [], ◌∷◌, ◌++◌, Option, None, Result, sym, ap, ◌∙◌}
use Rattle.std.proofs.Common.{append-nil, append_assoc}
use Rattle.cloak_model.specs.declared.image.KernelImage.{KernelImage}
use Rattle.cloak_model.specs.Items.{Item}
use Rattle.cloak_model.specs.KernelAlone as model
use Rattle.cloak_model.specs.KernelAlone.{kernel_alone, kernel_taken, take_kernel_item, opened_kernel}
use Rattle.alone_views.specs.declared.kernel.KernelAlone.{KernelAlone}
use Rattle.alone_views.specs.declared.unfit.Unfit.{Unfit}
use Rattle.alone_views.specs.KernelStanding.{StandsForKernel}
use Rattle.kernel_report.specs.Putting.{Putting}
use Rattle.kernel_report.proofs.PutFacts.{then, text_is, PutsMore-none}
use Rattle.read_back.specs.Answering.{viewed_unfit}
use Rattle.read_back.specs.Reading.{IsReadTo}
use Rattle.read_back.specs.Viewing.{unfit_ends}
use Rattle.read_back.specs.declared.ending.Ending.{Ending}
use Rattle.read_back.proofs.KernelReads.{kernel_more, kernel_none}
use Rattle.run_trace.specs.KernelTaking.{TracesItems}
use Rattle.run_trace.specs.KernelTrace.{added_by, traced}
use Rattle.run_trace.specs.Tracing.{AddsItem, TracesTo}
use Rattle.run_trace.specs.declared.choice.TraceChoice.{TraceChoice}

-- before the first item
pub trace_none : {c : TraceChoice} {k : KernelImage} {machine : KernelAlone} (at : Putting) →
    StandsForKernel machine k.schedule (opened_kernel k) → TracesItems c k machine [] at at None
unfolding traced
trace_none {c} {k} {machine} at stands = record { given = kernel_none stands; text = PutsMore-none at }

-- what one item adds to what is there
traced_more : (c : TraceChoice) (turns : List ℕ) (s : model.KernelAlone) (items : List Item) (i : Item) →
    traced c turns s items ++ added_by c (kernel_taken turns s items) (take_kernel_item turns (kernel_taken turns s items) i) i
    ≡ traced c turns s (items ++ i ∷ [])
unfolding kernel_taken traced
traced_more c turns s [] i = sym (append-nil (added_by c s (take_kernel_item turns s i) i))
traced_more c turns s (x ∷ items) i =
    append_assoc (added_by c s (take_kernel_item turns s x) x) (traced c turns (take_kernel_item turns s x) items) _
    ∙ ap (λ (l : List ℕ). added_by c s (take_kernel_item turns s x) x ++ l)
    (traced_more c turns (take_kernel_item turns s x) items i)

-- one item more
pub trace_more : {c : TraceChoice} {k : KernelImage} {was now : KernelAlone} {items : List Item} {old mid new : Putting}
    (given : Result Unit Unfit) (i : Item) → TracesItems c k was items old mid None →
    ((turns : List ℕ) (s : model.KernelAlone) → StandsForKernel was turns s → s.unfit ≡ None →
    AddsItem mid new now given c turns s i) → TracesItems c k now (items ++ i ∷ []) old new (unfit_ends given)
trace_more {c} {k} {was} {now} {items} {old} {mid} {new} given i before adds =
    let added = adds k.schedule (kernel_alone k items) before.given.stands before.given.fits in
    record {
      given = kernel_more given i before.given added.stands added.answer;
      text = text_is (then before.text added.text) (traced_more c k.schedule (opened_kernel k) items i);
    }

pub traces_to : {c : TraceChoice} {k : KernelImage} {machine : KernelAlone} {items : List Item} {old new : Putting}
    {told : Option (List ℕ)} {m n : ℕ} {last ended : Option Ending} → TracesItems c k machine items old new last →
    IsReadTo (viewed_unfit k) told m n items ended → TracesTo c k machine told m n old new ended
traces_to {c} {k} {machine} {items} {old} {new} {told} {m} {n} {last} {ended} traced read =
    record { items = items; read = read; stands = traced.given.stands; text = traced.text }
