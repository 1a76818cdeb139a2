-- The items of a record whose trace is of a program's side, one after another.
use Rattle.std.proofs.Common.{◌≡◌, ℕ, List, [], ◌∷◌, ◌++◌, Option, None, Result, sym, ap, ◌∙◌}
use Rattle.std.proofs.Common.{append-nil, append_assoc}
use Rattle.cloak_model.specs.declared.image.KernelImage.{KernelImage}
use Rattle.cloak_model.specs.Items.{Item}
use Rattle.cloak_model.specs.Parts.{DomainPart}
use Rattle.cloak_model.specs.DomainAlone as model
use Rattle.cloak_model.specs.DomainAlone.{domain_alone_from, domain_taken, take_domain_item, opened_with_part}
use Rattle.alone_views.specs.declared.domain.DomainAlone.{DomainAlone}
use Rattle.alone_views.specs.declared.unfit.Unfit.{Unfit}
use Rattle.alone_views.specs.DomainStanding.{StandsForDomain}
use Rattle.kernel_report.specs.Putting.{Putting}
use Rattle.kernel_report.proofs.PutFacts.{then, text_is, PutsMore-none}
use Rattle.read_back.specs.Answering.{program_unfit}
use Rattle.read_back.specs.Reading.{IsReadTo}
use Rattle.read_back.specs.Viewing.{unfit_ends}
use Rattle.read_back.specs.declared.ending.Ending.{Ending}
use Rattle.read_back.proofs.ProgramReads.{program_more, program_none}
use Rattle.run_trace.specs.ProgramTaking.{OwnItems}
use Rattle.run_trace.specs.ProgramTrace.{program_added, program_traced}
use Rattle.run_trace.specs.ProgramTracing.{AddsOwn, TracesProgram}
use Rattle.run_trace.specs.declared.choice.TraceChoice.{TraceChoice}

-- before the first item
pub own_none : {c : TraceChoice} {d : ℕ} {k : KernelImage} {p : DomainPart} {machine : DomainAlone} (at : Putting) →
    StandsForDomain d k.schedule machine (opened_with_part p) → OwnItems c d k p machine [] at at None
unfolding program_traced
own_none {c} {d} {k} {p} {machine} at stands = record { given = program_none stands; text = PutsMore-none at }

-- what one item adds to what is there
traced_more : (c : TraceChoice) (d : ℕ) (turns : List ℕ) (s : model.DomainAlone) (items : List Item) (i : Item) →
    program_traced c d turns s items
    ++ program_added c d turns (domain_taken d turns s items) (take_domain_item d turns (domain_taken d turns s items) i) i
    ≡ program_traced c d turns s (items ++ i ∷ [])
unfolding domain_taken program_traced
traced_more c d turns s [] i = sym (append-nil (program_added c d turns s (take_domain_item d turns s i) i))
traced_more c d turns s (x ∷ items) i =
    append_assoc (program_added c d turns s (take_domain_item d turns s x) x)
    (program_traced c d turns (take_domain_item d turns s x) items) _
    ∙ ap (λ (l : List ℕ). program_added c d turns s (take_domain_item d turns s x) x ++ l)
    (traced_more c d turns (take_domain_item d turns s x) items i)

-- one item more
pub own_more : {c : TraceChoice} {d : ℕ} {k : KernelImage} {p : DomainPart} {was now : DomainAlone} {items : List Item}
    {old mid new : Putting} (given : Result Unit Unfit) (i : Item) → OwnItems c d k p was items old mid None →
    ((turns : List ℕ) (s : model.DomainAlone) → StandsForDomain d turns was s → s.unfit ≡ None →
    AddsOwn mid new now given c d turns s i) → OwnItems c d k p now (items ++ i ∷ []) old new (unfit_ends given)
own_more {c} {d} {k} {p} {was} {now} {items} {old} {mid} {new} given i before adds =
    let added = adds k.schedule (domain_alone_from d k.schedule p items) before.given.stands before.given.fits in
    record {
      given = program_more given i before.given (record { stands = added.stands; answer = added.answer });
      text = text_is (then before.text added.text) (traced_more c d k.schedule (opened_with_part p) items i);
    }

pub own_to : {c : TraceChoice} {d : ℕ} {k : KernelImage} {p : DomainPart} {machine : DomainAlone} {items : List Item}
    {old new : Putting} {told : Option (List ℕ)} {m n : ℕ} {last ended : Option Ending} →
    OwnItems c d k p machine items old new last → IsReadTo (program_unfit d k p) told m n items ended →
    TracesProgram c d k p machine told m n old new ended
own_to {c} {d} {k} {p} {machine} {items} {old} {new} {told} {m} {n} {last} {ended} traced read =
    record { items = items; read = read; stands = traced.given.stands; text = traced.text }
