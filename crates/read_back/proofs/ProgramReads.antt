-- A program that runs alone takes the items of a record, one after another.
use Rattle.std.proofs.Common.{◌≡◌, ◌<◌, ◌^◌, ◌==◌, ℕ, Bool, true, false, cond, List, [], ◌∷◌, ◌++◌, length, Option, None, Result, Ok, Err, refl, sym, ap, subst, ◌∙◌, arith, length-append}
use Rattle.cloak_model.specs.declared.image.KernelImage.{KernelImage}
use Rattle.cloak_model.specs.Parts.{DomainPart}
use Rattle.cloak_model.specs.declared.image.Program.{Program}
use Rattle.cloak_model.specs.declared.resource.MapFault.{MapFault}
use Rattle.cloak_model.specs.DomainState.{started_domain}
use Rattle.cloak_model.specs.Files.{file_resource}
use Rattle.cloak_model.specs.Items.{Item}
use Rattle.cloak_model.specs.Resources.{Mapped, Resources}
use Rattle.cloak_model.specs.StoredFiles.{FileContents, PageContent}
use Rattle.cloak_model.specs.DomainAlone as model
use Rattle.cloak_model.specs.DomainAlone.{domain_alone_from, domain_taken, take_domain_item, opened_with_part, started_part, with_file, with_files, with_given}
use Rattle.alone_views.specs.declared.domain.DomainAlone.{DomainAlone}
use Rattle.alone_views.specs.declared.unfit.Unfit.{Unfit}
use Rattle.alone_views.specs.DomainStanding.{StandsForDomain, TakesDomainItem, answer_by}
use Rattle.alone_views.proofs.DomainLoads.{few_taken}
use Rattle.read_back.specs.Answering.{program_unfit}
use Rattle.read_back.specs.Reading.{IsReadTo}
use Rattle.read_back.specs.Viewing.{ProgramItems, SolosItems, SolosTo, TookAlone, unfit_ends}
use Rattle.read_back.specs.declared.ending.Ending.{Ending}
use Rattle.read_back.proofs.KernelReads.{fits_by}

-- before the first item
pub program_none : {d : ℕ} {k : KernelImage} {p : DomainPart} {machine : DomainAlone} →
    StandsForDomain d k.schedule machine (opened_with_part p) → ProgramItems d k p machine [] None
unfolding domain_taken
program_none {d} {k} {p} {machine} stands = record { fits = refl; stands = stands }

-- as a program starts, with or without files
pub no_loads : (d : ℕ) (p : Program) → (started_part d p).domain.loads ≡ []
unfolding started_domain
no_loads d p = refl

file_loads : (pages : List (Option PageContent)) (given : Result ℕ MapFault) (resources : Resources) (p : DomainPart) →
    (with_given pages given resources p).domain.loads ≡ p.domain.loads
unfolding with_given
file_loads pages (Ok n) resources p = refl
file_loads pages (Err fault) resources p = refl

one_loads : (d : ℕ) (f : FileContents) (p : DomainPart) → (with_file d f p).domain.loads ≡ p.domain.loads
one_loads d f p =
    either (f.domain == d) p (file_resource f.number (length f.pages) p.domain.control.resources)
  where
    either : (own : Bool) (p : DomainPart) (made : Mapped ℕ) →
        (cond own (with_given f.pages made.answer made.resources p) p).domain.loads ≡ p.domain.loads
    either true p made = file_loads f.pages made.answer made.resources p
    either false p made = refl

pub files_loads : (d : ℕ) (files : List FileContents) (p : DomainPart) → (with_files d files p).domain.loads ≡ p.domain.loads
unfolding with_files
files_loads d [] p = refl
files_loads d (f ∷ files) p = files_loads d files (with_file d f p) ∙ one_loads d f p

pub solos_none : (machine : DomainAlone) → TookAlone machine machine [] (Ok tt)
unfolding domain_taken
solos_none machine = λ d k p begins. record {
  given = program_none begins.stands;
  few = let none = ap (λ (l : List (ℕ × ℕ)). length l) begins.no_loads in omega (arith, none);
}

-- one more item
taken_more : (d : ℕ) (turns : List ℕ) (s : model.DomainAlone) (items : List Item) (i : Item) →
    domain_taken d turns s (items ++ i ∷ []) ≡ take_domain_item d turns (domain_taken d turns s items) i
unfolding domain_taken
taken_more d turns s [] i = refl
taken_more d turns s (x ∷ items) i = taken_more d turns (take_domain_item d turns s x) items i

pub program_more : {d : ℕ} {k : KernelImage} {p : DomainPart} {old new : DomainAlone} {items : List Item}
    (given : Result Unit Unfit) (i : Item) → ProgramItems d k p old items None →
    TakesDomainItem d k.schedule new given (take_domain_item d k.schedule (domain_alone_from d k.schedule p items) i) →
    ProgramItems d k p new (items ++ i ∷ []) (unfit_ends given)
program_more {d} {k} {p} {old} {new} {items} given i before took =
    let same = taken_more d k.schedule (opened_with_part p) items i in
    record {
      fits = fits_by (program_unfit d k p) items i given before.fits
          (took.answer ∙ ap (λ (s : model.DomainAlone). answer_by s.unfit) (sym same));
      stands = subst (λ (s : model.DomainAlone). StandsForDomain d k.schedule new s) (sym same) took.stands;
    }

pub solos_more : {d : ℕ} {k : KernelImage} {p : DomainPart} {old new : DomainAlone} {items : List Item}
    (given : Result Unit Unfit) (i : Item) → SolosItems d k p old items None →
    TakesDomainItem d k.schedule new given (take_domain_item d k.schedule (domain_alone_from d k.schedule p items) i) →
    SolosItems d k p new (items ++ i ∷ []) (unfit_ends given)
solos_more {d} {k} {p} {old} {new} {items} given i before took = record {
  given = program_more given i before.given took;
  few =
      let long = ap (λ (s : model.DomainAlone). length s.part.domain.loads)
      (taken_more d k.schedule (opened_with_part p) items i) in
      let one = few_taken d k.schedule (domain_alone_from d k.schedule p items) i in
      let few = before.few in let more = length-append items (i ∷ []) in omega (arith, long, one, few, more);
}

pub solos_to : {d : ℕ} {k : KernelImage} {p : DomainPart} {machine : DomainAlone} {items : List Item}
    {told : Option (List ℕ)} {m n : ℕ} {last ended : Option Ending} → SolosItems d k p machine items last →
    length items < 2 ^ 64 → IsReadTo (program_unfit d k p) told m n items ended → SolosTo d k p machine told m n ended
solos_to {d} {k} {p} {machine} {items} {told} {m} {n} {last} {ended} solos low read = record {
  items = items;
  read = read;
  stands = solos.given.stands;
  few = let few = solos.few in omega (arith, few, low);
}
