-- A record is read once more, as far as the question for a page.
use Rattle.std.proofs.Common.{◌≡◌, ◌∙◌, ◌≢◌, ◌<◌, ℕ, List, [], ◌∷◌, ◌++◌, length, length-append, Option, Some, None, IfOk, Result, Ok, Err, inl, inr, refl, sym, subst, arith}
use Rattle.cloak_model.specs.declared.image.Bundle.{Bundle}
use Rattle.cloak_model.specs.Items.{Item}
use Rattle.cloak_model.specs.DomainAlone.{opened_domain}
use Rattle.cloak_model.specs.KernelAlone.{opened_kernel}
use Rattle.record_law.proofs.Staying.{kernel_stays, program_stays}
use Rattle.record_reader.specs.Ahead.{readable}
use Rattle.record_reader.specs.declared.reader.Reader.{Reader}
use Rattle.read_back.proofs.NextItem.{told_begins}
use Rattle.read_back.specs.declared.ending.Ending.{Ending}
use Rattle.read_back.specs.declared.ending.Ending.TheVariants as ending
use Rattle.read_back.specs.Items.{Finds, StandsAt}
use Rattle.replayed_run.specs.Alone.{FitsAlone, IsUnfitAlone}
use Rattle.replayed_run.specs.Watching.{Watches}
use Rattle.replayed_run.specs.declared.watch.Watch.{Watch}
use Rattle.run_story.specs.Answering.{BeginsSo}
use Rattle.run_story.specs.Deeds.{done_in}
use Rattle.run_story.specs.Gathering.{Gathers, GathersAgain}
use Rattle.run_story.specs.Passages.{AreReadAgain, lines_of, page_lines}
use Rattle.run_story.specs.declared.deeds.Deeds.{Deeds}
use Rattle.run_story.specs.declared.presented.Presented.{Presented}
use Rattle.run_story.specs.declared.untold.Untold.{Untold}
use Rattle.run_story.proofs.Fronts.{longer_goes_on, no_end, no_fault}

-- of items that fit, a front does
front_fits : (b : Bundle) (front more : List Item) (step : ℕ) → IsUnfitAlone b front step → FitsAlone b (front ++ more) → ⊥
front_fits b front more step (inl unfit) fits =
    let clash : Some step ≡ None =
    sym (kernel_stays b.kernel.schedule (opened_kernel b.kernel) front more step unfit) ∙ fits.kernel in absurd cc
front_fits b front more step (inr unfit) fits =
    let clash : Some step ≡ None =
    sym (program_stays unfit.d b.kernel.schedule (opened_domain unfit.d unfit.p) front more step unfit.unfit)
    ∙ fits.programs unfit.d unfit.p unfit.program in absurd cc

-- What was read once more.

-- So many items of the file were read once more and taken, and what they did to a page was gathered.
pub record ReadAgain (b : Bundle) (told : Option (List ℕ)) (p : Presented) (n : ℕ) (reader : Reader) (w : Watch) (d : Deeds) :
    Type 0 where
  pub items : List Item
  pub count : length items ≡ n
  pub stands : StandsAt told reader items
  pub watches : Watches b items w
  pub gathers : Gathers b p items d

-- The run has these items, more than stand before the question.
pub record HasMore (b : Bundle) (told : Option (List ℕ)) (p : Presented) (longer : List Item) : Type 0 where
  pub fits : FitsAlone b longer
  pub begins : BeginsSo told longer
  pub within : p.before < length longer

are_again : (told : Option (List ℕ)) (items : List Item) (before : ℕ) → BeginsSo told items → length items ≡ before →
    AreReadAgain told before items
are_again (Some bytes) items before begins is = record { front = (begins, is) }
are_again None items before begins is = record { front = tt }

-- all were read
pub all_again : (b : Bundle) (told : Option (List ℕ)) (p : Presented) (n : ℕ) (reader : Reader) (w : Watch) (d : Deeds) →
    n ≡ p.before → ReadAgain b told p n reader w d → GathersAgain b told p d
all_again b told p n reader w d all was = record {
  items = was.items;
  again = are_again told was.items p.before (told_begins told reader was.items was.stands) (was.count ∙ all);
  gathers = was.gathers;
}

-- of a file of which nothing is told
none_again : (b : Bundle) (p : Presented) (items : List Item) (d : Deeds) → Gathers b p items d → GathersAgain b None p d
none_again b p items d gathers = record { items = items; again = record { front = tt }; gathers = gathers }

-- reading does not end before
pub ended_again : (b : Bundle) (told : Option (List ℕ)) (p : Presented) (n : ℕ) (next : Reader) (d : Deeds)
    (items longer : List Item) (ended : Ending) → n < p.before → length items ≡ n → Finds told next items (Err ended) →
    ended ≢ ending.Unread → HasMore b told p longer → Gathers b p items d → GathersAgain b told p d
ended_again b None p n next d items longer ended few count found read has gathers = none_again b p items d gathers
ended_again b (Some bytes) p n next d items longer ending.Whole few count found read has gathers =
    let within = has.within in
    absurd (no_end (readable bytes) items longer found has.begins (omega (arith, few, count, within)))
ended_again b (Some bytes) p n next d items longer (ending.Fault fault) few count found read has gathers =
    let within = has.within in
    absurd (no_fault (readable bytes) items longer fault found has.begins (omega (arith, few, count, within)))
ended_again b (Some bytes) p n next d items longer (ending.Unfit step) few count found read has gathers = absurd found
ended_again b (Some bytes) p n next d items longer ending.Unread few count found read has gathers = absurd (read refl)

-- each item fits
pub unfit_again : (b : Bundle) (told : Option (List ℕ)) (p : Presented) (n step : ℕ) (reader : Reader) (d : Deeds)
    (items longer : List Item) (i : Item) → n < p.before → length items ≡ n → StandsAt told reader (items ++ i ∷ []) →
    HasMore b told p longer → IsUnfitAlone b (items ++ i ∷ []) step → Gathers b p items d → GathersAgain b told p d
unfit_again b None p n step reader d items longer i few count stands has unfit gathers = none_again b p items d gathers
unfit_again b (Some bytes) p n step reader d items longer i few count stands has unfit gathers =
    let size = length-append items (i ∷ []) in
    let within = has.within in
    let on = longer_goes_on (readable bytes) (items ++ i ∷ []) longer
    (told_begins (Some bytes) reader (items ++ i ∷ []) stands) has.begins (omega (arith, few, count, size, within)) in
    absurd (front_fits b (items ++ i ∷ []) on.0 step unfit (subst (λ (l : List Item). FitsAlone b l) on.1 has.fits))

-- the lines of what was gathered
pub gathered_lines : (b : Bundle) (p : Presented) (items : List Item) (d : Deeds) → Gathers b p items d →
    lines_of p d.left_out d.events.items d.origin ≡ page_lines p (done_in b p items)
gathered_lines b p items d g = let a = g.last.events in let c = g.last.left_out in let o = g.origin in rw (a, c, o) refl

-- it is given, unless the file could not be read
pub given_again : (b : Bundle) (told : Option (List ℕ)) (p : Presented) (d : Deeds) (ended : Ending) (r : Result Deeds Untold) →
    IfOk r (λ given. (given ≡ d) × (ended ≢ ending.Unread)) → (ended ≢ ending.Unread → GathersAgain b told p d) →
    IfOk r (GathersAgain b told p)
given_again b told p d ended (Ok given) same all =
    subst (λ (x : Deeds). GathersAgain b told p x) (sym same.0) (all same.1)
given_again b told p d ended (Err why) same all = tt
