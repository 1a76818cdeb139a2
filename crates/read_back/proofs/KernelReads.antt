-- A kernel that runs alone takes the items of a record, one after another.
use Rattle.std.proofs.Common.{◌≡◌, ◌<◌, ◌^◌, ℕ, Bool, true, false, List, [], ◌∷◌, ◌++◌, length, Option, Some, None, Result, Ok, Err, refl, sym, ap, subst, ◌∙◌, arith, length-append}
use Rattle.cloak_model.specs.declared.image.KernelImage.{KernelImage}
use Rattle.cloak_model.specs.Items.{Item}
use Rattle.cloak_model.specs.Exchange.{Piece, shown, Emits, shown_each}
use Rattle.cloak_model.proofs.Emitting.{emits_none, emits_then}
use Rattle.cloak_model.specs.KernelAlone as model
use Rattle.cloak_model.specs.KernelAlone.{kernel_alone, kernel_taken, take_kernel_item, opened_kernel}
use Rattle.cloak_model.specs.Opening.{started_kernel}
use Rattle.alone_views.specs.declared.kernel.KernelAlone.{KernelAlone}
use Rattle.alone_views.specs.declared.unfit.Unfit.{Unfit}
use Rattle.alone_views.specs.KernelStanding.{StandsForKernel, TakesItem, answer_for}
use Rattle.io_traits.specs.declared.sink.Sink as sinks
use Rattle.io_traits.proofs.ToldFacts.{Grows-none}
use Rattle.read_back.specs.Answering.{viewed_unfit}
use Rattle.read_back.specs.Reading.{FitsAs, IsReadTo, never_unfit}
use Rattle.read_back.specs.Screen.{GaveScreen, ShowsText}
use Rattle.read_back.specs.Viewing.{KernelItems, TookInView, ViewsItems, ViewsTo, unfit_ends}
use Rattle.read_back.specs.declared.ending.Ending.{Ending}
use Rattle.read_back.specs.declared.screen.Screen.{Screen}
use Rattle.read_back.specs.declared.view.Viewing.{Viewing}
use Rattle.read_back.proofs.ItemsRead.{fits_so, stops_so}

-- what an item was answered says whether it was unfit
answer_fits : (u : Option ℕ) → Ok tt ≡ answer_for u → u ≡ None
answer_fits None is = refl
answer_fits (Some step) is = absurd (let clash : Ok tt ≡ Err (record { step = step }) = is in cc)

answer_unfits : (u : Option ℕ) (f : Unfit) → Err f ≡ answer_for u → u ≡ Some f.step
answer_unfits None f is = absurd (let clash : Err f ≡ Ok tt = is in cc)
answer_unfits (Some step) f is = ap (λ (s : ℕ). Some s) (sym (ap (λ (r : Result Unit Unfit). step_told r) is))
  where
    step_told : Result Unit Unfit → ℕ
    step_told (Ok u) = 0
    step_told (Err f) = f.step

pub fits_by : (unfit : List Item → Option ℕ) (items : List Item) (i : Item) (given : Result Unit Unfit) →
    unfit items ≡ None → given ≡ answer_for (unfit (items ++ i ∷ [])) → FitsAs unfit (items ++ i ∷ []) (unfit_ends given)
fits_by unfit items i (Ok u) fit is = answer_fits _ is
fits_by unfit items i (Err f) fit is =
    record { before = items; last = i; order = refl; fit = fit; is_unfit = answer_unfits _ f is }

-- so reading ended, or a taker broke off
pub ends_so : {unfit : List Item → Option ℕ} {told : Option (List ℕ)} {m n : ℕ} {items : List Item}
    (given : Result Unit Unfit) → FitsAs unfit items (unfit_ends given) → IsReadTo never_unfit told m n items None →
    IsReadTo unfit told m n items (unfit_ends given)
ends_so {unfit} {told} {m} {n} {items} (Ok u) fits read = fits_so None fits read
ends_so {unfit} {told} {m} {n} {items} (Err f) fits read = stops_so f.step fits read

-- before the first item
pub kernel_none : {k : KernelImage} {machine : KernelAlone} → StandsForKernel machine k.schedule (opened_kernel k) →
    KernelItems k machine [] None
unfolding kernel_taken
kernel_none {k} {machine} stands = record { fits = refl; stands = stands }

pub views_none : {O : Type 0} (sink : sinks.Ghosts O) (viewing : Viewing O) → TookInView sink viewing viewing [] (Ok tt)
unfolding kernel_taken started_kernel
views_none {O} sink viewing = record {
  views = λ k stands. record {
    given = kernel_none stands;
    shows = emits_none (GaveScreen sink) viewing.screen.now;
    few = omega arith;
  };
  failed = λ is. absurd (let clash : Ok tt ≡ Err None = is in cc);
  same_kernel = refl;
  same_screen = refl;
  same_out = refl;
}

-- one more item
taken_more : (turns : List ℕ) (s : model.KernelAlone) (items : List Item) (i : Item) →
    kernel_taken turns s (items ++ i ∷ []) ≡ take_kernel_item turns (kernel_taken turns s items) i
unfolding kernel_taken started_kernel
taken_more turns s [] i = refl
taken_more turns s (x ∷ items) i = taken_more turns (take_kernel_item turns s x) items i

pub kernel_more : {k : KernelImage} {old new : KernelAlone} {items : List Item} (given : Result Unit Unfit) (i : Item) →
    KernelItems k old items None →
    StandsForKernel new k.schedule (take_kernel_item k.schedule (kernel_alone k items) i) →
    given ≡ answer_for (take_kernel_item k.schedule (kernel_alone k items) i).unfit →
    KernelItems k new (items ++ i ∷ []) (unfit_ends given)
kernel_more {k} {old} {new} {items} given i before stands answer =
    let same = taken_more k.schedule (opened_kernel k) items i in
    record {
      fits = fits_by (viewed_unfit k) items i given before.fits
          (answer ∙ ap (λ (s : model.KernelAlone). answer_for s.unfit) (sym same));
      stands = subst (λ (s : model.KernelAlone). StandsForKernel new k.schedule s) (sym same) stands;
    }

shown_append : (a b : List ℕ) → shown_each (a ++ b) ≡ shown_each a ++ shown_each b
shown_append [] b = refl
shown_append (x ∷ a) b = ap (λ (ps : List Piece). shown (x ∷ []) ∷ ps) (shown_append a b)

pub views_more : {E : Type 0} {gave : E → E → List Piece → Type 0} {e f h : E} {k : KernelImage}
    {old new : KernelAlone} {items : List Item} (given : Result Unit Unfit) (i : Item) →
    ViewsItems gave e f k old items None →
    TakesItem gave f h new given k.schedule (kernel_alone k items) (take_kernel_item k.schedule (kernel_alone k items) i) →
    ViewsItems gave e h k new (items ++ i ∷ []) (unfit_ends given)
views_more {E} {gave} {e} {f} {h} {k} {old} {new} {items} given i before took =
    let console : (kernel_alone k (items ++ i ∷ [])).kernel.console ≡
    (kernel_alone k items).kernel.console ++ took.gains.more =
    ap (λ (s : model.KernelAlone). s.kernel.console) (taken_more k.schedule (opened_kernel k) items i)
    ∙ took.gains.console in
    record {
      given = kernel_more given i before.given took.gains.stands took.answer;
      shows = subst (λ (l : List ℕ). Emits gave e h (shown_each l)) (sym console)
          (subst (λ (ps : List Piece). Emits gave e h ps)
          (sym (shown_append (kernel_alone k items).kernel.console took.gains.more))
          (emits_then before.shows took.gains.emits));
      few =
          let long = ap (λ (l : List ℕ). length l) console
          ∙ length-append (kernel_alone k items).kernel.console took.gains.more in
          let few = before.few in
          let one = took.gains.at_most_one in
          let more = length-append items (i ∷ []) in omega (arith, long, few, one, more);
    }

pub views_to : {E : Type 0} {gave : E → E → List Piece → Type 0} {e e' : E} {k : KernelImage} {machine : KernelAlone}
    {items : List Item} {told : Option (List ℕ)} {m n : ℕ} {last ended : Option Ending} →
    ViewsItems gave e e' k machine items last → length items < 2 ^ 64 → IsReadTo (viewed_unfit k) told m n items ended →
    ViewsTo gave e e' k machine told m n ended
views_to {E} {gave} {e} {e'} {k} {machine} {items} {told} {m} {n} {last} {ended} views low read = record {
  items = items;
  read = read;
  stands = views.given.stands;
  shows = views.shows;
  few = let few = views.few in omega (arith, few, low);
}

-- a screen shows on the same output
pub same_screen : {O : Type 0} {sink : sinks.Ghosts O} {old new : Screen O} {pieces : List Piece} →
    Emits (GaveScreen sink) old new pieces → new.out.ghost_name ≡ old.out.ghost_name
same_screen {O} {sink} {old} {new} {pieces} emits = (emits.more old [] (record {
  output = refl;
  text = λ fresh. start old.failed fresh;
})).output
  where
    start : (failed : Bool) → failed ≡ false →
        ShowsText failed (sink.taken old.out.now) (sink.taken old.out.now) (sink.faults old.out.now)
        (sink.faults old.out.now) []
    start false fresh = (Grows-none (sink.taken old.out.now), refl)
    start true fresh = absurd (let clash : true ≡ false = fresh in cc)
