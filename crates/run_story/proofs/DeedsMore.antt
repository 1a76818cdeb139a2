-- How two frames differ, what a step does, and what one item more does.
use Rattle.std.proofs.Common.{◌≡◌, ◌≢◌, ⊎_elim, ℕ, zero, suc, ◌+◌, ◌≤◌, ◌==◌, Bool, true, false, if◌then◌else◌, List, [], ◌∷◌, ◌++◌, length, slice_get, slice_index, Option, Some, None, IfSome, refl, sym, ap, subst, ◌∙◌, append-nil, append_assoc, add-one, eqb, arith}
use Rattle.std.specs.List.{fold}
use Rattle.std.proofs.lemmas.Bool.{eq-eqb}
use Rattle.std.proofs.lemmas.Bool.Decides.{eqb_tells}
use Rattle.std.proofs.lemmas.List.{length-append}
use Rattle.std.proofs.lemmas.List.Sums.{fold-append}
use Rattle.cloak_model.specs.declared.image.Bundle.{Bundle}
use Rattle.cloak_model.specs.Items.{Item}
use Rattle.cloak_model.specs.Items as item
use Rattle.cloak_model.specs.KernelAlone.{kernel_alone}
use Rattle.cloak_model.specs.Parts.{KernelPart}
use Rattle.replayed_run.specs.PagesTold.{showing_told}
use Rattle.replayed_run.specs.declared.frames.DiskCall.{DiskCall}
use Rattle.replayed_run.specs.declared.pages.Showing.{Showing}
use Rattle.run_story.specs.Carrying.{Carrying, carrying_of}
use Rattle.run_story.specs.declared.carriers.Carriers.{Carriers}
use Rattle.run_story.specs.Deeds.{Done, carrying_after, carrying_next, change_at, change_events, changed_places, done_in, done_more, frame_change, item_events, leading_events, leads_in, moving_events, nothing_done, origin_after, presented_events, shown_in, showing_events, third_events}
use Rattle.run_story.specs.Gathering.{Gathers, KeepsLast}
use Rattle.run_story.specs.Seeing.{KeepsDeeds, KeepsTarget, SeesAhead, SeesFrames, SeesStep, StandsAhead, ahead_events, ahead_move, change_more, ended_events, ended_move, seen_bytes}
use Rattle.run_story.specs.declared.deeds.Deeds.{Deeds}
use Rattle.run_story.specs.declared.deeds.FrameChange.{FrameChange}
use Rattle.run_story.specs.declared.deeds.PageEvent.{PageEvent}
use Rattle.run_story.specs.declared.deeds.SeenFrame.{SeenFrame}
use Rattle.run_story.specs.declared.deeds.StepAhead.{StepAhead}
use Rattle.run_story.specs.declared.presented.Presented.{Presented}

-- The places at which two frames differ.

one_place : (same : Bool) (places : List ℕ) (n : ℕ) → length places ≤ n →
    length (places ++ (if same then [] else n ∷ [])) ≤ suc n
one_place true places n few = omega (arith, length-append places [])
one_place false places n few = omega (arith, length-append places (n ∷ []))

pub few_places : (was now : List ℕ) (n : ℕ) → length (changed_places was now n) ≤ n
unfolding changed_places
few_places was now zero = omega arith
few_places was now (suc n) =
    one_place (slice_index was n == slice_index now n) (changed_places was now n) n (few_places was now n)

by_test : (same test : Bool) (places : List ℕ) (n : ℕ) → same ≡ test →
    places ++ (if same then [] else n ∷ []) ≡ places ++ (if test then [] else n ∷ [])
by_test same test places n is = ap (λ (t : Bool). places ++ (if t then [] else n ∷ [])) is

pub place_differs : (was now : List ℕ) (n : ℕ) → slice_index was n ≢ slice_index now n →
    changed_places was now (n + 1) ≡ changed_places was now n ++ n ∷ []
unfolding changed_places
place_differs was now n differs =
    ap (λ (k : ℕ). changed_places was now k) (add-one n)
    ∙ ⊎_elim (λ (h : (eqb (slice_index was n) (slice_index now n) ≡ true) × (slice_index was n ≡ slice_index now n)).
    absurd (differs h.1))
    (λ (h : (eqb (slice_index was n) (slice_index now n) ≡ false) × (slice_index was n ≢ slice_index now n)).
    by_test (slice_index was n == slice_index now n) false (changed_places was now n) n h.0)
    (eqb_tells (slice_index was n) (slice_index now n))

pub place_same : (was now : List ℕ) (n : ℕ) → slice_index was n ≡ slice_index now n →
    changed_places was now (n + 1) ≡ changed_places was now n
unfolding changed_places
place_same was now n same =
    ap (λ (k : ℕ). changed_places was now k) (add-one n)
    ∙ (by_test (slice_index was n == slice_index now n) true (changed_places was now n) n (eq-eqb _ _ same)
    ∙ append-nil (changed_places was now n))

pub no_places : (was now : List ℕ) → changed_places was now 0 ≡ []
unfolding changed_places
no_places was now = refl

-- the change of one place more
abbrev change_counted : List ℕ → List ℕ → ℕ → ℕ → Option FrameChange
change_counted was now place count =
    Some (record { place = place; was = slice_index was place; now = slice_index now place; count = count })

pub change_step : (was now places : List ℕ) (n : ℕ) →
    Some (change_more (change_at was now places) n (slice_index was n) (slice_index now n))
    ≡ change_at was now (places ++ n ∷ [])
change_step was now [] n = refl
change_step was now (place ∷ more) n =
    ap (λ (count : ℕ). change_counted was now place count)
    (omega (arith, length-append more (n ∷ [])))

-- it counts the places
pub change_counts : (was now places : List ℕ) (n : ℕ) → length places ≤ n →
    IfSome (change_at was now places) (λ c. c.count ≤ n)
change_counts was now [] n few = tt
change_counts was now (place ∷ more) n few = few

-- What stays.

frames_kept : (ram : List (List ℕ)) (old new : Deeds) → KeepsTarget old new → SeesFrames ram old → SeesFrames ram new
frames_kept ram old new keeps sees = record {
  shown = ap (λ (s : SeenFrame). seen_bytes s) keeps.shown_in
      ∙ subst (λ (p : Presented). seen_bytes old.shown_in ≡ slice_get ram (shown_in p)) (sym keeps.target) sees.shown;
  presented = λ other. ap (λ (s : SeenFrame). seen_bytes s) keeps.presented_in
      ∙ subst (λ (p : Presented). (shown_in p == p.found.frame) ≡ false →
      seen_bytes old.presented_in ≡ slice_get ram p.found.frame) (sym keeps.target) sees.presented other;
  third = λ frame is. ap (λ (s : SeenFrame). seen_bytes s) keeps.third_in
      ∙ sees.third frame (sym (ap (λ (x : Carriers). x.third) keeps.carriers) ∙ is);
}

-- one after another
pub keeps_two : {old mid new : Deeds} → KeepsTarget old mid → KeepsTarget mid new → KeepsTarget old new
keeps_two {old} {mid} {new} one two = record {
  target = two.target ∙ one.target;
  shown_in = two.shown_in ∙ one.shown_in;
  presented_in = two.presented_in ∙ one.presented_in;
  third_in = two.third_in ∙ one.third_in;
  carriers = two.carriers ∙ one.carriers;
}

pub step_seen : (ram : List (List ℕ)) (old new : Deeds) (ahead : StepAhead) → KeepsTarget old new →
    SeesStep ram old ahead → SeesStep ram new ahead
step_seen ram old new ahead keeps sees = record {
  frames = frames_kept ram old new keeps sees.frames;
  leads = sees.leads ∙ ap (λ (p : Presented). leads_in p ram) (sym keeps.target);
}

ahead_seen : (ram : List (List ℕ)) (old new : Deeds) (ahead : Option StepAhead) → KeepsTarget old new →
    SeesAhead ram old ahead → SeesAhead ram new ahead
ahead_seen ram old new None keeps sees = tt
ahead_seen ram old new (Some ahead) keeps sees = step_seen ram old new ahead keeps sees

-- What a step does, in five parts, one after another.

abbrev step_apart : Presented → Presented → Presented → Presented → Carrying → Carrying → Option ℕ → Option DiskCall →
    StepAhead → KernelPart → KernelPart → List PageEvent → List PageEvent
step_apart p q r s c c' leads moved ahead was now all =
    ((((all ++ moving_events p c ahead.step ahead.hart moved)
    ++ change_events ahead.step ahead.hart ahead.ctx ahead.call (shown_in q) (frame_change was.ram now.ram (shown_in q)))
    ++ presented_events r ahead.step ahead.hart ahead.ctx ahead.call was.ram now.ram)
    ++ third_events c'.third ahead.step ahead.hart ahead.ctx ahead.call was.ram now.ram)
    ++ leading_events s ahead.step ahead.ctx leads (leads_in s now.ram)

parts_joined : (all v w x y z : List PageEvent) →
    ((((all ++ v) ++ w) ++ x) ++ y) ++ z ≡ all ++ (v ++ (w ++ (x ++ (y ++ z))))
parts_joined all v w x y z = simp append_assoc

pub step_whole : (p q r s : Presented) (c c' : Carrying) (ahead : StepAhead) (was now : KernelPart)
    (moved : Option DiskCall) (all : List PageEvent) → q ≡ p → r ≡ p → s ≡ p → c' ≡ c →
    moved ≡ ahead_move (Some ahead) now → ahead.leads ≡ leads_in p was.ram →
    step_apart p q r s c c' ahead.leads moved ahead was now all ≡ all ++ ahead_events p c (Some ahead) was now
step_whole p q r s c c' ahead was now moved all second third fourth same moves leads =
    ap (λ (t : Presented). step_apart p t r s c c' ahead.leads moved ahead was now all) second
    ∙ (ap (λ (t : Presented). step_apart p p t s c c' ahead.leads moved ahead was now all) third
    ∙ (ap (λ (t : Presented). step_apart p p p t c c' ahead.leads moved ahead was now all) fourth
    ∙ (ap (λ (k : Carrying). step_apart p p p p c k ahead.leads moved ahead was now all) same
    ∙ (ap (λ (m : Option DiskCall). step_apart p p p p c c ahead.leads m ahead was now all) moves
    ∙ (ap (λ (l : Option ℕ). step_apart p p p p c c l (ahead_move (Some ahead) now) ahead was now all) leads
    ∙ parts_joined all
    (moving_events p c ahead.step ahead.hart (ahead_move (Some ahead) now))
    (change_events ahead.step ahead.hart ahead.ctx ahead.call (shown_in p) (frame_change was.ram now.ram (shown_in p)))
    (presented_events p ahead.step ahead.hart ahead.ctx ahead.call was.ram now.ram)
    (third_events c.third ahead.step ahead.hart ahead.ctx ahead.call was.ram now.ram)
    (leading_events p ahead.step ahead.ctx (leads_in p was.ram) (leads_in p now.ram)))))))

-- What one item more does.

-- the frames that were seen changed
pub gathers_kept : (b : Bundle) (p : Presented) (items : List Item) (old new : Deeds) → KeepsDeeds old new →
    Gathers b p items old → Gathers b p items new
gathers_kept b p items old new keeps gathers = record {
  target = keeps.target ∙ gathers.target;
  last = record {
    events = keeps.events ∙ gathers.last.events;
    left_out = keeps.left_out ∙ gathers.last.left_out;
  };
  origin = keeps.origin ∙ gathers.origin;
  carrying = ap (λ (x : Carriers). carrying_of x) keeps.carriers ∙ gathers.carrying;
}

-- the items that did it
items_done : (b : Bundle) (p : Presented) (d : Done) (items : List Item) →
    (fold (done_more b p) d items).items ≡ d.items ++ items
unfolding done_more
items_done b p d [] = sym (append-nil d.items)
items_done b p d (i ∷ items) = items_done b p (done_more b p d i) items ∙ append_assoc d.items (i ∷ []) items

done_items : (b : Bundle) (p : Presented) (items : List Item) → (done_in b p items).items ≡ items
done_items b p items = items_done b p (nothing_done b) items

done_in_more : (b : Bundle) (p : Presented) (items : List Item) (i : Item) →
    done_in b p (items ++ i ∷ []) ≡ done_more b p (done_in b p items) i
done_in_more b p items i = fold-append (done_more b p) (nothing_done b) items (i ∷ [])

events_more : (b : Bundle) (p : Presented) (items : List Item) (i : Item) →
    (done_in b p (items ++ i ∷ [])).events
    ≡ (done_in b p items).events ++ item_events b p (done_in b p items).carrying items i
unfolding done_more
events_more b p items i =
    ap (λ (d : Done). d.events) (done_in_more b p items i)
    ∙ ap (λ (l : List Item). (done_in b p items).events ++ item_events b p (done_in b p items).carrying l i)
    (done_items b p items)

carrying_more : (b : Bundle) (p : Presented) (items : List Item) (i : Item) →
    (done_in b p (items ++ i ∷ [])).carrying ≡ carrying_next b p (done_in b p items).carrying items i
unfolding done_more
carrying_more b p items i =
    ap (λ (d : Done). d.carrying) (done_in_more b p items i)
    ∙ ap (λ (l : List Item). carrying_next b p (done_in b p items).carrying l i) (done_items b p items)

origin_more : (b : Bundle) (p : Presented) (items : List Item) (i : Item) →
    (done_in b p (items ++ i ∷ [])).origin ≡ origin_after p (done_in b p items).origin (showing_told b items i)
unfolding done_more
origin_more b p items i =
    ap (λ (d : Done). d.origin) (done_in_more b p items i)
    ∙ ap (λ (l : List Item). origin_after p (done_in b p items).origin (showing_told b l i)) (done_items b p items)

-- what an item shows, and what it does, or the step that it ends
abbrev both_events : Bundle → Presented → Carrying → List Item → Item → List PageEvent
both_events b p c items i =
    showing_events p (showing_told b items i)
    ++ ended_events b p c items i (kernel_alone b.kernel (items ++ i ∷ [])).kernel

shows_alone : (b : Bundle) (p : Presented) (items : List Item) (i : Item) →
    showing_events p (showing_told b items i) ++ [] ≡ showing_events p (showing_told b items i)
shows_alone b p items i = append-nil (showing_events p (showing_told b items i))

both_are : (b : Bundle) (p : Presented) (c : Carrying) (items : List Item) (i : Item) →
    both_events b p c items i ≡ item_events b p c items i
both_are b p c items (item.Step number) = refl
both_are b p c items (item.Cipher frame bytes) = shows_alone b p items (item.Cipher frame bytes)
both_are b p c items (item.Put address width value) = refl
both_are b p c items (item.Leave shown) = refl
both_are b p c items (item.Close steps) = refl
both_are b p c items item.End = refl
both_are b p c items (item.Ok d) = refl
both_are b p c items (item.Absent d cause) = refl
both_are b p c items (item.Word d value) = refl
both_are b p c items (item.Timer d) = refl
both_are b p c items (item.Resume d ctx answer) = refl
both_are b p c items (item.Stopped d) = refl
both_are b p c items (item.Ended d) = refl

-- where bytes of the page are then
carried_by : (b : Bundle) (p : Presented) (c : Carrying) (items : List Item) (i : Item) →
    carrying_after p i (showing_told b items i) (ended_move b items i (kernel_alone b.kernel (items ++ i ∷ [])).kernel) c
    ≡ carrying_next b p c items i
carried_by b p c items (item.Step number) = refl
carried_by b p c items (item.Cipher frame bytes) = refl
carried_by b p c items (item.Put address width value) = refl
carried_by b p c items (item.Leave shown) = refl
carried_by b p c items (item.Close steps) = refl
carried_by b p c items item.End = refl
carried_by b p c items (item.Ok d) = refl
carried_by b p c items (item.Absent d cause) = refl
carried_by b p c items (item.Word d value) = refl
carried_by b p c items (item.Timer d) = refl
carried_by b p c items (item.Resume d ctx answer) = refl
carried_by b p c items (item.Stopped d) = refl
carried_by b p c items (item.Ended d) = refl

-- What was done with an item: what was ahead was seen, what it showed was kept, then what the step did, and where bytes of the
-- page are was followed.
pub record TookNext (b : Bundle) (p : Presented) (items : List Item) (i : Item) (seen noted made new : Deeds)
    (showing : Option Showing) (ahead : Option StepAhead) (moved : Option DiskCall) : Type 0 where
  pub gathers : Gathers b p items seen
  pub shows : showing ≡ showing_told b items i
  pub stands : StandsAhead (ended_events b seen.target (carrying_of seen.carriers) items i) (ended_move b items i)
      (kernel_alone b.kernel items).kernel seen ahead
  pub moves : moved ≡ ahead_move ahead (kernel_alone b.kernel (items ++ i ∷ [])).kernel
  pub keeps_noted : KeepsTarget seen noted
  pub origin : noted.origin ≡ origin_after seen.target seen.origin showing
  pub keeps_made : KeepsTarget noted made
  pub made_origin : made.origin ≡ noted.origin
  pub last : KeepsLast (((done_in b p items).events ++ showing_events seen.target showing)
      ++ ahead_events noted.target (carrying_of noted.carriers) ahead (kernel_alone b.kernel items).kernel
      (kernel_alone b.kernel (items ++ i ∷ [])).kernel) made
  pub same : new ≡ record made { carriers = new.carriers }
  pub carries : carrying_of new.carriers ≡ carrying_after made.target i showing moved (carrying_of made.carriers)

pub gathers_more : (b : Bundle) (p : Presented) (items : List Item) (i : Item) (seen noted made new : Deeds)
    (showing : Option Showing) (ahead : Option StepAhead) (moved : Option DiskCall) →
    TookNext b p items i seen noted made new showing ahead moved → Gathers b p (items ++ i ∷ []) new
gathers_more b p items i seen noted made new showing ahead moved took =
    let done = (done_in b p items).events in
    let carrying = (done_in b p items).carrying in
    let was = (kernel_alone b.kernel items).kernel in
    let now = (kernel_alone b.kernel (items ++ i ∷ [])).kernel in
    let target : noted.target ≡ p = took.keeps_noted.target ∙ took.gathers.target in
    let carried : carrying_of noted.carriers ≡ carrying =
    ap (λ (x : Carriers). carrying_of x) took.keeps_noted.carriers ∙ took.gathers.carrying in
    let ended : made.target ≡ p = took.keeps_made.target ∙ target in
    let followed : carrying_of made.carriers ≡ carrying =
    ap (λ (x : Carriers). carrying_of x) took.keeps_made.carriers ∙ carried in
    let kept : KeepsLast (done_in b p (items ++ i ∷ [])).events made =
    subst (λ (l : List PageEvent). KeepsLast l made)
    (ap (λ (t : Presented). (done ++ showing_events seen.target showing)
    ++ ahead_events t (carrying_of noted.carriers) ahead was now) took.keeps_noted.target
    ∙ (ap (λ (x : Carriers). (done ++ showing_events seen.target showing)
    ++ ahead_events seen.target (carrying_of x) ahead was now) took.keeps_noted.carriers
    ∙ (ap (λ (l : List PageEvent). (done ++ showing_events seen.target showing) ++ l) (took.stands.events now)
    ∙ (ap (λ (t : Presented). (done ++ showing_events t showing)
    ++ ended_events b t (carrying_of seen.carriers) items i now) took.gathers.target
    ∙ (ap (λ (k : Carrying). (done ++ showing_events p showing) ++ ended_events b p k items i now) took.gathers.carrying
    ∙ (ap (λ (s : Option Showing). (done ++ showing_events p s) ++ ended_events b p carrying items i now) took.shows
    ∙ (append_assoc done (showing_events p (showing_told b items i)) (ended_events b p carrying items i now)
    ∙ (ap (λ (l : List PageEvent). done ++ l) (both_are b p carrying items i) ∙ sym (events_more b p items i)))))))))
    took.last in
    record {
      target = ap (λ (d : Deeds). d.target) took.same ∙ ended;
      last = record {
        events = ap (λ (d : Deeds). d.events.items) took.same ∙ kept.events;
        left_out = ap (λ (d : Deeds). d.left_out) took.same ∙ kept.left_out;
      };
      origin = ap (λ (d : Deeds). d.origin) took.same
          ∙ (took.made_origin
          ∙ (took.origin
          ∙ (ap (λ (t : Presented). origin_after t seen.origin showing) took.gathers.target
          ∙ (ap (λ (o : Option Showing). origin_after p o showing) took.gathers.origin
          ∙ (ap (λ (s : Option Showing). origin_after p (done_in b p items).origin s) took.shows
          ∙ sym (origin_more b p items i))))));
      carrying = took.carries
          ∙ (ap (λ (t : Presented). carrying_after t i showing moved (carrying_of made.carriers)) ended
          ∙ (ap (λ (k : Carrying). carrying_after p i showing moved k) followed
          ∙ (ap (λ (s : Option Showing). carrying_after p i s moved carrying) took.shows
          ∙ (ap (λ (m : Option DiskCall). carrying_after p i (showing_told b items i) m carrying)
          (took.moves ∙ took.stands.move now)
          ∙ (carried_by b p carrying items i ∙ sym (carrying_more b p items i))))));
    }

-- what was seen ahead is still seen once the showing is noted
pub still_seen : (does : KernelPart → List PageEvent) (moves : KernelPart → Option DiskCall) (was : KernelPart)
    (seen noted : Deeds) (ahead : Option StepAhead) → KeepsTarget seen noted → StandsAhead does moves was seen ahead →
    SeesAhead was.ram noted ahead
still_seen does moves was seen noted ahead keeps stands = ahead_seen was.ram seen noted ahead keeps stands.sees
