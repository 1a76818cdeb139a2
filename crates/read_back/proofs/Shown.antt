-- What was shown of a record that was read back.
use Rattle.std.proofs.Common.{◌≡◌, ℕ, Bool, true, false, List, [], ◌∷◌, ◌++◌, codes, Option, Some, None, Ok, Err, refl, sym, ap, subst, ◌∙◌, inl, inr}
use Rattle.cloak_base.specs.declared.causes.Failed.{Failed}
use Rattle.io_traits.specs.declared.shelf.Shelf as shelves
use Rattle.io_traits.specs.declared.sink.Sink as sinks
use Rattle.io_traits.specs.Sinks.{PutsTo}
use Rattle.io_traits.specs.Told.{Grows, GrowsByFront, Rose}
use Rattle.io_traits.proofs.ToldFacts.{Grows-none, Grows-append, GrowsByFront-append, GrowsByFront-first, Rose-after}
use Rattle.cloak_model.specs.declared.image.KernelImage.{KernelImage}
use Rattle.cloak_model.specs.Exchange.{shown_each, shown_bytes, Emits}
use Rattle.cloak_model.specs.DomainAlone.{domain_alone_from}
use Rattle.cloak_model.specs.DomainState.{domain_line}
use Rattle.cloak_model.specs.KernelAlone.{kernel_alone}
use Rattle.cloak_model.specs.Parts.{DomainPart, KernelPart}
use Rattle.cloak_model.specs.Report.{kernel_lines}
use Rattle.alone_views.specs.declared.domain.DomainAlone.{DomainAlone}
use Rattle.alone_views.specs.declared.kernel.KernelAlone.{KernelAlone}
use Rattle.command_parts.specs.declared.status.Status.{Status}
use Rattle.command_parts.specs.declared.status.Status.TheVariants as status
use Rattle.command_parts.specs.Outside.{outside}
use Rattle.read_back.specs.Answering.{viewed_unfit, viewed_text, program_unfit, program_text}
use Rattle.read_back.specs.Reading.{status_of_ending, ShowsRecord}
use Rattle.read_back.specs.Screen.{ShowsText, GaveScreen}
use Rattle.read_back.specs.Text.{lines_or_fault, view_text}
use Rattle.read_back.specs.Viewing.{ViewsTo, SolosTo}
use Rattle.read_back.specs.declared.ending.Ending.{Ending}
use Rattle.read_back.specs.declared.screen.Screen.{Screen}

-- The console that a screen shows.

each_shown : (bytes : List ℕ) → shown_bytes (shown_each bytes) ≡ bytes
each_shown [] = refl
each_shown (b ∷ bytes) = ap (λ (l : List ℕ). b ∷ l) (each_shown bytes)

shows_nothing : (failed : Bool) (a : Option (List ℕ)) (m : ℕ) → failed ≡ false → ShowsText failed a a m m []
shows_nothing false a m fresh = (Grows-none a, refl)
shows_nothing true a m fresh = absurd (let clash : true ≡ false = fresh in cc)

-- what a screen that was whole was given since
screen_shows : {O : Type 0} (sink : sinks.Ghosts O) (first now : Screen O) (bytes : List ℕ) →
    first.failed ≡ false → Emits (GaveScreen sink) first now (shown_each bytes) →
    ShowsText now.failed (sink.taken first.out.now) (sink.taken now.out.now) (sink.faults first.out.now)
    (sink.faults now.out.now) bytes
screen_shows {O} sink first now bytes fresh emits =
    let start : GaveScreen sink first first [] = record {
      output = refl;
      text = λ is. shows_nothing first.failed (sink.taken first.out.now) (sink.faults first.out.now) is;
    } in
    subst (λ (l : List ℕ). ShowsText now.failed (sink.taken first.out.now) (sink.taken now.out.now)
    (sink.faults first.out.now) (sink.faults now.out.now) l) (each_shown bytes) ((emits.more first [] start).text fresh)

-- If it did not fail, and if it did.

text_whole : (failed : Bool) (a b : Option (List ℕ)) (m n : ℕ) (text : List ℕ) → failed ≡ false →
    ShowsText failed a b m n text → Grows a b text × (n ≡ m)
text_whole false a b m n text well shows = shows
text_whole true a b m n text well shows = absurd (let clash : true ≡ false = well in cc)

text_front : (failed : Bool) (a b : Option (List ℕ)) (m n : ℕ) (text : List ℕ) → failed ≡ true →
    ShowsText failed a b m n text → GrowsByFront a b text × Rose m n
text_front true a b m n text ill shows = shows
text_front false a b m n text ill shows = absurd (let clash : false ≡ true = ill in cc)

-- the console is the front of all that is shown
view_front : (a b : Option (List ℕ)) (k : KernelPart) (ended : Option Ending) → GrowsByFront a b k.console →
    GrowsByFront a b (view_text k ended)
view_front a b k None front = front
view_front a b k (Some ended) front =
    GrowsByFront-first a b k.console (codes "\n" ++ lines_or_fault (kernel_lines k) ended) front

-- `view`: the screen failed
pub view_broke : {S O : Type 0} (shelf : shelves.Ghosts S) (sink : sinks.Ghosts O)
    {k : KernelImage} {machine : KernelAlone} {first now : Screen O} {name : List ℕ} {s s' : S} {o o' : O}
    {ended : Option Ending} →
    ViewsTo (GaveScreen sink) first now k machine (shelf.held s name) (shelf.reading_faults s)
    (shelf.reading_faults s') ended →
    first.failed ≡ false → now.failed ≡ true → first.out.now ≡ o → o' ≡ now.out.now →
    ShowsRecord (viewed_unfit k) (viewed_text k) name status.WriteFault (outside shelf sink s o)
    (outside shelf sink s' o')
view_broke {S} {O} shelf sink {k} {machine} {first} {now} {name} {s} {s'} {o} {o'}
    {ended} views fresh broken same_first same_now =
    let console = (kernel_alone k views.items).kernel.console in
    let front = text_front now.failed _ _ _ _ console broken (screen_shows sink first now console fresh views.shows) in
    let shown : GrowsByFront (sink.taken o) (sink.taken o') console =
    subst (λ (x : O). GrowsByFront (sink.taken x) (sink.taken o') console) same_first
    (subst (λ (x : O). GrowsByFront (sink.taken first.out.now) (sink.taken x) console) (sym same_now) front.0) in
    let rose : Rose (sink.faults o) (sink.faults o') =
    subst (λ (x : O). Rose (sink.faults x) (sink.faults o')) same_first
    (subst (λ (x : O). Rose (sink.faults first.out.now) (sink.faults x)) (sym same_now) front.1) in
    inr (
      refl,
      record {
        items = views.items;
        ended = ended;
        read = views.read;
        shown = view_front (sink.taken o) (sink.taken o') (kernel_alone k views.items).kernel ended shown;
        faults = rose;
      },
    )

-- `view`: the console was shown, and then the end
pub view_whole : {S O : Type 0} (shelf : shelves.Ghosts S) (sink : sinks.Ghosts O)
    {k : KernelImage} {machine : KernelAlone} {first now : Screen O} {name : List ℕ} {s s' : S} {o mid : O}
    {ended : Ending} {given : Status} {u : Unit} (o' : O) →
    (views : ViewsTo (GaveScreen sink) first now k machine (shelf.held s name) (shelf.reading_faults s)
    (shelf.reading_faults s') (Some ended)) →
    first.failed ≡ false → now.failed ≡ false → first.out.now ≡ o → mid ≡ now.out.now →
    PutsTo sink mid o'
    (codes "\n" ++ lines_or_fault (kernel_lines (kernel_alone k views.items).kernel) ended) (Ok u) →
    given ≡ status_of_ending ended →
    ShowsRecord (viewed_unfit k) (viewed_text k) name given (outside shelf sink s o)
    (outside shelf sink s' o')
view_whole {S} {O} shelf sink {k} {machine} {first} {now} {name} {s} {s'} {o} {mid}
    {ended} {given} {u} o' views fresh well same_first same_now puts answer =
    let console = (kernel_alone k views.items).kernel.console in
    let end = codes "\n" ++ lines_or_fault (kernel_lines (kernel_alone k views.items).kernel) ended in
    let whole = text_whole now.failed _ _ _ _ console well (screen_shows sink first now console fresh views.shows) in
    let shown : Grows (sink.taken o) (sink.taken mid) console =
    subst (λ (x : O). Grows (sink.taken x) (sink.taken mid) console) same_first
    (subst (λ (x : O). Grows (sink.taken first.out.now) (sink.taken x) console) (sym same_now) whole.0) in
    let same : sink.faults mid ≡ sink.faults o = ap sink.faults same_now ∙ (whole.1 ∙ ap sink.faults same_first) in
    inl (record {
      items = views.items;
      ended = ended;
      status = answer;
      read = views.read;
      shown = Grows-append (sink.taken o) (sink.taken mid) (sink.taken o') console end shown puts.0;
      faults = puts.1 ∙ same;
    })

-- `view`: the console was shown, and then a front of the end
pub view_cut : {S O : Type 0} (shelf : shelves.Ghosts S) (sink : sinks.Ghosts O)
    {k : KernelImage} {machine : KernelAlone} {first now : Screen O} {name : List ℕ} {s s' : S} {o mid : O}
    {ended : Ending} {e : Failed} (o' : O) →
    (views : ViewsTo (GaveScreen sink) first now k machine (shelf.held s name) (shelf.reading_faults s)
    (shelf.reading_faults s') (Some ended)) →
    first.failed ≡ false → now.failed ≡ false → first.out.now ≡ o → mid ≡ now.out.now →
    PutsTo sink mid o'
    (codes "\n" ++ lines_or_fault (kernel_lines (kernel_alone k views.items).kernel) ended) (Err e) →
    ShowsRecord (viewed_unfit k) (viewed_text k) name status.WriteFault (outside shelf sink s o)
    (outside shelf sink s' o')
view_cut {S} {O} shelf sink {k} {machine} {first} {now} {name} {s} {s'} {o} {mid}
    {ended} {e} o' views fresh well same_first same_now puts =
    let console = (kernel_alone k views.items).kernel.console in
    let end = codes "\n" ++ lines_or_fault (kernel_lines (kernel_alone k views.items).kernel) ended in
    let whole = text_whole now.failed _ _ _ _ console well (screen_shows sink first now console fresh views.shows) in
    let shown : Grows (sink.taken o) (sink.taken mid) console =
    subst (λ (x : O). Grows (sink.taken x) (sink.taken mid) console) same_first
    (subst (λ (x : O). Grows (sink.taken first.out.now) (sink.taken x) console) (sym same_now) whole.0) in
    let same : sink.faults mid ≡ sink.faults o = ap sink.faults same_now ∙ (whole.1 ∙ ap sink.faults same_first) in
    inr (
      refl,
      record {
        items = views.items;
        ended = Some ended;
        read = views.read;
        shown = GrowsByFront-append (sink.taken o) (sink.taken mid) (sink.taken o') console end shown puts.0;
        faults = Rose-after (sink.faults o) (sink.faults mid) (sink.faults o') same puts.1;
      },
    )

-- `solo`

pub solo_whole : {S O : Type 0} (shelf : shelves.Ghosts S) (sink : sinks.Ghosts O)
    {d : ℕ} {k : KernelImage} {p : DomainPart} {machine : DomainAlone} {name : List ℕ} {s s' : S} {ended : Ending}
    {given : Status} {u : Unit} (o o' : O) →
    (solos : SolosTo d k p machine (shelf.held s name) (shelf.reading_faults s) (shelf.reading_faults s')
    (Some ended)) →
    PutsTo sink o o'
    (lines_or_fault (domain_line (domain_alone_from d k.schedule p solos.items).part.domain) ended) (Ok u) →
    given ≡ status_of_ending ended →
    ShowsRecord (program_unfit d k p) (program_text d k p) name given (outside shelf sink s o)
    (outside shelf sink s' o')
solo_whole {S} {O} shelf sink {d} {k} {p} {machine} {name} {s} {s'} {ended} {given} {u}
    o o' solos puts answer =
    inl (record {
      items = solos.items;
      ended = ended;
      status = answer;
      read = solos.read;
      shown = puts.0;
      faults = puts.1;
    })

pub solo_cut : {S O : Type 0} (shelf : shelves.Ghosts S) (sink : sinks.Ghosts O)
    {d : ℕ} {k : KernelImage} {p : DomainPart} {machine : DomainAlone} {name : List ℕ} {s s' : S} {ended : Ending}
    {e : Failed} (o o' : O) →
    (solos : SolosTo d k p machine (shelf.held s name) (shelf.reading_faults s) (shelf.reading_faults s')
    (Some ended)) →
    PutsTo sink o o'
    (lines_or_fault (domain_line (domain_alone_from d k.schedule p solos.items).part.domain) ended) (Err e) →
    ShowsRecord (program_unfit d k p) (program_text d k p) name status.WriteFault
    (outside shelf sink s o) (outside shelf sink s' o')
solo_cut {S} {O} shelf sink {d} {k} {p} {machine} {name} {s} {s'} {ended} {e} o o' solos
    puts =
    inr (
      refl,
      record {
        items = solos.items;
        ended = Some ended;
        read = solos.read;
        shown = puts.0;
        faults = puts.1;
      },
    )
