-- The opening of a run: what the kernel is shown of placed pages is what RAM has of them, and all else is the image's.
use Rattle.std.proofs.Common.{◌≡◌, ◌≢◌, ◌∙◌, ◌⊎◌, inl, inr, ℕ, zero, suc, ◌+◌, ◌≤◌, ◌<◌, nat_le, nat_lt, Bool, true, false, cond, ◌&&◌, List, [], ◌∷◌, ◌++◌, length, map, filter, slice_set, slice_index_or, Option, Some, None, Ok, refl, sym, ap, subst, arith}
use Rattle.std.specs.Prelude.{option_and_then, replicate, ◌==◌}
use Rattle.std.proofs.lemmas.Bool.{cases_lt, cases_eq, le-leb, lt-ltb, and_from}
use Rattle.std.proofs.lemmas.List.{length-set, length-replicate, get_or-set_same, get_or-set_other, ext_get_or, map-append}
use Rattle.std.proofs.lemmas.List.Elements.{filter-append}
use Rattle.cloak_base.specs.Random.{Random}
use Rattle.cloak_base.specs.declared.names.PageId.{PageId}
use Rattle.cloak_model.proofs.Opening.{length-with_segments}
use Rattle.cloak_model.specs.declared.image.Bundle.{Bundle}
use Rattle.cloak_model.specs.declared.image.KernelImage.{KernelImage}
use Rattle.cloak_model.specs.declared.image.Program.{Program}
use Rattle.cloak_model.specs.Items.{Item}
use Rattle.cloak_model.specs.Items as item
use Rattle.cloak_model.specs.Ahead.{with_shown}
use Rattle.cloak_model.specs.Beginning.{files_added, Beginning, opening_from}
use Rattle.cloak_model.specs.Cloaking.{CloakedMemory, seen_in}
use Rattle.cloak_model.specs.DomainState.{started_domain, started_control}
use Rattle.cloak_model.specs.Ledger.{Keys, next_vector}
use Rattle.cloak_model.specs.Memory.{zero_ram, Seen, unless_written, filled}
use Rattle.cloak_model.specs.Opening.{numbers_below, started_ledger, started_kernel, started_memory, program_page, place_pages, place_programs, started_domains, started_joint, is_placed, opening_items, RunEdge}
use Rattle.cloak_model.specs.PageMoves.{place, place_with}
use Rattle.cloak_model.specs.Parts.{Joint, KernelPart, kernel_part}
use Rattle.cloak_model.specs.StoredFiles.{FileContents}
use Rattle.cloak_model.specs.World.{cipher_items}
use Rattle.kernel_isolation.proofs.FilesAdded.{added_keep, added_programs, same_part, files_of, opens_over}
use Rattle.kernel_isolation.proofs.Shown.{AreFrames}
use Rattle.kernel_isolation.proofs.Settlings.{HasPlaces, length-with_shown}
use Rattle.kernel_isolation.proofs.Numbers.{AreFrom}
use Rattle.kernel_isolation.proofs.Turns.{IsSteady}
use Rattle.cloak_model.specs.KernelAlone.{kernel_seen, with_kernel_seen}
use Rattle.cloak_base.specs.Constants.{frame_of}
use Rattle.cloak_model.proofs.Marks.{still_none}
use Rattle.settling_ahead.proofs.Plans.{with_shown-append}

-- the bytes of a frame
abbrev pub frame_in : List (List ℕ) → ℕ → List ℕ
frame_in ram f = slice_index_or ram f []

-- Placing.

-- no hart has a reservation
abbrev AreNone : ℕ → List (Option ℕ) → Type 0
AreNone n marks = marks ≡ replicate n None

none_filled : (f : ℕ) (bytes : List ℕ) (n : ℕ) (seen : Seen) → AreNone n seen.marks →
    AreNone n (filled f bytes seen).marks
none_filled f bytes n seen none =
    ap (map (unless_written (λ mark. frame_of mark == f))) none ∙ still_none (λ mark. frame_of mark == f) n

none_shown : (ciphers : List (ℕ × List ℕ)) (n : ℕ) (seen : Seen) → AreNone n seen.marks →
    AreNone n (with_shown ciphers seen).marks
none_shown [] n seen none = none
none_shown (c ∷ ciphers) n seen none = none_shown ciphers n (filled c.0 c.1 seen) (none_filled c.0 c.1 n seen none)

-- what is owed stays, and so does each frame that is apart
record PlacesApart (apart : ℕ → Type 0) (m after : CloakedMemory) : Type 0 where
  pub count : length after.ram ≡ length m.ram
  pub owed : after.ledger.owed ≡ m.ledger.owed
  -- if no hart had a reservation, none has
  pub marks : (n : ℕ) → AreNone n m.marks → AreNone n after.marks
  pub others : (f : ℕ) → apart f → frame_in after.ram f ≡ frame_in m.ram f

abbrev PlacesIf : (ℕ → Type 0) → CloakedMemory → Option CloakedMemory → Type 0
PlacesIf apart m None = Unit {0}
PlacesIf apart m (Some after) = PlacesApart apart m after

places_none : (apart : ℕ → Type 0) (m : CloakedMemory) → PlacesApart apart m m
places_none apart m = record { count = refl; owed = refl; marks = λ n none. none; others = λ f is. refl }

places_then : (apart : ℕ → Type 0) (m m' m'' : CloakedMemory) → PlacesApart apart m m' → PlacesApart apart m' m'' →
    PlacesApart apart m m''
places_then apart m m' m'' p q = record {
  count = q.count ∙ p.count;
  owed = q.owed ∙ p.owed;
  marks = λ n none. q.marks n (p.marks n none);
  others = λ f is. q.others f is ∙ p.others f is;
}

places_weaker : (apart far : ℕ → Type 0) (m : CloakedMemory) (o : Option CloakedMemory) → ((f : ℕ) → far f → apart f) →
    PlacesIf apart m o → PlacesIf far m o
places_weaker apart far m None less p = tt
places_weaker apart far m (Some after) less p = record {
  count = p.count;
  owed = p.owed;
  marks = p.marks;
  others = λ f is. p.others f (less f is);
}

then_next : (apart : ℕ → Type 0) (m m' : CloakedMemory) (o : Option CloakedMemory) → PlacesApart apart m m' →
    PlacesIf apart m' o → PlacesIf apart m o
then_next apart m m' None p q = tt
then_next apart m m' (Some m'') p q = places_then apart m m' m'' p q

and_then_places : (apart : ℕ → Type 0) (m : CloakedMemory) (o : Option CloakedMemory)
    (next : CloakedMemory → Option CloakedMemory) →
    PlacesIf apart m o → ((x : CloakedMemory) → PlacesIf apart x (next x)) → PlacesIf apart m (option_and_then next o)
and_then_places apart m None next p more = tt
and_then_places apart m (Some m') next p more = then_next apart m m' (next m') p (more m')

one_places : (q : PageId) (f : ℕ) (bytes : List ℕ) (draw : Option (List ℕ × Random)) (m : CloakedMemory) →
    PlacesIf (λ g. g ≢ f) m (place_with q f bytes draw m)
unfolding place_with
one_places q f bytes None m = tt
one_places q f bytes (Some draw) m = record {
  count = length-set m.ram f _;
  owed = refl;
  marks = λ n none. none_filled f [] n (seen_in m) none;
  others = λ g other. get_or-set_other m.ram f g _ [] other;
}

place_apart : (q : PageId) (f : ℕ) (bytes : List ℕ) (m : CloakedMemory) → PlacesIf (λ g. g ≢ f) m (place q f bytes m)
unfolding place
place_apart q f bytes m = one_places q f bytes (next_vector m.ledger) m

-- a frame is none of the first n of a program
abbrev pub IsApart : Program → ℕ → ℕ → Type 0
IsApart p n f = (f < p.place) ⊎ (p.place + n ≤ f)

pub apart_less : (p : Program) (n f : ℕ) → IsApart p (suc n) f → IsApart p n f
apart_less p n f (inl low) = inl low
apart_less p n f (inr high) = inr (omega arith)

pub apart_last : (p : Program) (n f : ℕ) → IsApart p (suc n) f → f ≢ p.place + n
apart_last p n f (inl low) same = absurd (omega arith)
apart_last p n f (inr high) same = absurd (omega arith)

pages_apart : (d : ℕ) (p : Program) (n : ℕ) (m : CloakedMemory) → PlacesIf (IsApart p n) m (place_pages d p n m)
pages_apart d p zero m = places_none (IsApart p zero) m
pages_apart d p (suc n) m =
    let next = place (record { domain = d; resource = 0; page = n }) (p.place + n) (program_page p.bytes n) in
    and_then_places (IsApart p (suc n)) m (place_pages d p n m) next
    (places_weaker (IsApart p n) (IsApart p (suc n)) m (place_pages d p n m) (apart_less p n) (pages_apart d p n m))
    (λ x. places_weaker (λ g. g ≢ p.place + n) (IsApart p (suc n)) x (next x) (apart_last p n)
    (place_apart (record { domain = d; resource = 0; page = n }) (p.place + n) (program_page p.bytes n) x))

-- a frame in which no program is placed is apart from each

apart_by : (p : Program) (programs : List Program) (f : ℕ) (test : Bool) →
    (nat_le p.place f && nat_lt f (p.place + p.start.pages)) ≡ test →
    cond test true (is_placed programs f) ≡ false → IsApart p p.start.pages f × (is_placed programs f ≡ false)
apart_by p programs f true is away = absurd cc
apart_by p programs f false is away = elim (cases_lt f p.place) [
  | inl low ↦ (inl low, away)
  | inr at ↦ elim (cases_lt f (p.place + p.start.pages)) [
    | inl inside ↦
        let clash : true ≡ false = sym (and_from _ _ (le-leb p.place f at) (lt-ltb f (p.place + p.start.pages) inside))
        ∙ is in absurd cc
    | inr high ↦ (inr high, away)
  ]
]

pub apart_of : (p : Program) (programs : List Program) (f : ℕ) → is_placed (p ∷ programs) f ≡ false →
    IsApart p p.start.pages f × (is_placed programs f ≡ false)
apart_of p programs f away = apart_by p programs f _ refl away

abbrev IsAway : List Program → ℕ → Type 0
IsAway programs f = is_placed programs f ≡ false

programs_apart : (d : ℕ) (programs : List Program) (m : CloakedMemory) →
    PlacesIf (IsAway programs) m (place_programs d programs m)
programs_apart d [] m = places_none (IsAway []) m
programs_apart d (p ∷ programs) m =
    and_then_places (IsAway (p ∷ programs)) m (place_pages d p p.start.pages m) (place_programs (d + 1) programs)
    (places_weaker (IsApart p p.start.pages) (IsAway (p ∷ programs)) m (place_pages d p p.start.pages m)
    (λ f away. (apart_of p programs f away).0) (pages_apart d p p.start.pages m))
    (λ x. places_weaker (IsAway programs) (IsAway (p ∷ programs)) x (place_programs (d + 1) programs x)
    (λ f away. (apart_of p programs f away).1) (programs_apart (d + 1) programs x))

-- Showing.

-- the frames below n in which a page is placed, with their bytes
abbrev shown_below : (ℕ → Bool) → List (List ℕ) → ℕ → List (ℕ × List ℕ)
shown_below test ram n = map (λ (f : ℕ). (f, frame_in ram f)) (filter test (numbers_below n))

below_more : (test : ℕ → Bool) (ram : List (List ℕ)) (n : ℕ) →
    shown_below test ram (suc n) ≡ shown_below test ram n ++ map (λ (f : ℕ). (f, frame_in ram f)) (filter test (n ∷ []))
below_more test ram n =
    ap (map (λ (f : ℕ). (f, frame_in ram f))) (filter-append test (numbers_below n) (n ∷ []))
    ∙ map-append (λ (f : ℕ). (f, frame_in ram f)) (filter test (numbers_below n)) (filter test (n ∷ []))

-- RAM that was shown the frames below n is as it is there, and above it as it was
record IsShownBelow (n : ℕ) (ram was now : List (List ℕ)) : Type 0 where
  pub low : (i : ℕ) → i < n → frame_in now i ≡ frame_in ram i
  pub high : (i : ℕ) → n ≤ i → frame_in now i ≡ frame_in was i

show_one : (test : Bool) (n : ℕ) (ram was : List (List ℕ)) (seen : Seen) → n < length seen.ram →
    (test ≡ false → frame_in ram n ≡ frame_in was n) →
    IsShownBelow n ram was seen.ram →
    IsShownBelow (suc n) ram was (with_shown (map (λ (f : ℕ). (f, frame_in ram f)) (cond test (n ∷ []) [])) seen).ram
show_one true n ram was seen lt away s = (let now = seen.ram in record {
  low = λ i less. elim (cases_eq i n) [
    | inl same ↦
        subst (λ (x : ℕ). frame_in (slice_set now n (frame_in ram n)) x ≡ frame_in ram x) (sym same)
        (get_or-set_same now n (frame_in ram n) [] lt)
    | inr other ↦ get_or-set_other now n i (frame_in ram n) [] other ∙ s.low i (omega (arith, less, other))
  ];
  high = λ i above.
      get_or-set_other now n i (frame_in ram n) [] (λ same. absurd (omega (arith, above, same)))
      ∙ s.high i (omega (arith, above));
})
show_one false n ram was seen lt away s = (let now = seen.ram in record {
  low = λ i less. elim (cases_eq i n) [
    | inl same ↦
        subst (λ (x : ℕ). frame_in now x ≡ frame_in ram x) (sym same) (s.high n (omega arith) ∙ sym (away refl))
    | inr other ↦ s.low i (omega (arith, less, other))
  ];
  high = λ i above. s.high i (omega (arith, above));
})

show_below : (test : ℕ → Bool) (ram : List (List ℕ)) (was : Seen) →
    ((f : ℕ) → test f ≡ false → frame_in ram f ≡ frame_in was.ram f) →
    (n : ℕ) → n ≤ length was.ram → IsShownBelow n ram was.ram (with_shown (shown_below test ram n) was).ram
show_below test ram was away zero le = record { low = λ i less. absurd (omega (arith, less)); high = λ i above. refl }
show_below test ram was away (suc n) le =
    let now : Seen = with_shown (shown_below test ram n) was in
    let count = length-with_shown (shown_below test ram n) was in
    subst (λ (x : Seen). IsShownBelow (suc n) ram was.ram x.ram)
    (sym (ap (λ (l : List (ℕ × List ℕ)). with_shown l was) (below_more test ram n)
    ∙ with_shown-append (shown_below test ram n) (map (λ (f : ℕ). (f, frame_in ram f)) (filter test (n ∷ []))) was))
    (show_one (test n) n ram was.ram now (omega (arith, count, le)) (away n)
    (show_below test ram was away n (omega (arith, le))))

pub shown_whole : (test : ℕ → Bool) (ram : List (List ℕ)) (was : Seen) → length ram ≡ length was.ram →
    ((f : ℕ) → test f ≡ false → frame_in ram f ≡ frame_in was.ram f) →
    (with_shown (shown_below test ram (length ram)) was).ram ≡ ram
shown_whole test ram was count away =
    let s = show_below test ram was away (length ram) (omega (arith, count)) in
    let same = length-with_shown (shown_below test ram (length ram)) was in
    ext_get_or [] (with_shown (shown_below test ram (length ram)) was).ram ram (same ∙ sym count)
    (λ i less. s.low i (omega (arith, less, same, count)))

frames_one : (test : Bool) (n : ℕ) (ram was : List (List ℕ)) → n < length was → (rest : List (ℕ × List ℕ)) →
    AreFrames was rest →
    AreFrames was (rest ++ map (λ (f : ℕ). (f, frame_in ram f)) (cond test (n ∷ []) []))
frames_one true n ram was lt [] all = (lt, tt)
frames_one false n ram was lt [] all = tt
frames_one test n ram was lt (c ∷ rest) all = (all.0, frames_one test n ram was lt rest all.1)

frames_below : (test : ℕ → Bool) (ram was : List (List ℕ)) (n : ℕ) → n ≤ length was →
    AreFrames was (shown_below test ram n)
frames_below test ram was zero le = tt
frames_below test ram was (suc n) le =
    subst (λ (l : List (ℕ × List ℕ)). AreFrames was l) (sym (below_more test ram n))
    (frames_one (test n) n ram was (omega (arith, le)) (shown_below test ram n)
    (frames_below test ram was n (omega (arith, le))))

items_by : (ram : List (List ℕ)) (fs : List ℕ) →
    map (λ f. item.Cipher f (frame_in ram f)) fs ≡ cipher_items (map (λ (f : ℕ). (f, frame_in ram f)) fs)
items_by ram [] = refl
items_by ram (f ∷ fs) = ap (λ (l : List Item). item.Cipher f (frame_in ram f) ∷ l) (items_by ram fs)

-- How a run begins.

started_places : (k : KernelImage) (keys : Keys) (rest : Random) → HasPlaces (started_memory k keys rest)
unfolding started_memory started_kernel started_ledger
started_places k keys rest =
    length-replicate k.frames None
    ∙ sym (length-with_segments (zero_ram k.frames) k.segments ∙ length-replicate k.frames _)

started_from : (d : ℕ) (programs : List Program) → AreFrom d (started_domains d programs)
unfolding started_domain started_control
started_from d [] = tt
started_from d (p ∷ programs) = (refl, started_from (d + 1) programs)

-- What the kernel is shown then gives RAM, from the kernel's image.
pub record IsOpened (b : Bundle) (o : RunEdge) : Type 0 where
  pub ciphers : List (ℕ × List ℕ)
  pub items : o.items ≡ cipher_items ciphers
  pub frames : AreFrames (started_kernel b.kernel).ram ciphers
  pub part : kernel_part o.joint
      ≡ with_kernel_seen (with_shown ciphers (kernel_seen (started_kernel b.kernel))) (started_kernel b.kernel)
  pub steady : IsSteady o.joint

started_none : (k : KernelImage) → AreNone k.harts (started_kernel k).marks
unfolding started_kernel
started_none k = refl

-- the memory in which the pages were placed, and the machine with the files
opened_memory : (b : Bundle) (keys : Keys) (rest : Random) (m : CloakedMemory) (files : List FileContents) (j : Joint) →
    PlacesApart (IsAway b.programs) (started_memory b.kernel keys rest) m →
    files_added files (started_joint b m) ≡ Ok j →
    IsOpened b (record { joint = j; items = opening_items b.programs m.ram })
unfolding started_memory started_joint
opened_memory b keys rest m files j placed added =
    let keeps = added_keep files (started_joint b m) j added in
    let k : KernelPart = started_kernel b.kernel in
    let was : Seen = kernel_seen k in
    let ciphers : List (ℕ × List ℕ) = shown_below (is_placed b.programs) m.ram (length m.ram) in
    let whole : (with_shown ciphers was).ram ≡ m.ram =
    shown_whole (is_placed b.programs) m.ram was placed.count placed.others in
    let none = started_none b.kernel in
    let marks : m.marks ≡ (with_shown ciphers was).marks =
    placed.marks b.kernel.harts none ∙ sym (none_shown ciphers b.kernel.harts was none) in
    let count = placed.count in
    record {
      ciphers = ciphers;
      items = items_by m.ram (filter (is_placed b.programs) (numbers_below (length m.ram)));
      frames = frames_below (is_placed b.programs) m.ram was.ram (length m.ram) (omega (arith, count));
      part = same_part (started_joint b m) j keeps
          ∙ (ap (λ (ram : List (List ℕ)). with_kernel_seen (record { ram = ram; marks = m.marks }) k) (sym whole)
          ∙ ap (λ (l : List (Option ℕ)). with_kernel_seen (record { ram = (with_shown ciphers was).ram; marks = l }) k)
          marks);
      steady = record {
        places = ap length (keeps.memory.owed ∙ placed.owed)
            ∙ (started_places b.kernel keys rest ∙ sym (ap length keeps.memory.ram ∙ placed.count));
        programs = added_programs files (started_joint b m) j added (started_from 0 b.programs);
      };
    }

pub is_opened : (b : Bundle) (from : Beginning) (o : RunEdge) → opening_from b from ≡ Ok o → IsOpened b o
is_opened b from o opens =
    let over = opens_over b from o opens in
    let bare : CloakedMemory = started_memory b.kernel over.keys over.stream in
    subst (λ (items : List Item). IsOpened b (record { joint = o.joint; items = items })) (sym over.items)
    (opened_memory b over.keys over.stream over.memory (files_of from) o.joint
    (subst (PlacesIf (IsAway b.programs) bare) over.placed (programs_apart 0 b.programs bare)) over.added)
