-- The opening of a run: pages are placed under draws one after another, and each frame shows what was placed last.
use Rattle.std.proofs.Common.{◌≡◌, ◌≢◌, ◌∙◌, ◌⊎◌, inl, inr, ℕ, zero, suc, ◌+◌, ◌-◌, ◌≤◌, ◌<◌, nat_le, nat_lt, nat_eq, Bool, true, false, cond, ◌&&◌, List, [], ◌∷◌, ◌++◌, length, map, filter, replicate, slice_set, slice_get, Option, Some, None, Ok, refl, sym, ap, subst, arith}
use Rattle.std.specs.Prelude.{option_map}
use Rattle.std.specs.List.{AllByRecursion}
use Rattle.std.proofs.lemmas.Bool.{lt-leb, le-ltb, ne_eqb, eq-eqb, cases_lt, cases_eq, le-leb, lt-ltb, and_from}
use Rattle.std.proofs.lemmas.List.{length-set, get_or-set_same, get_or-set_other}
use Rattle.cloak_base.specs.Random.{Random, next_draw}
use Rattle.cloak_base.specs.Pages.{same_page, with_page}
use Rattle.cloak_base.specs.declared.names.PageId.{PageId}
use Rattle.cloak_model.specs.declared.image.Bundle.{Bundle}
use Rattle.cloak_model.specs.declared.image.Program.{Program}
use Rattle.cloak_model.specs.Items.{Item}
use Rattle.cloak_model.specs.Items as item
use Rattle.cloak_model.specs.Chain.{cbc}
use Rattle.cloak_model.specs.Sealing.{Sealing, sealed_by}
use Rattle.cloak_model.specs.Beginning.{Beginning, Fresh, Stored, opening_from}
use Rattle.cloak_model.specs.Bundle.{IsInGrammar}
use Rattle.cloak_model.specs.Cloaking.{CloakedMemory}
use Rattle.cloak_model.specs.Ledger.{Keys, key_in, key_of, next_vector}
use Rattle.cloak_model.specs.Opening.{key_count, numbers_below, started_ledger, started_memory, program_page, place_pages, place_programs, started_joint, is_placed, opening_items, RunEdge}
use Rattle.cloak_model.specs.PageMoves.{place, place_with}
use Rattle.kernel_isolation.proofs.FilesAdded.{added_keep, HasKeys, files_of, opens_over}
use Rattle.page_law.specs.Ciphers.{draw_at, stream_of, keys_drawn, shown_under, ShowsPage, pages_of_programs, placing_draw}
use Rattle.page_law.proofs.Draws.{OwesPagesOf, HasDrawn, draw_made, draws_stay}
use Rattle.page_law.proofs.Given.{added_own}
use Rattle.page_law.proofs.Keys.{are_drawn, programs_have_keys, handed_keys, program_at}
use Rattle.kernel_isolation.proofs.Opened.{frame_in, IsApart, apart_less, apart_last, apart_of}
use Rattle.cloak_model.proofs.Opening.{length-started_domains}
use Rattle.std.proofs.lemmas.Option.{same_Some}
use Rattle.domain_isolation.proofs.Opened.{before}

-- a page of a program as it begins
abbrev first_page : ℕ → ℕ → PageId
first_page d n = record { domain = d; resource = 0; page = n }

-- One page.

record OnePlaced (q : PageId) (f : ℕ) (bytes : List ℕ) (m m' : CloakedMemory) : Type 0 where
  pub draw : List ℕ × Random
  pub is : next_draw m.ledger.stream ≡ Some draw
  pub ram : m'.ram ≡ slice_set m.ram f (sealed_by m.ledger.keys.seal (key_of m.ledger q) draw.0 bytes)
  pub plain : m'.plain ≡ with_page m.plain q bytes
  pub keys : m'.ledger.keys ≡ m.ledger.keys
  pub owed : m'.ledger.owed ≡ m.ledger.owed
  pub stream : m'.ledger.stream ≡ draw.1

placed_by : (q : PageId) (f : ℕ) (bytes : List ℕ) (draw : Option (List ℕ × Random)) (m m' : CloakedMemory) →
    next_draw m.ledger.stream ≡ draw → place_with q f bytes draw m ≡ Some m' → OnePlaced q f bytes m m'
unfolding place_with
placed_by q f bytes None m m' found is = absurd cc
placed_by q f bytes (Some draw) m m' found is =
    let same = sym (same_Some _ m' is) in
    record {
      draw = draw;
      is = found;
      ram = ap (λ (x : CloakedMemory). x.ram) same;
      plain = ap (λ (x : CloakedMemory). x.plain) same;
      keys = ap (λ (x : CloakedMemory). x.ledger.keys) same;
      owed = ap (λ (x : CloakedMemory). x.ledger.owed) same;
      stream = ap (λ (x : CloakedMemory). x.ledger.stream) same;
    }

one_placed : (q : PageId) (f : ℕ) (bytes : List ℕ) (m m' : CloakedMemory) → place q f bytes m ≡ Some m' →
    OnePlaced q f bytes m m'
unfolding place
one_placed q f bytes m m' is = placed_by q f bytes (next_vector m.ledger) m m' refl is

-- The pages of a program.

-- the frame of page i shows it as it begins, and these are its newest bytes
record FrameShows (from : Beginning) (d k : ℕ) (p : Program) (m : CloakedMemory) (i : ℕ) : Type 0 where
  pub frame : frame_in m.ram (p.place + i)
      ≡ shown_under (key_of m.ledger (first_page d i)) (draw_at (k + i) (stream_of from)) (program_page p.bytes i)
  pub page : m.plain (first_page d i) ≡ program_page p.bytes i

record PagesShow (all : List Program) (from : Beginning) (d k : ℕ) (p : Program) (n : ℕ) (m m' : CloakedMemory) : Type 0
  where
    pub count : length m'.ram ≡ length m.ram
    pub drawn : HasDrawn (length all) all from (k + n) m'.ledger
    pub keys : m'.ledger.keys ≡ m.ledger.keys
    pub others : (q : PageId) → q.domain ≢ d → m'.plain q ≡ m.plain q
    pub apart : (f : ℕ) → IsApart p n f → frame_in m'.ram f ≡ frame_in m.ram f
    pub own : (i : ℕ) → i < n → p.place + i < length m.ram → FrameShows from d k p m' i

page_other : (plain : PageId → List ℕ) (q p : PageId) (bytes : List ℕ) → same_page p q ≡ false →
    with_page plain q bytes p ≡ plain p
page_other plain q p bytes other = ap (λ (b : Bool). cond b bytes (plain p)) other

page_same : (plain : PageId → List ℕ) (q p : PageId) (bytes : List ℕ) → same_page p q ≡ true →
    with_page plain q bytes p ≡ bytes
page_same plain q p bytes same = ap (λ (b : Bool). cond b bytes (plain p)) same

other_domain : (p q : PageId) → p.domain ≢ q.domain → same_page p q ≡ false
unfolding same_page
other_domain p q other =
    ap (λ (b : Bool). b && (nat_eq p.resource q.resource && nat_eq p.page q.page)) (ne_eqb p.domain q.domain other)

other_number : (d i n : ℕ) → i ≢ n → same_page (first_page d i) (first_page d n) ≡ false
unfolding same_page
other_number d i n other =
    ap (λ (b : Bool). nat_eq d d && (nat_eq 0 0 && b)) (ne_eqb i n other) ∙ and_false (nat_eq d d)
  where
    and_false : (b : Bool) → (b && (true && false)) ≡ false
    and_false true = refl
    and_false false = refl

same_number : (d n : ℕ) → same_page (first_page d n) (first_page d n) ≡ true
unfolding same_page
same_number d n = and_from _ _ (eq-eqb d d refl) (and_from _ _ refl (eq-eqb n n refl))

draw_is : {count : ℕ} {all : List Program} (from : Beginning) (n : ℕ) (m : CloakedMemory) (draw : List ℕ × Random) →
    HasDrawn count all from n m.ledger → next_draw m.ledger.stream ≡ Some draw → draw_at n (stream_of from) ≡ Some draw.0
draw_is from n m draw has is = ap (option_map (λ (d : List ℕ × Random). d.0)) (sym has.next ∙ is)

-- the page that was placed last
last_shows : {count : ℕ} {all : List Program} (from : Beginning) (d k : ℕ) (p : Program) (n : ℕ) (m m' : CloakedMemory) →
    HasDrawn count all from (k + n) m.ledger → OnePlaced (first_page d n) (p.place + n)
    (program_page p.bytes n) m m' → p.place + n < length m.ram → FrameShows from d k p m' n
last_shows from d k p n m m' has one lt = record {
  frame = ap (λ (ram : List (List ℕ)). frame_in ram (p.place + n)) one.ram
      ∙ (get_or-set_same m.ram (p.place + n) _ [] lt
      ∙ (ap (λ (s : Sealing). sealed_by s (key_of m.ledger (first_page d n)) one.draw.0 (program_page p.bytes n)) has.chained
      ∙ (ap (λ (keys : Keys). cbc (key_in keys (first_page d n)) one.draw.0 (program_page p.bytes n)) (sym one.keys)
      ∙ ap (λ (draw : Option (List ℕ)). shown_under (key_of m'.ledger (first_page d n)) draw (program_page p.bytes n))
      (sym (draw_is from (k + n) m one.draw has one.is)))));
  page = ap (λ (plain : PageId → List ℕ). plain (first_page d n)) one.plain
      ∙ page_same m.plain (first_page d n) (first_page d n) (program_page p.bytes n) (same_number d n);
}

-- and one before it
earlier_shows : (from : Beginning) (d k : ℕ) (p : Program) (n i : ℕ) (m m' : CloakedMemory) →
    OnePlaced (first_page d n) (p.place + n) (program_page p.bytes n) m m' → i < n →
    FrameShows from d k p m i → FrameShows from d k p m' i
earlier_shows from d k p n i m m' one less shows = record {
  frame = ap (λ (ram : List (List ℕ)). frame_in ram (p.place + i)) one.ram
      ∙ (get_or-set_other m.ram (p.place + n) (p.place + i) _ [] (λ same. absurd (omega (arith, same, less)))
      ∙ (shows.frame
      ∙ ap (λ (keys : Keys). shown_under (key_in keys (first_page d i)) (draw_at (k + i) (stream_of from))
      (program_page p.bytes i)) (sym one.keys)));
  page = ap (λ (plain : PageId → List ℕ). plain (first_page d i)) one.plain
      ∙ (page_other m.plain (first_page d n) (first_page d i) (program_page p.bytes n)
      (other_number d i n (λ same. absurd (omega (arith, same, less)))) ∙ shows.page);
}

pages_show : (all : List Program) (from : Beginning) (d k : ℕ) (p : Program) (n : ℕ) (m m' : CloakedMemory) →
    HasDrawn (length all) all from k m.ledger → place_pages d p n m ≡ Some m' → PagesShow all from d k p n m m'
pages_show all from d k p zero m m' has is =
    let number : k ≡ k + 0 = omega arith in
    subst (λ (x : CloakedMemory). PagesShow all from d k p zero m x) (same_Some m m' is) (record {
      count = refl;
      drawn = subst (λ (x : ℕ). HasDrawn (length all) all from x m.ledger) number has;
      keys = refl;
      others = λ q other. refl;
      apart = λ f away. refl;
      own = λ i less lt. absurd (omega (arith, less));
    })
pages_show all from d k p (suc n) m m' has is =
    let b = before (place (first_page d n) (p.place + n) (program_page p.bytes n)) (place_pages d p n m) m' is in
    let first = pages_show all from d k p n m b.value has b.was in
    let one = one_placed (first_page d n) (p.place + n) (program_page p.bytes n) b.value m' b.next in
    let number : suc (k + n) ≡ k + suc n = omega arith in
    let count = first.count in
    record {
      count = ap length one.ram ∙ (length-set b.value.ram (p.place + n) _ ∙ first.count);
      drawn = subst (λ (x : ℕ). HasDrawn (length all) all from x m'.ledger) number
          (draw_made from (k + n) b.value.ledger m'.ledger one.draw first.drawn one.is one.keys
          (subst (OwesPagesOf (length all)) (sym one.owed) first.drawn.owed) one.stream);
      keys = one.keys ∙ first.keys;
      others = λ q other.
          ap (λ (plain : PageId → List ℕ). plain q) one.plain
          ∙ (page_other b.value.plain (first_page d n) q (program_page p.bytes n)
          (other_domain q (first_page d n) other) ∙ first.others q other);
      apart = λ f away.
          ap (λ (ram : List (List ℕ)). frame_in ram f) one.ram
          ∙ (get_or-set_other b.value.ram (p.place + n) f _ [] (apart_last p n f away)
          ∙ first.apart f (apart_less p n f away));
      own = λ i less lt. elim (cases_eq i n) [
        | inl same ↦
            let lt' : p.place + n < length b.value.ram = omega (arith, lt, same, count) in
            subst (λ (x : ℕ). FrameShows from d k p m' x) (sym same)
            (last_shows from d k p n b.value m' first.drawn one lt')
        | inr other ↦
            let less' : i < n = omega (arith, less, other) in
            earlier_shows from d k p n i b.value m' one less' (first.own i less' lt)
      ];
    }

-- The programs.

-- These are the later programs of all, of which the first has this number.
abbrev AreLater : List Program → ℕ → List Program → Type 0
AreLater all d programs = (i : ℕ) → slice_get programs i ≡ slice_get all (d + i)

-- These bytes show a page of a program's own resource.
record ShowsOwn (programs : List Program) (from : Beginning) (plain : PageId → List ℕ) (n : ℕ) (shown : List ℕ) :
    Type 0 where
  pub shows : ShowsPage programs from plain n shown
  pub own : shows.page.resource ≡ 0

-- so they do if these pages stay
still_shown : (programs : List Program) (from : Beginning) (plain plain' : PageId → List ℕ) (n : ℕ) (shown : List ℕ) →
    ShowsOwn programs from plain n shown → ((q : PageId) → q.resource ≡ 0 → plain' q ≡ plain q) →
    ShowsPage programs from plain' n shown
still_shown programs from plain plain' n shown s stay = (let was = s.shows in record {
  page = was.page;
  program = was.program;
  is_of = was.is_of;
  key = was.key;
  is_key = was.is_key;
  same = was.same ∙ ap (λ (bytes : List ℕ). shown_under was.key (draw_at n (stream_of from)) bytes)
      (sym (stay was.page s.own));
})

record ProgramsShow (all : List Program) (from : Beginning) (d k : ℕ) (programs : List Program) (m m' : CloakedMemory) :
    Type 0 where
  pub count : length m'.ram ≡ length m.ram
  pub drawn : HasDrawn (length all) all from (k + pages_of_programs programs) m'.ledger
  pub keys : m'.ledger.keys ≡ m.ledger.keys
  pub below : (q : PageId) → q.domain < d → m'.plain q ≡ m.plain q
  pub away : (f : ℕ) → is_placed programs f ≡ false → frame_in m'.ram f ≡ frame_in m.ram f
  pub own : (f : ℕ) → is_placed programs f ≡ true → f < length m.ram →
      ShowsOwn all from m'.plain (placing_draw k programs f) (frame_in m'.ram f)

-- a frame of a program, or apart from it
pub inside_or_apart : (p : Program) (f : ℕ) →
    ((p.place ≤ f) × (f < p.place + p.start.pages)) ⊎ IsApart p p.start.pages f
inside_or_apart p f = elim (cases_lt f p.place) [
  | inl low ↦ inr (inl low)
  | inr at ↦ elim (cases_lt f (p.place + p.start.pages)) [
    | inl less ↦ inl (at, less)
    | inr high ↦ inr (inr high)
  ]
]

is_inside : (p : Program) (f : ℕ) → p.place ≤ f → f < p.place + p.start.pages →
    (nat_le p.place f && nat_lt f (p.place + p.start.pages)) ≡ true
is_inside p f at less = and_from _ _ (le-leb p.place f at) (lt-ltb f (p.place + p.start.pages) less)

not_inside : (p : Program) (f : ℕ) → IsApart p p.start.pages f →
    (nat_le p.place f && nat_lt f (p.place + p.start.pages)) ≡ false
not_inside p f (inl low) = ap (λ (b : Bool). b && nat_lt f (p.place + p.start.pages)) (lt-leb p.place f low)
not_inside p f (inr high) =
    ap (λ (b : Bool). nat_le p.place f && b) (le-ltb f (p.place + p.start.pages) high) ∙ and_false _
  where
    and_false : (b : Bool) → (b && false) ≡ false
    and_false true = refl
    and_false false = refl

pub apart_later : (p : Program) (programs : List Program) (f : ℕ) → IsApart p p.start.pages f →
    is_placed (p ∷ programs) f ≡ is_placed programs f
apart_later p programs f away = ap (λ (b : Bool). cond b true (is_placed programs f)) (not_inside p f away)

-- a frame in which no later program was placed
here_shows : (all : List Program) (from : Beginning) (d k : ℕ) (p : Program) (programs : List Program)
    (m m' m'' : CloakedMemory) → slice_get all d ≡ Some p → PagesShow all from d k p p.start.pages m m' →
    ProgramsShow all from (d + 1) (k + p.start.pages) programs m' m'' → (f : ℕ) →
    p.place ≤ f → f < p.place + p.start.pages → is_placed programs f ≡ false → f < length m.ram →
    ShowsOwn all from m''.plain (k + (f - p.place)) (frame_in m''.ram f)
here_shows all from d k p programs m m' m'' found first rest f at less away lt =
    let i : ℕ = f - p.place in
    let place : p.place + i ≡ f = omega (arith, at) in
    let less' : i < p.start.pages = omega (arith, at, less) in
    let lt' : p.place + i < length m.ram = omega (arith, place, lt) in
    let shows = first.own i less' lt' in
    let page = rest.below (first_page d i) (omega arith) in
    let key : List ℕ = key_of m'.ledger (first_page d i) in
    let shown : ShowsPage all from m''.plain (k + (f - p.place)) (frame_in m''.ram f) =
    record {
      page = first_page d i;
      program = p;
      is_of = found;
      key = key;
      is_key = first.drawn.keys (first_page d i) p found;
      same = rest.away f away
          ∙ (ap (λ (x : ℕ). frame_in m'.ram x) (sym place)
          ∙ (shows.frame
          ∙ ap (λ (bytes : List ℕ). shown_under key (draw_at (k + i) (stream_of from)) bytes) (sym (page ∙ shows.page))));
    } in
    record { shows = shown; own = refl }

frame_shows : (all : List Program) (from : Beginning) (d k : ℕ) (p : Program) (programs : List Program)
    (m m' m'' : CloakedMemory) → slice_get all d ≡ Some p → PagesShow all from d k p p.start.pages m m' →
    ProgramsShow all from (d + 1) (k + p.start.pages) programs m' m'' → (f : ℕ) (later : Bool) →
    is_placed programs f ≡ later → is_placed (p ∷ programs) f ≡ true → f < length m.ram →
    ShowsOwn all from m''.plain (placing_draw k (p ∷ programs) f) (frame_in m''.ram f)
frame_shows all from d k p programs m m' m'' found first rest f true is placed lt =
    let count = first.count in
    subst (λ (n : ℕ). ShowsOwn all from m''.plain n (frame_in m''.ram f))
    (sym (ap (λ (b : Bool). cond b (placing_draw (k + p.start.pages) programs f) (k + (f - p.place))) is))
    (rest.own f is (omega (arith, count, lt)))
frame_shows all from d k p programs m m' m'' found first rest f false is placed lt =
    elim (inside_or_apart p f) [
      | inl there ↦
          subst (λ (n : ℕ). ShowsOwn all from m''.plain n (frame_in m''.ram f))
          (sym (ap (λ (b : Bool). cond b (placing_draw (k + p.start.pages) programs f) (k + (f - p.place))) is))
          (here_shows all from d k p programs m m' m'' found first rest f there.0 there.1 is lt)
      | inr apart ↦
          let clash : true ≡ false = sym placed ∙ (apart_later p programs f apart ∙ is) in absurd cc
    ]

programs_show : (all : List Program) (from : Beginning) (d k : ℕ) (programs : List Program) (m m' : CloakedMemory) →
    AreLater all d programs → HasDrawn (length all) all from k m.ledger → place_programs d programs m ≡ Some m' →
    ProgramsShow all from d k programs m m'
programs_show all from d k [] m m' lies has is =
    let number : k ≡ k + 0 = omega arith in
    subst (λ (x : CloakedMemory). ProgramsShow all from d k [] m x) (same_Some m m' is) (record {
      count = refl;
      drawn = subst (λ (x : ℕ). HasDrawn (length all) all from x m.ledger) number has;
      keys = refl;
      below = λ q less. refl;
      away = λ f apart. refl;
      own = λ f placed lt. let clash : false ≡ true = placed in absurd cc;
    })
programs_show all from d k (p ∷ programs) m m' lies has is =
    let b = before (place_programs (d + 1) programs) (place_pages d p p.start.pages m) m' is in
    let first = pages_show all from d k p p.start.pages m b.value has b.was in
    let later : AreLater all (d + 1) programs = λ i. lies (suc i) ∙ ap (slice_get all) (omega arith) in
    let rest = programs_show all from (d + 1) (k + p.start.pages) programs b.value m' later first.drawn b.next in
    let found : slice_get all d ≡ Some p = ap (slice_get all) (omega arith) ∙ sym (lies 0) in
    let number : (k + p.start.pages) + pages_of_programs programs ≡ k + pages_of_programs (p ∷ programs) =
    omega arith in
    record {
      count = rest.count ∙ first.count;
      drawn = subst (λ (x : ℕ). HasDrawn (length all) all from x m'.ledger) number rest.drawn;
      keys = rest.keys ∙ first.keys;
      below = λ q less.
          rest.below q (omega (arith, less)) ∙ first.others q (λ same. absurd (omega (arith, same, less)));
      away = λ f apart.
          let both = apart_of p programs f apart in rest.away f both.1 ∙ first.apart f both.0;
      own = λ f placed lt. frame_shows all from d k p programs m b.value m' found first rest f _ refl placed lt;
    }

-- What the kernel is shown of it.

-- a Cipher of a frame that there is, with its bytes, in which a page was placed
abbrev IsOpening : List Program → List (List ℕ) → Item → Type 0
IsOpening programs ram (item.Cipher f bytes) =
    (bytes ≡ frame_in ram f) × ((is_placed programs f ≡ true) × (f < length ram))
IsOpening programs ram _ = Unit {0}

numbers_low : (n count : ℕ) → n ≤ count → AllByRecursion (λ (f : ℕ). f < count) (numbers_below n)
numbers_low zero count le = tt
numbers_low (suc n) count le =
    all_append (λ (f : ℕ). f < count) (numbers_below n) (n ∷ []) (numbers_low n count (omega (arith, le)))
    (omega (arith, le), tt)
  where
    all_append : {A : Type 0} (P : A → Type 0) (a b : List A) → AllByRecursion P a → AllByRecursion P b →
        AllByRecursion P (a ++ b)
    all_append P [] b here there = there
    all_append P (x ∷ a) b here there = (here.0, all_append P a b here.1 there)

one_opens : (programs : List Program) (ram : List (List ℕ)) (f : ℕ) (fs : List ℕ) (test : Bool) →
    is_placed programs f ≡ test → f < length ram →
    AllByRecursion (IsOpening programs ram) (map (λ f. item.Cipher f (frame_in ram f)) fs) →
    AllByRecursion (IsOpening programs ram) (map (λ f. item.Cipher f (frame_in ram f)) (cond test (f ∷ fs) fs))
one_opens programs ram f fs true is lt all = ((refl, (is, lt)), all)
one_opens programs ram f fs false is lt all = all

all_open : (programs : List Program) (ram : List (List ℕ)) (fs : List ℕ) →
    AllByRecursion (λ (f : ℕ). f < length ram) fs →
    AllByRecursion (IsOpening programs ram)
    (map (λ f. item.Cipher f (frame_in ram f)) (filter (is_placed programs) fs))
all_open programs ram [] low = tt
all_open programs ram (f ∷ fs) low =
    one_opens programs ram f (filter (is_placed programs) fs) (is_placed programs f) refl low.0
    (all_open programs ram fs low.1)

-- each of some items is such a one
pub item_of : (P : Item → Type 0) (items : List Item) → AllByRecursion P items → (at : ℕ) (i : Item) →
    slice_get items at ≡ Some i → P i
item_of P [] all zero i is = absurd cc
item_of P [] all (suc at) i is = absurd cc
item_of P (x ∷ items) all zero i is = (let same : x ≡ i = cc in subst P same all.0)
item_of P (x ∷ items) all (suc at) i is = item_of P items all.1 at i is

-- Frames are shown by rising number, and so each once.

abbrev RisesTo : ℕ → List ℕ → ℕ → Type 0
RisesTo low [] high = low ≤ high
RisesTo low (f ∷ fs) high = (low ≤ f) × RisesTo (suc f) fs high

one_more : (low : ℕ) (fs : List ℕ) (high : ℕ) → RisesTo low fs high → RisesTo low (fs ++ high ∷ []) (suc high)
one_more low [] high rises = (rises, omega arith)
one_more low (f ∷ fs) high rises = (rises.0, one_more (suc f) fs high rises.1)

numbers_rise : (n : ℕ) → RisesTo 0 (numbers_below n) n
numbers_rise zero = omega arith
numbers_rise (suc n) = one_more 0 (numbers_below n) n (numbers_rise n)

from_lower : (low low' : ℕ) (fs : List ℕ) (high : ℕ) → low ≤ low' → RisesTo low' fs high → RisesTo low fs high
from_lower low low' [] high le rises = omega (arith, le, rises)
from_lower low low' (f ∷ fs) high le rises = (let at = rises.0 in omega (arith, le, at), rises.1)

filter_one : (low f : ℕ) (fs : List ℕ) (high : ℕ) (test : Bool) → low ≤ f → RisesTo (suc f) fs high →
    RisesTo low (cond test (f ∷ fs) fs) high
filter_one low f fs high true le rises = (le, rises)
filter_one low f fs high false le rises = from_lower low (suc f) fs high (omega (arith, le)) rises

filter_rises : (test : ℕ → Bool) (fs : List ℕ) (low high : ℕ) → RisesTo low fs high →
    RisesTo low (filter test fs) high
filter_rises test [] low high rises = rises
filter_rises test (f ∷ fs) low high rises =
    filter_one low f (filter test fs) high (test f) rises.0 (filter_rises test fs (suc f) high rises.1)

at_least : (fs : List ℕ) (low high at f : ℕ) → RisesTo low fs high → slice_get fs at ≡ Some f → low ≤ f
at_least [] low high zero f rises is = absurd cc
at_least [] low high (suc at) f rises is = absurd cc
at_least (g ∷ fs) low high zero f rises is = (let same : g ≡ f = cc in subst (λ (x : ℕ). low ≤ x) same rises.0)
at_least (g ∷ fs) low high (suc at) f rises is =
    let above = at_least fs (suc g) high at f rises.1 is in
    let first = rises.0 in omega (arith, above, first)

once_in : (fs : List ℕ) (low high : ℕ) → RisesTo low fs high → (at at' f : ℕ) → slice_get fs at ≡ Some f →
    slice_get fs at' ≡ Some f → at ≡ at'
once_in [] low high rises zero at' f is is' = absurd cc
once_in [] low high rises (suc at) at' f is is' = absurd cc
once_in (g ∷ fs) low high rises zero zero f is is' = refl
once_in (g ∷ fs) low high rises zero (suc at') f is is' =
    let same : g ≡ f = same_Some g f is in
    let above = at_least fs (suc g) high at' f rises.1 is' in absurd (omega (arith, same, above))
once_in (g ∷ fs) low high rises (suc at) zero f is is' =
    let same : g ≡ f = same_Some g f is' in
    let above = at_least fs (suc g) high at f rises.1 is in absurd (omega (arith, same, above))
once_in (g ∷ fs) low high rises (suc at) (suc at') f is is' =
    ap (λ (x : ℕ). suc x) (once_in fs (suc g) high rises.1 at at' f is is')

frame_at : (ram : List (List ℕ)) (fs : List ℕ) (at f : ℕ) (bytes : List ℕ) →
    slice_get (map (λ f. item.Cipher f (frame_in ram f)) fs) at ≡ Some (item.Cipher f bytes) →
    slice_get fs at ≡ Some f
frame_at ram [] zero f bytes is = absurd cc
frame_at ram [] (suc at) f bytes is = absurd cc
frame_at ram (g ∷ fs) zero f bytes is =
    let same : g ≡ f = cc in ap (λ (x : ℕ). Some x) same
frame_at ram (g ∷ fs) (suc at) f bytes is = frame_at ram fs at f bytes is

-- Each frame that holds a page is shown once among these items.
pub record OpeningPlaces (b : Bundle) (items : List Item) : Type 0 where
  pub placed : (at f : ℕ) (bytes : List ℕ) → slice_get items at ≡ Some (item.Cipher f bytes) →
      is_placed b.programs f ≡ true
  pub once : (at at' f : ℕ) (bytes bytes' : List ℕ) → slice_get items at ≡ Some (item.Cipher f bytes) →
      slice_get items at' ≡ Some (item.Cipher f bytes') → at ≡ at'

-- The opening shows each page as it begins, and the draws after it are known.
pub record OpeningShows (b : Bundle) (from : Beginning) (o : RunEdge) : Type 0 where
  pub drawn : HasDrawn (length b.programs) b.programs from (keys_drawn b.programs from + pages_of_programs b.programs)
      o.joint.memory.ledger
  pub count : length o.joint.domains ≡ length b.programs
  pub shown : (at f : ℕ) (bytes : List ℕ) → slice_get o.items at ≡ Some (item.Cipher f bytes) →
      ShowsPage b.programs from o.joint.memory.plain (placing_draw (keys_drawn b.programs from) b.programs f) bytes

one_is : (b : Bundle) (ram : List (List ℕ)) (at f : ℕ) (bytes : List ℕ) →
    slice_get (opening_items b.programs ram) at ≡ Some (item.Cipher f bytes) →
    IsOpening b.programs ram (item.Cipher f bytes)
one_is b ram at f bytes there =
    item_of (IsOpening b.programs ram) (opening_items b.programs ram)
    (all_open b.programs ram (numbers_below (length ram)) (numbers_low (length ram) (length ram) (omega arith)))
    at (item.Cipher f bytes) there

items_place : (b : Bundle) (ram : List (List ℕ)) → OpeningPlaces b (opening_items b.programs ram)
items_place b ram = record {
  placed = λ at f bytes there. (one_is b ram at f bytes there).1.0;
  once = λ at at' f bytes bytes' there there'.
      let fs : List ℕ = filter (is_placed b.programs) (numbers_below (length ram)) in
      once_in fs 0 (length ram)
      (filter_rises (is_placed b.programs) (numbers_below (length ram)) 0 (length ram) (numbers_rise (length ram)))
      at at' f (frame_at ram fs at f bytes there) (frame_at ram fs at' f bytes' there');
}

-- The memory in which the programs' pages were placed.
record MemoryShows (b : Bundle) (from : Beginning) (m : CloakedMemory) : Type 0 where
  pub drawn : HasDrawn (length b.programs) b.programs from (keys_drawn b.programs from + pages_of_programs b.programs)
      m.ledger
  pub shown : (at f : ℕ) (bytes : List ℕ) → slice_get (opening_items b.programs m.ram) at ≡ Some (item.Cipher f bytes) →
      ShowsOwn b.programs from m.plain (placing_draw (keys_drawn b.programs from) b.programs f) bytes

memory_shows : (b : Bundle) (from : Beginning) (first m : CloakedMemory) →
    HasDrawn (length b.programs) b.programs from (keys_drawn b.programs from) first.ledger →
    place_programs 0 b.programs first ≡ Some m → MemoryShows b from m
memory_shows b from first m has placed =
    let k : ℕ = keys_drawn b.programs from in
    let all : AreLater b.programs 0 b.programs = λ i. ap (slice_get b.programs) (omega arith) in
    let shows = programs_show b.programs from 0 k b.programs first m all has placed in
    let count = shows.count in
    record {
      drawn = shows.drawn;
      shown = λ at f bytes there.
          let one : IsOpening b.programs m.ram (item.Cipher f bytes) = one_is b m.ram at f bytes there in
          let low = one.1.1 in
          subst (λ (x : List ℕ). ShowsOwn b.programs from m.plain (placing_draw k b.programs f) x) (sym one.0)
          (shows.own f one.1.0 (omega (arith, count, low)));
    }

none_owed : (count n : ℕ) → OwesPagesOf count (replicate n None)
none_owed count zero = tt
none_owed count (suc n) = (tt, none_owed count n)

-- With the keys of a beginning.
started_drawn : (b : Bundle) (from : Beginning) (keys : Keys) (rest : Random) → IsInGrammar b →
    HasKeys b from keys rest →
    HasDrawn (length b.programs) b.programs from (keys_drawn b.programs from) (started_memory b.kernel keys rest).ledger
unfolding started_memory started_ledger
started_drawn b (Fresh stream) keys rest grammar has = record {
  enough = omega arith;
  keys = λ page program found.
      programs_have_keys b.programs stream (has.drawn, rest) grammar.few_programs
      (λ d p there. (program_at b.kernel.frames b.programs grammar.programs d p there).key) has.draws page program found
      ∙ ap (λ (k : Keys). Some (key_in k page)) (sym has.are);
  chained = ap (λ (k : Keys). k.seal) has.are;
  owed = none_owed (length b.programs) b.kernel.frames;
  next = (are_drawn (key_count b.programs) stream (has.drawn, rest) has.draws).next;
}
started_drawn b (Stored handed stream files) keys rest grammar has = record {
  enough = omega arith;
  keys = λ page program found.
      handed_keys b handed grammar.few_programs page program found
      ∙ ap (λ (k : Keys). Some (key_in k page)) (sym has.are);
  chained = ap (λ (k : Keys). k.seal) has.are;
  owed = none_owed (length b.programs) b.kernel.frames;
  next = ap next_draw has.stays;
}

pub opening_places : (b : Bundle) (from : Beginning) (o : RunEdge) → opening_from b from ≡ Ok o →
    OpeningPlaces b o.items
opening_places b from o opens =
    let over = opens_over b from o opens in
    subst (OpeningPlaces b) (sym over.items) (items_place b over.memory.ram)

pub opening_shows : (b : Bundle) (from : Beginning) (o : RunEdge) → IsInGrammar b → opening_from b from ≡ Ok o →
    OpeningShows b from o
unfolding started_joint
opening_shows b from o grammar opens =
    let over = opens_over b from o opens in
    let m : CloakedMemory = over.memory in
    let shows = memory_shows b from (started_memory b.kernel over.keys over.stream) m
    (started_drawn b from over.keys over.stream grammar over.has_keys) over.placed in
    let keeps = added_keep (files_of from) (started_joint b m) o.joint over.added in
    let own = added_own (files_of from) b.programs (started_joint b m) o.joint over.added refl in
    record {
      drawn = draws_stay from _ m.ledger o.joint.memory.ledger shows.drawn keeps.memory.keys
          (subst (OwesPagesOf (length b.programs)) (sym keeps.memory.owed) shows.drawn.owed) keeps.memory.stream;
      count = keeps.count ∙ length-started_domains 0 b.programs;
      shown = λ at f bytes there.
          still_shown b.programs from m.plain o.joint.memory.plain _ bytes
          (shows.shown at f bytes (ap (λ (items : List Item). slice_get items at) (sym over.items) ∙ there)) own.plain;
    }
