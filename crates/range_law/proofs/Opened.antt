-- The opening of a run: the machine fits, and what the kernel is shown then are items of a record.
use Rattle.std.proofs.Common.{refl, ◌≡◌, ◌∙◌, ℕ, zero, suc, ◌+◌, ◌*◌, ◌<◌, ◌≤◌, Bool, List, [], ◌∷◌, ◌++◌, length, map, filter, replicate, slice_set, slice_index_or, Option, Some, None, Ok, sym, subst, arith}
use Rattle.std.specs.Prelude.{All, option_and_then, option_map}
use Rattle.std.specs.List.{AllByRecursion}
use Rattle.std.proofs.lemmas.List.{length-append, length-set, length-replicate, length-take-le}
use Rattle.std.proofs.lemmas.List.Elements.{All-nil}
use Rattle.aes_block.specs.Bytes.{IsBytes}
use Rattle.cloak_base.specs.Random.{Random, next_draw}
use Rattle.cloak_base.specs.Pages.{zero_page, same_page}
use Rattle.cloak_base.specs.declared.names.PageId.{PageId}
use Rattle.cloak_model.specs.declared.image.Bundle.{Bundle}
use Rattle.cloak_model.specs.declared.image.KernelImage.{KernelImage}
use Rattle.cloak_model.specs.declared.image.Program.{Program}
use Rattle.cloak_model.specs.declared.image.Segment.{Segment}
use Rattle.cloak_model.specs.Items as item
use Rattle.cloak_model.specs.declared.resource.Resource.{Resource}
use Rattle.cloak_model.specs.Beginning.{Beginning, Fresh, Stored, stored_keys, opening_from}
use Rattle.cloak_model.specs.Bundle.{IsKernelImage, IsProgramIn, IsInGrammar, key_numbers}
use Rattle.cloak_model.specs.Cloaking.{CloakedMemory, ciphertext_of}
use Rattle.cloak_model.specs.Contexts.{Context, started_contexts}
use Rattle.cloak_model.specs.DomainState.{started_control, started_domain}
use Rattle.cloak_model.specs.Sealing.{Sealing, Chained, sealed_by}
use Rattle.cloak_model.specs.Ledger.{Keys, key_in, key_of, next_vector}
use Rattle.cloak_base.specs.Constants.{frame_of, place_of}
use Rattle.cloak_model.specs.Memory.{zero_ram, with_byte, with_bytes}
use Rattle.cloak_model.specs.Opening.{key_count, drawn_keys, filled_up, groups, keys_for, with_segments, started_harts, numbers_below, started_ledger, started_kernel, started_memory, program_page, place_pages, place_programs, started_domains, started_joint, is_placed, opening_items, RunEdge}
use Rattle.cloak_model.specs.PageMoves.{place, place_with}
use Rattle.cloak_model.specs.Record.{IsItem, IsWord}
use Rattle.cloak_model.specs.Resources.{started_resources}
use Rattle.kernel_isolation.proofs.FilesAdded.{HasKeys, files_of, opens_over}
use Rattle.range_law.specs.Writing.{AreBytes, IsOfBytes, IsStreamOfBytes, IsBeginningOfBytes}
use Rattle.range_law.proofs.Adding.{HasPageBytes, all_bytes, added_fit}
use Rattle.range_law.proofs.Bounds.{all_take, all_drop, all_set, all_replicate, all_or, all_map, by_recursion, by_place, zero_bytes}
use Rattle.range_law.proofs.Ciphers.{MayDraw, draw_fits, as_block, block_bytes, SealedFits, sealed_fits}
use Rattle.range_law.proofs.Controls.{SlotFits}
use Rattle.range_law.proofs.Harts.{HartFits, started_fits}
use Rattle.range_law.proofs.Memories.{KeysAreFit, MemoryFits, frame_set, zero_page_fits}
use Rattle.range_law.proofs.Programs.{new_context_fits}
use Rattle.range_law.proofs.Turns.{ProgramFits, JointFits}
use Rattle.cloak_base.proofs.Choices.{either}
use Rattle.cloak_base.proofs.Lists.{each_append}

-- RAM before any page is placed.

abbrev ArePages : List (List ℕ) → Type 0
ArePages ram = AllByRecursion SealedFits ram

record StartFits (frames : ℕ) (ram : List (List ℕ)) : Type 0 where
  pub count : length ram ≡ frames
  pub pages : ArePages ram

all_changed : {A : Type 0} (P : A → Type 0) (change : A → A) (d : A) (xs : List A) (i : ℕ) →
    ((a : A) → P a → P (change a)) → AllByRecursion P xs →
    AllByRecursion P (slice_set xs i (change (slice_index_or xs i d)))
all_changed P change d [] i keeps all = tt
all_changed P change d (x ∷ xs) zero keeps all = (keeps x all.0, all.1)
all_changed P change d (x ∷ xs) (suc i) keeps all = (all.0, all_changed P change d xs i keeps all.1)

with_byte_fits : (frames : ℕ) (ram : List (List ℕ)) (pa b : ℕ) → StartFits frames ram → b < 256 →
    StartFits frames (with_byte ram pa b)
with_byte_fits frames ram pa b fits here =
    let change : List ℕ → List ℕ = λ page. slice_set page (place_of pa) b in
    record {
      count = length-set ram (frame_of pa) _ ∙ fits.count;
      pages = all_changed SealedFits change [] ram (frame_of pa)
          (λ page sealed. record {
            bytes = all_set (λ x. x < 256) page (place_of pa) b sealed.bytes here;
            long = length-set page (place_of pa) b ∙ sealed.long;
          }) fits.pages;
    }

with_bytes_fits : (frames : ℕ) (ram : List (List ℕ)) (pa : ℕ) (bytes : List ℕ) → StartFits frames ram →
    AreBytes bytes → StartFits frames (with_bytes ram pa bytes)
with_bytes_fits frames ram pa [] fits all = fits
with_bytes_fits frames ram pa (b ∷ bytes) fits all =
    with_bytes_fits frames (with_byte ram pa b) (pa + 1) bytes (with_byte_fits frames ram pa b fits all.0) all.1

segments_fit : (frames : ℕ) (ram : List (List ℕ)) (segments : List Segment) → StartFits frames ram →
    AllByRecursion (λ (s : Segment). AreBytes s.bytes) segments → StartFits frames (with_segments ram segments)
segments_fit frames ram [] fits all = fits
segments_fit frames ram (s ∷ segments) fits all =
    segments_fit frames (with_bytes ram s.address s.bytes) segments
    (with_bytes_fits frames ram s.address s.bytes fits all.0) all.1

-- The keys are 16 bytes each, also those that were not drawn.

record KeysFit (draw : List (List ℕ) × Random) : Type 0 where
  pub keys : AllByRecursion (IsBytes 16) draw.0
  pub rest : IsStreamOfBytes draw.1

abbrev MayDrawKeys : Option (List (List ℕ) × Random) → Type 0
MayDrawKeys None = Unit {0}
MayDrawKeys (Some draw) = KeysFit draw

one_key : (keys : List (List ℕ) × Random) (draw : Option (List ℕ × Random)) → KeysFit keys → MayDraw draw →
    MayDrawKeys (option_map (λ (d : List ℕ × Random). (keys.0 ++ d.0 ∷ [], d.1)) draw)
one_key keys None fits draws = tt
one_key keys (Some d) fits draws =
    record { keys = each_append (IsBytes 16) keys.0 (d.0 ∷ []) fits.keys (draws.bytes, tt); rest = draws.rest }

next_key : (drawn : Option (List (List ℕ) × Random)) → MayDrawKeys drawn →
    MayDrawKeys (option_and_then (λ (keys : List (List ℕ) × Random).
    option_map (λ (d : List ℕ × Random). (keys.0 ++ d.0 ∷ [], d.1)) (next_draw keys.1)) drawn)
next_key None fits = tt
next_key (Some keys) fits = one_key keys (next_draw keys.1) fits (draw_fits keys.1 fits.rest)

drawn_fit : (n : ℕ) (stream : Random) → IsStreamOfBytes stream → MayDrawKeys (drawn_keys n stream)
unfolding drawn_keys
drawn_fit zero stream all = record { keys = tt; rest = all }
drawn_fit (suc n) stream all = next_key (drawn_keys n stream) (drawn_fit n stream all)

filled_fits : {A : Type 0} (P : A → Type 0) (x : A) (xs : List A) → AllByRecursion P xs → P x →
    AllByRecursion P (filled_up x xs)
filled_fits P x xs all here = all_take P 4 _ (each_append P xs _ all (all_replicate P 4 x here))

filled_long : {A : Type 0} (x : A) (xs : List A) → length (filled_up x xs) ≡ 4
filled_long x xs =
    let both = length-append xs (replicate 4 x) in
    let four = length-replicate 4 x in
    length-take-le 4 (xs ++ replicate 4 x) (omega (arith, both, four))

-- four keys, for the programs of an image
four_fit : (frames : ℕ) (programs : List Program) (keys : List (List ℕ)) →
    AllByRecursion (IsProgramIn frames) programs → length keys ≡ 4 → All (IsBytes 16) keys → (q : PageId) →
    IsBytes 16 (key_in (record { numbered = keys; group = groups programs; seal = Chained }) q)
four_fit frames programs keys are long all q =
    let IsNumber : ℕ → Type 0 = λ k. k ≤ key_numbers.high in
    let numbers : List ℕ = map (λ (p : Program). p.key) programs in
    let each = all_map (IsProgramIn frames) IsNumber (λ (p : Program). p.key) programs (λ p is. is.key) are in
    let group = all_or IsNumber (filled_up 0 numbers) q.domain 0 (filled_fits IsNumber 0 numbers each (omega arith))
    (omega arith) in
    all _ [] (omega (arith, group, long))

keys_fit : (frames : ℕ) (programs : List Program) (drawn : List (List ℕ)) →
    AllByRecursion (IsProgramIn frames) programs → AllByRecursion (IsBytes 16) drawn → (q : PageId) →
    IsBytes 16 (key_in (keys_for programs drawn) q)
keys_fit frames programs drawn are all =
    let zeros : List ℕ = replicate 16 0 in
    let zero_key = as_block zeros (length-replicate {A = ℕ} 16 0) (all_replicate (λ b. b < 256) 16 0 (omega arith)) in
    four_fit frames programs (filled_up zeros drawn) are (filled_long zeros drawn)
    (by_place (IsBytes 16) (filled_up zeros drawn) (filled_fits (IsBytes 16) zeros drawn all zero_key))

-- The keys of a run, and the stream after them.
record BeginsFit (keys : Keys) (rest : Random) : Type 0 where
  pub blocks : KeysAreFit keys
  pub stream : IsStreamOfBytes rest

begins_fit : (b : Bundle) (from : Beginning) (keys : Keys) (rest : Random) → IsInGrammar b → IsBeginningOfBytes b from →
    HasKeys b from keys rest → BeginsFit keys rest
begins_fit b (Fresh stream) keys rest grammar all has =
    let frames : ℕ = b.kernel.frames in
    let draws = subst MayDrawKeys has.draws (drawn_fit (key_count b.programs) stream all) in
    let are = by_recursion (IsProgramIn frames) b.programs grammar.programs in
    record {
      blocks = subst KeysAreFit (sym has.are)
          (record { blocks = keys_fit frames b.programs has.drawn are draws.keys; chained = refl });
      stream = draws.rest;
    }
begins_fit b (Stored handed stream files) keys rest grammar all has =
    let frames : ℕ = b.kernel.frames in
    let are = by_recursion (IsProgramIn frames) b.programs grammar.programs in
    record {
      blocks = subst KeysAreFit (sym has.are)
          (record { blocks = four_fit frames b.programs handed are all.four_keys.four all.four_keys.whole; chained = refl });
      stream = subst IsStreamOfBytes (sym has.stays) all.bytes;
    }

files_bytes : (b : Bundle) (from : Beginning) → IsBeginningOfBytes b from → All HasPageBytes (files_of from)
files_bytes b (Fresh stream) all = All-nil HasPageBytes
files_bytes b (Stored keys stream files) all = all_bytes (stored_keys b keys) files all.contents.sealed

-- Placing.

record OpenFits (m : CloakedMemory) : Type 0 where
  pub memory : MemoryFits m
  pub pages : ArePages m.ram

abbrev MayOpen : Option CloakedMemory → Type 0
MayOpen None = Unit {0}
MayOpen (Some m) = OpenFits m

page_bytes : (ram : List (List ℕ)) → ArePages ram → AllByRecursion AreBytes ram
page_bytes [] all = tt
page_bytes (page ∷ ram) all = (all.0.bytes, page_bytes ram all.1)

started_fits_memory : (k : KernelImage) (keys : Keys) (rest : Random) → IsKernelImage k →
    AllByRecursion (λ (s : Segment). AreBytes s.bytes) k.segments → KeysAreFit keys →
    IsStreamOfBytes rest → OpenFits (started_memory k keys rest)
unfolding started_memory started_kernel started_ledger
started_fits_memory k keys rest image segments blocks stream =
    let zeros : StartFits k.frames (zero_ram k.frames) = record {
      count = length-replicate k.frames zero_page;
      pages = all_replicate SealedFits k.frames zero_page zero_page_fits;
    } in
    let start = segments_fit k.frames (zero_ram k.frames) k.segments zeros segments in
    let count = start.count in
    let few = image.few_frames in
    record {
      memory = record {
        ram = record { few = omega (arith, count, few); bytes = page_bytes _ start.pages };
        plain = λ q. zero_bytes;
        keys = blocks;
        stream = stream;
        places = length-replicate {A = Option PageId} k.frames None ∙ sym count;
      };
      pages = start.pages;
    }

placed_fits : (q : PageId) (f : ℕ) (bytes : List ℕ) (draw : Option (List ℕ × Random)) (m : CloakedMemory) →
    OpenFits m → AreBytes bytes → MayDraw draw → MayOpen (place_with q f bytes draw m)
unfolding place_with
placed_fits q f bytes None m fits all draws = tt
placed_fits q f bytes (Some draw) m fits all draws =
    let c : List ℕ = ciphertext_of m.ledger q draw.0 bytes in
    let key : List ℕ = key_of m.ledger q in
    let sealed : SealedFits c = subst (λ (s : Sealing). SealedFits (sealed_by s key draw.0 bytes)) (sym fits.memory.keys.chained)
    (sealed_fits key draw.0 bytes (fits.memory.keys.blocks q) (block_bytes 16 draw.0 draws.bytes) all) in
    record {
      memory = record {
        ram = frame_set m.ram f c fits.memory.ram sealed.bytes;
        plain = λ p. either AreBytes (same_page p q) bytes (m.plain p) all (fits.memory.plain p);
        keys = fits.memory.keys;
        stream = draws.rest;
        places = fits.memory.places ∙ sym (length-set m.ram f c);
      };
      pages = all_set SealedFits m.ram f c fits.pages sealed;
    }

place_fits : (q : PageId) (f : ℕ) (bytes : List ℕ) (m : CloakedMemory) → OpenFits m → AreBytes bytes →
    MayOpen (place q f bytes m)
unfolding place
place_fits q f bytes m fits all =
    placed_fits q f bytes (next_vector m.ledger) m fits all (draw_fits m.ledger.stream fits.memory.stream)

and_then_fits : (o : Option CloakedMemory) (next : CloakedMemory → Option CloakedMemory) → MayOpen o →
    ((m : CloakedMemory) → OpenFits m → MayOpen (next m)) → MayOpen (option_and_then next o)
and_then_fits None next fits more = tt
and_then_fits (Some m) next fits more = more m fits

pages_fit : (d : ℕ) (p : Program) (n : ℕ) (m : CloakedMemory) → OpenFits m → AreBytes p.bytes →
    MayOpen (place_pages d p n m)
pages_fit d p zero m fits all = fits
pages_fit d p (suc n) m fits all =
    let q : PageId = record { domain = d; resource = 0; page = n } in
    let bytes = all_take (λ b. b < 256) 4096 _ (all_drop (λ b. b < 256) (4096 * n) p.bytes all) in
    and_then_fits (place_pages d p n m) (place q (p.place + n) (program_page p.bytes n)) (pages_fit d p n m fits all)
    (λ x there. place_fits q (p.place + n) (program_page p.bytes n) x there bytes)

programs_fit : (d : ℕ) (programs : List Program) (m : CloakedMemory) → OpenFits m →
    AllByRecursion (λ (p : Program). AreBytes p.bytes) programs → MayOpen (place_programs d programs m)
programs_fit d [] m fits all = fits
programs_fit d (p ∷ programs) m fits all =
    and_then_fits (place_pages d p p.start.pages m) (place_programs (d + 1) programs)
    (pages_fit d p p.start.pages m fits all.0) (λ x there. programs_fit (d + 1) programs x there all.1)

-- Harts and programs.

harts_fit : (entry n : ℕ) → IsWord entry → n ≤ 4 → AllByRecursion HartFits (started_harts entry n)
harts_fit entry zero e few = tt
harts_fit entry (suc n) e few =
    each_append HartFits (started_harts entry n) _ (harts_fit entry n e (omega (arith, few)))
    (started_fits entry n e (omega (arith, few)), tt)

program_fits : (frames d : ℕ) (p : Program) → d < 4 → IsProgramIn frames p → ProgramFits (started_domain d p.start)
unfolding started_domain started_control started_contexts started_resources
program_fits frames d p low is =
    let seven = length-replicate {A = Option Context} 7 None in
    let fifteen = length-replicate {A = Option Resource} 15 None in
    record {
      number = low;
      slots = record {
        few = omega (arith, seven);
        each = (
          new_context_fits 0 p.start.entry p.start.sp 0 is.entry_fits is.sp_fits (omega arith),
          all_replicate SlotFits 7 None tt,
        );
      };
      numbers = omega (arith, fifteen);
    }

domains_fit : (frames d : ℕ) (programs : List Program) → d + length programs ≤ 4 →
    AllByRecursion (IsProgramIn frames) programs → AllByRecursion ProgramFits (started_domains d programs)
domains_fit frames d [] few all = tt
domains_fit frames d (p ∷ programs) few all = (
  program_fits frames d p (omega (arith, few)) all.0,
  domains_fit frames (d + 1) programs (omega (arith, few)) all.1,
)

-- What the kernel is shown.

below_fits : (n most : ℕ) → n ≤ most → AllByRecursion (λ f. f < most) (numbers_below n)
below_fits zero most le = tt
below_fits (suc n) most le =
    each_append (λ f. f < most) (numbers_below n) _ (below_fits n most (omega (arith, le))) (omega (arith, le), tt)

all_filter : {A : Type 0} (P : A → Type 0) (test : A → Bool) (xs : List A) → AllByRecursion P xs →
    AllByRecursion P (filter test xs)
all_filter P test [] all = tt
all_filter P test (x ∷ xs) all =
    let rest = all_filter P test xs all.1 in either (AllByRecursion P) (test x) _ _ (all.0, rest) rest

items_fit : (programs : List Program) (ram : List (List ℕ)) → length ram ≤ 4096 → ArePages ram →
    AllByRecursion IsItem (opening_items programs ram)
items_fit programs ram few pages =
    all_map (λ f. f < length ram) IsItem (λ f. item.Cipher f (slice_index_or ram f []))
    (filter (is_placed programs) (numbers_below (length ram)))
    (λ f low. (omega (arith, low, few), (by_place SealedFits ram pages f [] low).long))
    (all_filter (λ f. f < length ram) (is_placed programs) _ (below_fits (length ram) (length ram) (omega arith)))

pub record OpenedFits (o : RunEdge) : Type 0 where
  pub joint : JointFits o.joint
  pub items : AllByRecursion IsItem o.items

bare_fits : (b : Bundle) (m : CloakedMemory) → IsInGrammar b → IsOfBytes b → OpenFits m → JointFits (started_joint b m)
unfolding started_joint started_kernel
bare_fits b m grammar bytes fits = record {
  harts = harts_fit b.kernel.entry b.kernel.harts grammar.kernel.entry_fits grammar.kernel.few_harts;
  disk = bytes.disk;
  memory = fits.memory;
  programs = domains_fit b.kernel.frames 0 b.programs (let few = grammar.few_programs in omega (arith, few))
      (by_recursion (IsProgramIn b.kernel.frames) b.programs grammar.programs);
}

pub opened_fits : (b : Bundle) (from : Beginning) (o : RunEdge) → IsInGrammar b → IsOfBytes b →
    IsBeginningOfBytes b from → opening_from b from ≡ Ok o → OpenedFits o
opened_fits b from o grammar bytes all opens =
    let over = opens_over b from o opens in
    let begins = begins_fit b from over.keys over.stream grammar all over.has_keys in
    let start = started_fits_memory b.kernel over.keys over.stream grammar.kernel bytes.segments begins.blocks
    begins.stream in
    let fits = subst MayOpen over.placed
    (programs_fit 0 b.programs (started_memory b.kernel over.keys over.stream) start bytes.programs) in
    record {
      joint = added_fit (files_of from) (started_joint b over.memory) o.joint (files_bytes b from all) over.added
          (bare_fits b over.memory grammar bytes fits);
      items = subst (AllByRecursion IsItem) (sym over.items)
          (items_fit b.programs over.memory.ram fits.memory.ram.few fits.pages);
    }
