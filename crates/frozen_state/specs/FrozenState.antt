-- A frozen state: everything that a joint run goes on with, and of cloaked pages and of programs nothing but ciphertext;
-- and its file (this project's rules).
use Rattle.std.specs.Prelude.{ℕ, ◌+◌, ◌-◌, List, [], ◌∷◌, ◌++◌, length, map, take, drop, codes, Option, Some, None, option_map, option_and_then, slice_index_or}
use Rattle.std.specs.List.{flat_map}
use Rattle.sha2.specs.Sha256.{sha256}
use Rattle.cloak_base.specs.Random.{Random, next_draw}
use Rattle.cloak_base.specs.declared.causes.Violation.{Violation}
use Rattle.cloak_base.specs.declared.causes.Violation.TheVariants as violation
use Rattle.cloak_base.specs.declared.names.Meta.{Meta}
use Rattle.cloak_base.specs.declared.names.Mode.{Mode}
use Rattle.cloak_base.specs.declared.names.Mode.TheVariants.{U, S}
use Rattle.cloak_base.specs.declared.names.PageId.{PageId}
use Rattle.cloak_base.specs.declared.names.SpaceId.{SpaceId}
use Rattle.cloak_model.specs.Bits.{word}
use Rattle.cloak_model.specs.Chain.{cbc}
use Rattle.cloak_model.specs.Cloaking.{CloakedMemory, ciphertext_of, owed_in}
use Rattle.cloak_model.specs.Csr.{csr_words}
use Rattle.cloak_model.specs.DomainState.{Domain}
use Rattle.cloak_model.specs.Hart.{Hart}
use Rattle.cloak_model.specs.Ledger.{Ledger, domain_key}
use Rattle.cloak_model.specs.Memory.{mark_of}
use Rattle.cloak_model.specs.Opening.{numbers_below}
use Rattle.cloak_model.specs.Parts.{Joint}
use Rattle.cloak_model.specs.StoredFiles.{long}
use Rattle.frozen_state.specs.DomainPage.{domain_page}
use Rattle.frozen_state.specs.declared.frozen.Frozen.{Frozen}
use Rattle.frozen_state.specs.declared.frozen.FrozenDomain.{FrozenDomain}
use Rattle.frozen_state.specs.declared.frozen.FrozenFrame.{FrozenFrame}
use Rattle.frozen_state.specs.declared.frozen.FrozenHart.{FrozenHart}
use Rattle.frozen_state.specs.declared.frozen.FrozenPage.{FrozenPage}

-- What takes a draw of the vectors that are handed in, with the vectors after it: none if they run out.
abbrev pub Drawn : Type 0 → Type 0
Drawn A = Option (A × Random)

-- by the next draw
abbrev pub by_draw : {A : Type 0} → (List ℕ → A) → Random → Drawn A
by_draw make ivs = option_map (λ (draw : List ℕ × Random). (make draw.0, draw.1)) (next_draw ivs)

-- one, and then more
abbrev pub and_more : {A : Type 0} → (Random → Drawn (List A)) → Drawn A → Drawn (List A)
and_more {A} more first =
    option_and_then (λ (x : A × Random). option_map (λ (xs : List A × Random). (x.0 ∷ xs.0, xs.1)) (more x.1)) first

-- what is known of bytes that are shown under a vector
abbrev pub meta_for : List ℕ → List ℕ → Meta
meta_for iv c = record { iv = iv; digest = sha256 c }

-- Domains.

-- the page tables of a domain's eight spaces
abbrev pub roots_of : (SpaceId → Option ℕ) → ℕ → List (Option ℕ)
roots_of root d = map (λ (space : ℕ). root (record { domain = d; number = space })) (numbers_below 8)

-- with the ciphertext of its page
unfoldable pub domain_under : Joint → ℕ → Domain → List ℕ → FrozenDomain
domain_under j d domain iv =
    let c = cbc (domain_key j.memory.ledger.keys d) iv (domain_page domain.control) in
    record {
      violation = slice_index_or j.ended d None;
      roots = roots_of j.memory.ledger.root d;
      meta = meta_for iv c;
      page = c;
    }

-- domains, of which the first has this number
unfoldable pub domains_from : Joint → ℕ → List Domain → Random → Drawn (List FrozenDomain)
domains_from j d [] ivs = Some ([], ivs)
domains_from j d (domain ∷ domains) ivs = and_more (domains_from j (d + 1) domains) (by_draw (domain_under j d domain) ivs)

-- Harts.

unfoldable pub hart_with : List (Option ℕ) → Hart → FrozenHart
hart_with marks h = record {
  mode = h.mode;
  pc = h.pc;
  timer = h.timer;
  inside = h.inside;
  regs = h.regs;
  csrs = csr_words h.csrs;
  mark = mark_of h.id marks;
}

-- Frames: what the kernel sees; or, of a frame that is owed a page, the page's ciphertext.

unfoldable pub owed_under : CloakedMemory → PageId → List ℕ → FrozenFrame
owed_under m q iv =
    let c = ciphertext_of m.ledger q iv (m.plain q) in record { bytes = c; owed = Some (q, meta_for iv c) }

abbrev pub frame_under : CloakedMemory → List ℕ → Option PageId → Random → Drawn FrozenFrame
frame_under m bytes None ivs = Some (record { bytes = bytes; owed = None }, ivs)
frame_under m bytes (Some q) ivs = by_draw (owed_under m q) ivs

-- frames, of which the first has this number
unfoldable pub frames_from : CloakedMemory → ℕ → List (List ℕ) → Random → Drawn (List FrozenFrame)
frames_from m f [] ivs = Some ([], ivs)
frames_from m f (bytes ∷ ram) ivs = and_more (frames_from m (f + 1) ram) (frame_under m bytes (owed_in m f) ivs)

-- Recorded pages.

abbrev pub page_named : ℕ → ℕ → ℕ → PageId
page_named domain resource page = record { domain = domain; resource = resource; page = page }

-- the first n pages of a resource; the pages of the first n resources of a domain; those of the first n domains, rising

unfoldable pub pages_of_resource : ℕ → ℕ → ℕ → List PageId
pages_of_resource d r n = map (page_named d r) (numbers_below n)

unfoldable pub pages_of_resources : ℕ → ℕ → List PageId
pages_of_resources d n = flat_map (λ (r : ℕ). pages_of_resource d r 1024) (numbers_below n)

unfoldable pub pages_of_domains : ℕ → List PageId
pages_of_domains n = flat_map (λ (d : ℕ). pages_of_resources d 16) (numbers_below n)

-- a page, if it is recorded
abbrev pub page_with : PageId → Option (List ℕ) → Option (List ℕ) → List FrozenPage
page_with q (Some c) (Some iv) = record { page = q; meta = meta_for iv c } ∷ []
page_with q _ _ = []

abbrev pub recorded_of : Ledger → List PageId → List FrozenPage
recorded_of l pages = flat_map (λ (q : PageId). page_with q (l.recorded q) (l.iv q)) pages

-- The state.

unfoldable pub frozen_with : Joint → ℕ → List FrozenDomain → List FrozenFrame → Frozen
frozen_with j steps domains frames = record {
  steps = steps;
  draws = j.memory.ledger.draws;
  refused = j.refused;
  domains = domains;
  harts = map (hart_with j.memory.marks) j.harts;
  disk = j.disk;
  frames = frames;
  recorded = recorded_of j.memory.ledger (pages_of_domains (length j.domains));
}

-- The state of a machine after this many steps, under these vectors: a draw for each domain by rising number, and then
-- one for each frame that is owed a page, by rising number. None if the vectors have too few draws.
unfoldable pub frozen_of : Joint → ℕ → Random → Option Frozen
frozen_of j steps ivs =
    option_and_then (λ (domains : List FrozenDomain × Random).
    option_map (λ (frames : List FrozenFrame × Random). frozen_with j steps domains.0 frames.0) (frames_from j.memory 0 j.memory.ram domains.1)) (domains_from j 0 j.domains ivs)

-- The file. Numbers are of 32 bits unless they are `long`, the lowest byte first.

-- nothing, or a word
abbrev pub maybe_word : Option ℕ → List ℕ
maybe_word None = 0 ∷ []
maybe_word (Some w) = 1 ∷ word w

-- vector and digest
abbrev pub meta_bytes : Meta → List ℕ
meta_bytes m = m.iv ++ m.digest

-- a page of the domain at which it stands
abbrev pub violation_bytes : Option Violation → List ℕ
violation_bytes None = 0 ∷ []
violation_bytes (Some (violation.Page page frame)) = 1 ∷ (word page.resource ++ (word page.page ++ word frame.0))
violation_bytes (Some (violation.Context ctx)) = 2 ∷ word ctx
violation_bytes (Some (violation.Mapping ctx root)) = 3 ∷ (word ctx ++ word root)

-- violation, page tables, vector and digest, page
abbrev pub domain_bytes : FrozenDomain → List ℕ
domain_bytes d = violation_bytes d.violation ++ (flat_map maybe_word d.roots ++ (meta_bytes d.meta ++ d.page))

abbrev pub mode_byte : Mode → ℕ
mode_byte U = 0
mode_byte S = 1

-- mode, program counter, timer, context, x1 to x31, control and status registers, reservation
abbrev pub hart_bytes : FrozenHart → List ℕ
hart_bytes h =
    mode_byte h.mode ∷ (word h.pc ++ (word h.timer ++ (maybe_word h.inside
    ++ (flat_map word (drop 1 h.regs) ++ (flat_map word h.csrs ++ maybe_word h.mark)))))

abbrev pub page_words : PageId → List ℕ
page_words q = word q.domain ++ (word q.resource ++ word q.page)

-- nothing, or a page with vector and digest
abbrev pub owed_bytes : Option (PageId × Meta) → List ℕ
owed_bytes None = 0 ∷ []
owed_bytes (Some owed) = 1 ∷ (page_words owed.0 ++ meta_bytes owed.1)

abbrev pub frame_bytes : FrozenFrame → List ℕ
frame_bytes f = f.bytes ++ owed_bytes f.owed

abbrev pub recorded_bytes : FrozenPage → List ℕ
recorded_bytes p = page_words p.page ++ meta_bytes p.meta

abbrev pub frozen_magic : List ℕ
frozen_magic = codes "CLOAKFRZ"

-- magic, steps, draws, the digest of the image's file, refused resumings; domains, harts, disk, frames; count of recorded
-- pages, and these
unfoldable pub body_bytes : Frozen → List ℕ → List ℕ
body_bytes f bundle =
    frozen_magic ++ (word f.steps ++ (long f.draws ++ (bundle ++ (long f.refused
    ++ (flat_map domain_bytes f.domains ++ (flat_map hart_bytes f.harts ++ (f.disk
    ++ (flat_map frame_bytes f.frames ++ (word (length f.recorded) ++ flat_map recorded_bytes f.recorded)))))))))

-- and the digest of all that
unfoldable pub frozen_bytes : Frozen → List ℕ → List ℕ
frozen_bytes f bundle = let body = body_bytes f bundle in body ++ sha256 body

-- The file of a machine's state after this many steps, of an image with these bytes, under these vectors.
unfoldable pub frozen : Joint → ℕ → List ℕ → Random → Option (List ℕ)
frozen j steps bundle ivs = option_map (λ (f : Frozen). frozen_bytes f (sha256 bundle)) (frozen_of j steps ivs)
