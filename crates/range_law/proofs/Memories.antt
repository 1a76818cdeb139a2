-- A memory with cloaked pages: frames and pages are bytes, and what the kernel is shown of it is an item of a record.
use Rattle.std.proofs.Common.{◌≡◌, ◌∙◌, ℕ, ◌≤◌, Bool, List, [], ◌∷◌, ◌++◌, length, slice_set, Option, Some, None, refl, sym, subst, arith}
use Rattle.std.specs.List.{AllByRecursion}
use Rattle.std.proofs.lemmas.List.{length-set, length-replicate}
use Rattle.aes_block.specs.Bytes.{IsBytes}
use Rattle.cloak_base.specs.Random.{Random}
use Rattle.cloak_base.specs.Pages.{zero_page}
use Rattle.cloak_base.specs.declared.names.PageId.{PageId}
use Rattle.cloak_model.specs.Ahead.{settle_touched, with_shown}
use Rattle.cloak_model.specs.Cloaking.{CloakedMemory, settle_owed, settle, with_owed, with_comparison, offer, seen_in}
use Rattle.cloak_model.specs.Hart.{Hart}
use Rattle.cloak_model.specs.Sealing.{Sealing, Chained, sealed_by}
use Rattle.cloak_model.specs.Ledger.{Keys, key_in, key_of, next_vector}
use Rattle.cloak_model.specs.Memory.{Seen, filled}
use Rattle.cloak_model.specs.Record.{IsItem}
use Rattle.cloak_model.specs.World.{cipher_items}
use Rattle.kernel_isolation.proofs.Showing.{Showing, settle_shows, Shows, touched_shows, offer_shows}
use Rattle.kernel_isolation.proofs.Settlings.{HasPlaces, ShownBy, settle_shown}
use Rattle.kernel_isolation.proofs.Shown.{AreFrames}
use Rattle.range_law.specs.Writing.{AreBytes, IsStreamOfBytes}
use Rattle.range_law.proofs.Bounds.{all_set, zero_bytes}
use Rattle.range_law.proofs.Ciphers.{MayDraw, draw_fits, block_bytes, SealedFits, sealed_fits}

-- the frames of RAM
pub record FramesFit (ram : List (List ℕ)) : Type 0 where
  pub few : length ram ≤ 4096
  pub bytes : AllByRecursion AreBytes ram

-- keys of 16 bytes each, by which pages are sealed with chained AES
pub record KeysAreFit (keys : Keys) : Type 0 where
  pub blocks : (q : PageId) → IsBytes 16 (key_in keys q)
  pub chained : keys.seal ≡ Chained

pub record MemoryFits (m : CloakedMemory) : Type 0 where
  pub ram : FramesFit m.ram
  pub plain : (q : PageId) → AreBytes (m.plain q)
  pub keys : KeysAreFit m.ledger.keys
  pub stream : IsStreamOfBytes m.ledger.stream
  pub places : HasPlaces m

pub frame_set : (ram : List (List ℕ)) (f : ℕ) (bytes : List ℕ) → FramesFit ram → AreBytes bytes →
    FramesFit (slice_set ram f bytes)
frame_set ram f bytes fits here = let few = fits.few in let same = length-set ram f bytes in record {
  few = omega (arith, few, same);
  bytes = all_set AreBytes ram f bytes fits.bytes here;
}

-- What was shown, and the memory then.

pub record ShowsFit (ciphers : List (ℕ × List ℕ)) (after : CloakedMemory) : Type 0 where
  pub memory : MemoryFits after
  pub items : AllByRecursion IsItem (cipher_items ciphers)

pub shows_none : (m : CloakedMemory) → MemoryFits m → ShowsFit [] m
shows_none m fits = record { memory = fits; items = tt }

items_append : (a b : List (ℕ × List ℕ)) → AllByRecursion IsItem (cipher_items a) →
    AllByRecursion IsItem (cipher_items b) → AllByRecursion IsItem (cipher_items (a ++ b))
items_append [] b here there = there
items_append (c ∷ a) b here there = (here.0, items_append a b here.1 there)

pub shows_append : (a b : List (ℕ × List ℕ)) (m n : CloakedMemory) → ShowsFit a m → ShowsFit b n → ShowsFit (a ++ b) n
shows_append a b m n first second =
    record { memory = second.memory; items = items_append a b first.items second.items }

abbrev AreSealed : List (ℕ × List ℕ) → Type 0
AreSealed ciphers = AllByRecursion (λ (c : ℕ × List ℕ). SealedFits c.1) ciphers

shown_frames : (ciphers : List (ℕ × List ℕ)) (seen : Seen) → AreSealed ciphers → FramesFit seen.ram →
    FramesFit (with_shown ciphers seen).ram
shown_frames [] seen all fits = fits
shown_frames (c ∷ ciphers) seen all fits =
    shown_frames ciphers (filled c.0 c.1 seen) all.1 (frame_set seen.ram c.0 c.1 fits all.0.bytes)

shown_items : (ciphers : List (ℕ × List ℕ)) (ram : List (List ℕ)) → length ram ≤ 4096 → AreSealed ciphers →
    AreFrames ram ciphers → AllByRecursion IsItem (cipher_items ciphers)
shown_items [] ram few all frames = tt
shown_items (c ∷ ciphers) ram few all frames =
    let low = frames.0 in
    ((omega (arith, few, low), all.0.long), shown_items ciphers ram few all.1 frames.1)

-- Settling.

-- beside RAM and what is owed
record Seals (m : CloakedMemory) (ciphers : List (ℕ × List ℕ)) (after : CloakedMemory) : Type 0 where
  pub sealed : AreSealed ciphers
  pub plain : after.plain ≡ m.plain
  pub keys : after.ledger.keys ≡ m.ledger.keys
  pub stream : IsStreamOfBytes after.ledger.stream

pub zero_page_fits : SealedFits zero_page
unfolding zero_page
zero_page_fits = record { bytes = zero_bytes; long = length-replicate {A = ℕ} 4096 0 }

owed_seals : (f : ℕ) (q : PageId) (draw : Option (List ℕ × Random)) (m : CloakedMemory) → MemoryFits m → MayDraw draw →
    let s = settle_owed f q draw m in Seals m s.ciphers s.memory
unfolding settle_owed
owed_seals f q None m fits draws =
    record { sealed = (zero_page_fits, tt); plain = refl; keys = refl; stream = fits.stream }
owed_seals f q (Some draw) m fits draws = record {
  sealed = (
    subst (λ (s : Sealing). SealedFits (sealed_by s (key_of m.ledger q) draw.0 (m.plain q))) (sym fits.keys.chained)
        (sealed_fits (key_of m.ledger q) draw.0 (m.plain q) (fits.keys.blocks q) (block_bytes 16 draw.0 draws.bytes) (fits.plain q)),
    tt,
  );
  plain = refl;
  keys = refl;
  stream = draws.rest;
}

settle_seals : (f : ℕ) (m : CloakedMemory) → MemoryFits m → Seals m (settle f m).ciphers (settle f m).memory
settle_seals =
    settle_shows MemoryFits Seals
    (λ m fits. record { sealed = tt; plain = refl; keys = refl; stream = fits.stream })
    (λ f q m is fits. owed_seals f q (next_vector m.ledger) m fits (draw_fits m.ledger.stream fits.stream))

shows_fit : (m : CloakedMemory) (ciphers : List (ℕ × List ℕ)) (after : CloakedMemory) → MemoryFits m →
    ShownBy m ciphers after → Seals m ciphers after → ShowsFit ciphers after
shows_fit m ciphers after fits shown seals = record {
  memory = record {
    ram = subst (λ (seen : Seen). FramesFit seen.ram) (sym shown.seen)
        (shown_frames ciphers (seen_in m) seals.sealed fits.ram);
    plain = subst (λ (plain : PageId → List ℕ). (q : PageId) → AreBytes (plain q)) (sym seals.plain) fits.plain;
    keys = subst KeysAreFit (sym seals.keys) fits.keys;
    stream = seals.stream;
    places = shown.places;
  };
  items = shown_items ciphers m.ram fits.ram.few seals.sealed shown.frames;
}

pub settle_fits : (f : ℕ) (m : CloakedMemory) → MemoryFits m → ShowsFit (settle f m).ciphers (settle f m).memory
settle_fits f m fits = shows_fit m _ _ fits (settle_shown f m fits.places) (settle_seals f m fits)

abbrev Fits : Showing
Fits m ciphers after = ShowsFit ciphers after

shows : Shows MemoryFits Fits
shows = record {
  none = shows_none;
  both = λ l m n a b first second. shows_append a b m n first second;
  after = λ m n a shown. shown.memory;
  settles = settle_fits;
}

-- ahead of a step
pub touched_fits : (h : Hart) (disk : List ℕ) (m : CloakedMemory) → MemoryFits m →
    let s = settle_touched h disk m in ShowsFit s.ciphers s.memory
touched_fits = touched_shows MemoryFits Fits shows

-- Offers.

owed_fits : (g : ℕ) (o : Option PageId) (m : CloakedMemory) → MemoryFits m → MemoryFits (with_owed g o m)
owed_fits g o m fits = record {
  ram = fits.ram;
  plain = fits.plain;
  keys = fits.keys;
  stream = fits.stream;
  places = length-set m.ledger.owed g o ∙ fits.places;
}

comparison_fits : (a b : List ℕ) (m : CloakedMemory) → MemoryFits m → MemoryFits (with_comparison a b m)
comparison_fits a b m fits =
    record { ram = fits.ram; plain = fits.plain; keys = fits.keys; stream = fits.stream; places = fits.places }

pub offer_fits : (q : PageId) (g : ℕ) (write : Bool) (m : CloakedMemory) → MemoryFits m →
    let o = offer q g write m in ShowsFit o.ciphers o.memory
offer_fits q =
    offer_shows MemoryFits Fits shows q (λ g m fits. shows_none _ (owed_fits g (Some q) m fits))
    (λ a b m fits. shows_none _ (comparison_fits a b m fits))
