-- As a run begins, each frame has its 4096 bytes, and pages are sealed by chained AES.
use Rattle.std.proofs.Common.{◌≡◌, ◌∙◌, ℕ, zero, suc, ◌+◌, List, [], ◌∷◌, length, slice_index_or, Option, Some, None, Ok, sym, ap, subst, arith}
use Rattle.std.specs.Prelude.{option_and_then}
use Rattle.std.proofs.lemmas.List.{get_or-replicate, length-replicate, length-set}
use Rattle.cloak_base.specs.Constants.{frame_of, place_of}
use Rattle.cloak_base.specs.Pages.{zero_page}
use Rattle.cloak_base.specs.Random.{Random}
use Rattle.cloak_base.specs.declared.names.PageId.{PageId}
use Rattle.cloak_model.specs.declared.image.Bundle.{Bundle}
use Rattle.cloak_model.specs.declared.image.KernelImage.{KernelImage}
use Rattle.cloak_model.specs.declared.image.Program.{Program}
use Rattle.cloak_model.specs.declared.image.Segment.{Segment}
use Rattle.cloak_model.specs.Beginning.{Beginning, Fresh, Stored, opening_from}
use Rattle.cloak_model.specs.Cloaking.{CloakedMemory}
use Rattle.cloak_model.specs.Ledger.{Keys, key_of, next_vector}
use Rattle.cloak_model.specs.Memory.{zero_ram, with_byte, with_bytes}
use Rattle.cloak_model.specs.Opening.{with_segments, started_kernel, started_ledger, started_memory, started_joint, place_pages, place_programs, RunEdge}
use Rattle.cloak_model.specs.PageMoves.{place, place_with}
use Rattle.cloak_model.specs.Sealing.{Chained}
use Rattle.kernel_isolation.proofs.FilesAdded.{HasKeys, added_keep, files_of, opens_over}
use Rattle.reservation_law.proofs.Keeping.{AreWhole, whole_set}
use Rattle.reservation_law.proofs.Sizes.{IsChained, sealed_long, zeros_long}

zero_whole : (frames : ℕ) → AreWhole (zero_ram frames)
zero_whole frames = record {
  long = λ f less.
      let count = length-replicate frames zero_page in
      ap length (get_or-replicate frames f zero_page [] (omega (arith, less, count))) ∙ zeros_long;
}

byte_whole : (ram : List (List ℕ)) (pa b : ℕ) → AreWhole ram → AreWhole (with_byte ram pa b)
byte_whole ram pa b all =
    whole_set ram (frame_of pa) _
    (λ there. length-set (slice_index_or ram (frame_of pa) []) (place_of pa) b ∙ all.long (frame_of pa) there) all

bytes_whole : (ram : List (List ℕ)) (pa : ℕ) (bytes : List ℕ) → AreWhole ram → AreWhole (with_bytes ram pa bytes)
bytes_whole ram pa [] all = all
bytes_whole ram pa (b ∷ bytes) all = bytes_whole (with_byte ram pa b) (pa + 1) bytes (byte_whole ram pa b all)

segments_whole : (ram : List (List ℕ)) (segments : List Segment) → AreWhole ram → AreWhole
    (with_segments ram segments)
segments_whole ram [] all = all
segments_whole ram (s ∷ segments) all =
    segments_whole (with_bytes ram s.address s.bytes) segments (bytes_whole ram s.address s.bytes all)

started_whole : (image : KernelImage) → AreWhole (started_kernel image).ram
unfolding started_kernel
started_whole image = segments_whole (zero_ram image.frames) image.segments (zero_whole image.frames)

-- frames are whole, and pages are sealed by chained AES
pub record IsStarted (m : CloakedMemory) : Type 0 where
  pub whole : AreWhole m.ram
  pub chained : IsChained m

memory_started : (image : KernelImage) (keys : Keys) (rest : Random) → keys.seal ≡ Chained →
    IsStarted (started_memory image keys rest)
unfolding started_memory started_ledger
memory_started image keys rest is = record { whole = started_whole image; chained = is }

-- the keys of a run
keys_chained : (b : Bundle) (from : Beginning) (keys : Keys) (rest : Random) → HasKeys b from keys rest →
    keys.seal ≡ Chained
keys_chained b (Fresh stream) keys rest has = ap (λ (k : Keys). k.seal) has.are
keys_chained b (Stored handed stream files) keys rest has = ap (λ (k : Keys). k.seal) has.are

-- Placing.

abbrev MayBeStarted : Option CloakedMemory → Type 0
MayBeStarted None = Unit {0}
MayBeStarted (Some m) = IsStarted m

then_started : (next : CloakedMemory → Option CloakedMemory) (o : Option CloakedMemory) →
    ((m : CloakedMemory) → IsStarted m → MayBeStarted (next m)) → MayBeStarted o → MayBeStarted (option_and_then next o)
then_started next None more here = tt
then_started next (Some m) more here = more m here

one_started : (q : PageId) (f : ℕ) (bytes : List ℕ) (draw : Option (List ℕ × Random)) (m : CloakedMemory) →
    IsStarted m → MayBeStarted (place_with q f bytes draw m)
unfolding place_with
one_started q f bytes None m is = tt
one_started q f bytes (Some draw) m is = record {
  whole =
      whole_set m.ram f _ (λ there. sealed_long m.ledger.keys.seal (key_of m.ledger q) draw.0 bytes is.chained) is.whole;
  chained = is.chained;
}

place_started : (q : PageId) (f : ℕ) (bytes : List ℕ) (m : CloakedMemory) → IsStarted m →
    MayBeStarted (place q f bytes m)
unfolding place
place_started q f bytes m is = one_started q f bytes (next_vector m.ledger) m is

pages_started : (d : ℕ) (p : Program) (n : ℕ) (m : CloakedMemory) → IsStarted m → MayBeStarted (place_pages d p n m)
pages_started d p zero m is = is
pages_started d p (suc n) m is =
    then_started (place _ _ _) (place_pages d p n m) (λ x there. place_started _ _ _ x there) (pages_started d p n m is)

programs_started : (d : ℕ) (programs : List Program) (m : CloakedMemory) → IsStarted m →
    MayBeStarted (place_programs d programs m)
programs_started d [] m is = is
programs_started d (p ∷ programs) m is =
    then_started (place_programs (d + 1) programs) (place_pages d p p.start.pages m)
    (λ x there. programs_started (d + 1) programs x there) (pages_started d p p.start.pages m is)

joint_started : (b : Bundle) (m : CloakedMemory) → IsStarted m → IsStarted (started_joint b m).memory
unfolding started_joint
joint_started b m is = is

pub opened_started : (b : Bundle) (from : Beginning) (o : RunEdge) → opening_from b from ≡ Ok o →
    IsStarted o.joint.memory
opened_started b from o opens =
    let over = opens_over b from o opens in
    let keeps = added_keep (files_of from) (started_joint b over.memory) o.joint over.added in
    let keys = keys_chained b from over.keys over.stream over.has_keys in
    let placed = subst MayBeStarted over.placed
    (programs_started 0 b.programs _ (memory_started b.kernel over.keys over.stream keys)) in
    let is = joint_started b over.memory placed in
    record {
      whole = subst AreWhole (sym keeps.memory.ram) is.whole;
      chained = ap (λ (k : Keys). k.seal) keeps.memory.keys ∙ is.chained;
    }
