-- The vectors that are recorded have 16 bytes, at every moment of a run.
use Rattle.std.proofs.Common.{◌≡◌, ℕ, zero, suc, ◌+◌, List, [], ◌∷◌, ◌++◌, map, Option, Some, None, IfSome, All, Ok, sym, subst}
use Rattle.std.specs.Prelude.{option_and_then, option_map}
use Rattle.std.proofs.lemmas.List.Elements.{All-head, All-nil, All-tail}
use Rattle.aes_block.specs.Bytes.{IsBytes}
use Rattle.cloak_base.proofs.Choices.{either}
use Rattle.cloak_base.specs.Pages.{is_of, page_in, same_page}
use Rattle.cloak_base.specs.Random.{Random, next_draw}
use Rattle.cloak_base.specs.declared.names.PageId.{PageId}
use Rattle.cloak_model.proofs.Offering.{OfferKeeps, SettlesKept, offer_keeps, settle_keeps}
use Rattle.cloak_model.specs.declared.image.Bundle.{Bundle}
use Rattle.cloak_model.specs.Beginning.{Beginning, Fresh, Stored, opening_from, with_content, with_contents}
use Rattle.cloak_model.specs.Cloaking.{CloakedMemory, settle, settle_owed}
use Rattle.cloak_model.specs.Ledger.{Keys, next_vector}
use Rattle.cloak_model.specs.Opening.{RunEdge, drawn_keys, key_count, started_joint, started_ledger, started_memory}
use Rattle.cloak_model.specs.PageMoves.{copy_pages, drop_pages, place, place_with}
use Rattle.cloak_model.specs.Parts.{Joint}
use Rattle.cloak_model.specs.Run.{Run, run_from}
use Rattle.cloak_model.specs.StoredFiles.{FileContents, IsFile, IsMetaIfKnown, PageContent, meta_of, stored_file, table_of}
use Rattle.kernel_isolation.proofs.FilesAdded.{HasKeys, IsGiven, files_carry, files_of, opens_over}
use Rattle.kernel_isolation.specs.Isolation.{joint_until}
use Rattle.limit_law.proofs.Memories.{carried_at, each_carries}
use Rattle.limit_law.proofs.Openings.{programs_placed}
use Rattle.limit_law.proofs.Worlds.{EachKeeps}
use Rattle.range_law.proofs.Ciphers.{MayDraw, draw_fits}
use Rattle.range_law.specs.Writing.{IsBeginningOfBytes, IsStreamOfBytes}
use Rattle.frozen_law.specs.Left.{VectorsAreBlocks}

-- The stream has bytes, and each vector is a block of them.
pub record VectorsFit (m : CloakedMemory) : Type 0 where
  pub stream : IsStreamOfBytes m.ledger.stream
  pub vectors : (q : PageId) → IfSome (m.ledger.iv q) (IsBytes 16)

abbrev IsBlock : Option (List ℕ) → Type 0
IsBlock iv = IfSome iv (IsBytes 16)

owed_fits : (f : ℕ) (q : PageId) (draw : Option (List ℕ × Random)) (m : CloakedMemory) → MayDraw draw → VectorsFit m →
    VectorsFit (settle_owed f q draw m).memory
unfolding settle_owed
owed_fits f q None m may fits = record { stream = fits.stream; vectors = fits.vectors }
owed_fits f q (Some draw) m may fits = record {
  stream = may.rest;
  vectors = λ p. either IsBlock (same_page p q) (Some draw.0) (m.ledger.iv p) may.bytes (fits.vectors p);
}

settles_fit : SettlesKept VectorsFit
settles_fit f q m is fits = owed_fits f q (next_vector m.ledger) m (draw_fits m.ledger.stream fits.stream) fits

changes : EachKeeps VectorsFit
unfolding copy_pages drop_pages
changes = record {
  settles = λ f m fits. settle_keeps VectorsFit settles_fit f m fits;
  offers = λ q g write m fits. offer_keeps (offers_fit q) g write m fits;
  stores = λ pa width value m fits. record { stream = fits.stream; vectors = fits.vectors };
  writes = λ plain m fits. record { stream = fits.stream; vectors = fits.vectors };
  copies = λ d from to m fits. record {
    stream = fits.stream;
    vectors = λ p.
        either IsBlock (is_of d to p) (m.ledger.iv (page_in from p)) (m.ledger.iv p) (fits.vectors (page_in from p))
        (fits.vectors p);
  };
  drops = λ d resource m fits. record {
    stream = fits.stream;
    vectors = λ p. either IsBlock (is_of d resource p) None (m.ledger.iv p) tt (fits.vectors p);
  };
}
  where
    offers_fit : (q : PageId) → OfferKeeps q VectorsFit VectorsFit
    offers_fit q = record {
      settles = settles_fit;
      compares = λ a b m fits. record { stream = fits.stream; vectors = fits.vectors };
      takes = λ g m clean fits. record { stream = fits.stream; vectors = fits.vectors };
      stays = λ m fits. fits;
    }

-- The opening: the pages of programs, and those of files.

place_fits : (q : PageId) (f : ℕ) (bytes : List ℕ) (draw : Option (List ℕ × Random)) (m : CloakedMemory) → MayDraw draw →
    VectorsFit m → IfSome (place_with q f bytes draw m) VectorsFit
unfolding place_with
place_fits q f bytes None m may fits = tt
place_fits q f bytes (Some draw) m may fits = record {
  stream = may.rest;
  vectors = λ p. either IsBlock (same_page p q) (Some draw.0) (m.ledger.iv p) may.bytes (fits.vectors p);
}

placed_fits : (q : PageId) (f : ℕ) (bytes : List ℕ) (m : CloakedMemory) → VectorsFit m →
    IfSome (place q f bytes m) VectorsFit
unfolding place
placed_fits q f bytes m fits =
    place_fits q f bytes (next_vector m.ledger) m (draw_fits m.ledger.stream fits.stream) fits

started_fits : (b : Bundle) (keys : Keys) (rest : Random) → IsStreamOfBytes rest →
    VectorsFit (started_memory b.kernel keys rest)
unfolding started_memory started_ledger
started_fits b keys rest bytes = record { stream = bytes; vectors = λ p. tt }

content_fits : (q : PageId) (content : Option PageContent) (m : CloakedMemory) →
    IsMetaIfKnown (option_map meta_of content) → VectorsFit m → VectorsFit (with_content q content m)
content_fits q None m known fits = fits
content_fits q (Some content) m known fits = record {
  stream = fits.stream;
  vectors = λ p. either IsBlock (same_page p q) (Some content.iv) (m.ledger.iv p) known.iv (fits.vectors p);
}

contents_fit : (d resource page : ℕ) (contents : List (Option PageContent)) (m : CloakedMemory) →
    All IsMetaIfKnown (map (option_map meta_of) contents) → VectorsFit m →
    VectorsFit (with_contents d resource page contents m)
unfolding with_contents
contents_fit d resource page [] m known fits = fits
contents_fit d resource page (c ∷ contents) m known fits =
    contents_fit d resource (page + 1) contents _
    (All-tail IsMetaIfKnown (option_map meta_of c) (map (option_map meta_of) contents) known)
    (content_fits (record { domain = d; resource = resource; page = page }) c m
    (All-head IsMetaIfKnown (option_map meta_of c) (map (option_map meta_of) contents) known) fits)

record BeginsSo (files : List FileContents) (j : Joint) : Type 0 where
  known : All IsFile (table_of files)
  fits : VectorsFit j.memory

given_fits : (f : FileContents) (rest : List FileContents) (x y : Joint) → IsGiven f x y → BeginsSo (f ∷ rest) x →
    BeginsSo rest y
given_fits f rest x y given here = record {
  known = All-tail IsFile (stored_file f) (table_of rest) here.known;
  fits = subst (λ (j : Joint). VectorsFit j.memory) given.is
      (contents_fit f.domain given.resource 0 f.pages x.memory
      (All-head IsFile (stored_file f) (table_of rest) here.known).pages here.fits);
}

joint_fits : (b : Bundle) (m : CloakedMemory) → VectorsFit m → VectorsFit (started_joint b m).memory
unfolding started_joint
joint_fits b m fits = fits

files_known : (b : Bundle) (from : Beginning) → IsBeginningOfBytes b from → All IsFile (table_of (files_of from))
files_known b (Fresh stream) all = All-nil IsFile
files_known b (Stored keys stream files) all = all.contents.table.each

-- the stream after the keys

abbrev LeavesBytes : Option (List (List ℕ) × Random) → Type 0
LeavesBytes drawn = IfSome drawn (λ d. IsStreamOfBytes d.1)

one_key : (keys : List (List ℕ)) (draw : Option (List ℕ × Random)) → MayDraw draw →
    LeavesBytes (option_map (λ (d : List ℕ × Random). (keys ++ d.0 ∷ [], d.1)) draw)
one_key keys None may = tt
one_key keys (Some d) may = may.rest

next_key : (drawn : Option (List (List ℕ) × Random)) → LeavesBytes drawn →
    LeavesBytes (option_and_then (λ (keys : List (List ℕ) × Random).
    option_map (λ (d : List ℕ × Random). (keys.0 ++ d.0 ∷ [], d.1)) (next_draw keys.1)) drawn)
next_key None bytes = tt
next_key (Some keys) bytes = one_key keys.0 (next_draw keys.1) (draw_fits keys.1 bytes)

keys_leave : (n : ℕ) (stream : Random) → IsStreamOfBytes stream → LeavesBytes (drawn_keys n stream)
unfolding drawn_keys
keys_leave zero stream bytes = bytes
keys_leave (suc n) stream bytes = next_key (drawn_keys n stream) (keys_leave n stream bytes)

rest_bytes : (b : Bundle) (from : Beginning) (keys : Keys) (rest : Random) → HasKeys b from keys rest →
    IsBeginningOfBytes b from → IsStreamOfBytes rest
rest_bytes b (Fresh stream) keys rest has all =
    subst LeavesBytes has.draws (keys_leave (key_count b.programs) stream all)
rest_bytes b (Stored handed stream files) keys rest has all = subst IsStreamOfBytes (sym has.stays) all.bytes

opened_fits : (b : Bundle) (from : Beginning) (o : RunEdge) → IsBeginningOfBytes b from → opening_from b from ≡ Ok o →
    VectorsFit o.joint.memory
opened_fits b from o all opens =
    let over = opens_over b from o opens in
    let placed = subst (λ (m : Option CloakedMemory). IfSome m VectorsFit) over.placed
    (programs_placed VectorsFit placed_fits 0 b.programs _
    (started_fits b over.keys over.stream (rest_bytes b from over.keys over.stream over.has_keys all))) in
    (files_carry BeginsSo given_fits (files_of from) (started_joint b over.memory) o.joint over.added
    (record { known = files_known b from all; fits = joint_fits b over.memory placed })).fits

-- The run.

pub settle_fits : (f : ℕ) (m : CloakedMemory) → VectorsFit m → VectorsFit (settle f m).memory
settle_fits f m fits = settle_keeps VectorsFit settles_fit f m fits

pub vectors_fit : (b : Bundle) (from : Beginning) (budget : ℕ) (r : Run) → IsBeginningOfBytes b from →
    run_from b from budget ≡ Ok r → (n : ℕ) → VectorsFit (joint_until n r).memory
vectors_fit b from budget r all is n =
    (carried_at VectorsFit (each_carries VectorsFit changes
    (λ s m fits. record { stream = fits.stream; vectors = fits.vectors })
    (λ root m fits. record { stream = fits.stream; vectors = fits.vectors })) b from budget r
    (λ o opens. opened_fits b from o all opens) is n).memory

pub vectors_are_blocks : VectorsAreBlocks
vectors_are_blocks b from budget r all is n q = (vectors_fit b from budget r all is n).vectors q
