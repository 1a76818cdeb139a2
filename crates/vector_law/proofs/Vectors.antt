-- At every moment of a run, and as it is closed, no page was last shown under a key.
use Rattle.std.proofs.Common.{◌≡◌, ◌∙◌, ◌≤◌, ◌<◌, inl, inr, ℕ, zero, suc, ◌+◌, Bool, true, false, cond, List, [], ◌∷◌, length, slice_index_or, Option, Some, None, IfSome, Ok, refl, sym, ap, subst, arith}
use Rattle.std.specs.Prelude.{option_map, option_and_then}
use Rattle.std.specs.List.{AllByRecursion}
use Rattle.std.proofs.lemmas.List.{get_or-map, length-map}
use Rattle.std.proofs.lemmas.List.Elements.{recursion_from_All}
use Rattle.cloak_base.specs.Pages.{same_page, is_of}
use Rattle.cloak_base.specs.Random.{Random, next_draw}
use Rattle.cloak_base.specs.declared.names.PageId.{PageId}
use Rattle.cloak_model.specs.declared.image.Bundle.{Bundle}
use Rattle.cloak_model.specs.declared.image.Program.{Program}
use Rattle.cloak_model.specs.Beginning.{Beginning, Fresh, Stored, opening_from, with_content, with_contents}
use Rattle.cloak_model.specs.Cloaking.{CloakedMemory, settle_owed}
use Rattle.cloak_model.specs.Joint.{cloak_outside, hart_in}
use Rattle.cloak_model.specs.Ledger.{Keys, next_vector}
use Rattle.cloak_model.specs.Opening.{RunEdge, key_count, started_joint, started_ledger, started_memory}
use Rattle.cloak_model.specs.PageMoves.{copy_pages, drop_pages, place, place_with}
use Rattle.cloak_model.specs.Parts.{Joint}
use Rattle.cloak_model.specs.Run.{Run, run_from, closing, settled_below}
use Rattle.cloak_model.specs.StoredFiles.{PageContent, FileContents, meta_of, stored_file, table_of}
use Rattle.cloak_model.specs.World.{MidStep}
use Rattle.kernel_isolation.specs.Isolation.{joint_until}
use Rattle.kernel_isolation.proofs.FilesAdded.{HasKeys, IsGiven, files_carry, files_of, opens_over}
use Rattle.cloak_model.proofs.Offering.{SettlesKept, settle_keeps, OfferKeeps, offer_keeps}
use Rattle.limit_law.proofs.Memories.{each_carries, carried_at}
use Rattle.limit_law.proofs.Openings.{programs_placed}
use Rattle.limit_law.proofs.Worlds.{EachKeeps}
use Rattle.page_law.specs.Ciphers.{keys_drawn, numbered_draw, stream_of}
use Rattle.page_law.proofs.Keys.{are_drawn}
use Rattle.chain_law.proofs.ZeroRuns.{closed_is}
use Rattle.vector_law.specs.Vectors.{IsNoKey, HasNoKeys, RunsKeepNoKeys}

-- The next draw has a number that is no key's, and no page was last shown under a key.
record Keeps (programs : List Program) (from : Beginning) (m : CloakedMemory) : Type 0 where
  number : ℕ
  after : keys_drawn programs from ≤ number
  next : next_draw m.ledger.stream ≡ numbered_draw number (stream_of from)
  vectors : HasNoKeys programs from m.ledger

-- a vector by a test
by_test : (P : List ℕ → Type 0) (t : Bool) (here there : Option (List ℕ)) (iv : List ℕ) → (here ≡ Some iv → P iv) →
    (there ≡ Some iv → P iv) → cond t here there ≡ Some iv → P iv
by_test P true here there iv first second is = first is
by_test P false here there iv first second is = second is

module _ (programs : List Program) (from : Beginning) where
  abbrev Kept : CloakedMemory → Type 0
  Kept m = Keeps programs from m

  abbrev NoKey : List ℕ → Type 0
  NoKey iv = IsNoKey programs from iv

  -- the next draw is made
  drawn : (n : ℕ) (last : Random) (draw : List ℕ × Random) → next_draw last ≡ numbered_draw n (stream_of from) →
      next_draw last ≡ Some draw → next_draw draw.1 ≡ numbered_draw (suc n) (stream_of from)
  drawn n last draw next is = ap (option_and_then (λ (d : List ℕ × Random). next_draw d.1)) (sym is ∙ next)

  under_draw : (n : ℕ) (last : Random) (draw : List ℕ × Random) (iv : List ℕ) → keys_drawn programs from ≤ n →
      next_draw last ≡ numbered_draw n (stream_of from) → next_draw last ≡ Some draw → Some draw.0 ≡ Some iv → NoKey iv
  under_draw n last draw iv after next is same = inl (record {
    number = n;
    not_key = after;
    is = ap (option_map (λ (d : List ℕ × Random). d.0)) (sym next ∙ is) ∙ same;
  })

  -- nothing is drawn, and each vector is one that was there
  stays : (m m' : CloakedMemory) → m'.ledger.stream ≡ m.ledger.stream → HasNoKeys programs from m'.ledger → Kept m → Kept m'
  stays m m' stream vectors here = record {
    number = here.number;
    after = here.after;
    next = ap next_draw stream ∙ here.next;
    vectors = vectors;
  }

  -- a page is shown under the next draw
  recorded : (q : PageId) (draw : List ℕ × Random) (m m' : CloakedMemory) → next_draw m.ledger.stream ≡ Some draw →
      m'.ledger.stream ≡ draw.1 →
      ((p : PageId) → m'.ledger.iv p ≡ cond (same_page p q) (Some draw.0) (m.ledger.iv p)) → Kept m → Kept m'
  recorded q draw m m' is stream ivs here = record {
    number = suc here.number;
    after = (let low = here.after in omega (arith, low));
    next = ap next_draw stream ∙ drawn here.number m.ledger.stream draw here.next is;
    vectors = λ p iv held.
        by_test NoKey (same_page p q) (Some draw.0) (m.ledger.iv p) iv
        (under_draw here.number m.ledger.stream draw iv here.after here.next is) (here.vectors p iv) (sym (ivs p) ∙ held);
  }

  -- Settling and offering.

  owed_kept : (f : ℕ) (q : PageId) (draw : Option (List ℕ × Random)) (m : CloakedMemory) →
      next_draw m.ledger.stream ≡ draw → Kept m → Kept (settle_owed f q draw m).memory
  unfolding settle_owed
  owed_kept f q None m is here = stays m _ refl here.vectors here
  owed_kept f q (Some draw) m is here = recorded q draw m _ is refl (λ p. refl) here

  settles : SettlesKept Kept
  settles f q m owed here = owed_kept f q (next_vector m.ledger) m refl here

  offers : (q : PageId) → OfferKeeps q Kept Kept
  offers q = record {
    settles = settles;
    compares = λ a b m here. stays m _ refl here.vectors here;
    takes = λ g m clean here. stays m _ refl here.vectors here;
    stays = λ m here. here;
  }

  none_some : (iv : List ℕ) → None ≡ Some iv → NoKey iv
  none_some iv is = absurd cc

  changes : EachKeeps Kept
  unfolding copy_pages drop_pages
  changes = record {
    settles = λ f m here. settle_keeps Kept settles f m here;
    offers = λ q g write m here. offer_keeps (offers q) g write m here;
    stores = λ pa width value m here. stays m _ refl here.vectors here;
    writes = λ plain m here. stays m _ refl here.vectors here;
    copies = λ d source to m here.
        stays m _ refl (λ p iv held. by_test NoKey (is_of d to p) _ (m.ledger.iv p) iv (here.vectors _ iv) (here.vectors p iv) held) here;
    drops = λ d resource m here.
        stays m _ refl (λ p iv held. by_test NoKey (is_of d resource p) None (m.ledger.iv p) iv (none_some iv) (here.vectors p iv) held) here;
  }

  -- The opening.

  place_by : (q : PageId) (f : ℕ) (bytes : List ℕ) (draw : Option (List ℕ × Random)) (m : CloakedMemory) →
      next_draw m.ledger.stream ≡ draw → Kept m → IfSome (place_with q f bytes draw m) Kept
  unfolding place_with
  place_by q f bytes None m is here = tt
  place_by q f bytes (Some draw) m is here = recorded q draw m _ is refl (λ p. refl) here

  placed : (q : PageId) (f : ℕ) (bytes : List ℕ) (m : CloakedMemory) → Kept m → IfSome (place q f bytes m) Kept
  unfolding place
  placed q f bytes m here = place_by q f bytes (next_vector m.ledger) m refl here

  started_by : (b : Bundle) (keys : Keys) (rest : Random) →
      next_draw rest ≡ numbered_draw (keys_drawn programs from) (stream_of from) → Kept (started_memory b.kernel keys rest)
  unfolding started_memory started_ledger
  started_by b keys rest next = record {
    number = keys_drawn programs from;
    after = omega arith;
    next = next;
    vectors = λ q iv held. none_some iv held;
  }

  joint_kept : (b : Bundle) (m : CloakedMemory) → Kept m → Kept (started_joint b m).memory
  unfolding started_joint
  joint_kept b m here = here

  -- with the files

  abbrev PageHas : Option PageContent → Type 0
  PageHas o = IfSome o (λ c. NoKey c.iv)

  abbrev FileHas : FileContents → Type 0
  FileHas f = AllByRecursion PageHas f.pages

  content_kept : (q : PageId) (o : Option PageContent) (m : CloakedMemory) → PageHas o → Kept m → Kept (with_content q o m)
  content_kept q None m told here = here
  content_kept q (Some c) m told here =
      stays m _ refl
      (λ p iv held.
      by_test NoKey (same_page p q) (Some c.iv) (m.ledger.iv p) iv
      (λ is. (let same : c.iv ≡ iv = cc in subst NoKey same told)) (here.vectors p iv) held) here

  contents_kept : (d resource page : ℕ) (contents : List (Option PageContent)) (m : CloakedMemory) →
      AllByRecursion PageHas contents → Kept m → Kept (with_contents d resource page contents m)
  unfolding with_contents
  contents_kept d resource page [] m told here = here
  contents_kept d resource page (c ∷ contents) m told here =
      contents_kept d resource (page + 1) contents _ told.1 (content_kept _ c m told.0 here)

  record Gives (files : List FileContents) (j : Joint) : Type 0 where
    told : AllByRecursion FileHas files
    kept : Kept j.memory

  given_kept : (f : FileContents) (rest : List FileContents) (x y : Joint) → IsGiven f x y → Gives (f ∷ rest) x →
      Gives rest y
  given_kept f rest x y given here = record {
    told = here.told.1;
    kept = subst (λ (j : Joint). Kept j.memory) given.is
        (contents_kept f.domain given.resource 0 f.pages x.memory here.told.0 here.kept);
  }

  -- Settled one after another.

  below_kept : (n : ℕ) (c : MidStep) → Kept c.memory → Kept (settled_below n c).memory
  unfolding settled_below
  below_kept zero c here = here
  below_kept (suc n) c here = settle_keeps Kept settles n (settled_below n c).memory (below_kept n c here)

  closing_kept : (j : Joint) → Kept j.memory → Kept (closing j).joint.memory
  unfolding closing
  closing_kept j here = below_kept (length j.memory.ram) (cloak_outside j.memory (hart_in j 0)) here

-- What the files of the run before tell, their store file tells.

page_told : (programs : List Program) (keys : List (List ℕ)) (stream : Random) (files : List FileContents) (i : ℕ)
    (f : FileContents) → i < length files → slice_index_or files i f ≡ f → (j : ℕ) → j < length f.pages →
    (o : Option PageContent) → slice_index_or f.pages j o ≡ o →
    IfSome o (λ c. IsNoKey programs (Stored keys stream files) c.iv)
page_told programs keys stream files i f low is j inside None there = tt
page_told programs keys stream files i f low is j inside (Some c) there =
    let long = length-map files stored_file in
    let wide = length-map f.pages (option_map meta_of) in
    let at : slice_index_or (table_of files) i (stored_file f) ≡ stored_file f =
    get_or-map stored_file files i f (stored_file f) low ∙ ap stored_file is in
    let page : slice_index_or (stored_file f).pages j (Some (meta_of c)) ≡ Some (meta_of c) =
    get_or-map (option_map meta_of) f.pages j (Some c) (Some (meta_of c)) inside ∙ ap (option_map meta_of) there in
    inr
    (i, stored_file f, omega (arith, low, long), at, (j, Some (meta_of c), omega (arith, inside, wide), page, refl))

all_told : (programs : List Program) (keys : List (List ℕ)) (stream : Random) (files : List FileContents) →
    AllByRecursion (FileHas programs (Stored keys stream files)) files
all_told programs keys stream files =
    recursion_from_All (FileHas programs (Stored keys stream files)) files
    (λ i f low.
    let here = slice_index_or files i f in
    recursion_from_All (PageHas programs (Stored keys stream files)) here.pages
    (λ j o inside.
    page_told programs keys stream files i here low (same_default files i f low) j inside (slice_index_or here.pages j o)
    (same_default here.pages j o inside)))
  where
    same_default : {A : Type 0} (xs : List A) (i : ℕ) (d : A) → i < length xs →
        slice_index_or xs i (slice_index_or xs i d) ≡ slice_index_or xs i d
    same_default [] i d low = refl
    same_default (x ∷ xs) zero d low = refl
    same_default (x ∷ xs) (suc i) d low = same_default xs i d (omega (arith, low))

files_told : (programs : List Program) (from : Beginning) → AllByRecursion (FileHas programs from) (files_of from)
files_told programs (Fresh stream) = tt
files_told programs (Stored keys stream files) = all_told programs keys stream files

-- Of both beginnings.

first_next : (b : Bundle) (from : Beginning) (keys : Keys) (rest : Random) → HasKeys b from keys rest →
    next_draw rest ≡ numbered_draw (keys_drawn b.programs from) (stream_of from)
first_next b (Fresh stream) keys rest has = (are_drawn (key_count b.programs) stream (has.drawn, rest) has.draws).next
first_next b (Stored handed stream files) keys rest has = ap next_draw has.stays

opened_kept : (b : Bundle) (from : Beginning) (o : RunEdge) → opening_from b from ≡ Ok o →
    Kept b.programs from o.joint.memory
opened_kept b from o opens =
    let over = opens_over b from o opens in
    let p = b.programs in
    let there = subst (λ (m : Option CloakedMemory). IfSome m (Kept p from)) over.placed
    (programs_placed (Kept p from) (placed p from) 0 p _
    (started_by p from b over.keys over.stream (first_next b from over.keys over.stream over.has_keys))) in
    (files_carry (Gives p from) (given_kept p from) (files_of from) (started_joint b over.memory) o.joint over.added
    (record { told = files_told p from; kept = joint_kept p from b over.memory there })).kept

-- The run.

kept_until : (b : Bundle) (from : Beginning) (budget : ℕ) (r : Run) → run_from b from budget ≡ Ok r → (n : ℕ) →
    Kept b.programs from (joint_until n r).memory
kept_until b from budget r is n =
    (carried_at (Kept b.programs from)
    (each_carries (Kept b.programs from) (changes b.programs from) (λ s m here. stays b.programs from m _ refl here.vectors here)
    (λ root m here. stays b.programs from m _ refl here.vectors here)) b from budget r (opened_kept b from) is n).memory

pub runs_keep_no_keys : RunsKeepNoKeys
runs_keep_no_keys b from budget r is n = (kept_until b from budget r is n).vectors

-- and as it is closed
pub closed_without_keys : (b : Bundle) (from : Beginning) (budget : ℕ) (r : Run) → run_from b from budget ≡ Ok r →
    HasNoKeys b.programs from r.closed.joint.memory.ledger
closed_without_keys b from budget r is =
    subst (λ (o : RunEdge). HasNoKeys b.programs from o.joint.memory.ledger) (sym (closed_is b from budget r is))
    (closing_kept b.programs from (joint_until (length r.turns) r) (kept_until b from budget r is (length r.turns))).vectors
