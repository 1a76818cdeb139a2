-- Two openings of images that are alike but for the bytes of their programs, under a blind seal, are one under the veil.
use Rattle.std.proofs.Common.{◌≡◌, ◌∙◌, ℕ, zero, suc, ◌+◌, Bool, true, false, List, [], ◌∷◌, map, length, Option, Some, None, refl, sym, ap, subst, slice_set}
use Rattle.std.proofs.lemmas.Bool.{false≢true}
use Rattle.std.proofs.lemmas.List.{length-map}
use Rattle.std.specs.Prelude.{max, filter, slice_get, slice_index_or, unwrap_or, drop, replicate, option_map, option_and_then, Result, Ok, Err, nat_le, nat_lt, ◌&&◌, if◌then◌else◌}
use Rattle.cloak_base.specs.Random.{Random}
use Rattle.cloak_base.specs.declared.names.PageId.{PageId}
use Rattle.cloak_model.specs.declared.image.KernelImage.{KernelImage}
use Rattle.cloak_model.specs.declared.image.Program.{Program}
use Rattle.cloak_model.specs.declared.image.Bundle.{Bundle}
use Rattle.cloak_model.specs.Items.{Item}
use Rattle.cloak_model.specs.Items.{Cipher}
use Rattle.cloak_model.specs.Sealing.{Sealing, sealed_by}
use Rattle.cloak_model.specs.Ledger.{Keys, key_of, next_vector}
use Rattle.cloak_model.specs.Cloaking.{CloakedMemory, with_shown_frame, with_record}
use Rattle.cloak_model.specs.PageMoves.{place, place_with, with_newest}
use Rattle.cloak_model.specs.declared.resource.MapFault.{MapFault}
use Rattle.cloak_model.specs.Resources.{Resources, Mapped}
use Rattle.cloak_model.specs.Files.{file_resource}
use Rattle.cloak_model.specs.StoredFiles.{PageContent, FileContents}
use Rattle.cloak_model.specs.Beginning.{Beginning, Fresh, Stored, stored_keys, with_content, with_contents, and_then, file_given, file_added, files_added, opened_over}
use Rattle.cloak_model.specs.DomainState.{Domain, started_domain, with_resources}
use Rattle.cloak_model.specs.Parts.{Joint}
use Rattle.cloak_model.specs.Opening.{RunEdge, Lack, NoPageDraw, program_page, place_pages, place_programs, started_domains, started_joint, started_kernel, started_ledger, started_memory, numbers_below, is_placed, opening_items, key_count, drawn_keys, keys_for, opened_with}
use Rattle.cloak_model.specs.Veil.{veiled, IsBlind}
use Rattle.cloak_model.specs.BlindRuns.{veiled_joint, veiled_domain, veiled_edge, seal_in}
use Rattle.cloak_model.specs.SealedRuns.{keys_under, opened_under, opening_stored_under, opening_under, without_bytes, cipher_alone, without_contents, ImagesAreAlike, rest_after, BeginAlike}

-- Two memories are one under the veil, and this is how pages are sealed in them.
pub record AreOne (seal : Sealing) (m m' : CloakedMemory) : Type 0 where
  pub same : veiled m ≡ veiled m'
  pub sealed : m.ledger.keys.seal ≡ seal

abbrev BothOne : Sealing → Option CloakedMemory → Option CloakedMemory → Type 0
BothOne seal None None = Unit
BothOne seal (Some m) (Some m') = AreOne seal m m'
BothOne seal None (Some m') = ⊥
BothOne seal (Some m) None = ⊥

abbrev is_some_program : List Program → Bool
is_some_program [] = false
is_some_program (p ∷ ps) = true

abbrev is_some_rest : Option Random → Bool
is_some_rest None = false
is_some_rest (Some stream) = true

abbrev option_rest : Option (List (List ℕ) × Random) → Option Random
option_rest o = option_map (λ (d : List (List ℕ) × Random). d.1) o

-- what is shown of the frames of which this holds
abbrev shown_where : (ℕ → Bool) → List (List ℕ) → List Item
shown_where placed ram = map (λ f. Cipher f (slice_index_or ram f [])) (filter placed (numbers_below (length ram)))

-- the opening with these domains and this memory, under the veil
abbrev edge_with : KernelImage → List Domain → CloakedMemory → List Item → RunEdge
edge_with k ds m items = record {
  joint = record {
    harts = (started_kernel k).harts;
    disk = (started_kernel k).disk;
    console = (started_kernel k).console;
    memory = m;
    domains = map veiled_domain ds;
    ended = replicate 4 None;
    refused = 0;
  };
  items = items;
}

abbrev edge_of : KernelImage → List Program → CloakedMemory → RunEdge
edge_of k ps m = edge_with k (started_domains 0 ps) (veiled m) (opening_items ps m.ram)

abbrev is_content : Option PageContent → Bool
is_content None = false
is_content (Some c) = true

abbrev is_some_content : List (Option PageContent) → Bool
is_some_content [] = false
is_some_content (c ∷ cs) = true

abbrev is_some_file : List FileContents → Bool
is_some_file [] = false
is_some_file (f ∷ fs) = true

abbrev cipher_in : Option PageContent → List ℕ → List ℕ
cipher_in None other = other
cipher_in (Some c) other = c.cipher

-- what programs have beside their bytes
key_count_bare : (ps : List Program) → key_count (map without_bytes ps) ≡ key_count ps
key_count_bare [] = refl
key_count_bare (p ∷ ps) = ap (λ (n : ℕ). max (p.key + 1) n) (key_count_bare ps)

placed_bare : (ps : List Program) (f : ℕ) → is_placed (map without_bytes ps) f ≡ is_placed ps f
placed_bare [] f = refl
placed_bare (p ∷ ps) f =
    ap (λ (b : Bool). if nat_le p.place f && nat_lt f (p.place + p.start.pages) then true else b) (placed_bare ps f)

domains_bare : (d : ℕ) (ps : List Program) → started_domains d (map without_bytes ps) ≡ started_domains d ps
domains_bare d [] = refl
domains_bare d (p ∷ ps) = ap (λ (ds : List Domain). started_domain d p.start ∷ ds) (domains_bare (d + 1) ps)

-- the same function of both
pub counts_alike : (ps ps' : List Program) → map without_bytes ps ≡ map without_bytes ps' → key_count ps ≡ key_count ps'
counts_alike ps ps' e = sym (key_count_bare ps) ∙ (ap key_count e ∙ key_count_bare ps')

items_alike : (ps ps' : List Program) (ram : List (List ℕ)) → map without_bytes ps ≡ map without_bytes ps' →
    opening_items ps ram ≡ opening_items ps' ram
items_alike ps ps' ram e =
    ap (λ (placed : ℕ → Bool). shown_where placed ram) (sym (λ i f. placed_bare ps f i))
    ∙ (ap (λ (xs : List Program). opening_items xs ram) e
    ∙ ap (λ (placed : ℕ → Bool). shown_where placed ram) (λ i f. placed_bare ps' f i))

domains_alike : (ps ps' : List Program) → map without_bytes ps ≡ map without_bytes ps' → started_domains 0 ps ≡ started_domains 0 ps'
domains_alike ps ps' e = sym (domains_bare 0 ps) ∙ (ap (started_domains 0) e ∙ domains_bare 0 ps')

-- both open and are one under the veil, or both lack the same
abbrev pub EdgesAreOne : Sealing → Result RunEdge Lack → Result RunEdge Lack → Type 0
EdgesAreOne seal (Ok o) (Ok o') = (veiled_edge o ≡ veiled_edge o') × (seal_in o.joint ≡ seal)
EdgesAreOne seal (Err lack) (Err lack') = lack ≡ lack'
EdgesAreOne seal (Ok o) (Err lack) = ⊥
EdgesAreOne seal (Err lack) (Ok o) = ⊥

module _ (seal : Sealing) (blind : IsBlind seal) where
  -- A page is placed.

  -- the memory in which it is, with this ciphertext
  abbrev placed_so : PageId → ℕ → List ℕ → List ℕ → List ℕ × Random → CloakedMemory → CloakedMemory
  placed_so q f bytes c draw m = with_record q c draw (with_shown_frame f c (with_newest q bytes m))

  one_seal : (m m' : CloakedMemory) → AreOne seal m m' → m'.ledger.keys.seal ≡ seal
  one_seal m m' one = sym (ap (λ (x : CloakedMemory). x.ledger.keys.seal) one.same) ∙ one.sealed

  one_cipher : (q : PageId) (iv bytes bytes' : List ℕ) (m m' : CloakedMemory) → AreOne seal m m' →
      sealed_by m.ledger.keys.seal (key_of m.ledger q) iv bytes ≡ sealed_by m'.ledger.keys.seal (key_of m'.ledger q) iv bytes'
  one_cipher q iv bytes bytes' m m' one =
      ap (λ (s : Sealing). sealed_by s (key_of m.ledger q) iv bytes) one.sealed
      ∙ (blind (key_of m.ledger q) (key_of m'.ledger q) iv bytes bytes'
      ∙ ap (λ (s : Sealing). sealed_by s (key_of m'.ledger q) iv bytes') (sym (one_seal m m' one)))

  with_one : (draw : Option (List ℕ × Random)) (q : PageId) (f : ℕ) (bytes bytes' : List ℕ) (m m' : CloakedMemory) → AreOne seal m m' →
      BothOne seal (place_with q f bytes draw m) (place_with q f bytes' draw m')
  unfolding place_with
  with_one None q f bytes bytes' m m' one = tt
  with_one (Some draw) q f bytes bytes' m m' one =
      let c : List ℕ = sealed_by m.ledger.keys.seal (key_of m.ledger q) draw.0 bytes in
      record {
        same =
            ap (λ (x : CloakedMemory). veiled (placed_so q f [] c draw x)) one.same
            ∙ ap (λ (y : List ℕ). veiled (placed_so q f [] y draw m')) (one_cipher q draw.0 bytes bytes' m m' one);
        sealed = one.sealed;
      }

  place_one : (q : PageId) (f : ℕ) (bytes bytes' : List ℕ) (m m' : CloakedMemory) → AreOne seal m m' →
      BothOne seal (place q f bytes m) (place q f bytes' m')
  unfolding place
  place_one q f bytes bytes' m m' one =
      subst (λ (draw : Option (List ℕ × Random)). BothOne seal (place_with q f bytes (next_vector m.ledger) m) (place_with q f bytes' draw m'))
      (ap (λ (x : CloakedMemory). next_vector x.ledger) one.same) (with_one (next_vector m.ledger) q f bytes bytes' m m' one)

  -- one after another
  then_one : (o o' : Option CloakedMemory) (next next' : CloakedMemory → Option CloakedMemory) → BothOne seal o o' →
      ((m m' : CloakedMemory) → AreOne seal m m' → BothOne seal (next m) (next' m')) →
      BothOne seal (option_and_then next o) (option_and_then next' o')
  then_one None None next next' both later = tt
  then_one (Some m) (Some m') next next' both later = later m m' both
  then_one None (Some m') next next' both later = absurd both
  then_one (Some m) None next next' both later = absurd both

  pages_one : (d n : ℕ) (p p' : Program) → p.place ≡ p'.place → (m m' : CloakedMemory) → AreOne seal m m' →
      BothOne seal (place_pages d p n m) (place_pages d p' n m')
  pages_one d zero p p' at m m' one = one
  pages_one d (suc n) p p' at m m' one =
      let q : PageId = record { domain = d; resource = 0; page = n } in
      then_one (place_pages d p n m) (place_pages d p' n m') (place q (p.place + n) (program_page p.bytes n)) (place q (p'.place + n) (program_page p'.bytes n))
      (pages_one d n p p' at m m' one)
      (λ x x' is. subst (λ (f : ℕ). BothOne seal (place q (p.place + n) (program_page p.bytes n) x) (place q (f + n) (program_page p'.bytes n) x')) at
      (place_one q (p.place + n) (program_page p.bytes n) (program_page p'.bytes n) x x' is))

  programs_one : (d : ℕ) (ps ps' : List Program) → map without_bytes ps ≡ map without_bytes ps' → (m m' : CloakedMemory) → AreOne seal m m' →
      BothOne seal (place_programs d ps m) (place_programs d ps' m')
  programs_one d [] [] e m m' one = one
  programs_one d [] (p' ∷ ps') e m m' one = absurd (false≢true (ap is_some_program e))
  programs_one d (p ∷ ps) [] e m m' one = absurd (false≢true (sym (ap is_some_program e)))
  programs_one d (p ∷ ps) (p' ∷ ps') e m m' one =
      let head : without_bytes p ≡ without_bytes p' = ap (λ (xs : List Program). unwrap_or (slice_get xs 0) (without_bytes p)) e in
      let tail : map without_bytes ps ≡ map without_bytes ps' = ap (λ (xs : List Program). drop 1 xs) e in
      then_one (place_pages d p p.start.pages m) (place_pages d p' p'.start.pages m') (place_programs (d + 1) ps) (place_programs (d + 1) ps')
      (subst (λ (n : ℕ). BothOne seal (place_pages d p p.start.pages m) (place_pages d p' n m')) (ap (λ (x : Program). x.start.pages) head)
      (pages_one d p.start.pages p p' (ap (λ (x : Program). x.place) head) m m' one))
      (λ x x' is. programs_one (d + 1) ps ps' tail x x' is)

  -- The opening.

  started_one : (k : KernelImage) (keys keys' : Keys) (stream stream' : Random) → stream ≡ stream' →
      AreOne seal (started_memory k (keys_under seal keys) stream) (started_memory k (keys_under seal keys') stream')
  unfolding started_memory started_ledger
  started_one k keys keys' stream stream' e = record {
    same = ap (λ (s : Random). veiled (started_memory k (keys_under seal keys) s)) e;
    sealed = refl;
  }

  -- the same kernel, and programs that are alike
  with_memories : (b b' : Bundle) → ImagesAreAlike b b' → (o o' : Option CloakedMemory) → BothOne seal o o' →
      EdgesAreOne seal (opened_with b o) (opened_with b' o')
  unfolding opened_with started_joint
  with_memories b b' alike None None both = refl
  with_memories b b' alike None (Some m') both = absurd both
  with_memories b b' alike (Some m) None both = absurd both
  with_memories b b' alike (Some m) (Some m') both = (
    ap (λ (k : KernelImage). edge_of k b.programs m) alike.kernel
        ∙ (ap (λ (ds : List Domain). edge_with b'.kernel ds (veiled m) (opening_items b.programs m.ram)) (domains_alike b.programs b'.programs alike.programs)
        ∙ (ap (λ (x : CloakedMemory). edge_with b'.kernel (started_domains 0 b'.programs) x (opening_items b.programs x.ram)) both.same
        ∙ ap (λ (items : List Item). edge_with b'.kernel (started_domains 0 b'.programs) (veiled m') items) (items_alike b.programs b'.programs m'.ram alike.programs))),
    both.sealed,
  )

  opened_one : (b b' : Bundle) → ImagesAreAlike b b' → (o o' : Option (List (List ℕ) × Random)) →
      option_rest o ≡ option_rest o' → EdgesAreOne seal (opened_under seal b o) (opened_under seal b' o')
  unfolding opened_under
  opened_one b b' alike None None e = refl
  opened_one b b' alike None (Some d') e = absurd (false≢true (ap is_some_rest e))
  opened_one b b' alike (Some d) None e = absurd (false≢true (sym (ap is_some_rest e)))
  opened_one b b' alike (Some d) (Some d') e =
      let rest : d.1 ≡ d'.1 = ap (λ (o : Option Random). unwrap_or o d.1) e in
      with_memories b b' alike _ _
      (subst (λ (k : KernelImage). BothOne seal (place_programs 0 b.programs (started_memory b.kernel (keys_under seal (keys_for b.programs d.0)) d.1)) (place_programs 0 b'.programs (started_memory k (keys_under seal (keys_for b'.programs d'.0)) d'.1))) alike.kernel
      (programs_one 0 b.programs b'.programs alike.programs _ _ (started_one b.kernel (keys_for b.programs d.0) (keys_for b'.programs d'.0) d.1 d'.1 rest)))

  -- The opening over files.

  -- a page goes on with a content of one ciphertext
  content_one : (q : PageId) (o o' : Option PageContent) → option_map cipher_alone o ≡ option_map cipher_alone o' →
      (m m' : CloakedMemory) → veiled m ≡ veiled m' → veiled (with_content q o m) ≡ veiled (with_content q o' m')
  content_one q None None e m m' em = em
  content_one q None (Some c') e m m' em = absurd (false≢true (ap is_content e))
  content_one q (Some c) None e m m' em = absurd (false≢true (sym (ap is_content e)))
  content_one q (Some c) (Some c') e m m' em =
      let k : c.cipher ≡ c'.cipher = ap (λ (o : Option PageContent). cipher_in o c.cipher) e in
      ap (λ (x : CloakedMemory). veiled (with_content q (Some c) x)) em
      ∙ ap (λ (bytes : List ℕ). veiled (with_content q (Some (record { plain = []; iv = []; cipher = bytes })) m')) k

  contents_one : (d resource page : ℕ) (cs cs' : List (Option PageContent)) → map (option_map cipher_alone) cs ≡ map (option_map cipher_alone) cs' →
      (m m' : CloakedMemory) → veiled m ≡ veiled m' → veiled (with_contents d resource page cs m) ≡ veiled (with_contents d resource page cs' m')
  unfolding with_contents
  contents_one d resource page [] [] e m m' em = em
  contents_one d resource page [] (c' ∷ cs') e m m' em = absurd (false≢true (ap is_some_content e))
  contents_one d resource page (c ∷ cs) [] e m m' em = absurd (false≢true (sym (ap is_some_content e)))
  contents_one d resource page (c ∷ cs) (c' ∷ cs') e m m' em =
      let q : PageId = record { domain = d; resource = resource; page = page } in
      let head : option_map cipher_alone c ≡ option_map cipher_alone c' = ap (λ (xs : List (Option PageContent)). unwrap_or (slice_get xs 0) (option_map cipher_alone c)) e in
      let tail : map (option_map cipher_alone) cs ≡ map (option_map cipher_alone) cs' = ap (λ (xs : List (Option PageContent)). drop 1 xs) e in
      contents_one d resource (page + 1) cs cs' tail (with_content q c m) (with_content q c' m') (content_one q c c' head m m' em)

  content_seal : (q : PageId) (o : Option PageContent) (m : CloakedMemory) → (with_content q o m).ledger.keys.seal ≡ m.ledger.keys.seal
  content_seal q None m = refl
  content_seal q (Some c) m = refl

  contents_seal : (d resource page : ℕ) (cs : List (Option PageContent)) (m : CloakedMemory) →
      (with_contents d resource page cs m).ledger.keys.seal ≡ m.ledger.keys.seal
  unfolding with_contents
  contents_seal d resource page [] m = refl
  contents_seal d resource page (c ∷ cs) m =
      let q : PageId = record { domain = d; resource = resource; page = page } in
      contents_seal d resource (page + 1) cs (with_content q c m) ∙ content_seal q c m

  -- Two machines have the same domains and are one under the veil.
  record AreSame (j j' : Joint) : Type 0 where
    pub domains : j.domains ≡ j'.domains
    pub joint : veiled_joint j ≡ veiled_joint j'
    pub sealed : seal_in j ≡ seal

  abbrev ResultsAreSame : Result Joint Lack → Result Joint Lack → Type 0
  ResultsAreSame (Ok j) (Ok j') = AreSame j j'
  ResultsAreSame (Err lack) (Err lack') = lack ≡ lack'
  ResultsAreSame (Ok j) (Err lack) = ⊥
  ResultsAreSame (Err lack) (Ok j) = ⊥

  -- a file with these pages
  abbrev with_pages : FileContents → List (Option PageContent) → FileContents
  with_pages f ps = record f { pages = ps }

  -- a machine with these domains and this memory, under the veil
  abbrev joint_with : Joint → List Domain → CloakedMemory → Joint
  joint_with x ds m = record x { domains = map veiled_domain ds; memory = m }

  given_same : (f : FileContents) (ps : List (Option PageContent)) (domain : Domain) (j j' : Joint) → AreSame j j' →
      map (option_map cipher_alone) f.pages ≡ map (option_map cipher_alone) ps → (answer : Result ℕ MapFault) (resources : Resources) →
      ResultsAreSame (file_given f domain j answer resources) (file_given (with_pages f ps) domain j' answer resources)
  unfolding file_given
  given_same f ps domain j j' same e (Err fault) resources = refl
  given_same f ps domain j j' same e (Ok n) resources =
      let ds : List Domain = slice_set j'.domains f.domain (with_resources resources domain) in
      record {
        domains = ap (λ (xs : List Domain). slice_set xs f.domain (with_resources resources domain)) same.domains;
        joint =
            ap (λ (xs : List Domain). joint_with (veiled_joint j) (slice_set xs f.domain (with_resources resources domain)) (veiled (with_contents f.domain n 0 f.pages j.memory))) same.domains
            ∙ (ap (λ (m : CloakedMemory). joint_with (veiled_joint j) ds m) (contents_one f.domain n 0 f.pages ps e j.memory j'.memory (ap (λ (x : Joint). x.memory) same.joint))
            ∙ ap (λ (x : Joint). joint_with x ds (veiled (with_contents f.domain n 0 ps j'.memory))) same.joint);
        sealed = contents_seal f.domain n 0 f.pages j.memory ∙ same.sealed;
      }

  added_by : (f : FileContents) (ps : List (Option PageContent)) (j j' : Joint) → AreSame j j' →
      map (option_map cipher_alone) f.pages ≡ map (option_map cipher_alone) ps → (o : Option Domain) →
      ResultsAreSame (file_added f j o) (file_added (with_pages f ps) j' o)
  unfolding file_added
  added_by f ps j j' same e None = refl
  added_by f ps j j' same e (Some domain) =
      let count : length f.pages ≡ length ps = sym (length-map f.pages (option_map cipher_alone)) ∙ (ap length e ∙ length-map ps (option_map cipher_alone)) in
      let made : Mapped ℕ = file_resource f.number (length f.pages) domain.control.resources in
      subst (λ (n : ℕ). ResultsAreSame (file_given f domain j made.answer made.resources)
      (file_given (with_pages f ps) domain j' (file_resource f.number n domain.control.resources).answer (file_resource f.number n domain.control.resources).resources)) count
      (given_same f ps domain j j' same e made.answer made.resources)

  added_same : (f f' : FileContents) (j j' : Joint) → AreSame j j' → without_contents f ≡ without_contents f' →
      ResultsAreSame (file_added f j (slice_get j.domains f.domain)) (file_added f' j' (slice_get j'.domains f'.domain))
  added_same f f' j j' same e =
      let is : with_pages f f'.pages ≡ f' =
      ap (λ (n : ℕ). let x : FileContents = record { domain = n; number = f.number; pages = f'.pages } in x) (ap (λ (x : FileContents). x.domain) e)
      ∙ ap (λ (n : ℕ). let x : FileContents = record { domain = f'.domain; number = n; pages = f'.pages } in x) (ap (λ (x : FileContents). x.number) e) in
      subst (λ (x : FileContents). ResultsAreSame (file_added f j (slice_get j.domains f.domain)) (file_added x j' (slice_get j'.domains x.domain))) is
      (subst (λ (ds : List Domain). ResultsAreSame (file_added f j (slice_get j.domains f.domain)) (file_added (with_pages f f'.pages) j' (slice_get ds f.domain))) same.domains
      (added_by f f'.pages j j' same (ap (λ (x : FileContents). x.pages) e) (slice_get j.domains f.domain)))

  then_same : (r r' : Result Joint Lack) (next next' : Joint → Result Joint Lack) → ResultsAreSame r r' →
      ((j j' : Joint) → AreSame j j' → ResultsAreSame (next j) (next' j')) → ResultsAreSame (and_then next r) (and_then next' r')
  then_same (Ok j) (Ok j') next next' both later = later j j' both
  then_same (Err lack) (Err lack') next next' both later = both
  then_same (Ok j) (Err lack) next next' both later = absurd both
  then_same (Err lack) (Ok j) next next' both later = absurd both

  files_same : (fs fs' : List FileContents) → map without_contents fs ≡ map without_contents fs' → (j j' : Joint) → AreSame j j' →
      ResultsAreSame (files_added fs j) (files_added fs' j')
  unfolding files_added
  files_same [] [] e j j' same = same
  files_same [] (f' ∷ fs') e j j' same = absurd (false≢true (ap is_some_file e))
  files_same (f ∷ fs) [] e j j' same = absurd (false≢true (sym (ap is_some_file e)))
  files_same (f ∷ fs) (f' ∷ fs') e j j' same =
      let head : without_contents f ≡ without_contents f' = ap (λ (xs : List FileContents). unwrap_or (slice_get xs 0) (without_contents f)) e in
      let tail : map without_contents fs ≡ map without_contents fs' = ap (λ (xs : List FileContents). drop 1 xs) e in
      then_same (file_added f j (slice_get j.domains f.domain)) (file_added f' j' (slice_get j'.domains f'.domain)) (files_added fs) (files_added fs')
      (added_same f f' j j' same head) (λ x x' is. files_same fs fs' tail x x' is)

  -- the machine in which pages were placed
  joints_same : (b b' : Bundle) → ImagesAreAlike b b' → (m m' : CloakedMemory) → AreOne seal m m' →
      AreSame (started_joint b m) (started_joint b' m')
  unfolding started_joint
  joints_same b b' alike m m' one = record {
    domains = domains_alike b.programs b'.programs alike.programs;
    joint =
        ap (λ (k : KernelImage). (edge_with k (started_domains 0 b.programs) (veiled m) []).joint) alike.kernel
        ∙ (ap (λ (ds : List Domain). (edge_with b'.kernel ds (veiled m) []).joint) (domains_alike b.programs b'.programs alike.programs)
        ∙ ap (λ (x : CloakedMemory). (edge_with b'.kernel (started_domains 0 b'.programs) x []).joint) one.same);
    sealed = one.sealed;
  }

  lacks_same : (r r' : Result Joint Lack) → ResultsAreSame r r' →
      EdgesAreOne seal (and_then (λ j. Err NoPageDraw) r) (and_then (λ j. Err NoPageDraw) r')
  lacks_same (Ok j) (Ok j') same = refl
  lacks_same (Err lack) (Err lack') same = same
  lacks_same (Ok j) (Err lack) same = absurd same
  lacks_same (Err lack) (Ok j) same = absurd same

  edges_same : (items items' : List Item) → items ≡ items' → (r r' : Result Joint Lack) → ResultsAreSame r r' →
      EdgesAreOne seal (and_then (λ j. Ok (record { joint = j; items = items })) r) (and_then (λ j. Ok (record { joint = j; items = items' })) r')
  edges_same items items' e (Ok j) (Ok j') same = (
    ap (λ (x : Joint). let o : RunEdge = record { joint = x; items = items } in o) same.joint
        ∙ ap (λ (x : List Item). let o : RunEdge = record { joint = veiled_joint j'; items = x } in o) e,
    same.sealed,
  )
  edges_same items items' e (Err lack) (Err lack') same = same
  edges_same items items' e (Ok j) (Err lack) same = absurd same
  edges_same items items' e (Err lack) (Ok j) same = absurd same

  over_one : (b b' : Bundle) (files files' : List FileContents) (bare bare' : Joint) → ImagesAreAlike b b' →
      map without_contents files ≡ map without_contents files' → AreSame bare bare' → (o o' : Option CloakedMemory) → BothOne seal o o' →
      EdgesAreOne seal (opened_over b files bare o) (opened_over b' files' bare' o')
  unfolding opened_over
  over_one b b' files files' bare bare' alike e same None None both = lacks_same (files_added files bare) (files_added files' bare') (files_same files files' e bare bare' same)
  over_one b b' files files' bare bare' alike e same (Some m) (Some m') both =
      edges_same (opening_items b.programs m.ram) (opening_items b'.programs m'.ram)
      (ap (λ (x : CloakedMemory). opening_items b.programs x.ram) both.same ∙ items_alike b.programs b'.programs m'.ram alike.programs)
      (files_added files (started_joint b m)) (files_added files' (started_joint b' m'))
      (files_same files files' e (started_joint b m) (started_joint b' m') (joints_same b b' alike m m' both))
  over_one b b' files files' bare bare' alike e same None (Some m') both = absurd both
  over_one b b' files files' bare bare' alike e same (Some m) None both = absurd both

  stored_one : (b b' : Bundle) (keys keys' : List (List ℕ)) (stream stream' : Random) (files files' : List FileContents) → ImagesAreAlike b b' →
      stream ≡ stream' → map without_contents files ≡ map without_contents files' →
      EdgesAreOne seal (opening_stored_under seal b keys stream files) (opening_stored_under seal b' keys' stream' files')
  unfolding opening_stored_under
  stored_one b b' keys keys' stream stream' files files' alike es ef =
      let m : CloakedMemory = started_memory b.kernel (keys_under seal (stored_keys b keys)) stream in
      let m' : CloakedMemory = started_memory b'.kernel (keys_under seal (stored_keys b' keys')) stream' in
      let one : AreOne seal m m' =
      subst (λ (k : KernelImage). AreOne seal m (started_memory k (keys_under seal (stored_keys b' keys')) stream')) alike.kernel
      (started_one b.kernel (stored_keys b keys) (stored_keys b' keys') stream stream' es) in
      over_one b b' files files' (started_joint b m) (started_joint b' m') alike ef (joints_same b b' alike m m' one)
      (place_programs 0 b.programs m) (place_programs 0 b'.programs m') (programs_one 0 b.programs b'.programs alike.programs m m' one)

  pub opening_one : (b b' : Bundle) (from from' : Beginning) → ImagesAreAlike b b' → BeginAlike (key_count b.programs) from from' →
      EdgesAreOne seal (opening_under seal b from) (opening_under seal b' from')
  opening_one b b' (Fresh stream) (Fresh stream') alike on =
      opened_one b b' alike (drawn_keys (key_count b.programs) stream) (drawn_keys (key_count b'.programs) stream')
      (on ∙ ap (λ (n : ℕ). rest_after n stream') (counts_alike b.programs b'.programs alike.programs))
  opening_one b b' (Stored keys stream files) (Stored keys' stream' files') alike on =
      stored_one b b' keys keys' stream stream' files files' alike on.0 on.1
  opening_one b b' (Fresh stream) (Stored keys stream' files) alike on = absurd on
  opening_one b b' (Stored keys stream files) (Fresh stream') alike on = absurd on
