-- The files that are added at an opening: the machine fits as before.
use Rattle.std.proofs.Common.{◌≡◌, ℕ, ◌+◌, List, [], ◌∷◌, length, Option, Some, None, IfSome, Ok, subst}
use Rattle.std.specs.Prelude.{All}
use Rattle.std.proofs.lemmas.List.Elements.{All-head, All-tail}
use Rattle.cloak_base.specs.Pages.{same_page}
use Rattle.cloak_base.specs.declared.names.PageId.{PageId}
use Rattle.cloak_model.specs.Beginning.{with_content, with_contents, files_added}
use Rattle.cloak_model.specs.Cloaking.{CloakedMemory}
use Rattle.cloak_model.specs.DomainState.{Domain, with_resources}
use Rattle.cloak_model.specs.Parts.{Joint}
use Rattle.cloak_model.specs.StoredFiles.{PageContent, FileContents, IsSealedIfShown, HasSealedPages}
use Rattle.cloak_model.specs.Ledger.{Keys, domain_key}
use Rattle.kernel_isolation.proofs.FilesAdded.{IsGiven, files_carry, file_made}
use Rattle.range_law.specs.Writing.{AreBytes}
use Rattle.range_law.proofs.Bounds.{all_get, all_set}
use Rattle.range_law.proofs.Ciphers.{block_bytes}
use Rattle.range_law.proofs.Controls.{file_fits}
use Rattle.range_law.proofs.Memories.{MemoryFits}
use Rattle.range_law.proofs.Turns.{ProgramFits, JointFits}
use Rattle.cloak_base.proofs.Choices.{either}

-- what each file with a property keeps all of them keep
pub all_files_keep : (P : Joint → Type 0) (Q : FileContents → Type 0) →
    ((f : FileContents) (x y : Joint) → Q f → IsGiven f x y → P x → P y) →
    (files : List FileContents) (j j' : Joint) → All Q files → files_added files j ≡ Ok j' → P j → P j'
all_files_keep P Q each files j j' all is here =
    (files_carry (λ rest x. All Q rest × P x)
    (λ f rest x y given both.
    (All-tail Q f rest both.0, each f x y (All-head Q f rest both.0) given both.1)) files j j' is (all, here)).1

-- Pages: those that were shown are of bytes.

abbrev HasBytes : Option PageContent → Type 0
HasBytes o = IfSome o (λ c. AreBytes c.plain)

abbrev pub HasPageBytes : FileContents → Type 0
HasPageBytes f = All HasBytes f.pages

sealed_bytes : (key : List ℕ) (o : Option PageContent) → IsSealedIfShown key o → HasBytes o
sealed_bytes key None is = tt
sealed_bytes key (Some c) is = block_bytes 4096 c.plain is.plain

pub all_bytes : (keys : Keys) (files : List FileContents) → All (HasSealedPages keys) files → All HasPageBytes files
all_bytes keys files all i f low page o there =
    sealed_bytes (domain_key keys _) _ (all i f low page o there)

content_fits : (q : PageId) (o : Option PageContent) (m : CloakedMemory) → HasBytes o → MemoryFits m →
    MemoryFits (with_content q o m)
content_fits q None m bytes fits = fits
content_fits q (Some c) m bytes fits = record {
  ram = fits.ram;
  plain = λ p. either AreBytes (same_page p q) c.plain (m.plain p) bytes (fits.plain p);
  keys = fits.keys;
  stream = fits.stream;
  places = fits.places;
}

contents_fit : (d resource page : ℕ) (contents : List (Option PageContent)) (m : CloakedMemory) → All HasBytes contents →
    MemoryFits m → MemoryFits (with_contents d resource page contents m)
unfolding with_contents
contents_fit d resource page [] m bytes fits = fits
contents_fit d resource page (c ∷ contents) m bytes fits =
    let q : PageId = record { domain = d; resource = resource; page = page } in
    contents_fit d resource (page + 1) contents (with_content q c m) (All-tail HasBytes c contents bytes)
    (content_fits q c m (All-head HasBytes c contents bytes) fits)

-- A file.

given_fits : (f : FileContents) (x y : Joint) → HasPageBytes f → IsGiven f x y → JointFits x → JointFits y
given_fits f x y bytes given fits =
    let was = all_get ProgramFits x.domains f.domain given.domain fits.programs given.there in
    let now : Domain = with_resources (file_made f given.domain).resources given.domain in
    subst JointFits given.is
    (record {
      harts = fits.harts;
      disk = fits.disk;
      memory = contents_fit f.domain given.resource 0 f.pages x.memory bytes fits.memory;
      programs = all_set ProgramFits x.domains f.domain now fits.programs
          (record {
            number = was.number;
            slots = was.slots;
            numbers = (file_fits f.number (length f.pages) given.domain.control.resources was.numbers).numbers;
          });
    })

pub added_fit : (files : List FileContents) (j j' : Joint) → All HasPageBytes files → files_added files j ≡ Ok j' →
    JointFits j → JointFits j'
added_fit = all_files_keep JointFits HasPageBytes given_fits
