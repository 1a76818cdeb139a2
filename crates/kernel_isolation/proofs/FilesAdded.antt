-- What the files that are added at an opening leave as it was, and how a run of either beginning is opened. They change
-- the resources of domains, and of pages the newest bytes, the recorded ciphertext and its vector.
use Rattle.std.proofs.Common.{◌≡◌, ◌∙◌, ℕ, zero, suc, ◌+◌, List, [], ◌∷◌, length, slice_get, slice_set, Option, Some, None, Result, Ok, Err, refl, sym, ap, subst}
use Rattle.std.proofs.lemmas.List.{length-set}
use Rattle.cloak_base.specs.Random.{Random}
use Rattle.cloak_base.specs.declared.names.PageId.{PageId}
use Rattle.cloak_model.specs.declared.image.Bundle.{Bundle}
use Rattle.cloak_model.specs.declared.resource.MapFault.{MapFault}
use Rattle.cloak_model.specs.Beginning.{with_content, with_contents, and_then, file_given, file_added, files_added, opened_over, stored_keys, opening_stored, Beginning, Fresh, Stored, opening_from}
use Rattle.cloak_model.specs.Cloaking.{CloakedMemory}
use Rattle.cloak_model.specs.DomainState.{Domain, with_resources}
use Rattle.cloak_model.specs.Files.{file_resource}
use Rattle.cloak_model.specs.Hart.{Hart}
use Rattle.cloak_model.specs.Ledger.{Keys}
use Rattle.cloak_model.specs.Opening.{Lack, RunEdge, key_count, drawn_keys, keys_for, place_programs, started_memory, started_joint, opening_items, opened_with, opened_by}
use Rattle.cloak_model.specs.Parts.{Joint, KernelPart, kernel_part}
use Rattle.cloak_model.specs.Resources.{Resources, Mapped}
use Rattle.cloak_model.specs.StoredFiles.{PageContent, FileContents}
use Rattle.kernel_isolation.proofs.Numbers.{AreFrom, set_number}

-- A file that found room.

-- the machine that gave a domain these resources, with the pages of a file as this resource
abbrev pub with_given_file : FileContents → Domain → Resources → ℕ → Joint → Joint
with_given_file f domain resources n j = record j {
  domains = slice_set j.domains f.domain (with_resources resources domain);
  memory = with_contents f.domain n 0 f.pages j.memory;
}

-- the resource that a domain makes or has for a file
abbrev pub file_made : FileContents → Domain → Mapped ℕ
file_made f domain = file_resource f.number (length f.pages) domain.control.resources

-- A file was added to its domain.
pub record IsGiven (f : FileContents) (j j' : Joint) : Type 0 where
  pub domain : Domain
  pub there : slice_get j.domains f.domain ≡ Some domain
  pub resource : ℕ
  pub answer : (file_made f domain).answer ≡ Ok resource
  pub is : with_given_file f domain (file_made f domain).resources resource j ≡ j'

given_by : (f : FileContents) (domain : Domain) (j j' : Joint) (made : Mapped ℕ) (answer : Result ℕ MapFault) →
    slice_get j.domains f.domain ≡ Some domain → file_made f domain ≡ made → made.answer ≡ answer →
    file_given f domain j answer made.resources ≡ Ok j' → IsGiven f j j'
unfolding file_given
given_by f domain j j' made (Err fault) there same found is = absurd cc
given_by f domain j j' made (Ok n) there same found is = record {
  domain = domain;
  there = there;
  resource = n;
  answer = ap (λ (x : Mapped ℕ). x.answer) same ∙ found;
  is = (let given : with_given_file f domain made.resources n j ≡ j' = cc in
      ap (λ (x : Mapped ℕ). with_given_file f domain x.resources n j) same ∙ given);
}

added_by : (f : FileContents) (j j' : Joint) (found : Option Domain) → slice_get j.domains f.domain ≡ found →
    file_added f j found ≡ Ok j' → IsGiven f j j'
unfolding file_added
added_by f j j' None there is = absurd cc
added_by f j j' (Some domain) there is = given_by f domain j j' (file_made f domain) _ there refl refl is

-- One after another.

-- what a chain ends with has a value before it
pub record Before {A B E : Type 0} (next : A → Result B E) (r : Result A E) (b : B) : Type 0 where
  pub value : A
  pub was : r ≡ Ok value
  pub then : next value ≡ Ok b

pub before : {A B E : Type 0} (next : A → Result B E) (r : Result A E) (b : B) → and_then next r ≡ Ok b →
    Before next r b
before next (Err e) b is = absurd cc
before next (Ok a) b is = record { value = a; was = refl; then = is }

-- Each file takes what holds before it, of the files that remain, to what holds after it.
pub files_carry : (P : List FileContents → Joint → Type 0) →
    ((f : FileContents) (rest : List FileContents) (x y : Joint) → IsGiven f x y → P (f ∷ rest) x → P rest y) →
    (files : List FileContents) (j j' : Joint) → files_added files j ≡ Ok j' → P files j → P [] j'
unfolding files_added
files_carry P each [] j j' is here = (let same : j ≡ j' = cc in subst (P []) same here)
files_carry P each (f ∷ files) j j' is here =
    let b = before (files_added files) (file_added f j (slice_get j.domains f.domain)) j' is in
    files_carry P each files b.value j' b.then
    (each f files j b.value (added_by f j b.value (slice_get j.domains f.domain) refl b.was) here)

-- what each file keeps all of them keep
pub files_keep : (P : Joint → Type 0) → ((f : FileContents) (x y : Joint) → IsGiven f x y → P x → P y) →
    (files : List FileContents) (j j' : Joint) → files_added files j ≡ Ok j' → P j → P j'
files_keep P each files j j' is here = files_carry (λ rest x. P x) (λ f rest x y given. each f x y given) files j j' is here

-- The memory.

-- All but the newest bytes of pages and what is recorded of them.
pub record KeepsMemory (m m' : CloakedMemory) : Type 0 where
  pub ram : m'.ram ≡ m.ram
  pub marks : m'.marks ≡ m.marks
  pub keys : m'.ledger.keys ≡ m.ledger.keys
  pub stream : m'.ledger.stream ≡ m.ledger.stream
  pub draws : m'.ledger.draws ≡ m.ledger.draws
  pub owed : m'.ledger.owed ≡ m.ledger.owed
  pub root : m'.ledger.root ≡ m.ledger.root
  pub missed : m'.ledger.missed ≡ m.ledger.missed
  pub clashed : m'.ledger.clashed ≡ m.ledger.clashed

pub memory_same : (m : CloakedMemory) → KeepsMemory m m
memory_same m = record {
  ram = refl;
  marks = refl;
  keys = refl;
  stream = refl;
  draws = refl;
  owed = refl;
  root = refl;
  missed = refl;
  clashed = refl;
}

pub memory_then : (m n o : CloakedMemory) → KeepsMemory m n → KeepsMemory n o → KeepsMemory m o
memory_then m n o first second = record {
  ram = second.ram ∙ first.ram;
  marks = second.marks ∙ first.marks;
  keys = second.keys ∙ first.keys;
  stream = second.stream ∙ first.stream;
  draws = second.draws ∙ first.draws;
  owed = second.owed ∙ first.owed;
  root = second.root ∙ first.root;
  missed = second.missed ∙ first.missed;
  clashed = second.clashed ∙ first.clashed;
}

content_keeps : (q : PageId) (c : Option PageContent) (m : CloakedMemory) → KeepsMemory m (with_content q c m)
content_keeps q None m = memory_same m
content_keeps q (Some c) m = record {
  ram = refl;
  marks = refl;
  keys = refl;
  stream = refl;
  draws = refl;
  owed = refl;
  root = refl;
  missed = refl;
  clashed = refl;
}

pub contents_keep : (d resource page : ℕ) (contents : List (Option PageContent)) (m : CloakedMemory) →
    KeepsMemory m (with_contents d resource page contents m)
unfolding with_contents
contents_keep d resource page [] m = memory_same m
contents_keep d resource page (c ∷ contents) m =
    let m' : CloakedMemory = with_content (record { domain = d; resource = resource; page = page }) c m in
    memory_then m m' _ (content_keeps _ c m) (contents_keep d resource (page + 1) contents m')

-- The domains.

-- All but the resources.
pub record KeepsDomain (was now : Domain) : Type 0 where
  pub number : now.control.number ≡ was.control.number
  pub contexts : now.control.contexts ≡ was.control.contexts
  pub ended : now.control.ended ≡ was.control.ended
  pub loads : now.loads ≡ was.loads

-- there are both or none
abbrev pub KeepsDomainIf : Option Domain → Option Domain → Type 0
KeepsDomainIf None None = Unit {0}
KeepsDomainIf None (Some now) = ⊥
KeepsDomainIf (Some was) None = ⊥
KeepsDomainIf (Some was) (Some now) = KeepsDomain was now

pub domain_same : (o : Option Domain) → KeepsDomainIf o o
domain_same None = tt
domain_same (Some d) = record { number = refl; contexts = refl; ended = refl; loads = refl }

pub domain_then : (a b c : Option Domain) → KeepsDomainIf a b → KeepsDomainIf b c → KeepsDomainIf a c
domain_then None None None first second = tt
domain_then None None (Some c) first second = second
domain_then None (Some b) c first second = absurd first
domain_then (Some a) None c first second = absurd first
domain_then (Some a) (Some b) None first second = second
domain_then (Some a) (Some b) (Some c) first second = record {
  number = second.number ∙ first.number;
  contexts = second.contexts ∙ first.contexts;
  ended = second.ended ∙ first.ended;
  loads = second.loads ∙ first.loads;
}

set_keeps : (domains : List Domain) (k n : ℕ) (was now : Domain) → slice_get domains k ≡ Some was →
    KeepsDomain was now → KeepsDomainIf (slice_get domains n) (slice_get (slice_set domains k now) n)
set_keeps [] k n was now there keeps = absurd cc
set_keeps (x ∷ domains) zero zero was now there keeps =
    (let same : x ≡ was = cc in subst (λ (d : Domain). KeepsDomain d now) (sym same) keeps)
set_keeps (x ∷ domains) zero (suc n) was now there keeps = domain_same (slice_get domains n)
set_keeps (x ∷ domains) (suc k) zero was now there keeps = domain_same (Some x)
set_keeps (x ∷ domains) (suc k) (suc n) was now there keeps = set_keeps domains k n was now there keeps

-- A domain after the files was there before them.
pub record WasThere (domains : List Domain) (n : ℕ) (now : Domain) : Type 0 where
  pub domain : Domain
  pub there : slice_get domains n ≡ Some domain
  pub keeps : KeepsDomain domain now

was_by : (domains : List Domain) (n : ℕ) (o o' : Option Domain) (now : Domain) → slice_get domains n ≡ o →
    KeepsDomainIf o o' → o' ≡ Some now → WasThere domains n now
was_by domains n None None now was keeps is = absurd cc
was_by domains n None (Some d') now was keeps is = absurd keeps
was_by domains n (Some d) None now was keeps is = absurd keeps
was_by domains n (Some d) (Some d') now was keeps is = record {
  domain = d;
  there = was;
  keeps = (let same : d' ≡ now = cc in subst (KeepsDomain d) same keeps);
}

-- The machine.

-- All but what files change.
pub record KeepsMachine (j j' : Joint) : Type 0 where
  pub harts : j'.harts ≡ j.harts
  pub disk : j'.disk ≡ j.disk
  pub console : j'.console ≡ j.console
  pub ended : j'.ended ≡ j.ended
  pub refused : j'.refused ≡ j.refused
  pub memory : KeepsMemory j.memory j'.memory
  pub count : length j'.domains ≡ length j.domains
  pub domains : (n : ℕ) → KeepsDomainIf (slice_get j.domains n) (slice_get j'.domains n)

-- a domain that there is after files was there before them
pub was_there : (j j' : Joint) (n : ℕ) (now : Domain) → KeepsMachine j j' → slice_get j'.domains n ≡ Some now →
    WasThere j.domains n now
was_there j j' n now keeps is =
    was_by j.domains n (slice_get j.domains n) (slice_get j'.domains n) now refl (keeps.domains n) is

machine_same : (j : Joint) → KeepsMachine j j
machine_same j = record {
  harts = refl;
  disk = refl;
  console = refl;
  ended = refl;
  refused = refl;
  memory = memory_same j.memory;
  count = refl;
  domains = λ n. domain_same (slice_get j.domains n);
}

machine_then : (a b c : Joint) → KeepsMachine a b → KeepsMachine b c → KeepsMachine a c
machine_then a b c first second = record {
  harts = second.harts ∙ first.harts;
  disk = second.disk ∙ first.disk;
  console = second.console ∙ first.console;
  ended = second.ended ∙ first.ended;
  refused = second.refused ∙ first.refused;
  memory = memory_then a.memory b.memory c.memory first.memory second.memory;
  count = second.count ∙ first.count;
  domains = λ n. domain_then (slice_get a.domains n) (slice_get b.domains n) (slice_get c.domains n) (first.domains n)
      (second.domains n);
}

-- one file
pub given_keeps : (f : FileContents) (j j' : Joint) → IsGiven f j j' → KeepsMachine j j'
given_keeps f j j' given =
    let now : Domain = with_resources (file_made f given.domain).resources given.domain in
    subst (KeepsMachine j) given.is
    (record {
      harts = refl;
      disk = refl;
      console = refl;
      ended = refl;
      refused = refl;
      memory = contents_keep f.domain given.resource 0 f.pages j.memory;
      count = length-set j.domains f.domain now;
      domains = λ n. set_keeps j.domains f.domain n given.domain now given.there
          (record { number = refl; contexts = refl; ended = refl; loads = refl });
    })

-- all of them
pub added_keep : (files : List FileContents) (j j' : Joint) → files_added files j ≡ Ok j' → KeepsMachine j j'
added_keep files j j' is =
    files_keep (KeepsMachine j) (λ f x y given keeps. machine_then j x y keeps (given_keeps f x y given)) files j j' is
    (machine_same j)

-- the programs keep their numbers
given_programs : (f : FileContents) (j j' : Joint) → IsGiven f j j' → AreFrom 0 j.domains → AreFrom 0 j'.domains
given_programs f j j' given from =
    subst (λ (x : Joint). AreFrom 0 x.domains) given.is
    (set_number f.domain j.domains given.domain _ from given.there refl)

pub added_programs : (files : List FileContents) (j j' : Joint) → files_added files j ≡ Ok j' → AreFrom 0 j.domains →
    AreFrom 0 j'.domains
added_programs files j j' is from = files_keep (λ (x : Joint). AreFrom 0 x.domains) given_programs files j j' is from

-- the kernel's part, of its fields
abbrev part_of_fields : List Hart → List (List ℕ) → List ℕ → List ℕ → List (Option ℕ) → KernelPart
part_of_fields harts ram disk console marks =
    record { harts = harts; ram = ram; disk = disk; console = console; marks = marks }

-- the kernel's part stays
pub same_part : (j j' : Joint) → KeepsMachine j j' → kernel_part j' ≡ kernel_part j
same_part j j' keeps =
    let m : CloakedMemory = j.memory in
    let m' : CloakedMemory = j'.memory in
    ap (λ (harts : List Hart). part_of_fields harts m'.ram j'.disk j'.console m'.marks) keeps.harts
    ∙ (ap (λ (ram : List (List ℕ)). part_of_fields j.harts ram j'.disk j'.console m'.marks) keeps.memory.ram
    ∙ (ap (λ (disk : List ℕ). part_of_fields j.harts m.ram disk j'.console m'.marks) keeps.disk
    ∙ (ap (λ (console : List ℕ). part_of_fields j.harts m.ram j.disk console m'.marks) keeps.console
    ∙ ap (part_of_fields j.harts m.ram j.disk j.console) keeps.memory.marks)))

-- How a run is opened.

-- the keys of a fresh beginning are its first draws
pub record DrawsKeys (b : Bundle) (stream : Random) (keys : Keys) (rest : Random) : Type 0 where
  pub drawn : List (List ℕ)
  pub draws : drawn_keys (key_count b.programs) stream ≡ Some (drawn, rest)
  pub are : keys ≡ keys_for b.programs drawn

-- those of another are handed in
pub record HandsKeys (b : Bundle) (handed : List (List ℕ)) (stream : Random) (keys : Keys) (rest : Random) : Type 0 where
  pub are : keys ≡ stored_keys b handed
  pub stays : rest ≡ stream

-- a beginning with these keys, and this stream after them
abbrev pub HasKeys : Bundle → Beginning → Keys → Random → Type 0
HasKeys b (Fresh stream) keys rest = DrawsKeys b stream keys rest
HasKeys b (Stored handed stream files) keys rest = HandsKeys b handed stream keys rest

-- its files: none of a fresh one
abbrev pub files_of : Beginning → List FileContents
files_of (Fresh stream) = []
files_of (Stored keys stream files) = files

-- The programs' pages are placed, and then the files are added.
pub record OpensOver (b : Bundle) (from : Beginning) (o : RunEdge) : Type 0 where
  pub keys : Keys
  pub stream : Random
  pub has_keys : HasKeys b from keys stream
  pub memory : CloakedMemory
  pub placed : place_programs 0 b.programs (started_memory b.kernel keys stream) ≡ Some memory
  pub added : files_added (files_of from) (started_joint b memory) ≡ Ok o.joint
  pub items : o.items ≡ opening_items b.programs memory.ram

fresh_over : (b : Bundle) (stream rest : Random) (keys : Keys) (has : DrawsKeys b stream keys rest)
    (memory : Option CloakedMemory) (o : RunEdge) → place_programs 0 b.programs (started_memory b.kernel keys rest) ≡ memory →
    opened_with b memory ≡ Ok o → OpensOver b (Fresh stream) o
unfolding opened_with files_added
fresh_over b stream rest keys has None o placed opens = absurd cc
fresh_over b stream rest keys has (Some m) o placed opens =
    (let same : record { joint = started_joint b m; items = opening_items b.programs m.ram } ≡ o = cc in
    record {
      keys = keys;
      stream = rest;
      has_keys = has;
      memory = m;
      placed = placed;
      added = ap (λ (x : RunEdge). let r : Result Joint Lack = Ok x.joint in r) same;
      items = ap (λ (x : RunEdge). x.items) (sym same);
    })

drawn_over : (b : Bundle) (stream : Random) (draw : Option (List (List ℕ) × Random)) (o : RunEdge) →
    drawn_keys (key_count b.programs) stream ≡ draw → opened_by b draw ≡ Ok o → OpensOver b (Fresh stream) o
unfolding opened_by
drawn_over b stream None o drawn opens = absurd cc
drawn_over b stream (Some draw) o drawn opens =
    fresh_over b stream draw.1 (keys_for b.programs draw.0) (record { drawn = draw.0; draws = drawn; are = refl }) _ o refl
    opens

none_opens : (r : Result Joint Lack) (lack : Lack) (o : RunEdge) →
    and_then (λ (j : Joint). let none : Result RunEdge Lack = Err lack in none) r ≡ Ok o → ⊥
none_opens (Err e) lack o opens = absurd cc
none_opens (Ok j) lack o opens = absurd cc

stored_over : (b : Bundle) (handed : List (List ℕ)) (stream : Random) (files : List FileContents) (bare : Joint)
    (memory : Option CloakedMemory) (o : RunEdge) →
    place_programs 0 b.programs (started_memory b.kernel (stored_keys b handed) stream) ≡ memory →
    opened_over b files bare memory ≡ Ok o → OpensOver b (Stored handed stream files) o
unfolding opened_over
stored_over b handed stream files bare None o placed opens = absurd (none_opens (files_added files bare) _ o opens)
stored_over b handed stream files bare (Some m) o placed opens =
    (let next : Joint → Result RunEdge Lack =
    λ j. Ok (record { joint = j; items = opening_items b.programs m.ram }) in
    let made = before next (files_added files (started_joint b m)) o opens in
    let last = made.then in
    let same : record { joint = made.value; items = opening_items b.programs m.ram } ≡ o = cc in
    record {
      keys = stored_keys b handed;
      stream = stream;
      has_keys = record { are = refl; stays = refl };
      memory = m;
      placed = placed;
      added = made.was ∙ ap (λ (x : RunEdge). let r : Result Joint Lack = Ok x.joint in r) same;
      items = ap (λ (x : RunEdge). x.items) (sym same);
    })

pub opens_over : (b : Bundle) (from : Beginning) (o : RunEdge) → opening_from b from ≡ Ok o → OpensOver b from o
unfolding opening_stored
opens_over b (Fresh stream) o opens = drawn_over b stream (drawn_keys (key_count b.programs) stream) o refl opens
opens_over b (Stored keys stream files) o opens =
    let m : CloakedMemory = started_memory b.kernel (stored_keys b keys) stream in
    stored_over b keys stream files (started_joint b m) (place_programs 0 b.programs m) o refl opens
