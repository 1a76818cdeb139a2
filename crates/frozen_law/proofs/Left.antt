-- What a run leaves of its files can be told by a table, and is sealed under the keys of the run.
use Rattle.std.proofs.Common.{◌≡◌, ◌≢◌, ◌∙◌, ℕ, zero, suc, ◌+◌, ◌<◌, ◌≤◌, ◌%◌, Bool, true, false, cond, List, [], ◌∷◌, length, map, slice_get, slice_index, slice_index_or, take, Option, Some, None, IfSome, All, Ok, refl, sym, ap, subst, arith}
use Rattle.std.specs.Prelude.{IsSomeAnd, option_map, sum_by}
use Rattle.std.specs.Int.{byte_at, bytes_high_first, to_be_bytes, w32}
use Rattle.std.specs.List.{AllByRecursion}
use Rattle.std.proofs.lemmas.List.{length-map}
use Rattle.std.proofs.lemmas.List.Elements.{All-append, All-from_recursion, All-nil}
use Rattle.std.proofs.lemmas.List.Sums.{sum_by-cons}
use Rattle.std.proofs.lemmas.Option.{slice_get_within}
use Rattle.sha2.specs.Sha256 as hash
use Rattle.sha2.specs.Sha256.{digest_bytes, sha256}
use Rattle.sha2.proofs.Facts256.{length-sha256}
use Rattle.aes_block.specs.Bytes.{IsBytes}
use Rattle.cloak_base.specs.Random.{Random}
use Rattle.cloak_base.specs.declared.causes.Stop.{Stop}
use Rattle.cloak_base.specs.declared.causes.Stop.TheVariants as stop
use Rattle.cloak_base.specs.declared.names.PageId.{PageId}
use Rattle.cause_law.proofs.Closed.{closing_owes_nothing}
use Rattle.chain_law.proofs.Contents.{pages_length}
use Rattle.chain_law.proofs.ZeroRuns.{closed_is}
use Rattle.cloak_model.proofs.Offering.{settle_keeps}
use Rattle.cloak_model.specs.declared.image.Bundle.{Bundle}
use Rattle.cloak_model.specs.declared.resource.Owner.{Owner}
use Rattle.cloak_model.specs.declared.resource.Owner.TheVariants.{File, Space}
use Rattle.cloak_model.specs.declared.resource.Resource.{Resource}
use Rattle.cloak_model.specs.Beginning.{AreContents, Beginning, Fresh, Stored, opening_from}
use Rattle.cloak_model.specs.Bundle.{IsInGrammar}
use Rattle.cloak_model.specs.Chain.{cbc}
use Rattle.cloak_model.specs.Cloaking.{CloakedMemory, settle, settle_owed}
use Rattle.cloak_model.specs.DomainState.{Domain}
use Rattle.cloak_model.specs.Joint.{cloak_outside, hart_in}
use Rattle.cloak_model.specs.Ledger.{Keys, domain_key, key_of, next_vector}
use Rattle.cloak_model.specs.Opening.{RunEdge, drawn_keys, key_count, keys_for, numbers_below}
use Rattle.cloak_model.specs.Parts.{Joint}
use Rattle.cloak_model.specs.Resources.{Resources, pages_of}
use Rattle.cloak_model.specs.Run.{Run, closing, run_from, run_of, settled_below}
use Rattle.cloak_model.specs.Sealing.{Chained, Sealing, sealed_by}
use Rattle.cloak_model.specs.StoredFiles.{FileContents, HasSealedPages, IsFile, IsMetaIfKnown, IsSealedIfShown, PageContent, meta_of, stored_file}
use Rattle.cloak_model.specs.StoredRun.{content_of, contents_of, file_in, file_owned, files_in, shown_content}
use Rattle.cloak_model.specs.World.{MidStep}
use Rattle.frozen_state.specs.Words.{AreFileWords, HasOwnerWord}
use Rattle.kernel_isolation.proofs.Isolated.{of_opened}
use Rattle.kernel_isolation.specs.Isolation.{joint_until}
use Rattle.limit_law.proofs.FileRuns.{runs_have_file_words}
use Rattle.limit_law.proofs.Runs.{runs_keep_limits}
use Rattle.range_law.proofs.Beginnings.{is_beginning}
use Rattle.range_law.specs.Writing.{IsBeginningOfBytes, IsOfBytes}
use Rattle.resource_map.specs.Kept.{IsHeld, IsSound}
use Rattle.frozen_law.specs.Left.{RunsEndWithKeys, RunsLeaveContents}
use Rattle.frozen_law.specs.Records.{RecordsTell}
use Rattle.frozen_law.specs.Streams.{HasKeysFrom}
use Rattle.frozen_law.proofs.LeftTables.{AreSound, each_file, each_left, left_table}
use Rattle.frozen_law.proofs.Pages.{pages_are_whole}
use Rattle.frozen_law.proofs.RecordRuns.{records_tell_pages}
use Rattle.frozen_law.proofs.Records.{settle_tell}
use Rattle.frozen_law.proofs.Sizes.{runs_keep_sizes}
use Rattle.frozen_law.proofs.Streams.{runs_keep_keys}
use Rattle.frozen_law.proofs.Vectors.{VectorsFit, settle_fits, vectors_fit}

-- Pages.

-- A digest is of bytes.

remainder_low : (n : ℕ) → n % 256 < 256
remainder_low n = omega arith

byte_low : (k n : ℕ) → byte_at k n < 256
byte_low zero n = remainder_low n
byte_low (suc k) n = remainder_low _

high_first : (k n : ℕ) → AllByRecursion (λ b. b < 256) (bytes_high_first k n)
high_first zero n = tt
high_first (suc k) n = (byte_low k n, high_first k n)

words_high_first : (h : List ℕ) (n : ℕ) → All (λ b. b < 256) (digest_bytes h n)
unfolding hash.digest_bytes
words_high_first h zero = All-nil (λ b. b < 256)
words_high_first h (suc n) =
    All-append (λ b. b < 256) (digest_bytes h n) (to_be_bytes w32 (slice_index h n)) (words_high_first h n)
    (All-from_recursion (λ b. b < 256) (to_be_bytes w32 (slice_index h n)) (high_first 4 (slice_index h n)))

digest_fits : (m : List ℕ) → IsBytes 32 (sha256 m)
unfolding hash.sha256
digest_fits m = record { long = length-sha256 m; bytes = words_high_first _ 8 }

-- What is known of the pages of a memory that is closed.
record PagesLeft (m : CloakedMemory) : Type 0 where
  pub whole : (q : PageId) → IsBytes 4096 (m.plain q)
  pub vectors : (q : PageId) → IfSome (m.ledger.iv q) (IsBytes 16)
  pub sealed : (q : PageId) (c iv : List ℕ) → m.ledger.recorded q ≡ Some c → m.ledger.iv q ≡ Some iv →
      c ≡ cbc (key_of m.ledger q) iv (m.plain q)

-- a page that is told, and sealed under this key
abbrev IsPageLeft : List ℕ → Option PageContent → Type 0
IsPageLeft key c = IsSealedIfShown key c × IsMetaIfKnown (option_map meta_of c)

page_by : (key plain : List ℕ) (recorded iv : Option (List ℕ)) → IsBytes 4096 plain → IfSome iv (IsBytes 16) →
    ((c v : List ℕ) → recorded ≡ Some c → iv ≡ Some v → c ≡ cbc key v plain) →
    IsPageLeft key (shown_content plain recorded iv)
page_by key plain None iv whole block sealed = (tt, tt)
page_by key plain (Some c) None whole block sealed = (tt, tt)
page_by key plain (Some c) (Some v) whole block sealed = (
  record { plain = whole; cipher = sealed c v refl refl },
  record { iv = block; digest = digest_fits c },
)

page_left : (m : CloakedMemory) → PagesLeft m → (q : PageId) →
    IsPageLeft (domain_key m.ledger.keys q.domain) (content_of m q)
page_left m left q =
    page_by (key_of m.ledger q) (m.plain q) (m.ledger.recorded q) (m.ledger.iv q) (left.whole q) (left.vectors q)
    (left.sealed q)

-- Files.

-- a file of a table, whose pages are sealed
abbrev IsFileLeft : Keys → FileContents → Type 0
IsFileLeft keys f = IsFile (stored_file f) × HasSealedPages keys f

all_mapped : {A B : Type 0} (P : B → Type 0) (g : A → B) (xs : List A) → ((x : A) → P (g x)) →
    AllByRecursion P (map g xs)
all_mapped P g [] each = tt
all_mapped P g (x ∷ xs) each = (each x, all_mapped P g xs each)

all_twice : {A B C : Type 0} (P : C → Type 0) (g : A → B) (h : B → C) (xs : List A) → ((x : A) → P (h (g x))) →
    AllByRecursion P (map h (map g xs))
all_twice P g h [] each = tt
all_twice P g h (x ∷ xs) each = (each x, all_twice P g h xs each)

owned_left : (m : CloakedMemory) → PagesLeft m → (d n pages : ℕ) (owner : Owner) → d < 4 → 1 ≤ pages → pages ≤ 1024 →
    HasOwnerWord owner → AllByRecursion (IsFileLeft m.ledger.keys) (file_owned m d n pages owner)
owned_left m left d n pages (Space space) low some few word = tt
owned_left m left d n pages (File number) low some few word =
    let page : ℕ → Option PageContent = λ k. content_of m (record { domain = d; resource = n; page = k }) in
    let good = λ (k : ℕ). page_left m left (record { domain = d; resource = n; page = k }) in
    let count = pages_length page pages in
    let same = length-map (map page (numbers_below pages)) (option_map meta_of) in (
      (
        record {
          domain = low;
          number = word;
          some_pages = omega (arith, same, count, some);
          few_pages = omega (arith, same, count, few);
          pages = All-from_recursion IsMetaIfKnown (map (option_map meta_of) (map page (numbers_below pages)))
              (all_twice IsMetaIfKnown page (option_map meta_of) (numbers_below pages) (λ k. (good k).1));
        },
        All-from_recursion (IsSealedIfShown (domain_key m.ledger.keys d)) (map page (numbers_below pages))
            (all_mapped (IsSealedIfShown (domain_key m.ledger.keys d)) page (numbers_below pages) (λ k. (good k).0)),
      ),
      tt,
    )

held_left : (m : CloakedMemory) → PagesLeft m → (d n : ℕ) (x : Option Resource) → d < 4 → IfSome x (λ held. 1 ≤ held.pages) →
    pages_of x ≤ 1024 → IfSome x (λ held. HasOwnerWord held.owner) →
    AllByRecursion (IsFileLeft m.ledger.keys) (file_in m d n x)
held_left m left d n None low some few word = tt
held_left m left d n (Some held) low some few word = owned_left m left d n held.pages held.owner low some few word

-- a resource has no more pages than all
one_of_all : (held : List (Option Resource)) (i : ℕ) → pages_of (slice_index_or held i None) ≤ sum_by pages_of held
one_of_all [] i = omega arith
one_of_all (x ∷ held) zero = let more = sum_by-cons pages_of x held in omega (arith, more)
one_of_all (x ∷ held) (suc i) =
    let more = sum_by-cons pages_of x held in let rest = one_of_all held i in omega (arith, more, rest)

some_pages : (r : Resources) (x : Option Resource) → IfSome x (IsHeld r) → IfSome x (λ held. 1 ≤ held.pages)
some_pages r None is = tt
some_pages r (Some held) is = is.0

program_left : (m : CloakedMemory) → PagesLeft m → (d : ℕ) (r : Resources) → d < 4 → IsSound r → AreFileWords r →
    AllByRecursion (IsFileLeft m.ledger.keys) (files_in m d 0 r.held)
program_left m left d r low sound words =
    each_file m d (IsFileLeft m.ledger.keys) 0 r.held (λ i.
    let all = one_of_all r.held i in
    let few = sound.few in
    held_left m left d (0 + i) (slice_index_or r.held i None) low (some_pages r (slice_index_or r.held i None) (sound.held i))
    (omega (arith, all, few)) (words i))

-- The closing.

below_keeps : (P : CloakedMemory → Type 0) → ((f : ℕ) (m : CloakedMemory) → P m → P (settle f m).memory) → (n : ℕ)
    (c : MidStep) → P c.memory → P (settled_below n c).memory
unfolding settled_below
below_keeps P keeps zero c here = here
below_keeps P keeps (suc n) c here = keeps n (settled_below n c).memory (below_keeps P keeps n c here)

closing_keeps : (P : CloakedMemory → Type 0) → ((f : ℕ) (m : CloakedMemory) → P m → P (settle f m).memory) → (j : Joint) →
    P j.memory → P (closing j).joint.memory
unfolding closing
closing_keeps P keeps j here = below_keeps P keeps (length j.memory.ram) (cloak_outside j.memory (hart_in j 0)) here

-- settling leaves newest bytes and keys
record LeavesBytes (m n : CloakedMemory) : Type 0 where
  pub plain : n.plain ≡ m.plain
  pub keys : n.ledger.keys ≡ m.ledger.keys

owed_leaves : (f : ℕ) (q : PageId) (draw : Option (List ℕ × Random)) (m n : CloakedMemory) → LeavesBytes m n →
    LeavesBytes m (settle_owed f q draw n).memory
unfolding settle_owed
owed_leaves f q None m n here = record { plain = here.plain; keys = here.keys }
owed_leaves f q (Some draw) m n here = record { plain = here.plain; keys = here.keys }

settle_leaves : (m : CloakedMemory) (f : ℕ) (n : CloakedMemory) → LeavesBytes m n → LeavesBytes m (settle f n).memory
settle_leaves m f n here =
    settle_keeps (LeavesBytes m) (λ g q x is there. owed_leaves g q (next_vector x.ledger) m x there) f n here

closing_leaves : (j : Joint) → LeavesBytes j.memory (closing j).joint.memory
closing_leaves j = closing_keeps (LeavesBytes j.memory) (settle_leaves j.memory) j (record { plain = refl; keys = refl })

closing_domains : (j : Joint) → (closing j).joint.domains ≡ j.domains
unfolding closing
closing_domains j = refl

-- No draw was missing.

not_missed : (missed : Bool) (s : Stop) → cond missed stop.NoRandom s ≢ stop.NoRandom → missed ≡ false
not_missed true s other = absurd (other refl)
not_missed false s other = refl

abbrev DrawnIf : Run → Type 0
DrawnIf r = r.stop ≢ stop.NoRandom → r.closed.joint.memory.ledger.missed ≡ false

drawn_so : (b : Bundle) (budget : ℕ) (o : RunEdge) → DrawnIf (run_of b budget o)
unfolding run_of
drawn_so b budget o other = not_missed _ _ other

-- Keys.

some_wide : {A : Type 0} (P Q : A → Type 0) (o : Option A) → ((a : A) → P a → Q a) → IsSomeAnd o P → IsSomeAnd o Q
some_wide P Q None wide here = here
some_wide P Q (Some a) wide here = wide a here

some_then : {A : Type 0} {Q : Type 0} (P : A → Type 0) (o : Option A) → ((a : A) → P a → Q) → IsSomeAnd o P → Q
some_then P None next here = absurd here
some_then P (Some a) next here = next a here

keys_as : (b : Bundle) (from : Beginning) (m n : CloakedMemory) → n.ledger.keys ≡ m.ledger.keys →
    HasKeysFrom b from m.ledger → HasKeysFrom b from n.ledger
keys_as b (Fresh stream) m n same has =
    some_wide _ _ (drawn_keys (key_count b.programs) stream) (λ drawn is. same ∙ is) has
keys_as b (Stored keys stream files) m n same has = same ∙ has

chained_by : (b : Bundle) (from : Beginning) (m : CloakedMemory) → HasKeysFrom b from m.ledger →
    m.ledger.keys.seal ≡ Chained
chained_by b (Fresh stream) m has =
    some_then (λ (drawn : List (List ℕ) × Random). m.ledger.keys ≡ keys_for b.programs drawn.0)
    (drawn_keys (key_count b.programs) stream) (λ drawn is. ap (λ (k : Keys). k.seal) is) has
chained_by b (Stored keys stream files) m has = ap (λ (k : Keys). k.seal) has

pub runs_end_with_keys : RunsEndWithKeys
runs_end_with_keys b from budget r is =
    let j : Joint = joint_until (length r.turns) r in
    subst (λ (o : RunEdge). HasKeysFrom b from o.joint.memory.ledger) (sym (closed_is b from budget r is))
    (keys_as b from j.memory (closing j).joint.memory (closing_leaves j).keys
    (runs_keep_keys b from budget r is (length r.turns)))

-- The run.

none_some : (q : PageId) (o : Option PageId) → o ≡ None → o ≢ Some q
none_some q o none is = let clash : None ≡ Some q = sym none ∙ is in absurd cc

by_index : (P : Domain → Type 0) (domains : List Domain) → ((i : ℕ) (x : Domain) → slice_get domains i ≡ Some x → P x) →
    AllByRecursion P domains
by_index P [] each = tt
by_index P (x ∷ domains) each = (each 0 x refl, by_index P domains (λ i y there. each (suc i) y there))

module _ (b : Bundle) (from : Beginning) (budget : ℕ) (r : Run) (grammar : IsInGrammar b) (bytes : IsOfBytes b)
    (all : IsBeginningOfBytes b from) (is : run_from b from budget ≡ Ok r) (other : r.stop ≢ stop.NoRandom)
  where
    pages_at_end : PagesLeft r.closed.joint.memory
    pages_at_end =
        let j : Joint = joint_until (length r.turns) r in
        let n = length r.turns in
        let at : r.closed ≡ closing j = closed_is b from budget r is in
        let leaves = closing_leaves j in
        let tells : RecordsTell r.closed.joint.memory =
        subst (λ (o : RunEdge). RecordsTell o.joint.memory) (sym at)
        (closing_keeps RecordsTell settle_tell j (records_tell_pages b from budget r (is_beginning b from all) is n)) in
        let drawn = of_opened b budget DrawnIf (opening_from b from) r is (λ o opens. drawn_so b budget o) other in
        let chained = chained_by b from r.closed.joint.memory (runs_end_with_keys b from budget r is) in
        record {
          whole = λ q. subst (λ (o : RunEdge). IsBytes 4096 (o.joint.memory.plain q)) (sym at)
              (subst (λ (plain : PageId → List ℕ). IsBytes 4096 (plain q)) (sym leaves.plain)
              (pages_are_whole b from budget r grammar bytes all is n q));
          vectors = λ q. subst (λ (o : RunEdge). IfSome (o.joint.memory.ledger.iv q) (IsBytes 16)) (sym at)
              ((closing_keeps VectorsFit settle_fits j (vectors_fit b from budget r all is n)).vectors q);
          sealed = λ q c iv recorded vector.
              tells drawn q c iv (λ f. none_some q _ (closing_owes_nothing b from budget r is f)) recorded vector
              ∙ ap (λ (s : Sealing). sealed_by s (key_of r.closed.joint.memory.ledger q) iv (r.closed.joint.memory.plain q))
              chained;
        }

    domains_at_end : r.closed.joint.domains ≡ (joint_until (length r.turns) r).domains
    domains_at_end =
        ap (λ (o : RunEdge). o.joint.domains) (closed_is b from budget r is)
        ∙ closing_domains (joint_until (length r.turns) r)

    files_at_end : AllByRecursion (IsFileLeft r.closed.joint.memory.ledger.keys) (contents_of r.closed.joint)
    files_at_end =
        let n = length r.turns in
        let j : Joint = joint_until n r in
        each_left r.closed.joint.memory (IsFileLeft r.closed.joint.memory.ledger.keys) 0 r.closed.joint.domains
        (λ i program there.
        let here : slice_get j.domains i ≡ Some program =
        ap (λ (domains : List Domain). slice_get domains i) (sym domains_at_end) ∙ there in
        let within = slice_get_within j.domains i program here in
        let count = (runs_keep_sizes b from budget r grammar is n).programs in
        let four = grammar.few_programs in
        program_left r.closed.joint.memory pages_at_end (0 + i) program.control.resources
        (omega (arith, within, count, four)) (runs_keep_limits b from budget r grammar is n i program here).resources
        (runs_have_file_words b from budget r grammar bytes all is n i program here))

    programs_at_end : AllByRecursion (λ (x : Domain). AreSound x.control.resources.held) r.closed.joint.domains
    programs_at_end =
        let n = length r.turns in
        let j : Joint = joint_until n r in
        by_index (λ (x : Domain). AreSound x.control.resources.held) r.closed.joint.domains
        (λ i program there.
        let here : slice_get j.domains i ≡ Some program =
        ap (λ (domains : List Domain). slice_get domains i) (sym domains_at_end) ∙ there in
        let sound = (runs_keep_limits b from budget r grammar is n i program here).resources in
        record { numbers = sound.numbers; few = sound.few; once = sound.files })

    pub contents_at_end : AreContents r.closed.joint.memory.ledger.keys (contents_of r.closed.joint)
    contents_at_end =
        let n = length r.turns in
        let count = (runs_keep_sizes b from budget r grammar is n).programs in
        let four = grammar.few_programs in
        let same = ap length domains_at_end in
        let keys = r.closed.joint.memory.ledger.keys in
        let files = contents_of r.closed.joint in
        record {
          table = left_table r.closed.joint.memory r.closed.joint.domains (omega (arith, same, count, four)) programs_at_end
              (each_of (λ (f : FileContents). IsFile (stored_file f)) (λ f good. good.0) files files_at_end);
          sealed = All-from_recursion (HasSealedPages keys) files
              (each_of (HasSealedPages keys) (λ f good. good.1) files files_at_end);
        }
      where
        each_of : (P : FileContents → Type 0) →
            ((f : FileContents) → IsFileLeft r.closed.joint.memory.ledger.keys f → P f) → (files : List FileContents) →
            AllByRecursion (IsFileLeft r.closed.joint.memory.ledger.keys) files → AllByRecursion P files
        each_of P take [] all = tt
        each_of P take (f ∷ files) all = (take f all.0, each_of P take files all.1)

pub runs_leave_contents : RunsLeaveContents
runs_leave_contents = contents_at_end
