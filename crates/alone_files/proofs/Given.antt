-- Pages and files that are given one after another.
use Rattle.std.proofs.Common.{◌≡◌, ◌≢◌, ◌∙◌, ◌<◌, ◌+◌, ◌==◌, ℕ, Bool, true, false, List, [], ◌∷◌, ◌++◌, length, length-append, slice_index_or, Option, Some, None, Result, Ok, Err, refl, ap, sym, subst, arith, inl, inr}
use Rattle.std.specs.Prelude.{is_some, IsErr}
use Rattle.std.proofs.lemmas.Bool.{cases_lt}
use Rattle.std.proofs.lemmas.Bool.Decides.{Decides-eqb}
use Rattle.std.proofs.lemmas.List.{get_or_append_left}
use Rattle.std.proofs.Math.Seq.{get_or-append_seam}
use Rattle.cloak_base.specs.declared.names.Meta.{Meta}
use Rattle.cloak_base.proofs.Pages.{told}
use Rattle.cloak_model.specs.declared.resource.MapFault.{MapFault}
use Rattle.cloak_model.specs.DomainAlone.{with_file, with_files, with_given, with_given_pages}
use Rattle.cloak_model.specs.Files.{file_resource}
use Rattle.cloak_model.specs.Parts.{DomainPart}
use Rattle.cloak_model.specs.StoredFiles.{FileContents, PageContent, StoredFile}
use Rattle.alone_views.specs.DomainBeginning.{AddsFile, BeginsWith}
use Rattle.alone_views.specs.declared.domain.DomainAlone.{DomainAlone}
use Rattle.alone_files.specs.Found.{AreFoundFiles, AreFoundPages, AreWhole, AreWholeFiles, IsFoundFile, IsFoundPage, IsWholeFile, no_contents, no_file}
use Rattle.alone_files.specs.Giving.{Becomes, Gives, GivesFile, GivesFiles, GivesOne, GivesPage, GivesPages, with_pages}
use Rattle.alone_files.specs.declared.giving.FilesFault.{FilesFault}
use Rattle.alone_files.specs.declared.giving.FilesFault.TheVariants.{NoMemory, NoRoom}

-- What stands at a place of a list with one element more.

at_left : {A : Type 0} (xs : List A) (x d : A) (n k : ℕ) → length xs ≡ n → k < n → slice_index_or (xs ++ x ∷ []) k d ≡ slice_index_or xs k d
at_left {A} xs x d n k long low = get_or_append_left xs (x ∷ []) d k (omega (arith, long, low))

at_last : {A : Type 0} (xs : List A) (x d : A) (n : ℕ) → length xs ≡ n → slice_index_or (xs ++ x ∷ []) n d ≡ x
at_last {A} xs x d n long = ap (λ (k : ℕ). slice_index_or (xs ++ x ∷ []) k d) (sym long) ∙ get_or-append_seam xs x [] d

one_longer : {A : Type 0} (xs : List A) (x : A) (n : ℕ) → length xs ≡ n → length (xs ++ x ∷ []) ≡ n + 1
one_longer {A} xs x n long = omega (arith, length-append xs (x ∷ []), long)

-- Pages.

pages_more : (resource s at : ℕ) (contents : List (Option PageContent)) (c : Option PageContent) (plain : ℕ → ℕ → List ℕ) →
    at ≡ s + length contents →
    with_given_pages resource s (contents ++ c ∷ []) plain
    ≡ with_given_pages resource at (c ∷ []) (with_given_pages resource s contents plain)
unfolding with_given_pages
pages_more resource s at [] c plain is =
    ap (λ (k : ℕ). with_given_pages resource k (c ∷ []) plain) (let here : s ≡ at = omega (arith, is) in here)
pages_more resource s at (None ∷ contents) c plain is =
    pages_more resource (s + 1) at contents c plain (omega (arith, is))
pages_more resource s at (Some x ∷ contents) c plain is =
    pages_more resource (s + 1) at contents c _ (omega (arith, is))

pub no_pages : {key disk : List ℕ} {known : List (Option Meta)} {resource : ℕ} {program : DomainAlone} →
    GivesPages key disk 0 known resource program program true
unfolding with_given_pages
no_pages {key} {disk} {known} {resource} {program} = record {
  contents = [];
  found = record { count = refl; each = λ k low. absurd (omega (arith, low)) };
  whole_so = λ k low. absurd (omega (arith, low));
  becomes = λ d schedule p begins. begins;
}

-- each page is as it was found, with one more
found_more : {key disk : List ℕ} {n : ℕ} {known : List (Option Meta)} {contents : List (Option PageContent)}
    (c : Option PageContent) → AreFoundPages key disk n known contents →
    IsFoundPage key disk (slice_index_or known n None) c → AreFoundPages key disk (n + 1) known (contents ++ c ∷ [])
found_more {key} {disk} {n} {known} {contents} c found one = record {
  count = one_longer contents c n found.count;
  each = λ k low. elim (cases_lt k n) [
    | inl less ↦ subst (λ (x : Option PageContent). IsFoundPage key disk (slice_index_or known k None) x)
        (sym (at_left contents c None n k found.count less)) (found.each k less)
    | inr more ↦
        let here : k ≡ n = omega (arith, low, more) in
        rw here (subst (λ (x : Option PageContent). IsFoundPage key disk (slice_index_or known n None) x)
        (sym (at_last contents c None n found.count)) one)
  ];
}

whole_more : (n : ℕ) (known : List (Option Meta)) (contents : List (Option PageContent)) (c : Option PageContent) →
    length contents ≡ n → is_some c ≡ is_some (slice_index_or known n None) → AreWhole true n known contents →
    AreWhole true (n + 1) known (contents ++ c ∷ [])
whole_more n known contents c long same whole = λ k low. elim (cases_lt k n) [
  | inl less ↦ ap (λ (x : Option PageContent). is_some x) (at_left contents c None n k long less) ∙ whole k less
  | inr more ↦
      let here : k ≡ n = omega (arith, low, more) in
      rw here (ap (λ (x : Option PageContent). is_some x) (at_last contents c None n long) ∙ same)
]

lacking_more : (n : ℕ) (known : List (Option Meta)) (contents : List (Option PageContent)) (c : Option PageContent) →
    length contents ≡ n → AreWhole false n known contents → AreWhole false (n + 1) known (contents ++ c ∷ [])
lacking_more n known contents c long lacks = (
  lacks.0,
  (omega (arith, lacks.1.0), (at_left contents c None n lacks.0 long lacks.1.0 ∙ lacks.1.1.0, lacks.1.1.1)),
)

-- so it goes on, whether or not all were found before
so_far_more : (whole : Bool) (n : ℕ) (known : List (Option Meta)) (contents : List (Option PageContent))
    (c : Option PageContent) → length contents ≡ n → is_some c ≡ is_some (slice_index_or known n None) →
    AreWhole whole n known contents → AreWhole whole (n + 1) known (contents ++ c ∷ [])
so_far_more true n known contents c long same whole = whole_more n known contents c long same whole
so_far_more false n known contents c long same lacks = lacking_more n known contents c long lacks

becomes_more : (resource n : ℕ) (old mid new : DomainAlone) (contents : List (Option PageContent)) (c : Option PageContent) →
    length contents ≡ n → ((d : ℕ) → Becomes old mid (with_pages resource 0 contents) d) →
    ((d : ℕ) → Becomes mid new (with_pages resource n (c ∷ [])) d) →
    (d : ℕ) → Becomes old new (with_pages resource 0 (contents ++ c ∷ [])) d
becomes_more resource n old mid new contents c long before one d = λ schedule p begins.
    subst (λ (plain : ℕ → ℕ → List ℕ). BeginsWith d schedule new (record p { plain = plain }))
    (sym (pages_more resource 0 n contents c p.plain (omega (arith, long))))
    (one d schedule (with_pages resource 0 contents p) (before d schedule p begins))

-- a page that was never shown
pub page_unshown : {key disk : List ℕ} {n : ℕ} {known : List (Option Meta)} {resource : ℕ} {old mid : DomainAlone}
    {whole : Bool} → GivesPages key disk n known resource old mid whole → slice_index_or known n None ≡ None →
    GivesPages key disk (n + 1) known resource old mid whole
unfolding with_given_pages
page_unshown {key} {disk} {n} {known} {resource} {old} {mid} {whole} before none = record {
  contents = before.contents ++ None ∷ [];
  found = found_more None before.found
      (subst (λ (x : Option Meta). IsFoundPage key disk x None) (sym none) refl);
  whole_so = so_far_more whole n known before.contents None before.found.count (ap (λ (x : Option Meta). is_some x) (sym none)) before.whole_so;
  becomes = becomes_more resource n old mid mid before.contents None before.found.count before.becomes (λ d schedule p begins. begins);
}

-- a page that was found
pub page_found : {key disk : List ℕ} {n : ℕ} {known : List (Option Meta)} {m : Meta} {resource : ℕ}
    {old mid new : DomainAlone} {whole given : Bool} → GivesPages key disk n known resource old mid whole →
    slice_index_or known n None ≡ Some m → GivesPage key disk m resource n mid new given → given ≡ true →
    GivesPages key disk (n + 1) known resource old new whole
page_found {key} {disk} {n} {known} {m} {resource} {old} {mid} {new} {whole} {given} before some one was = record {
  contents = before.contents ++ one.content ∷ [];
  found = found_more one.content before.found
      (subst (λ (x : Option Meta). IsFoundPage key disk x one.content) (sym some) one.found);
  whole_so = so_far_more whole n known before.contents one.content before.found.count
      (sym one.answer ∙ (was ∙ ap (λ (x : Option Meta). is_some x) (sym some))) before.whole_so;
  becomes = becomes_more resource n old mid new before.contents one.content before.found.count before.becomes one.becomes;
}

-- a page that was not
is_none : (c : Option PageContent) → is_some c ≡ false → c ≡ None
is_none None is = refl
is_none (Some c) is = absurd (let clash : true ≡ false = is in cc)

pub page_missing : {key disk : List ℕ} {n : ℕ} {known : List (Option Meta)} {m : Meta} {resource : ℕ}
    {old mid new : DomainAlone} {whole given : Bool} → GivesPages key disk n known resource old mid whole →
    slice_index_or known n None ≡ Some m → GivesPage key disk m resource n mid new given → given ≡ false →
    GivesPages key disk (n + 1) known resource old new false
page_missing {key} {disk} {n} {known} {m} {resource} {old} {mid} {new} {whole} {given} before some one was = record {
  contents = before.contents ++ one.content ∷ [];
  found = found_more one.content before.found
      (subst (λ (x : Option Meta). IsFoundPage key disk x one.content) (sym some) one.found);
  whole_so = (
    n,
    (
      omega (arith),
      (
        at_last before.contents one.content None n before.found.count
            ∙ is_none one.content (sym one.answer ∙ was),
        ap (λ (x : Option Meta). is_some x) some,
      ),
    ),
  );
  becomes = becomes_more resource n old mid new before.contents one.content before.found.count before.becomes one.becomes;
}

-- A file.

pub other_file : {d : ℕ} {key disk : List ℕ} {s : StoredFile} {program : DomainAlone} → s.domain ≢ d →
    GivesFile d key disk s program program true
other_file {d} {key} {disk} {s} {program} other =
    let no : (s.domain == d) ≡ false = elim (told (s.domain == d) (Decides-eqb s.domain d)) [
      | inl same ↦ absurd (other same.1)
      | inr differs ↦ differs.0
    ] in
    record {
      file = record { domain = s.domain; number = s.number; pages = [] };
      found = record { domain = refl; number = refl; pages = λ own. absurd (other own) };
      whole_so = λ own. absurd (other own);
      becomes = λ schedule p begins. rw no begins;
    }

own_file : {d : ℕ} (f : FileContents) (p : DomainPart) (n : ℕ) → f.domain ≡ d →
    (file_resource f.number (length f.pages) p.domain.control.resources).answer ≡ Ok n →
    with_file d f p
    ≡ with_pages n 0 f.pages (with_given [] (file_resource f.number (length f.pages) p.domain.control.resources).answer
    (file_resource f.number (length f.pages) p.domain.control.resources).resources p)
unfolding with_given with_given_pages
own_file {d} f p n own is =
    let yes : (f.domain == d) ≡ true = elim (told (f.domain == d) (Decides-eqb f.domain d)) [
      | inl same ↦ same.0
      | inr differs ↦ absurd (differs.1 own)
    ] in
    rw (yes, is) refl

pub file_given : {d : ℕ} {key disk : List ℕ} {s : StoredFile} {old mid new : DomainAlone} {whole : Bool} {n : ℕ} →
    s.domain ≡ d →
    ((schedule : List ℕ) (p : DomainPart) → BeginsWith d schedule old p →
    AddsFile d schedule mid (Ok n) p (file_resource s.number (length s.pages) p.domain.control.resources)) →
    GivesPages key disk (length s.pages) s.pages n mid new whole → GivesFile d key disk s old new whole
file_given {d} {key} {disk} {s} {old} {mid} {new} {whole} {n} own adds given =
    let f : FileContents = record { domain = s.domain; number = s.number; pages = given.contents } in
    record {
      file = f;
      found = record { domain = refl; number = refl; pages = λ same. given.found };
      whole_so = whole_file whole s f own given.whole_so;
      becomes = λ schedule p begins.
          let added = adds schedule p begins in
          let is : (file_resource f.number (length f.pages) p.domain.control.resources).answer ≡ Ok n =
          ap (λ (k : ℕ). (file_resource s.number k p.domain.control.resources).answer) given.found.count ∙ sym added.answer in
          subst (λ (q : DomainPart). BeginsWith d schedule new q) (sym (own_file f p n own is))
          (given.becomes d schedule _ (subst (λ (k : ℕ). BeginsWith d schedule mid
          (with_given [] (file_resource s.number k p.domain.control.resources).answer
          (file_resource s.number k p.domain.control.resources).resources p)) (sym given.found.count) added.begins));
    }
  where
    whole_file : (whole : Bool) (s : StoredFile) (f : FileContents) → s.domain ≡ d →
        AreWhole whole (length s.pages) s.pages f.pages → IsWholeFile d whole s f
    whole_file true s f own are = λ same. are
    whole_file false s f own are = (own, are)

is_refused : (fault : MapFault) (r : Result ℕ MapFault) → Err fault ≡ r → IsErr r
is_refused fault (Ok n) is = absurd (let clash : Err fault ≡ Ok n = is in cc)
is_refused fault (Err other) is = refl

pub no_room : (d : ℕ) (key disk : List ℕ) (s : StoredFile) (old mid : DomainAlone) (fault : MapFault) → s.domain ≡ d →
    ((schedule : List ℕ) (p : DomainPart) → BeginsWith d schedule old p →
    AddsFile d schedule mid (Err fault) p (file_resource s.number (length s.pages) p.domain.control.resources)) →
    GivesOne d key disk s old mid (Err NoRoom)
no_room d key disk s old mid fault own adds = λ schedule p begins.
    record { own = own; refused = is_refused fault _ (adds schedule p begins).answer }

-- Files.

files_more : (d : ℕ) (files : List FileContents) (f : FileContents) (p : DomainPart) →
    with_files d (files ++ f ∷ []) p ≡ with_file d f (with_files d files p)
unfolding with_files
files_more d [] f p = refl
files_more d (x ∷ files) f p = files_more d files f (with_file d x p)

pub no_files : {d : ℕ} {key disk : List ℕ} {table : List StoredFile} {program : DomainAlone} →
    GivesFiles d key disk 0 table program program true
unfolding with_files
no_files {d} {key} {disk} {table} {program} = record {
  files = [];
  found = record { count = refl; each = λ k low. absurd (omega (arith, low)) };
  whole_so = λ k low. absurd (omega (arith, low));
  becomes = λ schedule p begins. begins;
}

all_found : {d : ℕ} {key disk : List ℕ} {n : ℕ} {table : List StoredFile} {files : List FileContents} (f : FileContents) →
    AreFoundFiles d key disk n table files → IsFoundFile d key disk (slice_index_or table n no_file) f →
    AreFoundFiles d key disk (n + 1) table (files ++ f ∷ [])
all_found {d} {key} {disk} {n} {table} {files} f found one = record {
  count = one_longer files f n found.count;
  each = λ k low. elim (cases_lt k n) [
    | inl less ↦ subst (λ (x : FileContents). IsFoundFile d key disk (slice_index_or table k no_file) x)
        (sym (at_left files f no_contents n k found.count less)) (found.each k less)
    | inr more ↦
        let here : k ≡ n = omega (arith, low, more) in
        rw here (subst (λ (x : FileContents). IsFoundFile d key disk (slice_index_or table n no_file) x)
        (sym (at_last files f no_contents n found.count)) one)
  ];
}

all_whole : (d n : ℕ) (table : List StoredFile) (files : List FileContents) (f : FileContents) → length files ≡ n →
    IsWholeFile d true (slice_index_or table n no_file) f → AreWholeFiles d true n table files →
    AreWholeFiles d true (n + 1) table (files ++ f ∷ [])
all_whole d n table files f long one whole = λ k low. elim (cases_lt k n) [
  | inl less ↦ subst (λ (x : FileContents). IsWholeFile d true (slice_index_or table k no_file) x)
      (sym (at_left files f no_contents n k long less)) (whole k less)
  | inr more ↦
      let here : k ≡ n = omega (arith, low, more) in
      rw here (subst (λ (x : FileContents). IsWholeFile d true (slice_index_or table n no_file) x)
      (sym (at_last files f no_contents n long)) one)
]

-- one was not whole
one_lacks : (d n : ℕ) (table : List StoredFile) (files : List FileContents) (f : FileContents) → length files ≡ n →
    IsWholeFile d false (slice_index_or table n no_file) f → AreWholeFiles d false (n + 1) table (files ++ f ∷ [])
one_lacks d n table files f long one = (
  n,
  (
    omega arith,
    subst (λ (x : FileContents). IsWholeFile d false (slice_index_or table n no_file) x)
        (sym (at_last files f no_contents n long)) one,
  ),
)

still_lacks : (d n : ℕ) (table : List StoredFile) (files : List FileContents) (f : FileContents) → length files ≡ n →
    AreWholeFiles d false n table files → AreWholeFiles d false (n + 1) table (files ++ f ∷ [])
still_lacks d n table files f long lacks = (
  lacks.0,
  (
    omega (arith, lacks.1.0),
    subst (λ (x : FileContents). IsWholeFile d false (slice_index_or table lacks.0 no_file) x)
        (sym (at_left files f no_contents n lacks.0 long lacks.1.0)) lacks.1.1,
  ),
)

given_so_far : (whole : Bool) (d n : ℕ) (table : List StoredFile) (files : List FileContents) (f : FileContents) →
    length files ≡ n → IsWholeFile d true (slice_index_or table n no_file) f → AreWholeFiles d whole n table files →
    AreWholeFiles d whole (n + 1) table (files ++ f ∷ [])
given_so_far true d n table files f long one whole = all_whole d n table files f long one whole
given_so_far false d n table files f long one lacks = still_lacks d n table files f long lacks

becomes_with : (d : ℕ) (old mid new : DomainAlone) (files : List FileContents) (f : FileContents) →
    Becomes old mid (with_files d files) d → Becomes mid new (with_file d f) d →
    Becomes old new (with_files d (files ++ f ∷ [])) d
becomes_with d old mid new files f before one = λ schedule p begins.
    subst (λ (q : DomainPart). BeginsWith d schedule new q) (sym (files_more d files f p))
    (one schedule (with_files d files p) (before schedule p begins))

pub file_more : {d : ℕ} {key disk : List ℕ} {n : ℕ} {table : List StoredFile} {old mid new : DomainAlone} {whole : Bool} →
    GivesFiles d key disk n table old mid whole →
    GivesOne d key disk (slice_index_or table n no_file) mid new (Ok true) →
    GivesFiles d key disk (n + 1) table old new whole
file_more {d} {key} {disk} {n} {table} {old} {mid} {new} {whole} before one = record {
  files = before.files ++ one.file ∷ [];
  found = all_found one.file before.found one.found;
  whole_so = given_so_far whole d n table before.files one.file before.found.count one.whole_so before.whole_so;
  becomes = becomes_with d old mid new before.files one.file before.becomes one.becomes;
}

pub file_lacks : {d : ℕ} {key disk : List ℕ} {n : ℕ} {table : List StoredFile} {old mid new : DomainAlone} {whole : Bool} →
    GivesFiles d key disk n table old mid whole →
    GivesOne d key disk (slice_index_or table n no_file) mid new (Ok false) →
    GivesFiles d key disk (n + 1) table old new false
file_lacks {d} {key} {disk} {n} {table} {old} {mid} {new} {whole} before one = record {
  files = before.files ++ one.file ∷ [];
  found = all_found one.file before.found one.found;
  whole_so = one_lacks d n table before.files one.file before.found.count one.whole_so;
  becomes = becomes_with d old mid new before.files one.file before.becomes one.becomes;
}

-- there is no room for the next
pub lacks_next : (d : ℕ) (key disk : List ℕ) (n : ℕ) (table : List StoredFile) (old mid new : DomainAlone) (whole : Bool)
    (fault : FilesFault) → n < length table → GivesFiles d key disk n table old mid whole →
    GivesOne d key disk (slice_index_or table n no_file) mid new (Err fault) → Gives d key disk table old new (Err fault)
lacks_next d key disk n table old mid new whole NoRoom within before one = λ schedule p begins. record {
  n = n;
  within = within;
  files = before.files;
  found = before.found;
  lacks = one schedule (with_files d before.files p) (before.becomes schedule p begins);
}
lacks_next d key disk n table old mid new whole NoMemory within before one = absurd one

pub gives_all : {d : ℕ} {key disk : List ℕ} {n : ℕ} {table : List StoredFile} {old new : DomainAlone} {whole : Bool} →
    n ≡ length table → GivesFiles d key disk n table old new whole → Gives d key disk table old new (Ok whole)
gives_all {d} {key} {disk} {n} {table} {old} {new} {whole} all given = (
  given.files,
  (
    record {
      found = subst (λ (k : ℕ). AreFoundFiles d key disk k table given.files) all given.found;
      whole_so = subst (λ (k : ℕ). AreWholeFiles d whole k table given.files) all given.whole_so;
    },
    given.becomes,
  ),
)
