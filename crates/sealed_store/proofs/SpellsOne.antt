-- A file spells one table at most: each field has a known length, and each list stands after its count.
use Rattle.std.proofs.Common.{◌≡◌, ◌∙◌, ℕ, ◌<◌, ◌^◌, List, [], ◌∷◌, ◌++◌, length, get_or, Option, None, Some, refl, sym, ap, arith}
use Rattle.std.specs.Prelude.{codes}
use Rattle.std.specs.List.{flat_map, All}
use Rattle.std.specs.Int.{w32, from_le_bytes}
use Rattle.std.proofs.lemmas.List.{append_assoc}
use Rattle.std.proofs.lemmas.List.Elements.{All-head, All-tail}
use Rattle.std.proofs.lemmas.Nat.{from_le_bytes-to_le_bytes_4}
use Rattle.cloak_base.specs.declared.names.Meta.{Meta}
use Rattle.cloak_model.specs.Bits.{word}
use Rattle.cloak_model.specs.Hmac.{hmac}
use Rattle.cloak_model.specs.StoredFiles.{StoredFile, long, page_bytes, file_bytes, table_bytes, store_bytes, IsMetaIfKnown, IsFile}
use Rattle.sealed_store.specs.Laws.{SpellsOne}

-- Fields.

-- equal texts whose fronts have the same length have the same front and the same rest
parts_are : {A : Type 0} (s t x y : List A) → length s ≡ length t → s ++ x ≡ t ++ y → (s ≡ t) × (x ≡ y)
parts_are [] [] x y long e = (refl, e)
parts_are [] (b ∷ t) x y long e = absurd (omega (arith, long))
parts_are (a ∷ s) [] x y long e = absurd (omega (arith, long))
parts_are (a ∷ s) (b ∷ t) x y long e =
    let rest : s ++ x ≡ t ++ y = cc in
    let first : a ≡ b = cc in
    let both = parts_are s t x y (omega (arith, long)) rest in
    let fronts : s ≡ t = both.0 in
    (cc, both.1)

word_is : (a b : ℕ) (x y : List ℕ) → a < 2 ^ 32 → b < 2 ^ 32 → word a ++ x ≡ word b ++ y → (a ≡ b) × (x ≡ y)
word_is a b x y low other e =
    let both = parts_are (word a) (word b) x y refl e in (
      sym (from_le_bytes-to_le_bytes_4 a low)
          ∙ (ap (λ (l : List ℕ). from_le_bytes w32 l) both.0 ∙ from_le_bytes-to_le_bytes_4 b other),
      both.1,
    )

-- Rows.

-- the bytes of a thing, with a rest after them, tell the thing and the rest
abbrev TellsBoth : {A : Type 0} → (A → List ℕ) → (A → Type 0) → Type 0
TellsBoth {A} f P = (a b : A) (x y : List ℕ) → P a → P b → f a ++ x ≡ f b ++ y → (a ≡ b) × (x ≡ y)

-- then the bytes of a row of such things tell all of them, if their number is known
row_is : {A : Type 0} (f : A → List ℕ) (P : A → Type 0) → TellsBoth f P → (us vs : List A) (x y : List ℕ) →
    length us ≡ length vs → All P us → All P vs → flat_map f us ++ x ≡ flat_map f vs ++ y → (us ≡ vs) × (x ≡ y)
row_is f P tells [] [] x y long p q e = (refl, e)
row_is f P tells [] (b ∷ vs) x y long p q e = absurd (omega (arith, long))
row_is f P tells (a ∷ us) [] x y long p q e = absurd (omega (arith, long))
row_is f P tells (a ∷ us) (b ∷ vs) x y long p q e =
    let first = tells a b (flat_map f us ++ x) (flat_map f vs ++ y) (All-head P a us p) (All-head P b vs q)
    (sym (append_assoc (f a) (flat_map f us) x) ∙ (e ∙ append_assoc (f b) (flat_map f vs) y)) in
    let rest = row_is f P tells us vs x y (omega (arith, long)) (All-tail P a us p) (All-tail P b vs q) first.1 in
    let same : a ≡ b = first.0 in
    let others : us ≡ vs = rest.0 in
    (cc, rest.1)

-- Pages, files, tables.

same_meta : {m n : Meta} → m.iv ≡ n.iv → m.digest ≡ n.digest → m ≡ n
same_meta {m} {n} iv digest =
    ap (λ (l : List ℕ). record { iv = l; digest = m.digest }) iv
    ∙ ap (λ (l : List ℕ). record { iv = n.iv; digest = l }) digest

same_file : {f g : StoredFile} → f.domain ≡ g.domain → f.number ≡ g.number → f.pages ≡ g.pages → f ≡ g
same_file {f} {g} domain number pages =
    ap (λ (k : ℕ). record { domain = k; number = f.number; pages = f.pages }) domain
    ∙ (ap (λ (k : ℕ). record { domain = g.domain; number = k; pages = f.pages }) number
    ∙ ap (λ (l : List (Option Meta)). record { domain = g.domain; number = g.number; pages = l }) pages)

page_is : TellsBoth page_bytes IsMetaIfKnown
page_is None None x y p q e = let rest : x ≡ y = cc in (refl, rest)
page_is None (Some m) x y p q e = let never = ap (λ (l : List ℕ). get_or l 0 0) e in absurd (omega (arith, never))
page_is (Some m) None x y p q e = let never = ap (λ (l : List ℕ). get_or l 0 0) e in absurd (omega (arith, never))
page_is (Some m) (Some n) x y p q e =
    let rest : (m.iv ++ m.digest) ++ x ≡ (n.iv ++ n.digest) ++ y = cc in
    let iv = parts_are m.iv n.iv (m.digest ++ x) (n.digest ++ y) (p.iv.long ∙ sym q.iv.long)
    (sym (append_assoc m.iv m.digest x) ∙ (rest ∙ append_assoc n.iv n.digest y)) in
    let digest = parts_are m.digest n.digest x y (p.digest.long ∙ sym q.digest.long) iv.1 in
    (ap (λ (k : Meta). Some k) (same_meta iv.0 digest.0), digest.1)

file_is : TellsBoth file_bytes IsFile
file_is f g x y p q e =
    let domain = word_is f.domain g.domain
    (word f.number ++ (word (length f.pages) ++ (flat_map page_bytes f.pages ++ x)))
    (word g.number ++ (word (length g.pages) ++ (flat_map page_bytes g.pages ++ y)))
    (omega (arith, p.domain)) (omega (arith, q.domain)) e in
    let number = word_is f.number g.number
    (word (length f.pages) ++ (flat_map page_bytes f.pages ++ x))
    (word (length g.pages) ++ (flat_map page_bytes g.pages ++ y)) p.number q.number domain.1 in
    let count = word_is (length f.pages) (length g.pages) (flat_map page_bytes f.pages ++ x)
    (flat_map page_bytes g.pages ++ y) (omega (arith, p.few_pages)) (omega (arith, q.few_pages)) number.1 in
    let pages = row_is page_bytes IsMetaIfKnown page_is f.pages g.pages x y count.0 p.pages q.pages count.1 in
    (same_file domain.0 number.0 pages.0, pages.1)

table_is : (counter : ℕ) (files others : List StoredFile) (x y : List ℕ) → length files < 2 ^ 32 → length others < 2 ^ 32 →
    All IsFile files → All IsFile others → table_bytes counter files ++ x ≡ table_bytes counter others ++ y →
    files ≡ others
unfolding table_bytes
table_is counter files others x y few fewer p q e =
    let rest = parts_are (codes "CLOAKSTO" ++ long counter) (codes "CLOAKSTO" ++ long counter)
    (word (length files) ++ (flat_map file_bytes files ++ x)) (word (length others) ++ (flat_map file_bytes others ++ y))
    refl e in
    let count = word_is (length files) (length others) (flat_map file_bytes files ++ x) (flat_map file_bytes others ++ y)
    few fewer rest.1 in
    (row_is file_bytes IsFile file_is files others x y count.0 p q count.1).0

pub spells_one : (mac : List ℕ) (counter : ℕ) (bytes : List ℕ) → SpellsOne mac counter bytes
unfolding store_bytes
spells_one mac counter bytes files others s t =
    sym (table_is counter files others (hmac mac (table_bytes counter files)) (hmac mac (table_bytes counter others))
    (omega (arith, s.is_table.few)) (omega (arith, t.is_table.few)) s.is_table.each t.is_table.each
    (s.spelled ∙ sym t.spelled))
