-- The files of a table, by their rows and the pages of all.
use Rattle.std.proofs.Common.{◌≡◌, ℕ, zero, suc, ◌+◌, ◌-◌, ◌<◌, ◌≤◌, List, [], ◌∷◌, ◌++◌, Option, None, length, take, drop}
use Rattle.std.proofs.Common.{true, false, nat_lt, nat_le, ◌&&◌, ◌⊎◌, inl, inr, get_or, slice_set, replicate, sum_by, refl, ap, sym, ◌∙◌, arith}
use Rattle.std.proofs.lemmas.List.{take-take, drop-take, drop-drop, drop-set-add, drop-set-lt, take-set-le, length-take-le, length-drop, length-append, length-replicate, take_at, drop_at}
use Rattle.std.proofs.lemmas.List.Sums.{sum_by-cons}
use Rattle.std.proofs.lemmas.Bool.Decides.{nat_tests}
use Rattle.cloak_base.specs.declared.names.Meta.{Meta}
use Rattle.cloak_model.specs.StoredFiles.{StoredFile, page_count}
use Rattle.protect_meta.specs.declared.file_table.FileRow.{FileRow}
use Rattle.protect_meta.specs.FileTable.{file_at, with_meta}
use Rattle.protect_meta.specs.FileRows.{file_of, files_of, FollowFrom, IsLaidOut}

-- the row of no file
abbrev pub no_row : FileRow
no_row = record { domain = 0; number = 0; first = 0; count = 0 }

abbrev Pages : Type 0
Pages = List (Option Meta)

-- a row's file, with its pages from among all
abbrev pub file_in : FileRow → List (Option Meta) → StoredFile
file_in r all = file_of r (take r.count (drop r.first all))

pub length-files : (rows : List FileRow) (pages : Pages) → length (files_of rows pages) ≡ length rows
length-files [] pages = refl
length-files (r ∷ rows) pages = ap suc (length-files rows (drop r.count pages))

-- Rows that follow one another.

pub follow_up : (rows : List FileRow) (at end : ℕ) → FollowFrom at rows end → at ≤ end
follow_up [] at end f = omega (arith, f)
follow_up (r ∷ rows) at end f = omega (arith, follow_up rows (at + r.count) end f.1)

-- a row is among the pages from a place on
pub follow_in : (rows : List FileRow) (at end i : ℕ) (d : FileRow) → FollowFrom at rows end → i < length rows →
    (at ≤ (get_or rows i d).first) × ((get_or rows i d).first + (get_or rows i d).count ≤ end)
follow_in [] at end i d f there = absurd (omega arith)
follow_in (r ∷ rows) at end zero d f there =
    let u = follow_up rows (at + r.count) end f.1 in (omega (arith, f.0), omega (arith, f.0))
follow_in (r ∷ rows) at end (suc i) d f there =
    let next = follow_in rows (at + r.count) end i d f.1 (omega arith) in
    (omega (arith, next.0), next.1)

pub follow_push : (rows : List FileRow) (at end : ℕ) (r : FileRow) → FollowFrom at rows end → r.first ≡ end →
    FollowFrom at (rows ++ r ∷ []) (end + r.count)
follow_push [] at end r f starts = (starts ∙ sym f, ap (λ (n : ℕ). n + r.count) f)
follow_push (x ∷ rows) at end r f starts = (f.0, follow_push rows (at + x.count) end r f.1 starts)

-- Files.

pub file_is : (rows : List FileRow) (at end : ℕ) (all : Pages) (i : ℕ) (d : FileRow) → FollowFrom at rows end →
    i < length rows → file_at (files_of rows (drop at all)) i ≡ file_in (get_or rows i d) all
file_is [] at end all i d f there = absurd (omega arith)
file_is (r ∷ rows) at end all zero d f there =
    ap (λ (n : ℕ). file_of r (take r.count (drop n all))) (sym f.0)
file_is (r ∷ rows) at end all (suc i) d f there =
    ap (λ (l : Pages). file_at (files_of rows l) i) (drop-drop r.count at all)
    ∙ file_is rows (at + r.count) end all i d f.1 (omega arith)

pub sum_is : (rows : List FileRow) (at end : ℕ) (all : Pages) → FollowFrom at rows end → end ≤ length all →
    at + sum_by page_count (files_of rows (drop at all)) ≡ end
sum_is [] at end all f room = omega (arith, f)
sum_is (r ∷ rows) at end all f room =
    let up = follow_up rows (at + r.count) end f.1 in
    let long = length-drop at all in
    let here = length-take-le r.count (drop at all) (omega arith) in
    let rest = sum_is rows (at + r.count) end all f.1 room in
    let same = ap (λ (l : Pages). sum_by page_count (files_of rows l)) (drop-drop r.count at all) in
    let both = sum_by-cons page_count (file_of r (take r.count (drop at all))) (files_of rows (drop r.count (drop at all))) in
    omega (arith, here, rest, same, both)

-- A page is written.

take_set : {A : Type 0} (n i : ℕ) (xs : List A) (x : A) → i < n → take n (slice_set xs i x) ≡ slice_set (take n xs) i x
take_set zero i xs x low = absurd (omega arith)
take_set (suc n) i [] x low = refl
take_set (suc n) zero (y ∷ xs) x low = refl
take_set (suc n) (suc i) (y ∷ xs) x low = ap (λ (l : List _). y ∷ l) (take_set n i xs x (omega arith))

pub set_is : (rows : List FileRow) (at end : ℕ) (all : Pages) (i k : ℕ) (d : FileRow) (m : Option Meta) →
    FollowFrom at rows end → i < length rows → k < (get_or rows i d).count →
    files_of rows (drop at (slice_set all ((get_or rows i d).first + k) m)) ≡ with_meta i k m (files_of rows (drop at all))
set_is [] at end all i k d m f there low = absurd (omega arith)
set_is (r ∷ rows) at end all zero k d m f there low =
    let moved : drop at (slice_set all (r.first + k) m) ≡ slice_set (drop at all) k m =
    ap (λ (n : ℕ). drop at (slice_set all (n + k) m)) f.0 ∙ drop-set-add at all k m in
    ap (λ (l : Pages). files_of (r ∷ rows) l) moved
    ∙ (ap (λ (l : Pages). file_of r l ∷ files_of rows (drop r.count (slice_set (drop at all) k m)))
    (take_set r.count k (drop at all) m low)
    ∙ ap (λ (l : Pages). file_of r (slice_set (take r.count (drop at all)) k m) ∷ files_of rows l)
    (drop-set-lt r.count (drop at all) k m low))
set_is (r ∷ rows) at end all (suc i) k d m f there low =
    let row : FileRow = get_or rows i d in
    let inside = follow_in rows (at + r.count) end i d f.1 (omega arith) in
    let p : ℕ = row.first + k in
    let q : ℕ = p - at in
    let place : p ≡ at + q = omega (arith, inside.0) in
    let moved : drop at (slice_set all p m) ≡ slice_set (drop at all) q m =
    ap (λ (n : ℕ). drop at (slice_set all n m)) place ∙ drop-set-add at all q m in
    let head : take r.count (drop at (slice_set all p m)) ≡ take r.count (drop at all) =
    ap (λ (l : Pages). take r.count l) moved ∙ take-set-le r.count (drop at all) q m (omega (arith, inside.0)) in
    let tail : files_of rows (drop r.count (drop at (slice_set all p m)))
    ≡ with_meta i k m (files_of rows (drop r.count (drop at all))) =
    ap (λ (l : Pages). files_of rows l) (drop-drop r.count at (slice_set all p m))
    ∙ (set_is rows (at + r.count) end all i k d m f.1 (omega arith) low
    ∙ ap (λ (l : Pages). with_meta i k m (files_of rows l)) (sym (drop-drop r.count at all))) in
    ap (λ (l : Pages). file_of r l ∷ files_of rows (drop r.count (drop at (slice_set all p m)))) head
    ∙ ap (λ (l : List StoredFile). file_of r (take r.count (drop at all)) ∷ l) tail

-- A file is added.

-- the first pages are the same, and those from a place on
same_part : {A : Type 0} (n at end : ℕ) (xs ys : List A) → at + n ≤ end → take end xs ≡ take end ys →
    take n (drop at xs) ≡ take n (drop at ys)
same_part n at end xs ys low same =
    sym (drop-take at n xs)
    ∙ (ap (λ (l : List _). drop at l)
    (sym (take-take (at + n) end xs low) ∙ (ap (λ (l : List _). take (at + n) l) same ∙ take-take (at + n) end ys low))
    ∙ drop-take at n ys)

pub push_is : (rows : List FileRow) (at end : ℕ) (all new : Pages) (r : FileRow) → FollowFrom at rows end →
    take end new ≡ take end all → take r.count (drop end new) ≡ replicate r.count None →
    files_of (rows ++ r ∷ []) (drop at new) ≡ files_of rows (drop at all) ++ file_of r (replicate r.count None) ∷ []
push_is [] at end all new r f same none =
    ap (λ (l : Pages). file_of r l ∷ []) (ap (λ (n : ℕ). take r.count (drop n new)) f ∙ none)
push_is (x ∷ rows) at end all new r f same none =
    let up = follow_up rows (at + x.count) end f.1 in
    let head : take x.count (drop at new) ≡ take x.count (drop at all) = same_part x.count at end new all up same in
    let tail : files_of (rows ++ r ∷ []) (drop x.count (drop at new))
    ≡ files_of rows (drop x.count (drop at all)) ++ file_of r (replicate r.count None) ∷ [] =
    ap (λ (l : Pages). files_of (rows ++ r ∷ []) l) (drop-drop x.count at new)
    ∙ (push_is rows (at + x.count) end all new r f.1 same none
    ∙ ap (λ (l : Pages). files_of rows l ++ file_of r (replicate r.count None) ∷ []) (sym (drop-drop x.count at all))) in
    ap (λ (l : Pages). file_of x l ∷ files_of (rows ++ r ∷ []) (drop x.count (drop at new))) head
    ∙ ap (λ (l : List StoredFile). file_of x (take x.count (drop at all)) ∷ l) tail

-- A table.

-- a row is that of a file of the table, and its pages are inside the room
pub record IsRowOf (pages : Pages) (files : List StoredFile) (i : ℕ) (r : FileRow) : Type 0 where
  pub file : file_at files i ≡ file_in r pages
  pub inside : r.first + r.count ≤ 4096
  pub long : length (file_at files i).pages ≡ r.count

pub row_below : (rows : List FileRow) (pages : Pages) (files : List StoredFile) (i : ℕ) → files_of rows pages ≡ files →
    i < length files → i < length rows
row_below rows pages files i same there =
    let long = ap (λ (l : List StoredFile). length l) same in
    let rows_long = length-files rows pages in
    omega (arith, long, rows_long)

pub row_found : (rows : List FileRow) (used : ℕ) (pages : Pages) (files : List StoredFile) (i : ℕ) (d : FileRow) →
    IsLaidOut rows used pages → files_of rows pages ≡ files → i < length files →
    IsRowOf pages files i (get_or rows i d)
row_found rows used pages files i d laid same there =
    let below : i < length rows = row_below rows pages files i same there in
    let inside = follow_in rows 0 used i d laid.follow below in
    let r : FileRow = get_or rows i d in
    let is : file_at files i ≡ file_in r pages =
    ap (λ (l : List StoredFile). file_at l i) (sym same) ∙ file_is rows 0 used pages i d laid.follow below in
    record {
      file = is;
      inside = omega (arith, inside.1, laid.few);
      long = ap (λ (f : StoredFile). length f.pages) is
          ∙ length-take-le r.count (drop r.first pages)
          (omega (arith, length-drop r.first pages, inside.1, laid.few, laid.room));
    }

-- the pages after those of files are known no more
record IsForgotten (used n : ℕ) (all new : Pages) : Type 0 where
  pub long : length new ≡ length all
  pub same : take used new ≡ take used all
  pub none : take n (drop used new) ≡ replicate n None

forgotten : (used n : ℕ) (all new : Pages) → used + n ≤ length all →
    new ≡ take used all ++ (replicate n None ++ drop (used + n) all) → IsForgotten used n all new
forgotten used n all new low is =
    let front : length (take used all) ≡ used = length-take-le used all (omega arith) in
    let rest : Pages = drop (used + n) all in
    record {
      long = rw is (omega (
        arith,
        length-append (take used all) (replicate n None ++ rest),
        front,
        length-append (replicate n None) rest,
        length-replicate {A = Option Meta} n None,
        length-drop (used + n) all,
      ));
      same = rw is (take_at (take used all) (replicate n None ++ rest) used front);
      none = rw is
          (ap (λ (l : Pages). take n l) (drop_at (take used all) (replicate n None ++ rest) used front)
          ∙ take_at (replicate n None) rest n (length-replicate n None));
    }

-- a file was added
pub laid_push : (rows : List FileRow) (used : ℕ) (all new : Pages) (r : FileRow) → IsLaidOut rows used all →
    r.first ≡ used → used + r.count ≤ 4096 →
    new ≡ take used all ++ (replicate r.count None ++ drop (used + r.count) all) →
    IsLaidOut (rows ++ r ∷ []) (used + r.count) new
laid_push rows used all new r laid starts room is =
    let fresh = forgotten used r.count all new (omega (arith, laid.room)) is in
    record {
      follow = follow_push rows 0 used r laid.follow starts;
      room = fresh.long ∙ laid.room;
      few = room;
    }

pub files_push : (rows : List FileRow) (used : ℕ) (all new : Pages) (files : List StoredFile) (r : FileRow) →
    IsLaidOut rows used all → files_of rows all ≡ files → used + r.count ≤ 4096 →
    new ≡ take used all ++ (replicate r.count None ++ drop (used + r.count) all) →
    files_of (rows ++ r ∷ []) new ≡ files ++ file_of r (replicate r.count None) ∷ []
files_push rows used all new files r laid same room is =
    let fresh = forgotten used r.count all new (omega (arith, laid.room)) is in
    push_is rows 0 used all new r laid.follow fresh.same fresh.none
    ∙ ap (λ (l : List StoredFile). l ++ file_of r (replicate r.count None) ∷ []) same

-- the room's list is the one that was written
pub forget_keeps : (used n len : ℕ) (all new : Pages) → used + n ≤ length all → len ≡ length all →
    new ≡ take used all ++ (replicate n None ++ drop (used + n) all) → length new ≡ len
forget_keeps used n len all new low long is = (forgotten used n all new low is).long ∙ sym long

-- The test of room.

pub has_room : (files pages : ℕ) → files < 64 → pages ≤ 4096 → true ≡ nat_lt files 64 && nat_le pages 4096
has_room files pages few small = grind (arith, nat_tests)

pub has_no_room : (files pages : ℕ) → (64 ≤ files) ⊎ (4096 < pages) → false ≡ nat_lt files 64 && nat_le pages 4096
has_no_room files pages none = elim none [ inl many ↦ grind (arith, nat_tests) | inr large ↦ grind (arith, nat_tests) ]

-- how much there is of a table, by its rows
pub sizes_are : (rows : List FileRow) (used : ℕ) (pages : Pages) (files : List StoredFile) → IsLaidOut rows used pages →
    files_of rows pages ≡ files → (length files ≡ length rows) × (sum_by page_count files ≡ used)
sizes_are rows used pages files laid same =
    let all = sum_is rows 0 used pages laid.follow (omega (arith, laid.few, laid.room)) in
    let sums = ap (λ (l : List StoredFile). sum_by page_count l) same in
    (sym (ap (λ (l : List StoredFile). length l) same) ∙ length-files rows pages, omega (arith, all, sums))
