-- What stands in a window that is read ahead.
use Rattle.std.proofs.Common.{◌≡◌, ◌<◌, ◌≤◌, ◌+◌, ◌-◌, ℕ, zero, suc, List, [], ◌∷◌, ◌++◌, length, take, drop, min, sym}
use Rattle.std.proofs.Common.{◌∙◌, ap, subst, arith, Option, None, Some, IfSome, IsSome, refl, length-append, length-drop}
use Rattle.std.proofs.Common.{Result, Ok, Err, IfOk, append_assoc, true, false}
use Rattle.std.proofs.Math.Seq.{take-add, take-append-add, paste}
use Rattle.std.proofs.lemmas.List.{append-nil, drop-drop, drop-take, take-take, take_at, take_all, drop_all, length-take}
use Rattle.std.proofs.lemmas.List.{length-take-le}
use Rattle.std.proofs.lemmas.List.Edits.{take-paste}
use Rattle.io_traits.specs.Told.{IsCopied, SameFiles}
use Rattle.system_io.specs.Files.{ReaderState, IsAhead, IsReading, IsFilled}

pub IfSome-map : (t : Option (List ℕ)) (P Q : List ℕ → Type 0) → ((all : List ℕ) → P all → Q all) → IfSome t P →
    IfSome t Q
IfSome-map None P Q f p = tt
IfSome-map (Some l) P Q f p = f l p

pub IfSome-map2 : (t : Option (List ℕ)) (P Q R : List ℕ → Type 0) → ((all : List ℕ) → P all → Q all → R all) →
    IfSome t P → IfSome t Q → IfSome t R
IfSome-map2 None P Q R f p q = tt
IfSome-map2 (Some l) P Q R f p q = f l p q

length-none : (l : List ℕ) → length l ≡ 0 → l ≡ []
length-none [] none = refl
length-none (x ∷ l) none = absurd (omega (arith, none))

-- a part of a front is the same part of the whole, if it ends in the front
part_of_front : (n k w : ℕ) (l : List ℕ) → n ≤ w - k → take n (drop k (take w l)) ≡ take n (drop k l)
part_of_front zero k w l within = refl
part_of_front (suc n) k w l within =
    let whole : k + (w - k) ≡ w = omega (arith, within) in
    ap (λ (i : ℕ). take (suc n) (drop k (take i l))) (sym whole)
    ∙ ap (λ (m : List ℕ). take (suc n) m) (drop-take k (w - k) l)
    ∙ take-take (suc n) (w - k) (drop k l) within

-- bytes of the window are those of the file
pub copied_from_window : (all window : List ℕ) (start at n : ℕ) (old new : List ℕ) →
    window ≡ take (length window) (drop start all) → start ≤ at → n ≡ min (length old) (length (drop (at - start) window)) →
    new ≡ take n (drop (at - start) window) ++ drop n old → (n ≡ 0 → 0 < length old → length all ≤ at) →
    IsCopied all at n old new
copied_from_window all window start at n old new is before count copied end =
    let k : ℕ = at - start in
    let w : ℕ = length window in
    let rest = length-drop k window in
    let inside : n ≤ w - k = omega (arith, rest, count) in
    let place : start + k ≡ at = omega (arith, before) in
    let here : drop k (drop start all) ≡ drop at all =
    drop-drop k start all ∙ ap (λ (i : ℕ). drop i all) place in
    let part : take n (drop k window) ≡ take n (drop at all) =
    ap (λ (l : List ℕ). take n (drop k l)) is ∙ part_of_front n k w (drop start all) inside
    ∙ ap (λ (l : List ℕ). take n l) here in
    let long = ap (λ (l : List ℕ). length l) is ∙ length-take w (drop start all) in
    let left = length-drop start all in
    let left_at = length-drop at all in
    record {
      within = omega (arith, inside, long, left, left_at, before);
      copied = copied ∙ ap (λ (l : List ℕ). l ++ drop n old) part;
      at_end = end;
    }

-- what is read ahead of an open file
pub ahead_of : {F : Type 0} (told : List ℕ → Option (List ℕ)) (is_of : F → List ℕ → Type 0) (is_at : F → ℕ → Type 0)
    (s : ReaderState F) (o : Option F) → IfSome o (IsAhead told is_of is_at s) → IsSome o →
    IfSome (told s.name) (λ all. s.window ≡ take (length s.window) (drop s.start all))
ahead_of told is_of is_at s None reads opened =
    absurd (let never : false ≡ true = opened in cc)
ahead_of told is_of is_at s (Some file) reads opened = reads.ahead

-- some bytes were in the window
pub copied_ahead : {F : Type 0} (told : List ℕ → Option (List ℕ)) (is_of : F → List ℕ → Type 0) (is_at : F → ℕ → Type 0)
    (s : ReaderState F) (at n : ℕ) (old new : List ℕ) → IsReading told is_of is_at s → IsSome s.source → 0 < n →
    s.start ≤ at → n ≡ min (length old) (length (drop (at - s.start) s.window)) →
    new ≡ take n (drop (at - s.start) s.window) ++ drop n old →
    IfSome (told s.name) (λ all. IsCopied all at n old new)
copied_ahead told is_of is_at s at n old new reads opened some before count copied =
    IfSome-map (told s.name) (λ all. s.window ≡ take (length s.window) (drop s.start all)) (λ all. IsCopied all at n old new)
    (λ all is. copied_from_window all s.window s.start at n old new is before count copied
    (λ none _. absurd (omega (arith, none, some))))
    (ahead_of told is_of is_at s s.source reads opened)

-- bytes of a window that was filled just now: none only at the end of the file
copied_filled_at : {F : Type 0} (told : List ℕ → Option (List ℕ)) (is_of : F → List ℕ → Type 0) (is_at : F → ℕ → Type 0)
    (s : ReaderState F) (at n : ℕ) (old new : List ℕ) → IsReading told is_of is_at s → IsSome s.source →
    s.start ≤ at → n ≡ min (length old) (length (drop (at - s.start) s.window)) →
    new ≡ take n (drop (at - s.start) s.window) ++ drop n old →
    IfSome (told s.name) (λ all. drop (at - s.start) s.window ≡ [] → length all ≤ at) →
    IfSome (told s.name) (λ all. IsCopied all at n old new)
copied_filled_at told is_of is_at s at n old new reads opened before count copied end =
    IfSome-map2 (told s.name) (λ all. s.window ≡ take (length s.window) (drop s.start all))
    (λ all. drop (at - s.start) s.window ≡ [] → length all ≤ at) (λ all. IsCopied all at n old new)
    (λ all is ends. copied_from_window all s.window s.start at n old new is before count copied
    (λ none room. ends (length-none (drop (at - s.start) s.window) (omega (arith, none, room, count)))))
    (ahead_of told is_of is_at s s.source reads opened) end

pub copied_filled : {F : Type 0} (told : List ℕ → Option (List ℕ)) (is_of : F → List ℕ → Type 0) (is_at : F → ℕ → Type 0)
    (s : ReaderState F) (at pos n : ℕ) (old new name mid : List ℕ) → pos ≡ at → s.name ≡ mid → mid ≡ name →
    IsReading told is_of is_at s → IsSome s.source → s.start ≤ pos →
    (s.start ≤ at → n ≡ min (length old) (length (drop (at - s.start) s.window))) →
    new ≡ take n (drop (at - s.start) s.window) ++ drop n old →
    IfSome (told mid) (λ all. drop (pos - s.start) s.window ≡ [] → length all ≤ pos) →
    IfSome (told name) (λ all. IsCopied all at n old new)
copied_filled told is_of is_at s at pos n old new name mid place same same' reads opened before count copied end =
    let here : s.start ≤ at = subst (λ (p : ℕ). s.start ≤ p) place before in
    let ends : IfSome (told mid) (λ all. drop (at - s.start) s.window ≡ [] → length all ≤ at) =
    subst (λ (p : ℕ). IfSome (told mid) (λ all. drop (p - s.start) s.window ≡ [] → length all ≤ p)) place end in
    subst (λ (m : List ℕ). IfSome (told m) (λ all. IsCopied all at n old new)) (same ∙ same')
    (copied_filled_at told is_of is_at s at n old new reads opened here (count here) copied
    (subst (λ (m : List ℕ). IfSome (told m) (λ all. drop (at - s.start) s.window ≡ [] → length all ≤ at)) (sym same) ends))

-- the last of the first bytes, which were moved to the front
pub kept_last : (window new : List ℕ) (filled kept : ℕ) → kept ≤ filled → filled ≤ length window →
    new ≡ paste window 0 (drop (filled - kept) window) (filled - (filled - kept)) →
    take kept new ≡ drop (filled - kept) (take filled window)
kept_last window new filled kept few inside is =
    let i : ℕ = filled - kept in
    let same : filled - i ≡ kept = omega (arith, few) in
    let none : 0 + kept ≡ kept = omega arith in
    let whole : i + kept ≡ filled = omega (arith, few) in
    let rest = length-drop i window in
    ap (λ (l : List ℕ). take kept l) is
    ∙ ap (λ (k : ℕ). take kept (paste window 0 (drop i window) k)) same
    ∙ ap (λ (k : ℕ). take k (paste window 0 (drop i window) kept)) (sym none)
    ∙ take-paste window 0 (drop i window) kept (omega arith) (omega (arith, rest, few, inside))
    ∙ sym (drop-take i kept window) ∙ ap (λ (k : ℕ). drop i (take k window)) whole

-- bytes that were read into a window, after those that are kept
filled_after : (all : List ℕ) (at kept n : ℕ) (old part rest tail : List ℕ) →
    part ≡ take (length old - kept) (drop kept old) → kept < length old → IsCopied all at n part rest →
    IsFilled all at kept n old (take kept old ++ (rest ++ tail))
filled_after all at kept n old part rest tail is room read =
    let front : length (take kept old) ≡ kept = length-take-le kept old (omega (arith, room)) in
    let left = length-drop kept old in
    let long = ap (λ (l : List ℕ). length l) is ∙ length-take (length old - kept) (drop kept old) in
    record {
      within = read.within;
      filled =
          ap (λ (k : ℕ). take (k + n) (take kept old ++ (rest ++ tail))) (sym front)
          ∙ take-append-add (take kept old) (rest ++ tail) n
          ∙ ap (λ (l : List ℕ). take kept old ++ l)
          (ap (λ (l : List ℕ). take n (l ++ tail)) read.copied
          ∙ ap (λ (l : List ℕ). take n l) (append_assoc (take n (drop at all)) (drop n part) tail)
          ∙ take_at (take n (drop at all)) (drop n part ++ tail) n (length-take-le n (drop at all) read.within));
      at_end = λ none. read.at_end none (omega (arith, left, room, long));
    }

pub filled_any : {E : Type 0} (told : List ℕ → Option (List ℕ)) (is_of : List ℕ → Type 0) (is_at : ℕ → Type 0) (kept : ℕ)
    (old part rest tail : List ℕ) (r : Result ℕ E) → part ≡ take (length old - kept) (drop kept old) → kept < length old →
    IfOk r (λ n. (name : List ℕ) → is_of name → (at : ℕ) → is_at at →
    IfSome (told name) (λ all. IsCopied all at n part rest)) →
    IfOk r (λ n. (name : List ℕ) → is_of name → (at : ℕ) → is_at at →
    IfSome (told name) (λ all. IsFilled all at kept n old (take kept old ++ (rest ++ tail))))
filled_any told is_of is_at kept old part rest tail (Ok n) is room read = λ name of at stands.
    IfSome-map (told name) (λ all. IsCopied all at n part rest)
    (λ all. IsFilled all at kept n old (take kept old ++ (rest ++ tail)))
    (λ all copied. filled_after all at kept n old part rest tail is room copied) (read name of at stands)
filled_any told is_of is_at kept old part rest tail (Err e) is room read = tt

-- the window after it was filled is what stands in the file
window_filled : (all window part : List ℕ) (start at kept n : ℕ) → window ≡ take (length window) (drop start all) →
    n ≤ length (drop at all) → length part ≡ kept → kept ≤ length window → (0 < kept → at ≡ start + length window) →
    (0 < kept → part ≡ drop (length window - kept) window) →
    part ++ take n (drop at all) ≡ take (kept + n) (drop (at - kept) all)
window_filled all window part start at zero n is within long few follows moved =
    ap (λ (l : List ℕ). l ++ take n (drop at all)) (length-none part long)
    ∙ ap (λ (k : ℕ). take k (drop at all)) (let same : n ≡ 0 + n = omega arith in same)
    ∙ ap (λ (k : ℕ). take (0 + n) (drop k all)) (let same : at ≡ at - 0 = omega arith in same)
window_filled all window part start at (suc kept) n is within long few follows moved =
    let k : ℕ = suc kept in
    let w : ℕ = length window in
    let place : at ≡ start + w = follows (omega arith) in
    let whole : (w - k) + k ≡ w = omega (arith, few) in
    let back : start + (w - k) ≡ at - k = omega (arith, place, few) in
    let again : (at - k) + k ≡ at = omega (arith, place, few) in
    let front : part ≡ take k (drop (at - k) all) =
    moved (omega arith) ∙ ap (λ (l : List ℕ). drop (w - k) l) is
    ∙ ap (λ (i : ℕ). drop (w - k) (take i (drop start all))) (sym whole)
    ∙ drop-take (w - k) k (drop start all)
    ∙ ap (λ (l : List ℕ). take k l)
    (drop-drop (w - k) start all ∙ ap (λ (i : ℕ). drop i all) back) in
    let next : take n (drop at all) ≡ take n (drop k (drop (at - k) all)) =
    ap (λ (l : List ℕ). take n l)
    (ap (λ (i : ℕ). drop i all) (sym again) ∙ sym (drop-drop k (at - k) all)) in
    ap (λ (l : List ℕ). l ++ take n (drop at all)) front
    ∙ ap (λ (l : List ℕ). take k (drop (at - k) all) ++ l) next
    ∙ sym (take-add k n (drop (at - k) all))

-- the same of a window that is told
pub ahead_filled : (all window kept_bytes filled_bytes : List ℕ) (start at kept n : ℕ) →
    window ≡ take (length window) (drop start all) → kept ≤ length kept_bytes → kept + n ≤ length filled_bytes →
    kept ≤ length window → (0 < kept → at ≡ start + length window) →
    (0 < kept → take kept kept_bytes ≡ drop (length window - kept) window) →
    IsFilled all at kept n kept_bytes filled_bytes →
    take (kept + n) filled_bytes ≡ take (length (take (kept + n) filled_bytes)) (drop (at - kept) all)
ahead_filled all window kept_bytes filled_bytes start at kept n is room room' few follows moved read =
    read.filled
    ∙ window_filled all window (take kept kept_bytes) start at kept n is read.within
    (length-take-le kept kept_bytes room) few follows moved
    ∙ ap (λ (k : ℕ). take k (drop (at - kept) all)) (sym (length-take-le (kept + n) filled_bytes room'))

-- if a window that was filled has no byte from the place on, none was read
pub none_filled : (all kept_bytes filled_bytes : List ℕ) (at kept n : ℕ) → kept ≤ at → kept + n ≤ length filled_bytes →
    IsFilled all at kept n kept_bytes filled_bytes →
    drop (at - (at - kept)) (take (kept + n) filled_bytes) ≡ [] → length all ≤ at
none_filled all kept_bytes filled_bytes at kept n before room read none =
    let back : at - (at - kept) ≡ kept = omega (arith, before) in
    let long = length-take-le (kept + n) filled_bytes room in
    let left = length-drop (at - (at - kept)) (take (kept + n) filled_bytes) in
    let empty = ap (λ (l : List ℕ). length l) none in
    read.at_end (omega (arith, back, long, left, empty))

-- bytes that are kept stand before the place that is read next
pub kept_before : (kept filled start position : ℕ) → kept ≤ filled → (0 < kept → position ≡ start + filled) →
    kept ≤ position
kept_before zero filled start position fits follows = omega arith
kept_before (suc kept) filled start position fits follows =
    let same = follows (omega arith) in omega (arith, same, fits)

-- the open file and the window after it was filled
pub reads_filled : {F : Type 0} (told : List ℕ → Option (List ℕ)) (is_of : F → List ℕ → Type 0) (is_at : F → ℕ → Type 0)
    (s : ReaderState F) (file file' : F) (filled kept n : ℕ) (kept_bytes filled_bytes : List ℕ) →
    IsAhead told is_of is_at s file → ((name : List ℕ) → is_of file name → is_of file' name) →
    ((at : ℕ) → is_at file at → is_at file' (at + n)) →
    ((name : List ℕ) → is_of file name → (at : ℕ) → is_at file at →
    IfSome (told name) (λ all. IsFilled all at kept n kept_bytes filled_bytes)) →
    kept ≤ length kept_bytes → kept + n ≤ length filled_bytes → length s.window ≡ filled → kept ≤ filled →
    (0 < kept → s.position ≡ s.start + filled) →
    (0 < kept → take kept kept_bytes ≡ drop (filled - kept) s.window) →
    (s' : ReaderState F) → s'.name ≡ s.name → s'.position ≡ s.position + n → s'.window ≡ take (kept + n) filled_bytes →
    s'.start ≡ s.position - kept → IsAhead told is_of is_at s' file'
reads_filled told is_of is_at s file file' filled kept n kept_bytes filled_bytes ahead keeps moves fills room room' long
    few follows moved s' same place window start = record {
      named = subst (λ (m : List ℕ). is_of file' m) (sym same) (keeps s.name ahead.named);
      placed = subst (λ (p : ℕ). is_at file' p) (sym place) (moves s.position ahead.placed);
      ahead = subst (λ (m : List ℕ). IfSome (told m) (λ all. s'.window ≡ take (length s'.window) (drop s'.start all)))
          (sym same)
          (IfSome-map2 (told s.name) (λ all. s.window ≡ take (length s.window) (drop s.start all))
          (λ all. IsFilled all s.position kept n kept_bytes filled_bytes)
          (λ all. s'.window ≡ take (length s'.window) (drop s'.start all))
          (λ all is read.
          window ∙ ahead_filled all s.window kept_bytes filled_bytes s.start s.position kept n is room room'
          (omega (arith, long, few)) (λ some. follows some ∙ ap (λ (k : ℕ). s.start + k) (sym long))
          (λ some. moved some ∙ ap (λ (k : ℕ). drop (k - kept) s.window) (sym long)) read
          ∙ ap (λ (l : List ℕ). take (length l) (drop (s.position - kept) all)) (sym window)
          ∙ ap (λ (k : ℕ). take (length s'.window) (drop k all)) (sym start))
          ahead.ahead (fills s.name ahead.named s.position ahead.placed));
    }

pub ends_filled : {F : Type 0} (told : List ℕ → Option (List ℕ)) (is_of : F → List ℕ → Type 0) (is_at : F → ℕ → Type 0)
    (s : ReaderState F) (file : F) (kept n : ℕ) (kept_bytes filled_bytes : List ℕ) →
    IsAhead told is_of is_at s file →
    ((name : List ℕ) → is_of file name → (at : ℕ) → is_at file at →
    IfSome (told name) (λ all. IsFilled all at kept n kept_bytes filled_bytes)) →
    kept ≤ s.position → kept + n ≤ length filled_bytes →
    IfSome (told s.name) (λ all.
    drop (s.position - (s.position - kept)) (take (kept + n) filled_bytes) ≡ [] → length all ≤ s.position)
ends_filled told is_of is_at s file kept n kept_bytes filled_bytes ahead fills before room =
    IfSome-map (told s.name) (λ all. IsFilled all s.position kept n kept_bytes filled_bytes)
    (λ all. drop (s.position - (s.position - kept)) (take (kept + n) filled_bytes) ≡ [] → length all ≤ s.position)
    (λ all read none. none_filled all kept_bytes filled_bytes s.position kept n before room read none)
    (fills s.name ahead.named s.position ahead.placed)

-- no bytes are copied from the end
pub none_copied : (t : Option (List ℕ)) (at : ℕ) (old : List ℕ) → IfSome t (λ all. length all ≤ at) →
    IfSome t (λ all. IsCopied all at 0 old old)
none_copied None at old end = tt
none_copied (Some all) at old end = record { within = omega arith; copied = refl; at_end = λ _ _. end }

pub none_of_empty : (t : Option (List ℕ)) (at : ℕ) (old : List ℕ) → IfSome t (λ all. all ≡ []) →
    IfSome t (λ all. IsCopied all at 0 old old)
none_of_empty t at old empty =
    none_copied t at old
    (IfSome-map t (λ all. all ≡ []) (λ all. length all ≤ at)
    (λ all is. let len = ap (λ (l : List ℕ). length l) is in omega (arith, len)) empty)
