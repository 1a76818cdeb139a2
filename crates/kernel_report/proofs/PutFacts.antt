-- Texts that are put one after another.
use Rattle.std.proofs.Common.{◌≡◌, ℕ, suc, ◌+◌, ◌<◌, List, [], ◌∷◌, ◌++◌, length, take, get_or, codes, ◌∙◌, ap, sym}
use Rattle.std.proofs.Common.{subst, append_assoc, arith, length-take, length-drop, drop, refl, Option, Result, Ok}
use Rattle.std.proofs.Common.{Err}
use Rattle.std.proofs.Common.{OnOk, OnErr}
use Rattle.std.proofs.lemmas.List.{append-nil, take_more, take_all}
use Rattle.cloak_model.specs.Hart.{Hart}
use Rattle.cloak_model.specs.Report.{hexadecimal, words_text, hart_lines, harts_lines}
use Rattle.cloak_base.specs.declared.causes.Failed.{Failed}
use Rattle.io_traits.specs.Told.{Grows, GrowsByFront, Counts, Puts}
use Rattle.io_traits.proofs.ToldFacts.{Grows-none, Grows-append, GrowsByFront-append, GrowsByFront-first}
use Rattle.io_traits.proofs.ToldFacts.{Rose-after}
use Rattle.kernel_report.specs.Putting.{Putting, PutsMore}

-- one text after another
pub then : {old mid new : Putting} {x y : List ℕ} → PutsMore old mid x → PutsMore mid new y → PutsMore old new (x ++ y)
then {old} {mid} {new} {x} {y} first second = record {
  more = λ told count texts before.
      subst (λ (whole : List ℕ). Puts told new.taken count new.faults whole new.so_far) (append_assoc texts x y)
      (second.more told count (texts ++ x) (first.more told count texts before));
}

-- nothing more
pub PutsMore-none : (at : Putting) → PutsMore at at []
PutsMore-none at = record {
  more = λ told count texts before.
      subst (λ (whole : List ℕ). Puts told at.taken count at.faults whole at.so_far) (sym (append-nil texts)) before;
}

-- a text after those that were put
PutsMore-put : (a b : Option (List ℕ)) (m n : ℕ) (u : Unit) (s : Result Unit Failed) (text : List ℕ) →
    OnOk s (Grows a b text) → OnErr s (GrowsByFront a b text) → Counts m n s →
    PutsMore (record { taken = a; faults = m; so_far = Ok u }) (record { taken = b; faults = n; so_far = s }) text
PutsMore-put a b m n u (Ok v) text grows front counts = record {
  more = λ told count texts before.
      (Grows-append told a b texts text before.0 grows, counts ∙ before.1);
}
PutsMore-put a b m n u (Err e) text grows front counts = record {
  more = λ told count texts before.
      (GrowsByFront-append told a b texts text before.0 front, Rose-after count m n before.1 counts);
}

-- the same, if all is well so far
pub put_behind : {a b : Option (List ℕ)} {m n : ℕ} {u : Unit} {r s : Result Unit Failed} {text : List ℕ} → r ≡ Ok u →
    OnOk s (Grows a b text) → OnErr s (GrowsByFront a b text) → Counts m n s →
    PutsMore (record { taken = a; faults = m; so_far = r }) (record { taken = b; faults = n; so_far = s }) text
put_behind {a} {b} {m} {n} {u} {r} {s} {text} well grows front counts =
    rw well (PutsMore-put a b m n u s text grows front counts)

-- no text if something failed before
pub PutsMore-failed : (a : Option (List ℕ)) (n : ℕ) (e : Failed) (text : List ℕ) →
    let at : Putting = record { taken = a; faults = n; so_far = Err e } in PutsMore at at text
PutsMore-failed a n e text =
    record { more = λ told count texts before. (GrowsByFront-first told a texts text before.0, before.1) }

-- from the first text on
pub Puts-all : (old new : Putting) (text : List ℕ) → old.so_far ≡ Ok tt → PutsMore old new text →
    Puts old.taken new.taken old.faults new.faults text new.so_far
Puts-all old new text well puts =
    puts.more old.taken old.faults []
    (subst (λ (r : Result Unit Failed). Puts old.taken old.taken old.faults old.faults [] r) (sym well)
    (Grows-none old.taken, refl))

-- the same text under another name
pub text_is : {old new : Putting} {x y : List ℕ} → PutsMore old new x → x ≡ y → PutsMore old new y
text_is {old} {new} {x} {y} puts same = subst (λ (text : List ℕ). PutsMore old new text) same puts

-- one word more
words_text-last : (words : List ℕ) (w : ℕ) →
    words_text (words ++ w ∷ []) ≡ words_text words ++ (codes " " ++ hexadecimal w)
words_text-last [] w = append-nil (codes " " ++ hexadecimal w)
words_text-last (v ∷ words) w =
    ap (λ (l : List ℕ). (codes " " ++ hexadecimal v) ++ l) (words_text-last words w)
    ∙ sym (append_assoc (codes " " ++ hexadecimal v) (words_text words) (codes " " ++ hexadecimal w))

pub words_text-take_more : (words : List ℕ) (i d : ℕ) → i < length words →
    words_text (take i words) ++ (codes " " ++ hexadecimal (get_or words i d)) ≡ words_text (take (i + 1) words)
words_text-take_more words i d low =
    sym (ap words_text (take_more words i d low) ∙ words_text-last (take i words) (get_or words i d))

-- one hart more
harts_lines-last : (number : ℕ) (harts : List Hart) (h : Hart) →
    harts_lines number (harts ++ h ∷ []) ≡ harts_lines number harts ++ hart_lines (number + length harts) h
harts_lines-last number [] h =
    append-nil (hart_lines number h) ∙ ap (λ n. hart_lines n h) (let e : number ≡ number + 0 = omega arith in e)
harts_lines-last number (g ∷ harts) h =
    ap (λ (l : List ℕ). hart_lines number g ++ l)
    (harts_lines-last (number + 1) harts h ∙ ap (λ n. harts_lines (number + 1) harts ++ hart_lines n h)
    (let e : number + 1 + length harts ≡ number + suc (length harts) = omega arith in e))
    ∙ sym (append_assoc (hart_lines number g) (harts_lines (number + 1) harts)
    (hart_lines (number + suc (length harts)) h))

pub harts_lines-take_more : (harts : List Hart) (i : ℕ) (d : Hart) → i < length harts →
    harts_lines 0 (take i harts) ++ hart_lines i (get_or harts i d) ≡ harts_lines 0 (take (i + 1) harts)
harts_lines-take_more harts i d low =
    let whole : length (take i harts) ≡ i = (let e = length-take i harts in omega (arith, e)) in
    ap (λ n. harts_lines 0 (take i harts) ++ hart_lines n (get_or harts i d))
    (let e : i ≡ 0 + length (take i harts) = omega (arith, whole) in e)
    ∙ sym (ap (harts_lines 0) (take_more harts i d low) ∙ harts_lines-last 0 (take i harts) (get_or harts i d))

-- the words of all registers but the first
pub all_but_first : (words regs : List ℕ) {same : List ℕ} → words ≡ regs → length same ≡ 32 → words ≡ same →
    take 31 (drop 1 words) ≡ drop 1 regs
all_but_first words regs {same} is count of_same =
    let long : length words ≡ 32 = ap (λ (l : List ℕ). length l) of_same ∙ count in
    take_all 31 (drop 1 words) (let rest = length-drop 1 words in omega (arith, long, rest)) ∙ ap
    (λ (l : List ℕ). drop 1 l) is
