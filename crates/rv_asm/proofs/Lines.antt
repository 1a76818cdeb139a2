-- Lines one after the other, as a loop reads them.
use Rattle.std.proofs.Common.{◌≡◌, ℕ, suc, ◌+◌, ◌<◌, ◌≤◌, Bool, true, false, cond, not, eqb, List, [], ◌∷◌, ◌++◌, length, take, drop, Result, Ok, Err, refl, sym, ap, ◌∙◌, append_assoc, length-drop, length-append, arith}
use Rattle.std.specs.List.{before_first, after_first, prefix_len, position_or_len, onto_first}
use Rattle.std.proofs.lemmas.List.{append-nil}
use Rattle.rv_asm.specs.declared.image_word.ImageWord.{ImageWord}
use Rattle.rv_asm.specs.declared.labels.Mark.{Mark}
use Rattle.rv_asm.specs.declared.fault.AsmFault.{AsmFault}
use Rattle.rv_asm.specs.declared.fault.AsmFault.TheVariants.{UnknownWord, BadOperand, BadLabel, OutOfReach, TooLong, NoMemory}
use Rattle.rv_asm.specs.Assembly.{◌>>=◌, lines_of, line_items, items_from, FailsAs}
use Rattle.std.proofs.Common.{Option}

abbrev pub feed : ℕ → Bool
feed b = eqb b 10

abbrev pub first : List ℕ → List ℕ
first text = before_first feed text

abbrev pub others : List ℕ → List ℕ
others text = after_first feed text

abbrev front_len : List ℕ → ℕ
front_len bs = prefix_len (λ x. not (feed x)) bs

no_feed : (b : ℕ) (bs : List ℕ) → (0 < length bs → lines_of bs ≡ first bs ∷ lines_of (others bs)) → onto_first b (lines_of bs) ≡ take (1 + front_len bs) (b ∷ bs) ∷ lines_of (drop (1 + front_len bs + 1) (b ∷ bs))
no_feed b [] below = refl
no_feed b (c ∷ cs) below =
    let bs = c ∷ cs in
    let e : 1 + front_len bs ≡ suc (front_len bs) = omega arith in
    let f : suc (front_len bs) + 1 ≡ suc (front_len bs + 1) = omega arith in
    rw (below (omega arith), e, f) refl

by_feed : (v : Bool) (b : ℕ) (bs : List ℕ) → (0 < length bs → lines_of bs ≡ first bs ∷ lines_of (others bs))
    → cond v ([] ∷ lines_of bs) (onto_first b (lines_of bs)) ≡ take (cond (not v) (1 + front_len bs) 0) (b ∷ bs) ∷ lines_of (drop (cond (not v) (1 + front_len bs) 0 + 1) (b ∷ bs))
by_feed true b bs below = refl
by_feed false b bs below = no_feed b bs below

pub next_line : (text : List ℕ) → 0 < length text → lines_of text ≡ first text ∷ lines_of (others text)
next_line [] h = absurd (omega arith)
next_line (b ∷ bs) h = by_feed (feed b) b bs (λ g. next_line bs g)

pub shorter : (text : List ℕ) → 0 < length text → length (others text) + 1 ≤ length text
shorter text h = omega (arith, length-drop (position_or_len feed text + 1) text)

-- ---- the items

-- what was read before, and what is still read
abbrev pub with_front : List ImageWord → Result (List ImageWord) AsmFault → Result (List ImageWord) AsmFault
with_front front read = read >>= λ x. Ok (front ++ x)

pub starts : (read : Result (List ImageWord) AsmFault) → with_front [] read ≡ read
starts (Ok x) = refl
starts (Err e) = refl

regroup : (front items : List ImageWord) (read : Result (List ImageWord) AsmFault) → with_front front (read >>= λ x. Ok (items ++ x)) ≡ with_front (front ++ items) read
regroup front items (Ok x) = ap (λ xs. Ok xs) (sym (append_assoc front items x))
regroup front items (Err e) = refl

pub goes_on : (find : List ℕ → Option Mark) (front : List ImageWord) (line : ℕ) (text : List ℕ) (items : List ImageWord) (total : Result (List ImageWord) AsmFault) → 0 < length text
    → line_items find (line + 1) (length front) (first text) ≡ Ok items → with_front front (items_from find line (length front) (lines_of text)) ≡ total
    → with_front (front ++ items) (items_from find (line + 1) (length (front ++ items)) (lines_of (others text))) ≡ total
goes_on find front line text items total pos h so_far =
    let one : with_front front (items_from find line (length front) (lines_of text)) ≡ with_front (front ++ items) (items_from find (line + 1) (length (front ++ items)) (lines_of (others text))) =
    rw (next_line text pos, h, length-append front items) (regroup front items (items_from find (line + 1) (length front + length items) (lines_of (others text)))) in
    sym one ∙ so_far

pub fails : {Y : Type 0} (e : AsmFault) (read : Result Y AsmFault) → read ≡ Err e → FailsAs e read
fails NoMemory read h = tt
fails (UnknownWord n) read h = h
fails (BadOperand n) read h = h
fails (BadLabel n) read h = h
fails (OutOfReach n) read h = h
fails TooLong read h = h

pub ends : (e : AsmFault) (find : List ℕ → Option Mark) (front : List ImageWord) (line : ℕ) (text : List ℕ) (total : Result (List ImageWord) AsmFault) → 0 < length text
    → line_items find (line + 1) (length front) (first text) ≡ Err e → with_front front (items_from find line (length front) (lines_of text)) ≡ total → FailsAs e total
ends e find front line text total pos h so_far =
    let one : with_front front (items_from find line (length front) (lines_of text)) ≡ Err e = rw (next_line text pos, h) refl in
    fails e total (sym so_far ∙ one)

pub is_done : (find : List ℕ → Option Mark) (front : List ImageWord) (line here : ℕ) (text : List ℕ) (total : Result (List ImageWord) AsmFault) → length text ≡ 0
    → with_front front (items_from find line here (lines_of text)) ≡ total → total ≡ Ok front
is_done find front line here [] total h so_far = sym so_far ∙ ap (λ xs. Ok xs) (append-nil front)
is_done find front line here (b ∷ bs) total h so_far = absurd (omega arith)
