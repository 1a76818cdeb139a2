-- The lines of a listing, as the assembler cuts them and finds its labels.
use Rattle.std.proofs.Common.{◌≡◌, ◌≢◌, ◌⊎◌, inl, inr, ℕ, zero, suc, ◌+◌, ◌*◌, ◌^◌, ◌<◌, ◌≤◌, Bool, true, false, true≢false, not, cond, eqb, ◌&&◌, leb, leb-true, List, [], ◌∷◌, ◌++◌, length, codes, Option, Some, None, Result, Ok, Err, refl, sym, ap, ◌∙◌, arith, append_assoc, ne_eqb, eqb-true, add-one}
use Rattle.std.specs.Prelude.{drop, get_or, slice_index_or}
use Rattle.std.specs.List.{All, flat_map, list_all, onto_first}
use Rattle.std.specs.Str.{IsAscii, IsUtf8, bytes_eq}
use Rattle.std.proofs.lemmas.Str.{IsAscii-append, IsUtf8-from_ascii}
use Rattle.std.proofs.lemmas.Str.Ascii.{IsAscii-from_all, IsAscii-nil}
use Rattle.std.proofs.lemmas.List.Sums.{AllPass-from_list_all}
use Rattle.std.proofs.lemmas.Bool.{eqb-false, and_parts}
use Rattle.std.proofs.lemmas.Slice.Eq.{bytes_eq-Decides}
use Rattle.std.proofs.lemmas.Option.{same_Some}
use Rattle.hex.specs.Hex.{lower_digits}
use Rattle.std.specs.Prelude.{slice_index}
use Rattle.cloak_model.specs.Report.{hexadecimal}
use Rattle.rv_asm.specs.Words.{value, is_name, cut, is_blank}
use Rattle.rv_asm.specs.Statements.{Meaning, Fixed, Branch, Jump, Label, statement, label_word}
use Rattle.rv_asm.specs.Assembly.{lines_of, size, mark, labels_of, find_in}
use Rattle.rv_asm.specs.declared.labels.Mark.{Mark}
use Rattle.word_text.specs.Operands.{label}
use Rattle.disassembly.specs.Listing.{lead, text_by_lead, word_line, label_lines, lines_from, with_feed}
use Rattle.disassembly.proofs.Bytes.{all_of, not_zero, lacks, is_solid, cut_at, before_none, alone}
use Rattle.disassembly.proofs.Numbers.{by_digit, hexadecimal_read}
use Rattle.disassembly.proofs.Operands as operands
use Rattle.disassembly.proofs.Operands.{are_word, joined, words_are_operand, hexadecimal_all}
use Rattle.disassembly.proofs.Statements.{are_line, is_line_byte, operand_in_line}
use Rattle.disassembly.proofs.Words.{IsItem, IsLineBranch, IsLineJump, LineShape, LineRead, line_read}

-- ---- the line of a label

hex_digit_lacks_colon : (d : ℕ) → d < 16 → not (eqb (slice_index lower_digits d) 58) ≡ true
hex_digit_lacks_colon d h =
    by_digit (λ d. not (eqb (slice_index lower_digits d) 58) ≡ true) refl refl refl refl refl refl refl refl refl refl refl refl refl refl refl refl d h

label_lacks_colon : (at : ℕ) → lacks 58 (label at) ≡ true
label_lacks_colon at = rw (hexadecimal_all (λ b. not (eqb b 58)) hex_digit_lacks_colon at) refl

label_line_is_word : (at : ℕ) → are_word (label at ++ codes ":") ≡ true
label_line_is_word at = joined operands.is_word_byte (label at) (58 ∷ []) (operands.label_is_word at) refl

pub label_reads : (at : ℕ) → statement (label at ++ codes ":") ≡ Ok (Label (label at))
unfolding statement label_word
label_reads at =
    let line = label at ++ codes ":" in
    let bytes = words_are_operand line (label_line_is_word at) in
    let plain : lacks 35 line ≡ true = all_of operands.is_operand_byte (λ b. not (eqb b 35)) operands.operand_lacks_hash line bytes in
    let whole : is_solid line ≡ true = all_of operands.is_operand_byte (λ b. not (is_blank b)) operands.operand_is_solid line bytes in
    let some : 0 < length line = omega arith in
    rw (before_none 35 line plain, alone line some whole, not_zero (length line) some, cut_at 58 (label at) [] (label_lacks_colon at), operands.label_is_name at) refl

-- ---- lines and their ends

abbrev pub AreLines : List (List ℕ) → Type 0
AreLines [] = Unit {0}
AreLines (line ∷ lines) = (are_line line ≡ true) × AreLines lines

no_feed : (b : ℕ) → is_line_byte b ≡ true → eqb b 10 ≡ false
no_feed b h = let low = leb-true 32 b (and_parts (leb 32 b) (leb b 122) h).0 in ne_eqb b 10 (λ e. omega (arith, low, e))

one_line : (line rest : List ℕ) → are_line line ≡ true → lines_of (line ++ 10 ∷ rest) ≡ line ∷ lines_of rest
one_line [] rest h = refl
one_line (b ∷ bs) rest h = let parts = and_parts (is_line_byte b) (are_line bs) h in rw (no_feed b parts.0, one_line bs rest parts.1) refl

pub all_lines : (lines : List (List ℕ)) → AreLines lines → lines_of (flat_map with_feed lines) ≡ lines
all_lines [] h = refl
all_lines (line ∷ lines) h =
    rw (append_assoc line (10 ∷ []) (flat_map with_feed lines), one_line line (flat_map with_feed lines) h.0, all_lines lines h.1) refl

abbrev is_low : ℕ → Bool
is_low b = leb b 122

line_is_low : (b : ℕ) → is_line_byte b ≡ true → is_low b ≡ true
line_is_low b h = (and_parts (leb 32 b) (leb b 122) h).1

low_is_ascii : (text : List ℕ) → list_all is_low text ≡ true → IsAscii text
low_is_ascii text h =
    IsAscii-from_all text (λ k d inside.
    let low : slice_index_or text k d ≤ 122 = leb-true (slice_index_or text k d) 122 (AllPass-from_list_all is_low text h k d inside) in
    omega (arith, low))

lines_are_ascii : (lines : List (List ℕ)) → AreLines lines → IsAscii (flat_map with_feed lines)
lines_are_ascii [] h = IsAscii-nil
lines_are_ascii (line ∷ lines) h =
    IsAscii-append (line ++ 10 ∷ []) (flat_map with_feed lines)
    (low_is_ascii (line ++ 10 ∷ []) (joined is_low line (10 ∷ []) (all_of is_line_byte is_low line_is_low line h.0) refl))
    (lines_are_ascii lines h.1)

pub lines_are_utf8 : (lines : List (List ℕ)) → AreLines lines → IsUtf8 (flat_map with_feed lines)
lines_are_utf8 lines h = IsUtf8-from_ascii _ (lines_are_ascii lines h)

-- ---- what is known of words that are shown

abbrev pub AreWordsBelow : List ℕ → Type 0
AreWordsBelow [] = Unit {0}
AreWordsBelow (w ∷ ws) = (w < 2 ^ 32) × AreWordsBelow ws

pub words_below : (ws : List ℕ) → ((i : ℕ) → get_or ws i 0 < 2 ^ 32) → AreWordsBelow ws
words_below [] h = tt
words_below (w ∷ ws) h = (h 0, words_below ws (λ i. h (suc i)))

-- the words from a place on are among `count` words, of which each has an address
pub record AreAmong (base count place : ℕ) (ws : List ℕ) : Type 0 where
  pub below : AreWordsBelow ws
  pub addresses : base + 4 * count ≤ 2 ^ 32
  pub inside : place + length ws ≤ count

pub rest_among : (base count place w : ℕ) (ws : List ℕ) → AreAmong base count place (w ∷ ws) → AreAmong base count (place + 1) ws
rest_among base count place w ws among =
    record { below = among.below.1; addresses = among.addresses; inside = let inside = among.inside in omega (arith, inside) }

pub first_read : (base count place w : ℕ) (ws : List ℕ) → AreAmong base count place (w ∷ ws) →
    LineRead base count place w (text_by_lead w (base + 4 * place) (lead count place w))
first_read base count place w ws among =
    line_read base count place w among.below.0 among.addresses (let inside = among.inside in omega (arith, inside))

word_line_is_line : (base count place w : ℕ) → LineRead base count place w (text_by_lead w (base + 4 * place) (lead count place w)) →
    are_line (word_line base count place w) ≡ true
word_line_is_line base count place w read = rw read.reads.line refl

with_label_line : (base place : ℕ) (b : Bool) (lines : List (List ℕ)) → AreLines lines → AreLines (label_lines base place b ++ lines)
with_label_line base place true lines are =
    let text = label (base + 4 * place) ++ codes ":" in
    (operand_in_line text (words_are_operand text (label_line_is_word (base + 4 * place))), are)
with_label_line base place false lines are = are

pub lines_are_lines : (base count : ℕ) (has : ℕ → Bool) (place : ℕ) (ws : List ℕ) → AreAmong base count place ws →
    AreLines (lines_from base count has place ws)
lines_are_lines base count has place [] among = tt
lines_are_lines base count has place (w ∷ ws) among =
    with_label_line base place (has place) (word_line base count place w ∷ lines_from base count has (place + 1) ws) (
      word_line_is_line base count place w (first_read base count place w ws among),
      lines_are_lines base count has (place + 1) ws (rest_among base count place w ws among),
    )

-- ---- labels

hexadecimal_differs : (a b : ℕ) → a < 2 ^ 32 → b < 2 ^ 32 → hexadecimal a ≡ hexadecimal b → a ≡ b
hexadecimal_differs a b low high same =
    same_Some a b (sym (hexadecimal_read a low) ∙ (ap (λ (t : List ℕ). value 16 t) same ∙ hexadecimal_read b high))

other_label : (a b : ℕ) → a < 2 ^ 32 → b < 2 ^ 32 → a ≢ b → bytes_eq (label a) (label b) ≡ false
other_label a b low high other = go (bytes_eq (label a) (label b)) refl
  where
    go : (t : Bool) → bytes_eq (label a) (label b) ≡ t → t ≡ false
    go false is = refl
    go true is =
        let same : label a ≡ label b = (bytes_eq-Decides (label a) (label b)).0 is in
        absurd (other (hexadecimal_differs a b low high (ap (λ (t : List ℕ). drop 1 t) same)))

same_label : (a : ℕ) → bytes_eq (label a) (label a) ≡ true
same_label a = (bytes_eq-Decides (label a) (label a)).1 refl

-- how many lines stand before a place
abbrev pub lines_before : (ℕ → Bool) → ℕ → ℕ
lines_before has zero = 0
lines_before has (suc place) = lines_before has place + cond (has place) 2 1

-- the mark of the label at a place
abbrev pub mark_at : (ℕ → Bool) → ℕ → Mark
mark_at has place = record { line = lines_before has place + 1; place = place }

pub one_more_line : (has : ℕ → Bool) (place : ℕ) → has place ≡ false → lines_before has place + 1 ≡ lines_before has (place + 1)
one_more_line has place h = rw (add-one place, h) refl

pub two_more_lines : (has : ℕ → Bool) (place : ℕ) → has place ≡ true → lines_before has place + 1 + 1 ≡ lines_before has (place + 1)
two_more_lines has place h = rw (add-one place, h) (omega arith)

-- a word's line defines no label and has one word
pub record IsOneWord (meant : Meaning) : Type 0 where
  pub no_mark : (line place : ℕ) → mark line place (Ok meant) ≡ []
  pub one : size (Ok meant) ≡ 1

pub one_word : (base count place w : ℕ) (meant : Meaning) → LineShape base count place w meant → IsOneWord meant
one_word base count place w meant (inl s) = record { no_mark = λ line p. rw s.meant_is refl; one = rw s.meant_is refl }
one_word base count place w meant (inr (inl s)) = record { no_mark = λ line p. rw s.meant_is refl; one = rw s.meant_is refl }
one_word base count place w meant (inr (inr s)) = record { no_mark = λ line p. rw s.meant_is refl; one = rw s.meant_is refl }

abbrev name : (base place : ℕ) → List ℕ
name base place = label (base + 4 * place)

-- the labels after a word's line
after_word : (base count place w line at : ℕ) (lines : List (List ℕ)) → LineRead base count place w (text_by_lead w (base + 4 * place) (lead count place w)) →
    labels_of line at (word_line base count place w ∷ lines) ≡ labels_of (line + 1) (at + 1) lines
after_word base count place w line at lines read =
    let one = one_word base count place w read.meant read.shape in
    rw (read.reads.statement_is, one.no_mark (line + 1) at, one.one) refl

-- what is found after the lines of the word at a place, if not there
abbrev FindsLater : (base count : ℕ) (has : ℕ → Bool) (place there : ℕ) (ws : List ℕ) → Type 0
FindsLater base count has place there ws =
    place ≢ there → find_in (labels_of (lines_before has (place + 1)) (place + 1) (lines_from base count has (place + 1) ws)) (name base there)
    ≡ Some (mark_at has there)

found_here : (base count : ℕ) (has : ℕ → Bool) (place there w : ℕ) (ws : List ℕ) (here : Bool) → AreAmong base count place (w ∷ ws) →
    there < place + length (w ∷ ws) → FindsLater base count has place there ws → eqb place there ≡ here → has place ≡ true →
    find_in ((name base place, mark_at has place)
    ∷ labels_of (lines_before has place + 1) (place + 0) (word_line base count place w ∷ lines_from base count has (place + 1) ws)) (name base there)
    ≡ Some (mark_at has there)
found_here base count has place there w ws true among to later is marked =
    let same : place ≡ there = eqb-true place there is in
    let yes : bytes_eq (name base there) (name base place) ≡ true = rw same (same_label (base + 4 * there)) in
    rw yes (ap (λ (p : ℕ). Some (mark_at has p)) same)
found_here base count has place there w ws false among to later is marked =
    let other : place ≢ there = eqb-false place there is in
    let inside = among.inside in
    let fits = among.addresses in
    let no : bytes_eq (name base there) (name base place) ≡ false =
    other_label (base + 4 * there) (base + 4 * place) (omega (arith, fits, inside, to)) (omega (arith, fits, inside))
    (λ e. other (omega (arith, e))) in
    let here : place + 0 + 1 ≡ place + 1 = omega arith in
    rw (
      no,
      after_word base count place w (lines_before has place + 1) (place + 0) (lines_from base count has (place + 1) ws)
          (first_read base count place w ws among),
      two_more_lines has place marked,
      here,
    ) (later other)

found_by_label : (base count : ℕ) (has : ℕ → Bool) (place there w : ℕ) (ws : List ℕ) (b : Bool) → AreAmong base count place (w ∷ ws) →
    has there ≡ true → there < place + length (w ∷ ws) → FindsLater base count has place there ws → has place ≡ b →
    find_in (labels_of (lines_before has place) place
    (label_lines base place (has place) ++ word_line base count place w ∷ lines_from base count has (place + 1) ws)) (name base there)
    ≡ Some (mark_at has there)
found_by_label base count has place there w ws false among labelled to later bare =
    let other : place ≢ there = λ same. true≢false (sym labelled ∙ (ap has (sym same) ∙ bare)) in
    rw (
      bare,
      after_word base count place w (lines_before has place) place (lines_from base count has (place + 1) ws)
          (first_read base count place w ws among),
      one_more_line has place bare,
    ) (later other)
found_by_label base count has place there w ws true among labelled to later marked =
    rw (marked, label_reads (base + 4 * place)) (found_here base count has place there w ws (eqb place there) among to later refl marked)

pub labels_found : (base count : ℕ) (has : ℕ → Bool) (place there : ℕ) (ws : List ℕ) → AreAmong base count place ws → has there ≡ true →
    place ≤ there → there < place + length ws →
    find_in (labels_of (lines_before has place) place (lines_from base count has place ws)) (name base there) ≡ Some (mark_at has there)
labels_found base count has place there [] among labelled from to = absurd (omega (arith, from, to))
labels_found base count has place there (w ∷ ws) among labelled from to =
    found_by_label base count has place there w ws (has place) among labelled to
    (λ other.
    labels_found base count has (place + 1) there ws (rest_among base count place w ws among) labelled (omega (arith, from, other)) (omega (arith, to)))
    refl
