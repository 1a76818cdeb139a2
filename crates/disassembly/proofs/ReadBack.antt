-- The assembler reads the words of a listing.
use Rattle.std.proofs.Common.{◌≡◌, ◌⊎◌, inl, inr, ℕ, suc, ◌+◌, ◌*◌, ◌^◌, ◌<◌, ◌≤◌, Bool, true, false, not, cond, eqb, ◌||◌, nat_lt, List, [], ◌∷◌, ◌++◌, length, codes, Option, Some, None, Result, Ok, Err, refl, sym, ap, ◌∙◌, arith, le-ltb, eq-eqb}
use Rattle.std.specs.List.{flat_map}
use Rattle.std.proofs.lemmas.Bool.{or_right}
use Rattle.rv_isa.specs.declared.instr.Instr.TheVariants as instr
use Rattle.rv_asm.specs.Operations.{branch_instruction}
use Rattle.rv_asm.specs.Statements.{Meaning, statement}
use Rattle.rv_asm.specs.Assembly.{lines_of, labels_of, find_in, items_of_line, at_line, line_items, items_from, assembled, SpellsItem, AreSpelled}
use Rattle.rv_asm.specs.declared.fault.AsmFault.{AsmFault}
use Rattle.rv_asm.specs.declared.fault.FaultKind.{FaultKind}
use Rattle.rv_asm.specs.declared.image_word.ImageWord.{ImageWord}
use Rattle.rv_asm.specs.declared.image_word.ImageWord.TheVariants.{Instruction}
use Rattle.rv_asm.specs.declared.labels.Mark.{Mark}
use Rattle.word_text.specs.Operands.{label}
use Rattle.disassembly.specs.declared.lead.Course.{Course}
use Rattle.disassembly.specs.declared.lead.Course.TheVariants.{To}
use Rattle.disassembly.specs.Listing.{lead, is_to, is_led_to, text_by_lead, word_line, label_lines, lines_from, with_feed, listing}
use Rattle.disassembly.specs.ReadingBack.{Fits, MeansWords, AssemblesBack}
use Rattle.disassembly.proofs.Words.{LineShape, LineRead}
use Rattle.disassembly.proofs.Lines.{AreLines, AreAmong, AreWordsBelow, all_lines, first_read, label_reads, labels_found, lines_are_lines, lines_are_utf8, lines_before, mark_at, one_more_line, two_more_lines, rest_among}

-- ---- where labels are

-- each place that is said to have a label has one
abbrev pub AreMarked : (List ℕ → Option Mark) → (base count : ℕ) → (ℕ → Bool) → Type 0
AreMarked find base count has =
    (there : ℕ) → there < count → has there ≡ true → find (label (base + 4 * there)) ≡ Some (mark_at has there)

-- and each place that a word leads to is said to have one
abbrev pub AreCovered : (ℕ → Bool) → (count place : ℕ) → List ℕ → Type 0
AreCovered has count place [] = Unit {0}
AreCovered has count place (w ∷ ws) =
    ((there : ℕ) → lead count place w ≡ To there → has there ≡ true) × AreCovered has count (place + 1) ws

led_to_first : (there : ℕ) (l : Course) (others : Bool) → l ≡ To there → (is_to there l || others) ≡ true
led_to_first there l others is = let here : eqb there there ≡ true = eq-eqb there there refl in rw (is, here) refl

covered : (has : ℕ → Bool) (count place : ℕ) (ws : List ℕ) → ((there : ℕ) → is_led_to count place ws there ≡ true → has there ≡ true) →
    AreCovered has count place ws
covered has count place [] all = tt
covered has count place (w ∷ ws) all = (
  λ there is. all there (led_to_first there (lead count place w) (is_led_to count (place + 1) ws there) is),
  covered has count (place + 1) ws (λ there is. all there (or_right (is_to there (lead count place w)) (is_led_to count (place + 1) ws there) is)),
)

-- ---- items

-- the item of a word's line
pub record ItemRead (find : List ℕ → Option Mark) (line place w : ℕ) (text : List ℕ) : Type 0 where
  pub item : ImageWord
  pub read : line_items find line place text ≡ Ok (item ∷ [])
  pub spells : SpellsItem item w

item_of_shape : (find : List ℕ → Option Mark) (base count : ℕ) (has : ℕ → Bool) (line place w : ℕ) (meant : Meaning) →
    AreMarked find base count has → ((there : ℕ) → lead count place w ≡ To there → has there ≡ true) → LineShape base count place w meant →
    (item : ImageWord) × (items_of_line find line place meant ≡ Ok (item ∷ [])) × SpellsItem item w
item_of_shape find base count has line place w meant marked first (inl s) = (s.item, rw s.meant_is refl, s.spells)
item_of_shape find base count has line place w meant marked first (inr (inl s)) = (
  Instruction (branch_instruction s.op s.rs1 s.rs2 s.imm),
  rw (s.meant_is, marked s.there s.inside (first s.there s.leads), s.counted) refl,
  s.spells,
)
item_of_shape find base count has line place w meant marked first (inr (inr s)) =
    (Instruction (instr.Jal s.rd s.imm), rw (s.meant_is, marked s.there s.inside (first s.there s.leads), s.counted) refl, s.spells)

item_read : (find : List ℕ → Option Mark) (base count : ℕ) (has : ℕ → Bool) (line place w : ℕ) → AreMarked find base count has →
    ((there : ℕ) → lead count place w ≡ To there → has there ≡ true) →
    LineRead base count place w (text_by_lead w (base + 4 * place) (lead count place w)) →
    ItemRead find line place w (word_line base count place w)
unfolding line_items
item_read find base count has line place w marked first read =
    let found = item_of_shape find base count has line place w read.meant marked first read.shape in
    record { item = found.0; read = rw (read.reads.statement_is, found.1) refl; spells = found.2 }

label_item : (find : List ℕ → Option Mark) (base line place here : ℕ) (m : Mark) → find (label (base + 4 * place)) ≡ Some m → m.line ≡ line →
    line_items find line here (label (base + 4 * place) ++ codes ":") ≡ Ok []
unfolding line_items
label_item find base line place here m found same =
    let test : eqb m.line line ≡ true = eq-eqb m.line line same in
    rw (label_reads (base + 4 * place), found, test) refl

-- the items of the lines of words
pub record ItemsRead (read : Result (List ImageWord) AsmFault) (ws : List ℕ) : Type 0 where
  pub items : List ImageWord
  pub read_is : read ≡ Ok items
  pub are_words : AreSpelled items ws
  pub count : length items ≡ length ws

one_item : (find : List ℕ → Option Mark) (before place w : ℕ) (ws text : List ℕ) (lines : List (List ℕ)) →
    ItemRead find (before + 1) place w text → ItemsRead (items_from find (before + 1) (place + 1) lines) ws →
    ItemsRead (items_from find before place (text ∷ lines)) (w ∷ ws)
one_item find before place w ws text lines first others = record {
  items = first.item ∷ others.items;
  read_is = rw (first.read, others.read_is) refl;
  are_words = (first.spells, others.are_words);
  count = ap (λ (n : ℕ). suc n) others.count;
}

after_label : (find : List ℕ → Option Mark) (before place : ℕ) (ws text : List ℕ) (lines : List (List ℕ)) →
    line_items find (before + 1) place text ≡ Ok [] → ItemsRead (items_from find (before + 1) place lines) ws →
    ItemsRead (items_from find before place (text ∷ lines)) ws
after_label find before place ws text lines nothing others = record {
  items = others.items;
  read_is = let here : place + 0 ≡ place = omega arith in rw (nothing, here, others.read_is) refl;
  are_words = others.are_words;
  count = others.count;
}

items_by_label : (find : List ℕ → Option Mark) (base count : ℕ) (has : ℕ → Bool) (place w : ℕ) (ws : List ℕ) (b : Bool) →
    AreMarked find base count has → ((there : ℕ) → lead count place w ≡ To there → has there ≡ true) → AreAmong base count place (w ∷ ws) →
    ItemsRead (items_from find (lines_before has (place + 1)) (place + 1) (lines_from base count has (place + 1) ws)) ws → has place ≡ b →
    ItemsRead (items_from find (lines_before has place) place (label_lines base place (has place) ++ word_line base count place w ∷ lines_from base count has (place + 1) ws)) (w ∷ ws)
items_by_label find base count has place w ws false marked first among rest bare =
    let read = first_read base count place w ws among in
    rw bare (one_item find (lines_before has place) place w ws (word_line base count place w) (lines_from base count has (place + 1) ws)
    (item_read find base count has (lines_before has place + 1) place w marked first read) (rw (one_more_line has place bare) rest))
items_by_label find base count has place w ws true marked first among rest labelled =
    let read = first_read base count place w ws among in
    let inside = among.inside in
    let here : place < count = omega (arith, inside) in
    rw labelled (after_label find (lines_before has place) place (w ∷ ws) (label (base + 4 * place) ++ codes ":")
    (word_line base count place w ∷ lines_from base count has (place + 1) ws)
    (label_item find base (lines_before has place + 1) place place (mark_at has place) (marked place here labelled) refl)
    (one_item find (lines_before has place + 1) place w ws (word_line base count place w) (lines_from base count has (place + 1) ws)
    (item_read find base count has (lines_before has place + 1 + 1) place w marked first read) (rw (two_more_lines has place labelled) rest)))

items_read : (find : List ℕ → Option Mark) (base count : ℕ) (has : ℕ → Bool) (place : ℕ) (ws : List ℕ) → AreMarked find base count has →
    AreCovered has count place ws → AreAmong base count place ws →
    ItemsRead (items_from find (lines_before has place) place (lines_from base count has place ws)) ws
items_read find base count has place [] marked all among = record { items = []; read_is = refl; are_words = tt; count = refl }
items_read find base count has place (w ∷ ws) marked all among =
    items_by_label find base count has place w ws (has place) marked all.0 among
    (items_read find base count has (place + 1) ws marked all.1 (rest_among base count place w ws among)) refl

-- ---- the whole text

pub reads_back : (base : ℕ) (words : List ℕ) → AreWordsBelow words → Fits base words → AssemblesBack base words
unfolding listing assembled
reads_back base words below fits =
    let count = length words in
    let has = is_led_to count 0 words in
    let lines = lines_from base count has 0 words in
    let inside : 0 + length words ≤ count = omega arith in
    let among : AreAmong base count 0 words = record { below = below; addresses = fits.addresses; inside = inside } in
    let are_lines : AreLines lines = lines_are_lines base count has 0 words among in
    let cut : lines_of (flat_map with_feed lines) ≡ lines = all_lines lines are_lines in
    let find = find_in (labels_of 0 0 lines) in
    let marked : AreMarked find base count has =
    λ there low labelled. labels_found base count has 0 there words among labelled (omega arith) (omega (arith, low)) in
    let read = items_read find base count has 0 words marked (covered has count 0 words (λ there is. is)) among in
    let few : nat_lt 65536 (length read.items) ≡ false = le-ltb _ _ (let f : length words ≤ 65536 = fits.few in let c = read.count in omega (arith, f, c)) in (
      lines_are_utf8 lines are_lines,
      record { items = read.items; spelled = rw (cut, read.read_is, few) refl; are_words = read.are_words },
    )
