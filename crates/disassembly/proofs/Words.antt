-- What the assembler reads in the line of a word.
use Rattle.std.proofs.Common.{◌≡◌, ◌⊎◌, inl, inr, ℕ, suc, cond, true≢false, ◌+◌, ◌-◌, ◌*◌, ◌/◌, ◌%◌, ◌^◌, ◌<◌, ◌≤◌, Bool, true, false, ◌&&◌, ◌==◌, List, [], ◌∷◌, ◌++◌, codes, Option, Some, None, IfSome, Result, Ok, Err, refl, sym, ap, ◌∙◌, arith, nat_lt, subst, eqb-true, ltb-true, lt-ltb, le-leb, leb-true, leb}
use Rattle.std.specs.Prelude.{ℤ, pos, negsuc, option_and_then, neg_ℤ}
use Rattle.std.proofs.lemmas.Bool.{lt-leb, and_parts}
use Rattle.cloak_model.specs.Effect.{offset}
use Rattle.rv_isa.specs.Range.{InRange, FitsSigned}
use Rattle.rv_isa.specs.Table.{instruction}
use Rattle.rv_isa.specs.declared.instr.Instr.{Instr}
use Rattle.rv_isa.specs.declared.instr.Instr.TheVariants as instr
use Rattle.rv_atomic.specs.Table.{atomic_instruction}
use Rattle.rv_atomic.specs.declared.atomic.Atomic as atomics
use Rattle.rv_asm.specs.Operations.{branch_instruction}
use Rattle.rv_asm.specs.Statements.{Meaning, Fixed, Branch, Jump, IsAtomicInRange}
use Rattle.rv_asm.specs.Assembly.{SpellsItem, offset_between}
use Rattle.rv_asm.specs.declared.fault.FaultKind.{FaultKind}
use Rattle.rv_asm.specs.declared.image_word.ImageWord.{ImageWord}
use Rattle.rv_asm.specs.declared.image_word.ImageWord.TheVariants.{Instruction, Atomic, Data}
use Rattle.rv_asm.specs.declared.operation.BranchOp.{BranchOp}
use Rattle.word_text.specs.Operands.{label, target}
use Rattle.word_text.specs.Text.{instruction_text, number_text, atomic_text, text_with, word_text, has_form}
use Rattle.disassembly.specs.declared.lead.Course.{Course}
use Rattle.disassembly.specs.declared.lead.Course.TheVariants.{Nowhere, To, Away}
use Rattle.disassembly.specs.Listing.{reach, led, led_by, lead, text_by_lead, word_line}
use Rattle.disassembly.proofs.Statements.{Reads, number_reads}
use Rattle.disassembly.proofs.Instructions.{IsPlain, IsBranch, IsJump, Understood, understood}
use Rattle.disassembly.proofs.Atomics.{atomic_reads}
use Rattle.disassembly.proofs.Ranges.{instruction_range, atomic_range}

-- how far a word leads
abbrev pub word_reach : ℕ → Option ℤ
word_reach w = option_and_then reach (instruction w)

-- the word is one item
pub record IsItem (w : ℕ) (meant : Meaning) : Type 0 where
  pub item : ImageWord
  pub meant_is : meant ≡ Fixed (item ∷ [])
  pub spells : SpellsItem item w

-- it is a branch to a label
pub record IsWordBranch (w at : ℕ) (meant : Meaning) : Type 0 where
  pub op : BranchOp
  pub rs1 : ℕ
  pub rs2 : ℕ
  pub imm : ℤ
  pub spells : SpellsItem (Instruction (branch_instruction op rs1 rs2 imm)) w
  pub meant_is : meant ≡ Branch op rs1 rs2 (target at imm)
  pub leads : word_reach w ≡ Some imm
  pub fits : FitsSigned 13 imm

-- or a jump
pub record IsWordJump (w at : ℕ) (meant : Meaning) : Type 0 where
  pub rd : ℕ
  pub imm : ℤ
  pub spells : SpellsItem (Instruction (instr.Jal rd imm)) w
  pub meant_is : meant ≡ Jump rd (target at imm)
  pub leads : word_reach w ≡ Some imm
  pub fits : FitsSigned 21 imm

abbrev pub WordShape : (w at : ℕ) → Meaning → Type 0
WordShape w at meant = IsItem w meant ⊎ (IsWordBranch w at meant ⊎ IsWordJump w at meant)

pub record ReadAs (w at : ℕ) (text : List ℕ) : Type 0 where
  pub meant : Meaning
  pub reads : Reads text meant
  pub shape : WordShape w at meant

by_number : (w at : ℕ) → w < 2 ^ 32 → ReadAs w at (number_text w)
by_number w at below = record {
  meant = Fixed (Data w ∷ []);
  reads = number_reads w below;
  shape = inl (record { item = Data w; meant_is = refl; spells = refl });
}

of_shape : (w at : ℕ) (i : Instr) (meant : Meaning) → w < 2 ^ 32 → instruction w ≡ Some i →
    IsPlain i meant ⊎ (IsBranch at i meant ⊎ IsJump at i meant) → WordShape w at meant
of_shape w at i meant below is (inl s) =
    inl (record { item = Instruction i; meant_is = s.meant_is; spells = (below, is) })
of_shape w at i meant below is (inr (inl s)) = inr (inl (record {
  op = s.op;
  rs1 = s.rs1;
  rs2 = s.rs2;
  imm = s.imm;
  spells = (below, is ∙ ap (λ (j : Instr). Some j) s.instruction_is);
  meant_is = s.meant_is;
  leads = ap (λ (o : Option Instr). option_and_then reach o) is ∙ s.leads;
  fits = s.fits;
}))
of_shape w at i meant below is (inr (inr s)) = inr (inr (record {
  rd = s.rd;
  imm = s.imm;
  spells = (below, is ∙ ap (λ (j : Instr). Some j) s.instruction_is);
  meant_is = s.meant_is;
  leads = ap (λ (o : Option Instr). option_and_then reach o) is ∙ s.leads;
  fits = s.fits;
}))

of_instruction : (w at : ℕ) (i : Instr) → w < 2 ^ 32 → instruction w ≡ Some i → InRange i → has_form i ≡ true → ReadAs w at (instruction_text at i)
of_instruction w at i below is range form =
    let u = understood at i range form in
    record { meant = u.meant; reads = u.reads; shape = of_shape w at i u.meant below is u.shape }

by_form : (w at : ℕ) (i : Instr) (b : Bool) → w < 2 ^ 32 → instruction w ≡ Some i → InRange i → has_form i ≡ b →
    ReadAs w at (text_with w at (Some i) None)
by_form w at i true below is range form = rw form (of_instruction w at i below is range form)
by_form w at i false below is range form = rw form (by_number w at below)

read_with : (w at : ℕ) (o : Option Instr) (a : Option atomics.Atomic) → w < 2 ^ 32 → instruction w ≡ o → atomic_instruction w ≡ a →
    IfSome o InRange → IfSome a IsAtomicInRange → ReadAs w at (text_with w at o a)
read_with w at (Some i) a below is a_is range a_range = by_form w at i (has_form i) below is range refl
read_with w at None (Some a) below is a_is range a_range = record {
  meant = Fixed (Atomic a ∷ []);
  reads = atomic_reads a a_range;
  shape = inl (record { item = Atomic a; meant_is = refl; spells = (below, a_is) });
}
read_with w at None None below is a_is range a_range = by_number w at below

-- each word at each address
pub word_read : (w at : ℕ) → w < 2 ^ 32 → ReadAs w at (word_text w at)
unfolding word_text
word_read w at below =
    read_with w at (instruction w) (atomic_instruction w) below refl refl (instruction_range w) (atomic_range w)

-- ---- where it leads

-- the label of a word, so far from here in words, as the assembler counts
pub record LeadsTo (base count place : ℕ) (imm : ℤ) (there : ℕ) : Type 0 where
  pub inside : there < count
  pub address : offset (base + 4 * place) imm ≡ base + 4 * there
  pub branch : FitsSigned 13 imm → offset_between 1024 place there ≡ Ok imm
  pub jump : FitsSigned 21 imm → offset_between 262144 place there ≡ Ok imm

ahead : (most place n : ℕ) → n % 4 ≡ 0 → n < 4 * most → offset_between most place (place + n / 4) ≡ Ok (pos n)
unfolding offset_between
ahead most place n whole below =
    let same : place + n / 4 - place ≡ n / 4 = omega arith in
    let bytes : 4 * (n / 4) ≡ n = omega (arith, whole) in
    rw (le-leb place (place + n / 4) (omega arith), same, lt-ltb (n / 4) most (omega (arith, below)), bytes) refl

behind : (most place n : ℕ) → suc n % 4 ≡ 0 → suc n / 4 ≤ place → suc n ≤ 4 * most →
    offset_between most place (place - suc n / 4) ≡ Ok (negsuc n)
unfolding offset_between
behind most place n whole inside below =
    let far : place - suc n / 4 < place = omega (arith, whole, inside) in
    let same : place - (place - suc n / 4) ≡ suc n / 4 = omega (arith, inside) in
    let bytes : 4 * (suc n / 4) ≡ suc n = omega (arith, whole) in
    let few : suc n / 4 ≤ most = omega (arith, below) in
    rw (lt-leb place (place - suc n / 4) far, same, le-leb (suc n / 4) most few, bytes) refl

abbrev place_of : Course → ℕ
place_of Nowhere = 0
place_of (To place) = place
place_of Away = 0

abbrev is_away : Course → Bool
is_away Nowhere = false
is_away (To place) = false
is_away Away = true

abbrev is_nowhere : Course → Bool
is_nowhere Nowhere = true
is_nowhere (To place) = false
is_nowhere Away = false

away_is_none : (there : ℕ) → Away ≡ To there → ⊥
away_is_none there is = let no : true ≡ false = ap is_away is in absurd (true≢false no)

to_is : (a b : ℕ) → To a ≡ To b → a ≡ b
to_is a b is = ap place_of is

leads_ahead : (base count place n : ℕ) → base + 4 * count ≤ 2 ^ 32 → n % 4 ≡ 0 → place + n / 4 < count →
    LeadsTo base count place (pos n) (place + n / 4)
leads_ahead base count place n fits whole inside = record {
  inside = inside;
  address =
      let sum : (base + 4 * place + n % 2 ^ 32) % 2 ^ 32 ≡ base + 4 * (place + n / 4) = omega (arith, fits, whole, inside) in
      sum;
  branch = λ few. ahead 1024 place n whole (omega (arith, few));
  jump = λ few. ahead 262144 place n whole (omega (arith, few));
}

leads_behind : (base count place n : ℕ) → base + 4 * count ≤ 2 ^ 32 → place < count → suc n % 4 ≡ 0 → suc n / 4 ≤ place →
    LeadsTo base count place (negsuc n) (place - suc n / 4)
leads_behind base count place n fits here whole inside = record {
  inside = omega (arith, here, inside);
  address =
      let sum : (base + 4 * place + (2 ^ 32 - 1 - n % 2 ^ 32)) % 2 ^ 32 ≡ base + 4 * (place - suc n / 4) =
      omega (arith, fits, here, whole, inside) in
      sum;
  branch = λ few. behind 1024 place n whole inside (omega (arith, few));
  jump = λ few. behind 262144 place n whole inside (omega (arith, few));
}

pub leads_to : (base count place there : ℕ) (imm : ℤ) → base + 4 * count ≤ 2 ^ 32 → place < count → led count place imm ≡ To there →
    LeadsTo base count place imm there
unfolding led
leads_to base count place there (pos n) fits here is = go _ refl is
  where
    go : (b : Bool) → ((n % 4 == 0) && nat_lt (place + n / 4) count) ≡ b → cond b (To (place + n / 4)) Away ≡ To there →
        LeadsTo base count place (pos n) there
    go true test is =
        let parts = and_parts _ _ test in
        subst (λ (p : ℕ). LeadsTo base count place (pos n) p) (to_is _ _ is)
        (leads_ahead base count place n fits (eqb-true _ _ parts.0) (ltb-true _ _ parts.1))
    go false test is = absurd (away_is_none there is)
leads_to base count place there (negsuc n) fits here is = go _ refl is
  where
    go : (b : Bool) → ((suc n % 4 == 0) && leb (suc n / 4) place) ≡ b → cond b (To (place - suc n / 4)) Away ≡ To there →
        LeadsTo base count place (negsuc n) there
    go true test is =
        let parts = and_parts _ _ test in
        subst (λ (p : ℕ). LeadsTo base count place (negsuc n) p) (to_is _ _ is)
        (leads_behind base count place n fits here (eqb-true _ _ parts.0) (leb-true _ _ parts.1))
    go false test is = absurd (away_is_none there is)

led_is_somewhere : (count place : ℕ) (imm : ℤ) → led count place imm ≡ Nowhere → ⊥
unfolding led
led_is_somewhere count place (pos n) is = go ((n % 4 == 0) && nat_lt (place + n / 4) count) is
  where
    go : (b : Bool) → cond b (To (place + n / 4)) Away ≡ Nowhere → ⊥
    go true is = let no : false ≡ true = ap is_nowhere is in absurd (true≢false (sym no))
    go false is = let no : true ≡ false = ap is_away is in absurd (true≢false no)
led_is_somewhere count place (negsuc n) is = go ((suc n % 4 == 0) && leb (suc n / 4) place) is
  where
    go : (b : Bool) → cond b (To (place - suc n / 4)) Away ≡ Nowhere → ⊥
    go true is = let no : false ≡ true = ap is_nowhere is in absurd (true≢false (sym no))
    go false is = let no : true ≡ false = ap is_away is in absurd (true≢false no)

-- ---- a word's line

-- a branch to the word at a place
pub record IsLineBranch (base count place w : ℕ) (meant : Meaning) : Type 0 where
  pub op : BranchOp
  pub rs1 : ℕ
  pub rs2 : ℕ
  pub imm : ℤ
  pub there : ℕ
  pub spells : SpellsItem (Instruction (branch_instruction op rs1 rs2 imm)) w
  pub meant_is : meant ≡ Branch op rs1 rs2 (label (base + 4 * there))
  pub leads : lead count place w ≡ To there
  pub inside : there < count
  pub counted : offset_between 1024 place there ≡ Ok imm

pub record IsLineJump (base count place w : ℕ) (meant : Meaning) : Type 0 where
  pub rd : ℕ
  pub imm : ℤ
  pub there : ℕ
  pub spells : SpellsItem (Instruction (instr.Jal rd imm)) w
  pub meant_is : meant ≡ Jump rd (label (base + 4 * there))
  pub leads : lead count place w ≡ To there
  pub inside : there < count
  pub counted : offset_between 262144 place there ≡ Ok imm

abbrev pub LineShape : (base count place w : ℕ) → Meaning → Type 0
LineShape base count place w meant =
    IsItem w meant ⊎ (IsLineBranch base count place w meant ⊎ IsLineJump base count place w meant)

pub record LineRead (base count place w : ℕ) (text : List ℕ) : Type 0 where
  pub meant : Meaning
  pub reads : Reads text meant
  pub shape : LineShape base count place w meant

-- a branch or a jump that does not lead away leads to a word
leads_there : (count place w : ℕ) (imm : ℤ) (l : Course) → word_reach w ≡ Some imm → lead count place w ≡ l → is_away l ≡ false →
    (there : ℕ) × (led count place imm ≡ To there) × (lead count place w ≡ To there)
leads_there count place w imm Nowhere leads is near =
    let same : lead count place w ≡ led count place imm = ap (led_by count place) leads in
    absurd (led_is_somewhere count place imm (sym same ∙ is))
leads_there count place w imm (To there) leads is near =
    let same : lead count place w ≡ led count place imm = ap (led_by count place) leads in
    (there, sym same ∙ is, is)
leads_there count place w imm Away leads is near = absurd (true≢false near)

line_shape : (base count place w : ℕ) (l : Course) (meant : Meaning) → base + 4 * count ≤ 2 ^ 32 → place < count → lead count place w ≡ l →
    is_away l ≡ false → WordShape w (base + 4 * place) meant → LineShape base count place w meant
line_shape base count place w l meant fits here is near (inl s) = inl s
line_shape base count place w l meant fits here is near (inr (inl s)) =
    let found = leads_there count place w s.imm l s.leads is near in
    let to = leads_to base count place found.0 s.imm fits here found.1 in
    inr (inl (record {
      op = s.op;
      rs1 = s.rs1;
      rs2 = s.rs2;
      imm = s.imm;
      there = found.0;
      spells = s.spells;
      meant_is = s.meant_is ∙ ap (λ (a : ℕ). Branch s.op s.rs1 s.rs2 (label a)) to.address;
      leads = found.2;
      inside = to.inside;
      counted = to.branch s.fits;
    }))
line_shape base count place w l meant fits here is near (inr (inr s)) =
    let found = leads_there count place w s.imm l s.leads is near in
    let to = leads_to base count place found.0 s.imm fits here found.1 in
    inr (inr (record {
      rd = s.rd;
      imm = s.imm;
      there = found.0;
      spells = s.spells;
      meant_is = s.meant_is ∙ ap (λ (a : ℕ). Jump s.rd (label a)) to.address;
      leads = found.2;
      inside = to.inside;
      counted = to.jump s.fits;
    }))

read_by_lead : (base count place w : ℕ) (l : Course) → w < 2 ^ 32 → base + 4 * count ≤ 2 ^ 32 → place < count → lead count place w ≡ l →
    LineRead base count place w (text_by_lead w (base + 4 * place) l)
read_by_lead base count place w Nowhere below fits here is =
    let r = word_read w (base + 4 * place) below in
    record { meant = r.meant; reads = r.reads; shape = line_shape base count place w Nowhere r.meant fits here is refl r.shape }
read_by_lead base count place w (To there) below fits here is =
    let r = word_read w (base + 4 * place) below in
    record { meant = r.meant; reads = r.reads; shape = line_shape base count place w (To there) r.meant fits here is refl r.shape }
read_by_lead base count place w Away below fits here is = record {
  meant = Fixed (Data w ∷ []);
  reads = number_reads w below;
  shape = inl (record { item = Data w; meant_is = refl; spells = refl });
}

-- each word's line
pub line_read : (base count place w : ℕ) → w < 2 ^ 32 → base + 4 * count ≤ 2 ^ 32 → place < count →
    LineRead base count place w (text_by_lead w (base + 4 * place) (lead count place w))
line_read base count place w below fits here = read_by_lead base count place w (lead count place w) below fits here refl
