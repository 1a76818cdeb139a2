-- What was written is read again, one piece after another.
use Rattle.std.proofs.Common.{◌≡◌, ◌∙◌, ℕ, zero, suc, ◌+◌, ◌*◌, ◌/◌, ◌%◌, ◌<◌, ◌≤◌, Bool, cond, List, [], ◌∷◌, ◌++◌, length, take, drop, map, get_or, set, Option, Some, None, refl, ap, sym, append_assoc, arith}
use Rattle.std.specs.Prelude.{option_map}
use Rattle.std.specs.List.{flat_map}
use Rattle.std.proofs.lemmas.Bool.{ne_eqb}
use Rattle.std.proofs.lemmas.List.{take_all, drop_all, drop_more, take_more, take_more_set, map_more}
use Rattle.cloak_base.specs.Registers.{with_register}
use Rattle.cloak_base.specs.declared.names.HartId.{HartId}
use Rattle.cloak_model.specs.declared.context.Phase.{Phase}
use Rattle.cloak_model.specs.declared.context.Phase.TheVariants.{Plain, CopyIn, Waiting, CopyOut}
use Rattle.cloak_model.specs.declared.context.PageWord.{PageWord}
use Rattle.cloak_model.specs.declared.resource.Owner.{Owner}
use Rattle.cloak_model.specs.declared.resource.Owner.TheVariants.{Space, File}
use Rattle.cloak_model.specs.declared.resource.Resource.{Resource}
use Rattle.cloak_model.specs.declared.resource.Region.{Region}
use Rattle.cloak_model.specs.Bits.{word}
use Rattle.cloak_model.specs.Contexts.{Context}
use Rattle.cloak_model.specs.DomainState.{hart_byte, phase_bytes, slot_bytes, region_bytes, owner_bytes, resource_bytes}
use Rattle.cloak_model.specs.Record.{IsWord}
use Rattle.frozen_state.specs.DomainPage.{mark_bytes, slot_mark_bytes}
use Rattle.frozen_state.specs.Words.{AreWords}
use Rattle.domain_page.specs.Reading.{ReadsSpelled, all, phase_in, hart_in, HasPhaseWords, AreRegs, regs_bytes, HasMarkWords, IsReadableSlot, unmarked, HasRegionWords, IsReadableNumber}
use Rattle.domain_page.specs.Writing.{HasHart}

abbrev pub ReadsByte : List ℕ → List ℕ → ℕ → Type 0
ReadsByte old new given = (x : ℕ) (rest : List ℕ) → old ≡ x ∷ rest → (given ≡ x) × (new ≡ rest)

abbrev pub ReadsWord : List ℕ → List ℕ → ℕ → Type 0
ReadsWord old new given = ReadsSpelled word IsWord all old new given

-- A row of things.

-- n of them were read: they are in `got`, and the bytes of the others are left
pub record HasRead {A B : Type 0} (spell : A → List ℕ) (kept : A → B) (xs : List A) (rest : List ℕ) (n : ℕ)
    (left : List ℕ) (got : List B) : Type 0 where
  pub done : take n got ≡ map kept (take n xs)
  pub others : left ≡ flat_map spell (drop n xs) ++ rest

module _ {A B : Type 0} (spell : A → List ℕ) (kept : A → B) (xs : List A) (rest : List ℕ) where
  pub none_read : (left : List ℕ) (got : List B) → left ≡ flat_map spell xs ++ rest → HasRead spell kept xs rest 0 left got
  none_read left got e = record { done = refl; others = e }

  pub one_read : (n : ℕ) (left left' : List ℕ) (got : List B) (y : B) (d : A) → n < length xs → n < length got →
      HasRead spell kept xs rest n left got →
      ((rest' : List ℕ) → left ≡ spell (get_or xs n d) ++ rest' → (y ≡ kept (get_or xs n d)) × (left' ≡ rest')) →
      HasRead spell kept xs rest (n + 1) left' (set got n y)
  one_read n left left' got y d inside room before reads =
      let later : List ℕ = flat_map spell (drop (n + 1) xs) ++ rest in
      let e : left ≡ spell (get_or xs n d) ++ later =
      before.others
      ∙ (ap (λ (l : List A). flat_map spell l ++ rest) (drop_more xs n d inside)
      ∙ append_assoc (spell (get_or xs n d)) (flat_map spell (drop (n + 1) xs)) rest) in
      let r = reads later e in
      record {
        done = take_more_set got n y room
            ∙ (ap (λ (l : List B). l ++ y ∷ []) before.done
            ∙ (ap (λ (z : B). map kept (take n xs) ++ z ∷ []) r.0 ∙ sym (map_more kept xs n d inside)));
        others = r.1;
      }

  pub all_read : (n : ℕ) (left : List ℕ) (got : List B) → length xs ≤ n → length got ≤ n →
      HasRead spell kept xs rest n left got → (got ≡ map kept xs) × (left ≡ rest)
  all_read n left got last end before = (
    sym (take_all n got end) ∙ (before.done ∙ ap (map kept) (take_all n xs last)),
    before.others ∙ ap (λ (l : List A). flat_map spell l ++ rest) (drop_all n xs last),
  )

pub map_all : {A : Type 0} (xs : List A) → map all xs ≡ xs
map_all [] = refl
map_all (x ∷ xs) = ap (λ (l : List _). x ∷ l) (map_all xs)

-- Phases.

phase_at : (l0 l1 l2 l3 : List ℕ) (number done total tag a b : ℕ) → ReadsByte l0 l1 number → ReadsWord l1 l2 done →
    ReadsWord l2 l3 total → (rest : List ℕ) → IsWord a → IsWord b → l0 ≡ (tag ∷ (word a ++ word b)) ++ rest →
    (phase_in number done total ≡ phase_in tag a b) × (l3 ≡ rest)
phase_at l0 l1 l2 l3 number done total tag a b first second third rest fits also e =
    let r1 = first tag ((word a ++ word b) ++ rest) e in
    let r2 = second a (word b ++ rest) fits (r1.1 ∙ append_assoc (word a) (word b) rest) in
    let r3 = third b rest also r2.1 in
    (rw (r1.0, r2.0, r3.0) refl, r3.1)

pub phase_read : (l0 l1 l2 l3 : List ℕ) (number done total : ℕ) → ReadsByte l0 l1 number → ReadsWord l1 l2 done →
    ReadsWord l2 l3 total → ReadsSpelled phase_bytes HasPhaseWords all l0 l3 (phase_in number done total)
phase_read l0 l1 l2 l3 n d t first second third Plain rest right e =
    phase_at l0 l1 l2 l3 n d t 0 0 0 first second third rest (omega arith) (omega arith) e
phase_read l0 l1 l2 l3 n d t first second third (CopyIn done) rest right e =
    phase_at l0 l1 l2 l3 n d t 1 done 0 first second third rest right (omega arith) e
phase_read l0 l1 l2 l3 n d t first second third Waiting rest right e =
    phase_at l0 l1 l2 l3 n d t 2 0 0 first second third rest (omega arith) (omega arith) e
phase_read l0 l1 l2 l3 n d t first second third (CopyOut done total) rest right e =
    phase_at l0 l1 l2 l3 n d t 3 done total first second third rest right.0 right.1 e

-- Slots.

hart_read : (on : Option HartId) → HasHart on → hart_in (hart_byte on) ≡ on
hart_read None right = refl
hart_read (Some hart) right =
    let other : hart.0 ≡ 255 → ⊥ = λ e. absurd (omega arith) in
    ap (λ (t : Bool). cond t None (Some (record { 0 = hart.0 }))) (ne_eqb hart.0 255 other)

pc_read : (pc : ℕ) → pc % 4 ≡ 0 → pc / 4 * 4 ≡ pc
pc_read pc aligned = omega arith

same_context : (c : Context) (pc : ℕ) (regs : List ℕ) (phase : Phase) (space : ℕ) (on : Option HartId) → pc ≡ c.pc →
    regs ≡ c.regs → phase ≡ c.phase → space ≡ c.space → on ≡ c.on →
    Some (record { pc = pc; regs = regs; phase = phase; space = space; on = on; mark = None }) ≡ unmarked (Some c)
same_context c pc regs phase space on a b d e f = cc

pub slot_none : (l0 l1 : List ℕ) (tag : ℕ) → ReadsByte l0 l1 tag → tag ≡ 0 →
    ReadsSpelled slot_bytes IsReadableSlot unmarked l0 l1 None
slot_none l0 l1 tag first nil None rest right e = (refl, (first 0 rest e).1)
slot_none l0 l1 tag first nil (Some c) rest right e =
    let r = first 1 ((hart_byte c.on ∷ (phase_bytes c.phase ++ (word c.space ++ (word c.pc ++ regs_bytes c.regs)))) ++ rest) e in
    absurd (omega (arith, r.0, nil))

pub slot_some : (l0 l1 l2 l3 l4 l5 l6 : List ℕ) (tag byte : ℕ) (phase : Phase) (space pc : ℕ) (regs : List ℕ) →
    ReadsByte l0 l1 tag → ReadsByte l1 l2 byte → ReadsSpelled phase_bytes HasPhaseWords all l2 l3 phase → ReadsWord l3 l4 space →
    ReadsWord l4 l5 pc → ReadsSpelled regs_bytes AreRegs all l5 l6 regs → (tag ≡ 0 → ⊥) →
    ReadsSpelled slot_bytes IsReadableSlot unmarked l0 l6
    (Some (record { pc = pc / 4 * 4; regs = regs; phase = phase; space = space; on = hart_in byte; mark = None }))
slot_some l0 l1 l2 l3 l4 l5 l6 tag byte phase space pc regs a b c d e f used None rest right is =
    absurd (used (a 0 rest is).0)
slot_some l0 l1 l2 l3 l4 l5 l6 tag byte phase space pc regs a b c d e f used (Some x) rest right is =
    let r1 = a 1 ((hart_byte x.on ∷ (phase_bytes x.phase ++ (word x.space ++ (word x.pc ++ regs_bytes x.regs)))) ++ rest) is in
    let r2 = b (hart_byte x.on) ((phase_bytes x.phase ++ (word x.space ++ (word x.pc ++ regs_bytes x.regs))) ++ rest) r1.1 in
    let r3 = c x.phase ((word x.space ++ (word x.pc ++ regs_bytes x.regs)) ++ rest) right.phase
    (r2.1 ∙ append_assoc (phase_bytes x.phase) (word x.space ++ (word x.pc ++ regs_bytes x.regs)) rest) in
    let r4 = d x.space ((word x.pc ++ regs_bytes x.regs) ++ rest) right.space
    (r3.1 ∙ append_assoc (word x.space) (word x.pc ++ regs_bytes x.regs) rest) in
    let r5 = e x.pc (regs_bytes x.regs ++ rest) right.pc
    (r4.1 ∙ append_assoc (word x.pc) (regs_bytes x.regs) rest) in
    let r6 = f x.regs rest right.regs r5.1 in (
      same_context x (pc / 4 * 4) regs phase space (hart_in byte)
          (ap (λ (n : ℕ). n / 4 * 4) r5.0 ∙ pc_read x.pc right.aligned) r6.0 r3.0 r4.0
          (ap hart_in r2.0 ∙ hart_read x.on right.hart),
      r6.1,
    )

-- Reservations.

same_mark : (p : PageWord) (resource page at : ℕ) → resource ≡ p.resource → page ≡ p.page → at ≡ p.at →
    Some (record { resource = resource; page = page; at = at }) ≡ Some p
same_mark p resource page at a b c = rw (a, b, c) refl

-- a slot with its reservation
pub marked_none : (l0 l1 : List ℕ) (mark : Option PageWord) → ReadsSpelled mark_bytes HasMarkWords all l0 l1 mark →
    (x : Option Context) (rest : List ℕ) → IsReadableSlot x → None ≡ unmarked x → l0 ≡ slot_mark_bytes x ++ rest →
    (None ≡ x) × (l1 ≡ rest)
marked_none l0 l1 mark reads None rest right same e = (refl, (reads None rest tt e).1)
marked_none l0 l1 mark reads (Some c) rest right same e = cc

with_mark : Option PageWord → Option Context → Option Context
with_mark mark slot = option_map (λ (c : Context). record c { mark = mark }) slot

-- Regions.

same_region : (g : Region) (start pages resource first : ℕ) → start ≡ g.start → pages ≡ g.pages → resource ≡ g.resource →
    first ≡ g.first → record { start = start; pages = pages; resource = resource; first = first } ≡ g
same_region g start pages resource first a b c d = rw (a, b, c, d) refl

pub region_read : (l0 l1 l2 l3 l4 : List ℕ) (start pages resource first : ℕ) → ReadsWord l0 l1 start →
    ReadsWord l1 l2 pages → ReadsWord l2 l3 resource → ReadsWord l3 l4 first →
    ReadsSpelled region_bytes HasRegionWords all l0 l4
    (record { start = start; pages = pages; resource = resource; first = first })
region_read l0 l1 l2 l3 l4 start pages resource first a b c d g rest right is =
    let r1 = a g.start ((word g.pages ++ (word g.resource ++ word g.first)) ++ rest) right.start
    (is ∙ append_assoc (word g.start) (word g.pages ++ (word g.resource ++ word g.first)) rest) in
    let r2 = b g.pages ((word g.resource ++ word g.first) ++ rest) right.pages
    (r1.1 ∙ append_assoc (word g.pages) (word g.resource ++ word g.first) rest) in
    let r3 = c g.resource (word g.first ++ rest) right.resource (r2.1 ∙ append_assoc (word g.resource) (word g.first) rest) in
    let r4 = d g.first rest right.first r3.1 in
    (same_region g start pages resource first r1.0 r2.0 r3.0 r4.0, r4.1)

-- Spaces.

-- Resources.

abbrev kind_of : Owner → ℕ
kind_of (Space number) = 1
kind_of (File number) = 2

abbrev number_of : Owner → ℕ
number_of (Space number) = number
number_of (File number) = number

owner_spelled : (o : Owner) → owner_bytes o ≡ kind_of o ∷ word (number_of o)
owner_spelled (Space number) = refl
owner_spelled (File number) = refl

kind_used : (o : Owner) → kind_of o ≡ 0 → ⊥
kind_used (Space number) e = cc
kind_used (File number) e = cc

spelled : (held : Resource) (rest : List ℕ) →
    resource_bytes (Some held) ++ rest ≡ kind_of held.owner ∷ (word (number_of held.owner) ++ (word held.pages ++ rest))
spelled held rest =
    append_assoc (owner_bytes held.owner) (word held.pages) rest
    ∙ ap (λ (l : List ℕ). l ++ (word held.pages ++ rest)) (owner_spelled held.owner)

pub number_none : (l0 l1 : List ℕ) (tag : ℕ) → ReadsByte l0 l1 tag → tag ≡ 0 →
    ReadsSpelled resource_bytes IsReadableNumber all l0 l1 None
number_none l0 l1 tag first nil None rest right e = (refl, (first 0 rest e).1)
number_none l0 l1 tag first nil (Some held) rest right e =
    let r = first (kind_of held.owner) (word (number_of held.owner) ++ (word held.pages ++ rest)) (e ∙ spelled held rest) in
    absurd (kind_used held.owner (sym r.0 ∙ nil))

-- Registers.

-- a write to another register than 0
pub register_set : (regs : List ℕ) (i v : ℕ) → 1 ≤ i → with_register regs i v ≡ set regs i v
register_set regs i v some =
    let other : i ≡ 0 → ⊥ = λ e. absurd (omega arith) in
    ap (λ (t : Bool). cond t regs (set regs i v)) (ne_eqb i 0 other)

pub words_each : (xs : List ℕ) (i : ℕ) → AreWords xs → i < length xs → IsWord (get_or xs i 0)
words_each [] i words inside = absurd (omega arith)
words_each (x ∷ xs) zero words inside = words.0
words_each (x ∷ xs) (suc i) words inside = words_each xs i words.1 (omega arith)

-- One more of a list that grows.
pub push_read : {A : Type 0} (spell : A → List ℕ) (xs : List A) (rest : List ℕ) (n : ℕ) (left left' : List ℕ)
    (got : List A) (y d : A) → n < length xs → got ≡ take n xs → left ≡ flat_map spell (drop n xs) ++ rest →
    ((rest' : List ℕ) → left ≡ spell (get_or xs n d) ++ rest' → (y ≡ get_or xs n d) × (left' ≡ rest')) →
    (got ++ y ∷ [] ≡ take (n + 1) xs) × (left' ≡ flat_map spell (drop (n + 1) xs) ++ rest)
push_read {A} spell xs rest n left left' got y d inside done others reads =
    let later : List ℕ = flat_map spell (drop (n + 1) xs) ++ rest in
    let e : left ≡ spell (get_or xs n d) ++ later =
    others
    ∙ (ap (λ (l : List A). flat_map spell l ++ rest) (drop_more xs n d inside)
    ∙ append_assoc (spell (get_or xs n d)) (flat_map spell (drop (n + 1) xs)) rest) in
    let r = reads later e in (
      ap (λ (l : List A). l ++ y ∷ []) done
          ∙ (ap (λ (z : A). take n xs ++ z ∷ []) r.0 ∙ sym (take_more xs n d inside)),
      r.1,
    )
