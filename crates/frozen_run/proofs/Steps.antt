-- The first fault of a domain, a hart and a body, in the steps in which they are read.
use Rattle.std.proofs.Common.{◌≡◌, ◌≢◌, ◌∙◌, ℕ, ◌+◌, ◌*◌, ◌%◌, cond, eqb, List, [], ◌∷◌, ◌++◌, length, Option, Some, None, refl, sym, ap}
use Rattle.std.proofs.lemmas.Bool.{eq-eqb, ne_eqb}
use Rattle.cloak_model.specs.declared.image.KernelImage.{KernelImage}
use Rattle.cloak_model.specs.Fields.{first_of, fault_in, first_in, number, parts, after_parts}
use Rattle.frozen_state.specs.declared.fault.FrozenFault.{FrozenFault}
use Rattle.frozen_state.specs.declared.fault.FrozenFault.TheVariants.{Form, NoMemory}
use Rattle.frozen_state.specs.Ranges.{kept_bits}
use Rattle.frozen_state.specs.FrozenFault.{FrozenField, any_in, ruled_in, byte_below, header, maybe_fields, after_maybe, violation_fields, after_violation, page_from, domain_fields, after_domain, csr_fields, mark_fields, regs_from, csrs_from, mark_from, hart_fields, after_hart, frames_fields, after_frame, recorded_fields, harts_from, disk_from, frames_from, count_at, frozen_fields, form_fault}
use Rattle.field_facts.proofs.Firsts.{first_of-none, first_in-append, no_fault}
use Rattle.frozen_run.specs.Reading.{after_word}
use Rattle.frozen_run.proofs.PageFields.{meta_fields}

-- ---- a domain

abbrev pub root_faults : List ℕ → ℕ → Option FrozenFault
root_faults body at = first_in body (parts (maybe_fields body) (after_maybe body) 8 at)

abbrev pub page_fault : List ℕ → ℕ → Option FrozenFault
page_fault body at = fault_in body (any_in body (at + 48) 4096)

regroup : (a b c : Option FrozenFault) → first_of a (first_of b (first_of c None)) ≡ first_of (first_of a (first_of b None)) c
regroup None None c = first_of-none c
regroup None (Some x) c = refl
regroup (Some x) b c = refl

pub domain_split : (body : List ℕ) (frames at : ℕ) →
    first_of (first_in body (violation_fields body frames at))
    (first_of (root_faults body (after_violation body at))
    (first_of (first_in body (meta_fields body (page_from body at))) (page_fault body (page_from body at))))
    ≡ first_in body (domain_fields body frames at)
domain_split body frames at =
    let tables = after_violation body at in
    let sealed = page_from body at in
    let v = first_in body (violation_fields body frames at) in
    let rows = parts (maybe_fields body) (after_maybe body) 8 tables in
    let last : List FrozenField = any_in body sealed 16 ∷ any_in body (sealed + 16) 32 ∷ any_in body (sealed + 48) 4096 ∷ [] in
    sym (first_in-append body (violation_fields body frames at) (rows ++ last)
    ∙ ap (first_of v) (first_in-append body rows last
    ∙ ap (first_of (first_in body rows)) (regroup (fault_in body (any_in body sealed 16))
    (fault_in body (any_in body (sealed + 16) 32)) (page_fault body sealed))))

pub after_violation_read : (body : List ℕ) (frames at tables : ℕ) →
    None ≡ first_in body (violation_fields body frames at) → tables ≡ after_violation body at →
    first_of (root_faults body tables)
    (first_of (first_in body (meta_fields body (after_parts (after_maybe body) 8 tables)))
    (page_fault body (after_parts (after_maybe body) 8 tables)))
    ≡ first_in body (domain_fields body frames at)
after_violation_read body frames at tables none is =
    let rest : ℕ → Option FrozenFault = λ (k : ℕ). first_of (root_faults body k)
    (first_of (first_in body (meta_fields body (after_parts (after_maybe body) 8 k)))
    (page_fault body (after_parts (after_maybe body) 8 k))) in
    ap rest is ∙ no_fault (first_in body (violation_fields body frames at)) (rest (after_violation body at))
    (first_in body (domain_fields body frames at)) none (domain_split body frames at)

pub after_roots_read : (body : List ℕ) (frames at tables sealed : ℕ) →
    None ≡ first_in body (violation_fields body frames at) → tables ≡ after_violation body at →
    None ≡ root_faults body tables → sealed ≡ after_parts (after_maybe body) 8 tables →
    first_of (first_in body (meta_fields body sealed)) (page_fault body sealed)
    ≡ first_in body (domain_fields body frames at)
after_roots_read body frames at tables sealed none is roots there =
    let rest : ℕ → Option FrozenFault = λ (k : ℕ). first_of (first_in body (meta_fields body k)) (page_fault body k) in
    ap rest there ∙ no_fault (root_faults body tables) (rest (after_parts (after_maybe body) 8 tables))
    (first_in body (domain_fields body frames at)) roots (after_violation_read body frames at tables none is)

pub after_meta_read : (body : List ℕ) (frames at tables sealed : ℕ) →
    None ≡ first_in body (violation_fields body frames at) → tables ≡ after_violation body at →
    None ≡ root_faults body tables → sealed ≡ after_parts (after_maybe body) 8 tables →
    None ≡ first_in body (meta_fields body sealed) → page_fault body sealed ≡ first_in body (domain_fields body frames at)
after_meta_read body frames at tables sealed none is roots there meta =
    no_fault (first_in body (meta_fields body sealed)) (page_fault body sealed)
    (first_in body (domain_fields body frames at)) meta (after_roots_read body frames at tables sealed none is roots there)

-- ---- a hart

abbrev pub mode_fault : List ℕ → ℕ → Option FrozenFault
mode_fault body at = fault_in body (byte_below body at 2)

abbrev pub pc_fault : List ℕ → ℕ → Option FrozenFault
pc_fault body at = fault_in body (ruled_in body (at + 1) 4 (eqb (number body (at + 1) % 4) 0))

abbrev pub timer_fault : List ℕ → ℕ → Option FrozenFault
timer_fault body at = fault_in body (any_in body (at + 5) 4)

abbrev pub inside_fault : List ℕ → ℕ → Option FrozenFault
inside_fault body at = first_in body (maybe_fields body (at + 9))

-- the faults of a hart from its registers on
abbrev pub reg_faults : List ℕ → ℕ → Option FrozenFault
reg_faults body words = first_in body (parts (λ (k : ℕ). any_in body k 4 ∷ []) after_word 31 words)

abbrev pub csr_faults : List ℕ → ℕ → Option FrozenFault
csr_faults body words = first_in body (csr_fields body kept_bits (words + 124))

abbrev pub mark_fault : List ℕ → ℕ → ℕ → Option FrozenFault
mark_fault body frames words = first_in body (mark_fields body frames (words + 124 + 36))

abbrev pub word_faults : List ℕ → ℕ → ℕ → Option FrozenFault
word_faults body frames words = first_of (reg_faults body words) (first_of (csr_faults body words) (mark_fault body frames words))

pub hart_split : (body : List ℕ) (frames at : ℕ) →
    first_of (mode_fault body at) (first_of (pc_fault body at) (first_of (timer_fault body at)
    (first_of (inside_fault body at) (word_faults body frames (regs_from body at)))))
    ≡ first_in body (hart_fields body frames at)
hart_split body frames at =
    let inside = maybe_fields body (at + 9) in
    let regs = parts (λ (k : ℕ). any_in body k 4 ∷ []) after_word 31 (regs_from body at) in
    let csrs = csr_fields body kept_bits (csrs_from body at) in
    let mark = mark_fields body frames (mark_from body at) in
    let front = λ (o : Option FrozenFault). first_of (mode_fault body at) (first_of (pc_fault body at) (first_of (timer_fault body at) o)) in
    sym (ap front (first_in-append body inside (regs ++ (csrs ++ mark))
    ∙ ap (first_of (first_in body inside)) (first_in-append body regs (csrs ++ mark)
    ∙ ap (first_of (first_in body regs)) (first_in-append body csrs mark))))

pub after_mode_read : (body : List ℕ) (frames at : ℕ) → None ≡ mode_fault body at →
    first_of (pc_fault body at) (first_of (timer_fault body at)
    (first_of (inside_fault body at) (word_faults body frames (regs_from body at))))
    ≡ first_in body (hart_fields body frames at)
after_mode_read body frames at mode =
    no_fault (mode_fault body at) (first_of (pc_fault body at) (first_of (timer_fault body at)
    (first_of (inside_fault body at) (word_faults body frames (regs_from body at)))))
    (first_in body (hart_fields body frames at)) mode (hart_split body frames at)

pub after_pc_read : (body : List ℕ) (frames at : ℕ) → None ≡ mode_fault body at → None ≡ pc_fault body at →
    first_of (timer_fault body at) (first_of (inside_fault body at) (word_faults body frames (regs_from body at)))
    ≡ first_in body (hart_fields body frames at)
after_pc_read body frames at mode pc =
    no_fault (pc_fault body at)
    (first_of (timer_fault body at) (first_of (inside_fault body at) (word_faults body frames (regs_from body at))))
    (first_in body (hart_fields body frames at)) pc (after_mode_read body frames at mode)

pub after_timer_read : (body : List ℕ) (frames at : ℕ) → None ≡ mode_fault body at → None ≡ pc_fault body at →
    None ≡ timer_fault body at →
    first_of (inside_fault body at) (word_faults body frames (regs_from body at)) ≡ first_in body (hart_fields body frames at)
after_timer_read body frames at mode pc timer =
    no_fault (timer_fault body at) (first_of (inside_fault body at) (word_faults body frames (regs_from body at)))
    (first_in body (hart_fields body frames at)) timer (after_pc_read body frames at mode pc)

-- what a hart's front is, if it has no fault
pub record IsFrontRead (body : List ℕ) (at words : ℕ) : Type 0 where
  pub mode : None ≡ mode_fault body at
  pub pc : None ≡ pc_fault body at
  pub timer : None ≡ timer_fault body at
  pub inside : None ≡ inside_fault body at
  pub words_are : words ≡ after_maybe body (at + 9)

pub after_inside_read : (body : List ℕ) (frames at words : ℕ) → IsFrontRead body at words →
    word_faults body frames words ≡ first_in body (hart_fields body frames at)
after_inside_read body frames at words front =
    ap (word_faults body frames) front.words_are
    ∙ no_fault (inside_fault body at) (word_faults body frames (regs_from body at))
    (first_in body (hart_fields body frames at)) front.inside (after_timer_read body frames at front.mode front.pc front.timer)

pub after_registers_read : (body : List ℕ) (frames at words : ℕ) → IsFrontRead body at words →
    None ≡ reg_faults body words →
    first_of (csr_faults body words) (mark_fault body frames words) ≡ first_in body (hart_fields body frames at)
after_registers_read body frames at words front regs =
    no_fault (reg_faults body words) (first_of (csr_faults body words) (mark_fault body frames words))
    (first_in body (hart_fields body frames at)) regs (after_inside_read body frames at words front)

pub after_csrs_read : (body : List ℕ) (frames at words : ℕ) → IsFrontRead body at words →
    None ≡ reg_faults body words → None ≡ csr_faults body words →
    mark_fault body frames words ≡ first_in body (hart_fields body frames at)
after_csrs_read body frames at words front regs csrs =
    no_fault (csr_faults body words) (mark_fault body frames words) (first_in body (hart_fields body frames at)) csrs
    (after_registers_read body frames at words front regs)

-- ---- a body

abbrev pub domain_faults : List ℕ → KernelImage → ℕ → Option FrozenFault
domain_faults body k programs = first_in body (parts (domain_fields body k.frames) (after_domain body) programs 60)

abbrev pub hart_faults : List ℕ → KernelImage → ℕ → Option FrozenFault
hart_faults body k at = first_in body (parts (hart_fields body k.frames) (after_hart body) k.harts at)

abbrev pub disk_fault : List ℕ → KernelImage → ℕ → Option FrozenFault
disk_fault body k at = fault_in body (any_in body at (length k.disk))

abbrev pub frame_faults : List ℕ → KernelImage → ℕ → ℕ → Option FrozenFault
frame_faults body k programs at = first_in body (frames_fields body programs k.frames [] at)

abbrev pub count_fault : List ℕ → ℕ → Option FrozenFault
count_fault body at = fault_in body (any_in body at 4)

abbrev pub recorded_faults : List ℕ → ℕ → ℕ → Option FrozenFault
recorded_faults body programs at = first_in body (recorded_fields body programs (number body at) None (at + 4))

-- too few or too many bytes after this many recorded pages
abbrev pub end_fault : List ℕ → ℕ → Option FrozenFault
end_fault body at =
    let end = at + 4 + 60 * number body at in cond (eqb end (length body)) None (Some (Form end))

-- from a place on
abbrev pub from_count : List ℕ → ℕ → ℕ → Option FrozenFault
from_count body programs at =
    first_of (count_fault body at) (first_of (recorded_faults body programs at) (end_fault body at))

abbrev pub from_frames : List ℕ → KernelImage → ℕ → ℕ → Option FrozenFault
from_frames body k programs at =
    first_of (frame_faults body k programs at) (from_count body programs (after_parts (after_frame body) k.frames at))

abbrev pub from_disk : List ℕ → KernelImage → ℕ → ℕ → Option FrozenFault
from_disk body k programs at = first_of (disk_fault body k at) (from_frames body k programs (at + length k.disk))

abbrev pub from_harts : List ℕ → KernelImage → ℕ → ℕ → Option FrozenFault
from_harts body k programs at =
    first_of (hart_faults body k at) (from_disk body k programs (after_parts (after_hart body) k.harts at))

abbrev pub from_domains : List ℕ → KernelImage → ℕ → Option FrozenFault
from_domains body k programs = first_of (domain_faults body k programs) (from_harts body k programs (harts_from body programs))

regroup_all : (a b c d e f g h : Option FrozenFault) →
    first_of (first_of a (first_of b (first_of c (first_of d (first_of e (first_of f g)))))) h
    ≡ first_of a (first_of b (first_of c (first_of d (first_of e (first_of f (first_of g h))))))
regroup_all None None None None None None g h = refl
regroup_all None None None None None (Some x) g h = refl
regroup_all None None None None (Some x) f g h = refl
regroup_all None None None (Some x) e f g h = refl
regroup_all None None (Some x) d e f g h = refl
regroup_all None (Some x) c d e f g h = refl
regroup_all (Some x) b c d e f g h = refl

pub form_split : (body : List ℕ) (k : KernelImage) (programs : ℕ) →
    first_of (first_in body (header body)) (from_domains body k programs) ≡ form_fault body k programs
unfolding form_fault
form_split body k programs =
    let hf = harts_from body programs in
    let df = disk_from body k programs in
    let ff = frames_from body k programs in
    let ct = count_at body k programs in
    let domains = parts (domain_fields body k.frames) (after_domain body) programs 60 in
    let harts = parts (hart_fields body k.frames) (after_hart body) k.harts hf in
    let frames = frames_fields body programs k.frames [] ff in
    let recorded = recorded_fields body programs (number body ct) None (ct + 4) in
    let after_frames : List FrozenField = any_in body ct 4 ∷ recorded in
    let after_harts : List FrozenField = any_in body df (length k.disk) ∷ (frames ++ after_frames) in
    let a = first_in body (header body) in
    let b = first_in body domains in
    let c = first_in body harts in
    let d = disk_fault body k df in
    let e = first_in body frames in
    let f = count_fault body ct in
    let g = first_in body recorded in
    let end = end_fault body ct in
    let all : first_in body (frozen_fields body k programs)
    ≡ first_of a (first_of b (first_of c (first_of d (first_of e (first_of f g))))) =
    first_in-append body (header body) (domains ++ (harts ++ after_harts))
    ∙ ap (first_of a) (first_in-append body domains (harts ++ after_harts)
    ∙ ap (first_of b) (first_in-append body harts after_harts
    ∙ ap (λ o. first_of c (first_of d o)) (first_in-append body frames after_frames))) in
    sym (ap (λ o. first_of o end) all ∙ regroup_all a b c d e f g end)

-- What is found after the parts that were read: a part without a fault, and where it ends.

after_none : (first rest all : Option FrozenFault) → first ≡ None → first_of first rest ≡ all → rest ≡ all
after_none first rest all none found = ap (λ o. first_of o rest) (sym none) ∙ found

pub record FrontIsRead (body : List ℕ) (k : KernelImage) (programs harts disk : ℕ) : Type 0 where
  pub header : None ≡ first_in body (header body)
  pub domains : domain_faults body k programs ≡ None
  pub harts_from_is : harts ≡ after_parts (after_domain body) programs 60
  pub harts_are : hart_faults body k harts ≡ None
  pub disk_from_is : disk ≡ after_parts (after_hart body) k.harts harts

pub after_header_read : (body : List ℕ) (k : KernelImage) (programs : ℕ) → None ≡ first_in body (header body) →
    from_domains body k programs ≡ form_fault body k programs
after_header_read body k programs none =
    no_fault (first_in body (header body)) (from_domains body k programs) (form_fault body k programs) none
    (form_split body k programs)

pub after_domains_read : (body : List ℕ) (k : KernelImage) (programs harts : ℕ) → None ≡ first_in body (header body) →
    domain_faults body k programs ≡ None → harts ≡ after_parts (after_domain body) programs 60 →
    from_harts body k programs harts ≡ form_fault body k programs
after_domains_read body k programs harts none domains is =
    ap (from_harts body k programs) is
    ∙ after_none (domain_faults body k programs) (from_harts body k programs (harts_from body programs))
    (form_fault body k programs) domains (after_header_read body k programs none)

pub after_harts_read : (body : List ℕ) (k : KernelImage) (programs harts disk : ℕ) →
    FrontIsRead body k programs harts disk → from_disk body k programs disk ≡ form_fault body k programs
after_harts_read body k programs harts disk front =
    ap (from_disk body k programs) front.disk_from_is
    ∙ after_none (hart_faults body k harts) (from_disk body k programs (after_parts (after_hart body) k.harts harts))
    (form_fault body k programs) front.harts_are
    (after_domains_read body k programs harts front.header front.domains front.harts_from_is)

pub after_disk_read : (body : List ℕ) (k : KernelImage) (programs harts disk : ℕ) →
    FrontIsRead body k programs harts disk → disk_fault body k disk ≡ None →
    from_frames body k programs (disk + length k.disk) ≡ form_fault body k programs
after_disk_read body k programs harts disk front none =
    after_none (disk_fault body k disk) (from_frames body k programs (disk + length k.disk)) (form_fault body k programs)
    none (after_harts_read body k programs harts disk front)

-- and also the disk and the frames
pub record FramesAreRead (body : List ℕ) (k : KernelImage) (programs harts disk count : ℕ) : Type 0 where
  pub front : FrontIsRead body k programs harts disk
  pub disk_is : disk_fault body k disk ≡ None
  pub frames_are : frame_faults body k programs (disk + length k.disk) ≡ None
  pub count_at_is : count ≡ after_parts (after_frame body) k.frames (disk + length k.disk)

pub after_frames_read : (body : List ℕ) (k : KernelImage) (programs harts disk count : ℕ) →
    FramesAreRead body k programs harts disk count → from_count body programs count ≡ form_fault body k programs
after_frames_read body k programs harts disk count read =
    ap (from_count body programs) read.count_at_is
    ∙ after_none (frame_faults body k programs (disk + length k.disk))
    (from_count body programs (after_parts (after_frame body) k.frames (disk + length k.disk)))
    (form_fault body k programs) read.frames_are (after_disk_read body k programs harts disk read.front read.disk_is)

pub after_count_read : (body : List ℕ) (k : KernelImage) (programs harts disk count : ℕ) →
    FramesAreRead body k programs harts disk count → None ≡ count_fault body count →
    first_of (recorded_faults body programs count) (end_fault body count) ≡ form_fault body k programs
after_count_read body k programs harts disk count read none =
    no_fault (count_fault body count) (first_of (recorded_faults body programs count) (end_fault body count))
    (form_fault body k programs) none (after_frames_read body k programs harts disk count read)

pub after_recorded_read : (body : List ℕ) (k : KernelImage) (programs harts disk count : ℕ) →
    FramesAreRead body k programs harts disk count → None ≡ count_fault body count →
    recorded_faults body programs count ≡ None → end_fault body count ≡ form_fault body k programs
after_recorded_read body k programs harts disk count read none recorded =
    after_none (recorded_faults body programs count) (end_fault body count) (form_fault body k programs) recorded
    (after_count_read body k programs harts disk count read none)

-- a fault that was returned is the first of all
pub told_wrong : (first rest all : Option FrozenFault) (e : FrozenFault) → (e ≢ NoMemory → first ≡ Some e) →
    first_of first rest ≡ all → e ≢ NoMemory → all ≡ Some e
told_wrong first rest all e told found other = sym found ∙ ap (λ o. first_of o rest) (told other)

pub end_wrong : (body : List ℕ) (at end : ℕ) → end ≡ at + 4 + 60 * number body at → (end ≡ length body → ⊥) →
    end_fault body at ≡ Some (Form end)
end_wrong body at end is other =
    ap (λ (k : ℕ). cond (eqb k (length body)) None (Some (Form k))) (sym is)
    ∙ ap (λ b. cond b None (Some (Form end))) (ne_eqb end (length body) other)

pub end_right : (body : List ℕ) (at end : ℕ) → end ≡ at + 4 + 60 * number body at → end ≡ length body →
    end_fault body at ≡ None
end_right body at end is all =
    ap (λ (k : ℕ). cond (eqb k (length body)) None (Some (Form k))) (sym is)
    ∙ ap (λ b. cond b None (Some (Form end))) (eq-eqb end (length body) all)
