-- Each reservation of a hart is of a word of RAM, at every moment of a run.
use Rattle.std.proofs.Common.{◌≡◌, ◌∙◌, inl, inr, ℕ, ◌%◌, ◌<◌, ◌≤◌, nat_le, nat_lt, Bool, true, false, cond, List, length, Option, Some, None, Ok, Err, refl, sym, ap, subst, arith, take_all}
use Rattle.std.specs.Prelude.{◌==◌}
use Rattle.std.proofs.lemmas.Bool.{cases_lt, and_parts, leb-true, ltb-true}
use Rattle.cloak_base.specs.Constants.{ram_start, ram_end, frame_of, is_in_frames}
use Rattle.cloak_base.specs.Registers.{register}
use Rattle.cloak_base.specs.declared.names.Kind.TheVariants.{Fetch, Store}
use Rattle.cloak_base.specs.declared.names.Mode.{Mode}
use Rattle.cloak_base.specs.declared.names.Mode.TheVariants.{U, S}
use Rattle.rv_isa.specs.Table.{instruction}
use Rattle.rv_isa.specs.declared.instr.Instr.{Instr}
use Rattle.rv_atomic.specs.Table.{atomic_instruction}
use Rattle.rv_atomic.specs.declared.atomic.Atomic.{Atomic}
use Rattle.rv_atomic.specs.declared.atomic.AtomicOp.{AtomicOp}
use Rattle.rv_atomic.specs.declared.atomic.AtomicOp.TheVariants.{Lr, Sc}
use Rattle.cloak_model.specs.declared.image.Bundle.{Bundle}
use Rattle.cloak_model.specs.declared.outcome.Effect.{Effect}
use Rattle.cloak_model.specs.declared.outcome.Effect.TheVariants as does
use Rattle.cloak_model.specs.Ahead.{settle_touched}
use Rattle.cloak_model.specs.Ask.{is_reserved}
use Rattle.cloak_model.specs.Beginning.{Beginning}
use Rattle.cloak_model.specs.Cloaking.{CloakedMemory, seen_in}
use Rattle.cloak_model.specs.Csr.{satp_of, interrupt_due}
use Rattle.cloak_model.specs.Effect.{effect}
use Rattle.cloak_model.specs.Hart.{Hart}
use Rattle.cloak_model.specs.Joint.{hart_in}
use Rattle.cloak_model.specs.KernelStep.{access, is_ecall, atomic_kind, ticked}
use Rattle.cloak_model.specs.Memory.{Seen, is_in_ram, value_at, mark_of}
use Rattle.cloak_model.specs.Parts.{Joint}
use Rattle.cloak_model.specs.Run.{Run, run_from, joint_after}
use Rattle.cloak_model.specs.Walk.{Walk, walk}
use Rattle.kernel_isolation.specs.Isolation.{joint_until}
use Rattle.kernel_isolation.proofs.Settlings.{HasPlaces, touched_shown, length-with_shown}
use Rattle.limit_law.proofs.Moments.{at_every_moment}
use Rattle.reservation_law.specs.Deeds.{Deed, Idle, Reserves, StoresReserved, Stores, Fills, target, done_at, read_deed, effect_deed, atomic_deed, atomic_word_deed, word_deed, fetched_deed, deed_after, deed_of}
use Rattle.reservation_law.specs.Writes.{hart_of_step, outside_deed, deed_of_step}
use Rattle.reservation_law.proofs.Moments.{IsOrderly, step_orderly}
use Rattle.reservation_law.proofs.Runs.{opened_orderly, reservations_are_kept}
use Rattle.frozen_law.specs.Harts.{IsWordOfRam, MarksAreInRam}
use Rattle.frozen_law.proofs.Counts.{are_counted}

-- What is reserved lies in RAM.

abbrev ReservesIn : List (List ℕ) → Deed → Type 0
ReservesIn ram deed = (pa : ℕ) → deed ≡ Reserves pa → is_in_ram ram pa ≡ true

either_in : (ram : List (List ℕ)) (b : Bool) (x y : Deed) → ReservesIn ram x → ReservesIn ram y →
    ReservesIn ram (cond b x y)
either_in ram true x y here there = here
either_in ram false x y here there = there

idle_in : (ram : List (List ℕ)) → ReservesIn ram Idle
idle_in ram pa is = absurd cc

inside_by : (ram : List (List ℕ)) (deed : ℕ → Deed) (at : ℕ) (b : Bool) → is_in_ram ram at ≡ b →
    (is_in_ram ram at ≡ true → ReservesIn ram (deed at)) → ReservesIn ram (done_at deed (cond b (Some at) None))
inside_by ram deed at true is more = more is
inside_by ram deed at false is more = idle_in ram

target_in : (ram : List (List ℕ)) (deed : ℕ → Deed) (walk : Walk) →
    ((pa : ℕ) → is_in_ram ram pa ≡ true → ReservesIn ram (deed pa)) → ReservesIn ram (done_at deed (target ram walk))
target_in ram deed (Ok walked) more = inside_by ram deed walked.pa (is_in_ram ram walked.pa) refl (more walked.pa)
target_in ram deed (Err cause) more = idle_in ram

read_in : (ram' : List (List ℕ)) (mode : Mode) (h : Hart) (ram : List (List ℕ)) (disk : List ℕ) →
    ReservesIn ram' (read_deed mode h ram disk)
read_in ram' U h ram disk = idle_in ram'
read_in ram' S h ram disk = either_in ram' _ (Fills (register h.regs 11)) Idle (λ pa is. absurd cc) (idle_in ram')

effect_in : (h : Hart) (seen : Seen) (disk : List ℕ) (i : Instr) (e : Effect) →
    ReservesIn seen.ram (effect_deed h seen disk i e)
unfolding effect_deed
effect_in h seen disk i (does.Store va width value) =
    target_in seen.ram (λ pa. Stores pa width) (walk seen.ram (satp_of h.csrs) (access h Store va))
    (λ pa inside at is. absurd cc)
effect_in h seen disk i does.System =
    either_in seen.ram (is_ecall i) (read_deed h.mode h seen.ram disk) Idle (read_in seen.ram h.mode h seen.ram disk)
    (idle_in seen.ram)
effect_in h seen disk i _ = idle_in seen.ram

atomic_in : (ram : List (List ℕ)) (op : AtomicOp) (mark : Option ℕ) (pa : ℕ) → is_in_ram ram pa ≡ true →
    ReservesIn ram (atomic_deed op mark pa)
atomic_in ram Lr mark pa inside = λ at is. let same : pa ≡ at = cc in subst (λ (x : ℕ). is_in_ram ram x ≡ true) same inside
atomic_in ram Sc mark pa inside =
    either_in ram (is_reserved pa mark) (StoresReserved pa) Idle (λ at is. absurd cc) (idle_in ram)
atomic_in ram op mark pa inside = λ at is. absurd cc

atomic_word_in : (h : Hart) (seen : Seen) (a : Option Atomic) → ReservesIn seen.ram (atomic_word_deed h seen a)
unfolding atomic_word_deed
atomic_word_in h seen None = idle_in seen.ram
atomic_word_in h seen (Some a) =
    let va = register h.regs a.rs1 in
    either_in seen.ram (va % 4 == 0) _ Idle
    (target_in seen.ram (atomic_deed a.op (mark_of h.id seen.marks))
    (walk seen.ram (satp_of h.csrs) (access h (atomic_kind a.op) va))
    (λ pa inside. atomic_in seen.ram a.op (mark_of h.id seen.marks) pa inside)) (idle_in seen.ram)

word_in : (h : Hart) (seen : Seen) (disk : List ℕ) (w : ℕ) (i : Option Instr) →
    ReservesIn seen.ram (word_deed h seen disk w i)
word_in h seen disk w None = atomic_word_in h seen (atomic_instruction w)
word_in h seen disk w (Some i) = effect_in h seen disk i (effect i h.regs h.pc)

fetched_in : (h : Hart) (seen : Seen) (disk : List ℕ) (pa : ℕ) → ReservesIn seen.ram (fetched_deed h seen disk pa)
fetched_in h seen disk pa = word_in h seen disk (value_at seen.ram pa 4) (instruction (value_at seen.ram pa 4))

after_in : (due : Bool) (h : Hart) (seen : Seen) (disk : List ℕ) → ReservesIn seen.ram (deed_after due h seen disk)
after_in true h seen disk = idle_in seen.ram
after_in false h seen disk =
    target_in seen.ram (fetched_deed h seen disk) (walk seen.ram (satp_of h.csrs) (access h Fetch h.pc))
    (λ pa inside. fetched_in h seen disk pa)

deed_in : (h : Hart) (seen : Seen) (disk : List ℕ) → ReservesIn seen.ram (deed_of h seen disk)
unfolding deed_of
deed_in h seen disk =
    let h' = ticked h in after_in (interrupt_due h'.mode h'.csrs) h' seen disk

touched_frames : (h : Hart) (disk : List ℕ) (m : CloakedMemory) → HasPlaces m →
    length (settle_touched h disk m).memory.ram ≡ length m.ram
touched_frames h disk m places =
    let s = settle_touched h disk m in
    let shown = touched_shown h disk m places in
    ap (λ (x : Seen). length x.ram) shown.seen ∙ length-with_shown s.ciphers (seen_in m)

outside_in : (j : Joint) (h : Hart) (inside : Option ℕ) → HasPlaces j.memory →
    ReservesIn j.memory.ram (outside_deed j h inside)
outside_in j h (Some ctx) places = idle_in j.memory.ram
outside_in j h None places =
    λ pa is.
    subst (λ (n : ℕ). is_in_frames n pa ≡ true) (touched_frames h j.disk j.memory places)
    (deed_in h (seen_in (settle_touched h j.disk j.memory).memory) j.disk pa is)

-- At every moment.

step_in : (b : Bundle) (r : Run) (step pa : ℕ) → HasPlaces (joint_until step r).memory →
    deed_of_step b r step ≡ Reserves pa → is_in_ram (joint_until step r).memory.ram pa ≡ true
unfolding deed_of_step
step_in b r step pa places is =
    let j : Joint = joint_until step r in
    let h = hart_in j (hart_of_step b step) in
    outside_in j h h.inside places pa is

below_end : (frames pa : ℕ) → ram_start ≤ pa → frame_of pa < frames → pa < ram_end frames
below_end frames pa low high = omega (arith, low, high)

word_of_ram : (frames pa : ℕ) → pa % 4 ≡ 0 → is_in_frames frames pa ≡ true → IsWordOfRam frames pa
word_of_ram frames pa aligned inside =
    let parts = and_parts (nat_le ram_start pa) (nat_lt (frame_of pa) frames) inside in
    let low : ram_start ≤ pa = leb-true ram_start pa parts.0 in
    record {
      aligned = aligned;
      low = low;
      high = below_end frames pa low (ltb-true (frame_of pa) frames parts.1);
    }

-- after the last step nothing changes
pub same_after : (r : Run) (n : ℕ) → length r.turns ≤ n → joint_until n r ≡ joint_until (length r.turns) r
same_after r n high =
    ap (joint_after r.opened.joint)
    (take_all n r.turns high ∙ sym (take_all (length r.turns) r.turns (omega arith)))

module _ (b : Bundle) (from : Beginning) (budget : ℕ) (r : Run) (is : run_from b from budget ≡ Ok r) where
  are_orderly : (n : ℕ) → IsOrderly (joint_until n r)
  are_orderly = at_every_moment IsOrderly b from budget r (opened_orderly b from) (λ m same here. step_orderly m here) is

  among_steps : (n hart pa : ℕ) → n ≤ length r.turns → mark_of hart (joint_until n r).memory.marks ≡ Some pa →
      IsWordOfRam b.kernel.frames pa
  among_steps n hart pa low there =
      let was = reservations_are_kept b from budget r is n low hart pa there in
      let counted = are_counted b from budget r is was.step in
      word_of_ram b.kernel.frames pa ((are_orderly n).words hart pa there)
      (subst (λ (count : ℕ). is_in_frames count pa ≡ true) counted.frames
      (step_in b r was.step pa counted.steady.places was.reserved))

  in_ram : (n hart pa : ℕ) → mark_of hart (joint_until n r).memory.marks ≡ Some pa → IsWordOfRam b.kernel.frames pa
  in_ram n hart pa there = elim (cases_lt n (length r.turns)) [
    | inl low ↦ among_steps n hart pa (omega (arith, low)) there
    | inr high ↦
        among_steps (length r.turns) hart pa (omega arith)
        (subst (λ (j : Joint). mark_of hart j.memory.marks ≡ Some pa) (same_after r n high) there)
  ]

pub marks_are_in_ram : MarksAreInRam
marks_are_in_ram b from budget r is n hart pa there = in_ram b from budget r is n hart pa there
