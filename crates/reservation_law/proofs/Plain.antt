-- What the plain step of a hart makes of RAM and of reservations, by its deed.
use Rattle.std.proofs.Common.{◌≡◌, ◌∙◌, ◌<◌, ◌≤◌, ◌⊎◌, ℕ, ◌+◌, ◌-◌, ◌*◌, ◌/◌, ◌%◌, ◌^◌, Bool, true, false, ◌&&◌, nat_lt, nat_le, List, [], ◌∷◌, length, drop, Option, Some, None, Ok, Err, inl, inr, refl, sym, ap, subst, arith, length-drop}
use Rattle.std.specs.Prelude.{◌==◌, if◌then◌else◌}
use Rattle.std.proofs.lemmas.Bool.{cases_lt, cases_eq, ltb-true, leb-true, eqb-true, and_parts}
use Rattle.std.proofs.lemmas.List.{get_or_past, get_or-set_same, get_or-set_other, length-set, length-take}
use Rattle.cloak_base.specs.Constants.{ram_start, frame_of, is_in_frames}
use Rattle.cloak_base.specs.Registers.{register}
use Rattle.cloak_base.specs.declared.names.Kind.{Kind}
use Rattle.cloak_base.specs.declared.names.Kind.TheVariants.{Fetch, Load, Store}
use Rattle.cloak_base.specs.declared.names.Mode.{Mode}
use Rattle.cloak_base.specs.declared.names.Mode.TheVariants.{U, S}
use Rattle.rv_isa.specs.Table.{instruction}
use Rattle.rv_isa.specs.declared.instr.Instr.{Instr}
use Rattle.rv_isa.specs.declared.instr.Instr.TheVariants as instr
use Rattle.rv_atomic.specs.Table.{atomic_instruction}
use Rattle.rv_atomic.specs.declared.atomic.Atomic.{Atomic}
use Rattle.rv_atomic.specs.declared.atomic.AtomicOp.{AtomicOp}
use Rattle.rv_atomic.specs.declared.atomic.AtomicOp.TheVariants.{Lr, Sc, Swap, Add, Xor, And, Or, Min, Max, Minu, Maxu}
use Rattle.cloak_model.specs.declared.outcome.Effect.{Effect}
use Rattle.cloak_model.specs.declared.outcome.Effect.TheVariants as does
use Rattle.cloak_model.specs.declared.outcome.Kernel.TheVariants.{Stay}
use Rattle.cloak_model.specs.declared.access.Access.{Access}
use Rattle.cloak_model.specs.declared.access.Walked.{Walked}
use Rattle.cloak_model.specs.Ask.{is_reserved}
use Rattle.cloak_model.specs.Asking.{Told}
use Rattle.cloak_model.specs.Csr.{satp_of, interrupt_due, csr_read}
use Rattle.cloak_model.specs.Effect.{IsWidth, effect}
use Rattle.cloak_model.specs.Hart.{Hart}
use Rattle.cloak_model.specs.HartStep.{raised, csr_written, csr_found, csr_step, returned, idle, system}
use Rattle.cloak_model.specs.HostCalls.{SteppedKernel, over, host_answers, block_at, is_transfer, put_call, timer_call, halt_call, resumed}
use Rattle.cloak_model.specs.KernelStep.{access, is_ecall, atomic_kind, misaligned, ends_reservation, ticked, kernel_step}
use Rattle.cloak_model.specs.Memory.{Seen, value_at, mark_of, with_mark, stored, filled}
use Rattle.cloak_model.specs.Walk.{Walk, walk, access_fault}
use Rattle.cloak_model.specs.World.{Flat, seen_of}
use Rattle.step_parts.specs.Parts.{loaded}
use Rattle.settling_ahead.proofs.Laws.{flat_step}
use Rattle.settling_ahead.proofs.Plans.{Plan, Gives, then_plan, answer_in, answer_then}
use Rattle.settling_ahead.proofs.Planning.{Close, leaves, inside, release, plan_walk, plan_access, plan_loaded, plan_stored, plan_reserved, conditional_by, plan_conditioned, plan_combined, plan_atomic_access, plan_atomic, plan_in, plan_out, plan_read, plan_write, plan_host_call, plan_ecall_in, plan_ecall, plan_done, plan_decoded, plan_fetched, plan_interrupted, plan_step, unmarked}
use Rattle.reservation_law.specs.Deeds.{Deed, Idle, Reserves, StoresReserved, Stores, Fills, target, target_of, done_at, read_deed, effect_deed, atomic_deed, atomic_word_deed, word_deed, fetched_deed, deed_after, deed_of}
use Rattle.reservation_law.specs.Writes.{deed_extents}
use Rattle.reservation_law.proofs.Keeping.{SparesWord, SparesByte, AreWhole, Keeps, keeps_all, keeps_then, keeps_unmarked, keeps_filled, keeps_stored}
use Rattle.script_fold.proofs.Aligned.{StoresAligned, effect_aligned}
use Rattle.cloak_model.proofs.InPage.{KeepsPlace, keeps_walk}
use Rattle.settling_ahead.proofs.Reached.{walk_answer}
use Rattle.kernel_isolation.proofs.Leading.{is_aligned}
use Rattle.settling_ahead.proofs.Reached.{other_number}

-- A reservation that a hart has after a step: its own LR made it, or it was there, and the step wrote no byte of
-- its word.
abbrev pub Came : Deed → ℕ → Seen → ℕ → ℕ → Type 0
Came deed id s k pa =
    ((deed ≡ Reserves pa) × (k ≡ id) × (pa % 4 ≡ 0))
    ⊎ ((mark_of k s.marks ≡ Some pa) × (pa % 4 ≡ 0 → SparesWord pa (deed_extents deed)))

-- A step of the hart with this number did this.
pub record DoneBy (deed : Deed) (id : ℕ) (s : Seen) (end : SteppedKernel × Seen) : Type 0 where
  pub same : end.0.hart.id ≡ id
  pub marks : (k pa : ℕ) → mark_of k end.1.marks ≡ Some pa → Came deed id s k pa
  pub whole : AreWhole s.ram → AreWhole end.1.ram
  pub bytes : AreWhole s.ram → (pa : ℕ) → ram_start ≤ pa → SparesByte pa (deed_extents deed) →
      value_at end.1.ram pa 1 ≡ value_at s.ram pa 1
  pub conditional : (pa : ℕ) → deed ≡ StoresReserved pa → (mark_of id s.marks ≡ Some pa) × (end.0.ending ≡ Stay)

done_kept : (deed : Deed) (id : ℕ) (s : Seen) (end : SteppedKernel × Seen) → end.0.hart.id ≡ id →
    Keeps (deed_extents deed) s end.1 →
    ((pa : ℕ) → deed ≡ StoresReserved pa → (mark_of id s.marks ≡ Some pa) × (end.0.ending ≡ Stay)) →
    DoneBy deed id s end
done_kept deed id s end same keeps conditional = record {
  same = same;
  marks = λ k pa is. inr (keeps.marks k pa is);
  whole = keeps.whole;
  bytes = keeps.bytes;
  conditional = conditional;
}

abbrev Does : Deed → ℕ → Seen → Plan (Close SteppedKernel) → Type 0
Does deed id s p = DoneBy deed id s ((answer_in p s.ram) s)

does_gives : (id : ℕ) (s : Seen) (made : SteppedKernel) → made.hart.id ≡ id → Does Idle id s (Gives (leaves made))
does_gives id s made same = done_kept Idle id s (made, s) same (keeps_all s) (λ pa is. cc)

does_case : (deed : Deed) (id : ℕ) (s : Seen) (b : Bool) (p q : Plan (Close SteppedKernel)) →
    (b ≡ true → Does deed id s p) → (b ≡ false → Does deed id s q) → Does deed id s (if b then p else q)
does_case deed id s true p q first second = first refl
does_case deed id s false p q first second = second refl

does_if : (deed other : Deed) (id : ℕ) (s : Seen) (b : Bool) (p q : Plan (Close SteppedKernel)) →
    (b ≡ true → Does deed id s p) → Does other id s q → Does (if b then deed else other) id s (if b then p else q)
does_if deed other id s true p q first second = first refl
does_if deed other id s false p q first second = second

does_as : (deed other : Deed) (id : ℕ) (s : Seen) (p : Plan (Close SteppedKernel)) → deed ≡ other → Does deed id s p →
    Does other id s p
does_as deed other id s p same done = subst (λ (d : Deed). Does d id s p) same done

-- Accesses.

abbrev Reached : ℕ → Seen → ℕ → (Walk → Plan (Close SteppedKernel)) → (ℕ → Deed) → Type 0
Reached id s va next deed =
    (walked : Walked) → ram_start ≤ walked.pa → walked.pa % 4 ≡ va % 4 → Does (deed walked.pa) id s (next (Ok walked))

abbrev Faulted : ℕ → Seen → (Walk → Plan (Close SteppedKernel)) → Type 0
Faulted id s next = (cause : ℕ) → Does Idle id s (next (Err cause))

target_by : (id : ℕ) (s : Seen) (va fault : ℕ) (walked : Walked) (b : Bool) (next : Walk → Plan (Close SteppedKernel))
    (deed : ℕ → Deed) → (b ≡ true → ram_start ≤ walked.pa) → Faulted id s next → Reached id s va next deed →
    walked.pa % 4 ≡ va % 4 →
    Does (done_at deed (if b then Some walked.pa else None)) id s (next (if b then Ok walked else Err fault))
target_by id s va fault walked true next deed low faults reaches keeps = reaches walked (low refl) keeps
target_by id s va fault walked false next deed low faults reaches keeps = faults fault

walked_by : (id : ℕ) (s : Seen) (a : Access) (w : Walk) (next : Walk → Plan (Close SteppedKernel))
    (deed : ℕ → Deed) → Faulted id s next → Reached id s a.va next deed → KeepsPlace a.va w →
    Does (done_at deed (target s.ram w)) id s (next (inside (length s.ram) a w))
walked_by id s a (Err cause) next deed faults reaches keeps = faults cause
walked_by id s a (Ok walked) next deed faults reaches keeps =
    target_by id s a.va (access_fault a.kind) walked (is_in_frames (length s.ram) walked.pa) next deed
    (λ there. leb-true ram_start walked.pa (and_parts (nat_le ram_start walked.pa) (nat_lt (frame_of walked.pa)
    (length s.ram)) there).0)
    faults reaches (let kept = keeps.kept walked refl in omega (arith, kept))

does_access : (h : Hart) (s : Seen) (kind : Kind) (va : ℕ) (next : Walk → Plan (Close SteppedKernel))
    (deed : ℕ → Deed) → Faulted h.id s next → Reached h.id s va next deed →
    Does (done_at deed (target_of h s.ram kind va)) h.id s (then_plan (plan_access (length s.ram) h kind va) next)
does_access h s kind va next deed faults reaches =
    let n = length s.ram in
    let satp = satp_of h.csrs in
    let a = access h kind va in
    let p = plan_walk n satp a in
    let w = walk s.ram satp a in
    let same : answer_in (then_plan (plan_access n h kind va) next) s.ram ≡ answer_in (next (inside n a w)) s.ram =
    answer_then (plan_access n h kind va) next s.ram
    ∙ ap (λ (to : Walk). answer_in (next to) s.ram)
    (answer_then p (λ walk. Gives (inside n a walk)) s.ram ∙ ap (λ (x : Walk). inside n a x)
    (walk_answer s.ram satp a)) in
    subst (λ (close : Close SteppedKernel). DoneBy (done_at deed (target s.ram w)) h.id s (close s)) (sym same)
    (walked_by h.id s a w next deed faults reaches (keeps_walk s.ram satp a))

idle_at : (o : Option ℕ) → done_at (λ pa. Idle) o ≡ Idle
idle_at None = refl
idle_at (Some pa) = refl

-- Harts keep their numbers.

raised_id : (h : Hart) (cause value : ℕ) → (raised h cause value).hart.id ≡ h.id
unfolding raised
raised_id h cause value = refl

written_id : (h : Hart) (rd was : ℕ) (new : Option ℕ) (n : ℕ) → (csr_written h rd n was new).hart.id ≡ h.id
unfolding csr_written
written_id h rd was None n = refl
written_id h rd was (Some new) n = refl

found_id : (h : Hart) (w rd n : ℕ) (new : Option ℕ) (was : Option ℕ) → (csr_found h w rd n new was).hart.id ≡ h.id
unfolding csr_found
found_id h w rd n new None = raised_id h 2 w
found_id h w rd n new (Some was) = written_id h rd was new n

csr_id : (mode : Mode) (h : Hart) (w rd n : ℕ) (new : Option ℕ) → (csr_step mode h w rd n new).hart.id ≡ h.id
unfolding csr_step
csr_id U h w rd n new = raised_id h 2 w
csr_id S h w rd n new = found_id h w rd n new (csr_read h.csrs n)

returned_id : (mode : Mode) (h : Hart) (w : ℕ) → (returned mode h w).hart.id ≡ h.id
unfolding returned
returned_id U h w = raised_id h 2 w
returned_id S h w = refl

idle_id : (mode : Mode) (h : Hart) (w : ℕ) → (idle mode h w).hart.id ≡ h.id
unfolding idle
idle_id U h w = raised_id h 2 w
idle_id S h w = refl

system_id : (h : Hart) (w : ℕ) (i : Instr) → (system h w i).hart.id ≡ h.id
unfolding system
system_id h w (instr.Csrrw rd rs1 n) = csr_id h.mode h w rd n _
system_id h w (instr.Csrrs rd rs1 n) = csr_id h.mode h w rd n _
system_id h w (instr.Csrrc rd rs1 n) = csr_id h.mode h w rd n _
system_id h w (instr.Csrrwi rd uimm n) = csr_id h.mode h w rd n _
system_id h w (instr.Csrrsi rd uimm n) = csr_id h.mode h w rd n _
system_id h w (instr.Csrrci rd uimm n) = csr_id h.mode h w rd n _
system_id h w instr.Ebreak = raised_id h 3 0
system_id h w instr.Sret = returned_id h.mode h w
system_id h w instr.Wfi = idle_id h.mode h w
system_id h w (instr.SfenceVma rs1 rs2) = idle_id h.mode h w
system_id h w _ = raised_id h 2 w

does_raised : (h : Hart) (s : Seen) (disk : List ℕ) (cause value : ℕ) →
    Does Idle h.id s (Gives (leaves (over disk (raised h cause value))))
does_raised h s disk cause value = does_gives h.id s _ (raised_id h cause value)

-- Loads and stores.

loaded_id : (h : Hart) (rd width value : ℕ) (signed : Bool) → (loaded h rd width signed value).hart.id ≡ h.id
unfolding loaded
loaded_id h rd width value signed = refl

does_load : (h : Hart) (s : Seen) (disk : List ℕ) (rd va width : ℕ) (signed : Bool) →
    Does Idle h.id s (then_plan (plan_access (length s.ram) h Load va) (plan_loaded h disk rd va width signed))
does_load h s disk rd va width signed =
    does_as (done_at (λ pa. Idle) (target_of h s.ram Load va)) Idle h.id s
    (then_plan (plan_access (length s.ram) h Load va) (plan_loaded h disk rd va width signed))
    (idle_at (target_of h s.ram Load va))
    (does_access h s Load va (plan_loaded h disk rd va width signed) (λ pa. Idle)
    (λ cause. does_raised h s disk cause va) (λ walked low keeps. does_gives h.id s _ (loaded_id h rd width _ signed)))

does_store : (h : Hart) (s : Seen) (disk : List ℕ) (va width value : ℕ) → va % width ≡ 0 → IsWidth width →
    Does (done_at (λ pa. Stores pa width) (target_of h s.ram Store va)) h.id s
    (then_plan (plan_access (length s.ram) h Store va) (plan_stored h disk va width value))
does_store h s disk va width value at is =
    does_access h s Store va (plan_stored h disk va width value) (λ pa. Stores pa width)
    (λ cause. does_raised h s disk cause va)
    (λ walked low keeps. done_kept (Stores walked.pa width) h.id s _ refl
    (keeps_stored walked.pa width value s low
    (eqb-true (walked.pa % width) 0 (is_aligned va walked.pa width keeps at is)) is)
    (λ x same. cc))

-- Atomic instructions.

four : IsWidth 4
four = inr (inr refl)

aligned : (va pa : ℕ) → va % 4 ≡ 0 → pa % 4 ≡ va % 4 → pa % 4 ≡ 0
aligned va pa at keeps = keeps ∙ at

reserved_marks : (id pa : ℕ) (marks : List (Option ℕ)) (k mark : ℕ) → mark_of k (with_mark id
    (Some pa) marks) ≡ Some mark →
    ((pa ≡ mark) × (k ≡ id)) ⊎ (mark_of k marks ≡ Some mark)
reserved_marks id pa marks k mark is = elim (cases_eq k id) [
  | inl same ↦ elim (cases_lt id (length marks)) [
    | inl there ↦
        let now : mark_of id (with_mark id (Some pa) marks) ≡ Some pa = get_or-set_same marks id
        (Some pa) None there in
        let some = subst (λ (n : ℕ). mark_of n (with_mark id (Some pa) marks) ≡ Some mark) same is in
        let both : Some pa ≡ Some mark = sym now ∙ some in
        let one : pa ≡ mark = cc in
        inl (one, same)
    | inr past ↦
        let count = length-set marks id (Some pa) in
        let none : mark_of id (with_mark id (Some pa) marks) ≡ None =
        get_or_past (with_mark id (Some pa) marks) id None (omega (arith, past, count)) in
        let some = subst (λ (n : ℕ). mark_of n (with_mark id (Some pa) marks) ≡ Some mark) same is in
        let clash : None ≡ Some mark = sym none ∙ some in absurd cc
  ]
  | inr apart ↦ inr (sym (get_or-set_other marks id k (Some pa) None apart) ∙ is)
]

done_reserves : (id pa : ℕ) (s : Seen) (made : SteppedKernel) → made.hart.id ≡ id → pa % 4 ≡ 0 →
    DoneBy (Reserves pa) id s (made, record s { marks = with_mark id (Some pa) s.marks })
done_reserves id pa s made same at = record {
  same = same;
  marks = λ k mark is. elim (reserved_marks id pa s.marks k mark is) as (λ _. Came (Reserves pa) id s k mark) [
    | inl own ↦ inl (ap (λ (n : ℕ). Reserves n) own.0, own.1, subst (λ (n : ℕ). n % 4 ≡ 0) own.0 at)
    | inr before ↦ inr (before, λ here. tt)
  ];
  whole = λ all. all;
  bytes = λ all x low spares. refl;
  conditional = λ x is. cc;
}

does_reserve : (h : Hart) (s : Seen) (disk : List ℕ) (rd va : ℕ) → va % 4 ≡ 0 →
    Does (done_at (atomic_deed Lr (mark_of h.id s.marks)) (target_of h s.ram Load va)) h.id s
    (then_plan (plan_access (length s.ram) h Load va) (plan_reserved h disk rd va))
does_reserve h s disk rd va at =
    does_access h s Load va (plan_reserved h disk rd va) (atomic_deed Lr (mark_of h.id s.marks))
    (λ cause. does_raised h s disk cause va)
    (λ walked low keeps. done_reserves h.id walked.pa s _ refl (aligned va walked.pa at keeps))

reserved_is : (pa : ℕ) (mark : Option ℕ) → is_reserved pa mark ≡ true → mark ≡ Some pa
reserved_is pa None is = cc
reserved_is pa (Some m) is = ap (λ (n : ℕ). Some n) (eqb-true m pa is)

done_conditional : (b : Bool) (h : Hart) (s : Seen) (disk : List ℕ) (rd pa operand : ℕ) →
    is_reserved pa (mark_of h.id s.marks) ≡ b → ram_start ≤ pa → pa % 4 ≡ 0 →
    DoneBy (if b then StoresReserved pa else Idle) h.id s (conditional_by b h disk rd pa operand s)
done_conditional true h s disk rd pa operand is low at =
    done_kept (StoresReserved pa) h.id s _ refl
    (keeps_then (record { from = pa; count = 4 } ∷ []) [] s (stored pa 4 operand s) _
    (keeps_stored pa 4 operand s low at four)
    (keeps_unmarked h.id (stored pa 4 operand s)))
    (λ x same.
    let one : pa ≡ x = cc in
    (reserved_is pa (mark_of h.id s.marks) is ∙ ap (λ (n : ℕ). Some n) one, refl))
done_conditional false h s disk rd pa operand is low at =
    done_kept Idle h.id s _ refl (keeps_unmarked h.id s) (λ x same. cc)

does_conditional : (h : Hart) (s : Seen) (disk : List ℕ) (rd va operand : ℕ) → va % 4 ≡ 0 →
    Does (done_at (atomic_deed Sc (mark_of h.id s.marks)) (target_of h s.ram Store va)) h.id s
    (then_plan (plan_access (length s.ram) h Store va) (plan_conditioned h disk rd va operand))
does_conditional h s disk rd va operand at =
    does_access h s Store va (plan_conditioned h disk rd va operand) (atomic_deed Sc (mark_of h.id s.marks))
    (λ cause. does_raised h s disk cause va)
    (λ walked low keeps. done_conditional _ h s disk rd walked.pa operand refl low (aligned va walked.pa at keeps))

does_combine : (h : Hart) (s : Seen) (disk : List ℕ) (rd : ℕ) (op : AtomicOp) (va operand : ℕ) → va % 4 ≡ 0 →
    Does (done_at (λ pa. Stores pa 4) (target_of h s.ram Store va)) h.id s
    (then_plan (plan_access (length s.ram) h Store va) (plan_combined h disk rd op va operand))
does_combine h s disk rd op va operand at =
    does_access h s Store va (plan_combined h disk rd op va operand) (λ pa. Stores pa 4)
    (λ cause. does_raised h s disk cause va)
    (λ walked low keeps. done_kept (Stores walked.pa 4) h.id s _ refl (keeps_stored walked.pa 4 _ s low
    (aligned va walked.pa at keeps) four) (λ x same. cc))

does_atomic_access : (h : Hart) (s : Seen) (disk : List ℕ) (rd : ℕ) (op : AtomicOp) (va operand : ℕ) → va % 4 ≡ 0 →
    Does (done_at (atomic_deed op (mark_of h.id s.marks)) (target_of h s.ram (atomic_kind op) va)) h.id s
    (plan_atomic_access (length s.ram) h disk rd op va operand)
does_atomic_access h s disk rd Lr va operand at = does_reserve h s disk rd va at
does_atomic_access h s disk rd Sc va operand at = does_conditional h s disk rd va operand at
does_atomic_access h s disk rd Swap va operand at = does_combine h s disk rd Swap va operand at
does_atomic_access h s disk rd Add va operand at = does_combine h s disk rd Add va operand at
does_atomic_access h s disk rd Xor va operand at = does_combine h s disk rd Xor va operand at
does_atomic_access h s disk rd And va operand at = does_combine h s disk rd And va operand at
does_atomic_access h s disk rd Or va operand at = does_combine h s disk rd Or va operand at
does_atomic_access h s disk rd Min va operand at = does_combine h s disk rd Min va operand at
does_atomic_access h s disk rd Max va operand at = does_combine h s disk rd Max va operand at
does_atomic_access h s disk rd Minu va operand at = does_combine h s disk rd Minu va operand at
does_atomic_access h s disk rd Maxu va operand at = does_combine h s disk rd Maxu va operand at

does_atomic : (h : Hart) (s : Seen) (disk : List ℕ) (w : ℕ) (a : Option Atomic) →
    Does (atomic_word_deed h s a) h.id s (plan_atomic (length s.ram) h disk w a)
unfolding atomic_word_deed
does_atomic h s disk w None = does_raised h s disk 2 w
does_atomic h s disk w (Some a) =
    let va = register h.regs a.rs1 in
    does_if (done_at (atomic_deed a.op (mark_of h.id s.marks)) (target_of h s.ram (atomic_kind a.op) va)) Idle h.id s
    (va % 4 == 0) (plan_atomic_access (length s.ram) h disk a.rd a.op va (register h.regs a.rs2))
    (Gives (leaves (over disk (raised h (misaligned a.op) va))))
    (λ at. does_atomic_access h s disk a.rd a.op va (register h.regs a.rs2) (eqb-true (va % 4) 0 at))
    (does_raised h s disk (misaligned a.op) va)

-- Ecalls.

block_long : (disk : List ℕ) (block : ℕ) → block < length disk / 4096 → length (block_at disk block) ≡ 4096
block_long disk block less =
    let a = length-take 4096 (drop (4096 * block) disk) in
    let b = length-drop (4096 * block) disk in
    omega (arith, a, b, less)

done_in : (h : Hart) (s : Seen) (disk : List ℕ) →
    is_transfer (length s.ram) disk (register h.regs 10) (register h.regs 11) ≡ true →
    Does (Fills (register h.regs 11)) h.id s (plan_in h disk)
done_in h s disk is =
    let pa : ℕ = register h.regs 11 in
    let block : ℕ = register h.regs 10 in
    let n : ℕ = length s.ram in
    let first = and_parts (nat_lt block (length disk / 4096)) ((pa % 4096 == 0) && is_in_frames n pa) is in
    let second = and_parts (pa % 4096 == 0) (is_in_frames n pa) first.1 in
    let third = and_parts (nat_le ram_start pa) (nat_lt (frame_of pa) n) second.1 in
    let low : ram_start ≤ pa = leb-true ram_start pa third.0 in
    let at : pa % 4096 ≡ 0 = eqb-true (pa % 4096) 0 second.0 in
    let start : ram_start + 4096 * frame_of pa ≡ pa = omega (arith, low, at) in
    let long = block_long disk block (ltb-true block (length disk / 4096) first.0) in
    done_kept (Fills pa) h.id s _ refl
    (subst (λ (n : ℕ). Keeps (record { from = n; count = 4096 } ∷ []) s (filled (frame_of pa)
    (block_at disk block) s)) start
    (keeps_filled (frame_of pa) (block_at disk block) s long)) (λ x same. cc)

-- no other call fills a frame
no_read : (mode : Mode) (h : Hart) (ram : List (List ℕ)) (disk : List ℕ) → (register h.regs 17 == 2) ≡ false →
    Idle ≡ read_deed mode h ram disk
no_read U h ram disk not = refl
no_read S h ram disk not =
    let t = is_transfer (length ram) disk (register h.regs 10) (register h.regs 11) in
    sym (ap (λ (b : Bool). if b && t then Fills (register h.regs 11) else Idle) not)

does_other : (mode : Mode) (h : Hart) (s : Seen) (disk : List ℕ) (k : ℕ) (made : SteppedKernel) → (k == 2) ≡ false →
    made.hart.id ≡ h.id → (register h.regs 17 == k) ≡ true →
    Does (read_deed mode h s.ram disk) h.id s (Gives (leaves made))
does_other mode h s disk k made apart same is =
    does_as Idle (read_deed mode h s.ram disk) h.id s (Gives (leaves made))
    (no_read mode h s.ram disk (other_number (register h.regs 17) k 2 is apart))
    (does_gives h.id s made same)

does_read : (h : Hart) (s : Seen) (disk : List ℕ) → (register h.regs 17 == 2) ≡ true →
    Does (read_deed S h s.ram disk) h.id s (plan_read (length s.ram) h disk)
does_read h s disk is =
    let t = is_transfer (length s.ram) disk (register h.regs 10) (register h.regs 11) in
    does_as (if t then Fills (register h.regs 11) else Idle) (read_deed S h s.ram disk) h.id s (plan_read
    (length s.ram) h disk)
    (sym (ap (λ (b : Bool). if b && t then Fills (register h.regs 11) else Idle) is))
    (does_if (Fills (register h.regs 11)) Idle h.id s t (plan_in h disk) (Gives (leaves (over disk
    (host_answers h 1))))
    (λ transfers. done_in h s disk transfers) (does_gives h.id s _ refl))

put_id : (h : Hart) → (put_call h).hart.id ≡ h.id
unfolding put_call
put_id h = refl

timer_id : (h : Hart) → (timer_call h).hart.id ≡ h.id
unfolding timer_call
timer_id h = refl

halt_id : (h : Hart) → (halt_call h).hart.id ≡ h.id
unfolding halt_call
halt_id h = refl

resumed_id : (h : Hart) → (resumed h).hart.id ≡ h.id
unfolding resumed
resumed_id h = refl

does_write : (h : Hart) (s : Seen) (disk : List ℕ) → Does Idle h.id s (plan_write (length s.ram) h disk)
does_write h s disk =
    does_case Idle h.id s (is_transfer (length s.ram) disk (register h.regs 10) (register h.regs 11))
    (plan_out h disk)
    (Gives (leaves (over disk (host_answers h 1)))) (λ yes. does_gives h.id s _ refl) (λ no. does_gives h.id s _ refl)

-- HALT, and every other number
abbrev plan_rest : Hart → List ℕ → Plan (Close SteppedKernel)
plan_rest h disk =
    if register h.regs 17 == 4 then Gives (leaves (over disk (halt_call h))) else
    Gives (leaves (over disk (host_answers h (2 ^ 32 - 1))))

does_rest : (h : Hart) (s : Seen) (disk : List ℕ) → Does Idle h.id s (plan_rest h disk)
does_rest h s disk =
    does_case Idle h.id s (register h.regs 17 == 4) (Gives (leaves (over disk (halt_call h))))
    (Gives (leaves (over disk (host_answers h (2 ^ 32 - 1))))) (λ is. does_gives h.id s _ (halt_id h))
    (λ not. does_gives h.id s _ refl)

abbrev plan_later : ℕ → Hart → List ℕ → Plan (Close SteppedKernel)
plan_later n h disk = if register h.regs 17 == 3 then plan_write n h disk else plan_rest h disk

does_later : (h : Hart) (s : Seen) (disk : List ℕ) → Does Idle h.id s (plan_later (length s.ram) h disk)
does_later h s disk =
    does_case Idle h.id s (register h.regs 17 == 3) (plan_write (length s.ram) h disk) (plan_rest h disk)
    (λ is. does_write h s disk) (λ not. does_rest h s disk)

does_host_call : (h : Hart) (s : Seen) (disk : List ℕ) →
    Does (read_deed S h s.ram disk) h.id s (plan_host_call (length s.ram) h disk)
does_host_call h s disk =
    let x = register h.regs 17 in
    let n = length s.ram in
    let d = read_deed S h s.ram disk in
    does_case d h.id s (x == 0) (Gives (leaves (over disk (put_call h))))
    (if x == 1 then Gives (leaves (over disk (timer_call h))) else if x ==
    2 then plan_read n h disk else plan_later n h disk)
    (does_other S h s disk 0 (over disk (put_call h)) refl (put_id h)) (λ not0.
    does_case d h.id s (x == 1) (Gives (leaves (over disk (timer_call h))))
    (if x == 2 then plan_read n h disk else plan_later n h disk)
    (does_other S h s disk 1 (over disk (timer_call h)) refl (timer_id h)) (λ not1.
    does_case d h.id s (x == 2) (plan_read n h disk) (plan_later n h disk) (does_read h s disk) (λ not2.
    does_as Idle d h.id s (plan_later n h disk) (no_read S h s.ram disk not2) (does_later h s disk))))

does_ecall_in : (mode : Mode) (h : Hart) (s : Seen) (disk : List ℕ) →
    Does (read_deed mode h s.ram disk) h.id s (plan_ecall_in mode (length s.ram) h disk)
does_ecall_in U h s disk = does_raised h s disk 8 0
does_ecall_in S h s disk = does_host_call h s disk

does_ecall : (h : Hart) (s : Seen) (disk : List ℕ) →
    Does (read_deed h.mode h s.ram disk) h.id s (plan_ecall (length s.ram) h disk)
does_ecall h s disk =
    does_case (read_deed h.mode h s.ram disk) h.id s (register h.regs 17 == 0x4F560000) (Gives (leaves (over disk
    (resumed h))))
    (plan_ecall_in h.mode (length s.ram) h disk)
    (does_other h.mode h s disk 0x4F560000 (over disk (resumed h)) refl (resumed_id h)) (λ other. does_ecall_in
    h.mode h s disk)

-- Instructions.

does_done : (h : Hart) (s : Seen) (disk : List ℕ) (w : ℕ) (i : Instr) (e : Effect) → StoresAligned e →
    Does (effect_deed h s disk i e) h.id s (plan_done (length s.ram) h disk w i e)
unfolding effect_deed
does_done h s disk w i (does.Load rd va width signed) at = does_load h s disk rd va width signed
does_done h s disk w i (does.Store va width value) at = does_store h s disk va width value at.0 at.1
does_done h s disk w i does.System at =
    does_if (read_deed h.mode h s.ram disk) Idle h.id s (is_ecall i) (plan_ecall (length s.ram) h disk)
    (Gives (leaves (over disk (system h w i)))) (λ is. does_ecall h s disk) (does_gives h.id s _ (system_id h w i))
does_done h s disk w i (does.Raise cause value) at = does_raised h s disk cause value
does_done h s disk w i _ at = does_gives h.id s _ refl

does_decoded : (h : Hart) (s : Seen) (disk : List ℕ) (w : ℕ) (i : Option Instr) →
    Does (word_deed h s disk w i) h.id s (plan_decoded (length s.ram) h disk w i)
does_decoded h s disk w None = does_atomic h s disk w (atomic_instruction w)
does_decoded h s disk w (Some i) =
    does_done h s disk w i (effect i h.regs h.pc) (effect_aligned i h.regs h.pc)

does_fetched : (h : Hart) (s : Seen) (disk : List ℕ) →
    Does (done_at (fetched_deed h s disk) (target_of h s.ram Fetch h.pc)) h.id s
    (then_plan (plan_access (length s.ram) h Fetch h.pc) (plan_fetched (length s.ram) h disk))
does_fetched h s disk =
    does_access h s Fetch h.pc (plan_fetched (length s.ram) h disk) (fetched_deed h s disk)
    (λ cause. does_raised h s disk cause h.pc)
    (λ walked low keeps. let word = value_at s.ram walked.pa 4 in does_decoded h s disk word (instruction word))

does_interrupted : (due : Bool) (h : Hart) (s : Seen) (disk : List ℕ) →
    Does (deed_after due h s disk) h.id s (plan_interrupted due (length s.ram) h disk)
does_interrupted true h s disk = does_raised h s disk 0x80000005 0
does_interrupted false h s disk = does_fetched h s disk

-- The whole step: a trap and a resuming end the reservation.

either_left : (b : Bool) (hart : ℕ) (s : Seen) → Keeps [] s (if b then unmarked hart s else s)
either_left true hart s = keeps_unmarked hart s
either_left false hart s = keeps_all s

done_released : (deed : Deed) (id : ℕ) (s : Seen) (close : Close SteppedKernel) → DoneBy deed id s (close s) →
    DoneBy deed id s (release close s)
done_released deed id s close done =
    let end = close s in
    let left = either_left (ends_reservation end.0.ending) end.0.hart.id end.1 in
    record {
      same = done.same;
      marks = λ k pa is. done.marks k pa (left.marks k pa is).0;
      whole = λ all. left.whole (done.whole all);
      bytes = λ all pa low spares. left.bytes (done.whole all) pa low tt ∙ done.bytes all pa low spares;
      conditional = done.conditional;
    }

ticked_by : (b c : Bool) (h g k : Hart) → g.id ≡ h.id → k.id ≡ h.id → (if b then h else if c then g else k).id ≡ h.id
ticked_by true c h g k first second = refl
ticked_by false true h g k first second = first
ticked_by false false h g k first second = second

pub ticked_id : (h : Hart) → (ticked h).id ≡ h.id
unfolding ticked
ticked_id h = ticked_by (h.timer == 0) (h.timer == 1) h _ _ refl refl

does_step : (h : Hart) (s : Seen) (disk : List ℕ) →
    Does (deed_of h s disk) (ticked h).id s (plan_step (length s.ram) h disk)
unfolding deed_of plan_step
does_step h s disk =
    let due = interrupt_due (ticked h).mode (ticked h).csrs in
    let p = plan_interrupted due (length s.ram) (ticked h) disk in
    let next : Close SteppedKernel → Plan (Close SteppedKernel) = λ close. Gives (release close) in
    subst (λ (close : Close SteppedKernel). DoneBy (deed_after due (ticked h) s disk) (ticked h).id s (close s))
    (sym (answer_then p next s.ram))
    (done_released (deed_after due (ticked h) s disk) (ticked h).id s (answer_in p s.ram)
    (does_interrupted due (ticked h) s disk))

pub plain_step_does : (h : Hart) (disk : List ℕ) (s : Seen) →
    let told = kernel_step h disk (Flat s) in DoneBy (deed_of h s disk) h.id s (told.answer, seen_of told.world)
plain_step_does h disk s =
    let close : Close SteppedKernel = answer_in (plan_step (length s.ram) h disk) s.ram in
    let same = flat_step h disk (length s.ram) s refl in
    subst (λ (told : Told SteppedKernel). DoneBy (deed_of h s disk) h.id s (told.answer, seen_of told.world))
    (sym same)
    (subst (λ (id : ℕ). DoneBy (deed_of h s disk) id s (close s)) (ticked_id h) (does_step h s disk))
