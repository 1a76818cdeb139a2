-- A call that is told of a step is made in it.
use Rattle.std.proofs.Common.{◌≡◌, ◌∙◌, ◌<◌, ◌≤◌, ◌⊎◌, ◌%◌, ◌==◌, ◌&&◌, ◌||◌, ℕ, Bool, true, false, if◌then◌else◌, List, [], ◌∷◌, length, Option, Some, None, Result, Ok, Err, refl, sym, ap, subst, inl, inr, arith}
use Rattle.std.specs.Prelude.{◌-◌, ◌^◌, nat_le, nat_lt, slice_index_or}
use Rattle.std.proofs.lemmas.Bool.{and_parts, eqb-true, false≢true, leb-true}
use Rattle.std.proofs.lemmas.List.{get_or-set_same}
use Rattle.std.proofs.lemmas.Option.{same_Some}
use Rattle.cloak_base.specs.Constants.{frame_of, place_of, ram_start}
use Rattle.cloak_base.specs.Registers.{register, with_register}
use Rattle.cloak_base.specs.declared.names.Kind.TheVariants.{Fetch}
use Rattle.cloak_base.specs.declared.names.Mode.{Mode}
use Rattle.cloak_base.specs.declared.names.Mode.TheVariants.{U, S}
use Rattle.rv_isa.specs.Table.{instruction, privileged_line, system_line}
use Rattle.rv_isa.specs.declared.instr.Instr.{Instr}
use Rattle.rv_isa.specs.declared.instr.Instr.TheVariants.{Ecall}
use Rattle.cloak_model.specs.declared.access.Access.{Access}
use Rattle.cloak_model.specs.declared.access.Walked.{Walked}
use Rattle.cloak_model.specs.declared.outcome.Kernel.{Kernel}
use Rattle.cloak_model.specs.declared.outcome.Kernel.TheVariants.{Stay}
use Rattle.cloak_model.specs.Ask.{ask_count, ask_fill, ask_frame, ask_in_ram, ask_led, ask_load, ask_translate, ask_unmark, ask_value, loaded_at}
use Rattle.cloak_model.specs.Asking.{Told, answered, then_ask}
use Rattle.cloak_model.specs.Csr.{Csrs, csr_word, satp_of, sstatus_of, timer_cause, with_csr, with_pending}
use Rattle.cloak_model.specs.CsrNumbers as csr
use Rattle.cloak_model.specs.Effect.{effect}
use Rattle.cloak_model.specs.Hart.{Hart}
use Rattle.cloak_model.specs.HartStep.{raised}
use Rattle.cloak_model.specs.HostCalls.{SteppedKernel, block_at, ecall, ecall_in, ends, halt_call, host_answers, host_call, is_transfer, over, put_call, read_block, read_call, resumed, timer_call, with_block, write_block, write_call}
use Rattle.cloak_model.specs.KernelStep.{access, carried_out, ends_reservation, executed, instruction_step, kernel_step, or_trap, released, ticked}
use Rattle.cloak_model.specs.Memory.{Seen, filled, is_in_ram, value_at, value_in}
use Rattle.cloak_model.specs.Walk.{Walk, access_fault, walk}
use Rattle.cloak_model.specs.World.{Flat, World}
use Rattle.cloak_model.proofs.FlatWalk.{ask_walk-flat}
use Rattle.cloak_model.proofs.InPage.{keeps_walk}
use Rattle.replayed_run.specs.Leading.{call_for, call_from, calls_disk, disk_call, frame_fetched, frame_in, frame_led, is_interrupted, is_supervisor}
use Rattle.replayed_run.specs.declared.frames.DiskCall.{DiskCall}
use Rattle.call_law.specs.Calls.{IsMade, ToldCallsAreMade}

-- What is known of a hart of which a call is told.

none_or : {A : Type 0} (b : Bool) (x : Option A) (y : A) → (if b then None else x) ≡ Some y → (b ≡ false) × (x ≡ Some y)
none_or true x y is = absurd cc
none_or false x y is = (refl, is)

or_none : {A : Type 0} (b : Bool) (x : Option A) (y : A) → (if b then x else None) ≡ Some y → (b ≡ true) × (x ≡ Some y)
or_none true x y is = (refl, is)
or_none false x y is = absurd cc

one_of : (a b : Bool) → (a || b) ≡ true → (a ≡ true) ⊎ (b ≡ true)
one_of true b is = inl refl
one_of false b is = inr is

is_s : (mode : Mode) → is_supervisor mode ≡ true → mode ≡ S
is_s S is = refl
is_s U is = absurd (false≢true is)

record Calls (h : Hart) (ram : List (List ℕ)) (call : DiskCall) : Type 0 where
  pub due : is_interrupted h ≡ false
  pub at : ℕ
  pub fetched : frame_fetched ram h ≡ Some at
  pub word : value_in (slice_index_or ram at []) (h.pc % 4096) 4 ≡ 0x73
  pub mode : h.mode ≡ S
  pub number : (register h.regs 17 ≡ 2) ⊎ (register h.regs 17 ≡ 3)
  pub named : call_for h (frame_in ram (register h.regs 11)) ≡ Some call

calls_from : (h : Hart) (ram : List (List ℕ)) (call : DiskCall) (o : Option ℕ) → is_interrupted h ≡ false →
    frame_fetched ram h ≡ o → call_from ram h o ≡ Some call → Calls h ram call
calls_from h ram call None due fetched is = absurd cc
calls_from h ram call (Some at) due fetched is =
    let word = value_in (slice_index_or ram at []) (h.pc % 4096) 4 in
    let named = or_none (calls_disk h word) (call_for h (frame_in ram (register h.regs 11))) call is in
    let first = and_parts (word == 0x73)
    (is_supervisor h.mode && ((register h.regs 17 == 2) || (register h.regs 17 == 3))) named.0 in
    let second = and_parts (is_supervisor h.mode) ((register h.regs 17 == 2) || (register h.regs 17 == 3)) first.1 in
    record {
      due = due;
      at = at;
      fetched = fetched;
      word = eqb-true word 0x73 first.0;
      mode = is_s h.mode second.0;
      number = elim (one_of (register h.regs 17 == 2) (register h.regs 17 == 3) second.1) [
        | inl two ↦ inl (eqb-true (register h.regs 17) 2 two)
        | inr three ↦ inr (eqb-true (register h.regs 17) 3 three)
      ];
      named = named.1;
    }

calls : (h : Hart) (ram : List (List ℕ)) (call : DiskCall) → disk_call ram h ≡ Some call → Calls h ram call
calls h ram call is =
    let parts = none_or (is_interrupted h) (call_from ram h (frame_fetched ram h)) call is in
    calls_from h ram call (frame_fetched ram h) parts.0 refl parts.1

-- The timer changes neither registers nor translation.

key_by : (here there : Bool) (v w rest rest' : ℕ) → (here ≡ true → there ≡ false) → rest ≡ rest' →
    (if here then (if there then w else v) else rest) ≡ (if here then v else rest')
key_by true true v w rest rest' apart same = absurd (false≢true (sym (apart refl)))
key_by true false v w rest rest' apart same = refl
key_by false there v w rest rest' apart same = same

key_kept : (csrs : Csrs) (n m w : ℕ) → (m == n) ≡ false → csr_word (with_csr csrs n w) m ≡ csr_word csrs m
key_kept [] n m w apart = refl
key_kept (entry ∷ csrs) n m w apart =
    key_by (entry.0 == m) (entry.0 == n) entry.1 w _ _
    (λ is. ap (λ (k : ℕ). k == n) (eqb-true entry.0 m is) ∙ apart) (key_kept csrs n m w apart)

-- what a step by the timer keeps
record Ticks (h h' : Hart) : Type 0 where
  pub regs : h'.regs ≡ h.regs
  pub mode : h'.mode ≡ h.mode
  pub pc : h'.pc ≡ h.pc
  pub satp : satp_of h'.csrs ≡ satp_of h.csrs
  pub status : csr_word h'.csrs csr.sstatus ≡ csr_word h.csrs csr.sstatus

pends : (h : Hart) → Ticks h (record h { timer = 0; csrs = with_pending true h.csrs })
unfolding with_pending
pends h = record {
  regs = refl;
  mode = refl;
  pc = refl;
  satp = key_kept h.csrs csr.sip csr.satp _ refl;
  status = key_kept h.csrs csr.sip csr.sstatus _ refl;
}

ticks_if : (zero one : Bool) (h : Hart) → Ticks h
    (if zero then h else
    (if one then record h { timer = 0; csrs = with_pending true h.csrs } else record h { timer = h.timer - 1 }))
ticks_if true one h = record { regs = refl; mode = refl; pc = refl; satp = refl; status = refl }
ticks_if false true h = pends h
ticks_if false false h = record { regs = refl; mode = refl; pc = refl; satp = refl; status = refl }

ticks : (h : Hart) → Ticks h (ticked h)
unfolding ticked
ticks h = ticks_if (h.timer == 0) (h.timer == 1) h

-- where a fetch leads, by what it depends on
abbrev led : List (List ℕ) → ℕ → ℕ → Mode → ℕ → Option ℕ
led ram satp status mode pc = frame_led ram (walk ram satp (record {
  mode = mode;
  sum = (sstatus_of status).sum;
  mxr = (sstatus_of status).mxr;
  va = pc;
  kind = Fetch;
}))

fetches_so : (h h' : Hart) (ram : List (List ℕ)) → Ticks h h' → frame_fetched ram h' ≡ frame_fetched ram h
fetches_so h h' ram t =
    ap (λ (n : ℕ). led ram n (csr_word h'.csrs csr.sstatus) h'.mode h'.pc) t.satp
    ∙ (ap (λ (n : ℕ). led ram (satp_of h.csrs) n h'.mode h'.pc) t.status
    ∙ (ap (λ (m : Mode). led ram (satp_of h.csrs) (csr_word h.csrs csr.sstatus) m h'.pc) t.mode
    ∙ ap (λ (n : ℕ). led ram (satp_of h.csrs) (csr_word h.csrs csr.sstatus) h.mode n) t.pc))

-- The fetch.

in_ram : (ram : List (List ℕ)) (pa at : ℕ) → frame_in ram pa ≡ Some at → (is_in_ram ram pa ≡ true) × (frame_of pa ≡ at)
in_ram ram pa at is =
    let parts = or_none (is_in_ram ram pa) (Some (frame_of pa)) at is in
    (parts.0, same_Some (frame_of pa) at parts.1)

same_place : (ram : List (List ℕ)) (pa va : ℕ) → is_in_ram ram pa ≡ true → pa % 4096 ≡ va % 4096 →
    place_of pa ≡ va % 4096
same_place ram pa va there same =
    let parts = and_parts (nat_le ram_start pa) (nat_lt (frame_of pa) (length ram)) there in
    let low : ram_start ≤ pa = leb-true ram_start pa parts.0 in
    omega (arith, low, same)

found_word : (ram : List (List ℕ)) (pa va at : ℕ) → is_in_ram ram pa ≡ true → frame_of pa ≡ at →
    pa % 4096 ≡ va % 4096 → value_at ram pa 4 ≡ value_in (slice_index_or ram at []) (va % 4096) 4
found_word ram pa va at there frame same =
    ap (λ (f : ℕ). value_in (slice_index_or ram f []) (place_of pa) 4) frame
    ∙ ap (λ (n : ℕ). value_in (slice_index_or ram at []) n 4) (same_place ram pa va there same)

led_to : (a : Access) (w : Walk) (seen : Seen) (walked : Walked) → w ≡ Ok walked → is_in_ram seen.ram walked.pa ≡ true →
    ask_in_ram a w (Flat seen) ≡ record { answer = Ok walked; world = Flat seen }
unfolding ask_in_ram
led_to a w seen walked is there =
    ap (λ (x : Walk). ask_in_ram a x (Flat seen)) is
    ∙ ap (λ (b : Bool). let t : Told Walk =
    record { answer = if b then Ok walked else Err (access_fault a.kind); world = Flat seen } in t) there

loads : (satp : ℕ) (a : Access) (seen : Seen) (walked : Walked) →
    loaded_at satp a 4 (Ok walked) (Flat seen) ≡ record { answer = Ok (value_at seen.ram walked.pa 4); world = Flat seen }
unfolding loaded_at ask_value
loads satp a seen walked = refl

load_by : (satp : ℕ) (a : Access) (seen : Seen) (walked : Walked) → walk seen.ram satp a ≡ Ok walked →
    is_in_ram seen.ram walked.pa ≡ true →
    ask_load satp a 4 (Flat seen) ≡ record { answer = Ok (value_at seen.ram walked.pa 4); world = Flat seen }
unfolding ask_load ask_led ask_translate
load_by satp a seen walked is there =
    ap (λ (t : Told Walk). let u = ask_in_ram a t.answer t.world in loaded_at satp a 4 u.answer u.world)
    (ask_walk-flat satp a seen)
    ∙ (ap (λ (u : Told Walk). loaded_at satp a 4 u.answer u.world) (led_to a _ seen walked is there)
    ∙ loads satp a seen walked)

fetch_by : (h : Hart) (seen : Seen) (at : ℕ) (w : Walk) → walk seen.ram (satp_of h.csrs) (access h Fetch h.pc) ≡ w →
    frame_led seen.ram w ≡ Some at →
    ask_load (satp_of h.csrs) (access h Fetch h.pc) 4 (Flat seen)
    ≡ record { answer = Ok (value_in (slice_index_or seen.ram at []) (h.pc % 4096) 4); world = Flat seen }
fetch_by h seen at (Err cause) is found = absurd cc
fetch_by h seen at (Ok walked) is found =
    let parts = in_ram seen.ram walked.pa at found in
    let keeps = (keeps_walk seen.ram (satp_of h.csrs) (access h Fetch h.pc)).kept walked is in
    load_by (satp_of h.csrs) (access h Fetch h.pc) seen walked is parts.0
    ∙ ap (λ (n : ℕ). let t : Told (Result ℕ ℕ) = record { answer = Ok n; world = Flat seen } in t)
    (found_word seen.ram walked.pa h.pc at parts.0 parts.1 keeps)

-- The instruction.

is_ecall : instruction 0x73 ≡ Some Ecall
unfolding instruction privileged_line system_line
is_ecall = refl

ecall_done : (h : Hart) (disk : List ℕ) (w : World) →
    executed h disk 0x73 (Some Ecall) w ≡ ecall h disk w
unfolding carried_out effect
ecall_done h disk w = refl

instruction_by : (h : Hart) (disk : List ℕ) (seen : Seen) (at : ℕ) → frame_fetched seen.ram h ≡ Some at →
    value_in (slice_index_or seen.ram at []) (h.pc % 4096) 4 ≡ 0x73 →
    instruction_step h disk (Flat seen) ≡ ecall h disk (Flat seen)
unfolding instruction_step
instruction_by h disk seen at fetched word =
    ap (λ (t : Told (Result ℕ ℕ)). or_trap h disk h.pc t.answer (λ w. executed h disk w (instruction w)) t.world)
    (fetch_by h seen at _ refl fetched)
    ∙ (ap (λ (w : ℕ). executed h disk w (instruction w) (Flat seen)) word
    ∙ (ap (λ (i : Option Instr). executed h disk 0x73 i (Flat seen)) is_ecall ∙ ecall_done h disk (Flat seen)))

-- The call.

in_mode : (h : Hart) (disk : List ℕ) (w : World) (n : ℕ) → register h.regs 17 ≡ n → (n == 0x4F560000) ≡ false → h.mode ≡ S →
    ecall h disk w ≡ host_call h disk w
unfolding ecall ecall_in
in_mode h disk w n number other mode =
    ap (λ (b : Bool). if b then ends disk (resumed h) w else ecall_in h.mode h disk w)
    (ap (λ (k : ℕ). k == 0x4F560000) number ∙ other)
    ∙ ap (λ (m : Mode). ecall_in m h disk w) mode

-- by its number
abbrev call_numbered : Hart → List ℕ → World → ℕ → Told SteppedKernel
call_numbered h disk w k =
    if k == 0 then ends disk (put_call h) w else
    if k == 1 then ends disk (timer_call h) w else
    if k == 2 then read_call h disk w else
    if k == 3 then write_call h disk w else
    if k == 4 then ends disk (halt_call h) w else
    ends disk (host_answers h (2 ^ 32 - 1)) w

numbered : (h : Hart) (disk : List ℕ) (w : World) → host_call h disk w ≡ call_numbered h disk w (register h.regs 17)
unfolding host_call
numbered h disk w = refl

abbrev transfers : Hart → List ℕ → Seen → Bool
transfers h disk seen = is_transfer (length seen.ram) disk (register h.regs 10) (register h.regs 11)

abbrev told : SteppedKernel → World → Told SteppedKernel
told made w = record { answer = made; world = w }

reads : (h : Hart) (disk : List ℕ) (seen : Seen) → read_call h disk (Flat seen)
    ≡ (if transfers h disk seen
    then told (over disk (host_answers h 0))
    (Flat (filled (frame_of (register h.regs 11)) (block_at disk (register h.regs 10)) seen))
    else told (over disk (host_answers h 1)) (Flat seen))
unfolding read_call read_block ask_count ask_fill
reads h disk seen = refl

writes : (h : Hart) (disk : List ℕ) (seen : Seen) → write_call h disk (Flat seen)
    ≡ (if transfers h disk seen
    then told (over (with_block disk (register h.regs 10) (slice_index_or seen.ram (frame_of (register h.regs 11)) []))
    (host_answers h 0)) (Flat seen)
    else told (over disk (host_answers h 1)) (Flat seen))
unfolding write_call write_block ask_count ask_frame
writes h disk seen = refl

-- The step.

step_by : (h : Hart) (disk : List ℕ) (seen : Seen) → is_interrupted h ≡ false →
    kernel_step h disk (Flat seen)
    ≡ (let t = instruction_step (ticked h) disk (Flat seen) in released t.answer t.world)
unfolding kernel_step
step_by h disk seen due =
    ap (λ (b : Bool). let t = (if b then ends disk (raised (ticked h) timer_cause 0) else instruction_step (ticked h) disk)
    (Flat seen) in released t.answer t.world) due

stay : (made : SteppedKernel) (w : World) → made.ending ≡ Stay → released made w ≡ told made w
unfolding released
stay made w is =
    ap (λ (e : Kernel). if ends_reservation e then then_ask (ask_unmark made.hart.id) (λ done. answered made) w else
    answered made w) is

-- a refused call answers 1
refused_one : (regs : List ℕ) → 10 < length regs → register (with_register regs 10 1) 10 ≡ 0 → ⊥
refused_one regs long is =
    let one : register (with_register regs 10 1) 10 ≡ 1 = get_or-set_same regs 10 1 0 long in
    omega (arith, one, is)

-- the call that is named, by what it names
abbrev call_as : Bool → List ℕ → DiskCall
call_as write regs = record { is_write = write; block = register regs 10; frame = frame_of (register regs 11) }

named_call : (h : Hart) (b : Bool) (call : DiskCall) →
    call_for h (if b then Some (frame_of (register h.regs 11)) else None) ≡ Some call →
    call ≡ call_as (register h.regs 17 == 3) h.regs
named_call h true call is = sym (same_Some _ call is)
named_call h false call is = absurd cc

read_made : (h : Hart) (disk : List ℕ) (seen : Seen) (b : Bool) (r : Told SteppedKernel) → 10 < length h.regs →
    (let t = (if b then told (over disk (host_answers h 0))
    (Flat (filled (frame_of (register h.regs 11)) (block_at disk (register h.regs 10)) seen))
    else told (over disk (host_answers h 1)) (Flat seen)) in r ≡ released t.answer t.world) →
    register r.answer.hart.regs 10 ≡ 0 → IsMade (call_as false h.regs) disk seen r
read_made h disk seen true r long is done =
    let same : r ≡ told (over disk (host_answers h 0))
    (Flat (filled (frame_of (register h.regs 11)) (block_at disk (register h.regs 10)) seen)) = is ∙ stay _ _ refl in
    subst (λ (x : Told SteppedKernel). IsMade (call_as false h.regs) disk seen x) (sym same)
    (record { on_disk = refl; in_frames = refl })
read_made h disk seen false r long is done =
    let same : r ≡ told (over disk (host_answers h 1)) (Flat seen) = is ∙ stay _ _ refl in
    absurd (refused_one h.regs long
    (sym (ap (λ (x : Told SteppedKernel). register x.answer.hart.regs 10) same) ∙ done))

write_made : (h : Hart) (disk : List ℕ) (seen : Seen) (b : Bool) (r : Told SteppedKernel) → 10 < length h.regs →
    (let t = (if b
    then told (over (with_block disk (register h.regs 10) (slice_index_or seen.ram (frame_of (register h.regs 11)) []))
    (host_answers h 0)) (Flat seen)
    else told (over disk (host_answers h 1)) (Flat seen)) in r ≡ released t.answer t.world) →
    register r.answer.hart.regs 10 ≡ 0 → IsMade (call_as true h.regs) disk seen r
write_made h disk seen true r long is done =
    let same : r ≡ told
    (over (with_block disk (register h.regs 10) (slice_index_or seen.ram (frame_of (register h.regs 11)) []))
    (host_answers h 0)) (Flat seen) = is ∙ stay _ _ refl in
    subst (λ (x : Told SteppedKernel). IsMade (call_as true h.regs) disk seen x) (sym same)
    (record { on_disk = refl; in_frames = refl })
write_made h disk seen false r long is done =
    let same : r ≡ told (over disk (host_answers h 1)) (Flat seen) = is ∙ stay _ _ refl in
    absurd (refused_one h.regs long
    (sym (ap (λ (x : Told SteppedKernel). register x.answer.hart.regs 10) same) ∙ done))

-- what the release of a step makes of what was told
abbrev released_of : Told SteppedKernel → Told SteppedKernel
released_of t = released t.answer t.world

calls_made : (h : Hart) (disk : List ℕ) (seen : Seen) (call : DiskCall) → 10 < length h.regs → Calls h seen.ram call →
    register (kernel_step h disk (Flat seen)).answer.hart.regs 10 ≡ 0 →
    IsMade call disk seen (kernel_step h disk (Flat seen))
calls_made h disk seen call long c done =
    let h' = ticked h in
    let t = ticks h in
    let long' : 10 < length h'.regs = subst (λ (l : List ℕ). 10 < length l) (sym t.regs) long in
    let fetched : frame_fetched seen.ram h' ≡ Some c.at = fetches_so h h' seen.ram t ∙ c.fetched in
    let word : value_in (slice_index_or seen.ram c.at []) (h'.pc % 4096) 4 ≡ 0x73 =
    ap (λ (n : ℕ). value_in (slice_index_or seen.ram c.at []) (n % 4096) 4) t.pc ∙ c.word in
    let mode : h'.mode ≡ S = t.mode ∙ c.mode in
    let named : call ≡ call_as (register h.regs 17 == 3) h'.regs =
    named_call h (is_in_ram seen.ram (register h.regs 11)) call c.named
    ∙ ap (λ (l : List ℕ). call_as (register h.regs 17 == 3) l) (sym t.regs) in
    let step : kernel_step h disk (Flat seen) ≡ released_of (ecall h' disk (Flat seen)) =
    step_by h disk seen c.due ∙ ap released_of (instruction_by h' disk seen c.at fetched word) in
    elim c.number [
      | inl two ↦
          let number : register h'.regs 17 ≡ 2 = ap (λ (l : List ℕ). register l 17) t.regs ∙ two in
          let called : ecall h' disk (Flat seen) ≡ read_call h' disk (Flat seen) =
          in_mode h' disk (Flat seen) 2 number refl mode
          ∙ (numbered h' disk (Flat seen) ∙ ap (λ (k : ℕ). call_numbered h' disk (Flat seen) k) number) in
          let is : call ≡ call_as false h'.regs =
          named ∙ ap (λ (k : ℕ). call_as (k == 3) h'.regs) two in
          subst (λ (x : DiskCall). IsMade x disk seen (kernel_step h disk (Flat seen))) (sym is)
          (read_made h' disk seen (transfers h' disk seen) (kernel_step h disk (Flat seen)) long'
          (step ∙ ap released_of (called ∙ reads h' disk seen)) done)
      | inr three ↦
          let number : register h'.regs 17 ≡ 3 = ap (λ (l : List ℕ). register l 17) t.regs ∙ three in
          let called : ecall h' disk (Flat seen) ≡ write_call h' disk (Flat seen) =
          in_mode h' disk (Flat seen) 3 number refl mode
          ∙ (numbered h' disk (Flat seen) ∙ ap (λ (k : ℕ). call_numbered h' disk (Flat seen) k) number) in
          let is : call ≡ call_as true h'.regs =
          named ∙ ap (λ (k : ℕ). call_as (k == 3) h'.regs) three in
          subst (λ (x : DiskCall). IsMade x disk seen (kernel_step h disk (Flat seen))) (sym is)
          (write_made h' disk seen (transfers h' disk seen) (kernel_step h disk (Flat seen)) long'
          (step ∙ ap released_of (called ∙ writes h' disk seen)) done)
    ]

pub told_calls_are_made : ToldCallsAreMade
told_calls_are_made h disk seen call long told done = calls_made h disk seen call long (calls h seen.ram call told) done
