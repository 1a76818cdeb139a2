-- The kernel's harts: registers, control and status registers and program counter are words.
use Rattle.std.proofs.Common.{ℕ, ◌+◌, ◌-◌, ◌^◌, ◌≤◌, Bool, true, false, cond, List, [], ◌∷◌, Option, Some, None, unwrap_or, arith}
use Rattle.std.specs.Prelude.{IfSome, ◌==◌}
use Rattle.std.specs.List.{AllByRecursion}
use Rattle.std.proofs.lemmas.Nat.{or_of_32, and_le_l}
use Rattle.cloak_base.specs.Registers.{register, with_register, zero_registers}
use Rattle.cloak_base.specs.declared.causes.Shown.{Shown}
use Rattle.cloak_base.specs.declared.names.Mode.{Mode}
use Rattle.cloak_base.specs.declared.names.Mode.TheVariants.{U, S}
use Rattle.rv_isa.specs.declared.instr.Instr.{Instr}
use Rattle.rv_isa.specs.declared.instr.Instr.TheVariants as instr
use Rattle.cloak_model.specs.Csr.{Csrs, csr_word, with_csr, bit, sstatus_word, with_pending, csr_read, is_csr, aligned, kept, csr_write, trap_entry, trap_return, status, status_in_trap, status_after_return, is_supervisor}
use Rattle.cloak_model.specs.CsrNumbers as csr
use Rattle.cloak_model.specs.declared.sstatus.Sstatus.{Sstatus}
use Rattle.cloak_model.specs.declared.outcome.Kernel.{Kernel}
use Rattle.cloak_model.specs.declared.outcome.Kernel.TheVariants as ending
use Rattle.cloak_model.specs.Exchange.{shown_words}
use Rattle.cloak_model.specs.Hart.{Hart, started}
use Rattle.cloak_model.specs.HartStep.{SteppedHart, with_word, gone_on, stays, raised, illegal, csr_now, csr_written, csr_found, csr_step, cleared, returned, idle, system}
use Rattle.cloak_model.specs.KernelStep.{ticked}
use Rattle.cloak_model.specs.Leaving.{with_registers, shown_registers, leave}
use Rattle.cloak_model.specs.Record.{IsWord}
use Rattle.range_law.proofs.Bounds.{AreWords, rest_below, word_at, all_set, all_replicate}
use Rattle.range_law.proofs.Effects.{FieldsFit}
use Rattle.cloak_base.proofs.Choices.{either}

-- Registers.

pub with_register_fits : (regs : List ℕ) (i v : ℕ) → AreWords regs → IsWord v → AreWords (with_register regs i v)
with_register_fits regs i v all fits = either AreWords (i == 0) _ _ all (all_set IsWord regs i v all fits)

pub zero_registers_fit : AreWords zero_registers
unfolding zero_registers
zero_registers_fit = all_replicate IsWord 32 0 (omega arith)

-- Control and status registers.

abbrev pub CsrFits : ℕ × ℕ → Type 0
CsrFits entry = IsWord entry.1

abbrev pub CsrsFit : Csrs → Type 0
CsrsFit csrs = AllByRecursion CsrFits csrs

csr_word_fits : (csrs : Csrs) (n : ℕ) → CsrsFit csrs → IsWord (csr_word csrs n)
csr_word_fits [] n all = omega arith
csr_word_fits (e ∷ csrs) n all = either IsWord (e.0 == n) _ _ all.0 (csr_word_fits csrs n all.1)

with_csr_fits : (csrs : Csrs) (n w : ℕ) → CsrsFit csrs → IsWord w → CsrsFit (with_csr csrs n w)
with_csr_fits [] n w all fits = tt
with_csr_fits (e ∷ csrs) n w all fits = (either IsWord (e.0 == n) _ _ fits all.0, with_csr_fits csrs n w all.1 fits)

bit_at_most : (k : ℕ) (b : Bool) → bit k b ≤ 2 ^ k
bit_at_most k true = omega arith
bit_at_most k false = omega arith

sum_fits : (a b c d e : ℕ) → a ≤ 2 ^ 1 → b ≤ 2 ^ 5 → c ≤ 2 ^ 8 → d ≤ 2 ^ 18 → e ≤ 2 ^ 19 → IsWord (a + b + c + d + e)
sum_fits a b c d e p q r s t = omega (arith, p, q, r, s, t)

sstatus_fits : (s : Sstatus) → IsWord (sstatus_word s)
sstatus_fits s =
    sum_fits _ _ _ _ _ (bit_at_most 1 s.sie) (bit_at_most 5 s.spie) (bit_at_most 8 (is_supervisor s.spp))
    (bit_at_most 18 s.sum) (bit_at_most 19 s.mxr)

bit_fits : (b : Bool) → IsWord (bit 5 b)
bit_fits true = omega arith
bit_fits false = omega arith

pub aligned_fits : (w : ℕ) → IsWord w → IsWord (aligned w)
aligned_fits w fits = omega (arith, fits)

kept_fits : (n was w : ℕ) → IsWord was → IsWord w → IsWord (kept n was w)
kept_fits n was w old new =
    either IsWord (n == csr.sstatus) _ _ (sstatus_fits _)
    (either IsWord (n == csr.sie) _ _ (bit_fits _)
    (either IsWord (n == csr.stvec) _ _ (aligned_fits w new)
    (either IsWord (n == csr.sepc) _ _ (aligned_fits w new)
    (either IsWord (n == csr.sip) _ _ old new))))

csr_write_fits : (csrs : Csrs) (n w : ℕ) → CsrsFit csrs → IsWord w → CsrsFit (csr_write csrs n w)
unfolding csr_write
csr_write_fits [] n w all fits = tt
csr_write_fits (e ∷ csrs) n w all fits =
    (either IsWord (e.0 == n) _ _ (kept_fits e.0 e.1 w all.0 fits) all.0, csr_write_fits csrs n w all.1 fits)

pub with_pending_fits : (b : Bool) (csrs : Csrs) → CsrsFit csrs → CsrsFit (with_pending b csrs)
unfolding with_pending
with_pending_fits b csrs all = with_csr_fits csrs csr.sip _ all (bit_fits b)

pub trap_entry_fits : (mode : Mode) (cause value address : ℕ) (csrs : Csrs) → CsrsFit csrs → IsWord cause →
    IsWord value → IsWord address → CsrsFit (trap_entry mode cause value address csrs)
unfolding trap_entry
trap_entry_fits mode cause value address csrs all c v a =
    with_csr_fits _ csr.stval value
    (with_csr_fits _ csr.scause cause
    (with_csr_fits _ csr.sepc (aligned address)
    (with_csr_fits csrs csr.sstatus _ all (sstatus_fits (status_in_trap mode (status csrs)))) (aligned_fits address a)) c) v

-- Harts.

pub record HartFits (h : Hart) : Type 0 where
  pub regs : AreWords h.regs
  pub csrs : CsrsFit h.csrs
  pub pc : IsWord h.pc
  -- the number of the context that it is inside, which a register had
  pub inside : IfSome h.inside IsWord

pub started_fits : (entry h : ℕ) → IsWord entry → IsWord h → HartFits (started entry h)
unfolding started
started_fits entry h e n = record {
  regs = with_register_fits zero_registers 10 h zero_registers_fit n;
  csrs = (lit, (lit, (lit, (lit, (lit, (lit, (lit, (lit, (lit, tt)))))))));
  pc = e;
  inside = tt;
}
  where
    lit : IsWord 0
    lit = omega arith

pub register_fits : (h : Hart) (i : ℕ) → HartFits h → IsWord (register h.regs i)
register_fits h i fits = word_at h.regs i fits.regs

pub with_word_fits : (h : Hart) (rd value : ℕ) → HartFits h → IsWord value → HartFits (with_word h rd value)
with_word_fits h rd value fits v =
    record { regs = with_register_fits h.regs rd value fits.regs v; csrs = fits.csrs; pc = fits.pc; inside = fits.inside }

pub gone_on_fits : (h : Hart) → HartFits h → HartFits (gone_on h)
gone_on_fits h fits = record { regs = fits.regs; csrs = fits.csrs; pc = rest_below _; inside = fits.inside }

pub with_pc_fits : (h : Hart) (pc : ℕ) → HartFits h → IsWord pc → HartFits (record h { pc = pc })
with_pc_fits h pc fits here = record { regs = fits.regs; csrs = fits.csrs; pc = here; inside = fits.inside }

either_hart : (b : Bool) (x y : Hart) → HartFits x → HartFits y → HartFits (cond b x y)
either_hart true x y here there = here
either_hart false x y here there = there

pub ticked_fits : (h : Hart) → HartFits h → HartFits (ticked h)
unfolding ticked
ticked_fits h fits =
    either_hart (h.timer == 0) _ _ fits
    (either_hart (h.timer == 1) _ _ (record {
      regs = fits.regs;
      csrs = with_pending_fits true h.csrs fits.csrs;
      pc = fits.pc;
      inside = fits.inside;
    }) (record { regs = fits.regs; csrs = fits.csrs; pc = fits.pc; inside = fits.inside }))

-- How a step ended.

abbrev pub EndingFits : Kernel → Type 0
EndingFits (ending.Resume ctx answer) = IsWord ctx × IsWord answer
EndingFits _ = Unit {0}

pub record MadeFits (m : SteppedHart) : Type 0 where
  pub hart : HartFits m.hart
  pub ending : EndingFits m.ending

pub stays_fits : (h : Hart) → HartFits h → MadeFits (stays h)
stays_fits h fits = record { hart = fits; ending = tt }

pub raised_fits : (h : Hart) (cause value : ℕ) → HartFits h → IsWord cause → IsWord value →
    MadeFits (raised h cause value)
unfolding raised
raised_fits h cause value fits c v = record {
  hart = record {
    regs = fits.regs;
    csrs = trap_entry_fits h.mode cause value h.pc h.csrs fits.csrs c v fits.pc;
    pc = csr_word_fits h.csrs csr.stvec fits.csrs;
    inside = fits.inside;
  };
  ending = tt;
}

pub illegal_fits : (h : Hart) (w : ℕ) → HartFits h → IsWord w → MadeFits (illegal h w)
illegal_fits h w fits here = raised_fits h 2 w fits (omega arith) here

-- Instructions that the mode decides.

abbrev MayFit : Option ℕ → Type 0
MayFit None = Unit {0}
MayFit (Some w) = IsWord w

read_fits : (h : Hart) (n : ℕ) → HartFits h → MayFit (csr_read h.csrs n)
unfolding csr_read
read_fits h n fits = either MayFit (is_csr n) _ _ (csr_word_fits h.csrs n fits.csrs) tt

now_fits_if : (o : Option ℕ) → MayFit o → IsWord (unwrap_or o 0)
now_fits_if None fits = omega arith
now_fits_if (Some w) fits = fits

now_fits : (h : Hart) (n : ℕ) → HartFits h → IsWord (csr_now h n)
now_fits h n fits = now_fits_if (csr_read h.csrs n) (read_fits h n fits)

written_fits : (h : Hart) (rd n was : ℕ) (new : Option ℕ) → HartFits h → IsWord was → MayFit new →
    MadeFits (csr_written h rd n was new)
unfolding csr_written
written_fits h rd n was None fits old new = stays_fits _ (gone_on_fits _ (with_word_fits h rd was fits old))
written_fits h rd n was (Some w) fits old new =
    stays_fits _ (gone_on_fits _ (with_word_fits (record h { csrs = csr_write h.csrs n w }) rd was
    (record { regs = fits.regs; csrs = csr_write_fits h.csrs n w fits.csrs new; pc = fits.pc; inside = fits.inside }) old))

found_fits : (h : Hart) (w rd n : ℕ) (new found : Option ℕ) → HartFits h → IsWord w → MayFit new → MayFit found →
    MadeFits (csr_found h w rd n new found)
unfolding csr_found
found_fits h w rd n new None fits word value found = illegal_fits h w fits word
found_fits h w rd n new (Some was) fits word value found = written_fits h rd n was new fits found value

csr_step_fits : (mode : Mode) (h : Hart) (w rd n : ℕ) (new : Option ℕ) → HartFits h → IsWord w → MayFit new →
    MadeFits (csr_step mode h w rd n new)
unfolding csr_step
csr_step_fits U h w rd n new fits word value = illegal_fits h w fits word
csr_step_fits S h w rd n new fits word value = found_fits h w rd n new _ fits word value (read_fits h n fits)

cleared_fits : (a b : ℕ) → IsWord a → IsWord (cleared a b)
cleared_fits a b fits = let le = and_le_l a (2 ^ 32 - 1 - b) in omega (arith, le, fits)

returned_fits : (mode : Mode) (h : Hart) (w : ℕ) → HartFits h → IsWord w → MadeFits (returned mode h w)
unfolding returned trap_return
returned_fits U h w fits word = illegal_fits h w fits word
returned_fits S h w fits word = stays_fits _ (record {
  regs = fits.regs;
  csrs = with_csr_fits h.csrs csr.sstatus _ fits.csrs (sstatus_fits (status_after_return (status h.csrs)));
  pc = csr_word_fits h.csrs csr.sepc fits.csrs;
  inside = fits.inside;
})

idle_fits : (mode : Mode) (h : Hart) (w : ℕ) → HartFits h → IsWord w → MadeFits (idle mode h w)
unfolding idle
idle_fits U h w fits word = illegal_fits h w fits word
idle_fits S h w fits word = stays_fits _ (gone_on_fits h fits)

unless_zero : (n w : ℕ) → IsWord w → MayFit (cond (n == 0) None (Some w))
unless_zero n w fits = either MayFit (n == 0) None (Some w) tt fits

pub system_fits : (h : Hart) (w : ℕ) (i : Instr) → HartFits h → IsWord w → FieldsFit i → MadeFits (system h w i)
unfolding system
system_fits h w (instr.Csrrw rd rs1 n) fits word f =
    csr_step_fits h.mode h w rd n (Some _) fits word (register_fits h rs1 fits)
system_fits h w (instr.Csrrs rd rs1 n) fits word f =
    csr_step_fits h.mode h w rd n _ fits word
    (unless_zero rs1 _ (or_of_32 _ _ (now_fits h n fits) (register_fits h rs1 fits)))
system_fits h w (instr.Csrrc rd rs1 n) fits word f =
    csr_step_fits h.mode h w rd n _ fits word (unless_zero rs1 _ (cleared_fits _ _ (now_fits h n fits)))
system_fits h w (instr.Csrrwi rd uimm n) fits word f = csr_step_fits h.mode h w rd n (Some uimm) fits word f
system_fits h w (instr.Csrrsi rd uimm n) fits word f =
    csr_step_fits h.mode h w rd n _ fits word (unless_zero uimm _ (or_of_32 _ _ (now_fits h n fits) f))
system_fits h w (instr.Csrrci rd uimm n) fits word f =
    csr_step_fits h.mode h w rd n _ fits word (unless_zero uimm _ (cleared_fits _ _ (now_fits h n fits)))
system_fits h w instr.Ebreak fits word f = raised_fits h 3 0 fits (omega arith) (omega arith)
system_fits h w instr.Sret fits word f = returned_fits h.mode h w fits word
system_fits h w instr.Wfi fits word f = idle_fits h.mode h w fits word
system_fits h w (instr.SfenceVma rs1 rs2) fits word f = idle_fits h.mode h w fits word
system_fits h w _ fits word f = illegal_fits h w fits word

-- Leaving a context.

registers_fit : (regs : List ℕ) (i : ℕ) (words : List ℕ) → AreWords regs → AreWords words →
    AreWords (with_registers regs i words)
registers_fit regs i [] all words = all
registers_fit regs i (w ∷ more) all words =
    registers_fit (with_register regs i w) (i + 1) more (with_register_fits regs i w all words.0) words.1

pub leave_fits : (h : Hart) (s : Shown) → HartFits h → AreWords (shown_words s) → HartFits (leave h s)
unfolding leave shown_registers
leave_fits h s fits words = record {
  regs = with_register_fits _ 17 s.number
      (registers_fit _ 10 s.args (with_register_fits zero_registers 5 s.ctx zero_registers_fit words.1.1.0) words.1.1.1.1)
      words.1.1.1.0;
  csrs = trap_entry_fits U s.cause s.stval 0x00001000 h.csrs fits.csrs words.0 words.1.0 (omega arith);
  pc = csr_word_fits h.csrs csr.stvec fits.csrs;
  inside = tt;
}
