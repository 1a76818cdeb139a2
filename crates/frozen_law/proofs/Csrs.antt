-- Control and status registers: none has a bit that it does not keep, whatever is written.
use Rattle.std.proofs.Common.{◌≡◌, ◌∙◌, ℕ, ◌%◌, Bool, true, false, cond, List, [], ◌∷◌, map, refl, sym, ap, subst, arith}
use Rattle.std.specs.Prelude.{◌==◌}
use Rattle.std.specs.List.{AllByRecursion}
use Rattle.std.proofs.lemmas.Bool.{eqb-true}
use Rattle.cloak_base.specs.declared.names.Mode.{Mode}
use Rattle.cloak_model.specs.Bits.{has_bit}
use Rattle.cloak_model.specs.Csr.{Csrs, csr_numbers, zero_csrs, csr_word, with_csr, bit, sstatus_of, sstatus_word, with_pending, aligned, kept, csr_write, trap_entry, trap_return, status, status_in_trap, status_after_return}
use Rattle.cloak_model.specs.CsrNumbers as csr
use Rattle.cloak_model.specs.declared.sstatus.Sstatus.{Sstatus}
use Rattle.rv_traps.specs.StatusFields.{sstatus_of-sstatus_word, has_bit-bit}
use Rattle.cloak_base.proofs.Choices.{either}

-- What a register with a number holds of a word. Of a word that it holds this is the word.

abbrev pub clean_by : (status sie stvec sepc sip : Bool) → ℕ → ℕ
clean_by status sie stvec sepc sip w =
    cond status (sstatus_word (sstatus_of w))
    (cond sie (bit 5 (has_bit w 5))
    (cond stvec (aligned w) (cond sepc (aligned w) (cond sip (bit 5 (has_bit w 5)) w))))

abbrev pub clean : ℕ → ℕ → ℕ
clean n w = clean_by (n == csr.sstatus) (n == csr.sie) (n == csr.stvec) (n == csr.sepc) (n == csr.sip) w

abbrev pub IsClean : ℕ × ℕ → Type 0
IsClean entry = clean entry.0 entry.1 ≡ entry.1

abbrev pub AreClean : Csrs → Type 0
AreClean csrs = AllByRecursion IsClean csrs

status_again : (s : Sstatus) → sstatus_word (sstatus_of (sstatus_word s)) ≡ sstatus_word s
status_again s = ap sstatus_word (sstatus_of-sstatus_word s)

bit_again : (b : Bool) → bit 5 (has_bit (bit 5 b) 5) ≡ bit 5 b
bit_again b = ap (bit 5) (has_bit-bit b)

aligned_again : (w : ℕ) → aligned (aligned w) ≡ aligned w
aligned_again w = omega arith

-- A register is written.

clean_at : (e : ℕ × ℕ) (n w : ℕ) (t : Bool) → (e.0 == n) ≡ t → clean n w ≡ w → IsClean e →
    clean e.0 (cond t w e.1) ≡ cond t w e.1
clean_at e n w true t is here = subst (λ (k : ℕ). clean k w ≡ w) (sym (eqb-true e.0 n t)) is
clean_at e n w false t is here = here

clean_with : (csrs : Csrs) (n w : ℕ) → AreClean csrs → clean n w ≡ w → AreClean (with_csr csrs n w)
clean_with [] n w all is = tt
clean_with (e ∷ csrs) n w all is = (clean_at e n w (e.0 == n) refl is all.0, clean_with csrs n w all.1 is)

kept_by : (status sie stvec sepc sip : Bool) (was w : ℕ) → clean_by status sie stvec sepc sip was ≡ was →
    let new = cond status (sstatus_word (sstatus_of w))
    (cond sie (bit 5 (has_bit w 5)) (cond stvec (aligned w) (cond sepc (aligned w) (cond sip was w)))) in
    clean_by status sie stvec sepc sip new ≡ new
kept_by true sie stvec sepc sip was w here = status_again (sstatus_of w)
kept_by false true stvec sepc sip was w here = bit_again (has_bit w 5)
kept_by false false true sepc sip was w here = aligned_again w
kept_by false false false true sip was w here = aligned_again w
kept_by false false false false true was w here = here
kept_by false false false false false was w here = refl

kept_clean : (n was w : ℕ) → clean n was ≡ was → clean n (kept n was w) ≡ kept n was w
kept_clean n was w here =
    kept_by (n == csr.sstatus) (n == csr.sie) (n == csr.stvec) (n == csr.sepc) (n == csr.sip) was w here

clean_write : (csrs : Csrs) (n w : ℕ) → AreClean csrs → AreClean (csr_write csrs n w)
unfolding csr_write
clean_write [] n w all = tt
clean_write (e ∷ csrs) n w all = (
  either (λ (x : ℕ). clean e.0 x ≡ x) (e.0 == n) (kept e.0 e.1 w) e.1 (kept_clean e.0 e.1 w all.0) all.0,
  clean_write csrs n w all.1,
)

clean_either : (e : ℕ × ℕ) (n rest : ℕ) (t : Bool) → (e.0 == n) ≡ t → IsClean e → clean n rest ≡ rest →
    clean n (cond t e.1 rest) ≡ cond t e.1 rest
clean_either e n rest true t here there = subst (λ (k : ℕ). clean k e.1 ≡ e.1) (eqb-true e.0 n t) here
clean_either e n rest false t here there = there

clean_word_by : (csrs : Csrs) (n : ℕ) → clean n 0 ≡ 0 → AreClean csrs → clean n (csr_word csrs n) ≡ csr_word csrs n
clean_word_by [] n none all = none
clean_word_by (e ∷ csrs) n none all =
    clean_either e n (csr_word csrs n) (e.0 == n) refl all.0 (clean_word_by csrs n none all.1)

aligned_rest : (w : ℕ) → aligned w ≡ w → w % 4 ≡ 0
aligned_rest w is = omega (arith, is)

-- The numbers stay.

abbrev pub numbers : Csrs → List ℕ
numbers csrs = map (λ (entry : ℕ × ℕ). entry.0) csrs

numbers_with : (csrs : Csrs) (n w : ℕ) → numbers (with_csr csrs n w) ≡ numbers csrs
numbers_with [] n w = refl
numbers_with (e ∷ csrs) n w = ap (λ (l : List ℕ). e.0 ∷ l) (numbers_with csrs n w)

numbers_write : (csrs : Csrs) (n w : ℕ) → numbers (csr_write csrs n w) ≡ numbers csrs
unfolding csr_write
numbers_write [] n w = refl
numbers_write (e ∷ csrs) n w = ap (λ (l : List ℕ). e.0 ∷ l) (numbers_write csrs n w)

-- All registers of a hart.

pub record HasCsrs (csrs : Csrs) : Type 0 where
  pub numbers : numbers csrs ≡ csr_numbers
  pub clean : AreClean csrs

pub zero_has : HasCsrs zero_csrs
zero_has = record { numbers = refl; clean = (refl, (refl, (refl, (refl, (refl, (refl, (refl, (refl, (refl, tt))))))))) }

with_has : (csrs : Csrs) (n w : ℕ) → clean n w ≡ w → HasCsrs csrs → HasCsrs (with_csr csrs n w)
with_has csrs n w is here = record {
  numbers = numbers_with csrs n w ∙ here.numbers;
  clean = clean_with csrs n w here.clean is;
}

pub write_has : (csrs : Csrs) (n w : ℕ) → HasCsrs csrs → HasCsrs (csr_write csrs n w)
write_has csrs n w here = record {
  numbers = numbers_write csrs n w ∙ here.numbers;
  clean = clean_write csrs n w here.clean;
}

pub pending_has : (b : Bool) (csrs : Csrs) → HasCsrs csrs → HasCsrs (with_pending b csrs)
unfolding with_pending
pending_has b csrs here = with_has csrs csr.sip (bit 5 b) (bit_again b) here

status_has : (s : Sstatus) (csrs : Csrs) → HasCsrs csrs → HasCsrs (with_csr csrs csr.sstatus (sstatus_word s))
status_has s csrs here = with_has csrs csr.sstatus (sstatus_word s) (status_again s) here

pub entry_has : (mode : Mode) (cause value address : ℕ) (csrs : Csrs) → HasCsrs csrs →
    HasCsrs (trap_entry mode cause value address csrs)
unfolding trap_entry
entry_has mode cause value address csrs here =
    with_has _ csr.stval value refl
    (with_has _ csr.scause cause refl
    (with_has _ csr.sepc (aligned address) (aligned_again address) (status_has (status_in_trap mode (status csrs)) csrs here)))

pub return_has : (csrs : Csrs) → HasCsrs csrs → HasCsrs (trap_return csrs).2
unfolding trap_return
return_has csrs here = status_has (status_after_return (status csrs)) csrs here

-- where a trap goes on, and where it returns
pub vector_aligned : (csrs : Csrs) → HasCsrs csrs → csr_word csrs csr.stvec % 4 ≡ 0
vector_aligned csrs here = aligned_rest (csr_word csrs csr.stvec) (clean_word_by csrs csr.stvec refl here.clean)

pub return_aligned : (csrs : Csrs) → HasCsrs csrs → csr_word csrs csr.sepc % 4 ≡ 0
return_aligned csrs here = aligned_rest (csr_word csrs csr.sepc) (clean_word_by csrs csr.sepc refl here.clean)
