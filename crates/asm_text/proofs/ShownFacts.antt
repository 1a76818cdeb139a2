-- What is shown of bytes that are no text.
use Rattle.std.proofs.Common.{◌≡◌, List, ℕ, refl, ap}
use Rattle.std.specs.Str.{IsUtf8}
use Rattle.asm_text.specs.declared.fault.TextFault.{TextFault}
use Rattle.asm_text.specs.declared.fault.TextFault.TheVariants.{NoBytes, TooLarge, NotText, Faulty}
use Rattle.asm_text.specs.Assembling.{FailsToAssemble}
use Rattle.asm_text.specs.Telling.{fault_text}

pub shown_same : (name text shown : List ℕ) (fault : TextFault) → FailsToAssemble text fault → (IsUtf8 text → shown ≡ text) →
    fault_text name shown fault ≡ fault_text name text fault
shown_same name text shown NoBytes cause same = refl
shown_same name text shown TooLarge cause same = refl
shown_same name text shown NotText cause same = refl
shown_same name text shown (Faulty fault) cause same =
    ap (λ (t : List ℕ). fault_text name t (Faulty fault)) (same cause.0)
