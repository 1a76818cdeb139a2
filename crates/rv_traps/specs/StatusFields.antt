-- The fields of sstatus, and the bit of sie and of sip, out of the words that are made of them.
use Rattle.std.specs.Prelude.{◌≡◌, Bool, true, false, refl}
use Rattle.cloak_base.specs.declared.names.Mode.{Mode}
use Rattle.cloak_base.specs.declared.names.Mode.TheVariants.{U, S}
use Rattle.cloak_model.specs.Bits.{has_bit}
use Rattle.cloak_model.specs.Csr.{bit, sstatus_of, sstatus_word}
use Rattle.cloak_model.specs.declared.sstatus.Sstatus.{Sstatus}

pub has_bit-bit : (b : Bool) → has_bit (bit 5 b) 5 ≡ b
has_bit-bit true = refl
has_bit-bit false = refl

abbrev fields : Bool → Bool → Mode → Bool → Bool → Sstatus
fields sie spie spp sum mxr = record { sie = sie; spie = spie; spp = spp; sum = sum; mxr = mxr }

-- one line for each value of the five fields
fields_again : (sie spie : Bool) (spp : Mode) (sum mxr : Bool) → sstatus_of (sstatus_word (fields sie spie spp sum mxr)) ≡ fields sie spie spp sum mxr
fields_again true true S true true = refl
fields_again true true S true false = refl
fields_again true true S false true = refl
fields_again true true S false false = refl
fields_again true true U true true = refl
fields_again true true U true false = refl
fields_again true true U false true = refl
fields_again true true U false false = refl
fields_again true false S true true = refl
fields_again true false S true false = refl
fields_again true false S false true = refl
fields_again true false S false false = refl
fields_again true false U true true = refl
fields_again true false U true false = refl
fields_again true false U false true = refl
fields_again true false U false false = refl
fields_again false true S true true = refl
fields_again false true S true false = refl
fields_again false true S false true = refl
fields_again false true S false false = refl
fields_again false true U true true = refl
fields_again false true U true false = refl
fields_again false true U false true = refl
fields_again false true U false false = refl
fields_again false false S true true = refl
fields_again false false S true false = refl
fields_again false false S false true = refl
fields_again false false S false false = refl
fields_again false false U true true = refl
fields_again false false U true false = refl
fields_again false false U false true = refl
fields_again false false U false false = refl

pub sstatus_of-sstatus_word : (s : Sstatus) → sstatus_of (sstatus_word s) ≡ s
sstatus_of-sstatus_word s = fields_again s.sie s.spie s.spp s.sum s.mxr

pub ruleset status_again = (sstatus_of-sstatus_word, has_bit-bit)
