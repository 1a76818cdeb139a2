use Rattle.std.proofs.Common.{◌≡◌, ◌∙◌, ℕ, List, Ok, Err, refl, sym, ap, subst}
use Rattle.cloak_model.specs.StoredFiles.{IsStore}
use Rattle.cloak_model.specs.StoreFault.{store_fault}
use Rattle.old_files.proofs.OldFacts.{front_is_store, front_fault}
use Rattle.old_files.proofs.reading.read_old.Goals as goal

pub returns-in-Ok-read_store-clause-old : goal.returns-in-Ok-read_store-clause-old
returns-in-Ok-read_store-clause-old g c =
    let is : IsStore c.args.mac.now c.args.counter c.in-Ok.bytes.items c.read_store.new.t =
    subst (λ (b : List ℕ). IsStore c.args.mac.now c.args.counter b c.read_store.new.t) c.as_slice.ensures.value
    c.in-Ok-read_store.ensures.reads in (
      c.in-Ok.ensures.reading,
      record {
        none = λ zero. absurd (c.if-counter-eq0.false zero);
        spelled = λ some. front_is_store _ c.in-Ok.bytes.items c.args.mac.now c.args.counter c.read_store.new.t
            c.in-Ok.ensures.bytes
            (λ fault has. absurd (let clash : Ok c.in-Ok-read_store.field-0 ≡ Err fault =
            (c.in-Ok-read_store.ensures.faults fault).1
            (ap (λ (b : List ℕ). store_fault c.args.mac.now c.args.counter b) c.as_slice.ensures.value ∙ has) in cc)) is;
        is_table = is.is_table;
      },
    )

pub returns-clause-old : goal.returns-clause-old
returns-clause-old g c = (
  c.in-Ok.ensures.reading,
  (
    c.if-counter-eq0.false,
    front_fault _ c.in-Ok.bytes.items c.args.mac.now c.args.counter c.in-Err-read_store.fault c.in-Ok.ensures.bytes
        (ap (λ (b : List ℕ). store_fault c.args.mac.now c.args.counter b) (sym c.as_slice.ensures.value)
        ∙ (c.in-Err-read_store.ensures.faults c.in-Err-read_store.fault).0 refl),
  ),
)
