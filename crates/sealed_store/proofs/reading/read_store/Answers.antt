use Rattle.std.proofs.Common.{◌≡◌, ◌∙◌, ℕ, ◌<◌, List, Result, Ok, Err, IfOk, OnOk, sym, ap, subst}
use Rattle.std.proofs.lemmas.List.Elements.{All-from_get_or}
use Rattle.cloak_model.specs.declared.fault.StoreFault.{StoreFault}
use Rattle.cloak_model.specs.StoredFiles.{StoredFile, IsStore}
use Rattle.cloak_model.specs.Fields.{number}
use Rattle.cloak_model.specs.StoreFault.{form_fault, body_of, store_fault}
use Rattle.field_facts.proofs.Stands.{AreBytes}
use Rattle.field_facts.specs.Faults.{fault_of}
use Rattle.sealed_store.specs.Reading.{files_in}
use Rattle.sealed_store.proofs.Sealed.{spells}
use Rattle.sealed_store.proofs.reading.read_store.Goals as goal

is_read : (mac : List ℕ) (counter : ℕ) (file body : List ℕ) (t : List StoredFile) (r : Result (Unit {0}) StoreFault) →
    AreBytes file → store_fault mac counter file ≡ form_fault body → body ≡ body_of file →
    fault_of r ≡ form_fault body → OnOk r (t ≡ files_in body (number body 16) 20) →
    IfOk r (λ done. IsStore mac counter file t)
is_read mac counter file body t (Ok done) are same is none table =
    subst (IsStore mac counter file)
    (sym (table ∙ ap (λ (b : List ℕ). files_in b (number b 16) 20) is))
    (spells mac counter file are (same ∙ sym none))
is_read mac counter file body t (Err fault) are same is none table = tt

pub returns-else-is_err-clause-reads : goal.returns-else-is_err-clause-reads
returns-else-is_err-clause-reads c =
    is_read c.args.mac.now c.args.counter c.args.b.now c.in_ok-body.body.now c.read_form-read.new.t c.read_form-read.result
    (All-from_get_or (λ b. b < 256) c.args.b.now 0 (λ i _. (c.type_inv.b i).fits)) c.in_ok-body.ensures.fault
    c.in_ok-body.ensures.body c.read_form-read.ensures.fault c.read_form-read.ensures.table
