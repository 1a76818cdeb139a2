-- What is wrong with an item, test by test: the tag and its width, the length, the number.
use Rattle.std.proofs.Common.{◌≡◌, ℕ, ◌-◌, Bool, true, false, not, ◌&&◌, ◌||◌, List, length, Option, Some, None, refl, nat_lt, slice_index, arith, if◌then◌else◌}
use Rattle.std.proofs.lemmas.Bool.Decides.{nat_tests}
use Rattle.cloak_model.specs.declared.record.Stage.{Stage}
use Rattle.cloak_model.specs.declared.record.Tag.{Tag}
use Rattle.cloak_model.specs.declared.record.Tag.TheVariants as tag
use Rattle.cloak_model.specs.declared.record.Wrong.{Wrong}
use Rattle.cloak_model.specs.declared.record.Wrong.TheVariants.{Cut, NoTag, NoNumber}
use Rattle.cloak_model.specs.Fields.{first_of, number}
use Rattle.cloak_model.specs.RecordFault.{may_stand, wrong_item}
use Rattle.cloak_model.specs.Effect.{is_width}
use Rattle.record_law.specs.Items.{size_of, has_bad_width, is_numbered}

abbrev tests : Bool → Bool → Bool → Bool → Option Wrong
tests may bad cut numbered = if not may || bad then Some NoTag else if cut then Some Cut else if numbered then None else Some NoNumber

-- a field at the front
one_field : (may numbered : Bool) (n size : ℕ) → (if may then first_of (if nat_lt (n - 0) size then Some Cut else (if numbered then None else Some NoNumber)) None else Some NoTag) ≡ tests may false (nat_lt n size) numbered
one_field true true n size = grind (arith, nat_tests)
one_field true false n size = grind (arith, nat_tests)
one_field false numbered n size = refl

put_fields : (may width : Bool) (n : ℕ) →
    (if may then first_of (if nat_lt (n - 0) 4 then Some Cut else None) (first_of (if nat_lt (n - 4) 1 then Some Cut else (if width then None else Some NoTag)) (first_of (if nat_lt (n - 5) 4 then Some Cut else None) None)) else Some NoTag)
    ≡ tests may (nat_lt 4 n && not width) (nat_lt n 9) true
put_fields true true n = grind (arith, nat_tests)
put_fields true false n = grind (arith, nat_tests)
put_fields false width n = refl

pub wrong_item-tests : (s : Stage) (t : Tag) (fields : List ℕ) →
    wrong_item s (Some t) fields ≡ (if not (may_stand s t) || has_bad_width t fields then Some NoTag else if nat_lt (length fields) (size_of t) then Some Cut else if is_numbered s t (number fields 0) then None else Some NoNumber)
unfolding wrong_item
wrong_item-tests s tag.Cipher fields = one_field (may_stand s tag.Cipher) true (length fields) 4100
wrong_item-tests s tag.Put fields = put_fields (may_stand s tag.Put) (is_width (slice_index fields 4)) (length fields)
wrong_item-tests s tag.Leave fields = one_field (may_stand s tag.Leave) true (length fields) 40
wrong_item-tests s tag.Step fields = one_field (may_stand s tag.Step) (is_numbered s tag.Step (number fields 0)) (length fields) 4
wrong_item-tests s tag.Close fields = one_field (may_stand s tag.Close) (is_numbered s tag.Close (number fields 0)) (length fields) 4
wrong_item-tests s tag.End fields = grind (arith, nat_tests)
wrong_item-tests s tag.Ok fields = one_field (may_stand s tag.Ok) true (length fields) 1
wrong_item-tests s tag.Absent fields = one_field (may_stand s tag.Absent) true (length fields) 5
wrong_item-tests s tag.Word fields = one_field (may_stand s tag.Word) true (length fields) 5
wrong_item-tests s tag.Timer fields = one_field (may_stand s tag.Timer) true (length fields) 1
wrong_item-tests s tag.Resume fields = one_field (may_stand s tag.Resume) true (length fields) 9
wrong_item-tests s tag.Stopped fields = one_field (may_stand s tag.Stopped) true (length fields) 1
wrong_item-tests s tag.Ended fields = one_field (may_stand s tag.Ended) true (length fields) 1
