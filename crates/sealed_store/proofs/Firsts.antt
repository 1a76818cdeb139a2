-- The first fault of fields that stand in a row.
use Rattle.std.proofs.Common.{◌≡◌, ◌∙◌, ℕ, suc, ◌+◌, ◌-◌, ◌<◌, List, [], ◌∷◌, ◌++◌, Option, Some, None, refl, sym, ap, arith}
use Rattle.cloak_model.specs.declared.fault.StoreFault.{StoreFault}
use Rattle.cloak_model.specs.Fields.{first_of, fault_in, first_in, parts, number}
use Rattle.cloak_model.specs.StoreFault.{StoreField, FilesBefore, ruled_at, domain_rises, number_rises, pages_fit, page_fields, after_page, files_fields, files_end}
use Rattle.field_facts.proofs.Firsts.{first_in-append}
use Rattle.sealed_store.specs.Reading.{file_in, after_file, file_fields, files_in}

-- what is found after fields without a fault
pub after_three : (a b c d : Option StoreFault) → None ≡ first_of a (first_of b None) → None ≡ c →
    first_of a (first_of b (first_of c d)) ≡ d
after_three None None None d first third = refl
after_three None None (Some e) d first third = absurd cc
after_three None (Some e) c d first third = absurd cc
after_three (Some e) b c d first third = absurd cc

-- the same of files
abbrev pub before_next : List ℕ → FilesBefore → ℕ → FilesBefore
before_next body before at =
    record { last = Some (number body at, number body (at + 4)); pages = before.pages + number body (at + 8) }

pub next_file : (body : List ℕ) (n i at : ℕ) (before : FilesBefore) → i < n →
    first_in body (files_fields body (n - i) before at)
    ≡ first_of (first_in body (file_fields body before at))
    (first_in body (files_fields body (n - (i + 1)) (before_next body before at) (after_file body at)))
unfolding files_fields
next_file body n i at before low =
    let left : n - i ≡ suc (n - (i + 1)) = omega arith in
    ap (λ (k : ℕ). first_in body (files_fields body k before at)) left
    ∙ first_in-append body (file_fields body before at)
    (files_fields body (n - (i + 1)) (before_next body before at) (after_file body at))

pub next_end : (body : List ℕ) (n i at : ℕ) → i < n →
    files_end body (n - i) at ≡ files_end body (n - (i + 1)) (after_file body at)
unfolding files_end
next_end body n i at low =
    let left : n - i ≡ suc (n - (i + 1)) = omega arith in
    ap (λ (k : ℕ). files_end body k at) left

pub next_in : (body : List ℕ) (n i at : ℕ) → i < n →
    files_in body (n - i) at ≡ file_in body at ∷ files_in body (n - (i + 1)) (after_file body at)
unfolding files_in
next_in body n i at low =
    let left : n - i ≡ suc (n - (i + 1)) = omega arith in
    ap (λ (k : ℕ). files_in body k at) left

-- the fault of a file whose domain, number and count are right
pub file_fault : (body : List ℕ) (before : FilesBefore) (at n : ℕ) (o : Option StoreFault) →
    None ≡ first_in body
    (ruled_at at 4 (domain_rises before.last (number body at))
    ∷ ruled_at (at + 4) 4 (number_rises before.last (number body at) (number body (at + 4))) ∷ [])
    → None ≡ fault_in body (ruled_at (at + 8) 4 (pages_fit before.pages (number body (at + 8))))
    → n ≡ number body (at + 8) → o ≡ first_in body (parts (page_fields body) (after_page body) n (at + 12))
    → o ≡ first_in body (file_fields body before at)
file_fault body before at n o name count is pages =
    pages ∙ ap (λ (k : ℕ). first_in body (parts (page_fields body) (after_page body) k (at + 12))) is
    ∙ sym (after_three
    (fault_in body (ruled_at at 4 (domain_rises before.last (number body at))))
    (fault_in body (ruled_at (at + 4) 4 (number_rises before.last (number body at) (number body (at + 4)))))
    (fault_in body (ruled_at (at + 8) 4 (pages_fit before.pages (number body (at + 8)))))
    (first_in body (parts (page_fields body) (after_page body) (number body (at + 8)) (at + 12))) name count)

pub no_files : (body : List ℕ) (before : FilesBefore) (at : ℕ) → first_in body (files_fields body 0 before at) ≡ None
unfolding files_fields
no_files body before at = refl

pub no_end : (body : List ℕ) (at : ℕ) → files_end body 0 at ≡ at
unfolding files_end
no_end body at = refl

pub none_in : (body : List ℕ) (at : ℕ) → files_in body 0 at ≡ []
unfolding files_in
none_in body at = refl
