-- The parts of an ELF file in turn, as a loop goes over them.
use Rattle.std.proofs.Common.{◌≡◌, ◌∙◌, ◌<◌, ◌≤◌, ◌+◌, ℕ, List, ◌∷◌, length, map, get_or, drop, Result, Ok, Err, IfErr, IfOk, refl, sym, ap, add-one, subst}
use Rattle.std.proofs.lemmas.List.{drop_all}
use Rattle.std.proofs.Math.Seq.{drop-cons}
use Rattle.cloak_model.specs.declared.image.Segment.{Segment}
use Rattle.elf_image.specs.declared.part.ElfPart.{ElfPart}
use Rattle.elf_image.specs.Views.{seen}
use Rattle.manifest.specs.declared.key.ManifestTable.{ManifestTable}
use Rattle.manifest.specs.declared.fault.FaultyKey.{FaultyKey}
use Rattle.manifest.specs.Fields.{◌>>=◌}
use Rattle.manifest.specs.Faults.{Fault, at_key, by_keys}
use Rattle.manifest.specs.Parts.{with_segment}
use Rattle.manifest.specs.Loading.{part_segment, with_parts}

-- one, and then another, as faults of a manifest

first_err : {A B : Type 0} (m : Result A FaultyKey) (rest : A → Result B FaultyKey) (fault : Fault) →
    Err fault ≡ by_keys m → by_keys (m >>= rest) ≡ Err fault
first_err {A} (Ok x) rest fault is = absurd (subst (λ (r : Result A Fault). IfErr r (λ _. ⊥)) (sym is) tt)
first_err {A} {B} (Err e) rest fault is =
    subst (λ (r : Result A Fault). IfErr r (λ w. ◌≡◌ {A = Result B Fault} (Err (at_key e)) (Err w))) (sym is) refl

first_ok : {A B : Type 0} (m : Result A FaultyKey) (rest : A → Result B FaultyKey) (x : A) →
    Ok x ≡ by_keys m → by_keys (m >>= rest) ≡ by_keys (rest x)
first_ok {A} (Ok y) rest x is = subst (λ (r : Result A Fault). IfOk r (λ z. by_keys (rest z) ≡ by_keys (rest x))) is refl
first_ok {A} (Err e) rest x is = absurd (subst (λ (r : Result A Fault). IfErr r (λ _. ⊥)) is tt)

-- the part at an index, and those after it
split : (parts : List ElfPart) (i : ℕ) (d : ElfPart) → i < length parts → get_or parts i d ∷ drop (i + 1) parts ≡ drop i parts
split parts i d inside =
    ap (λ (n : ℕ). get_or parts i d ∷ drop n parts) (add-one i) ∙ sym (drop-cons parts i d inside)

module _ (at : ManifestTable) (frames : ℕ) (parts : List ElfPart) (i : ℕ) (so_far : List Segment) where
  module _ (d : ElfPart) (inside : i < length parts) where
    -- what is read of these parts, if it is read of the first one and the others
    here : (r : Result (List Segment) Fault) →
        by_keys (with_parts at frames so_far (map seen (get_or parts i d ∷ drop (i + 1) parts))) ≡ r →
        by_keys (with_parts at frames so_far (map seen (drop i parts))) ≡ r
    here r = subst (λ (xs : List ElfPart). by_keys (with_parts at frames so_far (map seen xs)) ≡ r) (split parts i d inside)

    abbrev later : Segment → Result (List Segment) FaultyKey
    later s = with_segment so_far s >>= (λ more. with_parts at frames more (map seen (drop (i + 1) parts)))

    pub parts_wrong : (fault : Fault) → Err fault ≡ by_keys (part_segment at frames (seen (get_or parts i d))) →
        by_keys (with_parts at frames so_far (map seen (drop i parts))) ≡ Err fault
    unfolding with_parts
    parts_wrong fault wrong =
        here (Err fault) (first_err (part_segment at frames (seen (get_or parts i d))) later fault wrong)

    module _ (s : Segment) (is : Ok s ≡ by_keys (part_segment at frames (seen (get_or parts i d)))) where
      pub parts_many : (fault : Fault) → Err fault ≡ by_keys (with_segment so_far s) →
          by_keys (with_parts at frames so_far (map seen (drop i parts))) ≡ Err fault
      unfolding with_parts
      parts_many fault many = here (Err fault) (first_ok (part_segment at frames (seen (get_or parts i d))) later s is
          ∙ first_err (with_segment so_far s) (λ more. with_parts at frames more (map seen (drop (i + 1) parts))) fault many)

      pub parts_more : (more : List Segment) → Ok more ≡ by_keys (with_segment so_far s) →
          by_keys (with_parts at frames so_far (map seen (drop i parts)))
          ≡ by_keys (with_parts at frames more (map seen (drop (i + 1) parts)))
      unfolding with_parts
      parts_more more pushed = here (by_keys (with_parts at frames more (map seen (drop (i + 1) parts))))
          (first_ok (part_segment at frames (seen (get_or parts i d))) later s is
          ∙ first_ok (with_segment so_far s) (λ more. with_parts at frames more (map seen (drop (i + 1) parts))) more pushed)

  pub parts_over : length parts ≤ i → with_parts at frames so_far (map seen (drop i parts)) ≡ Ok so_far
  unfolding with_parts
  parts_over past = ap (λ (xs : List ElfPart). with_parts at frames so_far (map seen xs)) (drop_all i parts past)
