-- How long the spellings of a bundle are.
use Rattle.std.proofs.Common.{◌≡◌, ℕ, ◌+◌, ◌*◌, ◌^◌, ◌<◌, ◌≤◌, eqb, List, [], ◌∷◌, ◌++◌, length, take, drop}
use Rattle.std.proofs.Common.{refl, sym, ap, ◌∙◌, arith, length-append}
use Rattle.std.specs.List.{flat_map}
use Rattle.std.proofs.lemmas.Grind.{flat_map-append}
use Rattle.std.proofs.lemmas.List.{take-append-drop, flat_map_more}
use Rattle.std.proofs.lemmas.List.Concat.{flat_map-cons}
use Rattle.cloak_model.specs.Bundle.{segment_bytes, program_bytes, bundle_bytes, IsInGrammar}
use Rattle.cloak_model.specs.declared.image.Program.{Program}
use Rattle.cloak_model.specs.declared.image.Bundle.{Bundle}
use Rattle.guest_bundle.specs.Places.{key_size}
use Rattle.guest_bundle.proofs.Steps.{key_text, key_text-length}

pub program_bytes-length : (version : ℕ) (p : Program) →
    length (program_bytes version p) ≡ 20 + key_size (eqb version 2) + length p.bytes
program_bytes-length version p =
    omega (arith, length-append (key_text (eqb version 2) p.key) p.bytes, key_text-length (eqb version 2) p.key)

-- the length of a bundle's file in any version, by its parts
pub bundle_bytes-length : (version : ℕ) (b : Bundle) →
    length (bundle_bytes version b) ≡ 40 + length b.kernel.schedule + length (flat_map segment_bytes b.kernel.segments)
    + length b.kernel.disk + length (flat_map (program_bytes version) b.programs)
unfolding bundle_bytes
bundle_bytes-length version b =
    let k = b.kernel in
    let programs = flat_map (program_bytes version) b.programs in
    let segments = flat_map segment_bytes k.segments in
    omega (
      arith,
      length-append k.schedule (segments ++ (k.disk ++ programs)),
      length-append segments (k.disk ++ programs),
      length-append k.disk programs,
    )

one_program_more : (version : ℕ) (p : Program) (ps : List Program) →
    length (flat_map (program_bytes version) (p ∷ ps))
    ≡ 20 + key_size (eqb version 2) + length p.bytes + length (flat_map (program_bytes version) ps)
one_program_more version p ps =
    omega (
      arith,
      ap length (flat_map-cons (program_bytes version) p ps),
      program_bytes-length version p,
      length-append (program_bytes version p) (flat_map (program_bytes version) ps),
    )

-- Version 1 is the shortest.
programs_shortest : (version : ℕ) (ps : List Program) →
    length (flat_map (program_bytes 1) ps) ≤ length (flat_map (program_bytes version) ps)
programs_shortest version [] = omega arith
programs_shortest version (p ∷ ps) =
    omega (arith, one_program_more 1 p ps, one_program_more version p ps, programs_shortest version ps)

pub first_shortest : (version : ℕ) (b : Bundle) → length (bundle_bytes 1 b) ≤ length (bundle_bytes version b)
first_shortest version b = omega (
  arith,
  bundle_bytes-length 1 b,
  bundle_bytes-length version b,
  programs_shortest version b.programs,
)

-- Version 2 has four bytes more for each program.
programs_second : (ps : List Program) →
    length (flat_map (program_bytes 2) ps) ≡ length (flat_map (program_bytes 1) ps) + 4 * length ps
programs_second [] = refl
programs_second (p ∷ ps) = omega (arith, one_program_more 1 p ps, one_program_more 2 p ps, programs_second ps)

pub second_small : (b : Bundle) → IsInGrammar b → length (bundle_bytes 2 b) < 2 ^ 32
second_small b fits = omega (
  arith,
  bundle_bytes-length 1 b,
  bundle_bytes-length 2 b,
  programs_second b.programs,
  fits.not_too_large,
  fits.few_programs,
)

-- Parts one after the other, as a loop counts them.
pub front_shorter : {X : Type 0} (f : X → List ℕ) (xs : List X) (i : ℕ) →
    length (flat_map f (take i xs)) ≤ length (flat_map f xs)
front_shorter f xs i =
    let whole : flat_map f xs ≡ flat_map f (take i xs) ++ flat_map f (drop i xs) =
    ap (flat_map f) (sym (take-append-drop i xs)) ∙ flat_map-append f (take i xs) (drop i xs) in
    omega (arith, ap length whole, length-append (flat_map f (take i xs)) (flat_map f (drop i xs)))

pub one_more : {X : Type 0} (f : X → List ℕ) (xs : List X) (i : ℕ) (x : X) → take (i + 1) xs ≡ take i xs ++ x ∷ [] →
    length (flat_map f (take (i + 1) xs)) ≡ length (flat_map f (take i xs)) + length (f x)
one_more f xs i x e =
    let more : flat_map f (take (i + 1) xs) ≡ flat_map f (take i xs) ++ f x =
    ap (flat_map f) e ∙ sym (flat_map_more f [] (take i xs) x) in
    ap length more ∙ length-append (flat_map f (take i xs)) (f x)
