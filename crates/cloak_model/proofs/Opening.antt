-- How many there are of what a run opens with, and the programs as they begin.
use Rattle.std.proofs.Common.{◌≡◌, ◌∙◌, ℕ, zero, suc, ◌+◌, List, [], ◌∷◌, length, map, Some, refl, ap, arith, length-append, slice_get}
use Rattle.std.proofs.lemmas.List.{length-map, length-set}
use Rattle.std.proofs.lemmas.Option.{same_Some}
use Rattle.cloak_model.specs.declared.image.Bundle.{Bundle}
use Rattle.cloak_model.specs.declared.image.Program.{Program}
use Rattle.cloak_model.specs.declared.image.Segment.{Segment}
use Rattle.cloak_model.specs.Cloaking.{CloakedMemory}
use Rattle.cloak_model.specs.DomainState.{started_domain}
use Rattle.cloak_model.specs.Hart.{started}
use Rattle.cloak_model.specs.Memory.{with_byte, with_bytes}
use Rattle.cloak_model.specs.Opening.{numbers_below, started_harts, started_domains, started_joint, with_segments}

pub length-numbers_below : (n : ℕ) → length (numbers_below n) ≡ n
length-numbers_below zero = refl
length-numbers_below (suc n) =
    let both = length-append (numbers_below n) (n ∷ []) in
    let rest = length-numbers_below n in omega (arith, both, rest)

pub length-map_below : {A : Type 0} (f : ℕ → A) (n : ℕ) → length (map f (numbers_below n)) ≡ n
length-map_below f n = length-map (numbers_below n) f ∙ length-numbers_below n

pub length-started_harts : (entry n : ℕ) → length (started_harts entry n) ≡ n
length-started_harts entry zero = refl
length-started_harts entry (suc n) =
    let rest = length-started_harts entry n in
    let more = length-append (started_harts entry n) (started entry n ∷ []) in
    omega (arith, rest, more)

pub length-with_bytes : (ram : List (List ℕ)) (pa : ℕ) (bytes : List ℕ) → length (with_bytes ram pa bytes) ≡ length ram
length-with_bytes ram pa [] = refl
length-with_bytes ram pa (b ∷ bytes) = length-with_bytes (with_byte ram pa b) (pa + 1) bytes ∙ length-set ram _ _

pub length-with_segments : (ram : List (List ℕ)) (segments : List Segment) →
    length (with_segments ram segments) ≡ length ram
length-with_segments ram [] = refl
length-with_segments ram (s ∷ segments) =
    length-with_segments (with_bytes ram s.address s.bytes) segments ∙ length-with_bytes ram s.address s.bytes

-- Programs.

pub length-started_domains : (d : ℕ) (programs : List Program) → length (started_domains d programs) ≡ length programs
length-started_domains d [] = refl
length-started_domains d (p ∷ programs) = ap suc (length-started_domains (d + 1) programs)

pub domain_started : (d k : ℕ) (programs : List Program) (p : Program) → slice_get programs k ≡ Some p →
    slice_get (started_domains d programs) k ≡ Some (started_domain (d + k) p.start)
domain_started d k [] p found = absurd cc
domain_started d zero (x ∷ programs) p found =
    let same : d ≡ d + 0 = omega arith in
    ap (λ (q : Program). Some (started_domain d q.start)) (same_Some x p found)
    ∙ ap (λ (e : ℕ). Some (started_domain e p.start)) same
domain_started d (suc k) (x ∷ programs) p found =
    let same : (d + 1) + k ≡ d + suc k = omega arith in
    domain_started (d + 1) k programs p found ∙ ap (λ (e : ℕ). Some (started_domain e p.start)) same

pub joint_domains : (b : Bundle) (m : CloakedMemory) → (started_joint b m).domains ≡ started_domains 0 b.programs
unfolding started_joint
joint_domains b m = refl
