-- How long the file of a frozen state is, at most.
use Rattle.std.proofs.Common.{◌≡◌, ◌≤◌, ◌+◌, ◌*◌, ℕ, List, [], ◌∷◌, ◌++◌, length, drop, Option, Some, None, ap, refl, arith, length-append}
use Rattle.std.specs.Prelude.{IfSome}
use Rattle.std.specs.List.{flat_map, AllByRecursion}
use Rattle.std.proofs.lemmas.List.{length-drop}
use Rattle.std.proofs.lemmas.List.Concat.{flat_map-cons}
use Rattle.std.proofs.lemmas.List.Elements.{recursion_from_All}
use Rattle.sha2.proofs.Facts256.{length-sha256}
use Rattle.sha2.specs.Sha256.{sha256}
use native.Mathlib.Nat.{zero-mul, suc-mul}
use Rattle.cloak_base.specs.declared.causes.Violation.{Violation}
use Rattle.cloak_base.specs.declared.causes.Violation.TheVariants as violation
use Rattle.cloak_base.specs.declared.names.Meta.{Meta}
use Rattle.cloak_base.specs.declared.names.PageId.{PageId}
use Rattle.cloak_model.specs.Bits.{word}
use Rattle.cloak_model.specs.Bundle.{IsInGrammar}
use Rattle.cloak_model.specs.StoredFiles.{long}
use Rattle.cloak_model.specs.declared.image.Bundle.{Bundle}
use Rattle.frozen_run.specs.Shapes.{HasDomainShape, HasFrameShape, HasHartShape, HasMetaShape, HasPageShape, HasRecordedShape, HasShape}
use Rattle.frozen_state.specs.declared.frozen.Frozen.{Frozen}
use Rattle.frozen_state.specs.declared.frozen.FrozenDomain.{FrozenDomain}
use Rattle.frozen_state.specs.declared.frozen.FrozenFrame.{FrozenFrame}
use Rattle.frozen_state.specs.declared.frozen.FrozenHart.{FrozenHart}
use Rattle.frozen_state.specs.declared.frozen.FrozenPage.{FrozenPage}
use Rattle.frozen_state.specs.FrozenState.{body_bytes, domain_bytes, frame_bytes, frozen_bytes, frozen_magic, hart_bytes, maybe_word, meta_bytes, owed_bytes, recorded_bytes, violation_bytes}
use Rattle.frozen_state.specs.Ranges.{IsInRange}
use Rattle.command_parts.specs.Thawing.{largest_state}
use Rattle.cloak_model.proofs.Lengths.{length-words}

-- Lists.

-- pieces that have at most this many bytes
pieces : {X : Type 0} (bytes : X → List ℕ) (most : ℕ) (xs : List X) → AllByRecursion (λ x. length (bytes x) ≤ most) xs →
    length (flat_map bytes xs) ≤ length xs * most
pieces bytes most [] each = (let none = zero-mul most in omega (arith, none))
pieces bytes most (x ∷ xs) each =
    let both = length-append (bytes x) (flat_map bytes xs) in
    let whole : length (flat_map bytes (x ∷ xs)) ≡ length (bytes x ++ flat_map bytes xs) =
    ap length (flat_map-cons bytes x xs) in
    let rest = pieces bytes most xs each.1 in
    let here = each.0 in
    let more = suc-mul (length xs) most in omega (arith, both, whole, rest, here, more)

-- values each of which has at most this many bytes, since this is true of each
pieces_of : {X : Type 0} (P : X → Type 0) (bytes : X → List ℕ) (most : ℕ) → ((x : X) → P x → length (bytes x) ≤ most) →
    (xs : List X) → AllByRecursion P xs → length (flat_map bytes xs) ≤ length xs * most
pieces_of {X} P bytes most of xs each = pieces bytes most xs (few xs each)
  where
    few : (ys : List X) → AllByRecursion P ys → AllByRecursion (λ y. length (bytes y) ≤ most) ys
    few [] each = each
    few (y ∷ ys) each = (of y each.0, few ys each.1)

-- Parts.

word_or_none : (w : Option ℕ) → length (maybe_word w) ≤ 5
word_or_none None = omega arith
word_or_none (Some w) = omega arith

any : {X : Type 0} (P : X → Type 0) → ((x : X) → P x) → (xs : List X) → AllByRecursion P xs
any P each [] = tt
any P each (x ∷ xs) = (each x, any P each xs)

roots : (ws : List (Option ℕ)) → length (flat_map maybe_word ws) ≤ length ws * 5
roots ws = pieces maybe_word 5 ws (any (λ (w : Option ℕ). length (maybe_word w) ≤ 5) word_or_none ws)

meta : (m : Meta) → HasMetaShape m → length (meta_bytes m) ≡ 48
meta m shape =
    let both = length-append m.iv m.digest in
    let iv = shape.iv in
    let digest = shape.digest in omega (arith, both, iv, digest)

violations : (v : Option Violation) → length (violation_bytes v) ≤ 13
violations None = omega arith
violations (Some (violation.Page page frame)) = omega arith
violations (Some (violation.Context ctx)) = omega arith
violations (Some (violation.Mapping ctx root)) = omega arith

domain : (d : FrozenDomain) → HasDomainShape d → length (domain_bytes d) ≤ 4197
domain d shape =
    let the_roots = flat_map maybe_word d.roots in
    let text = meta_bytes d.meta ++ d.page in
    let first = length-append (violation_bytes d.violation) (the_roots ++ text) in
    let second = length-append the_roots text in
    let third = length-append (meta_bytes d.meta) d.page in
    let ended = violations d.violation in
    let spaces = roots d.roots in
    let eight = shape.eight in
    let known = meta d.meta shape.meta in
    let page = shape.page in omega (arith, first, second, third, ended, spaces, eight, known, page)

hart : (h : FrozenHart) → HasHartShape h → length (hart_bytes h) ≤ 179
hart h shape =
    let regs = flat_map word (drop 1 h.regs) in
    let csrs = flat_map word h.csrs in
    let mark = maybe_word h.mark in
    let first = length-append (maybe_word h.inside) (regs ++ (csrs ++ mark)) in
    let second = length-append regs (csrs ++ mark) in
    let third = length-append csrs mark in
    let inside = word_or_none h.inside in
    let all_regs = length-words (drop 1 h.regs) in
    let left = length-drop 1 h.regs in
    let registers = shape.registers in
    let all_csrs = length-words h.csrs in
    let nine = shape.nine in
    let marked = word_or_none h.mark in
    omega (arith, first, second, third, inside, all_regs, left, registers, all_csrs, nine, marked)

owed : (o : Option (PageId × Meta)) → IfSome o (λ owed. HasPageShape owed.0 × HasMetaShape owed.1) →
    length (owed_bytes o) ≤ 61
owed None shape = omega arith
owed (Some o) shape = (let known = meta o.1 shape.1 in omega (arith, known))

frame : (f : FrozenFrame) → HasFrameShape f → length (frame_bytes f) ≤ 4157
frame f shape =
    let both = length-append f.bytes (owed_bytes f.owed) in
    let page = shape.bytes in
    let owing = owed f.owed shape.owed in omega (arith, both, page, owing)

recorded : (p : FrozenPage) → HasRecordedShape p → length (recorded_bytes p) ≤ 60
recorded p shape = (let known = meta p.meta shape.meta in omega (arith, known))

-- The whole.

body_is_small : (b : Bundle) (f : Frozen) (digest : List ℕ) → IsInGrammar b → HasShape f → length f.recorded ≤ 65536 →
    IsInRange b.kernel (length b.programs) f → length digest ≡ 32 → length (body_bytes f digest) + 32 ≤ largest_state
unfolding body_bytes
body_is_small b f digest grammar shape few range long_enough =
    let domains = flat_map domain_bytes f.domains in
    let harts = flat_map hart_bytes f.harts in
    let frames = flat_map frame_bytes f.frames in
    let pages = flat_map recorded_bytes f.recorded in
    let after_disk = frames ++ (word (length f.recorded) ++ pages) in
    let after_harts = f.disk ++ after_disk in
    let after_domains = harts ++ after_harts in
    let after_digest = long f.refused ++ (domains ++ after_domains) in
    let whole : length (body_bytes f digest)
    ≡ length (frozen_magic ++ (word f.steps ++ (long f.draws ++ (digest ++ after_digest)))) = refl in
    omega (
      arith,
      whole,
      length-append digest after_digest,
      length-append domains after_domains,
      length-append harts after_harts,
      length-append f.disk after_disk,
      length-append frames (word (length f.recorded) ++ pages),
      pieces_of HasDomainShape domain_bytes 4197 domain f.domains
          (recursion_from_All HasDomainShape f.domains shape.domains),
      pieces_of HasHartShape hart_bytes 179 hart f.harts (recursion_from_All HasHartShape f.harts shape.harts),
      pieces_of HasFrameShape frame_bytes 4157 frame f.frames (recursion_from_All HasFrameShape f.frames shape.frames),
      pieces_of HasRecordedShape recorded_bytes 60 recorded f.recorded
          (recursion_from_All HasRecordedShape f.recorded shape.recorded),
      long_enough,
      few,
      range.domains,
      range.hart_count,
      range.disk,
      range.frames,
      grammar.kernel.few_frames,
      grammar.kernel.few_harts,
      grammar.kernel.few_blocks,
      grammar.few_programs,
    )

-- A state of an image of the grammar, with few recorded pages, has a file that is not too large.
pub file_is_small : (b : Bundle) (f : Frozen) (digest : List ℕ) → IsInGrammar b → HasShape f →
    length f.recorded ≤ 65536 → IsInRange b.kernel (length b.programs) f → length digest ≡ 32 →
    length (frozen_bytes f digest) ≤ largest_state
unfolding frozen_bytes
file_is_small b f digest grammar shape few range long_enough =
    let body = body_bytes f digest in
    let small = body_is_small b f digest grammar shape few range long_enough in
    let both = length-append body (sha256 body) in
    let code = length-sha256 body in omega (arith, small, both, code)
