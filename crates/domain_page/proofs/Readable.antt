-- The state of a program that keeps the limits has words everywhere, so it is read again.
use Rattle.std.proofs.Common.{◌≡◌, ◌∙◌, ℕ, zero, suc, ◌+◌, ◌<◌, ◌≤◌, true, List, [], ◌∷◌, ◌++◌, length, replicate, get_or, Option, Some, None, unwrap_or, refl, ap, sym, subst, append_assoc, arith}
use Rattle.std.specs.Prelude.{All, IfSome, IsSome, IsSomeAnd, slice_index_or, ◌-◌}
use Rattle.std.specs.List.{AllByRecursion, flat_map}
use Rattle.std.proofs.lemmas.List.{get_or_default}
use Rattle.std.proofs.lemmas.List.Sums.{get_or-le-sum_by}
use Rattle.cloak_model.specs.declared.context.Phase.{Phase}
use Rattle.cloak_model.specs.declared.context.Phase.TheVariants.{Plain, CopyIn, Waiting, CopyOut}
use Rattle.cloak_model.specs.declared.context.PageWord.{PageWord}
use Rattle.cloak_model.specs.declared.resource.Owner.{Owner}
use Rattle.cloak_model.specs.declared.resource.Owner.TheVariants.{Space, File}
use Rattle.cloak_model.specs.declared.resource.Resource.{Resource}
use Rattle.cloak_model.specs.declared.resource.Region.{Region}
use Rattle.cloak_model.specs.Contexts.{Context, context_at}
use Rattle.cloak_model.specs.DomainState.{Control, slot_bytes, space_bytes, resource_bytes}
use Rattle.cloak_model.specs.Resources.{Resources, resource_at, pages_of, is_shared_with}
use Rattle.frozen_state.specs.DomainPage.{slot_mark_bytes, state_string, domain_page, IsProgram}
use Rattle.frozen_state.specs.Limits.{IsPhase, IsPageWord, IsContext, IsSpace}
use Rattle.frozen_state.specs.Words.{HasContextWords, HasSlotWords, HasOwnerWord}
use Rattle.resource_map.specs.Kept.{IsInUse, IsOwner, IsHeld, IsMapped, IsSound, IsSoundRegion}
use Rattle.resource_map.proofs.Lists.{inside_from_some}
use Rattle.domain_page.specs.Reading.{HasPhaseWords, HasMarkWords, IsReadable, IsReadableSlot, AreEight, HasRegionWords, IsReadableSpace, HasOwnerNumber, IsReadableNumber, AreSixteen}
use Rattle.domain_page.proofs.Written.{all_from_each}

-- what holds of all by recursion holds of each slot
each_slot : (P : Context → Type 0) (Q : Option Context → Type 0) (xs : List (Option Context)) →
    ((o : Option Context) → Q o → IfSome o P) → AllByRecursion Q xs → (k : ℕ) → IfSome (context_at xs k) P
each_slot P Q [] from all k = tt
each_slot P Q (x ∷ xs) from all zero = from x all.0
each_slot P Q (x ∷ xs) from all (suc k) = each_slot P Q xs from all.1 k

-- Contexts.

phase_words : (regs : List ℕ) (phase : Phase) → IsPhase regs phase → HasPhaseWords phase
phase_words regs Plain is = tt
phase_words regs (CopyIn done) is = omega (arith, is.part, is.call.few)
phase_words regs Waiting is = tt
phase_words regs (CopyOut done total) is = (omega (arith, is.part, is.whole, is.call.few), omega (arith, is.whole, is.call.few))

mark_words : (mark : Option PageWord) → IfSome mark IsPageWord → HasMarkWords mark
mark_words None is = tt
mark_words (Some word) is = record {
  resource = omega (arith, is.resource);
  page = omega (arith, is.page);
  at = omega (arith, is.inside);
}

space_below : (r : Resources) (s : ℕ) → IsSound r → IsInUse r s → s < 8
space_below r s sound used = let inside = inside_from_some r.spaces s used in omega (arith, inside, sound.places)

readable : (r : Resources) (c : Context) → IsSound r → IsContext r c → HasContextWords c → IsReadable c
readable r c sound is words = record {
  hart = is.hart;
  phase = phase_words c.regs c.phase is.steady.phase;
  space = let low = space_below r c.space sound is.space in omega (arith, low);
  pc = words.pc;
  aligned = is.steady.aligned;
  regs = record { count = is.steady.registers; zero_register = is.steady.zero_register; words = words.regs };
  mark = mark_words c.mark is.steady.mark;
}

readable_slot : (r : Resources) (o : Option Context) → IsSound r → IfSome o (IsContext r) → IfSome o HasContextWords → IsReadableSlot o
readable_slot r None sound is words = tt
readable_slot r (Some c) sound is words = readable r c sound is words

slot_words : (o : Option Context) → HasSlotWords o → IfSome o HasContextWords
slot_words None words = tt
slot_words (Some c) words = words

pub slots_readable : (number : ℕ) (d : Control) → IsProgram number d → AreEight IsReadableSlot d.contexts
slots_readable number d is = record {
  count = is.limits.slots;
  each = all_from_each IsReadableSlot d.contexts
      (λ k. readable_slot d.resources (context_at d.contexts k) is.limits.resources (is.limits.contexts k)
      (each_slot HasContextWords HasSlotWords d.contexts slot_words is.words k));
}

-- Regions.

resource_below : (r : Resources) (g : Region) (space : ℕ) → IsSound r → IsMapped r space g → (g.resource < 16) × (g.first ≤ 1024)
resource_below r g space sound there = by (resource_at r g.resource) refl there where
  by : (o : Option Resource) → resource_at r g.resource ≡ o →
      IsSomeAnd o (λ held. (is_shared_with space held.owner ≡ true) × (g.first + g.pages ≤ held.pages)) →
      (g.resource < 16) × (g.first ≤ 1024)
  by None at there = absurd there
  by (Some held) at there =
      let inside = inside_from_some r.held g.resource (subst (λ (o : Option Resource). IsSome o) (sym at) refl) in
      let few = get_or-le-sum_by pages_of r.held g.resource None inside in
      let size : pages_of (resource_at r g.resource) ≡ held.pages = ap pages_of at in
      (omega (arith, inside, sound.numbers), omega (arith, few, size, sound.few, there.1))

region_words : (r : Resources) (space : ℕ) (g : Region) → IsSound r → IsSoundRegion g → IsMapped r space g → HasRegionWords g
region_words r space g sound is there =
    let low = resource_below r g space sound there in
    record {
      start = omega (arith, is.top, is.some);
      pages = omega (arith, is.top);
      resource = omega (arith, low.0);
      first = omega (arith, low.1);
    }

readable_space : (r : Resources) (space : ℕ) (o : Option (List Region)) → IsSound r → IsSpace (unwrap_or o []) →
    All (IsMapped r space) (unwrap_or o []) → IsReadableSpace o
readable_space r space None sound is mapped = tt
readable_space r space (Some xs) sound is mapped = record {
  counted = refl;
  few = is.few;
  each = λ k d inside. region_words r space (get_or xs k d) sound (is.each k d inside) (mapped k d inside);
}

pub spaces_readable : (number : ℕ) (d : Control) → IsProgram number d → AreEight IsReadableSpace d.resources.spaces
spaces_readable number d is =
    let r = d.resources in
    record {
      count = is.limits.resources.places;
      each = all_from_each IsReadableSpace r.spaces
          (λ k. readable_space r k (slice_index_or r.spaces k None) is.limits.resources (is.limits.regions k) (is.limits.resources.mapped k));
    }

-- Resources.

owner_number : (r : Resources) (owner : Owner) → IsSound r → IsOwner r owner → HasOwnerWord owner → HasOwnerNumber owner
owner_number r (Space space) sound used words = let low = space_below r space sound used in omega (arith, low)
owner_number r (File number) sound used words = words

readable_number : (r : Resources) (o : Option Resource) → IsSound r → IfSome o (IsHeld r) →
    IfSome o (λ held. HasOwnerWord held.owner) → pages_of o ≤ 1024 → IsReadableNumber o
readable_number r None sound held words few = tt
readable_number r (Some x) sound held words few = record {
  owner = owner_number r x.owner sound held.1 words;
  pages = omega (arith, few);
}

pub numbers_readable : (number : ℕ) (d : Control) → IsProgram number d → AreSixteen IsReadableNumber d.resources.held
numbers_readable number d is = record {
  count = is.limits.resources.numbers;
  each = λ k e inside.
      let few = get_or-le-sum_by pages_of d.resources.held k None inside in
      subst IsReadableNumber (get_or_default d.resources.held k None e inside)
      (readable_number d.resources (resource_at d.resources k) is.limits.resources (is.limits.resources.held k) (is.file_words k)
      (omega (arith, few, is.limits.resources.few)));
}

-- The bytes of a page, piece by piece.

abbrev zeros_after : Control → List ℕ
zeros_after d = replicate (4096 - length (state_string d)) 0

pub page_spelled : (d : Control) (bytes : List ℕ) → domain_page d ≡ bytes →
    bytes ≡ flat_map slot_bytes d.contexts ++ (flat_map space_bytes d.resources.spaces
    ++ (flat_map resource_bytes d.resources.held ++ (flat_map slot_mark_bytes d.contexts ++ zeros_after d)))
unfolding domain_page
page_spelled d bytes is =
    let a = flat_map slot_bytes d.contexts in
    let b = flat_map space_bytes d.resources.spaces in
    let c = flat_map resource_bytes d.resources.held in
    let m = flat_map slot_mark_bytes d.contexts in
    sym is
    ∙ (append_assoc (a ++ (b ++ c)) m (zeros_after d)
    ∙ (append_assoc a (b ++ c) (m ++ zeros_after d)
    ∙ ap (λ (l : List ℕ). a ++ l) (append_assoc b c (m ++ zeros_after d))))
