-- What the items of a step make of RAM and of reservations.
use Rattle.std.proofs.Common.{◌≡◌, ◌∙◌, ◌≤◌, ℕ, ◌%◌, true, false, nat_le, nat_lt, List, [], ◌∷◌, ◌++◌, length, refl, sym, ap, subst}
use Rattle.std.specs.Prelude.{◌==◌}
use Rattle.std.proofs.lemmas.Bool.{leb-true, eqb-true, and_parts}
use Rattle.std.proofs.lemmas.Grind.{flat_map-append}
use Rattle.cloak_base.specs.Constants.{ram_start, frame_of}
use Rattle.cloak_model.specs.Items.{Item}
use Rattle.cloak_model.specs.Items as item
use Rattle.cloak_model.specs.Ahead.{with_shown}
use Rattle.cloak_model.specs.Halves.{is_outward}
use Rattle.cloak_model.specs.Memory.{Seen, is_in_ram}
use Rattle.cloak_model.specs.World.{cipher_items}
use Rattle.kernel_isolation.proofs.Items.{with_item, with_items, is_within, AreWithin, length-with_item, within_stays, ciphers_within, with_ciphers}
use Rattle.kernel_isolation.proofs.OutsideSteps.{AreInward}
use Rattle.kernel_isolation.proofs.Shown.{AreFrames}
use Rattle.reservation_law.specs.Writes.{Extent, item_extents, items_extents}
use Rattle.reservation_law.proofs.Keeping.{Keeps, keeps_all, keeps_then, keeps_filled, keeps_stored}
use Rattle.reservation_law.proofs.Sizes.{HasSize, HaveSizes}

pub in_ram_low : (ram : List (List ℕ)) (pa : ℕ) → is_in_ram ram pa ≡ true → ram_start ≤ pa
in_ram_low ram pa there =
    leb-true ram_start pa (and_parts (nat_le ram_start pa) (nat_lt (frame_of pa) (length ram)) there).0

keeps_item : (i : Item) (s : Seen) → is_within s.ram i ≡ true → HasSize i → Keeps (item_extents i) s (with_item i s)
keeps_item (item.Cipher f bytes) s within size = keeps_filled f bytes s size
keeps_item (item.Put pa width value) s within size =
    let both = and_parts (is_in_ram s.ram pa) (pa % width == 0) within in
    keeps_stored pa width value s (in_ram_low s.ram pa both.0) (eqb-true (pa % width) 0 both.1) size
keeps_item _ s within size = keeps_all s

pub keeps_items : (items : List Item) (s : Seen) → AreWithin s.ram items → HaveSizes items →
    Keeps (items_extents items) s (with_items items s)
keeps_items [] s within sizes = keeps_all s
keeps_items (i ∷ items) s within sizes =
    keeps_then (item_extents i) (items_extents items) s (with_item i s) (with_items items (with_item i s))
    (keeps_item i s within.0 sizes.0)
    (keeps_items items (with_item i s)
    (within_stays s.ram (with_item i s).ram items (length-with_item i s) within.1) sizes.1)

pub keeps_shown : (ciphers : List (ℕ × List ℕ)) (s : Seen) → AreFrames s.ram ciphers → HaveSizes
    (cipher_items ciphers) →
    Keeps (items_extents (cipher_items ciphers)) s (with_shown ciphers s)
keeps_shown ciphers s frames sizes =
    subst (λ (t : Seen). Keeps (items_extents (cipher_items ciphers)) s t) (with_ciphers ciphers s)
    (keeps_items (cipher_items ciphers) s (ciphers_within s.ram ciphers frames) sizes)

-- Inward items write nothing.

inward_extent : (i : Item) → is_outward i ≡ false → item_extents i ≡ []
inward_extent (item.Cipher f bytes) is = absurd cc
inward_extent (item.Put pa width value) is = absurd cc
inward_extent _ is = refl

inward_extents : (items : List Item) → AreInward items → items_extents items ≡ []
inward_extents [] all = refl
inward_extents (i ∷ items) all =
    ap (λ (l : List Extent). l ++ items_extents items) (inward_extent i all.0) ∙ inward_extents items all.1

pub keeps_inward : (items : List Item) (s : Seen) → AreInward items → Keeps (items_extents items) s s
keeps_inward items s all =
    subst (λ (writes : List Extent). Keeps writes s s) (sym (inward_extents items all)) (keeps_all s)

pub extents_append : (a b : List Item) → items_extents (a ++ b) ≡ items_extents a ++ items_extents b
extents_append a b = flat_map-append item_extents a b
