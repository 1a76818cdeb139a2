-- The items of a step inside, before its Leave, as the kernel alone reads them.
use Rattle.std.proofs.Common.{◌≡◌, ◌∙◌, ℕ, ◌%◌, Bool, true, false, ◌&&◌, nat_lt, List, [], ◌∷◌, ◌++◌, length, None, refl, ap}
use Rattle.std.specs.Prelude.{◌==◌}
use Rattle.std.specs.List.{AllByRecursion}
use Rattle.std.proofs.lemmas.Bool.{lt-ltb}
use Rattle.std.proofs.lemmas.List.{length-set}
use Rattle.cloak_model.specs.Items.{Item}
use Rattle.cloak_model.specs.Items as item
use Rattle.cloak_model.specs.Ahead.{with_shown}
use Rattle.cloak_model.specs.KernelAlone.{KernelAlone, Inside, kernel_takes, take_cipher, take_put, take_kernel_item, kernel_taken, kernel_seen}
use Rattle.cloak_model.specs.Memory.{Seen, is_in_ram, stored, filled}
use Rattle.cloak_model.specs.World.{cipher_items}
use Rattle.kernel_isolation.proofs.Ignoring.{taken_fit}
use Rattle.kernel_isolation.proofs.Shown.{AreFrames, with_ram, fits}

-- what an item makes of RAM and reservations
abbrev pub with_item : Item → Seen → Seen
with_item (item.Cipher f bytes) seen = filled f bytes seen
with_item (item.Put pa width value) seen = stored pa width value seen
with_item _ seen = seen

abbrev pub with_items : List Item → Seen → Seen
with_items [] seen = seen
with_items (i ∷ items) seen = with_items items (with_item i seen)

-- A Cipher of a frame that there is, a Put at a multiple of its width in RAM, or an inward item.
abbrev pub is_within : List (List ℕ) → Item → Bool
is_within ram (item.Cipher f bytes) = nat_lt f (length ram)
is_within ram (item.Put pa width value) = is_in_ram ram pa && (pa % width == 0)
is_within ram (item.Leave s) = false
is_within ram (item.Step number) = false
is_within ram (item.Close steps) = false
is_within ram item.End = false
is_within ram _ = true

abbrev pub AreWithin : List (List ℕ) → List Item → Type 0
AreWithin ram items = AllByRecursion (λ i. is_within ram i ≡ true) items

-- how many frames there are stays
pub length-with_item : (i : Item) (seen : Seen) → length (with_item i seen).ram ≡ length seen.ram
length-with_item (item.Cipher f bytes) seen = length-set seen.ram f bytes
length-with_item (item.Put pa width value) seen = length-set seen.ram _ _
length-with_item _ seen = refl

pub length-with_items : (items : List Item) (seen : Seen) → length (with_items items seen).ram ≡ length seen.ram
length-with_items [] seen = refl
length-with_items (i ∷ items) seen = length-with_items items (with_item i seen) ∙ length-with_item i seen

pub with_items-append : (a b : List Item) (seen : Seen) →
    with_items (a ++ b) seen ≡ with_items b (with_items a seen)
with_items-append [] b seen = refl
with_items-append (i ∷ a) b seen = with_items-append a b (with_item i seen)

one_stays : (ram ram' : List (List ℕ)) (i : Item) → length ram' ≡ length ram → is_within ram' i ≡ is_within ram i
one_stays ram ram' (item.Cipher f bytes) same = rw same refl
one_stays ram ram' (item.Put pa width value) same = rw same refl
one_stays ram ram' _ same = refl

pub within_stays : (ram ram' : List (List ℕ)) (items : List Item) → length ram' ≡ length ram → AreWithin ram items →
    AreWithin ram' items
within_stays ram ram' [] same all = tt
within_stays ram ram' (i ∷ items) same all = (one_stays ram ram' i same ∙ all.0, within_stays ram ram' items same all.1)

pub within-append : (ram : List (List ℕ)) (a b : List Item) → AreWithin ram a → AreWithin ram b → AreWithin ram (a ++ b)
within-append ram [] b here there = there
within-append ram (i ∷ a) b here there = (here.0, within-append ram a b here.1 there)

-- Ciphers among them

pub ciphers_within : (ram : List (List ℕ)) (ciphers : List (ℕ × List ℕ)) → AreFrames ram ciphers →
    AreWithin ram (cipher_items ciphers)
ciphers_within ram [] all = tt
ciphers_within ram (c ∷ ciphers) all = (lt-ltb _ _ all.0, ciphers_within ram ciphers all.1)

pub with_ciphers : (ciphers : List (ℕ × List ℕ)) (seen : Seen) →
    with_items (cipher_items ciphers) seen ≡ with_shown ciphers seen
with_ciphers [] seen = refl
with_ciphers (c ∷ ciphers) seen = with_ciphers ciphers (filled c.0 c.1 seen)

-- The kernel alone reads them.

fit_taken : (schedule : List ℕ) (hart ctx : ℕ) (i : Item) (s : KernelAlone) → s.stage ≡ Inside hart ctx →
    is_within s.kernel.ram i ≡ true → kernel_takes schedule i s ≡ with_ram (with_item i (kernel_seen s.kernel)) s
unfolding kernel_takes take_cipher take_put
fit_taken schedule hart ctx (item.Cipher f bytes) s stage within =
    ap (λ p. take_cipher p f bytes s) stage ∙ fits _ s _ within
fit_taken schedule hart ctx (item.Put pa width value) s stage within =
    ap (λ p. take_put p pa width value s) stage ∙ fits _ s _ within
fit_taken schedule hart ctx (item.Leave x) s stage within = absurd cc
fit_taken schedule hart ctx (item.Step number) s stage within = absurd cc
fit_taken schedule hart ctx (item.Close steps) s stage within = absurd cc
fit_taken schedule hart ctx item.End s stage within = absurd cc
fit_taken schedule hart ctx _ s stage within = refl

item_taken : (schedule : List ℕ) (hart ctx : ℕ) (i : Item) (s : KernelAlone) → s.unfit ≡ None →
    s.stage ≡ Inside hart ctx →
    is_within s.kernel.ram i ≡ true → take_kernel_item schedule s i ≡ with_ram (with_item i (kernel_seen s.kernel)) s
item_taken schedule hart ctx i s none stage within =
    taken_fit schedule s i none ∙ fit_taken schedule hart ctx i s stage within

pub items_taken : (schedule : List ℕ) (hart ctx : ℕ) (items : List Item) (s : KernelAlone) → s.unfit ≡ None →
    s.stage ≡ Inside hart ctx → AreWithin s.kernel.ram items →
    kernel_taken schedule s items ≡ with_ram (with_items items (kernel_seen s.kernel)) s
unfolding kernel_taken
items_taken schedule hart ctx [] s none stage all = refl
items_taken schedule hart ctx (i ∷ items) s none stage all =
    let s' = with_ram (with_item i (kernel_seen s.kernel)) s in
    ap (λ t. kernel_taken schedule t items) (item_taken schedule hart ctx i s none stage all.0)
    ∙ items_taken schedule hart ctx items s' none stage
    (within_stays s.kernel.ram (with_item i (kernel_seen s.kernel)).ram items
    (length-with_item i (kernel_seen s.kernel)) all.1)
