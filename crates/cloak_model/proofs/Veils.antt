-- A settling and an offer under a blind seal tell nothing of what is veiled.
use Rattle.std.proofs.Common.{◌≡◌, ◌∙◌, ℕ, Bool, true, false, List, [], ◌∷◌, Option, Some, None, refl, sym, ap, slice_index_or}
use Rattle.std.specs.Prelude.{◌++◌, if◌then◌else◌}
use Rattle.std.specs.Str.{bytes_eq}
use Rattle.cloak_base.specs.Random.{Random}
use Rattle.cloak_base.specs.declared.names.PageId.{PageId}
use Rattle.cloak_model.specs.Ledger.{key_of, next_vector}
use Rattle.cloak_model.specs.Cloaking.{CloakedMemory, AfterSettling, AfterOffer, owed_in, owing_frame, owes, settle_owed, settle_if, settle, settle_frame_if, with_owed, with_shown_frame, with_record, compared, unless_missed, offer}
use Rattle.cloak_model.specs.Veil.{veiled, veiled_settling, veiled_offer, IsBlind, ShowsAsVeiled}
use Rattle.cloak_model.proofs.Offering.{settle_keeps, settle_frame_keeps}

-- Settling.

owed_veils : (f : ℕ) (q : PageId) (draw : Option (List ℕ × Random)) (m : CloakedMemory) → IsBlind m.ledger.keys.seal →
    veiled_settling (settle_owed f q draw (veiled m)) ≡ veiled_settling (settle_owed f q draw m)
unfolding settle_owed
owed_veils f q None m blind = refl
owed_veils f q (Some draw) m blind =
    ap (λ (c : List ℕ). veiled_settling (record {
      memory = with_record q c draw (with_owed f None (with_shown_frame f c m));
      ciphers = (f, c) ∷ [];
      missed = false;
    })) (blind (key_of (veiled m).ledger q) (key_of m.ledger q) draw.0 [] (m.plain q))

if_veils : (f : ℕ) (o : Option PageId) (m : CloakedMemory) → IsBlind m.ledger.keys.seal →
    veiled_settling (settle_if f o (veiled m)) ≡ veiled_settling (settle_if f o m)
unfolding settle_if
if_veils f None m blind = refl
if_veils f (Some q) m blind = owed_veils f q (next_vector m.ledger) m blind

pub settle_veils : (f : ℕ) (m : CloakedMemory) → IsBlind m.ledger.keys.seal →
    veiled_settling (settle f (veiled m)) ≡ veiled_settling (settle f m)
unfolding settle
settle_veils f m blind = if_veils f (owed_in m f) m blind

frame_veils : (o : Option ℕ) (m : CloakedMemory) → IsBlind m.ledger.keys.seal →
    veiled_settling (settle_frame_if o (veiled m)) ≡ veiled_settling (settle_frame_if o m)
frame_veils None m blind = refl
frame_veils (Some f) m blind = settle_veils f m blind

-- the seal stays

owed_blind : (f : ℕ) (q : PageId) (draw : Option (List ℕ × Random)) (m : CloakedMemory) → IsBlind m.ledger.keys.seal →
    IsBlind (settle_owed f q draw m).memory.ledger.keys.seal
unfolding settle_owed
owed_blind f q None m blind = blind
owed_blind f q (Some draw) m blind = blind

settle_blind : (f : ℕ) (m : CloakedMemory) → IsBlind m.ledger.keys.seal → IsBlind (settle f m).memory.ledger.keys.seal
settle_blind f m blind =
    settle_keeps (λ x. IsBlind x.ledger.keys.seal) (λ g q x is here. owed_blind g q (next_vector x.ledger) x here) f m blind

frame_blind : (o : Option ℕ) (m : CloakedMemory) → IsBlind m.ledger.keys.seal → IsBlind (settle_frame_if o m).memory.ledger.keys.seal
frame_blind o m blind =
    settle_frame_keeps (λ x. IsBlind x.ledger.keys.seal) (λ g q x is here. owed_blind g q (next_vector x.ledger) x here) o m blind

-- Choices.

pick : (b : Bool) (x x' y y' : AfterOffer) → veiled_offer x ≡ veiled_offer x' → veiled_offer y ≡ veiled_offer y' →
    veiled_offer (if b then x else y) ≡ veiled_offer (if b then x' else y')
pick true x x' y y' e e' = e
pick false x x' y y' e e' = e'

-- what does not tell veiled from plain
abbrev Commutes : (CloakedMemory → AfterOffer) → Type 0
Commutes next = (m : CloakedMemory) → IsBlind m.ledger.keys.seal → veiled_offer (next (veiled m)) ≡ veiled_offer (next m)

-- so it is of two memories that are one under the veil
across : (next : CloakedMemory → AfterOffer) → Commutes next → (m m' : CloakedMemory) → IsBlind m.ledger.keys.seal →
    IsBlind m'.ledger.keys.seal → veiled m ≡ veiled m' → veiled_offer (next m) ≡ veiled_offer (next m')
across next commutes m m' blind blind' e =
    sym (commutes m blind) ∙ (ap (λ x. veiled_offer (next x)) e ∙ commutes m' blind')

-- an offer after some ciphers
abbrev after : List (ℕ × List ℕ) → AfterOffer → AfterOffer
after ciphers o = record { memory = o.memory; ciphers = ciphers ++ o.ciphers; granted = o.granted }

abbrev missing : AfterSettling → AfterOffer
missing s = record { memory = s.memory; ciphers = s.ciphers; granted = false }

unless_veils : (s s' : AfterSettling) (next : CloakedMemory → AfterOffer) → Commutes next → IsBlind s.memory.ledger.keys.seal →
    IsBlind s'.memory.ledger.keys.seal → veiled_settling s ≡ veiled_settling s' →
    veiled_offer (unless_missed s next) ≡ veiled_offer (unless_missed s' next)
unfolding unless_missed
unless_veils s s' next commutes blind blind' e =
    pick s.missed (missing s) (missing s') (after s.ciphers (next s.memory)) (after s'.ciphers (next s'.memory))
    (ap (λ (x : AfterSettling). missing x) e)
    (ap (λ (o : AfterOffer). after s.ciphers o) (across next commutes s.memory s'.memory blind blind' (ap (λ (x : AfterSettling). x.memory) e))
    ∙ ap (λ (x : AfterSettling). after x.ciphers (veiled_offer (next s'.memory))) e)
    ∙ ap (λ (x : AfterSettling). veiled_offer (if x.missed then missing s' else after s'.ciphers (next s'.memory))) e

-- Offering.

compared_veils : (q : PageId) (g : ℕ) (write : Bool) (recorded : Option (List ℕ)) → Commutes (λ m. compared q g write recorded m)
unfolding compared
compared_veils q g write None m blind = refl
compared_veils q g true (Some c) m blind =
    pick (bytes_eq (slice_index_or m.ram g []) c) _ _ _ _ refl refl
compared_veils q g false (Some c) m blind =
    pick (bytes_eq (slice_index_or m.ram g []) c) _ _ _ _ refl refl

abbrev comparing : PageId → ℕ → Bool → CloakedMemory → AfterOffer
comparing q g write m = compared q g write (m.ledger.recorded q) m

comparing_veils : (q : PageId) (g : ℕ) (write : Bool) → Commutes (comparing q g write)
comparing_veils q g write m blind = compared_veils q g write (m.ledger.recorded q) m blind

abbrev second : PageId → ℕ → Bool → CloakedMemory → AfterOffer
second q g write m = unless_missed (settle_frame_if (owing_frame m q) m) (comparing q g write)

second_veils : (q : PageId) (g : ℕ) (write : Bool) → Commutes (second q g write)
second_veils q g write m blind =
    unless_veils (settle_frame_if (owing_frame m q) (veiled m)) (settle_frame_if (owing_frame m q) m) (comparing q g write)
    (comparing_veils q g write) (frame_blind (owing_frame m q) (veiled m) blind) (frame_blind (owing_frame m q) m blind)
    (frame_veils (owing_frame m q) m blind)

pub offer_veils : (q : PageId) (g : ℕ) (write : Bool) (m : CloakedMemory) → IsBlind m.ledger.keys.seal →
    veiled_offer (offer q g write (veiled m)) ≡ veiled_offer (offer q g write m)
unfolding offer
offer_veils q g write m blind =
    pick (owes q (owed_in m g)) _ _ _ _ refl
    (unless_veils (settle g (veiled m)) (settle g m) (second q g write) (second_veils q g write)
    (settle_blind g (veiled m) blind) (settle_blind g m blind) (settle_veils g m blind))

pub shows_as_veiled : ShowsAsVeiled
shows_as_veiled = record { settles = settle_veils; offers = offer_veils }
