-- Settling a frame, and offering a page, show pages under draws one after another.
use Rattle.std.proofs.Common.{◌≡◌, ◌∙◌, ℕ, zero, suc, ◌<◌, Bool, List, [], ◌∷◌, ◌++◌, length, slice_get, slice_set, Option, Some, None, IfSome, refl, sym, ap, subst, arith}
use Rattle.std.specs.Prelude.{option_map}
use Rattle.std.proofs.lemmas.List.{map-append}
use Rattle.cloak_base.specs.Random.{Random}
use Rattle.cloak_base.specs.declared.names.PageId.{PageId}
use Rattle.cloak_model.specs.declared.image.Program.{Program}
use Rattle.cloak_model.specs.Items.{Item}
use Rattle.cloak_model.specs.Items as item
use Rattle.cloak_model.specs.Ahead.{settle_touched}
use Rattle.cloak_model.specs.Beginning.{Beginning}
use Rattle.cloak_model.specs.Cloaking.{CloakedMemory, AfterSettling, AfterOffer, owed_in, settle_owed, settle, owes, with_owed, with_comparison, offer}
use Rattle.cloak_model.specs.Hart.{Hart}
use Rattle.cloak_model.specs.Sealing.{Sealing, sealed_by}
use Rattle.cloak_model.specs.Ledger.{key_of, next_vector}
use Rattle.cloak_model.specs.World.{cipher_items}
use Rattle.kernel_isolation.proofs.Showing.{Showing, AnyMemory, settle_shows, Shows, touched_shows, offer_shows}
use Rattle.page_law.specs.Ciphers.{shown_under, ShowsPage}
use Rattle.page_law.proofs.Draws.{OwesPagesOf, owed_at, owed_set, HasDrawn, draw_made, draw_missed, Draws, draws_none, draws_same, draws_then}

abbrev pub SettlingDraws : ℕ → CloakedMemory → AfterSettling → Type 0
SettlingDraws count m s = Draws count m (cipher_items s.ciphers) s.memory

abbrev OfferDraws : ℕ → CloakedMemory → AfterOffer → Type 0
OfferDraws count m o = Draws count m (cipher_items o.ciphers) o.memory

-- what is shown in two parts
pub ciphers_then : {count : ℕ} (a b c : CloakedMemory) (first second : List (ℕ × List ℕ)) →
    Draws count a (cipher_items first) b → Draws count b (cipher_items second) c →
    Draws count a (cipher_items (first ++ second)) c
ciphers_then {count} a b c first second p q =
    subst (λ (items : List Item). Draws count a items c)
    (sym (map-append (λ (x : ℕ × List ℕ). item.Cipher x.0 x.1) first second))
    (draws_then a b c (cipher_items first) (cipher_items second) p q)

-- Settling.

there_is : (programs : List Program) (d : ℕ) → d < length programs → (p : Program) × (slice_get programs d ≡ Some p)
there_is [] d low = absurd (omega (arith, low))
there_is (p ∷ programs) zero low = (p, refl)
there_is (p ∷ programs) (suc d) low = there_is programs d (omega (arith, low))

-- the page that a frame is owed, under its program's key
owed_shown : {count : ℕ} {programs : List Program} (f : ℕ) (q : PageId) (draw : Option (List ℕ × Random))
    (from : Beginning) (n : ℕ) (m : CloakedMemory) → owed_in m f ≡ Some q → next_vector m.ledger ≡ draw →
    HasDrawn count programs from n m.ledger →
    ShowsPage programs from m.plain n
    (shown_under (key_of m.ledger q) (option_map (λ (d : List ℕ × Random). d.0) draw) (m.plain q))
owed_shown {count} {programs} f q draw from n m owed is has =
    let low = subst (λ (o : Option PageId). IfSome o (λ x. x.domain < length programs)) owed
    (owed_at (length programs) m.ledger.owed f has.owed) in
    let there = there_is programs q.domain low in
    record {
      page = q;
      program = there.0;
      is_of = there.1;
      key = key_of m.ledger q;
      is_key = has.keys q there.0 there.1;
      same = ap (λ (d : Option (List ℕ × Random)). shown_under (key_of m.ledger q)
          (option_map (λ (x : List ℕ × Random). x.0) d) (m.plain q)) (sym is ∙ has.next);
    }

-- a frame that is settled is owed nothing
owes_less : (all f : ℕ) (m : CloakedMemory) → OwesPagesOf all m.ledger.owed →
    OwesPagesOf all (slice_set m.ledger.owed f None)
owes_less all f m owes = owed_set all m.ledger.owed f None owes tt

owed_draws : {count : ℕ} (f : ℕ) (q : PageId) (draw : Option (List ℕ × Random)) (m : CloakedMemory) →
    owed_in m f ≡ Some q → next_vector m.ledger ≡ draw → SettlingDraws count m (settle_owed f q draw m)
unfolding settle_owed
owed_draws f q None m owed is = record {
  plain = refl;
  drawn = λ programs from n has.
      draw_missed from n m.ledger _ has is refl (owes_less (length programs) f m has.owed) refl;
  shown = λ programs from n has. (owed_shown f q None from n m owed is has, tt);
}
owed_draws f q (Some draw) m owed is = record {
  plain = refl;
  drawn = λ programs from n has.
      draw_made from n m.ledger _ draw has is refl (owes_less (length programs) f m has.owed) refl;
  shown = λ programs from n has. (
    subst (λ (c : List ℕ). ShowsPage programs from m.plain n c)
        (ap (λ (s : Sealing). sealed_by s (key_of m.ledger q) draw.0 (m.plain q)) (sym has.chained))
        (owed_shown f q (Some draw) from n m owed is has),
    tt,
  );
}

abbrev DrawsFor : ℕ → Showing
DrawsFor count m ciphers n = Draws count m (cipher_items ciphers) n

pub settle_draws : {count : ℕ} (f : ℕ) (m : CloakedMemory) → SettlingDraws count m (settle f m)
settle_draws {count} f m =
    settle_shows AnyMemory (DrawsFor count) (λ x here. draws_same x x refl refl)
    (λ g q x is here. owed_draws g q (next_vector x.ledger) x is refl) f m tt

shows : (count : ℕ) → Shows AnyMemory (DrawsFor count)
shows count = record {
  none = λ m here. draws_same m m refl refl;
  both = λ l m n a b first second. ciphers_then l m n a b first second;
  after = λ m n a here. tt;
  settles = λ f m here. settle_draws f m;
}

-- ahead of a step
pub touched_draws : {count : ℕ} (h : Hart) (disk : List ℕ) (m : CloakedMemory) →
    SettlingDraws count m (settle_touched h disk m)
touched_draws {count} h disk m = touched_shows AnyMemory (DrawsFor count) (shows count) h disk m tt

-- Offers, of pages of programs that there are.

owes_draws : {count : ℕ} (q : PageId) (g : ℕ) (m : CloakedMemory) → q.domain < count →
    Draws count m [] (with_owed g (Some q) m)
owes_draws q g m low =
    draws_none m (with_owed g (Some q) m) refl refl
    (λ all enough owes. owed_set all m.ledger.owed g (Some q) owes (omega (arith, low, enough))) refl

pub offer_draws : {count : ℕ} (q : PageId) (g : ℕ) (write : Bool) (m : CloakedMemory) → q.domain < count →
    OfferDraws count m (offer q g write m)
offer_draws {count} q g write m low =
    offer_shows AnyMemory (DrawsFor count) (shows count) q (λ f x here. owes_draws q f x low)
    (λ a b x here. draws_none x (with_comparison a b x) refl refl (λ all enough owes. owes) refl) g write m tt
