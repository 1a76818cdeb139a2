-- Offers of a page in a frame, when no frame is owed it: the frame has the bytes that were last shown of the page, or
-- others.
use Rattle.std.proofs.Common.{◌≡◌, ℕ, refl, Bool, List, [], ◌∷◌, ◌++◌, Some, None, true, false, ◌∙◌, ap}
use Rattle.std.specs.Prelude.{Ok, slice_index_or, ◌||◌, ◌&&◌}
use Rattle.std.specs.Str.{bytes_eq}
use Rattle.std.proofs.lemmas.Slice.Eq.{bytes_eq-Decides}
use Rattle.std.proofs.lemmas.List.{append-nil}
use Rattle.cloak_base.specs.declared.names.Kind.{Kind}
use Rattle.cloak_base.specs.declared.causes.Violation.TheVariants as violation
use Rattle.cloak_base.specs.declared.names.PageId.{PageId}
use Rattle.cloak_model.specs.declared.access.Walked.{Walked}
use Rattle.cloak_model.specs.declared.answer.Answer.{Answer}
use Rattle.cloak_model.specs.declared.answer.Answer.TheVariants as told
use Rattle.cloak_model.specs.Items as item
use Rattle.cloak_model.specs.Events.{Event, Look, Born}
use Rattle.cloak_model.specs.Events as events
use Rattle.cloak_base.specs.Constants.{frame_of}
use Rattle.cloak_model.specs.Memory.{is_in_ram}
use Rattle.cloak_model.specs.Walk.{has_paging}
use Rattle.cloak_model.specs.Cloaking as cloaking
use Rattle.cloak_model.specs.Cloaking.{CloakedMemory, AfterOffer, with_comparison, owed_in, owing_frame, taken, compared, offer}
use Rattle.cloak_model.specs.World.{World, MidStep, Cloaked, is_missed, cipher_items}
use Rattle.cloak_model.specs.Asking.{Told, Asking}
use Rattle.cloak_model.specs.Ask as ask
use Rattle.cloak_model.specs.AskPages as ask_pages
use Rattle.cloak_model.specs.AskPages.{ask_reach, ask_led_inside, inside_access, if_drawn, is_store, offer_events}

same_bytes : (xs : List ℕ) → bytes_eq xs xs ≡ true
same_bytes xs = (bytes_eq-Decides xs xs).1 refl

and-false : (b : Bool) → (b && false) ≡ false
and-false true = refl
and-false false = refl

or-false : (b : Bool) → (b || false) ≡ b
or-false true = refl
or-false false = refl

compared-shown : (q : PageId) (g : ℕ) (write : Bool) (c : List ℕ) (m : CloakedMemory) → slice_index_or m.ram g [] ≡ c
    → compared q g write (Some c) m ≡ record { memory = taken q g write m; ciphers = []; granted = true }
unfolding cloaking.compared
compared-shown q g write c m there = rw (there, same_bytes c, and-false, or-false) refl

-- Frame g has the bytes that were last shown of page q, and neither is owed.
pub record HasShown (q : PageId) (g : ℕ) (m : CloakedMemory) : Type 0 where
  pub owed : owed_in m g ≡ None
  pub owing : owing_frame m q ≡ None
  pub shown : m.ledger.recorded q ≡ Some (slice_index_or m.ram g [])

pub offer-shown : (q : PageId) (g : ℕ) (write : Bool) (m : CloakedMemory) → HasShown q g m
    → offer q g write m ≡ record { memory = taken q g write m; ciphers = []; granted = true }
unfolding cloaking.offer cloaking.settle cloaking.settle_if cloaking.unless_missed
offer-shown q g write m h = rw (h.owed, h.owing, h.shown, compared-shown q g write _ m refl) refl

-- Frame g has other bytes than those that were last shown of page q, and neither is owed.
pub record HasChanged (q : PageId) (g : ℕ) (m : CloakedMemory) : Type 0 where
  pub last : List ℕ
  pub owed : owed_in m g ≡ None
  pub owing : owing_frame m q ≡ None
  pub shown : m.ledger.recorded q ≡ Some last
  pub other : bytes_eq (slice_index_or m.ram g []) last ≡ false

pub offer-changed : (q : PageId) (g : ℕ) (write : Bool) (m : CloakedMemory) (h : HasChanged q g m)
    → offer q g write m ≡
    record { memory = with_comparison (slice_index_or m.ram g []) h.last m; ciphers = []; granted = false }
unfolding cloaking.offer cloaking.settle cloaking.settle_if cloaking.unless_missed cloaking.compared
offer-changed q g write m h = rw (h.owed, h.owing, h.shown, h.other) refl

-- Questions of a hart without paging, for an address of RAM, when no draw was missing.
pub record IsPlainAccess (va : ℕ) (c : MidStep) : Type 0 where
  pub bare : has_paging c.regime.satp ≡ false
  pub inside : is_in_ram c.memory.ram va ≡ true
  pub drawn : c.memory.ledger.missed ≡ false

-- an access that was asked for
abbrev pub looked : ℕ → Kind → MidStep → MidStep
looked va kind c = record c { events = c.events ++ Look c.regime.satp (inside_access (Cloaked c) va kind) ∷ [] }

-- an address leads to itself
abbrev itself : ℕ → Walked
itself va = record { pa = va; pt1 = None; pt0 = None }

leads-to_itself : (va : ℕ) (kind : Kind) (c : MidStep) → IsPlainAccess va c → ask_led_inside va kind (Cloaked c) ≡
    record { answer = Ok (itself va); world = Cloaked (looked va kind c) }
unfolding ask.ask_led ask.ask_translate ask.ask_walk ask.ask_in_ram ask_led_inside
leads-to_itself va kind c p = rw (p.bare, p.inside) refl

if_drawn-drawn : (next : Asking Answer) (w : World) → is_missed w ≡ false → if_drawn next w ≡ next w
unfolding if_drawn
if_drawn-drawn next w e = rw e refl

-- a granted page changes nothing of the draws
taken-drawn : (q : PageId) (g : ℕ) (write : Bool) (m : CloakedMemory) → m.ledger.missed ≡ false →
    (taken q g write m).ledger.missed ≡ false
taken-drawn q g true m drawn = drawn
taken-drawn q g false m drawn = drawn

-- what the offer of a page results in
offer_asked : PageId → ℕ → Kind → MidStep → AfterOffer → Told Answer
unfolding ask_pages.offered_by ask_pages.replies if_drawn
offer_asked q va kind c o =
    if_drawn (ask_pages.offered_by q va kind (itself va) o.granted)
    (Cloaked
    (record c {
      memory = o.memory;
      items = c.items ++ cipher_items o.ciphers;
      events = (looked va kind c).events ++ offer_events q (frame_of va) c.memory o.granted;
    }))

reach-offer : (q : PageId) (va : ℕ) (kind : Kind) (c : MidStep) → IsPlainAccess va c
    → ask_reach q va kind (Cloaked c) ≡ offer_asked q va kind c (offer q (frame_of va) (is_store kind) c.memory)
unfolding ask_pages.ask_reach ask_pages.reach_by_table ask_pages.reached ask_pages.ask_offer offer_asked
reach-offer q va kind c p =
    rw (leads-to_itself va kind c p)
    (if_drawn-drawn (ask_pages.reached q va kind (Ok (itself va))) (Cloaked (looked va kind c)) p.drawn)

-- what an offer that is granted does to translations that are known
abbrev pub granted_events : PageId → ℕ → Kind → MidStep → List Event
granted_events q va kind c = ((looked va kind c).events ++ events.Offer q (frame_of va) true ∷ [])
    ++ Born c.regime.satp (inside_access (Cloaked c) va kind) (itself va) (Some q) ∷ []

-- and one that is not
abbrev pub refused_events : PageId → ℕ → Kind → MidStep → List Event
refused_events q va kind c = (looked va kind c).events ++ events.Offer q (frame_of va) false ∷ []

-- a page is reached in a frame that has the bytes that were last shown of it
pub reach-shown : (q : PageId) (va : ℕ) (kind : Kind) (c : MidStep) → IsPlainAccess va c →
    HasShown q (frame_of va) c.memory
    → ask_reach q va kind (Cloaked c) ≡ record {
      answer = told.Ok;
      world = Cloaked
          (record c {
            memory = taken q (frame_of va) (is_store kind) c.memory;
            items = c.items
                ++ item.Ok c.regime.domain ∷ [];
            events = granted_events q va kind c;
          });
    }
unfolding offer_asked
reach-shown q va kind c p h = reach-offer q va kind c p
    ∙ ap (offer_asked q va kind c) (offer-shown q (frame_of va) (is_store kind) c.memory h)
    ∙ rw (taken-drawn q (frame_of va) (is_store kind) c.memory p.drawn, append-nil c.items) refl

-- a page is not reached in a frame that has other bytes: the step meets the violation
pub reach-changed : (q : PageId) (va : ℕ) (kind : Kind) (c : MidStep) → IsPlainAccess va c →
    (h : HasChanged q (frame_of va) c.memory)
    → ask_reach q va kind (Cloaked c) ≡ record {
      answer = told.Stopped;
      world = Cloaked (record c {
        memory = with_comparison (slice_index_or c.memory.ram (frame_of va) []) h.last c.memory;
        items = c.items ++ item.Stopped c.regime.domain ∷ [];
        events = refused_events q va kind c;
        violation = Some (violation.Page q (record { 0 = frame_of va }));
      });
    }
unfolding offer_asked cloaking.settle cloaking.settle_if
reach-changed q va kind c p h = reach-offer q va kind c p
    ∙ ap (offer_asked q va kind c) (offer-changed q (frame_of va) (is_store kind) c.memory h)
    ∙ rw (p.drawn, h.owed, append-nil c.items) refl
