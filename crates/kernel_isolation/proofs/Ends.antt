-- The end of a domain: what the kernel is shown by it, in frames that were owed a page.
use Rattle.std.proofs.Common.{◌≡◌, ◌≢◌, ◌∙◌, ℕ, zero, suc, ◌+◌, Bool, true, false, cond, List, [], ◌∷◌, ◌++◌, length, Option, None, Some, slice_index_or, refl, sym, ap, append_assoc, arith}
use Rattle.std.specs.Prelude.{is_some}
use Rattle.std.specs.List.{find, AllByRecursion, Contains}
use Rattle.std.proofs.lemmas.Bool.{false≢true}
use Rattle.std.proofs.lemmas.List.{append-nil, get_or-set_other, map-append}
use Rattle.cloak_base.specs.Random.{Random}
use Rattle.cloak_base.specs.declared.names.PageId.{PageId}
use Rattle.cloak_model.specs.Items.{Item}
use Rattle.cloak_model.specs.Items as item
use Rattle.cloak_model.specs.Ahead.{is_owed, with_shown}
use Rattle.cloak_model.specs.AskPages.{is_marked, settled_if_marked, ask_forget}
use Rattle.cloak_model.specs.Cloaking.{CloakedMemory, settle_owed, settle}
use Rattle.cloak_model.specs.Events.{Drop}
use Rattle.cloak_model.specs.PageMoves.{drop_pages}
use Rattle.cloak_model.specs.Ending.{all_marked, settled_for, ask_end, cloak_for}
use Rattle.cloak_model.specs.Fork.{forget_each}
use Rattle.cloak_model.specs.Ledger.{next_vector}
use Rattle.cloak_model.specs.Memory.{Seen, filled}
use Rattle.cloak_model.specs.Opening.{numbers_below}
use Rattle.cloak_model.specs.World.{World, MidStep, Cloaked, settled_in, cipher_items}
use Rattle.cloak_model.specs.Script.{played}
use Rattle.settling_ahead.proofs.Settled.{still_owed}
use Rattle.kernel_isolation.proofs.Showing.{AnyMemory, settle_shows}
use Rattle.kernel_isolation.proofs.Settlings.{HasPlaces, ShownBy, ShownBy-none, ShownBy-append, settle_shown}

-- each is shown in a frame that is owed a page
abbrev pub AreOwed : CloakedMemory → List (ℕ × List ℕ) → Type 0
AreOwed m ciphers = AllByRecursion (λ c. is_owed m c.0 ≡ true) ciphers

pub owed-append : (m : CloakedMemory) (a b : List (ℕ × List ℕ)) → AreOwed m a → AreOwed m b → AreOwed m (a ++ b)
owed-append m [] b here there = there
owed-append m (c ∷ a) b here there = (here.0, owed-append m a b here.1 there)

owed_by : (f : ℕ) (q : PageId) (draw : Option (List ℕ × Random)) (m : CloakedMemory) → is_owed m f ≡ true →
    AreOwed m (settle_owed f q draw m).ciphers
unfolding settle_owed
owed_by f q None m is = (is, tt)
owed_by f q (Some draw) m is = (is, tt)

settle_in_owed : (f : ℕ) (m : CloakedMemory) → AreOwed m (settle f m).ciphers
settle_in_owed f m =
    settle_shows AnyMemory (λ x ciphers n. AreOwed x ciphers) (λ x here. tt)
    (λ g q x is here. owed_by g q (next_vector x.ledger) x (ap (λ (o : Option PageId). is_some o) is)) f m tt

-- what is owed later was owed before
before_owed : (m after : CloakedMemory) (ciphers : List (ℕ × List ℕ)) →
    ((f : ℕ) → is_owed after f ≡ true → is_owed m f ≡ true) → AreOwed after ciphers → AreOwed m ciphers
before_owed m after [] more all = tt
before_owed m after (c ∷ ciphers) more all = (more c.0 all.0, before_owed m after ciphers more all.1)

-- A frame that is owed nothing keeps its bytes.
pub with_shown-apart : (m : CloakedMemory) (ciphers : List (ℕ × List ℕ)) (seen : Seen) (f : ℕ) →
    is_owed m f ≡ false → AreOwed m ciphers →
    slice_index_or (with_shown ciphers seen).ram f [] ≡ slice_index_or seen.ram f []
with_shown-apart m [] seen f none all = refl
with_shown-apart m (c ∷ ciphers) seen f none all =
    let other : f ≢ c.0 = λ same. false≢true (sym none ∙ ap (is_owed m) same ∙ all.0) in
    with_shown-apart m ciphers (filled c.0 c.1 seen) f none all.1 ∙ get_or-set_other seen.ram c.0 f c.1 [] other

-- what none of a list passes none of its elements passes
find_stops : {A : Type 0} (p : A → Bool) (test : Bool) (x : A) (later : Option A) → p x ≡ test →
    cond test (Some x) later ≡ None → (p x ≡ false) × (later ≡ None)
find_stops p true x later is none = let clash : Some x ≡ None = none in absurd cc
find_stops p false x later is none = (is, none)

pub find_none : {A : Type 0} (p : A → Bool) (xs : List A) (x : A) → find p xs ≡ None → Contains xs x → p x ≡ false
find_none p [] x none (k, low, is) = absurd (omega (arith, low))
find_none p (y ∷ ys) x none (zero, low, is) =
    ap p (sym is) ∙ (find_stops p (p y) y (find p ys) refl none).0
find_none p (y ∷ ys) x none (suc k, low, is) =
    find_none p ys x (find_stops p (p y) y (find p ys) refl none).1 (k, omega (arith, low), is)

-- A memory in which frames were settled, and what was written.
pub record EndShows (c c' : MidStep) : Type 0 where
  pub ciphers : List (ℕ × List ℕ)
  pub items : c'.items ≡ c.items ++ cipher_items ciphers
  pub shown : ShownBy c.memory ciphers c'.memory
  pub owed : AreOwed c.memory ciphers
  pub still : (f : ℕ) → is_owed c'.memory f ≡ true → is_owed c.memory f ≡ true

shows_none : (c : MidStep) → HasPlaces c.memory → EndShows c c
shows_none c places = record {
  ciphers = [];
  items = sym (append-nil c.items);
  shown = ShownBy-none c.memory places;
  owed = tt;
  still = λ f is. is;
}

shows_then : (c c' c'' : MidStep) → EndShows c c' → EndShows c' c'' → EndShows c c''
shows_then c c' c'' first second = record {
  ciphers = first.ciphers ++ second.ciphers;
  items = second.items ∙ ap (λ (l : List Item). l ++ cipher_items second.ciphers) first.items
      ∙ append_assoc c.items (cipher_items first.ciphers) (cipher_items second.ciphers)
      ∙ ap (λ (l : List Item). c.items ++ l)
      (sym (map-append (λ (x : ℕ × List ℕ). item.Cipher x.0 x.1) first.ciphers second.ciphers));
  shown = ShownBy-append c.memory c'.memory c''.memory first.ciphers second.ciphers first.shown second.shown;
  owed = owed-append c.memory first.ciphers second.ciphers first.owed
      (before_owed c.memory c'.memory second.ciphers first.still second.owed);
  still = λ f is. first.still f (second.still f is);
}

shows_settled : (f : ℕ) (c : MidStep) → HasPlaces c.memory → EndShows c (settled_in f c)
shows_settled f c places = record {
  ciphers = (settle f c.memory).ciphers;
  items = refl;
  shown = settle_shown f c.memory places;
  owed = settle_in_owed f c.memory;
  still = λ g is. still_owed g f c.memory is;
}

-- as a world
pub record EndsIn (c : MidStep) (w : World) : Type 0 where
  pub after : MidStep
  pub is : w ≡ Cloaked after
  pub shows : EndShows c after

either_ends : (c : MidStep) (b : Bool) (f : ℕ) → HasPlaces c.memory →
    EndsIn c (cond b (Cloaked (settled_in f c)) (Cloaked c))
either_ends c true f places = record { after = settled_in f c; is = refl; shows = shows_settled f c places }
either_ends c false f places = record { after = c; is = refl; shows = shows_none c places }

if_marked : (d f : ℕ) (c : MidStep) → HasPlaces c.memory → EndsIn c (settled_if_marked d all_marked f (Cloaked c))
unfolding settled_if_marked
if_marked d f c places =
    either_ends c (is_marked d all_marked (slice_index_or c.memory.ledger.owed f None)) f places

ends_on : (c : MidStep) (w v : World) (next : World → World) (e : EndsIn c w) → v ≡ next w →
    ((c' : MidStep) → HasPlaces c'.memory → EndsIn c' (next (Cloaked c'))) → EndsIn c v
ends_on c w v next e is more =
    let n = more e.after e.shows.shown.places in
    record {
      after = n.after;
      is = is ∙ ap next e.is ∙ n.is;
      shows = shows_then c e.after n.after e.shows n.shows;
    }

for_ends : (d f n : ℕ) (c : MidStep) → HasPlaces c.memory → EndsIn c (settled_for d f n (Cloaked c))
unfolding settled_for
for_ends d f zero c places = record { after = c; is = refl; shows = shows_none c places }
for_ends d f (suc n) c places =
    ends_on c (settled_if_marked d all_marked f (Cloaked c)) _ (settled_for d (f + 1) n) (if_marked d f c places) refl
    (λ c' there. for_ends d (f + 1) n c' there)

-- dropping shows nothing
forget_shows : (d r : ℕ) (c : MidStep) → HasPlaces c.memory → EndsIn c (ask_forget d r (Cloaked c)).world
unfolding ask_forget drop_pages
forget_shows d r c places = record {
  after = record c { memory = drop_pages d r c.memory; events = c.events ++ Drop d r ∷ [] };
  is = refl;
  shows = record {
    ciphers = [];
    items = sym (append-nil c.items);
    shown = record { frames = tt; seen = refl; places = places };
    owed = tt;
    still = λ f is. is;
  };
}

forgets_show : (d : ℕ) (numbers : List ℕ) (c : MidStep) → HasPlaces c.memory →
    EndsIn c (played (forget_each d numbers) (Cloaked c)).world
unfolding forget_each
forgets_show d [] c places = record { after = c; is = refl; shows = shows_none c places }
forgets_show d (r ∷ numbers) c places =
    ends_on c (ask_forget d r (Cloaked c)).world _ (λ w. (played (forget_each d numbers) w).world) (forget_shows d r c places) refl
    (λ c' there. forgets_show d numbers c' there)

pub end_shows : (d : ℕ) (m : CloakedMemory) → HasPlaces m → EndsIn (cloak_for m d) (ask_end d (Cloaked (cloak_for m d))).world
unfolding ask_end
end_shows d m places =
    let c = cloak_for m d in
    ends_on c (settled_for d 0 (length m.ram) (Cloaked c)) _ (λ w. (played (forget_each d (numbers_below 16)) w).world)
    (for_ends d 0 (length m.ram) c places) refl (λ c' there. forgets_show d (numbers_below 16) c' there)
