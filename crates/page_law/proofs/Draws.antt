-- How the draws of a stream are used up, and Ciphers that each have one of their own.
use Rattle.std.proofs.Common.{◌≡◌, ◌∙◌, ℕ, zero, suc, ◌+◌, ◌<◌, ◌≤◌, List, [], ◌∷◌, ◌++◌, length, take, slice_get, slice_set, slice_index_or, Option, Some, None, IfSome, refl, sym, ap, subst, arith}
use Rattle.std.specs.List.{AllByRecursion}
use Rattle.std.specs.Prelude.{option_and_then}
use Rattle.cloak_base.specs.Random.{Random, next_draw}
use Rattle.cloak_base.specs.declared.names.PageId.{PageId}
use Rattle.cloak_model.specs.declared.image.Program.{Program}
use Rattle.cloak_model.specs.Items.{Item}
use Rattle.cloak_model.specs.Items as item
use Rattle.cloak_model.specs.Beginning.{Beginning}
use Rattle.cloak_model.specs.Cloaking.{CloakedMemory}
use Rattle.cloak_model.specs.Sealing.{Chained}
use Rattle.cloak_model.specs.Ledger.{Keys, Ledger, key_in}
use Rattle.page_law.specs.Ciphers.{numbered_draw, stream_of, ShowsPage, cipher_count, ciphers_in, ShowPages}
use Rattle.page_law.specs.Keys.{HaveOwnKeys}

-- Frames are owed pages of the first n programs.

abbrev pub OwesPagesOf : ℕ → List (Option PageId) → Type 0
OwesPagesOf count owed = AllByRecursion (λ (o : Option PageId). IfSome o (λ q. q.domain < count)) owed

pub owed_at : (count : ℕ) (owed : List (Option PageId)) (f : ℕ) → OwesPagesOf count owed →
    IfSome (slice_index_or owed f None) (λ q. q.domain < count)
owed_at count [] f all = tt
owed_at count (o ∷ owed) zero all = all.0
owed_at count (o ∷ owed) (suc f) all = owed_at count owed f all.1

pub owed_set : (count : ℕ) (owed : List (Option PageId)) (f : ℕ) (o : Option PageId) → OwesPagesOf count owed →
    IfSome o (λ q. q.domain < count) → OwesPagesOf count (slice_set owed f o)
owed_set count [] f o all here = tt
owed_set count (x ∷ owed) zero o all here = (here, all.1)
owed_set count (x ∷ owed) (suc f) o all here = (all.0, owed_set count owed f o all.1 here)

-- A ledger of a run of these programs, at least `count` of them, after this many draws of a stream: each page has the
-- key of its program, and each page that is owed is of a program.
pub record HasDrawn (count : ℕ) (programs : List Program) (from : Beginning) (n : ℕ) (l : Ledger) : Type 0 where
  pub enough : count ≤ length programs
  pub keys : HaveOwnKeys programs from l
  pub chained : l.keys.seal ≡ Chained
  pub owed : OwesPagesOf (length programs) l.owed
  pub next : next_draw l.stream ≡ numbered_draw n (stream_of from)

-- the keys are the same ones
same_keys : (programs : List Program) (from : Beginning) (l l' : Ledger) → l'.keys ≡ l.keys →
    HaveOwnKeys programs from l → HaveOwnKeys programs from l'
same_keys programs from l l' same have page program is =
    have page program is ∙ ap (λ (keys : Keys). Some (key_in keys page)) (sym same)

-- the next draw was made
pub draw_made : {count : ℕ} {programs : List Program} (from : Beginning) (n : ℕ) (l l' : Ledger)
    (draw : List ℕ × Random) → HasDrawn count programs from n l → next_draw l.stream ≡ Some draw → l'.keys ≡ l.keys →
    OwesPagesOf (length programs) l'.owed → l'.stream ≡ draw.1 → HasDrawn count programs from (suc n) l'
draw_made {count} {programs} from n l l' draw has is keys owed rest = record {
  enough = has.enough;
  keys = same_keys programs from l l' keys has.keys;
  chained = ap (λ (k : Keys). k.seal) keys ∙ has.chained;
  owed = owed;
  next = ap next_draw rest
      ∙ ap (option_and_then (λ (d : List ℕ × Random). next_draw d.1)) (sym is ∙ has.next);
}

-- there was none, and there is none later
pub draw_missed : {count : ℕ} {programs : List Program} (from : Beginning) (n : ℕ) (l l' : Ledger) →
    HasDrawn count programs from n l → next_draw l.stream ≡ None → l'.keys ≡ l.keys →
    OwesPagesOf (length programs) l'.owed → l'.stream ≡ l.stream → HasDrawn count programs from (suc n) l'
draw_missed {count} {programs} from n l l' has is keys owed rest = record {
  enough = has.enough;
  keys = same_keys programs from l l' keys has.keys;
  chained = ap (λ (k : Keys). k.seal) keys ∙ has.chained;
  owed = owed;
  next = ap next_draw rest ∙ is
      ∙ ap (option_and_then (λ (d : List ℕ × Random). next_draw d.1)) (sym is ∙ has.next);
}

-- none was made
pub draws_stay : {count : ℕ} {programs : List Program} (from : Beginning) (n : ℕ) (l l' : Ledger) →
    HasDrawn count programs from n l → l'.keys ≡ l.keys → OwesPagesOf (length programs) l'.owed →
    l'.stream ≡ l.stream → HasDrawn count programs from n l'
draws_stay {count} {programs} from n l l' has keys owed rest = record {
  enough = has.enough;
  keys = same_keys programs from l l' keys has.keys;
  chained = ap (λ (k : Keys). k.seal) keys ∙ has.chained;
  owed = owed;
  next = ap next_draw rest ∙ has.next;
}

-- Items one after another.

-- the number of the next draw after an item
abbrev pub draw_behind_one : Item → ℕ → ℕ
draw_behind_one (item.Cipher f bytes) n = suc n
draw_behind_one _ n = n

-- and after some
abbrev pub draw_behind : List Item → ℕ → ℕ
draw_behind [] n = n
draw_behind (i ∷ items) n = draw_behind items (draw_behind_one i n)

pub draw_behind-append : (a b : List Item) (n : ℕ) → draw_behind (a ++ b) n ≡ draw_behind b (draw_behind a n)
draw_behind-append [] b n = refl
draw_behind-append (i ∷ a) b n = draw_behind-append a b (draw_behind_one i n)

one_counts : (i : Item) (n : ℕ) → draw_behind_one i n ≡ n + cipher_count i
one_counts (item.Cipher f bytes) n = omega arith
one_counts _ n = omega arith

pub draw_behind_counts : (items : List Item) (n : ℕ) → draw_behind items n ≡ n + ciphers_in items
draw_behind_counts [] n = omega arith
draw_behind_counts (i ∷ items) n =
    let rest = draw_behind_counts items (draw_behind_one i n) in
    let one = one_counts i n in
    omega (arith, rest, one)

-- a Cipher shows a page under the draw of this number
abbrev pub IsShown : List Program → Beginning → (PageId → List ℕ) → ℕ → Item → Type 0
IsShown programs from plain n (item.Cipher f bytes) = ShowsPage programs from plain n bytes
IsShown programs from plain n _ = Unit {0}

-- each of them does, under draws one after another
abbrev pub AreShown : List Program → Beginning → (PageId → List ℕ) → ℕ → List Item → Type 0
AreShown programs from plain n [] = Unit {0}
AreShown programs from plain n (i ∷ items) =
    IsShown programs from plain n i × AreShown programs from plain (draw_behind_one i n) items

pub shown-append : (programs : List Program) (from : Beginning) (plain : PageId → List ℕ) (n : ℕ) (a b : List Item) →
    AreShown programs from plain n a → AreShown programs from plain (draw_behind a n) b →
    AreShown programs from plain n (a ++ b)
shown-append programs from plain n [] b first second = second
shown-append programs from plain n (i ∷ a) b first second =
    (first.0, shown-append programs from plain (draw_behind_one i n) a b first.1 second)

shown_at : (programs : List Program) (from : Beginning) (plain : PageId → List ℕ) (n : ℕ) (items : List Item) →
    AreShown programs from plain n items → (at f : ℕ) (bytes : List ℕ) →
    slice_get items at ≡ Some (item.Cipher f bytes) →
    ShowsPage programs from plain (draw_behind (take at items) n) bytes
shown_at programs from plain n [] all zero f bytes is = absurd cc
shown_at programs from plain n [] all (suc at) f bytes is = absurd cc
shown_at programs from plain n (i ∷ items) all zero f bytes is =
    let same : i ≡ item.Cipher f bytes = cc in
    subst (IsShown programs from plain n) same all.0
shown_at programs from plain n (i ∷ items) all (suc at) f bytes is =
    shown_at programs from plain (draw_behind_one i n) items all.1 at f bytes is

-- so each of them shows a page under the draw that it counts to
pub each_shown : (programs : List Program) (from : Beginning) (plain : PageId → List ℕ) (n : ℕ) (items : List Item) →
    AreShown programs from plain n items → ShowPages programs from plain n items
each_shown programs from plain n items all at f bytes is =
    subst (λ (k : ℕ). ShowsPage programs from plain k bytes) (draw_behind_counts (take at items) n)
    (shown_at programs from plain n items all at f bytes is)

-- From one memory to a later one.

-- These items show pages as they are, under draws one after another from the next one on, and no page changes.
pub record Draws (count : ℕ) (m : CloakedMemory) (items : List Item) (m' : CloakedMemory) : Type 0 where
  pub plain : m'.plain ≡ m.plain
  pub drawn : (programs : List Program) (from : Beginning) (n : ℕ) → HasDrawn count programs from n m.ledger →
      HasDrawn count programs from (draw_behind items n) m'.ledger
  pub shown : (programs : List Program) (from : Beginning) (n : ℕ) → HasDrawn count programs from n m.ledger →
      AreShown programs from m.plain n items

-- nothing is shown, and what is owed is pages of programs as before
pub draws_none : {count : ℕ} (m m' : CloakedMemory) → m'.plain ≡ m.plain → m'.ledger.keys ≡ m.ledger.keys →
    ((all : ℕ) → count ≤ all → OwesPagesOf all m.ledger.owed → OwesPagesOf all m'.ledger.owed) →
    m'.ledger.stream ≡ m.ledger.stream → Draws count m [] m'
draws_none m m' plain keys owes rest = record {
  plain = plain;
  drawn = λ programs from n has.
      draws_stay from n m.ledger m'.ledger has keys (owes (length programs) has.enough has.owed) rest;
  shown = λ programs from n has. tt;
}

-- and the ledger is the same one
pub draws_same : {count : ℕ} (m m' : CloakedMemory) → m'.plain ≡ m.plain → m'.ledger ≡ m.ledger → Draws count m [] m'
draws_same m m' plain same =
    draws_none m m' plain (ap (λ (l : Ledger). l.keys) same)
    (λ all enough owes. subst (λ (l : Ledger). OwesPagesOf all l.owed) (sym same) owes)
    (ap (λ (l : Ledger). l.stream) same)

pub draws_then : {count : ℕ} (a b c : CloakedMemory) (first second : List Item) → Draws count a first b →
    Draws count b second c → Draws count a (first ++ second) c
draws_then {count} a b c first second p q = record {
  plain = q.plain ∙ p.plain;
  drawn = λ programs from n has.
      subst (λ (k : ℕ). HasDrawn count programs from k c.ledger) (sym (draw_behind-append first second n))
      (q.drawn programs from (draw_behind first n) (p.drawn programs from n has));
  shown = λ programs from n has.
      shown-append programs from a.plain n first second (p.shown programs from n has)
      (subst (λ (plain : PageId → List ℕ). AreShown programs from plain (draw_behind first n) second) p.plain
      (q.shown programs from (draw_behind first n) (p.drawn programs from n has)));
}
