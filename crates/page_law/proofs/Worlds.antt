-- What a part of a step shows: pages as they are, under draws one after another, and then pages may change.
use Rattle.std.proofs.Common.{◌≡◌, ◌∙◌, ℕ, List, [], ◌∷◌, ◌++◌, length, refl, sym, ap, subst, append_assoc}
use Rattle.std.proofs.lemmas.List.{append-nil}
use Rattle.cloak_base.specs.declared.names.PageId.{PageId}
use Rattle.cloak_model.specs.declared.image.Program.{Program}
use Rattle.cloak_model.specs.Items.{Item}
use Rattle.cloak_model.specs.Beginning.{Beginning}
use Rattle.cloak_model.specs.Memory.{Seen}
use Rattle.cloak_model.specs.World.{World, MidStep, Flat, Cloaked, Alone, Handed}
use Rattle.page_law.proofs.Draws.{OwesPagesOf, HasDrawn, draws_stay, draw_behind, draw_behind-append, draw_behind_one, IsShown, AreShown, shown-append, Draws}

-- What was written since shows pages as they were at first.
pub record ShowsFirstFrom (count : ℕ) (c : MidStep) (v : World) : Type 0 where
  pub to : MidStep
  pub is : v ≡ Cloaked to
  pub items : List Item
  pub written : to.items ≡ c.items ++ items
  pub drawn : (programs : List Program) (from : Beginning) (n : ℕ) → HasDrawn count programs from n c.memory.ledger →
      HasDrawn count programs from (draw_behind items n) to.memory.ledger
  pub shown : (programs : List Program) (from : Beginning) (n : ℕ) → HasDrawn count programs from n c.memory.ledger →
      AreShown programs from c.memory.plain n items

pub record ShowsFirst (count : ℕ) (w v : World) : Type 0 where
  pub by : (c : MidStep) → w ≡ Cloaked c → ShowsFirstFrom count c v

-- And no page has changed.
pub record OnlyShowsFrom (count : ℕ) (c : MidStep) (v : World) : Type 0 where
  pub ended : ShowsFirstFrom count c v
  pub plain : ended.to.memory.plain ≡ c.memory.plain

pub record OnlyShows (count : ℕ) (w v : World) : Type 0 where
  pub by : (c : MidStep) → w ≡ Cloaked c → OnlyShowsFrom count c v

-- Nothing was shown, and no draw was made.
pub record OnlyChangesFrom (c : MidStep) (v : World) : Type 0 where
  pub to : MidStep
  pub is : v ≡ Cloaked to
  pub items : to.items ≡ c.items
  pub keys : to.memory.ledger.keys ≡ c.memory.ledger.keys
  pub owed : to.memory.ledger.owed ≡ c.memory.ledger.owed
  pub stream : to.memory.ledger.stream ≡ c.memory.ledger.stream

pub record OnlyChanges (w v : World) : Type 0 where
  pub by : (c : MidStep) → w ≡ Cloaked c → OnlyChangesFrom c v

-- nothing need be said of another world
flat_not : (seen : Seen) (c : MidStep) → Flat seen ≡ Cloaked c → ⊥
flat_not seen c is = cc

alone_not : (h : Handed) (c : MidStep) → Alone h ≡ Cloaked c → ⊥
alone_not h c is = cc

pub no_flat : {count : ℕ} (seen : Seen) (v : World) → OnlyShows count (Flat seen) v
no_flat seen v = record { by = λ c is. absurd (flat_not seen c is) }

pub no_alone : {count : ℕ} (h : Handed) (v : World) → OnlyShows count (Alone h) v
no_alone h v = record { by = λ c is. absurd (alone_not h c is) }

pub unchanged_flat : (seen : Seen) (v : World) → OnlyChanges (Flat seen) v
unchanged_flat seen v = record { by = λ c is. absurd (flat_not seen c is) }

pub unchanged_alone : (h : Handed) (v : World) → OnlyChanges (Alone h) v
unchanged_alone h v = record { by = λ c is. absurd (alone_not h c is) }

-- of the joint machine's
pub shows_from : {count : ℕ} (c : MidStep) (v : World) → OnlyShowsFrom count c v → OnlyShows count (Cloaked c) v
shows_from {count} c v s =
    record { by = λ c' is. let same : c ≡ c' = cc in subst (λ (x : MidStep). OnlyShowsFrom count x v) same s }

pub changes_from : (c : MidStep) (v : World) → OnlyChangesFrom c v → OnlyChanges (Cloaked c) v
changes_from c v s =
    record { by = λ c' is. let same : c ≡ c' = cc in subst (λ (x : MidStep). OnlyChangesFrom x v) same s }

-- one after another

ended_then : {count : ℕ} (a b : MidStep) (v w : World) → (p : ShowsFirstFrom count a v) →
    p.to.memory.plain ≡ a.memory.plain → ShowsFirstFrom count p.to w → ShowsFirstFrom count a w
ended_then {count} a b v w p plain q = record {
  to = q.to;
  is = q.is;
  items = p.items ++ q.items;
  written = q.written ∙ (ap (λ (l : List Item). l ++ q.items) p.written ∙ append_assoc a.items p.items q.items);
  drawn = λ programs from n has.
      subst (λ (k : ℕ). HasDrawn count programs from k q.to.memory.ledger)
      (sym (draw_behind-append p.items q.items n))
      (q.drawn programs from (draw_behind p.items n) (p.drawn programs from n has));
  shown = λ programs from n has.
      shown-append programs from a.memory.plain n p.items q.items (p.shown programs from n has)
      (subst (λ (plain : PageId → List ℕ). AreShown programs from plain (draw_behind p.items n) q.items) plain
      (q.shown programs from (draw_behind p.items n) (p.drawn programs from n has)));
}

pub ShowsFirst-behind : {count : ℕ} (u v w : World) → OnlyShows count u v → ShowsFirst count v w → ShowsFirst count u w
ShowsFirst-behind u v w p q = record {
  by = λ c is. let first = p.by c is in ended_then c c v w first.ended first.plain (q.by first.ended.to first.ended.is);
}

pub OnlyShows-trans : {count : ℕ} (u v w : World) → OnlyShows count u v → OnlyShows count v w → OnlyShows count u w
unfolding ended_then
OnlyShows-trans u v w p q = record {
  by = λ c is.
      let first = p.by c is in
      let second = q.by first.ended.to first.ended.is in
      record {
        ended = ended_then c c v w first.ended first.plain second.ended;
        plain = second.plain ∙ first.plain;
      };
}

pub OnlyShows-ends : {count : ℕ} (u v : World) → OnlyShows count u v → ShowsFirst count u v
OnlyShows-ends u v p = record { by = λ c is. (p.by c is).ended }

pub OnlyChanges-trans : (u v w : World) → OnlyChanges u v → OnlyChanges v w → OnlyChanges u w
OnlyChanges-trans u v w p q = record {
  by = λ c is.
      let first = p.by c is in
      let second = q.by first.to first.is in
      record {
        to = second.to;
        is = second.is;
        items = second.items ∙ first.items;
        keys = second.keys ∙ first.keys;
        owed = second.owed ∙ first.owed;
        stream = second.stream ∙ first.stream;
      };
}

pub OnlyChanges-refl : (w : World) → OnlyChanges w w
OnlyChanges-refl w =
    record { by = λ c is. record { to = c; is = is; items = refl; keys = refl; owed = refl; stream = refl } }

pub OnlyChanges-ends : {count : ℕ} (u v : World) → OnlyChanges u v → ShowsFirst count u v
OnlyChanges-ends u v p = record {
  by = λ c is.
      let s = p.by c is in
      record {
        to = s.to;
        is = s.is;
        items = [];
        written = s.items ∙ sym (append-nil c.items);
        drawn = λ programs from n has.
            draws_stay from n c.memory.ledger s.to.memory.ledger has s.keys
            (subst (OwesPagesOf (length programs)) (sym s.owed) has.owed) s.stream;
        shown = λ programs from n has. tt;
      };
}

pub OnlyShows-refl : {count : ℕ} (w : World) → OnlyShows count w w
OnlyShows-refl w = record {
  by = λ c is. record {
    ended = record {
      to = c;
      is = is;
      items = [];
      written = sym (append-nil c.items);
      drawn = λ programs from n has. has;
      shown = λ programs from n has. tt;
    };
    plain = refl;
  };
}

-- A part that shows first, and that changed no page if it was stopped.
pub record Shows (count : ℕ) (P : Type 0) (w v : World) : Type 0 where
  pub ends : ShowsFirst count w v
  pub stops : P → OnlyShows count w v

pub Shows-only : {count : ℕ} {P : Type 0} (w v : World) → OnlyShows count w v → Shows count P w v
Shows-only w v p = record { ends = OnlyShows-ends w v p; stops = λ stopped. p }

pub Shows-refl : {count : ℕ} {P : Type 0} (w : World) → Shows count P w w
Shows-refl w = Shows-only w w (OnlyShows-refl w)

pub Shows-behind : {count : ℕ} {P : Type 0} (u v w : World) → OnlyShows count u v → Shows count P v w →
    Shows count P u w
Shows-behind u v w p q = record {
  ends = ShowsFirst-behind u v w p q.ends;
  stops = λ stopped. OnlyShows-trans u v w p (q.stops stopped);
}

pub Shows-changes : {count : ℕ} {P : Type 0} (u v : World) → OnlyChanges u v → (P → ⊥) → Shows count P u v
Shows-changes u v p goes = record { ends = OnlyChanges-ends u v p; stops = λ stopped. absurd (goes stopped) }

-- what draws of a memory make of the joint machine's world
pub shows_by : {count : ℕ} (c c' : MidStep) (items : List Item) → c'.items ≡ c.items ++ items →
    Draws count c.memory items c'.memory → OnlyShows count (Cloaked c) (Cloaked c')
shows_by c c' items written draws = shows_from c (Cloaked c') (record {
  ended = record {
    to = c';
    is = refl;
    items = items;
    written = written;
    drawn = draws.drawn;
    shown = draws.shown;
  };
  plain = draws.plain;
})

-- an item that is no Cipher is written
pub shows_item : {count : ℕ} (c : MidStep) (i : Item) → ((n : ℕ) → draw_behind_one i n ≡ n) →
    ((programs : List Program) (from : Beginning) (plain : PageId → List ℕ) (n : ℕ) →
    IsShown programs from plain n i) →
    OnlyShows count (Cloaked c) (Cloaked (record c { items = c.items ++ i ∷ [] }))
shows_item {count} c i counts nothing = shows_by c _ (i ∷ []) refl (record {
  plain = refl;
  drawn = λ programs from n has.
      subst (λ (k : ℕ). HasDrawn count programs from k c.memory.ledger) (sym (counts n)) has;
  shown = λ programs from n has. (nothing programs from c.memory.plain n, tt);
})
