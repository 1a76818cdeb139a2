-- The events of a walk that leads somewhere are the touches of its tables.
use Rattle.std.proofs.Common.{◌≡◌, ◌∙◌, ℕ, Bool, true, false, cond, List, [], ◌∷◌, ◌++◌, append_assoc, append-nil, Option, Some, None, Ok, inl, inr, refl, ap, sym}
use Rattle.std.specs.Prelude.{IfSome}
use Rattle.std.proofs.lemmas.Bool.Decides.{eqb_tells}
use Rattle.cloak_base.specs.declared.names.Frame.{Frame}
use Rattle.cloak_base.specs.declared.names.PageId.{PageId}
use Rattle.cloak_base.specs.declared.names.SpaceId.{SpaceId}
use Rattle.cloak_model.specs.declared.access.Access.{Access}
use Rattle.cloak_model.specs.declared.access.Walked.{Walked}
use Rattle.cloak_model.specs.Ask.{ask_word, ask_walk}
use Rattle.cloak_model.proofs.WalkParts.{ask_after, ask_first}
use Rattle.cloak_model.specs.Asking.{Told, answered}
use Rattle.cloak_model.specs.Events.{Touch}
use Rattle.cloak_base.specs.Constants.{frame_of}
use Rattle.cloak_model.specs.Memory.{is_in_ram, value_at}
use Rattle.cloak_model.specs.Walk.{Walk, FirstWord, Ends, GoesOn, has_paging, without_paging, first_entry, first_word, second_word}
use Rattle.cloak_model.specs.World.{World, MidStep, Cloaked, settled_in}
use Rattle.shadow_fold.specs.Fold.{Fold, after_events, after_event, touched}
use Rattle.shadow_law.specs.Agreeing.{touches}
use Rattle.shadow_law.specs.Walks.{listed}
use Rattle.shadow_law.proofs.Walks.{FirstNames, word_names, second_names, listed_one, listed_two}
use Rattle.cloaked_side.proofs.Tracking.{emptied_at, touched_held}

-- this world has these events after those of c
abbrev pub HasTouches : MidStep → Walked → World → Type 0
HasTouches c w world = (c' : MidStep) × (world ≡ Cloaked c') × (c'.events ≡ c.events ++ touches (listed w.pt1 ++ listed w.pt0))

second_touches : (a : Access) (at1 at0 : ℕ) (c : MidStep) (w : Walked) (b : Bool) (v : ℕ) → let c1 = settled_in (frame_of at1) c in
    let t = cond b (let u : Told (Option ℕ) = record { answer = Some v; world = Cloaked (settled_in (frame_of at0) c1) } in u) (let u : Told (Option ℕ) = record { answer = None; world = Cloaked c1 } in u) in
    second_word a at1 at0 t.answer ≡ Ok w → HasTouches c w t.world
unfolding second_word
second_touches a at1 at0 c w true v is =
    let named = second_names a at1 at0 (Some v) w is in (
      settled_in (frame_of at0) (settled_in (frame_of at1) c),
      refl,
      append_assoc c.events (Touch (frame_of at1) ∷ []) (Touch (frame_of at0) ∷ []) ∙ ap (λ (fs : List ℕ). c.events ++ touches fs) (sym (listed_two w.pt1 w.pt0 _ _ named.0 named.1)),
    )
second_touches a at1 at0 c w false v is = absurd cc

after_touches : (a : Access) (at1 v : ℕ) (c : MidStep) (w : Walked) (first : FirstWord) → first_word a at1 (Some v) ≡ first
    → (ask_after a at1 first (Cloaked (settled_in (frame_of at1) c))).answer ≡ Ok w → HasTouches c w (ask_after a at1 first (Cloaked (settled_in (frame_of at1) c))).world
unfolding ask_word FirstNames
after_touches a at1 v c w (Ends walk) word is =
    let named = word_names a at1 (Some v) w (word ∙ ap (λ (x : Walk). Ends x) is) in (
      settled_in (frame_of at1) c,
      refl,
      ap (λ (fs : List ℕ). c.events ++ touches fs) (sym (listed_one w.pt1 w.pt0 _ named.0 named.1)),
    )
after_touches a at1 v c w (GoesOn at0) word is =
    let c1 = settled_in (frame_of at1) c in
    second_touches a at1 at0 c w (is_in_ram c1.memory.ram at0) (value_at (settled_in (frame_of at0) c1).memory.ram at0 4) is

no_word : (a : Access) (at1 : ℕ) (c : MidStep) (w : Walked) → (ask_after a at1 (first_word a at1 None) (Cloaked c)).answer ≡ Ok w → ⊥
unfolding first_word
no_word a at1 c w is = cc

first_touches : (a : Access) (at1 v : ℕ) (c : MidStep) (w : Walked) (b : Bool) →
    let t = cond b (let u : Told (Option ℕ) = record { answer = Some v; world = Cloaked (settled_in (frame_of at1) c) } in u) (let u : Told (Option ℕ) = record { answer = None; world = Cloaked c } in u) in
    let r = ask_after a at1 (first_word a at1 t.answer) t.world in r.answer ≡ Ok w → HasTouches c w r.world
first_touches a at1 v c w true is = after_touches a at1 v c w (first_word a at1 (Some v)) refl is
first_touches a at1 v c w false is = absurd (no_word a at1 c w is)

pub walked_touches : (satp : ℕ) (a : Access) (c : MidStep) (w : Walked) → (ask_walk satp a (Cloaked c)).answer ≡ Ok w → HasTouches c w (ask_walk satp a (Cloaked c)).world
unfolding ask_walk ask_word
walked_touches satp a c w is = by (has_paging satp) is
  where
    by : (b : Bool) → let t = cond b (ask_first a (first_entry satp a.va) (Cloaked c)) (answered (without_paging a) (Cloaked c)) in t.answer ≡ Ok w → HasTouches c w t.world
    by true is =
        let at1 = first_entry satp a.va in
        first_touches a at1 (value_at (settled_in (frame_of at1) c).memory.ram at1 4) c w (is_in_ram c.memory.ram at1) is
    by false is = bare is
      where
        bare : without_paging a ≡ Ok w → HasTouches c w (Cloaked c)
        bare is =
            let same : (let u : Walked = record { pa = a.va; pt1 = None; pt0 = None } in u) ≡ w = cc in (
              c,
              refl,
              sym (append-nil c.events) ∙ ap (λ (v : Walked). c.events ++ touches (listed v.pt1 ++ listed v.pt0)) same,
            )

-- after the touches of tables they hold nothing

once_none : (f k : ℕ) (held : ℕ → Option PageId) → held k ≡ None → emptied_at f held k ≡ None
once_none f k held none = elim (eqb_tells k f) [
  | inl h ↦ ap (λ (b : Bool). cond b None (held k)) h.0
  | inr h ↦ ap (λ (b : Bool). cond b None (held k)) h.0 ∙ none
]

self_none : (f : ℕ) (held : ℕ → Option PageId) → emptied_at f held f ≡ None
self_none f held = elim (eqb_tells f f) [
  | inl h ↦ ap (λ (b : Bool). cond b None (held f)) h.0
  | inr h ↦ absurd (h.1 refl)
]

pub tables_none : (space : Option SpaceId) (o p : Option Frame) (s : Fold) → let s' = after_events space (touches (listed o ++ listed p)) s in
    IfSome o (λ f. s'.held f.0 ≡ None) × IfSome p (λ f. s'.held f.0 ≡ None)
unfolding after_events after_event
tables_none space None None s = (tt, tt)
tables_none space None (Some g) s = (tt, touched_held g.0 s (s.held g.0) refl g.0 ∙ self_none g.0 s.held)
tables_none space (Some f) None s = (touched_held f.0 s (s.held f.0) refl f.0 ∙ self_none f.0 s.held, tt)
tables_none space (Some f) (Some g) s =
    let s1 = touched f s in (
      touched_held g.0 s1 (s1.held g.0) refl f.0 ∙ once_none g.0 f.0 s1.held (touched_held f.0 s (s.held f.0) refl f.0 ∙ self_none f.0 s.held),
      touched_held g.0 s1 (s1.held g.0) refl g.0 ∙ self_none g.0 s1.held,
    )
