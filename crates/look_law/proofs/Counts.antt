-- The counts of the fold over a run's events rise by its looks alone.
use Rattle.std.proofs.Common.{◌≡◌, ◌≤◌, ℕ, ◌+◌, ◌*◌, ◌/◌, ◌-◌, ◌^◌, Bool, true, false, cond, List, [], ◌∷◌, length, map, Option, is_some, arith, refl}
use Rattle.std.specs.Prelude.{nat_le}
use Rattle.std.proofs.Math.Nat.{min-le_left}
use Rattle.cloak_base.specs.declared.names.Frame.{Frame}
use Rattle.cloak_base.specs.declared.names.Kind.{Kind}
use Rattle.cloak_base.specs.declared.names.PageId.{PageId}
use Rattle.cloak_base.specs.declared.names.SpaceId.{SpaceId}
use Rattle.cloak_base.specs.Pages.{same_page, is_of}
use Rattle.cloak_model.specs.Events.{Event, Look, Touch, Offer, Born, Read, Write, Drop, Space}
use Rattle.cloak_model.specs.Joint.{Moment, Turn, after_turn}
use Rattle.cloak_model.specs.Run.{first_moment, turns_from}
use Rattle.shadow_fold.specs.Entries.{is_of_space, is_table, is_target}
use Rattle.shadow_fold.specs.Events.{after_step, after_turns, asked_in, counts_of}
use Rattle.shadow_fold.specs.Fold.{Fold, after_event, after_events, born_unless, entry_in, frame, fresh_fold, granted, holds, is_own_table, offered, regime_in, touched, touched_where}
use Rattle.shadow_fold.specs.Reads.{AskedByStep, events_in, looks_in}
use Rattle.shadow_fold.specs.Table.{Table, born, emptied, ending, is_known, killed, looked, one_more, with_room}
use Rattle.shadow_fold.specs.declared.entry.Entry.{Entry}
use Rattle.shadow_fold.specs.declared.entry.Regime.{Regime}
use Rattle.look_law.specs.Looks.{CountsAreFew}
use Rattle.look_law.proofs.Steps.{step_looks_twice}
use Rattle.shadow_fold.proofs.Looks.{looks_then}

-- From one table to the other both counts rose by at most n.
record Rises (n : ℕ) (t u : Table) : Type 0 where
  accesses : u.counts.accesses ≤ t.counts.accesses + n
  misses : u.counts.misses ≤ t.counts.misses + n

rises_none : {n : ℕ} (t : Table) → Rises n t t
rises_none t = record { accesses = omega arith; misses = omega arith }

rises_then : (n k : ℕ) (t u v : Table) → Rises n t u → Rises k u v → Rises (n + k) t v
rises_then n k t u v p q = record {
  accesses = (let one = p.accesses in let two = q.accesses in omega (arith, one, two));
  misses = (let one = p.misses in let two = q.misses in omega (arith, one, two));
}

rises_further : (t u v : Table) → Rises 0 t u → Rises 0 u v → Rises 0 t v
rises_further t u v p q = record {
  accesses = (let one = p.accesses in let two = q.accesses in omega (arith, one, two));
  misses = (let one = p.misses in let two = q.misses in omega (arith, one, two));
}

rises_within : (n k : ℕ) (t u : Table) → n ≤ k → Rises n t u → Rises k t u
rises_within n k t u more p = record {
  accesses = (let few = p.accesses in omega (arith, few, more));
  misses = (let few = p.misses in omega (arith, few, more));
}

-- Tables.

ending_rises : (ends : Entry → Bool) (t : Table) → Rises 0 t (ending ends t)
unfolding ending
ending_rises ends t = record { accesses = omega arith; misses = omega arith }

killed_rises : (f : Frame) (t : Table) → Rises 0 t (killed f t)
killed_rises f t = rises_further _ _ _ (ending_rises (is_target f) t) (ending_rises (is_table f) _)

one_more_least : (n : ℕ) → one_more n ≤ n + 1
one_more_least n = min-le_left (n + 1) (2 ^ 64 - 1)

missed_rises : (known : Bool) (n : ℕ) → cond known n (one_more n) ≤ n + 1
missed_rises true n = omega arith
missed_rises false n = one_more_least n

looked_rises : (regime : Regime) (page : ℕ) (kind : Kind) (t : Table) → Rises 1 t (looked regime page kind t)
unfolding looked
looked_rises regime page kind t = record {
  accesses = one_more_least t.counts.accesses;
  misses = missed_rises (is_known regime page kind t) t.counts.misses;
}

either_table : (b : Bool) (t u v : Table) → Rises 0 t u → Rises 0 t v → Rises 0 t (cond b u v)
either_table true t u v p q = p
either_table false t u v p q = q

room_rises : (t : Table) → Rises 0 t (with_room t)
unfolding with_room emptied
room_rises t =
    either_table (nat_le 1024 (length t.live)) t _ t (record { accesses = omega arith; misses = omega arith }) (rises_none t)

born_rises : (e : Entry) (t : Table) → Rises 0 t (born e t)
unfolding born
born_rises e t =
    either_table (is_known e.regime e.page e.kind t) t t _ (rises_none t)
    (let room = room_rises t in record { accesses = room.accesses; misses = room.misses })

born_unless_rises : (b : Bool) (e : Entry) (t : Table) → Rises 0 t (born_unless b e t)
born_unless_rises true e t = rises_none t
born_unless_rises false e t = born_rises e t

-- Folds.

either_fold : (b : Bool) (s u v : Fold) → Rises 0 s.table u.table → Rises 0 s.table v.table → Rises 0 s.table (cond b u v).table
either_fold true s u v p q = p
either_fold false s u v p q = q

touched_rises : (f : Frame) (s : Fold) → Rises 0 s.table (touched f s).table
unfolding touched
touched_rises f s = either_fold (is_some (s.held f.0)) s _ s (killed_rises f s.table) (rises_none s.table)

where_rises : (passes : PageId → Bool) (s : Fold) → Rises 0 s.table (touched_where passes s).table
unfolding touched_where
where_rises passes s = ending_rises _ s.table

granted_rises : (q : PageId) (g : Frame) (grant : Bool) (s : Fold) → Rises 0 s.table (granted q g grant s).table
granted_rises q g grant s = either_fold grant s _ s (killed_rises g s.table) (rises_none s.table)

offered_rises : (q : PageId) (g : Frame) (grant : Bool) (s : Fold) → Rises 0 s.table (offered q g grant s).table
unfolding offered
offered_rises q g grant s =
    either_fold (holds (same_page q) (s.held g.0)) s s _ (rises_none s.table)
    (rises_further _ _ _ (touched_rises g s)
    (rises_further _ _ _ (where_rises (same_page q) (touched g s)) (granted_rises q g grant _)))

-- an event
event_rises : (space : Option SpaceId) (e : Event) (s : Fold) →
    Rises (looks_in (e ∷ [])) s.table (after_event space e s).table
unfolding after_event
event_rises space (Look satp a) s = looked_rises (regime_in space satp a) (a.va / 4096) a.kind s.table
event_rises space (Touch f) s = touched_rises (frame f) s
event_rises space (Offer q g grant) s = offered_rises q (frame g) grant s
event_rises space (Born satp a walked cloaked) s =
    let e = entry_in space satp a walked cloaked in born_unless_rises (is_own_table e) e s.table
event_rises space (Read f) s = rises_none s.table
event_rises space (Write f) s = ending_rises (is_table (frame f)) s.table
event_rises space (Drop d resource) s = where_rises (is_of d resource) s
event_rises space (Space changed) s = ending_rises (is_of_space changed) s.table

events_rise : (space : Option SpaceId) (es : List Event) (s : Fold) →
    Rises (looks_in es) s.table (after_events space es s).table
unfolding after_events
events_rise space [] s = rises_none s.table
events_rise space (e ∷ es) s =
    let both = looks_then (e ∷ []) es in
    rises_within _ (looks_in (e ∷ es)) _ _ (omega (arith, both))
    (rises_then (looks_in (e ∷ [])) (looks_in es) _ _ _ (event_rises space e s) (events_rise space es _))

-- that a space changed is no look
spaces_quiet : (changed : List SpaceId) → looks_in (map (λ (s : SpaceId). Space s) changed) ≡ 0
spaces_quiet [] = refl
spaces_quiet (s ∷ changed) = spaces_quiet changed

step_rises : (m : Moment) (s : Fold) → Rises 2 s.table (after_step m s).table
unfolding after_step
step_rises m s =
    let a : AskedByStep = asked_in m in
    let few = step_looks_twice m in
    let both = looks_then a.events (map (λ (x : SpaceId). Space x) a.changed) in
    let none = spaces_quiet a.changed in
    rises_within (looks_in (events_in a)) 2 _ _ (omega (arith, few, both, none)) (events_rise a.space (events_in a) s)

turns_rise : (m : Moment) (turns : List Turn) (s : Fold) →
    Rises (2 * length turns) s.table (after_turns m turns s).table
unfolding after_turns
turns_rise m [] s = rises_none s.table
turns_rise m (t ∷ turns) s =
    rises_within (2 + 2 * length turns) (2 * length (t ∷ turns)) _ _ (omega arith)
    (rises_then 2 (2 * length turns) _ _ _ (step_rises m s) (turns_rise (after_turn m t) turns (after_step m s)))

pub counts_are_few : CountsAreFew
unfolding counts_of
counts_are_few b budget o =
    let m : Moment = first_moment b o.joint in
    let rises = turns_rise m (turns_from budget m) (fresh_fold (length o.joint.memory.ram)) in
    ((let few = rises.accesses in omega (arith, few)), (let few = rises.misses in omega (arith, few)))
