-- What the end of a domain asks, and what it leaves of the ledger.
use Rattle.std.proofs.Common.{◌≡◌, ◌∙◌, ℕ, Bool, true, false, List, [], ◌∷◌, ◌++◌, Option, Some, None, refl, ap}
use Rattle.cloak_base.specs.declared.causes.Violation.{Violation}
use Rattle.cloak_base.specs.declared.names.SpaceId.{SpaceId}
use Rattle.cloak_model.specs.AskPages.{ask_forget}
use Rattle.cloak_model.specs.Cloaking.{CloakedMemory}
use Rattle.cloak_model.specs.DomainState as program
use Rattle.cloak_model.specs.Ending.{ask_end, cloak_for}
use Rattle.cloak_model.specs.Events.{Event, Look, Touch, Offer, Born, Read, Write, Drop, Space}
use Rattle.cloak_model.specs.Joint.{Turn, answers_violation, end_domain, ends_asked, ends_once, ends_resumed, memory_of}
use Rattle.cloak_model.specs.PageMoves.{drop_pages}
use Rattle.cloak_model.specs.World.{World, Flat, Cloaked, Alone, events_of, is_clashed, settled}
use Rattle.cloak_model.proofs.Clashes.{settle_clashed}
use Rattle.cloaked_side.specs.Ending.{ended_world}
use Rattle.shadow_fold.specs.Births.{MakeAll}
use Rattle.shadow_fold.specs.declared.entry.Entry.{Entry}
use Rattle.shadow_fold.specs.Fold.{Fold, after_event, after_events}
use Rattle.script_fold.specs.Tables.{recorded_tables}
use Rattle.script_fold.proofs.Endings.{keeps_end}
use Rattle.script_fold.proofs.Rooted.{settle_root}
use Rattle.script_fold.proofs.Tables.{memory_root}

-- Its events.

-- the event is the same whoever asks
abbrev pub IsPlain : Event → Type 0
IsPlain (Look satp a) = ⊥
IsPlain (Touch f) = Unit {0}
IsPlain (Offer q g grant) = Unit {0}
IsPlain (Born satp a walked cloaked) = ⊥
IsPlain (Read f) = Unit {0}
IsPlain (Write f) = Unit {0}
IsPlain (Drop d resource) = Unit {0}
IsPlain (Space s) = Unit {0}

abbrev pub ArePlain : List Event → Type 0
ArePlain [] = Unit {0}
ArePlain (e ∷ es) = IsPlain e × ArePlain es

pub plain_then : (es fs : List Event) → ArePlain es → ArePlain fs → ArePlain (es ++ fs)
plain_then [] fs first second = second
plain_then (e ∷ es) fs first second = (first.0, plain_then es fs first.1 second)

plain_event : (a b : Option SpaceId) (e : Event) (s : Fold) → IsPlain e → after_event a e s ≡ after_event b e s
unfolding after_event
plain_event a b (Look satp x) s plain = absurd plain
plain_event a b (Touch f) s plain = refl
plain_event a b (Offer q g grant) s plain = refl
plain_event a b (Born satp x walked cloaked) s plain = absurd plain
plain_event a b (Read f) s plain = refl
plain_event a b (Write f) s plain = refl
plain_event a b (Drop d resource) s plain = refl
plain_event a b (Space x) s plain = refl

pub plain_events : (a b : Option SpaceId) (es : List Event) (s : Fold) → ArePlain es →
    after_events a es s ≡ after_events b es s
unfolding after_events
plain_events a b [] s plain = refl
plain_events a b (e ∷ es) s plain =
    ap (λ (u : Fold). after_events a es u) (plain_event a b e s plain.0)
    ∙ plain_events a b es (after_event b e s) plain.1

pub plain_makes : (P : Entry → Type 0) (a : Option SpaceId) (es : List Event) → ArePlain es → MakeAll P a es
plain_makes P a [] plain = tt
plain_makes P a (Look satp x ∷ es) plain = absurd plain.0
plain_makes P a (Touch f ∷ es) plain = (tt, plain_makes P a es plain.1)
plain_makes P a (Offer q g grant ∷ es) plain = (tt, plain_makes P a es plain.1)
plain_makes P a (Born satp x walked cloaked ∷ es) plain = absurd plain.0
plain_makes P a (Read f ∷ es) plain = (tt, plain_makes P a es plain.1)
plain_makes P a (Write f ∷ es) plain = (tt, plain_makes P a es plain.1)
plain_makes P a (Drop d resource ∷ es) plain = (tt, plain_makes P a es plain.1)
plain_makes P a (Space s ∷ es) plain = (tt, plain_makes P a es plain.1)

-- What an end leaves: it compares no pages, and records no page table.

pub record Leaves (w v : World) : Type 0 where
  pub plain : ArePlain (events_of w) → ArePlain (events_of v)
  pub clashed : is_clashed v ≡ is_clashed w
  pub root : recorded_tables v ≡ recorded_tables w

leaves_refl : (w : World) → Leaves w w
leaves_refl w = record { plain = λ are. are; clashed = refl; root = refl }

leaves_trans : (u v w : World) → Leaves u v → Leaves v w → Leaves u w
leaves_trans u v w p q = record {
  plain = λ are. q.plain (p.plain are);
  clashed = q.clashed ∙ p.clashed;
  root = q.root ∙ p.root;
}

leaves_settled : (f : ℕ) (w : World) → Leaves w (settled f w)
leaves_settled f (Flat ram) = leaves_refl (Flat ram)
leaves_settled f (Cloaked c) = record {
  plain = λ are. plain_then c.events (Touch f ∷ []) are (tt, tt);
  clashed = settle_clashed f c.memory;
  root = settle_root f c.memory;
}
leaves_settled f (Alone h) = leaves_refl (Alone h)

leaves_forget : (domain resource : ℕ) (w : World) → Leaves w (ask_forget domain resource w).world
unfolding ask_forget drop_pages
leaves_forget domain resource (Flat ram) = leaves_refl (Flat ram)
leaves_forget domain resource (Cloaked c) = record {
  plain = λ are. plain_then c.events (Drop domain resource ∷ []) are (tt, tt);
  clashed = refl;
  root = refl;
}
leaves_forget domain resource (Alone h) = record { plain = λ are. are; clashed = refl; root = refl }

leaves_end : (domain : ℕ) (w : World) → Leaves w (ask_end domain w).world
leaves_end domain w =
    keeps_end Leaves (record { same = leaves_refl; chained = leaves_trans; settled = leaves_settled }) leaves_forget
    domain w

pub end_plain : (m : CloakedMemory) (d : ℕ) → ArePlain (events_of (ended_world m d))
end_plain m d = (leaves_end d (Cloaked (cloak_for m d))).plain tt

pub end_root : (m : CloakedMemory) (d : ℕ) → (memory_of (ended_world m d) m).ledger.root ≡ m.ledger.root
end_root m d = memory_root (ended_world m d) m (leaves_end d (Cloaked (cloak_for m d))).root

-- The mark of a clash.

mark_in : (w : World) (m : CloakedMemory) → is_clashed w ≡ m.ledger.clashed →
    (memory_of w m).ledger.clashed ≡ m.ledger.clashed
mark_in (Flat ram) m same = refl
mark_in (Cloaked c) m same = same
mark_in (Alone handed) m same = refl

-- what follows a step leaves the mark, and shows nothing on the console
pub record LeavesMark (t after : Turn) : Type 0 where
  pub clashed : after.joint.memory.ledger.clashed ≡ t.joint.memory.ledger.clashed
  pub shown : after.console ≡ t.console
  pub console : after.joint.console ≡ t.joint.console

domain_leaves : (d : ℕ) (was : program.Domain) (v : Violation) (t : Turn) → LeavesMark t (end_domain d was v t)
unfolding end_domain
domain_leaves d was v t = record {
  clashed = mark_in (ended_world t.joint.memory d) t.joint.memory
      (leaves_end d (Cloaked (cloak_for t.joint.memory d))).clashed;
  shown = refl;
  console = refl;
}

once_leaves : (ended : Bool) (d : ℕ) (was : program.Domain) (v : Violation) (t : Turn) →
    LeavesMark t (ends_once ended d was v t)
unfolding ends_once
once_leaves true d was v t = record { clashed = refl; shown = refl; console = refl }
once_leaves false d was v t = domain_leaves d was v t

resumed_leaves : (o : Option program.Domain) (d : ℕ) (v : Violation) (t : Turn) → LeavesMark t (ends_resumed o d v t)
unfolding ends_resumed
resumed_leaves None d v t = record { clashed = refl; shown = refl; console = refl }
resumed_leaves (Some was) d v t = once_leaves was.control.ended d was v t

asked_leaves : (o : Option program.Domain) (d : ℕ) (v : Violation) (t : Turn) → LeavesMark t (ends_asked o d v t)
unfolding ends_asked
asked_leaves None d v t = record { clashed = refl; shown = refl; console = refl }
asked_leaves (Some was) d v t = domain_leaves d was v t

pub answer_leaves : (inside : Option ℕ) (met : Option Violation) (t : Turn) →
    LeavesMark t (answers_violation inside met t)
unfolding answers_violation
answer_leaves inside None t = record { clashed = refl; shown = refl; console = refl }
answer_leaves None (Some v) t = resumed_leaves _ _ v t
answer_leaves (Some ctx) (Some v) t = asked_leaves _ _ v t
