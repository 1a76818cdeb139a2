-- The moment at which a machine goes on that is thawed.
use Rattle.std.proofs.Common.{◌≡◌, ◌∙◌, ◌≤◌, ◌<◌, ℕ, zero, suc, List, [], ◌∷◌, length, map, filter, replicate, slice_index_or, Option, Some, None, Result, Ok, Err, All, refl, ap, sym, subst, arith}
use Rattle.std.specs.Prelude.{◌==◌, true}
use Rattle.std.proofs.lemmas.Bool.Decides.{Decides-eqb}
use Rattle.cloak_base.specs.Random.{Random}
use Rattle.cloak_base.specs.declared.names.PageId.{PageId}
use Rattle.cloak_model.specs.Beginning.{Beginning, opening_from}
use Rattle.cloak_model.specs.Cloaking.{CloakedMemory, owed_in}
use Rattle.cloak_model.proofs.Emitting.{emits_none}
use Rattle.cloak_model.specs.Exchange.{Emits, Piece, item_pieces}
use Rattle.cloak_model.specs.Ledger.{Keys}
use Rattle.cloak_model.specs.Opening.{Lack, RunEdge, drawn_keys, is_placed, key_count, keys_for, numbers_below, opened_by, opened_with, opening, opening_items, started_joint, started_ledger, started_memory}
use Rattle.cloak_model.specs.declared.image.Program.{Program}
use Rattle.cloak_model.specs.Items.{Item}
use Rattle.cloak_model.specs.Items.{Cipher}
use Rattle.cloak_pager.specs.State.{owed_under, page_of, right_at}
use Rattle.cloak_pager.specs.declared.frame_right.FrameRight.{FrameRight}
use Rattle.cloak_pager.specs.declared.frame_right.FrameRight.TheVariants.{Outside, Clean, Changed, Spent}
use Rattle.cloak_pager.proofs.Stands.{owed_by_right}
use Rattle.joint_machine.specs.Freezing.{AreOwedOrOutside}
use Rattle.joint_machine.specs.Placings.{placing}
use Rattle.joint_machine.specs.Standing.{AllOutside}
use Rattle.joint_machine.specs.declared.joint.Joint.{Joint}
use Rattle.joint_machine.proofs.Placed.{KeepsFixed, KeepsFixedIf, programs_fixed}
use Rattle.joint_machine.proofs.Showing.{opening_shows}
use Rattle.cloak_model.specs.DomainState.{Domain}
use Rattle.cloak_model.specs.Parts as model
use Rattle.cloak_model.specs.declared.image.Bundle.{Bundle}
use Rattle.frozen_state.specs.Continuing.{next_moment, without_loads, without_past}
use Rattle.joint_machine.specs.Standing.{StandsForJoint}
use Rattle.joint_machine.proofs.Mapped.{none_mapped}
use Rattle.kernel_report.specs.Console.{ConsoleShows}
use Rattle.space_law.specs.Mapping.{mapped_in}
use Rattle.cloak_machine.specs.Standing.{HaveFewLoads, StandsForMoment}
use Rattle.cloak_machine.specs.Turns.{IsAt}
use Rattle.cloak_machine.specs.declared.machine.Machine.{Machine}

no_loads : (steps : ℕ) (domains : List Domain) → HaveFewLoads steps (map without_loads domains)
no_loads steps [] k d low = absurd (omega (arith, low))
no_loads steps (x ∷ domains) zero d low = omega arith
no_loads steps (x ∷ domains) (suc k) d low = no_loads steps domains k d (omega (arith, low))

pub goes_on : (machine : Machine) (b : Bundle) (steps : ℕ) (j : model.Joint) → StandsForJoint machine.joint (without_past j) →
    machine.schedule.turns.items ≡ b.kernel.schedule → IsAt machine.schedule steps → machine.steps ≡ steps →
    ConsoleShows machine.console [] → machine.joint.memory.shadows.live ≡ [] →
    StandsForMoment machine (next_moment b steps j)
unfolding next_moment
goes_on machine b steps j joint schedule place counted console empty = record {
  schedule = sym schedule;
  place = place;
  steps = sym counted;
  joint = joint;
  console = console;
  loads = no_loads steps j.domains;
  mapped = none_mapped (mapped_in (without_past j)) machine.joint.memory empty;
}

-- Frames of a machine in which no frame is owed a page.

pub all_outside : (joint : Joint) (j : model.Joint) → StandsForJoint joint j → AreOwedOrOutside joint.memory.pager →
    ((f : ℕ) → owed_in j.memory f ≡ None) → AllOutside joint
all_outside joint j stands settled none k =
    settled k ∙ (sym (owed_by_right joint.memory.pager stands.memory.wiped j.memory stands.memory.pager k) ∙ none k)

-- nothing is shown as a run begins in which no program is placed
pub nothing_shown : (b : Bundle) (from : Beginning) (o : RunEdge) → opening_from b from ≡ Ok o → map placing b.programs ≡ [] →
    o.items ≡ []
nothing_shown b from o opens none = opening_shows b from o opens ∙ by_programs b.programs none
  where
    no_frames : (ram : List (List ℕ)) (fs : List ℕ) → map (λ f. Cipher f (slice_index_or ram f [])) (filter (is_placed []) fs) ≡ []
    no_frames ram [] = refl
    no_frames ram (f ∷ fs) = no_frames ram fs

    by_programs : (ps : List Program) → map placing ps ≡ [] → opening_items ps o.joint.memory.ram ≡ []
    by_programs [] none = no_frames o.joint.memory.ram (numbers_below (length o.joint.memory.ram))
    by_programs (p ∷ ps) none = absurd (cc)

pub none_left : {A : Type 0} (xs : List A) → (length xs == 0) ≡ true → xs ≡ []
none_left xs is = by_length xs ((Decides-eqb (length xs) 0).0 is)
  where
    by_length : {A : Type 0} (ys : List A) → length ys ≡ 0 → ys ≡ []
    by_length [] none = refl
    by_length (y ∷ ys) none = absurd (omega (arith, none))

-- and then nothing is given to an emitter
pub emits_nothing : {E : Type 0} (gave : E → E → List Piece → Type 0) (e : E) (items : List Item) → items ≡ [] →
    Emits gave e e (item_pieces items)
emits_nothing gave e items none =
    subst (λ (l : List Item). Emits gave e e (item_pieces l)) (sym none) (emits_none gave e)

-- a run begins with no frame owed a page

none_of : (n f : ℕ) → slice_index_or (replicate n (let none : Option PageId = None in none)) f None ≡ None
none_of zero f = refl
none_of (suc n) zero = refl
none_of (suc n) (suc f) = none_of n f

started_owes : (b : Bundle) (keys : Keys) (stream : Random) (m : CloakedMemory) →
    KeepsFixed (started_memory b.kernel keys stream) m → (f : ℕ) → owed_in m f ≡ None
unfolding started_memory started_ledger
started_owes b keys stream m fixed f =
    ap (λ (l : List (Option PageId)). slice_index_or l f None) fixed.owed ∙ none_of b.kernel.frames f

OwesNone : Result RunEdge Lack → Type 0
OwesNone (Ok o) = (f : ℕ) → owed_in o.joint.memory f ≡ None
OwesNone (Err lack) = Unit {0}

placed_owes : (b : Bundle) (keys : Keys) (stream : Random) (o : Option CloakedMemory) →
    KeepsFixedIf (started_memory b.kernel keys stream) o → OwesNone (opened_with b o)
unfolding OwesNone opened_with started_joint
placed_owes b keys stream None fixed = tt
placed_owes b keys stream (Some m) fixed = started_owes b keys stream m fixed

drawn_owes : (b : Bundle) (drawn : Option (List (List ℕ) × Random)) → OwesNone (opened_by b drawn)
unfolding OwesNone opened_by
drawn_owes b None = tt
drawn_owes b (Some draw) =
    placed_owes b (keys_for b.programs draw.0) draw.1 _
    (programs_fixed 0 b.programs (started_memory b.kernel (keys_for b.programs draw.0) draw.1))

pub opening_owes : (b : Bundle) (stream : Random) (o : RunEdge) → opening b stream ≡ Ok o → (f : ℕ) →
    owed_in o.joint.memory f ≡ None
unfolding OwesNone
opening_owes b stream o opens = subst OwesNone opens (drawn_owes b (drawn_keys (key_count b.programs) stream))
