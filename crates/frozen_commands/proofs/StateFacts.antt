-- What is true of a run after all of its steps, if none of them stopped it.
use Rattle.std.proofs.Common.{◌≡◌, ◌≤◌, ◌∙◌, ◌+◌, ◌*◌, ℕ, true, false, List, length, take, take_all, refl, sym, ap, subst, arith, Option, Some, None, Ok}
use Rattle.std.specs.Prelude.{is_some, vec_capacity}
use Rattle.cloak_base.specs.Random.{Random}
use Rattle.cloak_base.specs.declared.causes.Stop.{Stop}
use Rattle.cloak_machine.specs.Standing.{StandsForMoment}
use Rattle.cloak_machine.specs.declared.machine.Machine.{Machine}
use Rattle.cloak_model.specs.declared.image.Bundle.{Bundle}
use Rattle.cloak_model.specs.Beginning.{Fresh}
use Rattle.cloak_model.specs.Bundle.{IsInGrammar}
use Rattle.cloak_model.specs.Joint.{Turn}
use Rattle.cloak_model.specs.Opening.{RunEdge}
use Rattle.cloak_model.specs.Parts.{Joint}
use Rattle.cloak_model.specs.Run.{Run, first_moment, joint_after, joint_run, last_stop, most_steps, run_of, turns_from}
use Rattle.frozen_law.specs.Missed.{NoneStopped}
use Rattle.frozen_law.specs.Sizes.{HasSizes}
use Rattle.frozen_law.proofs.Frozen.{frozen_states_go_on}
use Rattle.frozen_law.proofs.MissedRuns.{nothing_is_missed}
use Rattle.frozen_law.proofs.Sizes.{runs_keep_sizes}
use Rattle.frozen_run.specs.Shapes.{HasShape}
use Rattle.frozen_state.specs.declared.frozen.Frozen.{Frozen}
use Rattle.frozen_state.specs.declared.room.FrozenRoom.{FrozenRoom}
use Rattle.frozen_state.specs.FrozenState.{frozen_of}
use Rattle.frozen_state.specs.Room.{IsRoomFor}
use Rattle.frozen_state.specs.Thawing.{CanGoOn}
use Rattle.range_law.specs.Writing.{IsOfBytes, IsStreamOfBytes}
use Rattle.joint_machine.specs.Freezing.{HasRoom}
use Rattle.kernel_isolation.specs.Isolation.{joint_until}
use Rattle.io_traits.specs.declared.shelf.Shelf as shelves
use Rattle.command_parts.specs.declared.status.Status.{Status}
use Rattle.command_parts.specs.Freezing.{FreezeSources}
use Rattle.command_parts.specs.Outside.{Outside}
use Rattle.cloak_model.specs.Run.{NoClashYet}
use Rattle.thaw_law.proofs.TwoParts.{runs_go_on}
use Rattle.frozen_commands.specs.declared.freezing.ForSaving.{ForSaving}
use Rattle.frozen_commands.specs.FreezeAnswering.{IsState}
use Rattle.frozen_commands.specs.Freezing.{IsForSaving, is_stopped, last_joint}
use Rattle.frozen_commands.specs.Saving.{LeavesState}
use Rattle.record_law.specs.Steps.{moment_after}
use Rattle.vector_law.proofs.States.{states_show_no_key}

pub none_left : (stopped : Option Stop) → is_some stopped ≡ false → stopped ≡ None
none_left None is = refl
none_left (Some cause) is = absurd (let clash : true ≡ false = is in cc)

-- all of its steps were made
pub all_made : (b : Bundle) (steps : ℕ) (o : RunEdge) → is_stopped (run_of b steps o) ≡ false →
    length (run_of b steps o).turns ≡ steps
unfolding run_of
all_made b steps o goes =
    let on = runs_go_on steps 0 (first_moment b o.joint) (none_left _ goes) in on.count

-- A run of a bundle under a stream, of which no step stopped it.
pub record Reaches (s : FreezeSources) (steps : ℕ) (r : Run) : Type 0 where
  pub grammar : IsInGrammar s.bundle
  pub image_bytes : IsOfBytes s.bundle
  pub stream_bytes : IsStreamOfBytes s.stream
  pub few : steps ≤ most_steps
  pub runs : joint_run s.bundle s.stream steps ≡ Ok r
  pub goes : is_stopped r ≡ false
  pub count : length r.turns ≡ steps

all_turns : {s : FreezeSources} {steps : ℕ} {r : Run} → Reaches s steps r → take steps r.turns ≡ r.turns
all_turns {s} {steps} {r} at = take_all steps r.turns (let n = at.count in omega (arith, n))

until_last : {s : FreezeSources} {steps : ℕ} {r : Run} → Reaches s steps r → joint_until steps r ≡ last_joint r
until_last {s} {steps} {r} at = ap (λ (ts : List Turn). joint_after r.opened.joint ts) (all_turns at)

goes_on : {s : FreezeSources} {steps : ℕ} {r : Run} → Reaches s steps r → NoneStopped steps r
goes_on {s} {steps} {r} at = ap (λ (ts : List Turn). last_stop None ts) (all_turns at) ∙ none_left _ at.goes

-- its state is in range, and its machine can go on
pub is_state : {s : FreezeSources} {steps : ℕ} {r : Run} (f : Frozen) → Reaches s steps r → NoClashYet (last_joint r) →
    HasShape f → length f.recorded ≤ 65536 → frozen_of (last_joint r) steps s.vectors ≡ Some f → IsState s steps r f
is_state {s} {steps} {r} f at none shape few is =
    let until = until_last at in
    let before = subst (λ (j : Joint). frozen_of j steps s.vectors ≡ Some f) (sym until) is in
    let both = frozen_states_go_on s.bundle s.stream steps r at.grammar at.image_bytes at.stream_bytes at.runs steps at.few
    (goes_on at) (subst (λ (j : Joint). j.memory.ledger.clashed ≡ false) (sym until) none) s.vectors f before in
    record {
      is = is;
      shape = shape;
      few = few;
      in_range = both.0;
      can_go_on = subst (λ (j : Joint). CanGoOn s.bundle s.stream f j) until both.1;
      no_key = states_show_no_key s.bundle s.stream steps r at.runs steps steps s.vectors f before;
    }

not_missed : {s : FreezeSources} {steps : ℕ} {r : Run} → Reaches s steps r → (last_joint r).memory.ledger.missed ≡ false
not_missed {s} {steps} {r} at =
    subst (λ (j : Joint). j.memory.ledger.missed ≡ false) (until_last at)
    (nothing_is_missed s.bundle (Fresh s.stream) steps r at.runs steps (goes_on at))

-- the room is for it
has_room : {b : Bundle} {j : Joint} {room : FrozenRoom} → HasSizes b j → IsRoomFor b.kernel (length b.programs) room →
    HasRoom (length j.harts) (length j.memory.ram) (length j.domains) room
has_room {b} {j} {room} sizes for = record {
  no_domain = for.no_domain;
  no_hart = for.no_hart;
  no_frame = for.no_frame;
  no_page = for.no_page;
  for_domains = (let many = sizes.programs in let enough = for.domains in omega (arith, many, enough));
  for_harts = (let many = sizes.harts in let enough = for.harts in omega (arith, many, enough));
  for_frames = (let many = sizes.frames in let enough = for.frames in omega (arith, many, enough));
  for_pages = (let many = sizes.programs in let enough = for.pages in omega (arith, many, enough));
}

room_after : {s : FreezeSources} {steps : ℕ} {r : Run} {room : FrozenRoom} → Reaches s steps r →
    IsRoomFor s.bundle.kernel (length s.bundle.programs) room →
    HasRoom (length (last_joint r).harts) (length (last_joint r).memory.ram) (length (last_joint r).domains) room
room_after {s} {steps} {r} {room} at for =
    has_room (subst (λ (j : Joint). HasSizes s.bundle j) (until_last at)
    (runs_keep_sizes s.bundle (Fresh s.stream) steps r at.grammar at.runs steps)) for

-- what the machine left is the state that the vectors give
pub state_left : {S O : Type 0} {s : FreezeSources} {steps : ℕ} {r : Run} {machine : Machine} {left : ForSaving}
    {name : List ℕ} {before after : Outside S O} {given : Status} → Reaches s steps r → IsForSaving s left →
    StandsForMoment machine (moment_after (first_moment s.bundle r.opened.joint) r.turns) →
    (leaves : LeavesState machine left name before after given) →
    leaves.state ≡ frozen_of (last_joint r) steps s.vectors
state_left {S} {O} {s} {steps} {r} {machine} {left} {name} {before} {after} {given} at is_left stands leaves =
    let m = moment_after (first_moment s.bundle r.opened.joint) r.turns in
    let number : 0 + length r.turns ≡ steps = (let n = at.count in omega (arith, n)) in
    leaves.is m stands (not_missed at) (room_after at is_left.room)
    ∙ (λ i. frozen_of (last_joint r) (number i) (is_left.vectors i))
