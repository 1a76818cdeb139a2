-- What a side saw is told of its memory and its emitter.
use Rattle.std.proofs.Common.{◌≡◌, arith, ℕ, false, List, [], Option, ap, sym, ◌∙◌, subst}
use Rattle.std.proofs.lemmas.List.{append-nil}
use Rattle.cloak_model.specs.World.{World, MidStep, Flat, Cloaked, Alone, is_clashed, unnoted}
use Rattle.cloak_model.specs.Asking.{Told, FollowsFrom}
use Rattle.cloak_model.specs.Hart.{Hart}
use Rattle.cloak_model.specs.HostCalls.{SteppedKernel}
use Rattle.cloak_model.specs.KernelStep.{kernel_step}
use Rattle.cloak_model.specs.Ahead.{settled_step}
use Rattle.settling_ahead.proofs.Laws.{settles_ahead, unclashed_ahead}
use Rattle.cloak_model.specs.Exchange.{Piece, Emits, EmitsSome, item_pieces}
use Rattle.cloak_model.specs.World.{events_of, items_of}
use Rattle.cloak_model.specs.Events.{Event}
use Rattle.cloak_base.specs.declared.names.SpaceId.{SpaceId}
use Rattle.shadow_fold.specs.Fold.{Fold, after_events}
use Rattle.cloaked_side.specs.Tracking.{Tracks, TracksBy, GoesBy, spent_in}
use Rattle.shadow_fold.specs.Reads.{AskedByStep, reads_due}
use Rattle.cloaked_side.proofs.Spending.{spends_looks, spends_more, spends_none}
use Rattle.cloaked_side.proofs.Tracking.{no_events}
use Rattle.cloak_pager.specs.State.{PagerState}
use Rattle.cloaked_side.specs.Holding.{Holds, SameSize, HoldsNoMore}
use Rattle.cloaked_side.specs.Seeing.{IsRegimeFor, Sees, asked_by, space_in}
use Rattle.cloaked_side.specs.Telling.{HoldsWorld, TellsSide}
use Rattle.cloaked_side.specs.declared.memory.Memory.{Memory}
use Rattle.cloaked_side.specs.declared.side.Side.{Side}
use Rattle.cloak_model.proofs.Emitting.{emits_none}

-- a side as a step begins
pub sees_first : {E : Type 0} (gave : E → E → List Piece → Type 0) (s : Side E) (c : MidStep) →
    Holds s.memory.now c.memory → c.items ≡ [] → c.events ≡ [] → s.violation ≡ c.violation →
    s.domain ≡ c.regime.domain → IsRegimeFor c.regime s.regime →
    Sees gave s s (Cloaked c)
sees_first gave s c holds none quiet violation domain regime = record {
  holds = holds;
  emits = subst (λ is. Emits gave s.emitter.now s.emitter.now (item_pieces is)) (sym none)
      (emits_none gave s.emitter.now);
  violation = violation;
  domain = domain;
  regime = regime;
  tracks = subst (λ (es : List Event). TracksBy s.memory.now s.memory.now (after_events (space_in s.regime) es)) (sym quiet)
      (λ f keeps. subst (λ (u : Fold). Tracks s.memory.now u) (no_events (space_in s.regime) f) keeps);
  spends = spends_looks (omega arith)
      (spends_more 0 0 0 (reads_due (asked_by (space_in s.regime) c)) (spent_in s.memory.now) (spent_in s.memory.now) (omega arith)
      (spends_none (spent_in s.memory.now)));
  maps = λ mapped make are. are;
}

-- the memory of a side has gone on by what its world was asked
pub goes_world : {E : Type 0} (gave : E → E → List Piece → Type 0) (first now : Side E) (space : Option SpaceId) (w : World) →
    space_in now.regime ≡ space → Sees gave first now w →
    GoesBy first.memory.now now.memory.now (record { space = space; events = events_of w; items = items_of w; changed = [] })
goes_world gave first now space (Flat ram) at sees = absurd sees
goes_world gave first now space (Alone handed) at sees = absurd sees
goes_world gave first now space (Cloaked c) at sees =
    subst (λ (o : Option SpaceId). GoesBy first.memory.now now.memory.now (asked_by o c)) at
    (record {
      tracks = subst (λ (es : List Event). TracksBy first.memory.now now.memory.now (after_events (space_in now.regime) es)) (sym (append-nil c.events)) sees.tracks;
      spends = sees.spends;
      maps = sees.maps;
      gone = tt;
    })

-- so it is of the memory that was given back, whose size is told
pub goes_back : (old back new : Memory) (a : AskedByStep) → SameSize old back → back ≡ new → GoesBy old new a → GoesBy old back a
goes_back old back new a size same goes = subst (λ (m : Memory). GoesBy old m a) (sym same) goes

pub holds_world : {E : Type 0} (gave : E → E → List Piece → Type 0) (first now : Side E) (w : World) →
    Sees gave first now w → HoldsWorld now.memory.now w
holds_world gave first now (Flat ram) sees = sees
holds_world gave first now (Alone handed) sees = sees
holds_world gave first now (Cloaked c) sees = sees.holds

pub emits_world : {E : Type 0} (gave : E → E → List Piece → Type 0) (first now : Side E) (w : World) →
    Sees gave first now w → Emits gave first.emitter.now now.emitter.now (item_pieces (items_of w))
emits_world gave first now (Flat ram) sees = absurd sees
emits_world gave first now (Alone handed) sees = absurd sees
emits_world gave first now (Cloaked c) sees = sees.emits

-- what followed, of the memory and the emitter that the side gave back
pub tells_from : {E A : Type 0} (gave : E → E → List Piece → Type 0) (first now : Side E) (after : A) (told : Told A)
    (memory : Memory) (e : E) → memory ≡ now.memory.now → e ≡ now.emitter.now →
    FollowsFrom (λ side w. Sees gave first side w) now after told → TellsSide gave first.emitter.now e memory after told
tells_from gave first now after told memory e same_memory same_emitter follows = record {
  answer = follows.answer;
  emits = subst (λ x. Emits gave first.emitter.now x (item_pieces (items_of told.world))) (sym same_emitter)
      (emits_world gave first now told.world follows.stands);
  holds = subst (λ x. HoldsWorld x told.world) (sym same_memory) (holds_world gave first now told.world follows.stands);
}

-- the events of what was told are not told

tells_quiet : {E A : Type 0} (gave : E → E → List Piece → Type 0) (e e' : E) (memory : Memory) (given a : A) (w : World) →
    TellsSide gave e e' memory given (record { answer = a; world = w }) →
    TellsSide gave e e' memory given (record { answer = a; world = unnoted w })
tells_quiet gave e e' memory given a (Flat ram) tells = tells
tells_quiet gave e e' memory given a (Alone handed) tells = tells
tells_quiet gave e e' memory given a (Cloaked c) tells =
    record { answer = tells.answer; emits = tells.emits; holds = tells.holds }

tells_whole : {E A : Type 0} (gave : E → E → List Piece → Type 0) (e e' : E) (memory : Memory) (given a : A) (w : World) →
    TellsSide gave e e' memory given (record { answer = a; world = unnoted w }) →
    TellsSide gave e e' memory given (record { answer = a; world = w })
tells_whole gave e e' memory given a (Flat ram) tells = tells
tells_whole gave e e' memory given a (Alone handed) tells = tells
tells_whole gave e e' memory given a (Cloaked c) tells =
    record { answer = tells.answer; emits = tells.emits; holds = tells.holds }

-- what followed of the plain step, told as the step that settles ahead
pub tells_ahead : {E : Type 0} (gave : E → E → List Piece → Type 0) (first now : Side E) (after : SteppedKernel) (h : Hart)
    (disk : List ℕ) (c : MidStep) (memory : Memory) (e : E) →
    memory ≡ now.memory.now → e ≡ now.emitter.now → c.memory.ledger.clashed ≡ false →
    (is_clashed (kernel_step h disk (Cloaked c)).world ≡ false →
    FollowsFrom (λ side w. Sees gave first side w) now after (kernel_step h disk (Cloaked c))) →
    TellsSide gave first.emitter.now e memory after (settled_step h disk c)
tells_ahead gave first now after h disk c memory e same_memory same_emitter unclashed follows =
    let step = kernel_step h disk (Cloaked c) in
    let ahead = settled_step h disk c in
    let told = tells_from gave first now after step memory e same_memory same_emitter (follows (unclashed_ahead h disk c unclashed)) in
    tells_whole gave first.emitter.now e memory after ahead.answer ahead.world
    (subst (λ (t : Told SteppedKernel). TellsSide gave first.emitter.now e memory after t) (settles_ahead h disk c)
    (tells_quiet gave first.emitter.now e memory after step.answer step.world told))

-- What was true of a memory or an emitter behind a reference is true of the one that was given back.
pub size_back : (old back new : Memory) → back ≡ new → SameSize old new → SameSize old back
size_back old back new same size = subst (λ (m : Memory). SameSize old m) (sym same) size

pub counting_back : (old back new : Memory) → SameSize old back → back ≡ new → new.counting ≡ old.counting → back.counting ≡ old.counting
counting_back old back new size same is = ap (λ (m : Memory). m.counting) same ∙ is

pub no_more_back : (old back new : PagerState) → back ≡ new → HoldsNoMore old new → HoldsNoMore old back
no_more_back old back new same less = subst (λ (p : PagerState). HoldsNoMore old p) (sym same) less

pub some_back : {E : Type 0} (gave : E → E → List Piece → Type 0) (old back new : E) → back ≡ new →
    EmitsSome gave old new → EmitsSome gave old back
some_back gave old back new same some = subst (λ e. EmitsSome gave old e) (sym same) some
