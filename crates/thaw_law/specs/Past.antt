-- The past of a run: what its console showed, and the loads that its programs completed. A step appends to both and
-- reads neither.
use Rattle.std.specs.Prelude.{ℕ, ◌≡◌, List, [], ◌∷◌, ◌++◌, map, slice_get, slice_index_or, option_map}
use Rattle.cloak_model.specs.DomainState.{Domain}
use Rattle.cloak_model.specs.Parts.{Joint}
use Rattle.cloak_model.specs.Opening.{RunEdge}
use Rattle.cloak_model.specs.Joint.{Moment, Turn, joint_step, stop_of}
use Rattle.cloak_model.specs.Run.{turns_from, joint_after, closing}
use Rattle.frozen_state.specs.Continuing.{without_past}

-- A past put before.

-- address and value of each
abbrev pub PastLoads : Type 0
PastLoads = List (ℕ × ℕ)

-- a program that had completed these loads before its own
abbrev pub with_loads_before : PastLoads → Domain → Domain
with_loads_before loads d = record d { loads = loads ++ d.loads }

-- The same of each program by its number. A program beyond the end of the list has no past.
abbrev pub with_loads : List PastLoads → List Domain → List Domain
with_loads [] domains = domains
with_loads (past ∷ more) [] = []
with_loads (past ∷ more) (d ∷ domains) = with_loads_before past d ∷ with_loads more domains

-- The past is put before: on the console, and of each program before its loads.
abbrev pub with_past : List ℕ → List PastLoads → Joint → Joint
with_past console loads j =
    record j { console = console ++ j.console; domains = with_loads loads j.domains }

abbrev pub moment_with_past : List ℕ → List PastLoads → Moment → Moment
moment_with_past console loads m = record m { joint = with_past console loads m.joint }

-- Items, the console's byte, violation and halt of the step stay.
abbrev pub turn_with_past : List ℕ → List PastLoads → Turn → Turn
turn_with_past console loads t = record t { joint = with_past console loads t.joint }

-- The items of the closing stay.
abbrev pub closed_with_past : List ℕ → List PastLoads → RunEdge → RunEdge
closed_with_past console loads o = record o { joint = with_past console loads o.joint }

-- The law: whatever the past is, it stays before what is made, and what is made does not depend on it.

abbrev pub StepsKeepPast : Type 0
StepsKeepPast =
    (console : List ℕ) (loads : List PastLoads) (m : Moment) →
    joint_step (moment_with_past console loads m) ≡ turn_with_past console loads (joint_step m)

-- of at most n steps
abbrev pub RunsKeepPast : Type 0
RunsKeepPast =
    (console : List ℕ) (loads : List PastLoads) (n : ℕ) (m : Moment) →
    turns_from n (moment_with_past console loads m) ≡ map (turn_with_past console loads) (turns_from n m)

abbrev pub ClosingKeepsPast : Type 0
ClosingKeepsPast =
    (console : List ℕ) (loads : List PastLoads) (j : Joint) →
    closing (with_past console loads j) ≡ closed_with_past console loads (closing j)

-- Without the past.

abbrev pub moment_without_past : Moment → Moment
moment_without_past m = record m { joint = without_past m.joint }

-- the loads of each program
abbrev pub loads_of : Joint → List PastLoads
loads_of j = map (λ (d : Domain). d.loads) j.domains

-- A machine has the past of one machine, and then what a second one has: console and loads of the first, followed by
-- those of the second. All else is that of the second.
pub record IsAfter (before later whole : Joint) : Type 0 where
  pub console : whole.console ≡ before.console ++ later.console
  pub programs : (d : ℕ) →
      slice_get whole.domains d
      ≡ option_map (with_loads_before (slice_index_or (loads_of before) d [])) (slice_get later.domains d)
  pub harts : whole.harts ≡ later.harts
  pub disk : whole.disk ≡ later.disk
  pub memory : whole.memory ≡ later.memory
  pub ended : whole.ended ≡ later.ended
  pub refused : whole.refused ≡ later.refused

-- At most n steps from a moment are those from the same moment without its past: the same items, console and stop of
-- each.
pub record GoesOnAlike (n : ℕ) (m : Moment) : Type 0 where
  pub items : map (λ (t : Turn). t.items) (turns_from n m)
      ≡ map (λ (t : Turn). t.items) (turns_from n (moment_without_past m))
  pub console : map (λ (t : Turn). t.console) (turns_from n m)
      ≡ map (λ (t : Turn). t.console) (turns_from n (moment_without_past m))
  pub stops : map stop_of (turns_from n m) ≡ map stop_of (turns_from n (moment_without_past m))
  -- the machine after them
  pub joint : IsAfter m.joint (joint_after (without_past m.joint) (turns_from n (moment_without_past m)))
      (joint_after m.joint (turns_from n m))

abbrev pub RunsNeedNoPast : Type 0
RunsNeedNoPast = (n : ℕ) (m : Moment) → GoesOnAlike n m
