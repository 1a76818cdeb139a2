-- A run's stream is what is left after its draws: over each step, and in a run.
use Rattle.std.proofs.Common.{◌≡◌, ◌∙◌, inl, inr, ℕ, zero, suc, ◌+◌, ◌-◌, ◌^◌, ◌<◌, min, List, Option, Some, None, IfSome, Ok, refl, sym, ap, subst, arith}
use Rattle.std.specs.Prelude.{IsSomeAnd, option_and_then}
use Rattle.std.proofs.Math.Nat.{min-eq_left, min-eq_right}
use Rattle.std.proofs.lemmas.Bool.{cases_lt}
use Rattle.io_traits.specs.Skipping.{skipped}
use Rattle.cloak_base.specs.Random.{Random, next_draw}
use Rattle.cloak_base.specs.declared.names.PageId.{PageId}
use Rattle.cloak_model.specs.declared.image.Bundle.{Bundle}
use Rattle.cloak_model.specs.Beginning.{Beginning, Fresh, Stored, stored_keys, opening_from}
use Rattle.cloak_model.specs.Cloaking.{CloakedMemory, settle_owed}
use Rattle.cloak_model.specs.Joint.{Moment, joint_step}
use Rattle.cloak_model.specs.Ledger.{Keys, next_vector}
use Rattle.cloak_model.specs.Opening.{RunEdge, drawn_keys, key_count, keys_for, started_joint, started_ledger, started_memory}
use Rattle.cloak_model.specs.PageMoves.{copy_pages, drop_pages, place, place_with}
use Rattle.cloak_model.specs.Parts.{Joint}
use Rattle.kernel_isolation.specs.Isolation.{joint_until}
use Rattle.kernel_isolation.proofs.FilesAdded.{HasKeys, added_keep, files_of, opens_over}
use Rattle.kernel_isolation.proofs.Opened.{is_opened}
use Rattle.kernel_isolation.proofs.Turns.{IsSteady, turn_is_alone}
use Rattle.cloak_model.proofs.Offering.{SettlesKept, settle_keeps, OfferKeeps, offer_keeps}
use Rattle.limit_law.proofs.Memories.{each_carries, step_carries}
use Rattle.limit_law.proofs.Moments.{at_every_moment}
use Rattle.limit_law.proofs.Worlds.{EachKeeps}
use Rattle.frozen_law.specs.Streams.{HasDrawn, HasDrawnFrom, HasKeysFrom, RunsKeepKeys, RunsKeepStreams}
use Rattle.frozen_law.proofs.DrawRuns.{draws_are_below}
use Rattle.limit_law.proofs.Openings.{programs_placed}

-- One more draw.

after_by : (n : ℕ) (o : Option (List ℕ × Random)) (last : Random) (draw : List ℕ × Random) →
    ((d : List ℕ × Random) → skipped n d.1 ≡ Some last → skipped (suc n) d.1 ≡ Some draw.1) →
    option_and_then (λ (d : List ℕ × Random). skipped n d.1) o ≡ Some last →
    option_and_then (λ (d : List ℕ × Random). skipped (suc n) d.1) o ≡ Some draw.1
after_by n None last draw later is = absurd cc
after_by n (Some d) last draw later is = later d is

after_one : (n : ℕ) (stream last : Random) (draw : List ℕ × Random) → skipped n stream ≡ Some last →
    next_draw last ≡ Some draw → skipped (suc n) stream ≡ Some draw.1
unfolding skipped
after_one zero stream last draw is drawn =
    let same : stream ≡ last = cc in
    ap (option_and_then (λ (d : List ℕ × Random). skipped 0 d.1)) (ap next_draw same ∙ drawn)
after_one (suc n) stream last draw is drawn =
    after_by n (next_draw stream) last draw (λ d there. after_one n d.1 last draw there drawn) is

-- What holds of a memory, as long as the draws are counted.
record StreamFollows (keys : Keys) (rest : Random) (m : CloakedMemory) : Type 0 where
  pub held : m.ledger.keys ≡ keys
  pub stream : m.ledger.draws < 2 ^ 64 - 1 → skipped m.ledger.draws rest ≡ Some m.ledger.stream

-- a count that is not at its end has grown
counted : (n : ℕ) → min (n + 1) (2 ^ 64 - 1) < 2 ^ 64 - 1 → n + 1 < 2 ^ 64 - 1
counted n low = elim (cases_lt (n + 1) (2 ^ 64 - 1)) [
  | inl less ↦ less
  | inr more ↦
      let top : min (n + 1) (2 ^ 64 - 1) ≡ 2 ^ 64 - 1 = min-eq_right more in absurd (omega (arith, low, top))
]

drawn_follows : (rest : Random) (n : ℕ) (last : Random) (draw : List ℕ × Random) →
    (n < 2 ^ 64 - 1 → skipped n rest ≡ Some last) → next_draw last ≡ Some draw →
    min (n + 1) (2 ^ 64 - 1) < 2 ^ 64 - 1 → skipped (min (n + 1) (2 ^ 64 - 1)) rest ≡ Some draw.1
drawn_follows rest n last draw before drawn low =
    let less = counted n low in
    let same : suc n ≡ min (n + 1) (2 ^ 64 - 1) =
    (let one : suc n ≡ n + 1 = omega arith in one) ∙ sym (min-eq_left (omega (arith, less))) in
    subst (λ (k : ℕ). skipped k rest ≡ Some draw.1) same
    (after_one n rest last draw (before (omega (arith, less))) drawn)

module _ (keys : Keys) (rest : Random) where
  abbrev Fits : CloakedMemory → Type 0
  Fits m = StreamFollows keys rest m

  owed_follows : (f : ℕ) (q : PageId) (draw : Option (List ℕ × Random)) (m : CloakedMemory) →
      next_draw m.ledger.stream ≡ draw → Fits m → Fits (settle_owed f q draw m).memory
  unfolding settle_owed
  owed_follows f q None m is here = record { held = here.held; stream = here.stream }
  owed_follows f q (Some draw) m is here = record {
    held = here.held;
    stream = drawn_follows rest m.ledger.draws m.ledger.stream draw here.stream is;
  }

  settles_follow : SettlesKept Fits
  settles_follow f q m is here = owed_follows f q (next_vector m.ledger) m refl here

  as_before : (m n : CloakedMemory) → n.ledger.keys ≡ m.ledger.keys → n.ledger.draws ≡ m.ledger.draws →
      n.ledger.stream ≡ m.ledger.stream → Fits m → Fits n
  as_before m n key draws stream here = record {
    held = key ∙ here.held;
    stream = λ low.
        ap (λ (k : ℕ). skipped k rest) draws
        ∙ (here.stream (subst (λ (k : ℕ). k < 2 ^ 64 - 1) draws low) ∙ ap Some (sym stream));
  }

  offers_follow : (q : PageId) → OfferKeeps q Fits Fits
  offers_follow q = record {
    settles = settles_follow;
    compares = λ a b m here. as_before m _ refl refl refl here;
    takes = λ g m clean here. as_before m _ refl refl refl here;
    stays = λ m here. here;
  }

  changes : EachKeeps Fits
  unfolding copy_pages drop_pages
  changes = record {
    settles = λ f m here. settle_keeps Fits settles_follow f m here;
    offers = λ q g write m here. offer_keeps (offers_follow q) g write m here;
    stores = λ pa width value m here. as_before m _ refl refl refl here;
    writes = λ plain m here. as_before m _ refl refl refl here;
    copies = λ d from to m here. as_before m _ refl refl refl here;
    drops = λ d resource m here. as_before m _ refl refl refl here;
  }

  step_follows : (m : Moment) → IsSteady m.joint → Fits m.joint.memory → Fits (joint_step m).joint.memory
  step_follows m steady here =
      step_carries Fits Fits
      (each_carries Fits changes (λ s m' there. as_before m' _ refl refl refl there)
      (λ root m' there. as_before m' _ refl refl refl there)) m steady.places here

  -- The opening.

  place_by : (q : PageId) (f : ℕ) (bytes : List ℕ) (draw : Option (List ℕ × Random)) (m : CloakedMemory) →
      next_draw m.ledger.stream ≡ draw → Fits m → IfSome (place_with q f bytes draw m) Fits
  unfolding place_with
  place_by q f bytes None m is here = tt
  place_by q f bytes (Some draw) m is here = record {
    held = here.held;
    stream = drawn_follows rest m.ledger.draws m.ledger.stream draw here.stream is;
  }

  place_follows : (q : PageId) (f : ℕ) (bytes : List ℕ) (m : CloakedMemory) → Fits m → IfSome (place q f bytes m) Fits
  unfolding place
  place_follows q f bytes m here = place_by q f bytes (next_vector m.ledger) m refl here

  started_follows : (b : Bundle) → Fits (started_memory b.kernel keys rest)
  unfolding started_memory started_ledger skipped
  started_follows b = record { held = refl; stream = λ low. refl }

joint_follows : (keys : Keys) (rest : Random) (b : Bundle) (m : CloakedMemory) → StreamFollows keys rest m →
    StreamFollows keys rest (started_joint b m).memory
unfolding started_joint
joint_follows keys rest b m here = here

-- Of both beginnings.

abbrev FollowsFrom : Bundle → Beginning → CloakedMemory → Type 0
FollowsFrom b (Fresh stream) m =
    IsSomeAnd (drawn_keys (key_count b.programs) stream) (λ drawn. StreamFollows (keys_for b.programs drawn.0) drawn.1 m)
FollowsFrom b (Stored keys stream files) m = StreamFollows (stored_keys b keys) stream m

from_follows : (b : Bundle) (from : Beginning) (keys : Keys) (rest : Random) (m : CloakedMemory) →
    HasKeys b from keys rest → StreamFollows keys rest m → FollowsFrom b from m
from_follows b (Fresh stream) keys rest m has here =
    subst (λ (o : Option (List (List ℕ) × Random)).
    IsSomeAnd o (λ drawn. StreamFollows (keys_for b.programs drawn.0) drawn.1 m)) (sym has.draws)
    (subst (λ (k : Keys). StreamFollows k rest m) has.are here)
from_follows b (Stored handed stream files) keys rest m has here =
    subst (λ (s : Random). StreamFollows (stored_keys b handed) s m) has.stays
    (subst (λ (k : Keys). StreamFollows k rest m) has.are here)

some_wide : {A : Type 0} (P Q : A → Type 0) (o : Option A) → ((a : A) → P a → Q a) → IsSomeAnd o P → IsSomeAnd o Q
some_wide P Q None wide here = here
some_wide P Q (Some a) wide here = wide a here

step_from : (b : Bundle) (from : Beginning) (m : Moment) → IsSteady m.joint → FollowsFrom b from m.joint.memory →
    FollowsFrom b from (joint_step m).joint.memory
step_from b (Fresh stream) m steady here =
    some_wide _ _ (drawn_keys (key_count b.programs) stream)
    (λ drawn there. step_follows (keys_for b.programs drawn.0) drawn.1 m steady there) here
step_from b (Stored keys stream files) m steady here = step_follows (stored_keys b keys) stream m steady here

opened_follows : (b : Bundle) (from : Beginning) (o : RunEdge) → opening_from b from ≡ Ok o →
    FollowsFrom b from o.joint.memory
opened_follows b from o opens =
    let over = opens_over b from o opens in
    let kept = (added_keep (files_of from) (started_joint b over.memory) o.joint over.added).memory in
    let fits = StreamFollows over.keys over.stream in
    let placed = subst (λ (m : Option CloakedMemory). IfSome m fits) over.placed
    (programs_placed fits (place_follows over.keys over.stream) 0 b.programs _ (started_follows over.keys over.stream b)) in
    from_follows b from over.keys over.stream o.joint.memory over.has_keys
    (as_before over.keys over.stream (started_joint b over.memory).memory o.joint.memory kept.keys kept.draws kept.stream
    (joint_follows over.keys over.stream b over.memory placed))

record Keeps (b : Bundle) (from : Beginning) (j : Joint) : Type 0 where
  steady : IsSteady j
  follows : FollowsFrom b from j.memory

opened_keeps : (b : Bundle) (from : Beginning) (o : RunEdge) → opening_from b from ≡ Ok o → Keeps b from o.joint
opened_keeps b from o opens =
    record { steady = (is_opened b from o opens).steady; follows = opened_follows b from o opens }

step_keeps_streams : (b : Bundle) (from : Beginning) (m : Moment) → Keeps b from m.joint → Keeps b from (joint_step m).joint
step_keeps_streams b from m here = record {
  steady = (turn_is_alone m here.steady).steady;
  follows = step_from b from m here.steady here.follows;
}

drawn_by : (keys : Keys) (rest : Random) (m : CloakedMemory) → m.ledger.draws < 2 ^ 60 → StreamFollows keys rest m →
    HasDrawn keys rest m.ledger
drawn_by keys rest m low here = record { same_keys = here.held; rest = here.stream (omega (arith, low)) }

drawn_from : (b : Bundle) (from : Beginning) (m : CloakedMemory) → m.ledger.draws < 2 ^ 60 → FollowsFrom b from m →
    HasDrawnFrom b from m.ledger
drawn_from b (Fresh stream) m low here =
    some_wide _ _ (drawn_keys (key_count b.programs) stream)
    (λ drawn there. drawn_by (keys_for b.programs drawn.0) drawn.1 m low there) here
drawn_from b (Stored keys stream files) m low here = drawn_by (stored_keys b keys) stream m low here

pub runs_keep_streams : RunsKeepStreams
runs_keep_streams b from budget r grammar is n few =
    let j : Joint = joint_until n r in
    drawn_from b from j.memory (draws_are_below b from budget r grammar is n few)
    (at_every_moment (Keeps b from) b from budget r (opened_keeps b from) (λ m same here. step_keeps_streams b from m here)
    is n).follows

keys_from : (b : Bundle) (from : Beginning) (m : CloakedMemory) → FollowsFrom b from m → HasKeysFrom b from m.ledger
keys_from b (Fresh stream) m here =
    some_wide _ _ (drawn_keys (key_count b.programs) stream) (λ drawn there. there.held) here
keys_from b (Stored keys stream files) m here = here.held

pub runs_keep_keys : RunsKeepKeys
runs_keep_keys b from budget r is n =
    keys_from b from (joint_until n r).memory
    (at_every_moment (Keeps b from) b from budget r (opened_keeps b from) (λ m same here. step_keeps_streams b from m here)
    is n).follows
