-- Whole runs of images that are alike but for the bytes of their programs, under a blind seal.
use Rattle.std.proofs.Common.{◌≡◌, ◌∙◌, ℕ, zero, suc, List, [], ◌∷◌, map, length, Option, Some, None, refl, sym, ap, subst}
use Rattle.std.specs.Prelude.{Result, Ok, Err}
use Rattle.std.specs.Result.{result_map_both}
use Rattle.cloak_base.specs.Random.{Random}
use Rattle.cloak_base.specs.declared.causes.Stop.{Stop}
use Rattle.cloak_model.specs.declared.image.KernelImage.{KernelImage}
use Rattle.cloak_model.specs.declared.image.Bundle.{Bundle}
use Rattle.cloak_model.specs.Items.{Item}
use Rattle.cloak_model.specs.Sealing.{Sealing, Chained, Padded}
use Rattle.cloak_model.specs.Opening.{RunEdge, Lack, key_count, drawn_keys, opened_by}
use Rattle.cloak_model.specs.Beginning.{Beginning, Fresh, Stored, opening_from, opening_stored}
use Rattle.cloak_model.specs.Exchange.{items_in_order}
use Rattle.cloak_model.specs.Parts.{Joint, kernel_part}
use Rattle.cloak_model.specs.Joint.{Moment, Turn, joint_step, after_turn, stop_of}
use Rattle.cloak_model.specs.Run.{turns_from, unless_stopped, joint_after, last_stop, closing, cause_of, first_moment, run_of}
use Rattle.cloak_model.specs.Veil.{IsBlind}
use Rattle.cloak_model.specs.BlindRuns.{veiled_joint, veiled_turn, veiled_edge, seal_in, HaveOneShape}
use Rattle.cloak_model.specs.SealedRuns.{opened_under, opening_stored_under, opening_under, RunIsChained, PublicRun, public_run, public_of, ImagesAreAlike, BlindRunsAreOne, PaddedRunsAreOne}
use Rattle.cloak_model.proofs.SealStays.{seal_stays}
use Rattle.cloak_model.proofs.BlindRuns.{turns_agree}
use Rattle.cloak_model.proofs.BlindClosing.{blind_closings_agree}
use Rattle.cloak_model.proofs.BlindOpening.{EdgesAreOne, opening_one}

-- The run of an image is the one under chained AES.

opens_so : (b : Bundle) (o : Option (List (List ℕ) × Random)) → opened_under Chained b o ≡ opened_by b o
unfolding opened_under opened_by
opens_so b None = refl
opens_so b (Some draw) = refl

opening_is : (b : Bundle) (from : Beginning) → opening_under Chained b from ≡ opening_from b from
unfolding opening_stored_under opening_stored
opening_is b (Fresh stream) = opens_so b (drawn_keys (key_count b.programs) stream)
opening_is b (Stored keys stream files) = refl

pub run_is_chained : RunIsChained
run_is_chained b from budget =
    ap (λ (r : Result RunEdge Lack). result_map_both (run_of b budget) (λ lack. lack) r) (opening_is b from)

-- What is read off turns is read off the veiled ones.

items_of_turns : (ts : List Turn) → map (λ (t : Turn). t.items) (map veiled_turn ts) ≡ map (λ (t : Turn). t.items) ts
items_of_turns [] = refl
items_of_turns (t ∷ ts) = ap (λ (xs : List (List Item)). t.items ∷ xs) (items_of_turns ts)

consoles_of_turns : (ts : List Turn) → map (λ (t : Turn). t.console) (map veiled_turn ts) ≡ map (λ (t : Turn). t.console) ts
consoles_of_turns [] = refl
consoles_of_turns (t ∷ ts) = ap (λ (xs : List (List ℕ)). t.console ∷ xs) (consoles_of_turns ts)

count_of_turns : (ts : List Turn) → length (map veiled_turn ts) ≡ length ts
count_of_turns [] = refl
count_of_turns (t ∷ ts) = ap suc (count_of_turns ts)

stop_of_turns : (so_far : Option Stop) (ts : List Turn) → last_stop so_far (map veiled_turn ts) ≡ last_stop so_far ts
unfolding last_stop
stop_of_turns so_far [] = refl
stop_of_turns so_far (t ∷ ts) = stop_of_turns (stop_of t) ts

joint_of_turns : (j : Joint) (ts : List Turn) → joint_after (veiled_joint j) (map veiled_turn ts) ≡ veiled_joint (joint_after j ts)
unfolding joint_after
joint_of_turns j [] = refl
joint_of_turns j (t ∷ ts) = joint_of_turns t.joint ts

-- The seal at the end.

unless_seal : (s : Option Stop) (j : Joint) (more : Moment → List Turn) (m : Moment) → seal_in m.joint ≡ seal_in j →
    ((seal_in (joint_after m.joint (more m))) ≡ seal_in m.joint) →
    seal_in (joint_after m.joint (unless_stopped s more m)) ≡ seal_in j
unfolding joint_after
unless_seal (Some cause) j more m e later = e
unless_seal None j more m e later = later ∙ e

turns_seal : (n : ℕ) (m : Moment) → seal_in (joint_after m.joint (turns_from n m)) ≡ seal_in m.joint
unfolding turns_from joint_after
turns_seal zero m = refl
turns_seal (suc n) m =
    let t : Turn = joint_step m in
    unless_seal (stop_of t) m.joint (turns_from n) (after_turn m t) (seal_stays m) (turns_seal n (after_turn m t))

-- the run told of veiled edges and turns
abbrev told_of : RunEdge → List Turn → RunEdge → PublicRun
told_of o ts c = record {
  items = items_in_order o.items (map (λ (t : Turn). t.items) ts) c.items;
  consoles = map (λ (t : Turn). t.console) ts;
  kernel = kernel_part c.joint;
  steps = length ts;
  stop = cause_of c.joint (last_stop None ts);
  ended = c.joint.ended;
  refused = c.joint.refused;
}

-- with these
abbrev told_so : RunEdge → RunEdge → List (List Item) → List (List ℕ) → ℕ → Option Stop → PublicRun
told_so o c items consoles steps stopped = record {
  items = items_in_order o.items items c.items;
  consoles = consoles;
  kernel = kernel_part c.joint;
  steps = steps;
  stop = cause_of c.joint stopped;
  ended = c.joint.ended;
  refused = c.joint.refused;
}

told_veiled : (o : RunEdge) (ts : List Turn) (c : RunEdge) → told_of (veiled_edge o) (map veiled_turn ts) (veiled_edge c) ≡ told_of o ts c
told_veiled o ts c =
    ap (λ (x : List (List Item)). told_so o c x (map (λ (t : Turn). t.console) (map veiled_turn ts)) (length (map veiled_turn ts)) (last_stop None (map veiled_turn ts))) (items_of_turns ts)
    ∙ (ap (λ (x : List (List ℕ)). told_so o c (map (λ (t : Turn). t.items) ts) x (length (map veiled_turn ts)) (last_stop None (map veiled_turn ts))) (consoles_of_turns ts)
    ∙ (ap (λ (x : ℕ). told_so o c (map (λ (t : Turn). t.items) ts) (map (λ (t : Turn). t.console) ts) x (last_stop None (map veiled_turn ts))) (count_of_turns ts)
    ∙ ap (λ (x : Option Stop). told_so o c (map (λ (t : Turn). t.items) ts) (map (λ (t : Turn). t.console) ts) (length ts) x) (stop_of_turns None ts)))

-- Two runs from edges that are one under the veil.

whole_agrees : (b b' : Bundle) (budget : ℕ) (o o' : RunEdge) → ImagesAreAlike b b' → veiled_edge o ≡ veiled_edge o' →
    IsBlind (seal_in o.joint) → HaveOneShape budget (first_moment b o.joint) (first_moment b' o'.joint) →
    public_run (run_of b budget o) ≡ public_run (run_of b' budget o')
unfolding run_of
whole_agrees b b' budget o o' alike e blind shapes =
    let m : Moment = first_moment b o.joint in
    let m' : Moment = first_moment b' o'.joint in
    let ts : List Turn = turns_from budget m in
    let ts' : List Turn = turns_from budget m' in
    let ej : veiled_joint o.joint ≡ veiled_joint o'.joint = ap (λ (x : RunEdge). x.joint) e in
    let same : map veiled_turn ts ≡ map veiled_turn ts' =
    turns_agree budget m m' (record {
      schedule = ap (λ (k : KernelImage). k.schedule) alike.kernel;
      steps = refl;
      joint = ej;
    }) blind shapes in
    let last : veiled_joint (joint_after o.joint ts) ≡ veiled_joint (joint_after o'.joint ts') =
    sym (joint_of_turns o.joint ts)
    ∙ (ap (λ (x : Joint). joint_after x (map veiled_turn ts)) ej
    ∙ (ap (λ (xs : List Turn). joint_after (veiled_joint o'.joint) xs) same ∙ joint_of_turns o'.joint ts')) in
    let ended : veiled_edge (closing (joint_after o.joint ts)) ≡ veiled_edge (closing (joint_after o'.joint ts')) =
    blind_closings_agree (joint_after o.joint ts) (joint_after o'.joint ts') last (subst IsBlind (sym (turns_seal budget m)) blind) in
    sym (told_veiled o ts (closing (joint_after o.joint ts)))
    ∙ (ap (λ (x : RunEdge). told_of x (map veiled_turn ts) (veiled_edge (closing (joint_after o.joint ts)))) e
    ∙ (ap (λ (xs : List Turn). told_of (veiled_edge o') xs (veiled_edge (closing (joint_after o.joint ts)))) same
    ∙ (ap (λ (x : RunEdge). told_of (veiled_edge o') (map veiled_turn ts') x) ended
    ∙ told_veiled o' ts' (closing (joint_after o'.joint ts')))))

by_edges : (seal : Sealing) (b b' : Bundle) (budget : ℕ) (r r' : Result RunEdge Lack) → IsBlind seal →
    ImagesAreAlike b b' → EdgesAreOne seal r r' →
    ((o o' : RunEdge) → r ≡ Ok o → r' ≡ Ok o' → HaveOneShape budget (first_moment b o.joint) (first_moment b' o'.joint)) →
    public_of (result_map_both (run_of b budget) (λ lack. lack) r) ≡ public_of (result_map_both (run_of b' budget) (λ lack. lack) r')
by_edges seal b b' budget (Ok o) (Ok o') blind alike one shapes =
    ap (λ (r : PublicRun). Ok r) (whole_agrees b b' budget o o' alike one.0 (subst IsBlind (sym one.1) blind) (shapes o o' refl refl))
by_edges seal b b' budget (Err lack) (Err lack') blind alike one shapes = ap (λ (x : Lack). Err x) one
by_edges seal b b' budget (Ok o) (Err lack) blind alike one shapes = absurd one
by_edges seal b b' budget (Err lack) (Ok o) blind alike one shapes = absurd one

pub blind_runs_are_one : BlindRunsAreOne
blind_runs_are_one seal blind b b' from from' budget alike on shapes =
    by_edges seal b b' budget (opening_under seal b from) (opening_under seal b' from') blind alike
    (opening_one seal blind b b' from from' alike on) shapes

pub padded_runs_are_one : PaddedRunsAreOne
padded_runs_are_one rows = blind_runs_are_one (Padded rows) (λ key key' iv bytes bytes'. refl)
