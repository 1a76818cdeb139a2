-- Steps one after another, and the closing, after any past.
use Rattle.std.proofs.Common.{◌≡◌, ◌∙◌, ℕ, zero, suc, List, [], ◌∷◌, ◌++◌, map, slice_get, Option, Some, None, refl, sym, ap}
use Rattle.std.proofs.lemmas.List.{append-nil}
use Rattle.cloak_base.specs.declared.causes.Stop.{Stop}
use Rattle.cloak_model.specs.DomainState.{Domain}
use Rattle.cloak_model.specs.Joint.{Moment, Turn, joint_step, after_turn, stop_of}
use Rattle.cloak_model.specs.Parts.{Joint}
use Rattle.cloak_model.specs.Run.{unless_stopped, turns_from, joint_after, last_stop, turn_pieces, turns_pieces, closing}
use Rattle.frozen_state.specs.Continuing.{without_loads, without_past}
use Rattle.thaw_law.specs.Past.{PastLoads, with_loads, with_past, moment_with_past, turn_with_past, moment_without_past, loads_of, IsAfter, StepsKeepPast, RunsKeepPast, ClosingKeepsPast, RunsNeedNoPast}
use Rattle.thaw_law.proofs.Programs.{get_with_loads}
use Rattle.thaw_law.proofs.Steps.{step_after}

pub steps_keep_past : StepsKeepPast
steps_keep_past console loads m = step_after console loads m

module _ (console : List ℕ) (loads : List PastLoads) where
  abbrev moment_after_past : Moment → Moment
  moment_after_past m = moment_with_past console loads m

  abbrev turn_after_past : Turn → Turn
  turn_after_past t = turn_with_past console loads t

  rest_after : (stop : Option Stop) (n : ℕ) (m : Moment) →
      turns_from n (moment_after_past m) ≡ map turn_after_past (turns_from n m) →
      unless_stopped stop (turns_from n) (moment_after_past m)
      ≡ map turn_after_past (unless_stopped stop (turns_from n) m)
  rest_after (Some cause) n m rest = refl
  rest_after None n m rest = rest

  turns_after : (n : ℕ) (m : Moment) → turns_from n (moment_after_past m) ≡ map turn_after_past (turns_from n m)
  unfolding turns_from
  turns_after zero m = refl
  turns_after (suc n) m =
      let t = joint_step m in
      ap (λ (x : Turn). x ∷ unless_stopped (stop_of x) (turns_from n) (after_turn (moment_after_past m) x))
      (step_after console loads m)
      ∙ ap (λ (rest : List Turn). turn_after_past t ∷ rest)
      (rest_after (stop_of t) n (after_turn m t) (turns_after n (after_turn m t)))

  -- the machine after them
  pub joint_after_past : (j : Joint) (turns : List Turn) →
      joint_after (with_past console loads j) (map turn_after_past turns)
      ≡ with_past console loads (joint_after j turns)
  unfolding joint_after
  joint_after_past j [] = refl
  joint_after_past j (t ∷ turns) = joint_after_past t.joint turns

  pub last_stop_after : (so_far : Option Stop) (turns : List Turn) →
      last_stop so_far (map turn_after_past turns) ≡ last_stop so_far turns
  unfolding last_stop
  last_stop_after so_far [] = refl
  last_stop_after so_far (t ∷ turns) = last_stop_after (stop_of t) turns

  pub pieces_after : (number : ℕ) (turns : List Turn) →
      turns_pieces number (map turn_after_past turns) ≡ turns_pieces number turns
  unfolding turns_pieces
  pieces_after number [] = refl
  pieces_after number (t ∷ turns) =
      ap (λ ps. turn_pieces number t ++ ps) (pieces_after (suc number) turns)

pub runs_keep_past : RunsKeepPast
runs_keep_past console loads n m = turns_after console loads n m

pub closing_keeps_past : ClosingKeepsPast
unfolding closing
closing_keeps_past console loads j = refl

-- The past put before what is left without it.

domains_restored : (domains : List Domain) →
    with_loads (map (λ (d : Domain). d.loads) domains) (map without_loads domains) ≡ domains
domains_restored [] = refl
domains_restored (d ∷ domains) =
    λ i. record d { loads = append-nil d.loads i } ∷ domains_restored domains i

pub restored : (j : Joint) → with_past j.console (loads_of j) (without_past j) ≡ j
restored j i = record j { console = append-nil j.console i; domains = domains_restored j.domains i }

-- what does not see the past is told of each step as it was
told_alike : {A : Type 0} (f : Turn → A) (console : List ℕ) (loads : List PastLoads) →
    ((t : Turn) → f (turn_with_past console loads t) ≡ f t) → (turns : List Turn) →
    map f (map (turn_with_past console loads) turns) ≡ map f turns
told_alike f console loads same [] = refl
told_alike f console loads same (t ∷ turns) = λ i. same t i ∷ told_alike f console loads same turns i

module _ (n : ℕ) (m : Moment) where
  abbrev later : List Turn
  later = turns_from n (moment_without_past m)

  abbrev with_past_again : Turn → Turn
  with_past_again t = turn_with_past m.joint.console (loads_of m.joint) t

  pub turns_restored : turns_from n m ≡ map with_past_again later
  turns_restored =
      ap (λ (j : Joint). turns_from n (record m { joint = j })) (sym (restored m.joint))
      ∙ turns_after m.joint.console (loads_of m.joint) n (moment_without_past m)

  joint_restored : joint_after m.joint (turns_from n m)
      ≡ with_past m.joint.console (loads_of m.joint) (joint_after (without_past m.joint) later)
  joint_restored =
      (λ i. joint_after (sym (restored m.joint) i) (turns_restored i))
      ∙ joint_after_past m.joint.console (loads_of m.joint) (without_past m.joint) later

  alike : {A : Type 0} (f : Turn → A) → ((t : Turn) → f (with_past_again t) ≡ f t) →
      map f (turns_from n m) ≡ map f later
  alike f same = ap (map f) turns_restored ∙ told_alike f m.joint.console (loads_of m.joint) same later

pub is_after : (before since whole : Joint) → whole ≡ with_past before.console (loads_of before) since →
    IsAfter before since whole
is_after before since whole is = record {
  console = ap (λ (j : Joint). j.console) is;
  programs = λ d. ap (λ (j : Joint). slice_get j.domains d) is ∙ get_with_loads (loads_of before) since.domains d;
  harts = ap (λ (j : Joint). j.harts) is;
  disk = ap (λ (j : Joint). j.disk) is;
  memory = ap (λ (j : Joint). j.memory) is;
  ended = ap (λ (j : Joint). j.ended) is;
  refused = ap (λ (j : Joint). j.refused) is;
}

pub runs_need_no_past : RunsNeedNoPast
runs_need_no_past n m = record {
  items = alike n m (λ (t : Turn). t.items) (λ t. refl);
  console = alike n m (λ (t : Turn). t.console) (λ t. refl);
  stops = alike n m stop_of (λ t. refl);
  joint = is_after m.joint (joint_after (without_past m.joint) (later n m)) (joint_after m.joint (turns_from n m))
      (joint_restored n m);
}
