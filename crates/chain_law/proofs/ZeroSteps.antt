-- Fresh pages stay zeros over each step of a program.
use Rattle.std.proofs.Common.{◌≡◌, ℕ, Bool, true, false, List, [], ◌∷◌, zip, Option, Result, Ok, Err, refl, sym, subst, zero-add, arith}
use Rattle.std.specs.Prelude.{All, slice_index_or}
use Rattle.std.specs.List.{list_any}
use Rattle.std.proofs.lemmas.Bool.{cond_both}
use Rattle.std.proofs.lemmas.List.Elements.{All-head, All-tail}
use Rattle.cloak_model.specs.declared.answer.Answer.{Answer}
use Rattle.cloak_model.specs.declared.answer.Answer.TheVariants as told
use Rattle.cloak_model.specs.declared.resource.MapFault.{MapFault}
use Rattle.cloak_model.specs.AskPages.{ask_clear, ask_copy}
use Rattle.cloak_model.specs.Contexts.{Context, end_at}
use Rattle.cloak_model.specs.DomainState.{Control, Domain}
use Rattle.cloak_model.specs.DomainStep.{domain_step}
use Rattle.cloak_model.specs.Fork.{Spaces, Fork, End, marked, private_numbers, free_numbers, copies, fork_fits, copy_each, or_full, if_cleared, fork, is_of_space, forget_each, end_context}
use Rattle.cloak_model.specs.Hypercalls.{Hypercall, ForkSpace, Exit, hypercall, fork_call, exit_call}
use Rattle.cloak_model.specs.Resources.{Resources, is_private_to}
use Rattle.cloak_model.specs.World.{World}
use Rattle.cloak_model.specs.Script.{Script, played}
use Rattle.cloak_model.proofs.Playing.{plays_both}
use Rattle.resource_map.proofs.Places.{All-places, places-map}
use Rattle.script_fold.proofs.Endings.{keeps_forgets}
use Rattle.script_fold.proofs.Walks.{Walked, step_walks}
use Rattle.chain_law.proofs.ZeroWorlds.{KnowsIn, places_of, Learns, learns_same, learns_then, reach_learns, reach_hand, get_learns, put_learns, write_learns, MarkedClear, clear_learns, clear_clears, copy_learns, copy_owes, forget_learns}

-- Forks and ends.

abbrev pub IsMarked : List Bool → ℕ → Type 0
IsMarked marks n = slice_index_or marks n false ≡ true

pub private_marked : (space : ℕ) (r : Resources) → All (IsMarked (marked space r)) (private_numbers space r)
private_marked space r =
    subst (λ (numbers : List ℕ). All (IsMarked (marked space r)) numbers) (places-map (is_private_to space) 0 r.held)
    (All-places (λ (mark : Bool). mark) (IsMarked (marked space r)) false 0 (marked space r)
    (λ i low pass. subst (IsMarked (marked space r)) (sym (zero-add i)) pass))

copies_learn : (domain : ℕ) (marks : List Bool) (numbers free : List ℕ) (w : World) → All (IsMarked marks) numbers →
    MarkedClear domain marks w → Learns w (played (copy_each domain (zip numbers free)) w).world
unfolding copy_each
copies_learn domain marks [] free w all clear = learns_same w
copies_learn domain marks (n ∷ numbers) [] w all clear = learns_same w
copies_learn domain marks (n ∷ numbers) (to ∷ free) w all clear =
    learns_then _ _ _ (copy_learns domain n to w (clear n (All-head (IsMarked marks) n numbers all)))
    (copies_learn domain marks numbers free (ask_copy domain n to w).world (All-tail (IsMarked marks) n numbers all)
    (λ resource is. copy_owes domain n to w resource (clear resource is)))

-- goes on once the frames are settled
cleared_learns : {A : Type 0} (domain : ℕ) (marks : List Bool) (stopped : A) (next : Script A) (w : World) →
    let t = ask_clear domain marks w in
    ((knows : KnowsIn w) → t.answer ≡ told.Ok → KnowsIn t.world → KnowsIn (played next t.world).world) →
    Learns w (played (if_cleared t.answer stopped next) t.world).world
cleared_learns domain marks stopped next w more = by (ask_clear domain marks w).answer refl
  where
    by : (a : Answer) → (ask_clear domain marks w).answer ≡ a →
        Learns w (played (if_cleared a stopped next) (ask_clear domain marks w).world).world
    by told.Ok is = record { by = λ knows. more knows is ((clear_learns domain marks w).by knows) }
    by _ is = clear_learns domain marks w

full_learns : (fits : Result (Unit {0}) MapFault) (unchanged : Spaces) (next : Script Fork) (w : World) →
    Learns w (played next w).world → Learns w (played (or_full fits unchanged next) w).world
full_learns (Err fault) unchanged next w more = learns_same w
full_learns (Ok fits) unchanged next w more = more

fork_learns : (domain : ℕ) (c : Context) (r : Resources) (contexts : List (Option Context)) (w : World) →
    Learns w (played (fork domain c r contexts) w).world
unfolding fork
fork_learns domain c r contexts w =
    let v = (ask_clear domain (marked c.space r) w).world in
    full_learns (fork_fits c.space r contexts) _ _ w (cleared_learns domain (marked c.space r) _ _ w (λ knows ok.
    (plays_both (λ t. Learns v t.world) (copy_each domain (copies c.space r)) _ v
    (copies_learn domain (marked c.space r) (private_numbers c.space r) (free_numbers r) v (private_marked c.space r)
    (clear_clears domain (marked c.space r) w (places_of w knows) ok))).by))

end_context_learns : (domain slot space : ℕ) (r : Resources) (contexts : List (Option Context)) (w : World) →
    Learns w (played (end_context domain slot space r contexts) w).world
unfolding end_context
end_context_learns domain slot space r contexts w =
    let v = (ask_clear domain (marked space r) w).world in
    cond_both (list_any (is_of_space space) (end_at slot contexts)) _ _
    (λ (s : Script End). Learns w (played s w).world) (λ is. learns_same w)
    (λ is. cleared_learns domain (marked space r) _ _ w (λ knows ok.
    (plays_both (λ t. Learns v t.world) (forget_each domain (private_numbers space r)) _ v
    (keeps_forgets Learns learns_same learns_then forget_learns domain (private_numbers space r) v)).by))

hypercall_learns : (h : Hypercall) (slot : ℕ) (c : Context) (d : Control) (w : World) →
    Learns w (played (hypercall h slot c d) w).world
unfolding hypercall fork_call exit_call
hypercall_learns ForkSpace slot c d w =
    plays_both (λ t. Learns w t.world) (fork d.number c d.resources d.contexts) _ w (fork_learns _ c _ _ w)
hypercall_learns Exit slot c d w =
    plays_both (λ t. Learns w t.world) (end_context d.number slot c.space d.resources d.contexts) _ w
    (end_context_learns _ slot _ _ _ w)
hypercall_learns _ slot c d w = learns_same w

-- The step.

learns_walked : Walked (λ q va. Unit {0}) 0 (λ n w v. Learns w v)
learns_walked = record {
  same = learns_same;
  chained = λ a b u v w first second. learns_then u v w first second;
  wider = λ a b w v low learns. learns;
  few = omega arith;
  reach = λ q va own kind w. reach_learns q va kind w;
  get = get_learns;
  put = put_learns;
  store = λ q va own kind at width value w is ok. record {
    by = λ knows.
        (write_learns q at width value _ (λ after. reach_hand q va kind w knows ok)).by
        ((reach_learns q va kind w).by knows);
  };
}

pub step_learns : (slot : ℕ) (d : Domain) (w : World) → Learns w (domain_step slot d w).world
step_learns slot d w =
    step_walks (λ q va. Unit {0}) 0 (λ n w v. Learns w v) learns_walked d
    (λ h slot' c v. hypercall_learns h slot' c d.control v) slot w
    (λ c is va q lies. tt)
