-- Hypercalls that ask for a clearing.
use Rattle.std.proofs.Common.{◌≡◌, ◌∙◌, ℕ, Bool, true, false, cond, List, Option, Some, None, Result, Ok, Err, refl, ap, sym, subst}
use Rattle.std.specs.Prelude.{◌≢◌, ◌↔◌, ◌&&◌, IsSome, IfSome, is_some, unwrap_or}
use Rattle.std.proofs.lemmas.Bool.{false≢true}
use Rattle.cloak_base.specs.declared.names.CtxId.{CtxId}
use Rattle.cloak_model.specs.declared.resource.MapFault.{MapFault}
use Rattle.cloak_model.specs.declared.resource.MapFault.TheVariants.{Full}
use Rattle.cloak_model.specs.Contexts.{Context, context_at, new_context}
use Rattle.cloak_model.specs.declared.inside.Ended.{Ended}
use Rattle.cloak_model.specs.declared.inside.Went.{Went}
use Rattle.cloak_model.specs.declared.inside.Went.TheVariants as went
use Rattle.cloak_model.specs.Hypercalls.{Stepped, answers_word, with_spaces, fork_call, fork_told, exit_call}
use Rattle.cloak_model.specs.Hypercalls as hypercalls
use Rattle.cloak_model.specs.Resources.{Resources, first_free}
use Rattle.cloak_model.specs.DomainState.{Control}
use Rattle.cloak_model.specs.Fork.{Spaces, fork, fork_fits, end_context}
use Rattle.cloak_model.specs.Fork as forking
use Rattle.cloaked_fork.specs.Left.{spaces, forked_spaces, lowest, made_fork, ending}
use Rattle.hypercalls.specs.Slots.{context_of}
use Rattle.hypercalls.proofs.Stepping.{other_place}
use Rattle.cloak_model.specs.World.{World, is_clashed}
use Rattle.cloak_model.specs.Asking.{answered, then_ask, Follows, FollowsFrom}
use Rattle.cloak_model.specs.Script.{Script, Gives, played, ◌>>=◌}
use Rattle.cloak_model.proofs.Following.{follows_same}
use Rattle.cloak_model.proofs.Playing.{played_then}
use Rattle.cloak_model.specs.declared.inside.Forked.{Forked}
use Rattle.cloak_model.specs.declared.inside.Forked.TheVariants.{Child, Refused, Stopped}

-- what a question tells is made something of
pub told_follows : {S A B : Type 0} (stands_for : S → S → World → Type 0) (old new : S) (a : A) (ask : Script A) (f : A → B) → Follows stands_for old new a (played ask) → Follows stands_for old new (f a) (played (ask >>= (λ x. Gives (f x))))
told_follows stands_for old new a ask f follows =
    follows_same stands_for old new (f a) _ (then_ask (played ask) (λ x. answered (f x))) (played_then ask (λ x. Gives (f x)))
    (λ first w stands unclashed.
    let told = follows first w stands unclashed in record { answer = ap f told.answer; stands = told.stands })

-- a context of a slot that is in use
one_there : (P : Context → Type 0) (o : Option Context) (other : Context) → IsSome o → IfSome o P → P (unwrap_or o other)
one_there P None other used holds = absurd (false≢true used)
one_there P (Some x) other used holds = holds

-- If there is room for a fork, a slot is free.

found : (o : Option ℕ) (other : ℕ) → is_some o ≡ true → o ≡ Some (unwrap_or o other)
found None other there = absurd (false≢true there)
found (Some n) other there = refl

first_of : (a b : Bool) → a && b ≡ true → a ≡ true
first_of true b both = refl
first_of false b both = both

no_room : Result (Unit {0}) MapFault
no_room = Err Full

room : (b : Bool) → cond b (Ok tt) no_room ≢ no_room → b ≡ true
unfolding no_room
room true fits = refl
room false fits = absurd (fits refl)

free_slot : (space : ℕ) (r : Resources) (contexts : List (Option Context)) → fork_fits space r contexts ≢ Err Full → first_free contexts ≡ Some (lowest contexts)
unfolding forking.fork_fits no_room
free_slot space r contexts fits = found (first_free contexts) 0 (first_of _ _ (room _ fits))

module _ (d : Control) (contexts : List (Option Context)) (r : Resources) (slot : ℕ) (result : Forked) (ctx : CtxId) (is : result ≡ Child ctx)
    (used : IsSome (context_at d.contexts slot))
    (forked : IfSome (context_at d.contexts slot) (λ x. (n : CtxId) → result ≡ Child n → spaces contexts r ≡ forked_spaces x d.resources d.contexts))
    (full : IfSome (context_at d.contexts slot) (λ x. (result ≡ Refused Full) ↔ (fork_fits x.space d.resources d.contexts ≡ Err Full))) where
  -- the caller's space was copied
  pub copied : spaces contexts r ≡ forked_spaces (context_of d slot) d.resources d.contexts
  copied = one_there (λ x. (n : CtxId) → result ≡ Child n → spaces contexts r ≡ forked_spaces x d.resources d.contexts) (context_at d.contexts slot) _ used forked ctx is

  not_full : result ≢ Refused Full
  not_full bad = cc

  -- and the caller stays in its slot
  pub stays_there : context_at contexts slot ≡ context_at d.contexts slot
  unfolding forking.forked
  stays_there =
      ap (λ (s : Spaces). context_at s.contexts slot) copied
      ∙ other_place d.contexts (lowest d.contexts) slot _
      (free_slot (context_of d slot).space d.resources d.contexts
      (λ bad. not_full ((one_there (λ x. (result ≡ Refused Full) ↔ (fork_fits x.space d.resources d.contexts ≡ Err Full)) (context_at d.contexts slot) _ used full).1 bad)))
      used

  -- and what the caller is told follows the fork
  pub fork_follows : {S : Type 0} (stands_for : S → S → World → Type 0) (old new : S) (after : Control) (gone : Went)
      → record { control = after; went = gone } ≡ answers_word slot (context_of (with_spaces (spaces contexts r) d) slot) ctx.0 (with_spaces (spaces contexts r) d)
      → IfSome (context_at d.contexts slot) (λ x. Follows stands_for old new (made_fork result contexts r) (played (fork d.number x d.resources d.contexts)))
      → Follows stands_for old new (record { control = after; went = gone }) (played (fork_call slot (context_of d slot) d))
  unfolding hypercalls.fork_call hypercalls.fork_told
  fork_follows {S} stands_for old new after gone answers follows =
      let d' : Control = with_spaces (spaces contexts r) d in
      subst (λ (s : Stepped). Follows stands_for old new s (played (fork_call slot (context_of d slot) d)))
      (ap (λ (a : Forked). fork_told slot (context_of d slot) d a d') is
      ∙ ap (λ (o : Option Context). answers_word slot (unwrap_or o (new_context 0 0 0 0)) ctx.0 d') (sym stays_there)
      ∙ sym answers)
      (told_follows stands_for old new (made_fork result contexts r) (fork d.number (context_of d slot) d.resources d.contexts)
      (λ made. fork_told slot (context_of d slot) d made.answer (with_spaces made.spaces d))
      (one_there (λ x. Follows stands_for old new (made_fork result contexts r) (played (fork d.number x d.resources d.contexts))) (context_at d.contexts slot) _ used follows))

-- What the caller of a fork is told follows the fork, also if it was refused or the run stops.
module _ {S : Type 0} (stands_for : S → S → World → Type 0) (old new : S) (d : Control) (slot : ℕ) (contexts : List (Option Context)) (r : Resources) (used : IsSome (context_at d.contexts slot)) where
  told_as : (result : Forked)
      → IfSome (context_at d.contexts slot) (λ x. Follows stands_for old new (made_fork result contexts r) (played (fork d.number x d.resources d.contexts)))
      → Follows stands_for old new (fork_told slot (context_of d slot) d result (with_spaces (spaces contexts r) d)) (played (fork_call slot (context_of d slot) d))
  unfolding hypercalls.fork_call
  told_as result follows =
      told_follows stands_for old new (made_fork result contexts r) (fork d.number (context_of d slot) d.resources d.contexts)
      (λ made. fork_told slot (context_of d slot) d made.answer (with_spaces made.spaces d))
      (one_there (λ x. Follows stands_for old new (made_fork result contexts r) (played (fork d.number x d.resources d.contexts))) (context_at d.contexts slot) _ used follows)

  pub refused_follows : (result : Forked) (fault : MapFault) (s : Stepped) → result ≡ Refused fault → spaces contexts r ≡ spaces d.contexts d.resources
      → s ≡ answers_word slot (context_of (with_spaces (spaces contexts r) d) slot) (hypercalls.fault_word fault) (with_spaces (spaces contexts r) d)
      → IfSome (context_at d.contexts slot) (λ x. Follows stands_for old new (made_fork result contexts r) (played (fork d.number x d.resources d.contexts)))
      → Follows stands_for old new s (played (fork_call slot (context_of d slot) d))
  unfolding hypercalls.fork_told
  refused_follows result fault s is same answers follows =
      subst (λ (x : Stepped). Follows stands_for old new x (played (fork_call slot (context_of d slot) d)))
      (ap (λ (a : Forked). fork_told slot (context_of d slot) d a (with_spaces (spaces contexts r) d)) is
      ∙ ap (λ (x : Spaces). answers_word slot (context_of (with_spaces x d) slot) (hypercalls.fault_word fault) (with_spaces x d)) (sym same)
      ∙ sym answers) (told_as result follows)

  pub stopped_follows : (result : Forked) → result ≡ Stopped → spaces contexts r ≡ spaces d.contexts d.resources
      → IfSome (context_at d.contexts slot) (λ x. Follows stands_for old new (made_fork result contexts r) (played (fork d.number x d.resources d.contexts)))
      → Follows stands_for old new (record { control = with_spaces (spaces contexts r) d; went = went.Stopped }) (played (fork_call slot (context_of d slot) d))
  unfolding hypercalls.fork_told
  stopped_follows result is same follows =
      subst (λ (x : Stepped). Follows stands_for old new x (played (fork_call slot (context_of d slot) d)))
      (ap (λ (a : Forked). fork_told slot (context_of d slot) d a (with_spaces (spaces contexts r) d)) is
      ∙ ap (λ (x : Spaces). let left : Stepped = record { control = with_spaces x d; went = went.Stopped } in left) (sym same))
      (told_as result follows)

  -- What a context shows that ends follows its end.
  pub end_follows : (result : Ended) (s : Stepped) → hypercalls.end_told slot (context_of d slot) d result (with_spaces (spaces contexts r) d) ≡ s
      → IfSome (context_at d.contexts slot) (λ x. Follows stands_for old new (ending result contexts r) (played (end_context d.number slot x.space d.resources d.contexts)))
      → Follows stands_for old new s (played (exit_call slot (context_of d slot) d))
  unfolding hypercalls.exit_call
  end_follows result s is follows =
      subst (λ (x : Stepped). Follows stands_for old new x (played (exit_call slot (context_of d slot) d))) is
      (told_follows stands_for old new (ending result contexts r) (end_context d.number slot (context_of d slot).space d.resources d.contexts)
      (λ made. hypercalls.end_told slot (context_of d slot) d made.ending (with_spaces made.spaces d))
      (one_there (λ x. Follows stands_for old new (ending result contexts r) (played (end_context d.number slot x.space d.resources d.contexts))) (context_at d.contexts slot) _ used follows))
