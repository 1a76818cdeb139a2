-- What a fork and an end do to the world never goes back, and what follows their questions follows them.
use Rattle.std.proofs.Common.{◌≡◌, ℕ, false, List, Option, Ok, refl, subst, sym}
use Rattle.cloak_model.specs.declared.answer.Answer.{Answer}
use Rattle.cloak_model.specs.declared.answer.Answer.TheVariants as told
use Rattle.cloak_model.specs.World.{World}
use Rattle.cloak_model.specs.Asking.{Follows, answered, then_ask}
use Rattle.cloak_model.specs.AskPages.{ask_clear}
use Rattle.std.specs.List.{list_any}
use Rattle.cloak_model.specs.Contexts.{Context, context_number, end_at}
use Rattle.cloak_model.specs.Resources.{Resources, drop_space}
use Rattle.cloak_base.specs.declared.names.CtxId.{CtxId}
use Rattle.cloak_model.specs.declared.inside.Forked.TheVariants.{Child}
use Rattle.cloak_model.specs.declared.inside.Ended.TheVariants.{SpaceGone}
use Rattle.cloak_model.specs.Fork.{Fork, Spaces, End, marked, copies, copy_each, forget_each, private_numbers, forked, fork_fits, fork, is_of_space, end_context}
use Rattle.cloak_model.specs.Script.{Script, Gives, played, ◌>>=◌}
use Rattle.cloak_model.proofs.ForkParts.{fork_cleared, fork_if, end_cleared, end_if}
use Rattle.cloak_model.proofs.Playing.{played_then}
use Rattle.cloak_model.proofs.ScriptLater.{later_played}
use Rattle.cloak_model.proofs.Following.{then_follows, follows_same}
use Rattle.cloaked_fork.specs.Left.{lowest}

module _ {S : Type 0} (stands_for : S → S → World → Type 0) (old mid new : S) (domain : ℕ) where
  -- a fork for which there is room
  pub fork_follows : (c : Context) (r : Resources) (contexts : List (Option Context)) (settled : Answer) (made : Fork) → fork_fits c.space r contexts ≡ Ok tt →
      Follows stands_for old mid settled (ask_clear domain (marked c.space r)) → Follows stands_for mid new made (played (fork_cleared domain c (lowest contexts) (lowest r.spaces) r contexts settled)) → Follows stands_for old new made (played (fork domain c r contexts))
  unfolding fork
  fork_follows c r contexts settled made fits clears goes_on =
      subst (λ f. Follows stands_for old new made (played (fork_if f domain c r contexts))) (sym fits)
      (then_follows stands_for old mid new settled made (ask_clear domain (marked c.space r)) (λ a. played (fork_cleared domain c (lowest contexts) (lowest r.spaces) r contexts a)) (λ a w. later_played (fork_cleared domain c (lowest contexts) (lowest r.spaces) r contexts a) w) clears goes_on)

  -- the end of a space's last context
  pub end_follows : (slot space : ℕ) (r : Resources) (contexts : List (Option Context)) (settled : Answer) (made : End) → list_any (is_of_space space) (end_at slot contexts) ≡ false →
      Follows stands_for old mid settled (ask_clear domain (marked space r)) → Follows stands_for mid new made (played (end_cleared domain slot space r contexts settled)) → Follows stands_for old new made (played (end_context domain slot space r contexts))
  unfolding end_context
  end_follows slot space r contexts settled made none clears goes_on =
      subst (λ b. Follows stands_for old new made (played (end_if b domain slot space r contexts))) (sym none)
      (then_follows stands_for old mid new settled made (ask_clear domain (marked space r)) (λ a. played (end_cleared domain slot space r contexts a)) (λ a w. later_played (end_cleared domain slot space r contexts a) w) clears goes_on)

-- a context, by its number, and a space were made
abbrev made_both : CtxId → Spaces → Fork
made_both n s = record { answer = Child n; spaces = s }

-- what follows changes follows them and an end
pub changes_follow : {S A : Type 0} (stands_for : S → S → World → Type 0) (old new : S) (changes : Script (Unit {0})) (a b : A) → b ≡ a →
    Follows stands_for old new tt (played changes) → Follows stands_for old new b (played (changes >>= (λ done. Gives a)))
changes_follow stands_for old new changes a b is follows =
    follows_same stands_for old new b _ (then_ask (played changes) (λ done. answered a)) (played_then changes (λ done. Gives a))
    (λ first w stands unclashed. record { answer = is; stands = (follows first w stands unclashed).stands })

-- a fork goes on by copying, if the frames were settled
pub fork_goes_on : {S : Type 0} (stands_for : S → S → World → Type 0) (old new : S) (domain : ℕ) (c : Context) (slot space : ℕ) (r : Resources) (contexts : List (Option Context)) (settled : Answer) (n : CtxId) (s : Spaces) →
    settled ≡ told.Ok → n ≡ record { 0 = context_number domain slot } → s ≡ forked c slot space r contexts →
    Follows stands_for old new tt (played (copy_each domain (copies c.space r))) → Follows stands_for old new (made_both n s) (played (fork_cleared domain c slot space r contexts settled))
fork_goes_on stands_for old new domain c slot space r contexts settled n s ok number spaces follows =
    let made : Fork = made_both (record { 0 = context_number domain slot }) (forked c slot space r contexts) in
    let is : made_both n s ≡ made = rw (number, spaces) refl in
    subst (λ x. Follows stands_for old new (made_both n s) (played (fork_cleared domain c slot space r contexts x))) (sym ok)
    (changes_follow stands_for old new (copy_each domain (copies c.space r)) made (made_both n s) is follows)

-- an end goes on by forgetting, if the frames were settled
pub end_goes_on : {S : Type 0} (stands_for : S → S → World → Type 0) (old new : S) (domain slot space : ℕ) (r : Resources) (contexts : List (Option Context)) (settled : Answer) (made : End) →
    settled ≡ told.Ok → made ≡ record { ending = SpaceGone space; spaces = record { contexts = end_at slot contexts; resources = drop_space space r } } →
    Follows stands_for old new tt (played (forget_each domain (private_numbers space r))) → Follows stands_for old new made (played (end_cleared domain slot space r contexts settled))
end_goes_on stands_for old new domain slot space r contexts settled made ok is follows =
    subst (λ x. Follows stands_for old new made (played (end_cleared domain slot space r contexts x))) (sym ok)
    (changes_follow stands_for old new (forget_each domain (private_numbers space r)) _ made is follows)
