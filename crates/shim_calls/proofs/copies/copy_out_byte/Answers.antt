use Rattle.std.proofs.Common.{ℕ, ◌≡◌, subst}
use Rattle.cloak_model.specs.World.{World, HasPage}
use Rattle.cloak_model.specs.Asking.{Asking, FollowsWhere}
use Rattle.cloak_model.specs.AskPages.{ask_get}
use Rattle.cloak_model.specs.Calls as spec
use Rattle.cloak_model.proofs.CallParts as call_parts
use Rattle.cloak_model.proofs.CallParts.{out_placed}
use Rattle.cloak_model.proofs.Following.{then_follows_where, follows_where}
use Rattle.cloak_model.proofs.PagesLater.{HasPage-get}
use Rattle.cloak_model.proofs.ScriptLater.{later_played}
use Rattle.cloak_model.specs.Script.{played}
use Rattle.shim_calls.proofs.copies.copy_out_byte.Goals as goal

-- what follows a question at an address follows it at one that is the same
follows_at : {S A : Type 0} (premise : World → Type 0) (stands_for : S → S → World → Type 0) (old new : S) (a : A) (ask : ℕ → Asking A) {at same : ℕ} → at ≡ same → FollowsWhere premise stands_for old new a (ask at) → FollowsWhere premise stands_for old new a (ask same)
follows_at premise stands_for old new a ask is follows =
    subst (λ address. FollowsWhere premise stands_for old new a (ask address)) is follows

pub returns-in-Word-clause-follows : goal.returns-in-Word-clause-follows
returns-in-Word-clause-follows g c =
    let lies = HasPage (spec.byte_address (spec.buffer c.args.c.now) c.args.done) c.args.q in
    let got = follows_at lies g.M.PageSide.stands_for _ _ _ (λ address. ask_get address 1) c.requires.from (follows_where lies _ _ _ _ _ c.in-Word.ensures.follows) in
    then_follows_where lies lies g.M.PageSide.stands_for _ _ _ _ _ (ask_get (spec.byte_address (spec.area c.args.c.now) c.args.done) 1) (λ a. played (call_parts.out_got c.args.c.now c.args.q c.args.done c.args.total a))
    (λ w has. HasPage-get _ _ _ _ w has) (λ x w. later_played (call_parts.out_got c.args.c.now c.args.q c.args.done c.args.total x) w) got c.store_byte.ensures.follows
