-- One instruction of a context, up to its hypercall, and one copying step ask for pages of the context's space alone,
-- for two at most, and store in a page only after they reached it for a store. What each change of a world does so, they
-- do.
use Rattle.std.proofs.Common.{◌≡◌, ℕ, true, Option, Some, None, IfSome, subst, arith}
use Rattle.cloak_base.specs.declared.names.Kind.{Kind}
use Rattle.cloak_base.specs.declared.names.PageId.{PageId}
use Rattle.cloak_model.specs.declared.answer.Answer.TheVariants as told
use Rattle.cloak_model.specs.AskPages.{is_store, ask_reach, ask_write}
use Rattle.cloak_model.specs.Calls.{copy_in_step, copy_out_step}
use Rattle.cloak_model.specs.Contexts.{Context}
use Rattle.cloak_model.specs.DomainState.{Domain}
use Rattle.cloak_model.specs.DomainStep.{domain_step}
use Rattle.cloak_model.specs.Hypercalls.{Hypercall, hypercall}
use Rattle.cloak_model.specs.InsideStep.{instruction_inside}
use Rattle.cloak_model.specs.Resources.{Resources, page_at}
use Rattle.cloak_model.specs.World.{World}
use Rattle.cloak_model.specs.Script.{played}
use Rattle.script_fold.proofs.Walks as walks
use Rattle.frozen_law.proofs.Questions.{Kept, reach_keeps, get_keeps, put_keeps}

-- all pages of a space of a domain are of this kind
abbrev pub AreOf : (PageId → Type 0) → ℕ → Resources → ℕ → Type 0
AreOf P domain r space = (va : ℕ) → IfSome (page_at domain r space va) P

-- a page of any kind
abbrev pub AnyPage : PageId → Type 0
AnyPage q = Unit {0}

any_some : (o : Option PageId) → IfSome o AnyPage
any_some None = tt
any_some (Some q) = tt

pub any_page : (domain : ℕ) (r : Resources) (space : ℕ) → AreOf AnyPage domain r space
any_page domain r space va = any_some (page_at domain r space va)

-- a page is stored in that was just reached for a store
abbrev pub Stores : (PageId → Type 0) → (ℕ → World → World → Type 0) → Type 0
Stores P R =
    (q : PageId) → P q → (va : ℕ) (kind : Kind) (at width value : ℕ) (w : World) → is_store kind ≡ true →
    (ask_reach q va kind w).answer ≡ told.Ok → R 1 w (ask_write q at width value (ask_reach q va kind w).world).world

module _ (P : PageId → Type 0) (R : ℕ → World → World → Type 0) (k : Kept P R) (stores : Stores P R) where
  abbrev There : PageId → ℕ → Type 0
  There q va = P q

  walked : walks.Walked There 0 R
  walked = record {
    same = k.same;
    chained = k.chained;
    wider = k.wider;
    few = omega arith;
    reach = λ q va own kind w. reach_keeps P R k q own va kind w;
    get = get_keeps P R k;
    put = put_keeps P R k;
    store = λ q va own kind at width value w is ok. stores q own va kind at width value w is ok;
  }

  are_there : (domain : ℕ) (r : Resources) (space : ℕ) → AreOf P domain r space → walks.AreOf There domain r space
  are_there domain r space all va q is = subst (λ (place : Option PageId). IfSome place P) is (all va)

  pub instruction_keeps : (domain : ℕ) (r : Resources) (c : Context) (w : World) → AreOf P domain r c.space →
      R 2 w (played (instruction_inside domain r c) w).world
  instruction_keeps domain r c w all =
      walks.instruction_walks There 0 R walked domain r c w (are_there domain r c.space all)

  pub copy_in_keeps : (domain : ℕ) (r : Resources) (c : Context) (done : ℕ) (w : World) → AreOf P domain r c.space →
      R 1 w (played (copy_in_step domain r c done) w).world
  copy_in_keeps domain r c done w all =
      walks.copy_in_walks There 0 R walked domain r c done w (are_there domain r c.space all)

  pub copy_out_keeps : (domain : ℕ) (r : Resources) (c : Context) (done total : ℕ) (w : World) →
      AreOf P domain r c.space → R 1 w (played (copy_out_step domain r c done total) w).world
  copy_out_keeps domain r c done total w all =
      walks.copy_out_walks There 0 R walked domain r c done total w (are_there domain r c.space all)

-- A step, if its hypercall does so, and the pages of every space are of the kind.

module _ (P : PageId → Type 0) (R : ℕ → World → World → Type 0) (k : Kept P R) (stores : Stores P R) (d : Domain)
    (own : (space : ℕ) → AreOf P d.control.number d.control.resources space)
    (calls : (h : Hypercall) (slot : ℕ) (c : Context) (w : World) →
    R 0 w (played (hypercall h slot c d.control) w).world)
  where
    pub step_keeps : (slot : ℕ) (w : World) → R 2 w (domain_step slot d w).world
    step_keeps slot w =
        walks.step_walks (There P R k stores) 0 R (walked P R k stores) d calls slot w
        (λ c is. are_there P R k stores d.control.number d.control.resources c.space (own c.space))
