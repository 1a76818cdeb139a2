-- When a side stands for a program's pages and the answers that are left of those that were handed in.
use Rattle.std.specs.Prelude.{ℕ, ◌≡◌, ◌<◌, Bool, List, [], ◌∷◌, Option, Some, None, if◌then◌else◌}
use Rattle.cloak_base.specs.declared.names.PageId.{PageId}
use Rattle.cloak_model.specs.declared.answer.Answer.{Answer}
use Rattle.cloak_model.specs.AskPages.{is_for_access, is_for_value, is_for_clearing}
use Rattle.cloak_model.specs.World.{World, Flat, Cloaked, Alone, Handed}
use Rattle.alone_views.specs.DomainPages.{HasPlain}
use Rattle.alone_views.specs.declared.side.HandedSide.{HandedSide}
use Rattle.alone_views.specs.declared.side.Handing.{Handing}
use Rattle.alone_views.specs.declared.side.Handing.TheVariants as handing
use Rattle.alone_views.specs.declared.side.QuestionKind.{QuestionKind}
use Rattle.alone_views.specs.declared.side.QuestionKind.TheVariants.{Access, Value, Clearing}

-- the answers that a question takes
abbrev pub is_fit : QuestionKind → Answer → Bool
is_fit Access a = is_for_access a
is_fit Value a = is_for_value a
is_fit Clearing a = is_for_clearing a

-- one answer or none
abbrev pub one_answer : Option Answer → List Answer
one_answer None = []
one_answer (Some a) = a ∷ []

-- a next answer, and the one after it
abbrev pub answers_in : Option Answer → Option Answer → List Answer
answers_in None second = []
answers_in (Some a) second = a ∷ one_answer second

-- the answers that are left
abbrev pub answers_of : HandedSide → List Answer
answers_of side = answers_in side.first side.second

-- how a step ended that has these answers left
abbrev pub handing_of : Bool → List Answer → Handing
handing_of unfit (a ∷ answers) = handing.Wrong
handing_of unfit [] = if unfit then handing.Wants else handing.Over

-- the page is one of the domain
pub record IsOwnPage (domain : ℕ) (q : PageId) : Type 0 where
  pub domain_is : q.domain ≡ domain
  pub resource : q.resource < 16
  pub page : q.page < 1024

pub record StandsForHanded (side : HandedSide) (h : Handed) : Type 0 where
  pub pages : HasPlain side.pages h.plain
  pub answers : answers_of side ≡ h.answers
  pub unfit : side.unfit ≡ h.unfit

abbrev pub IsAloneNow : HandedSide → World → Type 0
IsAloneNow side (Flat ram) = ⊥
IsAloneNow side (Cloaked c) = ⊥
IsAloneNow side (Alone h) = StandsForHanded side h

-- whatever it stood for earlier
abbrev pub IsAlone : HandedSide → HandedSide → World → Type 0
IsAlone first side w = IsAloneNow side w
