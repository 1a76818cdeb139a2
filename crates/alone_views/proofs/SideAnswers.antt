-- The next of the answers that are left.
use Rattle.std.proofs.Common.{◌≡◌, refl, ap, sym, subst, ◌∙◌, ℕ, Bool, true, false, List, Option, Some, None}
use Rattle.cloak_model.specs.declared.answer.Answer.{Answer}
use Rattle.cloak_model.specs.declared.answer.Answer.TheVariants as answer
use Rattle.cloak_model.specs.World.{Alone, Handed}
use Rattle.cloak_model.specs.Asking.{FollowsFrom}
use Rattle.cloak_model.specs.AskPages.{next_answer, unfit}
use Rattle.alone_views.specs.DomainPages.{HasPlain}
use Rattle.alone_views.specs.Side.{StandsForHanded, IsAloneNow, one_answer, answers_in}
use Rattle.alone_views.specs.declared.side.HandedSide.{HandedSide}

-- no answer is left
pub next_answer-none : (is_fit : Answer → Bool) (first second : Option Answer) (h : Handed) → answers_in first second ≡ h.answers → first ≡ None →
    next_answer is_fit h.answers h ≡ unfit h
unfolding next_answer
next_answer-none is_fit None second h left none = rw (← left) refl
next_answer-none is_fit (Some a) second h left none = cc

-- the next answer is fit
pub next_answer-fit : (is_fit : Answer → Bool) (second : Option Answer) (h : Handed) (a : Answer) → answers_in (Some a) second ≡ h.answers → is_fit a ≡ true →
    next_answer is_fit h.answers h ≡ record { answer = a; world = Alone (record h { answers = one_answer second }) }
unfolding next_answer
next_answer-fit is_fit second h a left fit = rw (← left, fit) refl

-- the next answer is not
pub next_answer-unfit : (is_fit : Answer → Bool) (second : Option Answer) (h : Handed) (a : Answer) → answers_in (Some a) second ≡ h.answers → is_fit a ≡ false →
    next_answer is_fit h.answers h ≡ unfit h
unfolding next_answer
next_answer-unfit is_fit second h a left not_fit = rw (← left, not_fit) refl

-- the second answer is the next after the first
pub answers_in-taken : (second : Option Answer) → answers_in second None ≡ one_answer second
answers_in-taken None = refl
answers_in-taken (Some a) = refl

-- What a side answers from its next answer.

lacking : (side now : HandedSide) (h : Handed) → now ≡ record side { unfit = true } → StandsForHanded side h → StandsForHanded now (record h { unfit = true })
lacking side now h is stands =
    subst (λ (x : HandedSide). StandsForHanded x (record h { unfit = true })) (sym is) (record { pages = stands.pages; answers = stands.answers; unfit = refl })

pub follows_none : (is_fit : Answer → Bool) (side now : HandedSide) (given : Answer) (h : Handed) → side.first ≡ None → given ≡ answer.Stopped → now ≡ record side { unfit = true } → StandsForHanded side h →
    FollowsFrom IsAloneNow now given (next_answer is_fit h.answers h)
follows_none is_fit side now given h none stopped is stands =
    rw (next_answer-none is_fit side.first side.second h stands.answers none) (record { answer = stopped; stands = lacking side now h is stands })

pub follows_unfit : (is_fit : Answer → Bool) (side now : HandedSide) (a given : Answer) (h : Handed) → side.first ≡ Some a → is_fit a ≡ false → given ≡ answer.Stopped → now ≡ record side { unfit = true } → StandsForHanded side h →
    FollowsFrom IsAloneNow now given (next_answer is_fit h.answers h)
follows_unfit is_fit side now a given h first not_fit stopped is stands =
    let left : answers_in (Some a) side.second ≡ h.answers = ap (λ (o : Option Answer). answers_in o side.second) (sym first) ∙ stands.answers in
    rw (next_answer-unfit is_fit side.second h a left not_fit) (record { answer = stopped; stands = lacking side now h is stands })

pub follows_fit : (is_fit : Answer → Bool) (side now : HandedSide) (a : Answer) (h : Handed) → side.first ≡ Some a → is_fit a ≡ true →
    now.pages ≡ side.pages → now.first ≡ side.second → now.second ≡ None → now.unfit ≡ side.unfit → StandsForHanded side h →
    FollowsFrom IsAloneNow now a (next_answer is_fit h.answers h)
follows_fit is_fit side now a h first fit pages next last unfit stands =
    let left : answers_in (Some a) side.second ≡ h.answers = ap (λ (o : Option Answer). answers_in o side.second) (sym first) ∙ stands.answers in
    let rest : answers_in now.first now.second ≡ one_answer side.second =
    ap (λ (o : Option Answer). answers_in o now.second) next ∙ ap (λ (o : Option Answer). answers_in side.second o) last ∙ answers_in-taken side.second in
    rw (next_answer-fit is_fit side.second h a left fit) (record {
      answer = refl;
      stands = record {
        pages = subst (λ (x : List (List ℕ)). HasPlain x h.plain) (sym pages) stands.pages;
        answers = rest;
        unfit = unfit ∙ stands.unfit;
      };
    })
