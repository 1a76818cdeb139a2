-- A page that is found in another frame is refused, at whatever question of a step.
use Rattle.std.proofs.Common.{◌≡◌, ℕ, Bool, true, false, cond, ◌++◌, refl, sym, subst}
use Rattle.std.proofs.lemmas.Bool.{false≢true}
use Rattle.cloak_base.specs.declared.names.Kind.{Kind}
use Rattle.cloak_base.specs.declared.names.PageId.{PageId}
use Rattle.cloak_model.specs.declared.access.Walked.{Walked}
use Rattle.cloak_model.specs.declared.answer.Answer.{Answer}
use Rattle.cloak_model.specs.AskPages.{replies, if_drawn, is_store, offer_events, offered_by, ask_offer, reached, reach_by_table, ask_reach}
use Rattle.cloak_model.specs.Asking.{Told}
use Rattle.cloak_model.specs.Cloaking.{CloakedMemory, offer}
use Rattle.cloak_base.specs.Constants.{frame_of}
use Rattle.cloak_model.specs.Walk.{Walk}
use Rattle.cloak_model.specs.World.{MidStep, Cloaked, cipher_items}
use Rattle.cause_law.specs.Causes.{QuestionIsRefused, PageIsRefused}
use Rattle.cause_law.proofs.Compared.{IsRefused, drawn_so, offer_refuses}

drawn_refuses : (q : PageId) (g : ℕ) (b : Bool) (t u : Told Answer) → b ≡ false → QuestionIsRefused q g u →
    QuestionIsRefused q g (cond b t u)
drawn_refuses q g true t u is refuses = absurd (false≢true (sym is))
drawn_refuses q g false t u is refuses = refuses

offered_refuses : (q : PageId) (va : ℕ) (kind : Kind) (walked : Walked) (c : MidStep) →
    let g = frame_of walked.pa in
    IsRefused (offer q g (is_store kind) c.memory) → QuestionIsRefused q g (ask_offer q va kind walked (Cloaked c))
unfolding ask_offer if_drawn offered_by replies
offered_refuses q va kind walked c refused =
    let g = frame_of walked.pa in
    let o = offer q g (is_store kind) c.memory in
    let c' : MidStep = record c {
      memory = o.memory;
      items = c.items ++ cipher_items o.ciphers;
      events = c.events ++ offer_events q g c.memory o.granted;
    } in
    drawn_refuses q g o.memory.ledger.missed _ _ refused.drawn
    (subst (λ (granted : Bool). QuestionIsRefused q g (offered_by q va kind walked granted (Cloaked c')))
    (sym refused.granted) (record { answer = refl; violation = refl }))

pub page_is_refused : PageIsRefused
unfolding ask_reach reach_by_table if_drawn reached
page_is_refused q va kind f c other =
    let m : CloakedMemory = other.found.memory in
    let g : ℕ = frame_of other.walked.pa in
    let refused : IsRefused (offer q f (is_store kind) m) =
    offer_refuses q f (is_store kind) m other.elsewhere other.drawn other.differs in
    subst (λ (x : ℕ). QuestionIsRefused q x (ask_reach q va kind (Cloaked c))) other.frame
    (subst (λ (to : Told Walk). QuestionIsRefused q g (if_drawn (reached q va kind to.answer) to.world))
    (sym other.leads)
    (drawn_refuses q g m.ledger.missed _ _ (drawn_so q f m other.drawn).before
    (offered_refuses q va kind other.walked other.found
    (subst (λ (x : ℕ). IsRefused (offer q x (is_store kind) m)) (sym other.frame) refused))))
