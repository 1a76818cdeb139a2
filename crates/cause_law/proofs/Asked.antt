-- What each question of a program leaves: a memory that is kept and has met nothing wrong, or it is stopped, when the
-- program's page is found in a frame that differs from what was last shown of it.
use Rattle.std.proofs.Common.{◌≡◌, ◌∙◌, ◌⊎◌, ℕ, Bool, true, false, List, [], ◌∷◌, ◌++◌, Some, None, Ok, Err, refl, sym, inl, inr}
use Rattle.std.proofs.lemmas.Bool.{cond_both}
use Rattle.std.proofs.lemmas.List.{length-set}
use Rattle.cloak_base.specs.declared.causes.Violation.TheVariants as violation
use Rattle.cloak_base.specs.declared.names.Kind.{Kind}
use Rattle.cloak_base.specs.declared.names.PageId.{PageId}
use Rattle.cloak_model.specs.declared.access.Walked.{Walked}
use Rattle.cloak_model.specs.declared.answer.Answer.{Answer}
use Rattle.cloak_model.specs.declared.answer.Answer.TheVariants as told
use Rattle.cloak_model.specs.AskPages.{replies, if_drawn, is_store, offer_events, ask_led_inside, offered_by, ask_offer, reached, reach_by_table, put_at, ask_reach, ask_write, ask_get, ask_put, ask_clear, ask_copy, ask_forget}
use Rattle.cloak_model.specs.Asking.{Told, Asking}
use Rattle.cloak_model.specs.Cloaking.{offer}
use Rattle.cloak_model.specs.Ending.{ask_end}
use Rattle.cloak_model.specs.Events.{Event}
use Rattle.cloak_model.specs.Fork.{copy_each, forget_each}
use Rattle.cloak_base.specs.Constants.{frame_of}
use Rattle.cloak_model.specs.Memory.{Seen}
use Rattle.cloak_model.specs.PageMoves.{copy_pages, drop_pages}
use Rattle.cloak_model.specs.Walk.{Walk, walk}
use Rattle.cloak_model.specs.World.{World, MidStep, Flat, Cloaked, Alone, Handed, noted, settled, cipher_items, is_missed}
use Rattle.cloak_model.specs.Script.{Change, Write, Copy, Forget, changed, played}
use Rattle.script_fold.proofs.Endings.{keeps_forgets, keeps_end}
use Rattle.script_fold.proofs.Questions.{Replies, opens_by, keeps_led_inside, keeps_get, keeps_stored, keeps_clear}
use Rattle.domain_isolation.proofs.Steady.{is_cloaked}
use Rattle.cause_law.specs.Presented.{Differs, FindsOther}
use Rattle.cause_law.proofs.Compared.{IsRefused, offer_compares}
use Rattle.cause_law.proofs.Kept.{IsKept, kept_settled, offer_offers}
use Rattle.cause_law.proofs.Leading.{OfMemory, Walks, access_of, access_leads}

-- Nothing wrong was met.
pub record IsCalm (c : MidStep) : Type 0 where
  pub kept : IsKept c.memory
  pub none : c.violation ≡ None

-- A program asked for its page q at an address in memory `asked`, and it was found in another frame.
pub record HasMet (q : PageId) (va : ℕ) (kind : Kind) (asked c : MidStep) : Type 0 where
  pub kept : IsKept c.memory
  pub frame : ℕ
  pub violation : c.violation ≡ Some (violation.Page q (record { 0 = frame }))
  pub finds : FindsOther q va kind frame asked
  pub differs : Differs q frame c.memory
  pub leads : walk c.memory.ram asked.regime.satp (access_of asked.regime kind va) ≡ Ok finds.walked

abbrev pub Calm : World → Type 0
Calm (Cloaked c) = IsCalm c
Calm _ = ⊥

abbrev pub Met : PageId → ℕ → Kind → MidStep → World → Type 0
Met q va kind asked (Cloaked c) = HasMet q va kind asked c
Met q va kind asked _ = ⊥

pub record Calms (w v : World) : Type 0 where
  pub by : Calm w → Calm v

pub Calms-refl : (w : World) → Calms w w
Calms-refl w = record { by = λ calm. calm }

pub Calms-trans : (u v w : World) → Calms u v → Calms v w → Calms u w
Calms-trans u v w p q = record { by = λ calm. q.by (p.by calm) }

no_flat : (seen : Seen) (v : World) → Calms (Flat seen) v
no_flat seen v = record { by = λ calm. absurd calm }

no_alone : (h : Handed) (v : World) → Calms (Alone h) v
no_alone h v = record { by = λ calm. absurd calm }

-- Memory.

Calms-settled : (f : ℕ) (w : World) → Calms w (settled f w)
Calms-settled f (Flat seen) = no_flat seen _
Calms-settled f (Cloaked c) = record {
  by = λ calm. record { kept = kept_settled f c.memory calm.kept; none = calm.none };
}
Calms-settled f (Alone h) = no_alone h _

Calms-noted : (events : List Event) (w : World) → Calms w (noted events w)
Calms-noted events (Flat seen) = no_flat seen _
Calms-noted events (Cloaked c) = record { by = λ calm. record { kept = calm.kept; none = calm.none } }
Calms-noted events (Alone h) = no_alone h _

-- Answers.

calms_replies : (a : Answer) (w : World) → Calms w (replies a w).world
unfolding replies
calms_replies a (Flat seen) = no_flat seen _
calms_replies a (Cloaked c) = record { by = λ calm. record { kept = calm.kept; none = calm.none } }
calms_replies a (Alone h) = no_alone h _

calm_replies : Replies Calms
calm_replies = record {
  opens =
      opens_by Calms (record { same = Calms-refl; chained = Calms-trans; settled = Calms-settled }) Calms-noted;
  replied = calms_replies;
  told = λ h rest. no_alone h _;
  unfit = λ h. no_alone h _;
}

calms_put_at : (pa width value : ℕ) (w : World) → Calms w (put_at pa width value w).world
unfolding put_at replies
calms_put_at pa width value (Flat seen) = no_flat seen _
calms_put_at pa width value (Cloaked c) = record {
  by = λ calm. record {
    kept = record {
      places = calm.kept.places ∙ sym (length-set c.memory.ram (frame_of pa) _);
      once = calm.kept.once;
    };
    none = calm.none;
  };
}
calms_put_at pa width value (Alone h) = no_alone h _

-- A page is reached.

-- a question for page q leaves all calm, or it is stopped, as the page was found in another frame
abbrev pub CalmOrMet : PageId → ℕ → Kind → MidStep → Told Answer → Type 0
CalmOrMet q va kind asked t = Calm t.world ⊎ ((t.answer ≡ told.Stopped) × Met q va kind asked t.world)

offered_meets : (q : PageId) (va : ℕ) (kind : Kind) (k c : MidStep) (walked : Walked) (granted : Bool) →
    ask_led_inside va kind (Cloaked k) ≡ record { answer = Ok walked; world = Cloaked c } →
    Walks k.regime.satp (access_of k.regime kind va) (Ok walked) c.memory → IsCalm c →
    let g = frame_of walked.pa in
    let o = offer q g (is_store kind) c.memory in
    o.granted ≡ granted → o.memory.ledger.missed ≡ false →
    CalmOrMet q va kind k (offered_by q va kind walked granted
    (Cloaked
    (record c {
      memory = o.memory;
      items = c.items ++ cipher_items o.ciphers;
      events = c.events ++ offer_events q g c.memory o.granted;
    })))
unfolding offered_by replies
offered_meets q va kind k c walked true is leads calm answers drawn =
    inl (record {
      kept = (offer_offers q (frame_of walked.pa) (is_store kind) c.memory calm.kept).kept;
      none = calm.none;
    })
offered_meets q va kind k c walked false is leads calm answers drawn =
    let g = frame_of walked.pa in
    let o = offer q g (is_store kind) c.memory in
    let offers = offer_offers q g (is_store kind) c.memory calm.kept in
    let refused : IsRefused o = record { granted = answers; drawn = drawn } in
    let compares = offer_compares q g (is_store kind) c.memory calm.kept refused in
    inr (
      refl,
      record {
        kept = offers.kept;
        frame = g;
        violation = refl;
        finds = record {
          walked = walked;
          found = c;
          leads = is;
          frame = refl;
          elsewhere = compares.elsewhere;
          drawn = compares.drawn;
          differs = compares.differs;
        };
        differs = compares.still;
        leads = leads o.memory (offers.more answers);
      },
    )

-- a question that stops if a draw was missing
drawn_meets : (q : PageId) (va : ℕ) (kind : Kind) (k : MidStep) (ask : Asking Answer) (w : World) → Calm w →
    (is_missed w ≡ false → CalmOrMet q va kind k (ask w)) → CalmOrMet q va kind k (if_drawn ask w)
unfolding if_drawn
drawn_meets q va kind k ask w calm next =
    cond_both (is_missed w) _ _ (CalmOrMet q va kind k) (λ missed. inl ((calms_replies _ w).by calm)) next

reached_meets : (q : PageId) (va : ℕ) (kind : Kind) (k : MidStep) (to : Walk) (w : World) →
    ask_led_inside va kind (Cloaked k) ≡ record { answer = to; world = w } →
    ((walked : Walked) → to ≡ Ok walked →
    OfMemory (Walks k.regime.satp (access_of k.regime kind va) (Ok walked)) w) → Calm w →
    CalmOrMet q va kind k (reached q va kind to w)
unfolding reached ask_offer
reached_meets q va kind k (Err cause) w is leads calm = inl ((calms_replies _ w).by calm)
reached_meets q va kind k (Ok walked) (Flat seen) is leads calm = absurd calm
reached_meets q va kind k (Ok walked) (Cloaked c) is leads calm =
    drawn_meets q va kind k _ _
    (record {
      kept = (offer_offers q (frame_of walked.pa) (is_store kind) c.memory calm.kept).kept;
      none = calm.none;
    })
    (offered_meets q va kind k c walked _ is (leads walked refl) calm refl)
reached_meets q va kind k (Ok walked) (Alone h) is leads calm = absurd calm

reach_meets : (q : PageId) (va : ℕ) (kind : Kind) (k : MidStep) → IsCalm k →
    CalmOrMet q va kind k (reach_by_table q va kind (Cloaked k))
unfolding reach_by_table
reach_meets q va kind k calm =
    let to = ask_led_inside va kind (Cloaked k) in
    let after = (keeps_led_inside Calms calm_replies.opens va kind (Cloaked k)).by calm in
    drawn_meets q va kind k _ to.world after
    (λ drawn. reached_meets q va kind k to.answer to.world refl
    (λ walked is. access_leads va kind k walked calm.kept is) after)

pub asked_meets : (q : PageId) (va : ℕ) (kind : Kind) (k : MidStep) → IsCalm k →
    CalmOrMet q va kind k (ask_reach q va kind (Cloaked k))
unfolding ask_reach
asked_meets q va kind k calm = reach_meets q va kind k calm

-- The other questions, and what a program changes, meet nothing.

pub calms_asks_get : (va width : ℕ) (w : World) → Calms w (ask_get va width w).world
calms_asks_get va width w = keeps_get Calms calm_replies va width w

pub calms_asks_put : (va width value : ℕ) (w : World) → Calms w (ask_put va width value w).world
calms_asks_put va width value w =
    keeps_stored Calms calm_replies width (λ pa value' v. calms_put_at pa width value' v) va value w

pub calms_asks_clear : (d : ℕ) (marked : List Bool) (w : World) → Calms w (ask_clear d marked w).world
calms_asks_clear d marked w = keeps_clear Calms calm_replies d marked w

calms_writes : (q : PageId) (at width value : ℕ) (w : World) → Calms w (ask_write q at width value w).world
unfolding ask_write
calms_writes q at width value (Flat seen) = no_flat seen _
calms_writes q at width value (Cloaked c) = record {
  by = λ calm. record {
    kept = record { places = calm.kept.places; once = calm.kept.once };
    none = calm.none;
  };
}
calms_writes q at width value (Alone h) = no_alone h _

calms_copy : (d from to : ℕ) (w : World) → Calms w (ask_copy d from to w).world
unfolding ask_copy copy_pages
calms_copy d from to (Flat seen) = no_flat seen _
calms_copy d from to (Cloaked c) = record {
  by = λ calm. record {
    kept = record { places = calm.kept.places; once = calm.kept.once };
    none = calm.none;
  };
}
calms_copy d from to (Alone h) = no_alone h _

calms_forget : (d resource : ℕ) (w : World) → Calms w (ask_forget d resource w).world
unfolding ask_forget drop_pages
calms_forget d resource (Flat seen) = no_flat seen _
calms_forget d resource (Cloaked c) = record {
  by = λ calm. record {
    kept = record { places = calm.kept.places; once = calm.kept.once };
    none = calm.none;
  };
}
calms_forget d resource (Alone h) = no_alone h _

pub calms_changed : (change : Change) (w : World) → Calms w (changed change w).world
calms_changed (Write q at width value) w = calms_writes q at width value w
calms_changed (Copy domain from to) w = calms_copy domain from to w
calms_changed (Forget domain resource) w = calms_forget domain resource w

pub calms_copies : (d : ℕ) (list : List (ℕ × ℕ)) (w : World) → Calms w (played (copy_each d list) w).world
unfolding copy_each
calms_copies d [] w = Calms-refl w
calms_copies d (copy ∷ rest) w = Calms-trans _ _ _ (calms_copy d copy.0 copy.1 w) (calms_copies d rest _)

pub calms_forgets : (d : ℕ) (list : List ℕ) (w : World) → Calms w (played (forget_each d list) w).world
calms_forgets d list w = keeps_forgets Calms Calms-refl Calms-trans calms_forget d list w

-- The end of a domain meets nothing either.
pub calms_end : (d : ℕ) (w : World) → Calms w (ask_end d w).world
calms_end d w = keeps_end Calms calm_replies.opens.settles calms_forget d w

pub is_cloaked_calm : (w : World) → Calm w → is_cloaked w ≡ true
is_cloaked_calm (Cloaked c) calm = refl
is_cloaked_calm _ calm = absurd calm
