-- What a program's questions write into the exchange accounts for RAM: it is then what the items say.
use Rattle.std.proofs.Common.{◌≡◌, ◌∙◌, ℕ, ◌*◌, ◌%◌, ◌^◌, Bool, true, false, List, [], ◌∷◌, ◌++◌, length, Ok, Err, refl, sym, ap, append_assoc}
use Rattle.std.specs.Prelude.{◌==◌}
use Rattle.std.proofs.lemmas.Bool.{false≢true, and_from}
use Rattle.std.proofs.lemmas.List.{append-nil, length-set}
use Rattle.cloak_base.specs.declared.names.Kind.TheVariants.{Store}
use Rattle.cloak_base.specs.declared.names.PageId.{PageId}
use Rattle.cloak_model.specs.declared.access.Access.{Access}
use Rattle.cloak_model.specs.declared.access.Walked.{Walked}
use Rattle.cloak_model.specs.declared.answer.Answer.{Answer}
use Rattle.cloak_model.specs.declared.answer.Answer.TheVariants as answer
use Rattle.cloak_model.specs.Items.{Item}
use Rattle.cloak_model.specs.Items as item
use Rattle.cloak_model.specs.Ask.{opened}
use Rattle.cloak_model.specs.AskPages.{answer_item, replies, if_drawn, ask_led_inside, put_at, stored_inside, put_by_table, ask_write, ask_put, ask_copy, ask_forget}
use Rattle.cloak_model.specs.Asking.{Told}
use Rattle.cloak_model.specs.Cloaking.{offer, settle, seen_in}
use Rattle.cloak_model.specs.Effect.{IsWidth}
use Rattle.cloak_model.specs.Walk.{Walk}
use Rattle.cloak_model.specs.Events.{Event}
use Rattle.cloak_base.specs.Constants.{frame_of}
use Rattle.cloak_model.specs.Memory.{is_in_ram, Seen, stored}
use Rattle.cloak_model.specs.PageMoves.{copy_pages, drop_pages}
use Rattle.cloak_model.specs.World.{World, MidStep, Flat, Cloaked, Alone, Handed, ram_of, seen_of, owed_of, items_of, noted, settled, cipher_items}
use Rattle.script_fold.proofs.ByQuestions.{StepKept}
use Rattle.script_fold.proofs.Questions.{Opens, Replies, opens_by, keeps_drawn, keeps_led_inside}
use Rattle.kernel_isolation.proofs.Items.{AreWithin, with_items, with_items-append, length-with_items, within_stays, within-append, ciphers_within, with_ciphers}
use Rattle.kernel_isolation.proofs.Settlings.{ShownBy, settle_shown, offer_shown}
use Rattle.kernel_isolation.proofs.Leading.{LeadsInside, leads_inside, low_bytes_stored, is_aligned}

abbrev pub is_joint : World → Bool
is_joint (Cloaked c) = true
is_joint _ = false

-- A joint machine's memory, in which each frame has its place among what is owed.
pub record IsJointWorld (w : World) : Type 0 where
  pub form : is_joint w ≡ true
  pub places : length (owed_of w) ≡ length (ram_of w)

-- What was written, and that RAM is what it says.
pub record Account (w v : World) : Type 0 where
  pub items : List Item
  pub written : items_of v ≡ items_of w ++ items
  pub within : AreWithin (ram_of w) items
  pub seen : seen_of v ≡ with_items items (seen_of w)
  pub joint : IsJointWorld v

pub record Accounts (w v : World) : Type 0 where
  pub by : IsJointWorld w → Account w v

Accounts-refl : (w : World) → Accounts w w
Accounts-refl w = record {
  by = λ joint. record {
    items = [];
    written = sym (append-nil (items_of w));
    within = tt;
    seen = refl;
    joint = joint;
  };
}

-- RAM is that of what is seen
pub ram_seen : (w : World) → ram_of w ≡ (seen_of w).ram
ram_seen (Flat seen) = refl
ram_seen _ = refl

-- settling leaves which addresses are in RAM
length-account : (w v : World) → Account w v → length (ram_of v) ≡ length (ram_of w)
length-account w v a =
    ap length (ram_seen v)
    ∙ (ap (λ (x : Seen). length x.ram) a.seen
    ∙ (length-with_items a.items (seen_of w) ∙ sym (ap length (ram_seen w))))

Account-trans : (u v w : World) → Account u v → Account v w → Account u w
Account-trans u v w p q = record {
  items = p.items ++ q.items;
  written = q.written ∙ (ap (λ (l : List Item). l ++ q.items) p.written ∙ append_assoc (items_of u) p.items q.items);
  within = within-append (ram_of u) p.items q.items p.within
      (within_stays (ram_of v) (ram_of u) q.items
      (sym (length-account u v p)) q.within);
  seen = q.seen ∙ (ap (with_items q.items) p.seen ∙ sym (with_items-append p.items q.items (seen_of u)));
  joint = q.joint;
}

Accounts-trans : (u v w : World) → Accounts u v → Accounts v w → Accounts u w
Accounts-trans u v w p q = record {
  by = λ joint. let first = p.by joint in Account-trans u v w first (q.by first.joint);
}

-- nothing must be said of any other world
no_flat : (ram : Seen) (v : World) → Accounts (Flat ram) v
no_flat ram v = record { by = λ joint. absurd (false≢true joint.form) }

no_alone : (h : Handed) (v : World) → Accounts (Alone h) v
no_alone h v = record { by = λ joint. absurd (false≢true joint.form) }

-- RAM and what is owed are as they were, and nothing is written
same_account : (c c' : MidStep) → c'.items ≡ c.items → seen_in c'.memory ≡ seen_in c.memory →
    c'.memory.ledger.owed ≡ c.memory.ledger.owed → Accounts (Cloaked c) (Cloaked c')
same_account c c' items seen owed = record {
  by = λ joint. record {
    items = [];
    written = items ∙ sym (append-nil c.items);
    within = tt;
    seen = seen;
    joint = record {
      form = refl;
      places = ap length owed ∙ (joint.places ∙ sym (ap (λ (x : Seen). length x.ram) seen));
    };
  };
}

-- Ciphers are written, and the kernel was shown them
shown_account : (c c' : MidStep) (ciphers : List (ℕ × List ℕ)) → c'.items ≡ c.items ++ cipher_items ciphers →
    ShownBy c.memory ciphers c'.memory → Account (Cloaked c) (Cloaked c')
shown_account c c' ciphers items shown = record {
  items = cipher_items ciphers;
  written = items;
  within = ciphers_within c.memory.ram ciphers shown.frames;
  seen = shown.seen ∙ sym (with_ciphers ciphers (seen_in c.memory));
  joint = record { form = refl; places = shown.places };
}

-- Memory.

Accounts-settled : (f : ℕ) (w : World) → Accounts w (settled f w)
Accounts-settled f (Flat ram) = no_flat ram _
Accounts-settled f (Cloaked c) = record {
  by = λ joint. shown_account c _ (settle f c.memory).ciphers refl (settle_shown f c.memory joint.places);
}
Accounts-settled f (Alone h) = no_alone h _

-- events are no part of what is accounted for
Accounts-noted : (events : List Event) (w : World) → Accounts w (noted events w)
Accounts-noted events (Flat ram) = no_flat ram _
Accounts-noted events (Cloaked c) = same_account c _ refl refl refl
Accounts-noted events (Alone h) = no_alone h _

account_opens : Opens Accounts
account_opens =
    opens_by Accounts (record { same = Accounts-refl; chained = Accounts-trans; settled = Accounts-settled })
    Accounts-noted

-- Answers.

inward_account : (c : MidStep) (d : ℕ) (a : Answer) →
    Accounts (Cloaked c) (Cloaked (record c { items = c.items ++ answer_item d a ∷ [] }))
inward_account c d answer.Ok = record {
  by = λ joint. record {
    items = item.Ok d ∷ [];
    written = refl;
    within = (refl, tt);
    seen = refl;
    joint = record { form = refl; places = joint.places };
  };
}
inward_account c d (answer.Absent cause) = record {
  by = λ joint. record {
    items = item.Absent d cause ∷ [];
    written = refl;
    within = (refl, tt);
    seen = refl;
    joint = record { form = refl; places = joint.places };
  };
}
inward_account c d (answer.Word value) = record {
  by = λ joint. record {
    items = item.Word d value ∷ [];
    written = refl;
    within = (refl, tt);
    seen = refl;
    joint = record { form = refl; places = joint.places };
  };
}
inward_account c d answer.Stopped = record {
  by = λ joint. record {
    items = item.Stopped d ∷ [];
    written = refl;
    within = (refl, tt);
    seen = refl;
    joint = record { form = refl; places = joint.places };
  };
}

accounts_replies : (a : Answer) (w : World) → Accounts w (replies a w).world
unfolding replies
accounts_replies a (Flat ram) = no_flat ram _
accounts_replies a (Cloaked c) = inward_account c c.regime.domain a
accounts_replies a (Alone h) = no_alone h _

account_replies : Replies Accounts
account_replies = record {
  opens = account_opens;
  replied = accounts_replies;
  told = λ h rest. no_alone h _;
  unfit = λ h. no_alone h _;
}

offer_account : (q : PageId) (g : ℕ) (write : Bool) (events : List Event) (c : MidStep) →
    let o = offer q g write c.memory in
    Accounts (Cloaked c)
    (Cloaked (record c { memory = o.memory; items = c.items ++ cipher_items o.ciphers; events = events }))
offer_account q g write events c = record {
  by = λ joint. shown_account c _ (offer q g write c.memory).ciphers refl (offer_shown q g write c.memory joint.places);
}

-- Stores.

put_account : (pa width value : ℕ) (c : MidStep) → is_in_ram c.memory.ram pa ≡ true → (pa % width == 0) ≡ true →
    IsWidth width →
    Accounts (Cloaked c) (put_at pa width value (Cloaked c)).world
unfolding put_at replies
put_account pa width value c inside aligned is = record {
  by = λ joint. record {
    items = item.Put pa width (value % 2 ^ (8 * width)) ∷ (item.Ok c.regime.domain ∷ []);
    written = append_assoc c.items (item.Put pa width (value % 2 ^ (8 * width)) ∷ []) (item.Ok c.regime.domain ∷ []);
    within = (and_from _ _ inside aligned, (refl, tt));
    seen = ap (λ (ram : List (List ℕ)). let x : Seen =
        record { ram = ram; marks = (stored pa width value (seen_in c.memory)).marks } in x)
        (low_bytes_stored pa width value c.memory.ram is);
    joint = record { form = refl; places = joint.places ∙ sym (length-set c.memory.ram (frame_of pa) _) };
  };
}

accounts_put_at : (pa width value : ℕ) (w : World) → is_in_ram (ram_of w) pa ≡ true → (pa % width == 0) ≡ true →
    IsWidth width →
    Accounts w (put_at pa width value w).world
accounts_put_at pa width value (Flat ram) inside aligned is = no_flat ram _
accounts_put_at pa width value (Cloaked c) inside aligned is = put_account pa width value c inside aligned is
accounts_put_at pa width value (Alone h) inside aligned is = no_alone h _

-- a store at a settled address
opened_put : (satp : ℕ) (a : Access) (walked : Walked) (width value : ℕ) (w : World) →
    is_in_ram (ram_of w) walked.pa ≡ true → (walked.pa % width == 0) ≡ true → IsWidth width →
    Accounts w (if_drawn (put_at walked.pa width value) (opened satp a walked w)).world
opened_put satp a walked width value w inside aligned is = record {
  by = λ joint.
      let v : World = opened satp a walked w in
      let first = account_opens.opened satp a walked w in
      let count = length-account w v (first.by joint) in
      let inside' : is_in_ram (ram_of v) walked.pa ≡ true = rw count inside in
      (Accounts-trans w v _ first (keeps_drawn Accounts account_replies _ v
      (accounts_put_at walked.pa width value v inside' aligned is))).by joint;
}

accounts_stored : (va width value : ℕ) (told : Told Walk) → LeadsInside va told → va % width ≡ 0 → IsWidth width →
    Accounts told.world (stored_inside va width value told.answer told.world).world
unfolding stored_inside
accounts_stored va width value told leads at is = by told.answer refl
  where
    by : (to : Walk) → told.answer ≡ to → Accounts told.world (stored_inside va width value to told.world).world
    by (Err cause) found = accounts_replies _ told.world
    by (Ok walked) found =
        let there = leads.inside walked found in
        opened_put _ _ walked width value told.world there.0 (is_aligned va walked.pa width there.1 at is) is

accounts_put_by_table : (va width value : ℕ) (w : World) → va % width ≡ 0 → IsWidth width →
    Accounts w (put_by_table va width value w).world
unfolding put_by_table
accounts_put_by_table va width value w at is =
    let told = ask_led_inside va Store w in
    Accounts-trans w told.world _ (keeps_led_inside Accounts account_opens va Store w)
    (keeps_drawn Accounts account_replies _ told.world (accounts_stored va width value told (leads_inside va Store w) at is))

-- What a program stores elsewhere, and changes of its own pages.

accounts_write : (q : PageId) (at width value : ℕ) (w : World) → Accounts w (ask_write q at width value w).world
unfolding ask_write
accounts_write q at width value (Flat ram) = no_flat ram _
accounts_write q at width value (Cloaked c) = same_account c _ refl refl refl
accounts_write q at width value (Alone h) = no_alone h _

accounts_put : (va width value : ℕ) (w : World) → va % width ≡ 0 → IsWidth width →
    Accounts w (ask_put va width value w).world
unfolding ask_put
accounts_put va width value (Flat ram) at is = no_flat ram _
accounts_put va width value (Cloaked c) at is = accounts_put_by_table va width value (Cloaked c) at is
accounts_put va width value (Alone h) at is = no_alone h _

accounts_copy : (domain from to : ℕ) (w : World) → Accounts w (ask_copy domain from to w).world
unfolding ask_copy copy_pages
accounts_copy domain from to (Flat ram) = no_flat ram _
accounts_copy domain from to (Cloaked c) = same_account c _ refl refl refl
accounts_copy domain from to (Alone h) = no_alone h _

accounts_forget : (domain resource : ℕ) (w : World) → Accounts w (ask_forget domain resource w).world
unfolding ask_forget drop_pages
accounts_forget domain resource (Flat ram) = no_flat ram _
accounts_forget domain resource (Cloaked c) = same_account c _ refl refl refl
accounts_forget domain resource (Alone h) = no_alone h _

-- all that a step of a program asks
pub account_step : (d : ℕ) → StepKept d Accounts
account_step d = record {
  replies = account_replies;
  offers = λ q own va. record {
    offered = λ g write c. offer_account q g write _ c;
    granted = λ kind walked w. Accounts-noted _ w;
    mismatched = λ g c. same_account c _ refl refl refl;
  };
  puts = λ va width value at w. accounts_put va width value w at.0 at.1;
  writes = accounts_write;
  copies = accounts_copy;
  forgets = accounts_forget;
}
