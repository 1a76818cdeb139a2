-- What a program's questions show: pages as they are, under draws one after another; and its changes show nothing.
use Rattle.std.proofs.Common.{◌≡◌, ℕ, ◌<◌, ◌*◌, ◌%◌, ◌^◌, Bool, List, [], ◌∷◌, ◌++◌, refl, sym}
use Rattle.std.proofs.lemmas.List.{append-nil}
use Rattle.cloak_base.specs.declared.names.Kind.{Kind}
use Rattle.cloak_base.specs.declared.names.PageId.{PageId}
use Rattle.cloak_model.specs.declared.answer.Answer.{Answer}
use Rattle.cloak_model.specs.declared.answer.Answer.TheVariants as answer
use Rattle.cloak_model.specs.Items as item
use Rattle.cloak_model.specs.AskPages.{offer_events, answer_item, replies, put_at, ask_reach, ask_read, ask_write, ask_get, ask_put, ask_clear, ask_copy, ask_forget}
use Rattle.cloak_model.specs.Cloaking.{offer, settle}
use Rattle.cloak_model.specs.Events.{Event}
use Rattle.cloak_model.specs.PageMoves.{copy_pages, drop_pages}
use Rattle.cloak_model.specs.World.{World, MidStep, Flat, Cloaked, Alone, settled, cipher_items, noted, written, stored_at}
use Rattle.script_fold.proofs.Questions.{Replies, opens_by, keeps_reached_page, keeps_get, keeps_stored, keeps_clear}
use Rattle.page_law.proofs.Draws.{draws_same}
use Rattle.page_law.proofs.Settlings.{settle_draws, offer_draws}
use Rattle.page_law.proofs.Worlds.{OnlyShows, OnlyChanges, no_flat, no_alone, unchanged_flat, unchanged_alone, changes_from, OnlyShows-trans, OnlyShows-refl, shows_by, shows_item}

-- Memory.

pub shows_settled : {count : ℕ} (f : ℕ) (w : World) → OnlyShows count w (settled f w)
shows_settled f (Flat seen) = no_flat seen _
shows_settled f (Cloaked c) = shows_by c _ (cipher_items (settle f c.memory).ciphers) refl (settle_draws f c.memory)
shows_settled f (Alone h) = no_alone h _

-- events show nothing
shows_noted : {count : ℕ} (events : List Event) (w : World) → OnlyShows count w (noted events w)
shows_noted events (Flat seen) = no_flat seen _
shows_noted events (Cloaked c) =
    shows_by c _ [] (sym (append-nil c.items)) (draws_same c.memory _ refl refl)
shows_noted events (Alone h) = no_alone h _

-- Answers.

inward_shows : {count : ℕ} (c : MidStep) (d : ℕ) (a : Answer) →
    OnlyShows count (Cloaked c) (Cloaked (record c { items = c.items ++ answer_item d a ∷ [] }))
inward_shows c d answer.Ok = shows_item c (item.Ok d) (λ n. refl) (λ p s plain n. tt)
inward_shows c d (answer.Absent cause) = shows_item c (item.Absent d cause) (λ n. refl) (λ p s plain n. tt)
inward_shows c d (answer.Word value) = shows_item c (item.Word d value) (λ n. refl) (λ p s plain n. tt)
inward_shows c d answer.Stopped = shows_item c (item.Stopped d) (λ n. refl) (λ p s plain n. tt)

shows_replies : {count : ℕ} (a : Answer) (w : World) → OnlyShows count w (replies a w).world
unfolding replies
shows_replies a (Flat seen) = no_flat seen _
shows_replies a (Cloaked c) = inward_shows c c.regime.domain a
shows_replies a (Alone h) = no_alone h _

offer_shows : {count : ℕ} (q : PageId) (g : ℕ) (write : Bool) (c : MidStep) → q.domain < count →
    let o = offer q g write c.memory in
    OnlyShows count (Cloaked c)
    (Cloaked
    (record c {
      memory = o.memory;
      items = c.items ++ cipher_items o.ciphers;
      events = c.events ++ offer_events q g c.memory o.granted;
    }))
offer_shows q g write c low =
    shows_by c _ (cipher_items (offer q g write c.memory).ciphers) refl (offer_draws q g write c.memory low)

pub show_replies : {count : ℕ} → Replies (OnlyShows count)
show_replies {count} = record {
  opens =
      opens_by (OnlyShows count) (record { same = OnlyShows-refl; chained = OnlyShows-trans; settled = shows_settled })
      shows_noted;
  replied = shows_replies;
  told = λ h rest. no_alone h _;
  unfit = λ h. no_alone h _;
}

-- Stores.

shows_stored : {count : ℕ} (pa width value : ℕ) (w : World) → OnlyShows count w (stored_at pa width value w)
shows_stored pa width value (Flat seen) = no_flat seen _
shows_stored pa width value (Cloaked c) =
    shows_by c _ [] (sym (append-nil c.items)) (draws_same c.memory _ refl refl)
shows_stored pa width value (Alone h) = no_alone h _

shows_put_item : {count : ℕ} (pa width value : ℕ) (w : World) → OnlyShows count w (written (item.Put pa width value) w)
shows_put_item pa width value (Flat seen) = no_flat seen _
shows_put_item pa width value (Cloaked c) =
    shows_item c (item.Put pa width value) (λ n. refl) (λ p s plain n. tt)
shows_put_item pa width value (Alone h) = no_alone h _

shows_put_at : {count : ℕ} (pa width value : ℕ) (w : World) → OnlyShows count w (put_at pa width value w).world
unfolding put_at
shows_put_at pa width value w =
    OnlyShows-trans _ _ _ (shows_stored pa width value w)
    (OnlyShows-trans _ _ _ (shows_put_item pa width (value % 2 ^ (8 * width)) _) (shows_replies answer.Ok _))

-- The questions.

-- a page of a program that there is
pub shows_reach : {count : ℕ} (q : PageId) (va : ℕ) (kind : Kind) (w : World) → q.domain < count →
    OnlyShows count w (ask_reach q va kind w).world
shows_reach {count} q va kind w low =
    keeps_reached_page (OnlyShows count) show_replies q va (record {
      offered = λ g write c. offer_shows q g write c low;
      granted = λ kind walked w. shows_noted _ w;
      mismatched = λ g c. shows_by c _ [] (sym (append-nil c.items)) (draws_same c.memory _ refl refl);
    }) kind w

pub shows_read : {count : ℕ} (q : PageId) (at width : ℕ) (w : World) → OnlyShows count w (ask_read q at width w).world
unfolding ask_read
shows_read q at width w = OnlyShows-refl w

pub shows_get : {count : ℕ} (va width : ℕ) (w : World) → OnlyShows count w (ask_get va width w).world
shows_get {count} va width w = keeps_get (OnlyShows count) show_replies va width w

pub shows_put : {count : ℕ} (va width value : ℕ) (w : World) → OnlyShows count w (ask_put va width value w).world
shows_put {count} va width value w =
    keeps_stored (OnlyShows count) show_replies width (λ pa value' v. shows_put_at pa width value' v) va value w

pub shows_clear : {count : ℕ} (domain : ℕ) (marked : List Bool) (w : World) →
    OnlyShows count w (ask_clear domain marked w).world
shows_clear {count} domain marked w = keeps_clear (OnlyShows count) show_replies domain marked w

-- Changes of its own pages.

quiet : (c c' : MidStep) → c'.items ≡ c.items → c'.memory.ledger.keys ≡ c.memory.ledger.keys →
    c'.memory.ledger.owed ≡ c.memory.ledger.owed → c'.memory.ledger.stream ≡ c.memory.ledger.stream →
    OnlyChanges (Cloaked c) (Cloaked c')
quiet c c' items keys owed stream =
    changes_from c (Cloaked c')
    (record { to = c'; is = refl; items = items; keys = keys; owed = owed; stream = stream })

pub changes_write : (q : PageId) (at width value : ℕ) (w : World) → OnlyChanges w (ask_write q at width value w).world
unfolding ask_write
changes_write q at width value (Flat seen) = unchanged_flat seen _
changes_write q at width value (Cloaked c) = quiet c _ refl refl refl refl
changes_write q at width value (Alone h) = unchanged_alone h _

pub changes_copy : (domain from to : ℕ) (w : World) → OnlyChanges w (ask_copy domain from to w).world
unfolding ask_copy copy_pages
changes_copy domain from to (Flat seen) = unchanged_flat seen _
changes_copy domain from to (Cloaked c) = quiet c _ refl refl refl refl
changes_copy domain from to (Alone h) = unchanged_alone h _

pub changes_forget : (domain resource : ℕ) (w : World) → OnlyChanges w (ask_forget domain resource w).world
unfolding ask_forget drop_pages
changes_forget domain resource (Flat seen) = unchanged_flat seen _
changes_forget domain resource (Cloaked c) = quiet c _ refl refl refl refl
changes_forget domain resource (Alone h) = unchanged_alone h _
