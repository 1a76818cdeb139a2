-- What is written while a program asks: a Cipher has the 4096 bytes of a page, and a Put a width.
use Rattle.std.proofs.Common.{◌≡◌, ◌∙◌, ℕ, ◌*◌, ◌%◌, ◌^◌, Bool, true, List, [], ◌∷◌, ◌++◌, length, Option, Some, None, refl, sym, subst, append_assoc}
use Rattle.std.specs.List.{AllByRecursion}
use Rattle.std.proofs.lemmas.Bool.{false≢true}
use Rattle.std.proofs.lemmas.List.{length-replicate}
use Rattle.cloak_base.specs.Pages.{zero_page}
use Rattle.cloak_base.specs.Random.{Random}
use Rattle.cloak_base.specs.declared.names.PageId.{PageId}
use Rattle.cloak_model.specs.declared.answer.Answer.{Answer}
use Rattle.cloak_model.specs.declared.answer.Answer.TheVariants as answer
use Rattle.cloak_model.specs.Items.{Item}
use Rattle.cloak_model.specs.Items as item
use Rattle.cloak_model.specs.Ahead.{settle_touched}
use Rattle.cloak_model.specs.AskPages.{answer_item, replies, put_at, ask_write, ask_copy, ask_forget}
use Rattle.cloak_model.specs.DomainState.{Domain}
use Rattle.cloak_model.specs.DomainStep.{domain_step}
use Rattle.cloak_model.specs.Ending.{ask_end}
use Rattle.cloak_model.specs.Cloaking.{CloakedMemory, settle_owed, settle, offer}
use Rattle.cloak_model.specs.Effect.{IsWidth}
use Rattle.cloak_model.specs.Events.{Event}
use Rattle.cloak_model.specs.Hart.{Hart}
use Rattle.cloak_model.specs.Ledger.{key_of, next_vector}
use Rattle.cloak_model.specs.Memory.{Seen}
use Rattle.cloak_model.specs.Sealing.{Sealing, Chained, sealed_by}
use Rattle.cloak_model.specs.VeilWorld.{seal_of}
use Rattle.cloak_model.specs.PageMoves.{copy_pages, drop_pages}
use Rattle.cloak_model.specs.World.{World, MidStep, Flat, Cloaked, Alone, Handed, items_of, noted, settled, settled_in, cipher_items}
use Rattle.script_fold.proofs.ByQuestions.{StepKept, keeps_by}
use Rattle.script_fold.proofs.Endings.{keeps_end}
use Rattle.script_fold.proofs.Folding.{step_keeps}
use Rattle.script_fold.proofs.Questions.{Replies, opens_by, keeps_stored}
use Rattle.kernel_isolation.proofs.Showing.{Showing, settle_shows, Shows, touched_shows, offer_shows}
use Rattle.kernel_isolation.proofs.Accounts.{is_joint}
use Rattle.range_law.proofs.Ciphers.{cbc_long}
use Rattle.cloak_base.proofs.Lists.{each_append}

abbrev pub HasSize : Item → Type 0
HasSize (item.Cipher frame bytes) = length bytes ≡ 4096
HasSize (item.Put address width value) = IsWidth width
HasSize _ = Unit {0}

abbrev pub HaveSizes : List Item → Type 0
HaveSizes items = AllByRecursion HasSize items

abbrev pub ArePages : List (ℕ × List ℕ) → Type 0
ArePages ciphers = AllByRecursion (λ (c : ℕ × List ℕ). length c.1 ≡ 4096) ciphers

pub cipher_sizes : (ciphers : List (ℕ × List ℕ)) → ArePages ciphers → HaveSizes (cipher_items ciphers)
cipher_sizes [] all = tt
cipher_sizes (c ∷ ciphers) all = (all.0, cipher_sizes ciphers all.1)

-- Ciphertexts of pages.

pub zeros_long : length zero_page ≡ 4096
unfolding zero_page
zeros_long = length-replicate {A = ℕ} 4096 0

-- Settling and offers.

-- Pages are sealed by chained AES.
abbrev pub IsChained : CloakedMemory → Type 0
IsChained m = m.ledger.keys.seal ≡ Chained

pub sealed_long : (s : Sealing) (key iv bytes : List ℕ) → s ≡ Chained → length (sealed_by s key iv bytes) ≡ 4096
sealed_long s key iv bytes is =
    subst (λ (x : Sealing). length (sealed_by x key iv bytes) ≡ 4096) (sym is) (cbc_long key iv bytes)

-- Pages are shown, and pages are still sealed by chained AES.
abbrev Pages : Showing
Pages m ciphers n = ArePages ciphers × IsChained n

owed_pages : (f : ℕ) (q : PageId) (draw : Option (List ℕ × Random)) (m : CloakedMemory) → IsChained m →
    let s = settle_owed f q draw m in Pages m s.ciphers s.memory
unfolding settle_owed
owed_pages f q None m is = ((zeros_long, tt), is)
owed_pages f q (Some draw) m is =
    ((sealed_long m.ledger.keys.seal (key_of m.ledger q) draw.0 (m.plain q) is, tt), is)

pub settle_pages : (f : ℕ) (m : CloakedMemory) → IsChained m → Pages m (settle f m).ciphers (settle f m).memory
settle_pages f m is =
    settle_shows IsChained Pages (λ x here. (tt, here)) (λ g q x at here. owed_pages g q (next_vector x.ledger) x here) f m is

shows : Shows IsChained Pages
shows = record {
  none = λ m here. (tt, here);
  both = λ l m n a b here there. (each_append (λ (c : ℕ × List ℕ). length c.1 ≡ 4096) a b here.0 there.0, there.1);
  after = λ m n a here. here.1;
  settles = λ f m here. settle_pages f m here;
}

pub touched_pages : (h : Hart) (disk : List ℕ) (m : CloakedMemory) → IsChained m →
    ArePages (settle_touched h disk m).ciphers
touched_pages h disk m is = (touched_shows IsChained Pages shows h disk m is).0

pub offer_pages : (q : PageId) (g : ℕ) (write : Bool) (m : CloakedMemory) → IsChained m →
    let o = offer q g write m in Pages m o.ciphers o.memory
offer_pages q g write m is =
    offer_shows IsChained Pages shows q (λ f x here. (tt, here)) (λ a b x here. (tt, here)) g write m is

-- Worlds.

pub record IsSized (w : World) : Type 0 where
  pub form : is_joint w ≡ true
  pub chained : seal_of w ≡ Chained
  pub items : HaveSizes (items_of w)

pub record Sizes (w v : World) : Type 0 where
  pub by : IsSized w → IsSized v

Sizes-refl : (w : World) → Sizes w w
Sizes-refl w = record { by = λ is. is }

Sizes-trans : (u v w : World) → Sizes u v → Sizes v w → Sizes u w
Sizes-trans u v w p q = record { by = λ is. q.by (p.by is) }

no_flat : (seen : Seen) (v : World) → Sizes (Flat seen) v
no_flat seen v = record { by = λ is. absurd (false≢true is.form) }

no_alone : (h : Handed) (v : World) → Sizes (Alone h) v
no_alone h v = record { by = λ is. absurd (false≢true is.form) }

-- nothing is written
same_sizes : (c c' : MidStep) → c'.items ≡ c.items → c'.memory.ledger.keys.seal ≡ c.memory.ledger.keys.seal →
    Sizes (Cloaked c) (Cloaked c')
same_sizes c c' same seal = record {
  by = λ is. record { form = refl; chained = seal ∙ is.chained; items = subst HaveSizes (sym same) is.items };
}

-- this is written
more_sizes : (c c' : MidStep) (items : List Item) → c'.items ≡ c.items ++ items →
    (IsChained c.memory → HaveSizes items × IsChained c'.memory) → Sizes (Cloaked c) (Cloaked c')
more_sizes c c' items same more = record {
  by = λ is. let after = more is.chained in record {
    form = refl;
    chained = after.1;
    items = subst HaveSizes (sym same) (each_append HasSize c.items items is.items after.0);
  };
}

-- Memory.

Sizes-settled : (f : ℕ) (w : World) → Sizes w (settled f w)
Sizes-settled f (Flat ram) = no_flat ram _
Sizes-settled f (Cloaked c) =
    let ciphers = (settle f c.memory).ciphers in
    more_sizes c (settled_in f c) (cipher_items ciphers) refl
    (λ is. let here = settle_pages f c.memory is in (cipher_sizes ciphers here.0, here.1))
Sizes-settled f (Alone h) = no_alone h _

Sizes-noted : (events : List Event) (w : World) → Sizes w (noted events w)
Sizes-noted events (Flat ram) = no_flat ram _
Sizes-noted events (Cloaked c) = same_sizes c _ refl refl
Sizes-noted events (Alone h) = no_alone h _

-- Answers.

answer_sizes : (c : MidStep) (d : ℕ) (a : Answer) →
    Sizes (Cloaked c) (Cloaked (record c { items = c.items ++ answer_item d a ∷ [] }))
answer_sizes c d answer.Ok = more_sizes c _ (item.Ok d ∷ []) refl (λ is. ((tt, tt), is))
answer_sizes c d (answer.Absent cause) = more_sizes c _ (item.Absent d cause ∷ []) refl (λ is. ((tt, tt), is))
answer_sizes c d (answer.Word value) = more_sizes c _ (item.Word d value ∷ []) refl (λ is. ((tt, tt), is))
answer_sizes c d answer.Stopped = more_sizes c _ (item.Stopped d ∷ []) refl (λ is. ((tt, tt), is))

sizes_replies : (a : Answer) (w : World) → Sizes w (replies a w).world
unfolding replies
sizes_replies a (Flat ram) = no_flat ram _
sizes_replies a (Cloaked c) = answer_sizes c c.regime.domain a
sizes_replies a (Alone h) = no_alone h _

offer_sizes : (q : PageId) (g : ℕ) (write : Bool) (events : List Event) (c : MidStep) →
    let o = offer q g write c.memory in
    Sizes (Cloaked c)
    (Cloaked (record c { memory = o.memory; items = c.items ++ cipher_items o.ciphers; events = events }))
offer_sizes q g write events c =
    let ciphers = (offer q g write c.memory).ciphers in
    more_sizes c _ (cipher_items ciphers) refl
    (λ is. let here = offer_pages q g write c.memory is in (cipher_sizes ciphers here.0, here.1))

size_replies : Replies Sizes
size_replies = record {
  opens =
      opens_by Sizes (record { same = Sizes-refl; chained = Sizes-trans; settled = Sizes-settled }) Sizes-noted;
  replied = sizes_replies;
  told = λ h rest. no_alone h _;
  unfit = λ h. no_alone h _;
}

-- Stores.

sizes_put_at : (pa width value : ℕ) (w : World) → IsWidth width → Sizes w (put_at pa width value w).world
unfolding put_at replies
sizes_put_at pa width value (Flat ram) is = no_flat ram _
sizes_put_at pa width value (Cloaked c) is =
    let put : Item = item.Put pa width (value % 2 ^ (8 * width)) in
    more_sizes c _ (put ∷ (item.Ok c.regime.domain ∷ []))
    (append_assoc c.items (put ∷ []) (item.Ok c.regime.domain ∷ [])) (λ chained. ((is, (tt, tt)), chained))
sizes_put_at pa width value (Alone h) is = no_alone h _

-- Changes of a program's own pages.

sizes_write : (q : PageId) (at width value : ℕ) (w : World) → Sizes w (ask_write q at width value w).world
unfolding ask_write
sizes_write q at width value (Flat ram) = no_flat ram _
sizes_write q at width value (Cloaked c) = same_sizes c _ refl refl
sizes_write q at width value (Alone h) = no_alone h _

sizes_copy : (domain from to : ℕ) (w : World) → Sizes w (ask_copy domain from to w).world
unfolding ask_copy copy_pages
sizes_copy domain from to (Flat ram) = no_flat ram _
sizes_copy domain from to (Cloaked c) = same_sizes c _ refl refl
sizes_copy domain from to (Alone h) = no_alone h _

sizes_forget : (domain resource : ℕ) (w : World) → Sizes w (ask_forget domain resource w).world
unfolding ask_forget drop_pages
sizes_forget domain resource (Flat ram) = no_flat ram _
sizes_forget domain resource (Cloaked c) = same_sizes c _ refl refl
sizes_forget domain resource (Alone h) = no_alone h _

-- The step, and the end of a program.

size_step : (d : ℕ) → StepKept d Sizes
size_step d = record {
  replies = size_replies;
  offers = λ q own va. record {
    offered = λ g write c. offer_sizes q g write _ c;
    granted = λ kind walked w. Sizes-noted _ w;
    mismatched = λ g c. same_sizes c _ refl refl;
  };
  puts = λ va width value at w.
      keeps_stored Sizes size_replies width (λ pa value' v. sizes_put_at pa width value' v at.1) va value w;
  writes = sizes_write;
  copies = sizes_copy;
  forgets = sizes_forget;
}

pub sizes_domain_step : (slot : ℕ) (d : Domain) (w : World) → Sizes w (domain_step slot d w).world
sizes_domain_step slot d w =
    let n = d.control.number in step_keeps Sizes slot d (keeps_by n Sizes (size_step n)) w

pub sizes_end : (domain : ℕ) (w : World) → Sizes w (ask_end domain w).world
sizes_end domain w = keeps_end Sizes size_replies.opens.settles sizes_forget domain w
