-- No step of a cloaked program changes the page tables that are recorded, nor does what the end of a domain asks.
use Rattle.std.proofs.Common.{◌≡◌, ◌∙◌, ℕ, Bool, List, refl, Option, Some, None}
use Rattle.cloak_base.specs.declared.names.PageId.{PageId}
use Rattle.cloak_model.specs.Events.{Event}
use Rattle.cloak_model.specs.World.{World, Flat, Cloaked, Alone, noted, stored_at, settled, written, with_plain}
use Rattle.cloak_model.specs.Items.{Item}
use Rattle.cloak_model.specs.AskPages.{ask_copy, ask_forget}
use Rattle.cloak_model.specs.DomainState.{Domain}
use Rattle.cloak_model.specs.DomainStep.{domain_step}
use Rattle.cloak_model.specs.Ending.{ask_end}
use Rattle.script_fold.proofs.Folding.{step_keeps}
use Rattle.script_fold.proofs.Questions.{Kept, settles_of}
use Rattle.script_fold.proofs.ByQuestions.{kept_by}
use Rattle.script_fold.proofs.Endings.{keeps_end}
use Rattle.cloak_base.specs.Random.{Random}
use Rattle.cloak_model.specs.Ledger.{next_vector}
use Rattle.cloak_model.specs.Cloaking.{CloakedMemory, settle, settle_owed, offer}
use Rattle.script_fold.specs.Tables.{recorded_tables}
use Rattle.cloak_model.specs.PageMoves.{copy_pages, drop_pages}
use Rattle.cloak_model.proofs.Offering.{settle_keeps, offer_keeps}

-- the page tables that spaces were first resumed with
pub record SameRoot (w v : World) : Type 0 where
  pub root : recorded_tables v ≡ recorded_tables w

pub same_refl : (w : World) → SameRoot w w
same_refl w = record { root = refl }

pub same_trans : (u v w : World) → SameRoot u v → SameRoot v w → SameRoot u w
same_trans u v w p q = record { root = q.root ∙ p.root }

settle_owed_root : (f : ℕ) (q : PageId) (draw : Option (List ℕ × Random)) (m : CloakedMemory) → (settle_owed f q draw m).memory.ledger.root ≡ m.ledger.root
unfolding settle_owed
settle_owed_root f q None m = refl
settle_owed_root f q (Some draw) m = refl

-- settling records no page table
pub settle_root : (f : ℕ) (m : CloakedMemory) → (settle f m).memory.ledger.root ≡ m.ledger.root
settle_root f m =
    settle_keeps (λ x. x.ledger.root ≡ m.ledger.root)
    (λ g q x is same. settle_owed_root g q (next_vector x.ledger) x ∙ same) f m refl

pub offer_root : (q : PageId) (g : ℕ) (write : Bool) (m : CloakedMemory) → (offer q g write m).memory.ledger.root ≡ m.ledger.root
offer_root q g write m = offer_keeps {Q = λ x. x.ledger.root ≡ m.ledger.root} (record {
  settles = λ f p x is same. settle_owed_root f p (next_vector x.ledger) x ∙ same;
  compares = λ a b x same. same;
  takes = λ g' x clean same. same;
  stays = λ x same. same;
}) g write m refl

copy_root : (domain from to : ℕ) (m : CloakedMemory) → (copy_pages domain from to m).ledger.root ≡ m.ledger.root
unfolding copy_pages
copy_root domain from to m = refl

drop_root : (domain resource : ℕ) (m : CloakedMemory) → (drop_pages domain resource m).ledger.root ≡ m.ledger.root
unfolding drop_pages
drop_root domain resource m = refl

pub same_settled : (f : ℕ) (w : World) → SameRoot w (settled f w)
same_settled f (Flat ram) = same_refl (Flat ram)
same_settled f (Cloaked c) = record { root = settle_root f c.memory }
same_settled f (Alone h) = same_refl (Alone h)

pub same_stored_at : (pa width value : ℕ) (w : World) → SameRoot w (stored_at pa width value w)
same_stored_at pa width value (Flat ram) = record { root = refl }
same_stored_at pa width value (Cloaked c) = record { root = refl }
same_stored_at pa width value (Alone h) = same_refl (Alone h)

pub same_noted : (events : List Event) (w : World) → SameRoot w (noted events w)
same_noted events (Flat ram) = same_refl (Flat ram)
same_noted events (Cloaked c) = record { root = refl }
same_noted events (Alone h) = same_refl (Alone h)

pub same_written : (i : Item) (w : World) → SameRoot w (written i w)
same_written i (Flat ram) = same_refl (Flat ram)
same_written i (Cloaked c) = record { root = refl }
same_written i (Alone h) = same_refl (Alone h)

pub same_with_plain : (domain : ℕ) (plain : PageId → List ℕ) (w : World) → SameRoot w (with_plain domain plain w)
same_with_plain domain plain (Flat ram) = same_refl (Flat ram)
same_with_plain domain plain (Cloaked c) = record { root = refl }
same_with_plain domain plain (Alone h) = record { root = refl }

pub rooted_copy : (domain from to : ℕ) (w : World) → SameRoot w (ask_copy domain from to w).world
unfolding ask_copy
rooted_copy domain from to (Flat ram) = same_refl (Flat ram)
rooted_copy domain from to (Cloaked c) = record { root = copy_root domain from to c.memory }
rooted_copy domain from to (Alone h) = record { root = refl }

pub rooted_forget : (domain resource : ℕ) (w : World) → SameRoot w (ask_forget domain resource w).world
unfolding ask_forget
rooted_forget domain resource (Flat ram) = same_refl (Flat ram)
rooted_forget domain resource (Cloaked c) = record { root = drop_root domain resource c.memory }
rooted_forget domain resource (Alone h) = record { root = refl }

root_changes : Kept SameRoot
root_changes = record {
  same = same_refl;
  chained = same_trans;
  settled = same_settled;
  stored_at = same_stored_at;
  noted = same_noted;
  written = same_written;
  with_plain = same_with_plain;
  offered = λ q g write c. record { root = offer_root q g write c.memory };
  mismatched = λ q g c. record { root = refl };
  told = λ h rest. record { root = refl };
  unfit = λ h. record { root = refl };
}

pub rooted_domain_step : (slot : ℕ) (d : Domain) (w : World) → SameRoot w (domain_step slot d w).world
rooted_domain_step slot d w = step_keeps SameRoot slot d (kept_by SameRoot root_changes rooted_copy rooted_forget d.control.number) w

pub rooted_end : (d : ℕ) (w : World) → SameRoot w (ask_end d w).world
rooted_end d w = keeps_end SameRoot (settles_of SameRoot root_changes) rooted_forget d w
