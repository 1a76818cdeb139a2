-- What holds of each end of a script by the answers before it holds as it is played. The bytes of its pages are known up
-- to the first store.
use Rattle.std.proofs.Common.{◌∙◌, ℕ, List, [], ◌∷◌, ◌++◌, sym, ap, subst}
use Rattle.cloak_base.specs.Pages.{with_page}
use Rattle.cloak_base.specs.declared.names.PageId.{PageId}
use Rattle.cloak_model.specs.declared.answer.Answer.{Answer}
use Rattle.cloak_model.specs.Items.{Item}
use Rattle.cloak_model.specs.Asking.{Told}
use Rattle.cloak_model.specs.AskPages.{answer_item, ask_read, ask_write}
use Rattle.cloak_model.specs.Halves.{inward_half}
use Rattle.cloak_model.specs.Memory.{value_in, with_value_in}
use Rattle.cloak_model.specs.Script.{Write, Script, Gives, Asks, Reads, Changes, asked, played}
use Rattle.cloak_model.specs.World.{World, plain_of}
use Rattle.latest_store.proofs.Heard.{Heard, heard_asked, with_plain_rewrites}

abbrev pub EndsBy : {A : Type 0} → ℕ → (List Item → A → Type 0) → (PageId → List ℕ) → List Item → Script A → Type 0
EndsBy n P plain answers (Gives a) = P answers a
EndsBy n P plain answers (Asks question more) =
    (a : Answer) → EndsBy n P plain (answers ++ answer_item n a ∷ []) (more a)
EndsBy n P plain answers (Reads q at width more) = EndsBy n P plain answers (more (value_in (plain q) at width))
EndsBy n P plain answers (Changes (Write q at width value) more) =
    (written : PageId → List ℕ) → EndsBy n P written answers more
EndsBy n P plain answers (Changes it more) = ⊥

-- as it was played, by what the program was told
pub record EndBy {A : Type 0} (n : ℕ) (P : List Item → A → Type 0) (t : Told A) : Type 0 where
  pub answers : List Item
  pub pages : PageId → List ℕ
  pub heard : Heard n pages answers t.world
  pub ends : P answers t.answer

-- what is written in its pages is told of by no item
heard_written : (n : ℕ) (plain : PageId → List ℕ) (answers : List Item) (q : PageId) (at width value : ℕ) (w : World) →
    Heard n plain answers w →
    Heard n (with_page (plain_of w) q (with_value_in (plain_of w q) at width value)) answers
    (ask_write q at width value w).world
unfolding ask_write
heard_written n plain answers q at width value w heard =
    let new = with_page (plain_of w) q (with_value_in (plain_of w q) at width value) in
    let r = with_plain_rewrites q.domain new w heard.form in
    record {
      form = r.form;
      regime = ap (λ (regime : _). regime.domain) r.regime ∙ heard.regime;
      pages = r.pages;
      told = ap (inward_half n) r.items ∙ heard.told;
    }

pub end_by : {A : Type 0} (n : ℕ) (P : List Item → A → Type 0) (s : Script A) (plain : PageId → List ℕ)
    (answers : List Item) (w : World) → EndsBy n P plain answers s → Heard n plain answers w → EndBy n P (played s w)
unfolding ask_read
end_by n P (Gives a) plain answers w ends heard = record { answers = answers; pages = plain; heard = heard; ends = ends }
end_by n P (Asks question more) plain answers w ends heard =
    let a = (asked question w).answer in
    end_by n P (more a) plain (answers ++ answer_item n a ∷ []) (asked question w).world (ends a)
    (heard_asked n plain answers question w heard)
end_by n P (Reads q at width more) plain answers w ends heard =
    end_by n P (more (value_in (plain_of w q) at width)) plain answers w
    (subst (λ (p : PageId → List ℕ). EndsBy n P plain answers (more (value_in (p q) at width))) (sym heard.pages) ends)
    heard
end_by n P (Changes (Write q at width value) more) plain answers w ends heard =
    end_by n P more (with_page (plain_of w) q (with_value_in (plain_of w q) at width value)) answers
    (ask_write q at width value w).world (ends _) (heard_written n plain answers q at width value w heard)
end_by n P (Changes it more) plain answers w ends heard = absurd ends
