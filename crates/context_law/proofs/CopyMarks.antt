-- A byte that is copied for a call: its context keeps its reservation, and the byte is stored only in the word that
-- was written in.
use Rattle.std.specs.Prelude.{nat_le}
use Rattle.std.proofs.lemmas.Bool.{cond_both}
use Rattle.std.proofs.Common.{◌≡◌, inl, ℕ, ◌%◌, Bool, false, List, [], ◌∷◌, Option, Some, refl}
use Rattle.cloak_base.specs.declared.names.PageId.{PageId}
use Rattle.cloak_model.specs.declared.answer.Answer.{Answer}
use Rattle.cloak_model.specs.declared.answer.Answer.TheVariants as told
use Rattle.cloak_model.specs.declared.context.PageWord.{PageWord}
use Rattle.cloak_model.specs.Items.{Item}
use Rattle.cloak_model.specs.Items as item
use Rattle.cloak_model.specs.AskPages.{answer_item}
use Rattle.cloak_model.specs.Calls as calls
use Rattle.cloak_model.specs.Calls.{Copy, buffer, area, byte_address, is_cloaked, copy_in_step, copy_out_step}
use Rattle.cloak_model.proofs.CallParts.{out_reached, out_got, out_placed}
use Rattle.cloak_model.specs.Contexts.{Context}
use Rattle.cloak_model.specs.DomainState.{Control}
use Rattle.cloak_model.specs.Resources.{page_at}
use Rattle.cloak_model.specs.World.{World}
use Rattle.cloak_model.specs.Script.{Script, played}
use Rattle.latest_store.specs.Moves.{Move}
use Rattle.latest_store.specs.Deeds.{both_granted, load_at, byte_moves}
use Rattle.latest_store.proofs.Heard.{Heard, if_granted}
use Rattle.context_law.proofs.Answered.{EndsBy, EndBy, end_by}
use Rattle.context_law.proofs.Stores.{or_none, misses_word}
use Rattle.context_law.proofs.Others.{Misses, misses_if, load_misses}
use Rattle.context_law.proofs.InstructionMarks.{writes_word}

pub record CopyDeed (n : ℕ) (c : Context) (moves : List Item → List Move) (answers : List Item) (after : Copy) : Type 0
  where
    pub stores : (word : PageWord) → word.at % 4 ≡ 0 → writes_word word after.wrote ≡ false →
        Misses n word (moves answers)
    pub mark : after.context.mark ≡ c.mark

abbrev Deed : ℕ → (PageId → List ℕ) → Context → (List Item → List Move) → List Item → Script Copy → Type 0
Deed n plain c moves answers s = EndsBy n (CopyDeed n c moves) plain answers s

-- Into the area: whatever is answered, nothing is stored.

module _ (n : ℕ) (plain : PageId → List ℕ) (c : Context) (va : ℕ) (place : Option PageId) where
  loads : (answers : List Item) (after : Copy) → after.context.mark ≡ c.mark →
      CopyDeed n c (if_granted (load_at va 1 place)) answers after
  loads answers after same = record {
    stores = λ word aligned free. misses_if n word (both_granted answers) _ (load_misses n word va 1 place);
    mark = same;
  }

  in_reached_deed : (answers : List Item) (at : ℕ) (a : Answer) (next : Script Copy) →
      Deed n plain c (if_granted (load_at va 1 place)) answers next →
      Deed n plain c (if_granted (load_at va 1 place)) answers (calls.if_reached c at a next)
  in_reached_deed answers at told.Ok next more = more
  in_reached_deed answers at _ next more = loads answers _ refl

  in_apart_deed : (found : Option PageId) (cloaked : Bool) (next : PageId → Script Copy) →
      ((q : PageId) → Deed n plain c (if_granted (load_at va 1 place)) [] (next q)) →
      Deed n plain c (if_granted (load_at va 1 place)) [] (calls.if_apart c found cloaked next)
  in_apart_deed (Some q) false next more = more q
  in_apart_deed _ _ next more = loads [] _ refl

module _ (d : Control) (plain : PageId → List ℕ) (c : Context) where
  in_deed : (done : ℕ) →
      let va = byte_address (buffer c) done in
      Deed d.number plain c (if_granted (load_at va 1 (page_at d.number d.resources c.space va))) []
      (copy_in_step d.number d.resources c done)
  unfolding copy_in_step
  in_deed done =
      let n = d.number in
      let va : ℕ = byte_address (buffer c) done in
      let to : ℕ = byte_address (area c) done in
      let place = page_at n d.resources c.space va in
      cond_both (nat_le (calls.call_length c) done) _ _ (Deed n plain c (if_granted (load_at va 1 place)) [])
      (λ is. loads n plain c va place [] _ refl)
      (λ is. in_apart_deed n plain c va place place (is_cloaked d.resources c to) _
      (λ q a. in_reached_deed n plain c va place _ va a _
      (λ b. in_reached_deed n plain c va place _ to b _ (loads n plain c va place _ _ refl))))

  pub copy_in_deed : (done : ℕ) (w : World) → Heard d.number plain [] w →
      let va = byte_address (buffer c) done in
      EndBy d.number (CopyDeed d.number c (if_granted (load_at va 1 (page_at d.number d.resources c.space va))))
      (played (copy_in_step d.number d.resources c done) w)
  copy_in_deed done w heard =
      end_by d.number _ (copy_in_step d.number d.resources c done) plain [] w (in_deed done) heard

  -- Out of the area.

  still : (moves : List Item → List Move) (answers : List Item) (after : Copy) → after.context.mark ≡ c.mark →
      ((word : PageWord) → Misses d.number word (moves answers)) → CopyDeed d.number c moves answers after
  still moves answers after same none = record { stores = λ word aligned free. none word; mark = same }

  out_reached_deed : (q : PageId) (done total byte : ℕ) (a : Answer) →
      Deed d.number plain c (byte_moves (byte_address (buffer c) done) (Some q))
      (item.Word d.number byte ∷ answer_item d.number a ∷ []) (out_reached c q done total byte a)
  out_reached_deed q done total byte told.Ok =
      λ written. record {
        stores = λ word aligned free.
            or_none _ (misses_word d.number word q (byte_address (buffer c) done) 1 aligned (inl refl) free);
        mark = refl;
      }
  out_reached_deed q done total byte _ = still _ _ _ refl (λ word. refl)

  out_got_deed : (q : PageId) (done total : ℕ) (a : Answer) →
      Deed d.number plain c (byte_moves (byte_address (buffer c) done) (Some q)) (answer_item d.number a ∷ [])
      (out_got c q done total a)
  out_got_deed q done total (told.Word byte) = λ a. out_reached_deed q done total byte a
  out_got_deed q done total _ = still _ _ _ refl (λ word. refl)

  out_placed_deed : (done total : ℕ) (place : Option PageId) (cloaked : Bool) →
      Deed d.number plain c (byte_moves (byte_address (buffer c) done) place) []
      (out_placed c done total place cloaked)
  out_placed_deed done total (Some q) false = λ a. out_got_deed q done total a
  out_placed_deed done total _ _ = still _ _ _ refl (λ word. refl)

  pub copy_out_deed : (done total : ℕ) (w : World) → Heard d.number plain [] w →
      let va = byte_address (buffer c) done in
      EndBy d.number (CopyDeed d.number c (byte_moves va (page_at d.number d.resources c.space va)))
      (played (copy_out_step d.number d.resources c done total) w)
  unfolding copy_out_step
  copy_out_deed done total w heard =
      let place = page_at d.number d.resources c.space (byte_address (buffer c) done) in
      end_by d.number _ (copy_out_step d.number d.resources c done total) plain [] w
      (cond_both (nat_le total done) _ _
      (Deed d.number plain c (byte_moves (byte_address (buffer c) done) place) [])
      (λ is. still _ _ _ refl (λ word. refl))
      (λ is. out_placed_deed done total place (is_cloaked d.resources c (byte_address (area c) done)))) heard
