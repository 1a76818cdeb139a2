-- What a byte that is copied for a call does to the pages of its program, and what each step does.
use Rattle.std.proofs.Common.{◌≡◌, ℕ, ◌%◌, Bool, true, false, List, [], ◌∷◌, ◌++◌, Option, Some, None, refl, sym, ap, append-nil}
use Rattle.cloak_base.specs.Pages.{with_page}
use Rattle.cloak_base.specs.declared.names.Kind.TheVariants.{Load, Store}
use Rattle.cloak_base.specs.declared.names.PageId.{PageId}
use Rattle.cloak_model.specs.declared.answer.Answer.{Answer}
use Rattle.cloak_model.specs.declared.answer.Answer.TheVariants as told
use Rattle.cloak_model.specs.declared.context.Phase.{Phase}
use Rattle.cloak_model.specs.declared.context.Phase.TheVariants.{Plain, CopyIn, Waiting, CopyOut}
use Rattle.cloak_model.specs.Items.{Item}
use Rattle.cloak_model.specs.Items as item
use Rattle.cloak_model.specs.Asking.{answered, then_ask}
use Rattle.cloak_model.specs.AskPages.{answer_item, ask_read, ask_write}
use Rattle.cloak_model.specs.Calls.{Copy, buffer, area, byte_address, copy_in_step, copy_out_step}
use Rattle.cloak_model.proofs.CallParts.{in_put, in_reached, in_placed, in_step, out_reached, out_got, out_placed, out_step}
use Rattle.cloak_model.specs.Contexts.{Context, context_at}
use Rattle.cloak_model.specs.DomainState.{Domain}
use Rattle.cloak_model.specs.DomainStep.{domain_script, copy_ended, phase_step, step_if, domain_step}
use Rattle.cloak_model.specs.Memory.{value_in, with_value_in}
use Rattle.cloak_model.specs.Resources.{page_at}
use Rattle.cloak_model.specs.World.{World, plain_of}
use Rattle.cloak_model.specs.Script.{Reach, Get, Put}
use Rattle.cloak_model.specs.Script.{Script, played}
use Rattle.cloak_model.proofs.Playing.{by_plain, by_copy_in, by_copy_out}
use Rattle.latest_store.specs.Moves.{Move, Loads}
use Rattle.latest_store.specs.Deeds.{load_at, byte_moves, phase_moves, context_moves}
use Rattle.latest_store.proofs.Moved.{Agrees}
use Rattle.latest_store.proofs.Numbers.{MapsHeld, HeldPlace, held_page, follows_same}
use Rattle.latest_store.proofs.Fits.{fits_load, fits_store}
use Rattle.latest_store.proofs.Heard.{Heard, heard_asked, Did, quiet, rewritten, written_did, if_granted}
use Rattle.latest_store.proofs.InstructionDeeds.{instruction_did}

module _ (slot : ℕ) (d : Domain) (plain : PageId → List ℕ) (c : Context) (done : ℕ) where
  -- a copying step, and then its end, does these moves
  abbrev Does : (List Item → List Move) → Script Copy → World → Type 0
  Does moves s w =
      Did plain d moves (then_ask (played s) (λ copy. answered (copy_ended slot d copy.context copy.ending)) w)

  -- where the byte lies in the buffer, and the page there
  abbrev from : ℕ
  from = byte_address (buffer c) done

  abbrev page : Option PageId
  page = page_at d.control.number d.control.resources c.space from

  abbrev Held : Option PageId → Type 0
  Held place = MapsHeld d.control.resources → HeldPlace d.control.resources place

  -- Into the area.

  in_put_did : (q : PageId) (byte : ℕ) (a : Answer) (w : World) → byte ≡ value_in (plain q) (from % 4096) 1 →
      Heard d.control.number plain (item.Ok d.control.number ∷ answer_item d.control.number a ∷ []) w →
      Does (if_granted (Loads q from 1 ∷ [])) (in_put c done byte a) w
  unfolding copy_ended
  in_put_did q byte told.Ok w same heard = record {
    answers = item.Ok d.control.number ∷ item.Ok d.control.number ∷ [];
    form = heard.form;
    told = heard.told;
    pages = heard.pages;
    loads = ap (λ (x : ℕ). d.loads ++ (from, x) ∷ []) same;
    fits = fits_load d.control.number d.control.resources q from 1;
  }
  in_put_did q byte _ w same heard = quiet _ _ _ _ _ w heard refl refl (follows_same _)

  in_reached_did : (q : PageId) (a : Answer) (w : World) →
      Heard d.control.number plain (answer_item d.control.number a ∷ []) w →
      Does (if_granted (Loads q from 1 ∷ [])) (in_reached c q done a) w
  unfolding ask_read copy_ended
  in_reached_did q told.Ok w heard =
      let byte : ℕ = value_in (plain_of w q) (from % 4096) 1 in
      in_put_did q byte _ _ (ap (λ (p : PageId → List ℕ). value_in (p q) (from % 4096) 1) heard.pages)
      (heard_asked d.control.number plain (item.Ok d.control.number ∷ []) (Put (byte_address (area c) done) 1 byte) w
      heard)
  in_reached_did q _ w heard = quiet _ _ _ _ _ w heard refl refl (follows_same _)

  in_placed_did : (place : Option PageId) (cloaked : Bool) (w : World) → Heard d.control.number plain [] w →
      Does (if_granted (load_at from 1 place)) (in_placed c done place cloaked) w
  unfolding copy_ended
  in_placed_did (Some q) false w heard =
      in_reached_did q _ _ (heard_asked d.control.number plain [] (Reach q from Load) w heard)
  in_placed_did (Some q) true w heard = quiet _ _ _ _ _ w heard refl refl (follows_same _)
  in_placed_did None cloaked w heard = quiet _ _ _ _ _ w heard refl refl (follows_same _)

  in_step_did : (all : Bool) (w : World) → Heard d.control.number plain [] w →
      Does (if_granted (load_at from 1 page)) (in_step all d.control.number d.control.resources c done) w
  unfolding copy_ended
  in_step_did true w heard = quiet _ _ _ _ _ w heard refl refl (follows_same _)
  in_step_did false w heard = in_placed_did _ _ w heard

  -- Out of the area.

  out_reached_did : (q : PageId) (total byte : ℕ) (a : Answer) (w : World) → Held (Some q) →
      Heard d.control.number plain (item.Word d.control.number byte ∷ answer_item d.control.number a ∷ []) w →
      Does (byte_moves from (Some q)) (out_reached c q done total byte a) w
  unfolding ask_write copy_ended
  out_reached_did q total byte told.Ok w held heard =
      rewritten plain d _ _ _ q.domain (λ p. with_page p q (with_value_in (p q) (from % 4096) 1 byte)) w heard refl
      (sym (append-nil d.loads)) (fits_store d.control.number d.control.resources q (from % 4096) 1 byte held)
  out_reached_did q total byte _ w held heard = quiet _ _ _ _ _ w heard refl refl (follows_same _)

  out_got_did : (q : PageId) (total : ℕ) (a : Answer) (w : World) → Held (Some q) →
      Heard d.control.number plain (answer_item d.control.number a ∷ []) w →
      Does (byte_moves from (Some q)) (out_got c q done total a) w
  unfolding copy_ended
  out_got_did q total told.Ok w held heard = quiet _ _ _ _ _ w heard refl refl (follows_same _)
  out_got_did q total (told.Word byte) w held heard =
      out_reached_did q total byte _ _ held
      (heard_asked d.control.number plain (item.Word d.control.number byte ∷ []) (Reach q from Store) w heard)
  out_got_did q total _ w held heard = quiet _ _ _ _ _ w heard refl refl (follows_same _)

  out_placed_did : (total : ℕ) (place : Option PageId) (cloaked : Bool) (w : World) → Held place →
      Heard d.control.number plain [] w → Does (byte_moves from place) (out_placed c done total place cloaked) w
  unfolding copy_ended
  out_placed_did total (Some q) false w held heard =
      out_got_did q total _ _ held (heard_asked d.control.number plain [] (Get (byte_address (area c) done) 1) w heard)
  out_placed_did total (Some q) true w held heard = quiet _ _ _ _ _ w heard refl refl (follows_same _)
  out_placed_did total None cloaked w held heard = quiet _ _ _ _ _ w heard refl refl (follows_same _)

  out_step_did : (all : Bool) (total : ℕ) (w : World) → Heard d.control.number plain [] w →
      Does (byte_moves from page) (out_step all d.control.number d.control.resources c done total) w
  unfolding copy_ended
  out_step_did true total w heard = quiet _ _ _ _ _ w heard refl refl (follows_same _)
  out_step_did false total w heard =
      out_placed_did total _ _ w (held_page d.control.number d.control.resources c.space from) heard

-- Each step.

phase_did : (p : Phase) (slot : ℕ) (d : Domain) (history : List Move) (plain : PageId → List ℕ) (c : Context)
    (w : World) → Agrees history plain → Heard d.control.number plain [] w →
    Did plain d (phase_moves p history d.control c) (played (phase_step p slot c d) w)
unfolding phase_step phase_moves copy_in_step copy_out_step
phase_did Plain slot d history plain c w agrees heard =
    by_plain (Did plain d (phase_moves Plain history d.control c)) slot c d w
    (written_did plain d _ _ _ (instruction_did slot d plain c history w agrees heard))
phase_did (CopyIn done) slot d history plain c w agrees heard =
    by_copy_in (Did plain d (phase_moves (CopyIn done) history d.control c)) done slot c d w
    (in_step_did slot d plain c done _ w heard)
phase_did Waiting slot d history plain c w agrees heard = quiet _ _ _ _ _ w heard refl refl (follows_same _)
phase_did (CopyOut done total) slot d history plain c w agrees heard =
    by_copy_out (Did plain d (phase_moves (CopyOut done total) history d.control c)) done total slot c d w
    (written_did plain d _ _ _ (out_step_did slot d plain c done _ total w heard))

step_if_did : (o : Option Context) (slot : ℕ) (d : Domain) (history : List Move) (plain : PageId → List ℕ)
    (w : World) → Agrees history plain → Heard d.control.number plain [] w →
    Did plain d (context_moves o history d.control) (played (step_if o slot d) w)
unfolding step_if context_moves
step_if_did None slot d history plain w agrees heard = quiet _ _ _ _ _ w heard refl refl (follows_same _)
step_if_did (Some c) slot d history plain w agrees heard = phase_did c.phase slot d history plain c w agrees heard

pub step_did : (slot : ℕ) (d : Domain) (history : List Move) (plain : PageId → List ℕ) (w : World) →
    Agrees history plain → Heard d.control.number plain [] w →
    Did plain d (context_moves (context_at d.control.contexts slot) history d.control)
    (domain_step slot d w)
unfolding domain_step domain_script
step_did slot d history plain w agrees heard = step_if_did _ slot d history plain w agrees heard
