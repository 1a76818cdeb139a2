-- A step of a program is what its shape says.
use Rattle.std.proofs.Common.{◌≡◌, ◌∙◌, ℕ, true, List, refl, sym, ap, subst}
use Rattle.std.proofs.lemmas.Bool.{false≢true}
use Rattle.cloak_base.specs.Pages.{zero_page, with_page, with_resource, with_copied}
use Rattle.cloak_base.specs.declared.names.PageId.{PageId}
use Rattle.cloak_model.specs.declared.answer.Answer.{Answer}
use Rattle.cloak_model.specs.PageMoves.{copy_pages, drop_pages}
use Rattle.cloak_model.specs.Memory.{value_in, with_value_in}
use Rattle.cloak_model.specs.World.{World, MidStep, Flat, Cloaked, Alone}
use Rattle.cloak_model.specs.Asking.{Told}
use Rattle.cloak_model.specs.AskPages.{ask_read, ask_write, ask_copy, ask_forget}
use Rattle.cloak_model.specs.Script.{Script, Gives, Asks, Reads, Changes, Write, Copy, Forget, asked, played}
use Rattle.cloak_model.specs.Veil.{IsBlind}
use Rattle.cloak_model.specs.VeilWorld.{veiled_step, veiled_world, seal_of, pages_of, is_cloaked, veiled_told}
use Rattle.cloak_model.specs.Shape.{Shape, Ends, Inquires, Duplicates, Discards, shape, played_shape, telling}
use Rattle.cloak_model.proofs.VeilWorlds.{asked_veils, asked_seals, asked_keeps, asked_cloaked}

-- A shape does not tell veiled from plain.
module _ {B : Type 0} where
  pub shape_veils : (s : Shape B) (w : World) → is_cloaked w ≡ true → IsBlind (seal_of w) →
      veiled_told (played_shape s (veiled_world w)) ≡ veiled_told (played_shape s w)
  unfolding played_shape ask_copy ask_forget copy_pages drop_pages
  shape_veils s (Flat seen) is blind = absurd (false≢true is)
  shape_veils s (Alone h) is blind = absurd (false≢true is)
  shape_veils (Ends b) (Cloaked c) is blind = refl
  shape_veils (Inquires question more) (Cloaked c) is blind =
      let t : Told Answer = asked question (Cloaked c) in
      let t' : Told Answer = asked question (Cloaked (veiled_step c)) in
      sym (shape_veils (more t'.answer) t'.world (asked_cloaked question (veiled_step c)) (subst IsBlind (sym (asked_seals question (veiled_step c))) blind))
      ∙ (ap (λ (x : Told Answer). veiled_told (played_shape (more x.answer) x.world)) (asked_veils question c blind)
      ∙ shape_veils (more t.answer) t.world (asked_cloaked question c) (subst IsBlind (sym (asked_seals question c)) blind))
  shape_veils (Duplicates domain from to more) (Cloaked c) is blind =
      sym (shape_veils more (Cloaked (record (veiled_step c) { memory = copy_pages domain from to (veiled_step c).memory })) refl blind)
      ∙ shape_veils more (Cloaked (record c { memory = copy_pages domain from to c.memory })) refl blind
  shape_veils (Discards domain resource more) (Cloaked c) is blind =
      sym (shape_veils more (ask_forget domain resource (Cloaked (veiled_step c))).world refl blind)
      ∙ shape_veils more (ask_forget domain resource (Cloaked c)).world refl blind

-- what is written in a page is veiled
write_veils : {B : Type 0} (q : PageId) (at width value : ℕ) (s : Shape B) (c : MidStep) → IsBlind c.memory.ledger.keys.seal →
    veiled_told (played_shape s (ask_write q at width value (Cloaked c)).world) ≡ veiled_told (played_shape s (Cloaked c))
unfolding ask_write
write_veils q at width value s c blind =
    sym (shape_veils s (ask_write q at width value (Cloaked c)).world refl blind) ∙ shape_veils s (Cloaked c) refl blind

-- a step in a world whose pages have these bytes
module _ {A B : Type 0} (tell : A → B) where
  pub plays : (s : Script A) (w : World) (plain : PageId → List ℕ) → pages_of w ≡ plain → is_cloaked w ≡ true → IsBlind (seal_of w) →
      veiled_told (telling tell (played s w)) ≡ veiled_told (played_shape (shape tell s plain) w)
  unfolding shape played_shape ask_read ask_write ask_copy ask_forget copy_pages drop_pages
  plays s (Flat seen) plain same is blind = absurd (false≢true is)
  plays s (Alone h) plain same is blind = absurd (false≢true is)
  plays (Gives a) (Cloaked c) plain same is blind = refl
  plays (Asks question more) (Cloaked c) plain same is blind =
      let t : Told Answer = asked question (Cloaked c) in
      plays (more t.answer) t.world plain (asked_keeps question c ∙ same) (asked_cloaked question c) (subst IsBlind (sym (asked_seals question c)) blind)
  plays (Reads q at width more) (Cloaked c) plain same is blind =
      plays (more (value_in (c.memory.plain q) at width)) (Cloaked c) plain same refl blind
      ∙ ap (λ (p : PageId → List ℕ). veiled_told (played_shape (shape tell (more (value_in (p q) at width)) plain) (Cloaked c))) same
  plays (Changes (Write q at width value) more) (Cloaked c) plain same is blind =
      plays more (ask_write q at width value (Cloaked c)).world (with_page plain q (with_value_in (plain q) at width value))
      (ap (λ (p : PageId → List ℕ). with_page p q (with_value_in (p q) at width value)) same) refl blind
      ∙ write_veils q at width value (shape tell more (with_page plain q (with_value_in (plain q) at width value))) c blind
  plays (Changes (Copy domain from to) more) (Cloaked c) plain same is blind =
      plays more (ask_copy domain from to (Cloaked c)).world (with_copied plain domain from to)
      (ap (λ (p : PageId → List ℕ). with_copied p domain from to) same) refl blind
  plays (Changes (Forget domain resource) more) (Cloaked c) plain same is blind =
      plays more (ask_forget domain resource (Cloaked c)).world (with_resource plain domain resource zero_page)
      (ap (λ (p : PageId → List ℕ). with_resource p domain resource zero_page) same) refl blind

  pub steps_are_shapes : (s : Script A) (c : MidStep) → IsBlind c.memory.ledger.keys.seal →
      veiled_told (telling tell (played s (Cloaked c)))
      ≡ veiled_told (played_shape (shape tell s c.memory.plain) (Cloaked (veiled_step c)))
  steps_are_shapes s c blind =
      plays s (Cloaked c) c.memory.plain refl refl blind
      ∙ sym (shape_veils (shape tell s c.memory.plain) (Cloaked c) refl blind)
