use Rattle.std.proofs.Common.{rules, ◌∙◌, refl, sym, ap, subst, ℕ, Some, length}
use Rattle.cloak_model.specs.Cloaking.{settle}
use Rattle.cloak_base.specs.Constants.{frame_of, place_of}
use Rattle.cloak_model.specs.Memory.{value_in}
use Rattle.shadow_fold.specs.Fold.{frame, touched}
use Rattle.shadow_fold.specs.Reads.{Spends}
use Rattle.cloaked_side.specs.Holding.{Settles}
use Rattle.cloaked_side.specs.Tracking.{TracksBy, spent_in}
use Rattle.shadow_fold.specs.Table.{is_known}
use Rattle.cloaked_side.proofs.Losing.{loses_killed}
use Rattle.cloaked_side.proofs.Spending.{maps_killed}
use Rattle.cloak_pager.specs.Asking.{SeesFrame}
use Rattle.cloaked_side.proofs.Sided.{walking_read, word_told, within_of, within_repaged, read_size, no_more_read}
use Rattle.cloaked_side.proofs.side.SideWordMemory.word.Goals as goal

pub returns-clause-follows : goal.returns-clause-follows
returns-clause-follows g c first w sees unclashed =
    let pa = c.args.pa in
    let old = c.args.self.now in
    let side = c.settle.new.self in
    let bytes = c.read_outside.result.now in
    let kept = within_of g.E.Emit.gave old side c.settle.ensures.keeps in
    let f = frame_of pa in
    let at = c.frame_of-f.ensures in
    word_told g.E.Emit.gave first old _ w pa _ c.is_inside.result sees c.is_inside.ensures.value
    (search rules)
    (walking_read g.E.Emit.gave first old side _ f w
    (λ b. Some (value_in b (place_of pa) 4)) bytes _
    (λ m holds. subst (λ (n : ℕ). Settles g.E.Emit.gave old.emitter.now side.emitter.now side.memory.now (settle n m)) at (c.settle.ensures.settles m holds))
    (subst (λ (n : ℕ). TracksBy old.memory.now side.memory.now (touched (frame n))) at c.settle.ensures.tracks)
    (λ m holds. subst (λ (n : ℕ). Spends 0 (length (settle n m).ciphers) (spent_in old.memory.now) (spent_in side.memory.now)) at (c.settle.ensures.spends m holds))
    (maps_killed old.memory.now side.memory.now _ c.frame_of-f.result c.settle.ensures.ends)
    c.settle.ensures.violation c.settle.ensures.domain kept.stays.regime
    (record { stream = refl; draws = refl; missed = refl; marks = refl; emitter = refl; violation = refl; domain = refl; regime = refl }) refl refl
    (subst (λ (n : ℕ). SeesFrame side.memory.now.pager n bytes) at c.read_outside.ensures.model)
    c.read_outside.follows.holds-at-none
    (ap (λ n. Some n) (c.value_in.ensures ∙ ap (λ n. value_in bytes n 4) c.place_of.ensures.value)) sees)

pub returns-clause-keeps : goal.returns-clause-keeps
returns-clause-keeps g c first stays = record {
  within = within_repaged g.E.Emit.gave first c.settle.new.self _ (c.settle.ensures.keeps first stays.within) refl refl
      (read_size _ _ c.read_outside.follows.holds-at-none) refl refl refl (no_more_read _ _ c.read_outside.follows.holds-at-none);
  loses = λ regime page kind known. stays.loses regime page kind
      (loses_killed _ _ c.args.self.now.memory.now.shadows regime page kind (sym (ap (is_known regime page kind) c.settle.ensures.ends) ∙ known));
}
