use Rattle.std.proofs.Common.{◌∙◌, refl, ap, ℕ, [], slice_index_or, slice_set}
use Rattle.cloak_model.specs.Memory.{with_value_in}
use Rattle.alone_views.proofs.SideFollows.{write_follows}
use Rattle.alone_views.proofs.side.HandedSidePageSide.write.Goals as goal

pub returns-clause-follows : goal.returns-clause-follows
returns-clause-follows c = write_follows c.args.self.now _ c.args.q c.args.at c.args.width c.args.v (record { same_domain = refl; answers = refl; unfit = refl }) c.args.self.now.all c.requires.writable
    (c.store.ensures.pages ∙ ap (λ (place : ℕ). slice_set c.args.self.now.pages place (with_value_in (slice_index_or c.args.self.now.pages place []) c.args.at c.args.width c.args.v)) c.page_place.ensures.value)
