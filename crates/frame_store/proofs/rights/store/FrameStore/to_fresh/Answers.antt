use Rattle.std.proofs.Common.{◌∙◌, ap}
use Rattle.std.proofs.Math.ListN.{set}
use Rattle.cloak_base.specs.Pages.{zero_page}
use Rattle.cloak_base.specs.declared.names.Frame.{Frame}
use Rattle.frame_store.proofs.rights.store.FrameStore.to_fresh.Goals as goal

pub returns-clause-bytes : goal.returns-clause-bytes
unfolding zero_page
returns-clause-bytes c = c.fill.ensures ∙ ap (λ (x : Frame). set c.args.self.now x.0 zero_page) c.r.view_is
