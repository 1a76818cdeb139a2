use Rattle.std.proofs.Common.{◌∙◌, ap, sym}
use Rattle.alone_views.specs.DomainMoments.{running_in}
use Rattle.alone_views.specs.DomainStanding.{hart_at, stage_told, schedule_in}
use Rattle.alone_views.proofs.domain.DomainAlone.running.Goals as goal

pub returns-in-Running : goal.returns-in-Running
returns-in-Running c number schedule s stands fits =
    sym (ap running_in ((stands.state.while_fit fits).stage
    ∙ ap (stage_told (hart_at (schedule_in c.args.self.now) c.args.self.now.steps)) c.in-Running.is))

pub returns-in-Between : goal.returns-in-Between
returns-in-Between c number schedule s stands fits =
    sym (ap running_in ((stands.state.while_fit fits).stage
    ∙ ap (stage_told (hart_at (schedule_in c.args.self.now) c.args.self.now.steps)) c.in-Between.is))

pub returns-in-Other : goal.returns-in-Other
returns-in-Other c number schedule s stands fits =
    sym (ap running_in ((stands.state.while_fit fits).stage
    ∙ ap (stage_told (hart_at (schedule_in c.args.self.now) c.args.self.now.steps)) c.in-Other.is))

pub returns-in-Done : goal.returns-in-Done
returns-in-Done c number schedule s stands fits =
    sym (ap running_in ((stands.state.while_fit fits).stage
    ∙ ap (stage_told (hart_at (schedule_in c.args.self.now) c.args.self.now.steps)) c.in-Done.is))

pub returns-in-Stopped : goal.returns-in-Stopped
returns-in-Stopped c number schedule s stands fits =
    sym (ap running_in ((stands.state.while_fit fits).stage
    ∙ ap (stage_told (hart_at (schedule_in c.args.self.now) c.args.self.now.steps)) c.in-Stopped.is))
