use Rattle.std.proofs.Common.{◌≡◌, ◌==◌, false, sym, refl, eq-eqb, arith}
use Rattle.alone_views.specs.KernelStanding.{state_with}
use Rattle.alone_views.proofs.KernelHarts.{hart_there, left_context, left_other}
use Rattle.alone_views.proofs.kernel.KernelAlone.leave_context.Goals as goal

pub returns-then-shown-ctx : goal.returns-then-shown-ctx
returns-then-shown-ctx c =
    let old = c.args.self.now in
    let is = hart_there old.harts.items c.args.hart c.index_mut.result.now c.requires c.index_mut.ensures.value in
    record {
      state = λ console. sym (left_context (state_with old console) c.args.hart c.args.ctx c.index_mut.result.now
          c.leave.new.h c.unmark.new.self c.args.shown.now is c.leave.ensures c.unmark.ensures
          (eq-eqb _ _ c.if-shown-ctx.true));
      console = refl;
      schedule = refl;
    }

pub returns-else-shown-ctx : goal.returns-else-shown-ctx
returns-else-shown-ctx c =
    let other : (c.args.shown.now.ctx == c.args.ctx) ≡ false = grind arith in
    left_other _ _ c.args.hart c.args.ctx c.args.shown.now other c.refuse.ensures.becomes
