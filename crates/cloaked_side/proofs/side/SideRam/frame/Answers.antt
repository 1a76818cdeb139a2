use Rattle.std.proofs.Common.{◌∙◌, refl}
use Rattle.cloak_model.specs.World.{settled}
use Rattle.cloak_model.specs.Ask.{ask_frame}
use Rattle.cloaked_side.proofs.Sided.{read_after, within_of, within_repaged, read_size, no_more_read}
use Rattle.cloaked_side.proofs.Serving.{wrap_outside}
use Rattle.cloaked_side.proofs.side.SideRam.frame.Goals as goal

pub returns : goal.returns
unfolding ask_frame
returns g c =
    let side = c.settle.new.self in
    let size = read_size side.memory.now
    (record side.memory.now { pager = c.read_outside.follows.lender-at-none })
    c.read_outside.follows.holds-at-none in (
      (
        refl,
        λ now. tt,
        record {
          follows = λ first w sees unclashed.
              wrap_outside g.E.Emit.gave first c.args.self.now _ _ _
              (within_of g.E.Emit.gave c.args.self.now side c.settle.ensures.keeps).stays.regime sees.1
              (read_after g.E.Emit.gave first side _ c.args.f.0 (settled c.args.f.0 w)
              (λ b. b) c.read_outside.result.now c.read_outside.result.now
              (record { stream = refl; draws = refl; missed = refl; marks = refl; emitter = refl; violation = refl; domain = refl; regime = refl }) refl refl
              c.read_outside.ensures.model c.read_outside.follows.holds-at-none refl
              (c.settle.ensures.sees first w sees.0));
          keeps = λ first stays. within_repaged g.E.Emit.gave first side _
              (c.settle.ensures.keeps first stays) refl refl size refl refl refl
              (no_more_read _ _ c.read_outside.follows.holds-at-none);
          same_count = size.frames ∙ c.settle.ensures.same_count;
        },
      ),
      record { lends = tt },
    )
