use Rattle.std.proofs.Common.{◌∙◌, inl, inr, refl}
use Rattle.command_parts.specs.Outside.{outside}
use Rattle.draw_command.proofs.Answered.{draws, makes_since}
use Rattle.draw_command.proofs.command.draw_command.Goals as goal

pub returns-in-Err : goal.returns-in-Err
returns-in-Err g c =
    inr (record {
      refused = c.in-Err.refusal;
      cause = c.in-Err.ensures.bundle;
      refuses = record { held = c.in-Err.ensures.files; writing = c.in-Err.ensures.writing; line = c.refuse.ensures };
    })

pub returns : goal.returns
returns g c =
    inl (record {
      bundle = c.in-Ok.bundle;
      file = c.in-Ok.ensures.bundle.1;
      draws = draws c.in-Ok.bundle c.args.record_name.now c.args.out_name.now
          (outside g.S.Shelf g.O.Sink c.args.shelf.now c.args.out.now)
          (outside g.S.Shelf g.O.Sink c.make_picture-made.new.shelf c.args.out.now)
          (outside g.S.Shelf g.O.Sink c.conclude.new.shelf c.conclude.new.out) c.conclude.result c.make_picture-made.result
          (λ name. c.make_picture-made.ensures.files name ∙ c.in-Ok.ensures.files name)
          (c.make_picture-made.ensures.writing ∙ c.in-Ok.ensures.writing) refl
          (makes_since c.in-Ok.bundle.kernel _ _ _ _ _ c.make_picture-made.result
          (c.in-Ok.ensures.files c.args.record_name.now) c.in-Ok.ensures.bundle.0 c.make_picture-made.ensures.makes)
          c.conclude.ensures;
    })
