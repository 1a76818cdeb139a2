use Rattle.std.proofs.Common.{◌≡◌, ℕ, ◌-◌, ◌≤◌, ◌++◌, List, [], length, take}
use Rattle.cloak_base.specs.declared.names.PageId.{PageId}
use Rattle.cloak_model.specs.Fields.{first_in, after_parts}
use Rattle.frozen_state.specs.FrozenFault.{frames_fields, after_frame}
use Rattle.frozen_run.specs.OwedPages.{TellsOwed}
use Rattle.frozen_run.specs.Reading.{values, frame_in}
use Rattle.frozen_run.proofs.reading.frames.fill.Given as goal

abbrev pub invariant-loop-f : goal.invariant-loop-f
invariant-loop-f l =
    let body = l.body in
    let n : ℕ = length l.fn.into in
    record {
      long : length l.into ≡ n;
      value : take l.f l.into ++ values (frame_in body) (after_frame body) (n - l.f) l.at
          ≡ values (frame_in body) (after_frame body) n l.from;
      seen : List PageId;
      row : TellsOwed l.programs l.row seen;
      fields : first_in body (frames_fields body l.programs (n - l.f) seen l.at)
          ≡ first_in body (frames_fields body l.programs n [] l.from);
      end : after_parts (after_frame body) (n - l.f) l.at ≡ after_parts (after_frame body) n l.from;
      within : l.at ≤ length body;
    }
