use Rattle.std.proofs.Common.{◌∙◌, ap, drop}
use Rattle.guest_bundle.proofs.Places.{end_front, gathered_segments}
use Rattle.guest_bundle.proofs.reading.gather.Goals as goal

pub returns : goal.returns
returns c =
    let file = c.args.file.items in
    let parts = c.args.parts in
    let segments =
    c.new-2.ensures ∙ c.in_ok-segments.ensures.segments ∙ gathered_segments file c.move_programs.new.file.items
    c.move_end.new.file.items 0 parts.disk_start parts.disk_end parts.segments.items
    c.in_ok-programs.ensures.rest c.in_ok-disk.ensures.rest c.requires.disk c.requires.segments in
    let disk =
    c.new-3.ensures ∙ c.in_ok-disk.ensures.bytes ∙ ap (drop parts.disk_start) c.in_ok-programs.ensures.rest
    ∙ end_front file parts.disk_start parts.disk_end c.requires.disk in
    let programs = c.new-4.ensures ∙ c.in_ok-programs.ensures.programs in
    λ i. record {
      kernel = record {
        frames = c.args.h.frames;
        harts = c.args.h.harts;
        schedule = c.new.ensures i;
        entry = c.args.h.entry;
        segments = segments i;
        disk = disk i;
      };
      programs = programs i;
    }
