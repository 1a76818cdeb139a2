use Rattle.std.proofs.Common.{◌∙◌, ◌<◌, length, refl, arith}
use Rattle.std.proofs.lemmas.Result.{err_from_is_err_and}
use Rattle.protect_meta.specs.FileTable.{file_at}
use Rattle.joint_machine.proofs.Filed.{adds_none, adds_all, count_stored, differs, no_more, one_more, precedes_at}
use Rattle.joint_machine.proofs.filing.add_files.Goals as goal

pub loop-file-init : goal.loop-file-init
loop-file-init c = record {
  size = record { frames = refl; domains = refl };
  outside = c.requires.outside;
  numbered = λ numbered. numbered;
  unshown = c.requires.unshown;
  new = λ k from low. c.requires.none_there (file_at c.args.files.now k);
  shadows = refl;
  adds = λ contents j tells sealed are. adds_none c.args.memory.now c.args.domains.now contents j are;
}

pub returns-in_err-add_file-clause-adds : goal.returns-in_err-add_file-clause-adds
returns-in_err-add_file-clause-adds c contents j tells sealed are =
    let p = err_from_is_err_and c.from_residual.result c.from_residual.ensures.1 in
    rw (p.1, p.2) (no_more c.args.memory.now c.loop-file.memory c.loop-file.domains c.loop-file.file _ contents c.args.files.now j
    (omega (arith, c.loop-file-test.true, c.count-file-end.ensures.count)) tells sealed
    (c.loop-file.invariant.adds contents j tells sealed are) c.in_err-add_file.ensures.adds)

pub add_file-requires-clause-is_file : goal.add_file-requires-clause-is_file
add_file-requires-clause-is_file c =
    c.requires.table.each c.loop-file.file _ (omega (arith, c.loop-file-test.true, c.count-file-end.ensures.count))

pub add_file-requires-clause-is_new : goal.add_file-requires-clause-is_new
add_file-requires-clause-is_new c =
    c.loop-file.invariant.new c.loop-file.file (omega arith)
    (omega (arith, c.loop-file-test.true, c.count-file-end.ensures.count))

pub loop-file-preserved : goal.loop-file-preserved
loop-file-preserved c =
    let so_far = c.loop-file.invariant in
    let files = c.args.files.now in
    let low : c.loop-file.file < length files = omega (arith, c.loop-file-test.true, c.count-file-end.ensures.count) in
    let done = c.in_ok-add_file.ensures in
    record {
      size = record {
        frames = done.size.frames ∙ so_far.size.frames;
        domains = done.size.domains ∙ so_far.size.domains;
      };
      outside = done.outside;
      numbered = λ numbered. done.numbered (so_far.numbered numbered);
      unshown = done.unshown;
      new = λ k from within.
          done.others (file_at files k)
          (differs (file_at files c.loop-file.file) (file_at files k)
          (precedes_at files c.requires.table.rise c.loop-file.file k (omega (arith, from)) within))
          (so_far.new k (omega (arith, from)) within);
      shadows = done.shadows ∙ so_far.shadows;
      adds = λ contents j tells sealed are.
          one_more c.args.memory.now c.loop-file.memory _ c.loop-file.domains _ c.loop-file.file contents files j low tells
          sealed (so_far.adds contents j tells sealed are) done.adds;
    }

pub returns-clause-adds : goal.returns-clause-adds
returns-clause-adds c contents j tells sealed are =
    adds_all c.args.memory.now c.loop-file.memory c.loop-file.domains c.loop-file.file contents j
    (omega (arith, count_stored contents c.args.files.now tells, c.loop-file-test.false, c.count-file-end.ensures.count))
    (c.loop-file.invariant.adds contents j tells sealed are)
