use Rattle.std.proofs.Common.{◌≡◌, ◌∙◌, ap}
use Rattle.system_io.specs.Files.{ShelfState, fresh_shelf}
use Rattle.cloak_commands.proofs.OnDisk.{completes_over, has_run, judges_over, runs_over}
use Rattle.cloak_commands.proofs.over.program_over.Goals.{then-must_last, else-must_last}
use Rattle.cloak_commands.proofs.over.program_over.Goals as goal

pub returns : goal.returns
returns g c =
    let shelf : c.if-must_last.shelf ≡ fresh_shelf c.args.disk =
    elim c.if-must_last.branch [
      | then-must_last w ↦ w.shelf-is ∙ (w.wait_for_medium.ensures ∙ c.in-Ok.ensures.ok)
      | else-must_last w ↦ w.shelf-is ∙ c.in-Ok.ensures.ok
    ] in
    let over =
    runs_over g.D.FileSystem.told c.args.disk c.close-2.result _ _ c.if-must_last.shelf c.run_program-status.new.shelf
    c.in-Ok-open_or_return.out c.run_program-status.new.out c.run_program-status.result shelf
    c.in-Ok-open_or_return.ensures.ok c.run_program-status.ensures.exits c.run_program-status.ensures.files
    c.run_program-status.ensures.shown c.close-2.ensures c.close-3.ensures in
    record {
      exits = over;
      complete = completes_over c.args.words.now over;
      bundle_first = judges_over c.args.words.now over;
      run = has_run c.args.words.now (completes_over c.args.words.now over);
    }

pub returns-in-Err-clause-exits : goal.returns-in-Err-clause-exits
returns-in-Err-clause-exits g c = rw (c.in-Err.ensures.err) at c.refuse_for_memory.ensures.exits

pub returns-in-Err-clause-complete : goal.returns-in-Err-clause-complete
returns-in-Err-clause-complete g c = rw (c.in-Err.ensures.err) at c.refuse_for_memory.ensures.complete

pub returns-in-Err-clause-bundle_first : goal.returns-in-Err-clause-bundle_first
returns-in-Err-clause-bundle_first g c = rw (c.in-Err.ensures.err) at c.refuse_for_memory.ensures.bundle_first

pub returns-in-Err-clause-run : goal.returns-in-Err-clause-run
returns-in-Err-clause-run g c = rw (c.in-Err.ensures.err) at c.refuse_for_memory.ensures.run

pub returns-in-Err-open_or_return-clause-exits : goal.returns-in-Err-open_or_return-clause-exits
returns-in-Err-open_or_return-clause-exits g c =
    rw (c.close.ensures ∙ ap (λ (s : ShelfState _). s.disk) c.in-Ok.ensures.ok, c.in-Err-open_or_return.ensures.err)
    at c.refuse_for_memory-in-Err-open_or_return.ensures.exits

pub returns-in-Err-open_or_return-clause-complete : goal.returns-in-Err-open_or_return-clause-complete
returns-in-Err-open_or_return-clause-complete g c =
    rw (c.close.ensures ∙ ap (λ (s : ShelfState _). s.disk) c.in-Ok.ensures.ok, c.in-Err-open_or_return.ensures.err)
    at c.refuse_for_memory-in-Err-open_or_return.ensures.complete

pub returns-in-Err-open_or_return-clause-bundle_first : goal.returns-in-Err-open_or_return-clause-bundle_first
returns-in-Err-open_or_return-clause-bundle_first g c =
    rw (c.close.ensures ∙ ap (λ (s : ShelfState _). s.disk) c.in-Ok.ensures.ok, c.in-Err-open_or_return.ensures.err)
    at c.refuse_for_memory-in-Err-open_or_return.ensures.bundle_first

pub returns-in-Err-open_or_return-clause-run : goal.returns-in-Err-open_or_return-clause-run
returns-in-Err-open_or_return-clause-run g c =
    rw (c.close.ensures ∙ ap (λ (s : ShelfState _). s.disk) c.in-Ok.ensures.ok, c.in-Err-open_or_return.ensures.err)
    at c.refuse_for_memory-in-Err-open_or_return.ensures.run
