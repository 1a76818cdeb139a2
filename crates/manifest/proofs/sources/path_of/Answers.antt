use Rattle.std.proofs.Common.{◌≡◌, ◌==◌, ◌∙◌, false, slice_index_or, sym, arith, inl, string_bytes}
use Rattle.manifest.proofs.Paths.{beside_folder}
use Rattle.manifest.proofs.sources.path_of.Goals as goal
use Rattle.manifest.proofs.sources.path_of.Goals.{in-Some+in_ok-path-in-Some, in-None+in_ok-path-in-None}

pub returns-clause-path : goal.returns-clause-path
returns-clause-path c =
    let plain : (slice_index_or c.args.name.now 0 0 == 47) ≡ false =
    sym (c.starts_with.ensures.byte (omega arith) (omega arith) (λ w o h. h)) ∙ c.if-starts_with.false in
    let manifest = c.args.manifest.now in
    let name = c.args.name.now in
    let path = string_bytes c.match-rsplit_once.path in
    rw plain (elim c.match-rsplit_once.branch [
      | in-Some+in_ok-path-in-Some w ↦ beside_folder manifest w.in-Some.folder.now w.in-Some.field-0-1.now name path
          w.in-Some.ensures.cases (rw w.path-is w.in_ok-path-in-Some.ensures.ok)
      | in-None+in_ok-path-in-None w ↦ inl (w.in-None.ensures.cases, rw w.path-is w.in_ok-path-in-None.ensures.ok)
    ])
