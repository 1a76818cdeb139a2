-- A run up to the closing of its record.
use Rattle.std.proofs.Common.{◌≡◌, ◌∙◌, ◌+◌, ◌≤◌, ℕ, Bool, false, List, [], ◌∷◌, ◌++◌, length, sym, ap, subst, append_assoc, arith, Option, Some, None, Ok, is_none, Result}
use Rattle.std.specs.Prelude.{unwrap_or}
use Rattle.std.specs.Result.{result_map_both}
use Rattle.cloak_base.specs.declared.causes.Stop.{Stop}
use Rattle.cloak_base.specs.declared.causes.Stop.TheVariants as stop
use Rattle.cloak_model.specs.declared.image.Bundle.{Bundle}
use Rattle.cloak_model.specs.Items as item
use Rattle.chain_law.proofs.Chains.{chains_give_latest}
use Rattle.cloak_model.specs.Beginning.{AreContents, Beginning, IsBeginning, Stored, opening_from}
use Rattle.cloak_model.specs.Exchange.{Piece, recorded, record_magic, item_pieces, Emits}
use Rattle.cloak_model.specs.Ledger.{Keys}
use Rattle.cloak_model.specs.Opening.{Lack, RunEdge}
use Rattle.cloak_model.specs.Report.{report}
use Rattle.cloak_model.specs.Run.{Run, any_refused, cause_of, closing, first_moment, joint_after, last_stop, most_steps, run_from, run_of, turns_from, turns_pieces}
use Rattle.cloak_model.specs.StoredFiles.{FileContents, IsTable}
use Rattle.cloak_model.specs.StoredRun.{contents_of}
use Rattle.cloak_machine.specs.declared.end.RunEnd.{RunEnd}
use Rattle.cloak_machine.specs.declared.machine.Machine.{Machine}
use Rattle.command_words.specs.Command as spec
use Rattle.disk_law.proofs.Runs.{disk_stays}
use Rattle.command_parts.specs.Storing.{AreFiles}
use Rattle.run_command.specs.Running.{BeginsRun, MadeAll, first_pieces}
use Rattle.cloak_model.specs.Run.{NoClash}
use Rattle.run_command.proofs.Lawful.{is_lawful}
use Rattle.run_command.proofs.RunFacts.{emits_as}
use Rattle.cloak_model.proofs.Emitting.{emits_then}
use Rattle.store_command.specs.declared.prepare.ForStoring.{ForStoring}
use Rattle.store_command.specs.declared.prepare.PreparedStore.{PreparedStore}
use Rattle.store_command.specs.Leaving.{first_due}
use Rattle.store_command.specs.Preparing.{OpensRun, IsPrepared}
use Rattle.store_command.specs.Recording.{RunsOver, run_over}
use Rattle.vector_law.proofs.StoreFiles.{stores_tell_no_key}
use Rattle.cloak_machine.proofs.Keys.{closing_keys}
use Rattle.store_command.specs.Writing.{EndsAs, EndsUnless, Finishes, WritesFirst}
use Rattle.record_law.specs.Steps.{moment_after}

-- the pieces of a run up to the end of its record
first_of_run : (b : Bundle) (steps : ℕ) (o : RunEdge) →
    let turns = turns_from steps (first_moment b o.joint) in
    let closed = closing (joint_after o.joint turns) in
    first_pieces o turns ++ item_pieces (item.Close (length turns) ∷ (closed.items ++ item.End ∷ []))
    ≡ first_due (run_of b steps o)
unfolding run_of
first_of_run b steps o =
    let turns = turns_from steps (first_moment b o.joint) in
    ap (λ (ps : List Piece). recorded record_magic ∷ ps) (append_assoc (item_pieces o.items) (turns_pieces 1 turns) _)

-- nothing more was given once the outlet failed
pub first_front : {E : Type 0} {gave : E → E → List Piece → Type 0} {failed : Bool} {e f : E} {machine : Machine}
    {stopped : Option Stop} (old new : ForStoring) (b : Bundle) (steps : ℕ) (o : RunEdge) →
    BeginsRun gave failed e f machine stopped b o (turns_from steps (first_moment b o.joint)) →
    ((ps : List Piece) → Emits gave f f ps) → WritesFirst gave e f old new None (run_of b steps o)
first_front {E} {gave} {failed} {e} {f} {machine} {stopped} old new b steps o begins none =
    record { emits = emits_as (first_of_run b steps o) (emits_then begins.emits (none _)); ends = tt }

-- the place for the disk has the size of the disk as the steps were made
pub place_after : {machine : Machine} {left : ForStoring} {b : Bundle} {from : Beginning} {o : RunEdge} (steps : ℕ) →
    OpensRun machine left b from o →
    left.disk_end ≡ left.disk_from + length (joint_after o.joint (turns_from steps (first_moment b o.joint))).disk
place_after {machine} {left} {b} {from} {o} steps opened =
    opened.disk ∙ ap (λ n. left.disk_from + n) (sym (disk_stays b from o opened.opens steps))

-- and so it does at the end
pub closed_disk : (b : Bundle) (from : Beginning) (o : RunEdge) (steps : ℕ) → opening_from b from ≡ Ok o →
    length (run_of b steps o).closed.joint.disk ≡ length b.kernel.disk
unfolding run_of closing
closed_disk b from o steps opens = disk_stays b from o opens steps

count_turns : (b : Bundle) (steps : ℕ) (o : RunEdge) →
    let turns = turns_from steps (first_moment b o.joint) in
    (moment_after (first_moment b o.joint) turns).steps ≡ length turns
count_turns b steps o =
    let turns = turns_from steps (first_moment b o.joint) in
    let count : 0 + length turns ≡ length turns = omega arith in count

-- the end of a machine that made all steps of a run
ends_as : {E : Type 0} {gave : E → E → List Piece → Type 0} {e f : E} {machine : Machine} {stopped : Option Stop}
    {cause : Stop} {end : RunEnd} {old new : ForStoring} (b : Bundle) (steps : ℕ) (o : RunEdge) →
    let turns = turns_from steps (first_moment b o.joint) in
    let m = moment_after (first_moment b o.joint) turns in
    MadeAll machine stopped (first_moment b o.joint) turns → cause ≡ unwrap_or stopped stop.Budget →
    Finishes gave e f old new end cause m (closing m.joint) → EndsAs old new end (run_of b steps o)
unfolding run_of
ends_as {E} {gave} {e} {f} {machine} {stopped} {cause} {end} {old} {new} b steps o all unwrapped fin =
    let turns = turns_from steps (first_moment b o.joint) in
    let closed = closing (joint_after o.joint turns) in
    let stop_is : end.stop ≡ cause_of closed.joint (last_stop None turns) =
    fin.finishes.stop ∙ ap (λ (s : Stop). cause_of closed.joint (Some s))
    (unwrapped ∙ ap (λ (s : Option Stop). unwrap_or s stop.Budget) all.last) in
    let count = count_turns b steps o in
    record {
      table = λ drawn. fin.table (λ missed. drawn (sym stop_is ∙ missed));
      fit = λ drawn. subst (λ (k : Keys). AreContents k (contents_of closed.joint))
          (sym (closing_keys (joint_after o.joint turns))) (fin.fit (λ missed. drawn (sym stop_is ∙ missed)));
      stop = stop_is;
      refused = λ i. any_refused (fin.finishes.ended i) (fin.finishes.refused i);
      report = fin.finishes.report ∙ (λ i. report (stop_is i) (count i) closed.joint);
      next = fin.next;
    }

pub first_whole : {E : Type 0} {gave : E → E → List Piece → Type 0} {failed : Bool} {e f h : E} {machine : Machine}
    {stopped : Option Stop} {cause : Stop} {end : RunEnd} {old new : ForStoring} (b : Bundle) (steps : ℕ) (o : RunEdge) →
    let turns = turns_from steps (first_moment b o.joint) in
    let m = moment_after (first_moment b o.joint) turns in
    BeginsRun gave failed e f machine stopped b o turns → failed ≡ false → cause ≡ unwrap_or stopped stop.Budget →
    Finishes gave f h old new end cause m (closing m.joint) →
    WritesFirst gave e h old new (Some end) (run_of b steps o)
first_whole {E} {gave} {failed} {e} {f} {h} {machine} {stopped} {cause} {end} {old} {new} b steps o begins well unwrapped fin =
    let turns = turns_from steps (first_moment b o.joint) in
    let closed = closing (joint_after o.joint turns) in
    let count = count_turns b steps o in
    record {
      emits = emits_as (first_of_run b steps o) (emits_then begins.emits
          (emits_as (λ i. item_pieces (item.Close (count i) ∷ (closed.items ++ item.End ∷ []))) fin.finishes.emits));
      ends = ends_as b steps o (begins.made well) unwrapped fin;
    }

-- of which nothing is told, as the outlet failed at the closing
pub first_unended : {E : Type 0} {gave : E → E → List Piece → Type 0} {e f : E} {old new : ForStoring} {end : RunEnd} {r : Run} →
    WritesFirst gave e f old new (Some end) r → WritesFirst gave e f old new None r
first_unended {E} {gave} {e} {f} {old} {new} {end} {r} writes = record { emits = writes.emits; ends = tt }

-- The outlet failed exactly if there is no end.

pub failed_is : (failed : Bool) (given : Option RunEnd) → EndsUnless failed given → failed ≡ is_none given
failed_is failed None ends = ends
failed_is failed (Some end) ends = ends

-- The runs over all contents.

pub runs_over : {names : spec.StoreNames} {counter : ℕ} {randomness : spec.Randomness}
    {held : List ℕ → Option (List ℕ)} {prepared : PreparedStore}
    (p : IsPrepared names counter randomness held prepared) (steps : ℕ) (Leaves : Run → Type 0) → steps ≤ most_steps →
    ((from : Beginning) (o : RunEdge) → OpensRun prepared.machine prepared.left p.sources.bundle from o →
    NoClash (run_of p.sources.bundle steps o) → Leaves (run_of p.sources.bundle steps o)) →
    (files : List FileContents) → AreFiles p.sources files → RunsOver p.sources steps Leaves files
runs_over {names} {counter} {randomness} {held} {prepared} p steps Leaves few each files are =
    let s = p.sources in
    let from = Stored s.secret.keys s.stream files in
    let over = p.opens files are in
    let r = run_of s.bundle steps over.opened in
    let runs : run_from s.bundle from steps ≡ Ok r =
    ap (λ (opened : Result RunEdge Lack). result_map_both (run_of s.bundle steps) (λ lack. lack) opened) over.opens in
    let contents : IsBeginning s.bundle from =
    record { table = subst IsTable are.tells p.asks.old.is_table; sealed = are.sealed } in
    record {
      made = r;
      runs = runs;
      lawful = is_lawful s.bundle from steps r p.asks.bundle.is.in_grammar p.image_bytes
          (record {
            four_keys = record { four = p.asks.secret.four; whole = p.asks.secret.keys };
            bytes = p.stream_bytes;
            contents = contents;
          })
          few runs;
      over_chain = λ last earlier goes_on chain. chains_give_latest (run_over s steps files r) (last ∷ earlier)
          (record { in_grammar = p.asks.bundle.is.in_grammar; beginning = contents; runs = runs }, (goes_on, chain));
      no_key = stores_tell_no_key s.bundle from steps r runs;
      left = each from over.opened (record {
        opens = over.opens;
        placings = p.placings;
        stands = over.stands;
        disk = p.left.to ∙ ap (λ n. n + length s.bundle.kernel.disk) (sym p.left.from);
      });
    }
