-- A run of `store` goes on over the files that the one before left.
use Rattle.std.proofs.Common.{◌≡◌, ◌∙◌, ◌≤◌, ◌*◌, ◌%◌, ℕ, List, ◌∷◌, length, take, refl, sym, ap, subst, arith, All, Option, Some, IfSome}
use Rattle.std.proofs.lemmas.List.Elements.{All-nil}
use Rattle.chain_law.proofs.Chains.{chains_give_latest}
use Rattle.chain_law.specs.Chain.{GoesOnFrom}
use Rattle.cloak_base.specs.Constants.{largest_bundle}
use Rattle.cloak_model.specs.declared.image.Bundle.{Bundle}
use Rattle.cloak_model.specs.Beginning.{stored_keys}
use Rattle.cloak_model.specs.Bundle.{IsBundleIn, IsInGrammar, block_counts, bundle_bytes}
use Rattle.cloak_model.specs.Ledger.{Keys}
use Rattle.cloak_model.specs.Opening.{filled_up}
use Rattle.cloak_model.specs.Sealing.{Chained}
use Rattle.cloak_model.specs.StoredFiles.{FileContents, HasSealedPages, IsStore, IsTable, store_bytes, table_of}
use Rattle.command_parts.specs.Storing.{IsSecret, Secret, secret_length, secret_of}
use Rattle.disk_law.proofs.Runs.{disks_stay}
use Rattle.frozen_law.proofs.Left.{runs_end_with_keys}
use Rattle.guest_bundle.proofs.Lengths.{bundle_bytes-length}
use Rattle.guest_bundle.proofs.Only.{one_bundle}
use Rattle.sealed_store.proofs.SpellsOne.{spells_one}
use Rattle.store_command.specs.Leaving.{HasFiles, new_bytes, with_disk}
use Rattle.store_command.specs.NextRun.{FirstRunsHaveNoFiles, IsLeft, NextImagesKeepKeys, NextRunsGoOn, ReadsNew, RunsBeginChains, key_numbers, left_by}
use Rattle.store_command.specs.TwoRuns.{Call, Over, beginning_of, image_read, made_run, run_made, sources_of}
use Rattle.store_command.proofs.TwoRuns.{told_bytes}

-- The first run.

pub runs_begin_chains : (S O : Type 0) → RunsBeginChains S O
runs_begin_chains S O call files over = record {
  in_grammar = call.stored.asks.bundle.is.in_grammar;
  beginning = record { table = subst IsTable over.tells call.stored.asks.old.is_table; sealed = over.sealed };
  runs = (call.stored.becomes.leaves files over).runs;
}

pub first_runs_have_no_files : (S O : Type 0) → FirstRunsHaveNoFiles S O
first_runs_have_no_files S O call none = record {
  tells = call.stored.asks.old.none none;
  sealed = All-nil (HasSealedPages (stored_keys (image_read call) (sources_of call).secret.keys));
}

-- what it left
has_files : {S O : Type 0} (first : Call S O) (files : List FileContents) (over : Over first files) →
    IsLeft first files over →
    HasFiles first.stored.names first.stored.counter (sources_of first) (run_made first files over)
    first.after.files.held
has_files {S} {O} first files over left = ((first.stored.becomes.leaves files over).left left.unclashed).stored left.drawn

-- Its keys.

-- the same key numbers make the same keys
same_keys : (a b : Bundle) (keys : List (List ℕ)) → key_numbers b ≡ key_numbers a → stored_keys a keys ≡ stored_keys b keys
same_keys a b keys numbers =
    ap (λ (group : List ℕ). let k : Keys = record { numbered = keys; group = filled_up 0 group; seal = Chained } in k)
    (sym numbers)

-- The secret.

one_secret : (file : List ℕ) (told other : Option (List ℕ)) (s t : Secret) → told ≡ Some file → other ≡ Some file →
    IsSecret told s → IsSecret other t → t ≡ s
one_secret file told other s t tells also is_s is_t =
    let first : is_s.bytes ≡ take secret_length file =
    subst (λ (x : Option (List ℕ)). IfSome x (λ f. is_s.bytes ≡ take secret_length f)) tells is_s.front in
    let second : is_t.bytes ≡ take secret_length file =
    subst (λ (x : Option (List ℕ)). IfSome x (λ f. is_t.bytes ≡ take secret_length f)) also is_t.front in
    is_t.same ∙ (ap secret_of (second ∙ sym first) ∙ sym is_s.same)

-- The store file.

-- the table that the second one read is that of what the first one left
one_table : {S O : Type 0} (first next : Call S O) → ReadsNew first next → (files : List FileContents)
    (over : Over first files) → IsLeft first files over → (sources_of next).secret ≡ (sources_of first).secret →
    (sources_of next).table ≡ table_of (left_by first files over)
one_table {S} {O} first next reads files over left secrets =
    let has = has_files first files over left in
    let mac = (sources_of next).secret.mac in
    let spelled : reads.file ≡ new_bytes (sources_of first) first.stored.counter (run_made first files over) =
    told_bytes _ reads.file _ reads.written has.new in
    let old : IsStore mac next.stored.counter reads.file (sources_of next).table =
    subst (λ (x : Option (List ℕ)). IfSome x (λ bytes. IsStore mac next.stored.counter bytes (sources_of next).table))
    reads.read (next.stored.asks.old.spelled (λ none. let count = reads.counter in omega (arith, count, none))) in
    spells_one mac next.stored.counter reads.file (table_of (left_by first files over)) (sources_of next).table
    (record {
      spelled = (λ i. store_bytes (secrets i).mac (reads.counter i) (table_of (left_by first files over))) ∙ sym spelled;
      is_table = has.fit.table;
      counter_fits = old.counter_fits;
    }) old

stands_for : {S O : Type 0} (first next : Call S O) → ReadsNew first next →
    key_numbers (image_read next) ≡ key_numbers (image_read first) → (files : List FileContents)
    (over : Over first files) → IsLeft first files over → Over next (left_by first files over)
stands_for {S} {O} first next reads numbers files over left =
    let s = sources_of first in
    let secrets = one_secret reads.secret _ _ s.secret (sources_of next).secret reads.first_secret reads.next_secret
    first.stored.asks.secret next.stored.asks.secret in
    let made = first.stored.becomes.leaves files over in
    let keys : made.made.closed.joint.memory.ledger.keys ≡ stored_keys (image_read next) (sources_of next).secret.keys =
    runs_end_with_keys s.bundle (beginning_of first files) first.stored.steps made.made made.runs
    ∙ (same_keys s.bundle (image_read next) s.secret.keys numbers
    ∙ ap (λ (x : Secret). stored_keys (image_read next) x.keys) (sym secrets)) in
    let has = has_files first files over left in
    record {
      tells = one_table first next reads files over left secrets;
      sealed = subst (λ (k : Keys). All (HasSealedPages k) (left_by first files over)) keys has.fit.sealed;
    }

-- The run over them.

pub next_runs_go_on : (S O : Type 0) → NextRunsGoOn S O
next_runs_go_on S O first next reads numbers files over left =
    let stands = stands_for first next reads numbers files over left in
    let begins = runs_begin_chains S O next (left_by first files over) stands in
    let goes : GoesOnFrom (made_run next (left_by first files over) stands) (made_run first files over) =
    record { drawn = left.drawn; keys = (sources_of next).secret.keys; stream = (sources_of next).stream; over = refl } in
    record {
      stands = stands;
      chain = λ earlier is. (begins, (goes, is));
      latest = λ earlier is. chains_give_latest (made_run next (left_by first files over) stands)
          (made_run first files over ∷ earlier) (begins, (goes, is));
    }

-- The image.

-- with another disk of this length
same_size : (version : ℕ) (b : Bundle) (disk : List ℕ) → length disk ≡ length b.kernel.disk →
    length (bundle_bytes version (with_disk disk b)) ≡ length (bundle_bytes version b)
same_size version b disk long =
    let new = bundle_bytes-length version (with_disk disk b) in
    let old = bundle_bytes-length version b in
    omega (arith, new, old, long)

in_grammar_still : (b : Bundle) (disk : List ℕ) → IsInGrammar b → length disk ≡ length b.kernel.disk →
    IsInGrammar (with_disk disk b)
in_grammar_still b disk is long = record {
  kernel = record {
    some_frames = is.kernel.some_frames;
    few_frames = is.kernel.few_frames;
    some_harts = is.kernel.some_harts;
    few_harts = is.kernel.few_harts;
    some_turns = is.kernel.some_turns;
    few_turns = is.kernel.few_turns;
    turns = is.kernel.turns;
    entry = is.kernel.entry;
    entry_fits = is.kernel.entry_fits;
    few_segments = is.kernel.few_segments;
    segments = is.kernel.segments;
    blocks = subst (λ (n : ℕ). n % 4096 ≡ 0) (sym long) is.kernel.blocks;
    few_blocks = subst (λ (n : ℕ). n ≤ 4096 * block_counts.high) (sym long) is.kernel.few_blocks;
  };
  few_programs = is.few_programs;
  programs = is.programs;
  not_too_large = subst (λ (n : ℕ). n ≤ largest_bundle) (sym (same_size 1 b disk long)) is.not_too_large;
}

-- the bundle that the first one wrote
next_bundle : (version : ℕ) (bytes : List ℕ) (b : Bundle) (disk : List ℕ) → IsBundleIn version bytes b →
    length disk ≡ length b.kernel.disk →
    IsBundleIn version (bundle_bytes version (with_disk disk b)) (with_disk disk b)
next_bundle version bytes b disk is long = record {
  known = is.known;
  spelled = refl;
  in_grammar = in_grammar_still b disk is.in_grammar long;
  of_version = is.of_version;
  fits = subst (λ (n : ℕ). n ≤ largest_bundle) (sym (same_size version b disk long ∙ ap length is.spelled)) is.fits;
}

pub next_images_keep_keys : (S O : Type 0) → NextImagesKeepKeys S O
next_images_keep_keys S O first next reads files over left =
    let s = sources_of first in
    let made = first.stored.becomes.leaves files over in
    let disk = made.made.closed.joint.disk in
    let has = has_files first files over left in
    let file = first.stored.asks.bundle in
    let other = next.stored.asks.bundle in
    let written : reads.image ≡ bundle_bytes s.version (with_disk disk s.bundle) =
    told_bytes _ reads.image _ reads.written has.next in
    let read : reads.image ≡ (sources_of next).bytes = told_bytes _ reads.image _ reads.read other.file in
    let long = (disks_stay s.bundle (beginning_of first files) first.stored.steps made.made made.runs).closed in
    let wrote = next_bundle s.version s.bytes s.bundle disk file.is long in
    let same : image_read next ≡ with_disk disk s.bundle =
    one_bundle (sources_of next).bytes (image_read next) (with_disk disk s.bundle) ((sources_of next).version, other.is)
    (s.version, subst (λ (l : List ℕ). IsBundleIn s.version l (with_disk disk s.bundle)) (sym written ∙ read) wrote) in
    ap key_numbers same
