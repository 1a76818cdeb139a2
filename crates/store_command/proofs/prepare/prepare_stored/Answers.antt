use Rattle.std.proofs.Common.{◌≡◌, ◌∙◌, ◌+◌, ℕ, List, Option, length, refl, sym, ap, subst, inr, arith}
use Rattle.cloak_base.specs.Random.{Random}
use Rattle.command_words.specs.Request.{asked_of_store, names_of, randomness_of}
use Rattle.command_parts.specs.declared.refusal.Refusal.{Refusal}
use Rattle.command_parts.specs.NoRun.{NoRun}
use Rattle.command_parts.specs.Outside.{files}
use Rattle.command_parts.specs.Storing.{IsOld, IsSecret}
use Rattle.command_parts.proofs.Refused.{is_some_bundle, no_bundle, no_stream}
use Rattle.old_files.specs.Reading.{keys_of}
use Rattle.store_command.proofs.Lengths.{place_small, place_within}
use Rattle.store_command.proofs.Refused.{asks_stored, no_old, no_secret, not_opened}
use Rattle.store_command.proofs.prepare.prepare_stored.Goals as goal

pub returns-in-Err-clause-prepares : goal.returns-in-Err-clause-prepares
returns-in-Err-clause-prepares g c =
    let e = c.in-Err.ensures in
    no_bundle c.in-Err.refusal _ _ refl e.bundle e.unread c.requires.reading e.files e.writing

pub returns-in-Err-read_secret-clause-prepares : goal.returns-in-Err-read_secret-clause-prepares
returns-in-Err-read_secret-clause-prepares g c =
    let b = c.in-Ok.ensures in
    let e = c.in-Err-read_secret.ensures in
    no_secret _ _ _ _ c.in-Err-read_secret.refusal _ _ _ _ b.bundle.1.0 _ _ b.bundle.1.1 (b.files _) b.bundle.0 e.secret e.unread c.requires.reading
    (λ name. e.files name ∙ b.files name) (e.writing ∙ b.writing)

pub returns-in-Err-read_old-clause-prepares : goal.returns-in-Err-read_old-clause-prepares
returns-in-Err-read_old-clause-prepares g c =
    let b = c.in-Ok.ensures in
    let s = c.in-Ok-read_secret.ensures in
    let e = c.in-Err-read_old.ensures in
    let name = c.args.store.now.files.old_name.now in
    no_old _ _ _ _ c.in-Err-read_old.refusal _ _ _ _ b.bundle.1.0 _ _ (keys_of c.in-Ok-read_secret.secret)
    c.read_old.new.table b.bundle.1.1
    (subst (λ (t : Option (List ℕ)). IsSecret t (keys_of c.in-Ok-read_secret.secret)) (b.files _) s.secret.1)
    (s.files name ∙ b.files name) (s.secret.0 ∙ b.bundle.0) e.old e.not_first e.unread c.requires.reading
    (λ name. e.files name ∙ (s.files name ∙ b.files name)) (e.writing ∙ (s.writing ∙ b.writing))

pub returns-in-Err-open_stream-clause-prepares : goal.returns-in-Err-open_stream-clause-prepares
returns-in-Err-open_stream-clause-prepares g c =
    let b = c.in-Ok.ensures in
    let s = c.in-Ok-read_secret.ensures in
    let o = c.in_default-read_old.ensures in
    let e = c.in-Err-open_stream.ensures in
    let has = subst (λ (t : Option (List ℕ)). IsSecret t (keys_of c.in-Ok-read_secret.secret)) (b.files _) s.secret.1 in
    let old = subst (λ (t : Option (List ℕ)). IsOld t c.in-Ok-read_secret.secret.mac c.args.store.now.counter c.read_old.new.table)
    (s.files _ ∙ b.files _) o.old.1 in
    no_stream _ c.in-Err-open_stream.refusal _ _ _ refl
    (λ file named. inr (
      is_some_bundle _ _ _ _ b.bundle.1.1,
      inr (keys_of c.in-Ok-read_secret.secret, has, inr (c.read_old.new.table, old, named)),
    ))
    (o.old.0 ∙ (s.secret.0 ∙ b.bundle.0)) e.stream e.unread c.requires.reading (λ name. e.files name ∙ (o.files name ∙ (s.files name ∙ b.files name)))
    (e.writing ∙ (o.writing ∙ (s.writing ∙ b.writing)))

pub overflow_add-disk_end : goal.overflow_add-disk_end
overflow_add-disk_end g c = omega (
  arith,
  place_small c.in-Ok.read.0 c.in-Ok.ensures.bundle.1.1.is.in_grammar,
  c.disk_place-disk_from.ensures,
  ap length c.as_slice.ensures,
)

pub returns-in-Err-open_stored-clause-prepares : goal.returns-in-Err-open_stored-clause-prepares
returns-in-Err-open_stored-clause-prepares g c =
    let b = c.in-Ok.ensures in
    let s = c.in-Ok-read_secret.ensures in
    let o = c.in_default-read_old.ensures in
    let r = c.in-Ok-open_stream.ensures in
    let names = names_of c.args.store.now.files in
    let store = c.args.store.now in
    let before = files g.S.Shelf c.args.shelf.now in
    let after = files g.S.Shelf c.open_stream.new.shelf in
    subst (λ (f : Refusal). NoRun (asked_of_store store) f before after) (sym c.refusal_of.ensures)
    (not_opened names store.counter store.steps (randomness_of store.randomness) c.in-Err-open_stored.fault before after _
    (asks_stored b.bundle.1.1 b.files s.secret.1 (λ name. s.files name ∙ b.files name) o.old.1
    (λ name. o.files name ∙ (s.files name ∙ b.files name)) r.stream.1)
    c.in-Err-open_stored.ensures.opens (r.stream.0 ∙ (o.old.0 ∙ (s.secret.0 ∙ b.bundle.0)))
    (λ name. r.files name ∙ (o.files name ∙ (s.files name ∙ b.files name)))
    (r.writing ∙ (o.writing ∙ (s.writing ∙ b.writing))))

pub returns-clause-prepares : goal.returns-clause-prepares
returns-clause-prepares g c =
    let b = c.in-Ok.ensures in
    let s = c.in-Ok-read_secret.ensures in
    let o = c.in_default-read_old.ensures in
    let r = c.in-Ok-open_stream.ensures in (
      record {
        held = λ name. r.files name ∙ (o.files name ∙ (s.files name ∙ b.files name));
        reading = r.stream.0 ∙ (o.old.0 ∙ (s.secret.0 ∙ b.bundle.0));
        writing = r.writing ∙ (o.writing ∙ (s.writing ∙ b.writing));
      },
      record {
        sources = record {
          version = b.bundle.1.0;
          bytes = c.in-Ok.read.1.items;
          bundle = c.in-Ok.read.0;
          secret = keys_of c.in-Ok-read_secret.secret;
          table = c.read_old.new.table;
          stream = c.in-Ok-open_stream.stream;
        };
        asks = asks_stored b.bundle.1.1 b.files s.secret.1 (λ name. s.files name ∙ b.files name) o.old.1
            (λ name. o.files name ∙ (s.files name ∙ b.files name)) r.stream.1;
        opens = c.in-Ok-open_stored.ensures.opens;
        placings = c.in-Ok-open_stored.ensures.placings;
        left = record {
          mac = refl;
          next = refl;
          from = c.disk_place-disk_from.ensures;
          to = λ i. c.disk_place-disk_from.ensures i + length (c.as_slice.ensures i);
        };
        image_bytes = c.image_is_of_bytes.ensures;
        stream_bytes = r.stream.2;
      },
    )

pub returns-clause-can_end : goal.returns-clause-can_end
returns-clause-can_end g c =
    let is = c.in-Ok.ensures.bundle.1.1.is in
    record {
      empty = c.clear.ensures;
      room = (let long = c.in-Ok-vec.ensures.len in omega (arith, long));
      place = omega arith;
      within = (
          let whole = place_within c.in-Ok.ensures.bundle.1.0 c.in-Ok.read.0 in
          let spelled : length _ ≡ length c.in-Ok.read.1.items = ap length is.spelled in
          let from = c.disk_place-disk_from.ensures in
          let disk = ap length c.as_slice.ensures in
          omega (arith, whole, spelled, from, disk)
          );
    }
