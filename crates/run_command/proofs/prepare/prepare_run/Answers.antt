use Rattle.std.proofs.Common.{◌∙◌, Err, inl, refl, subst}
use Rattle.command_words.specs.Request.{randomness_of}
use Rattle.run_command.proofs.PrepareFacts.{run_named, stream_before, stream_is_next}
use Rattle.cloak_machine.specs.Standing.{Opens}
use Rattle.joint_machine.specs.declared.opened.OpenFault.{OpenFault}
use Rattle.command_parts.proofs.Refused.{no_bundle, no_stream}
use Rattle.run_command.proofs.prepare.prepare_run.Goals as goal

pub returns-in-Err-clause-prepares : goal.returns-in-Err-clause-prepares
returns-in-Err-clause-prepares g c = λ record_name steps few.
    let e = c.in-Err.ensures in
    no_bundle c.in-Err.refusal _ _ (run_named c.args.bundle_name.now record_name steps _) e.bundle e.unread
    c.requires.reading e.files e.writing

pub returns-in-Err-open_stream-clause-prepares : goal.returns-in-Err-open_stream-clause-prepares
returns-in-Err-open_stream-clause-prepares g c = λ record_name steps few.
    let first = c.in-Ok.ensures in
    let e = c.in-Err-open_stream.ensures in
    no_stream _ c.in-Err-open_stream.refusal _ _ _ (run_named c.args.bundle_name.now record_name steps _)
    (stream_is_next c.args.bundle_name.now record_name steps _ _ (c.in-Ok.bundle, first.bundle.1))
    first.bundle.0 e.stream e.unread c.requires.reading (λ name. e.files name ∙ first.files name) (e.writing ∙ first.writing)

pub returns-in-Ok-open-clause-prepares : goal.returns-in-Ok-open-clause-prepares
returns-in-Ok-open-clause-prepares g c = λ record_name steps few.
    let b = c.in-Ok.ensures in
    let s = c.in-Ok-open_stream.ensures in
    let o = c.in-Ok-open.ensures.opens in (
      record {
        held = λ name. s.files name ∙ b.files name;
        reading = s.stream.0 ∙ b.bundle.0;
        writing = s.writing ∙ b.writing;
      },
      record {
        bundle = c.in-Ok.bundle;
        stream = c.in-Ok-open_stream.stream;
        asks = record {
          bundle_name = c.args.bundle_name.now;
          randomness = randomness_of c.args.randomness.now;
          run = refl;
          file = b.bundle.1;
          source = stream_before _ _ _ _ b.files s.stream.1;
        };
        opened = o.opened;
        opens = o.opens;
        stands = o.stands;
        placings = c.in-Ok-open.ensures.placings;
        few_steps = few;
        image_bytes = c.image_is_of_bytes.ensures;
        stream_bytes = s.stream.2;
      },
    )

pub returns-in-Err-NoRandom-clause-prepares : goal.returns-in-Err-NoRandom-clause-prepares
returns-in-Err-NoRandom-clause-prepares g c = λ record_name steps few.
    let b = c.in-Ok.ensures in
    let s = c.in-Ok-open_stream.ensures in
    record {
      cause = inl (record {
        record_name = record_name;
        steps = steps;
        bundle = c.in-Ok.bundle;
        stream = c.in-Ok-open_stream.stream;
        asks = record {
          bundle_name = c.args.bundle_name.now;
          randomness = randomness_of c.args.randomness.now;
          run = refl;
          file = b.bundle.1;
          source = stream_before _ _ _ _ b.files s.stream.1;
        };
        lacks = subst (λ (x : OpenFault). Opens c.in-Ok.bundle c.in-Ok-open_stream.stream (Err x)) c.in-Err-NoRandom.field-0-is
            c.in-Err-NoRandom.ensures.opens;
        reading = s.stream.0 ∙ b.bundle.0;
      });
      held = λ name. s.files name ∙ b.files name;
      writing = s.writing ∙ b.writing;
    }

pub returns-in-Err-NoKey-clause-prepares : goal.returns-in-Err-NoKey-clause-prepares
returns-in-Err-NoKey-clause-prepares g c = λ record_name steps few.
    let b = c.in-Ok.ensures in
    let s = c.in-Ok-open_stream.ensures in
    record {
      cause = inl (record {
        record_name = record_name;
        steps = steps;
        bundle = c.in-Ok.bundle;
        stream = c.in-Ok-open_stream.stream;
        asks = record {
          bundle_name = c.args.bundle_name.now;
          randomness = randomness_of c.args.randomness.now;
          run = refl;
          file = b.bundle.1;
          source = stream_before _ _ _ _ b.files s.stream.1;
        };
        lacks = subst (λ (x : OpenFault). Opens c.in-Ok.bundle c.in-Ok-open_stream.stream (Err x)) c.in-Err-NoKey.field-0-is
            c.in-Err-NoKey.ensures.opens;
        reading = s.stream.0 ∙ b.bundle.0;
      });
      held = λ name. s.files name ∙ b.files name;
      writing = s.writing ∙ b.writing;
    }
