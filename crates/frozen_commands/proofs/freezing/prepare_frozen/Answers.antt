use Rattle.std.proofs.Common.{◌∙◌, ℕ, length, Err, refl, ap, subst, inl, inr}
use Rattle.cloak_base.specs.Random.{Random}
use Rattle.cloak_machine.specs.Standing.{Opens}
use Rattle.frozen_state.specs.Room.{IsRoomFor}
use Rattle.joint_machine.specs.declared.opened.OpenFault.{OpenFault}
use Rattle.command_parts.proofs.Refused.{is_some_bundle, no_bundle, no_file, no_stream}
use Rattle.frozen_commands.proofs.Refused.{asks_frozen, is_lack}
use Rattle.frozen_commands.proofs.freezing.prepare_frozen.Goals as goal

pub returns-in-Err-clause-prepares : goal.returns-in-Err-clause-prepares
returns-in-Err-clause-prepares g c =
    let e = c.in-Err.ensures in
    no_bundle c.in-Err.refusal _ _ refl e.bundle e.unread c.requires.reading e.files e.writing

pub returns-in-Err-open_stream-clause-prepares : goal.returns-in-Err-open_stream-clause-prepares
returns-in-Err-open_stream-clause-prepares g c =
    let b = c.in-Ok.ensures in
    let e = c.in-Err-open_stream.ensures in
    no_stream _ c.in-Err-open_stream.refusal _ _ _ refl
    (λ file named. inr (is_some_bundle _ _ _ _ b.bundle.1.1, inl named)) b.bundle.0 e.stream e.unread c.requires.reading
    (λ name. e.files name ∙ b.files name) (e.writing ∙ b.writing)

pub returns-in-Err-open_stream-2-clause-prepares : goal.returns-in-Err-open_stream-2-clause-prepares
returns-in-Err-open_stream-2-clause-prepares g c =
    let b = c.in-Ok.ensures in
    let s = c.in-Ok-open_stream.ensures in
    let e = c.in-Err-open_stream-2.ensures in
    no_file Random c.args.freeze.now.files.vectors_name.now c.in-Err-open_stream-2.refusal _ _ _ refl
    (inr (is_some_bundle _ _ _ _ b.bundle.1.1, inr refl)) (s.stream.0 ∙ b.bundle.0) e.stream e.unread c.requires.reading
    (λ name. e.files name ∙ (s.files name ∙ b.files name)) (e.writing ∙ (s.writing ∙ b.writing))

pub returns-in-Ok-open-2-clause-prepares : goal.returns-in-Ok-open-2-clause-prepares
returns-in-Ok-open-2-clause-prepares g c =
    let b = c.in-Ok.ensures in
    let s = c.in-Ok-open_stream.ensures in
    let v = c.in-Ok-open_stream-2.ensures in
    let o = c.in-Ok-open-2.ensures.opens in (
      record {
        held = λ name. v.files name ∙ (s.files name ∙ b.files name);
        reading = v.stream.0 ∙ (s.stream.0 ∙ b.bundle.0);
        writing = v.writing ∙ (s.writing ∙ b.writing);
      },
      record {
        sources = record {
          version = b.bundle.1.0;
          bytes = c.in-Ok.read.1.items;
          bundle = c.in-Ok.read.0;
          stream = c.in-Ok-open_stream.stream;
          vectors = c.in-Ok-open_stream-2.vectors;
        };
        asks = asks_frozen b.bundle.1.1 b.files s.stream.1 (λ name. s.files name ∙ b.files name) v.stream.1;
        opened = o.opened;
        opens = o.opens;
        stands = o.stands;
        placings = c.in-Ok-open-2.ensures.placings;
        left = record {
          digest = c.digest_of-digest.ensures;
          vectors = refl;
          room = subst (λ (n : ℕ). IsRoomFor c.in-Ok.read.0.kernel n c.in-Ok-open.room) (ap length c.as_slice.ensures) c.in-Ok-open.ensures;
        };
        image_bytes = c.image_is_of_bytes.ensures;
        stream_bytes = s.stream.2;
      },
    )

pub returns-in-Err-NoKey-clause-prepares : goal.returns-in-Err-NoKey-clause-prepares
returns-in-Err-NoKey-clause-prepares g c =
    let b = c.in-Ok.ensures in
    let s = c.in-Ok-open_stream.ensures in
    let v = c.in-Ok-open_stream-2.ensures in
    record {
      cause = inr (inl (is_lack
          (record {
            version = b.bundle.1.0;
            bytes = c.in-Ok.read.1.items;
            bundle = c.in-Ok.read.0;
            stream = c.in-Ok-open_stream.stream;
            vectors = c.in-Ok-open_stream-2.vectors;
          })
          (asks_frozen b.bundle.1.1 b.files s.stream.1 (λ name. s.files name ∙ b.files name) v.stream.1)
          (subst (λ (x : OpenFault). Opens c.in-Ok.read.0 c.in-Ok-open_stream.stream (Err x)) c.in-Err-NoKey.field-0-is
          c.in-Err-NoKey.ensures.opens)
          (v.stream.0 ∙ (s.stream.0 ∙ b.bundle.0))));
      held = λ name. v.files name ∙ (s.files name ∙ b.files name);
      writing = v.writing ∙ (s.writing ∙ b.writing);
    }

pub returns-in-Err-NoRandom-clause-prepares : goal.returns-in-Err-NoRandom-clause-prepares
returns-in-Err-NoRandom-clause-prepares g c =
    let b = c.in-Ok.ensures in
    let s = c.in-Ok-open_stream.ensures in
    let v = c.in-Ok-open_stream-2.ensures in
    record {
      cause = inr (inr (inl (is_lack
          (record {
            version = b.bundle.1.0;
            bytes = c.in-Ok.read.1.items;
            bundle = c.in-Ok.read.0;
            stream = c.in-Ok-open_stream.stream;
            vectors = c.in-Ok-open_stream-2.vectors;
          })
          (asks_frozen b.bundle.1.1 b.files s.stream.1 (λ name. s.files name ∙ b.files name) v.stream.1)
          (subst (λ (x : OpenFault). Opens c.in-Ok.read.0 c.in-Ok-open_stream.stream (Err x)) c.in-Err-NoRandom.field-0-is
          c.in-Err-NoRandom.ensures.opens)
          (v.stream.0 ∙ (s.stream.0 ∙ b.bundle.0)))));
      held = λ name. v.files name ∙ (s.files name ∙ b.files name);
      writing = v.writing ∙ (s.writing ∙ b.writing);
    }
