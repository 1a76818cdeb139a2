use Rattle.std.proofs.Common.{◌∙◌, ℕ, List, Vec, Option, Err, inl, inr, refl, sym, subst, arith}
use Rattle.std.specs.declared.alloc.Global.{Global}
use Rattle.cloak_base.specs.Random.{Random}
use Rattle.command_words.specs.Request.{asked_of_thaw, thaw_names_of, randomness_of}
use Rattle.command_parts.specs.declared.refusal.Refusal.{Refusal}
use Rattle.command_parts.specs.NoRun.{NoRun}
use Rattle.command_parts.specs.Outside.{files}
use Rattle.command_parts.specs.Thawing.{SpellsState}
use Rattle.command_parts.proofs.Refused.{is_some_bundle, no_bundle, no_file, no_stream}
use Rattle.frozen_commands.specs.Thawing.{IsStateFront, JudgesState}
use Rattle.frozen_commands.proofs.Refused.{asks_thawed, no_state, not_thawed, too_many}
use Rattle.frozen_commands.proofs.thawing.prepare_thawed.Goals as goal

pub returns-in-Err : goal.returns-in-Err
returns-in-Err g c =
    let e = c.in-Err.ensures in
    no_bundle c.in-Err.refusal _ _ refl e.bundle e.unread c.requires.reading e.files e.writing

pub returns-in-Err-read_state : goal.returns-in-Err-read_state
returns-in-Err-read_state g c =
    let b = c.in-Ok.ensures in
    let e = c.in-Err-read_state.ensures in
    no_file (Vec ℕ Global) c.args.thaw.now.files.state_name.now c.in-Err-read_state.refusal _ _ _ refl
    (inr (is_some_bundle _ _ _ _ b.bundle.1.1, inl refl)) b.bundle.0 e.reading e.unread c.requires.reading
    (λ name. e.files name ∙ b.files name) (e.writing ∙ b.writing)

pub returns-in-Err-open_stream : goal.returns-in-Err-open_stream
returns-in-Err-open_stream g c =
    let b = c.in-Ok.ensures in
    let f = c.in-Ok-read_state.ensures in
    let e = c.in-Err-open_stream.ensures in
    no_stream _ c.in-Err-open_stream.refusal _ _ _ refl
    (λ file named. inr (is_some_bundle _ _ _ _ b.bundle.1.1, inr named)) (f.reading ∙ b.bundle.0) e.stream e.unread
    c.requires.reading
    (λ name. e.files name ∙ (f.files name ∙ b.files name)) (e.writing ∙ (f.writing ∙ b.writing))

pub returns-in-Err-judge_state : goal.returns-in-Err-judge_state
returns-in-Err-judge_state g c =
    let b = c.in-Ok.ensures in
    let f = c.in-Ok-read_state.ensures in
    let s = c.in-Ok-open_stream.ensures in
    no_state _ _ _ c.in-Err-judge_state.refusal _ _ _ c.in-Ok.read.1.items _ _ b.bundle.1.1
    (subst (λ (told : Option (List ℕ)). IsStateFront told c.in-Ok-read_state.file.items) (b.files _) f.front)
    (subst (λ (d : List ℕ). JudgesState c.in-Ok.read.0 d c.in-Ok-read_state.file.items (Err c.in-Err-judge_state.refusal))
    c.digest_of-digest.ensures c.in-Err-judge_state.ensures)
    (s.stream.0 ∙ (f.reading ∙ b.bundle.0)) (λ name. s.files name ∙ (f.files name ∙ b.files name))
    (s.writing ∙ (f.writing ∙ b.writing))

pub returns-then-state-thaw : goal.returns-then-state-thaw
returns-then-state-thaw g c =
    let b = c.in-Ok.ensures in
    let f = c.in-Ok-read_state.ensures in
    let s = c.in-Ok-open_stream.ensures in
    let spells = subst (λ (d : List ℕ). SpellsState c.in-Ok.read.0 d c.in-Ok-judge_state.state c.in-Ok-read_state.file.items)
    c.digest_of-digest.ensures c.in-Ok-judge_state.ensures in
    let asks = asks_thawed b.bundle.1.1 b.files f.front spells (λ name. f.files name ∙ b.files name) s.stream.1 in
    let few = c.args.thaw.now.few_steps in
    let many = c.if-state-thaw.true in
    too_many _ _ _ _ _ _ asks (omega (arith, few, many))
    (s.stream.0 ∙ (f.reading ∙ b.bundle.0)) (λ name. s.files name ∙ (f.files name ∙ b.files name))
    (s.writing ∙ (f.writing ∙ b.writing))

pub returns-in-Ok-thaw : goal.returns-in-Ok-thaw
returns-in-Ok-thaw g c =
    let b = c.in-Ok.ensures in
    let f = c.in-Ok-read_state.ensures in
    let s = c.in-Ok-open_stream.ensures in
    let spells = subst (λ (d : List ℕ). SpellsState c.in-Ok.read.0 d c.in-Ok-judge_state.state c.in-Ok-read_state.file.items)
    c.digest_of-digest.ensures c.in-Ok-judge_state.ensures in
    let asks = asks_thawed b.bundle.1.1 b.files f.front spells (λ name. f.files name ∙ b.files name) s.stream.1 in
    let some = c.args.thaw.now.few_steps in
    let few = c.if-state-thaw.false in (
      record {
        held = λ name. s.files name ∙ (f.files name ∙ b.files name);
        reading = s.stream.0 ∙ (f.reading ∙ b.bundle.0);
        writing = s.writing ∙ (f.writing ∙ b.writing);
      },
      record {
        sources = record {
          version = b.bundle.1.0;
          bytes = c.in-Ok.read.1.items;
          bundle = c.in-Ok.read.0;
          state = c.in-Ok-judge_state.state;
          stream = c.in-Ok-open_stream.stream;
        };
        asks = asks;
        few = omega (arith, some, few);
        thaws = c.in-Ok-thaw.ensures.thaws;
        steps_are = c.in-Ok-thaw.ensures.steps;
        image_bytes = c.image_is_of_bytes.ensures;
        stream_bytes = s.stream.2;
      },
    )

pub returns : goal.returns
returns g c =
    let b = c.in-Ok.ensures in
    let f = c.in-Ok-read_state.ensures in
    let s = c.in-Ok-open_stream.ensures in
    let spells = subst (λ (d : List ℕ). SpellsState c.in-Ok.read.0 d c.in-Ok-judge_state.state c.in-Ok-read_state.file.items)
    c.digest_of-digest.ensures c.in-Ok-judge_state.ensures in
    let asks = asks_thawed b.bundle.1.1 b.files f.front spells (λ name. f.files name ∙ b.files name) s.stream.1 in
    let some = c.args.thaw.now.few_steps in
    let few = c.if-state-thaw.false in
    let thaw = c.args.thaw.now in
    let before = files g.S.Shelf c.args.shelf.now in
    let after = files g.S.Shelf c.open_stream.new.shelf in
    subst (λ (r : Refusal). NoRun (asked_of_thaw thaw) r before after) (sym c.refusal_of.ensures)
    (not_thawed (thaw_names_of thaw.files) thaw.steps (randomness_of thaw.randomness) c.in-Err-thaw.fault before after
    _ asks (omega (arith, some, few)) c.in-Err-thaw.ensures.faults
    (s.stream.0 ∙ (f.reading ∙ b.bundle.0)) (λ name. s.files name ∙ (f.files name ∙ b.files name))
    (s.writing ∙ (f.writing ∙ b.writing)))
