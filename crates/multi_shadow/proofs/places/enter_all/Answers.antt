use Rattle.std.proofs.Common.{Some}
use Rattle.chain_arena.specs.declared.chain.Chain.TheVariants as chain
use Rattle.multi_shadow.proofs.Placing.{lies_on, out_on}
use Rattle.multi_shadow.proofs.places.enter_all.Goals as goal

pub enter-requires-clause-apart : goal.enter-requires-clause-apart
enter-requires-clause-apart c = c.requires.apart chain.Bucket

pub enter-requires-2-clause-in_use : goal.enter-requires-2-clause-in_use
enter-requires-2-clause-in_use c = (c.args.e, lies_on c.args.arena.now c.enter.new.arena chain.Bucket (Some c.bucket_of-bucket.result) c.args.s c.args.e c.enter.ensures.entered c.requires.lies)

pub enter-requires-2-clause-apart : goal.enter-requires-2-clause-apart
enter-requires-2-clause-apart c =
    out_on c.args.arena.now c.enter.new.arena chain.Bucket chain.Target (Some c.bucket_of-bucket.result) c.args.s (λ e. cc) c.enter.ensures.entered (c.requires.apart chain.Target)

pub enter-requires-3-clause-in_use : goal.enter-requires-3-clause-in_use
enter-requires-3-clause-in_use c = (
  c.args.e,
  lies_on c.enter.new.arena c.enter-2.new.arena chain.Target (Some c.args.e.frame.0) c.args.s c.args.e c.enter-2.ensures.entered
      (lies_on c.args.arena.now c.enter.new.arena chain.Bucket (Some c.bucket_of-bucket.result) c.args.s c.args.e c.enter.ensures.entered c.requires.lies),
)

pub enter-requires-3-clause-apart : goal.enter-requires-3-clause-apart
enter-requires-3-clause-apart c =
    out_on c.enter.new.arena c.enter-2.new.arena chain.Target chain.First (Some c.args.e.frame.0) c.args.s (λ e. cc) c.enter-2.ensures.entered
    (out_on c.args.arena.now c.enter.new.arena chain.Bucket chain.First (Some c.bucket_of-bucket.result) c.args.s (λ e. cc) c.enter.ensures.entered (c.requires.apart chain.First))

pub enter-requires-4-clause-in_use : goal.enter-requires-4-clause-in_use
enter-requires-4-clause-in_use c = (
  c.args.e,
  lies_on c.enter-2.new.arena c.enter-3.new.arena chain.First c.number_of.result c.args.s c.args.e c.enter-3.ensures.entered
      (lies_on c.enter.new.arena c.enter-2.new.arena chain.Target (Some c.args.e.frame.0) c.args.s c.args.e c.enter-2.ensures.entered
      (lies_on c.args.arena.now c.enter.new.arena chain.Bucket (Some c.bucket_of-bucket.result) c.args.s c.args.e c.enter.ensures.entered c.requires.lies)),
)

pub enter-requires-4-clause-apart : goal.enter-requires-4-clause-apart
enter-requires-4-clause-apart c =
    out_on c.enter-2.new.arena c.enter-3.new.arena chain.First chain.Second c.number_of.result c.args.s (λ e. cc) c.enter-3.ensures.entered
    (out_on c.enter.new.arena c.enter-2.new.arena chain.Target chain.Second (Some c.args.e.frame.0) c.args.s (λ e. cc) c.enter-2.ensures.entered
    (out_on c.args.arena.now c.enter.new.arena chain.Bucket chain.Second (Some c.bucket_of-bucket.result) c.args.s (λ e. cc) c.enter.ensures.entered (c.requires.apart chain.Second)))
