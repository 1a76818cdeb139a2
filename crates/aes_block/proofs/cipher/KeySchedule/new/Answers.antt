use Rattle.std.proofs.Common.{◌≡◌, arith, refl, ◌∙◌}
use Rattle.std.proofs.lemmas.List.{length-set}
use Rattle.aes_block.specs.RoundKey.{round_key}
use Rattle.aes_block.proofs.Keys.{round_key-zero, made_more, unmixed_more, all_made}
use Rattle.aes_block.proofs.cipher.KeySchedule.new.Goals as goal

pub loop-j-init : goal.loop-j-init
unfolding round_key
loop-j-init c = record { count = refl; made = λ k h. (let e : k ≡ 0 = omega arith in rw e c.words_of-keys.ensures) }

pub loop-j-preserved : goal.loop-j-preserved
loop-j-preserved c = record {
  count = length-set _ _ _ ∙ c.loop-j.invariant.count;
  made = made_more c.args.key.now c.loop-j.keys c.loop-j.j c.next_key.result (omega arith) c.loop-j.invariant.count c.loop-j.invariant.made c.next_key.ensures;
}

pub loop-i-init : goal.loop-i-init
loop-i-init c = record { count = refl; made = λ k h. absurd (omega arith) }

pub loop-i-preserved : goal.loop-i-preserved
loop-i-preserved c = record {
  count = length-set _ _ _ ∙ c.loop-i.invariant.count;
  made = unmixed_more c.args.key.now c.loop-j.keys c.loop-i.inverse_keys c.loop-i.i c.unmixed_key.result (omega arith) c.loop-i.invariant.count (λ k h. c.loop-j.invariant.made k (omega arith)) c.loop-i.invariant.made c.unmixed_key.ensures;
}

pub invariant_of-result : goal.invariant_of-result
invariant_of-result c = all_made c.args.key.now c.loop-j.keys c.loop-i.inverse_keys
    (λ k h. c.loop-j.invariant.made k (omega arith))
    (λ k h. c.loop-i.invariant.made k (omega arith))

pub returns : goal.returns
returns c = c.loop-j.invariant.made 0 (omega arith) ∙ round_key-zero c.args.key.now
