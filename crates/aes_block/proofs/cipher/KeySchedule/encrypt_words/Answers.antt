use Rattle.std.proofs.Common.{◌≡◌, ◌+◌, ℕ, List, arith, ◌∙◌, subst}
use Rattle.aes_block.specs.Bytes.{IsBytes}
use Rattle.aes_block.specs.Word.{block_of_words}
use Rattle.aes_block.proofs.Keys.{key_at}
use Rattle.aes_block.proofs.Rounds.{rounds_start, rounds_more, rounds_end, encrypted-one_to_one}
use Rattle.aes_block.proofs.WordRounds.{IsBytes-block_of_words}
use Rattle.aes_block.proofs.cipher.KeySchedule.encrypt_words.Goals as goal

pub loop-j-init : goal.loop-j-init
loop-j-init c =
    let key = key_at c.args.self.now _ _ c.self.invariant c.self.view_is in
    rounds_start c.args.self.now (block_of_words c.args.s.now) _ _ (key 0 (omega arith)) c.add_words.ensures

pub loop-j-preserved : goal.loop-j-preserved
loop-j-preserved c =
    let key = key_at c.args.self.now _ _ c.self.invariant c.self.view_is in
    rounds_more c.args.self.now (block_of_words c.args.s.now) c.loop-j.j _ _ _ c.loop-j.invariant
    (key (c.loop-j.j + 1) (omega arith)) c.round.ensures

pub returns-clause-enciphered : goal.returns-clause-enciphered
returns-clause-enciphered c =
    let key = key_at c.args.self.now _ _ c.self.invariant c.self.view_is in
    let nine : c.loop-j.j ≡ 9 = omega arith in
    rounds_end c.args.self.now (block_of_words c.args.s.now) _ _ _ (rw nine at c.loop-j.invariant)
    (key 10 (omega arith)) c.last_round.ensures

pub returns-clause-only_one : goal.returns-clause-only_one
returns-clause-only_one c = λ p bytes is.
    let key : IsBytes 16 c.args.self.now =
    subst (λ (k : List ℕ). IsBytes 16 k) c.self.view_is (IsBytes-block_of_words _) in
    encrypted-one_to_one c.args.self.now p (block_of_words c.args.s.now) key bytes
    (IsBytes-block_of_words c.args.s.now) (is ∙ returns-clause-enciphered c)
