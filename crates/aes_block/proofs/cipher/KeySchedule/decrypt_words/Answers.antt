use Rattle.std.proofs.Common.{ℕ, List, arith, sym, ◌∙◌, subst}
use Rattle.aes_block.specs.Bytes.{IsBytes}
use Rattle.aes_block.specs.Word.{block_of_words}
use Rattle.aes_block.proofs.Keys.{key_at, unmixed_key_at}
use Rattle.aes_block.proofs.Rounds.{undone_start, undone_more, undone_end, encrypted-one_to_one}
use Rattle.aes_block.proofs.WordRounds.{IsBytes-block_of_words}
use Rattle.aes_block.proofs.cipher.KeySchedule.decrypt_words.Goals as goal

pub returns-clause-enciphers_back : goal.returns-clause-enciphers_back
returns-clause-enciphers_back c =
    let now : List ℕ = c.args.self.now in
    let b : List ℕ = block_of_words c.args.s.now in
    let key = key_at now _ _ c.self.invariant c.self.view_is in
    let mixes = unmixed_key_at now _ _ c.self.invariant c.self.view_is in
    let u0 = undone_start now b _ _ (IsBytes-block_of_words c.args.s.now).long (key 10 (omega arith)) c.add_words.ensures in
    let u1 =
    undone_more now b 0 _ _ _ (omega arith) u0 (mixes 0 (omega arith)) c.inverse_round.ensures in
    let u2 =
    undone_more now b 1 _ _ _ (omega arith) u1 (mixes 1 (omega arith)) c.inverse_round-2.ensures in
    let u3 =
    undone_more now b 2 _ _ _ (omega arith) u2 (mixes 2 (omega arith)) c.inverse_round-3.ensures in
    let u4 =
    undone_more now b 3 _ _ _ (omega arith) u3 (mixes 3 (omega arith)) c.inverse_round-4.ensures in
    let u5 =
    undone_more now b 4 _ _ _ (omega arith) u4 (mixes 4 (omega arith)) c.inverse_round-5.ensures in
    let u6 =
    undone_more now b 5 _ _ _ (omega arith) u5 (mixes 5 (omega arith)) c.inverse_round-6.ensures in
    let u7 =
    undone_more now b 6 _ _ _ (omega arith) u6 (mixes 6 (omega arith)) c.inverse_round-7.ensures in
    let u8 =
    undone_more now b 7 _ _ _ (omega arith) u7 (mixes 7 (omega arith)) c.inverse_round-8.ensures in
    let u9 =
    undone_more now b 8 _ _ _ (omega arith) u8 (mixes 8 (omega arith)) c.inverse_round-9.ensures in
    undone_end now b _ _ _ u9 (key 0 (omega arith)) c.last_inverse_round.ensures

pub returns-clause-only_one : goal.returns-clause-only_one
returns-clause-only_one c = λ p bytes is.
    let key : IsBytes 16 c.args.self.now =
    subst (λ (k : List ℕ). IsBytes 16 k) c.self.view_is (IsBytes-block_of_words _) in
    encrypted-one_to_one c.args.self.now _ p key (IsBytes-block_of_words _) bytes
    (returns-clause-enciphers_back c ∙ sym is)
