-- Pages and lists of blocks that are sealed or opened up to a block.
use Rattle.std.proofs.Common.{◌≡◌, ◌≤◌, ◌<◌, ◌+◌, ◌-◌, ◌*◌, ℕ, List, [], ◌∷◌, ◌++◌, length, get_or, take, drop, refl, sym, ◌∙◌, ap, subst, arith, add-one, append_assoc, length-append, length-drop, drop-cons}
use Rattle.std.specs.Prelude.{slice_set}
use Rattle.std.specs.List.{concat}
use Rattle.std.proofs.Math.Seq.{take-add}
use Rattle.std.proofs.lemmas.List.{drop-drop, drop_all, take_all, append-nil, drop_at, take_at, take-append-drop, length-take-le, append_cancel_left, take_more_set, drop-set-lt}
use Rattle.std.proofs.lemmas.List.Elements.{All-take, All-drop}
use Rattle.aes_block.specs.Bytes.{IsBytes}
use Rattle.aes_block.specs.State.{block_sum}
use Rattle.aes_block.specs.Cipher.{encrypted}
use Rattle.aes_block.proofs.Blocks.{IsBytes-block_sum}
use Rattle.aes_block.proofs.OneToOne.{block_sum-block_sum}
use Rattle.cloak_model.specs.Chain.{chained, blocks_of, cbc}
use Rattle.aes_cbc.specs.Opened.{IsOpened}
use Rattle.aes_block.proofs.Lengths.{length-encrypted}

-- the first n blocks of these bytes, as one chain
abbrev pub sealed_from : List ℕ → ℕ → List ℕ → List ℕ → List ℕ
sealed_from key n last s = concat (chained key last (blocks_of n s))

pub sealed_from-next : (key : List ℕ) (n : ℕ) (last s : List ℕ) → sealed_from key (n + 1) last s ≡ encrypted key (block_sum (take 16 s) last) ++ sealed_from key n (encrypted key (block_sum (take 16 s) last)) (drop 16 s)
unfolding chained blocks_of
sealed_from-next key n last s = subst (λ (m : ℕ). sealed_from key m last s ≡ encrypted key (block_sum (take 16 s) last) ++ sealed_from key n (encrypted key (block_sum (take 16 s) last)) (drop 16 s)) (sym (add-one n)) refl

sealed_from-zero : (key last s : List ℕ) → sealed_from key 0 last s ≡ []
unfolding chained blocks_of
sealed_from-zero key last s = refl

cbc-sealed_from : (key iv page : List ℕ) → cbc key iv page ≡ sealed_from key 256 iv page
unfolding cbc
cbc-sealed_from key iv page = refl

-- block j of a page
abbrev pub block_of : List ℕ → ℕ → List ℕ
block_of page j = take 16 (drop (16 * j) page)

length-block_of : (page : List ℕ) (j : ℕ) → length page ≡ 4096 → j < 256 → length (block_of page j) ≡ 16
length-block_of page j long low =
    let rest = length-drop (16 * j) page in
    length-take-le 16 (drop (16 * j) page) (omega arith)

IsBytes-block_of : (page : List ℕ) (j : ℕ) → IsBytes 4096 page → j < 256 → IsBytes 16 (block_of page j)
IsBytes-block_of page j b low = record {
  long = length-block_of page j b.long low;
  bytes = All-take (λ x. x < 256) 16 (drop (16 * j) page) (All-drop (λ x. x < 256) (16 * j) page b.bytes);
}

-- a page after block j was put there
record IsPut (j : ℕ) (old block new : List ℕ) : Type 0 where
  long : length new ≡ 4096
  front : take (16 * (j + 1)) new ≡ take (16 * j) old ++ block
  behind : drop (16 * (j + 1)) new ≡ drop 16 (drop (16 * j) old)

put : (j : ℕ) (old block new : List ℕ) → j < 256 → length old ≡ 4096 → length block ≡ 16 → new ≡ take (16 * j) old ++ (block ++ drop (16 * j + 16) old) → IsPut j old block new
put j old block new low long sixteen is =
    let front : List ℕ = take (16 * j) old in
    let behind : List ℕ = drop (16 * j + 16) old in
    let front_long : length front ≡ 16 * j = length-take-le (16 * j) old (omega arith) in
    let behind_long = length-drop (16 * j + 16) old in
    let joined : length (front ++ block) ≡ 16 * (j + 1) = length-append front block ∙ omega arith in
    let is' : new ≡ (front ++ block) ++ behind = is ∙ sym (append_assoc front block behind) in
    let whole : length new ≡ length (front ++ block) + length behind = ap length is' ∙ length-append (front ++ block) behind in
    record {
      long = omega arith;
      front = rw is' (take_at (front ++ block) behind (16 * (j + 1)) joined);
      behind = rw is' (drop_at (front ++ block) behind (16 * (j + 1)) joined) ∙ sym (drop-drop 16 (16 * j) old);
    }

-- a page whose first j blocks are sealed
pub record IsSealedTo (key whole : List ℕ) (j : ℕ) (now last : List ℕ) : Type 0 where
  pub long : length now ≡ 4096
  pub done : whole ≡ take (16 * j) now ++ sealed_from key (256 - j) last (drop (16 * j) now)

pub sealed_start : (key iv page : List ℕ) → length page ≡ 4096 → IsSealedTo key (cbc key iv page) 0 page iv
sealed_start key iv page long = record { long = long; done = cbc-sealed_from key iv page }

pub sealed_more : (key whole : List ℕ) (j : ℕ) (now last new block : List ℕ) → j < 256 → IsSealedTo key whole j now last → block ≡ encrypted key (block_sum (block_of now j) last) → new ≡ take (16 * j) now ++ (block ++ drop (16 * j + 16) now) → IsSealedTo key whole (j + 1) new block
sealed_more key whole j now last new block low s made is =
    let sixteen : length block ≡ 16 = rw made (length-encrypted key (block_sum (block_of now j) last)) in
    let p = put j now block new low s.long sixteen is in
    let n : 256 - j ≡ (256 - (j + 1)) + 1 = omega arith in
    let next = sealed_from-next key (256 - (j + 1)) last (drop (16 * j) now) in
    record {
      long = p.long;
      done =
          s.done
          ∙ ap (λ (m : ℕ). take (16 * j) now ++ sealed_from key m last (drop (16 * j) now)) n
          ∙ ap (λ (t : List ℕ). take (16 * j) now ++ t) next
          ∙ ap (λ (b : List ℕ). take (16 * j) now ++ (b ++ sealed_from key (256 - (j + 1)) b (drop 16 (drop (16 * j) now)))) (sym made)
          ∙ sym (append_assoc (take (16 * j) now) block (sealed_from key (256 - (j + 1)) block (drop 16 (drop (16 * j) now))))
          ∙ ap (λ (t : List ℕ). t ++ sealed_from key (256 - (j + 1)) block (drop 16 (drop (16 * j) now))) (sym p.front)
          ∙ ap (λ (t : List ℕ). take (16 * (j + 1)) new ++ sealed_from key (256 - (j + 1)) block t) (sym p.behind);
    }

pub sealed_end : (key whole now last : List ℕ) → IsSealedTo key whole 256 now last → now ≡ whole
sealed_end key whole now last s =
    let long = s.long in
    sym (s.done
    ∙ ap (λ (t : List ℕ). take 4096 now ++ t) (sealed_from-zero key last (drop 4096 now))
    ∙ append-nil (take 4096 now)
    ∙ take_all 4096 now (omega arith))

-- a page whose first j blocks are opened: whatever stands after them, sealing gives back the blocks that stood there
-- and goes on from the last; and they begin every page that seals to the old one
pub record IsOpenedTo (key iv old : List ℕ) (j : ℕ) (now last : List ℕ) : Type 0 where
  pub long : length now ≡ 4096
  pub behind : drop (16 * j) now ≡ drop (16 * j) old
  pub seals : (t : List ℕ) → sealed_from key 256 iv (take (16 * j) now ++ t) ≡ take (16 * j) old ++ sealed_from key (256 - j) last t
  pub only : (q : List ℕ) → IsBytes 4096 q → cbc key iv q ≡ old → take (16 * j) now ≡ take (16 * j) q

pub opened_start : (key iv page : List ℕ) → length page ≡ 4096 → IsOpenedTo key iv page 0 page iv
opened_start key iv page long = record { long = long; behind = refl; seals = λ t. refl; only = λ q b is. refl }

-- one block, when the block cipher gives the one block whose encryption stood there
pub opened_block : (key last sealed plain : List ℕ) → length plain ≡ 16 → IsBytes 16 last → encrypted key plain ≡ sealed → ((p : List ℕ) → IsBytes 16 p → encrypted key p ≡ sealed → plain ≡ p) → IsOpened key last sealed (block_sum plain last)
opened_block key last sealed plain long last_bytes back only = record {
  back = ap (λ (b : List ℕ). encrypted key b) (block_sum-block_sum plain last long) ∙ back;
  only = λ p bytes is.
      ap (λ (b : List ℕ). block_sum b last) (only (block_sum p last) (IsBytes-block_sum p last bytes last_bytes) is)
      ∙ block_sum-block_sum p last bytes.long;
}

seals_more : (key iv old : List ℕ) (j : ℕ) (now last new sealed block : List ℕ) → j < 256 → IsOpenedTo key iv old j now last → sealed ≡ block_of old j → length block ≡ 16 → encrypted key (block_sum block last) ≡ sealed → take (16 * (j + 1)) new ≡ take (16 * j) now ++ block → (t : List ℕ) → sealed_from key 256 iv (take (16 * (j + 1)) new ++ t) ≡ take (16 * (j + 1)) old ++ sealed_from key (256 - (j + 1)) sealed t
seals_more key iv old j now last new sealed block low o here sixteen back front t =
    let n : 256 - j ≡ (256 - (j + 1)) + 1 = omega arith in
    let first : take 16 (block ++ t) ≡ block = take_at block t 16 sixteen in
    let others : drop 16 (block ++ t) ≡ t = drop_at block t 16 sixteen in
    let m : 16 * (j + 1) ≡ 16 * j + 16 = omega arith in
    let ends : take (16 * (j + 1)) old ≡ take (16 * j) old ++ sealed = ap (λ (k : ℕ). take k old) m ∙ take-add (16 * j) 16 old ∙ ap (λ (b : List ℕ). take (16 * j) old ++ b) (sym here) in
    ap (λ (f : List ℕ). sealed_from key 256 iv (f ++ t)) front
    ∙ ap (λ (f : List ℕ). sealed_from key 256 iv f) (append_assoc (take (16 * j) now) block t)
    ∙ o.seals (block ++ t)
    ∙ ap (λ (k : ℕ). take (16 * j) old ++ sealed_from key k last (block ++ t)) n
    ∙ ap (λ (f : List ℕ). take (16 * j) old ++ f) (sealed_from-next key (256 - (j + 1)) last (block ++ t))
    ∙ ap (λ (f : List ℕ). take (16 * j) old ++ (encrypted key (block_sum f last) ++ sealed_from key (256 - (j + 1)) (encrypted key (block_sum f last)) (drop 16 (block ++ t)))) first
    ∙ ap (λ (f : List ℕ). take (16 * j) old ++ (encrypted key (block_sum block last) ++ sealed_from key (256 - (j + 1)) (encrypted key (block_sum block last)) f)) others
    ∙ ap (λ (c : List ℕ). take (16 * j) old ++ (c ++ sealed_from key (256 - (j + 1)) c t)) back
    ∙ sym (append_assoc (take (16 * j) old) sealed (sealed_from key (256 - (j + 1)) sealed t))
    ∙ ap (λ (f : List ℕ). f ++ sealed_from key (256 - (j + 1)) sealed t) (sym ends)

-- a block of any page that seals to the old one
only_more : (key iv old : List ℕ) (j : ℕ) (now last sealed block q : List ℕ) → j < 256 → IsOpenedTo key iv old j now last → sealed ≡ block_of old j → IsOpened key last sealed block → IsBytes 4096 q → cbc key iv q ≡ old → block ≡ block_of q j
only_more key iv old j now last sealed block q low o here d b is =
    let rest : List ℕ = drop (16 * j) q in
    let n : 256 - j ≡ (256 - (j + 1)) + 1 = omega arith in
    let cut : sealed_from key 256 iv (take (16 * j) now ++ rest) ≡ old =
    ap (λ (f : List ℕ). sealed_from key 256 iv (f ++ rest)) (o.only q b is)
    ∙ ap (λ (f : List ℕ). sealed_from key 256 iv f) (take-append-drop (16 * j) q)
    ∙ sym (cbc-sealed_from key iv q) ∙ is in
    let behind : sealed_from key (256 - j) last rest ≡ drop (16 * j) old =
    append_cancel_left (take (16 * j) old) (sealed_from key (256 - j) last rest) (drop (16 * j) old)
    (sym (o.seals rest) ∙ cut ∙ sym (take-append-drop (16 * j) old)) in
    let c : List ℕ = encrypted key (block_sum (block_of q j) last) in
    let first : c ++ sealed_from key (256 - (j + 1)) c (drop 16 rest) ≡ drop (16 * j) old =
    sym (sealed_from-next key (256 - (j + 1)) last rest) ∙ ap (λ (k : ℕ). sealed_from key k last rest) (sym n) ∙ behind in
    let same : c ≡ sealed =
    sym (take_at c (sealed_from key (256 - (j + 1)) c (drop 16 rest)) 16 (length-encrypted key (block_sum (block_of q j) last)))
    ∙ ap (λ (f : List ℕ). take 16 f) first ∙ sym here in
    d.only (block_of q j) (IsBytes-block_of q j b low) same

pub opened_more : (key iv old : List ℕ) (j : ℕ) (now last new sealed block : List ℕ) → j < 256 → IsOpenedTo key iv old j now last → sealed ≡ block_of now j → length block ≡ 16 → IsOpened key last sealed block → new ≡ take (16 * j) now ++ (block ++ drop (16 * j + 16) now) → IsOpenedTo key iv old (j + 1) new sealed
opened_more key iv old j now last new sealed block low o read sixteen d is =
    let here : sealed ≡ block_of old j = read ∙ ap (λ (t : List ℕ). take 16 t) o.behind in
    let p = put j now block new low o.long sixteen is in
    let front = p.front in
    let m : 16 * (j + 1) ≡ 16 * j + 16 = omega arith in
    record {
      long = p.long;
      behind = p.behind ∙ ap (λ (t : List ℕ). drop 16 t) o.behind ∙ drop-drop 16 (16 * j) old ∙ ap (λ (k : ℕ). drop k old) (sym m);
      seals = seals_more key iv old j now last new sealed block low o here sixteen d.back front;
      only = λ q b same.
          front ∙ ap (λ (f : List ℕ). f ++ block) (o.only q b same)
          ∙ ap (λ (f : List ℕ). take (16 * j) q ++ f) (only_more key iv old j now last sealed block q low o here d b same)
          ∙ sym (ap (λ (k : ℕ). take k q) m ∙ take-add (16 * j) 16 q);
    }

pub opened_seals : (key iv old now last : List ℕ) → length old ≡ 4096 → IsOpenedTo key iv old 256 now last → cbc key iv now ≡ old
opened_seals key iv old now last long o =
    let now_long = o.long in
    let whole : take 4096 now ++ [] ≡ now = append-nil (take 4096 now) ∙ take_all 4096 now (omega arith) in
    cbc-sealed_from key iv now
    ∙ ap (λ (f : List ℕ). sealed_from key 256 iv f) (sym whole)
    ∙ o.seals []
    ∙ ap (λ (f : List ℕ). take 4096 old ++ f) (sealed_from-zero key last [])
    ∙ append-nil (take 4096 old)
    ∙ take_all 4096 old (omega arith)

pub opened_only : (key iv old now last : List ℕ) → IsOpenedTo key iv old 256 now last → (q : List ℕ) → IsBytes 4096 q → cbc key iv q ≡ old → now ≡ q
opened_only key iv old now last o q b is =
    let now_long = o.long in
    let q_long = b.long in
    sym (take_all 4096 now (omega arith)) ∙ o.only q b is ∙ take_all 4096 q (omega arith)

-- a list of blocks whose first j are sealed
pub record AreSealedTo (key : List ℕ) (whole : List (List ℕ)) (j : ℕ) (now : List (List ℕ)) (last : List ℕ) : Type 0 where
  pub done : whole ≡ take j now ++ chained key last (drop j now)

pub blocks_start : (key iv : List ℕ) (blocks : List (List ℕ)) → AreSealedTo key (chained key iv blocks) 0 blocks iv
blocks_start key iv blocks = record { done = refl }

pub blocks_more : (key : List ℕ) (whole : List (List ℕ)) (j : ℕ) (now : List (List ℕ)) (last block : List ℕ) → j < length now → AreSealedTo key whole j now last → block ≡ encrypted key (block_sum (get_or now j []) last) → AreSealedTo key whole (j + 1) (slice_set now j block) block
unfolding chained
blocks_more key whole j now last block low s made =
    let split : drop j now ≡ get_or now j [] ∷ drop (j + 1) now = drop-cons now j [] low ∙ ap (λ (k : ℕ). get_or now j [] ∷ drop k now) (sym (add-one j)) in
    record {
      done =
          s.done
          ∙ ap (λ (t : List (List ℕ)). take j now ++ chained key last t) split
          ∙ ap (λ (b : List ℕ). take j now ++ (b ∷ chained key b (drop (j + 1) now))) (sym made)
          ∙ sym (append_assoc (take j now) (block ∷ []) (chained key block (drop (j + 1) now)))
          ∙ ap (λ (t : List (List ℕ)). t ++ chained key block (drop (j + 1) now)) (sym (take_more_set now j block low))
          ∙ ap (λ (t : List (List ℕ)). take (j + 1) (slice_set now j block) ++ chained key block t) (sym (drop-set-lt (j + 1) now j block (omega arith)));
    }

pub blocks_end : (key : List ℕ) (whole : List (List ℕ)) (j : ℕ) (now : List (List ℕ)) (last : List ℕ) → length now ≤ j → AreSealedTo key whole j now last → now ≡ whole
unfolding chained
blocks_end key whole j now last past s =
    sym (s.done
    ∙ ap (λ (t : List (List ℕ)). take j now ++ chained key last t) (drop_all j now past)
    ∙ append-nil (take j now)
    ∙ take_all j now past)
