-- The round keys of a key, as words.
use Rattle.std.proofs.Common.{◌≡◌, ◌<◌, ◌+◌, ◌-◌, ℕ, List, [], length, arith, refl, sym, ◌∙◌, ap, subst}
use Rattle.std.proofs.Common.{inl, inr, add-one}
use Rattle.std.proofs.lemmas.List.{get_or-set_same, get_or-set_other}
use Rattle.std.proofs.lemmas.Bool.Decides.{eqb_tells}
use Rattle.std.specs.Prelude.{slice_set}
use Rattle.aes_block.specs.State.{mix_columns}
use Rattle.aes_block.specs.RoundKey.{round_key, next_key}
use Rattle.aes_block.specs.Word.{block_of_words}
use Rattle.aes_block.specs.KeySchedule.{IsExpanded, key_at_place}

pub round_key-zero : (key : List ℕ) → round_key key 0 ≡ key
unfolding round_key
round_key-zero key = refl

pub round_key-next : (key : List ℕ) (j : ℕ) → round_key key (j + 1) ≡ next_key (j + 1) (round_key key j)
unfolding round_key
round_key-next key j =
    subst (λ (m : ℕ). round_key key m ≡ next_key (j + 1) (round_key key j)) (sym (add-one j)) refl

-- one key more in a list of them
key_put : (f : List ℕ → List ℕ) (want : ℕ → List ℕ) (keys : List (List ℕ)) (j : ℕ) (new : List ℕ) → j < length keys →
    ((k : ℕ) → k < j → f (key_at_place keys k) ≡ want k) → f (block_of_words new) ≡ want j →
    (k : ℕ) → k < j + 1 → f (key_at_place (slice_set keys j new) k) ≡ want k
key_put f want keys j new inside made is k h =
    elim (eqb_tells k j) [
      | inl e ↦ rw e.1 (ap (λ (x : List ℕ). f (block_of_words x)) (get_or-set_same keys j new [] inside) ∙ is)
      | inr e ↦ (
          let ne = e.1 in
          ap (λ (x : List ℕ). f (block_of_words x)) (get_or-set_other keys j k new [] ne) ∙ made k (omega arith))
    ]

-- one round key more
pub made_more : (key : List ℕ) (keys : List (List ℕ)) (j : ℕ) (new : List ℕ) → j < 10 → length keys ≡ 11 →
    ((k : ℕ) → k < j + 1 → key_at_place keys k ≡ round_key key k) →
    block_of_words new ≡ next_key (j + 1) (key_at_place keys j) →
    (k : ℕ) → k < j + 1 + 1 → key_at_place (slice_set keys (j + 1) new) k ≡ round_key key k
made_more key keys j new low count made is =
    key_put (λ x. x) (round_key key) keys (j + 1) new (omega arith) made
    (is ∙ ap (λ (x : List ℕ). next_key (j + 1) x) (made j (omega arith)) ∙ sym (round_key-next key j))

-- one more that mixes to a round key
pub unmixed_more : (key : List ℕ) (keys inverse_keys : List (List ℕ)) (i : ℕ) (new : List ℕ) → i < 9 →
    length inverse_keys ≡ 9 → ((k : ℕ) → k < 11 → key_at_place keys k ≡ round_key key k) →
    ((k : ℕ) → k < i → mix_columns (key_at_place inverse_keys k) ≡ round_key key (9 - k)) →
    mix_columns (block_of_words new) ≡ key_at_place keys (9 - i) →
    (k : ℕ) → k < i + 1 → mix_columns (key_at_place (slice_set inverse_keys i new) k) ≡ round_key key (9 - k)
unmixed_more key keys inverse_keys i new low count made unmixed is =
    key_put mix_columns (λ k. round_key key (9 - k)) inverse_keys i new (omega arith) unmixed
    (is ∙ made (9 - i) (omega arith))

-- all of them
pub all_made : (key : List ℕ) (keys inverse_keys : List (List ℕ)) →
    ((k : ℕ) → k < 11 → key_at_place keys k ≡ round_key key k) →
    ((k : ℕ) → k < 9 → mix_columns (key_at_place inverse_keys k) ≡ round_key key (9 - k)) →
    IsExpanded keys inverse_keys
all_made key keys inverse_keys made unmixed =
    let is : key ≡ key_at_place keys 0 = sym (made 0 (omega arith) ∙ round_key-zero key) in
    record {
      each = λ j h. made j h ∙ ap (λ (x : List ℕ). round_key x j) is;
      inverse_each = λ j h. unmixed j h ∙ ap (λ (x : List ℕ). round_key x (9 - j)) is;
    }

-- the round keys at their places
pub key_at : (now : List ℕ) (keys inverse_keys : List (List ℕ)) → IsExpanded keys inverse_keys →
    key_at_place keys 0 ≡ now → (j : ℕ) → j < 11 → key_at_place keys j ≡ round_key now j
key_at now keys inverse_keys x is j h = x.each j h ∙ ap (λ (k : List ℕ). round_key k j) is

pub unmixed_key_at : (now : List ℕ) (keys inverse_keys : List (List ℕ)) → IsExpanded keys inverse_keys →
    key_at_place keys 0 ≡ now → (j : ℕ) → j < 9 → mix_columns (key_at_place inverse_keys j) ≡ round_key now (9 - j)
unmixed_key_at now keys inverse_keys x is j h = x.inverse_each j h ∙ ap (λ (k : List ℕ). round_key k (9 - j)) is
