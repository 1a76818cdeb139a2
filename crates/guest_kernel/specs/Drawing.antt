-- The numbers of an image that are drawn, from the random stream of its number.
use Rattle.std.specs.Prelude.{ℕ, ◌≡◌, ◌+◌, ◌-◌, ◌*◌, ◌/◌, ◌%◌, ◌^◌, List, take, drop, map, EachIndex, slice_index, nat_lt, if◌then◌else◌}
use Rattle.std.specs.Int.{w32, from_le_bytes}
use Rattle.rand_chacha.specs.ChaCha.{word_at}
use Rattle.cloak_base.specs.Random.{Random, handed, keyed, numbered}
use Rattle.cloak_model.specs.Opening.{numbers_below}

-- word k of a random stream: four bytes, the lowest first
abbrev pub stream_word : Random → ℕ → ℕ
stream_word (handed bytes) k = from_le_bytes w32 (take 4 (drop (4 * k) bytes))
stream_word (keyed g) k = word_at 10 g.key g.stream ((g.word_pos + k) % 2 ^ 68)

-- word k of the stream of number n
unfoldable pub drawn_word : ℕ → ℕ → ℕ
drawn_word n k = stream_word (numbered n) k

-- these are the first words of the stream of number n
abbrev pub AreDrawn : ℕ → List ℕ → Type 0
AreDrawn n words = EachIndex words (λ k. slice_index words k ≡ drawn_word n k)

abbrev pub hart_count : ℕ → ℕ
hart_count n = 1 + n % 4

abbrev pub program_count : ℕ → ℕ
program_count n = 1 + n / 4 % 4

-- The hart of turn i of sixteen: each hart in order, and then one by each next word.
unfoldable pub hart_of_turn : ℕ → ℕ → ℕ
hart_of_turn n i = if nat_lt i (hart_count n) then i else drawn_word n (i - hart_count n) % hart_count n

abbrev pub schedule_of : ℕ → List ℕ
schedule_of n = map (hart_of_turn n) (numbers_below 16)

-- the rounds of program d, by its word after those of the turns
unfoldable pub rounds_of : ℕ → ℕ → ℕ
rounds_of n d = 16 + drawn_word n (16 - hart_count n + d) % 48
