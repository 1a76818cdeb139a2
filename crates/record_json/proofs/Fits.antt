-- The members of an item have numbers that JSON reads.
use Rattle.std.proofs.Common.{◌≡◌, ◌<◌, ◌^◌, ℕ, List, [], ◌∷◌, inl, inr, arith}
use Rattle.std.specs.List.{AllByRecursion}
use Rattle.cloak_model.specs.Items.{Item}
use Rattle.cloak_model.specs.Items as item
use Rattle.cloak_model.specs.Record.{IsWord}
use Rattle.cloak_model.specs.Effect.{IsWidth}
use Rattle.record_text.specs.declared.place.RecordPlace.{RecordPlace}
use Rattle.record_text.specs.declared.place.RecordPlace.TheVariants as place
use Rattle.record_json.specs.JsonLaw.{AreObjectLines, HasFields, HasNumber}
use Rattle.record_json.specs.Members.{with_number}
use Rattle.record_json.specs.Objects.{item_members, place_members, placed_members}
use Rattle.record_json.proofs.Texts.{FitsMember, fits-append, fits_number, fits_numbers, fits_text, reads_line}

word_fits : (name : List ℕ) (n : ℕ) → IsWord n → FitsMember (with_number name n)
word_fits name n word = fits_number name n (omega (arith, word))

byte_fits : (name : List ℕ) (n : ℕ) → n < 256 → FitsMember (with_number name n)
byte_fits name n low = fits_number name n (omega (arith, low))

width_low : (width : ℕ) → IsWidth width → width < 256
width_low width is = elim is [
  | inl one ↦ omega (arith, one)
  | inr more ↦ elim more [
    | inl two ↦ omega (arith, two)
    | inr four ↦ omega (arith, four)
  ]
]

words_fit : (ns : List ℕ) → AllByRecursion IsWord ns → AllByRecursion (λ n. n < 2 ^ 64) ns
words_fit [] h = tt
words_fit (n ∷ ns) h = (let word : n < 2 ^ 32 = h.0 in omega (arith, word), words_fit ns h.1)

place_fits : (p : RecordPlace) → HasNumber p → AllByRecursion FitsMember (place_members p)
place_fits place.Opening h = (fits_text [] [], (fits_number [] 0 (omega arith), tt))
place_fits (place.Step number) h = (fits_text [] [], (word_fits [] number h, tt))
place_fits (place.Closing steps) h = (fits_text [] [], (word_fits [] steps h, tt))
place_fits place.End h = (fits_text [] [], tt)

item_fits : (i : Item) → HasFields i → AllByRecursion FitsMember (item_members i)
unfolding item_members
item_fits (item.Cipher frame bytes) h = (fits_text [] [], (word_fits [] frame h.words.0, (fits_text [] [], tt)))
item_fits (item.Put address width value) h =
    (fits_text [] [], (word_fits [] address h.words.0, (byte_fits [] width (width_low width h.words.1), (word_fits [] value h.words.2, tt))))
item_fits (item.Leave s) h =
    let words = h.words.1 in (
      fits_text [] [],
      (
        word_fits [] s.cause words.0,
        (
          word_fits [] s.stval words.1.0,
          (
            word_fits [] s.ctx words.1.1.0,
            (word_fits [] s.number words.1.1.1.0, (fits_numbers [] s.args (words_fit s.args words.1.1.1.1), tt)),
          ),
        ),
      ),
    )
item_fits (item.Step number) h = (fits_text [] [], tt)
item_fits (item.Close steps) h = (fits_text [] [], tt)
item_fits item.End h = (fits_text [] [], tt)
item_fits (item.Ok domain) h = (fits_text [] [], (byte_fits [] domain h.program, tt))
item_fits (item.Absent domain cause) h = (fits_text [] [], (byte_fits [] domain h.program, (word_fits [] cause h.words, tt)))
item_fits (item.Word domain value) h = (fits_text [] [], (byte_fits [] domain h.program, (word_fits [] value h.words, tt)))
item_fits (item.Timer domain) h = (fits_text [] [], (byte_fits [] domain h.program, tt))
item_fits (item.Resume domain ctx answer) h =
    (fits_text [] [], (byte_fits [] domain h.program, (word_fits [] ctx h.words.0, (word_fits [] answer h.words.1, tt))))
item_fits (item.Stopped domain) h = (fits_text [] [], (byte_fits [] domain h.program, tt))
item_fits (item.Ended domain) h = (fits_text [] [], (byte_fits [] domain h.program, tt))

pub object_lines : AreObjectLines
object_lines p i number fields =
    reads_line (placed_members p i) (fits-append (place_members p) (item_members i) (place_fits p number) (item_fits i fields))
