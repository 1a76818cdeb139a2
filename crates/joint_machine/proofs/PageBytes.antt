-- The page of a program has 4096 bytes, over plain variables.
use Rattle.std.proofs.Common.{◌≡◌, ◌∙◌, ◌<◌, ◌≤◌, ◌+◌, ◌-◌, ◌*◌, ℕ, zero, suc, List, [], ◌∷◌, ◌++◌, length, drop, replicate, slice_index_or, Option, Some, None, All, arith}
use Rattle.std.specs.Prelude.{IfSome, unwrap_or}
use Rattle.std.specs.List.{flat_map}
use Rattle.std.proofs.lemmas.List.{length-append, length-drop, length-replicate}
use Rattle.aes_block.specs.Bytes.{IsBytes}
use Rattle.cloak_base.specs.declared.names.HartId.{HartId}
use Rattle.cloak_model.specs.Bits.{word}
use Rattle.cloak_model.specs.Contexts.{Context, context_at}
use Rattle.cloak_model.specs.DomainState.{Control, hart_byte, owner_bytes, phase_bytes, region_bytes, resource_bytes, slot_bytes, space_bytes, state_bytes}
use Rattle.cloak_model.specs.Resources.{Resources}
use Rattle.cloak_model.specs.declared.context.Phase.{Phase}
use Rattle.cloak_model.specs.declared.context.Phase.TheVariants.{Plain, CopyIn, Waiting, CopyOut}
use Rattle.cloak_model.specs.declared.context.PageWord.{PageWord}
use Rattle.cloak_model.specs.declared.resource.Owner.{Owner}
use Rattle.cloak_model.specs.declared.resource.Owner.TheVariants.{Space, File}
use Rattle.cloak_model.specs.declared.resource.Region.{Region}
use Rattle.cloak_model.specs.declared.resource.Resource.{Resource}
use Rattle.frozen_state.specs.DomainPage.{IsProgram, domain_page, mark_bytes, slot_mark_bytes, state_string}
use Rattle.frozen_state.specs.Limits.{IsContext}

-- n bytes at most
pub record Short (n : ℕ) (s : List ℕ) : Type 0 where
  pub few : length s ≤ n
  pub bytes : All (λ b. b < 256) s

none : Short 0 []
none = record { few = omega arith; bytes = λ i d low. absurd (omega (arith, low)) }

one_more : (n b : ℕ) (s : List ℕ) → b < 256 → Short n s → Short (n + 1) (b ∷ s)
one_more n b s low short = record {
  few = (let few = short.few in omega (arith, few));
  bytes = byte b s low short.bytes;
}
  where
    byte : (b : ℕ) (s : List ℕ) → b < 256 → All (λ b. b < 256) s → All (λ b. b < 256) (b ∷ s)
    byte b s low all zero d inside = low
    byte b s low all (suc i) d inside = all i d (omega (arith, inside))

joined : (n k : ℕ) (s t : List ℕ) → Short n s → Short k t → Short (n + k) (s ++ t)
joined n k s t first second = record {
  few = (let a = length-append s t in let b = first.few in let c = second.few in omega (arith, a, b, c));
  bytes = both s t first.bytes second.bytes;
}
  where
    both : (s t : List ℕ) → All (λ b. b < 256) s → All (λ b. b < 256) t → All (λ b. b < 256) (s ++ t)
    both [] t first second i d low = second i d low
    both (b ∷ s) t first second zero d low = first 0 d (omega arith)
    both (b ∷ s) t first second (suc i) d low =
        both s t (λ k e less. first (suc k) e (omega (arith, less))) second i d (omega (arith, low))

wider : (n k : ℕ) (s : List ℕ) → n ≤ k → Short n s → Short k s
wider n k s le short = record { few = (let few = short.few in omega (arith, le, few)); bytes = short.bytes }

-- the bytes of a list whose elements have at most n bytes each
flat : {A : Type 0} (f : A → List ℕ) (n : ℕ) (xs : List A) → ((i : ℕ) (d : A) → i < length xs → Short n (f (slice_index_or xs i d))) →
    Short (length xs * n) (flat_map f xs)
flat f n [] each = wider 0 (0 * n) [] (omega arith) none
flat f n (x ∷ xs) each =
    wider (n + length xs * n) (suc (length xs) * n) (f x ++ flat_map f xs) (omega arith)
    (joined n (length xs * n) (f x) (flat_map f xs) (each 0 x (omega arith))
    (flat f n xs (λ i d low. each (suc i) d (omega (arith, low)))))

word_short : (w : ℕ) → Short 4 (word w)
word_short w =
    one_more 3 _ _ (omega arith) (one_more 2 _ _ (omega arith) (one_more 1 _ _ (omega arith) (one_more 0 _ _ (omega arith) none)))

two_words : (n v w : ℕ) → n < 256 → Short 9 (n ∷ (word v ++ word w))
two_words n v w low = one_more 8 n (word v ++ word w) low (joined 4 4 (word v) (word w) (word_short v) (word_short w))

phase_short : (p : Phase) → Short 9 (phase_bytes p)
phase_short Plain = two_words 0 0 0 (omega arith)
phase_short (CopyIn done) = two_words 1 done 0 (omega arith)
phase_short Waiting = two_words 2 0 0 (omega arith)
phase_short (CopyOut done total) = two_words 3 done total (omega arith)

hart_low : (on : Option HartId) → IfSome on (λ hart. hart.0 < 4) → hart_byte on < 256
hart_low None fits = omega arith
hart_low (Some hart) fits = omega (arith, fits)

slot_short : (r : Resources) (slot : Option Context) → IfSome slot (IsContext r) → Short 143 (slot_bytes slot)
slot_short r None fits = wider 1 143 (0 ∷ []) (omega arith) (one_more 0 0 [] (omega arith) none)
slot_short r (Some c) fits =
    let regs : Short (length (drop 1 c.regs) * 4) (flat_map word (drop 1 c.regs)) =
    flat word 4 (drop 1 c.regs) (λ i d low. word_short (slice_index_or (drop 1 c.regs) i d)) in
    let count : length (drop 1 c.regs) ≡ 31 =
    (let a = length-drop 1 c.regs in let b = fits.steady.registers in omega (arith, a, b)) in
    let last = wider (length (drop 1 c.regs) * 4) 124 (flat_map word (drop 1 c.regs)) (omega (arith, count)) regs in
    one_more 142 1 _ (omega arith) (one_more 141 (hart_byte c.on) _ (hart_low c.on fits.hart)
    (joined 9 132 (phase_bytes c.phase) _ (phase_short c.phase)
    (joined 4 128 (word c.space) _ (word_short c.space)
    (joined 4 124 (word c.pc) _ (word_short c.pc) last))))

mark_short : (mark : Option PageWord) → Short 13 (mark_bytes mark)
mark_short None = wider 1 13 (0 ∷ []) (omega arith) (one_more 0 0 [] (omega arith) none)
mark_short (Some place) =
    one_more 12 1 _ (omega arith) (joined 4 8 (word place.resource) _ (word_short place.resource)
    (joined 4 4 (word place.page) (word place.at) (word_short place.page) (word_short place.at)))

slot_mark_short : (slot : Option Context) → Short 13 (slot_mark_bytes slot)
slot_mark_short None = mark_short None
slot_mark_short (Some c) = mark_short c.mark

region_short : (g : Region) → Short 16 (region_bytes g)
region_short g =
    joined 4 12 (word g.start) _ (word_short g.start) (joined 4 8 (word g.pages) _ (word_short g.pages)
    (joined 4 4 (word g.resource) (word g.first) (word_short g.resource) (word_short g.first)))

space_short : (space : Option (List Region)) → length (unwrap_or space []) ≤ 16 → Short 261 (space_bytes space)
space_short None few = wider 1 261 (0 ∷ []) (omega arith) (one_more 0 0 [] (omega arith) none)
space_short (Some regions) few =
    let all : Short (length regions * 16) (flat_map region_bytes regions) =
    flat region_bytes 16 regions (λ i d low. region_short (slice_index_or regions i d)) in
    one_more 260 1 _ (omega arith) (joined 4 256 (word (length regions)) _ (word_short (length regions))
    (wider (length regions * 16) 256 (flat_map region_bytes regions) (omega (arith, few)) all))

owner_short : (owner : Owner) → Short 5 (owner_bytes owner)
owner_short (Space number) = one_more 4 1 (word number) (omega arith) (word_short number)
owner_short (File number) = one_more 4 2 (word number) (omega arith) (word_short number)

resource_short : (held : Option Resource) → Short 9 (resource_bytes held)
resource_short None = wider 1 9 (0 ∷ []) (omega arith) (one_more 0 0 [] (omega arith) none)
resource_short (Some held) = joined 5 4 (owner_bytes held.owner) (word held.pages) (owner_short held.owner) (word_short held.pages)

at_default : {A : Type 0} (P : Option A → Type 0) (xs : List (Option A)) (i : ℕ) (d : Option A) → i < length xs →
    P (slice_index_or xs i None) → P (slice_index_or xs i d)
at_default P [] i d low holds = absurd (omega (arith, low))
at_default P (x ∷ xs) zero d low holds = holds
at_default P (x ∷ xs) (suc i) d low holds = at_default P xs i d (omega (arith, low)) holds

string_short : (number : ℕ) (d : Control) → IsProgram number d → Short 3480 (state_string d)
string_short number d is =
    let slots = is.limits.slots in
    let spaces = is.limits.resources.places in
    let numbers = is.limits.resources.numbers in
    let a = flat slot_bytes 143 d.contexts (λ i e low. at_default (λ o. Short 143 (slot_bytes o)) d.contexts i e low (slot_short d.resources (context_at d.contexts i) (is.limits.contexts i))) in
    let b = flat space_bytes 261 d.resources.spaces (λ i e low. at_default (λ o. Short 261 (space_bytes o)) d.resources.spaces i e low (space_short (slice_index_or d.resources.spaces i None) (is.limits.regions i).few)) in
    let c = flat resource_bytes 9 d.resources.held (λ i e low. resource_short (slice_index_or d.resources.held i e)) in
    let m = flat slot_mark_bytes 13 d.contexts (λ i e low. slot_mark_short (slice_index_or d.contexts i e)) in
    joined 3376 104 (state_bytes d) (flat_map slot_mark_bytes d.contexts)
    (joined 1144 2232 (flat_map slot_bytes d.contexts) _
    (wider (length d.contexts * 143) 1144 (flat_map slot_bytes d.contexts) (omega (arith, slots)) a)
    (joined 2088 144 (flat_map space_bytes d.resources.spaces) (flat_map resource_bytes d.resources.held)
    (wider (length d.resources.spaces * 261) 2088 (flat_map space_bytes d.resources.spaces) (omega (arith, spaces)) b)
    (wider (length d.resources.held * 9) 144 (flat_map resource_bytes d.resources.held) (omega (arith, numbers)) c)))
    (wider (length d.contexts * 13) 104 (flat_map slot_mark_bytes d.contexts) (omega (arith, slots)) m)

zeros_short : (n : ℕ) → Short n (replicate n 0)
zeros_short zero = none
zeros_short (suc n) = wider (n + 1) (suc n) (0 ∷ replicate n 0) (omega arith) (one_more n 0 (replicate n 0) (omega arith) (zeros_short n))

pub page_is_bytes : (number : ℕ) (d : Control) → IsProgram number d → IsBytes 4096 (domain_page d)
unfolding domain_page
page_is_bytes number d is =
    let s = string_short number d is in
    let few = s.few in
    let all = joined 3480 (4096 - length (state_string d)) (state_string d) (replicate (4096 - length (state_string d)) 0) s
    (zeros_short (4096 - length (state_string d))) in
    record {
      long =
          length-append (state_string d) (replicate (4096 - length (state_string d)) 0)
          ∙ (let count = length-replicate {A = ℕ} (4096 - length (state_string d)) 0 in omega (arith, count, few));
      bytes = all.bytes;
    }
