-- An address of a program's store leads to one in RAM that is as far from a multiple of 4; and what a Put says is what
-- is stored.
use Rattle.std.proofs.Common.{◌≡◌, ◌∙◌, inl, inr, ℕ, ◌+◌, ◌*◌, ◌/◌, ◌%◌, ◌^◌, Bool, true, false, cond, List, [], ◌∷◌, ◌++◌, take, drop, Ok, Err, refl, sym, ap, subst, arith, slice_set, slice_index_or}
use Rattle.std.specs.Prelude.{◌==◌}
use Rattle.std.specs.Int.{w32, to_le_bytes}
use Rattle.std.proofs.lemmas.Bool.{eq-eqb}
use Rattle.std.proofs.Math.Pow.{mod-mod-pow}
use Rattle.cloak_base.specs.declared.names.Kind.{Kind}
use Rattle.cloak_model.proofs.InPage.{KeepsPlace, keeps_asked_walk}
use Rattle.cloak_model.specs.declared.access.Access.{Access}
use Rattle.cloak_model.specs.declared.access.Walked.{Walked}
use Rattle.cloak_model.specs.Ask.{ask_walk, ask_in_ram, ask_translate, ask_led}
use Rattle.cloak_model.specs.AskPages.{ask_led_inside}
use Rattle.cloak_model.specs.Asking.{Told}
use Rattle.cloak_model.specs.Effect.{IsWidth}
use Rattle.cloak_base.specs.Constants.{frame_of, place_of}
use Rattle.cloak_model.specs.Memory.{is_in_ram, with_value_at}
use Rattle.cloak_model.specs.Walk.{Walk}
use Rattle.cloak_model.specs.World.{World, ram_of}

-- It is in RAM.

pub record LeadsInside (va : ℕ) (told : Told Walk) : Type 0 where
  pub inside : (walked : Walked) → told.answer ≡ Ok walked →
      (is_in_ram (ram_of told.world) walked.pa ≡ true) × (walked.pa % 4 ≡ va % 4)

inside_if : (va cause : ℕ) (at walked : Walked) (ram : List (List ℕ)) (b : Bool) → is_in_ram ram at.pa ≡ b →
    at.pa % 4 ≡ va % 4 → cond b (Ok at) (Err cause) ≡ Ok walked →
    (is_in_ram ram walked.pa ≡ true) × (walked.pa % 4 ≡ va % 4)
inside_if va cause at walked ram true is keeps found =
    let same : at ≡ walked = cc in
    (subst (λ (x : Walked). is_in_ram ram x.pa ≡ true) same is, subst (λ (x : Walked). x.pa % 4 ≡ va % 4) same keeps)
inside_if va cause at walked ram false is keeps found = absurd cc

leads_by : (a : Access) (walk : Walk) (w : World) → KeepsPlace a.va walk → LeadsInside a.va (ask_in_ram a walk w)
unfolding ask_in_ram
leads_by a (Err cause) w keeps = record { inside = λ walked found. absurd cc }
leads_by a (Ok at) w keeps = record {
  inside = λ walked found. inside_if a.va _ at walked (ram_of w) (is_in_ram (ram_of w) at.pa) refl
      (let kept = keeps.kept at refl in omega (arith, kept)) found;
}

leads_translate : (satp : ℕ) (a : Access) (w : World) → LeadsInside a.va (ask_translate satp a w)
unfolding ask_translate
leads_translate satp a w = leads_by a (ask_walk satp a w).answer (ask_walk satp a w).world (keeps_asked_walk satp a w)

leads_led : (satp : ℕ) (a : Access) (w : World) → LeadsInside a.va (ask_led satp a w)
unfolding ask_led
leads_led satp a w = leads_translate satp a _

pub leads_inside : (va : ℕ) (kind : Kind) (w : World) → LeadsInside va (ask_led_inside va kind w)
unfolding ask_led_inside
leads_inside va kind w = leads_led _ _ w

-- an address that keeps its place is as aligned
pub is_aligned : (va pa width : ℕ) → pa % 4 ≡ va % 4 → va % width ≡ 0 → IsWidth width → (pa % width == 0) ≡ true
is_aligned va pa width keeps at (inl one) =
    eq-eqb (pa % width) 0 (subst (λ (n : ℕ). pa % n ≡ 0) (sym one) (omega arith))
is_aligned va pa width keeps at (inr (inl two)) =
    let at' = subst (λ (n : ℕ). va % n ≡ 0) two at in
    eq-eqb (pa % width) 0 (subst (λ (n : ℕ). pa % n ≡ 0) (sym two) (omega (arith, keeps, at')))
is_aligned va pa width keeps at (inr (inr four)) =
    let at' = subst (λ (n : ℕ). va % n ≡ 0) four at in
    eq-eqb (pa % width) 0 (subst (λ (n : ℕ). pa % n ≡ 0) (sym four) (omega (arith, keeps, at')))

-- The bytes of a width are those of the value's rest.

low_cell_1 : (v : ℕ) → v % 256 ≡ v % 256 % 256
low_cell_1 v = omega arith

low_bytes : (width v : ℕ) → IsWidth width →
    take width (to_le_bytes w32 v) ≡ take width (to_le_bytes w32 (v % 2 ^ (8 * width)))
low_bytes width v (inl one) =
    subst (λ (n : ℕ). take n (to_le_bytes w32 v) ≡ take n (to_le_bytes w32 (v % 2 ^ (8 * n)))) (sym one)
    (ap (λ (b : ℕ). b ∷ []) (low_cell_1 v))
low_bytes width v (inr (inl two)) =
    subst (λ (n : ℕ). take n (to_le_bytes w32 v) ≡ take n (to_le_bytes w32 (v % 2 ^ (8 * n)))) (sym two)
    (let low : v % 256 ≡ v % 65536 % 256 = sym (mod-mod-pow v 8 8) in
    let high : v / 256 % 256 ≡ v % 65536 / 256 % 256 = omega arith in
    ap (λ (b : ℕ). b ∷ (v / 256 % 256 ∷ [])) low ∙ ap (λ (b : ℕ). v % 65536 % 256 ∷ (b ∷ [])) high)
low_bytes width v (inr (inr four)) =
    subst (λ (n : ℕ). take n (to_le_bytes w32 v) ≡ take n (to_le_bytes w32 (v % 2 ^ (8 * n)))) (sym four)
    (let a : v % 256 ≡ v % 4294967296 % 256 = omega arith in
    let b : v / 256 % 256 ≡ v % 4294967296 / 256 % 256 = omega arith in
    let c : v / 65536 % 256 ≡ v % 4294967296 / 65536 % 256 = omega arith in
    let d : v / 16777216 % 256 ≡ v % 4294967296 / 16777216 % 256 = omega arith in
    let r : ℕ = v % 4294967296 in
    ap (λ (x : ℕ). x ∷ (v / 256 % 256 ∷ (v / 65536 % 256 ∷ (v / 16777216 % 256 ∷ [])))) a
    ∙ (ap (λ (x : ℕ). r % 256 ∷ (x ∷ (v / 65536 % 256 ∷ (v / 16777216 % 256 ∷ [])))) b
    ∙ (ap (λ (x : ℕ). r % 256 ∷ (r / 256 % 256 ∷ (x ∷ (v / 16777216 % 256 ∷ [])))) c
    ∙ ap (λ (x : ℕ). r % 256 ∷ (r / 256 % 256 ∷ (r / 65536 % 256 ∷ (x ∷ [])))) d)))

pub low_bytes_stored : (pa width value : ℕ) (ram : List (List ℕ)) → IsWidth width →
    with_value_at pa width value ram ≡ with_value_at pa width (value % 2 ^ (8 * width)) ram
low_bytes_stored pa width value ram is =
    let page : List ℕ = slice_index_or ram (frame_of pa) [] in
    ap (λ (bytes : List ℕ). slice_set ram (frame_of pa)
    (take (place_of pa) page ++ (bytes ++ drop (place_of pa + width) page)))
    (low_bytes width value is)
