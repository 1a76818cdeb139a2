-- One write after another.
use Rattle.std.proofs.Common.{◌≡◌, ◌∙◌, ℕ, ◌+◌, ◌-◌, ◌≤◌, ◌<◌, get_or, subst, List, ◌++◌, length, take, drop, ap, sym, arith}
use Rattle.std.specs.List.{flat_map}
use Rattle.std.proofs.lemmas.List.{flat_map_more, take_more, take_all, append_assoc, take_at, drop_at, drop-drop, length-append, length-take-le}
use Rattle.sealed_store.specs.Writing.{IsWrittenAt}

module _ {old : List ℕ} {at : ℕ} {bytes new : List ℕ} {end : ℕ} where
  pub front_is : IsWrittenAt old at bytes new end → end ≤ length old → take end new ≡ take at old ++ bytes
  front_is w low =
      let before = length-take-le at old (omega (arith, w.ends)) in
      rw (w.room, ← append_assoc (take at old) bytes (drop end old))
      (take_at (take at old ++ bytes) (drop end old) end (omega (arith, w.ends, before, length-append (take at old) bytes)))

  pub rest_is : IsWrittenAt old at bytes new end → end ≤ length old → drop end new ≡ drop end old
  rest_is w low =
      let before = length-take-le at old (omega (arith, w.ends)) in
      rw (w.room, ← append_assoc (take at old) bytes (drop end old))
      (drop_at (take at old ++ bytes) (drop end old) end (omega (arith, w.ends, before, length-append (take at old) bytes)))

  pub also : {more last : List ℕ} {stop : ℕ} → IsWrittenAt old at bytes new end → IsWrittenAt new end more last stop →
      stop ≤ length old → IsWrittenAt old at (bytes ++ more) last stop
  also {more} {last} {stop} w v low =
      let there : end ≤ length old = omega (arith, v.ends) in
      let n : ℕ = stop - end in
      let e : stop ≡ end + n = omega (arith, v.ends) in
      let after : drop stop new ≡ drop stop old =
      ap (λ (k : ℕ). drop k new) e
      ∙ (sym (drop-drop n end new)
      ∙ (ap (λ (l : List ℕ). drop n l) (rest_is w there)
      ∙ (drop-drop n end old ∙ ap (λ (k : ℕ). drop k old) (sym e)))) in
      record {
        ends = omega (arith, w.ends, v.ends, length-append bytes more);
        room = v.room
            ∙ (ap (λ (l : List ℕ). l ++ (more ++ drop stop new)) (front_is w there)
            ∙ (append_assoc (take at old) bytes (more ++ drop stop new)
            ∙ ap (λ (l : List ℕ). take at old ++ l)
            (sym (append_assoc bytes more (drop stop new)) ∙ ap (λ (l : List ℕ). (bytes ++ more) ++ l) after)));
      }

-- A row of things is written one after another.
module _ {A : Type 0} (f : A → List ℕ) (before : List ℕ) (xs : List A) (i : ℕ) where
  pub also_one : {old mid new : List ℕ} {at end stop : ℕ} (d : A) → i < length xs →
      IsWrittenAt old at (before ++ flat_map f (take i xs)) mid end → IsWrittenAt mid end (f (get_or xs i d)) new stop →
      stop ≤ length old → IsWrittenAt old at (before ++ flat_map f (take (i + 1) xs)) new stop
  also_one {old} {mid} {new} {at} {end} {stop} d there w v low =
      subst (λ (bytes : List ℕ). IsWrittenAt old at bytes new stop)
      (flat_map_more f before (take i xs) (get_or xs i d)
      ∙ ap (λ (l : List A). before ++ flat_map f l) (sym (take_more xs i d there)))
      (also w v low)

  pub all_written : {old new : List ℕ} {at end : ℕ} → length xs ≤ i →
      IsWrittenAt old at (before ++ flat_map f (take i xs)) new end → IsWrittenAt old at (before ++ flat_map f xs) new end
  all_written {old} {new} {at} {end} last w =
      subst (λ (l : List A). IsWrittenAt old at (before ++ flat_map f l) new end) (take_all i xs last) w
