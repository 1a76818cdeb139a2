-- A line that is put piece by piece.
use Rattle.std.proofs.Common.{◌≡◌, ℕ, List, ◌++◌, length, codes, ap, sym, subst, Result, Ok, Err, OnOk, OnErr, IsErrAnd}
use Rattle.cloak_base.specs.declared.causes.Failed.{Failed}
use Rattle.io_traits.specs.declared.sink.Sink.{Ghosts}
use Rattle.io_traits.specs.Told.{Grows, GrowsByFront, Counts}
use Rattle.io_traits.proofs.ToldFacts.{GrowsByFront-first, puts, puts-then}
use Rattle.cloak_model.specs.Bundle.{bundle_bytes}
use Rattle.guest_kernel.specs.Drawing.{hart_count, program_count, rounds_of}
use Rattle.guest_kernel.specs.Generated.{demo_program, generated}
use Rattle.guest_kernel.specs.Summary.{PutsText, named, image_line, summary_line}
use Rattle.cloak_model.proofs.Opening.{length-map_below}

pub text_put : {O : Type 0} (sink : Ghosts O) (a b : O) (text : List ℕ) (r : Result Unit Failed) →
    OnOk r (Grows (sink.taken a) (sink.taken b) text) → OnErr r (GrowsByFront (sink.taken a) (sink.taken b) text) →
    Counts (sink.faults a) (sink.faults b) r → PutsText sink a b text r
text_put sink a b text r grows front counts =
    record { puts = puts (sink.taken a) (sink.taken b) (sink.faults a) (sink.faults b) text r grows front counts }

-- a piece, and then another
pub then : {O : Type 0} {sink : Ghosts O} {a b c : O} {x y : List ℕ} {u : Unit} {r : Result Unit Failed} →
    PutsText sink a b x (Ok u) → PutsText sink b c y r → PutsText sink a c (x ++ y) r
then {O} {sink} {a} {b} {c} {x} {y} {u} {r} first second = record {
  puts = puts-then (sink.taken a) (sink.taken b) (sink.taken c) (sink.faults a) (sink.faults b) (sink.faults c) x y u r
      first.puts second.puts;
}

-- a piece that failed, and no other
pub front : {O : Type 0} {sink : Ghosts O} {a b : O} {x : List ℕ} {e : Failed} (y : List ℕ) →
    PutsText sink a b x (Err e) → PutsText sink a b (x ++ y) (Err e)
front {O} {sink} {a} {b} {x} {e} y failed =
    record { puts = (GrowsByFront-first (sink.taken a) (sink.taken b) x y failed.puts.0, failed.puts.1) }

-- the failure, handed on
pub handed : {O : Type 0} {sink : Ghosts O} {a b : O} {text : List ℕ} {e : Failed} (r : Result Unit Failed)
    (P : Failed → Type 0) → IsErrAnd r P → PutsText sink a b text (Err e) → PutsText sink a b text r
handed (Ok u) P is failed = absurd is
handed (Err f) P is failed = record { puts = failed.puts }

-- the same text under another name
pub text_is : {O : Type 0} {sink : Ghosts O} {a b : O} {x y : List ℕ} {r : Result Unit Failed} → PutsText sink a b x r →
    x ≡ y → PutsText sink a b y r
text_is {O} {sink} {a} {b} {x} {y} {r} put same = subst (λ (text : List ℕ). PutsText sink a b text r) same put

pub number_is : {O : Type 0} {sink : Ghosts O} {a b : O} {r : Result Unit Failed} (name : List ℕ) (k : ℕ) {l : ℕ} →
    PutsText sink a b (named name k) r → k ≡ l → PutsText sink a b (named name l) r
number_is {O} {sink} {a} {b} {r} name k {l} put same =
    subst (λ (number : ℕ). PutsText sink a b (named name number) r) same put

-- The line of an image, its fronts by its number.

abbrev pub to_harts : ℕ → List ℕ
to_harts n = named (codes "gen ") n ++ named (codes " harts ") (hart_count n)

abbrev pub to_programs : ℕ → List ℕ
to_programs n = to_harts n ++ named (codes " programs ") (program_count n)

abbrev pub to_frames : ℕ → List ℕ
to_frames n = to_programs n ++ named (codes " frames ") 256

abbrev pub to_bytes : ℕ → List ℕ
to_bytes n = to_frames n ++ named (codes " bytes ") (length (bundle_bytes 2 (generated n)))

pub line_is : (n : ℕ) → to_bytes n ++ codes "\n" ≡ summary_line n
unfolding image_line generated
line_is n =
    ap (λ (count : ℕ). to_harts n ++ named (codes " programs ") count ++ named (codes " frames ") 256
    ++ named (codes " bytes ") (length (bundle_bytes 2 (generated n))) ++ codes "\n")
    (sym (length-map_below (λ d. demo_program d (rounds_of n d)) (program_count n)))

-- a front of the line that failed

pub failed_bytes : {O : Type 0} {sink : Ghosts O} {a b : O} {e : Failed} (n : ℕ) →
    PutsText sink a b (to_bytes n) (Err e) → PutsText sink a b (summary_line n) (Err e)
failed_bytes n failed = text_is (front (codes "\n") failed) (line_is n)

pub failed_frames : {O : Type 0} {sink : Ghosts O} {a b : O} {e : Failed} (n : ℕ) →
    PutsText sink a b (to_frames n) (Err e) → PutsText sink a b (summary_line n) (Err e)
failed_frames n failed =
    failed_bytes n (front (named (codes " bytes ") (length (bundle_bytes 2 (generated n)))) failed)

pub failed_programs : {O : Type 0} {sink : Ghosts O} {a b : O} {e : Failed} (n : ℕ) →
    PutsText sink a b (to_programs n) (Err e) → PutsText sink a b (summary_line n) (Err e)
failed_programs n failed = failed_frames n (front (named (codes " frames ") 256) failed)

pub failed_harts : {O : Type 0} {sink : Ghosts O} {a b : O} {e : Failed} (n : ℕ) →
    PutsText sink a b (to_harts n) (Err e) → PutsText sink a b (summary_line n) (Err e)
failed_harts n failed = failed_programs n (front (named (codes " programs ") (program_count n)) failed)

pub failed_number : {O : Type 0} {sink : Ghosts O} {a b : O} {e : Failed} (n : ℕ) →
    PutsText sink a b (named (codes "gen ") n) (Err e) → PutsText sink a b (summary_line n) (Err e)
failed_number n failed = failed_harts n (front (named (codes " harts ") (hart_count n)) failed)
