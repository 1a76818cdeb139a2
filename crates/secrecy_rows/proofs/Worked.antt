-- The rows.
use Rattle.std.proofs.Common.{◌≡◌, ◌∙◌, ℕ, zero, suc, ◌<◌, ◌≤◌, Bool, true, false, List, [], ◌∷◌, length, Option, Some, None, refl, sym, ap, subst, arith}
use Rattle.std.specs.Prelude.{Result, Ok, Err, nat_eq}
use Rattle.std.specs.Result.{result_map_both}
use Rattle.std.proofs.lemmas.Bool.{false≢true}
use Rattle.cloak_base.specs.declared.names.PageId.{PageId}
use Rattle.cloak_base.specs.declared.names.Kind.{Kind}
use Rattle.cloak_base.specs.declared.causes.Stop.{Stop}
use Rattle.cloak_model.specs.declared.image.Bundle.{Bundle}
use Rattle.cloak_model.specs.Items.{Item}
use Rattle.cloak_model.specs.declared.answer.Answer.{Answer}
use Rattle.cloak_model.specs.declared.answer.Answer.TheVariants as answer
use Rattle.cloak_model.specs.Script.{Question, Reach, Get, Put, Clear}
use Rattle.cloak_model.specs.Shape.{Shape, Ends, Inquires, Duplicates, Discards}
use Rattle.cloak_model.specs.Opening.{RunEdge, Lack}
use Rattle.cloak_model.specs.Beginning.{Fresh}
use Rattle.cloak_model.specs.Joint.{Moment, Turn, joint_step, after_turn, stop_of}
use Rattle.cloak_model.specs.Run.{Run, turns_from, unless_stopped, first_moment}
use Rattle.cloak_model.specs.Halves.{outward_half}
use Rattle.cloak_model.specs.BlindRuns.{PublicEnd, shape_of_step, moment_on, HaveOneShape}
use Rattle.cloak_model.specs.SealedRuns.{opening_under, run_under, PublicRun, public_of, RunsHaveOneShape, PaddedRunsAreOne}
use Rattle.secrecy_rows.specs.Rows.{pads, image_of, adding, asking, stream, blind_seal, begun, edge_moment, shape_after, held_after, outward_of, SecretIsThere, SecretIsKept, SecretIsTold, PremiseIsNeeded}
use Rattle.secrecy_rows.proofs.Computing.{sealed_runs}

pub secret_is_there : SecretIsThere
unfolding sealed_runs
secret_is_there = (refl, refl)

-- Shapes that are one, answer by answer.

abbrev OneShape : {B : Type 0} → Shape B → Shape B → Type 0
OneShape (Ends b) (Ends b') = b ≡ b'
OneShape (Inquires q f) (Inquires q' f') = (q ≡ q') × ((a : Answer) → OneShape (f a) (f' a))
OneShape (Duplicates d from to s) (Duplicates d' from' to' s') = (d ≡ d') × (from ≡ from') × (to ≡ to') × OneShape s s'
OneShape (Discards d r s) (Discards d' r' s') = (d ≡ d') × (r ≡ r') × OneShape s s'
OneShape _ _ = ⊥

one_shape : {B : Type 0} (s s' : Shape B) → OneShape s s' → s ≡ s'
one_shape (Ends b) (Ends b') e = λ i. Ends (e i)
one_shape (Inquires q f) (Inquires q' f') e = λ i. Inquires (e.0 i) (λ a. one_shape (f a) (f' a) (e.1 a) i)
one_shape (Duplicates d from to s) (Duplicates d' from' to' s') e =
    λ i. Duplicates (e.0 i) (e.1 i) (e.2 i) (one_shape s s' e.3 i)
one_shape (Discards d r s) (Discards d' r' s') e = λ i. Discards (e.0 i) (e.1 i) (one_shape s s' e.2 i)
one_shape (Ends b) (Inquires q' f') e = absurd e
one_shape (Ends b) (Duplicates d' from' to' s') e = absurd e
one_shape (Ends b) (Discards d' r' s') e = absurd e
one_shape (Inquires q f) (Ends b') e = absurd e
one_shape (Inquires q f) (Duplicates d' from' to' s') e = absurd e
one_shape (Inquires q f) (Discards d' r' s') e = absurd e
one_shape (Duplicates d from to s) (Ends b') e = absurd e
one_shape (Duplicates d from to s) (Inquires q' f') e = absurd e
one_shape (Duplicates d from to s) (Discards d' r' s') e = absurd e
one_shape (Discards d r s) (Ends b') e = absurd e
one_shape (Discards d r s) (Inquires q' f') e = absurd e
one_shape (Discards d r s) (Duplicates d' from' to' s') e = absurd e

abbrev BothShapes : {B : Type 0} → Option (Shape B) → Option (Shape B) → Type 0
BothShapes None None = Unit
BothShapes (Some s) (Some s') = OneShape s s'
BothShapes None (Some s') = ⊥
BothShapes (Some s) None = ⊥

both_shapes : {B : Type 0} (o o' : Option (Shape B)) → BothShapes o o' → o ≡ o'
both_shapes None None e = refl
both_shapes (Some s) (Some s') e = λ i. Some (one_shape s s' e i)
both_shapes None (Some s') e = absurd e
both_shapes (Some s) None e = absurd e

-- what follows an answer
abbrev then_of : Answer → Option (Shape PublicEnd) → Option (Shape PublicEnd)
then_of a None = None
then_of a (Some (Ends b)) = None
then_of a (Some (Inquires q more)) = Some (more a)
then_of a (Some (Duplicates b c d s)) = None
then_of a (Some (Discards b c s)) = None

-- The steps of the first program: by what it is answered to its fetch, and then to its access.

-- the load
loaded_5 : (s s' : ℕ) (a : Answer) →
    BothShapes (then_of a (then_of answer.Ok (shape_after 5 (begun adding s)))) (then_of a (then_of answer.Ok (shape_after 5 (begun adding s'))))
unfolding sealed_runs
loaded_5 s s' answer.Ok = refl
loaded_5 s s' (answer.Absent cause) = refl
loaded_5 s s' (answer.Word value) = refl
loaded_5 s s' answer.Stopped = refl

fetched_5 : (s s' : ℕ) (a : Answer) → BothShapes (then_of a (shape_after 5 (begun adding s))) (then_of a (shape_after 5 (begun adding s')))
unfolding sealed_runs
fetched_5 s s' answer.Ok = (refl, loaded_5 s s')
fetched_5 s s' (answer.Absent cause) = refl
fetched_5 s s' (answer.Word value) = refl
fetched_5 s s' answer.Stopped = refl

both_5 : (s s' : ℕ) → BothShapes (shape_after 5 (begun adding s)) (shape_after 5 (begun adding s'))
unfolding sealed_runs
both_5 s s' = (refl, fetched_5 s s')

-- the addition
fetched_6 : (s s' : ℕ) (a : Answer) → BothShapes (then_of a (shape_after 6 (begun adding s))) (then_of a (shape_after 6 (begun adding s')))
unfolding sealed_runs
fetched_6 s s' answer.Ok = refl
fetched_6 s s' (answer.Absent cause) = refl
fetched_6 s s' (answer.Word value) = refl
fetched_6 s s' answer.Stopped = refl

both_6 : (s s' : ℕ) → BothShapes (shape_after 6 (begun adding s)) (shape_after 6 (begun adding s'))
unfolding sealed_runs
both_6 s s' = (refl, fetched_6 s s')

-- the store
stored_7 : (s s' : ℕ) (a : Answer) →
    BothShapes (then_of a (then_of answer.Ok (shape_after 7 (begun adding s)))) (then_of a (then_of answer.Ok (shape_after 7 (begun adding s'))))
unfolding sealed_runs
stored_7 s s' answer.Ok = refl
stored_7 s s' (answer.Absent cause) = refl
stored_7 s s' (answer.Word value) = refl
stored_7 s s' answer.Stopped = refl

fetched_7 : (s s' : ℕ) (a : Answer) → BothShapes (then_of a (shape_after 7 (begun adding s))) (then_of a (shape_after 7 (begun adding s')))
unfolding sealed_runs
fetched_7 s s' answer.Ok = (refl, stored_7 s s')
fetched_7 s s' (answer.Absent cause) = refl
fetched_7 s s' (answer.Word value) = refl
fetched_7 s s' answer.Stopped = refl

both_7 : (s s' : ℕ) → BothShapes (shape_after 7 (begun adding s)) (shape_after 7 (begun adding s'))
unfolding sealed_runs
both_7 s s' = (refl, fetched_7 s s')

-- the number of the call, in two instructions
fetched_8 : (s s' : ℕ) (a : Answer) → BothShapes (then_of a (shape_after 8 (begun adding s))) (then_of a (shape_after 8 (begun adding s')))
unfolding sealed_runs
fetched_8 s s' answer.Ok = refl
fetched_8 s s' (answer.Absent cause) = refl
fetched_8 s s' (answer.Word value) = refl
fetched_8 s s' answer.Stopped = refl

both_8 : (s s' : ℕ) → BothShapes (shape_after 8 (begun adding s)) (shape_after 8 (begun adding s'))
unfolding sealed_runs
both_8 s s' = (refl, fetched_8 s s')

-- the number of the call, in two instructions
fetched_9 : (s s' : ℕ) (a : Answer) → BothShapes (then_of a (shape_after 9 (begun adding s))) (then_of a (shape_after 9 (begun adding s')))
unfolding sealed_runs
fetched_9 s s' answer.Ok = refl
fetched_9 s s' (answer.Absent cause) = refl
fetched_9 s s' (answer.Word value) = refl
fetched_9 s s' answer.Stopped = refl

both_9 : (s s' : ℕ) → BothShapes (shape_after 9 (begun adding s)) (shape_after 9 (begun adding s'))
unfolding sealed_runs
both_9 s s' = (refl, fetched_9 s s')

-- the end
cleared_10 : (s s' : ℕ) (a : Answer) →
    BothShapes (then_of a (then_of answer.Ok (shape_after 10 (begun adding s)))) (then_of a (then_of answer.Ok (shape_after 10 (begun adding s'))))
unfolding sealed_runs
cleared_10 s s' answer.Ok = (refl, refl, refl)
cleared_10 s s' (answer.Absent cause) = refl
cleared_10 s s' (answer.Word value) = refl
cleared_10 s s' answer.Stopped = refl

fetched_10 : (s s' : ℕ) (a : Answer) → BothShapes (then_of a (shape_after 10 (begun adding s))) (then_of a (shape_after 10 (begun adding s')))
unfolding sealed_runs
fetched_10 s s' answer.Ok = (refl, cleared_10 s s')
fetched_10 s s' (answer.Absent cause) = refl
fetched_10 s s' (answer.Word value) = refl
fetched_10 s s' answer.Stopped = refl

both_10 : (s s' : ℕ) → BothShapes (shape_after 10 (begun adding s)) (shape_after 10 (begun adding s'))
unfolding sealed_runs
both_10 s s' = (refl, fetched_10 s s')

-- the kernel's steps, before and after
abbrev IsNone : ℕ → ℕ → Type 0
IsNone k s = shape_after k (begun adding s) ≡ None

none_first : (s : ℕ) → IsNone 0 s × IsNone 1 s × IsNone 2 s × IsNone 3 s × IsNone 4 s
unfolding sealed_runs
none_first s = (refl, refl, refl, refl, refl)

none_last : (s : ℕ) → IsNone 11 s × IsNone 12 s
unfolding sealed_runs
none_last s = (refl, refl)

-- all of them
all_shapes : (s s' k : ℕ) → k < 13 → shape_after k (begun adding s) ≡ shape_after k (begun adding s')
all_shapes s s' zero few = (none_first s).0 ∙ sym (none_first s').0
all_shapes s s' (suc zero) few = (none_first s).1 ∙ sym (none_first s').1
all_shapes s s' (suc (suc zero)) few = (none_first s).2 ∙ sym (none_first s').2
all_shapes s s' (suc (suc (suc zero))) few = (none_first s).3 ∙ sym (none_first s').3
all_shapes s s' (suc (suc (suc (suc zero)))) few = (none_first s).4 ∙ sym (none_first s').4
all_shapes s s' (suc (suc (suc (suc (suc zero))))) few = both_shapes _ _ (both_5 s s')
all_shapes s s' (suc (suc (suc (suc (suc (suc zero)))))) few = both_shapes _ _ (both_6 s s')
all_shapes s s' (suc (suc (suc (suc (suc (suc (suc zero))))))) few = both_shapes _ _ (both_7 s s')
all_shapes s s' (suc (suc (suc (suc (suc (suc (suc (suc zero)))))))) few = both_shapes _ _ (both_8 s s')
all_shapes s s' (suc (suc (suc (suc (suc (suc (suc (suc (suc zero))))))))) few = both_shapes _ _ (both_9 s s')
all_shapes s s' (suc (suc (suc (suc (suc (suc (suc (suc (suc (suc zero)))))))))) few = both_shapes _ _ (both_10 s s')
all_shapes s s' (suc (suc (suc (suc (suc (suc (suc (suc (suc (suc (suc zero))))))))))) few = (none_last s).0 ∙ sym (none_last s').0
all_shapes s s' (suc (suc (suc (suc (suc (suc (suc (suc (suc (suc (suc (suc zero)))))))))))) few = (none_last s).1 ∙ sym (none_last s').1
all_shapes s s' (suc (suc (suc (suc (suc (suc (suc (suc (suc (suc (suc (suc (suc k))))))))))))) few = absurd (omega arith)

-- no more turns than the budget
unless_few : (s : Option Stop) (n : ℕ) (m : Moment) → length (turns_from n m) ≤ n → length (unless_stopped s (turns_from n) m) ≤ n
unless_few (Some cause) n m few = omega arith
unless_few None n m few = few

few_turns : (n : ℕ) (m : Moment) → length (turns_from n m) ≤ n
unfolding turns_from
few_turns zero m = omega arith
few_turns (suc n) m =
    let t : Turn = joint_step m in
    let rest : length (unless_stopped (stop_of t) (turns_from n) (after_turn m t)) ≤ n = unless_few (stop_of t) n (after_turn m t) (few_turns n (after_turn m t)) in
    omega arith

begins : (s : ℕ) (o : RunEdge) → opening_under blind_seal (image_of adding s) (Fresh stream) ≡ Ok o →
    begun adding s ≡ Some (first_moment (image_of adding s) o.joint)
begins s o e = ap (λ (r : Result RunEdge Lack). edge_moment (image_of adding s) r) e

one_shape_each : (s s' : ℕ) → RunsHaveOneShape blind_seal 13 (image_of adding s) (image_of adding s') (Fresh stream) (Fresh stream)
one_shape_each s s' o o' e e' k few =
    let m : Moment = first_moment (image_of adding s) o.joint in
    let m' : Moment = first_moment (image_of adding s') o'.joint in
    let at_most : length (turns_from 13 m) ≤ 13 = few_turns 13 m in
    sym (ap (shape_after k) (begins s o e)) ∙ (all_shapes s s' k (omega arith) ∙ ap (shape_after k) (begins s' o' e'))

-- The first program, by the law.
pub secret_is_kept : PaddedRunsAreOne → SecretIsKept
secret_is_kept law s s' =
    law pads (image_of adding s) (image_of adding s') (Fresh stream) (Fresh stream) 13
    (record { kernel = refl; programs = refl }) refl (one_shape_each s s')

-- The second.

abbrev count_in : Result (List Item) Lack → ℕ
count_in (Ok items) = length items
count_in (Err lack) = 0

counts : (count_in (outward_of (run_under blind_seal (image_of asking 0) (Fresh stream) 10)) ≡ 13) × (count_in (outward_of (run_under blind_seal (image_of asking 1) (Fresh stream) 10)) ≡ 14)
unfolding sealed_runs
counts = (refl, refl)

abbrev address_in : Option (Shape PublicEnd) → ℕ
address_in None = 0
address_in (Some (Ends b)) = 0
address_in (Some (Inquires (Reach q va kind) more)) = va
address_in (Some (Inquires (Get va width) more)) = 0
address_in (Some (Inquires (Put va width value) more)) = 0
address_in (Some (Inquires (Clear domain marked) more)) = 0
address_in (Some (Duplicates d from to s)) = 0
address_in (Some (Discards d r s)) = 0

abbrev is_at : ℕ → Option (Shape PublicEnd) → Bool
is_at va o = nat_eq (address_in o) va

addresses : (is_at 0x80008014 (shape_after 9 (begun asking 0)) ≡ true) × (is_at 0x80008014 (shape_after 9 (begun asking 1)) ≡ false)
unfolding sealed_runs
addresses = (refl, refl)

pub secret_is_told : SecretIsTold
secret_is_told = record {
  halves = λ e. absurd (let no : 13 ≡ 14 = sym counts.0 ∙ (ap count_in e ∙ counts.1) in cc);
  shapes = λ e. absurd (false≢true (sym addresses.1 ∙ (sym (ap (is_at 0x80008014) e) ∙ addresses.0)));
}

by_public : (r : Result Run Lack) → outward_of r ≡ result_map_both (λ (p : PublicRun). outward_half p.items) (λ lack. lack) (public_of r)
by_public (Ok r) = refl
by_public (Err lack) = refl

pub premise_is_needed : PremiseIsNeeded
premise_is_needed law =
    let r : Result Run Lack = run_under blind_seal (image_of asking 0) (Fresh stream) 10 in
    let r' : Result Run Lack = run_under blind_seal (image_of asking 1) (Fresh stream) 10 in
    secret_is_told.halves
    (by_public r
    ∙ (ap (λ (x : Result PublicRun Lack). result_map_both (λ (p : PublicRun). outward_half p.items) (λ lack. lack) x)
    (law pads (image_of asking 0) (image_of asking 1) (Fresh stream) (Fresh stream) 10 (record { kernel = refl; programs = refl }) refl)
    ∙ sym (by_public r')))
