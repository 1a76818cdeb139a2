-- What the memory of a kernel that runs alone answers: where an access leads, and what is made of the word there.
use Rattle.std.proofs.Common.{◌≡◌, ◌∙◌, ℕ, Bool, true, false, cond, List, [], ◌∷◌, length, Ok, Err, sym, ap}
use Rattle.cloak_model.specs.declared.access.Access.{Access}
use Rattle.cloak_model.specs.declared.access.Walked.{Walked}
use Rattle.cloak_model.specs.Events.{Look}
use Rattle.cloak_model.specs.Memory.{Seen, filled, mark_of, stored}
use Rattle.cloak_model.specs.World.{World, Flat, is_clashed, ram_of, noted}
use Rattle.cloak_model.specs.Walk.{Walk}
use Rattle.cloak_model.specs.Asking.{Asking, Told, Follows, FollowsFrom, then_ask}
use Rattle.cloak_model.specs.Ask.{ask_walk, ask_in_ram, ask_translate, ask_led, ask_value, ask_unmark, ask_marked, is_reserved, stored_if, conditional_at}
use Rattle.cloak_model.proofs.Later.{later_inside, later_led, unclashed_after_flat}
use Rattle.cloak_model.proofs.Following.{then_follows}
use Rattle.alone_views.specs.declared.kernel_ram.FlatRam.{FlatRam}
use Rattle.alone_views.specs.KernelWorld.{IsWorld, after_conditional, seen_by}

pub same_length : (old new : Seen) → Flat old ≡ Flat new → length new.ram ≡ length old.ram
same_length old new same = sym (ap (λ (w : World). length (ram_of w)) same)

-- what follows a walk and then the test of the address follows the translation
pub follows_translate : (old new : FlatRam) (satp : ℕ) (a : Access) (walk given : Walk) →
    Follows IsWorld old new walk (ask_walk satp a) → given ≡ (ask_in_ram a walk (Flat (seen_by new))).answer →
    Follows IsWorld old new given (ask_translate satp a)
unfolding ask_translate ask_in_ram
follows_translate old new satp a walk given follows answer =
    then_follows IsWorld old new new walk given (ask_walk satp a) (ask_in_ram a) (λ x w. later_inside a x w) follows
    (tested walk answer)
  where
    unmoved : (w : World) (r walk : Walk) → w ≡ Flat (seen_by new) →
        r ≡ (ask_in_ram a walk (Flat (seen_by new))).answer → FollowsFrom (IsWorld new) new r (ask_in_ram a walk w)
    unmoved w r (Err cause) stands is = record { answer = is; stands = stands }
    unmoved w r (Ok walked) stands is = record {
      answer = is ∙ ap (λ (v : World). (ask_in_ram a (Ok walked) v).answer) (sym stands);
      stands = stands;
    }

    tested : (walk : Walk) → given ≡ (ask_in_ram a walk (Flat (seen_by new))).answer →
        Follows IsWorld new new given (ask_in_ram a walk)
    tested walk is first w stands unclashed = unmoved w given walk stands is

-- an address that is in RAM or not
pub tested_inside : {A : Type 0} (b : Bool) (x y : A) → true ≡ b → x ≡ cond b x y
tested_inside b x y inside = ap (λ (c : Bool). cond c x y) inside

pub tested_outside : {A : Type 0} (b : Bool) (x y : A) → false ≡ b → y ≡ cond b x y
tested_outside b x y outside = ap (λ (c : Bool). cond c x y) outside

-- Answers.

pub told_as : {A : Type 0} (told : Told A) (a : A) (w : World) → told.answer ≡ a → told.world ≡ w →
    told ≡ record { answer = a; world = w }
told_as told a w e f i = record { answer = e i; world = f i }

-- An access is led, and then another question is asked: the one world of the memory decides what that results in.
-- Frames without cloaked pages note nothing.
pub led_follows : {A : Type 0} (old mid new : FlatRam) (satp : ℕ) (a : Access) (to : Walk) (given : A)
    (next : Walk → Asking A) → Follows IsWorld old mid to (ask_translate satp a) →
    given ≡ (next to (Flat (seen_by mid))).answer → (next to (Flat (seen_by mid))).world ≡ Flat (seen_by new) →
    Follows IsWorld old new given (then_ask (ask_led satp a) next)
unfolding ask_led
led_follows {A} old mid new satp a to given next led answer world first w stands unclashed =
    let f = led first (noted (Look satp a ∷ []) w) (ap (λ (v : World). noted (Look satp a ∷ []) v) stands)
    (ap (λ (v : World). is_clashed (ask_led satp a v).world) stands
    ∙ unclashed_after_flat (seen_by old) _ (later_led satp a (Flat (seen_by old)))) in
    let told = told_as (ask_led satp a w) to (Flat (seen_by mid)) (sym f.answer) f.stands in
    record {
      answer = answer ∙ sym (ap (λ (t : Told Walk). (next t.answer t.world).answer) told);
      stands = ap (λ (t : Told Walk). (next t.answer t.world).world) told ∙ world;
    }

-- What is written.

pub seen_stored : (old new : FlatRam) (pa width value : ℕ) →
    new.frames.items ≡ (stored pa width value (seen_by old)).ram →
    new.reservations ≡ (stored pa width value (seen_by old)).marks →
    stored pa width value (seen_by old) ≡ seen_by new
seen_stored old new pa width value ram marks = sym (λ i. record { ram = ram i; marks = marks i })

pub seen_filled : (old new : FlatRam) (f : ℕ) (bytes : List ℕ) → new.frames.items ≡ (filled f bytes (seen_by old)).ram →
    new.reservations ≡ (filled f bytes (seen_by old)).marks → filled f bytes (seen_by old) ≡ seen_by new
seen_filled old new f bytes ram marks = sym (λ i. record { ram = ram i; marks = marks i })

-- SC over frames without cloaked pages
pub conditional_flat : (b : Bool) (satp : ℕ) (a : Access) (hart value : ℕ) (walked : Walked) (s : Seen) →
    is_reserved walked.pa (mark_of hart s.marks) ≡ b →
    conditional_at satp a hart value (Ok walked) (Flat s)
    ≡ record { answer = Ok b; world = Flat (after_conditional b hart walked.pa value s) }
unfolding conditional_at ask_value ask_marked stored_if ask_unmark
conditional_flat true satp a hart value walked s is = rw is
conditional_flat false satp a hart value walked s is = rw is
