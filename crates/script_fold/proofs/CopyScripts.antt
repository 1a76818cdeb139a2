-- A step of a copy for a call is a script.
use Rattle.std.proofs.Common.{◌≡◌, ℕ, ◌+◌, ◌%◌, Bool, true, false, nat_le, Option, Some, None, refl}
use Rattle.cloak_base.specs.declared.names.Kind.TheVariants.{Load, Store}
use Rattle.cloak_base.specs.declared.names.PageId.{PageId}
use Rattle.cloak_model.specs.declared.answer.Answer.{Answer}
use Rattle.cloak_model.specs.declared.answer.Answer.TheVariants as told
use Rattle.cloak_model.specs.declared.context.Phase.TheVariants.{CopyOut}
use Rattle.cloak_model.specs.declared.inside.Copied.{Copied}
use Rattle.cloak_model.specs.declared.inside.Copied.TheVariants as copied
use Rattle.cloak_model.specs.Resources.{Resources, page_at}
use Rattle.cloak_model.specs.Contexts.{Context, in_phase, word_of_page}
use Rattle.cloak_model.specs.Calls as calls
use Rattle.cloak_model.proofs.CallParts as call_parts
use Rattle.script_fold.proofs.Aligned.{byte_aligned}
use Rattle.cloak_model.specs.Script.{Asks, Reach, Get, Put, Write}
use Rattle.script_fold.proofs.Scripts.{EndClaims, IsStop, Scripted, scripted_gives, scripted_asks, scripted_reads, scripted_changes}
use Rattle.script_fold.proofs.InstructionScripts.{IsOwnPage, own_page}

-- the copy goes on
abbrev pub GoesOn : Copied → Type 0
GoesOn copied.Going = Unit {0}
GoesOn copied.CallReady = ⊥
GoesOn copied.Done = ⊥
GoesOn (copied.Absent cause address) = ⊥
GoesOn copied.Stopped = ⊥
GoesOn copied.Refused = ⊥
GoesOn (copied.Loaded address byte) = ⊥

abbrev pub of_copy : Context → EndClaims calls.Copy
of_copy c = record {
  each = λ m. m.context.on ≡ c.on;
  stopped = λ m. m.ending ≡ copied.Stopped;
  changed = λ m. GoesOn m.ending;
}

unfoldable pub in_put_scripted : (d : ℕ) (c : Context) (done byte : ℕ) (a : Answer) →
    Scripted d (of_copy c) (call_parts.in_put c done byte a)
in_put_scripted d c done byte told.Ok = scripted_gives d (of_copy c) _ refl
in_put_scripted d c done byte (told.Absent cause) = scripted_gives d (of_copy c) _ refl
in_put_scripted d c done byte (told.Word value) = scripted_gives d (of_copy c) _ refl
in_put_scripted d c done byte told.Stopped = scripted_gives d (of_copy c) _ refl

pub in_byte_scripted : (d : ℕ) (c : Context) (done byte : ℕ) →
    Scripted d (of_copy c) (Asks (Put (calls.byte_address (calls.area c) done) 1 byte)
    (call_parts.in_put c done byte))
unfolding in_put_scripted IsStop
in_byte_scripted d c done byte =
    let at = calls.byte_address (calls.area c) done in
    scripted_asks d (of_copy c) (Put at 1 byte) (byte_aligned at) (call_parts.in_put c done byte)
    (in_put_scripted d c done byte) refl

unfoldable pub in_reached_scripted : (d : ℕ) (c : Context) (q : PageId) → q.domain ≡ d → (done : ℕ) (a : Answer) →
    Scripted d (of_copy c) (call_parts.in_reached c q done a)
in_reached_scripted d c q own done told.Ok =
    scripted_reads d (of_copy c) q own (calls.byte_address (calls.buffer c) done % 4096) 1
    (λ byte. Asks (Put (calls.byte_address (calls.area c) done) 1 byte) (call_parts.in_put c done byte))
    (in_byte_scripted d c done)
in_reached_scripted d c q own done (told.Absent cause) = scripted_gives d (of_copy c) _ refl
in_reached_scripted d c q own done (told.Word value) = scripted_gives d (of_copy c) _ refl
in_reached_scripted d c q own done told.Stopped = scripted_gives d (of_copy c) _ refl

in_placed_scripted : (d : ℕ) (c : Context) (done : ℕ) (o : Option PageId) (cloaked : Bool) → IsOwnPage d o →
    Scripted d (of_copy c) (call_parts.in_placed c done o cloaked)
unfolding in_reached_scripted IsStop
in_placed_scripted d c done None cloaked own = scripted_gives d (of_copy c) _ refl
in_placed_scripted d c done (Some q) true own = scripted_gives d (of_copy c) _ refl
in_placed_scripted d c done (Some q) false own =
    scripted_asks d (of_copy c) (Reach q (calls.byte_address (calls.buffer c) done) Load) own
    (call_parts.in_reached c q done) (in_reached_scripted d c q own done) refl

in_step_scripted : (d : ℕ) (all : Bool) (r : Resources) (c : Context) (done : ℕ) →
    Scripted d (of_copy c) (call_parts.in_step all d r c done)
in_step_scripted d true r c done = scripted_gives d (of_copy c) _ refl
in_step_scripted d false r c done =
    let at = calls.byte_address (calls.buffer c) done in
    in_placed_scripted d c done (page_at d r c.space at)
    (calls.is_cloaked r c (calls.byte_address (calls.area c) done)) (own_page d r c.space at)

pub copy_in_scripted : (d : ℕ) (r : Resources) (c : Context) (done : ℕ) →
    Scripted d (of_copy c) (calls.copy_in_step d r c done)
unfolding calls.copy_in_step
copy_in_scripted d r c done = in_step_scripted d (nat_le (calls.call_length c) done) r c done

unfoldable pub out_reached_scripted : (d : ℕ) (c : Context) (q : PageId) → q.domain ≡ d →
    (done total byte : ℕ) (a : Answer) →
    Scripted d (of_copy c) (call_parts.out_reached c q done total byte a)
out_reached_scripted d c q own done total byte told.Ok =
    scripted_changes d (of_copy c) (Write q (calls.byte_address (calls.buffer c) done % 4096) 1 byte) own
    (record {
      context = in_phase (CopyOut (done + 1) total) c;
      ending = copied.Going;
      wrote = Some (word_of_page q (calls.byte_address (calls.buffer c) done));
    }) refl tt
out_reached_scripted d c q own done total byte (told.Absent cause) = scripted_gives d (of_copy c) _ refl
out_reached_scripted d c q own done total byte (told.Word value) = scripted_gives d (of_copy c) _ refl
out_reached_scripted d c q own done total byte told.Stopped = scripted_gives d (of_copy c) _ refl

unfoldable pub out_got_scripted : (d : ℕ) (c : Context) (q : PageId) → q.domain ≡ d → (done total : ℕ) (a : Answer) →
    Scripted d (of_copy c) (call_parts.out_got c q done total a)
unfolding out_reached_scripted IsStop
out_got_scripted d c q own done total (told.Word byte) =
    scripted_asks d (of_copy c) (Reach q (calls.byte_address (calls.buffer c) done) Store) own
    (call_parts.out_reached c q done total byte)
    (out_reached_scripted d c q own done total byte) refl
out_got_scripted d c q own done total (told.Absent cause) = scripted_gives d (of_copy c) _ refl
out_got_scripted d c q own done total told.Ok = scripted_gives d (of_copy c) _ refl
out_got_scripted d c q own done total told.Stopped = scripted_gives d (of_copy c) _ refl

out_placed_scripted : (d : ℕ) (c : Context) (done total : ℕ) (o : Option PageId) (cloaked : Bool) → IsOwnPage d o →
    Scripted d (of_copy c) (call_parts.out_placed c done total o cloaked)
unfolding out_got_scripted IsStop
out_placed_scripted d c done total None cloaked own = scripted_gives d (of_copy c) _ refl
out_placed_scripted d c done total (Some q) true own = scripted_gives d (of_copy c) _ refl
out_placed_scripted d c done total (Some q) false own =
    scripted_asks d (of_copy c) (Get (calls.byte_address (calls.area c) done) 1) tt (call_parts.out_got c q done total)
    (out_got_scripted d c q own done total) refl

out_step_scripted : (d : ℕ) (all : Bool) (r : Resources) (c : Context) (done total : ℕ) →
    Scripted d (of_copy c) (call_parts.out_step all d r c done total)
out_step_scripted d true r c done total = scripted_gives d (of_copy c) _ refl
out_step_scripted d false r c done total =
    let at = calls.byte_address (calls.buffer c) done in
    out_placed_scripted d c done total (page_at d r c.space at)
    (calls.is_cloaked r c (calls.byte_address (calls.area c) done)) (own_page d r c.space at)

pub copy_out_scripted : (d : ℕ) (r : Resources) (c : Context) (done total : ℕ) →
    Scripted d (of_copy c) (calls.copy_out_step d r c done total)
unfolding calls.copy_out_step
copy_out_scripted d r c done total = out_step_scripted d (nat_le total done) r c done total
