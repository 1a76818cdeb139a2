-- A call to the kernel, as it begins, as its bytes are copied one a step, and as it is answered.
use Rattle.std.proofs.Common.{◌≡◌, ◌≢◌, ◌⊎◌, inl, inr, ℕ, ◌+◌, ◌^◌, ◌≤◌, Bool, true, false, cond, List, Option, Some, refl, ◌∙◌, arith}
use Rattle.std.specs.Prelude.{◌==◌, ◌&&◌, nat_le}
use Rattle.std.proofs.lemmas.Bool.{cond_both, eqb-true, leb-true, leb-false, and_cases, and_parts, or_cases}
use Rattle.std.proofs.lemmas.List.{get_or-set_other}
use Rattle.cloak_base.specs.Registers.{register, with_register}
use Rattle.cloak_base.specs.declared.names.PageId.{PageId}
use Rattle.cloak_model.specs.declared.answer.Answer.{Answer}
use Rattle.cloak_model.specs.declared.answer.Answer.TheVariants as told
use Rattle.cloak_model.specs.declared.context.Phase.{Phase}
use Rattle.cloak_model.specs.declared.context.Phase.TheVariants.{Plain, CopyIn, Waiting, CopyOut}
use Rattle.cloak_model.specs.declared.inside.Copied.{Copied}
use Rattle.cloak_model.specs.declared.inside.Copied.TheVariants as copied
use Rattle.cloak_model.specs.Calls.{call_number, call_length, buffer, area, takes_bytes, gives_bytes, is_in_bounds, is_apart, is_cloaked, is_good, byte_address, Copy, if_reached, if_got, if_apart, copy_in_step, copy_out_step, finish_call}
use Rattle.cloak_model.specs.Contexts.{Context, set_word, in_phase, has_buffer}
use Rattle.cloak_model.specs.Resources.{Resources, page_at}
use Rattle.cloak_model.specs.World.{World}
use Rattle.cloak_model.specs.Script.{Script, played}
use Rattle.frozen_state.specs.Limits.{IsCall, IsCopyIn, IsCopyOut, IsPhase, WaitsOnNoHart, IsSteady}
use Rattle.limit_law.proofs.Contexts.{with_register_length, with_register_zero, AllEnds, at_end}

-- The same context in another phase, and with an answer.

pub phase_steady : (c : Context) (phase : Phase) → IsSteady c → IsPhase c.regs phase → IsSteady (in_phase phase c)
phase_steady c phase s here =
    record {
      registers = s.registers;
      zero_register = s.zero_register;
      aligned = s.aligned;
      phase = here;
      mark = s.mark;
    }

answered_steady : (c : Context) (phase : Phase) (v : ℕ) → IsSteady c → IsPhase (with_register c.regs 10 v) phase →
    IsSteady (in_phase phase (set_word c 10 v))
answered_steady c phase v s here = record {
  registers = with_register_length c.regs 10 v s.registers;
  zero_register = with_register_zero c.regs 10 v s.zero_register;
  aligned = s.aligned;
  phase = here;
  mark = s.mark;
}

-- x10 is no register of a call's shape
kept : (regs : List ℕ) (v k : ℕ) → k ≢ 10 → register (with_register regs 10 v) k ≡ register regs k
kept regs v k other = get_or-set_other regs 10 k v 0 other

call_kept : (regs : List ℕ) (v : ℕ) → IsCall regs → IsCall (with_register regs 10 v)
call_kept regs v call =
    let x = kept regs v 11 (λ e. cc) in
    let y = kept regs v 12 (λ e. cc) in
    let z = kept regs v 13 (λ e. cc) in
    record {
      few = omega (arith, y, call.few);
      buffer = omega (arith, x, y, call.buffer);
      area = omega (arith, z, y, call.area);
    }

-- What a copying step leaves. If it goes on inside, its context does not wait on a hart.

abbrev pub StaysIdle : Copied → Context → Type 0
StaysIdle copied.CallReady c = Unit {0}
StaysIdle (copied.Absent cause address) c = Unit {0}
StaysIdle copied.Stopped c = Unit {0}
StaysIdle _ c = WaitsOnNoHart c.phase c.on

pub record AfterCopy (c : Context) (k : Copy) : Type 0 where
  pub steady : IsSteady k.context
  pub space : k.context.space ≡ c.space
  pub on : k.context.on ≡ c.on
  pub idle : StaysIdle k.ending k.context

-- whatever is answered to its questions
abbrev Leaves : Context → Script Copy → Type 0
Leaves c script = AllEnds (AfterCopy c) script

module _ (c : Context) (s : IsSteady c) where
  reached_one : (va : ℕ) (a : Answer) (next : Script Copy) → Leaves c next → Leaves c (if_reached c va a next)
  reached_one va told.Ok next more = more
  reached_one va _ next more = record { steady = s; space = refl; on = refl; idle = tt }

  got_one : (va : ℕ) (a : Answer) (next : ℕ → Script Copy) → ((byte : ℕ) → Leaves c (next byte)) →
      Leaves c (if_got c va a next)
  got_one va (told.Word byte) next more = more byte
  got_one va _ next more = record { steady = s; space = refl; on = refl; idle = tt }

  apart_one : (place : Option PageId) (cloaked : Bool) (next : PageId → Script Copy) →
      ((q : PageId) → Leaves c (next q)) → Leaves c (if_apart c place cloaked next)
  apart_one (Some q) false next more = more q
  apart_one _ _ next more = record { steady = answered_steady c Plain _ s tt; space = refl; on = refl; idle = tt }

  module _ (done : ℕ) (p : IsCopyIn c.regs done) where
    copy_in_leaves : (domain : ℕ) (r : Resources) → Leaves c (copy_in_step domain r c done)
    unfolding copy_in_step
    copy_in_leaves domain r =
        let from : ℕ = byte_address (buffer c) done in
        let to : ℕ = byte_address (area c) done in
        cond_both (nat_le (call_length c) done) _ _ (Leaves c)
        (λ is. record { steady = phase_steady c Waiting s (λ a b. p.call); space = refl; on = refl; idle = tt })
        (λ is. apart_one (page_at domain r c.space from) (is_cloaked r c to) _
        (λ q a. reached_one from a _ (λ byte b. reached_one to b _ (record {
          steady = phase_steady c (CopyIn (done + 1)) s (record {
            number = p.number;
            part = let low = leb-false (call_length c) done is in omega (arith, low);
            call = p.call;
          });
          space = refl;
          on = refl;
          idle = tt;
        }))))

    pub copy_in_one : (domain : ℕ) (r : Resources) (w : World) →
        AfterCopy c (played (copy_in_step domain r c done) w).answer
    copy_in_one domain r w = at_end (AfterCopy c) (copy_in_step domain r c done) w (copy_in_leaves domain r)

  module _ (done total : ℕ) (p : IsCopyOut c.regs done total) where
    copy_out_leaves : (domain : ℕ) (r : Resources) → Leaves c (copy_out_step domain r c done total)
    unfolding copy_out_step
    copy_out_leaves domain r =
        let from : ℕ = byte_address (area c) done in
        let to : ℕ = byte_address (buffer c) done in
        cond_both (nat_le total done) _ _ (Leaves c)
        (λ is. record { steady = phase_steady c Plain s tt; space = refl; on = refl; idle = tt })
        (λ is. apart_one (page_at domain r c.space to) (is_cloaked r c from) _
        (λ q a. got_one from a _ (λ byte b. reached_one to b _ (record {
          steady = phase_steady c (CopyOut (done + 1) total) s (record {
            number = p.number;
            part = let low = leb-false total done is in omega (arith, low);
            whole = p.whole;
            call = p.call;
          });
          space = refl;
          on = refl;
          idle = tt;
        }))))

    pub copy_out_one : (domain : ℕ) (r : Resources) (w : World) →
        AfterCopy c (played (copy_out_step domain r c done total) w).answer
    copy_out_one domain r w = at_end (AfterCopy c) (copy_out_step domain r c done total) w (copy_out_leaves domain r)

-- How a call begins.

in_bounds : (c : Context) → is_in_bounds c ≡ true → IsCall c.regs
in_bounds c is =
    let few = nat_le (call_length c) 4096 in
    let low = nat_le (buffer c + call_length c) (2 ^ 32) in
    let high = nat_le (area c + call_length c) (2 ^ 32) in
    let parts = and_parts few (low && high) is in
    let rest = and_parts low high parts.1 in
    record { few = leb-true _ _ parts.0; buffer = leb-true _ _ rest.0; area = leb-true _ _ rest.1 }

good_in_bounds : (r : Resources) (c : Context) → is_good r c ≡ true → is_in_bounds c ≡ true
good_in_bounds r c is = (and_parts (is_in_bounds c) (is_apart r c) is).0

takes : (n : ℕ) → takes_bytes n ≡ true → (n ≡ 1) ⊎ (n ≡ 2)
takes n is = elim (or_cases (n == 1) (n == 2) is) [
  | inl one ↦ inl (eqb-true n 1 one)
  | inr two ↦ inr (eqb-true n 2 two)
]

pub begins_copy : (r : Resources) (c : Context) → takes_bytes (call_number c) ≡ true → is_good r c ≡ true →
    IsPhase c.regs (CopyIn 0)
begins_copy r c is good =
    record { number = takes _ is; part = omega arith; call = in_bounds c (good_in_bounds r c good) }

no_buffer : (n : ℕ) → has_buffer n ≡ false → 1 ≤ n → n ≤ 3 → ⊥
no_buffer n is low high = elim (and_cases (nat_le 1 n) (nat_le n 3) is) [
  | inl below ↦ let x = leb-false 1 n below in absurd (omega (arith, x, low))
  | inr above ↦ let x = leb-false n 3 above in absurd (omega (arith, x, high))
]

waits_by : (t : Bool) (r : Resources) (c : Context) → has_buffer (call_number c) ≡ t → (t ≡ true → is_good r c ≡ true) →
    IsPhase c.regs Waiting
waits_by true r c is good = λ low high. in_bounds c (good_in_bounds r c (good refl))
waits_by false r c is good = λ low high. absurd (no_buffer _ is low high)

pub waits_so : (r : Resources) (c : Context) → (has_buffer (call_number c) ≡ true → is_good r c ≡ true) →
    IsPhase c.regs Waiting
waits_so r c good = waits_by (has_buffer (call_number c)) r c refl good

module _ (c : Context) (s : IsSteady c) where
  -- An answer to one that waits.

  pub record AfterFinish (k : Context) : Type 0 where
    pub steady : IsSteady k
    pub space : k.space ≡ c.space
    pub on : k.on ≡ c.on
    pub idle : (on : _) → WaitsOnNoHart k.phase on

  finish_by : (t : Bool) (answer : ℕ) → IsPhase c.regs Waiting →
      (gives_bytes (call_number c) && nat_le answer (call_length c)) ≡ t →
      AfterFinish (cond t (in_phase (CopyOut 0 answer) (set_word c 10 answer)) (in_phase Plain (set_word c 10 answer)))
  finish_by false answer call is =
      record { steady = answered_steady c Plain answer s tt; space = refl; on = refl; idle = λ on. tt }
  finish_by true answer call is =
      let parts = and_parts (gives_bytes (call_number c)) (nat_le answer (call_length c)) is in
      let three : register c.regs 16 ≡ 3 = eqb-true _ 3 parts.0 in
      let most = leb-true _ _ parts.1 in
      let y = kept c.regs answer 12 (λ e. cc) in
      record {
        steady = answered_steady c (CopyOut 0 answer) answer s (record {
          number = kept c.regs answer 16 (λ e. cc) ∙ three;
          part = omega arith;
          whole = omega (arith, y, most);
          call = call_kept c.regs answer (call (omega (arith, three)) (omega (arith, three)));
        });
        space = refl;
        on = refl;
        idle = λ on. tt;
      }

  pub finish_one : (answer : ℕ) → IsPhase c.regs Waiting → AfterFinish (finish_call answer c)
  unfolding finish_call
  finish_one answer call = finish_by _ answer call refl
