-- Each hypercall is of a kind: the hypercalls are gone over here, for all laws on what they do.
use Rattle.std.proofs.Common.{◌≡◌, ◌≢◌, ◌∙◌, ℕ, ◌%◌, nat_le, Bool, true, false, not, cond, List, length, Option, Some, None, is_some, unwrap_or, Ok, Err, refl, sym, ap, subst, arith}
use Rattle.std.specs.Prelude.{◌==◌}
use Rattle.std.specs.List.{list_any}
use Rattle.std.proofs.lemmas.Bool.{false≢true, and_parts, eqb-true}
use Rattle.cloak_base.specs.Registers.{register}
use Rattle.cloak_model.specs.declared.answer.Answer.{Answer}
use Rattle.cloak_model.specs.declared.answer.Answer.TheVariants as told
use Rattle.cloak_model.specs.declared.context.Phase.TheVariants.{CopyIn}
use Rattle.cloak_model.specs.declared.inside.Begun.TheVariants.{Copying}
use Rattle.cloak_model.specs.declared.resource.MapFault.{MapFault}
use Rattle.cloak_model.specs.declared.resource.MapFault.TheVariants as fault
use Rattle.cloak_model.specs.declared.resource.Region.{Region}
use Rattle.cloak_model.specs.Asking.{Told, answered, then_ask}
use Rattle.cloak_model.specs.Calls.{call_number, takes_bytes, is_good, BeginsCall, waiting, begin_call}
use Rattle.cloak_model.proofs.CallParts.{copy_begin, call_begin}
use Rattle.cloak_model.specs.Contexts.{Context, in_phase, moved_on, has_buffer, end_at}
use Rattle.cloak_model.specs.DomainState.{Control}
use Rattle.cloak_model.specs.Fork.{Fork, End, has_room, fork_fits, fork, is_of_space, end_context, copy_each, copies, forget_each, private_numbers}
use Rattle.cloak_model.proofs.Playing.{played_then, plays_both}
use Rattle.cloak_model.proofs.ForkParts.{fork_cleared, fork_if, end_cleared, end_if}
use Rattle.cloak_model.specs.Hypercalls.{Stepped, fault_word, answers_word, bad_call, stopped, remapped, new_call, map_call, unmap_call, file_call, thread_at, thread_call, with_spaces, fork_told, fork_call, end_told, exit_call, call_begun, kernel_call, Hypercall, New, Map, Unmap, File, Thread, ForkSpace, Exit, Call, Unknown, hypercall}
use Rattle.cloak_model.specs.Record.{IsWord}
use Rattle.cloak_model.specs.Resources.{Resources, Mapped, resource_at, regions_in, first_free, refused, size_for, is_region, overlaps, mapped, map_region, starts_at, unmap_region}
use Rattle.cloak_model.specs.World.{World}
use Rattle.cloak_model.specs.Script.{played}
use Rattle.hypercall_kinds.specs.Kinds.{cleared, CallKind, Answers, MakesNew, MakesFile, Maps, Unmaps, Starts, BeginsCopy, Calls, Stops, Forks, Ends, EndsSpace, remaps, after, HasKind, HypercallsHaveKinds}

fault_fits : (f : MapFault) → IsWord (fault_word f)
fault_fits fault.Full = omega arith
fault_fits _ = omega arith

-- A refusal leaves the resources.

abbrev RefusalKeeps : Resources → Mapped (Unit {0}) → Type 0
RefusalKeeps r m = (f : MapFault) → m.answer ≡ Err f → m.resources ≡ r

either_keeps : (r : Resources) (t : Bool) (m n : Mapped (Unit {0})) → RefusalKeeps r m → RefusalKeeps r n →
    RefusalKeeps r (cond t m n)
either_keeps r true m n here there = here
either_keeps r false m n here there = there

done_keeps : (r r' : Resources) → RefusalKeeps r (record { answer = Ok tt; resources = r' })
done_keeps r r' f is = absurd cc

refused_keeps : (f : MapFault) (r : Resources) → RefusalKeeps r (refused f r)
refused_keeps f r g is = refl

mapped_keeps : (space : ℕ) (g : Region) (size : Option ℕ) (regions : List Region) (r : Resources) →
    RefusalKeeps r (mapped space g size regions r)
unfolding mapped
mapped_keeps space g None regions r = refused_keeps fault.NotFound r
mapped_keeps space g (Some size) regions r =
    either_keeps r (not (is_region g size)) _ _ (refused_keeps fault.BadArg r)
    (either_keeps r (list_any (overlaps g) regions) _ _ (refused_keeps fault.Overlap r)
    (either_keeps r (nat_le 16 (length regions)) _ _ (refused_keeps fault.Full r) (done_keeps r _)))

map_keeps : (space : ℕ) (g : Region) (r : Resources) → RefusalKeeps r (map_region space g r)
unfolding map_region
map_keeps space g r = mapped_keeps space g (size_for space (resource_at r g.resource)) (regions_in r space) r

unmap_keeps : (space start : ℕ) (r : Resources) → RefusalKeeps r (unmap_region space start r)
unfolding unmap_region
unmap_keeps space start r =
    either_keeps r (not (list_any (starts_at start) (regions_in r space))) _ _ (refused_keeps fault.NotFound r)
    (done_keeps r _)

some_there : (o : Option ℕ) → is_some o ≡ true → o ≡ Some (unwrap_or o 0)
some_there None is = absurd (false≢true is)
some_there (Some n) is = refl

module _ (h : Hypercall) (slot : ℕ) (c : Context) (d : Control) (w : World) where
  abbrev Has : Told Stepped → Type 0
  Has t = HasKind h slot c d w t

  -- a refusal
  refuses : (f : MapFault) → Has (answered (answers_word slot c (fault_word f) d) w)
  refuses f = record { kind = Answers (fault_word f) (fault_fits f); is = refl }

  -- frames were not settled
  stops : (a : Answer) → (cleared c d w).answer ≡ a → a ≢ told.Ok → Has (answered (stopped d) (cleared c d w).world)
  stops a is other = record { kind = Stops (λ ok. other (sym is ∙ ok)); is = refl }

  -- MAP and UNMAP
  remapped_kind : (kind : CallKind h slot c d w) (m : Mapped (Unit {0})) (answer : _) → m.answer ≡ answer →
      RefusalKeeps d.resources m →
      answered (remaps slot c m.resources d) w ≡ after h slot c d w kind →
      Has (answered (remapped slot c answer (record d { resources = m.resources })) w)
  unfolding remapped
  remapped_kind kind m (Ok done) is keeps same = record { kind = kind; is = same }
  remapped_kind kind m (Err f) is keeps same = record {
    kind = Answers (fault_word f) (fault_fits f);
    is = ap (λ (r : Resources). answered (answers_word slot c (fault_word f) (record d { resources = r })) w)
        (keeps f is);
  }

  -- THREAD
  thread_at_kind : (o : Option ℕ) → first_free d.contexts ≡ o → register c.regs 10 % 4 ≡ 0 →
      Has (answered (thread_at slot c o d) w)
  unfolding thread_at
  thread_at_kind None is aligned = refuses fault.Full
  thread_at_kind (Some free) is aligned = record { kind = Starts free is aligned; is = refl }

  thread_if_kind : (t : Bool) → (register c.regs 10 % 4 == 0) ≡ t →
      Has (answered (cond t (thread_at slot c (first_free d.contexts) d)
      (answers_word slot c (fault_word fault.BadArg) d)) w)
  thread_if_kind true is = thread_at_kind (first_free d.contexts) refl (eqb-true (register c.regs 10 % 4) 0 is)
  thread_if_kind false is = refuses fault.BadArg

  -- FORK
  fork_cleared_kind : (a : Answer) → (cleared c d w).answer ≡ a → h ≡ ForkSpace →
      has_room c.space d.resources d.contexts ≡ true →
      Has (then_ask (played (fork_cleared d.number c (unwrap_or (first_free d.contexts) 0)
      (unwrap_or (first_free d.resources.spaces) 0) d.resources d.contexts a))
      (λ made. answered (fork_told slot c d made.answer (with_spaces made.spaces d))) (cleared c d w).world)
  unfolding fork_told
  fork_cleared_kind told.Ok is same room =
      let slots = and_parts (is_some (first_free d.contexts)) _ room in
      let spaces = and_parts (is_some (first_free d.resources.spaces)) _ slots.1 in
      record {
        kind = Forks (unwrap_or (first_free d.contexts) 0) (unwrap_or (first_free d.resources.spaces) 0) same room
            (some_there (first_free d.contexts) slots.0) (some_there (first_free d.resources.spaces) spaces.0) is;
        is = ap (λ (t : Told Fork). answered (fork_told slot c d t.answer.answer (with_spaces t.answer.spaces d)) t.world)
            (played_then (copy_each d.number (copies c.space d.resources)) _ (cleared c d w).world);
      }
  fork_cleared_kind (told.Absent cause) is same room = stops _ is (λ ok. cc)
  fork_cleared_kind (told.Word value) is same room = stops _ is (λ ok. cc)
  fork_cleared_kind told.Stopped is same room = stops _ is (λ ok. cc)

  fork_if_kind : (fits : Bool) → has_room c.space d.resources d.contexts ≡ fits → h ≡ ForkSpace →
      Has (then_ask (played (fork_if (cond fits (Ok tt) (Err fault.Full)) d.number c d.resources d.contexts))
      (λ made. answered (fork_told slot c d made.answer (with_spaces made.spaces d))) w)
  unfolding fork_told
  fork_if_kind true room same = fork_cleared_kind (cleared c d w).answer refl same room
  fork_if_kind false room same = refuses fault.Full

  -- EXIT
  end_cleared_kind : (a : Answer) → (cleared c d w).answer ≡ a → h ≡ Exit →
      list_any (is_of_space c.space) (end_at slot d.contexts) ≡ false →
      Has (then_ask (played (end_cleared d.number slot c.space d.resources d.contexts a))
      (λ made. answered (end_told slot c d made.ending (with_spaces made.spaces d))) (cleared c d w).world)
  unfolding end_told
  end_cleared_kind told.Ok is same none = record {
    kind = EndsSpace same none is;
    is = ap (λ (t : Told End). answered (end_told slot c d t.answer.ending (with_spaces t.answer.spaces d)) t.world)
        (played_then (forget_each d.number (private_numbers c.space d.resources)) _ (cleared c d w).world);
  }
  end_cleared_kind (told.Absent cause) is same none = stops _ is (λ ok. cc)
  end_cleared_kind (told.Word value) is same none = stops _ is (λ ok. cc)
  end_cleared_kind told.Stopped is same none = stops _ is (λ ok. cc)

  end_if_kind : (others : Bool) → list_any (is_of_space c.space) (end_at slot d.contexts) ≡ others → h ≡ Exit →
      Has (then_ask (played (end_if others d.number slot c.space d.resources d.contexts))
      (λ made. answered (end_told slot c d made.ending (with_spaces made.spaces d))) w)
  unfolding end_told
  end_if_kind true is same = record { kind = Ends; is = refl }
  end_if_kind false is same = end_cleared_kind (cleared c d w).answer refl same is

  -- CALL
  copies_kind : (t : Bool) → takes_bytes (call_number c) ≡ t → is_good d.resources (moved_on c) ≡ true →
      (let begins : BeginsCall = cond t (record { answer = Ok Copying; context = in_phase (CopyIn 0) (moved_on c) })
      (waiting (moved_on c)) in
      Has (answered (call_begun slot begins.context begins.answer d) w))
  unfolding call_begun
  copies_kind true is good = record { kind = BeginsCopy is good; is = refl }
  copies_kind false is good = record { kind = Calls (λ has. good); is = refl }

  buffer_kind : (t : Bool) → is_good d.resources (moved_on c) ≡ t →
      (let begins = copy_begin t (moved_on c) in Has (answered (call_begun slot begins.context begins.answer d) w))
  unfolding call_begun
  buffer_kind true is = copies_kind (takes_bytes (call_number c)) refl is
  buffer_kind false is = refuses fault.BadArg

  call_kind : (t : Bool) → has_buffer (call_number c) ≡ t →
      (let begins = call_begin t d.resources (moved_on c) in
      Has (answered (call_begun slot begins.context begins.answer d) w))
  unfolding call_begun
  call_kind true is = buffer_kind (is_good d.resources (moved_on c)) refl
  call_kind false is = record { kind = Calls (λ has. absurd (false≢true (sym is ∙ has))); is = refl }

-- The law.
pub hypercall_kind : HypercallsHaveKinds
unfolding
    hypercall new_call map_call unmap_call file_call thread_call fork_call fork fork_fits exit_call end_context kernel_call
    begin_call
hypercall_kind New slot c d w = record { kind = MakesNew (register c.regs 10); is = refl }
hypercall_kind Map slot c d w =
    let g : Region = record {
      start = register c.regs 11;
      pages = register c.regs 13;
      resource = register c.regs 10;
      first = register c.regs 12;
    } in
    remapped_kind Map slot c d w (Maps g) (map_region c.space g d.resources) _ refl (map_keeps c.space g d.resources)
    refl
hypercall_kind Unmap slot c d w =
    let start = register c.regs 10 in
    remapped_kind Unmap slot c d w (Unmaps start) (unmap_region c.space start d.resources) _ refl
    (unmap_keeps c.space start d.resources) refl
hypercall_kind File slot c d w = record { kind = MakesFile (register c.regs 11); is = refl }
hypercall_kind Thread slot c d w = thread_if_kind Thread slot c d w (register c.regs 10 % 4 == 0) refl
hypercall_kind ForkSpace slot c d w =
    plays_both (HasKind ForkSpace slot c d w) (fork d.number c d.resources d.contexts) _ w
    (fork_if_kind ForkSpace slot c d w (has_room c.space d.resources d.contexts) refl refl)
hypercall_kind Exit slot c d w =
    plays_both (HasKind Exit slot c d w) (end_context d.number slot c.space d.resources d.contexts) _ w
    (end_if_kind Exit slot c d w (list_any (is_of_space c.space) (end_at slot d.contexts)) refl refl)
hypercall_kind Call slot c d w = call_kind Call slot c d w (has_buffer (call_number c)) refl
hypercall_kind Unknown slot c d w = record { kind = Answers bad_call (omega arith); is = refl }

-- What holds after each kind holds after each hypercall.
pub by_kinds : (P : Told Stepped → Type 0) (h : Hypercall) (slot : ℕ) (c : Context) (d : Control) (w : World) →
    ((k : CallKind h slot c d w) → P (after h slot c d w k)) → P (played (hypercall h slot c d) w)
by_kinds P h slot c d w each =
    let has = hypercall_kind h slot c d w in subst P (sym has.is) (each has.kind)

-- None ends its program.

ended_after : (h : Hypercall) (slot : ℕ) (c : Context) (d : Control) (w : World) (k : CallKind h slot c d w) →
    (after h slot c d w k).answer.control.ended ≡ d.ended
ended_after h slot c d w Ends = refl
ended_after h slot c d w _ = refl

pub hypercall_ended : (h : Hypercall) (slot : ℕ) (c : Context) (d : Control) (w : World) →
    (played (hypercall h slot c d) w).answer.control.ended ≡ d.ended
hypercall_ended h slot c d w =
    by_kinds (λ t. t.answer.control.ended ≡ d.ended) h slot c d w (ended_after h slot c d w)
