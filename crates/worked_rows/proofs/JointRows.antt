-- Rows of joint runs in which pages are compared.
use Rattle.std.proofs.Common.{◌≡◌, ℕ, ◌-◌, ◌*◌, refl, true, false, List, [], ◌∷◌, ◌++◌, Option, Some, None, ◌∙◌, ap}
use Rattle.std.specs.Prelude.{Result, Ok, replicate, drop, length, if◌then◌else◌}
use Rattle.std.specs.List.{flat_map}
use Rattle.std.specs.Result.{result_map_both}
use Rattle.std.specs.Str.{bytes_eq}
use Rattle.cloak_base.specs.Pages.{zero_page, with_page, is_of}
use Rattle.cloak_base.specs.Random.{Random, handed}
use Rattle.cloak_base.specs.declared.causes.Violation.TheVariants as violation
use Rattle.cloak_base.specs.declared.names.Kind.TheVariants.{Fetch}
use Rattle.cloak_base.specs.declared.names.SpaceId.{SpaceId}
use Rattle.cloak_model.specs.declared.answer.Answer.{Answer}
use Rattle.cloak_model.specs.declared.answer.Answer.TheVariants as told
use Rattle.cloak_model.specs.declared.image.Bundle.{Bundle}
use Rattle.cloak_model.specs.Items as item
use Rattle.cloak_model.specs.Bits.{word}
use Rattle.cloak_model.specs.Bundle as bundle
use Rattle.cloak_model.specs.BundleFault as faults
use Rattle.cloak_model.specs.Cloaking.{CloakedMemory, is_clash, with_comparison}
use Rattle.cloak_model.specs.Contexts.{Context, with_space}
use Rattle.cloak_model.specs.Exchange as exchange
use Rattle.cloak_model.specs.Fields as fields
use Rattle.cloak_model.specs.Exchange.{record_of}
use Rattle.cloak_model.specs.Hart.{Hart}
use Rattle.cloak_model.specs.Joint.{end_domain, Moment, Turn, joint_step, quiet, stop_of}
use Rattle.cloak_model.specs.Memory.{with_value_in}
use Rattle.cloak_model.specs.Opening.{Lack, RunEdge, opening, numbers_below, keys_for}
use Rattle.cloak_model.specs.Asking.{Told}
use Rattle.cloak_model.specs.Parts.{Joint}
use Rattle.cloak_model.specs.Run as run
use Rattle.cloak_model.specs.Run.{Run, joint_run, run_of_turns, turns_from}
use Rattle.cloak_model.specs.World.{Cloaked}
use Rattle.worked_rows.specs.Images.{keyed_program, keyed_image, image, halt, boot, flip_and_resume, look_and_resume, remap_and_resume, resume_words, exit_words, image_of, page_with, words_page}
use Rattle.worked_rows.specs.Runs.{running, registers_from}
use Rattle.worked_rows.specs.JointRuns.{one_key, seen, seen_of, read_off, counted, key, draw_1, draw_2, csrs_of, inside_hart, outside_hart}
use Rattle.worked_rows.specs.JointRows.{whole_image, whole_items, other_opening, other_closing, OtherKey, opening_cipher, closing_cipher, program_with, started_context, not_started, answered_context, gone_program, shown_exit, whole, WholeRun, ThreeDraws, TwoDraws, OtherRoot, AfterExit, flipped_frame, FlippedBit, NothingFlipped}
use Rattle.worked_rows.proofs.Ciphers.{length-record_of, IsBytes-cbc, IsBytes-computed, flipped-differs}
use Rattle.worked_rows.proofs.Computing.{joint_steps, joint_runs}
use Rattle.worked_rows.proofs.Offers.{refused_events, reach-shown, reach-changed}
use Rattle.worked_rows.proofs.Turns.{first_turns, moment_after, goes_on, plus, turns_from-step, turns_from-plus}
use Rattle.worked_rows.proofs.Whole.{FirstDraws, first_shown, page, ram_of, plain_of, bare_root, opened_memory, resumed_memory, stored_page, stored_plain, first_hart, program_hart, machine, at_step, opened_moment, left_moment, fetched_step, cloak_for, fetch_granted, joint_step-of, turns_from-boot, turns_to_call, turns_from-call}
use Rattle.range_law.proofs.Ciphers.{cbc_long}

-- Runs of a program of one page, by the words of its kernel after the boot.
abbrev pub opened : List ℕ → List ℕ → FirstDraws → RunEdge
opened bytes rest begun =
    record {
      joint = machine first_hart (program_with not_started []) (opened_memory bytes rest begun);
      items = item.Cipher 8 (first_shown begun bytes) ∷ [];
    }

-- what stands in the kernel's frame after its boot
abbrev pub behind_boot : List ℕ → List ℕ
behind_boot words = flat_map word words ++ replicate (4076 - 4 * length words) 0

-- what a run whose program has key 0 draws of the counted bytes as it begins
abbrev pub behind_draw : ℕ → FirstDraws
behind_draw n = record { keys = one_key; draw = draw_1; stream = handed (drop 32 (numbers_below n)) }

-- what is read off a run that there is
abbrev pub there_is : {A : Type 0} → A → Result A Lack
there_is a = Ok a

-- the run from the program's call on
abbrev pub run_from_call : List ℕ → FirstDraws → ℕ → Run
run_from_call rest begun n =
    run_of_turns (opened words_page rest begun) (turns_to_call rest begun (turns_from n (left_moment rest begun)))

-- the run of a bundle that is opened so
pub runs-opened : (b : Bundle) (stream : Random) (n : ℕ) (o : RunEdge) → opening b stream ≡ Ok o →
    joint_run b stream n ≡ there_is (run_of_turns o (turns_from n (run.first_moment b o.joint)))
unfolding run.run_of
runs-opened b stream n o opens = rw opens refl

pub runs-from_call : (number : ℕ) (words : List ℕ) (stream : Random) (rest : List ℕ) (begun : FirstDraws) (n : ℕ)
    → opening (keyed_image number words) stream ≡ Ok (opened words_page rest begun)
    → joint_run (keyed_image number words) stream (plus 12 n) ≡ there_is (run_from_call rest begun n)
runs-from_call number words stream rest begun n opens =
    runs-opened (keyed_image number words) stream (plus 12 n) (opened words_page rest begun) opens
    ∙ ap (λ (ts : List Turn). there_is (run_of_turns (opened words_page rest begun) ts)) (turns_from-call rest begun n)

read_off-from_call : {A : Type 0} (what : Run → A) (number : ℕ) (words : List ℕ) (stream : Random) (rest : List ℕ)
    (begun : FirstDraws) (n : ℕ) → opening (keyed_image number words) stream ≡ Ok (opened words_page rest begun)
    → read_off what (keyed_image number words) stream (plus 12 n) ≡ there_is (what (run_from_call rest begun n))
read_off-from_call what number words stream rest begun n opens =
    ap (λ (r : Result Run Lack). result_map_both what (λ (lack : Lack). lack) r)
    (runs-from_call number words stream rest begun n opens)

-- The kernel halts.

halts : {A : Type 0} (what : Run → A) (number n : ℕ) (begun : FirstDraws) → opening (whole_image number) (counted n) ≡
    Ok (opened words_page (behind_boot halt) begun)
    → read_off what (whole_image number) (counted n) 100 ≡ there_is (what (run_from_call (behind_boot halt) begun 88))
halts what number n begun opens =
    read_off-from_call what number (boot ++ halt) (counted n) (behind_boot halt) begun 88 opens

pub halted : seen_of (run_from_call (behind_boot halt) (behind_draw 256) 88) ≡ whole
unfolding joint_runs turns_to_call
halted = refl

whole_size : length (record_of whole.items) ≡ 8355
unfolding exchange.item_bytes
whole_size = length-record_of whole.items
    ∙ rw (cbc_long key draw_1 words_page, cbc_long key draw_2 (with_value_in words_page 0x100 4 7)) refl

pub whole_program : WholeRun
unfolding joint_runs zero_page bundle.bundle_bytes
whole_program = record {
  run = halts seen_of 0 256 (behind_draw 256) refl ∙ ap there_is halted;
  size = whole_size;
  image_size = refl;
  keyed_size = refl;
}

halted_48 : seen_of (run_from_call (behind_boot halt) (behind_draw 48) 88) ≡ whole
unfolding joint_runs turns_to_call
halted_48 = refl

pub three_draws : ThreeDraws
unfolding joint_runs zero_page
three_draws = halts seen_of 0 48 (behind_draw 48) refl ∙ ap there_is halted_48

-- without a draw for the closing
pub two_draws : TwoDraws
unfolding joint_runs turns_to_call zero_page
two_draws = halts seen_of 0 47 (behind_draw 47) refl ∙ refl

-- The same under key 1.

-- what is drawn then: a key more
abbrev behind_other : ℕ → FirstDraws
behind_other n = record {
  keys = keys_for (keyed_program 1 words_page ∷ []) (key ∷ draw_1 ∷ []);
  draw = draw_2;
  stream = handed (drop 48 (numbers_below n));
}

other_halted : seen_of (run_from_call (behind_boot halt) (behind_other 256) 88) ≡
    record whole { items = whole_items other_opening other_closing }
unfolding joint_runs turns_to_call
other_halted = refl

pub other_key : OtherKey
unfolding joint_runs turns_to_call zero_page bundle.bundle_bytes faults.header faults.bundle_fault fields.parts fields.after_parts
other_key = record {
  run = halts seen_of 1 256 (behind_other 256) refl ∙ ap there_is other_halted;
  no_last_draw = halts seen_of 1 48 (behind_other 48) refl ∙ refl;
  no_page_draw = refl;
  no_key = refl;
  no_such_key = refl;
}

-- The kernel resumes the program with another page table.
pub other_root : OtherRoot
unfolding joint_runs turns_to_call zero_page
other_root =
    read_off-from_call seen_of 0 (boot ++ remap_and_resume) (counted 256) (behind_boot remap_and_resume)
    (behind_draw 256) 5 refl ∙ refl

-- The kernel looks into the program's frame, and maybe flips a bit of it.

abbrev loads : List (ℕ × ℕ)
loads = (0x80008100, 7) ∷ []

-- a hart that runs the program again
abbrev pub second_hart : Hart
second_hart = inside_hart 0 (csrs_of 0x80000014 0x00001000 8 0)

-- the page tables of the spaces after the second resume, which records the same one again
abbrev again_root : SpaceId → Option ℕ
again_root = with_space bare_root (record { domain = 0; number = 0 }) (Some 0)

-- the frame showed the page, and the kernel sees these bytes in it
abbrev looked_memory : List ℕ → List ℕ → CloakedMemory
looked_memory rest shown = record {
  ram = ram_of rest shown;
  plain = stored_plain;
  ledger = record {
    keys = one_key;
    stream = handed (drop 48 (numbers_below 256));
    draws = 2;
    recorded = with_page (with_page (λ q. None) page (Some opening_cipher)) page (Some closing_cipher);
    iv = with_page (with_page (λ q. None) page (Some draw_1)) page (Some draw_2);
    owed = replicate 64 None;
    root = again_root;
    missed = false;
    clashed = false;
  };
  marks = None ∷ [];
}

-- after step 18
abbrev pub looked_moment : List ℕ → List ℕ → Moment
looked_moment rest shown =
    at_step 18 (machine second_hart (program_with answered_context loads) (looked_memory rest shown))

look : moment_after 6 (left_moment (behind_boot look_and_resume) (behind_draw 256)) ≡
    looked_moment (behind_boot look_and_resume) closing_cipher
unfolding joint_runs moment_after
look = refl

look_goes_on : goes_on 6 (left_moment (behind_boot look_and_resume) (behind_draw 256)) ≡ true
unfolding joint_runs goes_on
look_goes_on = refl

-- step 19: the fetch is granted, and what it finds is no instruction
abbrev pub look_turn : Turn
look_turn = quiet
    (machine (outside_hart 0x80000014 (replicate 32 0) (csrs_of 0x80000014 0x00001000 2 0))
    (program_with (record answered_context { on = None }) loads)
    (looked_memory (behind_boot look_and_resume) closing_cipher))
    (item.Ok 0 ∷ item.Leave (record { cause = 2; stval = 0; ctx = 0; number = 0; args = replicate 6 0 }) ∷ [])

look_step : joint_step (looked_moment (behind_boot look_and_resume) closing_cipher) ≡ look_turn
unfolding joint_steps fetched_step fetch_granted
look_step = joint_step-of 18 second_hart (program_with answered_context loads) answered_context
    (looked_memory (behind_boot look_and_resume) closing_cipher) look_turn (record {
      told = fetch_granted second_hart (program_with answered_context loads) answered_context
          (looked_memory (behind_boot look_and_resume) closing_cipher);
      asks = refl;
      tells = reach-shown page 0x8000801C Fetch
          (cloak_for second_hart (program_with answered_context loads) answered_context
          (looked_memory (behind_boot look_and_resume) closing_cipher))
          (record { bare = refl; inside = refl; drawn = refl }) (record { owed = refl; owing = refl; shown = refl });
      ends = refl;
    })

look_turns : turns_from 7 (left_moment (behind_boot look_and_resume) (behind_draw 256)) ≡
    first_turns 6 (left_moment (behind_boot look_and_resume) (behind_draw 256)) ++ look_turn ∷ []
unfolding run.turns_from
look_turns =
    turns_from-plus 6 1 (left_moment (behind_boot look_and_resume) (behind_draw 256)) look_goes_on
    ∙ ap (λ (m : Moment). first_turns 6 (left_moment (behind_boot look_and_resume) (behind_draw 256))
    ++ turns_from 1 m) look
    ∙ ap (λ (ts : List Turn). first_turns 6 (left_moment (behind_boot look_and_resume) (behind_draw 256)) ++ ts)
    (turns_from-step 0 (looked_moment (behind_boot look_and_resume) closing_cipher) look_turn look_step refl)

-- the whole run, with these steps after the call
abbrev pub run_with : List ℕ → List Turn → Run
run_with words turns =
    run_of_turns (opened words_page (behind_boot words) (behind_draw 256))
    (turns_to_call (behind_boot words) (behind_draw 256) turns)

pub nothing_flipped : NothingFlipped
unfolding joint_runs first_turns turns_to_call zero_page
nothing_flipped =
    read_off-from_call seen_of 0 (boot ++ look_and_resume) (counted 256) (behind_boot look_and_resume)
    (behind_draw 256) 7 refl
    ∙ ap (λ (ts : List Turn). there_is (seen_of (run_with look_and_resume ts))) look_turns
    ∙ refl

flip : moment_after 6 (left_moment (behind_boot flip_and_resume) (behind_draw 256)) ≡
    looked_moment (behind_boot flip_and_resume) flipped_frame
unfolding joint_runs moment_after
flip = refl

flip_goes_on : goes_on 6 (left_moment (behind_boot flip_and_resume) (behind_draw 256)) ≡ true
unfolding joint_runs goes_on
flip_goes_on = refl

flipped_is_other : bytes_eq flipped_frame closing_cipher ≡ false
flipped_is_other =
    flipped-differs closing_cipher
    (IsBytes-cbc key draw_2 stored_page (IsBytes-computed 16 key refl refl) (IsBytes-computed 16 draw_2 refl refl)
    (IsBytes-computed 4096 stored_page refl refl))

-- the step up to the end of the domain
flip_met : Turn
flip_met = record
    (quiet (machine second_hart (program_with answered_context loads)
    (with_comparison flipped_frame closing_cipher (looked_memory (behind_boot flip_and_resume) flipped_frame)))
    (item.Stopped 0 ∷ [])) {
      violation = Some (violation.Page page (record { 0 = 8 }));
    }

pub flip_turn : Turn
unfolding flip_met
flip_turn = end_domain 0 (program_with answered_context loads) (violation.Page page (record { 0 = 8 })) flip_met

flip_told : Told Answer
unfolding cloak_for
flip_told =
    let before = cloak_for second_hart (program_with answered_context loads) answered_context
    (looked_memory (behind_boot flip_and_resume) flipped_frame) in
    record {
      answer = told.Stopped;
      world = Cloaked (record before {
        memory = with_comparison flipped_frame closing_cipher (looked_memory (behind_boot flip_and_resume) flipped_frame);
        items = item.Stopped 0 ∷ [];
        events = refused_events page 0x8000801C Fetch before;
        violation = Some (violation.Page page (record { 0 = 8 }));
      });
    }

pub flip_step : joint_step (looked_moment (behind_boot flip_and_resume) flipped_frame) ≡ flip_turn
unfolding joint_steps fetched_step flip_told flip_met flip_turn
flip_step = joint_step-of 18 second_hart (program_with answered_context loads) answered_context
    (looked_memory (behind_boot flip_and_resume) flipped_frame) flip_turn (record {
      told = flip_told;
      asks = refl;
      tells = reach-changed page 0x8000801C Fetch
          (cloak_for second_hart (program_with answered_context loads) answered_context
          (looked_memory (behind_boot flip_and_resume) flipped_frame)) (record { bare = refl; inside = refl; drawn = refl })
          (record { last = closing_cipher; owed = refl; owing = refl; shown = refl; other = flipped_is_other });
      ends = refl;
    })

flip_goes_on_too : stop_of flip_turn ≡ None
unfolding joint_steps flip_met flip_turn
flip_goes_on_too = refl

pub flip_turns : turns_from 8 (left_moment (behind_boot flip_and_resume) (behind_draw 256)) ≡
    first_turns 6 (left_moment (behind_boot flip_and_resume) (behind_draw 256)) ++ flip_turn ∷ turns_from 1
    (at_step 19 flip_turn.joint)
flip_turns =
    turns_from-plus 6 2 (left_moment (behind_boot flip_and_resume) (behind_draw 256)) flip_goes_on
    ∙ ap (λ (m : Moment). first_turns 6 (left_moment (behind_boot flip_and_resume) (behind_draw 256))
    ++ turns_from 2 m) flip
    ∙ ap (λ (ts : List Turn). first_turns 6 (left_moment (behind_boot flip_and_resume) (behind_draw 256)) ++ ts)
    (turns_from-step 1 (looked_moment (behind_boot flip_and_resume) flipped_frame) flip_turn flip_step flip_goes_on_too)

-- the step meets the violation
pub flip_turn-meets : flip_turn.violation ≡ Some (violation.Page page (record { 0 = 8 }))
unfolding joint_steps flip_met flip_turn
flip_turn-meets = refl

abbrev pub flip_run : Run
flip_run =
    run_with flip_and_resume
    (first_turns 6 (left_moment (behind_boot flip_and_resume) (behind_draw 256)) ++ flip_turn ∷
    turns_from 1 (at_step 19 flip_turn.joint))

pub flip_runs : joint_run (image (boot ++ flip_and_resume)) (counted 256) 20 ≡ there_is flip_run
unfolding joint_runs zero_page
flip_runs =
    runs-from_call 0 (boot ++ flip_and_resume) (counted 256) (behind_boot flip_and_resume) (behind_draw 256) 8 refl
    ∙ ap (λ (ts : List Turn). there_is (run_with flip_and_resume ts)) flip_turns

pub flip_steps : length flip_run.turns ≡ 20
unfolding joint_runs first_turns turns_to_call zero_page flip_met flip_turn
flip_steps = refl

pub flip_clashes : flip_run.closed.joint.memory.ledger.clashed ≡ is_clash flipped_frame closing_cipher
unfolding joint_runs first_turns turns_to_call zero_page flip_met flip_turn
flip_clashes = refl

pub flipped_bit : FlippedBit
unfolding joint_runs first_turns turns_to_call zero_page flip_met flip_turn
flipped_bit = ap (λ (r : Result Run Lack). result_map_both seen_of (λ (lack : Lack). lack) r) flip_runs ∙ refl

-- The program ends in its third instruction, whose fetch is compared too.

abbrev exit_page : List ℕ
exit_page = page_with exit_words

abbrev exit_rest : List ℕ
exit_rest = behind_boot resume_words

abbrev exit_memory : CloakedMemory
exit_memory = resumed_memory exit_page exit_rest (behind_draw 256)

-- the program at an instruction, with this in x17
abbrev exiting : ℕ → ℕ → Context
exiting pc number = running pc (registers_from 2 (0x80008100 ∷ []) (registers_from 17 (number ∷ []) (replicate 32 0)))

-- a step that only fetches
abbrev exit_turn : Context → Turn
exit_turn c = quiet (machine program_hart (program_with c []) exit_memory) (item.Ok 0 ∷ [])

abbrev exit_moment : ℕ → Context → Moment
exit_moment steps c = at_step steps (machine program_hart (program_with c []) exit_memory)

abbrev granted : Context → Told Answer
granted c = fetch_granted program_hart (program_with c []) c exit_memory

-- the program's page is gone, and its space forgot its page table
abbrev gone_memory : CloakedMemory
gone_memory = record exit_memory {
  plain = λ p. if is_of 0 0 p then zero_page else plain_of exit_page p;
  ledger = record exit_memory.ledger {
    recorded = λ p. if is_of 0 0 p then None else exit_memory.ledger.recorded p;
    iv = λ p. if is_of 0 0 p then None else exit_memory.ledger.iv p;
    root = with_space bare_root (record { domain = 0; number = 0 }) None;
  };
}

abbrev gone_machine : Joint
gone_machine =
    machine (outside_hart 0x80000014 (registers_from 17 (0x4F560007 ∷ []) (replicate 32 0))
    (csrs_of 0x80000014 0x00001000 8 0)) gone_program gone_memory

abbrev gone_turn : Turn
gone_turn = quiet gone_machine (item.Ok 0 ∷ item.Ok 0 ∷ item.Leave shown_exit ∷ [])

exit_first : joint_step (exit_moment 5 started_context) ≡ exit_turn (exiting 0x80008004 0x4F560000)
unfolding joint_steps fetched_step fetch_granted
exit_first =
    joint_step-of 5 program_hart (program_with started_context []) started_context exit_memory
    (exit_turn (exiting 0x80008004 0x4F560000)) (record {
      told = granted started_context;
      asks = refl;
      tells = reach-shown page 0x80008000 Fetch
          (cloak_for program_hart (program_with started_context []) started_context exit_memory)
          (record { bare = refl; inside = refl; drawn = refl }) (record { owed = refl; owing = refl; shown = refl });
      ends = refl;
    })

exit_second : joint_step (exit_moment 6 (exiting 0x80008004 0x4F560000)) ≡ exit_turn (exiting 0x80008008 0x4F560007)
unfolding joint_steps fetched_step fetch_granted
exit_second = let c = exiting 0x80008004 0x4F560000 in
    joint_step-of 6 program_hart (program_with c []) c exit_memory (exit_turn (exiting 0x80008008 0x4F560007)) (record {
      told = granted c;
      asks = refl;
      tells = reach-shown page 0x80008004 Fetch (cloak_for program_hart (program_with c []) c exit_memory)
          (record { bare = refl; inside = refl; drawn = refl }) (record { owed = refl; owing = refl; shown = refl });
      ends = refl;
    })

exit_third : joint_step (exit_moment 7 (exiting 0x80008008 0x4F560007)) ≡ gone_turn
unfolding joint_steps fetched_step fetch_granted
exit_third = let c = exiting 0x80008008 0x4F560007 in
    joint_step-of 7 program_hart (program_with c []) c exit_memory gone_turn (record {
      told = granted c;
      asks = refl;
      tells = reach-shown page 0x80008008 Fetch (cloak_for program_hart (program_with c []) c exit_memory)
          (record { bare = refl; inside = refl; drawn = refl }) (record { owed = refl; owing = refl; shown = refl });
      ends = refl;
    })

abbrev gone_moment : Moment
gone_moment = at_step 8 gone_machine

exit_turns : turns_from 6 (exit_moment 5 started_context) ≡ exit_turn (exiting 0x80008004 0x4F560000) ∷
    exit_turn (exiting 0x80008008 0x4F560007) ∷ gone_turn ∷ turns_from 3 gone_moment
exit_turns =
    turns_from-step 5 (exit_moment 5 started_context) (exit_turn (exiting 0x80008004 0x4F560000)) exit_first refl
    ∙ ap (λ (ts : List Turn). exit_turn (exiting 0x80008004 0x4F560000) ∷ ts)
    (turns_from-step 4 (exit_moment 6 (exiting 0x80008004 0x4F560000))
    (exit_turn (exiting 0x80008008 0x4F560007)) exit_second refl)
    ∙ ap (λ (ts : List Turn). exit_turn (exiting 0x80008004 0x4F560000) ∷ exit_turn (exiting 0x80008008 0x4F560007) ∷
    ts) (turns_from-step 3 (exit_moment 7 (exiting 0x80008008 0x4F560007)) gone_turn exit_third refl)

abbrev exit_run : List Turn → Run
exit_run turns = run_of_turns (opened exit_page exit_rest (behind_draw 256)) turns

exit_opens : seen (image_of 1 (0 ∷ []) (boot ++ resume_words) exit_words) (counted 256) 11 ≡
    there_is (seen_of (exit_run (turns_from 11 (opened_moment exit_page exit_rest (behind_draw 256)))))
unfolding joint_runs zero_page
exit_opens = refl

exit_all : turns_from 11 (opened_moment exit_page exit_rest (behind_draw 256)) ≡
    first_turns 5 (opened_moment exit_page exit_rest (behind_draw 256))
    ++ (exit_turn (exiting 0x80008004 0x4F560000) ∷ exit_turn (exiting 0x80008008 0x4F560007) ∷ gone_turn ∷
    turns_from 3 gone_moment)
exit_all =
    turns_from-boot exit_page exit_rest (behind_draw 256) 6
    ∙ ap (λ (ts : List Turn). first_turns 5 (opened_moment exit_page exit_rest (behind_draw 256)) ++ ts) exit_turns

pub after_exit : AfterExit
unfolding joint_runs first_turns
after_exit = exit_opens ∙ ap (λ (ts : List Turn). there_is (seen_of (exit_run ts))) exit_all ∙ refl
