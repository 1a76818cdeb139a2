-- Premises of laws, met by worked runs.
use Rattle.std.proofs.Common.{◌≡◌, ◌<◌, ℕ, refl, true, false, List, [], ◌∷◌, ◌++◌, length, take, replicate, All, nat_lt, leb, slice_get, Some, None, is_some, Ok, inl, arith, ◌∙◌, ap}
use Rattle.std.specs.List.{flat_map, list_all, sum_by}
use Rattle.std.specs.Result.{result_unwrap_or}
use Rattle.std.proofs.lemmas.Bool.{leb-true, ltb-true}
use Rattle.std.proofs.lemmas.List.Elements.{All-nil, All-cons}
use Rattle.aes_block.specs.Bytes.{IsBytes}
use Rattle.cloak_base.specs.Constants.{largest_bundle}
use Rattle.cloak_base.specs.Pages.{zero_page}
use Rattle.cloak_base.specs.Random.{numbered}
use Rattle.cloak_base.specs.declared.causes.Stop.TheVariants as stop
use Rattle.cloak_base.specs.declared.causes.Violation.{Violation}
use Rattle.cloak_base.specs.declared.causes.Violation.TheVariants as violation
use Rattle.cloak_model.specs.declared.image.Bundle.{Bundle}
use Rattle.cloak_model.specs.Items as item
use Rattle.cloak_model.specs.Beginning as begins
use Rattle.cloak_model.specs.Beginning.{Fresh, AreContents, stored_keys}
use Rattle.cloak_model.specs.Bits.{word}
use Rattle.cloak_model.specs.Bundle.{IsKernelImage, IsInGrammar, bundle_bytes}
use Rattle.cloak_model.specs.Cloaking.{is_clash, owed_in}
use Rattle.cloak_model.specs.Exchange.{item_bytes, steps_items}
use Rattle.cloak_model.specs.Joint.{Moment, Turn, joint_step}
use Rattle.cloak_model.specs.Ledger.{Keys}
use Rattle.cloak_model.specs.Opening.{numbers_below, opening}
use Rattle.cloak_model.specs.RecordFault.{magic_fault}
use Rattle.cloak_model.specs.Run.{Run, run_from, turns_from, last_stop}
use Rattle.cloak_model.specs.StoredFiles.{FileContents, IsMetaIfKnown, IsFile, IsSealedIfShown, HasSealedPages, meta_of, stored_file, table_of, page_count}
use Rattle.cloak_model.specs.StoredRun as leaving
use Rattle.frozen_state.specs.FrozenState as state
use Rattle.frozen_state.specs.FrozenState.{frozen_of}
use Rattle.kernel_isolation.specs.Isolation.{joint_until}
use Rattle.range_law.specs.Writing.{AreBytes, IsOfBytes, IsStoredOfBytes}
use Rattle.worked_rows.specs.Images.{boot, halt, flip_and_resume, remap_and_resume, resume_words, resume_third, letter_words, program_words, words_page, kernel_of, image, image_of, lone_image}
use Rattle.worked_rows.specs.JointRuns.{counted, key, draw_1, draw_2, draw_3}
use Rattle.worked_rows.specs.JointRows.{whole_image, opening_cipher, closing_cipher, flipped_frame}
use Rattle.worked_rows.specs.PremiseRows.{MeetsPremises, NoClash, context_at_step, loads_until, WholePremises, OneHalf, SmallestPremises, kept_page, kept_files, over_files, StoredPremises, reserving_kernel, HartPremises, MeetsViolation, Violations, met_after, RecordPremises}
use Rattle.worked_rows.proofs.Ciphers.{IsBytes-computed}
use Rattle.worked_rows.proofs.Computing.{joint_runs}
use Rattle.worked_rows.proofs.JointRows.{opened, behind_boot, behind_draw, run_from_call, runs-from_call, halted, looked_moment, flip_turn-meets, flip_step, flip_run, flip_runs, flip_steps, flip_clashes}
use Rattle.worked_rows.proofs.Meeting.{kernel_in, lone_in, image_in, have_bytes, are_bytes, lone_bytes, image_bytes, IsBytes-sha256, is-ok}
use Rattle.worked_rows.proofs.Turns.{first_turns}
use Rattle.worked_rows.proofs.Whole.{FirstDraws, page, left_moment, turns_to_call, turns_from-call}

-- The whole program.

abbrev rest : List ℕ
rest = behind_boot halt

abbrev begun : FirstDraws
begun = behind_draw 256

abbrev whole_run : Run
whole_run = run_from_call rest begun 88

whole_opens : opening (whole_image 0) (counted 256) ≡ Ok (opened words_page rest begun)
unfolding joint_runs zero_page
whole_opens = refl

whole_in : IsInGrammar (whole_image 0)
unfolding bundle_bytes
whole_in =
    image_in 1 (0 ∷ []) (boot ++ halt) words_page (kernel_in 1 (0 ∷ []) (boot ++ halt) refl refl refl refl) refl refl

whole_no_clash : NoClash whole_run
unfolding joint_runs turns_to_call
whole_no_clash = refl

-- 256 bytes that are counted
bytes_256 : AreBytes (numbers_below 256)
bytes_256 = are_bytes (numbers_below 256) refl

whole_meets : MeetsPremises (whole_image 0) (Fresh (counted 256)) 100 whole_run
whole_meets = record {
  in_grammar = whole_in;
  image_bytes = image_bytes 1 (0 ∷ []) (boot ++ halt) words_page refl refl;
  beginning_bytes = bytes_256;
  beginning = tt;
  few_steps = omega arith;
  runs = runs-from_call 0 (boot ++ halt) (counted 256) rest begun 88 whole_opens;
}

-- of the moments of its run
record Moments : Type 0 where
  first_shown : slice_get whole_run.opened.items 0 ≡ Some (item.Cipher 8 opening_cipher)
  last_shown : slice_get whole_run.closed.items 0 ≡ Some (item.Cipher 8 closing_cipher)
  kernel_step : context_at_step (whole_image 0) whole_run 0 ≡ None
  program_step : context_at_step (whole_image 0) whole_run 7 ≡ Some 0
  root : (joint_until 5 whole_run).memory.ledger.root (record { domain = 0; number = 0 }) ≡ Some 0
  recorded : (joint_until 5 whole_run).memory.ledger.recorded page ≡ Some opening_cipher
  vector : (joint_until 5 whole_run).memory.ledger.iv page ≡ Some draw_1
  none_owed : (joint_until 5 whole_run).memory.ledger.owed ≡ replicate 64 None
  no_load : loads_until 7 whole_run ≡ [] ∷ []
  one_load : loads_until 8 whole_run ≡ ((0x80008100, 7) ∷ []) ∷ []
  owed : owed_in (joint_until 12 whole_run).memory 8 ≡ Some page
  goes_on : last_stop None (take 12 whole_run.turns) ≡ None
  no_clash_yet : (joint_until 12 whole_run).memory.ledger.clashed ≡ false

moments : Moments
unfolding joint_runs turns_to_call
moments = record {
  first_shown = refl;
  last_shown = refl;
  kernel_step = refl;
  program_step = refl;
  root = refl;
  recorded = refl;
  vector = refl;
  none_owed = refl;
  no_load = refl;
  one_load = refl;
  owed = refl;
  goes_on = refl;
  no_clash_yet = refl;
}

is_frozen : is_some (frozen_of (joint_until 12 whole_run) 12 (counted 256)) ≡ true
unfolding joint_runs turns_to_call state.frozen_of state.domains_from state.frames_from
is_frozen = refl

-- by the steps behind the call
call_goes_on : last_stop None (turns_to_call rest begun (turns_from 0 (left_moment rest begun))) ≡ None
unfolding joint_runs turns_to_call
call_goes_on = refl

halt_stops : last_stop None (turns_to_call rest begun (turns_from 2 (left_moment rest begun))) ≡ Some (stop.Halt 7)
unfolding joint_runs turns_to_call
halt_stops = refl

pub whole_premises : WholePremises
whole_premises = record {
  run = whole_run;
  meets = whole_meets;
  no_clash = whole_no_clash;
  seen = halted;
  program = refl;
  first_shown = moments.first_shown;
  last_shown = moments.last_shown;
  kernel_step = moments.kernel_step;
  program_step = moments.program_step;
  root = moments.root;
  recorded = moments.recorded;
  vector = moments.vector;
  none_owed = moments.none_owed;
  no_load = moments.no_load;
  one_load = moments.one_load;
  owed = moments.owed;
  goes_on = moments.goes_on;
  no_clash_yet = moments.no_clash_yet;
  frozen = is_frozen;
  first_part = ap (λ (ts : List Turn). last_stop None ts) (turns_from-call rest begun 0) ∙ call_goes_on;
  stopped = ap (λ (ts : List Turn). last_stop None ts) (turns_from-call rest begun 2) ∙ halt_stops;
}

pub one_half : OneHalf
one_half = refl

-- The smallest run.

abbrev smallest_run : Run
smallest_run = result_unwrap_or (run_from (lone_image letter_words) (Fresh (numbered 0)) 10) whole_run

pub smallest_premises : SmallestPremises
unfolding joint_runs zero_page bundle_bytes
smallest_premises = record {
  run = smallest_run;
  meets = record {
    in_grammar = lone_in letter_words refl refl;
    image_bytes = lone_bytes letter_words refl;
    beginning_bytes = tt;
    beginning = tt;
    few_steps = omega arith;
    runs = is-ok (run_from (lone_image letter_words) (Fresh (numbered 0)) 10) whole_run refl;
  };
  no_clash = refl;
  seen = refl;
}

-- Over files.

-- sixteen bytes
sixteen : (xs : List ℕ) → length xs ≡ 16 → list_all (λ b. nat_lt b 256) xs ≡ true → IsBytes 16 xs
sixteen xs long low = IsBytes-computed 16 xs long low

kept_keys : All (IsBytes 16) (key ∷ draw_1 ∷ draw_2 ∷ draw_3 ∷ [])
kept_keys =
    All-cons (IsBytes 16) key (draw_1 ∷ draw_2 ∷ draw_3 ∷ []) (sixteen key refl refl)
    (All-cons (IsBytes 16) draw_1 (draw_2 ∷ draw_3 ∷ []) (sixteen draw_1 refl refl)
    (All-cons (IsBytes 16) draw_2 (draw_3 ∷ []) (sixteen draw_2 refl refl)
    (All-cons (IsBytes 16) draw_3 [] (sixteen draw_3 refl refl) (All-nil (IsBytes 16)))))

abbrev kept_file : FileContents
kept_file = record { domain = 0; number = 4; pages = Some kept_page ∷ None ∷ [] }

kept_is_file : IsFile (stored_file kept_file)
kept_is_file = record {
  domain = omega arith;
  number = omega arith;
  some_pages = leb-true 1 (length (stored_file kept_file).pages) refl;
  few_pages = leb-true (length (stored_file kept_file).pages) 1024 refl;
  pages =
      All-cons IsMetaIfKnown (Some (meta_of kept_page)) (None ∷ [])
      (record { iv = sixteen kept_page.iv refl refl; digest = IsBytes-sha256 kept_page.cipher })
      (All-cons IsMetaIfKnown None [] tt (All-nil IsMetaIfKnown));
}

abbrev files_keys : Keys
files_keys = stored_keys (whole_image 0) (key ∷ draw_1 ∷ draw_2 ∷ draw_3 ∷ [])

kept_contents : AreContents files_keys kept_files
kept_contents = record {
  table = record {
    few = leb-true (length (table_of kept_files)) 64 refl;
    each = All-cons IsFile (stored_file kept_file) [] kept_is_file (All-nil IsFile);
    few_pages = leb-true (sum_by page_count (table_of kept_files)) 4096 refl;
    rise = tt;
  };
  sealed =
      All-cons (HasSealedPages files_keys) kept_file []
      (All-cons (IsSealedIfShown key) (Some kept_page) (None ∷ [])
      (record { plain = IsBytes-computed 4096 kept_page.plain refl refl; cipher = refl })
      (All-cons (IsSealedIfShown key) None [] tt (All-nil (IsSealedIfShown key))))
      (All-nil (HasSealedPages files_keys));
}

stored_bytes : IsStoredOfBytes (whole_image 0) (key ∷ draw_1 ∷ draw_2 ∷ draw_3 ∷ []) (counted 256) kept_files
stored_bytes = record {
  four_keys = record { four = refl; whole = kept_keys };
  bytes = bytes_256;
  contents = kept_contents;
}

abbrev stored_run : Run
stored_run = result_unwrap_or (run_from (whole_image 0) over_files 5) whole_run

-- names that open how a run begins over files, and what it leaves
unfoldable over_runs : Unit {0}
unfolding
    joint_runs begins.with_contents begins.file_given begins.file_added begins.files_added
    begins.opened_over begins.opening_stored leaving.files_in leaving.contents_from
over_runs = tt

pub stored_premises : StoredPremises
unfolding over_runs zero_page
stored_premises = record {
  run = stored_run;
  meets = record {
    in_grammar = whole_in;
    image_bytes = whole_meets.image_bytes;
    beginning_bytes = stored_bytes;
    beginning = kept_contents;
    few_steps = omega arith;
    runs = is-ok (run_from (whole_image 0) over_files 5) whole_run refl;
  };
  no_clash = refl;
  ends = refl;
  held = refl;
  leaves = refl;
}

-- A hart reserves.

abbrev reserving_run : Run
reserving_run = result_unwrap_or (run_from (lone_image reserving_kernel) (Fresh (counted 256)) 5) whole_run

pub hart_premises : HartPremises
unfolding joint_runs zero_page bundle_bytes
hart_premises = record {
  run = reserving_run;
  meets = record {
    in_grammar = lone_in reserving_kernel refl refl;
    image_bytes = lone_bytes reserving_kernel refl;
    beginning_bytes = bytes_256;
    beginning = tt;
    few_steps = omega arith;
    runs = is-ok (run_from (lone_image reserving_kernel) (Fresh (counted 256)) 5) whole_run refl;
  };
  no_clash = refl;
  reserved = refl;
  stands = refl;
  stored = refl;
}

-- Violations.

-- a kernel of these words, with the program
one_hart_in : (words : List ℕ) → IsKernelImage (kernel_of 1 (0 ∷ []) words) →
    leb (length (bundle_bytes 1 (image words))) largest_bundle ≡ true → IsInGrammar (image words)
one_hart_in words kernel small = image_in 1 (0 ∷ []) words words_page kernel refl small

one_hart_bytes : (words : List ℕ) → have_bytes (flat_map word words) ≡ true → IsOfBytes (image words)
one_hart_bytes words low = image_bytes 1 (0 ∷ []) words words_page low refl

-- the machine after 18 steps of the run in which a bit was flipped
flip_moment : record { schedule = 0 ∷ []; steps = 18; joint = joint_until 18 flip_run } ≡
    looked_moment (behind_boot flip_and_resume) flipped_frame
unfolding joint_runs turns_to_call first_turns
flip_moment = refl

abbrev flip_words : List ℕ
flip_words = boot ++ flip_and_resume

abbrev flip_violation : Violation
flip_violation = violation.Page page (record { 0 = 8 })

flip_is_met : met_after (image flip_words) flip_run 18 ≡ Some flip_violation
flip_is_met =
    ap (λ (m : Moment). (joint_step m).violation) flip_moment
    ∙ ap (λ (t : Turn). t.violation) flip_step
    ∙ flip_turn-meets

flip_in : IsInGrammar (image flip_words)
unfolding bundle_bytes
flip_in = one_hart_in flip_words (kernel_in 1 (0 ∷ []) flip_words refl refl refl refl) refl

bit_met : MeetsViolation (image flip_words) 20 18 flip_violation (is_clash flipped_frame closing_cipher)
bit_met = record {
  run = flip_run;
  meets = record {
    in_grammar = flip_in;
    image_bytes = one_hart_bytes flip_words refl;
    beginning_bytes = bytes_256;
    beginning = tt;
    few_steps = omega arith;
    runs = flip_runs;
  };
  clashes = flip_clashes;
  within = omega (arith, flip_steps);
  met = flip_is_met;
}

abbrev remap_words : List ℕ
remap_words = boot ++ remap_and_resume

abbrev remap_rest : List ℕ
remap_rest = behind_boot remap_and_resume

abbrev remap_run : Run
remap_run = run_from_call remap_rest begun 5

remap_opens : opening (image remap_words) (counted 256) ≡ Ok (opened words_page remap_rest begun)
unfolding joint_runs zero_page
remap_opens = refl

remap_in : IsInGrammar (image remap_words)
unfolding bundle_bytes
remap_in = one_hart_in remap_words (kernel_in 1 (0 ∷ []) remap_words refl refl refl refl) refl

-- of its steps
record Remaps : Type 0 where
  no_clash : NoClash remap_run
  within : 15 < length remap_run.turns
  met : met_after (image remap_words) remap_run 15 ≡ Some (violation.Mapping 0 0x00400000)

remaps : Remaps
unfolding joint_runs turns_to_call
remaps = record { no_clash = refl; within = ltb-true 15 (length remap_run.turns) refl; met = refl }

table_met : MeetsViolation (image remap_words) 17 15 (violation.Mapping 0 0x00400000) false
table_met = record {
  run = remap_run;
  meets = record {
    in_grammar = remap_in;
    image_bytes = one_hart_bytes remap_words refl;
    beginning_bytes = bytes_256;
    beginning = tt;
    few_steps = omega arith;
    runs = runs-from_call 0 remap_words (counted 256) remap_rest begun 5 remap_opens;
  };
  clashes = remaps.no_clash;
  within = remaps.within;
  met = remaps.met;
}

abbrev third_run : Run
third_run = result_unwrap_or (run_from (image resume_third) (Fresh (counted 256)) 3) whole_run

context_met : MeetsViolation (image resume_third) 3 2 (violation.Context 3) false
unfolding joint_runs zero_page bundle_bytes
context_met = record {
  run = third_run;
  meets = record {
    in_grammar = one_hart_in resume_third (kernel_in 1 (0 ∷ []) resume_third refl refl refl refl) refl;
    image_bytes = one_hart_bytes resume_third refl;
    beginning_bytes = bytes_256;
    beginning = tt;
    few_steps = omega arith;
    runs = is-ok (run_from (image resume_third) (Fresh (counted 256)) 3) whole_run refl;
  };
  clashes = refl;
  within = ltb-true 2 (length third_run.turns) refl;
  met = refl;
}

abbrev two_harts : Bundle
two_harts = image_of 2 (0 ∷ 1 ∷ []) (boot ++ halt) program_words

abbrev two_harts_run : Run
two_harts_run = result_unwrap_or (run_from two_harts (Fresh (counted 256)) 11) whole_run

two_harts_met : MeetsViolation two_harts 11 9 (violation.Context 0) false
unfolding joint_runs zero_page bundle_bytes
two_harts_met = record {
  run = two_harts_run;
  meets = record {
    in_grammar =
        image_in 2 (0 ∷ 1 ∷ []) (boot ++ halt) words_page
        (kernel_in 2 (0 ∷ 1 ∷ []) (boot ++ halt) refl refl refl refl) refl refl;
    image_bytes = image_bytes 2 (0 ∷ 1 ∷ []) (boot ++ halt) words_page refl refl;
    beginning_bytes = bytes_256;
    beginning = tt;
    few_steps = omega arith;
    runs = is-ok (run_from two_harts (Fresh (counted 256)) 11) whole_run refl;
  };
  clashes = refl;
  within = ltb-true 9 (length two_harts_run.turns) refl;
  met = refl;
}

abbrev no_program_run : Run
no_program_run = result_unwrap_or (run_from (lone_image resume_words) (Fresh (counted 256)) 2) whole_run

no_program_met : MeetsViolation (lone_image resume_words) 2 1 (violation.Context 0) false
unfolding joint_runs zero_page bundle_bytes
no_program_met = record {
  run = no_program_run;
  meets = record {
    in_grammar = lone_in resume_words refl refl;
    image_bytes = lone_bytes resume_words refl;
    beginning_bytes = bytes_256;
    beginning = tt;
    few_steps = omega arith;
    runs = is-ok (run_from (lone_image resume_words) (Fresh (counted 256)) 2) whole_run refl;
  };
  clashes = refl;
  within = ltb-true 1 (length no_program_run.turns) refl;
  met = refl;
}

pub all_met : Violations
all_met = record {
  other_bit = bit_met;
  other_table = table_met;
  no_context = context_met;
  two_harts = two_harts_met;
  no_program = no_program_met;
}

-- Records.

pub record_premises : RecordPremises
unfolding steps_items item_bytes magic_fault
record_premises = record {
  is_record = record {
    spells = refl;
    fields = (omega arith, (omega arith, (omega arith, (omega arith, (omega arith, (tt, tt))))));
    exchange = record {
      opening = [];
      steps = [] ∷ [] ∷ [] ∷ [] ∷ [];
      closing = [];
      order = refl;
      opening_ciphers = tt;
      of_steps = (tt, (tt, (tt, (tt, tt))));
      closing_ciphers = tt;
    };
  };
  has_fault = inl refl;
}
