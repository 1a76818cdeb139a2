-- A program that reserves a word of its own with LR and stores it with SC: behind a store, in whose step the frame is
-- compared, the frame is owed the page, and nothing more is compared.
use Rattle.std.proofs.Common.{◌≡◌, ℕ, refl, List, [], ◌∷◌, ◌++◌, Some, None, Ok, arith, ◌∙◌, ap}
use Rattle.cloak_base.specs.Pages.{zero_page, with_page}
use Rattle.cloak_base.specs.declared.names.Kind.TheVariants.{Fetch, Store}
use Rattle.cloak_model.specs.declared.answer.Answer.{Answer}
use Rattle.cloak_model.specs.declared.answer.Answer.TheVariants as told
use Rattle.cloak_model.specs.Items as item
use Rattle.cloak_model.specs.Beginning.{Fresh}
use Rattle.cloak_model.specs.Bundle.{IsInGrammar, bundle_bytes}
use Rattle.cloak_model.specs.Cloaking.{CloakedMemory}
use Rattle.cloak_model.specs.Contexts.{Context}
use Rattle.cloak_model.specs.DomainState.{Domain}
use Rattle.cloak_model.proofs.InsideParts.{store_reached}
use Rattle.cloak_model.specs.Joint.{Turn, joint_step, quiet}
use Rattle.cloak_model.specs.Memory.{with_value_in}
use Rattle.cloak_model.specs.Opening.{opening, numbers_below}
use Rattle.cloak_model.specs.Run.{Run, run_from, run_of_turns, turns_from}
use Rattle.cloak_model.specs.World.{MidStep, Cloaked}
use Rattle.cloak_model.specs.Asking.{Told}
use Rattle.cloak_model.specs.AskPages.{ask_reach}
use Rattle.kernel_isolation.specs.Isolation.{joint_until}
use Rattle.worked_rows.specs.Images.{boot, halt, page_with}
use Rattle.worked_rows.specs.Runs.{running}
use Rattle.worked_rows.specs.JointRuns.{counted}
use Rattle.worked_rows.specs.JointRows.{program_with, started_context}
use Rattle.worked_rows.specs.PremiseRows.{reserving_words, reserving_program, reserving_context, reserved_place, context_at_step, told_in, word_until, NoClash, ContextPremises}
use Rattle.worked_rows.proofs.Computing.{joint_steps, told_steps, joint_runs}
use Rattle.worked_rows.proofs.JointRows.{behind_boot, behind_draw, opened, runs-opened}
use Rattle.worked_rows.proofs.Meeting.{kernel_in, image_in, are_bytes, image_bytes}
use Rattle.worked_rows.proofs.Offers.{granted_events, reach-shown}
use Rattle.worked_rows.proofs.Turns.{first_turns, turns_from-step}
use Rattle.worked_rows.proofs.Whole.{FirstDraws, page, memory_of, plain_of, bare_root, owed_page, resumed_memory, program_hart, machine, at_step, opened_moment, resumed_moment, rest_of_step, fetched_step, cloak_for, fetch_granted, joint_step-of, turns_from-boot}

abbrev bytes : List ℕ
bytes = page_with reserving_words

abbrev rest : List ℕ
rest = behind_boot halt

abbrev begun : FirstDraws
begun = behind_draw 256

abbrev first_domain : Domain
first_domain = program_with started_context []

abbrev before_store : CloakedMemory
before_store = resumed_memory bytes rest begun

-- The store.

abbrev stored_context : Context
stored_context = running 0x80008004 started_context.regs

abbrev zero_stored : CloakedMemory
zero_stored =
    memory_of bytes rest begun bare_root (with_page (plain_of bytes) page (with_value_in bytes 0x100 4 0)) owed_page

abbrev store_turn : Turn
store_turn =
    quiet (machine program_hart (program_with stored_context []) zero_stored) (item.Ok 0 ∷ item.Ok 0 ∷ [])

-- by what its reaching of the page is told
store_step : Told Answer → Turn
unfolding told_steps
store_step told =
    rest_of_step program_hart first_domain before_store
    (store_reached started_context page 0x80008100 4 0 told.answer) told.world

-- the memory as it asks for that, and as it was granted
storing : MidStep
unfolding cloak_for
storing =
    let before = cloak_for program_hart first_domain started_context before_store in
    record before { items = item.Ok 0 ∷ []; events = granted_events page 0x80008000 Fetch before }

store_granted : Told Answer
unfolding storing
store_granted = record {
  answer = told.Ok;
  world = Cloaked (record storing {
    memory = memory_of bytes rest begun bare_root (plain_of bytes) owed_page;
    items = item.Ok 0 ∷ item.Ok 0 ∷ [];
    events = granted_events page 0x80008100 Store storing;
  });
}

store_asks : fetched_step program_hart first_domain started_context before_store
    (fetch_granted program_hart first_domain started_context before_store)
    ≡ store_step (ask_reach page 0x80008100 Store (Cloaked storing))
unfolding joint_steps fetched_step fetch_granted store_step storing
store_asks = refl

store_tells : ask_reach page 0x80008100 Store (Cloaked storing) ≡ store_granted
unfolding joint_steps store_granted
store_tells =
    reach-shown page 0x80008100 Store storing (record { bare = refl; inside = refl; drawn = refl })
    (record { owed = refl; owing = refl; shown = refl })

store_ends : store_step store_granted ≡ store_turn
unfolding joint_steps store_step store_granted
store_ends = refl

store_made : joint_step (resumed_moment bytes rest begun) ≡ store_turn
unfolding joint_steps fetched_step fetch_granted
store_made =
    joint_step-of 5 program_hart first_domain started_context before_store store_turn (record {
      told = fetch_granted program_hart first_domain started_context before_store;
      asks = refl;
      tells = reach-shown page 0x80008000 Fetch (cloak_for program_hart first_domain started_context before_store)
          (record { bare = refl; inside = refl; drawn = refl }) (record { owed = refl; owing = refl; shown = refl });
      ends = store_asks ∙ ap store_step store_tells ∙ store_ends;
    })

-- The run.

abbrev all_turns : List Turn
all_turns = first_turns 5 (opened_moment bytes rest begun) ++ (store_turn ∷ turns_from 5 (at_step 6 store_turn.joint))

turns_made : turns_from 11 (opened_moment bytes rest begun) ≡ all_turns
turns_made =
    turns_from-boot bytes rest begun 6
    ∙ ap (λ (ts : List Turn). first_turns 5 (opened_moment bytes rest begun) ++ ts)
    (turns_from-step 5 (resumed_moment bytes rest begun) store_turn store_made refl)

abbrev reserving_run : Run
reserving_run = run_of_turns (opened bytes rest begun) all_turns

opens : opening reserving_program (counted 256) ≡ Ok (opened bytes rest begun)
unfolding joint_runs zero_page
opens = refl

reserving_runs : run_from reserving_program (Fresh (counted 256)) 11 ≡ Ok reserving_run
reserving_runs =
    runs-opened reserving_program (counted 256) 11 (opened bytes rest begun) opens
    ∙ ap (λ (ts : List Turn). Ok (run_of_turns (opened bytes rest begun) ts)) turns_made

in_grammar : IsInGrammar reserving_program
unfolding bundle_bytes
in_grammar =
    image_in 1 (0 ∷ []) (boot ++ halt) bytes (kernel_in 1 (0 ∷ []) (boot ++ halt) refl refl refl refl) refl refl

-- what its steps leave
record Left : Type 0 where
  no_clash : NoClash reserving_run
  reserved : (joint_until 9 reserving_run).domains ≡
      program_with (reserving_context 0x80008010 0 (Some reserved_place)) ((0x80008100, 0) ∷ []) ∷ []
  program_step : context_at_step reserving_program reserving_run 9 ≡ Some 0
  granted : told_in 9 reserving_run ≡ Some (item.Ok 0 ∷ item.Ok 0 ∷ [])
  conditional : (joint_until 10 reserving_run).domains ≡
      program_with (reserving_context 0x80008014 0 None) ((0x80008100, 0) ∷ []) ∷ []
  stored : word_until 10 reserving_run ≡ 9
  combined : (joint_until 11 reserving_run).domains ≡
      program_with (reserving_context 0x80008018 9 None) ((0x80008100, 0) ∷ (0x80008100, 9) ∷ []) ∷ []
  added : word_until 11 reserving_run ≡ 18

left : Left
unfolding joint_runs first_turns
left = record {
  no_clash = refl;
  reserved = refl;
  program_step = refl;
  granted = refl;
  conditional = refl;
  stored = refl;
  combined = refl;
  added = refl;
}

pub context_premises : ContextPremises
context_premises = record {
  run = reserving_run;
  meets = record {
    in_grammar = in_grammar;
    image_bytes = image_bytes 1 (0 ∷ []) (boot ++ halt) bytes refl refl;
    beginning_bytes = are_bytes (numbers_below 256) refl;
    beginning = tt;
    few_steps = omega arith;
    runs = reserving_runs;
  };
  no_clash = left.no_clash;
  reserved = left.reserved;
  program_step = left.program_step;
  granted = left.granted;
  conditional = left.conditional;
  stored = left.stored;
  combined = left.combined;
  added = left.added;
}
