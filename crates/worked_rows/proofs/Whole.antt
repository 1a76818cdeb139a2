-- The steps that several rows share: the kernel's boot, and the program up to its call. They are the same whatever
-- stands after the boot, and for all keys, draws and rests of the stream.
use Rattle.std.proofs.Common.{◌≡◌, ℕ, refl, true, false, List, [], ◌∷◌, ◌++◌, Option, Some, None, ◌∙◌, ap}
use Rattle.std.specs.Prelude.{replicate}
use Rattle.std.specs.List.{flat_map}
use Rattle.cloak_base.specs.Pages.{with_page}
use Rattle.cloak_base.specs.Random.{Random}
use Rattle.cloak_base.specs.declared.names.Kind.TheVariants.{Fetch, Store}
use Rattle.cloak_base.specs.declared.names.PageId.{PageId}
use Rattle.cloak_base.specs.declared.names.SpaceId.{SpaceId}
use Rattle.cloak_model.specs.declared.answer.Answer.{Answer}
use Rattle.cloak_model.specs.declared.answer.Answer.TheVariants as told
use Rattle.cloak_model.specs.Items as item
use Rattle.cloak_model.specs.Bits.{word}
use Rattle.cloak_base.specs.Pages.{zero_page}
use Rattle.cloak_model.specs.Chain.{cbc}
use Rattle.cloak_model.specs.Memory.{with_value_in}
use Rattle.cloak_model.specs.Cloaking.{CloakedMemory}
use Rattle.cloak_model.specs.Hart.{Hart}
use Rattle.cloak_model.specs.Ledger.{Keys, key_in}
use Rattle.cloak_model.specs.Contexts.{Context, with_space}
use Rattle.cloak_model.specs.DomainState.{Domain}
use Rattle.cloak_model.specs.DomainStep.{after_write, instruction_ended}
use Rattle.cloak_model.proofs.InsideParts.{fetched_inside, store_reached}
use Rattle.cloak_model.specs.World.{World, MidStep, Cloaked}
use Rattle.cloak_model.specs.Asking.{Told}
use Rattle.cloak_model.specs.AskPages.{ask_reach}
use Rattle.cloak_model.specs.Parts.{Joint}
use Rattle.cloak_model.specs.Joint.{answers_violation, Moment, Turn, joint_step, quiet, after_domain_step, cloak_of, pages_for}
use Rattle.cloak_model.specs.Run.{turns_from}
use Rattle.cloak_model.specs.InsideStep.{AfterInstruction}
use Rattle.cloak_model.specs.Script.{Script, Gives, played, ◌>>=◌}
use Rattle.worked_rows.specs.Images.{boot, words_page}
use Rattle.worked_rows.specs.Runs.{running, registers_from}
use Rattle.worked_rows.specs.JointRuns.{csrs_of, outside_hart, inside_hart}
use Rattle.worked_rows.specs.JointRows.{program_resources, program_with, program_at_call, called_hart, started_context, not_started}
use Rattle.worked_rows.proofs.Computing.{joint_steps, told_steps, joint_runs}
use Rattle.worked_rows.proofs.Offers.{granted_events, reach-shown}
use Rattle.worked_rows.proofs.Turns.{first_turns, moment_after, goes_on, plus, turns_from-plus, turns_from-step}

-- The machine.

abbrev pub page : PageId
page = record { domain = 0; resource = 0; page = 0 }

-- what a run drew as it began: its keys and the draw of the program's page; and the rest of its stream
pub record FirstDraws : Type 0 where
  pub keys : Keys
  pub draw : List ℕ
  pub stream : Random

-- a program's page of these bytes as the kernel is shown it first
abbrev pub first_shown : FirstDraws → List ℕ → List ℕ
first_shown begun bytes = cbc (key_in begun.keys page) begun.draw bytes

-- frame 0 has the kernel, and the kernel sees these bytes in frame 8
abbrev pub ram_of : List ℕ → List ℕ → List (List ℕ)
ram_of rest shown = (flat_map word boot ++ rest) ∷ (replicate 7 zero_page ++ (shown ∷ replicate 55 zero_page))

-- the page tables of spaces, before and after the first resume
abbrev pub no_root : SpaceId → Option ℕ
no_root s = None

abbrev pub bare_root : SpaceId → Option ℕ
bare_root = with_space no_root (record { domain = 0; number = 0 }) (Some 0)

-- a program's page of these bytes was opened
abbrev pub memory_of : List ℕ → List ℕ → FirstDraws → (SpaceId → Option ℕ) → (PageId → List ℕ) → List (Option PageId) →
    CloakedMemory
memory_of bytes rest begun root plain owed = record {
  ram = ram_of rest (first_shown begun bytes);
  plain = plain;
  ledger = record {
    keys = begun.keys;
    stream = begun.stream;
    draws = 1;
    recorded = with_page (λ q. None) page (Some (first_shown begun bytes));
    iv = with_page (λ q. None) page (Some begun.draw);
    owed = owed;
    root = root;
    missed = false;
    clashed = false;
  };
  marks = None ∷ [];
}

-- every page but the program's is zeros
abbrev pub plain_of : List ℕ → PageId → List ℕ
plain_of bytes = with_page (λ q. zero_page) page bytes

-- as the run begins, and after the first resume
abbrev pub opened_memory : List ℕ → List ℕ → FirstDraws → CloakedMemory
opened_memory bytes rest begun = memory_of bytes rest begun no_root (plain_of bytes) (replicate 64 None)

abbrev pub resumed_memory : List ℕ → List ℕ → FirstDraws → CloakedMemory
resumed_memory bytes rest begun = memory_of bytes rest begun bare_root (plain_of bytes) (replicate 64 None)

-- the page with the 7 that the program stores
abbrev pub stored_page : List ℕ
stored_page = with_value_in words_page 0x100 4 7

-- frame 8 has yet to show it
abbrev pub owed_page : List (Option PageId)
owed_page = replicate 8 None ++ (Some page ∷ replicate 55 None)

abbrev pub stored_plain : PageId → List ℕ
stored_plain = with_page (plain_of words_page) page stored_page

abbrev pub stored_memory : List ℕ → FirstDraws → CloakedMemory
stored_memory rest begun = memory_of words_page rest begun bare_root stored_plain owed_page

-- the hart as it starts, and as it runs the program
abbrev pub first_hart : Hart
first_hart = outside_hart 0x80000000 (replicate 32 0) (csrs_of 0 0 0 0)

abbrev pub program_hart : Hart
program_hart = inside_hart 0 (csrs_of 0x80000014 0 0 0)

abbrev pub machine : Hart → Domain → CloakedMemory → Joint
machine h d m = record {
  harts = h ∷ [];
  disk = [];
  console = [];
  memory = m;
  domains = d ∷ [];
  ended = replicate 4 None;
  refused = 0;
}

-- one hart makes all steps
abbrev pub at_step : ℕ → Joint → Moment
at_step steps j = record { schedule = 0 ∷ []; steps = steps; joint = j }

-- The kernel's boot: five steps.

abbrev pub opened_moment : List ℕ → List ℕ → FirstDraws → Moment
opened_moment bytes rest begun =
    at_step 0 (machine first_hart (program_with not_started []) (opened_memory bytes rest begun))

abbrev pub resumed_moment : List ℕ → List ℕ → FirstDraws → Moment
resumed_moment bytes rest begun =
    at_step 5 (machine program_hart (program_with started_context []) (resumed_memory bytes rest begun))

boots : (bytes rest : List ℕ) (begun : FirstDraws) → moment_after 5 (opened_moment bytes rest begun) ≡
    resumed_moment bytes rest begun
unfolding joint_steps moment_after
boots bytes rest begun = refl

boot_goes_on : (bytes rest : List ℕ) (begun : FirstDraws) → goes_on 5 (opened_moment bytes rest begun) ≡ true
unfolding joint_steps goes_on
boot_goes_on bytes rest begun = refl

pub turns_from-boot : (bytes rest : List ℕ) (begun : FirstDraws) (n : ℕ)
    → turns_from (plus 5 n) (opened_moment bytes rest begun) ≡ first_turns 5 (opened_moment bytes rest begun)
    ++ turns_from n (resumed_moment bytes rest begun)
turns_from-boot bytes rest begun n =
    turns_from-plus 5 n (opened_moment bytes rest begun) (boot_goes_on bytes rest begun)
    ∙ ap (λ (m : Moment). first_turns 5 (opened_moment bytes rest begun) ++ turns_from n m) (boots bytes rest begun)

-- A step of the one context, from here on in its instruction.
abbrev pub rest_of_step : Hart → Domain → CloakedMemory → Script AfterInstruction → World → Turn
rest_of_step h d m script w =
    let step = script >>= (λ made. instruction_ended 0 d made.context made.ending
    >>= (λ s. Gives (after_write made.wrote s))) in
    let t = after_domain_step (machine h d m) 0 h 0 (played step w) in
    answers_violation h.inside t.violation t

-- by what its fetch is told
unfoldable pub fetched_step : Hart → Domain → Context → CloakedMemory → Told Answer → Turn
unfolding told_steps
fetched_step h d c m told =
    rest_of_step h d m (fetched_inside 0 program_resources c page told.answer) told.world

-- the memory as the context asks
unfoldable pub cloak_for : Hart → Domain → Context → CloakedMemory → MidStep
cloak_for h d c m = cloak_of m h 0 (pages_for d (Some c))

-- its fetch was granted, and changed nothing
unfoldable pub fetch_granted : Hart → Domain → Context → CloakedMemory → Told Answer
unfolding cloak_for
fetch_granted h d c m =
    record {
      answer = told.Ok;
      world = Cloaked
          (record (cloak_for h d c m) {
            items = item.Ok 0 ∷ [];
            events = granted_events page c.pc Fetch (cloak_for h d c m);
          });
    }

-- the step as it asks, what it is told, and what it then results in
pub record IsStep (n : ℕ) (h : Hart) (d : Domain) (c : Context) (m : CloakedMemory) (t : Turn) : Type 0 where
  pub told : Told Answer
  pub asks : joint_step (at_step n (machine h d m)) ≡
      fetched_step h d c m (ask_reach page c.pc Fetch (Cloaked (cloak_for h d c m)))
  pub tells : ask_reach page c.pc Fetch (Cloaked (cloak_for h d c m)) ≡ told
  pub ends : fetched_step h d c m told ≡ t

pub joint_step-of : (n : ℕ) (h : Hart) (d : Domain) (c : Context) (m : CloakedMemory) (t : Turn) →
    IsStep n h d c m t → joint_step (at_step n (machine h d m)) ≡ t
joint_step-of n h d c m t s = s.asks ∙ ap (fetched_step h d c m) s.tells ∙ s.ends

-- The program's first two instructions, whose fetches and store compare the frame with what was shown.

-- the program with 7 in x10
abbrev pub with_seven : ℕ → Context
with_seven pc = running pc (registers_from 2 (0x80008100 ∷ []) (registers_from 10 (7 ∷ []) (replicate 32 0)))

abbrev fetched_moment : List ℕ → FirstDraws → Moment
fetched_moment rest begun =
    at_step 6 (machine program_hart (program_with (with_seven 0x80008004) []) (resumed_memory words_page rest begun))

abbrev stored_moment : List ℕ → FirstDraws → Moment
stored_moment rest begun =
    at_step 7 (machine program_hart (program_with (with_seven 0x80008008) []) (stored_memory rest begun))

abbrev first_turn : List ℕ → FirstDraws → Turn
first_turn rest begun =
    quiet (machine program_hart (program_with (with_seven 0x80008004) []) (resumed_memory words_page rest begun))
    (item.Ok 0 ∷ [])

first : (rest : List ℕ) (begun : FirstDraws) → joint_step (resumed_moment words_page rest begun) ≡ first_turn rest begun
unfolding joint_steps fetched_step fetch_granted
first rest begun =
    joint_step-of 5 program_hart (program_with started_context []) started_context
    (resumed_memory words_page rest begun) (first_turn rest begun) (record {
      told = fetch_granted program_hart (program_with started_context []) started_context
          (resumed_memory words_page rest begun);
      asks = refl;
      tells = reach-shown page 0x80008000 Fetch
          (cloak_for program_hart (program_with started_context []) started_context
          (resumed_memory words_page rest begun)) (record { bare = refl; inside = refl; drawn = refl })
          (record { owed = refl; owing = refl; shown = refl });
      ends = refl;
    })

-- the store, by what its reaching of the page is told
store_step : List ℕ → FirstDraws → Told Answer → Turn
unfolding told_steps
store_step rest begun told =
    rest_of_step program_hart (program_with (with_seven 0x80008004) []) (resumed_memory words_page rest begun)
    (store_reached (with_seven 0x80008004) page 0x80008100 4 7 told.answer) told.world

-- the memory as it asks for that, and as it was granted
storing : List ℕ → FirstDraws → MidStep
unfolding cloak_for
storing rest begun =
    let before = cloak_for program_hart (program_with (with_seven 0x80008004) []) (with_seven 0x80008004)
    (resumed_memory words_page rest begun) in
    record before { items = item.Ok 0 ∷ []; events = granted_events page 0x80008004 Fetch before }

store_granted : List ℕ → FirstDraws → Told Answer
unfolding storing
store_granted rest begun = record {
  answer = told.Ok;
  world = Cloaked (record (storing rest begun) {
    memory = memory_of words_page rest begun bare_root (plain_of words_page) owed_page;
    items = item.Ok 0 ∷ item.Ok 0 ∷ [];
    events = granted_events page 0x80008100 Store (storing rest begun);
  });
}

abbrev second_turn : List ℕ → FirstDraws → Turn
second_turn rest begun =
    quiet (machine program_hart (program_with (with_seven 0x80008008) []) (stored_memory rest begun))
    (item.Ok 0 ∷ item.Ok 0 ∷ [])

store_asks : (rest : List ℕ) (begun : FirstDraws)
    → fetched_step program_hart (program_with (with_seven 0x80008004) []) (with_seven 0x80008004)
    (resumed_memory words_page rest begun)
    (fetch_granted program_hart (program_with (with_seven 0x80008004) []) (with_seven 0x80008004)
    (resumed_memory words_page rest begun))
    ≡ store_step rest begun (ask_reach page 0x80008100 Store (Cloaked (storing rest begun)))
unfolding joint_steps fetched_step fetch_granted store_step storing
store_asks rest begun = refl

store_tells : (rest : List ℕ) (begun : FirstDraws) → ask_reach page 0x80008100 Store (Cloaked (storing rest begun)) ≡
    store_granted rest begun
unfolding joint_steps store_granted
store_tells rest begun =
    reach-shown page 0x80008100 Store (storing rest begun) (record { bare = refl; inside = refl; drawn = refl })
    (record { owed = refl; owing = refl; shown = refl })

store_ends : (rest : List ℕ) (begun : FirstDraws) → store_step rest begun (store_granted rest begun) ≡
    second_turn rest begun
unfolding joint_steps store_step store_granted
store_ends rest begun = refl

second : (rest : List ℕ) (begun : FirstDraws) → joint_step (fetched_moment rest begun) ≡ second_turn rest begun
unfolding joint_steps fetched_step fetch_granted
second rest begun =
    joint_step-of 6 program_hart (program_with (with_seven 0x80008004) []) (with_seven 0x80008004)
    (resumed_memory words_page rest begun) (second_turn rest begun) (record {
      told = fetch_granted program_hart (program_with (with_seven 0x80008004) []) (with_seven 0x80008004)
          (resumed_memory words_page rest begun);
      asks = refl;
      tells = reach-shown page 0x80008004 Fetch
          (cloak_for program_hart (program_with (with_seven 0x80008004) []) (with_seven 0x80008004)
          (resumed_memory words_page rest begun)) (record { bare = refl; inside = refl; drawn = refl })
          (record { owed = refl; owing = refl; shown = refl });
      ends = store_asks rest begun ∙ ap (store_step rest begun) (store_tells rest begun) ∙ store_ends rest begun;
    })

-- After the store the frame is owed its page, and nothing is compared up to the call: five steps.

abbrev pub left_moment : List ℕ → FirstDraws → Moment
left_moment rest begun = at_step 12 (machine (called_hart 0x80000014 9) program_at_call (stored_memory rest begun))

calls : (rest : List ℕ) (begun : FirstDraws) → moment_after 5 (stored_moment rest begun) ≡ left_moment rest begun
unfolding joint_runs moment_after
calls rest begun = refl

call_goes_on : (rest : List ℕ) (begun : FirstDraws) → goes_on 5 (stored_moment rest begun) ≡ true
unfolding joint_runs goes_on
call_goes_on rest begun = refl

-- All twelve, with what follows.

unfoldable pub turns_to_call : List ℕ → FirstDraws → List Turn → List Turn
unfolding first_turns
turns_to_call rest begun later =
    first_turns 5 (opened_moment words_page rest begun)
    ++ (first_turn rest begun ∷ (second_turn rest begun ∷ (first_turns 5 (stored_moment rest begun) ++ later)))

pub turns_from-call : (rest : List ℕ) (begun : FirstDraws) (n : ℕ)
    → turns_from (plus 12 n) (opened_moment words_page rest begun) ≡
    turns_to_call rest begun (turns_from n (left_moment rest begun))
unfolding turns_to_call
turns_from-call rest begun n =
    let later : turns_from (plus 5 n) (stored_moment rest begun) ≡ first_turns 5 (stored_moment rest begun)
    ++ turns_from n (left_moment rest begun) =
    turns_from-plus 5 n (stored_moment rest begun) (call_goes_on rest begun)
    ∙ ap (λ (m : Moment). first_turns 5 (stored_moment rest begun) ++ turns_from n m) (calls rest begun) in
    turns_from-boot words_page rest begun (plus 7 n)
    ∙ ap (λ (ts : List Turn). first_turns 5 (opened_moment words_page rest begun) ++ ts)
    (turns_from-step (plus 6 n) (resumed_moment words_page rest begun) (first_turn rest begun)
    (first rest begun) refl)
    ∙ ap (λ (ts : List Turn). first_turns 5 (opened_moment words_page rest begun) ++ (first_turn rest begun ∷ ts))
    (turns_from-step (plus 5 n) (fetched_moment rest begun) (second_turn rest begun) (second rest begun) refl)
    ∙ ap (λ (ts : List Turn). first_turns 5 (opened_moment words_page rest begun)
    ++ (first_turn rest begun ∷ (second_turn rest begun ∷ ts))) later
