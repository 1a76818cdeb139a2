-- What single items add to the trace of a program's side.
use Rattle.std.proofs.Common.{◌≡◌, ◌∙◌, ◌&&◌, ◌||◌, ℕ, Bool, true, false, List, [], Option, Some, None, option_map, Result, if◌then◌else◌, is_none, is_ok, refl, sym, ap}
use Rattle.cloak_model.specs.Items.{Item}
use Rattle.cloak_model.specs.Contexts.{Context, context_at, context_number}
use Rattle.cloak_model.specs.declared.context.Phase.{Phase}
use Rattle.cloak_model.specs.DomainAlone as model
use Rattle.cloak_model.specs.DomainAlone.{take_domain_item}
use Rattle.alone_views.specs.DomainMoments.{running_in}
use Rattle.alone_views.specs.DomainStanding.{StandsForDomain, TakesDomainItem, answer_by, hart_at}
use Rattle.alone_views.specs.KernelEnding.{is_end}
use Rattle.alone_views.specs.declared.domain.DomainAlone.{DomainAlone}
use Rattle.alone_views.specs.declared.unfit.Unfit.{Unfit}
use Rattle.kernel_report.specs.Putting.{Putting, PutsMore}
use Rattle.kernel_report.proofs.PutFacts.{text_is}
use Rattle.step_lines.specs.Contexts.{context_sight, context_step_line}
use Rattle.step_lines.specs.Lines.{item_line}
use Rattle.step_lines.specs.declared.contexts.ContextAhead.{ContextAhead}
use Rattle.step_lines.specs.declared.contexts.ContextSight.{ContextSight}
use Rattle.step_lines.specs.declared.contexts.LastAnswer.{LastAnswer}
use Rattle.step_lines.specs.declared.contexts.ReachedPage.{ReachedPage}
use Rattle.run_trace.specs.Choice.{has_step}
use Rattle.run_trace.specs.ProgramTrace.{context_ahead, is_made, is_own, last_answer, made_context, made_if, open_context, open_if, open_with, opened, own_line, program_added, value_after}
use Rattle.run_trace.specs.ProgramTracing.{AddsOwn}
use Rattle.run_trace.specs.declared.choice.TraceChoice.{TraceChoice}
use Rattle.run_trace.specs.declared.program_side.OpenContext.{OpenContext}

pub fits_by : (u : Option ℕ) → is_ok (answer_by u) ≡ is_none u
fits_by None = refl
fits_by (Some step) = refl

-- Items that tell what was done to the program.

added_own : (c : TraceChoice) (d : ℕ) (turns : List ℕ) (s next : model.DomainAlone) (i : Item) → is_own d i ≡ true →
    own_line c turns (is_none next.unfit) s i ≡ program_added c d turns s next i
unfolding program_added
added_own c d turns s next i is =
    sym (ap (λ (b : Bool). let t : List ℕ = if b then own_line c turns (is_none next.unfit) s i else
    made_if (is_made next.unfit next.stage i) (open_context c d turns s) next i in t) is)

pub adds_own : {old new : Putting} {now : DomainAlone} {given : Result Unit Unfit} (c : TraceChoice) (d : ℕ)
    (turns : List ℕ) (s : model.DomainAlone) (i : Item) (step hart : ℕ) (chosen : Bool) → is_own d i ≡ true →
    TakesDomainItem d turns now given (take_domain_item d turns s i) → step ≡ s.steps → hart ≡ hart_at turns s.steps →
    chosen ≡ has_step c step (Some hart) →
    PutsMore old new (if is_ok given && chosen then item_line step (Some hart) i else []) →
    AddsOwn old new now given c d turns s i
adds_own {old} {new} {now} {given} c d turns s i step hart chosen is takes at there has puts =
    let next = take_domain_item d turns s i in
    record {
      stands = takes.stands;
      answer = takes.answer;
      text = text_is puts
          (ap (λ (b : Bool). let t : List ℕ = if b && chosen then item_line step (Some hart) i else [] in t)
          (ap is_ok takes.answer ∙ fits_by next.unfit)
          ∙ (ap (λ (b : Bool). let t : List ℕ = if is_none next.unfit && b then item_line step (Some hart) i else [] in t) has
          ∙ (ap (λ (n : ℕ). let t : List ℕ = if is_none next.unfit && has_step c n (Some hart) then item_line n (Some hart) i
          else [] in t) at
          ∙ (ap (λ (h : ℕ). let t : List ℕ = if is_none next.unfit && has_step c s.steps (Some h)
          then item_line s.steps (Some h) i else [] in t) there ∙ added_own c d turns s next i is))));
    }

-- Others.

added_step : (c : TraceChoice) (d : ℕ) (turns : List ℕ) (s next : model.DomainAlone) (i : Item) → is_own d i ≡ false →
    made_if (is_made next.unfit next.stage i) (open_context c d turns s) next i ≡ program_added c d turns s next i
unfolding program_added
added_step c d turns s next i other =
    sym (ap (λ (b : Bool). let t : List ℕ = if b then own_line c turns (is_none next.unfit) s i else
    made_if (is_made next.unfit next.stage i) (open_context c d turns s) next i in t) other)

pub adds_step : {old new : Putting} {now : DomainAlone} {given : Result Unit Unfit} (c : TraceChoice) (d : ℕ)
    (turns : List ℕ) (s : model.DomainAlone) (i : Item) (o : Option OpenContext) (made : Bool) → is_own d i ≡ false →
    TakesDomainItem d turns now given (take_domain_item d turns s i) → o ≡ open_context c d turns s →
    ((number : ℕ) (turns : List ℕ) (next : model.DomainAlone) → StandsForDomain number turns now next →
    is_ok given ≡ is_none next.unfit → made ≡ is_made next.unfit next.stage i) →
    ((number : ℕ) (turns : List ℕ) (next : model.DomainAlone) → StandsForDomain number turns now next →
    made ≡ is_made next.unfit next.stage i → PutsMore old new (made_if made o next i)) →
    AddsOwn old new now given c d turns s i
adds_step {old} {new} {now} {given} c d turns s i o made other takes is told puts =
    let next = take_domain_item d turns s i in
    let makes = told d turns next takes.stands (ap is_ok takes.answer ∙ fits_by next.unfit) in
    record {
      stands = takes.stands;
      answer = takes.answer;
      text = text_is (puts d turns next takes.stands makes)
          (ap (λ (b : Bool). made_if b o next i) makes
          ∙ (ap (λ (x : Option OpenContext). made_if (is_made next.unfit next.stage i) x next i) is
          ∙ added_step c d turns s next i other));
    }

-- an item that was unfit made no step
pub none_made : (u : Option ℕ) (stage : model.DomainStage) (i : Item) → false ≡ is_none u → false ≡ is_made u stage i
none_made None stage i is = absurd (let clash : false ≡ true = is in cc)
none_made (Some step) stage i is = refl

pub none_fit : (u : Option ℕ) → true ≡ is_none u → u ≡ None
none_fit None is = refl
none_fit (Some step) is = absurd (let clash : true ≡ false = is in cc)

pub made_fit : (u : Option ℕ) (stage : model.DomainStage) (i : Item) → true ≡ is_none u →
    is_end i || is_none (running_in stage) ≡ is_made u stage i
made_fit None stage i is = refl
made_fit (Some step) stage i is = absurd (let clash : true ≡ false = is in cc)

-- with an item that made one none was unfit
pub fit_by_made : (u : Option ℕ) (stage : model.DomainStage) (i : Item) → true ≡ is_made u stage i → u ≡ None
fit_by_made None stage i is = refl
fit_by_made (Some step) stage i is = absurd (let clash : true ≡ false = is in cc)

-- The step that is open.

-- the step of this hart, if it is chosen
is_chosen : (c : TraceChoice) (turns : List ℕ) (s : model.DomainAlone) (step hart : ℕ) (b truth : Bool) →
    step ≡ s.steps → hart ≡ hart_at turns s.steps → b ≡ has_step c step (Some hart) → b ≡ truth →
    has_step c s.steps (Some (hart_at turns s.steps)) ≡ truth
is_chosen c turns s step hart b truth at there has is =
    ap (λ (n : ℕ). has_step c n (Some (hart_at turns s.steps))) (sym at)
    ∙ (ap (λ (h : ℕ). has_step c step (Some h)) (sym there) ∙ (sym has ∙ is))

abbrev pub open_as : ℕ → ℕ → ℕ → ℕ → ℕ → ContextAhead → OpenContext
open_as slot ctx step hart space ahead =
    record { step = step; hart = hart; slot = slot; ctx = ctx; space = space; ahead = ahead }

pub opens_chosen : (c : TraceChoice) (d : ℕ) (turns : List ℕ) (s : model.DomainAlone) (slot : ℕ) (x : Context)
    (step hart space : ℕ) (ahead : ContextAhead) (b : Bool) → step ≡ s.steps → hart ≡ hart_at turns s.steps →
    space ≡ x.space → b ≡ has_step c step (Some hart) → b ≡ true → ahead ≡ context_ahead s.part x →
    Some (open_as slot (context_number d slot) step hart space ahead) ≡ open_with c d turns s slot (Some x)
opens_chosen c d turns s slot x step hart space ahead b at there lies has is looks =
    let ctx = context_number d slot in
    ap (λ (n : ℕ). Some (open_as slot ctx n hart space ahead)) at
    ∙ (ap (λ (h : ℕ). Some (open_as slot ctx s.steps h space ahead)) there
    ∙ (ap (λ (n : ℕ). Some (open_as slot ctx s.steps (hart_at turns s.steps) n ahead)) lies
    ∙ (ap (λ (a : ContextAhead). Some (open_as slot ctx s.steps (hart_at turns s.steps) x.space a)) looks
    ∙ sym (ap (λ (t : Bool). open_if t (opened s.steps (hart_at turns s.steps) slot (context_number d slot) s.part x))
    (is_chosen c turns s step hart b true at there has is)))))

pub opens_not : (c : TraceChoice) (d : ℕ) (turns : List ℕ) (s : model.DomainAlone) (slot : ℕ) (x : Context)
    (step hart : ℕ) (b : Bool) → step ≡ s.steps → hart ≡ hart_at turns s.steps → b ≡ has_step c step (Some hart) →
    b ≡ false → None ≡ open_with c d turns s slot (Some x)
opens_not c d turns s slot x step hart b at there has is =
    sym (ap (λ (t : Bool). open_if t (opened s.steps (hart_at turns s.steps) slot (context_number d slot) s.part x))
    (is_chosen c turns s step hart b false at there has is))

-- what is known of what a context is about to do

abbrev pub ahead_with : ContextSight → Phase → Option ℕ → Option ReachedPage → ContextAhead
ahead_with sight phase word reached = record { sight = sight; phase = phase; word = word; reached = reached }

pub ahead_as : {was is : ContextSight} {phase same : Phase} {word told : Option ℕ} {found reached : Option ReachedPage} →
    was ≡ is → phase ≡ same → word ≡ told → found ≡ reached →
    ahead_with was phase word found ≡ ahead_with is same told reached
ahead_as {was} {is} {phase} {same} {word} {told} {found} {reached} sees phases reads reaches =
    ap (λ (a : ContextSight). ahead_with a phase word found) sees
    ∙ (ap (λ (p : Phase). ahead_with is p word found) phases
    ∙ (ap (λ (w : Option ℕ). ahead_with is same w found) reads
    ∙ ap (λ (r : Option ReachedPage). ahead_with is same told r) reaches))

-- the line of a step that was made
pub made_as : (o : OpenContext) (next : model.DomainAlone) (i : Item) (answer : LastAnswer) (now : Option ContextSight)
    (value : ℕ) → answer ≡ last_answer i →
    now ≡ option_map context_sight (context_at next.part.domain.control.contexts o.slot) →
    value ≡ value_after next.part o.space o.ahead.reached →
    context_step_line o.step o.hart o.ctx o.ahead answer now value ≡ made_context (Some o) next i
made_as o next i answer now value answers sees stands =
    let sight : Option ContextSight = option_map context_sight (context_at next.part.domain.control.contexts o.slot) in
    ap (λ (a : LastAnswer). context_step_line o.step o.hart o.ctx o.ahead a now value) answers
    ∙ (ap (λ (x : Option ContextSight). context_step_line o.step o.hart o.ctx o.ahead (last_answer i) x value) sees
    ∙ ap (λ (v : ℕ). context_step_line o.step o.hart o.ctx o.ahead (last_answer i) sight v) stands)
