-- What single items add to the trace of the kernel's side.
use Rattle.std.proofs.Common.{◌≡◌, ◌∙◌, ◌&&◌, ℕ, Bool, true, false, List, [], Option, Some, None, IfSome, Result, if◌then◌else◌, is_none, is_ok, refl, sym, ap, subst}
use Rattle.cloak_model.specs.Items.{Item}
use Rattle.cloak_model.specs.declared.outcome.Kernel.{Kernel}
use Rattle.cloak_model.specs.Exchange.{Piece}
use Rattle.cloak_model.specs.KernelAlone as model
use Rattle.cloak_model.specs.KernelAlone.{kernel_hart, take_kernel_item}
use Rattle.alone_views.specs.KernelEnding.{EndsAs, ending_in, is_end, plain_ending}
use Rattle.alone_views.specs.KernelStanding.{StandsForKernel, TakesItem, answer_for, unfit_step}
use Rattle.alone_views.specs.declared.kernel.KernelAlone.{KernelAlone}
use Rattle.alone_views.specs.declared.unfit.Unfit.{Unfit}
use Rattle.kernel_report.specs.Putting.{Putting, PutsMore}
use Rattle.kernel_report.proofs.PutFacts.{text_is}
use Rattle.step_lines.specs.Ahead.{ahead_of}
use Rattle.step_lines.specs.Lines.{hart_step_line, item_line}
use Rattle.step_lines.specs.Sights.{sight_of}
use Rattle.step_lines.specs.declared.sight.HartSight.{HartSight}
use Rattle.step_lines.specs.declared.ahead.HartAhead.{HartAhead}
use Rattle.run_trace.specs.Choice.{has_step}
use Rattle.run_trace.specs.KernelTrace.{added_by, ended_step, hart_there, is_outward, made_line, open_at, open_step, outward_line}
use Rattle.run_trace.specs.Tracing.{AddsItem, EndedAs}
use Rattle.run_trace.specs.declared.choice.TraceChoice.{TraceChoice}
use Rattle.run_trace.specs.declared.kernel_side.OpenStep.{OpenStep}

-- no item was unfit
pub none_unfit : (machine : KernelAlone) (turns : List ℕ) (s : model.KernelAlone) → StandsForKernel machine turns s →
    s.unfit ≡ None → unfit_step machine ≡ None
none_unfit machine turns s stands fits = sym (ap (λ (t : model.KernelAlone). t.unfit) stands.state) ∙ fits

-- Markers.

if_chosen : (b : Bool) (o : OpenStep) (P : OpenStep → Type 0) → P o → IfSome (if b then Some o else None) P
if_chosen true o P p = p
if_chosen false o P p = tt

-- the step that was open ended as the machine tells
pub ended_as : (c : TraceChoice) (machine : KernelAlone) (s : model.KernelAlone) (stage : model.KernelStage) →
    s.stage ≡ stage → ((number : ℕ) → s.stage ≡ model.Outside number → ending_in machine ≡ plain_ending number s) →
    EndedAs (open_at c stage s) machine s
ended_as c machine s (model.Outside number) at ends = if_chosen (has_step c s.steps (Some number))
    (record { step = s.steps; hart = number; ahead = ahead_of s.kernel.ram (kernel_hart s.kernel number) })
    (λ x. ending_in machine ≡ plain_ending x.hart s) (ends number at)
ended_as c machine s model.Between at ends = tt
ended_as c machine s (model.Inside number ctx) at ends = tt
ended_as c machine s model.Left at ends = tt

added_end : (c : TraceChoice) (s next : model.KernelAlone) (i : Item) → is_end i ≡ true →
    ended_step c s next ≡ added_by c s next i
unfolding added_by
added_end c s next i is =
    sym (ap (λ (b : Bool). let t : List ℕ = if b then ended_step c s next else
    if is_outward i then outward_line c (is_none next.unfit) s i else [] in t) is)

pub adds_marker : {E : Type 0} {gave : E → E → List Piece → Type 0} {e e' : E} {old new : Putting}
    {was now : KernelAlone} {given : Result Unit Unfit} (c : TraceChoice) (turns : List ℕ) (s : model.KernelAlone) (i : Item)
    (o : Option OpenStep) → is_end i ≡ true → StandsForKernel was turns s → s.unfit ≡ None →
    TakesItem gave e e' now given turns s (take_kernel_item turns s i) →
    (is_end i ≡ true → unfit_step was ≡ None → EndsAs was now) → o ≡ open_step c s →
    ((turns : List ℕ) (s next : model.KernelAlone) → StandsForKernel now turns next → EndedAs o now s →
    PutsMore old new (made_line o s next)) → AddsItem old new now given c turns s i
adds_marker {E} {gave} {e} {e'} {old} {new} {was} {now} {given} c turns s i o is stands fits takes ending open_is puts =
    let next = take_kernel_item turns s i in
    let ended : EndedAs o now s =
    subst (λ (x : Option OpenStep). EndedAs x now s) (sym open_is)
    (ended_as c now s s.stage refl (λ number at. ending is (none_unfit was turns s stands fits) turns s stands number at)) in
    record {
      stands = takes.gains.stands;
      answer = takes.answer;
      text = text_is (puts turns s next takes.gains.stands ended)
          (ap (λ (x : Option OpenStep). made_line x s next) open_is ∙ added_end c s next i is);
    }

-- Items that the kernel could see.

fits_as : (u : Option ℕ) → is_ok (answer_for u) ≡ is_none u
fits_as None = refl
fits_as (Some step) = refl

added_outward : (c : TraceChoice) (s next : model.KernelAlone) (i : Item) → is_end i ≡ false → is_outward i ≡ true →
    outward_line c (is_none next.unfit) s i ≡ added_by c s next i
unfolding added_by
added_outward c s next i no_end is =
    sym (ap (λ (b : Bool). let t : List ℕ = if b then ended_step c s next else
    if is_outward i then outward_line c (is_none next.unfit) s i else [] in t) no_end
    ∙ ap (λ (b : Bool). let t : List ℕ = if b then outward_line c (is_none next.unfit) s i else [] in t) is)

pub adds_outward : {E : Type 0} {gave : E → E → List Piece → Type 0} {e e' : E} {old new : Putting}
    {now : KernelAlone} {given : Result Unit Unfit} (c : TraceChoice) (turns : List ℕ) (s : model.KernelAlone) (i : Item)
    (step : ℕ) (hart : Option ℕ) (chosen : Bool) → is_end i ≡ false → is_outward i ≡ true →
    TakesItem gave e e' now given turns s (take_kernel_item turns s i) → step ≡ s.steps → hart ≡ hart_there s.stage →
    chosen ≡ has_step c step hart →
    PutsMore old new (if is_ok given && chosen then item_line step hart i else []) → AddsItem old new now given c turns s i
adds_outward {E} {gave} {e} {e'} {old} {new} {now} {given} c turns s i step hart chosen no_end is takes at there has puts =
    let next = take_kernel_item turns s i in
    record {
      stands = takes.gains.stands;
      answer = takes.answer;
      text = text_is puts
          (ap (λ (b : Bool). let t : List ℕ = if b && chosen then item_line step hart i else [] in t)
          (ap is_ok takes.answer ∙ fits_as next.unfit)
          ∙ (ap (λ (b : Bool). let t : List ℕ = if is_none next.unfit && b then item_line step hart i else [] in t) has
          ∙ (ap (λ (n : ℕ). let t : List ℕ = if is_none next.unfit && has_step c n hart then item_line n hart i else [] in t) at
          ∙ (ap (λ (h : Option ℕ). let t : List ℕ = if is_none next.unfit && has_step c s.steps h then item_line s.steps h i
          else [] in t) there ∙ added_outward c s next i no_end is))));
    }

-- Items that it could not see.

added_none : (c : TraceChoice) (s next : model.KernelAlone) (i : Item) → is_end i ≡ false → is_outward i ≡ false →
    [] ≡ added_by c s next i
unfolding added_by
added_none c s next i no_end inward =
    sym (ap (λ (b : Bool). let t : List ℕ = if b then ended_step c s next else
    if is_outward i then outward_line c (is_none next.unfit) s i else [] in t) no_end
    ∙ ap (λ (b : Bool). let t : List ℕ = if b then outward_line c (is_none next.unfit) s i else [] in t) inward)

pub adds_none : {E : Type 0} {gave : E → E → List Piece → Type 0} {e e' : E} {old new : Putting}
    {now : KernelAlone} {given : Result Unit Unfit} (c : TraceChoice) (turns : List ℕ) (s : model.KernelAlone) (i : Item) →
    is_end i ≡ false → is_outward i ≡ false → TakesItem gave e e' now given turns s (take_kernel_item turns s i) →
    PutsMore old new [] → AddsItem old new now given c turns s i
adds_none {E} {gave} {e} {e'} {old} {new} {now} {given} c turns s i no_end inward takes puts = record {
  stands = takes.gains.stands;
  answer = takes.answer;
  text = text_is puts (added_none c s (take_kernel_item turns s i) i no_end inward);
}

-- The step that is open.

-- the step of this hart, if it is chosen
is_chosen : (c : TraceChoice) (s : model.KernelAlone) (hart step : ℕ) (b truth : Bool) → step ≡ s.steps →
    b ≡ has_step c step (Some hart) → b ≡ truth → has_step c s.steps (Some hart) ≡ truth
is_chosen c s hart step b truth at has is = ap (λ (n : ℕ). has_step c n (Some hart)) (sym at) ∙ (sym has ∙ is)

pub opens_chosen : (c : TraceChoice) (s : model.KernelAlone) (hart step : ℕ) (ahead : HartAhead) (b : Bool) →
    step ≡ s.steps → b ≡ has_step c step (Some hart) → b ≡ true →
    ahead ≡ ahead_of s.kernel.ram (kernel_hart s.kernel hart) →
    Some (record { step = step; hart = hart; ahead = ahead }) ≡ open_at c (model.Outside hart) s
opens_chosen c s hart step ahead b at has is looks =
    let open_as : ℕ → HartAhead → OpenStep = λ n a. record { step = n; hart = hart; ahead = a } in
    ap (λ (n : ℕ). Some (open_as n ahead)) at ∙ (ap (λ (a : HartAhead). Some (open_as s.steps a)) looks
    ∙ sym (ap (λ (t : Bool). let o : Option OpenStep =
    if t then Some (open_as s.steps (ahead_of s.kernel.ram (kernel_hart s.kernel hart))) else None in o)
    (is_chosen c s hart step b true at has is)))

pub opens_not : (c : TraceChoice) (s : model.KernelAlone) (hart step : ℕ) (b : Bool) → step ≡ s.steps →
    b ≡ has_step c step (Some hart) → b ≡ false → None ≡ open_at c (model.Outside hart) s
opens_not c s hart step b at has is =
    sym (ap (λ (t : Bool). let o : Option OpenStep =
    if t then Some (record { step = s.steps; hart = hart; ahead = ahead_of s.kernel.ram (kernel_hart s.kernel hart) }) else None
    in o) (is_chosen c s hart step b false at has is))

-- the line of a step that was made
pub made_as : (o : OpenStep) (s next : model.KernelAlone) (now : HartSight) (ram : List (List ℕ)) (k : Kernel) →
    now ≡ sight_of (kernel_hart next.kernel o.hart) → ram ≡ next.kernel.ram → k ≡ plain_ending o.hart s →
    hart_step_line o.step o.hart o.ahead now ram k ≡ made_line (Some o) s next
made_as o s next now ram k sees frames ends =
    ap (λ (x : HartSight). hart_step_line o.step o.hart o.ahead x ram k) sees
    ∙ (ap (λ (r : List (List ℕ)). hart_step_line o.step o.hart o.ahead (sight_of (kernel_hart next.kernel o.hart)) r k) frames
    ∙ ap (λ (x : Kernel). hart_step_line o.step o.hart o.ahead (sight_of (kernel_hart next.kernel o.hart)) next.kernel.ram x)
    ends)
