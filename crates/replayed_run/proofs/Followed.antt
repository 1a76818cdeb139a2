-- Machines that run alone take the items of a record, one after another.
use Rattle.std.proofs.Common.{◌≡◌, ◌<◌, ◌≤◌, ◌+◌, ◌*◌, ◌/◌, ◌%◌, ℕ, Bool, true, false, List, [], ◌∷◌, ◌++◌, length, slice_get, slice_index_or, slice_set, Option, Some, None, option_map, is_some, unwrap_or, Result, Ok, Err, refl, sym, ap, subst, ◌∙◌, inl, inr, arith}
use Rattle.std.proofs.lemmas.Bool.{cases_lt}
use Rattle.std.proofs.lemmas.List.{get_or-set_other, get_or-set_same, get_or_append_left}
use Rattle.std.proofs.Math.Seq.{get_or-append_seam}
use Rattle.std.proofs.lemmas.Option.{slice_get_cases, slice_get_past, slice_get_within, unwrap_or-slice_get}
use Rattle.cloak_model.specs.declared.image.Bundle.{Bundle}
use Rattle.cloak_model.specs.declared.image.Program.{Program}
use Rattle.cloak_model.specs.Items.{Item}
use Rattle.cloak_model.specs.Exchange.{Piece}
use Rattle.cloak_model.specs.DomainAlone as domain
use Rattle.cloak_model.specs.DomainAlone.{domain_alone, domain_taken, opened_domain, take_domain_item}
use Rattle.cloak_model.specs.Contexts.{Context, context_at, domain_of}
use Rattle.cloak_model.specs.Resources.{resource_at}
use Rattle.cloak_model.specs.Hart.{Hart, started}
use Rattle.cloak_base.specs.declared.names.HartId.{HartId}
use Rattle.cloak_model.specs.KernelAlone as kernel
use Rattle.cloak_model.specs.KernelAlone.{kernel_alone, kernel_hart, kernel_taken, opened_kernel, take_kernel_item}
use Rattle.alone_views.specs.declared.domain.DomainAlone.{DomainAlone}
use Rattle.alone_views.specs.declared.kernel.KernelAlone.{KernelAlone}
use Rattle.alone_views.specs.declared.unfit.Unfit.{Unfit}
use Rattle.alone_views.specs.DomainStanding.{StandsForDomain, TakesDomainItem, answer_by}
use Rattle.alone_views.specs.KernelStanding.{StandsForKernel, TakesItem, answer_for, unfit_step}
use Rattle.alone_views.specs.KernelEnding.{EndsAs, is_end}
use Rattle.alone_views.specs.declared.asked.AskedAccess.{AskedAccess}
use Rattle.alone_views.specs.declared.asked.AskedAccess.TheVariants as asked
use Rattle.replayed_run.specs.Questions.{access_if, access_in, question_in}
use Rattle.replayed_run.specs.Alone.{IsUnfitForProgram, context_in, has_resource, resource_in, standing, standing_told, words_of}
use Rattle.replayed_run.specs.Machines.{ProgramStands, ProgramsStand, ProgramsTake, StandAlone, TakeAlone}
use Rattle.replayed_run.specs.declared.machines.HartWords.{HartWords}
use Rattle.replayed_run.specs.declared.machines.Machines.{Machines}
use Rattle.replayed_run.specs.declared.machines.StandingContext.{StandingContext}

-- One item more.

kernel_taken_more : (turns : List ℕ) (s : kernel.KernelAlone) (items : List Item) (i : Item) →
    kernel_taken turns s (items ++ i ∷ []) ≡ take_kernel_item turns (kernel_taken turns s items) i
unfolding kernel_taken
kernel_taken_more turns s [] i = refl
kernel_taken_more turns s (x ∷ items) i = kernel_taken_more turns (take_kernel_item turns s x) items i

program_taken_more : (d : ℕ) (turns : List ℕ) (s : domain.DomainAlone) (items : List Item) (i : Item) →
    domain_taken d turns s (items ++ i ∷ []) ≡ take_domain_item d turns (domain_taken d turns s items) i
unfolding domain_taken
program_taken_more d turns s [] i = refl
program_taken_more d turns s (x ∷ items) i = program_taken_more d turns (take_domain_item d turns s x) items i

-- Before the first item.

-- What is returned tells whether an item was unfit.

unfit_told : Result (Unit {0}) Unfit → Option ℕ
unfit_told (Ok done) = None
unfit_told (Err unfit) = Some unfit.step

program_told : (u : Option ℕ) → unfit_told (answer_by u) ≡ u
unfolding unfit_told
program_told None = refl
program_told (Some step) = refl

kernel_told : (u : Option ℕ) → unfit_told (answer_for u) ≡ u
unfolding unfit_told
kernel_told None = refl
kernel_told (Some step) = refl

program_fits : (u : Option ℕ) (given : Result (Unit {0}) Unfit) → given ≡ answer_by u → given ≡ Ok tt → u ≡ None
unfolding unfit_told
program_fits u given answer ok = sym (program_told u) ∙ ap unfit_told (sym answer ∙ ok)

program_unfits : (u : Option ℕ) (given : Result (Unit {0}) Unfit) (f : Unfit) → given ≡ answer_by u → given ≡ Err f →
    u ≡ Some f.step
unfolding unfit_told
program_unfits u given f answer err = sym (program_told u) ∙ ap unfit_told (sym answer ∙ err)

kernel_fits : (u : Option ℕ) (given : Result (Unit {0}) Unfit) → given ≡ answer_for u → given ≡ Ok tt → u ≡ None
unfolding unfit_told
kernel_fits u given answer ok = sym (kernel_told u) ∙ ap unfit_told (sym answer ∙ ok)

kernel_unfits : (u : Option ℕ) (given : Result (Unit {0}) Unfit) (f : Unfit) → given ≡ answer_for u → given ≡ Err f →
    u ≡ Some f.step
unfolding unfit_told
kernel_unfits u given f answer err = sym (kernel_told u) ∙ ap unfit_told (sym answer ∙ err)

-- A program that took an item.

-- what a program's call of `take` says
abbrev pub TakesOne : DomainAlone → DomainAlone → Result (Unit {0}) Unfit → Item → Type 0
TakesOne old new given i = (number : ℕ) (schedule : List ℕ) (s : domain.DomainAlone) →
    StandsForDomain number schedule old s → TakesDomainItem number schedule new given (take_domain_item number schedule s i)

program_takes : (b : Bundle) (items : List Item) (i : Item) (d : ℕ) (p : Program) (old new : DomainAlone)
    (given : Result (Unit {0}) Unfit) → ProgramStands b items d p old → TakesOne old new given i →
    TakesDomainItem d b.kernel.schedule new given (domain_alone d b.kernel.schedule p (items ++ i ∷ []))
program_takes b items i d p old new given stood takes =
    subst (λ (s : domain.DomainAlone). TakesDomainItem d b.kernel.schedule new given s)
    (sym (program_taken_more d b.kernel.schedule (opened_domain d p) items i))
    (takes d b.kernel.schedule (domain_alone d b.kernel.schedule p items) stood.stands)

pub program_took : (b : Bundle) (items : List Item) (i : Item) (d : ℕ) (p : Program) (old new : DomainAlone)
    (given : Result (Unit {0}) Unfit) → ProgramStands b items d p old → TakesOne old new given i → given ≡ Ok tt →
    ProgramStands b (items ++ i ∷ []) d p new
program_took b items i d p old new given stood takes ok =
    let took = program_takes b items i d p old new given stood takes in
    record { stands = took.stands; fits = program_fits _ given took.answer ok }

pub program_refused : (b : Bundle) (items : List Item) (i : Item) (d : ℕ) (p : Program) (old new : DomainAlone)
    (given : Result (Unit {0}) Unfit) (f : Unfit) → ProgramStands b items d p old → TakesOne old new given i →
    given ≡ Err f → (domain_alone d b.kernel.schedule p (items ++ i ∷ [])).unfit ≡ Some f.step
program_refused b items i d p old new given f stood takes refused =
    let took = program_takes b items i d p old new given stood takes in
    program_unfits _ given f took.answer refused

-- All programs.

-- there is a machine for each program, so each fits
pub programs_fit : (b : Bundle) (items : List Item) (machines : List DomainAlone) → ProgramsStand b items machines →
    (d : ℕ) (p : Program) → slice_get b.programs d ≡ Some p → (domain_alone d b.kernel.schedule p items).unfit ≡ None
programs_fit b items machines stand d p program =
    elim (slice_get_cases machines d).1 [
      | inl (machine, within, there, is) ↦ (stand.each d p machine program).fits
      | inr (past, none) ↦ absurd (
          let low = slice_get_within b.programs d p program in let same = stand.count in omega (arith, low, same, past))
    ]

-- there is a program for each machine
pub program_at : (b : Bundle) (items : List Item) (machines : List DomainAlone) (d : ℕ) →
    ProgramsStand b items machines → d < length machines → (p : Program) × (slice_get b.programs d ≡ Some p)
program_at b items machines d stand low =
    elim (slice_get_cases b.programs d).1 [
      | inl (p, within, there, is) ↦ (p, there)
      | inr (past, none) ↦ absurd (let same = stand.count in omega (arith, low, same, past))
    ]

-- One program more takes an item.

-- the programs from this number on are as they were
abbrev pub AreLeft : List DomainAlone → List DomainAlone → ℕ → Type 0
AreLeft first now n = (d : ℕ) (other : DomainAlone) → n ≤ d → slice_index_or now d other ≡ slice_index_or first d other

-- those before it took the item
abbrev pub AreGiven : Bundle → List Item → Item → List DomainAlone → ℕ → Type 0
AreGiven b items i now n =
    (d : ℕ) (p : Program) (other : DomainAlone) → d < n → slice_get b.programs d ≡ Some p →
    ProgramStands b (items ++ i ∷ []) d p (slice_index_or now d other)

-- the program of this number as it was
was_standing : (b : Bundle) (items : List Item) (first now : List DomainAlone) (n : ℕ) (p : Program)
    (other : DomainAlone) → ProgramsStand b items first → AreLeft first now n → slice_get b.programs n ≡ Some p →
    ProgramStands b items n p (slice_index_or now n other)
was_standing b items first now n p other stand left program =
    subst (λ (m : DomainAlone). ProgramStands b items n p m) (sym (left n other (omega arith)))
    (stand.each n p other program)

pub given_more : (b : Bundle) (items : List Item) (i : Item) (first now : List DomainAlone) (n : ℕ)
    (some new : DomainAlone) (given : Result (Unit {0}) Unfit) → ProgramsStand b items first → n < length now →
    AreLeft first now n → AreGiven b items i now n → TakesOne (slice_index_or now n some) new given i → given ≡ Ok tt →
    AreGiven b items i (slice_set now n new) (n + 1)
given_more b items i first now n some new given stand low left before takes ok = λ d p other below program.
    elim (cases_lt d n) [
      | inl less ↦ subst (λ (m : DomainAlone). ProgramStands b (items ++ i ∷ []) d p m)
          (sym (get_or-set_other now n d new other (λ (same : d ≡ n). omega (arith, less, same))))
          (before d p other less program)
      | inr past ↦
          let here : d ≡ n = omega (arith, below, past) in
          let program_here = subst (λ (k : ℕ). slice_get b.programs k ≡ Some p) here program in
          subst (λ (k : ℕ). ProgramStands b (items ++ i ∷ []) k p (slice_index_or (slice_set now n new) k other)) (sym here)
          (subst (λ (m : DomainAlone). ProgramStands b (items ++ i ∷ []) n p m) (sym (get_or-set_same now n new other low))
          (program_took b items i n p (slice_index_or now n some) new given
          (was_standing b items first now n p some stand left program_here) takes ok))
    ]

pub left_more : (first now : List DomainAlone) (n : ℕ) (new : DomainAlone) → AreLeft first now n →
    AreLeft first (slice_set now n new) (n + 1)
left_more first now n new left = λ d other past.
    get_or-set_other now n d new other (λ (same : d ≡ n). omega (arith, past, same)) ∙ left d other (omega (arith, past))

-- the item does not fit the program of this number
pub refused_at : (b : Bundle) (items : List Item) (i : Item) (first now : List DomainAlone) (n : ℕ)
    (some new : DomainAlone) (given : Result (Unit {0}) Unfit) (f : Unfit) → ProgramsStand b items first →
    n < length now → length now ≡ length first → AreLeft first now n → TakesOne (slice_index_or now n some) new given i →
    given ≡ Err f → IsUnfitForProgram b (items ++ i ∷ []) f.step
refused_at b items i first now n some new given f stand low same left takes refused =
    let at = program_at b items first n stand (omega (arith, low, same)) in
    record {
      d = n;
      p = at.0;
      program = at.1;
      unfit = program_refused b items i n at.0 (slice_index_or now n some) new given f
          (was_standing b items first now n at.0 some stand left at.1) takes refused;
    }

-- all took it
pub all_given : (b : Bundle) (items : List Item) (i : Item) (first now : List DomainAlone) (n : ℕ) →
    ProgramsStand b items first → length now ≡ length first → length now ≤ n → AreGiven b items i now n →
    ProgramsStand b (items ++ i ∷ []) now
all_given b items i first now n stand same done given = record {
  count = same ∙ stand.count;
  each = λ d p other program. given d p other
      (let low = slice_get_within b.programs d p program in let count = stand.count in omega (arith, low, same, count, done))
      program;
}

-- The machines.

-- all machines took it
stand_alone : (b : Bundle) (items : List Item) (machines : Machines) →
    StandsForKernel machines.kernel b.kernel.schedule (kernel_alone b.kernel items) →
    (kernel_alone b.kernel items).unfit ≡ None → ProgramsStand b items machines.programs.items →
    StandAlone b items machines
stand_alone b items machines stands fits programs = record {
  kernel = stands;
  programs = programs;
  fits = record { kernel = fits; programs = programs_fit b items machines.programs.items programs };
}

-- no item was unfit for the machine of the kernel
machine_fits : (b : Bundle) (items : List Item) (machines : Machines) → StandAlone b items machines →
    unfit_step machines.kernel ≡ None
machine_fits b items machines stand =
    sym (ap (λ (s : kernel.KernelAlone). s.unfit) stand.kernel.state) ∙ stand.fits.kernel

-- what the kernel made of an item
pub kernel_took : {E : Type 0} (gave : E → E → List Piece → Type 0) (e e' : E) (b : Bundle) (items : List Item) (i : Item)
    (new : KernelAlone) (given : Result (Unit {0}) Unfit) →
    TakesItem gave e e' new given b.kernel.schedule (kernel_alone b.kernel items)
    (take_kernel_item b.kernel.schedule (kernel_alone b.kernel items) i) →
    StandsForKernel new b.kernel.schedule (kernel_alone b.kernel (items ++ i ∷ []))
    × (given ≡ answer_for (kernel_alone b.kernel (items ++ i ∷ [])).unfit)
kernel_took {E} gave e e' b items i new given took =
    let same = kernel_taken_more b.kernel.schedule (opened_kernel b.kernel) items i in (
      subst (λ (s : kernel.KernelAlone). StandsForKernel new b.kernel.schedule s) (sym same) took.gains.stands,
      took.answer ∙ ap (λ (s : kernel.KernelAlone). answer_for s.unfit) (sym same),
    )

-- the kernel did not take it
pub kernel_refused : (b : Bundle) (items : List Item) (i : Item) (given : Result (Unit {0}) Unfit) (f : Unfit) →
    given ≡ answer_for (kernel_alone b.kernel (items ++ i ∷ [])).unfit → given ≡ Err f →
    (kernel_alone b.kernel (items ++ i ∷ [])).unfit ≡ Some f.step
kernel_refused b items i given f answer err = kernel_unfits _ given f answer err

-- what the programs made of it, once the kernel took it
pub take_alone : (b : Bundle) (items : List Item) (i : Item) (old machines : Machines) (programs : List DomainAlone)
    (kernel_given given : Result (Unit {0}) Unfit) → programs ≡ machines.programs.items → StandAlone b items old →
    StandsForKernel machines.kernel b.kernel.schedule (kernel_alone b.kernel (items ++ i ∷ [])) →
    kernel_given ≡ answer_for (kernel_alone b.kernel (items ++ i ∷ [])).unfit → kernel_given ≡ Ok tt →
    (is_end i ≡ true → unfit_step old.kernel ≡ None → EndsAs old.kernel machines.kernel) →
    ProgramsTake b (items ++ i ∷ []) programs given → TakeAlone b items i machines given
take_alone b items i old machines programs kernel_given (Ok done) same stood stands answer ok ends take = record {
  stands = stand_alone b (items ++ i ∷ []) machines stands (kernel_fits _ kernel_given answer ok)
      (subst (λ (l : List DomainAlone). ProgramsStand b (items ++ i ∷ []) l) same take);
  step = record {
    ends = λ is number at. ends is (machine_fits b items old stood) b.kernel.schedule (kernel_alone b.kernel items)
        stood.kernel number at;
  };
}
take_alone b items i old machines programs kernel_given (Err f) same stood stands answer ok ends take = inr take

-- The machines before the first item.

pub program_stands : (b : Bundle) (d : ℕ) (p : Program) (machine : DomainAlone) →
    StandsForDomain d b.kernel.schedule machine (opened_domain d p) → ProgramStands b [] d p machine
unfolding domain_taken
program_stands b d p machine stands = record { stands = stands; fits = refl }

pub machines_stand : (b : Bundle) (machines : Machines) →
    StandsForKernel machines.kernel b.kernel.schedule (opened_kernel b.kernel) →
    ProgramsStand b [] machines.programs.items → StandAlone b [] machines
unfolding kernel_taken
machines_stand b machines stands programs = stand_alone b [] machines stands refl programs

-- the programs before this number were opened
abbrev pub AreOpened : Bundle → List DomainAlone → ℕ → Type 0
AreOpened b opened n = (d : ℕ) (p : Program) (other : DomainAlone) → d < n → slice_get b.programs d ≡ Some p →
    ProgramStands b [] d p (slice_index_or opened d other)

some_same : {A : Type 0} {x y : A} → Some x ≡ Some y → x ≡ y
some_same {A} {x} {y} same = cc

-- one program more was opened
pub opened_more : (b : Bundle) (opened : List DomainAlone) (n : ℕ) (p : Program) (machine : DomainAlone) →
    length opened ≡ n → slice_get b.programs n ≡ Some p →
    StandsForDomain n b.kernel.schedule machine (opened_domain n p) → AreOpened b opened n →
    AreOpened b (opened ++ machine ∷ []) (n + 1)
opened_more b opened n p machine count program stands before = λ d q other below at.
    elim (cases_lt d n) [
      | inl less ↦ subst (λ (m : DomainAlone). ProgramStands b [] d q m)
          (sym (get_or_append_left opened (machine ∷ []) other d (omega (arith, less, count)))) (before d q other less at)
      | inr past ↦
          let here : d ≡ n = omega (arith, below, past) in
          let same : q ≡ p = some_same (sym at ∙ (ap (λ (k : ℕ). slice_get b.programs k) here ∙ program)) in
          subst (λ (r : Program). ProgramStands b [] d r (slice_index_or (opened ++ machine ∷ []) d other)) (sym same)
          (subst (λ (k : ℕ). ProgramStands b [] k p (slice_index_or (opened ++ machine ∷ []) k other)) (sym here)
          (subst (λ (m : DomainAlone). ProgramStands b [] n p m)
          (sym (ap (λ (k : ℕ). slice_index_or (opened ++ machine ∷ []) k other) (sym count)
          ∙ get_or-append_seam opened machine [] other))
          (program_stands b n p machine stands)))
    ]

-- Contexts.

-- what is told of a context by its space and hart
abbrev pub standing_by : ℕ → Option (ℕ × Option HartId) → Option StandingContext
standing_by ctx None = None
standing_by ctx (Some told) = Some (record { space = domain_of ctx * 8 + told.0; on = told.1 })

standing_as : (ctx : ℕ) (o : Option Context) →
    standing_by ctx (option_map (λ (c : Context). (c.space, c.on)) o) ≡ standing ctx o
standing_as ctx None = refl
standing_as ctx (Some c) = refl

-- as its program tells
pub context_is : (b : Bundle) (items : List Item) (machines : Machines) (programs : List DomainAlone) (ctx : ℕ)
    (machine : DomainAlone) (r : Option (ℕ × Option HartId)) → StandAlone b items machines →
    programs ≡ machines.programs.items → ctx / 8 < length programs → machine ≡ slice_index_or programs (ctx / 8) machine →
    ((number : ℕ) (schedule : List ℕ) (s : domain.DomainAlone) → StandsForDomain number schedule machine s →
    s.unfit ≡ None →
    r ≡ option_map (λ (c : Context). (c.space, c.on)) (context_at s.part.domain.control.contexts (ctx % 8))) →
    standing_by ctx r ≡ standing_told b items ctx
context_is b items machines programs ctx machine r stand same low is tells =
    let at = program_at b items programs (ctx / 8)
    (subst (λ (l : List DomainAlone). ProgramsStand b items l) (sym same) stand.programs) low in
    let stands : ProgramStands b items (ctx / 8) at.0 machine =
    subst (λ (m : DomainAlone). ProgramStands b items (ctx / 8) at.0 m)
    (ap (λ (l : List DomainAlone). slice_index_or l (ctx / 8) machine) (sym same) ∙ sym is)
    (stand.programs.each (ctx / 8) at.0 machine at.1) in
    ap (λ (o : Option (ℕ × Option HartId)). standing_by ctx o)
    (tells (ctx / 8) b.kernel.schedule (domain_alone (ctx / 8) b.kernel.schedule at.0 items) stands.stands stands.fits)
    ∙ (standing_as ctx
    (context_at (domain_alone (ctx / 8) b.kernel.schedule at.0 items).part.domain.control.contexts (ctx % 8))
    ∙ ap (λ (p : Option Program). standing ctx (context_in b items ctx p)) (sym at.1))

-- what a program asks for
pub question_is : (b : Bundle) (items : List Item) (machines : Machines) (programs : List DomainAlone) (d n : ℕ)
    (machine : DomainAlone) (r : AskedAccess) → StandAlone b items machines → programs ≡ machines.programs.items →
    d < length programs → machine ≡ slice_index_or programs d machine →
    ((number : ℕ) (schedule : List ℕ) (s : domain.DomainAlone) → StandsForDomain number schedule machine s →
    s.unfit ≡ None → r ≡ access_in n s) → r ≡ question_in b items d n
question_is b items machines programs d n machine r stand same low is tells =
    let at = program_at b items programs d
    (subst (λ (l : List DomainAlone). ProgramsStand b items l) (sym same) stand.programs) low in
    let stands : ProgramStands b items d at.0 machine =
    subst (λ (m : DomainAlone). ProgramStands b items d at.0 m)
    (ap (λ (l : List DomainAlone). slice_index_or l d machine) (sym same) ∙ sym is)
    (stand.programs.each d at.0 machine at.1) in
    tells d b.kernel.schedule (domain_alone d b.kernel.schedule at.0 items) stands.stands stands.fits
    ∙ ap (λ (p : Option Program). access_if b items d n p) (sym at.1)

-- no program of this number asks
pub question_past : (b : Bundle) (items : List Item) (machines : Machines) (programs : List DomainAlone) (d n : ℕ) →
    StandAlone b items machines → programs ≡ machines.programs.items → length programs ≤ d →
    asked.Nothing ≡ question_in b items d n
question_past b items machines programs d n stand same past =
    let all = ap (λ (l : List DomainAlone). length l) same in
    let count = stand.programs.count in
    sym (ap (λ (p : Option Program). access_if b items d n p)
    (slice_get_past b.programs d (omega (arith, past, all, count))))

-- there is no such program
pub context_past : (b : Bundle) (items : List Item) (machines : Machines) (programs : List DomainAlone) (ctx : ℕ) →
    StandAlone b items machines → programs ≡ machines.programs.items → length programs ≤ ctx / 8 →
    None ≡ standing_told b items ctx
context_past b items machines programs ctx stand same past =
    let all = ap (λ (l : List DomainAlone). length l) same in
    let count = stand.programs.count in
    sym (ap (λ (p : Option Program). standing ctx (context_in b items ctx p))
    (slice_get_past b.programs (ctx / 8) (omega (arith, past, all, count))))

-- The resources of a program.

pub resource_is : (b : Bundle) (items : List Item) (machines : Machines) (programs : List DomainAlone) (d n : ℕ)
    (machine : DomainAlone) (r : Bool) → StandAlone b items machines → programs ≡ machines.programs.items →
    d < length programs → machine ≡ slice_index_or programs d machine →
    ((number : ℕ) (schedule : List ℕ) (s : domain.DomainAlone) → StandsForDomain number schedule machine s →
    s.unfit ≡ None → r ≡ is_some (resource_at s.part.domain.control.resources n)) → r ≡ has_resource b items d n
resource_is b items machines programs d n machine r stand same low is tells =
    let at = program_at b items programs d
    (subst (λ (l : List DomainAlone). ProgramsStand b items l) (sym same) stand.programs) low in
    let stands : ProgramStands b items d at.0 machine =
    subst (λ (m : DomainAlone). ProgramStands b items d at.0 m)
    (ap (λ (l : List DomainAlone). slice_index_or l d machine) (sym same) ∙ sym is)
    (stand.programs.each d at.0 machine at.1) in
    tells d b.kernel.schedule (domain_alone d b.kernel.schedule at.0 items) stands.stands stands.fits
    ∙ ap (λ (p : Option Program). resource_in b items d n p) (sym at.1)

-- there is no such program
pub resource_past : (b : Bundle) (items : List Item) (machines : Machines) (programs : List DomainAlone) (d n : ℕ) →
    StandAlone b items machines → programs ≡ machines.programs.items → length programs ≤ d →
    false ≡ has_resource b items d n
resource_past b items machines programs d n stand same past =
    let all = ap (λ (l : List DomainAlone). length l) same in
    let count = stand.programs.count in
    sym (ap (λ (p : Option Program). resource_in b items d n p)
    (slice_get_past b.programs d (omega (arith, past, all, count))))

-- Harts.

hart_past : (harts : List Hart) (number : ℕ) → length harts ≤ number → started 0 0 ≡ slice_index_or harts number (started 0 0)
hart_past harts number past =
    sym (sym (unwrap_or-slice_get harts number (started 0 0))
    ∙ ap (λ (h : Option Hart). unwrap_or h (started 0 0)) (slice_get_past harts number past))

pub words_past : (b : Bundle) (items : List Item) (harts : List Hart) (number : ℕ) (h : Hart) (words : HartWords) →
    harts ≡ (kernel_alone b.kernel items).kernel.harts → length harts ≤ number → h ≡ started 0 0 → words ≡ words_of h →
    words ≡ words_of (kernel_hart (kernel_alone b.kernel items).kernel number)
words_past b items harts number h words same past start is =
    is ∙ (ap (λ (x : Hart). words_of x) (start ∙ hart_past harts number past)
    ∙ ap (λ (l : List Hart). words_of (slice_index_or l number (started 0 0))) same)
