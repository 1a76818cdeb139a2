-- A program that runs alone has ended exactly if it took its end.
use Rattle.std.proofs.Common.{◌≡◌, ◌∙◌, ◌<◌, ◌==◌, ◌||◌, ℕ, Bool, true, false, if◌then◌else◌, List, [], ◌∷◌, ◌++◌, length, Option, Some, None, Result, Ok, Err, refl, sym, ap, subst, arith}
use Rattle.std.specs.Prelude.{is_some}
use Rattle.std.specs.List.{list_any}
use Rattle.std.proofs.lemmas.Option.{same_Some, slice_get_within}
use Rattle.cloak_model.specs.declared.answer.Answer.{Answer}
use Rattle.cloak_model.specs.declared.answer.Answer.TheVariants as answer
use Rattle.cloak_model.specs.declared.image.Program.{Program}
use Rattle.cloak_model.specs.declared.resource.MapFault.{MapFault}
use Rattle.cloak_model.specs.Beginning.{Beginning, Fresh, Stored}
use Rattle.cloak_model.specs.DomainAlone.{Between, DomainAlone, DomainStage, Done, Other, Over, Running, Stopped, Tried, Wants, Wrong, answered_by, domain_alone_from, domain_step_begun, domain_step_ended, domain_taken, domain_takes, domain_unfit, handed_of, is_granted, is_none_left, made_by, opened_with_part, part_from, resumed_by, started_part, take_answer, take_domain_item, take_domain_step, take_ended, take_resume, take_timer, tried, try_with, with_file, with_files, with_given}
use Rattle.cloak_model.specs.Contexts.{domain_of, slot_of}
use Rattle.cloak_model.specs.DomainState.{Domain, started_control, started_domain}
use Rattle.cloak_model.specs.DomainStep.{Resumes, domain_step}
use Rattle.cloak_model.specs.Ending.{ended_domain}
use Rattle.cloak_model.specs.Files.{file_resource}
use Rattle.cloak_model.specs.Items.{Item}
use Rattle.cloak_model.specs.Items as item
use Rattle.cloak_model.specs.Parts.{DomainPart, part_of}
use Rattle.cloak_model.specs.Resources.{Resources}
use Rattle.cloak_model.specs.Run.{Run, exchange}
use Rattle.cloak_model.specs.StoredFiles.{FileContents, PageContent}
use Rattle.cloak_model.specs.World.{Alone, Handed}
use Rattle.record_law.proofs.Staying.{program_stays}
use Rattle.domain_isolation.proofs.Isolated.{domain_ends_alone}
use Rattle.cause_law.proofs.Over.{over_interrupt, over_step, resumed_over}
use Rattle.cause_law.proofs.Runs.{listed_have_ended}
use Rattle.recorded_law.specs.Recorded.{EndsAreRecorded, is_end_of}

abbrev pub has_ended : DomainAlone → Bool
has_ended s = s.part.domain.control.ended

-- A step of a context.

-- a step that is over did not end the program
abbrev Keeps : Bool → Tried → Type 0
Keeps over (Over p) = p.domain.control.ended ≡ over
Keeps over Wants = Unit {0}
Keeps over Wrong = Unit {0}

tried_if : (unfit none : Bool) (d : Domain) (h : Handed) → Keeps d.control.ended
    (if unfit then (if none then Wants else Wrong) else
    (if none then Over (record { domain = d; plain = h.plain }) else Wrong))
tried_if true true d h = tt
tried_if true false d h = tt
tried_if false true d h = refl
tried_if false false d h = tt

tried_keeps : (d : Domain) (h : Handed) → Keeps d.control.ended (tried d h)
unfolding tried
tried_keeps d h = tried_if h.unfit (is_none_left h.answers) d h

try_keeps : (slot : ℕ) (answers : List Answer) (p : DomainPart) → Keeps p.domain.control.ended (try_with slot answers p)
unfolding try_with
try_keeps slot answers p =
    let told = domain_step slot p.domain (Alone (record { plain = p.plain; answers = answers; unfit = false })) in
    subst (λ (over : Bool). Keeps over (tried told.answer.domain (handed_of told.world)))
    (over_step slot p.domain (Alone (record { plain = p.plain; answers = answers; unfit = false })))
    (tried_keeps told.answer.domain (handed_of told.world))

-- Single items, but for the end.

answered_keeps : (slot : ℕ) (answers : List Answer) (a : Answer) (t : Tried) (s : DomainAlone) → Keeps (has_ended s) t →
    has_ended (answered_by slot answers a t s) ≡ has_ended s
unfolding answered_by
answered_keeps slot answers a (Over p) s keeps = keeps
answered_keeps slot answers a Wants s keeps = refl
answered_keeps slot answers a Wrong s keeps = refl

answer_keeps : (stage : DomainStage) (a : Answer) (s : DomainAlone) → has_ended (take_answer stage a s) ≡ has_ended s
unfolding take_answer
answer_keeps (Running slot answers) a s =
    answered_keeps slot answers a _ s (try_keeps slot (answers ++ a ∷ []) s.part)
answer_keeps Between a s = refl
answer_keeps (Other hart) a s = refl
answer_keeps Done a s = refl
answer_keeps Stopped a s = refl

timer_keeps : (stage : DomainStage) (s : DomainAlone) → has_ended (take_timer stage s) ≡ has_ended s
unfolding take_timer
timer_keeps (Running slot []) s = over_interrupt slot s.part.domain.control
timer_keeps (Running slot (a ∷ answers)) s = refl
timer_keeps Between s = refl
timer_keeps (Other hart) s = refl
timer_keeps Done s = refl
timer_keeps Stopped s = refl

-- one or the other
either_keeps : (test : Bool) (s x y : DomainAlone) → has_ended x ≡ has_ended s → has_ended y ≡ has_ended s →
    has_ended (if test then x else y) ≡ has_ended s
either_keeps true s x y one other = one
either_keeps false s x y one other = other

granted_keeps : (r : Resumes) (s : DomainAlone) → r.control.ended ≡ has_ended s → has_ended (resumed_by r s) ≡ has_ended s
unfolding resumed_by
granted_keeps r s over = either_keeps (is_granted r.answer) s _ (domain_unfit s) over refl

resume_keeps : (d : ℕ) (stage : DomainStage) (ctx reply : ℕ) (s : DomainAlone) →
    has_ended (take_resume d stage ctx reply s) ≡ has_ended s
unfolding take_resume
resume_keeps d (Other hart) ctx reply s =
    either_keeps (domain_of ctx == d) s _ (domain_unfit s)
    (granted_keeps _ s (resumed_over (slot_of ctx) hart reply s.part.domain.control)) refl
resume_keeps d Between ctx reply s = refl
resume_keeps d (Running slot answers) ctx reply s = refl
resume_keeps d Done ctx reply s = refl
resume_keeps d Stopped ctx reply s = refl

made_keeps : (t : Tried) (s : DomainAlone) → Keeps (has_ended s) t → has_ended (made_by t s) ≡ has_ended s
unfolding made_by
made_keeps (Over p) s keeps = keeps
made_keeps Wants s keeps = refl
made_keeps Wrong s keeps = refl

end_keeps : (stage : DomainStage) (s : DomainAlone) → has_ended (domain_step_ended stage s) ≡ has_ended s
unfolding domain_step_ended
end_keeps (Running slot answers) s = made_keeps _ s (try_keeps slot answers s.part)
end_keeps Between s = refl
end_keeps (Other hart) s = refl
end_keeps Done s = refl
end_keeps Stopped s = refl

begun_keeps : (schedule : List ℕ) (number : ℕ) (s t : DomainAlone) → has_ended t ≡ has_ended s →
    has_ended (if is_some t.unfit then t else domain_step_begun schedule number t) ≡ has_ended s
unfolding domain_step_begun
begun_keeps schedule number s t same = either_keeps (is_some t.unfit) s t _ same same

step_keeps : (schedule : List ℕ) (number : ℕ) (stage : DomainStage) (s : DomainAlone) →
    has_ended (take_domain_step schedule number stage s) ≡ has_ended s
unfolding take_domain_step
step_keeps schedule number Stopped s = refl
step_keeps schedule number (Running slot answers) s =
    begun_keeps schedule number s _ (end_keeps (Running slot answers) s)
step_keeps schedule number Between s = begun_keeps schedule number s _ (end_keeps Between s)
step_keeps schedule number (Other hart) s = begun_keeps schedule number s _ (end_keeps (Other hart) s)
step_keeps schedule number Done s = begun_keeps schedule number s _ (end_keeps Done s)

-- The end.

gone : (d : ℕ) (over : Bool) (stage : DomainStage) (s : DomainAlone) → (take_ended d over stage s).unfit ≡ None →
    has_ended (take_ended d over stage s) ≡ true
unfolding take_ended ended_domain
gone d true (Other hart) s fit = let clash : Some s.steps ≡ None = fit in absurd cc
gone d false (Other hart) s fit = refl
gone d true Stopped s fit = refl
gone d false Stopped s fit = refl
gone d true Between s fit = let clash : Some s.steps ≡ None = fit in absurd cc
gone d false Between s fit = let clash : Some s.steps ≡ None = fit in absurd cc
gone d true (Running slot answers) s fit = let clash : Some s.steps ≡ None = fit in absurd cc
gone d false (Running slot answers) s fit = let clash : Some s.steps ≡ None = fit in absurd cc
gone d true Done s fit = let clash : Some s.steps ≡ None = fit in absurd cc
gone d false Done s fit = let clash : Some s.steps ≡ None = fit in absurd cc

or_false : (b : Bool) → b ≡ (b || false)
or_false true = refl
or_false false = refl

or_true : (b : Bool) → true ≡ (b || true)
or_true true = refl
or_true false = refl

own_end : (own : Bool) (d : ℕ) (s : DomainAlone) →
    (if own then take_ended d (has_ended s) s.stage s else s).unfit ≡ None →
    has_ended (if own then take_ended d (has_ended s) s.stage s else s) ≡ (has_ended s || own)
own_end true d s fit = gone d (has_ended s) s.stage s fit ∙ or_true (has_ended s)
own_end false d s fit = or_false (has_ended s)

own_keeps : (own : Bool) (s x : DomainAlone) → has_ended x ≡ has_ended s →
    has_ended (if own then x else s) ≡ (has_ended s || false)
own_keeps own s x same = either_keeps own s x s same refl ∙ or_false (has_ended s)

-- one item
takes_end : (d : ℕ) (schedule : List ℕ) (i : Item) (s : DomainAlone) → (domain_takes d schedule i s).unfit ≡ None →
    has_ended (domain_takes d schedule i s) ≡ (has_ended s || is_end_of d i)
unfolding domain_takes
takes_end d schedule (item.Step number) s fit = step_keeps schedule number s.stage s ∙ or_false (has_ended s)
takes_end d schedule (item.Close steps) s fit = end_keeps s.stage s ∙ or_false (has_ended s)
takes_end d schedule (item.Ok domain) s fit = own_keeps (domain == d) s _ (answer_keeps s.stage answer.Ok s)
takes_end d schedule (item.Absent domain cause) s fit =
    own_keeps (domain == d) s _ (answer_keeps s.stage (answer.Absent cause) s)
takes_end d schedule (item.Word domain value) s fit =
    own_keeps (domain == d) s _ (answer_keeps s.stage (answer.Word value) s)
takes_end d schedule (item.Stopped domain) s fit = own_keeps (domain == d) s _ (answer_keeps s.stage answer.Stopped s)
takes_end d schedule (item.Timer domain) s fit = own_keeps (domain == d) s _ (timer_keeps s.stage s)
takes_end d schedule (item.Resume domain ctx reply) s fit =
    own_keeps (domain == d) s _ (resume_keeps d s.stage ctx reply s)
takes_end d schedule (item.Ended domain) s fit = own_end (domain == d) d s fit
takes_end d schedule (item.Cipher frame bytes) s fit = or_false (has_ended s)
takes_end d schedule (item.Put address width value) s fit = or_false (has_ended s)
takes_end d schedule (item.Leave shown) s fit = or_false (has_ended s)
takes_end d schedule item.End s fit = or_false (has_ended s)

fit_takes : (d : ℕ) (schedule : List ℕ) (i : Item) (s : DomainAlone) (o : Option ℕ) → s.unfit ≡ o → o ≡ None →
    (take_domain_item d schedule s i).unfit ≡ None →
    has_ended (take_domain_item d schedule s i) ≡ (has_ended s || is_end_of d i)
unfolding take_domain_item
fit_takes d schedule i s o is none fit =
    let plain : is_some s.unfit ≡ false = ap (λ (x : Option ℕ). is_some x) (is ∙ none) in
    let same : (if is_some s.unfit then s else domain_takes d schedule i s) ≡ domain_takes d schedule i s =
    ap (λ (t : Bool). if t then s else domain_takes d schedule i s) plain in
    ap (λ (x : DomainAlone). has_ended x) same
    ∙ takes_end d schedule i s (sym (ap (λ (x : DomainAlone). x.unfit) same) ∙ fit)

-- Many items, of which each fits.

first_fits : (d : ℕ) (schedule : List ℕ) (s : DomainAlone) (i : Item) (items : List Item) (o : Option ℕ) →
    (take_domain_item d schedule s i).unfit ≡ o → (domain_taken d schedule s (i ∷ items)).unfit ≡ None → o ≡ None
unfolding domain_taken
first_fits d schedule s i items None is fit = refl
first_fits d schedule s i items (Some step) is fit =
    let stays : (domain_taken d schedule s (i ∷ items)).unfit ≡ Some step =
    program_stays d schedule s (i ∷ []) items step is in
    let clash : Some step ≡ None = sym stays ∙ fit in absurd cc

or_assoc : (a b c : Bool) → ((a || b) || c) ≡ (a || (b || c))
or_assoc true b c = refl
or_assoc false b c = refl

taken_end : (d : ℕ) (schedule : List ℕ) (s : DomainAlone) (items : List Item) → s.unfit ≡ None →
    (domain_taken d schedule s items).unfit ≡ None →
    has_ended (domain_taken d schedule s items) ≡ (has_ended s || list_any (is_end_of d) items)
unfolding domain_taken
taken_end d schedule s [] fit all = or_false (has_ended s)
taken_end d schedule s (i ∷ items) fit all =
    let next = take_domain_item d schedule s i in
    let first : next.unfit ≡ None = first_fits d schedule s i items next.unfit refl all in
    let rest = list_any (is_end_of d) items in
    taken_end d schedule next items first all
    ∙ (ap (λ (b : Bool). b || rest) (fit_takes d schedule i s None fit refl first)
    ∙ or_assoc (has_ended s) (is_end_of d i) rest)

-- As a program begins, it has not ended.

given_goes_on : (pages : List (Option PageContent)) (made : Result ℕ MapFault) (r : Resources) (p : DomainPart) →
    (with_given pages made r p).domain.control.ended ≡ p.domain.control.ended
unfolding with_given
given_goes_on pages (Err fault) r p = refl
given_goes_on pages (Ok n) r p = refl

file_if : (own : Bool) (pages : List (Option PageContent)) (made : Result ℕ MapFault) (r : Resources) (p : DomainPart) →
    (if own then with_given pages made r p else p).domain.control.ended ≡ p.domain.control.ended
file_if true pages made r p = given_goes_on pages made r p
file_if false pages made r p = refl

files_go_on : (d : ℕ) (files : List FileContents) (p : DomainPart) →
    (with_files d files p).domain.control.ended ≡ p.domain.control.ended
unfolding with_files
files_go_on d [] p = refl
files_go_on d (f ∷ files) p =
    files_go_on d files (with_file d f p)
    ∙ (let made = file_resource f.number (length f.pages) p.domain.control.resources in
    file_if (f.domain == d) f.pages made.answer made.resources p)

started_goes_on : (d : ℕ) (p : Program) → (started_part d p).domain.control.ended ≡ false
unfolding started_domain started_control
started_goes_on d p = refl

begins : (d : ℕ) (from : Beginning) (p : Program) → (part_from d from p).domain.control.ended ≡ false
begins d (Fresh stream) p = started_goes_on d p
begins d (Stored keys stream files) p = files_go_on d files (started_part d p) ∙ started_goes_on d p

-- The law.

-- the program's part of the joint machine, by the domain that is there
part_there : (s : DomainAlone) (d : ℕ) (r : Run) (found : Option Domain) →
    Some s.part ≡ part_of r.closed.joint d found → found ≡ Some s.part.domain
part_there s d r None same = let clash : Some s.part ≡ None = same in absurd cc
part_there s d r (Some domain) same = ap (λ (x : Domain). Some x) (sym (ap (λ (x : DomainPart). x.domain) (same_Some _ _ same)))

pub ends_are_recorded : EndsAreRecorded
ends_are_recorded b d p from r hosts =
    let schedule = b.kernel.schedule in
    let opened = opened_with_part (part_from d from p) in
    let alone = domain_alone_from d schedule (part_from d from p) (exchange r) in
    let ends = domain_ends_alone b d p from r hosts in
    let ended : has_ended alone ≡ (has_ended opened || list_any (is_end_of d) (exchange r)) =
    taken_end d schedule opened (exchange r) refl ends.fits in
    let low : d < length b.programs = slice_get_within b.programs d p hosts.program in
    let few = hosts.in_grammar.few_programs in
    sym (ap (λ (x : Bool). x || list_any (is_end_of d) (exchange r)) (begins d from p))
    ∙ (sym ended
    ∙ listed_have_ended b from hosts.budget r hosts.runs d alone.part.domain (omega (arith, low, few))
    (part_there alone d r _ ends.same))
