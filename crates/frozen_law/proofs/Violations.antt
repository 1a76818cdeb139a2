-- What ended a program names a page of it and a frame of RAM, at every moment of a run: a step presented both.
use Rattle.std.proofs.Common.{◌≡◌, ◌∙◌, ℕ, zero, suc, ◌<◌, nat_le, nat_lt, true, List, [], ◌∷◌, length, take, slice_get, slice_index_or, Option, Some, None, IfSome, Ok, refl, sym, ap, subst}
use Rattle.std.specs.Result.{result_map_both}
use Rattle.std.proofs.lemmas.Bool.{and_parts, ltb-true}
use Rattle.std.proofs.lemmas.List.{length-set}
use Rattle.cloak_base.specs.Constants.{ram_start, frame_of}
use Rattle.cloak_base.specs.declared.causes.Stop.{Stop}
use Rattle.cloak_base.specs.declared.causes.Violation.{Violation}
use Rattle.cloak_base.specs.declared.causes.Violation.TheVariants as violation
use Rattle.cloak_base.specs.declared.names.Kind.{Kind}
use Rattle.cloak_base.specs.declared.names.Kind.TheVariants.{Fetch}
use Rattle.cloak_base.specs.declared.names.PageId.{PageId}
use Rattle.cloak_model.specs.Cloaking.{CloakedMemory}
use Rattle.cloak_model.specs.PageMoves.{copy_pages, drop_pages}
use Rattle.cloak_model.specs.declared.answer.Answer.{Answer}
use Rattle.cloak_model.specs.declared.image.Bundle.{Bundle}
use Rattle.cloak_model.specs.Asking.{Told}
use Rattle.cloak_model.specs.Beginning.{Beginning, opening_from}
use Rattle.cloak_model.specs.Bundle.{IsInGrammar}
use Rattle.cloak_model.specs.Calls.{area, byte_address}
use Rattle.cloak_model.specs.Contexts.{Context, domain_of}
use Rattle.cloak_model.specs.DomainState.{Domain}
use Rattle.cloak_model.specs.Joint.{Moment, Turn, joint_step, after_turn, stop_of}
use Rattle.cloak_model.specs.Memory.{is_in_ram}
use Rattle.cloak_model.specs.Opening.{RunEdge, Lack}
use Rattle.cloak_model.specs.Run.{Run, run_from, run_of, unless_stopped, turns_from, joint_after, first_moment, closing}
use Rattle.cloak_model.specs.Walk.{Walk}
use Rattle.cloak_model.specs.World.{World, Cloaked, ram_of}
use Rattle.cause_law.specs.Causes.{EndIsPresented, moment_at}
use Rattle.cause_law.specs.Presented.{AsksAt, Fetches, LoadsAt, StoresAt, AtomicAt, CopiesFrom, CopiesTo, PresentsPage, world_inside}
use Rattle.cause_law.proofs.Runs.{end_has_cause}
use Rattle.kernel_isolation.specs.Isolation.{joint_until}
use Rattle.kernel_isolation.proofs.Isolated.{of_opened}
use Rattle.kernel_isolation.proofs.Leading.{leads_inside}
use Rattle.script_fold.proofs.Questions.{Kept, opens_of, replies_of, keeps_reach, keeps_get, keeps_led_inside}
use Rattle.limit_law.proofs.Pages.{IsPage, pages_there}
use Rattle.limit_law.proofs.Runs.{runs_keep_limits}
use Rattle.chain_law.proofs.Zeros.{settle_fresh, offer_offered}
use Rattle.frozen_law.specs.Violations.{NamesPageOf, IsViolationOf, EndsAreInRange}
use Rattle.frozen_law.proofs.Counts.{are_counted}
use Rattle.limit_law.proofs.Worlds.{InWorld, KeepsIn, kept_in}

-- The first steps of a run are a run.

record Shorter (budget n : ℕ) (m : Moment) : Type 0 where
  steps : ℕ
  same : take n (turns_from budget m) ≡ turns_from steps m

take_none : (n : ℕ) → take n (let none : List Turn = [] in none) ≡ []
take_none zero = refl
take_none (suc n) = refl

record ViolationsFollow (s : Option Stop) (budget n : ℕ) (m : Moment) : Type 0 where
  more : ℕ
  same : take n (unless_stopped s (turns_from budget) m) ≡ unless_stopped s (turns_from more) m

follows : (s : Option Stop) (budget n : ℕ) (m : Moment) → Shorter budget n m → ViolationsFollow s budget n m
follows None budget n m shorter = record { more = shorter.steps; same = shorter.same }
follows (Some cause) budget n m shorter = record { more = 0; same = take_none n }

shorter : (budget n : ℕ) (m : Moment) → Shorter budget n m
unfolding turns_from
shorter zero n m = record { steps = 0; same = take_none n }
shorter (suc budget) zero m = record { steps = 0; same = refl }
shorter (suc budget) (suc n) m =
    let t : Turn = joint_step m in
    let f = follows (stop_of t) budget n (after_turn m t) (shorter budget n (after_turn m t)) in
    record { steps = suc f.more; same = ap (λ (ts : List Turn). t ∷ ts) f.same }

-- A program that has ended at a moment ended in a step of a run from the same beginning.
record EndedSo (b : Bundle) (from : Beginning) (d : ℕ) (v : Violation) : Type 0 where
  budget : ℕ
  run : Run
  runs : run_from b from budget ≡ Ok run
  presented : EndIsPresented b run d v

abbrev EndsSo : Bundle → Beginning → Run → Type 0
EndsSo b from r =
    (n d : ℕ) (v : Violation) → slice_get (joint_until n r).ended d ≡ Some (Some v) → EndedSo b from d v

closed_ended : (b : Bundle) (budget : ℕ) (o : RunEdge) →
    (run_of b budget o).closed.joint.ended ≡ (joint_after o.joint (turns_from budget (first_moment b o.joint))).ended
unfolding run_of closing
closed_ended b budget o = refl

opened_ends : (b : Bundle) (from : Beginning) (budget : ℕ) (o : RunEdge) → opening_from b from ≡ Ok o →
    EndsSo b from (run_of b budget o)
unfolding run_of
opened_ends b from budget o opens n d v there =
    let s = shorter budget n (first_moment b o.joint) in
    let runs : run_from b from s.steps ≡ Ok (run_of b s.steps o) =
    ap (result_map_both (run_of b s.steps) (λ (lack : Lack). lack)) opens in
    record {
      budget = s.steps;
      run = run_of b s.steps o;
      runs = runs;
      presented = end_has_cause b from s.steps (run_of b s.steps o) runs d v
          (ap (λ (l : List (Option Violation)). slice_get l d) (closed_ended b s.steps o)
          ∙ subst (λ (ts : List Turn). slice_get (joint_after o.joint ts).ended d ≡ Some (Some v)) s.same there);
    }

ends_so : (b : Bundle) (from : Beginning) (budget : ℕ) (r : Run) → run_from b from budget ≡ Ok r → EndsSo b from r
ends_so b from budget r is =
    of_opened b budget (EndsSo b from) (opening_from b from) r is (λ o opens. opened_ends b from budget o opens)

-- Questions leave as many frames.

abbrev CountsFrames : ℕ → CloakedMemory → Type 0
CountsFrames n m = length m.ram ≡ n

abbrev HasFrames : ℕ → World → Type 0
HasFrames n w = InWorld (CountsFrames n) w

abbrev Frames : ℕ → World → World → Type 0
Frames n = KeepsIn (CountsFrames n)

changes : (n : ℕ) → Kept (Frames n)
unfolding copy_pages drop_pages
changes n = kept_in (CountsFrames n) (record {
  settles = λ f m here. (settle_fresh f m).frames ∙ here;
  offers = λ q g write m here. (offer_offered q g write m).stay.frames ∙ here;
  stores = λ pa width value m here. length-set m.ram (frame_of pa) _ ∙ here;
  writes = λ plain m here. here;
  copies = λ d from to m here. here;
  drops = λ d resource m here. here;
})

-- the memory in which a step asks for a page
asks_frames : (n : ℕ) (d : Domain) (c : Context) (begun : World) (va : ℕ) (kind : Kind) (w : World) →
    AsksAt d c begun va kind w → HasFrames n begun → HasFrames n w
asks_frames n d c begun va kind w (Fetches plain at is same) here = subst (HasFrames n) (sym same) here
asks_frames n d c begun va kind w (LoadsAt word i ex decodes rd width signed does is) here =
    subst (λ (t : Told Answer). HasFrames n t.world) ex.granted
    ((keeps_reach (Frames n) (changes n) ex.page c.pc Fetch begun).by here)
asks_frames n d c begun va kind w (StoresAt word i ex decodes width value does is) here =
    subst (λ (t : Told Answer). HasFrames n t.world) ex.granted
    ((keeps_reach (Frames n) (changes n) ex.page c.pc Fetch begun).by here)
asks_frames n d c begun va kind w (AtomicAt word a ex decodes at aligned is) here =
    subst (λ (t : Told Answer). HasFrames n t.world) ex.granted
    ((keeps_reach (Frames n) (changes n) ex.page c.pc Fetch begun).by here)
asks_frames n d c begun va kind w (CopiesFrom done phase more at plain is same) here =
    subst (HasFrames n) (sym same) here
asks_frames n d c begun va kind w (CopiesTo done total byte phase more at plain got is) here =
    subst (λ (t : Told Answer). HasFrames n t.world) got
    ((keeps_get (Frames n) (replies_of (Frames n) (changes n)) (byte_address (area c) done) 1 begun).by here)

-- The law.

some_page : (o : Option PageId) (q : PageId) → o ≡ Some q → IfSome o IsPage → IsPage q
some_page None q is here = absurd cc
some_page (Some p) q is here = let same : p ≡ q = cc in subst IsPage same here

module _ (b : Bundle) (from : Beginning) (budget : ℕ) (r : Run) (grammar : IsInGrammar b)
    (runs : run_from b from budget ≡ Ok r)
  where
    page_in_range : (before d : ℕ) (q : PageId) (f : ℕ) → q.domain ≡ d → PresentsPage (moment_at b r before) q f →
        NamesPageOf b.kernel.frames d q f
    page_in_range before d q f own p =
        let s = p.step in
        let n = b.kernel.frames in
        let keeps = runs_keep_limits b from budget r grammar runs before (domain_of s.ctx) s.domain s.program in
        let page = some_page _ q p.lies
        (pages_there s.domain.control.number s.domain.control.resources s.context.space keeps.resources p.va) in
        let counted = are_counted b from budget r runs before in
        let at = asks_frames n s.domain s.context (world_inside (moment_at b r before) s) p.va p.kind (Cloaked p.at) p.asks
        counted.frames in
        let pa : ℕ = p.finds.walked.pa in
        let found = subst (λ (t : Told Walk). HasFrames n t.world) p.finds.leads
        ((keeps_led_inside (Frames n) (opens_of (Frames n) (changes n)) p.va p.kind (Cloaked p.at)).by at) in
        let led = ((leads_inside p.va p.kind (Cloaked p.at)).inside p.finds.walked
        (ap (λ (t : Told Walk). t.answer) p.finds.leads)).0 in
        let inside : is_in_ram p.finds.found.memory.ram pa ≡ true =
        subst (λ (t : Told Walk). is_in_ram (ram_of t.world) pa ≡ true) p.finds.leads led in
        let parts = and_parts (nat_le ram_start pa) (nat_lt (frame_of pa) (length p.finds.found.memory.ram)) inside in
        record {
          domain = own;
          resource = page.resource;
          page = page.page;
          frame = subst (λ (k : ℕ). k < n) p.finds.frame
              (subst (λ (k : ℕ). frame_of pa < k) found
              (ltb-true (frame_of pa) (length p.finds.found.memory.ram) parts.1));
        }

    end_in_range : (d : ℕ) (v : Violation) → EndIsPresented b r d v → IsViolationOf b.kernel.frames d v
    end_in_range d (violation.Page q frame) e = page_in_range e.before d q frame.0 e.own e.presents.presents
    end_in_range d _ e = tt

listed : (ended : List (Option Violation)) (d : ℕ) (v : Violation) → slice_index_or ended d None ≡ Some v →
    slice_get ended d ≡ Some (Some v)
listed [] d v is = absurd cc
listed (x ∷ ended) zero v is = ap Some is
listed (x ∷ ended) (suc d) v is = listed ended d v is

by_place : (b : Bundle) (from : Beginning) (budget : ℕ) (r : Run) → IsInGrammar b → run_from b from budget ≡ Ok r →
    (n d : ℕ) (o : Option Violation) → slice_index_or (joint_until n r).ended d None ≡ o →
    IfSome o (IsViolationOf b.kernel.frames d)
by_place b from budget r grammar is n d None place = tt
by_place b from budget r grammar is n d (Some v) place =
    let e = ends_so b from budget r is n d v (listed (joint_until n r).ended d v place) in
    end_in_range b from e.budget e.run grammar e.runs d v e.presented

pub ends_are_in_range : EndsAreInRange
ends_are_in_range b from budget r grammar is n d =
    by_place b from budget r grammar is n d (slice_index_or (joint_until n r).ended d None) refl
