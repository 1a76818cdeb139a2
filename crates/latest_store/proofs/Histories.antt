-- A run from its opening on, and the law.
use Rattle.std.proofs.Common.{◌≡◌, ◌≢◌, ◌∙◌, ℕ, zero, suc, ◌+◌, ◌-◌, ◌*◌, ◌%◌, true, ◌<◌, ◌≤◌, cond, List, [], ◌∷◌, length, drop, slice_get, slice_index, Option, Some, None, Ok, refl, sym, ap, subst, arith, length-drop, take_all, All, Bool, false}
use Rattle.std.proofs.lemmas.List.{length-take}
use Rattle.std.proofs.lemmas.List.Elements.{All-nil, All-head, All-tail}
use Rattle.cloak_base.specs.Random.{Random}
use Rattle.cloak_base.proofs.Pages.{same_page-other}
use Rattle.cloak_base.specs.declared.names.PageId.{PageId}
use Rattle.cloak_model.specs.declared.image.Bundle.{Bundle}
use Rattle.cloak_model.specs.declared.image.Program.{Program}
use Rattle.cloak_model.specs.Beginning.{Beginning, Fresh, Stored, IsBeginning, files_added, stored_keys, opening_from}
use Rattle.cloak_model.specs.Bundle.{IsInGrammar, IsProgramIn}
use Rattle.cloak_model.specs.Cloaking.{CloakedMemory}
use Rattle.cloak_model.specs.DomainState.{Domain, started_control, started_domain}
use Rattle.cloak_model.specs.Joint.{Moment, Turn, hart_in, joint_step}
use Rattle.cloak_model.specs.Ledger.{Keys}
use Rattle.cloak_model.specs.Opening.{program_page, place_pages, place_programs, started_domains, started_memory, started_joint, RunEdge}
use Rattle.cloak_model.specs.PageMoves.{place}
use Rattle.cloak_model.specs.Parts.{Joint}
use Rattle.cloak_model.specs.Resources.{Resources, resource_at, started_resources}
use Rattle.cloak_model.specs.Run.{Run, turns_from, run_from, joint_after, first_moment, run_of, closing}
use Rattle.cloak_model.specs.StoredFiles.{HasSealedPages}
use Rattle.kernel_isolation.specs.Isolation.{joint_until}
use Rattle.kernel_isolation.proofs.FilesAdded as added
use Rattle.kernel_isolation.proofs.FilesAdded.{opens_over}
use Rattle.kernel_isolation.proofs.Isolated.{until_read, of_opened}
use Rattle.kernel_isolation.proofs.Numbers.{AreFrom}
use Rattle.resource_map.proofs.Lists.{get_or-replicate_none}
use Rattle.page_law.specs.Ciphers.{items_of_turn}
use Rattle.page_law.specs.OwnPages.{context_of_step, program_of_step, ends_in}
use Rattle.page_law.proofs.OwnPages.{moment_behind, step_is, steps_keep_pages, closing_keeps_pages}
use Rattle.latest_store.specs.Moves.{Move, Makes, latest, loads_of}
use Rattle.latest_store.specs.LatestStore.{files_of, made_pages, made_programs, history_until, IsLatest, IsThere, StaysOver, RunsGiveLatest}
use Rattle.latest_store.proofs.Begun.{Opens, files_open}
use Rattle.latest_store.proofs.Values.{zero_page_at, zero_page_whole}
use Rattle.latest_store.proofs.Moved.{Agrees, move_agrees}
use Rattle.latest_store.proofs.Numbers.{HasFew, MapsHeld, no_resources, started_few, started_maps, started_free}
use Rattle.latest_store.proofs.Held.{Holds, HoldsAfter, step_holds}
use Rattle.latest_store.proofs.Over.{IsOver, OverFrom, GoesOver, step_over, step_goes_over}
use Rattle.domain_isolation.proofs.Opened.{placed, before}
use Rattle.std.proofs.lemmas.Option.{same_Some}
use Rattle.cloak_model.proofs.Steps.{after_step}

-- The opening.

page_whole : (bytes : List ℕ) (pages n : ℕ) → length bytes ≡ 4096 * pages → n < pages →
    length (program_page bytes n) ≡ 4096
page_whole bytes pages n whole less =
    omega (arith, whole, less, length-take 4096 (drop (4096 * n) bytes), length-drop (4096 * n) bytes)

pages_agree : (d : ℕ) (p : Program) (n : ℕ) (m m' : CloakedMemory) (history : List Move) →
    length p.bytes ≡ 4096 * p.start.pages → n ≤ p.start.pages → place_pages d p n m ≡ Some m' →
    Agrees history m.plain → Agrees (made_pages d p n history) m'.plain
pages_agree d p zero m m' history whole low is agrees =
    subst (λ (x : CloakedMemory). Agrees history x.plain) (same_Some m m' is) agrees
pages_agree d p (suc n) m m' history whole low is agrees =
    let q : PageId = record { domain = d; resource = 0; page = n } in
    let bytes = program_page p.bytes n in
    let b = before (place q (p.place + n) bytes) (place_pages d p n m) m' is in
    let rest = pages_agree d p n m b.value history whole (omega (arith, low)) b.was agrees in
    subst (Agrees (Makes q bytes ∷ made_pages d p n history))
    (sym (placed q (p.place + n) bytes b.value m' b.next))
    (move_agrees d (Makes q bytes) (made_pages d p n history) b.value.plain
    (refl, page_whole p.bytes p.start.pages n whole (omega (arith, low))) rest)

programs_agree : (frames d : ℕ) (programs : List Program) (m m' : CloakedMemory) (history : List Move) →
    All (IsProgramIn frames) programs → place_programs d programs m ≡ Some m' → Agrees history m.plain →
    Agrees (made_programs d programs history) m'.plain
programs_agree frames d [] m m' history all is agrees =
    subst (λ (x : CloakedMemory). Agrees history x.plain) (same_Some m m' is) agrees
programs_agree frames d (p ∷ programs) m m' history all is agrees =
    let b = before (place_programs (d + 1) programs) (place_pages d p p.start.pages m) m' is in
    let fits = All-head (IsProgramIn frames) p programs all in
    programs_agree frames (d + 1) programs b.value m' (made_pages d p p.start.pages history)
    (All-tail (IsProgramIn frames) p programs all) b.next
    (pages_agree d p p.start.pages m b.value history fits.bytes (omega arith) b.was agrees)

zeros_agree : (b : Bundle) (keys : Keys) (stream : Random) → Agrees [] (started_memory b.kernel keys stream).plain
unfolding started_memory latest
zeros_agree b keys stream q = record { whole = zero_page_whole; each = λ at. zero_page_at at }

-- no load is in it

pages_loads : (d e : ℕ) (p : Program) (n : ℕ) (history : List Move) →
    loads_of e (made_pages d p n history) ≡ loads_of e history
unfolding loads_of
pages_loads d e p zero history = refl
pages_loads d e p (suc n) history = pages_loads d e p n history

programs_loads : (d e : ℕ) (programs : List Program) (history : List Move) →
    loads_of e (made_programs d programs history) ≡ loads_of e history
programs_loads d e [] history = refl
programs_loads d e (p ∷ programs) history =
    programs_loads (d + 1) e programs (made_pages d p p.start.pages history)
    ∙ pages_loads d e p p.start.pages history

no_loads : (d e : ℕ) (programs : List Program) (program : Domain) →
    slice_get (started_domains d programs) e ≡ Some program → program.loads ≡ []
unfolding started_domain
no_loads d e [] program is = absurd cc
no_loads d zero (p ∷ programs) program is =
    ap (λ (x : Domain). x.loads) (sym (same_Some (started_domain d p.start) program is))
no_loads d (suc e) (p ∷ programs) program is = no_loads (d + 1) e programs program is

-- a program begins with its regions in resource 0, and with the other numbers free

record Starts (program : Domain) : Type 0 where
  pub pages : ℕ
  pub base : ℕ
  pub is : program.control.resources ≡ started_resources pages base

starts : (d e : ℕ) (programs : List Program) (program : Domain) →
    slice_get (started_domains d programs) e ≡ Some program → Starts program
unfolding started_domain started_control
starts d e [] program is = absurd cc
starts d zero (p ∷ programs) program is = record {
  pages = p.start.pages;
  base = p.start.base;
  is = ap (λ (x : Domain). x.control.resources) (sym (same_Some (started_domain d p.start) program is));
}
starts d (suc e) (p ∷ programs) program is = starts (d + 1) e programs program is

pages_latest : (d : ℕ) (p : Program) (n : ℕ) (history : List Move) (q : PageId) (at : ℕ) → q.resource ≢ 0 →
    latest (made_pages d p n history) q at ≡ latest history q at
unfolding latest
pages_latest d p zero history q at other = refl
pages_latest d p (suc n) history q at other =
    let page : PageId = record { domain = d; resource = 0; page = n } in
    ap (λ (b : Bool). cond b (slice_index (program_page p.bytes n) at) (latest (made_pages d p n history) q at))
    (same_page-other q page (λ same. other (ap (λ (x : PageId). x.resource) same)))
    ∙ pages_latest d p n history q at other

pub programs_latest : (d : ℕ) (programs : List Program) (history : List Move) (q : PageId) (at : ℕ) → q.resource ≢ 0 →
    latest (made_programs d programs history) q at ≡ latest history q at
programs_latest d [] history q at other = refl
programs_latest d (p ∷ programs) history q at other =
    programs_latest (d + 1) programs (made_pages d p p.start.pages history) q at other
    ∙ pages_latest d p p.start.pages history q at other

empty_latest : (q : PageId) (at : ℕ) → latest [] q at ≡ 0
unfolding latest
empty_latest q at = refl

empty_loads : (d : ℕ) → loads_of d [] ≡ []
unfolding loads_of
empty_loads d = refl

started_holds : (b : Bundle) (m : CloakedMemory) → Agrees (made_programs 0 b.programs []) m.plain →
    Holds (made_programs 0 b.programs []) (started_joint b m)
unfolding started_joint
started_holds b m agrees = record {
  agrees = agrees;
  loads = λ d program is.
      no_loads 0 d b.programs program is ∙ sym (programs_loads 0 d b.programs [] ∙ empty_loads d);
  maps = λ d program is.
      let s = starts 0 d b.programs program is in subst MapsHeld (sym s.is) (started_maps s.pages s.base);
  few = λ d program is.
      let s = starts 0 d b.programs program is in subst HasFew (sym s.is) (started_few s.pages s.base);
  free = λ d program is q own free at.
      let s = starts 0 d b.programs program is in
      programs_latest 0 b.programs [] q at
      (started_free s.pages s.base q.resource
      (subst (λ (r : Resources). resource_at r q.resource ≡ None) s.is free)) ∙ empty_latest q at;
}

files_same : (b : Bundle) (from : Beginning) (m : CloakedMemory) (o : RunEdge) →
    files_added (added.files_of from) (started_joint b m) ≡ Ok o.joint →
    files_added (files_of from) (started_joint b m) ≡ Ok o.joint
files_same b (Fresh stream) m o is = is
files_same b (Stored keys stream files) m o is = is

files_then : (b : Bundle) (from : Beginning) (m : CloakedMemory) (o : RunEdge) → IsBeginning b from →
    files_added (files_of from) (started_joint b m) ≡ Ok o.joint →
    Holds (made_programs 0 b.programs []) (started_joint b m) →
    Opens (files_of from) (made_programs 0 b.programs []) o.joint
files_then b (Fresh stream) m o begins added holds =
    files_open (stored_keys b []) [] (started_joint b m) o.joint _ added (All-nil (HasSealedPages (stored_keys b [])))
    holds
files_then b (Stored keys stream files) m o begins added holds =
    files_open (stored_keys b keys) files (started_joint b m) o.joint _ added begins.sealed holds

opened_holds : (b : Bundle) (from : Beginning) (o : RunEdge) → IsInGrammar b → IsBeginning b from →
    opening_from b from ≡ Ok o → Opens (files_of from) (made_programs 0 b.programs []) o.joint
opened_holds b from o fits begins opens =
    let over = opens_over b from o opens in
    files_then b from over.memory o begins (files_same b from over.memory o over.added)
    (started_holds b over.memory
    (programs_agree b.kernel.frames 0 b.programs (started_memory b.kernel over.keys over.stream) over.memory []
    fits.programs over.placed (zeros_agree b over.keys over.stream)))

opened_there : (b : Bundle) (from : Beginning) (budget : ℕ) (o : RunEdge) → opening_from b from ≡ Ok o →
    IsInGrammar b → IsBeginning b from →
    All (IsThere (run_of b budget o).opened.joint.domains) (files_of from)
unfolding run_of
opened_there b from budget o opens fits begins = (opened_holds b from o fits begins opens).there

-- The steps.

-- the step after n steps, if there is one
pub record HasStep (turns : List Turn) (n : ℕ) : Type 0 where
  pub turn : Turn
  pub is : slice_get turns n ≡ Some turn

pub has_step : (turns : List Turn) (n : ℕ) → n < length turns → HasStep turns n
has_step [] n less = absurd (omega (arith, less))
has_step (t ∷ turns) zero less = record { turn = t; is = refl }
has_step (t ∷ turns) (suc n) less =
    let rest = has_step turns n (omega (arith, less)) in record { turn = rest.turn; is = rest.is }

run_holds : (b : Bundle) (from : Beginning) (budget : ℕ) (o : RunEdge) → opening_from b from ≡ Ok o → IsInGrammar b →
    IsBeginning b from → let r = run_of b budget o in
    (n : ℕ) → n ≤ length r.turns → Holds (history_until b from n r) (joint_until n r)
unfolding run_of history_until joint_after
run_holds b from budget o opens fits begins zero low = (opened_holds b from o fits begins opens).holds
run_holds b from budget o opens fits begins (suc n) low =
    let r : Run = run_of b budget o in
    let turns : List Turn = turns_from budget (first_moment b o.joint) in
    let low' : n ≤ length turns = omega (arith, low) in
    let holds = run_holds b from budget o opens fits begins n low' in
    let step = has_step turns n (omega (arith, low)) in
    let t = step.turn in
    let m : Moment = moment_behind (first_moment b o.joint) n turns in
    let steady = (until_read b from budget o opens n low').steady in
    let earlier : List Move = history_until b from n r in
    let inside : ℕ → Option ℕ = λ k.
    (hart_in m.joint (slice_index b.kernel.schedule (k % length b.kernel.schedule))).inside in
    let after : HoldsAfter earlier m.joint (inside m.steps) t.items t.joint =
    subst (λ (x : Turn). HoldsAfter earlier m.joint (inside m.steps) x.items x.joint)
    (step_is budget n (first_moment b o.joint) t step.is) (step_holds earlier m steady.programs holds) in
    let number : m.steps ≡ n = omega arith in
    let after' : HoldsAfter earlier m.joint (inside n) t.items t.joint =
    subst (λ (k : ℕ). HoldsAfter earlier m.joint (inside k) t.items t.joint) number after in
    let after'' : HoldsAfter earlier m.joint (context_of_step b r n) (items_of_turn (slice_get r.turns n)) t.joint =
    subst (λ (found : Option Turn). HoldsAfter earlier m.joint (context_of_step b r n) (items_of_turn found) t.joint)
    (sym step.is) after' in
    subst (Holds (history_until b from (suc n) r)) (sym (after_step o.joint turns n t step.is)) after''

-- The law.

abbrev HoldsAlways : Bundle → Beginning → Run → Type 0
HoldsAlways b from r = (n : ℕ) → n ≤ length r.turns → Holds (history_until b from n r) (joint_until n r)

-- the closing leaves programs as they are
closed_domains : (b : Bundle) (budget : ℕ) (o : RunEdge) → let r = run_of b budget o in
    r.closed.joint.domains ≡ (joint_until (length r.turns) r).domains
unfolding run_of closing
closed_domains b budget o =
    let turns : List Turn = turns_from budget (first_moment b o.joint) in
    ap (λ (ts : List Turn). (joint_after o.joint ts).domains) (sym (take_all (length turns) turns (omega arith)))

-- a step that is not the program's own, in which it does not end
others_stay : (b : Bundle) (from : Beginning) (budget : ℕ) (r : Run) → run_from b from budget ≡ Ok r →
    HoldsAlways b from r → (n : ℕ) → suc n ≤ length r.turns → (q : PageId) → program_of_step b r n ≢ Some q.domain →
    ends_in q.domain (items_of_turn (slice_get r.turns n)) ≡ false → (at : ℕ) →
    latest (history_until b from (suc n) r) q at ≡ latest (history_until b from n r) q at
others_stay b from budget r runs holds n low q other gone at =
    let step = has_step r.turns n (omega (arith, low)) in
    let t = step.turn in
    let kept = steps_keep_pages b from budget r runs n t step.is q.domain other
    (ap (λ (found : Option Turn). ends_in q.domain (items_of_turn found)) (sym step.is) ∙ gone) in
    let same : t.joint.memory.plain q ≡ (joint_until n r).memory.plain q =
    ap (λ (pages : ℕ → ℕ → List ℕ). pages q.resource q.page) kept in
    let now = (holds (suc n) low).agrees q in
    let was = (holds n (omega (arith, low))).agrees q in
    sym (now.each at)
    ∙ ap (λ (j : Joint). slice_index (j.memory.plain q) at) (after_step r.opened.joint r.turns n t step.is)
    ∙ ap (λ (bytes : List ℕ). slice_index bytes at) same ∙ was.each at

-- an ended domain

-- the machine after n steps and one more
after_next : (b : Bundle) (from : Beginning) (budget : ℕ) (o : RunEdge) → opening_from b from ≡ Ok o →
    let r = run_of b budget o in
    (n : ℕ) → suc n ≤ length r.turns → (P : Joint → Type 0) →
    ((m : Moment) → m.joint ≡ joint_until n r → AreFrom 0 m.joint.domains →
    slice_get r.turns n ≡ Some (joint_step m) → P (joint_step m).joint) →
    P (joint_until (suc n) r)
unfolding run_of
after_next b from budget o opens n low P next =
    let r : Run = run_of b budget o in
    let turns : List Turn = turns_from budget (first_moment b o.joint) in
    let step = has_step turns n (omega (arith, low)) in
    let m : Moment = moment_behind (first_moment b o.joint) n turns in
    let same : joint_step m ≡ step.turn = step_is budget n (first_moment b o.joint) step.turn step.is in
    let steady = (until_read b from budget o opens n (omega (arith, low))).steady in
    subst P (sym (after_step o.joint turns n step.turn step.is))
    (subst (λ (t : Turn). P t.joint) same
    (next m refl steady.programs (step.is ∙ ap (λ (t : Turn). Some t) (sym same))))

run_goes_over : (b : Bundle) (from : Beginning) (budget : ℕ) (o : RunEdge) → opening_from b from ≡ Ok o →
    let r = run_of b budget o in
    (d n : ℕ) → suc n ≤ length r.turns → ends_in d (items_of_turn (slice_get r.turns n)) ≡ true →
    GoesOver d (joint_until (suc n) r)
run_goes_over b from budget o opens d n low ends =
    after_next b from budget o opens n low (GoesOver d) (λ m at programs is.
    step_goes_over d m programs (ap (λ (found : Option Turn). ends_in d (items_of_turn found)) (sym is) ∙ ends))

run_stays_over : (b : Bundle) (from : Beginning) (budget : ℕ) (o : RunEdge) → opening_from b from ≡ Ok o →
    let r = run_of b budget o in
    (d : ℕ) (loads : List (ℕ × ℕ)) (n : ℕ) → IsOver d loads (joint_until n r) → (k : ℕ) → k + n ≤ length r.turns →
    IsOver d loads (joint_until (k + n) r)
run_stays_over b from budget o opens d loads n over zero low =
    let count : n ≡ 0 + n = omega arith in
    subst (λ (k : ℕ). IsOver d loads (joint_until k (run_of b budget o))) count over
run_stays_over b from budget o opens d loads n over (suc k) low =
    let before = run_stays_over b from budget o opens d loads n over k (omega (arith, low)) in
    let count : suc (k + n) ≡ suc k + n = omega arith in
    subst (λ (k : ℕ). IsOver d loads (joint_until k (run_of b budget o))) count
    (after_next b from budget o opens (k + n) (omega (arith, low)) (IsOver d loads) (λ m at programs is.
    step_over d loads m (subst (IsOver d loads) (sym at) before)))

-- it is over at a later moment, too
abbrev OverLater : Bundle → Run → Type 0
OverLater b r = (n later : ℕ) → suc n ≤ later → later ≤ length r.turns → (d : ℕ) →
    ends_in d (items_of_turn (slice_get r.turns n)) ≡ true → OverFrom d (joint_until (suc n) r) (joint_until later r)

run_over : (b : Bundle) (from : Beginning) (budget : ℕ) (o : RunEdge) → opening_from b from ≡ Ok o →
    OverLater b (run_of b budget o)
run_over b from budget o opens n later past low d ends =
    let r : Run = run_of b budget o in
    let first = run_goes_over b from budget o opens d n (omega (arith, past, low)) ends in
    let count : (later - suc n) + suc n ≡ later = omega (arith, past) in
    record {
      loads = first.loads;
      first = first.over;
      later = subst (λ (k : ℕ). IsOver d first.loads (joint_until k r)) count
          (run_stays_over b from budget o opens d first.loads (suc n) first.over (later - suc n)
          (subst (λ (k : ℕ). k ≤ length r.turns) (sym count) low));
    }

no_number : (r : Resources) (n : ℕ) → r ≡ no_resources → resource_at r n ≡ None
no_number r n same = ap (λ (x : Resources). resource_at x n) same ∙ get_or-replicate_none 16 n

stays_over : (d : ℕ) (history later : List Move) (j j' : Joint) → OverFrom d j j' → Holds history j → Holds later j' →
    StaysOver d history later
stays_over d history later j j' over was now = record {
  loads = sym (now.loads d over.later.program over.later.there) ∙ over.later.completed ∙ sym over.first.completed
      ∙ was.loads d over.first.program over.first.there;
  pages = λ q own at.
      now.free d over.later.program over.later.there q own
      (no_number over.later.program.control.resources q.resource over.later.resources) at;
}

pub runs_give_latest : RunsGiveLatest
runs_give_latest b from budget r fits begins runs =
    let holds : HoldsAlways b from r =
    of_opened b budget (HoldsAlways b from) (opening_from b from) r runs
    (λ o opens. run_holds b from budget o opens fits begins) in
    let closed : r.closed.joint.domains ≡ (joint_until (length r.turns) r).domains =
    of_opened b budget (λ (x : Run). x.closed.joint.domains ≡ (joint_until (length x.turns) x).domains)
    (opening_from b from) r runs (λ o opens. closed_domains b budget o) in
    let over : OverLater b r =
    of_opened b budget (OverLater b) (opening_from b from) r runs (λ o opens. run_over b from budget o opens) in
    record {
      files = of_opened b budget (λ (x : Run). All (IsThere x.opened.joint.domains) (files_of from))
          (opening_from b from) r runs (λ o opens. opened_there b from budget o opens fits begins);
      loads = λ n low. (holds n low).loads;
      ends = λ d program is.
          (holds (length r.turns) (omega arith)).loads d program
          (subst (λ (domains : List Domain). slice_get domains d ≡ Some program) closed is);
      pages = λ n low. (holds n low).agrees;
      closed = λ q.
          subst (λ (plain : PageId → List ℕ). IsLatest (history_until b from (length r.turns) r) q (plain q))
          (sym (closing_keeps_pages b from budget r runs)) ((holds (length r.turns) (omega arith)).agrees q);
      others = others_stay b from budget r runs holds;
      over = λ n later past low d ends.
          stays_over d (history_until b from (suc n) r) (history_until b from later r) (joint_until (suc n) r)
          (joint_until later r)
          (over n later past low d ends) (holds (suc n) (omega (arith, past, low))) (holds later low);
    }
