-- A history that the joint machine has the pages and the loads of, and what a step adds to it: what it does, and the
-- end of a domain after it.
use Rattle.std.proofs.Common.{◌≡◌, ◌≢◌, ◌∙◌, ℕ, zero, suc, ◌<◌, Bool, true, false, ◌||◌, cond, List, [], ◌∷◌, ◌++◌, length, slice_get, slice_set, Option, Some, None, inl, inr, refl, sym, ap, subst, arith, append-nil, eq-eqb}
use Rattle.std.specs.Prelude.{◌==◌, is_some, nat_eq}
use Rattle.std.specs.List.{list_any}
use Rattle.std.proofs.lemmas.Bool.{false≢true, cases_lt, or_parts}
use Rattle.std.proofs.lemmas.Grind.{flat_map-append}
use Rattle.std.proofs.lemmas.List.Elements.{filter-append}
use Rattle.std.proofs.lemmas.List.Folds.{list_any-append}
use Rattle.cloak_base.specs.declared.causes.Violation.{Violation}
use Rattle.cloak_base.specs.declared.names.PageId.{PageId}
use Rattle.cloak_model.specs.Items.{Item}
use Rattle.cloak_model.specs.Items as item
use Rattle.cloak_model.specs.Cloaking.{CloakedMemory}
use Rattle.cloak_model.specs.Contexts.{domain_of, slot_of}
use Rattle.cloak_model.specs.DomainState.{Domain}
use Rattle.cloak_model.specs.Ending.{settled_for, ask_end, cloak_for, ended_domain}
use Rattle.cloak_model.specs.Halves.{is_inward, inward_half}
use Rattle.cloak_model.specs.Joint.{Moment, Turn, next_hart, hart_in, memory_of, turn_of, domain_met, end_domain, refuses, ends_once, ends_resumed, ends_asked, answers_violation, joint_step}
use Rattle.cloak_model.specs.Opening.{numbers_below}
use Rattle.cloak_model.specs.Parts.{Joint}
use Rattle.cloak_model.specs.Resources.{Resources}
use Rattle.cloak_model.specs.World.{World, Cloaked, items_of}
use Rattle.domain_isolation.proofs.Endings.{end_world, end_leaves}
use Rattle.domain_isolation.proofs.Steady.{Steady, steady_opens}
use Rattle.script_fold.proofs.Endings.{keeps_settled_for}
use Rattle.domain_isolation.proofs.InOrder.{decided}
use Rattle.kernel_isolation.proofs.Numbers.{AreFrom}
use Rattle.page_law.specs.OwnPages.{is_end_of, ends_in}
use Rattle.latest_store.specs.Moves.{Move, Drops, loads_of, with_moves}
use Rattle.latest_store.specs.Deeds.{step_moves, ending_moves, end_moves, program_moves}
use Rattle.latest_store.specs.LatestStore.{IsLatest}
use Rattle.latest_store.proofs.Moved.{Agrees, AreSound, moved_by, given_by, moves_agree, moves_load}
use Rattle.latest_store.proofs.Numbers.{MapsHeld, HasFew, no_resources, ended_maps, ended_few, past_free}
use Rattle.latest_store.proofs.Fits.{FreeZero, Fits, drops_zero, others_latest}
use Rattle.latest_store.proofs.HypercallDeeds.{drop_moves, drops_made}
use Rattle.latest_store.proofs.Told.{EndsNone, StoppedLast, TurnTold, unheard_ends, ended_same, turn_told}
use Rattle.latest_store.proofs.Turned.{FreeInAll, TurnDid, set_same, set_other, turn_did}
use Rattle.page_law.proofs.OwnPages.{memory_plain}

-- The joint machine has the pages and the loads of a history, and the pages under free numbers are zeros in it.
pub record Holds (history : List Move) (j : Joint) : Type 0 where
  pub agrees : Agrees history j.memory.plain
  pub loads : (d : ℕ) (program : Domain) → slice_get j.domains d ≡ Some program →
      program.loads ≡ loads_of d history
  pub maps : (d : ℕ) (program : Domain) → slice_get j.domains d ≡ Some program → MapsHeld program.control.resources
  pub few : (d : ℕ) (program : Domain) → slice_get j.domains d ≡ Some program → HasFew program.control.resources
  pub free : FreeInAll history j

-- The step itself.

given_either : (b : Bool) (moves : List Move) (plain : PageId → List ℕ) →
    given_by (cond b moves []) plain ≡ cond b (given_by moves plain) []
given_either true moves plain = refl
given_either false moves plain = refl

-- what these moves, of one program, leave zeros
next_free : (b : Bool) (program d : ℕ) (moves history : List Move) (r r' : Resources) → (program == d) ≡ b →
    AreSound program history moves → Fits d r (cond b moves []) r' → MapsHeld r → FreeZero history d r →
    FreeZero (with_moves moves history) d r'
next_free true program d moves history r r' is sound fits maps zeros = fits.free maps history zeros
next_free false program d moves history r r' is sound fits maps zeros = λ q own free at.
    others_latest program moves history q at sound (λ same.
    false≢true (sym is ∙ eq-eqb program d (sym same ∙ own)))
    ∙ fits.free maps history zeros q own free at

next_holds : (history moves : List Move) (j : Joint) (t : Turn) → TurnDid history moves j t → Holds history j →
    Holds (with_moves moves history) t.joint
next_holds history moves j t did holds = record {
  agrees = λ q. subst (IsLatest (with_moves moves history) q) (sym (did.pages q))
      (moves_agree did.program moves history j.memory.plain did.sound holds.agrees q);
  loads = λ d program is.
      let g = did.programs d program is in
      g.loads
      ∙ ap (λ (l : List (ℕ × ℕ)). l ++ given_by (cond (did.program == d) moves []) j.memory.plain)
      (holds.loads d g.was g.there)
      ∙ ap (λ (l : List (ℕ × ℕ)). loads_of d history ++ l) (given_either (did.program == d) moves j.memory.plain)
      ∙ sym (moves_load did.program d moves history j.memory.plain did.sound holds.agrees);
  maps = λ d program is. let g = did.programs d program is in g.fits.maps (holds.maps d g.was g.there);
  few = λ d program is. let g = did.programs d program is in g.fits.few (holds.few d g.was g.there);
  free = λ d program is.
      let g = did.programs d program is in
      next_free (did.program == d) did.program d moves history g.was.control.resources program.control.resources refl
      did.sound g.fits (holds.maps d g.was g.there) (holds.free d g.was g.there);
}

-- The end of a domain.

-- of a list in which one program became another one
set_each : (P : ℕ → Domain → Type 0) (domains : List Domain) (e : ℕ) (old made : Domain) →
    slice_get domains e ≡ Some old → P e made →
    ((d : ℕ) (program : Domain) → e ≢ d → slice_get domains d ≡ Some program → P d program) →
    (d : ℕ) (program : Domain) → slice_get (slice_set domains e made) d ≡ Some program → P d program
set_each P domains e old made there here others d program is = elim (decided e d) [
  | inl same ↦
      let it : made ≡ program = set_same domains e old made program there
      (subst (λ (k : ℕ). slice_get (slice_set domains e made) k ≡ Some program) (sym same) is) in
      subst (λ (k : ℕ). P k program) same (subst (P e) it here)
  | inr other ↦ others d program other (set_other domains e d made program other is)
]

drops_sound : (d : ℕ) (list : List ℕ) (history : List Move) → AreSound d history (drop_moves d list)
drops_sound d [] history = tt
drops_sound d (n ∷ list) history = (refl, drops_sound d list (Drops d n ∷ history))

-- no load is among what it does
drops_load : (e d : ℕ) (list : List ℕ) (history : List Move) →
    loads_of d (with_moves (drop_moves e list) history) ≡ loads_of d history
unfolding loads_of
drops_load e d [] history = refl
drops_load e d (n ∷ list) history = drops_load e d list (Drops e n ∷ history)

listed : (n k : ℕ) → k < n → list_any (λ m. nat_eq m k) (numbers_below n) ≡ true
listed zero k low = absurd (omega (arith, low))
listed (suc n) k low =
    list_any-append (λ m. nat_eq m k) (numbers_below n) (n ∷ [])
    ∙ elim (cases_lt k n) [
      | inl below ↦ ap (λ (b : Bool). b || list_any (λ m. nat_eq m k) (n ∷ [])) (listed n k below)
      | inr above ↦
          ap (λ (b : Bool). list_any (λ m. nat_eq m k) (numbers_below n) || (b || false))
          (eq-eqb n k (omega (arith, low, above)))
          ∙ either_true (list_any (λ m. nat_eq m k) (numbers_below n))
    ]
  where
    either_true : (b : Bool) → (b || true) ≡ true
    either_true true = refl
    either_true false = refl

-- what it does
abbrev dropped : ℕ → List Move
dropped e = drop_moves e (numbers_below 16)

end_pages : (e : ℕ) (m : CloakedMemory) → (memory_of (end_world e m) m).plain ≡ moved_by (dropped e) m.plain
unfolding ask_end
end_pages e m =
    let w : World = Cloaked (cloak_for m e) in
    let v = settled_for e 0 (length m.ram) w in
    let s = keeps_settled_for Steady steady_opens.settles e 0 (length m.ram) w in
    sym (memory_plain (end_world e m) m (end_leaves e m).form)
    ∙ (drops_made e (numbers_below 16) v s.form).pages
    ∙ ap (moved_by (dropped e)) s.plain

-- every page of the domain is zeros then
ended_free : (history : List Move) (e : ℕ) (r : Resources) → HasFew r → FreeZero history e r →
    FreeZero (with_moves (dropped e) history) e no_resources
ended_free history e r few zeros q own free at =
    drops_zero e (numbers_below 16) history q at own
    (elim (cases_lt q.resource 16) [
      | inl low ↦ inr (listed 16 q.resource low)
      | inr past ↦ inl (zeros q own (past_free r q.resource few past) at)
    ])

end_holds : (history : List Move) (t : Turn) (e : ℕ) (old : Domain) (v : Violation) →
    slice_get t.joint.domains e ≡ Some old → Holds history t.joint →
    Holds (with_moves (dropped e) history) (end_domain e old v t).joint
unfolding end_domain ended_domain
end_holds history t e old v there holds =
    let after = with_moves (dropped e) history in
    let each = λ (P : ℕ → Domain → Type 0). set_each P t.joint.domains e old (ended_domain old) there in
    let pages = end_pages e t.joint.memory in
    record {
      agrees = λ q.
          subst (IsLatest after q) (ap (λ (plain : PageId → List ℕ). plain q) (sym pages))
          (moves_agree e (dropped e) history t.joint.memory.plain (drops_sound e (numbers_below 16) history)
          holds.agrees q);
      loads = each (λ d program. program.loads ≡ loads_of d after)
          (holds.loads e old there ∙ sym (drops_load e e (numbers_below 16) history))
          (λ d program other is. holds.loads d program is ∙ sym (drops_load e d (numbers_below 16) history));
      maps = each (λ d program. MapsHeld program.control.resources) ended_maps
          (λ d program other is. holds.maps d program is);
      few = each (λ d program. HasFew program.control.resources) ended_few
          (λ d program other is. holds.few d program is);
      free = each (λ d program. FreeZero after d program.control.resources)
          (ended_free history e old.control.resources (holds.few e old there) (holds.free e old there))
          (λ d program other is q own free at.
          others_latest e (dropped e) history q at (drops_sound e (numbers_below 16) history)
          (λ same. other (sym same ∙ own)) ∙ holds.free d program is q own free at);
    }

-- The whole step.

-- the history after a step of a hart that was inside this context, or in none, which wrote these items
abbrev pub HoldsAfter : List Move → Joint → Option ℕ → List Item → Joint → Type 0
HoldsAfter history j inside items j' =
    Holds (with_moves (end_moves items) (with_moves (step_moves history j.domains inside items) history)) j'

ends_nothing : (i : Item) → ((d : ℕ) → is_end_of d i ≡ false) → ending_moves i ≡ []
ends_nothing (item.Ended e) ends = absurd (false≢true (sym (ends e) ∙ eq-eqb e e refl))
ends_nothing _ ends = refl

none_end : (items : List Item) → EndsNone items → end_moves items ≡ []
none_end [] ends = refl
none_end (i ∷ items) ends =
    ap (λ (l : List Move). l ++ end_moves items) (ends_nothing i (λ d. (or_parts _ _ (ends d)).0))
    ∙ none_end items (λ d. (or_parts (is_end_of d i) (ends_in d items) (ends d)).1)

module _ (history : List Move) (j : Joint) where
  -- no domain ended
  goes_on : (inside : Option ℕ) (t : Turn) (j' : Joint) → EndsNone t.items →
      Holds (with_moves (step_moves history j.domains inside t.items) history) j' →
      HoldsAfter history j inside t.items j'
  goes_on inside t j' ends holds =
      subst (λ (ms : List Move).
      Holds (with_moves ms (with_moves (step_moves history j.domains inside t.items) history)) j')
      (sym (none_end t.items ends)) holds

  refused : (inside : Option ℕ) (t : Turn) → EndsNone t.items →
      Holds (with_moves (step_moves history j.domains inside t.items) history) t.joint →
      HoldsAfter history j inside (refuses t).items (refuses t).joint
  refused inside t ends holds = goes_on inside t (refuses t).joint ends (record {
    agrees = holds.agrees;
    loads = holds.loads;
    maps = holds.maps;
    few = holds.few;
    free = holds.free;
  })

  end_moved : (e : ℕ) (m : CloakedMemory) (items : List Item) → EndsNone items →
      end_moves (items ++ (items_of (end_world e m) ++ item.Ended e ∷ [])) ≡ dropped e
  end_moved e m items ends =
      let shown = items_of (end_world e m) in
      flat_map-append ending_moves items (shown ++ item.Ended e ∷ [])
      ∙ ap (λ (l : List Move). l ++ end_moves (shown ++ item.Ended e ∷ [])) (none_end items ends)
      ∙ flat_map-append ending_moves shown (item.Ended e ∷ [])
      ∙ ap (λ (l : List Move). l ++ end_moves (item.Ended e ∷ []))
      (none_end shown (unheard_ends shown (λ d. (end_leaves e m).items d)))
      ∙ append-nil (dropped e)

  -- the end takes nothing back
  ended : (inside : Option ℕ) (t : Turn) (e : ℕ) (old : Domain) (v : Violation) →
      slice_get t.joint.domains e ≡ Some old →
      EndsNone t.items →
      step_moves history j.domains inside (end_domain e old v t).items ≡ step_moves history j.domains inside t.items →
      Holds (with_moves (step_moves history j.domains inside t.items) history) t.joint →
      HoldsAfter history j inside (end_domain e old v t).items (end_domain e old v t).joint
  unfolding end_domain
  ended inside t e old v there ends same holds =
      let t' = end_domain e old v t in
      subst (λ (ms : List Move).
      Holds (with_moves ms (with_moves (step_moves history j.domains inside t'.items) history)) t'.joint)
      (sym (end_moved e t.joint.memory t.items ends))
      (subst (λ (ms : List Move). Holds (with_moves (dropped e) (with_moves ms history)) t'.joint) (sym same)
      (end_holds (with_moves (step_moves history j.domains inside t.items) history) t e old v there holds))

  once_holds : (over : Bool) (t : Turn) (e : ℕ) (old : Domain) (v : Violation) →
      slice_get t.joint.domains e ≡ Some old →
      EndsNone t.items → Holds (with_moves (step_moves history j.domains None t.items) history) t.joint →
      HoldsAfter history j None (ends_once over e old v t).items (ends_once over e old v t).joint
  unfolding ends_once step_moves
  once_holds true t e old v there ends holds = refused None t ends holds
  once_holds false t e old v there ends holds = ended None t e old v there ends refl holds

  resumed_holds : (found : Option Domain) (t : Turn) (e : ℕ) (v : Violation) → slice_get t.joint.domains e ≡ found →
      EndsNone t.items → Holds (with_moves (step_moves history j.domains None t.items) history) t.joint →
      HoldsAfter history j None (ends_resumed found e v t).items (ends_resumed found e v t).joint
  unfolding ends_resumed
  resumed_holds None t e v there ends holds = refused None t ends holds
  resumed_holds (Some old) t e v there ends holds = once_holds old.control.ended t e old v there ends holds

  asked_same : (ctx : ℕ) (t : Turn) (old : Domain) (v : Violation) → StoppedLast (inward_half (domain_of ctx) t.items) →
      step_moves history j.domains (Some ctx) (end_domain (domain_of ctx) old v t).items
      ≡ step_moves history j.domains (Some ctx) t.items
  unfolding end_domain step_moves
  asked_same ctx t old v stopped =
      let e = domain_of ctx in
      let w = end_world e t.joint.memory in
      let found = slice_get j.domains e in
      let half : inward_half e (t.items ++ (items_of w ++ item.Ended e ∷ []))
      ≡ inward_half e t.items ++ item.Ended e ∷ [] =
      filter-append (is_inward e) t.items (items_of w ++ item.Ended e ∷ [])
      ∙ ap (λ (l : List Item). inward_half e t.items ++ l)
      (filter-append (is_inward e) (items_of w) (item.Ended e ∷ [])
      ∙ ap (λ (l : List Item). l ++ inward_half e (item.Ended e ∷ [])) ((end_leaves e t.joint.memory).items e)
      ∙ ap (λ (b : Bool). cond b (item.Ended e ∷ []) []) (eq-eqb e e refl)) in
      ap (program_moves found history (slot_of ctx)) half
      ∙ ended_same found history (slot_of ctx) e (inward_half e t.items) stopped

  asked_holds : (found : Option Domain) (ctx : ℕ) (t : Turn) (v : Violation) →
      slice_get t.joint.domains (domain_of ctx) ≡ found → EndsNone t.items →
      StoppedLast (inward_half (domain_of ctx) t.items) →
      Holds (with_moves (step_moves history j.domains (Some ctx) t.items) history) t.joint →
      HoldsAfter history j (Some ctx) (ends_asked found (domain_of ctx) v t).items
      (ends_asked found (domain_of ctx) v t).joint
  unfolding ends_asked
  asked_holds None ctx t v there ends stopped holds = goes_on (Some ctx) t t.joint ends holds
  asked_holds (Some old) ctx t v there ends stopped holds =
      ended (Some ctx) t (domain_of ctx) old v there ends (asked_same ctx t old v stopped) holds

  answers_hold : (inside : Option ℕ) (o : Option Violation) (t : Turn) → t.violation ≡ o → TurnTold inside t →
      Holds (with_moves (step_moves history j.domains inside t.items) history) t.joint →
      HoldsAfter history j inside (answers_violation inside o t).items (answers_violation inside o t).joint
  unfolding answers_violation
  answers_hold inside None t is told holds = goes_on inside t t.joint told.ends holds
  answers_hold None (Some v) t is told holds = resumed_holds _ t (domain_met v) v refl told.ends holds
  answers_hold (Some ctx) (Some v) t is told holds =
      asked_holds _ ctx t v refl told.ends (told.stopped ctx refl (ap is_some is)) holds

pub step_holds : (history : List Move) (m : Moment) → AreFrom 0 m.joint.domains → Holds history m.joint →
    HoldsAfter history m.joint (hart_in m.joint (next_hart m)).inside (joint_step m).items (joint_step m).joint
unfolding joint_step
step_holds history m programs holds =
    let number = next_hart m in
    let h = hart_in m.joint number in
    let t = turn_of m.joint number h h.inside in
    answers_hold history m.joint h.inside t.violation t refl (turn_told m.joint number h h.inside programs)
    (next_holds history (step_moves history m.joint.domains h.inside t.items) m.joint t
    (turn_did history m.joint number h h.inside programs holds.free holds.agrees) holds)
