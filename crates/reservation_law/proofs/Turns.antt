-- What a step of the joint machine makes of RAM and of reservations.
use Rattle.std.proofs.Common.{◌≡◌, ◌∙◌, ◌≤◌, ◌⊎◌, ℕ, ◌%◌, Bool, true, false, List, [], ◌∷◌, ◌++◌, length, slice_get, slice_set, slice_index_or, Option, Some, None, Result, Ok, Err, inl, inr, refl, sym, ap, subst, arith, append_assoc, append-nil}
use Rattle.std.proofs.lemmas.Bool.{cases_lt, cases_eq}
use Rattle.std.proofs.lemmas.List.{get_or_past, get_or-set_same, get_or-set_other, length-set}
use Rattle.cloak_base.specs.Constants.{ram_start}
use Rattle.cloak_base.specs.declared.causes.Shown.{Shown}
use Rattle.cloak_base.specs.declared.causes.Violation.{Violation}
use Rattle.cloak_model.specs.declared.context.ResumeFault.{ResumeFault}
use Rattle.cloak_model.specs.declared.inside.Went.{Went}
use Rattle.cloak_model.specs.declared.inside.Went.TheVariants as went
use Rattle.cloak_model.specs.Items.{Item}
use Rattle.cloak_model.specs.Items as item
use Rattle.cloak_model.specs.declared.outcome.Kernel.{Kernel}
use Rattle.cloak_model.specs.declared.outcome.Kernel.TheVariants.{Stay, Halt, Resume}
use Rattle.cloak_model.specs.Ahead.{settle_touched, settled_step, made_after, with_shown}
use Rattle.cloak_model.specs.Asking.{Told}
use Rattle.cloak_model.specs.Cloaking.{CloakedMemory, AfterSettling, seen_in, with_seen}
use Rattle.cloak_model.specs.Contexts.{Admitted, context_at, domain_of, slot_of}
use Rattle.cloak_model.specs.Csr.{satp_of, interrupt_due}
use Rattle.cloak_model.specs.DomainState.{Control, Domain}
use Rattle.cloak_model.specs.DomainStep.{DomainStepped, domain_step}
use Rattle.cloak_model.specs.Ending.{ask_end, cloak_for}
use Rattle.cloak_model.specs.Hart.{Hart, started}
use Rattle.cloak_model.specs.HostCalls.{SteppedKernel}
use Rattle.cloak_model.specs.Hypercalls.{Stepped}
use Rattle.cloak_model.specs.Joint.{Moment, Turn, quiet, next_hart, hart_in, with_hart, cloak_of, cloak_outside, memory_of, outside_ended, after_outside, outside_step, domain_ended, after_domain_step, pages_for, interrupt_ended, after_interrupt, by_interrupt, left, not_running, by_running, inside_step, turn_of, domain_met, end_domain, refuses, ends_once, ends_resumed, ends_asked, answers_violation, step_before_end, joint_step, without_mark}
use Rattle.cloak_model.specs.KernelStep.{kernel_step, ticked}
use Rattle.cloak_model.specs.Leaving.{leave}
use Rattle.cloak_model.specs.Memory.{Seen, value_at, mark_of}
use Rattle.cloak_model.specs.Parts.{Joint}
use Rattle.cloak_model.specs.Resuming.{AfterResume, resume}
use Rattle.cloak_model.proofs.ResumeParts.{by_root, by_context, by_domain}
use Rattle.cloak_model.specs.World.{World, MidStep, Flat, Cloaked, items_of, seen_of, violation_of, cipher_items}
use Rattle.kernel_isolation.proofs.Accounts.{Account, ram_seen}
use Rattle.kernel_isolation.proofs.Ends.{EndsIn, end_shows}
use Rattle.kernel_isolation.proofs.Items.{with_items}
use Rattle.kernel_isolation.proofs.OutsideSteps.{AreInward}
use Rattle.kernel_isolation.proofs.Settlings.{HasPlaces, ShownBy, touched_shown}
use Rattle.kernel_isolation.proofs.StepAccounts.{accounts_domain_step}
use Rattle.settling_ahead.proofs.Touching.{writes_touched_alone}
use Rattle.reservation_law.specs.Deeds.{Deed, Idle, Reserves, StoresReserved, deed_of}
use Rattle.reservation_law.specs.Writes.{Extent, has_byte, meets_word, deed_extents, items_extents, outside_deed}
use Rattle.reservation_law.proofs.Items.{keeps_items, keeps_shown, keeps_inward, extents_append}
use Rattle.reservation_law.proofs.Keeping.{SparesWord, SparesByte, AreWhole, Keeps, all_first, all_second, keeps_all, keeps_then, keeps_unmarked}
use Rattle.reservation_law.proofs.Plain.{DoneBy, ticked_id, plain_step_does}
use Rattle.cloak_model.proofs.SealStays.{before_seal}
use Rattle.reservation_law.proofs.Sizes.{HaveSizes, IsChained, Sizes, cipher_sizes, touched_pages, sizes_domain_step, sizes_end}
use Rattle.cloak_base.proofs.Lists.{each_append}
use Rattle.kernel_isolation.proofs.Turns.{memory_ram, memory_places}

-- the number of a hart of a list
abbrev pub id_in : List Hart → ℕ → ℕ
id_in harts k = (slice_index_or harts k (started 0 0)).id

-- A reservation that a hart has after a step: its own LR made it, or it was there, and nothing wrote a byte of
-- its word.
abbrev pub CameIn : Deed → ℕ → Seen → List Item → ℕ → ℕ → Type 0
CameIn deed number s items k pa =
    ((deed ≡ Reserves pa) × (k ≡ number) × (pa % 4 ≡ 0))
    ⊎ ((mark_of k s.marks ≡ Some pa) × (pa % 4 ≡ 0 → SparesWord pa (deed_extents deed ++ items_extents items)))

-- what SC stores was reserved, and nothing that was settled ahead was of it
abbrev pub WasKept : ℕ → Seen → List Item → ℕ → Type 0
WasKept number s items pa =
    (mark_of number s.marks ≡ Some pa) × (pa % 4 ≡ 0 → SparesWord pa (items_extents items))

-- A step of this hart, with this deed and these items.
pub record TurnDoes (deed : Deed) (number : ℕ) (harts : List Hart) (s : Seen) (items : List Item) (harts' : List Hart)
    (t : Seen) : Type 0 where
  pub count : length harts' ≡ length harts
  pub ids : (k : ℕ) → id_in harts' k ≡ id_in harts k
  pub marks : (k pa : ℕ) → mark_of k t.marks ≡ Some pa → CameIn deed number s items k pa
  pub whole : AreWhole s.ram → AreWhole t.ram
  pub bytes : AreWhole s.ram → (pa : ℕ) → ram_start ≤ pa → SparesByte pa (deed_extents deed ++ items_extents items) →
      value_at t.ram pa 1 ≡ value_at s.ram pa 1
  pub conditional : (pa : ℕ) → deed ≡ StoresReserved pa → WasKept number s items pa

-- of the joint machine; SC meets no violation
pub record TurnDone (deed : Deed) (number : ℕ) (j : Joint) (t : Turn) : Type 0 where
  pub done : TurnDoes deed number j.harts (seen_in j.memory) t.items t.joint.harts (seen_in t.joint.memory)
  pub calm : (pa : ℕ) → deed ≡ StoresReserved pa → t.violation ≡ None
  pub places : HasPlaces t.joint.memory

set_id : (harts : List Hart) (number : ℕ) (h : Hart) → h.id ≡ id_in harts number → (k : ℕ) →
    id_in (slice_set harts number h) k ≡ id_in harts k
set_id harts number h same k = elim (cases_eq k number) [
  | inl is ↦ elim (cases_lt number (length harts)) [
    | inl there ↦
        subst (λ (n : ℕ). id_in (slice_set harts number h) n ≡ id_in harts n) (sym is)
        (ap (λ (x : Hart). x.id) (get_or-set_same harts number h (started 0 0) there) ∙ same)
    | inr past ↦
        let count = length-set harts number h in
        subst (λ (n : ℕ). id_in (slice_set harts number h) n ≡ id_in harts n) (sym is)
        (ap (λ (x : Hart). x.id) (get_or_past (slice_set harts number h) number (started 0 0) (omega
        (arith, past, count)))
        ∙ sym (ap (λ (x : Hart). x.id) (get_or_past harts number (started 0 0) past)))
  ]
  | inr apart ↦ ap (λ (x : Hart). x.id) (get_or-set_other harts number k h (started 0 0) apart)
]

-- A hart inside.

inside_does : (number : ℕ) (harts : List Hart) (h : Hart) (s t : Seen) (items : List Item) → h.id ≡ id_in
    harts number →
    Keeps (items_extents items) s t → TurnDoes Idle number harts s items (slice_set harts number h) t
inside_does number harts h s t items same keeps = record {
  count = length-set harts number h;
  ids = set_id harts number h same;
  marks = λ k pa is. inr (keeps.marks k pa is);
  whole = keeps.whole;
  bytes = keeps.bytes;
  conditional = λ pa is. cc;
}

-- A hart outside: its items, and then its deed.

own_number : (deed : Deed) (id number pa : ℕ) → (deed ≡ Idle) ⊎ (id ≡ number) → deed ≡ Reserves pa → id ≡ number
own_number deed id number pa (inl idle) is = let clash : Idle ≡ Reserves pa = sym idle ∙ is in absurd cc
own_number deed id number pa (inr same) is = same

own_store : (deed : Deed) (id number pa : ℕ) → (deed ≡ Idle) ⊎ (id ≡ number) → deed ≡ StoresReserved pa → id ≡ number
own_store deed id number pa (inl idle) is = let clash : Idle ≡ StoresReserved pa = sym idle ∙ is in absurd cc
own_store deed id number pa (inr same) is = same

outside_does : (deed : Deed) (number : ℕ) (harts : List Hart) (before s : Seen) (items : List Item)
    (end : SteppedKernel × Seen) → (deed ≡ Idle) ⊎ (id_in harts number ≡ number) →
    Keeps (items_extents items) before s → DoneBy deed (id_in harts number) s end →
    TurnDoes deed number harts before items (slice_set harts number end.0.hart) end.1
outside_does deed number harts before s items end own keeps done = record {
  count = length-set harts number end.0.hart;
  ids = set_id harts number end.0.hart done.same;
  marks = λ k pa is. elim (done.marks k pa is) as (λ _. CameIn deed number before items k pa) [
    | inl made ↦ inl (made.0, made.1 ∙ own_number deed (id_in harts number) number pa own made.0, made.2)
    | inr there ↦
        let first = keeps.marks k pa there.0 in
        inr (
          first.0,
          λ at. each_append (λ (e : Extent). meets_word pa e ≡ false) (deed_extents deed) (items_extents items)
              (there.1 at) (first.1 at),
        )
  ];
  whole = λ all. done.whole (keeps.whole all);
  bytes = λ all pa low spares.
      done.bytes (keeps.whole all) pa low
      (all_first (λ (e : Extent). has_byte pa e ≡ false) (deed_extents deed) (items_extents items) spares)
      ∙ keeps.bytes all pa low
      (all_second (λ (e : Extent). has_byte pa e ≡ false) (deed_extents deed) (items_extents items) spares);
  conditional = λ pa is.
      let there = done.conditional pa is in
      let first = keeps.marks (id_in harts number) pa there.0 in (
        subst (λ (n : ℕ). mark_of n before.marks ≡ Some pa) (own_store deed (id_in
            harts number) number pa own is) first.0,
        first.1,
      );
}

-- what follows such a step: more items

more_extents : (deed : Deed) (items more : List Item) →
    deed_extents deed ++ items_extents (items ++ more)
    ≡ (deed_extents deed ++ items_extents items) ++ items_extents more
more_extents deed items more =
    ap (λ (l : List Extent). deed_extents deed ++ l) (extents_append items more)
    ∙ sym (append_assoc (deed_extents deed) (items_extents items) (items_extents more))

later_does : (deed : Deed) (number : ℕ) (harts : List Hart) (s : Seen) (items : List Item) (harts' : List Hart)
    (t u : Seen) (more : List Item) → TurnDoes deed number harts s items harts' t → Keeps (items_extents more) t u →
    ((pa : ℕ) → deed ≡ StoresReserved pa → ⊥) → TurnDoes deed number harts s (items ++ more) harts' u
later_does deed number harts s items harts' t u more does keeps calm = record {
  count = does.count;
  ids = does.ids;
  marks = λ k pa is.
      let last = keeps.marks k pa is in
      elim (does.marks k pa last.0) as (λ _. CameIn deed number s (items ++ more) k pa) [
        | inl made ↦ inl made
        | inr there ↦
            inr (
              there.0,
              λ at. subst (λ (l : List Extent). SparesWord pa l) (sym (more_extents deed items more))
                  (each_append (λ (e : Extent). meets_word pa e ≡ false) (deed_extents deed ++ items_extents items)
                  (items_extents more) (there.1 at) (last.1 at)),
            )
      ];
  whole = λ all. keeps.whole (does.whole all);
  bytes = λ all pa low spares.
      let both = subst (λ (l : List Extent). SparesByte pa l) (more_extents deed items more) spares in
      keeps.bytes (does.whole all) pa low
      (all_second (λ (e : Extent). has_byte pa e ≡ false) (deed_extents deed ++ items_extents items)
      (items_extents more) both)
      ∙ does.bytes all pa low
      (all_first (λ (e : Extent). has_byte pa e ≡ false) (deed_extents deed ++ items_extents items)
      (items_extents more) both);
  conditional = λ pa is. absurd (calm pa is);
}

-- Resuming shows nothing.

record IsUnseen (j : Joint) (r : AfterResume) : Type 0 where
  pub harts : r.joint.harts ≡ j.harts
  pub memory : seen_in r.joint.memory ≡ seen_in j.memory
  pub owed : r.joint.memory.ledger.owed ≡ j.memory.ledger.owed
  pub items : AreInward r.items

unseen_root : (j : Joint) (satp ctx reply : ℕ) (was : Domain) (control : Control) (admitted : Admitted)
    (answer : Result (Unit {0}) ResumeFault) → IsUnseen j (by_root j satp ctx reply was control admitted answer)
unfolding by_root
unseen_root j satp ctx reply was control admitted (Err fault) =
    record { harts = refl; memory = refl; owed = refl; items = tt }
unseen_root j satp ctx reply was control admitted (Ok done) =
    record { harts = refl; memory = refl; owed = refl; items = (refl, tt) }

unseen_context : (j : Joint) (satp ctx reply : ℕ) (was : Domain) (control : Control)
    (answer : Result (Unit {0}) ResumeFault) → IsUnseen j (by_context j satp ctx reply was control answer)
unfolding by_context
unseen_context j satp ctx reply was control (Err fault) =
    record { harts = refl; memory = refl; owed = refl; items = tt }
unseen_context j satp ctx reply was control (Ok done) = unseen_root j satp ctx reply was control _ _

unseen_domain : (j : Joint) (hart satp ctx reply : ℕ) (found : Option Domain) →
    IsUnseen j (by_domain j hart satp ctx reply found)
unfolding by_domain
unseen_domain j hart satp ctx reply None = record { harts = refl; memory = refl; owed = refl; items = tt }
unseen_domain j hart satp ctx reply (Some was) = unseen_context j satp ctx reply was _ _

unseen : (j : Joint) (hart satp ctx reply : ℕ) → IsUnseen j (resume j hart satp ctx reply)
unfolding resume by_domain by_context by_root
unseen j hart satp ctx reply = unseen_domain j hart satp ctx reply (slice_get j.domains (domain_of ctx))

-- How a step outside ends.

no_resume : (e : Kernel) (ctx reply : ℕ) → e ≡ Resume ctx reply → e ≡ Stay → ⊥
no_resume e ctx reply is stays = let clash : Resume ctx reply ≡ Stay = sym is ∙ stays in cc

ended_done : (deed : Deed) (number : ℕ) (j after : Joint) (items : List Item) (e : Kernel) →
    TurnDoes deed number j.harts (seen_in j.memory) items after.harts (seen_in after.memory) →
    HasPlaces after.memory →
    ((pa : ℕ) → deed ≡ StoresReserved pa → e ≡ Stay) → TurnDone deed number j (outside_ended after number items e)
unfolding outside_ended
ended_done deed number j after items Stay does places stays = record {
  done = does;
  calm = λ pa is. refl;
  places =
      places;
}
ended_done deed number j after items (Halt value) does places stays =
    record { done = does; calm = λ pa is. refl; places = places }
ended_done deed number j after items (Resume ctx reply) does places stays =
    let r : AfterResume = resume after number (satp_of (hart_in after number).csrs) ctx reply in
    let u : IsUnseen after r = unseen after number (satp_of (hart_in after number).csrs) ctx reply in
    let other : (pa : ℕ) → deed ≡ StoresReserved pa → ⊥ =
    λ pa is. no_resume (Resume ctx reply) ctx reply refl (stays pa is) in
    record {
      done = subst (λ (harts : List Hart). TurnDoes deed number j.harts (seen_in j.memory) (items ++ r.items) harts
          (seen_in r.joint.memory)) (sym u.harts)
          (subst (λ (s : Seen). TurnDoes deed number j.harts (seen_in j.memory) (items ++ r.items) after.harts s)
          (sym u.memory)
          (later_does deed number j.harts (seen_in j.memory) items after.harts (seen_in after.memory)
          (seen_in after.memory) r.items does (keeps_inward r.items (seen_in after.memory) u.items) other));
      calm = λ pa is. absurd (other pa is);
      places = ap length u.owed ∙ (places ∙ ap (λ (x : Seen). length x.ram) (sym u.memory));
    }
ended_done deed number j after items _ does places stays = record {
  done = does;
  calm =
      λ pa is. refl;
  places = places;
}

outside_by : (j : Joint) (number : ℕ) (s : AfterSettling) → let h = hart_in j number in
    let deed = deed_of h (seen_in s.memory) j.disk in
    (deed ≡ Idle) ⊎ (h.id ≡ number) → ShownBy j.memory s.ciphers s.memory → HaveSizes (cipher_items s.ciphers) →
    TurnDone deed number j (after_outside j number (made_after h j.disk (cloak_outside j.memory h) s))
unfolding after_outside made_after
outside_by j number s own shown sizes =
    let h = hart_in j number in
    let seen : Seen = seen_in s.memory in
    let deed = deed_of h seen j.disk in
    let told = kernel_step h j.disk (Flat seen) in
    let done = plain_step_does h j.disk seen in
    let after : Joint = record {
      harts = slice_set j.harts number told.answer.hart;
      disk = told.answer.disk;
      console = j.console;
      memory = with_seen (seen_of told.world) s.memory;
      domains = j.domains;
      ended = j.ended;
      refused = j.refused;
    } in
    let items : List Item = cipher_items s.ciphers in
    let keeps : Keeps (items_extents items) (seen_in j.memory) seen =
    subst (λ (x : Seen). Keeps (items_extents items) (seen_in j.memory) x) (sym shown.seen)
    (keeps_shown s.ciphers (seen_in j.memory) shown.frames sizes) in
    let does = outside_does deed number j.harts (seen_in j.memory) seen items
    (told.answer, seen_of told.world) own keeps done in
    let count = (writes_touched_alone h j.disk seen).count in
    let places : HasPlaces after.memory = shown.places ∙ (sym count ∙ ap length (ram_seen told.world)) in
    ended_done deed number j after items told.answer.ending does places (λ pa is. (done.conditional pa is).1)

outside_done : (j : Joint) (number : ℕ) → HasPlaces j.memory → IsChained j.memory → let h = hart_in j number in
    let deed = deed_of h (seen_in (settle_touched h j.disk j.memory).memory) j.disk in
    (deed ≡ Idle) ⊎ (h.id ≡ number) → TurnDone deed number j (outside_step j number h)
unfolding outside_step settled_step
outside_done j number places chained own =
    let h = hart_in j number in
    let s = settle_touched h j.disk j.memory in
    outside_by j number s own (touched_shown h j.disk j.memory places)
    (cipher_sizes s.ciphers (touched_pages h j.disk j.memory chained))

-- A hart inside.

leave_id : (h : Hart) (s : Shown) → (leave h s).id ≡ h.id
unfolding leave
leave_id h s = refl

-- what the joint machine is after these items
record IsReached (j j' : Joint) (items : List Item) : Type 0 where
  pub harts : j'.harts ≡ j.harts
  pub keeps : Keeps (items_extents items) (seen_in j.memory) (seen_in j'.memory)
  pub places : HasPlaces j'.memory

staying : (j j' : Joint) (number : ℕ) (h : Hart) (items : List Item) (violation : Option Violation) →
    h.id ≡ id_in j.harts number → IsReached j j' items →
    TurnDone Idle number j (record (quiet (with_hart number h j') items) { violation = violation })
staying j j' number h items violation same reached = record {
  done = subst (λ (harts : List Hart). TurnDoes Idle number j.harts (seen_in j.memory) items
      (slice_set harts number h)
      (seen_in j'.memory)) (sym reached.harts)
      (inside_does number j.harts h (seen_in j.memory) (seen_in j'.memory) items same reached.keeps);
  calm = λ pa is. cc;
  places = reached.places;
}

leaving : (j j' : Joint) (number : ℕ) (h : Hart) (items : List Item) (s : Shown) → h.id ≡ id_in j.harts number →
    IsReached j j' items → TurnDone Idle number j (left j' number h items s)
leaving j j' number h items s same reached =
    let more : List Item = item.Leave s ∷ [] in
    let now : Seen = seen_in j'.memory in
    let last : Seen = seen_in (without_mark number j'.memory) in
    let keeps : Keeps (items_extents (items ++ more)) (seen_in j.memory) last =
    subst (λ (l : List Extent). Keeps l (seen_in j.memory) last) (sym (extents_append items more))
    (keeps_then (items_extents items) [] (seen_in j.memory) now last reached.keeps (keeps_unmarked number now)) in
    record {
      done = subst (λ (harts : List Hart). TurnDoes Idle number j.harts (seen_in j.memory) (items ++ more)
          (slice_set harts number (leave h s)) last) (sym reached.harts)
          (inside_does number j.harts (leave h s) (seen_in j.memory) last (items ++ more) (leave_id h s
          ∙ same) keeps);
      calm = λ pa is. cc;
      places = reached.places;
    }

domain_done : (j j' : Joint) (number : ℕ) (h : Hart) (d : ℕ) (w : World) (how : Went) → h.id ≡ id_in j.harts number →
    IsReached j j' (items_of w) → TurnDone Idle number j (domain_ended j' number h d w how)
unfolding domain_ended
domain_done j j' number h d w went.Stay same reached = staying j j' number h (items_of w) None same reached
domain_done j j' number h d w went.Stopped same reached = staying j j' number h (items_of w)
    (violation_of w) same reached
domain_done j j' number h d w (went.Remapped space) same reached = staying j j' number h
    (items_of w) None same reached
domain_done j j' number h d w (went.Leave s) same reached = leaving j j' number h (items_of w) s same reached
domain_done j j' number h d w (went.SpaceGone space s) same reached =
    leaving j _ number h (items_of w) s same
    (record { harts = reached.harts; keeps = reached.keeps; places = reached.places })

told_done : (j : Joint) (number : ℕ) (h : Hart) (d : ℕ) (c : MidStep) (told : Told DomainStepped) →
    h.id ≡ id_in j.harts number → c.memory ≡ j.memory → c.items ≡ [] → Account (Cloaked c) told.world →
    IsChained c.memory → Sizes (Cloaked c) told.world → TurnDone Idle number j (after_domain_step j number h d told)
unfolding after_domain_step
told_done j number h d c told same memory none account chained sizes =
    let w : World = told.world in
    let sized = sizes.by (record { form = refl; chained = chained; items = subst HaveSizes (sym none) tt }) in
    let written : items_of w ≡ account.items = account.written ∙ ap (λ (l : List Item). l ++ account.items) none in
    let all : HaveSizes account.items = subst HaveSizes written sized.items in
    let made = keeps_items account.items (seen_in c.memory) account.within all in
    let now : seen_in (memory_of w j.memory) ≡ with_items account.items (seen_in c.memory) =
    memory_ram w j.memory account.joint.form ∙ account.seen in
    let keeps : Keeps (items_extents account.items) (seen_in j.memory) (seen_in (memory_of w j.memory)) =
    subst (λ (m : CloakedMemory). Keeps (items_extents account.items) (seen_in m) (seen_in
    (memory_of w j.memory))) memory
    (subst (λ (x : Seen). Keeps (items_extents account.items) (seen_in c.memory) x) (sym now) made) in
    domain_done j _ number h d w told.answer.went same (record {
      harts = refl;
      keeps = subst (λ (l : List Item). Keeps (items_extents l) (seen_in j.memory) (seen_in (memory_of w j.memory)))
          (sym written) keeps;
      places = memory_places w j.memory account.joint;
    })

interrupt_done : (j j' : Joint) (number : ℕ) (h : Hart) (items : List Item) (how : Went) → h.id ≡ id_in
    j.harts number →
    IsReached j j' items → TurnDone Idle number j (interrupt_ended j' number h items how)
unfolding interrupt_ended
interrupt_done j j' number h items (went.Leave s) same reached = leaving j j' number h items s same reached
interrupt_done j j' number h items (went.SpaceGone space s) same reached =
    staying j j' number h items None same reached
interrupt_done j j' number h items _ same reached = staying j j' number h items None same reached

after_interrupt_done : (j : Joint) (number : ℕ) (h : Hart) (d : ℕ) (was : Domain) (step : Stepped) →
    HasPlaces j.memory → h.id ≡ id_in j.harts number → TurnDone Idle number j (after_interrupt j number h d was step)
unfolding after_interrupt
after_interrupt_done j number h d was step places same =
    interrupt_done j _ number h (item.Timer d ∷ []) step.went same
    (record { harts = refl; keeps = keeps_all (seen_in j.memory); places = places })

by_interrupt_done : (due : Bool) (j : Joint) (number : ℕ) (h : Hart) (d slot : ℕ) (was : Domain) →
    HasPlaces j.memory → IsChained j.memory →
    h.id ≡ id_in j.harts number → TurnDone Idle number j (by_interrupt due j number h d slot was)
unfolding by_interrupt
by_interrupt_done true j number h d slot was places chained same = after_interrupt_done j number h d was _ places same
by_interrupt_done false j number h d slot was places chained same =
    let c : MidStep = cloak_of j.memory h d (pages_for was (context_at was.control.contexts slot)) in
    told_done j number h d c (domain_step slot was (Cloaked c)) same refl refl
    ((accounts_domain_step slot was (Cloaked c)).by (record { form = refl; places = places }))
    chained (sizes_domain_step slot was (Cloaked c))

not_running_done : (j : Joint) (number ctx : ℕ) (h : Hart) → HasPlaces j.memory → h.id ≡ id_in j.harts number →
    TurnDone Idle number j (left j number h [] (not_running ctx))
not_running_done j number ctx h places same =
    leaving j j number h [] (not_running ctx) same
    (record { harts = refl; keeps = keeps_all (seen_in j.memory); places = places })

running_done : (runs : Bool) (j : Joint) (number : ℕ) (h : Hart) (ctx : ℕ) (was : Domain) → HasPlaces j.memory →
    IsChained j.memory → h.id ≡ id_in j.harts number → TurnDone Idle number j (by_running runs j number h ctx was)
unfolding by_running
running_done false j number h ctx was places chained same = not_running_done j number ctx h places same
running_done true j number h ctx was places chained same =
    by_interrupt_done (interrupt_due h.mode h.csrs) j number h (domain_of ctx) (slot_of ctx) was places chained same

inside_done : (j : Joint) (number : ℕ) (h : Hart) (ctx : ℕ) (found : Option Domain) → HasPlaces j.memory →
    IsChained j.memory → h.id ≡ id_in j.harts number → TurnDone Idle number j (inside_step j number h ctx found)
unfolding inside_step
inside_done j number h ctx None places chained same = not_running_done j number ctx h places same
inside_done j number h ctx (Some was) places chained same = running_done _ j number h ctx was places chained same

-- The end of a domain after a step.

refused_done : (deed : Deed) (number : ℕ) (j : Joint) (t : Turn) → TurnDone deed number j t →
    TurnDone deed number j (refuses t)
refused_done deed number j t turn = record { done = turn.done; calm = turn.calm; places = turn.places }

end_done : (deed : Deed) (number : ℕ) (j : Joint) (t : Turn) (d : ℕ) (domain : Domain) (v : Violation) →
    IsChained t.joint.memory → TurnDone deed number j t → t.violation ≡ Some v →
    let u = end_domain d domain v t in
    TurnDoes deed number j.harts (seen_in j.memory) u.items u.joint.harts (seen_in u.joint.memory)
unfolding end_domain
end_done deed number j t d domain v chained turn met =
    let c : MidStep = cloak_for t.joint.memory d in
    let w : World = (ask_end d (Cloaked c)).world in
    let e : EndsIn c w = end_shows d t.joint.memory turn.places in
    let sized = (sizes_end d (Cloaked c)).by (record { form = refl; chained = chained; items = tt }) in
    let items : items_of w ≡ cipher_items e.shows.ciphers = ap items_of e.is ∙ e.shows.items in
    let shown = keeps_shown e.shows.ciphers (seen_in t.joint.memory) e.shows.shown.frames
    (subst HaveSizes items sized.items) in
    let after : Seen = seen_in (memory_of w t.joint.memory) in
    let now : after ≡ with_shown e.shows.ciphers (seen_in t.joint.memory) =
    ap (λ (x : World). seen_in (memory_of x t.joint.memory)) e.is ∙ e.shows.shown.seen in
    let more : List Item = items_of w ++ item.Ended d ∷ [] in
    let same : items_extents more ≡ items_extents (cipher_items e.shows.ciphers) =
    extents_append (items_of w) (item.Ended d ∷ [])
    ∙ (append-nil (items_extents (items_of w)) ∙ ap items_extents items) in
    let keeps : Keeps (items_extents more) (seen_in t.joint.memory) after =
    subst (λ (l : List Extent). Keeps l (seen_in t.joint.memory) after) (sym same)
    (subst (λ (x : Seen). Keeps (items_extents (cipher_items e.shows.ciphers)) (seen_in t.joint.memory) x)
    (sym now) shown) in
    later_does deed number j.harts (seen_in j.memory) t.items t.joint.harts (seen_in
    t.joint.memory) after more turn.done
    keeps (λ pa is. let clash : None ≡ Some v = sym (turn.calm pa is) ∙ met in cc)

abbrev Does : Deed → ℕ → Joint → Turn → Type 0
Does deed number j u = TurnDoes deed number j.harts (seen_in j.memory) u.items u.joint.harts (seen_in u.joint.memory)

once_done : (deed : Deed) (number : ℕ) (j : Joint) (t : Turn) (ended : Bool) (d : ℕ) (domain : Domain)
    (v : Violation) →
    IsChained t.joint.memory → TurnDone deed number j t → t.violation ≡ Some v →
    Does deed number j (ends_once ended d domain v t)
unfolding ends_once
once_done deed number j t true d domain v chained turn met = (refused_done deed number j t turn).done
once_done deed number j t false d domain v chained turn met = end_done deed number j t d domain v chained turn met

resumed_done : (deed : Deed) (number : ℕ) (j : Joint) (t : Turn) (found : Option Domain) (d : ℕ) (v : Violation) →
    IsChained t.joint.memory → TurnDone deed number j t → t.violation ≡ Some v →
    Does deed number j (ends_resumed found d v t)
unfolding ends_resumed
resumed_done deed number j t None d v chained turn met = (refused_done deed number j t turn).done
resumed_done deed number j t (Some domain) d v chained turn met =
    once_done deed number j t domain.control.ended d domain v chained turn met

asked_done : (deed : Deed) (number : ℕ) (j : Joint) (t : Turn) (found : Option Domain) (d : ℕ) (v : Violation) →
    IsChained t.joint.memory → TurnDone deed number j t → t.violation ≡ Some v →
    Does deed number j (ends_asked found d v t)
unfolding ends_asked
asked_done deed number j t None d v chained turn met = turn.done
asked_done deed number j t (Some domain) d v chained turn met = end_done deed number j t d domain v chained turn met

answers_done : (deed : Deed) (number : ℕ) (j : Joint) (t : Turn) (inside : Option ℕ) (o : Option Violation) →
    IsChained t.joint.memory → TurnDone deed number j t → t.violation ≡ o →
    Does deed number j (answers_violation inside o t)
unfolding answers_violation
answers_done deed number j t inside None chained turn met = turn.done
answers_done deed number j t None (Some v) chained turn met =
    resumed_done deed number j t _ (domain_met v) v chained turn met
answers_done deed number j t (Some ctx) (Some v) chained turn met =
    asked_done deed number j t _ (domain_of ctx) v chained turn met

-- Every step.

turn_done : (j : Joint) (number : ℕ) (inside : Option ℕ) → HasPlaces j.memory → IsChained j.memory → let h = hart_in j number in
    let deed = outside_deed j h inside in (deed ≡ Idle) ⊎ (h.id ≡ number) →
    TurnDone deed number j (turn_of j number h inside)
unfolding turn_of
turn_done j number None places chained own = outside_done j number places chained own
turn_done j number (Some ctx) places chained own =
    inside_done j number (ticked (hart_in j number)) ctx _ places chained (ticked_id (hart_in j number))

pub step_done : (m : Moment) → HasPlaces m.joint.memory → IsChained m.joint.memory → let h = hart_in m.joint (next_hart m) in
    let deed = outside_deed m.joint h h.inside in (deed ≡ Idle) ⊎ (h.id ≡ next_hart m) →
    let t = joint_step m in
    TurnDoes deed (next_hart m) m.joint.harts (seen_in m.joint.memory) t.items t.joint.harts (seen_in t.joint.memory)
unfolding joint_step
step_done m places chained own =
    let h = hart_in m.joint (next_hart m) in
    answers_done (outside_deed m.joint h h.inside) (next_hart m) m.joint (step_before_end m) h.inside _
    (before_seal m ∙ chained) (turn_done m.joint (next_hart m) h.inside places chained own) refl
