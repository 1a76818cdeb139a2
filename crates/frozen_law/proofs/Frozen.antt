-- A state with which a run is frozen is in range, and its machine can go on: what the laws say, field by field.
use Rattle.std.proofs.Common.{◌≡◌, ◌∙◌, inl, inr, ℕ, zero, suc, ◌+◌, ◌%◌, ◌<◌, ◌≤◌, nat_le, bit_and, true, false, List, [], ◌∷◌, length, map, slice_get, slice_index_or, Option, Some, None, IfSome, Ok, refl, sym, ap, subst, arith, eq-eqb}
use Rattle.std.specs.Prelude.{◌==◌, IsSomeAnd, slice_index, option_map, option_and_then}
use Rattle.std.specs.List.{AllByRecursion}
use Rattle.std.proofs.lemmas.Bool.{cases_lt, lt-ltb, le-leb}
use Rattle.std.proofs.lemmas.List.{get_or_past, length-map}
use Rattle.std.proofs.lemmas.List.Sums.{get_or-le-sum_by}
use Rattle.io_traits.specs.Skipping.{skipped}
use Rattle.cloak_base.specs.Constants.{ram_start, ram_end}
use Rattle.cloak_base.specs.Random.{Random}
use Rattle.cloak_base.specs.declared.causes.Violation.{Violation}
use Rattle.cloak_base.specs.declared.causes.Violation.TheVariants as violation
use Rattle.cloak_base.specs.declared.names.PageId.{PageId}
use Rattle.cloak_model.specs.declared.image.Bundle.{Bundle}
use Rattle.cloak_model.specs.declared.resource.Resource.{Resource}
use Rattle.cloak_model.specs.Beginning.{Beginning, Fresh}
use Rattle.cloak_model.specs.Bundle.{IsInGrammar}
use Rattle.cloak_model.specs.Cloaking.{owed_in}
use Rattle.cloak_model.specs.Csr.{csr_words}
use Rattle.cloak_model.specs.DomainState.{Domain}
use Rattle.cloak_model.specs.Hart.{Hart}
use Rattle.cloak_model.specs.Ledger.{Keys, Ledger}
use Rattle.cloak_model.specs.Memory.{mark_of}
use Rattle.cloak_model.specs.Opening.{drawn_keys, key_count, keys_for}
use Rattle.cloak_model.specs.Parts.{Joint}
use Rattle.cloak_model.specs.Resources.{Resources, resource_at, pages_of}
use Rattle.cloak_model.specs.Run.{Run, run_from, most_steps}
use Rattle.frozen_state.specs.declared.frozen.Frozen.{Frozen}
use Rattle.frozen_state.specs.declared.frozen.FrozenDomain.{FrozenDomain}
use Rattle.frozen_state.specs.declared.frozen.FrozenFrame.{FrozenFrame}
use Rattle.frozen_state.specs.declared.frozen.FrozenPage.{FrozenPage}
use Rattle.frozen_state.specs.DomainPage.{IsProgram}
use Rattle.frozen_state.specs.FrozenState.{hart_with, pages_of_domains, recorded_of, frozen_with, frozen_of}
use Rattle.frozen_state.specs.Limits.{KeepsLimits}
use Rattle.frozen_state.specs.Ranges.{has_only, kept_bits, is_word_in_ram, IsFrozenHart, IsPage, owed_page, IsInRange}
use Rattle.frozen_state.specs.Ranges as range
use Rattle.frozen_state.specs.Thawing.{keys_and_rest, PagesFit, CanGoOn}
use Rattle.range_law.specs.Writing.{IsOfBytes, IsStreamOfBytes}
use Rattle.range_law.proofs.Bounds.{all_get, all_map, by_place}
use Rattle.kernel_isolation.specs.Isolation.{joint_until}
use Rattle.limit_law.specs.Words.{HasProgramWords}
use Rattle.limit_law.proofs.EndedRuns.{ended_are_told, refusals_are_few}
use Rattle.limit_law.proofs.FileRuns.{runs_have_file_words}
use Rattle.limit_law.proofs.OwedRuns.{pages_are_owed_once}
use Rattle.limit_law.proofs.RootRuns.{roots_are_of_spaces_in_use}
use Rattle.limit_law.proofs.Runs.{runs_keep_limits}
use Rattle.limit_law.proofs.Words.{runs_have_words}
use Rattle.frozen_law.specs.Frozen.{FrozenStatesGoOn}
use Rattle.frozen_law.specs.Harts.{HaveOnly, IsWordOfRam}
use Rattle.frozen_law.specs.Harts as law
use Rattle.frozen_law.specs.Held.{IsHeldIn, IsHeldBy}
use Rattle.frozen_law.specs.Missed.{NoneStopped}
use Rattle.frozen_law.specs.Streams.{HasDrawn}
use Rattle.frozen_law.specs.Violations.{IsViolationOf}
use Rattle.frozen_law.proofs.DrawRuns.{draws_are_below}
use Rattle.frozen_law.proofs.Fit.{runs_fit_pages}
use Rattle.frozen_law.proofs.FrozenPages.{recorded_are_pages, recorded_pages_rise, and_both}
use Rattle.frozen_law.proofs.FrozenParts.{DomainsAs, FramesAs, each_end, each_owed, owed_at, FrozenAs, frozen_as}
use Rattle.frozen_law.proofs.HartRuns.{harts_are_in_range}
use Rattle.frozen_law.proofs.HeldOpened.{runs_hold_pages}
use Rattle.frozen_law.proofs.Marks.{marks_are_in_ram}
use Rattle.frozen_law.proofs.MissedRuns.{nothing_is_missed}
use Rattle.frozen_law.proofs.Sizes.{runs_keep_sizes}
use Rattle.frozen_law.proofs.Streams.{runs_keep_streams}
use Rattle.frozen_law.proofs.Violations.{ends_are_in_range}
use Rattle.std.proofs.lemmas.Option.{slice_get_within}

-- Harts.

only_at : (bits words : List ℕ) → HaveOnly bits words → (i : ℕ) → i < length bits →
    has_only (slice_index bits i) (slice_index words i) ≡ true
only_at [] words have i low = absurd (omega (arith, low))
only_at (bit ∷ bits) [] have i low = absurd have
only_at (bit ∷ bits) (w ∷ words) have zero low = eq-eqb (bit_and w bit) w have.0
only_at (bit ∷ bits) (w ∷ words) have (suc i) low = only_at bits words have.1 i (omega (arith, low))

word_in : (frames pa : ℕ) → IsWordOfRam frames pa → is_word_in_ram frames pa ≡ true
word_in frames pa is =
    and_both (pa % 4 == 0) _ (eq-eqb (pa % 4) 0 is.aligned)
    (and_both (nat_le ram_start pa) _ (le-leb ram_start pa is.low) (lt-ltb pa (ram_end frames) is.high))

mark_in : (frames : ℕ) (o : Option ℕ) → ((pa : ℕ) → o ≡ Some pa → IsWordOfRam frames pa) →
    IfSome o (λ pa. is_word_in_ram frames pa ≡ true)
mark_in frames None more = tt
mark_in frames (Some pa) more = word_in frames pa (more pa refl)

hart_in_range : (frames : ℕ) (marks : List (Option ℕ)) →
    ((hart pa : ℕ) → mark_of hart marks ≡ Some pa → IsWordOfRam frames pa) → (h : Hart) → law.IsInRange h →
    IsFrozenHart frames (hart_with marks h)
unfolding hart_with
hart_in_range frames marks words h here = record {
  aligned = here.pc;
  csrs = λ i low. only_at kept_bits (csr_words h.csrs) here.csrs i low;
  mark = mark_in frames (mark_of h.id marks) (words h.id);
}

-- What ended programs.

violation_of : (frames d : ℕ) (v : Violation) → IsViolationOf frames d v → range.IsViolationOf frames d v
violation_of frames d (violation.Page q frame) is = (is.domain, is.resource, is.page, is.frame)
violation_of frames d _ is = tt

violation_if : (frames d : ℕ) (o : Option Violation) → IfSome o (IsViolationOf frames d) →
    IfSome o (range.IsViolationOf frames d)
violation_if frames d None is = tt
violation_if frames d (Some v) is = violation_of frames d v is

-- Pages.

none_some : {A : Type 0} (a : A) → None ≡ Some a → ⊥
none_some a is = absurd cc

held_below : (r : Resources) (n : ℕ) (held : Resource) → resource_at r n ≡ Some held → n < length r.held
held_below r n held is = elim (cases_lt n (length r.held)) [
  | inl low ↦ low
  | inr past ↦ absurd (none_some held (sym (get_or_past r.held n None past) ∙ is))
]

page_of_held : (programs : ℕ) (r : Resources) (q : PageId) (o : Option Resource) → resource_at r q.resource ≡ o →
    length r.held ≡ 16 → ((n : ℕ) → n < length r.held → pages_of (resource_at r n) ≤ 1024) → q.domain < programs →
    IsSomeAnd o (λ held. q.page < held.pages) → IsPage programs q
page_of_held programs r q None e count few low is = absurd is
page_of_held programs r q (Some held) e count few low is =
    let inside = held_below r q.resource held e in
    let size : pages_of (resource_at r q.resource) ≤ 1024 = few q.resource inside in
    let size' : held.pages ≤ 1024 = subst (λ (o : Option Resource). pages_of o ≤ 1024) e size in
    record {
      domain = low;
      resource = omega (arith, inside, count);
      page = omega (arith, is, size');
    }

page_in : (programs : ℕ) (domains : List Domain) (q : PageId) (o : Option Domain) → slice_get domains q.domain ≡ o →
    length domains ≡ programs →
    ((d : ℕ) (program : Domain) → slice_get domains d ≡ Some program → KeepsLimits program.control) →
    IsSomeAnd o (λ d. IsHeldBy d.control.resources q) → IsPage programs q
page_in programs domains q None e count limits is = absurd is
page_in programs domains q (Some program) e count limits is =
    let low = slice_get_within domains q.domain program e in
    let sound = (limits q.domain program e).resources in
    let r : Resources = program.control.resources in
    page_of_held programs r q (resource_at r q.resource) refl sound.numbers
    (λ n inside. let le = get_or-le-sum_by pages_of r.held n None inside in let all = sound.few in
    omega (arith, le, all)) (omega (arith, low, count)) is

owed_if : (programs : ℕ) (domains : List Domain) (o : Option PageId) → length domains ≡ programs →
    ((d : ℕ) (program : Domain) → slice_get domains d ≡ Some program → KeepsLimits program.control) →
    IfSome o (IsHeldIn domains) → IfSome o (IsPage programs)
owed_if programs domains None count limits is = tt
owed_if programs domains (Some q) count limits is = page_in programs domains q _ refl count limits is

-- Programs.

program_if : (j : Joint) (d : ℕ) (o : Option Domain) → slice_get j.domains d ≡ o →
    ((program : Domain) → slice_get j.domains d ≡ Some program → IsProgram d program.control) →
    IfSome o (λ domain. IsProgram d domain.control)
program_if j d None e is = tt
program_if j d (Some program) e is = is program e

-- Keys.

abbrev paired : Keys → Random → Keys × Random
paired keys rest = (keys, rest)

by_keys : (b : Bundle) (l : Ledger) (o : Option (List (List ℕ) × Random)) →
    IsSomeAnd o (λ drawn. HasDrawn (keys_for b.programs drawn.0) drawn.1 l) →
    option_and_then (λ (drawn : List (List ℕ) × Random).
    option_map (λ (rest : Random). paired (keys_for b.programs drawn.0) rest) (skipped l.draws drawn.1)) o
    ≡ Some (paired l.keys l.stream)
by_keys b l None has = absurd has
by_keys b l (Some drawn) has =
    ap (option_map (λ (rest : Random). paired (keys_for b.programs drawn.0) rest)) has.rest
    ∙ ap (λ (keys : Keys). Some (paired keys l.stream)) (sym has.same_keys)

zero_more : (n : ℕ) → 0 + n ≡ n
zero_more n = omega arith

keys_of : (b : Bundle) (l : Ledger) (stream : Random) →
    IsSomeAnd (drawn_keys (key_count b.programs) stream) (λ drawn. HasDrawn (keys_for b.programs drawn.0) drawn.1 l) →
    keys_and_rest b l.draws stream ≡ Some (l.keys, l.stream)
unfolding keys_and_rest
keys_of b l stream has = by_keys b l (drawn_keys (key_count b.programs) stream) has

module _ (b : Bundle) (stream : Random) (budget : ℕ) (r : Run) (grammar : IsInGrammar b) (bytes : IsOfBytes b)
    (all : IsStreamOfBytes stream) (is : run_from b (Fresh stream) budget ≡ Ok r) (n : ℕ) (few : n ≤ most_steps)
    (on : NoneStopped n r) where
  limits : (d : ℕ) (program : Domain) → slice_get (joint_until n r).domains d ≡ Some program →
      KeepsLimits program.control
  limits d program e = runs_keep_limits b (Fresh stream) budget r grammar is n d program e

  in_range : (ds : List FrozenDomain) (fs : List FrozenFrame) →
      DomainsAs (joint_until n r) 0 (joint_until n r).domains ds →
      FramesAs (joint_until n r).memory 0 (joint_until n r).memory.ram fs →
      IsInRange b.kernel (length b.programs) (frozen_with (joint_until n r) n ds fs)
  unfolding frozen_with
  in_range ds fs domains frames =
      let from : Beginning = Fresh stream in
      let j : Joint = joint_until n r in
      let size = runs_keep_sizes b (Fresh stream) budget r grammar is n in
      let held = runs_hold_pages b (Fresh stream) budget r grammar is n in
      record {
        steps = few;
        draws = draws_are_below b (Fresh stream) budget r grammar is n few;
        refused = (refusals_are_few b (Fresh stream) budget r is n).by_steps;
        domains = domains.count ∙ size.programs;
        violations = λ d.
            subst (λ (k : ℕ). IfSome (slice_get ds d) (λ x. IfSome x.violation (range.IsViolationOf b.kernel.frames k)))
            (zero_more d)
            (each_end (λ k o. IfSome o (range.IsViolationOf b.kernel.frames k)) j
            (λ k. violation_if b.kernel.frames k (slice_index_or j.ended k None)
            (ends_are_in_range b (Fresh stream) budget r grammar is n k)) 0 ds domains.ends d);
        hart_count = length-map j.harts (hart_with j.memory.marks) ∙ size.harts;
        harts = by_place (IsFrozenHart b.kernel.frames) (map (hart_with j.memory.marks) j.harts)
            (all_map law.IsInRange (IsFrozenHart b.kernel.frames) (hart_with j.memory.marks) j.harts
            (hart_in_range b.kernel.frames j.memory.marks (marks_are_in_ram b (Fresh stream) budget r is n))
            (harts_are_in_range b (Fresh stream) budget r grammar bytes all is n));
        disk = size.disk;
        frames = frames.count ∙ size.frames;
        owed = by_place (λ (frame : FrozenFrame). IfSome (owed_page frame) (IsPage (length b.programs))) fs
            (each_owed (λ o. IfSome o (IsPage (length b.programs))) j.memory
            (λ f. owed_if (length b.programs) j.domains (owed_in j.memory f) size.programs limits (held.owed f)) 0 fs
            frames.owed);
        owed_once = λ f g q here there.
            pages_are_owed_once b (Fresh stream) budget r is n f g q
            (subst (λ (k : ℕ). owed_in j.memory k ≡ Some q) (zero_more f) (owed_at j.memory 0 fs frames.owed f q here))
            (subst (λ (k : ℕ). owed_in j.memory k ≡ Some q) (zero_more g) (owed_at j.memory 0 fs frames.owed g q there));
        recorded = by_place (λ (p : FrozenPage). IsPage (length b.programs) p.page)
            (recorded_of j.memory.ledger (pages_of_domains (length j.domains)))
            (subst (λ (k : ℕ). AllByRecursion (λ (p : FrozenPage). IsPage k p.page)
            (recorded_of j.memory.ledger (pages_of_domains (length j.domains)))) size.programs
            (recorded_are_pages j.memory.ledger (length j.domains)));
        rising = recorded_pages_rise j.memory.ledger (length j.domains);
      }

  program_of : (d : ℕ) (program : Domain) → slice_get (joint_until n r).domains d ≡ Some program →
      IsProgram d program.control
  program_of d program e =
      let j : Joint = joint_until n r in
      let size = runs_keep_sizes b (Fresh stream) budget r grammar is n in
      let words = runs_have_words b (Fresh stream) budget r grammar bytes all is n in
      record {
        numbered = subst (λ (o : Option Domain). IfSome o (λ p. p.control.number ≡ d)) e (size.numbers d);
        limits = limits d program e;
        words = (all_get HasProgramWords j.domains d program words.programs e).contexts;
        file_words = runs_have_file_words b (Fresh stream) budget r grammar bytes all is n d program e;
      }

  pages_fit : PagesFit (joint_until n r).memory
  pages_fit =
      let fit = runs_fit_pages b (Fresh stream) budget r grammar bytes all is n on in
      record { bytes = fit.bytes; vectors = fit.vectors; recorded = fit.recorded; fresh = fit.fresh }

  goes_on : (joint_until n r).memory.ledger.clashed ≡ false → (ivs : Random) (ds : List FrozenDomain)
      (fs : List FrozenFrame) →
      frozen_of (joint_until n r) n ivs ≡ Some (frozen_with (joint_until n r) n ds fs) →
      CanGoOn b stream (frozen_with (joint_until n r) n ds fs) (joint_until n r)
  unfolding frozen_with
  goes_on clear ivs ds fs state =
      let j : Joint = joint_until n r in
      let size = runs_keep_sizes b (Fresh stream) budget r grammar is n in
      let held = runs_hold_pages b (Fresh stream) budget r grammar is n in
      record {
        ivs = ivs;
        state = state;
        harts = size.each;
        programs = λ d. program_if j d (slice_get j.domains d) refl (program_of d);
        ended = ended_are_told b (Fresh stream) budget r grammar is n;
        roots = roots_are_of_spaces_in_use b (Fresh stream) budget r grammar is n;
        owed = held.owed;
        recorded = held.recorded;
        owed_places = size.owed ∙ sym size.frames;
        mark_places = size.marks ∙ sym size.harts;
        pages = pages_fit;
        no_miss = nothing_is_missed b (Fresh stream) budget r is n on;
        no_clash = clear;
        keys = keys_of b j.memory.ledger stream (runs_keep_streams b (Fresh stream) budget r grammar is n few);
      }

  both : (joint_until n r).memory.ledger.clashed ≡ false → (ivs : Random) (f : Frozen) →
      frozen_of (joint_until n r) n ivs ≡ Some f → FrozenAs (joint_until n r) n f →
      IsInRange b.kernel (length b.programs) f × CanGoOn b stream f (joint_until n r)
  both clear ivs f state has =
      let j : Joint = joint_until n r in
      subst (λ (x : Frozen). IsInRange b.kernel (length b.programs) x × CanGoOn b stream x j) (sym has.same) (
        in_range has.domains has.frames has.is_domains has.is_frames,
        goes_on clear ivs has.domains has.frames
            (state ∙ ap (λ (x : Frozen). Some x) has.same),
      )

pub frozen_states_go_on : FrozenStatesGoOn
frozen_states_go_on b stream budget r grammar bytes all is n few on clear ivs f state =
    both b stream budget r grammar bytes all is n few on clear ivs f state (frozen_as (joint_until n r) n ivs f state)
