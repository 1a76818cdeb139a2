-- The joint machine as a run is opened and closed, and the program alone before any step.
use Rattle.std.proofs.Common.{◌≡◌, ◌≢◌, ◌∙◌, inl, inr, ◌+◌, ◌<◌, ◌≤◌, true, false, cond, suc, zero, ℕ, Bool, List, [], ◌∷◌, Option, Some, None, refl, ap, sym, subst, eq-eqb, ne_eqb, arith, length, map, filter, replicate, nat_eq, nat_lt, lt-ltb, le-ltb, eqb-true, if◌then◌else◌}
use mathlib.Core.Path.{fun_ext}
use Rattle.std.specs.Prelude.{◌&&◌, ◌||◌, ◌==◌, option_and_then, slice_get, slice_index_or}
use Rattle.std.proofs.lemmas.Bool.{cases_lt, false≢true}
use Rattle.cloak_base.specs.Random.{Random}
use Rattle.cloak_base.specs.Pages.{zero_page, with_page}
use Rattle.cloak_base.specs.declared.names.PageId.{PageId}
use Rattle.cloak_base.specs.declared.names.Start.{Start}
use Rattle.cloak_model.specs.declared.image.Bundle.{Bundle}
use Rattle.cloak_model.specs.declared.image.Program.{Program}
use Rattle.cloak_model.specs.Items.{Cipher}
use Rattle.cloak_model.specs.Ledger.{Keys, next_vector}
use Rattle.cloak_model.specs.Halves.{inward_half}
use Rattle.cloak_model.specs.Beginning.{Beginning, Fresh, Stored}
use Rattle.cloak_model.specs.Cloaking.{CloakedMemory, settle}
use Rattle.cloak_model.specs.PageMoves.{place, place_with}
use Rattle.cloak_model.specs.World.{MidStep}
use Rattle.cloak_model.specs.Contexts.{Context, started_contexts, new_context}
use Rattle.cloak_model.specs.DomainState.{Domain, started_control, started_domain}
use Rattle.cloak_model.specs.Parts.{Joint, DomainPart, domain_pages}
use Rattle.cloak_model.specs.Opening.{started_kernel, started_memory, started_domains, started_joint, program_page, numbers_below, is_placed, place_pages, place_programs, RunEdge}
use Rattle.cloak_model.specs.Joint.{hart_in, cloak_outside}
use Rattle.cloak_model.specs.Run.{settled_below, closing}
use Rattle.cloak_model.specs.DomainAlone.{started_page, started_part, with_files, part_from, is_hart}
use Rattle.kernel_isolation.proofs.FilesAdded.{OpensOver, files_of, added_keep}
use Rattle.script_fold.proofs.Runs.{runs_in}
use Rattle.domain_isolation.proofs.Steady.{settle_plain, ciphers_told}
use Rattle.domain_isolation.proofs.InOrder.{decided, InOrder}
use Rattle.domain_isolation.proofs.JointSteps.{HoldsPart}
use Rattle.domain_isolation.proofs.FileParts.{own_page, other_page, files_have, files_order}
use Rattle.cloak_model.proofs.Opening.{length-started_harts, domain_started}
use Rattle.std.proofs.lemmas.Option.{same_Some}

-- The pages of one program.

pub placed_with : (q : PageId) (f : ℕ) (bytes : List ℕ) (draw : Option (List ℕ × Random)) (m m' : CloakedMemory) →
    place_with q f bytes draw m ≡ Some m' → m'.plain ≡ with_page m.plain q bytes
unfolding place_with
placed_with q f bytes None m m' is = absurd cc
placed_with q f bytes (Some draw) m m' is = ap (λ (x : CloakedMemory). x.plain) (sym (same_Some _ m' is))

pub placed : (q : PageId) (f : ℕ) (bytes : List ℕ) (m m' : CloakedMemory) → place q f bytes m ≡ Some m' →
    m'.plain ≡ with_page m.plain q bytes
unfolding place
placed q f bytes m m' is = placed_with q f bytes (next_vector m.ledger) m m' is

-- a value that a chain ends with has one before it
pub record Before {A B : Type 0} (f : A → Option B) (o : Option A) (b : B) : Type 0 where
  pub value : A
  pub was : o ≡ Some value
  pub next : f value ≡ Some b

pub before : {A B : Type 0} (f : A → Option B) (o : Option A) (b : B) → option_and_then f o ≡ Some b → Before f o b
before f None b is = absurd cc
before f (Some a) b is = record { value = a; was = refl; next = is }

-- with the first pages of a program, up to this many
abbrev pages_to : Program → ℕ → (ℕ → ℕ → List ℕ) → ℕ → ℕ → List ℕ
pages_to p n plain resource page =
    if (resource == 0) && nat_lt page n then program_page p.bytes page else plain resource page

abbrev page_zero : ℕ → ℕ → PageId
page_zero d n = record { domain = d; resource = 0; page = n }

chosen_none : {A : Type 0} (a c : Bool) (y z : A) → c ≡ false → cond (a && c) y z ≡ z
chosen_none true c y z is = ap (λ (b : Bool). cond b y z) is
chosen_none false c y z is = refl

chosen_or : {A : Type 0} (a b c : Bool) (x y z : A) → (b ≡ true → x ≡ y) →
    cond (a && b) x (cond (a && c) y z) ≡ cond (a && (b || c)) y z
chosen_or true true c x y z same = same refl
chosen_or true false c x y z same = refl
chosen_or false b c x y z same = refl

past : (i n : ℕ) → i ≢ n → n ≤ i → suc n ≤ i
past i n other more = elim (cases_lt n i) [
  | inl less ↦ less
  | inr less ↦ absurd (other (omega (arith, less, more)))
]

below_next : (i n : ℕ) → (nat_eq i n || nat_lt i n) ≡ nat_lt i (suc n)
below_next i n = elim (decided i n) [
  | inl same ↦ ap (λ (b : Bool). b || nat_lt i n) (eq-eqb i n same) ∙ sym (lt-ltb i (suc n) (omega (arith, same)))
  | inr other ↦ ap (λ (b : Bool). b || nat_lt i n) (ne_eqb i n other) ∙ (elim (cases_lt i n) [
    | inl less ↦ lt-ltb i n less ∙ sym (lt-ltb i (suc n) (omega (arith, less)))
    | inr more ↦ le-ltb i n more ∙ sym (le-ltb i (suc n) (past i n other more))
  ])
]

pages_next : (p : Program) (n : ℕ) (plain : ℕ → ℕ → List ℕ) →
    (let f : ℕ → ℕ → List ℕ = λ resource page. if
    (resource == 0) && nat_eq page n then program_page p.bytes n else pages_to p n plain resource page in
    f) ≡ pages_to p (suc n) plain
pages_next p n plain =
    fun_ext (λ resource. fun_ext (λ page.
    chosen_or (resource == 0) (nat_eq page n) (nat_lt page n) (program_page p.bytes n) (program_page p.bytes page)
    (plain resource page)
    (λ same. ap (program_page p.bytes) (sym (eqb-true page n same)))
    ∙ ap (λ (b : Bool). cond ((resource == 0) && b) (program_page p.bytes page) (plain resource page))
    (below_next page n)))

pages_none : (p : Program) (plain : ℕ → ℕ → List ℕ) → plain ≡ pages_to p 0 plain
pages_none p plain =
    fun_ext (λ resource. fun_ext (λ page.
    sym (chosen_none (resource == 0) (nat_lt page 0) (program_page p.bytes page) (plain resource page)
    (le-ltb page 0 (omega arith)))))

-- What the placing of a program's pages makes of those of each domain.
record Placed (d : ℕ) (p : Program) (n : ℕ) (m m' : CloakedMemory) : Type 0 where
  pub own : domain_pages d m'.plain ≡ pages_to p n (domain_pages d m.plain)
  pub others : (e : ℕ) → e ≢ d → domain_pages e m'.plain ≡ domain_pages e m.plain

pages_placed : (d : ℕ) (p : Program) (n : ℕ) (m m' : CloakedMemory) → place_pages d p n m ≡ Some m' → Placed d p n m m'
pages_placed d p zero m m' is =
    let same : m ≡ m' = same_Some m m' is in
    record {
      own = ap (λ (x : CloakedMemory). domain_pages d x.plain) (sym same) ∙ pages_none p (domain_pages d m.plain);
      others = λ e other. ap (λ (x : CloakedMemory). domain_pages e x.plain) (sym same);
    }
pages_placed d p (suc n) m m' is =
    let b = before (place (page_zero d n) (p.place + n) (program_page p.bytes n)) (place_pages d p n m) m' is in
    let first = pages_placed d p n m b.value b.was in
    let plain = placed (page_zero d n) (p.place + n) (program_page p.bytes n) b.value m' b.next in
    record {
      own =
          ap (domain_pages d) plain ∙ own_page d 0 n (program_page p.bytes n) b.value.plain
          ∙ ap (λ (pages : ℕ → ℕ → List ℕ). let f : ℕ → ℕ →
          List ℕ = λ resource page. if (resource == 0) && nat_eq page n then program_page p.bytes n else pages
          resource page in f) first.own
          ∙ pages_next p n (domain_pages d m.plain);
      others = λ e other. ap (domain_pages e) plain
          ∙ other_page e (page_zero d n) (program_page p.bytes n) b.value.plain other ∙ first.others e other;
    }

-- The pages of all programs.

pages_below : (d e : ℕ) (programs : List Program) (m m' : CloakedMemory) → place_programs d programs m ≡ Some m' →
    e < d → domain_pages e m'.plain ≡ domain_pages e m.plain
pages_below d e [] m m' is less = ap (λ (x : CloakedMemory). domain_pages e x.plain) (sym (same_Some m m' is))
pages_below d e (p ∷ programs) m m' is less =
    let b = before (place_programs (d + 1) programs) (place_pages d p p.start.pages m) m' is in
    pages_below (d + 1) e programs b.value m' b.next (omega (arith, less))
    ∙ (pages_placed d p p.start.pages m b.value b.was).others e (λ same. omega (arith, same, less))

programs_placed : (d k : ℕ) (programs : List Program) (p : Program) (m m' : CloakedMemory) →
    place_programs d programs m ≡ Some m' → slice_get programs k ≡ Some p →
    ((e : ℕ) → d ≤ e → domain_pages e m.plain ≡ (λ resource page. zero_page)) →
    domain_pages (d + k) m'.plain ≡ started_page p
programs_placed d k [] p m m' is found zeros = absurd cc
programs_placed d zero (x ∷ programs) p m m' is found zeros =
    let b = before (place_programs (d + 1) programs) (place_pages d x x.start.pages m) m' is in
    let same : d + 0 ≡ d = omega arith in
    ap (λ (e : ℕ). domain_pages e m'.plain) same ∙ pages_below (d + 1) d programs b.value m' b.next (omega arith)
    ∙ (pages_placed d x x.start.pages m b.value b.was).own ∙ ap (pages_to x x.start.pages) (zeros d (omega arith))
    ∙ ap started_page (same_Some x p found)
programs_placed d (suc k) (x ∷ programs) p m m' is found zeros =
    let b = before (place_programs (d + 1) programs) (place_pages d x x.start.pages m) m' is in
    let same : d + suc k ≡ (d + 1) + k = omega arith in
    ap (λ (e : ℕ). domain_pages e m'.plain) same
    ∙ programs_placed (d + 1) k programs p b.value m' b.next found
    (λ e more. (pages_placed d x x.start.pages m b.value b.was).others e (λ is'. omega (arith, is', more))
    ∙ zeros e (omega (arith, more)))

-- The programs.

-- a domain that no hart runs
record IsIdle (d : ℕ) (domain : Domain) : Type 0 where
  pub number : domain.control.number ≡ d
  pub idle : (hart slot : ℕ) → runs_in hart domain.control.contexts slot ≡ false

none_runs : (n hart slot : ℕ) → runs_in hart (replicate n None) slot ≡ false
none_runs zero hart slot = refl
none_runs (suc n) hart zero = refl
none_runs (suc n) hart (suc slot) = none_runs n hart slot

first_runs : (hart slot : ℕ) (c : Context) → c.on ≡ None → runs_in hart (Some c ∷ replicate 7 None) slot ≡ false
first_runs hart zero c idle = ap (is_hart hart) idle
first_runs hart (suc slot) c idle = none_runs 7 hart slot

started_idle : (d : ℕ) (start : Start) → IsIdle d (started_domain d start)
unfolding started_domain started_control started_contexts
started_idle d start = record {
  number = refl;
  idle = λ hart slot. first_runs hart slot
      (new_context 0 start.entry start.sp 0) refl;
}

domains_idle : (d k : ℕ) (programs : List Program) (domain : Domain) →
    slice_get (started_domains d programs) k ≡ Some domain → IsIdle (d + k) domain
domains_idle d k [] domain found = absurd cc
domains_idle d zero (x ∷ programs) domain found =
    let same : d ≡ d + 0 = omega arith in
    subst (λ (e : ℕ). IsIdle e domain) same (subst (IsIdle d) (same_Some _ domain found) (started_idle d x.start))
domains_idle d (suc k) (x ∷ programs) domain found =
    let same : (d + 1) + k ≡ d + suc k = omega arith in
    subst (λ (e : ℕ). IsIdle e domain) same (domains_idle (d + 1) k programs domain found)

-- The harts.

-- The opening.

-- what the kernel is shown is told to no program
shown_half : (d : ℕ) (ram : List (List ℕ)) (frames : List ℕ) →
    inward_half d (map (λ f. Cipher f (slice_index_or ram f [])) frames) ≡ []
shown_half d ram [] = refl
shown_half d ram (f ∷ frames) = shown_half d ram frames

pub opened_half : (b : Bundle) (from : Beginning) (o : RunEdge) (d : ℕ) → OpensOver b from o → inward_half d o.items ≡ []
opened_half b from o d opened =
    ap (inward_half d) opened.items ∙ shown_half d opened.memory.ram
    (filter (is_placed b.programs) (numbers_below (length opened.memory.ram)))

bare_order : (b : Bundle) (m : CloakedMemory) →
    let j = started_joint b m in InOrder b.kernel.harts j.harts j.domains
unfolding started_joint started_kernel
bare_order b m = record {
  harts_count = length-started_harts b.kernel.entry b.kernel.harts;
  numbers = λ d domain found. let same : 0 + d ≡ d = omega arith in
      (domains_idle 0 d b.programs domain found).number ∙ same;
  runs = λ d domain found hart slot on.
      absurd (false≢true (sym ((domains_idle 0 d b.programs domain found).idle hart slot) ∙ on));
}

pub opened_order : (b : Bundle) (from : Beginning) (o : RunEdge) → OpensOver b from o →
    InOrder b.kernel.harts o.joint.harts o.joint.domains
opened_order b from o opened =
    let bare : Joint = started_joint b opened.memory in
    files_order b.kernel.harts bare o.joint (added_keep (files_of from) bare o.joint opened.added)
    (bare_order b opened.memory)

opened_zeros : (b : Bundle) (keys : Keys) (stream : Random) (e : ℕ) →
    domain_pages e (started_memory b.kernel keys stream).plain ≡ (λ resource page. zero_page)
unfolding started_memory
opened_zeros b keys stream e = refl

bare_has : (b : Bundle) (from : Beginning) (o : RunEdge) (d : ℕ) (p : Program) (opened : OpensOver b from o) →
    slice_get b.programs d ≡ Some p → HoldsPart d (started_joint b opened.memory) (started_part d p)
unfolding started_joint
bare_has b from o d p opened found =
    let same : 0 + d ≡ d = omega arith in
    record {
      domain = domain_started 0 d b.programs p found ∙ ap (λ (e : ℕ). Some (started_domain e p.start)) same;
      plain =
          ap (λ (e : ℕ). domain_pages e opened.memory.plain) (sym same)
          ∙ programs_placed 0 d b.programs p _ opened.memory opened.placed found
          (λ e more. opened_zeros b opened.keys opened.stream e);
    }

-- the part of a beginning is that with its files
part_is : (d : ℕ) (from : Beginning) (p : Program) →
    with_files d (files_of from) (started_part d p) ≡ part_from d from p
unfolding with_files
part_is d (Fresh stream) p = refl
part_is d (Stored keys stream files) p = refl

pub opened_has : (b : Bundle) (from : Beginning) (o : RunEdge) (d : ℕ) (p : Program) → OpensOver b from o →
    slice_get b.programs d ≡ Some p → HoldsPart d o.joint (part_from d from p)
opened_has b from o d p opened found =
    subst (HoldsPart d o.joint) (part_is d from p)
    (files_have d (files_of from) (started_joint b opened.memory) o.joint (started_part d p) opened.added
    (bare_has b from o d p opened found))

-- The closing.

record LeavesDomain (d : ℕ) (c c' : MidStep) : Type 0 where
  pub plain : c'.memory.plain ≡ c.memory.plain
  pub half : inward_half d c'.items ≡ inward_half d c.items

settles_below : (d n : ℕ) (c : MidStep) → LeavesDomain d c (settled_below n c)
unfolding settled_below
settles_below d zero c = record { plain = refl; half = refl }
settles_below d (suc n) c =
    let rest = settles_below d n c in
    let c' = settled_below n c in
    record {
      plain = settle_plain n c'.memory
          ∙ rest.plain;
      half = ciphers_told d c'.items (settle n c'.memory).ciphers ∙ rest.half;
    }

pub closing_half : (d : ℕ) (j : Joint) → inward_half d (closing j).items ≡ []
unfolding closing
closing_half d j = (settles_below d (length j.memory.ram) (cloak_outside j.memory (hart_in j 0))).half

pub closing_has : (d : ℕ) (j : Joint) (p : DomainPart) → HoldsPart d j p → HoldsPart d (closing j).joint p
unfolding closing
closing_has d j p has =
    record {
      domain = has.domain;
      plain = ap (domain_pages d)
          (settles_below d (length j.memory.ram) (cloak_outside j.memory (hart_in j 0))).plain ∙ has.plain;
    }
