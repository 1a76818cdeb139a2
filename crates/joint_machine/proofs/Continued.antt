-- Pages that go on with contents of an earlier run, over plain variables.
use Rattle.std.proofs.Common.{◌≡◌, ◌≢◌, ◌<◌, ◌≤◌, ◌+◌, ◌∙◌, ℕ, Bool, true, false, List, [], ◌∷◌, length, drop, map, slice_index_or, Option, None, Some, All, refl, ap, sym, subst, arith, inl, inr}
use Rattle.std.specs.Prelude.{option_map}
use Rattle.std.proofs.lemmas.List.{at_drop_more, at_drop_all, get_or-map, length-map}
use Rattle.cloak_base.specs.declared.names.Meta.{Meta}
use Rattle.cloak_base.specs.declared.names.PageId.{PageId}
use Rattle.cloak_base.specs.declared.names.SpaceId.{SpaceId}
use Rattle.cloak_base.specs.Pages.{with_page, is_of}
use Rattle.cloak_base.proofs.Pages.{is_of-here, same_page_tells}
use Rattle.cloak_model.specs.Beginning.{with_content, with_contents}
use Rattle.cloak_model.specs.Cloaking.{CloakedMemory}
use Rattle.cloak_model.specs.Ledger.{Keys, domain_key, key_of}
use Rattle.cloak_model.specs.StoredFiles.{PageContent, IsSealedIfShown, meta_of}
use Rattle.protect_meta.specs.Table.{meta_at}
use Rattle.cloak_pager.specs.State.{PagerState, IsFresh, page_of, held_in}
use Rattle.cloak_pager.specs.Relation.{StandsForMemory}
use Rattle.cloak_pager.specs.Asking.{StandsRestored}
use Rattle.cloak_pager.specs.Turns.{MetasTurn}
use Rattle.cloak_pager.specs.declared.frame_right.FrameRight.{FrameRight}
use Rattle.cloak_pager.specs.declared.frame_right.FrameRight.TheVariants.{Spent}
use Rattle.cloak_pager.proofs.Pages.{with_page-same, with_page-other}
use Rattle.shadow_fold.specs.Keeping.{Agrees}
use Rattle.shadow_fold.specs.Table.{Table}
use Rattle.shadow_law.specs.Agreeing.{present}
use Rattle.cloaked_side.specs.Holding.{Holds}
use Rattle.cloaked_side.specs.declared.memory.Memory.{Memory}
use Rattle.cloaked_side.proofs.Translating.{agrees_rights}
use Rattle.joint_machine.specs.Filing.{KeepsOtherPages, StandsContinued}

-- The memory.

-- A memory goes on with other newest bytes of pages, and with other records of them.
pub record Continues (m m' : CloakedMemory) : Type 0 where
  pub plain : PageId → List ℕ
  pub recorded : PageId → Option (List ℕ)
  pub iv : PageId → Option (List ℕ)
  pub is : m' ≡ record m { plain = plain; ledger = record m.ledger { recorded = recorded; iv = iv } }

content_continues : (q : PageId) (c : Option PageContent) (m : CloakedMemory) → Continues m (with_content q c m)
content_continues q None m =
    record { plain = m.plain; recorded = m.ledger.recorded; iv = m.ledger.iv; is = refl }
content_continues q (Some c) m = record {
  plain = with_page m.plain q c.plain;
  recorded = with_page m.ledger.recorded q (Some c.cipher);
  iv = with_page m.ledger.iv q (Some c.iv);
  is = refl;
}

continues_then : (a b c : CloakedMemory) → Continues a b → Continues b c → Continues a c
continues_then a b c first second = record {
  plain = second.plain;
  recorded = second.recorded;
  iv = second.iv;
  is = second.is
      ∙ ap (λ (x : CloakedMemory). record x {
        plain = second.plain;
        ledger = record x.ledger { recorded = second.recorded; iv = second.iv };
      }) first.is;
}

pub contents_continue : (d resource page : ℕ) (contents : List (Option PageContent)) (m : CloakedMemory) →
    Continues m (with_contents d resource page contents m)
unfolding with_contents
contents_continue d resource page [] m =
    record { plain = m.plain; recorded = m.ledger.recorded; iv = m.ledger.iv; is = refl }
contents_continue d resource page (c ∷ contents) m =
    let q : PageId = record { domain = d; resource = resource; page = page } in
    continues_then m (with_content q c m) _ (content_continues q c m)
    (contents_continue d resource (page + 1) contents (with_content q c m))

pub continued_keys : (m m' : CloakedMemory) → Continues m m' → m'.ledger.keys ≡ m.ledger.keys
continued_keys m m' goes = ap (λ (x : CloakedMemory). x.ledger.keys) goes.is

pub continued_roots : (m m' : CloakedMemory) → Continues m m' → (s : SpaceId) → m'.ledger.root s ≡ m.ledger.root s
continued_roots m m' goes s = ap (λ (x : CloakedMemory). x.ledger.root s) goes.is

-- The same machine but for its pager, in which frames hold what they held.
pub record IsSameMemory (old new : Memory) : Type 0 where
  pub frames : length new.pager.frames ≡ length old.pager.frames
  pub rights : new.pager.rights ≡ old.pager.rights
  pub stream : new.stream ≡ old.stream
  pub draws : new.draws ≡ old.draws
  pub missed : new.missed ≡ old.missed
  pub marks : new.reservations ≡ old.reservations
  pub shadows : new.shadows ≡ old.shadows

pub holds_continued : (old new : Memory) (m m' : CloakedMemory) → IsSameMemory old new → Continues m m' →
    (h : Holds old m) → StandsForMemory new.pager h.wiped m' → Holds new m'
holds_continued old new m m' same goes h stands =
    let is : CloakedMemory =
    record m { plain = goes.plain; ledger = record m.ledger { recorded = goes.recorded; iv = goes.iv } } in
    subst (λ (x : CloakedMemory). Holds new x) (sym goes.is) (record {
      wiped = h.wiped;
      pager = subst (λ (x : CloakedMemory). StandsForMemory new.pager h.wiped x) goes.is stands;
      whole = λ none. h.whole (sym same.missed ∙ none);
      stream = h.stream ∙ sym same.stream;
      draws = same.draws ∙ h.draws;
      missed = same.missed ∙ h.missed;
      agrees = subst (λ (t : Table). Agrees (present (held_in new.pager) is) t) (sym same.shadows)
          (agrees_rights old.pager new.pager m old.shadows same.rights h.agrees);
      room = ap (λ (t : Table). t.frames) same.shadows ∙ h.room ∙ sym same.frames;
      marks = same.marks ∙ h.marks;
    })

-- One page.

-- a content of which this is known is there
shown_by : (c : Option PageContent) (t : Meta) → option_map meta_of c ≡ Some t →
    (x : PageContent) × ((c ≡ Some x) × (meta_of x ≡ t))
shown_by None t is = absurd (cc)
shown_by (Some x) t is = (x, (refl, cc))

not_shown_by : (c : Option PageContent) → option_map meta_of c ≡ None → c ≡ None
not_shown_by None is = refl
not_shown_by (Some x) is = absurd (cc)

pub continues_shown : (old new : PagerState) (q : PageId) (t : Meta) (known : Option Meta) → known ≡ Some t →
    StandsRestored old new q t → StandsContinued old new q known
continues_shown old new q t known is restored wiped m c stands sealed tells =
    let shown = shown_by c t (tells ∙ is) in
    subst (λ (o : Option PageContent). StandsForMemory new wiped (with_content q o m)) (sym shown.1.0)
    (restored wiped m shown.0 stands
    (subst (λ (o : Option PageContent). IsSealedIfShown (key_of m.ledger q) o) shown.1.0 sealed) shown.1.1)

pub continues_unknown : (p : PagerState) (q : PageId) (known : Option Meta) → known ≡ None →
    StandsContinued p p q known
continues_unknown p q known is wiped m c stands sealed tells =
    subst (λ (o : Option PageContent). StandsForMemory p wiped (with_content q o m)) (sym (not_shown_by c (tells ∙ is)))
    stands

-- nothing was known of the page
pub stays_unknown : (p : PagerState) (q : PageId) (known : Option Meta) → known ≡ None → meta_at p.table q ≡ None →
    MetasTurn p p (with_page (meta_at p.table) q known)
stays_unknown p q known is fresh = record {
  frames_are = refl;
  rights_are = refl;
  metas_are = λ o. elim (same_page_tells o q) [
    | inl same ↦ ap (meta_at p.table) same.1 ∙ (fresh ∙ (sym is
        ∙ sym (ap (with_page (meta_at p.table) q known) same.1 ∙ with_page-same (meta_at p.table) q known)))
    | inr other ↦ sym (with_page-other (meta_at p.table) q known o other.1)
  ];
  domains_stay = refl;
  keys_stay = refl;
  reads_stay = refl;
}

-- One page after another.

-- no frame holds other pages
pub held_same : (old new : PagerState) → new.rights ≡ old.rights → (k : ℕ) → held_in new k ≡ held_in old k
held_same old new rights k = ap (λ (hs : List FrameRight). page_of (slice_index_or hs k Spent)) rights

pub others_none : (d resource : ℕ) (p : PagerState) → KeepsOtherPages d resource p p
others_none d resource p = record { frames = refl; rights = refl; domains = refl; metas = λ q other. refl }

other_page : (d resource : ℕ) (q o : PageId) → q.domain ≡ d → q.resource ≡ resource → is_of d resource o ≡ false →
    o ≢ q
other_page d resource q o domain here other same =
    let is : is_of d resource o ≡ true =
    ap (λ (x : PageId). is_of d resource x) same ∙ is_of-here d resource q domain here in
    cc

pub others_next : (d resource : ℕ) (q : PageId) (known : Option Meta) (a b c : PagerState) → q.domain ≡ d →
    q.resource ≡ resource → KeepsOtherPages d resource a b → MetasTurn b c (with_page (meta_at b.table) q known) →
    KeepsOtherPages d resource a c
others_next d resource q known a b c domain here keeps turns = record {
  frames = turns.frames_are ∙ keeps.frames;
  rights = turns.rights_are ∙ keeps.rights;
  domains = turns.domains_stay ∙ keeps.domains;
  metas = λ o other.
      turns.metas_are o
      ∙ (with_page-other (meta_at b.table) q known o (other_page d resource q o domain here other) ∙ keeps.metas o other);
}

-- the pages of a resource from this number on are fresh
abbrev pub AreFreshFrom : PagerState → ℕ → ℕ → ℕ → Type 0
AreFreshFrom p d resource page =
    (q : PageId) → q.domain ≡ d → q.resource ≡ resource → page ≤ q.page → IsFresh p q

pub fresh_past : (d resource page : ℕ) (q : PageId) (known : Option Meta) (b c : PagerState) → q.page ≡ page →
    AreFreshFrom b d resource page → MetasTurn b c (with_page (meta_at b.table) q known) →
    AreFreshFrom c d resource (page + 1)
fresh_past d resource page q known b c at fresh turns o domain here past =
    let was = fresh o domain here (omega (arith, past)) in
    let other : o ≢ q = λ same. absurd (let e = ap (λ (x : PageId). x.page) same in omega (arith, e, at, past)) in (
      turns.metas_are o ∙ (with_page-other (meta_at b.table) q known o other ∙ was.0),
      λ k held. was.1 k (sym (held_same b c turns.rights_are k) ∙ held),
    )

-- Of these contents those of the first pages of a resource, up to this many, are restored: the rest, restored in what is
-- there, is all.
pub record RestoresTo (p : PagerState) (wiped : PageId → Bool) (d resource page : ℕ)
    (contents : List (Option PageContent)) (m : CloakedMemory) : Type 0 where
  pub so_far : CloakedMemory
  pub stands : StandsForMemory p wiped so_far
  pub keys : so_far.ledger.keys ≡ m.ledger.keys
  pub left :
      with_contents d resource page (drop page contents) so_far ≡ with_contents d resource 0 contents m

pub restores_none : (p : PagerState) (wiped : PageId → Bool) (d resource : ℕ) (contents : List (Option PageContent))
    (m : CloakedMemory) → StandsForMemory p wiped m → RestoresTo p wiped d resource 0 contents m
restores_none p wiped d resource contents m stands =
    record { so_far = m; stands = stands; keys = refl; left = refl }

with_next : (d resource page : ℕ) (c : Option PageContent) (contents : List (Option PageContent)) (m : CloakedMemory) →
    with_contents d resource page (c ∷ contents) m
    ≡ with_contents d resource (page + 1) contents
    (with_content (record { domain = d; resource = resource; page = page }) c m)
unfolding with_contents
with_next d resource page c contents m = refl

with_none : (d resource page : ℕ) (m : CloakedMemory) → with_contents d resource page [] m ≡ m
unfolding with_contents
with_none d resource page m = refl

pub restores_next : (old new : PagerState) (wiped : PageId → Bool) (d resource page : ℕ)
    (contents : List (Option PageContent)) (known : List (Option Meta)) (m : CloakedMemory) →
    All (IsSealedIfShown (domain_key m.ledger.keys d)) contents → map (option_map meta_of) contents ≡ known →
    page < length contents → RestoresTo old wiped d resource page contents m →
    StandsContinued old new (record { domain = d; resource = resource; page = page }) (slice_index_or known page None) →
    RestoresTo new wiped d resource (page + 1) contents m
restores_next old new wiped d resource page contents known m sealed tells low so_far continues =
    let q : PageId = record { domain = d; resource = resource; page = page } in
    let c : Option PageContent = slice_index_or contents page None in
    let was = so_far.so_far in
    let told : option_map meta_of c ≡ slice_index_or known page None =
    sym (get_or-map (option_map meta_of) contents page None None low)
    ∙ ap (λ (l : List (Option Meta)). slice_index_or l page None) tells in
    record {
      so_far = with_content q c was;
      stands =
          continues wiped was c so_far.stands
          (subst (λ (k : Keys). IsSealedIfShown (domain_key k d) c) (sym so_far.keys) (sealed page None low)) told;
      keys = continued_keys was (with_content q c was) (content_continues q c was) ∙ so_far.keys;
      left =
          sym (with_next d resource page c (drop (page + 1) contents) was)
          ∙ (sym (at_drop_more (λ (l : List (Option PageContent)). with_contents d resource page l was) contents page None low)
          ∙ so_far.left);
    }

pub restores_all : (p : PagerState) (wiped : PageId → Bool) (d resource page : ℕ) (contents : List (Option PageContent))
    (m : CloakedMemory) → length contents ≤ page → RestoresTo p wiped d resource page contents m →
    StandsForMemory p wiped (with_contents d resource 0 contents m)
restores_all p wiped d resource page contents m past so_far =
    subst (λ (x : CloakedMemory). StandsForMemory p wiped x)
    (sym (with_none d resource page so_far.so_far)
    ∙ (sym (at_drop_all (λ (l : List (Option PageContent)). with_contents d resource page l so_far.so_far) contents page past)
    ∙ so_far.left))
    so_far.stands

pub count_known : (contents : List (Option PageContent)) (known : List (Option Meta)) →
    map (option_map meta_of) contents ≡ known → length contents ≡ length known
count_known contents known tells = sym (length-map contents (option_map meta_of)) ∙ ap (λ (l : List (Option Meta)). length l) tells
