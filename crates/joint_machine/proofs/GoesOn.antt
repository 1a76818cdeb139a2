-- A machine that is thawed stands for each state that its frozen state is one of, over plain variables.
use Rattle.std.proofs.Common.{◌≡◌, ◌∙◌, ◌<◌, ◌≤◌, ℕ, zero, suc, true, false, List, [], ◌∷◌, ◌++◌, length, map, slice_get, slice_index_or, Option, Some, None, All, refl, ap, sym, subst, arith, inl, inr}
use Rattle.std.specs.Prelude.{is_some, IfSome, IsSomeAnd}
use Rattle.std.proofs.lemmas.Bool.{cases_lt}
use Rattle.std.proofs.lemmas.List.{ext_get_or, get_or-map, length-map}
use Rattle.std.proofs.lemmas.List.Elements.{All-nil}
use Rattle.sha2.specs.Sha256.{sha256}
use Rattle.cloak_base.specs.Random.{Random}
use Rattle.cloak_base.specs.declared.names.Meta.{Meta}
use Rattle.cloak_base.specs.declared.names.PageId.{PageId}
use Rattle.cloak_base.specs.declared.names.SpaceId.{SpaceId}
use Rattle.cloak_model.specs.Chain.{cbc}
use Rattle.cloak_model.specs.Cloaking.{CloakedMemory, ciphertext_of, owed_in}
use Rattle.cloak_model.specs.DomainState as program
use Rattle.cloak_model.specs.Ledger.{Keys, Ledger, domain_key, key_in, key_of}
use Rattle.cloak_model.specs.Sealing.{Sealing, Chained, sealed_by}
use Rattle.cloak_model.specs.Parts.{Joint}
use Rattle.cloak_model.specs.Resources.{resource_at}
use Rattle.cloak_model.specs.declared.image.Bundle.{Bundle}
use Rattle.cloak_model.specs.declared.resource.Resource.{Resource}
use Rattle.protect_meta.specs.Table.{meta_at}
use Rattle.resource_map.specs.Kept.{IsInUse}
use Rattle.frozen_state.specs.Continuing.{without_loads}
use Rattle.frozen_state.specs.DomainPage.{IsProgram, domain_page}
use Rattle.frozen_state.specs.FrozenState.{domain_under, owed_under, page_with, pages_of_domains, recorded_of, roots_of}
use Rattle.frozen_state.specs.Limits.{has_ended}
use Rattle.frozen_state.specs.Ranges.{owed_page}
use Rattle.frozen_state.specs.Refusing.{IsProgramOf, LiesIn}
use Rattle.frozen_state.specs.Thawing.{CanGoOn, IsPageInUse, PagesFit}
use Rattle.frozen_state.specs.declared.frozen.Frozen.{Frozen}
use Rattle.frozen_state.specs.declared.frozen.FrozenDomain.{FrozenDomain}
use Rattle.frozen_state.specs.declared.frozen.FrozenFrame.{FrozenFrame}
use Rattle.frozen_state.specs.declared.frozen.FrozenPage.{FrozenPage}
use Rattle.cloak_pager.specs.State as pager
use Rattle.cloak_pager.specs.State.{PagerState, IsWholePager, bytes_in, held_in, right_at}
use Rattle.cloak_pager.specs.Relation.{StandsForMemory, FrameStands, PageStands, vector_in}
use Rattle.cloak_pager.specs.Asking.{none_wiped}
use Rattle.cloak_pager.specs.Turns.{frame_numbered, holding}
use Rattle.cloak_pager.specs.declared.frame_right.FrameRight.TheVariants.{Outside, Changed, Spent}
use Rattle.cloak_pager.proofs.Offers.{none_owing}
use Rattle.hypercalls.specs.declared.domain.Domain.{Domain}
use Rattle.hypercalls.specs.Standing.{StandsFor}
use Rattle.joint_machine.specs.Standing.{AreDomains}
use Rattle.joint_machine.specs.Thawing.{AreThawedDomains, IsThawedFrame, IsThawedPager, meta_among}
use Rattle.joint_machine.proofs.Rows.{row_at, row_past}
use Rattle.joint_machine.proofs.Shown.{DrewOne, IsFrameShown, ShowsAll, domain_seen, frame_seen, meta_in, meta_of_record, recorded_shown}
use Rattle.joint_machine.proofs.Thaws.{get_there}
use Rattle.std.proofs.lemmas.Option.{slice_get_within}

-- The memory.

-- what a frame has that is owed this
abbrev pub FrameGoesOn : PagerState → CloakedMemory → ℕ → Option PageId → Type 0
FrameGoesOn p m f None = (right_at p f ≡ Outside (frame_numbered f)) × (bytes_in p f ≡ slice_index_or m.ram f [])
FrameGoesOn p m f (Some q) = (right_at p f ≡ Changed (holding f q)) × (bytes_in p f ≡ m.plain q)

-- the pager has frames and metadata of the memory
pub record GoesOnMemory (p : PagerState) (m : CloakedMemory) : Type 0 where
  pub keys : m.ledger.keys ≡ p.keys
  pub chained : p.keys.seal ≡ Chained
  pub count : length m.ram ≡ length p.frames
  pub places : length m.ledger.owed ≡ length p.frames
  pub each : (f : ℕ) → f < length p.frames → FrameGoesOn p m f (owed_in m f)
  pub metas : (q : PageId) → meta_at p.table q ≡ meta_in m.ledger q
  pub fits : PagesFit m

frame_goes_on : (p : PagerState) (m : CloakedMemory) (f : ℕ) (owed : Option PageId) → FrameGoesOn p m f owed →
    FrameStands p none_wiped m f (right_at p f)
frame_goes_on p m f None goes = subst (FrameStands p none_wiped m f) (sym goes.0) goes.1
frame_goes_on p m f (Some q) goes = subst (FrameStands p none_wiped m f) (sym goes.0) (λ kept. goes.1)

right_goes_on : (p : PagerState) (m : CloakedMemory) (f : ℕ) (owed : Option PageId) → FrameGoesOn p m f owed →
    owed ≡ pager.owed_under (right_at p f)
right_goes_on p m f None goes = ap pager.owed_under (sym goes.0)
right_goes_on p m f (Some q) goes = ap pager.owed_under (sym goes.0)

no_iv : (v : Option (List ℕ)) → is_some v ≡ false → v ≡ None
no_iv None none = refl
no_iv (Some iv) none = absurd (cc)

-- what a page is sealed to by chained AES
chained_to : (m : CloakedMemory) (q : PageId) (iv bytes : List ℕ) → m.ledger.keys.seal ≡ Chained →
    ciphertext_of m.ledger q iv bytes ≡ cbc (key_of m.ledger q) iv bytes
chained_to m q iv bytes is = ap (λ (s : Sealing). sealed_by s (key_of m.ledger q) iv bytes) is

page_goes_on : (m : CloakedMemory) (q : PageId) (r v : Option (List ℕ)) → PagesFit m → m.ledger.keys.seal ≡ Chained →
    m.ledger.recorded q ≡ r → m.ledger.iv q ≡ v → is_some v ≡ is_some r → PageStands false m q (meta_of_record r v)
page_goes_on m q None v fits chained is at same = (is, λ kept free. fits.fresh q is (none_owing m q free))
page_goes_on m q (Some c) None fits chained is at same = absurd (cc)
page_goes_on m q (Some c) (Some iv) fits chained is at same = record {
  bytes = c;
  is = is;
  digest = refl;
  sealed = λ kept free. fits.recorded q c iv is at (none_owing m q free) ∙ chained_to m q iv (m.plain q) chained;
}

vector_goes_on : (r v : Option (List ℕ)) → is_some v ≡ is_some r → v ≡ vector_in (meta_of_record r v)
vector_goes_on None v same = no_iv v same
vector_goes_on (Some c) None same = refl
vector_goes_on (Some c) (Some iv) same = refl

pub goes_on_stands : (p : PagerState) (m : CloakedMemory) → IsWholePager p → GoesOnMemory p m →
    StandsForMemory p none_wiped m
goes_on_stands p m whole goes = record {
  whole = whole;
  keys = goes.keys;
  chained = goes.chained;
  count = goes.count;
  frames = λ f low. frame_goes_on p m f (owed_in m f) (goes.each f low);
  owed =
      ext_get_or None m.ledger.owed (map pager.owed_under p.rights)
      (goes.places ∙ (sym whole.count ∙ sym (length-map p.rights pager.owed_under)))
      (λ f low.
      right_goes_on p m f (owed_in m f) (goes.each f (let places = goes.places in omega (arith, low, places)))
      ∙ sym (get_or-map pager.owed_under p.rights f Spent None (let a = whole.count in let b = goes.places in omega (arith, low, a, b))));
  pages = λ q.
      subst (PageStands false m q) (sym (goes.metas q))
      (page_goes_on m q (m.ledger.recorded q) (m.ledger.iv q) goes.fits (ap (λ (k : Keys). k.seal) goes.keys ∙ goes.chained)
      refl refl (goes.fits.vectors q));
  vectors = λ q.
      vector_goes_on (m.ledger.recorded q) (m.ledger.iv q) (goes.fits.vectors q) ∙ ap vector_in (sym (goes.metas q));
  plain = λ q kept. goes.fits.bytes q;
  drained = λ q lost. absurd (let no : false ≡ true = lost in cc);
}

-- a frame that is thawed has what the frame had that is shown
thawed_goes_on : (p : PagerState) (m : CloakedMemory) (f : ℕ) (owed : Option PageId) (x : FrozenFrame) →
    m.ledger.keys ≡ p.keys → p.keys.seal ≡ Chained → PagesFit m → IsFrameShown m (slice_index_or m.ram f []) owed x →
    IsThawedFrame p f x x.owed → FrameGoesOn p m f owed
unfolding owed_under
thawed_goes_on p m f None x keys chained fits shown thawed =
    let here = subst (λ (y : FrozenFrame). IsThawedFrame p f y y.owed) shown thawed in here
thawed_goes_on p m f (Some q) x keys chained fits shown thawed =
    let here = subst (λ (y : FrozenFrame). IsThawedFrame p f y y.owed) shown.is thawed in (
      here.0,
      here.1.only_one (m.plain q) (fits.bytes q)
          (ap (λ (k : Keys). cbc (key_in k q) shown.iv (m.plain q)) (sym keys)
          ∙ sym (chained_to m q shown.iv (m.plain q) (ap (λ (k : Keys). k.seal) keys ∙ chained))),
    )

pub frozen_goes_on : (p : PagerState) (keys : Keys) (domains : ℕ) (f : Frozen) (j : Joint) →
    IsThawedPager p keys domains f.frames f.recorded → j.memory.ledger.keys ≡ keys → keys.seal ≡ Chained →
    ShowsAll j f → PagesFit j.memory →
    length j.memory.ledger.owed ≡ length j.memory.ram →
    ((q : PageId) (t : Meta) → meta_in j.memory.ledger q ≡ Some t →
    (q.domain < length j.domains) × (q.resource < 16) × (q.page < 1024)) → GoesOnMemory p j.memory
frozen_goes_on p keys domains f j thawed same sealed shows fits places inside =
    let count : length j.memory.ram ≡ length p.frames = sym shows.frames.count ∙ sym thawed.count in
    let own : j.memory.ledger.keys ≡ p.keys = same ∙ sym thawed.keys_are in
    let chained : p.keys.seal ≡ Chained = ap (λ (k : Keys). k.seal) thawed.keys_are ∙ sealed in
    record {
      keys = own;
      chained = chained;
      count = count;
      places = places ∙ count;
      each = λ k low.
          let zeros : FrozenFrame = record { bytes = []; owed = None } in
          let there = get_there f.frames k zeros (let c = thawed.count in omega (arith, low, c)) in
          let x = slice_index_or f.frames k zeros in
          thawed_goes_on p j.memory k (owed_in j.memory k) x own chained fits (frame_seen j f shows k x there) (thawed.each k x there);
      metas = λ q.
          thawed.metas q
          ∙ (ap (λ (l : List FrozenPage). meta_among l q) shows.recorded
          ∙ recorded_shown j.memory.ledger (length j.domains) q (inside q));
      fits = fits;
    }

-- Programs.

are_by : (xs : List Domain) (ds : List program.Domain) → length xs ≡ length ds →
    ((k : ℕ) (x : Domain) (d : program.Domain) → slice_get xs k ≡ Some x → slice_get ds k ≡ Some d →
    StandsFor x (without_loads d)) → AreDomains xs (map without_loads ds)
are_by [] [] same each = tt
are_by [] (d ∷ ds) same each = absurd (omega (arith, same))
are_by (x ∷ xs) [] same each = absurd (omega (arith, same))
are_by (x ∷ xs) (d ∷ ds) same each =
    (each 0 x d refl refl, are_by xs ds (omega (arith, same)) (λ k y e there is. each (suc k) y e there is))

-- a page that is in use lies in its program's resources
lies : (domains : List program.Domain) (k : ℕ) (d : program.Domain) (q : PageId) → slice_get domains k ≡ Some d →
    IsPageInUse domains q → LiesIn d.control.resources k q
lies domains k d q is used here =
    let at : slice_get domains q.domain ≡ Some d = ap (slice_get domains) here ∙ is in
    subst (λ (o : Option program.Domain). IsSomeAnd o (λ (e : program.Domain). IsSomeAnd (resource_at e.control.resources q.resource) (λ (held : Resource). q.page < held.pages))) at used

owed_shown : (m : CloakedMemory) (bytes : List ℕ) (owed : Option PageId) (x : FrozenFrame) → IsFrameShown m bytes owed x →
    owed_page x ≡ owed
unfolding owed_under
owed_shown m bytes None x shown = ap owed_page shown
owed_shown m bytes (Some q) x shown = ap owed_page shown.is

-- a page that is shown as recorded is recorded
recorded_are : (l : Ledger) (pages : List PageId) → All (λ (p : FrozenPage). is_some (l.recorded p.page) ≡ true) (recorded_of l pages)
recorded_are l [] = All-nil (λ (p : FrozenPage). is_some (l.recorded p.page) ≡ true)
recorded_are l (q ∷ pages) = with_one (l.recorded q) (l.iv q) refl (recorded_are l pages)
  where
    pushed : (x : FrozenPage) (xs : List FrozenPage) → is_some (l.recorded x.page) ≡ true →
        All (λ (p : FrozenPage). is_some (l.recorded p.page) ≡ true) xs →
        All (λ (p : FrozenPage). is_some (l.recorded p.page) ≡ true) (x ∷ xs)
    pushed x xs here rest zero e low = here
    pushed x xs here rest (suc i) e low = rest i e (omega (arith, low))

    with_one : (r v : Option (List ℕ)) → l.recorded q ≡ r →
        All (λ (p : FrozenPage). is_some (l.recorded p.page) ≡ true) (recorded_of l pages) →
        All (λ (p : FrozenPage). is_some (l.recorded p.page) ≡ true) (page_with q r v ++ recorded_of l pages)
    with_one None None is rest = rest
    with_one None (Some iv) is rest = rest
    with_one (Some c) None is rest = rest
    with_one (Some c) (Some iv) is rest =
        pushed (record { page = q; meta = record { iv = iv; digest = sha256 c } }) (recorded_of l pages) (ap is_some is) rest

-- what is shown of a domain
shown_iv : (j : Joint) (k : ℕ) (d : program.Domain) (shown : FrozenDomain) → DrewOne (domain_under j k d) shown →
    cbc (domain_key j.memory.ledger.keys k) shown.meta.iv (domain_page d.control) ≡ shown.page
unfolding domain_under
shown_iv j k d shown drew =
    subst (λ (x : FrozenDomain). cbc (domain_key j.memory.ledger.keys k) x.meta.iv (domain_page d.control) ≡ x.page) (sym drew.is) refl

pub shown_violation : (j : Joint) (k : ℕ) (d : program.Domain) (shown : FrozenDomain) → DrewOne (domain_under j k d) shown →
    shown.violation ≡ slice_index_or j.ended k None
unfolding domain_under
shown_violation j k d shown drew = ap (λ (x : FrozenDomain). x.violation) drew.is

pub shown_roots : (j : Joint) (k : ℕ) (d : program.Domain) (shown : FrozenDomain) → DrewOne (domain_under j k d) shown →
    shown.roots ≡ roots_of j.memory.ledger.root k
unfolding domain_under
shown_roots j k d shown drew = ap (λ (x : FrozenDomain). x.roots) drew.is

pub root_shown_low : (root : SpaceId → Option ℕ) (d space : ℕ) → space < 8 →
    slice_index_or (roots_of root d) space None ≡ root (record { domain = d; number = space })
root_shown_low root d space low = row_at (λ (n : ℕ). root (record { domain = d; number = n })) None 8 space low

pub root_shown_past : (root : SpaceId → Option ℕ) (d space : ℕ) → 8 ≤ space → slice_index_or (roots_of root d) space None ≡ None
root_shown_past root d space past = row_past (λ (n : ℕ). root (record { domain = d; number = n })) None 8 space past

-- a program of the machine is one that is shown
pub program_of : (b : Bundle) (stream : Random) (f : Frozen) (j : Joint) (keys : Keys) (k : ℕ) (d : program.Domain)
    (shown : FrozenDomain) → CanGoOn b stream f j → ShowsAll j f → j.memory.ledger.keys ≡ keys →
    slice_get j.domains k ≡ Some d → slice_get f.domains k ≡ Some shown → IsProgramOf keys f k shown d.control
program_of b stream f j keys k d shown goes all same is there =
    let drew = domain_seen j f all k shown d there is in
    let met = shown_violation j k d shown drew in
    record {
      program = subst (λ (o : Option program.Domain). IfSome o (λ (e : program.Domain). IsProgram k e.control)) is (goes.programs k);
      ended = sym (ap is_some met ∙ (goes.ended.taken k ∙ ap has_ended is));
      page =
          subst (λ (x : Keys). cbc (domain_key x k) shown.meta.iv (domain_page d.control) ≡ shown.page) same
          (shown_iv j k d shown drew);
      owed = λ n e low.
          let x = slice_index_or f.frames n e in
          let seen = owed_shown j.memory (slice_index_or j.memory.ram n []) (owed_in j.memory n) x (frame_seen j f all n x (get_there f.frames n e low)) in
          subst (λ (o : Option PageId). IfSome o (LiesIn d.control.resources k)) (sym seen)
          (each_lies (owed_in j.memory n) (goes.owed n));
      recorded = λ n e low.
          let x = slice_index_or f.recorded n e in
          let is_recorded : is_some (j.memory.ledger.recorded x.page) ≡ true =
          subst (All (λ (p : FrozenPage). is_some (j.memory.ledger.recorded p.page) ≡ true)) (sym all.recorded)
          (recorded_are j.memory.ledger (pages_of_domains (length j.domains))) n e low in
          lies j.domains k d x.page is (goes.recorded x.page is_recorded);
      roots = λ space is_root. elim (cases_lt space 8) [
        | inl low ↦
            let own : is_some (j.memory.ledger.root (record { domain = k; number = space })) ≡ true =
            ap is_some (sym (root_shown_low j.memory.ledger.root k space low)
            ∙ ap (λ (l : List (Option ℕ)). slice_index_or l space None) (sym (shown_roots j k d shown drew))) ∙ is_root in
            subst (λ (o : Option program.Domain). IsSomeAnd o (λ (e : program.Domain). IsInUse e.control.resources space)) is
            (goes.roots (record { domain = k; number = space }) own)
        | inr past ↦
            let none : slice_index_or shown.roots space None ≡ None =
            ap (λ (l : List (Option ℕ)). slice_index_or l space None) (shown_roots j k d shown drew)
            ∙ root_shown_past j.memory.ledger.root k space past in
            absurd (let no : false ≡ true = sym (ap is_some none) ∙ is_root in cc)
      ];
    }
  where
    each_lies : (owed : Option PageId) → IfSome owed (IsPageInUse j.domains) → IfSome owed (LiesIn d.control.resources k)
    each_lies None used = used
    each_lies (Some q) used = lies j.domains k d q is used

-- the programs of the machine are those that are thawed
pub programs_go_on : (b : Bundle) (stream : Random) (f : Frozen) (j : Joint) (keys : Keys) (xs : List Domain) →
    CanGoOn b stream f j → ShowsAll j f → j.memory.ledger.keys ≡ keys → AreThawedDomains keys f xs →
    AreDomains xs (map without_loads j.domains)
programs_go_on b stream f j keys xs goes all same thawed =
    are_by xs j.domains (thawed.count ∙ all.domains.count) (λ k x d at is.
    let low : k < length f.domains = (let a = slice_get_within xs k x at in let c = thawed.count in omega (arith, a, c)) in
    let zeros : FrozenDomain = record { violation = None; roots = []; meta = record { iv = []; digest = [] }; page = [] } in
    let shown = slice_index_or f.domains k zeros in
    let there = get_there f.domains k zeros low in
    (thawed.each k shown x there at).only d.control (program_of b stream f j keys k d shown goes all same is there))
