-- What freezing and thawing make of the pager, over plain variables.
use Rattle.std.proofs.Common.{◌≡◌, ◌≢◌, ◌<◌, ℕ, List, Option, None, length, slice_set, ap, ◌∙◌, subst, refl}
use Rattle.std.proofs.Common.{inl, inr, true}
use Rattle.std.proofs.lemmas.Bool.{cases_lt}
use Rattle.std.proofs.lemmas.List.{get_or-set_same, get_or_past}
use Rattle.sha2.specs.Sha256.{sha256}
use Rattle.cloak_base.specs.declared.names.Frame.{Frame}
use Rattle.cloak_base.specs.declared.names.PageId.{PageId}
use Rattle.cloak_base.specs.declared.names.Meta.{Meta}
use Rattle.cloak_model.specs.Chain.{cbc}
use Rattle.frame_store.specs.Rights.{Holding}
use Rattle.page_states.specs.Opening.{OpensTo}
use Rattle.protect_meta.specs.Table.{meta_at}
use Rattle.cloak_pager.specs.Homes.{HomeTable}
use Rattle.cloak_pager.specs.State.{PagerState, IsWholePager, IsWholeWithHomes, owed_under, key_for, right_at, owed_at}
use Rattle.cloak_pager.specs.State.{bytes_in}
use Rattle.cloak_pager.specs.Turns.{Turns, StaysBut, frame_numbered, holding, HoldsNow}
use Rattle.cloak_pager.specs.Freezing.{FreezesFrame}
use Rattle.cloak_pager.specs.declared.frame_right.FrameRight.{FrameRight}
use Rattle.cloak_pager.specs.declared.frame_right.FrameRight.TheVariants.{Outside, Changed, Spent}
use Rattle.cloak_pager.proofs.Keeping.{HasRight, named_as}
use Rattle.cloak_pager.proofs.Turned.{put, written, same_metas, turns_put, outside_is, kept_outside, TakesHome}
use Rattle.cloak_pager.proofs.Turned.{take_kept, made_right, opened_here}
use Rattle.cloak_pager.proofs.Behind.{turned_stays}

-- the right of a frame that turned
pub right_turned : (p p' : PagerState) (f : ℕ) (h : FrameRight) (bytes : List ℕ) (metas : PageId → Option Meta) →
    IsWholePager p → f < length p.frames →
    Turns p p' (slice_set p.frames f bytes) (slice_set p.rights f h) metas → right_at p' f ≡ h
right_turned p p' f h bytes metas w inside t =
    rw t.rights_are (get_or-set_same p.rights f h Spent (rw w.count inside))

-- Freezing.

-- a frame that is owed a page is one of the frames
pub owed_inside : {p : PagerState} (now : PagerState) (f : ℕ) → p ≡ now → IsWholePager p → owed_at now f ≢ None →
    f < length now.frames
owed_inside {p} now f view w owed =
    elim (cases_lt f (length now.frames)) [
      | inl inside ↦ inside
      | inr beyond ↦
          let C : PagerState → Type 0 = λ x. length x.rights ≡ length x.frames in
          let count : length now.rights ≡ length now.frames = subst C view w.count in
          let past : right_at now f ≡ Spent = get_or_past now.rights f Spent (rw count beyond) in
          absurd (owed (ap owed_under past))
    ]

pub freeze_kept : {p : PagerState} {homes : HomeTable} {frames' : List (List ℕ)} {f : ℕ} {r : Holding} {out : Frame}
    (key iv : List ℕ) (spent : FrameRight) →
    IsWholeWithHomes p homes → HasRight p f (Changed r) →
    frames' ≡ slice_set p.frames r.frame.0 (cbc key iv (bytes_in p r.frame.0)) → out ≡ r.frame →
    IsWholeWithHomes (put p frames' f spent (Outside out) p.table) homes
freeze_kept {p} {homes} {frames'} {f} {r} {out} key iv spent k right wrote is =
    let here : r.frame.0 ≡ f = (named_as right).0 in
    kept_outside p homes frames' f spent out (cbc key iv (bytes_in p f)) p.table (meta_at p.table) k right.inside
    (ap (λ (x : Frame). x.0) is ∙ here) (written p.frames frames' r.frame.0 f (λ old. cbc key iv old) here wrote)
    (same_metas p.table) (λ o n. n)

pub freezes : {p : PagerState} {frames' : List (List ℕ)} {f : ℕ} {r : Holding} {iv : List ℕ} {page : PageId}
    {out : Frame} {key : List ℕ} (t : Meta) (spent : FrameRight) →
    HasRight p f (Changed r) → key ≡ key_for p page →
    frames' ≡ slice_set p.frames r.frame.0 (cbc key iv (bytes_in p r.frame.0)) →
    t.digest ≡ sha256 (cbc key iv (bytes_in p r.frame.0)) → t.iv ≡ iv → page ≡ r.page → out ≡ r.frame →
    FreezesFrame p (put p frames' f spent (Outside out) p.table) f iv t
freezes {p} {frames'} {f} {r} {iv} {page} {out} {key} t spent right under wrote digest drawn of is =
    let here : r.frame.0 ≡ f = (named_as right).0 in
    let own : List ℕ = key_for p r.page in
    let owned : key ≡ own = under ∙ ap (λ (x : PageId). key_for p x) of in
    let c : List ℕ = cbc own iv (bytes_in p f) in
    let same : cbc key iv (bytes_in p f) ≡ c = ap (λ (x : List ℕ). cbc x iv (bytes_in p f)) owned in
    let D : ℕ → Type 0 = λ k. t.digest ≡ sha256 (cbc key iv (bytes_in p k)) in
    let sum : t.digest ≡ sha256 c = subst D here digest ∙ ap sha256 same in
    record {
      page = r.page;
      owed = ap owed_under right.at;
      shows =
          turns_put p frames' f spent (Outside out) (Outside (frame_numbered f)) c p.table (meta_at p.table)
          (written p.frames frames' r.frame.0 f (λ old. cbc key iv old) here wrote
          ∙ ap (λ (x : List ℕ). slice_set p.frames f x) same)
          (outside_is out f (ap (λ (x : Frame). x.0) is ∙ here)) (same_metas p.table);
      told_is = λ i. record { iv = drawn i; digest = sum i };
    }

pub froze_right : (p p' : PagerState) (f : ℕ) (iv : List ℕ) (t : Meta) → IsWholePager p → f < length p.frames →
    FreezesFrame p p' f iv t → right_at p' f ≡ Outside (frame_numbered f)
froze_right p p' f iv t w inside frozen =
    right_turned p p' f (Outside (frame_numbered f)) _ (meta_at p.table) w inside frozen.shows

pub froze_stays : (p p' : PagerState) (f : ℕ) (iv : List ℕ) (t : Meta) → FreezesFrame p p' f iv t → StaysBut f p p'
froze_stays p p' f iv t frozen = turned_stays f p p' _ (Outside (frame_numbered f)) (meta_at p.table) frozen.shows

-- Thawing.

pub thaw_kept : {p : PagerState} {homes homes' : HomeTable} {frames' : List (List ℕ)} {f : ℕ} {r : Frame} {n : Holding}
    {q : PageId} {iv key : List ℕ} (spent : FrameRight) →
    IsWholeWithHomes p homes → HasRight p f (Outside r) →
    OpensTo key iv (bytes_in p r.0) (λ plain. frames' ≡ slice_set p.frames r.0 plain) →
    n ≡ record { frame = r; page = q } → TakesHome p homes homes' q f →
    IsWholeWithHomes (put p frames' f spent (Changed n) p.table) homes'
thaw_kept {p} {homes} {homes'} {frames'} {f} {r} {n} {q} {iv} {key} spent k right opens is takes =
    let made = opened_here p.frames frames' key iv r.0 f (named_as right) opens in
    take_kept p homes homes' frames' f spent (Changed n) (Changed (holding f q)) q made.0 k right.inside made.2
    (ap (λ (x : Holding). Changed x) (made_right n q right is))
    (refl, takes.page) refl takes

pub thaws : {p : PagerState} {f : ℕ} {r : Frame} {n : Holding} {q : PageId} {iv key : List ℕ}
    (frames' : List (List ℕ)) (spent : FrameRight) →
    HasRight p f (Outside r) → key ≡ key_for p q →
    OpensTo key iv (bytes_in p r.0) (λ plain. frames' ≡ slice_set p.frames r.0 plain) →
    n ≡ record { frame = r; page = q } →
    OpensTo (key_for p q) iv (bytes_in p f)
    (λ plain. HoldsNow p (put p frames' f spent (Changed n) p.table) q f true plain)
thaws {p} {f} {r} {n} {q} {iv} {key} frames' spent right under opens is =
    let O : List ℕ → Type 0 =
    λ x. OpensTo x iv (bytes_in p r.0) (λ plain. frames' ≡ slice_set p.frames r.0 plain) in
    let made = opened_here p.frames frames' (key_for p q) iv r.0 f (named_as right) (subst O under opens) in (
      made.0,
      made.1,
      turns_put p frames' f spent (Changed n) (Changed (holding f q)) made.0 p.table (meta_at p.table) made.2
          (ap (λ (x : Holding). Changed x) (made_right n q right is)) (same_metas p.table),
    )
