-- What the private turns of a frame make of the pager, over plain variables.
use Rattle.std.proofs.Common.{◌≡◌, ◌≢◌, ◌<◌, ℕ, Bool, true, false, List, [], Option, None, Some, length, get_or}
use Rattle.std.proofs.Common.{slice_set, refl, ap, sym, ◌∙◌, subst, if◌then◌else◌, inl, inr}
use Rattle.std.proofs.lemmas.List.{set-set, set-get_or, get_or-set_same}
use Rattle.std.specs.Str.{bytes_eq}
use Rattle.std.proofs.lemmas.Slice.Eq.{bytes_eq-Decides}
use Rattle.std.proofs.lemmas.Bool.{false_from_ne_true}
use Rattle.sha2.specs.Sha256.{sha256}
use Rattle.cloak_base.specs.declared.names.Frame.{Frame}
use Rattle.cloak_base.specs.declared.names.PageId.{PageId}
use Rattle.cloak_base.specs.Pages.{zero_page, with_page}
use Rattle.cloak_base.proofs.Pages.{same_page_tells}
use Rattle.cloak_model.specs.Chain.{cbc}
use Rattle.frame_store.specs.Rights.{Holding}
use Rattle.page_states.specs.Opening.{OpensTo}
use Rattle.cloak_base.specs.declared.names.Meta.{Meta}
use Rattle.protect_meta.specs.PageRow.{HasValues}
use Rattle.protect_meta.specs.Table.{MetaRow, meta_at}
use Rattle.protect_meta.specs.Pages.{IsIn}
use Rattle.cloak_pager.specs.Homes.{HomeTable, home_at}
use Rattle.cloak_pager.specs.State.{PagerState, IsWholePager, IsWholeWithHomes, Names, AreNoted, page_of, right_at}
use Rattle.cloak_pager.specs.State.{key_for, bytes_in, held_in}
use Rattle.cloak_pager.specs.Turns.{Turns, frame_numbered, holding, IsResealed, IsSealed, IsWiped, IsPlaced, HoldsNow}
use Rattle.cloak_pager.specs.Turns.{right_for, metas_with, shown_by_digest}
use Rattle.cloak_pager.specs.declared.frame_right.FrameRight.{FrameRight}
use Rattle.cloak_pager.specs.declared.frame_right.FrameRight.TheVariants.{Outside, Clean, Changed, Spent}
use Rattle.cloak_pager.specs.declared.offering.Offered.TheVariants.{Ready, Mismatch}
use Rattle.cloak_pager.proofs.Pages.{with_page-same, with_page-other}
use Rattle.cloak_pager.proofs.Keeping.{HasRight, named_as, whole_turned, noted_still, noted_new}

-- the pager with these frames, with this right put in a place from which one was taken, and with this metadata
abbrev pub put : PagerState → List (List ℕ) → ℕ → FrameRight → FrameRight → MetaRow → PagerState
put p frames f spent h table =
    record p { frames = frames; rights = slice_set (slice_set p.rights f spent) f h; table = table }

-- what was made of the bytes of a frame that has this number
pub written : (frames frames' : List (List ℕ)) (k f : ℕ) (made : List ℕ → List ℕ) → k ≡ f →
    frames' ≡ slice_set frames k (made (get_or frames k [])) → frames' ≡ slice_set frames f (made (get_or frames f []))
written frames frames' k f made is wrote =
    let F : ℕ → Type 0 = λ x. frames' ≡ slice_set frames x (made (get_or frames x [])) in subst F is wrote

-- a table of which nothing was written
pub same_metas : (t : MetaRow) → HasValues t t (meta_at t)
same_metas t = record { values_are = λ o. refl; domains_stay = refl }

pub turns_put : (p : PagerState) (frames' : List (List ℕ)) (f : ℕ) (spent h h' : FrameRight) (bytes : List ℕ) (table' : MetaRow)
    (metas : PageId → Option Meta) →
    frames' ≡ slice_set p.frames f bytes → h ≡ h' → HasValues p.table table' metas →
    Turns p (put p frames' f spent h table') (slice_set p.frames f bytes) (slice_set p.rights f h') metas
turns_put p frames' f spent h h' bytes table' metas wrote is now = record {
  frames_are = wrote;
  rights_are = set-set p.rights f spent h ∙ ap (λ (x : FrameRight). slice_set p.rights f x) is;
  metas_are = now.values_are;
  domains_stay = now.domains_stay;
  keys_stay = refl;
  reads_stay = refl;
}

-- the pager is kept with the homes that it has then
pub kept_put : (p : PagerState) (homes homes' : HomeTable) (frames' : List (List ℕ)) (f : ℕ) (spent h h' : FrameRight)
    (bytes : List ℕ) (table' : MetaRow) (metas : PageId → Option Meta) →
    IsWholeWithHomes p homes → f < length p.frames →
    Turns p (put p frames' f spent h table') (slice_set p.frames f bytes) (slice_set p.rights f h') metas →
    Names table' f h' → ((o : PageId) → meta_at p.table o ≢ None → metas o ≢ None) →
    ((g : ℕ) (o : PageId) → g ≢ f → page_of h' ≡ Some o → held_in p g ≢ Some o) →
    AreNoted homes' (slice_set p.rights f h') → homes'.domains ≡ homes.domains →
    IsWholeWithHomes (put p frames' f spent h table') homes'
kept_put p homes homes' frames' f spent h h' bytes table' metas k inside t named keeps alone noted domains = record {
  whole = whole_turned p (put p frames' f spent h table') f h' bytes metas k.whole t inside named keeps alone;
  noted = rw t.rights_are noted;
  domains = domains ∙ (k.domains ∙ sym t.domains_stay);
}

-- an outside right of the frame of this number
pub outside_is : (out : Frame) (f : ℕ) → out.0 ≡ f → Outside out ≡ Outside (frame_numbered f)
outside_is out f is = ap (λ (k : ℕ). Outside (frame_numbered k)) is

-- a right of frame f for page q
pub holding_is : (r : Holding) (f : ℕ) (q : PageId) → r.frame.0 ≡ f → r.page ≡ q → r ≡ holding f q
holding_is r f q is of = λ i. record { frame = frame_numbered (is i); page = of i }

-- what is said of a page that is held is said of the page of the right
pub of_held : {p : PagerState} {f : ℕ} {h : FrameRight} (q : PageId) (P : PageId → Type 0) → HasRight p f h →
    page_of h ≡ Some q → P q → (o : PageId) → held_in p f ≡ Some o → P o
of_held q P right page here o held =
    let same : q ≡ o = (let e = sym page ∙ (sym (ap page_of right.at) ∙ held) in cc) in
    subst P same here

-- a frame goes outside: kept, whatever it shows
pub kept_outside : (p : PagerState) (homes : HomeTable) (frames' : List (List ℕ)) (f : ℕ) (spent : FrameRight) (out : Frame)
    (bytes : List ℕ) (table' : MetaRow) (metas : PageId → Option Meta) →
    IsWholeWithHomes p homes → f < length p.frames → out.0 ≡ f → frames' ≡ slice_set p.frames f bytes →
    HasValues p.table table' metas → ((o : PageId) → meta_at p.table o ≢ None → metas o ≢ None) →
    IsWholeWithHomes (put p frames' f spent (Outside out) table') homes
kept_outside p homes frames' f spent out bytes table' metas k inside is wrote now keeps =
    let there : f < length p.rights = rw k.whole.count inside in
    let outside : FrameRight = Outside (frame_numbered f) in
    kept_put p homes homes frames' f spent (Outside out) outside bytes table' metas k inside
    (turns_put p frames' f spent (Outside out) outside bytes table' metas wrote (outside_is out f is) now)
    refl keeps (λ g o n e. absurd (let no : None ≡ Some o = e in cc))
    (noted_still homes p.rights f outside k.noted there (λ q e. absurd (let no : None ≡ Some q = e in cc)))
    refl

-- setting metadata takes none away
pub set_keeps : (m : PageId → Option Meta) (q : PageId) (t : Meta) (o : PageId) → m o ≢ None →
    with_page m q (Some t) o ≢ None
set_keeps m q t o there =
    elim (same_page_tells o q) [
      | inl h ↦ λ e.
          let here : with_page m q (Some t) o ≡ Some t =
          subst (λ (x : PageId). with_page m q (Some t) x ≡ Some t) (sym h.1) (with_page-same m q (Some t)) in
          (let no : None ≡ Some t = sym e ∙ here in cc)
      | inr h ↦ λ e. there (sym (with_page-other m q (Some t) o h.1) ∙ e)
    ]

-- Resealing.

pub reseal_kept : {p : PagerState} {homes : HomeTable} {frames' : List (List ℕ)} {f : ℕ} {r : Holding} {out : Frame}
    (key : List ℕ) (t : Meta) (spent : FrameRight) →
    IsWholeWithHomes p homes → HasRight p f (Clean r) →
    frames' ≡ slice_set p.frames r.frame.0 (cbc key t.iv (bytes_in p r.frame.0)) → out ≡ r.frame →
    IsWholeWithHomes (put p frames' f spent (Outside out) p.table) homes
reseal_kept {p} {homes} {frames'} {f} {r} {out} key t spent k right wrote is =
    let here : r.frame.0 ≡ f = (named_as right).0 in
    kept_outside p homes frames' f spent out (cbc key t.iv (bytes_in p f)) p.table (meta_at p.table) k right.inside
    (ap (λ (x : Frame). x.0) is ∙ here) (written p.frames frames' r.frame.0 f (λ old. cbc key t.iv old) here wrote)
    (same_metas p.table) (λ o n. n)

pub reseal_turns : {p : PagerState} {frames' : List (List ℕ)} {f : ℕ} {r : Holding} {t : Meta} {out : Frame}
    {key : List ℕ} (spent : FrameRight) →
    HasRight p f (Clean r) → key ≡ key_for p r.page → meta_at p.table r.page ≡ Some t →
    frames' ≡ slice_set p.frames r.frame.0 (cbc key t.iv (bytes_in p r.frame.0)) → out ≡ r.frame → (q : PageId) →
    held_in p f ≡ Some q → IsResealed p (put p frames' f spent (Outside out) p.table) f q
reseal_turns {p} {frames'} {f} {r} {t} {out} {key} spent right under meta wrote is =
    let own : List ℕ = key_for p r.page in
    let W : List ℕ → Type 0 = λ x. frames' ≡ slice_set p.frames r.frame.0 (cbc x t.iv (bytes_in p r.frame.0)) in
    let here : r.frame.0 ≡ f = (named_as right).0 in
    let p' : PagerState = put p frames' f spent (Outside out) p.table in
    let turns = turns_put p frames' f spent (Outside out) (Outside (frame_numbered f))
    (cbc own t.iv (bytes_in p f)) p.table (meta_at p.table)
    (written p.frames frames' r.frame.0 f (λ old. cbc own t.iv old) here (subst W under wrote))
    (outside_is out f (ap (λ (x : Frame). x.0) is ∙ here)) (same_metas p.table) in
    of_held r.page (λ q. IsResealed p p' f q) right refl (t, meta, turns)

-- Sealing.

pub seal_kept : {p : PagerState} {homes : HomeTable} {frames' : List (List ℕ)} {f : ℕ} {r : Holding} {table' : MetaRow}
    {out : Frame} (key iv : List ℕ) (page : PageId) (t : Meta) (spent : FrameRight) →
    IsWholeWithHomes p homes → HasRight p f (Changed r) →
    frames' ≡ slice_set p.frames r.frame.0 (cbc key iv (bytes_in p r.frame.0)) →
    HasValues p.table table' (with_page (meta_at p.table) page (Some t)) → out ≡ r.frame →
    IsWholeWithHomes (put p frames' f spent (Outside out) table') homes
seal_kept {p} {homes} {frames'} {f} {r} {table'} {out} key iv page t spent k right wrote now is =
    let here : r.frame.0 ≡ f = (named_as right).0 in
    kept_outside p homes frames' f spent out (cbc key iv (bytes_in p f)) table'
    (with_page (meta_at p.table) page (Some t)) k right.inside
    (ap (λ (x : Frame). x.0) is ∙ here) (written p.frames frames' r.frame.0 f (λ old. cbc key iv old) here wrote) now
    (set_keeps (meta_at p.table) page t)

pub seal_turns : {p : PagerState} {frames' : List (List ℕ)} {f : ℕ} {r : Holding} {iv : List ℕ} {table' : MetaRow}
    {page : PageId} {out : Frame} {key : List ℕ} (t : Meta) (spent : FrameRight) →
    HasRight p f (Changed r) → key ≡ key_for p page →
    frames' ≡ slice_set p.frames r.frame.0 (cbc key iv (bytes_in p r.frame.0)) →
    t.digest ≡ sha256 (cbc key iv (bytes_in p r.frame.0)) → t.iv ≡ iv → page ≡ r.page →
    HasValues p.table table' (with_page (meta_at p.table) page (Some t)) → out ≡ r.frame → (q : PageId) →
    held_in p f ≡ Some q → IsSealed p (put p frames' f spent (Outside out) table') f q iv
seal_turns {p} {frames'} {f} {r} {iv} {table'} {page} {out} {key} t spent right under wrote digest drawn of now is =
    let here : r.frame.0 ≡ f = (named_as right).0 in
    let p' : PagerState = put p frames' f spent (Outside out) table' in
    let own : List ℕ = key_for p r.page in
    let owned : key ≡ own = under ∙ ap (λ (x : PageId). key_for p x) of in
    let W : List ℕ → Type 0 = λ x. frames' ≡ slice_set p.frames r.frame.0 (cbc x iv (bytes_in p r.frame.0)) in
    let c : List ℕ = cbc own iv (bytes_in p f) in
    let meta : Meta = record { iv = iv; digest = sha256 c } in
    let sum : t.digest ≡ sha256 c =
    digest ∙ (ap (λ (x : List ℕ). sha256 (cbc x iv (bytes_in p r.frame.0))) owned
    ∙ ap (λ (k : ℕ). sha256 (cbc own iv (bytes_in p k))) here) in
    let told : t ≡ meta = λ i. record { iv = drawn i; digest = sum i } in
    let M : PageId → Meta → Type 0 = λ x y. HasValues p.table table' (with_page (meta_at p.table) x (Some y)) in
    let metas : M r.page meta = subst (λ (x : PageId). M x meta) of (subst (λ (y : Meta). M page y) told now) in
    of_held r.page (λ q. IsSealed p p' f q iv) right refl
    (turns_put p frames' f spent (Outside out) (Outside (frame_numbered f)) c table' (metas_with p r.page iv c)
    (written p.frames frames' r.frame.0 f (λ old. cbc own iv old) here (subst W owned wrote))
    (outside_is out f (ap (λ (x : Frame). x.0) is ∙ here)) metas)

-- Wiping.

pub wipe_kept : {p : PagerState} {homes : HomeTable} {frames' : List (List ℕ)} {f : ℕ} {r : Holding} {out : Frame}
    (spent : FrameRight) →
    IsWholeWithHomes p homes → HasRight p f (Changed r) → frames' ≡ slice_set p.frames r.frame.0 zero_page →
    out ≡ r.frame → IsWholeWithHomes (put p frames' f spent (Outside out) p.table) homes
wipe_kept {p} {homes} {frames'} {f} {r} {out} spent k right wrote is =
    let here : r.frame.0 ≡ f = (named_as right).0 in
    kept_outside p homes frames' f spent out zero_page p.table (meta_at p.table) k right.inside
    (ap (λ (x : Frame). x.0) is ∙ here) (written p.frames frames' r.frame.0 f (λ old. zero_page) here wrote)
    (same_metas p.table) (λ o n. n)

pub wipe_turns : {p : PagerState} {frames' : List (List ℕ)} {f : ℕ} {r : Holding} {out : Frame} (spent : FrameRight) →
    HasRight p f (Changed r) → frames' ≡ slice_set p.frames r.frame.0 zero_page → out ≡ r.frame →
    IsWiped p (put p frames' f spent (Outside out) p.table) f
wipe_turns {p} {frames'} {f} {r} {out} spent right wrote is =
    let here : r.frame.0 ≡ f = (named_as right).0 in
    turns_put p frames' f spent (Outside out) (Outside (frame_numbered f)) zero_page p.table (meta_at p.table)
    (written p.frames frames' r.frame.0 f (λ old. zero_page) here wrote)
    (outside_is out f (ap (λ (x : Frame). x.0) is ∙ here)) (same_metas p.table)

-- Changing.

pub change_turns : {p : PagerState} {f : ℕ} {r n : Holding} (spent : FrameRight) → HasRight p f (Clean r) → n ≡ r →
    (q : PageId) → held_in p f ≡ Some q →
    HoldsNow p (put p p.frames f spent (Changed n) p.table) q f true (bytes_in p f)
change_turns {p} {f} {r} {n} spent right is =
    let here : r.frame.0 ≡ f = (named_as right).0 in
    let p' : PagerState = put p p.frames f spent (Changed n) p.table in
    of_held r.page (λ q. HoldsNow p p' q f true (bytes_in p f)) right refl
    (turns_put p p.frames f spent (Changed n) (Changed (holding f r.page)) (bytes_in p f) p.table (meta_at p.table)
    (sym (set-get_or p.frames f [])) (ap (λ (x : Holding). Changed x) (is ∙ holding_is r f r.page here refl))
    (same_metas p.table))

pub change_kept : {p : PagerState} {homes : HomeTable} {f : ℕ} {r n : Holding} (spent : FrameRight) →
    IsWholeWithHomes p homes → HasRight p f (Clean r) → n ≡ r →
    IsWholeWithHomes (put p p.frames f spent (Changed n) p.table) homes
change_kept {p} {homes} {f} {r} {n} spent k right is =
    let named = named_as right in
    let held : held_in p f ≡ Some r.page = ap page_of right.at in
    let turns = change_turns spent right is r.page held in
    kept_put p homes homes p.frames f spent (Changed n) (Changed (holding f r.page)) (bytes_in p f) p.table
    (meta_at p.table) k right.inside turns
    (refl, named.1) (λ o shown. shown)
    (λ g o apart e there. apart (k.whole.one_home g f o there (held ∙ e)))
    (noted_still homes p.rights f (Changed (holding f r.page)) k.noted (rw k.whole.count right.inside)
    (λ q e. held ∙ e)) refl

-- A frame takes a page.

-- what becomes of the homes when a page that no frame held takes frame f
pub record TakesHome (p : PagerState) (homes homes' : HomeTable) (q : PageId) (f : ℕ) : Type 0 where
  pub page : IsIn p.table.domains q
  pub nowhere : (k : ℕ) → held_in p k ≢ Some q
  pub noted : HasValues homes homes' (with_page (home_at homes) q (Some (frame_numbered f)))

-- with a right for this frame and page, and the frame noted for the page
pub take_kept : (p : PagerState) (homes homes' : HomeTable) (frames' : List (List ℕ)) (f : ℕ) (spent h h' : FrameRight)
    (q : PageId) (bytes : List ℕ) →
    IsWholeWithHomes p homes → f < length p.frames → frames' ≡ slice_set p.frames f bytes → h ≡ h' →
    Names p.table f h' → page_of h' ≡ Some q → TakesHome p homes homes' q f →
    IsWholeWithHomes (put p frames' f spent h p.table) homes'
take_kept p homes homes' frames' f spent h h' q bytes k inside wrote is named of takes =
    kept_put p homes homes' frames' f spent h h' bytes p.table (meta_at p.table) k inside
    (turns_put p frames' f spent h h' bytes p.table (meta_at p.table) wrote is (same_metas p.table))
    named (λ o shown. shown)
    (λ g o apart e there. takes.nowhere g (there ∙ (sym e ∙ of)))
    (noted_new homes homes' p.rights f h' q k.noted
    (rw k.whole.count inside) takes.noted of takes.nowhere) takes.noted.domains_stay

-- the right that was made of an outside one, for this frame and page
pub made_right : {p : PagerState} {f : ℕ} {r : Frame} (n : Holding) (q : PageId) → HasRight p f (Outside r) →
    n ≡ record { frame = r; page = q } → n ≡ holding f q
made_right {p} {f} {r} n q right is = is ∙ holding_is (record { frame = r; page = q }) f q (named_as right) refl

-- First use.

pub first_kept : {p : PagerState} {homes homes' : HomeTable} {frames' : List (List ℕ)} {f : ℕ} {r : Frame} {n : Holding}
    {q : PageId} (spent : FrameRight) →
    IsWholeWithHomes p homes → HasRight p f (Outside r) → frames' ≡ slice_set p.frames r.0 zero_page →
    n ≡ record { frame = r; page = q } → TakesHome p homes homes' q f →
    IsWholeWithHomes (put p frames' f spent (Changed n) p.table) homes'
first_kept {p} {homes} {homes'} {frames'} {f} {r} {n} {q} spent k right wrote is takes =
    take_kept p homes homes' frames' f spent (Changed n) (Changed (holding f q)) q zero_page k right.inside
    (written p.frames frames' r.0 f (λ old. zero_page) (named_as right) wrote)
    (ap (λ (x : Holding). Changed x) (made_right n q right is))
    (refl, takes.page) refl takes

pub first_turns : {p : PagerState} {frames' : List (List ℕ)} {f : ℕ} {r : Frame} {n : Holding} {q : PageId}
    (spent : FrameRight) →
    HasRight p f (Outside r) → frames' ≡ slice_set p.frames r.0 zero_page → n ≡ record { frame = r; page = q } →
    HoldsNow p (put p frames' f spent (Changed n) p.table) q f true zero_page
first_turns {p} {frames'} {f} {r} {n} {q} spent right wrote is =
    turns_put p frames' f spent (Changed n) (Changed (holding f q)) zero_page p.table (meta_at p.table)
    (written p.frames frames' r.0 f (λ old. zero_page) (named_as right) wrote)
    (ap (λ (x : Holding). Changed x) (made_right n q right is)) (same_metas p.table)

-- Opening.

-- the one page that was opened, in the frame of this number
pub opened_here : (frames frames' : List (List ℕ)) (key iv : List ℕ) (k f : ℕ) → k ≡ f →
    OpensTo key iv (get_or frames k []) (λ plain. frames' ≡ slice_set frames k plain) →
    OpensTo key iv (get_or frames f []) (λ plain. frames' ≡ slice_set frames f plain)
opened_here frames frames' key iv k f is opens =
    let O : ℕ → Type 0 = λ x. OpensTo key iv (get_or frames x []) (λ plain. frames' ≡ slice_set frames x plain) in
    subst O is opens

pub open_kept : {p : PagerState} {homes homes' : HomeTable} {frames' : List (List ℕ)} {f : ℕ} {r : Frame} {n : Holding}
    {q : PageId} {t : Meta} {key : List ℕ} (spent : FrameRight) →
    IsWholeWithHomes p homes → HasRight p f (Outside r) → meta_at p.table q ≡ Some t →
    OpensTo key t.iv (bytes_in p r.0) (λ plain. frames' ≡ slice_set p.frames r.0 plain) →
    n ≡ record { frame = r; page = q } → TakesHome p homes homes' q f →
    IsWholeWithHomes (put p frames' f spent (Clean n) p.table) homes'
open_kept {p} {homes} {homes'} {frames'} {f} {r} {n} {q} {t} {key} spent k right shown opens is takes =
    let made = opened_here p.frames frames' key t.iv r.0 f (named_as right) opens in
    take_kept p homes homes' frames' f spent (Clean n) (Clean (holding f q)) q made.0 k right.inside made.2
    (ap (λ (x : Holding). Clean x) (made_right n q right is))
    (refl, takes.page, λ none. (let no : None ≡ Some t = sym none ∙ shown in cc)) refl takes

pub open_turns : {p : PagerState} {f : ℕ} {r : Frame} {n : Holding} {q : PageId} {key : List ℕ}
    (frames' : List (List ℕ)) (t : Meta) (spent : FrameRight) →
    HasRight p f (Outside r) → key ≡ key_for p q →
    OpensTo key t.iv (bytes_in p r.0) (λ plain. frames' ≡ slice_set p.frames r.0 plain) →
    n ≡ record { frame = r; page = q } →
    OpensTo (key_for p q) t.iv (bytes_in p f)
    (λ plain. HoldsNow p (put p frames' f spent (Clean n) p.table) q f false plain)
open_turns {p} {f} {r} {n} {q} {key} frames' t spent right under opens is =
    let O : List ℕ → Type 0 =
    λ x. OpensTo x t.iv (bytes_in p r.0) (λ plain. frames' ≡ slice_set p.frames r.0 plain) in
    let made = opened_here p.frames frames' (key_for p q) t.iv r.0 f (named_as right) (subst O under opens) in
    let turns = turns_put p frames' f spent (Clean n) (Clean (holding f q)) made.0 p.table (meta_at p.table) made.2
    (ap (λ (x : Holding). Clean x) (made_right n q right is)) (same_metas p.table) in
    (made.0, made.1, turns)

-- what is true of the bytes under an outside right is true of the frame's
pub seen_outside : {p : PagerState} {f : ℕ} {r : Frame} (P : List ℕ → Type 0) → HasRight p f (Outside r) →
    P (bytes_in p r.0) → P (bytes_in p f)
seen_outside {p} P right so = let Q : ℕ → Type 0 = λ k. P (bytes_in p k) in subst Q (named_as right) so

-- a right that was taken out and put back changes nothing
pub put_back : {p : PagerState} {frames' : List (List ℕ)} {f : ℕ} {r same : Frame} (spent : FrameRight) →
    HasRight p f (Outside r) → (same ≡ r) × (frames' ≡ p.frames) → put p frames' f spent (Outside same) p.table ≡ p
put_back {p} {frames'} {f} {r} {same} spent right is =
    let back : Outside same ≡ right_at p f = ap (λ (x : Frame). Outside x) is.0 ∙ sym right.at in
    let rights : slice_set (slice_set p.rights f spent) f (Outside same) ≡ p.rights =
    set-set p.rights f spent (Outside same)
    ∙ (ap (λ (x : FrameRight). slice_set p.rights f x) back ∙ set-get_or p.rights f Spent) in
    λ i. record p { frames = is.1 i; rights = rights i }

-- Placing.

pub place_turns : {p : PagerState} {frames' : List (List ℕ)} {f : ℕ} {r : Frame} {digest c key : List ℕ}
    {table' : MetaRow} (q : PageId) (bytes iv : List ℕ) →
    HasRight p f (Outside r) → frames' ≡ slice_set p.frames r.0 c → key ≡ key_for p q → c ≡ cbc key iv bytes →
    digest ≡ sha256 c →
    HasValues p.table table' (with_page (meta_at p.table) q (Some (record { iv = iv; digest = digest }))) →
    IsPlaced p (record p { frames = frames'; table = table' }) q f bytes iv
place_turns {p} {frames'} {f} {r} {digest} {c} {key} {table'} q bytes iv right wrote under made sum now =
    let sealed : c ≡ cbc (key_for p q) iv bytes = made ∙ ap (λ (x : List ℕ). cbc x iv bytes) under in
    let here : r.0 ≡ f = named_as right in
    let meta : List ℕ → Meta = λ d. record { iv = iv; digest = d } in
    record {
      frames_are =
          wrote ∙ (ap (λ (x : ℕ). slice_set p.frames x c) here ∙ ap (λ (x : List ℕ). slice_set p.frames f x) sealed);
      rights_are = refl;
      metas_are = λ o.
          now.values_are o
          ∙ ap (λ (x : List ℕ). with_page (meta_at p.table) q (Some (meta x)) o) (sum ∙ ap sha256 sealed);
      domains_stay = now.domains_stay;
      keys_stay = refl;
      reads_stay = refl;
    }

-- a frame that took a page, and was changed then
pub changed_then : (p p' p'' : PagerState) (g : ℕ) (q : PageId) (plain : List ℕ) → g < length p.frames →
    HoldsNow p p' q g false plain → HoldsNow p' p'' q g true (bytes_in p' g) → HoldsNow p p'' q g true plain
changed_then p p' p'' g q plain inside t u =
    let here : bytes_in p' g ≡ plain = rw t.frames_are (get_or-set_same p.frames g plain [] inside) in
    let again : slice_set p'.frames g (bytes_in p' g) ≡ slice_set p.frames g plain =
    ap (λ (x : List ℕ). slice_set p'.frames g x) here
    ∙ (ap (λ (x : List (List ℕ)). slice_set x g plain) t.frames_are ∙ set-set p.frames g plain plain) in
    let changed : FrameRight = Changed (holding g q) in
    record {
      frames_are = u.frames_are ∙ again;
      rights_are =
          u.rights_are ∙ (ap (λ (x : List FrameRight). slice_set x g changed) t.rights_are
          ∙ set-set p.rights g (Clean (holding g q)) changed);
      metas_are = λ o. u.metas_are o ∙ t.metas_are o;
      domains_stay = u.domains_stay ∙ t.domains_stay;
      keys_stay = u.keys_stay ∙ t.keys_stay;
      reads_stay = u.reads_stay ∙ t.reads_stay;
    }

-- the right of a frame that took a page
pub taken_right : (p p' : PagerState) (g : ℕ) (q : PageId) (write : Bool) (plain : List ℕ) → IsWholePager p →
    g < length p.frames → HoldsNow p p' q g write plain → right_at p' g ≡ right_for g q write
taken_right p p' g q write plain w inside t =
    rw t.rights_are (get_or-set_same p.rights g (right_for g q write) Spent (rw w.count inside))

-- digests that differ
pub other_digest : (t : Meta) (bytes : List ℕ) → sha256 bytes ≢ t.digest → Mismatch ≡ shown_by_digest t bytes
other_digest t bytes n =
    let other : bytes_eq (sha256 bytes) t.digest ≡ false =
    false_from_ne_true (bytes_eq (sha256 bytes) t.digest) (λ e. n ((bytes_eq-Decides (sha256 bytes) t.digest).0 e)) in
    ap (λ (b : Bool). if b then Ready else Mismatch) (sym other)

pub same_digest : (t : Meta) (bytes : List ℕ) → sha256 bytes ≡ t.digest → Ready ≡ shown_by_digest t bytes
same_digest t bytes e =
    ap (λ (b : Bool). if b then Ready else Mismatch) (sym ((bytes_eq-Decides (sha256 bytes) t.digest).1 e))
