-- Frames of a body without a fault.
use Rattle.std.proofs.Common.{◌≡◌, ◌∙◌, ℕ, zero, suc, ◌+◌, ◌-◌, ◌<◌, ◌≤◌, Bool, true, false, cond, not, ltb, eqb, List, [], ◌∷◌, ◌++◌, length, get_or, take, drop, map, Option, Some, None, refl, sym, ap, subst, arith}
use Rattle.std.specs.List.{flat_map, list_any, AllByRecursion}
use Rattle.std.specs.Option.{IfSome}
use Rattle.std.proofs.lemmas.Bool.{ltb-true, eqb-true, eqb-false, not-true, or_left, or_right}
use Rattle.std.proofs.lemmas.List.Concat.{flat_map-cons}
use Rattle.cloak_base.specs.Pages.{same_page}
use Rattle.cloak_base.specs.declared.names.PageId.{PageId}
use Rattle.cloak_base.proofs.Pages.{same_page-self}
use Rattle.cloak_model.specs.Fields.{first_of, fault_in, first_in, after_parts}
use Rattle.frozen_state.specs.declared.fault.FrozenFault.{FrozenFault}
use Rattle.frozen_state.specs.declared.fault.FrozenFault.TheVariants.{Form}
use Rattle.frozen_state.specs.declared.frozen.FrozenFrame.{FrozenFrame}
use Rattle.frozen_state.specs.Limits.{IsOnce}
use Rattle.frozen_state.specs.FrozenState.{meta_bytes, page_words, frame_bytes}
use Rattle.frozen_state.specs.Ranges.{IsPage, owed_page}
use Rattle.frozen_state.specs.FrozenFault.{any_in, byte_below, page_at, page_fields, owes_page, after_frame, frames_fields}
use Rattle.field_facts.proofs.Firsts.{first_of-assoc, first_in-append, none_parts, field_holds}
use Rattle.field_facts.proofs.Stands.{AreBytes, Stands, Stands-then, piece_stands, byte_stands}
use Rattle.frozen_run.specs.Reading.{values, meta_in, frame_in, frame_fields, seen_after}
use Rattle.frozen_run.proofs.Spelled.{ends_at, byte_then, page_holds, zero_below_2}

-- ---- one more frame

frame_step_by : (body : List ℕ) (programs n : ℕ) (seen : List PageId) (at : ℕ) (owes : Bool) →
    first_in body (cond owes (page_fields body programs (not (list_any (same_page (page_at body (at + 4097))) seen)) (at + 4097)
    ++ frames_fields body programs n (page_at body (at + 4097) ∷ seen) (at + cond owes 4157 4097))
    (frames_fields body programs n seen (at + cond owes 4157 4097)))
    ≡ first_of (first_in body (cond owes (page_fields body programs (not (list_any (same_page (page_at body (at + 4097))) seen)) (at + 4097)) []))
    (first_in body (frames_fields body programs n (cond owes (page_at body (at + 4097) ∷ seen) seen) (at + cond owes 4157 4097)))
frame_step_by body programs n seen at true =
    first_in-append body (page_fields body programs (not (list_any (same_page (page_at body (at + 4097))) seen)) (at + 4097))
    (frames_fields body programs n (page_at body (at + 4097) ∷ seen) (at + 4157))
frame_step_by body programs n seen at false = refl

pub frames_step : (body : List ℕ) (programs n : ℕ) (seen : List PageId) (at : ℕ) →
    first_in body (frames_fields body programs (suc n) seen at)
    ≡ first_of (first_in body (frame_fields body programs seen at))
    (first_in body (frames_fields body programs n (seen_after body seen at) (after_frame body at)))
unfolding frames_fields frame_fields
frames_step body programs n seen at =
    let bytes = fault_in body (any_in body at 4096) in
    let tells = fault_in body (byte_below body (at + 4096) 2) in
    let owed = first_in body (cond (owes_page body at) (page_fields body programs (not (list_any (same_page (page_at body (at + 4097))) seen)) (at + 4097)) []) in
    let later = first_in body (frames_fields body programs n (seen_after body seen at) (after_frame body at)) in
    ap (λ o. first_of bytes (first_of tells o)) (frame_step_by body programs n seen at (owes_page body at))
    ∙ ap (first_of bytes) (sym (first_of-assoc tells owed later))
    ∙ sym (first_of-assoc bytes (first_of tells owed) later)

-- what is found in n frames after i of them: the next one's fault, or one after it
pub next_frame : (body : List ℕ) (programs n i : ℕ) (seen : List PageId) (at : ℕ) → i < n →
    first_in body (frames_fields body programs (n - i) seen at)
    ≡ first_of (first_in body (frame_fields body programs seen at))
    (first_in body (frames_fields body programs (n - (i + 1)) (seen_after body seen at) (after_frame body at)))
next_frame body programs n i seen at low =
    let left : n - i ≡ suc (n - (i + 1)) = omega arith in
    ap (λ (k : ℕ). first_in body (frames_fields body programs k seen at)) left
    ∙ frames_step body programs (n - (i + 1)) seen at

pub no_frames : (body : List ℕ) (programs n i : ℕ) (seen : List PageId) (at : ℕ) → n - i ≡ 0 →
    first_in body (frames_fields body programs (n - i) seen at) ≡ None
unfolding frames_fields
no_frames body programs n i seen at none =
    ap (λ (k : ℕ). first_in body (frames_fields body programs k seen at)) none

-- ---- what frames without a fault spell

abbrev frame_by : Bool → List ℕ → ℕ → FrozenFrame
frame_by owes body at = record {
  bytes = take 4096 (drop at body);
  owed = cond owes (Some (page_at body (at + 4097), meta_in body (at + 4097 + 12))) None;
}

record FrameHolds (body : List ℕ) (programs : ℕ) (seen : List PageId) (at : ℕ) (frame : FrozenFrame) (next : ℕ) : Type 0 where
  text : Stands body at (frame_bytes frame) next
  is_page : IfSome (owed_page frame) (IsPage programs)
  new : IfSome (owed_page frame) (λ q. list_any (same_page q) seen ≡ false)

frame_holds_by : (body : List ℕ) (programs : ℕ) (seen : List PageId) (at : ℕ) (owes : Bool) →
    eqb (get_or body (at + 4096) 0) 1 ≡ owes → AreBytes body → 1 ≤ length body - (at + 4096) →
    get_or body (at + 4096) 0 < 2 →
    first_in body (cond owes (page_fields body programs (not (list_any (same_page (page_at body (at + 4097))) seen)) (at + 4097)) []) ≡ None →
    FrameHolds body programs seen at (frame_by owes body at) (at + cond owes 4157 4097)
frame_holds_by body programs seen at true is are whole below h =
    let page = page_at body (at + 4097) in
    let meta = meta_in body (at + 4097 + 12) in
    let holds = page_holds body programs (not (list_any (same_page page) seen)) (at + 4097) are h in
    let text = page_words page ++ meta_bytes meta in
    let from : at + 4097 ≡ at + 4096 + 1 = omega arith in
    record {
      text = Stands-then body at (take 4096 (drop at body)) (at + 4096) (1 ∷ text) (at + 4157) (piece_stands body at 4096)
          (byte_then body (at + 4096) 1 text (at + 4157) whole (eqb-true _ _ is)
          (subst (λ (k : ℕ). Stands body k text (at + 4157)) from
          (ends_at body (at + 4097) text (at + 4097 + 60) (at + 4157) (omega arith) holds.text)));
      is_page = holds.is_page;
      new = not-true _ holds.rule;
    }
frame_holds_by body programs seen at false is are whole below h = record {
  text = Stands-then body at (take 4096 (drop at body)) (at + 4096) (0 ∷ []) (at + 4097) (piece_stands body at 4096)
      (ends_at body (at + 4096) (0 ∷ []) (at + 4096 + 1) (at + 4097) (omega arith)
      (byte_stands body (at + 4096) 0 whole (zero_below_2 _ below (eqb-false _ _ is))));
  is_page = tt;
  new = tt;
}

frame_holds : (body : List ℕ) (programs : ℕ) (seen : List PageId) (at : ℕ) → AreBytes body →
    first_in body (frame_fields body programs seen at) ≡ None →
    FrameHolds body programs seen at (frame_in body at) (after_frame body at)
unfolding frame_fields
frame_holds body programs seen at are h =
    let owes = eqb (get_or body (at + 4096) 0) 1 in
    let page = page_fields body programs (not (list_any (same_page (page_at body (at + 4097))) seen)) (at + 4097) in
    let a = none_parts (fault_in body (any_in body at 4096))
    (first_of (fault_in body (byte_below body (at + 4096) 2)) (first_in body (cond owes page []))) h in
    let b = none_parts (fault_in body (byte_below body (at + 4096) 2)) (first_in body (cond owes page [])) a.1 in
    let byte = field_holds (length body - (at + 4096)) 1 (ltb (get_or body (at + 4096) 0) 2) (Form (length body))
    (Form (at + 4096)) b.0 in
    frame_holds_by body programs seen at owes refl are byte.whole (ltb-true _ _ byte.right) b.1

-- no frame is owed a page that was seen before
abbrev pub AreNew : List PageId → List (Option PageId) → Type 0
AreNew seen owed = (q : PageId) (f : ℕ) → list_any (same_page q) seen ≡ true → get_or owed f None ≡ Some q → ⊥

pub record FramesHold (body : List ℕ) (programs n : ℕ) (seen : List PageId) (at : ℕ) (frames : List FrozenFrame) (end : ℕ) : Type 0 where
  pub text : Stands body at (flat_map frame_bytes frames) end
  pub pages : AllByRecursion (λ (f : FrozenFrame). IfSome (owed_page f) (IsPage programs)) frames
  pub new : AreNew seen (map owed_page frames)
  pub once : IsOnce (map owed_page frames)

-- the pages that were seen after a frame that is owed this, or nothing
abbrev with_owed : Option PageId → List PageId → List PageId
with_owed None seen = seen
with_owed (Some q) seen = q ∷ seen

seen_is : (body : List ℕ) (seen : List PageId) (at : ℕ) (owes : Bool) →
    cond owes (page_at body (at + 4097) ∷ seen) seen ≡ with_owed (owed_page (frame_by owes body at)) seen
seen_is body seen at true = refl
seen_is body seen at false = refl

new_from : (seen : List PageId) (o : Option PageId) (owed : List (Option PageId)) →
    IfSome o (λ q. list_any (same_page q) seen ≡ false) → AreNew (with_owed o seen) owed → AreNew seen (o ∷ owed)
new_from seen None owed first rest q zero was is = absurd cc
new_from seen None owed first rest q (suc f) was is = rest q f was is
new_from seen (Some p) owed first rest q zero was is =
    let same : p ≡ q = cc in
    let not_seen : list_any (same_page q) seen ≡ false = subst (λ (x : PageId). list_any (same_page x) seen ≡ false) same first in
    absurd cc
new_from seen (Some p) owed first rest q (suc f) was is =
    rest q f (or_right (same_page q p) (list_any (same_page q) seen) was) is

once_from : (seen : List PageId) (o : Option PageId) (owed : List (Option PageId)) → AreNew (with_owed o seen) owed →
    IsOnce owed → IsOnce (o ∷ owed)
once_from seen o owed new once zero zero q a b = refl
once_from seen o owed new once (suc f) (suc g) q a b = ap suc (once f g q a b)
once_from seen None owed new once zero (suc g) q a b = absurd cc
once_from seen None owed new once (suc f) zero q a b = absurd cc
once_from seen (Some p) owed new once zero (suc g) q a b =
    let same : p ≡ q = cc in
    absurd (new q g (or_left (same_page q p) (list_any (same_page q) seen)
    (subst (λ (x : PageId). same_page q x ≡ true) (sym same) (same_page-self q))) b)
once_from seen (Some p) owed new once (suc f) zero q a b =
    let same : p ≡ q = cc in
    absurd (new q f (or_left (same_page q p) (list_any (same_page q) seen)
    (subst (λ (x : PageId). same_page q x ≡ true) (sym same) (same_page-self q))) a)

pub frames_hold : (body : List ℕ) (programs n : ℕ) (seen : List PageId) (at : ℕ) → AreBytes body →
    first_in body (frames_fields body programs n seen at) ≡ None →
    FramesHold body programs n seen at (values (frame_in body) (after_frame body) n at) (after_parts (after_frame body) n at)
unfolding values after_parts
frames_hold body programs zero seen at are h = record {
  text = record { parts = refl };
  pages = tt;
  new = λ q f was is. absurd cc;
  once = λ f g q a b. absurd cc;
}
frames_hold body programs (suc n) seen at are h =
    let next = after_frame body at in
    let rest = frames_fields body programs n (seen_after body seen at) next in
    let step : first_in body (frames_fields body programs (suc n) seen at)
    ≡ first_of (first_in body (frame_fields body programs seen at)) (first_in body rest) =
    frames_step body programs n seen at in
    let a = none_parts (first_in body (frame_fields body programs seen at)) (first_in body rest) (sym step ∙ h) in
    let first = frame_holds body programs seen at are a.0 in
    let others = frames_hold body programs n (seen_after body seen at) next are a.1 in
    let later = values (frame_in body) (after_frame body) n next in
    let o = owed_page (frame_in body at) in
    let new : AreNew (with_owed o seen) (map owed_page later) =
    subst (λ (s : List PageId). AreNew s (map owed_page later)) (seen_is body seen at (owes_page body at)) others.new in
    record {
      text = rw flat_map-cons (Stands-then body at (frame_bytes (frame_in body at)) next (flat_map frame_bytes later)
          (after_parts (after_frame body) n next) first.text others.text);
      pages = (first.is_page, others.pages);
      new = new_from seen o (map owed_page later) first.new new;
      once = once_from seen o (map owed_page later) new others.once;
    }

-- ---- a frame in steps: its bytes, whether it is owed a page, and this

pub bytes_wrong : (body : List ℕ) (programs : ℕ) (seen : List PageId) (at : ℕ) (e : FrozenFault) →
    Some e ≡ fault_in body (any_in body at 4096) → Some e ≡ first_in body (frame_fields body programs seen at)
unfolding frame_fields
bytes_wrong body programs seen at e is =
    let owed = first_in body (cond (owes_page body at) (page_fields body programs (not (list_any (same_page (page_at body (at + 4097))) seen)) (at + 4097)) []) in
    ap (λ o. first_of o (first_of (fault_in body (byte_below body (at + 4096) 2)) owed)) is

pub byte_wrong : (body : List ℕ) (programs : ℕ) (seen : List PageId) (at : ℕ) (e : FrozenFault) →
    None ≡ fault_in body (any_in body at 4096) → Some e ≡ fault_in body (byte_below body (at + 4096) 2) →
    Some e ≡ first_in body (frame_fields body programs seen at)
unfolding frame_fields
byte_wrong body programs seen at e bytes is =
    let owed = first_in body (cond (owes_page body at) (page_fields body programs (not (list_any (same_page (page_at body (at + 4097))) seen)) (at + 4097)) []) in
    ap (λ o. first_of o owed) is ∙ ap (λ o. first_of o (first_of (fault_in body (byte_below body (at + 4096) 2)) owed)) bytes

pub rest_of_frame : (body : List ℕ) (programs : ℕ) (seen : List PageId) (at : ℕ) (owes : Bool) (o : Option FrozenFault) →
    None ≡ fault_in body (any_in body at 4096) → None ≡ fault_in body (byte_below body (at + 4096) 2) →
    owes_page body at ≡ owes →
    o ≡ first_in body (cond owes (page_fields body programs (not (list_any (same_page (page_at body (at + 4097))) seen)) (at + 4097)) []) →
    o ≡ first_in body (frame_fields body programs seen at)
unfolding frame_fields
rest_of_frame body programs seen at owes o bytes byte is found =
    let owed : Bool → Option FrozenFault = λ (b : Bool). first_in body (cond b (page_fields body programs (not (list_any (same_page (page_at body (at + 4097))) seen)) (at + 4097)) []) in
    found ∙ ap owed (sym is) ∙ ap (λ x. first_of x (owed (owes_page body at))) byte
    ∙ ap (λ x. first_of x (first_of (fault_in body (byte_below body (at + 4096) 2)) (owed (owes_page body at)))) bytes
