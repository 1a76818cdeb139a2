-- Calls of a pager one after another, and the law that they keep.
use Rattle.std.specs.Prelude.{ℕ, ◌≡◌, Bool, false, List, [], ◌∷◌, Option, Some, map, slice_index_or}
use Rattle.cloak_base.specs.declared.names.PageId.{PageId}
use Rattle.cloak_base.specs.Random.{Random}
use Rattle.cloak_model.specs.Cloaking.{CloakedMemory}
use Rattle.cloak_model.specs.Memory.{value_in}
use Rattle.cloak_model.specs.StoredFiles.{PageContent, IsSealed, meta_of}
use Rattle.cloak_model.specs.Beginning.{with_content}
use Rattle.cloak_base.specs.declared.names.Meta.{Meta}
use Rattle.cloak_pager.specs.State.{PagerState, key_for}
use Rattle.cloak_pager.specs.Turns.{IsReadOnce}
use Rattle.cloak_pager.specs.Relation.{StandsForMemory}
use Rattle.cloak_pager.specs.Asking.{ToldCall, AskingCall, FollowsCall, FollowsCallStill, FollowsCallUnclashed, after_touch, shown_by}
use Rattle.cloak_pager.specs.Asking.{after_offer, answer_of, after_place, StandsRestored, TellsContent, KnowsContent}
use Rattle.cloak_pager.specs.Asking.{ReadsNewest, SeesFrame, PageWrite, after_write_plain, after_write_outside}
use Rattle.cloak_pager.specs.Asking.{after_fill_outside, after_copy_pages, after_drop_pages, after_close}
use Rattle.cloak_pager.specs.declared.touching.Touched.{Touched}
use Rattle.cloak_pager.specs.declared.offering.Offered.{Offered}

-- A call that changes the pager, or shows bytes or metadata, with what it is handed: a frame or a page, a place and a
-- width in it, and so on, in the order of the call. For a restoring also the content that the page goes on with.
-- Freezing and thawing are not among them: their clauses speak of no memory.
pub data Call : Type 0 where
  Touch : ℕ → Call
  Offer : PageId → ℕ → Bool → Call
  Place : PageId → ℕ → List ℕ → Call
  Restore : PageId → Meta → PageContent → Call
  ReadMeta : PageId → Call
  ReadPlain : PageId → ℕ → ℕ → Call
  WritePlain : PageId → PageWrite → Call
  ReadOutside : ℕ → Call
  WriteOutside : ℕ → PageWrite → Call
  FillOutside : ℕ → List ℕ → Call
  CopyPages : ℕ → ℕ → ℕ → Call
  DropPages : ℕ → ℕ → Call
  Close : Call

-- what a call returns; `tt` if it returns nothing
abbrev pub AnswerTo : Call → Type 0
AnswerTo (Touch f) = Touched
AnswerTo (Offer q g write) = Offered
AnswerTo (Place q f bytes) = Bool
AnswerTo (Restore q t c) = Unit {0}
AnswerTo (ReadMeta q) = Option Meta
AnswerTo (ReadPlain q at width) = ℕ
AnswerTo (WritePlain q x) = Unit {0}
AnswerTo (ReadOutside f) = List ℕ
AnswerTo (WriteOutside f x) = Unit {0}
AnswerTo (FillOutside f bytes) = Unit {0}
AnswerTo (CopyPages domain from to) = Unit {0}
AnswerTo (DropPages domain resource) = Unit {0}
AnswerTo Close = Unit {0}

-- a call, its answer, and the pager and the stream after it
pub record Step : Type 0 where
  pub call : Call
  pub answer : AnswerTo call
  pub pager : PagerState
  pub stream : Random

-- a call that takes no stream and returns nothing follows its rule, and the stream is as it was
abbrev pub KeepsRule : PagerState → Random → PagerState → Random → AskingCall (Unit {0}) → Type 0
KeepsRule old stream new left ask = FollowsCallStill old new tt ask × (left ≡ stream)

-- The call did what its contract ensures of the rules of cloaking. The stream after a call that takes none is the one
-- before it. Whoever restores a page owes its content, which is sealed under the page's key and has the metadata given.
abbrev pub KeptBy : PagerState → Random → PagerState → Random → (call : Call) → AnswerTo call → Type 0
KeptBy old stream new left (Touch f) answer = FollowsCall old stream new left (shown_by answer f new) (after_touch f)
KeptBy old stream new left (Offer q g write) answer =
    FollowsCallUnclashed old new (answer_of answer) (after_offer q g write) × (left ≡ stream)
KeptBy old stream new left (Place q f bytes) answer = FollowsCall old stream new left answer (after_place q f bytes)
KeptBy old stream new left (Restore q t c) answer =
    StandsRestored old new q t × IsSealed (key_for old q) c × (meta_of c ≡ t) × (left ≡ stream)
KeptBy old stream new left (ReadMeta q) answer = KnowsContent old q answer × (new ≡ old) × (left ≡ stream)
KeptBy old stream new left (ReadPlain q at width) answer =
    ReadsNewest old q at width answer × (new ≡ old) × (left ≡ stream)
KeptBy old stream new left (WritePlain q x) answer = KeepsRule old stream new left (after_write_plain q x)
KeptBy old stream new left (ReadOutside f) answer = SeesFrame old f answer × IsReadOnce old new × (left ≡ stream)
KeptBy old stream new left (WriteOutside f x) answer = KeepsRule old stream new left (after_write_outside f x)
KeptBy old stream new left (FillOutside f bytes) answer = KeepsRule old stream new left (after_fill_outside f bytes)
KeptBy old stream new left (CopyPages domain from to) answer =
    KeepsRule old stream new left (after_copy_pages domain from to)
KeptBy old stream new left (DropPages domain resource) answer =
    KeepsRule old stream new left (after_drop_pages domain resource)
KeptBy old stream new left Close answer = KeepsRule old stream new left after_close

-- each call from this pager and this stream on did, in turn
abbrev pub AllKept : PagerState → Random → List Step → Type 0
AllKept p stream [] = Unit {0}
AllKept p stream (s ∷ steps) = KeptBy p stream s.pager s.stream s.call s.answer × AllKept s.pager s.stream steps

-- the pager and the stream after the last call
abbrev pub pager_after : PagerState → List Step → PagerState
pager_after p [] = p
pager_after p (s ∷ steps) = pager_after s.pager steps

abbrev pub stream_after : Random → List Step → Random
stream_after stream [] = stream
stream_after stream (s ∷ steps) = stream_after s.stream steps

-- What the rules tell.

-- what there is after calls in turn: the pages whose newest bytes are lost, and the memory
pub record AfterCalls : Type 0 where
  pub wiped : PageId → Bool
  pub memory : CloakedMemory

abbrev pub without_answer : {A : Type 0} → ToldCall A → AfterCalls
without_answer t = record { wiped = t.wiped; memory = t.memory }

-- what the rules make of these by a call
abbrev pub after_call : Call → (PageId → Bool) → CloakedMemory → AfterCalls
after_call (Touch f) wiped m = without_answer (after_touch f wiped m)
after_call (Offer q g write) wiped m = without_answer (after_offer q g write wiped m)
after_call (Place q f bytes) wiped m = without_answer (after_place q f bytes wiped m)
after_call (Restore q t c) wiped m = record { wiped = wiped; memory = with_content q (Some c) m }
after_call (ReadMeta q) wiped m = record { wiped = wiped; memory = m }
after_call (ReadPlain q at width) wiped m = record { wiped = wiped; memory = m }
after_call (WritePlain q x) wiped m = without_answer (after_write_plain q x wiped m)
after_call (ReadOutside f) wiped m = record { wiped = wiped; memory = m }
after_call (WriteOutside f x) wiped m = without_answer (after_write_outside f x wiped m)
after_call (FillOutside f bytes) wiped m = without_answer (after_fill_outside f bytes wiped m)
after_call (CopyPages domain from to) wiped m = without_answer (after_copy_pages domain from to wiped m)
after_call (DropPages domain resource) wiped m = without_answer (after_drop_pages domain resource wiped m)
after_call Close wiped m = without_answer (after_close wiped m)

-- and by calls in turn: what the pager answered has no part in it
abbrev pub after_calls : List Call → (PageId → Bool) → CloakedMemory → AfterCalls
after_calls [] wiped m = record { wiped = wiped; memory = m }
after_calls (c ∷ calls) wiped m = let r = after_call c wiped m in after_calls calls r.wiped r.memory

-- This answer is the one that the rules tell, before a call. Of a page whose newest bytes are lost no reading is told.
abbrev pub IsTold : (call : Call) → AnswerTo call → PagerState → (PageId → Bool) → CloakedMemory → Type 0
IsTold (Touch f) answer new wiped m = shown_by answer f new ≡ (after_touch f wiped m).answer
IsTold (Offer q g write) answer new wiped m = answer_of answer ≡ (after_offer q g write wiped m).answer
IsTold (Place q f bytes) answer new wiped m = answer ≡ (after_place q f bytes wiped m).answer
IsTold (Restore q t c) answer new wiped m = Unit {0}
IsTold (ReadMeta q) answer new wiped m = TellsContent (wiped q) m q answer
IsTold (ReadPlain q at width) answer new wiped m = wiped q ≡ false → answer ≡ value_in (m.plain q) at width
IsTold (WritePlain q x) answer new wiped m = Unit {0}
IsTold (ReadOutside f) answer new wiped m = answer ≡ slice_index_or m.ram f []
IsTold (WriteOutside f x) answer new wiped m = Unit {0}
IsTold (FillOutside f bytes) answer new wiped m = Unit {0}
IsTold (CopyPages domain from to) answer new wiped m = Unit {0}
IsTold (DropPages domain resource) answer new wiped m = Unit {0}
IsTold Close answer new wiped m = Unit {0}

-- each answer is the one that the rules tell
abbrev pub AllTold : List Step → (PageId → Bool) → CloakedMemory → Type 0
AllTold [] wiped m = Unit {0}
AllTold (s ∷ steps) wiped m =
    let r = after_call s.call wiped m in IsTold s.call s.answer s.pager wiped m × AllTold steps r.wiped r.memory

-- The calls answered as the rules tell, and the pager stands for what the rules make of the memory by these calls, with
-- the stream that is left.
pub record FollowsCallsFrom (p : PagerState) (stream : Random) (steps : List Step) (wiped : PageId → Bool)
    (m : CloakedMemory) (end : AfterCalls) : Type 0 where
  pub answers : AllTold steps wiped m
  pub stands : StandsForMemory (pager_after p steps) end.wiped end.memory
  pub drawn : end.memory.ledger.stream ≡ stream_after stream steps

abbrev pub calls_of : List Step → List Call
calls_of steps = map (λ (s : Step). s.call) steps

-- Over every list of calls that each did as its contract ensures, the pager follows the rules of cloaking, for every
-- memory that it stood for, unless two different pages with one digest were compared on the way.
abbrev pub LawOfCalls : Type 0
LawOfCalls =
    (p : PagerState) (stream : Random) (steps : List Step) (wiped : PageId → Bool) (m : CloakedMemory) →
    AllKept p stream steps → StandsForMemory p wiped m → m.ledger.stream ≡ stream →
    (after_calls (calls_of steps) wiped m).memory.ledger.clashed ≡ false →
    FollowsCallsFrom p stream steps wiped m (after_calls (calls_of steps) wiped m)
