-- The opening of a joint run over files, over plain variables.
use Rattle.std.proofs.Common.{◌≡◌, ◌∙◌, ℕ, zero, suc, ◌+◌, ◌<◌, ◌≤◌, true, false, List, [], ◌∷◌, replicate, slice_get, slice_index_or, Option, None, Some, Result, Ok, Err, refl, ap, sym, subst, arith, ◌⊎◌, inl, inr}
use Rattle.std.proofs.lemmas.List.{get_or-replicate, get_or_past, length-replicate}
use Rattle.std.proofs.lemmas.Bool.{cases_lt}
use Rattle.cloak_base.specs.Random.{Random}
use Rattle.cloak_base.specs.declared.names.SpaceId.{SpaceId}
use Rattle.cloak_model.specs.declared.image.Bundle.{Bundle}
use Rattle.cloak_model.specs.declared.image.Program.{Program}
use Rattle.cloak_model.specs.Items.{Item}
use Rattle.cloak_model.specs.declared.resource.Resource.{Resource}
use Rattle.cloak_model.specs.Beginning.{and_then, files_added, opened_over, opening_stored, stored_keys}
use Rattle.cloak_model.specs.Cloaking.{CloakedMemory}
use Rattle.cloak_model.specs.DomainState as model
use Rattle.cloak_model.specs.DomainState.{started_domain, started_control}
use Rattle.cloak_model.specs.Files.{holds_file}
use Rattle.cloak_model.specs.Ledger.{Keys}
use Rattle.cloak_model.specs.Opening.{Lack, NoPageDraw, NoRoom, RunEdge, opening_items, place_programs, started_domains, started_harts, started_joint, started_kernel, started_ledger, started_memory}
use Rattle.cloak_model.specs.Parts.{Joint as Machine}
use Rattle.cloak_model.specs.Resources.{Resources, resource_at, started_resources}
use Rattle.cloak_model.specs.StoredFiles.{StoredFile, FileContents}
use Rattle.thread_context.specs.Recorded.{root_at}
use Rattle.protect_meta.specs.Table.{meta_at}
use Rattle.cloak_pager.specs.State.{PagerState}
use Rattle.cloaked_side.specs.Holding.{Holds}
use Rattle.cloaked_side.specs.declared.memory.Memory.{Memory}
use Rattle.hypercalls.specs.declared.domain.Domain.{Domain}
use Rattle.hypercalls.specs.Standing.{control_of}
use Rattle.joint_machine.specs.declared.joint.Joint.{Joint}
use Rattle.joint_machine.specs.Filing.{AddsTo, AreFreeUnshown, HasAddedFiles, HasNoFile, IsNewFile}
use Rattle.joint_machine.specs.Standing.{AreDomains, OpensOver, StandsForJoint}
use Rattle.joint_machine.specs.Starting.{IsReady, KeepsUnplaced, PlacesTo}
use Rattle.joint_machine.proofs.Opens.{no_roots}
use Rattle.joint_machine.proofs.Places.{domain_at}
use Rattle.joint_machine.proofs.Placed.{KeepsFixed, KeepsFixedIf, programs_fixed}
use Rattle.cloak_model.proofs.Opening.{joint_domains}

-- What programs have as they begin.

-- the first number is that of the program, and all others are free
pub record HasProgramAlone (r : Resources) : Type 0 where
  pub files : (number : ℕ) → HasNoFile r number
  pub first : (n : ℕ) → resource_at r n ≡ None → ¬ (n ≡ 0)

free_past : (n : ℕ) → (o : Option Resource) → o ≡ None → slice_index_or (replicate 15 o) n None ≡ None
free_past n o none = elim (cases_lt n 15) [
  | inl lt ↦ get_or-replicate 15 n o None lt ∙ none
  | inr ge ↦ get_or_past (replicate 15 o) n None (let long = length-replicate 15 o in omega (arith, long, ge))
]

no_file : (pages base number : ℕ) → HasNoFile (started_resources pages base) number
unfolding started_resources
no_file pages base number zero = refl
no_file pages base number (suc n) = ap (holds_file number) (free_past n None refl)

taken : (pages base n : ℕ) → resource_at (started_resources pages base) n ≡ None → n ≡ 0 → ⊥
unfolding started_resources
taken pages base zero free same = cc
taken pages base (suc n) free same = cc

started_alone : (pages base : ℕ) → HasProgramAlone (started_resources pages base)
started_alone pages base =
    record { files = no_file pages base; first = λ n free same. taken pages base n free same }

alone_at : (d : ℕ) (programs : List Program) (k : ℕ) (was : model.Domain) →
    slice_get (started_domains d programs) k ≡ Some was → HasProgramAlone was.control.resources
unfolding started_domain started_control
alone_at d [] k was is = absurd (cc)
alone_at d (p ∷ programs) zero was is =
    let same : started_domain d p.start ≡ was = cc in
    subst (λ (x : model.Domain). HasProgramAlone x.control.resources) same (started_alone p.start.pages p.start.base)
alone_at d (p ∷ programs) (suc k) was is = alone_at (d + 1) programs k was is

alone_in : (xs : List Domain) (programs : List Program) (k : ℕ) (x : Domain) →
    AreDomains xs (started_domains 0 programs) → slice_get xs k ≡ Some x → HasProgramAlone (control_of x).resources
alone_in xs programs k x are there =
    let at = domain_at xs (started_domains 0 programs) k x are there in
    subst (λ (c : model.Control). HasProgramAlone c.resources) at.1.1.control (alone_at 0 programs k at.0 at.1.0)

-- no file is there yet
pub all_new : (xs : List Domain) (programs : List Program) → AreDomains xs (started_domains 0 programs) →
    (f : StoredFile) → IsNewFile xs f
all_new xs programs are f x there = (alone_in xs programs f.domain x are there).files f.number

-- and nothing is known of pages but those of the programs
pub unshown_yet : (xs : List Domain) (programs : List Program) (old new : PagerState) →
    AreDomains xs (started_domains 0 programs) → IsReady old 0 0 → KeepsUnplaced old new → AreFreeUnshown xs new
unshown_yet xs programs old new are ready keeps d n x there free q domain here =
    let other : ¬ (q.resource ≡ 0) = λ same. (alone_in xs programs d x are there).first n free (sym here ∙ same) in
    keeps q other ∙ never (cases_lt 0 q.domain)
  where
    never : (0 < q.domain) ⊎ (q.domain ≤ 0) → meta_at old.table q ≡ None
    never (inl lt) = ready.later q lt
    never (inr ge) = ready.rest q (omega (arith, ge)) (omega arith)

-- What is lacking.

-- the keys with which it began
keys_began : (b : Bundle) (keys : Keys) (stream : Random) → (started_memory b.kernel keys stream).ledger.keys ≡ keys
unfolding started_memory started_ledger
keys_began b keys stream = refl

memory_began : (b : Bundle) (m : CloakedMemory) → (started_joint b m).memory ≡ m
unfolding started_joint
memory_began b m = refl

keys_of : (b : Bundle) (m : CloakedMemory) (keys : Keys) → m.ledger.keys ≡ keys →
    (started_joint b m).memory.ledger.keys ≡ keys
keys_of b m keys is = ap (λ (x : CloakedMemory). x.ledger.keys) (memory_began b m) ∙ is

-- what becomes of each state that has these keys and the programs as they begin
abbrev pub OfEach : Bundle → Keys → (Machine → Type 0) → Type 0
OfEach b keys P = (j : Machine) → j.memory.ledger.keys ≡ keys → j.domains ≡ started_domains 0 b.programs → P j

-- nothing is opened for want of this
abbrev lacks : Lack → Machine → Result RunEdge Lack
lacks lack j = Err lack

no_room_by : (b : Bundle) (keys : Keys) (stream : Random) (contents : List FileContents) (d : ℕ) (o : Option CloakedMemory) →
    KeepsFixedIf (started_memory b.kernel keys stream) o →
    OfEach b keys (λ j. files_added contents j ≡ Err (NoRoom d)) →
    opened_over b contents (started_joint b (started_memory b.kernel keys stream)) o ≡ Err (NoRoom d)
unfolding opened_over
no_room_by b keys stream contents d None fixed refused =
    let m = started_memory b.kernel keys stream in
    ap (and_then (lacks NoPageDraw))
    (refused (started_joint b m) (keys_of b m keys (keys_began b keys stream)) (joint_domains b m))
no_room_by b keys stream contents d (Some m) fixed refused =
    ap (and_then (λ (j : Machine). Ok (record { joint = j; items = opening_items b.programs m.ram })))
    (refused (started_joint b m) (keys_of b m keys (fixed.keys ∙ keys_began b keys stream)) (joint_domains b m))

pub no_room : (b : Bundle) (numbered : List (List ℕ)) (stream : Random) (contents : List FileContents) (d : ℕ) →
    OfEach b (stored_keys b numbered) (λ j. files_added contents j ≡ Err (NoRoom d)) →
    opening_stored b numbered stream contents ≡ Err (NoRoom d)
unfolding opening_stored
no_room b numbered stream contents d refused =
    let keys = stored_keys b numbered in
    no_room_by b keys stream contents d (place_programs 0 b.programs (started_memory b.kernel keys stream))
    (programs_fixed 0 b.programs (started_memory b.kernel keys stream)) refused

after_all : (lack : Lack) (r : Result Machine Lack) (memory memory' : Memory) (domains : List Domain) (j : Machine) →
    AddsTo memory memory' domains j (Ok tt) r → and_then (lacks lack) r ≡ Err lack
after_all lack (Ok k) memory memory' domains j adds = refl
after_all lack (Err other) memory memory' domains j adds = absurd adds

no_draw_by : (b : Bundle) (keys : Keys) (stream : Random) (contents : List FileContents) (memory memory' : Memory)
    (domains : List Domain) (o : Option CloakedMemory) → PlacesTo memory false o →
    OfEach b keys (λ j. AddsTo memory memory' domains j (Ok tt) (files_added contents j)) →
    opened_over b contents (started_joint b (started_memory b.kernel keys stream)) o ≡ Err NoPageDraw
unfolding opened_over
no_draw_by b keys stream contents memory memory' domains None places adds =
    let m = started_memory b.kernel keys stream in
    after_all NoPageDraw _ memory memory' domains (started_joint b m)
    (adds (started_joint b m) (keys_of b m keys (keys_began b keys stream)) (joint_domains b m))
no_draw_by b keys stream contents memory memory' domains (Some m) places adds = absurd places

pub no_draw : (b : Bundle) (numbered : List (List ℕ)) (stream : Random) (contents : List FileContents)
    (memory memory' : Memory) (domains : List Domain) →
    PlacesTo memory false (place_programs 0 b.programs (started_memory b.kernel (stored_keys b numbered) stream)) →
    OfEach b (stored_keys b numbered) (λ j. AddsTo memory memory' domains j (Ok tt) (files_added contents j)) →
    opening_stored b numbered stream contents ≡ Err NoPageDraw
unfolding opening_stored
no_draw b numbered stream contents memory memory' domains places adds =
    no_draw_by b (stored_keys b numbered) stream contents memory memory' domains _ places adds

-- What is opened.

-- a joint machine of these parts, to which files were added
pub record HasFiled (joint : Joint) (b : Bundle) (keys : Keys) (stream : Random) (contents : List FileContents)
    (memory : Memory) : Type 0 where
  pub harts : joint.harts.items ≡ started_harts b.kernel.entry b.kernel.harts
  pub disk : joint.disk ≡ b.kernel.disk
  pub roots : (s : SpaceId) → root_at joint.roots s ≡ None
  pub ended : joint.ended ≡ replicate 4 None
  pub refused : joint.refused ≡ 0
  pub places : PlacesTo memory true (place_programs 0 b.programs (started_memory b.kernel keys stream))
  pub adds : OfEach b keys (λ j. AddsTo memory joint.memory joint.domains.items j (Ok tt) (files_added contents j))

-- the state after the files, of one that began so
stands_filed : (joint : Joint) (b : Bundle) (keys : Keys) (stream : Random) (contents : List FileContents)
    (memory : Memory) (m : CloakedMemory) (after : Machine) → HasFiled joint b keys stream contents memory →
    Holds memory m → KeepsFixed (started_memory b.kernel keys stream) m →
    HasAddedFiles memory joint.memory joint.domains.items (started_joint b m) after → StandsForJoint joint after
unfolding started_joint started_kernel
stands_filed joint b keys stream contents memory m after filed holds fixed has = record {
  harts = filed.harts ∙ sym has.rest.harts;
  disk = filed.disk ∙ sym has.rest.disk;
  memory = has.memory holds;
  domains = has.domains;
  roots = λ s. filed.roots s ∙ sym (has.rest.roots s ∙ (fixed.roots s ∙ no_roots b keys stream s));
  ended = filed.ended ∙ sym has.rest.ended;
  refused = filed.refused ∙ sym has.rest.refused;
}

-- what is opened, and that the machine stands for it
pub record OpensTo (joint : Joint) (r : Result RunEdge Lack) : Type 0 where
  pub opened : RunEdge
  pub opens : r ≡ Ok opened
  pub stands : StandsForJoint joint opened.joint

with_files : (joint : Joint) (b : Bundle) (keys : Keys) (stream : Random) (contents : List FileContents)
    (memory : Memory) (m : CloakedMemory) (items : List Item) (r : Result Machine Lack) →
    HasFiled joint b keys stream contents memory → Holds memory m →
    KeepsFixed (started_memory b.kernel keys stream) m →
    AddsTo memory joint.memory joint.domains.items (started_joint b m) (Ok tt) r →
    OpensTo joint (and_then (λ (j : Machine). Ok (record { joint = j; items = items })) r)
with_files joint b keys stream contents memory m items (Ok after) filed holds fixed adds = record {
  opened = record { joint = after; items = items };
  opens = refl;
  stands = stands_filed joint b keys stream contents memory m after filed holds fixed adds;
}
with_files joint b keys stream contents memory m items (Err lack) filed holds fixed adds = absurd adds

opens_by : (joint : Joint) (b : Bundle) (keys : Keys) (stream : Random) (contents : List FileContents) (memory : Memory)
    (o : Option CloakedMemory) → PlacesTo memory true o → KeepsFixedIf (started_memory b.kernel keys stream) o →
    HasFiled joint b keys stream contents memory →
    OpensTo joint (opened_over b contents (started_joint b (started_memory b.kernel keys stream)) o)
unfolding opened_over
opens_by joint b keys stream contents memory None places fixed filed = absurd places
opens_by joint b keys stream contents memory (Some m) places fixed filed =
    with_files joint b keys stream contents memory m (opening_items b.programs m.ram) _ filed places fixed
    (filed.adds (started_joint b m) (keys_of b m keys (fixed.keys ∙ keys_began b keys stream)) (joint_domains b m))

pub opens_over : (joint : Joint) (b : Bundle) (numbered : List (List ℕ)) (stream : Random) (contents : List FileContents)
    (memory : Memory) → HasFiled joint b (stored_keys b numbered) stream contents memory →
    OpensOver b numbered stream contents joint
unfolding opening_stored
opens_over joint b numbered stream contents memory filed =
    let m = started_memory b.kernel (stored_keys b numbered) stream in
    let o = opens_by joint b (stored_keys b numbered) stream contents memory (place_programs 0 b.programs m) filed.places
    (programs_fixed 0 b.programs m) filed in
    record { opened = o.opened; opens = o.opens; stands = o.stands }
