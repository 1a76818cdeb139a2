-- The opening of a joint run, over plain variables.
use Rattle.std.proofs.Common.{◌≡◌, ◌<◌, ◌≤◌, ℕ, get_or, true, false, List, Option, None, Some, Err, refl, ap, sym, ◌∙◌, subst, arith, map, replicate, All}
use Rattle.cloak_base.specs.declared.names.SpaceId.{SpaceId}
use Rattle.cloak_base.specs.Random.{Random}
use Rattle.cloak_model.specs.declared.image.Bundle.{Bundle}
use Rattle.cloak_model.specs.declared.image.Program.{Program}
use Rattle.cloak_model.specs.Beginning.{stored_keys}
use Rattle.cloak_model.specs.Bundle.{IsProgramIn}
use Rattle.cloak_model.specs.Cloaking.{CloakedMemory}
use Rattle.cloak_model.specs.Ledger.{Keys}
use Rattle.cloak_model.specs.Sealing.{Chained}
use Rattle.cloak_model.specs.Opening.{NoKey, NoPageDraw, drawn_keys, filled_up, key_count, keys_for, opening, opened_by, opened_with, opening_items, started_domains, started_harts, started_joint, started_kernel, started_ledger, started_memory, place_programs}
use Rattle.thread_context.specs.Recorded.{root_at}
use Rattle.cloak_pager.specs.State.{PagerState, held_in}
use Rattle.cloaked_side.specs.Holding.{Holds}
use Rattle.cloaked_side.specs.declared.memory.Memory.{Memory}
use Rattle.hypercalls.specs.declared.domain.Domain.{Domain}
use Rattle.joint_machine.specs.declared.joint.Joint.{Joint}
use Rattle.joint_machine.specs.declared.reading.JointParts.{JointParts}
use Rattle.joint_machine.specs.Standing.{AreDomains, OpensJoint, StandsForJoint}
use Rattle.joint_machine.specs.Programs.{AreFreeUnused}
use Rattle.joint_machine.specs.Starting.{DrawsKeys, IsOfParts, PlacesTo, StartsParts}
use Rattle.joint_machine.proofs.Placed.{KeepsFixed, KeepsFixedIf, programs_fixed}

-- if no frame holds a page, none holds one of a free number
pub free_unused : (domains : List Domain) (p : PagerState) → ((k : ℕ) → held_in p k ≡ None) → AreFreeUnused domains p
free_unused domains p none d n low domain at free = λ k q held. absurd (let no : None ≡ Some q = sym (none k) ∙ held in cc)

-- the number of each program's key is low
pub low_keys : (frames : ℕ) (programs read : List Program) → read ≡ programs → All (IsProgramIn frames) programs →
    All (λ (p : Program). p.key < 4) read
low_keys frames programs read same are =
    subst (All (λ (p : Program). p.key < 4)) (sym same)
    (λ i p inside. let low : (get_or programs i p).key ≤ 3 = (are i p inside).key in omega (arith, low))

-- What is missing.

pub no_key : (b : Bundle) (s : Random) (count : ℕ) → count ≡ key_count b.programs → drawn_keys count s ≡ None →
    opening b s ≡ Err NoKey
unfolding opened_by
no_key b s count counted none =
    let short : drawn_keys (key_count b.programs) s ≡ None = ap (λ n. drawn_keys n s) (sym counted) ∙ none in
    rw short refl

-- the first draws of the stream are the keys of the run, and this is left of it
pub record HasKeys (b : Bundle) (s rest : Random) (keys : Keys) : Type 0 where
  pub drawn : List (List ℕ)
  pub are : drawn_keys (key_count b.programs) s ≡ Some (drawn, rest)
  pub keys_are : keys ≡ keys_for b.programs drawn

pub has_keys : (b : Bundle) (s rest : Random) (count : ℕ) (numbered : List (List ℕ)) (group : List ℕ)
    (programs : List Program) → programs ≡ b.programs → count ≡ key_count b.programs →
    DrawsKeys count s rest numbered → group ≡ filled_up 0 (map (λ (p : Program). p.key) programs) →
    HasKeys b s rest (record { numbered = numbered; group = group; seal = Chained })
has_keys b s rest count numbered group programs same counted draws grouped = record {
  drawn = draws.drawn;
  are = ap (λ n. drawn_keys n s) (sym counted) ∙ draws.are;
  keys_are = λ i. record {
    numbered = draws.filled i;
    group = (grouped ∙ ap (λ (ps : List Program). filled_up 0 (map (λ (p : Program). p.key) ps)) same) i;
    seal = Chained;
  };
}

opening_with : (b : Bundle) (s rest : Random) (keys : Keys) (o : Option CloakedMemory) → HasKeys b s rest keys →
    place_programs 0 b.programs (started_memory b.kernel keys rest) ≡ o → opening b s ≡ opened_with b o
unfolding opened_by
opening_with b s rest keys o some places =
    rw some.are
    (ap (λ (k : Keys). opened_with b (place_programs 0 b.programs (started_memory b.kernel k rest))) (sym some.keys_are)
    ∙ ap (opened_with b) places)

missing : (b : Bundle) (memory : Memory) (o : Option CloakedMemory) → PlacesTo memory false o →
    opened_with b o ≡ Err NoPageDraw
unfolding opened_with
missing b memory None places = refl
missing b memory (Some m) places = absurd places

pub no_page_draw : (b : Bundle) (s rest : Random) (keys : Keys) (memory : Memory) → HasKeys b s rest keys →
    PlacesTo memory false (place_programs 0 b.programs (started_memory b.kernel keys rest)) →
    opening b s ≡ Err NoPageDraw
no_page_draw b s rest keys memory some places =
    opening_with b s rest keys _ some refl ∙ missing b memory _ places

-- What is opened.

-- a joint machine of these parts
pub record HasParts (joint : Joint) (b : Bundle) (keys : Keys) (rest : Random) : Type 0 where
  pub harts : joint.harts.items ≡ started_harts b.kernel.entry b.kernel.harts
  pub disk : joint.disk ≡ b.kernel.disk
  pub domains : AreDomains joint.domains.items (started_domains 0 b.programs)
  pub roots : (s : SpaceId) → root_at joint.roots s ≡ None
  pub ended : joint.ended ≡ replicate 4 None
  pub refused : joint.refused ≡ 0
  pub memory : PlacesTo joint.memory true (place_programs 0 b.programs (started_memory b.kernel keys rest))

pub no_roots : (b : Bundle) (keys : Keys) (rest : Random) (s : SpaceId) →
    (started_memory b.kernel keys rest).ledger.root s ≡ None
unfolding started_memory started_ledger
no_roots b keys rest s = refl

stands_with : (joint : Joint) (b : Bundle) (keys : Keys) (rest : Random) (m : CloakedMemory) →
    HasParts joint b keys rest → Holds joint.memory m →
    KeepsFixed (started_memory b.kernel keys rest) m → StandsForJoint joint (started_joint b m)
unfolding started_joint started_kernel
stands_with joint b keys rest m parts holds fixed = record {
  harts = parts.harts;
  disk = parts.disk;
  memory = holds;
  domains = parts.domains;
  roots = λ s. parts.roots s ∙ sym (fixed.roots s ∙ no_roots b keys rest s);
  ended = parts.ended;
  refused = parts.refused;
}

-- the parts began so, the pages were placed in their memory, and this machine was made of them
pub has_parts : (joint : Joint) (b : Bundle) (numbered : List (List ℕ)) (rest : Random) (parts placed : JointParts) →
    StartsParts b numbered rest parts → placed.harts ≡ parts.harts → placed.domains ≡ parts.domains →
    placed.disk ≡ parts.disk → placed.ended ≡ parts.ended → placed.refused ≡ parts.refused →
    IsOfParts joint placed → ((s : SpaceId) → root_at joint.roots s ≡ None) →
    PlacesTo placed.memory true (place_programs 0 b.programs (started_memory b.kernel (stored_keys b numbered) rest)) →
    HasParts joint b (stored_keys b numbered) rest
has_parts joint b numbered rest parts placed starts harts domains disk ended refused is roots places = record {
  harts = ap (λ (x : _). x.items) (is.harts ∙ harts) ∙ starts.harts;
  disk = is.disk ∙ disk ∙ starts.disk;
  domains = subst (λ (x : _). AreDomains x.items (started_domains 0 b.programs)) (sym (is.domains ∙ domains)) starts.domains;
  roots = roots;
  ended = is.ended ∙ ended ∙ starts.ended;
  refused = is.refused ∙ refused ∙ starts.refused;
  memory = subst (λ (x : Memory). PlacesTo x true (place_programs 0 b.programs (started_memory b.kernel (stored_keys b numbered) rest)))
      (sym is.memory) places;
}

opened_as : (joint : Joint) (b : Bundle) (s rest : Random) (keys : Keys) (o : Option CloakedMemory) →
    opening b s ≡ opened_with b o → HasParts joint b keys rest → PlacesTo joint.memory true o →
    KeepsFixedIf (started_memory b.kernel keys rest) o → OpensJoint b s joint
unfolding opened_with
opened_as joint b s rest keys None opens parts places fixed = absurd places
opened_as joint b s rest keys (Some m) opens parts places fixed = record {
  opened = record { joint = started_joint b m; items = opening_items b.programs m.ram };
  opens = opens;
  stands = stands_with joint b keys rest m parts places fixed;
}

pub opens_joint : (joint : Joint) (b : Bundle) (s rest : Random) (keys : Keys) → HasKeys b s rest keys →
    HasParts joint b keys rest → OpensJoint b s joint
opens_joint joint b s rest keys some parts =
    let m = started_memory b.kernel keys rest in
    opened_as joint b s rest keys (place_programs 0 b.programs m) (opening_with b s rest keys _ some refl) parts parts.memory
    (programs_fixed 0 b.programs m)
