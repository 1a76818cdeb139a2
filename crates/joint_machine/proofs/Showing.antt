-- What is shown as a run begins, over plain variables.
use Rattle.std.proofs.Common.{◌≡◌, ◌+◌, ℕ, Bool, true, ◌&&◌, nat_le, nat_lt, if◌then◌else◌, length, List, [], ◌∷◌, slice_index_or, refl, ap, sym, ◌∙◌, subst, slice_get, Result, Ok, Err, Option, None, Some}
use Rattle.std.specs.Prelude.{map, filter}
use Rattle.std.proofs.lemmas.List.{ext_get_or}
use Rattle.cloak_base.specs.declared.names.PageId.{PageId}
use Rattle.cloak_base.specs.Random.{Random}
use Rattle.cloak_model.specs.declared.image.Program.{Program}
use Rattle.cloak_model.specs.declared.image.Bundle.{Bundle}
use Rattle.cloak_model.specs.Items.{Item}
use Rattle.cloak_model.specs.declared.resource.MapFault.{MapFault}
use Rattle.cloak_model.specs.Beginning.{and_then, file_given, file_added, files_added, opened_over, opening_stored, Beginning, Fresh, Stored, opening_from}
use Rattle.cloak_model.specs.Cloaking.{CloakedMemory}
use Rattle.cloak_model.specs.DomainState as model
use Rattle.cloak_model.specs.Parts.{Joint as Machine}
use Rattle.cloak_model.specs.Resources.{Resources}
use Rattle.cloak_model.specs.StoredFiles.{FileContents}
use Rattle.cloak_model.specs.Exchange.{Piece, Emits, item_pieces}
use Rattle.cloak_model.specs.Opening.{is_placed, numbers_below, opening_items, RunEdge, Lack, NoPageDraw, drawn_keys, key_count, keys_for, opened_by, opened_with, started_joint, started_memory, place_programs}
use Rattle.cloak_pager.specs.State.{PagerState, bytes_in, page_of, right_at, held_in}
use Rattle.cloak_pager.specs.Relation.{StandsForMemory, FrameStands}
use Rattle.cloak_pager.specs.declared.frame_right.FrameRight.{FrameRight}
use Rattle.cloak_pager.specs.declared.frame_right.FrameRight.TheVariants.{Outside, Clean, Changed, Spent}
use Rattle.cloaked_side.specs.Holding.{Holds, frames_of}
use Rattle.cloaked_side.specs.declared.memory.Memory.{Memory}
use Rattle.joint_machine.proofs.Continued.{contents_continue}
use Rattle.joint_machine.specs.Placings.{covers, placing}
use Rattle.joint_machine.specs.Starting.{IsReadOnly, frame_item, placed_among}
use Rattle.joint_machine.specs.declared.placings.Placing.{Placing}

-- One frame.

-- Frames one after another.

-- Reads.

pub read_outside : (a b : Memory) → IsReadOnly a b → (k : ℕ) → held_in b.pager k ≡ held_in a.pager k
read_outside a b read k = ap (λ (hs : List FrameRight). page_of (slice_index_or hs k Spent)) read.rights

-- The frames that are shown are those of RAM.

-- a frame that holds nothing is as the kernel sees it
outside_shows : (p : PagerState) (w : PageId → Bool) (m : CloakedMemory) (f : ℕ) (h : FrameRight) → page_of h ≡ None →
    FrameStands p w m f h → bytes_in p f ≡ slice_index_or m.ram f []
outside_shows p w m f (Outside r) none stands = stands
outside_shows p w m f (Clean r) none stands = absurd (cc)
outside_shows p w m f (Changed r) none stands = absurd (cc)
outside_shows p w m f Spent none stands = absurd stands

pub frames_shown : (p : PagerState) (w : PageId → Bool) (m : CloakedMemory) → StandsForMemory p w m →
    ((k : ℕ) → held_in p k ≡ None) → p.frames ≡ m.ram
frames_shown p w m s none =
    ext_get_or [] p.frames m.ram (sym s.count)
    (λ f inside. outside_shows p w m f (right_at p f) (none f) (s.frames f inside))

-- What a run's opening shows.

-- the items of an opening are those of its memory
abbrev pub ShowsMemory : Bundle → Result RunEdge Lack → Type 0
ShowsMemory b (Ok o) = o.items ≡ opening_items b.programs o.joint.memory.ram
ShowsMemory b (Err lack) = Unit {0}

shows_with : (b : Bundle) (m : Option CloakedMemory) → ShowsMemory b (opened_with b m)
unfolding opened_with started_joint
shows_with b None = tt
shows_with b (Some m) = refl

shows_by : (b : Bundle) (draw : Option (List (List ℕ) × Random)) → ShowsMemory b (opened_by b draw)
unfolding opened_by
shows_by b None = tt
shows_by b (Some draw) =
    shows_with b (place_programs 0 b.programs (started_memory b.kernel (keys_for b.programs draw.0) draw.1))

-- the files that are added leave RAM as it was
abbrev SameRam : Machine → Result Machine Lack → Type 0
SameRam j (Ok after) = after.memory.ram ≡ j.memory.ram
SameRam j (Err lack) = Unit {0}

ram_then : (j k : Machine) (r : Result Machine Lack) → k.memory.ram ≡ j.memory.ram → SameRam k r → SameRam j r
ram_then j k (Ok after) first second = second ∙ first
ram_then j k (Err lack) first second = tt

ram_next : (j : Machine) (next : Machine → Result Machine Lack) (r : Result Machine Lack) → SameRam j r →
    ((k : Machine) → SameRam k (next k)) → SameRam j (and_then next r)
ram_next j next (Ok k) first more = ram_then j k (next k) first (more k)
ram_next j next (Err lack) first more = tt

ram_given : (f : FileContents) (domain : model.Domain) (j : Machine) (answer : Result ℕ MapFault) (resources : Resources) →
    SameRam j (file_given f domain j answer resources)
unfolding file_given
ram_given f domain j (Err fault) resources = tt
ram_given f domain j (Ok n) resources =
    ap (λ (m : CloakedMemory). m.ram) (contents_continue f.domain n 0 f.pages j.memory).is

ram_added : (f : FileContents) (j : Machine) (found : Option model.Domain) → SameRam j (file_added f j found)
unfolding file_added
ram_added f j None = tt
ram_added f j (Some domain) = ram_given f domain j _ _

ram_files : (files : List FileContents) (j : Machine) → SameRam j (files_added files j)
unfolding files_added
ram_files [] j = refl
ram_files (f ∷ files) j =
    ram_next j (files_added files) _ (ram_added f j (slice_get j.domains f.domain)) (λ k. ram_files files k)

shows_files : (b : Bundle) (m : CloakedMemory) (r : Result Machine Lack) → SameRam (started_joint b m) r →
    ShowsMemory b (and_then (λ (j : Machine). Ok (record { joint = j; items = opening_items b.programs m.ram })) r)
unfolding started_joint
shows_files b m (Ok j) same = ap (opening_items b.programs) (sym same)
shows_files b m (Err lack) same = tt

nothing_shown : (b : Bundle) (r : Result Machine Lack) →
    ShowsMemory b (and_then (λ (j : Machine). let none : Result RunEdge Lack = Err NoPageDraw in none) r)
nothing_shown b (Ok j) = tt
nothing_shown b (Err lack) = tt

shows_over : (b : Bundle) (files : List FileContents) (bare : Machine) (o : Option CloakedMemory) →
    ShowsMemory b (opened_over b files bare o)
unfolding opened_over
shows_over b files bare None = nothing_shown b (files_added files bare)
shows_over b files bare (Some m) = shows_files b m _ (ram_files files (started_joint b m))

shows_from : (b : Bundle) (from : Beginning) → ShowsMemory b (opening_from b from)
unfolding opening_stored
shows_from b (Fresh stream) = shows_by b (drawn_keys (key_count b.programs) stream)
shows_from b (Stored keys stream files) = shows_over b files _ _

pub opening_shows : (b : Bundle) (from : Beginning) (o : RunEdge) → opening_from b from ≡ Ok o →
    o.items ≡ opening_items b.programs o.joint.memory.ram
opening_shows b from o opens = subst (λ (r : Result RunEdge Lack). ShowsMemory b r) opens (shows_from b from)

-- of programs that are placed so
covers_placed : (programs : List Program) (f : ℕ) → covers (map placing programs) f ≡ is_placed programs f
covers_placed [] f = refl
covers_placed (p ∷ programs) f =
    ap (λ (b : Bool). if nat_le p.place f && nat_lt f (p.place + p.start.pages) then true else b)
    (covers_placed programs f)

placed_shown : (programs : List Program) (ram : List (List ℕ)) →
    placed_among (map placing programs) ram (numbers_below (length ram)) ≡ opening_items programs ram
placed_shown programs ram =
    ap (λ (p : ℕ → Bool). map (frame_item ram) (filter p (numbers_below (length ram))))
    (λ i f. covers_placed programs f i)

-- the frames of a memory in which nothing is held are those that its opening shows
pub opening_emits : {E : Type 0} (gave : E → E → List Piece → Type 0) (e e' : E) (memory : Memory)
    (placings : List Placing) (b : Bundle) (from : Beginning) (o : RunEdge) → opening_from b from ≡ Ok o → placings ≡ map placing b.programs →
    Holds memory o.joint.memory → ((k : ℕ) → held_in memory.pager k ≡ None) →
    Emits gave e e' (item_pieces (placed_among placings memory.pager.frames (numbers_below (frames_of memory)))) →
    Emits gave e e' (item_pieces o.items)
opening_emits {E} gave e e' memory placings b from o opens same holds none emits =
    let shown = frames_shown memory.pager holds.wiped o.joint.memory holds.pager none in
    let is : placed_among placings memory.pager.frames (numbers_below (frames_of memory)) ≡ o.items =
    ap (λ (ps : List Placing). placed_among ps memory.pager.frames (numbers_below (frames_of memory))) same
    ∙ (ap (λ (ram : List (List ℕ)). placed_among (map placing b.programs) ram (numbers_below (length ram))) shown
    ∙ (placed_shown b.programs o.joint.memory.ram ∙ sym (opening_shows b from o opens))) in
    subst (λ (items : List Item). Emits gave e e' (item_pieces items)) is emits
