-- What a hypercall does to the pages of its program: a fork copies resources, and the end of a space drops them.
use Rattle.std.proofs.Common.{◌≡◌, ◌≢◌, ◌∙◌, ℕ, true, List, [], ◌∷◌, ◌++◌, length, map, Option, Some, None, Result, Ok, Err, refl, sym, ap, subst, append-nil}
use Rattle.std.specs.Prelude.{position}
use Rattle.cloak_base.specs.Registers.{register}
use Rattle.std.proofs.lemmas.Bool.{and_parts, not-true, ltb-false}
use Rattle.cloak_base.specs.declared.names.PageId.{PageId}
use Rattle.cloak_model.specs.declared.answer.Answer.{Answer}
use Rattle.cloak_model.specs.declared.answer.Answer.TheVariants as told
use Rattle.cloak_model.specs.Items.{Item}
use Rattle.cloak_model.specs.Items as item
use Rattle.cloak_model.specs.declared.resource.Owner.TheVariants.{Space, File}
use Rattle.cloak_model.specs.declared.resource.MapFault.{MapFault}
use Rattle.cloak_model.specs.Asking.{Told, answered, then_ask}
use Rattle.cloak_model.specs.AskPages.{answer_item, ask_copy, ask_forget}
use Rattle.cloak_model.specs.Contexts.{Context}
use Rattle.cloak_model.specs.DomainState.{Control, Domain}
use Rattle.cloak_model.specs.DomainStep.{DomainStepped, within}
use Rattle.cloak_model.specs.Fork.{copies, marked, private_numbers, free_numbers, has_room, copy_each, forked, forget_each}
use Rattle.cloak_model.specs.Halves.{inward_half}
use Rattle.cloak_model.specs.Files.{holds_file, file_found, file_resource}
use Rattle.cloak_model.specs.Hypercalls as hyper
use Rattle.cloak_model.specs.Hypercalls.{Stepped, new_call, file_call, Hypercall, New, ForkSpace, Exit, hypercall}
use Rattle.cloak_model.specs.PageMoves.{copy_pages, drop_pages}
use Rattle.cloak_model.specs.Resources.{Resources, new_resource}
use Rattle.cloak_model.specs.World.{World, Flat, Cloaked, Alone, plain_of, items_of}
use Rattle.hypercall_kinds.specs.Kinds.{cleared, CallKind, MakesNew, MakesFile, Maps, Unmaps, Stops, Forks, EndsSpace, after}
use Rattle.hypercall_kinds.proofs.ByKinds.{by_kinds}
use Rattle.cloak_model.specs.Script.{Clear}
use Rattle.cloak_model.specs.Script.{played}
use Rattle.domain_isolation.proofs.Steady.{is_cloaked}
use Rattle.latest_store.specs.Moves.{Move, Copies, Drops}
use Rattle.latest_store.specs.Deeds.{made_moves, file_moves, hypercall_moves}
use Rattle.latest_store.proofs.Moved.{moved_by, given_by}
use Rattle.latest_store.proofs.Numbers.{follows_same, new_follows, found_follows, map_follows, unmap_follows, Enough}
use Rattle.latest_store.proofs.Fits.{Fits, fits_none, fits_make, fits_fork, fits_drop}
use Rattle.latest_store.proofs.Heard.{Heard, heard_asked, Did, untouched, quiet, if_fetched, if_granted}

-- pages are rewritten by these moves, and nothing else
pub record HasMoved (w v : World) (moves : List Move) : Type 0 where
  pub form : is_cloaked v ≡ true
  pub items : items_of v ≡ items_of w
  pub pages : plain_of v ≡ moved_by moves (plain_of w)

abbrev copy_moves : ℕ → List (ℕ × ℕ) → List Move
copy_moves n list = map (λ (copy : ℕ × ℕ). Copies n copy.0 copy.1) list

abbrev pub drop_moves : ℕ → List ℕ → List Move
drop_moves n list = map (λ (resource : ℕ). Drops n resource) list

copies_made : (n : ℕ) (list : List (ℕ × ℕ)) (w : World) → is_cloaked w ≡ true →
    HasMoved w (played (copy_each n list) w).world (copy_moves n list)
unfolding copy_each ask_copy copy_pages
copies_made n [] w form = record { form = form; items = refl; pages = refl }
copies_made n (copy ∷ list) (Flat seen) form = absurd cc
copies_made n (copy ∷ list) (Cloaked c) form =
    let rest = copies_made n list (ask_copy n copy.0 copy.1 (Cloaked c)).world refl in
    record { form = rest.form; items = rest.items; pages = rest.pages }
copies_made n (copy ∷ list) (Alone h) form = absurd cc

pub drops_made : (n : ℕ) (list : List ℕ) (w : World) → is_cloaked w ≡ true →
    HasMoved w (played (forget_each n list) w).world (drop_moves n list)
unfolding forget_each ask_forget drop_pages
drops_made n [] w form = record { form = form; items = refl; pages = refl }
drops_made n (resource ∷ list) (Flat seen) form = absurd cc
drops_made n (resource ∷ list) (Cloaked c) form =
    let rest = drops_made n list (ask_forget n resource (Cloaked c)).world refl in
    record { form = rest.form; items = rest.items; pages = rest.pages }
drops_made n (resource ∷ list) (Alone h) form = absurd cc

-- no load is among them

copies_give : (n : ℕ) (list : List (ℕ × ℕ)) (plain : PageId → List ℕ) → given_by (copy_moves n list) plain ≡ []
copies_give n [] plain = refl
copies_give n (copy ∷ list) plain = copies_give n list _

drops_give : (n : ℕ) (list : List ℕ) (plain : PageId → List ℕ) → given_by (drop_moves n list) plain ≡ []
drops_give n [] plain = refl
drops_give n (resource ∷ list) plain = drops_give n list _

-- both questions were granted, and the moves were made
made_so : (d : Domain) (plain : PageId → List ℕ) (deeds : List Item → List Move) (moves : List Move) (x : DomainStepped)
    (w v : World) → deeds (item.Ok d.control.number ∷ item.Ok d.control.number ∷ []) ≡ moves →
    Heard d.control.number plain (item.Ok d.control.number ∷ item.Ok d.control.number ∷ []) w → HasMoved w v moves →
    given_by moves plain ≡ [] → x.domain.loads ≡ d.loads →
    Fits d.control.number d.control.resources moves x.domain.control.resources →
    Did plain d (if_fetched deeds) (record { answer = x; world = v })
made_so d plain deeds moves x w v are heard makes none same fits = record {
  answers = item.Ok d.control.number ∷ item.Ok d.control.number ∷ [];
  form = makes.form;
  told = ap (inward_half d.control.number) makes.items ∙ heard.told;
  pages = makes.pages ∙ ap (moved_by moves) heard.pages ∙ ap (λ (ms : List Move). moved_by ms plain) (sym are);
  loads = same ∙ sym (append-nil d.loads)
      ∙ ap (λ (l : List (ℕ × ℕ)). d.loads ++ l) (sym (ap (λ (ms : List Move). given_by ms plain) are ∙ none));
  fits = subst (λ (ms : List Move).
      Fits d.control.number d.control.resources ms x.domain.control.resources) (sym are) fits;
}

-- a fork that fits has a number for each copy
enough_there : (space new : ℕ) (r : Resources) (contexts : List (Option Context)) → has_room space r contexts ≡ true →
    Enough space new r
enough_there space new r contexts room =
    let spaces = and_parts _ _ room in
    let numbers = and_parts _ _ spaces.1 in
    let enough = and_parts _ _ numbers.1 in
    ltb-false (length (free_numbers r)) (length (private_numbers space r)) (not-true _ enough.0)

-- What is made changes no page, and is no load.

made_still : (n : ℕ) (made : Result ℕ MapFault) (plain : PageId → List ℕ) → moved_by (made_moves n made) plain ≡ plain
made_still n (Ok resource) plain = refl
made_still n (Err fault) plain = refl

made_gives : (n : ℕ) (made : Result ℕ MapFault) (plain : PageId → List ℕ) → given_by (made_moves n made) plain ≡ []
made_gives n (Ok resource) plain = refl
made_gives n (Err fault) plain = refl

file_still : (d : Control) (c : Context) (place : Option ℕ) (plain : PageId → List ℕ) →
    moved_by (file_moves d c place) plain ≡ plain
file_still d c None plain = made_still d.number _ plain
file_still d c (Some n) plain = refl

file_gives : (d : Control) (c : Context) (place : Option ℕ) (plain : PageId → List ℕ) →
    given_by (file_moves d c place) plain ≡ []
file_gives d c None plain = made_gives d.number _ plain
file_gives d c (Some n) plain = refl

file_fits : (d : Control) (c : Context) (place : Option ℕ) →
    Fits d.number d.resources (file_moves d c place)
    (file_found (register c.regs 10) (register c.regs 11) place d.resources).resources
unfolding file_found
file_fits d c None =
    fits_make d.number d.resources _ _
    (new_follows (File (register c.regs 10)) (register c.regs 11) d.resources)
file_fits d c (Some n) =
    fits_none d.number d.resources [] _ refl
    (found_follows (register c.regs 10) (register c.regs 11) (Some n) d.resources)

-- By its kind, a hypercall that makes nothing does these moves: none after one answer, and after both questions were
-- granted those of a fork or an end.
record MovesSo (h : Hypercall) (d : Control) (c : Context) (moves : List Item → List Move) : Type 0 where
  once : moves (item.Ok d.number ∷ []) ≡ []
  stops : (a : Answer) → a ≢ told.Ok → moves (item.Ok d.number ∷ answer_item d.number a ∷ []) ≡ []
  forks : h ≡ ForkSpace →
      moves (item.Ok d.number ∷ item.Ok d.number ∷ []) ≡ copy_moves d.number (copies c.space d.resources)
  ends : h ≡ Exit →
      moves (item.Ok d.number ∷ item.Ok d.number ∷ []) ≡ drop_moves d.number (private_numbers c.space d.resources)

module _ (h : Hypercall) (slot : ℕ) (d : Domain) (plain : PageId → List ℕ) (c : Context) (w : World)
    (moves : List Item → List Move) (so : MovesSo h d.control c moves)
    (heard : Heard d.control.number plain (item.Ok d.control.number ∷ []) w) where
  -- after the second question
  heard_two : Heard d.control.number plain
      (item.Ok d.control.number ∷ answer_item d.control.number (cleared c d.control w).answer ∷ [])
      (cleared c d.control w).world
  heard_two =
      heard_asked d.control.number plain (item.Ok d.control.number ∷ [])
      (Clear d.control.number (marked c.space d.control.resources)) w heard

  heard_granted : (cleared c d.control w).answer ≡ told.Ok →
      Heard d.control.number plain (item.Ok d.control.number ∷ item.Ok d.control.number ∷ [])
      (cleared c d.control w).world
  heard_granted ok =
      subst (λ (a : Answer).
      Heard d.control.number plain (item.Ok d.control.number ∷ answer_item d.control.number a ∷ [])
      (cleared c d.control w).world) ok heard_two

  abbrev KindDid : Told Stepped → Type 0
  KindDid t = Did plain d (if_fetched moves) (record { answer = within d t.answer; world = t.world })

  kind_did : (k : CallKind h slot c d.control w) → KindDid (after h slot c d.control w k)
  unfolding file_resource forked
  kind_did (MakesNew pages) =
      quiet _ _ _ _ _ w heard so.once refl (new_follows (Space c.space) pages d.control.resources)
  kind_did (MakesFile pages) =
      quiet _ _ _ _ _ w heard so.once refl (found_follows (register c.regs 10) pages _ d.control.resources)
  kind_did (Maps g) = quiet _ _ _ _ _ w heard so.once refl (map_follows c.space g d.control.resources)
  kind_did (Unmaps start) = quiet _ _ _ _ _ w heard so.once refl (unmap_follows c.space start d.control.resources)
  kind_did (Stops other) = quiet _ _ _ _ _ _ heard_two (so.stops _ other) refl (follows_same _)
  kind_did (Forks free new is room slots spaces ok) =
      let n = d.control.number in
      let list = copies c.space d.control.resources in
      let two = heard_granted ok in
      made_so d plain moves (copy_moves n list) _ _ _ (so.forks is) two (copies_made n list _ two.form)
      (copies_give n list plain) refl
      (fits_fork n c.space new d.control.resources
      (enough_there c.space new d.control.resources d.control.contexts room))
  kind_did (EndsSpace is none ok) =
      let n = d.control.number in
      let list = private_numbers c.space d.control.resources in
      let two = heard_granted ok in
      made_so d plain moves (drop_moves n list) _ _ _ (so.ends is) two (drops_made n list _ two.form)
      (drops_give n list plain) refl (fits_drop n c.space d.control.resources)
  kind_did _ = quiet _ _ _ _ _ w heard so.once refl (follows_same _)

  by_did : KindDid (played (hypercall h slot c d.control) w)
  by_did = by_kinds KindDid h slot c d.control w kind_did

not_granted : (n : ℕ) (moves : List Move) (a : Answer) → a ≢ told.Ok →
    if_granted moves (item.Ok n ∷ answer_item n a ∷ []) ≡ []
not_granted n moves told.Ok other = absurd (other refl)
not_granted n moves _ other = refl

-- Every hypercall.

pub hypercall_did : (h : Hypercall) (slot : ℕ) (d : Domain) (plain : PageId → List ℕ) (c : Context) (w : World) →
    Heard d.control.number plain (item.Ok d.control.number ∷ []) w →
    Did plain d (if_fetched (hypercall_moves h d.control c))
    (then_ask (played (hypercall h slot c d.control)) (λ step. answered (within d step)) w)
unfolding hypercall hypercall_moves new_call file_call file_resource
hypercall_did New slot d plain c w heard =
    let r = d.control.resources in
    let made = (new_resource (Space c.space) (register c.regs 10) r).answer in
    untouched _ _ _ _ _ w heard (made_still d.control.number made plain) (made_gives d.control.number made plain) refl
    (fits_make d.control.number r made _ (new_follows (Space c.space) (register c.regs 10) r))
hypercall_did hyper.File slot d plain c w heard =
    let place = position (holds_file (register c.regs 10)) d.control.resources.held in
    untouched _ _ _ _ _ w heard (file_still d.control c place plain) (file_gives d.control c place plain) refl
    (file_fits d.control c place)
hypercall_did ForkSpace slot d plain c w heard =
    by_did ForkSpace slot d plain c w (hypercall_moves ForkSpace d.control c) (record {
      once = refl;
      stops = not_granted d.control.number (copy_moves d.control.number (copies c.space d.control.resources));
      forks = λ is. refl;
      ends = λ is. absurd cc;
    }) heard
hypercall_did Exit slot d plain c w heard =
    by_did Exit slot d plain c w (hypercall_moves Exit d.control c) (record {
      once = refl;
      stops = not_granted d.control.number
          (drop_moves d.control.number (private_numbers c.space d.control.resources));
      forks = λ is. absurd cc;
      ends = λ is. refl;
    }) heard
hypercall_did h slot d plain c w heard =
    by_did h slot d plain c w (hypercall_moves h d.control c) (record {
      once = refl;
      stops = λ a other. refl;
      forks = λ is. absurd cc;
      ends = λ is. absurd cc;
    }) heard
