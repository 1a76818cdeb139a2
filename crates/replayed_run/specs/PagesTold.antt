-- Which page each frame holds, and what was last shown of each page, as far as the items of a record tell it.
use Rattle.std.specs.Prelude.{ℕ, zero, suc, ◌+◌, ◌*◌, ◌==◌, ◌&&◌, not, List, [], ◌∷◌, ◌++◌, length, map, replicate, slice_get, slice_index_or, slice_set, Option, Some, None, if◌then◌else◌}
use Rattle.std.specs.List.{fold}
use Rattle.sha2.specs.Sha256.{sha256}
use Rattle.cloak_base.specs.declared.names.PageId.{PageId}
use Rattle.cloak_model.specs.declared.image.Bundle.{Bundle}
use Rattle.cloak_model.specs.declared.image.Program.{Program}
use Rattle.cloak_model.specs.Items.{Item}
use Rattle.cloak_model.specs.Items as item
use Rattle.cloak_model.specs.Contexts.{domain_of}
use Rattle.cloak_model.specs.KernelAlone.{kernel_alone}
use Rattle.replayed_run.specs.Alone.{has_resource, standing_told}
use Rattle.replayed_run.specs.Leading.{presented_by}
use Rattle.replayed_run.specs.Noted.{is_wiped, noted_in}
use Rattle.replayed_run.specs.Questions.{questioned_in}
use Rattle.replayed_run.specs.declared.frames.PresentedPage.{PresentedPage}
use Rattle.replayed_run.specs.declared.machines.StandingContext.{StandingContext}
use Rattle.replayed_run.specs.declared.pages.Pages.{Pages}
use Rattle.replayed_run.specs.declared.pages.Showing.{Showing}

pub record PagesTold : Type 0 where
  -- the page that a frame holds: a program reached it there, and it was not shown since
  pub held : List (Option PageId)
  -- what was last shown of a page, if it is known
  pub last : List (Option Showing)

abbrev pub pages_of : Pages → PagesTold
pages_of p = record { held = p.held.items; last = p.last.items }

-- where a page stands among all: 4 programs, of each 16 resources, of each 1024 pages
abbrev pub place_of : PageId → ℕ
place_of q = (q.domain * 16 + q.resource) * 1024 + q.page

-- how many places there are
unfoldable pub places : ℕ
places = 65536

abbrev pub held_by : PagesTold → ℕ → Option PageId
held_by p frame = slice_index_or p.held frame None

abbrev pub last_shown : PagesTold → PageId → Option Showing
last_shown p q = slice_index_or p.last (place_of q) None

-- a program reached a page in a frame
abbrev pub reached : PageId → ℕ → PagesTold → PagesTold
reached q frame p = record p { held = slice_set p.held frame (Some q) }

-- As a run begins: the pages of the programs stand in their frames, and none was shown.

-- the first n pages of program d, from its frame on
abbrev pub pages_placed : ℕ → ℕ → ℕ → PagesTold → PagesTold
pages_placed d place zero p = p
pages_placed d place (suc n) p =
    reached (record { domain = d; resource = 0; page = n }) (place + n) (pages_placed d place n p)

abbrev pub program_placed : ℕ → Option Program → PagesTold → PagesTold
program_placed d None p = p
program_placed d (Some program) p = pages_placed d program.place program.start.pages p

-- the first n programs
abbrev pub programs_placed : List Program → ℕ → PagesTold → PagesTold
programs_placed programs zero p = p
programs_placed programs (suc n) p = program_placed n (slice_get programs n) (programs_placed programs n p)

abbrev pub no_pages : ℕ → PagesTold
no_pages frames = record { held = replicate frames None; last = replicate places None }

abbrev pub opened_pages : ℕ → List Program → PagesTold
opened_pages frames programs = programs_placed programs (length programs) (no_pages frames)

-- A frame is shown.

-- the bytes are of the page that the frame held
abbrev pub showing_of : ℕ → ℕ → List ℕ → Option PageId → Option Showing
showing_of frame step digest None = None
showing_of frame step digest (Some q) = Some (record { page = q; frame = frame; step = step; digest = digest })

-- what a frame shows of a page in a step
abbrev pub cipher_showing : PagesTold → ℕ → ℕ → List ℕ → Option Showing
cipher_showing p step frame bytes =
    if is_wiped bytes then None else showing_of frame step (sha256 bytes) (held_by p frame)

abbrev pub shown : Option Showing → PagesTold → PagesTold
shown None p = p
shown (Some s) p =
    record { held = slice_set p.held s.frame None; last = slice_set p.last (place_of s.page) (Some s) }

-- the page that a frame held is no more
abbrev pub page_gone : ℕ → Option PageId → PagesTold → PagesTold
page_gone frame None p = p
page_gone frame (Some q) p = record { held = slice_set p.held frame None; last = slice_set p.last (place_of q) None }

abbrev pub after_cipher : PagesTold → ℕ → ℕ → List ℕ → PagesTold
after_cipher p step frame bytes =
    if is_wiped bytes then page_gone frame (held_by p frame) p else shown (cipher_showing p step frame bytes) p

-- A question was granted, for which this page was presented.
abbrev pub after_grant : Option PresentedPage → PagesTold → PagesTold
after_grant None p = p
after_grant (Some found) p = reached found.page found.frame p

-- A context left and is not there any more. The resources are gone that ended with it, and the pages of each: what is shown
-- of a page of such a number from then on is of another resource.

abbrev pub forgotten : Bundle → List Item → ℕ → Option Showing → Option Showing
forgotten b items d None = None
forgotten b items d (Some s) =
    if (s.page.domain == d) && not (has_resource b items d s.page.resource) then None else Some s

abbrev pub ended_forgotten : Bundle → List Item → ℕ → PagesTold → PagesTold
ended_forgotten b items d p = record p { last = map (forgotten b items d) p.last }

abbrev pub after_leave : Bundle → List Item → ℕ → Option StandingContext → PagesTold → PagesTold
after_leave b items ctx (Some c) p = p
after_leave b items ctx None p = ended_forgotten b items (domain_of ctx) p

-- What an item does, with the items before it, and with it.
abbrev pub pages_after : Bundle → List Item → List Item → PagesTold → Item → PagesTold
pages_after b before now p (item.Cipher frame bytes) = after_cipher p (noted_in b before).notes.step frame bytes
pages_after b before now p (item.Ok d) =
    after_grant (presented_by (kernel_alone b.kernel now) (questioned_in b now).questions.last) p
pages_after b before now p (item.Leave left) =
    after_leave b now left.ctx (standing_told b now left.ctx) p
pages_after b before now p _ = p

-- The items so far, and the pages.
pub record Paged : Type 0 where
  pub items : List Item
  pub pages : PagesTold

unfoldable pub paged_more : Bundle → Paged → Item → Paged
paged_more b n i = record {
  items = n.items ++ i ∷ [];
  pages = pages_after b n.items (n.items ++ i ∷ []) n.pages i;
}

-- the pages after these items
abbrev pub paged_in : Bundle → List Item → Paged
paged_in b items =
    fold (paged_more b) (record { items = []; pages = opened_pages b.kernel.frames b.programs }) items

-- What an item shows of a page in a step.
abbrev pub showing_in : PagesTold → ℕ → Item → Option Showing
showing_in p step (item.Cipher frame bytes) = cipher_showing p step frame bytes
showing_in p step _ = None

-- after these items
abbrev pub showing_told : Bundle → List Item → Item → Option Showing
showing_told b items i = showing_in (paged_in b items).pages (noted_in b items).notes.step i
