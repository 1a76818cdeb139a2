-- There are as many places for reservations at every moment of a run.
use Rattle.std.proofs.Common.{◌≡◌, ◌∙◌, ℕ, List, length, Option, Some, None, IfSome, Ok, ap}
use Rattle.std.proofs.lemmas.List.{length-map, length-replicate, length-set}
use Rattle.cloak_base.specs.Pages.{zero_page}
use Rattle.cloak_base.specs.Random.{Random}
use Rattle.cloak_base.specs.declared.names.PageId.{PageId}
use Rattle.cloak_model.specs.declared.image.Bundle.{Bundle}
use Rattle.cloak_model.specs.Items.{Item}
use Rattle.cloak_model.specs.AskPages.{ask_copy, ask_forget}
use Rattle.cloak_model.specs.Beginning.{Beginning}
use Rattle.cloak_model.specs.Cloaking.{CloakedMemory, seen_in, ciphertext_of, settle_owed, settle}
use Rattle.cloak_model.specs.DomainStep.{domain_step}
use Rattle.cloak_model.specs.Ending.{ask_end, cloak_for}
use Rattle.cloak_model.specs.Events.{Event}
use Rattle.cloak_model.specs.Joint.{memory_of}
use Rattle.cloak_model.specs.KernelStep.{kernel_step}
use Rattle.cloak_model.specs.Ledger.{Keys, next_vector}
use Rattle.cloak_model.specs.Memory.{Seen, stored, filled, with_mark}
use Rattle.cloak_model.specs.Opening.{started_kernel, started_memory}
use Rattle.cloak_model.specs.PageMoves.{copy_pages, drop_pages, place_with}
use Rattle.cloak_model.specs.Run.{Run, run_from}
use Rattle.cloak_model.specs.World.{World, Flat, Cloaked, Alone, seen_of, marks_of, with_marks, noted, stored_at, filled_frame, settled, written, with_plain}
use Rattle.kernel_isolation.specs.Isolation.{joint_until}
use Rattle.kernel_isolation.proofs.FilesAdded.{given_keeps}
use Rattle.script_fold.proofs.Folding.{step_keeps}
use Rattle.script_fold.proofs.Questions.{Kept, settles_of, opens_of}
use Rattle.script_fold.proofs.ByQuestions.{kept_by}
use Rattle.script_fold.proofs.Endings.{keeps_end}
use Rattle.limit_law.proofs.Memories.{Moves, moved_at}
use Rattle.limit_law.proofs.Openings.{begins_in_memory}
use Rattle.script_fold.proofs.KernelWalks.{Reaches, kernel_keeps}
use Rattle.cloak_model.proofs.Offering.{SettlesKept, settle_keeps, OfferKeeps, offer_keeps}

abbrev HasMarks : ℕ → CloakedMemory → Type 0
HasMarks n m = length m.marks ≡ n

filled_count : (n f : ℕ) (bytes : List ℕ) (s : Seen) → length s.marks ≡ n → length (filled f bytes s).marks ≡ n
filled_count n f bytes s here = length-map s.marks _ ∙ here

stored_count : (n pa width value : ℕ) (s : Seen) → length s.marks ≡ n → length (stored pa width value s).marks ≡ n
stored_count n pa width value s here = length-map s.marks _ ∙ here

owed_count : (n f : ℕ) (q : PageId) (draw : Option (List ℕ × Random)) (m : CloakedMemory) → HasMarks n m →
    HasMarks n (settle_owed f q draw m).memory
unfolding settle_owed
owed_count n f q None m here = filled_count n f zero_page (seen_in m) here
owed_count n f q (Some draw) m here =
    filled_count n f (ciphertext_of m.ledger q draw.0 (m.plain q)) (seen_in m) here

settles_count : (n : ℕ) → SettlesKept (HasMarks n)
settles_count n f q m is here = owed_count n f q (next_vector m.ledger) m here

settle_count : (n f : ℕ) (m : CloakedMemory) → HasMarks n m → HasMarks n (settle f m).memory
settle_count n f m here = settle_keeps (HasMarks n) (settles_count n) f m here

offers_count : (n : ℕ) (q : PageId) → OfferKeeps q (HasMarks n) (HasMarks n)
offers_count n q = record {
  settles = settles_count n;
  compares = λ a b m here. here;
  takes = λ g m clean here. here;
  stays = λ m here. here;
}

-- What each question keeps, a step keeps.

abbrev MarksIn : ℕ → World → Type 0
MarksIn n w = length (marks_of w) ≡ n

record SameMarkCount (w v : World) : Type 0 where
  pub by : (n : ℕ) → MarksIn n w → MarksIn n v

same : (w : World) → SameMarkCount w w
same w = record { by = λ n here. here }

settled_world : (f : ℕ) (w : World) → SameMarkCount w (settled f w)
settled_world f (Flat seen) = same (Flat seen)
settled_world f (Cloaked c) = record { by = λ n here. settle_count n f c.memory here }
settled_world f (Alone h) = same (Alone h)

stored_world : (pa width value : ℕ) (w : World) → SameMarkCount w (stored_at pa width value w)
stored_world pa width value (Flat seen) = record { by = λ n here. stored_count n pa width value seen here }
stored_world pa width value (Cloaked c) =
    record { by = λ n here. stored_count n pa width value (seen_in c.memory) here }
stored_world pa width value (Alone h) = same (Alone h)

filled_world : (f : ℕ) (bytes : List ℕ) (w : World) → SameMarkCount w (filled_frame f bytes w)
filled_world f bytes (Flat seen) = record { by = λ n here. filled_count n f bytes seen here }
filled_world f bytes (Cloaked c) = record { by = λ n here. filled_count n f bytes (seen_in c.memory) here }
filled_world f bytes (Alone h) = same (Alone h)

marked_world : (hart : ℕ) (mark : Option ℕ) (w : World) → SameMarkCount w (with_marks (with_mark hart mark (marks_of w)) w)
marked_world hart mark (Flat seen) = record { by = λ n here. length-set seen.marks hart mark ∙ here }
marked_world hart mark (Cloaked c) = record { by = λ n here. length-set c.memory.marks hart mark ∙ here }
marked_world hart mark (Alone h) = same (Alone h)

noted_world : (events : List Event) (w : World) → SameMarkCount w (noted events w)
noted_world events (Flat seen) = same (Flat seen)
noted_world events (Cloaked c) = record { by = λ n here. here }
noted_world events (Alone h) = same (Alone h)

written_world : (i : Item) (w : World) → SameMarkCount w (written i w)
written_world i (Flat seen) = same (Flat seen)
written_world i (Cloaked c) = record { by = λ n here. here }
written_world i (Alone h) = same (Alone h)

plain_world : (domain : ℕ) (plain : PageId → List ℕ) (w : World) → SameMarkCount w (with_plain domain plain w)
plain_world domain plain (Flat seen) = same (Flat seen)
plain_world domain plain _ = record { by = λ n here. here }

copy_world : (d from to : ℕ) (w : World) → SameMarkCount w (ask_copy d from to w).world
unfolding ask_copy copy_pages
copy_world d from to (Flat seen) = same (Flat seen)
copy_world d from to _ = record { by = λ n here. here }

forget_world : (d n : ℕ) (w : World) → SameMarkCount w (ask_forget d n w).world
unfolding ask_forget drop_pages
forget_world d n (Flat seen) = same (Flat seen)
forget_world d n _ = record { by = λ k here. here }

changes : Kept SameMarkCount
changes = record {
  same = same;
  chained = λ u v w p q. record { by = λ n here. q.by n (p.by n here) };
  settled = settled_world;
  stored_at = stored_world;
  noted = noted_world;
  written = written_world;
  with_plain = plain_world;
  offered = λ q g write c. record { by = λ n here. offer_keeps (offers_count n q) g write c.memory here };
  mismatched = λ q g c. record { by = λ n here. here };
  told = λ h rest. record { by = λ n here. here };
  unfit = λ h. record { by = λ n here. here };
}

reaches : Reaches SameMarkCount
reaches = record { opens = opens_of SameMarkCount changes; stored_at = stored_world; marked = marked_world; filled = filled_world }

-- the memory that the joint machine takes from a world
memory_count : (n : ℕ) (w : World) (m : CloakedMemory) → MarksIn n w → HasMarks n m → HasMarks n (memory_of w m)
memory_count n (Alone h) m there here = here
memory_count n _ m there here = there

-- what the kernel sees in a world
seen_count : (n : ℕ) (w : World) → MarksIn n w → length (seen_of w).marks ≡ n
seen_count n (Flat seen) there = there
seen_count n _ there = there

moves_count : (n : ℕ) → Moves (HasMarks n) (HasMarks n)
moves_count n = record {
  settled = settle_count n;
  later = λ m here. here;
  stepped = λ slot was c places here m there.
      memory_count n (domain_step slot was (Cloaked c)).world m
      ((step_keeps SameMarkCount slot was (kept_by SameMarkCount changes copy_world forget_world was.control.number) (Cloaked c)).by n here)
      there;
  made = λ h disk m here.
      seen_count n (kernel_step h disk (Flat (seen_in m))).world
      ((kernel_keeps SameMarkCount reaches h disk (Flat (seen_in m))).by n here);
  unmarked = λ number m here. length-set m.marks number None ∙ here;
  rooted = λ root m here. here;
  ended = λ d m here.
      memory_count n (ask_end d (Cloaked (cloak_for m d))).world m
      ((keeps_end SameMarkCount (settles_of SameMarkCount changes) forget_world d (Cloaked (cloak_for m d))).by n here) here;
}

-- The run.

place_count : (n : ℕ) (q : PageId) (f : ℕ) (bytes : List ℕ) (draw : Option (List ℕ × Random)) (m : CloakedMemory) →
    HasMarks n m → IfSome (place_with q f bytes draw m) (HasMarks n)
unfolding place_with
place_count n q f bytes None m here = tt
place_count n q f bytes (Some draw) m here = filled_count n f (ciphertext_of m.ledger q draw.0 bytes) (seen_in m) here

started_count : (b : Bundle) (keys : Keys) (rest : Random) → HasMarks b.kernel.harts (started_memory b.kernel keys rest)
unfolding started_memory started_kernel
started_count b keys rest = length-replicate b.kernel.harts None

pub marks_are_counted : (b : Bundle) (from : Beginning) (budget : ℕ) (r : Run) → run_from b from budget ≡ Ok r →
    (n : ℕ) → length (joint_until n r).memory.marks ≡ b.kernel.harts
marks_are_counted b from budget r is n =
    let k = b.kernel.harts in
    (moved_at (HasMarks k) (moves_count k) b from budget r
    (begins_in_memory (HasMarks k) b from (place_count k) (started_count b)
    (λ f x y given here. ap length (given_keeps f x y given).memory.marks ∙ here)) is n).memory
