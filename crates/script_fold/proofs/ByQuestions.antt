-- What each change of a world keeps, each question and each change of a script keeps.
use Rattle.std.proofs.Common.{◌≡◌, ℕ}
use Rattle.cloak_base.specs.declared.names.PageId.{PageId}
use Rattle.cloak_model.specs.World.{World}
use Rattle.cloak_model.specs.AskPages.{ask_read, ask_write, ask_put, ask_copy, ask_forget}
use Rattle.script_fold.proofs.Aligned.{IsAligned}
use Rattle.cloak_model.specs.Script.{Question, Reach, Get, Put, Clear, Change, Write, Copy, Forget, asked, changed}
use Rattle.script_fold.proofs.Scripts.{IsOf}
use Rattle.script_fold.proofs.Folding.{Keeps}
use Rattle.script_fold.proofs.Questions.{Kept, Replies, Offers, replies_of, offers_of, keeps_reached_page, keeps_get, keeps_clear, keeps_put, keeps_write}

-- What is kept of what a step of domain d asks: answers, offers of its own pages, stores elsewhere, and changes.
pub record StepKept (d : ℕ) (R : World → World → Type 0) : Type 0 where
  pub replies : Replies R
  pub offers : (q : PageId) → q.domain ≡ d → (va : ℕ) → Offers R q va
  pub puts : (va width value : ℕ) → IsAligned va width → (w : World) → R w (ask_put va width value w).world
  pub writes : (q : PageId) (at width value : ℕ) (w : World) → R w (ask_write q at width value w).world
  pub copies : (d from to : ℕ) (w : World) → R w (ask_copy d from to w).world
  pub forgets : (d resource : ℕ) (w : World) → R w (ask_forget d resource w).world

keeps_asked : {d : ℕ} (R : World → World → Type 0) (k : StepKept d R) (question : Question) → IsOf d question →
    (w : World) → R w (asked question w).world
keeps_asked R k (Reach q va kind) own w = keeps_reached_page R k.replies q va (k.offers q own va) kind w
keeps_asked R k (Get va width) own w = keeps_get R k.replies va width w
keeps_asked R k (Put va width value) own w = k.puts va width value own w
keeps_asked R k (Clear domain marked) own w = keeps_clear R k.replies domain marked w

keeps_changed : {d : ℕ} (R : World → World → Type 0) (k : StepKept d R) (change : Change) (w : World) →
    R w (changed change w).world
keeps_changed R k (Write q at width value) w = k.writes q at width value w
keeps_changed R k (Copy domain from to) w = k.copies domain from to w
keeps_changed R k (Forget domain resource) w = k.forgets domain resource w

same_read : (R : World → World → Type 0) → ((w : World) → R w w) → (q : PageId) (at width : ℕ) (w : World) →
    R w (ask_read q at width w).world
unfolding ask_read
same_read R same q at width w = same w

pub keeps_by : (d : ℕ) (R : World → World → Type 0) → StepKept d R → Keeps d R
keeps_by d R k = record {
  same = k.replies.opens.settles.same;
  chained = k.replies.opens.settles.chained;
  ask = λ question own w. keeps_asked R k question own w;
  read = λ q at width w. same_read R k.replies.opens.settles.same q at width w;
  change = λ change own w. keeps_changed R k change w;
}

pub kept_by : (R : World → World → Type 0) (k : Kept R) → ((d from to : ℕ) (w : World) → R w (ask_copy d from to w).world) →
    ((d resource : ℕ) (w : World) → R w (ask_forget d resource w).world) → (d : ℕ) → Keeps d R
kept_by R k copies forgets d = keeps_by d R (record {
  replies = replies_of R k;
  offers = λ q own va. offers_of R k q va;
  puts = λ va width value at w. keeps_put R k va width value w;
  writes = λ q at width value w. keeps_write R k q at width value w;
  copies = copies;
  forgets = forgets;
})
