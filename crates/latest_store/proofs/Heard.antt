-- What a program was told so far in a step, and what a part of a step did to its pages.
use Rattle.std.proofs.Common.{◌≡◌, ◌∙◌, ℕ, Bool, true, cond, List, [], ◌∷◌, ◌++◌, Option, Some, None, refl, sym, ap, append-nil, eq-eqb}
use Rattle.std.specs.Prelude.{if◌then◌else◌}
use Rattle.cloak_base.specs.declared.names.PageId.{PageId}
use Rattle.cloak_model.specs.declared.answer.Answer.{Answer}
use Rattle.cloak_model.specs.declared.answer.Answer.TheVariants as told
use Rattle.cloak_model.specs.declared.context.PageWord.{PageWord}
use Rattle.cloak_model.specs.Items.{Item}
use Rattle.cloak_model.specs.Items as item
use Rattle.cloak_model.specs.Halves.{inward_half}
use Rattle.cloak_model.specs.World.{World, Cloaked, plain_of, regime_of, items_of, with_plain}
use Rattle.cloak_model.specs.Asking.{Told}
use Rattle.cloak_model.specs.AskPages.{answer_item}
use Rattle.cloak_model.specs.DomainState.{Domain}
use Rattle.cloak_model.specs.DomainStep.{DomainStepped, after_write}
use Rattle.cloak_model.specs.Script.{Question, asked}
use Rattle.domain_isolation.proofs.Steady.{is_cloaked}
use Rattle.domain_isolation.proofs.Answers.{question_answered}
use Rattle.latest_store.specs.Moves.{Move}
use Rattle.latest_store.specs.Deeds.{first_granted, both_granted}
use Rattle.latest_store.proofs.Moved.{moved_by, given_by}
use Rattle.latest_store.proofs.Numbers.{ResourcesFollow}
use Rattle.latest_store.proofs.Fits.{Fits, fits_none}

-- A world in a step of domain d, in which pages have these bytes, after these answers.
pub record Heard (d : ℕ) (plain : PageId → List ℕ) (answers : List Item) (w : World) : Type 0 where
  pub form : is_cloaked w ≡ true
  pub regime : (regime_of w).domain ≡ d
  pub pages : plain_of w ≡ plain
  pub told : inward_half d (items_of w) ≡ answers

-- an answer is told to its domain
own_item : (d : ℕ) (a : Answer) → inward_half d (answer_item d a ∷ []) ≡ answer_item d a ∷ []
own_item d told.Ok = ap (λ (b : Bool). cond b (item.Ok d ∷ []) []) (eq-eqb d d refl)
own_item d (told.Absent cause) = ap (λ (b : Bool). cond b (item.Absent d cause ∷ []) []) (eq-eqb d d refl)
own_item d (told.Word value) = ap (λ (b : Bool). cond b (item.Word d value ∷ []) []) (eq-eqb d d refl)
own_item d told.Stopped = ap (λ (b : Bool). cond b (item.Stopped d ∷ []) []) (eq-eqb d d refl)

-- one more question
pub heard_asked : (d : ℕ) (plain : PageId → List ℕ) (answers : List Item) (question : Question) (w : World) →
    Heard d plain answers w →
    Heard d plain (answers ++ answer_item d (asked question w).answer ∷ []) (asked question w).world
heard_asked d plain answers question w heard =
    let t = asked question w in
    let r = (question_answered d question w heard.form).replied in
    record {
      form = r.form ∙ heard.form;
      regime = ap (λ (regime : _). regime.domain) r.regime ∙ heard.regime;
      pages = r.plain ∙ heard.pages;
      told = r.items d
          ∙ ap (λ (l : List Item). l ++ inward_half d (answer_item (regime_of w).domain t.answer ∷ [])) heard.told
          ∙ ap (λ (n : ℕ). answers ++ inward_half d (answer_item n t.answer ∷ [])) heard.regime
          ∙ ap (λ (l : List Item). answers ++ l) (own_item d t.answer);
    }

-- A step of a program, whose pages were these, did these moves, by what it was told.
pub record Did (plain : PageId → List ℕ) (was : Domain) (moves : List Item → List Move)
    (t : Told DomainStepped) : Type 0 where
  pub answers : List Item
  pub form : is_cloaked t.world ≡ true
  pub told : inward_half was.control.number (items_of t.world) ≡ answers
  pub pages : plain_of t.world ≡ moved_by (moves answers) plain
  pub loads : t.answer.domain.loads ≡ was.loads ++ given_by (moves answers) plain
  pub fits : Fits was.control.number was.control.resources (moves answers) t.answer.domain.control.resources

-- it changed no page, and completed no load
pub untouched : (plain : PageId → List ℕ) (was : Domain) (moves : List Item → List Move) (answers : List Item)
    (x : DomainStepped) (w : World) → Heard was.control.number plain answers w →
    moved_by (moves answers) plain ≡ plain → given_by (moves answers) plain ≡ [] → x.domain.loads ≡ was.loads →
    Fits was.control.number was.control.resources (moves answers) x.domain.control.resources →
    Did plain was moves (record { answer = x; world = w })
untouched plain was moves answers x w heard still none same fits = record {
  answers = answers;
  form = heard.form;
  told = heard.told;
  pages = heard.pages ∙ sym still;
  loads = same ∙ sym (append-nil was.loads) ∙ ap (λ (l : List (ℕ × ℕ)). was.loads ++ l) (sym none);
  fits = fits;
}

-- it did nothing
pub quiet : (plain : PageId → List ℕ) (was : Domain) (moves : List Item → List Move) (answers : List Item)
    (x : DomainStepped) (w : World) → Heard was.control.number plain answers w → moves answers ≡ [] →
    x.domain.loads ≡ was.loads → ResourcesFollow was.control.resources x.domain.control.resources →
    Did plain was moves (record { answer = x; world = w })
quiet plain was moves answers x w heard none same follows =
    untouched plain was moves answers x w heard (ap (λ (ms : List Move). moved_by ms plain) none)
    (ap (λ (ms : List Move). given_by ms plain) none) same
    (fits_none was.control.number was.control.resources (moves answers) x.domain.control.resources none follows)

-- A word that was written in changes reservations alone.
pub written_did : (plain : PageId → List ℕ) (was : Domain) (moves : List Item → List Move) (wrote : Option PageWord)
    (t : Told DomainStepped) → Did plain was moves t →
    Did plain was moves (record { answer = after_write wrote t.answer; world = t.world })
written_did plain was moves None t did = record {
  answers = did.answers;
  form = did.form;
  told = did.told;
  pages = did.pages;
  loads = did.loads;
  fits = did.fits;
}
written_did plain was moves (Some place) t did = record {
  answers = did.answers;
  form = did.form;
  told = did.told;
  pages = did.pages;
  loads = did.loads;
  fits = did.fits;
}

-- moves that are made if the first question was granted
abbrev pub if_fetched : (List Item → List Move) → List Item → List Move
if_fetched moves answers = if first_granted answers then moves answers else []

-- moves that are made if both questions were granted
abbrev pub if_granted : List Move → List Item → List Move
if_granted moves answers = if both_granted answers then moves else []

-- other bytes in the pages
pub record Rewrites (w v : World) (plain : PageId → List ℕ) : Type 0 where
  pub form : is_cloaked v ≡ true
  pub regime : regime_of v ≡ regime_of w
  pub pages : plain_of v ≡ plain
  pub items : items_of v ≡ items_of w

pub with_plain_rewrites : (d : ℕ) (plain : PageId → List ℕ) (w : World) → is_cloaked w ≡ true →
    Rewrites w (with_plain d plain w) plain
with_plain_rewrites d plain (Cloaked c) form = record { form = refl; regime = refl; pages = refl; items = refl }
with_plain_rewrites d plain _ form = absurd cc

-- pages are rewritten, and no resource is made
pub rewritten : (plain : PageId → List ℕ) (was : Domain) (moves : List Item → List Move) (answers : List Item)
    (x : DomainStepped) (domain : ℕ) (new : (PageId → List ℕ) → PageId → List ℕ) (w : World) →
    Heard was.control.number plain answers w → new plain ≡ moved_by (moves answers) plain →
    x.domain.loads ≡ was.loads ++ given_by (moves answers) plain →
    Fits was.control.number was.control.resources (moves answers) x.domain.control.resources →
    Did plain was moves (record { answer = x; world = with_plain domain (new (plain_of w)) w })
rewritten plain was moves answers x domain new w heard same loads fits =
    let made = with_plain_rewrites domain (new (plain_of w)) w heard.form in
    record {
      answers = answers;
      form = made.form;
      told = ap (inward_half was.control.number) made.items ∙ heard.told;
      pages = made.pages ∙ ap new heard.pages ∙ same;
      loads = loads;
      fits = fits;
    }
