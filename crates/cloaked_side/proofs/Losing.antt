-- A table whose entries end: what was not known is not known.
use Rattle.std.proofs.Common.{◌≡◌, ◌/◌, ℕ, Bool, true, false, ◌||◌, not, cond, List, [], ◌∷◌, filter, refl, sym, ◌∙◌}
use Rattle.std.specs.List.{list_any}
use Rattle.std.proofs.lemmas.Bool.{false≢true, or_right}
use Rattle.cloak_base.specs.declared.names.Frame.{Frame}
use Rattle.cloak_base.specs.declared.names.Kind.{Kind}
use Rattle.cloak_model.specs.Asking.{Keeps}
use Rattle.cloak_model.specs.Exchange.{Piece}
use Rattle.shadow_fold.specs.Entries.{is_for, is_table, is_target}
use Rattle.shadow_fold.specs.Following.{killed_if}
use Rattle.shadow_fold.specs.Table.{Table, is_known, ending}
use Rattle.shadow_fold.specs.declared.entry.Entry.{Entry}
use Rattle.shadow_fold.specs.declared.entry.Regime.{Regime}
use Rattle.cloaked_side.specs.Leading.{WalkLeaves}
use Rattle.cloaked_side.specs.Seeing.{LosesOnly, StaysWalking}
use Rattle.cloaked_side.specs.declared.side.Side.{Side}
use Rattle.cloaked_side.proofs.Sided.{within_self, within_then}
use Rattle.cloak_base.proofs.Choices.{or_more}

kept_any : {A : Type 0} (p : A → Bool) (x : A) (xs : List A) (b : Bool) → list_any p (cond b (x ∷ xs) xs) ≡ true
    → (p x || list_any p xs) ≡ true
kept_any p x xs true some = some
kept_any p x xs false some = or_right (p x) (list_any p xs) some

-- what passes among those that are left passes among all
any_left : {A : Type 0} (p q : A → Bool) (xs : List A) → list_any p (filter q xs) ≡ true → list_any p xs ≡ true
any_left p q [] some = some
any_left p q (x ∷ xs) some =
    or_more (p x) (list_any p (filter q xs)) (list_any p xs) (any_left p q xs) (kept_any p x (filter q xs) (q x) some)

loses_ending : (ends : Entry → Bool) (t : Table) → LosesOnly t (ending ends t)
unfolding is_known ending
loses_ending ends t regime page kind known = any_left (is_for regime page kind) (λ e. not (ends e)) t.live known

pub loses_killed : (b : Bool) (f : Frame) (t : Table) → LosesOnly t (killed_if b f t)
loses_killed true f t regime page kind known =
    loses_ending (is_target f) t regime page kind (loses_ending (is_table f) (ending (is_target f) t) regime page kind known)
loses_killed false f t regime page kind known = known

pub unknown_still : (old new : Table) (regime : Regime) (page : ℕ) (kind : Kind) → LosesOnly old new
    → is_known regime page kind old ≡ false → is_known regime page kind new ≡ false
unknown_still old new regime page kind loses unknown = by (is_known regime page kind new) refl
  where
    by : (b : Bool) → is_known regime page kind new ≡ b → b ≡ false
    by true known = absurd (false≢true (sym unknown ∙ loses regime page kind known))
    by false known = refl

walking_of : {E : Type 0} (gave : E → E → List Piece → Type 0) (old new : Side E) → Keeps (StaysWalking gave) old new
    → StaysWalking gave old new
walking_of gave old new keeps = keeps old (record { within = within_self gave old; loses = λ regime page kind known. known })

pub walk_leaves : {E : Type 0} (gave : E → E → List Piece → Type 0) (old new : Side E) (regime : Regime) (va : ℕ)
    (kind : Kind) → Keeps (StaysWalking gave) old new → is_known regime (va / 4096) kind old.memory.now.shadows ≡ false
    → WalkLeaves gave old new regime va kind
walk_leaves gave old new regime va kind keeps unknown = let walking = walking_of gave old new keeps in record {
  keeps = λ first stays. within_then gave first old new stays walking.within;
  same_count = walking.within.stays.size.frames;
  unknown = unknown_still old.memory.now.shadows new.memory.now.shadows regime (va / 4096) kind walking.loses unknown;
}
