-- The lines of programs in their order.
use Rattle.std.proofs.Common.{◌≡◌, ◌∙◌, ℕ, List, [], ◌∷◌, ◌++◌, length, All, refl, sym, ap, subst}
use Rattle.std.proofs.Common.{◌+◌, ◌<◌, arith, length-append, get_or, map, take}
use Rattle.std.proofs.lemmas.List.{get_or_append_left, take_more, map-append}
use Rattle.std.proofs.Math.Seq.{get_or-append_seam}
use Rattle.std.specs.List.{concat}
use Rattle.cloak_model.specs.DomainState as model
use Rattle.hypercalls.specs.declared.domain.Domain.{Domain}
use Rattle.hypercalls.specs.Standing.{StandsFor}
use Rattle.joint_machine.specs.Standing.{AreDomains}
use Rattle.kernel_report.proofs.Joined.{concat-last}
use Rattle.cloak_machine.specs.declared.domains.DomainLine.{DomainLine}
use Rattle.cloak_machine.specs.Lines.{line_text}

-- programs, and the last of them
pub record EndsIn (xs : List Domain) (x : Domain) (ds : List model.Domain) : Type 0 where
  pub front : List model.Domain
  pub last : model.Domain
  pub is : ds ≡ front ++ last ∷ []
  pub are : AreDomains xs front
  pub stands : StandsFor x last

pub ends_in : (xs : List Domain) (x : Domain) (ds : List model.Domain) → AreDomains (xs ++ x ∷ []) ds → EndsIn xs x ds
ends_in [] x [] are = absurd are
ends_in [] x (d ∷ []) are = record { front = []; last = d; is = refl; are = tt; stands = are.0 }
ends_in [] x (d ∷ e ∷ ds) are = absurd are.1
ends_in (y ∷ xs) x [] are = absurd are
ends_in (y ∷ xs) x (d ∷ ds) are =
    let rest = ends_in xs x ds are.1 in record {
      front = d ∷ rest.front;
      last = rest.last;
      is = ap (λ (l : List model.Domain). d ∷ l) rest.is;
      are = (are.0, rest.are);
      stands = rest.stands;
    }

-- one line more
pub lines-take_more : (lines : List DomainLine) (i : ℕ) (d : DomainLine) {text : List ℕ} →
    text ≡ line_text (get_or lines i d) → i < length lines →
    concat (map line_text (take i lines)) ++ text ≡ concat (map line_text (take (i + 1) lines))
lines-take_more lines i d {text} is low =
    ap (λ (l : List ℕ). concat (map line_text (take i lines)) ++ l) is
    ∙ sym (ap (λ (l : List DomainLine). concat (map line_text l)) (take_more lines i d low)
    ∙ ap concat (map-append line_text (take i lines) (get_or lines i d ∷ []))
    ∙ concat-last (map line_text (take i lines)) (line_text (get_or lines i d)))

-- what holds of all holds of the last, and of those before it

pub of_last : (P : model.Domain → Type 0) (front : List model.Domain) (last : model.Domain) →
    All P (front ++ last ∷ []) → P last
of_last P front last all =
    subst P (get_or-append_seam front last [] last)
    (all (length front) last (let long = length-append front (last ∷ []) in omega (arith, long)))

pub of_front : (P : model.Domain → Type 0) (front : List model.Domain) (last : model.Domain) →
    All P (front ++ last ∷ []) → All P front
of_front P front last all k d low =
    subst P (get_or_append_left front (last ∷ []) d k low)
    (all k d (let long = length-append front (last ∷ []) in omega (arith, long, low)))
