-- Labels one after the other, as a loop finds them.
use Rattle.std.proofs.Common.{◌≡◌, ℕ, ◌+◌, ◌<◌, Bool, true, false, cond, List, [], ◌∷◌, ◌++◌, length, Option, Some, None, is_some, refl, sym, ◌∙◌, arith}
use Rattle.std.specs.Str.{bytes_eq}
use Rattle.std.proofs.lemmas.Slice.Eq.{bytes_eq-Decides}
use Rattle.rv_asm.specs.declared.labels.Mark.{Mark}
use Rattle.rv_asm.specs.Operations.{or_else}
use Rattle.rv_asm.specs.Statements.{statement}
use Rattle.rv_asm.specs.Assembly.{lines_of, size, mark, labels_of, find_in}
use Rattle.rv_asm.proofs.Lines.{first, others, next_line}

pub or_else_none : {A : Type 0} (o : Option A) → or_else o None ≡ o
or_else_none None = refl
or_else_none (Some x) = refl

pub or_else_assoc : {A : Type 0} (a b c : Option A) → or_else (or_else a b) c ≡ or_else a (or_else b c)
or_else_assoc None b c = refl
or_else_assoc (Some x) b c = refl

after_cond : (v : Bool) (m : Mark) (a b : Option Mark) → cond v (Some m) (or_else a b) ≡ or_else (cond v (Some m) a) b
after_cond true m a b = refl
after_cond false m a b = refl

find_after : (a b : List (List ℕ × Mark)) (q : List ℕ) → find_in (a ++ b) q ≡ or_else (find_in a q) (find_in b q)
find_after [] b q = refl
find_after (e ∷ a) b q = rw (find_after a b q) (after_cond (bytes_eq q e.0) e.1 (find_in a q) (find_in b q))

pub next_labels : (q : List ℕ) (old new : Option Mark) (line place n : ℕ) (text : List ℕ) (total : Option Mark) → 0 < length text
    → n ≡ size (statement (first text)) → new ≡ or_else old (find_in (mark (line + 1) place (statement (first text))) q)
    → or_else old (find_in (labels_of line place (lines_of text)) q) ≡ total
    → or_else new (find_in (labels_of (line + 1) (place + n) (lines_of (others text))) q) ≡ total
next_labels q old new line place n text total pos words marked so_far =
    let here = mark (line + 1) place (statement (first text)) in
    let rest = labels_of (line + 1) (place + size (statement (first text))) (lines_of (others text)) in
    let one : or_else old (find_in (labels_of line place (lines_of text)) q) ≡ or_else (or_else old (find_in here q)) (find_in rest q) =
    rw (next_line text pos, find_after here rest q) (sym (or_else_assoc old (find_in here q) (find_in rest q))) in
    rw (words, marked) (sym one ∙ so_far)

pub done : (q : List ℕ) (found total : Option Mark) (line place : ℕ) (text : List ℕ) → length text ≡ 0
    → or_else found (find_in (labels_of line place (lines_of text)) q) ≡ total → found ≡ total
done q found total line place [] h so_far = sym (or_else_none found) ∙ so_far
done q found total line place (b ∷ bs) h so_far = absurd (omega arith)

-- ---- a map

by_test : (name q : List ℕ) (old new : List ℕ → Option Mark) (m : Mark) (v w : Bool) → bytes_eq name q ≡ v → bytes_eq q name ≡ w → old name ≡ None
    → new q ≡ cond v (Some m) (old q) → new q ≡ or_else (old q) (cond w (Some m) None)
by_test name q old new m true true h g none e =
    let same : name ≡ q = (bytes_eq-Decides name q).0 h in
    let absent : old q ≡ None = rw (← same) none in
    rw (e, absent) refl
by_test name q old new m true false h g none e =
    let same : name ≡ q = (bytes_eq-Decides name q).0 h in
    let back : bytes_eq q name ≡ true = (bytes_eq-Decides q name).1 (sym same) in
    absurd cc
by_test name q old new m false true h g none e =
    let same : q ≡ name = (bytes_eq-Decides q name).0 g in
    let back : bytes_eq name q ≡ true = (bytes_eq-Decides name q).1 (sym same) in
    absurd cc
by_test name q old new m false false h g none e = e ∙ sym (or_else_none (old q))

-- a new name
pub added : (name q : List ℕ) (old new : List ℕ → Option Mark) (m : Mark) → old name ≡ None → new q ≡ cond (bytes_eq name q) (Some m) (old q)
    → new q ≡ or_else (old q) (cond (bytes_eq q name) (Some m) None)
added name q old new m none e = by_test name q old new m (bytes_eq name q) (bytes_eq q name) refl refl none e

pub no_mark : (o : Option Mark) → is_some o ≡ false → o ≡ None
no_mark None h = refl
no_mark (Some m) h = absurd cc
