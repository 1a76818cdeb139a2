-- Items that are shown in lines one after another.
use Rattle.std.proofs.Common.{◌≡◌, ℕ, List, [], ◌∷◌, ◌++◌, Option, Some, None, IfSome, refl, sym, ap, ◌∙◌, inl}
use Rattle.std.proofs.lemmas.List.Sums.{fold-append}
use Rattle.cloak_model.specs.Items.{Item}
use Rattle.record_reader.specs.Ahead.{readable}
use Rattle.kernel_report.specs.Putting.{Putting, PutsMore}
use Rattle.kernel_report.proofs.PutFacts.{then, text_is}
use Rattle.read_back.specs.Reading.{BeginsWith}
use Rattle.record_text.specs.declared.lines.Line.{Line}
use Rattle.record_text.specs.declared.selection.Selection.{Selection}
use Rattle.record_text.specs.Lines.{Lined, line_end, line_more, lined, opening_line, with_more}
use Rattle.record_text.specs.Taking.{ShownLines}

-- with no item each file begins
pub begins_nothing : (told : Option (List ℕ)) → IfSome told (λ bytes. BeginsWith (readable bytes) [])
begins_nothing (Some bytes) = inl refl
begins_nothing None = tt

-- the opening
pub opens : (s : Selection) (old new : Putting) (line : Line) → PutsMore old new (opening_line s).text →
    line ≡ (opening_line s).line → ShownLines s old new line []
unfolding lined
opens s old new line text is = record { text = text; last = is }

-- one item more
lined-more : (s : Selection) (items : List Item) (i : Item) →
    lined s (items ++ i ∷ []) ≡ with_more s (lined s items) i
unfolding lined
lined-more s items i = fold-append (with_more s) (opening_line s) items (i ∷ [])

pub goes_on : (s : Selection) (old mid new : Putting) (line after : Line) (items : List Item) (i : Item) →
    ShownLines s old mid line items → PutsMore mid new (line_more s line i).text →
    after ≡ (line_more s line i).line → ShownLines s old new after (items ++ i ∷ [])
goes_on s old mid new line after items i so_far text is = record {
  text = text_is (then so_far.text text)
      (ap (λ (l : Line). (lined s items).text ++ (line_more s l i).text) so_far.last
      ∙ ap (λ (x : Lined). x.text) (sym (lined-more s items i)));
  last = is ∙ (ap (λ (l : Line). (line_more s l i).line) so_far.last
      ∙ ap (λ (x : Lined). x.line) (sym (lined-more s items i)));
}

-- the end of the last line
pub ends : {s : Selection} {old mid new : Putting} {line : Line} {items : List Item} → ShownLines s old mid line items →
    PutsMore mid new (line_end line) → PutsMore old new ((lined s items).text ++ line_end (lined s items).line)
ends {s} {old} {mid} {new} {line} {items} shown end =
    text_is (then shown.text end) (ap (λ (l : Line). (lined s items).text ++ line_end l) shown.last)
