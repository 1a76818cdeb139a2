-- What stands after a front of a file: an item that may stand there, or what is wrong.
use Rattle.std.proofs.Common.{◌≡◌, ℕ, suc, ◌≤◌, Bool, true, false, ◌||◌, not, ◌⊎◌, inl, inr, cond, ltb, eqb, List, [], ◌∷◌, ◌++◌, length, drop, Option, Some, None, refl, sym, ap, ◌∙◌}
use Rattle.std.proofs.lemmas.Bool.{ltb-false, le-ltb, eqb-true}
use Rattle.cloak_model.specs.Items.{Item}
use Rattle.cloak_model.specs.Items as item
use Rattle.cloak_model.specs.Exchange.{item_bytes, byte_of}
use Rattle.cloak_model.specs.Record.{IsItem}
use Rattle.cloak_model.specs.declared.record.Stage.{Stage}
use Rattle.cloak_model.specs.declared.record.Stage.TheVariants.{Opening, Steps, Closing, Over}
use Rattle.cloak_model.specs.declared.record.Tag.{Tag}
use Rattle.cloak_model.specs.declared.record.Tag.TheVariants as tag
use Rattle.cloak_model.specs.declared.record.Wrong.{Wrong}
use Rattle.cloak_model.specs.declared.record.Wrong.TheVariants.{Cut, NoTag, NoNumber}
use Rattle.cloak_model.specs.Fields.{number}
use Rattle.cloak_model.specs.RecordFault.{tag_of, may_stand, wrong_item, wrong_behind}
use Rattle.record_law.specs.Items.{size_of, has_bad_width, is_numbered}
use Rattle.record_law.specs.Items.{item_in}
use Rattle.record_law.proofs.Chain.{wrong_item-tests}
use Rattle.record_law.proofs.Spelling.{tag_at, IsNumbered, fields_of, item_bytes-parts, fields_read, fields_spelled}
use Rattle.cloak_base.proofs.Lists.{IsBytes}
use Rattle.std.proofs.lemmas.Option.{same_Some}

-- the number of a Step or a Close
abbrev pub number_of : Item → ℕ
number_of (item.Step number) = number
number_of (item.Close steps) = steps
number_of _ = 0

-- an item may stand at a stage
pub record Succeeds (s : Stage) (i : Item) : Type 0 where
  pub may : may_stand s (tag_at i) ≡ true
  pub numbered : is_numbered s (tag_at i) (number_of i) ≡ true

-- the number that is read is the item's
pub numbered_same : (s : Stage) (i : Item) (n : ℕ) → IsNumbered i n → is_numbered s (tag_at i) n ≡ is_numbered s (tag_at i) (number_of i)
numbered_same s (item.Step number) n e = rw e refl
numbered_same s (item.Close steps) n e = rw e refl
numbered_same s _ n e = refl

pub tag_again : (t : Tag) → tag_of (byte_of t) ≡ Some t
tag_again tag.Cipher = refl
tag_again _ = refl

abbrev some : Tag → Option Tag
some t = Some t

pick : (b k : ℕ) (x : Tag) (y : Option Tag) (t : Tag) (test : Bool) → eqb b k ≡ test → byte_of x ≡ k → (y ≡ some t → byte_of t ≡ b) → cond test (some x) y ≡ some t → byte_of t ≡ b
pick b k x y t true test is later e = ap byte_of (sym (same_Some x t e)) ∙ is ∙ sym (eqb-true _ _ test)
pick b k x y t false test is later e = later e

none_some : (b : ℕ) (t : Tag) → None ≡ some t → byte_of t ≡ b
none_some b t e = absurd cc

pub tag_known : (b : ℕ) (t : Tag) → tag_of b ≡ some t → byte_of t ≡ b
tag_known b t e =
    pick b 0x01 tag.Cipher _ t _ refl refl (pick b 0x02 tag.Put _ t _ refl refl (pick b 0x03 tag.Leave _ t _ refl refl (pick b 0x10 tag.Step _ t _ refl refl (pick b 0x11 tag.Close _ t _ refl refl (pick b 0x12 tag.End _ t _ refl refl
    (pick b 0x20 tag.Ok _ t _ refl refl (pick b 0x21 tag.Absent _ t _ refl refl (pick b 0x22 tag.Word _ t _ refl refl (pick b 0x23 tag.Timer _ t _ refl refl (pick b 0x24 tag.Resume _ t _ refl refl (pick b 0x25 tag.Stopped _ t _ refl refl (pick b 0x26 tag.Ended _ t _ refl refl (none_some b t))))))))))))) e

-- ---- an item that may stand there is not wrong

wrong_here : (s : Stage) (t : Tag) (b : ℕ) (fields : List ℕ) → may_stand s t ≡ true → wrong_behind s (b ∷ fields) ≡ wrong_item s (tag_of b) fields
unfolding wrong_behind
wrong_here Over t b fields e = absurd cc
wrong_here _ t b fields e = refl

right_item : (s : Stage) (t : Tag) (fields : List ℕ) → may_stand s t ≡ true → has_bad_width t fields ≡ false → size_of t ≤ length fields → is_numbered s t (number fields 0) ≡ true → wrong_item s (Some t) fields ≡ None
right_item s t fields may width whole numbered =
    let long : ltb (length fields) (size_of t) ≡ false = le-ltb _ _ whole in
    wrong_item-tests s t fields ∙ rw (may, width, long, numbered) refl

pub item_right : (s : Stage) (i : Item) (rest : List ℕ) → IsItem i → Succeeds s i → wrong_behind s (item_bytes i ++ rest) ≡ None
item_right s i rest fits f =
    let r = fields_read i rest fits in
    let t = tag_at i in
    let e : item_bytes i ++ rest ≡ byte_of t ∷ (fields_of i ++ rest) = ap (λ bytes. bytes ++ rest) (item_bytes-parts i) in
    ap (wrong_behind s) e ∙ wrong_here s t (byte_of t) (fields_of i ++ rest) f.may ∙ ap (λ o. wrong_item s o (fields_of i ++ rest)) (tag_again t)
    ∙ right_item s t (fields_of i ++ rest) f.may r.width r.whole (numbered_same s i _ r.number ∙ f.numbered)

-- ---- what is not wrong is an item that may stand there, or the end

pub record Item_at (s : Stage) (bytes : List ℕ) : Type 0 where
  pub item : Item
  pub rest : List ℕ
  pub spelled : bytes ≡ item_bytes item ++ rest
  pub fits : IsItem item
  pub follows : Succeeds s item

pub chosen : {A : Type 0} (c : Bool) (x y z : A) → cond c x y ≡ z → ((c ≡ true) × (x ≡ z)) ⊎ ((c ≡ false) × (y ≡ z))
chosen true x y z e = inl (refl, e)
chosen false x y z e = inr (refl, e)

neither : (a b : Bool) → (not a || b) ≡ false → (a ≡ true) × (b ≡ false)
neither true b e = (refl, e)
neither false b e = absurd cc

abbrev pub wrong_some : Wrong → Option Wrong
wrong_some w = Some w

pub record Right (s : Stage) (t : Tag) (fields : List ℕ) : Type 0 where
  pub may : may_stand s t ≡ true
  pub width : has_bad_width t fields ≡ false
  pub whole : size_of t ≤ length fields
  pub numbered : is_numbered s t (number fields 0) ≡ true

pub item_rights : (s : Stage) (t : Tag) (fields : List ℕ) → wrong_item s (Some t) fields ≡ None → Right s t fields
item_rights s t fields e =
    elim (chosen (not (may_stand s t) || has_bad_width t fields) (wrong_some NoTag) _ None (sym (wrong_item-tests s t fields) ∙ e)) [
      | inl bad ↦ absurd (let x = bad.1 in cc)
      | inr a ↦ elim (chosen (ltb (length fields) (size_of t)) (wrong_some Cut) _ None a.1) [
        | inl bad ↦ absurd (let x = bad.1 in cc)
        | inr b ↦ elim (chosen (is_numbered s t (number fields 0)) None (wrong_some NoNumber) None b.1) [
          | inl good ↦ let n = neither (may_stand s t) (has_bad_width t fields) a.0 in record { may = n.0; width = n.1; whole = ltb-false _ _ b.0; numbered = good.0 }
          | inr bad ↦ absurd (let x = bad.1 in cc)
        ]
      ]
    ]

item_found : (s : Stage) (b : ℕ) (fields : List ℕ) (o : Option Tag) → IsBytes fields → tag_of b ≡ o → wrong_item s o fields ≡ None → Item_at s (b ∷ fields)
unfolding wrong_item
item_found s b fields None bytes is e = absurd cc
item_found s b fields (Some t) bytes is e =
    let r = item_rights s t fields e in
    let p = fields_spelled t fields bytes r.whole r.width in
    let i : Item = item_in t fields in
    let head : byte_of (tag_at i) ≡ b = ap byte_of p.tag ∙ tag_known b t is in
    record {
      item = i;
      rest = drop (size_of t) fields;
      spelled = sym (ap (λ bytes. bytes ++ drop (size_of t) fields) (item_bytes-parts i) ∙ ap (λ x. x ∷ (fields_of i ++ drop (size_of t) fields)) head ∙ ap (λ t. b ∷ t) p.spelled);
      fits = p.fits;
      follows = record {
        may = ap (may_stand s) p.tag ∙ r.may;
        numbered = sym (numbered_same s i _ p.number) ∙ ap (λ t. is_numbered s t (number fields 0)) p.tag ∙ r.numbered;
      };
    }

-- at the end of a record
pub record At_end (s : Stage) (bytes : List ℕ) : Type 0 where
  pub none : bytes ≡ []
  pub over : s ≡ Over

pub bytes_tail : (b : ℕ) (fields : List ℕ) → IsBytes (b ∷ fields) → IsBytes fields
bytes_tail b fields bytes i = bytes (suc i)

pub next_item : (s : Stage) (bytes : List ℕ) → IsBytes bytes → wrong_behind s bytes ≡ None → At_end s bytes ⊎ Item_at s bytes
unfolding wrong_behind
next_item Opening [] are e = absurd cc
next_item Opening (b ∷ fields) are e = inr (item_found Opening b fields (tag_of b) (bytes_tail b fields are) refl e)
next_item (Steps n) [] are e = absurd cc
next_item (Steps n) (b ∷ fields) are e = inr (item_found (Steps n) b fields (tag_of b) (bytes_tail b fields are) refl e)
next_item Closing [] are e = absurd cc
next_item Closing (b ∷ fields) are e = inr (item_found Closing b fields (tag_of b) (bytes_tail b fields are) refl e)
next_item Over [] are e = inl (record { none = refl; over = refl })
next_item Over (b ∷ fields) are e = absurd cc
