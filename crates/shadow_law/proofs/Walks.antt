-- A walk by its words.
use Rattle.std.proofs.Common.{◌≡◌, ◌∙◌, ℕ, ◌+◌, ◌*◌, ◌/◌, ◌%◌, ◌<◌, inl, inr, ◌⊎◌, Bool, true, false, not, ◌&&◌, cond, List, [], ◌∷◌, ◌++◌, length, Option, Some, None, Ok, Err, refl, sym, ap, subst, arith}
use Rattle.std.specs.Prelude.{◌==◌, slice_index_or, IfSome}
use Rattle.std.proofs.lemmas.Bool.{ltb-true, and_parts}
use Rattle.cloak_base.specs.declared.names.Frame.{Frame}
use Rattle.cloak_model.specs.declared.access.Access.{Access}
use Rattle.cloak_model.specs.declared.access.Walked.{Walked}
use Rattle.cloak_base.specs.Constants.{frame_of, place_of, is_in_frames}
use Rattle.cloak_model.specs.Memory.{is_in_ram, value_in, value_at}
use Rattle.cloak_model.specs.Walk.{Walk, FirstWord, Ends, GoesOn, has_paging, without_paging, frame_at, first_entry, second_entry, is_valid, is_pointer, is_plain_pointer, allows, page_fault, first_leaf, second_leaf, first_word, second_word, word_in_ram, walk_after, walk, table_at, tables_after, walk_tables}
use Rattle.rv_isa.specs.Fields.{bits}
use Rattle.shadow_law.specs.Walks.{listed, tables_of, IsBelow, IsSame, HaveSameTables, moved, page_access}
use Rattle.cloak_base.proofs.Choices.{either}

ok_same : (v w : Walked) → (let x : Walk = Ok v in x) ≡ Ok w → v ≡ w
ok_same v w e = cc

-- what a leaf of level 1 names
first_named : (a : Access) (at1 e : ℕ) (w : Walked) → first_leaf a at1 e ≡ Ok w → (w.pt1 ≡ Some (frame_at at1)) × (w.pt0 ≡ None)
unfolding first_leaf
first_named a at1 e w is = by_test (allows a e && (bits e 19 10 == 0)) is
  where
    by_test : (b : Bool) → cond b (let x : Walk = Ok (record { pa = 4194304 * bits e 31 20 + bits a.va 21 0; pt1 = Some (frame_at at1); pt0 = None }) in x) (Err (page_fault a.kind)) ≡ Ok w
        → (w.pt1 ≡ Some (frame_at at1)) × (w.pt0 ≡ None)
    by_test true is = let same = ok_same _ w is in (ap (λ (v : Walked). v.pt1) (sym same), ap (λ (v : Walked). v.pt0) (sym same))
    by_test false is = absurd cc

second_named : (a : Access) (at1 at0 e : ℕ) (w : Walked) → second_leaf a at1 at0 e ≡ Ok w → (w.pt1 ≡ Some (frame_at at1)) × (w.pt0 ≡ Some (frame_at at0))
unfolding second_leaf
second_named a at1 at0 e w is = by_test (is_valid e && (not (is_pointer e) && allows a e)) is
  where
    by_test : (b : Bool) → cond b (let x : Walk = Ok (record { pa = 4096 * bits e 31 10 + bits a.va 11 0; pt1 = Some (frame_at at1); pt0 = Some (frame_at at0) }) in x) (Err (page_fault a.kind)) ≡ Ok w
        → (w.pt1 ≡ Some (frame_at at1)) × (w.pt0 ≡ Some (frame_at at0))
    by_test true is = let same = ok_same _ w is in (ap (λ (v : Walked). v.pt1) (sym same), ap (λ (v : Walked). v.pt0) (sym same))
    by_test false is = absurd cc

-- if the first word ends a walk that leads somewhere, it is a leaf
unfoldable pub FirstNames : Access → ℕ → FirstWord → Walked → Type 0
FirstNames a at1 first w = first ≡ Ends (Ok w) → (w.pt1 ≡ Some (frame_at at1)) × (w.pt0 ≡ None)

ends_same : (v w : Walk) → Ends v ≡ Ends w → v ≡ w
ends_same v w e = cc

no_fault : (a : Access) (at1 cause : ℕ) (w : Walked) → FirstNames a at1 (Ends (Err cause)) w
unfolding FirstNames
no_fault a at1 cause w is = absurd cc

pub word_names : (a : Access) (at1 : ℕ) (word : Option ℕ) (w : Walked) → FirstNames a at1 (first_word a at1 word) w
unfolding first_word FirstNames
word_names a at1 None w = no_fault a at1 _ w
word_names a at1 (Some e) w =
    either (λ f. FirstNames a at1 f w) (not (is_valid e)) _ _ (no_fault a at1 _ w)
    (either (λ f. FirstNames a at1 f w) (not (is_pointer e)) _ _ (leaf e)
    (either (λ f. FirstNames a at1 f w) (is_plain_pointer e) _ _ (on e) (no_fault a at1 _ w)))
  where
    leaf : (e : ℕ) → FirstNames a at1 (Ends (first_leaf a at1 e)) w
    leaf e is = first_named a at1 e w (ends_same _ _ is)

    on : (e : ℕ) → FirstNames a at1 (GoesOn (second_entry e a.va)) w
    on e is = absurd cc

-- How a walk leads somewhere: without paging, by one word, or by two.

pub record ByOne (ram : List (List ℕ)) (satp : ℕ) (a : Access) (w : Walked) : Type 0 where
  pub inside : is_in_ram ram (first_entry satp a.va) ≡ true
  pub word : first_word a (first_entry satp a.va) (word_in_ram ram (first_entry satp a.va)) ≡ Ends (Ok w)
  pub pt1 : w.pt1 ≡ Some (frame_at (first_entry satp a.va))
  pub pt0 : w.pt0 ≡ None

pub record ByTwo (ram : List (List ℕ)) (satp : ℕ) (a : Access) (w : Walked) : Type 0 where
  pub at0 : ℕ
  pub inside : is_in_ram ram (first_entry satp a.va) ≡ true
  pub word : first_word a (first_entry satp a.va) (word_in_ram ram (first_entry satp a.va)) ≡ GoesOn at0
  pub inside0 : is_in_ram ram at0 ≡ true
  pub word0 : second_word a (first_entry satp a.va) at0 (word_in_ram ram at0) ≡ Ok w
  pub pt1 : w.pt1 ≡ Some (frame_at (first_entry satp a.va))
  pub pt0 : w.pt0 ≡ Some (frame_at at0)

pub data Leads (ram : List (List ℕ)) (satp : ℕ) (a : Access) (w : Walked) : Type 0 where
  Bare : has_paging satp ≡ false → w ≡ record { pa = a.va; pt1 = None; pt0 = None } → Leads ram satp a w
  One : has_paging satp ≡ true → ByOne ram satp a w → Leads ram satp a w
  Two : has_paging satp ≡ true → ByTwo ram satp a w → Leads ram satp a w

-- a word that is not there leads nowhere
word_inside : (ram : List (List ℕ)) (a : Access) (at : ℕ) (b : Bool) → is_in_ram ram at ≡ b → (first : FirstWord) (w : Walked)
    → first_word a at (word_in_ram ram at) ≡ first → (first ≡ Ends (Ok w)) ⊎ ((at0 : ℕ) × (first ≡ GoesOn at0)) → b ≡ true
unfolding first_word
word_inside ram a at true is first w word leads = refl
word_inside ram a at false is first w word (inl ok) =
    absurd (let out = ap (λ (b : Bool). first_word a at (cond b (Some (value_at ram at 4)) None)) (sym is) ∙ word ∙ ok in cc)
word_inside ram a at false is first w word (inr on) =
    absurd (let out = ap (λ (b : Bool). first_word a at (cond b (Some (value_at ram at 4)) None)) (sym is) ∙ word ∙ on.1 in cc)

second_inside : (ram : List (List ℕ)) (a : Access) (at1 at : ℕ) (b : Bool) → is_in_ram ram at ≡ b → (w : Walked)
    → second_word a at1 at (word_in_ram ram at) ≡ Ok w → b ≡ true
unfolding second_word
second_inside ram a at1 at true is w word = refl
second_inside ram a at1 at false is w word =
    absurd (let out = ap (λ (b : Bool). second_word a at1 at (cond b (Some (value_at ram at 4)) None)) (sym is) ∙ word in cc)

pub second_names : (a : Access) (at1 at0 : ℕ) (o : Option ℕ) (w : Walked) → second_word a at1 at0 o ≡ Ok w
    → (w.pt1 ≡ Some (frame_at at1)) × (w.pt0 ≡ Some (frame_at at0))
unfolding second_word
second_names a at1 at0 None w is = absurd cc
second_names a at1 at0 (Some e) w is = second_named a at1 at0 e w is

by_first : (ram : List (List ℕ)) (satp : ℕ) (a : Access) (w : Walked) → has_paging satp ≡ true → (first : FirstWord)
    → first_word a (first_entry satp a.va) (word_in_ram ram (first_entry satp a.va)) ≡ first
    → walk_after ram a (first_entry satp a.va) first ≡ Ok w → Leads ram satp a w
unfolding FirstNames
by_first ram satp a w paging (Ends v) word leads =
    let at1 = first_entry satp a.va in
    let ends = word ∙ ap Ends leads in
    let named = word_names a at1 (word_in_ram ram at1) w ends in
    One paging (record {
      inside = word_inside ram a at1 (is_in_ram ram at1) refl (Ends v) w word (inl (ap Ends leads));
      word = ends;
      pt1 = named.0;
      pt0 = named.1;
    })
by_first ram satp a w paging (GoesOn at0) word leads =
    let at1 = first_entry satp a.va in
    let named = second_names a at1 at0 (word_in_ram ram at0) w leads in
    Two paging (record {
      at0 = at0;
      inside = word_inside ram a at1 (is_in_ram ram at1) refl (GoesOn at0) w word (inr (at0, refl));
      word = word;
      inside0 = second_inside ram a at1 at0 (is_in_ram ram at0) refl w leads;
      word0 = leads;
      pt1 = named.0;
      pt0 = named.1;
    })

pub walk_leads : (ram : List (List ℕ)) (satp : ℕ) (a : Access) (w : Walked) → walk ram satp a ≡ Ok w → Leads ram satp a w
unfolding walk
walk_leads ram satp a w is = by_test (has_paging satp) refl is
  where
    at1 : ℕ
    at1 = first_entry satp a.va

    by_test : (b : Bool) → has_paging satp ≡ b
        → cond b (walk_after ram a at1 (first_word a at1 (word_in_ram ram at1))) (without_paging a) ≡ Ok w → Leads ram satp a w
    by_test true paging is = by_first ram satp a w paging (first_word a at1 (word_in_ram ram at1)) refl is
    by_test false paging is = Bare paging (sym (ok_same _ w is))

-- And back.

pub leads_bare : (ram : List (List ℕ)) (satp : ℕ) (a : Access) → has_paging satp ≡ false → walk ram satp a ≡ without_paging a
unfolding walk
leads_bare ram satp a paging =
    let at1 = first_entry satp a.va in
    ap (λ (b : Bool). cond b (walk_after ram a at1 (first_word a at1 (word_in_ram ram at1))) (without_paging a)) paging

pub leads_paged : (ram : List (List ℕ)) (satp : ℕ) (a : Access) (first : FirstWord) → has_paging satp ≡ true
    → first_word a (first_entry satp a.va) (word_in_ram ram (first_entry satp a.va)) ≡ first
    → walk ram satp a ≡ walk_after ram a (first_entry satp a.va) first
unfolding walk
leads_paged ram satp a first paging word =
    let at1 = first_entry satp a.va in
    ap (λ (b : Bool). cond b (walk_after ram a at1 (first_word a at1 (word_in_ram ram at1))) (without_paging a)) paging
    ∙ ap (walk_after ram a at1) word

-- The tables that a walk reads.

tables_paged : (ram : List (List ℕ)) (satp : ℕ) (a : Access) (first : FirstWord) → has_paging satp ≡ true
    → is_in_ram ram (first_entry satp a.va) ≡ true
    → first_word a (first_entry satp a.va) (word_in_ram ram (first_entry satp a.va)) ≡ first
    → walk_tables ram satp a ≡ frame_of (first_entry satp a.va) ∷ tables_after ram first
unfolding walk_tables
tables_paged ram satp a first paging inside word =
    let at1 = first_entry satp a.va in
    ap (λ (b : Bool). cond b (table_at ram at1 ++ tables_after ram (first_word a at1 (word_in_ram ram at1))) []) paging
    ∙ (λ i. cond (inside i) (frame_of at1 ∷ []) [] ++ tables_after ram (word i))

pub listed_two : (o p : Option Frame) (f g : Frame) → o ≡ Some f → p ≡ Some g → listed o ++ listed p ≡ f.0 ∷ g.0 ∷ []
listed_two o p f g e d = λ i. listed (e i) ++ listed (d i)

pub listed_one : (o p : Option Frame) (f : Frame) → o ≡ Some f → p ≡ None → listed o ++ listed p ≡ f.0 ∷ []
listed_one o p f e d = λ i. listed (e i) ++ listed (d i)

by_leads : (ram : List (List ℕ)) (satp : ℕ) (a : Access) (w : Walked) → Leads ram satp a w → walk_tables ram satp a ≡ tables_of w
unfolding walk_tables
by_leads ram satp a w (Bare paging is) =
    let at1 = first_entry satp a.va in
    ap (λ (b : Bool). cond b (table_at ram at1 ++ tables_after ram (first_word a at1 (word_in_ram ram at1))) []) paging
    ∙ ap tables_of (sym is)
by_leads ram satp a w (One paging h) =
    tables_paged ram satp a (Ends (Ok w)) paging h.inside h.word ∙ sym (listed_one w.pt1 w.pt0 _ h.pt1 h.pt0)
by_leads ram satp a w (Two paging h) =
    tables_paged ram satp a (GoesOn h.at0) paging h.inside h.word
    ∙ (λ i. frame_of (first_entry satp a.va) ∷ cond (h.inside0 i) (frame_of h.at0 ∷ []) [])
    ∙ sym (listed_two w.pt1 w.pt0 _ _ h.pt1 h.pt0)

pub walk_reaches : (ram : List (List ℕ)) (satp : ℕ) (a : Access) (w : Walked) → walk ram satp a ≡ Ok w → walk_tables ram satp a ≡ tables_of w
walk_reaches ram satp a w is = by_leads ram satp a w (walk_leads ram satp a w is)

-- In another memory with the same tables.

word_same : (ram ram' : List (List ℕ)) (at : ℕ) → length ram' ≡ length ram → slice_index_or ram' (frame_of at) [] ≡ slice_index_or ram (frame_of at) []
    → word_in_ram ram' at ≡ word_in_ram ram at
word_same ram ram' at count same =
    λ i. cond (is_in_frames (count i) at) (Some (value_in (same i) (place_of at) 4)) None

some_same : (ram ram' : List (List ℕ)) (o : Option Frame) (f : Frame) → IfSome o (IsSame ram ram') → o ≡ Some f → IsSame ram ram' f
some_same ram ram' o f same is = subst (λ o. IfSome o (IsSame ram ram')) is same

kept_by : (ram ram' : List (List ℕ)) (satp : ℕ) (a : Access) (w : Walked) → HaveSameTables w.pt1 w.pt0 ram ram' → Leads ram satp a w → walk ram' satp a ≡ Ok w
kept_by ram ram' satp a w same (Bare paging is) = leads_bare ram' satp a paging ∙ ap Ok (sym is)
kept_by ram ram' satp a w same (One paging h) =
    let at1 = first_entry satp a.va in
    let first = word_same ram ram' at1 same.count (some_same ram ram' w.pt1 (frame_at at1) same.first h.pt1) in
    leads_paged ram' satp a (Ends (Ok w)) paging (ap (first_word a at1) first ∙ h.word)
kept_by ram ram' satp a w same (Two paging h) =
    let at1 = first_entry satp a.va in
    let first = word_same ram ram' at1 same.count (some_same ram ram' w.pt1 (frame_at at1) same.first h.pt1) in
    let second = word_same ram ram' h.at0 same.count (some_same ram ram' w.pt0 (frame_at h.at0) same.second h.pt0) in
    leads_paged ram' satp a (GoesOn h.at0) paging (ap (first_word a at1) first ∙ h.word)
    ∙ ap (second_word a at1 h.at0) second ∙ h.word0

pub walk_kept : (ram ram' : List (List ℕ)) (satp : ℕ) (a : Access) (w : Walked) → HaveSameTables w.pt1 w.pt0 ram ram' → walk ram satp a ≡ Ok w → walk ram' satp a ≡ Ok w
walk_kept ram ram' satp a w same is = kept_by ram ram' satp a w same (walk_leads ram satp a w is)

-- All addresses of a page.

abbrev moved_word : ℕ → FirstWord → FirstWord
moved_word k (Ends w) = Ends (moved k w)
moved_word k (GoesOn at0) = GoesOn at0

moved_if : (k : ℕ) (b : Bool) (x y x' y' : Walk) → x ≡ moved k x' → y ≡ moved k y' → cond b x y ≡ moved k (cond b x' y')
moved_if k true x y x' y' e d = e
moved_if k false x y x' y' e d = d

word_if : (k : ℕ) (b : Bool) (x y x' y' : FirstWord) → x ≡ moved_word k x' → y ≡ moved_word k y' → cond b x y ≡ moved_word k (cond b x' y')
word_if k true x y x' y' e d = e
word_if k false x y x' y' e d = d

first_place : (x va : ℕ) → 4194304 * x + bits va 21 0 ≡ 4194304 * x + bits (4096 * (va / 4096)) 21 0 + va % 4096
first_place x va = omega arith

second_place : (x va : ℕ) → 4096 * x + bits va 11 0 ≡ 4096 * x + bits (4096 * (va / 4096)) 11 0 + va % 4096
second_place x va = omega arith

entry_place : (satp va : ℕ) → first_entry satp va ≡ first_entry satp (4096 * (va / 4096))
entry_place satp va =
    let same : bits va 31 22 ≡ bits (4096 * (va / 4096)) 31 22 = omega arith in ap (λ n. 4096 * bits satp 21 0 + 4 * n) same

second_entry_place : (e va : ℕ) → second_entry e va ≡ second_entry e (4096 * (va / 4096))
second_entry_place e va =
    let same : bits va 21 12 ≡ bits (4096 * (va / 4096)) 21 12 = omega arith in ap (λ n. 4096 * bits e 31 10 + 4 * n) same

moved_leaf : (a : Access) (at1 e : ℕ) → first_leaf a at1 e ≡ moved (a.va % 4096) (first_leaf (page_access a) at1 e)
unfolding first_leaf
moved_leaf a at1 e = moved_if _ (allows a e && (bits e 19 10 == 0)) _ _ _ _
    (λ i. Ok (record { pa = first_place (bits e 31 20) a.va i; pt1 = Some (frame_at at1); pt0 = None })) refl

moved_second : (a : Access) (at1 at0 : ℕ) (o : Option ℕ) → second_word a at1 at0 o ≡ moved (a.va % 4096) (second_word (page_access a) at1 at0 o)
unfolding second_word second_leaf
moved_second a at1 at0 None = refl
moved_second a at1 at0 (Some e) = moved_if _ (is_valid e && (not (is_pointer e) && allows a e)) _ _ _ _
    (λ i. Ok (record { pa = second_place (bits e 31 10) a.va i; pt1 = Some (frame_at at1); pt0 = Some (frame_at at0) })) refl

moved_first : (a : Access) (at1 : ℕ) (o : Option ℕ) → first_word a at1 o ≡ moved_word (a.va % 4096) (first_word (page_access a) at1 o)
unfolding first_word
moved_first a at1 None = refl
moved_first a at1 (Some e) =
    let k = a.va % 4096 in
    word_if k (not (is_valid e)) _ _ _ _ refl
    (word_if k (not (is_pointer e)) _ _ _ _ (ap Ends (moved_leaf a at1 e))
    (word_if k (is_plain_pointer e) _ _ _ _ (ap GoesOn (second_entry_place e a.va)) refl))

moved_after : (ram : List (List ℕ)) (a : Access) (at1 : ℕ) (first : FirstWord)
    → walk_after ram a at1 (moved_word (a.va % 4096) first) ≡ moved (a.va % 4096) (walk_after ram (page_access a) at1 first)
moved_after ram a at1 (Ends w) = refl
moved_after ram a at1 (GoesOn at0) = moved_second a at1 at0 (word_in_ram ram at0)

bare_place : (va : ℕ) → va ≡ 4096 * (va / 4096) + va % 4096
bare_place va = omega arith

pub walk_of_page : (ram : List (List ℕ)) (satp : ℕ) (a : Access) → walk ram satp a ≡ moved (a.va % 4096) (walk ram satp (page_access a))
unfolding walk
walk_of_page ram satp a =
    let at1 = first_entry satp a.va in
    let start = first_entry satp (4096 * (a.va / 4096)) in
    let k = a.va % 4096 in
    let o = word_in_ram ram at1 in
    let paged : walk_after ram a at1 (first_word a at1 o) ≡ moved k (walk_after ram (page_access a) start (first_word (page_access a) start (word_in_ram ram start))) =
    ap (walk_after ram a at1) (moved_first a at1 o) ∙ moved_after ram a at1 (first_word (page_access a) at1 o)
    ∙ ap (λ at. moved k (walk_after ram (page_access a) at (first_word (page_access a) at (word_in_ram ram at)))) (entry_place satp a.va) in
    moved_if k (has_paging satp) _ _ _ _ paged (λ i. Ok (record { pa = bare_place a.va i; pt1 = None; pt0 = None }))

-- Frames of RAM.

pub low_frame : (ram : List (List ℕ)) (at : ℕ) → is_in_ram ram at ≡ true → frame_of at < length ram
low_frame ram at is = ltb-true (frame_of at) (length ram) (and_parts _ _ is).1

below_none : (n : ℕ) (o : Option Frame) → o ≡ None → IsBelow n o
below_none n o is = subst (IsBelow n) (sym is) tt

below_some : (n : ℕ) (o : Option Frame) (f : Frame) → o ≡ Some f → f.0 < n → IsBelow n o
below_some n o f is low = subst (IsBelow n) (sym is) low

within_by : (ram : List (List ℕ)) (satp : ℕ) (a : Access) (w : Walked) → Leads ram satp a w → IsBelow (length ram) w.pt1 × IsBelow (length ram) w.pt0
within_by ram satp a w (Bare paging is) = (
  below_none (length ram) w.pt1 (ap (λ (v : Walked). v.pt1) is),
  below_none (length ram) w.pt0 (ap (λ (v : Walked). v.pt0) is),
)
within_by ram satp a w (One paging h) =
    (below_some (length ram) w.pt1 _ h.pt1 (low_frame ram _ h.inside), below_none (length ram) w.pt0 h.pt0)
within_by ram satp a w (Two paging h) =
    (below_some (length ram) w.pt1 _ h.pt1 (low_frame ram _ h.inside), below_some (length ram) w.pt0 _ h.pt0 (low_frame ram _ h.inside0))

pub walk_within : (ram : List (List ℕ)) (satp : ℕ) (a : Access) (w : Walked) → walk ram satp a ≡ Ok w → IsBelow (length ram) w.pt1 × IsBelow (length ram) w.pt0
walk_within ram satp a w is = within_by ram satp a w (walk_leads ram satp a w is)
