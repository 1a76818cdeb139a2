-- What a reader returns is the file's.
use Rattle.std.proofs.Common.{◌≡◌, ℕ, suc, ◌+◌, ◌-◌, ◌^◌, ◌<◌, ◌≤◌, false, ◌⊎◌, inl, inr, ltb, List, [], ◌∷◌, ◌++◌, length, take, drop, min, Option, Some, None, IfSome, Result, Ok, Err, refl, sym, ap, subst, ◌∙◌, append_assoc, length-append, length-drop, arith}
use Rattle.std.specs.List.{flat_map}
use Rattle.std.proofs.lemmas.Bool.{cases_lt, le-ltb}
use Rattle.std.proofs.lemmas.List.{drop_at, drop-drop, take-append-drop, length-take, take_all}
use Rattle.cloak_model.specs.Items.{Item}
use Rattle.cloak_model.specs.declared.record.Stage.{Stage}
use Rattle.cloak_model.specs.declared.record.Stage.TheVariants.{Opening, Over}
use Rattle.cloak_model.specs.declared.record.Tag.{Tag}
use Rattle.cloak_model.specs.declared.record.Wrong.{Wrong}
use Rattle.cloak_model.specs.declared.record.Wrong.TheVariants.{Cut}
use Rattle.cloak_model.specs.declared.fault.RecordFault.{RecordFault}
use Rattle.cloak_model.specs.declared.fault.RecordFault.TheVariants.{Short}
use Rattle.cloak_model.specs.Exchange.{item_bytes, record_magic, record_of, byte_of}
use Rattle.cloak_model.specs.Fields.{number}
use Rattle.cloak_model.specs.Record.{IsItem, IsRecord}
use Rattle.cloak_model.specs.RecordFault.{IsWrong, Begins, tag_of, stage_after, stage_behind, may_stand, wrong_item, wrong_behind, fault_of, magic_fault}
use Rattle.record_law.specs.Items.{size_of, is_numbered, item_in}
use Rattle.record_law.proofs.Spelling.{tag_at, fields_of, item_bytes-parts, fields_spelled}
use Rattle.record_law.proofs.Following.{Succeeds, item_rights, tag_known, numbered_same, bytes_tail}
use Rattle.record_law.proofs.Orders.{stage_behind-append}
use Rattle.record_law.proofs.Judged.{magic_stands, Front, Front-begins, Begins-front, Front-more, Front-record}
use Rattle.record_reader.specs.declared.fault.NextFault.{NextFault}
use Rattle.record_reader.specs.declared.fault.NextFault.TheVariants.{Record}
use Rattle.record_reader.specs.declared.ahead.Ahead.{Ahead}
use Rattle.record_reader.specs.declared.reader.Reader.{Reader}
use Rattle.record_reader.specs.Ahead.{readable, IsAhead, IsWindow, OfFile, ahead_from, front_tag}
use Rattle.record_reader.specs.Reading.{HasFaultAt, IsBehind, TellsStart, StandsBehind, ReadsNext, judged}
use Rattle.record_reader.proofs.Filled.{take_take, stand_within}
use Rattle.record_reader.proofs.Windows.{judged_there, judged_err, judged_ok, cut_all}
use Rattle.cloak_base.proofs.Lists.{IsBytes}

-- ---- the magic

-- a window at the front of a file has the magic's bytes, or all that there are
pub magic_there : (file bytes : List ℕ) → IsWindow file 0 bytes → magic_fault bytes ≡ magic_fault file
unfolding magic_fault
magic_there file bytes w =
    elim (cases_lt (length bytes) 8) [
      | inl short ↦ elim w.enough [
        | inl all ↦ ap magic_fault (w.stand ∙ ap (λ k. take k file) all ∙ take_all (length file) file (omega arith))
        | inr h ↦ absurd (let long = h.0 in omega (arith, long, short))
      ]
      | inr long ↦ (let k : ℕ = length bytes - 8 in
          let whole : length bytes ≡ 8 + k = omega (arith, long) in
          let eight : take 8 bytes ≡ take 8 file = ap (take 8) (w.stand ∙ ap (λ m. take m file) whole) ∙ take_take 8 k file in
          let here : ltb (length bytes) 8 ≡ false = le-ltb _ _ long in
          let e : length bytes ≡ length (take (length bytes) file) = ap (λ (l : List ℕ). length l) w.stand in
          let there : ltb (length file) 8 ≡ false = le-ltb _ _ (omega (arith, e, long, length-take (length bytes) file)) in
          rw (here, there, eight) refl)
    ]

magic_of : (told : Option (List ℕ)) (old : Ahead) (bytes : List ℕ) (fault : Option RecordFault) → fault ≡ magic_fault bytes → OfFile told old (λ file. IsWindow file 0 bytes) → OfFile told old (λ file. magic_fault file ≡ fault)
magic_of None old bytes fault is window = tt
magic_of (Some b) old bytes fault is window = λ ahead. sym (magic_there (readable b) bytes (window ahead)) ∙ sym is

pub magic_read : (told : Option (List ℕ)) (old new : Ahead) (bytes : List ℕ) (fault : Option RecordFault) → bytes ≡ ahead_from 0 new → fault ≡ magic_fault bytes
    → OfFile told old (λ file. IsWindow file 0 (ahead_from 0 new)) → OfFile told old (λ file. magic_fault file ≡ fault)
magic_read told old new bytes fault from is window = magic_of told old bytes fault is (subst (λ (l : List ℕ). OfFile told old (λ file. IsWindow file 0 l)) (sym from) window)

-- ---- from a window to the answer

-- where the items of a file begin, and what stands after them
record Here (file : List ℕ) (front : List Item) (from : ℕ) (s : Stage) : Type 0 where
  begins : Front file front (drop from file)
  from_is : from ≡ length (record_of front)
  stage_is : s ≡ stage_behind Opening front

here_inside : (file : List ℕ) (front : List Item) (from : ℕ) (s : Stage) → Here file front from s → from ≤ length file
here_inside file front from s h =
    let at = h.from_is in
    let e : length file ≡ 8 + length (flat_map item_bytes front ++ drop from file) = sym (ap (λ (l : List ℕ). length l) h.begins.spells) ∙ length-append record_magic _ in
    let a = length-append (flat_map item_bytes front) (drop from file) in
    let sp : length (record_of front) ≡ 8 + length (flat_map item_bytes front) = length-append record_magic _ in
    omega (arith, at, e, a, sp)

sized : (size size' at at' : ℕ) (e : Wrong) → (e ≡ Cut → size ≡ size') → at ≡ at' → fault_of size at e ≡ fault_of size' at' e
sized size size' at at' Cut same is = ap (λ k. Short k) (same refl)
sized size size' at at' _ same is = rw is refl

here_wrong : (file : List ℕ) (front : List Item) (from : ℕ) (s : Stage) (bytes : List ℕ) (e : Wrong) → Here file front from s → IsWindow file from bytes → Err e ≡ judged s bytes → HasFaultAt file front (fault_of (from + length bytes) from e)
here_wrong file front from s bytes e h window j =
    let rest : List ℕ = drop from file in
    let wrong : wrong_behind s rest ≡ Some e = judged_err _ _ e (j ∙ judged_there s file from bytes window) in
    let le = here_inside file front from s h in
    let is : IsWrong file (fault_of (from + length bytes) from e) = record {
      front = front;
      rest = rest;
      begins = Front-begins file front rest h.begins;
      wrong = e;
      is_wrong = ap (λ t. wrong_behind t rest) (sym h.stage_is) ∙ wrong;
      fault_is = sized (from + length bytes) (length file) from (length (record_of front)) e (λ cut. (let all = cut_all s (length bytes) rest (stand_within file from bytes window.stand) window.enough (wrong ∙ ap (λ x. Some x) cut) in
          let d = length-drop from file in omega (arith, all, d, le))) h.from_is;
    } in
    inr (is, refl)

-- after a stage at which something may stand
open_item : (s : Stage) (b : ℕ) (fields : List ℕ) → wrong_behind s (b ∷ fields) ≡ None → wrong_item s (tag_of b) fields ≡ None
unfolding wrong_behind
open_item Over b fields e = absurd cc
open_item _ b fields e = e

no_tag_wrong : (s : Stage) (o : Option Tag) (fields : List ℕ) → o ≡ None → wrong_item s o fields ≡ None → ⊥
unfolding wrong_item
no_tag_wrong s None fields is e = cc
no_tag_wrong s (Some t) fields is e = cc

end_empty : (s : Stage) (rest : List ℕ) → wrong_behind s rest ≡ None → front_tag rest ≡ None → rest ≡ []
end_empty s [] right none = refl
end_empty s (b ∷ fields) right none = absurd (no_tag_wrong s (tag_of b) fields none (open_item s b fields right))

end_over : (s : Stage) → wrong_behind s [] ≡ None → s ≡ Over
unfolding wrong_behind
end_over Over e = refl
end_over _ e = absurd cc

-- the end of the record
here_end : (file : List ℕ) (front : List Item) (from : ℕ) (s : Stage) (bytes : List ℕ) → Here file front from s → IsWindow file from bytes → Ok None ≡ judged s bytes → IsRecord file front
here_end file front from s bytes h window j =
    let r = judged_ok _ _ None (j ∙ judged_there s file from bytes window) in
    let rest : drop from file ≡ [] = end_empty s (drop from file) r.0 r.1 in
    let over : s ≡ Over = end_over s (ap (wrong_behind s) (sym rest) ∙ r.0) in
    Front-record file front (drop from file) h.begins rest (sym h.stage_is ∙ over)

-- the item of a tag, as its bytes stand there
record SpelledItem (s : Stage) (t : Tag) (b : ℕ) (fields : List ℕ) : Type 0 where
  spelled : b ∷ fields ≡ item_bytes (item_in t fields) ++ drop (size_of t) fields
  fits : IsItem (item_in t fields)
  follows : Succeeds s (item_in t fields)
  whole : size_of t ≤ length fields

spelled_item : (s : Stage) (t : Tag) (b : ℕ) (fields : List ℕ) → IsBytes fields → tag_of b ≡ Some t → wrong_item s (Some t) fields ≡ None → SpelledItem s t b fields
spelled_item s t b fields bytes is e =
    let r = item_rights s t fields e in
    let p = fields_spelled t fields bytes r.whole r.width in
    let i : Item = item_in t fields in
    let head : byte_of (tag_at i) ≡ b = ap byte_of p.tag ∙ tag_known b t is in
    record {
      spelled = sym (ap (λ bytes. bytes ++ drop (size_of t) fields) (item_bytes-parts i) ∙ ap (λ x. x ∷ (fields_of i ++ drop (size_of t) fields)) head ∙ ap (λ t. b ∷ t) p.spelled);
      fits = p.fits;
      follows = record {
        may = ap (may_stand s) p.tag ∙ r.may;
        numbered = sym (numbered_same s i _ p.number) ∙ ap (λ t. is_numbered s t (number fields 0)) p.tag ∙ r.numbered;
      };
      whole = r.whole;
    }

-- an item after the front
item_here : (file : List ℕ) (front : List Item) (from n : ℕ) (s : Stage) (b : ℕ) (fields : List ℕ) (t : Tag) → Here file front from s → b ∷ fields ≡ take n (drop from file) → SpelledItem s t b fields
    → Here file (front ++ item_in t fields ∷ []) (from + (1 + size_of t)) (stage_after s (item_in t fields)) × (from + (1 + size_of t) ≤ length file)
unfolding stage_behind
item_here file front from n s b fields t h is p =
    let i : Item = item_in t fields in
    let rest : List ℕ = drop from file in
    let r : List ℕ = drop (size_of t) fields ++ drop n rest in
    let size : ℕ = 1 + size_of t in
    let parts : rest ≡ item_bytes i ++ r = sym (take-append-drop n rest) ∙ ap (λ (l : List ℕ). l ++ drop n rest) (sym is ∙ p.spelled) ∙ append_assoc (item_bytes i) (drop (size_of t) fields) (drop n rest) in
    let whole = p.whole in
    let item_len : length (item_bytes i) ≡ size =
    (let e : length (b ∷ fields) ≡ length (item_bytes i) + length (drop (size_of t) fields) = ap (λ (l : List ℕ). length l) p.spelled ∙ length-append (item_bytes i) (drop (size_of t) fields) in
    let d = length-drop (size_of t) fields in omega (arith, e, d, whole)) in
    let next : r ≡ drop (from + size) file = sym (drop_at (item_bytes i) r size item_len) ∙ ap (drop size) (sym parts) ∙ drop-drop size from file in
    let follows : Succeeds (stage_behind Opening front) i = subst (λ q. Succeeds q i) h.stage_is p.follows in
    let f : Front file (front ++ i ∷ []) (drop (from + size) file) = subst (λ (l : List ℕ). Front file (front ++ i ∷ []) l) next (Front-more file front rest i r h.begins parts p.fits follows) in
    let inside : from + size ≤ length file =
    (let a : length rest ≡ length (item_bytes i) + length r = ap (λ (l : List ℕ). length l) parts ∙ length-append (item_bytes i) r in let d = length-drop from file in omega (arith, a, d, item_len)) in (
      record {
        begins = f;
        from_is = (let e : length file ≡ 8 + length (flat_map item_bytes (front ++ i ∷ []) ++ drop (from + size) file) = sym (ap (λ (l : List ℕ). length l) f.spells) ∙ length-append record_magic _ in
            let a = length-append (flat_map item_bytes (front ++ i ∷ [])) (drop (from + size) file) in let d = length-drop (from + size) file in
            let sp : length (record_of (front ++ i ∷ [])) ≡ 8 + length (flat_map item_bytes (front ++ i ∷ [])) = length-append record_magic _ in omega (arith, e, a, d, sp, inside));
        stage_is = ap (λ q. stage_after q i) h.stage_is ∙ sym (stage_behind-append Opening front (i ∷ []));
      },
      inside,
    )

-- bytes that begin with an item
record FirstItem (s : Stage) (bytes : List ℕ) (t : Tag) : Type 0 where
  first : ℕ
  fields : List ℕ
  is : first ∷ fields ≡ bytes
  spells : SpelledItem s t first fields

first_item : (s : Stage) (bytes : List ℕ) (t : Tag) → IsBytes bytes → Ok (Some t) ≡ judged s bytes → FirstItem s bytes t
first_item s [] t are j = absurd (let r = judged_ok _ _ (Some t) j in let none = r.1 in cc)
first_item s (b ∷ fields) t are j =
    let r = judged_ok (wrong_behind s (b ∷ fields)) (front_tag (b ∷ fields)) (Some t) j in
    let right : wrong_item s (Some t) fields ≡ None = ap (λ o. wrong_item s o fields) (sym r.1) ∙ open_item s b fields r.0 in
    record { first = b; fields = fields; is = refl; spells = spelled_item s t b fields (bytes_tail b fields are) r.1 right }

-- an item that is read is in its ranges, and its fields are there
pub item_fits : (s : Stage) (bytes : List ℕ) (t : Tag) (i : Item) → IsBytes bytes → Ok (Some t) ≡ judged s bytes → i ≡ item_in t (drop 1 bytes) → IsItem i
item_fits s bytes t i are j is =
    let w = first_item s bytes t are j in
    subst IsItem (sym (is ∙ ap (λ (l : List ℕ). item_in t (drop 1 l)) (sym w.is))) w.spells.fits

pub item_whole : (s : Stage) (bytes : List ℕ) (t : Tag) → IsBytes bytes → Ok (Some t) ≡ judged s bytes → size_of t < length bytes
item_whole s bytes t are j =
    let w = first_item s bytes t are j in
    let whole = w.spells.whole in
    let e : suc (length w.fields) ≡ length bytes = ap (λ (l : List ℕ). length l) w.is in
    omega (arith, whole, e)

pub judged_whole : (s : Stage) (bytes : List ℕ) (found : Option Tag) → IsBytes bytes → Ok found ≡ judged s bytes → IfSome found (λ t. size_of t < length bytes)
judged_whole s bytes None are j = tt
judged_whole s bytes (Some t) are j = item_whole s bytes t are j

-- ---- where the reader stands

at_place : (file : List ℕ) (front : List Item) (at from : ℕ) (s : Stage) → ((at ≡ 0) × (front ≡ [])) ⊎ ((at ≡ length (record_of front)) × Begins file front (drop at file)) → s ≡ stage_behind Opening front
    → (at ≡ 0 → (from ≡ 8) × (magic_fault file ≡ None)) → ((at ≡ 0 → ⊥) → from ≡ at) → Here file front from s
at_place file front at from s (inl start) stage_is none some =
    let m = none start.0 in
    let h : Here file [] 8 s = record { begins = record { spells = magic_stands file m.1; fields = tt; stands = tt }; from_is = refl; stage_is = stage_is ∙ ap (stage_behind Opening) start.1 } in
    subst (λ (l : List Item). Here file l from s) (sym start.1) (subst (λ k. Here file [] k s) (sym m.0) h)
at_place file front at from s (inr behind) stage_is none some =
    let far : at ≡ 0 → ⊥ = λ zero. (let a = behind.0 in let l = length-append record_magic (flat_map item_bytes front) in omega (arith, zero, a, l)) in
    let is : from ≡ at = some far in
    let h : Here file front at s = record { begins = Begins-front file front (drop at file) behind.1; from_is = behind.0; stage_is = stage_is } in
    subst (λ k. Here file front k s) (sym is) h

-- a reader that stands where it stood
stands_still : (file : List ℕ) (front : List Item) (old new : Reader) → StandsBehind old.at old.stage file front → new.at ≡ old.at → new.stage ≡ old.stage → StandsBehind new.at new.stage file front
stands_still file front old new stands at stage =
    subst (λ k. StandsBehind k new.stage file front) (sym at) (subst (λ q. StandsBehind old.at q file front) (sym stage) stands)

-- where the reader stands, once the magic is read
here_at : (file : List ℕ) (front : List Item) (at from : ℕ) (s : Stage) → StandsBehind at s file front → TellsStart file at (Ok from) → Here file front from s
here_at file front at from s b start = at_place file front at from s b.place b.stage_is start.0 start.1

-- ---- the answers, if the shelf tells the file

-- what a call of `next` says of a file
abbrev pub TellsNext : Option (List ℕ) → Reader → Reader → Result (Option Item) NextFault → Type 0
TellsNext told old new result =
    IfSome told (λ bytes. (front : List Item) → IsBehind old (readable bytes) front → ReadsNext (readable bytes) front new result)

-- what was read ahead, in two calls
ahead_on : (b : List ℕ) (now : Option (List ℕ)) (old mid : Ahead) (P : List ℕ → Type 0) → now ≡ Some b → OfFile (Some b) old (λ file. IsAhead mid file) → OfFile now mid P → IsAhead old (readable b) → P (readable b)
ahead_on b now old mid P same first second is =
    let there : OfFile (Some b) mid P = subst (λ o. OfFile o mid P) same second in there (first is)

pub told_wrong : (told now : Option (List ℕ)) (old new : Reader) (mid : Ahead) (from : ℕ) (bytes : List ℕ) (e : Wrong) (r : RecordFault) → now ≡ told
    → OfFile told old.ahead (λ file. TellsStart file old.at (Ok from)) → OfFile told old.ahead (λ file. IsAhead mid file)
    → OfFile now mid (λ file. IsWindow file from (ahead_from from new.ahead)) → OfFile now mid (λ file. IsAhead new.ahead file) → bytes ≡ ahead_from from new.ahead
    → Err e ≡ judged old.stage bytes → r ≡ fault_of (from + length bytes) from e → new.at ≡ old.at → new.stage ≡ old.stage → TellsNext told old new (Err (Record r))
told_wrong None now old new mid from bytes e r same start ahead window more is j fault at stage = tt
told_wrong (Some b) now old new mid from bytes e r same start ahead window more is j fault at stage = λ front behind.
    let w : IsWindow (readable b) from bytes = subst (λ (l : List ℕ). IsWindow (readable b) from l) (sym is) (ahead_on b now old.ahead mid (λ file. IsWindow file from (ahead_from from new.ahead)) same ahead window behind.1) in
    record {
      behind = (stands_still (readable b) front old new behind.0 at stage, ahead_on b now old.ahead mid (λ file. IsAhead new.ahead file) same ahead more behind.1);
      answer = subst (λ f. HasFaultAt (readable b) front f) (sym fault) (here_wrong (readable b) front from old.stage bytes e (here_at (readable b) front old.at from old.stage behind.0 (start behind.1)) w j);
    }

pub told_none : (told now : Option (List ℕ)) (old new : Reader) (mid : Ahead) (from : ℕ) (bytes : List ℕ) → now ≡ told
    → OfFile told old.ahead (λ file. TellsStart file old.at (Ok from)) → OfFile told old.ahead (λ file. IsAhead mid file)
    → OfFile now mid (λ file. IsWindow file from (ahead_from from new.ahead)) → OfFile now mid (λ file. IsAhead new.ahead file) → bytes ≡ ahead_from from new.ahead
    → Ok None ≡ judged old.stage bytes → new.at ≡ old.at → new.stage ≡ old.stage → TellsNext told old new (Ok None)
told_none None now old new mid from bytes same start ahead window more is j at stage = tt
told_none (Some b) now old new mid from bytes same start ahead window more is j at stage = λ front behind.
    let w : IsWindow (readable b) from bytes = subst (λ (l : List ℕ). IsWindow (readable b) from l) (sym is) (ahead_on b now old.ahead mid (λ file. IsWindow file from (ahead_from from new.ahead)) same ahead window behind.1) in
    record {
      behind = (stands_still (readable b) front old new behind.0 at stage, ahead_on b now old.ahead mid (λ file. IsAhead new.ahead file) same ahead more behind.1);
      answer = here_end (readable b) front from old.stage bytes (here_at (readable b) front old.at from old.stage behind.0 (start behind.1)) w j;
    }

stands_here : (file : List ℕ) (front : List Item) (at end : ℕ) (s : Stage) → Here file front at s → at ≤ length file → length file ≤ 2 ^ 64 - 1 → end ≡ min at (2 ^ 64 - 1) → StandsBehind end s file front
stands_here file front at end s h inside fits is =
    let same : end ≡ at = omega (arith, is, inside, fits) in
    record {
      place = inr (same ∙ h.from_is, subst (λ k. Begins file front (drop k file)) (sym same) (Front-begins file front (drop at file) h.begins));
      stage_is = h.stage_is;
    }

answers_item : (file : List ℕ) (front : List Item) (from end : ℕ) (s s' : Stage) (bytes : List ℕ) (t : Tag) (i : Item) → Here file front from s → IsWindow file from bytes → IsBytes bytes → length file ≤ 2 ^ 64 - 1
    → Ok (Some t) ≡ judged s bytes → i ≡ item_in t (drop 1 bytes) → end ≡ min (from + (1 + size_of t)) (2 ^ 64 - 1) → s' ≡ stage_after s i → StandsBehind end s' file (front ++ i ∷ [])
answers_item file front from end s s' bytes t i h window are fits j is end_is stage_is =
    let w = first_item s bytes t are j in
    let next = item_here file front from (length bytes) s w.first w.fields t h (w.is ∙ window.stand) w.spells in
    let item : item_in t w.fields ≡ i = sym (is ∙ ap (λ (l : List ℕ). item_in t (drop 1 l)) (sym w.is)) in
    let here : Here file (front ++ i ∷ []) (from + (1 + size_of t)) (stage_after s i) = subst (λ x. Here file (front ++ x ∷ []) (from + (1 + size_of t)) (stage_after s x)) item next.0 in
    subst (λ x. StandsBehind end x file (front ++ i ∷ [])) (sym stage_is) (stands_here file (front ++ i ∷ []) (from + (1 + size_of t)) end (stage_after s i) here next.1 fits end_is)

pub told_item : (told now : Option (List ℕ)) (old new : Reader) (mid : Ahead) (from : ℕ) (bytes : List ℕ) (t : Tag) (i : Item) → now ≡ told
    → OfFile told old.ahead (λ file. TellsStart file old.at (Ok from)) → OfFile told old.ahead (λ file. IsAhead mid file)
    → OfFile now mid (λ file. IsWindow file from (ahead_from from new.ahead)) → OfFile now mid (λ file. IsAhead new.ahead file) → bytes ≡ ahead_from from new.ahead
    → IsBytes bytes → Ok (Some t) ≡ judged old.stage bytes → i ≡ item_in t (drop 1 bytes) → new.at ≡ min (from + (1 + size_of t)) (2 ^ 64 - 1) → new.stage ≡ stage_after old.stage i
    → TellsNext told old new (Ok (Some i))
told_item None now old new mid from bytes t i same start ahead window more is are j item at stage = tt
told_item (Some b) now old new mid from bytes t i same start ahead window more is are j item at stage = λ front behind.
    let w : IsWindow (readable b) from bytes = subst (λ (l : List ℕ). IsWindow (readable b) from l) (sym is) (ahead_on b now old.ahead mid (λ file. IsWindow file from (ahead_from from new.ahead)) same ahead window behind.1) in
    record {
      behind = (
        answers_item (readable b) front from new.at old.stage new.stage bytes t i (here_at (readable b) front old.at from old.stage behind.0 (start behind.1)) w are (omega (arith, length-take (2 ^ 64 - 1) b)) j item at stage,
        ahead_on b now old.ahead mid (λ file. IsAhead new.ahead file) same ahead more behind.1,
      );
      answer = tt;
    }
