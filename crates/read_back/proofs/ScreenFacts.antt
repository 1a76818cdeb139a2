-- What a screen shows of the pieces that it is given.
use Rattle.std.proofs.Common.{◌≡◌, ℕ, Bool, true, false, List, [], ◌∷◌, ◌++◌, Option, Result, Ok, Err, OnOk, OnErr, is_err, sym, subst, ◌∙◌}
use Rattle.cloak_base.specs.declared.causes.Failed.{Failed}
use Rattle.io_traits.specs.declared.sink.Sink as sinks
use Rattle.io_traits.specs.Told.{Grows, GrowsByFront, Counts}
use Rattle.io_traits.proofs.ToldFacts.{Grows-append, GrowsByFront-append, GrowsByFront-first, Rose-after}
use Rattle.cloak_model.proofs.Pieces.{shown-last, shown-recorded}
use Rattle.cloak_model.specs.Exchange.{recorded, shown, shown_bytes, Emits}
use Rattle.read_back.specs.declared.screen.Screen.{Screen}
use Rattle.read_back.specs.Screen.{ShowsText, GaveScreen}

-- what is for a record is not shown
pub emits_recorded : {O : Type 0} (sink : sinks.Ghosts O) (o : Screen O) (bytes : List ℕ) →
    Emits (GaveScreen sink) o o (recorded bytes ∷ [])
emits_recorded {O} sink o bytes = record {
  more = λ first before gave. record {
    output = gave.output;
    text = λ fresh.
        subst (λ (l : List ℕ). ShowsText o.failed (sink.taken first.out.now) (sink.taken o.out.now)
        (sink.faults first.out.now) (sink.faults o.out.now) l) (sym (shown-recorded before bytes)) (gave.text fresh);
  };
}

-- nothing is shown once the screen failed
failed_more : (failed : Bool) (old new : Option (List ℕ)) (m n : ℕ) (text more : List ℕ) → failed ≡ true →
    ShowsText failed old new m n text → ShowsText failed old new m n (text ++ more)
failed_more true old new m n text more is shows = (GrowsByFront-first old new text more shows.0, shows.1)
failed_more false old new m n text more is shows = absurd (let clash : false ≡ true = is in cc)

pub emits_none : {O : Type 0} (sink : sinks.Ghosts O) (o : Screen O) (bytes : List ℕ) →
    o.failed ≡ true → Emits (GaveScreen sink) o o (shown bytes ∷ [])
emits_none {O} sink o bytes failed = record {
  more = λ first before gave. record {
    output = gave.output;
    text = λ fresh.
        subst (λ (l : List ℕ). ShowsText o.failed (sink.taken first.out.now) (sink.taken o.out.now)
        (sink.faults first.out.now) (sink.faults o.out.now) l) (sym (shown-last before bytes))
        (failed_more o.failed _ _ _ _ (shown_bytes before) bytes failed (gave.text fresh));
  };
}

-- a text more was put, or nothing of it
put_more : {A : Type 0} (r : Result A Failed) (was now : Bool) (a b c : Option (List ℕ)) (m n k : ℕ) (text more : List ℕ) →
    was ≡ false → now ≡ is_err r → OnOk r (Grows b c more) → OnErr r (GrowsByFront b c more) → Counts n k r →
    ShowsText was a b m n text → ShowsText now a c m k (text ++ more)
put_more (Ok v) was true a b c m n k text more fresh is grows front counts shows = absurd (let clash : true ≡ false = is in cc)
put_more (Err e) was false a b c m n k text more fresh is grows front counts shows = absurd (let clash : false ≡ true = is in cc)
put_more r true now a b c m n k text more fresh is grows front counts shows = absurd (let clash : true ≡ false = fresh in cc)
put_more (Ok v) false false a b c m n k text more fresh is grows front counts shows =
    (Grows-append a b c text more shows.0 grows, counts ∙ shows.1)
put_more (Err e) false true a b c m n k text more fresh is grows front counts shows =
    (GrowsByFront-append a b c text more shows.0 front, Rose-after m n k shows.1 counts)

pub emits_shown : {O A : Type 0} (sink : sinks.Ghosts O) (old new : Screen O) (bytes : List ℕ)
    (r : Result A Failed) → old.failed ≡ false → new.failed ≡ is_err r → new.out.ghost_name ≡ old.out.ghost_name →
    OnOk r (Grows (sink.taken old.out.now) (sink.taken new.out.now) bytes) →
    OnErr r (GrowsByFront (sink.taken old.out.now) (sink.taken new.out.now) bytes) →
    Counts (sink.faults old.out.now) (sink.faults new.out.now) r →
    Emits (GaveScreen sink) old new (shown bytes ∷ [])
emits_shown {O} {A} sink old new bytes r fresh failed same ok err counts = record {
  more = λ first before gave. record {
    output = same ∙ gave.output;
    text = λ begun.
        subst (λ (l : List ℕ). ShowsText new.failed (sink.taken first.out.now) (sink.taken new.out.now)
        (sink.faults first.out.now) (sink.faults new.out.now) l) (sym (shown-last before bytes))
        (put_more r old.failed new.failed (sink.taken first.out.now) (sink.taken old.out.now) (sink.taken new.out.now)
        (sink.faults first.out.now) (sink.faults old.out.now) (sink.faults new.out.now) (shown_bytes before) bytes fresh
        failed ok err counts (gave.text begun));
  };
}
