-- What `clap` says of the tools' command, and what is read of it.
use Rattle.std.proofs.Common.{◌≡◌, ◌≢◌, ◌^◌, ℕ, Bool, true, false, List, [], ◌∷◌, length, nat_lt, refl, sym, ap, ap₂}
use Rattle.std.proofs.Common.{◌∙◌, inl, inr, lt-ltb, ltb-true, Option, Some, None, Result, Ok, Err}
use Rattle.std.specs.Prelude.{option_and_then, option_map, unwrap_or}
use Rattle.std.specs.Option.{option_map_or}
use Rattle.std.specs.Result.{result_unwrap_or}
use Rattle.std.proofs.lemmas.Option.{same_Some, none-some}
use Rattle.std.specs.List.{list_all}
use Rattle.std.specs.Char.{digit_value}
use Rattle.std.specs.Str.Parse.{AllDigits, ParsesUnsigned, digits_value, without_leading_plus}
use Rattle.std.proofs.lemmas.Bool.{and_parts}
use Rattle.clap.specs.Words.{App, HasKind, IsAmong, Kinds, ReadsOne, Row, fault_of, is_simple, is_simple_and_free, kind_of, subcommand_of}
use Rattle.clap.specs.Walk.{Text}
use Rattle.clap.specs.declared.error.Error.{Error}
use Rattle.clap.specs.declared.error.kind.ErrorKind.TheVariants.{OutOfMemory}
use Rattle.tool_words.specs.ToolForms.{tools_form}
use Rattle.tool_words.specs.ToolCommand.{ToolAsked, is_step, number_in, step_or, tool_asked_by, tool_asked_with}
use Rattle.tool_words.specs.ToolRequest.{ReadsTool, SaysFault}
use Rattle.tool_words.specs.declared.request.ToolWords.{ToolWords}
use Rattle.tool_words.specs.declared.request.ToolWords.TheVariants.{Asks, Help, Faulty}

-- The command is simple, and its arguments have no rules on one another.

simple_and_free : is_simple_and_free tools_form ≡ true
simple_and_free = refl

pub tools_simple_and_free : (form : App) → form ≡ tools_form → is_simple_and_free form ≡ true
tools_simple_and_free form same = ap (λ a. is_simple_and_free a) same ∙ simple_and_free

simple : is_simple tools_form ≡ true
simple = refl

pub tools_simple : (form : App) → form ≡ tools_form → is_simple form ≡ true
tools_simple form same = ap (λ a. is_simple a) same ∙ simple

-- Words that are not taken.

among : (kinds : Kinds) (error : Error) → HasKind kinds error → kind_of error ≢ OutOfMemory →
    IsAmong (kind_of error) kinds
among kinds error has other = elim has [
  | inl memory ↦ absurd (other memory)
  | inr is ↦ is
]

pub not_taken : (words : List Text) (error : Error) (read : ToolWords) → HasKind (fault_of tools_form words) error →
    SaysFault (kind_of error) read → ReadsTool words read
not_taken words error (Asks request) has says = absurd says
not_taken words error (Help text) has says =
    record { kind = kind_of error; among = among _ error has says.1; helps = says.0 }
not_taken words error (Faulty text) has says =
    inl (record { kind = kind_of error; among = among _ error has says.1; helps = says.0 })

-- The name and the matches of a subcommand, from both of its getters.

abbrev both_of : {X Y Z : Type 0} → (X → Y) → (X → Z) → X → Y × Z
both_of f g x = (f x, g x)

pub both_found : {X Y Z : Type 0} (f : X → Y) (g : X → Z) (o : Option X) (y : Y) (z : Z) →
    Some y ≡ option_map f o → Some z ≡ option_map (λ (p : Y × Z). p.1) (option_map (both_of f g) o) →
    option_map (both_of f g) o ≡ Some (y, z)
both_found f g None y z named found = absurd (none-some y (sym named))
both_found {X} {Y} {Z} f g (Some x) y z named found =
    ap₂ (λ (a : Y) (b : Z). Some (a, b)) (sym (same_Some _ _ named)) (sym (same_Some _ _ found))

pub none_found : {X Y : Type 0} (g : X → Y) (o : Option X) → None ≡ option_map g o → o ≡ None
none_found g None none = refl
none_found g (Some x) none = absurd (none-some (g x) none)

pub asks_found : (form : App) (words : List Text) (name : Text) (rows : List Row) (asked : ToolAsked) →
    form ≡ tools_form → subcommand_of form words ≡ Some (name, rows) → asked ≡ tool_asked_with name rows →
    tool_asked_by words ≡ Some asked
asks_found form words name rows asked is found same =
    ap (option_map (λ (p : Text × List Row). tool_asked_with p.0 p.1))
    (ap (λ (f : App). subcommand_of f words) (sym is) ∙ found)
    ∙ ap (λ (a : ToolAsked). Some a) (sym same)

pub asks_none : (form : App) (words : List Text) → form ≡ tools_form → subcommand_of form words ≡ None →
    tool_asked_by words ≡ None
asks_none form words is found =
    ap (option_map (λ (p : Text × List Row). tool_asked_with p.0 p.1))
    (ap (λ (f : App). subcommand_of f words) (sym is) ∙ found)

-- The step of a text.

digits_pass : (digits : List ℕ) → AllDigits 10 digits → list_all (λ d. nat_lt (digit_value d) 10) digits ≡ true
digits_pass [] all = refl
digits_pass (d ∷ digits) all = rw (lt-ltb (digit_value d) 10 all.0) (digits_pass digits all.1)

digits_from : (digits : List ℕ) → list_all (λ d. nat_lt (digit_value d) 10) digits ≡ true → AllDigits 10 digits
digits_from [] pass = tt
digits_from (d ∷ digits) pass =
    let parts = and_parts _ _ pass in
    (ltb-true _ _ parts.0, digits_from digits parts.1)

text_read : {E : Type 0} (text : Text) (r : Result ℕ E) (otherwise : ℕ) → ParsesUnsigned 32 10 text r →
    result_unwrap_or r otherwise ≡ step_or otherwise text
text_read text (Ok n) otherwise h =
    let digits = without_leading_plus text in
    rw (lt-ltb 0 (length digits) h.0.0.0, digits_pass digits h.0.0.1, lt-ltb (digits_value 10 digits) (2 ^ 32) h.0.1) h.1
text_read text (Err e) otherwise h = go (is_step (without_leading_plus text)) refl
  where
    go : (b : Bool) → is_step (without_leading_plus text) ≡ b → otherwise ≡ step_or otherwise text
    go false is = rw is refl
    go true is =
        let outer = and_parts _ _ is in
        let inner = and_parts _ _ outer.1 in
        absurd (h ((ltb-true _ _ outer.0, digits_from (without_leading_plus text) inner.0), ltb-true _ _ inner.1))

pub step_read : {E : Type 0} (P : Text → Result ℕ E → Type 0) (o : Option Text) (r : Option ℕ) (otherwise : ℕ) →
    ((t : Text) (x : Result ℕ E) → P t x → ParsesUnsigned 32 10 t x) → (o ≡ None → r ≡ None) →
    ((t : Text) → o ≡ Some t → ReadsOne P t r) →
    unwrap_or r otherwise ≡ option_map_or (step_or otherwise) o otherwise
step_read {E} P None r otherwise parses none some = ap (λ (x : Option ℕ). unwrap_or x otherwise) (none refl)
step_read {E} P (Some t) (Some v) otherwise parses none some =
    text_read {E = E} t (Ok v) otherwise (parses t (Ok v) (some t refl))
step_read {E} P (Some t) None otherwise parses none some =
    let read = some t refl in
    text_read {E = E} t (Err read.0) otherwise (parses t (Err read.0) read.1)

-- The number of a text.

number_ok : (E : Type 0) (text : Text) (n : ℕ) → ParsesUnsigned {E = E} 32 10 text (Ok n) → Some n ≡ number_in text
number_ok E text n h =
    let digits = without_leading_plus text in
    rw (lt-ltb 0 (length digits) h.0.0.0, digits_pass digits h.0.0.1, lt-ltb (digits_value 10 digits) (2 ^ 32) h.0.1)
    (ap (λ (v : ℕ). Some v) h.1)

number_none : {E : Type 0} (text : Text) (e : E) → ParsesUnsigned 32 10 text (Err e) → None ≡ number_in text
number_none text e h = go (is_step (without_leading_plus text)) refl
  where
    go : (b : Bool) → is_step (without_leading_plus text) ≡ b → None ≡ number_in text
    go false is = rw is refl
    go true is =
        let outer = and_parts _ _ is in
        let inner = and_parts _ _ outer.1 in
        absurd (h ((ltb-true _ _ outer.0, digits_from (without_leading_plus text) inner.0), ltb-true _ _ inner.1))

pub number_read : {E : Type 0} (P : Text → Result ℕ E → Type 0) (o : Option Text) (r : Option ℕ) →
    ((t : Text) (x : Result ℕ E) → P t x → ParsesUnsigned 32 10 t x) → (o ≡ None → r ≡ None) →
    ((t : Text) → o ≡ Some t → ReadsOne P t r) → r ≡ option_and_then number_in o
number_read {E} P None r parses none some = none refl
number_read {E} P (Some t) (Some v) parses none some = number_ok E t v (parses t (Ok v) (some t refl))
number_read {E} P (Some t) None parses none some =
    let read = some t refl in
    number_none {E = E} t read.0 (parses t (Err read.0) read.1)
