-- One reading after another, as functions make them.
use Rattle.std.proofs.Common.{◌≡◌, ℕ, List, Result, Ok, Err, IsErrAnd, refl, sym, subst}
use Rattle.manifest.specs.declared.fault.FaultyKey.{FaultyKey}
use Rattle.manifest.specs.declared.fault.PackFault.{PackFault}
use Rattle.manifest.specs.declared.fault.PackFault.TheVariants.{AtKey}
use Rattle.manifest.specs.declared.fault.PackError.{PackError}
use Rattle.manifest.specs.declared.fault.PackError.TheVariants.{ReadFault, NoMemory, Faulty}
use Rattle.manifest.specs.Faults.{Fault, at_key, fault_of, After, ReturnsRead}
use Rattle.manifest.specs.Fields.{Shows}
use Rattle.manifest.specs.Reading.{IsNoFault, IsWant}

pub after_ok : {A B : Type 0} (m : Result A Fault) (x : A) (Rest : A → Result B Fault → Type 0) (r : Result B Fault) →
    m ≡ Ok x → Rest x r → After m Rest r
after_ok {A} m x Rest r is rest = subst (λ (w : Result A Fault). After w Rest r) (sym is) rest

pub after_err : {A B : Type 0} (m : Result A Fault) (fault : Fault) (Rest : A → Result B Fault → Type 0) →
    m ≡ Err fault → After m Rest (Err fault)
after_err {A} m fault Rest is = subst (λ (w : Result A Fault). After w Rest (Err fault)) (sym is) refl

-- A function hands on why another one returned nothing.
pub hands_on : {X Y A B : Type 0} (view : X → A) (see : Y → B) (First : Result A Fault → Type 0)
    (Whole : Result B Fault → Type 0) (e : PackError) (r : Result Y PackError) →
    ((fault : Fault) → First (Err fault) → Whole (Err fault)) → ReturnsRead view First (Err e) → IsErrAnd r (λ f. f ≡ e) →
    ReturnsRead see Whole r
hands_on view see First Whole e (Ok y) up given is = absurd is
hands_on {X} {Y} view see First Whole ReadFault (Err f) up given is =
    subst (λ (x : PackError). ReturnsRead {X = Y} see Whole (Err x)) (sym is) tt
hands_on {X} {Y} view see First Whole NoMemory (Err f) up given is =
    subst (λ (x : PackError). ReturnsRead {X = Y} see Whole (Err x)) (sym is) tt
hands_on {X} {Y} view see First Whole (Faulty fault) (Err f) up given is =
    subst (λ (x : PackError). ReturnsRead {X = Y} see Whole (Err x)) (sym is) (up (fault_of fault) given)

-- the same of a function that finds no fault of a manifest
pub hands_no_fault : {Y B : Type 0} (see : Y → B) (Whole : Result B Fault → Type 0) (e : PackError)
    (r : Result Y PackError) → IsNoFault e → IsErrAnd r (λ f. f ≡ e) → ReturnsRead see Whole r
hands_no_fault see Whole e (Ok y) given is = absurd is
hands_no_fault {Y} see Whole ReadFault (Err f) given is =
    subst (λ (x : PackError). ReturnsRead {X = Y} see Whole (Err x)) (sym is) tt
hands_no_fault {Y} see Whole NoMemory (Err f) given is =
    subst (λ (x : PackError). ReturnsRead {X = Y} see Whole (Err x)) (sym is) tt
hands_no_fault see Whole (Faulty fault) (Err f) given is = absurd given

pub want_no_fault : (e : PackError) → IsWant e → IsNoFault e
want_no_fault ReadFault want = absurd want
want_no_fault NoMemory want = tt
want_no_fault (Faulty fault) want = absurd want

pub lacks : {Y B : Type 0} (see : Y → B) (Whole : Result B Fault → Type 0) (r : Result Y PackError) →
    IsErrAnd r (λ f. f ≡ NoMemory) → ReturnsRead see Whole r
lacks see Whole (Ok y) is = absurd is
lacks {Y} see Whole (Err f) is = subst (λ (x : PackError). ReturnsRead {X = Y} see Whole (Err x)) (sym is) tt

-- A key is wrong.
pub key_fails : {Y B : Type 0} (see : Y → B) (Whole : Result B Fault → Type 0) (fault : FaultyKey)
    (r : Result Y PackError) → Whole (Err (at_key fault)) → IsErrAnd r (λ f. f ≡ Faulty (AtKey fault)) → ReturnsRead see Whole r
key_fails see Whole fault (Ok y) whole is = absurd is
key_fails {Y} see Whole fault (Err f) whole is =
    subst (λ (x : PackError). ReturnsRead {X = Y} see Whole (Err x)) (sym is) whole

pub key_wrong : {Y B : Type 0} (see : Y → B) (Whole : Result B Fault → Type 0) (fault : FaultyKey) (e : PackError) →
    Whole (Err (at_key fault)) → e ≡ Faulty (AtKey fault) → ReturnsRead see Whole (Err e)
key_wrong {Y} see Whole fault e whole is =
    subst (λ (x : PackError). ReturnsRead {X = Y} see Whole (Err x)) (sym is) whole

-- what is read is more than what another function read
pub answers_more : {X A B : Type 0} (view : X → A) (see : X → B) (First : Result A Fault → Type 0)
    (Whole : Result B Fault → Type 0) (r : Result X PackError) → ((fault : Fault) → First (Err fault) → Whole (Err fault)) →
    ((x : X) → First (Ok (view x)) → Whole (Ok (see x))) → ReturnsRead view First r → ReturnsRead see Whole r
answers_more view see First Whole (Ok x) up on given = on x given
answers_more view see First Whole (Err ReadFault) up on given = tt
answers_more view see First Whole (Err NoMemory) up on given = tt
answers_more view see First Whole (Err (Faulty fault)) up on given = up (fault_of fault) given
