-- The history of a run is what it was as the run began, and then what its steps did. What was stored last by both is
-- what was stored last by these since, and loads give it.
use Rattle.std.proofs.Common.{◌≡◌, ◌∙◌, ℕ, zero, suc, ◌+◌, ◌-◌, ◌%◌, Bool, true, false, ◌&&◌, cond, List, [], ◌∷◌, ◌++◌, length, take, slice_get, slice_index, Option, Some, None, refl, sym, ap, arith, append_assoc, append-nil}
use Rattle.std.specs.Prelude.{◌==◌}
use Rattle.std.specs.Int.{w32, to_le_bytes}
use Rattle.std.proofs.lemmas.List.{length-append}
use Rattle.cloak_base.specs.Pages.{same_page, is_of, page_in}
use Rattle.cloak_base.specs.declared.names.PageId.{PageId}
use Rattle.rv_atomic.specs.Combine.{combined}
use Rattle.cloak_model.specs.declared.image.Program.{Program}
use Rattle.cloak_model.specs.DomainState.{Domain}
use Rattle.cloak_model.specs.StoredFiles.{FileContents}
use Rattle.kernel_isolation.specs.Isolation.{joint_until}
use Rattle.page_law.specs.Ciphers.{items_of_turn}
use Rattle.page_law.specs.OwnPages.{context_of_step}
use Rattle.latest_store.specs.Deeds.{step_moves, end_moves}
use Rattle.latest_store.specs.LatestStore.{made_pages, made_programs, files_of, made_file, made_files, resource_of_file, history_until}
use Rattle.latest_store.specs.Moves.{Move, Makes, Stores, Combines, Copies, Zeros, Drops, Loads, covers, value_from, latest, loads_of, with_moves}
use Rattle.chain_law.specs.Chain.{MadeRun, history, moves_until, latest_since, loads_since, LatestIsSince}
use Rattle.latest_store.proofs.Begun.{contents_loads}

pub since_append : (moves before : List Move) (q : PageId) (at : ℕ) →
    latest (moves ++ before) q at ≡ latest_since (latest before) moves q at
unfolding latest latest_since
since_append [] before q at = refl
since_append (Makes p bytes ∷ moves) before q at =
    ap (λ (byte : ℕ). cond (same_page q p) (slice_index bytes at) byte) (since_append moves before q at)
since_append (Stores p from width value ∷ moves) before q at =
    ap (λ (byte : ℕ).
    cond (same_page q p && covers from width at) (slice_index (to_le_bytes w32 value) (at - from)) byte)
    (since_append moves before q at)
since_append (Combines p from op operand ∷ moves) before q at =
    let same : latest (moves ++ before) p ≡ latest_since (latest before) moves p =
    λ i at'. since_append moves before p at' i in
    ap (λ (bytes : ℕ → ℕ). cond (same_page q p && covers from 4 at)
    (slice_index (to_le_bytes w32 (combined op (value_from bytes from 4) operand)) (at - from))
    (latest (moves ++ before) q at)) same
    ∙ ap (λ (byte : ℕ). cond (same_page q p && covers from 4 at)
    (slice_index (to_le_bytes w32
    (combined op (value_from (latest_since (latest before) moves p) from 4) operand)) (at - from)) byte)
    (since_append moves before q at)
since_append (Copies domain from to ∷ moves) before q at =
    ap (λ (byte : ℕ). cond (is_of domain to q) byte (latest (moves ++ before) q at))
    (since_append moves before (page_in from q) at)
    ∙ ap (λ (byte : ℕ). cond (is_of domain to q) (latest_since (latest before) moves (page_in from q) at) byte)
    (since_append moves before q at)
since_append (Zeros domain resource ∷ moves) before q at =
    ap (λ (byte : ℕ). cond (is_of domain resource q) 0 byte) (since_append moves before q at)
since_append (Drops domain resource ∷ moves) before q at =
    ap (λ (byte : ℕ). cond (is_of domain resource q) 0 byte) (since_append moves before q at)
since_append (Loads p address width ∷ moves) before q at = since_append moves before q at

none_before : latest [] ≡ (λ page place. 0)
unfolding latest
none_before = refl

pub latest_is_since : LatestIsSince
latest_is_since moves q at =
    ap (λ (all : List Move). latest all q at) (sym (append-nil moves))
    ∙ (since_append moves [] q at
    ∙ ap (λ (before : PageId → ℕ → ℕ). latest_since before moves q at) none_before)

-- The loads.

abbrev loaded : Bool → List (ℕ × ℕ) → ℕ → ℕ → List (ℕ × ℕ)
loaded own rest address value = cond own (rest ++ (address, value) ∷ []) rest

loaded_append : (own : Bool) (first rest : List (ℕ × ℕ)) (address value : ℕ) →
    loaded own (first ++ rest) address value ≡ first ++ loaded own rest address value
loaded_append true first rest address value = append_assoc first rest ((address, value) ∷ [])
loaded_append false first rest address value = refl

pub loads_append : (moves before : List Move) (d : ℕ) →
    loads_of d (moves ++ before) ≡ loads_of d before ++ loads_since (latest before) d moves
unfolding loads_of loads_since
loads_append [] before d = sym (append-nil (loads_of d before))
loads_append (Makes p bytes ∷ moves) before d = loads_append moves before d
loads_append (Stores p from width value ∷ moves) before d = loads_append moves before d
loads_append (Combines p from op operand ∷ moves) before d = loads_append moves before d
loads_append (Copies domain from to ∷ moves) before d = loads_append moves before d
loads_append (Zeros domain resource ∷ moves) before d = loads_append moves before d
loads_append (Drops domain resource ∷ moves) before d = loads_append moves before d
loads_append (Loads q address width ∷ moves) before d =
    let same : latest (moves ++ before) q ≡ latest_since (latest before) moves q =
    λ i at. since_append moves before q at i in
    ap (λ (bytes : ℕ → ℕ). loaded (q.domain == d) (loads_of d (moves ++ before)) address
    (value_from bytes (address % 4096) width)) same
    ∙ (ap (λ (rest : List (ℕ × ℕ)). loaded (q.domain == d) rest address
    (value_from (latest_since (latest before) moves q) (address % 4096) width)) (loads_append moves before d)
    ∙ loaded_append (q.domain == d) (loads_of d before) (loads_since (latest before) d moves) address
    (value_from (latest_since (latest before) moves q) (address % 4096) width))

-- An opening completes none.

file_load : (d : ℕ) (f : FileContents) (o : Option ℕ) (history : List Move) →
    loads_of d (made_file f o history) ≡ loads_of d history
file_load d f None history = refl
file_load d f (Some n) history = contents_loads d f.domain n 0 f.pages history

files_load : (d : ℕ) (domains : List Domain) (files : List FileContents) (history : List Move) →
    loads_of d (made_files domains files history) ≡ loads_of d history
files_load d domains [] history = refl
files_load d domains (f ∷ files) history =
    files_load d domains files _ ∙ file_load d f (resource_of_file domains f.domain f.number) history

pages_load : (d e : ℕ) (p : Program) (n : ℕ) (history : List Move) →
    loads_of d (made_pages e p n history) ≡ loads_of d history
unfolding loads_of
pages_load d e p zero history = refl
pages_load d e p (suc n) history = pages_load d e p n history

programs_load : (d e : ℕ) (programs : List Program) (history : List Move) →
    loads_of d (made_programs e programs history) ≡ loads_of d history
programs_load d e [] history = refl
programs_load d e (p ∷ programs) history =
    programs_load d (e + 1) programs (made_pages e p p.start.pages history)
    ∙ pages_load d e p p.start.pages history

pub no_load : (m : MadeRun) (d : ℕ) → loads_of d (history m 0) ≡ []
unfolding history_until loads_of
no_load m d =
    files_load d m.run.opened.joint.domains (files_of m.from) (made_programs 0 m.bundle.programs [])
    ∙ programs_load d 0 m.bundle.programs []

-- What steps did.

with_append : (moves later before : List Move) → with_moves moves (later ++ before) ≡ with_moves moves later ++ before
with_append [] later before = refl
with_append (m ∷ moves) later before = with_append moves (m ∷ later) before

record Grows (m : MadeRun) (n : ℕ) : Type 0 where
  pub moves : List Move
  pub is : history m n ≡ moves ++ history m 0

grows : (m : MadeRun) (n : ℕ) → Grows m n
unfolding history_until
grows m zero = record { moves = []; is = refl }
grows m (suc n) =
    let rest = grows m n in
    let items = items_of_turn (slice_get m.run.turns n) in
    let did : List Move =
    step_moves (history m n) (joint_until n m.run).domains (context_of_step m.bundle m.run n) items in
    record {
      moves = with_moves (end_moves items) (with_moves did rest.moves);
      is = ap (λ (h : List Move). with_moves (end_moves items) (with_moves did h)) rest.is
          ∙ (ap (with_moves (end_moves items)) (with_append did rest.moves (history m 0))
          ∙ with_append (end_moves items) (with_moves did rest.moves) (history m 0));
    }

take_first : (xs ys : List Move) → take (length xs) (xs ++ ys) ≡ xs
take_first [] ys = refl
take_first (x ∷ xs) ys = ap (λ (l : List Move). x ∷ l) (take_first xs ys)

taken : (n : ℕ) (xs ys all : List Move) → all ≡ xs ++ ys → n ≡ length xs → take n all ≡ xs
taken n xs ys all is count =
    ap (take n) is ∙ (ap (λ (k : ℕ). take k (xs ++ ys)) count ∙ take_first xs ys)

pub history_is : (m : MadeRun) (n : ℕ) → history m n ≡ moves_until m n ++ history m 0
history_is m n =
    let g = grows m n in
    let long = ap length g.is ∙ length-append g.moves (history m 0) in
    let count : length (history m n) - length (history m 0) ≡ length g.moves = omega (arith, long) in
    g.is ∙ ap (λ (l : List Move). l ++ history m 0) (sym (taken _ g.moves (history m 0) (history m n) g.is count))
