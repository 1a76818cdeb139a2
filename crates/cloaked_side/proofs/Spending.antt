-- How often frames are read, and by which events entries come about.
use Rattle.std.proofs.Common.{zero, suc, ◌≡◌, ◌∙◌, ◌+◌, ◌-◌, ◌^◌, ◌≤◌, ℕ, Bool, true, false, cond, List, [], ◌∷◌, ◌++◌, length, Option, Some, None, refl, sym, ap, subst, arith}
use Rattle.std.specs.Prelude.{min}
use Rattle.std.proofs.Math.Nat.{min-le_left}
use Rattle.cloak_model.specs.declared.access.Access.{Access}
use Rattle.cloak_model.specs.declared.access.Walked.{Walked}
use Rattle.std.specs.List.{All, count_by}
use Rattle.std.proofs.lemmas.List.Sums.{sum_by-append}
use Rattle.cloak_base.specs.Random.{Random}
use Rattle.cloak_base.specs.declared.names.Frame.{Frame}
use Rattle.cloak_base.specs.declared.names.Kind.{Kind}
use Rattle.cloak_base.specs.declared.names.PageId.{PageId}
use Rattle.cloak_base.specs.declared.names.SpaceId.{SpaceId}
use Rattle.cloak_model.specs.Items.{Item}
use Rattle.cloak_model.specs.Items.{Cipher}
use Rattle.cloak_model.specs.Events.{Event, Look, Touch, Offer, Born, Read, Write, Drop, Space}
use Rattle.cloak_model.specs.Record.{is_cipher}
use Rattle.cloak_model.specs.World.{cipher_items}
use Rattle.cloak_pager.specs.State.{PagerState}
use Rattle.cloak_pager.specs.Turns.{IsReadOnce, TouchTurns, OfferTurns, OfferedTurns}
use Rattle.cloak_pager.specs.declared.frame_right.FrameRight.{FrameRight}
use Rattle.cloak_pager.specs.declared.frame_right.FrameRight.TheVariants.{Outside, Clean, Changed, Spent as Gone}
use Rattle.cloak_pager.specs.declared.offering.Offered.{Offered}
use Rattle.cloak_pager.specs.declared.offering.Offered.TheVariants.{Ready, Mismatch}
use Rattle.cloak_base.specs.declared.names.Meta.{Meta}
use Rattle.shadow_fold.specs.Agreement.{IsMapped}
use Rattle.shadow_fold.specs.Births.{MakeAll}
use Rattle.shadow_fold.specs.Following.{killed_if, AreBirthCalls}
use Rattle.shadow_fold.specs.Fold.{entry_in}
use Rattle.shadow_fold.specs.Reads.{Spent, Spends, SpendsFor, counted_up, is_read, looks_in, reads_due}
use Rattle.shadow_fold.specs.Table.{Table, looked, one_more, ending, killed}
use Rattle.shadow_fold.specs.Entries.{is_target, is_table}
use Rattle.shadow_fold.specs.declared.entry.Entry.{Entry}
use Rattle.shadow_fold.specs.declared.entry.Regime.{Regime}
use Rattle.shadow_fold.proofs.Agreeing.{keeps_ending}
use Rattle.shadow_law.proofs.Misses.{keeps_birth}
use Rattle.cloaked_side.specs.declared.memory.Memory.{Memory}
use Rattle.cloaked_side.specs.Seeing.{paid, touched_since}
use Rattle.cloaked_side.specs.Tracking.{MapsBy, MapsStill, spent_in}
use Rattle.shadow_fold.proofs.Looks.{looks_then}

-- Reads.

counted_then : (more less n : ℕ) → counted_up (more + less) n ≡ counted_up more (counted_up less n)
unfolding counted_up
counted_then zero less n =
    let none : zero + less ≡ less = omega arith in
    ap (λ (k : ℕ). counted_up k n) none
counted_then (suc more) less n =
    let next : suc more + less ≡ suc (more + less) = omega arith in
    ap (λ (k : ℕ). counted_up k n) next ∙ ap one_more (counted_then more less n)

pub spends_none : (s : Spent) → Spends 0 0 s s
unfolding counted_up
spends_none s = record { missed = 0; few = omega arith; counted = refl; reads = omega arith }

pub spends_then : {i j : ℕ} (l k d n : ℕ) (a b c : Spent) → SpendsFor i l d a b → SpendsFor j k n b c →
    SpendsFor (i + j) (l + k) (d + n) a c
spends_then l k d n a b c p q = record {
  missed = q.missed + p.missed;
  few = (let one = p.few in let two = q.few in omega (arith, one, two));
  counted = q.counted ∙ ap (counted_up q.missed) p.counted ∙ sym (counted_then q.missed p.missed a.misses);
  reads = (let one = p.reads in let two = q.reads in omega (arith, one, two));
}

-- more is due, and fewer are left
pub spends_more : {i : ℕ} (l k d n : ℕ) (a b : Spent) → k + d ≤ l + n → SpendsFor i l d a b → SpendsFor i k n a b
spends_more l k d n a b more p = record {
  missed = p.missed;
  few = p.few;
  counted = p.counted;
  reads = (let it = p.reads in omega (arith, it, more));
}

-- of more looks
pub spends_looks : {i j left due : ℕ} {a b : Spent} → i ≤ j → SpendsFor i left due a b → SpendsFor j left due a b
spends_looks more p = record {
  missed = p.missed;
  few = (let it = p.few in omega (arith, it, more));
  counted = p.counted;
  reads = p.reads;
}

-- nothing was read, and no look missed
pub spends_still : (old new : Memory) → new.pager.reads ≡ old.pager.reads →
    new.shadows.counts.misses ≡ old.shadows.counts.misses → Spends 0 0 (spent_in old) (spent_in new)
unfolding counted_up
spends_still old new reads misses = record {
  missed = 0;
  few = omega arith;
  counted = misses;
  reads = omega (arith, reads);
}

-- a frame was read
pub spends_read : (old new : Memory) → IsReadOnce old.pager new.pager →
    new.shadows.counts.misses ≡ old.shadows.counts.misses → Spends 0 1 (spent_in old) (spent_in new)
unfolding counted_up
spends_read old new once misses =
    let reads : new.pager.reads ≡ min (old.pager.reads + 1) (2 ^ 64 - 1) = ap (λ (p : PagerState). p.reads) once in
    let most = min-le_left (old.pager.reads + 1) (2 ^ 64 - 1) in record {
      missed = 0;
      few = omega arith;
      counted = misses;
      reads = omega (arith, reads, most);
    }

-- a look that missed leaves the two words of its walk
pub spends_missed : (old new : Memory) → new.pager.reads ≡ old.pager.reads →
    new.shadows.counts.misses ≡ one_more old.shadows.counts.misses → SpendsFor 1 2 0 (spent_in old) (spent_in new)
unfolding counted_up
spends_missed old new reads misses = record {
  missed = 1;
  few = omega arith;
  counted = misses;
  reads = omega (arith, reads);
}

-- What is due.

pub due_then : (space : Option SpaceId) (es fs : List Event) (is js : List Item) →
    reads_due (record { space = space; events = es ++ fs; items = is ++ js; changed = [] })
    ≡ reads_due (record { space = space; events = es; items = is; changed = [] }) + reads_due (record { space = space; events = fs; items = js; changed = [] })
due_then space es fs is js =
    let events : count_by is_read (es ++ fs) ≡ count_by is_read es + count_by is_read fs = sum_by-append (λ e. cond (is_read e) 1 0) es fs in
    let items : count_by is_cipher (is ++ js) ≡ count_by is_cipher is + count_by is_cipher js = sum_by-append (λ i. cond (is_cipher i) 1 0) is js in
    omega (arith, events, items)

-- more events or items call for as many reads or more

pub due_events : (space : Option SpaceId) (es fs : List Event) (is : List Item) →
    reads_due (record { space = space; events = es; items = is; changed = [] }) ≤ reads_due (record { space = space; events = es ++ fs; items = is; changed = [] })
due_events space es fs is =
    let both : count_by is_read (es ++ fs) ≡ count_by is_read es + count_by is_read fs = sum_by-append (λ e. cond (is_read e) 1 0) es fs in
    omega (arith, both)

pub due_items : (space : Option SpaceId) (es : List Event) (is js : List Item) →
    reads_due (record { space = space; events = es; items = is; changed = [] }) ≤ reads_due (record { space = space; events = es; items = is ++ js; changed = [] })
due_items space es is js =
    let both : count_by is_cipher (is ++ js) ≡ count_by is_cipher is + count_by is_cipher js = sum_by-append (λ i. cond (is_cipher i) 1 0) is js in
    omega (arith, both)

-- one event more
pub due_event : (space : Option SpaceId) (es : List Event) (is : List Item) (e : Event) →
    reads_due (record { space = space; events = es ++ e ∷ []; items = is; changed = [] })
    ≡ reads_due (record { space = space; events = es; items = is; changed = [] }) + count_by is_read (e ∷ [])
due_event space es is e =
    let both : count_by is_read (es ++ e ∷ []) ≡ count_by is_read es + count_by is_read (e ∷ []) = sum_by-append (λ x. cond (is_read x) 1 0) es (e ∷ []) in
    omega (arith, both)

pub ciphers_due : (cs : List (ℕ × List ℕ)) → count_by is_cipher (cipher_items cs) ≡ length cs
ciphers_due [] = refl
ciphers_due (c ∷ cs) =
    let both : count_by is_cipher (cipher_items (c ∷ cs)) ≡ 1 + count_by is_cipher (cipher_items cs) =
    sum_by-append (λ i. cond (is_cipher i) 1 0) (Cipher c.0 c.1 ∷ []) (cipher_items cs) in
    let rest = ciphers_due cs in
    omega (arith, both, rest)

pub paid_is : (more due : ℕ) → paid more due ≡ more + due
paid_is zero due = omega arith
paid_is (suc more) due = let rest = paid_is more due in omega (arith, rest)

-- After a world's events and items, calls that asked for no look did as much as their events and items call for.
pub spends_on : (left more : ℕ) (space : Option SpaceId) (es fs : List Event) (is js : List Item) (a b c : Spent) →
    SpendsFor (looks_in es) left (paid more (reads_due (record { space = space; events = es; items = is; changed = [] }))) a b →
    Spends 0 (reads_due (record { space = space; events = fs; items = js; changed = [] })) b c →
    SpendsFor (looks_in (es ++ fs)) left (paid more (reads_due (record { space = space; events = es ++ fs; items = is ++ js; changed = [] }))) a c
spends_on left more space es fs is js a b c before after =
    let n = reads_due (record { space = space; events = es; items = is; changed = [] }) in
    let k = reads_due (record { space = space; events = fs; items = js; changed = [] }) in
    let both : reads_due (record { space = space; events = es ++ fs; items = is ++ js; changed = [] }) ≡ n + k = due_then space es fs is js in
    let all = reads_due (record { space = space; events = es ++ fs; items = is ++ js; changed = [] }) in
    let few = paid_is more n in
    let many = paid_is more all in
    let looks = looks_then es fs in
    spends_looks (omega (arith, looks))
    (spends_more (left + 0) left (paid more n + k) (paid more all) a c
    (omega (arith, both, few, many)) (spends_then left 0 (paid more n) k a b c before after))

-- Calls of the pager.

pub touched_reads : (h : FrameRight) (draw : Option (List ℕ × Random)) (old new : PagerState) (f : ℕ) → TouchTurns h draw old new f →
    new.reads ≡ old.reads
touched_reads (Outside r) draw old new f t = ap (λ (p : PagerState). p.reads) t
touched_reads (Clean r) draw old new f t = t.2.reads_stay
touched_reads (Changed r) (Some draw) old new f t = t.reads_stay
touched_reads (Changed r) None old new f t = t.reads_stay
touched_reads Gone draw old new f t = absurd t

offered_if : (h : FrameRight) (shown : Option Meta) (write : Bool) (old new : PagerState) (q : PageId) (g : ℕ) →
    OfferTurns h shown write old new q g → new.reads ≡ old.reads
offered_if (Outside r) (Some t) write old new q g o = o.2.reads_stay
offered_if (Outside r) None write old new q g o = o.reads_stay
offered_if (Clean r) shown true old new q g o = o.reads_stay
offered_if (Clean r) shown false old new q g o = ap (λ (p : PagerState). p.reads) o
offered_if (Changed r) shown write old new q g o = ap (λ (p : PagerState). p.reads) o
offered_if Gone shown write old new q g o = absurd o

pub offered_reads : (result : Offered) (h : FrameRight) (shown : Option Meta) (write : Bool) (old new : PagerState) (q : PageId)
    (g : ℕ) → OfferedTurns result h shown write old new q g → new.reads ≡ old.reads
offered_reads Ready h shown write old new q g o = offered_if h shown write old new q g o
offered_reads Mismatch h shown write old new q g o = ap (λ (p : PagerState). p.reads) o

-- Counts of the table.

pub ending_misses : (ends : Entry → Bool) (t : Table) → (ending ends t).counts.misses ≡ t.counts.misses
unfolding ending
ending_misses ends t = refl

pub killed_misses : (f : Frame) (t : Table) → (killed f t).counts.misses ≡ t.counts.misses
killed_misses f t = ending_misses (is_table f) (ending (is_target f) t) ∙ ending_misses (is_target f) t

-- entries ended, and nothing was read
pub spends_ended : (old new : Memory) (g : Frame) → new.pager.reads ≡ old.pager.reads → new.shadows ≡ ending (is_table g) old.shadows →
    Spends 0 0 (spent_in old) (spent_in new)
spends_ended old new g reads ended =
    spends_still old new reads (ap (λ (t : Table). t.counts.misses) ended ∙ ending_misses (is_table g) old.shadows)

-- Entries.

pub maps_same : (old new : Memory) → new.shadows ≡ old.shadows → MapsStill old new
maps_same old new same mapped are = subst (λ (t : Table). All (IsMapped mapped) t.live) (sym same) are

pub maps_ending : (old new : Memory) (ends : Entry → Bool) → new.shadows ≡ ending ends old.shadows → MapsStill old new
maps_ending old new ends same mapped are =
    subst (λ (t : Table). All (IsMapped mapped) t.live) (sym same)
    (keeps_ending (IsMapped mapped) (IsMapped mapped) ends old.shadows (λ e stays is. is) are)

killed_maps : (mapped : SpaceId → ℕ → Option PageId) (b : Bool) (f : Frame) (t : Table) → All (IsMapped mapped) t.live →
    All (IsMapped mapped) (killed_if b f t).live
killed_maps mapped true f t are =
    keeps_ending (IsMapped mapped) (IsMapped mapped) (is_table f) (ending (is_target f) t) (λ e stays is. is)
    (keeps_ending (IsMapped mapped) (IsMapped mapped) (is_target f) t (λ e stays is. is) are)
killed_maps mapped false f t are = are

pub maps_killed : (old new : Memory) (b : Bool) (f : Frame) → new.shadows ≡ killed_if b f old.shadows → MapsStill old new
maps_killed old new b f same mapped are =
    subst (λ (t : Table). All (IsMapped mapped) t.live) (sym same) (killed_maps mapped b f old.shadows are)

pub live_looked : (regime : Regime) (page : ℕ) (kind : Kind) (t : Table) → (looked regime page kind t).live ≡ t.live
unfolding looked
live_looked regime page kind t = refl

pub maps_looked : (old new : Memory) (regime : Regime) (page : ℕ) (kind : Kind) → new.shadows ≡ looked regime page kind old.shadows →
    MapsStill old new
maps_looked old new regime page kind same mapped are =
    subst (λ (t : Table). All (IsMapped mapped) t.live) (sym same)
    (subst (λ (es : List Entry). All (IsMapped mapped) es) (sym (live_looked regime page kind old.shadows)) are)

pub maps_then : (a b c : Memory) → MapsStill a b → MapsStill b c → MapsStill a c
maps_then a b c p q mapped are = q mapped (p mapped are)

front_make : (P : Entry → Type 0) (space : Option SpaceId) (es fs : List Event) → MakeAll P space (es ++ fs) → MakeAll P space es
front_make P space [] fs make = tt
front_make P space (e ∷ es) fs make = (make.0, front_make P space es fs make.1)

back_make : (P : Entry → Type 0) (space : Option SpaceId) (es fs : List Event) → MakeAll P space (es ++ fs) → MakeAll P space fs
back_make P space [] fs make = make
back_make P space (e ∷ es) fs make = back_make P space es fs make.1

-- events, and then others
pub maps_on : (first old new : Memory) (space : Option SpaceId) (es fs : List Event) → MapsBy first old space es →
    MapsBy old new space fs → MapsBy first new space (es ++ fs)
maps_on first old new space es fs before after mapped make are =
    after mapped (back_make (IsMapped mapped) space es fs make)
    (before mapped (front_make (IsMapped mapped) space es fs make) are)

pub maps_still : (old new : Memory) (space : Option SpaceId) (es : List Event) → MapsStill old new → MapsBy old new space es
maps_still old new space es still mapped make are = still mapped are

pub maps_further : (first old new : Memory) (space : Option SpaceId) (es : List Event) → MapsBy first old space es →
    MapsStill old new → MapsBy first new space es
maps_further first old new space es before still mapped make are = still mapped (before mapped make are)

-- an entry came about
pub maps_born : (old new : Memory) (space : Option SpaceId) (satp : ℕ) (a : Access) (walked : Walked) (cloaked : Option PageId)
    (known : Bool) (e : Entry) → entry_in space satp a walked cloaked ≡ e → AreBirthCalls known e old.shadows new.shadows →
    MapsBy old new space (Born satp a walked cloaked ∷ [])
maps_born old new space satp a walked cloaked known e is made mapped make are =
    keeps_birth (IsMapped mapped) known e old.shadows new.shadows made (subst (IsMapped mapped) is make.0) are

-- of the same space
pub maps_of : (first old : Memory) (space space' : Option SpaceId) (es : List Event) → space' ≡ space → MapsBy first old space es →
    MapsBy first old space' es
maps_of first old space space' es same maps = subst (λ (x : Option SpaceId). MapsBy first old x es) (sym same) maps

-- Walks.

pub since_then : (n : ℕ) (es fs : List Event) → touched_since n (es ++ fs) ≡ touched_since (touched_since n es) fs
since_then n [] fs = refl
since_then n (Look satp a ∷ es) fs = since_then 0 es fs
since_then n (Touch f ∷ es) fs = since_then (n + 1) es fs
since_then n (Offer q g grant ∷ es) fs = since_then n es fs
since_then n (Born satp a walked cloaked ∷ es) fs = since_then n es fs
since_then n (Read f ∷ es) fs = since_then n es fs
since_then n (Write f ∷ es) fs = since_then n es fs
since_then n (Drop d resource ∷ es) fs = since_then n es fs
since_then n (Space changed ∷ es) fs = since_then n es fs

-- A touch showed nothing, or its frame.

pub touch_shows_none : (old : Memory) (p : PagerState) (t : Table) (h : FrameRight) (draw : Option (List ℕ × Random)) (f : ℕ) →
    TouchTurns h draw old.pager p f → t.counts.misses ≡ old.shadows.counts.misses →
    Spends 0 0 (spent_in old) (record { reads = p.reads; misses = t.counts.misses })
unfolding counted_up
touch_shows_none old p t h draw f state misses =
    let reads = touched_reads h draw old.pager p f state in record {
      missed = 0;
      few = omega arith;
      counted = misses;
      reads = omega (arith, reads);
    }

pub touch_shows_frame : (old new : Memory) (p : PagerState) (h : FrameRight) (draw : Option (List ℕ × Random)) (f : ℕ) →
    TouchTurns h draw old.pager p f → IsReadOnce p new.pager → new.shadows.counts.misses ≡ old.shadows.counts.misses →
    Spends 0 1 (spent_in old) (spent_in new)
unfolding counted_up
touch_shows_frame old new p h draw f state once misses =
    let reads = touched_reads h draw old.pager p f state in
    let read : new.pager.reads ≡ min (p.reads + 1) (2 ^ 64 - 1) = ap (λ (x : PagerState). x.reads) once in
    let most = min-le_left (p.reads + 1) (2 ^ 64 - 1) in record {
      missed = 0;
      few = omega arith;
      counted = misses;
      reads = omega (arith, reads, read, most);
    }

-- an offer of the pager reads no frame that it shows
pub offer_shows_none : (old room : Memory) (p : PagerState) (t : Table) (result : Offered) (h : FrameRight) (shown : Option Meta) (write : Bool)
    (q : PageId) (g due : ℕ) → OfferedTurns result h shown write room.pager p q g → t.counts.misses ≡ room.shadows.counts.misses →
    Spends 0 due (spent_in old) (spent_in room) → Spends 0 due (spent_in old) (record { reads = p.reads; misses = t.counts.misses })
offer_shows_none old room p t result h shown write q g due state misses spends =
    let reads = offered_reads result h shown write room.pager p q g state in
    subst (λ (x : Spent). Spends 0 due (spent_in old) x) (λ i. record { reads = sym reads i; misses = sym misses i }) spends
