-- Where the kernel's page table leads a program's access: it leads there still, when other frames are settled.
use Rattle.std.proofs.Common.{◌≡◌, ◌∙◌, ℕ, Bool, true, false, cond, List, [], ◌∷◌, ◌++◌, Option, Some, None, Ok, Err, refl, sym, ap, subst}
use Rattle.std.proofs.lemmas.Bool.{false≢true}
use Rattle.cloak_base.specs.declared.names.Kind.{Kind}
use Rattle.cloak_base.specs.declared.names.Mode.TheVariants.{U}
use Rattle.cloak_model.specs.declared.access.Access.{Access}
use Rattle.cloak_model.specs.declared.access.Walked.{Walked}
use Rattle.cloak_model.specs.declared.regime.InsideRegime.{InsideRegime}
use Rattle.cloak_model.specs.Ask.{shown_word, ask_word, ask_walk, ask_in_ram, ask_translate, ask_led}
use Rattle.cloak_model.proofs.WalkParts.{ask_after, ask_first}
use Rattle.cloak_model.specs.AskPages.{ask_led_inside}
use Rattle.cloak_model.specs.Asking.{Told}
use Rattle.cloak_model.specs.Cloaking.{CloakedMemory, owed_in, settle}
use Rattle.cloak_model.specs.Events.{Look}
use Rattle.cloak_base.specs.Constants.{frame_of, place_of, is_in_frames}
use Rattle.cloak_model.specs.Memory.{is_in_ram, value_in, value_at}
use Rattle.cloak_model.specs.Walk.{Walk, FirstWord, Ends, GoesOn, has_paging, without_paging, first_entry, first_word, second_word, word_in_ram, walk_after, walk}
use Rattle.cloak_model.specs.World.{World, MidStep, Flat, Cloaked, Alone, settled}
use Rattle.cause_law.proofs.Kept.{IsKept, Extends, Extends-refl, Extends-trans, extends_settled, kept_settled}
use Rattle.cause_law.proofs.Settled.{settles}

-- a joint machine's memory of which this holds
abbrev pub OfMemory : (CloakedMemory → Type 0) → World → Type 0
OfMemory P (Cloaked c) = P c.memory
OfMemory P _ = ⊥

-- A word of RAM, which the kernel sees.
record Sees (m : CloakedMemory) (pa : ℕ) (word : Option ℕ) : Type 0 where
  pub same : word_in_ram m.ram pa ≡ word
  pub clean : is_in_ram m.ram pa ≡ true → owed_in m (frame_of pa) ≡ None

word_by : (b : Bool) (m m' : CloakedMemory) (pa : ℕ) → Extends m m' → is_in_ram m.ram pa ≡ b →
    (b ≡ true → owed_in m (frame_of pa) ≡ None) → word_in_ram m'.ram pa ≡ word_in_ram m.ram pa
word_by false m m' pa more is clean =
    let is' : is_in_ram m'.ram pa ≡ false = ap (λ (n : ℕ). is_in_frames n pa) more.count ∙ is in
    ap (λ (b : Bool). cond b (Some (value_at m'.ram pa 4)) None) is'
    ∙ sym (ap (λ (b : Bool). cond b (Some (value_at m.ram pa 4)) None) is)
word_by true m m' pa more is clean =
    ap (λ (n : ℕ). cond (is_in_frames n pa) (Some (value_at m'.ram pa 4)) None) more.count
    ∙ ap (λ (bytes : List ℕ). cond (is_in_ram m.ram pa) (Some (value_in bytes (place_of pa) 4)) None)
    (more.ram (frame_of pa) (clean refl))

sees_still : (m m' : CloakedMemory) (pa : ℕ) (word : Option ℕ) → Sees m pa word → Extends m m' →
    word_in_ram m'.ram pa ≡ word
sees_still m m' pa word sees more = word_by (is_in_ram m.ram pa) m m' pa more refl sees.clean ∙ sees.same

-- what asking for a word leaves
record Shows (c : MidStep) (pa : ℕ) (word : Option ℕ) (m : CloakedMemory) : Type 0 where
  pub kept : IsKept m
  pub more : Extends c.memory m
  pub sees : Sees m pa word

shown_by : (b : Bool) (pa : ℕ) (c : MidStep) → IsKept c.memory → is_in_ram c.memory.ram pa ≡ b →
    let t : Told (Option ℕ) = cond b (shown_word pa (settled (frame_of pa) (Cloaked c)))
    (record { answer = None; world = Cloaked c }) in
    OfMemory (Shows c pa t.answer) t.world
shown_by true pa c kept is =
    let m : CloakedMemory = (settle (frame_of pa) c.memory).memory in
    let s = settles (frame_of pa) c.memory kept.places in
    let inside : is_in_ram m.ram pa ≡ true = ap (λ (n : ℕ). is_in_frames n pa) s.count ∙ is in
    record {
      kept = kept_settled (frame_of pa) c.memory kept;
      more = extends_settled (frame_of pa) c.memory kept;
      sees = record {
        same = ap (λ (b : Bool). cond b (Some (value_at m.ram pa 4)) None) inside;
        clean = λ there. s.clean;
      };
    }
shown_by false pa c kept is = record {
  kept = kept;
  more = Extends-refl c.memory;
  sees = record {
    same = ap (λ (b : Bool). cond b (Some (value_at c.memory.ram pa 4)) None) is;
    clean = λ there. absurd (false≢true (sym is ∙ there));
  };
}

shows_word : (pa : ℕ) (c : MidStep) → IsKept c.memory →
    let t = ask_word pa (Cloaked c) in OfMemory (Shows c pa t.answer) t.world
unfolding ask_word
shows_word pa c kept = shown_by (is_in_ram c.memory.ram pa) pa c kept refl

-- A walk that leads there whatever else is settled.
abbrev pub Walks : ℕ → Access → Walk → CloakedMemory → Type 0
Walks satp a w m = (m' : CloakedMemory) → Extends m m' → walk m'.ram satp a ≡ w

paged : (satp : ℕ) (a : Access) (ram : List (List ℕ)) (word : Option ℕ) → has_paging satp ≡ true →
    word_in_ram ram (first_entry satp a.va) ≡ word →
    walk ram satp a ≡ walk_after ram a (first_entry satp a.va) (first_word a (first_entry satp a.va) word)
unfolding walk
paged satp a ram word has is =
    ap (λ (b : Bool). cond b (walk_after ram a (first_entry satp a.va)
    (first_word a (first_entry satp a.va) (word_in_ram ram (first_entry satp a.va)))) (without_paging a)) has
    ∙ ap (λ (o : Option ℕ). walk_after ram a (first_entry satp a.va) (first_word a (first_entry satp a.va) o)) is

second_walks : (satp : ℕ) (a : Access) (at0 : ℕ) (word : Option ℕ) (c : MidStep) (second : Option ℕ) (v : World) →
    has_paging satp ≡ true → Sees c.memory (first_entry satp a.va) word →
    first_word a (first_entry satp a.va) word ≡ GoesOn at0 → OfMemory (Shows c at0 second) v →
    OfMemory (Walks satp a (second_word a (first_entry satp a.va) at0 second)) v
second_walks satp a at0 word c second (Cloaked d) has sees is shows =
    λ m' more.
    let at1 = first_entry satp a.va in
    paged satp a m'.ram word has
    (sees_still c.memory m' at1 word sees (Extends-trans c.memory d.memory m' shows.more more))
    ∙ (ap (walk_after m'.ram a at1) is
    ∙ ap (second_word a at1 at0) (sees_still d.memory m' at0 second shows.sees more))
second_walks satp a at0 word c second _ has sees is shows = absurd shows

after_walks : (satp : ℕ) (a : Access) (word : Option ℕ) (first : FirstWord) (c : MidStep) → IsKept c.memory →
    has_paging satp ≡ true → Sees c.memory (first_entry satp a.va) word →
    first_word a (first_entry satp a.va) word ≡ first →
    let t = ask_after a (first_entry satp a.va) first (Cloaked c) in OfMemory (Walks satp a t.answer) t.world
after_walks satp a word (Ends w) c kept has sees is =
    λ m' more.
    let at1 = first_entry satp a.va in
    paged satp a m'.ram word has (sees_still c.memory m' at1 word sees more) ∙ ap (walk_after m'.ram a at1) is
after_walks satp a word (GoesOn at0) c kept has sees is =
    let t = ask_word at0 (Cloaked c) in
    second_walks satp a at0 word c t.answer t.world has sees is (shows_word at0 c kept)

first_walks : (satp : ℕ) (a : Access) (c : MidStep) (word : Option ℕ) (v : World) → has_paging satp ≡ true →
    OfMemory (Shows c (first_entry satp a.va) word) v →
    let t = ask_after a (first_entry satp a.va) (first_word a (first_entry satp a.va) word) v in
    OfMemory (Walks satp a t.answer) t.world
first_walks satp a c word (Cloaked d) has shows = after_walks satp a word _ d shows.kept has shows.sees refl
first_walks satp a c word _ has shows = absurd shows

walks_by : (b : Bool) (satp : ℕ) (a : Access) (c : MidStep) → IsKept c.memory → has_paging satp ≡ b →
    let t = cond b (ask_first a (first_entry satp a.va) (Cloaked c))
    (let u : Told Walk = record { answer = without_paging a; world = Cloaked c } in u) in
    OfMemory (Walks satp a t.answer) t.world
unfolding walk
walks_by true satp a c kept is =
    let t = ask_word (first_entry satp a.va) (Cloaked c) in
    first_walks satp a c t.answer t.world is (shows_word (first_entry satp a.va) c kept)
walks_by false satp a c kept is =
    λ m' more. ap (λ (b : Bool). cond b (walk_after m'.ram a (first_entry satp a.va)
    (first_word a (first_entry satp a.va) (word_in_ram m'.ram (first_entry satp a.va)))) (without_paging a)) is

walks : (satp : ℕ) (a : Access) (c : MidStep) → IsKept c.memory →
    let t = ask_walk satp a (Cloaked c) in OfMemory (Walks satp a t.answer) t.world
unfolding ask_walk
walks satp a c kept = walks_by (has_paging satp) satp a c kept refl

-- A program's access.

abbrev pub access_of : InsideRegime → Kind → ℕ → Access
access_of v kind va = record { mode = U; sum = v.sum; mxr = v.mxr; va = va; kind = kind }

led_by : (b : Bool) (to walked : Walked) (fault : ℕ) → cond b (Ok to) (Err fault) ≡ Ok walked → to ≡ walked
led_by true to walked fault is = cc
led_by false to walked fault is = absurd cc

in_ram_leads : (satp : ℕ) (a : Access) (walked : Walked) (w : Walk) (u : World) →
    (ask_in_ram a w u).answer ≡ Ok walked → OfMemory (Walks satp a w) u →
    OfMemory (Walks satp a (Ok walked)) (ask_in_ram a w u).world
unfolding ask_in_ram
in_ram_leads satp a walked w (Flat seen) is walks = absurd walks
in_ram_leads satp a walked w (Alone h) is walks = absurd walks
in_ram_leads satp a walked (Err cause) (Cloaked c) is walks = absurd cc
in_ram_leads satp a walked (Ok to) (Cloaked c) is walks =
    subst (λ (x : Walked). Walks satp a (Ok x) c.memory) (led_by _ to walked _ is) walks

pub access_leads : (va : ℕ) (kind : Kind) (c : MidStep) (walked : Walked) → IsKept c.memory →
    let t = ask_led_inside va kind (Cloaked c) in
    t.answer ≡ Ok walked → OfMemory (Walks c.regime.satp (access_of c.regime kind va) (Ok walked)) t.world
unfolding ask_led_inside ask_led ask_translate
access_leads va kind c walked kept is =
    let a = access_of c.regime kind va in
    let c' : MidStep = record c { events = c.events ++ Look c.regime.satp a ∷ [] } in
    let t = ask_walk c.regime.satp a (Cloaked c') in
    in_ram_leads c.regime.satp a walked t.answer t.world is (walks c.regime.satp a c' kept)
