-- A walk leads as far into a page as its address stands in one.
use Rattle.std.proofs.Common.{◌≡◌, ℕ, ◌+◌, ◌*◌, ◌%◌, not, List, Option, Some, None, Ok, Err, refl, subst, arith}
use Rattle.rv_isa.specs.Fields.{bits}
use Rattle.cloak_model.specs.declared.access.Access.{Access}
use Rattle.cloak_model.specs.declared.access.Walked.{Walked}
use Rattle.cloak_model.specs.Ask.{ask_word, ask_walk}
use Rattle.cloak_model.specs.Asking.{Told}
use Rattle.cloak_model.specs.Walk.{Walk, FirstWord, Ends, GoesOn, first_entry, has_paging, is_valid, is_pointer, is_plain_pointer, first_leaf, second_leaf, first_word, second_word, word_in_ram, walk_after, walk}
use Rattle.cloak_model.specs.World.{World}
use Rattle.cloak_base.proofs.Choices.{either}
use Rattle.cloak_model.proofs.WalkParts.{ask_after, ask_first}

pub record KeepsPlace (va : ℕ) (walk : Walk) : Type 0 where
  pub kept : (walked : Walked) → walk ≡ Ok walked → walked.pa % 4096 ≡ va % 4096

kept_ok : (va : ℕ) (walked : Walked) → walked.pa % 4096 ≡ va % 4096 → KeepsPlace va (Ok walked)
kept_ok va walked keeps = record {
  kept = λ w is. let same : walked ≡ w = cc in subst (λ (x : Walked). x.pa % 4096 ≡ va % 4096) same keeps;
}

kept_err : (va cause : ℕ) → KeepsPlace va (Err cause)
kept_err va cause = record { kept = λ w is. absurd cc }

first_place : (x va : ℕ) → (4194304 * x + bits va 21 0) % 4096 ≡ va % 4096
first_place x va = omega arith

second_place : (x va : ℕ) → (4096 * x + bits va 11 0) % 4096 ≡ va % 4096
second_place x va = omega arith

keeps_first_leaf : (a : Access) (at1 e : ℕ) → KeepsPlace a.va (first_leaf a at1 e)
unfolding first_leaf
keeps_first_leaf a at1 e =
    either (KeepsPlace a.va) _ _ _ (kept_ok a.va _ (first_place (bits e 31 20) a.va)) (kept_err a.va _)

keeps_second_word : (a : Access) (at1 at0 : ℕ) (word : Option ℕ) → KeepsPlace a.va (second_word a at1 at0 word)
unfolding second_word second_leaf
keeps_second_word a at1 at0 None = kept_err a.va _
keeps_second_word a at1 at0 (Some e) =
    either (KeepsPlace a.va) _ _ _ (kept_ok a.va _ (second_place (bits e 31 10) a.va)) (kept_err a.va _)

record KeepsEnd (va : ℕ) (word : FirstWord) : Type 0 where
  pub kept : (walk : Walk) → word ≡ Ends walk → KeepsPlace va walk

ends_kept : (va : ℕ) (walk : Walk) → KeepsPlace va walk → KeepsEnd va (Ends walk)
ends_kept va walk keeps = record { kept = λ w is. let same : walk ≡ w = cc in subst (KeepsPlace va) same keeps }

goes_kept : (va at0 : ℕ) → KeepsEnd va (GoesOn at0)
goes_kept va at0 = record { kept = λ w is. absurd cc }

keeps_first_word : (a : Access) (at1 : ℕ) (word : Option ℕ) → KeepsEnd a.va (first_word a at1 word)
unfolding first_word
keeps_first_word a at1 None = ends_kept a.va _ (kept_err a.va _)
keeps_first_word a at1 (Some e) =
    either (KeepsEnd a.va) (not (is_valid e)) _ _ (ends_kept a.va _ (kept_err a.va _))
    (either (KeepsEnd a.va) (not (is_pointer e)) _ _ (ends_kept a.va _ (keeps_first_leaf a at1 e))
    (either (KeepsEnd a.va) (is_plain_pointer e) _ _ (goes_kept a.va _) (ends_kept a.va _ (kept_err a.va _))))

-- The walk over RAM.

keeps_after : (ram : List (List ℕ)) (a : Access) (at1 : ℕ) (word : FirstWord) → KeepsEnd a.va word →
    KeepsPlace a.va (walk_after ram a at1 word)
keeps_after ram a at1 (Ends walk) keeps = keeps.kept walk refl
keeps_after ram a at1 (GoesOn at0) keeps = keeps_second_word a at1 at0 _

pub keeps_walk : (ram : List (List ℕ)) (satp : ℕ) (a : Access) → KeepsPlace a.va (walk ram satp a)
unfolding walk
keeps_walk ram satp a =
    let at1 = first_entry satp a.va in
    either (KeepsPlace a.va) (has_paging satp) _ _
    (keeps_after ram a at1 (first_word a at1 (word_in_ram ram at1)) (keeps_first_word a at1 (word_in_ram ram at1)))
    (kept_ok a.va _ refl)

-- The walk that a world is asked for.

asked_after : (a : Access) (at1 : ℕ) (word : FirstWord) (w : World) → KeepsEnd a.va word →
    KeepsPlace a.va (ask_after a at1 word w).answer
asked_after a at1 (Ends walk) w keeps = keeps.kept walk refl
asked_after a at1 (GoesOn at0) w keeps = keeps_second_word a at1 at0 _

asked_first : (a : Access) (at1 : ℕ) (w : World) → KeepsPlace a.va (ask_first a at1 w).answer
asked_first a at1 w =
    let told = ask_word at1 w in
    asked_after a at1 (first_word a at1 told.answer) told.world (keeps_first_word a at1 told.answer)

pub keeps_asked_walk : (satp : ℕ) (a : Access) (w : World) → KeepsPlace a.va (ask_walk satp a w).answer
unfolding ask_walk
keeps_asked_walk satp a w =
    either (λ (t : Told Walk). KeepsPlace a.va t.answer) (has_paging satp) _ _
    (asked_first a (first_entry satp a.va) w) (kept_ok a.va _ refl)
