use Rattle.std.proofs.Common.{ℕ, List, [], ◌∷◌, codes, ap, sym}
use Rattle.std.specs.List.{count_by}
use Rattle.cloak_model.specs.Items.{Item}
use Rattle.record_text.specs.declared.kinds.Kinds.{Kinds}
use Rattle.record_text.specs.Kinds.{is_of_kind, only_cipher, only_put, only_leave, only_ok, only_absent}
use Rattle.record_text.specs.Kinds.{only_word, only_timer, only_resume, only_stopped, only_ended}
use Rattle.kernel_report.proofs.PutFacts.{then, text_is, PutsMore-none}
use Rattle.record_json.specs.Members.{Member, member_text, next_member, with_number}
use Rattle.record_json.proofs.Texts.{line_text}
use Rattle.record_json.proofs.counting.put_counts.Goals as goal

abbrev next : List ℕ → ℕ → List ℕ
next name n = next_member (with_number name n)

abbrev of_kind : List ℕ → Kinds → List Item → Member
of_kind name kind items = with_number name (count_by (is_of_kind kind) items)

-- the counts after the first
abbrev others : List Item → List Member
others items =
    of_kind (codes "put") only_put items
    ∷ of_kind (codes "leave") only_leave items
    ∷ of_kind (codes "ok") only_ok items
    ∷ of_kind (codes "absent") only_absent items
    ∷ of_kind (codes "word") only_word items
    ∷ of_kind (codes "timer") only_timer items
    ∷ of_kind (codes "resume") only_resume items
    ∷ of_kind (codes "stopped") only_stopped items
    ∷ of_kind (codes "ended") only_ended items
    ∷ []

pub returns : goal.returns
returns g c = λ items are.
    text_is (then (then c.text-so_far.ensures
    (text_is c.put_first_number-so_far.ensures (ap (λ (n : ℕ). member_text (with_number (codes "cipher") n)) are.cipher))) (then (
    then (text_is c.put_number-so_far.ensures (ap (next (codes "put")) are.put)) (
    then (text_is c.put_number-so_far-2.ensures (ap (next (codes "leave")) are.leave)) (
    then (text_is c.put_number-so_far-3.ensures (ap (next (codes "ok")) are.ok)) (
    then (text_is c.put_number-so_far-4.ensures (ap (next (codes "absent")) are.absent)) (
    then (text_is c.put_number-so_far-5.ensures (ap (next (codes "word")) are.word)) (
    then (text_is c.put_number-so_far-6.ensures (ap (next (codes "timer")) are.timer)) (
    then (text_is c.put_number-so_far-7.ensures (ap (next (codes "resume")) are.resume)) (
    then (text_is c.put_number-so_far-8.ensures (ap (next (codes "stopped")) are.stopped)) (
    then (text_is c.put_number-so_far-9.ensures (ap (next (codes "ended")) are.ended)) (
    PutsMore-none _)))))))))) c.text.ensures))
    (sym (line_text (of_kind (codes "cipher") only_cipher items) (others items)))
