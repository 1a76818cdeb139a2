use Rattle.std.proofs.Common.{ℕ, codes, ap}
use Rattle.cloak_model.specs.Report.{number_line}
use Rattle.kernel_report.proofs.PutFacts.{then, text_is, PutsMore-none}
use Rattle.record_text.proofs.counts.KindCounts.put.Goals as goal

pub returns : goal.returns
returns g c = λ items are.
    then (text_is c.put_count-so_far.ensures (ap (λ (count : ℕ). number_line (codes "cipher ") count) are.cipher)) (
    then (text_is c.put_count-so_far-2.ensures (ap (λ (count : ℕ). number_line (codes "put ") count) are.put)) (
    then (text_is c.put_count-so_far-3.ensures (ap (λ (count : ℕ). number_line (codes "leave ") count) are.leave)) (
    then (text_is c.put_count-so_far-4.ensures (ap (λ (count : ℕ). number_line (codes "ok ") count) are.ok)) (
    then (text_is c.put_count-so_far-5.ensures (ap (λ (count : ℕ). number_line (codes "absent ") count) are.absent)) (
    then (text_is c.put_count-so_far-6.ensures (ap (λ (count : ℕ). number_line (codes "word ") count) are.word)) (
    then (text_is c.put_count-so_far-7.ensures (ap (λ (count : ℕ). number_line (codes "timer ") count) are.timer)) (
    then (text_is c.put_count-so_far-8.ensures (ap (λ (count : ℕ). number_line (codes "resume ") count) are.resume)) (
    then (text_is c.put_count-so_far-9.ensures (ap (λ (count : ℕ). number_line (codes "stopped ") count) are.stopped)) (
    then (text_is c.put_count.ensures (ap (λ (count : ℕ). number_line (codes "ended ") count) are.ended)) (
    PutsMore-none _))))))))))
