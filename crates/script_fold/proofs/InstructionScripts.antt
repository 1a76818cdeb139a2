-- One instruction of a context is a script.
use Rattle.std.proofs.Common.{◌≡◌, ℕ, ◌%◌, Bool, Option, Some, None, refl, true, false, cond}
use Rattle.std.specs.Prelude.{option_map, ◌==◌}
use Rattle.cloak_base.specs.declared.names.Kind.TheVariants.{Fetch, Load, Store}
use Rattle.cloak_base.specs.declared.names.PageId.{PageId}
use Rattle.rv_isa.specs.Table.{instruction}
use Rattle.rv_isa.specs.declared.instr.Instr.{Instr}
use Rattle.rv_isa.specs.declared.instr.Instr.TheVariants.{Ecall, Ebreak}
use Rattle.cloak_model.specs.declared.answer.Answer.{Answer}
use Rattle.cloak_model.specs.declared.answer.Answer.TheVariants as told
use Rattle.cloak_model.specs.declared.outcome.Effect.{Effect}
use Rattle.cloak_model.specs.declared.outcome.Effect.TheVariants as does
use Rattle.cloak_model.specs.declared.inside.Ran.{Ran}
use Rattle.cloak_model.specs.declared.inside.Ran.TheVariants as ran
use Rattle.cloak_model.specs.Effect.{effect}
use Rattle.cloak_model.specs.Resources.{Resources, lookup, page_id, page_at}
use Rattle.cloak_model.specs.Contexts.{Context, set_word, moved_on, word_of_page}
use Rattle.cloak_model.specs.InsideStep as inside
use Rattle.cloak_model.proofs.InsideParts as inside_parts
use Rattle.script_fold.proofs.Aligned.{IsAligned, StoresAligned, effect_aligned}
use Rattle.cloak_model.specs.Script.{Script, Gives, Reads, Changes, Reach, Get, Put, Write}
use Rattle.script_fold.proofs.Scripts.{EndClaims, IsStop, Scripted, scripted_gives, scripted_asks, scripted_reads, scripted_changes}
use Rattle.cloak_model.specs.KernelStep.{atomic_kind, misaligned}
use Rattle.cloak_base.specs.Registers.{register}
use Rattle.rv_atomic.specs.Table.{atomic_instruction}
use Rattle.rv_atomic.specs.Combine.{combined}
use Rattle.rv_atomic.specs.declared.atomic.Atomic.{Atomic}
use Rattle.rv_atomic.specs.declared.atomic.AtomicOp.{AtomicOp}
use Rattle.rv_atomic.specs.declared.atomic.AtomicOp.TheVariants.{Lr, Sc, Swap, Add, Xor, And, Or, Min, Max, Minu, Maxu}

-- Pages are the program's own.

abbrev pub IsOwnPage : ℕ → Option PageId → Type 0
IsOwnPage d None = Unit {0}
IsOwnPage d (Some q) = q.domain ≡ d

own_place : (d : ℕ) (place : Option (ℕ × ℕ)) → IsOwnPage d (option_map (page_id d) place)
own_place d None = tt
own_place d (Some place) = refl

pub own_page : (d : ℕ) (r : Resources) (space va : ℕ) → IsOwnPage d (page_at d r space va)
unfolding page_at
own_page d r space va = own_place d (lookup r space va)

-- An instruction.

-- the program goes on, without a call
abbrev pub RunsOn : Ran → Type 0
RunsOn ran.Stay = Unit {0}
RunsOn (ran.Loaded address value) = Unit {0}
RunsOn (ran.Trap cause address) = ⊥
RunsOn ran.Ecall = ⊥
RunsOn ran.Stopped = ⊥

-- the context stays on its hart
abbrev pub of_instruction : Context → EndClaims inside.AfterInstruction
of_instruction c = record {
  each = λ m. m.context.on ≡ c.on;
  stopped = λ m. m.ending ≡ ran.Stopped;
  changed = λ m. RunsOn m.ending;
}

pub loaded_scripted : (d : ℕ) (c : Context) (rd va width : ℕ) (is_signed : Bool) (value : ℕ) →
    Scripted d (of_instruction c) (inside_parts.loaded_inside c rd va width is_signed value)
loaded_scripted d c rd va width is_signed value = scripted_gives d (of_instruction c) _ refl

unfoldable pub load_reached_scripted : (d : ℕ) (c : Context) (q : PageId) → q.domain ≡ d →
    (rd va width : ℕ) (is_signed : Bool) (a : Answer) →
    Scripted d (of_instruction c) (inside_parts.load_reached c q rd va width is_signed a)
load_reached_scripted d c q own rd va width is_signed told.Ok =
    scripted_reads d (of_instruction c) q own (va % 4096) width (inside_parts.loaded_inside c rd va width is_signed)
    (loaded_scripted d c rd va width is_signed)
load_reached_scripted d c q own rd va width is_signed (told.Absent cause) = scripted_gives d (of_instruction c) _ refl
load_reached_scripted d c q own rd va width is_signed (told.Word value) = scripted_gives d (of_instruction c) _ refl
load_reached_scripted d c q own rd va width is_signed told.Stopped = scripted_gives d (of_instruction c) _ refl

unfoldable pub load_got_scripted : (d : ℕ) (c : Context) (rd va width : ℕ) (is_signed : Bool) (a : Answer) →
    Scripted d (of_instruction c) (inside_parts.load_got c rd va width is_signed a)
load_got_scripted d c rd va width is_signed (told.Word value) = scripted_gives d (of_instruction c) _ refl
load_got_scripted d c rd va width is_signed (told.Absent cause) = scripted_gives d (of_instruction c) _ refl
load_got_scripted d c rd va width is_signed told.Ok = scripted_gives d (of_instruction c) _ refl
load_got_scripted d c rd va width is_signed told.Stopped = scripted_gives d (of_instruction c) _ refl

load_scripted : (d : ℕ) (c : Context) (rd va width : ℕ) (is_signed : Bool) (o : Option PageId) → IsOwnPage d o →
    Scripted d (of_instruction c) (inside.load_inside c rd va width is_signed o)
unfolding inside.load_inside load_reached_scripted load_got_scripted IsStop
load_scripted d c rd va width is_signed (Some q) own =
    scripted_asks d (of_instruction c) (Reach q va Load) own (inside_parts.load_reached c q rd va width is_signed)
    (load_reached_scripted d c q own rd va width is_signed) refl
load_scripted d c rd va width is_signed None own =
    scripted_asks d (of_instruction c) (Get va width) tt (inside_parts.load_got c rd va width is_signed)
    (load_got_scripted d c rd va width is_signed) refl

unfoldable pub store_reached_scripted : (d : ℕ) (c : Context) (q : PageId) → q.domain ≡ d →
    (va width value : ℕ) (a : Answer) →
    Scripted d (of_instruction c) (inside_parts.store_reached c q va width value a)
store_reached_scripted d c q own va width value told.Ok =
    scripted_changes d (of_instruction c) (Write q (va % 4096) width value) own
    (inside.made_writing (moved_on c) ran.Stay (word_of_page q va)) refl tt
store_reached_scripted d c q own va width value (told.Absent cause) = scripted_gives d (of_instruction c) _ refl
store_reached_scripted d c q own va width value (told.Word other) = scripted_gives d (of_instruction c) _ refl
store_reached_scripted d c q own va width value told.Stopped = scripted_gives d (of_instruction c) _ refl

unfoldable pub store_put_scripted : (d : ℕ) (c : Context) (va : ℕ) (a : Answer) →
    Scripted d (of_instruction c) (inside_parts.store_put c va a)
store_put_scripted d c va told.Ok = scripted_gives d (of_instruction c) _ refl
store_put_scripted d c va (told.Absent cause) = scripted_gives d (of_instruction c) _ refl
store_put_scripted d c va (told.Word value) = scripted_gives d (of_instruction c) _ refl
store_put_scripted d c va told.Stopped = scripted_gives d (of_instruction c) _ refl

store_scripted : (d : ℕ) (c : Context) (va width value : ℕ) (o : Option PageId) → IsOwnPage d o → IsAligned va width →
    Scripted d (of_instruction c) (inside.store_inside c va width value o)
unfolding inside.store_inside store_reached_scripted store_put_scripted IsStop
store_scripted d c va width value (Some q) own at =
    scripted_asks d (of_instruction c) (Reach q va Store) own (inside_parts.store_reached c q va width value)
    (store_reached_scripted d c q own va width value) refl
store_scripted d c va width value None own at =
    scripted_asks d (of_instruction c) (Put va width value) at (inside_parts.store_put c va)
    (store_put_scripted d c va) refl

system_scripted : (d : ℕ) (c : Context) (i : Instr) → Scripted d (of_instruction c) (inside.system_inside c i)
unfolding inside.system_inside
system_scripted d c Ecall = scripted_gives d (of_instruction c) _ refl
system_scripted d c Ebreak = scripted_gives d (of_instruction c) _ refl
system_scripted d c i = scripted_gives d (of_instruction c) _ refl

done_scripted : (d : ℕ) (r : Resources) (c : Context) (i : Instr) (e : Effect) → StoresAligned e →
    Scripted d (of_instruction c) (inside.done_inside d r c i e)
unfolding inside.done_inside
done_scripted d r c i (does.Write rd value) at = scripted_gives d (of_instruction c) _ refl
done_scripted d r c i (does.Jump rd link target) at = scripted_gives d (of_instruction c) _ refl
done_scripted d r c i (does.Go target) at = scripted_gives d (of_instruction c) _ refl
done_scripted d r c i (does.Load rd va width is_signed) at =
    load_scripted d c rd va width is_signed (page_at d r c.space va) (own_page d r c.space va)
done_scripted d r c i (does.Store va width value) at =
    store_scripted d c va width value (page_at d r c.space va) (own_page d r c.space va) at
done_scripted d r c i does.System at = system_scripted d c i
done_scripted d r c i does.Nothing at = scripted_gives d (of_instruction c) _ refl
done_scripted d r c i (does.Raise cause value) at = scripted_gives d (of_instruction c) _ refl

-- Atomic instructions.

conditional_scripted : (d : ℕ) (reserved : Bool) (c : Context) (rd : ℕ) (q : PageId) → q.domain ≡ d → (va operand : ℕ) →
    Scripted d (of_instruction c) (inside_parts.conditional_inside reserved c rd q va operand)
conditional_scripted d true c rd q own va operand =
    scripted_changes d (of_instruction c) (Write q (va % 4096) 4 operand) own
    (inside.made_writing (moved_on (record (set_word c rd 0) { mark = None })) ran.Stay (word_of_page q va)) refl tt
conditional_scripted d false c rd q own va operand = scripted_gives d (of_instruction c) _ refl

combine_scripted : (d : ℕ) (c : Context) (rd : ℕ) (op : AtomicOp) (q : PageId) → q.domain ≡ d → (va operand : ℕ) →
    Scripted d (of_instruction c) (Reads q (va % 4096) 4 (λ old. Changes (Write q (va % 4096) 4 (combined op old operand))
    (Gives (inside.made_writing (moved_on (set_word c rd old)) (ran.Loaded va old) (word_of_page q va)))))
combine_scripted d c rd op q own va operand =
    scripted_reads d (of_instruction c) q own (va % 4096) 4
    (λ old. Changes (Write q (va % 4096) 4 (combined op old operand))
    (Gives (inside.made_writing (moved_on (set_word c rd old)) (ran.Loaded va old) (word_of_page q va))))
    (λ old. scripted_changes d (of_instruction c) (Write q (va % 4096) 4 (combined op old operand)) own
    (inside.made_writing (moved_on (set_word c rd old)) (ran.Loaded va old) (word_of_page q va)) refl tt)

pub granted_scripted : (d : ℕ) (c : Context) (rd : ℕ) (op : AtomicOp) (q : PageId) → q.domain ≡ d → (va operand : ℕ) →
    Scripted d (of_instruction c) (inside.atomic_granted c rd op q va operand)
unfolding inside.atomic_granted
granted_scripted d c rd Lr q own va operand =
    scripted_reads d (of_instruction c) q own (va % 4096) 4
    (λ old. inside.ends_as (moved_on (record (set_word c rd old) { mark = Some (word_of_page q va) }))
    (ran.Loaded va old))
    (λ old. scripted_gives d (of_instruction c) _ refl)
granted_scripted d c rd Sc q own va operand = conditional_scripted d _ c rd q own va operand
granted_scripted d c rd Swap q own va operand = combine_scripted d c rd Swap q own va operand
granted_scripted d c rd Add q own va operand = combine_scripted d c rd Add q own va operand
granted_scripted d c rd Xor q own va operand = combine_scripted d c rd Xor q own va operand
granted_scripted d c rd And q own va operand = combine_scripted d c rd And q own va operand
granted_scripted d c rd Or q own va operand = combine_scripted d c rd Or q own va operand
granted_scripted d c rd Min q own va operand = combine_scripted d c rd Min q own va operand
granted_scripted d c rd Max q own va operand = combine_scripted d c rd Max q own va operand
granted_scripted d c rd Minu q own va operand = combine_scripted d c rd Minu q own va operand
granted_scripted d c rd Maxu q own va operand = combine_scripted d c rd Maxu q own va operand

unfoldable pub atomic_reached_scripted : (d : ℕ) (c : Context) (rd : ℕ) (op : AtomicOp) (q : PageId) → q.domain ≡ d →
    (va operand : ℕ) (a : Answer) →
    Scripted d (of_instruction c) (inside_parts.atomic_reached c rd op q va operand a)
atomic_reached_scripted d c rd op q own va operand told.Ok = granted_scripted d c rd op q own va operand
atomic_reached_scripted d c rd op q own va operand (told.Absent cause) = scripted_gives d (of_instruction c) _ refl
atomic_reached_scripted d c rd op q own va operand (told.Word value) = scripted_gives d (of_instruction c) _ refl
atomic_reached_scripted d c rd op q own va operand told.Stopped = scripted_gives d (of_instruction c) _ refl

atomic_placed_scripted : (d : ℕ) (c : Context) (rd : ℕ) (op : AtomicOp) (va operand : ℕ) (o : Option PageId) →
    IsOwnPage d o → Scripted d (of_instruction c) (inside.atomic_placed c rd op va operand o)
unfolding inside.atomic_placed atomic_reached_scripted IsStop
atomic_placed_scripted d c rd op va operand None own = scripted_gives d (of_instruction c) _ refl
atomic_placed_scripted d c rd op va operand (Some q) own =
    scripted_asks d (of_instruction c) (Reach q va (atomic_kind op)) own (inside_parts.atomic_reached c rd op q va operand)
    (atomic_reached_scripted d c rd op q own va operand) refl

either_scripted : (d : ℕ) (c : Context) (test : Bool) (x y : Script inside.AfterInstruction) →
    Scripted d (of_instruction c) x → Scripted d (of_instruction c) y →
    Scripted d (of_instruction c) (cond test x y)
either_scripted d c true x y first second = first
either_scripted d c false x y first second = second

atomic_scripted : (d : ℕ) (r : Resources) (c : Context) (a : Option Atomic) →
    Scripted d (of_instruction c) (inside.atomic_inside d r c a)
unfolding inside.atomic_inside
atomic_scripted d r c None = scripted_gives d (of_instruction c) _ refl
atomic_scripted d r c (Some a) =
    let va = register c.regs a.rs1 in
    let operand = register c.regs a.rs2 in
    either_scripted d c (va % 4 == 0) (inside.atomic_placed c a.rd a.op va operand (page_at d r c.space va))
    (inside.traps c (misaligned a.op) va)
    (atomic_placed_scripted d c a.rd a.op va operand (page_at d r c.space va) (own_page d r c.space va))
    (scripted_gives d (of_instruction c) _ refl)

pub decoded_scripted : (d : ℕ) (r : Resources) (c : Context) (word : ℕ) (o : Option Instr) →
    Scripted d (of_instruction c) (inside.decoded_inside d r c word o)
unfolding inside.decoded_inside
decoded_scripted d r c word None = atomic_scripted d r c (atomic_instruction word)
decoded_scripted d r c word (Some i) = done_scripted d r c i (effect i c.regs c.pc) (effect_aligned i c.regs c.pc)

pub executed_scripted : (d : ℕ) (r : Resources) (c : Context) (word : ℕ) →
    Scripted d (of_instruction c) (inside_parts.executed_inside d r c word)
executed_scripted d r c word = decoded_scripted d r c word (instruction word)

unfoldable fetched_scripted : (d : ℕ) (r : Resources) (c : Context) (q : PageId) → q.domain ≡ d → (a : Answer) →
    Scripted d (of_instruction c) (inside_parts.fetched_inside d r c q a)
fetched_scripted d r c q own told.Ok =
    scripted_reads d (of_instruction c) q own (c.pc % 4096) 4 (inside_parts.executed_inside d r c) (executed_scripted d r c)
fetched_scripted d r c q own (told.Absent cause) = scripted_gives d (of_instruction c) _ refl
fetched_scripted d r c q own (told.Word value) = scripted_gives d (of_instruction c) _ refl
fetched_scripted d r c q own told.Stopped = scripted_gives d (of_instruction c) _ refl

fetch_scripted : (d : ℕ) (r : Resources) (c : Context) (o : Option PageId) → IsOwnPage d o →
    Scripted d (of_instruction c) (inside.fetch d r c o)
unfolding inside.fetch fetched_scripted IsStop
fetch_scripted d r c None own = scripted_gives d (of_instruction c) _ refl
fetch_scripted d r c (Some q) own =
    scripted_asks d (of_instruction c) (Reach q c.pc Fetch) own (inside_parts.fetched_inside d r c q)
    (fetched_scripted d r c q own) refl

pub instruction_scripted : (d : ℕ) (r : Resources) (c : Context) →
    Scripted d (of_instruction c) (inside.instruction_inside d r c)
unfolding inside.instruction_inside
instruction_scripted d r c = fetch_scripted d r c (page_at d r c.space c.pc) (own_page d r c.space c.pc)
