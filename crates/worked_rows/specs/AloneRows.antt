-- Rows of the machines that run alone: the kernel, and the program, each with its half of a record.
use Rattle.std.specs.Prelude.{◌≡◌, List, [], ◌∷◌, ◌++◌, map, replicate, Some, None, true}
use Rattle.cloak_model.specs.Items.{Item}
use Rattle.cloak_model.specs.Items as item
use Rattle.cloak_base.specs.Pages.{zero_page}
use Rattle.cloak_model.specs.Memory.{with_value_in}
use Rattle.cloak_model.specs.Halves.{outward_half, inward_half}
use Rattle.cloak_model.specs.KernelAlone.{KernelAlone, Between, kernel_alone}
use Rattle.cloak_model.specs.DomainAlone.{DomainAlone, domain_alone}
use Rattle.worked_rows.specs.Images.{boot, halt, letter_words, kernel_of, program_of, page_with, words_page}
use Rattle.worked_rows.specs.JointRows.{opening_cipher, closing_cipher, shown_nine, program_at_call, whole, letter}

-- The whole cloaked program.

-- what the kernel could see of it
abbrev pub whole_outward : List Item
whole_outward =
    item.Cipher 8 opening_cipher
    ∷ item.Step 1 ∷ item.Step 2 ∷ item.Step 3 ∷ item.Step 4 ∷ item.Step 5 ∷ item.Step 6 ∷ item.Step 7 ∷ item.Step 8 ∷
    item.Step 9
    ∷ item.Step 10 ∷ item.Step 11
    ∷ item.Step 12 ∷ item.Leave shown_nine
    ∷ item.Step 13 ∷ item.Step 14 ∷ item.Close 14 ∷ item.Cipher 8 closing_cipher ∷ item.End ∷ []

-- what the program could see, from step 7 on, and up to there
abbrev pub inward_from_seven : List Item
inward_from_seven =
    item.Step 7 ∷ item.Ok 0 ∷ item.Ok 0 ∷ item.Step 8 ∷ item.Ok 0 ∷ item.Ok 0 ∷ item.Step 9 ∷ item.Ok 0 ∷
    item.Step 10 ∷ item.Ok 0
    ∷ item.Step 11 ∷ item.Ok 0 ∷ item.Step 12 ∷ item.Ok 0 ∷ item.Step 13 ∷ item.Step 14 ∷ item.Close 14 ∷ item.End ∷ []

abbrev pub inward_to_six : List Item
inward_to_six = item.Step 1 ∷ item.Step 2 ∷ item.Step 3 ∷ item.Step 4 ∷ item.Step 5 ∷ item.Resume 0 0 0 ∷
    item.Step 6 ∷ []

abbrev pub whole_inward : List Item
whole_inward = inward_to_six ++ item.Ok 0 ∷ inward_from_seven

-- the kernel with these items, and the program
abbrev pub lone_kernel : List Item → KernelAlone
lone_kernel items = kernel_alone (kernel_of 1 (0 ∷ []) (boot ++ halt)) items

abbrev pub lone_program : List Item → DomainAlone
lone_program items = domain_alone 0 (0 ∷ []) (program_of words_page) items

-- The two halves of its record fit, and give what the joint run gave: harts and frames, and the program with its page.
pub record WholeHalves : Type 0 where
  pub outward : outward_half whole.items ≡ whole_outward
  pub inward : inward_half 0 whole.items ≡ whole_inward
  pub kernel : lone_kernel whole_outward ≡ record {
    kernel = record {
      harts = whole.harts;
      ram = page_with (boot ++ halt) ∷ (replicate 7 zero_page ++ (closing_cipher ∷ replicate 55 zero_page));
      disk = [];
      console = [];
      marks = None ∷ [];
    };
    steps = 14;
    stage = Between;
    halted = true;
    unfit = None;
  }
  pub program : (lone_program whole_inward).part.domain ≡ program_at_call
  pub page : (lone_program whole_inward).part.plain 0 0 ≡ with_value_in words_page 0x100 4 7
  pub steps : (lone_program whole_inward).steps ≡ 14
  pub fit : (lone_program whole_inward).unfit ≡ None

-- each Leave names another context, by its second byte
abbrev pub forged : Item → Item
forged (item.Leave s) = item.Leave (record s { ctx = 256 })
forged i = i

-- A Leave of a context that the hart does not run is unfit, in the step that it stands in. The program does not see it.
pub record ForgedLeave : Type 0 where
  pub kernel : (lone_kernel (outward_half (map forged whole.items))).unfit ≡ Some 12
  pub inward : inward_half 0 (map forged whole.items) ≡ whole_inward

-- A missing answer is unfit, in the step that lacks it. The kernel does not see answers.
pub record MissingAnswer : Type 0 where
  pub program : (lone_program (inward_to_six ++ inward_from_seven)).unfit ≡ Some 6
  pub outward : outward_half (inward_to_six ++ inward_from_seven) ≡ outward_half whole_inward

-- An answer of a kind that its question does not take, one too many, one in a step of the kernel, and a resume of a
-- context that runs.
pub record OtherAnswers : Type 0 where
  pub wrong_kind : (lone_program (inward_to_six ++ item.Word 0 5 ∷ [])).unfit ≡ Some 6
  pub left_over : (lone_program (inward_to_six ++ item.Ok 0 ∷ item.Ok 0 ∷ [])).unfit ≡ Some 6
  pub outside : (lone_program (item.Step 1 ∷ item.Ok 0 ∷ [])).unfit ≡ Some 1
  pub resumed_twice : (lone_program (inward_to_six ++ item.Ok 0 ∷ item.Step 7 ∷ item.Resume 0 0 0 ∷ [])).unfit ≡ Some 7
  -- those of other programs are ignored
  pub others : (lone_program (inward_to_six ++ item.Ok 1 ∷ item.Ok 0 ∷ inward_from_seven)).unfit ≡ None

-- A kernel alone that shows an A and halts.

abbrev pub lone_letter : List Item → KernelAlone
lone_letter items = kernel_alone (kernel_of 1 (0 ∷ []) letter_words) items

abbrev pub four_steps : List Item
four_steps = item.Step 1 ∷ item.Step 2 ∷ item.Step 3 ∷ item.Step 4 ∷ []

-- Its record fits. A step is made when its end has been read. A step after the one that halted is unfit, and the halted
-- one is named. So are a Put in a step of the kernel, a Leave there, and a Cipher of a frame that does not exist.
pub record LetterAlone : Type 0 where
  pub made : lone_letter letter.items ≡ record {
    kernel = record {
      harts = letter.harts;
      ram = page_with letter_words ∷ replicate 63 zero_page;
      disk = [];
      console = 65 ∷ [];
      marks = None ∷ [];
    };
    steps = 4;
    stage = Between;
    halted = true;
    unfit = None;
  }
  pub not_yet : (lone_letter (item.Step 1 ∷ item.Step 2 ∷ [])).kernel.console ≡ []
  pub behind_halt : (lone_letter (four_steps ++ item.Step 5 ∷ [])).unfit ≡ Some 4
  pub forged_put : (lone_letter (item.Step 1 ∷ item.Put 0x80000000 4 0 ∷ [])).unfit ≡ Some 1
  pub forged_leave : (lone_letter (item.Step 1 ∷ item.Leave shown_nine ∷ [])).unfit ≡ Some 1
  pub forged_frame : (lone_letter (item.Cipher 64 zero_page ∷ [])).unfit ≡ Some 0
